-- A line's tokens: a sign stands alone, and there are no more tokens than bytes.
use Rattle.base.specs.{ℕ, zero, suc, ◌≤◌, arith, ◌≡◌, refl, sym, ◌∙◌, ap, ◌⊎◌, inl, inr, ⊎_elim, Bool, true, false, ◌&&◌, true≢false, List}
use Rattle.base.specs.{[], ◌∷◌, Memᴰ, Memᴰ-head, Memᴰ-tail, Memᴰ-not-nil, length, drop, eqb-true}
use Rattle.model.specs.{onto, is_blank, is_word_byte, starts_word, token_prepended, tokens, lead, is_sign}
use Rattle.theory_graph.proofs.{by_bool}

-- a token is a word, by its first byte, or one byte
abbrev Token : List ℕ → Type 0
Token t = (is_word_byte (lead t) ≡ true) ⊎ (t ≡ lead t ∷ [])

onto-tokens : (b : ℕ) (ts : List (List ℕ)) → is_word_byte b ≡ true → ((t : List ℕ) → Memᴰ t ts → Token t) → (t : List ℕ) → Memᴰ t (onto b ts) → Token t
unfolding onto lead
onto-tokens b [] w h t (Memᴰ-head e) = inl (ap (λ (x : List ℕ). is_word_byte (lead x)) e ∙ w)
onto-tokens b [] w h t (Memᴰ-tail m) = absurd (Memᴰ-not-nil m)
onto-tokens b (u ∷ us) w h t (Memᴰ-head e) = inl (ap (λ (x : List ℕ). is_word_byte (lead x)) e ∙ w)
onto-tokens b (u ∷ us) w h t (Memᴰ-tail m) = h t (Memᴰ-tail m)

and_first : (a b : Bool) → (a && b) ≡ true → a ≡ true
and_first true b e = refl
and_first false b e = e

tokens_are : (bs : List ℕ) (t : List ℕ) → Memᴰ t (tokens bs) → Token t
unfolding tokens
tokens_are [] t m = absurd (Memᴰ-not-nil m)
tokens_are (b ∷ bs) t m = go (is_blank b) (is_word_byte b && starts_word bs) refl (λ u n. tokens_are bs u n) m
  where
    go : (p q : Bool) → (is_word_byte b && starts_word bs) ≡ q → ((u : List ℕ) → Memᴰ u (tokens bs) → Token u) → Memᴰ t (token_prepended p q b (tokens bs)) → Token t
    go true q e h n = h t n
    go false true e h n = onto-tokens b (tokens bs) (and_first (is_word_byte b) (starts_word bs) e) h t n
    go false false e h (Memᴰ-head x) = unfold lead in inr (x ∙ ap (λ (u : List ℕ). lead u ∷ []) (sym x))
    go false false e h (Memᴰ-tail n) = h t n

-- a token that begins with a byte of no word is that byte
pub sign-alone : (b : ℕ) → is_word_byte b ≡ false → (bs t : List ℕ) → Memᴰ t (tokens bs) → is_sign b t ≡ true → t ≡ b ∷ []
unfolding is_sign
sign-alone b w bs t m s = ⊎_elim (λ e. absurd (true≢false (sym e ∙ ap is_word_byte (eqb-true (lead t) b s) ∙ w)))
    (λ q. q ∙ ap (λ (x : ℕ). x ∷ []) (eqb-true (lead t) b s)) (tokens_are bs t m)

onto-length : (b : ℕ) (ts : List (List ℕ)) → length (onto b ts) ≤ suc (length ts)
unfolding onto
onto-length b [] = omega arith
onto-length b (t ∷ ts) = omega arith

pub tokens-length : (bs : List ℕ) → length (tokens bs) ≤ length bs
unfolding tokens
tokens-length [] = omega arith
tokens-length (b ∷ bs) = by_bool (is_blank b) (λ e. rw e (omega (arith, tokens-length bs))) (λ q. rw q (by_bool
    (is_word_byte b && starts_word bs) (λ p. rw p (omega (arith, tokens-length bs, onto-length b (tokens bs))))
    (λ r. rw r (omega (arith, tokens-length bs)))))

-- what stands behind the first tokens stands among them
pub drop_in : {A : Type 0} (n : ℕ) (xs : List A) (x : A) → Memᴰ x (drop n xs) → Memᴰ x xs
drop_in zero xs x m = m
drop_in (suc n) [] x m = absurd (Memᴰ-not-nil m)
drop_in (suc n) (y ∷ ys) x m = Memᴰ-tail (drop_in n ys x m)
