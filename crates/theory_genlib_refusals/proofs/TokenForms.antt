-- A line's words and signs: `tokens` finds those that the bytes spell, and the bytes spell no others.
use Rattle.base.specs.{ℕ, ◌≡◌, refl, sym, ◌∙◌, ap, subst, ◌↔◌, Bool, not, ◌&&◌, List, [], ◌∷◌, ◌++◌, Memᴰ, Memᴰ-head}
use Rattle.base.specs.{Memᴰ-tail, Memᴰ-not-nil, T, T_not, not_T}
use Rattle.model.specs.{onto, is_blank, is_word_byte, starts_word, token_prepended, tokens}
use Rattle.theory_graph.proofs.{is_true, is_false, by_member}
use Rattle.theory_refusals.proofs.{on}
use Rattle.promises.specs.GateForms.{Blank, space, tab, WordByte, run, Stops, Spelled, none, blank, sign, word}
use Rattle.theory_genlib_refusals.proofs.WordForms.{blank_form, blank-back, word_byte_form, word_byte_back}

-- no blank is a byte of a word
pub blank-apart : {b : ℕ} → Blank b → T (not (is_word_byte b))
unfolding is_word_byte
blank-apart space = tt
blank-apart tab = tt

-- ---- what the bytes spell is found

-- a byte in front of tokens, by its kind
tokens-blank : (b : ℕ) (s : List ℕ) → T (is_blank b) → tokens (b ∷ s) ≡ tokens s
unfolding tokens
tokens-blank b s t = ap (λ (x : Bool). token_prepended x (is_word_byte b && starts_word s) b (tokens s)) (is_true (is_blank b) t)

tokens-join : (b : ℕ) (s : List ℕ) → T (is_word_byte b) → T (not (is_blank b)) → T (starts_word s) → tokens (b ∷ s) ≡ onto b (tokens s)
unfolding tokens
tokens-join b s w n t = cc (is_false (is_blank b) n, is_true (is_word_byte b) w, is_true (starts_word s) t)

tokens-last : (b : ℕ) (s : List ℕ) → T (is_word_byte b) → T (not (is_blank b)) → T (not (starts_word s)) → tokens (b ∷ s) ≡ (b ∷ []) ∷ tokens s
unfolding tokens
tokens-last b s w n t = cc (is_false (is_blank b) n, is_true (is_word_byte b) w, is_false (starts_word s) t)

tokens-sign : (b : ℕ) (s : List ℕ) → T (not (is_word_byte b)) → T (not (is_blank b)) → tokens (b ∷ s) ≡ (b ∷ []) ∷ tokens s
unfolding tokens
tokens-sign b s w n = cc (is_false (is_blank b) n, is_false (is_word_byte b) w)

not-blank : (b : ℕ) → WordByte b → T (not (is_blank b))
not-blank b w = not_T (is_blank b) (λ t. T_not (is_word_byte b) (blank-apart (blank_form b t)) (word_byte_back b w))

stops-back : (s : List ℕ) → Stops WordByte s → T (not (starts_word s))
unfolding starts_word
stops-back [] h = tt
stops-back (b ∷ s) h = not_T (is_word_byte b) (λ t. h (word_byte_form b t))

starts : (b : ℕ) (s : List ℕ) → WordByte b → T (starts_word (b ∷ s))
unfolding starts_word
starts b s w = word_byte_back b w

tokens-word : (b : ℕ) (w s : List ℕ) → WordByte b → ((x : ℕ) → Memᴰ x w → WordByte x) → Stops WordByte s → tokens ((b ∷ w) ++ s) ≡ (b ∷ w) ∷ tokens s
unfolding onto
tokens-word b [] s h f k = tokens-last b s (word_byte_back b h) (not-blank b h) (stops-back s k)
tokens-word b (c ∷ w) s h f k = cc (
  tokens-join b ((c ∷ w) ++ s) (word_byte_back b h) (not-blank b h)
      (starts c (w ++ s) (f c (Memᴰ-head refl))),
  tokens-word c w s (f c (Memᴰ-head refl)) (λ x m. f x (Memᴰ-tail m)) k,
)

pub spelled_back : {s : List ℕ} {ts : List (List ℕ)} → Spelled s ts → tokens s ≡ ts
unfolding tokens
spelled_back none = refl
spelled_back (blank {b} {s} h r) = tokens-blank b s (blank-back b h) ∙ spelled_back r
spelled_back (sign {b} {s} {ts} h k r) =
    tokens-sign b s (not_T (is_word_byte b) (λ t. k (word_byte_form b t))) (not_T (is_blank b) (λ t. h (blank_form b t))) ∙ ap (λ (x : List (List ℕ)). (b ∷ []) ∷ x) (spelled_back r)
spelled_back (word {s = s} (run {b} {w} h f) k r) = tokens-word b w s h f k ∙ ap (λ (x : List (List ℕ)). (b ∷ w) ∷ x) (spelled_back r)

-- ---- what is found is spelled

-- a word's byte in front of a word that stands there
joins : (b : ℕ) → WordByte b → (s : List ℕ) (ts : List (List ℕ)) → T (starts_word s) → Spelled s ts → Spelled (b ∷ s) (onto b ts)
unfolding starts_word onto
joins b w s ts t none = absurd t
joins b w s ts t (blank {b = c} h r) = absurd (T_not (is_word_byte c) (blank-apart h) t)
joins b w s ts t (sign {b = c} h k r) = absurd (k (word_byte_form c t))
joins b w s ts t (word {s = u} (run {b = c} {w = v} h f) k r) = word {w = b ∷ c ∷ v} {s = u} (run w
    (λ x y. by_member y (λ e. subst WordByte (sym e) h) (f x))) k r

stops_form : (s : List ℕ) → T (not (starts_word s)) → Stops WordByte s
unfolding starts_word
stops_form [] t = tt
stops_form (b ∷ s) t = λ w. T_not (is_word_byte b) t (word_byte_back b w)

pub spells : (s : List ℕ) → Spelled s (tokens s)
unfolding tokens
spells [] = none
spells (b ∷ s) = on (is_blank b) (λ t. rw (tokens-blank b s t) (blank (blank_form b t) (spells s))) (λ n. on (is_word_byte b)
    (in_word n (spells s)) (λ x. rw (tokens-sign b s x n)
    (sign (λ h. T_not (is_blank b) n (blank-back b h)) (λ h. T_not (is_word_byte b) x (word_byte_back b h)) (spells s))))
  where
    in_word : T (not (is_blank b)) → Spelled s (tokens s) → T (is_word_byte b) → Spelled (b ∷ s) (tokens (b ∷ s))
    in_word n r w = on (starts_word s) (λ t. subst (Spelled (b ∷ s)) (sym (tokens-join b s w n t)) (joins b (word_byte_form b w) s (tokens s) t r)) last
      where
        last : T (not (starts_word s)) → Spelled (b ∷ s) (tokens (b ∷ s))
        last t = subst (Spelled (b ∷ s)) (sym (tokens-last b s w n t)) (word {w = b ∷ []} {s = s} (run (word_byte_form b w) (λ x m. absurd (Memᴰ-not-nil m))) (stops_form s t) r)

pub tokens_exactly : (s : List ℕ) (ts : List (List ℕ)) → (tokens s ≡ ts) ↔ Spelled s ts
tokens_exactly s ts = ((λ e. subst (Spelled s) e (spells s)), spelled_back)
