-- Names, pins' names, blanks and the bytes of words: each test passes exactly where the bytes are so.
use Rattle.base.specs.{ℕ, ◌≡◌, sym, subst, inl, inr, ⊎_elim, not, ◌&&◌, List, [], ◌∷◌, T, eqb, T_not, not_T, and_yes, yes_and, or_yes}
use Rattle.base.specs.{eqb_yes, yes_eqb}
use Rattle.model.specs.{all, same, is_name_byte, is_blank, is_word_byte, is_word, is_empty, is_pin, const0, const1}
use Rattle.theory_graph.proofs.{same-eq, same_refl, all_of, all_in}
use Rattle.theory_refusals.proofs.{byte_form, byte_back, yes_or}
use Rattle.promises.specs.GateForms.{Blank, space, tab, WordByte, run, Named, PinName}

-- ---- bytes

pub blank_form : (b : ℕ) → T (is_blank b) → Blank b
unfolding is_blank
blank_form b t = ⊎_elim (λ h. subst Blank (sym (eqb_yes h)) space) (λ q. subst Blank (sym (eqb_yes q)) tab) (or_yes (eqb b 32) (eqb b 9) t)

pub blank-back : (b : ℕ) → Blank b → T (is_blank b)
unfolding is_blank
blank-back b space = tt
blank-back b tab = tt

pub word_byte_form : (b : ℕ) → T (is_word_byte b) → WordByte b
unfolding is_word_byte
word_byte_form b t = ⊎_elim (λ h. inl (byte_form b h)) (λ q. inr (eqb_yes q)) (or_yes (is_name_byte b) (eqb b 46) t)

pub word_byte_back : (b : ℕ) → WordByte b → T (is_word_byte b)
unfolding is_word_byte
word_byte_back b (inl h) = yes_or (is_name_byte b) (eqb b 46) (inl (byte_back b h))
word_byte_back b (inr h) = yes_or (is_name_byte b) (eqb b 46) (inr (yes_eqb h))

-- ---- names

pub name-word : (w : List ℕ) → T (is_word w) → Named w
unfolding is_word is_empty all
name-word [] t = absurd t
name-word (b ∷ w) t =
    let p = and_yes (is_name_byte b) (all is_name_byte w) t in
    run (byte_form b p.0) (λ x m. byte_form x (all_of is_name_byte w p.1 x m))

pub word-name : (w : List ℕ) → Named w → T (is_word w)
unfolding is_word is_empty all
word-name (b ∷ w) (run h f) = yes_and (is_name_byte b) (all is_name_byte w) (byte_back b h) (all_in is_name_byte w (λ x m. byte_back x (f x m)))
word-name [] x' = elim x' [ ]

other : (w v : List ℕ) → T (not (same w v)) → ¬ (w ≡ v)
other w v t e = T_not (same w v) t (subst (λ (x : List ℕ). T (same w x)) e (same_refl w))

other_back : (w v : List ℕ) → (¬ (w ≡ v)) → T (not (same w v))
other_back w v f = not_T (same w v) (λ t. f (same-eq w v t))

pub pin_form : (p : List ℕ) → T (is_pin p) → PinName p
unfolding is_pin const0 const1
pin_form p t =
    let a = and_yes (is_word p) (not (same p const0) && not (same p const1)) t in
    let b = and_yes (not (same p const0)) (not (same p const1)) a.1 in
    record { is_name = name-word p a.0; not_zero = other p const0 b.0; not_one = other p const1 b.1 }

pub pin-back : (p : List ℕ) → PinName p → T (is_pin p)
unfolding is_pin const0 const1
pin-back p n = yes_and (is_word p) (not (same p const0) && not (same p const1)) (word-name p n.is_name)
    (yes_and (not (same p const0)) (not (same p const1)) (other_back p const0 n.not_zero) (other_back p const1 n.not_one))
