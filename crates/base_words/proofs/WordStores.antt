-- The laws of `put_at`, with which no proof above has to look into it:
--     length-put                  the length stays
--     get_put                     a word that was stored
--     get_put-below, -above       a word before the place, or past what was stored
--     put-none, put-more          a loop that stores one word a step
--     put_taken                   such a loop that copies
--     put_one                     one store
--     put_append                  words put right behind others
--     put_part                    words written as a slice of the list
use Rattle.base.specs.{◌≡◌, sym, ap, ◌∙◌, List, [], ◌∷◌, ◌++◌, append_assoc, ℕ, suc, ◌+◌, ◌-◌, ◌≤◌, ◌<◌, refl, add-zero, add-one, arith, length}
use Rattle.base.specs.{take, drop, get_or, set, length-append, length-take, length-drop, take-append-drop, get_or-append}
use Rattle.base.specs.{take_at, get_or-append-add, length-take-le, get_or-take, get_or-drop, set_split, drop-cons}
use Rattle.base.specs.{set_at, append_snoc, take-suc, drop-append-add, drop-drop}
use Rattle.base_words.specs.{put_at}

module _ (w : List ℕ) (at : ℕ) (vs : List ℕ) (fits : at + length vs ≤ length w) where
  pub length-put : length (put_at w at vs) ≡ length w
  unfolding put_at
  length-put = simp (length-append, length-take, length-drop) (omega arith)

  pub get_put-below : (i : ℕ) → i < at → get_or (put_at w at vs) i 0 ≡ get_or w i 0
  unfolding put_at
  get_put-below i h =
      let l : i < length (take at w) = simp length-take (omega arith) in
      get_or-append (take at w) (vs ++ drop (at + length vs) w) 0 i l ∙ get_or-take at w i 0 h

  pub get_put : (k : ℕ) → k < length vs → get_or (put_at w at vs) (at + k) 0 ≡ get_or vs k 0
  unfolding put_at
  get_put k h =
      let l : length (take at w) ≡ at = length-take-le at w (omega arith) in let e : at + k ≡ length (take at w) + k = omega arith in
      rw e (get_or-append-add (take at w) (vs ++ drop (at + length vs) w) k 0 ∙ get_or-append vs (drop (at + length vs) w) 0 k h)

  pub get_put-above : (i : ℕ) → at + length vs ≤ i → get_or (put_at w at vs) i 0 ≡ get_or w i 0
  unfolding put_at
  get_put-above i h =
      let e : i ≡ length (take at w ++ vs) + (i - (at + length vs)) = simp (length-append, length-take) (omega arith) in
      let back : at + length vs + (i - (at + length vs)) ≡ i = omega arith in
      ap (λ (l : List ℕ). get_or l i 0) (sym (append_assoc (take at w) vs (drop (at + length vs) w)))
      ∙ ap (λ (j : ℕ). get_or ((take at w ++ vs) ++ drop (at + length vs) w) j 0) e
      ∙ get_or-append-add (take at w ++ vs) (drop (at + length vs) w) (i - (at + length vs)) 0
      ∙ get_or-drop (at + length vs) w (i - (at + length vs)) 0 ∙ ap (λ (j : ℕ). get_or w j 0) back

pub put-none : (w : List ℕ) (at : ℕ) → put_at w at [] ≡ w
unfolding put_at
put-none w at = rw add-zero (take-append-drop at w)

-- a step's store takes vs to vs and one word more
pub put-more : (w : List ℕ) (at : ℕ) (vs : List ℕ) (v : ℕ) → at + length vs < length w → set (put_at w at vs) (at + length vs) v ≡ put_at w at (vs ++ (v ∷ []))
unfolding put_at
put-more w at vs v h =
    let n : ℕ = at + length vs in let l : length (take at w ++ vs) ≡ at + length vs = simp (length-append, length-take) (omega arith) in
    let e : suc (at + length vs) ≡ at + length (vs ++ (v ∷ [])) = simp length-append (omega arith) in
    ap (λ (x : List ℕ). set (take at w ++ (vs ++ x)) n v) (drop-cons w n 0 h)
    ∙ ap (λ (x : List ℕ). set x n v) (sym (append_assoc (take at w) vs (get_or w n 0 ∷ drop (suc n) w)))
    ∙ set_at (take at w ++ vs) (get_or w n 0) (drop (suc n) w) v n l ∙ append_assoc (take at w) vs (v ∷ drop (suc n) w)
    ∙ ap (λ (x : List ℕ). take at w ++ x) (sym (append_snoc vs v (drop (suc n) w)))
    ∙ ap (λ (k : ℕ). take at w ++ ((vs ++ (v ∷ [])) ++ drop k w)) e

pub put_one : (w : List ℕ) (at v : ℕ) → at < length w → set w at v ≡ put_at w at (v ∷ [])
unfolding put_at
put_one w at v h = rw add-one (set_split w at v h)

-- a step of a loop that copies: the first n of vs become the first n + 1
pub put_taken : (w : List ℕ) (at : ℕ) (vs : List ℕ) (n : ℕ) → at + n < length w → n < length vs
    → set (put_at w at (take n vs)) (at + n) (get_or vs n 0) ≡ put_at w at (take (n + 1) vs)
put_taken w at vs n h k =
    let l : length (take n vs) ≡ n = length-take-le n vs (omega arith) in let e : at + n ≡ at + length (take n vs) = omega arith in
    ap (λ (j : ℕ). set (put_at w at (take n vs)) j (get_or vs n 0)) e ∙ put-more w at (take n vs) (get_or vs n 0) (omega arith)
    ∙ ap (put_at w at) (sym (take-suc vs n 0 k) ∙ ap (λ (j : ℕ). take j vs) (sym (add-one n)))

-- words put right behind others that were put are put with them
pub put_append : (w : List ℕ) (at : ℕ) (us vs : List ℕ) → at + length us + length vs ≤ length w
    → put_at (put_at w at us) (at + length us) vs ≡ put_at w at (us ++ vs)
unfolding put_at
put_append w at us vs h =
    let n : ℕ = at + length us in let l : length (take at w ++ us) ≡ n = simp (length-append, length-take) (omega arith) in
    let whole : take at w ++ (us ++ drop n w) ≡ (take at w ++ us) ++ drop n w = sym (append_assoc (take at w) us (drop n w)) in
    let e : n + length vs ≡ length (take at w ++ us) + length vs = omega arith in
    let f : n + length vs ≡ at + length (us ++ vs) = simp length-append (omega arith) in
    ap (λ (x : List ℕ). take n x ++ (vs ++ drop (n + length vs) x)) whole
    ∙ ap (λ (x : List ℕ). x ++ (vs ++ drop (n + length vs) ((take at w ++ us) ++ drop n w))) (take_at (take at w ++ us) (drop n w) n l)
    ∙ ap (λ (x : List ℕ). (take at w ++ us) ++ (vs ++ x))
    (ap (λ (k : ℕ). drop k ((take at w ++ us) ++ drop n w)) e ∙ drop-append-add (take at w ++ us) (drop n w) (length vs) ∙ drop-drop (length vs) n w)
    ∙ append_assoc (take at w) us (vs ++ drop (n + length vs) w)
    ∙ ap (λ (x : List ℕ). take at w ++ x) (sym (append_assoc us vs (drop (n + length vs) w)))
    ∙ ap (λ (k : ℕ). take at w ++ ((us ++ vs) ++ drop k w)) f

-- a slice of w from a on, and so long as vs, with vs written into it
pub put_part : (w : List ℕ) (a k : ℕ) (ys vs : List ℕ) → ys ≡ vs → k ≡ length vs → take a w ++ (ys ++ drop k (drop a w)) ≡ put_at w a vs
unfolding put_at
put_part w a k ys vs same n = rw (same, n, drop-drop (length vs) a w) refl
