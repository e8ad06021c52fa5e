-- Bytes that separate fields and lines stand in no number, no net's name and no cell's name.
use Rattle.base.specs.{ℕ, zero, suc, ◌+◌, ◌/◌, ◌%◌, ◌≤◌, ◌<◌, arith, ◌≡◌, ⊎_elim, false, ◌&&◌, ◌||◌, List, [], ◌∷◌, ◌++◌, map, reverse}
use Rattle.base.specs.{reverse-cons, T, eqb, leb, leb→le, ltb, lit<, length, and_yes, or_yes, eqb_yes, no_eqb}
use Rattle.model.specs.{all, each, digits, decimal, between, is_letter, is_name_byte, is_name, negated, var_of, Net, of_phase, of_pair, net_name}
use Rattle.model.specs.{label, out_name}
use Rattle.theory_graph.proofs.{is_false, by_bool}

-- the byte s is not in the list
abbrev pub Free : ℕ → List ℕ → Type 0
Free s [] = Unit {0}
Free s (b ∷ bs) = (eqb b s ≡ false) × Free s bs

pub above : (s b : ℕ) → s < b → eqb b s ≡ false
above s b h = is_false (eqb b s) (no_eqb (let d : ¬ (b ≡ s) = λ e. omega arith in d))

pub free_append : (s : ℕ) (xs ys : List ℕ) → Free s xs → Free s ys → Free s (xs ++ ys)
free_append s [] ys a b = b
free_append s (x ∷ xs) ys a b = (a.0, free_append s xs ys a.1 b)

digits-free : (s fuel n : ℕ) (after : List ℕ) → s < 48 → Free s after → Free s (digits fuel n after)
unfolding digits
digits-free s zero n after h f = f
digits-free s (suc fuel) n after h f = by_bool (ltb n 10) (λ e. rw e (above s (48 + n) (omega arith), f))
    (λ q. rw q (digits-free s fuel (n / 10) ((48 + n % 10) ∷ after) h (above s (48 + n % 10) (omega arith), f)))

pub decimal-free : (s n : ℕ) → s < 48 → Free s (decimal n)
unfolding decimal
decimal-free s n h = digits-free s (suc n) n [] h tt

pub net-free : (s l : ℕ) → s < 48 → Free s (net_name l)
unfolding net_name
net-free s l h =
    ((by_bool (negated l) (λ e. cc (above s 109 (omega arith))) (λ q. cc (above s 112 (omega arith)))), decimal-free s (var_of l) h)

pub label-free : (s : ℕ) (n : Net) → s < 48 → Free s (label n)
unfolding label
label-free s (of_phase l) h = net-free s l h
label-free s (of_pair l) h = (above s 115 (omega arith), net-free s l h)

-- no space and no line end stands in the word
abbrev pub Clear : List ℕ → Type 0
Clear w = (s : ℕ) → s < 48 → Free s w

abbrev pub Clears : List (List ℕ) → Type 0
Clears [] = Unit {0}
Clears (w ∷ ws) = Clear w × Clears ws

pub clears_map : {A : Type 0} (f : A → List ℕ) → ((x : A) → Clear (f x)) → (xs : List A) → Clears (map f xs)
clears_map f h [] = tt
clears_map f h (x ∷ xs) = (h x, clears_map f h xs)

pub spaced-free : (s : ℕ) → s < 48 → eqb 32 s ≡ false → (ws : List (List ℕ)) → Clears ws → Free s (each (λ (n : List ℕ). 32 ∷ n) ws)
unfolding each
spaced-free s h e [] c = tt
spaced-free s h e (w ∷ ws) c = (e, free_append s w (each (λ (n : List ℕ). 32 ∷ n) ws) (c.0 s h) (spaced-free s h e ws c.1))

pub out_clear : (k : ℕ) → Clear (out_name k)
unfolding out_name
out_clear k s h = (above s 111 (omega arith), decimal-free s k h)

pub free-reverse : (s : ℕ) (xs : List ℕ) → Free s xs → Free s (reverse xs)
free-reverse s [] f = tt
free-reverse s (x ∷ xs) f = rw reverse-cons (free_append s (reverse xs) (x ∷ []) (free-reverse s xs f.1) (f.0, tt))

-- ---- a cell's name

-- a name as a line can hold it: not empty, no space, no line end
pub data Plain : List ℕ → Type 0 where
  plain : {b : ℕ} {w : List ℕ} → Free 32 (b ∷ w) → Free 10 (b ∷ w) → Plain (b ∷ w)

at_least : (low high b : ℕ) → T (between low high b) → low ≤ b
unfolding between
at_least low high b t = leb→le low b (and_yes (leb low b) (leb b high) t).0

letter-high : (b : ℕ) → T (is_letter b) → 48 ≤ b
unfolding is_letter
letter-high b t = ⊎_elim (λ h. omega (arith, at_least 65 90 b h)) (λ q. omega (arith, at_least 97 122 b q))
    (or_yes (between 65 90 b) (between 97 122 b) t)

byte_high : (b : ℕ) → T (is_name_byte b) → 48 ≤ b
unfolding is_name_byte
byte_high b t = ⊎_elim (letter-high b)
    (λ q. ⊎_elim (at_least 48 57 b) (λ e. let e : b ≡ 95 = eqb_yes e in omega arith) (or_yes (between 48 57 b) (eqb b 95) q))
    (or_yes (is_letter b) (between 48 57 b || eqb b 95) t)

pub bytes-free : (s : ℕ) (bs : List ℕ) → s < 48 → T (all is_name_byte bs) → Free s bs
unfolding all
bytes-free s [] h t = tt
bytes-free s (b ∷ bs) h t =
    let p = and_yes (is_name_byte b) (all is_name_byte bs) t in (above s b (omega (arith, byte_high b p.0)), bytes-free s bs h p.1)

pub name_clear : (w : List ℕ) → T (is_name w) → Clear w
unfolding is_name is_name_byte all
name_clear [] t s h = absurd t
name_clear (b ∷ bs) t s h =
    let p = and_yes (is_letter b) (all is_name_byte bs && leb (length bs) 7) t in
    let q = and_yes (all is_name_byte bs) (leb (length bs) 7) p.1 in
    bytes-free s (b ∷ bs) h (by_bool (is_letter b) (λ e. rw e q.0) (λ r. rw r (absurd (rw r at p.0))))

pub name-plain : (w : List ℕ) → T (is_name w) → Plain w
unfolding is_name
name-plain [] t = absurd t
name-plain (b ∷ bs) t =
    let p = and_yes (is_letter b) (all is_name_byte bs && leb (length bs) 7) t in
    let q = and_yes (all is_name_byte bs) (leb (length bs) 7) p.1 in
    plain (above 32 b (omega (arith, letter-high b p.0)), bytes-free 32 bs (lit< tt) q.0)
    (above 10 b (omega (arith, letter-high b p.0)), bytes-free 10 bs (lit< tt) q.0)

-- "A name is 1 to 8 letters, digits or underscores"
pub name-short : (w : List ℕ) → T (is_name w) → length w ≤ 8
unfolding is_name
name-short [] t = absurd t
name-short (b ∷ bs) t =
    let q : length bs ≤ 7 = leb→le (length bs) 7 (and_yes (all is_name_byte bs) (leb (length bs) 7) (and_yes (is_letter b) (all is_name_byte bs && leb (length bs) 7) t).1).1 in omega arith
