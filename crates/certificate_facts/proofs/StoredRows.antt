-- A row read from the words that hold it, and written there.
use Rattle.base.specs.{Some, None, ℕ, zero, suc, ◌+◌, ◌*◌, ◌≤◌, ◌<◌, arith, suc-add, ◌≡◌, refl, ◌∙◌, ap, Bool, List, [], ◌∷◌, length, get_or, set, take, ltb, length-take-le, get_or-take, lt-ltb, le-ltb}
use Rattle.model.specs.{only}
use Rattle.certificate_model.specs.{at, no_row}
use Rattle.certificate_model.specs.declared.Row.{Row}
use Rattle.certificate_facts.specs.{rows_in}

abbrev row_at : List ℕ → ℕ → Row
row_at ws k = record { a = get_or ws k 0; b = get_or ws (k + 1) 0; c = get_or ws (k + 2) 0; d = get_or ws (k + 3) 0 }

-- one row further on
shifted : (a b c d : ℕ) (ws : List ℕ) (i : ℕ) → row_at (a ∷ b ∷ c ∷ d ∷ ws) (4 * suc i) ≡ row_at ws (4 * i)
shifted a b c d ws i =
    let e : 4 * suc i ≡ suc (suc (suc (suc (4 * i)))) = omega arith in
    ap (row_at (a ∷ b ∷ c ∷ d ∷ ws)) e ∙ simp suc-add

pub read : (ws : List ℕ) (i : ℕ) → 4 * i + 4 ≤ length ws → row_at ws (4 * i) ≡ get_or (rows_in ws) i no_row
unfolding rows_in
read [] i h = absurd (let q : 4 * i + 4 ≤ 0 = h in omega arith)
read (a ∷ []) i h = absurd (let q : 4 * i + 4 ≤ 1 = h in omega arith)
read (a ∷ b ∷ []) i h = absurd (let q : 4 * i + 4 ≤ 2 = h in omega arith)
read (a ∷ b ∷ c ∷ []) i h = absurd (let q : 4 * i + 4 ≤ 3 = h in omega arith)
read (a ∷ b ∷ c ∷ d ∷ ws) zero h = refl
read (a ∷ b ∷ c ∷ d ∷ ws) (suc i) h = shifted a b c d ws i ∙ read ws i (let q : 4 * suc i + 4 ≤ suc (suc (suc (suc (length ws)))) = h in omega arith)

abbrev put : List ℕ → ℕ → Row → List ℕ
put ws k x = set (set (set (set ws k x.a) (k + 1) x.b) (k + 2) x.c) (k + 3) x.d

pub written : (ws : List ℕ) (i : ℕ) (x : Row) → 4 * i + 4 ≤ length ws → rows_in (put ws (4 * i) x) ≡ set (rows_in ws) i x
unfolding rows_in
written [] i x h = absurd (let q : 4 * i + 4 ≤ 0 = h in omega arith)
written (a ∷ []) i x h = absurd (let q : 4 * i + 4 ≤ 1 = h in omega arith)
written (a ∷ b ∷ []) i x h = absurd (let q : 4 * i + 4 ≤ 2 = h in omega arith)
written (a ∷ b ∷ c ∷ []) i x h = absurd (let q : 4 * i + 4 ≤ 3 = h in omega arith)
written (a ∷ b ∷ c ∷ d ∷ ws) zero x h = refl
written (a ∷ b ∷ c ∷ d ∷ ws) (suc i) x h =
    let e : 4 * suc i ≡ suc (suc (suc (suc (4 * i)))) = omega arith in
    ap (λ (k : ℕ). rows_in (put (a ∷ b ∷ c ∷ d ∷ ws) k x)) e ∙ simp suc-add
    (ap (λ (rs : List Row). record { a = a; b = b; c = c; d = d } ∷ rs) (written ws i x (let q : 4 * suc i + 4 ≤ suc (suc (suc (suc (length ws)))) = h in omega arith)))

-- as many rows as four words go into
pub long : (ws : List ℕ) (n : ℕ) → 4 * n ≤ length ws → n ≤ length (rows_in ws)
unfolding rows_in
long ws zero h = omega arith
long [] (suc n) h = absurd (let q : 4 * suc n ≤ 0 = h in omega arith)
long (a ∷ []) (suc n) h = absurd (let q : 4 * suc n ≤ 1 = h in omega arith)
long (a ∷ b ∷ []) (suc n) h = absurd (let q : 4 * suc n ≤ 2 = h in omega arith)
long (a ∷ b ∷ c ∷ []) (suc n) h = absurd (let q : 4 * suc n ≤ 3 = h in omega arith)
long (a ∷ b ∷ c ∷ d ∷ ws) (suc n) h =
    let r : n ≤ length (rows_in ws) = long ws n (let q : 4 * suc n ≤ suc (suc (suc (suc (length ws)))) = h in omega arith) in omega arith

-- a look-up among the first rows
pub find_at : (ws : List ℕ) (n i : ℕ) → 4 * n ≤ length ws → i < n → at (take n (rows_in ws)) i ≡ Some (get_or (rows_in ws) i no_row)
unfolding at only
find_at ws n i h l =
    let k : length (take n (rows_in ws)) ≡ n = length-take-le n (rows_in ws) (long ws n h) in
    let e : get_or (take n (rows_in ws)) i no_row ≡ get_or (rows_in ws) i no_row = get_or-take n (rows_in ws) i no_row l in
    ap (λ (b : Bool). only b (get_or (take n (rows_in ws)) i no_row)) (ap (ltb i) k ∙ lt-ltb i n l) ∙ ap (λ (x : Row). Some x) e

pub find_none : (ws : List ℕ) (n i : ℕ) → 4 * n ≤ length ws → n ≤ i → at (take n (rows_in ws)) i ≡ None
unfolding at only
find_none ws n i h l =
    let k : length (take n (rows_in ws)) ≡ n = length-take-le n (rows_in ws) (long ws n h) in
    ap (λ (b : Bool). only b (get_or (take n (rows_in ws)) i no_row)) (ap (ltb i) k ∙ le-ltb i n l)
