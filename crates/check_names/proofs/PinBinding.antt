-- The words of a gate's line bound one by one, and a cell looked up by its name.
use Rattle.base.specs.{ℕ, suc, ◌+◌, ◌-◌, ◌≤◌, ◌<◌, add-one, add-zero, arith, ◌≡◌, refl, sym, ◌∙◌, ap, ap₂, subst, Bool, true, false, cond, ◌&&◌, eqb, eqb-true, eqb-false, length}
use Rattle.base.specs.{Option, None, Some, List, [], ◌∷◌, ◌++◌, map, append_assoc, take, drop, get_or, set, replicate, length-append}
use Rattle.base.specs.{take-append_seam, get_or-append-add, get_or-take, drop-cons, drop-length, length-take-le}
use Rattle.model.specs.{and_then, from, same, name_of, no_cell, cells_of, cell_named, bound_nets}
use Rattle.model.specs.declared.Cell.{Cell}
use Rattle.model.specs.declared.Library.{Library}
use Rattle.theory_graph.proofs.{length-map}
use Rattle.check_names.specs.{code, fields_from, pin_at, letters, nets_of, own_nets}
use Rattle.check_names.specs.declared.Pin.{Pin}
use Rattle.check_names.proofs.PinLetters.{Word, broken, good, word-is}

None≢Some : {A : Type 0} {a : A} → ◌≡◌ {A = Option A} None (Some a) → ⊥
None≢Some e = let z : ◌≡◌ {A = ℕ} 0 1 = cc in omega arith

some_same : {A : Type 0} (a b : A) → ◌≡◌ {A = Option A} (Some a) (Some b) → a ≡ b
some_same a b e = cc

-- ---- the output's word

-- a last word is expected, and none behind it
pub own-none : (l : List ℕ) (at : ℕ) (codes : List ℕ) → pin_at l at 79 ≡ None → own_nets codes (bound_nets (79 ∷ []) (fields_from l at)) ≡ None
own-none l at codes e = go (word-is l at 79 [])
  where
    go : Word l at 79 [] (pin_at l at 79) → own_nets codes (bound_nets (79 ∷ []) (fields_from l at)) ≡ None
    go (broken z n) = ap (own_nets codes) n
    go (good m k is b) = absurd (None≢Some (sym e ∙ is))

module _ (l : List ℕ) (at : ℕ) (codes : List ℕ) (p : Pin) (e : pin_at l at 79 ≡ Some p) where
  pub own-more : (w : List ℕ) (ws : List (List ℕ)) → fields_from l p.next ≡ w ∷ ws → own_nets codes (bound_nets (79 ∷ []) (fields_from l at)) ≡ None
  unfolding bound_nets and_then
  own-more w ws f = go (word-is l at 79 [])
    where
      go : Word l at 79 [] (pin_at l at 79) → own_nets codes (bound_nets (79 ∷ []) (fields_from l at)) ≡ None
      go (broken z n) = absurd (None≢Some (sym z ∙ e))
      go (good m k is b) =
          let q : p ≡ record { code = code m; next = k } = some_same p _ (sym e ∙ is) in
          ap (own_nets codes) (b ∙ ap (λ (xs : List (List ℕ)). and_then (bound_nets [] xs) (λ ns. Some (m ∷ ns))) (sym (ap (λ (x : Pin). fields_from l x.next) q) ∙ f))

  pub own-last : fields_from l p.next ≡ [] → own_nets codes (bound_nets (79 ∷ []) (fields_from l at)) ≡ Some (record { codes = codes; net = p.code })
  unfolding bound_nets and_then
  own-last f = go (word-is l at 79 [])
    where
      go : Word l at 79 [] (pin_at l at 79) → own_nets codes (bound_nets (79 ∷ []) (fields_from l at)) ≡ Some (record { codes = codes; net = p.code })
      go (broken z n) = absurd (None≢Some (sym z ∙ e))
      go (good m k is b) =
          let q : p ≡ record { code = code m; next = k } = some_same p _ (sym e ∙ is) in
          ap (own_nets codes) (b ∙ ap (λ (xs : List (List ℕ)). and_then (bound_nets [] xs) (λ ns. Some (m ∷ ns))) (sym (ap (λ (x : Pin). fields_from l x.next) q) ∙ f))
          ∙ ap (λ (x : Pin). Some (record { codes = codes; net = x.code })) (sym q)

-- ---- the pins' words

-- so many words are bound: their numbers, zeros behind them, and the words that are still expected
pub record Part (l : List ℕ) (first n at j : ℕ) (codes : List ℕ) : Type 0 where
  pub done : List (List ℕ)
  pub long : length done ≡ j
  pub numbers : codes ≡ map code done ++ replicate (4 - j) 0
  pub expected : bound_nets (letters 0 n) (fields_from l first) ≡ and_then (bound_nets (letters j (n - j)) (fields_from l at)) (λ ns. Some (done ++ ns))

same-again : (o : Option (List (List ℕ))) → o ≡ and_then o (λ ns. Some ns)
unfolding and_then
same-again None = refl
same-again (Some ns) = refl

letters-next : (j k : ℕ) → letters j (suc k) ≡ (65 + j) ∷ letters (suc j) k
unfolding letters from
letters-next j k = refl

set_at : (xs ys : List ℕ) (y v : ℕ) → set (xs ++ (y ∷ ys)) (length xs) v ≡ xs ++ (v ∷ ys)
set_at [] ys y v = refl
set_at (x ∷ xs) ys y v = ap (λ (zs : List ℕ). x ∷ zs) (set_at xs ys y v)

map_last : (done : List (List ℕ)) (m : List ℕ) → map code (done ++ (m ∷ [])) ≡ map code done ++ (code m ∷ [])
map_last [] m = refl
map_last (d ∷ done) m = ap (λ (xs : List ℕ). code d ∷ xs) (map_last done m)

module _ (l : List ℕ) (first n : ℕ) where
  pub part-start : (codes : List ℕ) → codes ≡ replicate 4 0 → Part l first n first 0 codes
  part-start codes e = record {
    done = [];
    long = refl;
    numbers = e;
    expected = same-again (bound_nets (letters 0 n) (fields_from l first)) ∙ ap (λ (k : ℕ). and_then (bound_nets (letters 0 k) (fields_from l first)) (λ ns. Some ns)) (let z : n ≡ n - 0 = omega arith in z);
  }

  module _ (at j : ℕ) (codes : List ℕ) (part : Part l first n at j codes) (here : j < n) where
    left : n - j ≡ suc (n - (j + 1))
    left = omega arith

    expected_now : bound_nets (letters 0 n) (fields_from l first) ≡ and_then (bound_nets ((65 + j) ∷ letters (suc j) (n - (j + 1))) (fields_from l at)) (λ ns. Some (part.done ++ ns))
    expected_now = part.expected ∙ ap (λ (bs : List ℕ). and_then (bound_nets bs (fields_from l at)) (λ ns. Some (part.done ++ ns))) (ap (letters j) left ∙ letters-next j (n - (j + 1)))

    pub part_none : pin_at l at (65 + j) ≡ None → nets_of n (bound_nets (letters 0 n) (fields_from l first)) ≡ None
    unfolding and_then
    part_none e = go (word-is l at (65 + j) (letters (suc j) (n - (j + 1))))
      where
        go : Word l at (65 + j) (letters (suc j) (n - (j + 1))) (pin_at l at (65 + j)) → nets_of n (bound_nets (letters 0 n) (fields_from l first)) ≡ None
        go (broken z b) = ap (nets_of n) (expected_now ∙ ap (λ (o : Option (List (List ℕ))). and_then o (λ ns. Some (part.done ++ ns))) b)
        go (good m k is b) = absurd (None≢Some (sym e ∙ is))

    pub part_step : n ≤ 4 → (p : Pin) → pin_at l at (65 + j) ≡ Some p → Part l first n p.next (j + 1) (set codes j p.code)
    part_step few p e = go (word-is l at (65 + j) (letters (suc j) (n - (j + 1))))
      where
        go : Word l at (65 + j) (letters (suc j) (n - (j + 1))) (pin_at l at (65 + j)) → Part l first n p.next (j + 1) (set codes j p.code)
        go (broken z b) = absurd (None≢Some (sym z ∙ e))
        go (good m k is b) = subst (λ (x : Pin). Part l first n x.next (j + 1) (set codes j x.code)) (some_same (record { code = code m; next = k }) p (sym is ∙ e)) (record {
          done = part.done ++ (m ∷ []);
          long = length-append part.done (m ∷ []) ∙ ap (λ (k : ℕ). k + 1) part.long;
          numbers = number;
          expected = expected_now
              ∙ ap (λ (o : Option (List (List ℕ))). and_then o (λ ns. Some (part.done ++ ns))) b
              ∙ twice (bound_nets (letters (suc j) (n - (j + 1))) (fields_from l k))
              ∙ ap (λ (i : ℕ). and_then (bound_nets (letters i (n - (j + 1))) (fields_from l k)) (λ ns. Some ((part.done ++ (m ∷ [])) ++ ns))) (sym (add-one j));
        })
          where
            twice : (o : Option (List (List ℕ))) → and_then (and_then o (λ ns. Some (m ∷ ns))) (λ ns. Some (part.done ++ ns)) ≡ and_then o (λ ns. Some ((part.done ++ (m ∷ [])) ++ ns))
            twice None = unfold and_then in refl
            twice (Some ns) = unfold and_then in ap Some (sym (append_assoc part.done (m ∷ []) ns))

            number : set codes j (code m) ≡ map code (part.done ++ (m ∷ [])) ++ replicate (4 - (j + 1)) 0
            number =
                ap₂ (λ (xs : List ℕ) (i : ℕ). set xs i (code m)) (part.numbers ∙ ap (λ (k : ℕ). map code part.done ++ replicate k 0) (let z : 4 - j ≡ suc (4 - (j + 1)) = omega arith in z))
                (sym (length-map code part.done ∙ part.long))
                ∙ set_at (map code part.done) (replicate (4 - (j + 1)) 0) 0 (code m)
                ∙ sym (ap (λ (xs : List ℕ). xs ++ replicate (4 - (j + 1)) 0) (map_last part.done m) ∙ append_assoc (map code part.done) (code m ∷ []) (replicate (4 - (j + 1)) 0))

  pub part_end : (at j : ℕ) (codes : List ℕ) → Part l first n at j codes → j ≡ n → nets_of n (bound_nets (letters 0 n) (fields_from l first)) ≡ own_nets codes (bound_nets (79 ∷ []) (fields_from l at))
  unfolding letters from and_then
  part_end at j codes part e =
      ap (nets_of n) (part.expected ∙ ap (λ (k : ℕ). and_then (bound_nets (letters j k) (fields_from l at)) (λ ns. Some (part.done ++ ns))) (let z : n - j ≡ 0 = omega arith in z))
      ∙ go (bound_nets (79 ∷ []) (fields_from l at))
    where
      is-long : length part.done ≡ n
      is-long = part.long ∙ e

      go : (o : Option (List (List ℕ))) → nets_of n (and_then o (λ ns. Some (part.done ++ ns))) ≡ own_nets codes o
      go None = unfold and_then in refl
      go (Some ns) = unfold and_then in
          ap₂ (λ (xs : List ℕ) (w : List ℕ). Some (record { codes = xs; net = code w }))
          (ap (λ (xs : List (List ℕ)). map code xs ++ replicate (4 - n) 0) (ap (λ (k : ℕ). take k (part.done ++ ns)) (sym is-long) ∙ take-append_seam part.done ns)
          ∙ ap (λ (k : ℕ). map code part.done ++ replicate (4 - k) 0) (sym e) ∙ sym part.numbers)
          (ap (λ (k : ℕ). get_or (part.done ++ ns) k []) (sym is-long ∙ sym (add-zero (length part.done))) ∙ get_or-append-add part.done ns 0 [])

-- ---- a cell by its name

same_swap : (a b : List ℕ) → same a b ≡ same b a
unfolding same
same_swap [] [] = refl
same_swap [] (y ∷ b) = refl
same_swap (x ∷ a) [] = refl
same_swap (x ∷ a) (y ∷ b) = ap₂ (λ (s t : Bool). s && t) (swap x y) (same_swap a b)
  where
    swap : (m n : ℕ) → eqb m n ≡ eqb n m
    swap m n = go (eqb m n) (eqb n m) refl refl
      where
        go : (s t : Bool) → eqb m n ≡ s → eqb n m ≡ t → s ≡ t
        go true true p q = refl
        go false false p q = refl
        go true false p q = absurd (eqb-false n m q (sym (eqb-true m n p)))
        go false true p q = absurd (eqb-false m n p (sym (eqb-true n m q)))

module _ (w : List ℕ) (lib : Library) (i : ℕ) (here : i < lib.n) (few : lib.n ≤ 32) (long : length lib.cells ≡ 32) where
  cells-next : drop i (cells_of lib) ≡ get_or lib.cells i no_cell ∷ drop (i + 1) (cells_of lib)
  unfolding cells_of
  cells-next =
      let n : length (take lib.n lib.cells) ≡ lib.n = length-take-le lib.n lib.cells (omega arith) in
      drop-cons (take lib.n lib.cells) i no_cell (omega arith)
      ∙ ap₂ (λ (x : Cell) (k : ℕ). x ∷ drop k (take lib.n lib.cells)) (get_or-take lib.n lib.cells i no_cell here) (sym (add-one i))

  tested : cell_named (drop i (cells_of lib)) w
      ≡ cond (same w (name_of (get_or lib.cells i no_cell))) (Some (get_or lib.cells i no_cell)) (cell_named (drop (i + 1) (cells_of lib)) w)
  unfolding cell_named
  tested = ap (λ (cs : List Cell). cell_named cs w) cells-next
      ∙ ap (λ (b : Bool). cond b (Some (get_or lib.cells i no_cell)) (cell_named (drop (i + 1) (cells_of lib)) w)) (same_swap (name_of (get_or lib.cells i no_cell)) w)

  pub cell-found : same w (name_of (get_or lib.cells i no_cell)) ≡ true → cell_named (drop i (cells_of lib)) w ≡ Some (get_or lib.cells i no_cell)
  cell-found e = tested ∙ ap (λ (b : Bool). cond b (Some (get_or lib.cells i no_cell)) (cell_named (drop (i + 1) (cells_of lib)) w)) e

  pub cell-next : same w (name_of (get_or lib.cells i no_cell)) ≡ false → cell_named (drop i (cells_of lib)) w ≡ cell_named (drop (i + 1) (cells_of lib)) w
  cell-next e = tested ∙ ap (λ (b : Bool). cond b (Some (get_or lib.cells i no_cell)) (cell_named (drop (i + 1) (cells_of lib)) w)) e

pub cell-end : (w : List ℕ) (lib : Library) (i : ℕ) → i ≡ lib.n → lib.n ≤ length lib.cells → cell_named (drop i (cells_of lib)) w ≡ None
unfolding cells_of cell_named
cell-end w lib i e few =
    ap (λ (k : ℕ). cell_named (drop k (take lib.n lib.cells)) w) (e ∙ sym (length-take-le lib.n lib.cells few))
    ∙ ap (λ (cs : List Cell). cell_named cs w) (drop-length (take lib.n lib.cells))
