-- Which cells join, and the numbers of pairs one after the other.
--     id_one, id_none     a pair's number is written, or there is none
--     each_next, each_none    the lists of the places from j on
--     ids_are, id_back    the numbers are those of the pairs of the definition, each of which its number has
use Rattle.base.specs.{ℕ, suc, ◌+◌, ◌-◌, ◌<◌, ◌≤◌, ◌≡◌, refl, sym, ap, ap₂, subst, ◌∙◌, Bool, true, false, cond, ◌&&◌, List, [], ◌∷◌, ◌++◌}
use Rattle.base.specs.{map, add-one, arith, leb, length, take, get_or, get_or-take, le-leb, lt-leb}
use Rattle.model.specs.{from, below, keep, each, no_cell, cell_at, cells_of, Pair, joins, pairs_of}
use Rattle.model.specs.declared.Cell.{Cell}
use Rattle.model.specs.declared.Library.{Library}
use Rattle.cells_pairs.specs.{id_of, id_of_pair, pair_of_id, id_for, inner_ids, pin_ids, root_ids, pair_ids, Joinable}

pub joins_pinless : (root inner : Cell) → inner.pins < 1 → false ≡ joins root inner
unfolding joins
joins_pinless root inner h = sym (ap (λ (b : Bool). b && leb (root.pins + inner.pins) 5) (lt-leb 1 inner.pins h))

pub joins_pinned : (root inner : Cell) → 1 ≤ inner.pins → leb (root.pins + inner.pins) 5 ≡ joins root inner
unfolding joins
joins_pinned root inner h = sym (ap (λ (b : Bool). b && leb (root.pins + inner.pins) 5) (le-leb 1 inner.pins h))

pub id_one : (root inner : Cell) (k : ℕ) → true ≡ joins root inner → id_for root inner k ≡ k ∷ []
unfolding id_for
id_one root inner k e = ap (λ (b : Bool). cond b (k ∷ []) []) (sym e)

pub id_none : (root inner : Cell) (k : ℕ) → false ≡ joins root inner → id_for root inner k ≡ []
unfolding id_for
id_none root inner k e = ap (λ (b : Bool). cond b (k ∷ []) []) (sym e)

pub each_next : (f : ℕ → List ℕ) (j n : ℕ) → j < n → each f (from j (n - j)) ≡ f j ++ each f (from (j + 1) (n - (j + 1)))
unfolding from each
each_next f j n h =
    let e : n - j ≡ suc (n - (j + 1)) = omega arith in
    ap (λ (m : ℕ). each f (from j m)) e ∙ ap (λ (i : ℕ). f j ++ each f (from i (n - (j + 1)))) (sym (add-one j))

pub each_begin : (f : ℕ → List ℕ) (n : ℕ) → each f (below n) ≡ each f (from 0 (n - 0))
unfolding below
each_begin f n = let e : n ≡ n - 0 = omega arith in ap (λ (m : ℕ). each f (from 0 m)) e

pub each_none : (f : ℕ → List ℕ) (j n : ℕ) → n ≤ j → each f (from j (n - j)) ≡ []
unfolding from each
each_none f j n h = let e : n - j ≡ 0 = omega arith in ap (λ (m : ℕ). each f (from j m)) e

-- ---- a library's

module _ (l : Library) (ok : Joinable l) where
  -- a listed cell as it stands by value
  pub listed-is : (j : ℕ) → j < l.n → cell_at (take l.n l.cells) j ≡ get_or l.cells j no_cell
  unfolding cell_at
  listed-is j h = get_or-take l.n l.cells j no_cell h

  pub listed-pins : (j : ℕ) → j < l.n → (get_or l.cells j no_cell).pins ≤ 4
  unfolding cells_of
  listed-pins j h = subst (λ (c : Cell). c.pins ≤ 4) (listed-is j h) (ok.pins j)

  pub inner_begin : (i p : ℕ) → inner_ids (take l.n l.cells) i p (below (length (take l.n l.cells))) ≡ inner_ids (take l.n l.cells) i p (from 0 (l.n - 0))
  unfolding cells_of below
  inner_begin i p = let e : length (take l.n l.cells) ≡ l.n - 0 = omega (arith, ok.whole) in ap (λ (m : ℕ). inner_ids (take l.n l.cells) i p (from 0 m)) e

  pub inner-next : (i p j : ℕ) → i < l.n → j < l.n
      → inner_ids (take l.n l.cells) i p (from j (l.n - j))
      ≡ id_for (get_or l.cells i no_cell) (get_or l.cells j no_cell) (id_of i p j) ++ inner_ids (take l.n l.cells) i p (from (j + 1) (l.n - (j + 1)))
  unfolding inner_ids
  inner-next i p j hi hj =
      each_next (λ (k : ℕ). id_for (cell_at (take l.n l.cells) i) (cell_at (take l.n l.cells) k) (id_of i p k)) j l.n hj
      ∙ (λ t. id_for (listed-is i hi t) (listed-is j hj t) (id_of i p j) ++ inner_ids (take l.n l.cells) i p (from (j + 1) (l.n - (j + 1))))

  pub inner-end : (i p j : ℕ) → l.n ≤ j → inner_ids (take l.n l.cells) i p (from j (l.n - j)) ≡ []
  unfolding inner_ids
  inner-end i p j h = each_none (λ (k : ℕ). id_for (cell_at (take l.n l.cells) i) (cell_at (take l.n l.cells) k) (id_of i p k)) j l.n h

  pub roots_begin : pair_ids (take l.n l.cells) ≡ root_ids (take l.n l.cells) (from 0 (l.n - 0))
  unfolding pair_ids below cells_of
  roots_begin = let e : length (take l.n l.cells) ≡ l.n - 0 = omega (arith, ok.whole) in ap (λ (m : ℕ). root_ids (take l.n l.cells) (from 0 m)) e

  pub roots_next : (i : ℕ) → i < l.n
      → root_ids (take l.n l.cells) (from i (l.n - i))
      ≡ pin_ids (take l.n l.cells) i (below (get_or l.cells i no_cell).pins) ++ root_ids (take l.n l.cells) (from (i + 1) (l.n - (i + 1)))
  unfolding root_ids
  roots_next i h =
      each_next (λ (k : ℕ). pin_ids (take l.n l.cells) k (below (cell_at (take l.n l.cells) k).pins)) i l.n h
      ∙ (λ t. pin_ids (take l.n l.cells) i (below (listed-is i h t).pins) ++ root_ids (take l.n l.cells) (from (i + 1) (l.n - (i + 1))))

  pub roots_end : (i : ℕ) → l.n ≤ i → root_ids (take l.n l.cells) (from i (l.n - i)) ≡ []
  unfolding root_ids
  roots_end i h = each_none (λ (k : ℕ). pin_ids (take l.n l.cells) k (below (cell_at (take l.n l.cells) k).pins)) i l.n h

-- ---- that these are the pairs of the definition

map-append : {A B : Type 0} (f : A → B) (xs ys : List A) → map f (xs ++ ys) ≡ map f xs ++ map f ys
map-append f [] ys = refl
map-append f (x ∷ xs) ys = ap (λ (zs : List _). f x ∷ zs) (map-append f xs ys)

map_each : {A B C : Type 0} (f : B → C) (g : A → List B) (xs : List A) → map f (each g xs) ≡ each (λ (x : A). map f (g x)) xs
unfolding each
map_each f g [] = refl
map_each f g (x ∷ xs) = map-append f (g x) (each g xs) ∙ ap (λ (zs : List _). map f (g x) ++ zs) (map_each f g xs)

each_same : {A B : Type 0} (f g : A → List B) → ((x : A) → f x ≡ g x) → (xs : List A) → each f xs ≡ each g xs
unfolding each
each_same f g h [] = refl
each_same f g h (x ∷ xs) = ap₂ (λ (us vs : List _). us ++ vs) (h x) (each_same f g h xs)

kept-ids : (t : ℕ → Bool) (r : ℕ → Pair) (f : Pair → ℕ) (js : List ℕ) → map f (map r (keep t js)) ≡ each (λ (j : ℕ). cond (t j) (f (r j) ∷ []) []) js
unfolding keep each
kept-ids t r f [] = refl
kept-ids t r f (j ∷ js) = go (t j) (kept-ids t r f js)
  where
    go : (b : Bool) → map f (map r (keep t js)) ≡ each (λ (k : ℕ). cond (t k) (f (r k) ∷ []) []) js
        → map f (map r (cond b (j ∷ keep t js) (keep t js))) ≡ cond b (f (r j) ∷ []) [] ++ each (λ (k : ℕ). cond (t k) (f (r k) ∷ []) []) js
    go true e = ap (λ (zs : List ℕ). f (r j) ∷ zs) e
    go false e = e

pub ids_are : (cells : List Cell) → map id_of_pair (pairs_of cells) ≡ pair_ids cells
unfolding pairs_of pair_ids root_ids pin_ids inner_ids id_for
ids_are cells =
    map_each id_of_pair (λ (i : ℕ). each (λ (p : ℕ). map (λ (j : ℕ). record { root = i; pin = p; inner = j }) (keep (λ (j : ℕ). joins (cell_at cells i) (cell_at cells j)) (below (length cells)))) (below (cell_at cells i).pins)) (below (length cells))
    ∙ each_same _ _ (λ i.
    map_each id_of_pair (λ (p : ℕ). map (λ (j : ℕ). record { root = i; pin = p; inner = j }) (keep (λ (j : ℕ). joins (cell_at cells i) (cell_at cells j)) (below (length cells)))) (below (cell_at cells i).pins)
    ∙ each_same _ _ (λ p. kept-ids (λ (j : ℕ). joins (cell_at cells i) (cell_at cells j)) (λ (j : ℕ). record { root = i; pin = p; inner = j }) id_of_pair (below (length cells)))
    (below (cell_at cells i).pins)) (below (length cells))

pub id_back : (r p i : ℕ) → p < 4 → i < 32 → ((pair_of_id (id_of r p i)).root ≡ r) × ((pair_of_id (id_of r p i)).pin ≡ p) × ((pair_of_id (id_of r p i)).inner ≡ i)
id_back r p i hp hi = (omega arith, omega arith, omega arith)
