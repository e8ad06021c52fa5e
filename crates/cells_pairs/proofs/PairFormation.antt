-- The numbers of all pairs of a library are such as every layer asks for, and the cells that they give are those that a call maps with.
--     with_none, with_all     the cells to map with, without pairs and with them
--     coded_none, coded-all   so many numbers may be handed on
--     numbered-none, numbered-all  each number is that of the pair at its place
--     ids-few               no library has more than 4,096 pairs
use Rattle.base.specs.{ℕ, zero, suc, ◌+◌, ◌*◌, ◌/◌, ◌%◌, ◌<◌, ◌≤◌, ◌≡◌, refl, sym, ap, subst, ◌∙◌, Bool, true, false, cond, List, [], ◌∷◌}
use Rattle.base.specs.{◌++◌, map, append-nil, Memᴰ, Memᴰ-head, Memᴰ-tail, Memᴰ-not-nil, not-suc-le-zero, arith, length}
use Rattle.base.specs.{get_or, length-append}
use Rattle.model.specs.{below, keep, each, cell_at, cells_of, Pair, no_pair, joins, pairs_of, cell_of_pair, with_pairs, cells_for}
use Rattle.model.specs.declared.Cell.{Cell}
use Rattle.model.specs.declared.Library.{Library}
use Rattle.theory_graph.proofs.{map_out, each_out, keep_out, below_out, map-map, map_same, get_or_in, length_from, length-map}
use Rattle.cells_pairs.specs.{id_of, id_of_pair, pair_of_id, id_for, inner_ids, pin_ids, root_ids, pair_ids, cells_by, Joinable}
use Rattle.cells_pairs.specs.{Coded}
use Rattle.cells_pairs.proofs.PairJoins.{ids_are, id_back}

-- ---- one number

-- what a number of the list is of
record Of (cells : List Cell) (k : ℕ) : Type 0 where
  root : ℕ
  pin : ℕ
  inner : ℕ
  has_root : root < length cells
  has_pin : pin < (cell_at cells root).pins
  has_inner : inner < length cells
  joined : joins (cell_at cells root) (cell_at cells inner) ≡ true
  is_id : k ≡ id_of root pin inner

id_of_lem : (root inner : Cell) (c k : ℕ) → Memᴰ k (id_for root inner c) → (joins root inner ≡ true) × (k ≡ c)
unfolding id_for
id_of_lem root inner c k m = go (joins root inner) refl m
  where
    go : (b : Bool) → joins root inner ≡ b → Memᴰ k (cond b (c ∷ []) []) → (joins root inner ≡ true) × (k ≡ c)
    go true e (Memᴰ-head q) = (e, q)
    go true e (Memᴰ-tail i) = absurd (Memᴰ-not-nil i)
    go false e i = absurd (Memᴰ-not-nil i)

listed_of : (cells : List Cell) (k : ℕ) → Memᴰ k (pair_ids cells) → Of cells k
unfolding pair_ids root_ids pin_ids inner_ids
listed_of cells k m =
    let n = length cells in
    let r = each_out (λ (i : ℕ). pin_ids cells i (below (cell_at cells i).pins)) (below n) m in
    let p = each_out (λ (q : ℕ). inner_ids cells r.0 q (below n)) (below (cell_at cells r.0).pins) r.2 in
    let j = each_out (λ (i : ℕ). id_for (cell_at cells r.0) (cell_at cells i) (id_of r.0 p.0 i)) (below n) p.2 in
    let c = id_of_lem (cell_at cells r.0) (cell_at cells j.0) (id_of r.0 p.0 j.0) k j.2 in
    record {
      root = r.0;
      pin = p.0;
      inner = j.0;
      has_root = below_out n r.0 r.1;
      has_pin = below_out (cell_at cells r.0).pins p.0 p.1;
      has_inner = below_out n j.0 j.1;
      joined = c.0;
      is_id = c.1;
    }

get_d_map : (f : Pair → ℕ) (ps : List Pair) (i : ℕ) → i < length ps → get_or (map f ps) i 0 ≡ f (get_or ps i no_pair)
get_d_map f [] i h = absurd (not-suc-le-zero h)
get_d_map f (p ∷ ps) zero h = refl
get_d_map f (p ∷ ps) (suc i) h = get_d_map f ps i (omega arith)

-- ---- how many

length-each : {A : Type 0} (b : ℕ) (f : ℕ → List A) → ((x : ℕ) → length (f x) ≤ b) → (xs : List ℕ) → length (each f xs) ≤ length xs * b
unfolding each
length-each b f h [] = omega arith
length-each b f h (x ∷ xs) = let a = length-append (f x) (each f xs) in let c = h x in let d = length-each b f h xs in omega (arith, a, c, d)

id_one : (root inner : Cell) (c : ℕ) → length (id_for root inner c) ≤ 1
unfolding id_for
id_one root inner c = go (joins root inner)
  where
    go : (b : Bool) → length (cond b (c ∷ []) []) ≤ 1
    go true = omega arith
    go false = omega arith

below_length : (n : ℕ) → length (below n) ≡ n
unfolding below
below_length n = length_from n 0

module _ (l : Library) (ok : Joinable l) where
  cells : List Cell
  cells = cells_of l

  few : length cells ≤ 32
  unfolding cells
  few = omega (arith, ok.whole, ok.few)

  inner-few : (i p : ℕ) → length (inner_ids cells i p (below (length cells))) ≤ 32
  unfolding inner_ids
  inner-few i p =
      let a = length-each 1 (λ (j : ℕ). id_for (cell_at cells i) (cell_at cells j) (id_of i p j)) (λ j. id_one (cell_at cells i) (cell_at cells j) (id_of i p j)) (below (length cells)) in
      let b = below_length (length cells) in
      let c = few in
      omega (arith, a, b, c)

  pin-few : (i : ℕ) → length (pin_ids cells i (below (cell_at cells i).pins)) ≤ 128
  unfolding pin_ids cells
  pin-few i =
      let a = length-each 32 (λ (p : ℕ). inner_ids cells i p (below (length cells))) (inner-few i) (below (cell_at cells i).pins) in
      let b = below_length (cell_at cells i).pins in
      let c = ok.pins i in
      omega (arith, a, b, c)

  pub ids-few : length (pair_ids (cells_of l)) ≤ 4096
  unfolding pair_ids root_ids cells
  ids-few =
      let a = length-each 128 (λ (i : ℕ). pin_ids cells i (below (cell_at cells i).pins)) pin-few (below (length cells)) in
      let b = below_length (length cells) in
      let c = few in
      omega (arith, a, b, c)

  -- ---- what is handed on

  pub coded_none : Coded l []
  coded_none = record {
    joinable = ok;
    few = let f = ok.few in omega (arith, f);
    root = λ i h. absurd (not-suc-le-zero h);
    inner = λ i h. absurd (not-suc-le-zero h);
    pin = λ i h. absurd (not-suc-le-zero h);
    joined = λ i h. absurd (not-suc-le-zero h);
  }

  -- the lines and the pin of a number
  record Parts (k : ℕ) : Type 0 where
    root : k / 128 < l.n
    inner : k % 32 < l.n
    pin : k / 32 % 4 < (cell_at (cells_of l) (k / 128)).pins
    joined : joins (cell_at (cells_of l) (k / 128)) (cell_at (cells_of l) (k % 32)) ≡ true

  parts : (k : ℕ) → Memᴰ k (pair_ids (cells_of l)) → Parts k
  parts k m =
      let o = listed_of (cells_of l) k m in
      let four = ok.pins o.root in
      let p = o.has_pin in
      let i = o.has_inner in
      let r = o.has_root in
      let w = ok.whole in
      let f = ok.few in
      let b = id_back o.root o.pin o.inner (omega (arith, four, p)) (omega (arith, i, w, f)) in
      let is_root : k / 128 ≡ o.root = ap (λ (x : ℕ). x / 128) o.is_id ∙ b.0 in
      let is_pin : k / 32 % 4 ≡ o.pin = ap (λ (x : ℕ). x / 32 % 4) o.is_id ∙ b.1 in
      let is_inner : k % 32 ≡ o.inner = ap (λ (x : ℕ). x % 32) o.is_id ∙ b.2 in
      record {
        root = omega (arith, is_root, r, w);
        inner = omega (arith, is_inner, i, w);
        pin = subst (λ (x : ℕ). k / 32 % 4 < (cell_at (cells_of l) x).pins) (sym is_root) (omega (arith, is_pin, p));
        joined = subst (λ (x : ℕ). joins (cell_at (cells_of l) x) (cell_at (cells_of l) (k % 32)) ≡ true) (sym is_root)
            (subst (λ (x : ℕ). joins (cell_at (cells_of l) o.root) (cell_at (cells_of l) x) ≡ true) (sym is_inner) o.joined);
      }

  pub coded-all : l.n + length (pair_ids (cells_of l)) ≤ 256 → Coded l (pair_ids (cells_of l))
  coded-all h = record {
    joinable = ok;
    few = h;
    root = λ i b. (parts (get_or (pair_ids (cells_of l)) i 0) (get_or_in (pair_ids (cells_of l)) i 0 b)).root;
    inner = λ i b. (parts (get_or (pair_ids (cells_of l)) i 0) (get_or_in (pair_ids (cells_of l)) i 0 b)).inner;
    pin = λ i b. (parts (get_or (pair_ids (cells_of l)) i 0) (get_or_in (pair_ids (cells_of l)) i 0 b)).pin;
    joined = λ i b. (parts (get_or (pair_ids (cells_of l)) i 0) (get_or_in (pair_ids (cells_of l)) i 0 b)).joined;
  }

  -- ---- the cells to map with

  pub with_none : cells_for false (cells_of l) ≡ cells_by (cells_of l) []
  unfolding cells_for cells_by
  with_none = sym (append-nil (cells_of l))

  -- a pair of the definition is the one that its number has
  back : (p : Pair) → Memᴰ p (pairs_of (cells_of l)) → pair_of_id (id_of_pair p) ≡ p
  unfolding pairs_of
  back p m =
      let n = length (cells_of l) in
      let r = each_out _ (below n) m in
      let q = each_out _ (below (cell_at (cells_of l) r.0).pins) r.2 in
      let e = map_out (λ (j : ℕ). record { root = r.0; pin = q.0; inner = j }) (keep (λ (j : ℕ). joins (cell_at (cells_of l) r.0) (cell_at (cells_of l) j)) (below n)) q.2 in
      let k = keep_out (λ (j : ℕ). joins (cell_at (cells_of l) r.0) (cell_at (cells_of l) j)) (below n) e.1 in
      let has_pin = below_out (cell_at (cells_of l) r.0).pins q.0 q.1 in
      let has_inner = below_out n e.0 k.0 in
      let four = ok.pins r.0 in
      let w = ok.whole in
      let f = ok.few in
      let b = id_back r.0 q.0 e.0 (omega (arith, has_pin, four)) (omega (arith, has_inner, w, f)) in
      subst (λ (x : Pair). pair_of_id (id_of_pair x) ≡ x) (sym e.2) (λ i. record { root = b.0 i; pin = b.1 i; inner = b.2 i })

  pub numbered-none : (i : ℕ) → i < 0 → pair_of_id (get_or [] i 0) ≡ get_or (pairs_of (cells_of l)) i no_pair
  numbered-none i h = absurd (not-suc-le-zero h)

  -- each number is that of the pair at its place
  pub numbered-all : (i : ℕ) → i < length (pair_ids (cells_of l)) → pair_of_id (get_or (pair_ids (cells_of l)) i 0) ≡ get_or (pairs_of (cells_of l)) i no_pair
  numbered-all i h =
      let e = ids_are (cells_of l) in
      let b : i < length (pairs_of (cells_of l)) = subst (λ (n : ℕ). i < n) (ap length (sym e) ∙ length-map id_of_pair (pairs_of (cells_of l))) h in
      ap (λ (ks : List ℕ). pair_of_id (get_or ks i 0)) (sym e) ∙ ap pair_of_id (get_d_map id_of_pair (pairs_of (cells_of l)) i b) ∙ back (get_or (pairs_of (cells_of l)) i no_pair) (get_or_in (pairs_of (cells_of l)) i no_pair b)

  pub with_all : cells_for true (cells_of l) ≡ cells_by (cells_of l) (pair_ids (cells_of l))
  unfolding cells_for with_pairs cells_by
  with_all =
      ap (λ (cs : List Cell). cells_of l ++ cs)
      (sym (map_same (λ (p : Pair). cell_of_pair (cells_of l) (pair_of_id (id_of_pair p))) (cell_of_pair (cells_of l)) (pairs_of (cells_of l)) (λ p m. ap (cell_of_pair (cells_of l)) (back p m)))
      ∙ sym (map-map (λ (k : ℕ). cell_of_pair (cells_of l) (pair_of_id k)) id_of_pair (pairs_of (cells_of l)))
      ∙ ap (map (λ (k : ℕ). cell_of_pair (cells_of l) (pair_of_id k))) (ids_are (cells_of l)))
