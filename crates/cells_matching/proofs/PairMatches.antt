-- The cells to map with, pairs among them.
--     pair-brief          the delays of a pair are the sums of two
--     by_each             what holds of each listed cell and of each pair holds at every number
--     pins_by_lem, matchable_by       a usable library with the numbers of its pairs may be matched
--     pairs-down          the code goes from the highest down
--     pairs_first         the pairs and then the listed cells matched are all matched
--     matches_by            so after `build_pairs` and `build` the match table is that of all of them
--     inverter_by         "The inverter role stays with listed cells"
use Rattle.base.specs.{ℕ, zero, suc, ◌+◌, ◌-◌, ◌/◌, ◌%◌, ◌<◌, ◌≤◌, ◌≡◌, refl, sym, ap, ap₂, subst, ◌∙◌, Bool, true, false, cond, ◌&&◌, List}
use Rattle.base.specs.{[], ◌∷◌, ◌++◌, map, add-zero, arith, eqb, length, take, drop, get_or, drop-append_seam}
use Rattle.model.specs.{no_cell, cell_at, cells_of, is_inverter, join_delays, pair_pins, pair_delays, pair_of, cell_of_pair}
use Rattle.model.specs.declared.Cell.{Cell}
use Rattle.model.specs.declared.Library.{Library}
use Rattle.cells_pairs.specs.{pair_of_id, cells_by, Coded}
use Rattle.cells_pairs.proofs.{by_listed_lem, by_pair, by_length, joined-pins}
use Rattle.cells_matching.specs.{Inverter}
use Rattle.cells_matching.specs.{LibraryInBounds, Matchable, cell_matched, list_matched, MatchTable, Blank, quicker, tried, inverter_from}
use Rattle.cells_matching.specs.{inverter_of}
use Rattle.cells_matching.proofs.BestMatch.{by_less}
use Rattle.cells_matching.proofs.BucketLinks.{listed-down, list_matches}

-- ---- delays

-- every element is below n
abbrev Below : ℕ → List ℕ → Type 0
Below n xs = (j : ℕ) → get_or xs j 0 < n

taken : (n k : ℕ) (xs : List ℕ) → 0 < n → Below n xs → Below n (take k xs)
taken n zero xs z h j = z
taken n (suc k) [] z h j = z
taken n (suc k) (x ∷ xs) z h zero = h 0
taken n (suc k) (x ∷ xs) z h (suc j) = taken n k xs z (λ i. h (suc i)) j

joined : (n : ℕ) (xs ys : List ℕ) → Below n xs → Below n ys → Below n (xs ++ ys)
joined n [] ys h k j = k j
joined n (x ∷ xs) ys h k zero = h 0
joined n (x ∷ xs) ys h k (suc j) = joined n xs ys (λ i. h (suc i)) k j

added : (d : ℕ) (es : List ℕ) → d < 65536 → Below 65536 es → Below 131072 (map (λ (e : ℕ). d + e) es)
added d [] l h j = omega arith
added d (e ∷ es) l h zero = let k : e < 65536 = h 0 in omega arith
added d (e ∷ es) l h (suc j) = added d es l (λ i. h (suc i)) j

wider : (xs : List ℕ) → Below 65536 xs → Below 131072 xs
wider xs h j = omega (arith, h j)

join-brief : (p : ℕ) (ds es : List ℕ) → Below 65536 ds → Below 65536 es → Below 131072 (join_delays p ds es)
unfolding join_delays
join-brief p [] es h k j = omega arith
join-brief zero (d ∷ ds) es h k j = joined 131072 (map (λ (e : ℕ). d + e) es) ds (added d es (h 0) k) (wider ds (λ i. h (suc i))) j
join-brief (suc p) (d ∷ ds) es h k zero = wider (d ∷ ds) h 0
join-brief (suc p) (d ∷ ds) es h k (suc j) = join-brief p ds es (λ i. h (suc i)) k j

pub pair-brief : (p n : ℕ) (ds es : List ℕ) → Below 65536 ds → Below 65536 es → Below 131072 (pair_delays p n ds es)
unfolding pair_delays
pair-brief p n ds es h k = taken 131072 4 (join_delays p ds (take n es)) (omega arith) (join-brief p ds (take n es) h (taken 65536 n es (omega arith) k))

-- ---- the cells

-- what holds of each listed cell, of each pair and of no cell holds at every number
module _ (P : Cell → Type 0) (none : P no_cell) where
  at_each : (cells : List Cell) → ((k : ℕ) → k < length cells → P (cell_at cells k)) → (c : ℕ) → P (cell_at cells c)
  unfolding cell_at
  at_each [] h c = none
  at_each (x ∷ xs) h zero = h 0 (omega arith)
  at_each (x ∷ xs) h (suc c) = at_each xs (λ k l. h (suc k) (omega arith)) c

  pub by_each : (cells : List Cell) (ids : List ℕ) → ((k : ℕ) → k < length cells → P (cell_at cells k))
      → ((i : ℕ) → i < length ids → P (cell_of_pair cells (pair_of_id (get_or ids i 0)))) → (c : ℕ) → P (cell_at (cells_by cells ids) c)
  by_each cells ids listed paired = at_each (cells_by cells ids) (λ k h. by_less k (length cells)
      (λ b. subst P (sym (by_listed_lem cells ids k b)) (listed k b))
      (λ b.
      let e : length cells + (k - length cells) ≡ k = omega arith in
      let m : k - length cells < length ids = omega (arith, by_length cells ids) in
      subst P (sym (by_pair cells ids (k - length cells) m) ∙ ap (cell_at (cells_by cells ids)) e) (paired (k - length cells) m)))

pair_pins_lem : (root inner : Cell) (pin : ℕ) → root.pins + inner.pins ≤ 5 → (pair_of root pin inner).pins ≤ 4
unfolding pair_of pair_pins
pair_pins_lem root inner pin five = omega arith

pair-delays : (root inner : Cell) (pin : ℕ) → Below 65536 root.delays → Below 65536 inner.delays → Below 131072 (pair_of root pin inner).delays
unfolding pair_of
pair-delays root inner pin r i = pair-brief pin inner.pins root.delays inner.delays r i

module _ (l : Library) (ids : List ℕ) (ok : Coded l ids) where
  code-pins : (i : ℕ) → i < length ids → (cell_of_pair (cells_of l) (pair_of_id (get_or ids i 0))).pins ≤ 4
  unfolding cell_of_pair
  code-pins i h =
      let k : ℕ = get_or ids i 0 in
      pair_pins_lem (cell_at (cells_of l) (k / 128)) (cell_at (cells_of l) (k % 32)) (k / 32 % 4) (joined-pins (cell_at (cells_of l) (k / 128)) (cell_at (cells_of l) (k % 32)) (ok.joined i h)).1

  code-delays : LibraryInBounds l → (i : ℕ) → Below 131072 (cell_of_pair (cells_of l) (pair_of_id (get_or ids i 0))).delays
  unfolding cell_of_pair
  code-delays u i =
      let k : ℕ = get_or ids i 0 in
      pair-delays (cell_at (cells_of l) (k / 128)) (cell_at (cells_of l) (k % 32)) (k / 32 % 4) (u.delays (k / 128)) (u.delays (k % 32))

  pub pins_by_lem : (c : ℕ) → (cell_at (cells_by (cells_of l) ids) c).pins ≤ 4
  pins_by_lem = by_each (λ (c : Cell). c.pins ≤ 4) (omega arith) (cells_of l) ids (λ k h. ok.joinable.pins k) code-pins

  pub matchable_by : LibraryInBounds l → Matchable (cells_by (cells_of l) ids)
  matchable_by u = record {
    few = omega (arith, by_length (cells_of l) ids, u.whole, ok.few);
    pins = pins_by_lem;
    delays = by_each (λ (c : Cell). Below 131072 c.delays) (λ j. omega arith) (cells_of l) ids
        (λ k h. wider (cell_at (cells_of l) k).delays (u.delays k)) (λ i h. code-delays u i);
  }

-- ---- the match table

append_matched : (xs ys : List Cell) (line : ℕ) (s : List ℕ) → list_matched xs line (list_matched ys (line + length xs) s) ≡ list_matched (xs ++ ys) line s
unfolding list_matched
append_matched [] ys line s = ap (λ (n : ℕ). list_matched ys n s) (add-zero line)
append_matched (x ∷ xs) ys line s =
    let e : line + suc (length xs) ≡ suc line + length xs = omega arith in
    ap (cell_matched x line) (ap (λ (n : ℕ). list_matched xs (suc line) (list_matched ys n s)) e ∙ append_matched xs ys (suc line) s)

-- the code goes from the last pair to the first
pub pairs-down : (cells : List Cell) (n i : ℕ) (s : List ℕ) → 0 < i → n + i ≤ length cells
    → cell_matched (cell_at cells (n + (i - 1))) (n + (i - 1)) (list_matched (drop (n + i) cells) (n + i) s) ≡ list_matched (drop (n + (i - 1)) cells) (n + (i - 1)) s
pairs-down cells n i s l h =
    let e : n + i - 1 ≡ n + (i - 1) = omega arith in
    subst (λ (m : ℕ). cell_matched (cell_at cells m) m (list_matched (drop (n + i) cells) (n + i) s) ≡ list_matched (drop m cells) m s) e (listed-down cells (n + i) s (omega arith) h)

pub pairs_first : (l : Library) (ids s : List ℕ) → length (cells_of l) ≡ l.n
    → list_matched (cells_of l) 0 (list_matched (drop l.n (cells_by (cells_of l) ids)) l.n s) ≡ list_matched (cells_by (cells_of l) ids) 0 s
unfolding cells_by
pairs_first l ids s whole =
    let pairs : List Cell = map (λ (k : ℕ). cell_of_pair (cells_of l) (pair_of_id k)) ids in
    let e : l.n ≡ 0 + length (cells_of l) = omega (arith, whole) in
    let d : drop l.n (cells_of l ++ pairs) ≡ pairs = ap (λ (n : ℕ). drop n (cells_of l ++ pairs)) (sym whole) ∙ drop-append_seam (cells_of l) pairs in
    ap₂ (λ (cs : List Cell) (n : ℕ). list_matched (cells_of l) 0 (list_matched cs n s)) d e ∙ append_matched (cells_of l) pairs 0 s

pub matches_by : (l : Library) (ids s : List ℕ) → LibraryInBounds l → Coded l ids → Blank (l.n + length ids) s
    → MatchTable (cells_by (cells_of l) ids) (list_matched (cells_by (cells_of l) ids) 0 s)
matches_by l ids s u ok blank =
    list_matches (cells_by (cells_of l) ids) (matchable_by l ids ok u) s
    (record { long = omega (arith, by_length (cells_of l) ids, u.whole, blank.long); empty = blank.empty })

-- ---- the inverter

nameless : (a b : Bool) → (a && (b && false)) ≡ false
nameless true true = refl
nameless true false = refl
nameless false b = refl

pair-not : (root inner : Cell) (pin : ℕ) → is_inverter (pair_of root pin inner) ≡ false
unfolding is_inverter pair_of
pair-not root inner pin = nameless (eqb (pair_of root pin inner).pins 1) (eqb (pair_of root pin inner).table 1)

tried-pair : (best : Inverter) (cells : List Cell) (k line : ℕ) → tried best (cell_of_pair cells (pair_of_id k)) line ≡ best
unfolding tried cell_of_pair
tried-pair best cells k line =
    let c : Cell = pair_of (cell_at cells (k / 128)) (k / 32 % 4) (cell_at cells (k % 32)) in
    ap (λ (t : Bool). cond t (quicker best line (get_or c.delays 0 0)) best) (pair-not (cell_at cells (k / 128)) (cell_at cells (k % 32)) (k / 32 % 4))

from-pairs : (best : Inverter) (cells : List Cell) (ids : List ℕ) (line : ℕ) → inverter_from best (map (λ (k : ℕ). cell_of_pair cells (pair_of_id k)) ids) line ≡ best
unfolding inverter_from
from-pairs best cells [] line = refl
from-pairs best cells (k ∷ ks) line =
    ap (λ (b : Inverter). inverter_from b (map (λ (i : ℕ). cell_of_pair cells (pair_of_id i)) ks) (suc line)) (tried-pair best cells k line) ∙ from-pairs best cells ks (suc line)

from_append : (best : Inverter) (xs ys : List Cell) (line : ℕ) → inverter_from best (xs ++ ys) line ≡ inverter_from (inverter_from best xs line) ys (line + length xs)
unfolding inverter_from
from_append best [] ys line = ap (inverter_from best ys) (sym (add-zero line))
from_append best (x ∷ xs) ys line =
    let e : suc line + length xs ≡ line + suc (length xs) = omega arith in
    from_append (tried best x line) xs ys (suc line) ∙ ap (inverter_from (inverter_from (tried best x line) xs (suc line)) ys) e

pub inverter_by : (cells : List Cell) (ids : List ℕ) → inverter_of (cells_by cells ids) ≡ inverter_of cells
unfolding inverter_of cells_by
inverter_by cells ids =
    from_append _ cells (map (λ (k : ℕ). cell_of_pair cells (pair_of_id k)) ids) 0
    ∙ from-pairs _ cells ids (0 + length cells)
