-- The cells to map with, by their numbers: a listed one, or one of a pair.
--     by_listed_lem, by_pair      which cell a number means
--     by_length               how many there are
--     joined-pins             what two cells that join have
--     join-before, join-inner, join-after, join-four      the delays of a pair's four pins
--     four_are                four numbers are a list of four
--     number-listed, number-pairs, number-pair    the cell of a number, by a library's cells
--     pins_are, table_are, delays_are, mins_are   a pair's figures, by those of its cells
use Rattle.base.specs.{ℕ, zero, suc, ◌+◌, ◌-◌, ◌/◌, ◌%◌, ◌<◌, ◌≤◌, ◌≡◌, refl, sym, ap, ◌∙◌, Bool, true, false, ◌&&◌, false≢true, List, []}
use Rattle.base.specs.{◌∷◌, ◌++◌, map, zero-add, suc-add, arith, leb, length, take, get_or, length-append, length-map, length-take}
use Rattle.base.specs.{get_or-append, get_or-take, get_or-append-add, leb-true}
use Rattle.model.specs.{no_cell, cell_at, cells_of, joins, join_delays, pair_pins, pair_table, pair_delays, pair_of, cell_of_pair}
use Rattle.model.specs.declared.Cell.{Cell}
use Rattle.model.specs.declared.Library.{Library}
use Rattle.cells_pairs.specs.{pair_of_id, cells_by, Coded}

-- ---- which cell

map_at : {B : Type 0} (f : ℕ → B) (b : B) (xs : List ℕ) (i : ℕ) → i < length xs → get_or (map f xs) i b ≡ f (get_or xs i 0)
map_at f b [] i h = absurd (omega arith)
map_at f b (x ∷ xs) zero h = refl
map_at f b (x ∷ xs) (suc i) h = map_at f b xs i (omega arith)

pub by_listed_lem : (cells : List Cell) (ids : List ℕ) (k : ℕ) → k < length cells → cell_at (cells_by cells ids) k ≡ cell_at cells k
unfolding cell_at cells_by
by_listed_lem cells ids k h = get_or-append cells (map (λ (c : ℕ). cell_of_pair cells (pair_of_id c)) ids) no_cell k h

pub by_pair : (cells : List Cell) (ids : List ℕ) (i : ℕ) → i < length ids → cell_at (cells_by cells ids) (length cells + i) ≡ cell_of_pair cells (pair_of_id (get_or ids i 0))
unfolding cell_at cells_by
by_pair cells ids i h =
    get_or-append-add cells (map (λ (c : ℕ). cell_of_pair cells (pair_of_id c)) ids) i no_cell
    ∙ map_at (λ (c : ℕ). cell_of_pair cells (pair_of_id c)) no_cell ids i h

pub by_length : (cells : List Cell) (ids : List ℕ) → length (cells_by cells ids) ≡ length cells + length ids
unfolding cells_by
by_length cells ids =
    length-append cells (map (λ (c : ℕ). cell_of_pair cells (pair_of_id c)) ids)
    ∙ ap (λ (n : ℕ). length cells + n) (length-map ids (λ (c : ℕ). cell_of_pair cells (pair_of_id c)))

-- ---- what joins

and_both : (a b : Bool) → (a && b) ≡ true → (a ≡ true) × (b ≡ true)
and_both true b e = (refl, e)
and_both false b e = absurd (false≢true e)

pub joined-pins : (root inner : Cell) → joins root inner ≡ true → (1 ≤ inner.pins) × (root.pins + inner.pins ≤ 5)
unfolding joins
joined-pins root inner e =
    let b = and_both (leb 1 inner.pins) (leb (root.pins + inner.pins) 5) e in
    (leb-true 1 inner.pins b.0, leb-true (root.pins + inner.pins) 5 b.1)

-- ---- delays

before : (p : ℕ) (ds es : List ℕ) (j : ℕ) → j < p → get_or (join_delays p ds es) j 0 ≡ get_or ds j 0
unfolding join_delays
before p [] es j h = refl
before zero (d ∷ ds) es j h = absurd (omega arith)
before (suc p) (d ∷ ds) es zero h = refl
before (suc p) (d ∷ ds) es (suc j) h = before p ds es j (omega arith)

inside : (p : ℕ) (ds es : List ℕ) (j : ℕ) → p < length ds → j < length es → get_or (join_delays p ds es) (p + j) 0 ≡ get_or ds p 0 + get_or es j 0
unfolding join_delays
inside p [] es j l h = absurd (omega arith)
inside zero (d ∷ ds) es j l h =
    ap (λ (i : ℕ). get_or (map (λ (e : ℕ). d + e) es ++ ds) i 0) (zero-add j)
    ∙ get_or-append (map (λ (e : ℕ). d + e) es) ds 0 j (omega (arith, length-map es (λ (e : ℕ). d + e)))
    ∙ map_at (λ (e : ℕ). d + e) 0 es j h
inside (suc p) (d ∷ ds) es j l h = ap (λ (i : ℕ). get_or (d ∷ join_delays p ds es) i 0) (suc-add p j) ∙ inside p ds es j (omega arith) h

behind : (p : ℕ) (ds es : List ℕ) (j : ℕ) → p < length ds → get_or (join_delays p ds es) (p + (length es + j)) 0 ≡ get_or ds (suc p + j) 0
unfolding join_delays
behind p [] es j l = absurd (omega arith)
behind zero (d ∷ ds) es j l =
    let m : zero + (length es + j) ≡ length (map (λ (e : ℕ). d + e) es) + j = zero-add (length es + j) ∙ ap (λ (n : ℕ). n + j) (sym (length-map es (λ (e : ℕ). d + e))) in
    let o : suc zero + j ≡ suc j = omega arith in
    ap (λ (i : ℕ). get_or (map (λ (e : ℕ). d + e) es ++ ds) i 0) m
    ∙ get_or-append-add (map (λ (e : ℕ). d + e) es) ds j 0
    ∙ sym (ap (λ (i : ℕ). get_or (d ∷ ds) i 0) o)
behind (suc p) (d ∷ ds) es j l =
    let o : suc (suc p) + j ≡ suc (suc p + j) = omega arith in
    ap (λ (i : ℕ). get_or (d ∷ join_delays p ds es) i 0) (suc-add p (length es + j)) ∙ behind p ds es j (omega arith)
    ∙ sym (ap (λ (i : ℕ). get_or (d ∷ ds) i 0) o)

long : (p : ℕ) (ds es : List ℕ) → p < length ds → length (join_delays p ds es) + 1 ≡ length ds + length es
unfolding join_delays
long p [] es l = absurd (omega arith)
long zero (d ∷ ds) es l = omega (arith, length-append (map (λ (e : ℕ). d + e) es) ds, length-map es (λ (e : ℕ). d + e))
long (suc p) (d ∷ ds) es l = omega (arith, long p ds es (omega arith))

module _ (pin n : ℕ) (ds es : List ℕ) (fed : pin < 4) (some : 1 ≤ n) (few : n ≤ 4) (roots : length ds ≡ 4) (inners : length es ≡ 4) where
  taken : length (take n es) ≡ n
  taken = omega (arith, length-take n es)

  pub join-four : length (pair_delays pin n ds es) ≡ 4
  unfolding pair_delays
  join-four = omega (arith, length-take 4 (join_delays pin ds (take n es)), long pin ds (take n es) (omega arith), taken)

  pub join-before : (j : ℕ) → j < 4 → j < pin → get_or ds j 0 ≡ get_or (pair_delays pin n ds es) j 0
  unfolding pair_delays
  join-before j f h = sym (get_or-take 4 (join_delays pin ds (take n es)) j 0 f ∙ before pin ds (take n es) j h)

  pub join-inner : (j : ℕ) → j < 4 → pin ≤ j → j < pin + n → get_or ds pin 0 + get_or es (j - pin) 0 ≡ get_or (pair_delays pin n ds es) j 0
  unfolding pair_delays
  join-inner j f l h =
      let e : j ≡ pin + (j - pin) = omega arith in
      sym (get_or-take 4 (join_delays pin ds (take n es)) j 0 f ∙ ap (λ (i : ℕ). get_or (join_delays pin ds (take n es)) i 0) e
      ∙ inside pin ds (take n es) (j - pin) (omega arith) (omega (arith, taken))
      ∙ ap (λ (t : ℕ). get_or ds pin 0 + t) (get_or-take n es (j - pin) 0 (omega arith)))

  pub join-after : (j : ℕ) → j < 4 → pin + n ≤ j → get_or ds (j + 1 - n) 0 ≡ get_or (pair_delays pin n ds es) j 0
  unfolding pair_delays
  join-after j f l =
      let e : j ≡ pin + (length (take n es) + (j - (pin + n))) = omega (arith, taken) in
      let o : suc pin + (j - (pin + n)) ≡ j + 1 - n = omega arith in
      sym (get_or-take 4 (join_delays pin ds (take n es)) j 0 f ∙ ap (λ (i : ℕ). get_or (join_delays pin ds (take n es)) i 0) e
      ∙ behind pin ds (take n es) (j - (pin + n)) (omega arith) ∙ ap (λ (i : ℕ). get_or ds i 0) o)

pub four_are : (xs : List ℕ) (a b c d : ℕ) → length xs ≡ 4 → a ≡ get_or xs 0 0 → b ≡ get_or xs 1 0 → c ≡ get_or xs 2 0 → d ≡ get_or xs 3 0 → a ∷ b ∷ c ∷ d ∷ [] ≡ xs
four_are [] a b c d e ha hb hc hd = absurd (omega arith)
four_are (w ∷ []) a b c d e ha hb hc hd = absurd (omega arith)
four_are (w ∷ x ∷ []) a b c d e ha hb hc hd = absurd (omega arith)
four_are (w ∷ x ∷ y ∷ []) a b c d e ha hb hc hd = absurd (omega arith)
four_are (w ∷ x ∷ y ∷ z ∷ []) a b c d e ha hb hc hd = λ i. ha i ∷ hb i ∷ hc i ∷ hd i ∷ []
four_are (w ∷ x ∷ y ∷ z ∷ v ∷ vs) a b c d e ha hb hc hd = absurd (omega arith)

-- ---- the cell of a number

-- what the number of a pair says of a library's cells
pub record Pairing (cells : List Cell) (n x : ℕ) : Type 0 where
  pub root : x / 128 < n
  pub inner : x % 32 < n
  pub pin : x / 32 % 4 < (cell_at cells (x / 128)).pins
  pub some : 1 ≤ (cell_at cells (x % 32)).pins
  pub five : (cell_at cells (x / 128)).pins + (cell_at cells (x % 32)).pins ≤ 5

module _ (l : Library) (ids : List ℕ) (ok : Coded l ids) (k : ℕ) where
  pub number-listed : k < l.n → cell_at (cells_of l) k ≡ cell_at (cells_by (cells_of l) ids) k
  number-listed h = sym (by_listed_lem (cells_of l) ids k (omega (arith, ok.joinable.whole)))

  module _ (x : ℕ) (past : l.n ≤ k) (within : k < l.n + length ids) (is : x ≡ get_or ids (k - l.n) 0) where
    pub number-pairs : Pairing (cells_of l) l.n x
    number-pairs =
        rw is
        (let i : ℕ = k - l.n in
        let h : i < length ids = omega arith in
        let j = joined-pins (cell_at (cells_of l) (get_or ids i 0 / 128)) (cell_at (cells_of l) (get_or ids i 0 % 32)) (ok.joined i h) in
        record { root = ok.root i h; inner = ok.inner i h; pin = ok.pin i h; some = j.0; five = j.1 })

    pub number-pair : cell_of_pair (cells_of l) (pair_of_id x) ≡ cell_at (cells_by (cells_of l) ids) k
    number-pair =
        let e : length (cells_of l) + (k - l.n) ≡ k = omega (arith, ok.joinable.whole) in
        ap (λ (y : ℕ). cell_of_pair (cells_of l) (pair_of_id y)) is
        ∙ sym (by_pair (cells_of l) ids (k - l.n) (omega arith))
        ∙ ap (cell_at (cells_by (cells_of l) ids)) e

module _ (cells : List Cell) (x : ℕ) (root inner : Cell) (r : root ≡ cell_at cells (x / 128)) (i : inner ≡ cell_at cells (x % 32)) where
  pub pins_are : root.pins + inner.pins - 1 ≡ (cell_of_pair cells (pair_of_id x)).pins
  unfolding cell_of_pair pair_of pair_pins
  pins_are = λ t. (r t).pins + (i t).pins - 1

  pub table_are : pair_table root (x / 32 % 4) inner ≡ (cell_of_pair cells (pair_of_id x)).table
  unfolding cell_of_pair pair_of
  table_are = λ t. pair_table (r t) (x / 32 % 4) (i t)

  pub delays_are : pair_delays (x / 32 % 4) inner.pins root.delays inner.delays ≡ (cell_of_pair cells (pair_of_id x)).delays
  unfolding cell_of_pair pair_of
  delays_are = λ t. pair_delays (x / 32 % 4) (i t).pins (r t).delays (i t).delays

  pub mins_are : pair_delays (x / 32 % 4) inner.pins root.mins inner.mins ≡ (cell_of_pair cells (pair_of_id x)).mins
  unfolding cell_of_pair pair_of
  mins_are = λ t. pair_delays (x / 32 % 4) (i t).pins (r t).mins (i t).mins
