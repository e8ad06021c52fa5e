-- The match table: all that a match asks of the cells, once for each library. It has, by table, the head of the bucket of the variants that have the
-- table; by cell, its delays; by variant, the next one of its bucket, what feeds its pins and where its cell's delays stand. What the variants have
-- stands last, so that a shorter match table serves fewer cells.
use Rattle.std.specs.Prelude.{◌+◌, ◌*◌, ◌/◌, ◌%◌, ◌≤◌, ◌<◌, ◌≡◌, ◌∷◌}
use Rattle.base.specs.{ℕ, zero, suc, Bool, cond, not, List, [], eqb, ltb, length, get_or, set}
use Rattle.model.specs.{bit, cell_at, literal}
use Rattle.model.specs.declared.Cell.{Cell}
use Rattle.base_truth.specs.{places_of, variant_table}
use Rattle.cells_matching.specs.VariantLists.{Matchable, line_of, order_of, mask_of, fresh, fresh_ones}

-- ---- what lies where: 65,536 heads, 256 times 4 delays, and for each variant its link and its pick, 384 times 2 for each cell

abbrev pub delay_addr : ℕ → ℕ → ℕ
delay_addr line j = 65536 + 4 * line + j

-- the next variant of the bucket; a head and a link are one more than a variant's number, 0 at the end
abbrev pub link_addr : ℕ → ℕ
link_addr x = 66560 + 2 * x

abbrev pub pick_addr : ℕ → ℕ
pick_addr x = 66560 + 2 * x + 1

-- the words of a match table of n cells
abbrev pub match_table_length : ℕ → ℕ
match_table_length n = 66560 + 768 * n

-- ---- a variant

-- where the arrival that pin j waits for stands: that of its leaf in the mask's phase, and for an absent pin the one that is always 0
unfoldable pub pick_pin : ℕ → List ℕ → ℕ → ℕ → ℕ
unfolding literal bit
pick_pin pins places mask j = cond (ltb j pins) (literal (bit mask j) (get_or places j 0)) 8

-- those of the four pins, pin 0 lowest
unfoldable pub pick_of : ℕ → List ℕ → ℕ → ℕ
unfolding pick_pin
pick_of pins places mask =
    pick_pin pins places mask 0 + 16 * pick_pin pins places mask 1 + 256 * pick_pin pins places mask 2 + 4096 * pick_pin pins places mask 3

-- a word of mask 0 with the phases of a mask: the negative arrival of a leaf stands behind the positive one
unfoldable pub masked : ℕ → ℕ → ℕ
masked word mask = word + mask % 2 + 16 * (mask / 2 % 2) + 256 * (mask / 4 % 2) + 4096 * (mask / 8 % 2)

-- the picks of a variant of a cell with so many pins, and above them how far behind the first delay its cell's delays stand
unfoldable pub word_of : ℕ → ℕ → ℕ
unfolding pick_of
word_of pins x = pick_of pins (places_of (order_of x)) (mask_of x) + 262144 * line_of x

unfoldable pub pick_at : List Cell → ℕ → ℕ
unfolding word_of cell_at
pick_at cells x = word_of (cell_at cells (line_of x)).pins x

-- the delay of pin j, none for an absent pin
unfoldable pub delay_of : ℕ → List ℕ → ℕ → ℕ
delay_of pins delays j = cond (ltb j pins) (get_or delays j 0) 0

-- ---- the match table written

-- variant x, with its pick p, at the head of the bucket of table t
unfoldable pub pushed : ℕ → ℕ → ℕ → List ℕ → List ℕ
pushed t x p s = set (set (set s (link_addr x) (get_or s t 0)) t (x + 1)) (pick_addr x) p

-- variant x of a cell at the head of the bucket of its table, if it is one that is tried
unfoldable pub prepended : ℕ → ℕ → ℕ → List ℕ → List ℕ
unfolding pushed variant_table word_of fresh
prepended pins table x s =
    let there = pushed (variant_table pins table (places_of (order_of x)) (mask_of x)) x (word_of pins x) s in
    cond (fresh pins x) there s

-- the variants from x on, k of them, from the highest down
unfoldable pub passed : ℕ → ℕ → ℕ → ℕ → List ℕ → List ℕ
unfolding prepended
passed pins table x zero s = s
passed pins table x (suc k) s = prepended pins table x (passed pins table (suc x) k s)

-- the delays of a line's cell
unfoldable pub timed : ℕ → List ℕ → ℕ → List ℕ → List ℕ
unfolding delay_of
timed pins delays line s =
    set (set (set (set s (delay_addr line 0) (delay_of pins delays 0)) (delay_addr line 1) (delay_of pins delays 1)) (delay_addr line 2) (delay_of pins delays 2))
    (delay_addr line 3) (delay_of pins delays 3)

-- a cell matched: its delays, and its variants on the buckets of their tables
unfoldable pub cell_matched : Cell → ℕ → List ℕ → List ℕ
unfolding passed timed
cell_matched c line s = passed c.pins c.table (384 * line) 384 (timed c.pins c.delays line s)

-- cells from a line on, from the last to the first
unfoldable pub list_matched : List Cell → ℕ → List ℕ → List ℕ
unfolding cell_matched
list_matched [] line s = s
list_matched (c ∷ cs) line s = cell_matched c line (list_matched cs (suc line) s)

-- ---- the match table read

-- from head h the links list just these variants, ascending, none below `low`, each with its pick
unfoldable pub Linked : List Cell → List ℕ → ℕ → ℕ → List ℕ → Type 0
unfolding pick_at
Linked cells s low h [] = h ≡ 0
Linked cells s low h (x ∷ xs) =
    (h ≡ x + 1) × (low ≤ x) × (x < 384 * length cells) × (get_or s (pick_addr x) 0 ≡ pick_at cells x) × Linked cells s (suc x) (get_or s (link_addr x) 0) xs

-- the bucket of each table lists the variants that have it and are tried, ascending; the delays are the cells'
pub record MatchTable (cells : List Cell) (s : List ℕ) : Type 0 where
  pub matchable : Matchable cells
  pub long : match_table_length (length cells) ≤ length s
  pub chained : (t : ℕ) → t < 65536 → Linked cells s 0 (get_or s t 0) (fresh_ones cells t)
  pub delayed : (line j : ℕ) → line < length cells → j < 4 → get_or s (delay_addr line j) 0 ≡ delay_of (cell_at cells line).pins (cell_at cells line).delays j

-- whether a table is some variant's
unfoldable pub is_listed : List ℕ → ℕ → Bool
is_listed s t = not (eqb (get_or s t 0) 0)

-- a match table for n cells with nothing on it
pub record Blank (n : ℕ) (s : List ℕ) : Type 0 where
  pub long : match_table_length n ≤ length s
  pub empty : (t : ℕ) → t < 65536 → get_or s t 0 ≡ 0
