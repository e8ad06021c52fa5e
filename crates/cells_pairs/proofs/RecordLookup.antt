-- What stands where in a list of cell records.
--     line-is, line-within      the cell at a line is the listed one, as the list of cell records has it
--     id_is, id_within      the number behind the cells is the pair's
--     booked, booked-..         a cell as the list of cell records has it: its name, pins and area are the cell's
--     name-whole, next-cell     what a cell's bytes are, and those of the cells from a line on
use Rattle.base.specs.{ℕ, zero, suc, ◌+◌, ◌-◌, ◌*◌, ◌/◌, ◌%◌, ◌≤◌, ◌<◌, ◌≡◌, refl, sym, ap, ◌∙◌, List, [], ◌∷◌, ◌++◌, append_assoc}
use Rattle.base.specs.{add-zero, le_of_suc-le-suc, not-suc-le-zero, add-one, arith, length, take, drop, get_or, length-append, length-take}
use Rattle.base.specs.{drop_of_length-le, drop-cons, drop-drop, drop_at, take_all, length-take-le, get_or-take, get_or-drop, ext_get_or}
use Rattle.std.specs.Int.{to_le_bytes}
use Rattle.std.proofs.Common.{w16}
use Rattle.model.specs.{each, name_of, no_cell, cell_at}
use Rattle.model.specs.declared.Cell.{Cell}
use Rattle.cells_pairs.specs.{name_from, cell_bytes, cell_from, id_bytes, listed_bytes, line_cell, id_in, id_place}

-- ---- blocks of one width

module _ {A : Type 0} (d : A) (f : A → List ℕ) (n : ℕ) (wide : (x : A) → length (f x) ≡ n) (none : n * 0 ≡ 0) (more : (k : ℕ) → n * suc k ≡ n + n * k) where
  pub blocks_length : (xs : List A) → length (each f xs) ≡ n * length xs
  unfolding each
  blocks_length [] = sym none
  blocks_length (x ∷ xs) = length-append (f x) (each f xs) ∙ (λ i. wide x i + blocks_length xs i) ∙ sym (more (length xs))

  pub block_at : (xs : List A) (rest : List ℕ) (k : ℕ) → k < length xs → drop (n * k) (each f xs ++ rest) ≡ f (get_or xs k d) ++ (each f (drop (suc k) xs) ++ rest)
  unfolding each
  block_at [] rest k h = absurd (not-suc-le-zero h)
  block_at (x ∷ xs) rest zero h = ap (λ (j : ℕ). drop j ((f x ++ each f xs) ++ rest)) none ∙ append_assoc (f x) (each f xs) rest
  block_at (x ∷ xs) rest (suc k) h =
      ap (λ (j : ℕ). drop j ((f x ++ each f xs) ++ rest)) (more k)
      ∙ sym (drop-drop (n * k) n ((f x ++ each f xs) ++ rest))
      ∙ ap (drop (n * k)) (ap (drop n) (append_assoc (f x) (each f xs) rest) ∙ drop_at (f x) (each f xs ++ rest) n (wide x))
      ∙ block_at xs rest k (le_of_suc-le-suc h)

-- ---- a cell's bytes

name-at : (s : List ℕ) (i : ℕ) → i < 8 → get_or (name_from s) i 0 ≡ get_or s i 0
unfolding name_from
name-at s zero h = refl
name-at s (suc zero) h = refl
name-at s (suc (suc zero)) h = refl
name-at s (suc (suc (suc zero))) h = refl
name-at s (suc (suc (suc (suc zero)))) h = refl
name-at s (suc (suc (suc (suc (suc zero))))) h = refl
name-at s (suc (suc (suc (suc (suc (suc zero)))))) h = refl
name-at s (suc (suc (suc (suc (suc (suc (suc zero))))))) h = refl
name-at s (suc (suc (suc (suc (suc (suc (suc (suc i)))))))) h = absurd (omega arith)

name-eight : (s : List ℕ) → length (name_from s) ≡ 8
unfolding name_from
name-eight s = refl

-- the first bytes of a name are among the eight
name-front : (s : List ℕ) (j : ℕ) → j ≤ 8 → j ≤ length s → take j (name_from s) ≡ take j s
name-front s j h g =
    ext_get_or 0 (take j (name_from s)) (take j s) (long ∙ sym (length-take-le j s g)) (λ i b.
    let l : i < j = omega (arith, long) in
    get_or-take j (name_from s) i 0 l ∙ name-at s i (omega arith) ∙ sym (get_or-take j s i 0 l))
  where
    long : length (take j (name_from s)) ≡ j
    long = length-take-le j (name_from s) (omega (arith, name-eight s))

-- all eight
name-all : (s : List ℕ) → length s ≡ 8 → name_from s ≡ s
name-all s e =
    sym (take_all 8 (name_from s) (omega (arith, name-eight s))) ∙ name-front s 8 (omega arith) (omega arith) ∙ take_all 8 s (omega arith)

pub cell-bytes-length : (c : Cell) → length (cell_bytes c) ≡ 12
unfolding cell_bytes name_from
cell-bytes-length c = refl

-- what is written of a cell whose name is an array of eight bytes
pub cell-is : (c : Cell) (n : ℕ) → length c.name ≡ 8 → n ≡ length (name_of c) → cell_bytes c ≡ c.name ++ (n ∷ c.pins ∷ c.area % 256 ∷ c.area / 256 ∷ [])
unfolding cell_bytes
cell-is c n e h =
    (λ i. name-all c.name e i ++ (length (name_of c) ∷ c.pins ∷ c.area % 256 ∷ c.area / 256 ∷ []))
    ∙ ap (λ (k : ℕ). c.name ++ (k ∷ c.pins ∷ c.area % 256 ∷ c.area / 256 ∷ [])) (sym h)

-- a cell as the list of cell records has it
unfoldable pub booked : Cell → Cell
unfolding cell_from cell_bytes
booked c = cell_from (cell_bytes c)

from_bytes : (c : Cell) (rest : List ℕ) → cell_from (cell_bytes c ++ rest) ≡ booked c
unfolding booked name_from cell_from cell_bytes
from_bytes c rest = refl

taken_again : (n : ℕ) (s : List ℕ) → take (length (take n s)) s ≡ take n s
taken_again zero [] = refl
taken_again zero (x ∷ s) = refl
taken_again (suc n) [] = refl
taken_again (suc n) (x ∷ s) = ap (λ (t : List ℕ). x ∷ t) (taken_again n s)

pub booked_name : (c : Cell) → length (name_of c) ≤ 8 → name_of (booked c) ≡ name_of c
unfolding booked name_of cell_from cell_bytes name_from
booked_name c h = name-front c.name (length (take c.len c.name)) h (omega (arith, length-take c.len c.name)) ∙ taken_again c.len c.name

pub booked_pins : (c : Cell) → (booked c).pins ≡ c.pins
unfolding booked cell_from cell_bytes name_from
booked_pins c = refl

pub booked_area : (c : Cell) → (booked c).area ≡ c.area
unfolding booked cell_from cell_bytes name_from
booked_area c = omega arith

-- ---- the listed cells

module _ (cells : List Cell) (i : ℕ) where
  -- the bytes of the cells from line i on
  pub next-cell : i < length cells → each cell_bytes (drop i cells) ≡ cell_bytes (get_or cells i no_cell) ++ each cell_bytes (drop (i + 1) cells)
  unfolding each
  next-cell h = ap (each cell_bytes) (drop-cons cells i no_cell h ∙ ap (λ (k : ℕ). get_or cells i no_cell ∷ drop k cells) (sym (add-one i)))

  pub no_cell_lem : length cells ≤ i → each cell_bytes (drop i cells) ≡ []
  unfolding each
  no_cell_lem h = ap (each cell_bytes) (drop_of_length-le cells {i = i} h)

pub cells-length : (cells : List Cell) → length (each cell_bytes cells) ≡ 12 * length cells
cells-length = blocks_length no_cell cell_bytes 12 cell-bytes-length (omega arith) (λ k. omega arith)

pub listed-length : (cells : List Cell) → length (listed_bytes cells) ≡ 1 + 12 * length cells
listed-length cells = omega (arith, cells-length cells)

module _ (cells : List Cell) (rest : List ℕ) where
  pub line-is : (k : ℕ) → k < length cells → line_cell (listed_bytes cells ++ rest) k ≡ booked (cell_at cells k)
  unfolding cell_at
  line-is k h =
      let e : 1 + 12 * k ≡ suc (12 * k) = omega arith in
      ap (λ (j : ℕ). cell_from (drop j (listed_bytes cells ++ rest))) e
      ∙ ap cell_from (block_at no_cell cell_bytes 12 cell-bytes-length (omega arith) (λ j. omega arith) cells rest k h)
      ∙ from_bytes (get_or cells k no_cell) (each cell_bytes (drop (suc k) cells) ++ rest)

  pub line-within : (k : ℕ) → k < length cells → 13 + 12 * k ≤ length (listed_bytes cells ++ rest)
  line-within k h = omega (arith, length-append (listed_bytes cells) rest, listed-length cells)

-- ---- the numbers of pairs

-- a number's two bytes, as the library hands them out
pub low-first : (k : ℕ) → k < 65536 → to_le_bytes w16 k ≡ id_bytes k
low-first k h = let e : k / 256 % 256 ≡ k / 256 = omega arith in ap (λ (x : ℕ). k % 256 ∷ x ∷ []) e

module _ (ids : List ℕ) (i : ℕ) where
  -- the bytes of those from number i on
  pub next_id : i < length ids → each id_bytes (drop i ids) ≡ id_bytes (get_or ids i 0) ++ each id_bytes (drop (i + 1) ids)
  unfolding each
  next_id h = ap (each id_bytes) (drop-cons ids i 0 h ∙ ap (λ (k : ℕ). get_or ids i 0 ∷ drop k ids) (sym (add-one i)))

  pub no_id : length ids ≤ i → each id_bytes (drop i ids) ≡ []
  unfolding each
  no_id h = ap (each id_bytes) (drop_of_length-le ids {i = i} h)

pub ids-length : (ids : List ℕ) → length (each id_bytes ids) ≡ 2 * length ids
ids-length = blocks_length 0 id_bytes 2 (λ _. refl) (omega arith) (λ k. omega arith)

module _ (cells : List Cell) (ids rest : List ℕ) (k : ℕ) (pair : length cells ≤ k) (there : k - length cells < length ids) where
  abbrev records : List ℕ
  records = listed_bytes cells ++ (each id_bytes ids ++ rest)

  bytes-at : drop (id_place records k) records ≡ id_bytes (get_or ids (k - length cells) 0) ++ (each id_bytes (drop (suc (k - length cells)) ids) ++ rest)
  bytes-at =
      sym (drop-drop (2 * (k - length cells)) (1 + 12 * length cells) records)
      ∙ ap (drop (2 * (k - length cells))) (drop_at (listed_bytes cells) (each id_bytes ids ++ rest) (1 + 12 * length cells) (listed-length cells))
      ∙ block_at 0 id_bytes 2 (λ _. refl) (omega arith) (λ j. omega arith) ids rest (k - length cells) there

  pub id_is : id_in records k ≡ get_or ids (k - length cells) 0
  id_is =
      let x = get_or ids (k - length cells) 0 in
      let first : get_or records (id_place records k) 0 ≡ x % 256 =
      ap (λ (j : ℕ). get_or records j 0) (sym (add-zero (id_place records k))) ∙ sym (get_or-drop (id_place records k) records 0 0) ∙ ap (λ (bs : List ℕ). get_or bs 0 0) bytes-at in
      let second : get_or records (id_place records k + 1) 0 ≡ x / 256 = sym (get_or-drop (id_place records k) records 1 0) ∙ ap (λ (bs : List ℕ). get_or bs 1 0) bytes-at in
      omega (arith, first, second)

  pub id_within : id_place records k + 2 ≤ length records
  id_within = omega (arith, length-append (listed_bytes cells) (each id_bytes ids ++ rest), listed-length cells, length-append (each id_bytes ids) rest, ids-length ids)
