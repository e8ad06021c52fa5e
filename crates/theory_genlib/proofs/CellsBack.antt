-- A cell text that is written for gates is read as their cells, where 3 to 6 accept them.
use Rattle.base.specs.{ℕ, suc, ◌+◌, ◌-◌, ◌*◌, ◌/◌, ◌%◌, ◌^◌, ◌≤◌, ◌<◌, arith, ◌≡◌, refl, sym, ◌∙◌, ap, ap₂, subst, Bool, true, false, not}
use Rattle.base.specs.{cond, ◌&&◌, Option, None, Some, List, [], ◌∷◌, ◌++◌, map, append_assoc, Memᴰ, Memᴰ-head, Memᴰ-tail}
use Rattle.base.specs.{Memᴰ-not-nil, T, eqb, leb, le→leb, ltb, ltb→lt, lt→ltb, nltb→le, lit<, not_T, length, get_or, take, drop}
use Rattle.base.specs.{replicate, take-append_seam, pow_mono, and_yes, yes_and, yes_leb, yes_ltb}
use Rattle.model.specs.{all, any, each, same, and_then, only, text, decimal, lines_from, closing, fields, numbers, between, hex_digit, hex_from}
use Rattle.model.specs.{hex_table, is_letter, is_name_byte, is_name, Read, holds, next, unless, from?, name_of, name_bytes, cell_of_fields}
use Rattle.model.specs.{cell_of_line, is_clean, no_lower, is_shorter, is_longer, read_cells, read_library_lines, read_library, Distinct, hex_byte}
use Rattle.model.specs.{hex_text, number_text, gate_text, cells_text, cell_of_gate, Listable}
use Rattle.model.specs.Genlib.{Gate}
use Rattle.model.specs.declared.Cell.{Cell}
use Rattle.model.proofs.{rows-most}
use Rattle.theory_graph.proofs.{is_true, is_false, same-eq, map_in, any_none, by_bool}
use Rattle.theory_text.proofs.{Free, above, free_append, decimal-free, bytes-free, line_of_bytes, line_first, fields-word, numbers-back}
use Rattle.theory_text.proofs.{fields-numbers, none-lower}

-- a gate as `read_genlib` gives it
pub record GateFits (g : Gate) : Type 0 where
  pub pins : g.pins ≤ 4
  pub table : g.table < 2 ^ 2 ^ g.pins
  pub area : g.area ≤ 65535
  pub four : length g.delays ≡ 4
  pub delays : T (all (λ (d : ℕ). leb d 65535) g.delays)
  pub absent : T (all (eqb 0) (drop g.pins g.delays))

-- no table has over 16 rows
two-most : (p : ℕ) → p ≤ 4 → 2 ^ 2 ^ p ≤ 65536
two-most p h = pow_mono {i = 2 ^ p} {j = 16} (rows-most p h)

-- ---- the table's digits

hex_digit_lem : (d : ℕ) → d < 16 → hex_digit (hex_byte d) ≡ Some d
unfolding hex_digit hex_byte between
hex_digit_lem d h = go (ltb d 10) (ltb→lt d 10) (nltb→le d 10)
  where
    go : (b : Bool) → (T b → d < 10) → (T (not b) → 10 ≤ d) → hex_digit (cond b (48 + d) (87 + d)) ≡ Some d
    go true y n = ap₂ (λ (p q : Bool). cond (p && q) (Some (48 + d - 48)) (cond (between 97 102 (48 + d)) (Some (48 + d - 87)) None))
        (is_true (leb 48 (48 + d)) (le→leb 48 (48 + d) (omega (arith, y tt))))
        (is_true (leb (48 + d) 57) (le→leb (48 + d) 57 (omega (arith, y tt))))
        ∙ ap Some (let q : 48 + d - 48 ≡ d = omega (arith, y tt) in q)
    go false y n =
        let k : 10 ≤ d = n tt in
        ap₂ (λ (p q : Bool). cond (p && q) (Some (87 + d - 48)) (cond (between 97 102 (87 + d)) (Some (87 + d - 87)) None))
        (is_true (leb 48 (87 + d)) (le→leb 48 (87 + d) (omega arith))) (is_false (leb (87 + d) 57) (not_T (leb (87 + d) 57) (λ t. let z : 87 + d ≤ 57 = lib.Dec.leb→le (87 + d) 57 t in omega arith)))
        ∙ ap₂ (λ (p q : Bool). cond (p && q) (Some (87 + d - 87)) None)
        (is_true (leb 97 (87 + d)) (le→leb 97 (87 + d) (omega arith))) (is_true (leb (87 + d) 102) (le→leb (87 + d) 102 (omega arith)))
        ∙ ap Some (let q : 87 + d - 87 ≡ d = omega arith in q)

hex_more : (n d : ℕ) (bs : List ℕ) → d < 16 → hex_from n (hex_byte d ∷ bs) ≡ hex_from (n * 16 + d) bs
unfolding hex_from and_then
hex_more n d bs h = ap (λ (o : Option ℕ). and_then o (λ e. hex_from (n * 16 + e) bs)) (hex_digit_lem d h)

pub hex_back : (n : ℕ) → n < 65536 → hex_table (hex_text n) ≡ Some n
unfolding hex_table hex_text and_then only
hex_back n h =
    hex_more 0 (n / 4096 % 16) (hex_byte (n / 256 % 16) ∷ hex_byte (n / 16 % 16) ∷ hex_byte (n % 16) ∷ []) (omega arith)
    ∙ hex_more (0 * 16 + n / 4096 % 16) (n / 256 % 16) (hex_byte (n / 16 % 16) ∷ hex_byte (n % 16) ∷ []) (omega arith)
    ∙ hex_more ((0 * 16 + n / 4096 % 16) * 16 + n / 256 % 16) (n / 16 % 16) (hex_byte (n % 16) ∷ []) (omega arith)
    ∙ hex_more (((0 * 16 + n / 4096 % 16) * 16 + n / 256 % 16) * 16 + n / 16 % 16) (n % 16) [] (omega arith)
    ∙ (unfold hex_from in ap Some (
    let c : n / 16 / 16 ≡ n / 256 = omega arith in
    let b : n / 256 / 16 ≡ n / 4096 = omega arith in
    let a : n / 4096 < 16 = omega arith in
    let x : n ≡ n / 16 * 16 + n % 16 = omega arith in
    let y : n / 16 ≡ n / 256 * 16 + n / 16 % 16 = omega (arith, c) in
    let z : n / 256 ≡ n / 4096 * 16 + n / 256 % 16 = omega (arith, b) in
    let w : n / 4096 % 16 ≡ n / 4096 = omega arith in
    let q : (((0 * 16 + n / 4096 % 16) * 16 + n / 256 % 16) * 16 + n / 16 % 16) * 16 + n % 16 ≡ n = omega arith in q))

digit-free : (s d : ℕ) → s < 48 → eqb (hex_byte d) s ≡ false
unfolding hex_byte
digit-free s d h = by_bool (ltb d 10) (λ e. cc (above s (48 + d) (omega arith))) (λ q. cc (above s (87 + d) (omega arith)))

hex_free : (s n : ℕ) → s < 48 → Free s (hex_text n)
unfolding hex_text
hex_free s n h = (digit-free s (n / 4096 % 16) h, (digit-free s (n / 256 % 16) h, (digit-free s (n / 16 % 16) h, (digit-free s (n % 16) h, tt))))

-- ---- a gate's line

-- the line, without its end
unfoldable pub gate_body : Gate → List ℕ
unfolding number_text hex_text each
gate_body g = g.name ++ (number_text g.pins ++ (32 ∷ hex_text g.table ++ (number_text g.area ++ each number_text g.delays)))

-- a word in front of bytes that byte 10 ends
ends_on : (w x y rest : List ℕ) → x ++ rest ≡ y ++ (10 ∷ rest) → (w ++ x) ++ rest ≡ (w ++ y) ++ (10 ∷ rest)
ends_on w x y rest e = append_assoc w x rest ∙ ap (λ (z : List ℕ). w ++ z) e ∙ sym (append_assoc w y (10 ∷ rest))

gate-ends : (g : Gate) (rest : List ℕ) → gate_text g ++ rest ≡ gate_body g ++ (10 ∷ rest)
unfolding gate_text gate_body
gate-ends g rest =
    ends_on g.name (number_text g.pins ++ (32 ∷ hex_text g.table ++ (number_text g.area ++ (each number_text g.delays ++ (10 ∷ []))))) (number_text g.pins ++ (32 ∷ hex_text g.table ++ (number_text g.area ++ each number_text g.delays))) rest
    (ends_on (number_text g.pins) (32 ∷ hex_text g.table ++ (number_text g.area ++ (each number_text g.delays ++ (10 ∷ [])))) (32 ∷ hex_text g.table ++ (number_text g.area ++ each number_text g.delays)) rest
    (ends_on (32 ∷ hex_text g.table) (number_text g.area ++ (each number_text g.delays ++ (10 ∷ []))) (number_text g.area ++ each number_text g.delays) rest
    (ends_on (number_text g.area) (each number_text g.delays ++ (10 ∷ [])) (each number_text g.delays) rest
    (append_assoc (each number_text g.delays) (10 ∷ []) rest))))

name-bytes : (w : List ℕ) → T (is_name w) → T (all is_name_byte w)
unfolding is_name all is_name_byte
name-bytes [] t = absurd t
name-bytes (b ∷ bs) t = let p = and_yes (is_letter b) (all is_name_byte bs && leb (length bs) 7) t in by_bool (is_letter b)
    (λ e. rw e (and_yes (all is_name_byte bs) (leb (length bs) 7) p.1).0) (λ q. rw q (absurd (rw q at p.0)))

name_free : (s : ℕ) (w : List ℕ) → s < 48 → T (is_name w) → Free s w
name_free s w h t = bytes-free s w h (name-bytes w t)

figures-free : (s : ℕ) (ns : List ℕ) → s < 32 → Free s (each number_text ns)
unfolding each number_text
figures-free s [] h = tt
figures-free s (n ∷ ns) h = (above s 32 h, free_append s (decimal n) (each number_text ns) (decimal-free s n (omega arith)) (figures-free s ns h))

word-free : (s : ℕ) (w rest : List ℕ) → s < 32 → Free s w → Free s rest → Free s (32 ∷ w ++ rest)
word-free s w rest h f r = (above s 32 h, free_append s w rest f r)

body_free : (s : ℕ) (g : Gate) → s < 32 → T (is_name g.name) → Free s (gate_body g)
unfolding gate_body number_text
body_free s g h t =
    free_append s g.name (32 ∷ decimal g.pins ++ (32 ∷ hex_text g.table ++ (32 ∷ decimal g.area ++ each number_text g.delays))) (name_free s g.name (omega arith) t)
    (word-free s (decimal g.pins) (32 ∷ hex_text g.table ++ (32 ∷ decimal g.area ++ each number_text g.delays)) h (decimal-free s g.pins (omega arith))
    (word-free s (hex_text g.table) (32 ∷ decimal g.area ++ each number_text g.delays) h (hex_free s g.table (omega arith))
    (word-free s (decimal g.area) (each number_text g.delays) h (decimal-free s g.area (omega arith)) (figures-free s g.delays h))))

body_fields : (g : Gate) → T (is_name g.name) → fields (gate_body g) ≡ g.name ∷ decimal g.pins ∷ hex_text g.table ∷ map decimal (g.area ∷ g.delays)
unfolding gate_body number_text
body_fields g t = fields-word g.name _ (name_free 32 g.name (lit< tt) t) ∙ ap (λ (ws : List (List ℕ)). g.name ∷ ws)
    (fields-word (decimal g.pins) _ (decimal-free 32 g.pins (lit< tt)) ∙ ap (λ (ws : List (List ℕ)). decimal g.pins ∷ ws)
    (fields-word (hex_text g.table) _ (hex_free 32 g.table (lit< tt)) ∙ ap (λ (ws : List (List ℕ)). hex_text g.table ∷ ws)
    (fields-numbers (decimal g.area) (decimal-free 32 g.area (lit< tt)) g.delays)))

cell-four : (g : Gate) → T (is_name g.name) → GateFits g → (d0 d1 d2 d3 : ℕ) → g.delays ≡ d0 ∷ d1 ∷ d2 ∷ d3 ∷ [] → cell_of_fields false (g.name ∷ decimal g.pins ∷ hex_text g.table ∷ map decimal (g.area ∷ d0 ∷ d1 ∷ d2 ∷ d3 ∷ []))
    ≡ Some (record { name = name_bytes g.name; len = length g.name; pins = g.pins; table = g.table; area = g.area; delays = d0 ∷ d1 ∷ d2 ∷ d3 ∷ []; mins = d0 ∷ d1 ∷ d2 ∷ d3 ∷ [] })
unfolding cell_of_fields and_then only all
cell-four g t f d0 d1 d2 d3 e =
    ap (λ (b : Bool). and_then (only b ws) (λ _. and_then (numbers (map decimal (g.pins ∷ g.area ∷ d0 ∷ d1 ∷ d2 ∷ d3 ∷ [])))
    (λ ns. and_then (hex_table (hex_text g.table)) (λ table. only (leb (get_or ns 0 0) 4) (made ns table))))) (is_true (is_name g.name) t)
    ∙ ap (λ (o : Option (List ℕ)). and_then o (λ ns. and_then (hex_table (hex_text g.table)) (λ table. only (leb (get_or ns 0 0) 4) (made ns table))))
    (numbers-back (g.pins ∷ g.area ∷ d0 ∷ d1 ∷ d2 ∷ d3 ∷ []) (unfold all in yes_and (leb g.pins 65535)
    (leb g.area 65535 && all (λ (n : ℕ). leb n 65535) (d0 ∷ d1 ∷ d2 ∷ d3 ∷ [])) (le→leb g.pins 65535 (omega (arith, f.pins)))
    (yes_and (leb g.area 65535) (all (λ (n : ℕ). leb n 65535) (d0 ∷ d1 ∷ d2 ∷ d3 ∷ [])) (yes_leb f.area)
    (subst (λ (ds : List ℕ). T (all (λ (n : ℕ). leb n 65535) ds)) e f.delays))))
    ∙ ap (λ (o : Option ℕ). and_then o (λ table. only (leb g.pins 4) (made (g.pins ∷ g.area ∷ d0 ∷ d1 ∷ d2 ∷ d3 ∷ []) table))) (hex_back g.table (omega (arith, f.table, two-most g.pins f.pins)))
    ∙ ap (λ (b : Bool). only b (made (g.pins ∷ g.area ∷ d0 ∷ d1 ∷ d2 ∷ d3 ∷ []) g.table)) (is_true (leb g.pins 4) (yes_leb f.pins))
  where
    ws : List (List ℕ)
    ws = g.name ∷ decimal g.pins ∷ hex_text g.table ∷ map decimal (g.area ∷ d0 ∷ d1 ∷ d2 ∷ d3 ∷ [])

    made : List ℕ → ℕ → Cell
    made ns table =
        record { name = name_bytes g.name; len = length g.name; pins = get_or ns 0 0; table = table; area = get_or ns 1 0; delays = take 4 (drop 2 ns); mins = drop 2 ns }

four_are : (ds : List ℕ) → length ds ≡ 4 → (d0 : ℕ) × (d1 : ℕ) × (d2 : ℕ) × (d3 : ℕ) × (ds ≡ d0 ∷ d1 ∷ d2 ∷ d3 ∷ [])
four_are [] e = absurd (omega arith)
four_are (a ∷ []) e = absurd (omega arith)
four_are (a ∷ b ∷ []) e = absurd (omega arith)
four_are (a ∷ b ∷ c ∷ []) e = absurd (omega arith)
four_are (a ∷ b ∷ c ∷ d ∷ []) e = (a, b, c, d, refl)
four_are (a ∷ b ∷ c ∷ d ∷ x ∷ xs) e = absurd (omega arith)

-- a gate's line gives its cell
cell-back : (at : ℕ) (g : Gate) → T (is_name g.name) → GateFits g → cell_of_line false (line_of_bytes at (gate_body g)) ≡ Some (cell_of_gate g)
unfolding cell_of_line and_then only cell_of_gate
cell-back at g t f =
    let r = four_are g.delays f.four in
    cc (body_fields g t, r.4, cell-four g t f r.0 r.1 r.2 r.3 r.4)

cell_clean : (g : Gate) → GateFits g → is_clean (cell_of_gate g) ≡ true
unfolding is_clean cell_of_gate
cell_clean g f =
    let absent = all (eqb 0) (drop g.pins g.delays) in
    is_true (ltb g.table (2 ^ 2 ^ g.pins) && (absent && absent))
    (yes_and (ltb g.table (2 ^ 2 ^ g.pins)) (absent && absent) (yes_ltb f.table) (yes_and absent absent f.absent f.absent))

cell_range : (g : Gate) → no_lower (cell_of_gate g).mins (cell_of_gate g).delays ≡ true
unfolding cell_of_gate
cell_range g = none-lower g.delays

pub cell-name : (g : Gate) → name_of (cell_of_gate g) ≡ g.name
unfolding name_of cell_of_gate name_bytes
cell-name g = take-append_seam g.name (replicate (8 - length g.name) 0)

-- ---- all lines

gate-first : (at : ℕ) (g : Gate) (rest : List ℕ) → T (is_name g.name) → lines_from at [] (gate_text g ++ rest) ≡ line_of_bytes at (gate_body g) ∷ lines_from (at + suc (length (gate_body g))) [] rest
gate-first at g rest t = ap (lines_from at []) (gate-ends g rest) ∙ line_first at (gate_body g) rest (body_free 10 g (lit< tt) t) (body_free 13 g (lit< tt) t)

-- a name that no cell before has
is_new_lem : (g : Gate) (before : List Cell) → ((d : Cell) → Memᴰ d before → ¬ (g.name ≡ name_of d)) → not (any (λ (d : Cell). same (name_of (cell_of_gate g)) (name_of d)) before) ≡ true
is_new_lem g before h =
    ap not (any_none (λ (d : Cell). same (name_of (cell_of_gate g)) (name_of d)) before
    (λ d m. is_false (same (name_of (cell_of_gate g)) (name_of d)) (not_T (same (name_of (cell_of_gate g)) (name_of d)) (λ t. h d m (sym (cell-name g) ∙ same-eq (name_of (cell_of_gate g)) (name_of d) t)))))

lines-back : (k at : ℕ) (before : List Cell) (gs : List Gate) → k + length gs ≤ 32 → ((g : Gate) → Memᴰ g gs → GateFits g) → ((g : Gate) → Memᴰ g gs → T (is_name g.name))
    → Distinct (map (λ (g : Gate). g.name) gs) → ((g : Gate) → Memᴰ g gs → (d : Cell) → Memᴰ d before → ¬ (g.name ≡ name_of d))
    → read_cells false k before (lines_from at [] (each gate_text gs)) ≡ holds (map cell_of_gate gs)
unfolding read_cells each next unless from? lines_from
lines-back k at before [] few fit named once new = refl
lines-back k at before (g ∷ gs) few fit named once new =
    let t = named g (Memᴰ-head refl) in
    let f = fit g (Memᴰ-head refl) in
    let onward : Cell → Read (List Cell) = λ c. next
    (read_cells false (suc k) (c ∷ before) (lines_from (at + suc (length (gate_body g))) [] (each gate_text gs))) (λ cs. holds (c ∷ cs)) in
    let range : Cell → Read (List Cell) = λ c. unless (no_lower c.mins c.delays) 27 at (onward c) in
    let rest : Cell → Read (List Cell) = λ c. unless (not (any (λ (d : Cell). same (name_of c) (name_of d)) before)) 5 at
    (unless (is_clean c) 6 at (range c)) in
    ap (read_cells false k before) (gate-first at g (each gate_text gs) t)
    ∙ ap (λ (b : Bool). unless b 3 at (next (from? (cell_of_line false (line_of_bytes at (gate_body g))) 4 at) rest)) (is_true (ltb k 32) (lt→ltb k 32 (omega arith)))
    ∙ ap (λ (o : Option Cell). next (from? o 4 at) rest) (cell-back at g t f)
    ∙ ap (λ (b : Bool). unless b 5 at (unless (is_clean (cell_of_gate g)) 6 at (range (cell_of_gate g)))) (is_new_lem g before (new g (Memᴰ-head refl)))
    ∙ ap (λ (b : Bool). unless b 6 at (range (cell_of_gate g))) (cell_clean g f)
    ∙ ap (λ (b : Bool). unless b 27 at (onward (cell_of_gate g))) (cell_range g)
    ∙ ap (λ (r : Read (List Cell)). next r (λ cs. holds (cell_of_gate g ∷ cs)))
    (lines-back (suc k) (at + suc (length (gate_body g))) (cell_of_gate g ∷ before) gs (omega arith) (λ h m. fit h (Memᴰ-tail m)) (λ h m. named h (Memᴰ-tail m)) once.1 later)
  where
    later : (h : Gate) → Memᴰ h gs → (d : Cell) → Memᴰ d (cell_of_gate g ∷ before) → ¬ (h.name ≡ name_of d)
    later h m d (Memᴰ-head e) q =
        once.0 (subst (λ (w : List ℕ). Memᴰ w (map (λ (x : Gate). x.name) gs)) (q ∙ ap name_of e ∙ cell-name g) (map_in (λ (x : Gate). x.name) m))
    later h m d (Memᴰ-tail n) q = new h (Memᴰ-tail m) d n q

-- the names line, and the lines behind it
names-first : (rest : List ℕ) → lines_from 0 [] (text "cell pins table area d0 d1 d2 d3\n" ++ rest) ≡ line_of_bytes 0 (text "cell pins table area d0 d1 d2 d3") ∷ lines_from 33 [] rest
unfolding lines_from text closing
names-first rest = refl

-- a written text whose names and counts 3 to 6 accept is read as the gates' cells
pub cells-back : (gs : List Gate) → ((g : Gate) → Memᴰ g gs → GateFits g) → Listable gs → read_library (cells_text gs) ≡ holds (map cell_of_gate gs)
unfolding read_library cells_text read_library_lines is_shorter is_longer unless same text
cells-back gs fit l =
    ap read_library_lines (names-first (each gate_text gs)) ∙ lines-back 0 33 [] gs (omega (arith, l.few)) fit l.names l.once (λ g m d n. absurd (Memᴰ-not-nil n))
