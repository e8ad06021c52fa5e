-- What the words hold is what `model` defines: under `MappedWords`, the gates, the figures and the netlist of the words are those of the graph.
--     gated, named        every access is inside the words
--     text-represented           the text
--     measured-represented       its length and its figures
use Rattle.base.specs.{◌≡◌, refl, sym, ap, ap₂, subst, ◌∙◌, Bool, true, false, not, cond, true≢false, ◌&&◌, List, [], ◌∷◌, ◌++◌, map}
use Rattle.base.specs.{append_assoc, Memᴰ, Memᴰ-head, Memᴰ-tail, Memᴰ-not-nil, Memᴰ-append_left, ℕ, zero, suc, ◌+◌, ◌-◌}
use Rattle.base.specs.{◌*◌, ◌/◌, ◌%◌, ◌≤◌, ◌<◌, add-zero, le_of_suc-le-suc, not-suc-le-zero, lt_of_not-le, dec_le, arith, T, eqb, leb, ltb}
use Rattle.base.specs.{length, get_or, take, drop, length-append, get_or-append, get_or-append-add, and_yes, leb_yes, ltb-false, lt-ltb}
use Rattle.base.specs.{le-ltb}
use Rattle.model.specs.{all, each, elem, keep, from, below, cut_limit, text, is_letter, is_name_byte, is_name, no_cell, name_of, cell_at, cells_of}
use Rattle.model.specs.{is_inverter, orders, splice, Pair, joins, pair_pins, pair_of, cell_of_pair, pair_at, And, topological_order, order_from, var_of}
use Rattle.model.specs.{negated, literal, opposite, cuts_of, cut_table, over_limit, phase_table, fed_nets, match_nets, feeds, absent, chosen}
use Rattle.model.specs.{IsMatch, Allowed, Net, of_phase, of_pair, Gate, one_gate, two_gates, gates_by, number_of, gates, gate_line, pin_words}
use Rattle.model.specs.{net_name, names_line, wire_line, wire_lines, needed, is_input_source, sum, largest, figures_of, netlist_text, Distinct}
use Rattle.model.specs.{choice_figures}
use Rattle.model.specs.Graph.{Graph}
use Rattle.model.specs.declared.Cell.{Cell}
use Rattle.model.specs.declared.Library.{Library}
use Rattle.model.specs.declared.Header.{Header}
use Rattle.model.specs.declared.Match.{Match}
use Rattle.model.specs.declared.Source.{Source}
use Rattle.model.specs.declared.Source.TheVariants.{Input, Cell as Matched, Inverter as Inverted, Nothing}
use Rattle.model.specs.declared.Phase.{Phase}
use Rattle.model.specs.declared.Figures.{Figures}
use Rattle.theory_graph.proofs.{keep_in, below_out, get_or_in, elem_in, elem_out, map-map, map_same, length-map, order-once, order_small}
use Rattle.theory_graph.proofs.{defined-ordered, cuts-none}
use Rattle.theory_cover.proofs.{fits-places, chosen_fine, needed_present}
use Rattle.theory_text.proofs.{library-cell, cell_form}
use Rattle.theory_demands.proofs.{listed-needed, OfPair, single, double, Fitting, gates_single, gates_double, line-bound}
use Rattle.theory_demands.proofs.RefusalRanks.{Numbered}
use Rattle.base_words.specs.{slot_at, output_at, cut_of, leaves_of, phase_at, is_needed}
use Rattle.base_words.proofs.{capacity-need}
use Rattle.base_truth.specs.{places_below}
use Rattle.base_truth.proofs.{places-fit, nets_taken}
use Rattle.base_text.specs.{Wrote}
use Rattle.base_text.proofs.{put_front}
use Rattle.cells_pairs.specs.{pair_of_id, cells_by, id_bytes, listed_bytes, cell_records_of, line_cell, id_in}
use Rattle.cells_pairs.proofs.{booked, booked_name, booked_pins, booked_area, listed-length, line-is, line-within, id_is, id_within}
use Rattle.net_gates.specs.{pins_by, gates_under, root_in, inner_in, LineReady, PairReady, NumberReady}
use Rattle.net_writer.specs.{SourceReady, GatesWritable, matched_gates, inverted_gates, gate_by, gate_at, gates_from, Named, input_net}
use Rattle.net_writer.specs.{input_names_from, output_names_from, spaced, wire_lines_from, latest_from, preamble_text, figures_text, all_gates}
use Rattle.net_writer.specs.{figures_in, text_in, measured_in, gates_for, text_for, measured_for}
use Rattle.net_writer.specs.MappedWords.{Mapped}
use Rattle.net_writer.proofs.NetlistLength.{gate-needed, gate_idle, map-append, longer}
use Rattle.model.specs.Cuts as cuts

-- ---- lists

-- a list is what stands at each of its places
module _ {A : Type 0} (d : A) (f : ℕ → A) where
  map-from : (xs : List A) (i : ℕ) → ((j : ℕ) → j < length xs → f (i + j) ≡ get_or xs j d) → map f (from i (length xs)) ≡ xs
  unfolding from
  map-from [] i h = refl
  map-from (x ∷ xs) i h =
      ap₂ (λ (y : A) (ys : List A). y ∷ ys) (ap f (sym (add-zero i)) ∙ h 0 (omega arith))
      (map-from xs (suc i) (λ j l. let e : suc i + j ≡ i + suc j = omega arith in ap f e ∙ h (suc j) (omega arith)))

-- the lines of outputs that stand at each place
module _ (f : ℕ → ℕ) where
  wires-from : (ls : List ℕ) (i : ℕ) → ((j : ℕ) → j < length ls → f (i + j) ≡ get_or ls j 0) → each (λ (k : ℕ). wire_line k (f k)) (from i (length ls)) ≡ wire_lines i ls
  unfolding from each wire_lines
  wires-from [] i h = refl
  wires-from (l ∷ ls) i h =
      ap₂ (λ (x : ℕ) (more : List ℕ). wire_line i x ++ more) (ap f (sym (add-zero i)) ∙ h 0 (omega arith))
      (wires-from ls (suc i) (λ j b. let e : suc i + j ≡ i + suc j = omega arith in ap f e ∙ h (suc j) (omega arith)))

-- at each element something or nothing: what those have that are kept
module _ {A B : Type 0} (f : A → List B) (p : A → Bool) (h : A → List B) where
  each-kept : (xs : List A) → ((x : A) → Memᴰ x xs → f x ≡ cond (p x) (h x) []) → each f xs ≡ each h (keep p xs)
  unfolding each keep
  each-kept [] e = refl
  each-kept (x ∷ xs) e = go (p x) (e x (Memᴰ-head refl)) (each-kept xs (λ y m. e y (Memᴰ-tail m)))
    where
      go : (b : Bool) → f x ≡ cond b (h x) [] → each f xs ≡ each h (keep p xs) → f x ++ each f xs ≡ each h (cond b (x ∷ keep p xs) (keep p xs))
      go true q r = ap₂ (λ (a c : List B). a ++ c) q r
      go false q r = ap₂ (λ (a c : List B). a ++ c) q r

-- ---- cuts

few-cuts : (g : Graph) → over_limit g ≡ [] → (v : ℕ) → length (cuts_of g v) ≤ cut_limit
unfolding over_limit cuts_of
few-cuts g none v = ordered (elem v (topological_order g)) refl
  where
    many : (b : Bool) → ltb cut_limit (length (cuts_of g v)) ≡ b → Memᴰ v (topological_order g) → length (cuts_of g v) ≤ cut_limit
    many true e m =
        absurd (Memᴰ-not-nil (subst (λ (vs : List ℕ). Memᴰ v vs) none (keep_in (λ (u : ℕ). ltb cut_limit (length (cuts_of g u))) m (subst T (sym e) tt))))
    many false e m = ltb-false cut_limit (length (cuts_of g v)) e

    ordered : (b : Bool) → elem v (topological_order g) ≡ b → length (cuts_of g v) ≤ cut_limit
    ordered true e = many (ltb cut_limit (length (cuts_of g v))) refl (elem_out v (topological_order g) e)
    ordered false e = omega (arith, ap length (cuts-none g v (λ m. true≢false (sym (elem_in v (topological_order g) m) ∙ e))))

-- ---- the text

regroup : (a b s n o t r : List ℕ) → ((a ++ b) ++ (s ++ ((n ++ o) ++ (t ++ n)))) ++ r ≡ a ++ ((b ++ (s ++ n)) ++ ((o ++ (t ++ n)) ++ r))
regroup a b s n o t r = simp append_assoc

-- the parts of a netlist with given names of the inputs, gates and wires
abbrev parted : List (List ℕ) → List (List ℕ) → List ℕ → List ℕ → Figures → List ℕ
parted ins outs lines wires f =
    (text ".model top\n.inputs" ++ (spaced ins ++ (text "\n.outputs" ++ (spaced outs ++ text "\n")))) ++ (lines ++ (wires ++ figures_text f))

text_shape : (g : Graph) (ts : List Gate) (f : Figures)
    → parted (map (λ (v : ℕ). net_name (literal false v)) g.inputs) (output_names_from 0 (length g.outputs)) (each gate_line ts) (wire_lines 0 g.outputs) f ≡ netlist_text g ts f
unfolding text spaced names_line netlist_text figures_text output_names_from below
text_shape g ts f =
    regroup (text ".model top\n") (text ".inputs") (spaced (map (λ (v : ℕ). net_name (literal false v)) g.inputs)) (text "\n") (text ".outputs") (spaced (output_names_from 0 (length g.outputs))) (each gate_line ts ++ (wire_lines 0 g.outputs ++ figures_text f))

-- ---- lists of cells

get_or-behind : {A : Type 0} (xs ys : List A) (d : A) (k : ℕ) → length xs ≤ k → get_or (xs ++ ys) k d ≡ get_or ys (k - length xs) d
get_or-behind xs ys d k h = ap (λ (j : ℕ). get_or (xs ++ ys) j d) (let e : k ≡ length xs + (k - length xs) = omega arith in e) ∙ get_or-append-add xs ys (k - length xs) d

get_or_of_map : {A B : Type 0} (f : A → B) (xs : List A) (d : A) (e : B) (k : ℕ) → k < length xs → get_or (map f xs) k e ≡ f (get_or xs k d)
get_or_of_map f [] d e k h = absurd (not-suc-le-zero h)
get_or_of_map f (x ∷ xs) d e zero h = refl
get_or_of_map f (x ∷ xs) d e (suc k) h = get_or_of_map f xs d e k (le_of_suc-le-suc h)

map_each : {A B C : Type 0} (f : B → C) (g : A → List B) (xs : List A) → map f (each g xs) ≡ each (λ (x : A). map f (g x)) xs
unfolding each
map_each f g [] = refl
map_each f g (x ∷ xs) = map-append f (g x) (each g xs) ∙ ap (λ (zs : List _). map f (g x) ++ zs) (map_each f g xs)

-- ---- gates by the list of cell records

-- a gate whose cell is as the list of cell records has it
abbrev booked_gate : Gate → Gate
booked_gate t = record { cell = booked t.cell; pins = t.pins; net = t.net }

name-short : (bs : List ℕ) → T (is_name bs) → length bs ≤ 8
unfolding is_name
name-short [] t = absurd t
name-short (b ∷ bs) t =
    let h : length bs ≤ 7 = leb_yes (and_yes (all is_name_byte bs) (leb (length bs) 7) (and_yes (is_letter b) (all is_name_byte bs && leb (length bs) 7) t).1).1 in
    omega arith

-- its line is the gate's
booked_line : (t : Gate) → T (is_name (name_of t.cell)) → gate_line (booked_gate t) ≡ gate_line t
unfolding gate_line
booked_line t h =
    ap (λ (name : List ℕ). text ".gate " ++ (name ++ (pin_words 65 t.pins ++ (pin_words 79 (t.net ∷ []) ++ text "\n")))) (booked_name t.cell (name-short (name_of t.cell) h))

booked_lines : (ts : List Gate) → ((t : Gate) → Memᴰ t ts → T (is_name (name_of t.cell))) → each gate_line (map booked_gate ts) ≡ each gate_line ts
unfolding each
booked_lines [] h = refl
booked_lines (t ∷ ts) h = ap₂ (λ (a b : List ℕ). a ++ b) (booked_line t (h t (Memᴰ-head refl))) (booked_lines ts (λ u m. h u (Memᴰ-tail m)))

booked_areas : (ts : List Gate) → map (λ (u : Gate). u.cell.area) (map booked_gate ts) ≡ map (λ (u : Gate). u.cell.area) ts
booked_areas [] = refl
booked_areas (t ∷ ts) = λ i. booked_area t.cell i ∷ booked_areas ts i

-- the list of cell records, as what is written at its start
pub records_is : (lib : Library) (ids zeros records : List ℕ) (r : ℕ) → Wrote zeros records 0 r (cell_records_of (cells_of lib) ids)
    → records ≡ listed_bytes (cells_of lib) ++ (each id_bytes ids ++ drop (length (cell_records_of (cells_of lib) ids)) zeros)
records_is lib ids zeros records r e =
    e.leaves ∙ put_front zeros (cell_records_of (cells_of lib) ids) ∙ append_assoc (listed_bytes (cells_of lib)) (each id_bytes ids) (drop (length (cell_records_of (cells_of lib) ids)) zeros)

-- ---- the words

module _ (w : List ℕ) (lib : Library) (ids : List ℕ) (h : Header) (g : Graph) (k : Mapped w lib ids h g) (rest : List ℕ) where
  -- the listed cells, those to map with, and the list of cell records
  abbrev listed : List Cell
  listed = cells_of lib

  abbrev cells : List Cell
  cells = cells_by (cells_of lib) ids

  abbrev more : List ℕ
  more = each id_bytes ids ++ rest

  abbrev records : List ℕ
  records = listed_bytes (cells_of lib) ++ (each id_bytes ids ++ rest)

  once : Distinct (topological_order g)
  once = order-once g k.accepted

  -- ---- what stands under a number

  listed-few : (i : ℕ) → i < lib.n → i < length listed
  listed-few i l = omega (arith, k.coded.joinable.whole)

  -- a pair's number, of the cells' number c
  abbrev id_of : ℕ → ℕ
  id_of c = get_or ids (c - length listed) 0

  cells-long : length cells ≡ length listed + length ids
  unfolding cells_by
  cells-long = length-append listed (map (λ (x : ℕ). cell_of_pair listed (pair_of_id x)) ids) ∙ ap (λ (n : ℕ). length listed + n) (length-map (λ (x : ℕ). cell_of_pair listed (pair_of_id x)) ids)

  cell-listed : (c : ℕ) → c < length listed → cell_at cells c ≡ cell_at listed c
  unfolding cell_at cells_by
  cell-listed c l = get_or-append listed (map (λ (x : ℕ). cell_of_pair listed (pair_of_id x)) ids) no_cell c l

  module _ (c : ℕ) (l : length listed ≤ c) (b : c < length cells) where
    there : c - length listed < length ids
    there = omega (arith, cells-long)

    is-pair : pair_of_id (id_of c) ≡ pair_at listed c
    unfolding pair_at
    is-pair = k.numbered (c - length listed) there

    cell-paired : cell_at cells c ≡ cell_of_pair listed (pair_of_id (id_of c))
    unfolding cell_at cells_by
    cell-paired =
        get_or-behind listed (map (λ (x : ℕ). cell_of_pair listed (pair_of_id x)) ids) no_cell c l
        ∙ get_or_of_map (λ (x : ℕ). cell_of_pair listed (pair_of_id x)) ids 0 no_cell (c - length listed) there

    root-there : id_of c / 128 < length listed
    root-there = listed-few (id_of c / 128) (k.coded.root (c - length listed) there)

    inner-there : id_of c % 32 < length listed
    inner-there = listed-few (id_of c % 32) (k.coded.inner (c - length listed) there)

    of_pair_lem : OfPair listed (pair_of_id (id_of c))
    unfolding joins cell_at
    of_pair_lem =
        let q = and_yes (leb 1 (cell_at listed (id_of c % 32)).pins) (leb ((cell_at listed (id_of c / 128)).pins + (cell_at listed (id_of c % 32)).pins) 5) (subst T (sym (k.coded.joined (c - length listed) there)) tt) in
        record {
          has_root = get_or_in listed (id_of c / 128) no_cell root-there;
          has_inner = get_or_in listed (id_of c % 32) no_cell inner-there;
          has_pin = k.coded.pin (c - length listed) there;
          some_pin = leb_yes q.0;
          few = leb_yes q.1;
        }

  numbered : (c : ℕ) → c < length cells → Numbered listed cells c
  numbered c b = elim (dec_le (length listed) c) [
    | no lt ↦ let l : c < length listed = lt_of_not-le lt in single l (cell-listed c l)
    | yes le ↦
        double le (subst (OfPair listed) (is-pair c le b) (of_pair_lem c le b)) (cell-paired c le b ∙ ap (cell_of_pair listed) (is-pair c le b))
  ]

  fit : Fitting listed cells
  fit = record { fits = k.library; numbered = numbered }

  -- ---- the list of cell records

  line-represented : (i : ℕ) → i < length listed → line_cell records i ≡ booked (cell_at listed i)
  line-represented i l = line-is listed more i l

  listed-pins : (i : ℕ) → i < length listed → (cell_at listed i).pins ≤ 4
  unfolding cell_at
  listed-pins i l = (cell_form (get_or listed i no_cell) (library-cell listed k.library (get_or listed i no_cell) (get_or_in listed i no_cell l))).few_pins

  line-pins : (i : ℕ) → i < length listed → (line_cell records i).pins ≡ (cell_at listed i).pins
  line-pins i l = ap (λ (c : Cell). c.pins) (line-represented i l) ∙ booked_pins (cell_at listed i)

  line-ready : (i : ℕ) → i < length listed → LineReady records i
  line-ready i l = record { within = line-within listed more i l; pins = omega (arith, line-pins i l, listed-pins i l) }

  id_represented : (c : ℕ) → length listed ≤ c → c < length cells → id_in records c ≡ id_of c
  id_represented c l b = id_is listed ids rest c l (there c l b)

  pair-ready : (c : ℕ) → length listed ≤ c → c < length cells → PairReady records (id_of c)
  pair-ready c l b =
      let p = of_pair_lem c l b in
      let r = line-pins (id_of c / 128) (root-there c l b) in
      let i = line-pins (id_of c % 32) (inner-there c l b) in
      record {
        root = line-ready (id_of c / 128) (root-there c l b);
        inner = line-ready (id_of c % 32) (inner-there c l b);
        pin = omega (arith, r, p.has_pin);
        some = omega (arith, i, p.some_pin);
        few = omega (arith, r, i, p.few);
      }

  number-ready : (c : ℕ) → c < length cells → NumberReady records c
  number-ready c b = record {
    some = omega (arith, length-append (listed_bytes listed) more, listed-length listed);
    listed = λ l. line-ready c l;
    place = λ l. id_within listed ids rest c l (there c l b);
    pair = λ l. subst (PairReady records) (sym (id_represented c l b)) (pair-ready c l b);
  }

  -- the pins of a number are its cell's, and its gates those of the definition
  pins-represented : (c : ℕ) → c < length cells → pins_by records c ≡ (cell_at cells c).pins
  unfolding pins_by pair_pins cell_of_pair pair_of cell_at
  pins-represented c b = elim (dec_le (length listed) c) [
    | no lt ↦
        let l : c < length listed = lt_of_not-le lt in
        ap (λ (t : Bool). cond t (line_cell records c).pins ((root_in records (id_in records c)).pins + (inner_in records (id_in records c)).pins - 1)) (lt-ltb c (length listed) l)
        ∙ line-pins c l
        ∙ sym (ap (λ (x : Cell). x.pins) (cell-listed c l))
    | yes le ↦
        ap (λ (t : Bool). cond t (line_cell records c).pins ((root_in records (id_in records c)).pins + (inner_in records (id_in records c)).pins - 1)) (le-ltb c (length listed) le)
        ∙ ap (λ (x : ℕ). (root_in records x).pins + (inner_in records x).pins - 1) (id_represented c le b)
        ∙ (λ i. line-pins (id_of c / 128) (root-there c le b) i + line-pins (id_of c % 32) (inner-there c le b) i - 1)
        ∙ sym (ap (λ (x : Cell). x.pins) (cell-paired c le b))
  ]

  under-represented : (c : ℕ) → c < length cells → (fed : List ℕ) (l : ℕ) → gates_under records c fed l ≡ map booked_gate (gates_by listed c fed l)
  unfolding gates_under one_gate two_gates
  under-represented c b fed l = elim (dec_le (length listed) c) [
    | no lt ↦ one (lt_of_not-le lt)
    | yes le ↦ two le
  ]
    where
      one : c < length listed → gates_under records c fed l ≡ map booked_gate (gates_by listed c fed l)
      one q =
          ap (λ (t : Bool). cond t (one_gate (line_cell records c) fed l) (two_gates (root_in records (id_in records c)) (id_in records c / 32 % 4) (inner_in records (id_in records c)) fed l)) (lt-ltb c (length listed) q)
          ∙ ap (λ (x : Cell). one_gate x fed l) (line-represented c q)
          ∙ ap (map booked_gate) (sym (gates_single listed c fed l q))

      doubled : (r i : Cell) (pin : ℕ) → two_gates (booked r) pin (booked i) fed l ≡ map booked_gate (two_gates r pin i fed l)
      doubled r i pin =
          ap (λ (n : ℕ). record { cell = booked i; pins = take n (drop pin (map of_phase fed)); net = of_pair l } ∷ record { cell = booked r; pins = splice pin n (λ (_ : List Net). of_pair l) (map of_phase fed); net = of_phase l } ∷ []) (booked_pins i)

      two : length listed ≤ c → gates_under records c fed l ≡ map booked_gate (gates_by listed c fed l)
      two q =
          ap (λ (t : Bool). cond t (one_gate (line_cell records c) fed l) (two_gates (root_in records (id_in records c)) (id_in records c / 32 % 4) (inner_in records (id_in records c)) fed l)) (le-ltb c (length listed) q)
          ∙ ap (λ (x : ℕ). two_gates (root_in records x) (x / 32 % 4) (inner_in records x) fed l) (id_represented c q b)
          ∙ (λ i. two_gates (line-represented (id_of c / 128) (root-there c q b) i) (id_of c / 32 % 4) (line-represented (id_of c % 32) (inner-there c q b) i) fed l)
          ∙ doubled (cell_at listed (id_of c / 128)) (cell_at listed (id_of c % 32)) (id_of c / 32 % 4)
          ∙ ap (λ (p : Pair). map booked_gate (two_gates (cell_at listed p.root) p.pin (cell_at listed p.inner) fed l)) (is-pair c q b)
          ∙ ap (map booked_gate) (sym (gates_double listed c fed l q))

  -- ---- the sources

  -- the chosen sources are by the rules
  allowed : (l : ℕ) (s : Source) → (chosen cells g l).source ≡ s → absent s ≡ false → Allowed cells g l s
  allowed l s e a = subst (Allowed cells g l) e (chosen_fine cells g once l (ap absent e ∙ a)).0.allowed

  -- an inverter has a name, so it is listed
  inverter-listed : (c : ℕ) → c < length cells → T (is_inverter (cell_at cells c)) → c < length listed
  unfolding is_inverter cell_of_pair pair_of
  inverter-listed c b t = go (numbered c b)
    where
      nameless : (p : Pair) → T (is_inverter (cell_of_pair listed p)) → ⊥
      nameless p u = let r = pair_of (cell_at listed p.root) p.pin (cell_at listed p.inner) in (and_yes (eqb r.table 1) false (and_yes (eqb r.pins 1) (eqb r.table 1 && false) u).1).1

      go : Numbered listed cells c → c < length listed
      go (single l e) = l
      go (double l p e) = absurd (nameless (pair_at listed c) (subst (λ (x : Cell). T (is_inverter x)) e t))

  ready : (l : ℕ) (s : Source) → (chosen cells g l).source ≡ s → SourceReady records s
  unfolding absent
  ready l Input e = tt
  ready l Nothing e = tt
  ready l (Matched x) e =
      let a : IsMatch cells g l x = allowed l (Matched x) e refl in
      record {
        cut = omega (arith, a.has_cut, few-cuts g k.few_cuts (var_of l));
        order = a.has_order;
        number = number-ready x.cell a.has_cell;
      }
  ready l (Inverted c) e = let a = allowed l (Inverted c) e refl in line-ready c (inverter-listed c a.has_cell a.inverts)

  phase-represented : (l : ℕ) → l / 2 ≤ g.size → phase_at w g.size l ≡ chosen cells g l
  phase-represented l b = k.phases.phases l (omega arith)

  output-small : (l : ℕ) → Memᴰ l g.outputs → l / 2 ≤ g.size
  unfolding var_of
  output-small l m =
      order_small g k.accepted (var_of l)
      (defined-ordered g k.accepted (var_of l) (k.accepted.used l (Memᴰ-append_left (each (λ (a : And). a.left ∷ a.right ∷ []) g.ands) m)))

  gated-here : GatesWritable w records g.size
  gated-here = record {
    capacity = capacity-need w g.size (length g.outputs) k.graph.capacity;
    sources = λ l b. subst (λ (p : Phase). SourceReady records p.source) (sym (phase-represented l b)) (ready l (chosen cells g l).source refl);
  }

  named_here : Named w g.size (length g.inputs) (length g.outputs)
  named_here = record {
    capacity = k.graph.capacity;
    few_inputs = k.few_inputs;
    few_outputs = k.few_outputs;
    within = λ i l. subst (λ (x : ℕ). x / 2 ≤ g.size) (sym (k.graph.outputs i l)) (output-small (get_or g.outputs i 0) (get_or_in g.outputs i 0 l));
  }

  -- ---- gates

  abbrev gates_at : ℕ → Source → List Gate
  gates_at l s = gates_by listed (number_of s) (feeds cells (cuts_of g) l s) l

  -- what feeds a match
  fed-represented : (l : ℕ) (x : Match) → l / 2 ≤ g.size → IsMatch cells g l x
      → fed_nets (pins_by records x.cell) (get_or orders x.order []) x.mask (cut_of w g.size (var_of l) x.cut).leaves ≡ feeds cells (cuts_of g) l (Matched x)
  unfolding feeds match_nets var_of
  fed-represented l x b a =
      let c = cell_at cells x.cell in
      let places = get_or orders x.order [] in
      let cut = cut_of w g.size (l / 2) x.cut in
      let leaves : leaves_of cut ≡ cuts.cut_at (cuts_of g) (l / 2) x.cut = k.cuts (l / 2) b x.cut a.has_cut in
      let found = cuts.cut_at (cuts_of g) (l / 2) x.cut in
      let fits = subst T (places-fit c places (length found)) (fits-places c places x.mask (length found) (phase_table (negated l) (cut_table g found (l / 2))) a.agrees) in
      ap (λ (n : ℕ). fed_nets n places x.mask cut.leaves) (pins-represented x.cell a.has_cell)
      ∙ sym (nets_taken c.pins places x.mask cut.count cut.leaves (subst (λ (ls : List ℕ). T (places_below c.pins places (length ls))) (sym leaves) fits))
      ∙ ap (fed_nets c.pins places x.mask) leaves

  matched-represented : (l : ℕ) (x : Match) → l / 2 ≤ g.size → IsMatch cells g l x → matched_gates w records g.size l x ≡ map booked_gate (gates_at l (Matched x))
  unfolding matched_gates number_of
  matched-represented l x b a = under-represented x.cell a.has_cell _ l ∙ ap (λ (fed : List ℕ). map booked_gate (gates_by listed x.cell fed l)) (fed-represented l x b a)

  inverted-represented : (l c : ℕ) → c < length listed → inverted_gates records l c ≡ map booked_gate (gates_at l (Inverted c))
  unfolding inverted_gates feeds number_of one_gate
  inverted-represented l c b = ap (λ (x : Cell). one_gate x (opposite l ∷ []) l) (line-represented c b) ∙ ap (map booked_gate) (sym (gates_single listed c (opposite l ∷ []) l b))

  nets : List ℕ
  nets = needed cells g (chosen cells g)

  -- a needed phase has a source
  source-there : (l : ℕ) → elem l nets ≡ true → (chosen cells g l).source ≡ Nothing → ⊥
  unfolding nets absent
  source-there l e n =
      true≢false (sym (ap absent n) ∙ needed_present cells g once g.outputs k.covered l (listed-needed cells g once l (elem_out l nets e)))

  by_source : (l : ℕ) → l / 2 ≤ g.size → elem l nets ≡ true → (s : Source) → (chosen cells g l).source ≡ s
      → gate_by w records g.size l s ≡ cond (not (is_input_source s)) (map booked_gate (gates_at l s)) []
  unfolding gate_by is_input_source absent
  by_source l b n Input e = refl
  by_source l b n Nothing e = absurd (source-there l n e)
  by_source l b n (Matched x) e = matched-represented l x b (allowed l (Matched x) e refl)
  by_source l b n (Inverted c) e = let a = allowed l (Inverted c) e refl in inverted-represented l c (inverter-listed c a.has_cell a.inverts)

  gate-represented : (l : ℕ) → l / 2 ≤ g.size → gate_at w records g.size l ≡ cond (cond (elem l nets) (not (is_input_source (chosen cells g l).source)) false) (map booked_gate (gates_at l (chosen cells g l).source)) []
  unfolding nets
  gate-represented l b = go (elem l nets) (k.needs.marks l (omega arith)) refl
    where
      go : (t : Bool) → is_needed w g.size l ≡ t → elem l nets ≡ t → gate_at w records g.size l ≡ cond (cond t (not (is_input_source (chosen cells g l).source)) false) (map booked_gate (gates_at l (chosen cells g l).source)) []
      go true n e =
          gate-needed w records g.size l n
          ∙ ap (λ (p : Phase). gate_by w records g.size l p.source) (phase-represented l b)
          ∙ by_source l b e (chosen cells g l).source refl
      go false n e = gate_idle w records g.size l n

  gates-represented : gates_from w records g.size 0 (2 * (g.size + 1)) ≡ map booked_gate (gates_for lib ids g)
  unfolding gates_from gates nets below
  gates-represented =
      let e : 2 * (g.size + 1) ≡ 2 * suc g.size = omega arith in
      let kept : ℕ → Bool = λ (l : ℕ). cond (elem l nets) (not (is_input_source (chosen cells g l).source)) false in
      ap (λ (n : ℕ). each (gate_at w records g.size) (from 0 n)) e
      ∙ each-kept (gate_at w records g.size) kept (λ (l : ℕ). map booked_gate (gates_at l (chosen cells g l).source)) (from 0 (2 * suc g.size))
      (λ l m. gate-represented l (omega (arith, below_out (2 * suc g.size) l m)))
      ∙ sym (map_each booked_gate (λ (l : ℕ). gates_at l (chosen cells g l).source) (keep kept (from 0 (2 * suc g.size))))

  -- each is of a listed cell, which has a name
  lines-represented : each gate_line (gates_from w records g.size 0 (2 * (g.size + 1))) ≡ each gate_line (gates_for lib ids g)
  lines-represented = ap (each gate_line) gates-represented ∙ booked_lines (gates_for lib ids g) (λ t m. (line-bound listed cells fit g k.accepted k.covered t m).is_named)

  -- ---- names

  output-represented : (j : ℕ) → j < length g.outputs → output_at w g.size (0 + j) ≡ get_or g.outputs j 0
  output-represented j l = let e : 0 + j ≡ j = omega arith in ap (output_at w g.size) e ∙ k.graph.outputs j l

  outputs-represented : map (output_at w g.size) (from 0 (length g.outputs)) ≡ g.outputs
  outputs-represented = map-from 0 (output_at w g.size) g.outputs 0 output-represented

  wires-represented : wire_lines_from w g.size 0 (length g.outputs) ≡ wire_lines 0 g.outputs
  unfolding wire_lines_from
  wires-represented = wires-from (output_at w g.size) g.outputs 0 output-represented

  slots-represented : map (λ (i : ℕ). slot_at w g.size (i + 1)) (from 0 (length g.inputs)) ≡ g.inputs
  unfolding topological_order
  slots-represented =
      map-from 0 (λ (i : ℕ). slot_at w g.size (i + 1)) g.inputs 0 (λ j l.
      let e : 0 + j + 1 ≡ suc j = omega arith in
      ap (slot_at w g.size) e
      ∙ k.order.slots (suc j) (omega (arith, longer g.inputs (order_from (length g.ands) g.ands (0 ∷ g.inputs))))
      ∙ get_or-append g.inputs (order_from (length g.ands) g.ands (0 ∷ g.inputs)) 0 j l)

  inputs-represented : input_names_from w g.size 0 (length g.inputs) ≡ map (λ (v : ℕ). net_name (literal false v)) g.inputs
  unfolding input_names_from input_net
  inputs-represented =
      sym (map-map (λ (v : ℕ). net_name (literal false v)) (λ (i : ℕ). slot_at w g.size (i + 1)) (from 0 (length g.inputs)))
      ∙ ap (map (λ (v : ℕ). net_name (literal false v))) slots-represented

  -- ---- the whole

  abbrev header : Header
  header = record { size = g.size; inputs = length g.inputs; latches = h.latches; outputs = length g.outputs; ands = h.ands; next = h.next; binary = h.binary }

  same-header : h ≡ header
  same-header = λ i. record { size = k.size i; inputs = k.inputs i; latches = h.latches; outputs = k.outputs i; ands = h.ands; next = h.next; binary = h.binary }

  pub gates_writable : GatesWritable w records h.size
  gates_writable = subst (GatesWritable w records) (sym k.size) gated-here

  pub named : Named w h.size h.inputs h.outputs
  named = subst (λ (x : Header). Named w x.size x.inputs x.outputs) (sym same-header) named_here

  text-here : (f : Figures) → text_in w records header f ≡ text_for lib ids g f
  unfolding text_in preamble_text all_gates
  text-here f =
      ap₂ (λ (ins : List (List ℕ)) (wires : List ℕ). parted ins (output_names_from 0 (length g.outputs)) (each gate_line (gates_from w records g.size 0 (2 * (g.size + 1)))) wires f) inputs-represented wires-represented
      ∙ ap (λ (lines : List ℕ). parted (map (λ (v : ℕ). net_name (literal false v)) g.inputs) (output_names_from 0 (length g.outputs)) lines (wire_lines 0 g.outputs) f) lines-represented
      ∙ text_shape g (gates_for lib ids g) f

  pub text-represented : (f : Figures) → text_in w records h f ≡ text_for lib ids g f
  text-represented f = ap (λ (x : Header). text_in w records x f) same-header ∙ text-here f

  arrival-represented : latest_from w g.size 0 (length g.outputs) ≡ largest (map (λ (l : ℕ). (chosen cells g l).arrival) g.outputs)
  unfolding latest_from
  arrival-represented =
      ap largest (sym (map-map (λ (l : ℕ). (phase_at w g.size l).arrival) (output_at w g.size) (from 0 (length g.outputs))))
      ∙ ap (λ (ls : List ℕ). largest (map (λ (l : ℕ). (phase_at w g.size l).arrival) ls)) outputs-represented
      ∙ ap largest (map_same (λ (l : ℕ). (phase_at w g.size l).arrival) (λ (l : ℕ). (chosen cells g l).arrival) g.outputs (λ l m. ap (λ (p : Phase). p.arrival) (phase-represented l (output-small l m))))

  figures-here : figures_in w records header ≡ choice_figures listed cells g
  unfolding figures_in all_gates figures_of
  figures-here =
      let count = ap length gates-represented ∙ length-map booked_gate (gates_for lib ids g) in
      let area = ap (λ (ts : List Gate). sum (map (λ (t : Gate). t.cell.area) ts)) gates-represented ∙ ap sum (booked_areas (gates_for lib ids g)) in
      λ i. record { gates = count i; area = area i; arrival = arrival-represented i }

  pub measured-represented : measured_in w records h ≡ measured_for lib ids g
  unfolding measured_in
  measured-represented =
      let f : figures_in w records h ≡ choice_figures listed cells g = ap (figures_in w records) same-header ∙ figures-here in
      let t : text_in w records h (figures_in w records h) ≡ text_for lib ids g (choice_figures listed cells g) = text-represented (figures_in w records h) ∙ ap (text_for lib ids g) f in
      λ i. record { length = length (t i); figures = f i }
