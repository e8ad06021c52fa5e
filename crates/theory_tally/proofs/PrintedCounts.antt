-- Every netlist that the mapper prints is counted, with its own figures.
use Rattle.base.specs.{ℕ, suc, ◌+◌, ◌-◌, ◌≤◌, ◌<◌, arith, ◌≡◌, refl, sym, ◌∙◌, ap, ap₂, subst, Bool, true, false, None, List, [], ◌∷◌, ◌++◌}
use Rattle.base.specs.{map, append-nil, Memᴰ, Memᴰ-head, Memᴰ-tail, T, length, le-leb, lt-ltb}
use Rattle.model.specs.{each, same, from, below, Line, text, lines_from, split, onto, fields, Read, holds, next, unless, name_of, cell_at}
use Rattle.model.specs.{read_library, is_ranged, absent, chosen, Gate, out_name, sum, figures_of, min_arrival_of, Call, read_texts, choice_text}
use Rattle.model.specs.{choice_figures, printed_text, in_width, preamble, timings, behind_gates, outputs_of, area_of, gate_in, gates_in, after_gates}
use Rattle.model.specs.{expected_lines, nothing_left, read_counted, counted, count_text, is_wire}
use Rattle.model.specs.Graph.{Graph}
use Rattle.model.specs.declared.Cell.{Cell}
use Rattle.model.specs.declared.Figures.{Figures}
use Rattle.model.specs.declared.Tally.{Tally}
use Rattle.theory_graph.specs.AcceptedGraph.{Accepted}
use Rattle.theory_graph.specs.{library_fits}
use Rattle.theory_graph.proofs.{length-map, length_from}
use Rattle.theory_text.proofs.{line_of_bytes, name_clear, Clear, holds-once, texts-read, design-accepted, printed-choice, named-cell}
use Rattle.theory_text.proofs.{output_names}
use Rattle.theory_demands.proofs.{Fitting, chosen_gates, gate-listed, line-bound, design-fitting, readable}
use Rattle.promises.specs.Sums.{Grown, CountsPrinted}
use Rattle.theory_tally.proofs.SumLaws.{grown}
use Rattle.theory_tally.proofs.LineWords.{Wholes, wholes_append, lined, lines_of_words, behind, lines_laid, laid_append}
use Rattle.theory_tally.proofs.ExpectedMet.{Meets, meets_append, expected_met, AreGates, gates_met, behind_met, no_gate_lem, Found, gate-found}
use Rattle.theory_tally.proofs.NetlistRows.{gate_row, gate-whole, gate_form_lem, other_form, model_row, inputs_row, outputs_row, model-whole}
use Rattle.theory_tally.proofs.NetlistRows.{inputs-whole, outputs-whole, inputs_met, outputs_met, outputs-fields, wire_row, wire_rows}
use Rattle.theory_tally.proofs.NetlistRows.{wire-fields, wires_met, wires-whole, figure_row, figure-whole, figure_met, timing_rows}
use Rattle.theory_tally.proofs.NetlistRows.{timings-whole, timings_met, timings_lined, behind_rows, netlist_rows, netlist_lined}

-- ---- the gates

-- gates of listed cells, with as many nets as their cells have pins
pub record Fine (cells : List Cell) (t : Gate) : Type 0 where
  pub listed : Memᴰ t.cell cells
  pub count : length t.pins ≡ t.cell.pins
  pub clear : Clear (name_of t.cell)

-- the cells that gate lines are counted as
record Uses (cells : List Cell) (ts : List Gate) : Type 0 where
  used : List ℕ
  are_gates : AreGates cells (map gate_row ts) used
  many : length used ≡ length ts
  area : area_of cells used ≡ sum (map (λ (t : Gate). t.cell.area) ts)

module _ (cells : List Cell) (fit : T (library_fits cells)) where
  row-found : (t : Gate) → Fine cells t → Found 0 cells t.cell (gate_row t)
  row-found t f =
      gate-found t.cell (gate_row t) (gate_form_lem t f.clear f.count) (λ d n. other_form t d f.clear n) 0 cells f.listed (named-cell cells fit t.cell f.listed)

  uses : (ts : List Gate) → ((t : Gate) → Memᴰ t ts → Fine cells t) → Uses cells ts
  unfolding area_of sum
  uses [] h = record { used = []; are_gates = tt; many = refl; area = refl }
  uses (t ∷ ts) h =
      let r = row-found t (h t (Memᴰ-head refl)) in
      let u = uses ts (λ s m. h s (Memᴰ-tail m)) in
      record {
        used = (0 + r.index) ∷ u.used;
        are_gates = (r.is_gate, u.are_gates);
        many = ap suc u.many;
        area = ap₂ (λ (a b : ℕ). a + b) (ap (λ (i : ℕ). (cell_at cells i).area) (let z : 0 + r.index ≡ r.index = omega arith in z) ∙ ap (λ (c : Cell). c.area) r.is_cell) u.area;
      }

gates-whole : (cells : List Cell) (ts : List Gate) → ((t : Gate) → Memᴰ t ts → Fine cells t) → Wholes (map gate_row ts)
gates-whole cells [] h = tt
gates-whole cells (t ∷ ts) h = (gate-whole t (h t (Memᴰ-head refl)).clear, gates-whole cells ts (λ s m. h s (Memᴰ-tail m)))

-- ---- what stands behind the gates

-- its first line is no gate's
record Opened (cells : List Cell) (at : ℕ) (ws : List (List ℕ)) : Type 0 where
  line : Line
  rest : List Line
  is_first : lines_of_words at ws ≡ line ∷ rest
  not_gate : gate_in cells line ≡ None

opened : (cells : List Cell) (at : ℕ) (ls : List ℕ) (more : List (List ℕ)) → Opened cells at (wire_rows 0 ls ++ (text ".end" ∷ more))
unfolding wire_rows lines_of_words gate_in
opened cells at [] more =
    record { line = line_of_bytes at (text ".end"); rest = _; is_first = refl; not_gate = no_gate_lem 0 cells (text ".end") (text ".end") [] (unfold text fields split onto in refl) (unfold same text in refl) }
opened cells at (l ∷ ls) more =
    record { line = line_of_bytes at (wire_row 0 l); rest = _; is_first = refl; not_gate = no_gate_lem 0 cells (wire_row 0 l) (text ".names") _ (wire-fields 0 l) (unfold same text in refl) }

-- the lines that follow the `# gates` line
record Times (ranged : Bool) (outs : List ℕ) : Type 0 where
  rows : List (List ℕ)
  met : Meets (timings ranged (length outs)) rows
  whole : Wholes rows

-- ---- the whole

module _ (ranged : Bool) (cells : List Cell) (fit : T (library_fits cells)) (g : Graph) (ts : List Gate) (fine : (t : Gate) → Memᴰ t ts → Fine cells t) (f : Figures)
    (many : f.gates ≡ length ts) (area : f.area ≡ sum (map (λ (t : Gate). t.cell.area) ts)) (times : Times ranged g.outputs) where
  u : Uses cells ts
  u = uses cells fit ts fine

  rows : List (List ℕ)
  rows = netlist_rows g ts f times.rows

  front : List (List ℕ)
  front = model_row ∷ inputs_row g ∷ outputs_row g ∷ []

  behind-whole : Wholes (behind_rows g f times.rows)
  behind-whole = wholes_append (wire_rows 0 g.outputs) (text ".end" ∷ figure_row f ∷ times.rows) (wires-whole 0 g.outputs)
      ((unfold text in ((refl, (refl, (refl, (refl, tt)))), (refl, (refl, (refl, (refl, tt)))))), (figure-whole f, times.whole))

  rows_whole : Wholes rows
  unfolding rows
  rows_whole = (model-whole, (inputs-whole g, (outputs-whole g, wholes_append (map gate_row ts) (behind_rows g f times.rows) (gates-whole cells ts fine) behind-whole)))

  -- where the gates begin, and where the lines behind them
  a : ℕ
  a = behind 0 front

  b : ℕ
  b = behind a (map gate_row ts)

  tail : Opened cells b (behind_rows g f times.rows)
  tail = opened cells b g.outputs (figure_row f ∷ times.rows)

  lines : lines_from 0 [] (lined rows) ≡ lines_of_words 0 front ++ (lines_of_words a (map gate_row ts) ++ (tail.line ∷ tail.rest))
  unfolding front rows a b
  lines = cc (
    lines_laid 0 rows rows_whole,
    laid_append 0 front (map gate_row ts ++ behind_rows g f times.rows),
    laid_append a
        (map gate_row ts) (behind_rows g f times.rows),
    tail.is_first,
  )

  front_met : Meets preamble front
  unfolding preamble front
  front_met = ((unfold same text in refl), (inputs_met g, (outputs_met g, tt)))

  outs : outputs_of (lines_of_words 0 front ++ (lines_of_words a (map gate_row ts) ++ (tail.line ∷ tail.rest))) ≡ length g.outputs
  unfolding outputs_of front lines_of_words
  outs = ap (λ (ws : List (List ℕ)). length ws - 1) (outputs-fields g)
      ∙ (let z : suc (length (output_names g)) - 1 ≡ length (output_names g) = omega arith in z)
      ∙ length-map out_name (below (length g.outputs)) ∙ (unfold below in length_from (length g.outputs) 0)

  -- the lines are read as the gates' cells
  read-rows : read_counted ranged cells (lined rows) ≡ holds u.used
  unfolding read_counted next
  read-rows =
      let end = length (lined rows) in
      let ls : List Line = lines_of_words 0 front ++ (lines_of_words a (map gate_row ts) ++ (tail.line ∷ tail.rest)) in
      let behind_them : ℕ → List ℕ → List Line → Read (List ℕ) = λ n us after. next
      (expected_lines end (behind_gates ranged n (length us) (area_of cells us)) after) (λ rest. next (nothing_left rest) (λ _. holds us)) in
      let whole : List Line → Read (List ℕ) = λ xs. next (expected_lines end preamble xs)
      (λ ms. behind_them (outputs_of xs) (gates_in cells ms) (after_gates cells ms)) in
      ap whole lines
      ∙ ap (λ (r : Read (List Line)). next r (λ ms. behind_them (outputs_of ls) (gates_in cells ms) (after_gates cells ms))) (expected_met end 0 preamble front (lines_of_words a (map gate_row ts) ++ (tail.line ∷ tail.rest)) front_met)
      ∙ ap (λ (n : ℕ). behind_them n (gates_in cells (lines_of_words a (map gate_row ts) ++ (tail.line ∷ tail.rest))) (after_gates cells (lines_of_words a (map gate_row ts) ++ (tail.line ∷ tail.rest)))) outs
      ∙ ap₂ (behind_them (length g.outputs)) (gates_met cells tail.line tail.rest tail.not_gate a (map gate_row ts) u.used u.are_gates)
      (behind_met cells tail.line tail.rest tail.not_gate a (map gate_row ts) u.used u.are_gates)
      ∙ ap₂ (λ (n : ℕ) (k : ℕ). next (expected_lines end (behind_gates ranged (length g.outputs) n k) (tail.line ∷ tail.rest)) (λ rest. next (nothing_left rest) (λ _. holds u.used))) (u.many ∙ sym many) (u.area ∙ sym area)
      ∙ ap (λ (r : Read (List Line)). next r (λ rest. next (nothing_left rest) (λ _. holds u.used))) (ap
      (expected_lines end (behind_gates ranged (length g.outputs) f.gates f.area))
      (sym tail.is_first ∙ sym (append-nil (lines_of_words b (behind_rows g f times.rows)))) ∙ expected_met end b
      (behind_gates ranged (length g.outputs) f.gates f.area) (behind_rows g f times.rows) []
      (meets_append (each (λ (_ : ℕ). is_wire ∷ same (text "1 1") ∷ []) (from 0 (length g.outputs))) _ (wire_rows 0 g.outputs)
      (text ".end" ∷ figure_row f ∷ times.rows) (wires_met 0 0 g.outputs) ((unfold same text in refl), (figure_met f, times.met))))
      ∙ (unfold nothing_left in refl)

  rows-counted : (used : List ℕ) × (read_counted ranged cells (lined (netlist_rows g ts f times.rows)) ≡ holds used) × (length used ≡ f.gates) × (area_of cells used ≡ f.area)
  unfolding rows
  rows-counted = (u.used, read-rows, u.many ∙ sym many, u.area ∙ sym area)

-- ---- what the mapper prints

module _ (listed cells : List Cell) (fit : Fitting listed cells) (g : Graph) (ok : Accepted g)
    (present-outputs : (l : ℕ) → Memᴰ l g.outputs → absent (chosen cells g l).source ≡ false) where
  gates_fine : (t : Gate) → Memᴰ t (chosen_gates listed cells g) → Fine listed t
  gates_fine t m =
      let o = gate-listed listed cells fit g ok present-outputs t m in
      record { listed = o.0; count = o.1; clear = name_clear (name_of t.cell) (line-bound listed cells fit g ok present-outputs t m).is_named }

  printed-read : (ranged : Bool) → (used : List ℕ) × (read_counted ranged listed (printed_text ranged listed cells g) ≡ holds used)
      × (length used ≡ (choice_figures listed cells g).gates) × (area_of listed used ≡ (choice_figures listed cells g).area)
  unfolding timings below figures_of lined
  printed-read false =
      let r = rows-counted false listed fit.fits g (chosen_gates listed cells g) gates_fine (choice_figures listed cells g) refl refl (record { rows = []; met = tt; whole = tt }) in
      (r.0, (ap (read_counted false listed) (sym (append-nil (choice_text listed cells g)) ∙ netlist_lined g (chosen_gates listed cells g) (choice_figures listed cells g) []) ∙ r.1), r.2, r.3)
  printed-read true =
      let low = min_arrival_of cells g in
      let high : ℕ → ℕ = λ (l : ℕ). (chosen cells g l).arrival in
      let r = rows-counted true listed fit.fits g (chosen_gates listed cells g) gates_fine (choice_figures listed cells g) refl refl
      (record { rows = timing_rows low high 0 g.outputs; met = timings_met low high 0 0 g.outputs; whole = timings-whole low high 0 g.outputs }) in (
        r.0,
        (ap (read_counted true listed) (ap (λ (x : List ℕ). choice_text listed cells g ++ x) (timings_lined low high 0 g.outputs)
            ∙ netlist_lined g (chosen_gates listed cells g) (choice_figures listed cells g) (timing_rows low high 0 g.outputs)) ∙ r.1),
        r.2,
        r.3,
      )

-- nothing is refused
accepted : (tally : Tally) (library netlist : List ℕ) (cells : List Cell) (used : List ℕ) → length library ≤ 65536 → length netlist ≤ 65536 → read_library library ≡ holds cells
    → tally.netlists < 64 → in_width tally ≡ true → read_counted (is_ranged library) cells netlist ≡ holds used → count_text tally library netlist ≡ holds (counted cells used tally)
unfolding count_text next unless
accepted tally library netlist cells used a b e n w r = rw (le-leb (length library) 65536 a, le-leb (length netlist) 65536 b, e, lt-ltb tally.netlists 64 n, w, r) refl

-- every netlist that mapping prints is counted, with its own figures: reader and writer agree
pub counts-printed : (c : Call) → CountsPrinted c
counts-printed c t f o short cells e tally h =
    let r = readable c t f o in
    let d = r.0 in
    let reads : read_texts c ≡ holds d = r.2.design in
    let x = texts-read c d reads in
    let p = printed-choice c d reads t f o in
    let q = printed-read d.listed d.cells (design-fitting c d reads) d.graph (design-accepted c d reads p.choice.ordered) p.choice.covered d.ranged in
    let read : read_counted (is_ranged c.library) d.listed t ≡ holds q.0 = ap₂ (λ (b : Bool) (w : List ℕ). read_counted b d.listed w) x.is_range p.is_text ∙ q.1 in
    let w = grown c.library d.listed x.is_library tally t q.0 h.gates_long h.areas_long read in
    let same-cells : d.listed ≡ cells = holds-once (sym x.is_library ∙ e) in
    let gates : length q.0 ≡ f.gates = q.2 ∙ ap (λ (k : Figures). k.gates) (sym p.choice.are_figures) in
    let area : area_of d.listed q.0 ≡ f.area = q.3 ∙ ap (λ (k : Figures). k.area) (sym p.choice.are_figures) in (
      counted d.listed q.0 tally,
      accepted tally c.library t d.listed q.0 x.short_library short x.is_library h.not_full h.fits read,
      subst (λ (ks : List Cell). Grown ks tally (counted d.listed q.0 tally) f.gates f.area) same-cells
          (record { gates_grown = omega (arith, w.gates_grown, gates); areas_grown = omega (arith, w.areas_grown, area); netlists_grown = w.netlists_grown }),
    )
