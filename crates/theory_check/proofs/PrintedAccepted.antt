-- "every netlist that `map` prints from the same texts with I up to 12 is accepted".
use Rattle.base.specs.{ℕ, suc, ◌+◌, ◌*◌, ◌≤◌, ◌<◌, ◌≡◌, refl, sym, ◌∙◌, ap, ap₂, subst, false, None, List, [], ◌∷◌, ◌++◌, map, append_assoc}
use Rattle.base.specs.{append-nil, Memᴰ, Memᴰ-append_left, leb, le→leb, length, get_or}
use Rattle.model.specs.{each, same, below, lowest, need, Line, text, decimal, lines_from, Read, holds, next, unless, name_of, And, literal}
use Rattle.model.specs.{var_of, unordered, literal_value, absent, chosen, output, read_library, read_header, read_graph, InputArrival, timed_by, Net, Gate}
use Rattle.model.specs.{net_name, label, out_name, pin_words, gate_line, names_line, wire_line, wire_lines, netlist_text, Call, choice_text}
use Rattle.model.specs.{choice_figures, Driver, is_gate, is_line, unless_at, read_names, read_drivers, past_lines, preamble_of, input_nets, output_nets}
use Rattle.model.specs.{read_netlist, validate_nets, line_ends, assignment_of, read_edited, Right, AcceptsPrinted, PrintedAccepted}
use Rattle.model.specs.Graph.{Graph}
use Rattle.model.specs.declared.Cell.{Cell}
use Rattle.model.specs.declared.Header.{Header}
use Rattle.model.specs.declared.Figures.{Figures}
use Rattle.theory_graph.specs.AcceptedGraph.{Accepted}
use Rattle.theory_graph.proofs.{is_true, same_refl, get_or_in, length-map, defined-ordered, values-only, timed-values, timed-unordered}
use Rattle.theory_text.proofs.{Free, net-free, clears_map, Clears, out_clear, line_of_bytes, line_first, blif_of, Counted, graph-counted}
use Rattle.theory_text.proofs.{Texts, texts-read, design-accepted, design-graph, FromChoice, FromDesign, printed-choice}
use Rattle.theory_demands.proofs.{Fitting, chosen_gates, at-output, net-value, design-fitting, with_timings}
use Rattle.theory_check.proofs.PrintedLines.{AreNets, worded, worded_line, bind_words, Shown, shown_words, shown_line, gates_at}
use Rattle.theory_check.proofs.PrintedLines.{behind_gates, gates-read, names_text, names_at, names-read, names-fields}
use Rattle.theory_check.proofs.PrintedNets.{shown_of, printed_drivers, outputs_form, gates_fine, drivers_pass, drivers-values}
use Rattle.theory_check.proofs.CheckLaws.{edited_compared}

-- ---- the printed text by its words

pin-words : (b : ℕ) (ns : List Net) → pin_words b ns ≡ each (λ (n : List ℕ). 32 ∷ n) (bind_words b (map label ns))
unfolding pin_words bind_words each
pin-words b [] = refl
pin-words b (n ∷ ns) = ap (λ (x : List ℕ). 32 ∷ b ∷ 61 ∷ label n ++ x) (pin-words (suc b) ns)

each_append : (ws vs : List (List ℕ)) → each (λ (n : List ℕ). 32 ∷ n) (ws ++ vs) ≡ each (λ (n : List ℕ). 32 ∷ n) ws ++ each (λ (n : List ℕ). 32 ∷ n) vs
unfolding each
each_append [] vs = refl
each_append (w ∷ ws) vs = ap (λ (x : List ℕ). 32 ∷ w ++ x) (each_append ws vs) ∙ ap (λ (x : List ℕ). 32 ∷ x) (sym (append_assoc w (each (λ (n : List ℕ). 32 ∷ n) ws) (each (λ (n : List ℕ). 32 ∷ n) vs)))

gate-shown : (t : Gate) → gate_line t ≡ shown_line (shown_of t) ++ (10 ∷ [])
unfolding gate_line shown_words text each
gate-shown t =
    let spaced : List (List ℕ) → List ℕ = λ ws. each (λ (n : List ℕ). 32 ∷ n) ws in
    ap (λ (x : List ℕ). text ".gate " ++ x) (cc (
      pin-words 65 t.pins,
      pin-words 79 (t.net ∷ []),
      append_assoc
          (spaced (bind_words 65 (map label t.pins))) (spaced (bind_words 79 (label t.net ∷ []))) (10 ∷ []),
      each_append
          (bind_words 65 (map label t.pins)) (bind_words 79 (label t.net ∷ [])),
      append_assoc (name_of t.cell)
          (spaced (bind_words 65 (map label t.pins) ++ bind_words 79 (label t.net ∷ []))) (10 ∷ []),
    )) ∙ (unfold bind_words in refl)

gates-shown : (ts : List Gate) → each gate_line ts ≡ each (λ (x : Shown). shown_line x ++ (10 ∷ [])) (map shown_of ts)
unfolding each
gates-shown [] = refl
gates-shown (t ∷ ts) = ap₂ (λ (a b : List ℕ). a ++ b) (gate-shown t) (gates-shown ts)

wire_shown_before : (k l : ℕ) (more rest : List ℕ) → more ≡ rest
    → wire_line k l ++ more ≡ worded (text ".names") (net_name l ∷ out_name k ∷ []) ++ (10 ∷ text "1 1" ++ (10 ∷ rest))
unfolding wire_line text each
wire_shown_before k l more rest e =
    cc (
      e,
      append_assoc (net_name l) (32 ∷ out_name k ++ text "\n1 1\n") rest,
      append_assoc
          (out_name k) (text "\n1 1\n") rest,
      append-nil (out_name k),
      append_assoc (net_name l) (32 ∷ out_name k ++ []) (text "\n1 1\n" ++ rest),
    )

wire-shown : (k : ℕ) (ls : List ℕ) → wire_lines k ls ≡ names_text k (map net_name ls)
unfolding wire_lines names_text
wire-shown k [] = refl
wire-shown k (l ∷ ls) = wire_shown_before k l (wire_lines (suc k) ls) (names_text (suc k) (map net_name ls)) (wire-shown (suc k) ls)

-- ---- read

-- where no gate stands first, the outputs' lines are expected
names-expected : (cells : List Cell) (end outs : ℕ) (l : Line) (ls : List Line) → is_gate l ≡ false → read_drivers cells end outs (l ∷ ls) ≡ read_names end 0 outs (l ∷ ls)
unfolding read_drivers
names-expected cells end outs l ls e = cc

names-first : (cells : List Cell) (end outs : ℕ) (ns : List (List ℕ)) → AreNets ns → (at : ℕ) (rest : List ℕ)
    → read_drivers cells end outs (lines_from at [] (names_text 0 ns ++ (text ".end" ++ (10 ∷ rest)))) ≡ read_names end 0 outs (lines_from at [] (names_text 0 ns ++ (text ".end" ++ (10 ∷ rest))))
unfolding names_text text is_gate same
names-first cells end outs [] a at rest = cc (
  (line_first at (text ".end") rest (refl, (refl, (refl, (refl, tt)))) (refl, (refl, (refl, (refl, tt))))),
  names-expected cells end outs
      (line_of_bytes at (text ".end")) _ refl,
)
names-first cells end outs (n ∷ ns) a at rest =
    let behind : List ℕ = text "1 1" ++ (10 ∷ names_text 1 ns) ++ (text ".end" ++ (10 ∷ rest)) in
    let first : lines_from at [] ((worded (text ".names") (n ∷ out_name 0 ∷ []) ++ (10 ∷ text "1 1" ++ (10 ∷ names_text 1 ns))) ++
    (text ".end" ++ (10 ∷ rest))) ≡ line_of_bytes at (worded (text ".names") (n ∷ out_name 0 ∷ [])) ∷ lines_from
    (at + suc (length (worded (text ".names") (n ∷ out_name 0 ∷ [])))) [] behind = ap (lines_from at [])
    (append_assoc (worded (text ".names") (n ∷ out_name 0 ∷ [])) (10 ∷ text "1 1" ++ (10 ∷ names_text 1 ns)) (text ".end" ++ (10 ∷ rest)))
    ∙ worded_line at (text ".names") (n ∷ out_name 0 ∷ []) behind (refl, (refl, (refl, (refl, (refl, (refl, tt))))))
    (refl, (refl, (refl, (refl, (refl, (refl, tt)))))) (a.0.1, (out_clear 0, tt)) in
    cc (first, names-expected cells end outs (line_of_bytes at (worded (text ".names") (n ∷ out_name 0 ∷ []))) _ (cc (names-fields n 0 a.0.1)))

-- a line of the preamble
preamble-line : (end at : ℕ) (key : List ℕ) (ws : List (List ℕ)) (lines : List (List ℕ)) (rest : List ℕ) → Free 10 key → Free 13 key → Clears ws
    → past_lines end (worded key ws ∷ lines) (lines_from at [] (worded key ws ++ (10 ∷ rest))) ≡ past_lines end lines (lines_from (at + suc (length (worded key ws))) [] rest)
unfolding past_lines is_line unless
preamble-line end at key ws lines rest f h c =
    cc (worded_line at key ws rest f h c, is_true (same (worded key ws) (worded key ws)) (same_refl (worded key ws)))

preamble-text : (key : List ℕ) (names : List (List ℕ)) (rest : List ℕ) → names_line key names ++ rest ≡ worded key names ++ (10 ∷ rest)
unfolding names_line text
preamble-text key names rest = cc (
  append_assoc key (each (λ (n : List ℕ). 32 ∷ n) names ++ text "\n") rest,
  append_assoc
      (each (λ (n : List ℕ). 32 ∷ n) names) (text "\n") rest,
  append_assoc key (each (λ (n : List ℕ). 32 ∷ n) names) (10 ∷ rest),
)

module _ (listed cells : List Cell) (fit : Fitting listed cells) (g : Graph) (ok : Accepted g) (small : g.size ≤ 4095)
    (present-outputs : (l : ℕ) → Memᴰ l g.outputs → absent (chosen cells g l).source ≡ false) where
  -- the printed text is read as the drivers of its lines, whatever follows it
  printed-read : (f : Figures) → (at behind : ℕ) × ((after : List ℕ)
      → read_netlist listed g (netlist_text g (chosen_gates listed cells g) f ++ after) ≡ holds (printed_drivers listed cells fit g ok small present-outputs at behind))
  unfolding read_netlist preamble_of
  printed-read f = (third, behind_gates third shown, λ after. ap (λ (r : Read (List Line)). next r (read_drivers listed (end after) outs)) (preamble after) ∙ gates after)
    where
      shown : List Shown
      shown = map shown_of (chosen_gates listed cells g)

      tail : List ℕ → List ℕ
      tail after = text "# gates " ++ (decimal f.gates ++ (text " area " ++ (decimal f.area ++ (text " arrival " ++ (decimal f.arrival ++ (10 ∷ after))))))

      body : List ℕ → List ℕ
      body after = each gate_line (chosen_gates listed cells g) ++ (wire_lines 0 g.outputs ++ (text ".end" ++ (10 ∷ tail after)))

      end : List ℕ → ℕ
      end after = length (netlist_text g (chosen_gates listed cells g) f ++ after)

      whole : (after : List ℕ) → netlist_text g (chosen_gates listed cells g) f ++ after
          ≡ text ".model top" ++ (10 ∷ names_line (text ".inputs") (input_nets g) ++ (names_line (text ".outputs") (output_nets g) ++ body after))
      whole after = unfold netlist_text input_nets output_nets text in simp append_assoc

      outs : ℕ
      outs = length g.outputs

      second : ℕ
      second = 0 + suc (length (worded (text ".model top") [])) + suc (length (worded (text ".inputs") (input_nets g)))

      third : ℕ
      third = second + suc (length (worded (text ".outputs") (output_nets g)))

      preamble : (after : List ℕ) → past_lines (end after) (preamble_of g) (lines_from 0 [] (netlist_text g (chosen_gates listed cells g) f ++ after)) ≡ holds (lines_from third [] (body after))
      preamble after = unfold input_nets output_nets past_lines in
          ap (λ (t : List ℕ). past_lines (end after) (preamble_of g) (lines_from 0 [] t)) (whole after)
          ∙ preamble-line (end after) 0 (text ".model top") [] (worded (text ".inputs") (input_nets g) ∷ worded (text ".outputs") (output_nets g) ∷ []) (names_line (text ".inputs") (input_nets g) ++ (names_line (text ".outputs") (output_nets g) ++ body after))
          (refl, (refl, (refl, (refl, (refl, (refl, (refl, (refl, (refl, (refl, tt)))))))))) (refl, (refl, (refl, (refl, (refl, (refl, (refl, (refl, (refl, (refl, tt)))))))))) tt
          ∙ ap (λ (t : List ℕ). past_lines (end after) (worded (text ".inputs") (input_nets g) ∷ worded (text ".outputs") (output_nets g) ∷ []) (lines_from 11 [] t)) (preamble-text (text ".inputs") (input_nets g) (names_line (text ".outputs") (output_nets g) ++ body after))
          ∙ preamble-line (end after) 11 (text ".inputs") (input_nets g) (worded (text ".outputs") (output_nets g) ∷ []) (names_line (text ".outputs") (output_nets g) ++ body after)
          (refl, (refl, (refl, (refl, (refl, (refl, (refl, tt))))))) (refl, (refl, (refl, (refl, (refl, (refl, (refl, tt)))))))
          (unfold input_nets in clears_map (λ (v : ℕ). net_name (literal false v)) (λ v s h. net-free s (literal false v) h) g.inputs)
          ∙ ap (λ (t : List ℕ). past_lines (end after) (worded (text ".outputs") (output_nets g) ∷ []) (lines_from second [] t)) (preamble-text (text ".outputs") (output_nets g) (body after))
          ∙ preamble-line (end after) second (text ".outputs") (output_nets g) [] (body after)
          (refl, (refl, (refl, (refl, (refl, (refl, (refl, (refl, tt)))))))) (refl, (refl, (refl, (refl, (refl, (refl, (refl, (refl, tt))))))))
          (unfold output_nets in clears_map out_name out_clear (below (length g.outputs)))

      gates : (after : List ℕ) → read_drivers listed (end after) outs (lines_from third [] (body after)) ≡ holds (gates_at third shown ++ names_at (behind_gates third shown) 0 (map net_name g.outputs))
      gates after =
          ap₂ (λ (a b : List ℕ). read_drivers listed (end after) outs (lines_from third [] (a ++ (b ++ (text ".end" ++ (10 ∷ tail after)))))) (gates-shown (chosen_gates listed cells g)) (wire-shown 0 g.outputs)
          ∙ gates-read listed fit.fits (end after) outs shown (gates_fine listed cells fit g ok small present-outputs 0 0) third (names_text 0 (map net_name g.outputs) ++ (text ".end" ++ (10 ∷ tail after)))
          (names_at (behind_gates third shown) 0 (map net_name g.outputs))
          (names-first listed (end after) outs (map net_name g.outputs) (outputs_form listed cells fit g ok small present-outputs 0 0) (behind_gates third shown) (tail after)
          ∙ ap (λ (n : ℕ). read_names (end after) 0 n (lines_from (behind_gates third shown) [] (names_text 0 (map net_name g.outputs) ++ (text ".end" ++ (10 ∷ tail after))))) (sym (length-map net_name g.outputs))
          ∙ names-read (end after) 0 (map net_name g.outputs) (outputs_form listed cells fit g ok small present-outputs 0 0) (behind_gates third shown) (tail after))

  -- each output has the graph's value
  printed-right : (at behind s k : ℕ) → k < length g.outputs → Right g (printed_drivers listed cells fit g ok small present-outputs at behind) s k
  unfolding literal_value blif_of
  printed-right at behind s k h v hv w hw =
      let nets = drivers-values listed cells fit g ok small present-outputs at behind s w hw in
      let l = get_or g.outputs k 0 in
      let m = get_or_in g.outputs k 0 h in
      cc (
        at-output w g.outputs nets.at_wires k h,
        net-value listed cells fit g ok present-outputs (assignment_of s 0 g.inputs) w nets l
            (output m),
        values-only g ok (assignment_of s 0 g.inputs) v hv (var_of l)
            (defined-ordered g ok (var_of l) (ok.used l (Memᴰ-append_left (each (λ (a : And). a.left ∷ a.right ∷ []) g.ands) m))),
      )

-- ---- arrivals are no matter of the check

module _ (g : Graph) (es : List InputArrival) where
  timed-netlist : (cells : List Cell) (t : List ℕ) → read_netlist cells (timed_by g es) t ≡ read_netlist cells g t
  unfolding timed_by read_netlist preamble_of input_nets output_nets
  timed-netlist cells t = refl

  timed-inputs : input_nets (timed_by g es) ≡ input_nets g
  unfolding timed_by input_nets
  timed-inputs = refl

  timed-length : (length (timed_by g es).inputs ≡ length g.inputs) × ((timed_by g es).size ≡ g.size) × (length (timed_by g es).outputs ≡ length g.outputs)
  unfolding timed_by
  timed-length = (refl, refl, refl)

  timed-right : (ds : List Driver) (s k : ℕ) → Right (timed_by g es) ds s k → Right g ds s k
  unfolding timed_by input_nets
  timed-right ds s k r v hv w hw = r v (timed-values g es (assignment_of s 0 g.inputs) v hv) w (record { at_inputs = hw.at_inputs; at_drivers = hw.at_drivers })

-- ---- the whole

-- what is read of texts that hold
module _ (library graph netlist : List ℕ) (words : ℕ) (cells : List Cell) (h : Header) (g : Graph) (ds : List Driver) where
  pub edited_read : length library ≤ 65536 → length graph ≤ 65536 → length netlist ≤ 65536 → read_library library ≡ holds cells → read_header graph ≡ holds h
      → need h.size h.outputs + 8 * line_ends netlist ≤ words → read_graph graph h ≡ holds g → lowest (unordered g) ≡ None → length g.inputs ≤ 12
      → read_netlist cells g netlist ≡ holds ds → validate_nets (input_nets g) ds ≡ holds ds → read_edited library graph netlist words ≡ holds (record { graph = g; drivers = ds })
  unfolding read_edited next unless unless_at
  edited_read a b c l hd n gr p i r j = rw (
    (is_true (leb (length library) 65536) (le→leb (length library) 65536 a)),
    (is_true (leb (length graph) 65536) (le→leb (length graph) 65536 b)),
    (is_true (leb (length netlist) 65536) (le→leb (length netlist) 65536 c)),
    l,
    hd,
    (is_true
        (leb (need h.size h.outputs + 8 * line_ends netlist) words)
        (le→leb (need h.size h.outputs + 8 * line_ends netlist) words n)),
    gr,
    p,
    (is_true (leb (length g.inputs) 12) (le→leb (length g.inputs) 12 i)),
    r,
    j,
  )

-- "Given memory enough, every netlist that `map` prints from the same texts with I up to 12 is accepted."
pub accepts-printed : (c : Call) → AcceptsPrinted c
accepts-printed c d t f words e o few short enough = (edited_compared c.library c.graph t words
    (record { graph = g; drivers = ds }) reads).accepts.1 (λ s b k h. timed-right g es ds s k
    (rw tx.is_timed (printed-right listed cells fit d.graph ok small ch.covered rd.0 rd.1 s k (rw outs-length.2 h))))
  where
    tx : Texts c d
    tx = texts-read c d e

    listed : List Cell
    listed = d.listed

    cells : List Cell
    cells = d.cells

    g : Graph
    g = tx.meant

    es : List InputArrival
    es = tx.input_arrival

    pr : FromDesign d.ranged d.listed d.cells d.graph t f
    pr = printed-choice c d e t f o

    ch : FromChoice d.listed d.cells d.graph (choice_text d.listed d.cells d.graph) f
    ch = pr.choice

    fit : Fitting d.listed d.cells
    fit = design-fitting c d e

    ok : Accepted d.graph
    ok = design-accepted c d e ch.ordered

    small : d.graph.size ≤ 4095
    small = (design-graph c d e).size

    rd : (at behind : ℕ) × ((after : List ℕ) → read_netlist listed d.graph (choice_text listed cells d.graph ++ after) ≡ holds (printed_drivers listed cells fit d.graph ok small ch.covered at behind))
    rd = printed-read listed cells fit d.graph ok small ch.covered (choice_figures listed cells d.graph)

    ds : List Driver
    ds = printed_drivers listed cells fit d.graph ok small ch.covered rd.0 rd.1

    -- the numbers of the design's graph are those of the graph meant
    outs-length : (d.graph.size ≡ g.size) × (length d.graph.inputs ≡ length g.inputs) × (length d.graph.outputs ≡ length g.outputs)
    outs-length = let l = timed-length g es in (
      ap (λ (x : Graph). x.size) (sym tx.is_timed) ∙ l.1,
      ap (λ (x : Graph). length x.inputs) (sym tx.is_timed) ∙ l.0,
      ap (λ (x : Graph). length x.outputs) (sym tx.is_timed) ∙ l.2,
    )

    counted : Counted tx.header g
    counted = graph-counted c.graph tx.header g tx.is_header tx.is_graph

    netlist-read : read_netlist listed g t ≡ holds ds
    netlist-read = cc (
      timed-netlist g es listed t,
      tx.is_timed,
      pr.is_text,
      with_timings (read_netlist listed d.graph) (holds ds)
          d.ranged listed cells d.graph rd.2,
    )

    nets-validated : validate_nets (input_nets g) ds ≡ holds ds
    nets-validated = cc (timed-inputs g es, tx.is_timed, drivers_pass listed cells fit d.graph ok small ch.covered rd.0 rd.1)

    ordered : lowest (unordered g) ≡ None
    ordered = unfold lowest in ap lowest (sym (timed-unordered g es) ∙ ap unordered tx.is_timed ∙ ch.ordered)

    reads : read_edited c.library c.graph t words ≡ holds (record { graph = g; drivers = ds })
    reads = edited_read c.library c.graph t words listed tx.header g ds tx.short_library tx.short_graph short tx.is_library tx.is_header
        (subst (λ (n : ℕ). n ≤ words) (ap₂ (λ (m k : ℕ). need m k + 8 * line_ends t) (outs-length.0 ∙ counted.size) (outs-length.2 ∙ counted.outputs)) enough)
        tx.is_graph ordered (subst (λ (n : ℕ). n ≤ 12) outs-length.1 few) netlist-read nets-validated

-- so of the texts of one check
pub printed-accepted : (library graph netlist : List ℕ) (words : ℕ) → PrintedAccepted library graph netlist words
printed-accepted library graph netlist words paired arrivals with_memory bytes d f =
    accepts-printed (record { paired = paired; library = library; graph = graph; arrivals = arrivals; words = with_memory; bytes = bytes }) d netlist f words
