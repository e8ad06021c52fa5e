-- `load_binary` is the crate model's reading of a text of the binary form:
--     header-fit       what an accepted header and words enough for it are to the passes
--     body             the three passes answer `read_binary`, and where that holds items the words hold their graph
--     load-verdict     14 refuses none of them, so the answer is `read_graph`'s
--     binary_law       and where that holds a graph the words hold it
use Rattle.std.specs.Prelude.{Ok, Err}
use Rattle.model.specs.{Verdict, refused_with}
use Rattle.base.specs.{◌≡◌, refl, sym, ap, ◌∙◌, subst, true, List, [], ◌∷◌, ◌++◌, ℕ, suc, ◌+◌, ◌-◌, ◌*◌, ◌≤◌, arith, length}
use Rattle.model.specs.{elem, any, need, Read, holds, fault, next, verdict_of, verdict_refusal, refusal_of, Item, read_ands, behind_lines}
use Rattle.model.specs.{input_items, read_binary, read_items, defined_by, check_uses, graph_of, read_header, read_graph}
use Rattle.model.specs.Graph.{Graph}
use Rattle.model.specs.declared.Header.{Header}
use Rattle.model.specs.declared.Refusal.{Refusal}
use Rattle.model.proofs.{verdict-rules}
use Rattle.theory_text.proofs.{binary-parts, binary-used, header-fits}
use Rattle.base_words.proofs.{capacity_for}
use Rattle.graph_order.specs.{Fit, LoadedGraph}
use Rattle.graph_loading.specs.{LineResult, expected_count, on_result, opened}
use Rattle.graph_loading.proofs.{nothing, state_first, lines_of, fault-holds, verdict-next, next-holds, joined, Stored, stored-behind}
use Rattle.graph_loading.proofs.{graph_is, graph-represented}
use Rattle.graph_binary.specs.{input_step, input_left, output_step, output_left, gate_step, gate_left, pass_step, pass_words, as_verdict}
use Rattle.graph_binary.specs.{with_inputs, outputs_step, with_outputs, binary_words}
use Rattle.graph_binary.proofs.BinaryReading.{Sound, Taken, Outcome, pass_law, taken_sound, inputs_from, input_none, input-step, gates_from}
use Rattle.graph_binary.proofs.BinaryReading.{gate-none, gate-step}
use Rattle.graph_binary.proofs.BinaryOutputs.{outputs_from, output-none, output-step, output-behind}

pub header-fit : (s : List ℕ) (h : Header) (w : List ℕ) → read_header s ≡ holds h → need h.size h.outputs ≤ length w → Fit h w
header-fit s h w e l =
    let k = header-fits s h e in
    record { capacity = capacity_for w h.size h.outputs k.size l; outs = k.outputs; lines = k.variables }

-- ---- the three passes

-- what they answer
abbrev passes_verdict : List ℕ → List ℕ → Header → Verdict
passes_verdict w s h =
    on_result (outputs_step w s h) (λ at. as_verdict (pass_step (gate_step s h) (gate_left s h) h.ands (h.inputs + h.outputs) at (with_outputs w s h))) Err

record Body (s : List ℕ) (h : Header) (w : List ℕ) : Type 0 where
  verdict : passes_verdict w s h ≡ verdict_of (read_binary s h)
  stored : (is : List Item) → read_binary s h ≡ holds is → Stored h w (expected_count h) 0 (binary_words w s h) [] (nothing h.size) is

to_of : (t : LineResult) → as_verdict t ≡ Ok tt → (at : ℕ) × (t ≡ Ok at)
to_of (Ok at) e = (at, refl)
to_of (Err r) e = let z : ◌≡◌ {A = ℕ} 0 1 = cc in absurd (omega arith)

stop_of : (t : LineResult) (r : Refusal) → as_verdict t ≡ Err r → t ≡ Err r
stop_of (Ok at) r e = let z : ◌≡◌ {A = ℕ} 0 1 = cc in absurd (omega arith)
stop_of (Err q) r e = let x : q ≡ r = cc in ap Err x

module _ (s : List ℕ) (h : Header) (w : List ℕ) (fit : Fit h w) where
  first : Sound h w 0 (opened w h.size) [] (nothing h.size)
  unfolding elem any
  first = record { state = state_first h w fit; above = λ v b. refl }

  inputs_taken : Taken h w h.inputs 0 (with_inputs w h) [] (nothing h.size) (input_items h)
  unfolding with_inputs input_items
  inputs_taken =
      (pass_law h w input_step (input_left h) inputs_from 0 h.inputs (input_none h w fit) (input-step h w fit)
      h.inputs 0 h.next (opened w h.size) [] (nothing h.size) first (omega arith) (omega arith)).taken (input_items h) refl

  -- the variables and the graph of the inputs
  abbrev ins : List ℕ
  ins = inputs_taken.stored.defined

  abbrev wires : Graph
  wires = joined (nothing h.size) (input_items h)

  inputs-sound : Sound h w h.inputs (with_inputs w h) ins wires
  inputs-sound =
      let e : 0 + h.inputs ≡ h.inputs = omega arith in
      subst (λ (k : ℕ). Sound h w k (with_inputs w h) ins wires) e (taken_sound h w h.inputs 0 (with_inputs w h) [] (nothing h.size) (input_items h) inputs_taken)

  outputs : Outcome h w (output_step s h) (output_left s h) (outputs_from s h) h.outputs h.inputs h.next (with_inputs w h) ins wires
  outputs =
      pass_law h w (output_step s h) (output_left s h) (outputs_from s h) h.inputs (h.inputs + h.outputs) (output-none s h w fit) (output-step s h w fit)
      h.outputs h.inputs h.next (with_inputs w h) ins wires inputs-sound (omega arith) refl

  outputs-verdict : as_verdict (outputs_step w s h) ≡ verdict_of (outputs_from s h h.outputs h.inputs h.next)
  unfolding outputs_step
  outputs-verdict = outputs.verdict

  outputs_taken : (os : List Item) → outputs_from s h h.outputs h.inputs h.next ≡ holds os → Taken h w h.outputs h.inputs (with_outputs w s h) ins wires os
  unfolding with_outputs
  outputs_taken os e = outputs.taken os e

  outputs-behind : (at : ℕ) → outputs_step w s h ≡ Ok at → at ≡ behind_lines h.next h.outputs (lines_of s h.next)
  unfolding outputs_step
  outputs-behind at e = output-behind s h h.outputs h.inputs h.next (with_inputs w h) at e

  gates : (at : ℕ) (os : List Item) (t : Taken h w h.outputs h.inputs (with_outputs w s h) ins wires os)
      → Outcome h w (gate_step s h) (gate_left s h) (gates_from s h) h.ands (h.inputs + h.outputs) at (with_outputs w s h) t.stored.defined (joined wires os)
  gates at os t =
      pass_law h w (gate_step s h) (gate_left s h) (gates_from s h) (h.inputs + h.outputs) (expected_count h) (gate-none s h w fit) (gate-step s h w fit)
      h.ands (h.inputs + h.outputs) at (with_outputs w s h) t.stored.defined (joined wires os)
      (taken_sound h w h.outputs h.inputs (with_outputs w s h) ins wires os t) (omega arith) refl

  -- the model's reading, by the same parts
  read_is : read_binary s h ≡ next (outputs_from s h h.outputs h.inputs h.next) (λ os.
      next (gates_from s h h.ands (h.inputs + h.outputs) (behind_lines h.next h.outputs (lines_of s h.next))) (λ gs. holds (input_items h ++ (os ++ gs))))
  unfolding read_binary
  read_is =
      let e : 2 * suc h.inputs ≡ 2 * (h.inputs + h.outputs - h.outputs + 1) = omega arith in
      ap (λ (n : ℕ). next (outputs_from s h h.outputs h.inputs h.next) (λ os.
      next (read_ands s (behind_lines h.next h.outputs (lines_of s h.next)) n h.ands) (λ gs. holds (input_items h ++ (os ++ gs))))) e

  body_stop : (a b : ℕ) → outputs_from s h h.outputs h.inputs h.next ≡ fault a b → Body s h w
  unfolding verdict_of next
  body_stop a b e =
      let r : read_binary s h ≡ fault a b = read_is ∙ rw e in
      let t : outputs_step w s h ≡ refused_with a b = stop_of (outputs_step w s h) _ (outputs-verdict ∙ ap verdict_of e) in
      record { verdict = rw (t, r); stored = λ is q. absurd (fault-holds (sym r ∙ q)) }

  module _ (os : List Item) (is_outs : outputs_from s h h.outputs h.inputs h.next ≡ holds os) (at : ℕ) (advance : outputs_step w s h ≡ Ok at) where
    gates-read : Read (List Item)
    gates-read = gates_from s h h.ands (h.inputs + h.outputs) at

    gates-outcome : Outcome h w (gate_step s h) (gate_left s h) (gates_from s h) h.ands (h.inputs + h.outputs) at (with_outputs w s h) (outputs_taken os is_outs).stored.defined (joined wires os)
    gates-outcome = gates at os (outputs_taken os is_outs)

    whole_is : read_binary s h ≡ next gates-read (λ gs. holds (input_items h ++ (os ++ gs)))
    unfolding next gates-read
    whole_is = read_is ∙ rw (is_outs, sym (outputs-behind at advance))

    words_are : binary_words w s h ≡ pass_words (gate_step s h) (gate_left s h) h.ands (h.inputs + h.outputs) at (with_outputs w s h)
    unfolding binary_words
    words_are = rw advance

    verdict-is : passes_verdict w s h ≡ verdict_of gates-read
    unfolding gates-read
    verdict-is = rw advance gates-outcome.verdict

    all-stored : (gs : List Item) → gates-read ≡ holds gs → Stored h w (expected_count h) 0 (binary_words w s h) [] (nothing h.size) (input_items h ++ (os ++ gs))
    unfolding gates-read
    all-stored gs e =
        let x : List ℕ = pass_words (gate_step s h) (gate_left s h) h.ands (h.inputs + h.outputs) at (with_outputs w s h) in
        let later = stored-behind h w h.outputs h.ands h.inputs (with_outputs w s h) x ins wires os gs (outputs_taken os is_outs).stored (gates-outcome.taken gs e).stored in
        let i : h.inputs ≡ 0 + h.inputs = omega arith in let j : h.inputs + (h.outputs + h.ands) ≡ expected_count h = omega arith in
        subst (λ (y : List ℕ). Stored h w (expected_count h) 0 y [] (nothing h.size) (input_items h ++ (os ++ gs))) (sym words_are)
        (subst (λ (n : ℕ). Stored h w n 0 x [] (nothing h.size) (input_items h ++ (os ++ gs))) j
        (stored-behind h w h.inputs (h.outputs + h.ands) 0 (with_inputs w h) x [] (nothing h.size) (input_items h) (os ++ gs) inputs_taken.stored
        (subst (λ (k : ℕ). Stored h w (h.outputs + h.ands) k x ins wires (os ++ gs)) i later)))

    body_whole : Body s h w
    body_whole = record {
      verdict = verdict-is ∙ sym (verdict-next gates-read (λ gs. input_items h ++ (os ++ gs))) ∙ ap verdict_of (sym whole_is);
      stored = λ is q.
          let g = next-holds gates-read (λ gs. input_items h ++ (os ++ gs)) is (sym whole_is ∙ q) in
          subst (Stored h w (expected_count h) 0 (binary_words w s h) [] (nothing h.size)) (sym g.2) (all-stored g.0 g.1);
    }

  body : Body s h w
  unfolding verdict_of
  body = go (outputs_from s h h.outputs h.inputs h.next) refl
    where
      go : (r : Read (List Item)) → outputs_from s h h.outputs h.inputs h.next ≡ r → Body s h w
      go (fault a b) e = body_stop a b e
      go (holds os) e = let t = to_of (outputs_step w s h) (outputs-verdict ∙ ap verdict_of e) in body_whole os e t.0 t.1

-- ---- the graph

module _ (s : List ℕ) (h : Header) (is_binary : h.binary ≡ true) where
  items_are : read_items s h ≡ read_binary s h
  unfolding read_items
  items_are = rw is_binary

  -- 14 refuses none of them
  graph-verdict : read_header s ≡ holds h → verdict_of (read_graph s h) ≡ verdict_of (read_binary s h)
  unfolding verdict_of next
  graph-verdict e = go (read_binary s h) refl
    where
      go : (r : Read (List Item)) → read_binary s h ≡ r → verdict_of (read_graph s h) ≡ verdict_of r
      go (fault a b) q = let f : read_graph s h ≡ fault a b = graph_is s h ∙ rw (items_are ∙ q) in ap verdict_of f
      go (holds is) q =
          let u : check_uses (defined_by is) is ≡ holds is = binary-used s h is (binary-parts s h is q) ((header-fits s h e).sequence is_binary) in
          let f : read_graph s h ≡ holds (graph_of h.size is) = graph_is s h ∙ rw (items_are ∙ q, u) in
          ap verdict_of f

  module _ (w : List ℕ) (fit : Fit h w) where
    -- where the text holds a graph, the words hold it
    pub binary_law : (g : Graph) → read_graph s h ≡ holds g → LoadedGraph w h (binary_words w s h) g (0 ∷ g.inputs)
    binary_law g e = graph-represented s h w (binary_words w s h) (λ is q. (body s h w fit).stored is (sym items_are ∙ q)) g e

    load-verdict : read_header s ≡ holds h → passes_verdict w s h ≡ verdict_of (read_graph s h)
    load-verdict e = (body s h w fit).verdict ∙ sym (graph-verdict e)

    -- as the code has it: the words x once they are opened, y with the inputs, z with the outputs
    module _ (head : read_header s ≡ holds h) (x y z : List ℕ) (r : LineResult) (opening : x ≡ opened w h.size)
        (inputs : y ≡ pass_words input_step (input_left h) h.inputs 0 h.next x)
        (told : r ≡ pass_step (output_step s h) (output_left s h) h.outputs h.inputs h.next y)
        (outs : z ≡ pass_words (output_step s h) (output_left s h) h.outputs h.inputs h.next y) where
      with_inputs_lem : y ≡ with_inputs w h
      unfolding with_inputs
      with_inputs_lem = inputs ∙ ap (pass_words input_step (input_left h) h.inputs 0 h.next) opening

      with_step : outputs_step w s h ≡ r
      unfolding outputs_step
      with_step = ap (pass_step (output_step s h) (output_left s h) h.outputs h.inputs h.next) (sym with_inputs_lem) ∙ sym told

      with_outputs_lem : z ≡ with_outputs w s h
      unfolding with_outputs
      with_outputs_lem = outs ∙ ap (pass_words (output_step s h) (output_left s h) h.outputs h.inputs h.next) with_inputs_lem

      refusal : (q : Verdict) → q ≡ verdict_of (read_graph s h) → verdict_refusal q ≡ refusal_of (read_graph s h)
      refusal q e = ap verdict_refusal e ∙ verdict-rules (read_graph s h)

      pub load-done : (at : ℕ) → r ≡ Ok at → (q : Verdict) (v : List ℕ)
          → q ≡ as_verdict (pass_step (gate_step s h) (gate_left s h) h.ands (h.inputs + h.outputs) at z)
          → v ≡ pass_words (gate_step s h) (gate_left s h) h.ands (h.inputs + h.outputs) at z
          → (q ≡ verdict_of (read_graph s h)) × ((v ≡ binary_words w s h) × (verdict_refusal q ≡ refusal_of (read_graph s h)))
      unfolding binary_words
      load-done at e q v a b =
          let t : outputs_step w s h ≡ Ok at = with_step ∙ e in
          let o : q ≡ verdict_of (read_graph s h) = a ∙ rw with_outputs_lem (sym (rw t)) ∙ load-verdict head in
          (o, (b ∙ rw with_outputs_lem (sym (rw t)), refusal q o))

      pub load_stop : (q : Refusal) → r ≡ Err q → (Err q ≡ verdict_of (read_graph s h)) × ((z ≡ binary_words w s h) × (verdict_refusal {A = Unit {0}} (Err q) ≡ refusal_of (read_graph s h)))
      unfolding binary_words
      load_stop q e =
          let t : outputs_step w s h ≡ Err q = with_step ∙ e in
          let o : Err q ≡ verdict_of (read_graph s h) = sym (rw t) ∙ load-verdict head in
          (o, (with_outputs_lem ∙ sym (rw t), refusal (Err q) o))
