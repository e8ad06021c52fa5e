-- The arrivals' text: what is known of the lines that are read, what they say of the graph's inputs, and that an empty text is none.
--     input-arrival-read           an index is below I and listed once, an arrival is at most 65,535
--     arrivals-back       and such lines that are written read back
--     texts-listed        each listed input arrives as its line says, and the others at 0
--     reads-untimed       with an empty arrivals' text a call reads what the library and the graph hold
use Rattle.base.specs.{ℕ, suc, ◌+◌, ◌≤◌, ◌<◌, zero-le, arith, ◌≡◌, refl, sym, ◌∙◌, ap, ap₂, subst, fun_ext, Bool, true, false, not, ◌&&◌}
use Rattle.base.specs.{Option, Some, List, [], ◌∷◌, map, Memᴰ, Memᴰ-head, Memᴰ-tail, Memᴰ-not-nil, Memᴰ-cast, T, eqb}
use Rattle.base.specs.{leb, ltb, le→leb, lit<, length, get_or, and_yes, ltb_yes, yes_and, yes_ltb}
use Rattle.model.specs.{all, each, elem, same, and_then, only, Line, ended, text, decimal, lines_from, fields, numbers, need, Read, holds}
use Rattle.model.specs.{fault, next, unless, from?, and_vars, read_header, read_graph, numbers_line, InputArrival, input_arrival_numbers, read_input_arrivals, read_input_arrival_lines}
use Rattle.model.specs.{read_arrivals, arrivals_text, timed_by, Call, Design, design_of, read_listed, read_texts, Distinct, read_untimed, Lists}
use Rattle.model.specs.{ListedFor, Listed}
use Rattle.model.specs.Graph.{Graph}
use Rattle.model.specs.declared.Cell.{Cell}
use Rattle.theory_graph.proofs.{is_true, elem-T, elem_out, front-distinct, timed-none, listed_for, by_bool, by_list, by_member}
use Rattle.theory_text.proofs.ReadSteps.{holds-once, unless_out, from_out, next_out, then_out, numbers-small}
use Rattle.theory_text.proofs.PlainLines.{decimal-free}
use Rattle.theory_text.proofs.LineLaws.{line_of_bytes, line_first}
use Rattle.theory_text.proofs.ExpectedLinesBack.{numbers-back, words, fields-numbers, numbers-first}
use Rattle.theory_text.proofs.ReadGraph.{graph-known, graph-counted, graph-untimed}
use Rattle.theory_text.proofs.ReadTexts.{texts-read}

-- ---- the lines that are read

-- lines that pass 25 and 26, for so many inputs and behind these indexes
pub record InputArrivalRead (inputs : ℕ) (before : List ℕ) (es : List InputArrival) : Type 0 where
  pub inside : (k : ℕ) → Lists es k → k < inputs
  pub once : Distinct (map (λ (e : InputArrival). e.index) es)
  pub fresh : (k : ℕ) → Lists es k → ¬ Memᴰ k before
  pub small : (e : InputArrival) → Memᴰ e es → e.arrival ≤ 65535

none_read : (inputs : ℕ) (before : List ℕ) → InputArrivalRead inputs before []
none_read inputs before = record { inside = λ k m. absurd (Memᴰ-not-nil m); once = tt; fresh = λ k m. absurd (Memᴰ-not-nil m); small = λ e m. absurd (Memᴰ-not-nil m) }

second-small : (ns : List ℕ) → ((n : ℕ) → Memᴰ n ns → n ≤ 65535) → get_or ns 1 0 ≤ 65535
second-small [] h = zero-le
second-small (a ∷ []) h = zero-le
second-small (a ∷ b ∷ ns) h = h b (Memᴰ-tail (Memᴰ-head refl))

arrival-small : (l : Line) (ns : List ℕ) → input_arrival_numbers l ≡ Some ns → get_or ns 1 0 ≤ 65535
unfolding input_arrival_numbers
arrival-small l ns e =
    let a = then_out (only (ended l && eqb (length (fields l.bytes)) 2) (fields l.bytes)) numbers ns e in
    second-small ns (numbers-small a.0 ns a.2)

lines-input-arrival : (inputs : ℕ) (before : List ℕ) (ls : List Line) (es : List InputArrival) → read_input_arrivals inputs before ls ≡ holds es → InputArrivalRead inputs before es
unfolding read_input_arrivals
lines-input-arrival inputs before [] es e = subst (InputArrivalRead inputs before) (holds-once e) (none_read inputs before)
lines-input-arrival inputs before (l ∷ ls) es e =
    let unheard : (n : ℕ) → T (not (elem n before)) → ¬ Memᴰ n before = λ n t m. apart (elem n before) t (elem-T n before m) in
    let a = next_out (from? (input_arrival_numbers l) 25 l.offset) _ es e in
    let n = get_or a.0 0 0 in
    let b = unless_out (ltb n inputs && not (elem n before)) 26 l.offset _ es a.2 in
    let p = and_yes (ltb n inputs) (not (elem n before)) b.0 in
    let c = next_out (read_input_arrivals inputs (n ∷ before) ls) (λ ds. holds (record { index = n; arrival = get_or a.0 1 0 } ∷ ds)) es b.1 in
    rw (← holds-once c.2) (more (record { index = n; arrival = get_or a.0 1 0 }) c.0 (ltb_yes p.0) (unheard n p.1)
    (arrival-small l a.0 (from_out (input_arrival_numbers l) 25 l.offset a.0 a.1)) (lines-input-arrival inputs (n ∷ before) ls c.0 c.1))
  where
    apart : (b : Bool) → T (not b) → ¬ T b
    apart true t u = t
    apart false t u = u

    more : (x : InputArrival) (ds : List InputArrival) → x.index < inputs → ¬ Memᴰ x.index before → x.arrival ≤ 65535 → InputArrivalRead inputs (x.index ∷ before) ds → InputArrivalRead inputs before (x ∷ ds)
    more x ds h f s r = record {
      inside = at-index (λ k. k < inputs) h r.inside;
      once = ((λ m. r.fresh x.index m (Memᴰ-head refl)), r.once);
      fresh = at-index (λ k. ¬ Memᴰ k before) f (λ k m i. r.fresh k m (Memᴰ-tail i));
      small = (λ y z. by_member z (λ q. subst (λ (z : InputArrival). z.arrival ≤ 65535) (sym q) s) (λ e. r.small y e));
    }
      where
        at-index : (P : ℕ → Type 0) → P x.index → ((k : ℕ) → Lists ds k → P k) → (k : ℕ) → Lists (x ∷ ds) k → P k
        at-index P a later k (Memᴰ-head q) = subst P (sym q) a
        at-index P a later k (Memᴰ-tail m) = later k m

pub input-arrival-read : (inputs : ℕ) (s : List ℕ) (es : List InputArrival) → read_arrivals inputs s ≡ holds es → InputArrivalRead inputs [] es
unfolding read_arrivals read_input_arrival_lines
input-arrival-read inputs s es = λ x. by_list (lines_from 0 [] s) (λ e. subst (InputArrivalRead inputs []) (holds-once (rw e at x)) (none_read inputs []))
    (λ l ls q. lines-input-arrival inputs [] ls es
    (unless_out (ended l && same l.bytes (text "input arrival")) 25 l.offset (read_input_arrivals inputs [] ls) es (rw q at x)).1)

-- ---- lines that are written read back

abbrev input_arrival_line : InputArrival → List ℕ
input_arrival_line e = numbers_line e.index (e.arrival ∷ [])

line-back : (at i a : ℕ) → i ≤ 65535 → a ≤ 65535 → input_arrival_numbers (line_of_bytes at (words i (a ∷ []))) ≡ Some (i ∷ a ∷ [])
unfolding input_arrival_numbers and_then only all
line-back at i a h k =
    ap (λ (ws : List (List ℕ)). and_then (only (eqb (length ws) 2) ws) numbers) (fields-numbers (decimal i) (decimal-free 32 i (lit< tt)) (a ∷ []))
    ∙ numbers-back (i ∷ a ∷ []) (yes_and (leb i 65535) _ (le→leb i 65535 h) (yes_and (leb a 65535) true (le→leb a 65535 k) tt))

lines-back : (inputs : ℕ) → inputs ≤ 65536 → (at : ℕ) (before : List ℕ) (es : List InputArrival) → InputArrivalRead inputs before es → read_input_arrivals inputs before (lines_from at [] (each input_arrival_line es)) ≡ holds es
unfolding read_input_arrivals lines_from each next unless from?
lines-back inputs few at before [] r = refl
lines-back inputs few at before (e ∷ es) r =
    let behind : ℕ = at + suc (length (words e.index (e.arrival ∷ []))) in
    let rest : ℕ → ℕ → Read (List InputArrival) = λ i a. next (read_input_arrivals inputs (i ∷ before) (lines_from behind [] (each input_arrival_line es)))
    (λ ds. holds (record { index = i; arrival = a } ∷ ds)) in
    ap (read_input_arrivals inputs before) (numbers-first at e.index (e.arrival ∷ []) (each input_arrival_line es)) ∙ ap (λ (o : Option (List ℕ)). next
    (from? o 25 at) (λ ns. unless (ltb (get_or ns 0 0) inputs && not (elem (get_or ns 0 0) before)) 26 at (rest (get_or ns 0 0) (get_or ns 1 0))))
    (line-back at e.index e.arrival (let q : e.index < inputs = r.inside e.index (Memᴰ-head refl) in omega arith)
    (r.small e (Memᴰ-head refl))) ∙ ap (λ (b : Bool). unless b 26 at (rest e.index e.arrival))
    (is_true (ltb e.index inputs && not (elem e.index before)) (yes_and (ltb e.index inputs) (not (elem e.index before))
    (yes_ltb (r.inside e.index (Memᴰ-head refl))) (by_bool (elem e.index before)
    (λ q. rw q (r.fresh e.index (Memᴰ-head refl) ((rw q at (elem_out e.index before)) refl))) (λ p. rw p tt))))
    ∙ ap (λ (q : Read (List InputArrival)). next q (λ ds. holds (e ∷ ds))) (lines-back inputs few behind (e.index ∷ before) es later)
  where
    other : (k : ℕ) → Lists es k → ¬ Memᴰ k (e.index ∷ before)
    other k m (Memᴰ-head q) = r.once.0 (Memᴰ-cast (sym q) m)
    other k m (Memᴰ-tail i) = r.fresh k (Memᴰ-tail m) i

    later : InputArrivalRead inputs (e.index ∷ before) es
    later = record { inside = λ k m. r.inside k (Memᴰ-tail m); once = r.once.1; fresh = other; small = λ d m. r.small d (Memᴰ-tail m) }

-- "first line `input arrival`, then an input's index from 0 and its arrival": what may be listed is read from the text that lists it
pub arrivals-back : (inputs : ℕ) → inputs ≤ 65536 → (es : List InputArrival) → InputArrivalRead inputs [] es → read_arrivals inputs (arrivals_text es) ≡ holds es
unfolding read_arrivals read_input_arrival_lines arrivals_text text same unless
arrivals-back inputs few es r = ap (read_input_arrival_lines inputs) (line_first 0 (text "input arrival") (each input_arrival_line es)
    (refl, (refl, (refl, (refl, (refl, (refl, (refl, (refl, (refl, (refl, (refl, (refl, (refl, tt)))))))))))))
    (refl, (refl, (refl, (refl, (refl, (refl, (refl, (refl, (refl, (refl, (refl, (refl, (refl, tt))))))))))))))
    ∙ lines-back inputs few (0 + suc (length (text "input arrival"))) [] es r

-- ---- what they say of the inputs

-- a call's arrivals' text says so of a graph
abbrev Said : Call → Graph → Type 0
Said c g = (es : List InputArrival) × (read_arrivals (length g.inputs) c.arrivals ≡ holds es) × ListedFor g es

said : (c : Call) (g : Graph) (es : List InputArrival) → read_arrivals (length g.inputs) c.arrivals ≡ holds es → ListedFor (timed_by g es) es → Said c (timed_by g es)
unfolding timed_by
said c g es q l = (es, q, l)

-- each listed input arrives as its line says, and "Inputs not listed arrive at 0."
pub texts-listed : (c : Call) → Listed c
texts-listed c d e =
    let t = texts-read c d e in
    let n = graph-counted c.graph t.header t.meant t.is_header t.is_graph in
    let is_input_arrival : read_arrivals (length t.meant.inputs) c.arrivals ≡ holds t.input_arrival = ap (λ (i : ℕ). read_arrivals i c.arrivals) n.inputs ∙ t.is_input_arrival in
    let r = input-arrival-read (length t.meant.inputs) c.arrivals t.input_arrival is_input_arrival in
    subst (Said c) t.is_timed
    (said c t.meant t.input_arrival is_input_arrival
    (listed_for t.meant (front-distinct t.meant.inputs (and_vars t.meant) (graph-known c.graph t.header t.meant t.is_header t.is_graph).once.1) t.input_arrival r.inside r.once))

-- ---- an empty text

pub next-same : {A B : Type 0} (r : Read A) (f k : A → Read B) → ((a : A) → r ≡ holds a → f a ≡ k a) → next r f ≡ next r k
unfolding next
next-same (holds a) f k e = e a refl
next-same (fault n m) f k e = refl

-- "or empty for none": a call reads what the library and the graph hold
pub reads-untimed : (c : Call) → c.arrivals ≡ [] → read_texts c ≡ read_untimed c
unfolding read_texts read_arrivals read_input_arrival_lines lines_from next
reads-untimed c e =
    let given : List ℕ → Read Design = λ s. unless
    (leb (length c.library) 65536 && (leb (length c.graph) 65536 && leb (length s) 65536)) 1 0
    (next (read_listed c.paired c.library) (λ cells. next (read_header c.graph) (λ h.
    unless (leb (need h.size h.outputs) c.words) 10 0
    (next (read_graph c.graph h) (λ g. next (read_arrivals h.inputs s) (λ es. holds (design_of c cells (timed_by g es)))))))) in
    let made : List Cell → Graph → Read Design = λ cells g. holds (design_of c cells g) in
    ap given e ∙ ap₂ (λ (b : Bool) (k : List Cell → Read Design). unless (leb (length c.library) 65536 && b) 1 0
    (next (read_listed c.paired c.library) k)) (by_bool (leb (length c.graph) 65536) (λ q. cc) (λ p. cc)) (fun_ext (λ cells.
    ap (next (read_header c.graph)) (fun_ext (λ h. ap (unless (leb (need h.size h.outputs) c.words) 10 0)
    (next-same (read_graph c.graph h) _ (made cells) (λ g q. ap (made cells) (timed-none g (graph-untimed c.graph h g q))))))))

-- and every input arrives at 0
pub untimed-zero : (c : Call) (d : Design) → read_untimed c ≡ holds d → (v : ℕ) → d.graph.input_arrival v ≡ 0
untimed-zero c d e v =
    let a = unless_out (leb (length c.library) 65536 && leb (length c.graph) 65536) 1 0 _ d e in
    let b = next_out (read_listed c.paired c.library) _ d a.1 in
    let k = next_out (read_header c.graph) _ d b.2 in
    let f = unless_out (leb (need k.0.size k.0.outputs) c.words) 10 0 _ d k.2 in
    let g = next_out (read_graph c.graph k.0) (λ x. holds (design_of c b.0 x)) d f.1 in
    subst (λ (x : Design). x.graph.input_arrival v ≡ 0) (holds-once g.2) (ap (λ (t : ℕ → ℕ). t v) (sym (graph-untimed c.graph k.0 g.0 g.1)))
