-- A binary text is refused by 11, 12, 20 and 21 alone behind its header, the last two at places in the text or at its end; and its ANDs' operands have
-- lower literals than the ANDs themselves.
use Rattle.base.specs.{ℕ, zero, suc, ◌+◌, ◌*◌, ◌≤◌, ◌<◌, arith, ◌≡◌, refl, sym, ◌∙◌, ap, subst, ⊎_elim, true, false≢true, List, [], ◌∷◌}
use Rattle.base.specs.{◌++◌, map, Memᴰ, Memᴰ-head, Memᴰ-tail, Memᴰ-not-nil, Memᴰ-append_cases, length, get_or, drop}
use Rattle.base.specs.{replicate, length-drop}
use Rattle.model.specs.{from, keep, lines_from, holds, fault, next, And, closed, read_header, Kind, an_input, an_output, an_and, defines, Item}
use Rattle.model.specs.{read_expected, read_ands, behind_lines, input_items, read_binary, read_items, defined_by, check_uses, same_kind, is_kind, graph_of}
use Rattle.model.specs.{read_graph}
use Rattle.model.specs.Graph.{Graph}
use Rattle.model.specs.declared.Header.{Header}
use Rattle.theory_graph.proofs.{map_in, map_out, keep_out}
use Rattle.theory_text.proofs.ReadSteps.{holds-once, next_out}
use Rattle.theory_text.proofs.ReadFaults.{Faults, in_holds, in_next, less_inside, lines-inside, behind-inside, header-inside, expected_faults}
use Rattle.theory_text.proofs.ReadFaults.{ands_faults}
use Rattle.theory_text.proofs.GraphItems.{head}
use Rattle.theory_text.proofs.Binary.{InStep, step-head, Binary, binary-parts, binary_steps, binary-used, outs-kinds}
use Rattle.theory_text.proofs.ReadGraph.{and_of, kind-is, uses_out, header-fits}

replicate-is : (n : ℕ) (k j : Kind) → Memᴰ j (replicate n k) → j ≡ k
replicate-is zero k j m = absurd (Memᴰ-not-nil m)
replicate-is (suc n) k j (Memᴰ-head e) = e
replicate-is (suc n) k j (Memᴰ-tail m) = replicate-is n k j m

-- both operands' literals are lower than the AND's own
pub record Falling (a : And) : Type 0 where
  pub left : a.left < 2 * a.var
  pub right : a.right < 2 * a.var

module _ (bytes : List ℕ) (h : Header) (is_header : read_header bytes ≡ holds h) (is_binary : h.binary ≡ true) where
  items_are : read_items bytes h ≡ read_binary bytes h
  unfolding read_items
  items_are = cc

  parts : (is : List Item) → read_items bytes h ≡ holds is → Binary bytes h is
  parts is e = binary-parts bytes h is (sym items_are ∙ e)

  -- what stands behind the header begins in the text, and so do the ANDs
  pub ands-inside : behind_lines h.next h.outputs (lines_from h.next [] (drop h.next bytes)) ≤ length bytes
  ands-inside =
      let next-inside = header-inside bytes h is_header in
      behind-inside (length bytes) h.next h.outputs (lines_from h.next [] (drop h.next bytes)) next-inside
      (λ l m. omega (arith, lines-inside h.next [] (drop h.next bytes) l m, length-drop h.next bytes, next-inside))

  -- 13 is not asked of an output line, and no use is undefined: 14 does not come. 20 and 21 have places in the text, or its length
  pub binary_faults : (P : ℕ → ℕ → Type 0) → ((k : ℕ) → P 11 k) → ((k : ℕ) → P 12 k) → ((k : ℕ) → k ≤ length bytes → P 20 k) → ((k : ℕ) → k ≤ length bytes → P 21 k)
      → Faults P (read_graph bytes h)
  unfolding read_graph read_binary defines
  binary_faults P p11 p12 p20 p21 =
      let ls = lines_from h.next [] (drop h.next bytes) in
      in_next P (read_items bytes h) _ (rw items_are (in_next P
      (read_expected (closed true) (length bytes) h.size [] (replicate h.outputs an_output) ls) _ (expected_faults P p11 p12 (closed true)
      (length bytes) h.size [] (replicate h.outputs an_output) ls
      (λ k m d. absurd (false≢true (cc (replicate-is h.outputs an_output k m))))) (λ os _. in_next P
      (read_ands bytes (behind_lines h.next h.outputs ls) (2 * suc h.inputs) h.ands) _ (ands_faults P bytes
      (λ k. k ≤ length bytes) (λ is_first. less_inside is_first bytes) p20 p21 (behind_lines h.next h.outputs ls) ands-inside
      (2 * suc h.inputs) h.ands) (λ gs _. in_holds P (input_items h ++ (os ++ gs)))))) (λ is e. in_next P (check_uses (defined_by is) is)
      (λ js. holds (graph_of h.size js))
      (rw (binary-used bytes h is (parts is e) ((header-fits bytes h is_header).sequence is_binary)) (in_holds P is))
      (λ js _. in_holds P (graph_of h.size js)))

  -- "the text ends before its end": a difference of which no byte stands has the text's length as its place
  pub missing-at-end : (k : ℕ) → read_graph bytes h ≡ fault 20 k → drop k bytes ≡ [] → k ≡ length bytes
  missing-at-end k e z =
      let eleven : ¬ (◌≡◌ {A = ℕ} 11 20) = λ q. omega arith in
      let twelve : ¬ (◌≡◌ {A = ℕ} 12 20) = λ q. omega arith in
      let low : k ≤ length bytes = (binary_faults (λ n j. n ≡ 20 → j ≤ length bytes) (λ j q. absurd (eleven q)) (λ j q. absurd (twelve q)) (λ j i q. i) (λ j i q. i)).has 20 k e refl in
      let none : length (drop k bytes) ≡ 0 = ap length z in
      omega (arith, length-drop k bytes)

  -- an AND that is read, and not an input or an output
  and_step : (is : List Item) → Binary bytes h is → (i : Item) → Memᴰ i is → i.kind ≡ an_and → InStep (suc h.inputs) (suc h.inputs + h.ands) i
  unfolding input_items defines same_kind
  and_step is s i m k =
      ⊎_elim (λ n. let o = map_out (λ (v : ℕ). record { kind = an_input; offset = h.next; literals = 2 * v ∷ [] }) (from 1 h.inputs) n in
      absurd (false≢true (cc o.2))) (λ q. ⊎_elim (λ q. let q : i.kind ≡ an_output = replicate-is h.outputs an_output i.kind
      (rw (← outs-kinds bytes h is s) (map_in (λ (j : Item). j.kind) q)) in absurd (false≢true (ap defines (sym q ∙ k))))
      (binary_steps bytes h is s i) (Memᴰ-append_cases s.outs q)) (Memᴰ-append_cases (input_items h) (rw s.is_items m))

  -- "left minus first operand and first minus second"
  pub binary-falls : (g : Graph) → read_graph bytes h ≡ holds g → (a : And) → Memᴰ a g.ands → Falling a
  unfolding read_graph graph_of is_kind
  binary-falls g e a m =
      let r = next_out (read_items bytes h) (λ is. next (check_uses (defined_by is) is) (λ js. holds (graph_of h.size js))) g e in
      let u = next_out (check_uses (defined_by r.0) r.0) (λ js. holds (graph_of h.size js)) g r.2 in
      let same = (uses_out (defined_by r.0) r.0 u.0 u.1).0 in
      let n : Memᴰ a (map and_of (keep (is_kind an_and) u.0)) = subst (λ (x : Graph). Memᴰ a x.ands) (sym (holds-once u.2)) m in
      let o = map_out and_of (keep (is_kind an_and) u.0) n in
      let k = keep_out (is_kind an_and) u.0 o.1 in
      let i = o.0 in
      let t = and_step r.0 (parts r.0 r.1) i (subst (λ (js : List Item). Memᴰ i js) (sym same) k.0) (kind-is an_and i.kind k.1) in
      let v : head i ≡ t.var = step-head (suc h.inputs) (suc h.inputs + h.ands) i t in
      let l : get_or i.literals 1 0 ≡ t.first = ap (λ (ns : List ℕ). get_or ns 1 0) t.is_literals in
      let w : get_or i.literals 2 0 ≡ t.second = ap (λ (ns : List ℕ). get_or ns 2 0) t.is_literals in
      subst Falling (sym o.2) (record { left = omega (arith, t.less, l, v); right = omega (arith, t.less, t.lesser, w, v) })
