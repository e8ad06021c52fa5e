-- 13, 14 and 15 refuse no text in the binary form.
use Rattle.base.specs.{ℕ, ◌*◌, ◌<◌, arith, ◌≡◌, refl, sym, ◌∙◌, ap, subst, true, ◌||◌, List, [], ◌∷◌, ◌++◌, Memᴰ, Memᴰ-head}
use Rattle.base.specs.{Memᴰ-tail, Memᴰ-not-nil, Memᴰ-append_right, T, leb, ltb}
use Rattle.model.specs.{lowest, need, Read, holds, next, unless, And, var_of, unordered, and_vars, read_header, read_graph, map_graph, InputArrival}
use Rattle.model.specs.{read_arrivals, timed_by, followed, Call, Design, design_of, short, read_listed, read_texts, map_design, map_texts}
use Rattle.model.specs.{Sequenced}
use Rattle.model.specs.Graph.{Graph}
use Rattle.model.specs.declared.Cell.{Cell}
use Rattle.model.specs.declared.Header.{Header}
use Rattle.theory_graph.proofs.{each_in, lowest_in_lem, timed-unordered, by_read}
use Rattle.theory_order.proofs.{Lower, rising-ordered}
use Rattle.theory_text.proofs.{holds-once, in_holds, in_unless, in_next, listed_faults, header_faults, arrivals_faults, graph-known}
use Rattle.theory_text.proofs.{texts-read, binary_faults, binary-falls}
use Rattle.theory_demands.proofs.RefusalDemands.{Refusal, within-refusal, followed-refusal, map-refusal}

-- none of 13, 14 and 15, at any place
abbrev Other : ℕ → ℕ → Type 0
Other n k = T (ltb n 13 || ltb 15 n)

-- ---- 15

-- "ANDs follow in sequence": all can be ordered
pub binary-ordered : (bytes : List ℕ) (h : Header) (g : Graph) → read_header bytes ≡ holds h → h.binary ≡ true → read_graph bytes h ≡ holds g → unordered g ≡ []
unfolding var_of
binary-ordered bytes h g d b e = rising-ordered g (record { left = lefts; right = rights })
  where
    used : (a : And) → Memᴰ a g.ands → (l : ℕ) → Memᴰ l (a.left ∷ a.right ∷ []) → Memᴰ (var_of l) (0 ∷ g.inputs ++ and_vars g)
    used a m l n = (graph-known bytes h g d e).used l (Memᴰ-append_right g.outputs (each_in (λ (x : And). x.left ∷ x.right ∷ []) m n))

    lefts : (a : And) → Memᴰ a g.ands → Lower g a a.left
    lefts a m = record { less = let q : a.left < 2 * a.var = (binary-falls bytes h d b g e a m).left in omega arith; defined = used a m a.left (Memᴰ-head refl) }

    rights : (a : And) → Memᴰ a g.ands → Lower g a a.right
    rights a m =
        record { less = let q : a.right < 2 * a.var = (binary-falls bytes h d b g e a m).right in omega arith; defined = used a m a.right (Memᴰ-tail (Memᴰ-head refl)) }

-- ---- 13 and 14

module _ (c : Call) (h : Header) (d : read_header c.graph ≡ holds h) (b : h.binary ≡ true) where
  outcome_other : Refusal Other (map_texts c)
  unfolding map_texts map_design
  outcome_other = by_read (read_texts c) (λ x e. rw e
      (let t = texts-read c x e in let p : unordered x.graph ≡ [] = ap unordered (sym t.is_timed) ∙ timed-unordered t.meant t.input_arrival
      ∙ binary-ordered c.graph h t.meant d b (rw (← holds-once (sym t.is_header ∙ d)) t.is_graph) in within-refusal Other (λ _. tt)
      c.bytes (followed x.ranged x.cells x.graph (map_graph x.listed x.cells x.graph)) (followed-refusal Other
      x.ranged x.cells x.graph (map_graph x.listed x.cells x.graph) (map-refusal Other x.listed x.cells x.graph
      (λ v q. absurd (Memᴰ-not-nil (lowest_in_lem [] v (sym (ap lowest p) ∙ q)))) (λ _. tt) (λ _. tt)))))
      (λ n k q. rw q ((rw q at (let made : List Cell → Graph → List InputArrival → Read Design = λ cells g es. holds
      (design_of c cells (timed_by g es)) in let timed : List Cell → Header → Graph → Read Design = λ cells k g. next
      (read_arrivals k.inputs c.arrivals) (made cells g) in let words : List Cell → Header → Read Design = λ cells k. unless
      (leb (need k.size k.outputs) c.words) 10 0 (next (read_graph c.graph k) (timed cells k)) in let read : List Cell
      → Read Design = λ cells. next (read_header c.graph) (words cells) in in_unless Other (short c) 1 0
      (next (read_listed c.paired c.library) read) (λ _. tt) (in_next Other (read_listed c.paired c.library) read
      (listed_faults Other tt (λ _. tt) (λ _. tt) (λ _. tt) (λ _. tt) (λ _. tt) tt c.paired c.library) (λ cells _.
      in_next Other (read_header c.graph) (words cells) (header_faults Other tt tt tt tt c.graph) (λ k e.
      in_unless Other (leb (need k.size k.outputs) c.words) 10 0 (next (read_graph c.graph k) (timed cells k)) (λ _. tt)
      (in_next Other (read_graph c.graph k) (timed cells k)
      (binary_faults c.graph k e (cc (holds-once (sym e ∙ d), b)) Other (λ _. tt) (λ _. tt) (λ _ _. tt) (λ _ _. tt)) (λ g _.
      in_next Other (read_arrivals k.inputs c.arrivals) (made cells g)
      (arrivals_faults Other (λ _. tt) (λ _. tt) k.inputs c.arrivals)
      (λ es _. in_holds Other (design_of c cells (timed_by g es)))))))))).has n k refl))

-- "Inputs are variables 1 to I and ANDs follow in sequence": 13, 14 and 15 refuse no text in the binary form
pub demand_sequenced : (c : Call) → Sequenced c
demand_sequenced c h d b n k e =
    let o : Other n k = subst (Refusal Other) e (outcome_other c h d b) in ((λ q. subst (λ (m : ℕ). Other m k) q o), (λ q. subst (λ (m : ℕ). Other m k) q o), (λ q. subst (λ (m : ℕ). Other m k) q o))
