-- The graph behind a header is read exactly where the text has it, in either form, and 11 to 14, 20 and 21 come exactly by their conditions.
use Rattle.base.specs.{ℕ, zero, suc, ◌+◌, ◌-◌, ◌*◌, ◌≤◌, arith, ◌≡◌, refl, sym, ◌∙◌, ap, subst, ◌⊎◌, inl, inr, ⊎_elim, Bool, true, false}
use Rattle.base.specs.{cond, false≢true, true≢false, List, [], ◌∷◌, ◌++◌, append_assoc, Memᴰ, Memᴰ-head, Memᴰ-tail}
use Rattle.base.specs.{Memᴰ-not-nil, Memᴰ-append_cases, length, drop, replicate, length-append, length-drop}
use Rattle.model.specs.{from, lines_from, Read, holds, next, closed, Kind, an_input, an_output, an_and, how_many, defines, expected, Item, read_expected}
use Rattle.model.specs.{read_ands, behind_lines, input_items, read_binary, read_items, defined_by, check_uses, graph_of, read_graph}
use Rattle.model.specs.Graph.{Graph}
use Rattle.model.specs.declared.Header.{Header}
use Rattle.promises.specs.{Exactly, Wants, input_wants, ExpectedIn, no_line, a_line, ExpectedHolds, ExpectedRefused, expected_kinds, AndsIn, no_and, one_and}
use Rattle.promises.specs.{AndsHold, AndsRefused, FirstStray, inputs_of, ItemsIn, ascii_items, binary_items, ItemsFault, of_lines, of_outputs}
use Rattle.promises.specs.{of_ands, GraphFault, of_items, fourteen, GraphIn}
use Rattle.theory_graph.proofs.{map_out, by_bool}
use Rattle.theory_refusals.proofs.ReadResults.{exactly_next, exactly_map, exactly_holds}
use Rattle.theory_refusals.proofs.NumberLines.{reads-expected}
use Rattle.theory_refusals.proofs.ExpectedForms.{expected_exactly}
use Rattle.theory_refusals.proofs.UseForms.{Shaped, AllDefined, uses_exactly}
use Rattle.theory_refusals.proofs.DifferenceForms.{drop-behind, ands_exactly}

-- ---- where the ANDs of the binary form begin

lines-behind : (is_binary : Bool) (m start : ℕ) {s : List ℕ} {is : List Item} → ExpectedIn is_binary m start s is → (n : ℕ) (rest : List ℕ)
    → behind_lines start (length is + n) (lines_from start [] (s ++ rest)) ≡ behind_lines (start + length s) n (lines_from (start + length s) [] rest)
unfolding behind_lines
lines-behind is_binary m start no_line n rest = cc (let q : 0 + n ≡ n = omega arith in q, let q : start ≡ start + 0 = omega arith in q)
lines-behind is_binary m start (a_line {s} {l} {is} {k} {ns} lines line lawful new) n rest =
    let long : (s l : List ℕ) → start + length s + length l ≡ start + length (s ++ l) = λ s l. omega (arith, length-append s l) in
    let b = (reads-expected is_binary k).back (start + length s) l rest ns line in
    cc (
      let q : length (is ++ (record { kind = k; offset = start + length s; literals = ns } ∷ [])) + n ≡ length is + suc n = omega
          (arith, length-append is (record { kind = k; offset = start + length s; literals = ns } ∷ [])) in
          q,
      append_assoc s l rest,
      lines-behind is_binary m start lines (suc n) (l ++ rest),
      b.lines,
      b.next,
      long s l,
    )

ands_begin : (m start count : ℕ) (t : List ℕ) (os : List Item) (o : ExpectedHolds true m start (replicate count an_output) t os) → behind_lines start count (lines_from start [] t) ≡ start + length o.front
unfolding behind_lines
ands_begin m start count t os o = cc (
  let q : count ≡ length os + 0 = omega
      (arith, (sym (lib.ListN.length-map os (λ (i : Item). i.kind)) ∙ ap length o.kinds ∙ copies count)) in
      q,
  o.whole,
  lines-behind true m start o.lines 0 o.behind,
)
  where
    copies : (n : ℕ) → length (replicate n an_output) ≡ n
    copies zero = refl
    copies (suc n) = ap suc (copies n)

-- ---- inputs have one literal

one-literal : (k : Kind) (n : ℕ) (ns : List ℕ) → Wants k n → length ns ≡ n → k ≡ an_input → drop 1 ns ≡ []
unfolding how_many defines
one-literal an_input n ns input_wants e q = short ns e
  where
    short : (xs : List ℕ) → length xs ≡ 1 → drop 1 xs ≡ []
    short [] e = refl
    short (x ∷ []) e = refl
    short (x ∷ y ∷ xs) e = let z : ⊥ = omega arith in absurd z
one-literal an_output n ns w e q = absurd (false≢true (ap defines q))
one-literal an_and n ns w e q = let z : ◌≡◌ {A = ℕ} 3 1 = ap how_many q in let y : ⊥ = omega arith in absurd y

expected_shaped : (is_binary : Bool) (m start : ℕ) {s : List ℕ} {is : List Item} → ExpectedIn is_binary m start s is → (i : Item) → Memᴰ i is → Shaped i
expected_shaped is_binary m start no_line i h = absurd (Memᴰ-not-nil h)
expected_shaped is_binary m start (a_line {s} {l} {is} {k} {ns} lines line lawful new) i h = go (Memᴰ-append_cases is h) (λ z. expected_shaped is_binary m start lines i z)
  where
    go : Memᴰ i is ⊎ Memᴰ i (record { kind = k; offset = start + length s; literals = ns } ∷ []) → (Memᴰ i is → Shaped i) → Shaped i
    go (inl x) later = later x
    go (inr (Memᴰ-head q)) later = subst Shaped (sym q) (one-literal k line.0 ns line.1 line.2.is.count)
    go (inr (Memᴰ-tail n)) later = absurd (Memᴰ-not-nil n)

ands_shaped : (start left : ℕ) {s : List ℕ} {is : List Item} → AndsIn start left s is → (i : Item) → Memᴰ i is → Shaped i
ands_shaped start left no_and i h = absurd (Memᴰ-not-nil h)
ands_shaped start left (one_and {s} {d} {e} {is} {x} {y} ands p nz low q low') i h = go (Memᴰ-append_cases is h) (λ z. ands_shaped start left ands i z)
  where
    go : Memᴰ i is ⊎ Memᴰ i (record { kind = an_and; offset = start + length s; literals = (left + 2 * length is) ∷ (left + 2 * length is - x) ∷ (left + 2 * length is - x - y) ∷ [] } ∷ []) → (Memᴰ i is → Shaped i) → Shaped i
    go (inl z) later = later z
    go (inr (Memᴰ-head z)) later = λ k. absurd (unfold how_many in let z : ◌≡◌ {A = ℕ} 3 1 = ap how_many
        (sym (ap (λ (j : Item). j.kind) z) ∙ k) in let y : ⊥ = omega arith in y)
    go (inr (Memᴰ-tail n)) later = absurd (Memᴰ-not-nil n)

items_shaped : (t : List ℕ) (h : Header) {is : List Item} → ItemsIn t h is → (i : Item) → Memᴰ i is → Shaped i
items_shaped t h (ascii_items b d) i m = expected_shaped false h.size h.next d.lines i m
items_shaped t h (binary_items {os} {gs} b o a) i m = ⊎_elim (λ x.
    let r = map_out (λ (v : ℕ). record { kind = an_input; offset = h.next; literals = 2 * v ∷ [] }) (from 1 h.inputs) x in λ q. ap
    (λ (j : Item). drop 1 j.literals) r.2) (λ q. ⊎_elim (expected_shaped true h.size h.next o.lines i)
    (ands_shaped (h.next + length o.front) (2 * suc h.inputs) a.ands i) (Memᴰ-append_cases os q))
    (Memᴰ-append_cases (inputs_of h) m)

-- ---- the items

module _ (bytes : List ℕ) (h : Header) (inside : h.next ≤ length bytes) where
  abbrev behind : List ℕ
  behind = drop h.next bytes

  ends : length bytes ≡ h.next + length (drop h.next bytes)
  ends = omega (arith, length-drop h.next bytes)

  ascii_exactly : h.binary ≡ false → Exactly (ItemsIn behind h) (ItemsFault behind h) (read_items bytes h)
  unfolding read_items expected
  ascii_exactly b =
      subst (λ (x : Bool). Exactly (ItemsIn behind h) (ItemsFault behind h) (cond x (read_binary bytes h) (read_expected (closed false) (length bytes) h.size [] (expected h) (lines_from h.next [] behind)))) (sym b)
      (exactly_map (read_expected (closed false) (length bytes) h.size [] (expected h) (lines_from h.next [] behind)) (λ is. ((λ x. ascii_items b x), out is)) (λ n k. (
        (λ x. of_lines b x),
        (λ y. elim y [ of_lines c q ↦ q | of_outputs e p ↦ absurd (false≢true (sym b ∙ e)) | of_ands r o z ↦ absurd (false≢true (sym b ∙ r)) ]),
      ))
      (expected_exactly false h.size h.next (expected_kinds h) behind (length bytes) ends))
    where
      out : (is : List Item) → ItemsIn behind h is → ExpectedHolds false h.size h.next (expected_kinds h) behind is
      out is (ascii_items c x) = x
      out is (binary_items c o a) = absurd (false≢true (sym b ∙ c))

  abbrev Outs : List Item → Type 0
  Outs os = ExpectedHolds true h.size h.next (replicate h.outputs an_output) behind os

  abbrev Ands : (os : List Item) → Outs os → List Item → Type 0
  Ands os o gs = AndsHold (h.next + length o.front) (2 * suc h.inputs) h.ands o.behind gs

  abbrev NoAnds : (os : List Item) → Outs os → ℕ → ℕ → Type 0
  NoAnds os o n k = AndsRefused (h.next + length o.front) (2 * suc h.inputs) h.ands o.behind n k

  binary_exactly : h.binary ≡ true → Exactly (ItemsIn behind h) (ItemsFault behind h) (read_items bytes h)
  unfolding read_items read_binary input_items
  binary_exactly b =
      subst (λ (x : Bool). Exactly (ItemsIn behind h) (ItemsFault behind h) (cond x (read_binary bytes h) (read_expected (closed false) (length bytes) h.size [] (expected h) (lines_from h.next [] behind)))) (sym b)
      (exactly_map (read_binary bytes h) (λ is. (there is, back is)) (λ n k. (
        (λ y. ⊎_elim (of_outputs b) (λ e. ⊎_elim (of_ands b e.1) (λ q. absurd q.2) e.2) y),
        up n k,
      ))
      (exactly_next (λ os o is. (gs : List Item) × (a : Ands os o gs) × (inputs_of h ++ (os ++ gs) ≡ is)) (λ os o n k. NoAnds os o n k ⊎ ((gs : List Item) × (a : Ands os o gs) × ⊥))
      (read_expected (closed true) (length bytes) h.size [] (replicate h.outputs an_output) (lines_from h.next [] behind)) rest
      (expected_exactly true h.size h.next (replicate h.outputs an_output) behind (length bytes) ends)
      (λ os o. exactly_next (λ gs a is. inputs_of h ++ (os ++ gs) ≡ is) (λ gs a n k. ⊥) (read_ands bytes (behind_lines h.next h.outputs (lines_from h.next [] behind)) (2 * suc h.inputs) h.ands)
      (λ gs. holds (inputs_of h ++ (os ++ gs))) (rw (ands_begin h.size h.next h.outputs behind os o)
      (rw (drop-behind h.next bytes o.front o.behind o.whole) at
      (ands_exactly bytes (h.next + length o.front) (2 * suc h.inputs) h.ands))) (λ gs a. exactly_holds
      (inputs_of h ++ (os ++ gs))))))
    where
      rest : List Item → Read (List Item)
      rest os = next (read_ands bytes (behind_lines h.next h.outputs (lines_from h.next [] behind)) (2 * suc h.inputs) h.ands) (λ gs. holds (inputs_of h ++ (os ++ gs)))

      there : (is : List Item) → ((os : List Item) × (o : Outs os) × ((gs : List Item) × (a : Ands os o gs) × (inputs_of h ++ (os ++ gs) ≡ is))) → ItemsIn behind h is
      there is p = subst (ItemsIn behind h) p.2.2 (binary_items b p.1 p.2.1)

      back : (is : List Item) → ItemsIn behind h is → (os : List Item) × (o : Outs os) × ((gs : List Item) × (a : Ands os o gs) × (inputs_of h ++ (os ++ gs) ≡ is))
      back is (ascii_items c x) = absurd (true≢false (sym b ∙ c))
      back is (binary_items {os} {gs} c o a) = (os, o, (gs, a, refl))

      up : (n k : ℕ) → ItemsFault behind h n k → ExpectedRefused true h.size h.next (replicate h.outputs an_output) behind n k ⊎ ((os : List Item) × (o : Outs os) × (NoAnds os o n k ⊎ ((gs : List Item) × (a : Ands os o gs) × ⊥)))
      up n k (of_lines c x) = absurd (true≢false (sym b ∙ c))
      up n k (of_outputs c x) = inl x
      up n k (of_ands {os} c o x) = inr (os, o, inl x)

  -- the graph, whole
  pub graph_exactly : Exactly (GraphIn behind h) (GraphFault behind h) (read_graph bytes h)
  unfolding read_graph
  graph_exactly = exactly_map (read_graph bytes h) (λ g. (there g, back g))
      (λ n k. ((λ y. ⊎_elim of_items (λ e. ⊎_elim (λ z. rw z.0 (fourteen e.1 z.1)) (λ q. absurd q.2) e.2) y), up n k))
      (exactly_next (λ is x g. (js : List Item) × (d : AllDefined is js) × (graph_of h.size js ≡ g))
      (λ is x n k. ((n ≡ 14) × FirstStray is k) ⊎ ((js : List Item) × (d : AllDefined is js) × ⊥)) (read_items bytes h)
      (λ is. next (check_uses (defined_by is) is) (λ js. holds (graph_of h.size js)))
      (by_bool h.binary (λ e. binary_exactly e) (λ q. ascii_exactly q)) (λ is x. exactly_next (λ js d g. graph_of h.size js ≡ g)
      (λ js d n k. ⊥) (check_uses (defined_by is) is) (λ js. holds (graph_of h.size js)) (uses_exactly is (items_shaped behind h x))
      (λ js d. exactly_holds (graph_of h.size js))))
    where
      there : (g : Graph) → ((is : List Item) × (x : ItemsIn behind h is) × ((js : List Item) × (d : AllDefined is js) × (graph_of h.size js ≡ g))) → GraphIn behind h g
      there g p = record { items = p.0; are_items = p.1; no_stray = p.2.1.1; is_graph = sym p.2.2 ∙ ap (graph_of h.size) p.2.1.0 }

      back : (g : Graph) → GraphIn behind h g → (is : List Item) × (x : ItemsIn behind h is) × ((js : List Item) × (d : AllDefined is js) × (graph_of h.size js ≡ g))
      back g x = (x.items, x.are_items, (x.items, (refl, x.no_stray), sym x.is_graph))

      up : (n k : ℕ) → GraphFault behind h n k → ItemsFault behind h n k ⊎ ((is : List Item) × (x : ItemsIn behind h is) × (((n ≡ 14) × FirstStray is k) ⊎ ((js : List Item) × (d : AllDefined is js) × ⊥)))
      up n k (of_items x) = inl x
      up n k (fourteen {is} x f) = inr (is, x, inl (refl, f))
