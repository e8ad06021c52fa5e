-- The cells of a netlist that is counted: they are listed, and no more than the text has bytes.
use Rattle.base.specs.{ℕ, suc, ◌+◌, ◌≤◌, ◌<◌, arith, ◌≡◌, refl, sym, ap, subst, Bool, true, false, cond, ◌&&◌, Option, None, Some, List, []}
use Rattle.base.specs.{◌∷◌, Memᴰ, Memᴰ-head, Memᴰ-tail, Memᴰ-not-nil, T, eqb, leb, ltb, length}
use Rattle.model.specs.{Line, ended_by_ten, lines_from, fields, holds, read_library, is_ranged, of_form, gate_form, gate_of, in_width, expected_lines}
use Rattle.model.specs.{nothing_left, gate_in, gates_in, after_gates, area_of, preamble, behind_gates, outputs_of, read_counted, counted, count_text}
use Rattle.model.specs.declared.Cell.{Cell}
use Rattle.model.specs.declared.Tally.{Tally}
use Rattle.theory_graph.proofs.{by_bool}
use Rattle.theory_text.proofs.{lines_step, holds-once, unless_out, next_out}

-- ---- listed

gate-below : (k : ℕ) (cells : List Cell) (w : List ℕ) (i : ℕ) → gate_of k cells w ≡ Some i → i < k + length cells
unfolding gate_of
gate-below k [] w i e = let z : ◌≡◌ {A = ℕ} 0 1 = cc in absurd (omega arith)
gate-below k (c ∷ cs) w i e = go (of_form (gate_form c) (fields w)) e (gate-below (suc k) cs w i)
  where
    go : (b : Bool) → cond b (Some k) (gate_of (suc k) cs w) ≡ Some i → (gate_of (suc k) cs w ≡ Some i → i < suc k + length cs) → i < k + suc (length cs)
    go true q later = let z : k ≡ i = cc in omega arith
    go false q later = let z : i < suc k + length cs = later q in omega arith

in_below : (cells : List Cell) (l : Line) (i : ℕ) → gate_in cells l ≡ Some i → i < length cells
unfolding gate_in
in_below cells l i e = go (ended_by_ten l) e
  where
    go : (b : Bool) → cond b (gate_of 0 cells l.bytes) None ≡ Some i → i < length cells
    go true q = omega (arith, gate-below 0 cells l.bytes i q)
    go false q = let z : ◌≡◌ {A = ℕ} 0 1 = cc in absurd (omega arith)

pub gates-listed : (cells : List Cell) (ls : List Line) (i : ℕ) → Memᴰ i (gates_in cells ls) → i < length cells
unfolding gates_in
gates-listed cells [] i m = absurd (Memᴰ-not-nil m)
gates-listed cells (l ∷ ls) i m = go (gate_in cells l) refl m (gates-listed cells ls i)
  where
    go : (o : Option ℕ) → gate_in cells l ≡ o → Memᴰ i (elim o [ Some k ↦ k ∷ gates_in cells ls | None ↦ [] ]) → (Memᴰ i (gates_in cells ls) → i < length cells) → i < length cells
    go None e q later = absurd (Memᴰ-not-nil q)
    go (Some k) e (Memᴰ-head h) later = let z : k < length cells = in_below cells l k e in omega (arith, h)
    go (Some k) e (Memᴰ-tail q) later = later q

-- ---- few

gates-few : (cells : List Cell) (ls : List Line) → length (gates_in cells ls) ≤ length ls
unfolding gates_in
gates-few cells [] = omega arith
gates-few cells (l ∷ ls) = go (gate_in cells l) (gates-few cells ls)
  where
    go : (o : Option ℕ) → length (gates_in cells ls) ≤ length ls → length {A = ℕ} (elim o [ Some k ↦ k ∷ gates_in cells ls | None ↦ [] ]) ≤ suc (length ls)
    go None h = omega arith
    go (Some k) h = omega arith

expected-few : (end : ℕ) (ps : List (List ℕ → Bool)) (ls ms : List Line) → expected_lines end ps ls ≡ holds ms → length ms ≤ length ls
unfolding expected_lines
expected-few end [] ls ms e = omega (arith, ap length (holds-once e))
expected-few end (p ∷ ps) [] ms e = let z : ◌≡◌ {A = ℕ} 0 1 = cc in absurd (omega arith)
expected-few end (p ∷ ps) (l ∷ ls) ms e =
    let r = unless_out (ended_by_ten l && p l.bytes) 29 l.offset (expected_lines end ps ls) ms e in omega (arith, expected-few end ps ls ms r.1)

lines-few : (at : ℕ) (held bs : List ℕ) → length (lines_from at held bs) ≤ length held + length bs
lines-few at [] [] = unfold lines_from in omega arith
lines-few at (h ∷ hs) [] = unfold lines_from in omega arith
lines-few at held (b ∷ bs) = subst (λ (ls : List Line). length ls ≤ length held + suc (length bs)) (sym (lines_step at held b bs)) (by_bool
    (eqb b 10) (λ e. rw e (omega (arith, lines-few (at + suc (length held)) [] bs, lines-few at (b ∷ held) bs)))
    (λ q. rw q (omega (arith, lines-few (at + suc (length held)) [] bs, lines-few at (b ∷ held) bs))))

-- ---- a netlist that is read

pub record IsUsed (cells : List Cell) (s used : List ℕ) : Type 0 where
  pub listed : (i : ℕ) → Memᴰ i used → i < length cells
  pub few : length used ≤ length s

pub used-is : (ranged : Bool) (cells : List Cell) (s used : List ℕ) → read_counted ranged cells s ≡ holds used → IsUsed cells s used
unfolding read_counted
used-is ranged cells s used e =
    let a = next_out (expected_lines (length s) preamble (lines_from 0 [] s)) _ used e in
    let b = next_out (expected_lines (length s) (behind_gates ranged (outputs_of (lines_from 0 [] s)) (length (gates_in cells a.0)) (area_of cells (gates_in cells a.0))) (after_gates cells a.0)) _ used a.2 in
    let c = next_out (nothing_left b.0) (λ _. holds (gates_in cells a.0)) used b.2 in
    subst (IsUsed cells s) (holds-once c.2) (record {
      listed = gates-listed cells a.0;
      few = omega (arith, gates-few cells a.0, expected-few (length s) preamble (lines_from 0 [] s) a.0 a.1, lines-few 0 [] s);
    })

-- ---- a netlist that is counted

pub record IsCounted (t : Tally) (library netlist : List ℕ) (u : Tally) : Type 0 where
  pub cells : List Cell
  pub used : List ℕ
  pub is_library : read_library library ≡ holds cells
  pub is_read : read_counted (is_ranged library) cells netlist ≡ holds used
  pub is_tally : counted cells used t ≡ u
  pub short : T (leb (length library) 65536 && leb (length netlist) 65536)
  pub not_full : T (ltb t.netlists 64 && in_width t)

pub counted_by_lem : (t : Tally) (library netlist : List ℕ) (u : Tally) → count_text t library netlist ≡ holds u → IsCounted t library netlist u
unfolding count_text
counted_by_lem t library netlist u e =
    let a = unless_out (leb (length library) 65536 && leb (length netlist) 65536) 1 0 _ u e in
    let b = next_out (read_library library) _ u a.1 in
    let c = unless_out (ltb t.netlists 64 && in_width t) 28 64 _ u b.2 in
    let d = next_out (read_counted (is_ranged library) b.0 netlist) (λ used. holds (counted b.0 used t)) u c.1 in
    record { cells = b.0; used = d.0; is_library = b.1; is_read = d.1; is_tally = holds-once d.2; short = a.0; not_full = c.0 }
