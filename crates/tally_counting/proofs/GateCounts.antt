-- The gate lines, counted:
--     gate-none, gate-line            the line at a place, by what the reader met
--     Passing, passing, stopping      what a gate line and another line leave of the lines
--     SoFar, so-far-..                the counts, gate by gate
use Rattle.base.specs.{ℕ, zero, suc, ◌+◌, ◌-◌, ◌*◌, ◌≤◌, ◌<◌, arith, ◌≡◌, refl, sym, ap, ◌∙◌, Bool, true, false, cond, Option, None, Some}
use Rattle.base.specs.{List, [], ◌∷◌, eqb, length, take, drop, get_or, set, replicate, length-set, get_or-set_same, get_or-set_other, eqb-true}
use Rattle.base.specs.{eqb-false}
use Rattle.model.specs.{Line, ended_by_ten, fields, no_cell, cell_at, cells_of, of_form, gate_form, gate_of, sum, gate_in, gates_in, after_gates}
use Rattle.model.specs.{area_of, times}
use Rattle.model.specs.declared.Cell.{Cell}
use Rattle.model.specs.declared.Library.{Library}
use Rattle.base_text.specs.declared.Span.{Span}
use Rattle.base_text.specs.{line_at, past_line, span_at}
use Rattle.base_text.proofs.{span-long}
use Rattle.tally_lines.specs.{Listed}
use Rattle.tally_lines.proofs.{cells_count, cells_at}
use Rattle.tally_counting.specs.declared.Counts.{Counts}
use Rattle.tally_counting.specs.{lines_of, gate_or, gate_at, no_gates, with_gate, Counted}
use Rattle.tally_counting.proofs.ExpectedNetlistLines.{Ten, ten-line, NotTen, missing, other, not-ten}

-- ---- the line at a place

module _ (l : Library) (s : List ℕ) (at : ℕ) where
  gate_by_lem : (o : Option ℕ) → gate_in (cells_of l) (line_at s at) ≡ o → gate_at l s at ≡ gate_or o (past_line s at)
  unfolding gate_at
  gate_by_lem o e = rw e

  in_ten : ended_by_ten (line_at s at) ≡ true → gate_in (cells_of l) (line_at s at) ≡ gate_of 0 (cells_of l) (line_at s at).bytes
  unfolding gate_in
  in_ten e = rw e

  pub gate-none : ended_by_ten (line_at s at) ≡ false → None ≡ gate_at l s at
  unfolding gate_in
  gate-none e = sym (gate_by_lem None (rw e))

  module _ (p : Span) (t : Ten s at p) where
    found : (o : Option ℕ) → gate_of 0 (cells_of l) (take (p.stop - at) (drop at s)) ≡ o → gate_in (cells_of l) (line_at s at) ≡ o
    found o e = in_ten t.ends ∙ ap (gate_of 0 (cells_of l)) (sym t.bytes) ∙ e

    pub gate-line : (o : Option ℕ) → o ≡ gate_of 0 (cells_of l) (take (p.stop - at) (drop at s)) → gate_or o p.next ≡ gate_at l s at
    gate-line o is = sym (gate_by_lem o (found o (sym is)) ∙ ap (gate_or o) (sym t.past))

-- ---- the lines behind it

gate-below : (k : ℕ) (cells : List Cell) (w : List ℕ) (i : ℕ) → gate_of k cells w ≡ Some i → i < k + length cells
unfolding gate_of
gate-below k [] w i e = let z : ◌≡◌ {A = ℕ} 0 1 = cc in absurd (omega arith)
gate-below k (c ∷ cs) w i e = go (of_form (gate_form c) (fields w)) e (gate-below (suc k) cs w i)
  where
    go : (b : Bool) → cond b (Some k) (gate_of (suc k) cs w) ≡ Some i → (gate_of (suc k) cs w ≡ Some i → i < suc k + length cs) → i < k + suc (length cs)
    go true q later = let z : k ≡ i = cc in omega arith
    go false q later = let z : i < suc k + length cs = later q in omega arith

-- the lines from one on, by what it is
module _ (cells : List Cell) (l : Line) (ls : List Line) where
  gates-some : (k : ℕ) → gate_in cells l ≡ Some k → (gates_in cells (l ∷ ls) ≡ k ∷ gates_in cells ls) × (after_gates cells (l ∷ ls) ≡ after_gates cells ls)
  unfolding gates_in after_gates
  gates-some k e = (
    ap (λ (o : Option ℕ). elim o [ Some i ↦ i ∷ gates_in cells ls | None ↦ [] ]) e,
    ap (λ (o : Option ℕ). elim o [ Some i ↦ after_gates cells ls | None ↦ l ∷ ls ]) e,
  )

  gates-none : gate_in cells l ≡ None → (gates_in cells (l ∷ ls) ≡ []) × (after_gates cells (l ∷ ls) ≡ l ∷ ls)
  unfolding gates_in after_gates
  gates-none e = (
    ap (λ (o : Option ℕ). elim o [ Some i ↦ i ∷ gates_in cells ls | None ↦ [] ]) e,
    ap (λ (o : Option ℕ). elim o [ Some i ↦ after_gates cells ls | None ↦ l ∷ ls ]) e,
  )

-- what a gate line says of the lines
pub record Passing (l : Library) (s : List ℕ) (at k next : ℕ) : Type 0 where
  pub gates : gates_in (cells_of l) (lines_of s at) ≡ k ∷ gates_in (cells_of l) (lines_of s next)
  pub behind : after_gates (cells_of l) (lines_of s at) ≡ after_gates (cells_of l) (lines_of s next)
  pub within : next ≤ length s
  pub later : at < next
  pub listed : k < length (cells_of l)

module _ (l : Library) (s : List ℕ) (at : ℕ) (fits : at ≤ length s) where
  is_out : (o : Option ℕ) (k next : ℕ) → gate_or o (past_line s at) ≡ Some (k, next) → (o ≡ Some k) × (past_line s at ≡ next)
  is_out None k next e = let z : ◌≡◌ {A = ℕ} 0 1 = cc in absurd (omega arith)
  is_out (Some i) k next e =
      let z : ◌≡◌ {A = ℕ × ℕ} (i, past_line s at) (k, next) = cc in
      (ap Some (ap (λ (x : ℕ × ℕ). x.0) z), ap (λ (x : ℕ × ℕ). x.1) z)

  other_out : (o : Option ℕ) → gate_or o (past_line s at) ≡ None → o ≡ None
  other_out None e = refl
  other_out (Some i) e = let z : ◌≡◌ {A = ℕ} 0 1 = cc in absurd (omega arith)

  ended_out : (t : Bool) (k : ℕ) (o : Option ℕ) → cond t o None ≡ Some k → (t ≡ true) × (o ≡ Some k)
  ended_out true k o e = (refl, e)
  ended_out false k o e = let z : ◌≡◌ {A = ℕ} 0 1 = cc in absurd (omega arith)

  pub passing : (k next : ℕ) → gate_at l s at ≡ Some (k, next) → Passing l s at k next
  unfolding gate_at gate_in
  passing k next e =
      let o = is_out (gate_in (cells_of l) (line_at s at)) k next e in
      let b = ended_out (ended_by_ten (line_at s at)) k (gate_of 0 (cells_of l) (line_at s at).bytes) o.0 in
      let one : (line_at s at).ending ≡ 1 = eqb-true (line_at s at).ending 1 b.0 in
      let t = ten-line s at fits (span_at s at) refl (omega (arith, span-long s at)) in let n : (span_at s at).next ≡ next = t.past ∙ o.1 in
      let h : lines_of s at ≡ line_at s at ∷ lines_of s next = t.here ∙ ap (λ (x : ℕ). line_at s at ∷ lines_of s x) n in
      record {
        gates = ap (gates_in (cells_of l)) h ∙ (gates-some (cells_of l) (line_at s at) (lines_of s next) k o.0).0;
        behind = ap (after_gates (cells_of l)) h ∙ (gates-some (cells_of l) (line_at s at) (lines_of s next) k o.0).1;
        within = omega (arith, t.within);
        later = omega (arith, t.later);
        listed = omega (arith, gate-below 0 (cells_of l) (line_at s at).bytes k b.1);
      }

  pub stopping : gate_at l s at ≡ None → (gates_in (cells_of l) (lines_of s at) ≡ []) × (after_gates (cells_of l) (lines_of s at) ≡ lines_of s at)
  unfolding gate_at gates_in after_gates
  stopping e = go (not-ten s at fits (span_at s at) refl)
    where
      o : gate_in (cells_of l) (line_at s at) ≡ None
      o = other_out (gate_in (cells_of l) (line_at s at)) e

      go : NotTen s at fits (span_at s at) refl → (gates_in (cells_of l) (lines_of s at) ≡ []) × (after_gates (cells_of l) (lines_of s at) ≡ lines_of s at)
      go (missing h z) = (ap (gates_in (cells_of l)) h, ap (after_gates (cells_of l)) h ∙ sym h)
      go (other rest h) = (
        ap (gates_in (cells_of l)) h ∙ (gates-none (cells_of l) (line_at s at) rest o).0,
        ap (after_gates (cells_of l)) h ∙ (gates-none (cells_of l) (line_at s at) rest o).1 ∙ sym h,
      )

-- ---- the counts

abbrev rest_of : Library → List ℕ → ℕ → List ℕ
rest_of l s at = gates_in (cells_of l) (lines_of s at)

-- what was counted and what is left are all gates
pub record SoFar (l : Library) (s : List ℕ) (from : ℕ) (c : Counts) : Type 0 where
  pub long : length c.n ≡ 32
  pub places : (i : ℕ) → i < 32 → get_or c.n i 0 + times i (rest_of l s c.at) ≡ times i (rest_of l s from)
  pub gates : c.gates + length (rest_of l s c.at) ≡ length (rest_of l s from)
  pub area : c.area + area_of (cells_of l) (rest_of l s c.at) ≡ area_of (cells_of l) (rest_of l s from)
  pub behind : after_gates (cells_of l) (lines_of s from) ≡ after_gates (cells_of l) (lines_of s c.at)
  pub inside : c.at ≤ length s
  pub few : c.gates ≤ c.at
  pub small : c.area ≤ 65535 * c.gates
  pub each : (i : ℕ) → i < 32 → get_or c.n i 0 ≤ c.gates

zero-at : (n i : ℕ) → ◌≡◌ {A = ℕ} (get_or (replicate n 0) i 0) 0
zero-at zero i = refl
zero-at (suc n) zero = refl
zero-at (suc n) (suc i) = zero-at n i

length-zeros : (n : ℕ) → length {A = ℕ} (replicate n 0) ≡ n
length-zeros zero = refl
length-zeros (suc n) = ap suc (length-zeros n)

pub so_far-first : (l : Library) (s : List ℕ) (from : ℕ) → from ≤ length s → SoFar l s from (no_gates from)
so_far-first l s from h = record {
  long = length-zeros 32;
  places = λ i q. omega (arith, zero-at 32 i);
  gates = omega arith;
  area = omega arith;
  behind = refl;
  inside = h;
  few = omega arith;
  small = omega arith;
  each = λ i q. omega (arith, zero-at 32 i);
}

pub so_far_last : (l : Library) (s : List ℕ) (from : ℕ) (c : Counts) → length s ≤ 65536 → SoFar l s from c → gate_at l s c.at ≡ None → Counted l s from c
so_far_last l s from c short f e =
    let z = stopping l s c.at f.inside e in
    record {
      long = f.long;
      places = λ i q. let n : times i (rest_of l s c.at) ≡ 0 = unfold times in ap (times i) z.0 in omega (arith, f.places i q);
      gates = omega (arith, f.gates, ap length z.0);
      area = let n : area_of (cells_of l) (rest_of l s c.at) ≡ 0 = unfold area_of sum in ap (area_of (cells_of l)) z.0 in omega (arith, f.area);
      behind = f.behind ∙ z.1;
      inside = f.inside;
      few = omega (arith, f.few, f.inside);
    }

module _ (l : Library) (ready : Listed l) (s : List ℕ) (from : ℕ) (c : Counts) (f : SoFar l s from c) (k next : ℕ) (e : gate_at l s c.at ≡ Some (k, next)) where
  step : Passing l s c.at k next
  step = passing l s c.at f.inside k next e

  pub so_far-listed : k < l.n
  so_far-listed = omega (arith, step.listed, cells_count l ready.long ready.few)

  pub so_far-later : (c.at < next) × (next ≤ length s)
  so_far-later = (step.later, step.within)

  listed : k < 32
  listed = omega (arith, so_far-listed, ready.few)

  areas : area_of (cells_of l) (rest_of l s c.at) ≡ (get_or l.cells k no_cell).area + area_of (cells_of l) (rest_of l s next)
  unfolding area_of sum cell_at
  areas =
      ap (area_of (cells_of l)) step.gates
      ∙ ap (λ (x : ℕ). x + area_of (cells_of l) (rest_of l s next)) (ap (λ (x : Cell). x.area) (cells_at l ready.long ready.few k so_far-listed))

  abbrev more : List ℕ
  more = set c.n k (get_or c.n k 0 + 1)

  kept : (i : ℕ) → eqb i k ≡ false → get_or more i 0 ≡ get_or c.n i 0
  kept i t = get_or-set_other c.n k i (get_or c.n k 0 + 1) 0 (eqb-false i k t)

  risen : (i : ℕ) → eqb i k ≡ true → get_or more i 0 ≡ get_or c.n i 0 + 1
  risen i t =
      let z : i ≡ k = eqb-true i k t in
      ap (λ (j : ℕ). get_or more j 0) z ∙ get_or-set_same c.n k (get_or c.n k 0 + 1) 0 (omega (arith, f.long, listed)) ∙ ap (λ (x : ℕ). get_or c.n x 0 + 1) (sym z)

  tallied : (i : ℕ) (t : Bool) → eqb i k ≡ t → times i (rest_of l s c.at) ≡ cond t (suc (times i (rest_of l s next))) (times i (rest_of l s next))
  unfolding times
  tallied i t q = ap (times i) step.gates ∙ rw q

  place : (i : ℕ) → i < 32 → (t : Bool) → eqb i k ≡ t → get_or more i 0 + times i (rest_of l s next) ≡ times i (rest_of l s from)
  place i q true t = omega (arith, risen i t, tallied i true t, f.places i q)
  place i q false t = omega (arith, kept i t, tallied i false t, f.places i q)

  at_most : (i : ℕ) → i < 32 → (t : Bool) → eqb i k ≡ t → get_or more i 0 ≤ c.gates + 1
  at_most i q true t = omega (arith, risen i t, f.each i q)
  at_most i q false t = omega (arith, kept i t, f.each i q)

  pub so_far_more : (a : ℕ) → a ≡ (get_or l.cells k no_cell).area → a < 65536 → SoFar l s from (with_gate c k a next)
  so_far_more a is low = record {
    long = length-set c.n k (get_or c.n k 0 + 1) ∙ f.long;
    places = λ i q. place i q (eqb i k) refl;
    gates = omega (arith, f.gates, ap length step.gates);
    area = omega (arith, f.area, areas);
    behind = f.behind ∙ step.behind;
    inside = step.within;
    few = omega (arith, f.few, step.later);
    small = omega (arith, f.small);
    each = λ i q. at_most i q (eqb i k) refl;
  }
