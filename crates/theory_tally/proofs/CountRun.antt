-- The reading of a netlist, line by line: what is left to read where a line is expected. A line that may stand there leads on to what is expected behind it, any other is
-- refused with 29 at its offset, a missing one at the text's length.
use Rattle.base.specs.{ℕ, zero, suc, ◌-◌, arith, ◌≡◌, refl, sym, ◌∙◌, ap, Bool, true, false, cond, ◌&&◌, Option, None, Some, List, [], ◌∷◌}
use Rattle.base.specs.{◌++◌, map, append-nil, append_assoc, T, not_T, length, get_or, and_yes, yes_and}
use Rattle.model.specs.{same, each, from, below, and_then, only, Line, ended_by_ten, text, fields, lines_from, closed, Read, holds, fault, next}
use Rattle.model.specs.{is_name_list, gate_of, is_wire, is_figures, is_timing, expected_lines, nothing_left, gate_in, gates_in, after_gates, area_of, preamble}
use Rattle.model.specs.{wire_pairs, timings, behind_gates, outputs_of, read_counted}
use Rattle.model.specs.declared.Cell.{Cell}
use Rattle.theory_graph.proofs.{is_true, is_false, by_option}
use Rattle.theory_text.proofs.{then_out, only_out}
use Rattle.theory_refusals.proofs.{on, unless-yes, unless_no}
use Rattle.promises.specs.CountForms.{Expected, model_expected, inputs_expected, outputs_expected, gate_expected, wire_expected, cover_expected, figures_expected, timing_expected}
use Rattle.promises.specs.CountRefusals.{Finished}
use Rattle.theory_tally.proofs.CountSteps.{wire_step, time_step, gate_step, step_of, line_step}

-- ---- the tests behind the gates, one after the other

unfoldable pub pair_tests : ℕ → List (List ℕ → Bool)
pair_tests zero = []
pair_tests (suc k) = is_wire ∷ same (text "1 1") ∷ pair_tests k

unfoldable pub time_tests : ℕ → List (List ℕ → Bool)
time_tests zero = []
time_tests (suc k) = is_timing ∷ time_tests k

pairs_are : (i k : ℕ) → each (λ (_ : ℕ). is_wire ∷ same (text "1 1") ∷ []) (from i k) ≡ pair_tests k
unfolding each from pair_tests
pairs_are i zero = refl
pairs_are i (suc k) = ap (λ (ps : List (List ℕ → Bool)). is_wire ∷ same (text "1 1") ∷ ps) (pairs_are (suc i) k)

times_are : (i k : ℕ) → map (λ (_ : ℕ). is_timing) (from i k) ≡ time_tests k
unfolding from time_tests
times_are i zero = refl
times_are i (suc k) = ap (λ (ps : List (List ℕ → Bool)). is_timing ∷ ps) (times_are (suc i) k)

timings_are : (ranged : Bool) (k : ℕ) → timings ranged k ≡ time_tests (cond ranged k zero)
unfolding timings below time_tests
timings_are true k = times_are 0 k
timings_are false k = refl

-- ---- what is left to read
module _ (end : ℕ) (ranged : Bool) (cells : List Cell) where
  abbrev fin : List ℕ → List Line → Read (List ℕ)
  fin us ls = next (nothing_left ls) (λ _. holds us)

  abbrev tail : ℕ → List ℕ → List (List ℕ → Bool)
  tail n us = same (text ".end") ∷ is_figures (length us) (area_of cells us) ∷ time_tests (cond ranged n zero)

  abbrev run : ℕ → List ℕ → List Line → Read (List ℕ)
  run n us ls = next (expected_lines end (behind_gates ranged n (length us) (area_of cells us)) ls) (fin us)

  abbrev gate_lines : ℕ → List ℕ → List Line → Read (List ℕ)
  gate_lines n us ls = run n (us ++ gates_in cells ls) (after_gates cells ls)

  abbrev outputs_at : ℕ → List Line → ℕ
  outputs_at k ls = length (fields (get_or ls k (record { offset = 0; bytes = []; ending = 0 })).bytes) - 1

  unfoldable pub left : Expected → List Line → Read (List ℕ)
  left model_expected ls = next (expected_lines end (same (text ".model top") ∷ is_name_list (text ".inputs") 112 ∷ is_name_list (text ".outputs") 111 ∷ []) ls) (gate_lines (outputs_at 2 ls) [])
  left inputs_expected ls = next (expected_lines end (is_name_list (text ".inputs") 112 ∷ is_name_list (text ".outputs") 111 ∷ []) ls) (gate_lines (outputs_at 1 ls) [])
  left outputs_expected ls = next (expected_lines end (is_name_list (text ".outputs") 111 ∷ []) ls) (gate_lines (outputs_at 0 ls) [])
  left (gate_expected n us) ls = gate_lines n us ls
  left (wire_expected k n us) ls = next (expected_lines end (pair_tests k ++ tail n us) ls) (fin us)
  left (cover_expected k n us) ls = next (expected_lines end (same (text "1 1") ∷ pair_tests k ++ tail n us) ls) (fin us)
  left (figures_expected n us) ls = next (expected_lines end (is_figures (length us) (area_of cells us) ∷ time_tests (cond ranged n zero)) ls) (fin us)
  left (timing_expected k us) ls = next (expected_lines end (time_tests k) ls) (fin us)

  -- ---- an expected line

  expected-yes : (p : List ℕ → Bool) (ps : List (List ℕ → Bool)) (l : Line) (ls : List Line) (f : List Line → Read (List ℕ)) → T (ended_by_ten l) → T (p l.bytes)
      → next (expected_lines end (p ∷ ps) (l ∷ ls)) f ≡ next (expected_lines end ps ls) f
  unfolding expected_lines
  expected-yes p ps l ls f a b =
      ap (λ (r : Read (List Line)). next r f) (unless-yes (ended_by_ten l && p l.bytes) 29 l.offset (expected_lines end ps ls) (yes_and (ended_by_ten l) (p l.bytes) a b))

  expected_no : (p : List ℕ → Bool) (ps : List (List ℕ → Bool)) (l : Line) (ls : List Line) (f : List Line → Read (List ℕ)) → (T (ended_by_ten l) → ¬ T (p l.bytes))
      → next (expected_lines end (p ∷ ps) (l ∷ ls)) f ≡ fault 29 l.offset
  unfolding expected_lines next
  expected_no p ps l ls f n = cc (unless_no (ended_by_ten l && p l.bytes) 29 l.offset (expected_lines end ps ls)
      (not_T (ended_by_ten l && p l.bytes) (λ t. let q = and_yes (ended_by_ten l) (p l.bytes) t in n q.0 q.1)))

  expected-none : (p : List ℕ → Bool) (ps : List (List ℕ → Bool)) (f : List Line → Read (List ℕ)) → next (expected_lines end (p ∷ ps) []) f ≡ fault 29 end
  unfolding expected_lines next
  expected-none p ps f = refl

  expected-all : (ls : List Line) (f : List Line → Read (List ℕ)) → next (expected_lines end [] ls) f ≡ f ls
  unfolding expected_lines next
  expected-all ls f = refl

  -- ---- a line that may stand there, and one that may not

  took : (d : Expected) (l : Line) (e : Expected) → line_step ranged cells d l ≡ Some e → T (ended_by_ten l) × (step_of ranged cells d l.bytes ≡ Some e)
  took d l e q =
      let o = then_out (only (closed true l) l.bytes) (step_of ranged cells d) e q in
      let p = only_out (closed true l) l.bytes o.0 o.1 in
      (p.0, ap (step_of ranged cells d) p.1 ∙ o.2)

  refused : (d : Expected) (l : Line) → line_step ranged cells d l ≡ None → T (ended_by_ten l) → step_of ranged cells d l.bytes ≡ None
  unfolding and_then only
  refused d l q t = sym (ap (λ (b : Bool). and_then (only b l.bytes) (step_of ranged cells d)) (is_true (ended_by_ten l) t)) ∙ q

  none_fails : {A : Type 0} (b : Bool) (a : A) → only b a ≡ None → ¬ T b
  unfolding only
  none_fails true a e t = let z : ◌≡◌ {A = ℕ} 0 1 = cc in omega arith
  none_fails false a e t = t

  run_is : (n : ℕ) (us : List ℕ) (ls : List Line) → run n us ls ≡ left (wire_expected n n us) ls
  unfolding left
  run_is n us ls = ap (λ (ps : List (List ℕ → Bool)). next (expected_lines end ps ls) (fin us)) (unfold behind_gates wire_pairs below in cc
      (pairs_are 0 n, timings_are ranged n))

  -- gate lines
  gate-lines-some : (n : ℕ) (us : List ℕ) (l : Line) (ls : List Line) (i : ℕ) → gate_in cells l ≡ Some i → gate_lines n us (l ∷ ls) ≡ gate_lines n (us ++ (i ∷ [])) ls
  unfolding gates_in after_gates
  gate-lines-some n us l ls i e =
      ap (λ (o : Option ℕ). run n (us ++ elim o [ Some j ↦ j ∷ gates_in cells ls | None ↦ [] ]) (elim o [ Some j ↦ after_gates cells ls | None ↦ l ∷ ls ])) e
      ∙ ap (λ (x : List ℕ). run n x (after_gates cells ls)) (sym (append_assoc us (i ∷ []) (gates_in cells ls)))

  gate-lines-none : (n : ℕ) (us : List ℕ) (l : Line) (ls : List Line) → gate_in cells l ≡ None → gate_lines n us (l ∷ ls) ≡ left (wire_expected n n us) (l ∷ ls)
  unfolding gates_in after_gates
  gate-lines-none n us l ls e = ap (λ (o : Option ℕ). run n (us ++ elim o [ Some j ↦ j ∷ gates_in cells ls | None ↦ [] ])
      (elim o [ Some j ↦ after_gates cells ls | None ↦ l ∷ ls ])) e ∙ ap (λ (x : List ℕ). run n x (l ∷ ls)) (append-nil us)
      ∙ run_is n us (l ∷ ls)

  gate_in_lem : (l : Line) → T (ended_by_ten l) → gate_in cells l ≡ gate_of 0 cells l.bytes
  unfolding gate_in
  gate_in_lem l t = ap (λ (b : Bool). cond b (gate_of 0 cells l.bytes) None) (is_true (ended_by_ten l) t)

  wire-on : (k n : ℕ) (us : List ℕ) (l : Line) (ls : List Line) (e : Expected) → T (ended_by_ten l) → wire_step k n us l.bytes ≡ Some e → left (wire_expected k n us) (l ∷ ls) ≡ left e ls
  unfolding left wire_step pair_tests
  wire-on zero n us l ls e t q =
      let p = only_out (same (text ".end") l.bytes) (figures_expected n us) e q in
      expected-yes (same (text ".end")) _ l ls (fin us) t p.0 ∙ ap (λ (d : Expected). left d ls) p.1
  wire-on (suc k) n us l ls e t q =
      let p = only_out (is_wire l.bytes) (cover_expected k n us) e q in
      expected-yes is_wire _ l ls (fin us) t p.0 ∙ ap (λ (d : Expected). left d ls) p.1

  pub goes_on : (d : Expected) (l : Line) (ls : List Line) (e : Expected) → line_step ranged cells d l ≡ Some e → left d (l ∷ ls) ≡ left e ls
  unfolding left step_of time_step gate_step
  goes_on model_expected l ls e q =
      let a = took model_expected l e q in
      let p = only_out (same (text ".model top") l.bytes) inputs_expected e a.1 in
      expected-yes (same (text ".model top")) _ l ls _ a.0 p.0 ∙ ap (λ (d : Expected). left d ls) p.1
  goes_on inputs_expected l ls e q =
      let a = took inputs_expected l e q in
      let p = only_out (is_name_list (text ".inputs") 112 l.bytes) outputs_expected e a.1 in
      expected-yes (is_name_list (text ".inputs") 112) _ l ls _ a.0 p.0 ∙ ap (λ (d : Expected). left d ls) p.1
  goes_on outputs_expected l ls e q =
      let a = took outputs_expected l e q in
      let p = only_out (is_name_list (text ".outputs") 111 l.bytes) (gate_expected (length (fields l.bytes) - 1) []) e a.1 in
      expected-yes (is_name_list (text ".outputs") 111) [] l ls _ a.0 p.0 ∙ expected-all ls _ ∙ ap (λ (d : Expected). left d ls) p.1
  goes_on (gate_expected n us) l ls e q = let a = took (gate_expected n us) l e q in by_option (gate_of 0 cells l.bytes)
      (λ f. unfold gate_step in gate-lines-none n us l ls (gate_in_lem l a.0 ∙ f) ∙ wire-on n n us l ls e a.0 (rw f at a.1)) (λ i p.
      unfold gate_step left in
      (gate-lines-some n us l ls i (gate_in_lem l a.0 ∙ p) ∙ (let z : gate_expected n (us ++ (i ∷ [])) ≡ e = cc in ap (λ (d : Expected). left d ls) z)))
  goes_on (wire_expected k n us) l ls e q = let a = took (wire_expected k n us) l e q in wire-on k n us l ls e a.0 a.1
  goes_on (cover_expected k n us) l ls e q =
      let a = took (cover_expected k n us) l e q in
      let p = only_out (same (text "1 1") l.bytes) (wire_expected k n us) e a.1 in
      expected-yes (same (text "1 1")) _ l ls (fin us) a.0 p.0 ∙ ap (λ (d : Expected). left d ls) p.1
  goes_on (figures_expected n us) l ls e q =
      let a = took (figures_expected n us) l e q in
      let p = only_out (is_figures (length us) (area_of cells us) l.bytes) (timing_expected (cond ranged n zero) us) e a.1 in
      expected-yes (is_figures (length us) (area_of cells us)) _ l ls (fin us) a.0 p.0 ∙ ap (λ (d : Expected). left d ls) p.1
  goes_on (timing_expected zero us) l ls e q = let a = took (timing_expected zero us) l e q in let z : ◌≡◌ {A = ℕ} 0 1 = cc in absurd (omega arith)
  goes_on (timing_expected (suc k) us) l ls e q =
      let a = took (timing_expected (suc k) us) l e q in
      let p = only_out (is_timing l.bytes) (timing_expected k us) e a.1 in
      unfold time_tests in expected-yes is_timing (time_tests k) l ls (fin us) a.0 p.0 ∙ ap (λ (d : Expected). left d ls) p.1

  wire_off : (k n : ℕ) (us : List ℕ) (l : Line) (ls : List Line) → (T (ended_by_ten l) → wire_step k n us l.bytes ≡ None) → left (wire_expected k n us) (l ∷ ls) ≡ fault 29 l.offset
  unfolding left wire_step pair_tests
  wire_off zero n us l ls q = expected_no (same (text ".end")) _ l ls (fin us) (λ t. none_fails (same (text ".end") l.bytes) (figures_expected n us) (q t))
  wire_off (suc k) n us l ls q = expected_no is_wire _ l ls (fin us) (λ t. none_fails (is_wire l.bytes) (cover_expected k n us) (q t))

  pub stops : (d : Expected) (l : Line) (ls : List Line) → line_step ranged cells d l ≡ None → left d (l ∷ ls) ≡ fault 29 l.offset
  unfolding left step_of time_step gate_step
  stops model_expected l ls q = expected_no (same (text ".model top")) _ l ls _ (λ t. none_fails (same (text ".model top") l.bytes) inputs_expected (refused model_expected l q t))
  stops inputs_expected l ls q = expected_no (is_name_list (text ".inputs") 112) _ l ls _ (λ t. none_fails (is_name_list (text ".inputs") 112 l.bytes) outputs_expected (refused inputs_expected l q t))
  stops outputs_expected l ls q =
      expected_no (is_name_list (text ".outputs") 111) _ l ls _ (λ t. none_fails (is_name_list (text ".outputs") 111 l.bytes) (gate_expected (length (fields l.bytes) - 1) []) (refused outputs_expected l q t))
  stops (gate_expected n us) l ls q = on (ended_by_ten l) (λ t. go (gate_of 0 cells l.bytes) refl t (refused (gate_expected n us) l q t)) (λ t. gate-lines-none n us l ls (
      unfold gate_in in cc (is_false (ended_by_ten l) t)) ∙ wire_off n n us l ls (λ u. absurd (lib.Dec.T_not (ended_by_ten l) t u)))
    where
      go : (o : Option ℕ) → gate_of 0 cells l.bytes ≡ o → T (ended_by_ten l) → gate_step o n us l.bytes ≡ None → gate_lines n us (l ∷ ls) ≡ fault 29 l.offset
      go None f t r = unfold gate_step in gate-lines-none n us l ls (gate_in_lem l t ∙ f) ∙ wire_off n n us l ls (λ u. r)
      go (Some i) f t r = unfold gate_step in let z : ◌≡◌ {A = ℕ} 0 1 = cc in absurd (omega arith)
  stops (wire_expected k n us) l ls q = wire_off k n us l ls (refused (wire_expected k n us) l q)
  stops (cover_expected k n us) l ls q = expected_no (same (text "1 1")) _ l ls (fin us) (λ t. none_fails (same (text "1 1") l.bytes) (wire_expected k n us) (refused (cover_expected k n us) l q t))
  stops (figures_expected n us) l ls q = expected_no (is_figures (length us) (area_of cells us)) _ l ls (fin us) (λ t.
      none_fails (is_figures (length us) (area_of cells us) l.bytes) (timing_expected (cond ranged n zero) us) (refused (figures_expected n us) l q t))
  stops (timing_expected zero us) l ls q = unfold time_tests next expected_lines nothing_left in refl
  stops (timing_expected (suc k) us) l ls q =
      unfold time_tests in expected_no is_timing (time_tests k) l ls (fin us) (λ t. none_fails (is_timing l.bytes) (timing_expected k us) (refused (timing_expected (suc k) us) l q t))

  -- ---- the text's end

  wire-end : (k n : ℕ) (us : List ℕ) → left (wire_expected k n us) [] ≡ fault 29 end
  unfolding left pair_tests
  wire-end zero n us = expected-none (same (text ".end")) _ (fin us)
  wire-end (suc k) n us = expected-none is_wire _ (fin us)

  pub ends : (d : Expected) → (¬ Finished d) → left d [] ≡ fault 29 end
  unfolding left
  ends model_expected f = expected-none (same (text ".model top")) _ _
  ends inputs_expected f = expected-none (is_name_list (text ".inputs") 112) _ _
  ends outputs_expected f = expected-none (is_name_list (text ".outputs") 111) _ _
  ends (gate_expected n us) f = unfold gates_in after_gates in ap (λ (x : List ℕ). run n x []) (append-nil us) ∙ run_is n us [] ∙ wire-end n n us
  ends (wire_expected k n us) f = wire-end k n us
  ends (cover_expected k n us) f = expected-none (same (text "1 1")) _ (fin us)
  ends (figures_expected n us) f = expected-none (is_figures (length us) (area_of cells us)) _ (fin us)
  ends (timing_expected zero us) f = absurd (f (us, refl))
  ends (timing_expected (suc k) us) f = unfold time_tests in expected-none is_timing (time_tests k) (fin us)

  pub finished : (us : List ℕ) → left (timing_expected zero us) [] ≡ holds us
  unfolding left time_tests next expected_lines nothing_left
  finished us = refl

-- every stage is finished or not
pub finished? : {X : Type 0} (d : Expected) → ((us : List ℕ) → d ≡ timing_expected zero us → X) → ((¬ Finished d) → X) → X
finished? model_expected f g = g (λ p. let z : ◌≡◌ {A = ℕ} 0 1 = (let e = p.1 in cc) in omega arith)
finished? inputs_expected f g = g (λ p. let z : ◌≡◌ {A = ℕ} 0 1 = (let e = p.1 in cc) in omega arith)
finished? outputs_expected f g = g (λ p. let z : ◌≡◌ {A = ℕ} 0 1 = (let e = p.1 in cc) in omega arith)
finished? (gate_expected n us) f g = g (λ p. let z : ◌≡◌ {A = ℕ} 0 1 = (let e = p.1 in cc) in omega arith)
finished? (wire_expected k n us) f g = g (λ p. let z : ◌≡◌ {A = ℕ} 0 1 = (let e = p.1 in cc) in omega arith)
finished? (cover_expected k n us) f g = g (λ p. let z : ◌≡◌ {A = ℕ} 0 1 = (let e = p.1 in cc) in omega arith)
finished? (figures_expected n us) f g = g (λ p. let z : ◌≡◌ {A = ℕ} 0 1 = (let e = p.1 in cc) in omega arith)
finished? (timing_expected zero us) f g = f us refl
finished? (timing_expected (suc k) us) f g = g (λ p. let e = p.1 in let z : suc k ≡ 0 = cc in omega arith)

-- the whole reading
pub counted-left : (ranged : Bool) (cells : List Cell) (t : List ℕ) → read_counted ranged cells t ≡ left (length t) ranged cells model_expected (lines_from 0 [] t)
unfolding read_counted left preamble outputs_of
counted-left ranged cells t = refl
