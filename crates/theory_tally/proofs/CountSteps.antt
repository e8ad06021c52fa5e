-- What a reader of a netlist takes where a line is expected, and what is then expected: exactly what `CountForms.Next` says.
use Rattle.base.specs.{ℕ, zero, suc, ◌-◌, ◌<◌, arith, ◌≡◌, refl, sym, ◌∙◌, ap, subst, Bool, true, cond, Option, None, Some, List, [], ◌∷◌}
use Rattle.base.specs.{◌++◌, T, lit<, length}
use Rattle.model.specs.{all, same, and_then, only, Line, text, fields, split, onto, closed, name_of, cell_at, is_name_list, gate_of, is_wire}
use Rattle.model.specs.{is_figures, is_timing, area_of}
use Rattle.model.specs.declared.Cell.{Cell}
use Rattle.promises.specs.{joined}
use Rattle.theory_graph.proofs.{same-eq, same_refl, by_option}
use Rattle.theory_graph.specs.{library_fits}
use Rattle.theory_text.proofs.{only_out, only_yes, Free}
use Rattle.theory_refusals.proofs.{fields-joined, joined_free, reads-line, free-above}
use Rattle.theory_refusals.proofs.LineFormLaws.{Reads}
use Rattle.promises.specs.CountForms.{Expected, model_expected, inputs_expected, outputs_expected, gate_expected, wire_expected, cover_expected, figures_expected, timing_expected, Next, model}
use Rattle.promises.specs.CountForms.{inputs, outputs, gate, behind, wire, cover, end, figures, timing, NextLine}
use Rattle.theory_tally.proofs.ExpectedMet.{no_gate_lem}
use Rattle.theory_tally.proofs.CountWords.{of_fields, labels_free, word-free}
use Rattle.theory_tally.proofs.CountLines.{names_form, names-fields, names-back, wire_form, wire-free, wire-back, figures_form}
use Rattle.theory_tally.proofs.CountLines.{figures-free, figures-back, timing_form, timing-free, timing-back, words-free, gate_form_lem}
use Rattle.theory_tally.proofs.CountLines.{gate-back}

unfoldable pub wire_step : ℕ → ℕ → List ℕ → List ℕ → Option Expected
wire_step zero n us w = only (same (text ".end") w) (figures_expected n us)
wire_step (suc k) n us w = only (is_wire w) (cover_expected k n us)

unfoldable pub time_step : ℕ → List ℕ → List ℕ → Option Expected
time_step zero us w = None
time_step (suc k) us w = only (is_timing w) (timing_expected k us)

unfoldable pub gate_step : Option ℕ → ℕ → List ℕ → List ℕ → Option Expected
gate_step None n us w = wire_step n n us w
gate_step (Some i) n us w = Some (gate_expected n (us ++ (i ∷ [])))

-- what is expected behind a line with these contents, if it may stand there
unfoldable pub step_of : Bool → List Cell → Expected → List ℕ → Option Expected
step_of ranged cells model_expected w = only (same (text ".model top") w) inputs_expected
step_of ranged cells inputs_expected w = only (is_name_list (text ".inputs") 112 w) outputs_expected
step_of ranged cells outputs_expected w = only (is_name_list (text ".outputs") 111 w) (gate_expected (length (fields w) - 1) [])
step_of ranged cells (gate_expected n us) w = gate_step (gate_of 0 cells w) n us w
step_of ranged cells (wire_expected k n us) w = wire_step k n us w
step_of ranged cells (cover_expected k n us) w = only (same (text "1 1") w) (wire_expected k n us)
step_of ranged cells (figures_expected n us) w = only (is_figures (length us) (area_of cells us) w) (timing_expected (cond ranged n zero) us)
step_of ranged cells (timing_expected k us) w = time_step k us w

abbrev pub line_step : Bool → List Cell → Expected → Line → Option Expected
line_step ranged cells d l = and_then (only (closed true l) l.bytes) (step_of ranged cells d)

-- a line that is one text
is-text : (key w : List ℕ) (d e : Expected) → only (same key w) d ≡ Some e → (key ≡ w) × (d ≡ e)
is-text key w d e q = let p = only_out (same key w) d e q in (same-eq key w p.0, p.1)

module _ (ranged : Bool) (cells : List Cell) (fits : T (library_fits cells)) where
  abbrev Step : Expected → List ℕ → Expected → Type 0
  Step = Next ranged cells

  wire-step : (k n : ℕ) (us w : List ℕ) (e : Expected) → wire_step k n us w ≡ Some e → Step (wire_expected k n us) w e
  unfolding wire_step
  wire-step zero n us w e q = let p = is-text (text ".end") w (figures_expected n us) e q in rw (← p.0) (rw (← p.1) end)
  wire-step (suc k) n us w e q =
      let p = only_out (is_wire w) (cover_expected k n us) e q in
      let f = wire_form w p.0 in
      subst (λ (x : List ℕ). Step (wire_expected (suc k) n us) x e) (sym f.4) (subst (Step (wire_expected (suc k) n us) _) p.1 (wire f.2 f.3))

  step_form : (d : Expected) (w : List ℕ) (e : Expected) → step_of ranged cells d w ≡ Some e → Step d w e
  unfolding step_of time_step gate_step
  step_form model_expected w e q = let p = is-text (text ".model top") w inputs_expected e q in rw (← p.0) (rw (← p.1) model)
  step_form inputs_expected w e q =
      let p = only_out (is_name_list (text ".inputs") 112 w) outputs_expected e q in
      let f = names_form (text ".inputs") 112 w p.0 in
      subst (λ (x : List ℕ). Step inputs_expected x e) (sym (of_fields w _ f.2)) (subst (Step inputs_expected _) p.1 (inputs f.1))
  step_form outputs_expected w e q =
      let p = only_out (is_name_list (text ".outputs") 111 w) (gate_expected (length (fields w) - 1) []) e q in
      let f = names_form (text ".outputs") 111 w p.0 in
      let z : length f.0 ≡ length (fields w) - 1 = (let y : length (fields w) ≡ suc (length f.0) = ap length f.2 in omega arith) in
      subst (λ (x : List ℕ). Step outputs_expected x e) (sym (of_fields w _ f.2)) (subst (Step outputs_expected _) (ap (λ (n : ℕ). gate_expected n []) z ∙ p.1) (outputs f.1))
  step_form (gate_expected n us) w e q = by_option (gate_of 0 cells w) (λ f. unfold gate_step in behind (wire-step n n us w e (rw f at q))) (λ i p.
      unfold gate_step in let z : gate_expected n (us ++ (i ∷ [])) ≡ e = cc in subst (Step (gate_expected n us) w) z (gate (gate_form_lem cells fits w i p)))
  step_form (wire_expected k n us) w e q = wire-step k n us w e q
  step_form (cover_expected k n us) w e q = let p = is-text (text "1 1") w (wire_expected k n us) e q in rw (← p.0) (rw (← p.1) cover)
  step_form (figures_expected n us) w e q =
      let p = only_out (is_figures (length us) (area_of cells us) w) (timing_expected (cond ranged n zero) us) e q in
      let f = figures_form (length us) (area_of cells us) w p.0 in
      subst (λ (x : List ℕ). Step (figures_expected n us) x e) (sym f.6) (subst (Step (figures_expected n us) _) p.1 (figures f.3 f.4 f.5))
  step_form (timing_expected zero us) w e q = absurd (let z : ◌≡◌ {A = ℕ} 0 1 = cc in omega arith)
  step_form (timing_expected (suc k) us) w e q =
      let p = only_out (is_timing w) (timing_expected k us) e q in
      let f = timing_form w p.0 in
      subst (λ (x : List ℕ). Step (timing_expected (suc k) us) x e) (sym f.6) (subst (Step (timing_expected (suc k) us) _) p.1 (timing f.3 f.4 f.5))

  -- what follows the gate lines is none of them
  not-gate : {k n : ℕ} {us w : List ℕ} {e : Expected} → Step (wire_expected k n us) w e → gate_of 0 cells w ≡ None
  unfolding same text fields split onto
  not-gate (wire {v = v} {o} h l) = no_gate_lem 0 cells _ (text ".names") (v ∷ o ∷ []) (fields-joined (text ".names") (v ∷ o ∷ []) (wire-free 32 (lit< tt) h l)) refl
  not-gate end = no_gate_lem 0 cells (text ".end") (text ".end") [] refl refl

  wire-step-back : {k n : ℕ} {us w : List ℕ} {e : Expected} → Step (wire_expected k n us) w e → wire_step k n us w ≡ Some e
  unfolding wire_step
  wire-step-back (wire {k} {n} {us} {v} {o} h l) = only_yes (is_wire (joined (text ".names" ∷ v ∷ o ∷ []))) (cover_expected k n us) (wire-back h l)
  wire-step-back (end {n} {us}) = only_yes (same (text ".end") (text ".end")) (figures_expected n us) (same_refl (text ".end"))

  step_back : {d : Expected} {w : List ℕ} {e : Expected} → Step d w e → step_of ranged cells d w ≡ Some e
  unfolding step_of time_step gate_step text all
  step_back model = only_yes (same (text ".model top") (text ".model top")) inputs_expected (same_refl (text ".model top"))
  step_back (inputs {ws} l) = only_yes (is_name_list (text ".inputs") 112 (joined (text ".inputs" ∷ ws))) outputs_expected (names-back (text ".inputs") tt (lit< tt) l)
  step_back (outputs {ws} l) =
      let y : length (fields (joined (text ".outputs" ∷ ws))) ≡ suc (length ws) = ap length (names-fields (text ".outputs") tt (lit< tt) l) in
      only_yes (is_name_list (text ".outputs") 111 (joined (text ".outputs" ∷ ws))) (gate_expected (length (fields (joined (text ".outputs" ∷ ws))) - 1) []) (names-back (text ".outputs") tt (lit< tt) l)
      ∙ ap (λ (n : ℕ). Some (gate_expected n [])) (let z : length (fields (joined (text ".outputs" ∷ ws))) - 1 ≡ length ws = omega arith in z)
  step_back (gate {n} {i} {us} {w} g) = ap (λ (o : Option ℕ). gate_step o n us w) (gate-back cells fits w i g)
  step_back (behind {n} {us} {w} h) = ap (λ (o : Option ℕ). gate_step o n us w) (not-gate h) ∙ wire-step-back h
  step_back (wire h l) = wire-step-back (wire h l)
  step_back (cover {k} {n} {us}) = only_yes (same (text "1 1") (text "1 1")) (wire_expected k n us) (same_refl (text "1 1"))
  step_back end = wire-step-back end
  step_back (figures {n} {us} {g} {a} {t} p q r) =
      only_yes (is_figures (length us) (area_of cells us) (joined (text "#" ∷ text "gates" ∷ g ∷ text "area" ∷ a ∷ text "arrival" ∷ t ∷ []))) (timing_expected (cond ranged n zero) us) (figures-back p q r)
  step_back (timing {k} {us} {o} {l} {h} p q r) = only_yes (is_timing (joined (text "#" ∷ text "timing" ∷ o ∷ l ∷ h ∷ []))) (timing_expected k us) (timing-back p q r)

  step-free : (s : ℕ) → s < 32 → {d : Expected} {w : List ℕ} {e : Expected} → Step d w e → Free s w
  unfolding text all
  step-free s h model = free-above s h (text ".model top") tt
  step-free s h (inputs {ws} l) = joined_free s h (text ".inputs" ∷ ws) (word-free s (omega arith) (text ".inputs") tt, labels_free s (omega arith) (lit< tt) l)
  step-free s h (outputs {ws} l) = joined_free s h (text ".outputs" ∷ ws) (word-free s (omega arith) (text ".outputs") tt, labels_free s (omega arith) (lit< tt) l)
  step-free s h (gate {i = i} {w = w} g) = subst (Free s) (sym g.whole) (joined_free s h (text ".gate" ∷ name_of (cell_at cells i) ∷ g.nets) (words-free cells fits s (omega arith) w i g))
  step-free s h (behind n) = step-free s h n
  step-free s h (wire {v = v} {o} n l) = joined_free s h (text ".names" ∷ v ∷ o ∷ []) (wire-free s (omega arith) n l)
  step-free s h cover = free-above s h (text "1 1") tt
  step-free s h end = free-above s h (text ".end") tt
  step-free s h (figures {g = g} {a} {t} p q r) = joined_free s h (text "#" ∷ text "gates" ∷ g ∷ text "area" ∷ a ∷ text "arrival" ∷ t ∷ []) (figures-free s (omega arith) p q r)
  step-free s h (timing {o = o} {l} {h = m} p q r) = joined_free s h (text "#" ∷ text "timing" ∷ o ∷ l ∷ m ∷ []) (timing-free s (omega arith) p q r)

  pub reads-step : (d : Expected) → Reads (line_step ranged cells d) (NextLine ranged cells d)
  reads-step d = reads-line true (step_of ranged cells d) (Step d) (line_step ranged cells d) (λ l. refl) (step_form d) (λ w e h. step_back h) (λ s h w e n. step-free s h n)
