-- What a reader of an edited netlist takes where a line is expected, and what is then expected: exactly what `CheckForms.Next` says.
use Rattle.base.specs.{ℕ, zero, suc, ◌<◌, arith, ◌≡◌, refl, sym, ◌∙◌, ap, ap₂, subst, Bool, true, false, ◌&&◌, Option, None, Some, List, []}
use Rattle.base.specs.{◌∷◌, ◌++◌, T, eqb, lit<, length, get_or, and_yes, yes_and, eqb_yes}
use Rattle.model.specs.{all, same, and_then, only, Line, text, fields, split, onto, closed, name_of, out_name, Driver, is_net, gate_of_fields}
use Rattle.model.specs.Graph.{Graph}
use Rattle.model.specs.declared.Cell.{Cell}
use Rattle.promises.specs.{Decimal, joined}
use Rattle.theory_graph.proofs.{is_true, same-eq, same_refl}
use Rattle.theory_graph.specs.{library_fits}
use Rattle.theory_text.proofs.{only_out, then_out, only_yes, Free, above}
use Rattle.theory_refusals.proofs.{AllFree, fields-joined, joined_free, reads-line, free-above}
use Rattle.theory_refusals.proofs.LineFormLaws.{Reads}
use Rattle.promises.specs.CheckForms.{NetName, Expected, model_expected, inputs_expected, outputs_expected, gate_expected, wire_expected, cover_expected, nothing_expected, wire_driver}
use Rattle.promises.specs.CheckForms.{Next, model, inputs, outputs, gate, behind, wire, cover, end, NextLine}
use Rattle.theory_check.proofs.CheckWords.{net_form, net-back, net-free, decimal-word, inputs-free, outputs-free, word-free}
use Rattle.theory_check.proofs.CheckWords.{inputs_line, outputs_line, inputs-line, inputs-back, outputs-line, outputs-back, out_name_lem}
use Rattle.theory_check.proofs.CheckWords.{out_decimal, of_fields, gate_form_lem, words-free, gate-fields, gate-back}

-- the first field is `.gate`
abbrev pub is_gate_line : List ℕ → Bool
is_gate_line w = same (get_or (fields w) 0 []) (text ".gate")

-- `.names`, a net and output k's own name
abbrev pub is_wire_line : ℕ → List (List ℕ) → Bool
is_wire_line k ws = eqb (length ws) 3 && (same (get_or ws 0 []) (text ".names") && (is_net (get_or ws 1 []) && same (get_or ws 2 []) (out_name k)))

abbrev pub wire_of : ℕ → ℕ → List (List ℕ) → Driver
wire_of at k ws = record { offset = at; table = 2; uses = get_or ws 1 [] ∷ []; net = out_name k }

unfoldable pub wire_step : ℕ → ℕ → ℕ → List Driver → List ℕ → Option Expected
wire_step at k zero ds w = only (same w (text ".end")) (nothing_expected ds)
wire_step at k (suc n) ds w = only (is_wire_line k (fields w)) (cover_expected (suc k) n (ds ++ (wire_of at k (fields w) ∷ [])))

unfoldable pub gate_step : Bool → List Cell → ℕ → ℕ → List Driver → List ℕ → Option Expected
gate_step true cells at n ds w = and_then (gate_of_fields cells at (fields w)) (λ d. Some (gate_expected (ds ++ (d ∷ []))))
gate_step false cells at n ds w = wire_step at zero n ds w

-- what is expected behind a line with these contents, if it may stand there
unfoldable pub step_of : List Cell → Graph → ℕ → Expected → List ℕ → Option Expected
step_of cells g at model_expected w = only (same w (text ".model top")) inputs_expected
step_of cells g at inputs_expected w = only (same w (inputs_line g)) outputs_expected
step_of cells g at outputs_expected w = only (same w (outputs_line g)) (gate_expected [])
step_of cells g at (gate_expected ds) w = gate_step (is_gate_line w) cells at (length g.outputs) ds w
step_of cells g at (wire_expected k n ds) w = wire_step at k n ds w
step_of cells g at (cover_expected k n ds) w = only (same w (text "1 1")) (wire_expected k n ds)
step_of cells g at (nothing_expected ds) w = None

abbrev pub line_step : List Cell → Graph → ℕ → Expected → Line → Option Expected
line_step cells g at d l = and_then (only (closed true l) l.bytes) (step_of cells g at d)

is-text : (key w : List ℕ) (d e : Expected) → only (same w key) d ≡ Some e → (key ≡ w) × (d ≡ e)
is-text key w d e q = let p = only_out (same w key) d e q in (sym (same-eq w key p.0), p.1)

-- three fields
pub three : (ws : List (List ℕ)) → length ws ≡ 3 → ws ≡ get_or ws 0 [] ∷ get_or ws 1 [] ∷ get_or ws 2 [] ∷ []
three [] e = absurd (omega arith)
three (a ∷ []) e = absurd (omega arith)
three (a ∷ b ∷ []) e = absurd (omega arith)
three (a ∷ b ∷ c ∷ []) e = refl
three (a ∷ b ∷ c ∷ d ∷ ws) e = absurd (omega arith)

wire-words : (s : ℕ) → s < 33 → {k : ℕ} {v w : List ℕ} → NetName v → Decimal w k → AllFree s (text ".names" ∷ v ∷ (111 ∷ w) ∷ [])
unfolding text all
wire-words s h n d = (word-free s h (text ".names") tt, (net-free s h n, ((above s 111 (omega arith), decimal-word s h d), tt)))

wire-fields : {k : ℕ} {v w : List ℕ} → NetName v → Decimal w k → fields (joined (text ".names" ∷ v ∷ (111 ∷ w) ∷ [])) ≡ text ".names" ∷ v ∷ (111 ∷ w) ∷ []
wire-fields {k} {v} {w} n d = fields-joined (text ".names") (v ∷ (111 ∷ w) ∷ []) (wire-words 32 (lit< tt) n d)

wire_passes : (k : ℕ) {v w : List ℕ} → NetName v → Decimal w k → T (is_wire_line k (text ".names" ∷ v ∷ (111 ∷ w) ∷ []))
wire_passes k {v} {w} n d = yes_and (same (text ".names") (text ".names")) (is_net v && same (111 ∷ w) (out_name k))
    (same_refl (text ".names")) (yes_and (is_net v) (same (111 ∷ w) (out_name k)) (net-back v n) (rw (← out_name_lem d) (same_refl (111 ∷ w))))

module _ (cells : List Cell) (g : Graph) (fits : T (library_fits cells)) (at : ℕ) where
  abbrev Step : Expected → List ℕ → Expected → Type 0
  Step = Next cells g at

  wire-step : (k n : ℕ) (ds : List Driver) (w : List ℕ) (e : Expected) → wire_step at k n ds w ≡ Some e → Step (wire_expected k n ds) w e
  unfolding wire_step
  wire-step k zero ds w e q = let p = is-text (text ".end") w (nothing_expected ds) e q in rw (← p.0) (rw (← p.1) end)
  wire-step k (suc n) ds w e q =
      let ws = fields w in
      let p = only_out (is_wire_line k ws) (cover_expected (suc k) n (ds ++ (wire_of at k ws ∷ []))) e q in
      let a = and_yes (eqb (length ws) 3) (same (get_or ws 0 []) (text ".names") && (is_net (get_or ws 1 []) && same (get_or ws 2 []) (out_name k))) p.0 in
      let b = and_yes (same (get_or ws 0 []) (text ".names")) (is_net (get_or ws 1 []) && same (get_or ws 2 []) (out_name k)) a.1 in
      let c = and_yes (is_net (get_or ws 1 [])) (same (get_or ws 2 []) (out_name k)) b.1 in
      let o = out_decimal k in
      let f : fields w ≡ text ".names" ∷ get_or (fields w) 1 [] ∷ (111 ∷ o.0) ∷ [] =
      three ws (eqb_yes a.0) ∙ ap₂ (λ (x y : List ℕ). x ∷ get_or (fields w) 1 [] ∷ y ∷ []) (same-eq (get_or ws 0 []) (text ".names") b.0) (same-eq (get_or ws 2 []) (out_name k) c.1 ∙ o.2) in
      let made : cover_expected (suc k) n (ds ++ (wire_driver at (get_or (fields w) 1 []) o.0 ∷ [])) ≡ e =
      ap (λ (x : List ℕ). cover_expected (suc k) n (ds ++ (record { offset = at; table = 2; uses = get_or (fields w) 1 [] ∷ []; net = x } ∷ []))) (sym o.2) ∙ p.1 in
      subst (λ (x : List ℕ). Step (wire_expected k (suc n) ds) x e) (sym (of_fields w _ f))
      (subst (Step (wire_expected k (suc n) ds) (joined (text ".names" ∷ get_or (fields w) 1 [] ∷ (111 ∷ o.0) ∷ []))) made (wire (net_form (get_or (fields w) 1 []) c.0) o.1))

  step_form : (d : Expected) (w : List ℕ) (e : Expected) → step_of cells g at d w ≡ Some e → Step d w e
  unfolding step_of gate_step
  step_form model_expected w e q = let p = is-text (text ".model top") w inputs_expected e q in rw (← p.0) (rw (← p.1) model)
  step_form inputs_expected w e q =
      let p = is-text (inputs_line g) w outputs_expected e q in
      let l = inputs-line g in
      subst (λ (x : List ℕ). Step inputs_expected x e) (sym l.2 ∙ p.0) (subst (Step inputs_expected (joined (text ".inputs" ∷ l.0))) p.1 (inputs l.1))
  step_form outputs_expected w e q =
      let p = is-text (outputs_line g) w (gate_expected []) e q in
      let l = outputs-line g in
      subst (λ (x : List ℕ). Step outputs_expected x e) (sym l.2 ∙ p.0) (subst (Step outputs_expected (joined (text ".outputs" ∷ l.0))) p.1 (outputs l.1))
  step_form (gate_expected ds) w e q = go (is_gate_line w) (λ t. t) q
    where
      go : (b : Bool) → (T b → T (is_gate_line w)) → gate_step b cells at (length g.outputs) ds w ≡ Some e → Step (gate_expected ds) w e
      go true f r = unfold gate_step in let o = then_out (gate_of_fields cells at (fields w)) (λ d. Some (gate_expected (ds ++ (d ∷ [])))) e r in
          let h : Some (gate_expected (ds ++ (o.0 ∷ []))) ≡ Some e = o.2 in let z : gate_expected (ds ++ (o.0 ∷ [])) ≡ e = cc in rw (← z)
          (gate (gate_form_lem cells fits at w o.0 (f tt) o.1))
      go false f r = unfold gate_step in behind (wire-step zero (length g.outputs) ds w e r)
  step_form (wire_expected k n ds) w e q = wire-step k n ds w e q
  step_form (cover_expected k n ds) w e q = let p = is-text (text "1 1") w (wire_expected k n ds) e q in rw (← p.0) (rw (← p.1) cover)
  step_form (nothing_expected ds) w e q = let z : ◌≡◌ {A = ℕ} 0 1 = cc in absurd (omega arith)

  -- what follows the gate lines is none of them
  not-gate : {k n : ℕ} {ds : List Driver} {w : List ℕ} {e : Expected} → Step (wire_expected k n ds) w e → is_gate_line w ≡ false
  unfolding same text fields split onto
  not-gate (wire {v = v} {w} n d) = ap (λ (x : List (List ℕ)). same (get_or x 0 []) (text ".gate")) (wire-fields n d)
  not-gate end = refl

  wire-step-back : {k n : ℕ} {ds : List Driver} {w : List ℕ} {e : Expected} → Step (wire_expected k n ds) w e → wire_step at k n ds w ≡ Some e
  unfolding wire_step
  wire-step-back (wire {k} {n} {ds} {v} {w} h d) =
      let f = wire-fields h d in
      cc (only_yes (is_wire_line k (fields (joined (text ".names" ∷ v ∷ (111 ∷ w) ∷ [])))) _ (rw f (wire_passes k h d)), out_name_lem d)
  wire-step-back (end {k} {ds}) = only_yes (same (text ".end") (text ".end")) (nothing_expected ds) (same_refl (text ".end"))

  step_back : {d : Expected} {w : List ℕ} {e : Expected} → Step d w e → step_of cells g at d w ≡ Some e
  unfolding step_of gate_step and_then
  step_back model = only_yes (same (text ".model top") (text ".model top")) inputs_expected (same_refl (text ".model top"))
  step_back (inputs {ws} l) =
      only_yes (same (joined (text ".inputs" ∷ ws)) (inputs_line g)) outputs_expected (subst (λ (x : List ℕ). T (same (joined (text ".inputs" ∷ ws)) x)) (inputs-back g l) (same_refl (joined (text ".inputs" ∷ ws))))
  step_back (outputs {ws} l) =
      only_yes (same (joined (text ".outputs" ∷ ws)) (outputs_line g)) (gate_expected []) (subst (λ (x : List ℕ). T (same (joined (text ".outputs" ∷ ws)) x)) (outputs-back g l) (same_refl (joined (text ".outputs" ∷ ws))))
  step_back (gate {ds} {w} {d} h) =
      cc (is_true (is_gate_line w) (rw (gate-fields cells fits at w d h) (same_refl (text ".gate"))), gate-back cells fits at w d h)
  step_back (behind {ds} {w} h) = ap (λ (b : Bool). gate_step b cells at (length g.outputs) ds w) (not-gate h) ∙ wire-step-back h
  step_back (wire n d) = wire-step-back (wire n d)
  step_back (cover {k} {n} {ds}) = only_yes (same (text "1 1") (text "1 1")) (wire_expected k n ds) (same_refl (text "1 1"))
  step_back end = wire-step-back end

  step-free : (s : ℕ) → s < 32 → {d : Expected} {w : List ℕ} {e : Expected} → Step d w e → Free s w
  unfolding text all
  step-free s h model = free-above s h (text ".model top") tt
  step-free s h (inputs {ws} l) = joined_free s h (text ".inputs" ∷ ws) (word-free s (omega arith) (text ".inputs") tt, inputs-free s (omega arith) l)
  step-free s h (outputs {ws} l) = joined_free s h (text ".outputs" ∷ ws) (word-free s (omega arith) (text ".outputs") tt, outputs-free s (omega arith) l)
  step-free s h (gate {w = w} {d} x) = subst (Free s) (sym x.whole) (joined_free s h (text ".gate" ∷ name_of x.cell ∷ x.nets) (words-free cells fits at s (omega arith) w d x))
  step-free s h (behind n) = step-free s h n
  step-free s h (wire {v = v} {w} n d) = joined_free s h (text ".names" ∷ v ∷ (111 ∷ w) ∷ []) (wire-words s (omega arith) n d)
  step-free s h cover = free-above s h (text "1 1") tt
  step-free s h end = free-above s h (text ".end") tt

  pub reads-step : (d : Expected) → Reads (line_step cells g at d) (NextLine cells g at d)
  reads-step d = reads-line true (step_of cells g at d) (Step d) (line_step cells g at d) (λ l. refl) (step_form d) (λ w e h. step_back h) (λ s h w e n. step-free s h n)
