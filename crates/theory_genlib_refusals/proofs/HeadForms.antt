-- GATE lines: their contents are accepted exactly where they have the form.
use Rattle.base.specs.{ℕ, ◌≡◌, refl, sym, ◌∙◌, ap, subst, true, ◌&&◌, List, [], ◌∷◌, ◌++◌, Memᴰ, Memᴰ-head, Memᴰ-tail, T}
use Rattle.base.specs.{length, get_or, drop, and_yes, yes_and}
use Rattle.model.specs.{same, text, tokens, is_word_byte, is_sign, lead, is_word, is_figure, formed, gate_head, is_gate_line}
use Rattle.theory_graph.proofs.{same-eq, same_refl, is_true}
use Rattle.theory_genlib.proofs.{sign-alone}
use Rattle.promises.specs.GateForms.{Spelled, GateSays, GateContents}
use Rattle.theory_genlib_refusals.proofs.WordForms.{name-word, word-name}
use Rattle.theory_genlib_refusals.proofs.TokenForms.{spells, spelled_back}
use Rattle.theory_genlib_refusals.proofs.FigureForms.{figure_form, figure-back}
use Rattle.theory_genlib_refusals.proofs.FormulaForms.{formula_form, formula-back}

-- where a GATE line's tokens have what it says
pub record HeadIs (ts : List (List ℕ)) (g : GateSays) : Type 0 where
  pub name : get_or ts 1 [] ≡ g.name
  pub area : get_or ts 2 [] ≡ g.area
  pub formula : drop 5 ts ≡ g.formula ++ ((59 ∷ []) ∷ [])

pub head-is : {s : List ℕ} {g : GateSays} → GateContents s g → HeadIs (tokens s) g
head-is c =
    let e = spelled_back c.is_all in
    record { name = ap (λ (x : List (List ℕ)). get_or x 1 []) e; area = ap (λ (x : List (List ℕ)). get_or x 2 []) e; formula = ap (drop 5) e }

gate-tokens : (s : List ℕ) (ts : List (List ℕ)) → tokens s ≡ ts → T (is_gate_line ts) → (g : GateSays) × GateContents s g
unfolding is_gate_line gate_head formed is_word_byte
gate-tokens s [] q t = absurd (and_yes (gate_head []) (formed []) t).1
gate-tokens s (a ∷ []) q t = absurd (and_yes (gate_head (a ∷ [])) (formed []) t).1
gate-tokens s (a ∷ b ∷ []) q t = absurd (and_yes (gate_head (a ∷ b ∷ [])) (formed []) t).1
gate-tokens s (a ∷ b ∷ c ∷ []) q t = absurd (and_yes (gate_head (a ∷ b ∷ c ∷ [])) (formed []) t).1
gate-tokens s (a ∷ b ∷ c ∷ d ∷ []) q t = absurd (and_yes (gate_head (a ∷ b ∷ c ∷ d ∷ [])) (formed []) t).1
gate-tokens s (a ∷ b ∷ c ∷ d ∷ e ∷ r) q t =
    let x0 = and_yes (gate_head (a ∷ b ∷ c ∷ d ∷ e ∷ r)) (formed r) t in
    let x1 = and_yes (same a (text "GATE")) (is_word b && (is_figure c && (is_word d && is_sign 61 e))) x0.0 in
    let x2 = and_yes (is_word b) (is_figure c && (is_word d && is_sign 61 e)) x1.1 in
    let x3 = and_yes (is_figure c) (is_word d && is_sign 61 e) x2.1 in
    let x4 = and_yes (is_word d) (is_sign 61 e) x3.1 in
    let k : drop 5 (tokens s) ≡ r = ap (drop 5) q in
    let f = formula_form s (ap formed k ∙ is_true (formed r) x0.1) in
    let y : e ≡ 61 ∷ [] = sign-alone 61 refl s e (subst (λ (x : List (List ℕ)). Memᴰ e x) (sym q) (Memᴰ-tail (Memᴰ-tail (Memᴰ-tail (Memᴰ-tail (Memᴰ-head refl)))))) (is_true (is_sign 61 e) x4.1) in
    let z : tokens s ≡ text "GATE" ∷ b ∷ c ∷ d ∷ (61 ∷ []) ∷ f.0 ++ ((59 ∷ []) ∷ []) =
    q
    ∙ ap (λ (x : List ℕ). x ∷ b ∷ c ∷ d ∷ e ∷ r) (same-eq a (text "GATE") x1.0)
    ∙ ap (λ (x : List ℕ). text "GATE" ∷ b ∷ c ∷ d ∷ x ∷ r) y
    ∙ ap (λ (x : List (List ℕ)). text "GATE" ∷ b ∷ c ∷ d ∷ (61 ∷ []) ∷ x) (sym k ∙ f.1) in (
      record { name = b; area = c; formula = f.0 },
      record {
        output = d;
        depth = length f.0;
        is_all = subst (Spelled s) z (spells s);
        is_name = name-word b x2.0;
        is_area = figure_form c x3.0;
        is_output = name-word d x4.0;
        is_formula = f.2;
      },
    )

pub gate_form_lem : (s : List ℕ) → T (is_gate_line (tokens s)) → (g : GateSays) × GateContents s g
gate_form_lem s t = gate-tokens s (tokens s) refl t

pub gate-back : {s : List ℕ} {g : GateSays} → GateContents s g → T (is_gate_line (tokens s))
unfolding is_gate_line gate_head is_sign lead
gate-back {s} {g} c =
    subst (λ (x : List (List ℕ)). T (is_gate_line x)) (sym (spelled_back c.is_all))
    (yes_and (same (text "GATE") (text "GATE") && (is_word g.name && (is_figure g.area && (is_word c.output && true)))) (formed (g.formula ++ ((59 ∷ []) ∷ [])))
    (yes_and (same (text "GATE") (text "GATE")) (is_word g.name && (is_figure g.area && (is_word c.output && true))) (same_refl (text "GATE"))
    (yes_and (is_word g.name) (is_figure g.area && (is_word c.output && true)) (word-name g.name c.is_name)
    (yes_and (is_figure g.area) (is_word c.output && true) (figure-back c.is_area) (yes_and (is_word c.output) true (word-name c.output c.is_output) tt))))
    (subst T (sym (formula-back c.depth g.formula c.is_formula)) tt))
