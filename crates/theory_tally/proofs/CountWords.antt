-- The words and lines of a counted netlist: each test passes exactly where the bytes are so, and no space or line end stands in a word.
use Rattle.base.specs.{ℕ, suc, ◌≤◌, ◌<◌, arith, ◌≡◌, refl, sym, ◌∙◌, ap, subst, ◌⊎◌, inl, inr, ⊎_elim, Bool, ◌&&◌, List, [], ◌∷◌, Memᴰ}
use Rattle.base.specs.{Memᴰ-head, Memᴰ-tail, T, eqb, ltb, leb, lit<, length, and_yes, yes_and, or_yes, eqb_yes, yes_eqb, yes_ltb}
use Rattle.base.specs.{leb_yes}
use Rattle.model.specs.{all, fields, between, are_digits, is_label, is_phase_net, is_inner_net, is_gate_net, is_bound, of_form}
use Rattle.promises.specs.{Within, joined}
use Rattle.theory_graph.proofs.{all_of, all_in}
use Rattle.theory_text.proofs.{Free, above}
use Rattle.theory_refusals.proofs.{within_form, within-back, yes_or, AllFree, joins, fields-joined}
use Rattle.promises.specs.CountForms.{AnyDigits, some_digits, Label, label, PhaseNet, GateNet, phase, inner, Bound, bound, Pins, output, pin}
use Rattle.promises.specs.CountForms.{Labels, no_label, one_label}

-- ---- digits, labels, nets

pub digits-word : (w : List ℕ) → T (are_digits w) → AnyDigits w
unfolding are_digits all
digits-word [] t = absurd t
digits-word (b ∷ w) t =
    let p = and_yes (between 48 57 b) (all (between 48 57) w) (and_yes (ltb 0 (length (b ∷ w))) (all (between 48 57) (b ∷ w)) t).1 in
    some_digits (within_form 48 57 b p.0) (λ x m. within_form 48 57 x (all_of (between 48 57) w p.1 x m))

pub word-digits : {w : List ℕ} → AnyDigits w → T (are_digits w)
unfolding are_digits all
word-digits (some_digits {b} {w} h f) =
    yes_and (ltb 0 (suc (length w))) (between 48 57 b && all (between 48 57) w) (yes_ltb {a = 0} {b = suc (length w)} (omega arith))
    (yes_and (between 48 57 b) (all (between 48 57) w) (within-back 48 57 b h) (all_in (between 48 57) w (λ x m. within-back 48 57 x (f x m))))

pub label-word : (b : ℕ) (w : List ℕ) → T (is_label b w) → Label b w
unfolding is_label
label-word b [] t = absurd (unfold are_digits in (and_yes (eqb 0 b) (are_digits []) t).1)
label-word b (x ∷ w) t = let p = and_yes (eqb x b) (are_digits w) t in subst (λ (y : ℕ). Label b (y ∷ w)) (sym (eqb_yes p.0)) (label (digits-word w p.1))

pub word-label : {b : ℕ} {w : List ℕ} → Label b w → T (is_label b w)
unfolding is_label
word-label {b} (label {w} d) = yes_and (eqb b b) (are_digits w) (yes_eqb {a = b} {b = b} refl) (word-digits d)

pub net-word : (w : List ℕ) → T (is_phase_net w) → PhaseNet w
unfolding is_phase_net
net-word w t = ⊎_elim (λ h. inl (label-word 112 w h)) (λ q. inr (label-word 109 w q)) (or_yes (is_label 112 w) (is_label 109 w) t)

pub word-net : (w : List ℕ) → PhaseNet w → T (is_phase_net w)
unfolding is_phase_net
word-net w (inl h) = yes_or (is_label 112 w) (is_label 109 w) (inl (word-label h))
word-net w (inr h) = yes_or (is_label 112 w) (is_label 109 w) (inr (word-label h))

no_net : T (is_phase_net []) → ⊥
unfolding is_phase_net is_label
no_net t = t

gate-net-word : (w : List ℕ) → T (is_gate_net w) → GateNet w
unfolding is_gate_net is_inner_net
gate-net-word w t = go w (or_yes (is_phase_net w) (is_inner_net w) t)
  where
    go : (v : List ℕ) → T (is_phase_net v) ⊎ T (is_inner_net v) → GateNet v
    go v (inl h) = phase (net-word v h)
    go [] (inr h) = absurd (no_net (and_yes (eqb 0 115) (is_phase_net []) h).1)
    go (x ∷ v) (inr h) = let p = and_yes (eqb x 115) (is_phase_net v) h in subst (λ (y : ℕ). GateNet (y ∷ v)) (sym (eqb_yes p.0)) (inner (net-word v p.1))

word-gate-net : {w : List ℕ} → GateNet w → T (is_gate_net w)
unfolding is_gate_net is_inner_net
word-gate-net (phase {w} n) = yes_or (is_phase_net w) (is_inner_net w) (inl (word-net w n))
word-gate-net (inner {w} n) = yes_or (is_phase_net (115 ∷ w)) (is_phase_net w) (inr (word-net w n))

no_gate-net : T (is_gate_net []) → ⊥
unfolding is_gate_net is_inner_net
no_gate-net t = ⊎_elim no_net (λ q. no_net (and_yes (eqb 0 115) (is_phase_net []) q).1)
    (or_yes (is_phase_net []) (eqb 0 115 && is_phase_net []) t)

pub bound-word : (b : ℕ) (w : List ℕ) → T (is_bound b w) → Bound b w
unfolding is_bound
bound-word b [] t = absurd (no_gate-net (and_yes (eqb 0 61) (is_gate_net []) (and_yes (eqb 0 b) (eqb 0 61 && is_gate_net []) t).1).1)
bound-word b (x ∷ []) t = absurd (no_gate-net (and_yes (eqb 0 61) (is_gate_net []) (and_yes (eqb x b) (eqb 0 61 && is_gate_net []) t).1).1)
bound-word b (x ∷ y ∷ w) t =
    let p = and_yes (eqb x b) (eqb y 61 && is_gate_net w) t in
    let q = and_yes (eqb y 61) (is_gate_net w) p.1 in
    subst (λ (z : ℕ). Bound b (z ∷ y ∷ w)) (sym (eqb_yes p.0)) (subst (λ (z : ℕ). Bound b (b ∷ z ∷ w)) (sym (eqb_yes q.0)) (bound (gate-net-word w q.1)))

pub word_bound : {b : ℕ} {w : List ℕ} → Bound b w → T (is_bound b w)
unfolding is_bound
word_bound {b} (bound {w} n) = yes_and (eqb b b) (is_gate_net w) (yes_eqb {a = b} {b = b} refl) (word-gate-net n)

-- ---- no space and no line end in them
module _ (s : ℕ) (low : s < 33) where
  bytes-above : (w : List ℕ) → ((x : ℕ) → Memᴰ x w → Within 48 57 x) → Free s w
  bytes-above [] f = tt
  bytes-above (b ∷ w) f = (above s b (let h : 48 ≤ b = (f b (Memᴰ-head refl)).0 in omega arith), bytes-above w (λ x m. f x (Memᴰ-tail m)))

  pub digits-free : {w : List ℕ} → AnyDigits w → Free s w
  digits-free (some_digits {b} {w} h f) = (above s b (let k : 48 ≤ b = h.0 in omega arith), bytes-above w f)

  pub label-free : {b : ℕ} {w : List ℕ} → 48 ≤ b → Label b w → Free s w
  label-free {b} h (label d) = (above s b (omega arith), digits-free d)

  pub net-free : (w : List ℕ) → PhaseNet w → Free s w
  net-free w (inl h) = label-free (lit< tt) h
  net-free w (inr h) = label-free (lit< tt) h

  gate-net-free : {w : List ℕ} → GateNet w → Free s w
  gate-net-free (phase {w} n) = net-free w n
  gate-net-free (inner {w} n) = (above s 115 (omega arith), net-free w n)

  bound-free : {b : ℕ} {w : List ℕ} → 48 ≤ b → Bound b w → Free s w
  bound-free {b} h (bound n) = (above s b (omega arith), (above s 61 (omega arith), gate-net-free n))

  pub pins-free : {b n : ℕ} {ws : List (List ℕ)} → 48 ≤ b → Pins b n ws → AllFree s ws
  pins-free h (output w) = (bound-free (lit< tt) w, tt)
  pins-free h (pin w ws) = (bound-free h w, pins-free (omega arith) ws)

  pub labels_free : {b : ℕ} {ws : List (List ℕ)} → 48 ≤ b → Labels b ws → AllFree s ws
  labels_free h no_label = tt
  labels_free h (one_label w ws) = (label-free h w, labels_free h ws)

  -- a word of bytes above the space
  pub word-free : (w : List ℕ) → T (all (leb 33) w) → Free s w
  unfolding all
  word-free [] t = tt
  word-free (b ∷ w) t = let p = and_yes (leb 33 b) (all (leb 33) w) t in (above s b (let h : 33 ≤ b = leb_yes p.0 in omega arith), word-free w p.1)

-- ---- lists of fields

pub form_more : (p : List ℕ → Bool) (ps : List (List ℕ → Bool)) (ws : List (List ℕ)) → T (of_form (p ∷ ps) ws) → (w : List ℕ) × (vs : List (List ℕ)) × (ws ≡ w ∷ vs) × T (p w) × T (of_form ps vs)
unfolding of_form
form_more p ps [] t = absurd t
form_more p ps (w ∷ ws) t = let q = and_yes (p w) (of_form ps ws) t in (w, ws, refl, q.0, q.1)

pub form_end : (ws : List (List ℕ)) → T (of_form [] ws) → ws ≡ []
unfolding of_form
form_end [] t = refl
form_end (w ∷ ws) t = absurd t

-- a test for each field
pub data Fit : List (List ℕ → Bool) → List (List ℕ) → Type 0 where
  no_field : Fit [] []
  field : {p : List ℕ → Bool} {ps : List (List ℕ → Bool)} {w : List ℕ} {ws : List (List ℕ)} → T (p w) → Fit ps ws → Fit (p ∷ ps) (w ∷ ws)

pub form_fits : (ps : List (List ℕ → Bool)) (ws : List (List ℕ)) → Fit ps ws → T (of_form ps ws)
unfolding of_form
form_fits ps ws no_field = tt
form_fits ps ws (field {p} {ps = qs} {w} {ws = vs} t f) = yes_and (p w) (of_form qs vs) t (form_fits qs vs f)

-- the fields of a line that they join
pub line-fits : (ps : List (List ℕ → Bool)) (w : List ℕ) (ws : List (List ℕ)) → AllFree 32 (w ∷ ws) → Fit ps (w ∷ ws) → T (of_form ps (fields (joined (w ∷ ws))))
line-fits ps w ws f t = subst (λ (x : List (List ℕ)). T (of_form ps x)) (sym (fields-joined w ws f)) (form_fits ps (w ∷ ws) t)

-- a line of these fields
pub of_fields : (w : List ℕ) (ws : List (List ℕ)) → fields w ≡ ws → w ≡ joined ws
of_fields w ws e = let j = joins w in j.is_whole ∙ ap joined (sym j.are_fields ∙ e)
