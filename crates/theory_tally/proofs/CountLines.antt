-- The line that is expected in a counted netlist: it is taken exactly where its contents have the form, and then what the form says is expected.
use Rattle.base.specs.{ℕ, zero, suc, ◌+◌, ◌^◌, ◌≤◌, ◌<◌, le_refl, arith, ◌≡◌, refl, sym, ◌∙◌, ap, ap₂, subst, Bool, true, false, not, cond}
use Rattle.base.specs.{◌&&◌, Some, List, [], ◌∷◌, ◌++◌, map, head-eq_of_cons-eq, tail-eq_of_cons-eq, T, eqb, leb, ltb, lit<, length}
use Rattle.base.specs.{and_yes, yes_and}
use Rattle.model.specs.{all, same, from, below, text, decimal, fields, is_name, name_of, cell_at, are_digits, is_label, is_phase_net, is_bound}
use Rattle.model.specs.{of_form, of_list, is_name_list, gate_form, gate_of, is_wire, is_figures, is_timing}
use Rattle.model.specs.declared.Cell.{Cell}
use Rattle.promises.specs.{Decimal, joined}
use Rattle.theory_graph.proofs.{same-eq, same_refl, by_list}
use Rattle.theory_graph.specs.{library_fits, cell_fits}
use Rattle.theory_text.proofs.{Free, decimal-free, library-rest}
use Rattle.theory_refusals.proofs.{decimal-only, digits_form, AllFree, fields-joined, name_form, name_free}
use Rattle.promises.specs.CountForms.{AnyDigits, Label, PhaseNet, Pins, output, pin, Labels, no_label, one_label, GateWords}
use Rattle.theory_tally.proofs.NamedGates.{name-once}
use Rattle.theory_tally.proofs.CountWords.{digits-word, word-digits, label-word, word-label, net-word, word-net, bound-word}
use Rattle.theory_tally.proofs.CountWords.{word_bound, form_more, form_end, Fit, no_field, field, form_fits, line-fits, of_fields}
use Rattle.theory_tally.proofs.CountWords.{digits-free, label-free, net-free, pins-free, labels_free, word-free}

-- ---- a list of names

labels_form : (b : ℕ) (ws : List (List ℕ)) → T (all (is_label b) ws) → Labels b ws
unfolding all
labels_form b [] t = no_label
labels_form b (w ∷ ws) t = let p = and_yes (is_label b w) (all (is_label b) ws) t in one_label (label-word b w p.0) (labels_form b ws p.1)

labels_back : {b : ℕ} {ws : List (List ℕ)} → Labels b ws → T (all (is_label b) ws)
unfolding all
labels_back no_label = tt
labels_back {b} (one_label {w} {ws} h r) = yes_and (is_label b w) (all (is_label b) ws) (word-label h) (labels_back r)

pub names_form : (key : List ℕ) (b : ℕ) (w : List ℕ) → T (is_name_list key b w) → (ws : List (List ℕ)) × Labels b ws × (fields w ≡ key ∷ ws)
unfolding is_name_list of_list
names_form key b w t = by_list (fields w) (λ e. absurd (rw e at t)) (λ v vs q. let p = and_yes (same key v) (all (is_label b) vs)
    (rw q at t) in (vs, labels_form b vs p.1, q ∙ ap (λ (x : List ℕ). x ∷ vs) (sym (same-eq key v p.0))))

pub names-fields : (key : List ℕ) → T (all (leb 33) key) → {b : ℕ} {ws : List (List ℕ)} → 48 ≤ b → Labels b ws → fields (joined (key ∷ ws)) ≡ key ∷ ws
names-fields key k {ws = ws} h l = fields-joined key ws (word-free 32 (lit< tt) key k, labels_free 32 (lit< tt) h l)

pub names-back : (key : List ℕ) → T (all (leb 33) key) → {b : ℕ} {ws : List (List ℕ)} → 48 ≤ b → Labels b ws → T (is_name_list key b (joined (key ∷ ws)))
unfolding is_name_list of_list
names-back key k {b} {ws} h l = rw (names-fields key k h l) (yes_and (same key key) (all (is_label b) ws) (same_refl key) (labels_back l))

-- ---- a gate line

pins_form : (k n : ℕ) (ws : List (List ℕ)) → T (of_form (map (λ (j : ℕ). is_bound (65 + j)) (from k n) ++ (is_bound 79 ∷ [])) ws) → Pins (65 + k) n ws
unfolding from
pins_form k zero ws t =
    let r = form_more (is_bound 79) [] ws t in
    subst (Pins (65 + k) zero) (sym (r.2 ∙ ap (λ (x : List (List ℕ)). r.0 ∷ x) (form_end r.1 r.4))) (output (bound-word 79 r.0 r.3))
pins_form k (suc n) ws t =
    let r = form_more (is_bound (65 + k)) (map (λ (j : ℕ). is_bound (65 + j)) (from (suc k) n) ++ (is_bound 79 ∷ [])) ws t in
    let e : 65 + suc k ≡ suc (65 + k) = omega arith in
    subst (Pins (65 + k) (suc n)) (sym r.2) (pin (bound-word (65 + k) r.0 r.3) (subst (λ (b : ℕ). Pins b n r.1) e (pins_form (suc k) n r.1 r.4)))

pins-fit : (k n : ℕ) (ws : List (List ℕ)) (b : ℕ) → b ≡ 65 + k → Pins b n ws → Fit (map (λ (j : ℕ). is_bound (65 + j)) (from k n) ++ (is_bound 79 ∷ [])) ws
unfolding from
pins-fit k n ws b e (output {w = w} h) = field (word_bound h) no_field
pins-fit k n ws b e (pin {n = m} {w} {ws = vs} h r) =
    field (subst (λ (x : ℕ). T (is_bound x w)) e (word_bound h)) (pins-fit (suc k) m vs (suc b) (let z : suc b ≡ 65 + suc k = omega arith in z) r)

-- the words of a line that is a gate's of cell c
record Words (c : Cell) (w : List ℕ) : Type 0 where
  nets : List (List ℕ)
  are_fields : fields w ≡ text ".gate" ∷ name_of c ∷ nets
  are_nets : Pins 65 c.pins nets

-- which listed cell a gate line is of
record Listed (k : ℕ) (cs : List Cell) (w : List ℕ) (m : ℕ) : Type 0 where
  place : ℕ
  is_place : m ≡ k + place
  listed : place < length cs
  words : Words (cell_at cs place) w

gate-listed : (k : ℕ) (cs : List Cell) (w : List ℕ) (m : ℕ) → gate_of k cs w ≡ Some m → Listed k cs w m
unfolding gate_of cell_at
gate-listed k [] w m e = let z : ◌≡◌ {A = ℕ} 0 1 = cc in absurd (omega arith)
gate-listed k (c ∷ cs) w m e = go (of_form (gate_form c) (fields w)) (unfold gate_form below in λ t. let ps = map (λ (j : ℕ). is_bound (65 + j))
    (from 0 c.pins) ++ (is_bound 79 ∷ []) in let a = form_more (same (text ".gate")) (same (name_of c) ∷ ps) (fields w) t in
    let b = form_more (same (name_of c)) ps a.1 a.4 in record {
      nets = b.1;
      are_fields = a.2 ∙ ap₂ (λ (x : List ℕ) (y : List (List ℕ)). x ∷ y) (sym (same-eq (text ".gate") a.0 a.3))
          (b.2 ∙ ap (λ (x : List ℕ). x ∷ b.1) (sym (same-eq (name_of c) b.0 b.3)));
      are_nets = pins_form 0 c.pins b.1 b.4;
    }) e (gate-listed (suc k) cs w m)
  where
    go : (b : Bool) → (T b → Words c w) → cond b (Some k) (gate_of (suc k) cs w) ≡ Some m → (gate_of (suc k) cs w ≡ Some m → Listed (suc k) cs w m) → Listed k (c ∷ cs) w m
    go true f q later = let z : k ≡ m = cc in record { place = 0; is_place = omega arith; listed = omega arith; words = f tt }
    go false f q later = let s = later q in record { place = suc s.place; is_place = omega (arith, s.is_place); listed = omega (arith, s.listed); words = s.words }

gate-some : (k : ℕ) (cs : List Cell) (w : List ℕ) (i : ℕ) → i < length cs → T (of_form (gate_form (cell_at cs i)) (fields w)) → (m : ℕ) × (gate_of k cs w ≡ Some m)
unfolding gate_of cell_at
gate-some k [] w i h t = absurd (omega arith)
gate-some k (c ∷ cs) w i h t = go (of_form (gate_form c) (fields w)) refl i h t (gate-some (suc k) cs w)
  where
    go : (b : Bool) → of_form (gate_form c) (fields w) ≡ b → (i : ℕ) → i < length (c ∷ cs) → T (of_form (gate_form (cell_at (c ∷ cs) i)) (fields w))
        → ((j : ℕ) → j < length cs → T (of_form (gate_form (cell_at cs j)) (fields w)) → (m : ℕ) × (gate_of (suc k) cs w ≡ Some m)) → (m : ℕ) × (cond b (Some k) (gate_of (suc k) cs w) ≡ Some m)
    go true e i h t later = (k, refl)
    go false e zero h t later = absurd (subst T e t)
    go false e (suc i) h t later = later i (omega arith) t

-- a keyword in front of fields
keyed : (key w : List ℕ) (vs ws us : List (List ℕ)) → ws ≡ w ∷ vs → T (same key w) → vs ≡ us → ws ≡ key ∷ us
keyed key w vs ws us e t f = e ∙ ap₂ (λ (x : List ℕ) (y : List (List ℕ)). x ∷ y) (sym (same-eq key w t)) f

-- ---- the other lines

pub wire_form : (w : List ℕ) → T (is_wire w) → (v : List ℕ) × (o : List ℕ) × PhaseNet v × Label 111 o × (w ≡ joined (text ".names" ∷ v ∷ o ∷ []))
unfolding is_wire
wire_form w t =
    let a = form_more (same (text ".names")) (is_phase_net ∷ is_label 111 ∷ []) (fields w) t in
    let b = form_more is_phase_net (is_label 111 ∷ []) a.1 a.4 in
    let c = form_more (is_label 111) [] b.1 b.4 in
    let e : fields w ≡ text ".names" ∷ b.0 ∷ c.0 ∷ [] = a.2 ∙ ap₂ (λ (x : List ℕ) (y : List (List ℕ)). x ∷ y)
    (sym (same-eq (text ".names") a.0 a.3)) (cc (b.2, c.2, form_end c.1 c.4)) in
    (b.0, c.0, net-word b.0 b.3, label-word 111 c.0 c.3, of_fields w _ e)

pub wire-free : (s : ℕ) → s < 33 → {v o : List ℕ} → PhaseNet v → Label 111 o → AllFree s (text ".names" ∷ v ∷ o ∷ [])
unfolding text all
wire-free s h {v} n l = (word-free s h (text ".names") tt, (net-free s h v n, (label-free s h (lit< tt) l, tt)))

pub wire-back : {v o : List ℕ} → PhaseNet v → Label 111 o → T (is_wire (joined (text ".names" ∷ v ∷ o ∷ [])))
unfolding is_wire
wire-back {v} {o} n l = line-fits (same (text ".names") ∷ is_phase_net ∷ is_label 111 ∷ []) (text ".names") (v ∷ o ∷ [])
    (wire-free 32 (lit< tt) n l) (field (same_refl (text ".names")) (field (word-net v n) (field (word-label l) no_field)))

decimal_form : (n : ℕ) → Decimal (decimal n) n
unfolding decimal
decimal_form n = digits_form (suc n) n (le_refl (suc n))

decimal_free? : (s : ℕ) → s < 48 → {w : List ℕ} {n : ℕ} → Decimal w n → Free s w
decimal_free? s h {n = n} d = subst (Free s) (sym (decimal-only d)) (decimal-free s n h)

pub figures_form : (gates area : ℕ) (w : List ℕ) → T (is_figures gates area w)
    → (g : List ℕ) × (a : List ℕ) × (t : List ℕ) × Decimal g gates × Decimal a area × AnyDigits t × (w ≡ joined (text "#" ∷ text "gates" ∷ g ∷ text "area" ∷ a ∷ text "arrival" ∷ t ∷ []))
unfolding is_figures
figures_form gates area w t =
    let x0 = form_more (same (text "#")) (same (text "gates") ∷ same (decimal gates) ∷ same (text "area") ∷ same (decimal area) ∷ same (text "arrival") ∷ are_digits ∷ []) (fields w) t in
    let x1 = form_more (same (text "gates")) (same (decimal gates) ∷ same (text "area") ∷ same (decimal area) ∷ same (text "arrival") ∷ are_digits ∷ []) x0.1 x0.4 in
    let x2 = form_more (same (decimal gates)) (same (text "area") ∷ same (decimal area) ∷ same (text "arrival") ∷ are_digits ∷ []) x1.1 x1.4 in
    let x3 = form_more (same (text "area")) (same (decimal area) ∷ same (text "arrival") ∷ are_digits ∷ []) x2.1 x2.4 in
    let x4 = form_more (same (decimal area)) (same (text "arrival") ∷ are_digits ∷ []) x3.1 x3.4 in
    let x5 = form_more (same (text "arrival")) (are_digits ∷ []) x4.1 x4.4 in
    let x6 = form_more are_digits [] x5.1 x5.4 in
    let f : x5.1 ≡ x6.0 ∷ [] = x6.2 ∙ ap (λ (y : List (List ℕ)). x6.0 ∷ y) (form_end x6.1 x6.4) in
    let e5 : x4.1 ≡ text "arrival" ∷ x6.0 ∷ [] = keyed (text "arrival") x5.0 x5.1 x4.1 _ x5.2 x5.3 f in
    let e4 : x3.1 ≡ decimal area ∷ text "arrival" ∷ x6.0 ∷ [] = keyed (decimal area) x4.0 x4.1 x3.1 _ x4.2 x4.3 e5 in
    let e3 : x2.1 ≡ text "area" ∷ decimal area ∷ text "arrival" ∷ x6.0 ∷ [] = keyed (text "area") x3.0 x3.1 x2.1 _ x3.2 x3.3 e4 in
    let e2 : x1.1 ≡ decimal gates ∷ text "area" ∷ decimal area ∷ text "arrival" ∷ x6.0 ∷ [] = keyed (decimal gates) x2.0 x2.1 x1.1 _ x2.2 x2.3 e3 in
    let e1 : x0.1 ≡ text "gates" ∷ decimal gates ∷ text "area" ∷ decimal area ∷ text "arrival" ∷ x6.0 ∷ [] = keyed (text "gates") x1.0 x1.1 x0.1 _ x1.2 x1.3 e2 in
    let e0 : fields w ≡ text "#" ∷ text "gates" ∷ decimal gates ∷ text "area" ∷ decimal area ∷ text "arrival" ∷ x6.0 ∷ [] = keyed (text "#") x0.0 x0.1 (fields w) _ x0.2 x0.3 e1 in
    (decimal gates, decimal area, x6.0, decimal_form gates, decimal_form area, digits-word x6.0 x6.3, of_fields w _ e0)

pub figures-free : (s : ℕ) → s < 33 → {gates area : ℕ} {g a t : List ℕ} → Decimal g gates → Decimal a area → AnyDigits t
    → AllFree s (text "#" ∷ text "gates" ∷ g ∷ text "area" ∷ a ∷ text "arrival" ∷ t ∷ [])
unfolding text all
figures-free s h d e f = (
  word-free s h (text "#") tt,
  (word-free s h (text "gates") tt, (decimal_free? s (omega arith) d, (word-free s h (text "area") tt, (decimal_free? s (omega arith) e, (word-free s h (text "arrival") tt, (digits-free s h f, tt)))))),
)

pub figures-back : {gates area : ℕ} {g a t : List ℕ} → Decimal g gates → Decimal a area → AnyDigits t
    → T (is_figures gates area (joined (text "#" ∷ text "gates" ∷ g ∷ text "area" ∷ a ∷ text "arrival" ∷ t ∷ [])))
unfolding is_figures
figures-back {gates} {area} {g} {a} {t} d e f = line-fits (same (text "#") ∷ same (text "gates") ∷ same (decimal gates) ∷ same
    (text "area") ∷ same (decimal area) ∷ same (text "arrival") ∷ are_digits ∷ []) (text "#")
    (text "gates" ∷ g ∷ text "area" ∷ a ∷ text "arrival" ∷ t ∷ []) (figures-free 32 (lit< tt) d e f) (field (same_refl (text "#"))
    (field (same_refl (text "gates")) (field (rw (decimal-only d) (same_refl (decimal gates))) (field (same_refl (text "area"))
    (field (rw (decimal-only e) (same_refl (decimal area))) (field (same_refl (text "arrival")) (field (word-digits f) no_field)))))))

pub timing_form : (w : List ℕ) → T (is_timing w) → (o : List ℕ) × (l : List ℕ) × (h : List ℕ) × Label 111 o × AnyDigits l × AnyDigits h × (w ≡ joined (text "#" ∷ text "timing" ∷ o ∷ l ∷ h ∷ []))
unfolding is_timing
timing_form w t =
    let x0 = form_more (same (text "#")) (same (text "timing") ∷ is_label 111 ∷ are_digits ∷ are_digits ∷ []) (fields w) t in
    let x1 = form_more (same (text "timing")) (is_label 111 ∷ are_digits ∷ are_digits ∷ []) x0.1 x0.4 in
    let x2 = form_more (is_label 111) (are_digits ∷ are_digits ∷ []) x1.1 x1.4 in
    let x3 = form_more are_digits (are_digits ∷ []) x2.1 x2.4 in
    let x4 = form_more are_digits [] x3.1 x3.4 in (
      x2.0,
      x3.0,
      x4.0,
      label-word 111 x2.0 x2.3,
      digits-word x3.0 x3.3,
      digits-word x4.0 x4.3,
      of_fields w _
          (keyed (text "#") x0.0 x0.1 (fields w) _ x0.2 x0.3 (keyed (text "timing") x1.0 x1.1 x0.1 _ x1.2 x1.3 (x2.2
          ∙ ap (λ (y : List (List ℕ)). x2.0 ∷ y)
          (x3.2 ∙ ap (λ (y : List (List ℕ)). x3.0 ∷ y) (x4.2 ∙ ap (λ (y : List (List ℕ)). x4.0 ∷ y) (form_end x4.1 x4.4)))))),
    )

pub timing-free : (s : ℕ) → s < 33 → {o l h : List ℕ} → Label 111 o → AnyDigits l → AnyDigits h → AllFree s (text "#" ∷ text "timing" ∷ o ∷ l ∷ h ∷ [])
unfolding text all
timing-free s k o l h = (word-free s k (text "#") tt, (word-free s k (text "timing") tt, (label-free s k (lit< tt) o, (digits-free s k l, (digits-free s k h, tt)))))

pub timing-back : {o l h : List ℕ} → Label 111 o → AnyDigits l → AnyDigits h → T (is_timing (joined (text "#" ∷ text "timing" ∷ o ∷ l ∷ h ∷ [])))
unfolding is_timing
timing-back {o} {l} {h} a b c =
    line-fits (same (text "#") ∷ same (text "timing") ∷ is_label 111 ∷ are_digits ∷ are_digits ∷ []) (text "#") (text "timing" ∷ o ∷ l ∷ h ∷ []) (timing-free 32 (lit< tt) a b c)
    (field (same_refl (text "#")) (field (same_refl (text "timing")) (field (word-label a) (field (word-digits b) (field (word-digits c) no_field)))))

-- ---- a gate line, among listed cells of different names

module _ (cells : List Cell) (fits : T (library_fits cells)) where
  cell-fits : (cs : List Cell) → T (library_fits cs) → (i : ℕ) → i < length cs → T (cell_fits (cell_at cs i))
  unfolding library_fits cell_at
  cell-fits [] t i h = absurd (omega arith)
  cell-fits (c ∷ cs) t zero h = (and_yes (cell_fits c) (all (λ (d : Cell). not (same (name_of c) (name_of d))) cs && library_fits cs) t).0
  cell-fits (c ∷ cs) t (suc i) h = cell-fits cs (library-rest c cs t).1 i (omega arith)

  named-free : (s : ℕ) → s < 48 → (i : ℕ) → i < length cells → Free s (name_of (cell_at cells i))
  unfolding cell_fits
  named-free s h i l =
      let c = cell_at cells i in
      name_free s h (name_form (name_of c) (and_yes (is_name (name_of c)) (leb c.pins 4 && (ltb c.table (2 ^ 2 ^ c.pins) && eqb (length c.delays) 4)) (cell-fits cells fits i l)).0)

  pub words-free : (s : ℕ) → s < 33 → (w : List ℕ) (i : ℕ) (g : GateWords cells w i) → AllFree s (text ".gate" ∷ name_of (cell_at cells i) ∷ g.nets)
  unfolding text all
  words-free s h w i g = (word-free s h (text ".gate") tt, (named-free s (omega arith) i g.listed, pins-free s h (lit< tt) g.are_nets))

  gate-words : (w : List ℕ) (i : ℕ) → GateWords cells w i → Words (cell_at cells i) w
  gate-words w i g = record {
    nets = g.nets;
    are_fields = ap fields g.whole ∙ fields-joined (text ".gate") (name_of (cell_at cells i) ∷ g.nets) (words-free 32 (lit< tt) w i g);
    are_nets = g.are_nets;
  }

  pub gate_form_lem : (w : List ℕ) (i : ℕ) → gate_of 0 cells w ≡ Some i → GateWords cells w i
  gate_form_lem w i e =
      let l = gate-listed 0 cells w i e in
      let q : l.place ≡ i = omega (arith, l.is_place) in
      subst (GateWords cells w) q (record { listed = l.listed; nets = l.words.nets; whole = of_fields w _ l.words.are_fields; are_nets = l.words.are_nets })

  pub gate-back : (w : List ℕ) (i : ℕ) → GateWords cells w i → gate_of 0 cells w ≡ Some i
  gate-back w i g =
      let x = gate-words w i g in
      let m = gate-some 0 cells w i g.listed (unfold gate_form below in let ps = map (λ (j : ℕ). is_bound (65 + j))
      (from 0 (cell_at cells i).pins) ++ (is_bound 79 ∷ []) in rw x.are_fields
      (form_fits (same (text ".gate") ∷ same (name_of (cell_at cells i)) ∷ ps) (text ".gate" ∷ name_of (cell_at cells i) ∷ x.nets)
      (field (same_refl (text ".gate"))
      (field (same_refl (name_of (cell_at cells i))) (pins-fit 0 (cell_at cells i).pins x.nets 65 refl x.are_nets))))) in
      let l = gate-listed 0 cells w m.0 m.1 in
      m.1 ∙ ap Some (omega (
        arith,
        l.is_place,
        (name-once cells fits l.place i l.listed g.listed
            (head-eq_of_cons-eq (tail-eq_of_cons-eq (sym l.words.are_fields ∙ x.are_fields)))),
      ))
