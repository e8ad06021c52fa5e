-- A group of lines: 22 accepts it exactly where its lines have the form and every pin a line that fits; 23 exactly where it has at most four pins and brackets
-- at most 16 deep.
use Rattle.base.specs.{ℕ, ◌≤◌, ◌≡◌, refl, sym, ◌∙◌, ap, subst, ◌↔◌, Bool, true, false, cond, ◌&&◌, Option, None, Some, List, [], ◌∷◌, ◌++◌}
use Rattle.base.specs.{map, Memᴰ, Memᴰ-head, Memᴰ-tail, Memᴰ-not-nil, Memᴰ-append_left, Memᴰ-append_right, T, leb}
use Rattle.base.specs.{length, drop, and_yes, yes_and, leb_yes, yes_leb}
use Rattle.model.specs.{all, keep, Line, ended, tokens, is_pin, pins_of, shallow, Group, line_is, is_gate_line, is_pin_line, has_line, is_there}
use Rattle.model.specs.{pin_line, line_tokens, formula_of, group_formed, group_small}
use Rattle.theory_graph.proofs.{keep_in, keep_out, all_of, all_in}
use Rattle.promises.specs.GateForms.{GateSays, PinSays, GateContents, Fits}
use Rattle.promises.specs.GateRefusals.{AllListed, Small}
use Rattle.theory_genlib_refusals.proofs.WordForms.{pin_form as pin-name, pin-back as name-pin}
use Rattle.theory_genlib_refusals.proofs.PinOrder.{pins-order, order-once}
use Rattle.theory_genlib_refusals.proofs.PinForms.{Says, no_more, one_more, pin_says, pin_form, pin-back, counts_form}
use Rattle.theory_genlib_refusals.proofs.HeadForms.{head-is, gate_form_lem, gate-back}
use Rattle.theory_genlib_refusals.proofs.FormulaForms.{pins-before, shallow_exactly}

-- ---- 22

-- the lines of a group, each with its end
pub record FormedLines (g : Group) (h : GateSays) (ps : List PinSays) : Type 0 where
  pub ends_head : T (ended g.head)
  pub is_head : GateContents g.head.bytes h
  pub ends_lines : T (all ended g.lines)
  pub are_lines : Says g.lines ps
  pub listed : AllListed h ps

lines_form : (ls : List Line) → T (all (line_is is_pin_line) ls) → T (all ended ls) × (ps : List PinSays) × Says ls ps
unfolding all line_is
lines_form [] t = (tt, [], no_more)
lines_form (l ∷ ls) t =
    let a = and_yes (line_is is_pin_line l) (all (line_is is_pin_line) ls) t in
    let b = and_yes (ended l) (is_pin_line (tokens l.bytes)) a.0 in
    let r = lines_form ls a.1 in
    (yes_and (ended l) (all ended ls) b.0 r.0, pin_says (tokens l.bytes) ∷ r.1, one_more (pin_form l.bytes b.1) r.2)

lines-back : {ls : List Line} {ps : List PinSays} → T (all ended ls) → Says ls ps → T (all (line_is is_pin_line) ls)
unfolding all line_is
lines-back t no_more = tt
lines-back t (one_more {l} {ls} c r) =
    let a = and_yes (ended l) (all ended ls) t in
    yes_and (line_is is_pin_line l) (all (line_is is_pin_line) ls) (yes_and (ended l) (is_pin_line (tokens l.bytes)) a.0 (pin-back c)) (lines-back a.1 r)

-- a pin has a line exactly where one fits
there-some : {A : Type 0} (o : Option A) → T (is_there o) → (a : A) × (o ≡ Some a)
unfolding is_there
there-some None t = absurd t
there-some (Some a) t = (a, refl)

some-there : {A : Type 0} (o : Option A) (a : A) → o ≡ Some a → T (is_there o)
unfolding is_there
some-there {A} o a e = subst (λ (x : Option A). T (is_there x)) (sym e) tt

-- the first of the lines that fit
first-fit : (pin : List ℕ) {ls : List Line} {ps : List PinSays} → Says ls ps → (p : PinSays) → Memᴰ p ps → Fits pin p → T (has_line (map line_tokens ls) pin)
unfolding has_line pin_line is_there line_tokens
first-fit pin no_more p m f = absurd (Memᴰ-not-nil m)
first-fit pin (one_more {l} {ls} {p = q} {ps} c r) p m f = go (Rattle.model.specs.Genlib.fits pin (tokens l.bytes)) refl m (λ n. first-fit pin r p n f)
  where
    go : (b : Bool) → Rattle.model.specs.Genlib.fits pin (tokens l.bytes) ≡ b → Memᴰ p (q ∷ ps) → (Memᴰ p ps → T (has_line (map line_tokens ls) pin))
        → T (is_there (cond b (Some (tokens l.bytes)) (pin_line pin (map line_tokens ls))))
    go true e k h = unfold is_there in tt
    go false e (Memᴰ-head y) h = absurd (subst T e ((Rattle.theory_genlib_refusals.proofs.PinForms.fits_exactly pin c).1 (subst (Fits pin) y f)))
    go false e (Memᴰ-tail k) h = unfold has_line is_there in h k

pub formed_exactly : (g : Group) → T (group_formed g) ↔ ((h : GateSays) × (ps : List PinSays) × FormedLines g h ps)
unfolding group_formed line_is formula_of line_tokens
formed_exactly g = (there, back)
  where
    there : T (group_formed g) → (h : GateSays) × (ps : List PinSays) × FormedLines g h ps
    there t =
        unfold group_formed line_is formula_of line_tokens in
        let a = and_yes (line_is is_gate_line g.head) (all (line_is is_pin_line) g.lines && all (has_line (map line_tokens g.lines)) (keep is_pin (formula_of g))) t in
        let b = and_yes (all (line_is is_pin_line) g.lines) (all (has_line (map line_tokens g.lines)) (keep is_pin (formula_of g))) a.1 in
        let c = and_yes (ended g.head) (is_gate_line (tokens g.head.bytes)) a.0 in
        let h = gate_form_lem g.head.bytes c.1 in
        let r = lines_form g.lines b.0 in
        (h.0, r.1, record { ends_head = c.0; is_head = h.1; ends_lines = r.0; are_lines = r.2; listed = listed h.0 h.1 r.1 r.2 b.1 })
      where
        listed : (h : GateSays) → GateContents g.head.bytes h → (ps : List PinSays) → Says g.lines ps → T (all (has_line (map line_tokens g.lines)) (keep is_pin (formula_of g))) → AllListed h ps
        listed h c ps s t pin m n =
            unfold has_line formula_of line_tokens in
            let k : Memᴰ pin (formula_of g) = subst (λ (x : List (List ℕ)). Memᴰ pin x) (sym (head-is c).formula) (Memᴰ-append_left ((59 ∷ []) ∷ []) m) in
            let o = there-some (pin_line pin (map line_tokens g.lines)) (all_of (has_line (map line_tokens g.lines)) (keep is_pin (formula_of g)) t pin (keep_in is_pin k (name-pin pin n))) in
            let d = counts_form pin s o.0 o.1 in
            (pin_says o.0, subst (λ (x : List PinSays). Memᴰ (pin_says o.0) x) (sym d.is_all) (Memᴰ-append_right d.before (Memᴰ-head refl)), d.fitting)

    back : ((h : GateSays) × (ps : List PinSays) × FormedLines g h ps) → T (group_formed g)
    back p = unfold group_formed line_is formula_of line_tokens in let f = p.2 in yes_and (line_is is_gate_line g.head)
        (all (line_is is_pin_line) g.lines && all (has_line (map line_tokens g.lines)) (keep is_pin (formula_of g)))
        (yes_and (ended g.head) (is_gate_line (tokens g.head.bytes)) f.ends_head (gate-back f.is_head))
        (yes_and (all (line_is is_pin_line) g.lines) (all (has_line (map line_tokens g.lines)) (keep is_pin (formula_of g)))
        (lines-back f.ends_lines f.are_lines) (all_in (has_line (map line_tokens g.lines)) (keep is_pin (formula_of g)) (λ pin m.
        unfold formula_of line_tokens in let k = keep_out is_pin (formula_of g) m in let n = pin-name pin k.1 in let i =
        (((pins-order p.0.formula).pins pin).0 (rw (← pins-before p.0.formula)
        (((pins-order (p.0.formula ++ ((59 ∷ []) ∷ []))).pins pin).1 ((rw (← (head-is p.2.is_head).formula) k.0), n)))).0 in
        let q = p.2.listed pin i n in first-fit pin p.2.are_lines q.0 q.1 q.2)))

-- ---- 23

pub small_exactly : (g : Group) (h : GateSays) → GateContents g.head.bytes h → T (group_small g) ↔ ((pins : List (List ℕ)) × Small h pins)
unfolding group_small formula_of line_tokens
small_exactly g h c = (
  there,
  (λ p. unfold group_small formula_of line_tokens in yes_and
      (leb (length (pins_of (drop 5 (tokens g.head.bytes)))) 4) (shallow 0 (drop 5 (tokens g.head.bytes))) (yes_leb
      (rw (order-once h.formula p.0 (pins_of h.formula) p.1.are_ordered (pins-order h.formula) ∙ sym pins) at p.1.few))
      (rw e ((shallow_exactly c.depth h.formula c.is_formula).1 p.1.shallow))),
)
  where
    e : drop 5 (tokens g.head.bytes) ≡ h.formula ++ ((59 ∷ []) ∷ [])
    e = (head-is c).formula

    pins : pins_of (drop 5 (tokens g.head.bytes)) ≡ pins_of h.formula
    pins = ap pins_of e ∙ pins-before h.formula

    there : T (group_small g) → (ps : List (List ℕ)) × Small h ps
    there t =
        unfold group_small formula_of line_tokens in
        let a = and_yes (leb (length (pins_of (drop 5 (tokens g.head.bytes)))) 4) (shallow 0 (drop 5 (tokens g.head.bytes))) t in (
          pins_of h.formula,
          record {
            are_ordered = pins-order h.formula;
            few = subst (λ (x : List (List ℕ)). length x ≤ 4) pins (leb_yes a.0);
            shallow = (shallow_exactly c.depth h.formula c.is_formula).0 (subst (λ (x : List (List ℕ)). T (shallow 0 x)) e a.1);
          },
        )
