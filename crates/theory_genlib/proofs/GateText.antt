-- The gates that a genlib text gives: their pins, tables and figures are those of a cell line.
--     group_fits          the gate of a group: at most four pins, a table of its rows, four delays, those of absent pins 0, figures of at most 65,535
--     group_parts         what its reading has passed: 22, 23 and 24
use Rattle.base.specs.{ℕ, zero, suc, ◌^◌, ◌≤◌, ◌<◌, arith, ◌≡◌, refl, sym, ◌∙◌, ap, subst, ◌⊎◌, inl, inr, ⊎_elim, Bool, true, false, not}
use Rattle.base.specs.{cond, ◌&&◌, Some, List, [], ◌∷◌, ◌++◌, map, T, eqb, leb, le→leb, ltb, ltb→lt, nltb→le, length, get_or, drop, and_yes}
use Rattle.base.specs.{yes_and, yes_eqb, leb_yes}
use Rattle.model.specs.{all, and_then, holds, is_figure, decimals, in_thousandths, thousandths, pins_of, shallow, name_value, Group, pin_line}
use Rattle.model.specs.{delay_of, pin_delay, delays_of, table_of, line_tokens, formula_of, group_formed, group_small, gate_from, read_group, HasDelay}
use Rattle.model.specs.GenlibFormula.{value_of}
use Rattle.model.specs.Genlib.{Gate, fits, gate_of}
use Rattle.model.proofs.{rows_less}
use Rattle.theory_graph.proofs.{by_bool}
use Rattle.theory_text.proofs.{unless_out, from_out, then_out, only_out}
use Rattle.theory_genlib.proofs.FormulaShapes.{none-some, some-once}
use Rattle.theory_genlib.proofs.CellsBack.{GateFits}

-- ---- figures

pub thousandths-small : (w : List ℕ) (n : ℕ) → thousandths w ≡ Some n → n ≤ 65535
unfolding thousandths
thousandths-small w n e =
    let t = only_out (is_figure w && (leb (length (decimals w)) 3 && leb (in_thousandths w) 65535)) (in_thousandths w) n e in
    subst (λ (m : ℕ). m ≤ 65535) t.1
    (leb_yes (and_yes (leb (length (decimals w)) 3) (leb (in_thousandths w) 65535) (and_yes (is_figure w) (leb (length (decimals w)) 3 && leb (in_thousandths w) 65535) t.0).1).1)

-- "the first that fits counts"
record First (name : List ℕ) (lines : List (List (List ℕ))) (ts : List (List ℕ)) : Type 0 where
  before : List (List (List ℕ))
  after : List (List (List ℕ))
  is_all : lines ≡ before ++ (ts ∷ after)
  others : T (all (λ (us : List (List ℕ)). not (fits name us)) before)
  fitting : T (fits name ts)

pin-first : (name : List ℕ) (lines : List (List (List ℕ))) (ts : List (List ℕ)) → pin_line name lines ≡ Some ts → First name lines ts
unfolding pin_line all
pin-first name [] ts e = none-some e
pin-first name (us ∷ lines) ts e = go (fits name us) refl e (pin-first name lines ts)
  where
    go : (b : Bool) → fits name us ≡ b → cond b (Some us) (pin_line name lines) ≡ Some ts → (pin_line name lines ≡ Some ts → First name lines ts) → First name (us ∷ lines) ts
    go true q x r =
        let y : us ≡ ts = some-once x in
        record { before = []; after = lines; is_all = ap (λ (vs : List (List ℕ)). vs ∷ lines) y; others = tt; fitting = subst (λ (vs : List (List ℕ)). T (fits name vs)) y (subst T (sym q) tt) }
    go false q x r = unfold all in let f = r x in record {
      before = us ∷ f.before;
      after = f.after;
      is_all = ap (λ (vs : List (List (List ℕ))). us ∷ vs) f.is_all;
      others = yes_and (not (fits name us)) (all (λ (vs : List (List ℕ)). not (fits name vs)) f.before) (rw q tt) f.others;
      fitting = f.fitting;
    }

-- "the larger of its rise and fall block delays"
line_delay : (lines : List (List (List ℕ))) (name : List ℕ) (d : ℕ) → and_then (pin_line name lines) delay_of ≡ Some d → HasDelay lines name d
unfolding delay_of
line_delay lines name d e =
    let a = then_out (pin_line name lines) delay_of d e in
    let f = pin-first name lines a.0 a.1 in
    let b = then_out (thousandths (get_or a.0 5 [])) _ d a.2 in
    let c = then_out (thousandths (get_or a.0 7 [])) _ d b.2 in
    record { before = f.before; line = a.0; after = f.after; is_all = f.is_all; others = f.others; fitting = f.fitting; rise = b.0; fall = c.0; is_rise = b.1; is_fall = c.1; larger = sym (some-once c.2) }

module _ (lines : List (List (List ℕ))) (names : List (List ℕ)) where
  -- the delay of a pin that is there, or "0 .. like absent pins' delays"
  abbrev Either : ℕ → ℕ → Type 0
  Either j d = ((j < length names) × HasDelay lines (get_or names j []) d) ⊎ ((length names ≤ j) × (d ≡ 0))

  pin_either : (j d : ℕ) → pin_delay lines names j ≡ Some d → Either j d
  unfolding pin_delay
  pin_either j d e = by_bool (ltb j (length names))
      (λ q. inl ((rw q at (ltb→lt j (length names))) tt, line_delay lines (get_or names j []) d (rw q at e)))
      (λ p. inr ((rw p at (nltb→le j (length names))) tt, sym (some-once (rw p at e))))

  pin-small : (j d : ℕ) → pin_delay lines names j ≡ Some d → d ≤ 65535
  pin-small j d e = ⊎_elim (λ p. (let y : p.1.fall ≤ 65535 = thousandths-small (get_or p.1.line 7 []) p.1.fall
      p.1.is_fall in omega (arith, thousandths-small (get_or p.1.line 5 []) p.1.rise p.1.is_rise, p.1.larger)))
      (λ q. omega (arith, q.1)) (pin_either j d e)

  pin-absent : (j d : ℕ) → pin_delay lines names j ≡ Some d → length names ≤ j → d ≡ 0
  pin-absent j d e h = ⊎_elim (λ p. absurd (omega (arith, p.0))) (λ q. q.1) (pin_either j d e)

  record Four (ds : List ℕ) : Type 0 where
    d0 : ℕ
    d1 : ℕ
    d2 : ℕ
    d3 : ℕ
    is0 : pin_delay lines names 0 ≡ Some d0
    is1 : pin_delay lines names 1 ≡ Some d1
    is2 : pin_delay lines names 2 ≡ Some d2
    is3 : pin_delay lines names 3 ≡ Some d3
    are : d0 ∷ d1 ∷ d2 ∷ d3 ∷ [] ≡ ds

  delays-four : (ds : List ℕ) → delays_of lines names ≡ Some ds → Four ds
  unfolding delays_of
  delays-four ds e =
      let a = then_out (pin_delay lines names 0) _ ds e in
      let b = then_out (pin_delay lines names 1) _ ds a.2 in
      let c = then_out (pin_delay lines names 2) _ ds b.2 in
      let d = then_out (pin_delay lines names 3) _ ds c.2 in
      record { d0 = a.0; d1 = b.0; d2 = c.0; d3 = d.0; is0 = a.1; is1 = b.1; is2 = c.1; is3 = d.1; are = some-once d.2 }

  pub delays_are : (ds : List ℕ) → length names ≤ 4 → delays_of lines names ≡ Some ds → (j : ℕ) → j < length names → HasDelay lines (get_or names j []) (get_or ds j 0)
  delays_are ds few e j h = (⊎_elim (λ p. p.1) (λ q. absurd (omega (arith, q.0)))
      (pin_either j (get_or ds j 0) (subst (λ (xs : List ℕ). pin_delay lines names j ≡ Some (get_or xs j 0)) f.are (go j (omega arith)))))
    where
      f : Four ds
      f = delays-four ds e

      go : (i : ℕ) → i < 4 → pin_delay lines names i ≡ Some (get_or (f.d0 ∷ f.d1 ∷ f.d2 ∷ f.d3 ∷ []) i 0)
      go zero k = f.is0
      go (suc zero) k = f.is1
      go (suc (suc zero)) k = f.is2
      go (suc (suc (suc zero))) k = f.is3
      go (suc (suc (suc (suc i)))) k = absurd (omega arith)

-- from the first absent pin on, the delays are 0
zeros-from : (p a b c d : ℕ) → p ≤ 4 → (p ≤ 0 → a ≡ 0) → (p ≤ 1 → b ≡ 0) → (p ≤ 2 → c ≡ 0) → (p ≤ 3 → d ≡ 0) → T (all (eqb 0) (drop p (a ∷ b ∷ c ∷ d ∷ [])))
unfolding all
zeros-from p a b c d h ha hb hc hd = go p h ha hb hc hd
  where
    is : (n : ℕ) → n ≡ 0 → (r : Bool) → T r → T (eqb 0 n && r)
    is n e r t = yes_and (eqb 0 n) r (yes_eqb (sym e)) t

    go : (q : ℕ) → q ≤ 4 → (q ≤ 0 → a ≡ 0) → (q ≤ 1 → b ≡ 0) → (q ≤ 2 → c ≡ 0) → (q ≤ 3 → d ≡ 0) → T (all (eqb 0) (drop q (a ∷ b ∷ c ∷ d ∷ [])))
    go zero k x y z w = unfold all in is a (x (omega arith)) (eqb 0 b && (eqb 0 c && (eqb 0 d && true)))
        (is b (y (omega arith)) (eqb 0 c && (eqb 0 d && true)) (is c (z (omega arith)) (eqb 0 d && true) (is d (w (omega arith)) true tt)))
    go (suc zero) k x y z w = unfold all in is b (y (omega arith)) (eqb 0 c && (eqb 0 d && true)) (is c (z (omega arith)) (eqb 0 d && true) (is d (w (omega arith)) true tt))
    go (suc (suc zero)) k x y z w = unfold all in is c (z (omega arith)) (eqb 0 d && true) (is d (w (omega arith)) true tt)
    go (suc (suc (suc zero))) k x y z w = unfold all in is d (w (omega arith)) true tt
    go (suc (suc (suc (suc zero)))) k x y z w = unfold all in tt
    go (suc (suc (suc (suc (suc q))))) k x y z w = absurd (omega arith)

-- ---- a gate

-- what a gate is made of
pub record Made (lines : List (List (List ℕ))) (ts : List (List ℕ)) (c : Gate) : Type 0 where
  pub area : thousandths (get_or ts 2 []) ≡ Some c.area
  pub delays : delays_of lines (pins_of (drop 5 ts)) ≡ Some c.delays
  pub name : c.name ≡ get_or ts 1 []
  pub pins : c.pins ≡ length (pins_of (drop 5 ts))
  pub table : c.table ≡ table_of (drop 5 ts)

gate-made : (lines : List (List (List ℕ))) (ts : List (List ℕ)) (c : Gate) → gate_from lines ts ≡ Some c → Made lines ts c
unfolding gate_from
gate-made lines ts c e =
    let a = then_out (thousandths (get_or ts 2 [])) (λ area. and_then (delays_of lines (pins_of (drop 5 ts))) (λ delays. Some (made area delays))) c e in
    let b = then_out (delays_of lines (pins_of (drop 5 ts))) (λ delays. Some (made a.0 delays)) c a.2 in
    let h : Some (made a.0 b.0) ≡ Some c = b.2 in
    let q : made a.0 b.0 ≡ c = cc in
    record {
      area = a.1 ∙ ap (λ (x : Gate). Some x.area) q;
      delays = b.1 ∙ ap (λ (x : Gate). Some x.delays) q;
      name = ap (λ (x : Gate). x.name) (sym q);
      pins = ap (λ (x : Gate). x.pins) (sym q);
      table = ap (λ (x : Gate). x.table) (sym q);
    }
  where
    made : ℕ → List ℕ → Gate
    made area delays = record { name = get_or ts 1 []; pins = length (pins_of (drop 5 ts)); table = table_of (drop 5 ts); area = area; delays = delays }

-- what the reading of a group has passed
pub record Passed (g : Group) (c : Gate) : Type 0 where
  pub formed : T (group_formed g)
  pub few : length (pins_of (formula_of g)) ≤ 4
  pub low : T (shallow 0 (formula_of g))
  pub made : Made (map line_tokens g.lines) (line_tokens g.head) c

pub group_parts : (g : Group) (c : Gate) → read_group g ≡ holds c → Passed g c
unfolding read_group group_small gate_of
group_parts g c e =
    let a = unless_out (group_formed g) 22 g.head.offset _ c e in
    let b = unless_out (group_small g) 23 g.head.offset _ c a.1 in
    let s = and_yes (leb (length (pins_of (formula_of g))) 4) (shallow 0 (formula_of g)) b.0 in
    let o = from_out (gate_of g) 24 g.head.offset c b.1 in
    record { formed = a.0; few = leb_yes s.0; low = s.1; made = gate-made (map line_tokens g.lines) (line_tokens g.head) c o }

table_less : (formula : List (List ℕ)) → table_of formula < 2 ^ 2 ^ length (pins_of formula)
unfolding table_of
table_less formula = rows_less (λ r. value_of (name_value (pins_of formula) r) formula) 0 (2 ^ length (pins_of formula))

pub group_fits : (g : Group) (c : Gate) → Passed g c → GateFits c
unfolding formula_of all
group_fits g c p =
    let lines = map line_tokens g.lines in
    let formula = drop 5 (line_tokens g.head) in
    let names = pins_of formula in
    let m = p.made in
    let f = delays-four lines names c.delays m.delays in
    let low : (n : ℕ) → n ≤ 65535 → (r : Bool) → T r → T (leb n 65535 && r) = λ n h r t. yes_and (leb n 65535) r (le→leb n 65535 h) t in
    let small : T (all (λ (d : ℕ). leb d 65535) (f.d0 ∷ f.d1 ∷ f.d2 ∷ f.d3 ∷ [])) = unfold all in low f.d0
    (pin-small lines names 0 f.d0 f.is0) (leb f.d1 65535 && (leb f.d2 65535 && (leb f.d3 65535 && true))) (low f.d1
    (pin-small lines names 1 f.d1 f.is1) (leb f.d2 65535 && (leb f.d3 65535 && true)) (low f.d2
    (pin-small lines names 2 f.d2 f.is2) (leb f.d3 65535 && true)
    (low f.d3 (pin-small lines names 3 f.d3 f.is3) true tt))) in
    record {
      pins = subst (λ (n : ℕ). n ≤ 4) (sym m.pins) p.few;
      table = subst (λ (n : ℕ). n < 2 ^ 2 ^ c.pins) (sym m.table) (subst (λ (k : ℕ). table_of formula < 2 ^ 2 ^ k) (sym m.pins) (table_less formula));
      area = thousandths-small (get_or (line_tokens g.head) 2 []) c.area m.area;
      four = ap length (sym f.are);
      delays = subst (λ (ds : List ℕ). T (all (λ (d : ℕ). leb d 65535) ds)) f.are small;
      absent = subst (λ (n : ℕ). T (all (eqb 0) (drop n c.delays))) (sym m.pins)
          (subst (λ (ds : List ℕ). T (all (eqb 0) (drop (length names) ds))) f.are
          (zeros-from (length names) f.d0 f.d1 f.d2 f.d3 p.few
          (pin-absent lines names 0 f.d0 f.is0) (pin-absent lines names 1 f.d1 f.is1) (pin-absent lines names 2 f.d2 f.is2) (pin-absent lines names 3 f.d3 f.is3)));
    }
