-- What a look-up in a block gives, by the answer of the search for its slot.
use Rattle.base.specs.{ℕ, ◌/◌, ◌%◌, ◌≡◌, sym, ◌∙◌, ap, Bool, true, false, cond, Option, None, Some, List, eqb, ltb}
use Rattle.model.specs.{and_then, only, var_of, negated}
use Rattle.certificate_model.specs.{at, fed_at, lit_table, no_row, phased}
use Rattle.certificate_model.specs.declared.Row.{Row}

abbrev looked : ℕ → Row → Option ℕ
looked l e = only (eqb e.a (var_of l)) (phased (negated l) e.b)

pub looked_at : (rows : List Row) (i l : ℕ) (x : Row) → Some x ≡ at rows i → eqb x.a (l / 2) ≡ true → Some (phased (eqb (l % 2) 1) x.b) ≡ lit_table rows i l
unfolding lit_table and_then only var_of negated
looked_at rows i l x e t = sym (ap (λ (o : Option Row). and_then o (looked l)) (sym e) ∙ ap (λ (b : Bool). only b (phased (eqb (l % 2) 1) x.b)) t)

pub looked_past : (rows : List Row) (i l : ℕ) (x : Row) → Some x ≡ at rows i → eqb x.a (l / 2) ≡ false → None ≡ lit_table rows i l
unfolding lit_table and_then only var_of negated
looked_past rows i l x e t = sym (ap (λ (o : Option Row). and_then o (looked l)) (sym e) ∙ ap (λ (b : Bool). only b (phased (eqb (l % 2) 1) x.b)) t)

pub looked_none : (rows : List Row) (i l : ℕ) → None ≡ at rows i → None ≡ lit_table rows i l
unfolding lit_table and_then
looked_none rows i l e = ap (λ (o : Option Row). and_then o (looked l)) e

pub pin-fed : (rows : List Row) (pins j i : ℕ) → ltb j pins ≡ true → at rows i ≡ fed_at rows pins j i
unfolding fed_at
pin-fed rows pins j i t = ap (λ (b : Bool). cond b (at rows i) (Some no_row)) (sym t)

pub pin-none : (rows : List Row) (pins j i : ℕ) → ltb j pins ≡ false → Some no_row ≡ fed_at rows pins j i
unfolding fed_at
pin-none rows pins j i t = ap (λ (b : Bool). cond b (at rows i) (Some no_row)) (sym t)
