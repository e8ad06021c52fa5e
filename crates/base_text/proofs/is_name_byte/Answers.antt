-- `base_text::is_name_byte` meets its contract, by what `is_letter` says and the other tests.
use Rattle.base.specs.{◌≡◌, refl, sym, ◌∙◌, Bool, true, false, ◌||◌, le-leb, lt-leb, eq-eqb, ne_eqb}
use Rattle.model.specs.{is_name_byte, between}
use Rattle.base_text.proofs.Bytes.{or-true}
use Rattle.base_text.proofs.is_name_byte.Goals as goal

or-false : (a : Bool) → (a || false) ≡ a
or-false true = refl
or-false false = refl

pub returns-then-is_letter : goal.returns-then-is_letter
unfolding is_name_byte
returns-then-is_letter c = rw (sym c.is_letter.ensures ∙ c.if-is_letter.true) c.if-is_letter.true

pub returns-then-b-eq95 : goal.returns-then-b-eq95
unfolding is_name_byte between
returns-then-b-eq95 c = rw (sym c.is_letter.ensures ∙ c.if-is_letter.false, eq-eqb _ 95 c.if-b-eq95.true, or-true)

pub returns-then-b-ge48 : goal.returns-then-b-ge48
unfolding is_name_byte between
returns-then-b-ge48 c =
    rw (sym c.is_letter.ensures ∙ c.if-is_letter.false, ne_eqb _ 95 c.if-b-eq95.false, le-leb 48 _ c.if-b-ge48.true, or-false)

pub returns-else-b-ge48 : goal.returns-else-b-ge48
unfolding is_name_byte between
returns-else-b-ge48 c =
    rw (sym c.is_letter.ensures ∙ c.if-is_letter.false, ne_eqb _ 95 c.if-b-eq95.false, lt-leb 48 _ c.if-b-ge48.false)
