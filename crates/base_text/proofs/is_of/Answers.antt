-- `base_text::is_of` meets its contract, class by class.
use Rattle.base.specs.{ℕ, ◌≡◌, sym, ap, ◌∙◌, eq-eqb, ne_eqb, le-leb, lt-leb}
use Rattle.model.specs.{is_blank, is_digit, is_word_byte, between}
use Rattle.base_text.specs.declared.Class.{Class}
use Rattle.base_text.specs.{in_class}
use Rattle.base_text.proofs.is_of.Goals as goal

-- the class that was met
by : (b : ℕ) {k l : Class} → k ≡ l → in_class l b ≡ in_class k b
by b e = ap (λ (x : Class). in_class x b) (sym e)

pub returns-then-b-eq32 : goal.returns-then-b-eq32
unfolding is_blank
returns-then-b-eq32 c = let b = c.args.b in sym (rw (eq-eqb b 32 c.if-b-eq32.true)) ∙ by b c.in-Blank.is

pub returns-else-b-eq32 : goal.returns-else-b-eq32
unfolding is_blank
returns-else-b-eq32 c = let b = c.args.b in sym (rw (ne_eqb b 32 c.if-b-eq32.false)) ∙ by b c.in-Blank.is

pub returns-then-b-ge48 : goal.returns-then-b-ge48
unfolding is_digit between
returns-then-b-ge48 c = let b = c.args.b in sym (rw (le-leb 48 b c.if-b-ge48.true)) ∙ by b c.in-Digit.is

pub returns-else-b-ge48 : goal.returns-else-b-ge48
unfolding is_digit between
returns-else-b-ge48 c = let b = c.args.b in sym (rw (lt-leb 48 b c.if-b-ge48.false)) ∙ by b c.in-Digit.is

pub returns-in-Name : goal.returns-in-Name
returns-in-Name c = let b = c.args.b in c.is_name_byte.ensures ∙ by b c.in-Name.is

pub returns-then-is_name_byte : goal.returns-then-is_name_byte
unfolding is_word_byte
returns-then-is_name_byte c = let b = c.args.b in c.if-is_name_byte.true ∙ sym (rw (sym c.is_name_byte-in-Word.ensures ∙ c.if-is_name_byte.true)) ∙ by b c.in-Word.is

pub returns-else-is_name_byte : goal.returns-else-is_name_byte
unfolding is_word_byte
returns-else-is_name_byte c = let b = c.args.b in sym (rw (sym c.is_name_byte-in-Word.ensures ∙ c.if-is_name_byte.false)) ∙ by b c.in-Word.is

pub returns-in-Field : goal.returns-in-Field
returns-in-Field c = by c.args.b c.in-Field.is
