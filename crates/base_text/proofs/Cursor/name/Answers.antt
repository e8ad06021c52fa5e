-- `base_text::Cursor::name` meets its contract: the field is the part of the text that `is_name` validates.
use Rattle.base.specs.{refl, sym, ◌∙◌, arith, []}
use Rattle.model.specs.{is_name}
use Rattle.base_text.specs.{name_at}
use Rattle.base_text.proofs.TextWords.{word_out, end_le, end-from, passes_at, fails_at}
use Rattle.base_text.proofs.NameBytes.{name-empty}
use Rattle.base_text.proofs.Cursor.name.Goals as goal

pub returns-then-s-from : goal.returns-then-s-from
unfolding name_at
returns-then-s-from c = rw (word_out _ _ c.if-s-from.true, name-empty [] refl)

pub slice_bounds-is_name-count : goal.slice_bounds-is_name-count
slice_bounds-is_name-count c = omega (arith, c.field_end-end.ensures, end-from c.args.s.now c.args.self.at)

pub slice_bounds-is_name-start : goal.slice_bounds-is_name-start
slice_bounds-is_name-start c = omega (arith, c.field_end-end.ensures, end-from c.args.s.now c.args.self.at)

pub slice_bounds-is_name-end : goal.slice_bounds-is_name-end
slice_bounds-is_name-end c = omega (arith, c.field_end-end.ensures, end_le c.args.s.now c.args.self.at (omega arith))

pub returns-then-is_name : goal.returns-then-is_name
unfolding name_at
returns-then-is_name c = passes_at is_name _ _ _ c.field_end-end.ensures (sym c.is_name.ensures ∙ c.if-is_name.true)

pub returns : goal.returns
unfolding name_at
returns c = fails_at is_name _ _ _ c.field_end-end.ensures (sym c.is_name.ensures ∙ c.if-is_name.false)
