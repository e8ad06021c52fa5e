-- `base_text::Cursor::table` meets its contract: the field is the part of the text that `hex_of` validates.
use Rattle.base.specs.{sym, ◌∙◌, arith}
use Rattle.model.specs.{hex_table}
use Rattle.base_text.specs.{table_at}
use Rattle.base_text.proofs.TextWords.{word_out, end_le, end-from, found_at, not_at}
use Rattle.base_text.proofs.Hex.{table_empty}
use Rattle.base_text.proofs.Cursor.table.Goals as goal

pub returns-then-s-from : goal.returns-then-s-from
unfolding table_at
returns-then-s-from c = rw (word_out _ _ c.if-s-from.true, table_empty)

pub slice_bounds-hex_of-count : goal.slice_bounds-hex_of-count
slice_bounds-hex_of-count c = omega (arith, c.field_end-end.ensures, end-from c.args.s.now c.args.self.at)

pub slice_bounds-hex_of-start : goal.slice_bounds-hex_of-start
slice_bounds-hex_of-start c = omega (arith, c.field_end-end.ensures, end-from c.args.s.now c.args.self.at)

pub slice_bounds-hex_of-end : goal.slice_bounds-hex_of-end
slice_bounds-hex_of-end c = omega (arith, c.field_end-end.ensures, end_le c.args.s.now c.args.self.at (omega arith))

pub returns-in_err-n : goal.returns-in_err-n
unfolding table_at
returns-in_err-n c = c.from_residual.ensures ∙ not_at hex_table _ _ _ c.field_end-end.ensures (sym c.in_err-n.ensures)

pub returns : goal.returns
unfolding table_at
returns c = found_at hex_table _ _ _ c.field_end-end.ensures _ (sym c.in_ok-n.ensures)
