-- `genlib_expression::next_token` meets its contract, by what its two calls say.
use Rattle.genlib_expression.proofs.next_token.Goals as goal

pub returns : goal.returns
returns c = rw (c.token_end-to.ensures, c.span_end-from.ensures)
