-- `program_files::end` meets its contract.
use Rattle.std.specs.Prelude.{unwrap_or, Option}
use Rattle.base.specs.{◌≡◌, sym, ap, ◌∙◌, arith, ℕ, ◌+◌, ◌-◌, drop, take, take_all, length, length-drop}
use Rattle.program_files.specs.{before, end_from}
use Rattle.program_files.proofs.FileEnds.{before_position, end-past, end-within}
use Rattle.program_files.proofs.end.Goals as goal

pub returns-then-s-from : goal.returns-then-s-from
returns-then-s-from c =
    let e = sym (end-past c.args.s.now c.args.from c.if-s-from.true) in
    (e, omega arith, omega arith)

pub returns : goal.returns
unfolding end_from
returns c =
    let rest = drop c.args.from c.args.s.now in
    let text = take (length c.args.s.now - c.args.from) rest in
    let whole : text ≡ rest = take_all _ rest (omega (arith, length-drop c.args.from c.args.s.now)) in
    let e : c.unwrap_or.result ≡ before rest =
    c.unwrap_or.ensures ∙ ap (λ (o : Option ℕ). unwrap_or o (length text)) c.first_zero.ensures ∙ before_position text ∙ ap before whole in
    (ap (λ (n : ℕ). c.args.from + n) e, omega arith, omega (arith, e, (end-within c.args.s.now c.args.from).1))
