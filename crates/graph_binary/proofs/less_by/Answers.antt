-- `graph_binary::less_by` meets its contract: each return knows the difference that was found, and the tests that led there.
use Rattle.base.specs.{◌≡◌, ◌&&◌, false, eqb, arith, sym, ◌∙◌, inl, inr, ne_eqb}
use Rattle.graph_binary.proofs.BinaryGates.{less_broken, less_zero, less_over, less_is}
use Rattle.graph_binary.proofs.less_by.Goals as goal
use Rattle.graph_binary.proofs.less_by.Goals.{then-d-n-via-then-d-n, then-d-n-via-else-d-n+then-d-eq0}

pub returns-then-d-n : goal.returns-then-d-n
returns-then-d-n c =
    let found = sym c.difference.ensures ∙ c.in-Some.is in
    elim c.then-d-n.branch [
      | then-d-n-via-then-d-n w ↦ less_over _ _ _ _ _ _ found (omega (arith, c.from-d.ensures, w.if-d-n.true))
      | then-d-n-via-else-d-n+then-d-eq0 w ↦ less_zero _ _ _ _ _ _ found w.if-d-eq0.true.0 (omega (arith, c.from-d.ensures, w.if-d-eq0.true.1))
    ]

pub returns : goal.returns
returns c =
    let found = sym c.difference.ensures ∙ c.in-Some.is in
    let zero : (c.args.first && eqb c.from-d.result 0) ≡ false = elim c.if-d-eq0.either [ inl e ↦ rw (e.0, ne_eqb c.from-d.result 0 e.1) | inr e ↦ rw e ] in
    rw c.from-d.ensures (less_is _ _ _ _ _ _ found (rw c.from-d.ensures at zero) (omega (arith, c.from-d.ensures, c.if-d-n.false)))

pub returns-in_default : goal.returns-in_default
returns-in_default c = less_broken _ _ _ _ (sym c.difference.ensures ∙ c.in_default.is)
