-- `cut_functions::from_leaves` meets its contract: what is noted, what is no AND, and an AND whose operands are noted.
use Rattle.base.specs.{◌≡◌, sym, ◌∙◌, ◌/◌, ◌<◌, refl, rules}
use Rattle.base_words.specs.{and_kind, kind_at}
use Rattle.cut_functions.proofs.ConeWalks.{Operand, left_operand, right_operand, found-known, found_none, from-leaves-found, from-leaves-and}
use Rattle.cut_functions.proofs.from_leaves.Goals as goal

pub returns-then-base-t : goal.returns-then-base-t
returns-then-base-t c = from-leaves-found (found-known c.requires.3 c.requires.1 c.requires.4 c.if-base-t.true)

pub returns-then-kind-ne-AND : goal.returns-then-kind-ne-AND
returns-then-kind-ne-AND c =
    from-leaves-found (found_none c.requires.3 c.requires.1 c.requires.4 c.if-base-t.false (λ h. c.if-kind-ne-AND.true (c.kind.ensures ∙ h)))

pub returns : goal.returns
returns c =
    let a = c.args in
    let is-and : kind_at a.work.now a.m a.u ≡ and_kind = sym c.kind.ensures ∙ c.if-kind-ne-AND.false in
    let l : Operand a.work.now a.m a.u (c.left-l.result / 2) = left_operand c.requires.0 c.requires.3 is-and c.left-l.ensures in
    let r : Operand a.work.now a.m a.u (c.right-r.result / 2) = right_operand c.requires.0 c.requires.3 is-and c.right-r.ensures in
    let small : c.note_and.result < 65536 = search rules in
    from-leaves-and c.requires.3 c.requires.0 is-and c.if-base-t.false c.left-l.ensures c.right-r.ensures
    (found-known l.inside c.requires.1 l.alive c.if-x-base.false) (found-known r.inside c.requires.1 r.alive c.if-y-base.false)
    c.note_and.ensures.0 small c.note_and.ensures.1 refl
