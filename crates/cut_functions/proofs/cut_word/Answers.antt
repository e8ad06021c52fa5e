-- `cut_functions::cut_word` meets its contract: a leaf, no AND, or the AND of both operands.
use Rattle.base.specs.{◌≡◌, sym, ◌∙◌, List, ℕ, ◌+◌, ◌/◌, ◌<◌, arith, rules, take}
use Rattle.base_words.specs.{and_kind, kind_at, position_at}
use Rattle.cut_functions.specs.{Early, Walked, cut_word}
use Rattle.cut_functions.proofs.ConeWalks.{walked-known, walked_none, and-found, moved}
use Rattle.cut_functions.proofs.cut_word.Goals as goal
use Rattle.cut_functions.proofs.cut_word.Goals.{in-Some, in-None, in-Some-from_leaves, in-None-from_leaves}

pub returns-then-base-t : goal.returns-then-base-t
unfolding cut_word
returns-then-base-t c =
    let place = position_at c.args.work.now c.args.m c.args.v in
    ((walked-known c.requires.0.inside c.requires.1 c.requires.0.alive c.if-base-t.true).table place (omega arith), c.requires.2)

pub returns-then-kind-ne-AND : goal.returns-then-kind-ne-AND
unfolding cut_word
returns-then-kind-ne-AND c =
    let place = position_at c.args.work.now c.args.m c.args.v in
    let none = walked_none c.requires.0.inside c.requires.1 c.requires.0.alive c.if-base-t.false (λ h. c.if-kind-ne-AND.true (c.requires.5 ∙ h)) in
    (none.table place (omega arith), c.requires.2)

-- what the walk from an operand u of v answers and leaves
Met : List ℕ → ℕ → List ℕ → ℕ → ℕ → List ℕ → ℕ → Type 0
Met w m ls base u out x = Walked w m ls base u out x × Early m (base + 65536) out

pub returns : goal.returns
unfolding cut_word Met
returns c =
    let a = c.args in
    let p = c.requires.0 in
    let ls : List ℕ = take a.n a.leaves in
    let place = position_at a.work.now a.m a.v in
    let is-and : kind_at a.work.now a.m a.v ≡ and_kind = sym c.requires.5 ∙ c.if-kind-ne-AND.false in
    let first : Met a.work.now a.m ls a.base (a.l / 2) c.match-from_leaves.notes c.match-from_leaves.p =
    elim c.match-from_leaves.branch [
      | in-Some w ↦
          let small : w.in-Some.x < 65536 = search rules in
          moved (Met a.work.now a.m ls a.base (a.l / 2)) w.notes-is w.p-is (w.in-Some.ensures.walked small _ c.requires.1, w.in-Some.ensures.early)
      | in-None w ↦ moved (Met a.work.now a.m ls a.base (a.l / 2)) w.notes-is w.p-is w.from_stored-p.ensures
    ] in
    let second : Met a.work.now a.m ls a.base (a.r / 2) c.match-from_leaves-2.notes c.match-from_leaves-2.q =
    elim c.match-from_leaves-2.branch [
      | in-Some-from_leaves w ↦
          let small : w.in-Some-from_leaves.y < 65536 = search rules in
          moved (Met a.work.now a.m ls a.base (a.r / 2)) w.notes-is w.q-is
          (w.in-Some-from_leaves.ensures.walked small _ first.0.noted, w.in-Some-from_leaves.ensures.early)
      | in-None-from_leaves w ↦ moved (Met a.work.now a.m ls a.base (a.r / 2)) w.notes-is w.q-is w.from_stored-q.ensures
    ] in (
      and-found p.inside c.requires.1 p.ordered is-and c.if-base-t.false c.requires.6 c.requires.7 first.0 second.0 c.and_word.ensures place (omega arith),
      second.1,
    )
