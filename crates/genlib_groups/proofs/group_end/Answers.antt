-- `genlib_groups::group_end` meets its contract, by the line and the lines behind it.
use Rattle.base.specs.{◌≡◌, refl, sym, ap, ◌∙◌, Bool, true, false, List, ◌∷◌, ℕ, ◌≤◌, ltb, length, drop, ltb-true, ltb-false, arith}
use Rattle.model.specs.{Line, Group, grouped, groups}
use Rattle.base_text.specs.{line_at}
use Rattle.base_text.proofs.{lines_at_lem, lines_none}
use Rattle.genlib_groups.specs.{lines_of, group_at, start_of, behind_group}
use Rattle.genlib_groups.proofs.GenlibLineLaws.{bounded}
use Rattle.genlib_groups.proofs.group_end.Goals as goal

-- the groups from a place on begin there
starts-there : (s : List ℕ) (r : ℕ) → r ≤ length s → r ≡ start_of (length s) (groups (lines_of s r))
unfolding start_of groups
starts-there s r h = go (ltb r (length s)) refl
  where
    go : (b : Bool) → ltb r (length s) ≡ b → r ≡ start_of (length s) (groups (lines_of s r))
    go true e = unfold line_at start_of groups in sym (ap (λ (ls : List Line). start_of (length s) (groups ls)) (lines_at_lem s r (ltb-true r (length s) e)))
    go false e =
        let last : r ≡ length s = omega (arith, ltb-false r (length s) e) in
        unfold start_of groups in last ∙ sym (ap (λ (ls : List Line). start_of (length s) (groups ls)) (lines_none s r (omega (arith, last))))

behind : (s : List ℕ) (at r : ℕ) → r ≤ length s → groups (lines_of s at) ≡ group_at s at ∷ groups (lines_of s r) → r ≡ behind_group s at
unfolding behind_group
behind s at r h e = starts-there s r h ∙ sym (ap (λ (gs : List Group). start_of (length s) (drop 1 gs)) e)

pub next_gate-requires : goal.next_gate-requires
next_gate-requires c = (bounded _ _ c.requires _ c.line-l.ensures).within

pub returns : goal.returns
unfolding groups group_at
returns c =
    let s = c.args in
    let b = bounded _ _ c.requires _ c.line-l.ensures in
    let n = c.next_gate.ensures in
    let next : groups (lines_of s.s.now s.at) ≡ group_at s.s.now s.at ∷ groups (lines_of s.s.now c.next_gate.result) =
    rw b.lines (ap (λ (x : List Group). record { head = line_at s.s.now s.at; lines = (grouped (lines_of s.s.now c.line-l.result.next)).0 } ∷ x) n.2) in
    (omega (arith, b.later, n.0), n.1, next, behind s.s.now s.at c.next_gate.result n.1 next)
