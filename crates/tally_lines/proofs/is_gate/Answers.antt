-- `tally_lines::is_gate` meets its contract: by steps over its fields behind `.gate`. An array has eight bytes, so no name is longer.
use Rattle.base.specs.{arith, ◌≡◌, refl, sym, ap, ◌∙◌, List, ℕ, length, take, drop, take_all, rules, min, Bool, true, false, leb, leb-true, leb-false}
use Rattle.model.specs.{same, gate_form}
use Rattle.tally_lines.specs.{step_at, kind_test}
use Rattle.tally_lines.proofs.NetlistLineForms.{form_is}
use Rattle.tally_lines.proofs.GateLineForms.{gate_steps}
use Rattle.tally_lines.proofs.is_gate.Goals as goal
use Rattle.tally_lines.proofs.is_gate.Goals.{After-word-a}

-- as many bytes of eight as there are
taken : (len n : ℕ) (name : List ℕ) → length name ≡ 8 → n ≡ min len 8 → take n name ≡ take len name
taken len n name eight e = go (leb len 8) refl
  where
    go : (t : Bool) → leb len 8 ≡ t → take n name ≡ take len name
    go true q = let k : n ≡ len = omega (arith, leb-true len 8 q) in ap (λ (i : ℕ). take i name) k
    go false q = take_all n name (omega (arith, leb-false len 8 q)) ∙ sym (take_all len name (omega (arith, leb-false len 8 q)))

-- past the name
named : (c : After-word-a) → let a = c.args in c.word-a.result ≡ step_at (same (take a.c.len a.c.name)) a.w.now a.at
named c =
    let a = c.args in
    let name = a.c.name in
    let n = c.min.result in
    let eight : length name ≡ 8 = search rules in
    c.word-a.ensures ∙ ap (λ (x : List ℕ). step_at (same x) a.w.now a.at) (taken a.c.len n name eight c.min.ensures)

pub returns : goal.returns
unfolding kind_test
returns c =
    let a = c.args in
    let n = named (goal.at.returns c).After-word-a in
    form_is (drop 1 (gate_form a.c)) a.w.now a.at (omega arith) c.field-o.result
    (gate_steps a.c a.w.now a.at c.word-a.result c.pins-b.result c.field-o.result n c.pins-b.ensures c.field-o.ensures)
