-- `cut_functions::from_stored` meets its contract: a shallow walk, the function that is stored, or a walk.
use Rattle.base.specs.{◌≡◌, sym, ◌∙◌, List, ℕ, ◌<◌, arith, rules, length, get_or, take, take_all}
use Rattle.base_words.specs.{function_of}
use Rattle.base_words.proofs.{function-fits}
use Rattle.cut_functions.proofs.ConeWalks.{early-more}
use Rattle.cut_functions.proofs.FunctionFills.{walked_recalled}
use Rattle.cut_functions.proofs.from_stored.Goals as goal

-- a function is a word
small : (w : List ℕ) (m u j f : ℕ) → f ≡ function_of w m u j → ((i : ℕ) → get_or w i 0 < 65536) → f < 65536
small w m u j f e h = omega (arith, function-fits w m u j 65536 h)

pub overflow_add-notes : goal.overflow_add-notes
overflow_add-notes c =
    let a = c.args in
    omega (arith, small a.work.now a.m a.u c.in-Some-same_cut.k _ c.function-f.ensures (λ i. omega (arith, c.type_inv.work i)))

pub overflow_cast-result : goal.overflow_cast-result
overflow_cast-result c =
    let a = c.args in
    omega (arith, small a.work.now a.m a.u c.in-Some-same_cut.k _ c.function-f.ensures (λ i. omega (arith, c.type_inv.work i)))

pub returns-in-Some-same_cut : goal.returns-in-Some-same_cut
returns-in-Some-same_cut c =
    let a = c.args in
    let n = c.in_default.ensures in
    let j = c.in-Some-same_cut.k in
    let found = c.in-Some-same_cut.ensures in
    let four : length a.leaves ≡ 4 = search rules in
    let all : take a.n a.leaves ≡ a.leaves = take_all a.n a.leaves (omega (arith, four, c.if-n-eq4.true)) in
    let capacity : a.u < length c.shallow.new.notes = omega (arith, c.requires.0.capacity.small, c.requires.5, n.early.long) in (
      walked_recalled c.requires.0 c.requires.5 c.requires.7 c.requires.3 found.0 (found.1 ∙ sym all) capacity
          (n.kept (omega arith) _ c.requires.1) c.function-f.ensures,
      early-more a.work.now a.m a.base a.u c.function-f.result _ capacity n.early
          (small a.work.now a.m a.u j _ c.function-f.ensures (λ i. omega (arith, c.type_inv.work i))),
    )

pub returns : goal.returns
returns c =
    let n = c.in_default.ensures in
    let few : c.recursive.result < 65536 = search rules in
    (c.recursive.ensures.walked few _ (n.kept (omega arith) _ c.requires.1), c.recursive.ensures.early)
