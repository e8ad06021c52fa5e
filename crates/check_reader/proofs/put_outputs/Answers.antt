-- `check_reader::put_outputs` meets its contract. The invariant: the first i names are written.
use Rattle.base.specs.{◌≡◌, ap, ◌∙◌, List, ◌∷◌, ◌++◌, ℕ, ◌+◌, ◌-◌, ◌<◌, arith}
use Rattle.model.specs.{decimal, out_name}
use Rattle.base_text.proofs.{begin, step, capacity, kept, end}
use Rattle.check_reader.specs.{names_from}
use Rattle.check_reader.proofs.OutputNames.{names-next, names-none, out_is}
use Rattle.check_reader.proofs.put_outputs.Goals as goal

-- the names behind number i
abbrev later : ℕ → ℕ → List ℕ
later n i = names_from out_name (i + 1) (n - (i + 1))

-- the next name, and those behind it
next-name : (n i : ℕ) → i < n → names_from out_name i (n - i) ≡ (32 ∷ 111 ∷ decimal i) ++ later n i
next-name n i h = names-next out_name n i h ∙ ap (λ (w : List ℕ). (32 ∷ w) ++ later n i) (out_is i)

pub loop-i-init : goal.loop-i-init
loop-i-init c =
    let a = c.args in
    let e : a.n ≡ a.n - 0 = omega arith in
    begin a.out.now a.at (ap (names_from out_name 0) e)

pub put_word-next-requires : goal.put_word-next-requires
put_word-next-requires c =
    let n = c.args.n in let i = c.loop-i.i in
    capacity c.requires.1 c.loop-i.invariant (32 ∷ 111 ∷ decimal i) (later n i) (next-name n i c.loop-i-test.true)

pub loop-i-preserved : goal.loop-i-preserved
loop-i-preserved c =
    let n = c.args.n in let i = c.loop-i.i in
    step c.requires.1 c.loop-i.invariant c.put_word-next.new.out c.put_word-next.result
    (32 ∷ 111 ∷ decimal i) (later n i) (next-name n i c.loop-i-test.true) c.put_word-next.ensures

pub shape_of-out : goal.shape_of-out
shape_of-out c = kept c.requires.1 c.loop-i.invariant

pub returns : goal.returns
returns c = end c.requires.1 c.loop-i.invariant (names-none out_name c.args.n c.loop-i.i c.loop-i-test.false)
