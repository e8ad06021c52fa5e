-- `from_genlib::convert_file` is safe: the length that `convert` answers is within text memory.
use Rattle.std.specs.Prelude.{◌≡◌}
use Rattle.base.specs.{ℕ, arith, refl, sym, ◌∙◌, List, length-take}
use Rattle.model.specs.{Read, holds, fault, written_answer, Written}
use Rattle.promises.specs.{TextWritten}
use Rattle.genlib_call.proofs.{length-within}
use Rattle.from_genlib.proofs.convert_file.Goals as goal

-- the answer is the outcome's
answered : (o : Read (List ℕ)) {text left : List ℕ} {a : Written} → TextWritten o text a left → a ≡ written_answer o
unfolding written_answer
answered (holds t) w = w.success t refl
answered (fault n k) w = w.refusal n k refl

pub slice_bounds-put-end : goal.slice_bounds-put-end
slice_bounds-put-end g c =
    let h = length-within c.args.genlib.now _ _ (sym c.in-Ok.is ∙ answered _ c.convert.ensures.memory) in omega arith

pub slice_bounds-put-end-in-Ok : goal.slice_bounds-put-end-in-Ok
slice_bounds-put-end-in-Ok g c =
    let h = length-within c.args.genlib.now _ _ (sym c.in-Ok.is ∙ answered _ c.convert.ensures.memory) in
    omega (arith, length-take c.in-Ok.n c.convert.new.text)
