-- `mapper::map_texts` meets its contract: demand 1 from the functions below it, what is promised of the definitions from their laws.
use Rattle.base.specs.{arith, inl, inr, sym, ◌∙◌, ap, Bool, length}
use Rattle.model.specs.{call_of}
use Rattle.model.proofs.{handed_on}
use Rattle.mapper.specs.{library_for}
use Rattle.mapper.proofs.CallEnds.{left_as}
use Rattle.mapper.proofs.MapLaws.{memory_of, mapping_of, long-text, library-stops, library-heard}
use Rattle.mapper.proofs.map_texts.Goals as goal

pub returns-then-cells-gt65536 : goal.returns-then-cells-gt65536
returns-then-cells-gt65536 c = mapping_of
    (long-text _ _ _ _ _ _ (λ x y z. elim c.then-cells-gt65536.either [ inl w ↦ omega arith | inr w ↦ elim w [ inl v ↦ omega arith | inr v ↦ omega arith ] ]))

pub map_cells-requires : goal.map_cells-requires
map_cells-requires c =
    let s = c.args in
    (library-heard s.paired s.cells.now s.graph.now s.arrivals.now s.work.now s.text.now (omega arith) (omega arith) (omega arith) c.read.result
    c.read.ensures.answer _ c.in_ok-lib.was).ok

pub returns : goal.returns
returns c =
    let h = c.map_cells in
    let s = c.args in
    let call = call_of s.paired s.cells.now s.graph.now s.arrivals.now s.work.now s.text.now in
    let r = library-heard s.paired s.cells.now s.graph.now s.arrivals.now s.work.now s.text.now (omega arith) (omega arith) (omega arith) c.read.result
    c.read.ensures.answer _ c.in_ok-lib.was in
    let answered = ap (λ (b : Bool). library_for s.paired b c.in_ok-lib.lib s.graph.now s.arrivals.now (length s.work.now) (length s.text.now))
    (sym c.is_ranged-ranged.ensures) in
    let m = memory_of call s.work.now s.text.now h.result h.new.work h.new.text (left_as (r.goes ∙ answered) h.ensures) in
    mapping_of m

pub returns-in_err-lib : goal.returns-in_err-lib
returns-in_err-lib c =
    rw (handed_on _ _ c.from_residual.ensures.1)
    (mapping_of (library-stops _ _ _ _ _ _ (omega arith) (omega arith) (omega arith) _ c.read.ensures.answer _ _ c.in_err-lib.was))
