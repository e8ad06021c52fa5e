-- `check_call::check_texts` meets its contract: demand 1 from the functions below it, what the answer means from the definitions' law.
use Rattle.base.specs.{ℕ, arith, List, length}
use Rattle.model.specs.{CheckMemory, Checked}
use Rattle.promises.specs.{NetlistCheck}
use Rattle.theory_calls.proofs.{checked_memory}
use Rattle.theory_check.proofs.{check_exactly, edited_compared, edited_meant, edited_equal, printed-accepted}
use Rattle.model.proofs.{handed_on}
use Rattle.check_call.proofs.CheckStages.{long-text, library-stops, library-read}
use Rattle.check_call.proofs.check_texts.Goals as goal
use Rattle.check_call.proofs.check_texts.Goals.{then-cells-gt65536-via-then-cells-gt65536}
use Rattle.check_call.proofs.check_texts.Goals.{then-cells-gt65536-via-else-cells-gt65536+then-graph-gt65536}
use Rattle.check_call.proofs.check_texts.Goals.{then-cells-gt65536-via-else-cells-gt65536+else-graph-gt65536+then-netlist-gt65536}

-- what is promised of the definitions' answer, whatever is returned
said : (library graph netlist work : List ℕ) (answer : Checked) (left : List ℕ) → CheckMemory library graph netlist work answer left → NetlistCheck library graph netlist work answer left
said library graph netlist work answer left m = record {
  memory = checked_memory library graph netlist work answer left m;
  promised =
      record {
        compared = edited_compared library graph netlist (length work);
        meant = edited_meant library graph netlist (length work);
        equal = edited_equal library graph netlist (length work);
        accepts = printed-accepted library graph netlist (length work);
      };
  refusals = check_exactly library graph netlist (length work);
}

pub returns-then-cells-gt65536 : goal.returns-then-cells-gt65536
returns-then-cells-gt65536 c =
    let a = c.args in
    said a.cells.now a.graph.now a.netlist.now a.work.now _ _
    (long-text a.cells.now a.graph.now a.netlist.now a.work.now (λ x y z. elim c.then-cells-gt65536.branch [
      | then-cells-gt65536-via-then-cells-gt65536 w ↦ omega arith
      | then-cells-gt65536-via-else-cells-gt65536+then-graph-gt65536 w ↦ omega arith
      | then-cells-gt65536-via-else-cells-gt65536+else-graph-gt65536+then-netlist-gt65536 w ↦ omega arith
    ]))

pub check_header-requires : goal.check_header-requires
check_header-requires c =
    let a = c.args in
    let r = library-read a.cells.now a.graph.now a.netlist.now a.work.now (omega arith) (omega arith) (omega arith) c.read.result
    c.read.ensures.answer _ c.in_ok-lib.was in
    (r.fitting, omega arith)

pub returns : goal.returns
returns c =
    let a = c.args in
    let r = library-read a.cells.now a.graph.now a.netlist.now a.work.now (omega arith) (omega arith) (omega arith) c.read.result
    c.read.ensures.answer _ c.in_ok-lib.was in
    said a.cells.now a.graph.now a.netlist.now a.work.now _ _ (r.goes _ _ c.check_header.ensures)

pub returns-in_err-lib : goal.returns-in_err-lib
returns-in_err-lib c =
    let a = c.args in
    rw (handed_on _ _ c.from_residual.ensures.1)
    (said a.cells.now a.graph.now a.netlist.now a.work.now _ _
    (library-stops a.cells.now a.graph.now a.netlist.now a.work.now (omega arith) (omega arith) (omega arith) c.read.result
    c.read.ensures.answer _ _ c.in_err-lib.was))
