-- `graph_order::next_ready` meets its contract: the lowest mark, or none below where the ANDs are passed to.
use Rattle.base.specs.{refl, ap, ◌∙◌, subst, arith}
use Rattle.graph_order.specs.{in_graph, Next}
use Rattle.graph_order.proofs.ReadySearch.{in_graph-some}
use Rattle.graph_order.proofs.UserLists.{next-marked, next-passed}
use Rattle.graph_order.proofs.next_ready.Goals as goal

pub returns-then-low-scan : goal.returns-then-low-scan
returns-then-low-scan c =
    let a = c.args in
    let n = next-marked _ _ _ _ _ _ c.requires.0 c.requires.2 c.requires.3 (omega (arith, c.lowest-low.ensures, c.if-low-scan.true)) in
    record {
      answer = in_graph-some _ _ (omega (arith, c.requires.2.under, c.if-low-scan.true)) ∙ ap (in_graph a.m) (c.lowest-low.ensures ∙ n.next);
      next = subst (Next a.m a.work.now a.scan a.heads.now a.links.now a.bits.now) n.next n;
    }

pub returns : goal.returns
returns c =
    let a = c.args in
    let f = c.first_ready.ensures in
    let n = next-passed _ _ _ _ _ _ c.requires.0 c.requires.2 c.requires.3 _ _ _ refl f.passed f.kept (omega (arith, c.lowest-low.ensures, c.if-low-scan.false)) in
    record {
      answer = f.answer ∙ ap (in_graph a.m) n.next;
      next = subst (Next a.m a.work.now a.scan c.first_ready.new.heads c.first_ready.new.links a.bits.now) n.next n;
    }
