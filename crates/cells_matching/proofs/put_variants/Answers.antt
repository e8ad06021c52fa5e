-- `cells_matching::put_variants` meets its contract. The invariant: the variants from a run of orders on are on the match table.
use Rattle.base.specs.{◌≡◌, ap, subst, ◌∙◌, ℕ, ◌+◌, ◌-◌, ◌*◌, ◌/◌, ◌%◌, ◌<◌, ◌≤◌, List, add-zero, arith, length}
use Rattle.cells_matching.specs.{run_of, passed}
use Rattle.cells_matching.proofs.FirstVariants.{run_some, runs_all, runs_left}
use Rattle.cells_matching.proofs.BucketLinks.{passed_none, passed-long}
use Rattle.cells_matching.proofs.VariantStores.{runs_next}
use Rattle.cells_matching.proofs.put_variants.Goals as goal

-- what is left where one run more is put
module _ (pins table line : ℕ) (s : List ℕ) (run i : ℕ) (is : run ≡ run_of pins) (some : 0 < i) (few : i ≤ 24 / run) where
  few_of : i ≤ 24 / run_of pins
  few_of = rw is at few

  falls : (i - 1) * run < 24
  falls = rw is (let r = runs_left pins i some few_of in omega (arith, r.0, r.1, r.3))

  left : (i - 1) * run % run_of pins ≡ 0
  left = rw is (runs_left pins i some few_of).4

  next : passed pins table (384 * line + 16 * ((i - 1) * run)) 16 (passed pins table (384 * line + 16 * (i * run)) (384 - 16 * (i * run)) s)
      ≡ passed pins table (384 * line + 16 * ((i - 1) * run)) (384 - 16 * ((i - 1) * run)) s
  next = rw is (
      let r = runs_left pins i some few_of in
      let P : ℕ → Type 0 = λ o. passed pins table (384 * line + 16 * o) 16 (passed pins table (384 * line + 16 * (i * run_of pins)) (384 - 16 * (i * run_of pins)) s)
      ≡ passed pins table (384 * line + 16 * o) (384 - 16 * o) s in
      subst P r.3 (runs_next pins table line (i * run_of pins) s r.0 r.1 r.2))

pub overflow_step-i : goal.overflow_step-i
overflow_step-i c = omega (arith, c.run_of-run.ensures, run_some c.args.pins)

pub loop-i-init : goal.loop-i-init
loop-i-init c =
    let a = c.args in
    let r = c.run_of-run in
    let whole : 24 / r.result * r.result ≡ 24 = rw r.ensures (runs_all a.pins) in
    rw whole (passed_none a.pins a.table (384 * a.line + 384) a.matches.now)

pub overflow_mul-i : goal.overflow_mul-i
overflow_mul-i c =
    let a = c.args in
    let l = c.loop-i in
    let r = c.run_of-run in
    omega (arith, falls a.pins a.table a.line a.matches.now r.result l.i r.ensures c.loop-i-test.true (omega arith))

pub put_order-requires : goal.put_order-requires
put_order-requires c =
    let a = c.args in
    let l = c.loop-i in
    let r = c.run_of-run in
    let t = c.loop-i-test.true in
    let same = ap length l.invariant ∙ passed-long a.pins a.table (384 * a.line + 16 * (l.i * r.result)) (384 - 16 * (l.i * r.result)) a.matches.now in (
      c.requires.0,
      c.requires.1,
      falls a.pins a.table a.line a.matches.now r.result l.i r.ensures t (omega arith),
      left a.pins a.table a.line a.matches.now r.result l.i r.ensures t (omega arith),
      omega (arith, c.requires.2, same),
    )

pub loop-i-preserved : goal.loop-i-preserved
loop-i-preserved c =
    let a = c.args in
    let l = c.loop-i in
    let r = c.run_of-run in
    c.put_order.ensures ∙ ap (passed a.pins a.table (384 * a.line + 16 * ((l.i - 1) * r.result)) 16) l.invariant
    ∙ next a.pins a.table a.line a.matches.now r.result l.i r.ensures c.loop-i-test.true (omega arith)

pub shape_of-matches : goal.shape_of-matches
shape_of-matches c =
    let a = c.args in
    let l = c.loop-i in
    let r = c.run_of-run in
    ap length l.invariant ∙ passed-long a.pins a.table (384 * a.line + 16 * (l.i * r.result)) (384 - 16 * (l.i * r.result)) a.matches.now

pub returns : goal.returns
returns c =
    let a = c.args in
    let l = c.loop-i in
    let r = c.run_of-run in
    let z : l.i ≡ 0 = omega (arith, c.loop-i-test.false) in
    let none : l.i * r.result ≡ 0 = ap (λ (n : ℕ). n * r.result) z ∙ omega arith in
    l.invariant
    ∙ ap (λ (o : ℕ). passed a.pins a.table (384 * a.line + 16 * o) (384 - 16 * o) a.matches.now) none
    ∙ ap (λ (x : ℕ). passed a.pins a.table x 384 a.matches.now) (add-zero (384 * a.line))
