-- `genlib_call::convert` meets its contract: 1, 22 to 24, 18, or the text.
use Rattle.base.specs.{◌≡◌, sym, ◌∙◌, arith, ℕ, List, length}
use Rattle.model.specs.{genlib_text, written_answer, written_after, Written}
use Rattle.promises.specs.{Conversion}
use Rattle.theory_calls.proofs.{text-written}
use Rattle.theory_genlib.proofs.{demand_genlib}
use Rattle.theory_genlib_refusals.proofs.{demand_genlib_refusals}
use Rattle.genlib_call.specs.{text_for}
use Rattle.model.proofs.{handed_on}
use Rattle.genlib_call.proofs.GatePasses.{too_long, refused, over, fine, text-long, refuses, writes}
use Rattle.genlib_call.proofs.convert.Goals as goal

converted : (genlib text : List ℕ) (answer : Written) (left : List ℕ) → answer ≡ written_answer (genlib_text genlib (length text)) → left ≡ written_after (genlib_text genlib (length text)) text
    → Conversion genlib text answer left
converted genlib text answer left a b =
    record { memory = text-written (genlib_text genlib (length text)) text answer left a b; cells = demand_genlib genlib (length text); refusals = demand_genlib_refusals genlib (length text) }

pub returns-then-genlib-gt65536 : goal.returns-then-genlib-gt65536
returns-then-genlib-gt65536 c =
    let a = c.args in
    let r = refuses _ 1 0 a.text.now (too_long a.genlib.now (length a.text.now) c.if-genlib-gt65536.true) in
    converted a.genlib.now a.text.now _ _ r.0 r.1

pub returns-then-text-n : goal.returns-then-text-n
returns-then-text-n c =
    let a = c.args in
    let long = sym c.in_ok-n.ensures in
    let r = refuses _ 18 _ a.text.now (over a.genlib.now (length a.text.now) c.if-genlib-gt65536.false _ long c.if-text-n.true) in
    converted a.genlib.now a.text.now _ _ r.0 r.1

pub write-requires : goal.write-requires
write-requires c =
    let a = c.args in
    let short = c.if-genlib-gt65536.false in
    let long = sym c.in_ok-n.ensures in
    (short, omega (arith, c.if-text-n.false, text-long a.genlib.now (length a.text.now) short _ long))

pub returns : goal.returns
returns c =
    let a = c.args in
    let g = a.genlib.now in
    let room = length a.text.now in
    let w = c.write in
    let long = sym c.in_ok-n.ensures in
    let r = writes _ (text_for g) a.text.now w.new.out w.result (fine g room c.if-genlib-gt65536.false _ long c.if-text-n.false) w.ensures in
    converted g a.text.now _ _ r.0 r.1

pub returns-in_err-n : goal.returns-in_err-n
returns-in_err-n c =
    let a = c.args in
    let told = sym c.in_err-n.ensures in
    let x = c.in_err-n.field-0.0 in
    let same = handed_on _ x c.from_residual.ensures.1 in
    let r = refuses _ x.number x.place a.text.now (refused a.genlib.now (length a.text.now) c.if-genlib-gt65536.false _ _ told) in
    converted a.genlib.now a.text.now _ _ (same ∙ r.0) r.1
