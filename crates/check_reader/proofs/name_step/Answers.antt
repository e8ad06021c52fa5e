-- `check_reader::name_step` meets its contract: each return knows which line was met.
use Rattle.base.specs.{◌≡◌, refl, sym, ◌∙◌, ap, subst, ℕ, ◌+◌, ◌*◌, arith, None, Some}
use Rattle.std.proofs.lemmas.Result.{err_from_is_err_and}
use Rattle.model.specs.{text}
use Rattle.base_words.specs.{put_at}
use Rattle.base_text.specs.{line_at}
use Rattle.check_reader.specs.{gate_words, Stands, Missed}
use Rattle.check_reader.proofs.StoredDrivers.{stop_from, stop_next, line-next, line-long}
use Rattle.check_reader.proofs.ExpectedNetLines.{expected-past}
use Rattle.check_reader.proofs.NameLineReading.{name-none, name-some, name-long, names-missing, names-broken, row-broken, row_fine}
use Rattle.check_reader.proofs.name_step.Goals as goal

pub returns-then-at-end : goal.returns-then-at-end
returns-then-at-end c = let a = c.args in (refl, names-missing a.s.now a.k a.at c.if-at-end.true)

pub name_at-requires : goal.name_at-requires
name_at-requires c = (c.requires.0, omega (arith, c.if-at-end.false), c.line-line.ensures)

pub returns-in_err-net : goal.returns-in_err-net
returns-in_err-net c =
    let a = c.args in let p = err_from_is_err_and c.from_residual.result c.from_residual.ensures.1 in
    let no : c.name_at.result ≡ None = grind arith in
    let here : c.in_err-net.field-0.0 ≡ a.at = grind arith in
    rw (p.1, p.2, here) (refl, names-broken a.s.now a.k a.at c.if-at-end.false (name-none a.k (line_at a.s.now a.at) (sym c.name_at.ensures ∙ no)))

pub returns-in_err-row : goal.returns-in_err-row
unfolding text
returns-in_err-row c =
    let a = c.args in let s = a.s.now in let p = err_from_is_err_and c.from_residual-in_err-row.result c.from_residual-in_err-row.ensures.1 in
    let is : c.name_at.result ≡ Some c.in_ok-net.net = grind arith in
    let d = name-some a.k (line_at s a.at) c.in_ok-net.net (sym c.name_at.ensures ∙ is) in
    let behind = line-next s a.at c.line-line.result c.line-line.ensures in
    rw (p.1, p.2) (
      refl,
      row-broken s a.k a.at c.if-at-end.false d.0 d.1 d.2 c.in_err-row.field-0.0
          (subst (λ (x : ℕ). Missed s (text "1 1") x c.in_err-row.field-0.0) behind c.in_err-row.ensures),
    )

pub store-requires : goal.store-requires
store-requires c =
    omega (arith, c.requires.1, c.requires.2, c.requires.3, c.if-at-end.false)

pub returns : goal.returns
unfolding text line_at
returns c =
    let a = c.args in let s = a.s.now in
    let is : c.name_at.result ≡ Some c.in_ok-net.net = grind arith in
    let d = name-some a.k (line_at s a.at) c.in_ok-net.net (sym c.name_at.ensures ∙ is) in
    let behind = line-next s a.at c.line-line.result c.line-line.ensures in
    let stands : Stands s (text "1 1") c.line-line.result.next c.in_ok-row.row = c.in_ok-row.ensures in
    let puts : c.store.new.nets ≡ put_at a.nets.now (8 * a.i) (gate_words a.at c.wire.result) = c.store.ensures in
    let y : c.line-line.result.next ≡ c.line-line.result.stop + (line_at s a.at).ending = stop_next s a.at c.line-line.result c.line-line.ensures in
    let z : (line_at s a.at).ending ≡ 1 = d.2 in
    record {
      within = c.if-at-end.false;
      driver = d.0;
      stored = puts ∙ ap (put_at a.nets.now (8 * a.i)) (ap (gate_words a.at) c.wire.ensures ∙ d.3);
      far = omega (arith, expected-past s (text "1 1") c.line-line.result.next c.in_ok-row.row stands, stop_from s a.at c.line-line.result c.line-line.ensures, name-long a.k (line_at s a.at) d.0 d.1, line-long s a.at c.line-line.result c.line-line.ensures);
      expected = row_fine s a.k a.at c.if-at-end.false d.0 d.1 d.2 c.in_ok-row.row (subst (λ (x : ℕ). Stands s (text "1 1") x c.in_ok-row.row) behind stands);
    }
