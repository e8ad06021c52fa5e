-- `tally_report::put_figure` meets its contract: a space, and the number behind it.
use Rattle.base.specs.{refl, sym, ◌∷◌, [], append-nil, ℕ, ◌+◌, ◌≤◌, List, length, arith}
use Rattle.model.specs.{decimal}
use Rattle.base_text.specs.{Wrote}
use Rattle.base_text.proofs.{Partly, begin, step, capacity, finish, as_wrote}
use Rattle.tally_report.specs.{figure_text}
use Rattle.tally_report.proofs.ReportLines.{figure-is, figure-length}
use Rattle.tally_report.proofs.put_figure.Goals as goal

-- the space is written
one : (o : List ℕ) (at n : ℕ) → at + length (figure_text n) ≤ length o → {w : List ℕ} {next : ℕ} → Wrote o w at next (32 ∷ [])
    → Partly o w at next (figure_text n) (decimal n)
one o at n room e = step room (begin o at (figure-is n)) _ _ (32 ∷ []) (decimal n) refl e

pub put_byte-a-requires : goal.put_byte-a-requires
put_byte-a-requires c = omega (arith, figure-length c.args.n)

pub put_digits-requires : goal.put_digits-requires
put_digits-requires c =
    let n = c.args.n in
    capacity c.requires (one c.args.out.now c.args.at n c.requires c.put_byte-a.ensures) (decimal n) [] (sym (append-nil (decimal n)))

pub returns : goal.returns
returns c = finish c.requires (one c.args.out.now c.args.at c.args.n c.requires c.put_byte-a.ensures) (as_wrote c.put_digits.ensures)
