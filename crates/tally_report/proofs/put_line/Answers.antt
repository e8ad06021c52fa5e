-- `tally_report::put_line` meets its contract: the name, three figures, and the line's end.
use Rattle.base.specs.{refl, List, ◌∷◌, [], ◌++◌, ℕ, ◌+◌, ◌≤◌, length, arith}
use Rattle.model.specs.{report_line}
use Rattle.base_text.specs.{Wrote}
use Rattle.base_text.proofs.{Partly, begin, step, capacity, finish}
use Rattle.tally_report.specs.{figure_text}
use Rattle.tally_report.proofs.ReportLines.{behind_name, line-is}
use Rattle.tally_report.proofs.put_line.Goals as goal

-- what is left behind the area and the gates
abbrev behind_area : ℕ → List ℕ
behind_area netlists = figure_text netlists ++ (10 ∷ [])

abbrev behind_gates : ℕ → ℕ → List ℕ
behind_gates area netlists = figure_text area ++ behind_area netlists

module _ (o : List ℕ) (at : ℕ) (title : List ℕ) (g a n : ℕ) (room : at + length (report_line title g a n) ≤ length o) where
  none : Partly o o at at (report_line title g a n) (title ++ behind_name g a n)
  none = begin o at (line-is title g a n)

  module _ {o1 : List ℕ} {n1 : ℕ} (w1 : Wrote o o1 at n1 title) where
    name : Partly o o1 at n1 (report_line title g a n) (behind_name g a n)
    name = step room none o1 n1 title (behind_name g a n) refl w1

    module _ {o2 : List ℕ} {n2 : ℕ} (w2 : Wrote o1 o2 n1 n2 (figure_text g)) where
      gates : Partly o o2 at n2 (report_line title g a n) (behind_gates a n)
      gates = step room name o2 n2 (figure_text g) (behind_gates a n) refl w2

      module _ {o3 : List ℕ} {n3 : ℕ} (w3 : Wrote o2 o3 n2 n3 (figure_text a)) where
        area : Partly o o3 at n3 (report_line title g a n) (behind_area n)
        area = step room gates o3 n3 (figure_text a) (behind_area n) refl w3

        netlists : {o4 : List ℕ} {n4 : ℕ} → Wrote o3 o4 n3 n4 (figure_text n) → Partly o o4 at n4 (report_line title g a n) (10 ∷ [])
        netlists {o4} {n4} w4 = step room area o4 n4 (figure_text n) (10 ∷ []) refl w4

pub put_bytes-a-requires : goal.put_bytes-a-requires
put_bytes-a-requires c =
    let a = c.args in
    let r = c.requires in
    capacity r (none a.out.now a.at a.name.now a.gates a.area a.netlists r) a.name.now (behind_name a.gates a.area a.netlists) refl

pub put_figure-b-requires : goal.put_figure-b-requires
put_figure-b-requires c =
    let a = c.args in
    let r = c.requires in
    let p = name a.out.now a.at a.name.now a.gates a.area a.netlists r c.put_bytes-a.ensures in
    capacity r p (figure_text a.gates) (behind_gates a.area a.netlists) refl

pub put_figure-c-requires : goal.put_figure-c-requires
put_figure-c-requires c =
    let a = c.args in
    let r = c.requires in
    let p = gates a.out.now a.at a.name.now a.gates a.area a.netlists r c.put_bytes-a.ensures c.put_figure-b.ensures in
    capacity r p (figure_text a.area) (behind_area a.netlists) refl

pub put_figure-d-requires : goal.put_figure-d-requires
put_figure-d-requires c =
    let a = c.args in
    let r = c.requires in
    let p = area a.out.now a.at a.name.now a.gates a.area a.netlists r c.put_bytes-a.ensures c.put_figure-b.ensures c.put_figure-c.ensures in
    capacity r p (figure_text a.netlists) (10 ∷ []) refl

pub put_byte-requires : goal.put_byte-requires
put_byte-requires c =
    let a = c.args in
    let r = c.requires in
    let p =
    netlists a.out.now a.at a.name.now a.gates a.area a.netlists r c.put_bytes-a.ensures c.put_figure-b.ensures c.put_figure-c.ensures
    c.put_figure-d.ensures in
    omega (arith, capacity r p (10 ∷ []) [] refl)

pub returns : goal.returns
returns c =
    let a = c.args in
    let r = c.requires in
    let p =
    netlists a.out.now a.at a.name.now a.gates a.area a.netlists r c.put_bytes-a.ensures c.put_figure-b.ensures c.put_figure-c.ensures
    c.put_figure-d.ensures in
    finish r p c.put_byte.ensures
