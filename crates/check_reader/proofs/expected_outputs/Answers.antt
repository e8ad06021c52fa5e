-- `check_reader::expected_outputs` meets its contract: the line that is expected is printed.
use Rattle.base.specs.{sym, subst, List, [], ℕ, ◌+◌, ◌≤◌, arith, length, replicate, length-replicate, length-take-le}
use Rattle.model.specs.{text, out_name}
use Rattle.check_reader.specs.{names_from, Expected}
use Rattle.check_reader.proofs.OutputNames.{outs-short}
use Rattle.check_reader.proofs.ExpectedNetLines.{names-capacity, printed-long, printed-is}
use Rattle.check_reader.proofs.expected_outputs.Goals as goal
use Rattle.check_reader.proofs.expected_outputs.Goals.{After-put_outputs-b}

-- the line fits
fits : (n : ℕ) → n ≤ 4096 → length (text ".outputs") + length (names_from out_name 0 n) ≤ length {A = ℕ} (replicate 28680 0)
unfolding text
fits n h = omega (arith, length-replicate {A = ℕ} 28680 0, outs-short n h)

pub put_outputs-b-requires : goal.put_outputs-b-requires
unfolding text
put_outputs-b-requires c =
    (c.requires.1, names-capacity _ (text ".outputs") (names_from out_name 0 c.args.n) c.put_bytes-a.new.out [] c.put_bytes-a.result 0 (fits c.args.n c.requires.1) c.put_bytes-a.ensures)

-- the printed line's end is within the array
ends : (c : After-put_outputs-b) → c.put_outputs-b.result ≤ length c.put_outputs-b.new.out
unfolding text
ends c =
    printed-long _ (text ".outputs") (names_from out_name 0 c.args.n) c.put_bytes-a.new.out c.put_outputs-b.new.out c.put_bytes-a.result c.put_outputs-b.result (fits c.args.n c.requires.1) c.put_bytes-a.ensures c.put_outputs-b.ensures

pub slice_bounds-line-end : goal.slice_bounds-line-end
slice_bounds-line-end c = ends (goal.at.slice_bounds-line-end c).After-put_outputs-b

pub slice_bounds-expected_line-end : goal.slice_bounds-expected_line-end
slice_bounds-expected_line-end c =
    sym (length-take-le c.put_outputs-b.result c.put_outputs-b.new.out (ends (goal.at.slice_bounds-expected_line-end c).After-put_outputs-b))

pub returns : goal.returns
unfolding text
returns c =
    subst (λ (w : List ℕ). Expected c.args.s.now w c.args.at c.expected_line.result)
    (printed-is _ (text ".outputs") (names_from out_name 0 c.args.n) c.put_bytes-a.new.out c.put_outputs-b.new.out c.put_bytes-a.result c.put_outputs-b.result (fits c.args.n c.requires.1) c.put_bytes-a.ensures c.put_outputs-b.ensures)
    c.expected_line.ensures
