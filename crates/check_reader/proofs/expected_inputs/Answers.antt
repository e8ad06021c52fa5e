-- `check_reader::expected_inputs` meets its contract: the line that is expected is printed.
use Rattle.base.specs.{sym, subst, List, [], ℕ, ◌+◌, ◌≤◌, arith, length, replicate, length-replicate, length-take-le}
use Rattle.model.specs.{text}
use Rattle.base_words.specs.{slot_at, slot_addr}
use Rattle.check_reader.specs.{names_from, input_name, Expected}
use Rattle.check_reader.proofs.OutputNames.{inputs_short}
use Rattle.check_reader.proofs.ExpectedNetLines.{names-capacity, printed-long, printed-is}
use Rattle.check_reader.proofs.expected_inputs.Goals as goal
use Rattle.check_reader.proofs.expected_inputs.Goals.{After-put_inputs-b}

-- the line fits
fits : (w : List ℕ) (m n : ℕ) → ((i : ℕ) → slot_at w m (i + 1) ≤ 65535) → n ≤ 12
    → length (text ".inputs") + length (names_from (input_name w m) 0 n) ≤ length {A = ℕ} (replicate 96 0)
unfolding text
fits w m n short few = omega (arith, length-replicate {A = ℕ} 96 0, inputs_short w m short n)

pub put_inputs-b-requires : goal.put_inputs-b-requires
unfolding text
put_inputs-b-requires c =
    let a = c.args in
    let room = fits a.work.now a.m a.n (λ i. let z = c.type_inv.work (slot_addr a.m (i + 1)) in omega arith) c.requires.3 in (
      c.requires.1,
      c.requires.2,
      names-capacity _ (text ".inputs") (names_from (input_name a.work.now a.m) 0 a.n) c.put_bytes-a.new.out []
          c.put_bytes-a.result 0 room c.put_bytes-a.ensures,
    )

-- the printed line's end is within the array
ends : (c : After-put_inputs-b) → c.put_inputs-b.result ≤ length c.put_inputs-b.new.out
unfolding text
ends c =
    let a = c.args in
    let room = fits a.work.now a.m a.n (λ i. let z = c.type_inv.work (slot_addr a.m (i + 1)) in omega arith) c.requires.3 in
    printed-long _ (text ".inputs") (names_from (input_name a.work.now a.m) 0 a.n) c.put_bytes-a.new.out c.put_inputs-b.new.out
    c.put_bytes-a.result c.put_inputs-b.result room c.put_bytes-a.ensures c.put_inputs-b.ensures

pub slice_bounds-line-end : goal.slice_bounds-line-end
slice_bounds-line-end c = ends (goal.at.slice_bounds-line-end c).After-put_inputs-b

pub slice_bounds-expected_line-end : goal.slice_bounds-expected_line-end
slice_bounds-expected_line-end c =
    sym (length-take-le c.put_inputs-b.result c.put_inputs-b.new.out (ends (goal.at.slice_bounds-expected_line-end c).After-put_inputs-b))

pub returns : goal.returns
unfolding text
returns c =
    let a = c.args in
    let room = fits a.work.now a.m a.n (λ i. let z = c.type_inv.work (slot_addr a.m (i + 1)) in omega arith) c.requires.3 in
    subst (λ (w : List ℕ). Expected a.s.now w a.at c.expected_line.result)
    (printed-is _ (text ".inputs") (names_from (input_name a.work.now a.m) 0 a.n) c.put_bytes-a.new.out c.put_inputs-b.new.out
    c.put_bytes-a.result c.put_inputs-b.result room c.put_bytes-a.ensures c.put_inputs-b.ensures)
    c.expected_line.ensures
