-- What comes of two channels once the library is read, from each refusal tried up to 10 on.
use Rattle.std.specs.Prelude.{◌≡◌, ◌&&◌, ◌+◌}
use Rattle.base.specs.{Bool, List, ℕ, leb, length, replicate}
use Rattle.model.specs.{need, Read, holds, fault, next, unless, cells_of, cells_for, read_header, refused, text_after, Channel, Outcomes}
use Rattle.model.specs.{answers_of}
use Rattle.model.specs.declared.Library.{Library}
use Rattle.model.specs.declared.Header.{Header}
use Rattle.model.specs.declared.Two.{Two}
use Rattle.mapper.specs.{all_of, graph_for}

-- the headers of both
pub record Heads : Type 0 where
  pub first : Header
  pub second : Header

-- ---- the refusals tried up to 10

-- 10: "the sum of both needs"
unfoldable pub sum_for : ℕ → Header → Header → Read Heads
unfolding unless need
sum_for words h k = unless (leb (need h.size h.outputs + need k.size k.outputs) words) 10 0 (holds (record { first = h; second = k }))

-- the second channel's before it: 1, 7 to 9 and 19
unfoldable pub second_for : ℕ → Channel → Header → Read Heads
unfolding unless next read_header sum_for
second_for words b h = unless (leb (length b.graph) 65536 && leb (length b.arrivals) 65536) 1 0 (next (read_header b.graph) (sum_for words h))

-- the first channel's before them: 7 to 9 and 19
unfoldable pub first_for : ℕ → Channel → Channel → Read Heads
unfolding next read_header second_for
first_for words a b = next (read_header a.graph) (second_for words b)

-- ---- the outcomes

unfoldable pub pair_for : Bool → Library → List ℕ → Channel → Channel → Read Heads → Outcomes
unfolding graph_for
pair_for ranged lib ids a b (fault n k) = record { first = refused n k; second = refused n k }
pair_for ranged lib ids a b (holds x) = record {
  first = graph_for ranged lib ids a.graph a.arrivals x.first a.bytes;
  second = graph_for ranged lib ids b.graph b.arrivals x.second b.bytes;
}

unfoldable pub work_for : Read Heads → List ℕ → List ℕ
work_for (fault n k) work = work
work_for (holds x) work = replicate (length work) 0

-- both answers, and what is left of the memory lent
pub record PairLeft (ranged : Bool) (lib : Library) (ids : List ℕ) (a b : Channel) (r : Read Heads) (work first second : List ℕ) (answer : Two) (work_left first_left second_left : List ℕ) : Type 0 where
  pub answers : answer ≡ answers_of (pair_for ranged lib ids a b r)
  pub words : work_left ≡ work_for r work
  pub first_bytes : first_left ≡ text_after (pair_for ranged lib ids a b r).first first
  pub second_bytes : second_left ≡ text_after (pair_for ranged lib ids a b r).second second

-- the same from 30 on, "when cells and pairs exceed 256, after 6, place 0": the cells to map with are the listed ones and those of some numbers of pairs
pub record TwoLeft (paired ranged : Bool) (lib : Library) (a b : Channel) (work first second : List ℕ) (answer : Two) (work_left first_left second_left : List ℕ) : Type 0 where
  pub ids : List ℕ
  pub are_cells : cells_for paired (cells_of lib) ≡ all_of lib ids
  pub left : PairLeft ranged lib ids a b (unless (leb (length (all_of lib ids)) 256) 30 0 (first_for (length work) a b)) work first second answer work_left first_left second_left
