-- The arrivals' text, read: the inputs listed and when they arrive, or the first refusal of 25 and 26 with its place; and a graph so timed.
use Rattle.std.specs.Prelude.{◌&&◌, ◌∷◌, ◌++◌}
use Rattle.base.specs.{ℕ, not, cond, Option, List, [], eqb, ltb, length, get_or}
use Rattle.model.specs.Base.{each, elem, same, and_then, only}
use Rattle.model.specs.Text.{Line, ended, text, lines_from, fields, numbers}
use Rattle.model.specs.ReadResult.{Read, holds, next, unless, from?}
use Rattle.model.specs.Graph.{Graph}
use Rattle.model.specs.GraphText.{numbers_line}

-- "an input's index from 0 and its arrival"
pub record InputArrival : Type 0 where
  pub index : ℕ
  pub arrival : ℕ

-- the two numbers of a line, "each 0 to 65,535, spaced and ended as library lines are, without leading zeros"
unfoldable pub input_arrival_numbers : Line → Option (List ℕ)
unfolding and_then only numbers fields
input_arrival_numbers l = let ws = fields l.bytes in and_then (only (ended l && eqb (length ws) 2) ws) numbers

-- "25 when a line breaks its form; 26 when an index is I or more, or is repeated, both line by line .., at the line's offset"; `inputs` is I, `before`
-- are the indexes listed so far
unfoldable pub read_input_arrivals : ℕ → List ℕ → List Line → Read (List InputArrival)
unfolding next unless from? input_arrival_numbers elem
read_input_arrivals inputs before [] = holds []
read_input_arrivals inputs before (l ∷ ls) =
    next (from? (input_arrival_numbers l) 25 l.offset) (λ ns.
    let index = get_or ns 0 0 in
    unless (ltb index inputs && not (elem index before)) 26 l.offset
    (next (read_input_arrivals inputs (index ∷ before) ls) (λ es. holds (record { index = index; arrival = get_or ns 1 0 } ∷ es))))

-- "first line `input arrival`, then an input's index from 0 and its arrival", "or empty for none"
unfoldable pub read_input_arrival_lines : ℕ → List Line → Read (List InputArrival)
unfolding unless same text read_input_arrivals
read_input_arrival_lines inputs [] = holds []
read_input_arrival_lines inputs (l ∷ ls) = unless (ended l && same l.bytes (text "input arrival")) 25 l.offset (read_input_arrivals inputs [] ls)

-- the arrivals that a text lists for I inputs
unfoldable pub read_arrivals : ℕ → List ℕ → Read (List InputArrival)
unfolding read_input_arrival_lines lines_from
read_arrivals inputs bytes = read_input_arrival_lines inputs (lines_from 0 [] bytes)

-- these inputs written: the first line, and a line for each, "one space between, byte 10 after each line"
unfoldable pub arrivals_text : List InputArrival → List ℕ
unfolding text numbers_line each
arrivals_text es = text "input arrival\n" ++ each (λ (e : InputArrival). numbers_line e.index (e.arrival ∷ [])) es

-- when variable v arrives, of these inputs in the file's order: as is listed for its index; "Inputs not listed arrive at 0."
unfoldable pub input_arrival_of : List ℕ → List InputArrival → ℕ → ℕ
input_arrival_of inputs [] v = 0
input_arrival_of inputs (e ∷ es) v = let r = input_arrival_of inputs es v in cond (eqb v (get_or inputs e.index 0)) e.arrival r

-- the graph with its inputs so timed
unfoldable pub timed_by : Graph → List InputArrival → Graph
unfolding input_arrival_of
timed_by g es = record { size = g.size; inputs = g.inputs; outputs = g.outputs; ands = g.ands; input_arrival = input_arrival_of g.inputs es }
