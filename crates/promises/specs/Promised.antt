-- What is promised of a call, a field for each demand and each request, by the documents' sentences in their order; and with the memory that the call was
-- lent, the whole of what `mapper::map_texts` says.
use Rattle.std.specs.Prelude.{◌≤◌, Ok, Err}
use Rattle.base.specs.{ℕ, Bool, List, length}
use Rattle.model.specs.{Answer, Call, call_of, map_texts, answer_of, Memory, Values, AsciiForms, Sequenced, EitherEnd, Untimed, Listed, Former}
use Rattle.model.specs.{Shuffles}
use Rattle.promises.specs.Outcomes.{Outcomes}
use Rattle.promises.specs.Earliest.{Earliest}
use Rattle.promises.specs.Left.{Left}

-- the netlist's length is within so many bytes
abbrev pub Fits : Answer → ℕ → Type 0
Fits (Ok m) bytes = m.length ≤ bytes
Fits (Err r) bytes = Unit {0}

pub record Promised (c : Call) : Type 0 where
  -- every call ends "with a netlist or with the first of the .. numbered refusals that applies": each number by a condition of its own
  pub refusals : Outcomes c
  -- "On success text memory begins with the netlist": it is no longer than this memory
  pub fits : Fits (answer_of (map_texts c)) c.bytes
  -- what is returned, and left of the lent memory whatever stood there
  pub left : Left (map_texts c) c.bytes
  -- "the printed netlist, read by BLIF's rules with the listed cells' tables, gives every output the value that the AIGER graph gives it"
  pub values : Values c
  -- "for each net of the printed netlist, every cover of the outputs that has this net gives it an arrival no earlier"
  pub earliest : Earliest c
  -- N1: "A file free of 19 to 21 and its ASCII twin, each within the length in 1, must give the same netlist"
  pub ascii_forms : AsciiForms c
  -- N1: "Inputs are variables 1 to I and ANDs follow in sequence": 13 to 15 refuse no binary text
  pub sequenced : Sequenced c
  -- N5: "Texts alike but for line ends, each within the length in 1, give the same netlist."
  pub ends : EitherEnd c
  -- N7: the third text is "empty for none"
  pub untimed : Untimed c
  -- N7: "Inputs not listed arrive at 0."
  pub listed : Listed c
  -- N10: "mapping uses the `d` figures as before"
  pub former : Former c
  -- N13: "two accepted libraries holding the same cell lines in any orders" agree
  pub shuffles : Shuffles c

-- a call on texts and lent memory: its answer, what it leaves of work and text memory, and what is promised of it
pub record Mapping (paired : Bool) (library graph arrivals work text : List ℕ) (answer : Answer) (work_left text_left : List ℕ) : Type 0 where
  pub memory : Memory (call_of paired library graph arrivals work text) work text answer work_left text_left
  pub fits : Fits answer (length text)
  pub promised : Promised (call_of paired library graph arrivals work text)
