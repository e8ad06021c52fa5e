-- Request N8, "Two channels, one library and one store": two graphs mapped in one call over one cell list and one work memory, "with a text memory each".
use Rattle.std.specs.Prelude.{◌+◌}
use Rattle.base.specs.{ℕ, Bool, List, leb, length, replicate}
use Rattle.model.specs.Limits.{need}
use Rattle.model.specs.ReadResult.{Read, holds, fault, next, unless}
use Rattle.model.specs.GraphText.{read_header}
use Rattle.model.specs.Netlist.{Outcome, refused}
use Rattle.model.specs.Mapper.{Call, short, read_listed, map_texts, answer_of}
use Rattle.model.specs.declared.Two.{Two}

-- what is a channel's own: "its own graph, arrivals and text length"
pub record Channel : Type 0 where
  pub graph : List ℕ
  pub arrivals : List ℕ
  pub bytes : ℕ

-- what a call for two channels is given: pairs are wanted for both or for neither
pub record TwoCall : Type 0 where
  pub paired : Bool
  pub library : List ℕ
  pub words : ℕ
  pub first : Channel
  pub second : Channel

-- a channel's texts, with its text memory lent
abbrev pub channel_of : List ℕ → List ℕ → List ℕ → Channel
channel_of graph arrivals text = record { graph = graph; arrivals = arrivals; bytes = length text }

-- the call on a library and two channels, with work memory lent
abbrev pub two_call_of : Bool → List ℕ → Channel → Channel → List ℕ → TwoCall
two_call_of paired library first second work = record { paired = paired; library = library; words = length work; first = first; second = second }

-- a channel "alone": the call on the library and its own texts, with so many words
abbrev pub alone : Bool → List ℕ → Channel → ℕ → Call
alone paired library ch words = record { paired = paired; library = library; graph = ch.graph; arrivals = ch.arrivals; words = words; bytes = ch.bytes }

-- how many words a channel needs, or the first refusal tried before 10 that applies to its texts: 1 to 9, 19, 27 and 30
unfoldable pub need_of : Bool → List ℕ → Channel → Read ℕ
unfolding next unless read_listed read_header need
need_of paired library ch =
    unless (short (alone paired library ch 0)) 1 0
    (next (read_listed paired library) (λ _.
    next (read_header ch.graph) (λ h. holds (need h.size h.outputs))))

-- how many words each channel needs
pub record Needs : Type 0 where
  pub first : ℕ
  pub second : ℕ

-- the refusals tried up to 10: "the first channel's, if both have one"; "10, once neither channel has an earlier refusal, compares the lent words with
-- the sum of both needs"
unfoldable pub needs_of : TwoCall → Read Needs
unfolding next unless need_of
needs_of c =
    next (need_of c.paired c.library c.first) (λ a.
    next (need_of c.paired c.library c.second) (λ b.
    unless (leb (a + b) c.words) 10 0 (holds (record { first = a; second = b }))))

-- what comes of each channel
pub record Outcomes : Type 0 where
  pub first : Outcome
  pub second : Outcome

-- "where a refusal tried up to 10 applies to either, both return that number and place .., neither is mapped"; "Any other refusal in one leaves the other
-- mapped as if alone."
unfoldable pub map_needs : TwoCall → Read Needs → Outcomes
unfolding map_texts
map_needs c (fault n k) = record { first = refused n k; second = refused n k }
map_needs c (holds n) = record { first = map_texts (alone c.paired c.library c.first n.first); second = map_texts (alone c.paired c.library c.second n.second) }

-- the outcomes of a call
unfoldable pub map_two : TwoCall → Outcomes
unfolding map_needs needs_of
map_two c = map_needs c (needs_of c)

-- ---- the answers, and the lent memory: each text memory is left as `text_after` says of its channel's outcome

unfoldable pub answers_of : Outcomes → Two
unfolding answer_of
answers_of o = record { first = answer_of o.first; second = answer_of o.second }

-- where a refusal tried up to 10 applies, "work memory is unchanged"; else it is "all zero after a later one and after success"
unfoldable pub two_work_after : Read Needs → List ℕ → List ℕ
two_work_after (fault n k) memory = memory
two_work_after (holds n) memory = replicate (length memory) 0
