-- The demands for two channels, for every call: library text, each channel's texts and number of lent bytes, and number of lent words.
use Rattle.std.specs.Prelude.{◌+◌, ◌≤◌, ◌<◌, ◌≡◌, ◌↔◌}
use Rattle.base.specs.{ℕ, Bool, true, false, List, length}
use Rattle.model.specs.{holds, fault, refused, mapped, Design, map_texts, returned, returned_by, text_after, work_after, tried_early, Channel}
use Rattle.model.specs.{TwoCall, channel_of, two_call_of, alone, need_of, needs_of, map_two, answers_of, two_work_after, Mappable}
use Rattle.model.specs.{AlikeTexts}
use Rattle.model.specs.Graph.{Graph}
use Rattle.model.specs.Demands.{Means}
use Rattle.model.specs.declared.Figures.{Figures}
use Rattle.model.specs.declared.Two.{Two}
use Rattle.promises.specs.Earliest.{Decided}
use Rattle.promises.specs.Left.{Left}
use Rattle.promises.specs.Promised.{Fits, Promised}

-- ---- Demand 1: the answers of a call for two channels, and what it leaves of work, first and second, the memory lent to it (c is `two_call_of` of the
-- texts and of this memory)
pub record TwoMemory (c : TwoCall) (work first second : List ℕ) (answer : Two) (work_left first_left second_left : List ℕ) : Type 0 where
  pub answers : answer ≡ answers_of (map_two c)
  pub returns_first : returned answer.first ≡ returned_by (map_two c).first
  pub returns_second : returned answer.second ≡ returned_by (map_two c).second
  pub words : work_left ≡ two_work_after (needs_of c) work
  pub first_bytes : first_left ≡ text_after (map_two c).first first
  pub second_bytes : second_left ≡ text_after (map_two c).second second

-- ---- a channel alone

-- what `need_of` says is what a channel's own call says: a refusal tried before 10 comes whatever number of words is lent; else 10 comes exactly where there
-- are fewer words than it needs; and with words enough no refusal tried up to 10 comes, and words beyond the need change nothing
pub record Alone (paired : Bool) (library : List ℕ) (ch : Channel) : Type 0 where
  pub early : (n k : ℕ) → need_of paired library ch ≡ fault n k → (words : ℕ) → map_texts (alone paired library ch words) ≡ refused n k
  pub tried : (n k : ℕ) → need_of paired library ch ≡ fault n k → (tried_early n ≡ true) × (¬ (n ≡ 10))
  pub ten : (a : ℕ) → need_of paired library ch ≡ holds a → (words : ℕ) → (map_texts (alone paired library ch words) ≡ refused 10 0) ↔ (words < a)
  pub input_arrival : (a : ℕ) → need_of paired library ch ≡ holds a → (words : ℕ) → a ≤ words → (n k : ℕ) → map_texts (alone paired library ch words) ≡ refused n k → tried_early n ≡ false
  pub beyond : (a : ℕ) → need_of paired library ch ≡ holds a → (words : ℕ) → a ≤ words → map_texts (alone paired library ch words) ≡ map_texts (alone paired library ch a)

-- ---- independence: "A channel's netlist or refusal depends on the library, its own graph, arrivals and text length, and nothing of the other's, except .."

-- where a refusal tried up to 10 applies to either, both have it: the first channel's, else the second's, else 10
pub record TogetherRefused (c : TwoCall) : Type 0 where
  pub first : (n k : ℕ) → need_of c.paired c.library c.first ≡ fault n k → map_two c ≡ record { first = refused n k; second = refused n k }
  pub second : (a n k : ℕ) → need_of c.paired c.library c.first ≡ holds a → need_of c.paired c.library c.second ≡ fault n k
      → map_two c ≡ record { first = refused n k; second = refused n k }
  pub ten : (a b : ℕ) → need_of c.paired c.library c.first ≡ holds a → need_of c.paired c.library c.second ≡ holds b → c.words < a + b
      → map_two c ≡ record { first = refused 10 0; second = refused 10 0 }

-- neither has a refusal tried up to 10
pub record Neither (c : TwoCall) : Type 0 where
  pub first : ℕ
  pub second : ℕ
  pub needs_first : need_of c.paired c.library c.first ≡ holds first
  pub needs_second : need_of c.paired c.library c.second ≡ holds second
  pub enough : first + second ≤ c.words

-- then each has what comes of it alone, with any number of words that is enough for it, whatever the other's texts are; and work memory is left as each
-- outcome alone would leave it
pub record Independent (c : TwoCall) : Type 0 where
  pub first : (e : Neither c) (words : ℕ) → e.first ≤ words → (map_two c).first ≡ map_texts (alone c.paired c.library c.first words)
  pub second : (e : Neither c) (words : ℕ) → e.second ≤ words → (map_two c).second ≡ map_texts (alone c.paired c.library c.second words)
  pub first_kept : Neither c → (d : TwoCall) → Neither d → c.paired ≡ d.paired → c.library ≡ d.library → c.first ≡ d.first → (map_two c).first ≡ (map_two d).first
  pub second_kept : Neither c → (d : TwoCall) → Neither d → c.paired ≡ d.paired → c.library ≡ d.library → c.second ≡ d.second → (map_two c).second ≡ (map_two d).second
  pub works_first : (work : List ℕ) → two_work_after (needs_of c) work ≡ work_after (map_two c).first work
  pub works_second : (work : List ℕ) → two_work_after (needs_of c) work ≡ work_after (map_two c).second work

-- ---- demands 2 and 3: "What is promised of one netlist holds for each"

-- each channel's netlist is the one that it has alone, with all the lent words, of which everything is promised; "the promise on when mapping is refused,
-- where neither has a refusal tried up to 10"
pub record Each (c : TwoCall) : Type 0 where
  pub first : Promised (alone c.paired c.library c.first c.words)
  pub second : Promised (alone c.paired c.library c.second c.words)
  pub printed_first : (t : List ℕ) (f : Figures) → (map_two c).first ≡ mapped t f → map_texts (alone c.paired c.library c.first c.words) ≡ mapped t f
  pub printed_second : (t : List ℕ) (f : Figures) → (map_two c).second ≡ mapped t f → map_texts (alone c.paired c.library c.second c.words) ≡ mapped t f
  pub decided_first : Neither c → (d : Design) → Mappable (alone c.paired c.library c.first c.words) d → Decided d.ranged c.first.bytes (map_two c).first d.listed d.cells d.graph
  pub decided_second : Neither c → (d : Design) → Mappable (alone c.paired c.library c.second c.words) d → Decided d.ranged c.second.bytes (map_two c).second d.listed d.cells d.graph

-- ---- texts that mean the same graph, and texts alike but for line ends

-- the channel with another graph's text
abbrev pub on_text : Channel → List ℕ → Channel
on_text ch t = record { graph = t; arrivals = ch.arrivals; bytes = ch.bytes }

-- "A file .. and its ASCII twin .. must give the same netlist": in either channel, and the other's outcome is the same too
pub record AsciiChannels (c : TwoCall) : Type 0 where
  pub first : (t : List ℕ) (g : Graph) → Means c.first.graph g → Means t g
      → map_two (record { paired = c.paired; library = c.library; words = c.words; first = on_text c.first t; second = c.second }) ≡ map_two c
  pub second : (t : List ℕ) (g : Graph) → Means c.second.graph g → Means t g
      → map_two (record { paired = c.paired; library = c.library; words = c.words; first = c.first; second = on_text c.second t }) ≡ map_two c

-- two calls whose texts differ in no more than the ends of their lines
pub record AlikeChannels (c d : TwoCall) : Type 0 where
  pub first : AlikeTexts (alone c.paired c.library c.first c.words) (alone d.paired d.library d.first d.words)
  pub second : AlikeTexts (alone c.paired c.library c.second c.words) (alone d.paired d.library d.second d.words)

-- print the same netlists, and refuse by the same numbers
pub record EitherEndTwo (c : TwoCall) : Type 0 where
  pub first : (d : TwoCall) → AlikeChannels c d → (t : List ℕ) (f : Figures) → (map_two c).first ≡ mapped t f → (map_two d).first ≡ mapped t f
  pub second : (d : TwoCall) → AlikeChannels c d → (t : List ℕ) (f : Figures) → (map_two c).second ≡ mapped t f → (map_two d).second ≡ mapped t f
  pub refused_first : (d : TwoCall) → AlikeChannels c d → (n k : ℕ) → (map_two c).first ≡ refused n k → (j : ℕ) × ((map_two d).first ≡ refused n j)
  pub refused_second : (d : TwoCall) → AlikeChannels c d → (n k : ℕ) → (map_two c).second ≡ refused n k → (j : ℕ) × ((map_two d).second ≡ refused n j)

-- ---- a call for two channels

-- what is promised of it
pub record TwoPromised (c : TwoCall) : Type 0 where
  -- "where a refusal tried up to 10 applies to either, both return that number and place"
  pub together : TogetherRefused c
  -- "A channel's netlist or refusal depends on the library, its own graph, arrivals and text length, and nothing of the other's"
  pub independent : Independent c
  pub alone_first : Alone c.paired c.library c.first
  pub alone_second : Alone c.paired c.library c.second
  -- "What is promised of one netlist holds for each"
  pub each : Each c
  -- each netlist is no longer than its text memory
  pub fits_first : Fits (answers_of (map_two c)).first c.first.bytes
  pub fits_second : Fits (answers_of (map_two c)).second c.second.bytes
  -- what is returned of each, and left of the lent memory whatever stood there
  pub left_first : Left (map_two c).first c.first.bytes
  pub left_second : Left (map_two c).second c.second.bytes
  -- texts that mean the same graph, and texts alike but for line ends
  pub ascii_forms : AsciiChannels c
  pub ends : EitherEndTwo c

-- a call on texts and lent memory: its answers, what it leaves of this memory, and what is promised of it
pub record MappingTwo (paired : Bool) (library graph1 arrivals1 graph2 arrivals2 work text1 text2 : List ℕ) (answer : Two) (work_left left1 left2 : List ℕ) : Type 0 where
  pub memory : TwoMemory (two_call_of paired library (channel_of graph1 arrivals1 text1) (channel_of graph2 arrivals2 text2) work) work text1 text2 answer work_left left1 left2
  pub fits_first : Fits answer.first (length text1)
  pub fits_second : Fits answer.second (length text2)
  pub promised : TwoPromised (two_call_of paired library (channel_of graph1 arrivals1 text1) (channel_of graph2 arrivals2 text2) work)
