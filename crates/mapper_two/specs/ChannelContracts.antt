-- What the stages of a call for two channels ask, and what comes of the channels' texts.
use Rattle.std.specs.Prelude.{◌≡◌, Result, Ok, Err}
use Rattle.base.specs.{List, ℕ, Bool, length}
use Rattle.model.specs.{holds, read_header, channel_of}
use Rattle.model.specs.declared.Library.{Library}
use Rattle.model.specs.declared.Header.{Header}
use Rattle.model.specs.declared.Refusal.{Refusal}
use Rattle.model.specs.declared.Two.{Two}
use Rattle.cells_matching.specs.{Blank}
use Rattle.mapper.specs.{LibraryOk, all_of}
use Rattle.mapper_two.specs.ChannelPairs.{PairLeft, TwoLeft, sum_for, first_for}

-- what both channels answer: "both return that number and place"
abbrev pub told : Result Two Refusal → Two
told (Ok t) = t
told (Err r) = record { first = Err r; second = Err r }

-- both headers were read, and the match table is blank
abbrev pub PairReady : List ℕ → Header → List ℕ → Header → Library → List ℕ → List ℕ → Type 0
PairReady g1 h1 g2 h2 lib ids matches = LibraryOk lib ids × (read_header g1 ≡ holds h1) × (read_header g2 ≡ holds h2) × Blank (length (all_of lib ids)) matches

-- the match table is blank
abbrev pub MatchesReady : Library → List ℕ → List ℕ → Type 0
MatchesReady lib ids matches = LibraryOk lib ids × Blank (length (all_of lib ids)) matches

-- from both headers on
abbrev pub PairMapped : Bool → Library → List ℕ → Header → Header → List ℕ → List ℕ → List ℕ → List ℕ → List ℕ → List ℕ → List ℕ → Two → List ℕ → List ℕ → List ℕ → Type 0
PairMapped ranged lib ids h1 h2 g1 a1 t1 g2 a2 t2 work r work' t1' t2' = PairLeft ranged lib ids (channel_of g1 a1 t1) (channel_of g2 a2 t2) (sum_for (length work) h1 h2) work t1 t2 r work' t1' t2'

-- from the headers on
abbrev pub HeadersMapped : Bool → Library → List ℕ → List ℕ → List ℕ → List ℕ → List ℕ → List ℕ → List ℕ → List ℕ → Two → List ℕ → List ℕ → List ℕ → Type 0
HeadersMapped ranged lib ids g1 a1 t1 g2 a2 t2 work r work' t1' t2' = PairLeft ranged lib ids (channel_of g1 a1 t1) (channel_of g2 a2 t2) (first_for (length work) (channel_of g1 a1 t1) (channel_of g2 a2 t2)) work t1 t2 r work' t1' t2'

-- from the library on
abbrev pub CellsMapped : Bool → Bool → Library → List ℕ → List ℕ → List ℕ → List ℕ → List ℕ → List ℕ → List ℕ → Two → List ℕ → List ℕ → List ℕ → Type 0
CellsMapped paired ranged lib g1 a1 t1 g2 a2 t2 work r work' t1' t2' = TwoLeft paired ranged lib (channel_of g1 a1 t1) (channel_of g2 a2 t2) work t1 t2 r work' t1' t2'
