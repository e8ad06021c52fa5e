-- A phase as four words, and the needed phases of a variable as one.
use Rattle.std.specs.Prelude.{◌&&◌, ◌∷◌, ◌++◌, ◌+◌, ◌*◌, ◌/◌, ◌%◌, ◌<◌}
use Rattle.base.specs.{Bool, cond, not, List, [], ℕ, eqb, get_or}
use Rattle.model.specs.{cut_limit, var_of, negated, Phases, phase_of, absent, is_input_source}
use Rattle.model.specs.declared.Match.{Match}
use Rattle.model.specs.declared.Source.{Source}
use Rattle.model.specs.declared.Source.TheVariants.{Input, Cell as Matched, Inverter as Inverted, Nothing}
use Rattle.model.specs.declared.Phase.{Phase}
use Rattle.base_words.specs.StoredWords.{put_at}
use Rattle.base_words.specs.Layout.{positive_addr, negative_addr, needed_addr, needed_at}

-- ---- a phase: the source's kind and cell in one word, its cut, order and mask in another, and the arrival's low and high halves

-- what has room in the words: a cut of a list, a cell's line, one of 24 orders and a mask of four bits
pub record MatchFits (m : Match) : Type 0 where
  pub cut : m.cut < cut_limit
  pub cell : m.cell < 256
  pub order : m.order < 24
  pub mask : m.mask < 16

abbrev pub SourceFits : Source → Type 0
SourceFits Input = Unit {0}
SourceFits (Matched m) = MatchFits m
SourceFits (Inverted c) = c < 256
SourceFits Nothing = Unit {0}

abbrev pub PhaseFits : Phase → Type 0
PhaseFits p = SourceFits p.source

abbrev pub match_word : Match → ℕ
match_word m = (m.cut * 24 + m.order) * 16 + m.mask

-- a source's words. Zeros say that there is none
abbrev pub source_words : Source → List ℕ
source_words Input = 256 ∷ 0 ∷ []
source_words (Matched m) = (512 + m.cell) ∷ match_word m ∷ []
source_words (Inverted c) = (768 + c) ∷ 0 ∷ []
source_words Nothing = 0 ∷ 0 ∷ []

abbrev pub arrival_words : ℕ → List ℕ
arrival_words n = n % 65536 ∷ n / 65536 ∷ []

unfoldable pub phase_words : Phase → List ℕ
phase_words p = source_words p.source ++ arrival_words p.arrival

-- the match that a cell and the other word say
abbrev pub match_of : ℕ → ℕ → Match
match_of cell b = record { cut = b / 384; cell = cell; order = b / 16 % 24; mask = b % 16 }

-- the source that a kind, a cell and the other word say
abbrev pub kind_source : ℕ → ℕ → ℕ → Source
kind_source kind cell b =
    cond (eqb kind 1) Input
    (cond (eqb kind 2) (Matched (match_of cell b))
    (cond (eqb kind 3) (Inverted cell) Nothing))

-- the source that two words say
abbrev pub source_of : ℕ → ℕ → Source
source_of a b = kind_source (a / 256) (a % 256) b

-- the phase in the four words from `at` on
unfoldable pub phase_in : List ℕ → ℕ → Phase
phase_in w at =
    record {
      source = source_of (get_or w at 0) (get_or w (at + 1) 0);
      arrival = get_or w (at + 2) 0 + get_or w (at + 3) 0 * 65536;
    }

-- the phases of a variable
abbrev pub positive_at : List ℕ → ℕ → ℕ → Phase
positive_at w m v = phase_in w (positive_addr m v)

abbrev pub negative_at : List ℕ → ℕ → ℕ → Phase
negative_at w m v = phase_in w (negative_addr m v)

abbrev pub phases_at : List ℕ → ℕ → ℕ → Phases
phases_at w m v = record { positive = positive_at w m v; negative = negative_at w m v }

-- the phase of a literal
abbrev pub phase_at : List ℕ → ℕ → ℕ → Phase
phase_at w m l = phase_of (phases_at w m) l

-- whether a source makes a gate: there is one, "inputs' own positive nets apart"
unfoldable pub makes_gate : Source → Bool
unfolding absent is_input_source
makes_gate s = not (absent s) && not (is_input_source s)

-- ---- the needed phases: bit 0 the positive one, bit 1 the negative one

abbrev pub flag_of : ℕ → Bool → Bool
flag_of x neg = cond neg (eqb (x / 2 % 2) 1) (eqb (x % 2) 1)

abbrev pub with_flag : ℕ → Bool → ℕ
with_flag x neg = cond neg (x % 2 + 2) (x / 2 % 2 * 2 + 1)

-- the phase of a literal is needed
unfoldable pub is_needed : List ℕ → ℕ → ℕ → Bool
unfolding var_of negated
is_needed w m l = flag_of (needed_at w m (var_of l)) (negated l)

-- the words once the phase of a literal is needed
unfoldable pub put_needed : List ℕ → ℕ → ℕ → List ℕ
unfolding var_of negated
put_needed w m l = put_at w (needed_addr m (var_of l)) (with_flag (needed_at w m (var_of l)) (negated l) ∷ [])
