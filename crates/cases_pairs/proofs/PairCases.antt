-- Pairs of cells, from the texts on, checked against the definitions by computing: which are formed and in which order, their tables, areas and delays,
-- what is printed of them, and refusal 30. The tables are worked out by hand from the cells' own.
use Prim.Native.String.{String}
use Rattle.base.specs.{ℕ, Bool, true, false, ◌&&◌, List, [], ◌∷◌, ◌++◌, map, T, eqb}
use Rattle.model.specs.{all, same, each, below, text, decimal, Read, fault, holds as reads, Pair, pairs_of, cell_of_pair, read_library, Call}
use Rattle.model.specs.{map_texts}
use Rattle.model.specs.declared.Cell.{Cell}
use Rattle.cases.proofs.{library, with, graph_b, graph_c, is_print, is_given, is_refusal, same_cuts}

-- the cells of a text
unfoldable pub cells_in : Read (List Cell) → List Cell
cells_in (reads cs) = cs
cells_in (fault n k) = []

-- what is said of pairs
pub data PairCase : Type 0 where
  -- the pairs of a library: root line, pin, inner line
  forms : List ℕ → List (List ℕ) → PairCase
  -- a pair of a library by these three: its pins, table, area and delays
  joins : List ℕ → ℕ → ℕ → ℕ → ℕ → ℕ → ℕ → List ℕ → PairCase
  -- with pairs wanted: the whole text printed, with its gates, area and arrival
  prints : List ℕ → String → List ℕ → ℕ → ℕ → ℕ → PairCase
  -- with pairs wanted: so many gates and this arrival
  gives : List ℕ → String → ℕ → ℕ → PairCase
  -- with pairs wanted, or not: this refusal with so many words lent
  refuses : Bool → List ℕ → String → ℕ → ℕ → ℕ → PairCase

-- a call on a library and a graph's text
abbrev pub pair_call : Bool → List ℕ → String → ℕ → Call
pair_call paired l g words = record { paired = paired; library = l; graph = text g; arrivals = []; words = words; bytes = 65536 }

unfoldable pub is_pair : ℕ → ℕ → ℕ → List ℕ → Cell → Bool
unfolding same
is_pair pins table area delays c = eqb pins c.pins && (eqb table c.table && (eqb area c.area && same delays c.delays))

unfoldable pub pair_holds : PairCase → Bool
unfolding cells_in is_pair is_print is_given is_refusal same_cuts map_texts text read_library pairs_of cell_of_pair
pair_holds (forms l ps) = same_cuts ps (map (λ (p : Pair). p.root ∷ p.pin ∷ p.inner ∷ []) (pairs_of (cells_in (read_library l))))
pair_holds (joins l root pin inner pins table area delays) =
    is_pair pins table area delays (cell_of_pair (cells_in (read_library l)) (record { root = root; pin = pin; inner = inner }))
pair_holds (prints l g t count area arrival) = is_print t count area arrival (map_texts (pair_call true l g 32768))
pair_holds (gives l g count arrival) = is_given count arrival (map_texts (pair_call true l g 32768))
pair_holds (refuses paired l g words n k) = is_refusal n k (map_texts (pair_call paired l g words))

-- B where pairs are wanted: the cell that matches {1, 2} in the positive phase is the inverter with a nand2 at its pin
unfoldable pub listing_paired : List ℕ
unfolding text
listing_paired = text ".model top\n.inputs p1 p2\n.outputs o0\n.gate nand2 A=p1 B=p2 O=sp3\n.gate inv A=sp3 O=p3\n.names p3 o0\n1 1\n.end\n# gates 2 area 3 arrival 30\n"

-- cells of one, four and no pins
unfoldable pub uneven : List ℕ
unfolding text
uneven = text "cell pins table area d0 d1 d2 d3\ninv 1 0001 1 10 0 0 0\nand4 4 8000 9 1 2 3 4\ntie0 0 0000 1 0 0 0 0\n"

-- a carry and an exclusive or, with a delay of its own at each pin
unfoldable pub wide : List ℕ
unfolding text
wide = text "cell pins table area d0 d1 d2 d3\nmaj3 3 00e8 7 1 2 3 0\nxor2 2 0006 65535 10 65535 0 0\nslow 1 0002 65535 65535 0 0 0\n"

-- eleven cells of two pins, which form 11 · 2 · 11 pairs, and n without pins, which form none: 253 + n cells and pairs
unfoldable pub many : ℕ → List ℕ
unfolding text each below decimal
many n =
    text "cell pins table area d0 d1 d2 d3\n" ++ (each (λ (k : ℕ). 97 ∷ decimal k ++ text " 2 0008 1 0 0 0 0\n") (below 11)
    ++ each (λ (k : ℕ). 98 ∷ decimal k ++ text " 0 0000 1 0 0 0 0\n") (below n))

unfoldable pub formed : List PairCase
unfolding library with graph_b graph_c listing_paired uneven wide many text
formed =
    -- "for each root cell, pin and inner cell with at least one pin, in that order of lines": root and inner may be one cell
    forms library ((0 ∷ 0 ∷ 0 ∷ []) ∷ (0 ∷ 0 ∷ 1 ∷ []) ∷ (1 ∷ 0 ∷ 0 ∷ []) ∷ (1 ∷ 0 ∷ 1 ∷ []) ∷ (1 ∷ 1 ∷ 0 ∷ []) ∷ (1 ∷ 1 ∷ 1 ∷ []) ∷ [])
    -- "if the result has at most four pins": and4 with inv and inv with and4, not and4 with and4; a cell without pins is no inner and has no pin to feed
    ∷ forms uneven ((0 ∷ 0 ∷ 0 ∷ []) ∷ (0 ∷ 0 ∷ 1 ∷ []) ∷ (1 ∷ 0 ∷ 0 ∷ []) ∷ (1 ∷ 1 ∷ 0 ∷ []) ∷ (1 ∷ 2 ∷ 0 ∷ []) ∷ (1 ∷ 3 ∷ 0 ∷ []) ∷ [])
    ∷ forms [] []
    ∷ []

pub formed_hold : T (all pair_holds formed)
unfolding all pair_holds formed
formed_hold = tt

pub three-pins_hold : T (all pair_holds (
    -- a root of three pins: maj3 with xor2 and slow at each of its pins, not with itself, which would have five; xor2 with maj3 at each of its two
    forms wide ((0 ∷ 0 ∷ 1 ∷ []) ∷ (0 ∷ 0 ∷ 2 ∷ []) ∷ (0 ∷ 1 ∷ 1 ∷ []) ∷ (0 ∷ 1 ∷ 2 ∷ []) ∷ (0 ∷ 2 ∷ 1 ∷ []) ∷ (0 ∷ 2 ∷ 2 ∷ [])
    ∷ (1 ∷ 0 ∷ 0 ∷ []) ∷ (1 ∷ 0 ∷ 1 ∷ []) ∷ (1 ∷ 0 ∷ 2 ∷ []) ∷ (1 ∷ 1 ∷ 0 ∷ []) ∷ (1 ∷ 1 ∷ 1 ∷ []) ∷ (1 ∷ 1 ∷ 2 ∷ [])
    ∷ (2 ∷ 0 ∷ 0 ∷ []) ∷ (2 ∷ 0 ∷ 1 ∷ []) ∷ (2 ∷ 0 ∷ 2 ∷ []) ∷ [])
    ∷ []
    ))
unfolding all pair_holds library with graph_b graph_c listing_paired uneven wide many text
three-pins_hold = tt

pub three-root_hold : T (all pair_holds (
    -- maj3 with xor2 at each of its pins, and no pair has a listed table
    forms (text "cell pins table area d0 d1 d2 d3\nmaj3 3 00e8 7 1 2 3 0\nxor2 2 0006 3 10 20 0 0\n")
    ((0 ∷ 0 ∷ 1 ∷ []) ∷ (0 ∷ 1 ∷ 1 ∷ []) ∷ (0 ∷ 2 ∷ 1 ∷ []) ∷ (1 ∷ 0 ∷ 0 ∷ []) ∷ (1 ∷ 0 ∷ 1 ∷ []) ∷ (1 ∷ 1 ∷ 0 ∷ []) ∷ (1 ∷ 1 ∷ 1 ∷ []) ∷ [])
    ∷ []
    ))
unfolding all pair_holds text
three-root_hold = tt

pub all-kept_hold : T (all pair_holds (
    -- "all pairs are kept": two buffers in a row have the listed buffer's table
    forms (text "cell pins table area d0 d1 d2 d3\nbuf 1 0002 1 5 0 0 0\n") ((0 ∷ 0 ∷ 0 ∷ []) ∷ [])
    ∷ []
    ))
unfolding all pair_holds library with graph_b graph_c listing_paired uneven wide many text
all-kept_hold = tt

pub joined_hold : T (all pair_holds (
    -- not of a nand, which is an and; a nand with one pin complemented; !(a · !(b · c)) and !(!(a · b) · c)
    joins library 0 0 1 2 0x8 3 (30 ∷ 30 ∷ 0 ∷ 0 ∷ [])
    ∷ joins library 1 0 0 2 0xb 3 (30 ∷ 20 ∷ 0 ∷ 0 ∷ [])
    ∷ joins library 1 1 0 2 0xd 3 (20 ∷ 30 ∷ 0 ∷ 0 ∷ [])
    ∷ joins library 1 1 1 3 0xd5 4 (20 ∷ 40 ∷ 40 ∷ 0 ∷ [])
    ∷ joins library 1 0 1 3 0x8f 4 (40 ∷ 40 ∷ 20 ∷ 0 ∷ [])
    -- four pins from three and two: the carry of a, b ⊕ c and d is 1 where two of the three are; "an inner pin's delays add to the fed pin's"
    ∷ joins wide 0 1 1 4 0xbe28 65542 (1 ∷ 12 ∷ 65537 ∷ 3 ∷ [])
    -- four pins from two and three: the carry of a, b and c, ⊕ d
    ∷ joins wide 1 0 0 4 0x17e8 65542 (11 ∷ 12 ∷ 13 ∷ 65535 ∷ [])
    -- "Area adds", and delays, past 16 bits
    ∷ joins wide 2 0 2 1 0x2 131070 (131070 ∷ 0 ∷ 0 ∷ 0 ∷ [])
    -- "A pair prints as two gates, the inner first, on a net `s` followed by the root's net name"
    ∷ prints library graph_b listing_paired 2 3 30
    -- 30 "when cells and pairs exceed 256", before 7 and 10, and only where pairs are wanted
    ∷ refuses true (many 3) "aag 0 0 0 0 0\n" 0 10 0
    ∷ refuses true (many 4) "aag 0 0 0 0 0\n" 0 30 0
    ∷ refuses true (many 4) "" 0 30 0
    ∷ refuses false (many 4) "aag 0 0 0 0 0\n" 0 10 0
    ∷ refuses true (many 4 ++ text "x\n") "" 0 4 334
    ∷ []
    ))
unfolding all pair_holds library with graph_b graph_c listing_paired uneven wide many text
joined_hold = tt
