-- A case for each refusal from 2 on, the binary form and either line end, checked against the definitions by computing.
use Prim.Native.String.{String}
use Rattle.base.specs.{ℕ, not, ◌&&◌, List, [], ◌∷◌, ◌++◌, map, T, eqb, length}
use Rattle.model.specs.{all, each, below, text, decimal, is_binary_text, line_start}
use Rattle.cases.proofs.{library, listing, with, graph_b, graph_c, Case, holds, head_b, prints, gives, refuses, lacks, suffices, lists}
use Rattle.cases.proofs.{prints_bytes, refuses_bytes, means, has_and, lists_bytes}

-- a library of n cells without pins
unfoldable pub cell_lines : ℕ → List ℕ
unfolding text each below decimal
cell_lines n = text "cell pins table area d0 d1 d2 d3\n" ++ each (λ (k : ℕ). 99 ∷ decimal k ++ text " 0 0000 1 0 0 0 0\n") (below n)

-- "The unmarked graphs are now of 18 and 19 cuts": of the two chains' last variable
unfoldable pub graph18 : String
graph18 = "aag 6 1 0 0 5\n2\n4 2 2\n6 4 2\n8 4 2\n10 8 6\n12 10 10\n"

unfoldable pub graph19 : String
graph19 = "aag 6 1 0 0 5\n2\n4 2 2\n6 4 2\n8 6 2\n10 8 8\n12 10 10\n"

-- variable 6 has too many cuts as well, and is ordered behind variable 7
unfoldable pub graph_later : String
graph_later = "aag 7 1 0 0 6\n2\n4 2 2\n6 4 2\n8 6 2\n10 8 8\n14 10 10\n12 14 14\n"

-- both can be ordered at once, and the line of variable 7 stands first
unfoldable pub graph_either : String
graph_either = "aag 7 1 0 0 6\n2\n4 2 2\n6 4 2\n8 6 2\n10 8 8\n14 10 10\n12 10 10\n"

-- The edges of each refusal from 2 on, in lists: a wrong reading is refused by its own.

pub library-lines_hold : T (all holds (
    -- 2
    refuses [] graph_b 2 0
    ∷ refuses (text "cell pins table area d0 d1 d2 d3") graph_b 2 0
    ∷ refuses (text "cell pins table area d0 d1 d2 d3 \n") graph_b 2 0
    ∷ gives (text "cell pins table area d0 d1 d2 d3\n") "aag 0 0 0 0 0\n" 0 0
    -- 3, also where the line after the thirty-second is no cell line
    ∷ gives (cell_lines 32) "aag 0 0 0 0 0\n" 0 0
    ∷ refuses (cell_lines 33) "aag 0 0 0 0 0\n" 3 (length (cell_lines 32))
    ∷ refuses (cell_lines 32 ++ text "\n") "aag 0 0 0 0 0\n" 3 (length (cell_lines 32))
    -- 4
    ∷ map (λ (s : String). refuses (with s) graph_b 4 (length library)) ("x 0 0000 1 0 0 0\n" ∷ "x 0 0000 1 0 0 0 0 0\n" ∷
    "x  0 0000 1 0 0 0 0\n" ∷ "x 0 0000 1 0 0 0 00\n" ∷ "x 01 0000 1 0 0 0 0\n" ∷ "x 5 0000 1 0 0 0 0\n" ∷ "x 0 0000 65536 0 0 0 0\n" ∷
    "x 0 000F 1 0 0 0 0\n" ∷ "x 0 000g 1 0 0 0 0\n" ∷ "x 0 000` 1 0 0 0 0\n" ∷ "x 0 000: 1 0 0 0 0\n" ∷ "x 0 000/ 1 0 0 0 0\n" ∷
    "x 0 00000 1 0 0 0 0\n" ∷ "abcdefghi 0 0000 1 0 0 0 0\n" ∷ [])
    ++ (gives (with "Zz_Aa9 0 0000 1 0 0 0 0\n") graph_b 2 30
    ∷ refuses (with "x 0 0000 1 0 0 0 0") graph_b 4 (length library)
    ∷ refuses (with "\n") graph_b 4 (length library)
    ∷ gives (with "a_345678 4 ffff 65535 65535 0 0 0\n") graph_b 2 30
    -- 5 before 6, and both line by line
    ∷ refuses (with "inv 0 0002 1 0 0 0 0\n") graph_b 5 (length library)
    ∷ refuses (with "x 0 0002 1 0 0 0 0\ninv 0 0000 1 0 0 0 0\n") graph_b 6 (length library)
    -- 6
    ∷ refuses (with "x 0 0002 1 0 0 0 0\n") graph_b 6 (length library)
    ∷ refuses (with "x 1 0004 1 0 0 0 0\n") graph_b 6 (length library)
    ∷ refuses (with "x 1 0002 1 0 5 0 0\n") graph_b 6 (length library)
    ∷ [])
    ))
unfolding all holds library with graph_b graph18 graph19 graph_later graph_either cell_lines listing text
library-lines_hold = tt

pub first-letters_hold : T (all holds (
    -- "a letter first"
    map (λ (s : String). refuses (with s) graph_b 4 (length library)) ("1x 0 0000 1 0 0 0 0\n" ∷ "_x 0 0000 1 0 0 0 0\n" ∷ [])
    ))
unfolding all holds library with graph_b text
first-letters_hold = tt

unfoldable pub letters : List Case
unfolding library with graph_b text
letters =
    -- letters of either case, digits and underscores
    refuses (with "Zz_Aa9 0 0002 1 0 0 0 0\n") graph_b 6 (length library)
    ∷ []

pub letters_hold : T (all holds letters)
unfolding all holds letters
letters_hold = tt

pub headers_hold : T (all holds (
    -- 7, 8, 9
    map (λ (s : String). refuses library s 7 0) ("" ∷ "aag 0 0 0 0 0" ∷ "aag 0 0 0 0\n" ∷ "aag 0 0 0 0 0 0\n" ∷ "aigx 0 0 0 0 0\n" ∷
    "AIG 0 0 0 0 0\n" ∷ "aig\n" ∷ "aig 0 0 0 0 0" ∷ "aag 65536 0 0 0 0\n" ∷ [])
    ))
unfolding all holds library with graph_b graph18 graph19 graph_later graph_either cell_lines listing text
headers_hold = tt

pub limits_hold : T (all holds (
    refuses library "aag 1 0 1 0 0\n2 2\n" 8 0
    ∷ refuses library "aag 4096 0 1 0 0\n" 8 0
    ∷ refuses library "aag 4096 0 0 0 0\n" 9 0
    ∷ refuses library "aag 0 0 0 4097 0\n" 9 0
    ∷ refuses library "aag 0 0 0 4096 0\n" 11 17
    ∷ refuses library "aag 1 1 0 0 1\n2\n2 0 0\n" 9 0
    ∷ []
    ))
unfolding all holds library with graph_b graph18 graph19 graph_later graph_either cell_lines listing text
limits_hold = tt

pub expected-lines_hold : T (all holds (
    -- 10
    lacks library "aag 4095 0 0 0 0\n" 507903 0 10 0
    ∷ lacks library graph_b 496 65536 10 0
    -- 11
    ∷ refuses library "aag 3 2 0 1 1\n2\n4\n6\n" 11 20
    ∷ refuses library "aag 3 2 0 1 1\n2\n4\n6\n6 2 4" 11 20
    ∷ refuses library "aag 3 2 0 1 1\n2\n04\n6\n6 2 4\n" 11 16
    ∷ refuses library "aag 3 2 0 1 1\n2\n4\n6\n6 2 4 \n" 11 20
    ∷ refuses library "aag 3 2 0 1 1\n2\n4\n65536\n6 2 4\n" 11 18
    ∷ []
    ))
unfolding all holds library with graph_b graph18 graph19 graph_later graph_either cell_lines listing text
expected-lines_hold = tt

pub literals_hold : T (all holds (
    -- 12, then 13, line by line
    refuses library "aag 3 2 0 1 1\n2\n4\n8\n6 2 4\n" 12 18
    ∷ refuses library "aag 3 2 0 1 1\n2\n0\n6\n6 2 4\n" 12 16
    ∷ refuses library "aag 3 2 0 1 1\n2\n5\n6\n6 2 4\n" 12 16
    ∷ refuses library "aag 3 2 0 1 1\n2\n4\n6\n7 2 4\n" 12 20
    ∷ refuses library "aag 3 2 0 1 1\n2\n4\n6\n6 8 2\n" 12 20
    ∷ refuses library "aag 3 2 0 1 1\n2\n4\n6\n6 2 8\n" 12 20
    ∷ refuses library "aag 3 2 0 1 1\n2\n2\n6\n6 2 4\n" 13 16
    ∷ refuses library "aag 3 2 0 1 1\n2\n4\n6\n4 2 4\n" 13 20
    ∷ []
    ))
unfolding all holds library with graph_b graph18 graph19 graph_later graph_either cell_lines listing text
literals_hold = tt

pub undefined_hold : T (all holds (
    -- 14: outputs stand before ANDs; a variable may be defined nowhere
    refuses library "aag 4 2 0 1 1\n2\n4\n8\n6 2 8\n" 14 18
    ∷ refuses library "aag 4 2 0 1 1\n2\n4\n6\n6 2 8\n" 14 20
    ∷ gives library "aag 4 2 0 1 1\n2\n4\n6\n6 2 4\n" 2 30
    ∷ []
    ))
unfolding all holds library with graph_b graph18 graph19 graph_later graph_either cell_lines listing text
undefined_hold = tt

pub unordered_hold : T (all holds (
    -- 15: also an AND that only waits behind a cycle
    refuses library "aag 3 0 0 0 3\n2 4 4\n4 6 6\n6 4 4\n" 15 1
    ∷ refuses library "aag 2 1 0 0 1\n2\n4 4 2\n" 15 2
    ∷ refuses library "aag 2 0 0 0 2\n4 2 2\n2 4 4\n" 15 1
    ∷ []
    ))
unfolding all holds library with graph_b graph18 graph19 graph_later graph_either cell_lines listing text
unordered_hold = tt

pub cuts-and-covers_hold : T (all holds (
    -- 16
    gives library graph18 0 0
    ∷ refuses library graph19 16 6
    ∷ refuses library graph_later 16 7
    ∷ refuses library graph_either 16 6
    -- 17
    ∷ refuses library "aag 1 1 0 2 0\n2\n2\n0\n" 17 1
    ∷ refuses (text "cell pins table area d0 d1 d2 d3\n") "aag 1 1 0 2 0\n2\n3\n2\n" 17 0
    -- 18, and the words that are enough
    ∷ suffices library graph_b 497 134 2 30
    ∷ lacks library graph_b 497 133 18 134
    ∷ []
    ))
unfolding all holds library with graph_b graph18 graph19 graph_later graph_either cell_lines listing text
cuts-and-covers_hold = tt

-- ---- the binary form

-- the header of a binary text whose one AND is variable 64, of literal 128: 16 bytes
unfoldable pub head64 : List ℕ
unfolding text
head64 = text "aig 64 63 0 0 1\n"

-- F in the binary form
unfoldable pub binary_f : List ℕ
unfolding text
binary_f = text "aig 6 3 0 0 3\n" ++ (4 ∷ 2 ∷ 2 ∷ 2 ∷ 2 ∷ 2 ∷ [])

-- "Each AND is two differences, left minus first operand and first minus second. A difference is in groups of seven bits, lowest first, the top bit
-- set on all but the last byte."
pub binaries_hold : T (all holds (
    -- the binary forms of B and of F
    prints_bytes library (head_b ++ (2 ∷ 2 ∷ [])) listing 2 3 30
    ∷ means (head_b ++ (2 ∷ 2 ∷ [])) "aag 3 2 0 1 1\n2\n4\n6\n6 4 2\n"
    ∷ lists_bytes binary_f 6 ((6 ∷ []) ∷ (3 ∷ 4 ∷ []) ∷ (4 ∷ 5 ∷ []) ∷ (1 ∷ 2 ∷ 3 ∷ []) ∷ (1 ∷ 2 ∷ 5 ∷ []) ∷ (1 ∷ 2 ∷ 3 ∷ 4 ∷ []) ∷ []) (1 ∷ 2 ∷ 3 ∷ 4 ∷ []) 0xf000
    -- an ASCII text is its own ASCII form
    ∷ means (text "aag 7 2 0 2 1\n4\n2\n7\n0\n6 3 5\n") "aag 7 2 0 2 1\n4\n2\n7\n0\n6 3 5\n"
    -- a zero group in the first and in the second difference; what follows the last difference isn't read
    ∷ prints_bytes library (head_b ++ (130 ∷ 0 ∷ 2 ∷ [])) listing 2 3 30
    ∷ prints_bytes library (head_b ++ (2 ∷ 130 ∷ 0 ∷ 255 ∷ 255 ∷ 255 ∷ [])) listing 2 3 30
    ∷ means (head_b ++ (129 ∷ 0 ∷ 1 ∷ [])) "aag 3 2 0 1 1\n2\n4\n6\n6 5 4\n"
    -- a second difference of 0; differences that leave 0
    ∷ means (head_b ++ (4 ∷ 0 ∷ [])) "aag 3 2 0 1 1\n2\n4\n6\n6 2 2\n"
    ∷ means (head_b ++ (6 ∷ 0 ∷ [])) "aag 3 2 0 1 1\n2\n4\n6\n6 0 0\n"
    ∷ means (head_b ++ (1 ∷ 5 ∷ [])) "aag 3 2 0 1 1\n2\n4\n6\n6 5 0\n"
    -- ANDs follow in sequence; a difference may be byte 10; an output may be a complement
    ∷ means (text "aig 4 2 0 1 2\n9\n" ++ (2 ∷ 2 ∷ 1 ∷ 3 ∷ [])) "aag 4 2 0 1 2\n2\n4\n9\n6 4 2\n8 7 4\n"
    ∷ means (text "aig 6 5 0 0 1\n" ++ (10 ∷ 1 ∷ [])) "aag 6 5 0 0 1\n2\n4\n6\n8\n10\n12 2 1\n"
    -- one group and two: differences of 127 and 128 from literal 128
    ∷ has_and (head64 ++ (127 ∷ 0 ∷ [])) 64 1 1
    ∷ has_and (head64 ++ (128 ∷ 1 ∷ 0 ∷ [])) 64 0 0
    ∷ has_and (head64 ++ (1 ∷ 255 ∷ 0 ∷ [])) 64 127 0
    ∷ []
    ))
unfolding all holds library listing text head_b head64 binary_f
binaries_hold = tt

-- 19 to 21 in their places, and 11 and 12 of output lines
pub binary-refusals_hold : T (all holds (
    -- 19: after 8 and 9, before 10
    refuses_bytes (text "aig 4 2 0 1 1\n6\n" ++ (2 ∷ 2 ∷ [])) 32768 19 0
    ∷ refuses_bytes (text "aig 4 2 0 1 1\n6\n" ++ (2 ∷ 2 ∷ [])) 0 19 0
    ∷ refuses_bytes (text "aig 4 2 1 1 1\n") 0 8 0
    ∷ refuses_bytes (text "aig 3 2 0 1 2\n") 0 9 0
    ∷ refuses_bytes (text "aig 4 2 0 4097 1\n") 0 9 0
    ∷ refuses_bytes (head_b ++ (2 ∷ 2 ∷ [])) 496 10 0
    -- 11 and 12 of an output line, before 20
    ∷ refuses_bytes (text "aig 3 2 0 1 1\n") 32768 11 14
    ∷ refuses_bytes (text "aig 3 2 0 1 1\n6") 32768 11 14
    ∷ refuses_bytes (text "aig 3 2 0 2 1\n6\n06\n") 32768 11 16
    ∷ refuses_bytes (text "aig 3 2 0 1 1\n6 6\n" ++ (2 ∷ 2 ∷ [])) 32768 11 14
    ∷ refuses_bytes (text "aig 3 2 0 1 1\n6" ++ (13 ∷ 10 ∷ 2 ∷ 2 ∷ [])) 32768 11 14
    ∷ refuses_bytes (text "aig 3 2 0 1 1\n8\n") 32768 12 14
    -- 20 where the text ends: before a difference, whose place is then the text's length, and in one
    ∷ refuses_bytes head_b 32768 20 16
    ∷ refuses_bytes (head_b ++ (2 ∷ [])) 32768 20 17
    ∷ refuses_bytes (head_b ++ (130 ∷ 0 ∷ [])) 32768 20 18
    ∷ refuses_bytes (head_b ++ (130 ∷ [])) 32768 20 16
    ∷ refuses_bytes (head_b ++ (2 ∷ 130 ∷ [])) 32768 20 17
    ∷ refuses_bytes (head_b ++ (130 ∷ 128 ∷ [])) 32768 20 16
    -- 20 where a difference takes three bytes, whatever it would be
    ∷ refuses_bytes (head_b ++ (130 ∷ 128 ∷ 0 ∷ 2 ∷ [])) 32768 20 16
    ∷ refuses_bytes (head_b ++ (2 ∷ 128 ∷ 128 ∷ 0 ∷ [])) 32768 20 17
    ∷ refuses_bytes (head_b ++ (128 ∷ 128 ∷ 0 ∷ 2 ∷ [])) 32768 20 16
    ∷ refuses_bytes (head_b ++ (255 ∷ 255 ∷ 127 ∷ 2 ∷ [])) 32768 20 16
    -- 21: a first difference of 0, padded too; one that exceeds what it is taken from, first or second
    ∷ refuses_bytes (head_b ++ (0 ∷ 2 ∷ [])) 32768 21 16
    ∷ refuses_bytes (head_b ++ (128 ∷ 0 ∷ 2 ∷ [])) 32768 21 16
    ∷ refuses_bytes (head_b ++ (7 ∷ 0 ∷ [])) 32768 21 16
    ∷ refuses_bytes (head_b ++ (2 ∷ 5 ∷ [])) 32768 21 17
    ∷ refuses_bytes (head_b ++ (130 ∷ 0 ∷ 5 ∷ [])) 32768 21 18
    ∷ refuses_bytes (head64 ++ (129 ∷ 1 ∷ 0 ∷ [])) 32768 21 16
    ∷ refuses_bytes (text "aig 4 2 0 1 2\n6\n" ++ (2 ∷ 2 ∷ 9 ∷ 0 ∷ [])) 32768 21 18
    -- difference by difference: a first one's 21 before a second one's 20
    ∷ refuses_bytes (head_b ++ (0 ∷ 128 ∷ 128 ∷ [])) 32768 21 16
    ∷ refuses_bytes (head_b ++ (7 ∷ [])) 32768 21 16
    ∷ []
    ))
unfolding all holds text head_b head64
binary-refusals_hold = tt

-- ---- either line end

-- the library with every line ended in 13 and 10, and with only its second
unfoldable pub long_library : List ℕ
unfolding text
long_library = text "cell pins table area d0 d1 d2 d3\r\ninv 1 0001 1 10 0 0 0\r\nnand2 2 0007 2 20 20 0 0\r\n"

unfoldable pub mixed_library : List ℕ
unfolding text
mixed_library = text "cell pins table area d0 d1 d2 d3\ninv 1 0001 1 10 0 0 0\r\nnand2 2 0007 2 20 20 0 0\n"

-- the first of them, of 83 bytes, with a line added
unfoldable pub long_with : String → List ℕ
unfolding long_library text
long_with line = long_library ++ text line

-- 32 cells without pins, their lines ended in 13 and 10: 728 bytes
unfoldable pub long_lines : List ℕ
unfolding text each below decimal
long_lines = text "cell pins table area d0 d1 d2 d3\r\n" ++ each (λ (k : ℕ). 99 ∷ decimal k ++ text " 0 0000 1 0 0 0 0\r\n") (below 32)

-- "Accept either ending, line by line": the marked texts again; "Offsets still count every byte. A lone 13 is still a fault of form."
pub long-ends_hold : T (all holds (
    -- A to K, all lines long, or some
    gives long_library "aag 0 0 0 0 0\r\n" 0 0
    ∷ prints long_library "aag 3 2 0 1 1\r\n2\r\n4\r\n6\r\n6 2 4\r\n" listing 2 3 30
    ∷ prints mixed_library "aag 3 2 0 1 1\n2\r\n4\n6\r\n6 2 4\n" listing 2 3 30
    ∷ prints library "aag 3 2 0 1 1\r\n2\n4\r\n6\n6 2 4\r\n" listing 2 3 30
    ∷ prints long_library graph_b listing 2 3 30
    ∷ gives (long_with "nor2 2 0001 2 35 35 0 0\r\n") graph_c 1 35
    ∷ gives (long_with "nor2 2 0001 2 40 40 0 0\n") graph_c 1 40
    ∷ gives (with "nor2 2 0001 2 41 41 0 0\r\n") "aag 3 2 0 1 1\r\n2\r\n4\r\n6\r\n6 3 5\r\n" 4 40
    ∷ lists "aag 6 3 0 0 3\r\n2\r\n4\r\n6\r\n8 2 4\r\n10 8 6\r\n12 8 10\r\n" 6 ((6 ∷ []) ∷ (3 ∷ 4 ∷ []) ∷ (4 ∷ 5 ∷ []) ∷ (1 ∷ 2 ∷ 3 ∷ []) ∷ (1 ∷ 2 ∷ 5 ∷ []) ∷ (1 ∷ 2 ∷ 3 ∷ 4 ∷ []) ∷ [])
    ∷ gives (long_with "tie0 0 0000 1 0 0 0 0\r\n") "aag 0 0 0 1 0\r\n1\r\n" 2 10
    ∷ refuses long_library "aag 0 0 0 1 0\r\n1\r\n" 17 0
    ∷ refuses long_library "aag 2 0 0 0 2\r\n2 4 4\r\n4 2 2\r\n" 15 1
    ∷ gives long_library "aag 3 1 0 1 2\r\n2\r\n4\r\n4 6 6\r\n6 2 2\r\n" 2 20
    -- 16 of 19 cuts; B with one word and with one byte too few
    ∷ refuses long_library "aag 6 1 0 0 5\r\n2\r\n4 2 2\r\n6 4 2\r\n8 6 2\r\n10 8 8\r\n12 10 10\r\n" 16 6
    ∷ lacks long_library "aag 3 2 0 1 1\r\n2\r\n4\r\n6\r\n6 2 4\r\n" 496 65536 10 0
    ∷ lacks long_library "aag 3 2 0 1 1\r\n2\r\n4\r\n6\r\n6 2 4\r\n" 497 133 18 134
    ∷ []
    ))
unfolding all holds library with listing long_library mixed_library long_with long_lines graph_b graph_c head_b text
long-ends_hold = tt

pub lone-thirteen_hold : T (all holds (
    -- a lone 13: in the names line, in a cell line's first, inner and last field, in the header and the expected lines
    refuses (text "cell pins table area d0 d1 d2 d3\r") graph_b 2 0
    ∷ refuses (text "cell\r pins table area d0 d1 d2 d3\n") graph_b 2 0
    ∷ refuses (text "\r\n") graph_b 2 0
    ∷ map (λ (s : String). refuses (long_with s) graph_b 4 83) ("x\r 0 0000 1 0 0 0 0\n" ∷ "x 0 0000\r 1 0 0 0 0\n" ∷ "x 0 0000 1 0 0 0 0\r" ∷
    "x 0 0000 1 0 0 0 0\r\r\n" ∷ "x 0 0000 1 0 0 0 0\rx 0 0000 1 0 0 0 0\n" ∷ "\r\n" ∷ [])
    ++ (refuses library "aag 3 2 0 1 1\r2\n" 7 0
    ∷ refuses library "aag 0 0 0 0 0\r" 7 0
    ∷ refuses library "aag\r 0 0 0 0 0\n" 7 0
    ∷ refuses library "aag 3 2 0 1 1\r\n2\r4\n6\n6 2 4\n" 11 15
    ∷ refuses library "aag 3 2 0 1 1\r\n2\r\n4\r\r\n6\n6 2 4\n" 11 18
    ∷ refuses library "aag 3 2 0 1 1\r\n2\r\n4\r\n6\r\n6 2 4\r" 11 24
    ∷ refuses library "aag 3 2 0 1 1\r\n2\r\n4\r\n6\r\n" 11 24
    ∷ [])
    ))
unfolding all holds library with listing long_library mixed_library long_with long_lines graph_b graph_c head_b text
lone-thirteen_hold = tt

pub two_thirteens_hold : T (all holds (
    -- one 13 alone belongs to a line's end
    refuses (text "cell pins table area d0 d1 d2 d3\r\r\n") graph_b 2 0
    ∷ refuses library "aag 0 0 0 0 0\r\r\n" 7 0
    ∷ []
    ))
unfolding all holds library graph_b text
two_thirteens_hold = tt

pub places-behind_hold : T (all holds (
    -- what stands behind the last AND line isn't read, a lone 13 neither
    gives library "aag 0 0 0 0 0\r\n\r" 0 0
    -- places behind long ends: 3, 5, 6, 12, 13, 14
    ∷ gives long_lines "aag 0 0 0 0 0\n" 0 0
    ∷ refuses (long_lines ++ text "\r\n") graph_b 3 728
    ∷ refuses (long_with "inv 0 0002 1 0 0 0 0\n") graph_b 5 83
    ∷ refuses (long_with "x 0 0002 1 0 0 0 0\r\n") graph_b 6 83
    ∷ refuses long_library "aag 3 2 0 1 1\r\n2\r\n4\r\n8\n6 2 4\n" 12 21
    ∷ refuses long_library "aag 3 2 0 1 1\r\n2\n2\r\n6\n6 2 4\n" 13 17
    ∷ refuses long_library "aag 4 2 0 1 1\r\n2\r\n4\r\n6\r\n6 2 8\r\n" 14 24
    -- "in library and ASCII graph": in the binary form byte 10 alone ends the header and an output line, and differences may be 13 and 10
    ∷ prints_bytes long_library (head_b ++ (2 ∷ 2 ∷ [])) listing 2 3 30
    ∷ refuses_bytes (text "aig 3 2 0 1 1\r\n6\n" ++ (2 ∷ 2 ∷ [])) 32768 7 0
    ∷ refuses_bytes (text "aig 3 2 0 2 1\n6\n6\r\n" ++ (2 ∷ 2 ∷ [])) 32768 11 16
    ∷ has_and (text "aig 13 12 0 0 1\n" ++ (13 ∷ 10 ∷ [])) 13 13 3
    ∷ []
    ))
unfolding all holds library with listing long_library mixed_library long_with long_lines graph_b graph_c head_b text
places-behind_hold = tt

-- where lines begin, and behind the last where the text ends; and which graphs are in the `aig` form by their first word
pub starts_are : T (
    eqb (line_start (text "2\r\n4\n6") 0) 0
    && (eqb (line_start (text "2\r\n4\n6") 1) 3
    && (eqb (line_start (text "2\r\n4\n6") 2) 5
    && (eqb (line_start (text "2\r\n4\n6") 3) 6
    && (eqb (line_start (text "2\r\r\n") 1) 4
    && (eqb (line_start [] 0) 0
    && (is_binary_text (text "aig 0 0 0 0 0\r\n")
    && (is_binary_text (text "aig\n")
    && (not (is_binary_text (text "aag 0 0 0 0 0\n"))
    && (not (is_binary_text (text "aig\r 0 0 0 0 0\n"))
    && not (is_binary_text [])))))))))))
unfolding line_start is_binary_text text
starts_are = tt
