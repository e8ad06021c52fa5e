-- Outputs' names, wires and figures read back, and late inputs, checked against the definitions by computing.
use Prim.Native.String.{String}
use Rattle.base.specs.{ℕ, List, [], ◌∷◌, ◌++◌, map, T, replicate}
use Rattle.model.specs.{all, text}
use Rattle.cases.proofs.{library, listing, with, graph_b, graph_c, holds, head_b, arrives, prints, gives, lacks, suffices, prints_timed}
use Rattle.cases.proofs.{gives_timed, refuses_timed, says, says_nothing, wires, unread}

-- ---- outputs with names of their own

-- "The list becomes `o0`, `o1` and so on, in file order. Before `.end`, each gets `.names` with its net and its own name, then `1 1`."
pub own-names_hold : T (all holds (
    -- two outputs on one net: two names, and one gate
    prints library "aag 3 2 0 2 1\n2\n4\n6\n6\n6 2 4\n"
    (text ".model top\n.inputs p1 p2\n.outputs o0 o1\n.gate inv A=m3 O=p3\n.gate nand2 A=p1 B=p2 O=m3\n.names p3 o0\n1 1\n.names p3 o1\n1 1\n.end\n# gates 2 area 3 arrival 30\n") 2 3 30
    -- both phases of one AND
    ∷ prints library "aag 3 2 0 2 1\n2\n4\n6\n7\n6 2 4\n"
    (text ".model top\n.inputs p1 p2\n.outputs o0 o1\n.gate inv A=m3 O=p3\n.gate nand2 A=p1 B=p2 O=m3\n.names p3 o0\n1 1\n.names m3 o1\n1 1\n.end\n# gates 2 area 3 arrival 30\n") 2 3 30
    -- an output that is an input, and its complement, in file order
    ∷ prints library "aag 1 1 0 1 0\n2\n2\n" (text ".model top\n.inputs p1\n.outputs o0\n.names p1 o0\n1 1\n.end\n# gates 0 area 0 arrival 0\n") 0 0 0
    ∷ prints library "aag 2 2 0 3 0\n4\n2\n4\n3\n2\n"
    (text ".model top\n.inputs p2 p1\n.outputs o0 o1 o2\n.gate inv A=p1 O=m1\n.names p2 o0\n1 1\n.names m1 o1\n1 1\n.names p1 o2\n1 1\n.end\n# gates 1 area 1 arrival 10\n") 1 1 10
    -- the constants
    ∷ prints (with "tie0 0 0000 1 0 0 0 0\n") "aag 0 0 0 2 0\n1\n0\n"
    (text ".model top\n.inputs\n.outputs o0 o1\n.gate tie0 O=p0\n.gate inv A=p0 O=m0\n.names m0 o0\n1 1\n.names p0 o1\n1 1\n.end\n# gates 2 area 2 arrival 10\n") 2 2 10
    -- no outputs
    ∷ prints library "aag 3 2 0 0 1\n2\n4\n6 2 4\n" (text ".model top\n.inputs p1 p2\n.outputs\n.end\n# gates 0 area 0 arrival 0\n") 0 0 0
    -- eleven outputs: a name of two digits
    ∷ prints library "aag 1 1 0 11 0\n2\n2\n2\n2\n2\n2\n2\n2\n2\n2\n2\n2\n"
    (text ".model top\n.inputs p1\n.outputs o0 o1 o2 o3 o4 o5 o6 o7 o8 o9 o10\n.names p1 o0\n1 1\n.names p1 o1\n1 1\n.names p1 o2\n1 1\n.names p1 o3\n1 1\n.names p1 o4\n1 1\n.names p1 o5\n1 1\n.names p1 o6\n1 1\n.names p1 o7\n1 1\n.names p1 o8\n1 1\n.names p1 o9\n1 1\n.names p1 o10\n1 1\n.end\n# gates 0 area 0 arrival 0\n") 0 0 0
    -- "the figure in 18" counts these lines
    ∷ suffices library "aag 1 1 0 1 0\n2\n2\n" 32768 83 0 0
    ∷ lacks library "aag 1 1 0 1 0\n2\n2\n" 32768 82 18 83
    ∷ []
    ))
unfolding all holds library with text
own-names_hold = tt

-- the lines before an output's own, and those behind them
unfoldable pub wired : String → List ℕ
unfolding text
wired lines = text ".model top\n.inputs p1\n.outputs o0\n" ++ (text lines ++ text ".end\n# gates 0 area 0 arrival 0\n")

-- how these lines are read: `.names` of two nets and the row `1 1`, behind the gates
pub wires-read_hold : T (all holds (
    wires listing (text "o0" ∷ []) (text "p3" ∷ text "o0" ∷ [])
    ∷ wires (wired ".names p1 o0\n1 1\n") (text "o0" ∷ []) (text "p1" ∷ text "o0" ∷ [])
    ∷ wires (wired ".gate inv A=p1 O=m1\n.names m1 o0\n1 1\n.names p1 o1\n1 1\n") (text "o0" ∷ []) (text "m1" ∷ text "o0" ∷ text "p1" ∷ text "o1" ∷ [])
    ∷ wires (wired "") (text "o0" ∷ []) []
    -- an inverter, a constant, two rows and no row are no wires
    ∷ map (λ (s : String). unread (wired s)) (".names p1 o0\n1 0\n" ∷ ".names p1 o0\n0 1\n" ∷ ".names p1 o0\n- 1\n" ∷
    ".names p1 o0\n1 1\n0 1\n" ∷ ".names p1 o0\n" ∷ ".names p1 o0\n1 1 \n" ∷ [])
    -- one net or three; another keyword; a gate behind a wire; no end
    ++ (unread (wired ".names o0\n1 1\n")
    ∷ unread (wired ".names p1 p1 o0\n1 1\n")
    ∷ unread (wired ".name p1 o0\n1 1\n")
    ∷ unread (wired ".names p1 o0\n1 1\n.gate inv A=p1 O=m1\n")
    ∷ unread (text ".model top\n.inputs p1\n.outputs o0\n.names p1 o0\n1 1\n")
    ∷ [])
    ))
unfolding all holds listing wired text
wires-read_hold = tt

-- ---- inputs that arrive late

pub input-arrival-inputs_hold : T (all holds (
    -- B with its first input at 100, with its second, the last index, and with both
    prints_timed library (text graph_b) (arrives "0 100\n")
    (text ".model top\n.inputs p1 p2\n.outputs o0\n.gate inv A=m3 O=p3\n.gate nand2 A=p1 B=p2 O=m3\n.names p3 o0\n1 1\n.end\n# gates 2 area 3 arrival 130\n") 2 3 130
    ∷ gives_timed library (text graph_b) (arrives "1 100\n") 2 130
    ∷ gives_timed library (text graph_b) (arrives "1 100\n0 120\n") 2 150
    -- "or empty for none"; the first line alone; an input listed at 0
    ∷ prints_timed library (text graph_b) [] listing 2 3 30
    ∷ prints_timed library (text graph_b) (arrives "") listing 2 3 30
    ∷ prints_timed library (text graph_b) (arrives "0 0\n") listing 2 3 30
    -- lines "ended as library lines are"
    ∷ gives_timed library (text graph_b) (text "input arrival" ++ (13 ∷ 10 ∷ text "0 100" ++ (13 ∷ 10 ∷ text "1 7\n"))) 2 130
    -- C, its nor2 first: with an input late, a second nor2 whose pin B is quick is chosen, fed by the late input there
    ∷ gives (with "nor2 2 0001 2 35 35 0 0\nnor2q 2 0001 3 50 5 0 0\n") graph_c 1 35
    ∷ prints_timed (with "nor2 2 0001 2 35 35 0 0\nnor2q 2 0001 3 50 5 0 0\n") (text graph_c) (arrives "0 100\n")
    (text ".model top\n.inputs p1 p2\n.outputs o0\n.gate nor2q A=p2 B=p1 O=p3\n.names p3 o0\n1 1\n.end\n# gates 1 area 3 arrival 105\n") 1 3 105
    -- and with a nand2 whose pin B is quick, inverters and this nand2 are chosen in place of nor2
    ∷ gives (with "nor2 2 0001 2 35 35 0 0\nnand2q 2 0007 2 40 2 0 0\n") graph_c 1 35
    ∷ prints_timed (with "nor2 2 0001 2 35 35 0 0\nnand2q 2 0007 2 40 2 0 0\n") (text graph_c) (arrives "0 100\n")
    (text ".model top\n.inputs p1 p2\n.outputs o0\n.gate inv A=p1 O=m1\n.gate inv A=p2 O=m2\n.gate inv A=m3 O=p3\n.gate nand2q A=m2 B=m1 O=m3\n.names p3 o0\n1 1\n.end\n# gates 4 area 5 arrival 122\n") 4 5 122
    -- E, with pin B of nor2 at 31: nor2 is chosen in place of inverters and nand2
    ∷ gives (with "nor2 2 0001 2 41 31 0 0\n") graph_c 4 40
    ∷ gives_timed (with "nor2 2 0001 2 41 31 0 0\n") (text graph_c) (arrives "0 100\n") 1 131
    -- D, with an input late: the tie goes to the cell
    ∷ gives_timed (with "nor2 2 0001 2 40 40 0 0\n") (text graph_c) (arrives "1 9\n") 1 49
    -- an index is a place in the file's inputs: variable 2 stands first
    ∷ gives_timed library (text "aag 2 2 0 1 0\n4\n2\n2\n") (arrives "1 7\n") 0 7
    ∷ gives_timed library (text "aag 2 2 0 1 0\n4\n2\n2\n") (arrives "0 7\n") 0 0
    ∷ gives_timed library (text "aag 2 2 0 2 0\n4\n2\n4\n2\n") (arrives "0 7\n") 0 7
    -- an input's own net and its complement, as late as can be
    ∷ gives_timed library (text "aag 1 1 0 1 0\n2\n2\n") (arrives "0 65535\n") 0 65535
    ∷ gives_timed library (text "aag 1 1 0 1 0\n2\n3\n") (arrives "0 65535\n") 1 65545
    -- "0 for a cell without pins", and an input that nothing uses
    ∷ gives_timed (with "tie0 0 0000 1 0 0 0 0\n") (text "aag 1 1 0 1 0\n2\n1\n") (arrives "0 100\n") 2 10
    -- the binary form
    ∷ gives_timed library (head_b ++ (2 ∷ 2 ∷ [])) (arrives "0 100\n") 2 130
    ∷ []
    ))
unfolding all holds library listing with graph_b graph_c head_b arrives text
input-arrival-inputs_hold = tt

-- "25 when a line breaks its form; 26 when an index is I or more, or is repeated, both line by line after 14, at the line's offset"
pub input-arrival-refusals_hold : T (all holds (
    -- the first line: it is `input arrival` where there is one
    map (λ (s : String). refuses_timed library (text graph_b) (text s) 32768 25 0) ("\n" ∷ "input arrival" ∷ "input arrival \n" ∷
    "input  arrival\n" ∷ "Input arrival\n" ∷ "0 100\n" ∷ [])
    ++ (refuses_timed library (text graph_b) (text "input arrival" ++ (13 ∷ 13 ∷ 10 ∷ [])) 32768 25 0
    -- two numbers, one space, no leading zeros, an end
    ∷ map (λ (s : String). refuses_timed library (text graph_b) (arrives s) 32768 25 14) ("\n" ∷ "0\n" ∷ "0 \n" ∷ "0 5 6\n" ∷ "0  5\n" ∷
    " 0 5\n" ∷ "0 5 \n" ∷ "0 5" ∷ "0 05\n" ∷ "00 5\n" ∷ "0 5a\n" ∷ "0 -5\n" ∷ "p1 5\n" ∷ "0 65536\n" ∷ "65536 0\n" ∷ [])
    ++ (refuses_timed library (text graph_b) (arrives "0 5" ++ (13 ∷ [])) 32768 25 14
    ∷ refuses_timed library (text graph_b) (text "input arrival" ++ (13 ∷ 10 ∷ text "0 5" ++ (13 ∷ 10 ∷ text "1\n"))) 32768 25 20
    -- an index of I, and the largest; every index where there are no inputs
    ∷ refuses_timed library (text graph_b) (arrives "2 5\n") 32768 26 14
    ∷ refuses_timed library (text graph_b) (arrives "65535 5\n") 32768 26 14
    ∷ refuses_timed library (text graph_b) (arrives "1 5\n2 5\n") 32768 26 18
    ∷ refuses_timed library (text "aag 0 0 0 0 0\n") (arrives "0 0\n") 32768 26 14
    ∷ gives_timed library (text "aag 0 0 0 0 0\n") (arrives "") 0 0
    -- an input listed twice, at one time too, and at 0
    ∷ refuses_timed library (text graph_b) (arrives "0 5\n0 6\n") 32768 26 18
    ∷ refuses_timed library (text graph_b) (arrives "0 5\n1 5\n0 5\n") 32768 26 22
    ∷ refuses_timed library (text graph_b) (arrives "0 0\n0 0\n") 32768 26 18
    -- line by line: on one line 25 first, and an earlier line's before a later one's
    ∷ refuses_timed library (text graph_b) (arrives "2 x\n") 32768 25 14
    ∷ refuses_timed library (text graph_b) (arrives "0 0\n0 00\n") 32768 25 18
    ∷ refuses_timed library (text graph_b) (arrives "0 x\n2 5\n") 32768 25 14
    ∷ refuses_timed library (text graph_b) (arrives "2 5\n0 x\n") 32768 26 14
    ∷ refuses_timed library (text graph_b) (arrives "0 5\n0 6\n1\n") 32768 26 18
    -- after 10 and after 14, before 15 and before 17
    ∷ refuses_timed library (text graph_b) (text "\n") 496 10 0
    ∷ refuses_timed library (text "aag 4 2 0 1 1\n2\n4\n8\n6 2 4\n") (text "\n") 32768 14 18
    ∷ refuses_timed library (text "aag 2 0 0 0 2\n2 4 4\n4 2 2\n") (text "\n") 32768 25 0
    ∷ refuses_timed library (text "aag 2 0 0 0 2\n2 4 4\n4 2 2\n") (arrives "0 0\n") 32768 26 14
    ∷ refuses_timed library (text "aag 2 0 0 0 2\n2 4 4\n4 2 2\n") (arrives "") 32768 15 1
    ∷ refuses_timed library (text "aag 0 0 0 1 0\n1\n") (arrives "0 0\n") 32768 26 14
    -- "1 covers this text too", before 2
    ∷ refuses_timed [] (text graph_b) (replicate 65537 10) 32768 1 0
    ∷ refuses_timed [] (text graph_b) (replicate 65536 10) 32768 2 0
    ∷ []))
    ))
unfolding all holds library graph_b arrives text
input-arrival-refusals_hold = tt

-- what a text's `# gates` line says: the line behind `.end` alone is read
pub said_hold : T (all holds (
    says listing 2 3 30
    ∷ says (listing ++ text "# timing o0 30\n") 2 3 30
    ∷ says (text ".end\n# gates 0 area 65536 arrival 1000\n") 0 65536 1000
    ∷ map (λ (s : String). says_nothing (text s)) (".end\n" ∷ "# gates 2 area 3 arrival 30\n.end\n" ∷
    ".end\n\n# gates 2 area 3 arrival 30\n" ∷ ".end\n# gates 2 area 3 arrival 030\n" ∷ ".end\n# gates 2 area 3 arrival \n" ∷
    ".end\n# gates 2 area 3 arrival 30 \n" ∷ ".end\n# gates 2 area 3 arrival 3a\n" ∷ ".end\n# area 3 gates 2 arrival 30\n" ∷ [])
    ))
unfolding all holds listing text
said_hold = tt
