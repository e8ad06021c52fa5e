-- The marked cases A to K of the document, from the texts on, matches and ties, and what a call leaves and returns, checked against the definitions
-- by computing.
use Rattle.std.specs.Prelude.{Ok}
use Prim.Native.String.{String}
use Rattle.base.specs.{ℕ, Bool, false, ◌&&◌, List, [], ◌∷◌, ◌++◌, T, eqb, replicate}
use Rattle.model.specs.{all, same, need, text, refused, mapped, Verdict, refused_with, verdict_refusal, read_header, header_answer, header_values}
use Rattle.model.specs.{call_of, map_texts, answer_of, returned, returned_by, text_after, work_after}
use Rattle.model.specs.declared.Refusal.{Refusal}
use Rattle.cases.proofs.{library, listing, with, graph_b, graph_c, graph_f, Case, given, map_text, holds, is_returned, prints, gives, refuses}
use Rattle.cases.proofs.{lists, computes, takes}

pub marked_a_b_hold : T (all holds (
    -- A
    gives library "aag 0 0 0 0 0\n" 0 0
    -- B
    ∷ prints library graph_b listing 2 3 30
    ∷ []
    ))
unfolding all holds library listing with graph_b graph_c graph_f
marked_a_b_hold = tt

pub marked_c_d_e_hold : T (all holds (
    -- C, D, E
    gives (with "nor2 2 0001 2 35 35 0 0\n") graph_c 1 35
    ∷ gives (with "nor2 2 0001 2 40 40 0 0\n") graph_c 1 40
    ∷ gives (with "nor2 2 0001 2 41 41 0 0\n") graph_c 4 40
    ∷ []
    ))
unfolding all holds library listing with graph_b graph_c graph_f
marked_c_d_e_hold = tt

pub marked_f_hold : T (all holds (
    -- F
    lists graph_f 6 ((6 ∷ []) ∷ (3 ∷ 4 ∷ []) ∷ (4 ∷ 5 ∷ []) ∷ (1 ∷ 2 ∷ 3 ∷ []) ∷ (1 ∷ 2 ∷ 5 ∷ []) ∷ (1 ∷ 2 ∷ 3 ∷ 4 ∷ []) ∷ [])
    ∷ computes graph_f (1 ∷ 2 ∷ 3 ∷ 4 ∷ []) 6 0xf000
    ∷ []
    ))
unfolding all holds library listing with graph_b graph_c graph_f
marked_f_hold = tt

pub marked_g_hold : T (all holds (
    -- G
    takes 1 4 8
    ∷ []
    ))
unfolding all holds library listing with graph_b graph_c graph_f
marked_g_hold = tt

pub marked_h_i_j_hold : T (all holds (
    -- H, I
    gives (with "tie0 0 0000 1 0 0 0 0\n") "aag 0 0 0 1 0\n1\n" 2 10
    ∷ refuses library "aag 0 0 0 1 0\n1\n" 17 0
    -- J
    ∷ refuses library "aag 2 0 0 0 2\n2 4 4\n4 2 2\n" 15 1
    ∷ []
    ))
unfolding all holds library listing with graph_b graph_c graph_f
marked_h_i_j_hold = tt

pub marked_k_hold : T (all holds (
    -- K
    gives library "aag 3 1 0 1 2\n2\n4\n4 6 6\n6 2 2\n" 2 20
    ∷ []
    ))
unfolding all holds library listing with graph_b graph_c graph_f
marked_k_hold = tt

-- ---- matches of more than two pins, and ties

-- a library of these lines
unfoldable pub cells : String → List ℕ
unfolding text
cells lines = text "cell pins table area d0 d1 d2 d3\n" ++ text lines

-- s ? ¬a : b, with s the lowest leaf: pins A, B and C fed from the second, third and first leaf, the first complemented; pin C is the latest
unfoldable pub three : List Case
unfolding cells text
three =
    prints (cells "inv 1 0001 1 10 0 0 0\nmux3 3 00ac 7 11 13 40 0\n") "aag 6 3 0 1 3\n2\n4\n6\n13\n8 2 5\n10 3 6\n12 9 11\n"
    (text ".model top\n.inputs p1 p2 p3\n.outputs o0\n.gate inv A=p2 O=m2\n.gate mux3 A=m2 B=p3 C=p1 O=m6\n.names m6 o0\n1 1\n.end\n# gates 2 area 8 arrival 40\n") 2 8 40
    ∷ []

pub three_hold : T (all holds three)
unfolding all holds three
three_hold = tt

-- ((1 and ¬3) or 4) and 2, its complement a cell of four pins: fed from leaves 1, 3, 4 and 2, the second complemented; pin D is the latest, and
-- of the two ways round of pins A and B the first order is taken
unfoldable pub graph_four : String
graph_four = "aag 7 4 0 2 3\n2\n4\n6\n8\n15\n14\n10 2 7\n12 11 9\n14 13 4\n"

unfoldable pub four : List Case
unfolding cells text graph_four
four =
    prints (cells "inv 1 0001 1 10 0 0 0\naoai4 4 07ff 9 31 5 17 1059\n") graph_four
    (text ".model top\n.inputs p1 p2 p3 p4\n.outputs o0 o1\n.gate inv A=p3 O=m3\n.gate inv A=m7 O=p7\n.gate aoai4 A=p1 B=m3 C=p4 D=p2 O=m7\n.names m7 o0\n1 1\n.names p7 o1\n1 1\n.end\n# gates 3 area 11 arrival 1069\n") 3 11 1069
    ∷ []

pub four_hold : T (all holds four)
unfolding all holds four
four_hold = tt

-- the same cell with pin A the latest: the complemented leaf goes to pin B, which bears it
pub four-again_hold : T (all holds (
    prints (cells "inv 1 0001 1 10 0 0 0\naoai4 4 07ff 9 31 5 17 23\n") graph_four
    (text ".model top\n.inputs p1 p2 p3 p4\n.outputs o0 o1\n.gate inv A=p3 O=m3\n.gate inv A=m7 O=p7\n.gate aoai4 A=p1 B=m3 C=p4 D=p2 O=m7\n.names m7 o0\n1 1\n.names p7 o1\n1 1\n.end\n# gates 3 area 11 arrival 41\n") 3 11 41
    ∷ []
    ))
unfolding all holds cells text graph_four
four-again_hold = tt

-- "then cut, cell line, order number, mask, lowest first. Inverters: smallest delay, then first line": in each of these the arrivals are equal, and
-- what comes later in the order of preference would choose the other
unfoldable pub ties : List Case
unfolding cells text
ties =
    -- the lower cut, though the other's cell stands on an earlier line
    prints (cells "and3 3 0080 1 20 20 20 0\nand2 2 0008 1 10 10 0 0\n") "aag 5 3 0 1 2\n2\n4\n6\n10\n8 2 4\n10 8 6\n"
    (text ".model top\n.inputs p1 p2 p3\n.outputs o0\n.gate and2 A=p1 B=p2 O=p4\n.gate and2 A=p3 B=p4 O=p5\n.names p5 o0\n1 1\n.end\n# gates 2 area 2 arrival 20\n") 2 2 20
    -- the earlier line, though the other matches under a lower order
    ∷ prints (cells "y 2 0004 1 5 5 0 0\nx 2 0002 1 5 5 0 0\n") "aag 3 2 0 1 1\n2\n4\n6\n6 2 5\n"
    (text ".model top\n.inputs p1 p2\n.outputs o0\n.gate y A=p2 B=p1 O=p3\n.names p3 o0\n1 1\n.end\n# gates 1 area 1 arrival 5\n") 1 1 5
    -- the lower order, though the other has a lower mask: the inverter takes no time
    ∷ prints (cells "inv 1 0001 1 0 0 0 0\nx 2 0002 1 5 5 0 0\n") "aag 3 2 0 1 1\n2\n4\n6\n6 3 4\n"
    (text ".model top\n.inputs p1 p2\n.outputs o0\n.gate inv A=p1 O=m1\n.gate inv A=p2 O=m2\n.gate x A=m1 B=m2 O=p3\n.names p3 o0\n1 1\n.end\n# gates 3 area 3 arrival 5\n") 3 3 5
    -- the lower mask: complemented at both pins the cell is the same, and the inverter takes no time
    ∷ prints (cells "inv 1 0001 1 0 0 0 0\nxor2 2 0006 3 5 5 0 0\n") "aag 5 2 0 1 3\n2\n4\n11\n6 2 5\n8 3 4\n10 7 9\n"
    (text ".model top\n.inputs p1 p2\n.outputs o0\n.gate xor2 A=p1 B=p2 O=m5\n.names m5 o0\n1 1\n.end\n# gates 1 area 3 arrival 5\n") 1 3 5
    -- the first of the quickest inverters
    ∷ prints (cells "slow 1 0001 1 11 0 0 0\nb 1 0001 9 10 0 0 0\na 1 0001 1 10 0 0 0\n") "aag 1 1 0 1 0\n2\n3\n"
    (text ".model top\n.inputs p1\n.outputs o0\n.gate b A=p1 O=m1\n.names m1 o0\n1 1\n.end\n# gates 1 area 9 arrival 10\n") 1 9 10
    ∷ []

pub ties_hold : T (all holds ties)
unfolding all holds ties
ties_hold = tt

-- ---- the lent memory, and what a call returns

-- "Work memory is unchanged by every refusal tried up to 10, and all zero after a later one and after success."
pub work_left_lem : T (
    same (work_after (refused 1 0) (7 ∷ 8 ∷ [])) (7 ∷ 8 ∷ [])
    && (same (work_after (refused 10 0) (7 ∷ 8 ∷ [])) (7 ∷ 8 ∷ [])
    && (same (work_after (refused 19 0) (7 ∷ 8 ∷ [])) (7 ∷ 8 ∷ [])
    && (same (work_after (refused 20 16) (7 ∷ 8 ∷ [])) (0 ∷ 0 ∷ [])
    && (same (work_after (refused 21 16) (7 ∷ 8 ∷ [])) (0 ∷ 0 ∷ [])
    && (same (work_after (refused 11 20) (7 ∷ 8 ∷ [])) (0 ∷ 0 ∷ [])
    && (same (work_after (refused 25 0) (7 ∷ 8 ∷ [])) (0 ∷ 0 ∷ [])
    && (same (work_after (refused 26 14) (7 ∷ 8 ∷ [])) (0 ∷ 0 ∷ [])
    && (same (work_after (refused 18 134) (7 ∷ 8 ∷ [])) (0 ∷ 0 ∷ [])
    && same (work_after (mapped (5 ∷ []) (record { gates = 0; area = 0; arrival = 0 })) (7 ∷ 8 ∷ [])) (0 ∷ 0 ∷ [])))))))))
    )
unfolding same work_after
work_left_lem = tt

-- "a refusal .. with text memory unchanged"; "On success text memory begins with the netlist and keeps its other bytes."
pub text-left : T (
    same (text_after (refused 10 0) (7 ∷ 8 ∷ 9 ∷ [])) (7 ∷ 8 ∷ 9 ∷ [])
    && (same (text_after (refused 11 20) (7 ∷ 8 ∷ 9 ∷ [])) (7 ∷ 8 ∷ 9 ∷ [])
    && (same (text_after (refused 18 134) (7 ∷ 8 ∷ 9 ∷ [])) (7 ∷ 8 ∷ 9 ∷ [])
    && same (text_after (mapped (5 ∷ 6 ∷ []) (record { gates = 0; area = 0; arrival = 0 })) (7 ∷ 8 ∷ 9 ∷ [])) (5 ∷ 6 ∷ 9 ∷ [])))
    )
unfolding same text_after
text-left = tt

-- "Success returns number 0, the netlist's length and the three figures of its `# gates` line; a refusal its number, its place and zero figures":
-- of B, and of B with one byte too few
pub returns_are : T (
    is_returned 0 134 2 3 30 (returned (answer_of (map_text library graph_b)))
    && (is_returned 0 134 2 3 30 (returned_by (map_text library graph_b))
    && (is_returned 18 134 0 0 0 (returned (answer_of (map_texts (given library graph_b 497 133))))
    && is_returned 18 134 0 0 0 (returned_by (map_texts (given library graph_b 497 133)))))
    )
unfolding is_returned returned returned_by answer_of map_text map_texts library graph_b text
returns_are = tt

unfoldable pub is_refusal : ℕ → ℕ → Refusal → Bool
is_refusal number place r = eqb number r.number && eqb place r.place

abbrev pub accepted : Verdict
accepted = Ok tt

abbrev pub refused_five : Verdict
refused_five = refused_with 5 86

-- the number and place of each case of the other answers, and a header's values
pub rulings_are : T (
    is_refusal 0 0 (verdict_refusal accepted)
    && (is_refusal 5 86 (verdict_refusal refused_five)
    && (is_refusal 0 0 (verdict_refusal (header_answer (read_header (text graph_b))))
    && (is_refusal 8 0 (verdict_refusal (header_answer (read_header (text "aag 1 0 1 0 0\n"))))
    && (same (header_values (header_answer (read_header (text graph_b)))) (3 ∷ 2 ∷ 0 ∷ 1 ∷ 1 ∷ [])
    && same (header_values (header_answer (read_header (text "aag 1 0 1 0 0\n")))) []))))
    )
unfolding is_refusal verdict_refusal header_answer header_values read_header text graph_b same
rulings_are = tt

-- "124(M+1) + O words", so that the 32,768 of the program are those of "260 variables with up to 404 outputs"
pub need-is : T (eqb (need 0 0) 124 && (eqb (need 3 1) 497 && (eqb (need 260 404) 32768 && eqb (need 4095 4096) 512000)))
unfolding need
need-is = tt

-- a call on texts and lent memory: each text in its place, and as many words and bytes as are lent. With input 0 at 40 B's output comes at 70
pub call_is : T (
    is_returned 0 134 2 3 30 (returned_by (map_texts (call_of false library (text graph_b) [] (replicate 497 0) (replicate 134 0))))
    && (is_returned 10 0 0 0 0 (returned_by (map_texts (call_of false library (text graph_b) [] (replicate 496 0) (replicate 134 0))))
    && (is_returned 18 134 0 0 0 (returned_by (map_texts (call_of false library (text graph_b) [] (replicate 497 0) (replicate 133 0))))
    && is_returned 0 134 2 3 70 (returned_by (map_texts (call_of false library (text graph_b) (text "input arrival\n0 40\n") (replicate 497 0) (replicate 134 0))))))
    )
unfolding is_returned returned_by map_texts library graph_b text
call_is = tt
