-- Edited netlists checked from the texts on, against the definitions by computing: each refusal's place, the lowest assignment that differs and its first wrong
-- output, worked out by hand from the document.
use Rattle.std.specs.Prelude.{Ok}
use Prim.Native.String.{String}
use Rattle.base.specs.{ℕ, Bool, ◌&&◌, List, [], ◌∷◌, ◌++◌, T, eqb, replicate}
use Rattle.model.specs.{refused_with, all, same, text, CheckResult, check_texts, result_of, checked_work}
use Rattle.model.specs.declared.Comparison.TheVariants.{Equal, Differs}
use Rattle.cases.proofs.{library, with, listing, graph_b, head_b}

-- a check's texts, with so many words lent, and what is returned
pub record CheckCase : Type 0 where
  pub library : List ℕ
  pub graph : List ℕ
  pub netlist : List ℕ
  pub words : ℕ
  pub expected : CheckResult

unfoldable pub same_result : CheckResult → CheckResult → Bool
same_result a b = eqb a.verdict b.verdict && (eqb a.first b.first && eqb a.second b.second)

unfoldable pub check_holds : CheckCase → Bool
unfolding same_result result_of check_texts
check_holds x = same_result x.expected (result_of (check_texts x.library x.graph x.netlist x.words))

-- accepted; this assignment and this output differ; this refusal at this place
abbrev pub accepts : CheckResult
accepts = record { verdict = 0; first = 0; second = 0 }

abbrev pub differs : ℕ → ℕ → CheckResult
differs s k = record { verdict = 1; first = s; second = k }

abbrev pub refuses : ℕ → ℕ → CheckResult
refuses n k = record { verdict = 2; first = n; second = k }

-- the program's words
unfoldable pub case : List ℕ → String → String → CheckResult → CheckCase
unfolding text
case l g n d = record { library = l; graph = text g; netlist = text n; words = 32768; expected = d }

-- the library of B, graph B and a netlist in its frame: these lines stand at 37
unfoldable pub in_b : String → CheckResult → CheckCase
unfolding library graph_b text
in_b lines d = record { library = library; graph = text graph_b; netlist = text ".model top\n.inputs p1 p2\n.outputs o0\n" ++ text lines; words = 32768; expected = d }

-- the same with one output more, the negative phase of variable 3
unfoldable pub in_two : String → CheckResult → CheckCase
unfolding library text
in_two lines d = record { library = library; graph = text "aag 3 2 0 2 1\n2\n4\n6\n7\n6 2 4\n"; netlist = text ".model top\n.inputs p1 p2\n.outputs o0 o1\n" ++ text lines; words = 32768; expected = d }

-- B's netlist with so many words lent
unfoldable pub with_memory : List ℕ → ℕ → CheckResult → CheckCase
unfolding library graph_b text
with_memory netlist words d = record { library = library; graph = text graph_b; netlist = netlist; words = words; expected = d }

-- B needs 497 words and its netlist of nine lines 72 more
unfoldable pub accepted : List CheckCase
unfolding library with listing graph_b head_b text case in_b in_two with_memory
accepted =
    -- "every netlist that `map` prints from the same texts": B; "10 wants 8 more words for each byte 10 in it", those behind `.end` too
    with_memory listing 569 accepts
    ∷ with_memory listing 568 (refuses 10 0)
    ∷ with_memory (listing ++ text "\n") 577 accepts
    ∷ with_memory (listing ++ text "\n") 576 (refuses 10 0)
    -- "gates in any order"; "what follows `.end` isn't read"; a graph in the binary form
    ∷ in_b ".gate nand2 A=p1 B=p2 O=m3\n.gate inv A=m3 O=p3\n.names p3 o0\n1 1\n.end\n" accepts
    ∷ in_b ".gate inv A=m3 O=p3\n.gate nand2 A=p1 B=p2 O=m3\n.names p3 o0\n1 1\n.end\n.gate none\n" accepts
    ∷ record { library = library; graph = head_b ++ (2 ∷ 2 ∷ []); netlist = listing; words = 32768; expected = accepts }
    -- "inner net names of 1 to 8 letters or digits"
    ∷ in_b ".gate inv A=Net00001 O=7\n.gate nand2 A=p1 B=p2 O=Net00001\n.names 7 o0\n1 1\n.end\n" accepts
    ∷ in_b ".gate inv A=Net000001 O=7\n.gate nand2 A=p1 B=p2 O=Net000001\n.names 7 o0\n1 1\n.end\n" (refuses 32 37)
    ∷ in_b ".gate inv A=m_3 O=p3\n.gate nand2 A=p1 B=p2 O=m_3\n.names p3 o0\n1 1\n.end\n" (refuses 32 37)
    ∷ in_b ".gate inv A= O=p3\n.names p3 o0\n1 1\n.end\n" (refuses 32 37)
    -- a pin that is bound to any net, inputs on both pins exchanged: the NAND is the same
    ∷ in_b ".gate inv A=m3 O=p3\n.gate nand2 A=p2 B=p1 O=m3\n.names p3 o0\n1 1\n.end\n" accepts
    ∷ []

pub accepted_hold : T (all check_holds accepted)
unfolding all check_holds accepted
accepted_hold = tt

pub one-net_hold : T (all check_holds (
    -- one net on both pins
    case library "aag 1 1 0 1 0\n2\n3\n" ".model top\n.inputs p1\n.outputs o0\n.gate nand2 A=p1 B=p1 O=m1\n.names m1 o0\n1 1\n.end\n" accepts
    ∷ []
    ))
unfolding all check_holds library with listing graph_b head_b text case in_b in_two with_memory
one-net_hold = tt

pub differing_hold : T (all check_holds (
    -- the output is p1 where the graph has p1 AND p2: assignment 1 has input 0 alone; p2: assignment 2; the constant 0: assignment 3; not p1: assignment 0
    in_b ".gate inv A=x O=p3\n.gate inv A=p1 O=x\n.names p3 o0\n1 1\n.end\n" (differs 1 0)
    ∷ in_b ".names p1 o0\n1 1\n.end\n" (differs 1 0)
    ∷ in_b ".names p2 o0\n1 1\n.end\n" (differs 2 0)
    ∷ in_b ".gate inv A=p1 O=x\n.gate nand2 A=p1 B=x O=y\n.gate inv A=y O=z\n.names z o0\n1 1\n.end\n" (differs 3 0)
    ∷ in_b ".gate inv A=p1 O=x\n.names x o0\n1 1\n.end\n" (differs 0 0)
    -- "input k as bit k", by the file's inputs: variable 2 is input 0
    ∷ case library "aag 3 2 0 1 1\n4\n2\n6\n6 2 4\n" ".model top\n.inputs p2 p1\n.outputs o0\n.names p1 o0\n1 1\n.end\n" (differs 2 0)
    -- "that setting's first wrong output"
    ∷ in_two ".gate inv A=m3 O=p3\n.gate nand2 A=p1 B=p2 O=m3\n.names p3 o0\n1 1\n.names m3 o1\n1 1\n.end\n" accepts
    ∷ in_two ".gate inv A=m3 O=p3\n.gate nand2 A=p1 B=p2 O=m3\n.names p3 o0\n1 1\n.names p3 o1\n1 1\n.end\n" (differs 0 1)
    ∷ in_two ".gate inv A=m3 O=p3\n.gate nand2 A=p1 B=p2 O=m3\n.names m3 o0\n1 1\n.names p3 o1\n1 1\n.end\n" (differs 0 0)
    ∷ in_two ".gate inv A=p1 O=x\n.names p1 o0\n1 1\n.names x o1\n1 1\n.end\n" (differs 1 0)
    -- no inputs: one assignment, 0; no outputs
    ∷ case (with "tie0 0 0000 1 0 0 0 0\n") "aag 0 0 0 1 0\n1\n" ".model top\n.inputs\n.outputs o0\n.gate inv A=p0 O=m0\n.gate tie0 O=p0\n.names m0 o0\n1 1\n.end\n" accepts
    ∷ case (with "tie0 0 0000 1 0 0 0 0\n") "aag 0 0 0 1 0\n1\n" ".model top\n.inputs\n.outputs o0\n.gate inv A=p0 O=m0\n.gate tie0 O=p0\n.names p0 o0\n1 1\n.end\n" (differs 0 0)
    ∷ case library "aag 0 0 0 0 0\n" ".model top\n.inputs\n.outputs\n.end\n" accepts
    ∷ case library "aag 1 1 0 0 0\n2\n" ".model top\n.inputs p1\n.outputs\n.gate inv A=p1 O=a\n.end\n" accepts
    -- "31 when I exceeds 12, place 0", before the netlist is looked at; twelve inputs; after 15
    ∷ case library "aag 13 13 0 0 0\n2\n4\n6\n8\n10\n12\n14\n16\n18\n20\n22\n24\n26\n" "" (refuses 31 0)
    ∷ case library "aag 12 12 0 0 0\n2\n4\n6\n8\n10\n12\n14\n16\n18\n20\n22\n24\n" "" (refuses 32 0)
    ∷ case library "aag 12 12 0 0 0\n2\n4\n6\n8\n10\n12\n14\n16\n18\n20\n22\n24\n" ".model top\n.inputs p1 p2 p3 p4 p5 p6 p7 p8 p9 p10 p11 p12\n.outputs\n.end\n" accepts
    ∷ case library "aag 2 0 0 0 2\n2 4 4\n4 2 2\n" "" (refuses 15 1)
    ∷ case library "aag 14 13 0 0 1\n2\n4\n6\n8\n10\n12\n14\n16\n18\n20\n22\n24\n26\n28 28 28\n" "" (refuses 15 14)
    ∷ []
    ))
unfolding all check_holds library with listing graph_b head_b text case in_b in_two with_memory
differing_hold = tt

pub past-two_hold : T (all check_holds (
    -- inputs past the second: p1 where the graph has input 2, the constant 0 where it has input 2, and where it has input 11 of twelve
    case library "aag 3 3 0 1 0\n2\n4\n6\n6\n" ".model top\n.inputs p1 p2 p3\n.outputs o0\n.names p1 o0\n1 1\n.end\n" (differs 1 0)
    ∷ case (with "tie0 0 0000 1 0 0 0 0\n") "aag 3 3 0 1 0\n2\n4\n6\n6\n" ".model top\n.inputs p1 p2 p3\n.outputs o0\n.gate tie0 O=x\n.names x o0\n1 1\n.end\n" (differs 4 0)
    ∷ case (with "tie0 0 0000 1 0 0 0 0\n") "aag 12 12 0 1 0\n2\n4\n6\n8\n10\n12\n14\n16\n18\n20\n22\n24\n24\n" ".model top\n.inputs p1 p2 p3 p4 p5 p6 p7 p8 p9 p10 p11 p12\n.outputs o0\n.gate tie0 O=x\n.names x o0\n1 1\n.end\n" (differs 2048 0)
    ∷ []
    ))
unfolding all check_holds library with listing graph_b head_b text case in_b in_two with_memory
past-two_hold = tt

pub lengths_hold : T (all check_holds (
    -- "1 covers the netlist"; the library's refusals and the graph's come before 31 to 33
    with_memory (replicate 65537 10) 0 (refuses 1 0)
    ∷ record { library = replicate 65537 10; graph = text graph_b; netlist = listing; words = 0; expected = refuses 1 0 }
    ∷ record { library = library; graph = replicate 65537 10; netlist = listing; words = 0; expected = refuses 1 0 }
    ∷ case (with "\n") graph_b "" (refuses 4 80)
    ∷ case library "aag 1 0 1 0 0\n" "" (refuses 8 0)
    ∷ case library "aag 3 2 0 1 1\n2\n4\n6\n" "" (refuses 11 20)
    ∷ []
    ))
unfolding all check_holds library with listing graph_b head_b text case in_b in_two with_memory
lengths_hold = tt

pub broken_hold : T (all check_holds (
    -- "32 when a line breaks its form .. or has other inputs or outputs than the graph": a missing line's place is the text's length
    with_memory [] 32768 (refuses 32 0)
    ∷ case library graph_b ".model tops\n" (refuses 32 0)
    ∷ case library graph_b ".model top" (refuses 32 0)
    ∷ case library graph_b ".model top\r\n" (refuses 32 0)
    ∷ case library graph_b ".model top\n" (refuses 32 11)
    ∷ case library graph_b ".model top\n.inputs p2 p1\n" (refuses 32 11)
    ∷ case library graph_b ".model top\n.inputs p1\n" (refuses 32 11)
    ∷ case library graph_b ".model top\n.inputs p1 p2\n" (refuses 32 25)
    ∷ case library graph_b ".model top\n.inputs p1 p2\n.outputs o1\n" (refuses 32 25)
    ∷ case library graph_b ".model top\n.inputs p1 p2\n.outputs o0 o1\n" (refuses 32 25)
    ∷ in_b "" (refuses 32 37)
    ∷ in_b "\n.names p1 o0\n1 1\n.end\n" (refuses 32 37)
    ∷ in_b ".gate inv A=p1 O=x\n" (refuses 32 56)
    ∷ in_b ".gate inv A=p1 O=x" (refuses 32 37)
    ∷ in_b ".gate inv A=p1 O=x\r\n.names x o0\n1 1\n.end\n" (refuses 32 37)
    ∷ in_b ".gate  inv A=p1 O=x\n.names x o0\n1 1\n.end\n" (refuses 32 37)
    ∷ in_b ".gate inv A=p1 O=x \n.names x o0\n1 1\n.end\n" (refuses 32 37)
    ∷ in_b ".gate\n.names p1 o0\n1 1\n.end\n" (refuses 32 37)
    -- "names no listed cell"
    ∷ in_b ".gate nor2 A=p1 B=p2 O=x\n.names x o0\n1 1\n.end\n" (refuses 32 37)
    ∷ in_b ".gate in A=p1 O=x\n.names x o0\n1 1\n.end\n" (refuses 32 37)
    ∷ []
    ))
unfolding all check_holds library with listing graph_b head_b text case in_b in_two with_memory
broken_hold = tt

pub pins_in_order_hold : T (all check_holds (
    -- a pin too few, one too many, pins in another order, a pin's letter, the output's
    in_b ".gate inv A=p1 O=x\n.gate nand2 A=p1 O=y\n.names x o0\n1 1\n.end\n" (refuses 32 56)
    ∷ in_b ".gate inv A=p1 B=p2 O=x\n.names x o0\n1 1\n.end\n" (refuses 32 37)
    ∷ in_b ".gate nand2 B=p1 A=p2 O=x\n.names x o0\n1 1\n.end\n" (refuses 32 37)
    ∷ in_b ".gate inv a=p1 O=x\n.names x o0\n1 1\n.end\n" (refuses 32 37)
    ∷ in_b ".gate inv A=p1 Q=x\n.names x o0\n1 1\n.end\n" (refuses 32 37)
    ∷ in_b ".gate inv A:p1 O=x\n.names x o0\n1 1\n.end\n" (refuses 32 37)
    ∷ []
    ))
unfolding all check_holds library with listing graph_b head_b text case in_b in_two with_memory
pins_in_order_hold = tt

pub output-lines_hold : T (all check_holds (
    -- the lines of the outputs: in order, all of them, `1 1` behind each, no gate behind the first, `.end` behind the last
    in_two ".names p1 o1\n1 1\n.names p1 o0\n1 1\n.end\n" (refuses 32 40)
    ∷ in_two ".names p1 o0\n1 1\n.end\n" (refuses 32 57)
    ∷ in_two ".names p1 o0\n1 1\n" (refuses 32 57)
    ∷ in_b ".names p1 o0\n1 0\n.end\n" (refuses 32 50)
    ∷ in_b ".names p1 o0\n" (refuses 32 50)
    ∷ in_b ".names p1 p2 o0\n1 1\n.end\n" (refuses 32 37)
    ∷ in_b ".names p1 o0\n1 1\n.gate inv A=p1 O=x\n.end\n" (refuses 32 54)
    ∷ in_b ".names p1 o0\n1 1\n.names p1 o1\n1 1\n.end\n" (refuses 32 54)
    ∷ in_b ".names p1 o0\n1 1\n.end" (refuses 32 54)
    ∷ in_b ".names p1 o0\n1 1\n" (refuses 32 54)
    -- 32 over the whole text before 33
    ∷ in_b ".gate inv A=x O=x\n.names p1 o0\n1 1\n" (refuses 32 72)
    -- "33 when a line drives a net already driven": by a line, by `.inputs`, an output's own name by its `.names` line
    ∷ in_b ".gate inv A=p1 O=x\n.gate inv A=p2 O=x\n.names x o0\n1 1\n.end\n" (refuses 33 56)
    ∷ in_b ".gate inv A=p1 O=p2\n.names p1 o0\n1 1\n.end\n" (refuses 33 37)
    ∷ in_b ".gate inv A=p1 O=o0\n.names p1 o0\n1 1\n.end\n" (refuses 33 57)
    -- "when one uses a net that no line drives", a line that nothing uses too; the nets of other variables are not driven by `.inputs`
    ∷ in_b ".gate inv A=y O=x\n.names p1 o0\n1 1\n.end\n" (refuses 33 37)
    ∷ in_b ".gate inv A=p1 O=x\n.names p3 o0\n1 1\n.end\n" (refuses 33 56)
    ∷ in_b ".gate inv A=p1 O=x\n.names m1 o0\n1 1\n.end\n" (refuses 33 56)
    -- "when one drives a net on a circle": by lines and not by tables; a net behind a cycle is not on it; through an output's own name
    ∷ in_b ".gate inv A=x O=x\n.names p1 o0\n1 1\n.end\n" (refuses 33 37)
    ∷ in_b ".gate inv A=x O=y\n.gate inv A=x O=x\n.names y o0\n1 1\n.end\n" (refuses 33 55)
    ∷ in_b ".gate inv A=y O=z\n.gate nand2 A=p1 B=y O=x\n.gate inv A=x O=y\n.names z o0\n1 1\n.end\n" (refuses 33 55)
    ∷ case (with "zero 1 0000 1 0 0 0 0\n") graph_b ".model top\n.inputs p1 p2\n.outputs o0\n.gate zero A=x O=x\n.names p1 o0\n1 1\n.end\n" (refuses 33 37)
    ∷ in_b ".gate inv A=o0 O=x\n.gate inv A=x O=y\n.names y o0\n1 1\n.end\n" (refuses 33 37)
    ∷ in_b ".gate inv A=m3 O=p3\n.gate nand2 A=p1 B=p2 O=m3\n.gate inv A=o0 O=x\n.names p3 o0\n1 1\n.end\n" accepts
    -- the three parts "in this order", each over all lines
    ∷ in_b ".gate inv A=x O=x\n.gate inv A=y O=z\n.gate inv A=p1 O=z\n.names p1 o0\n1 1\n.end\n" (refuses 33 73)
    ∷ in_b ".gate inv A=x O=x\n.gate inv A=y O=z\n.names p1 o0\n1 1\n.end\n" (refuses 33 55)
    ∷ []
    ))
unfolding all check_holds library with listing graph_b head_b text case in_b in_two with_memory
output-lines_hold = tt

-- "Work memory is unchanged by every refusal tried up to 10, and all zero after a later one and after success."
pub check_work_left : T (
    same (checked_work (refused_with 10 0) (7 ∷ 8 ∷ [])) (7 ∷ 8 ∷ [])
    && (same (checked_work (refused_with 19 0) (7 ∷ 8 ∷ [])) (7 ∷ 8 ∷ [])
    && (same (checked_work (refused_with 33 37) (7 ∷ 8 ∷ [])) (0 ∷ 0 ∷ [])
    && (same (checked_work (Ok (Differs 1 0)) (7 ∷ 8 ∷ [])) (0 ∷ 0 ∷ []) && same (checked_work (Ok Equal) (7 ∷ 8 ∷ [])) (0 ∷ 0 ∷ []))))
    )
unfolding same checked_work
check_work_left = tt
