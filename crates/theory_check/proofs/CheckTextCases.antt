-- The conditions of a check hold of texts: a netlist refused by each of 10, 31, 32 and 33, at the places worked out by hand. By computing what is read, which is
-- exactly what the conditions say (`CheckCalls.check_exactly`).
use Prim.Native.String.{String}
use Rattle.base.specs.{ℕ, ◌≡◌, refl, List, ◌++◌}
use Rattle.model.specs.{text, fault, read_edited}
use Rattle.cases.proofs.{library, listing, graph_b}
use Rattle.promises.specs.CheckRefusals.{CheckFault}
use Rattle.theory_check.proofs.CheckCallLaws.{check_exactly}

refuses : (l g n : List ℕ) (words m k : ℕ) → read_edited l g n words ≡ fault m k → CheckFault l g n words m k
refuses l g n words m k e = ((check_exactly l g n words).refuses m k).0 e

-- a netlist of B: these lines stand at 37
unfoldable in_b : String → List ℕ
unfolding text
in_b lines = text ".model top\n.inputs p1 p2\n.outputs o0\n" ++ text lines

-- B needs 497 words and its netlist of nine lines 72 more
few_words : CheckFault library (text graph_b) listing 568 10 0
unfolding library graph_b listing text read_edited
few_words = refuses library (text graph_b) listing 568 10 0 refl

thirteen-inputs : CheckFault library (text "aag 13 13 0 0 0\n2\n4\n6\n8\n10\n12\n14\n16\n18\n20\n22\n24\n26\n") (text "") 32768 31 0
unfolding library text read_edited
thirteen-inputs = refuses library (text "aag 13 13 0 0 0\n2\n4\n6\n8\n10\n12\n14\n16\n18\n20\n22\n24\n26\n") (text "") 32768 31 0 refl

-- nine letters and digits
long-net : CheckFault library (text graph_b) (in_b ".gate inv A=Net000001 O=7\n") 32768 32 37
unfolding library graph_b in_b text read_edited
long-net = refuses library (text graph_b) (in_b ".gate inv A=Net000001 O=7\n") 32768 32 37 refl

-- no `.end`: the text's length
no_end : CheckFault library (text graph_b) (in_b ".names p1 o0\n1 1\n") 32768 32 54
unfolding library graph_b in_b text read_edited
no_end = refuses library (text graph_b) (in_b ".names p1 o0\n1 1\n") 32768 32 54 refl

-- "a net already driven", by a gate and by `.inputs`
driven-again : CheckFault library (text graph_b) (in_b ".gate inv A=p1 O=x\n.gate inv A=p2 O=x\n.names x o0\n1 1\n.end\n") 32768 33 56
unfolding library graph_b in_b text read_edited
driven-again = refuses library (text graph_b) (in_b ".gate inv A=p1 O=x\n.gate inv A=p2 O=x\n.names x o0\n1 1\n.end\n") 32768 33 56 refl

input-driven : CheckFault library (text graph_b) (in_b ".gate inv A=p1 O=p2\n.names p2 o0\n1 1\n.end\n") 32768 33 37
unfolding library graph_b in_b text read_edited
input-driven = refuses library (text graph_b) (in_b ".gate inv A=p1 O=p2\n.names p2 o0\n1 1\n.end\n") 32768 33 37 refl

-- "a net that no line drives"
not-driven : CheckFault library (text graph_b) (in_b ".gate inv A=p1 O=x\n.names y o0\n1 1\n.end\n") 32768 33 56
unfolding library graph_b in_b text read_edited
not-driven = refuses library (text graph_b) (in_b ".gate inv A=p1 O=x\n.names y o0\n1 1\n.end\n") 32768 33 56 refl

-- "a net on a circle", and not the one behind it
behind-cycle : CheckFault library (text graph_b) (in_b ".gate inv A=x O=z\n.gate inv A=x O=y\n.gate inv A=y O=x\n.names z o0\n1 1\n.end\n") 32768 33 55
unfolding library graph_b in_b text read_edited
behind-cycle = refuses library (text graph_b) (in_b ".gate inv A=x O=z\n.gate inv A=x O=y\n.gate inv A=y O=x\n.names z o0\n1 1\n.end\n") 32768 33 55 refl
