-- Genlib texts worked out by hand, and what the conditions say of each: its gates, or its refusal's number and place. By computing what is read, which is exactly
-- what the conditions say (`TextExactly.gates_exactly`). So the conditions hold of texts, and at the borders of a gate's lines they hold where they should.
use Rattle.base.specs.{ℕ, ◌≡◌, refl, sym, List, [], ◌∷◌, ◌++◌, T, leb, leb→le, length, take}
use Rattle.model.specs.{text, holds, fault, read_genlib}
use Rattle.model.specs.Genlib.{Gate}
use Rattle.theory_text.proofs.{fault_never}
use Rattle.promises.specs.GateRefusals.{GatesIn, GenlibFault}
use Rattle.theory_genlib_refusals.proofs.TextExactly.{gates_exactly}

gates_of_lem : (t : List ℕ) (cs : List Gate) → T (leb (length t) 65536) → read_genlib t ≡ holds cs → GatesIn t cs
gates_of_lem t cs h e = ((gates_exactly t (leb→le (length t) 65536 h)).accepts cs).0 e

fault_of_lem : (t : List ℕ) (n k : ℕ) → T (leb (length t) 65536) → read_genlib t ≡ fault n k → GenlibFault t n k
fault_of_lem t n k h e = ((gates_exactly t (leb→le (length t) 65536 h)).refuses n k).0 e

-- a gate of two lines, of 17 and 24 bytes
unfoldable inverter : List ℕ
unfolding text
inverter = text "GATE inv 1 O=!a;\nPIN * INV 1 999 1 0 1 0\n"

abbrev inv : Gate
unfolding text
inv = record { name = text "inv"; pins = 1; table = 1; area = 1000; delays = 1000 ∷ 0 ∷ 0 ∷ 0 ∷ [] }

-- a gate of one line
unfoldable tie : List ℕ
unfolding text
tie = text "GATE one 0.5 O=CONST1;\n"

abbrev one : Gate
unfolding text
one = record { name = text "one"; pins = 0; table = 1; area = 500; delays = 0 ∷ 0 ∷ 0 ∷ 0 ∷ [] }

no_gate_lem : GatesIn [] []
no_gate_lem = gates_of_lem [] [] tt (unfold read_genlib in refl)

one-gate : GatesIn inverter (inv ∷ [])
unfolding inverter text read_genlib
one-gate = gates_of_lem inverter (inv ∷ []) tt refl

two-gates : GatesIn (inverter ++ tie) (inv ∷ one ∷ [])
unfolding inverter tie text read_genlib
two-gates = gates_of_lem (inverter ++ tie) (inv ∷ one ∷ []) tt refl

-- "lines end as in N5", each as it likes, and blanks "at a line's ends"
either_end : GatesIn (text " \tGATE one 0.5 O=CONST1; \r\n" ++ inverter) (one ∷ inv ∷ [])
unfolding inverter text read_genlib
either_end = gates_of_lem (text " \tGATE one 0.5 O=CONST1; \r\n" ++ inverter) (one ∷ inv ∷ []) tt refl

-- "22 when a line, even an empty one, breaks this form": the line between is of the gate above it
line-between : GenlibFault (inverter ++ (text "\n" ++ tie)) 22 0
unfolding inverter tie text read_genlib
line-between = fault_of_lem (inverter ++ (text "\n" ++ tie)) 22 0 tt refl

-- a line whose first word is GATE is a gate's own, though it is broken, and its place is its first byte, a blank
blanks-first : GenlibFault (inverter ++ text " \tGATE one\n") 22 41
unfolding inverter text read_genlib
blanks-first = fault_of_lem (inverter ++ text " \tGATE one\n") 22 41 tt refl

-- GATES is another word
other_word : GenlibFault (inverter ++ text "GATES one\n") 22 0
unfolding inverter text read_genlib
other_word = fault_of_lem (inverter ++ text "GATES one\n") 22 0 tt refl

-- a last line without its end, of a gate's lines and a gate's own
pin_unended : GenlibFault (take 40 inverter) 22 0
unfolding inverter text read_genlib
pin_unended = fault_of_lem (take 40 inverter) 22 0 tt refl

gate_unended : GenlibFault (inverter ++ take 22 tie) 22 41
unfolding inverter tie text read_genlib
gate_unended = fault_of_lem (inverter ++ take 22 tie) 22 41 tt refl

-- "a PIN line precedes every GATE", at "its own" offset
pin-first : GenlibFault (text "PIN * INV 1 999 1 0 1 0\n" ++ tie) 22 0
unfolding tie text read_genlib
pin-first = fault_of_lem (text "PIN * INV 1 999 1 0 1 0\n" ++ tie) 22 0 tt refl

-- "gate by gate": 24 of the first before 22 of the second
first-gate : GenlibFault (text "GATE one 0.1234 O=CONST1;\nGATE two\n") 24 0
unfolding text read_genlib
first-gate = fault_of_lem (text "GATE one 0.1234 O=CONST1;\nGATE two\n") 24 0 tt refl

-- no text that is accepted is refused, at the place of a PIN line neither
not-at-pin : ¬ GenlibFault inverter 22 17
unfolding inverter text read_genlib
not-at-pin f = fault_never (sym (((gates_exactly inverter (leb→le (length inverter) 65536 tt)).refuses 22 17).1 f))
