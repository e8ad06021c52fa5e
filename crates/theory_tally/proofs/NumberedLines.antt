-- A refusal of a netlist or of a report has a number, and it is not 0.
use Rattle.base.specs.{ℕ, ◌<◌, Bool, ◌&&◌, List, [], ◌∷◌, leb, ltb, lit<, length}
use Rattle.model.specs.{Line, ended_by_ten, lines_from, holds, read_library, is_ranged, in_width, expected_lines, nothing_left, gates_in, after_gates}
use Rattle.model.specs.{area_of, preamble, behind_gates, outputs_of, read_counted, counted, count_text, report_text, report_of}
use Rattle.model.specs.declared.Tally.{Tally}
use Rattle.theory_text.proofs.ReadFaults.{Faults}
use Rattle.theory_text.proofs.{in_holds, in_fault, in_unless, in_next, library_faults}

abbrev pub Numbered : ℕ → ℕ → Type 0
Numbered n k = 0 < n

expected-numbered : (end : ℕ) (ps : List (List ℕ → Bool)) (ls : List Line) → Faults Numbered (expected_lines end ps ls)
unfolding expected_lines
expected-numbered end [] ls = in_holds Numbered ls
expected-numbered end (p ∷ ps) [] = in_fault Numbered 29 end (lit< tt)
expected-numbered end (p ∷ ps) (l ∷ ls) = in_unless Numbered (ended_by_ten l && p l.bytes) 29 l.offset (expected_lines end ps ls) (λ _. lit< tt) (expected-numbered end ps ls)

left-numbered : (ls : List Line) → Faults Numbered (nothing_left ls)
unfolding nothing_left
left-numbered [] = in_holds Numbered []
left-numbered (l ∷ ls) = in_fault Numbered 29 l.offset (lit< tt)

library-numbered : (library : List ℕ) → Faults Numbered (read_library library)
library-numbered library = library_faults Numbered (lit< tt) (λ k. lit< tt) (λ k. lit< tt) (λ k. lit< tt) (λ k. lit< tt) (λ k. lit< tt) library

pub count-numbered : (t : Tally) (library netlist : List ℕ) → Faults Numbered (count_text t library netlist)
unfolding count_text
count-numbered t library netlist = in_unless Numbered (leb (length library) 65536 && leb (length netlist) 65536) 1 0 _ (λ _. lit< tt)
    (in_next Numbered (read_library library) _ (library-numbered library) (λ cells _. in_unless Numbered
    (ltb t.netlists 64 && in_width t) 28 64 _ (λ _. lit< tt) (in_next Numbered (read_counted (is_ranged library) cells netlist) _
    (unfold read_counted in in_next Numbered (expected_lines (length netlist) preamble (lines_from 0 [] netlist)) _
    (expected-numbered (length netlist) preamble (lines_from 0 [] netlist)) (λ ms _. in_next Numbered (expected_lines (length netlist)
    (behind_gates (is_ranged library) (outputs_of (lines_from 0 [] netlist)) (length (gates_in cells ms)) (area_of cells (gates_in cells ms)))
    (after_gates cells ms)) _ (expected-numbered (length netlist)
    (behind_gates (is_ranged library) (outputs_of (lines_from 0 [] netlist)) (length (gates_in cells ms)) (area_of cells (gates_in cells ms)))
    (after_gates cells ms)) (λ rest _. in_next Numbered (nothing_left rest) (λ _. holds (gates_in cells ms)) (left-numbered rest)
    (λ x _. in_holds Numbered (gates_in cells ms))))) (λ used _. in_holds Numbered (counted cells used t)))))

pub report-numbered : (t : Tally) (library : List ℕ) (bytes : ℕ) → Faults Numbered (report_of t library bytes)
unfolding report_of
report-numbered t library bytes = in_unless Numbered (leb (length library) 65536) 1 0 _ (λ _. lit< tt) (in_next Numbered
    (read_library library) _ (library-numbered library) (λ cells _. in_unless Numbered (in_width t) 28 64 _ (λ _. lit< tt) (in_unless Numbered
    (leb (length (report_text cells t)) bytes) 18 (length (report_text cells t)) (holds (report_text cells t)) (λ _. lit< tt)
    (in_holds Numbered (report_text cells t)))))
