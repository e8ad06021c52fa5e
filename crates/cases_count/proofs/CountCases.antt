-- The conditions of a count hold of texts: case B's netlist is counted, and a netlist refused at each end of what they say. By computing what is read, which is
-- exactly what the conditions say (`CountCalls.count_exactly`).
use Rattle.base.specs.{ℕ, ◌≡◌, refl, List, [], ◌++◌}
use Rattle.model.specs.{text, holds, fault, empty_tally, count_text, report_of}
use Rattle.model.specs.declared.Tally.{Tally}
use Rattle.cases.proofs.{library, listing, ranged}
use Rattle.cases_tally.proofs.{tallied, once, with}
use Rattle.promises.specs.CountRefusals.{CountHolds, CountFault, ReportFault}
use Rattle.theory_tally.proofs.{count_exactly, report_exactly}

counts : (l : List ℕ) (t : Tally) (n : List ℕ) (u : Tally) → count_text t l n ≡ holds u → CountHolds t l n u
counts l t n u e = ((count_exactly t l n).accepts u).0 e

refuses : (l : List ℕ) (t : Tally) (n : List ℕ) (m k : ℕ) → count_text t l n ≡ fault m k → CountFault t l n m k
refuses l t n m k e = ((count_exactly t l n).refuses m k).0 e

netlist_b : CountHolds empty_tally library listing once
unfolding library listing once empty_tally tallied text count_text
netlist_b = counts library empty_tally listing once refl

-- "which N11 takes in gate lines", and not in a `.names` line
inner-net : CountFault empty_tally library (with 5 ".names sp3 o0\n") 29 84
unfolding library with empty_tally text count_text
inner-net = refuses library empty_tally (with 5 ".names sp3 o0\n") 29 84 refl

-- "names no listed cell"
other_cell : CountFault empty_tally library (with 3 ".gate nor2 A=m3 B=p1 O=p3\n") 29 37
unfolding library with empty_tally text count_text
other_cell = refuses library empty_tally (with 3 ".gate nor2 A=m3 B=p1 O=p3\n") 29 37 refl

-- "gives a gate count or area that isn't that of the gates above it"
other_area : CountFault empty_tally library (with 8 "# gates 2 area 2 arrival 30\n") 29 106
unfolding library with empty_tally text count_text
other_area = refuses library empty_tally (with 8 "# gates 2 area 2 arrival 30\n") 29 106 refl

-- a timing line is missing, or one too many stands there
no_timing : CountFault empty_tally ranged listing 29 134
unfolding ranged listing empty_tally text count_text
no_timing = refuses ranged empty_tally listing 29 134 refl

line-more : CountFault empty_tally library (listing ++ text "# timing o0 20 30\n") 29 134
unfolding library listing empty_tally text count_text
line-more = refuses library empty_tally (listing ++ text "# timing o0 20 30\n") 29 134 refl

-- byte 10 alone ends a line
both_ends : CountFault empty_tally library (with 6 "1 1\r\n") 29 97
unfolding library with empty_tally text count_text
both_ends = refuses library empty_tally (with 6 "1 1\r\n") 29 97 refl

-- "28 when 64 netlists are counted already", whatever the netlist; a report of them is written where there is memory
sixty_four : CountFault (tallied [] [] [] 64) library [] 28 64
unfolding library tallied text count_text
sixty_four = refuses library (tallied [] [] [] 64) [] 28 64 refl

no_memory : ReportFault (tallied [] [] [] 64) library 0 18 35
unfolding library tallied text report_of
no_memory = ((report_exactly (tallied [] [] [] 64) library 0).refuses 18 35).0 refl
