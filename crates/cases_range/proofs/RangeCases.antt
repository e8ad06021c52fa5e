-- Request N10, "Delays given as a range", by computing: the `# timing` lines, either names line, 6 and 27, and the lines read back.
use Rattle.base.specs.{ℕ, Bool, true, false, ◌&&◌, Option, None, Some, List, [], ◌∷◌, ◌++◌, map, T, length}
use Rattle.model.specs.{all, same, each, text, refused, work_after, TimingLine, read_timings}
use Rattle.cases.proofs.{prints, prints_timed, gives, refuses, lacks, suffices, holds, same_cuts, library, listing, with, graph_b}
use Rattle.cases.proofs.{graph_c, arrives, longer, ranged}

-- ---- the lines

pub timed_hold : T (all holds (
    -- B: from 15 + 5 at the lowest to 20 + 10
    prints ranged graph_b (listing ++ text "# timing o0 20 30\n") 2 3 30
    -- where no delay has room the ends meet
    ∷ prints (longer "inv 1 0001 1 10 0 0 0 10 0 0 0\nnand2 2 0007 2 20 20 0 0 20 20 0 0\n") graph_b (listing ++ text "# timing o0 30 30\n") 2 3 30
    -- "18 and the returned length count these lines": 134 bytes and 18 more
    ∷ lacks ranged graph_b 497 151 18 152
    ∷ suffices ranged graph_b 497 152 2 30
    -- an input that is late is so in both ends: 7 + 10 + 5 and 7 + 20 + 10; 7 + 15 + 5
    ∷ prints_timed ranged (text graph_b) (arrives "0 7\n") (text ".model top\n.inputs p1 p2\n.outputs o0\n.gate inv A=m3 O=p3\n.gate nand2 A=p1 B=p2 O=m3\n.names p3 o0\n1 1\n.end\n# gates 2 area 3 arrival 37\n# timing o0 22 37\n") 2 3 37
    ∷ prints_timed ranged (text graph_b) (arrives "1 7\n") (text ".model top\n.inputs p1 p2\n.outputs o0\n.gate inv A=m3 O=p3\n.gate nand2 A=p1 B=p2 O=m3\n.names p3 o0\n1 1\n.end\n# gates 2 area 3 arrival 37\n# timing o0 27 37\n") 2 3 37
    -- "a line per output", in their order, the same net twice too
    ∷ prints ranged "aag 3 2 0 4 1\n2\n4\n7\n6\n2\n7\n6 2 4\n"
    (text ".model top\n.inputs p1 p2\n.outputs o0 o1 o2 o3\n.gate inv A=m3 O=p3\n.gate nand2 A=p1 B=p2 O=m3\n.names m3 o0\n1 1\n.names p3 o1\n1 1\n.names p1 o2\n1 1\n.names m3 o3\n1 1\n.end\n# gates 2 area 3 arrival 30\n# timing o0 15 20\n# timing o1 20 30\n# timing o2 0 0\n# timing o3 15 20\n") 2 3 30
    -- without outputs there is no line; without cells there is
    ∷ prints ranged "aag 0 0 0 0 0\n" (text ".model top\n.inputs\n.outputs\n.end\n# gates 0 area 0 arrival 0\n") 0 0 0
    ∷ prints (longer "") "aag 1 1 0 1 0\n2\n2\n" (text ".model top\n.inputs p1\n.outputs o0\n.names p1 o0\n1 1\n.end\n# gates 0 area 0 arrival 0\n# timing o0 0 0\n") 0 0 0
    -- a cell without pins arrives at 0, in both ends
    ∷ prints (longer "tie1 0 0001 1 0 0 0 0 0 0 0 0\n") "aag 0 0 0 1 0\n1\n" (text ".model top\n.inputs\n.outputs o0\n.gate tie1 O=m0\n.names m0 o0\n1 1\n.end\n# gates 1 area 1 arrival 0\n# timing o0 0 0\n") 1 1 0
    -- "mapping uses the `d` figures as before": nor2 at 35 is chosen over 10 + 20 + 10, and its lowest delays count, not the 3 of the four gates that were not
    ∷ prints (longer "inv 1 0001 1 10 0 0 0 1 0 0 0\nnand2 2 0007 2 20 20 0 0 1 1 0 0\nnor2 2 0001 2 35 35 0 0 34 33 0 0\n") graph_c
    (text ".model top\n.inputs p1 p2\n.outputs o0\n.gate nor2 A=p1 B=p2 O=p3\n.names p3 o0\n1 1\n.end\n# gates 1 area 2 arrival 35\n# timing o0 34 35\n") 1 2 35
    -- under the shorter names line there is no such line
    ∷ prints library graph_b listing 2 3 30
    -- either end of a line
    ∷ prints (text "cell pins table area d0 d1 d2 d3 l0 l1 l2 l3" ++ (13 ∷ 10 ∷ text "inv 1 0001 1 10 0 0 0 5 0 0 0" ++ (13 ∷ 10 ∷ text "nand2 2 0007 2 20 20 0 0 10 15 0 0\n"))) graph_b
    (listing ++ text "# timing o0 20 30\n") 2 3 30
    ∷ []
    ))
unfolding all holds library listing with graph_b graph_c arrives longer ranged text
timed_hold = tt

-- ---- 2, 4, 6 and 27

pub refusals_hold : T (all holds (
    -- "2 takes either names line", and no other
    refuses (text "cell pins table area d0 d1 d2 d3 l0 l1 l2 l3") graph_b 2 0
    ∷ refuses (text "cell pins table area d0 d1 d2 d3 l0 l1 l2\n") graph_b 2 0
    ∷ refuses (text "cell pins table area l0 l1 l2 l3 d0 d1 d2 d3\n") graph_b 2 0
    ∷ refuses (text "cell pins table area d0 d1 d2 d3 l0 l1 l2 l3 \n") graph_b 2 0
    -- a cell line has the fields of its own names line
    ∷ refuses (longer "inv 1 0001 1 10 0 0 0\n") graph_b 4 45
    ∷ refuses (longer "inv 1 0001 1 10 0 0 0 5 0 0\n") graph_b 4 45
    ∷ refuses (longer "inv 1 0001 1 10 0 0 0 5 0 0 0 0\n") graph_b 4 45
    ∷ refuses (longer "inv 1 0001 1 10 0 0 0 05 0 0 0\n") graph_b 4 45
    ∷ refuses (with "buf 1 0002 1 10 0 0 0 5 0 0 0\n") graph_b 4 (length library)
    -- "27 when a lowest delay exceeds its `d` .. at that line's offset": of each pin, and equal is none
    ∷ refuses (longer "inv 1 0001 1 10 0 0 0 11 0 0 0\n") graph_b 27 45
    ∷ refuses (longer "inv 1 0001 1 10 0 0 0 5 0 0 0\nnand2 2 0007 2 20 20 0 0 10 21 0 0\n") graph_b 27 75
    ∷ refuses (longer "and4 4 8000 2 20 20 20 20 10 20 21 20\n") graph_b 27 45
    ∷ refuses (longer "and4 4 8000 2 20 20 20 20 10 20 20 21\n") graph_b 27 45
    ∷ gives (longer "and4 4 8000 2 20 20 20 65535 20 20 20 65535\n") "aag 0 0 0 0 0\n" 0 0
    -- "An absent pin has lowest delay 0, else 6 applies", and 27 comes "after 6 on its line"
    ∷ refuses (longer "inv 1 0001 1 10 0 0 0 5 1 0 0\n") graph_b 6 45
    ∷ refuses (longer "inv 1 0001 1 10 0 0 0 11 0 0 1\n") graph_b 6 45
    ∷ refuses (longer "inv 1 0004 1 10 0 0 0 11 0 0 0\n") graph_b 6 45
    -- after 5 on its line, and before the next line's 3 to 6
    ∷ refuses (longer "inv 1 0001 1 10 0 0 0 5 0 0 0\ninv 1 0001 1 10 0 0 0 11 0 0 0\n") graph_b 5 75
    ∷ refuses (longer "inv 1 0001 1 10 0 0 0 11 0 0 0\n\n") graph_b 27 45
    ∷ refuses (longer "inv 1 0004 1 10 0 0 0 5 0 0 0\ninw 1 0001 1 10 0 0 0 11 0 0 0\n") graph_b 6 45
    -- before 7 and before 10
    ∷ refuses (longer "inv 1 0001 1 10 0 0 0 11 0 0 0\n") "" 27 45
    ∷ lacks (longer "inv 1 0001 1 10 0 0 0 11 0 0 0\n") graph_b 0 65536 27 45
    ∷ []
    ))
unfolding all holds library with graph_b longer ranged text
refusals_hold = tt

-- "Work memory is unchanged by every refusal tried up to 10": 27 is one of them
pub work_left_lem : T (same (work_after (refused 27 45) (7 ∷ 8 ∷ [])) (7 ∷ 8 ∷ []) && same (work_after (refused 28 64) (7 ∷ 8 ∷ [])) (0 ∷ 0 ∷ []))
unfolding same work_after
work_left_lem = tt

-- ---- the lines read back

-- a text's lines say these names, and these low and high arrivals one after the other
unfoldable pub are_said : List (List ℕ) → List ℕ → Option (List TimingLine) → Bool
unfolding same_cuts same each
are_said os ns None = false
are_said os ns (Some xs) = same_cuts os (map (λ (x : TimingLine). x.output) xs) && same ns (each (λ (x : TimingLine). x.low ∷ x.high ∷ []) xs)

unfoldable pub not_said : Option (List TimingLine) → Bool
not_said None = true
not_said (Some xs) = false

pub lines-read : T (
    are_said [] [] (read_timings listing)
    && (are_said (text "o0" ∷ []) (20 ∷ 30 ∷ []) (read_timings (listing ++ text "# timing o0 20 30\n"))
    && (are_said (text "o0" ∷ text "o1" ∷ []) (20 ∷ 30 ∷ 0 ∷ 65536 ∷ []) (read_timings (listing ++ text "# timing o0 20 30\n# timing o1 0 65536\n"))
    && (not_said (read_timings (listing ++ text "# timing o0 20\n"))
    && (not_said (read_timings (listing ++ text "# timing o0 020 30\n"))
    && (not_said (read_timings (listing ++ text "# timing o0 20 30 \n"))
    && (not_said (read_timings (listing ++ text "# timing o0 20 30\n# gates 2 area 3 arrival 30\n"))
    && not_said (read_timings (listing ++ text "# timing o0 20 30\n\n"))))))))
    )
unfolding are_said not_said read_timings listing text
lines-read = tt
