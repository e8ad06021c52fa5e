-- Request N11, "Which cells do our designs use?", by computing: B's netlist counted, each kind of line broken once, 28, and the report.
use Prim.Native.String.{String}
use Rattle.base.specs.{ℕ, ◌-◌, ◌+◌, ◌^◌, Bool, false, ◌&&◌, List, [], ◌∷◌, ◌++◌, map, T, eqb, length, take, drop, replicate}
use Rattle.model.specs.{all, same, each, text, Read, fault, holds as reads, empty_tally, count_text, tally_after, report_of}
use Rattle.model.specs.declared.Tally.{Tally}
use Rattle.cases.proofs.{library, listing, ranged}

-- ---- what is looked at

-- numbers at the first places of a column, 0 at the others
unfoldable pub column : List ℕ → List ℕ
column ns = ns ++ replicate (32 - length ns) 0

-- a tally by its gates, areas, netlists in which each cell occurs, and netlists counted
unfoldable pub tallied : List ℕ → List ℕ → List ℕ → ℕ → Tally
unfolding column
tallied gates areas occurs netlists = record { gates = column gates; areas = column areas; occurs = column occurs; netlists = netlists }

unfoldable pub same_tally : Tally → Tally → Bool
unfolding same
same_tally t u = same t.gates u.gates && (same t.areas u.areas && (same t.occurs u.occurs && eqb t.netlists u.netlists))

unfoldable pub is_tally : Tally → Read Tally → Bool
unfolding same_tally
is_tally t (reads u) = same_tally t u
is_tally t (fault n k) = false

unfoldable pub is_text : List ℕ → Read (List ℕ) → Bool
unfolding same
is_text t (reads u) = same t u
is_text t (fault n k) = false

unfoldable pub is_fault : {A : Type 0} → ℕ → ℕ → Read A → Bool
is_fault n k (reads x) = false
is_fault n k (fault m j) = eqb n m && eqb k j

pub data Case : Type 0 where
  -- a netlist counted from one tally to the next, or refused with a number and a place
  counts : List ℕ → Tally → List ℕ → Tally → Case
  refuses : List ℕ → Tally → List ℕ → ℕ → ℕ → Case
  -- the report of a tally in so many bytes, or its refusal
  reports : List ℕ → Tally → ℕ → String → Case
  lacks : List ℕ → Tally → ℕ → ℕ → ℕ → Case

unfoldable pub holds : Case → Bool
unfolding count_text report_of is_tally is_text is_fault text
holds (counts l t n u) = is_tally u (count_text t l n)
holds (refuses l t n m k) = is_fault m k (count_text t l n)
holds (reports l t bytes r) = is_text (text r) (report_of t l bytes)
holds (lacks l t bytes m k) = is_fault m k (report_of t l bytes)

-- ---- B's netlist

-- its lines: they begin at 0, 11, 25, 37, 57, 84, 97, 101 and 106, and the text ends at 134
unfoldable pub lines_b : List (List ℕ)
unfolding text
lines_b = map text (".model top\n" ∷ ".inputs p1 p2\n" ∷ ".outputs o0\n" ∷ ".gate inv A=m3 O=p3\n" ∷ ".gate nand2 A=p1 B=p2 O=m3\n" ∷ ".names p3 o0\n" ∷ "1 1\n" ∷ ".end\n" ∷ "# gates 2 area 3 arrival 30\n" ∷ [])

-- the text with other bytes for line i
unfoldable pub with : ℕ → String → List ℕ
unfolding lines_b text each
with i line = each (λ (l : List ℕ). l) (take i lines_b) ++ (text line ++ each (λ (l : List ℕ). l) (drop (1 + i) lines_b))

-- B counted once
unfoldable pub once : Tally
unfolding tallied
once = tallied (1 ∷ 1 ∷ []) (1 ∷ 2 ∷ []) (1 ∷ 1 ∷ []) 1

unfoldable pub counted : List Case
unfolding library listing ranged lines_b with once tallied empty_tally text
counted =
    -- one inv of area 1, one nand2 of area 2, each in one netlist
    counts library empty_tally listing once
    ∷ counts library once listing (tallied (2 ∷ 2 ∷ []) (2 ∷ 4 ∷ []) (2 ∷ 2 ∷ []) 2)
    -- two inv more in one netlist, and no nand2: "`inv 3 3 2`: its gates, their total area and in how many netlists it occurs"
    ∷ counts library once (text ".model top\n.inputs p1\n.outputs\n.gate inv A=p1 O=m1\n.gate inv A=m1 O=p1\n.end\n# gates 2 area 2 arrival 0\n") (tallied (3 ∷ 1 ∷ []) (3 ∷ 2 ∷ []) (2 ∷ 1 ∷ []) 2)
    -- no gate at all is a netlist counted
    ∷ counts library once (text ".model top\n.inputs\n.outputs\n.end\n# gates 0 area 0 arrival 0\n") (tallied (1 ∷ 1 ∷ []) (1 ∷ 2 ∷ []) (1 ∷ 1 ∷ []) 2)
    -- "net and output numbers and times may be any digits"
    ∷ counts library empty_tally (with 4 ".gate nand2 A=p007 B=m65536 O=m0\n") once
    ∷ counts library empty_tally (with 8 "# gates 2 area 3 arrival 007\n") once
    -- "a net `s` followed by the root's net name, which N11 takes in gate lines", and nowhere else
    ∷ counts library empty_tally (with 4 ".gate nand2 A=sp1 B=p2 O=sm3\n") once
    ∷ refuses library empty_tally (with 5 ".names sp3 o0\n") 29 84
    ∷ refuses library empty_tally (with 1 ".inputs p1 sp2\n") 29 11
    ∷ []

pub counted_hold : T (all holds counted)
unfolding all holds counted
counted_hold = tt

pub timings_hold : T (all holds (
    -- under the longer names line a timing line for each output is expected
    counts ranged empty_tally (listing ++ text "# timing o7 0 00\n") once
    ∷ refuses ranged empty_tally listing 29 134
    ∷ refuses library empty_tally (listing ++ text "# timing o0 20 30\n") 29 134
    ∷ refuses ranged empty_tally (listing ++ text "# gates o0 20 30\n") 29 134
    ∷ refuses ranged empty_tally (listing ++ text ". timing o0 20 30\n") 29 134
    ∷ refuses ranged empty_tally (listing ++ text "# timing p0 20 30\n") 29 134
    ∷ []
    ))
unfolding all holds library listing ranged lines_b with once tallied empty_tally text
timings_hold = tt

pub timing-word_hold : T (all holds (
    -- its second word, behind a gate of the first cell
    refuses ranged empty_tally (text ".model top\n.inputs p1\n.outputs o0\n.gate inv A=p1 O=m1\n.names m1 o0\n1 1\n.end\n# gates 1 area 1 arrival 10\n# gates o0 10 10\n") 29 104
    ∷ []
    ))
unfolding all holds ranged empty_tally text
timing-word_hold = tt

pub broken-lines_hold : T (all holds (
    -- each kind of line broken, at its own place
    refuses library empty_tally (with 0 ".model Top\n") 29 0
    ∷ refuses library empty_tally (with 1 ".inputs p1 m2\n") 29 11
    ∷ refuses library empty_tally (with 1 ".inputs p1 p\n") 29 11
    ∷ refuses library empty_tally (with 2 ".outputs p0\n") 29 25
    ∷ refuses library empty_tally (with 3 ".gate inv A=m3 O=p3 \n") 29 37
    ∷ refuses library empty_tally (with 3 ".subckt inv A=m3 O=p3\n") 29 37
    -- "names no listed cell"
    ∷ refuses library empty_tally (with 3 ".gate nor2 A=m3 B=p1 O=p3\n") 29 37
    ∷ refuses library empty_tally (with 4 ".gate nand2 A=p1 O=m3\n") 29 57
    ∷ refuses library empty_tally (with 4 ".gate nand2 B=p2 A=p1 O=m3\n") 29 57
    ∷ refuses library empty_tally (with 4 ".gate nand2 A=p1 B=p2 O=n3\n") 29 57
    ∷ refuses library empty_tally (with 4 ".gate nand2 A=p1 B=p2 O=s3\n") 29 57
    ∷ refuses library empty_tally (with 4 ".gate nand2 A=p1 B=p2 O=ssm3\n") 29 57
    ∷ refuses library empty_tally (with 5 ".names p3 p4\n") 29 84
    ∷ refuses library empty_tally (with 6 "1 0\n") 29 97
    ∷ refuses library empty_tally (with 7 ".END\n") 29 101
    -- "gives a gate count or area that isn't that of the gates above it", or not as it is printed
    ∷ refuses library empty_tally (with 8 "# gates 3 area 3 arrival 30\n") 29 106
    ∷ refuses library empty_tally (with 8 "# gates 2 area 2 arrival 30\n") 29 106
    ∷ refuses library empty_tally (with 8 "# gates 02 area 3 arrival 30\n") 29 106
    ∷ refuses library empty_tally (with 8 "# gates 2 area 3 arrival\n") 29 106
    -- an output more is expected two lines more
    ∷ refuses library empty_tally (with 2 ".outputs o0 o1\n") 29 104
    -- a line without its end, a line too few, a line too many, another end
    ∷ refuses library empty_tally (with 8 "# gates 2 area 3 arrival 30") 29 106
    ∷ refuses library empty_tally (with 8 "") 29 106
    ∷ refuses library empty_tally (listing ++ text "\n") 29 134
    ∷ refuses library empty_tally (with 6 "1 1\r\n") 29 97
    ∷ refuses library empty_tally [] 29 0
    ∷ []
    ))
unfolding all holds library listing ranged lines_b with once tallied empty_tally text
broken-lines_hold = tt

pub lengths_hold : T (all holds (
    -- 1, of either text
    refuses library empty_tally (replicate 65537 10) 1 0
    ∷ refuses (replicate 65537 10) empty_tally listing 1 0
    ∷ []
    ))
unfolding all holds library listing ranged lines_b with once tallied empty_tally text
lengths_hold = tt

-- ---- 28, and the report

-- a library of five cells without pins
unfoldable pub five : List ℕ
unfolding text
five = text "cell pins table area d0 d1 d2 d3\na 0 0000 1 0 0 0 0\nb 0 0000 1 0 0 0 0\nc 0 0000 1 0 0 0 0\nd 0 0000 1 0 0 0 0\ne 0 0000 1 0 0 0 0\n"

pub figures_hold : T (all holds (
    -- "28 when 64 netlists are counted already": whatever the netlist, and after the library's refusals
    counts library (tallied [] [] [] 63) listing (tallied (1 ∷ 1 ∷ []) (1 ∷ 2 ∷ []) (1 ∷ 1 ∷ []) 64)
    ∷ refuses library (tallied [] [] [] 64) listing 28 64
    ∷ refuses library (tallied [] [] [] 64) [] 28 64
    ∷ refuses (text "cell\n") (tallied [] [] [] 64) [] 2 0
    -- "a tally figure exceeds 2^40", at any place of any column
    ∷ counts library (tallied ((2 ^ 40) ∷ []) (0 ∷ (2 ^ 40) ∷ []) [] 0) listing (tallied ((2 ^ 40 + 1) ∷ 1 ∷ []) (1 ∷ (2 ^ 40 + 2) ∷ []) (1 ∷ 1 ∷ []) 1)
    ∷ refuses library (tallied ((2 ^ 40 + 1) ∷ []) [] [] 0) listing 28 64
    ∷ refuses library (tallied [] (0 ∷ (2 ^ 40 + 1) ∷ []) [] 0) listing 28 64
    ∷ refuses library (tallied [] [] (replicate 31 0 ++ ((2 ^ 40 + 1) ∷ [])) 0) listing 28 64
    -- "in a report too", where 64 netlists and more are none
    ∷ lacks library (tallied [] [] (replicate 31 0 ++ ((2 ^ 40 + 1) ∷ [])) 0) 0 28 64
    ∷ lacks library (tallied [] [] [] (2 ^ 40 + 1)) 0 28 64
    ∷ reports library (tallied [] [] [] 64) 100 "inv 0 0 0\nnand2 0 0 0\ntotal 0 0 64\n"
    -- "a line per cell in library order, .. then `total`": 34 bytes, and one short of them
    ∷ reports library once 34 "inv 1 1 1\nnand2 1 2 1\ntotal 2 3 1\n"
    ∷ lacks library once 33 18 34
    ∷ reports library (tallied (3 ∷ 1 ∷ []) (3 ∷ 2 ∷ []) (2 ∷ 1 ∷ []) 2) 100 "inv 3 3 2\nnand2 1 2 1\ntotal 4 5 2\n"
    -- five cells, each figure another
    ∷ reports five (tallied (3 ∷ 14 ∷ 15 ∷ 92 ∷ 65 ∷ []) (35 ∷ 89 ∷ 79 ∷ 32 ∷ 38 ∷ []) (4 ∷ 6 ∷ 2 ∷ 7 ∷ 8 ∷ []) 9) 100 "a 3 35 4\nb 14 89 6\nc 15 79 2\nd 92 32 7\ne 65 38 8\ntotal 189 273 9\n"
    -- the sums go over the listed cells
    ∷ reports library (tallied (0 ∷ 0 ∷ 7 ∷ []) [] [] 0) 100 "inv 0 0 0\nnand2 0 0 0\ntotal 0 0 0\n"
    ∷ []
    ))
unfolding all holds library listing once tallied empty_tally five text
figures_hold = tt

pub permuted_hold : T (all holds (
    -- the gates stand before the area: each cell occurs in every netlist
    reports five (tallied (3 ∷ 14 ∷ 15 ∷ 92 ∷ 65 ∷ []) (35 ∷ 89 ∷ 79 ∷ 32 ∷ 38 ∷ []) (9 ∷ 9 ∷ 9 ∷ 9 ∷ 9 ∷ []) 9) 100 "a 3 35 9\nb 14 89 9\nc 15 79 9\nd 92 32 9\ne 65 38 9\ntotal 189 273 9\n"
    ∷ []
    ))
unfolding all holds tallied five
permuted_hold = tt

pub everywhere_hold : T (all holds (
    -- "in how many netlists it occurs": each gate has the area 1
    reports five (tallied (3 ∷ 14 ∷ 15 ∷ 92 ∷ 65 ∷ []) (3 ∷ 14 ∷ 15 ∷ 92 ∷ 65 ∷ []) (4 ∷ 6 ∷ 2 ∷ 7 ∷ 8 ∷ []) 9) 100 "a 3 3 4\nb 14 14 6\nc 15 15 2\nd 92 92 7\ne 65 65 8\ntotal 189 189 9\n"
    ∷ []
    ))
unfolding all holds tallied five
everywhere_hold = tt

-- "A refused netlist adds nothing", and takes nothing away
pub refused-kept : T (same_tally (tally_after once (count_text once library [])) once)
unfolding same_tally tally_after count_text once library
refused-kept = tt
