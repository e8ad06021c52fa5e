-- What `specs.TallyDemands` reads, by computing: the lines that name a cell, and reports.
use Prim.Native.String.{String}
use Rattle.base.specs.{ℕ, Bool, true, false, ◌&&◌, None, Some, List, [], ◌∷◌, T, eqb}
use Rattle.model.specs.{all, same, text, holds, fault, read_library, cell_at}
use Rattle.cases.proofs.{library, listing}
use Rattle.promises.specs.TallyDemands.{gates_naming, Row, read_report, cell_row}

-- a netlist with two gates of one cell
unfoldable pub two : List ℕ
unfolding text
two = text ".model top\n.inputs p1\n.outputs\n.gate inv A=p1 O=m1\n.gate inv A=m1 O=p1\n.end\n# gates 2 area 2 arrival 0\n"

unfoldable pub is_row : String → ℕ → ℕ → ℕ → Row → Bool
unfolding same text
is_row name a b c r = same (text name) r.name && (eqb a r.gates && (eqb b r.area && eqb c r.netlists))

unfoldable pub are_rows : List (Row → Bool) → List Row → Bool
are_rows [] [] = true
are_rows [] (r ∷ rs) = false
are_rows (p ∷ ps) [] = false
are_rows (p ∷ ps) (r ∷ rs) = let later = are_rows ps rs in p r && later

unfoldable pub reads : String → List (Row → Bool) → Bool
unfolding text read_report are_rows
reads s ps = elim (read_report (text s)) [ Some rs ↦ are_rows ps rs | None ↦ false ]

unfoldable pub is_none : String → Bool
unfolding text read_report
is_none s = elim (read_report (text s)) [ Some rs ↦ false | None ↦ true ]

-- what the lines of B's library have to say after B's netlist and this one
unfoldable pub says : ℕ → String → ℕ → ℕ → ℕ → Bool
unfolding read_library library listing two cell_row cell_at is_row
says i name a b c = elim (read_library library) [ holds cells ↦ is_row name a b c (cell_row (two ∷ listing ∷ []) (cell_at cells i)) | fault n k ↦ false ]

unfoldable pub cases : List Bool
unfolding listing two text gates_naming says reads is_none is_row
cases =
    -- the lines that name a cell
    eqb 1 (gates_naming (text "inv") listing)
    ∷ eqb 2 (gates_naming (text "inv") two)
    ∷ eqb 0 (gates_naming (text "nand2") two)
    -- a longer name is another, and so is a shorter one
    ∷ eqb 0 (gates_naming (text "nand") listing)
    ∷ eqb 0 (gates_naming (text "nand22") listing)
    -- gates, area and netlists
    ∷ says 0 "inv" 3 3 2
    ∷ says 1 "nand2" 1 2 1
    -- a report
    ∷ reads "inv 3 3 2\nnand2 1 2 1\ntotal 4 5 2\n" (is_row "inv" 3 3 2 ∷ is_row "nand2" 1 2 1 ∷ is_row "total" 4 5 2 ∷ [])
    ∷ reads "total 0 0 0\n" (is_row "total" 0 0 0 ∷ [])
    -- a last line without its end, a word more, a word less, a zero in front, another line end
    ∷ is_none "total 0 0 0"
    ∷ is_none "total 0 0 0 0\n"
    ∷ is_none "total 0 0\n"
    ∷ is_none "total 00 0 0\n"
    ∷ is_none "total 0 0 0\r\n"
    ∷ []

pub cases_hold : T (all (λ (b : Bool). b) cases)
unfolding all cases
cases_hold = tt
