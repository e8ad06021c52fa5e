-- What a `# gates` line says, by computing: B's netlist, and lines that say nothing.
use Rattle.base.specs.{ℕ, Bool, true, false, ◌&&◌, Option, None, Some, List, [], ◌∷◌, T, eqb}
use Rattle.model.specs.{all, text}
use Rattle.cases.proofs.{listing}
use Rattle.promises.specs.Sums.{GatesLine, figures_in}

unfoldable pub says : ℕ → ℕ → Option GatesLine → Bool
says gates area None = false
says gates area (Some l) = eqb l.gates gates && eqb l.area area

unfoldable pub silent : Option GatesLine → Bool
silent None = true
silent (Some l) = false

unfoldable pub cases : List Bool
unfolding listing text figures_in says silent
cases =
    says 2 3 (figures_in listing)
    -- figures of any size
    ∷ says 65536 4294901760 (figures_in (text ".end\n# gates 65536 area 4294901760 arrival 0\n"))
    -- times "may be any digits", and the lines of N10 follow
    ∷ says 0 12 (figures_in (text "# gates 0 area 12 arrival 007\n# timing o0 1 2\n"))
    -- the first line of this beginning
    ∷ says 1 2 (figures_in (text "# timing o0 8 9\n# gates 1 area 2 arrival 3\n# gates 4 area 5 arrival 6\n"))
    -- none
    ∷ silent (figures_in [])
    ∷ silent (figures_in (text ".gate inv A=m3 O=p3\n.end\n"))
    -- no number "without leading zeros", and other words
    ∷ silent (figures_in (text "# gates 02 area 3 arrival 30\n"))
    ∷ silent (figures_in (text "# gates 2 area x arrival 30\n"))
    ∷ silent (figures_in (text "# gates 2 arrival 30 area 3\n"))
    ∷ []

pub cases_hold : T (all (λ (b : Bool). b) cases)
unfolding all cases
cases_hold = tt
