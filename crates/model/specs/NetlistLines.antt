-- The forms of a printed netlist's lines, field by field: "the kind and form mapping prints there (net and output numbers and times may be any digits)".
use Rattle.std.specs.Prelude.{◌+◌, ◌&&◌, ◌||◌, ◌∷◌, ◌++◌}
use Rattle.base.specs.{ℕ, suc, Bool, true, false, cond, Option, None, Some, List, [], map, eqb, ltb, length}
use Rattle.base.specs.{get_or, drop}
use Rattle.model.specs.Base.{all, same, below}
use Rattle.model.specs.Text.{text, decimal, fields, between}
use Rattle.model.specs.Cells.{name_of}
use Rattle.model.specs.declared.Cell.{Cell}

-- ---- fields

-- "any digits": one or more
unfoldable pub are_digits : List ℕ → Bool
unfolding all between
are_digits w = ltb 0 (length w) && all (between 48 57) w

-- a letter and digits
unfoldable pub is_label : ℕ → List ℕ → Bool
unfolding are_digits
is_label b w = eqb (get_or w 0 0) b && are_digits (drop 1 w)

-- "Nets are `p` or `m` (negative) and the variable"
unfoldable pub is_phase_net : List ℕ → Bool
unfolding is_label
is_phase_net w = is_label 112 w || is_label 109 w

-- "a net `s` followed by the root's net name"
unfoldable pub is_inner_net : List ℕ → Bool
unfolding is_phase_net
is_inner_net w = eqb (get_or w 0 0) 115 && is_phase_net (drop 1 w)

-- a net of a gate line, at a pin or at the output: one inside a pair too, "which N11 takes in gate lines"
unfoldable pub is_gate_net : List ℕ → Bool
unfolding is_phase_net is_inner_net
is_gate_net w = is_phase_net w || is_inner_net w

-- "each pin in order with `=` and its net": the pin of letter b
unfoldable pub is_bound : ℕ → List ℕ → Bool
unfolding is_gate_net
is_bound b w = eqb (get_or w 0 0) b && (eqb (get_or w 1 0) 61 && is_gate_net (drop 2 w))

-- ---- lines

-- fields of a form: a test for each, in order, and no field more
unfoldable pub of_form : List (List ℕ → Bool) → List (List ℕ) → Bool
of_form [] [] = true
of_form [] (w ∷ ws) = false
of_form (p ∷ ps) [] = false
of_form (p ∷ ps) (w ∷ ws) = let r = of_form ps ws in p w && r

-- a keyword, and behind it fields of one kind, as many as there are
unfoldable pub of_list : List ℕ → (List ℕ → Bool) → List (List ℕ) → Bool
unfolding same all
of_list keyword p [] = false
of_list keyword p (w ∷ ws) = same keyword w && all p ws

-- `.inputs p1 p2`, `.outputs o0`: a keyword, and names that are a letter and digits
unfoldable pub is_name_list : List ℕ → ℕ → List ℕ → Bool
unfolding of_list is_label fields
is_name_list keyword b l = of_list keyword (is_label b) (fields l)

-- "a gate line is `.gate`, the cell's name, each pin in order with `=` and its net, then the output likewise": "pins A to D, output O"
unfoldable pub gate_form : Cell → List (List ℕ → Bool)
unfolding same text name_of is_bound below
gate_form c = same (text ".gate") ∷ same (name_of c) ∷ map (λ (j : ℕ). is_bound (65 + j)) (below c.pins) ++ (is_bound 79 ∷ [])

-- the line of the listed cell that a gate line is of, the lines numbered from k
unfoldable pub gate_of : ℕ → List Cell → List ℕ → Option ℕ
unfolding of_form gate_form fields
gate_of k [] l = None
gate_of k (c ∷ cs) l = let later = gate_of (suc k) cs l in cond (of_form (gate_form c) (fields l)) (Some k) later

-- `.names p3 o0`
unfoldable pub is_wire : List ℕ → Bool
unfolding of_form same text is_phase_net is_label fields
is_wire l = of_form (same (text ".names") ∷ is_phase_net ∷ is_label 111 ∷ []) (fields l)

-- `# gates 2 area 3 arrival 30`, with this gate count and this area
unfoldable pub is_figures : ℕ → ℕ → List ℕ → Bool
unfolding of_form same text decimal are_digits fields
is_figures gates area l =
    of_form
    (same (text "#") ∷ same (text "gates") ∷ same (decimal gates) ∷ same (text "area") ∷ same (decimal area) ∷ same (text "arrival") ∷ are_digits ∷ [])
    (fields l)

-- `# timing o0 30 35`
unfoldable pub is_timing : List ℕ → Bool
unfolding of_form same text is_label are_digits fields
is_timing l = of_form (same (text "#") ∷ same (text "timing") ∷ is_label 111 ∷ are_digits ∷ are_digits ∷ []) (fields l)
