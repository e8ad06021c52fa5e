-- Request N13, "Shuffled libraries", by computing: two libraries of the same cell lines in different orders, one with either line end, print netlists that
-- differ in a gate and in the area and agree in every arrival, with pairs wanted and not; 17 comes at one place with both.
use Rattle.base.specs.{ℕ, ◌+◌, Bool, true, false, ◌&&◌, List, [], ◌∷◌, ◌++◌, Memᴰ, Memᴰ-head, Memᴰ-tail, Memᴰ-not-nil}
use Rattle.base.specs.{T}
use Rattle.model.specs.{same, text, lines_from, Outcome, map_texts, behind_first, cell_lines, SameLines, on_library}
use Rattle.cases.proofs.{graph_b, is_print, is_refusal, same_cuts}
use Rattle.cases_pairs.proofs.PairCases.{pair_call}

-- an inverter and two nand2 that differ in area alone
unfoldable pub in_order : List ℕ
unfolding text
in_order = text "cell pins table area d0 d1 d2 d3\ninv 1 0001 1 10 0 0 0\nnand2 2 0007 2 20 20 0 0\nnandb 2 0007 5 20 20 0 0\n"

-- the same lines from the last to the first, each with the two bytes 13 and 10 at its end
unfoldable pub reversed : List ℕ
unfolding text
reversed =
    text "cell pins table area d0 d1 d2 d3" ++ (13 ∷ 10 ∷ text "nandb 2 0007 5 20 20 0 0" ++ (13 ∷ 10 ∷ text "nand2 2 0007 2 20 20 0 0"
    ++ (13 ∷ 10 ∷ text "inv 1 0001 1 10 0 0 0" ++ (13 ∷ 10 ∷ []))))

-- three elements and the same from the last to the first
permuted : {A : Type 0} (x a b c : A) → Memᴰ x (a ∷ b ∷ c ∷ []) → Memᴰ x (c ∷ b ∷ a ∷ [])
permuted x a b c (Memᴰ-head e) = Memᴰ-tail (Memᴰ-tail (Memᴰ-head e))
permuted x a b c (Memᴰ-tail (Memᴰ-head e)) = Memᴰ-tail (Memᴰ-head e)
permuted x a b c (Memᴰ-tail (Memᴰ-tail (Memᴰ-head e))) = Memᴰ-head e
permuted x a b c (Memᴰ-tail (Memᴰ-tail (Memᴰ-tail m))) = absurd (Memᴰ-not-nil m)

-- they hold "the same cell lines"
pub lines_same : SameLines in_order reversed
unfolding in_order reversed cell_lines behind_first lines_from text
lines_same x = (
  permuted x (text "inv 1 0001 1 10 0 0 0") (text "nand2 2 0007 2 20 20 0 0") (text "nandb 2 0007 5 20 20 0 0"),
  permuted x (text "nandb 2 0007 5 20 20 0 0") (text "nand2 2 0007 2 20 20 0 0") (text "inv 1 0001 1 10 0 0 0"),
)

-- these
pub lines_are : T (same_cuts (cell_lines in_order) (text "inv 1 0001 1 10 0 0 0" ∷ text "nand2 2 0007 2 20 20 0 0" ∷ text "nandb 2 0007 5 20 20 0 0" ∷ []))
unfolding in_order same_cuts cell_lines same text
lines_are = tt

unfoldable pub is_listing : List ℕ → ℕ → Outcome → Bool
unfolding is_print text
is_listing gates area = is_print (text ".model top\n.inputs p1 p2\n.outputs o0\n" ++ (gates ++ (text ".names p3 o0\n1 1\n.end\n# gates 2 area " ++ ((48 + area) ∷ text " arrival 30\n")))) 2 area 30

-- B: "Gate choice, area .. may differ", and the arrival is 30 in all four
pub netlists-differ : T (
    is_listing (text ".gate inv A=m3 O=p3\n.gate nand2 A=p1 B=p2 O=m3\n") 3 (map_texts (pair_call false in_order graph_b 32768))
    && (is_listing (text ".gate inv A=m3 O=p3\n.gate nandb A=p1 B=p2 O=m3\n") 6 (map_texts (on_library (pair_call false in_order graph_b 32768) reversed))
    && (is_listing (text ".gate nand2 A=p1 B=p2 O=sp3\n.gate inv A=sp3 O=p3\n") 3 (map_texts (pair_call true in_order graph_b 32768))
    && is_listing (text ".gate nandb A=p1 B=p2 O=sp3\n.gate inv A=sp3 O=p3\n") 6 (map_texts (on_library (pair_call true in_order graph_b 32768) reversed)))))
unfolding is_listing map_texts in_order reversed graph_b text
netlists-differ = tt

-- 17 at one place: these cells have no constant
pub places_agree : T (
    is_refusal 17 1 (map_texts (pair_call false in_order "aag 1 1 0 3 0\n2\n3\n0\n1\n" 32768))
    && is_refusal 17 1 (map_texts (on_library (pair_call false in_order "aag 1 1 0 3 0\n2\n3\n0\n1\n" 32768) reversed)))
unfolding is_refusal map_texts in_order reversed text
places_agree = tt
