-- The gates that are counted of a netlist are its gate lines, cell by cell: by the netlist's bytes alone.
use Rattle.base.specs.{ℕ, zero, suc, ◌+◌, ◌<◌, zero-add, arith, ◌≡◌, refl, sym, ◌∙◌, ap, ap₂, subst, Bool, true, false, not, cond, ◌&&◌}
use Rattle.base.specs.{Option, None, Some, List, [], ◌∷◌, ◌++◌, map, map-append, append-nil, Memᴰ, Memᴰ-head, Memᴰ-tail, T}
use Rattle.base.specs.{eqb, T_not, length, get_or, eq-eqb, ne_eqb, and_yes}
use Rattle.model.specs.{each, same, from, below, Line, ended_by_ten, text, decimal, lines_from, fields, split, onto, holds, name_of, cell_at}
use Rattle.model.specs.{read_library, is_name_list, is_wire, is_figures, is_timing, of_form, of_list, is_phase_net, is_label, are_digits, is_bound}
use Rattle.model.specs.{gate_form, gate_of, expected_lines, nothing_left, gate_in, gates_in, after_gates, area_of, preamble, wire_pairs, timings}
use Rattle.model.specs.{behind_gates, outputs_of, read_counted, times}
use Rattle.model.specs.declared.Cell.{Cell}
use Rattle.theory_graph.proofs.{is_true, same-eq, same_refl, all_of, by_eqb, by_bool, by_list, by_option}
use Rattle.theory_graph.specs.{library_fits}
use Rattle.theory_text.proofs.{holds-once, next_out, library-fits, library-rest}
use Rattle.promises.specs.TallyDemands.{names_cell, lines_naming, gates_naming}
use Rattle.theory_tally.proofs.ExpectedMet.{Meets, AreGates}
use Rattle.theory_tally.proofs.FigureBounds.{bytes_of, Ten, ten_append, lines-parts, keys_first, expected_out, left_out}

-- ---- no two cells share a name

-- the cell at a line is listed
pub at_listed : (cells : List Cell) (i : ℕ) → i < length cells → Memᴰ (cell_at cells i) cells
unfolding cell_at
at_listed [] i h = absurd (omega arith)
at_listed (c ∷ cs) zero h = Memᴰ-head refl
at_listed (c ∷ cs) (suc i) h = Memᴰ-tail (at_listed cs i (omega arith))

pub name-once : (cells : List Cell) → T (library_fits cells) → (i k : ℕ) → i < length cells → k < length cells
    → name_of (cell_at cells i) ≡ name_of (cell_at cells k) → i ≡ k
unfolding cell_at
name-once [] t i k hi hk e = absurd (omega arith)
name-once (c ∷ cs) t zero zero hi hk e = refl
name-once (c ∷ cs) t zero (suc k) hi hk e =
    let n = all_of (λ (d : Cell). not (same (name_of c) (name_of d))) cs (library-rest c cs t).0 (cell_at cs k) (at_listed cs k (omega arith)) in
    absurd (T_not (same (name_of c) (name_of (cell_at cs k))) n (subst (λ (w : List ℕ). T (same (name_of c) w)) e (same_refl (name_of c))))
name-once (c ∷ cs) t (suc i) zero hi hk e =
    let n = all_of (λ (d : Cell). not (same (name_of c) (name_of d))) cs (library-rest c cs t).0 (cell_at cs i) (at_listed cs i (omega arith)) in
    absurd (T_not (same (name_of c) (name_of (cell_at cs i))) n (subst (λ (w : List ℕ). T (same (name_of c) w)) (sym e) (same_refl (name_of c))))
name-once (c ∷ cs) t (suc i) (suc k) hi hk e = ap suc (name-once cs (library-rest c cs t).1 i k (omega arith) (omega arith) e)

name_tells : (cells : List Cell) → T (library_fits cells) → (i k : ℕ) → i < length cells → k < length cells
    → same (name_of (cell_at cells i)) (name_of (cell_at cells k)) ≡ eqb i k
name_tells cells t i k hi hk =
    by_eqb i k
    (λ e. is_true (same (name_of (cell_at cells i)) (name_of (cell_at cells k))) (subst (λ (j : ℕ). T (same (name_of (cell_at cells i)) (name_of (cell_at cells j)))) e (same_refl (name_of (cell_at cells i)))) ∙ sym (eq-eqb i k e))
    (λ d. apart (same (name_of (cell_at cells i)) (name_of (cell_at cells k))) (λ u. d (name-once cells t i k hi hk (same-eq (name_of (cell_at cells i)) (name_of (cell_at cells k)) u))) ∙ sym (ne_eqb i k d))
  where
    apart : (b : Bool) → (T b → ⊥) → b ≡ false
    apart true h = absurd (h tt)
    apart false h = refl

-- ---- the words of a gate line

record Says (cs : List Cell) (k m : ℕ) (w : List ℕ) : Type 0 where
  place : ℕ
  is_place : m ≡ k + place
  listed : place < length cs
  later : List (List ℕ)
  words : fields w ≡ text ".gate" ∷ name_of (cell_at cs place) ∷ later

gate-says : (k : ℕ) (cs : List Cell) (w : List ℕ) (m : ℕ) → gate_of k cs w ≡ Some m → Says cs k m w
unfolding gate_of gate_form cell_at
gate-says k [] w m e = let z : ◌≡◌ {A = ℕ} 0 1 = cc in absurd (omega arith)
gate-says k (c ∷ cs) w m e = go (of_form (gate_form c) (fields w)) refl e (gate-says (suc k) cs w m)
  where
    go : (b : Bool) → of_form (gate_form c) (fields w) ≡ b → cond b (Some k) (gate_of (suc k) cs w) ≡ Some m → (gate_of (suc k) cs w ≡ Some m → Says cs (suc k) m w) → Says (c ∷ cs) k m w
    go true f q later =
        let r = keys_first (text ".gate" ∷ name_of c ∷ []) (map (λ (j : ℕ). is_bound (65 + j)) (below c.pins) ++ (is_bound 79 ∷ [])) (fields w) f in
        let z : k ≡ m = cc in
        record { place = 0; is_place = omega arith; listed = omega arith; later = r.0; words = r.1 }
    go false f q later =
        let s = later q in
        record { place = suc s.place; is_place = omega (arith, s.is_place); listed = omega (arith, s.listed); later = s.later; words = s.words }

line-names : (cells : List Cell) → T (library_fits cells) → (i k : ℕ) (w : List ℕ) → i < length cells → gate_of 0 cells w ≡ Some k → names_cell (name_of (cell_at cells i)) w ≡ eqb i k
unfolding names_cell
line-names cells t i k w h e =
    let s = gate-says 0 cells w k e in
    ap (λ (ws : List (List ℕ)). same (text ".gate") (get_or ws 0 []) && same (name_of (cell_at cells i)) (get_or ws 1 [])) s.words
    ∙ (unfold same text in refl) ∙ name_tells cells t i s.place h s.listed ∙ ap (eqb i) (sym (omega (arith, s.is_place)))

gates-named : (cells : List Cell) → T (library_fits cells) → (i : ℕ) → i < length cells → (ws : List (List ℕ)) (is : List ℕ) → AreGates cells ws is
    → lines_naming (name_of (cell_at cells i)) ws ≡ times i is
unfolding lines_naming times
gates-named cells t i h [] [] a = refl
gates-named cells t i h [] (k ∷ is) a = absurd a
gates-named cells t i h (w ∷ ws) [] a = absurd a
gates-named cells t i h (w ∷ ws) (k ∷ is) a = cc (line-names cells t i k w h a.0, gates-named cells t i h ws is a.1)

-- ---- the other lines name no cell

abbrev NoGate : List ℕ → Type 0
NoGate w = same (text ".gate") (get_or (fields w) 0 []) ≡ false

abbrev Never : (List ℕ → Bool) → Type 0
Never p = (w : List ℕ) → p w ≡ true → NoGate w

abbrev Nevers : List (List ℕ → Bool) → Type 0
Nevers [] = Unit {0}
Nevers (p ∷ ps) = Never p × Nevers ps

nevers_append : (ps qs : List (List ℕ → Bool)) → Nevers ps → Nevers qs → Nevers (ps ++ qs)
nevers_append [] qs a b = b
nevers_append (p ∷ ps) qs a b = (a.0, nevers_append ps qs a.1 b)

none_named : (name : List ℕ) (ps : List (List ℕ → Bool)) (ws : List (List ℕ)) → Nevers ps → Meets ps ws → lines_naming name ws ≡ 0
unfolding lines_naming names_cell
none_named name [] [] a m = refl
none_named name [] (w ∷ ws) a m = absurd m
none_named name (p ∷ ps) [] a m = absurd m
none_named name (p ∷ ps) (w ∷ ws) a m = cc (a.0 w m.0, none_named name ps ws a.1 m.1)

never_same : (v : List ℕ) → NoGate v → Never (same v)
never_same v o w e = subst NoGate (same-eq v w (subst T (sym e) tt)) o

never_word : (w v : List ℕ) (vs : List (List ℕ)) → fields w ≡ v ∷ vs → same (text ".gate") v ≡ false → NoGate w
never_word w v vs e n = ap (λ (ws : List (List ℕ)). same (text ".gate") (get_or ws 0 [])) e ∙ n

never_list : (key : List ℕ) (b : ℕ) → same (text ".gate") key ≡ false → Never (is_name_list key b)
unfolding is_name_list of_list
never_list key b n w e = by_list (fields w) (λ q. absurd (subst T (sym (rw q at e)) tt)) (λ v vs p. never_word w v vs p
    (subst (λ (k : List ℕ). same (text ".gate") k ≡ false) (same-eq key v (and_yes (same key v) _ (subst T (sym (rw p at e)) tt)).0) n))

never_form : (key : List ℕ) (ps : List (List ℕ → Bool)) → same (text ".gate") key ≡ false → Never (λ (w : List ℕ). of_form (same key ∷ ps) (fields w))
never_form key ps n w e = let r = keys_first (key ∷ []) ps (fields w) e in never_word w key r.0 r.1 n

never_preamble : Nevers preamble
unfolding preamble
never_preamble = (
  never_same (text ".model top") (unfold fields split onto same text in refl),
  (never_list (text ".inputs") 112 (unfold same text in refl), (never_list (text ".outputs") 111 (unfold same text in refl), tt)),
)

never_pairs : (k n : ℕ) → Nevers (each (λ (_ : ℕ). is_wire ∷ same (text "1 1") ∷ []) (from k n))
unfolding each from is_wire
never_pairs k zero = tt
never_pairs k (suc n) =
    (never_form (text ".names") (is_phase_net ∷ is_label 111 ∷ []) (unfold same text in refl), (never_same (text "1 1") (unfold fields split onto same text in refl), never_pairs (suc k) n))

never_times : (k n : ℕ) → Nevers (map (λ (_ : ℕ). is_timing) (from k n))
unfolding from is_timing
never_times k zero = tt
never_times k (suc n) = (never_form (text "#") (same (text "timing") ∷ is_label 111 ∷ are_digits ∷ are_digits ∷ []) (unfold same text in refl), never_times (suc k) n)

never_timings : (ranged : Bool) (outs : ℕ) → Nevers (timings ranged outs)
unfolding timings below
never_timings true outs = never_times 0 outs
never_timings false outs = tt

never_behind : (ranged : Bool) (outs n a : ℕ) → Nevers (behind_gates ranged outs n a)
unfolding behind_gates wire_pairs below is_figures
never_behind ranged outs n a =
    nevers_append (each (λ (_ : ℕ). is_wire ∷ same (text "1 1") ∷ []) (from 0 outs)) (same (text ".end") ∷ is_figures n a ∷ timings ranged outs) (never_pairs 0 outs) (
      never_same (text ".end") (unfold fields split onto same text in refl),
      (
        never_form (text "#") (same (text "gates") ∷ same (decimal n) ∷ same (text "area") ∷ same (decimal a) ∷ same (text "arrival") ∷ are_digits ∷ []) (unfold same text in refl),
        never_timings ranged outs,
      ),
    )

-- ---- the lines of a counted netlist

record AllGates (cells : List Cell) (ls : List Line) : Type 0 where
  passed : List Line
  are_these : ls ≡ passed ++ after_gates cells ls
  ten : Ten passed
  are : AreGates cells (bytes_of passed) (gates_in cells ls)

all-gates : (cells : List Cell) (ls : List Line) → AllGates cells ls
unfolding after_gates gates_in gate_in
all-gates cells [] = record { passed = []; are_these = refl; ten = tt; are = tt }
all-gates cells (l ∷ ls) = by_option (gate_in cells l) (λ e. record {
  passed = [];
  are_these = sym (ap (λ (x : Option ℕ). elim x [ Some i ↦ after_gates cells ls | None ↦ l ∷ ls ]) e);
  ten = tt;
  are = subst (AreGates cells []) (sym (ap (λ (x : Option ℕ). elim x [ Some i ↦ i ∷ gates_in cells ls | None ↦ [] ]) e)) tt;
}) (λ i q. let g = gate (ended_by_ten l) i refl q in record {
  passed = l ∷ (all-gates cells ls).passed;
  are_these = ap (λ (xs : List Line). l ∷ xs) (all-gates cells ls).are_these
      ∙ ap (λ (xs : List Line). l ∷ ((all-gates cells ls).passed ++ xs))
      (sym (ap (λ (x : Option ℕ). elim x [ Some j ↦ after_gates cells ls | None ↦ l ∷ ls ]) q));
  ten = (g.0, (all-gates cells ls).ten);
  are = subst (AreGates cells (l.bytes ∷ bytes_of (all-gates cells ls).passed))
      (sym (ap (λ (x : Option ℕ). elim x [ Some j ↦ j ∷ gates_in cells ls | None ↦ [] ]) q)) (g.1, (all-gates cells ls).are);
})
  where
    gate : (b : Bool) (i : ℕ) → ended_by_ten l ≡ b → cond b (gate_of 0 cells l.bytes) None ≡ Some i → T (ended_by_ten l) × (gate_of 0 cells l.bytes ≡ Some i)
    gate true i q e = (subst T (sym q) tt, e)
    gate false i q e = let z : ◌≡◌ {A = ℕ} 0 1 = cc in absurd (omega arith)

naming_append : (name : List ℕ) (ws vs : List (List ℕ)) → lines_naming name (ws ++ vs) ≡ lines_naming name ws + lines_naming name vs
unfolding lines_naming
naming_append name [] vs = sym (zero-add (lines_naming name vs))
naming_append name (w ∷ ws) vs = by_bool (names_cell name w) (λ e. rw e (omega (arith, naming_append name ws vs)))
    (λ q. rw q (naming_append name ws vs))

-- the gates that are counted of a cell are the netlist's lines that name it
pub used-named : (library : List ℕ) (cells : List Cell) → read_library library ≡ holds cells → (ranged : Bool) (s used : List ℕ) → read_counted ranged cells s ≡ holds used
    → (i : ℕ) → i < length cells → gates_naming (name_of (cell_at cells i)) s ≡ times i used
unfolding read_counted gates_naming
used-named library cells lib ranged s used e i hi =
    let a = next_out (expected_lines (length s) preamble (lines_from 0 [] s)) _ used e in
    let b = next_out (expected_lines (length s) (behind_gates ranged (outputs_of (lines_from 0 [] s)) (length (gates_in cells a.0)) (area_of cells (gates_in cells a.0))) (after_gates cells a.0)) _ used a.2 in
    let c = next_out (nothing_left b.0) (λ _. holds (gates_in cells a.0)) used b.2 in
    let f = expected_out (length s) preamble (lines_from 0 [] s) a.0 a.1 in
    let g = all-gates cells a.0 in
    let h = expected_out (length s) (behind_gates ranged (outputs_of (lines_from 0 [] s)) (length (gates_in cells a.0)) (area_of cells (gates_in cells a.0))) (after_gates cells a.0) b.0 b.1 in
    let last : after_gates cells a.0 ≡ h.passed = h.are_these ∙ ap (λ (x : List Line). h.passed ++ x) (left_out b.0 c.0 c.1) ∙ append-nil h.passed in
    let whole : lines_from 0 [] s ≡ f.passed ++ (g.passed ++ h.passed) = f.are_these ∙ ap (λ (x : List Line). f.passed ++ x) (g.are_these ∙ ap (λ (x : List Line). g.passed ++ x) last) in
    let ten : Ten (lines_from 0 [] s) = subst Ten (sym whole) (ten_append f.passed (g.passed ++ h.passed) f.ten (ten_append g.passed h.passed g.ten h.ten)) in
    let name = name_of (cell_at cells i) in
    ap (lines_naming name)
    (sym (lines-parts 0 [] s tt ten) ∙ ap bytes_of whole ∙ map-append (λ (l : Line). l.bytes) f.passed (g.passed ++ h.passed) ∙ ap (λ (x : List (List ℕ)). bytes_of f.passed ++ x) (map-append (λ (l : Line). l.bytes) g.passed h.passed))
    ∙ naming_append name (bytes_of f.passed) (bytes_of g.passed ++ bytes_of h.passed)
    ∙ ap₂ (λ (x y : ℕ). x + y) (none_named name preamble (bytes_of f.passed) never_preamble f.met)
    (naming_append name (bytes_of g.passed) (bytes_of h.passed)
    ∙ ap₂ (λ (x y : ℕ). x + y) (gates-named cells (library-fits library cells lib) i hi (bytes_of g.passed) (gates_in cells a.0) g.are)
    (none_named name (behind_gates ranged (outputs_of (lines_from 0 [] s)) (length (gates_in cells a.0)) (area_of cells (gates_in cells a.0))) (bytes_of h.passed) (never_behind ranged (outputs_of (lines_from 0 [] s)) (length (gates_in cells a.0)) (area_of cells (gates_in cells a.0))) h.met))
    ∙ (omega arith)
    ∙ ap (times i) (holds-once c.2)
