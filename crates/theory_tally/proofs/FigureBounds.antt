-- What the `# gates` line of a counted netlist says, by its own words, is what is counted of its gates.
use Rattle.base.specs.{ℕ, zero, suc, ◌+◌, arith, ◌≡◌, refl, sym, ◌∙◌, ap, ap₂, subst, Bool, true, false, cond, ◌&&◌, Option, None, Some}
use Rattle.base.specs.{List, [], ◌∷◌, ◌++◌, map, map-append, reverse, reverse-cons, append_assoc, append-nil, T, eqb, eqb→eq, length, get_or}
use Rattle.base.specs.{and_yes}
use Rattle.model.specs.{each, same, and_then, only, from, below, Line, ended_by_ten, text, decimal, parts, closing, lines_from, fields, split}
use Rattle.model.specs.{onto, holds, is_name_list, is_wire, is_figures, of_form, of_list, is_phase_net, is_label, are_digits, is_bound, gate_form}
use Rattle.model.specs.{gate_of, name_of, expected_lines, nothing_left, gate_in, gates_in, after_gates, area_of, preamble, wire_pairs, timings, behind_gates}
use Rattle.model.specs.{outputs_of, read_counted}
use Rattle.model.specs.declared.Cell.{Cell}
use Rattle.theory_graph.proofs.{is_true, same-eq, by_bool, by_list}
use Rattle.theory_text.proofs.{Free, free-reverse, lines_step, holds-once, fault_never, unless_out, next_out, parts-line, figure-back}
use Rattle.promises.specs.Sums.{GatesLine, begins_gates, gates_words, gates_line, figures_in}
use Rattle.theory_tally.proofs.ExpectedMet.{Meets}

-- ---- lines that byte 10 alone ends are the parts between bytes 10

abbrev pub bytes_of : List Line → List (List ℕ)
bytes_of ls = map (λ (l : Line). l.bytes) ls

abbrev pub Ten : List Line → Type 0
Ten [] = Unit {0}
Ten (l ∷ ls) = T (ended_by_ten l) × Ten ls

pub ten_append : (ls ms : List Line) → Ten ls → Ten ms → Ten (ls ++ ms)
ten_append [] ms a b = b
ten_append (l ∷ ls) ms a b = (a.0, ten_append ls ms a.1 b)

closed : (at : ℕ) (held : List ℕ) → T (ended_by_ten (closing at held)) → (closing at held).bytes ≡ reverse held
unfolding closing
closed at [] t = refl
closed at (h ∷ hs) t = by_bool (eqb h 13) (λ e. rw e (absurd (rw e at t))) (λ q. rw q)

pub lines-parts : (at : ℕ) (held s : List ℕ) → Free 10 held → Ten (lines_from at held s) → bytes_of (lines_from at held s) ≡ parts 10 (reverse held ++ s)
lines-parts at [] [] f t = unfold lines_from parts in refl
lines-parts at (h ∷ hs) [] f t = unfold lines_from in absurd t.0
lines-parts at held (b ∷ s) f t = cc (
  lines_step at held b s,
  go (eqb b 10) refl (rw (← lines_step at held b s) t)
      (lines-parts (at + suc (length held)) [] s tt) (λ e. lines-parts at (b ∷ held) s (e, f)),
)
  where
    go : (x : Bool) → eqb b 10 ≡ x → Ten (cond x (closing at held ∷ lines_from (at + suc (length held)) [] s) (lines_from at (b ∷ held) s))
        → (Ten (lines_from (at + suc (length held)) [] s) → bytes_of (lines_from (at + suc (length held)) [] s) ≡ parts 10 s)
        → (eqb b 10 ≡ false → Ten (lines_from at (b ∷ held) s) → bytes_of (lines_from at (b ∷ held) s) ≡ parts 10 (reverse (b ∷ held) ++ s))
        → bytes_of (cond x (closing at held ∷ lines_from (at + suc (length held)) [] s) (lines_from at (b ∷ held) s)) ≡ parts 10 (reverse held ++ (b ∷ s))
    go true e u line more =
        cc (closed at held u.0, line u.1, parts-line 10 (reverse held) s (free-reverse 10 held f), eqb→eq b 10 (rw e tt))
    go false e u line more = more e u ∙ ap (parts 10) (ap (λ (x : List ℕ). x ++ s) (reverse-cons b held) ∙ append_assoc (reverse held) (b ∷ []) s)

-- ---- lines that are no `# gates` line

abbrev Other : List ℕ → Type 0
Other w = begins_gates (fields w) ≡ false

abbrev Others : List (List ℕ) → Type 0
Others [] = Unit {0}
Others (w ∷ ws) = Other w × Others ws

others-past : (ws vs : List (List ℕ)) → Others ws → gates_words (ws ++ vs) ≡ gates_words vs
unfolding gates_words
others-past [] vs o = refl
others-past (w ∷ ws) vs o = ap (λ (b : Bool). cond b (fields w) (gates_words (ws ++ vs))) o.0 ∙ others-past ws vs o.1

-- a line of another first word
other_word : (w v : List ℕ) (vs : List (List ℕ)) → fields w ≡ v ∷ vs → same (text "#") v ≡ false → Other w
unfolding begins_gates
other_word w v vs e n = ap begins_gates e ∙ ap (λ (b : Bool). b && same (text "gates") (get_or (v ∷ vs) 1 [])) n

-- tests that only such lines pass
abbrev Apart : (List ℕ → Bool) → Type 0
Apart p = (w : List ℕ) → p w ≡ true → Other w

abbrev Aparts : List (List ℕ → Bool) → Type 0
Aparts [] = Unit {0}
Aparts (p ∷ ps) = Apart p × Aparts ps

others_met : (ps : List (List ℕ → Bool)) (ws : List (List ℕ)) → Aparts ps → Meets ps ws → Others ws
others_met [] [] a m = tt
others_met [] (w ∷ ws) a m = absurd m
others_met (p ∷ ps) [] a m = absurd m
others_met (p ∷ ps) (w ∷ ws) a m = (a.0 w m.0, others_met ps ws a.1 m.1)

apart-same : (v : List ℕ) → Other v → Apart (same v)
apart-same v o w e = subst Other (same-eq v w (subst T (sym e) tt)) o

-- the keywords that a form's fields begin with
pub keys_first : (keys : List (List ℕ)) (ps : List (List ℕ → Bool)) (ws : List (List ℕ)) → of_form (map same keys ++ ps) ws ≡ true → (vs : List (List ℕ)) × (ws ≡ keys ++ vs)
unfolding of_form
keys_first [] ps ws e = (ws, refl)
keys_first (k ∷ ks) ps [] e = absurd (subst T (sym e) tt)
keys_first (k ∷ ks) ps (w ∷ ws) e =
    let t = and_yes (same k w) (of_form (map same ks ++ ps) ws) (subst T (sym e) tt) in
    let r = keys_first ks ps ws (is_true (of_form (map same ks ++ ps) ws) t.1) in
    (r.0, ap₂ (λ (x : List ℕ) (xs : List (List ℕ)). x ∷ xs) (sym (same-eq k w t.0)) r.1)

apart_list : (key : List ℕ) (b : ℕ) → same (text "#") key ≡ false → Apart (is_name_list key b)
unfolding is_name_list of_list
apart_list key b n w e = by_list (fields w) (λ q. absurd (subst T (sym (rw q at e)) tt)) (λ v vs p. other_word w v vs p
    (subst (λ (k : List ℕ). same (text "#") k ≡ false) (same-eq key v (and_yes (same key v) _ (subst T (sym (rw p at e)) tt)).0) n))

apart-wire : Apart is_wire
unfolding is_wire
apart-wire w e = let r = keys_first (text ".names" ∷ []) (is_phase_net ∷ is_label 111 ∷ []) (fields w) e in other_word w (text ".names") r.0 r.1 (unfold same text in refl)

apart-preamble : Aparts preamble
unfolding preamble
apart-preamble = (
  apart-same (text ".model top") (unfold begins_gates fields split onto same text in refl),
  (apart_list (text ".inputs") 112 (unfold same text in refl), (apart_list (text ".outputs") 111 (unfold same text in refl), tt)),
)

apart-pairs : (k n : ℕ) → Aparts (each (λ (_ : ℕ). is_wire ∷ same (text "1 1") ∷ []) (from k n))
unfolding each from
apart-pairs k zero = tt
apart-pairs k (suc n) = (apart-wire, (apart-same (text "1 1") (unfold begins_gates fields split onto same text in refl), apart-pairs (suc k) n))

other_gate : (k : ℕ) (cells : List Cell) (w : List ℕ) (i : ℕ) → gate_of k cells w ≡ Some i → Other w
unfolding gate_of gate_form
other_gate k [] w i e = let z : ◌≡◌ {A = ℕ} 0 1 = cc in absurd (omega arith)
other_gate k (c ∷ cs) w i e = by_bool (of_form (gate_form c) (fields w)) (λ f. let r = keys_first (text ".gate" ∷ [])
    (same (name_of c) ∷ map (λ (j : ℕ). is_bound (65 + j)) (below c.pins) ++ (is_bound 79 ∷ [])) (fields w) f in other_word w (text ".gate")
    r.0 r.1 (unfold same text in refl)) (λ q. other_gate (suc k) cs w i (rw q at e))

-- ---- the lines of a counted netlist

pub record Expected (ps : List (List ℕ → Bool)) (ls ms : List Line) : Type 0 where
  pub passed : List Line
  pub are_these : ls ≡ passed ++ ms
  pub ten : Ten passed
  pub met : Meets ps (bytes_of passed)

pub expected_out : (end : ℕ) (ps : List (List ℕ → Bool)) (ls ms : List Line) → expected_lines end ps ls ≡ holds ms → Expected ps ls ms
unfolding expected_lines
expected_out end [] ls ms e = record { passed = []; are_these = holds-once e; ten = tt; met = tt }
expected_out end (p ∷ ps) [] ms e = absurd (fault_never e)
expected_out end (p ∷ ps) (l ∷ ls) ms e =
    let r = unless_out (ended_by_ten l && p l.bytes) 29 l.offset (expected_lines end ps ls) ms e in
    let t = and_yes (ended_by_ten l) (p l.bytes) r.0 in
    let d = expected_out end ps ls ms r.1 in
    record { passed = l ∷ d.passed; are_these = ap (λ (xs : List Line). l ∷ xs) d.are_these; ten = (t.0, d.ten); met = (is_true (p l.bytes) t.1, d.met) }

record Gates (ls after : List Line) : Type 0 where
  passed : List Line
  are_these : ls ≡ passed ++ after
  ten : Ten passed
  others : Others (bytes_of passed)

gates_out : (cells : List Cell) (ls : List Line) → Gates ls (after_gates cells ls)
unfolding after_gates gate_in
gates_out cells [] = record { passed = []; are_these = refl; ten = tt; others = tt }
gates_out cells (l ∷ ls) = go (gate_in cells l) refl (gates_out cells ls)
  where
    gate : (b : Bool) (i : ℕ) → ended_by_ten l ≡ b → cond b (gate_of 0 cells l.bytes) None ≡ Some i → T (ended_by_ten l) × Other l.bytes
    gate true i q e = (subst T (sym q) tt, other_gate 0 cells l.bytes i e)
    gate false i q e = let z : ◌≡◌ {A = ℕ} 0 1 = cc in absurd (omega arith)

    go : (o : Option ℕ) → gate_in cells l ≡ o → Gates ls (after_gates cells ls) → Gates (l ∷ ls) (elim o [ Some i ↦ after_gates cells ls | None ↦ l ∷ ls ])
    go None e later = record { passed = []; are_these = refl; ten = tt; others = tt }
    go (Some i) e later =
        let g = gate (ended_by_ten l) i refl e in
        record { passed = l ∷ later.passed; are_these = ap (λ (xs : List Line). l ∷ xs) later.are_these; ten = (g.0, later.ten); others = (g.1, later.others) }

pub left_out : (ls ms : List Line) → nothing_left ls ≡ holds ms → ls ≡ []
unfolding nothing_left
left_out [] ms e = refl
left_out (l ∷ ls) ms e = absurd (fault_never e)

-- lines behind those that pass the first tests
past : (ps qs : List (List ℕ → Bool)) (ws : List (List ℕ)) → Aparts ps → Meets (ps ++ qs) ws → (vs : List (List ℕ)) × (gates_words ws ≡ gates_words vs) × Meets qs vs
unfolding gates_words
past [] qs ws a m = (ws, refl, m)
past (p ∷ ps) qs [] a m = absurd m
past (p ∷ ps) qs (w ∷ ws) a m =
    let r = past ps qs ws a.1 m.1 in
    (r.0, ap (λ (b : Bool). cond b (fields w) (gates_words ws)) (a.0 w m.0) ∙ r.1, r.2)

-- ---- the line itself

module _ (n a : ℕ) where
  said : GatesLine
  said = record { gates = n; area = a }

  figures_said : (ws : List (List ℕ)) → of_form (same (text "#") ∷ same (text "gates") ∷ same (decimal n) ∷ same (text "area") ∷ same (decimal a) ∷ same (text "arrival") ∷ are_digits ∷ []) ws ≡ true
      → (begins_gates ws ≡ true) × (gates_line ws ≡ Some said)
  unfolding said
  figures_said ws e =
      let r = keys_first (text "#" ∷ text "gates" ∷ decimal n ∷ text "area" ∷ decimal a ∷ [])
      (same (text "arrival") ∷ are_digits ∷ []) ws e in (
        ap begins_gates r.1 ∙ (unfold begins_gates same text in refl),
        ap gates_line r.1
            ∙ (unfold gates_line same text and_then only in (cc (figure-back n, figure-back a))),
      )

  figures-first : (qs : List (List ℕ → Bool)) (ws : List (List ℕ)) → Meets (is_figures n a ∷ qs) ws → gates_line (gates_words ws) ≡ Some said
  unfolding gates_words is_figures
  figures-first qs [] m = absurd m
  figures-first qs (w ∷ ws) m = let r = figures_said (fields w) m.0 in cc (r.0, r.1)

  behind-figures : (ranged : Bool) (outs : ℕ) (ws : List (List ℕ)) → Meets (behind_gates ranged outs n a) ws → gates_line (gates_words ws) ≡ Some said
  unfolding behind_gates wire_pairs below
  behind-figures ranged outs ws m =
      let p = past (each (λ (_ : ℕ). is_wire ∷ same (text "1 1") ∷ []) (from 0 outs)) _ ws (apart-pairs 0 outs) m in
      let q = past (same (text ".end") ∷ []) (is_figures n a ∷ timings ranged outs) p.0 (apart-same (text ".end") (unfold begins_gates fields split onto same text in refl), tt) p.2 in
      ap gates_line (p.1 ∙ q.1) ∙ figures-first (timings ranged outs) q.0 q.2

-- ---- the whole

-- "gives a gate count or area that isn't that of the gates above it" is refused
pub figures_in_lem : (ranged : Bool) (cells : List Cell) (s used : List ℕ) → read_counted ranged cells s ≡ holds used
    → figures_in s ≡ Some (record { gates = length used; area = area_of cells used })
unfolding read_counted figures_in said
figures_in_lem ranged cells s used e =
    let a = next_out (expected_lines (length s) preamble (lines_from 0 [] s)) _ used e in
    let b = next_out (expected_lines (length s) (behind_gates ranged (outputs_of (lines_from 0 [] s)) (length (gates_in cells a.0)) (area_of cells (gates_in cells a.0))) (after_gates cells a.0)) _ used a.2 in
    let c = next_out (nothing_left b.0) (λ _. holds (gates_in cells a.0)) used b.2 in
    let f = expected_out (length s) preamble (lines_from 0 [] s) a.0 a.1 in
    let g = gates_out cells a.0 in
    let h = expected_out (length s) (behind_gates ranged (outputs_of (lines_from 0 [] s)) (length (gates_in cells a.0)) (area_of cells (gates_in cells a.0))) (after_gates cells a.0) b.0 b.1 in
    let last : after_gates cells a.0 ≡ h.passed = h.are_these ∙ ap (λ (x : List Line). h.passed ++ x) (left_out b.0 c.0 c.1) ∙ append-nil h.passed in
    let all : lines_from 0 [] s ≡ f.passed ++ (g.passed ++ h.passed) = f.are_these ∙ ap (λ (x : List Line). f.passed ++ x) (g.are_these ∙ ap (λ (x : List Line). g.passed ++ x) last) in
    let ten : Ten (lines_from 0 [] s) = subst Ten (sym all) (ten_append f.passed (g.passed ++ h.passed) f.ten (ten_append g.passed h.passed g.ten h.ten)) in
    ap (λ (ws : List (List ℕ)). gates_line (gates_words ws))
    (sym (lines-parts 0 [] s tt ten) ∙ ap bytes_of all ∙ map-append (λ (l : Line). l.bytes) f.passed (g.passed ++ h.passed) ∙ ap (λ (x : List (List ℕ)). bytes_of f.passed ++ x) (map-append (λ (l : Line). l.bytes) g.passed h.passed))
    ∙ ap gates_line (others-past (bytes_of f.passed) (bytes_of g.passed ++ bytes_of h.passed) (others_met preamble (bytes_of f.passed) apart-preamble f.met) ∙ others-past (bytes_of g.passed) (bytes_of h.passed) g.others)
    ∙ behind-figures (length (gates_in cells a.0)) (area_of cells (gates_in cells a.0)) ranged (outputs_of (lines_from 0 [] s)) (bytes_of h.passed) h.met
    ∙ ap (λ (us : List ℕ). Some (record { gates = length us; area = area_of cells us })) (holds-once c.2)
