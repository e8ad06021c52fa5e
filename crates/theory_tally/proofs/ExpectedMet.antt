-- Lines that meet what is expected: read through to the end.
use Rattle.base.specs.{ℕ, suc, ◌+◌, arith, ◌≡◌, refl, sym, ◌∙◌, ap, subst, Bool, true, false, cond, ◌&&◌, Option, None, Some, List, [], ◌∷◌}
use Rattle.base.specs.{◌++◌, map, Memᴰ, Memᴰ-head, Memᴰ-tail, T, length}
use Rattle.model.specs.{same, below, Line, text, fields, holds, unless, name_of, cell_at, named, is_bound, of_form, gate_form, gate_of, expected_lines}
use Rattle.model.specs.{gate_in, gates_in, after_gates}
use Rattle.model.specs.declared.Cell.{Cell}
use Rattle.theory_graph.proofs.{same_refl}
use Rattle.theory_tally.proofs.LineWords.{lines_of_words}

-- ---- expected lines

-- as many lines as tests, each of which passes
abbrev pub Meets : List (List ℕ → Bool) → List (List ℕ) → Type 0
Meets [] [] = Unit {0}
Meets [] (w ∷ ws) = ⊥
Meets (p ∷ ps) [] = ⊥
Meets (p ∷ ps) (w ∷ ws) = (p w ≡ true) × Meets ps ws

pub meets_append : (ps qs : List (List ℕ → Bool)) (ws vs : List (List ℕ)) → Meets ps ws → Meets qs vs → Meets (ps ++ qs) (ws ++ vs)
meets_append [] qs [] vs a b = b
meets_append [] qs (w ∷ ws) vs a b = absurd a
meets_append (p ∷ ps) qs [] vs a b = absurd a
meets_append (p ∷ ps) qs (w ∷ ws) vs a b = (a.0, meets_append ps qs ws vs a.1 b)

pub expected_met : (end at : ℕ) (ps : List (List ℕ → Bool)) (ws : List (List ℕ)) (ls : List Line) → Meets ps ws → expected_lines end ps (lines_of_words at ws ++ ls) ≡ holds ls
unfolding expected_lines lines_of_words unless
expected_met end at [] [] ls m = refl
expected_met end at [] (w ∷ ws) ls m = absurd m
expected_met end at (p ∷ ps) [] ls m = absurd m
expected_met end at (p ∷ ps) (w ∷ ws) ls m = rw m.0 (expected_met end (at + suc (length w)) ps ws ls m.1)

-- ---- gate lines

-- lines of gates of these cells
abbrev pub AreGates : List Cell → List (List ℕ) → List ℕ → Type 0
AreGates cells [] [] = Unit {0}
AreGates cells [] (i ∷ is) = ⊥
AreGates cells (w ∷ ws) [] = ⊥
AreGates cells (w ∷ ws) (i ∷ is) = (gate_of 0 cells w ≡ Some i) × AreGates cells ws is

module _ (cells : List Cell) (l : Line) (ls : List Line) (no : gate_in cells l ≡ None) where
  pub gates_met : (at : ℕ) (ws : List (List ℕ)) (is : List ℕ) → AreGates cells ws is → gates_in cells (lines_of_words at ws ++ (l ∷ ls)) ≡ is
  unfolding gates_in lines_of_words gate_in
  gates_met at [] [] a = ap (λ (o : Option ℕ). elim o [ Some i ↦ i ∷ gates_in cells ls | None ↦ [] ]) no
  gates_met at [] (i ∷ is) a = absurd a
  gates_met at (w ∷ ws) [] a = absurd a
  gates_met at (w ∷ ws) (i ∷ is) a = rw (a.0, gates_in) (ap (λ (ks : List ℕ). i ∷ ks) (gates_met (at + suc (length w)) ws is a.1))

  pub behind_met : (at : ℕ) (ws : List (List ℕ)) (is : List ℕ) → AreGates cells ws is → after_gates cells (lines_of_words at ws ++ (l ∷ ls)) ≡ l ∷ ls
  unfolding after_gates lines_of_words gate_in
  behind_met at [] [] a = ap (λ (o : Option ℕ). elim o [ Some i ↦ after_gates cells ls | None ↦ l ∷ ls ]) no
  behind_met at [] (i ∷ is) a = absurd a
  behind_met at (w ∷ ws) [] a = absurd a
  behind_met at (w ∷ ws) (i ∷ is) a = rw (a.0, after_gates) (behind_met (at + suc (length w)) ws is a.1)

-- a line of another keyword is no gate's
pub no_gate_lem : (k : ℕ) (cs : List Cell) (l w : List ℕ) (ws : List (List ℕ)) → fields l ≡ w ∷ ws → same (text ".gate") w ≡ false → gate_of k cs l ≡ None
unfolding gate_of
no_gate_lem k [] l w ws e n = refl
no_gate_lem k (c ∷ cs) l w ws e n = ap (λ (b : Bool). cond b (Some k) (gate_of (suc k) cs l)) other ∙ no_gate_lem (suc k) cs l w ws e n
  where
    other : of_form (gate_form c) (fields l) ≡ false
    other = unfold of_form gate_form in (ap (of_form (gate_form c)) e ∙ ap (λ (b : Bool). b && of_form (same (name_of c) ∷ map (λ (j : ℕ). is_bound (65 + j)) (below c.pins) ++ (is_bound 79 ∷ [])) ws) n)

-- a gate's line is that of the first listed cell of its name
pub record Found (k : ℕ) (cs : List Cell) (c : Cell) (l : List ℕ) : Type 0 where
  pub index : ℕ
  pub is_gate : gate_of k cs l ≡ Some (k + index)
  pub is_cell : cell_at cs index ≡ c

module _ (c : Cell) (l : List ℕ) (yes : of_form (gate_form c) (fields l) ≡ true) (no : (d : Cell) → same (name_of d) (name_of c) ≡ false → of_form (gate_form d) (fields l) ≡ false) where
  pub gate-found : (k : ℕ) (cs : List Cell) → Memᴰ c cs → named cs (name_of c) ≡ c → Found k cs c l
  unfolding gate_of named cell_at
  gate-found k (d ∷ cs) m e = go (same (name_of d) (name_of c)) refl e m (gate-found (suc k) cs)
    where
      go : (b : Bool) → same (name_of d) (name_of c) ≡ b → cond b d (named cs (name_of c)) ≡ c → Memᴰ c (d ∷ cs)
          → (Memᴰ c cs → named cs (name_of c) ≡ c → Found (suc k) cs c l) → Found k (d ∷ cs) c l
      go true q f i later = record {
        index = 0;
        is_gate = ap (λ (b : Bool). cond b (Some k) (gate_of (suc k) cs l)) (ap (λ (x : Cell). of_form (gate_form x) (fields l)) f ∙ yes) ∙ ap Some (let z : k ≡ k + 0 = omega arith in z);
        is_cell = f;
      }
      go false q f (Memᴰ-head s) later = absurd (subst T (sym (ap (λ (x : Cell). same (name_of x) (name_of c)) (sym s)) ∙ q) (same_refl (name_of c)))
      go false q f (Memᴰ-tail i) later = record {
        index = suc (later i f).index;
        is_gate = ap (λ (b : Bool). cond b (Some k) (gate_of (suc k) cs l)) (no d q) ∙ (later i f).is_gate
            ∙ ap Some (let z : suc k + (later i f).index ≡ k + suc (later i f).index = omega arith in z);
        is_cell = (later i f).is_cell;
      }
  gate-found k [] m e = elim m [ ]
