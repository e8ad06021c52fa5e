-- The reading of an edited netlist, line by line: what is left to read where a line is expected. A line that may stand there leads on to what is expected behind it, any other
-- is refused with 32 at its offset, a missing one at the text's length.
use Rattle.base.specs.{ℕ, zero, suc, arith, ◌≡◌, refl, sym, ◌∙◌, ap, Bool, true, false, cond, ◌&&◌, Option, None, Some, List, [], ◌∷◌, ◌++◌}
use Rattle.base.specs.{append-nil, append_assoc, T, not_T, length, and_yes, yes_and}
use Rattle.model.specs.{same, and_then, only, Line, ended_by_ten, text, fields, lines_from, closed, Read, holds, fault, next, unless, from?}
use Rattle.model.specs.{Driver, gate_of_fields, gate_driver, is_gate, name_driver, is_line, past_row, read_names, read_drivers, past_lines, preamble_of}
use Rattle.model.specs.{read_netlist}
use Rattle.model.specs.Graph.{Graph}
use Rattle.model.specs.declared.Cell.{Cell}
use Rattle.theory_graph.proofs.{is_true, is_false, by_bool}
use Rattle.theory_text.proofs.{then_out, only_out}
use Rattle.theory_refusals.proofs.{on, unless-yes, unless_no, next-holds, next-next, next-same}
use Rattle.promises.specs.CheckForms.{Expected, model_expected, inputs_expected, outputs_expected, gate_expected, wire_expected, cover_expected, nothing_expected}
use Rattle.promises.specs.CheckRefusals.{Finished}
use Rattle.theory_check.proofs.CheckWords.{inputs_line, outputs_line}
use Rattle.theory_check.proofs.CheckSteps.{is_gate_line, is_wire_line, wire_of, wire_step, gate_step, step_of, line_step}

next_cong : {A B : Type 0} (r : Read A) (f h : A → Read B) → ((a : A) → f a ≡ h a) → next r f ≡ next r h
unfolding next
next_cong (holds a) f h e = e a
next_cong (fault n k) f h e = refl

next_assoc : {A B C : Type 0} (r : Read A) (f : A → Read B) (h : B → Read C) → next (next r f) h ≡ next r (λ a. next (f a) h)
unfolding next
next_assoc (holds a) f h = refl
next_assoc (fault n k) f h = refl

none_fails : {A : Type 0} (b : Bool) (a : A) → only b a ≡ None → ¬ T b
unfolding only
none_fails true a e t = let z : ◌≡◌ {A = ℕ} 0 1 = cc in omega arith
none_fails false a e t = t

-- every stage is finished or not
pub finished? : {X : Type 0} (d : Expected) → ((ds : List Driver) → d ≡ nothing_expected ds → X) → ((¬ Finished d) → X) → X
finished? model_expected f g = g (λ p. let z : ◌≡◌ {A = ℕ} 0 1 = (let e = p.1 in cc) in omega arith)
finished? inputs_expected f g = g (λ p. let z : ◌≡◌ {A = ℕ} 0 1 = (let e = p.1 in cc) in omega arith)
finished? outputs_expected f g = g (λ p. let z : ◌≡◌ {A = ℕ} 0 1 = (let e = p.1 in cc) in omega arith)
finished? (gate_expected ds) f g = g (λ p. let z : ◌≡◌ {A = ℕ} 0 1 = (let e = p.1 in cc) in omega arith)
finished? (wire_expected k n ds) f g = g (λ p. let z : ◌≡◌ {A = ℕ} 0 1 = (let e = p.1 in cc) in omega arith)
finished? (cover_expected k n ds) f g = g (λ p. let z : ◌≡◌ {A = ℕ} 0 1 = (let e = p.1 in cc) in omega arith)
finished? (nothing_expected ds) f g = f ds refl

module _ (end : ℕ) (cells : List Cell) (g : Graph) where
  abbrev gate_lines : List Driver → List Line → Read (List Driver)
  gate_lines ds ls = next (read_drivers cells end (length g.outputs) ls) (λ es. holds (ds ++ es))

  abbrev wired : ℕ → ℕ → List Driver → List Line → Read (List Driver)
  wired k n ds ls = next (read_names end k n ls) (λ es. holds (ds ++ es))

  unfoldable pub left : Expected → List Line → Read (List Driver)
  left model_expected ls = next (past_lines end (text ".model top" ∷ inputs_line g ∷ outputs_line g ∷ []) ls) (gate_lines [])
  left inputs_expected ls = next (past_lines end (inputs_line g ∷ outputs_line g ∷ []) ls) (gate_lines [])
  left outputs_expected ls = next (past_lines end (outputs_line g ∷ []) ls) (gate_lines [])
  left (gate_expected ds) ls = gate_lines ds ls
  left (wire_expected k n ds) ls = wired k n ds ls
  left (cover_expected k n ds) ls = next (past_row end ls) (wired k n ds)
  left (nothing_expected ds) ls = holds ds

  -- ---- lines that must be as they are

  past-yes : (w : List ℕ) (ws : List (List ℕ)) (l : Line) (ls : List Line) (f : List Line → Read (List Driver)) → T (ended_by_ten l) → T (same l.bytes w)
      → next (past_lines end (w ∷ ws) (l ∷ ls)) f ≡ next (past_lines end ws ls) f
  unfolding past_lines is_line
  past-yes w ws l ls f a b = ap (λ (r : Read (List Line)). next r f) (unless-yes (ended_by_ten l && same l.bytes w) 32 l.offset (past_lines end ws ls) (yes_and (ended_by_ten l) (same l.bytes w) a b))

  -- a line that is not, in any reading that asks for it
  line_no : {A : Type 0} (w : List ℕ) (l : Line) (r : Read A) → (T (ended_by_ten l) → ¬ T (same l.bytes w)) → unless (is_line w l) 32 l.offset r ≡ fault 32 l.offset
  unfolding is_line
  line_no w l r n = unless_no (ended_by_ten l && same l.bytes w) 32 l.offset r (not_T (ended_by_ten l && same l.bytes w) (λ t. let q = and_yes (ended_by_ten l) (same l.bytes w) t in n q.0 q.1))

  line-yes : {A : Type 0} (w : List ℕ) (l : Line) (r : Read A) → T (ended_by_ten l) → T (same l.bytes w) → unless (is_line w l) 32 l.offset r ≡ r
  unfolding is_line
  line-yes w l r a b = unless-yes (ended_by_ten l && same l.bytes w) 32 l.offset r (yes_and (ended_by_ten l) (same l.bytes w) a b)

  past_no : (w : List ℕ) (ws : List (List ℕ)) (l : Line) (ls : List Line) (f : List Line → Read (List Driver)) → (T (ended_by_ten l) → ¬ T (same l.bytes w))
      → next (past_lines end (w ∷ ws) (l ∷ ls)) f ≡ fault 32 l.offset
  unfolding past_lines next
  past_no w ws l ls f n = ap (λ (r : Read (List Line)). next r f) (line_no w l (past_lines end ws ls) n)

  -- ---- a line that may stand there, and one that may not

  took : (at : ℕ) (d : Expected) (l : Line) (e : Expected) → line_step cells g at d l ≡ Some e → T (ended_by_ten l) × (step_of cells g at d l.bytes ≡ Some e)
  took at d l e q =
      let o = then_out (only (closed true l) l.bytes) (step_of cells g at d) e q in
      let p = only_out (closed true l) l.bytes o.0 o.1 in
      (p.0, ap (step_of cells g at d) p.1 ∙ o.2)

  refused : (at : ℕ) (d : Expected) (l : Line) → line_step cells g at d l ≡ None → T (ended_by_ten l) → step_of cells g at d l.bytes ≡ None
  unfolding and_then only
  refused at d l q t = sym (ap (λ (b : Bool). and_then (only b l.bytes) (step_of cells g at d)) (is_true (ended_by_ten l) t)) ∙ q

  -- ---- gate lines

  driver-is : (l : Line) → T (ended_by_ten l) → gate_driver cells l ≡ gate_of_fields cells l.offset (fields l.bytes)
  unfolding gate_driver and_then only
  driver-is l t = ap (λ (b : Bool). and_then (only b (fields l.bytes)) (gate_of_fields cells l.offset)) (is_true (ended_by_ten l) t)

  abbrev gate_read : Option Driver → Line → List Line → Read (List Driver)
  gate_read o l ls = next (from? o 32 l.offset) (λ d. next (read_drivers cells end (length g.outputs) ls) (λ ds. holds (d ∷ ds)))

  gate-lines-is : (ds : List Driver) (l : Line) (ls : List Line) (b : Bool) → is_gate_line l.bytes ≡ b
      → gate_lines ds (l ∷ ls) ≡ next (cond b (gate_read (gate_driver cells l) l ls) (read_names end 0 (length g.outputs) (l ∷ ls))) (λ es. holds (ds ++ es))
  unfolding read_drivers is_gate
  gate-lines-is ds l ls b e = ap (λ (x : Bool). next (cond x (gate_read (gate_driver cells l) l ls) (read_names end 0 (length g.outputs) (l ∷ ls))) (λ es. holds (ds ++ es))) e

  gate-lines-some : (ds : List Driver) (l : Line) (ls : List Line) (d : Driver) → is_gate_line l.bytes ≡ true → gate_driver cells l ≡ Some d → gate_lines ds (l ∷ ls) ≡ gate_lines (ds ++ (d ∷ [])) ls
  unfolding next from?
  gate-lines-some ds l ls d b e = cc (
    gate-lines-is ds l ls true b,
    next-next (read_drivers cells end (length g.outputs) ls) (λ es. d ∷ es)
        (λ es. ds ++ es),
    next-same (read_drivers cells end (length g.outputs) ls) (λ es. ds ++ (d ∷ es)) (λ es. (ds ++ (d ∷ [])) ++ es)
        (λ es. sym (append_assoc ds (d ∷ []) es)),
  )

  -- ---- `.names` lines

  abbrev name_read : Option Driver → ℕ → ℕ → Line → List Line → Read (List Driver)
  name_read o k n l ls = next (from? o 32 l.offset) (λ d. next (past_row end ls) (λ rest. next (read_names end (suc k) n rest) (λ ds. holds (d ∷ ds))))

  name-is : (k : ℕ) (l : Line) → T (ended_by_ten l) → T (is_wire_line k (fields l.bytes)) → name_driver k l ≡ Some (wire_of l.offset k (fields l.bytes))
  unfolding name_driver only
  name-is k l a b = ap (λ (x : Bool). only x (wire_of l.offset k (fields l.bytes))) (is_true (ended_by_ten l && is_wire_line k (fields l.bytes)) (yes_and (ended_by_ten l) (is_wire_line k (fields l.bytes)) a b))

  name-not : (k : ℕ) (l : Line) → (T (ended_by_ten l) → ¬ T (is_wire_line k (fields l.bytes))) → name_driver k l ≡ None
  unfolding name_driver only
  name-not k l n = cc (is_false (ended_by_ten l && is_wire_line k (fields l.bytes)) (not_T (ended_by_ten l && is_wire_line k (fields l.bytes))
      (λ t. let q = and_yes (ended_by_ten l) (is_wire_line k (fields l.bytes)) t in n q.0 q.1)))

  wired-some : (k n : ℕ) (ds : List Driver) (l : Line) (ls : List Line) (d : Driver) → name_driver k l ≡ Some d → wired k (suc n) ds (l ∷ ls) ≡ next (past_row end ls) (wired (suc k) n (ds ++ (d ∷ [])))
  unfolding read_names next from?
  wired-some k n ds l ls d e =
      ap (λ (o : Option Driver). next (name_read o k n l ls) (λ es. holds (ds ++ es))) e
      ∙ next_assoc (past_row end ls) (λ rest. next (read_names end (suc k) n rest) (λ es. holds (d ∷ es))) (λ es. holds (ds ++ es))
      ∙ next_cong (past_row end ls) (λ rest. next (next (read_names end (suc k) n rest) (λ es. holds (d ∷ es))) (λ es. holds (ds ++ es))) (wired (suc k) n (ds ++ (d ∷ [])))
      (λ rest. next-next (read_names end (suc k) n rest) (λ es. d ∷ es) (λ es. ds ++ es)
      ∙ next-same (read_names end (suc k) n rest) (λ es. ds ++ (d ∷ es)) (λ es. (ds ++ (d ∷ [])) ++ es) (λ es. sym (append_assoc ds (d ∷ []) es)))

  row-yes : (l : Line) (ls : List Line) (f : List Line → Read (List Driver)) → T (ended_by_ten l) → T (same l.bytes (text "1 1")) → next (past_row end (l ∷ ls)) f ≡ f ls
  unfolding past_row next
  row-yes l ls f t u = ap (λ (r : Read (List Line)). next r f) (line-yes (text "1 1") l (holds ls) t u)

  wire-on : (at k n : ℕ) (ds : List Driver) (l : Line) (ls : List Line) (e : Expected) → l.offset ≡ at → T (ended_by_ten l) → wire_step at k n ds l.bytes ≡ Some e → wired k n ds (l ∷ ls) ≡ left e ls
  unfolding left wire_step
  wire-on at k zero ds l ls e o t q =
      let p = only_out (same l.bytes (text ".end")) (nothing_expected ds) e q in
      unfold read_names next in ap (λ (r : Read (List Driver)). next r (λ es. holds (ds ++ es)))
      (line-yes (text ".end") l (holds []) t p.0) ∙ ap holds (append-nil ds) ∙ ap (λ (d : Expected). left d ls) p.1
  wire-on at k (suc n) ds l ls e o t q =
      let p = only_out (is_wire_line k (fields l.bytes)) (cover_expected (suc k) n (ds ++ (wire_of at k (fields l.bytes) ∷ []))) e q in
      wired-some k n ds l ls (wire_of at k (fields l.bytes)) (name-is k l t p.0 ∙ ap (λ (i : ℕ). Some (wire_of i k (fields l.bytes))) o) ∙ ap (λ (d : Expected). left d ls) p.1

  wire_off : (at k n : ℕ) (ds : List Driver) (l : Line) (ls : List Line) → (T (ended_by_ten l) → wire_step at k n ds l.bytes ≡ None) → wired k n ds (l ∷ ls) ≡ fault 32 l.offset
  unfolding wire_step
  wire_off at k zero ds l ls q =
      unfold read_names next in ap (λ (r : Read (List Driver)). next r (λ es. holds (ds ++ es))) (line_no (text ".end") l (holds []) (λ t. none_fails (same l.bytes (text ".end")) (nothing_expected ds) (q t)))
  wire_off at k (suc n) ds l ls q =
      unfold read_names next from? in ap (λ (o : Option Driver). next (name_read o k n l ls) (λ es. holds (ds ++ es))) (name-not k l
      (λ t. none_fails (is_wire_line k (fields l.bytes)) (cover_expected (suc k) n (ds ++ (wire_of at k (fields l.bytes) ∷ []))) (q t)))

  past_all : (ls : List Line) (f : List Line → Read (List Driver)) → next (past_lines end [] ls) f ≡ f ls
  unfolding past_lines next
  past_all ls f = refl

  pub goes_on : (at : ℕ) (d : Expected) (l : Line) (ls : List Line) (e : Expected) → l.offset ≡ at → line_step cells g at d l ≡ Some e → left d (l ∷ ls) ≡ left e ls
  unfolding left step_of
  goes_on at model_expected l ls e o q =
      let a = took at model_expected l e q in
      let p = only_out (same l.bytes (text ".model top")) inputs_expected e a.1 in
      past-yes (text ".model top") _ l ls _ a.0 p.0 ∙ ap (λ (d : Expected). left d ls) p.1
  goes_on at inputs_expected l ls e o q =
      let a = took at inputs_expected l e q in
      let p = only_out (same l.bytes (inputs_line g)) outputs_expected e a.1 in
      past-yes (inputs_line g) _ l ls _ a.0 p.0 ∙ ap (λ (d : Expected). left d ls) p.1
  goes_on at outputs_expected l ls e o q =
      let a = took at outputs_expected l e q in
      let p = only_out (same l.bytes (outputs_line g)) (gate_expected []) e a.1 in
      past-yes (outputs_line g) [] l ls _ a.0 p.0 ∙ past_all ls (gate_lines []) ∙ ap (λ (d : Expected). left d ls) p.1
  goes_on at (gate_expected ds) l ls e o q = let a = took at (gate_expected ds) l e q in by_bool (is_gate_line l.bytes) (λ f. unfold gate_step left in
      let x = then_out (gate_of_fields cells at (fields l.bytes)) (λ d. Some (gate_expected (ds ++ (d ∷ [])))) e (rw f at a.1) in let h : Some
      (gate_expected (ds ++ (x.0 ∷ []))) ≡ Some e = x.2 in let z : gate_expected (ds ++ (x.0 ∷ [])) ≡ e = cc in gate-lines-some ds l ls x.0 f
      (driver-is l a.0 ∙ ap (λ (i : ℕ). gate_of_fields cells i (fields l.bytes)) o ∙ x.1) ∙ ap (λ (d : Expected). left d ls) z)
      (λ p. unfold gate_step in gate-lines-is ds l ls false p ∙ wire-on at zero (length g.outputs) ds l ls e o a.0 (rw p at a.1))
  goes_on at (wire_expected k n ds) l ls e o q = let a = took at (wire_expected k n ds) l e q in wire-on at k n ds l ls e o a.0 a.1
  goes_on at (cover_expected k n ds) l ls e o q =
      let a = took at (cover_expected k n ds) l e q in
      let p = only_out (same l.bytes (text "1 1")) (wire_expected k n ds) e a.1 in
      row-yes l ls (wired k n ds) a.0 p.0 ∙ ap (λ (d : Expected). left d ls) p.1
  goes_on at (nothing_expected ds) l ls e o q = let a = took at (nothing_expected ds) l e q in let z : ◌≡◌ {A = ℕ} 0 1 = (let f = a.1 in cc) in absurd (omega arith)

  pub stops : (at : ℕ) (d : Expected) (l : Line) (ls : List Line) → l.offset ≡ at → (¬ Finished d) → line_step cells g at d l ≡ None → left d (l ∷ ls) ≡ fault 32 l.offset
  unfolding left step_of
  stops at model_expected l ls o n q = past_no (text ".model top") _ l ls _ (λ t. none_fails (same l.bytes (text ".model top")) inputs_expected (refused at model_expected l q t))
  stops at inputs_expected l ls o n q = past_no (inputs_line g) _ l ls _ (λ t. none_fails (same l.bytes (inputs_line g)) outputs_expected (refused at inputs_expected l q t))
  stops at outputs_expected l ls o n q = past_no (outputs_line g) _ l ls _ (λ t. none_fails (same l.bytes (outputs_line g)) (gate_expected []) (refused at outputs_expected l q t))
  stops at (gate_expected ds) l ls o n q = by_bool (is_gate_line l.bytes) (λ f. (unfold next from? in cc (
    gate-lines-is ds l ls true f,
    (on (ended_by_ten l) (λ t. driver-is l t ∙ ap (λ (i : ℕ). gate_of_fields cells i (fields l.bytes)) o
        ∙ none_then (gate_of_fields cells at (fields l.bytes)) (unfold gate_step in (rw f at (refused at (gate_expected ds) l q)) t))
        (λ t. (unfold gate_driver and_then only in cc (is_false (ended_by_ten l) t)))),
  ))) (λ e. gate-lines-is ds l ls false e
      ∙ wire_off at zero (length g.outputs) ds l ls (λ t. unfold gate_step in (rw e at (refused at (gate_expected ds) l q)) t))
    where
      none_then : (x : Option Driver) → and_then x (λ d. Some (gate_expected (ds ++ (d ∷ [])))) ≡ None → x ≡ None
      none_then None e = refl
      none_then (Some d) e = unfold and_then in let z : ◌≡◌ {A = ℕ} 0 1 = cc in absurd (omega arith)
  stops at (wire_expected k m ds) l ls o n q = wire_off at k m ds l ls (refused at (wire_expected k m ds) l q)
  stops at (cover_expected k m ds) l ls o n q =
      unfold past_row next in ap (λ (r : Read (List Line)). next r (wired k m ds)) (line_no (text "1 1") l (holds ls) (λ t. none_fails (same l.bytes (text "1 1")) (wire_expected k m ds) (refused at (cover_expected k m ds) l q t)))
  stops at (nothing_expected ds) l ls o n q = absurd (n (ds, refl))

  -- ---- the text's end

  wired-end : (k n : ℕ) (ds : List Driver) → wired k n ds [] ≡ fault 32 end
  unfolding read_names next
  wired-end k zero ds = refl
  wired-end k (suc n) ds = refl

  pub ends : (d : Expected) → (¬ Finished d) → left d [] ≡ fault 32 end
  unfolding left
  ends model_expected n = unfold past_lines next in refl
  ends inputs_expected n = unfold past_lines next in refl
  ends outputs_expected n = unfold past_lines next in refl
  ends (gate_expected ds) n = unfold read_drivers in wired-end zero (length g.outputs) ds
  ends (wire_expected k m ds) n = wired-end k m ds
  ends (cover_expected k m ds) n = unfold past_row next in refl
  ends (nothing_expected ds) n = absurd (n (ds, refl))

  pub finished : (ds : List Driver) (ls : List Line) → left (nothing_expected ds) ls ≡ holds ds
  unfolding left
  finished ds ls = refl

-- the whole reading
pub netlist-left : (cells : List Cell) (g : Graph) (t : List ℕ) → read_netlist cells g t ≡ left (length t) cells g model_expected (lines_from 0 [] t)
unfolding read_netlist left preamble_of
netlist-left cells g t =
    next_cong (past_lines (length t) (preamble_of g) (lines_from 0 [] t)) (read_drivers cells (length t) (length g.outputs)) (λ ls. next (read_drivers cells (length t) (length g.outputs) ls) (λ es. holds es))
    (λ ls. sym (next-holds (read_drivers cells (length t) (length g.outputs) ls)))
