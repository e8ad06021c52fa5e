-- An edited netlist is read exactly where its lines are those that are expected, and 32 comes exactly by its condition, for listed cells of different names.
use Rattle.base.specs.{ℕ, ◌+◌, arith, ◌≡◌, refl, sym, ◌∙◌, ap, subst, Option, None, Some, List, [], ◌∷◌, ◌++◌, append-nil, append_assoc, T}
use Rattle.base.specs.{length, length-append}
use Rattle.model.specs.{Line, lines_from, holds, fault, Driver, read_netlist}
use Rattle.model.specs.Graph.{Graph}
use Rattle.model.specs.declared.Cell.{Cell}
use Rattle.promises.specs.{Begins}
use Rattle.theory_graph.specs.{library_fits}
use Rattle.theory_graph.proofs.{by_option, by_list}
use Rattle.theory_refusals.proofs.{Result, held, refused, exactly, result_as, first-split, lines_none, found-begins, begins-read}
use Rattle.theory_refusals.proofs.{none-begins}
use Rattle.promises.specs.CheckForms.{Expected, model_expected, nothing_expected, NextLine, Reached, no_line, a_line}
use Rattle.promises.specs.CheckRefusals.{EditedIn, Finished, EditedFault}
use Rattle.promises.specs.CheckRefusals.{thirty_two, Netlists}
use Rattle.theory_check.proofs.CheckSteps.{line_step, reads-step}
use Rattle.theory_check.proofs.CheckRun.{left, goes_on, stops, ends, finished, finished?, netlist-left}

none-some : {d : Expected} → ◌≡◌ {A = Option Expected} None (Some d) → ⊥
none-some e = let z : ◌≡◌ {A = ℕ} 0 1 = cc in omega arith

module _ (cells : List Cell) (g : Graph) (fits : T (library_fits cells)) where
  abbrev Held : List ℕ → List Driver → Type 0
  Held = EditedIn cells g

  abbrev Refused : List ℕ → ℕ → ℕ → Type 0
  Refused = EditedFault cells g

  -- ---- what comes of the lines

  -- `.end` stands before: what follows is not read
  done : (end : ℕ) (d : Expected) (s rest : List ℕ) (ls : List Line) → Reached cells g s d → (ds : List Driver) → d ≡ nothing_expected ds → Result (Held (s ++ rest)) (Refused (s ++ rest)) (left end cells g d ls)
  done end d s rest ls r ds f = result_as (holds ds) (left end cells g d ls) (cc (finished end cells g ds ls))
      (held (record { front = s; behind = rest; whole = refl; lines = rw f at r }))

  result : (ls : List Line) (end : ℕ) (d : Expected) (s rest : List ℕ) → Reached cells g s d → lines_from (length s) [] rest ≡ ls → length (s ++ rest) ≡ end
      → Result (Held (s ++ rest)) (Refused (s ++ rest)) (left end cells g d ls)
  result [] end d s rest r e q = finished? d (done end d s rest [] r) (λ f. result_as (fault 32 end) (left end cells g d [])
      (ends end cells g d f) (refused (subst (Refused (s ++ rest) 32) (sym
      (sym q ∙ ap (λ (x : List ℕ). length (s ++ x)) (lines_none (length s) rest e) ∙ ap length (append-nil s)))
      (thirty_two r f (λ p. none-begins (reads-step cells g fits (length s) d) (length s) rest e p.0 p.1)))))
  result (l ∷ ls) end d s rest r e q =
      let place = (first-split (length s) rest l ls e).offset in
      finished? d (done end d s rest (l ∷ ls) r) (λ n. by_option (line_step cells g (length s) d l) (λ f.
      result_as (fault 32 l.offset) (left end cells g d (l ∷ ls)) (stops end cells g (length s) d l ls place n f) (refused (rw place
      (thirty_two r n (λ p. none-some (sym f ∙ begins-read (reads-step cells g fits (length s) d) (length s) rest l ls e p.0 p.1))))))
      (λ x p. let m = (reads-step cells g fits (length s) d).form (length s) rest l ls e x p in let is :
      (s ++ m.front) ++ m.behind ≡ s ++ rest = append_assoc s m.front m.behind ∙ ap (λ (y : List ℕ). s ++ y) (sym m.whole) in
      result_as (left end cells g x ls) (left end cells g d (l ∷ ls)) (goes_on end cells g (length s) d l ls x place p) (rw is at
      (result ls end x (s ++ m.front) m.behind (a_line r m.is) (cc (length-append s m.front, m.later)) (ap length is ∙ q)))))

  -- ---- and back

  -- lines that are expected lead on to what is expected behind them
  reached : (end : ℕ) {s : List ℕ} {d : Expected} → Reached cells g s d → (rest : List ℕ) → left end cells g model_expected (lines_from 0 [] (s ++ rest)) ≡ left end cells g d (lines_from (length s) [] rest)
  reached end no_line rest = refl
  reached end (a_line {s} {l} {d} {e} r h) rest =
      let b = (reads-step cells g fits (length s) d).back (length s) l rest e h in
      cc (
        append_assoc s l rest,
        reached end r (l ++ rest),
        b.lines,
        goes_on end cells g (length s) d b.line
            (lines_from (length s + length l) [] rest) e
            (first-split (length s) (l ++ rest) b.line (lines_from (length s + length l) [] rest) b.lines).offset
            b.read,
        length-append s l,
      )

  -- a line that may not stand there, or none
  stopped : (end : ℕ) (d : Expected) (s t : List ℕ) → end ≡ length (s ++ t) → (¬ Finished d) → (¬ ((a : Expected) × Begins (NextLine cells g (length s) d) t a))
      → left end cells g d (lines_from (length s) [] t) ≡ fault 32 (length s)
  stopped end d s t q n b = by_list (lines_from (length s) [] t) (λ e. rw e (ends end cells g d n
      ∙ ap (fault 32) (q ∙ ap (λ (x : List ℕ). length (s ++ x)) (lines_none (length s) t e) ∙ ap length (append-nil s)))) (λ l ls p. rw p
      (let place = (first-split (length s) t l ls p).offset in by_option (line_step cells g (length s) d l)
      (λ f. stops end cells g (length s) d l ls place n f ∙ ap (fault 32) place) (λ x q. absurd
      (b (x, found-begins (reads-step cells g fits (length s) d) ((reads-step cells g fits (length s) d).form (length s) t l ls p x q))))))

  refused-read : {t : List ℕ} {n k : ℕ} → Refused t n k → left (length t) cells g model_expected (lines_from 0 [] t) ≡ fault n k
  refused-read (thirty_two {s} {t} {d} r n b) = reached (length (s ++ t)) r t ∙ stopped (length (s ++ t)) d s t refl n b

  pub edited_exactly : (t : List ℕ) → Netlists cells g t
  edited_exactly t =
      exactly (read_netlist cells g t) (result_as (left (length t) cells g model_expected (lines_from 0 [] t)) (read_netlist cells g t)
      (netlist-left cells g t) (result (lines_from 0 [] t) (length t) model_expected [] t no_line refl refl)) (λ ds h. netlist-left cells g t
      ∙ ap (λ (x : List ℕ). left (length t) cells g model_expected (lines_from 0 [] x)) h.whole ∙ reached (length t) h.lines h.behind
      ∙ finished (length t) cells g ds (lines_from (length h.front) [] h.behind)) (λ n k h. netlist-left cells g t ∙ refused-read h)
