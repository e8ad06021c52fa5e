-- A netlist is read exactly where its lines are those that are expected, and 29 comes exactly by its condition, for listed cells of different names.
use Rattle.base.specs.{ℕ, zero, ◌+◌, arith, ◌≡◌, refl, sym, ◌∙◌, ap, subst, Bool, Option, None, Some, List, [], ◌∷◌, ◌++◌, append-nil}
use Rattle.base.specs.{append_assoc, T, length, length-append}
use Rattle.model.specs.{Line, lines_from, holds, fault, read_counted}
use Rattle.model.specs.declared.Cell.{Cell}
use Rattle.promises.specs.{Begins}
use Rattle.theory_graph.specs.{library_fits}
use Rattle.theory_graph.proofs.{by_option, by_list}
use Rattle.theory_text.proofs.{no_lines_lem}
use Rattle.theory_refusals.proofs.{Result, held, refused, exactly, result_as, first-split, lines_none, found-begins, begins-read}
use Rattle.theory_refusals.proofs.{none-begins}
use Rattle.promises.specs.CountForms.{Expected, model_expected, timing_expected, NextLine, Reached, no_line, a_line}
use Rattle.promises.specs.CountRefusals.{NetlistIn, Finished, NetlistFault}
use Rattle.promises.specs.CountRefusals.{twenty_nine, Netlists}
use Rattle.theory_tally.proofs.CountSteps.{line_step, reads-step}
use Rattle.theory_tally.proofs.CountRun.{left, goes_on, stops, ends, finished, finished?, counted-left}

none-some : {d : Expected} → ◌≡◌ {A = Option Expected} None (Some d) → ⊥
none-some e = let z : ◌≡◌ {A = ℕ} 0 1 = cc in omega arith

module _ (ranged : Bool) (cells : List Cell) (fits : T (library_fits cells)) where
  abbrev Held : List ℕ → List ℕ → Type 0
  Held = NetlistIn ranged cells

  abbrev Refused : List ℕ → ℕ → ℕ → Type 0
  Refused = NetlistFault ranged cells

  -- ---- what comes of the lines

  result : (ls : List Line) (end : ℕ) (d : Expected) (s rest : List ℕ) → Reached ranged cells s d → lines_from (length s) [] rest ≡ ls → length (s ++ rest) ≡ end
      → Result (Held (s ++ rest)) (Refused (s ++ rest)) (left end ranged cells d ls)
  result [] end d s rest r e q = subst (λ (x : List ℕ). Result (Held (s ++ x)) (Refused (s ++ x)) (left end ranged cells d [])) (sym (lines_none (length s) rest e)) (finished? d yes no)
    where
      at-end : end ≡ length s
      at-end = sym q ∙ ap (λ (x : List ℕ). length (s ++ x)) (lines_none (length s) rest e) ∙ (ap length (append-nil s))

      yes : (us : List ℕ) → d ≡ timing_expected zero us → Result (Held (s ++ [])) (Refused (s ++ [])) (left end ranged cells d [])
      yes us f =
          result_as (holds us) (left end ranged cells d []) (cc (finished end ranged cells us)) (held (rw (append-nil s) (rw f at r)))

      no : (¬ Finished d) → Result (Held (s ++ [])) (Refused (s ++ [])) (left end ranged cells d [])
      no f = result_as (fault 29 end) (left end ranged cells d []) (ends end ranged cells d f)
          (refused (rw at-end (twenty_nine r (λ p. f p.1) (λ p. none-there p.1))))
        where
          none-there : {a : Expected} → Begins (NextLine ranged cells d) [] a → ⊥
          none-there {a} b = none-begins (reads-step ranged cells fits d) 0 [] (unfold lines_from in refl) a b
  result (l ∷ ls) end d s rest r e q = by_option (line_step ranged cells d l) (λ f. result_as (fault 29 l.offset)
      (left end ranged cells d (l ∷ ls)) (stops end ranged cells d l ls f) (refused (rw (first-split (length s) rest l ls e).offset
      (twenty_nine r (λ p. no_lines_lem (length s) l ls (ap (lines_from (length s) []) (sym p.0) ∙ e))
      (λ p. none-some (sym f ∙ begins-read (reads-step ranged cells fits d) (length s) rest l ls e p.0 p.1)))))) (λ x p.
      let m = (reads-step ranged cells fits d).form (length s) rest l ls e x p in let is :
      (s ++ m.front) ++ m.behind ≡ s ++ rest = append_assoc s m.front m.behind ∙ ap (λ (y : List ℕ). s ++ y) (sym m.whole) in
      result_as (left end ranged cells x ls) (left end ranged cells d (l ∷ ls)) (goes_on end ranged cells d l ls x p) (rw is at
      (result ls end x (s ++ m.front) m.behind (a_line r m.is) (cc (length-append s m.front, m.later)) (ap length is ∙ q))))

  -- ---- and back

  -- lines that are expected lead on to what is expected behind them
  reached : (end : ℕ) {s : List ℕ} {d : Expected} → Reached ranged cells s d → (rest : List ℕ) → left end ranged cells model_expected (lines_from 0 [] (s ++ rest)) ≡ left end ranged cells d (lines_from (length s) [] rest)
  reached end no_line rest = refl
  reached end (a_line {s} {l} {d} {e} r h) rest =
      let b = (reads-step ranged cells fits d).back (length s) l rest e h in
      cc (
        append_assoc s l rest,
        reached end r (l ++ rest),
        b.lines,
        goes_on end ranged cells d b.line
            (lines_from (length s + length l) [] rest) e b.read,
        length-append s l,
      )

  -- a line that may not stand there, or none
  stopped : (end : ℕ) (d : Expected) (s t : List ℕ) → end ≡ length (s ++ t) → (¬ ((t ≡ []) × Finished d)) → (¬ ((a : Expected) × Begins (NextLine ranged cells d) t a))
      → left end ranged cells d (lines_from (length s) [] t) ≡ fault 29 (length s)
  stopped end d s t q n b = by_list (lines_from (length s) [] t)
      (λ e. rw e (let z : t ≡ [] = lines_none (length s) t e in cc (ends end ranged cells d (λ f. n (z, f)), append-nil s))) (λ l ls p. rw p
      (by_option (line_step ranged cells d l)
      (λ f. stops end ranged cells d l ls f ∙ ap (fault 29) (first-split (length s) t l ls p).offset) (λ x q. absurd
      (b (x, found-begins (reads-step ranged cells fits d) ((reads-step ranged cells fits d).form (length s) t l ls p x q))))))

  refused-read : {t : List ℕ} {n k : ℕ} → Refused t n k → left (length t) ranged cells model_expected (lines_from 0 [] t) ≡ fault n k
  refused-read (twenty_nine {s} {t} {d} r n b) = reached (length (s ++ t)) r t ∙ stopped (length (s ++ t)) d s t refl n b

  pub netlist_exactly : (t : List ℕ) → Netlists ranged cells t
  netlist_exactly t =
      exactly (read_counted ranged cells t)
      (result_as (left (length t) ranged cells model_expected (lines_from 0 [] t)) (read_counted ranged cells t) (counted-left ranged cells t) (result (lines_from 0 [] t) (length t) model_expected [] t no_line refl refl))
      (λ us h. counted-left ranged cells t ∙ (let none_left : (n : ℕ) → lines_from n [] [] ≡ [] = λ n. unfold lines_from in refl in cc
      (append-nil t, reached (length t) h [], none_left (length t), finished (length t) ranged cells us)))
      (λ n k h. counted-left ranged cells t ∙ refused-read h)
