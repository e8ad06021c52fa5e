-- The arrivals' text is read exactly where it has the form, and 25 and 26 come exactly by their conditions.
use mir.Facts.{not_T}
use Rattle.base.specs.{ℕ, ◌+◌, ◌≤◌, ◌<◌, arith, ◌≡◌, refl, sym, ◌∙◌, ap, subst, ◌⊎◌, inl, inr, ◌↔◌, ⊎_elim, Bool, true, false, not}
use Rattle.base.specs.{false≢true, ◌&&◌, Option, None, Some, List, [], ◌∷◌, ◌++◌, map, append-nil, append_assoc, nil≢cons, Memᴰ}
use Rattle.base.specs.{Memᴰ-head, Memᴰ-tail, Memᴰ-not-nil, T, ltb, length, get_or, length-append, and_yes, yes_and, and_no}
use Rattle.base.specs.{ltb_yes, ltb_no, T_not-not}
use Rattle.model.specs.{all, elem, same, and_then, only, Line, ended, text, lines_from, Read, holds, fault, next, unless, from?, InputArrival}
use Rattle.model.specs.{input_arrival_numbers, read_input_arrivals, read_input_arrival_lines, read_arrivals}
use Rattle.promises.specs.{Begins, NumberLine, Title, title, TitleLine, Exactly, LatesIn, no_input_arrival, a_input_arrival, InputArrivalFault, twenty_five, twenty_six}
use Rattle.promises.specs.{ArrivalsFault, no_title, at_input_arrival, ArrivalsHold}
use Rattle.theory_graph.proofs.{same-eq, is_true, is_false, elem_in, elem_out, by_bool, by_option, by_list}
use Rattle.theory_text.proofs.{then_out, only_out, Free, no_lines_lem}
use Rattle.theory_refusals.proofs.LineFormLaws.{Reads, reads-line, first-split, lines_none, free-above, found-begins, begins-read}
use Rattle.theory_refusals.proofs.ReadResults.{Result, held, refused, exactly, unless-yes, unless_no, on, next-holds, next-fault}
use Rattle.theory_refusals.proofs.ReadResults.{next-next, next-same, result-next, result-map, result_as}
use Rattle.theory_refusals.proofs.NumberLines.{reads-input-arrival}

-- ---- the first line

abbrev titles : List ℕ → Option (Unit {0})
titles w = only (same w (text "input arrival")) tt

abbrev title_of : Line → Option (Unit {0})
title_of l = and_then (only (ended l) l.bytes) titles

titles_form : (w : List ℕ) (u : Unit {0}) → titles w ≡ Some u → Title w u
titles_form w u e = let p = only_out (same w (text "input arrival")) tt u e in subst (λ (x : List ℕ). Title x u) (sym (same-eq w (text "input arrival") p.0)) title

titles_back : (w : List ℕ) (u : Unit {0}) → Title w u → titles w ≡ Some u
unfolding same text only
titles_back w u title = refl

titles_free : (s : ℕ) → s < 32 → (w : List ℕ) (u : Unit {0}) → Title w u → Free s w
unfolding text all
titles_free s h w u title = free-above s h (text "input arrival") tt

reads-title : Reads title_of TitleLine
reads-title = reads-line false titles Title title_of (λ l. refl) titles_form titles_back titles_free

abbrev is_title : Line → Bool
is_title l = ended l && same l.bytes (text "input arrival")

title-is : (l : Line) → title_of l ≡ Some tt → T (is_title l)
title-is l e =
    let o = then_out (only (ended l) l.bytes) titles tt e in
    let p = only_out (ended l) l.bytes o.0 o.1 in
    let q = only_out (same o.0 (text "input arrival")) tt tt o.2 in
    yes_and (ended l) (same l.bytes (text "input arrival")) p.0 (subst (λ (x : List ℕ). T (same x (text "input arrival"))) (sym p.1) q.0)

is-title : (l : Line) → T (is_title l) → title_of l ≡ Some tt
unfolding and_then only
is-title l t =
    let p = and_yes (ended l) (same l.bytes (text "input arrival")) t in
    by_bool (ended l) (λ e. rw e) (λ q. rw q (absurd (rw q at p.0)))
    ∙ ap (λ (b : Bool). only {A = Unit {0}} b (tt {0})) (is_true (same l.bytes (text "input arrival")) p.1)

-- ---- 26

abbrev indexes : List InputArrival → List ℕ
indexes es = map (λ (e : InputArrival). e.index) es

abbrev Known : List ℕ → List InputArrival → Type 0
Known before es = (v : ℕ) → Memᴰ v before ↔ Memᴰ v (indexes es)

abbrev is_good : ℕ → List ℕ → ℕ → Bool
is_good inputs before index = ltb index inputs && not (elem index before)

good_form : (inputs : ℕ) (before : List ℕ) (es : List InputArrival) (index : ℕ) → Known before es → T (is_good inputs before index) → (index < inputs) × (¬ Memᴰ index (indexes es))
good_form inputs before es index known t =
    let p = and_yes (ltb index inputs) (not (elem index before)) t in
    (ltb_yes p.0, λ m. false≢true (sym (is_false (elem index before) p.1) ∙ elem_in index before ((known index).1 m)))

good-back : (inputs : ℕ) (before : List ℕ) (es : List InputArrival) (index : ℕ) → Known before es → T (not (is_good inputs before index)) → (inputs ≤ index) ⊎ Memᴰ index (indexes es)
good-back inputs before es index known t = ⊎_elim (λ u. inl (ltb_no u))
    (λ q. inr ((known index).0 (elem_out index before (is_true (elem index before) (T_not-not (elem index before) q)))))
    (and_no (ltb index inputs) (not (elem index before)) t)

known_more : (before : List ℕ) (es : List InputArrival) (e : InputArrival) → Known before es → Known (e.index ∷ before) (es ++ (e ∷ []))
known_more before es e known v = (there, back)
  where
    front : (xs : List InputArrival) → Memᴰ v (indexes xs) → Memᴰ v (indexes (xs ++ (e ∷ [])))
    front (x ∷ xs) (Memᴰ-head q) = Memᴰ-head q
    front (x ∷ xs) (Memᴰ-tail m) = Memᴰ-tail (front xs m)
    front [] x' = elim x' [ ]

    last : (xs : List InputArrival) → v ≡ e.index → Memᴰ v (indexes (xs ++ (e ∷ [])))
    last [] q = Memᴰ-head q
    last (x ∷ xs) q = Memᴰ-tail (last xs q)

    out : (xs : List InputArrival) → Memᴰ v (indexes (xs ++ (e ∷ []))) → (v ≡ e.index) ⊎ Memᴰ v (indexes xs)
    out [] (Memᴰ-head q) = inl q
    out [] (Memᴰ-tail m) = absurd (Memᴰ-not-nil m)
    out (x ∷ xs) (Memᴰ-head q) = inr (Memᴰ-head q)
    out (x ∷ xs) (Memᴰ-tail m) = ⊎_elim inl (λ n. inr (Memᴰ-tail n)) (out xs m)

    there : Memᴰ v (e.index ∷ before) → Memᴰ v (indexes (es ++ (e ∷ [])))
    there (Memᴰ-head q) = last es q
    there (Memᴰ-tail m) = front es ((known v).0 m)

    back : Memᴰ v (indexes (es ++ (e ∷ []))) → Memᴰ v (e.index ∷ before)
    back m = ⊎_elim Memᴰ-head (λ n. Memᴰ-tail ((known v).1 n)) (out es m)

-- two numbers
two : {s ns : List ℕ} → NumberLine false 2 s ns → ns ≡ get_or ns 0 0 ∷ get_or ns 1 0 ∷ []
two {ns = ns} l = go ns l.is.count
  where
    go : (xs : List ℕ) → length xs ≡ 2 → xs ≡ get_or xs 0 0 ∷ get_or xs 1 0 ∷ []
    go [] e = let z : ⊥ = omega arith in absurd z
    go (x ∷ []) e = let z : ⊥ = omega arith in absurd z
    go (x ∷ y ∷ []) e = refl
    go (x ∷ y ∷ z ∷ xs) e = let w : ⊥ = omega arith in absurd w

-- ---- the lines

module _ (inputs : ℕ) where
  abbrev input_arrival_of : List ℕ → InputArrival
  input_arrival_of ns = record { index = get_or ns 0 0; arrival = get_or ns 1 0 }

  abbrev later : List ℕ → List Line → List ℕ → Read (List InputArrival)
  later before ls ns = next (read_input_arrivals inputs (get_or ns 0 0 ∷ before) ls) (λ es. holds (input_arrival_of ns ∷ es))

  abbrev validated : List ℕ → List Line → ℕ → List ℕ → Read (List InputArrival)
  validated before ls at ns = unless (is_good inputs before (get_or ns 0 0)) 26 at (later before ls ns)

  input-arrival-line : (before : List ℕ) (l : Line) (ls : List Line) (ns : List ℕ) → input_arrival_numbers l ≡ Some ns → read_input_arrivals inputs before (l ∷ ls) ≡ validated before ls l.offset ns
  unfolding read_input_arrivals from? next
  input-arrival-line before l ls ns e = ap (λ (o : Option (List ℕ)). next (from? o 25 l.offset) (validated before ls l.offset)) e

  input-arrival-none : (before : List ℕ) (l : Line) (ls : List Line) → input_arrival_numbers l ≡ None → read_input_arrivals inputs before (l ∷ ls) ≡ fault 25 l.offset
  unfolding read_input_arrivals from? next
  input-arrival-none before l ls e = ap (λ (o : Option (List ℕ)). next (from? o 25 l.offset) (validated before ls l.offset)) e

  input-arrival_passes : (before : List ℕ) (l : Line) (ls : List Line) (ns : List ℕ) → input_arrival_numbers l ≡ Some ns → T (is_good inputs before (get_or ns 0 0)) → read_input_arrivals inputs before (l ∷ ls) ≡ later before ls ns
  input-arrival_passes before l ls ns e a = input-arrival-line before l ls ns e ∙ unless-yes (is_good inputs before (get_or ns 0 0)) 26 l.offset _ a

  record Run (s : List ℕ) (es : List InputArrival) : Type 0 where
    before : List ℕ
    known : Known before es
    run : (rest : List ℕ) → read_arrivals inputs (s ++ rest) ≡ next (read_input_arrivals inputs before (lines_from (length s) [] rest)) (λ ds. holds (es ++ ds))

  input-arrival-run : {s : List ℕ} {es : List InputArrival} → LatesIn inputs s es → Run s es
  unfolding read_arrivals read_input_arrival_lines
  input-arrival-run (no_input_arrival {s} t) = record {
    before = [];
    known = λ v. ((λ n. absurd (Memᴰ-not-nil n)), λ n. absurd (Memᴰ-not-nil n));
    run = λ rest. let b = reads-title.back 0 s rest tt t in ap (read_input_arrival_lines inputs)
        (b.lines ∙ ap (λ (n : ℕ). b.line ∷ lines_from n [] rest) (let q : 0 + length s ≡ length s = omega arith in q))
        ∙ unless-yes (is_title b.line) 25 b.line.offset (read_input_arrivals inputs [] (lines_from (length s) [] rest))
        (title-is b.line b.read) ∙ sym (next-holds (read_input_arrivals inputs [] (lines_from (length s) [] rest)));
  }
  input-arrival-run (a_input_arrival {s} {l} {es} {index} {arrival} lines line inside new) = record {
    before = index ∷ (input-arrival-run lines).before;
    known = known_more (input-arrival-run lines).before es (record { index = index; arrival = arrival }) (input-arrival-run lines).known;
    run = λ rest. let b = reads-input-arrival.back (length s) l rest (index ∷ arrival ∷ []) line in let ls = lines_from
        (length s + length l) [] rest in ap (read_arrivals inputs) (append_assoc s l rest) ∙ (input-arrival-run lines).run (l ++ rest)
        ∙ ap (λ (xs : List Line). next (read_input_arrivals inputs (input-arrival-run lines).before xs) (λ ds. holds (es ++ ds))) b.lines
        ∙ ap (λ (x : Read (List InputArrival)). next x (λ ds. holds (es ++ ds))) (input-arrival_passes (input-arrival-run lines).before b.line ls
        (index ∷ arrival ∷ []) b.read (on (is_good inputs (input-arrival-run lines).before index) (λ t. t)
        (λ t. absurd (⊎_elim (λ h. omega arith) new (good-back inputs (input-arrival-run lines).before es index (input-arrival-run lines).known t)))))
        ∙ next-next (read_input_arrivals inputs (index ∷ (input-arrival-run lines).before) ls) (λ ds. record { index = index; arrival = arrival } ∷ ds)
        (λ ds. es ++ ds) ∙ next-same (read_input_arrivals inputs (index ∷ (input-arrival-run lines).before) ls)
        (λ ds. es ++ (record { index = index; arrival = arrival } ∷ ds))
        (λ ds. (es ++ (record { index = index; arrival = arrival } ∷ [])) ++ ds)
        (λ ds. sym (append_assoc es (record { index = index; arrival = arrival } ∷ []) ds)) ∙ ap (λ (n : ℕ).
        next (read_input_arrivals inputs (index ∷ (input-arrival-run lines).before) (lines_from n [] rest))
        (λ ds. holds ((es ++ (record { index = index; arrival = arrival } ∷ [])) ++ ds))) (sym (length-append s l));
  }

  input-arrival-fault : (before : List ℕ) (es : List InputArrival) → Known before es → (at : ℕ) (t : List ℕ) (l : Line) (ls : List Line) (n : ℕ) → lines_from at [] t ≡ l ∷ ls → InputArrivalFault inputs es t n
      → read_input_arrivals inputs before (l ∷ ls) ≡ fault n l.offset
  input-arrival-fault before es known at t l ls n e (twenty_five x) = by_option (input_arrival_numbers l) (λ f. input-arrival-none before l ls f)
      (λ ns q. absurd (x (ns, found-begins reads-input-arrival (reads-input-arrival.form at t l ls e ns q))))
  input-arrival-fault before es known at t l ls n e (twenty_six {index} {arrival} b x) =
      input-arrival-line before l ls (index ∷ arrival ∷ []) (begins-read reads-input-arrival at t l ls e (index ∷ arrival ∷ []) b)
      ∙ unless_no (is_good inputs before index) 26 l.offset _ (not_T (is_good inputs before index) (λ u. ⊎_elim (λ h.
      let q : index < inputs = (good_form inputs before es index known u).0 in omega (arith, good_form inputs before es index known u))
      (λ m. (good_form inputs before es index known u).1 m) x))

  input-arrival-result : (ls : List Line) (s rest : List ℕ) (es : List InputArrival) (before : List ℕ) → LatesIn inputs s es → Known before es → lines_from (length s) [] rest ≡ ls
      → Result (λ ds. LatesIn inputs (s ++ rest) (es ++ ds)) (ArrivalsFault inputs (s ++ rest)) (read_input_arrivals inputs before ls)
  unfolding read_input_arrivals lines_from
  input-arrival-result [] s rest es before lines known e =
      held (subst (λ (x : List ℕ). LatesIn inputs x (es ++ [])) (sym (append-nil s) ∙ ap (λ (y : List ℕ). s ++ y) (sym (lines_none (length s) rest e))) (subst (LatesIn inputs s) (sym (append-nil es)) lines))
  input-arrival-result (l ∷ ls) s rest es before lines known e = by_option (input_arrival_numbers l) (λ f. fails 25 (input-arrival-none before l ls f) (twenty_five (λ p.
      let z : None ≡ Some p.0 = sym f
      ∙ begins-read reads-input-arrival (length s) rest l ls e p.0 p.1 in let y : false ≡ true = cc in false≢true y))) (λ ns q.
      let x = reads-input-arrival.form (length s) rest l ls e ns q in on (is_good inputs before (get_or ns 0 0)) (λ t.
      let text-is : (s ++ x.front) ++ x.behind ≡ s ++ rest = append_assoc s x.front x.behind ∙ ap (λ (y : List ℕ). s ++ y)
      (sym x.whole) in let good = good_form inputs before es (get_or ns 0 0) known t in let r = (input-arrival-result ls) (s ++ x.front)
      x.behind (es ++ (input_arrival_of ns ∷ [])) (get_or ns 0 0 ∷ before)
      (a_input_arrival lines (subst (NumberLine false 2 x.front) (two x.is) x.is) good.0 good.1)
      (known_more before es (input_arrival_of ns) known) (ap (λ (n : ℕ). lines_from n [] x.behind) (length-append s x.front) ∙ x.later) in
      result_as (later before ls ns) whole (input-arrival_passes before l ls ns q t) (result-next (read_input_arrivals inputs (get_or ns 0 0 ∷ before) ls)
      (λ ds. input_arrival_of ns ∷ ds) (λ ds h. subst (λ (y : List ℕ). LatesIn inputs y (es ++ (input_arrival_of ns ∷ ds))) text-is
      (subst (LatesIn inputs ((s ++ x.front) ++ x.behind)) (append_assoc es (input_arrival_of ns ∷ []) ds) h))
      (λ n k h. subst (λ (y : List ℕ). ArrivalsFault inputs y n k) text-is h) r)) (λ t. fails 26
      (input-arrival-line before l ls ns q ∙ unless_no (is_good inputs before (get_or ns 0 0)) 26 l.offset _ t)
      (twenty_six (subst (Begins (NumberLine false 2) rest) (two x.is) (found-begins reads-input-arrival x))
      (good-back inputs before es (get_or ns 0 0) known t))))
    where
      Here : Read (List InputArrival) → Type 0
      Here = Result (λ ds. LatesIn inputs (s ++ rest) (es ++ ds)) (ArrivalsFault inputs (s ++ rest))

      whole : Read (List InputArrival)
      whole = read_input_arrivals inputs before (l ∷ ls)

      fails : (n : ℕ) → whole ≡ fault n l.offset → InputArrivalFault inputs es rest n → Here whole
      fails n f x =
          result_as (fault n (length s)) whole (f ∙ ap (fault n) (first-split (length s) rest l ls e).offset) (refused (at_input_arrival lines (λ z. nil≢cons (sym (ap (lines_from (length s) []) z) ∙ e)) x))

      Later : Type 0
      Later = (s' rest' : List ℕ) (es' : List InputArrival) (before' : List ℕ) → LatesIn inputs s' es' → Known before' es' → lines_from (length s') [] rest' ≡ ls
          → Result (λ ds. LatesIn inputs (s' ++ rest') (es' ++ ds)) (ArrivalsFault inputs (s' ++ rest')) (read_input_arrivals inputs before' ls)

  result : (t : List ℕ) → Result (ArrivalsHold inputs t) (ArrivalsFault inputs t) (read_arrivals inputs t)
  unfolding read_arrivals read_input_arrival_lines
  result t = go (lines_from 0 [] t) refl
    where
      go : (ls : List Line) → lines_from 0 [] t ≡ ls → Result (ArrivalsHold inputs t) (ArrivalsFault inputs t) (read_input_arrival_lines inputs ls)
      go [] e = held (inl (lines_none 0 t e, refl))
      go (l ∷ ls) e = on (is_title l) yes? (λ u. result_as (fault 25 0) (read_input_arrival_lines inputs (l ∷ ls))
          (unless_no (is_title l) 25 l.offset (read_input_arrivals inputs [] ls) u ∙ ap (fault 25) (first-split 0 t l ls e).offset) (refused
          (no_title (λ z. no_lines_lem 0 l ls (sym (ap (lines_from 0 []) z) ∙ e))
          (λ p. lib.Dec.T_not (is_title l) u (title-is l (begins-read reads-title 0 t l ls e tt p.1))))))
        where
          yes? : T (is_title l) → Result (ArrivalsHold inputs t) (ArrivalsFault inputs t) (read_input_arrival_lines inputs (l ∷ ls))
          yes? u =
              let x = reads-title.form 0 t l ls e tt (is-title l u) in
              result_as (read_input_arrivals inputs [] ls) (read_input_arrival_lines inputs (l ∷ ls)) (unless-yes (is_title l) 25 l.offset (read_input_arrivals inputs [] ls) u)
              (result-map (read_input_arrivals inputs [] ls) (λ ds h. inr (subst (λ (y : List ℕ). LatesIn inputs y ds) (sym x.whole) h)) (λ n k h. subst (λ (y : List ℕ). ArrivalsFault inputs y n k) (sym x.whole) h)
              (input-arrival-result ls x.front x.behind [] [] (no_input_arrival x.is) (λ v. ((λ n. absurd (Memᴰ-not-nil n)), λ n. absurd (Memᴰ-not-nil n)))
              (ap (λ (n : ℕ). lines_from n [] x.behind) (let q : length x.front ≡ 0 + length x.front = omega arith in q) ∙ x.later)))

  arrivals-held : (t : List ℕ) (es : List InputArrival) → ArrivalsHold inputs t es → read_arrivals inputs t ≡ holds es
  unfolding read_arrivals read_input_arrival_lines read_input_arrivals lines_from next
  arrivals-held t es (inl h) = ap (read_arrivals inputs) h.0 ∙ ap holds (sym h.1)
  arrivals-held t es (inr h) = ap (read_arrivals inputs) (sym (append-nil t)) ∙ (input-arrival-run h).run [] ∙ ap holds (append-nil es)

  arrivals-refused : (t : List ℕ) (n k : ℕ) → ArrivalsFault inputs t n k → read_arrivals inputs t ≡ fault n k
  unfolding read_arrivals read_input_arrival_lines
  arrivals-refused t n k (no_title some? x) = go (lines_from 0 [] t) refl
    where
      go : (ls : List Line) → lines_from 0 [] t ≡ ls → read_input_arrival_lines inputs ls ≡ fault 25 0
      go [] e = absurd (some? (lines_none 0 t e))
      go (l ∷ ls) e = cc (
        unless_no (is_title l) 25 l.offset (read_input_arrivals inputs [] ls) (not_T (is_title l)
            (λ u. x (tt, found-begins reads-title (reads-title.form 0 t l ls e tt (is-title l u))))),
        (first-split 0 t l ls e).offset,
      )
  arrivals-refused t n k (at_input_arrival {s} {t = u} {es} lines some? f) = let r = input-arrival-run lines in r.run u ∙ by_list (lines_from (length s) [] u)
      (λ e. rw e (absurd (some? (lines_none (length s) u e)))) (λ l ls q. rw q (next-fault (read_input_arrivals inputs r.before (l ∷ ls))
      (λ ds. holds (es ++ ds)) n (length s)
      (input-arrival-fault r.before es r.known (length s) u l ls n q f ∙ ap (fault n) (first-split (length s) u l ls q).offset)))

  -- the arrivals, whole
  pub arrivals_exactly : (t : List ℕ) → Exactly (ArrivalsHold inputs t) (ArrivalsFault inputs t) (read_arrivals inputs t)
  arrivals_exactly t = exactly (read_arrivals inputs t) (result t) (arrivals-held t) (arrivals-refused t)
