-- The library's text is read exactly where it has the form, and 2 to 6 and 27 come exactly by their conditions.
use mir.Facts.{not_T}
use Rattle.base.specs.{ℕ, suc, ◌+◌, ◌≤◌, ◌<◌, arith, ◌≡◌, refl, sym, ◌∙◌, ap, ap₂, subst, ⊎_elim, Bool, true, false, not, cond, false≢true}
use Rattle.base.specs.{◌&&◌, ◌||◌, Option, None, Some, List, [], ◌∷◌, ◌++◌, reverse, reverse-append, reverse-cons, append-nil, append_assoc}
use Rattle.base.specs.{nil≢cons, Memᴰ, Memᴰ-head, Memᴰ-tail, Memᴰ-not-nil, Memᴰ-append_cases, Memᴰ-append_left}
use Rattle.base.specs.{Memᴰ-append_right, T, ltb, length, length-append, and_yes, yes_and, or_yes, ltb_yes, yes_ltb, ltb_no, T_not-not}
use Rattle.model.specs.{all, any, same, and_then, only, Line, ended, text, lines_from, Read, holds, fault, next, unless, from?, name_of}
use Rattle.model.specs.{cell_of_line, is_clean, no_lower, is_shorter, is_longer, read_cells, read_library_lines, read_library}
use Rattle.model.specs.declared.Cell.{Cell}
use Rattle.promises.specs.{Names, shorter, longer, NamesLine, Exactly, Repeated, CellsIn, no_cell, a_cell, CellFault, three, five, six}
use Rattle.promises.specs.{twenty_seven, LibraryFault, two, at_line, LibraryHolds}
use Rattle.promises.specs.Refusals.{four}
use Rattle.theory_graph.proofs.{same-eq, same_refl, is_true, is_false, any-each, by_bool, by_option, by_list, by_member}
use Rattle.theory_text.proofs.{Free, then_out, only_out}
use Rattle.theory_refusals.proofs.LineFormLaws.{Reads, reads-line, first-split, lines_none, free-above, found-begins, begins-read}
use Rattle.theory_refusals.proofs.LineFormLaws.{none-begins}
use Rattle.theory_refusals.proofs.ReadResults.{Result, held, refused, exactly, unless-yes, unless_no, on, next-holds, next-fault}
use Rattle.theory_refusals.proofs.ReadResults.{next-next, next-same, result-next, result-map, result_as}
use Rattle.theory_refusals.proofs.CellForms.{reads-cell, clean_form, clean_back, ranged_form, ranged-back}

-- ---- the names line

abbrev pub names : List ℕ → Option Bool
names w = cond (same w (text "cell pins table area d0 d1 d2 d3")) (Some false) (cond (same w (text "cell pins table area d0 d1 d2 d3 l0 l1 l2 l3")) (Some true) None)

abbrev pub names_of : Line → Option Bool
names_of l = and_then (only (ended l) l.bytes) names

names_form : (w : List ℕ) (r : Bool) → names w ≡ Some r → Names w r
names_form w r e = go (same w (text "cell pins table area d0 d1 d2 d3")) (same w (text "cell pins table area d0 d1 d2 d3 l0 l1 l2 l3"))
    (λ t. same-eq w (text "cell pins table area d0 d1 d2 d3") t) (λ t. same-eq w (text "cell pins table area d0 d1 d2 d3 l0 l1 l2 l3") t) e
  where
    go : (x y : Bool) → (T x → w ≡ text "cell pins table area d0 d1 d2 d3") → (T y → w ≡ text "cell pins table area d0 d1 d2 d3 l0 l1 l2 l3") → cond x (Some false) (cond y (Some true) None) ≡ Some r → Names w r
    go true y u v f = subst (λ (z : List ℕ). Names z r) (sym (u tt)) (subst (Names (text "cell pins table area d0 d1 d2 d3")) (let q : false ≡ r = cc in q) shorter)
    go false true u v f = subst (λ (z : List ℕ). Names z r) (sym (v tt)) (subst (Names (text "cell pins table area d0 d1 d2 d3 l0 l1 l2 l3")) (let q : true ≡ r = cc in q) longer)
    go false false u v f = absurd (let q : false ≡ true = cc in false≢true q)

names-back : (w : List ℕ) (r : Bool) → Names w r → names w ≡ Some r
unfolding same text
names-back w r shorter = refl
names-back w r longer = refl

names-free : (s : ℕ) → s < 32 → (w : List ℕ) (r : Bool) → Names w r → Free s w
unfolding text all
names-free s h w r shorter = free-above s h (text "cell pins table area d0 d1 d2 d3") tt
names-free s h w r longer = free-above s h (text "cell pins table area d0 d1 d2 d3 l0 l1 l2 l3") tt

pub reads-names : Reads names_of NamesLine
reads-names = reads-line false names Names names_of (λ l. refl) names_form names-back names-free

names_tests : {w : List ℕ} {r : Bool} → Names w r
    → T (same w (text "cell pins table area d0 d1 d2 d3") || same w (text "cell pins table area d0 d1 d2 d3 l0 l1 l2 l3")) × (same w (text "cell pins table area d0 d1 d2 d3 l0 l1 l2 l3") ≡ r)
unfolding same text
names_tests shorter = (tt, refl)
names_tests longer = (tt, refl)

-- the names line passes the reader's test, and no other line does
pub names-read : (l : Line) (r : Bool) → names_of l ≡ Some r → T (ended l && (is_shorter l || is_longer l)) × (is_longer l ≡ r)
unfolding is_shorter is_longer
names-read l r e =
    let o = then_out (only (ended l) l.bytes) names r e in
    let p = only_out (ended l) l.bytes o.0 o.1 in
    let t = names_tests (names_form l.bytes r (ap names p.1 ∙ o.2)) in
    (yes_and (ended l) (is_shorter l || is_longer l) p.0 t.0, t.1)

names-passed : (l : Line) → T (ended l && (is_shorter l || is_longer l)) → (r : Bool) × (names_of l ≡ Some r)
unfolding is_shorter is_longer and_then only
names-passed l t =
    let p = and_yes (ended l) (is_shorter l || is_longer l) t in
    let q = either (same l.bytes (text "cell pins table area d0 d1 d2 d3")) (same l.bytes (text "cell pins table area d0 d1 d2 d3 l0 l1 l2 l3")) p.1 in
    (q.0, (by_bool (ended l) (λ e. rw e) (λ q. rw q (absurd (rw q at p.0)))) ∙ q.1)
  where
    either : (x y : Bool) → T (x || y) → (r : Bool) × (cond x (Some false) (cond y (Some true) None) ≡ Some r)
    either true y u = (false, refl)
    either false true u = (true, refl)
    either false false u = absurd u

-- ---- a name that is repeated

repeated_form : (c : Cell) (cs : List Cell) → T (any (λ (d : Cell). same (name_of c) (name_of d)) cs) → Repeated c cs
unfolding any
repeated_form c [] t = absurd t
repeated_form c (d ∷ cs) t = ⊎_elim (λ u. (d, Memᴰ-head refl, sym (same-eq (name_of c) (name_of d) u)))
    (λ q. let r = (repeated_form c cs) q in (r.0, Memᴰ-tail r.1, r.2))
    (or_yes (same (name_of c) (name_of d)) (any (λ (x : Cell). same (name_of c) (name_of x)) cs) t)

new_form : (c : Cell) (cs : List Cell) → T (not (any (λ (d : Cell). same (name_of c) (name_of d)) cs)) → ¬ Repeated c cs
new_form c cs t r =
    let e : same (name_of c) (name_of r.0) ≡ false = any-each (λ (d : Cell). same (name_of c) (name_of d)) cs (is_false (any (λ (d : Cell). same (name_of c) (name_of d)) cs) t) r.0 r.1 in
    false≢true (sym e ∙ ap (same (name_of c)) r.2 ∙ is_true (same (name_of c) (name_of c)) (same_refl (name_of c)))

-- the cells so far, the last first, are these
in_reverse : (cs : List Cell) (d : Cell) → Memᴰ d cs → Memᴰ d (reverse cs)
in_reverse (c ∷ cs) d (Memᴰ-head e) = subst (λ (xs : List Cell). Memᴰ d xs) (sym (reverse-cons c cs)) (Memᴰ-append_right (reverse cs) (Memᴰ-head e))
in_reverse (c ∷ cs) d (Memᴰ-tail m) = subst (λ (xs : List Cell). Memᴰ d xs) (sym (reverse-cons c cs)) (Memᴰ-append_left (c ∷ []) (in_reverse cs d m))
in_reverse [] d x' = elim x' [ ]

out_reverse : (cs : List Cell) (d : Cell) → Memᴰ d (reverse cs) → Memᴰ d cs
out_reverse [] d m = m
out_reverse (c ∷ cs) d m = ⊎_elim (λ a. Memᴰ-tail (out_reverse cs d a))
    (λ x. by_member x Memᴰ-head (λ n. absurd (Memᴰ-not-nil n))) (Memᴰ-append_cases (reverse cs) (rw (← reverse-cons c cs) m))

abbrev is_new : Cell → List Cell → Bool
is_new c before = not (any (λ (d : Cell). same (name_of c) (name_of d)) before)

new_is : (c : Cell) (cs : List Cell) → T (is_new c (reverse cs)) → ¬ Repeated c cs
new_is c cs t r = new_form c (reverse cs) t (r.0, in_reverse cs r.0 r.1, r.2)

old_is : (c : Cell) (cs : List Cell) → T (not (is_new c (reverse cs))) → Repeated c cs
old_is c cs t = let r = repeated_form c (reverse cs) (T_not-not (any (λ (d : Cell). same (name_of c) (name_of d)) (reverse cs)) t) in (r.0, out_reverse cs r.0 r.1, r.2)

is_new_lem : (c : Cell) (cs : List Cell) → (¬ Repeated c cs) → T (is_new c (reverse cs))
is_new_lem c cs n = on (is_new c (reverse cs)) (λ t. t) (λ t. absurd (n (old_is c cs t)))

-- ---- a cell line

abbrev later : Bool → ℕ → List Cell → List Line → Cell → Read (List Cell)
later ranged k before ls c = next (read_cells ranged (suc k) (c ∷ before) ls) (λ cs. holds (c ∷ cs))

abbrev validated : Bool → ℕ → List Cell → Line → List Line → Cell → Read (List Cell)
validated ranged k before l ls c =
    unless (is_new c before) 5 l.offset (unless (is_clean c) 6 l.offset (unless (no_lower c.mins c.delays) 27 l.offset (later ranged k before ls c)))

line-cell : (ranged : Bool) (k : ℕ) (before : List Cell) (l : Line) (ls : List Line) (c : Cell) → k < 32 → cell_of_line ranged l ≡ Some c
    → read_cells ranged k before (l ∷ ls) ≡ validated ranged k before l ls c
unfolding read_cells from? next
line-cell ranged k before l ls c h e = cc (unless-yes (ltb k 32) 3 l.offset _ (yes_ltb h))

line-none : (ranged : Bool) (k : ℕ) (before : List Cell) (l : Line) (ls : List Line) → k < 32 → cell_of_line ranged l ≡ None → read_cells ranged k before (l ∷ ls) ≡ fault 4 l.offset
unfolding read_cells from? next
line-none ranged k before l ls h e = cc (unless-yes (ltb k 32) 3 l.offset _ (yes_ltb h))

line-over : (ranged : Bool) (k : ℕ) (before : List Cell) (l : Line) (ls : List Line) → (¬ (k < 32)) → read_cells ranged k before (l ∷ ls) ≡ fault 3 l.offset
unfolding read_cells
line-over ranged k before l ls h = unless_no (ltb k 32) 3 l.offset _ (not_T (ltb k 32) (λ t. h (ltb_yes t)))

-- ---- the lines that are accepted

passes : (ranged : Bool) (k : ℕ) (before : List Cell) (l : Line) (ls : List Line) (c : Cell) → T (is_new c before) → T (is_clean c) → T (no_lower c.mins c.delays)
    → validated ranged k before l ls c ≡ later ranged k before ls c
passes ranged k before l ls c a b d = unless-yes (is_new c before) 5 l.offset _ a ∙ unless-yes (is_clean c) 6 l.offset _ b ∙ unless-yes (no_lower c.mins c.delays) 27 l.offset _ d

cells-run : (ranged : Bool) {s : List ℕ} {cs : List Cell} → CellsIn ranged s cs → (rest : List ℕ)
    → read_library (s ++ rest) ≡ next (read_cells ranged (length cs) (reverse cs) (lines_from (length s) [] rest)) (λ ds. holds (cs ++ ds))
unfolding read_library read_library_lines
cells-run ranged (no_cell {s} n) rest =
    let k = reads-names.back 0 s rest ranged n in
    let l = k.line in
    let is = names-read l ranged k.read in
    cc (
      k.lines,
      let q : 0 + length s ≡ length s = omega arith in q,
      unless-yes (ended l && (is_shorter l || is_longer l)) 2 0
          (read_cells (is_longer l) 0 [] (lines_from (length s) [] rest)) is.0,
      is.1,
      next-holds
          (read_cells ranged 0 [] (lines_from (length s) [] rest)),
    )
cells-run ranged (a_cell {s} {l} {cs} {c} before few line new clean range) rest =
    let k = (reads-cell ranged).back (length s) l rest c line in
    let ls = lines_from (length s + length l) [] rest in
    cc (
      append_assoc s l rest,
      cells-run ranged before (l ++ rest),
      k.lines,
      line-cell ranged (length cs) (reverse cs) k.line ls c few
          k.read,
      passes ranged (length cs) (reverse cs) k.line ls c (is_new_lem c cs new) (clean_back c clean)
          (ranged-back ranged line range),
      next-next (read_cells ranged (suc (length cs)) (c ∷ reverse cs) ls) (λ ds. c ∷ ds)
          (λ ds. cs ++ ds),
      next-same (read_cells ranged (suc (length cs)) (c ∷ reverse cs) ls) (λ ds. cs ++ (c ∷ ds))
          (λ ds. (cs ++ (c ∷ [])) ++ ds) (λ ds. sym (append_assoc cs (c ∷ []) ds)),
      let q : suc (length cs) ≡ length (cs ++ (c ∷ [])) = omega
          (arith, length-append cs (c ∷ [])) in q,
      reverse-append cs (c ∷ []),
      length-append s l,
    )

line-fault : (ranged : Bool) (cs : List Cell) (at : ℕ) (t : List ℕ) (l : Line) (ls : List Line) (n : ℕ) → lines_from at [] t ≡ l ∷ ls → CellFault ranged cs t n
    → read_cells ranged (length cs) (reverse cs) (l ∷ ls) ≡ fault n l.offset
line-fault ranged cs at t l ls n e (three over) = line-over ranged (length cs) (reverse cs) l ls over
line-fault ranged cs at t l ls n e (four few none?) = by_option (cell_of_line ranged l)
    (λ f. line-none ranged (length cs) (reverse cs) l ls few f)
    (λ c q. absurd (none? (c, found-begins (reads-cell ranged) ((reads-cell ranged).form at t l ls e c q))))
line-fault ranged cs at t l ls n e (five {c} few b r) =
    line-cell ranged (length cs) (reverse cs) l ls c few (begins-read (reads-cell ranged) at t l ls e c b) ∙ unless_no (is_new c (reverse cs)) 5 l.offset _ (
    on (is_new c (reverse cs)) (λ t. absurd (new_is c cs t r)) (λ t. t))
line-fault ranged cs at t l ls n e (six {c} few b r x) =
    line-cell ranged (length cs) (reverse cs) l ls c few (begins-read (reads-cell ranged) at t l ls e c b) ∙ unless-yes (is_new c (reverse cs)) 5 l.offset _ (is_new_lem c cs r)
    ∙ unless_no (is_clean c) 6 l.offset _ (not_T (is_clean c) (λ u. x (clean_form c u)))
line-fault ranged cs at t l ls n e (twenty_seven {c} few b r y x) =
    line-cell ranged (length cs) (reverse cs) l ls c few (begins-read (reads-cell ranged) at t l ls e c b) ∙ unless-yes (is_new c (reverse cs)) 5 l.offset _ (is_new_lem c cs r)
    ∙ unless-yes (is_clean c) 6 l.offset _ (clean_back c y) ∙ unless_no (no_lower c.mins c.delays) 27 l.offset _ (not_T (no_lower c.mins c.delays) (λ u. x (ranged_form c u)))

refusals-read : (t : List ℕ) (n k : ℕ) → LibraryFault t n k → read_library t ≡ fault n k
unfolding read_library read_library_lines
refusals-read t n k (two x) = by_list (lines_from 0 [] t) (λ e. cc) (λ l ls q. cc (unless_no (ended l && (is_shorter l || is_longer l)) 2 0
    (read_cells (is_longer l) 0 [] ls) (not_T (ended l && (is_shorter l || is_longer l))
    (λ u. let p = names-passed l u in x (p.0, found-begins reads-names (reads-names.form 0 t l ls q p.0 p.1))))))
refusals-read t n k (at_line {ranged} {s} {t = u} {cs} cells some? f) = cells-run ranged cells u ∙ by_list (lines_from (length s) [] u)
    (λ e. rw e (absurd (some? (lines_none (length s) u e)))) (λ l ls q. rw q
    (next-fault (read_cells ranged (length cs) (reverse cs) (l ∷ ls)) (λ ds. holds (cs ++ ds)) n (length s)
    (cc (line-fault ranged cs (length s) u l ls n q f, (first-split (length s) u l ls q).offset))))

-- ---- what comes of a text

cells-result : (ranged : Bool) (ls : List Line) (s rest : List ℕ) (cs : List Cell) → CellsIn ranged s cs → lines_from (length s) [] rest ≡ ls
    → Result (λ ds. CellsIn ranged (s ++ rest) (cs ++ ds)) (LibraryFault (s ++ rest)) (read_cells ranged (length cs) (reverse cs) ls)
unfolding read_cells lines_from
cells-result ranged [] s rest cs cells e =
    held (subst (λ (x : List ℕ). CellsIn ranged x (cs ++ [])) (sym (append-nil s) ∙ ap (λ (y : List ℕ). s ++ y) (sym (lines_none (length s) rest e))) (subst (CellsIn ranged s) (sym (append-nil cs)) cells))
cells-result ranged (l ∷ ls) s rest cs cells e =
    on (ltb (length cs) 32) (λ t. capacity (ltb_yes t) (cell_of_line ranged l) refl (cells-result ranged ls))
    (λ t. let n : ¬ (length cs < 32) = (λ h. let q : 32 ≤ length cs = ltb_no t in omega arith) in fails 3 (line-over ranged (length cs) (reverse cs) l ls n) (three n))
  where
    Here : Read (List Cell) → Type 0
    Here = Result (λ ds. CellsIn ranged (s ++ rest) (cs ++ ds)) (LibraryFault (s ++ rest))

    all : Read (List Cell)
    all = read_cells ranged (length cs) (reverse cs) (l ∷ ls)

    fails : (n : ℕ) → all ≡ fault n l.offset → CellFault ranged cs rest n → Here all
    fails n f x = result_as (fault n (length s)) all (cc (first-split (length s) rest l ls e).offset)
        (refused (at_line cells (λ z. nil≢cons (sym (ap (lines_from (length s) []) z ∙ refl) ∙ e)) x))

    Later : Type 0
    Later = (s' rest' : List ℕ) (cs' : List Cell) → CellsIn ranged s' cs' → lines_from (length s') [] rest' ≡ ls
        → Result (λ ds. CellsIn ranged (s' ++ rest') (cs' ++ ds)) (LibraryFault (s' ++ rest')) (read_cells ranged (length cs') (reverse cs') ls)

    capacity : length cs < 32 → (o : Option Cell) → cell_of_line ranged l ≡ o → Later → Here all
    capacity few None f ih = fails 4 (line-none ranged (length cs) (reverse cs) l ls few f) (four few (λ p. let z : None ≡ Some p.0 = sym f
        ∙ begins-read (reads-cell ranged) (length s) rest l ls e p.0 p.1 in let y : false ≡ true = cc in false≢true y))
    capacity few (Some c) f ih =
        let x = (reads-cell ranged).form (length s) rest l ls e c f in
        let b = found-begins (reads-cell ranged) x in
        let is = line-cell ranged (length cs) (reverse cs) l ls c few f in
        on (is_new c (reverse cs)) (λ t. on (is_clean c) (λ u. on (no_lower c.mins c.delays) (λ v.
        let text-is : (s ++ x.front) ++ x.behind ≡ s ++ rest = append_assoc s x.front x.behind ∙ ap (λ (y : List ℕ). s ++ y)
        (sym x.whole) in let r = ih (s ++ x.front) x.behind (cs ++ (c ∷ []))
        (a_cell cells few x.is (new_is c cs t) (clean_form c u) (ranged_form c v)) (cc (length-append s x.front, x.later)) in
        result_as (later ranged (length cs) (reverse cs) ls c) all
        (line-cell ranged (length cs) (reverse cs) l ls c few f ∙ passes ranged (length cs) (reverse cs) l ls c t u v) (result-next
        (read_cells ranged (suc (length cs)) (c ∷ reverse cs) ls) (λ ds. c ∷ ds)
        (λ ds h. rw (← text-is) (rw (← append_assoc cs (c ∷ []) ds) h)) (λ n k h. rw (← text-is) h) (rw (← ap₂
        (λ (n : ℕ) (xs : List Cell). read_cells ranged n xs ls)
        (let q : length (cs ++ (c ∷ [])) ≡ suc (length cs) = omega (arith, length-append cs (c ∷ [])) in q)
        (reverse-append cs (c ∷ []))) r))) (λ v. fails 27 (is ∙ unless-yes (is_new c (reverse cs)) 5 l.offset _ t
        ∙ unless-yes (is_clean c) 6 l.offset _ u ∙ unless_no (no_lower c.mins c.delays) 27 l.offset _ v) (twenty_seven few b
        (new_is c cs t) (clean_form c u) (λ h. lib.Dec.T_not (no_lower c.mins c.delays) v (ranged-back ranged x.is h))))) (λ u.
        fails 6 (is ∙ unless-yes (is_new c (reverse cs)) 5 l.offset _ t ∙ unless_no (is_clean c) 6 l.offset _ u)
        (six few b (new_is c cs t) (λ h. lib.Dec.T_not (is_clean c) u (clean_back c h)))))
        (λ t. fails 5 (is ∙ unless_no (is_new c (reverse cs)) 5 l.offset _ t) (five few b (old_is c cs t)))

result : (t : List ℕ) → Result (LibraryHolds t) (LibraryFault t) (read_library t)
unfolding read_library read_library_lines
result t = go (lines_from 0 [] t) refl
  where
    go : (ls : List Line) → lines_from 0 [] t ≡ ls → Result (LibraryHolds t) (LibraryFault t) (read_library_lines ls)
    go [] e = refused (two (λ p. none-begins reads-names 0 t e p.0 p.1))
    go (l ∷ ls) e = by_option (names_of l) (λ f. result_as (fault 2 0) (read_library_lines (l ∷ ls)) (unless_no
        (ended l && (is_shorter l || is_longer l)) 2 0 (read_cells (is_longer l) 0 [] ls) (not_T (ended l && (is_shorter l || is_longer l))
        (λ u. let p = names-passed l u in let z : None ≡ Some p.0 = sym f ∙ p.1 in let y : false ≡ true = cc in false≢true y))) (refused
        (two (λ p. let z : None ≡ Some p.0 = sym f
        ∙ begins-read reads-names 0 t l ls e p.0 p.1 in let y : false ≡ true = cc in false≢true y)))) (λ r q.
        let x = reads-names.form 0 t l ls e r q in let is = names-read l r q in result_as (read_cells r 0 [] ls) (read_library_lines (l ∷ ls))
        (cc (unless-yes (ended l && (is_shorter l || is_longer l)) 2 0 (read_cells (is_longer l) 0 [] ls) is.0, is.1)) (result-map
        (read_cells r 0 [] ls) (λ ds h. (r, rw x.whole h)) (λ n k h. rw x.whole h) (cells-result r ls x.front x.behind []
        (no_cell x.is) (cc (let q : length x.front ≡ 0 + length x.front = omega arith in q, x.later)))))

-- the library, whole
pub library_exactly : (t : List ℕ) → Exactly (LibraryHolds t) (LibraryFault t) (read_library t)
library_exactly t = exactly (read_library t) (result t) (unfold read_cells lines_from next in λ cs h. ap read_library (sym (append-nil t))
    ∙ cells-run h.0 h.1 [] ∙ ap holds (append-nil cs)) (refusals-read t)
