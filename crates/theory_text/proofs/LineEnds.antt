-- Texts alike but for line ends are read alike, and so give the same:
--     lines-behind   the lines behind the first are those of the text from where the next line begins
--     same-library   alike libraries hold the same cells, or have the same fault at the same line
--     same-header    so with the headers of alike graph texts in the ASCII form
--     same_graph     and with their graphs
--     same-arrivals  so with alike arrivals' texts
--     same-texts     so with the texts of two calls
--     demand_ends    which is what is promised of them
use Rattle.base.specs.{ℕ, suc, ◌+◌, ◌*◌, ◌%◌, arith, ◌≡◌, refl, sym, ◌∙◌, ap, subst, inl, inr, Bool, true, false, not, cond, true≢false}
use Rattle.base.specs.{◌&&◌, ◌||◌, Option, None, Some, List, [], ◌∷◌, map, reverse, cons≢nil, nil≢cons, head-eq_of_cons-eq}
use Rattle.base.specs.{tail-eq_of_cons-eq, eqb, ltb, leb, length, get_or, drop, length-reverse, le-leb}
use Rattle.model.specs.{all, any, elem, keep, same, and_then, only, Line, ended, next_of, closing, lines_from, shown, fields, numbers, text}
use Rattle.model.specs.{Read, holds, fault, next, unless, from?, need, name_of, cell_of_fields, cell_of_line, is_clean, no_lower, is_shorter}
use Rattle.model.specs.{is_longer, read_cells, read_library_lines, read_library, ranged_lines, is_ranged, cells_for, And, var_of, closed}
use Rattle.model.specs.{header_of_numbers, header_of, in_limits, in_sequence, read_header, Kind, an_input, an_output, an_and, how_many, defines, expected}
use Rattle.model.specs.{Item, item_literals, read_expected, read_items, uses, defined_by, check_uses, same_kind, is_kind, graph_of, read_graph, InputArrival}
use Rattle.model.specs.{input_arrival_numbers, read_input_arrivals, read_input_arrival_lines, read_arrivals, timed_by, Outcome, refused, mapped, Call, Design, short}
use Rattle.model.specs.{read_listed, read_texts, map_design, map_texts, returned_by, Alike, first_word, is_binary_text, AlikeTexts, line_start}
use Rattle.model.specs.{SamePlace, of_library, of_arrivals, at_fault, SameButEnds, EitherEnd}
use Rattle.model.specs.Graph.{Graph}
use Rattle.model.specs.declared.Cell.{Cell}
use Rattle.model.specs.declared.Header.{Header}
use Rattle.model.specs.declared.Figures.{Figures}
use Rattle.theory_graph.proofs.{by_bool, by_option, by_read}
use Rattle.theory_text.proofs.ReadSteps.{fault_never}
use Rattle.theory_text.proofs.LineLaws.{lines_step, closing-next}
use Rattle.theory_text.proofs.ReadFaults.{Faults, in_holds, in_fault, header_faults, graph_faults}

-- ---- lines

-- the lines behind the first, by the bytes that are left
record Behind (at : ℕ) (held s : List ℕ) (l : Line) (ls : List Line) : Type 0 where
  long : ℕ
  is_next : next_of l ≡ at + length held + long
  is_rest : lines_from (next_of l) [] (drop long s) ≡ ls

pub no_lines_lem : (at : ℕ) (l : Line) (ls : List Line) → lines_from at [] [] ≡ l ∷ ls → ⊥
unfolding lines_from
no_lines_lem at l ls e = nil≢cons e

last_line : (at h : ℕ) (hs : List ℕ) (l : Line) (ls : List Line) → lines_from at (h ∷ hs) [] ≡ l ∷ ls → Behind at (h ∷ hs) [] l ls
unfolding lines_from
last_line at h hs l ls e =
    let r : length (reverse (h ∷ hs)) ≡ suc (length hs) = length-reverse (h ∷ hs) in
    record { long = 0; is_next = omega (arith, (ap next_of (head-eq_of_cons-eq e)), r); is_rest = tail-eq_of_cons-eq e }

behind : (at : ℕ) (held s : List ℕ) (l : Line) (ls : List Line) → lines_from at held s ≡ l ∷ ls → Behind at held s l ls
behind at [] [] l ls e = absurd (no_lines_lem at l ls e)
behind at (h ∷ hs) [] l ls e = last_line at h hs l ls e
behind at held (b ∷ s) l ls e = go (eqb b 10) (sym (lines_step at held b s) ∙ e) (λ f. behind at (b ∷ held) s l ls f)
  where
    go : (t : Bool) → cond t (closing at held ∷ lines_from (at + suc (length held)) [] s) (lines_from at (b ∷ held) s) ≡ l ∷ ls
        → (lines_from at (b ∷ held) s ≡ l ∷ ls → Behind at (b ∷ held) s l ls) → Behind at held (b ∷ s) l ls
    go true f more =
        let n : next_of l ≡ at + suc (length held) = ap next_of (sym (head-eq_of_cons-eq f)) ∙ closing-next at held in
        record { long = 1; is_next = omega (arith, n); is_rest = ap (λ (k : ℕ). lines_from k [] s) n ∙ tail-eq_of_cons-eq f }
    go false f more = record { long = suc (more f).long; is_next = omega (arith, (more f).is_next); is_rest = (more f).is_rest }

lines-behind : (s : List ℕ) (l : Line) (ls : List Line) → lines_from 0 [] s ≡ l ∷ ls → lines_from (next_of l) [] (drop (next_of l) s) ≡ ls
lines-behind s l ls e =
    let r = behind 0 [] s l ls e in
    let n : next_of l ≡ r.long = omega (arith, r.is_next) in
    ap (λ (k : ℕ). lines_from (next_of l) [] (drop k s)) n ∙ r.is_rest

abbrev starts : List Line → List ℕ
starts ls = map (λ (l : Line). l.offset) ls

closing-start : (at : ℕ) (held : List ℕ) → (closing at held).offset ≡ at
unfolding closing
closing-start at [] = refl
closing-start at (h ∷ hs) = by_bool (eqb h 13) (λ e. cc) (λ q. cc)

-- the first line begins where the text does, or the text ends there
first-start : (at end : ℕ) (held s : List ℕ) → (held ≡ [] → s ≡ [] → end ≡ at) → get_or (starts (lines_from at held s)) 0 end ≡ at
unfolding lines_from
first-start at end [] [] e = e refl refl
first-start at end (h ∷ hs) [] e = refl
first-start at end held (b ∷ s) e = ap (λ (ls : List Line). get_or (starts ls) 0 end) (lines_step at held b s)
    ∙ by_bool (eqb b 10) (λ q. rw q (closing-start at held)) (λ p. rw p (first-start at end (b ∷ held) s (λ x. absurd (cons≢nil x))))

start-zero : (s : List ℕ) → line_start s 0 ≡ 0
unfolding line_start
start-zero s = first-start 0 (length s) [] s (λ x e. ap length e)

-- lines of two texts that are alike, and at places that go together; so do the places where the texts end
data Paired (At : ℕ → ℕ → Type 0) (end bound : ℕ) : List Line → List Line → Type 0 where
  no_lines : At end bound → Paired At end bound [] []
  a_line : {l m : Line} {ls ms : List Line} → shown l ≡ shown m → At l.offset m.offset → Paired At end bound ls ms → Paired At end bound (l ∷ ls) (m ∷ ms)

pair-from : (s t : List ℕ) (n : ℕ) (ls ms : List Line) → map shown ls ≡ map shown ms
    → ((i : ℕ) → get_or (starts ls) i (length s) ≡ line_start s (n + i)) → ((i : ℕ) → get_or (starts ms) i (length t) ≡ line_start t (n + i))
    → Paired (SamePlace s t) (length s) (length t) ls ms
pair-from s t n [] [] e f g = no_lines (inl (n + 0, sym (f 0), sym (g 0)))
pair-from s t n [] (m ∷ ms) e f g = absurd (nil≢cons e)
pair-from s t n (l ∷ ls) [] e f g = absurd (cons≢nil e)
pair-from s t n (l ∷ ls) (m ∷ ms) e f g =
    let on : (i : ℕ) → n + suc i ≡ suc n + i = λ i. omega arith in
    a_line (head-eq_of_cons-eq e) (inl (n + 0, sym (f 0), sym (g 0)))
    (pair-from s t (suc n) ls ms (tail-eq_of_cons-eq e) (λ i. f (suc i) ∙ ap (line_start s) (on i)) (λ i. g (suc i) ∙ ap (line_start t) (on i)))

pair-lines : (s t : List ℕ) → Alike s t → Paired (SamePlace s t) (length s) (length t) (lines_from 0 [] s) (lines_from 0 [] t)
unfolding line_start
pair-lines s t e =
    let none : (i : ℕ) → i ≡ 0 + i = λ i. omega arith in
    pair-from s t 0 (lines_from 0 [] s) (lines_from 0 [] t) e (λ i. ap (line_start s) (none i)) (λ i. ap (line_start t) (none i))

-- ---- readings that fare alike

-- both hold something and these go together, or both have a fault, of the same number and at places that go together
data Fares {A B : Type 0} (R : A → B → Type 0) (P : ℕ → ℕ → ℕ → Type 0) : Read A → Read B → Type 0 where
  both_hold : {a : A} {b : B} → R a b → Fares R P (holds a) (holds b)
  both_fault : {n k j : ℕ} → P n k j → Fares R P (fault n k) (fault n j)

module _ (P : ℕ → ℕ → ℕ → Type 0) where
  fares_unless : {A B : Type 0} (R : A → B → Type 0) (t u : Bool) (n k j : ℕ) (r : Read A) (q : Read B) → t ≡ u → P n k j → Fares R P r q
      → Fares R P (unless t n k r) (unless u n j q)
  unfolding unless
  fares_unless R t u n k j r q e p f = rw (← e) (by_bool t (λ z. rw z f) (λ w. rw w (both_fault p)))

  fares_from : {A : Type 0} (o p : Option A) (n k j : ℕ) → o ≡ p → P n k j → Fares ◌≡◌ P (from? o n k) (from? p n j)
  unfolding from?
  fares_from {A} o p n k j e q = rw (← e) (by_option o (λ r. rw r (both_fault q)) (λ a z. rw z (both_hold refl)))

  fares_next : {A B C D : Type 0} (R : A → B → Type 0) (S : C → D → Type 0) (r : Read A) (q : Read B) (f : A → Read C) (g : B → Read D)
      → Fares R P r q → ((a : A) (b : B) → R a b → Fares S P (f a) (g b)) → Fares S P (next r f) (next q g)
  unfolding next
  fares_next R S (holds a) (holds b) f g (both_hold h) k = k a b h
  fares_next R S (fault n k₁) (fault m j) f g (both_fault p) k = both_fault p
  fares_next {A = A} {B = B} {C = C} {D = D} R S (holds a) (fault m j) f g x4 k = elim x4 [ ]
  fares_next {A = A} {B = B} {C = C} {D = D} R S (fault n k₁) (holds b) f g x4 k = elim x4 [ ]

  -- one reading fares alike with itself
  fares_self : {A : Type 0} (r : Read A) → Faults (λ n k. P n k k) r → Fares ◌≡◌ P r r
  fares_self (holds a) f = both_hold refl
  fares_self (fault n k) f = both_fault (f.has n k refl)

  fares_holds : {A : Type 0} (r q : Read A) → Fares ◌≡◌ P r q → (a : A) → r ≡ holds a → q ≡ holds a
  fares_holds (holds x) (holds y) (both_hold h) a e = ap holds (sym h) ∙ e
  fares_holds (fault n k) (fault m j) (both_fault p) a e = absurd (fault_never e)
  fares_holds {A = A} (holds x) (fault m j) x5 a e = elim x5 [ ]
  fares_holds {A = A} (fault n k) (holds y) x4 a e = elim x4 [ ]

  fares_fault : {A : Type 0} (r q : Read A) → Fares ◌≡◌ P r q → (n k : ℕ) → r ≡ fault n k → (j : ℕ) × (q ≡ fault n j) × P n k j
  fares_fault (holds x) (holds y) (both_hold h) n k e = (in_holds (λ m i. (j : ℕ) × (holds y ≡ fault m j) × P m i j) x).has n k e
  fares_fault {A} (fault m i) (fault m₂ j) (both_fault p) n k e =
      (in_fault {A = A} (λ m₁ i₁. (j₁ : ℕ) × (◌≡◌ {A = Read A} (fault m j) (fault m₁ j₁)) × P m₁ i₁ j₁) m i (j, refl, p)).has n k e
  fares_fault {A = A} (holds x) (fault m₂ j) x5 n k e = elim x5 [ ]
  fares_fault {A = A} (fault m i) (holds y) x4 n k e = elim x4 [ ]

-- ---- the library

-- a line's cell, by what is shown of the line
cell-shown : (ranged : Bool) (l m : Line) → shown l ≡ shown m → cell_of_line ranged l ≡ cell_of_line ranged m
unfolding cell_of_line shown
cell-shown ranged l m e = ap (λ (p : List ℕ × Bool). and_then (only p.1 (fields p.0)) (cell_of_fields ranged)) e

-- the names line, by what is shown of it
longer-shown : (l m : Line) → shown l ≡ shown m → is_longer l ≡ is_longer m
unfolding is_longer shown
longer-shown l m e = ap (λ (p : List ℕ × Bool). same p.0 (text "cell pins table area d0 d1 d2 d3 l0 l1 l2 l3")) e

-- places of lines are places of refusals 2 to 6 and 27
module _ (At : ℕ → ℕ → Type 0) (P : ℕ → ℕ → ℕ → Type 0) (put : (n : ℕ) → of_library n ≡ true → (k j : ℕ) → At k j → P n k j) where
  same-cells : (ranged : Bool) (end bound k : ℕ) (before : List Cell) (ls ms : List Line) → Paired At end bound ls ms
      → Fares ◌≡◌ P (read_cells ranged k before ls) (read_cells ranged k before ms)
  unfolding read_cells
  same-cells ranged end bound k before [] [] (no_lines a) = both_hold refl
  same-cells ranged end bound k before (l ∷ ls) (m ∷ ms) (a_line e a more) =
      fares_unless P ◌≡◌ (ltb k 32) (ltb k 32) 3 l.offset m.offset _ _ refl (put 3 refl l.offset m.offset a)
      (fares_next P ◌≡◌ ◌≡◌ (from? (cell_of_line ranged l) 4 l.offset) (from? (cell_of_line ranged m) 4 m.offset) (read ls l.offset) (read ms m.offset)
      (fares_from P (cell_of_line ranged l) (cell_of_line ranged m) 4 l.offset m.offset (cell-shown ranged l m e) (put 4 refl l.offset m.offset a))
      (λ c d q. subst (λ (x : Cell). Fares ◌≡◌ P (read ls l.offset c) (read ms m.offset x)) q (of c (same-cells ranged end bound (suc k) (c ∷ before) ls ms more))))
    where
      read : List Line → ℕ → Cell → Read (List Cell)
      read xs at c = unless (not (any (λ (b : Cell). same (name_of c) (name_of b)) before)) 5 at (unless (is_clean c) 6 at
          (unless (no_lower c.mins c.delays) 27 at (next (read_cells ranged (suc k) (c ∷ before) xs) (λ cs. holds (c ∷ cs)))))

      of : (c : Cell) → Fares ◌≡◌ P (read_cells ranged (suc k) (c ∷ before) ls) (read_cells ranged (suc k) (c ∷ before) ms) → Fares ◌≡◌ P (read ls l.offset c) (read ms m.offset c)
      of c f =
          fares_unless P ◌≡◌ (not (any (λ (b : Cell). same (name_of c) (name_of b)) before)) (not (any (λ (b : Cell). same (name_of c) (name_of b)) before)) 5 l.offset m.offset _ _ refl
          (put 5 refl l.offset m.offset a)
          (fares_unless P ◌≡◌ (is_clean c) (is_clean c) 6 l.offset m.offset _ _ refl (put 6 refl l.offset m.offset a)
          (fares_unless P ◌≡◌ (no_lower c.mins c.delays) (no_lower c.mins c.delays) 27 l.offset m.offset _ _ refl (put 27 refl l.offset m.offset a)
          (fares_next P ◌≡◌ ◌≡◌ (read_cells ranged (suc k) (c ∷ before) ls) (read_cells ranged (suc k) (c ∷ before) ms) (λ cs. holds (c ∷ cs)) (λ cs. holds (c ∷ cs)) f
          (λ cs ds r. both_hold (ap (λ (xs : List Cell). c ∷ xs) r)))))
  same-cells ranged end bound k before [] (m ∷ ms) x'' = elim x'' [ ]
  same-cells ranged end bound k before (l ∷ ls) [] x3 = elim x3 [ ]

  same_lines : At 0 0 → (end bound : ℕ) (ls ms : List Line) → Paired At end bound ls ms → Fares ◌≡◌ P (read_library_lines ls) (read_library_lines ms)
  unfolding read_library_lines shown
  same_lines z end bound [] [] (no_lines a) = both_fault (put 2 refl 0 0 z)
  same_lines z end bound (l ∷ ls) (m ∷ ms) (a_line e a more) = fares_unless P ◌≡◌ (ended l && (is_shorter l || is_longer l))
      (ended m && (is_shorter m || is_longer m)) 2 0 0 _ _ (unfold is_shorter is_longer in ap (λ (p : List ℕ × Bool). p.1 &&
      (same p.0 (text "cell pins table area d0 d1 d2 d3") || same p.0 (text "cell pins table area d0 d1 d2 d3 l0 l1 l2 l3"))) e)
      (put 2 refl 0 0 z) (rw (← longer-shown l m e) (same-cells (is_longer l) end bound 0 [] ls ms more))
  same_lines z end bound [] (m ∷ ms) x'' = elim x'' [ ]
  same_lines z end bound (l ∷ ls) [] x3 = elim x3 [ ]

-- whether the delays are ranges, by what is shown of the lines
same-ranged : (s t : List ℕ) → Alike s t → is_ranged s ≡ is_ranged t
unfolding is_ranged ranged_lines is_longer shown
same-ranged s t e = by_shown (lines_from 0 [] s) ∙ ap first_longer e ∙ sym (by_shown (lines_from 0 [] t))
  where
    first_longer : List (List ℕ × Bool) → Bool
    first_longer [] = false
    first_longer (p ∷ ps) = same p.0 (text "cell pins table area d0 d1 d2 d3 l0 l1 l2 l3")

    by_shown : (ls : List Line) → ranged_lines ls ≡ first_longer (map shown ls)
    by_shown [] = refl
    by_shown (l ∷ ls) = refl

-- and 30 hangs on the cells
same-listed : (paired : Bool) (s t : List ℕ) (P : ℕ → ℕ → ℕ → Type 0) → ((n : ℕ) → of_library n ≡ true → (k j : ℕ) → SamePlace s t k j → P n k j) → Alike s t
    → Fares ◌≡◌ P (read_listed paired s) (read_listed paired t)
unfolding read_listed
same-listed paired s t P put e =
    let validate : List Cell → Read (List Cell) = λ cs. unless (leb (length (cells_for paired cs)) 256) 30 0 (holds cs) in
    fares_next P ◌≡◌ ◌≡◌ (read_library s) (read_library t) validate validate (unfold read_library in same_lines (SamePlace s t) P put
    (inl (0, start-zero s, start-zero t)) (length s) (length t) (lines_from 0 [] s) (lines_from 0 [] t) (pair-lines s t e))
    (λ cs ds q. subst (λ (x : List Cell). Fares ◌≡◌ P (validate cs) (validate x)) q
    (fares_unless P ◌≡◌ (leb (length (cells_for paired cs)) 256) (leb (length (cells_for paired cs)) 256) 30 0 0 (holds cs) (holds cs) refl (put 30 refl 0 0 (inl (0, start-zero s, start-zero t))) (both_hold refl)))

-- ---- the expected lines

-- the same lines but for their places
data SameItems (At : ℕ → ℕ → Type 0) : List Item → List Item → Type 0 where
  nothing : SameItems At [] []
  another : (k : Kind) (o p : ℕ) (ns : List ℕ) {is js : List Item} → At o p → SameItems At is js
      → SameItems At (record { kind = k; offset = o; literals = ns } ∷ is) (record { kind = k; offset = p; literals = ns } ∷ js)

same-defined : (At : ℕ → ℕ → Type 0) {is js : List Item} → SameItems At is js → defined_by is ≡ defined_by js
unfolding defined_by
same-defined At nothing = refl
same-defined At (another k o p ns a r) = ap (λ (xs : List ℕ). cond (defines k) (var_of (get_or ns 0 0) ∷ xs) xs) (same-defined At r)

-- what does not look at the places is the same of each kind
same_kept : {A : Type 0} (At : ℕ → ℕ → Type 0) (f : Kind → List ℕ → A) (j : Kind) {is js : List Item} → SameItems At is js
    → map (λ (i : Item). f i.kind i.literals) (keep (is_kind j) is) ≡ map (λ (i : Item). f i.kind i.literals) (keep (is_kind j) js)
unfolding keep is_kind
same_kept At f j nothing = refl
same_kept {A} At f j (another k o p ns {is} {js} a r) = by_bool (same_kind j k) (λ e. cc (same_kept At f j r)) (λ q. cc (same_kept At f j r))

same-graphs : (At : ℕ → ℕ → Type 0) (size : ℕ) {is js : List Item} → SameItems At is js → graph_of size is ≡ graph_of size js
unfolding graph_of
same-graphs At size r =
    let c = same_kept {A = And} At (λ k ns. record { var = var_of (get_or ns 0 0); left = get_or ns 1 0; right = get_or ns 2 0 }) an_and r in
    rw ((same_kept At (λ k ns. var_of (get_or ns 0 0)) an_input r), (same_kept At (λ k ns. get_or ns 0 0) an_output r), c)

-- places of lines are places of the refusals from 7 on
module _ (At : ℕ → ℕ → Type 0) (P : ℕ → ℕ → ℕ → Type 0) (put : (n : ℕ) → (of_library n || of_arrivals n) ≡ false → (k j : ℕ) → At k j → P n k j) where
  same-expected : (end bound size : ℕ) (before : List ℕ) (ks : List Kind) (ls ms : List Line) → Paired At end bound ls ms
      → Fares (SameItems At) P (read_expected (closed false) end size before ks ls) (read_expected (closed false) bound size before ks ms)
  unfolding read_expected
  same-expected end bound size before [] ls ms e = both_hold nothing
  same-expected end bound size before (k ∷ ks) [] [] (no_lines a) = both_fault (put 11 refl end bound a)
  same-expected end bound size before (k ∷ ks) (l ∷ ls) (m ∷ ms) (a_line e a more) = fares_next P ◌≡◌ (SameItems At)
      (from? (item_literals (closed false) k l) 11 l.offset) (from? (item_literals (closed false) k m) 11 m.offset)
      (after end ls l.offset) (after bound ms m.offset) (fares_from P (item_literals (closed false) k l)
      (item_literals (closed false) k m) 11 l.offset m.offset (unfold item_literals shown in ap
      (λ (p : List ℕ × Bool). and_then (only (p.1 && eqb (length (fields p.0)) (how_many k)) (fields p.0)) numbers) e)
      (put 11 refl l.offset m.offset a)) (λ ns ms₁ q. rw (← q) (of ns (same-expected end bound size (known ns) ks ls ms more)))
    where
      known : List ℕ → List ℕ
      known ns = cond (defines k) (var_of (get_or ns 0 0) ∷ before) before

      in_range : List ℕ → Bool
      in_range ns = all (λ (n : ℕ). leb n (2 * size + 1)) ns && (not (defines k) || (eqb (get_or ns 0 0 % 2) 0 && not (eqb (get_or ns 0 0) 0)))

      is_new : List ℕ → Bool
      is_new ns = not (defines k && elem (var_of (get_or ns 0 0)) before)

      after : ℕ → List Line → ℕ → List ℕ → Read (List Item)
      after limit rest at ns =
          unless (in_range ns) 12 at (unless (is_new ns) 13 at (next (read_expected (closed false) limit size (known ns) ks rest)
          (λ is. holds (record { kind = k; offset = at; literals = ns } ∷ is))))

      of : (ns : List ℕ) → Fares (SameItems At) P (read_expected (closed false) end size (known ns) ks ls) (read_expected (closed false) bound size (known ns) ks ms)
          → Fares (SameItems At) P (after end ls l.offset ns) (after bound ms m.offset ns)
      of ns f =
          fares_unless P (SameItems At) (in_range ns) (in_range ns) 12 l.offset m.offset _ _ refl (put 12 refl l.offset m.offset a)
          (fares_unless P (SameItems At) (is_new ns) (is_new ns) 13 l.offset m.offset _ _ refl (put 13 refl l.offset m.offset a)
          (fares_next P (SameItems At) (SameItems At) (read_expected (closed false) end size (known ns) ks ls) (read_expected (closed false) bound size (known ns) ks ms) _ _ f
          (λ is js r. both_hold (another k l.offset m.offset ns a r))))
  same-expected end bound size before (k ∷ ks) [] (m ∷ ms) e = elim e [ ]
  same-expected end bound size before (k ∷ ks) (l ∷ ls) [] e = elim e [ ]

  same-uses : (known : List ℕ) {is js : List Item} → SameItems At is js → Fares (SameItems At) P (check_uses known is) (check_uses known js)
  unfolding check_uses uses
  same-uses known nothing = both_hold nothing
  same-uses known (another k o p ns {is} {js} a r) =
      fares_unless P (SameItems At) (all (λ (l : ℕ). elem (var_of l) (0 ∷ known)) (cond (defines k) (drop 1 ns) ns)) (all (λ (l : ℕ). elem (var_of l) (0 ∷ known)) (cond (defines k) (drop 1 ns) ns)) 14 o p _ _ refl
      (put 14 refl o p a)
      (fares_next P (SameItems At) (SameItems At) (check_uses known is) (check_uses known js) _ _ (same-uses known r) (λ xs ys q. both_hold (another k o p ns a q)))

  -- the graph of items that are the same
  then_graph : (size : ℕ) (is js : List Item) → SameItems At is js
      → Fares ◌≡◌ P (next (check_uses (defined_by is) is) (λ xs. holds (graph_of size xs))) (next (check_uses (defined_by js) js) (λ xs. holds (graph_of size xs)))
  then_graph size is js q = rw (← same-defined At q) (fares_next P (SameItems At) ◌≡◌ (check_uses (defined_by is) is)
      (check_uses (defined_by is) js) (λ xs. holds (graph_of size xs)) (λ xs. holds (graph_of size xs)) (same-uses (defined_by is) q)
      (λ xs ys p. both_hold (same-graphs At size p)))

-- ---- the header

-- two headers of the same numbers in the ASCII form, and the lines behind them
data Headers (At : ℕ → ℕ → Type 0) (s t : List ℕ) : Header → Header → Type 0 where
  headers : (n q : ℕ) (ns : List ℕ) → Paired At (length s) (length t) (lines_from n [] (drop n s)) (lines_from q [] (drop q t))
      → Headers At s t (header_of_numbers false n ns) (header_of_numbers false q ns)

-- the header of the ASCII form by what is shown of the first line, and where the next begins
header_by : List ℕ × Bool → ℕ → Option Header
header_by p n =
    and_then (only (p.1 && (eqb (length (fields p.0)) 6 && same (get_or (fields p.0) 0 []) (text "aag"))) (drop 1 (fields p.0))) (λ vs.
    and_then (numbers vs) (λ ns. Some (header_of_numbers false n ns)))

header_by_lem : (l : Line) (ls : List Line) → same (first_word (l ∷ ls)) (text "aig") ≡ false → header_of (l ∷ ls) ≡ header_by (shown l) (next_of l)
unfolding header_of header_by shown first_word
header_by_lem l ls e = ap (λ (b : Bool). and_then (only
    (closed b l && (eqb (length (fields l.bytes)) 6 && (b || same (get_or (fields l.bytes) 0 []) (text "aag"))))
    (drop 1 (fields l.bytes))) (λ vs. and_then (numbers vs) (λ ns. Some (header_of_numbers b (next_of l) ns)))) e

module _ (At : ℕ → ℕ → Type 0) (P : ℕ → ℕ → ℕ → Type 0) (put : (n : ℕ) → (of_library n || of_arrivals n) ≡ false → (k j : ℕ) → At k j → P n k j) (s t : List ℕ) (z : At 0 0) where
  same_first : (p : List ℕ × Bool) (n q : ℕ) → Paired At (length s) (length t) (lines_from n [] (drop n s)) (lines_from q [] (drop q t))
      → Fares (Headers At s t) P (from? (header_by p n) 7 0) (from? (header_by p q) 7 0)
  unfolding header_by and_then from?
  same_first p n q b = by_option
      (only (p.1 && (eqb (length (fields p.0)) 6 && same (get_or (fields p.0) 0 []) (text "aag"))) (drop 1 (fields p.0)))
      (λ e. rw e (both_fault (put 7 refl 0 0 z))) (λ vs r. rw r (of (numbers vs)))
    where
      made : ℕ → Option (List ℕ) → Option Header
      made i o = and_then o (λ ns. Some (header_of_numbers false i ns))

      of : (o : Option (List ℕ)) → Fares (Headers At s t) P (from? (made n o) 7 0) (from? (made q o) 7 0)
      of None = both_fault (put 7 refl 0 0 z)
      of (Some ns) = both_hold (headers n q ns b)

  same_tests : (h k : Header) → Headers At s t h k
      → Fares (Headers At s t) P (unless (eqb h.latches 0) 8 0 (unless (in_limits h) 9 0 (unless (in_sequence h) 19 0 (holds h))))
      (unless (eqb k.latches 0) 8 0 (unless (in_limits k) 9 0 (unless (in_sequence k) 19 0 (holds k))))
  unfolding header_of_numbers in_limits in_sequence
  same_tests h k r = fares_unless P (Headers At s t) (eqb h.latches 0) (eqb k.latches 0) 8 0 0 _ _ (latches r) (put 8 refl 0 0 z)
      (fares_unless P (Headers At s t) (in_limits h) (in_limits k) 9 0 0 _ _ (limits r) (put 9 refl 0 0 z)
      (fares_unless P (Headers At s t) (in_sequence h) (in_sequence k) 19 0 0 _ _ (sequence r) (put 19 refl 0 0 z) (both_hold r)))
    where
      latches : {h₁ k₁ : Header} → Headers At s t h₁ k₁ → eqb h₁.latches 0 ≡ eqb k₁.latches 0
      latches (headers n q ns b) = refl

      limits : {h₁ k₁ : Header} → Headers At s t h₁ k₁ → in_limits h₁ ≡ in_limits k₁
      limits (headers n q ns b) = refl

      sequence : {h₁ k₁ : Header} → Headers At s t h₁ k₁ → in_sequence h₁ ≡ in_sequence k₁
      sequence (headers n q ns b) = refl

  same-header : Paired At (length s) (length t) (lines_from 0 [] s) (lines_from 0 [] t) → is_binary_text s ≡ false → Fares (Headers At s t) P (read_header s) (read_header t)
  unfolding read_header is_binary_text
  same-header b a = fares_next P (Headers At s t) (Headers At s t) (from? (header_of (lines_from 0 [] s)) 7 0)
      (from? (header_of (lines_from 0 [] t)) 7 0) _ _ (go (lines_from 0 [] s) refl (lines_from 0 [] t) refl b a) same_tests
    where
      nowhere : Fares (Headers At s t) P (from? (header_of []) 7 0) (from? (header_of []) 7 0)
      nowhere = unfold header_of from? in both_fault (put 7 refl 0 0 z)

      word : (l m : Line) (ls ms : List Line) → shown l ≡ shown m → first_word (l ∷ ls) ≡ first_word (m ∷ ms)
      word l m ls ms e = unfold first_word shown in ap (λ (p : List ℕ × Bool). get_or (fields p.0) 0 []) e

      go : (ls : List Line) → lines_from 0 [] s ≡ ls → (ms : List Line) → lines_from 0 [] t ≡ ms → Paired At (length s) (length t) ls ms
          → same (first_word ls) (text "aig") ≡ false → Fares (Headers At s t) P (from? (header_of ls) 7 0) (from? (header_of ms) 7 0)
      go [] x [] y (no_lines u) f = nowhere
      go (l ∷ ls) x (m ∷ ms) y (a_line e u more) f =
          rw (header_by_lem l ls f) (rw (header_by_lem m ms (ap (λ (w : List ℕ). same w (text "aig")) (sym (word l m ls ms e)) ∙ f)
          ∙ ap (λ (p : List ℕ × Bool). header_by p (next_of m)) (sym e))
          (same_first (shown l) (next_of l) (next_of m) (rw (lines-behind s l ls x) (rw (lines-behind t m ms y) more))))
      go [] x (m ∷ ms) y x8 f = elim x8 [ ]
      go (l ∷ ls) x [] y x7 f = elim x7 [ ]

  -- ---- the graph
  same_graph : (h k : Header) → Headers At s t h k → Fares ◌≡◌ P (read_graph s h) (read_graph t k)
  same_graph h k r = of r
    where
      size : (n q : ℕ) (ns : List ℕ) → (header_of_numbers false n ns).size ≡ (header_of_numbers false q ns).size
      size n q ns = unfold header_of_numbers in refl

      of : {h₁ k₁ : Header} → Headers At s t h₁ k₁ → Fares ◌≡◌ P (read_graph s h₁) (read_graph t k₁)
      of (headers n q ns b) = unfold read_graph in fares_next P (SameItems At) ◌≡◌ (read_items s (header_of_numbers false n ns))
          (read_items t (header_of_numbers false q ns)) _ _ (unfold read_items header_of_numbers expected in same-expected At P put (length s) (length t)
          (get_or ns 0 0) [] (expected (header_of_numbers false n ns)) _ _ b)
          (λ is js e. rw (← size n q ns) (then_graph At P put (header_of_numbers false n ns).size is js e))

-- ---- the arrivals

-- a line's two numbers, by what is shown of the line
input-arrival-shown : (l m : Line) → shown l ≡ shown m → input_arrival_numbers l ≡ input_arrival_numbers m
unfolding input_arrival_numbers shown
input-arrival-shown l m e = ap (λ (p : List ℕ × Bool). and_then (only (p.1 && eqb (length (fields p.0)) 2) (fields p.0)) numbers) e

-- places of lines are places of refusals 25 and 26
module _ (At : ℕ → ℕ → Type 0) (P : ℕ → ℕ → ℕ → Type 0) (put : (n : ℕ) → (not (of_library n) && of_arrivals n) ≡ true → (k j : ℕ) → At k j → P n k j) where
  same-input-arrival : (end bound inputs : ℕ) (before : List ℕ) (ls ms : List Line) → Paired At end bound ls ms → Fares ◌≡◌ P (read_input_arrivals inputs before ls) (read_input_arrivals inputs before ms)
  unfolding read_input_arrivals
  same-input-arrival end bound inputs before [] [] (no_lines a) = both_hold refl
  same-input-arrival end bound inputs before (l ∷ ls) (m ∷ ms) (a_line e a more) = fares_next P ◌≡◌ ◌≡◌ (from? (input_arrival_numbers l) 25 l.offset)
      (from? (input_arrival_numbers m) 25 m.offset) (read ls l.offset) (read ms m.offset)
      (fares_from P (input_arrival_numbers l) (input_arrival_numbers m) 25 l.offset m.offset (input-arrival-shown l m e) (put 25 refl l.offset m.offset a))
      (λ ns os q. rw (← q) (of ns (same-input-arrival end bound inputs (get_or ns 0 0 ∷ before) ls ms more)))
    where
      input_arrival : List ℕ → InputArrival
      input_arrival ns = record { index = get_or ns 0 0; arrival = get_or ns 1 0 }

      read : List Line → ℕ → List ℕ → Read (List InputArrival)
      read xs at ns = unless (ltb (get_or ns 0 0) inputs && not (elem (get_or ns 0 0) before)) 26 at
          (next (read_input_arrivals inputs (get_or ns 0 0 ∷ before) xs) (λ es. holds (input_arrival ns ∷ es)))

      of : (ns : List ℕ) → Fares ◌≡◌ P (read_input_arrivals inputs (get_or ns 0 0 ∷ before) ls) (read_input_arrivals inputs (get_or ns 0 0 ∷ before) ms) → Fares ◌≡◌ P (read ls l.offset ns) (read ms m.offset ns)
      of ns f =
          fares_unless P ◌≡◌ (ltb (get_or ns 0 0) inputs && not (elem (get_or ns 0 0) before)) (ltb (get_or ns 0 0) inputs && not (elem (get_or ns 0 0) before)) 26 l.offset m.offset _ _ refl
          (put 26 refl l.offset m.offset a)
          (fares_next P ◌≡◌ ◌≡◌ (read_input_arrivals inputs (get_or ns 0 0 ∷ before) ls) (read_input_arrivals inputs (get_or ns 0 0 ∷ before) ms) (λ es. holds (input_arrival ns ∷ es)) (λ es. holds (input_arrival ns ∷ es)) f
          (λ es fs r. both_hold (ap (λ (xs : List InputArrival). input_arrival ns ∷ xs) r)))
  same-input-arrival end bound inputs before [] (m ∷ ms) x'' = elim x'' [ ]
  same-input-arrival end bound inputs before (l ∷ ls) [] x3 = elim x3 [ ]

  same-input-arrival-lines : (end bound inputs : ℕ) (ls ms : List Line) → Paired At end bound ls ms → Fares ◌≡◌ P (read_input_arrival_lines inputs ls) (read_input_arrival_lines inputs ms)
  unfolding read_input_arrival_lines shown
  same-input-arrival-lines end bound inputs [] [] (no_lines a) = both_hold refl
  same-input-arrival-lines end bound inputs (l ∷ ls) (m ∷ ms) (a_line e a more) =
      fares_unless P ◌≡◌ (ended l && same l.bytes (text "input arrival")) (ended m && same m.bytes (text "input arrival")) 25 l.offset m.offset _ _
      (ap (λ (p : List ℕ × Bool). p.1 && same p.0 (text "input arrival")) e) (put 25 refl l.offset m.offset a) (same-input-arrival end bound inputs [] ls ms more)
  same-input-arrival-lines end bound inputs [] (m ∷ ms) x'' = elim x'' [ ]
  same-input-arrival-lines end bound inputs (l ∷ ls) [] x3 = elim x3 [ ]

-- ---- the texts of two calls

module _ (c d : Call) (alike : AlikeTexts c d) where
  -- where a refusal of the one and of the other has its places
  Places : ℕ → ℕ → ℕ → Type 0
  Places n k j = SamePlace (at_fault n c) (at_fault n d) k j

  -- the text at fault, by two tests of the number
  abbrev pick : Bool → Bool → Call → List ℕ
  pick a b x = cond a x.library (cond b x.arrivals x.graph)

  in_library : (n : ℕ) → of_library n ≡ true → (k j : ℕ) → SamePlace c.library d.library k j → Places n k j
  unfolding at_fault Places
  in_library n e k j p = subst (λ (b : Bool). SamePlace (pick b (of_arrivals n) c) (pick b (of_arrivals n) d) k j) (sym e) p

  in_graph : (n : ℕ) → (of_library n || of_arrivals n) ≡ false → (k j : ℕ) → SamePlace c.graph d.graph k j → Places n k j
  unfolding at_fault Places
  in_graph n e k j p = by_bool (of_library n) (λ q. rw q (absurd (true≢false (rw q at e))))
      (λ r. rw r (by_bool (of_arrivals n) (λ z. rw z (absurd (true≢false (rw z at (rw r at e))))) (λ w. rw w p)))

  in_arrivals : (n : ℕ) → (not (of_library n) && of_arrivals n) ≡ true → (k j : ℕ) → SamePlace c.arrivals d.arrivals k j → Places n k j
  unfolding at_fault Places
  in_arrivals n e k j p = by_bool (of_library n) (λ q. rw q (absurd (true≢false (sym (rw q at e)))))
      (λ r. rw r (by_bool (of_arrivals n) (λ z. rw z p) (λ w. rw w (absurd (true≢false (sym (rw w at (rw r at e))))))))

  -- what is read behind the graph, for so many inputs
  timed : Bool → Bool → List ℕ → List Cell → ℕ → Graph → Read Design
  timed paired ranged s cells inputs g = next (read_arrivals inputs s) (λ es. holds (record { listed = cells; cells = cells_for paired cells; ranged = ranged; graph = timed_by g es }))

  -- what is read behind the header
  behind_header : Bool → Bool → List ℕ → List ℕ → ℕ → List Cell → Header → Read Design
  behind_header paired ranged s arrivals words cells h = unless (leb (need h.size h.outputs) words) 10 0 (next (read_graph s h) (timed paired ranged arrivals cells h.inputs))

  -- what is read behind the library
  behind_library : Bool → Bool → List ℕ → List ℕ → ℕ → List Cell → Read Design
  behind_library paired ranged s arrivals words cells = next (read_header s) (behind_header paired ranged s arrivals words cells)

  -- the other call's texts, with pairs wanted or not, and delays that are ranges or not
  texts_too : Bool → Bool → Read Design
  texts_too paired ranged = unless (short d) 1 0 (next (read_listed paired d.library) (behind_library paired ranged d.graph d.arrivals d.words))

  same-timed : (cells : List Cell) (inputs : ℕ) (x y : Graph) → x ≡ y → Fares ◌≡◌ Places (timed c.paired (is_ranged c.library) c.arrivals cells inputs x) (timed c.paired (is_ranged c.library) d.arrivals cells inputs y)
  unfolding timed
  same-timed cells inputs x y e = fares_next Places ◌≡◌ ◌≡◌ (read_arrivals inputs c.arrivals) (read_arrivals inputs d.arrivals) _ _
      (unfold read_arrivals in same-input-arrival-lines (SamePlace c.arrivals d.arrivals) Places in_arrivals (length c.arrivals)
      (length d.arrivals) inputs (lines_from 0 [] c.arrivals) (lines_from 0 [] d.arrivals)
      (pair-lines c.arrivals d.arrivals alike.arrivals)) (λ es fs q. both_hold (cc))

  one-graph : c.graph ≡ d.graph → (cells : List Cell) → Fares ◌≡◌ Places (behind_library c.paired (is_ranged c.library) c.graph c.arrivals c.words cells) (behind_library c.paired (is_ranged c.library) d.graph d.arrivals c.words cells)
  unfolding behind_library behind_header
  one-graph e cells =
      subst (λ (s : List ℕ). Fares ◌≡◌ Places (behind_library c.paired (is_ranged c.library) c.graph c.arrivals c.words cells) (behind_library c.paired (is_ranged c.library) s d.arrivals c.words cells)) e
      (fares_next Places ◌≡◌ ◌≡◌ (read_header c.graph) (read_header c.graph) _ _ (alone (read_header c.graph) (header_faults OfGraph refl refl refl refl c.graph))
      (λ h k q.
      subst (λ (x : Header). Fares ◌≡◌ Places (behind_header c.paired (is_ranged c.library) c.graph c.arrivals c.words cells h) (behind_header c.paired (is_ranged c.library) c.graph d.arrivals c.words cells x)) q
      (fares_unless Places ◌≡◌ (leb (need h.size h.outputs) c.words) (leb (need h.size h.outputs) c.words) 10 0 0 _ _ refl (in_graph 10 refl 0 0 (inr (e, refl)))
      (fares_next Places ◌≡◌ ◌≡◌ (read_graph c.graph h) (read_graph c.graph h) _ _
      (alone (read_graph c.graph h) (graph_faults OfGraph (λ k. refl) (λ k. refl) (λ k. refl) (λ k. refl) (λ k. refl) (λ k. refl) c.graph h)) (same-timed cells h.inputs)))))
    where
      OfGraph : ℕ → ℕ → Type 0
      OfGraph n k = (of_library n || of_arrivals n) ≡ false

      alone : {A : Type 0} (r : Read A) → Faults OfGraph r → Fares ◌≡◌ Places r r
      alone r f = fares_self Places r (record { has = λ n k q. in_graph n (f.has n k q) k k (inr (e, refl)) })

  two-graphs : is_binary_text c.graph ≡ false → (cells : List Cell)
      → Fares ◌≡◌ Places (behind_library c.paired (is_ranged c.library) c.graph c.arrivals c.words cells) (behind_library c.paired (is_ranged c.library) d.graph d.arrivals c.words cells)
  unfolding behind_library behind_header
  two-graphs a cells =
      let zero-place : SamePlace c.graph d.graph 0 0 = inl (0, start-zero c.graph, start-zero d.graph) in
      fares_next Places (Headers At c.graph d.graph) ◌≡◌ (read_header c.graph) (read_header d.graph) _ _
      (same-header At Places in_graph c.graph d.graph zero-place (pair-lines c.graph d.graph alike.graphs) a)
      (λ h k r.
      fares_unless Places ◌≡◌ (leb (need h.size h.outputs) c.words) (leb (need k.size k.outputs) c.words) 10 0 0 _ _ (needs r) (in_graph 10 refl 0 0 zero-place)
      (fares_next Places ◌≡◌ ◌≡◌ (read_graph c.graph h) (read_graph d.graph k) _ _ (same_graph At Places in_graph c.graph d.graph zero-place h k r)
      (λ x y e. subst (λ (n : ℕ). Fares ◌≡◌ Places (timed c.paired (is_ranged c.library) c.arrivals cells h.inputs x) (timed c.paired (is_ranged c.library) d.arrivals cells n y)) (counts r) (same-timed cells h.inputs x y e))))
    where
      At : ℕ → ℕ → Type 0
      At = SamePlace c.graph d.graph

      needs : {h k : Header} → Headers At c.graph d.graph h k → leb (need h.size h.outputs) c.words ≡ leb (need k.size k.outputs) c.words
      needs (headers n q ns b) = unfold header_of_numbers in refl

      counts : {h k : Header} → Headers At c.graph d.graph h k → h.inputs ≡ k.inputs
      counts (headers n q ns b) = unfold header_of_numbers in refl

  as_one : Fares ◌≡◌ Places (read_texts c) (texts_too c.paired (is_ranged c.library))
  unfolding read_texts behind_library behind_header timed texts_too unless
  as_one =
      let a : leb (length c.library) 65536 ≡ true = le-leb (length c.library) 65536 alike.short.library in
      let b : leb (length c.graph) 65536 ≡ true = le-leb (length c.graph) 65536 alike.short.graph in
      let s : leb (length c.arrivals) 65536 ≡ true = le-leb (length c.arrivals) 65536 alike.short.arrivals in
      let e : leb (length d.library) 65536 ≡ true = le-leb (length d.library) 65536 alike.short_too.library in
      let f : leb (length d.graph) 65536 ≡ true = le-leb (length d.graph) 65536 alike.short_too.graph in
      let t : leb (length d.arrivals) 65536 ≡ true = le-leb (length d.arrivals) 65536 alike.short_too.arrivals in
      rw (a, b, s, e, f, t)
      (fares_next Places ◌≡◌ ◌≡◌ (read_listed c.paired c.library) (read_listed c.paired d.library) (behind_library c.paired (is_ranged c.library) c.graph c.arrivals c.words) (behind_library c.paired (is_ranged c.library) d.graph d.arrivals d.words)
      (same-listed c.paired c.library d.library Places in_library alike.libraries)
      (λ x y q. subst (λ (z : List Cell). Fares ◌≡◌ Places (behind_library c.paired (is_ranged c.library) c.graph c.arrivals c.words x) (behind_library c.paired (is_ranged c.library) d.graph d.arrivals d.words z)) q (
      subst (λ (n : ℕ). Fares ◌≡◌ Places (behind_library c.paired (is_ranged c.library) c.graph c.arrivals c.words x)
      (behind_library c.paired (is_ranged c.library) d.graph d.arrivals n x)) alike.words
      (by_bool (is_binary_text c.graph) (λ e. one-graph (alike.binary e) x) (λ q. two-graphs q x)))))

  same-texts : Fares ◌≡◌ Places (read_texts c) (read_texts d)
  unfolding read_texts behind_library behind_header timed texts_too
  same-texts =
      subst (λ (r : Bool). Fares ◌≡◌ Places (read_texts c) (texts_too d.paired r)) (same-ranged c.library d.library alike.libraries)
      (subst (λ (b : Bool). Fares ◌≡◌ Places (read_texts c) (texts_too b (is_ranged c.library))) alike.paired as_one)

  same-design : (x : Design) → read_texts c ≡ holds x → read_texts d ≡ holds x
  same-design = fares_holds Places (read_texts c) (read_texts d) same-texts

  same_outcome : (x : Design) → read_texts c ≡ holds x → map_texts c ≡ map_texts d
  unfolding map_texts
  same_outcome x e = ap (map_design c.bytes) (e ∙ sym (same-design x e)) ∙ ap (λ (n : ℕ). map_design n (read_texts d)) alike.bytes

  same_place : (n k : ℕ) → read_texts c ≡ fault n k → (j : ℕ) × (read_texts d ≡ fault n j) × Places n k j
  same_place = fares_fault Places (read_texts c) (read_texts d) same-texts

  never_mapped : {n k : ℕ} {t : List ℕ} {f : Figures} → refused n k ≡ mapped t f → ⊥
  never_mapped {n} {k} {t} {f} e = let z : ◌≡◌ {A = ℕ} 0 1 = cc in omega arith

  same-printed : (t : List ℕ) (f : Figures) → map_texts c ≡ mapped t f → map_texts d ≡ mapped t f
  unfolding map_texts map_design
  same-printed t f e = by_read (read_texts c) (λ x q. sym (same_outcome x q) ∙ e) (λ n k p. absurd (never_mapped (rw p at e)))

  same-refusal : (n k : ℕ) → map_texts c ≡ refused n k → (j : ℕ) × (map_texts d ≡ refused n j)
  unfolding map_texts map_design returned_by
  same-refusal n k e = by_read (read_texts c) (λ x q. (k, sym (same_outcome x q) ∙ e)) (λ m i p. let o = same_place m i p in
      let number : m ≡ n = ap (λ (x : Outcome). (returned_by x).number) (rw p at e) in
      (o.0, ap (map_design d.bytes) o.1 ∙ ap (λ (x : ℕ). refused x o.0) number))

  pub same_but_ends : SameButEnds c d
  unfolding Places
  same_but_ends = record { design = same-design; outcome = same_outcome; printed = same-printed; refusal = same-refusal; place = same_place }

pub demand_ends : (c : Call) → EitherEnd c
demand_ends c d alike = same_but_ends c d alike
