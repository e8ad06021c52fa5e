-- Which numbers and places a reader's refusals have.
use Rattle.base.specs.{ℕ, zero, suc, ◌+◌, ◌-◌, ◌*◌, ◌%◌, ◌≤◌, arith, ◌≡◌, refl, sym, ap, subst, Bool, true, false, cond, not, false≢true}
use Rattle.base.specs.{◌&&◌, ◌||◌, Option, None, Some, List, [], ◌∷◌, ◌++◌, reverse, Memᴰ, Memᴰ-head, Memᴰ-tail}
use Rattle.base.specs.{Memᴰ-not-nil, eqb, ltb, leb, length, get_or, drop, replicate, length-drop, length-reverse}
use Rattle.model.specs.{all, any, elem, same, only, Line, ended, next_of, text, closing, lines_from, fields, numbers, Read, holds, fault}
use Rattle.model.specs.{next, unless, from?, name_of, var_of, cell_of_line, is_clean, no_lower, is_shorter, is_longer, read_cells, read_library_lines}
use Rattle.model.specs.{read_library, cells_for, read_listed, closed, header_of_numbers, header_of, in_limits, in_sequence, read_header, Kind}
use Rattle.model.specs.{an_output, an_and, defines, expected, Item, item_literals, read_expected, Passed, difference, less_by, read_ands, behind_lines}
use Rattle.model.specs.{input_items, read_binary, read_items, uses, defined_by, check_uses, graph_of, read_graph, InputArrival, input_arrival_numbers, read_input_arrivals}
use Rattle.model.specs.{read_input_arrival_lines, read_arrivals}
use Rattle.model.specs.declared.Cell.{Cell}
use Rattle.model.specs.declared.Header.{Header}
use Rattle.theory_graph.proofs.{by_bool, by_list, by_member}
use Rattle.theory_text.proofs.ReadSteps.{holds-once, fault_never, unless_out, from_out, next_out, then_out}
use Rattle.theory_text.proofs.LineLaws.{lines_step, closing-next}

-- the number and the place of a refusal, if there is one
pub record Faults {A : Type 0} (P : ℕ → ℕ → Type 0) (r : Read A) : Type 0 where
  pub has : (n k : ℕ) → r ≡ fault n k → P n k

is_fault : {A : Type 0} → Read A → Bool
is_fault (holds a) = false
is_fault (fault n k) = true

number_in : {A : Type 0} → Read A → ℕ
number_in (holds a) = 0
number_in (fault n k) = n

place_in : {A : Type 0} → Read A → ℕ
place_in (holds a) = 0
place_in (fault n k) = k

module _ {A : Type 0} (P : ℕ → ℕ → Type 0) where
  pub in_holds : (a : A) → Faults P (holds a)
  unfolding is_fault
  in_holds a = record { has = λ n k e. absurd (false≢true (ap is_fault e)) }

  pub in_fault : (m j : ℕ) → P m j → Faults {A = A} P (fault m j)
  unfolding number_in place_in
  in_fault m j p = record { has = λ n k e. subst (P n) (ap place_in e) (subst (λ (x : ℕ). P x j) (ap number_in e) p) }

  pub in_unless : (b : Bool) (m j : ℕ) (r : Read A) → (b ≡ false → P m j) → Faults P r → Faults P (unless b m j r)
  unfolding unless
  in_unless true m j r p f = f
  in_unless false m j r p f = in_fault m j (p refl)

  pub in_from : (o : Option A) (m j : ℕ) → P m j → Faults P (from? o m j)
  unfolding from?
  in_from None m j p = in_fault m j p
  in_from (Some a) m j p = in_holds a

pub in_next : {A B : Type 0} (P : ℕ → ℕ → Type 0) (r : Read A) (f : A → Read B) → Faults P r → ((a : A) → r ≡ holds a → Faults P (f a)) → Faults P (next r f)
unfolding next
in_next P (holds a) f p q = q a refl
in_next P (fault n k) f p q = in_fault P n k (p.has n k refl)

-- ---- places

-- a difference that is read ends in the text
difference_inside : (at : ℕ) (bs : List ℕ) (d : Passed) → difference at bs ≡ holds d → d.behind ≤ at + length bs
unfolding difference
difference_inside at [] d e = absurd (fault_never e)
difference_inside at (b ∷ []) d e =
    let q : at + 1 ≡ d.behind = ap (λ (x : Passed). x.behind) (holds-once (unless_out (ltb b 128) 20 at (holds (record { number = b; behind = at + 1 })) d e).1) in omega arith
difference_inside at (b ∷ c ∷ bs) d e = go (ltb b 128) e
  where
    two : Passed
    two = record { number = b - 128 + 128 * c; behind = at + 2 }

    go : (t : Bool) → cond t (holds (record { number = b; behind = at + 1 })) (unless (ltb c 128) 20 at (holds two)) ≡ holds d → d.behind ≤ at + suc (suc (length bs))
    go true f = let q : at + 1 ≡ d.behind = ap (λ (x : Passed). x.behind) (holds-once f) in omega arith
    go false f = let q : at + 2 ≡ d.behind = ap (λ (x : Passed). x.behind) (holds-once (unless_out (ltb c 128) 20 at (holds two) d f).1) in omega arith

pub less_inside : (is_first : Bool) (bytes : List ℕ) (at : ℕ) → at ≤ length bytes → (n : ℕ) (p : Passed) → less_by is_first bytes at n ≡ holds p → p.behind ≤ length bytes
unfolding less_by
less_inside is_first bytes at h n p e =
    let a = next_out (difference at (drop at bytes)) _ p e in
    let b = unless_out (not (is_first && eqb a.0.number 0) && leb a.0.number n) 21 at _ p a.2 in
    let q : a.0.behind ≡ p.behind = ap (λ (x : Passed). x.behind) (holds-once b.1) in
    omega (arith, difference_inside at (drop at bytes) a.0 a.1, length-drop at bytes)

-- and so does a line
pub lines-inside : (at : ℕ) (held bs : List ℕ) (l : Line) → Memᴰ l (lines_from at held bs) → next_of l ≤ at + (length held + length bs)
unfolding lines_from
lines-inside at [] [] l m = absurd (Memᴰ-not-nil m)
lines-inside at (h ∷ hs) [] l (Memᴰ-head e) =
    subst (λ (x : Line). next_of x ≤ at + (length (h ∷ hs) + 0)) (sym e) (let q : length (reverse (h ∷ hs)) ≡ length (h ∷ hs) = length-reverse (h ∷ hs) in omega arith)
lines-inside at (h ∷ hs) [] l (Memᴰ-tail m) = absurd (Memᴰ-not-nil m)
lines-inside at held (b ∷ bs) l m =
    by_bool (eqb b 10) (λ e. by_member (rw e at (subst (λ (ls : List Line). Memᴰ l ls) (lines_step at held b bs) m)) (λ q.
    subst (λ (x : Line). next_of x ≤ at + (length held + suc (length bs))) (sym q) (let q : next_of (closing at held) ≡ at + suc
    (length held) = closing-next at held in omega (arith, lines-inside (at + suc (length held)) [] bs l)))
    (λ n. omega (arith, lines-inside (at + suc (length held)) [] bs l, (lines-inside (at + suc (length held)) [] bs l) n))) (λ q. omega (
      arith,
      lines-inside (at + suc (length held)) [] bs l,
      lines-inside at
          (b ∷ held) bs l,
      (lines-inside at (b ∷ held) bs l) (rw q at (subst (λ (ls : List Line). Memᴰ l ls) (lines_step at held b bs) m)),
    ))

pub behind-inside : (end at n : ℕ) (ls : List Line) → at ≤ end → ((l : Line) → Memᴰ l ls → next_of l ≤ end) → behind_lines at n ls ≤ end
unfolding behind_lines
behind-inside end at zero ls h i = h
behind-inside end at (suc n) [] h i = h
behind-inside end at (suc n) (l ∷ ls) h i = behind-inside end (next_of l) n ls (i l (Memᴰ-head refl)) (λ k m. i k (Memᴰ-tail m))

-- what follows the header begins in the text, or at its end
pub header-inside : (bytes : List ℕ) (h : Header) → read_header bytes ≡ holds h → h.next ≤ length bytes
unfolding read_header header_of header_of_numbers from?
header-inside bytes h e =
    let a = next_out (from? (header_of (lines_from 0 [] bytes)) 7 0) _ h e in
    let k = a.0 in
    let c = unless_out (in_limits k) 9 0 _ h (unless_out (eqb k.latches 0) 8 0 _ h a.2).1 in
    let q : k.next ≡ h.next = ap (λ (x : Header). x.next) (holds-once (unless_out (in_sequence k) 19 0 (holds k) h c.1).1) in
    omega (arith, first (lines_from 0 [] bytes) (λ l m. lines-inside 0 [] bytes l m) k a.1)
  where
    first : (ls : List Line) → ((l : Line) → Memᴰ l ls → next_of l ≤ 0 + (0 + length bytes)) → (k : Header) → from? (header_of ls) 7 0 ≡ holds k → k.next ≤ length bytes
    first [] i k q = absurd (fault_never q)
    first (l ∷ ls) i k q =
        let ws = fields l.bytes in
        let is_binary = same (get_or ws 0 []) (text "aig") in
        let o = then_out (only (closed is_binary l && (eqb (length ws) 6 && (is_binary || same (get_or ws 0 []) (text "aag")))) (drop 1 ws)) _ k (from_out (header_of (l ∷ ls)) 7 0 k q) in
        let p = then_out (numbers o.0) (λ ns. Some (header_of_numbers is_binary (next_of l) ns)) k o.2 in
        let w : Some (header_of_numbers is_binary (next_of l) p.0) ≡ Some k = p.2 in
        let v : header_of_numbers is_binary (next_of l) p.0 ≡ k = cc in
        let z : next_of l ≡ k.next = ap (λ (x : Header). x.next) v in
        omega (arith, i l (Memᴰ-head refl))

module _ (P : ℕ → ℕ → Type 0) where
  -- 3 to 6 and 27
  cells_faults : ((k : ℕ) → P 3 k) → ((k : ℕ) → P 4 k) → ((k : ℕ) → P 5 k) → ((k : ℕ) → P 6 k) → ((k : ℕ) → P 27 k)
      → (ranged : Bool) (k : ℕ) (before : List Cell) (ls : List Line) → Faults P (read_cells ranged k before ls)
  unfolding read_cells
  cells_faults p3 p4 p5 p6 p27 ranged k before [] = in_holds P []
  cells_faults p3 p4 p5 p6 p27 ranged k before (l ∷ ls) =
      let rest : Cell → Read (List Cell) = λ c. next (read_cells ranged (suc k) (c ∷ before) ls) (λ cs. holds (c ∷ cs)) in
      let range : Cell → Read (List Cell) = λ c. unless (no_lower c.mins c.delays) 27 l.offset (rest c) in
      let clean : Cell → Read (List Cell) = λ c. unless (is_clean c) 6 l.offset (range c) in
      let read : Cell → Read (List Cell) = λ c. unless (not (any (λ (d : Cell). same (name_of c) (name_of d)) before)) 5 l.offset
      (clean c) in
      in_unless P (ltb k 32) 3 l.offset (next (from? (cell_of_line ranged l) 4 l.offset) read) (λ _. p3 l.offset)
      (in_next P (from? (cell_of_line ranged l) 4 l.offset) read (in_from P (cell_of_line ranged l) 4 l.offset (p4 l.offset)) (λ c e.
      in_unless P (not (any (λ (d : Cell). same (name_of c) (name_of d)) before)) 5 l.offset (clean c) (λ _. p5 l.offset)
      (in_unless P (is_clean c) 6 l.offset (range c) (λ _. p6 l.offset) (in_unless P (no_lower c.mins c.delays) 27 l.offset
      (rest c) (λ _. p27 l.offset) (in_next P (read_cells ranged (suc k) (c ∷ before) ls) (λ cs. holds (c ∷ cs))
      (cells_faults p3 p4 p5 p6 p27 ranged (suc k) (c ∷ before) ls) (λ cs _. in_holds P (c ∷ cs)))))))

  -- 2 to 6 and 27
  pub library_faults : P 2 0 → ((k : ℕ) → P 3 k) → ((k : ℕ) → P 4 k) → ((k : ℕ) → P 5 k) → ((k : ℕ) → P 6 k) → ((k : ℕ) → P 27 k) → (s : List ℕ) → Faults P (read_library s)
  unfolding read_library read_library_lines
  library_faults p2 p3 p4 p5 p6 p27 s = by_list (lines_from 0 [] s) (λ e. rw e (in_fault P 2 0 p2)) (λ l ls q. rw q (in_unless P
      (ended l && (is_shorter l || is_longer l)) 2 0 (read_cells (is_longer l) 0 [] ls) (λ _. p2)
      (cells_faults p3 p4 p5 p6 p27 (is_longer l) 0 [] ls)))

  -- 2 to 6, 27 and 30
  pub listed_faults : P 2 0 → ((k : ℕ) → P 3 k) → ((k : ℕ) → P 4 k) → ((k : ℕ) → P 5 k) → ((k : ℕ) → P 6 k) → ((k : ℕ) → P 27 k) → P 30 0 → (paired : Bool) (s : List ℕ) → Faults P (read_listed paired s)
  unfolding read_listed
  listed_faults p2 p3 p4 p5 p6 p27 p30 paired s =
      in_next P (read_library s) (λ cells. unless (leb (length (cells_for paired cells)) 256) 30 0 (holds cells)) (library_faults p2 p3 p4 p5 p6 p27 s)
      (λ cells _. in_unless P (leb (length (cells_for paired cells)) 256) 30 0 (holds cells) (λ _. p30) (in_holds P cells))

  -- 25 and 26
  input-arrival_faults : ((k : ℕ) → P 25 k) → ((k : ℕ) → P 26 k) → (inputs : ℕ) (before : List ℕ) (ls : List Line) → Faults P (read_input_arrivals inputs before ls)
  unfolding read_input_arrivals
  input-arrival_faults p25 p26 inputs before [] = in_holds P []
  input-arrival_faults p25 p26 inputs before (l ∷ ls) =
      let input_arrival : List ℕ → InputArrival = λ ns. record { index = get_or ns 0 0; arrival = get_or ns 1 0 } in
      let rest : List ℕ → Read (List InputArrival) = λ ns. next (read_input_arrivals inputs (get_or ns 0 0 ∷ before) ls) (λ es. holds (input_arrival ns ∷ es)) in
      let read : List ℕ → Read (List InputArrival) = λ ns. unless (ltb (get_or ns 0 0) inputs && not (elem (get_or ns 0 0) before)) 26 l.offset
      (rest ns) in
      in_next P (from? (input_arrival_numbers l) 25 l.offset) read (in_from P (input_arrival_numbers l) 25 l.offset (p25 l.offset))
      (λ ns _.
      in_unless P (ltb (get_or ns 0 0) inputs && not (elem (get_or ns 0 0) before)) 26 l.offset (rest ns) (λ _. p26 l.offset)
      (in_next P (read_input_arrivals inputs (get_or ns 0 0 ∷ before) ls) (λ es. holds (input_arrival ns ∷ es)) (input-arrival_faults p25 p26 inputs (get_or ns 0 0 ∷ before) ls) (λ es _. in_holds P (input_arrival ns ∷ es))))

  pub arrivals_faults : ((k : ℕ) → P 25 k) → ((k : ℕ) → P 26 k) → (inputs : ℕ) (s : List ℕ) → Faults P (read_arrivals inputs s)
  unfolding read_arrivals read_input_arrival_lines
  arrivals_faults p25 p26 inputs s = by_list (lines_from 0 [] s) (λ e. rw e (in_holds P [])) (λ l ls q. rw q (in_unless P
      (ended l && same l.bytes (text "input arrival")) 25 l.offset (read_input_arrivals inputs [] ls) (λ _. p25 l.offset)
      (input-arrival_faults p25 p26 inputs [] ls)))

  -- 7 to 9 and 19
  pub header_faults : P 7 0 → P 8 0 → P 9 0 → P 19 0 → (s : List ℕ) → Faults P (read_header s)
  unfolding read_header
  header_faults p7 p8 p9 p19 s = in_next P (from? (header_of (lines_from 0 [] s)) 7 0)
      (λ h. unless (eqb h.latches 0) 8 0 (unless (in_limits h) 9 0 (unless (in_sequence h) 19 0 (holds h))))
      (in_from P (header_of (lines_from 0 [] s)) 7 0 p7) (λ h _. in_unless P (eqb h.latches 0) 8 0
      (unless (in_limits h) 9 0 (unless (in_sequence h) 19 0 (holds h))) (λ _. p8) (in_unless P (in_limits h) 9 0
      (unless (in_sequence h) 19 0 (holds h)) (λ _. p9) (in_unless P (in_sequence h) 19 0 (holds h) (λ _. p19) (in_holds P h))))

  -- 11 to 13, of which 13 is for lines that define
  pub expected_faults : ((k : ℕ) → P 11 k) → ((k : ℕ) → P 12 k) → (is_closed : Line → Bool) (end size : ℕ) (before : List ℕ) (ks : List Kind) (ls : List Line)
      → ((k : Kind) → Memᴰ k ks → defines k ≡ true → (j : ℕ) → P 13 j) → Faults P (read_expected is_closed end size before ks ls)
  unfolding read_expected
  expected_faults p11 p12 is_closed end size before [] ls p13 = in_holds P []
  expected_faults p11 p12 is_closed end size before (k ∷ ks) [] p13 = in_fault P 11 end (p11 end)
  expected_faults p11 p12 is_closed end size before (k ∷ ks) (l ∷ ls) p13 =
      let in_range : List ℕ → Bool = λ ns. all (λ (n : ℕ). leb n (2 * size + 1)) ns &&
      (not (defines k) || (eqb (get_or ns 0 0 % 2) 0 && not (eqb (get_or ns 0 0) 0))) in
      let is_new : List ℕ → Bool = λ ns. not (defines k && elem (var_of (get_or ns 0 0)) before) in
      let known : List ℕ → List ℕ = λ ns. cond (defines k) (var_of (get_or ns 0 0) ∷ before) before in
      let item : List ℕ → Item = λ ns. record { kind = k; offset = l.offset; literals = ns } in
      let rest : List ℕ → Read (List Item) = λ ns. next (read_expected is_closed end size (known ns) ks ls) (λ is. holds (item ns ∷ is)) in
      let thirteen : List ℕ → Read (List Item) = λ ns. unless (is_new ns) 13 l.offset (rest ns) in
      let twelve : List ℕ → Read (List Item) = λ ns. unless (in_range ns) 12 l.offset (thirteen ns) in
      in_next P (from? (item_literals is_closed k l) 11 l.offset) twelve
      (in_from P (item_literals is_closed k l) 11 l.offset (p11 l.offset)) (λ ns _. in_unless P (in_range ns) 12 l.offset
      (thirteen ns) (λ _. p12 l.offset) (in_unless P (is_new ns) 13 l.offset (rest ns)
      (λ e. p13 k (Memᴰ-head refl) (by_bool (defines k) (λ q. rw q) (λ p. rw p (absurd (false≢true (sym (rw p at e)))))) l.offset)
      (in_next P (read_expected is_closed end size (known ns) ks ls) (λ is. holds (item ns ∷ is))
      (expected_faults p11 p12 is_closed end size (known ns) ks ls (λ j m. p13 j (Memᴰ-tail m))) (λ is _. in_holds P (item ns ∷ is)))))

  -- 20 and 21, at places of which more is known, if that holds of each place where the next difference begins
  module _ (bytes : List ℕ) (At : ℕ → Type 0) (on : (is_first : Bool) (at : ℕ) → At at → (n : ℕ) (p : Passed) → less_by is_first bytes at n ≡ holds p → At p.behind)
      (p20 : (k : ℕ) → At k → P 20 k) (p21 : (k : ℕ) → At k → P 21 k) where
    difference_faults : (at : ℕ) → At at → (bs : List ℕ) → Faults P (difference at bs)
    unfolding difference
    difference_faults at h [] = in_fault P 20 at (p20 at h)
    difference_faults at h (b ∷ []) =
        in_unless P (ltb b 128) 20 at (holds (record { number = b; behind = at + 1 })) (λ _. p20 at h) (in_holds P (record { number = b; behind = at + 1 }))
    difference_faults at h (b ∷ c ∷ bs) =
        let two : Passed = record { number = b - 128 + 128 * c; behind = at + 2 } in
        by_bool (ltb b 128) (λ e. rw e (in_holds P (record { number = b; behind = at + 1 })))
        (λ q. rw q (in_unless P (ltb c 128) 20 at (holds two) (λ _. p20 at h) (in_holds P two)))

    less_faults : (is_first : Bool) (at : ℕ) → At at → (n : ℕ) → Faults P (less_by is_first bytes at n)
    unfolding less_by
    less_faults is_first at h n = in_next P (difference at (drop at bytes)) _ (difference_faults at h (drop at bytes)) (λ d _.
        in_unless P (not (is_first && eqb d.number 0) && leb d.number n) 21 at
        (holds (record { number = n - d.number; behind = d.behind })) (λ _. p21 at h)
        (in_holds P (record { number = n - d.number; behind = d.behind })))

    pub ands_faults : (at : ℕ) → At at → (left n : ℕ) → Faults P (read_ands bytes at left n)
    unfolding read_ands
    ands_faults at h left zero = in_holds P []
    ands_faults at h left (suc n) = in_next P (less_by true bytes at left) _ (less_faults true at h left) (λ a e.
        let i = on true at h left a e in in_next P (less_by false bytes a.behind a.number) _
        (less_faults false a.behind i a.number) (λ b f. in_next P (read_ands bytes b.behind (left + 2) n) _
        (ands_faults b.behind (on false a.behind i a.number b f) (left + 2) n)
        (λ is _. in_holds P (record { kind = an_and; offset = at; literals = left ∷ a.number ∷ b.number ∷ [] } ∷ is))))

  uses_faults : ((k : ℕ) → P 14 k) → (known : List ℕ) (is : List Item) → Faults P (check_uses known is)
  unfolding check_uses
  uses_faults p14 known [] = in_holds P []
  uses_faults p14 known (i ∷ is) =
      in_unless P (all (λ (l : ℕ). elem (var_of l) (0 ∷ known)) (uses i)) 14 i.offset (next (check_uses known is) (λ js. holds (i ∷ js))) (λ _. p14 i.offset)
      (in_next P (check_uses known is) (λ js. holds (i ∷ js)) (uses_faults p14 known is) (λ js _. in_holds P (i ∷ js)))

  -- 11 to 14, 20 and 21: behind the header, in either form
  pub graph_faults : ((k : ℕ) → P 11 k) → ((k : ℕ) → P 12 k) → ((k : ℕ) → P 13 k) → ((k : ℕ) → P 14 k) → ((k : ℕ) → P 20 k) → ((k : ℕ) → P 21 k)
      → (bytes : List ℕ) (h : Header) → Faults P (read_graph bytes h)
  unfolding read_graph read_items read_binary
  graph_faults p11 p12 p13 p14 p20 p21 bytes h =
      let ls = lines_from h.next [] (drop h.next bytes) in
      in_next P (read_items bytes h) _ (by_bool h.binary (λ e. rw e (in_next P
      (read_expected (closed true) (length bytes) h.size [] (replicate h.outputs an_output) ls) _
      (expected_faults p11 p12 (closed true) (length bytes) h.size [] (replicate h.outputs an_output) ls (λ k m d. p13)) (λ os _. in_next P
      (read_ands bytes (behind_lines h.next h.outputs ls) (2 * suc h.inputs) h.ands) _ (ands_faults bytes (λ k. Unit {0})
      (λ f at u n p e. tt) (λ k u. p20 k) (λ k u. p21 k) (behind_lines h.next h.outputs ls) tt (2 * suc h.inputs) h.ands)
      (λ gs _. in_holds P (input_items h ++ (os ++ gs))))))
      (λ q. rw q (expected_faults p11 p12 (closed false) (length bytes) h.size [] (expected h) ls (λ k m d. p13))))
      (λ is _. in_next P (check_uses (defined_by is) is) (λ js. holds (graph_of h.size js)) (uses_faults p14 (defined_by is) is) (λ js _. in_holds P (graph_of h.size js)))
