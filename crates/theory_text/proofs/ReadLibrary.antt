-- A library that is read fits: its cells are of the form, no name is repeated, and there are at most 32.
use Rattle.base.specs.{ℕ, suc, ◌+◌, ◌-◌, ◌^◌, ◌≤◌, ◌<◌, arith, ◌≡◌, refl, sym, ap, subst, Bool, true, false, cond, not, ◌&&◌, ◌||◌, Some}
use Rattle.base.specs.{List, [], ◌∷◌, Memᴰ, Memᴰ-head, Memᴰ-tail, Memᴰ-not-nil, Memᴰ-append_left, Memᴰ-append_right, T}
use Rattle.base.specs.{eqb, leb, ltb, ltb→lt, lit≤, T_not, not_T, length, get_or, take, drop, replicate, length-drop, length-take}
use Rattle.base.specs.{take-append-drop, take-append_seam, and_yes, yes_and, eqb_yes, yes_eqb, leb_yes, yes_leb}
use Rattle.model.specs.{all, any, same, and_then, only, Line, ended, lines_from, fields, numbers, hex_table, is_name, holds, from?, name_of}
use Rattle.model.specs.{name_bytes, cell_of_fields, cell_of_line, is_clean, no_lower, is_shorter, is_longer, read_cells, read_library_lines}
use Rattle.model.specs.{read_library}
use Rattle.model.specs.declared.Cell.{Cell}
use Rattle.theory_graph.proofs.{same-eq, same_refl, any-each, get_or_in, all_in, is_false, by_member, by_bool}
use Rattle.theory_graph.specs.{cell_fits, library_fits}
use Rattle.theory_text.proofs.ReadSteps.{holds-once, fault_never, unless_out, from_out, next_out, then_out, only_out, numbers-length}
use Rattle.theory_text.proofs.ReadSteps.{numbers-small}
use Rattle.theory_text.proofs.PlainLines.{name-short}

-- ---- a cell

-- the cell that a line's fields, numbers and table make
abbrev made : Bool → List (List ℕ) → List ℕ → ℕ → Cell
made ranged ws ns table = record {
  name = name_bytes (get_or ws 0 []);
  len = length (get_or ws 0 []);
  pins = get_or ns 0 0;
  table = table;
  area = get_or ns 1 0;
  delays = take 4 (drop 2 ns);
  mins = drop (cond ranged 6 2) ns;
}

-- its name is the line's first field
made-name : (ranged : Bool) (ws : List (List ℕ)) (ns : List ℕ) (table : ℕ) → name_of (made ranged ws ns table) ≡ get_or ws 0 []
unfolding name_of name_bytes
made-name ranged ws ns table = take-append_seam (get_or ws 0 []) (replicate (8 - length (get_or ws 0 [])) 0)

-- a cell as a line can give it: a name with zeros behind it, at most four pins, and numbers of at most 65,535
pub record Written (c : Cell) : Type 0 where
  pub is_named : T (is_name (name_of c))
  pub padded : c.name ≡ name_bytes (name_of c)
  pub len : c.len ≡ length (name_of c)
  pub short : c.len ≤ 8
  pub pins : c.pins ≤ 4
  pub area : c.area ≤ 65535
  pub four : length c.delays ≡ 4
  pub delays : (d : ℕ) → Memᴰ d c.delays → d ≤ 65535
  pub four_mins : length c.mins ≡ 4
  pub mins : (d : ℕ) → Memᴰ d c.mins → d ≤ 65535

made-written : (ranged : Bool) (ws : List (List ℕ)) (ns : List ℕ) (table : ℕ) → length ws ≡ cond ranged 12 8 → T (is_name (get_or ws 0 [])) → numbers (get_or ws 1 [] ∷ drop 3 ws) ≡ Some ns → T (leb (get_or ns 0 0) 4)
    → Written (made ranged ws ns table)
made-written ranged ws ns table eight named read few =
    let front : (k : ℕ) (xs : List ℕ) (d : ℕ) → Memᴰ d (take k xs) → Memᴰ d xs = λ k xs d m. subst
    (λ (ys : List ℕ). Memᴰ d ys) (take-append-drop k xs) (Memᴰ-append_left (drop k xs) m) in
    let behind : (k : ℕ) (xs : List ℕ) (d : ℕ) → Memᴰ d (drop k xs) → Memᴰ d xs = λ k xs d m. subst
    (λ (ys : List ℕ). Memᴰ d ys) (take-append-drop k xs) (Memᴰ-append_right (take k xs) m) in
    let four-left : (xs : List ℕ) → 4 ≤ length xs → length (take 4 xs) ≡ 4 = λ xs h. omega (arith, length-take 4 xs) in
    let small = numbers-small (get_or ws 1 [] ∷ drop 3 ws) ns read in
    record {
      is_named = subst (λ (w : List ℕ). T (is_name w)) (sym (made-name ranged ws ns table)) named;
      padded = ap name_bytes (sym (made-name ranged ws ns table));
      len = ap length (sym (made-name ranged ws ns table));
      short = name-short (get_or ws 0 []) named;
      pins = leb_yes few;
      area = small (get_or ns 1 0) (get_or_in ns 1 0 (omega (arith, many)));
      four = four-left (drop 2 ns) (omega (arith, many, length-drop 2 ns));
      delays = λ d m. small d (behind 2 ns d (front 4 (drop 2 ns) d m));
      four_mins = mins-four ranged count;
      mins = λ d m. small d (behind (cond ranged 6 2) ns d m);
    }
  where
    count : length ns ≡ cond ranged 10 6
    count = let q : length ns ≡ suc (length (drop 3 ws)) = numbers-length (get_or ws 1 [] ∷ drop 3 ws) ns read in by_bool ranged
        (λ e. rw e (omega (arith, rw e at eight, length-drop 3 ws))) (λ p. rw p (omega (arith, rw p at eight, length-drop 3 ws)))

    many : 6 ≤ length ns
    many = by_bool ranged (λ e. omega (arith, rw e at count)) (λ q. omega (arith, rw q at count))

    mins-four : (r : Bool) → length ns ≡ cond r 10 6 → length (drop (cond r 6 2) ns) ≡ 4
    mins-four true e = omega (arith, length-drop 6 ns)
    mins-four false e = omega (arith, length-drop 2 ns)

line-written : (ranged : Bool) (l : Line) (c : Cell) → cell_of_line ranged l ≡ Some c → Written c
unfolding cell_of_line
line-written ranged l c e = let o = then_out (only (ended l) (fields l.bytes)) (cell_of_fields ranged) c e in unfold cell_of_fields in
    let a = then_out (only (eqb (length o.0) (cond ranged 12 8) && is_name (get_or o.0 0 [])) o.0) (λ _.
    and_then (numbers (get_or o.0 1 [] ∷ drop 3 o.0))
    (λ ns. and_then (hex_table (get_or o.0 2 [])) (λ table. only (leb (get_or ns 0 0) 4) (made ranged o.0 ns table)))) c o.2 in
    let p = and_yes (eqb (length o.0) (cond ranged 12 8)) (is_name (get_or o.0 0 []))
    (only_out (eqb (length o.0) (cond ranged 12 8) && is_name (get_or o.0 0 [])) o.0 a.0 a.1).0 in let b = then_out
    (numbers (get_or o.0 1 [] ∷ drop 3 o.0))
    (λ ns. and_then (hex_table (get_or o.0 2 [])) (λ table. only (leb (get_or ns 0 0) 4) (made ranged o.0 ns table))) c a.2 in
    let d = then_out (hex_table (get_or o.0 2 [])) (λ table. only (leb (get_or b.0 0 0) 4) (made ranged o.0 b.0 table)) c b.2 in
    let t = only_out (leb (get_or b.0 0 0) 4) (made ranged o.0 b.0 d.0) c d.2 in subst Written t.1
    (made-written ranged o.0 b.0 d.0 (eqb_yes p.0) p.1 b.1 t.0)

written-fits : (c : Cell) → Written c → T (is_clean c) → T (cell_fits c)
unfolding is_clean cell_fits
written-fits c w t =
    yes_and (is_name (name_of c)) (leb c.pins 4 && (ltb c.table (2 ^ 2 ^ c.pins) && eqb (length c.delays) 4)) w.is_named
    (yes_and (leb c.pins 4) (ltb c.table (2 ^ 2 ^ c.pins) && eqb (length c.delays) 4) (yes_leb w.pins)
    (yes_and (ltb c.table (2 ^ 2 ^ c.pins)) (eqb (length c.delays) 4) (and_yes (ltb c.table (2 ^ 2 ^ c.pins)) (all (eqb 0) (drop c.pins c.delays) && all (eqb 0) (drop c.pins c.mins)) t).0 (yes_eqb w.four)))

-- ---- the lines

-- what one line gives
record Step (ranged : Bool) (k : ℕ) (before : List Cell) (l : Line) (ls : List Line) (cs : List Cell) : Type 0 where
  first : Cell
  rest : List Cell
  is_capacity : k < 32
  is_written : Written first
  is_clean' : T (is_clean first)
  is_range : T (no_lower first.mins first.delays)
  is_new : T (not (any (λ (d : Cell). same (name_of first) (name_of d)) before))
  is_rest : read_cells ranged (suc k) (first ∷ before) ls ≡ holds rest
  is_list : first ∷ rest ≡ cs

read_step : (ranged : Bool) (k : ℕ) (before : List Cell) (l : Line) (ls : List Line) (cs : List Cell) → read_cells ranged k before (l ∷ ls) ≡ holds cs → Step ranged k before l ls cs
unfolding read_cells
read_step ranged k before l ls cs e =
    let a = unless_out (ltb k 32) 3 l.offset _ cs e in
    let b = next_out (from? (cell_of_line ranged l) 4 l.offset) _ cs a.1 in
    let c = b.0 in
    let d = unless_out (not (any (λ (x : Cell). same (name_of c) (name_of x)) before)) 5 l.offset _ cs b.2 in
    let f = unless_out (is_clean c) 6 l.offset _ cs d.1 in
    let r = unless_out (no_lower c.mins c.delays) 27 l.offset _ cs f.1 in
    let h = next_out (read_cells ranged (suc k) (c ∷ before) ls) (λ xs. holds (c ∷ xs)) cs r.1 in
    record { first = c; rest = h.0; is_capacity = ltb→lt k 32 a.0; is_written = line-written ranged l c (from_out (cell_of_line ranged l) 4 l.offset c b.1); is_clean' = f.0; is_range = r.0; is_new = d.0; is_rest = h.1; is_list = holds-once h.2 }

any-not : (p : Cell → Bool) (xs : List Cell) → T (not (any p xs)) → (x : Cell) → Memᴰ x xs → T (not (p x))
any-not p xs t x m = subst (λ (b : Bool). T (not b)) (sym (any-each p xs (is_false (any p xs) t) x m)) tt

swap : (a b : List ℕ) → T (not (same a b)) → T (not (same b a))
swap a b t = not_T (same b a) (λ u. T_not (same a b) t (subst (λ (x : List ℕ). T (same a x)) (sym (same-eq b a u)) (same_refl a)))

-- no cell that is read has a name that was there before
read_new : (ranged : Bool) (k : ℕ) (before : List Cell) (ls : List Line) (cs : List Cell) → read_cells ranged k before ls ≡ holds cs
    → (b d : Cell) → Memᴰ b before → Memᴰ d cs → T (not (same (name_of b) (name_of d)))
unfolding read_cells
read_new ranged k before [] cs e b d m n = absurd (Memᴰ-not-nil (subst (λ (xs : List Cell). Memᴰ d xs) (sym (holds-once e)) n))
read_new ranged k before (l ∷ ls) cs e b d m n =
    let s = read_step ranged k before l ls cs e in
    by_member (subst (λ (xs : List Cell). Memᴰ d xs) (sym s.is_list) n) (λ q.
    subst (λ (x : Cell). T (not (same (name_of b) (name_of x)))) (sym q)
    (swap (name_of s.first) (name_of b) (any-not (λ (x : Cell). same (name_of s.first) (name_of x)) before s.is_new b m)))
    (read_new ranged (suc k) (s.first ∷ before) ls s.rest s.is_rest b d (Memᴰ-tail m))

read_fits : (ranged : Bool) (k : ℕ) (before : List Cell) (ls : List Line) (cs : List Cell) → read_cells ranged k before ls ≡ holds cs → T (library_fits cs)
unfolding read_cells library_fits
read_fits ranged k before [] cs e = subst (λ (xs : List Cell). T (library_fits xs)) (holds-once e) tt
read_fits ranged k before (l ∷ ls) cs e =
    let s = read_step ranged k before l ls cs e in
    subst (λ (xs : List Cell). T (library_fits xs)) s.is_list
    (yes_and (cell_fits s.first) (all (λ (d : Cell). not (same (name_of s.first) (name_of d))) s.rest && library_fits s.rest) (written-fits s.first s.is_written s.is_clean')
    (yes_and (all (λ (d : Cell). not (same (name_of s.first) (name_of d))) s.rest) (library_fits s.rest)
    (all_in (λ (d : Cell). not (same (name_of s.first) (name_of d))) s.rest (λ d m. read_new ranged (suc k) (s.first ∷ before) ls s.rest s.is_rest s.first d (Memᴰ-head refl) m))
    (read_fits ranged (suc k) (s.first ∷ before) ls s.rest s.is_rest)))

read-written : (ranged : Bool) (k : ℕ) (before : List Cell) (ls : List Line) (cs : List Cell) → read_cells ranged k before ls ≡ holds cs → (c : Cell) → Memᴰ c cs → Written c × T (is_clean c)
unfolding read_cells
read-written ranged k before [] cs e c m = absurd (Memᴰ-not-nil (subst (λ (xs : List Cell). Memᴰ c xs) (sym (holds-once e)) m))
read-written ranged k before (l ∷ ls) cs e c m =
    let s = read_step ranged k before l ls cs e in
    by_member (rw s.is_list m) (λ q. rw q (s.is_written, s.is_clean'))
    (read-written ranged (suc k) (s.first ∷ before) ls s.rest s.is_rest c)

-- "No cells and 32 cells are accepted."
read-few : (ranged : Bool) (k : ℕ) (before : List Cell) (ls : List Line) (cs : List Cell) → k ≤ 32 → read_cells ranged k before ls ≡ holds cs → k + length cs ≤ 32
unfolding read_cells
read-few ranged k before [] cs h e = subst (λ (xs : List Cell). k + length xs ≤ 32) (holds-once e) (omega arith)
read-few ranged k before (l ∷ ls) cs h e =
    let s = read_step ranged k before l ls cs e in
    let r : suc k + length s.rest ≤ 32 = read-few ranged (suc k) (s.first ∷ before) ls s.rest s.is_capacity s.is_rest in
    subst (λ (xs : List Cell). k + length xs ≤ 32) s.is_list (omega arith)

-- the lines behind the names line are the cells'
library-lines : (ls : List Line) (cells : List Cell) → read_library_lines ls ≡ holds cells → (ranged : Bool) × (rest : List Line) × (read_cells ranged 0 [] rest ≡ holds cells)
unfolding read_library_lines
library-lines [] cells e = absurd (fault_never e)
library-lines (l ∷ ls) cells e =
    (is_longer l, ls, (unless_out (ended l && (is_shorter l || is_longer l)) 2 0 (read_cells (is_longer l) 0 [] ls) cells e).1)

-- a library text that is read gives a library that fits
pub library-fits : (bytes : List ℕ) (cells : List Cell) → read_library bytes ≡ holds cells → T (library_fits cells)
unfolding read_library
library-fits bytes cells e = let q = library-lines (lines_from 0 [] bytes) cells e in read_fits q.0 0 [] q.1 cells q.2

-- and at most 32 cells
pub library-few : (bytes : List ℕ) (cells : List Cell) → read_library bytes ≡ holds cells → length cells ≤ 32
unfolding read_library
library-few bytes cells e =
    let q = library-lines (lines_from 0 [] bytes) cells e in
    let r : 0 + length cells ≤ 32 = read-few q.0 0 [] q.1 cells (lit≤ tt) q.2 in omega arith

-- and each is as its line gives it, with no table bit or delay of an absent pin
pub library-written : (bytes : List ℕ) (cells : List Cell) → read_library bytes ≡ holds cells → (c : Cell) → Memᴰ c cells → Written c × T (is_clean c)
unfolding read_library
library-written bytes cells e = let q = library-lines (lines_from 0 [] bytes) cells e in read-written q.0 0 [] q.1 cells q.2

-- and no lowest delay is over its delay
read-ranged : (ranged : Bool) (k : ℕ) (before : List Cell) (ls : List Line) (cs : List Cell) → read_cells ranged k before ls ≡ holds cs → (c : Cell) → Memᴰ c cs → T (no_lower c.mins c.delays)
unfolding read_cells
read-ranged ranged k before [] cs e c m = absurd (Memᴰ-not-nil (subst (λ (xs : List Cell). Memᴰ c xs) (sym (holds-once e)) m))
read-ranged ranged k before (l ∷ ls) cs e c m =
    let s = read_step ranged k before l ls cs e in
    by_member (subst (λ (xs : List Cell). Memᴰ c xs) (sym s.is_list) m)
    (λ q. subst (λ (x : Cell). T (no_lower x.mins x.delays)) (sym q) s.is_range)
    (read-ranged ranged (suc k) (s.first ∷ before) ls s.rest s.is_rest c)

pub library-ranged : (bytes : List ℕ) (cells : List Cell) → read_library bytes ≡ holds cells → (c : Cell) → Memᴰ c cells → T (no_lower c.mins c.delays)
unfolding read_library
library-ranged bytes cells e = let q = library-lines (lines_from 0 [] bytes) cells e in read-ranged q.0 0 [] q.1 cells q.2
