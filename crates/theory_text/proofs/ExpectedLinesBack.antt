-- Expected lines that are written read back: a line of numbers gives its numbers, and lines that define nothing twice give their items.
use Rattle.base.specs.{ℕ, suc, ◌+◌, ◌*◌, ◌%◌, ◌≤◌, ◌<◌, arith, ◌≡◌, refl, sym, ◌∙◌, ap, subst, Bool, true, false, not, cond, ◌&&◌, ◌||◌}
use Rattle.base.specs.{Option, Some, List, [], ◌∷◌, ◌++◌, map, append_assoc, append-nil, Memᴰ, Memᴰ-head, Memᴰ-tail}
use Rattle.base.specs.{Memᴰ-not-nil, Memᴰ-cast, T, eqb, leb, leb→le, le→leb, not_T, lit<, length, get_or, drop, yes_and, yes_eqb}
use Rattle.model.specs.{all, elem, keep, each, same, and_then, only, decimal, lines_from, fields, number, numbers, Read, holds, next, unless}
use Rattle.model.specs.{from?, var_of, closed, Kind, how_many, defines, Item, item_literals, read_expected, uses, defined_by, is_kind, same_kind}
use Rattle.model.specs.{numbers_line, Distinct}
use Rattle.theory_graph.proofs.{is_true, same_refl, all_of, all_in, elem_out, by_bool}
use Rattle.theory_text.proofs.PlainLines.{Free, above, free_append, decimal-free}
use Rattle.theory_text.proofs.LineLaws.{line_of_bytes, line_first, fields-word, fields-last}
use Rattle.theory_text.proofs.NetlistNames.{decimal-value}
use Rattle.theory_text.proofs.GraphItems.{head, kinds_of, defined_cons}

-- ---- a line of numbers

pub number-back : (n : ℕ) → n ≤ 65535 → number (decimal n) ≡ Some n
unfolding number only
number-back n h = ap (λ (m : ℕ). only (leb m 65535 && same (decimal n) (decimal m)) m) (decimal-value n) ∙ ap (λ (b : Bool). only b n)
    (is_true (leb n 65535 && same (decimal n) (decimal n))
    (yes_and (leb n 65535) (same (decimal n) (decimal n)) (le→leb n 65535 h) (same_refl (decimal n))))

pub numbers-back : (ns : List ℕ) → T (all (λ (n : ℕ). leb n 65535) ns) → numbers (map decimal ns) ≡ Some ns
unfolding numbers and_then all
numbers-back [] t = refl
numbers-back (n ∷ ns) t = ap (λ (o : Option ℕ). and_then o (λ k. and_then (numbers (map decimal ns)) (λ ks. Some (k ∷ ks))))
    (number-back n (leb→le n 65535 (all_of (λ (k : ℕ). leb k 65535) (n ∷ ns) t n (Memᴰ-head refl))))
    ∙ ap (λ (o : Option (List ℕ)). and_then o (λ ks. Some (n ∷ ks)))
    (numbers-back ns (all_in (λ (k : ℕ). leb k 65535) ns (λ k m. all_of (λ (j : ℕ). leb j 65535) (n ∷ ns) t k (Memᴰ-tail m))))

-- numbers with one space between
abbrev pub spaced : List ℕ → List ℕ
spaced ns = each (λ (k : ℕ). 32 ∷ decimal k) ns

abbrev pub words : ℕ → List ℕ → List ℕ
words n ns = decimal n ++ spaced ns

pub fields-numbers : (w : List ℕ) → Free 32 w → (ns : List ℕ) → fields (w ++ spaced ns) ≡ w ∷ map decimal ns
unfolding each
fields-numbers w f [] = ap fields (append-nil w) ∙ fields-last w f
fields-numbers w f (n ∷ ns) = cc (fields-word w (decimal n ++ spaced ns) f, fields-numbers (decimal n) (decimal-free 32 n (lit< tt)) ns)

spaced-free : (s : ℕ) → s < 32 → (ns : List ℕ) → Free s (spaced ns)
unfolding each
spaced-free s h [] = tt
spaced-free s h (n ∷ ns) = (above s 32 h, free_append s (decimal n) (spaced ns) (decimal-free s n (omega arith)) (spaced-free s h ns))

-- no byte below a space stands in it
pub words-free : (s : ℕ) → s < 32 → (n : ℕ) (ns : List ℕ) → Free s (words n ns)
words-free s h n ns = free_append s (decimal n) (spaced ns) (decimal-free s n (omega arith)) (spaced-free s h ns)

pub line-ends : (n : ℕ) (ns rest : List ℕ) → numbers_line n ns ++ rest ≡ words n ns ++ (10 ∷ rest)
unfolding numbers_line
line-ends n ns rest = append_assoc (decimal n) (spaced ns ++ (10 ∷ [])) rest
    ∙ ap (λ (x : List ℕ). decimal n ++ x) (append_assoc (spaced ns) (10 ∷ []) rest) ∙ sym (append_assoc (decimal n) (spaced ns) (10 ∷ rest))

pub numbers-first : (at n : ℕ) (ns rest : List ℕ) → lines_from at [] (numbers_line n ns ++ rest) ≡ line_of_bytes at (words n ns) ∷ lines_from (at + suc (length (words n ns))) [] rest
numbers-first at n ns rest = ap (lines_from at []) (line-ends n ns rest) ∙ line_first at (words n ns) rest (words-free 10 (lit< tt) n ns) (words-free 13 (lit< tt) n ns)

-- ---- expected lines that are written read back

-- the line of an item, its first literal apart
abbrev pub item_line : Item → List ℕ
item_line i = numbers_line (get_or i.literals 0 0) (drop 1 i.literals)

-- the items of lines that stand one behind the other from a place on
pub items_at : ℕ → List Item → List Item
items_at at [] = []
items_at at (i ∷ is) =
    record { kind = i.kind; offset = at; literals = i.literals } ∷ items_at (at + suc (length (words (get_or i.literals 0 0) (drop 1 i.literals)))) is

-- an item that a line can be written for: of its kind's length, its literals in range, and the one that it defines even and not 0
pub record Row (size : ℕ) (i : Item) : Type 0 where
  pub first : ℕ
  pub more : List ℕ
  pub is_literals : i.literals ≡ first ∷ more
  pub long : suc (length more) ≡ how_many i.kind
  pub low : T (all (λ (n : ℕ). leb n (2 * size + 1)) i.literals)
  pub even : T (not (defines i.kind) || (eqb (get_or i.literals 0 0 % 2) 0 && not (eqb (get_or i.literals 0 0) 0)))

-- its literals read back from its line
row_back : (size at : ℕ) (i : Item) → size ≤ 4095 → Row size i
    → item_literals (closed false) i.kind (line_of_bytes at (words (get_or i.literals 0 0) (drop 1 i.literals))) ≡ Some i.literals
unfolding item_literals and_then only
row_back size at i small r =
    ap (λ (ns : List ℕ). item_literals (closed false) i.kind (line_of_bytes at (words (get_or ns 0 0) (drop 1 ns)))) r.is_literals
    ∙ ap (λ (ws : List (List ℕ)). and_then (only (eqb (length ws) (how_many i.kind)) ws) numbers)
    (fields-numbers (decimal r.first) (decimal-free 32 r.first (lit< tt)) r.more)
    ∙ ap (λ (b : Bool). and_then (only b (map decimal (r.first ∷ r.more))) numbers)
    (is_true (eqb (length (map decimal (r.first ∷ r.more))) (how_many i.kind))
    (yes_eqb (ap suc (lib.ListN.length-map r.more decimal) ∙ r.long))) ∙ numbers-back (r.first ∷ r.more)
    (all_in (λ (n : ℕ). leb n 65535) (r.first ∷ r.more) (λ n m. le→leb n 65535 (let q : n ≤ 2 * size + 1 = leb→le n (2 * size + 1)
    (all_of (λ (k : ℕ). leb k (2 * size + 1)) i.literals r.low n (rw r.is_literals m)) in omega arith)))
    ∙ ap Some (sym r.is_literals)

-- the lines of such items read back, if they define nothing twice
pub rows_back : (end size : ℕ) → size ≤ 4095 → (at : ℕ) (before : List ℕ) (is : List Item) → ((i : Item) → Memᴰ i is → Row size i) → Distinct (defined_by is)
    → ((x : ℕ) → Memᴰ x (defined_by is) → ¬ Memᴰ x before) → read_expected (closed false) end size before (kinds_of is) (lines_from at [] (each item_line is)) ≡ holds (items_at at is)
unfolding read_expected each items_at next unless from?
rows_back end size small at before [] rows once new = refl
rows_back end size small at before (i ∷ is) rows once new =
    let n = get_or i.literals 0 0 in
    let ns = drop 1 i.literals in
    let row = rows i (Memᴰ-head refl) in
    let behind = lines_from (at + suc (length (words n ns))) [] (each item_line is) in
    let read : List ℕ → Read (List Item) = λ ls. unless
    (all (λ (k : ℕ). leb k (2 * size + 1)) ls && (not (defines i.kind) || (eqb (get_or ls 0 0 % 2) 0 && not (eqb (get_or ls 0 0) 0)))) 12 at
    (unless (not (defines i.kind && elem (var_of (get_or ls 0 0)) before)) 13 at (next
    (read_expected (closed false) end size (cond (defines i.kind) (var_of (get_or ls 0 0) ∷ before) before) (kinds_of is) behind)
    (λ js. holds (record { kind = i.kind; offset = at; literals = ls } ∷ js)))) in
    let rest = next (read_expected (closed false) end size (cond (defines i.kind) (head i ∷ before) before) (kinds_of is) behind)
    (λ js. holds (record { kind = i.kind; offset = at; literals = i.literals } ∷ js)) in
    ap (read_expected (closed false) end size before (i.kind ∷ kinds_of is)) (numbers-first at n ns (each item_line is))
    ∙ ap (λ (o : Option (List ℕ)). next (from? o 11 at) read) (row_back size at i small row)
    ∙ ap (λ (b : Bool). unless b 12 at (unless (not (defines i.kind && elem (head i) before)) 13 at rest))
    (is_true (all (λ (k : ℕ). leb k (2 * size + 1)) i.literals && (not (defines i.kind) || (eqb (n % 2) 0 && not (eqb n 0)))) (yes_and (all (λ (k : ℕ). leb k (2 * size + 1)) i.literals) (not (defines i.kind) || (eqb (n % 2) 0 && not (eqb n 0))) row.low row.even))
    ∙ ap (λ (b : Bool). unless b 13 at rest) (is_true (not (defines i.kind && elem (head i) before)) (by_bool (defines i.kind) (λ d.
    rw d (not_T (elem (head i) before) (λ t. new (head i)
    (subst (λ (xs : List ℕ). Memᴰ (head i) xs) (sym (defined_cons true i is d)) (Memᴰ-head refl))
    (elem_out (head i) before (is_true (elem (head i) before) t))))) (λ e. rw e tt)))
    ∙ ap (λ (r : Read (List Item)). next r (λ js. holds (record { kind = i.kind; offset = at; literals = i.literals } ∷ js)))
    (rows_back end size small (at + suc (length (words n ns))) (cond (defines i.kind) (head i ∷ before) before) is (λ j m. rows j (Memᴰ-tail m)) (later (defines i.kind) refl).0 (later (defines i.kind) refl).1)
  where
    later : (b : Bool) → defines i.kind ≡ b → Distinct (defined_by is) × ((x : ℕ) → Memᴰ x (defined_by is) → ¬ Memᴰ x (cond b (head i ∷ before) before))
    later true d = ((subst Distinct (defined_cons true i is d) once).1, (λ x m k. either x m k))
      where
        either : (x : ℕ) → Memᴰ x (defined_by is) → ¬ Memᴰ x (head i ∷ before)
        either x m (Memᴰ-head e) = (subst Distinct (defined_cons true i is d) once).0 (Memᴰ-cast (sym e) m)
        either x m (Memᴰ-tail k) = new x (subst (λ (xs : List ℕ). Memᴰ x xs) (sym (defined_cons true i is d)) (Memᴰ-tail m)) k
    later false d =
        let o : Distinct (defined_by is) = subst Distinct (defined_cons false i is d) once in
        (o, (λ x m. new x (subst (λ (xs : List ℕ). Memᴰ x xs) (sym (defined_cons false i is d)) m)))

-- ---- a line's place is of no matter to the graph

module _ {B : Type 0} (f : List ℕ → B) (k : Kind) where
  pub kept_anywhere : (at : ℕ) (is : List Item) → map (λ (i : Item). f i.literals) (keep (is_kind k) (items_at at is)) ≡ map (λ (i : Item). f i.literals) (keep (is_kind k) is)
  unfolding items_at keep is_kind
  kept_anywhere at [] = refl
  kept_anywhere at (i ∷ is) = by_bool (same_kind k i.kind)
      (λ e. cc (kept_anywhere (at + suc (length (words (get_or i.literals 0 0) (drop 1 i.literals)))) is))
      (λ q. cc (kept_anywhere (at + suc (length (words (get_or i.literals 0 0) (drop 1 i.literals)))) is))

pub defined_anywhere : (at : ℕ) (is : List Item) → defined_by (items_at at is) ≡ defined_by is
unfolding items_at defined_by
defined_anywhere at [] = refl
defined_anywhere at (i ∷ is) = cc (defined_anywhere (at + suc (length (words (get_or i.literals 0 0) (drop 1 i.literals)))) is)

-- an item of these, at its place
pub found_anywhere : (at : ℕ) (is : List Item) (i : Item) → Memᴰ i (items_at at is) → (j : Item) × Memᴰ j is × (uses i ≡ uses j)
unfolding items_at uses
found_anywhere at [] i m = absurd (Memᴰ-not-nil m)
found_anywhere at (j ∷ is) i (Memᴰ-head e) = (j, Memᴰ-head refl, ap (λ (x : Item). cond (defines x.kind) (drop 1 x.literals) x.literals) e)
found_anywhere at (j ∷ is) i (Memᴰ-tail m) =
    let r = found_anywhere (at + suc (length (words (get_or j.literals 0 0) (drop 1 j.literals)))) is i m in (r.0, Memᴰ-tail r.1, r.2)
