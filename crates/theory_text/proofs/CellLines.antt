-- The cells of an accepted library are those of its cell lines, each by its own bytes alone: the same lines in any orders give the same
-- cells.
use Rattle.base.specs.{ℕ, suc, arith, ◌≡◌, refl, sym, ◌∙◌, ap, subst, Bool, not, cond, ◌&&◌, ◌||◌, Option, Some, List, [], ◌∷◌, Memᴰ}
use Rattle.base.specs.{Memᴰ-head, Memᴰ-tail, Memᴰ-not-nil, eqb, ltb, length, get_or, and_yes, eqb_yes}
use Rattle.model.specs.{any, same, only, Line, ended, lines_from, fields, is_name, holds, from?, name_of, cell_of_fields, cell_of_line, is_clean}
use Rattle.model.specs.{no_lower, is_shorter, is_longer, read_cells, read_library_lines, ranged_lines, read_library, behind_first, cell_lines}
use Rattle.model.specs.{SameLines, SameCells}
use Rattle.model.specs.declared.Cell.{Cell}
use Rattle.theory_graph.proofs.{map_in, map_out, by_bool, by_member}
use Rattle.theory_text.proofs.ReadSteps.{holds-once, fault_never, unless_out, next_out, from_out, then_out, only_out}

-- the cell of a line's bytes
abbrev cell_of_bytes : Bool → List ℕ → Option Cell
cell_of_bytes ranged w = cell_of_fields ranged (fields w)

-- a line's fields are of one names line only
pub field_count : (b : Bool) (ws : List (List ℕ)) (x : Cell) → cell_of_fields b ws ≡ Some x → length ws ≡ cond b 12 8
unfolding cell_of_fields
field_count b ws x h =
    let o = then_out (only (eqb (length ws) (cond b 12 8) && is_name (get_or ws 0 [])) ws) _ x h in
    let p = only_out (eqb (length ws) (cond b 12 8) && is_name (get_or ws 0 [])) ws o.0 o.1 in
    eqb_yes (and_yes (eqb (length ws) (cond b 12 8)) (is_name (get_or ws 0 [])) p.0).0

one_form : (r q : Bool) (w : List ℕ) (c d : Cell) → cell_of_bytes r w ≡ Some c → cell_of_bytes q w ≡ Some d → r ≡ q
one_form r q w c d e f = by_bool r (λ p. rw p (by_bool q (λ z. rw z)
    (λ u. rw u (absurd (let z : ⊥ = omega (arith, rw p at (field_count r (fields w) c e), rw u at (field_count q (fields w) d f)) in z)))))
    (λ v. rw v (by_bool q
    (λ g. rw g (absurd (let z : ⊥ = omega (arith, rw v at (field_count r (fields w) c e), rw g at (field_count q (fields w) d f)) in z)))
    (λ e'. rw e')))

line-bytes : (ranged : Bool) (l : Line) (c : Cell) → cell_of_line ranged l ≡ Some c → cell_of_bytes ranged l.bytes ≡ Some c
unfolding cell_of_line
line-bytes ranged l c e =
    let o = then_out (only (ended l) (fields l.bytes)) (cell_of_fields ranged) c e in
    ap (cell_of_fields ranged) (only_out (ended l) (fields l.bytes) o.0 o.1).1 ∙ o.2

-- what one line gives
record First (ranged : Bool) (k : ℕ) (before : List Cell) (l : Line) (ls : List Line) (cs : List Cell) : Type 0 where
  first : Cell
  rest : List Cell
  is_first : cell_of_bytes ranged l.bytes ≡ Some first
  is_rest : read_cells ranged (suc k) (first ∷ before) ls ≡ holds rest
  is_list : first ∷ rest ≡ cs

first-line : (ranged : Bool) (k : ℕ) (before : List Cell) (l : Line) (ls : List Line) (cs : List Cell) → read_cells ranged k before (l ∷ ls) ≡ holds cs → First ranged k before l ls cs
unfolding read_cells
first-line ranged k before l ls cs e =
    let a = unless_out (ltb k 32) 3 l.offset _ cs e in
    let b = next_out (from? (cell_of_line ranged l) 4 l.offset) _ cs a.1 in
    let c = b.0 in
    let d = unless_out (not (any (λ (x : Cell). same (name_of c) (name_of x)) before)) 5 l.offset _ cs b.2 in
    let f = unless_out (is_clean c) 6 l.offset _ cs d.1 in
    let g = unless_out (no_lower c.mins c.delays) 27 l.offset _ cs f.1 in
    let h = next_out (read_cells ranged (suc k) (c ∷ before) ls) (λ xs. holds (c ∷ xs)) cs g.1 in
    record { first = c; rest = h.0; is_first = line-bytes ranged l c (from_out (cell_of_line ranged l) 4 l.offset c b.1); is_rest = h.1; is_list = holds-once h.2 }

cell-line : (ranged : Bool) (k : ℕ) (before : List Cell) (ls : List Line) (cs : List Cell) → read_cells ranged k before ls ≡ holds cs
    → (c : Cell) → Memᴰ c cs → (l : Line) × Memᴰ l ls × (cell_of_bytes ranged l.bytes ≡ Some c)
unfolding read_cells
cell-line ranged k before [] cs e c m = absurd (Memᴰ-not-nil (subst (λ (xs : List Cell). Memᴰ c xs) (sym (holds-once e)) m))
cell-line ranged k before (l ∷ ls) cs e c m =
    let s = first-line ranged k before l ls cs e in
    by_member (rw s.is_list m) (λ q. (l, Memᴰ-head refl, s.is_first ∙ ap Some (sym q)))
    (λ i. let r = (cell-line ranged (suc k) (s.first ∷ before) ls s.rest s.is_rest c) i in (r.0, Memᴰ-tail r.1, r.2))

line-cell : (ranged : Bool) (k : ℕ) (before : List Cell) (ls : List Line) (cs : List Cell) → read_cells ranged k before ls ≡ holds cs
    → (l : Line) → Memᴰ l ls → (c : Cell) × Memᴰ c cs × (cell_of_bytes ranged l.bytes ≡ Some c)
line-cell ranged k before (x ∷ ls) cs e l m = go m (line-cell ranged (suc k) (s.first ∷ before) ls s.rest s.is_rest l)
  where
    s : First ranged k before x ls cs
    s = first-line ranged k before x ls cs e

    go : Memᴰ l (x ∷ ls) → (Memᴰ l ls → (c : Cell) × Memᴰ c s.rest × (cell_of_bytes ranged l.bytes ≡ Some c))
        → (c : Cell) × Memᴰ c cs × (cell_of_bytes ranged l.bytes ≡ Some c)
    go (Memᴰ-head q) later =
        (s.first, subst (λ (xs : List Cell). Memᴰ s.first xs) s.is_list (Memᴰ-head refl), ap (λ (y : Line). cell_of_bytes ranged y.bytes) q ∙ s.is_first)
    go (Memᴰ-tail i) later = let r = later i in (r.0, rw (← s.is_list) (Memᴰ-tail r.1), r.2)
line-cell ranged k before [] cs e l m = elim m [ ]

-- the lines behind the names line
lines-read : (ls : List Line) (cells : List Cell) → read_library_lines ls ≡ holds cells → read_cells (ranged_lines ls) 0 [] (behind_first ls) ≡ holds cells
unfolding read_library_lines behind_first ranged_lines
lines-read [] cells e = absurd (fault_never e)
lines-read (l ∷ ls) cells e = (unless_out (ended l && (is_shorter l || is_longer l)) 2 0 (read_cells (is_longer l) 0 [] ls) cells e).1

read-lines : (bytes : List ℕ) (cells : List Cell) → read_library bytes ≡ holds cells → read_cells (ranged_lines (lines_from 0 [] bytes)) 0 [] (behind_first (lines_from 0 [] bytes)) ≡ holds cells
unfolding read_library
read-lines bytes cells e = lines-read (lines_from 0 [] bytes) cells e

held : (library library' : List ℕ) (cells cells' : List Cell) → read_library library ≡ holds cells → read_library library' ≡ holds cells'
    → ((x : List ℕ) → Memᴰ x (cell_lines library) → Memᴰ x (cell_lines library')) → (c : Cell) → Memᴰ c cells → Memᴰ c cells'
unfolding cell_lines
held library library' cells cells' e e' h c m =
    let ls = behind_first (lines_from 0 [] library) in
    let ls' = behind_first (lines_from 0 [] library') in
    let r = ranged_lines (lines_from 0 [] library) in
    let r' = ranged_lines (lines_from 0 [] library') in
    let a = cell-line r 0 [] ls cells (read-lines library cells e) c m in
    let b = map_out (λ (l : Line). l.bytes) ls' (h a.0.bytes (map_in (λ (l : Line). l.bytes) a.1)) in
    let d = line-cell r' 0 [] ls' cells' (read-lines library' cells' e') b.0 b.1 in
    let f : cell_of_bytes r b.0.bytes ≡ Some c = ap (cell_of_bytes r) (sym b.2) ∙ a.2 in
    let q : Some c ≡ Some d.0 = sym f ∙ ap (λ (x : Bool). cell_of_bytes x b.0.bytes) (one_form r r' b.0.bytes c d.0 f d.2) ∙ d.2 in
    let is : c ≡ d.0 = cc in
    subst (λ (x : Cell). Memᴰ x cells') (sym is) d.1

-- libraries of the same cell lines hold the same cells
pub lines-cells : (library library' : List ℕ) (cells cells' : List Cell) → read_library library ≡ holds cells → read_library library' ≡ holds cells'
    → SameLines library library' → SameCells cells cells'
lines-cells library library' cells cells' e e' s c =
    (held library library' cells cells' e e' (λ x. (s x).0) c, held library' library cells' cells e' e (λ x. (s x).1) c)
