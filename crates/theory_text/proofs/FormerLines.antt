-- Under the shorter names line a library's text is read as it was before there were ranges, and so is a call.
use Rattle.base.specs.{ℕ, zero, suc, ◌^◌, ◌≤◌, le_refl, le_of_suc-le-suc, not-suc-le-zero, arith, ◌≡◌, refl, ◌∙◌, ap, ap₂, subst, Bool}
use Rattle.base.specs.{true, false, not, ◌&&◌, ◌||◌, Option, Some, List, [], ◌∷◌, T, eqb, leb, ltb, le→leb, length, get_or, take, drop}
use Rattle.base.specs.{length-drop, and_yes, eqb_yes}
use Rattle.model.specs.{all, any, same, and_then, only, need, Line, ended, lines_from, fields, numbers, hex_table, is_name, Read, holds, next}
use Rattle.model.specs.{unless, from?, name_of, name_bytes, cell_of_fields, cell_of_line, is_clean, no_lower, is_shorter, read_cells}
use Rattle.model.specs.{read_library_lines, ranged_lines, read_library, is_ranged, cells_for, former_fields, former_line, former_clean, former_cells}
use Rattle.model.specs.{former_lines, former_library, read_header, read_graph, read_arrivals, timed_by, Outcome, refused, mapped, map_graph}
use Rattle.model.specs.{followed, Call, Design, short, read_listed, read_texts, map_design, map_texts, read_former, former_outcome, Former}
use Rattle.model.specs.Graph.{Graph}
use Rattle.model.specs.declared.Cell.{Cell}
use Rattle.theory_graph.proofs.{is_true, by_bool, by_option, by_read}
use Rattle.theory_text.proofs.ReadSteps.{from_out, then_out, only_out, numbers-length}
use Rattle.theory_text.proofs.ReadTexts.{texts-read, listed_plain}
use Rattle.theory_text.proofs.ArrivalFaults.{next-same}

-- ---- a line

-- all of a list that is no longer
take_whole : (k : ℕ) (xs : List ℕ) → length xs ≤ k → take k xs ≡ xs
take_whole zero [] h = refl
take_whole (suc k) [] h = refl
take_whole zero (x ∷ xs) h = absurd (not-suc-le-zero h)
take_whole (suc k) (x ∷ xs) h = ap (λ (ys : List ℕ). x ∷ ys) (take_whole k xs (le_of_suc-le-suc h))

-- the cell of eight fields
module _ (ws : List (List ℕ)) where
  abbrev cell_with : List ℕ → List ℕ → ℕ → Cell
  cell_with ns ds table = record { name = name_bytes (get_or ws 0 []); len = length (get_or ws 0 []); pins = get_or ns 0 0; table = table; area = get_or ns 1 0; delays = ds; mins = drop 2 ns }

  abbrev tabled : List ℕ → List ℕ → Option Cell
  tabled ns ds = and_then (hex_table (get_or ws 2 [])) (λ table. only (leb (get_or ns 0 0) 4) (cell_with ns ds table))

  fields-former : cell_of_fields false ws ≡ former_fields ws
  unfolding cell_of_fields former_fields and_then only
  fields-former = go (eqb (length ws) 8 && is_name (get_or ws 0 [])) (λ t. eqb_yes (and_yes (eqb (length ws) 8) (is_name (get_or ws 0 [])) t).0)
    where
      go : (b : Bool) → (T b → length ws ≡ 8)
          → and_then (only b ws) (λ _. and_then (numbers (get_or ws 1 [] ∷ drop 3 ws)) (λ ns. tabled ns (take 4 (drop 2 ns))))
          ≡ and_then (only b ws) (λ _. and_then (numbers (get_or ws 1 [] ∷ drop 3 ws)) (λ ns. tabled ns (drop 2 ns)))
      go false h = refl
      go true h = by_option (numbers (get_or ws 1 [] ∷ drop 3 ws)) (λ e. rw e) (λ ns q. rw q (let six : length ns ≡ suc
          (length (drop 3 ws)) = numbers-length (get_or ws 1 [] ∷ drop 3 ws) ns q in ap (tabled ns)
          (take_whole 4 (drop 2 ns) (omega (arith, h tt, six, length-drop 3 ws, length-drop 2 ns)))))

  -- whose lowest delays are its delays
  fields-mins : (c : Cell) → former_fields ws ≡ Some c → c.mins ≡ c.delays
  unfolding former_fields
  fields-mins c e =
      let a = then_out (only (eqb (length ws) 8 && is_name (get_or ws 0 [])) ws) (λ _. and_then (numbers (get_or ws 1 [] ∷ drop 3 ws)) (λ ns. tabled ns (drop 2 ns))) c e in
      let b = then_out (numbers (get_or ws 1 [] ∷ drop 3 ws)) (λ ns. tabled ns (drop 2 ns)) c a.2 in
      let d = then_out (hex_table (get_or ws 2 [])) (λ table. only (leb (get_or b.0 0 0) 4) (cell_with b.0 (drop 2 b.0) table)) c b.2 in
      let t = only_out (leb (get_or b.0 0 0) 4) (cell_with b.0 (drop 2 b.0) d.0) c d.2 in
      subst (λ (x : Cell). x.mins ≡ x.delays) t.1 refl

line-former : (l : Line) → cell_of_line false l ≡ former_line l
unfolding cell_of_line former_line and_then only
line-former l = by_bool (ended l) (λ e. cc (fields-former (fields l.bytes))) (λ q. cc)

-- ---- the lines

clean_former : (c : Cell) → c.mins ≡ c.delays → is_clean c ≡ former_clean c
unfolding is_clean former_clean
clean_former c e =
    ap (λ (ls : List ℕ). ltb c.table (2 ^ 2 ^ c.pins) && (all (eqb 0) (drop c.pins c.delays) && all (eqb 0) (drop c.pins ls))) e
    ∙ ap (λ (b : Bool). ltb c.table (2 ^ 2 ^ c.pins) && b) (by_bool (all (eqb 0) (drop c.pins c.delays)) (λ q. cc) (λ p. cc))

-- no lowest delay is over itself
pub none-lower : (ds : List ℕ) → no_lower ds ds ≡ true
unfolding no_lower
none-lower [] = refl
none-lower (d ∷ ds) = ap (λ (b : Bool). leb d d && b) (none-lower ds) ∙ ap (λ (b : Bool). b && true) (is_true (leb d d) (le→leb d d (le_refl d)))

cells-former : (k : ℕ) (before : List Cell) (ls : List Line) → read_cells false k before ls ≡ former_cells k before ls
unfolding read_cells former_cells unless
cells-former k before [] = refl
cells-former k before (l ∷ ls) =
    ap (λ (o : Option Cell). unless (ltb k 32) 3 l.offset (next (from? o 4 l.offset) now')) (line-former l)
    ∙ ap (unless (ltb k 32) 3 l.offset) (next-same (from? (former_line l) 4 l.offset) now' was (λ c e. at c (unfold former_line in
    let o = then_out (only (ended l) (fields l.bytes)) former_fields c (from_out (former_line l) 4 l.offset c e) in fields-mins o.0 c
    o.2) (cells-former (suc k) (c ∷ before) ls)))
  where
    new : Cell → Bool
    new c = not (any (λ (d : Cell). same (name_of c) (name_of d)) before)

    now' : Cell → Read (List Cell)
    now' c = unless (new c) 5 l.offset (unless (is_clean c) 6 l.offset (unless (no_lower c.mins c.delays) 27 l.offset (next (read_cells false (suc k) (c ∷ before) ls) (λ cs. holds (c ∷ cs)))))

    was : Cell → Read (List Cell)
    was c = unless (new c) 5 l.offset (unless (former_clean c) 6 l.offset (next (former_cells (suc k) (c ∷ before) ls) (λ cs. holds (c ∷ cs))))

    at : (c : Cell) → c.mins ≡ c.delays → read_cells false (suc k) (c ∷ before) ls ≡ former_cells (suc k) (c ∷ before) ls → now' c ≡ was c
    at c e ih = rw ((clean_former c e), (ap (λ (ds : List ℕ). no_lower ds c.delays) e ∙ none-lower c.delays), ih) refl

lines-former : (ls : List Line) → ranged_lines ls ≡ false → read_library_lines ls ≡ former_lines ls
unfolding read_library_lines former_lines ranged_lines is_shorter
lines-former [] e = refl
lines-former (l ∷ ls) e = ap (λ (b : Bool). unless (ended l && (is_shorter l || b)) 2 0 (read_cells b 0 [] ls)) e
    ∙ ap (λ (b : Bool). unless (ended l && b) 2 0 (read_cells false 0 [] ls)) (by_bool (is_shorter l) (λ q. cc) (λ p. cc))
    ∙ ap (unless (ended l && is_shorter l) 2 0) (cells-former 0 [] ls)

library-former : (s : List ℕ) → is_ranged s ≡ false → read_library s ≡ former_library s
unfolding read_library former_library is_ranged
library-former s e = lines-former (lines_from 0 [] s) e

-- ---- the call

reads-former : (c : Call) → c.paired ≡ false → is_ranged c.library ≡ false → read_texts c ≡ read_former c
unfolding read_texts cells_for
reads-former c p e =
    let behind : Bool → Bool → List Cell → Read Design = λ b r cells. next (read_header c.graph) (λ h.
    unless (leb (need h.size h.outputs) c.words) 10 0 (next (read_graph c.graph h) (λ g.
    next (read_arrivals h.inputs c.arrivals)
    (λ es. holds (record { listed = cells; cells = cells_for b cells; ranged = r; graph = timed_by g es }))))) in
    ap₂ (λ (b r : Bool). unless (short c) 1 0 (next (read_listed b c.library) (behind b r))) p e
    ∙ ap (λ (r : Read (List Cell)). unless (short c) 1 0 (next r (behind false false))) (listed_plain c.library ∙ library-former c.library e)

outcome-former : (c : Call) → c.paired ≡ false → is_ranged c.library ≡ false → map_texts c ≡ former_outcome c.bytes (read_former c)
unfolding map_texts map_design former_outcome followed
outcome-former c p e = by_read (read_texts c)
    (λ d r. cc ((texts-read c d r).is_range, unfollowed d.cells d.graph (map_graph d.listed d.cells d.graph))) (λ n k q. cc)
    ∙ ap (former_outcome c.bytes) (reads-former c p e)
  where
    unfollowed : (cells : List Cell) (g : Graph) (o : Outcome) → followed false cells g o ≡ o
    unfollowed cells g (refused n k) = refl
    unfollowed cells g (mapped t f) = refl

pub demand_former : (c : Call) → Former c
demand_former c = record { reads = reads-former c; outcome = outcome-former c }
