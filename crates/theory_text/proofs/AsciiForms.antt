-- Texts that mean the same graph: a graph's ASCII form means it again, and the outcome of a call hangs on the graph that its text means.
--     ascii-means         a graph that some text means is meant by its ASCII form too
--     means-outcome       two texts that mean the same graph have the same outcome
use Rattle.base.specs.{ℕ, suc, ◌+◌, ◌*◌, ◌%◌, ◌≤◌, arith, ◌≡◌, refl, sym, ◌∙◌, ap, ap₂, subst, fun_ext, ◌⊎◌, inl, inr, ⊎_elim, Bool, true}
use Rattle.base.specs.{false, not, cond, ◌&&◌, ◌||◌, Option, Some, List, [], ◌∷◌, ◌++◌, map, append_assoc, append-nil, map-append}
use Rattle.base.specs.{Memᴰ, Memᴰ-not-nil, Memᴰ-append_cases, Memᴰ-append_left, Memᴰ-append_right, Memᴰ-cast, T, eqb, leb}
use Rattle.base.specs.{le→leb, lit<, length, get_or, drop, replicate, yes_and, yes_eqb, no_eqb}
use Rattle.model.specs.{all, elem, keep, each, same, and_then, only, Line, next_of, text, decimal, lines_from, numbers, Read, holds, next}
use Rattle.model.specs.{unless, from?, And, var_of, and_vars, closed, header_of_numbers, header_of, in_limits, in_sequence, read_header, Kind}
use Rattle.model.specs.{an_input, an_output, an_and, how_many, defines, expected, Item, read_expected, read_items, uses, defined_by, check_uses, is_kind}
use Rattle.model.specs.{same_kind, graph_of, read_graph, numbers_line, ascii_text, read_arrivals, timed_by, Call, Design, design_of, read_listed}
use Rattle.model.specs.{read_texts, map_design, map_texts, Distinct, on_graph, need}
use Rattle.model.specs.Graph.{Graph}
use Rattle.model.specs.Demands.{Means}
use Rattle.model.specs.declared.Cell.{Cell}
use Rattle.model.specs.declared.Header.{Header}
use Rattle.theory_graph.proofs.{is_true, all_in, elem-T, map-map, map_in, map_out, each_in, keep_append, by_bool, by_member}
use Rattle.theory_text.proofs.PlainLines.{decimal-free}
use Rattle.theory_text.proofs.LineLaws.{line_of_bytes, line_first, fields-word}
use Rattle.theory_text.proofs.GraphItems.{head, kinds_of, defined_cons}
use Rattle.theory_text.proofs.Binary.{defined_append, uses_in}
use Rattle.theory_text.specs.{GraphFits}
use Rattle.theory_text.proofs.ReadGraph.{Known, graph-known, graph-fits, graph-counted, graph-untimed, keep_of}
use Rattle.theory_text.proofs.ExpectedLinesBack.{numbers-back, words, fields-numbers, words-free, line-ends, item_line, items_at, Row, rows_back}
use Rattle.theory_text.proofs.ExpectedLinesBack.{kept_anywhere, defined_anywhere, found_anywhere}

-- ---- the lines of a graph

abbrev input_row : ℕ → Item
input_row v = record { kind = an_input; offset = 0; literals = 2 * v ∷ [] }

abbrev output_row : ℕ → Item
output_row l = record { kind = an_output; offset = 0; literals = l ∷ [] }

abbrev and_row : And → Item
and_row a = record { kind = an_and; offset = 0; literals = 2 * a.var ∷ a.left ∷ a.right ∷ [] }

abbrev rows_of : Graph → List Item
rows_of g = map input_row g.inputs ++ (map output_row g.outputs ++ map and_row g.ands)

-- a list of lines that are written, one kind of them
each_map : {A : Type 0} (row : A → Item) (xs : List A) → each (λ (x : A). item_line (row x)) xs ≡ each item_line (map row xs)
unfolding each
each_map row [] = refl
each_map row (x ∷ xs) = ap (λ (l : List ℕ). item_line (row x) ++ l) (each_map row xs)

each_append : (is js : List Item) → each item_line (is ++ js) ≡ each item_line is ++ each item_line js
unfolding each
each_append [] js = refl
each_append (i ∷ is) js = ap (λ (l : List ℕ). item_line i ++ l) (each_append is js) ∙ sym (append_assoc (item_line i) (each item_line is) (each item_line js))

kinds_are : {A : Type 0} (row : A → Item) (k : Kind) → ((x : A) → (row x).kind ≡ k) → (xs : List A) → kinds_of (map row xs) ≡ replicate (length xs) k
kinds_are row k e [] = refl
kinds_are row k e (x ∷ xs) = ap₂ (λ (a : Kind) (b : List Kind). a ∷ b) (e x) (kinds_are row k e xs)

kept_are : {A : Type 0} (row : A → Item) (k j : Kind) → ((x : A) → (row x).kind ≡ j) → (xs : List A) → keep (is_kind k) (map row xs) ≡ cond (same_kind k j) (map row xs) []
unfolding keep
kept_are row k j e [] = by_bool (same_kind k j) (λ q. cc) (λ p. cc)
kept_are row k j e (x ∷ xs) = keep_of k j (row x) (map row xs) (e x) ∙ by_bool (same_kind k j)
    (λ q. rw q (ap (λ (l : List Item). row x ∷ l) (rw q at (kept_are row k j e xs)))) (λ p. rw p (rw p at (kept_are row k j e xs)))

defined_are : {A : Type 0} (row : A → Item) (var : A → ℕ) → ((x : A) → defines (row x).kind ≡ true) → ((x : A) → head (row x) ≡ var x) → (xs : List A) → defined_by (map row xs) ≡ map var xs
unfolding defined_by
defined_are row var d e [] = refl
defined_are row var d e (x ∷ xs) = defined_cons true (row x) (map row xs) (d x) ∙ ap₂ (λ (a : ℕ) (b : List ℕ). a ∷ b) (e x) (defined_are row var d e xs)

undefined_are : (ls : List ℕ) → defined_by (map output_row ls) ≡ []
unfolding defined_by defines
undefined_are [] = refl
undefined_are (l ∷ ls) = undefined_are ls

map_id : (xs : List ℕ) → map (λ (x : ℕ). x) xs ≡ xs
map_id [] = refl
map_id (x ∷ xs) = ap (λ (l : List ℕ). x ∷ l) (map_id xs)

twice-var : (v : ℕ) → var_of (2 * v) ≡ v
unfolding var_of
twice-var v = omega arith

-- ---- a graph that some text means

module _ (g : Graph) (fits : GraphFits g) (known : Known g) (untimed : (λ (v : ℕ). 0) ≡ g.input_arrival) where
  abbrev rows : List Item
  rows = rows_of g

  vars : defined_by rows ≡ g.inputs ++ and_vars g
  unfolding defines
  vars = defined_append (map input_row g.inputs) (map output_row g.outputs ++ map and_row g.ands) ∙ ap₂ (λ (xs ys : List ℕ). xs ++ ys)
      (defined_are input_row (λ (v : ℕ). v) (λ v. refl) twice-var g.inputs ∙ map_id g.inputs)
      (defined_append (map output_row g.outputs) (map and_row g.ands) ∙ ap₂ (λ (xs ys : List ℕ). xs ++ ys) (undefined_are g.outputs)
      (defined_are and_row (λ (a : And). a.var) (λ a. refl) (λ a. twice-var a.var) g.ands))

  -- a variable that is defined is not 0
  nonzero : (v : ℕ) → Memᴰ v (g.inputs ++ and_vars g) → ¬ (v ≡ 0)
  nonzero v m e = known.once.0 (Memᴰ-cast (sym e) m)

  -- and its literal can be written
  even-row : (v : ℕ) → Memᴰ v (g.inputs ++ and_vars g) → T (eqb (2 * v % 2) 0 && not (eqb (2 * v) 0))
  even-row v m = yes_and (eqb (2 * v % 2) 0) (not (eqb (2 * v) 0)) (yes_eqb (let q : 2 * v % 2 ≡ 0 = omega arith in q))
      (no_eqb (let z : ¬ (2 * v ≡ 0) = λ e. nonzero v m (let q : v ≡ 0 = omega arith in q) in z))

  low-var : (v : ℕ) → Memᴰ v (g.inputs ++ and_vars g) → T (leb (2 * v) (2 * g.size + 1))
  low-var v m = le→leb (2 * v) (2 * g.size + 1) (let q : v ≤ g.size = known.in_range v m in omega arith)

  row_of : (i : Item) → Memᴰ i rows → Row g.size i
  unfolding all how_many defines
  row_of i m = first (Memᴰ-append_cases (map input_row g.inputs) m)
    where
      input : (v : ℕ) → Memᴰ v g.inputs → Row g.size (input_row v)
      input v n =
          let d : Memᴰ v (g.inputs ++ and_vars g) = Memᴰ-append_left (and_vars g) n in
          record { first = 2 * v; more = []; is_literals = refl; long = refl; low = yes_and (leb (2 * v) (2 * g.size + 1)) true (low-var v d) tt; even = even-row v d }

      first : Memᴰ i (map input_row g.inputs) ⊎ Memᴰ i (map output_row g.outputs ++ map and_row g.ands) → Row g.size i
      first (inl n) = let o = map_out input_row g.inputs n in subst (Row g.size) (sym o.2) (input o.0 o.1)
      first (inr n) = ⊎_elim (λ q. let o = map_out output_row g.outputs q in rw o.2 (record {
        first = o.0;
        more = [];
        is_literals = refl;
        long = refl;
        low = yes_and (leb o.0 (2 * g.size + 1)) true (le→leb o.0 (2 * g.size + 1) (fits.low.outputs o.0 o.1)) tt;
        even = tt;
      })) (λ e. let o = map_out and_row g.ands e in rw o.2 (let d : Memᴰ o.0.var
          (g.inputs ++ and_vars g) = Memᴰ-append_right g.inputs (map_in (λ (b : And). b.var) o.1) in record {
            first = 2 * o.0.var;
            more = o.0.left ∷ o.0.right ∷ [];
            is_literals = refl;
            long = refl;
            low = yes_and (leb (2 * o.0.var) (2 * g.size + 1)) _ (low-var o.0.var d)
                (yes_and (leb o.0.left (2 * g.size + 1)) _ (le→leb o.0.left (2 * g.size + 1) (fits.low.lefts o.0 o.1))
                (yes_and (leb o.0.right (2 * g.size + 1)) true
                (le→leb o.0.right (2 * g.size + 1) (fits.low.rights o.0 o.1)) tt));
            even = even-row o.0.var d;
          })) (Memᴰ-append_cases (map output_row g.outputs) n)

  -- what a line of the graph uses is defined
  row-uses : (i : Item) → Memᴰ i rows → (l : ℕ) → Memᴰ l (uses i) → Memᴰ (var_of l) (0 ∷ g.inputs ++ and_vars g)
  unfolding uses defines
  row-uses i m l n = ⊎_elim (λ k. let o = map_out input_row g.inputs k in absurd (Memᴰ-not-nil (at (input_row o.0) o.2)))
      (λ q. ⊎_elim (λ k. let o = map_out output_row g.outputs k in known.used l (Memᴰ-append_left
      (each (λ (a : And). a.left ∷ a.right ∷ []) g.ands)
      (by_member (at (output_row o.0) o.2) (λ e. Memᴰ-cast e o.1) (λ q. absurd (Memᴰ-not-nil q))))) (λ e.
      let o = map_out and_row g.ands e in known.used l
      (Memᴰ-append_right g.outputs (each_in (λ (a : And). a.left ∷ a.right ∷ []) o.1 (at (and_row o.0) o.2))))
      (Memᴰ-append_cases (map output_row g.outputs) q)) (Memᴰ-append_cases (map input_row g.inputs) m)
    where
      at : (j : Item) → i ≡ j → Memᴰ l (uses j)
      at j e = subst (λ (x : Item). Memᴰ l (uses x)) e n

  -- the lines pass 14
  rows-used : (at : ℕ) → check_uses (defined_by (items_at at rows)) (items_at at rows) ≡ holds (items_at at rows)
  rows-used at = uses_in (defined_by (items_at at rows)) (items_at at rows) (λ i m.
      all_in (λ (l : ℕ). elem (var_of l) (0 ∷ defined_by (items_at at rows))) (uses i) (λ l n. let f = found_anywhere at rows i m in elem-T
      (var_of l) (0 ∷ defined_by (items_at at rows)) (rw (defined_anywhere at rows ∙ vars) (row-uses f.0 f.1 l (rw (← f.2) n)))))

  -- and give the graph
  kept : (k : Kind) → keep (is_kind k) rows
      ≡ cond (same_kind k an_input) (map input_row g.inputs) [] ++ (cond (same_kind k an_output) (map output_row g.outputs) [] ++ cond (same_kind k an_and) (map and_row g.ands) [])
  kept k = keep_append (is_kind k) (map input_row g.inputs) (map output_row g.outputs ++ map and_row g.ands)
      ∙ ap₂ (λ (xs ys : List Item). xs ++ ys) (kept_are input_row k an_input (λ v. refl) g.inputs)
      (keep_append (is_kind k) (map output_row g.outputs) (map and_row g.ands) ∙ ap₂ (λ (xs ys : List Item). xs ++ ys)
      (kept_are output_row k an_output (λ l. refl) g.outputs) (kept_are and_row k an_and (λ a. refl) g.ands))

  rows-graph : (at : ℕ) → graph_of g.size (items_at at rows) ≡ g
  unfolding graph_of same_kind
  rows-graph at =
      let outs : (k : ℕ) → map (λ (i : Item). get_or i.literals 0 0)
      (keep (is_kind an_output) (items_at k rows)) ≡ g.outputs = λ k. kept_anywhere (λ (ns : List ℕ). get_or ns 0 0) an_output k rows
      ∙ ap (map (λ (i : Item). get_or i.literals 0 0)) (kept an_output ∙ append-nil (map output_row g.outputs))
      ∙ map-map (λ (i : Item). get_or i.literals 0 0) output_row g.outputs ∙ map_id g.outputs in
      made (ins at) (outs at) (ands at)
    where
      ins : (k : ℕ) → map (λ (i : Item). var_of (get_or i.literals 0 0)) (keep (is_kind an_input) (items_at k rows)) ≡ g.inputs
      ins k = kept_anywhere (λ (ns : List ℕ). var_of (get_or ns 0 0)) an_input k rows
          ∙ ap (map head) (kept an_input ∙ append-nil (map input_row g.inputs)) ∙ map-map head input_row g.inputs ∙ back g.inputs
        where
          back : (vs : List ℕ) → map (λ (v : ℕ). var_of (2 * v)) vs ≡ vs
          back [] = refl
          back (v ∷ vs) = ap₂ (λ (a : ℕ) (b : List ℕ). a ∷ b) (twice-var v) (back vs)

      ands : (k : ℕ) → map (λ (i : Item). record { var = var_of (get_or i.literals 0 0); left = get_or i.literals 1 0; right = get_or i.literals 2 0 }) (keep (is_kind an_and) (items_at k rows)) ≡ g.ands
      ands k =
          kept_anywhere (λ (ns : List ℕ). record { var = var_of (get_or ns 0 0); left = get_or ns 1 0; right = get_or ns 2 0 }) an_and k rows
          ∙ ap (map (λ (i : Item). record { var = var_of (get_or i.literals 0 0); left = get_or i.literals 1 0; right = get_or i.literals 2 0 })) (kept an_and)
          ∙ map-map (λ (i : Item). record { var = var_of (get_or i.literals 0 0); left = get_or i.literals 1 0; right = get_or i.literals 2 0 }) and_row g.ands
          ∙ back g.ands
        where
          back : (as' : List And) → map (λ (a : And). record { var = var_of (2 * a.var); left = a.left; right = a.right }) as' ≡ as'
          back [] = refl
          back (a ∷ as') = ap₂ (λ (x : And) (b : List And). x ∷ b) (ap (λ (v : ℕ). record { var = v; left = a.left; right = a.right }) (twice-var a.var)) (back as')

      made : {is os : List ℕ} {as' : List And} → is ≡ g.inputs → os ≡ g.outputs → as' ≡ g.ands → record { size = g.size; inputs = is; outputs = os; ands = as'; input_arrival = λ _. 0 } ≡ g
      made {os = os} {as' = as'} p q r =
          ap (λ (x : List ℕ). record { size = g.size; inputs = x; outputs = os; ands = as'; input_arrival = λ _. 0 }) p
          ∙ ap (λ (x : List ℕ). record { size = g.size; inputs = g.inputs; outputs = x; ands = as'; input_arrival = λ _. 0 }) q
          ∙ ap (λ (x : List And). record { size = g.size; inputs = g.inputs; outputs = g.outputs; ands = x; input_arrival = λ _. 0 }) r
          ∙ ap (λ (f : ℕ → ℕ). record { size = g.size; inputs = g.inputs; outputs = g.outputs; ands = g.ands; input_arrival = f }) untimed

  -- ---- the ASCII form's text

  abbrev counts : List ℕ
  counts = length g.inputs ∷ 0 ∷ length g.outputs ∷ length g.ands ∷ []

  -- the header's line without its end
  abbrev head_bytes : List ℕ
  head_bytes = 97 ∷ 97 ∷ 103 ∷ 32 ∷ words g.size counts

  -- the header that is read
  abbrev ascii_header : Header
  ascii_header = header_of_numbers false (next_of (line_of_bytes 0 head_bytes)) (g.size ∷ counts)

  text-is : ascii_text g ≡ head_bytes ++ (10 ∷ each item_line rows)
  unfolding ascii_text text
  text-is =
      ap (λ (x : List ℕ). 97 ∷ 97 ∷ 103 ∷ 32 ∷ x)
      (ap (λ (x : List ℕ). numbers_line g.size counts ++ x) (ap₂ (λ (x y : List ℕ). x ++ y) (each_map input_row g.inputs) (ap₂
      (λ (x y : List ℕ). x ++ y) (each_map output_row g.outputs) (each_map and_row g.ands) ∙ sym
      (each_append (map output_row g.outputs) (map and_row g.ands))) ∙ sym
      (each_append (map input_row g.inputs) (map output_row g.outputs ++ map and_row g.ands))) ∙ line-ends g.size counts
      (each item_line rows))

  -- the header's line, and those behind it
  head-line : lines_from 0 [] (ascii_text g) ≡ line_of_bytes 0 head_bytes ∷ lines_from (0 + suc (length head_bytes)) [] (each item_line rows)
  head-line = ap (lines_from 0 []) text-is ∙ line_first 0 head_bytes (each item_line rows) (refl, (refl, (refl, (refl, words-free 10 (lit< tt) g.size counts)))) (refl, (refl, (refl, (refl, words-free 13 (lit< tt) g.size counts))))

  few : T (all (λ (n : ℕ). leb n 65535) (g.size ∷ counts))
  unfolding all
  few = yes_and (leb g.size 65535) _ (le→leb g.size 65535 (omega (arith, fits.size))) (yes_and (leb (length g.inputs) 65535) _
      (le→leb (length g.inputs) 65535 (omega (arith, fits.size, fits.variables))) (yes_and (leb (length g.outputs) 65535) _
      (le→leb (length g.outputs) 65535 (omega (arith, fits.outputs)))
      (yes_and (leb (length g.ands) 65535) true (le→leb (length g.ands) 65535 (omega (arith, fits.size, fits.variables))) tt)))

  ascii-header : read_header (ascii_text g) ≡ holds ascii_header
  unfolding read_header next unless from? in_limits in_sequence header_of_numbers
  ascii-header =
      let rest : Header → Read Header = λ h. unless (eqb h.latches 0) 8 0
      (unless (in_limits h) 9 0 (unless (in_sequence h) 19 0 (holds h))) in
      ap (λ (ls : List Line). next (from? (header_of ls) 7 0) rest) head-line
      ∙ ap (λ (o : Option Header). next (from? o 7 0) rest) (unfold header_of and_then only same text in let made : List (List ℕ)
      → Option Header = λ ws. let binary = same (get_or ws 0 []) (text "aig") in and_then
      (only (closed binary (line_of_bytes 0 head_bytes) && (eqb (length ws) 6 && (binary || same (get_or ws 0 []) (text "aag")))) (drop 1 ws))
      (λ vs. and_then (numbers vs) (λ ns. Some (header_of_numbers binary (next_of (line_of_bytes 0 head_bytes)) ns))) in ap made
      (fields-word (97 ∷ 97 ∷ 103 ∷ []) (words g.size counts) (refl, (refl, (refl, tt)))
      ∙ ap (λ (ws : List (List ℕ)). (97 ∷ 97 ∷ 103 ∷ []) ∷ ws)
      (fields-numbers (decimal g.size) (decimal-free 32 g.size (lit< tt)) counts)) ∙ ap
      (λ (o : Option (List ℕ)). and_then o (λ ns. Some (header_of_numbers false (next_of (line_of_bytes 0 head_bytes)) ns)))
      (numbers-back (g.size ∷ counts) few))
      ∙ ap (λ (b : Bool). unless b 9 0 (holds ascii_header))
      (is_true (in_limits ascii_header)
      (yes_and (leb g.size 4095) _ (le→leb g.size 4095 fits.size)
      (yes_and (leb (length g.outputs) 4096) (leb (length g.inputs + length g.ands) g.size) (le→leb (length g.outputs) 4096 fits.outputs)
      (le→leb (length g.inputs + length g.ands) g.size fits.variables))))

  -- what stands behind the header's line
  ascii_body : drop ascii_header.next (ascii_text g) ≡ each item_line rows
  unfolding header_of_numbers
  ascii_body =
      cc (let q : 0 + (length head_bytes + 1) ≡ suc (length head_bytes) = omega arith in q, text-is, past head_bytes (each item_line rows))
    where
      past : (w rest : List ℕ) → drop (suc (length w)) (w ++ (10 ∷ rest)) ≡ rest
      past [] rest = refl
      past (b ∷ w) rest = past w rest

  ascii-graph : read_graph (ascii_text g) ascii_header ≡ holds g
  unfolding read_graph read_items next header_of_numbers
  ascii-graph =
      ap (λ (r : Read (List Item)). next r (λ is. next (check_uses (defined_by is) is) (λ js. holds (graph_of g.size js))))
      (ap₂ (λ (ks : List Kind) (x : List ℕ). read_expected (closed false) (length (ascii_text g)) g.size [] ks (lines_from ascii_header.next [] x))
      (unfold expected in sym (map-append (λ (i : Item). i.kind) (map input_row g.inputs) (map output_row g.outputs ++ map and_row g.ands)
      ∙ ap₂ (λ (xs ys : List Kind). xs ++ ys) (kinds_are input_row an_input (λ v. refl) g.inputs)
      (map-append (λ (i : Item). i.kind) (map output_row g.outputs) (map and_row g.ands) ∙ ap₂ (λ (xs ys : List Kind). xs ++ ys)
      (kinds_are output_row an_output (λ l. refl) g.outputs) (kinds_are and_row an_and (λ a. refl) g.ands)))) ascii_body
      ∙ rows_back (length (ascii_text g)) g.size fits.size ascii_header.next [] rows row_of (subst Distinct (sym vars) known.once.1) (λ x m. Memᴰ-not-nil))
      ∙ ap (λ (r : Read (List Item)). next r (λ js. holds (graph_of g.size js))) (rows-used ascii_header.next)
      ∙ ap holds (rows-graph ascii_header.next)

-- "its ASCII twin": a graph that some text means is meant by its ASCII form too, where that is within the length in 1
pub ascii-means : (bytes : List ℕ) (g : Graph) → Means bytes g → length (ascii_text g) ≤ 65536 → Means (ascii_text g) g
ascii-means bytes g m short =
    let f = graph-fits bytes m.header g m.is_header m.is_graph in
    let k = graph-known bytes m.header g m.is_header m.is_graph in
    let u = graph-untimed bytes m.header g m.is_graph in
    record { header = ascii_header g f k u; short = short; is_header = ascii-header g f k u; is_graph = ascii-graph g f k u }

-- ---- the outcome

-- what the texts hold hangs on the library's text, the arrivals' text, the lent words and the graph that is meant: M, I and O are the graph's
reads_by_graph : (c : Call) (g : Graph) → Means c.graph g → read_texts c ≡ unless (leb (length c.library) 65536 && leb (length c.arrivals) 65536) 1 0
    (next (read_listed c.paired c.library) (λ cells. unless (leb (need g.size (length g.outputs)) c.words) 10 0
    (next (read_arrivals (length g.inputs) c.arrivals) (λ es. holds (design_of c cells (timed_by g es))))))
unfolding read_texts next
reads_by_graph c g m =
    let h = m.header in
    let timed : List Cell → ℕ → Graph → Read Design = λ cells inputs x. next (read_arrivals inputs c.arrivals)
    (λ es. holds (design_of c cells (timed_by x es))) in
    let behind : List Cell → Header → Read Design = λ cells k. unless (leb (need k.size k.outputs) c.words) 10 0
    (next (read_graph c.graph k) (timed cells k.inputs)) in
    let read : List Cell → Read Design = λ cells. next (read_header c.graph) (behind cells) in
    let counted = graph-counted c.graph h g m.is_header m.is_graph in
    ap (λ (b : Bool). unless b 1 0 (next (read_listed c.paired c.library) read))
    (ap (λ (b : Bool). leb (length c.library) 65536 && (b && leb (length c.arrivals) 65536)) (is_true (leb (length c.graph) 65536) (le→leb (length c.graph) 65536 m.short)))
    ∙ ap (λ (k : List Cell → Read Design). unless (leb (length c.library) 65536 && leb (length c.arrivals) 65536) 1 0 (next (read_listed c.paired c.library) k)) (fun_ext
    (λ cells. cc (m.is_header, m.is_graph, counted.size, counted.outputs, counted.inputs)))

-- two texts that mean the same graph have the same outcome
pub means-outcome : (c : Call) (t : List ℕ) (g : Graph) → Means c.graph g → Means t g → map_texts (on_graph c t) ≡ map_texts c
unfolding map_texts
means-outcome c t g m n = ap (map_design c.bytes) (reads_by_graph (on_graph c t) g n ∙ sym (reads_by_graph c g m))
