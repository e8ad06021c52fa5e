-- The graph's text in either form, read: its header, then its graph, or the first refusal of 7 to 9, 11 to 14 and 19 to 21 with its place; and a
-- graph written in the ASCII form.
use Rattle.std.specs.Prelude.{◌+◌, ◌-◌, ◌*◌, ◌%◌, ◌&&◌, ◌||◌, ◌∷◌, ◌++◌, Result, Ok, Err}
use Rattle.base.specs.{ℕ, zero, suc, Bool, true, false, not, cond, Option, None, Some, List, []}
use Rattle.base.specs.{map, eqb, leb, ltb, length, get_or, drop, replicate}
use Rattle.model.specs.Base.{from, all, keep, each, elem, same, and_then, only}
use Rattle.model.specs.Text.{Line, ended, ended_by_ten, next_of, text, decimal, lines_from, fields, numbers}
use Rattle.model.specs.ReadResult.{Read, holds, fault, next, unless, from?, refused_with}
use Rattle.model.specs.Graph.{And, Graph, var_of}
use Rattle.model.specs.declared.Header.{Header}
use Rattle.model.specs.declared.Refusal.{Refusal}

-- ---- the header `aag M I L O A` or `aig M I L O A`

-- the header of a form and five numbers, the line behind it beginning at `end`
unfoldable pub header_of_numbers : Bool → ℕ → List ℕ → Header
header_of_numbers binary end ns = record {
  size = get_or ns 0 0;
  inputs = get_or ns 1 0;
  latches = get_or ns 2 0;
  outputs = get_or ns 3 0;
  ands = get_or ns 4 0;
  next = end;
  binary = binary;
}

-- a line of a text in the binary form, or in the ASCII form, has its end: in the binary form byte 10 alone is one
abbrev pub closed : Bool → Line → Bool
closed binary l = cond binary (ended_by_ten l) (ended l)

-- the header of a text's first line: "Read the `aig` form too, known by the header's first word."
unfoldable pub header_of : List Line → Option Header
unfolding and_then only numbers fields same text header_of_numbers
header_of [] = None
header_of (l ∷ ls) =
    let ws = fields l.bytes in
    let binary = same (get_or ws 0 []) (text "aig") in
    and_then (only (closed binary l && (eqb (length ws) 6 && (binary || same (get_or ws 0 []) (text "aag")))) (drop 1 ws)) (λ vs.
    and_then (numbers vs) (λ ns. Some (header_of_numbers binary (next_of l) ns)))

-- "M exceeds 4,095, O exceeds 4,096, or I + A exceeds M": none of them
unfoldable pub in_limits : Header → Bool
in_limits h = leb h.size 4095 && (leb h.outputs 4096 && leb (h.inputs + h.ands) h.size)

-- "a binary header's M isn't I + A": it is, or the header is not binary
unfoldable pub in_sequence : Header → Bool
in_sequence h = not h.binary || eqb h.size (h.inputs + h.ands)

-- 7, 8 and 9, and 19 "tried after 9, place 0": each at place 0
unfoldable pub read_header : List ℕ → Read Header
unfolding next unless from? header_of lines_from in_limits in_sequence
read_header bytes =
    next (from? (header_of (lines_from 0 [] bytes)) 7 0) (λ h.
    unless (eqb h.latches 0) 8 0 (unless (in_limits h) 9 0 (unless (in_sequence h) 19 0 (holds h))))

-- the answer of the header's reader
unfoldable pub header_answer : Read Header → Result Header Refusal
header_answer (holds h) = Ok h
header_answer (fault n k) = refused_with n k

-- the values of that answer, the numbers M, I, L, O and A of the line; a refusal has none
unfoldable pub header_values : Result Header Refusal → List ℕ
header_values (Ok h) = h.size ∷ h.inputs ∷ h.latches ∷ h.outputs ∷ h.ands ∷ []
header_values (Err r) = []

-- the numbers of a header that is read
unfoldable pub header_numbers : Read Header → List ℕ
header_numbers (holds h) = h.size ∷ h.inputs ∷ h.latches ∷ h.outputs ∷ h.ands ∷ []
header_numbers (fault n k) = []

-- ---- the expected lines

-- the kinds of line that are expected
pub data Kind : Type 0 where
  an_input an_output an_and : Kind

-- how many numbers an expected line has
unfoldable pub how_many : Kind → ℕ
how_many an_input = 1
how_many an_output = 1
how_many an_and = 3

-- the line defines its first literal's variable
unfoldable pub defines : Kind → Bool
defines an_input = true
defines an_output = false
defines an_and = true

-- "I input lines, O output lines and A lines"
unfoldable pub expected : Header → List Kind
expected h = replicate h.inputs an_input ++ (replicate h.outputs an_output ++ replicate h.ands an_and)

-- an expected line that is read
pub record Item : Type 0 where
  pub kind : Kind
  pub offset : ℕ
  pub literals : List ℕ

-- the literals of a expected line: "one space between", and the line's end behind them; `is_closed` is the test of this end
unfoldable pub item_literals : (Line → Bool) → Kind → Line → Option (List ℕ)
unfolding and_then only numbers fields how_many
item_literals is_closed k l = let ws = fields l.bytes in and_then (only (is_closed l && eqb (length ws) (how_many k)) ws) numbers

-- the expected lines, 11 to 13 "line by line"; `end` is the text's length, `size` is M, `before` the variables defined so far
unfoldable pub read_expected : (Line → Bool) → ℕ → ℕ → List ℕ → List Kind → List Line → Read (List Item)
unfolding next unless from? item_literals defines all elem var_of
read_expected is_closed end size before [] ls = holds []
read_expected is_closed end size before (k ∷ ks) [] = fault 11 end
read_expected is_closed end size before (k ∷ ks) (l ∷ ls) =
    next (from? (item_literals is_closed k l) 11 l.offset) (λ ns.
    let first = get_or ns 0 0 in
    unless (all (λ (n : ℕ). leb n (2 * size + 1)) ns && (not (defines k) || (eqb (first % 2) 0 && not (eqb first 0)))) 12 l.offset
    (unless (not (defines k && elem (var_of first) before)) 13 l.offset
    (next (read_expected is_closed end size (cond (defines k) (var_of first ∷ before) before) ks ls) (λ is. holds (record { kind = k; offset = l.offset; literals = ns } ∷ is)))))

-- ---- the binary form: "Inputs are variables 1 to I and ANDs follow in sequence."

-- a number, and the place behind the bytes that gave it
pub record Passed : Type 0 where
  pub number : ℕ
  pub behind : ℕ

-- "A difference is in groups of seven bits, lowest first, the top bit set on all but the last byte": the difference whose first byte is the first of
-- these, at this place. "20 when a difference takes more than two bytes or the text ends before its end"
unfoldable pub difference : ℕ → List ℕ → Read Passed
unfolding unless
difference at [] = fault 20 at
difference at (b ∷ []) = unless (ltb b 128) 20 at (holds (record { number = b; behind = at + 1 }))
difference at (b ∷ c ∷ bs) =
    cond (ltb b 128) (holds (record { number = b; behind = at + 1 }))
    (unless (ltb c 128) 20 at (holds (record { number = b - 128 + 128 * c; behind = at + 2 })))

-- n less the difference at a place: "21 when a first difference is 0 or a difference exceeds what it is taken from"
unfoldable pub less_by : Bool → List ℕ → ℕ → ℕ → Read Passed
unfolding next unless difference
less_by is_first bytes at n =
    next (difference at (drop at bytes)) (λ d.
    unless (not (is_first && eqb d.number 0) && leb d.number n) 21 at (holds (record { number = n - d.number; behind = d.behind })))

-- so many ANDs, the first of them at a place and of literal `left`: "Each AND is two differences, left minus first operand and first minus second";
-- 20 and 21 "are tried difference by difference after the output lines, at the difference's first byte"
unfoldable pub read_ands : List ℕ → ℕ → ℕ → ℕ → Read (List Item)
unfolding next less_by
read_ands bytes at left zero = holds []
read_ands bytes at left (suc n) =
    next (less_by true bytes at left) (λ a.
    next (less_by false bytes a.behind a.number) (λ b.
    next (read_ands bytes b.behind (left + 2) n) (λ is.
    holds (record { kind = an_and; offset = at; literals = left ∷ a.number ∷ b.number ∷ [] } ∷ is))))

-- the place behind so many of these lines, the first of them beginning at a place
unfoldable pub behind_lines : ℕ → ℕ → List Line → ℕ
behind_lines at zero ls = at
behind_lines at (suc n) [] = at
behind_lines at (suc n) (l ∷ ls) = behind_lines (next_of l) n ls

-- variables 1 to I, which no line defines
unfoldable pub input_items : Header → List Item
unfolding from
input_items h = map (λ (v : ℕ). record { kind = an_input; offset = h.next; literals = 2 * v ∷ [] }) (from 1 h.inputs)

-- "Output lines are text as before and keep 11 and 12"; the ANDs begin behind them with variable I + 1
unfoldable pub read_binary : List ℕ → Header → Read (List Item)
unfolding next read_expected read_ands behind_lines input_items lines_from
read_binary bytes h =
    let ls = lines_from h.next [] (drop h.next bytes) in
    next (read_expected (closed true) (length bytes) h.size [] (replicate h.outputs an_output) ls) (λ os.
    next (read_ands bytes (behind_lines h.next h.outputs ls) (2 * suc h.inputs) h.ands) (λ gs.
    holds (input_items h ++ (os ++ gs))))

-- ---- the graph that is meant, in either form

-- the lines of the ASCII form, and what the binary form has in their place
unfoldable pub read_items : List ℕ → Header → Read (List Item)
unfolding read_expected expected read_binary lines_from
read_items bytes h =
    let ascii = read_expected (closed false) (length bytes) h.size [] (expected h) (lines_from h.next [] (drop h.next bytes)) in
    let binary = read_binary bytes h in
    cond h.binary binary ascii

-- the literals that a line uses
unfoldable pub uses : Item → List ℕ
unfolding defines
uses i = cond (defines i.kind) (drop 1 i.literals) i.literals

-- the variables that lines define
unfoldable pub defined_by : List Item → List ℕ
unfolding defines var_of
defined_by [] = []
defined_by (i ∷ is) = let r = defined_by is in cond (defines i.kind) (var_of (get_or i.literals 0 0) ∷ r) r

-- "An output or operand uses an undefined variable other than 0; the first such line."
unfoldable pub check_uses : List ℕ → List Item → Read (List Item)
unfolding next unless all elem var_of uses
check_uses known [] = holds []
check_uses known (i ∷ is) =
    unless (all (λ (l : ℕ). elem (var_of l) (0 ∷ known)) (uses i)) 14 i.offset (next (check_uses known is) (λ js. holds (i ∷ js)))

-- the same kind
unfoldable pub same_kind : Kind → Kind → Bool
same_kind an_input an_input = true
same_kind an_input an_output = false
same_kind an_input an_and = false
same_kind an_output an_input = false
same_kind an_output an_output = true
same_kind an_output an_and = false
same_kind an_and an_input = false
same_kind an_and an_output = false
same_kind an_and an_and = true

-- a line of that kind
unfoldable pub is_kind : Kind → Item → Bool
unfolding same_kind
is_kind k i = same_kind k i.kind

-- the graph of the lines that are read; of arrivals they say nothing
unfoldable pub graph_of : ℕ → List Item → Graph
unfolding keep is_kind var_of
graph_of size is = record {
  size = size;
  inputs = map (λ (i : Item). var_of (get_or i.literals 0 0)) (keep (is_kind an_input) is);
  outputs = map (λ (i : Item). get_or i.literals 0 0) (keep (is_kind an_output) is);
  ands = map (λ (i : Item). record { var = var_of (get_or i.literals 0 0); left = get_or i.literals 1 0; right = get_or i.literals 2 0 }) (keep (is_kind an_and) is);
  input_arrival = λ _. 0;
}

-- the graph behind a header that is accepted: 11 to 14, or 11, 12, 20 and 21, over what stands behind the header's line
unfoldable pub read_graph : List ℕ → Header → Read Graph
unfolding next read_items check_uses defined_by graph_of
read_graph bytes h =
    next (read_items bytes h) (λ is.
    next (check_uses (defined_by is) is) (λ js. holds (graph_of h.size js)))

-- ---- the ASCII form

-- a line of numbers: "one space between, byte 10 after each line"
unfoldable pub numbers_line : ℕ → List ℕ → List ℕ
unfolding decimal each
numbers_line n ns = decimal n ++ (each (λ (k : ℕ). 32 ∷ decimal k) ns ++ (10 ∷ []))

-- a graph written in the ASCII form: "`aag M I L O A`, then I input lines, O output lines and A lines `left right right`"
unfoldable pub ascii_text : Graph → List ℕ
unfolding text numbers_line each
ascii_text g =
    text "aag " ++ (numbers_line g.size (length g.inputs ∷ 0 ∷ length g.outputs ∷ length g.ands ∷ [])
    ++ (each (λ (v : ℕ). numbers_line (2 * v) []) g.inputs
    ++ (each (λ (l : ℕ). numbers_line l []) g.outputs
    ++ each (λ (a : And). numbers_line (2 * a.var) (a.left ∷ a.right ∷ [])) g.ands)))
