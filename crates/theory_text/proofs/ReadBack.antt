-- The printed netlist reads back as what was printed, and its gate lines say which nets they bind.
use Rattle.base.specs.{ℕ, suc, ◌+◌, ◌≤◌, ◌<◌, arith, ◌≡◌, refl, sym, ◌∙◌, ap, ap₂, Bool, true, false, cond, ◌&&◌, Option, None, Some, List}
use Rattle.base.specs.{[], ◌∷◌, ◌++◌, map, append_assoc, append-nil, Memᴰ, Memᴰ-head, Memᴰ-tail, T, eqb, eqb_refl, lit<}
use Rattle.base.specs.{length, yes_eqb, no_eqb}
use Rattle.model.specs.{each, same, and_then, only, from, below, text, decimal, onto, split, parts, is_name, name_of, literal, Net, Gate}
use Rattle.model.specs.{net_name, label, out_name, pin_words, gate_line, names_line, wire_line, wire_lines, netlist_text, Binding, GateLine, Wire}
use Rattle.model.specs.{Body, longer, binding, bindings_of, after_word, words_after, read_gate, wire_of, read_wire, read_wires, body_from, read_body}
use Rattle.model.specs.{read_lines, read_blif, named, net_at, pin_names, output_name, drives, fed_by}
use Rattle.model.specs.Graph.{Graph}
use Rattle.model.specs.Blif.{Blif, gate_of}
use Rattle.model.specs.declared.Cell.{Cell}
use Rattle.model.specs.declared.Figures.{Figures}
use Rattle.theory_graph.proofs.{map-map, map_same, is_true, is_false, from_low}
use Rattle.theory_text.proofs.PlainLines.{Free, above, free_append, decimal-free, net-free, label-free, Plain, plain, name-plain}

-- ---- parts

-- a part that a separator ends
pub parts-line : (sep : ℕ) (w rest : List ℕ) → Free sep w → parts sep (w ++ (sep ∷ rest)) ≡ w ∷ parts sep rest
unfolding parts split onto
parts-line sep [] rest f = ap (λ (b : Bool). split b sep (parts sep rest)) (is_true (eqb sep sep) (eqb_refl sep))
parts-line sep (b ∷ w) rest f = ap₂ (λ (t : Bool) (ps : List (List ℕ)). split t b ps) f.0 (parts-line sep w rest f.1)

-- a last part
parts_last : (sep b : ℕ) (w : List ℕ) → Free sep (b ∷ w) → parts sep (b ∷ w) ≡ (b ∷ w) ∷ []
unfolding parts split onto
parts_last sep b [] f = ap (λ (t : Bool). split t b []) f.0
parts_last sep b (c ∷ w) f = ap₂ (λ (t : Bool) (ps : List (List ℕ)). split t b ps) f.0 (parts_last sep c w f.1)

-- ---- a line of names

-- names that a line can hold
abbrev Plains : List (List ℕ) → Type 0
Plains [] = Unit {0}
Plains (n ∷ ns) = Plain n × Plains ns

plains_map : {A : Type 0} (f : A → List ℕ) → ((x : A) → Plain (f x)) → (xs : List A) → Plains (map f xs)
plains_map f h [] = tt
plains_map f h (x ∷ xs) = (h x, plains_map f h xs)

net-plain : (l : ℕ) → Plain (net_name l)
unfolding net_name
net-plain l = plain (net-free 32 l (lit< tt)) (net-free 10 l (lit< tt))

out_plain : (k : ℕ) → Plain (out_name k)
unfolding out_name
out_plain k = plain (refl, decimal-free 32 k (lit< tt)) (refl, decimal-free 10 k (lit< tt))

plain-free : (name : List ℕ) → Plain name → Free 10 name
plain-free name (plain f h) = h

-- the line, without its line end
unfoldable pub names_of : List ℕ → List (List ℕ) → List ℕ
unfolding each
names_of keyword names = keyword ++ each (λ (n : List ℕ). 32 ∷ n) names

-- its words
names-words : (keyword : List ℕ) → Plain keyword → (names : List (List ℕ)) → Plains names → parts 32 (names_of keyword names) ≡ keyword ∷ names
unfolding names_of
names-words keyword (plain {b = b} {w = w} f h) [] ps = ap (parts 32) (append-nil (b ∷ w)) ∙ parts_last 32 b w f
names-words keyword (plain {b = b} {w = w} f h) (n ∷ ns) ps =
    cc (parts-line 32 (b ∷ w) (n ++ each (λ (m : List ℕ). 32 ∷ m) ns) f, names-words n ps.0 ns ps.1)

names-free : (keyword : List ℕ) → Plain keyword → (names : List (List ℕ)) → Plains names → Free 10 (names_of keyword names)
unfolding names_of
names-free keyword p names ps = free_append 10 keyword (each (λ (n : List ℕ). 32 ∷ n) names) (plain-free keyword p) (go names ps)
  where
    go : (ns : List (List ℕ)) → Plains ns → Free 10 (each (λ (n : List ℕ). 32 ∷ n) ns)
    go [] qs = tt
    go (n ∷ ns) qs = (refl, free_append 10 n (each (λ (m : List ℕ). 32 ∷ m) ns) (plain-free n qs.0) (go ns qs.1))

-- the line with its end, before what follows
names-line : (keyword : List ℕ) → Plain keyword → (names : List (List ℕ)) → Plains names → (rest : List ℕ)
    → parts 10 (names_line keyword names ++ rest) ≡ names_of keyword names ∷ parts 10 rest
unfolding names_line names_of text
names-line keyword p names ps rest = ap (parts 10) (append_assoc keyword (each (λ (n : List ℕ). 32 ∷ n) names ++ text "\n") rest
    ∙ ap (λ (x : List ℕ). keyword ++ x) (append_assoc (each (λ (n : List ℕ). 32 ∷ n) names) (text "\n") rest)
    ∙ sym (append_assoc keyword (each (λ (n : List ℕ). 32 ∷ n) names) (10 ∷ rest)))
    ∙ parts-line 10 (names_of keyword names) rest (names-free keyword p names ps)

-- the keywords that names follow
inputs-plain : Plain (text ".inputs")
unfolding text
inputs-plain = plain {b = 46} {w = 105 ∷ 110 ∷ 112 ∷ 117 ∷ 116 ∷ 115 ∷ []} (refl, (refl, (refl, (refl, (refl, (refl, (refl, tt))))))) (refl, (refl, (refl, (refl, (refl, (refl, (refl, tt)))))))

outputs-plain : Plain (text ".outputs")
unfolding text
outputs-plain = plain {b = 46} {w = 111 ∷ 117 ∷ 116 ∷ 112 ∷ 117 ∷ 116 ∷ 115 ∷ []} (refl, (refl, (refl, (refl, (refl, (refl, (refl, (refl, tt)))))))) (refl, (refl, (refl, (refl, (refl, (refl, (refl, (refl, tt))))))))

wire-plain : Plain (text ".names")
unfolding text
wire-plain = plain {b = 46} {w = 110 ∷ 97 ∷ 109 ∷ 101 ∷ 115 ∷ []} (refl, (refl, (refl, (refl, (refl, (refl, tt)))))) (refl, (refl, (refl, (refl, (refl, (refl, tt))))))

-- ---- a gate line

-- the words of a gate's pins and output
pin_ws : ℕ → List Net → Net → List (List ℕ)
pin_ws b [] o = (79 ∷ 61 ∷ label o) ∷ []
pin_ws b (l ∷ ls) o = (b ∷ 61 ∷ label l) ∷ pin_ws (suc b) ls o

word-free : (s b : ℕ) (l : Net) → s < 48 → 48 < b → Free s (b ∷ 61 ∷ label l)
word-free s b l h k = (above s b (omega arith), (above s 61 (omega arith), label-free s l h))

pins-words : (c : ℕ) (w : List ℕ) → Free 32 (c ∷ w) → (b : ℕ) → 48 < b → (ls : List Net) (o : Net)
    → parts 32 ((c ∷ w) ++ (pin_words b ls ++ pin_words 79 (o ∷ []))) ≡ (c ∷ w) ∷ pin_ws b ls o
unfolding pin_words pin_ws
pins-words c w f b h [] o =
    parts-line 32 (c ∷ w) (79 ∷ 61 ∷ label o ++ []) f ∙ ap (λ (n : List ℕ). (c ∷ w) ∷ parts 32 (79 ∷ 61 ∷ n)) (append-nil (label o))
    ∙ ap (λ (ps : List (List ℕ)). (c ∷ w) ∷ ps) (parts_last 32 79 (61 ∷ label o) (word-free 32 79 o (lit< tt) (lit< tt)))
pins-words c w f b h (l ∷ ls) o =
    ap (λ (n : List ℕ). parts 32 ((c ∷ w) ++ (32 ∷ b ∷ 61 ∷ n))) (append_assoc (label l) (pin_words (suc b) ls) (pin_words 79 (o ∷ [])))
    ∙ parts-line 32 (c ∷ w) (b ∷ 61 ∷ label l ++ (pin_words (suc b) ls ++ pin_words 79 (o ∷ []))) f
    ∙ ap (λ (ps : List (List ℕ)). (c ∷ w) ∷ ps) (pins-words b (61 ∷ label l) (word-free 32 b l (lit< tt) h) (suc b) (omega arith) ls o)

pins-free : (b : ℕ) (ls : List Net) → 48 < b → Free 10 (pin_words b ls)
unfolding pin_words
pins-free b [] h = tt
pins-free b (l ∷ ls) h =
    (refl, (above 10 b (omega arith), (refl, free_append 10 (label l) (pin_words (suc b) ls) (label-free 10 l (lit< tt)) (pins-free (suc b) ls (omega arith)))))

-- what pins from letter b on, and then the output, are bound to
unfoldable pub bindings_from : ℕ → List Net → Net → List Binding
bindings_from b [] o = record { pin = output_name; net = label o } ∷ []
bindings_from b (l ∷ ls) o = record { pin = b ∷ []; net = label l } ∷ bindings_from (suc b) ls o

read-binding : (b : ℕ) (l : Net) → 61 < b → binding (b ∷ 61 ∷ label l) ≡ Some (record { pin = b ∷ []; net = label l })
unfolding binding and_then longer
read-binding b l h = cc (above 61 b h)

read-bindings : (b : ℕ) → 61 < b → (ls : List Net) (o : Net) → bindings_of (pin_ws b ls o) ≡ Some (bindings_from b ls o)
unfolding bindings_of pin_ws and_then bindings_from
read-bindings b h [] o = cc
read-bindings b h (l ∷ ls) o = cc (read-binding b l h, read-bindings (suc b) (omega arith) ls o)

-- what a gate prints, as it is read
unfoldable pub line_of : Gate → GateLine
unfolding bindings_from name_of
line_of t = record { cell = name_of t.cell; bindings = bindings_from 65 t.pins t.net }

-- a gate line without its line end
unfoldable pub body : List ℕ → List Net → Net → List ℕ
unfolding text pin_words
body name ls o = text ".gate " ++ (name ++ (pin_words 65 ls ++ pin_words 79 (o ∷ [])))

read-gate : (name : List ℕ) → Plain name → (ls : List Net) (o : Net) → read_gate (body name ls o) ≡ Some (record { cell = name; bindings = bindings_from 65 ls o })
unfolding read_gate words_after after_word body text same only and_then gate_of
read-gate name (plain {b = b} {w = w} f h) ls o = ap (λ (ps : List (List ℕ)). and_then (after_word (text ".gate") ps) gate_of)
    (parts-line 32 (text ".gate") (name ++ (pin_words 65 ls ++ pin_words 79 (o ∷ []))) (refl, (refl, (refl, (refl, (refl, tt)))))
    ∙ ap (λ (ps : List (List ℕ)). text ".gate" ∷ ps) (pins-words b w f 65 (lit< tt) ls o))
    ∙ ap (λ (x : Option (List Binding)). and_then x (λ ps. Some (record { cell = b ∷ w; bindings = ps }))) (read-bindings 65 (lit< tt) ls o)

body_free : (name : List ℕ) → Plain name → (ls : List Net) (o : Net) → Free 10 (body name ls o)
unfolding body text
body_free name (plain f h) ls o = (
  refl,
  (
    refl,
    (
      refl,
      (
        refl,
        (
          refl,
          (
            refl,
            free_append 10 name (pin_words 65 ls ++ pin_words 79 (o ∷ [])) h
                (free_append 10 (pin_words 65 ls) (pin_words 79 (o ∷ [])) (pins-free 65 ls (lit< tt)) (pins-free 79 (o ∷ []) (lit< tt))),
          ),
        ),
      ),
    ),
  ),
)

-- ---- all gate lines

unfoldable pub body_of : Gate → List ℕ
unfolding body name_of
body_of t = body (name_of t.cell) t.pins t.net

-- a gate's line is its body and a line end
pub gate-line : (t : Gate) (rest : List ℕ) → gate_line t ++ rest ≡ body_of t ++ (10 ∷ rest)
unfolding gate_line body_of body text
gate-line t rest = ap (λ (x : List ℕ). text ".gate " ++ x)
    (append_assoc (name_of t.cell) (pin_words 65 t.pins ++ (pin_words 79 (t.net ∷ []) ++ text "\n")) rest
    ∙ ap (λ (x : List ℕ). name_of t.cell ++ x) (append_assoc (pin_words 65 t.pins) (pin_words 79 (t.net ∷ []) ++ text "\n") rest
    ∙ ap (λ (x : List ℕ). pin_words 65 t.pins ++ x) (append_assoc (pin_words 79 (t.net ∷ [])) (text "\n") rest)
    ∙ sym (append_assoc (pin_words 65 t.pins) (pin_words 79 (t.net ∷ [])) (10 ∷ rest)))
    ∙ sym (append_assoc (name_of t.cell) (pin_words 65 t.pins ++ pin_words 79 (t.net ∷ [])) (10 ∷ rest)))

gate-lines : (ts : List Gate) → ((t : Gate) → Memᴰ t ts → T (is_name (name_of t.cell))) → (rest : List ℕ) → parts 10 (each gate_line ts ++ rest) ≡ map body_of ts ++ parts 10 rest
unfolding each body_of
gate-lines [] h rest = refl
gate-lines (t ∷ ts) h rest =
    ap (parts 10) (append_assoc (gate_line t) (each gate_line ts) rest ∙ gate-line t (each gate_line ts ++ rest))
    ∙ parts-line 10 (body_of t) (each gate_line ts ++ rest) (body_free (name_of t.cell) (name-plain (name_of t.cell) (h t (Memᴰ-head refl))) t.pins t.net)
    ∙ ap (λ (ps : List (List ℕ)). body_of t ∷ ps) (gate-lines ts (λ u m. h u (Memᴰ-tail m)) rest)

-- ---- the outputs' own names

-- output k's wire and those of the outputs behind it
unfoldable pub wires_from : ℕ → List ℕ → List Wire
unfolding net_name out_name
wires_from k [] = []
wires_from k (l ∷ ls) = record { source = net_name l; target = out_name k } ∷ wires_from (suc k) ls

-- the first line of a wire, without its line end
unfoldable pub wire_body : ℕ → ℕ → List ℕ
unfolding text names_of net_name out_name
wire_body k l = names_of (text ".names") (net_name l ∷ out_name k ∷ [])

-- the lines of all wires
unfoldable pub wire_bodies : ℕ → List ℕ → List (List ℕ)
unfolding text wire_body
wire_bodies k [] = []
wire_bodies k (l ∷ ls) = wire_body k l ∷ text "1 1" ∷ wire_bodies (suc k) ls

pub wire-line : (k l : ℕ) (rest : List ℕ) → wire_line k l ++ rest ≡ wire_body k l ++ (10 ∷ text "1 1" ++ (10 ∷ rest))
unfolding wire_line wire_body names_of each text
wire-line k l rest = ap (λ (x : List ℕ). text ".names " ++ x) (append_assoc (net_name l) (32 ∷ out_name k ++ text "\n1 1\n") rest
    ∙ ap (λ (x : List ℕ). net_name l ++ (32 ∷ x))
    (append_assoc (out_name k) (text "\n1 1\n") rest ∙ ap (λ (x : List ℕ). x ++ (text "\n1 1\n" ++ rest)) (sym (append-nil (out_name k))))
    ∙ sym (append_assoc (net_name l) (32 ∷ out_name k ++ []) (text "\n1 1\n" ++ rest)))

wire-lines : (k : ℕ) (ls rest : List ℕ) → parts 10 (wire_lines k ls ++ rest) ≡ wire_bodies k ls ++ parts 10 rest
unfolding wire_lines wire_bodies wire_body text
wire-lines k [] rest = refl
wire-lines k (l ∷ ls) rest =
    ap (parts 10) (append_assoc (wire_line k l) (wire_lines (suc k) ls) rest ∙ wire-line k l (wire_lines (suc k) ls ++ rest))
    ∙ parts-line 10 (wire_body k l) (text "1 1" ++ (10 ∷ wire_lines (suc k) ls ++ rest)) (names-free (text ".names") wire-plain (net_name l ∷ out_name k ∷ []) (net-plain l, (out_plain k, tt)))
    ∙ ap (λ (ps : List (List ℕ)). wire_body k l ∷ ps)
    (parts-line 10 (text "1 1") (wire_lines (suc k) ls ++ rest) (refl, (refl, (refl, tt)))
    ∙ ap (λ (ps : List (List ℕ)). text "1 1" ∷ ps) (wire-lines (suc k) ls rest))

wire-words : (k l : ℕ) → parts 32 (wire_body k l) ≡ text ".names" ∷ net_name l ∷ out_name k ∷ []
unfolding wire_body
wire-words k l = names-words (text ".names") wire-plain (net_name l ∷ out_name k ∷ []) (net-plain l, (out_plain k, tt))

read-wire : (k l : ℕ) → read_wire (wire_body k l) (text "1 1") ≡ Some (record { source = net_name l; target = out_name k })
unfolding read_wire words_after after_word same text only and_then wire_of
read-wire k l = ap (λ (ps : List (List ℕ)). and_then (after_word (text ".names") ps) wire_of) (wire-words k l)

read-wires : (k : ℕ) (ls : List ℕ) (more : List (List ℕ)) → read_wires (wire_bodies k ls ++ (text ".end" ∷ more)) ≡ Some (wires_from k ls)
unfolding read_wires wire_bodies wire_body names_of wires_from same text and_then
read-wires k [] [] = refl
read-wires k [] (m ∷ more) = refl
read-wires k (l ∷ ls) more =
    ap₂ (λ (o : Option Wire) (os : Option (List Wire)). and_then o (λ x. and_then os (λ xs. Some (x ∷ xs)))) (read-wire k l) (read-wires (suc k) ls more)

-- ---- the gates and the wires behind them

abbrev body_with : List GateLine → List Wire → Option Body
body_with ts xs = Some (record { gates = ts; wires = xs })

body_gate : (l : List ℕ) (ls : List (List ℕ)) (t : GateLine) (ts : List GateLine) (xs : List Wire) → read_gate l ≡ Some t → read_body ls ≡ body_with ts xs → read_body (l ∷ ls) ≡ body_with (t ∷ ts) xs
unfolding read_body body_from and_then
body_gate l ls t ts xs e q = ap₂ (λ (o : Option GateLine) (b : Option Body). body_from o b (read_wires (l ∷ ls))) e q

body_wires : (l : List ℕ) (ls : List (List ℕ)) (xs : List Wire) → read_gate l ≡ None → read_wires (l ∷ ls) ≡ Some xs → read_body (l ∷ ls) ≡ body_with [] xs
unfolding read_body body_from and_then
body_wires l ls xs e q = ap₂ (λ (o : Option GateLine) (b : Option (List Wire)). body_from o (read_body ls) b) e q

-- a wire's line and the end are no gate's
no_gate_lem : (k l : ℕ) → read_gate (wire_body k l) ≡ None
unfolding read_gate words_after after_word same text only and_then
no_gate_lem k l = ap (λ (ps : List (List ℕ)). and_then (after_word (text ".gate") ps) gate_of) (wire-words k l)

pub no_gate-end : read_gate (text ".end") ≡ None
unfolding read_gate words_after after_word parts split onto same text only and_then
no_gate-end = refl

read_body_lem : (ts : List Gate) → ((t : Gate) → Memᴰ t ts → T (is_name (name_of t.cell))) → (k : ℕ) (ls : List ℕ) (more : List (List ℕ))
    → read_body (map body_of ts ++ (wire_bodies k ls ++ (text ".end" ∷ more))) ≡ body_with (map line_of ts) (wires_from k ls)
unfolding body_of line_of wire_bodies
read_body_lem [] h k [] more = body_wires (text ".end") more (wires_from k []) no_gate-end (read-wires k [] more)
read_body_lem [] h k (l ∷ ls) more =
    body_wires (wire_body k l) (text "1 1" ∷ wire_bodies (suc k) ls ++ (text ".end" ∷ more)) (wires_from k (l ∷ ls)) (no_gate_lem k l) (read-wires k (l ∷ ls) more)
read_body_lem (t ∷ ts) h k ls more =
    body_gate (body_of t) (map body_of ts ++ (wire_bodies k ls ++ (text ".end" ∷ more))) (line_of t) (map line_of ts) (wires_from k ls)
    (read-gate (name_of t.cell) (name-plain (name_of t.cell) (h t (Memᴰ-head refl))) t.pins t.net)
    (read_body_lem ts (λ u m. h u (Memᴰ-tail m)) k ls more)

-- ---- the whole text

-- the names of the inputs and of the outputs
abbrev pub input_names : Graph → List (List ℕ)
input_names g = map (λ (v : ℕ). net_name (literal false v)) g.inputs

abbrev pub output_names : Graph → List (List ℕ)
output_names g = map out_name (below (length g.outputs))

-- what the text says
unfoldable pub blif_of : Graph → List Gate → Blif
unfolding line_of wires_from
blif_of g ts = record { inputs = input_names g; outputs = output_names g; gates = map line_of ts; wires = wires_from 0 g.outputs }

-- the `# gates` line without its line end
unfoldable pub figures_line : Figures → List ℕ
unfolding text
figures_line f = text "# gates " ++ (decimal f.gates ++ (text " area " ++ (decimal f.area ++ (text " arrival " ++ decimal f.arrival))))

figures-free : (f : Figures) → Free 10 (figures_line f)
unfolding figures_line text
figures-free f =
    free_append 10 (text "# gates ") (decimal f.gates ++ (text " area " ++ (decimal f.area ++ (text " arrival " ++ decimal f.arrival))))
    (refl, (refl, (refl, (refl, (refl, (refl, (refl, (refl, tt))))))))
    (free_append 10 (decimal f.gates) (text " area " ++ (decimal f.area ++ (text " arrival " ++ decimal f.arrival))) (decimal-free 10 f.gates (lit< tt))
    (free_append 10 (text " area ") (decimal f.area ++ (text " arrival " ++ decimal f.arrival)) (refl, (refl, (refl, (refl, (refl, (refl, tt))))))
    (free_append 10 (decimal f.area) (text " arrival " ++ decimal f.arrival) (decimal-free 10 f.area (lit< tt))
    (free_append 10 (text " arrival ") (decimal f.arrival) (refl, (refl, (refl, (refl, (refl, (refl, (refl, (refl, (refl, tt)))))))))
    (decimal-free 10 f.arrival (lit< tt))))))

-- the lines of the printed text, and more behind them
unfoldable pub lines_of : Graph → List Gate → Figures → List (List ℕ) → List (List ℕ)
unfolding text names_of body_of wire_bodies figures_line
lines_of g ts f more = text ".model top" ∷ names_of (text ".inputs") (input_names g) ∷ names_of (text ".outputs")
    (output_names g) ∷ map body_of ts ++ (wire_bodies 0 g.outputs ++ (text ".end" ∷ figures_line f ∷ more))

-- texts one after the other, and a last one
chain : List (List ℕ) → List ℕ → List ℕ
chain [] z = z
chain (x ∷ xs) z = x ++ chain xs z

chain-after : (xs : List (List ℕ)) (y z : List ℕ) → chain xs y ++ z ≡ chain xs (y ++ z)
unfolding chain
chain-after [] y z = refl
chain-after (x ∷ xs) y z = append_assoc x (chain xs y) z ∙ ap (λ (v : List ℕ). x ++ v) (chain-after xs y z)

module _ (g : Graph) where
  inputs-fit : Plains (input_names g)
  inputs-fit = plains_map (λ (v : ℕ). net_name (literal false v)) (λ v. net-plain (literal false v)) g.inputs

  outputs-fit : Plains (output_names g)
  outputs-fit = plains_map out_name out_plain (below (length g.outputs))

pub text-lines : (g : Graph) (ts : List Gate) (f : Figures) (after : List ℕ) → ((t : Gate) → Memᴰ t ts → T (is_name (name_of t.cell)))
    → parts 10 (netlist_text g ts f ++ after) ≡ lines_of g ts f (parts 10 after)
unfolding netlist_text lines_of figures_line text parts split onto chain
text-lines g ts f after h =
    let figures-line : List ℕ = text "# gates " ++ (decimal f.gates ++
    (text " area " ++ (decimal f.area ++ (text " arrival " ++ (decimal f.arrival ++ (text "\n" ++ after)))))) in
    let after-wires : List ℕ = text ".end\n" ++ figures-line in
    let after-gates : List ℕ = wire_lines 0 g.outputs ++ after-wires in
    let after-outputs : List ℕ = each gate_line ts ++ after-gates in
    let ended : figures-line ≡ figures_line f ++ (text "\n" ++ after) = sym (simp append_assoc) in
    ap (parts 10) (chain-after (text ".model top\n" ∷ names_line (text ".inputs") (input_names g) ∷ names_line (text ".outputs")
    (output_names g) ∷ each gate_line ts ∷ wire_lines 0 g.outputs ∷ text ".end\n# gates " ∷ decimal f.gates ∷ text " area " ∷ decimal
    f.area ∷ text " arrival " ∷ decimal f.arrival ∷ []) (text "\n") after) ∙ ap (λ (ps : List (List ℕ)). text ".model top" ∷ ps)
    (names-line (text ".inputs") inputs-plain (input_names g) (inputs-fit g) (names_line (text ".outputs") (output_names g) ++ after-outputs)
    ∙ ap (λ (ps : List (List ℕ)). names_of (text ".inputs") (input_names g) ∷ ps)
    (names-line (text ".outputs") outputs-plain (output_names g) (outputs-fit g) after-outputs
    ∙ ap (λ (ps : List (List ℕ)). names_of (text ".outputs") (output_names g) ∷ ps) (gate-lines ts h after-gates
    ∙ ap (λ (ps : List (List ℕ)). map body_of ts ++ ps) (wire-lines 0 g.outputs after-wires
    ∙ ap (λ (ps : List (List ℕ)). wire_bodies 0 g.outputs ++ (text ".end" ∷ ps))
    (ap (parts 10) ended ∙ parts-line 10 (figures_line f) after (figures-free f))))))

-- the printed text reads back, whatever follows its `# gates` line
pub read_back : (g : Graph) (ts : List Gate) (f : Figures) (after : List ℕ) → ((t : Gate) → Memᴰ t ts → T (is_name (name_of t.cell)))
    → read_blif (netlist_text g ts f ++ after) ≡ Some (blif_of g ts)
unfolding read_blif blif_of read_lines lines_of words_after after_word same only text and_then
read_back g ts f after h =
    let lines : List (List ℕ) = map body_of ts ++ (wire_bodies 0 g.outputs ++ (text ".end" ∷ figures_line f ∷ parts 10 after)) in
    let model : List (List ℕ) → List (List ℕ) → Body → Option Blif = λ is os b. Some
    (record { inputs = is; outputs = os; gates = b.gates; wires = b.wires }) in
    ap read_lines (text-lines g ts f after h)
    ∙ ap (λ (ps : List (List ℕ)). and_then (after_word (text ".inputs") ps) (λ is. and_then (words_after (text ".outputs") (names_of (text ".outputs") (output_names g))) (λ os. and_then (read_body lines) (model is os))))
    (names-words (text ".inputs") inputs-plain (input_names g) (inputs-fit g))
    ∙ ap (λ (ps : List (List ℕ)). and_then (after_word (text ".outputs") ps) (λ os. and_then (read_body lines) (model (input_names g) os)))
    (names-words (text ".outputs") outputs-plain (output_names g) (outputs-fit g))
    ∙ ap (λ (b : Option Body). and_then b (model (input_names g) (output_names g))) (read_body_lem ts h 0 g.outputs (figures_line f ∷ parts 10 after))

-- ---- what a gate line says

-- the pins A, B .. and the output O are bound, in this order
pins-from : (i b : ℕ) → b ≡ 65 + i → (ls : List Net) (o : Net)
    → map (λ (p : Binding). p.pin) (bindings_from b ls o) ≡ map (λ (j : ℕ). (65 + j) ∷ []) (from i (length ls)) ++ (output_name ∷ [])
unfolding bindings_from from
pins-from i b e [] o = refl
pins-from i b e (l ∷ ls) o = cc (pins-from (suc i) (suc b) (omega arith) ls o)

pub line-pins : (t : Gate) → map (λ (p : Binding). p.pin) (line_of t).bindings ≡ pin_names (length t.pins) ++ (output_name ∷ [])
unfolding line_of pin_names below
line-pins t = pins-from 0 65 refl t.pins t.net

-- a pin that is bound first, and one that is bound later
pub at_first : (b c : ℕ) → b ≡ c → (net : List ℕ) (ps : List Binding) → net_at (record { pin = b ∷ []; net = net } ∷ ps) (c ∷ []) ≡ net
unfolding net_at same
at_first b c e net ps = ap (λ (t : Bool). cond (t && true) net (net_at ps (c ∷ []))) (is_true (eqb b c) (yes_eqb e))

pub at-later : (b c : ℕ) → ¬ (b ≡ c) → (net : List ℕ) (ps : List Binding) → net_at (record { pin = b ∷ []; net = net } ∷ ps) (c ∷ []) ≡ net_at ps (c ∷ [])
unfolding net_at same
at-later b c d net ps = ap (λ (t : Bool). cond (t && true) net (net_at ps (c ∷ []))) (is_false (eqb b c) (no_eqb d))

drives-from : (b : ℕ) (ls : List Net) (o : Net) → b + length ls ≤ 79 → net_at (bindings_from b ls o) output_name ≡ label o
unfolding bindings_from
drives-from b [] o h = at_first 79 79 refl (label o) []
drives-from b (l ∷ ls) o h =
    at-later b 79 (let d : ¬ (b ≡ 79) = λ e. omega arith in d) (label l) (bindings_from (suc b) ls o) ∙ drives-from (suc b) ls o (omega arith)

-- a gate's line drives the gate's net
pub line-drives : (t : Gate) → length t.pins ≤ 4 → drives (line_of t) ≡ label t.net
unfolding line_of drives
line-drives t h = drives-from 65 t.pins t.net (omega arith)

fed-from : (i b : ℕ) → b ≡ 65 + i → (ls : List Net) (o : Net)
    → map (λ (j : ℕ). net_at (bindings_from b ls o) ((65 + j) ∷ [])) (from i (length ls)) ≡ map label ls
unfolding bindings_from from
fed-from i b e [] o = refl
fed-from i b e (l ∷ ls) o =
    ap₂ (λ (n : List ℕ) (ns : List (List ℕ)). n ∷ ns) (at_first b (65 + i) e (label l) (bindings_from (suc b) ls o))
    (map_same (λ (j : ℕ). net_at (bindings_from b (l ∷ ls) o) ((65 + j) ∷ [])) (λ (j : ℕ). net_at (bindings_from (suc b) ls o) ((65 + j) ∷ [])) (from (suc i) (length ls))
    (λ j m. at-later b (65 + j) (let d : ¬ (b ≡ 65 + j) = λ q. omega (arith, from_low (length ls) (suc i) j m) in d) (label l)
    (bindings_from (suc b) ls o))
    ∙ fed-from (suc i) (suc b) (omega arith) ls o)

-- the nets of a gate's pins feed its line, where the library has the gate's cell by its name
pub line-fed : (cells : List Cell) (t : Gate) → named cells (name_of t.cell) ≡ t.cell → t.cell.pins ≡ length t.pins → fed_by cells (line_of t) ≡ map label t.pins
unfolding line_of fed_by pin_names below
line-fed cells t e n = ap (λ (c : Cell). map (net_at (bindings_from 65 t.pins t.net)) (pin_names c.pins)) e
    ∙ ap (λ (k : ℕ). map (net_at (bindings_from 65 t.pins t.net)) (pin_names k)) n
    ∙ map-map (net_at (bindings_from 65 t.pins t.net)) (λ (j : ℕ). (65 + j) ∷ []) (from 0 (length t.pins))
    ∙ fed-from 0 65 refl t.pins t.net
