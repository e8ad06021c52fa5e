-- Printed lines as the check reads them: a gate's line drives the gate's net, and the `.names` lines drive the outputs' own names.
use Rattle.base.specs.{ℕ, suc, ◌+◌, ◌<◌, add-zero, arith, ◌≡◌, refl, ◌∙◌, ap, ap₂, Bool, true, ◌&&◌, Option, Some, List, [], ◌∷◌, ◌++◌, map}
use Rattle.base.specs.{append_assoc, append-nil, Memᴰ, Memᴰ-head, Memᴰ-tail, T, eqb, lit<, length, get_or, take-append_seam}
use Rattle.base.specs.{get_or-append-add, yes_eqb}
use Rattle.model.specs.{each, same, and_then, only, from, below, Line, text, lines_from, fields, holds, next, unless, from?, name_of, out_name}
use Rattle.model.specs.{Driver, is_net, pin_net, bound_nets, gate_of_fields, gate_driver, is_gate, name_driver, is_line, past_row, read_names}
use Rattle.model.specs.{read_drivers}
use Rattle.model.specs.declared.Cell.{Cell}
use Rattle.theory_graph.specs.{library_fits}
use Rattle.theory_graph.proofs.{is_true, same_refl}
use Rattle.theory_text.proofs.{Free, above, free_append, Clear, Clears, spaced-free, name_clear, out_clear, line_of_bytes, line_first}
use Rattle.theory_text.proofs.{fields-word, fields-last, cell_form, library-cell}
use Rattle.theory_check.proofs.CheckWords.{named_back}

-- ---- words and lines

-- a line: a keyword, and words with one space before each
abbrev pub worded : List ℕ → List (List ℕ) → List ℕ
worded key ws = key ++ each (λ (n : List ℕ). 32 ∷ n) ws

-- its words as `fields` sees them
pub fields_worded : (key : List ℕ) (ws : List (List ℕ)) → Free 32 key → Clears ws → fields (worded key ws) ≡ key ∷ ws
unfolding each
fields_worded key [] f c = ap fields (append-nil key) ∙ fields-last key f
fields_worded key (w ∷ ws) f c =
    fields-word key (w ++ each (λ (n : List ℕ). 32 ∷ n) ws) f ∙ ap (λ (xs : List (List ℕ)). key ∷ xs) (fields_worded w ws (c.0 32 (lit< tt)) c.1)

-- the line as `lines_from` sees it, before what follows it
pub worded_line : (at : ℕ) (key : List ℕ) (ws : List (List ℕ)) (rest : List ℕ) → Free 10 key → Free 13 key → Clears ws
    → lines_from at [] (worded key ws ++ (10 ∷ rest)) ≡ line_of_bytes at (worded key ws) ∷ lines_from (at + suc (length (worded key ws))) [] rest
worded_line at key ws rest f h c =
    line_first at (worded key ws) rest (free_append 10 key (each (λ (n : List ℕ). 32 ∷ n) ws) f (spaced-free 10 (lit< tt) refl ws c))
    (free_append 13 key (each (λ (n : List ℕ). 32 ∷ n) ws) h (spaced-free 13 (lit< tt) refl ws c))

-- ---- a gate's line

-- words `A=net` from letter b on
unfoldable pub bind_words : ℕ → List (List ℕ) → List (List ℕ)
bind_words b [] = []
bind_words b (n ∷ ns) = (b ∷ 61 ∷ n) ∷ bind_words (suc b) ns

-- a gate by the names of its nets
pub record Shown : Type 0 where
  pub cell : Cell
  pub pins : List (List ℕ)
  pub net : List ℕ

-- the words behind `.gate`
unfoldable pub shown_words : Shown → List (List ℕ)
unfolding bind_words name_of
shown_words x = name_of x.cell ∷ bind_words 65 x.pins ++ ((79 ∷ 61 ∷ x.net) ∷ [])

abbrev pub shown_line : Shown → List ℕ
shown_line x = worded (text ".gate") (shown_words x)

abbrev pub AreNets : List (List ℕ) → Type 0
AreNets [] = Unit {0}
AreNets (n ∷ ns) = (T (is_net n) × Clear n) × AreNets ns

-- it is of a listed cell and has as many nets as the cell has pins, each in its form
pub record Fine (cells : List Cell) (x : Shown) : Type 0 where
  pub listed : Memᴰ x.cell cells
  pub count : length x.pins ≡ x.cell.pins
  pub nets : AreNets x.pins
  pub is_net_too : T (is_net x.net) × Clear x.net

pin-net : (b c : ℕ) → b ≡ c → (n : List ℕ) → T (is_net n) → pin_net c (b ∷ 61 ∷ n) ≡ Some n
unfolding pin_net
pin-net b c e n t = ap₂ (λ (x y : Bool). only (x && (true && y)) n) (is_true (eqb b c) (yes_eqb e)) (is_true (is_net n) t)

bound-from : (i b : ℕ) → b ≡ 65 + i → (ns : List (List ℕ)) (o : List ℕ) → AreNets ns → T (is_net o)
    → bound_nets (map (λ (j : ℕ). 65 + j) (from i (length ns)) ++ (79 ∷ [])) (bind_words b ns ++ ((79 ∷ 61 ∷ o) ∷ [])) ≡ Some (ns ++ (o ∷ []))
unfolding bound_nets bind_words from and_then
bound-from i b e [] o a t = ap (λ (x : Option (List ℕ)). and_then x (λ n. Some (n ∷ []))) (pin-net 79 79 refl o t)
bound-from i b e (n ∷ ns) o a t = cc (pin-net b (65 + i) e n a.0.0, bound-from (suc i) (suc b) (omega arith) ns o a.1 t)

-- what the line says
abbrev pub driver_at : ℕ → Shown → Driver
driver_at at x = record { offset = at; table = x.cell.table; uses = x.pins; net = x.net }

fields-driver : (cells : List Cell) → T (library_fits cells) → (at : ℕ) (x : Shown) → Fine cells x → gate_of_fields cells at (text ".gate" ∷ shown_words x) ≡ Some (driver_at at x)
unfolding gate_of_fields shown_words text and_then below
fields-driver cells fit at x f = cc (
  named_back cells fit x.cell f.listed,
  f.count,
  bound-from 0 65 refl x.pins x.net f.nets
      f.is_net_too.0,
  take-append_seam x.pins (x.net ∷ []),
  add-zero (length x.pins),
  get_or-append-add x.pins (x.net ∷ []) 0 [],
)

clear_words : (x : Shown) (cells : List Cell) → T (library_fits cells) → Fine cells x → Clears (shown_words x)
unfolding shown_words bind_words
clear_words x cells fit f = (name_clear (name_of x.cell) (cell_form x.cell (library-cell cells fit x.cell f.listed)).is_named, pins 65 (lit< tt) x.pins f.nets)
  where
    word : (b : ℕ) → 48 < b → (n : List ℕ) → Clear n → Clear (b ∷ 61 ∷ n)
    word b h n c s k = (above s b (omega arith), (above s 61 (omega arith), c s k))

    pins : (b : ℕ) → 48 < b → (ns : List (List ℕ)) → AreNets ns → Clears (bind_words b ns ++ ((79 ∷ 61 ∷ x.net) ∷ []))
    pins b h [] a = (word 79 (lit< tt) x.net f.is_net_too.1, tt)
    pins b h (n ∷ ns) a = (word b h n a.0.1, pins (suc b) (omega arith) ns a.1)

-- the line is a gate's, and drives its net
shown-gate : (at : ℕ) (x : Shown) (cells : List Cell) → T (library_fits cells) → Fine cells x → is_gate (line_of_bytes at (shown_line x)) ≡ true
unfolding is_gate same text
shown-gate at x cells fit f =
    ap (λ (ws : List (List ℕ)). same (get_or ws 0 []) (text ".gate")) (fields_worded (text ".gate") (shown_words x) (refl, (refl, (refl, (refl, (refl, tt))))) (clear_words x cells fit f))

shown-driver : (at : ℕ) (x : Shown) (cells : List Cell) → T (library_fits cells) → Fine cells x → gate_driver cells (line_of_bytes at (shown_line x)) ≡ Some (driver_at at x)
unfolding gate_driver only and_then text
shown-driver at x cells fit f =
    ap (gate_of_fields cells at) (fields_worded (text ".gate") (shown_words x) (refl, (refl, (refl, (refl, (refl, tt))))) (clear_words x cells fit f))
    ∙ fields-driver cells fit at x f

-- a gate's line, and what is read behind it
gate-first : (cells : List Cell) (end outs : ℕ) (l : Line) (ls : List Line) (d : Driver) (ds : List Driver)
    → is_gate l ≡ true → gate_driver cells l ≡ Some d → read_drivers cells end outs ls ≡ holds ds → read_drivers cells end outs (l ∷ ls) ≡ holds (d ∷ ds)
unfolding read_drivers from? next
gate-first cells end outs l ls d ds g e q = cc

-- ---- all gates' lines

unfoldable pub gates_at : ℕ → List Shown → List Driver
unfolding shown_words text each
gates_at at [] = []
gates_at at (x ∷ xs) = driver_at at x ∷ gates_at (at + suc (length (shown_line x))) xs

unfoldable pub behind_gates : ℕ → List Shown → ℕ
unfolding shown_words text each
behind_gates at [] = at
behind_gates at (x ∷ xs) = behind_gates (at + suc (length (shown_line x))) xs

pub gates-read : (cells : List Cell) → T (library_fits cells) → (end outs : ℕ) (xs : List Shown) → ((x : Shown) → Memᴰ x xs → Fine cells x) → (at : ℕ) (rest : List ℕ) (ds : List Driver)
    → read_drivers cells end outs (lines_from (behind_gates at xs) [] rest) ≡ holds ds
    → read_drivers cells end outs (lines_from at [] (each (λ (x : Shown). shown_line x ++ (10 ∷ [])) xs ++ rest)) ≡ holds (gates_at at xs ++ ds)
unfolding each gates_at behind_gates
gates-read cells fit end outs [] fine at rest ds e = e
gates-read cells fit end outs (x ∷ xs) fine at rest ds e =
    let f = fine x (Memᴰ-head refl) in
    ap (λ (t : List ℕ). read_drivers cells end outs (lines_from at [] t))
    (append_assoc (shown_line x ++ (10 ∷ [])) (each (λ (y : Shown). shown_line y ++ (10 ∷ [])) xs) rest ∙ append_assoc (shown_line x) (10 ∷ []) (each (λ (y : Shown). shown_line y ++ (10 ∷ [])) xs ++ rest))
    ∙ ap (read_drivers cells end outs) (worded_line at (text ".gate") (shown_words x) (each (λ (y : Shown). shown_line y ++ (10 ∷ [])) xs ++ rest)
    (unfold text in (refl, (refl, (refl, (refl, (refl, tt)))))) (unfold text in (refl, (refl, (refl, (refl, (refl, tt)))))) (clear_words x cells fit f))
    ∙ (gate-first cells end outs (line_of_bytes at (shown_line x))
    (lines_from (at + suc (length (shown_line x))) [] (each (λ (y : Shown). shown_line y ++ (10 ∷ [])) xs ++ rest)) (driver_at at x)
    (gates_at (at + suc (length (shown_line x))) xs ++ ds) (shown-gate at x cells fit f) (shown-driver at x cells fit f)
    (gates-read cells fit end outs xs (λ y m. fine y (Memᴰ-tail m)) (at + suc (length (shown_line x))) rest ds e))

-- ---- the outputs' lines

-- the lines of the outputs from output k on, by the names of their nets
unfoldable pub names_text : ℕ → List (List ℕ) → List ℕ
unfolding text each out_name
names_text k [] = []
names_text k (n ∷ ns) = worded (text ".names") (n ∷ out_name k ∷ []) ++ (10 ∷ text "1 1" ++ (10 ∷ names_text (suc k) ns))

abbrev pub wire_driver : ℕ → ℕ → List ℕ → Driver
wire_driver at k n = record { offset = at; table = 2; uses = n ∷ []; net = out_name k }

-- where the line behind an output's two lines begins
abbrev pub behind_wire : ℕ → ℕ → List ℕ → ℕ
behind_wire at k n = at + suc (length (worded (text ".names") (n ∷ out_name k ∷ []))) + 4

unfoldable pub names_at : ℕ → ℕ → List (List ℕ) → List Driver
unfolding text each out_name
names_at at k [] = []
names_at at k (n ∷ ns) = wire_driver at k n ∷ names_at (behind_wire at k n) (suc k) ns

pub names-fields : (n : List ℕ) (k : ℕ) → Clear n → fields (worded (text ".names") (n ∷ out_name k ∷ [])) ≡ text ".names" ∷ n ∷ out_name k ∷ []
unfolding text
names-fields n k c = fields_worded (text ".names") (n ∷ out_name k ∷ []) (refl, (refl, (refl, (refl, (refl, (refl, tt)))))) (c, (out_clear k, tt))

name-driver : (at k : ℕ) (n : List ℕ) → T (is_net n) × Clear n → name_driver k (line_of_bytes at (worded (text ".names") (n ∷ out_name k ∷ []))) ≡ Some (wire_driver at k n)
unfolding name_driver
name-driver at k n h =
    let made : List (List ℕ) → Option Driver = λ ws. only
    (true && (eqb (length ws) 3 && (same (get_or ws 0 []) (text ".names") && (is_net (get_or ws 1 []) && same (get_or ws 2 []) (out_name k)))))
    (record { offset = at; table = 2; uses = get_or ws 1 [] ∷ []; net = out_name k }) in
    ap made (names-fields n k h.1)
    ∙ ap₂ (λ (a b : Bool). only (true && (true && (same (text ".names") (text ".names") && (a && b)))) (wire_driver at k n)) (is_true (is_net n) h.0) (is_true (same (out_name k) (out_name k)) (same_refl (out_name k)))
    ∙ (unfold text same only in refl)

-- an output's two lines, and what is read behind them
name-first : (end k left : ℕ) (l r : Line) (ls : List Line) (d : Driver) (ds : List Driver)
    → name_driver k l ≡ Some d → is_line (text "1 1") r ≡ true → read_names end (suc k) left ls ≡ holds ds → read_names end k (suc left) (l ∷ r ∷ ls) ≡ holds (d ∷ ds)
unfolding read_names past_row from? next unless
name-first end k left l r ls d ds e t q = cc

pub names-read : (end k : ℕ) (ns : List (List ℕ)) → AreNets ns → (at : ℕ) (rest : List ℕ)
    → read_names end k (length ns) (lines_from at [] (names_text k ns ++ (text ".end" ++ (10 ∷ rest)))) ≡ holds (names_at at k ns)
unfolding names_text names_at text
names-read end k [] a at rest =
    ap (read_names end k 0) (line_first at (text ".end") rest (refl, (refl, (refl, (refl, tt)))) (refl, (refl, (refl, (refl, tt))))) ∙ (unfold read_names is_line same unless in refl)
names-read end k (n ∷ ns) a at rest =
    let behind : List ℕ = names_text (suc k) ns ++ (text ".end" ++ (10 ∷ rest)) in
    ap (λ (t : List ℕ). read_names end k (suc (length ns)) (lines_from at [] t)) (append_assoc (worded (text ".names") (n ∷ out_name k ∷ []))
    (10 ∷ text "1 1" ++ (10 ∷ names_text (suc k) ns)) (text ".end" ++ (10 ∷ rest)))
    ∙ ap (read_names end k (suc (length ns)))
    (worded_line at (text ".names") (n ∷ out_name k ∷ []) (text "1 1" ++ (10 ∷ behind)) (refl, (refl, (refl, (refl, (refl, (refl, tt)))))) (refl, (refl, (refl, (refl, (refl, (refl, tt)))))) (a.0.1, (out_clear k, tt))
    ∙ ap (λ (ls : List Line). line_of_bytes at (worded (text ".names") (n ∷ out_name k ∷ [])) ∷ ls) (line_first _ (text "1 1") behind (refl, (refl, (refl, tt))) (refl, (refl, (refl, tt)))))
    ∙ name-first end k (length ns) _ _ (lines_from (behind_wire at k n) [] behind) (wire_driver at k n) (names_at (behind_wire at k n) (suc k) ns) (name-driver at k n a.0) (unfold is_line same in refl)
    (names-read end (suc k) ns a.1 (behind_wire at k n) rest)
