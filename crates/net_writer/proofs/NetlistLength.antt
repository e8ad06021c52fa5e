-- Lengths of names, pins and lines, and figures of gates.
use Rattle.base.specs.{◌≡◌, refl, sym, ap, ◌∙◌, Bool, true, false, cond, List, [], ◌∷◌, ◌++◌, map, append_assoc, append-nil, ℕ, suc, ◌+◌}
use Rattle.base.specs.{◌-◌, ◌*◌, ◌/◌, ◌%◌, ◌≤◌, ◌<◌, max, add-zero, add-one, arith, eq-eqb, ne_eqb, length, take, drop, get_or, length-append}
use Rattle.base.specs.{drop_of_length-le, drop-cons, length-take-le, get_or-take, ltb, ltb-true, ltb-false, lt-ltb, le-ltb}
use Rattle.model.specs.{from, each, text, decimal, name_of, var_of, of_phase, of_pair, Gate, net_name, label, out_name, pin_words, gate_line}
use Rattle.model.specs.{wire_line, sum, largest}
use Rattle.model.specs.declared.Cell.{Cell}
use Rattle.model.specs.declared.Header.{Header}
use Rattle.model.specs.declared.Figures.{Figures}
use Rattle.theory_graph.proofs.{by_bool}
use Rattle.base_words.specs.{output_at, phase_at, is_needed}
use Rattle.base_text.proofs.{dec_below}
use Rattle.net_gates.specs.declared.Instance.{Instance}
use Rattle.net_gates.specs.declared.Driver.{Driver}
use Rattle.net_gates.specs.declared.Driver.TheVariants.{Nothing, One, Pair}
use Rattle.net_gates.specs.{net_of, gate_of, gates_of}
use Rattle.net_writer.specs.declared.Tally.{Tally}
use Rattle.model.specs.declared.Mapped.{Mapped as Measured}
use Rattle.net_writer.specs.{net_words, pin_word, pin_part, line_of, line_length, gate_by, gate_at, gates_from, tallied, no_tally, input_net}
use Rattle.net_writer.specs.{input_names_from, output_names_from, spaced, wire_length, wire_lines_from, latest_from, preamble_text, preamble_length}
use Rattle.net_writer.specs.{figures_text, figures_length, all_gates, figures_in, text_in, text_length, measured_in}

-- ---- names

pub net-length : (l : ℕ) → length (net_name l) ≡ length (decimal (l / 2)) + 1
unfolding net_name var_of
net-length l = sym (add-one (length (decimal (l / 2))))

pub out_length : (k : ℕ) → length (out_name k) ≡ length (decimal k) + 1
unfolding out_name
out_length k = sym (add-one (length (decimal k)))

-- the digits of a number below 2 ^ 32, and of three
pub ten-digits : (n : ℕ) → n < 4294967296 → length (decimal n) ≤ 10
ten-digits n h = dec_below 9 n (omega arith)

pub figures-short : (f : Figures) → f.gates < 4294967296 → f.area < 4294967296 → f.arrival < 4294967296 → figures_length f ≤ 59
figures-short f g a t = omega (arith, ten-digits f.gates g, ten-digits f.area a, ten-digits f.arrival t)

-- ---- nets of given numbers

pub label_inside : (n : ℕ) → n % 2 ≡ 1 → label (net_of n) ≡ 115 ∷ net_name (n / 2)
unfolding net_of label
label_inside n e = ap (λ (b : Bool). label (cond b (of_pair (n / 2)) (of_phase (n / 2)))) (eq-eqb (n % 2) 1 e)

pub label-phase : (n : ℕ) → (n % 2 ≡ 1 → ⊥) → label (net_of n) ≡ net_name (n / 2)
unfolding net_of label
label-phase n h = ap (λ (b : Bool). label (cond b (of_pair (n / 2)) (of_phase (n / 2)))) (ne_eqb (n % 2) 1 h)

-- ---- pins

-- one pin's word, and those of more pins behind it
pub pin_cons : (b l : ℕ) (ls : List ℕ) → net_words b (l ∷ ls) ≡ pin_word b l ++ net_words (b + 1) ls
unfolding pin_words
pin_cons b l ls = rw (add-one b)

-- the pins from number j on
pub pins-at : (b : ℕ) (ls : List ℕ) (j : ℕ) → j < length ls
    → net_words (b + j) (drop j ls) ≡ pin_word (b + j) (get_or ls j 0) ++ net_words (b + (j + 1)) (drop (j + 1) ls)
pins-at b ls j h =
    let e : b + j + 1 ≡ b + (j + 1) = omega arith in
    ap (net_words (b + j)) (drop-cons ls j 0 h ∙ ap (λ (k : ℕ). get_or ls j 0 ∷ drop k ls) (sym (add-one j)))
    ∙ pin_cons (b + j) (get_or ls j 0) (drop (j + 1) ls)
    ∙ ap (λ (k : ℕ). pin_word (b + j) (get_or ls j 0) ++ net_words k (drop (j + 1) ls)) e

-- those of an array's first pins
module _ (nets : List ℕ) (count : ℕ) (four : length nets ≡ 4) (few : count ≤ 4) where
  long : length (take count nets) ≡ count
  long = length-take-le count nets (omega arith)

  pub pins-next : (j : ℕ) → j < count
      → net_words (65 + j) (drop j (take count nets))
      ≡ pin_word (65 + j) (get_or nets j 0) ++ net_words (65 + (j + 1)) (drop (j + 1) (take count nets))
  pins-next j h =
      pins-at 65 (take count nets) j (omega (arith, long))
      ∙ ap (λ (x : ℕ). pin_word (65 + j) x ++ net_words (65 + (j + 1)) (drop (j + 1) (take count nets))) (get_or-take count nets j 0 h)

  pub pins-none : (j : ℕ) → count ≤ j → net_words (65 + j) (drop j (take count nets)) ≡ []
  unfolding pin_words
  pins-none j h = ap (net_words (65 + j)) (drop_of_length-le (take count nets) {i = j} (omega (arith, long)))

  -- pin by pin: `part-there` of one that is there, `part-absent` of another
  pub part-there : (j : ℕ) → j < count → pin_part nets count j ≡ pin_word (65 + j) (get_or nets j 0)
  unfolding pin_part
  part-there j h = ap (λ (b : Bool). cond b (pin_word (65 + j) (get_or nets j 0)) []) (lt-ltb j count h)

  pub part-absent : (j : ℕ) → count ≤ j → pin_part nets count j ≡ []
  unfolding pin_part
  part-absent j h = ap (λ (b : Bool). cond b (pin_word (65 + j) (get_or nets j 0)) []) (le-ltb j count h)

  part-next : (j : ℕ) → net_words (65 + j) (drop j (take count nets)) ≡ pin_part nets count j ++ net_words (65 + (j + 1)) (drop (j + 1) (take count nets))
  part-next j = by_bool (ltb j count)
      (λ e. let h = ltb-true j count e in rw (part-there j h) (pins-next j h))
      (λ e. let h = ltb-false j count e in rw (part-absent j h) (pins-none j h ∙ sym (pins-none (j + 1) (omega (arith, h)))))

  pub pin-parts : net_words 65 (take count nets) ≡ pin_part nets count 0 ++ (pin_part nets count 1 ++ (pin_part nets count 2 ++ pin_part nets count 3))
  pin-parts = part-next 0 ∙ ap (λ (s : List ℕ). pin_part nets count 0 ++ s) (part-next 1 ∙ ap (λ (s : List ℕ). pin_part nets count 1 ++ s)
      (part-next 2 ∙ ap (λ (s : List ℕ). pin_part nets count 2 ++ s) (part-next 3 ∙ ap (λ (s : List ℕ). pin_part nets count 3 ++ s) (pins-none 4 few)
      ∙ append-nil (pin_part nets count 3))))

-- ---- gate lines

pub line-is : (c : Cell) (nets : List ℕ) (net : ℕ)
    → line_of c nets net ≡ text ".gate " ++ (take c.len c.name ++ (net_words 65 nets ++ (pin_word 79 net ++ (10 ∷ []))))
unfolding gate_line text name_of pin_words
line-is c nets net =
    ap (λ (x : List ℕ). text ".gate " ++ (take c.len c.name ++ (net_words 65 nets ++ ((32 ∷ 79 ∷ 61 ∷ x) ++ (10 ∷ [])))))
    (append-nil (label (net_of net)))

pub line-length : (c : Cell) (nets : List ℕ) (net : ℕ) → length (line_of c nets net) ≡ line_length c nets net
unfolding text
line-length c nets net = ap length (line-is c nets net) ∙ simp length-append (omega arith)

-- ---- numbers from i on

pub from_next : (i n : ℕ) → i < n → from i (n - i) ≡ i ∷ from (i + 1) (n - (i + 1))
unfolding from
from_next i n h =
    let e : n - i ≡ suc (n - (i + 1)) = omega arith in
    ap (from i) e ∙ ap (λ (k : ℕ). i ∷ from k (n - (i + 1))) (sym (add-one i))

pub from-none : (i n : ℕ) → n ≤ i → from i (n - i) ≡ []
unfolding from
from-none i n h = let e : n - i ≡ 0 = omega arith in ap (from i) e

-- what stands for each of them
module _ {B : Type 0} (f : ℕ → List B) (n : ℕ) where
  pub each_next : (i : ℕ) → i < n → each f (from i (n - i)) ≡ f i ++ each f (from (i + 1) (n - (i + 1)))
  unfolding each
  each_next i h = ap (each f) (from_next i n h)

  pub each_none : (i : ℕ) → n ≤ i → each f (from i (n - i)) ≡ []
  unfolding each
  each_none i h = ap (each f) (from-none i n h)

-- ---- gates

module _ {A B : Type 0} (f : A → List B) where
  pub each_append : (xs ys : List A) → each f (xs ++ ys) ≡ each f xs ++ each f ys
  unfolding each
  each_append [] ys = refl
  each_append (x ∷ xs) ys = ap (λ (l : List B). f x ++ l) (each_append xs ys) ∙ sym (append_assoc (f x) (each f xs) (each f ys))

pub map-append : {A B : Type 0} (f : A → B) (xs ys : List A) → map f (xs ++ ys) ≡ map f xs ++ map f ys
map-append f [] ys = refl
map-append f (x ∷ xs) ys = ap (λ (l : List _). f x ∷ l) (map-append f xs ys)

pub sum_append : (xs ys : List ℕ) → sum (xs ++ ys) ≡ sum xs + sum ys
unfolding sum
sum_append [] ys = omega arith
sum_append (x ∷ xs) ys = omega (arith, sum_append xs ys)

module _ (w records : List ℕ) (m n : ℕ) where
  pub gates-next : (l : ℕ) → l < n → gates_from w records m l (n - l) ≡ gate_at w records m l ++ gates_from w records m (l + 1) (n - (l + 1))
  unfolding gates_from
  gates-next l h = each_next (gate_at w records m) n l h

  pub gates-none : (l : ℕ) → n ≤ l → gates_from w records m l (n - l) ≡ []
  unfolding gates_from
  gates-none l h = each_none (gate_at w records m) n l h

  pub lines_next : (l : ℕ) → l < n → each gate_line (gates_from w records m l (n - l)) ≡ each gate_line (gate_at w records m l) ++ each gate_line (gates_from w records m (l + 1) (n - (l + 1)))
  lines_next l h = ap (each gate_line) (gates-next l h) ∙ each_append gate_line (gate_at w records m l) (gates_from w records m (l + 1) (n - (l + 1)))

  pub lines_none : (l : ℕ) → n ≤ l → each gate_line (gates_from w records m l (n - l)) ≡ []
  unfolding each
  lines_none l h = ap (each gate_line) (gates-none l h)

-- the gate of phase l, by whether the phase is needed
module _ (w records : List ℕ) (m l : ℕ) where
  pub gate-needed : is_needed w m l ≡ true → gate_at w records m l ≡ gate_by w records m l (phase_at w m l).source
  unfolding gate_at
  gate-needed e = ap (λ (b : Bool). cond b (gate_by w records m l (phase_at w m l).source) []) e

  pub gate_idle : is_needed w m l ≡ false → gate_at w records m l ≡ []
  unfolding gate_at
  gate_idle e = ap (λ (b : Bool). cond b (gate_by w records m l (phase_at w m l).source) []) e

-- the gates of a driver, by what it is
module _ {d : Driver} where
  pub gates-two : {inner root : Instance} → d ≡ Pair inner root → gates_of d ≡ gate_of inner ∷ gate_of root ∷ []
  unfolding gates_of
  gates-two e = ap gates_of e

  pub gates-one : {g : Instance} → d ≡ One g → gates_of d ≡ gate_of g ∷ []
  unfolding gates_of
  gates-one e = ap gates_of e

  pub gates-absent : d ≡ Nothing → gates_of d ≡ []
  unfolding gates_of
  gates-absent e = ap gates_of e

  pub lines_two : {inner root : Instance} → d ≡ Pair inner root → each gate_line (gates_of d) ≡ gate_line (gate_of inner) ++ gate_line (gate_of root)
  unfolding each
  lines_two {inner = inner} {root = root} e = ap (each gate_line) (gates-two e) ∙ ap (λ (bs : List ℕ). gate_line (gate_of inner) ++ bs) (append-nil (gate_line (gate_of root)))

  pub lines-one : {g : Instance} → d ≡ One g → each gate_line (gates_of d) ≡ gate_line (gate_of g)
  unfolding each
  lines-one {g = g} e = ap (each gate_line) (gates-one e) ∙ append-nil (gate_line (gate_of g))

  pub lines-absent : d ≡ Nothing → each gate_line (gates_of d) ≡ []
  unfolding each
  lines-absent e = ap (each gate_line) (gates-absent e)

-- an instance's line
pub line_of_lem : (g : Instance) → gate_line (gate_of g) ≡ line_of g.cell (take g.count g.nets) g.net
unfolding gate_of
line_of_lem g = refl

-- what is counted one after the other
pub tally_append : (t : Tally) (ts us : List Gate) → tallied (tallied t ts) us ≡ tallied t (ts ++ us)
unfolding tallied
tally_append t ts us =
    let bytes : t.length + length (each gate_line ts) + length (each gate_line us) ≡ t.length + length (each gate_line (ts ++ us)) =
    omega (arith, ap length (each_append gate_line ts us) ∙ length-append (each gate_line ts) (each gate_line us)) in
    let count : t.gates + length ts + length us ≡ t.gates + length (ts ++ us) = omega (arith, length-append ts us) in
    let area : t.area + sum (map (λ (u : Gate). u.cell.area) ts) + sum (map (λ (u : Gate). u.cell.area) us) ≡ t.area + sum (map (λ (u : Gate). u.cell.area) (ts ++ us)) =
    omega (arith, ap sum (map-append (λ (u : Gate). u.cell.area) ts us) ∙ sum_append (map (λ (u : Gate). u.cell.area) ts) (map (λ (u : Gate). u.cell.area) us)) in
    λ i. record { length = bytes i; gates = count i; area = area i }

pub tally_none : (t : Tally) → tallied t [] ≡ t
unfolding tallied each sum
tally_none t = λ i. record { length = add-zero t.length i; gates = add-zero t.gates i; area = add-zero t.area i }

pub tally_one : (t : Tally) (u : Gate) → tallied t (u ∷ []) ≡ record { length = t.length + length (gate_line u); gates = t.gates + 1; area = t.area + u.cell.area }
unfolding tallied each sum
tally_one t u =
    let bytes : t.length + length (gate_line u ++ []) ≡ t.length + length (gate_line u) = ap (λ (x : List ℕ). t.length + length x) (append-nil (gate_line u)) in
    let area : t.area + (u.cell.area + 0) ≡ t.area + u.cell.area = omega arith in
    λ i. record { length = bytes i; gates = t.gates + 1; area = area i }

-- ---- names lines

-- the names of the numbers from i on
module _ (name : ℕ → List ℕ) (n : ℕ) where
  spaced-next : (i : ℕ) → i < n → spaced (map name (from i (n - i))) ≡ (32 ∷ []) ++ (name i ++ spaced (map name (from (i + 1) (n - (i + 1)))))
  unfolding spaced each
  spaced-next i h = ap (λ (ks : List ℕ). spaced (map name ks)) (from_next i n h)

  spaced-none : (i : ℕ) → n ≤ i → spaced (map name (from i (n - i))) ≡ []
  unfolding spaced each
  spaced-none i h = ap (λ (ks : List ℕ). spaced (map name ks)) (from-none i n h)

module _ (w : List ℕ) (m n : ℕ) where
  pub inputs-next : (i : ℕ) → i < n → spaced (input_names_from w m i (n - i)) ≡ (32 ∷ []) ++ (net_name (input_net w m i) ++ spaced (input_names_from w m (i + 1) (n - (i + 1))))
  unfolding input_names_from
  inputs-next i h = spaced-next (λ (k : ℕ). net_name (input_net w m k)) n i h

  pub inputs-none : (i : ℕ) → n ≤ i → spaced (input_names_from w m i (n - i)) ≡ []
  unfolding input_names_from
  inputs-none i h = spaced-none (λ (k : ℕ). net_name (input_net w m k)) n i h

module _ (n : ℕ) where
  pub outputs-next : (i : ℕ) → i < n → spaced (output_names_from i (n - i)) ≡ (32 ∷ []) ++ (out_name i ++ spaced (output_names_from (i + 1) (n - (i + 1))))
  unfolding output_names_from
  outputs-next i h = spaced-next out_name n i h

  pub outputs-none : (i : ℕ) → n ≤ i → spaced (output_names_from i (n - i)) ≡ []
  unfolding output_names_from
  outputs-none i h = spaced-none out_name n i h

-- ---- the outputs' wires

pub wire-length : (k l : ℕ) → length (wire_line k l) ≡ wire_length k l
unfolding wire_line text
wire-length k l = simp length-append (omega arith)

module _ (w : List ℕ) (m n : ℕ) where
  pub wires-next : (i : ℕ) → i < n → wire_lines_from w m i (n - i) ≡ wire_line i (output_at w m i) ++ wire_lines_from w m (i + 1) (n - (i + 1))
  unfolding wire_lines_from
  wires-next i h = each_next (λ (k : ℕ). wire_line k (output_at w m k)) n i h

  pub wires-none : (i : ℕ) → n ≤ i → wire_lines_from w m i (n - i) ≡ []
  unfolding wire_lines_from
  wires-none i h = each_none (λ (k : ℕ). wire_line k (output_at w m k)) n i h

-- ---- the latest

module _ (w : List ℕ) (m n : ℕ) where
  pub latest-next : (i : ℕ) → i < n → latest_from w m i (n - i) ≡ max (phase_at w m (output_at w m i)).arrival (latest_from w m (i + 1) (n - (i + 1)))
  unfolding latest_from largest
  latest-next i h = ap (λ (ks : List ℕ). largest (map (λ (k : ℕ). (phase_at w m (output_at w m k)).arrival) ks)) (from_next i n h)

  pub latest-none : (i : ℕ) → n ≤ i → latest_from w m i (n - i) ≡ 0
  unfolding latest_from largest
  latest-none i h = ap (λ (ks : List ℕ). largest (map (λ (k : ℕ). (phase_at w m (output_at w m k)).arrival) ks)) (from-none i n h)

-- ---- the first lines and the last

pub preamble-length : (w : List ℕ) (m inputs outputs : ℕ) → length (preamble_text w m inputs outputs) ≡ preamble_length w m inputs outputs
unfolding preamble_text text
preamble-length w m inputs outputs = simp length-append (omega arith)

pub figures-length : (f : Figures) → length (figures_text f) ≡ figures_length f
unfolding figures_text text
figures-length f = simp length-append (omega arith)

pub longer : (xs ys : List ℕ) → length xs ≤ length (xs ++ ys)
longer xs ys = omega (arith, length-append xs ys)

-- ---- what is measured

pub text-length : (w records : List ℕ) (h : Header) (f : Figures) → length (text_in w records h f) ≡ text_length w records h f
unfolding text_in all_gates
text-length w records h f = simp length-append

module _ (w records : List ℕ) (h : Header) (t : Tally) (counted : t ≡ tallied no_tally (gates_from w records h.size 0 (2 * (h.size + 1)))) where
  pub figures_in_lem : (a : ℕ) → a ≡ latest_from w h.size 0 h.outputs → ◌≡◌ {A = Figures} (record { gates = t.gates; area = t.area; arrival = a }) (figures_in w records h)
  unfolding figures_in all_gates tallied
  figures_in_lem a e =
      let gates : t.gates ≡ length (all_gates w records h) = ap (λ (x : Tally). x.gates) counted ∙ omega arith in
      let area : t.area ≡ sum (map (λ (u : Gate). u.cell.area) (all_gates w records h)) = ap (λ (x : Tally). x.area) counted ∙ omega arith in
      λ i. record { gates = gates i; area = area i; arrival = e i }

  pub measured_in_lem : (f : Figures) (preamble wires figures : ℕ) → f ≡ figures_in w records h
      → preamble ≡ preamble_length w h.size h.inputs h.outputs
      → wires ≡ length (wire_lines_from w h.size 0 h.outputs) → figures ≡ figures_length f
      → ◌≡◌ {A = Measured} (record { length = preamble + t.length + wires + figures; figures = f }) (measured_in w records h)
  unfolding measured_in tallied
  measured_in_lem f preamble wires figures e p q r =
      let lines = each gate_line (gates_from w records h.size 0 (2 * (h.size + 1))) in
      let counts : t.length ≡ length lines = ap (λ (x : Tally). x.length) counted ∙ omega arith in
      let whole : preamble + t.length + wires + figures ≡ length (text_in w records h f) =
      omega (arith, text-length w records h f, preamble-length w h.size h.inputs h.outputs, figures-length f) in
      (λ i. record { length = whole i; figures = f })
      ∙ ap (λ (x : Figures). record { length = length (text_in w records h x); figures = x }) e
