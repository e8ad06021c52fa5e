-- The lines of a printed netlist, by their words: each is of the form that is expected, and together they are the text.
use Rattle.base.specs.{ℕ, zero, suc, ◌+◌, ◌/◌, ◌%◌, ◌<◌, arith, ◌≡◌, refl, sym, ◌∙◌, ap, Bool, true, false, cond, or-true, List, [], ◌∷◌}
use Rattle.base.specs.{◌++◌, map, append_assoc, T, ltb, ltb→lt, lit<, length, eq-eqb, le-leb, lt-ltb, and_yes}
use Rattle.model.specs.{all, each, same, from, below, text, digits, decimal, fields, between, name_of, literal, negated, var_of, Net, of_phase}
use Rattle.model.specs.{of_pair, Gate, net_name, label, out_name, pin_words, gate_line, names_line, wire_line, wire_lines, netlist_text, timing_lines}
use Rattle.model.specs.{are_digits, is_label, is_phase_net, is_inner_net, is_gate_net, is_bound, of_form, of_list, is_name_list, gate_form, is_wire}
use Rattle.model.specs.{is_figures, is_timing}
use Rattle.model.specs.Graph.{Graph}
use Rattle.model.specs.declared.Cell.{Cell}
use Rattle.model.specs.declared.Figures.{Figures}
use Rattle.theory_graph.proofs.{is_true, same_refl, lit_neg, by_bool}
use Rattle.theory_text.proofs.{above, decimal-free, net-free, label-free, out_clear, Clear, Clears, clears_map, names_of, body, body_of}
use Rattle.theory_text.proofs.{gate-line, wire_body, wire-line, input_names, output_names}
use Rattle.theory_tally.proofs.LineWords.{Whole, Wholes, names-whole, names-fields, names-ended, lined}
use Rattle.theory_tally.proofs.ExpectedMet.{Meets}

-- ---- words

digit-is : (d : ℕ) → d < 10 → between 48 57 (48 + d) ≡ true
unfolding between
digit-is d h = rw (le-leb 48 (48 + d) (omega arith), le-leb (48 + d) 57 (omega arith)) refl

digits_are : (fuel n : ℕ) (after : List ℕ) → all (between 48 57) after ≡ true → all (between 48 57) (digits fuel n after) ≡ true
unfolding digits all
digits_are zero n after h = h
digits_are (suc fuel) n after h = by_bool (ltb n 10) (λ e. rw e (rw (digit-is n ((rw e at (ltb→lt n 10)) tt)) h))
    (λ q. rw q (digits_are fuel (n / 10) ((48 + n % 10) ∷ after) (rw (digit-is (n % 10) (omega arith)) h)))

digits-some : (fuel n : ℕ) (after : List ℕ) → 0 < length after → 0 < length (digits fuel n after)
unfolding digits
digits-some zero n after h = h
digits-some (suc fuel) n after h = by_bool (ltb n 10)
    (λ e. rw e (omega (arith, digits-some fuel (n / 10) ((48 + n % 10) ∷ after) (omega arith))))
    (λ q. rw q (digits-some fuel (n / 10) ((48 + n % 10) ∷ after) (omega arith)))

decimal-digits : (n : ℕ) → are_digits (decimal n) ≡ true
unfolding are_digits decimal all
decimal-digits n = rw (lt-ltb 0 (length (decimal n)) (unfold digits in by_bool (ltb n 10)
    (λ e. rw e (omega (arith, digits-some n (n / 10) ((48 + n % 10) ∷ []) (omega arith))))
    (λ q. rw q (digits-some n (n / 10) ((48 + n % 10) ∷ []) (omega arith))))) (digits_are (suc n) n [] refl)

label_is : (b n : ℕ) → is_label b (b ∷ decimal n) ≡ true
unfolding is_label
label_is b n = rw (eq-eqb b b refl) (decimal-digits n)

net-is : (l : ℕ) → is_phase_net (net_name l) ≡ true
unfolding is_phase_net net_name
net-is l = by_bool (negated l) (λ e. rw e (rw (label_is 109 (var_of l)) (or-true (is_label 112 (109 ∷ decimal (var_of l))))))
    (λ q. rw q (rw (label_is 112 (var_of l)) refl))

gate-net-is : (n : Net) → is_gate_net (label n) ≡ true
unfolding is_gate_net is_inner_net label
gate-net-is (of_phase l) = rw (net-is l) refl
gate-net-is (of_pair l) = rw (net-is l) (or-true (is_phase_net (115 ∷ net_name l)))

bound-is : (b c : ℕ) (n : Net) → b ≡ c → is_bound c (b ∷ 61 ∷ label n) ≡ true
unfolding is_bound
bound-is b c n e = rw (eq-eqb b c e) (gate-net-is n)

out_is : (k : ℕ) → is_label 111 (out_name k) ≡ true
unfolding out_name
out_is k = label_is 111 k

net_clear : (l : ℕ) → Clear (net_name l)
net_clear l s h = net-free s l h

label_clear : (n : Net) → Clear (label n)
label_clear n s h = label-free s n h

decimal_clear : (n : ℕ) → Clear (decimal n)
decimal_clear n s h = decimal-free s n h

-- ---- a gate's line

-- the words of pins from letter b on, and of the output
unfoldable pub bound_words : ℕ → List Net → Net → List (List ℕ)
bound_words b [] o = (79 ∷ 61 ∷ label o) ∷ []
bound_words b (l ∷ ls) o = (b ∷ 61 ∷ label l) ∷ bound_words (suc b) ls o

unfoldable pub gate_words : Gate → List (List ℕ)
unfolding bound_words name_of
gate_words t = name_of t.cell ∷ bound_words 65 t.pins t.net

abbrev pub gate_row : Gate → List ℕ
gate_row t = names_of (text ".gate") (gate_words t)

bound-words : (b : ℕ) (ls : List Net) (o : Net) → each (λ (n : List ℕ). 32 ∷ n) (bound_words b ls o) ≡ pin_words b ls ++ pin_words 79 (o ∷ [])
unfolding each bound_words pin_words
bound-words b [] o = refl
bound-words b (l ∷ ls) o = cc (bound-words (suc b) ls o, append_assoc (label l) (pin_words (suc b) ls) (pin_words 79 (o ∷ [])))

row_body : (t : Gate) → body_of t ≡ gate_row t
unfolding body_of body names_of gate_words each text
row_body t = ap (λ (x : List ℕ). text ".gate " ++ (name_of t.cell ++ x)) (sym (bound-words 65 t.pins t.net))

pub gates_lined : (ts : List Gate) (vs : List (List ℕ)) → each gate_line ts ++ lined vs ≡ lined (map gate_row ts ++ vs)
unfolding each lined
gates_lined [] vs = refl
gates_lined (t ∷ ts) vs =
    cc (append_assoc (gate_line t) (each gate_line ts) (lined vs), gate-line t (each gate_line ts ++ lined vs), row_body t, gates_lined ts vs)

bound_clear : (b : ℕ) → 48 < b → (ls : List Net) (o : Net) → Clears (bound_words b ls o)
unfolding bound_words
bound_clear b h [] o = ((λ s k. (above s 79 (omega arith), (above s 61 (omega arith), label_clear o s k))), tt)
bound_clear b h (l ∷ ls) o = ((λ s k. (above s b (omega arith), (above s 61 (omega arith), label_clear l s k))), bound_clear (suc b) (omega arith) ls o)

gate_clear : (t : Gate) → Clear (name_of t.cell) → Clears (gate_words t)
unfolding gate_words
gate_clear t c = (c, bound_clear 65 (lit< tt) t.pins t.net)

pub gate-fields : (t : Gate) → Clear (name_of t.cell) → fields (gate_row t) ≡ text ".gate" ∷ gate_words t
unfolding text
gate-fields t c = names-fields (text ".gate") (gate_words t) (refl, (refl, (refl, (refl, (refl, tt))))) (gate_clear t c)

pub gate-whole : (t : Gate) → Clear (name_of t.cell) → Whole (gate_row t)
unfolding text
gate-whole t c = names-whole (text ".gate") (gate_words t) ((refl, (refl, (refl, (refl, (refl, tt))))), (refl, (refl, (refl, (refl, (refl, tt)))))) (gate_clear t c)

pins_form : (i b : ℕ) → b ≡ 65 + i → (ls : List Net) (o : Net) → of_form (map (λ (j : ℕ). is_bound (65 + j)) (from i (length ls)) ++ (is_bound 79 ∷ [])) (bound_words b ls o) ≡ true
unfolding of_form bound_words from
pins_form i b e [] o = rw (bound-is 79 79 o refl) refl
pins_form i b e (l ∷ ls) o = rw (bound-is b (65 + i) l e) (pins_form (suc i) (suc b) (omega arith) ls o)

-- it is of its cell's form, and of no form with another name
pub gate_form_lem : (t : Gate) → Clear (name_of t.cell) → length t.pins ≡ t.cell.pins → of_form (gate_form t.cell) (fields (gate_row t)) ≡ true
unfolding gate_form gate_words below of_form same text
gate_form_lem t c n = cc (
  gate-fields t c,
  is_true (same (name_of t.cell) (name_of t.cell))
      (same_refl (name_of t.cell)),
  pins_form 0 65 refl t.pins t.net,
)

pub other_form : (t : Gate) (d : Cell) → Clear (name_of t.cell) → same (name_of d) (name_of t.cell) ≡ false → of_form (gate_form d) (fields (gate_row t)) ≡ false
unfolding gate_form gate_words of_form same text
other_form t d c n = cc (gate-fields t c)

-- ---- the first lines

abbrev pub model_row : List ℕ
model_row = text ".model top"

abbrev pub inputs_row : Graph → List ℕ
inputs_row g = names_of (text ".inputs") (input_names g)

abbrev pub outputs_row : Graph → List ℕ
outputs_row g = names_of (text ".outputs") (output_names g)

pub model-whole : Whole model_row
unfolding text
model-whole = ((refl, (refl, (refl, (refl, (refl, (refl, (refl, (refl, (refl, (refl, tt)))))))))), (refl, (refl, (refl, (refl, (refl, (refl, (refl, (refl, (refl, (refl, tt)))))))))))

-- names of one kind
all_named : (p : List ℕ → Bool) (f : ℕ → List ℕ) → ((x : ℕ) → p (f x) ≡ true) → (xs : List ℕ) → all p (map f xs) ≡ true
unfolding all
all_named p f h [] = refl
all_named p f h (x ∷ xs) = rw (h x) (all_named p f h xs)

own_is : (v : ℕ) → is_label 112 (net_name (literal false v)) ≡ true
unfolding net_name
own_is v = ap (λ (b : Bool). is_label 112 (cond b 109 112 ∷ decimal (var_of (literal false v)))) (lit_neg false v) ∙ label_is 112 (var_of (literal false v))

module _ (g : Graph) where
  inputs_clear : Clears (input_names g)
  inputs_clear = clears_map (λ (v : ℕ). net_name (literal false v)) (λ v. net_clear (literal false v)) g.inputs

  outputs_clear : Clears (output_names g)
  outputs_clear = clears_map out_name out_clear (below (length g.outputs))

  pub outputs-fields : fields (outputs_row g) ≡ text ".outputs" ∷ output_names g
  outputs-fields = names-fields (text ".outputs") (output_names g) (unfold text in (refl, (refl, (refl, (refl, (refl, (refl, (refl, (refl, tt))))))))) outputs_clear

  pub inputs-whole : Whole (inputs_row g)
  inputs-whole = names-whole (text ".inputs") (input_names g)
      (unfold text in ((refl, (refl, (refl, (refl, (refl, (refl, (refl, tt))))))), (refl, (refl, (refl, (refl, (refl, (refl, (refl, tt))))))))) inputs_clear

  pub outputs-whole : Whole (outputs_row g)
  outputs-whole = names-whole (text ".outputs") (output_names g)
      (unfold text in ((refl, (refl, (refl, (refl, (refl, (refl, (refl, (refl, tt)))))))), (refl, (refl, (refl, (refl, (refl, (refl, (refl, (refl, tt)))))))))) outputs_clear

  pub inputs_met : is_name_list (text ".inputs") 112 (inputs_row g) ≡ true
  unfolding is_name_list of_list same text
  inputs_met = ap (of_list (text ".inputs") (is_label 112)) (names-fields (text ".inputs") (input_names g)
      (unfold text in (refl, (refl, (refl, (refl, (refl, (refl, (refl, tt)))))))) inputs_clear)
      ∙ all_named (is_label 112) (λ (v : ℕ). net_name (literal false v)) own_is g.inputs

  pub outputs_met : is_name_list (text ".outputs") 111 (outputs_row g) ≡ true
  unfolding is_name_list of_list same text
  outputs_met = ap (of_list (text ".outputs") (is_label 111)) outputs-fields ∙ all_named (is_label 111) out_name out_is (below (length g.outputs))

-- ---- the outputs' own names

abbrev pub wire_row : ℕ → ℕ → List ℕ
wire_row k l = names_of (text ".names") (net_name l ∷ out_name k ∷ [])

unfoldable pub wire_rows : ℕ → List ℕ → List (List ℕ)
unfolding names_of text net_name out_name
wire_rows k [] = []
wire_rows k (l ∷ ls) = wire_row k l ∷ text "1 1" ∷ wire_rows (suc k) ls

pub wires_lined : (k : ℕ) (ls : List ℕ) (vs : List (List ℕ)) → wire_lines k ls ++ lined vs ≡ lined (wire_rows k ls ++ vs)
unfolding wire_lines wire_rows lined wire_body
wires_lined k [] vs = refl
wires_lined k (l ∷ ls) vs = cc (
  append_assoc (wire_line k l) (wire_lines (suc k) ls) (lined vs),
  wire-line k l
      (wire_lines (suc k) ls ++ lined vs),
  wires_lined (suc k) ls vs,
)

wire_clear : (k l : ℕ) → Clears (net_name l ∷ out_name k ∷ [])
wire_clear k l = (net_clear l, (out_clear k, tt))

pub wire-fields : (k l : ℕ) → fields (wire_row k l) ≡ text ".names" ∷ net_name l ∷ out_name k ∷ []
wire-fields k l = names-fields (text ".names") (net_name l ∷ out_name k ∷ []) (unfold text in (refl, (refl, (refl, (refl, (refl, (refl, tt))))))) (wire_clear k l)

pub wires_met : (i k : ℕ) (ls : List ℕ) → Meets (each (λ (_ : ℕ). is_wire ∷ same (text "1 1") ∷ []) (from i (length ls))) (wire_rows k ls)
unfolding each from wire_rows
wires_met i k [] = tt
wires_met i k (l ∷ ls) = (
  unfold is_wire of_form same text in ap (of_form (same (text ".names") ∷ is_phase_net ∷ is_label 111 ∷ [])) (wire-fields k l)
      ∙ rw (net-is l, out_is k) refl,
  ((unfold same text in refl), wires_met (suc i) (suc k) ls),
)

pub wires-whole : (k : ℕ) (ls : List ℕ) → Wholes (wire_rows k ls)
unfolding wire_rows
wires-whole k [] = tt
wires-whole k (l ∷ ls) = (
  names-whole (text ".names") (net_name l ∷ out_name k ∷ []) (unfold text in ((refl, (refl, (refl, (refl, (refl, (refl, tt)))))), (refl, (refl, (refl, (refl, (refl, (refl, tt)))))))) (wire_clear k l),
  ((unfold text in ((refl, (refl, (refl, tt))), (refl, (refl, (refl, tt))))), wires-whole (suc k) ls),
)

-- ---- the `# gates` line

abbrev pub figure_words : Figures → List (List ℕ)
figure_words f = text "gates" ∷ decimal f.gates ∷ text "area" ∷ decimal f.area ∷ text "arrival" ∷ decimal f.arrival ∷ []

abbrev pub figure_row : Figures → List ℕ
figure_row f = names_of (text "#") (figure_words f)

letters : (w : List ℕ) → T (all (λ (b : ℕ). ltb 48 b) w) → Clear w
unfolding all
letters [] t s h = tt
letters (b ∷ w) t s h =
    let p = and_yes (ltb 48 b) (all (λ (b : ℕ). ltb 48 b) w) t in
    let q : 48 < b = ltb→lt 48 b p.0 in (above s b (omega arith), letters w p.1 s h)

figure_clear : (f : Figures) → Clears (figure_words f)
figure_clear f = (
  letters (text "gates") (unfold all text in tt),
  (
    decimal_clear f.gates,
    (
      letters (text "area") (unfold all text in tt),
      (decimal_clear f.area, (letters (text "arrival") (unfold all text in tt), (decimal_clear f.arrival, tt))),
    ),
  ),
)

pub figure-whole : (f : Figures) → Whole (figure_row f)
figure-whole f = names-whole (text "#") (figure_words f) (unfold text in ((refl, tt), (refl, tt))) (figure_clear f)

pub figure_met : (f : Figures) → is_figures f.gates f.area (figure_row f) ≡ true
unfolding is_figures of_form same text
figure_met f =
    ap (of_form (same (text "#") ∷ same (text "gates") ∷ same (decimal f.gates) ∷ same (text "area") ∷ same (decimal f.area) ∷ same (text "arrival") ∷ are_digits ∷ []))
    (names-fields (text "#") (figure_words f) (refl, tt) (figure_clear f))
    ∙ rw (is_true (same (decimal f.gates) (decimal f.gates)) (same_refl (decimal f.gates)), is_true (same (decimal f.area) (decimal f.area)) (same_refl (decimal f.area)), decimal-digits f.arrival) refl

-- ---- the timing lines

module _ (low high : ℕ → ℕ) where
  abbrev timing_words : ℕ → ℕ → List (List ℕ)
  timing_words k l = text "timing" ∷ out_name k ∷ decimal (low l) ∷ decimal (high l) ∷ []

  unfoldable pub timing_rows : ℕ → List ℕ → List (List ℕ)
  unfolding names_of text out_name
  timing_rows k [] = []
  timing_rows k (l ∷ ls) = names_of (text "#") (timing_words k l) ∷ timing_rows (suc k) ls

  pub timings_lined : (k : ℕ) (ls : List ℕ) → timing_lines low high k ls ≡ lined (timing_rows k ls)
  unfolding timing_lines timing_rows lined names_of each text
  timings_lined k [] = refl
  timings_lined k (l ∷ ls) =
      ap (λ (x : List ℕ). text "# timing " ++ (out_name k ++ (32 ∷ decimal (low l) ++ (32 ∷ decimal (high l) ++ (10 ∷ x))))) (timings_lined (suc k) ls) ∙ sym (simp append_assoc)

  timing_clear : (k l : ℕ) → Clears (timing_words k l)
  timing_clear k l = (letters (text "timing") (unfold all text in tt), (out_clear k, (decimal_clear (low l), (decimal_clear (high l), tt))))

  pub timings-whole : (k : ℕ) (ls : List ℕ) → Wholes (timing_rows k ls)
  unfolding timing_rows
  timings-whole k [] = tt
  timings-whole k (l ∷ ls) = (names-whole (text "#") (timing_words k l) (unfold text in ((refl, tt), (refl, tt))) (timing_clear k l), timings-whole (suc k) ls)

  timing_met : (k l : ℕ) → is_timing (names_of (text "#") (timing_words k l)) ≡ true
  unfolding is_timing of_form same text
  timing_met k l =
      ap (of_form (same (text "#") ∷ same (text "timing") ∷ is_label 111 ∷ are_digits ∷ are_digits ∷ [])) (names-fields (text "#") (timing_words k l) (refl, tt) (timing_clear k l))
      ∙ rw (out_is k, decimal-digits (low l), decimal-digits (high l)) refl

  pub timings_met : (i k : ℕ) (ls : List ℕ) → Meets (map (λ (_ : ℕ). is_timing) (from i (length ls))) (timing_rows k ls)
  unfolding from timing_rows
  timings_met i k [] = tt
  timings_met i k (l ∷ ls) = (timing_met k l, timings_met (suc i) (suc k) ls)

-- ---- the text

-- the lines from the gates on
abbrev pub behind_rows : Graph → Figures → List (List ℕ) → List (List ℕ)
behind_rows g f times = wire_rows 0 g.outputs ++ (text ".end" ∷ figure_row f ∷ times)

abbrev pub netlist_rows : Graph → List Gate → Figures → List (List ℕ) → List (List ℕ)
netlist_rows g ts f times = model_row ∷ inputs_row g ∷ outputs_row g ∷ map gate_row ts ++ behind_rows g f times

pub netlist_lined : (g : Graph) (ts : List Gate) (f : Figures) (times : List (List ℕ)) → netlist_text g ts f ++ lined times ≡ lined (netlist_rows g ts f times)
unfolding netlist_text lined text
netlist_lined g ts f times =
    let figures : List ℕ = text ".end\n# gates " ++
    (decimal f.gates ++ (text " area " ++ (decimal f.area ++ (text " arrival " ++ (decimal f.arrival ++ (10 ∷ lined times)))))) in
    let after-outputs : List ℕ = each gate_line ts ++ (wire_lines 0 g.outputs ++ figures) in
    let ended : figures ≡ lined (text ".end" ∷ figure_row f ∷ times) = unfold names_of each in sym (simp append_assoc) in
    (simp append_assoc) ∙ ap (λ (x : List ℕ). text ".model top\n" ++ x)
    (names-ended (text ".inputs") (input_names g) (names_line (text ".outputs") (output_names g) ++ after-outputs)
    ∙ ap (λ (x : List ℕ). inputs_row g ++ (10 ∷ x)) (names-ended (text ".outputs") (output_names g) after-outputs
    ∙ ap (λ (x : List ℕ). outputs_row g ++ (10 ∷ x)) (ap (λ (x : List ℕ). each gate_line ts ++ (wire_lines 0 g.outputs ++ x)) ended
    ∙ ap (λ (x : List ℕ). each gate_line ts ++ x) (wires_lined 0 g.outputs (text ".end" ∷ figure_row f ∷ times))
    ∙ gates_lined ts (behind_rows g f times))))
