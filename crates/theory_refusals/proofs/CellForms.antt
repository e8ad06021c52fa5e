-- A cell line is read exactly where its bytes have the form, and with the form's meaning; and the tests of 5, 6 and 27 are their conditions.
use Rattle.base.specs.{ℕ, zero, suc, ◌/◌, ◌%◌, ◌^◌, ◌≤◌, ◌<◌, arith, ◌≡◌, refl, sym, ◌∙◌, ap, subst, Bool, true, false, cond, true≢false}
use Rattle.base.specs.{◌&&◌, Option, Some, List, [], ◌∷◌, ◌++◌, append-nil, T, eqb, leb, ltb, lit<, length, get_or, take, drop, length-append}
use Rattle.base.specs.{length-take, length-drop, take-append-drop, and_yes, yes_and, eqb_yes, yes_eqb, no_eqb, leb_yes, yes_leb, ltb_yes}
use Rattle.base.specs.{yes_ltb}
use Rattle.model.specs.{bit, all, and_then, only, ended, fields, numbers, hex_table, is_name as is_named, name_bytes, cell_of_fields, cell_of_line}
use Rattle.model.specs.{is_clean, no_lower}
use Rattle.model.specs.declared.Cell.{Cell}
use Rattle.promises.specs.{Name, Numbers, Table, MinDelays, given, same as same_mins, CellFields, CellLine, joined, Clean, Ranged}
use Rattle.promises.specs.LineForms.Numbers.{none as no_numbers, one as a_number}
use Rattle.theory_graph.proofs.{is_true, is_false, by_bool}
use Rattle.theory_text.proofs.{then_out, only_out, Free, field_count}
use Rattle.theory_refusals.proofs.FieldForms.{joins, number-free, name_form, name_back, name_free, numbers_form_lem, numbers-back}
use Rattle.theory_refusals.proofs.FieldForms.{numbers-count, numbers-free, table_form, table-back, table-free, fields-joined}
use Rattle.theory_refusals.proofs.FieldForms.{joined_free}
use Rattle.theory_refusals.proofs.LineFormLaws.{Reads, reads-line}

-- ---- lists

take_all : {A : Type 0} (n : ℕ) (xs : List A) → length xs ≡ n → take n xs ≡ xs
take_all zero [] e = refl
take_all zero (x ∷ xs) e = let z : ⊥ = omega arith in absurd z
take_all (suc n) [] e = refl
take_all (suc n) (x ∷ xs) e = ap (λ (ys : List _). x ∷ ys) (take_all n xs (omega arith))

take-front : {A : Type 0} (n : ℕ) (xs ys : List A) → length xs ≡ n → take n (xs ++ ys) ≡ xs
take-front zero [] ys e = refl
take-front zero (x ∷ xs) ys e = let z : ⊥ = omega arith in absurd z
take-front (suc n) [] ys e = let z : ⊥ = omega arith in absurd z
take-front (suc n) (x ∷ xs) ys e = ap (λ (zs : List _). x ∷ zs) (take-front n xs ys (omega arith))

drop-front : {A : Type 0} (n : ℕ) (xs ys : List A) → length xs ≡ n → drop n (xs ++ ys) ≡ ys
drop-front zero [] ys e = refl
drop-front zero (x ∷ xs) ys e = let z : ⊥ = omega arith in absurd z
drop-front (suc n) [] ys e = let z : ⊥ = omega arith in absurd z
drop-front (suc n) (x ∷ xs) ys e = drop-front n xs ys (omega arith)

numbers-take : (k : ℕ) {ws : List (List ℕ)} {ns : List ℕ} → Numbers ws ns → Numbers (take k ws) (take k ns)
numbers-take zero p = no_numbers
numbers-take (suc k) no_numbers = no_numbers
numbers-take (suc k) (a_number p q) = a_number p (numbers-take k q)

numbers-drop : (k : ℕ) {ws : List (List ℕ)} {ns : List ℕ} → Numbers ws ns → Numbers (drop k ws) (drop k ns)
numbers-drop zero p = p
numbers-drop (suc k) no_numbers = no_numbers
numbers-drop (suc k) (a_number p q) = numbers-drop k q

numbers_append : {ws vs : List (List ℕ)} {ns ms : List ℕ} → Numbers ws ns → Numbers vs ms → Numbers (ws ++ vs) (ns ++ ms)
numbers_append no_numbers q = q
numbers_append (a_number p r) q = a_number p (numbers_append r q)

-- ---- the fields of a cell

abbrev made : Bool → List ℕ → List ℕ → ℕ → Cell
made ranged w ns table = record {
  name = name_bytes w;
  len = length w;
  pins = get_or ns 0 0;
  table = table;
  area = get_or ns 1 0;
  delays = take 4 (drop 2 ns);
  mins = drop (cond ranged 6 2) ns;
}

-- what is read of four fields and the delays
abbrev read_fields : Bool → List ℕ → List ℕ → List ℕ → List (List ℕ) → Option Cell
read_fields ranged w p t rest = and_then (only (eqb (suc (suc (suc (length rest)))) (cond ranged 12 8) && is_named w) (w ∷ p ∷ t ∷ rest))
    (λ _. and_then (numbers (p ∷ rest)) (λ ns. and_then (hex_table t) (λ table. only (leb (get_or ns 0 0) 4) (made ranged w ns table))))

cell-fields : (ranged : Bool) (w p t : List ℕ) (rest : List (List ℕ)) → cell_of_fields ranged (w ∷ p ∷ t ∷ rest) ≡ read_fields ranged w p t rest
unfolding cell_of_fields
cell-fields ranged w p t rest = refl

-- the numbers of a line apart: pins, area, and the delays
form_made : (ranged : Bool) (w p t : List ℕ) (rest : List (List ℕ)) (ns : List ℕ) (table : ℕ) → length rest ≡ cond ranged 9 5 → Name w → Numbers (p ∷ rest) ns → Table t table → get_or ns 0 0 ≤ 4
    → CellFields ranged (joined (w ∷ p ∷ t ∷ rest)) (made ranged w ns table)
unfolding name_bytes
form_made true w p t (a ∷ ds) (n ∷ m ∷ ms) table count named (a_number hp (a_number ha q)) tab few =
    let long : length ms ≡ 8 = omega (arith, numbers-count q) in
    record {
      name_field = w;
      pins_field = p;
      table_field = t;
      area_field = a;
      delay_fields = take 4 ds;
      min_fields = drop 4 ds;
      whole = ap (λ (fs : List (List ℕ)). joined (w ∷ p ∷ t ∷ a ∷ fs)) (sym (take-append-drop 4 ds));
      is_name = named;
      name = refl;
      len = refl;
      pins = hp;
      few = few;
      table = tab;
      area = ha;
      delays = numbers-take 4 q;
      four = omega (arith, length-take 4 ms);
      mins = given (numbers-drop 4 q) (omega (arith, length-drop 4 ms));
    }
form_made false w p t (a ∷ ds) (n ∷ m ∷ ms) table count named (a_number hp (a_number ha q)) tab few =
    let long : length ms ≡ 4 = omega (arith, numbers-count q) in
    record {
      name_field = w;
      pins_field = p;
      table_field = t;
      area_field = a;
      delay_fields = ds;
      min_fields = [];
      whole = ap (λ (fs : List (List ℕ)). joined (w ∷ p ∷ t ∷ a ∷ fs)) (sym (append-nil ds));
      is_name = named;
      name = refl;
      len = refl;
      pins = hp;
      few = few;
      table = tab;
      area = ha;
      delays = subst (Numbers ds) (sym (take_all 4 ms long)) q;
      four = omega (arith, length-take 4 ms);
      mins = subst (λ (ls : List ℕ). MinDelays false [] (take 4 ms) ls) (take_all 4 ms long) same_mins;
    }
form_made true w p t (a ∷ ds) (n ∷ []) table count named q tab few = let z : ⊥ = omega (arith, numbers-count q) in absurd z
form_made false w p t (a ∷ ds) (n ∷ []) table count named q tab few = let z : ⊥ = omega (arith, numbers-count q) in absurd z
form_made true w p t [] ns table count named q tab few = let z : ⊥ = omega arith in absurd z
form_made false w p t [] ns table count named q tab few = let z : ⊥ = omega arith in absurd z
form_made false w p t (a ∷ ds) [] table count named q tab few = elim q [ ]
form_made true w p t (a ∷ ds) [] table count named q tab few = elim q [ ]

fields_form : (ranged : Bool) (w : List ℕ) (c : Cell) → cell_of_fields ranged (fields w) ≡ Some c → CellFields ranged w c
fields_form ranged w c e =
    let j = joins w in
    let f : cell_of_fields ranged (j.first ∷ j.others) ≡ Some c = ap (cell_of_fields ranged) (sym j.are_fields) ∙ e in
    subst (λ (x : List ℕ). CellFields ranged x c) (sym j.is_whole) (many j.first j.others f (field_count ranged (j.first ∷ j.others) c f))
  where
    small : (r : Bool) (n : ℕ) → n < 3 → n ≡ cond r 12 8 → ⊥
    small true n h e = omega arith
    small false n h e = omega arith

    many : (w : List ℕ) (ws : List (List ℕ)) → cell_of_fields ranged (w ∷ ws) ≡ Some c → suc (length ws) ≡ cond ranged 12 8 → CellFields ranged (joined (w ∷ ws)) c
    many w [] f n = absurd (small ranged 1 (lit< tt) n)
    many w (p ∷ []) f n = absurd (small ranged 2 (lit< tt) n)
    many w (p ∷ t ∷ rest) f n =
        let g : read_fields ranged w p t rest ≡ Some c = sym (cell-fields ranged w p t rest) ∙ f in
        let o = then_out (only (eqb (suc (suc (suc (length rest)))) (cond ranged 12 8) && is_named w) (w ∷ p ∷ t ∷ rest))
        (λ _. and_then (numbers (p ∷ rest)) (λ ns. and_then (hex_table t) (λ table. only (leb (get_or ns 0 0) 4) (made ranged w ns table)))) c g in
        let x = only_out (eqb (suc (suc (suc (length rest)))) (cond ranged 12 8) && is_named w) (w ∷ p ∷ t ∷ rest) o.0 o.1 in
        let y = and_yes (eqb (suc (suc (suc (length rest)))) (cond ranged 12 8)) (is_named w) x.0 in
        let a = then_out (numbers (p ∷ rest)) (λ ns. and_then (hex_table t) (λ table. only (leb (get_or ns 0 0) 4) (made ranged w ns table))) c o.2 in
        let b = then_out (hex_table t) (λ table. only (leb (get_or a.0 0 0) 4) (made ranged w a.0 table)) c a.2 in
        let d = only_out (leb (get_or a.0 0 0) 4) (made ranged w a.0 b.0) c b.2 in
        subst (CellFields ranged (joined (w ∷ p ∷ t ∷ rest))) d.1
        (form_made ranged w p t rest a.0 b.0 (by_bool ranged (λ q. rw q (omega (arith, rw q at n)))
        (λ p. rw p (omega (arith, rw p at n)))) (name_form w y.1) (numbers_form_lem (p ∷ rest) a.0 a.1) (table_form t b.0
        b.1) (leb_yes d.0))

-- a cell by its seven values
abbrev cell : List ℕ → ℕ → ℕ → ℕ → ℕ → List ℕ → List ℕ → Cell
cell n l p t a d w = record { name = n; len = l; pins = p; table = t; area = a; delays = d; mins = w }

same-cell : {n n' : List ℕ} {l l' : ℕ} (p t a : ℕ) {d d' w w' : List ℕ} → n ≡ n' → l ≡ l' → d ≡ d' → w ≡ w' → cell n l p t a d w ≡ cell n' l' p t a d' w'
same-cell {n} {n'} {l} {l'} p t a {d} {d'} {w} {w'} e f g h = cc

-- the delays and lowest delays, read behind one another
record Behind (ranged : Bool) (fs gs : List (List ℕ)) (ds ls : List ℕ) : Type 0 where
  all : List ℕ
  read : Numbers (fs ++ gs) all
  count : length (fs ++ gs) ≡ cond ranged 8 4
  front : take 4 all ≡ ds
  back : drop (cond ranged 4 0) all ≡ ls

behind : (ranged : Bool) (fs gs : List (List ℕ)) (ds ls : List ℕ) → Numbers fs ds → length ds ≡ 4 → MinDelays ranged gs ds ls → Behind ranged fs gs ds ls
behind ranged fs gs ds ls p four (given q n) = record {
  all = ds ++ ls;
  read = numbers_append p q;
  count = omega (arith, length-append fs gs, numbers-count p, numbers-count q, four, n);
  front = take-front 4 ds ls four;
  back = drop-front 4 ds ls four;
}
behind ranged fs gs ds ls p four same_mins = record {
  all = ds;
  read = subst (λ (ws : List (List ℕ)). Numbers ws ds) (sym (append-nil fs)) p;
  count = omega (arith, length-append fs [], numbers-count p, four);
  front = take_all 4 ds four;
  back = refl;
}

fields_back : (ranged : Bool) (w : List ℕ) (c : Cell) → CellFields ranged w c → cell_of_fields ranged (fields w) ≡ Some c
unfolding name_bytes and_then only
fields_back ranged w c f =
    let b = behind ranged f.delay_fields f.min_fields c.delays c.mins f.delays f.four f.mins in
    let rest = f.area_field ∷ f.delay_fields ++ f.min_fields in
    cc (
      f.whole,
      fields-joined f.name_field (f.pins_field ∷ f.table_field ∷ rest) (
        name_free 32 (lit< tt) f.is_name,
        (
          number-free 32
              (lit< tt) f.pins,
          (table-free 32 (lit< tt) f.table, (number-free 32 (lit< tt) f.area, numbers-free 32 (lit< tt) b.read)),
        ),
      ),
      cell-fields ranged
          f.name_field f.pins_field f.table_field rest,
      is_true
          (eqb (suc (suc (suc (length rest)))) (cond ranged 12 8) && is_named f.name_field) (yes_and
          (eqb (suc (suc (suc (length rest)))) (cond ranged 12 8)) (is_named f.name_field)
          (yes_eqb {a = suc (suc (suc (length rest)))} {b = cond ranged 12 8}
          (by_bool ranged (λ e. rw e (omega (arith, rw e at b.count))) (λ q. rw q (omega (arith, rw q at b.count)))))
          (name_back f.name_field f.is_name)),
      numbers-back (a_number f.pins (a_number f.area b.read)),
      table-back f.table_field
          c.table f.table,
      is_true (leb c.pins 4) (yes_leb f.few),
      same-cell c.pins c.table c.area (sym f.name)
          (sym f.len) b.front (low ranged c.pins c.area b.all ∙ b.back),
    )
  where
    low : (r : Bool) (p a : ℕ) (ns : List ℕ) → drop (cond r 6 2) (p ∷ a ∷ ns) ≡ drop (cond r 4 0) ns
    low true p a ns = refl
    low false p a ns = refl

fields_free : (ranged : Bool) (s : ℕ) → s < 32 → (w : List ℕ) (c : Cell) → CellFields ranged w c → Free s w
fields_free ranged s h w c f = subst (Free s) (sym f.whole) (joined_free s h
    (f.name_field ∷ f.pins_field ∷ f.table_field ∷ f.area_field ∷ f.delay_fields ++ f.min_fields) (
      name_free s (omega arith) f.is_name,
      (
        number-free s (omega arith) f.pins,
        (
          table-free s (omega arith) f.table,
          (
            number-free s (omega arith) f.area,
            numbers-free s
                (omega arith) (behind ranged f.delay_fields f.min_fields c.delays c.mins f.delays f.four f.mins).read,
          ),
        ),
      ),
    ))

pub reads-cell : (ranged : Bool) → Reads (cell_of_line ranged) (CellLine ranged)
unfolding cell_of_line and_then only
reads-cell ranged = reads-line false (λ w. cell_of_fields ranged (fields w)) (CellFields ranged) (cell_of_line ranged) (λ l. by_bool (ended l)
    (λ e. cc) (λ q. cc)) (fields_form ranged) (fields_back ranged) (fields_free ranged)

-- ---- 6 and 27

low_bits : (k n : ℕ) → n < 2 ^ k → (r : ℕ) → k ≤ r → bit n r ≡ false
unfolding bit
low_bits zero n h zero l = is_false (eqb (n % 2) 1) (no_eqb (let d : ¬ (n % 2 ≡ 1) = λ e. omega arith in d))
low_bits zero n h (suc r) l = low_bits zero (n / 2) (omega arith) r (omega arith)
low_bits (suc k) n h zero l = let z : ⊥ = omega arith in absurd z
low_bits (suc k) n h (suc r) l = low_bits k (n / 2) (omega arith) r (omega arith)

no_bits : (f n : ℕ) → n ≤ f → ((r : ℕ) → bit n r ≡ false) → n ≡ 0
unfolding bit
no_bits zero n h b = omega arith
no_bits (suc f) n h b =
    let q : ¬ (n % 2 ≡ 1) = λ e. true≢false (sym (is_true (eqb (n % 2) 1) (yes_eqb e)) ∙ b 0) in
    omega (arith, no_bits f (n / 2) (omega arith) (λ r. b (suc r)))

bits_low : (k n : ℕ) → ((r : ℕ) → k ≤ r → bit n r ≡ false) → n < 2 ^ k
unfolding bit
bits_low zero n b = let z : n ≡ 0 = no_bits n n (omega arith) (λ r. b r (omega arith)) in omega arith
bits_low (suc k) n b = let i : n / 2 < 2 ^ k = bits_low k (n / 2) (λ r l. b (suc r) (omega arith)) in omega arith

zeros : (p : ℕ) (xs : List ℕ) → T (all (eqb 0) (drop p xs)) → (j : ℕ) → p ≤ j → get_or xs j 0 ≡ 0
unfolding all
zeros p [] t j h = refl
zeros zero (x ∷ xs) t zero h = sym (eqb_yes (and_yes (eqb 0 x) (all (eqb 0) xs) t).0)
zeros zero (x ∷ xs) t (suc j) h = zeros zero xs (and_yes (eqb 0 x) (all (eqb 0) xs) t).1 j (omega arith)
zeros (suc p) (x ∷ xs) t zero h = let z : ⊥ = omega arith in absurd z
zeros (suc p) (x ∷ xs) t (suc j) h = zeros p xs t j (omega arith)

all-zeros : (p : ℕ) (xs : List ℕ) → ((j : ℕ) → p ≤ j → get_or xs j 0 ≡ 0) → T (all (eqb 0) (drop p xs))
unfolding all
all-zeros zero [] f = tt
all-zeros (suc p) [] f = tt
all-zeros zero (x ∷ xs) f = yes_and (eqb 0 x) (all (eqb 0) xs) (yes_eqb (sym (f 0 (omega arith)))) (all-zeros zero xs (λ j h. f (suc j) (omega arith)))
all-zeros (suc p) (x ∷ xs) f = all-zeros p xs (λ j h. f (suc j) (omega arith))

pub clean_form : (c : Cell) → T (is_clean c) → Clean c
unfolding is_clean
clean_form c t =
    let a = and_yes (ltb c.table (2 ^ 2 ^ c.pins)) (all (eqb 0) (drop c.pins c.delays) && all (eqb 0) (drop c.pins c.mins)) t in
    let b = and_yes (all (eqb 0) (drop c.pins c.delays)) (all (eqb 0) (drop c.pins c.mins)) a.1 in
    record { rows = λ r h. low_bits (2 ^ c.pins) c.table (ltb_yes a.0) r h; delays = zeros c.pins c.delays b.0; mins = zeros c.pins c.mins b.1 }

pub clean_back : (c : Cell) → Clean c → T (is_clean c)
unfolding is_clean
clean_back c h =
    yes_and (ltb c.table (2 ^ 2 ^ c.pins)) (all (eqb 0) (drop c.pins c.delays) && all (eqb 0) (drop c.pins c.mins)) (yes_ltb (bits_low (2 ^ c.pins) c.table h.rows))
    (yes_and (all (eqb 0) (drop c.pins c.delays)) (all (eqb 0) (drop c.pins c.mins)) (all-zeros c.pins c.delays h.delays) (all-zeros c.pins c.mins h.mins))

pub lower_form : (ls ds : List ℕ) → T (no_lower ls ds) → (j : ℕ) → get_or ls j 0 ≤ get_or ds j 0
unfolding no_lower
lower_form [] ds t j = omega arith
lower_form (l ∷ ls) [] t j = absurd t
lower_form (l ∷ ls) (d ∷ ds) t zero = leb_yes (and_yes (leb l d) (no_lower ls ds) t).0
lower_form (l ∷ ls) (d ∷ ds) t (suc j) = lower_form ls ds (and_yes (leb l d) (no_lower ls ds) t).1 j

lower-back : (ls ds : List ℕ) → length ls ≡ length ds → ((j : ℕ) → get_or ls j 0 ≤ get_or ds j 0) → T (no_lower ls ds)
unfolding no_lower
lower-back [] ds e f = tt
lower-back (l ∷ ls) [] e f = let z : ⊥ = omega arith in absurd z
lower-back (l ∷ ls) (d ∷ ds) e f = yes_and (leb l d) (no_lower ls ds) (yes_leb (f 0)) (lower-back ls ds (omega arith) (λ j. f (suc j)))

pub ranged_form : (c : Cell) → T (no_lower c.mins c.delays) → Ranged c
ranged_form c t = lower_form c.mins c.delays t

mins-four : {r : Bool} {fs : List (List ℕ)} {ds ls : List ℕ} → MinDelays r fs ds ls → length ds ≡ 4 → length ls ≡ 4
mins-four (given q n) e = n
mins-four same_mins e = e

-- of a cell that a line gives
pub ranged-back : (ranged : Bool) {s : List ℕ} {c : Cell} → CellLine ranged s c → Ranged c → T (no_lower c.mins c.delays)
ranged-back ranged {c = c} l f = lower-back c.mins c.delays (mins-four l.is.mins l.is.four ∙ sym l.is.four) f
