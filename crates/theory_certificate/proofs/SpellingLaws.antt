-- One text spells one graph.
use Rattle.base.specs.{ℕ, zero, suc, ◌+◌, ◌-◌, ◌*◌, ◌/◌, ◌%◌, ◌≤◌, ◌<◌, arith, ◌≡◌, refl, sym, ◌∙◌, ap, ap₂, subst, List, [], ◌∷◌, ◌++◌}
use Rattle.base.specs.{map, Memᴰ, Memᴰ-head, Memᴰ-tail, append_assoc, append-nil, nil≢cons, cons≢nil, head-eq_of_cons-eq, tail-eq_of_cons-eq, ltb, length, length-append}
use Rattle.base.specs.{ltb-true, ltb-false}
use Rattle.model.specs.{from, as_digits, digits, each, text, decimal, And, ascii_text, numbers_line}
use Rattle.model.specs.Graph.{Graph}
use Rattle.theory_graph.proofs.{by_bool, length-map}
use Rattle.theory_text.proofs.{decimal-value}
use Rattle.promises_certificate.specs.{InSequence, Lines, Spells, ascii, ascii_lines, binary, binary_text, both, counts_text, differences, groups, none, numbers_text, ten}

-- ---- bytes up to a lower one

-- no byte of the list is below k
abbrev High : ℕ → List ℕ → Type 0
High k [] = Unit {0}
High k (b ∷ bs) = (k ≤ b) × High k bs

high_append : (k : ℕ) (xs ys : List ℕ) → High k xs → High k ys → High k (xs ++ ys)
high_append k [] ys a b = b
high_append k (x ∷ xs) ys a b = (a.0, high_append k xs ys a.1 b)

-- two lists up to a lower byte, and what is behind it
record Same (l m : List ℕ) (c d : ℕ) (x y : List ℕ) : Type 0 where
  before : l ≡ m
  at : c ≡ d
  behind : x ≡ y

split_at : (k c d : ℕ) (l m x y : List ℕ) → High k l → High k m → c < k → d < k → l ++ (c ∷ x) ≡ m ++ (d ∷ y) → Same l m c d x y
split_at k c d [] [] x y h i lc ld e = record { before = refl; at = head-eq_of_cons-eq e; behind = tail-eq_of_cons-eq e }
split_at k c d [] (b ∷ m) x y h i lc ld e = absurd (let q : c ≡ b = head-eq_of_cons-eq e in let r : k ≤ b = i.0 in omega arith)
split_at k c d (b ∷ l) [] x y h i lc ld e = absurd (let q : b ≡ d = head-eq_of_cons-eq e in let r : k ≤ b = h.0 in omega arith)
split_at k c d (a ∷ l) (b ∷ m) x y h i lc ld e =
    let s = split_at k c d l m x y h.1 i.1 lc ld (tail-eq_of_cons-eq e) in
    record { before = ap₂ (λ (n : ℕ) (ns : List ℕ). n ∷ ns) (head-eq_of_cons-eq e) s.before; at = s.at; behind = s.behind }

-- ---- numbers

digits-high : (fuel n : ℕ) (after : List ℕ) → High 48 after → High 48 (digits fuel n after)
unfolding digits
digits-high zero n after h = h
digits-high (suc fuel) n after h = by_bool (ltb n 10) (λ e. rw e (omega arith, h)) (λ q. rw q (digits-high fuel (n / 10) ((48 + n % 10) ∷ after) (omega arith, h)))

decimal-high : (n : ℕ) → High 48 (decimal n)
unfolding decimal
decimal-high n = digits-high (suc n) n [] tt

decimal-once : (m n : ℕ) → decimal m ≡ decimal n → m ≡ n
decimal-once m n e = sym (decimal-value m) ∙ ap (as_digits 0) e ∙ decimal-value n

lower : (j k : ℕ) (xs : List ℕ) → j ≤ k → High k xs → High j xs
lower j k [] h a = tt
lower j k (x ∷ xs) h a = ((let q : k ≤ x = a.0 in omega arith), lower j k xs h a.1)

rest-high : (ns : List ℕ) → High 32 (each (λ (k : ℕ). 32 ∷ decimal k) ns)
unfolding each
rest-high [] = tt
rest-high (n ∷ ns) = (omega arith, high_append 32 (decimal n) (each (λ (k : ℕ). 32 ∷ decimal k) ns) (lower 32 48 (decimal n) (omega arith) (decimal-high n)) (rest-high ns))

numbers-high : (n : ℕ) (ns : List ℕ) → High 32 (numbers_text n ns)
unfolding numbers_text
numbers-high n ns = high_append 32 (decimal n) (each (λ (k : ℕ). 32 ∷ decimal k) ns) (lower 32 48 (decimal n) (omega arith) (decimal-high n)) (rest-high ns)

-- numbers up to a line end are known
numbers-once : (m n : ℕ) (ms ns : List ℕ) → numbers_text m ms ++ (10 ∷ []) ≡ numbers_text n ns ++ (10 ∷ []) → m ∷ ms ≡ n ∷ ns
unfolding numbers_text each
numbers-once m n [] [] e =
    let s = split_at 48 10 10 (decimal m) (decimal n) [] [] (decimal-high m) (decimal-high n) (omega arith) (omega arith)
    (sym (append_assoc (decimal m) [] (10 ∷ [])) ∙ e ∙ append_assoc (decimal n) [] (10 ∷ [])) in
    ap (λ (k : ℕ). k ∷ []) (decimal-once m n s.before)
numbers-once m n [] (b ∷ ns) e =
    let s = split_at 48 10 32 (decimal m) (decimal n) [] (numbers_text b ns ++ (10 ∷ [])) (decimal-high m) (decimal-high n) (omega arith) (omega arith)
    (sym (append_assoc (decimal m) [] (10 ∷ [])) ∙ e ∙ append_assoc (decimal n) (32 ∷ numbers_text b ns) (10 ∷ [])) in
    absurd (let q : ◌≡◌ {A = ℕ} 10 32 = s.at in omega arith)
numbers-once m n (a ∷ ms) [] e =
    let s = split_at 48 32 10 (decimal m) (decimal n) (numbers_text a ms ++ (10 ∷ [])) [] (decimal-high m) (decimal-high n) (omega arith) (omega arith)
    (sym (append_assoc (decimal m) (32 ∷ numbers_text a ms) (10 ∷ [])) ∙ e ∙ append_assoc (decimal n) [] (10 ∷ [])) in
    absurd (let q : ◌≡◌ {A = ℕ} 32 10 = s.at in omega arith)
numbers-once m n (a ∷ ms) (b ∷ ns) e =
    let s = split_at 48 32 32 (decimal m) (decimal n) (numbers_text a ms ++ (10 ∷ [])) (numbers_text b ns ++ (10 ∷ [])) (decimal-high m) (decimal-high n) (omega arith) (omega arith)
    (sym (append_assoc (decimal m) (32 ∷ numbers_text a ms) (10 ∷ [])) ∙ e ∙ append_assoc (decimal n) (32 ∷ numbers_text b ns) (10 ∷ [])) in
    ap₂ (λ (k : ℕ) (ks : List ℕ). k ∷ ks) (decimal-once m n s.before) (numbers-once a b ms ns s.behind)

numbers-same : (m n : ℕ) (ms ns : List ℕ) → numbers_text m ms ≡ numbers_text n ns → m ∷ ms ≡ n ∷ ns
numbers-same m n ms ns e = numbers-once m n ms ns (ap (λ (l : List ℕ). l ++ (10 ∷ [])) e)

-- ---- lines

abbrev AllHigh : List (List ℕ) → Type 0
AllHigh ls = (l : List ℕ) → Memᴰ l ls → High 32 l

-- the first lines of one text are one
first-once : (l m : List ℕ) (ls ms : List (List ℕ)) (bytes r s : List ℕ) → High 32 l → High 32 m → Lines (l ∷ ls) bytes r → Lines (m ∷ ms) bytes s → l ≡ m
first-once l m ls ms bytes r s a b (ten {more = x} e i) (ten {more = y} f j) = (split_at 32 10 10 l m x y a b (omega arith) (omega arith) (sym e ∙ f)).before
first-once l m ls ms bytes r s a b (ten {more = x} e i) (both {more = y} f j) = (split_at 32 10 13 l m x (10 ∷ y) a b (omega arith) (omega arith) (sym e ∙ f)).before
first-once l m ls ms bytes r s a b (both {more = x} e i) (ten {more = y} f j) = (split_at 32 13 10 l m (10 ∷ x) y a b (omega arith) (omega arith) (sym e ∙ f)).before
first-once l m ls ms bytes r s a b (both {more = x} e i) (both {more = y} f j) = (split_at 32 13 13 l m (10 ∷ x) (10 ∷ y) a b (omega arith) (omega arith) (sym e ∙ f)).before

-- as many lines of one text are the same
lines-once : (ls ms : List (List ℕ)) (bytes r s : List ℕ) → AllHigh ls → AllHigh ms → length ls ≡ length ms → Lines ls bytes r → Lines ms bytes s → ls ≡ ms
lines-once [] [] bytes r s a b n i j = refl
lines-once [] (m ∷ ms) bytes r s a b n i j = absurd (let q : 0 ≡ suc (length ms) = n in omega arith)
lines-once (l ∷ ls) [] bytes r s a b n i j = absurd (let q : suc (length ls) ≡ 0 = n in omega arith)
lines-once (l ∷ ls) (m ∷ ms) bytes r s a b n (ten {more = x} e i) (ten {more = y} f j) =
    let q = split_at 32 10 10 l m x y (a l (Memᴰ-head refl)) (b m (Memᴰ-head refl)) (omega arith) (omega arith) (sym e ∙ f) in
    let k : suc (length ls) ≡ suc (length ms) = n in
    ap₂ (λ (z : List ℕ) (zs : List (List ℕ)). z ∷ zs) q.before
    (lines-once ls ms y r s (λ z p. a z (Memᴰ-tail p)) (λ z p. b z (Memᴰ-tail p)) (omega arith) (subst (λ (z : List ℕ). Lines ls z r) q.behind i) j)
lines-once (l ∷ ls) (m ∷ ms) bytes r s a b n (both {more = x} e i) (both {more = y} f j) =
    let q = split_at 32 13 13 l m (10 ∷ x) (10 ∷ y) (a l (Memᴰ-head refl)) (b m (Memᴰ-head refl)) (omega arith) (omega arith) (sym e ∙ f) in
    let k : suc (length ls) ≡ suc (length ms) = n in
    ap₂ (λ (z : List ℕ) (zs : List (List ℕ)). z ∷ zs) q.before
    (lines-once ls ms y r s (λ z p. a z (Memᴰ-tail p)) (λ z p. b z (Memᴰ-tail p)) (omega arith) (subst (λ (z : List ℕ). Lines ls z r) (tail-eq_of_cons-eq q.behind) i) j)
lines-once (l ∷ ls) (m ∷ ms) bytes r s a b n (ten {more = x} e i) (both {more = y} f j) =
    absurd (let q : ◌≡◌ {A = ℕ} 10 13 = (split_at 32 10 13 l m x (10 ∷ y) (a l (Memᴰ-head refl)) (b m (Memᴰ-head refl)) (omega arith) (omega arith) (sym e ∙ f)).at in omega arith)
lines-once (l ∷ ls) (m ∷ ms) bytes r s a b n (both {more = x} e i) (ten {more = y} f j) =
    absurd (let q : ◌≡◌ {A = ℕ} 13 10 = (split_at 32 13 10 l m (10 ∷ x) y (a l (Memᴰ-head refl)) (b m (Memᴰ-head refl)) (omega arith) (omega arith) (sym e ∙ f)).at in omega arith)

-- ---- lists

append_once : {A : Type 0} (xs ys us vs : List A) → length xs ≡ length ys → xs ++ us ≡ ys ++ vs → (xs ≡ ys) × (us ≡ vs)
append_once [] [] us vs n e = (refl, e)
append_once [] (y ∷ ys) us vs n e = absurd (let q : 0 ≡ suc (length ys) = n in omega arith)
append_once (x ∷ xs) [] us vs n e = absurd (let q : suc (length xs) ≡ 0 = n in omega arith)
append_once {A} (x ∷ xs) (y ∷ ys) us vs n e =
    let k : suc (length xs) ≡ suc (length ys) = n in
    let r = append_once xs ys us vs (omega arith) (tail-eq_of_cons-eq e) in
    (ap₂ (λ (z : A) (zs : List A). z ∷ zs) (head-eq_of_cons-eq e) r.0, r.1)

map-once : {A : Type 0} (f : A → List ℕ) → ((x y : A) → f x ≡ f y → x ≡ y) → (xs ys : List A) → map f xs ≡ map f ys → xs ≡ ys
map-once f one [] [] e = refl
map-once f one [] (y ∷ ys) e = absurd (nil≢cons e)
map-once f one (x ∷ xs) [] e = absurd (cons≢nil e)
map-once {A} f one (x ∷ xs) (y ∷ ys) e = ap₂ (λ (z : A) (zs : List A). z ∷ zs) (one x y (head-eq_of_cons-eq e)) (map-once f one xs ys (tail-eq_of_cons-eq e))

-- ---- the header

pub record SameGraph (g h : Graph) : Type 0 where
  pub size : g.size ≡ h.size
  pub inputs : g.inputs ≡ h.inputs
  pub outputs : g.outputs ≡ h.outputs
  pub ands : g.ands ≡ h.ands

record SameCounts (g h : Graph) : Type 0 where
  size : g.size ≡ h.size
  inputs : length g.inputs ≡ length h.inputs
  outputs : length g.outputs ≡ length h.outputs
  ands : length g.ands ≡ length h.ands

counts-high : (g : Graph) → High 32 (counts_text g)
unfolding counts_text
counts-high g = numbers-high g.size (length g.inputs ∷ 0 ∷ length g.outputs ∷ length g.ands ∷ [])

counts-once : (g h : Graph) → counts_text g ≡ counts_text h → SameCounts g h
unfolding counts_text
counts-once g h e =
    let q = numbers-same g.size h.size (length g.inputs ∷ 0 ∷ length g.outputs ∷ length g.ands ∷ []) (length h.inputs ∷ 0 ∷ length h.outputs ∷ length h.ands ∷ []) e in
    let i = tail-eq_of_cons-eq q in
    let o = tail-eq_of_cons-eq (tail-eq_of_cons-eq i) in
    record { size = head-eq_of_cons-eq q; inputs = head-eq_of_cons-eq i; outputs = head-eq_of_cons-eq o; ands = head-eq_of_cons-eq (tail-eq_of_cons-eq o) }

-- ---- the ASCII form

abbrev input_line : ℕ → List ℕ
input_line v = numbers_text (2 * v) []

abbrev output_line : ℕ → List ℕ
output_line l = numbers_text l []

abbrev and_line : And → List ℕ
and_line a = numbers_text (2 * a.var) (a.left ∷ a.right ∷ [])

map-high : {A : Type 0} (f : A → List ℕ) → ((x : A) → High 32 (f x)) → (xs : List A) → AllHigh (map f xs)
map-high f h (x ∷ xs) l (Memᴰ-head e) = subst (High 32) (sym e) (h x)
map-high f h (x ∷ xs) l (Memᴰ-tail m) = map-high f h xs l m
map-high {A = A} f h [] l x' = elim x' [ ]

both_high : (ls ms : List (List ℕ)) → AllHigh ls → AllHigh ms → AllHigh (ls ++ ms)
both_high [] ms a b l m = b l m
both_high (k ∷ ls) ms a b l (Memᴰ-head e) = a l (Memᴰ-head e)
both_high (k ∷ ls) ms a b l (Memᴰ-tail m) = both_high ls ms (λ z p. a z (Memᴰ-tail p)) b l m

abbrev body_lines : Graph → List (List ℕ)
body_lines g = map input_line g.inputs ++ (map output_line g.outputs ++ map and_line g.ands)

body_high : (g : Graph) → AllHigh (body_lines g)
body_high g = both_high (map input_line g.inputs) (map output_line g.outputs ++ map and_line g.ands) (map-high input_line (λ v. numbers-high (2 * v) []) g.inputs)
    (both_high (map output_line g.outputs) (map and_line g.ands) (map-high output_line (λ l. numbers-high l []) g.outputs)
    (map-high and_line (λ a. numbers-high (2 * a.var) (a.left ∷ a.right ∷ [])) g.ands))

body_long : (g : Graph) → length (body_lines g) ≡ length g.inputs + (length g.outputs + length g.ands)
body_long g =
    length-append (map input_line g.inputs) (map output_line g.outputs ++ map and_line g.ands)
    ∙ ap₂ ◌+◌ (length-map input_line g.inputs) (length-append (map output_line g.outputs) (map and_line g.ands) ∙ ap₂ ◌+◌ (length-map output_line g.outputs) (length-map and_line g.ands))

and-once : (a b : And) → and_line a ≡ and_line b → a ≡ b
and-once a b e =
    let q = numbers-same (2 * a.var) (2 * b.var) (a.left ∷ a.right ∷ []) (b.left ∷ b.right ∷ []) e in
    let l = tail-eq_of_cons-eq q in
    let v : 2 * a.var ≡ 2 * b.var = head-eq_of_cons-eq q in
    let v' : a.var ≡ b.var = omega arith in
    ap₂ (λ (x y : ℕ). record { var = x; left = y; right = a.right }) v' (head-eq_of_cons-eq l)
    ∙ ap (λ (z : ℕ). record { var = b.var; left = b.left; right = z }) (head-eq_of_cons-eq (tail-eq_of_cons-eq l))

lines-graph : (g h : Graph) → SameCounts g h → body_lines g ≡ body_lines h → SameGraph g h
lines-graph g h n e =
    let a = append_once (map input_line g.inputs) (map input_line h.inputs) (map output_line g.outputs ++ map and_line g.ands) (map output_line h.outputs ++ map and_line h.ands)
    (length-map input_line g.inputs ∙ n.inputs ∙ sym (length-map input_line h.inputs)) e in
    let b = append_once (map output_line g.outputs) (map output_line h.outputs) (map and_line g.ands) (map and_line h.ands)
    (length-map output_line g.outputs ∙ n.outputs ∙ sym (length-map output_line h.outputs)) a.1 in
    record {
      size = n.size;
      inputs = map-once input_line (λ x y q. let r : 2 * x ≡ 2 * y = head-eq_of_cons-eq (numbers-same (2 * x) (2 * y) [] [] q) in omega arith) g.inputs h.inputs a.0;
      outputs = map-once output_line (λ x y q. head-eq_of_cons-eq (numbers-same x y [] [] q)) g.outputs h.outputs b.0;
      ands = map-once and_line and-once g.ands h.ands b.1;
    }

ascii-once : (bytes r s : List ℕ) (g h : Graph) → Lines (ascii_lines g) bytes r → Lines (ascii_lines h) bytes s → SameGraph g h
unfolding ascii_lines text
ascii-once bytes r s g h i j =
    let first = first-once (text "aag " ++ counts_text g) (text "aag " ++ counts_text h) (body_lines g) (body_lines h) bytes r s (head-high g) (head-high h) i j in
    let n = counts-once g h (tail-eq_of_cons-eq (tail-eq_of_cons-eq (tail-eq_of_cons-eq (tail-eq_of_cons-eq first)))) in
    let a : length g.inputs ≡ length h.inputs = n.inputs in
    let b : length g.outputs ≡ length h.outputs = n.outputs in
    let c : length g.ands ≡ length h.ands = n.ands in
    let same = lines-once (ascii_lines g) (ascii_lines h) bytes r s (all-high g) (all-high h) (ap suc (body_long g ∙ ap₂ ◌+◌ a (ap₂ ◌+◌ b c) ∙ sym (body_long h))) i j in
    lines-graph g h n (tail-eq_of_cons-eq same)
  where
    head-high : (x : Graph) → High 32 (text "aag " ++ counts_text x)
    head-high x = (omega arith, (omega arith, (omega arith, (omega arith, counts-high x))))

    all-high : (x : Graph) → AllHigh (ascii_lines x)
    all-high x l (Memᴰ-head e) = subst (High 32) (sym e) (head-high x)
    all-high x l (Memᴰ-tail m) = body_high x l m

-- ---- the binary form

-- a number's groups, at most so many and one: it is below 128, or its lowest seven bits come first
data Grouped (n : ℕ) (bs : List ℕ) : Type 0 where
  last : n < 128 → bs ≡ n ∷ [] → Grouped n bs
  more : (fuel : ℕ) → 128 ≤ n → n / 128 ≤ fuel → bs ≡ (128 + n % 128) ∷ groups fuel (n / 128) → Grouped n bs

grouped : (fuel n : ℕ) → n ≤ fuel → Grouped n (groups fuel n)
unfolding groups
grouped zero n h = last (omega arith) refl
grouped (suc fuel) n h = by_bool (ltb n 128) (λ e. last (ltb-true n 128 e) (rw e)) (λ q. let b : 128 ≤ n = ltb-false n 128 q in more fuel b (omega arith) (rw q))

groups-once : (j k m n : ℕ) (x y : List ℕ) → m ≤ j → n ≤ k → groups j m ++ x ≡ groups k n ++ y → (m ≡ n) × (x ≡ y)
unfolding groups
groups-once zero k m n x y a b e = low (grouped k n b)
  where
    low : Grouped n (groups k n) → (m ≡ n) × (x ≡ y)
    low (last h q) = let s : m ∷ x ≡ n ∷ y = e ∙ ap (λ (bs : List ℕ). bs ++ y) q in (head-eq_of_cons-eq s, tail-eq_of_cons-eq s)
    low (more f h i q) = absurd (let s : m ≡ 128 + n % 128 = head-eq_of_cons-eq (e ∙ ap (λ (bs : List ℕ). bs ++ y) q) in omega arith)
groups-once (suc j) k m n x y a b e = by_bool (ltb m 128)
    (λ q. low (ltb-true m 128 q) (rw q at e) (grouped k n b))
    (λ q. high (ltb-false m 128 q) (rw q at e) (grouped k n b) (λ f i r. groups-once j f (m / 128) (n / 128) x y (let z : 128 ≤ m = ltb-false m 128 q in omega arith) i r))
  where
    low : m < 128 → m ∷ x ≡ groups k n ++ y → Grouped n (groups k n) → (m ≡ n) × (x ≡ y)
    low c s (last h q) = let r : m ∷ x ≡ n ∷ y = s ∙ ap (λ (bs : List ℕ). bs ++ y) q in (head-eq_of_cons-eq r, tail-eq_of_cons-eq r)
    low c s (more f h i q) = absurd (let r : m ≡ 128 + n % 128 = head-eq_of_cons-eq (s ∙ ap (λ (bs : List ℕ). bs ++ y) q) in omega arith)

    high : 128 ≤ m → (128 + m % 128) ∷ (groups j (m / 128) ++ x) ≡ groups k n ++ y → Grouped n (groups k n)
        → ((f : ℕ) → n / 128 ≤ f → groups j (m / 128) ++ x ≡ groups f (n / 128) ++ y → (m / 128 ≡ n / 128) × (x ≡ y)) → (m ≡ n) × (x ≡ y)
    high c s (last h q) later = absurd (let r : 128 + m % 128 ≡ n = head-eq_of_cons-eq (s ∙ ap (λ (bs : List ℕ). bs ++ y) q) in omega arith)
    high c s (more f h i q) later =
        let r : (128 + m % 128) ∷ (groups j (m / 128) ++ x) ≡ (128 + n % 128) ∷ (groups f (n / 128) ++ y) = s ∙ ap (λ (bs : List ℕ). bs ++ y) q in
        let t = later f i (tail-eq_of_cons-eq r) in
        let u : 128 + m % 128 ≡ 128 + n % 128 = head-eq_of_cons-eq r in
        let w : m / 128 ≡ n / 128 = t.0 in
        (omega arith, t.1)

difference-once : (m n : ℕ) (x y : List ℕ) → groups m m ++ x ≡ groups n n ++ y → (m ≡ n) × (x ≡ y)
difference-once m n x y e = groups-once m n m n x y (omega arith) (omega arith) e

ands-once : (as' bs : List And) (x y : List ℕ) → map (λ (a : And). a.var) as' ≡ map (λ (a : And). a.var) bs → ((a : And) → Memᴰ a as' → (a.left ≤ 2 * a.var) × (a.right ≤ a.left))
    → ((a : And) → Memᴰ a bs → (a.left ≤ 2 * a.var) × (a.right ≤ a.left)) → each differences as' ++ x ≡ each differences bs ++ y → as' ≡ bs
unfolding each differences
ands-once [] [] x y v f h e = refl
ands-once [] (b ∷ bs) x y v f h e = absurd (nil≢cons v)
ands-once (a ∷ as') [] x y v f h e = absurd (cons≢nil v)
ands-once (a ∷ as') (b ∷ bs) x y v f h e =
    let d : ℕ = 2 * a.var - a.left in
    let d' : ℕ = 2 * b.var - b.left in
    let k : ℕ = a.left - a.right in
    let k' : ℕ = b.left - b.right in
    let p = difference-once d d' (groups k k ++ (each differences as' ++ x)) (groups k' k' ++ (each differences bs ++ y))
    (sym (append_assoc (groups d d) (groups k k) (each differences as' ++ x)) ∙ sym (append_assoc (groups d d ++ groups k k) (each differences as') x) ∙ e
    ∙ append_assoc (groups d' d' ++ groups k' k') (each differences bs) y ∙ append_assoc (groups d' d') (groups k' k') (each differences bs ++ y)) in
    let q = difference-once k k' (each differences as' ++ x) (each differences bs ++ y) p.1 in
    let va : a.var ≡ b.var = head-eq_of_cons-eq v in
    let fa = f a (Memᴰ-head refl) in
    let fb = h b (Memᴰ-head refl) in
    let pd : 2 * a.var - a.left ≡ 2 * b.var - b.left = p.0 in
    let qd : a.left - a.right ≡ b.left - b.right = q.0 in
    let l : a.left ≡ b.left = omega arith in
    let r : a.right ≡ b.right = omega arith in
    ap₂ (λ (z : And) (zs : List And). z ∷ zs)
    (ap₂ (λ (m n : ℕ). record { var = m; left = n; right = a.right }) va l ∙ ap (λ (m : ℕ). record { var = b.var; left = b.left; right = m }) r)
    (ands-once as' bs x y (tail-eq_of_cons-eq v) (λ c m. f c (Memᴰ-tail m)) (λ c m. h c (Memᴰ-tail m)) q.1)

outputs-once : (ls ms : List ℕ) (x y : List ℕ) → length ls ≡ length ms → each (λ (l : ℕ). numbers_text l [] ++ (10 ∷ [])) ls ++ x ≡ each (λ (l : ℕ). numbers_text l [] ++ (10 ∷ [])) ms ++ y
    → (ls ≡ ms) × (x ≡ y)
unfolding each
outputs-once [] [] x y n e = (refl, e)
outputs-once [] (m ∷ ms) x y n e = absurd (let q : 0 ≡ suc (length ms) = n in omega arith)
outputs-once (l ∷ ls) [] x y n e = absurd (let q : suc (length ls) ≡ 0 = n in omega arith)
outputs-once (l ∷ ls) (m ∷ ms) x y n e =
    let here : ℕ → List ℕ = λ z. numbers_text z [] in
    let later : List ℕ → List ℕ = λ zs. each (λ (z : ℕ). numbers_text z [] ++ (10 ∷ [])) zs in
    let s = split_at 32 10 10 (numbers_text l []) (numbers_text m []) (later ls ++ x) (later ms ++ y) (numbers-high l []) (numbers-high m []) (omega arith) (omega arith)
    (sym (append_assoc (numbers_text l []) (10 ∷ later ls) x) ∙ sym (ap (λ (zs : List ℕ). zs ++ x) (append_assoc (numbers_text l []) (10 ∷ []) (later ls))) ∙ e
    ∙ ap (λ (zs : List ℕ). zs ++ y) (append_assoc (numbers_text m []) (10 ∷ []) (later ms)) ∙ append_assoc (numbers_text m []) (10 ∷ later ms) y) in
    let k : suc (length ls) ≡ suc (length ms) = n in
    let r = outputs-once ls ms x y (omega arith) s.behind in
    (ap₂ (λ (z : ℕ) (zs : List ℕ). z ∷ zs) (head-eq_of_cons-eq (numbers-same l m [] [] s.before)) r.0, r.1)

binary-once : (r s : List ℕ) (g h : Graph) → InSequence g → InSequence h → binary_text g ++ r ≡ binary_text h ++ s → SameGraph g h
unfolding binary_text text
binary-once r s g h a b e =
    let outs : Graph → List ℕ = λ x. each (λ (l : ℕ). numbers_text l [] ++ (10 ∷ [])) x.outputs in
    let ands : Graph → List ℕ = λ x. each differences x.ands in
    let t = tail-eq_of_cons-eq (tail-eq_of_cons-eq (tail-eq_of_cons-eq (tail-eq_of_cons-eq e))) in
    let c = split_at 32 10 10 (counts_text g) (counts_text h) ((outs g ++ ands g) ++ r) ((outs h ++ ands h) ++ s) (counts-high g) (counts-high h) (omega arith) (omega arith)
    (sym (append_assoc (counts_text g) (10 ∷ (outs g ++ ands g)) r) ∙ t ∙ append_assoc (counts_text h) (10 ∷ (outs h ++ ands h)) s) in
    let n = counts-once g h c.before in
    let o = outputs-once g.outputs h.outputs (ands g ++ r) (ands h ++ s) n.outputs
    (sym (append_assoc (outs g) (ands g) r) ∙ c.behind ∙ append_assoc (outs h) (ands h) s) in
    record {
      size = n.size;
      inputs = a.inputs ∙ ap (from 1) n.inputs ∙ sym b.inputs;
      outputs = o.0;
      ands = ands-once g.ands h.ands r s (a.ands ∙ ap₂ (λ (i k : ℕ). from (suc i) k) n.inputs n.ands ∙ sym b.ands) a.falls b.falls o.1;
    }

-- ---- either form

-- the second letter tells the forms apart
never_both : (bytes r s : List ℕ) (g h : Graph) → Lines (ascii_lines g) bytes r → ¬ (bytes ≡ binary_text h ++ s)
unfolding ascii_lines binary_text text
never_both bytes r s g h (ten e i) f = let q : ◌≡◌ {A = ℕ} 97 105 = head-eq_of_cons-eq (tail-eq_of_cons-eq (sym e ∙ f)) in omega arith
never_both bytes r s g h (both e i) f = let q : ◌≡◌ {A = ℕ} 97 105 = head-eq_of_cons-eq (tail-eq_of_cons-eq (sym e ∙ f)) in omega arith

-- one text spells one graph
pub one-graph : (bytes : List ℕ) (g h : Graph) → Spells bytes g → Spells bytes h → SameGraph g h
one-graph bytes g h (ascii r i) (ascii s j) = ascii-once bytes r s g h i j
one-graph bytes g h (ascii r i) (binary s b f) = absurd (never_both bytes r s g h i f)
one-graph bytes g h (binary r a e) (ascii s j) = absurd (never_both bytes s r h g j e)
one-graph bytes g h (binary r a e) (binary s b f) = binary-once r s g h a b (sym e ∙ f)

-- a graph's ASCII text spells it, whatever follows
line-ten : (n : ℕ) (ns : List ℕ) (next : List ℕ) → numbers_line n ns ++ next ≡ numbers_text n ns ++ (10 ∷ next)
unfolding numbers_line numbers_text each
line-ten n ns next = simp append_assoc

each-ten : {A : Type 0} (f : A → List ℕ) (h : A → List ℕ) → ((x : A) (next : List ℕ) → f x ++ next ≡ h x ++ (10 ∷ next)) → (xs : List A) (ls : List (List ℕ)) (bytes rest : List ℕ)
    → Lines ls bytes rest → Lines (map h xs ++ ls) (each f xs ++ bytes) rest
unfolding each
each-ten f h so [] ls bytes rest i = i
each-ten f h so (x ∷ xs) ls bytes rest i = ten (append_assoc (f x) (each f xs) bytes ∙ so x (each f xs ++ bytes)) (each-ten f h so xs ls bytes rest i)

pub ascii_spells : (g : Graph) (rest : List ℕ) → Spells (ascii_text g ++ rest) g
unfolding ascii_text ascii_lines text counts_text
ascii_spells g rest =
    let ins : List ℕ = each (λ (v : ℕ). numbers_line (2 * v) []) g.inputs in
    let outs : List ℕ = each (λ (l : ℕ). numbers_line l []) g.outputs in
    let ands : List ℕ = each (λ (a : And). numbers_line (2 * a.var) (a.left ∷ a.right ∷ [])) g.ands in
    let counts : List ℕ = length g.inputs ∷ 0 ∷ length g.outputs ∷ length g.ands ∷ [] in
    ascii rest (ten
    (ap (λ (t : List ℕ). text "aag " ++ t) (append_assoc (numbers_line g.size counts) (ins ++ (outs ++ ands)) rest
    ∙ ap (λ (t : List ℕ). numbers_line g.size counts ++ t) (append_assoc ins (outs ++ ands) rest ∙ ap (λ (t : List ℕ). ins ++ t) (append_assoc outs ands rest))
    ∙ line-ten g.size counts (ins ++ (outs ++ (ands ++ rest)))))
    (each-ten (λ (v : ℕ). numbers_line (2 * v) []) input_line (λ v next. line-ten (2 * v) [] next) g.inputs (map output_line g.outputs ++ map and_line g.ands) (outs ++ (ands ++ rest)) rest
    (each-ten (λ (l : ℕ). numbers_line l []) output_line (λ l next. line-ten l [] next) g.outputs (map and_line g.ands) (ands ++ rest) rest
    (subst (λ (ls : List (List ℕ)). Lines ls (ands ++ rest) rest) (append-nil (map and_line g.ands))
    (each-ten (λ (a : And). numbers_line (2 * a.var) (a.left ∷ a.right ∷ [])) and_line (λ a next. line-ten (2 * a.var) (a.left ∷ a.right ∷ []) next) g.ands [] rest rest none)))))
