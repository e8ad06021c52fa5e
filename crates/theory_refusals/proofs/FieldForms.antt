-- The fields of a line: numbers, names and tables are read exactly where the bytes have the form, and with the form's meaning; a line's fields are the parts
-- that one space joins.
use Rattle.base.specs.{ℕ, zero, suc, ◌+◌, ◌-◌, ◌*◌, ◌/◌, ◌%◌, ◌≤◌, ◌<◌, not-suc-le-zero, le_refl, arith, ◌≡◌, refl, sym, ◌∙◌, ap, ap₂}
use Rattle.base.specs.{subst, ◌⊎◌, inl, inr, ⊎_elim, Bool, true, false, not, cond, false≢true, ◌&&◌, ◌||◌, None, Some, List, [], ◌∷◌, ◌++◌}
use Rattle.base.specs.{append_assoc, Memᴰ, Memᴰ-head, Memᴰ-tail, T, eqb, leb, ltb, length, and_yes, yes_and, or_yes, eqb_yes}
use Rattle.base.specs.{yes_eqb, leb_yes, yes_leb, ltb_yes, ltb_no, yes_ltb, no_ltb}
use Rattle.model.specs.{all, same, and_then, only, digits, decimal, as_digits, number, numbers, between, hex_digit, hex_from, hex_table}
use Rattle.model.specs.{is_letter, is_name_byte, is_name, onto, split, fields}
use Rattle.promises.specs.{Letter, NameByte, Name, name, Decimal, digit, more, Number, Numbers, Hex, figure, letter, Table, four, joined}
use Rattle.promises.specs.{Within}
use Rattle.promises.specs.LineForms.Numbers.{none as no_numbers, one as a_number}
use Rattle.theory_graph.proofs.{same-eq, all_of, all_in, is_true, is_false, by_bool, by_list}
use Rattle.theory_text.proofs.{then_out, only_out, Free, above, free_append, decimal-free, fields-word, fields-last}
use Rattle.theory_text.proofs.{number-back as number-written}

-- ---- numbers

digits-after : (fuel n : ℕ) (after : List ℕ) → digits fuel n after ≡ digits fuel n [] ++ after
unfolding digits
digits-after zero n after = refl
digits-after (suc fuel) n after = by_bool (ltb n 10) (λ e. cc) (λ q. cc (
  (digits-after fuel (n / 10) ((48 + n % 10) ∷ after)),
  append_assoc
      (digits fuel (n / 10) []) ((48 + n % 10) ∷ []) after,
  digits-after fuel (n / 10) ((48 + n % 10) ∷ []),
))

pub digits_form : (fuel n : ℕ) → n < fuel → Decimal (digits fuel n []) n
unfolding digits
digits_form zero n h = absurd (not-suc-le-zero h)
digits_form (suc fuel) n h = go (ltb n 10) (λ t. ltb_yes t) (λ t. ltb_no t) (digits_form fuel (n / 10))
  where
    whole : n / 10 * 10 + n % 10 ≡ n
    whole = omega arith

    go : (b : Bool) → (T b → n < 10) → (T (not b) → 10 ≤ n) → (n / 10 < fuel → Decimal (digits fuel (n / 10) []) (n / 10))
        → Decimal (cond b ((48 + n) ∷ []) (digits fuel (n / 10) ((48 + n % 10) ∷ []))) n
    go true u v later = let q : n ≤ 9 = (let z : n < 10 = u tt in omega arith) in digit q
    go false u v later = rw (digits-after fuel (n / 10) ((48 + n % 10) ∷ []))
        (rw whole at (more {n = n / 10} {d = n % 10} (later (omega (arith, v tt))) (omega (arith, v tt)) (omega (arith, v tt))))

-- steps enough are steps enough
digits_fuel : (f g n : ℕ) (after : List ℕ) → n < f → n < g → digits f n after ≡ digits g n after
unfolding digits
digits_fuel zero g n after h k = absurd (not-suc-le-zero h)
digits_fuel (suc f) zero n after h k = absurd (not-suc-le-zero k)
digits_fuel (suc f) (suc g) n after h k = go (ltb n 10) (λ t. ltb_no t) (digits_fuel f g (n / 10) ((48 + n % 10) ∷ after))
  where
    go : (b : Bool) → (T (not b) → 10 ≤ n) → (n / 10 < f → n / 10 < g → digits f (n / 10) ((48 + n % 10) ∷ after) ≡ digits g (n / 10) ((48 + n % 10) ∷ after))
        → cond b ((48 + n) ∷ after) (digits f (n / 10) ((48 + n % 10) ∷ after)) ≡ cond b ((48 + n) ∷ after) (digits g (n / 10) ((48 + n % 10) ∷ after))
    go true u later = refl
    go false u later = let q : 10 ≤ n = u tt in later (omega arith) (omega arith)

-- a number has one form
pub decimal-only : {w : List ℕ} {n : ℕ} → Decimal w n → w ≡ decimal n
unfolding decimal digits
decimal-only (digit {d} h) = sym (ap (λ (b : Bool). cond b ((48 + d) ∷ []) (digits d (d / 10) ((48 + d % 10) ∷ []))) (is_true (ltb d 10) (yes_ltb {a = d} {b = 10} (omega arith))))
decimal-only (more {w} {n} {d} p pos h) = cc (
  is_false (ltb (n * 10 + d) 10) (no_ltb {a = n * 10 + d} {b = 10} (omega arith)),
  let e :
      (n * 10 + d) / 10 ≡ n = omega arith in e,
  let e : (n * 10 + d) % 10 ≡ d = omega arith in e,
  digits-after (n * 10 + d) n
      ((48 + d) ∷ []),
  digits_fuel (n * 10 + d) (suc n) n [] (omega arith) (omega arith),
  decimal-only p,
)

pub number_form : (w : List ℕ) (n : ℕ) → number w ≡ Some n → Number w n
unfolding number decimal
number_form w n e =
    let t = only_out (leb (as_digits 0 w) 65535 && same w (decimal (as_digits 0 w))) (as_digits 0 w) n e in
    let p = and_yes (leb (as_digits 0 w) 65535) (same w (decimal (as_digits 0 w))) t.0 in
    let q : w ≡ decimal n = same-eq w (decimal (as_digits 0 w)) p.1 ∙ ap decimal t.1 in
    (subst (λ (v : List ℕ). Decimal v n) (sym q) (digits_form (suc n) n (le_refl (suc n))), subst (λ (m : ℕ). m ≤ 65535) t.1 (leb_yes p.0))

pub number-back : (w : List ℕ) (n : ℕ) → Number w n → number w ≡ Some n
number-back w n p = ap number (decimal-only p.0) ∙ number-written n p.1

pub number-free : (s : ℕ) → s < 48 → {w : List ℕ} {n : ℕ} → Number w n → Free s w
number-free s h {n = n} p = subst (Free s) (sym (decimal-only p.0)) (decimal-free s n h)

pub numbers_form_lem : (ws : List (List ℕ)) (ns : List ℕ) → numbers ws ≡ Some ns → Numbers ws ns
unfolding numbers
numbers_form_lem [] ns e = let q : ◌≡◌ {A = List ℕ} [] ns = cc in subst (Numbers []) q no_numbers
numbers_form_lem (w ∷ ws) ns e =
    let a = then_out (number w) (λ n. and_then (numbers ws) (λ ms. Some (n ∷ ms))) ns e in
    let b = then_out (numbers ws) (λ ms. Some (a.0 ∷ ms)) ns a.2 in
    let q : a.0 ∷ b.0 ≡ ns = cc in
    subst (Numbers (w ∷ ws)) q (a_number (number_form w a.0 a.1) (numbers_form_lem ws b.0 b.1))

pub numbers-back : {ws : List (List ℕ)} {ns : List ℕ} → Numbers ws ns → numbers ws ≡ Some ns
unfolding numbers and_then
numbers-back no_numbers = refl
numbers-back (a_number {w} {n} {ws} {ns} p q) = cc (number-back w n p, numbers-back q)

pub numbers-count : {ws : List (List ℕ)} {ns : List ℕ} → Numbers ws ns → length ws ≡ length ns
numbers-count no_numbers = refl
numbers-count (a_number p q) = ap suc (numbers-count q)

-- every field is free of a byte
abbrev pub AllFree : ℕ → List (List ℕ) → Type 0
AllFree s [] = Unit {0}
AllFree s (w ∷ ws) = Free s w × AllFree s ws

pub numbers-free : (s : ℕ) → s < 48 → {ws : List (List ℕ)} {ns : List ℕ} → Numbers ws ns → AllFree s ws
numbers-free s h no_numbers = tt
numbers-free s h (a_number p q) = (number-free s h p, numbers-free s h q)

-- ---- names

pub within_form : (low high b : ℕ) → T (between low high b) → Within low high b
unfolding between
within_form low high b t = let p = and_yes (leb low b) (leb b high) t in (leb_yes p.0, leb_yes p.1)

pub within-back : (low high b : ℕ) → Within low high b → T (between low high b)
unfolding between
within-back low high b p = yes_and (leb low b) (leb b high) (yes_leb p.0) (yes_leb p.1)

pub yes_or : (a b : Bool) → T a ⊎ T b → T (a || b)
yes_or true b h = tt
yes_or false b (inl h) = absurd h
yes_or false b (inr h) = h

pub letter_form : (b : ℕ) → T (is_letter b) → Letter b
unfolding is_letter
letter_form b t = ⊎_elim (λ h. inl (within_form 65 90 b h)) (λ q. inr (within_form 97 122 b q))
    (or_yes (between 65 90 b) (between 97 122 b) t)

pub letter-back : (b : ℕ) → Letter b → T (is_letter b)
unfolding is_letter
letter-back b (inl h) = yes_or (between 65 90 b) (between 97 122 b) (inl (within-back 65 90 b h))
letter-back b (inr h) = yes_or (between 65 90 b) (between 97 122 b) (inr (within-back 97 122 b h))

pub byte_form : (b : ℕ) → T (is_name_byte b) → NameByte b
unfolding is_name_byte
byte_form b t = ⊎_elim (λ h. inl (letter_form b h))
    (λ q. ⊎_elim (λ q. inr (inl (within_form 48 57 b q))) (λ e. inr (inr (eqb_yes e))) (or_yes (between 48 57 b) (eqb b 95) q))
    (or_yes (is_letter b) (between 48 57 b || eqb b 95) t)

pub byte_back : (b : ℕ) → NameByte b → T (is_name_byte b)
unfolding is_name_byte
byte_back b (inl h) = yes_or (is_letter b) (between 48 57 b || eqb b 95) (inl (letter-back b h))
byte_back b (inr (inl h)) = yes_or (is_letter b) (between 48 57 b || eqb b 95) (inr (yes_or (between 48 57 b) (eqb b 95) (inl (within-back 48 57 b h))))
byte_back b (inr (inr h)) = yes_or (is_letter b) (between 48 57 b || eqb b 95) (inr (yes_or (between 48 57 b) (eqb b 95) (inr (yes_eqb h))))

pub name_form : (w : List ℕ) → T (is_name w) → Name w
unfolding is_name
name_form [] t = absurd t
name_form (b ∷ bs) t =
    let p = and_yes (is_letter b) (all is_name_byte bs && leb (length bs) 7) t in
    let q = and_yes (all is_name_byte bs) (leb (length bs) 7) p.1 in
    let l : length bs ≤ 7 = leb_yes q.1 in
    name (letter_form b p.0) (λ x m. byte_form x (all_of is_name_byte bs q.0 x m)) (omega arith)

pub name_back : (w : List ℕ) → Name w → T (is_name w)
unfolding is_name
name_back (b ∷ bs) (name l bytes short) =
    yes_and (is_letter b) (all is_name_byte bs && leb (length bs) 7) (letter-back b l)
    (yes_and (all is_name_byte bs) (leb (length bs) 7) (all_in is_name_byte bs (λ x m. byte_back x (bytes x m))) (yes_leb {a = length bs} {b = 7} (omega arith)))
name_back [] x' = elim x' [ ]

-- bytes at or above 48 are none below it
high-free : (s : ℕ) → s < 48 → (w : List ℕ) → ((x : ℕ) → Memᴰ x w → 48 ≤ x) → Free s w
high-free s h [] f = tt
high-free s h (b ∷ w) f = (above s b (let q : 48 ≤ b = f b (Memᴰ-head refl) in omega arith), high-free s h w (λ x m. f x (Memᴰ-tail m)))

letter-high : (b : ℕ) → Letter b → 48 ≤ b
letter-high b (inl h) = omega (arith, h.0)
letter-high b (inr h) = omega (arith, h.0)

byte_high : (b : ℕ) → NameByte b → 48 ≤ b
byte_high b (inl h) = letter-high b h
byte_high b (inr (inl h)) = h.0
byte_high b (inr (inr h)) = omega arith

pub name_free : (s : ℕ) → s < 48 → {w : List ℕ} → Name w → Free s w
name_free s h (name {b} {bs} l bytes short) = (above s b (let q : 48 ≤ b = letter-high b l in omega arith), high-free s h bs (λ x m. byte_high x (bytes x m)))

-- ---- tables

hex_form : (b d : ℕ) → hex_digit b ≡ Some d → Hex b d
unfolding hex_digit
hex_form b d e = go (between 48 57 b) (between 97 102 b) (λ t. within_form 48 57 b t) (λ t. within_form 97 102 b t) e
  where
    low : Within 48 57 b → b - 48 ≡ d → Hex b d
    low w q = subst (λ (x : ℕ). Hex x d) (let z : 48 + d ≡ b = omega arith in z) (figure {d = d} (omega arith))

    high : Within 97 102 b → b - 87 ≡ d → Hex b d
    high w q = subst (λ (x : ℕ). Hex x d) (let z : 97 + (b - 97) ≡ b = omega arith in z)
        (subst (λ (y : ℕ). Hex (97 + (b - 97)) y) (let z : 10 + (b - 97) ≡ d = omega arith in z) (letter {d = b - 97} (omega arith)))

    go : (x y : Bool) → (T x → Within 48 57 b) → (T y → Within 97 102 b) → cond x (Some (b - 48)) (cond y (Some (b - 87)) None) ≡ Some d → Hex b d
    go true y u v f = low (u tt) (let q : b - 48 ≡ d = cc in q)
    go false true u v f = high (v tt) (let q : b - 87 ≡ d = cc in q)
    go false false u v f = absurd (let z : false ≡ true = cc in false≢true z)

hex_back : (b d : ℕ) → Hex b d → hex_digit b ≡ Some d
unfolding hex_digit
hex_back b d (figure h) = cc
    (is_true (between 48 57 (48 + d)) (within-back 48 57 (48 + d) (omega arith, omega arith)), let q : 48 + d - 48 ≡ d = omega arith in q)
hex_back b d (letter {d = k} h) = cc (
  is_false (between 48 57 (97 + k)) (lib.Dec.not_T (between 48 57 (97 + k))
      (λ t. let p = within_form 48 57 (97 + k) t in let q : 97 + k ≤ 57 = p.1 in omega arith)),
  is_true (between 97 102 (97 + k))
      (within-back 97 102 (97 + k) (omega arith, omega arith)),
  let q : 97 + k - 87 ≡ 10 + k = omega arith in q,
)

pub table_form : (w : List ℕ) (n : ℕ) → hex_table w ≡ Some n → Table w n
unfolding hex_table hex_from
table_form w n e =
    let o = then_out (only (eqb (length w) 4) w) (hex_from 0) n e in
    let p = only_out (eqb (length w) 4) w o.0 o.1 in
    of_length_lem w (eqb_yes p.0) (ap (hex_from 0) p.1 ∙ o.2)
  where
    digits_of : (a b c d : ℕ) → hex_from 0 (a ∷ b ∷ c ∷ d ∷ []) ≡ Some n → Table (a ∷ b ∷ c ∷ d ∷ []) n
    digits_of a b c d f =
        let i = then_out (hex_digit a) (λ x. hex_from (0 * 16 + x) (b ∷ c ∷ d ∷ [])) n f in
        let j = then_out (hex_digit b) (λ x. hex_from ((0 * 16 + i.0) * 16 + x) (c ∷ d ∷ [])) n i.2 in
        let k = then_out (hex_digit c) (λ x. hex_from (((0 * 16 + i.0) * 16 + j.0) * 16 + x) (d ∷ [])) n j.2 in
        let l = then_out (hex_digit d) (λ x. hex_from ((((0 * 16 + i.0) * 16 + j.0) * 16 + k.0) * 16 + x) []) n k.2 in
        let q : (((0 * 16 + i.0) * 16 + j.0) * 16 + k.0) * 16 + l.0 ≡ n = cc in
        subst (Table (a ∷ b ∷ c ∷ d ∷ [])) (let z : i.0 * 4096 + j.0 * 256 + k.0 * 16 + l.0 ≡ n = omega arith in z)
        (four (hex_form a i.0 i.1) (hex_form b j.0 j.1) (hex_form c k.0 k.1) (hex_form d l.0 l.1))

    of_length_lem : (w : List ℕ) → length w ≡ 4 → hex_from 0 w ≡ Some n → Table w n
    of_length_lem [] h f = let z : ⊥ = omega arith in absurd z
    of_length_lem (a ∷ []) h f = let z : ⊥ = omega arith in absurd z
    of_length_lem (a ∷ b ∷ []) h f = let z : ⊥ = omega arith in absurd z
    of_length_lem (a ∷ b ∷ c ∷ []) h f = let z : ⊥ = omega arith in absurd z
    of_length_lem (a ∷ b ∷ c ∷ d ∷ []) h f = digits_of a b c d f
    of_length_lem (a ∷ b ∷ c ∷ d ∷ x ∷ xs) h f = let z : ⊥ = omega arith in absurd z

pub table-back : (w : List ℕ) (n : ℕ) → Table w n → hex_table w ≡ Some n
unfolding hex_table hex_from and_then only
table-back w n (four {a} {b} {c} {d} {w = i} {x} {y} {z} p q r s) =
    cc (
      hex_back a i p,
      hex_back b x q,
      hex_back c y r,
      hex_back d z s,
      let e :
          (((0 * 16 + i) * 16 + x) * 16 + y) * 16 + z ≡ i * 4096 + x * 256 + y * 16 + z = omega arith in e,
    )

hex_high : {b d : ℕ} → Hex b d → 48 ≤ b
hex_high (figure h) = omega arith
hex_high (letter h) = omega arith

pub table-free : (s : ℕ) → s < 48 → {w : List ℕ} {n : ℕ} → Table w n → Free s w
table-free s h (four {a} {b} {c} {d} p q r t) =
    let high : (s : ℕ) → s < 48 → (b : ℕ) → 48 ≤ b → eqb b s ≡ false = λ s h b k. above s b (omega arith) in
    (high s h a (hex_high p), (high s h b (hex_high q), (high s h c (hex_high r), (high s h d (hex_high t), tt))))

-- ---- fields

pub fields-joined : (w : List ℕ) (ws : List (List ℕ)) → AllFree 32 (w ∷ ws) → fields (joined (w ∷ ws)) ≡ w ∷ ws
fields-joined w [] f = fields-last w f.0
fields-joined w (v ∷ ws) f = fields-word w (joined (v ∷ ws)) f.0 ∙ ap (λ (vs : List (List ℕ)). w ∷ vs) (fields-joined v ws f.1)

-- a line's fields, of which there is one at least, joined again
pub record Joins (s : List ℕ) : Type 0 where
  pub first : List ℕ
  pub others : List (List ℕ)
  pub are_fields : fields s ≡ first ∷ others
  pub is_whole : s ≡ joined (first ∷ others)

pub joins : (s : List ℕ) → Joins s
unfolding fields split onto
joins [] = record { first = []; others = []; are_fields = refl; is_whole = refl }
joins (b ∷ s) = made (eqb b 32) (λ t. eqb_yes t) (joins s) refl
  where
    made : (t : Bool) → (T t → b ≡ 32) → (r : Joins s) → fields (b ∷ s) ≡ split t b (fields s) → Joins (b ∷ s)
    made true u r e = record {
      first = [];
      others = r.first ∷ r.others;
      are_fields = e ∙ ap (λ (vs : List (List ℕ)). [] ∷ vs) r.are_fields;
      is_whole = ap₂ (λ (x : ℕ) (y : List ℕ). x ∷ y) (u tt) r.is_whole;
    }
    made false u r e = record {
      first = b ∷ r.first;
      others = r.others;
      are_fields = e ∙ ap (onto b) r.are_fields;
      is_whole = ap (λ (y : List ℕ). b ∷ y) r.is_whole ∙ (by_list r.others (λ e. cc) (λ v ws q. cc));
    }

pub joined_free : (s : ℕ) → s < 32 → (ws : List (List ℕ)) → AllFree s ws → Free s (joined ws)
joined_free s h [] f = tt
joined_free s h (w ∷ []) f = f.0
joined_free s h (w ∷ v ∷ ws) f = free_append s w (32 ∷ joined (v ∷ ws)) f.0 (above s 32 h, joined_free s h (v ∷ ws) f.1)
