-- Names as numbers: a name byte by byte, how large its number is, and no two names of one number.
use Rattle.base.specs.{ℕ, zero, suc, ◌+◌, ◌-◌, ◌*◌, ◌^◌, ◌≤◌, ◌<◌, pow-suc, arith, ◌≡◌, refl, sym, ◌∙◌, ap, subst, Bool, true, false, ◌||◌}
use Rattle.base.specs.{None, Some, List, [], ◌∷◌, eqb, leb, length, drop, get_or, length-drop, drop-cons, get_or-drop, add-one, no_eqb, leb-true, le-leb}
use Rattle.base.specs.{lt-leb}
use Rattle.model.specs.{all, only, between, is_letter, is_name_byte, is_net}
use Rattle.theory_graph.proofs.{is_false}
use Rattle.base_text.proofs.{and_left, and_right, and-false}
use Rattle.check_names.specs.{is_net_byte, code, net_code}

-- ---- a net's form

pub net-line : is_net_byte 95 ≡ false
unfolding is_net_byte is_letter between
net-line = refl

pub net_other : (b : ℕ) → (b ≡ 95 → ⊥) → is_name_byte b ≡ is_net_byte b
unfolding is_name_byte is_net_byte
net_other b h = ap (λ (t : Bool). is_letter b || (between 48 57 b || t)) (is_false (eqb b 95) (no_eqb h)) ∙ go (is_letter b) (between 48 57 b)
  where
    go : (x y : Bool) → (x || (y || false)) ≡ (x || y)
    go true y = refl
    go false true = refl
    go false false = refl

pub net-empty : (w : List ℕ) → length w ≡ 0 → is_net w ≡ false
unfolding is_net
net-empty w e = rw (e)

pub net-long : (w : List ℕ) → 8 < length w → is_net w ≡ false
unfolding is_net
net-long w h = rw (lt-leb (length w) 8 h, and-false)

pub net-bytes : (w : List ℕ) → (length w ≡ 0 → ⊥) → length w ≤ 8 → is_net w ≡ all is_net_byte w
unfolding is_net is_net_byte
net-bytes w ne h = rw (le-leb 1 (length w) (positive (length w) ne), le-leb (length w) 8 h)
  where
    positive : (n : ℕ) → (n ≡ 0 → ⊥) → 1 ≤ n
    positive zero e = absurd (e refl)
    positive (suc n) e = omega arith

pub net-short : (w : List ℕ) → is_net w ≡ true → length w ≤ 8
unfolding is_net
net-short w e = leb-true (length w) 8 (and_left (leb (length w) 8) _ (and_right (leb 1 (length w)) _ e))

pub code-net : (w : List ℕ) → is_net w ≡ true → net_code w ≡ Some (code w)
unfolding net_code only
code-net w e = ap (λ (b : Bool). only b (code w)) e

pub code-none : (w : List ℕ) → is_net w ≡ false → net_code w ≡ None
unfolding net_code only
code-none w e = ap (λ (b : Bool). only b (code w)) e

-- ---- one byte less

pub code_step : (w : List ℕ) (i : ℕ) → i < length w → code (drop i w) ≡ get_or w i 0 + 256 * code (drop (i + 1) w)
unfolding code
code_step w i h = rw (add-one, drop-cons w i 0)

pub code-end : (w : List ℕ) (i : ℕ) → length w ≤ i → code (drop i w) ≡ 0
unfolding code
code-end [] zero h = refl
code-end [] (suc i) h = refl
code-end (b ∷ w) zero h = absurd (let z : suc (length w) ≤ 0 = h in omega arith)
code-end (b ∷ w) (suc i) h = code-end w i (let z : suc (length w) ≤ suc i = h in omega arith)

-- the number of so many bytes
pub code-small : (w : List ℕ) → ((k : ℕ) → get_or w k 0 < 256) → code w < 256 ^ length w
unfolding code
code-small [] h = omega arith
code-small (b ∷ w) h =
    let i : code w < 256 ^ length w = code-small w (λ k. h (suc k)) in
    let l : b < 256 = h 0 in
    subst (λ (n : ℕ). b + 256 * code w < n) (sym (pow-suc 256 (length w))) (omega arith)

power_up : (n d : ℕ) → 256 ^ n ≤ 256 ^ (n + d)
power_up n zero = let e : n ≡ n + 0 = omega arith in subst (λ (k : ℕ). 256 ^ n ≤ 256 ^ k) e (let z : 256 ^ n ≤ 256 ^ n = omega arith in z)
power_up n (suc d) =
    let i : 256 ^ n ≤ 256 ^ (n + d) = power_up n d in
    let e : suc (n + d) ≡ n + suc d = omega arith in
    subst (λ (k : ℕ). 256 ^ n ≤ 256 ^ k) e (subst (λ (k : ℕ). 256 ^ n ≤ k) (sym (pow-suc 256 (n + d))) (omega arith))

-- what is left of eight bytes behind a first one is below 2^56
pub code-behind : (w : List ℕ) (i : ℕ) → ((k : ℕ) → get_or w k 0 < 256) → length w ≤ 8 → i < length w → code (drop (i + 1) w) < 72057594037927936
code-behind w i h l b =
    let n = length (drop (i + 1) w) in
    let s : code (drop (i + 1) w) < 256 ^ n = code-small (drop (i + 1) w) (λ k. subst (λ (x : ℕ). x < 256) (sym (get_or-drop (i + 1) w k 0)) (h (i + 1 + k))) in
    let e : n ≡ length w - (i + 1) = length-drop (i + 1) w in
    let u : 256 ^ n ≤ 256 ^ (n + (7 - n)) = power_up n (7 - n) in
    let v : n + (7 - n) ≡ 7 = omega arith in
    let t : 256 ^ n ≤ 256 ^ 7 = subst (λ (k : ℕ). 256 ^ n ≤ 256 ^ k) v u in
    let z : 256 ^ 7 ≡ 72057594037927936 = refl in
    omega arith

-- the loop that makes the number, from the last byte on
module _ (w : List ℕ) (bytes : (k : ℕ) → get_or w k 0 < 256) (i n : ℕ) (inside : i ≤ length w) (is : n ≡ code (drop i w)) (more : 0 < i) where
  back : i - 1 + 1 ≡ i
  back = omega arith

  pub code_fits : length w ≤ 8 → n < 72057594037927936
  code_fits l = subst (λ (x : ℕ). x < 72057594037927936) (ap (λ (k : ℕ). code (drop k w)) back ∙ sym is) (code-behind w (i - 1) bytes l (omega arith))

  pub code-more : n * 256 + get_or w (i - 1) 0 ≡ code (drop (i - 1) w)
  code-more =
      let e : code (drop (i - 1 + 1) w) ≡ n = ap (λ (k : ℕ). code (drop k w)) back ∙ sym is in
      let q : code (drop (i - 1) w) ≡ get_or w (i - 1) 0 + 256 * code (drop (i - 1 + 1) w) = code_step w (i - 1) (omega arith) in
      omega arith
