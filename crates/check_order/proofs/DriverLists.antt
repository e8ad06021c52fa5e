-- A driver more on a list.
use Rattle.base.specs.{ℕ, zero, suc, ◌+◌, ◌≤◌, ◌<◌, not-suc-le-zero, arith, ◌≡◌, refl, sym, ap, subst, ◌∙◌, Bool, cond, List, eqb, length}
use Rattle.base.specs.{get_or, set, replicate, length-replicate, length-set, get_or-set_same, get_or-set_other, eq-eqb, ne_eqb}
use Rattle.theory_graph.proofs.{by_eqb}
use Rattle.check_order.specs.{left, Listed}

-- ---- how many are not marked

-- whether one is not
bit_of : ℕ → ℕ
bit_of x = cond (eqb x 0) 1 0

bit-zero : (x : ℕ) → x ≡ 0 → bit_of x ≡ 1
unfolding bit_of
bit-zero x e = ap (λ (b : Bool). cond b 1 0) (eq-eqb x 0 e)

bit_other : (x : ℕ) → (x ≡ 0 → ⊥) → bit_of x ≡ 0
unfolding bit_of
bit_other x e = ap (λ (b : Bool). cond b 1 0) (ne_eqb x 0 e)

left-suc : (flags : List ℕ) (n : ℕ) → left flags (suc n) ≡ bit_of (get_or flags n 0) + left flags n
unfolding left bit_of
left-suc flags n = refl

left-zero : (flags : List ℕ) → left flags 0 ≡ 0
unfolding left
left-zero flags = refl

pub left-all : (flags : List ℕ) → ((x : ℕ) → get_or flags x 0 ≡ 0) → (n : ℕ) → left flags n ≡ n
left-all flags z zero = left-zero flags
left-all flags z (suc n) = omega (arith, left-suc flags n, bit-zero (get_or flags n 0) (z n), left-all flags z n)

left-same : (flags : List ℕ) (i v n : ℕ) → n ≤ i → left (set flags i v) n ≡ left flags n
left-same flags i v zero h = left-zero (set flags i v) ∙ sym (left-zero flags)
left-same flags i v (suc n) h =
    omega (arith, left-suc (set flags i v) n, left-suc flags n, ap bit_of (get_or-set_other flags i n v 0 (λ e. omega arith)), left-same flags i v n (omega arith))

pub left_mark : (flags : List ℕ) (i n : ℕ) → i < n → i < length flags → get_or flags i 0 ≡ 0 → left (set flags i 1) n + 1 ≡ left flags n
left_mark flags i zero h inside z = absurd (not-suc-le-zero h)
left_mark flags i (suc n) h inside z =
    by_eqb i n
    (λ e. omega (arith, left-suc (set flags i 1) n, left-suc flags n, left-same flags i 1 n (omega arith), was e, now e))
    (λ ne. omega (arith, left-suc (set flags i 1) n, left-suc flags n, ap bit_of (get_or-set_other flags i n 1 0 (λ e. ne (sym e))), left_mark flags i n (omega arith) inside z))
  where
    was : i ≡ n → bit_of (get_or flags n 0) ≡ 1
    was e = bit-zero (get_or flags n 0) (ap (λ (k : ℕ). get_or flags k 0) (sym e) ∙ z)

    now : i ≡ n → bit_of (get_or (set flags i 1) n 0) ≡ 0
    now e = bit_other (get_or (set flags i 1) n 0) (λ q. omega (arith, ap (λ (k : ℕ). get_or (set flags i 1) k 0) e ∙ q, get_or-set_same flags i 1 0 inside))

pub left-some : (flags : List ℕ) (i n : ℕ) → i < n → get_or flags i 0 ≡ 0 → 0 < left flags n
left-some flags i zero h z = absurd (not-suc-le-zero h)
left-some flags i (suc n) h z =
    by_eqb i n
    (λ e. omega (arith, left-suc flags n, bit-zero (get_or flags n 0) (ap (λ (k : ℕ). get_or flags k 0) (sym e) ∙ z)))
    (λ ne. omega (arith, left-suc flags n, left-some flags i n (omega arith) z))

pub left-any : (flags : List ℕ) (n : ℕ) → 0 < left flags n → (i : ℕ) × (i < n) × (get_or flags i 0 ≡ 0)
left-any flags zero h = absurd (omega (arith, left-zero flags))
left-any flags (suc n) h =
    by_eqb (get_or flags n 0) 0
    (λ e. (n, omega arith, e))
    (λ ne. let r = left-any flags n (omega (arith, left-suc flags n, bit_other (get_or flags n 0) ne)) in (r.0, omega (arith, r.1), r.2))

-- ---- the list

pub zeros : (m x : ℕ) → get_or {A = ℕ} (replicate m 0) x 0 ≡ 0
zeros zero x = refl
zeros (suc m) zero = refl
zeros (suc m) (suc x) = zeros m x

-- none is listed yet
pub listed-none : (n k : ℕ) (list : List ℕ) → k ≡ 10923 → length list ≡ 10923 → Listed n (replicate k 0) list 0
listed-none n k list e long = record {
  many = length-replicate k 0 ∙ e;
  long = long;
  each = λ p h. absurd (omega arith);
  has = λ i h ne. absurd (ne (zeros k i));
  count = omega (arith, left-all (replicate k 0) (zeros k) n);
}

module _ (n : ℕ) (flags list : List ℕ) (m : ℕ) (few : n ≤ 10923) (l : Listed n flags list m) where
  pub listed-few : m ≤ n
  listed-few = omega (arith, l.count)

  pub listed-capacity : (i : ℕ) → i < n → get_or flags i 0 ≡ 0 → m < n
  listed-capacity i h z = omega (arith, l.count, left-some flags i n h z)

  pub listed_next : (i : ℕ) → i < n → get_or flags i 0 ≡ 0 → Listed n (set flags i 1) (set list m i) (m + 1)
  listed_next i h z = record {
    many = length-set flags i 1 ∙ l.many;
    long = length-set list m i ∙ l.long;
    each = λ p q. by_eqb p m
        (λ e. subst (λ (x : ℕ). x < n) (sym (at p e)) h)
        (λ ne. subst (λ (x : ℕ). x < n) (sym (get_or-set_other list m p i 0 ne)) (l.each p (omega arith)));
    has = λ y q ne. by_eqb y i
        (λ e. (m, omega arith, at m refl ∙ sym e))
        (λ ny.
        let r = l.has y q (λ s. ne (get_or-set_other flags i y 1 0 ny ∙ s)) in
        (r.0, omega (arith, r.1), get_or-set_other list m r.0 i 0 (λ e. omega (arith, r.1)) ∙ r.2));
    count = omega (arith, l.count, left_mark flags i n h (omega (arith, l.many)) z);
  }
    where
      at : (p : ℕ) → p ≡ m → get_or (set list m i) p 0 ≡ i
      at p e = ap (λ (x : ℕ). get_or (set list m i) x 0) e ∙ get_or-set_same list m i 0 (omega (arith, l.long, listed-capacity i h z))
