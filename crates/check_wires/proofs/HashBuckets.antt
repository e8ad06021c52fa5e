-- Buckets walked and grown.
use Rattle.base.specs.{ℕ, None, Some, zero, suc, ◌+◌, ◌-◌, ◌%◌, ◌≤◌, ◌<◌, mod-lt, arith, ◌≡◌, refl, sym, ap, subst, ◌∙◌, List, lit<, length, get_or, set}
use Rattle.base.specs.{replicate, length-replicate, length-set, get_or-set_same, get_or-set_other}
use Rattle.theory_graph.proofs.{by_eqb}
use Rattle.check_wires.specs.{own_at, On, here, later, Falling, head_of, Chained, Found, InputOf, Looked}

-- an empty bucket has none
pub on_none : (links : List ℕ) (k : ℕ) → On links k 0 → ⊥
on_none links k (here e) = omega arith
on_none links k (later h o) = omega arith

-- what is not first is further on
pub on-next : (ws links : List ℕ) (h x : ℕ) → (own_at ws (h - 1) ≡ x → ⊥) → (k : ℕ) → own_at ws k ≡ x → On links k h → On links k (get_or links (h - 1) 0)
on-next ws links h x ne k e (here q) = absurd (ne (ap (own_at ws) (let z : h - 1 ≡ k = omega arith in z) ∙ e))
on-next ws links h x ne k e (later p o) = o

-- ---- what drives a net

module _ (ws ins heads links : List ℕ) (count i x : ℕ) (buckets : Chained ws heads links i) where
  pub looked_input : (k : ℕ) → count ≤ 12 → InputOf ins count x (Some k) → Looked ws ins count i x k
  looked_input k few a = record {
    most = let h : k < count = a.0 in omega arith;
    input = λ p. a;
    driver = λ p q. absurd (let h : k < count = a.0 in omega arith);
    none = λ e. absurd (let h : k < count = a.0 in omega arith);
  }

  pub looked_none : (g : ℕ) → InputOf ins count x None → g ≡ head_of heads x → Found ws links g x None → Looked ws ins count i x (12 + i)
  looked_none g a e w = record {
    most = omega arith;
    input = λ p. absurd (omega arith);
    driver = λ p q. absurd (omega arith);
    none = λ p. record {
      no_input = a;
      no_driver = λ j q s. w j (subst (On links j) (ap (head_of heads) s ∙ sym e) (buckets.on j q)) s;
    };
  }

-- ---- a driver more

-- no driver yet
pub chained-none : (ws : List ℕ) (a b : ℕ) → a ≡ 16381 → b ≡ 10923 → Chained ws (replicate a 0) (replicate b 0) 0
chained-none ws a b ea eb = record {
  many = length-replicate a 0 ∙ ea;
  long = length-replicate b 0 ∙ eb;
  falling = λ x. omega (arith, zeros b x);
  below = λ x. omega (arith, zeros a x);
  on = λ k h. absurd (omega arith);
}
  where
    zeros : (n x : ℕ) → get_or {A = ℕ} (replicate n 0) x 0 ≡ 0
    zeros zero x = refl
    zeros (suc n) zero = refl
    zeros (suc n) (suc x) = zeros n x

-- a bucket of drivers before i is the same after a link of driver i
on_stays : (links : List ℕ) (i v : ℕ) → Falling links → (k h : ℕ) → h ≤ i → On links k h → On (set links i v) k h
on_stays links i v f k h le (here e) = here e
on_stays links i v f k h le (later p o) =
    later p (subst (On (set links i v) k) (sym (get_or-set_other links i (h - 1) v 0 (omega arith)))
    (on_stays links i v f k (get_or links (h - 1) 0) (let z : get_or links (h - 1) 0 ≤ h - 1 = f (h - 1) in omega arith) o))

-- driver i on the bucket b of its number, before what stood there first
pub chained-next : (ws heads links : List ℕ) (i b v : ℕ) → i < 10923 → b ≡ own_at ws i % 16381 → v ≡ get_or heads b 0 → Chained ws heads links i
    → Chained ws (set heads b (i + 1)) (set links i v) (i + 1)
chained-next ws heads links i b v few eb ev c = record { many = length-set heads b (i + 1) ∙ c.many; long = length-set links i v ∙ c.long; falling = fall; below = λ x. low x; on = λ k h. all k h }
  where
    inside : i < length links
    inside = omega (arith, c.long)

    at : b < length heads
    at = omega (arith, c.many, let z : own_at ws i % 16381 < 16381 = mod-lt (own_at ws i) (lit< tt) in z)

    fall : Falling (set links i v)
    fall x =
        by_eqb x i
        (λ e. subst (λ (y : ℕ). get_or (set links i v) y 0 ≤ y) (sym e) (omega (arith, c.below b, get_or-set_same links i v 0 inside)))
        (λ n. let z : get_or links x 0 ≤ x = c.falling x in omega (arith, get_or-set_other links i x v 0 n))

    low : (x : ℕ) → get_or (set heads b (i + 1)) x 0 ≤ i + 1
    low x =
        by_eqb x b
        (λ e. subst (λ (y : ℕ). get_or (set heads b (i + 1)) y 0 ≤ i + 1) (sym e) (omega (arith, get_or-set_same heads b (i + 1) 0 at)))
        (λ n. let z : get_or heads x 0 ≤ i = c.below x in omega (arith, get_or-set_other heads b x (i + 1) 0 n))

    stays : (k : ℕ) → k < i → On (set links i v) k (head_of heads (own_at ws k))
    stays k h = on_stays links i v c.falling k (head_of heads (own_at ws k)) (c.below (own_at ws k % 16381)) (c.on k h)

    first : (k : ℕ) → k < i + 1 → own_at ws k % 16381 ≡ b → On (set links i v) k (i + 1)
    first k h e =
        by_eqb k i
        (λ q. here (ap (λ (y : ℕ). y + 1) (sym q)))
        (λ n. later (omega arith) (subst (On (set links i v) k) (again n) (stays k (omega arith))))
      where
        again : ¬ (k ≡ i) → head_of heads (own_at ws k) ≡ get_or (set links i v) (i + 1 - 1) 0
        again n = ap (λ (y : ℕ). get_or heads y 0) e ∙ sym ev ∙ sym (get_or-set_same links i v 0 inside) ∙ ap (λ (y : ℕ). get_or (set links i v) y 0) (let z : i ≡ i + 1 - 1 = omega arith in z)

    all : (k : ℕ) → k < i + 1 → On (set links i v) k (head_of (set heads b (i + 1)) (own_at ws k))
    all k h =
        by_eqb (own_at ws k % 16381) b
        (λ e. subst (On (set links i v) k) (sym (get_or-set_same heads b (i + 1) 0 at) ∙ ap (λ (y : ℕ). get_or (set heads b (i + 1)) y 0) (sym e)) (first k h e))
        (λ n. subst (On (set links i v) k) (sym (get_or-set_other heads b (own_at ws k % 16381) (i + 1) 0 n)) (stays k (by_eqb k i (λ q. absurd (n (same q))) (λ m. omega arith))))
      where
        same : k ≡ i → own_at ws k % 16381 ≡ b
        same q = ap (λ (y : ℕ). own_at ws y % 16381) q ∙ sym eb
