-- A test that passes at all numbers below a bound passes at each of them, and the other way round: so a rule of a table is one test that antt computes.
use Rattle.base.specs.{◌≡◌, refl, sym, subst, ◌∙◌, Bool, true, false, ◌&&◌, beq, ℕ, zero, suc, ◌+◌, ◌<◌, add-zero, zero-add, add-suc}
use Rattle.base.specs.{suc-add, arith, T}
use Rattle.model.specs.{all, from, below}

and_left : (a b : Bool) → T (a && b) → T a
and_left true b t = tt
and_left false b t = t

and_right : (a b : Bool) → T (a && b) → T b
and_right true b t = t
and_right false b t = absurd t

and_both : (a b : Bool) → T a → T b → T (a && b)
and_both true b s t = t
and_both false b s t = s

module _ (p : ℕ → Bool) where
  each_from : (n i : ℕ) → T (all p (from i n)) → (k : ℕ) → k < n → T (p (i + k))
  unfolding all from
  each_from zero i t k h = absurd (omega arith)
  each_from (suc n) i t zero h = rw add-zero (and_left (p i) (all p (from (suc i) n)) t)
  each_from (suc n) i t (suc k) h =
      rw (add-suc, ← suc-add i k) (each_from n (suc i) (and_right (p i) (all p (from (suc i) n)) t) k (omega arith))

  from_each : (n i : ℕ) → ((k : ℕ) → k < n → T (p (i + k))) → T (all p (from i n))
  unfolding all from
  from_each zero i h = tt
  from_each (suc n) i h =
      and_both (p i) (all p (from (suc i) n)) (rw add-zero at (h 0 (omega arith)))
      (from_each n (suc i) (λ k l. subst (λ (m : ℕ). T (p m)) (add-suc i k ∙ sym (suc-add i k)) (h (suc k) (omega arith))))

  pub at : (n : ℕ) → T (all p (below n)) → (k : ℕ) → k < n → T (p k)
  unfolding below
  at n t k h = rw zero-add at (each_from n 0 t k h)

  pub from_at_lem : (n : ℕ) → ((k : ℕ) → k < n → T (p k)) → T (all p (below n))
  unfolding below
  from_at_lem n h = from_each n 0 (λ k l. rw zero-add (h k l))

-- a test of all pairs of a number below n and one below m
unfoldable pub pairs : (ℕ → ℕ → Bool) → ℕ → ℕ → Bool
unfolding all below
pairs p n m = all (λ (i : ℕ). all (p i) (below m)) (below n)

pub at_pair : (p : ℕ → ℕ → Bool) (n m : ℕ) → T (pairs p n m) → (i j : ℕ) → i < n → j < m → T (p i j)
unfolding pairs
at_pair p n m t i j h l = at (p i) m (at (λ (i : ℕ). all (p i) (below m)) n t i h) j l

pub beq_same : (a b : Bool) → T (beq a b) → a ≡ b
beq_same true true t = refl
beq_same true false t = absurd t
beq_same false true t = absurd t
beq_same false false t = refl

pub same-beq : (a b : Bool) → a ≡ b → T (beq a b)
same-beq a b e = rw e (itself b)
  where
    itself : (b : Bool) → T (beq b b)
    itself true = tt
    itself false = tt
