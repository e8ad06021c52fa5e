-- What is counted at the places is what is counted of the gates.
use Rattle.base.specs.{ℕ, zero, suc, ◌+◌, ◌*◌, ◌≤◌, ◌<◌, le_refl, zero-add, arith, ◌≡◌, refl, ◌∙◌, ap, cond, List, [], ◌∷◌, map, Memᴰ}
use Rattle.base.specs.{Memᴰ-head, Memᴰ-tail, eqb, eqb→eq, eqb_refl, length, take, get_or, length-take-le}
use Rattle.model.specs.{from, sum, times, add_each}
use Rattle.theory_graph.proofs.{by_eqb, map_same, by_bool}

-- ---- sums

added-sum : (f : ℕ → ℕ) (k : ℕ) (ns : List ℕ) → sum (add_each f k ns) ≡ sum ns + sum (map f (from k (length ns)))
unfolding add_each sum from
added-sum f k [] = refl
added-sum f k (n ∷ ns) = omega (arith, added-sum f (suc k) ns)

take-added : (f : ℕ → ℕ) (n k : ℕ) (ns : List ℕ) → take n (add_each f k ns) ≡ add_each f k (take n ns)
unfolding add_each
take-added f zero k ns = refl
take-added f (suc n) k [] = refl
take-added f (suc n) k (m ∷ ms) = ap (λ (xs : List ℕ). (m + f k) ∷ xs) (take-added f n (suc k) ms)

-- the first n places
pub added-first : (f : ℕ → ℕ) (n : ℕ) (ns : List ℕ) → n ≤ length ns → sum (take n (add_each f 0 ns)) ≡ sum (take n ns) + sum (map f (from 0 n))
added-first f n ns h = cc (take-added f n 0 ns, added-sum f 0 (take n ns), length-take-le n ns h)

pub added-length : (f : ℕ → ℕ) (k : ℕ) (ns : List ℕ) → length (add_each f k ns) ≡ length ns
unfolding add_each
added-length f k [] = refl
added-length f k (n ∷ ns) = ap suc (added-length f (suc k) ns)

pub added-at : (f : ℕ → ℕ) (k : ℕ) (ns : List ℕ) (i : ℕ) → get_or (add_each f k ns) i 0 ≤ get_or ns i 0 + f (k + i)
unfolding add_each
added-at f k [] i = omega arith
added-at f k (n ∷ ns) zero = let z : k + 0 ≡ k = omega arith in omega (arith, ap f z)
added-at f k (n ∷ ns) (suc i) = let z : k + suc i ≡ suc k + i = omega arith in omega (arith, ap f z, added-at f (suc k) ns i)

-- each place, within the list
pub added_is : (f : ℕ → ℕ) (k : ℕ) (ns : List ℕ) (i : ℕ) → i < length ns → get_or (add_each f k ns) i 0 ≡ get_or ns i 0 + f (k + i)
unfolding add_each
added_is f k [] i h = absurd (omega arith)
added_is f k (n ∷ ns) zero h = let z : k ≡ k + 0 = omega arith in ap (λ (j : ℕ). n + f j) z
added_is f k (n ∷ ns) (suc i) h = let z : suc k + i ≡ k + suc i = omega arith in added_is f (suc k) ns i (omega arith) ∙ ap (λ (j : ℕ). get_or ns i 0 + f j) z

sum-plus : (f h : ℕ → ℕ) (ns : List ℕ) → sum (map (λ (i : ℕ). f i + h i) ns) ≡ sum (map f ns) + sum (map h ns)
unfolding sum
sum-plus f h [] = refl
sum-plus f h (n ∷ ns) = omega (arith, sum-plus f h ns)

sum-zero : (k n : ℕ) (f : ℕ → ℕ) → ((i : ℕ) → k ≤ i → f i ≡ 0) → sum (map f (from k n)) ≡ 0
unfolding sum from
sum-zero k zero f h = refl
sum-zero k (suc n) f h = let a : f k ≡ 0 = h k (le_refl k) in omega (arith, sum-zero (suc k) n f (λ i q. h i (omega arith)))

-- a weight at one place
weighed : ℕ → ℕ → ℕ → ℕ
weighed m a i = cond (eqb i m) a 0

weighed_past : (m a i : ℕ) → ¬ (i ≡ m) → weighed m a i ≡ 0
unfolding weighed
weighed_past m a i h = by_bool (eqb i m) (λ e. rw e (absurd (h ((rw e at (eqb→eq i m)) tt)))) (λ q. rw q)

one_weight : (m a n k : ℕ) → k ≤ m → m < k + n → sum (map (weighed m a) (from k n)) ≡ a
unfolding sum from
one_weight m a zero k h b = absurd (omega arith)
one_weight m a (suc n) k h b = by_eqb k m (λ e. let p : weighed m a k ≡ a = ap (weighed m a) e
    ∙ (unfold weighed in by_bool (eqb m m) (λ e. rw e) (λ q. rw q (absurd (rw q at (eqb_refl m))))) in omega
    (arith, p, sum-zero (suc k) n (weighed m a) (λ i q. weighed_past m a i (λ z. omega arith))))
    (λ d. let p : weighed m a k ≡ 0 = weighed_past m a k d in omega (arith, p, one_weight m a n (suc k) (omega arith) (omega arith)))

suc_mul : (a b : ℕ) → suc a * b ≡ b + a * b
suc_mul a b = omega arith

pub weights : (w : ℕ → ℕ) (n : ℕ) (used : List ℕ) → ((i : ℕ) → Memᴰ i used → i < n) → sum (map (λ (i : ℕ). times i used * w i) (from 0 n)) ≡ sum (map w used)
unfolding sum
weights w n [] h = sum-zero 0 n (λ (i : ℕ). times i [] * w i) (λ i q. unfold times in (let e : 0 * w i ≡ 0 = omega arith in e))
weights w n (m ∷ ms) h = cc (
  map_same (λ (i : ℕ). times i (m ∷ ms) * w i) (λ (i : ℕ). weighed m (w m) i + times i ms * w i) (from 0 n)
      (λ i q. (unfold times weighed in by_bool (eqb i m) (λ e. cc (suc_mul (times i ms) (w i), (rw e at (eqb→eq i m)) tt))
      (λ q. cc (zero-add (times i ms * w i))))),
  sum-plus (weighed m (w m)) (λ (i : ℕ). times i ms * w i) (from 0 n),
  one_weight m (w m) n 0 (omega arith)
      (let q : m < n = h m (Memᴰ-head refl) in omega arith),
  weights w n ms (λ i q. h i (Memᴰ-tail q)),
)

sum_ones : (ns : List ℕ) → sum (map (λ (_ : ℕ). 1) ns) ≡ length ns
unfolding sum
sum_ones [] = refl
sum_ones (n ∷ ns) = omega (arith, sum_ones ns)

-- the gates at the places are all gates
pub ones : (n : ℕ) (used : List ℕ) → ((i : ℕ) → Memᴰ i used → i < n) → sum (map (λ (i : ℕ). times i used) (from 0 n)) ≡ length used
ones n used h = cc (
  map_same (λ (i : ℕ). times i used) (λ (i : ℕ). times i used * 1) (from 0 n)
      (λ i q. let e : times i used ≡ times i used * 1 = omega arith in e),
  weights (λ (_ : ℕ). 1) n used h,
  sum_ones used,
)

pub times-low : (i : ℕ) (used : List ℕ) → times i used ≤ length used
unfolding times
times-low i [] = omega arith
times-low i (m ∷ ms) = by_bool (eqb i m) (λ e. rw e (omega (arith, times-low i ms))) (λ q. rw q (omega (arith, times-low i ms)))
