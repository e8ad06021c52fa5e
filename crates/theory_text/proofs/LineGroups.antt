-- A number written in groups of seven bits is the difference that is read, if it takes two bytes at most; a longer one is refusal 20.
use Rattle.base.specs.{ℕ, zero, suc, ◌+◌, ◌-◌, ◌*◌, ◌/◌, ◌%◌, ◌≤◌, ◌<◌, arith, ◌≡◌, sym, ◌∙◌, ap, subst, Bool, true, false, cond, List, []}
use Rattle.base.specs.{◌∷◌, ◌++◌, ltb, ltb→lt, nltb→le, length, le-ltb, lt-ltb}
use Rattle.model.specs.{holds, fault, unless, difference}
use Rattle.theory_graph.proofs.{by_bool}

-- "groups of seven bits, lowest first, the top bit set on all but the last byte"; each step takes one group
groups_from : ℕ → ℕ → List ℕ
groups_from zero n = []
groups_from (suc fuel) n = let more = (128 + n % 128) ∷ groups_from fuel (n / 128) in cond (ltb n 128) (n ∷ []) more

-- the bytes of a number
pub groups_of : ℕ → List ℕ
groups_of n = groups_from (suc (suc n)) n

-- a first byte without the top bit is the difference
one_byte : (at b : ℕ) (rest : List ℕ) → ltb b 128 ≡ true → difference at (b ∷ rest) ≡ holds (record { number = b; behind = at + 1 })
unfolding difference unless
one_byte at b [] e = ap (λ (t : Bool). unless t 20 at (holds (record { number = b; behind = at + 1 }))) e
one_byte at b (c ∷ rest) e = cc

-- the second byte decides where the first has it
two_bytes : (at b c : ℕ) (rest : List ℕ) → ltb b 128 ≡ false
    → difference at (b ∷ c ∷ rest) ≡ unless (ltb c 128) 20 at (holds (record { number = b - 128 + 128 * c; behind = at + 2 }))
unfolding difference
two_bytes at b c rest e = cc

by_ltb : {X : Type 0} (a b : ℕ) → (ltb a b ≡ true → a < b → X) → (ltb a b ≡ false → b ≤ a → X) → X
by_ltb {X} a b yes' no' = by_bool (ltb a b) (λ e. yes' e ((rw e at (ltb→lt a b)) tt)) (λ q. no' q ((rw q at (nltb→le a b)) tt))

last_group : (fuel n : ℕ) → n < 128 → groups_from (suc fuel) n ≡ n ∷ []
unfolding groups_from
last_group fuel n h = ap (λ (t : Bool). cond t (n ∷ []) ((128 + n % 128) ∷ groups_from fuel (n / 128))) (lt-ltb n 128 h)

more-groups : (fuel n : ℕ) → 128 ≤ n → groups_from (suc fuel) n ≡ (128 + n % 128) ∷ groups_from fuel (n / 128)
unfolding groups_from
more-groups fuel n h = ap (λ (t : Bool). cond t (n ∷ []) ((128 + n % 128) ∷ groups_from fuel (n / 128))) (le-ltb n 128 h)

-- what is written in one byte or two is read, with the place behind it
pub difference-reads : (at n : ℕ) (rest : List ℕ) → n < 16384 → difference at (groups_of n ++ rest) ≡ holds (record { number = n; behind = at + length (groups_of n) })
unfolding groups_of unless
difference-reads at n rest h = by_ltb n 128 (λ e. λ l. subst of (sym (last_group (suc n) n l))
    (one_byte at n rest (lt-ltb n 128 l))) (λ e. λ l. let q : n / 128 < 128 = omega arith in subst of
    (sym (more-groups (suc n) n l ∙ ap (λ (w : List ℕ). (128 + n % 128) ∷ w) (last_group n (n / 128) q))) (two_bytes at (128 + n % 128)
    (n / 128) rest (le-ltb (128 + n % 128) 128 (omega arith)) ∙ ap
    (λ (t : Bool). unless t 20 at (holds (record { number = 128 + n % 128 - 128 + 128 * (n / 128); behind = at + 2 })))
    (lt-ltb (n / 128) 128 q) ∙ ap (λ (k : ℕ). holds (record { number = k; behind = at + 2 })) (omega arith)))
  where
    of : List ℕ → Type 0
    of w = difference at (w ++ rest) ≡ holds (record { number = n; behind = at + length w })

-- "20 when a difference takes more than two bytes"
pub difference-long : (at n : ℕ) (rest : List ℕ) → 16384 ≤ n → difference at (groups_of n ++ rest) ≡ fault 20 at
unfolding groups_of unless
difference-long at n rest h = ap (λ (w : List ℕ). difference at (w ++ rest))
    (more-groups (suc n) n (omega arith) ∙ ap (λ (w : List ℕ). (128 + n % 128) ∷ w) (more-groups n (n / 128) (omega arith)))
    ∙ two_bytes at (128 + n % 128) (128 + n / 128 % 128) (groups_from n (n / 128 / 128) ++ rest) (le-ltb (128 + n % 128) 128 (omega arith))
    ∙ ap (λ (t : Bool). unless t 20 at (holds (record { number = 128 + n % 128 - 128 + 128 * (128 + n / 128 % 128); behind = at + 2 })))
    (le-ltb (128 + n / 128 % 128) 128 (omega arith))
