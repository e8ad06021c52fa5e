-- Literals: a variable and a phase, and the opposite phase.
use Rattle.base.specs.{ℕ, ◌+◌, ◌*◌, ◌/◌, ◌%◌, zero, suc, ◌≤◌, ◌<◌, arith, ◌≡◌, ◌∙◌, ap, Bool, true, false, not, cond, not-not, T, eqb}
use Rattle.base.specs.{eqb→eq, eqb_no, not-suc-le-zero, le_of_suc-le-suc, List, [], ◌∷◌, length, get_or}
use Rattle.model.specs.{var_of, negated, literal, opposite, bit, one, row_of}

pub lit_var : (b : Bool) (v : ℕ) → var_of (literal b v) ≡ v
unfolding var_of literal
lit_var true v = omega arith
lit_var false v = omega arith

pub lit_whole : (l : ℕ) → literal (negated l) (var_of l) ≡ l
unfolding var_of literal negated
lit_whole l = go (eqb (l % 2) 1) (eqb→eq (l % 2) 1) eqb_no
  where
    go : (t : Bool) → (T t → l % 2 ≡ 1) → (T (not t) → ¬ (l % 2 ≡ 1)) → cond t (2 * (l / 2) + 1) (2 * (l / 2)) ≡ l
    go true y n = let h : l % 2 ≡ 1 = y tt in omega arith
    go false y n = let h : ¬ (l % 2 ≡ 1) = n tt in omega arith

pub lit_neg : (b : Bool) (v : ℕ) → negated (literal b v) ≡ b
unfolding negated literal
lit_neg true v = ap (λ (n : ℕ). eqb n 1) (let e : (2 * v + 1) % 2 ≡ 1 = omega arith in e)
lit_neg false v = ap (λ (n : ℕ). eqb n 1) (let e : (2 * v) % 2 ≡ 0 = omega arith in e)

pub opposite-var : (l : ℕ) → var_of (opposite l) ≡ var_of l
unfolding opposite
opposite-var l = lit_var (not (negated l)) (var_of l)

pub opposite_neg : (l : ℕ) → negated (opposite l) ≡ not (negated l)
unfolding opposite
opposite_neg l = lit_neg (not (negated l)) (var_of l)

pub opposite-back : (l : ℕ) → opposite (opposite l) ≡ l
unfolding opposite
opposite-back l = cc (opposite_neg l, not-not (negated l), opposite-var l, lit_whole l)

-- ---- bits

pub bit-low : (b : Bool) (n : ℕ) → bit (one b + 2 * n) 0 ≡ b
unfolding bit one
bit-low true n = ap (λ (k : ℕ). eqb k 1) (let e : (1 + 2 * n) % 2 ≡ 1 = omega arith in e)
bit-low false n = ap (λ (k : ℕ). eqb k 1) (let e : (0 + 2 * n) % 2 ≡ 0 = omega arith in e)

pub bit_high : (b : Bool) (n i : ℕ) → bit (one b + 2 * n) (suc i) ≡ bit n i
unfolding bit one
bit_high true n i = ap (λ (k : ℕ). bit k i) (let e : (1 + 2 * n) / 2 ≡ n = omega arith in e)
bit_high false n i = ap (λ (k : ℕ). bit k i) (let e : (0 + 2 * n) / 2 ≡ n = omega arith in e)

pub one_le : (b : Bool) → one b ≤ 1
unfolding one
one_le true = omega arith
one_le false = omega arith

pub bit-row : (bs : List Bool) (i : ℕ) (d : Bool) → i < length bs → bit (row_of bs) i ≡ get_or bs i d
unfolding row_of
bit-row [] i d h = absurd (not-suc-le-zero h)
bit-row (b ∷ bs) zero d h = bit-low b (row_of bs)
bit-row (b ∷ bs) (suc i) d h = bit_high b (row_of bs) i ∙ bit-row bs i d (le_of_suc-le-suc h)
