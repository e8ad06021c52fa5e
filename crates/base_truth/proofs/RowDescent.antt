-- A table of n rows made from its last row down.
use Rattle.base.specs.{◌≡◌, sym, ap, ◌∙◌, Bool, ℕ, zero, suc, ◌+◌, ◌-◌, ◌*◌, ◌≤◌, ◌<◌, add-zero, zero-add, add-suc, suc-add, arith}
use Rattle.base.specs.{pow_mono}
use Rattle.model.specs.{one, tabulate}
use Rattle.base_truth.proofs.Tables.{tabulate-small, tabulate-same}

-- the rows of f from r on, of n
unfoldable pub rows_from : ℕ → (ℕ → Bool) → ℕ → ℕ
rows_from n f r = tabulate (λ k. f (r + k)) (n - r)

more : (f : ℕ → Bool) (r n : ℕ) → tabulate (λ k. f (r + k)) (suc n) ≡ one (f r) + 2 * tabulate (λ k. f (suc r + k)) n
unfolding tabulate
more f r n =
    let rest : tabulate (λ k. f (r + suc k)) n ≡ tabulate (λ k. f (suc r + k)) n =
    tabulate-same n (λ k. f (r + suc k)) (λ k. f (suc r + k)) (λ k h. ap f (add-suc r k ∙ sym (suc-add r k))) in
    λ i. one (f (add-zero r i)) + 2 * rest i

-- the row below
pub down : (n : ℕ) (f : ℕ → Bool) (r t : ℕ) → 0 < r → r ≤ n → t ≡ rows_from n f r → one (f (r - 1)) + 2 * t ≡ rows_from n f (r - 1)
unfolding rows_from
down n f zero t h l e = absurd (omega arith)
down n f (suc q) t h l e =
    let p : suc q - 1 ≡ q = omega arith in let m : n - q ≡ suc (n - suc q) = omega arith in
    rw (p, m, e) (sym (more f q (n - suc q)))

pub rows-small : (n : ℕ) (f : ℕ → Bool) (r : ℕ) → n ≤ 16 → 0 < r → rows_from n f r < 32768
unfolding rows_from
rows-small n f r l h = omega (arith, tabulate-small (n - r) (λ k. f (r + k)), pow_mono {i = n - r} {j = 15} (omega arith))

pub rows_none : (n : ℕ) (f : ℕ → Bool) → rows_from n f n ≡ 0
unfolding rows_from tabulate
rows_none n f = ap (tabulate (λ k. f (n + k))) (let e : n - n ≡ 0 = omega arith in e)

pub rows_whole : (n : ℕ) (f : ℕ → Bool) → rows_from n f 0 ≡ tabulate f n
unfolding rows_from
rows_whole n f = ap (tabulate (λ k. f (0 + k))) (let e : n - 0 ≡ n = omega arith in e) ∙ tabulate-same n (λ k. f (0 + k)) f (λ k h. ap f (zero-add k))
