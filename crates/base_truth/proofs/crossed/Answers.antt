-- `base_truth::crossed` meets its contract: a shift by 2 ^ k, at most 8, loses no row.
use Rattle.base.specs.{◌≡◌, ap, ◌∙◌, ℕ, ◌-◌, ◌*◌, ◌/◌, ◌%◌, ◌^◌, ◌<◌, arith, bit_and, bit_or, pow_mono}
use Rattle.model.specs.{phase_table}
use Rattle.base_truth.specs.{leaf_table}
use Rattle.base_truth.proofs.Tables.{power}
use Rattle.base_truth.proofs.PermutedTables.{shifted, kept, crossed-rows}
use Rattle.base_truth.proofs.crossed.Goals as goal

-- by how many rows
by : (k : ℕ) → k < 4 → (1 * 2 ^ k % 2 ^ 64 ≡ 2 ^ k) × (1 * 2 ^ k % 2 ^ 64 < 16)
by k h = let e = power k (omega arith) in (e, omega (arith, e, pow_mono {i = k} {j = 3} (omega arith)))

whole : (x : ℕ) → x < 65536 → x % 65536 ≡ x
whole x h = omega arith

pub overflow_cast-result : goal.overflow_cast-result
overflow_cast-result c = omega (arith, (by c.args.k c.requires).1)

pub overflow_shr-result : goal.overflow_shr-result
overflow_shr-result c = (by c.args.k c.requires).1

pub overflow_cast-result-2 : goal.overflow_cast-result-2
overflow_cast-result-2 c = omega (arith, (by c.args.k c.requires).1)

pub overflow_shl-result : goal.overflow_shl-result
overflow_shl-result c = (by c.args.k c.requires).1

pub returns : goal.returns
unfolding shifted phase_table
returns c =
    let t : ℕ = c.args.t in
    let k : ℕ = c.args.k in
    let p = c.pattern-p.ensures in
    let q = c.complement.ensures ∙ ap (λ (x : ℕ). 65535 - x) p in
    let n = (by k c.requires).0 in
    (λ i. bit_or (bit_and t (p i) / 2 ^ n i) (bit_and t (q i) * 2 ^ n i % 65536))
    ∙ ap (bit_or (bit_and t (leaf_table k) / 2 ^ (2 ^ k))) (whole (bit_and t (65535 - leaf_table k) * 2 ^ (2 ^ k)) (kept t k c.requires))
    ∙ crossed-rows t k c.requires (omega (arith, c.ranges.t))
