-- What is put on the match table for a cell, from the highest variant down.
--     order-begun         the masks that a cell does not have are not tried
--     order-next          one variant more of an order
--     runs_next           one run of orders more
use Rattle.base.specs.{ℕ, ◌+◌, ◌-◌, ◌*◌, ◌%◌, ◌^◌, ◌<◌, ◌≤◌, ◌≡◌, sym, ap, ap₂, ◌∙◌, List, arith, pow_mono}
use Rattle.base_truth.specs.{places_of, variant_table, permuted}
use Rattle.base_truth.proofs.{permuted_variant}
use Rattle.cells_matching.specs.{run_of, fresh, pick_of, masked, word_of, pushed, prepended, passed}
use Rattle.cells_matching.proofs.FirstVariants.{line-is, order_is, mask_is, fresh-one, fresh-mask, fresh-run, run_fits}
use Rattle.cells_matching.proofs.BucketLinks.{prepended-fresh, passed-down, passed_stale, passed_append}
use Rattle.cells_matching.proofs.BucketWalk.{masked-word}

module _ (pins table line o : ℕ) (four : pins ≤ 4) (order : o < 24) (s : List ℕ) where
  pub order-begun : (m : ℕ) → m ≡ 2 ^ pins → s ≡ passed pins table (384 * line + 16 * o + m) (16 - m) s
  order-begun m e =
      sym (passed_stale pins table (384 * line + 16 * o + m) (16 - m) s (λ i h.
      let a : 384 * line + 16 * o + m + i ≡ 384 * line + 16 * o + (m + i) = omega arith in
      ap (fresh pins) a ∙ fresh-mask line o (m + i) order (omega arith) pins (omega arith)))

  module _ (first : o % run_of pins ≡ 0) (word : ℕ) (worded : word ≡ pick_of pins (places_of o) 0 + 262144 * line) (t : ℕ) (tabled : t ≡ variant_table pins table (places_of o) 0) where
    -- a variant that is tried
    put_one : (i : ℕ) (z : List ℕ) → i < 2 ^ pins
        → pushed (permuted (places_of o) i t) (384 * line + 16 * o + i) (masked word i) z ≡ prepended pins table (384 * line + 16 * o + i) z
    unfolding word_of
    put_one i z h =
        let small : i < 16 = omega (arith, pow_mono {i = pins} {j = 4} four) in
        let x : ℕ = 384 * line + 16 * o + i in
        sym (prepended-fresh pins table x (permuted (places_of o) i t) (masked word i) z (fresh-one line o i order small pins h first)
        (ap (permuted (places_of o) i) tabled ∙ permuted_variant pins table o i four order h
        ∙ ap₂ (λ (q m : ℕ). variant_table pins table (places_of q) m) (sym (order_is line o i order small)) (sym (mask_is line o i order small)))
        (ap (λ (w : ℕ). masked w i) worded ∙ masked-word pins (places_of o) i line h
        ∙ (λ j. pick_of pins (places_of (sym (order_is line o i order small) j)) (sym (mask_is line o i order small) j) + 262144 * sym (line-is line o i order small) j)))

    pub order-next : (m : ℕ) (z : List ℕ) → 0 < m → m ≤ 2 ^ pins → z ≡ passed pins table (384 * line + 16 * o + m) (16 - m) s
        → pushed (permuted (places_of o) (m - 1) t) (384 * line + 16 * o + (m - 1)) (masked word (m - 1)) z ≡ passed pins table (384 * line + 16 * o + (m - 1)) (16 - (m - 1)) s
    order-next m z l h e =
        put_one (m - 1) z (omega arith) ∙ ap (prepended pins table (384 * line + 16 * o + (m - 1))) e
        ∙ passed-down pins table (384 * line + 16 * o) m 16 s l (omega (arith, pow_mono {i = pins} {j = 4} four))

pub runs_next : (pins table line o : ℕ) (s : List ℕ) → 0 < o → o ≤ 24 → o % run_of pins ≡ 0
    → passed pins table (384 * line + 16 * (o - run_of pins)) 16 (passed pins table (384 * line + 16 * o) (384 - 16 * o) s)
    ≡ passed pins table (384 * line + 16 * (o - run_of pins)) (384 - 16 * (o - run_of pins)) s
runs_next pins table line o s l h e =
    let fit = run_fits pins o l e in
    let first : ℕ = o - run_of pins in
    let x : ℕ = 384 * line + 16 * first in
    let k : ℕ = 16 * run_of pins - 16 in
    let n : ℕ = 384 - 16 * o in
    let all : 384 - 16 * first ≡ 16 + (k + n) = omega (arith, fit.0, fit.1) in
    let end : x + 16 + k ≡ 384 * line + 16 * o = omega (arith, fit.0, fit.1) in
    sym (
    ap (λ (m : ℕ). passed pins table x m s) all ∙ passed_append pins table x 16 (k + n) s
    ∙ ap (passed pins table x 16) (passed_append pins table (x + 16) k n s
    ∙ passed_stale pins table (x + 16) k (passed pins table (x + 16 + k) n s) (λ i f.
    let a : x + 16 + i ≡ 384 * line + 16 * first + (16 + i) = omega arith in
    ap (fresh pins) a ∙ fresh-run pins line first (16 + i) fit.2 (omega (arith, fit.1)) (omega arith) (omega (arith, fit.0)))
    ∙ ap (λ (y : ℕ). passed pins table y n s) end)
    )
