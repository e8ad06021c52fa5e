-- A driver below all that feeds it is on no cycle, where no driver is above what feeds it.
use Rattle.base.specs.{ℕ, ◌+◌, ◌*◌, ◌≤◌, ◌<◌, arith, List, get_or}
use Rattle.check_order.specs.{Pinned, FeedsAt, Back, one, more}
use Rattle.check_nets.specs.{Rising}

module _ (refs components : List ℕ) (n : ℕ) (pins : Pinned refs n) (rising : (i : ℕ) → i < n → Rising refs components 0 i) where
  inside : (i j k : ℕ) → i < n → FeedsAt refs i j k → k < n
  inside i j k h f = omega (arith, pins.most (4 * i + j) (omega (arith, f.0)), f.1)

  falls : (k i : ℕ) → i < n → Back refs k i → get_or components i 0 ≤ get_or components k 0
  falls k i h (one j f) = omega (arith, rising i h j k f)
  falls k i h (more j m f b) = omega (arith, rising i h j m f, falls k m (inside i j m h f) b)

  pub below_none : (i : ℕ) → i < n → Rising refs components 1 i → Back refs i i → ⊥
  below_none i h up (one j f) = omega (arith, up j i f)
  below_none i h up (more j m f b) = omega (arith, up j m f, falls i m (inside i j m h f) b)
