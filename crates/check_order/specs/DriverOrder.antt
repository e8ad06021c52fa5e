-- Drivers listed one by one, each marked as it is: the order of the drivers, and the walk back from one. Of the drivers only the numbers at their pins are
-- known, four each: from 12 on that of a driver.
use Rattle.std.specs.Prelude.{◌+◌, ◌*◌, ◌≤◌, ◌<◌, ◌≡◌, ◌⊎◌}
use Rattle.base.specs.{ℕ, zero, suc, Bool, true, false, cond, List, eqb, length, get_or}
use Rattle.check_order.specs.declared.Walk.{Walk}
use Rattle.check_order.specs.SortDefinition.{fed_by, ready_from}

-- the numbers at the pins of n drivers
pub record Pinned (refs : List ℕ) (n : ℕ) : Type 0 where
  pub few : n ≤ 10923
  pub most : (a : ℕ) → a < 4 * n → get_or refs a 0 < 12 + n

-- driver k feeds driver i
abbrev pub FeedsAt : List ℕ → ℕ → ℕ → ℕ → Type 0
FeedsAt refs i j k = (j < 4) × (get_or refs (4 * i + j) 0 ≡ 12 + k)

-- "directly or through others"
pub data Back (refs : List ℕ) (k : ℕ) : ℕ → Type 0 where
  one : {i : ℕ} (j : ℕ) → FeedsAt refs i j k → Back refs k i
  more : {i : ℕ} (j m : ℕ) → FeedsAt refs i j m → Back refs k m → Back refs k i

-- how many of the first n are not marked
unfoldable pub left : List ℕ → ℕ → ℕ
left flags zero = 0
left flags (suc n) = cond (eqb (get_or flags n 0) 0) 1 0 + left flags n

-- m of n drivers are listed: those that are marked
pub record Listed (n : ℕ) (flags list : List ℕ) (m : ℕ) : Type 0 where
  pub many : length flags ≡ 10923
  pub long : length list ≡ 10923
  pub each : (p : ℕ) → p < m → get_or list p 0 < n
  pub has : (i : ℕ) → i < n → (get_or flags i 0 ≡ 0 → ⊥) → (p : ℕ) × (p < m) × (get_or list p 0 ≡ i)
  pub count : m + left flags n ≡ n

-- ---- the order

-- all that feeds driver i is marked
abbrev pub Ready : List ℕ → List ℕ → ℕ → Type 0
Ready refs flags i = (j k : ℕ) → FeedsAt refs i j k → get_or flags k 0 ≡ 0 → ⊥

-- something that feeds it is not
abbrev pub Stuck : List ℕ → List ℕ → ℕ → Type 0
Stuck refs flags i = (j : ℕ) × (k : ℕ) × FeedsAt refs i j k × (get_or flags k 0 ≡ 0)

-- pin j of driver i is fed by an input or a marked driver, or not
pub record Fed (refs flags : List ℕ) (i j : ℕ) (r : Bool) : Type 0 where
  pub is : r ≡ fed_by refs flags i j
  pub fed : r ≡ true → (k : ℕ) → FeedsAt refs i j k → get_or flags k 0 ≡ 0 → ⊥
  pub waits : r ≡ false → Stuck refs flags i

-- a driver can be listed, or not
pub record Tried (refs flags : List ℕ) (i : ℕ) (r : Bool) : Type 0 where
  pub is : r ≡ ready_from refs flags i 0 4
  pub ready : r ≡ true → Ready refs flags i
  pub stuck : r ≡ false → Stuck refs flags i

-- what feeds a listed driver is listed before it
pub record Sorted (refs : List ℕ) (n : ℕ) (flags order : List ℕ) (m : ℕ) : Type 0 where
  pub listed : Listed n flags order m
  pub behind : (p j k : ℕ) → p < m → FeedsAt refs (get_or order p 0) j k → (q : ℕ) × (q < p) × (get_or order q 0 ≡ k)

-- the first t drivers were tried: where none was listed, each of them that is not marked is stuck
pub record SweepResult (refs : List ℕ) (n t m : ℕ) (before : List ℕ) (r : ℕ) (flags order : List ℕ) : Type 0 where
  pub sorted : Sorted refs n flags order r
  pub more : m ≤ r
  pub same : r ≡ m → flags ≡ before
  pub stuck : r ≡ m → (i : ℕ) → i < t → get_or before i 0 ≡ 0 → Stuck refs before i

-- driver i was tried
pub record ListAttempted (refs : List ℕ) (n i m : ℕ) (before : List ℕ) (r : ℕ) (flags order : List ℕ) : Type 0 where
  pub sorted : Sorted refs n flags order r
  pub more : m ≤ r
  pub same : r ≡ m → flags ≡ before
  pub stuck : r ≡ m → get_or before i 0 ≡ 0 → Stuck refs before i

-- all were listed that can be
pub record Stable (refs : List ℕ) (n r : ℕ) (flags order : List ℕ) : Type 0 where
  pub sorted : Sorted refs n flags order r
  pub stuck : (i : ℕ) → i < n → get_or flags i 0 ≡ 0 → Stuck refs flags i

-- the order so far, and how deep the walk is
pub record Walking (refs : List ℕ) (n : ℕ) (r : Walk) (flags order : List ℕ) : Type 0 where
  pub sorted : Sorted refs n flags order r.count
  pub deep : r.depth ≤ n

-- ---- the walk back from driver i

-- driver k feeds driver i, or is it
abbrev pub Behind : List ℕ → ℕ → ℕ → Type 0
Behind refs i k = (k ≡ i) ⊎ Back refs k i

-- what is listed does
pub record Reached (refs : List ℕ) (n i : ℕ) (seen queue : List ℕ) (m : ℕ) : Type 0 where
  pub listed : Listed n seen queue m
  pub back : (p : ℕ) → p < m → Behind refs i (get_or queue p 0)

-- pin j of driver k leads to what is listed, and not to driver i
abbrev pub Passed : List ℕ → ℕ → List ℕ → ℕ → ℕ → Type 0
Passed refs i seen k j = (y : ℕ) → FeedsAt refs k j y → (get_or seen y 0 ≡ 0 → ⊥) × (y ≡ i → ⊥)

-- what was listed stays so, at its place
pub record Grown (m : ℕ) (seen queue : List ℕ) (r : ℕ) (seen' queue' : List ℕ) : Type 0 where
  pub more : m ≤ r
  pub marked : (y : ℕ) → (get_or seen y 0 ≡ 0 → ⊥) → get_or seen' y 0 ≡ 0 → ⊥
  pub unchanged : (p : ℕ) → p < m → get_or queue' p 0 ≡ get_or queue p 0

-- pins of driver k were passed, the first t, or, at r ≡ 0, one leads to driver i
pub record Spread (refs : List ℕ) (n i k t m : ℕ) (seen queue : List ℕ) (r : ℕ) (seen' queue' : List ℕ) : Type 0 where
  pub found : r ≡ 0 → (j : ℕ) × FeedsAt refs k j i
  pub reached : (r ≡ 0 → ⊥) → Reached refs n i seen' queue' r
  pub grown : (r ≡ 0 → ⊥) → Grown m seen queue r seen' queue'
  pub passed : (r ≡ 0 → ⊥) → (j : ℕ) → j < t → Passed refs i seen' k j

-- pin j of driver k was passed
pub record Stepped (refs : List ℕ) (n i k j m : ℕ) (seen queue : List ℕ) (r : ℕ) (seen' queue' : List ℕ) : Type 0 where
  pub found : r ≡ 0 → FeedsAt refs k j i
  pub reached : (r ≡ 0 → ⊥) → Reached refs n i seen' queue' r
  pub grown : (r ≡ 0 → ⊥) → Grown m seen queue r seen' queue'
  pub passed : (r ≡ 0 → ⊥) → Passed refs i seen' k j

-- whether driver i feeds itself
pub record FeedsItself (refs : List ℕ) (i : ℕ) (r : Bool) : Type 0 where
  pub cycle : r ≡ true → Back refs i i
  pub none : r ≡ false → Back refs i i → ⊥

-- the same of a driver that is not marked
pub record LeftFeeds (refs flags : List ℕ) (i : ℕ) (r : Bool) : Type 0 where
  pub cycle : r ≡ true → Back refs i i
  pub none : r ≡ false → get_or flags i 0 ≡ 0 → Back refs i i → ⊥

-- the first driver not marked that feeds itself, n where there is none
pub record Cyclic (refs : List ℕ) (n : ℕ) (flags : List ℕ) (r : ℕ) : Type 0 where
  pub most : r ≤ n
  pub before : (i : ℕ) → i < r → get_or flags i 0 ≡ 0 → Back refs i i → ⊥
  pub cycle : r < n → Back refs r r
