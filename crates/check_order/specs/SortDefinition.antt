-- The order that is made, computed step by step as it is made: drivers tried one by one, sweeps over all of them, and walks down from each.
use Rattle.std.specs.Prelude.{◌+◌, ◌-◌, ◌*◌, ◌&&◌}
use Rattle.base.specs.{ℕ, zero, suc, Bool, true, cond, not, List, eqb, ltb, get_or, set, replicate}

-- how many drivers are listed, which are, and the list
pub record Made : Type 0 where
  pub count : ℕ
  pub flags : List ℕ
  pub order : List ℕ

abbrev pub made : ℕ → List ℕ → List ℕ → Made
made c m o = record { count = c; flags = m; order = o }

-- pin j of driver i is fed by an input or a listed driver
unfoldable pub fed_by : List ℕ → List ℕ → ℕ → ℕ → Bool
fed_by refs flags i j = let x = get_or refs (4 * i + j) 0 in cond (ltb x 12) true (not (eqb (get_or flags (x - 12) 0) 0))

-- k pins from j on are
unfoldable pub ready_from : List ℕ → List ℕ → ℕ → ℕ → ℕ → Bool
unfolding fed_by
ready_from refs flags i j zero = true
ready_from refs flags i j (suc k) = fed_by refs flags i j && ready_from refs flags i (suc j) k

-- driver i listed, if it can be and is not yet
unfoldable pub list_if_ready : List ℕ → Made → ℕ → Made
unfolding ready_from
list_if_ready refs st i =
    let next = made (st.count + 1) (set st.flags i 1) (set st.order st.count i) in
    cond (eqb (get_or st.flags i 0) 0) (cond (ready_from refs st.flags i 0 4) next st) st

-- k drivers from i on tried
unfoldable pub sweep_from : List ℕ → ℕ → ℕ → Made → Made
unfolding list_if_ready
sweep_from refs i zero st = st
sweep_from refs i (suc k) st = sweep_from refs (suc i) k (list_if_ready refs st i)

-- sweeps until one lists none; so many at most
unfoldable pub sweep_until_stable : List ℕ → ℕ → ℕ → Made → Made
unfolding sweep_from
sweep_until_stable refs n zero st = st
sweep_until_stable refs n (suc left) st =
    let t = sweep_from refs 0 n st in
    cond (ltb st.count t.count) (sweep_until_stable refs n left t) t

-- ---- walks down

-- the drivers that a walk is at, its depth, and how many pins of each driver it passed
pub record Down : Type 0 where
  pub depth : ℕ
  pub listed : Made
  pub passed : List ℕ
  pub stack : List ℕ

abbrev pub down : ℕ → Made → List ℕ → List ℕ → Down
down d l p s = record { depth = d; listed = l; passed = p; stack = s }

-- without the depth
abbrev pub flat : Down → Down
flat w = down 0 w.listed w.passed w.stack

-- what feeds the pin at a place put on the stack, if it is a driver that the walk has not come to
unfoldable pub push_fanin_of : List ℕ → ℕ → Down → ℕ → Down
push_fanin_of refs n w at =
    let x = get_or refs at 0 in
    let next = down (w.depth + 1) w.listed w.passed (set w.stack w.depth (x - 12)) in
    cond (ltb x 12) w (cond (eqb (get_or w.passed (x - 12) 0) 0) (cond (ltb w.depth n) next w) w)

-- a step at the driver on top
unfoldable pub step_of : List ℕ → ℕ → Down → Down
unfolding push_fanin_of list_if_ready
step_of refs n w =
    let top = get_or w.stack (w.depth - 1) 0 in
    let j = get_or w.passed top 0 in
    let under = push_fanin_of refs n (down w.depth w.listed (set w.passed top (j + 1)) w.stack) (4 * top + j) in
    let up = down (w.depth - 1) (list_if_ready refs w.listed top) w.passed w.stack in
    cond (ltb top n) (cond (ltb j 4) under up) (flat w)

-- so many steps at most
unfoldable pub walk_from : List ℕ → ℕ → ℕ → Down → Down
unfolding step_of
walk_from refs n zero w = w
walk_from refs n (suc left) w = cond (eqb w.depth 0) w (walk_from refs n left (step_of refs n w))

-- the walk down from driver i, if none came to it
unfoldable pub visit_of : List ℕ → ℕ → Down → ℕ → Down
unfolding walk_from
visit_of refs n w i =
    cond (eqb (get_or w.passed i 0) 0) (walk_from refs n (5 * n) (down 1 w.listed w.passed (set w.stack 0 i))) w

-- walks from k drivers from i on
unfoldable pub dives_from : List ℕ → ℕ → ℕ → ℕ → Down → Down
unfolding visit_of
dives_from refs n i zero w = w
dives_from refs n i (suc k) w = dives_from refs n (suc i) k (flat (visit_of refs n w i))

-- the order, as far as it goes: walks from each driver, then sweeps
unfoldable pub sort_of : List ℕ → ℕ → List ℕ → List ℕ → Made
unfolding sweep_until_stable dives_from
sort_of refs n flags order =
    sweep_until_stable refs n (suc n) (dives_from refs n 0 n (down 0 (made 0 flags order) (replicate 10923 0) (replicate 10923 0))).listed
