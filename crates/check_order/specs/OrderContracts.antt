-- What the functions that make the order ask, and what they leave in marks and order.
use Rattle.std.specs.Prelude.{◌≡◌, ◌<◌}
use Rattle.base.specs.{List, ℕ, suc}
use Rattle.check_order.specs.SortDefinition.{made, list_if_ready, sweep_from, sweep_until_stable, down, flat, step_of, visit_of, sort_of}
use Rattle.check_order.specs.DriverOrder.{Pinned, Sorted, ListAttempted, SweepResult, Stable, Walking}
use Rattle.check_order.specs.declared.Walk.{Walk}

-- what is asked to list drivers
abbrev pub Arrangeable : List ℕ → ℕ → List ℕ → List ℕ → ℕ → Type 0
Arrangeable refs n flags order m = Pinned refs n × Sorted refs n flags order m

-- to list driver i
abbrev pub Listable : List ℕ → ℕ → List ℕ → List ℕ → ℕ → ℕ → Type 0
Listable refs n flags order m i = Pinned refs n × (i < n) × Sorted refs n flags order m

-- to go on with a walk
abbrev pub Walkable : List ℕ → ℕ → Walk → List ℕ → List ℕ → Type 0
Walkable refs n w flags order = Pinned refs n × Walking refs n w flags order × (0 < w.depth)

-- a step of a walk
abbrev pub WalkStep : List ℕ → ℕ → Walk → List ℕ → List ℕ → List ℕ → List ℕ → Walk → List ℕ → List ℕ → List ℕ → List ℕ → Type 0
WalkStep refs n w flags order passed stack r flags' order' passed' stack' = Walking refs n r flags' order' × (down r.depth (made r.count flags' order') passed' stack' ≡ step_of refs n (down w.depth (made w.count flags order) passed stack))

-- the walk from driver i
abbrev pub WalkDone : List ℕ → ℕ → ℕ → ℕ → List ℕ → List ℕ → List ℕ → List ℕ → ℕ → List ℕ → List ℕ → List ℕ → List ℕ → Type 0
WalkDone refs n m i flags order passed stack r flags' order' passed' stack' = Sorted refs n flags' order' r × (down 0 (made r flags' order') passed' stack' ≡ flat (visit_of refs n (down 0 (made m flags order) passed stack) i))

-- driver i tried
abbrev pub DriverTried : List ℕ → ℕ → ℕ → ℕ → List ℕ → List ℕ → ℕ → List ℕ → List ℕ → Type 0
DriverTried refs n i m flags order r flags' order' = ListAttempted refs n i m flags r flags' order' × (made r flags' order' ≡ list_if_ready refs (made m flags order) i)

-- every driver tried once
abbrev pub AllTried : List ℕ → ℕ → ℕ → List ℕ → List ℕ → ℕ → List ℕ → List ℕ → Type 0
AllTried refs n m flags order r flags' order' = SweepResult refs n n m flags r flags' order' × (made r flags' order' ≡ sweep_from refs 0 n (made m flags order))

-- drivers tried until none is added
abbrev pub TriedToEnd : List ℕ → ℕ → ℕ → List ℕ → List ℕ → ℕ → List ℕ → List ℕ → Type 0
TriedToEnd refs n m flags order r flags' order' = Stable refs n r flags' order' × (made r flags' order' ≡ sweep_until_stable refs n (suc n) (made m flags order))

-- the whole order
abbrev pub OrderMade : List ℕ → ℕ → List ℕ → List ℕ → ℕ → List ℕ → List ℕ → Type 0
OrderMade refs n flags order r flags' order' = Stable refs n r flags' order' × (made r flags' order' ≡ sort_of refs n flags order)
