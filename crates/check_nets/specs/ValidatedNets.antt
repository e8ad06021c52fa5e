-- What is lent, and what the answer means.
use Rattle.std.specs.Prelude.{◌*◌, ◌≤◌, ◌<◌, ◌≡◌, Ok, Err}
use Rattle.base.specs.{ℕ, List, [], Memᴰ, T, length, replicate, take, get_or}
use Rattle.model.specs.{each, holds, fault, Driver, is_net, validate_nets, Verdict}
use Rattle.check_names.specs.{code}
use Rattle.check_reader.specs.{driver_words}
use Rattle.check_nets.specs.WiredNets.{Wired, Ordered}

-- the drivers' numbers stand first, and the numbers of the inputs' names
pub record Stored (inputs : List (List ℕ)) (ds : List Driver) (nets ins : List ℕ) (n count : ℕ) : Type 0 where
  pub drivers : n ≡ length ds
  pub few : n ≤ 10923
  pub first : take (8 * n) nets ≡ each driver_words ds
  pub pins : (d : Driver) → Memᴰ d ds → length d.uses ≤ 4
  pub own : (d : Driver) → Memᴰ d ds → T (is_net d.net)
  pub used : (d : Driver) → Memᴰ d ds → (u : List ℕ) → Memᴰ u d.uses → T (is_net u)
  pub counted : count ≡ length inputs
  pub twelve : count ≤ 12
  pub codes : (k : ℕ) → k < count → get_or ins k 0 ≡ code (get_or inputs k [])
  pub names : (u : List ℕ) → Memᴰ u inputs → T (is_net u)

-- what is left in an array of so many numbers: zeros after a refusal
unfoldable pub left_by : Verdict → ℕ → List ℕ → List ℕ
left_by (Ok tt) size xs = xs
left_by (Err r) size xs = replicate size 0

-- 33 and its place, with nothing left in what is lent, or the nets wired and the drivers ordered
unfoldable pub Validated : List (List ℕ) → List Driver → Verdict → List ℕ → List ℕ → Type 0
unfolding validate_nets
Validated inputs ds (Ok tt) refs order = (validate_nets inputs ds ≡ holds ds) × Wired inputs ds refs × Ordered ds refs order
Validated inputs ds (Err r) refs order = (validate_nets inputs ds ≡ fault r.number r.place) × (refs ≡ replicate 43692 0) × (order ≡ replicate 10923 0)
