-- `base_truth::places` meets its contract: that each number holds the places antt computes.
use Rattle.base.specs.{◌≡◌, subst, sym, Bool, ℕ, ◌*◌, ◌/◌, ◌%◌, ◌^◌, ◌<◌, arith, T, eqb, eqb→eq, get_or}
use Rattle.model.specs.{all, below, orders}
use Rattle.base_truth.specs.{places_of}
use Rattle.base_truth.proofs.ComputedTables.{at}
use Rattle.base_truth.proofs.places.Goals as goal

right : ℕ → ℕ → ℕ → Bool
right x j o = eqb (x / 2 ^ (2 * o) % 4) (get_or (places_of o) j 0)

-- the number of place j
Holds : ℕ → ℕ → Type 0
Holds x j = (o : ℕ) → o < 24 → x / 2 ^ (2 * o) % 4 ≡ get_or (places_of o) j 0

held : (x j : ℕ) → T (all (right x j) (below 24)) → Holds x j
unfolding right Holds
held x j t o h = eqb→eq (x / 2 ^ (2 * o) % 4) (get_or (places_of o) j 0) (at (right x j) 24 t o h)

pub returns-in-0 : goal.returns-in-0
unfolding right all below orders Holds
returns-in-0 c = subst (Holds 281452064624640) (sym c.in-0.is) (held 281452064624640 0 tt)

pub returns-in-1 : goal.returns-in-1
unfolding right all below orders Holds
returns-in-1 c = subst (Holds 181485201657765) (sym c.in-1.is) (held 181485201657765 1 tt)

pub returns-in-2 : goal.returns-in-2
unfolding right all below orders Holds
returns-in-2 c = subst (Holds 79803940923870) (sym c.in-2.is) (held 79803940923870 2 tt)

pub returns-in_default : goal.returns-in_default
unfolding right all below orders Holds
returns-in_default c =
    let r = c.in_default.in_default-own.rest in
    let e : 3 ≡ c.args.j = omega (arith, r, c.requires) in
    subst (Holds 20208746215035) e (held 20208746215035 3 tt)
