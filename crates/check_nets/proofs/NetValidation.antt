-- The three parts of 33 together, by the numbers that the passes leave.
use Rattle.std.specs.Prelude.{Ok}
use Rattle.base.specs.{ℕ, ◌*◌, ◌≤◌, ◌<◌, arith, ◌≡◌, sym, ap, subst, ◌∙◌, List, length, get_or}
use Rattle.model.specs.{Read, fault, Driver, validate_nets}
use Rattle.check_wires.specs.{Once, Rows, First, twice_driven, once, Referred}
use Rattle.check_order.specs.{Pinned, Stable, Cyclic}
use Rattle.check_nets.specs.{no_driver, Stored}
use Rattle.check_nets.specs.ValidatedNets.{Validated}
use Rattle.check_nets.proofs.DriverCodes.{stored-long, stored-offset}
use Rattle.check_nets.proofs.FirstLines.{validated-twice, validated-undriven, validated-cycle, validated-holds}
use Rattle.check_nets.proofs.DrivenNets.{twice-at, twice_nowhere, undriven-at, undriven_nowhere, wired}
use Rattle.check_nets.proofs.CycleSearch.{pinned, cycle-at, cycle_nowhere, apart, all_apart, ordered, cycle-there}

module _ (inputs : List (List ℕ)) (ds : List Driver) (nets ins : List ℕ) (n count : ℕ) (st : Stored inputs ds nets ins n count) where
  -- a line's place is its first number
  located : (r : ℕ) → r < n → validate_nets inputs ds ≡ fault 33 (get_or ds r no_driver).offset → validate_nets inputs ds ≡ fault 33 (get_or nets (8 * r) 0)
  located r h e = e ∙ ap (λ (k : ℕ). let r : Read (List Driver) = fault 33 k in r) (sym (stored-offset ds nets n st.drivers st.first r h))

  pub line-inside : (r : ℕ) → r < n → 8 * r < length nets
  line-inside r h = omega (arith, stored-long ds nets n st.drivers st.first)

  module _ (f : ℕ) (before refs : List ℕ) where
    refused_by : (w : List ℕ) → First nets ins count n f w → f < n → validate_nets inputs ds ≡ fault 33 (get_or nets (8 * f) 0)
    refused_by w (twice_driven lt o) h = located f h (validated-twice inputs ds (get_or ds f no_driver).offset (twice-at inputs ds nets ins n count st f h o))
    refused_by w (once o rows) h =
        located f h (validated-undriven inputs ds (get_or ds f no_driver).offset (twice_nowhere inputs ds nets ins n count st o) (undriven-at inputs ds nets ins n count st w f h rows))

    pub refused : Referred nets ins count n f before refs → f < n → validate_nets inputs ds ≡ fault 33 (get_or nets (8 * f) 0)
    refused g h = refused_by g.written g.first h

    passed_by : (w : List ℕ) → First nets ins count n f w → n ≤ f → Once nets ins count n n × Rows nets ins count n n w
    passed_by w (twice_driven lt o) le = absurd (omega arith)
    passed_by w (once o rows) le = (o, subst (λ (x : ℕ). Rows nets ins count n x w) (let e : f ≡ n = omega (arith, rows.most) in e) rows)

    passed : Referred nets ins count n f before refs → n ≤ f → Once nets ins count n n × Rows nets ins count n n refs
    passed g le = let p = passed_by g.written g.first le in (p.0, subst (Rows nets ins count n n) (sym (g.whole le)) p.1)

    module _ (g : Referred nets ins count n f before refs) (le : n ≤ f) where
      pub pinned_all : Pinned refs n
      pinned_all = let p = passed g le in pinned inputs ds nets ins n count st refs p.0 p.1

      module _ (r : ℕ) (flags order : List ℕ) (s : Stable refs n r flags order) where
        pub accepted : r ≡ n → Validated inputs ds (Ok tt) refs order
        unfolding Validated
        accepted e =
            let p = passed g le in (
              validated-holds inputs ds (twice_nowhere inputs ds nets ins n count st p.0) (undriven_nowhere inputs ds nets ins n count st refs p.1)
                  (cycle_nowhere inputs ds nets ins n count st refs p.0 p.1 (all_apart inputs ds nets ins n count st refs p.0 p.1 r flags order s e)),
              wired inputs ds nets ins n count st refs p.1,
              ordered inputs ds nets ins n count st refs p.0 p.1 r flags order s e,
            )

        module _ (ne : r ≡ n → ⊥) (c : ℕ) (k : Cyclic refs n flags c) where
          pub cycle-inside : c < n
          cycle-inside = let p = passed g le in cycle-there inputs ds nets ins n count st refs p.0 p.1 r flags order s ne c k

          pub cyclic : validate_nets inputs ds ≡ fault 33 (get_or nets (8 * c) 0)
          cyclic =
              let p = passed g le in
              located c cycle-inside
              (validated-cycle inputs ds (get_or ds c no_driver).offset (twice_nowhere inputs ds nets ins n count st p.0) (undriven_nowhere inputs ds nets ins n count st refs p.1)
              (cycle-at inputs ds nets ins n count st refs p.0 p.1 c cycle-inside (apart inputs ds nets ins n count st refs p.0 p.1 r flags order s c k) (k.cycle cycle-inside)))
