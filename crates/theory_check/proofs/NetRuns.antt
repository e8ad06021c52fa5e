-- The values of the nets along an order: they follow the drivers, and any that do are they.
use Rattle.base.specs.{ℕ, zero, suc, ◌≡◌, refl, sym, ◌∙◌, ap, ap₂, ◌⊎◌, inl, inr, ⊎_elim, Bool, cond, List, [], ◌∷◌, map, Memᴰ}
use Rattle.base.specs.{Memᴰ-head, Memᴰ-tail, Memᴰ-not-nil, Memᴰ-cast, head-eq_of_cons-eq, tail-eq_of_cons-eq, eqb, eqb→eq}
use Rattle.base.specs.{yes_eqb, length}
use Rattle.model.specs.{bit, same, value, row_of, Driver, net_value, run_nets, input_values, assignment_of, Distinct}
use Rattle.theory_graph.proofs.{map_same, same-eq, same_refl, is_true, by_bool}
use Rattle.theory_check.proofs.DriverSort.{nets_of, Ordered}

-- ---- a look-up

value-here : (n : List ℕ) (b : Bool) (es : List (List ℕ × Bool)) → net_value ((n, b) ∷ es) n ≡ b
unfolding net_value
value-here n b es = ap (λ (t : Bool). cond t b (net_value es n)) (is_true (same n n) (same_refl n))

value-past : (m n : List ℕ) (b : Bool) (es : List (List ℕ × Bool)) → ¬ (m ≡ n) → net_value ((m, b) ∷ es) n ≡ net_value es n
unfolding net_value
value-past m n b es h = by_bool (same m n) (λ e. rw e (absurd (h ((rw e at (same-eq m n)) tt)))) (λ q. rw q)

-- what is known stays
pub nets_stay : (ds : List Driver) (known : List (List ℕ × Bool)) (n : List ℕ) → ¬ Memᴰ n (nets_of ds) → net_value (run_nets ds known) n ≡ net_value known n
unfolding run_nets
nets_stay [] known n h = refl
nets_stay (d ∷ ds) known n h =
    nets_stay ds ((d.net, value d.table (row_of (map (net_value known) d.uses))) ∷ known) n (λ m. h (Memᴰ-tail m))
    ∙ value-past d.net n (value d.table (row_of (map (net_value known) d.uses))) known (λ e. h (Memᴰ-head (sym e)))

-- ---- along an order

-- names that no driver of the list drives
abbrev Apart : List (List ℕ) → List Driver → Type 0
Apart names ds = (n : List ℕ) → Memᴰ n names → ¬ Memᴰ n (nets_of ds)

next-apart : (names : List (List ℕ)) (d : Driver) (ds : List Driver) → Distinct (nets_of (d ∷ ds)) → Apart names (d ∷ ds) → Apart (d.net ∷ names) ds
next-apart names d ds once apart n (Memᴰ-head e) i = once.0 (Memᴰ-cast (sym e) i)
next-apart names d ds once apart n (Memᴰ-tail m) i = apart n m (Memᴰ-tail i)

-- the values follow each driver
pub runs_follow : (names : List (List ℕ)) (known : List (List ℕ × Bool)) (ds : List Driver) → Ordered names ds → Distinct (nets_of ds) → Apart names ds
    → (d : Driver) → Memᴰ d ds → net_value (run_nets ds known) d.net ≡ value d.table (row_of (map (net_value (run_nets ds known)) d.uses))
unfolding run_nets
runs_follow names known (x ∷ ds) o once apart d (Memᴰ-head e) =
    let v = value x.table (row_of (map (net_value known) x.uses)) in
    let next : List (List ℕ × Bool) = (x.net, v) ∷ known in
    rw e (cc (
      nets_stay ds next x.net once.0,
      value-here
          x.net v known,
      map_same (net_value known) (net_value (run_nets ds next)) x.uses (λ n m. cc (
        nets_stay ds next n
            (λ i. apart n (o.0 n m) (Memᴰ-tail i)),
        value-past x.net n v known (λ q. apart n (o.0 n m) (Memᴰ-head (sym q))),
      )),
    ))
runs_follow names known (x ∷ ds) o once apart d (Memᴰ-tail m) =
    runs_follow (x.net ∷ names) ((x.net, value x.table (row_of (map (net_value known) x.uses))) ∷ known) ds o.1 once.1 (next-apart names x ds once apart) d m
runs_follow names known [] o once apart d x4 = elim x4 [ ]

-- any values that follow the drivers are these
pub runs_only : (w : List ℕ → Bool) (names : List (List ℕ)) (known : List (List ℕ × Bool)) (ds : List Driver) → Ordered names ds → Distinct (nets_of ds) → Apart names ds
    → ((n : List ℕ) → Memᴰ n names → w n ≡ net_value known n)
    → ((d : Driver) → Memᴰ d ds → w d.net ≡ value d.table (row_of (map w d.uses)))
    → (n : List ℕ) → Memᴰ n names ⊎ Memᴰ n (nets_of ds) → w n ≡ net_value (run_nets ds known) n
unfolding run_nets
runs_only w names known [] o once apart start follow n (inl m) = start n m
runs_only w names known [] o once apart start follow n (inr m) = absurd (Memᴰ-not-nil m)
runs_only w names known (x ∷ ds) o once apart start follow n m =
    runs_only w (x.net ∷ names) next ds o.1 once.1 (next-apart names x ds once apart) more (λ d i. follow d (Memᴰ-tail i)) n (
    ⊎_elim (λ i. inl (Memᴰ-tail i)) (λ q. elim q [ Memᴰ-head e ↦ inl (Memᴰ-head e) | Memᴰ-tail p ↦ inr p ]) m)
  where
    v : Bool
    v = value x.table (row_of (map (net_value known) x.uses))

    next : List (List ℕ × Bool)
    next = (x.net, v) ∷ known

    more : (k : List ℕ) → Memᴰ k (x.net ∷ names) → w k ≡ net_value next k
    more k (Memᴰ-head e) =
        cc (follow x (Memᴰ-head refl), map_same w (net_value known) x.uses (λ u i. start u (o.0 u i)), value-here x.net v known)
    more k (Memᴰ-tail i) = start k i ∙ sym (value-past x.net k v known (λ q. apart k i (Memᴰ-head (sym q))))

-- ---- the inputs

-- the bits of an assignment from bit k on
bits_from : ℕ → ℕ → ℕ → List Bool
bits_from s k zero = []
bits_from s k (suc n) = bit s k ∷ bits_from s (suc k) n

input_bits : (s k : ℕ) (ns : List (List ℕ)) → Distinct ns → map (net_value (input_values s k ns)) ns ≡ bits_from s k (length ns)
unfolding input_values bits_from
input_bits s k [] once = refl
input_bits s k (n ∷ ns) once = ap₂ (λ (b : Bool) (bs : List Bool). b ∷ bs) (value-here n (bit s k) (input_values s (suc k) ns))
    (map_same (net_value ((n, bit s k) ∷ input_values s (suc k) ns)) (net_value (input_values s (suc k) ns)) ns (λ m i. value-past n m (bit s k) (input_values s (suc k) ns) (λ e. once.0 (Memᴰ-cast e i)))
    ∙ input_bits s (suc k) ns once.1)

assignment_bits : (s k : ℕ) (us : List ℕ) → Distinct us → map (assignment_of s k us) us ≡ bits_from s k (length us)
unfolding assignment_of bits_from
assignment_bits s k [] once = refl
assignment_bits s k (u ∷ us) once = ap₂ (λ (b : Bool) (bs : List Bool). b ∷ bs) (here u u refl)
    (map_same (assignment_of s k (u ∷ us)) (assignment_of s (suc k) us) us (λ v i. by_bool (eqb u v)
    (λ e. rw e (absurd (once.0 (Memᴰ-cast ((rw e at (eqb→eq u v)) tt) i)))) (λ q. rw q)) ∙ assignment_bits s (suc k) us once.1)
  where
    here : (a v : ℕ) → a ≡ v → assignment_of s k (a ∷ us) v ≡ bit s k
    here a v e = ap (λ (t : Bool). cond t (bit s k) (assignment_of s (suc k) us v)) (is_true (eqb a v) (yes_eqb e))

-- the inputs' nets have the inputs' assignments
pub inputs-set : (s : ℕ) (ns : List (List ℕ)) (us : List ℕ) → length ns ≡ length us → Distinct ns → Distinct us → map (net_value (input_values s 0 ns)) ns ≡ map (assignment_of s 0 us) us
inputs-set s ns us e a b = input_bits s 0 ns a ∙ ap (bits_from s 0) e ∙ sym (assignment_bits s 0 us b)

-- two functions with one list of values agree on the list
pub map_agree : (f h : List ℕ → Bool) (ns : List (List ℕ)) → map f ns ≡ map h ns → (n : List ℕ) → Memᴰ n ns → f n ≡ h n
map_agree f h (x ∷ ns) e n (Memᴰ-head q) = ap f q ∙ head-eq_of_cons-eq e ∙ sym (ap h q)
map_agree f h (x ∷ ns) e n (Memᴰ-tail m) = map_agree f h ns (tail-eq_of_cons-eq e) n m
map_agree f h [] e n x'' = elim x'' [ ]
