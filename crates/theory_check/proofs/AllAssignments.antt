-- The numbers below 2^I are all assignments of the inputs, "input k as bit k": so an answer over these numbers is one over every assignment.
use Rattle.base.specs.{ℕ, zero, suc, ◌+◌, ◌*◌, ◌^◌, ◌<◌, le_refl, le_of_suc-le-suc, not-suc-le-zero, zero-add, pow-suc, arith, ◌≡◌, refl}
use Rattle.base.specs.{sym, ◌∙◌, ap, Bool, false, List, [], ◌∷◌, map, Memᴰ, Memᴰ-head, Memᴰ-tail, Memᴰ-cast, eqb, eqb→eq}
use Rattle.base.specs.{eqb_refl, length, get_or}
use Rattle.model.specs.{bit, row_of, GraphValues, Driver, assignment_of, ValuesUnder, RightUnder, Right, Distinct}
use Rattle.model.specs.Graph.{Graph}
use Rattle.theory_graph.proofs.{map_same, is_true, get_or_in, length-map, by_bool, one_le, bit-row}

-- ---- a number with given bits

two_pow : (n : ℕ) → 2 ^ suc n ≡ 2 * 2 ^ n
two_pow n = pow-suc 2 n ∙ (let e : 2 ^ n * 2 ≡ 2 * 2 ^ n = omega arith in e)

row_lt : (bs : List Bool) → row_of bs < 2 ^ length bs
unfolding row_of
row_lt [] = le_refl 1
row_lt (b ∷ bs) = omega (arith, one_le b, row_lt bs, two_pow (length bs))

-- ---- "input k as bit k"

assignment_at : (s k : ℕ) (us : List ℕ) → Distinct us → (j : ℕ) → j < length us → assignment_of s k us (get_or us j 0) ≡ bit s (k + j)
unfolding assignment_of
assignment_at s k [] once j h = absurd (not-suc-le-zero h)
assignment_at s k (u ∷ us) once zero h = cc (is_true (eqb u u) (eqb_refl u), let e : k ≡ k + 0 = omega arith in e)
assignment_at s k (u ∷ us) once (suc j) h = by_bool (eqb u (get_or us j 0)) (λ e. rw e (absurd
    (once.0 (Memᴰ-cast ((rw e at (eqb→eq u (get_or us j 0))) tt) (get_or_in us j 0 (omega (arith, rw e at (eqb→eq u (get_or us j 0)))))))))
    (λ q. rw q) ∙ assignment_at s (suc k) us once.1 j (omega arith) ∙ ap (bit s) (let e : suc k + j ≡ k + suc j = omega arith in e)

pub assignment_numbered : (us : List ℕ) → Distinct us → (s k : ℕ) → k < length us → assignment_of s 0 us (get_or us k 0) ≡ bit s k
assignment_numbered us once s k h = assignment_at s 0 us once k h ∙ ap (bit s) (zero-add k)

-- ---- every assignment has a number

index_of_lem : (u : ℕ) (xs : List ℕ) → Memᴰ u xs → (i : ℕ) × (i < length xs) × (get_or xs i 0 ≡ u)
index_of_lem u (x ∷ xs) (Memᴰ-head e) = (0, omega arith, sym e)
index_of_lem u (x ∷ xs) (Memᴰ-tail m) = let r = index_of_lem u xs m in (suc r.0, omega (arith, r.1), r.2)
index_of_lem u [] x' = elim x' [ ]

get_d_map : (f : ℕ → Bool) (xs : List ℕ) (i : ℕ) → i < length xs → get_or (map f xs) i false ≡ f (get_or xs i 0)
get_d_map f [] i h = absurd (not-suc-le-zero h)
get_d_map f (x ∷ xs) zero h = refl
get_d_map f (x ∷ xs) (suc i) h = get_d_map f xs i (le_of_suc-le-suc h)

pub every_assignment : (us : List ℕ) → Distinct us → (assignment : ℕ → Bool) → (s : ℕ) × (s < 2 ^ length us) × ((v : ℕ) → Memᴰ v us → assignment_of s 0 us v ≡ assignment v)
every_assignment us once assignment = (
  row_of (map assignment us),
  rw (← length-map assignment us) (row_lt (map assignment us)),
  (λ v m.
      let i = index_of_lem v us m in rw (← i.2) (assignment_numbered us once (row_of (map assignment us)) i.0 i.1
      ∙ bit-row (map assignment us) i.0 false (rw (length-map assignment us) i.1) ∙ get_d_map assignment us i.0 i.1)),
)

-- ---- values ask of an assignment nothing but its inputs

module _ (g : Graph) (ds : List Driver) (x y : ℕ → Bool) (same : (v : ℕ) → Memᴰ v g.inputs → x v ≡ y v) where
  pub graph-values-same : (v : ℕ → Bool) → GraphValues g x v → GraphValues g y v
  graph-values-same v h = record { at_constant = h.at_constant; at_inputs = λ u m. h.at_inputs u m ∙ same u m; at_ands = h.at_ands }

  pub net-values-same : (w : List ℕ → Bool) → ValuesUnder g ds x w → ValuesUnder g ds y w
  net-values-same w h = record { at_inputs = h.at_inputs ∙ map_same x y g.inputs same; at_drivers = h.at_drivers }

-- right under every number's assignment is right under every assignment
pub right-under-every : (g : Graph) (ds : List Driver) → Distinct g.inputs
    → ((s : ℕ) → s < 2 ^ length g.inputs → (k : ℕ) → k < length g.outputs → Right g ds s k)
    → (assignment : ℕ → Bool) (k : ℕ) → k < length g.outputs → RightUnder g ds assignment k
right-under-every g ds once h assignment k b v hv w hw =
    let e = every_assignment g.inputs once assignment in
    let back : (u : ℕ) → Memᴰ u g.inputs → assignment u ≡ assignment_of e.0 0 g.inputs u = λ u m. sym (e.2 u m) in
    h e.0 e.1 k b v (graph-values-same g ds assignment (assignment_of e.0 0 g.inputs) back v hv) w (net-values-same g ds assignment (assignment_of e.0 0 g.inputs) back w hw)
