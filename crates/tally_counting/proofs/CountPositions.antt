-- The tally, place by place:
--     add_step, add-here      one place more
--     tally_step, tally_low   the same of the three figures
--     add-all, add_same       all places, as the crate model adds them
use Rattle.base.specs.{ℕ, zero, suc, ◌+◌, ◌*◌, ◌^◌, ◌≤◌, ◌<◌, mul-le-mul, le_of_lt, add-one, arith, ◌≡◌, refl, sym, ap, ap₂, ◌∙◌, Bool}
use Rattle.base.specs.{true, false, List, [], ◌∷◌, leb, length, get_or, set, leb-true}
use Rattle.model.specs.{one, all, no_cell, in_width, add_each}
use Rattle.model.specs.declared.Library.{Library}
use Rattle.model.specs.declared.Tally.{Tally}
use Rattle.base_text.proofs.{and_left, and_right}
use Rattle.tally_counting.specs.declared.Counts.{Counts}
use Rattle.tally_counting.specs.{add_up_to, gates_at, areas_at, occurs_at, added_up_to, added_at, Wide}

pub occurs-low : (b : Bool) → one b ≤ 1
unfolding one
occurs-low true = omega arith
occurs-low false = omega arith

pub product-low : (n a : ℕ) → n < 4294967296 → a < 65536 → n * a ≤ 4294967296 * 65536
product-low n a h k = mul-le-mul (le_of_lt h) (le_of_lt k)

module _ (f : ℕ → ℕ) where
  add_at : (i k : ℕ) (ns : List ℕ) → get_or (add_up_to i f k ns) i 0 ≡ get_or ns i 0
  unfolding add_up_to
  add_at zero k ns = refl
  add_at (suc i) k [] = refl
  add_at (suc i) k (m ∷ ms) = add_at i (suc k) ms

  add-more : (i k : ℕ) (ns : List ℕ) → i < length ns → set (add_up_to i f k ns) i (get_or (add_up_to i f k ns) i 0 + f (k + i)) ≡ add_up_to (suc i) f k ns
  unfolding add_up_to
  add-more i k [] h = absurd (omega arith)
  add-more zero k (m ∷ ms) h = let z : k + 0 ≡ k = omega arith in ap (λ (x : ℕ). (m + f x) ∷ ms) z
  add-more (suc i) k (m ∷ ms) h =
      let z : k + suc i ≡ suc k + i = omega arith in
      ap (λ (x : ℕ). (m + f k) ∷ set (add_up_to i f (suc k) ms) i (get_or (add_up_to i f (suc k) ms) i 0 + f x)) z
      ∙ ap (λ (xs : List ℕ). (m + f k) ∷ xs) (add-more i (suc k) ms (omega arith))

  pub add_step : (i : ℕ) (ns : List ℕ) → i < length ns → set (add_up_to i f 0 ns) i (get_or (add_up_to i f 0 ns) i 0 + f i) ≡ add_up_to (i + 1) f 0 ns
  add_step i ns h =
      let z : 0 + i ≡ i = omega arith in
      ap (λ (x : ℕ). set (add_up_to i f 0 ns) i (get_or (add_up_to i f 0 ns) i 0 + f x)) (sym z) ∙ add-more i 0 ns h ∙ ap (λ (x : ℕ). add_up_to x f 0 ns) (sym (add-one i))

  pub add-here : (i : ℕ) (ns : List ℕ) → get_or (add_up_to i f 0 ns) i 0 ≡ get_or ns i 0
  add-here i ns = add_at i 0 ns

  add-whole : (k : ℕ) (ns : List ℕ) → add_up_to (length ns) f k ns ≡ add_each f k ns
  unfolding add_up_to add_each
  add-whole k [] = refl
  add-whole k (m ∷ ms) = ap (λ (xs : List ℕ). (m + f k) ∷ xs) (add-whole (suc k) ms)

  pub add-all : (n : ℕ) (ns : List ℕ) → length ns ≡ n → add_up_to n f 0 ns ≡ add_each f 0 ns
  add-all n ns e = ap (λ (x : ℕ). add_up_to x f 0 ns) (sym e) ∙ add-whole 0 ns

same_from : (f h : ℕ → ℕ) (k : ℕ) (ns : List ℕ) → ((i : ℕ) → k ≤ i → i < k + length ns → f i ≡ h i) → add_each f k ns ≡ add_each h k ns
unfolding add_each
same_from f h k [] e = refl
same_from f h k (m ∷ ms) e =
    ap₂ (λ (x : ℕ) (xs : List ℕ). (m + x) ∷ xs) (e k (omega arith) (omega arith)) (same_from f h (suc k) ms (λ i p q. e i (omega arith) (omega arith)))

pub add_same : (f h : ℕ → ℕ) (ns : List ℕ) → length ns ≡ 32 → ((i : ℕ) → i < 32 → f i ≡ h i) → add_each f 0 ns ≡ add_each h 0 ns
add_same f h ns n e = same_from f h 0 ns (λ i p q. e i (omega arith))

module _ (l : Library) (c : Counts) (t₀ : Tally) (w : Wide t₀) (i : ℕ) (t : Tally) (is : t ≡ added_up_to i l c t₀) where
  pub tally_low : (get_or t.gates i 0 ≤ 2 ^ 40) × (get_or t.areas i 0 ≤ 2 ^ 40) × (get_or t.occurs i 0 ≤ 2 ^ 40)
  tally_low = (
    omega (arith, w.gates i, add-here (gates_at c) i t₀.gates, ap (λ (x : Tally). get_or x.gates i 0) is),
    omega (arith, w.areas i, add-here (areas_at l c) i t₀.areas, ap (λ (x : Tally). get_or x.areas i 0) is),
    omega (arith, w.occurs i, add-here (occurs_at c) i t₀.occurs, ap (λ (x : Tally). get_or x.occurs i 0) is),
  )

  abbrev tally_of : List ℕ → List ℕ → List ℕ → Tally
  tally_of g a o = record { gates = g; areas = a; occurs = o; netlists = t₀.netlists }

  pub tally_step : i < 32 → (n area : ℕ) (r : Tally) → n ≡ get_or c.n i 0 → area ≡ (get_or l.cells i no_cell).area → r ≡ added_at t i n area → r ≡ added_up_to (i + 1) l c t₀
  tally_step h n area r en ea er =
      er
      ∙ ap (λ (x : Tally). added_at x i n area) is
      ∙ ap₂ (λ (x y : ℕ). added_at (added_up_to i l c t₀) i x y) en ea
      ∙ ap₂ (λ (g a : List ℕ). tally_of g a (set (add_up_to i (occurs_at c) 0 t₀.occurs) i (get_or (add_up_to i (occurs_at c) 0 t₀.occurs) i 0 + occurs_at c i)))
      (add_step (gates_at c) i t₀.gates (omega (arith, w.gates_long))) (add_step (areas_at l c) i t₀.areas (omega (arith, w.areas_long)))
      ∙ ap (tally_of (add_up_to (i + 1) (gates_at c) 0 t₀.gates) (add_up_to (i + 1) (areas_at l c) 0 t₀.areas)) (add_step (occurs_at c) i t₀.occurs (omega (arith, w.occurs_long)))

-- ---- no figure over 2^40

abbrev pub small : List ℕ → Bool
small xs = all (λ (n : ℕ). leb n (2 ^ 40)) xs

small_at : (xs : List ℕ) → small xs ≡ true → (i : ℕ) → get_or xs i 0 ≤ 2 ^ 40
unfolding all
small_at [] e i = omega arith
small_at (x ∷ xs) e zero = leb-true x (2 ^ 40) (and_left (leb x (2 ^ 40)) (small xs) e)
small_at (x ∷ xs) e (suc i) = small_at xs (and_right (leb x (2 ^ 40)) (small xs) e) i

module _ (t : Tally) where
  pub width-gates : small t.gates ≡ false → false ≡ in_width t
  unfolding in_width
  width-gates e = sym (rw e)

  module _ (g : small t.gates ≡ true) where
    pub width-areas : small t.areas ≡ false → false ≡ in_width t
    unfolding in_width
    width-areas e = sym (rw (g, e))

    module _ (a : small t.areas ≡ true) where
      pub width-occurs : small t.occurs ≡ false → false ≡ in_width t
      unfolding in_width
      width-occurs e = sym (rw (g, a, e))

      module _ (o : small t.occurs ≡ true) where
        pub width-last : leb t.netlists (2 ^ 40) ≡ in_width t
        unfolding in_width
        width-last = sym (rw (g, a, o))

        pub width-wide : length t.gates ≡ 32 → length t.areas ≡ 32 → length t.occurs ≡ 32 → Wide t
        width-wide p q r =
            record { gates_long = p; areas_long = q; occurs_long = r; gates = small_at t.gates g; areas = small_at t.areas a; occurs = small_at t.occurs o }
