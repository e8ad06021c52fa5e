-- Laws of the pass that times the chosen phases with the lowest delays:
--     after_is            a sum that has room
--     latest-represented, latest-same    the latest of minimum arrivals that are known, by the delays of the nets alone
--     pins-none, pins-step        the pins of a match, from the last to the first
--     put-kept, step_kept         only words of the minimum arrivals are written
--     mins-phase .. mins-retimable        so what is read in the pass stays
--     step-positive, step-negative, step_other    what a step stores is there, and every other minimum arrival stays
use Rattle.base.specs.{ℕ, zero, suc, ◌+◌, ◌-◌, ◌*◌, ◌/◌, ◌≤◌, ◌<◌, max, arith, ◌≡◌, refl, sym, ap, ap₂, subst, ◌∙◌, Bool, cond, List, []}
use Rattle.base.specs.{◌∷◌, map, Memᴰ, Memᴰ-head, Memᴰ-tail, leb, le→leb, length, get_or, drop, drop-cons, drop-length}
use Rattle.base.specs.{get_or-drop}
use Rattle.model.specs.{bit, cut_limit, var_of, negated, fed_nets, phase_of, latest}
use Rattle.model.specs.declared.Cell.{Cell}
use Rattle.model.specs.declared.Phase.{Phase}
use Rattle.theory_graph.proofs.{is_true, lit_var}
use Rattle.base_words.specs.{HasCapacity, lists_to, output_addr, min_arrival_at, slot_at, count_at, positive_addr, negative_addr, leaves_of, leaves_at, source_of}
use Rattle.base_words.specs.{phase_in, phase_at}
use Rattle.base_words.proofs.{min-arrival-length, min-arrival-before, min-arrival-behind, min-arrival-put, min-arrival-apart, cut-same}
use Rattle.base_truth.specs.{places_of, pin_net}
use Rattle.base_truth.proofs.{places-four, nets-length, nets_get}
use Rattle.cover_choice.specs.{SlotsIn, CutsIn}
use Rattle.cover_choice.proofs.{Kept, kept_on}
use Rattle.net_timing.specs.{after, latest_min, inverter_min, own_at, put_min, retimed_step, InverterIn, Retimable}

-- ---- sums

pub after_is : (t d : ℕ) → t + d ≤ 4294967295 → after t d ≡ t + d
after_is t d h = ap (λ (b : Bool). cond b (t + d) t) (is_true (leb (t + d) 4294967295) (le→leb (t + d) 4294967295 h))

pub latest-represented : (w : List ℕ) (m : ℕ) (f : ℕ → ℕ) (nets ds : List ℕ) → ((x : ℕ) → Memᴰ x nets → (min_arrival_at w m x ≡ f x) × (f x ≤ 1073741823)) → ((j : ℕ) → get_or ds j 0 < 131072)
    → latest_min w m nets ds ≡ latest (map f nets) ds
unfolding latest_min latest
latest-represented w m f [] ds h s = refl
latest-represented w m f (x ∷ nets) [] h s =
    let k = h x (Memᴰ-head refl) in
    ap₂ max (ap (λ (t : ℕ). after t 0) k.0 ∙ after_is (f x) 0 (omega (arith, k.1)) ∙ (let z : f x + 0 ≡ f x = omega arith in z)) (latest-represented w m f nets [] (λ y i. h y (Memᴰ-tail i)) s)
latest-represented w m f (x ∷ nets) (d ∷ ds) h s =
    let k = h x (Memᴰ-head refl) in
    ap₂ max (ap (λ (t : ℕ). after t d) k.0 ∙ after_is (f x) d (omega (arith, k.1, s 0))) (latest-represented w m f nets ds (λ y i. h y (Memᴰ-tail i)) (λ j. s (suc j)))

-- delays past the nets do not count
pub latest-same : (w : List ℕ) (m : ℕ) (nets ds es : List ℕ) → ((j : ℕ) → j < length nets → get_or ds j 0 ≡ get_or es j 0) → latest_min w m nets ds ≡ latest_min w m nets es
unfolding latest_min
latest-same w m [] ds es h = refl
latest-same w m (x ∷ nets) ds es h =
    ap₂ (λ (d t : ℕ). max (after (min_arrival_at w m x) d) t) (h 0 (omega arith))
    (latest-same w m nets (drop 1 ds) (drop 1 es)
    (λ j b. let z : 1 + j ≡ suc j = omega arith in get_or-drop 1 ds j 0 ∙ ap (λ (i : ℕ). get_or ds i 0) z ∙ h (suc j) (omega arith) ∙ ap (λ (i : ℕ). get_or es i 0) (sym z) ∙ sym (get_or-drop 1 es j 0)))

-- ---- the pins of a match

-- the variable of a net
pub net-var : (leaves : List ℕ) (order mask j m : ℕ) → get_or leaves (get_or (places_of order) j 0) 0 ≤ m → pin_net (places_of order) mask leaves j / 2 ≤ m
unfolding var_of
net-var leaves order mask j m h = omega (arith, lit_var (bit mask j) (get_or leaves (get_or (places_of order) j 0) 0))

module _ (w : List ℕ) (m : ℕ) (leaves : List ℕ) (order mask pins : ℕ) (mins : List ℕ) (known : order < 24) (few : pins ≤ 4) where
  abbrev nets : List ℕ
  nets = fed_nets pins (places_of order) mask leaves

  four : pins ≤ length (places_of order)
  four = omega (arith, places-four order known)

  -- none is left
  pub pins-none : latest_min w m (drop pins nets) (drop pins mins) ≡ 0
  unfolding latest_min
  pins-none = ap (λ (ls : List ℕ). latest_min w m ls (drop pins mins)) (ap (λ (i : ℕ). drop i nets) (sym (nets-length pins (places_of order) mask leaves four)) ∙ drop-length nets)

  -- one more
  one_more_lem : (j : ℕ) → j < pins
      → max (after (min_arrival_at w m (pin_net (places_of order) mask leaves j)) (get_or mins j 0)) (latest_min w m (drop (suc j) nets) (drop (suc j) mins)) ≡ latest_min w m (drop j nets) (drop j mins)
  unfolding latest_min
  one_more_lem j h =
      let l : length nets ≡ pins = nets-length pins (places_of order) mask leaves four in
      ap (λ (x : ℕ). max (after (min_arrival_at w m x) (get_or mins j 0)) (latest_min w m (drop (suc j) nets) (drop (suc j) mins))) (sym (nets_get pins (places_of order) mask leaves j four h))
      ∙ ap₂ (λ (d : ℕ) (ds : List ℕ). max (after (min_arrival_at w m (get_or nets j 0)) d) (latest_min w m (drop (suc j) nets) ds)) (sym (first_of mins j)) (sym (drop-one mins j))
      ∙ ap (λ (ls : List ℕ). latest_min w m ls (drop j mins)) (sym (drop-cons nets j 0 (omega arith)))
    where
      first_of : (ds : List ℕ) (k : ℕ) → get_or (drop k ds) 0 0 ≡ get_or ds k 0
      first_of ds zero = refl
      first_of [] (suc k) = refl
      first_of (d ∷ ds) (suc k) = first_of ds k

      drop-one : (ds : List ℕ) (k : ℕ) → drop 1 (drop k ds) ≡ drop (suc k) ds
      drop-one ds zero = refl
      drop-one [] (suc k) = refl
      drop-one (d ∷ ds) (suc k) = drop-one ds k

  pub pins-step : (k : ℕ) → 0 < k → k ≤ pins
      → max (after (min_arrival_at w m (pin_net (places_of order) mask leaves (k - 1))) (get_or mins (k - 1) 0)) (latest_min w m (drop k nets) (drop k mins))
      ≡ latest_min w m (drop (k - 1) nets) (drop (k - 1) mins)
  pins-step k a b =
      let e : suc (k - 1) ≡ k = omega arith in
      ap (λ (i : ℕ). max (after (min_arrival_at w m (pin_net (places_of order) mask leaves (k - 1))) (get_or mins (k - 1) 0)) (latest_min w m (drop i nets) (drop i mins))) (sym e)
      ∙ one_more_lem (k - 1) (omega arith)

-- ---- words

-- only words of the functions are written
abbrev pub MinsKept : ℕ → List ℕ → List ℕ → Type 0
MinsKept m v w = Kept (lists_to m) (output_addr m 0) v w

pub put-kept : (w : List ℕ) (m l t : ℕ) → HasCapacity w m → l / 2 ≤ m → MinsKept m w (put_min w m l t)
put-kept w m l t r h = record { size = min-arrival-length w m l t r h; before = min-arrival-before w m l t r h; behind = min-arrival-behind w m l t r h }

pub kept-capacity : (m : ℕ) (v w : List ℕ) → MinsKept m v w → HasCapacity v m → HasCapacity w m
kept-capacity m v w k r = record { small = r.small; capacity = omega (arith, r.capacity, k.size) }

-- ---- what stays in the pass

module _ (m : ℕ) (v w : List ℕ) (k : MinsKept m v w) where
  pub mins-phase : (l : ℕ) → l / 2 ≤ m → phase_at w m l ≡ phase_at v m l
  unfolding phase_of phase_in var_of
  mins-phase l h =
      let p = at (positive_addr m (l / 2)) (omega arith) in
      let n = at (negative_addr m (l / 2)) (omega arith) in
      λ i. cond (negated l) (n i) (p i)
    where
      at : (a : ℕ) → a + 4 ≤ lists_to m → phase_in w a ≡ phase_in v a
      at a b =
          let e₀ : get_or w a 0 ≡ get_or v a 0 = k.before a (omega arith) in
          let e₁ : get_or w (a + 1) 0 ≡ get_or v (a + 1) 0 = k.before (a + 1) (omega arith) in
          let e₂ : get_or w (a + 2) 0 ≡ get_or v (a + 2) 0 = k.before (a + 2) (omega arith) in
          let e₃ : get_or w (a + 3) 0 ≡ get_or v (a + 3) 0 = k.before (a + 3) (omega arith) in
          λ i. record { source = source_of (e₀ i) (e₁ i); arrival = e₂ i + e₃ i * 65536 }

  pub mins-leaves : (u : ℕ) → u ≤ m → (n : ℕ) → n < cut_limit → leaves_at w m u n ≡ leaves_at v m u n
  mins-leaves u h n l = ap leaves_of (cut-same w v m (λ i a b. k.before i b) u h n l)

  count_kept : (u : ℕ) → u ≤ m → count_at w m u ≡ count_at v m u
  count_kept u h = k.before _ (omega arith)

  pub mins-slots : (n : ℕ) → SlotsIn v m n → SlotsIn w m n
  mins-slots n r = record {
    capacity = kept-capacity m v w k r.capacity;
    few = r.few;
    within = λ i h. let e : slot_at w m i ≡ slot_at v m i = k.before _ (omega (arith, r.few)) in subst (λ (x : ℕ). x ≤ m) (sym e) (r.within i h);
  }

  mins-cuts : CutsIn v m → CutsIn w m
  mins-cuts r = record {
    capacity = kept-capacity m v w k r.capacity;
    few = λ u h. omega (arith, count_kept u h, r.few u h);
    within =
        λ u n j h l i.
        let c : n < count_at v m u = omega (arith, count_kept u h) in
        let same : leaves_at w m u n ≡ leaves_at v m u n = mins-leaves u h n (omega (arith, r.few u h)) in
        subst (λ (x : List ℕ). get_or x j 0 ≤ m) (sym same) (r.within u n j h c (subst (λ (x : List ℕ). j < length x) same i));
  }

  pub mins-retimable : (cells : List Cell) → Retimable cells v m → Retimable cells w m
  mins-retimable cells r = record {
    matches = record {
      in_bounds = r.matches.in_bounds;
      cuts = mins-cuts r.matches.cuts;
      matches =
          λ l h x e.
          let o = r.matches.matches l h x (ap (λ (p : Phase). p.source) (sym (mins-phase l h)) ∙ e) in
          record {
            cut = omega (arith, o.cut, count_kept (l / 2) h);
            cell = o.cell;
            order = o.order;
            places = rw (mins-leaves (l / 2) h x.cut (omega (arith, o.cut, r.matches.cuts.few (l / 2) h))) o.places;
          };
    };
    inverters = λ l h. subst (λ (p : Phase). InverterIn cells p.source) (sym (mins-phase l h)) (r.inverters l h);
  }

-- ---- a step

module _ (cells : List Cell) (w : List ℕ) (m v : ℕ) (capacity : HasCapacity w m) (inside : v ≤ m) where
  -- what is stored of a phase
  abbrev pub stored : ℕ → ℕ → ℕ
  stored l o = inverter_min cells (own_at cells w m l) (own_at cells w m o) (phase_at w m l).source

  first : List ℕ
  first = put_min w m (2 * v) (stored (2 * v) (2 * v + 1))

  first-kept : MinsKept m w first
  unfolding first
  first-kept = put-kept w m (2 * v) (stored (2 * v) (2 * v + 1)) capacity (omega arith)

  first-capacity : HasCapacity first m
  first-capacity = kept-capacity m w first first-kept capacity

  pub step_kept : MinsKept m w (retimed_step cells w m v)
  unfolding retimed_step first
  step_kept = kept_on (lists_to m) (output_addr m 0) w first (retimed_step cells w m v) first-kept (put-kept first m (2 * v + 1) (stored (2 * v + 1) (2 * v)) first-capacity (omega arith))

  pub step-positive : min_arrival_at (retimed_step cells w m v) m (2 * v) ≡ stored (2 * v) (2 * v + 1)
  unfolding retimed_step first
  step-positive =
      min-arrival-apart first m (2 * v + 1) (stored (2 * v + 1) (2 * v)) first-capacity (omega arith) (2 * v) (λ e. omega arith)
      ∙ min-arrival-put w m (2 * v) (stored (2 * v) (2 * v + 1)) capacity (omega arith)

  pub step-negative : min_arrival_at (retimed_step cells w m v) m (2 * v + 1) ≡ stored (2 * v + 1) (2 * v)
  unfolding retimed_step first
  step-negative = min-arrival-put first m (2 * v + 1) (stored (2 * v + 1) (2 * v)) first-capacity (omega arith)

  pub step_other : (l : ℕ) → (l / 2 ≡ v → ⊥) → min_arrival_at (retimed_step cells w m v) m l ≡ min_arrival_at w m l
  unfolding retimed_step first
  step_other l n =
      min-arrival-apart first m (2 * v + 1) (stored (2 * v + 1) (2 * v)) first-capacity (omega arith) l (λ e. n (omega arith))
      ∙ min-arrival-apart w m (2 * v) (stored (2 * v) (2 * v + 1)) capacity (omega arith) l (λ e. n (omega arith))
