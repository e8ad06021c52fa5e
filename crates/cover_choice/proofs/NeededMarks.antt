-- What marking reads and leaves:
--     match_pins, match_nets_lem      the pins of a match that the words have, and the nets that feed them
--     feeds-matched, feeds_in     what feeds a phase is of the graph
--     once-kept .. down-kept      only words of the needed phases are written
use Rattle.base.specs.{ℕ, zero, suc, ◌+◌, ◌*◌, ◌/◌, ◌≤◌, ◌<◌, arith, ◌≡◌, refl, ap, subst, ◌∙◌, Bool, true, false, cond, List, [], ◌∷◌}
use Rattle.base.specs.{Memᴰ, Memᴰ-head, Memᴰ-tail, Memᴰ-not-nil, Memᴰ-eq_of_singleton, length, get_or, length-take}
use Rattle.base.specs.{get_or-take}
use Rattle.model.specs.{bit, cell_at, literal, var_of, opposite, cut_at as listed_at, fed_nets, match_nets, Phases, phase_of, feeds, is_inverted}
use Rattle.model.specs.{backwards}
use Rattle.model.specs.declared.Cell.{Cell}
use Rattle.model.specs.declared.Cut.{Cut}
use Rattle.model.specs.declared.Match.{Match}
use Rattle.model.specs.declared.Phase.{Phase}
use Rattle.model.specs.declared.Source.{Source}
use Rattle.model.specs.declared.Source.TheVariants.{Input, Cell as Matched, Inverter as Inverted, Nothing}
use Rattle.theory_graph.proofs.{lit_var, lit_neg, opposite-var}
use Rattle.base_words.specs.{HasCapacity, needed_addr, slot_at, output_at, cut_of, leaves_of, leaves_at, cuts_at, put_needed, phases_at, phase_at}
use Rattle.base_words.specs.{positive_at, is_needed}
use Rattle.base_words.proofs.{capacity-need, cut-listed}
use Rattle.base_truth.specs.{places_of}
use Rattle.base_truth.proofs.{places-four, place-below, nets_taken}
use Rattle.cells_matching.specs.{Matchable}
use Rattle.cover_choice.specs.{PinsIn, OutputsIn, SlotsIn, CutsIn, MatchIn, MatchesIn, put_all, put_outputs, feeds_at, fed_once, fed_all}
use Rattle.cover_choice.specs.{fed_step, fed_down}
use Rattle.cover_choice.proofs.KeptWords.{NeedsKept, kept_same, kept_on, need-kept, capacity-kept, outputs_in_kept, slots_in_kept}
use Rattle.cover_choice.proofs.KeptWords.{matches_in_kept}

-- ---- one mark

module _ (w : List ℕ) (m l : ℕ) (r : HasCapacity w m) (h : l / 2 ≤ m) where
  pub mark_size : length (put_needed w m l) ≡ length w
  mark_size = (need-kept w m l r h).size

  pub mark_capacity : HasCapacity (put_needed w m l) m
  mark_capacity = capacity-kept m (needed_addr m 0) (needed_addr m (m + 1)) w (put_needed w m l) (need-kept w m l r h) (omega arith) (omega arith) r

  pub mark_outputs_in : (o : ℕ) → OutputsIn w m o → OutputsIn (put_needed w m l) m o
  mark_outputs_in o k = outputs_in_kept m (needed_addr m 0) (needed_addr m (m + 1)) w (put_needed w m l) (need-kept w m l r h) (omega arith) (omega arith) o k

-- ---- a match

-- a cut's leaf below their number
leaf_is : (c : Cut) (j : ℕ) → j < length (leaves_of c) → get_or (leaves_of c) j 0 ≡ get_or c.leaves j 0
leaf_is c j h = get_or-take c.count c.leaves j 0 (omega (arith, length-take c.count c.leaves))

module _ (cells : List Cell) (w : List ℕ) (m v : ℕ) (x : Match) (u : Matchable cells) (cuts : CutsIn w m) (inside : v ≤ m) (i : MatchIn cells w m v x) where
  four : (cell_at cells x.cell).pins ≤ length (places_of x.order)
  four = omega (arith, u.pins x.cell, places-four x.order i.order)

  pub match_pins : PinsIn (cut_of w m v x.cut).leaves m x.order (cell_at cells x.cell).pins
  match_pins =
      record {
        known = i.order;
        four = u.pins x.cell;
        within =
            λ j h.
            let p : ℕ = get_or (places_of x.order) j 0 in
            let b : p < length (leaves_at w m v x.cut) = place-below (cell_at cells x.cell).pins (places_of x.order) (length (leaves_at w m v x.cut)) j four h i.places in
            subst (λ (y : ℕ). y ≤ m) (leaf_is (cut_of w m v x.cut) p b) (cuts.within v x.cut p inside i.cut b);
      }

  pub match_nets_lem : match_nets cells (leaves_at w m v x.cut) x
      ≡ fed_nets (cell_at cells x.cell).pins (places_of x.order) x.mask (cut_of w m v x.cut).leaves
  unfolding match_nets
  match_nets_lem =
      nets_taken (cell_at cells x.cell).pins (places_of x.order) x.mask (cut_of w m v x.cut).count (cut_of w m v x.cut).leaves i.places

-- ---- what feeds a phase

pub feeds-matched : (cells : List Cell) (w : List ℕ) (m l : ℕ) (x : Match) → MatchIn cells w m (l / 2) x → (phase_at w m l).source ≡ Matched x
    → feeds_at cells w m l ≡ match_nets cells (leaves_at w m (l / 2) x.cut) x
unfolding feeds listed_at var_of
feeds-matched cells w m l x i e =
    ap (feeds cells (cuts_at w m) l) e ∙ ap (λ (c : List ℕ). match_nets cells c x) (cut-listed w m (l / 2) x.cut i.cut)

pub feeds-inverted : (cells : List Cell) (w : List ℕ) (m l c : ℕ) → (phase_at w m l).source ≡ Inverted c → feeds_at cells w m l ≡ opposite l ∷ []
unfolding feeds
feeds-inverted cells w m l c e = ap (feeds cells (cuts_at w m) l) e

pub feeds-input : (cells : List Cell) (w : List ℕ) (m l : ℕ) → (phase_at w m l).source ≡ Input → feeds_at cells w m l ≡ []
unfolding feeds
feeds-input cells w m l e = ap (feeds cells (cuts_at w m) l) e

pub feeds-nothing : (cells : List Cell) (w : List ℕ) (m l : ℕ) → (phase_at w m l).source ≡ Nothing → feeds_at cells w m l ≡ []
unfolding feeds
feeds-nothing cells w m l e = ap (feeds cells (cuts_at w m) l) e

pub nets_in : (n : ℕ) (places : List ℕ) (mask : ℕ) (leaves : List ℕ) (m : ℕ) → ((j : ℕ) → j < n → get_or leaves (get_or places j 0) 0 ≤ m)
    → (y : ℕ) → Memᴰ y (fed_nets n places mask leaves) → y / 2 ≤ m
unfolding fed_nets var_of
nets_in zero places mask leaves m h y i = absurd (Memᴰ-not-nil i)
nets_in (suc n) [] mask leaves m h y i = absurd (Memᴰ-not-nil i)
nets_in (suc n) (p ∷ places) mask leaves m h y (Memᴰ-head e) =
    omega (arith, ap (λ (z : ℕ). z / 2) e, lit_var (bit mask 0) (get_or leaves p 0), h 0 (omega arith))
nets_in (suc n) (p ∷ places) mask leaves m h y (Memᴰ-tail i) = nets_in n places (mask / 2) leaves m (λ j b. h (suc j) (omega arith)) y i

pub feeds_in : (cells : List Cell) (w : List ℕ) (m l : ℕ) → MatchesIn cells w m → l / 2 ≤ m → (y : ℕ) → Memᴰ y (feeds_at cells w m l) → y / 2 ≤ m
unfolding var_of
feeds_in cells w m l r h y i = go (phase_at w m l).source refl
  where
    go : (s : Source) → (phase_at w m l).source ≡ s → y / 2 ≤ m
    go Input e = absurd (Memᴰ-not-nil (subst (λ (ls : List ℕ). Memᴰ y ls) (feeds-input cells w m l e) i))
    go Nothing e = absurd (Memᴰ-not-nil (subst (λ (ls : List ℕ). Memᴰ y ls) (feeds-nothing cells w m l e) i))
    go (Inverted c) e =
        let o : y ≡ opposite l = Memᴰ-eq_of_singleton (subst (λ (ls : List ℕ). Memᴰ y ls) (feeds-inverted cells w m l c e) i) in
        omega (arith, ap (λ (z : ℕ). z / 2) o, opposite-var l)
    go (Matched x) e =
        let j = r.matches l h x e in
        let p = match_pins cells w m (l / 2) x r.in_bounds r.cuts h j in
        nets_in (cell_at cells x.cell).pins (places_of x.order) x.mask (cut_of w m (l / 2) x.cut).leaves m p.within y
        (subst (λ (ls : List ℕ). Memᴰ y ls) (feeds-matched cells w m l x j e ∙ match_nets_lem cells w m (l / 2) x r.in_bounds r.cuts h j) i)

-- ---- only words of the needed phases are written

module _ (m : ℕ) where
  same : (w : List ℕ) → NeedsKept m w w
  same w = kept_same (needed_addr m 0) (needed_addr m (m + 1)) w

  on : (u v w : List ℕ) → NeedsKept m u v → NeedsKept m v w → NeedsKept m u w
  on u v w = kept_on (needed_addr m 0) (needed_addr m (m + 1)) u v w

  pub all-kept : (ls : List ℕ) (w : List ℕ) → HasCapacity w m → ((l : ℕ) → Memᴰ l ls → l / 2 ≤ m) → NeedsKept m w (put_all w m ls)
  unfolding put_all
  all-kept [] w r h = same w
  all-kept (l ∷ ls) w r h =
      let v : l / 2 ≤ m = h l (Memᴰ-head refl) in
      on w (put_needed w m l) (put_all (put_needed w m l) m ls) (need-kept w m l r v)
      (all-kept ls (put_needed w m l) (mark_capacity w m l r v) (λ x i. h x (Memᴰ-tail i)))

  pub outputs-kept : (n k o : ℕ) (w : List ℕ) → OutputsIn w m o → k + n ≤ o → NeedsKept m w (put_outputs w m k n)
  unfolding put_outputs
  outputs-kept zero k o w i h = same w
  outputs-kept (suc n) k o w i h =
      let r = capacity-need w m o i.capacity in
      let v : output_at w m k / 2 ≤ m = i.within k (omega arith) in
      let w' : List ℕ = put_needed w m (output_at w m k) in
      on w w' (put_outputs w' m (suc k) n) (need-kept w m (output_at w m k) r v)
      (outputs-kept n (suc k) o w' (mark_outputs_in w m (output_at w m k) r v o i) (omega arith))

  pub needs-matches : (cells : List Cell) (v w : List ℕ) → NeedsKept m v w → MatchesIn cells v m → MatchesIn cells w m
  needs-matches cells v w k r = matches_in_kept m (needed_addr m 0) (needed_addr m (m + 1)) v w k (omega arith) (omega arith) (omega arith) cells r

  pub needs-slots : (n : ℕ) (v w : List ℕ) → NeedsKept m v w → SlotsIn v m n → SlotsIn w m n
  needs-slots n v w k r = slots_in_kept m (needed_addr m 0) (needed_addr m (m + 1)) v w k (omega arith) (omega arith) n r

  module _ (cells : List Cell) where
    pub once-kept : (w : List ℕ) (l : ℕ) → MatchesIn cells w m → l / 2 ≤ m → NeedsKept m w (fed_once cells w m l)
    unfolding fed_once
    once-kept w l r h = go (is_needed w m l)
      where
        go : (b : Bool) → NeedsKept m w (cond b (put_all w m (feeds_at cells w m l)) w)
        go true = all-kept (feeds_at cells w m l) w r.cuts.capacity (feeds_in cells w m l r h)
        go false = same w

    pub fed-kept : (ls : List ℕ) (w : List ℕ) → MatchesIn cells w m → ((l : ℕ) → Memᴰ l ls → l / 2 ≤ m) → NeedsKept m w (fed_all cells w m ls)
    unfolding fed_all
    fed-kept [] w r h = same w
    fed-kept (l ∷ ls) w r h =
        let w' : List ℕ = fed_once cells w m l in
        let k : NeedsKept m w w' = once-kept w l r (h l (Memᴰ-head refl)) in
        on w w' (fed_all cells w' m ls) k (fed-kept ls w' (needs-matches cells w w' k r) (λ x i. h x (Memᴰ-tail i)))

    -- the phases of a variable are its own
    pub backwards_in : (w : List ℕ) (v : ℕ) → v ≤ m → (l : ℕ) → Memᴰ l (backwards (phase_at w m) v) → l / 2 ≤ m
    unfolding backwards var_of
    backwards_in w v h l i = go (is_inverted (phase_at w m (literal false v)).source) i
      where
        one : (b : Bool) → l ≡ literal b v → l / 2 ≤ m
        one b e = omega (arith, ap (λ (z : ℕ). z / 2) e, lit_var b v)

        two : (a b : Bool) → Memᴰ l (literal a v ∷ literal b v ∷ []) → l / 2 ≤ m
        two a b (Memᴰ-head e) = one a e
        two a b (Memᴰ-tail j) = one b (Memᴰ-eq_of_singleton j)

        go : (b : Bool) → Memᴰ l (cond b (literal false v ∷ literal true v ∷ []) (literal true v ∷ literal false v ∷ [])) → l / 2 ≤ m
        go true j = two false true j
        go false j = two true false j

    pub step_kept : (w : List ℕ) (v : ℕ) → MatchesIn cells w m → v ≤ m → NeedsKept m w (fed_step cells w m v)
    unfolding fed_step
    step_kept w v r h = fed-kept (backwards (phase_at w m) v) w r (backwards_in w v h)

    pub down-kept : (n : ℕ) (w : List ℕ) → MatchesIn cells w m → SlotsIn w m n → NeedsKept m w (fed_down cells w m n)
    unfolding fed_down
    down-kept zero w r s = same w
    down-kept (suc n) w r s =
        let v : slot_at w m n ≤ m = s.within n (omega arith) in
        let w' : List ℕ = fed_step cells w m (slot_at w m n) in
        let k : NeedsKept m w w' = step_kept w (slot_at w m n) r v in
        let s' : SlotsIn w m n = record { capacity = s.capacity; few = omega (arith, s.few); within = λ i h. s.within i (omega arith) } in
        on w w' (fed_down cells w' m n) k (down-kept n w' (needs-matches cells w w' k r) (needs-slots n w w' k s'))

-- ---- the step of a variable, by whether an inverter drives its positive phase

pub literal-phase : (known : ℕ → Phases) (b : Bool) (v : ℕ) → phase_of known (literal b v) ≡ cond b (known v).negative (known v).positive
unfolding phase_of
literal-phase known b v = λ i. cond (lit_neg b v i) (known (lit_var b v i)).negative (known (lit_var b v i)).positive

module _ (cells : List Cell) (w : List ℕ) (m v : ℕ) where
  step_is : (t : Bool) → is_inverted (positive_at w m v).source ≡ t
      → fed_step cells w m v ≡ fed_all cells w m (cond t (literal false v ∷ literal true v ∷ []) (literal true v ∷ literal false v ∷ []))
  unfolding fed_step backwards
  step_is t e =
      ap (λ (b : Bool). fed_all cells w m (cond b (literal false v ∷ literal true v ∷ []) (literal true v ∷ literal false v ∷ [])))
      (ap (λ (p : Phase). is_inverted p.source) (literal-phase (phases_at w m) false v) ∙ e)

  pub step-inverted : is_inverted (positive_at w m v).source ≡ true → fed_step cells w m v ≡ fed_once cells (fed_once cells w m (2 * v)) m (2 * v + 1)
  unfolding fed_all literal
  step-inverted e = step_is true e

  pub step-uninverted : is_inverted (positive_at w m v).source ≡ false → fed_step cells w m v ≡ fed_once cells (fed_once cells w m (2 * v + 1)) m (2 * v)
  unfolding fed_all literal
  step-uninverted e = step_is false e
