-- The arrival of a variant is that of its match.
--     variant_phase       a variant whose places the cut has gives what its match does
--     variant_past        another gives nothing
use Rattle.base.specs.{ℕ, zero, suc, ◌+◌, ◌/◌, ◌<◌, ◌≤◌, max, ◌≡◌, refl, sym, ap, ap₂, ◌∙◌, Bool, true, false, cond, ◌&&◌, ◌||◌, false≢true}
use Rattle.base.specs.{List, [], ◌∷◌, map, add-zero, arith, ltb, length, get_or, lt-ltb, le-ltb, ltb-true, ltb-false}
use Rattle.model.specs.{bit, all, any, cell_at, literal, fed_nets, Phases, phase_of, latest, absent, no_phase, match_phase}
use Rattle.model.specs.declared.Cell.{Cell}
use Rattle.model.specs.declared.Phase.{Phase}
use Rattle.model.specs.declared.Source.TheVariants.{Cell as Matched}
use Rattle.base_truth.specs.{places_of, places_below}
use Rattle.base_truth.proofs.{places-four, place-small, places-fit}
use Rattle.cells_matching.specs.declared.Best.{Best}
use Rattle.cells_matching.specs.{line_of, order_of, mask_of, match_of, places_at, infinite, last_time, time_of, TimesOf, Quick, largest, pin_at}
use Rattle.cells_matching.specs.{arrival_of, arrival_at, phase_as}
use Rattle.cells_matching.proofs.BestMatch.{by_bool}

-- ---- the pins of a match

largest_shift : (p : ℕ → ℕ) (m j : ℕ) → largest p (suc j) m ≡ largest (λ i. p (suc i)) j m
unfolding largest
largest_shift p zero j = refl
largest_shift p (suc m) j = ap (max (p (suc j))) (largest_shift p m (suc j))

lacks : List Phase → Bool
lacks ps = any (λ (p : Phase). absent p.source) ps

arrivals : List Phase → List ℕ
arrivals ps = map (λ (p : Phase). p.arrival) ps

-- a is the arrival that the phases at the pins give, never if one has no source
record Right (ps : List Phase) (ds : List ℕ) (a : ℕ) : Type 0 where
  lacking : lacks ps ≡ true → infinite ≤ a
  given : lacks ps ≡ false → a ≡ latest (arrivals ps) ds
  sooner : lacks ps ≡ false → a < infinite

module _ (p : Phase) (ps : List Phase) (t d a : ℕ) (feeds : t ≡ time_of p + d) (quick : p.arrival ≤ last_time) (delay : d < 131072) where
  time_absent : absent p.source ≡ true → infinite ≤ t
  unfolding time_of
  time_absent e = let n : t ≡ infinite + d = feeds ∙ ap (λ (b : Bool). cond b infinite p.arrival + d) e in omega arith

  time_present : absent p.source ≡ false → t ≡ p.arrival + d
  unfolding time_of
  time_present e = feeds ∙ ap (λ (b : Bool). cond b infinite p.arrival + d) e

  lacks_first : absent p.source ≡ true → lacks (p ∷ ps) ≡ true
  unfolding lacks any
  lacks_first e = ap (λ (b : Bool). b || lacks ps) e

  lacks_rest : absent p.source ≡ false → lacks (p ∷ ps) ≡ lacks ps
  unfolding lacks any
  lacks_rest e = ap (λ (b : Bool). b || lacks ps) e

  pin-joined : (ds es : List ℕ) → latest (arrivals (p ∷ ps)) es ≡ max (p.arrival + d) (latest (arrivals ps) ds) → Right ps ds a → Right (p ∷ ps) es (max t a)
  pin-joined ds es cons r = by_bool (absent p.source)
      (λ e. let n : infinite ≤ t = time_absent e in
      record { lacking = λ q. omega arith; given = λ q. absurd (false≢true (sym q ∙ lacks_first e)); sooner = λ q. absurd (false≢true (sym q ∙ lacks_first e)) })
      (λ e. let n : t ≡ p.arrival + d = time_present e in
      record {
        lacking = λ q. let h : infinite ≤ a = r.lacking (sym (lacks_rest e) ∙ q) in omega arith;
        given = λ q. ap₂ max n (r.given (sym (lacks_rest e) ∙ q)) ∙ sym cons;
        sooner = λ q. let h : a < infinite = r.sooner (sym (lacks_rest e) ∙ q) in omega arith;
      })

latest_cons : (d : ℕ) (ds : List ℕ) (p : Phase) (ps : List Phase) → latest (arrivals (p ∷ ps)) (d ∷ ds) ≡ max (p.arrival + d) (latest (arrivals ps) ds)
unfolding latest arrivals
latest_cons d ds p ps = refl

latest_bare : (p : Phase) (ps : List Phase) → latest (arrivals (p ∷ ps)) [] ≡ max (p.arrival + 0) (latest (arrivals ps) [])
unfolding latest arrivals
latest_bare p ps = ap (λ (t : ℕ). max t (latest (arrivals ps) [])) (sym (add-zero p.arrival))

-- what a pin that is fed from a place adds
unfoldable pin_time : List ℕ → ℕ → Bool → ℕ → ℕ
pin_time times place neg d = get_or times (literal neg place) 0 + d

arrival_cons : (m place : ℕ) (places : List ℕ) (mask d : ℕ) (ds times : List ℕ)
    → arrival_of (suc m) (d ∷ ds) (place ∷ places) mask times ≡ max (pin_time times place (bit mask 0) d) (arrival_of m ds places (mask / 2) times)
unfolding arrival_of largest pin_at pin_time bit
arrival_cons m place places mask d ds times =
    ap (max (pin_time times place (bit mask 0) d)) (largest_shift (pin_at (d ∷ ds) (place ∷ places) mask times) m 0)

arrival_bare : (m place : ℕ) (places : List ℕ) (mask : ℕ) (times : List ℕ)
    → arrival_of (suc m) [] (place ∷ places) mask times ≡ max (pin_time times place (bit mask 0) 0) (arrival_of m [] places (mask / 2) times)
unfolding arrival_of largest pin_at pin_time bit
arrival_bare m place places mask times =
    ap (max (pin_time times place (bit mask 0) 0)) (largest_shift (pin_at [] (place ∷ places) mask times) m 0)

and_first : (a b : Bool) → (a && b) ≡ true → a ≡ true
and_first true b e = refl
and_first false b e = e

and_second : (a b : Bool) → (a && b) ≡ true → b ≡ true
and_second true b e = e
and_second false b e = absurd (false≢true e)

-- the phases at the pins of a match
fed : (ℕ → Phases) → List ℕ → ℕ → List ℕ → ℕ → List Phase
fed known cut m places mask = map (phase_of known) (fed_nets m places mask cut)

module _ (known : ℕ → Phases) (cut times : List ℕ) (timed : TimesOf known cut times) (quick : Quick known cut) where
  pin-feeds : (place : ℕ) (neg : Bool) (d : ℕ) → place < length cut
      → pin_time times place neg d ≡ time_of (phase_of known (literal neg (get_or cut place 0))) + d
  unfolding pin_time
  pin-feeds place neg d h = ap (λ (t : ℕ). t + d) (timed.there place neg h)

  pin_quick : (place : ℕ) (neg : Bool) → place < length cut → (phase_of known (literal neg (get_or cut place 0))).arrival ≤ last_time
  unfolding Quick
  pin_quick place neg h = quick place neg h

  fed_cons : (m place : ℕ) (places : List ℕ) (mask : ℕ)
      → fed known cut (suc m) (place ∷ places) mask ≡ phase_of known (literal (bit mask 0) (get_or cut place 0)) ∷ fed known cut m places (mask / 2)
  unfolding fed fed_nets
  fed_cons m place places mask = refl

  fit-first : (m place : ℕ) (places : List ℕ) → places_below (suc m) (place ∷ places) (length cut) ≡ true → place < length cut
  unfolding places_below all
  fit-first m place places e = ltb-true place (length cut) (and_first (ltb place (length cut)) (places_below m places (length cut)) e)

  fit-rest : (m place : ℕ) (places : List ℕ) → places_below (suc m) (place ∷ places) (length cut) ≡ true → places_below m places (length cut) ≡ true
  unfolding places_below all
  fit-rest m place places e = and_second (ltb place (length cut)) (places_below m places (length cut)) e

  -- one pin more
  fed-more : (m place : ℕ) (places : List ℕ) (mask d : ℕ) (ds es : List ℕ) (a : ℕ) → places_below (suc m) (place ∷ places) (length cut) ≡ true → d < 131072
      → ((p : Phase) (ps : List Phase) → latest (arrivals (p ∷ ps)) es ≡ max (p.arrival + d) (latest (arrivals ps) ds))
      → Right (fed known cut m places (mask / 2)) ds a → Right (fed known cut (suc m) (place ∷ places) mask) es (max (pin_time times place (bit mask 0) d) a)
  fed-more m place places mask d ds es a fit small cons r =
      let h : place < length cut = fit-first m place places fit in
      let p : Phase = phase_of known (literal (bit mask 0) (get_or cut place 0)) in
      rw fed_cons
      (pin-joined p (fed known cut m places (mask / 2)) (pin_time times place (bit mask 0) d) d a (pin-feeds place (bit mask 0) d h) (pin_quick place (bit mask 0) h) small ds es (cons p (fed known cut m places (mask / 2))) r)

  fed-none : (places : List ℕ) (mask : ℕ) (ds : List ℕ) → Right (fed known cut 0 places mask) ds (arrival_of 0 ds places mask times)
  unfolding fed fed_nets arrival_of largest latest arrivals lacks any
  fed-none places mask ds = record { lacking = λ e. absurd (false≢true e); given = λ e. refl; sooner = λ e. omega arith }

  fed-right : (m : ℕ) (places : List ℕ) (mask : ℕ) (ds : List ℕ) → m ≤ length places → ((j : ℕ) → get_or ds j 0 < 131072) → places_below m places (length cut) ≡ true
      → Right (fed known cut m places mask) ds (arrival_of m ds places mask times)
  fed-right zero places mask ds l small fit = fed-none places mask ds
  fed-right (suc m) [] mask ds l small fit = absurd (omega arith)
  fed-right (suc m) (place ∷ places) mask [] l small fit =
      rw arrival_bare
      (fed-more m place places mask 0 [] [] (arrival_of m [] places (mask / 2) times) fit (omega arith) latest_bare
      (fed-right m places (mask / 2) [] (omega arith) small (fit-rest m place places fit)))
  fed-right (suc m) (place ∷ places) mask (d ∷ ds) l small fit =
      rw arrival_cons
      (fed-more m place places mask d ds (d ∷ ds) (arrival_of m ds places (mask / 2) times) fit (small 0) (latest_cons d ds)
      (fed-right m places (mask / 2) ds (omega arith) (λ j. small (suc j)) (fit-rest m place places fit)))

-- ---- a place that the cut has not

module _ (known : ℕ → Phases) (cut times : List ℕ) (timed : TimesOf known cut times) where
  input-arrival-more : (place : ℕ) (neg : Bool) (d a : ℕ) (rest : Bool) → place < 4 → (ltb place (length cut) && rest) ≡ false → (rest ≡ false → infinite ≤ a)
      → infinite ≤ max (pin_time times place neg d) a
  unfolding pin_time
  input-arrival-more place neg d a rest four e more = by_bool (ltb place (length cut))
      (λ q. let h : infinite ≤ a = more (sym (ap (λ (b : Bool). b && rest) q) ∙ e) in omega arith)
      (λ q. let h : get_or times (literal neg place) 0 ≡ infinite = timed.past place neg (ltb-false place (length cut) q) four in omega arith)

  input_arrival : (m : ℕ) (places : List ℕ) (mask : ℕ) (ds : List ℕ) → m ≤ length places → ((j : ℕ) → j < length places → get_or places j 0 < 4)
      → places_below m places (length cut) ≡ false → infinite ≤ arrival_of m ds places mask times
  unfolding places_below all
  input_arrival zero places mask ds l small e = absurd (false≢true (sym e))
  input_arrival (suc m) [] mask ds l small e = absurd (omega arith)
  input_arrival (suc m) (place ∷ places) mask [] l small e =
      rw arrival_bare
      (input-arrival-more place (bit mask 0) 0 (arrival_of m [] places (mask / 2) times) (places_below m places (length cut)) (small 0 (omega arith)) e
      (input_arrival m places (mask / 2) [] (omega arith) (λ j h. small (suc j) (omega arith))))
  input_arrival (suc m) (place ∷ places) mask (d ∷ ds) l small e =
      rw arrival_cons
      (input-arrival-more place (bit mask 0) d (arrival_of m ds places (mask / 2) times) (places_below m places (length cut)) (small 0 (omega arith)) e
      (input_arrival m places (mask / 2) ds (omega arith) (λ j h. small (suc j) (omega arith))))

-- ---- a variant and its match

-- variant x with its arrival
abbrev pub of_variant : List Cell → List ℕ → ℕ → Best
of_variant cells times x = record { variant = x; arrival = arrival_at cells times x }

pub phase-input-arrival : (k : ℕ) (b : Best) → infinite ≤ b.arrival → phase_as k b ≡ no_phase
unfolding phase_as
phase-input-arrival k b h = rw (le-ltb b.arrival infinite h)

pub phase-bounded : (k : ℕ) (b : Best) → b.arrival < infinite → phase_as k b ≡ record { source = Matched (match_of k b.variant); arrival = b.arrival }
unfolding phase_as
phase-bounded k b h = rw (lt-ltb b.arrival infinite h)

module _ (cells : List Cell) (k x : ℕ) (four : (cell_at cells (line_of x)).pins ≤ 4) where
  long : (cell_at cells (line_of x)).pins ≤ length (places_of (order_of x))
  long = omega (arith, places-four (order_of x) (omega arith))

  -- a variant whose places the cut has not gives nothing
  pub variant_past : (known : ℕ → Phases) (cut times : List ℕ) → TimesOf known cut times → places_at cells (length cut) x ≡ false
      → phase_as k (of_variant cells times x) ≡ no_phase
  unfolding places_at arrival_at
  variant_past known cut times timed e =
      phase-input-arrival k (of_variant cells times x)
      (input_arrival known cut times timed (cell_at cells (line_of x)).pins (places_of (order_of x)) (mask_of x) (cell_at cells (line_of x)).delays long
      (λ j h. place-small (order_of x) j (omega arith) (omega (arith, places-four (order_of x) (omega arith))))
      (sym (places-fit (cell_at cells (line_of x)) (places_of (order_of x)) (length cut)) ∙ e))

  -- what a match gives, by the phases at its pins
  match_as : (known : ℕ → Phases) (cut : List ℕ) → match_phase cells known cut (match_of k x)
      ≡ cond (lacks (fed known cut (cell_at cells (line_of x)).pins (places_of (order_of x)) (mask_of x))) no_phase
      (record { source = Matched (match_of k x); arrival = latest (arrivals (fed known cut (cell_at cells (line_of x)).pins (places_of (order_of x)) (mask_of x))) (cell_at cells (line_of x)).delays })
  unfolding match_phase match_of fed lacks arrivals
  match_as known cut = refl

  -- another gives what its match does
  pub variant_phase : (known : ℕ → Phases) (cut times : List ℕ) → TimesOf known cut times → Quick known cut
      → ((j : ℕ) → get_or (cell_at cells (line_of x)).delays j 0 < 131072) → places_at cells (length cut) x ≡ true
      → phase_as k (of_variant cells times x) ≡ match_phase cells known cut (match_of k x)
  unfolding arrival_at places_at
  variant_phase known cut times timed quick small e = by_bool (lacks ps)
      (λ q. phase-input-arrival k b (r.lacking q) ∙ sym (match_as known cut ∙ ap chosen q))
      (λ q. phase-bounded k b (r.sooner q) ∙ ap (λ (t : ℕ). phase t) (r.given q) ∙ sym (match_as known cut ∙ ap chosen q))
    where
      b : Best
      b = of_variant cells times x

      ps : List Phase
      ps = fed known cut (cell_at cells (line_of x)).pins (places_of (order_of x)) (mask_of x)

      phase : ℕ → Phase
      phase t = record { source = Matched (match_of k x); arrival = t }

      chosen : Bool → Phase
      chosen q = cond q no_phase (phase (latest (arrivals ps) (cell_at cells (line_of x)).delays))

      r : Right ps (cell_at cells (line_of x)).delays (arrival_of (cell_at cells (line_of x)).pins (cell_at cells (line_of x)).delays (places_of (order_of x)) (mask_of x) times)
      r = fed-right known cut times timed quick (cell_at cells (line_of x)).pins (places_of (order_of x)) (mask_of x) (cell_at cells (line_of x)).delays long small
          (sym (places-fit (cell_at cells (line_of x)) (places_of (order_of x)) (length cut)) ∙ e)
