-- The walk along a bucket: what is left of it leads from the best so far to the answer.
--     tabled_arrival       the arrival of a variant, from the match table
--     masked-word         the word of a mask, from that of mask 0
--     walking_within      a head that is not 0 is that of a variant, which may be tried
--     walking_falls       the next head is nearer to the end
--     walking_next        the best so far and the variant give the next best
--     walking_end         at the end the best is the answer; `walking_none`: of an empty bucket there is none
use Rattle.base.specs.{ℕ, zero, suc, ◌+◌, ◌-◌, ◌*◌, ◌/◌, ◌%◌, ◌^◌, ◌<◌, ◌≤◌, max, ◌≡◌, refl, sym, ap, ap₂, subst, ◌∙◌, Bool, true, false}
use Rattle.base.specs.{cond, not, false≢true, List, [], ◌∷◌, add-zero, arith, eqb, ltb, length, get_or, pow_mono, eqb-true, lt-ltb, le-ltb}
use Rattle.model.specs.{bit, one, cell_at, literal}
use Rattle.model.specs.declared.Cell.{Cell}
use Rattle.base_truth.specs.{places_of}
use Rattle.base_truth.proofs.{one-small, one_bit, literal-one, place-small}
use Rattle.cells_matching.specs.declared.Best.{Best}
use Rattle.cells_matching.specs.{line_of, order_of, mask_of, fresh_ones, link_addr, pick_addr, delay_addr, pick_pin, pick_of, masked, word_of}
use Rattle.cells_matching.specs.{pick_at, delay_of, Linked, MatchTable, is_listed, infinite, ArrivalsBounded, VariantInBounds, unmatched_under, unmatched, pin_at}
use Rattle.cells_matching.specs.{largest, arrival_of, arrival_at, waits, tabled_arrival_at, better, best_from, best_under, best_of}
use Rattle.cells_matching.proofs.BestMatch.{by_less}
use Rattle.cells_matching.proofs.FirstVariants.{best_fresh, better-not}
use Rattle.cells_matching.proofs.BucketLinks.{linked_lower}

-- ---- one pin

pub pick_there : (pins : ℕ) (places : List ℕ) (mask j r : ℕ) → j < pins → r ≡ literal (bit mask j) (get_or places j 0) → r ≡ pick_pin pins places mask j
unfolding pick_pin
pick_there pins places mask j r h e = e ∙ sym (ap (λ (b : Bool). cond b (literal (bit mask j) (get_or places j 0)) 8) (lt-ltb j pins h))

pub pick_absent : (pins : ℕ) (places : List ℕ) (mask j : ℕ) → pins ≤ j → 8 ≡ pick_pin pins places mask j
unfolding pick_pin
pick_absent pins places mask j h = sym (ap (λ (b : Bool). cond b (literal (bit mask j) (get_or places j 0)) 8) (le-ltb j pins h))

pub delay_there : (pins : ℕ) (delays : List ℕ) (j : ℕ) → j < pins → get_or delays j 0 ≡ delay_of pins delays j
unfolding delay_of
delay_there pins delays j h = sym (ap (λ (b : Bool). cond b (get_or delays j 0) 0) (lt-ltb j pins h))

pub delay_absent : (pins : ℕ) (delays : List ℕ) (j : ℕ) → pins ≤ j → 0 ≡ delay_of pins delays j
unfolding delay_of
delay_absent pins delays j h = sym (ap (λ (b : Bool). cond b (get_or delays j 0) 0) (le-ltb j pins h))

delay_brief : (pins : ℕ) (delays : List ℕ) (j : ℕ) → get_or delays j 0 < 131072 → delay_of pins delays j < 131072
unfolding delay_of
delay_brief pins delays j h = go (ltb j pins)
  where
    go : (b : Bool) → cond b (get_or delays j 0) 0 < 131072
    go true = h
    go false = omega arith

pub pick_small : (pins order mask j : ℕ) → order < 24 → j < 4 → pick_pin pins (places_of order) mask j ≤ 8
unfolding pick_pin
pick_small pins order mask j h f = go (ltb j pins)
  where
    go : (b : Bool) → cond b (literal (bit mask j) (get_or (places_of order) j 0)) 8 ≤ 8
    go true = omega (arith, place-small order j h f, literal-one (bit mask j) (get_or (places_of order) j 0), one-small (bit mask j))
    go false = omega arith

four-largest : (a b c d : ℕ) → max (max a b) (max c d) ≡ max a (max b (max c (max d 0)))
four-largest a b c d = assoc a b (max c d) ∙ ap (λ (t : ℕ). max a (max b (max c t))) nought
  where
    assoc : (x y z : ℕ) → max (max x y) z ≡ max x (max y z)
    assoc x y z = omega arith

    nought : d ≡ max d 0
    nought = omega arith

module _ (pins : ℕ) (delays : List ℕ) (order mask : ℕ) (times : List ℕ) (bounded : ArrivalsBounded times) where
  -- what pin j waits for, nothing where it is absent
  wait : ℕ → ℕ
  wait j = get_or times (pick_pin pins (places_of order) mask j) 0 + delay_of pins delays j

  wait_there : (j : ℕ) → j < pins → wait j ≡ pin_at delays (places_of order) mask times j
  unfolding wait pin_at
  wait_there j h = ap₂ (λ (i d : ℕ). get_or times i 0 + d) (sym (pick_there pins (places_of order) mask j (literal (bit mask j) (get_or (places_of order) j 0)) h refl)) (sym (delay_there pins delays j h))

  wait_absent : (j : ℕ) → pins ≤ j → wait j ≡ 0
  unfolding wait
  wait_absent j h =
      ap₂ (λ (i d : ℕ). get_or times i 0 + d) (sym (pick_absent pins (places_of order) mask j h)) (sym (delay_absent pins delays j h))
      ∙ ap (λ (t : ℕ). t + 0) bounded.still

  waits-largest : (n : ℕ) → pins ≡ n → n ≤ 4 → max (max (wait 0) (wait 1)) (max (wait 2) (wait 3)) ≡ largest (pin_at delays (places_of order) mask times) 0 n
  unfolding largest
  waits-largest zero e l = rw (wait_absent 0 (omega arith), wait_absent 1 (omega arith), wait_absent 2 (omega arith), wait_absent 3 (omega arith)) (omega arith)
  waits-largest (suc zero) e l = rw (wait_there 0 (omega arith), wait_absent 1 (omega arith), wait_absent 2 (omega arith), wait_absent 3 (omega arith)) (omega arith)
  waits-largest (suc (suc zero)) e l = rw (wait_there 0 (omega arith), wait_there 1 (omega arith), wait_absent 2 (omega arith), wait_absent 3 (omega arith)) (omega arith)
  waits-largest (suc (suc (suc zero))) e l = rw (wait_there 0 (omega arith), wait_there 1 (omega arith), wait_there 2 (omega arith), wait_absent 3 (omega arith)) (omega arith)
  waits-largest (suc (suc (suc (suc zero)))) e l =
      rw (wait_there 0 (omega arith), wait_there 1 (omega arith), wait_there 2 (omega arith), wait_there 3 (omega arith))
      (four-largest (pin 0) (pin 1) (pin 2) (pin 3))
    where
      pin : ℕ → ℕ
      pin j = pin_at delays (places_of order) mask times j
  waits-largest (suc (suc (suc (suc (suc n))))) e l = absurd (omega arith)

  arrival-waits : pins ≤ 4 → max (max (wait 0) (wait 1)) (max (wait 2) (wait 3)) ≡ arrival_of pins delays (places_of order) mask times
  unfolding arrival_of
  arrival-waits four = waits-largest pins refl four

-- ---- the four pins of a variant

-- the pick of each pin out of the word, and where the delays stand
nibbles : (a b c d l : ℕ) → a ≤ 8 → b ≤ 8 → c ≤ 8 → d ≤ 8
    → ((a + 16 * b + 256 * c + 4096 * d + 262144 * l) % 16 ≡ a) × ((a + 16 * b + 256 * c + 4096 * d + 262144 * l) / 16 % 16 ≡ b)
    × ((a + 16 * b + 256 * c + 4096 * d + 262144 * l) / 256 % 16 ≡ c) × ((a + 16 * b + 256 * c + 4096 * d + 262144 * l) / 4096 % 16 ≡ d)
    × ((a + 16 * b + 256 * c + 4096 * d + 262144 * l) / 65536 ≡ 4 * l)
nibbles a b c d l ha hb hc hd = (omega arith, omega arith, omega arith, omega arith, omega arith)

module _ (pins x : ℕ) where
  pin : ℕ → ℕ
  pin j = pick_pin pins (places_of (order_of x)) (mask_of x) j

  pin-small : (j : ℕ) → j < 4 → pin j ≤ 8
  unfolding pin
  pin-small j f = pick_small pins (order_of x) (mask_of x) j (omega arith) f

  word-parts : (word_of pins x % 16 ≡ pin 0) × (word_of pins x / 16 % 16 ≡ pin 1) × (word_of pins x / 256 % 16 ≡ pin 2) × (word_of pins x / 4096 % 16 ≡ pin 3) × (word_of pins x / 65536 ≡ 4 * line_of x)
  unfolding word_of pick_of pin
  word-parts = nibbles (pin 0) (pin 1) (pin 2) (pin 3) (line_of x) (pin-small 0 (omega arith)) (pin-small 1 (omega arith)) (pin-small 2 (omega arith)) (pin-small 3 (omega arith))

module _ (cells : List Cell) (s times : List ℕ) (matches : MatchTable cells s) (bounded : ArrivalsBounded times) where
  pub tabled_arrival : (x : ℕ) → x < 384 * length cells → get_or s (pick_addr x) 0 ≡ pick_at cells x → tabled_arrival_at s times x ≡ arrival_at cells times x
  unfolding tabled_arrival_at arrival_at pick_at wait pin
  tabled_arrival x h e =
      ap (λ (q : ℕ). max (max (waits s times (q % 16) (delay_addr (line_of x) 0)) (waits s times (q / 16 % 16) (delay_addr (line_of x) 1)))
      (max (waits s times (q / 256 % 16) (delay_addr (line_of x) 2)) (waits s times (q / 4096 % 16) (delay_addr (line_of x) 3)))) e
      ∙ ap₂ max (ap₂ max (one-pin 0 n.0 (omega arith)) (one-pin 1 n.1 (omega arith))) (ap₂ max (one-pin 2 n.2 (omega arith)) (one-pin 3 n.3 (omega arith)))
      ∙ arrival-waits pins delays (order_of x) (mask_of x) times bounded (matches.matchable.pins (line_of x))
    where
      pins : ℕ
      pins = (cell_at cells (line_of x)).pins

      delays : List ℕ
      delays = (cell_at cells (line_of x)).delays

      n : (word_of pins x % 16 ≡ pin pins x 0) × (word_of pins x / 16 % 16 ≡ pin pins x 1) × (word_of pins x / 256 % 16 ≡ pin pins x 2) × (word_of pins x / 4096 % 16 ≡ pin pins x 3) × (word_of pins x / 65536 ≡ 4 * line_of x)
      n = word-parts pins x

      one-pin : (j : ℕ) {i : ℕ} → i ≡ pin pins x j → j < 4 → waits s times i (delay_addr (line_of x) j) ≡ get_or times (pin pins x j) 0 + delay_of pins delays j
      one-pin j e f = ap₂ (λ (i d : ℕ). get_or times i 0 + d) e (matches.delayed (line_of x) j (omega arith) f)

-- ---- one variant tried

pub better_strict : (b : Best) (x a : ℕ) → a < b.arrival → better b x a ≡ record { variant = x; arrival = a }
unfolding better
better_strict b x a h = rw (lt-ltb a b.arrival h)

module _ (s times : List ℕ) (x : ℕ) (ready : VariantInBounds s x) (b : Best) (p : ℕ) (picked : p ≡ get_or s (pick_addr x) 0) where
  -- where the word says that the delays stand
  led_by : p / 65536 ≡ 4 * line_of x
  led_by = ap (λ (q : ℕ). q / 65536) picked ∙ ready.led

  pub delay_within : 65536 + p / 65536 + 3 < length s
  delay_within = omega (arith, led_by, ready.within, ready.there)

  pub brief-at : (j : ℕ) → j < 4 → get_or s (65536 + p / 65536 + j) 0 < 131072
  brief-at j f = subst (λ (d : ℕ). get_or s (65536 + d + j) 0 < 131072) (sym led_by) (ready.brief j f)

  pub brief-first : get_or s (65536 + p / 65536) 0 < 131072
  brief-first = subst (λ (a : ℕ). get_or s a 0 < 131072) (add-zero (65536 + p / 65536)) (brief-at 0 (omega arith))

  -- what the four pins wait for
  abbrev pub Four : ℕ → ℕ → ℕ → ℕ → Type 0
  Four t u v w =
      (t ≡ waits s times (p % 16) (65536 + p / 65536)) × (u ≡ waits s times (p / 16 % 16) (65536 + p / 65536 + 1))
      × (v ≡ waits s times (p / 256 % 16) (65536 + p / 65536 + 2)) × (w ≡ waits s times (p / 4096 % 16) (65536 + p / 65536 + 3))

  four_tabled : (t u v w : ℕ) → Four t u v w → max (max t u) (max v w) ≡ tabled_arrival_at s times x
  unfolding tabled_arrival_at
  four_tabled t u v w f =
      let e : 65536 + p / 65536 ≡ delay_addr (line_of x) 0 = ap (λ (d : ℕ). 65536 + d) led_by ∙ sym (add-zero (65536 + 4 * line_of x)) in
      ap₂ max (ap₂ max (f.0 ∙ ap (waits s times (p % 16)) e) (f.1 ∙ ap (λ (d : ℕ). waits s times (p / 16 % 16) (65536 + d + 1)) led_by))
      (ap₂ max (f.2 ∙ ap (λ (d : ℕ). waits s times (p / 256 % 16) (65536 + d + 2)) led_by) (f.3 ∙ ap (λ (d : ℕ). waits s times (p / 4096 % 16) (65536 + d + 3)) led_by))
      ∙ ap (λ (q : ℕ). max (max (waits s times (q % 16) (delay_addr (line_of x) 0)) (waits s times (q / 16 % 16) (delay_addr (line_of x) 1)))
      (max (waits s times (q / 256 % 16) (delay_addr (line_of x) 2)) (waits s times (q / 4096 % 16) (delay_addr (line_of x) 3)))) picked

  -- one pin that is not earlier is enough
  pub one-input-arrival : (t u v w : ℕ) → Four t u v w → b.arrival ≤ max (max t u) (max v w) → b ≡ better b x (tabled_arrival_at s times x)
  one-input-arrival t u v w f h = sym (better-not b x (tabled_arrival_at s times x) (omega (arith, four_tabled t u v w f)))

  pub all-early : (t u v w a : ℕ) → Four t u v w → a ≡ max (max t u) (max v w) → a < b.arrival → record { variant = x; arrival = a } ≡ better b x (tabled_arrival_at s times x)
  all-early t u v w a f e h =
      sym (better_strict b x a h) ∙ ap (better b x) (e ∙ four_tabled t u v w f)

-- ---- the walk

-- at head h with best b: the variants that are left lead to the answer
abbrev pub Walking : List Cell → List ℕ → Best → List ℕ → ℕ → Best → Type 0
Walking cells times answer s h b = (rest : List ℕ) × Linked cells s 0 h rest × (best_from cells times b rest ≡ answer)

-- for every list of cells whose match table this is
abbrev pub Walks : List ℕ → ℕ → List ℕ → ℕ → ℕ → Best → Type 0
Walks s f times bound h b = (cells : List Cell) → MatchTable cells s → Walking cells times (best_under cells f times bound) s h b

-- how far a head is from the end
pub togo : ℕ → ℕ
togo zero = 0
togo (suc x) = 131072 - suc x

-- the head of a bucket that is not empty
within : (cells : List Cell) (s : List ℕ) (h : ℕ) (rest : List ℕ) → Linked cells s 0 h rest → 0 < h → h - 1 < 384 * length cells
unfolding Linked
within cells s h [] k l = absurd (omega (arith, k))
within cells s h (x ∷ xs) k l = omega (arith, k.0, k.2)

-- and its word
worded : (cells : List Cell) (s : List ℕ) (h : ℕ) (rest : List ℕ) → Linked cells s 0 h rest → 0 < h → get_or s (pick_addr (h - 1)) 0 ≡ pick_at cells (h - 1)
unfolding Linked
worded cells s h [] k l = absurd (omega (arith, k))
worded cells s h (x ∷ xs) k l = let p : h - 1 ≡ x = omega (arith, k.0) in rw p k.3

led_to : (cells : List Cell) (s : List ℕ) (x : ℕ) → get_or s (pick_addr x) 0 ≡ pick_at cells x → get_or s (pick_addr x) 0 / 65536 ≡ 4 * line_of x
unfolding pick_at
led_to cells s x e = ap (λ (q : ℕ). q / 65536) e ∙ (word-parts (cell_at cells (line_of x)).pins x).4

falls : (cells : List Cell) (s : List ℕ) (h : ℕ) (rest : List ℕ) → Linked cells s 0 h rest → 0 < h → 384 * length cells ≤ 98304 → togo (get_or s (link_addr (h - 1)) 0) < togo h
unfolding Linked togo
falls cells s h [] k l few = absurd (omega (arith, k))
falls cells s h (x ∷ xs) k l few =
    let e : h ≡ suc x = omega (arith, k.0) in
    let p : suc x - 1 ≡ x = omega arith in
    rw (e, p) (next xs (get_or s (link_addr x) 0) k.4)
  where
    next : (ys : List ℕ) (g : ℕ) → Linked cells s (suc x) g ys → togo g < 131072 - suc x
    next [] g m = rw m (omega (arith, k.2))
    next (y ∷ ys) g m =
        let e : g ≡ suc y = omega (arith, m.0) in
        rw e (omega (arith, m.1, m.2))

module _ (cells : List Cell) (times : List ℕ) (answer : Best) (s : List ℕ) (matches : MatchTable cells s) where
  pub walking_within : (h : ℕ) (b : Best) → Walking cells times answer s h b → 0 < h → VariantInBounds s (h - 1)
  walking_within h b w l =
      let k = within cells s h w.0 w.1 l in
      record {
        within = omega (arith, k, matches.matchable.few);
        there = omega (arith, k, matches.long);
        led = led_to cells s (h - 1) (worded cells s h w.0 w.1 l);
        brief = λ j f. rw (matches.delayed (line_of (h - 1)) j (omega arith) f)
            (delay_brief (cell_at cells (line_of (h - 1))).pins (cell_at cells (line_of (h - 1))).delays j (matches.matchable.delays (line_of (h - 1)) j));
      }

  pub walking_falls : (h : ℕ) (b : Best) → Walking cells times answer s h b → 0 < h → togo (get_or s (link_addr (h - 1)) 0) < togo h
  walking_falls h b w l = falls cells s h w.0 w.1 l (omega (arith, matches.matchable.few))

  step : ArrivalsBounded times → (h : ℕ) (b : Best) (rest : List ℕ) → 0 < h → Linked cells s 0 h rest → best_from cells times b rest ≡ answer
      → Walking cells times answer s (get_or s (link_addr (h - 1)) 0) (better b (h - 1) (tabled_arrival_at s times (h - 1)))
  unfolding Linked best_from
  step bounded h b [] l k e = absurd (omega (arith, k))
  step bounded h b (x ∷ xs) l k e =
      let p : h - 1 ≡ x = omega (arith, k.0) in
      rw (p, tabled_arrival cells s times matches bounded x k.2 k.3) (xs, linked_lower cells s (suc x) 0 (get_or s (link_addr x) 0) xs (omega arith) k.4, e)

  pub walking_next : ArrivalsBounded times → (h : ℕ) (b : Best) → Walking cells times answer s h b → 0 < h
      → Walking cells times answer s (get_or s (link_addr (h - 1)) 0) (better b (h - 1) (tabled_arrival_at s times (h - 1)))
  walking_next bounded h b w l = step bounded h b w.0 l w.1 w.2

  done : (h : ℕ) (b : Best) (rest : List ℕ) → h ≤ 0 → Linked cells s 0 h rest → best_from cells times b rest ≡ answer → b ≡ answer
  unfolding Linked best_from
  done h b [] l k e = e
  done h b (x ∷ xs) l k e = absurd (omega (arith, k.0))

  pub walking_end : (h : ℕ) (b : Best) → Walking cells times answer s h b → h ≤ 0 → b ≡ answer
  walking_end h b w l = done h b w.0 l w.1 w.2

-- the walk begins
pub walking_first : (cells : List Cell) (s : List ℕ) (f : ℕ) (times : List ℕ) (bound : ℕ) → MatchTable cells s → f < 65536
    → Walking cells times (best_under cells f times bound) s (get_or s f 0) (unmatched_under bound)
walking_first cells s f times bound matches small = (fresh_ones cells f, matches.chained f small, best_fresh cells times f matches.matchable.pins bound)

-- a table that is no variant's
pub walking_none : (cells : List Cell) (s : List ℕ) (f : ℕ) (times : List ℕ) → MatchTable cells s → f < 65536 → is_listed s f ≡ false → unmatched ≡ best_of cells f times
unfolding is_listed best_of
walking_none cells s f times matches small e =
    walking_end cells times (best_of cells f times) s matches (get_or s f 0) unmatched (walking_first cells s f times infinite matches small) (omega (arith, head (eqb (get_or s f 0) 0) refl e))
  where
    head : (t : Bool) → eqb (get_or s f 0) 0 ≡ t → is_listed s f ≡ false → get_or s f 0 ≡ 0
    head true q h = eqb-true (get_or s f 0) 0 q
    head false q h = absurd (false≢true (sym h ∙ ap not q))

-- ---- the word of a mask

-- pin j's phase is bit j of the mask
pick_masked : (pins : ℕ) (places : List ℕ) (mask j : ℕ) → one (bit 0 j) ≡ 0 → (pins ≤ j → mask / 2 ^ j ≡ 0) → pick_pin pins places mask j ≡ pick_pin pins places 0 j + mask / 2 ^ j % 2
pick_masked pins places mask j none past = by_less j pins
    (λ l. omega (
      arith,
      pick_there pins places mask j (literal (bit mask j) (get_or places j 0)) l refl,
      pick_there pins places 0 j (literal (bit 0 j) (get_or places j 0)) l refl,
      literal-one (bit mask j) (get_or places j 0),
      literal-one (bit 0 j) (get_or places j 0),
      one_bit mask j,
      none,
    ))
    (λ l. omega (arith, pick_absent pins places mask j l, pick_absent pins places 0 j l, past l))

pub masked-word : (pins : ℕ) (places : List ℕ) (mask line : ℕ) → mask < 2 ^ pins → masked (pick_of pins places 0 + 262144 * line) mask ≡ pick_of pins places mask + 262144 * line
unfolding masked pick_of one bit
masked-word pins places mask line h =
    let small : (j : ℕ) → pins ≤ j → mask < 2 ^ j = λ j l. omega (arith, pow_mono {i = pins} {j = j} l) in
    omega (
      arith,
      pick_masked pins places mask 0 refl (λ l. omega (arith, small 0 l)),
      pick_masked pins places mask 1 refl (λ l. omega (arith, small 1 l)),
      pick_masked pins places mask 2 refl (λ l. omega (arith, small 2 l)),
      pick_masked pins places mask 3 refl (λ l. omega (arith, small 3 l)),
    )

pub pick_first : (pins : ℕ) (places : List ℕ) (j : ℕ) → j < pins → j < 4 → 2 * get_or places j 0 ≡ pick_pin pins places 0 j
unfolding one bit
pick_first pins places j l f =
    omega (arith, pick_there pins places 0 j (literal (bit 0 j) (get_or places j 0)) l refl, literal-one (bit 0 j) (get_or places j 0), none j f)
  where
    none : (j : ℕ) → j < 4 → one (bit 0 j) ≡ 0
    none zero f = refl
    none (suc zero) f = refl
    none (suc (suc zero)) f = refl
    none (suc (suc (suc zero))) f = refl
    none (suc (suc (suc (suc j)))) f = absurd (omega arith)
