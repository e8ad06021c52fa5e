-- Literals in the phase of a mask, and the nets that feed the pins of a match.
--     literal-one         a literal by its phase as a digit
--     nets-length, nets_get       as many as pins, pin j's its leaf in the mask's phase
--     place-below         a place that fits
--     nets_taken          leaves past the last place do not matter
use Rattle.base.specs.{ℕ, zero, suc, ◌+◌, ◌*◌, ◌≤◌, ◌<◌, ◌/◌, not-suc-le-zero, le_of_suc-le-suc, arith, ◌≡◌, refl, ap, Bool, true, false}
use Rattle.base.specs.{◌&&◌, List, [], ◌∷◌, T, ltb, ltb→lt, length, take, get_or, length-take, get_or-take}
use Rattle.model.specs.{bit, one, all, literal, fed_nets}
use Rattle.base_truth.specs.{places_below, pin_net}

pub literal-one : (b : Bool) (v : ℕ) → literal b v ≡ 2 * v + one b
unfolding literal one
literal-one true v = refl
literal-one false v = omega arith

pub nets-length : (m : ℕ) (places : List ℕ) (mask : ℕ) (leaves : List ℕ) → m ≤ length places → length (fed_nets m places mask leaves) ≡ m
unfolding fed_nets
nets-length zero places mask leaves h = refl
nets-length (suc m) [] mask leaves h = absurd (not-suc-le-zero h)
nets-length (suc m) (p ∷ places) mask leaves h = ap suc (nets-length m places (mask / 2) leaves (le_of_suc-le-suc h))

pub nets_get : (m : ℕ) (places : List ℕ) (mask : ℕ) (leaves : List ℕ) (j : ℕ) → m ≤ length places → j < m
    → get_or (fed_nets m places mask leaves) j 0 ≡ pin_net places mask leaves j
unfolding fed_nets bit
nets_get zero places mask leaves j h l = absurd (not-suc-le-zero l)
nets_get (suc m) [] mask leaves j h l = absurd (not-suc-le-zero h)
nets_get (suc m) (p ∷ places) mask leaves zero h l = refl
nets_get (suc m) (p ∷ places) mask leaves (suc j) h l = nets_get m places (mask / 2) leaves j (le_of_suc-le-suc h) (le_of_suc-le-suc l)

both : (a b : Bool) → T (a && b) → T a × T b
both true b h = (tt, h)
both false b h = absurd h

pub place-below : (m : ℕ) (places : List ℕ) (n j : ℕ) → m ≤ length places → j < m → T (places_below m places n) → get_or places j 0 < n
unfolding places_below all
place-below zero places n j h l t = absurd (not-suc-le-zero l)
place-below (suc m) [] n j h l t = absurd (not-suc-le-zero h)
place-below (suc m) (p ∷ places) n zero h l t = ltb→lt p n (both (ltb p n) (all (λ (q : ℕ). ltb q n) (take m places)) t).0
place-below (suc m) (p ∷ places) n (suc j) h l t =
    place-below m places n j (le_of_suc-le-suc h) (le_of_suc-le-suc l) (both (ltb p n) (all (λ (q : ℕ). ltb q n) (take m places)) t).1

pub nets_taken : (m : ℕ) (places : List ℕ) (mask n : ℕ) (leaves : List ℕ) → T (places_below m places (length (take n leaves)))
    → fed_nets m places mask (take n leaves) ≡ fed_nets m places mask leaves
unfolding fed_nets places_below all
nets_taken zero places mask n leaves t = refl
nets_taken (suc m) [] mask n leaves t = refl
nets_taken (suc m) (p ∷ places) mask n leaves t =
    let k : ℕ = length (take n leaves) in let b = both (ltb p k) (all (λ (q : ℕ). ltb q k) (take m places)) t in
    let l : p < n = omega (arith, ltb→lt p k b.0, length-take n leaves) in
    let first : get_or (take n leaves) p 0 ≡ get_or leaves p 0 = get_or-take n leaves p 0 l in
    let rest = nets_taken m places (mask / 2) n leaves b.1 in
    λ i. literal (bit mask 0) (first i) ∷ rest i
