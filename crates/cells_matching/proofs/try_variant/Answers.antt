-- `cells_matching::try_variant` meets its contract: one pin that is not earlier is enough to stay, and with none the variant is the better.
use Rattle.base.specs.{◌≡◌, refl, ap₂, ◌∙◌, ℕ, ◌+◌, ◌*◌, ◌/◌, ◌%◌, ◌<◌, max, arith, get_or}
use Rattle.cells_matching.specs.{waits}
use Rattle.cells_matching.proofs.BucketWalk.{delay_within, brief-at, brief-first, one-input-arrival, all-early}
use Rattle.cells_matching.proofs.try_variant.Goals as goal

lowest : (n t u v w a : ℕ) → a ≡ max (max t u) (max v w) → t < n → u < n → v < n → w < n → a < n
lowest n t u v w a e ht hu hv hw = omega (arith, e)

pub pin_time-t-requires : goal.pin_time-t-requires
pin_time-t-requires c =
    let a = c.args in
    let p : ℕ = get_or a.matches.now (66560 + 2 * a.x + 1) 0 in
    (omega arith, omega (arith, delay_within a.matches.now a.times.now a.x c.requires.0 a.b p refl), brief-first a.matches.now a.times.now a.x c.requires.0 a.b p refl, c.requires.1)

pub returns-then-b-t : goal.returns-then-b-t
returns-then-b-t c =
    let a = c.args in
    let p : ℕ = get_or a.matches.now (66560 + 2 * a.x + 1) 0 in
    one-input-arrival a.matches.now a.times.now a.x c.requires.0 a.b p refl c.pin_time-t.result (waits a.matches.now a.times.now (p / 16 % 16) (65536 + p / 65536 + 1)) (waits a.matches.now a.times.now (p / 256 % 16) (65536 + p / 65536 + 2)) (waits a.matches.now a.times.now (p / 4096 % 16) (65536 + p / 65536 + 3)) (c.pin_time-t.ensures, refl, refl, refl) (omega (arith, c.if-b-t.true))

pub pin_time-u-requires : goal.pin_time-u-requires
pin_time-u-requires c =
    let a = c.args in
    let p : ℕ = get_or a.matches.now (66560 + 2 * a.x + 1) 0 in
    (omega arith, omega (arith, delay_within a.matches.now a.times.now a.x c.requires.0 a.b p refl), brief-at a.matches.now a.times.now a.x c.requires.0 a.b p refl 1 (omega arith), c.requires.1)

pub returns-then-b-u : goal.returns-then-b-u
returns-then-b-u c =
    let a = c.args in
    let p : ℕ = get_or a.matches.now (66560 + 2 * a.x + 1) 0 in
    one-input-arrival a.matches.now a.times.now a.x c.requires.0 a.b p refl c.pin_time-t.result c.pin_time-u.result (waits a.matches.now a.times.now (p / 256 % 16) (65536 + p / 65536 + 2)) (waits a.matches.now a.times.now (p / 4096 % 16) (65536 + p / 65536 + 3)) (c.pin_time-t.ensures, c.pin_time-u.ensures, refl, refl) (omega (arith, c.if-b-u.true))

pub pin_time-v-requires : goal.pin_time-v-requires
pin_time-v-requires c =
    let a = c.args in
    let p : ℕ = get_or a.matches.now (66560 + 2 * a.x + 1) 0 in
    (omega arith, omega (arith, delay_within a.matches.now a.times.now a.x c.requires.0 a.b p refl), brief-at a.matches.now a.times.now a.x c.requires.0 a.b p refl 2 (omega arith), c.requires.1)

pub returns-then-b-v : goal.returns-then-b-v
returns-then-b-v c =
    let a = c.args in
    let p : ℕ = get_or a.matches.now (66560 + 2 * a.x + 1) 0 in
    one-input-arrival a.matches.now a.times.now a.x c.requires.0 a.b p refl c.pin_time-t.result c.pin_time-u.result c.pin_time-v.result (waits a.matches.now a.times.now (p / 4096 % 16) (65536 + p / 65536 + 3)) (c.pin_time-t.ensures, c.pin_time-u.ensures, c.pin_time-v.ensures, refl) (omega (arith, c.if-b-v.true))

pub pin_time-w-requires : goal.pin_time-w-requires
pin_time-w-requires c =
    let a = c.args in
    let p : ℕ = get_or a.matches.now (66560 + 2 * a.x + 1) 0 in
    (omega arith, omega (arith, delay_within a.matches.now a.times.now a.x c.requires.0 a.b p refl), brief-at a.matches.now a.times.now a.x c.requires.0 a.b p refl 3 (omega arith), c.requires.1)

pub returns-then-b-w : goal.returns-then-b-w
returns-then-b-w c =
    let a = c.args in
    let p : ℕ = get_or a.matches.now (66560 + 2 * a.x + 1) 0 in
    one-input-arrival a.matches.now a.times.now a.x c.requires.0 a.b p refl c.pin_time-t.result c.pin_time-u.result c.pin_time-v.result c.pin_time-w.result (c.pin_time-t.ensures, c.pin_time-u.ensures, c.pin_time-v.ensures, c.pin_time-w.ensures) (omega (arith, c.if-b-w.true))

pub returns : goal.returns
returns c =
    let a = c.args in
    let p : ℕ = get_or a.matches.now (66560 + 2 * a.x + 1) 0 in
    let top = c.max-3.ensures ∙ ap₂ max c.max.ensures c.max-2.ensures in
    all-early a.matches.now a.times.now a.x c.requires.0 a.b p refl c.pin_time-t.result c.pin_time-u.result c.pin_time-v.result c.pin_time-w.result c.max-3.result (c.pin_time-t.ensures, c.pin_time-u.ensures, c.pin_time-v.ensures, c.pin_time-w.ensures) top
    (lowest a.b.arrival c.pin_time-t.result c.pin_time-u.result c.pin_time-v.result c.pin_time-w.result c.max-3.result top c.if-b-t.false c.if-b-u.false c.if-b-v.false c.if-b-w.false)
