-- What feeds a match by its pins, and the largest of feeding arrival plus pin delay, against the definitions that compute them.
--     fed-at, fed_out             the nets that feed a match, by their numbers
--     latest-over, latest-one     the arrival is at least each, and one of them or 0
--     largest-over, largest-one   the same of the latest output
use Rattle.base.specs.{ℕ, zero, suc, ◌+◌, ◌/◌, ◌≤◌, ◌<◌, max, le_of_suc-le-suc, not-suc-le-zero, dec_le, arith, ◌≡◌, refl, ◌⊎◌, inl, inr, ⊎_elim, List, [], ◌∷◌}
use Rattle.base.specs.{Memᴰ, Memᴰ-head, Memᴰ-tail, get_or}
use Rattle.model.specs.{bit, literal, fed_nets, latest, largest}
use Rattle.promises.specs.Covers.{At, first, later}

-- ---- the pins of a match

pub fed-at : (n : ℕ) (places : List ℕ) (mask : ℕ) (cut : List ℕ) {j p : ℕ} → j < n → At places j p → At (fed_nets n places mask cut) j (literal (bit mask j) (get_or cut p 0))
unfolding fed_nets bit
fed-at zero places mask cut h a = absurd (not-suc-le-zero h)
fed-at (suc n) (p ∷ ps) mask cut h first = first
fed-at (suc n) (p ∷ ps) mask cut h (later a) = later (fed-at n ps (mask / 2) cut (le_of_suc-le-suc h) a)
fed-at (suc n) [] mask cut {j = j} {p = p} h a = elim a [ ]

pub fed_out : (n : ℕ) (places : List ℕ) (mask : ℕ) (cut : List ℕ) (j x : ℕ) → At (fed_nets n places mask cut) j x
    → (p : ℕ) × (j < n) × At places j p × (x ≡ literal (bit mask j) (get_or cut p 0))
unfolding fed_nets bit
fed_out (suc n) (p ∷ ps) mask cut zero x first = (p, omega arith, first, refl)
fed_out (suc n) (p ∷ ps) mask cut (suc j) x (later a) =
    let o = fed_out n ps (mask / 2) cut j x a in
    let h = o.1 in
    (o.0, omega arith, later o.2, o.3)
fed_out zero places mask cut j x x3 = elim x3 [ ]
fed_out (suc n) [] mask cut j x x6 = elim x6 [ ]

-- ---- arrivals

pub latest-over : (ts ds : List ℕ) {j t : ℕ} → At ts j t → t + get_or ds j 0 ≤ latest ts ds
unfolding latest
latest-over (t ∷ ts) [] first = omega arith
latest-over (t ∷ ts) [] (later a) = let h = latest-over ts [] a in omega arith
latest-over (t ∷ ts) (d ∷ ds) first = omega arith
latest-over (t ∷ ts) (d ∷ ds) (later a) = let h = latest-over ts ds a in omega arith
latest-over [] ds {j = j} {t = t} x' = elim x' [ ]

-- the larger of a number and what is one of a list's or 0
step : (ts ds : List ℕ) (t d : ℕ) → ((ts ≡ []) × (latest ts ds ≡ 0)) ⊎ ((j : ℕ) × (u : ℕ) × At ts j u × (latest ts ds ≡ u + get_or ds j 0))
    → (j : ℕ) × (u : ℕ) × At (t ∷ ts) j u × (max (t + d) (latest ts ds) ≡ u + get_or (d ∷ ds) j 0)
step ts ds t d r = elim (dec_le (latest ts ds) (t + d)) [
  | yes h ↦ (0, t, first, omega arith)
  | no h ↦ ⊎_elim (λ e. let z = e.1 in absurd (h (omega arith))) (λ o. (suc o.0, o.1, later o.2, (let z = o.3 in omega arith))) r
]

zero_get : (j : ℕ) → ◌≡◌ {A = ℕ} (get_or (0 ∷ []) j 0) 0
zero_get zero = refl
zero_get (suc j) = refl

pub latest-one : (ts ds : List ℕ) → ((ts ≡ []) × (latest ts ds ≡ 0)) ⊎ ((j : ℕ) × (t : ℕ) × At ts j t × (latest ts ds ≡ t + get_or ds j 0))
unfolding latest
latest-one [] ds = inl (refl, refl)
latest-one (t ∷ ts) [] = inr (let o = step ts [] t 0 (latest-one ts []) in (o.0, o.1, o.2, (let z = o.3 in omega (arith, zero_get o.0))))
latest-one (t ∷ ts) (d ∷ ds) = inr (step ts ds t d (latest-one ts ds))

-- ---- "arrival of the latest output (0 without outputs)"

pub largest-over : (ts : List ℕ) {t : ℕ} → Memᴰ t ts → t ≤ largest ts
unfolding largest
largest-over (t ∷ ts) (Memᴰ-head e) = omega arith
largest-over (t ∷ ts) (Memᴰ-tail m) = let h = largest-over ts m in omega arith
largest-over [] {t = t} x' = elim x' [ ]

pub largest-one : (ts : List ℕ) → ((ts ≡ []) × (largest ts ≡ 0)) ⊎ Memᴰ (largest ts) ts
unfolding largest
largest-one [] = inl (refl, refl)
largest-one (t ∷ ts) = inr (elim (dec_le (largest ts) t) [
  | yes h ↦ (let q : max t (largest ts) ≡ t = omega arith in Memᴰ-head q)
  | no h ↦
      let q : max t (largest ts) ≡ largest ts = omega arith in
      ⊎_elim (λ e. let z = e.1 in absurd (h (omega arith))) (λ m. rw q (Memᴰ-tail m)) (largest-one ts)
])
