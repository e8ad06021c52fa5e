-- The laws of the minimum arrivals in words, which callers of `min_arrival` and `set_min_arrival` cite:
--     min-arrival-put, min-arrival-apart        what was stored is loaded, and every other minimum arrival stays
--     min-arrival-before, min-arrival-behind    so does every word outside the functions
use Rattle.base.specs.{◌≡◌, sym, ap, ap₂, ◌∙◌, List, ℕ, ◌+◌, ◌*◌, ◌/◌, ◌%◌, ◌≤◌, ◌<◌, arith, length, get_or}
use Rattle.base_words.specs.{put_at, HasCapacity, lists_to, output_addr, min_arrival_addr, min_arrival_at, min_arrival_words}
use Rattle.base_words.proofs.WordStores.{length-put, get_put, get_put-below, get_put-above}
use Rattle.base_words.proofs.WordRanges.{get_apart}

module _ (w : List ℕ) (m l t : ℕ) (fits : HasCapacity w m) (within : l / 2 ≤ m) where
  capacity-min : min_arrival_addr m l + 2 ≤ length w
  capacity-min = omega (arith, fits.capacity)

  pub min-arrival-length : length (put_at w (min_arrival_addr m l) (min_arrival_words t)) ≡ length w
  min-arrival-length = length-put w (min_arrival_addr m l) (min_arrival_words t) capacity-min

  pub min-arrival-before : (i : ℕ) → i < lists_to m → get_or (put_at w (min_arrival_addr m l) (min_arrival_words t)) i 0 ≡ get_or w i 0
  min-arrival-before i h = get_put-below w (min_arrival_addr m l) (min_arrival_words t) capacity-min i (omega arith)

  pub min-arrival-behind : (i : ℕ) → output_addr m 0 ≤ i → get_or (put_at w (min_arrival_addr m l) (min_arrival_words t)) i 0 ≡ get_or w i 0
  min-arrival-behind i h = get_put-above w (min_arrival_addr m l) (min_arrival_words t) capacity-min i (omega arith)

  pub min-arrival-put : min_arrival_at (put_at w (min_arrival_addr m l) (min_arrival_words t)) m l ≡ t
  min-arrival-put =
      let here : min_arrival_addr m l + 0 ≡ min_arrival_addr m l = omega arith in
      let a : get_or (put_at w (min_arrival_addr m l) (min_arrival_words t)) (min_arrival_addr m l) 0 ≡ t % 65536 =
      ap (λ (i : ℕ). get_or (put_at w (min_arrival_addr m l) (min_arrival_words t)) i 0) (sym here) ∙ get_put w (min_arrival_addr m l) (min_arrival_words t) capacity-min 0 (omega arith) in
      let b : get_or (put_at w (min_arrival_addr m l) (min_arrival_words t)) (min_arrival_addr m l + 1) 0 ≡ t / 65536 = get_put w (min_arrival_addr m l) (min_arrival_words t) capacity-min 1 (omega arith) in
      let whole : t % 65536 + t / 65536 * 65536 ≡ t = omega arith in
      ap₂ (λ (x y : ℕ). x + y * 65536) a b ∙ whole

  pub min-arrival-apart : (j : ℕ) → (j ≡ l → ⊥) → min_arrival_at (put_at w (min_arrival_addr m l) (min_arrival_words t)) m j ≡ min_arrival_at w m j
  min-arrival-apart j n =
      ap₂ (λ (x y : ℕ). x + y * 65536)
      (get_apart w (min_arrival_addr m l) (min_arrival_words t) capacity-min (min_arrival_addr m j) (λ i b e. n (omega arith)))
      (get_apart w (min_arrival_addr m l) (min_arrival_words t) capacity-min (min_arrival_addr m j + 1) (λ i b e. n (omega arith)))
