-- The former store of the cuts, in which the five words of a cut stood together, the cuts one after the other. `former` makes it of the store by columns:
--     former-length               it has as many words
--     former-zeros                "the zeroed store" is zeros
--     former_outside              the words outside the lists are there
--     former-cut, former-function "each old cut is found under its old number", and so is its function
--     former-put-cut              a cut that is stored by columns is stored there under the same number
--     former-put                  words stored outside the lists are stored there too
-- So one store follows the other from word to word, and what is read of a cut is the same.
use Rattle.base.specs.{◌≡◌, refl, sym, ap, ◌∙◌, Bool, true, false, cond, List, [], ◌∷◌, ℕ, zero, suc, ◌+◌, ◌-◌, ◌*◌, ◌/◌, ◌%◌, ◌≤◌, ◌<◌}
use Rattle.base.specs.{add-zero, zero-add, not-suc-le-zero, le_of_suc-le-suc, arith, ltb, eqb, length, get_or, ext_get_or, eqb-true, eqb-false}
use Rattle.base.specs.{ltb-true, ltb-false, lt-ltb, le-ltb}
use Rattle.model.specs.{cut_limit}
use Rattle.model.specs.declared.Cut.{Cut}
use Rattle.base_words.specs.{put_at, zeros, HasCapacity, block, cut_addr, function_addr, lists_from, lists_to, cut_by, cut_of, function_of, put_cut}
use Rattle.base_words.proofs.WordStores.{length-put, get_put, get_put-below, get_put-above}
use Rattle.base_words.proofs.WordRanges.{get_apart, put_same}
use Rattle.base_words.proofs.ColumnAddresses.{cut-from, cut_to}
use Rattle.base_words.proofs.StoredCuts.{same-cut, put-cut-length, put-cut-before, put-cut-behind, word-stored, word_stays}

-- ---- the former store

-- the five words of cut k of v stood from here on
abbrev pub former_addr : ℕ → ℕ → ℕ → ℕ
former_addr m v k = 16 * (m + 1) + block * v + 5 * k

unfoldable pub former_cut : List ℕ → ℕ → ℕ → ℕ → Cut
former_cut w m v k = cut_by (λ c. get_or w (former_addr m v k + c) 0)

-- the functions stood where they stand
unfoldable pub former_function : List ℕ → ℕ → ℕ → ℕ → ℕ
former_function w m v k = get_or w ((16 + block) * (m + 1) + cut_limit * v + k) 0

unfoldable pub former_put : List ℕ → ℕ → ℕ → ℕ → List ℕ → List ℕ
former_put w m v k ws = put_at w (former_addr m v k) ws

-- word q of the former lists, in the store by columns
abbrev pub in_column : ℕ → ℕ → ℕ
in_column m q = 16 * (m + 1) + q % 5 * (cut_limit * (m + 1)) + q / 5

-- and any word
unfoldable pub whence : ℕ → ℕ → ℕ
whence m i = cond (ltb i (lists_from m)) i (cond (ltb i (lists_to m)) (in_column m (i - lists_from m)) i)

-- f's words, from number i on
unfoldable pub listing : (ℕ → ℕ) → ℕ → ℕ → List ℕ
listing f i zero = []
listing f i (suc n) = f i ∷ listing f (suc i) n

-- the former store
unfoldable pub former : ℕ → List ℕ → List ℕ
former m w = listing (λ i. get_or w (whence m i) 0) 0 (length w)

-- ---- its words

length-listing : (f : ℕ → ℕ) (i n : ℕ) → length (listing f i n) ≡ n
unfolding listing
length-listing f i zero = refl
length-listing f i (suc n) = ap suc (length-listing f (suc i) n)

get_listing : (f : ℕ → ℕ) (i n j : ℕ) → j < n → get_or (listing f i n) j 0 ≡ f (i + j)
unfolding listing
get_listing f i zero j h = absurd (not-suc-le-zero h)
get_listing f i (suc n) zero h = ap f (sym (add-zero i))
get_listing f i (suc n) (suc j) h = let e : suc i + j ≡ i + suc j = omega arith in get_listing f (suc i) n j (le_of_suc-le-suc h) ∙ ap f e

whence_before : (m i : ℕ) → i < lists_from m → whence m i ≡ i
unfolding whence
whence_before m i h = ap (λ (b : Bool). cond b i (cond (ltb i (lists_to m)) (in_column m (i - lists_from m)) i)) (lt-ltb i (lists_from m) h)

whence_behind : (m i : ℕ) → lists_to m ≤ i → whence m i ≡ i
unfolding whence
whence_behind m i h =
    ap (λ (b : Bool). cond b i (cond (ltb i (lists_to m)) (in_column m (i - lists_from m)) i)) (le-ltb i (lists_from m) (omega arith))
    ∙ ap (λ (b : Bool). cond b (in_column m (i - lists_from m)) i) (le-ltb i (lists_to m) h)

-- a word of a cut
whence_cut : (m v k c : ℕ) → v ≤ m → k < cut_limit → c < 5 → whence m (former_addr m v k + c) ≡ cut_addr m c v k
unfolding whence
whence_cut m v k c inside few h =
    let i : ℕ = former_addr m v k + c in let column : (i - lists_from m) % 5 ≡ c = omega arith in
    let row : (i - lists_from m) / 5 ≡ cut_limit * v + k = omega arith in
    ap (λ (b : Bool). cond b i (cond (ltb i (lists_to m)) (in_column m (i - lists_from m)) i)) (le-ltb i (lists_from m) (omega arith))
    ∙ ap (λ (b : Bool). cond b (in_column m (i - lists_from m)) i) (lt-ltb i (lists_to m) (omega arith))
    ∙ (λ t. 16 * (m + 1) + column t * (cut_limit * (m + 1)) + row t)

-- every word of the former lists is one of a cut
record InLists (m i : ℕ) : Type 0 where
  variable : ℕ
  number : ℕ
  column : ℕ
  here : i ≡ former_addr m variable number + column
  within : variable ≤ m
  min_arrival : number < cut_limit
  five : column < 5

in_lists : (m i : ℕ) → lists_from m ≤ i → i < lists_to m → InLists m i
in_lists m i a b =
    let q : ℕ = i - 16 * (m + 1) in
    record {
      variable = q / 5 / 18;
      number = q / 5 % 18;
      column = q % 5;
      here = omega arith;
      within = omega arith;
      min_arrival = omega arith;
      five = omega arith;
    }

pub former-length : (m : ℕ) (w : List ℕ) → length (former m w) ≡ length w
unfolding former
former-length m w = length-listing (λ i. get_or w (whence m i) 0) 0 (length w)

former-word : (m : ℕ) (w : List ℕ) (i : ℕ) → i < length w → get_or (former m w) i 0 ≡ get_or w (whence m i) 0
unfolding former
former-word m w i h = get_listing (λ j. get_or w (whence m j) 0) 0 (length w) i h ∙ ap (λ (j : ℕ). get_or w (whence m j) 0) (zero-add i)

-- ---- what is read of it

zero_word : (n i : ℕ) → get_or (zeros n) i 0 ≡ 0
zero_word zero i = refl
zero_word (suc n) zero = refl
zero_word (suc n) (suc i) = zero_word n i

pub former-zeros : (m n : ℕ) → former m (zeros n) ≡ zeros n
former-zeros m n =
    ext_get_or 0 (former m (zeros n)) (zeros n) (former-length m (zeros n))
    (λ i l. former-word m (zeros n) i (omega (arith, former-length m (zeros n))) ∙ zero_word n (whence m i) ∙ sym (zero_word n i))

module _ (m : ℕ) (w : List ℕ) (fits : HasCapacity w m) where
  pub former_outside : (i : ℕ) → i < length w → (lists_from m ≤ i → lists_to m ≤ i) → get_or (former m w) i 0 ≡ get_or w i 0
  former_outside i l outside = former-word m w i l ∙ by (ltb i (lists_from m)) refl
    where
      by : (t : Bool) → ltb i (lists_from m) ≡ t → get_or w (whence m i) 0 ≡ get_or w i 0
      by true e = ap (λ (j : ℕ). get_or w j 0) (whence_before m i (ltb-true i (lists_from m) e))
      by false e = ap (λ (j : ℕ). get_or w j 0) (whence_behind m i (outside (ltb-false i (lists_from m) e)))

  module _ (v k : ℕ) (inside : v ≤ m) (few : k < cut_limit) where
    cut_word_lem : (c : ℕ) → c < 5 → get_or (former m w) (former_addr m v k + c) 0 ≡ get_or w (cut_addr m c v k) 0
    cut_word_lem c h =
        former-word m w (former_addr m v k + c) (omega (arith, fits.capacity)) ∙ ap (λ (i : ℕ). get_or w i 0) (whence_cut m v k c inside few h)

    pub former-cut : former_cut (former m w) m v k ≡ cut_of w m v k
    unfolding former_cut cut_of
    former-cut = same-cut (λ c. get_or (former m w) (former_addr m v k + c) 0) (λ c. get_or w (cut_addr m c v k) 0) cut_word_lem

    pub former-function : former_function (former m w) m v k ≡ function_of w m v k
    unfolding former_function function_of
    former-function = former_outside (function_addr m v k) (omega (arith, fits.capacity)) (λ h. omega arith)

-- ---- what is stored

module _ (w : List ℕ) (m v k : ℕ) (ws : List ℕ) (fits : HasCapacity w m) (inside : v ≤ m) (few : k < cut_limit) (five : length ws ≡ 5) where
  long : length (put_cut w m v k ws) ≡ length w
  long = put-cut-length w m v k ws fits inside few five

  fits-put : HasCapacity (put_cut w m v k ws) m
  fits-put = record { small = fits.small; capacity = omega (arith, fits.capacity, long) }

  fits-former : former_addr m v k + length ws ≤ length (former m w)
  fits-former = omega (arith, fits.capacity, former-length m w)

  -- a word of cut j of u
  stored-word : (u j c : ℕ) → u ≤ m → j < cut_limit → c < 5
      → get_or (former m (put_cut w m v k ws)) (former_addr m u j + c) 0 ≡ get_or (put_at (former m w) (former_addr m v k) ws) (former_addr m u j + c) 0
  stored-word u j c within min_arrival h = cut_word_lem m (put_cut w m v k ws) fits-put u j within min_arrival c h ∙ by (eqb u v) refl (eqb j k) refl
    where
      other : (u ≡ v → j ≡ k → ⊥)
          → get_or (put_cut w m v k ws) (cut_addr m c u j) 0 ≡ get_or (put_at (former m w) (former_addr m v k) ws) (former_addr m u j + c) 0
      other n =
          word_stays w m v k ws fits inside few five u j within min_arrival n c h ∙ sym (cut_word_lem m w fits u j within min_arrival c h) ∙ sym
          (get_apart (former m w) (former_addr m v k) ws fits-former (former_addr m u j + c)
          (λ d b e. let same : u ≡ v = omega arith in n same (omega arith)))

      by : (s : Bool) → eqb u v ≡ s → (t : Bool) → eqb j k ≡ t
          → get_or (put_cut w m v k ws) (cut_addr m c u j) 0 ≡ get_or (put_at (former m w) (former_addr m v k) ws) (former_addr m u j + c) 0
      by true e true f =
          let a : u ≡ v = eqb-true u v e in let b : j ≡ k = eqb-true j k f in
          (λ i. get_or (put_cut w m v k ws) (cut_addr m c (a i) (b i)) 0) ∙ word-stored w m v k ws fits inside few five c h
          ∙ sym (get_put (former m w) (former_addr m v k) ws fits-former c (omega (arith, five)))
          ∙ sym (λ i. get_or (put_at (former m w) (former_addr m v k) ws) (former_addr m (a i) (b i) + c) 0)
      by true e false f = other (λ a. eqb-false j k f)
      by false e t f = other (λ a. absurd (eqb-false u v e a))

  each : (i : ℕ) → i < length w → get_or (former m (put_cut w m v k ws)) i 0 ≡ get_or (put_at (former m w) (former_addr m v k) ws) i 0
  each i l = by (ltb i (lists_from m)) refl (ltb i (lists_to m)) refl
    where
      kept : (lists_from m ≤ i → lists_to m ≤ i) → get_or (put_cut w m v k ws) i 0 ≡ get_or w i 0
          → get_or (put_at (former m w) (former_addr m v k) ws) i 0 ≡ get_or (former m w) i 0
          → get_or (former m (put_cut w m v k ws)) i 0 ≡ get_or (put_at (former m w) (former_addr m v k) ws) i 0
      kept outside a b = former_outside m (put_cut w m v k ws) fits-put i (omega (arith, long)) outside ∙ a ∙ sym (former_outside m w fits i l outside) ∙ sym b

      by : (s : Bool) → ltb i (lists_from m) ≡ s → (t : Bool) → ltb i (lists_to m) ≡ t
          → get_or (former m (put_cut w m v k ws)) i 0 ≡ get_or (put_at (former m w) (former_addr m v k) ws) i 0
      by true e t f =
          let h : i < lists_from m = ltb-true i (lists_from m) e in
          kept (λ g. absurd (omega arith)) (put-cut-before w m v k ws fits inside few five i h)
          (get_put-below (former m w) (former_addr m v k) ws fits-former i (omega arith))
      by false e false f =
          let h : lists_to m ≤ i = ltb-false i (lists_to m) f in
          kept (λ g. h) (put-cut-behind w m v k ws fits inside few five i h)
          (get_put-above (former m w) (former_addr m v k) ws fits-former i (omega (arith, five)))
      by false e true f =
          let o = in_lists m i (ltb-false i (lists_from m) e) (ltb-true i (lists_to m) f) in
          ap (λ (x : ℕ). get_or (former m (put_cut w m v k ws)) x 0) o.here
          ∙ stored-word o.variable o.number o.column o.within o.min_arrival o.five
          ∙ sym (ap (λ (x : ℕ). get_or (put_at (former m w) (former_addr m v k) ws) x 0) o.here)

  pub former-put-cut : former m (put_cut w m v k ws) ≡ former_put (former m w) m v k ws
  unfolding former_put
  former-put-cut =
      ext_get_or 0 (former m (put_cut w m v k ws)) (put_at (former m w) (former_addr m v k) ws)
      (former-length m (put_cut w m v k ws) ∙ long ∙ sym (former-length m w) ∙ sym (length-put (former m w) (former_addr m v k) ws fits-former))
      (λ i l. each i (omega (arith, former-length m (put_cut w m v k ws), long)))

-- words outside the lists: counts, functions, phases, outputs and all others
module _ (w : List ℕ) (m at : ℕ) (vs : List ℕ) (fits : HasCapacity w m) (capacity : at + length vs ≤ length w) (outside : lists_from m < at + length vs → lists_to m ≤ at) where
  size : length (put_at w at vs) ≡ length w
  size = length-put w at vs capacity

  fits_changed : HasCapacity (put_at w at vs) m
  fits_changed = record { small = fits.small; capacity = omega (arith, fits.capacity, size) }

  capacity-former : at + length vs ≤ length (former m w)
  capacity-former = omega (arith, capacity, former-length m w)

  -- a word of the lists
  kept_word : (i : ℕ) → lists_from m ≤ i → i < lists_to m → i < length w → get_or (former m (put_at w at vs)) i 0 ≡ get_or (put_at (former m w) at vs) i 0
  kept_word i a b l =
      let o = in_lists m i a b in let to : ℕ = cut_addr m o.column o.variable o.number in
      let from : lists_from m ≤ to = cut-from m o.column o.variable o.number o.five o.within o.min_arrival in
      let below : to < lists_to m = cut_to m o.column o.variable o.number o.five o.within o.min_arrival in
      ap (λ (x : ℕ). get_or (former m (put_at w at vs)) x 0) o.here
      ∙ cut_word_lem m (put_at w at vs) fits_changed o.variable o.number o.within o.min_arrival o.column o.five
      ∙ get_apart w at vs capacity to (λ d h e. let c : lists_to m ≤ at = outside (omega arith) in omega arith)
      ∙ sym (cut_word_lem m w fits o.variable o.number o.within o.min_arrival o.column o.five)
      ∙ sym (ap (λ (x : ℕ). get_or (former m w) x 0) o.here)
      ∙ sym (get_apart (former m w) at vs capacity-former i (λ d h e. let c : lists_to m ≤ at = outside (omega arith) in omega arith))

  changed_word : (i : ℕ) → i < length w → get_or (former m (put_at w at vs)) i 0 ≡ get_or (put_at (former m w) at vs) i 0
  changed_word i l = by (ltb i (lists_from m)) refl (ltb i (lists_to m)) refl
    where
      beside : (lists_from m ≤ i → lists_to m ≤ i) → get_or (former m (put_at w at vs)) i 0 ≡ get_or (put_at (former m w) at vs) i 0
      beside o =
          former_outside m (put_at w at vs) fits_changed i (omega (arith, size)) o
          ∙ sym (put_same (former m w) w at vs (former-length m w) capacity i (former_outside m w fits i l o))

      by : (s : Bool) → ltb i (lists_from m) ≡ s → (t : Bool) → ltb i (lists_to m) ≡ t → get_or (former m (put_at w at vs)) i 0 ≡ get_or (put_at (former m w) at vs) i 0
      by true e t f = let h : i < lists_from m = ltb-true i (lists_from m) e in beside (λ g. absurd (omega arith))
      by false e false f = beside (λ g. ltb-false i (lists_to m) f)
      by false e true f = kept_word i (ltb-false i (lists_from m) e) (ltb-true i (lists_to m) f) l

  pub former-put : former m (put_at w at vs) ≡ put_at (former m w) at vs
  former-put =
      ext_get_or 0 (former m (put_at w at vs)) (put_at (former m w) at vs)
      (former-length m (put_at w at vs) ∙ size ∙ sym (former-length m w) ∙ sym (length-put (former m w) at vs capacity-former))
      (λ i l. changed_word i (omega (arith, former-length m (put_at w at vs), size)))
