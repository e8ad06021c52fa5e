-- The laws of the cuts' functions in words, which callers of `function` and `set_function` cite. Each says what is read, and none where it lies:
--     function-stored, function-apart     what was stored is loaded, and every other function stays
--     put-functions-..                    so does every word outside the functions
--     functions-none, functions_more      a loop that stores one function a step
--     function-same                       words that agree in the functions
--     function-fits                       a function is a word
use Rattle.base.specs.{◌≡◌, sym, ap, ◌∙◌, List, [], ◌∷◌, ℕ, ◌+◌, ◌≤◌, ◌<◌, arith, length, take, get_or, length-take-le}
use Rattle.model.specs.{cut_limit}
use Rattle.base_words.specs.{put_at, HasCapacity, function_addr, lists_to, output_addr, function_of, put_functions}
use Rattle.base_words.proofs.WordStores.{length-put, get_put, get_put-below, get_put-above, put-none, put_one, put_taken}
use Rattle.base_words.proofs.WordRanges.{get_apart}

-- functions stored for the cuts of v from number k on
module _ (w : List ℕ) (m v k : ℕ) (fs : List ℕ) (fits : HasCapacity w m) (inside : v ≤ m) (few : k + length fs ≤ cut_limit) where
  capacity-functions : function_addr m v k + length fs ≤ length w
  capacity-functions = omega (arith, fits.capacity)

  pub put-functions-length : length (put_functions w m v k fs) ≡ length w
  unfolding put_functions
  put-functions-length = length-put w (function_addr m v k) fs capacity-functions

  -- all words before the functions and behind them stay
  pub put-functions-before : (i : ℕ) → i < lists_to m → get_or (put_functions w m v k fs) i 0 ≡ get_or w i 0
  unfolding put_functions
  put-functions-before i h = get_put-below w (function_addr m v k) fs capacity-functions i (omega arith)

  pub put-functions-behind : (i : ℕ) → output_addr m 0 ≤ i → get_or (put_functions w m v k fs) i 0 ≡ get_or w i 0
  unfolding put_functions
  put-functions-behind i h = get_put-above w (function_addr m v k) fs capacity-functions i (omega arith)

  -- what was stored is loaded
  pub function-stored : (j : ℕ) → j < length fs → function_of (put_functions w m v k fs) m v (k + j) ≡ get_or fs j 0
  unfolding function_of put_functions
  function-stored j h =
      let here : function_addr m v (k + j) ≡ function_addr m v k + j = omega arith in
      ap (λ (i : ℕ). get_or (put_functions w m v k fs) i 0) here ∙ get_put w (function_addr m v k) fs capacity-functions j h

  -- every other function stays
  pub function-apart : (u j : ℕ) → u ≤ m → j < cut_limit → ((i : ℕ) → i < length fs → u ≡ v → j ≡ k + i → ⊥)
      → function_of (put_functions w m v k fs) m u j ≡ function_of w m u j
  unfolding function_of put_functions
  function-apart u j h l n =
      get_apart w (function_addr m v k) fs capacity-functions (function_addr m u j)
      (λ i b e.
      let same : u ≡ v = omega arith in
      n i b same (omega arith))

pub functions-none : (w : List ℕ) (m v k : ℕ) → put_functions w m v k [] ≡ w
unfolding put_functions
functions-none w m v k = put-none w (function_addr m v k)

-- a step of a loop: the first k functions become the first k + 1
pub functions_more : (w : List ℕ) (m v k : ℕ) (fs : List ℕ) → HasCapacity w m → v ≤ m → length fs ≤ cut_limit → k < length fs
    → put_functions (put_functions w m v 0 (take k fs)) m v k (get_or fs k 0 ∷ []) ≡ put_functions w m v 0 (take (k + 1) fs)
unfolding put_functions
functions_more w m v k fs fits inside few h =
    let n : length (take k fs) ≡ k = length-take-le k fs (omega arith) in
    let size : length (put_functions w m v 0 (take k fs)) ≡ length w = put-functions-length w m v 0 (take k fs) fits inside (omega arith) in
    let here : function_addr m v k ≡ function_addr m v 0 + k = omega arith in
    ap (λ (i : ℕ). put_at (put_functions w m v 0 (take k fs)) i (get_or fs k 0 ∷ [])) here
    ∙ sym (put_one (put_functions w m v 0 (take k fs)) (function_addr m v 0 + k) (get_or fs k 0) (omega (arith, fits.capacity)))
    ∙ put_taken w (function_addr m v 0) fs k (omega (arith, fits.capacity)) h

-- words that agree in the functions
pub function-same : (v w : List ℕ) (m : ℕ) → ((i : ℕ) → lists_to m ≤ i → i < output_addr m 0 → get_or v i 0 ≡ get_or w i 0)
    → (u k : ℕ) → u ≤ m → k < cut_limit → function_of v m u k ≡ function_of w m u k
unfolding function_of
function-same v w m same u k h l = same (function_addr m u k) (omega arith) (omega arith)

-- a bound on every word is one on a function
pub function-fits : (w : List ℕ) (m v k n : ℕ) → ((i : ℕ) → get_or w i 0 < n) → function_of w m v k < n
unfolding function_of
function-fits w m v k n h = h (function_addr m v k)
