-- The laws of cuts in words, which callers of `load_cut` and `store_cut` cite. Each says what is read, and none where it lies:
--     cut-stored, cut_apart       what was stored is loaded, and every other cut stays
--     word-stored, word_stays     so for each word of a cut
--     put-cut-..                  so does every word outside the lists
--     same-cut                    a cut is its five words
--     leaf_word_lem, five_stores      the words that `leaf` reads and `store_cut` stores
--     four-leaves                 a cut has four words for its leaves
--     cuts-more                   a loop that stores one cut a step
--     count-listed, cut-listed    a list that is read, and a cut of it
--     none-listed                 the list of a variable with no cuts
--     good_get                    a cut of a list of good ones
--     cut-same, cuts-same, sound-same     words that agree in the lists have the same cuts
--     put-list-..                 what storing a list leaves: the list at its variable, the lists of others, and all words outside the counts and the lists
--     represented-count, represented-cut        the cuts of a graph, where the words hold them
use Rattle.base.specs.{◌≡◌, refl, sym, ap, ◌∙◌, subst, List, [], ◌∷◌, ◌++◌, map, ℕ, zero, suc, ◌+◌, ◌*◌, ◌≤◌, ◌<◌, add-zero, zero-add}
use Rattle.base.specs.{not-suc-le-zero, le_of_suc-le-suc, arith, length, get_or, length-append, length-take}
use Rattle.model.specs.{cut_limit, cuts_of}
use Rattle.model.specs.Graph.{Graph}
use Rattle.model.specs.declared.Cut.{Cut}
use Rattle.base_words.specs.{put_at, HasCapacity, count_at, count_addr, counts_from, counts_to, cut_addr, lists_from, lists_to, leaves_of, cut_by}
use Rattle.base_words.specs.{cut_in, cut_of, leaves_at, leaves_from, cuts_at, padded, cut_words, put_from, put_cut, put_cuts, put_list, Good}
use Rattle.base_words.specs.{AllGood, Sound, RepresentsCuts}
use Rattle.base_words.proofs.WordStores.{length-put}
use Rattle.base_words.proofs.WordRanges.{word-put, word-apart}
use Rattle.base_words.proofs.ColumnAddresses.{cut-from, cut_to, cut-words-apart}

-- ---- one cut

length-padded : (c : List ℕ) → length (padded c) ≡ 4
length-padded c = length-take 4 (c ++ 0 ∷ 0 ∷ 0 ∷ 0 ∷ []) ∙ omega (arith, length-append c (0 ∷ 0 ∷ 0 ∷ 0 ∷ []))

length-words : (c : List ℕ) → length (cut_words c) ≡ 5
unfolding cut_words
length-words c = ap suc (length-padded c)

-- a cut is its five words
pub same-cut : (f g : ℕ → ℕ) → ((c : ℕ) → c < 5 → f c ≡ g c) → cut_by f ≡ cut_by g
unfolding cut_by
same-cut f g h =
    let e₀ : f 0 ≡ g 0 = h 0 (omega arith) in let e₁ : f 1 ≡ g 1 = h 1 (omega arith) in let e₂ : f 2 ≡ g 2 = h 2 (omega arith) in
    let e₃ : f 3 ≡ g 3 = h 3 (omega arith) in let e₄ : f 4 ≡ g 4 = h 4 (omega arith) in
    λ i. record { leaves = e₁ i ∷ e₂ i ∷ e₃ i ∷ e₄ i ∷ []; count = e₀ i }

-- the words of a cut read back
words_back : (c : List ℕ) → length c ≤ 4 → leaves_of (cut_in (cut_words c)) ≡ c
unfolding cut_in cut_by cut_words
words_back [] h = refl
words_back (a ∷ []) h = refl
words_back (a ∷ b ∷ []) h = refl
words_back (a ∷ b ∷ c ∷ []) h = refl
words_back (a ∷ b ∷ c ∷ d ∷ []) h = refl
words_back (a ∷ b ∷ c ∷ d ∷ e ∷ ls) h = absurd (omega arith)

pub four-leaves : (w : List ℕ) (m v k : ℕ) → length (cut_of w m v k).leaves ≡ 4
unfolding cut_of cut_by
four-leaves w m v k = refl

-- a leaf is the word of its column
pub leaf_word_lem : (w : List ℕ) (m v k i at next : ℕ) → i < 4 → at ≡ cut_addr m 0 v k → next ≡ cut_limit * (m + 1)
    → get_or w (at + (i + 1) * next) 0 ≡ get_or (cut_of w m v k).leaves i 0
unfolding cut_of cut_by
leaf_word_lem w m v k zero at next h e n = let here : at + 1 * next ≡ cut_addr m 1 v k = omega arith in ap (λ (j : ℕ). get_or w j 0) here
leaf_word_lem w m v k (suc zero) at next h e n = let here : at + 2 * next ≡ cut_addr m 2 v k = omega arith in ap (λ (j : ℕ). get_or w j 0) here
leaf_word_lem w m v k (suc (suc zero)) at next h e n = let here : at + 3 * next ≡ cut_addr m 3 v k = omega arith in ap (λ (j : ℕ). get_or w j 0) here
leaf_word_lem w m v k (suc (suc (suc zero))) at next h e n = let here : at + 4 * next ≡ cut_addr m 4 v k = omega arith in ap (λ (j : ℕ). get_or w j 0) here
leaf_word_lem w m v k (suc (suc (suc (suc i)))) at next h e n = absurd (omega arith)

-- five words are a cut's
five-words : (ws : List ℕ) → length ws ≡ 5 → ws ≡ get_or ws 0 0 ∷ get_or ws 1 0 ∷ get_or ws 2 0 ∷ get_or ws 3 0 ∷ get_or ws 4 0 ∷ []
five-words [] h = absurd (omega arith)
five-words (a ∷ []) h = absurd (omega arith)
five-words (a ∷ b ∷ []) h = absurd (omega arith)
five-words (a ∷ b ∷ c ∷ []) h = absurd (omega arith)
five-words (a ∷ b ∷ c ∷ d ∷ []) h = absurd (omega arith)
five-words (a ∷ b ∷ c ∷ d ∷ e ∷ []) h = refl
five-words (a ∷ b ∷ c ∷ d ∷ e ∷ f ∷ ws) h = absurd (omega arith)

-- the size of cut k of v at a word, and each leaf a column further
pub five_stores : (w : List ℕ) (m v k at next : ℕ) (ws : List ℕ) → at ≡ cut_addr m 0 v k → next ≡ cut_limit * (m + 1) → length ws ≡ 5
    → put_at
    (put_at (put_at (put_at (put_at w at (get_or ws 0 0 ∷ [])) (at + next) (get_or ws 1 0 ∷ [])) (at + 2 * next) (get_or ws 2 0 ∷ [])) (at + 3 * next) (get_or ws 3 0 ∷ []))
    (at + 4 * next) (get_or ws 4 0 ∷ [])
    ≡ put_cut w m v k ws
unfolding put_cut put_from
five_stores w m v k at next ws e n five =
    let e₁ : at + next ≡ cut_addr m 1 v k = omega arith in let e₂ : at + 2 * next ≡ cut_addr m 2 v k = omega arith in
    let e₃ : at + 3 * next ≡ cut_addr m 3 v k = omega arith in let e₄ : at + 4 * next ≡ cut_addr m 4 v k = omega arith in
    (λ i.
    put_at
    (put_at (put_at (put_at (put_at w (e i) (get_or ws 0 0 ∷ [])) (e₁ i) (get_or ws 1 0 ∷ [])) (e₂ i) (get_or ws 2 0 ∷ [])) (e₃ i) (get_or ws 3 0 ∷ []))
    (e₄ i) (get_or ws 4 0 ∷ [])) ∙ ap (put_cut w m v k) (sym (five-words ws five))

-- words stored for cut k of v, one in each column of the cuts from number c on
module _ (m v k : ℕ) (inside : v ≤ m) (few : k < cut_limit) where
  capacity-word : (w : List ℕ) (c : ℕ) → HasCapacity w m → c < 5 → cut_addr m c v k < length w
  capacity-word w c fits h = omega (arith, fits.capacity, cut_to m c v k h inside few)

  length-word : (w : List ℕ) (c x : ℕ) → HasCapacity w m → c < 5 → length (put_at w (cut_addr m c v k) (x ∷ [])) ≡ length w
  length-word w c x fits h = length-put w (cut_addr m c v k) (x ∷ []) (omega (arith, capacity-word w c fits h))

  capacity-more : (w : List ℕ) (c x : ℕ) → HasCapacity w m → c < 5 → HasCapacity (put_at w (cut_addr m c v k) (x ∷ [])) m
  capacity-more w c x fits h = record { small = fits.small; capacity = omega (arith, fits.capacity, length-word w c x fits h) }

  from-length : (w : List ℕ) (c : ℕ) (ws : List ℕ) → HasCapacity w m → c + length ws ≤ 5 → length (put_from w m c v k ws) ≡ length w
  unfolding put_from
  from-length w c [] fits h = refl
  from-length w c (x ∷ ws) fits h =
      let here : c < 5 = omega arith in
      from-length (put_at w (cut_addr m c v k) (x ∷ [])) (suc c) ws (capacity-more w c x fits here) (omega arith) ∙ length-word w c x fits here

  -- a word that none of them is
  from-apart : (w : List ℕ) (c : ℕ) (ws : List ℕ) → HasCapacity w m → c + length ws ≤ 5 → (i : ℕ)
      → ((d : ℕ) → c ≤ d → d < 5 → i ≡ cut_addr m d v k → ⊥) → get_or (put_from w m c v k ws) i 0 ≡ get_or w i 0
  unfolding put_from
  from-apart w c [] fits h i n = refl
  from-apart w c (x ∷ ws) fits h i n =
      let here : c < 5 = omega arith in
      from-apart (put_at w (cut_addr m c v k) (x ∷ [])) (suc c) ws (capacity-more w c x fits here) (omega arith) i (λ d a b. n d (omega arith) b)
      ∙ word-apart w (cut_addr m c v k) x (capacity-word w c fits here) i (n c (omega arith) here)

  -- the word stored in a column
  from-stored : (w : List ℕ) (c : ℕ) (ws : List ℕ) → HasCapacity w m → c + length ws ≤ 5 → (j : ℕ) → j < length ws
      → get_or (put_from w m c v k ws) (cut_addr m (c + j) v k) 0 ≡ get_or ws j 0
  unfolding put_from
  from-stored w c [] fits h j l = absurd (not-suc-le-zero l)
  from-stored w c (x ∷ ws) fits h zero l =
      let here : c < 5 = omega arith in let w' : List ℕ = put_at w (cut_addr m c v k) (x ∷ []) in
      ap (λ (d : ℕ). get_or (put_from w' m (suc c) v k ws) (cut_addr m d v k) 0) (add-zero c)
      ∙ from-apart w' (suc c) ws (capacity-more w c x fits here) (omega arith) (cut_addr m c v k)
      (λ d a b. cut-words-apart m c v k here inside few d v k b inside few (λ e s t. omega arith))
      ∙ word-put w (cut_addr m c v k) x (capacity-word w c fits here)
  from-stored w c (x ∷ ws) fits h (suc j) l =
      let here : c < 5 = omega arith in let w' : List ℕ = put_at w (cut_addr m c v k) (x ∷ []) in
      let e : c + suc j ≡ suc c + j = omega arith in
      ap (λ (d : ℕ). get_or (put_from w' m (suc c) v k ws) (cut_addr m d v k) 0) e
      ∙ from-stored w' (suc c) ws (capacity-more w c x fits here) (omega arith) j (le_of_suc-le-suc l)

-- one cut stored
module _ (w : List ℕ) (m v k : ℕ) (ws : List ℕ) (fits : HasCapacity w m) (inside : v ≤ m) (few : k < cut_limit) (five : length ws ≡ 5) where
  wide : 0 + length ws ≤ 5
  wide = omega arith

  pub put-cut-length : length (put_cut w m v k ws) ≡ length w
  unfolding put_cut
  put-cut-length = from-length m v k inside few w 0 ws fits wide

  -- all words before the lists and behind them stay
  pub put-cut-before : (i : ℕ) → i < lists_from m → get_or (put_cut w m v k ws) i 0 ≡ get_or w i 0
  unfolding put_cut
  put-cut-before i h = from-apart m v k inside few w 0 ws fits wide i (λ d a b e. omega (arith, cut-from m d v k b inside few))

  pub put-cut-behind : (i : ℕ) → lists_to m ≤ i → get_or (put_cut w m v k ws) i 0 ≡ get_or w i 0
  unfolding put_cut
  put-cut-behind i h = from-apart m v k inside few w 0 ws fits wide i (λ d a b e. omega (arith, cut_to m d v k b inside few))

  -- what was stored is loaded, word for word
  pub word-stored : (c : ℕ) → c < 5 → get_or (put_cut w m v k ws) (cut_addr m c v k) 0 ≡ get_or ws c 0
  unfolding put_cut
  word-stored c h =
      ap (λ (d : ℕ). get_or (put_cut w m v k ws) (cut_addr m d v k) 0) (sym (zero-add c))
      ∙ from-stored m v k inside few w 0 ws fits wide c (omega (arith, five))

  pub cut-stored : cut_of (put_cut w m v k ws) m v k ≡ cut_in ws
  unfolding cut_of cut_in
  cut-stored = same-cut (λ c. get_or (put_cut w m v k ws) (cut_addr m c v k) 0) (λ c. get_or ws c 0) word-stored

  -- every other cut stays
  module _ (u j : ℕ) (within : u ≤ m) (min_arrival : j < cut_limit) (other : u ≡ v → j ≡ k → ⊥) where
    pub word_stays : (c : ℕ) → c < 5 → get_or (put_cut w m v k ws) (cut_addr m c u j) 0 ≡ get_or w (cut_addr m c u j) 0
    unfolding put_cut
    word_stays c h =
        from-apart m v k inside few w 0 ws fits wide (cut_addr m c u j)
        (λ d a i. cut-words-apart m c u j h within min_arrival d v k i inside few (λ e. other))

    pub cut_apart : cut_of (put_cut w m v k ws) m u j ≡ cut_of w m u j
    unfolding cut_of
    cut_apart = same-cut (λ c. get_or (put_cut w m v k ws) (cut_addr m c u j) 0) (λ c. get_or w (cut_addr m c u j) 0) word_stays

-- ---- several cuts, one after the other

pub cuts-more : (w : List ℕ) (m v k : ℕ) (wss : List (List ℕ)) (ws : List ℕ)
    → put_cut (put_cuts w m v k wss) m v (k + length wss) ws ≡ put_cuts w m v k (wss ++ (ws ∷ []))
unfolding put_cuts
cuts-more w m v k [] ws = ap (λ (j : ℕ). put_cut w m v j ws) (add-zero k)
cuts-more w m v k (us ∷ wss) ws =
    let w' : List ℕ = put_cut w m v k us in let e : k + suc (length wss) ≡ suc k + length wss = omega arith in
    ap (λ (j : ℕ). put_cut (put_cuts w' m v (suc k) wss) m v j ws) e ∙ cuts-more w' m v (suc k) wss ws

-- out is w with the cuts cs stored as those of v from number k on
record CutsPut (w : List ℕ) (m v k : ℕ) (cs : List (List ℕ)) (out : List ℕ) : Type 0 where
  long : length out ≡ length w
  before : (i : ℕ) → i < lists_from m → get_or out i 0 ≡ get_or w i 0
  behind : (i : ℕ) → lists_to m ≤ i → get_or out i 0 ≡ get_or w i 0
  other : (u j : ℕ) → u ≤ m → j < cut_limit → (u ≡ v → j < k) → cut_of out m u j ≡ cut_of w m u j
  stored : (j : ℕ) → j < length cs → cut_of out m v (k + j) ≡ cut_in (cut_words (get_or cs j []))

-- one cut stored, and then those behind it
module _ (w : List ℕ) (m v k : ℕ) (c : List ℕ) (cs : List (List ℕ)) (fits : HasCapacity w m) (inside : v ≤ m) (few : k < cut_limit) where
  five : length (cut_words c) ≡ 5
  five = length-words c

  begun : List ℕ
  begun = put_cut w m v k (cut_words c)

  capacity-begun : HasCapacity begun m
  unfolding begun
  capacity-begun = record { small = fits.small; capacity = omega (arith, fits.capacity, put-cut-length w m v k (cut_words c) fits inside few five) }

  then_rest : (out : List ℕ) → CutsPut begun m v (suc k) cs out → CutsPut w m v k (c ∷ cs) out
  unfolding begun
  then_rest out rest =
      record {
        long = rest.long ∙ put-cut-length w m v k (cut_words c) fits inside few five;
        before = λ i h. rest.before i h ∙ put-cut-before w m v k (cut_words c) fits inside few five i h;
        behind = λ i h. rest.behind i h ∙ put-cut-behind w m v k (cut_words c) fits inside few five i h;
        other =
            λ u j h l n.
            rest.other u j h l (λ e. let b : j < k = n e in omega arith)
            ∙ cut_apart w m v k (cut_words c) fits inside few five u j h l (λ e s. let b : j < k = n e in omega arith);
        stored = at;
      }
    where
      at : (j : ℕ) → j < length (c ∷ cs) → cut_of out m v (k + j) ≡ cut_in (cut_words (get_or (c ∷ cs) j []))
      at zero h =
          ap (cut_of out m v) (add-zero k) ∙ rest.other v k inside few (λ e. omega arith)
          ∙ cut-stored w m v k (cut_words c) fits inside few five
      at (suc j) h =
          let e : k + suc j ≡ suc k + j = omega arith in
          ap (cut_of out m v) e ∙ rest.stored j (le_of_suc-le-suc h)

cuts-put : (w : List ℕ) (m v k : ℕ) (cs : List (List ℕ)) → HasCapacity w m → v ≤ m → k + length cs ≤ cut_limit
    → CutsPut w m v k cs (put_cuts w m v k (map cut_words cs))
unfolding put_cuts begun
cuts-put w m v k [] fits inside few =
    record { long = refl; before = λ i h. refl; behind = λ i h. refl; other = λ u j h l n. refl; stored = λ j h. absurd (not-suc-le-zero h) }
cuts-put w m v k (c ∷ cs) fits inside few =
    let here : k < cut_limit = omega arith in let w' : List ℕ = put_cut w m v k (cut_words c) in
    then_rest w m v k c cs fits inside here (put_cuts w' m v (suc k) (map cut_words cs))
    (cuts-put w' m v (suc k) cs (capacity-begun w m v k c cs fits inside here) inside (omega arith))

-- ---- a list that is read

length_from : (w : List ℕ) (m v k n : ℕ) → length (leaves_from w m v k n) ≡ n
unfolding leaves_from
length_from w m v k zero = refl
length_from w m v k (suc n) = ap suc (length_from w m v (suc k) n)

get_from : (w : List ℕ) (m v k n j : ℕ) → j < n → get_or (leaves_from w m v k n) j [] ≡ leaves_at w m v (k + j)
unfolding leaves_from
get_from w m v k zero j h = absurd (not-suc-le-zero h)
get_from w m v k (suc n) zero h = ap (leaves_at w m v) (sym (add-zero k))
get_from w m v k (suc n) (suc j) h =
    let e : suc k + j ≡ k + suc j = omega arith in
    get_from w m v (suc k) n j (le_of_suc-le-suc h) ∙ ap (leaves_at w m v) e

pub count-listed : (w : List ℕ) (m v : ℕ) → length (cuts_at w m v) ≡ count_at w m v
unfolding cuts_at
count-listed w m v = length_from w m v 0 (count_at w m v)

pub cut-listed : (w : List ℕ) (m v k : ℕ) → k < count_at w m v → get_or (cuts_at w m v) k [] ≡ leaves_at w m v k
unfolding cuts_at
cut-listed w m v k h =
    let e : 0 + k ≡ k = omega arith in
    get_from w m v 0 (count_at w m v) k h ∙ ap (leaves_at w m v) e

pub none-listed : (w : List ℕ) (m v : ℕ) → count_at w m v ≡ 0 → cuts_at w m v ≡ []
unfolding cuts_at leaves_from
none-listed w m v e = ap (leaves_from w m v 0) e

pub good_get : (cs : List (List ℕ)) (k : ℕ) → AllGood cs → k < length cs → Good (get_or cs k [])
good_get [] k g h = absurd (not-suc-le-zero h)
good_get (c ∷ cs) zero g h = g.0
good_get (c ∷ cs) (suc k) g h = good_get cs k g.1 (le_of_suc-le-suc h)

-- lists that are read are equal where their cuts are
list_is : (w : List ℕ) (m v k : ℕ) (cs : List (List ℕ)) → ((j : ℕ) → j < length cs → leaves_at w m v (k + j) ≡ get_or cs j []) → leaves_from w m v k (length cs) ≡ cs
unfolding leaves_from
list_is w m v k [] h = refl
list_is w m v k (c ∷ cs) h =
    let first : leaves_at w m v k ≡ c = ap (leaves_at w m v) (sym (add-zero k)) ∙ h 0 (omega arith) in
    let rest : leaves_from w m v (suc k) (length cs) ≡ cs =
    list_is w m v (suc k) cs (λ j l. let e : suc k + j ≡ k + suc j = omega arith in ap (leaves_at w m v) e ∙ h (suc j) (omega arith)) in
    λ i. first i ∷ rest i

list_same : (v w : List ℕ) (m u k n : ℕ) → ((j : ℕ) → k ≤ j → j < k + n → cut_of v m u j ≡ cut_of w m u j) → leaves_from v m u k n ≡ leaves_from w m u k n
unfolding leaves_from
list_same v w m u k zero h = refl
list_same v w m u k (suc n) h =
    let first : cut_of v m u k ≡ cut_of w m u k = h k (omega arith) (omega arith) in
    let rest : leaves_from v m u (suc k) n ≡ leaves_from w m u (suc k) n = list_same v w m u (suc k) n (λ j a b. h j (omega arith) (omega arith)) in
    λ i. leaves_of (first i) ∷ rest i

-- a variable's list is the same where its count and its cuts are
module _ (v w : List ℕ) (m u : ℕ) (count : count_at v m u ≡ count_at w m u) (same : (k : ℕ) → k < cut_limit → cut_of v m u k ≡ cut_of w m u k) where
  list_by_cuts : count_at w m u ≤ cut_limit → cuts_at v m u ≡ cuts_at w m u
  unfolding cuts_at
  list_by_cuts h = ap (leaves_from v m u 0) count ∙ list_same v w m u 0 (count_at w m u) (λ k a b. same k (omega arith))

  sound_by_cuts : Sound w m u → Sound v m u
  sound_by_cuts s =
      record {
        few = omega (arith, count, s.few);
        narrow =
            λ k h.
            let l : k < count_at w m u = omega (arith, count) in
            subst (λ (c : Cut). c.count ≤ 4) (sym (same k (omega (arith, s.few)))) (s.narrow k l);
        good = subst AllGood (sym (list_by_cuts s.few)) s.good;
      }

-- words that agree in the lists
module _ (v w : List ℕ) (m : ℕ) (lists : (i : ℕ) → lists_from m ≤ i → i < lists_to m → get_or v i 0 ≡ get_or w i 0) (u : ℕ) (within : u ≤ m) where
  pub cut-same : (k : ℕ) → k < cut_limit → cut_of v m u k ≡ cut_of w m u k
  unfolding cut_of
  cut-same k h =
      same-cut (λ c. get_or v (cut_addr m c u k) 0) (λ c. get_or w (cut_addr m c u k) 0)
      (λ c b. lists (cut_addr m c u k) (cut-from m c u k b within h) (cut_to m c u k b within h))

  pub cuts-same : count_at v m u ≡ count_at w m u → count_at w m u ≤ cut_limit → cuts_at v m u ≡ cuts_at w m u
  cuts-same count h = list_by_cuts v w m u count cut-same h

  pub sound-same : count_at v m u ≡ count_at w m u → Sound w m u → Sound v m u
  sound-same count s = sound_by_cuts v w m u count cut-same s

-- ---- what storing a list leaves

module _ (w : List ℕ) (m v : ℕ) (cs : List (List ℕ)) (fits : HasCapacity w m) (inside : v ≤ m) (few : length cs ≤ cut_limit) where
  counted : List ℕ
  counted = put_at w (count_addr m v) (length cs ∷ [])

  capacity-count : count_addr m v < length w
  capacity-count = omega (arith, fits.capacity)

  length-counted : length counted ≡ length w
  unfolding counted
  length-counted = length-put w (count_addr m v) (length cs ∷ []) (omega (arith, capacity-count))

  done : CutsPut counted m v 0 cs (put_list w m v cs)
  unfolding put_list counted
  done = cuts-put counted m v 0 cs (record { small = fits.small; capacity = omega (arith, fits.capacity, length-counted) }) inside (omega arith)

  -- a word of w that is not v's count
  word-counted : (i : ℕ) → (i ≡ count_addr m v → ⊥) → get_or counted i 0 ≡ get_or w i 0
  unfolding counted
  word-counted i n = word-apart w (count_addr m v) (length cs) capacity-count i n

  pub put_list_length : length (put_list w m v cs) ≡ length w
  put_list_length = done.long ∙ length-counted

  -- kinds, operands and the order stay
  pub put_list_below : (i : ℕ) → i < counts_from m → get_or (put_list w m v cs) i 0 ≡ get_or w i 0
  put_list_below i h = done.before i (omega arith) ∙ word-counted i (omega arith)

  -- so do the words between the counts and the lists, and those past the lists
  pub put_list_middle : (i : ℕ) → counts_to m ≤ i → i < lists_from m → get_or (put_list w m v cs) i 0 ≡ get_or w i 0
  put_list_middle i h l = done.before i l ∙ word-counted i (omega arith)

  pub put_list_above : (i : ℕ) → lists_to m ≤ i → get_or (put_list w m v cs) i 0 ≡ get_or w i 0
  put_list_above i h = done.behind i h ∙ word-counted i (omega arith)

  pub put_list_count : count_at (put_list w m v cs) m v ≡ length cs
  unfolding counted
  put_list_count = done.before (count_addr m v) (omega arith) ∙ word-put w (count_addr m v) (length cs) capacity-count

  pub put_list_cuts : AllGood cs → cuts_at (put_list w m v cs) m v ≡ cs
  unfolding cuts_at
  put_list_cuts good =
      ap (leaves_from (put_list w m v cs) m v 0) put_list_count ∙ list_is (put_list w m v cs) m v 0 cs
      (λ k h. ap leaves_of (done.stored k h) ∙ words_back (get_or cs k []) (good_get cs k good h).0)

  pub put_list_sound : AllGood cs → Sound (put_list w m v cs) m v
  unfolding cut_in cut_by cut_words
  put_list_sound good =
      record {
        few = omega (arith, put_list_count);
        narrow =
            λ k h.
            let l : k < length cs = omega (arith, put_list_count) in let here : k ≡ 0 + k = omega arith in
            let e : (cut_of (put_list w m v cs) m v k).count ≡ length (get_or cs k []) =
            ap (λ (j : ℕ). (cut_of (put_list w m v cs) m v j).count) here ∙ ap (λ (c : Cut). c.count) (done.stored k l) in
            omega (arith, (good_get cs k good l).0);
        good = subst AllGood (sym (put_list_cuts good)) good;
      }

  -- the list of another variable stays
  module _ (u : ℕ) (within : u ≤ m) (other : u ≡ v → ⊥) where
    count_elsewhere : count_at (put_list w m v cs) m u ≡ count_at w m u
    count_elsewhere = done.before (count_addr m u) (omega arith) ∙ word-counted (count_addr m u) (omega arith)

    elsewhere : (k : ℕ) → k < cut_limit → cut_of (put_list w m v cs) m u k ≡ cut_of w m u k
    elsewhere k h = done.other u k within h (λ e. absurd (other e)) ∙ cut-same counted w m (λ i a b. word-counted i (omega arith)) u within k h

    pub put_list_other : count_at w m u ≤ cut_limit → cuts_at (put_list w m v cs) m u ≡ cuts_at w m u
    put_list_other h = list_by_cuts (put_list w m v cs) w m u count_elsewhere elsewhere h

    pub put_list_sound_other : Sound w m u → Sound (put_list w m v cs) m u
    put_list_sound_other s = sound_by_cuts (put_list w m v cs) w m u count_elsewhere elsewhere s

-- ---- the cuts of a graph, where the words hold them

module _ (w : List ℕ) (g : Graph) (h : RepresentsCuts w g) (v : ℕ) (within : v ≤ g.size) where
  pub represented-count : count_at w g.size v ≡ length (cuts_of g v)
  represented-count = sym (count-listed w g.size v) ∙ ap length (h.lists v within)

  pub represented-cut : (k : ℕ) → k < length (cuts_of g v) → leaves_at w g.size v k ≡ get_or (cuts_of g v) k []
  represented-cut k l = sym (cut-listed w g.size v k (omega (arith, represented-count))) ∙ ap (λ (cs : List (List ℕ)). get_or cs k []) (h.lists v within)
