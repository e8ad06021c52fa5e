-- What the pass over all cuts goes by:
--     under-..                    words that agree below the functions: the same graph, lists and functions to be found
--     walked_recalled             a function that is stored is what the walk would find
--     reached-under               it stays a variable's turn while its own functions are stored
--     one-filled                  one cut's function
--     node_begin, node-step, node_end     the cuts of one variable, one after the other
--     pass_reached, pass_step_lem     the variables, one after the other
--     filled-low, filled-above, filled-word   what is filled, word by word
use Rattle.base.specs.{◌≡◌, refl, sym, ap, ◌∙◌, subst, Bool, true, false, List, [], ◌∷◌, map, ℕ, zero, suc, ◌+◌, ◌/◌, ◌≤◌, ◌<◌, add-one}
use Rattle.base.specs.{lt_of_le_of_ne, arith, eqb, length, take, get_or, set, length-map, take_all, length-take-le, eqb-true, eqb-false}
use Rattle.model.specs.{cut_limit}
use Rattle.base_words.specs.{HasCapacity, and_kind, kind_at, left_at, right_at, position_at, slot_at, count_at, kind_addr, left_addr, right_addr, position_addr}
use Rattle.base_words.specs.{count_addr, output_addr, slot_addr, lists_to, node_at, leaves_of, leaves_at, cuts_at, function_of, put_functions, Sound}
use Rattle.base_words.proofs.{count-listed, cut-listed, cut-same, cuts-same, sound-same, function-stored, function-apart, functions-none}
use Rattle.base_words.proofs.{functions_more, put-functions-length, put-functions-before, put-functions-behind}
use Rattle.cut_functions.specs.{walk_word, Noted, Ordered, Walked, cut_word, functions_of, filled, Done, Reached, Earlier, Ready}
use Rattle.cut_functions.proofs.ConeWalks.{ordered-kept, same_place, same-walk, fuel, noted_more}

-- words v that agree with w below the functions
pub record Under (w : List ℕ) (m : ℕ) (v : List ℕ) : Type 0 where
  pub long : length v ≡ length w
  pub low : (i : ℕ) → i < lists_to m → get_or v i 0 ≡ get_or w i 0

module _ (w v : List ℕ) (m : ℕ) (under : Under w m v) (p : Ordered w m) where
  pub under-ordered : Ordered v m
  under-ordered = ordered-kept w m v p under.long (λ i h. under.low i (omega arith))

  module _ (u : ℕ) (inside : u ≤ m) where
    same_count : count_at v m u ≡ count_at w m u
    same_count = under.low (count_addr m u) (omega arith)

    same_kind_lem : kind_at v m u ≡ kind_at w m u
    same_kind_lem = under.low (kind_addr m u) (omega arith)

    same_left : left_at v m u ≡ left_at w m u
    same_left = under.low (left_addr m u) (omega arith)

    same-right : right_at v m u ≡ right_at w m u
    same-right = under.low (right_addr m u) (omega arith)

    pub under-sound : Sound w m u → Sound v m u
    under-sound s = sound-same v w m (λ i a b. under.low i b) u inside same_count s

    pub under-cuts : Sound w m u → cuts_at v m u ≡ cuts_at w m u
    under-cuts s = cuts-same v w m (λ i a b. under.low i b) u inside same_count s.few

    under-leaves : (k : ℕ) → k < cut_limit → leaves_at v m u k ≡ leaves_at w m u k
    under-leaves k h = ap leaves_of (cut-same v w m (λ i a b. under.low i b) u inside k h)

    under-word : (ls : List ℕ) → cut_word v m u ls ≡ cut_word w m u ls
    unfolding cut_word
    under-word ls =
        let place : position_at v m u ≡ position_at w m u = same_place w m v p under.long (λ i h. under.low i (omega arith)) u inside in
        ap (λ (f : ℕ). walk_word f (node_at v m) ls u) place ∙ same-walk w m v p under.long (λ i h. under.low i (omega arith)) ls (position_at w m u) u inside

    map_same : (cs : List (List ℕ)) → map (cut_word v m u) cs ≡ map (cut_word w m u) cs
    map_same [] = refl
    map_same (c ∷ cs) = λ i. under-word c i ∷ map_same cs i

    pub under-functions : Sound w m u → functions_of v m u ≡ functions_of w m u
    unfolding functions_of
    under-functions s = ap (map (cut_word v m u)) (under-cuts s) ∙ map_same (cuts_at w m u)

    -- its functions stay stored
    pub under-done : Sound w m u → ((k : ℕ) → k < cut_limit → function_of v m u k ≡ function_of w m u k) → Done w m u → Done v m u
    under-done s same d =
        record {
          stored =
              λ k h.
              let l : k < count_at w m u = omega (arith, same_count) in
              let few : k < cut_limit = omega (arith, s.few) in
              same k few ∙ d.stored k l ∙ sym (under-word (leaves_at v m u k) ∙ ap (cut_word w m u) (under-leaves k few));
        }

  -- it stays u's turn
  under-reached : (u : ℕ) (inside : u ≤ m) → 0 < position_at w m u → ((x : ℕ) → x ≤ m → Sound w m x)
      → (kind_at w m u ≡ and_kind → Done v m (left_at w m u / 2)) → (kind_at w m u ≡ and_kind → Done v m (right_at w m u / 2)) → Reached v m u
  under-reached u inside alive sound left right =
      record {
        ordered = under-ordered;
        inside = inside;
        alive = omega (arith, under.low (position_addr m u) (omega arith));
        sound = λ x l. under-sound x l (sound x l);
        left-done = λ e. subst (λ (q : ℕ). Done v m (q / 2)) (sym (same_left u inside)) (left (sym (same_kind_lem u inside) ∙ e));
        right-done = λ e. subst (λ (q : ℕ). Done v m (q / 2)) (sym (same-right u inside)) (right (sym (same_kind_lem u inside) ∙ e));
      }

under-refl : (w : List ℕ) (m : ℕ) → Under w m w
under-refl w m = record { long = refl; low = λ i h. refl }

-- functions put leave the rest as it was
under-put : (w t : List ℕ) (m u k : ℕ) (fs : List ℕ) → Under w m t → HasCapacity t m → u ≤ m → k + length fs ≤ cut_limit → Under w m (put_functions t m u k fs)
under-put w t m u k fs under capacity inside few =
    record {
      long = put-functions-length t m u k fs capacity inside few ∙ under.long;
      low = λ i h. put-functions-before t m u k fs capacity inside few i h ∙ under.low i h;
    }

-- a function that is stored is what the walk would find; ls are the cut's leaves
pub walked_recalled : {w : List ℕ} {m u : ℕ} → Ordered w m → u ≤ m → kind_at w m u ≡ and_kind → Done w m u → {k : ℕ} → k < count_at w m u
    → {ls : List ℕ} → leaves_at w m u k ≡ ls → {base : ℕ} {notes : List ℕ} → u < length notes → Noted w m ls base notes
    → {x : ℕ} → x ≡ function_of w m u k → Walked w m ls base u (set notes u (base + x)) x
unfolding cut_word
walked_recalled {w} {m} {u} p inside kind d {k} h {ls} el {base} {notes} capacity noted {x} ex =
    record { table = at; noted = noted_more w m base u x notes capacity ls noted (λ f l. at (suc f) l) }
  where
    at : (f : ℕ) → position_at w m u ≤ f → x ≡ walk_word f (node_at w m) ls u
    at f l =
        let alive : 0 < position_at w m u = omega (arith, p.left-first u inside kind) in
        ex ∙ d.stored k h ∙ ap (cut_word w m u) el ∙ fuel w m p ls (position_at w m u) f u inside alive (omega arith) l

-- one cut's function: ls are the cut's leaves, x what the walk over them found
pub one-filled : (w : List ℕ) (m v k x : ℕ) (ls out : List ℕ) → ls ≡ leaves_at w m v k → x ≡ cut_word w m v ls
    → out ≡ put_functions w m v k (x ∷ []) → out ≡ put_functions w m v k (cut_word w m v (leaves_at w m v k) ∷ [])
one-filled w m v k x ls out el ex eo = eo ∙ ap (λ (y : ℕ). put_functions w m v k (y ∷ [])) (ex ∙ ap (cut_word w m v) el)

map_get : (f : List ℕ → ℕ) (cs : List (List ℕ)) (j : ℕ) → j < length cs → get_or (map f cs) j 0 ≡ f (get_or cs j [])
map_get f [] j l = absurd (omega arith)
map_get f (c ∷ cs) zero l = refl
map_get f (c ∷ cs) (suc j) l = map_get f cs j (omega arith)

-- the words with the first k functions of v
unfoldable pub part : List ℕ → ℕ → ℕ → ℕ → List ℕ
part w m v k = put_functions w m v 0 (take k (functions_of w m v))

counted : (w : List ℕ) (m u : ℕ) → length (functions_of w m u) ≡ count_at w m u
unfolding functions_of
counted w m u = simp length-map (count-listed w m u)

-- the cuts of one variable
module _ (w : List ℕ) (m v : ℕ) (r : Reached w m v) where
  sound_v : Sound w m v
  sound_v = r.sound v r.inside

  few-functions : length (functions_of w m v) ≤ cut_limit
  few-functions = omega (arith, counted w m v, sound_v.few)

  pub node_begin : w ≡ part w m v 0
  unfolding part
  node_begin = sym (functions-none w m v 0)

  -- the first k functions are as many
  first-few : (k : ℕ) → k ≤ count_at w m v → 0 + length (take k (functions_of w m v)) ≤ cut_limit
  first-few k h = omega (arith, length-take-le k (functions_of w m v) (omega (arith, counted w m v)), sound_v.few)

  node-under : (k : ℕ) → k ≤ count_at w m v → Under w m (part w m v k)
  unfolding part
  node-under k h = under-put w w m v 0 (take k (functions_of w m v)) (under-refl w m) r.ordered.capacity r.inside (first-few k h)

  -- an operand's functions are not among those that are stored
  operand_done : (k : ℕ) → k ≤ count_at w m v → (u : ℕ) → u ≤ m → position_at w m u < position_at w m v → Done w m u → Done (part w m v k) m u
  unfolding part
  operand_done k h u inside first d =
      under-done w (part w m v k) m (node-under k h) r.ordered u inside (r.sound u inside)
      (λ j l.
      function-apart w m v 0 (take k (functions_of w m v)) r.ordered.capacity r.inside (first-few k h) u j inside l
      (λ i b e s. let same : position_at w m u ≡ position_at w m v = ap (position_at w m) e in omega arith))
      d

  pub node-reached : (k : ℕ) → k ≤ count_at w m v → Reached (part w m v k) m v
  node-reached k h =
      let p = r.ordered in
      under-reached w (part w m v k) m (node-under k h) p v r.inside r.alive r.sound
      (λ e. operand_done k h _ (omega (arith, p.lefts v r.inside)) (p.left-first v r.inside e) (r.left-done e))
      (λ e. operand_done k h _ (omega (arith, p.rights v r.inside)) (p.right-first v r.inside e) (r.right-done e))

  -- v is what it was, and has as many cuts
  pub node-same : (k : ℕ) → k ≤ count_at w m v → (q : List ℕ) → q ≡ part w m v k
      → (count_at q m v ≡ count_at w m v) × (kind_at q m v ≡ kind_at w m v) × (left_at q m v ≡ left_at w m v) × (right_at q m v ≡ right_at w m v)
  node-same k h q e =
      let under : Under w m q = subst (Under w m) (sym e) (node-under k h) in
      let p = r.ordered in
      let i = r.inside in
      (same_count w q m under p v i, same_kind_lem w q m under p v i, same_left w q m under p v i, same-right w q m under p v i)

  pub node-step : (k : ℕ) → k < count_at w m v → (q : List ℕ) → q ≡ part w m v k → (out : List ℕ) → out ≡ put_functions q m v k (cut_word q m v (leaves_at q m v k) ∷ [])
      → out ≡ part w m v (k + 1)
  unfolding part functions_of
  node-step k h q eq out eo =
      let fs : List ℕ = functions_of w m v in
      let t : List ℕ = part w m v k in
      let under : Under w m t = node-under k (omega arith) in
      let few : k < cut_limit = omega (arith, sound_v.few) in
      let word : cut_word t m v (leaves_at t m v k) ≡ cut_word w m v (leaves_at w m v k) =
      under-word w t m under r.ordered v r.inside (leaves_at t m v k) ∙ ap (cut_word w m v) (under-leaves w t m under r.ordered v r.inside k few) in
      let get : get_or fs k 0 ≡ cut_word w m v (leaves_at w m v k) =
      map_get (cut_word w m v) (cuts_at w m v) k (omega (arith, count-listed w m v)) ∙ ap (cut_word w m v) (cut-listed w m v k h) in
      eo
      ∙ ap (λ (q : List ℕ). put_functions q m v k (cut_word q m v (leaves_at q m v k) ∷ [])) eq
      ∙ ap (λ (y : ℕ). put_functions t m v k (y ∷ [])) (word ∙ sym get)
      ∙ functions_more w m v k fs r.ordered.capacity r.inside few-functions (omega (arith, counted w m v))

  pub node_end : (k : ℕ) → k ≡ count_at w m v → part w m v k ≡ put_functions w m v 0 (functions_of w m v)
  unfolding part
  node_end k e = ap (put_functions w m v 0) (take_all k (functions_of w m v) (omega (arith, counted w m v)))

-- all variables, in topological order
module _ (w : List ℕ) (m n : ℕ) (r : Ready w m n) where
  functions-short : (u : ℕ) → u ≤ m → length (functions_of w m u) ≤ cut_limit
  functions-short u h = omega (arith, counted w m u, (r.sound u h).few)

  pub filled-under : (i : ℕ) → i ≤ n → Under w m (filled w m i)
  unfolding filled
  filled-under zero h = under-refl w m
  filled-under (suc i) h =
      let t : List ℕ = filled w m i in
      let under : Under w m t = filled-under i (omega arith) in
      let x : ℕ = slot_at w m i in
      let inside : x ≤ m = r.slots i (omega arith) in
      under-put w t m x 0 (functions_of w m x) under (under-ordered w t m under r.ordered).capacity inside (omega (arith, functions-short x inside))

  capacity-filled : (i : ℕ) → i ≤ n → HasCapacity (filled w m i) m
  capacity-filled i h = (under-ordered w (filled w m i) m (filled-under i h) r.ordered).capacity

  -- all words below the functions stay
  pub filled-low : (i : ℕ) → i ≤ n → (j : ℕ) → j < lists_to m → get_or (filled w m i) j 0 ≡ get_or w j 0
  filled-low i h j l = (filled-under i h).low j l

  pub pass_begin : w ≡ filled w m 0
  unfolding filled
  pass_begin = refl

  -- ---- what is filled, word by word

  -- past the functions all words stay
  pub filled-above : (i : ℕ) → i ≤ n → (j : ℕ) → output_addr m 0 ≤ j → get_or (filled w m i) j 0 ≡ get_or w j 0
  unfolding filled
  filled-above zero h j l = refl
  filled-above (suc i) h j l =
      let x : ℕ = slot_at w m i in
      let inside : x ≤ m = r.slots i (omega arith) in
      put-functions-behind (filled w m i) m x 0 (functions_of w m x) (capacity-filled i (omega arith)) inside (omega (arith, functions-short x inside)) j l
      ∙ filled-above i (omega arith) j l

  -- function k of the variable in slot j
  pub filled-word : (i : ℕ) → i ≤ n → (j : ℕ) → j < i → (k : ℕ) → k < count_at w m (slot_at w m j)
      → function_of (filled w m i) m (slot_at w m j) k ≡ get_or (functions_of w m (slot_at w m j)) k 0
  unfolding filled
  filled-word zero h j l k b = absurd (omega arith)
  filled-word (suc i) h j l k b = by (eqb y x) refl (λ less. filled-word i (omega arith) j less k b)
    where
      x : ℕ
      x = slot_at w m i

      y : ℕ
      y = slot_at w m j

      inside_x : x ≤ m
      inside_x = r.slots i (omega arith)

      inside_y : y ≤ m
      inside_y = r.slots j (omega arith)

      fs : List ℕ
      fs = functions_of w m x

      short : 0 + length fs ≤ cut_limit
      short = omega (arith, functions-short x inside_x)

      by : (t : Bool) → eqb y x ≡ t → (j < i → function_of (filled w m i) m y k ≡ get_or (functions_of w m y) k 0)
          → function_of (put_functions (filled w m i) m x 0 fs) m y k ≡ get_or (functions_of w m y) k 0
      by true e before =
          let same : y ≡ x = eqb-true y x e in
          let count : length (functions_of w m y) ≡ count_at w m y = counted w m y in
          let few : k < length fs = subst (λ (q : ℕ). k < length (functions_of w m q)) same (omega arith) in
          let here : k ≡ 0 + k = omega arith in
          (λ q. function_of (put_functions (filled w m i) m x 0 fs) m (same q) (here q))
          ∙ function-stored (filled w m i) m x 0 fs (capacity-filled i (omega arith)) inside_x short k few
          ∙ ap (λ (q : ℕ). get_or (functions_of w m q) k 0) (sym same)
      by false e before =
          let other : (y ≡ x) → ⊥ = eqb-false y x e in
          let least : j ≤ i = omega arith in
          let less : j < i = lt_of_le_of_ne least (λ same. other (ap (slot_at w m) same)) in
          let few : k < cut_limit = omega (arith, (r.sound y inside_y).few) in
          function-apart (filled w m i) m x 0 fs (capacity-filled i (omega arith)) inside_x short y k inside_y few (λ q b' o s. other o)
          ∙ before less

  -- ---- a step of the pass

  pub pass_capacity : (i : ℕ) → i ≤ n → (v : List ℕ) → v ≡ filled w m i → HasCapacity v m
  pass_capacity i h v ev = subst (λ (q : List ℕ). HasCapacity q m) (sym ev) (capacity-filled i h)

  -- a variable that stands in an earlier slot has its functions
  earlier-done : (i : ℕ) → i ≤ n → (u : ℕ) → Earlier w m i u → Done (filled w m i) m u
  unfolding functions_of
  earlier-done i h u e = subst (Done (filled w m i) m) e.there (record { stored = at })
    where
      x : ℕ
      x = slot_at w m e.slot

      inside : x ≤ m
      inside = r.slots e.slot (omega (arith, e.before))

      under : Under w m (filled w m i)
      under = filled-under i h

      at : (k : ℕ) → k < count_at (filled w m i) m x → function_of (filled w m i) m x k ≡ cut_word (filled w m i) m x (leaves_at (filled w m i) m x k)
      at k l =
          let b : k < count_at w m x = omega (arith, under.low (count_addr m x) (omega (arith, inside))) in
          let few : k < cut_limit = omega (arith, (r.sound x inside).few) in
          filled-word i h e.slot e.before k b
          ∙ map_get (cut_word w m x) (cuts_at w m x) k (omega (arith, count-listed w m x))
          ∙ ap (cut_word w m x) (cut-listed w m x k b)
          ∙ sym (under-word w (filled w m i) m under r.ordered x inside (leaves_at (filled w m i) m x k)
          ∙ ap (cut_word w m x) (under-leaves w (filled w m i) m under r.ordered x inside k few))

  module _ (i : ℕ) (h : i < n) (v : List ℕ) (ev : v ≡ filled w m i) (x : ℕ) (ex : x ≡ slot_at v m i) where
    y : ℕ
    y = slot_at w m i

    inside_y : y ≤ m
    unfolding y
    inside_y = r.slots i h

    under_i : Under w m (filled w m i)
    under_i = filled-under i (omega arith)

    same-slot : x ≡ y
    unfolding y
    same-slot = ex ∙ ap (λ (q : List ℕ). slot_at q m i) ev ∙ under_i.low (slot_addr m i) (omega (arith, r.within))

    at_slot : Reached (filled w m i) m y
    unfolding y
    at_slot =
        under-reached w (filled w m i) m under_i r.ordered y inside_y (r.alive i h) r.sound
        (λ e. earlier-done i (omega arith) _ (r.left-earlier i h e)) (λ e. earlier-done i (omega arith) _ (r.right-earlier i h e))

    pub pass_reached : Reached v m x
    pass_reached = subst (λ (q : List ℕ). Reached q m x) (sym ev) (subst (Reached (filled w m i) m) (sym same-slot) at_slot)

    pub pass_step_lem : (out : List ℕ) → out ≡ put_functions v m x 0 (functions_of v m x) → out ≡ filled w m (i + 1)
    unfolding filled y
    pass_step_lem out eo =
        eo
        ∙ ap (λ (q : List ℕ). put_functions q m x 0 (functions_of q m x)) ev
        ∙ ap (λ (q : ℕ). put_functions (filled w m i) m q 0 (functions_of (filled w m i) m q)) same-slot
        ∙ ap (put_functions (filled w m i) m y 0) (under-functions w (filled w m i) m under_i r.ordered y inside_y (r.sound y inside_y))
        ∙ ap (filled w m) (sym (add-one i))
