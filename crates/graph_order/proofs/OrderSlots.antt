-- A slot of the topological order that is filled:
--     fit_length, fit-capacity         enough words
--     ordered-long, ordered-apart, position_stored     the words with one more variable ordered
--     elem_snoc, within_snoc       a list with one more element
--     in_order-more, position_holds    the order with one more, in words that hold a graph
use Rattle.base.specs.{◌≡◌, sym, ap, ◌∙◌, subst, List, [], ◌∷◌, ◌++◌, Memᴰ, Memᴰ-head, Memᴰ-append_left, Memᴰ-append_right, ℕ}
use Rattle.base.specs.{◌+◌, ◌≤◌, ◌<◌, arith, length, get_or, get_or-append, length-append, get_or-append_seam, ne_eqb}
use Rattle.model.specs.{elem, any}
use Rattle.model.specs.Graph.{Graph}
use Rattle.model.specs.declared.Header.{Header}
use Rattle.theory_graph.proofs.{by_eqb, get_or_in}
use Rattle.base_words.specs.{put_at, HasCapacity, kind_addr, left_addr, right_addr, slot_addr, position_addr, output_addr, slot_at, position_at}
use Rattle.base_words.proofs.{length-put, word-put, word-apart}
use Rattle.graph_order.specs.{Fit, Within, InOrder, put_ordered}
use Rattle.graph_order.specs.LoadedWords.{Loaded}

-- ---- enough words

-- the header still fits words of the same length
pub fit_length : (h : Header) (w x : List ℕ) → Fit h w → length x ≡ length w → Fit h x
fit_length h w x f e = record { capacity = record { small = f.capacity.small; capacity = omega arith }; outs = f.outs; lines = f.lines }

pub fit-capacity : (h : Header) (w : List ℕ) → Fit h w → HasCapacity w h.size
fit-capacity h w f = record { small = f.capacity.small; capacity = omega arith }

-- ---- a variable that was ordered

module _ (w : List ℕ) (m i v : ℕ) (fits : HasCapacity w m) (slot : i ≤ m) (within : v ≤ m) where
  slot-long : length (put_at w (slot_addr m i) (v ∷ [])) ≡ length w
  slot-long = length-put w (slot_addr m i) (v ∷ []) (omega (arith, fits.capacity))

  pub ordered-long : length (put_ordered w m i v) ≡ length w
  unfolding put_ordered
  ordered-long = length-put (put_at w (slot_addr m i) (v ∷ [])) (position_addr m v) ((i + 1) ∷ []) (omega (arith, fits.capacity, slot-long)) ∙ slot-long

  pub ordered-apart : (a : ℕ) → (a ≡ slot_addr m i → ⊥) → (a ≡ position_addr m v → ⊥) → get_or (put_ordered w m i v) a 0 ≡ get_or w a 0
  unfolding put_ordered
  ordered-apart a x y =
      word-apart (put_at w (slot_addr m i) (v ∷ [])) (position_addr m v) (i + 1) (omega (arith, fits.capacity, slot-long)) a y
      ∙ word-apart w (slot_addr m i) v (omega (arith, fits.capacity)) a x

  slot-stored : slot_at (put_ordered w m i v) m i ≡ v
  unfolding put_ordered
  slot-stored =
      word-apart (put_at w (slot_addr m i) (v ∷ [])) (position_addr m v) (i + 1) (omega (arith, fits.capacity, slot-long)) (slot_addr m i) (omega arith)
      ∙ word-put w (slot_addr m i) v (omega (arith, fits.capacity))

  pub position_stored : position_at (put_ordered w m i v) m v ≡ i + 1
  unfolding put_ordered
  position_stored = word-put (put_at w (slot_addr m i) (v ∷ [])) (position_addr m v) (i + 1) (omega (arith, fits.capacity, slot-long))

-- ---- one more in the topological order

pub elem_snoc : (u v : ℕ) (xs : List ℕ) → (u ≡ v → ⊥) → elem u (xs ++ (v ∷ [])) ≡ elem u xs
unfolding elem any
elem_snoc u v [] d = rw (ne_eqb u v d)
elem_snoc u v (x ∷ xs) d = rw (elem_snoc u v xs d)

pub within_snoc : (m : ℕ) (xs : List ℕ) (v : ℕ) → v ≤ m → Within m xs → Within m (xs ++ (v ∷ []))
within_snoc m xs v l h i k =
    by_eqb i (length xs)
    (λ e. subst (λ (x : ℕ). x ≤ m) (sym (ap (λ (j : ℕ). get_or (xs ++ (v ∷ [])) j 0) e ∙ get_or-append_seam xs v [] 0)) l)
    (λ d. let b : i < length xs = omega (arith, length-append xs (v ∷ [])) in subst (λ (x : ℕ). x ≤ m) (sym (get_or-append xs (v ∷ []) 0 i b)) (h i b))

pub in_order-more : (w : List ℕ) (m : ℕ) (order : List ℕ) (v : ℕ) → HasCapacity w m → length order ≤ m → v ≤ m → Within m order → ¬ Memᴰ v order
    → InOrder w m order → InOrder (put_ordered w m (length order) v) m (order ++ (v ∷ []))
in_order-more w m order v fits slot within small new o = record {
  slots = λ i h. in_slot i (omega (arith, length-append order (v ∷ [])));
  empty = λ i h k. ordered-apart w m (length order) v fits slot within (slot_addr m i) (omega (arith, length-append order (v ∷ []))) (omega arith) ∙ o.empty i (omega (arith, length-append order (v ∷ []))) k;
  places = λ i h. in_position i (omega (arith, length-append order (v ∷ [])));
  waiting = λ u h n. ordered-apart w m (length order) v fits slot within (position_addr m u) (omega arith) (λ e. n (Memᴰ-append_right order (Memᴰ-head (omega arith)))) ∙ o.waiting u h (λ k. n (Memᴰ-append_left (v ∷ []) k));
}
  where
    in_slot : (i : ℕ) → i ≤ length order → slot_at (put_ordered w m (length order) v) m i ≡ get_or (order ++ (v ∷ [])) i 0
    in_slot i h =
        by_eqb i (length order)
        (λ e. ap (slot_at (put_ordered w m (length order) v) m) e ∙ slot-stored w m (length order) v fits slot within ∙ sym (ap (λ (j : ℕ). get_or (order ++ (v ∷ [])) j 0) e ∙ get_or-append_seam order v [] 0))
        (λ d. ordered-apart w m (length order) v fits slot within (slot_addr m i) (omega arith) (omega arith) ∙ o.slots i (omega arith) ∙ sym (get_or-append order (v ∷ []) 0 i (omega arith)))

    in_position : (i : ℕ) → i ≤ length order → position_at (put_ordered w m (length order) v) m (get_or (order ++ (v ∷ [])) i 0) ≡ i + 1
    in_position i h =
        by_eqb i (length order)
        (λ e. ap (position_at (put_ordered w m (length order) v) m) (ap (λ (j : ℕ). get_or (order ++ (v ∷ [])) j 0) e ∙ get_or-append_seam order v [] 0) ∙ position_stored w m (length order) v fits slot within ∙ omega arith)
        (λ d.
        let l : i < length order = omega arith in let s : get_or order i 0 ≤ m = small i l in
        let x : (get_or order i 0 ≡ v) → ⊥ = λ e. new (subst (λ (u : ℕ). Memᴰ u order) e (get_or_in order i 0 l)) in
        ap (position_at (put_ordered w m (length order) v) m) (get_or-append order (v ∷ []) 0 i l)
        ∙ ordered-apart w m (length order) v fits slot within (position_addr m (get_or order i 0)) (omega arith) (λ e. x (omega arith))
        ∙ o.places i l)

module _ (w₀ : List ℕ) (m : ℕ) (w : List ℕ) (g : Graph) (order : List ℕ) (fits : HasCapacity w m) (small : Within m order) (represented : Loaded w₀ m w g order) where
  pub position_holds : (v : ℕ) → v ≤ m → length order ≤ m → ¬ Memᴰ v order → Loaded w₀ m (put_ordered w m (length order) v) g (order ++ (v ∷ []))
  position_holds v within slot new =
      let apart = ordered-apart w m (length order) v fits slot within in
      record {
        long = ordered-long w m (length order) v fits slot within ∙ represented.long;
        kinds = λ u h. apart (kind_addr m u) (omega arith) (omega arith) ∙ represented.kinds u h;
        lefts = λ u h. apart (left_addr m u) (omega arith) (omega arith) ∙ represented.lefts u h;
        rights = λ u h. apart (right_addr m u) (omega arith) (omega arith) ∙ represented.rights u h;
        in_order = in_order-more w m order v fits slot within small new represented.in_order;
        zero = λ a b e. apart a (omega arith) (omega arith) ∙ represented.zero a b e;
        others = λ a b e. apart a (omega arith) (omega arith) ∙ represented.others a b e;
        outs = λ i h. apart (output_addr m i) (omega arith) (omega arith) ∙ represented.outs i h;
        behind = λ a b. apart a (omega arith) (omega arith) ∙ represented.behind a b;
      }
