-- What the loops of `merge_row` and `merge_lists` go by: a pair of cuts adds its union, or nothing.
--     leaves-from, leaves-rising  a good cut ascends
--     at_hand                     the list from a cut on begins with that cut
--     merge_row-narrow, merge_row-wide        a pair more, whose union has at most four leaves, or more
--     left-wide, right-wide       what is left of either cut is in the union
use Rattle.base.specs.{◌≡◌, ap, ◌∙◌, subst, List, [], ◌∷◌, ◌++◌, ℕ, suc, ◌+◌, ◌≤◌, ◌<◌, compare, arith, length, drop, length-append}
use Rattle.base.specs.{drop-cons, drop-length, le-leb, lt-leb}
use Rattle.model.specs.{union}
use Rattle.base_words.specs.{count_at, leaves_at, cuts_at, Leaves, Good, Sound}
use Rattle.base_words.proofs.{count-listed, cut-listed, good_get}
use Rattle.cut_lists.specs.{Rising, key, added, added_cut, merge_row_keys}
use Rattle.cut_lists.proofs.CutMerge.{union-long}

pub leaves-from : {lo hi : ℕ} (xs : List ℕ) → lo ≤ hi → Leaves hi xs → Leaves lo xs
leaves-from [] h g = tt
leaves-from (x ∷ xs) h g = (omega (arith, g.0), g.1, g.2)

pub leaves-rising : (lo : ℕ) (xs : List ℕ) → Leaves lo xs → Rising lo xs
leaves-rising lo [] h = tt
leaves-rising lo (x ∷ xs) h = (h.0, leaves-rising (suc x) xs h.2)

-- a union that what is left of either cut makes too long
module _ (U ls : List ℕ) (v : ℕ) (A B : List ℕ) (e : U ≡ ls ++ (v ∷ union compare A B)) (ra : Rising 0 A) (rb : Rising 0 B) where
  size : length U ≡ length ls + suc (length (union compare A B))
  size = ap length e ∙ length-append ls (v ∷ union compare A B)

  pub left-wide : 4 ≤ length ls + length A → 4 < length U
  left-wide h = omega (arith, size, (union-long 0 A B ra rb).0.0)

  pub right-wide : 4 ≤ length ls + length B → 4 < length U
  right-wide h = omega (arith, size, (union-long 0 A B ra rb).1.0)

pub merge_row-narrow : (c d : List ℕ) (ds : List (List ℕ)) (ks : List ℕ) → length (union compare c d) ≤ 4
    → merge_row_keys c (d ∷ ds) ks ≡ added (key (union compare c d)) (merge_row_keys c ds ks)
unfolding merge_row_keys added_cut
merge_row-narrow c d ds ks h = rw (le-leb (length (union compare c d)) 4 h)

pub merge_row-wide : (c d : List ℕ) (ds : List (List ℕ)) (ks : List ℕ) → 4 < length (union compare c d) → merge_row_keys c (d ∷ ds) ks ≡ merge_row_keys c ds ks
unfolding merge_row_keys added_cut
merge_row-wide c d ds ks h = rw (lt-leb (length (union compare c d)) 4 h)

-- the cuts of v in the words w, by number
module _ (w : List ℕ) (m v : ℕ) where
  pub at_hand : (j : ℕ) → j < count_at w m v → drop j (cuts_at w m v) ≡ leaves_at w m v j ∷ drop (suc j) (cuts_at w m v)
  at_hand j h =
      drop-cons (cuts_at w m v) j [] (omega (arith, count-listed w m v))
      ∙ ap (λ (c : List ℕ). c ∷ drop (suc j) (cuts_at w m v)) (cut-listed w m v j h)

  pub cut-good : Sound w m v → (j : ℕ) → j < count_at w m v → Good (leaves_at w m v j)
  cut-good s j h =
      subst Good (cut-listed w m v j h) (good_get (cuts_at w m v) j s.good (omega (arith, count-listed w m v)))

  pub none_left : drop (count_at w m v) (cuts_at w m v) ≡ []
  none_left = rw (← count-listed w m v) (drop-length (cuts_at w m v))
