-- What the loop of `insert_position` goes by, and what `move_up` and `insert` leave: the keys that stand in an array from a place on.
--     one_more_lem, put-at        a key more before a place, and a key put there
--     passed, stopped, same       the key at a place is below the one that is put in, above it, or the same
--     moved-ahead, moved-behind   keys copied to the place before theirs
--     added-capacity, added_full      what adding a key comes to
use Rattle.base.specs.{◌≡◌, sym, ap, ◌∙◌, List, [], ◌∷◌, ◌++◌, ℕ, suc, ◌+◌, ◌≤◌, ◌<◌, compare, arith, add-one, length, take, drop, get_or}
use Rattle.base.specs.{set, take-append-drop, drop_of_length-le, length-take, drop-cons, take-suc, set_split, drop-append-le}
use Rattle.base.specs.{append_snoc, length-take-le, lt-ltb, le-ltb, length-drop, drop-drop, drop_at, ◌-◌}
use Rattle.std.specs.List.{copy_within}
use Rattle.std.proofs.lemmas.List.{drop-take}
use Rattle.std.proofs.lemmas.List.Edits.{drop-paste, take-paste}
use Rattle.model.specs.{insert}
use Rattle.cut_lists.specs.{added, key_capacity}
use Rattle.cut_lists.proofs.CutMerge.{insert-before, insert-past, insert-same}

pub none_between : (L : List ℕ) (p : ℕ) → drop p (take p L) ≡ []
none_between L p = drop_of_length-le (take p L) {i = p} (omega (arith, length-take p L))

module _ (L : List ℕ) (p i : ℕ) (h : p ≤ i) where
  -- what stands behind the keys from p on that stand before i
  behind : (Z : List ℕ) → i ≤ length L → drop p (take i L ++ Z) ≡ drop p (take i L) ++ Z
  behind Z l = drop-append-le p (take i L) Z (omega (arith, length-take-le i L l))

  pub rejoin : i ≤ length L → drop p (take i L) ++ drop i L ≡ drop p L
  rejoin l = sym (behind (drop i L) l) ∙ ap (drop p) (take-append-drop i L)

  module _ (l : i < length L) where
    pub one_more_lem : drop p (take (suc i) L) ≡ drop p (take i L) ++ (get_or L i 0 ∷ [])
    one_more_lem = ap (drop p) (take-suc L i 0 l) ∙ behind (get_or L i 0 ∷ []) (omega arith)

    pub put-at : (v : ℕ) → drop p (set L i v) ≡ drop p (take i L) ++ (v ∷ drop (suc i) L)
    put-at v = ap (drop p) (set_split L i v l) ∙ behind (v ∷ drop (suc i) L) (omega arith)

    module _ (k : ℕ) where
      at_hand : insert compare k (drop i L) ≡ insert compare k (get_or L i 0 ∷ drop (suc i) L)
      at_hand = ap (insert compare k) (drop-cons L i 0 l)

      pub passed : get_or L i 0 < k
          → drop p (take i L) ++ insert compare k (drop i L) ≡ drop p (take (i + 1) L) ++ insert compare k (drop (i + 1) L)
      passed y =
          ap (λ (s : List ℕ). drop p (take i L) ++ s) (at_hand ∙ insert-past k (get_or L i 0) (drop (suc i) L) y)
          ∙ sym (append_snoc (drop p (take i L)) (get_or L i 0) (insert compare k (drop (suc i) L)))
          ∙ rw add-one (ap (λ (s : List ℕ). s ++ insert compare k (drop (suc i) L)) (sym one_more_lem))

      pub stopped : k < get_or L i 0 → insert compare k (drop i L) ≡ k ∷ drop i L
      stopped y =
          at_hand ∙ insert-before k (get_or L i 0) (drop (suc i) L) y ∙ ap (λ (s : List ℕ). k ∷ s) (sym (drop-cons L i 0 l))

      pub same : k ≡ get_or L i 0 → insert compare k (drop i L) ≡ drop i L
      same e = at_hand ∙ insert-same k (get_or L i 0) (drop (suc i) L) e ∙ sym (drop-cons L i 0 l)

pub ended : (L : List ℕ) (i k : ℕ) → length L ≤ i → insert compare k (drop i L) ≡ k ∷ drop i L
unfolding insert
ended L i k h = rw (drop_of_length-le L {i = i} h)

-- the keys from f on that stand before t, copied to the place before theirs
module _ (K : List ℕ) (f t : ℕ) (out : List ℕ) (some : 0 < f) (h : f ≤ t) (l : t ≤ length K) (e : out ≡ copy_within K f t (f - 1)) where
  many : t - f ≤ length (drop f K)
  many = omega (arith, length-drop f K)

  pub moved-ahead : drop (f - 1) (take (t - 1) out) ≡ drop f (take t K)
  moved-ahead =
      let n : t - 1 ≡ f - 1 + (t - f) = omega arith in
      let m : f + (t - f) ≡ t = omega arith in
      rw (e, n) (ap (drop (f - 1)) (take-paste K (f - 1) (drop f K) (t - f) (omega arith) many)
      ∙ drop_at (take (f - 1) K) (take (t - f) (drop f K)) (f - 1) (length-take-le (f - 1) K (omega arith))
      ∙ sym (drop-take f (t - f) K) ∙ ap (λ (k : ℕ). drop f (take k K)) m)

  pub moved-behind : drop t out ≡ drop t K
  moved-behind =
      let n : t ≡ f - 1 + (t - f) + 1 = omega arith in
      let k : ℕ = f - 1 + (t - f) in
      ap (drop t) e ∙ ap (λ (j : ℕ). drop j (copy_within K f t (f - 1))) n ∙ sym (drop-drop 1 k (copy_within K f t (f - 1)))
      ∙ ap (drop 1) (drop-paste K (f - 1) (drop f K) (t - f) (omega arith) many) ∙ drop-drop 1 k K ∙ ap (λ (j : ℕ). drop j K) (sym n)

pub added-capacity : (k : ℕ) (ks : List ℕ) → length ks < key_capacity → added k ks ≡ insert compare k ks
unfolding added
added-capacity k ks h = rw (lt-ltb (length ks) key_capacity h)

pub added_full : (k : ℕ) (ks : List ℕ) → key_capacity ≤ length ks → added k ks ≡ ks
unfolding added
added_full k ks h = rw (le-ltb (length ks) key_capacity h)
