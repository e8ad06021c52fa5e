-- The keys of one node's cuts, and what storing them comes to:
--     reads                       the operands' lists can be read
--     too_many, few-enough        what a list of 19 keys says, and a shorter one
--     keys_small                  each key has a size of at most four
use Rattle.base.specs.{◌≡◌, sym, ap, ◌∙◌, subst, ◌⊎◌, inl, inr, Bool, true, false, cond, List, [], ℕ, ◌/◌, ◌≤◌, ◌<◌, arith, eqb, leb}
use Rattle.base.specs.{length, get_or, length-map, get_or-map, le-leb, lt-leb}
use Rattle.model.specs.{cut_limit, constant, input, undefined, both, var_of}
use Rattle.base_words.specs.{constant_kind, input_kind, and_kind, kind_at, left_at, right_at, node_of, node_at, cuts_at, put_list, Good, AllGood}
use Rattle.base_words.proofs.{good_get}
use Rattle.cut_lists.specs.{key, key_from, node_keys, put_keys, key_capacity, Operands, cuts_now, few, listed}
use Rattle.cut_lists.proofs.CutStores.{put_keys_list, key-size}
use Rattle.cut_lists.proofs.MergeInvariant.{Tracks, Reads, node_tracks}

-- a node that is an AND has operands within the graph
pub node-reads : (look : ℕ → List (List ℕ)) (k l r : ℕ) → AllGood (look (l / 2)) → AllGood (look (r / 2)) → Reads look (node_of k l r)
unfolding var_of
node-reads look k l r gl gr = by (eqb k constant_kind) (eqb k input_kind) (eqb k and_kind)
  where
    by : (a b c : Bool) → Reads look (cond a constant (cond b input (cond c (both l r) undefined)))
    by true b c = tt
    by false true c = tt
    by false false true = (gl, gr)
    by false false false = tt

module _ (w : List ℕ) (m v : ℕ) (o : Operands w m) (inside : v ≤ m) where
  pub reads : Reads (cuts_at w m) (node_at w m v)
  unfolding node_at
  reads =
      let l : left_at w m v / 2 ≤ m = omega (arith, o.lefts v inside) in
      let r : right_at w m v / 2 ≤ m = omega (arith, o.rights v inside) in
      node-reads (cuts_at w m) (kind_at w m v) (left_at w m v) (right_at w m v) (o.sound _ l).good (o.sound _ r).good

  pub tracks : Tracks (node_keys (cuts_at w m) v (node_at w m v)) (cuts_now w m v)
  unfolding cuts_now
  tracks = node_tracks (cuts_at w m) v (node_at w m v) (omega (arith, o.capacity.small)) reads

  -- few cuts are all there, and good
  pub now_good : length (cuts_now w m v) ≤ cut_limit → AllGood (cuts_now w m v)
  now_good h = by tracks.agree
    where
      by : (tracks.cuts ≡ cuts_now w m v) ⊎ ((key_capacity ≤ length tracks.cuts) × (key_capacity ≤ length (cuts_now w m v))) → AllGood (cuts_now w m v)
      by (inl e) = subst AllGood e tracks.good
      by (inr e) = absurd (omega (arith, e.1))

  module _ (ks : List ℕ) (e : ks ≡ node_keys (cuts_at w m) v (node_at w m v)) where
    count : length ks ≡ length tracks.cuts
    count = ap length (e ∙ tracks.keys) ∙ simp length-map

    pub too_many : key_capacity ≤ length ks → (false ≡ few w m v) × (w ≡ listed w m v)
    unfolding few listed
    too_many h = by tracks.agree
      where
        wide : cut_limit < length (cuts_now w m v) → (false ≡ few w m v) × (w ≡ listed w m v)
        wide l = let no : leb (length (cuts_now w m v)) cut_limit ≡ false = lt-leb (length (cuts_now w m v)) cut_limit l in (sym no, rw no)

        by : (tracks.cuts ≡ cuts_now w m v) ⊎ ((key_capacity ≤ length tracks.cuts) × (key_capacity ≤ length (cuts_now w m v))) → (false ≡ few w m v) × (w ≡ listed w m v)
        by (inl s) = wide (omega (arith, count, ap length s))
        by (inr s) = wide s.1

    pub few-enough : length ks ≤ cut_limit → (true ≡ few w m v) × (put_keys w m v ks ≡ listed w m v)
    unfolding few listed
    few-enough h = by tracks.agree
      where
        by : (tracks.cuts ≡ cuts_now w m v) ⊎ ((key_capacity ≤ length tracks.cuts) × (key_capacity ≤ length (cuts_now w m v))) → (true ≡ few w m v) × (put_keys w m v ks ≡ listed w m v)
        by (inl s) =
            let yes : leb (length (cuts_now w m v)) cut_limit ≡ true = le-leb (length (cuts_now w m v)) cut_limit (omega (arith, count, ap length s)) in
            (sym yes, put_keys_list w m v ks tracks.cuts (e ∙ tracks.keys) tracks.good ∙ ap (put_list w m v) s ∙ rw yes)
        by (inr s) = absurd (omega (arith, count, s.0))

    pub keys_small : (i : ℕ) → i < length ks → get_or ks i 0 / 4096 / 4096 / 4096 / 4096 ≤ 4
    unfolding key key_from
    keys_small i h =
        let g : Good (get_or tracks.cuts i []) = good_get tracks.cuts i tracks.good (omega (arith, count)) in
        let s : get_or ks i 0 ≡ key (get_or tracks.cuts i []) = ap (λ (l : List ℕ). get_or l i 0) (e ∙ tracks.keys) ∙ get_or-map key tracks.cuts i [] in
        rw s (key-size (get_or tracks.cuts i []) g)
