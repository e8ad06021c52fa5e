-- The keys of a node's cuts, as far as there is room, are those of the cuts that `model` gives it.
--     Tracks                      keys and a list of cuts: the same, or both too many
--     node_tracks                 so it is for the cuts of each node
--     keep_append                 what is kept of two lists, one after the other
use Rattle.base.specs.{◌≡◌, refl, sym, ap, ◌∙◌, subst, ◌⊎◌, inl, inr, Bool, true, false, cond, List, [], ◌∷◌, ◌++◌, map, ℕ, suc, ◌≤◌, ◌<◌}
use Rattle.base.specs.{compare, Ordering, Ordering-lt, Ordering-eq, Ordering-gt, arith, ltb, leb, length, length-map, ltb-true, ltb-false}
use Rattle.base.specs.{leb-true}
use Rattle.model.specs.{put, insert, union, keep, each, Node, constant, input, undefined, both, var_of, compare_cuts, unions, node_cuts}
use Rattle.theory_graph.proofs.{keep_append}
use Rattle.base_words.specs.{Leaves, Good, AllGood}
use Rattle.cut_lists.specs.{key, added, added_cut, merge_row_keys, merged_keys, node_keys, key_capacity}
use Rattle.cut_lists.proofs.CutMerge.{three, insert-first, insert-same, insert-past}
use Rattle.cut_lists.proofs.MergeRows.{leaves-from, leaves-rising}
use Rattle.cut_lists.proofs.KeyOrder.{keys_insert}

-- good cuts stay good
insert-leaves : (lo x : ℕ) (l : List ℕ) → lo ≤ x → x < 4096 → Leaves lo l → Leaves lo (insert compare x l)
unfolding insert
insert-leaves lo x [] h b g = (h, b, tt)
insert-leaves lo x (y ∷ ys) h b g =
    three x y
    (λ e. subst (Leaves lo) (sym (insert-first x (y ∷ ys) (e, leaves-rising (suc y) ys g.2))) (h, b, (e, g.1, g.2)))
    (λ e. subst (Leaves lo) (sym (insert-same x y ys e)) g)
    (λ e. subst (Leaves lo) (sym (insert-past x y ys e)) (g.0, g.1, insert-leaves (suc y) x ys e b g.2))

pub union-leaves : (lo : ℕ) (xs ys : List ℕ) → Leaves lo xs → Leaves lo ys → Leaves lo (union compare xs ys)
unfolding union
union-leaves lo [] ys g h = h
union-leaves lo (x ∷ xs) ys g h =
    insert-leaves lo x (union compare xs ys) g.0 g.1 (union-leaves lo xs ys (leaves-from xs (omega (arith, g.0)) g.2) h)

insert-good : (z : List ℕ) (cs : List (List ℕ)) → Good z → AllGood cs → AllGood (insert compare_cuts z cs)
unfolding insert put
insert-good z [] gz g = (gz, tt)
insert-good z (c ∷ cs) gz g = by (compare_cuts z c) (insert-good z cs gz g.1)
  where
    by : (o : Ordering) → AllGood (insert compare_cuts z cs) → AllGood (put o z c cs (insert compare_cuts z cs))
    by Ordering-lt h = (gz, g)
    by Ordering-eq h = g
    by Ordering-gt h = (g.0, h)

insert-more : (z : List ℕ) (cs : List (List ℕ)) → length cs ≤ length (insert compare_cuts z cs)
unfolding insert put
insert-more z [] = omega arith
insert-more z (c ∷ cs) = by (compare_cuts z c) (insert-more z cs)
  where
    by : (o : Ordering) → length cs ≤ length (insert compare_cuts z cs) → length (c ∷ cs) ≤ length (put o z c cs (insert compare_cuts z cs))
    by Ordering-lt h = omega arith
    by Ordering-eq h = omega arith
    by Ordering-gt h = omega arith

-- the keys ks are those of good cuts, which are all of the list `full`, or too many as those are
pub record Tracks (ks : List ℕ) (full : List (List ℕ)) : Type 0 where
  pub cuts : List (List ℕ)
  pub keys : ks ≡ map key cuts
  pub good : AllGood cuts
  pub agree : (cuts ≡ full) ⊎ ((key_capacity ≤ length cuts) × (key_capacity ≤ length full))

added_tracks : (z : List ℕ) (ks : List ℕ) (full : List (List ℕ)) → Good z → Tracks ks full → Tracks (added (key z) ks) (insert compare_cuts z full)
unfolding added
added_tracks z ks full gz t = by (ltb (length ks) key_capacity) refl
  where
    n : length ks ≡ length t.cuts
    n = ap length t.keys ∙ simp length-map

    capacity : length ks < key_capacity → (t.cuts ≡ full) ⊎ ((key_capacity ≤ length t.cuts) × (key_capacity ≤ length full))
        → (insert compare_cuts z t.cuts ≡ insert compare_cuts z full) ⊎ ((key_capacity ≤ length (insert compare_cuts z t.cuts)) × (key_capacity ≤ length (insert compare_cuts z full)))
    capacity h (inl e) = inl (ap (insert compare_cuts z) e)
    capacity h (inr e) = absurd (omega (arith, n, e.0))

    no_capacity : key_capacity ≤ length ks → (t.cuts ≡ full) ⊎ ((key_capacity ≤ length t.cuts) × (key_capacity ≤ length full)) → key_capacity ≤ length full
    no_capacity h (inl e) = omega (arith, n, ap length e)
    no_capacity h (inr e) = e.1

    by : (b : Bool) → ltb (length ks) key_capacity ≡ b → Tracks (cond b (insert compare (key z) ks) ks) (insert compare_cuts z full)
    by true e =
        record {
          cuts = insert compare_cuts z t.cuts;
          keys = ap (insert compare (key z)) t.keys ∙ keys_insert z t.cuts gz t.good;
          good = insert-good z t.cuts gz t.good;
          agree = capacity (ltb-true (length ks) key_capacity e) t.agree;
        }
    by false e =
        let l : key_capacity ≤ length ks = ltb-false (length ks) key_capacity e in
        record {
          cuts = t.cuts;
          keys = t.keys;
          good = t.good;
          agree = inr (omega (arith, n), omega (arith, no_capacity l t.agree, insert-more z full));
        }

abbrev narrow : List ℕ → Bool
narrow c = leb (length c) 4

merge_row_tracks : (c : List ℕ) (ds : List (List ℕ)) (ks : List ℕ) (full : List (List ℕ)) → Good c → AllGood ds → Tracks ks full
    → Tracks (merge_row_keys c ds ks) (union compare_cuts (keep narrow (map (union compare c) ds)) full)
unfolding merge_row_keys added_cut union keep
merge_row_tracks c [] ks full gc gd t = t
merge_row_tracks c (d ∷ ds) ks full gc gd t = by (leb (length (union compare c d)) 4) refl (merge_row_tracks c ds ks full gc gd.1 t)
  where
    rest : List (List ℕ)
    rest = keep narrow (map (union compare c) ds)

    by : (b : Bool) → leb (length (union compare c d)) 4 ≡ b → Tracks (merge_row_keys c ds ks) (union compare_cuts rest full)
        → Tracks (cond b (added (key (union compare c d)) (merge_row_keys c ds ks)) (merge_row_keys c ds ks)) (union compare_cuts (cond b (union compare c d ∷ rest) rest) full)
    by true e r =
        added_tracks (union compare c d) (merge_row_keys c ds ks) (union compare_cuts rest full)
        (leb-true (length (union compare c d)) 4 e, union-leaves 0 c d gc.1 gd.0.1) r
    by false e r = r

union_append : (xs ys zs : List (List ℕ)) → union compare_cuts (xs ++ ys) zs ≡ union compare_cuts xs (union compare_cuts ys zs)
unfolding union
union_append [] ys zs = refl
union_append (x ∷ xs) ys zs = ap (insert compare_cuts x) (union_append xs ys zs)

merge_lists_tracks : (cs ds : List (List ℕ)) → AllGood cs → AllGood ds → Tracks (merged_keys cs ds) (union compare_cuts (unions cs ds) [])
unfolding merged_keys unions each keep union
merge_lists_tracks [] ds gc gd = record { cuts = []; keys = refl; good = tt; agree = inl refl }
merge_lists_tracks (c ∷ cs) ds gc gd =
    let e : union compare_cuts (unions (c ∷ cs) ds) [] ≡ union compare_cuts (keep narrow (map (union compare c) ds)) (union compare_cuts (unions cs ds) []) =
    ap (λ (l : List (List ℕ)). union compare_cuts l []) (keep_append narrow (map (union compare c) ds) (each (λ (a : List ℕ). map (union compare a) ds) cs))
    ∙ union_append (keep narrow (map (union compare c) ds)) (unions cs ds) [] in
    subst (Tracks (merged_keys (c ∷ cs) ds)) (sym e) (merge_row_tracks c ds (merged_keys cs ds) _ gc.0 gd (merge_lists_tracks cs ds gc.1 gd))

-- the operands of a node are variables of which the cuts are good
abbrev pub Reads : (ℕ → List (List ℕ)) → Node → Type 0
Reads look constant = Unit {0}
Reads look input = Unit {0}
Reads look undefined = Unit {0}
Reads look (both l r) = AllGood (look (var_of l)) × AllGood (look (var_of r))

trivial : (v : ℕ) → v < 4096 → Good (v ∷ [])
trivial v h = (omega arith, (omega arith, h, tt))

pub node_tracks : (look : ℕ → List (List ℕ)) (v : ℕ) (k : Node) → v < 4096 → Reads look k → Tracks (node_keys look v k) (node_cuts look v k)
unfolding node_keys node_cuts union
node_tracks look v constant h g = record { cuts = [] ∷ []; keys = refl; good = ((omega arith, tt), tt); agree = inl refl }
node_tracks look v input h g = record { cuts = (v ∷ []) ∷ []; keys = refl; good = (trivial v h, tt); agree = inl refl }
node_tracks look v undefined h g = record { cuts = []; keys = refl; good = tt; agree = inl refl }
node_tracks look v (both l r) h g =
    added_tracks (v ∷ []) _ (union compare_cuts (unions (look (var_of l)) (look (var_of r))) []) (trivial v h) (merge_lists_tracks (look (var_of l)) (look (var_of r)) g.0 g.1)
