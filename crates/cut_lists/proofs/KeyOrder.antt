-- The order of the keys of good cuts is the order in which cuts are listed.
--     key-compare                 the comparison of two keys is that of the cuts
--     keys_insert                 a key put among keys is the cut put among the cuts
use Rattle.base.specs.{◌≡◌, refl, ap, ◌∙◌, List, [], ◌∷◌, map, ℕ, zero, suc, ◌+◌, ◌*◌, ◌≤◌, ◌<◌, compare, Ordering, Ordering-lt}
use Rattle.base.specs.{Ordering-eq, Ordering-gt, arith, length}
use Rattle.model.specs.{put, insert, after, compare_leaves, compare_cuts}
use Rattle.theory_graph.proofs.{compare-found}
use Rattle.theory_order.proofs.{compare_less, compare-more, less_compare}
use Rattle.base_words.specs.{Leaves, Good, AllGood}
use Rattle.cut_lists.specs.{key_from, key}
use Rattle.cut_lists.proofs.CutMerge.{compare-eq, compare-gt}

after-after : (a b c : Ordering) → after (after a b) c ≡ after a (after b c)
unfolding after
after-after Ordering-lt b c = refl
after-after Ordering-eq b c = refl
after-after Ordering-gt b c = refl

-- two numbers of two digits
digits : (a b x y : ℕ) → x < 4096 → y < 4096 → compare (a * 4096 + x) (b * 4096 + y) ≡ after (compare a b) (compare x y)
unfolding after
digits a b x y hx hy = by (compare a b) refl
  where
    last : a ≡ b → (o : Ordering) → compare x y ≡ o → compare (a * 4096 + x) (b * 4096 + y) ≡ o
    last s Ordering-lt e = less_compare _ _ (omega (arith, compare_less x y e))
    last s Ordering-eq e = compare-eq _ _ (omega (arith, compare-found x y e))
    last s Ordering-gt e = compare-gt _ _ (omega (arith, compare-more x y e))

    by : (o : Ordering) → compare a b ≡ o → compare (a * 4096 + x) (b * 4096 + y) ≡ after o (compare x y)
    by Ordering-lt e = less_compare _ _ (omega (arith, compare_less a b e))
    by Ordering-eq e = last (compare-found a b e) (compare x y) refl
    by Ordering-gt e = compare-gt _ _ (omega (arith, compare-more a b e))

-- where numbers differ, nothing after them is compared
decided : (a b : ℕ) (o p : Ordering) → (a ≡ b → ⊥) → after (compare a b) o ≡ after (compare a b) p
unfolding after
decided a b o p n = by (compare a b) refl
  where
    by : (q : Ordering) → compare a b ≡ q → after q o ≡ after q p
    by Ordering-lt e = refl
    by Ordering-eq e = absurd (n (compare-found a b e))
    by Ordering-gt e = refl

-- n leaves more of two cuts that have the same number of leaves where what stands before is the same
pack : (n lo lo' : ℕ) (c d : List ℕ) (a b : ℕ) → length c ≤ n → length d ≤ n → Leaves lo c → Leaves lo' d → (a ≡ b → length c ≡ length d)
    → compare (key_from n a c) (key_from n b d) ≡ after (compare a b) (compare_leaves c d)
unfolding key_from compare_leaves after
pack zero lo lo' [] [] a b hc hd gc gd e = by (compare a b)
  where
    by : (o : Ordering) → o ≡ after o Ordering-eq
    by Ordering-lt = refl
    by Ordering-eq = refl
    by Ordering-gt = refl
pack zero lo lo' (x ∷ c) d a b hc hd gc gd e = absurd (omega arith)
pack zero lo lo' [] (y ∷ d) a b hc hd gc gd e = absurd (omega arith)
pack (suc n) lo lo' [] [] a b hc hd gc gd e =
    pack n 0 0 [] [] (a * 4096 + 0) (b * 4096 + 0) (omega arith) (omega arith) tt tt (λ s. refl)
    ∙ ap (λ (o : Ordering). after o Ordering-eq) (digits a b 0 0 (omega arith) (omega arith))
    ∙ after-after (compare a b) (compare 0 0) Ordering-eq
    ∙ ap (after (compare a b)) (ap (λ (o : Ordering). after o Ordering-eq) (compare-eq 0 0 refl))
pack (suc n) lo lo' (x ∷ c) [] a b hc hd gc gd e =
    let other : (a ≡ b) → ⊥ = λ s. omega (arith, e s) in
    pack n (suc x) 0 c [] (a * 4096 + x) (b * 4096 + 0) (omega arith) (omega arith) gc.2 tt (λ s. absurd (other (omega (arith, gc.1))))
    ∙ ap (λ (o : Ordering). after o (compare_leaves c [])) (digits a b x 0 gc.1 (omega arith))
    ∙ after-after (compare a b) (compare x 0) (compare_leaves c [])
    ∙ decided a b _ _ other
pack (suc n) lo lo' [] (y ∷ d) a b hc hd gc gd e =
    let other : (a ≡ b) → ⊥ = λ s. omega (arith, e s) in
    pack n 0 (suc y) [] d (a * 4096 + 0) (b * 4096 + y) (omega arith) (omega arith) tt gd.2 (λ s. absurd (other (omega (arith, gd.1))))
    ∙ ap (λ (o : Ordering). after o (compare_leaves [] d)) (digits a b 0 y (omega arith) gd.1)
    ∙ after-after (compare a b) (compare 0 y) (compare_leaves [] d)
    ∙ decided a b _ _ other
pack (suc n) lo lo' (x ∷ c) (y ∷ d) a b hc hd gc gd e =
    pack n (suc x) (suc y) c d (a * 4096 + x) (b * 4096 + y) (omega arith) (omega arith) gc.2 gd.2
    (λ s. let t : a ≡ b = omega (arith, gc.1, gd.1) in omega (arith, e t))
    ∙ ap (λ (o : Ordering). after o (compare_leaves c d)) (digits a b x y gc.1 gd.1)
    ∙ after-after (compare a b) (compare x y) (compare_leaves c d)

-- "by size, then by ascending leaves compared left to right"
pub key-compare : (c d : List ℕ) → Good c → Good d → compare (key c) (key d) ≡ compare_cuts c d
unfolding key compare_cuts
key-compare c d gc gd = pack 4 0 0 c d (length c) (length d) gc.0 gd.0 gc.1 gd.1 (λ e. e)

pub keys_insert : (z : List ℕ) (cs : List (List ℕ)) → Good z → AllGood cs → insert compare (key z) (map key cs) ≡ map key (insert compare_cuts z cs)
unfolding insert put
keys_insert z [] gz g = refl
keys_insert z (c ∷ cs) gz g =
    ap (λ (o : Ordering). put o (key z) (key c) (map key cs) (insert compare (key z) (map key cs))) (key-compare z c gz g.0)
    ∙ by (compare_cuts z c) (keys_insert z cs gz g.1)
  where
    by : (o : Ordering) → insert compare (key z) (map key cs) ≡ map key (insert compare_cuts z cs)
        → put o (key z) (key c) (map key cs) (insert compare (key z) (map key cs)) ≡ map key (put o z c cs (insert compare_cuts z cs))
    by Ordering-lt e = refl
    by Ordering-eq e = refl
    by Ordering-gt e = ap (λ (l : List ℕ). key c ∷ l) e
