-- Groups one after the other: "gate by gate", the first that is refused refuses the text.
use Rattle.base.specs.{ℕ, ◌≤◌, ◌≡◌, refl, subst, ◌⊎◌, inl, inr, ⊎_elim, List, [], ◌∷◌, cons≢nil, Memᴰ, Memᴰ-head, Memᴰ-tail}
use Rattle.base.specs.{length}
use Rattle.model.specs.{holds, next, Group, read_group, read_groups}
use Rattle.model.specs.Genlib.{Gate}
use Rattle.promises.specs.{Exactly}
use Rattle.theory_refusals.proofs.{exactly_next, exactly_holds, exactly_map}
use Rattle.theory_genlib_refusals.proofs.GroupExactly.{GroupHolds, GroupFault, group_exactly}

-- a cell for each group, in order
pub data GroupsHold : List Group → List Gate → Type 0 where
  no_group : GroupsHold [] []
  a_group : {g : Group} {gs : List Group} {c : Gate} {cs : List Gate} → GroupHolds g c → GroupsHold gs cs → GroupsHold (g ∷ gs) (c ∷ cs)

-- the first group that is refused, behind some that are not
pub data GroupsFault : List Group → ℕ → ℕ → Type 0 where
  this_one : {g : Group} {gs : List Group} {n k : ℕ} → GroupFault g n k → GroupsFault (g ∷ gs) n k
  later_one : {g : Group} {gs : List Group} {c : Gate} {n k : ℕ} → GroupHolds g c → GroupsFault gs n k → GroupsFault (g ∷ gs) n k

fault-some : {gs : List Group} {n k : ℕ} → GroupsFault gs n k → ¬ (gs ≡ [])
fault-some (this_one f) e = cons≢nil e
fault-some (later_one x f) e = cons≢nil e

pub groups_exactly : (gs : List Group) → ((g : Group) → Memᴰ g gs → length g.head.bytes ≤ 65536) → Exactly (GroupsHold gs) (GroupsFault gs) (read_groups gs)
unfolding read_groups
groups_exactly [] short = exactly_map (holds []) (λ cs. (empty cs, back cs)) (λ n k. (absurd, none n k)) (exactly_holds [])
  where
    empty : (cs : List Gate) → [] ≡ cs → GroupsHold [] cs
    empty cs e = subst (GroupsHold []) e no_group

    back : (cs : List Gate) → GroupsHold [] cs → [] ≡ cs
    back cs no_group = refl

    none : (n k : ℕ) → GroupsFault [] n k → ⊥
    none n k f = fault-some f refl
groups_exactly (g ∷ gs) short = exactly_map (next (read_group g) (λ c. next (read_groups gs) (λ cs. holds (c ∷ cs))))
    (λ cs. (there cs, back cs)) (λ n k. ((λ z. ⊎_elim this_one (λ p. ⊎_elim (later_one p.1) (λ q. absurd q.2) p.2) z), up n k))
    (exactly_next (λ c x ds. (cs : List Gate) × GroupsHold gs cs × (c ∷ cs ≡ ds))
    (λ c x n k. GroupsFault gs n k ⊎ ((cs : List Gate) × GroupsHold gs cs × ⊥)) (read_group g)
    (λ c. next (read_groups gs) (λ cs. holds (c ∷ cs))) (group_exactly g (short g (Memᴰ-head refl))) (λ c x.
    exactly_next (λ cs y ds. c ∷ cs ≡ ds) (λ cs y n k. ⊥) (read_groups gs) (λ cs. holds (c ∷ cs))
    (groups_exactly gs (λ q m. short q (Memᴰ-tail m))) (λ cs y. exactly_holds (c ∷ cs))))
  where
    there : (ds : List Gate) → ((c : Gate) × (x : GroupHolds g c) × ((cs : List Gate) × GroupsHold gs cs × (c ∷ cs ≡ ds))) → GroupsHold (g ∷ gs) ds
    there ds p = subst (GroupsHold (g ∷ gs)) p.2.2 (a_group p.1 p.2.1)

    back : (ds : List Gate) → GroupsHold (g ∷ gs) ds → (c : Gate) × (x : GroupHolds g c) × ((cs : List Gate) × GroupsHold gs cs × (c ∷ cs ≡ ds))
    back ds (a_group {c = c} {cs} x y) = (c, x, (cs, y, refl))

    up : (n k : ℕ) → GroupsFault (g ∷ gs) n k → GroupFault g n k ⊎ ((c : Gate) × (x : GroupHolds g c) × (GroupsFault gs n k ⊎ ((cs : List Gate) × GroupsHold gs cs × ⊥)))
    up n k (this_one f) = inl f
    up n k (later_one {c = c} x f) = inr (c, x, inl f)
