-- The leaves' tables among the notes.
--     leaf_begin, leaf_step       none noted yet, and one more, from the last to the first
--     fresh-noted, fresh-early    what a walk with a new number begins from
--     leaves-small                a leaf is a variable, so that it has a note
--     cut-..., begun              a cut that is loaded, and the notes with its leaves
use Rattle.base.specs.{◌≡◌, refl, sym, ap, ◌∙◌, subst, Bool, true, false, cond, ◌⊎◌, inl, inr, ⊎_elim, List, [], ◌∷◌, ℕ, zero, suc, ◌+◌}
use Rattle.base.specs.{◌≤◌, ◌<◌, not-suc-le-zero, le_of_suc-le-suc, arith, eqb, length, drop, get_or, set, length-set, drop_of_length-le}
use Rattle.base.specs.{drop-cons, get_or-set_same, get_or-set_other, length-take-le, get_or-take, eqb-true, eqb-false}
use Rattle.model.specs.declared.Cut.{Cut}
use Rattle.base_words.specs.{count_at, node_at, leaves_of, leaves_at, cut_of, cuts_at, Leaves, Sound}
use Rattle.base_words.proofs.{four-leaves, count-listed, cut-listed, good_get}
use Rattle.base_truth.specs.{leaf_table}
use Rattle.cut_functions.specs.{leaf_word, leaf_notes, Early, Noted}
use Rattle.cut_functions.proofs.ConeTables.{leaf_small}
use Rattle.cut_functions.proofs.ConeWalks.{walk_leaf}

pub leaf_step : (ls : List ℕ) (i j base : ℕ) (start notes : List ℕ) (u x : ℕ) → i ≡ suc j → j < length ls → notes ≡ leaf_notes (drop i ls) i base start
    → u ≡ get_or ls j 0 → x ≡ leaf_table j → set notes u (base + x) ≡ leaf_notes (drop j ls) j base start
unfolding leaf_notes
leaf_step ls i j base start notes u x ei h en eu ex =
    let before : notes ≡ leaf_notes (drop (suc j) ls) (suc j) base start = en ∙ ap (λ (q : ℕ). leaf_notes (drop q ls) q base start) ei in
    (λ k. set (before k) (eu k) (base + ex k)) ∙ sym (ap (λ (l : List ℕ). leaf_notes l j base start) (drop-cons ls j 0 h))

-- none noted yet
pub leaf_begin : (ls : List ℕ) (i base : ℕ) (start : List ℕ) → length ls ≤ i → start ≡ leaf_notes (drop i ls) i base start
unfolding leaf_notes
leaf_begin ls i base start h = sym (ap (λ (l : List ℕ). leaf_notes l i base start) (drop_of_length-le ls h))

pub length-noted : (ls : List ℕ) (i base : ℕ) (notes : List ℕ) → length (leaf_notes ls i base notes) ≡ length notes
unfolding leaf_notes
length-noted [] i base notes = refl
length-noted (x ∷ xs) i base notes = length-set (leaf_notes xs (suc i) base notes) x (base + leaf_table i) ∙ length-noted xs (suc i) base notes

-- a note n behind the leaves', where l is its leaf's word: the leaf's, or what it was
abbrev Behind : ℕ → ℕ → ℕ → ℕ → Type 0
Behind base l n was = ((l < 65536) × (n ≡ base + l)) ⊎ ((65536 ≤ l) × (n ≡ was))

note_at : (ls : List ℕ) (i base : ℕ) (notes : List ℕ) → ((j : ℕ) → j < length ls → get_or ls j 0 < length notes) → (u : ℕ)
    → Behind base (leaf_word ls i u) (get_or (leaf_notes ls i base notes) u 0) (get_or notes u 0)
unfolding leaf_notes leaf_word
note_at [] i base notes h u = inr (omega arith, refl)
note_at (x ∷ xs) i base notes h u = by (eqb u x) refl (note_at xs (suc i) base notes (λ j l. h (suc j) (omega arith)) u)
  where
    rest : List ℕ
    rest = leaf_notes xs (suc i) base notes

    by : (t : Bool) → eqb u x ≡ t → Behind base (leaf_word xs (suc i) u) (get_or rest u 0) (get_or notes u 0)
        → Behind base (cond t (leaf_table i) (leaf_word xs (suc i) u)) (get_or (set rest x (base + leaf_table i)) u 0) (get_or notes u 0)
    by true e before =
        inl (
          leaf_small i,
          ap (λ (q : ℕ). get_or (set rest x (base + leaf_table i)) q 0) (eqb-true u x e)
              ∙ get_or-set_same rest x (base + leaf_table i) 0 (omega (arith, length-noted xs (suc i) base notes, h 0 (omega arith))),
        )
    by false e before = rw (get_or-set_other rest x u (base + leaf_table i) 0 (eqb-false u x e)) before

-- a walk that begins has noted the leaves alone
module _ (m base : ℕ) (notes : List ℕ) (early : Early m base notes) (ls : List ℕ)
    (inside : (j : ℕ) → j < length ls → get_or ls j 0 < length notes) where
  pub fresh-noted : (w : List ℕ) → Noted w m ls base (leaf_notes ls 0 base notes)
  fresh-noted w =
      record {
        right =
            λ u h b f p.
            ⊎_elim (λ y. y.1 ∙ ap (λ (x : ℕ). base + x) (sym (walk_leaf f (node_at w m) ls u y.0)))
            (λ n. absurd (omega (arith, n.1, early.before u h))) (note_at ls 0 base notes inside u);
        leaves = λ u h l. ⊎_elim (λ y. omega (arith, y.1)) (λ n. absurd (omega (arith, n.0))) (note_at ls 0 base notes inside u);
      }

  pub fresh-early : Early m (base + 65536) (leaf_notes ls 0 base notes)
  fresh-early =
      record {
        long = length-noted ls 0 base notes ∙ early.long;
        before =
            λ u h. ⊎_elim (λ y. omega (arith, y.0, y.1)) (λ n. omega (arith, n.1, early.before u h)) (note_at ls 0 base notes inside u);
      }

pub leaves-small : (lo : ℕ) (ls : List ℕ) → Leaves lo ls → (j : ℕ) → j < length ls → get_or ls j 0 < 4096
leaves-small lo [] good j h = absurd (not-suc-le-zero h)
leaves-small lo (x ∷ xs) good zero h = good.1
leaves-small lo (x ∷ xs) good (suc j) h = leaves-small (suc x) xs good.2 j (le_of_suc-le-suc h)

-- a cut that is loaded: at most four leaves, each a variable
module _ (w : List ℕ) (m v k : ℕ) (s : Sound w m v) (h : k < count_at w m v) (c : Cut) (e : c ≡ cut_of w m v k) where
  pub cut-narrow : c.count ≤ 4
  cut-narrow = subst (λ (z : Cut). z.count ≤ 4) (sym e) (s.narrow k h)

  leaves-long : length (leaves_of c) ≡ c.count
  leaves-long = length-take-le c.count c.leaves (omega (arith, cut-narrow, ap (λ (z : Cut). length z.leaves) e, four-leaves w m v k))

  pub cut-leaves : leaves_of c ≡ leaves_at w m v k
  cut-leaves = ap leaves_of e

  leaf_small-at : (j : ℕ) → j < length (leaves_of c) → get_or (leaves_of c) j 0 < 4096
  leaf_small-at =
      leaves-small 0 (leaves_of c)
      (subst (Leaves 0) (cut-listed w m v k h ∙ sym cut-leaves) (good_get (cuts_at w m v) k s.good (omega (arith, count-listed w m v))).1)

  pub cut_small : (j : ℕ) → j < c.count → get_or c.leaves j 0 < 4096
  cut_small j l = omega (arith, get_or-take c.count c.leaves j 0 l, leaf_small-at j (omega (arith, leaves-long)))

  pub begun : (base : ℕ) (notes : List ℕ) → Early m base notes → (out : List ℕ) → out ≡ leaf_notes (leaves_of c) 0 base notes
      → Noted w m (leaves_of c) base out × Early m (base + 65536) out
  begun base notes early out eo =
      let inside : (j : ℕ) → j < length (leaves_of c) → get_or (leaves_of c) j 0 < length notes = λ j l. omega (arith, leaf_small-at j l, early.long) in (
        subst (Noted w m (leaves_of c) base) (sym eo) (fresh-noted m base notes early (leaves_of c) inside w),
        subst (Early m (base + 65536)) (sym eo) (fresh-early m base notes early (leaves_of c) inside),
      )
