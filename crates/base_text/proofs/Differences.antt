-- A difference, by the bytes at its place:
--     differs_none, differs_short    the text ends before it
--     differs_one, differs_two       its one byte, or its two
--     differs_long     more than two
--     differs_found, differs_broken  what the crate model reads there: the difference, or 20
use Rattle.base.specs.{None, Some, ℕ, suc, ◌+◌, ◌-◌, ◌*◌, ◌≤◌, ◌<◌, add-one, arith, ◌≡◌, refl, sym, ap, ◌∙◌, Bool, true, false, cond, List, [], ◌∷◌}
use Rattle.base.specs.{ltb, length, drop, get_or, drop_of_length-le, drop-cons, lt-ltb, le-ltb, ltb-true, ltb-false}
use Rattle.model.specs.{Read, holds, fault, unless, Passed, difference}
use Rattle.base_text.specs.declared.Cursor.{Cursor}
use Rattle.base_text.specs.{passed_of, difference_at}
use Rattle.base_text.proofs.FoundNumbers.{found-number, found-cursor}

module _ (s : List ℕ) (at : ℕ) where
  pub differs_none : length s ≤ at → difference_at s at ≡ None
  unfolding difference_at difference
  differs_none e = rw (drop_of_length-le s e)

  module _ (in_text : at < length s) where
    -- the bytes at the place, one of them or more
    one_left : length s ≤ at + 1 → drop at s ≡ get_or s at 0 ∷ []
    one_left e = let f : length s ≤ suc at = omega arith in drop-cons s at 0 in_text ∙ ap (λ (l : List ℕ). get_or s at 0 ∷ l) (drop_of_length-le s f)

    two-left : at + 1 < length s → drop at s ≡ get_or s at 0 ∷ get_or s (at + 1) 0 ∷ drop (suc (suc at)) s
    two-left e =
        let f : suc at < length s = omega arith in
        drop-cons s at 0 in_text ∙ ap (λ (l : List ℕ). get_or s at 0 ∷ l) (drop-cons s (suc at) 0 f)
        ∙ ap (λ (i : ℕ). get_or s at 0 ∷ get_or s i 0 ∷ drop (suc (suc at)) s) (sym (add-one at))

    pub differs_one : get_or s at 0 < 128 → difference_at s at ≡ Some (get_or s at 0, record { at = at + 1 })
    unfolding difference_at difference unless
    differs_one b = go (ltb (at + 1) (length s)) refl
      where
        go : (t : Bool) → ltb (at + 1) (length s) ≡ t → passed_of (difference at (drop at s)) ≡ Some (get_or s at 0, record { at = at + 1 })
        go true e = rw (two-left (ltb-true _ _ e), lt-ltb (get_or s at 0) 128 b)
        go false e = rw (one_left (ltb-false _ _ e), lt-ltb (get_or s at 0) 128 b)

    module _ (more : 128 ≤ get_or s at 0) where
      pub differs_short : length s ≤ at + 1 → difference_at s at ≡ None
      unfolding difference_at difference unless
      differs_short e = rw (one_left e, le-ltb (get_or s at 0) 128 more)

      pub differs_two : at + 1 < length s → get_or s (at + 1) 0 < 128
          → difference_at s at ≡ Some (get_or s at 0 - 128 + 128 * get_or s (at + 1) 0, record { at = at + 2 })
      unfolding difference_at difference unless
      differs_two e b = rw (two-left e, le-ltb (get_or s at 0) 128 more, lt-ltb (get_or s (at + 1) 0) 128 b)

      pub differs_long : at + 1 < length s → 128 ≤ get_or s (at + 1) 0 → difference_at s at ≡ None
      unfolding difference_at difference unless
      differs_long e b = rw (two-left e, le-ltb (get_or s at 0) 128 more, le-ltb (get_or s (at + 1) 0) 128 b)

-- ---- what is refused

unless-broken : (t : Bool) (at : ℕ) (d : Passed) → passed_of (unless t 20 at (holds d)) ≡ None → unless t 20 at (holds d) ≡ fault 20 at
unfolding unless
unless-broken true at d e = let z : ◌≡◌ {A = ℕ} 0 1 = cc in absurd (omega arith)
unless-broken false at d e = refl

broken-is : (at : ℕ) (l : List ℕ) → passed_of (difference at l) ≡ None → difference at l ≡ fault 20 at
unfolding difference
broken-is at [] e = refl
broken-is at (b ∷ []) e = unless-broken (ltb b 128) at (record { number = b; behind = at + 1 }) e
broken-is at (b ∷ c ∷ l) e = go (ltb b 128) e
  where
    two : Passed
    two = record { number = b - 128 + 128 * c; behind = at + 2 }

    go : (t : Bool) → passed_of (cond t (holds (record { number = b; behind = at + 1 })) (unless (ltb c 128) 20 at (holds two))) ≡ None
        → cond t (holds (record { number = b; behind = at + 1 })) (unless (ltb c 128) 20 at (holds two)) ≡ fault 20 at
    go true q = let z : ◌≡◌ {A = ℕ} 0 1 = cc in absurd (omega arith)
    go false q = unless-broken (ltb c 128) at two q

pub differs_broken : (s : List ℕ) (at : ℕ) → difference_at s at ≡ None → difference at (drop at s) ≡ fault 20 at
unfolding difference_at
differs_broken s at e = broken-is at (drop at s) e

found-is : (r : Read Passed) (n : ℕ) (c : Cursor) → passed_of r ≡ Some (n, c) → r ≡ holds (record { number = n; behind = c.at })
found-is (holds d) n c e =
    let a : d.number ≡ n = found-number e in
    let b : record { at = d.behind } ≡ c = found-cursor e in
    λ i. holds (record { number = a i; behind = (b i).at })
found-is (fault a b) n c e = let z : ◌≡◌ {A = ℕ} 0 1 = cc in absurd (omega arith)

pub differs_found : (s : List ℕ) (at n : ℕ) (c : Cursor) → difference_at s at ≡ Some (n, c) → difference at (drop at s) ≡ holds (record { number = n; behind = c.at })
unfolding difference_at
differs_found s at n c e = found-is (difference at (drop at s)) n c e
