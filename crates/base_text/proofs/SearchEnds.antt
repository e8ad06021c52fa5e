-- A search from a place on that finds nothing ends where the list does, or where it began if that is further on.
use Rattle.base.specs.{ℕ, ◌≡◌, refl, ap, ◌∙◌, ◌≤◌, max, Bool, true, false, leb, leb-true, leb-false, arith}

-- P is what the search from a place on gives, and Q that at a place past the list's n elements
module _ {A : Type 0} (P Q : ℕ → A) (n from at : ℕ) (past : (k : ℕ) → n ≤ k → P k ≡ Q k) where
  pub search_ends : P from ≡ P at → (from ≤ n → at ≤ n) → n ≤ at → (e : ℕ) → e ≡ max from n → P from ≡ Q e
  search_ends so_far low high e is = go (leb from n) refl
    where
      go : (t : Bool) → leb from n ≡ t → P from ≡ Q e
      go true q =
          let h : at ≡ n = omega (arith, low (leb-true from n q)) in
          let m : n ≡ e = omega (arith, leb-true from n q) in
          so_far ∙ ap P h ∙ past n (omega arith) ∙ ap Q m
      go false q =
          let m : from ≡ e = omega (arith, leb-false from n q) in
          past from (omega (arith, leb-false from n q)) ∙ ap Q m
