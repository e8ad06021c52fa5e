-- A value by its forms, with the equation that says which form it has.
use Rattle.base.specs.{ℕ, zero, suc, ◌≡◌, refl, Bool, true, false, Option, None, Some, List, [], ◌∷◌, Memᴰ, Memᴰ-head}
use Rattle.base.specs.{Memᴰ-tail}
use Rattle.model.specs.{Read, holds, fault}

module _ {ℓ} {X : Type ℓ} where
  pub by_bool : (b : Bool) → (b ≡ true → X) → (b ≡ false → X) → X
  by_bool true f g = f refl
  by_bool false f g = g refl

  pub by_option : {A : Type 0} (o : Option A) → (o ≡ None → X) → ((a : A) → o ≡ Some a → X) → X
  by_option None f g = f refl
  by_option (Some a) f g = g a refl

  pub by_read : {A : Type 0} (r : Read A) → ((a : A) → r ≡ holds a → X) → ((n k : ℕ) → r ≡ fault n k → X) → X
  by_read (holds a) f g = f a refl
  by_read (fault n k) f g = g n k refl

  pub by_list : {A : Type 0} (l : List A) → (l ≡ [] → X) → ((x : A) (xs : List A) → l ≡ x ∷ xs → X) → X
  by_list [] f g = f refl
  by_list (x ∷ xs) f g = g x xs refl

  pub by_nat : (n : ℕ) → (n ≡ zero → X) → ((m : ℕ) → n ≡ suc m → X) → X
  by_nat zero f g = f refl
  by_nat (suc m) f g = g m refl

  pub by_member : {A : Type 0} {a x : A} {xs : List A} → Memᴰ a (x ∷ xs) → (a ≡ x → X) → (Memᴰ a xs → X) → X
  by_member (Memᴰ-head e) f g = f e
  by_member (Memᴰ-tail m) f g = g m
