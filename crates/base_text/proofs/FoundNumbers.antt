-- A number that was found, with the cursor past it, is one number and one cursor.
use Rattle.base.specs.{ℕ, ◌≡◌, ap, Option, Some}
use Rattle.base_text.specs.declared.Cursor.{Cursor}

module _ {n k : ℕ} {c d : Cursor} (e : ◌≡◌ {A = Option (ℕ × Cursor)} (Some (n, c)) (Some (k, d))) where
  pair : ◌≡◌ {A = ℕ × Cursor} (n, c) (k, d)
  pair = cc

  pub found-number : n ≡ k
  found-number = ap (λ (x : ℕ × Cursor). x.0) pair

  pub found-cursor : c ≡ d
  found-cursor = ap (λ (x : ℕ × Cursor). x.1) pair
