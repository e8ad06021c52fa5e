-- What a writer leaves: bytes put from a place on, and the place past them.
use Rattle.std.specs.Prelude.{◌≡◌, ◌+◌}
use Rattle.base.specs.{List, ℕ, length}
use Rattle.base_words.specs.{put_at}

-- `before` with the bytes put from `at` on is `after`, and `end` is the place past them
pub record Wrote (before after : List ℕ) (at end : ℕ) (bytes : List ℕ) : Type 0 where
  pub ends : end ≡ at + length bytes
  pub leaves : after ≡ put_at before at bytes
