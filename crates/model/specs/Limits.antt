-- The two figures of request N4: the cut limit, and the need of lent words that it brings.
use Rattle.std.specs.Prelude.{◌+◌, ◌*◌}
use Rattle.base.specs.{ℕ, suc}

-- "Make 18 the limit", of 16 and of demand 3's premise: "more than 18 cuts"
abbrev pub cut_limit : ℕ
cut_limit = 18

-- "124(M+1) + O 16-bit words": sixteen for each variable, and six for each cut that it may have
unfoldable pub need : ℕ → ℕ → ℕ
need m outputs = (16 + 6 * cut_limit) * suc m + outputs
