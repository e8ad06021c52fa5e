-- What the contracts of `program_files` say of a file that was read: the bytes counted stand at the buffer's start.
use Rattle.std.specs.Prelude.{◌≡◌, ◌≤◌, Option, Result, IfOk, IfSome}
use Rattle.base.specs.{ℕ, List, length, take}
use Rattle.program_files.specs.declared.Unreadable.{Unreadable}

-- so many bytes are there, and are those of `&buf[..n]`; what the kit's `read` promises
abbrev pub IsPrefixLen : ℕ → List ℕ → Type 0
IsPrefixLen n buf = (n ≤ length buf) × (n ≡ length (take n buf))

abbrev pub Found_in : Result (Option ℕ) Unreadable → List ℕ → Type 0
Found_in found buf = IfOk found (λ o. IfSome o (λ n. IsPrefixLen n buf))

abbrev pub Loaded_in : Result ℕ Unreadable → List ℕ → Type 0
Loaded_in loaded buf = IfOk loaded (λ n. IsPrefixLen n buf)
