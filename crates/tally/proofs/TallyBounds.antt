-- A report is within the memory lent to it, and a file's name within its sixteen bytes.
use Rattle.std.specs.Prelude.{Ok}
use Rattle.base.specs.{ℕ, ◌≤◌, ◌<◌, arith, ◌≡◌, refl, subst, List, leb, length, leb_yes}
use Rattle.model.specs.{decimal, Read, holds, fault, next, unless, read_library, written_answer, in_width, report_text, report_of}
use Rattle.model.specs.declared.Tally.{Tally}
use Rattle.theory_text.proofs.{holds-once, unless_out, next_out}
use Rattle.base_text.proofs.{dec_below}

held_fits : (t : Tally) (library : List ℕ) (bytes : ℕ) (r : List ℕ) → report_of t library bytes ≡ holds r → length r ≤ bytes
unfolding report_of
held_fits t library bytes r e =
    let a = unless_out (leb (length library) 65536) 1 0 (next (read_library library) (λ cells. unless (in_width t) 28 64 (unless (leb (length (report_text cells t)) bytes) 18 (length (report_text cells t)) (holds (report_text cells t))))) r e in
    let b = next_out (read_library library) (λ cells. unless (in_width t) 28 64 (unless (leb (length (report_text cells t)) bytes) 18 (length (report_text cells t)) (holds (report_text cells t)))) r a.1 in
    let c = unless_out (in_width t) 28 64 (unless (leb (length (report_text b.0 t)) bytes) 18 (length (report_text b.0 t)) (holds (report_text b.0 t))) r b.2 in
    let d = unless_out (leb (length (report_text b.0 t)) bytes) 18 (length (report_text b.0 t)) (holds (report_text b.0 t)) r c.1 in
    subst (λ (x : List ℕ). length x ≤ bytes) (holds-once d.1) (leb_yes d.0)

pub report-within : (t : Tally) (library : List ℕ) (bytes n : ℕ) → Ok n ≡ written_answer (report_of t library bytes) → n ≤ bytes
unfolding written_answer
report-within t library bytes n e = go (report_of t library bytes) refl e
  where
    go : (o : Read (List ℕ)) → report_of t library bytes ≡ o → Ok n ≡ written_answer o → n ≤ bytes
    go (holds r) p q = let z : n ≡ length r = cc in omega (arith, held_fits t library bytes r p)
    go (fault m k) p q = let z : ◌≡◌ {A = ℕ} 0 1 = cc in absurd (omega arith)

pub ten-digits : (n : ℕ) → n < 4294967296 → length (decimal n) ≤ 10
ten-digits n h = dec_below 9 n (omega arith)
