-- A file's name is ASCII.
use Rattle.std.specs.Prelude.{◌+◌, ◌/◌, ◌%◌, ◌∷◌, ◌++◌, ◌<◌, ◌≤◌, ◌≡◌, MatchResult, IsOk, Result, Ok, Err}
use Rattle.std.specs.Str.{IsAscii}
use Rattle.base.specs.{ℕ, zero, suc, Bool, true, false, cond, List, [], arith, ltb, ltb-true, refl, sym, ap, subst, ◌∙◌, length, length-append, take}
use Rattle.model.specs.{digits, decimal}
use Rattle.base_words.specs.{put_at}
use Rattle.base_words.proofs.{part-put, put_append}
use Rattle.base_text.specs.{Wrote}

ascii_cons : (b : ℕ) (bs : List ℕ) → b < 128 → IsAscii bs → IsAscii (b ∷ bs)
ascii_cons b bs h r zero = h
ascii_cons b bs h r (suc i) = r i

digits_ascii : (f n : ℕ) (after : List ℕ) → IsAscii after → IsAscii (digits f n after)
unfolding digits
digits_ascii zero n after h = h
digits_ascii (suc f) n after h =
    let one : 48 + n % 10 < 128 = omega arith in
    go (ltb n 10) refl (digits_ascii f (n / 10) ((48 + n % 10) ∷ after) (ascii_cons (48 + n % 10) after one h))
  where
    go : (b : Bool) → ltb n 10 ≡ b → IsAscii (digits f (n / 10) ((48 + n % 10) ∷ after)) → IsAscii (cond b ((48 + n) ∷ after) (digits f (n / 10) ((48 + n % 10) ∷ after)))
    go true e k = let small : 48 + n < 128 = omega (arith, ltb-true n 10 e) in ascii_cons (48 + n) after small h
    go false e k = k

append_ascii : (bs cs : List ℕ) → IsAscii bs → IsAscii cs → IsAscii (bs ++ cs)
append_ascii [] cs h k = k
append_ascii (b ∷ bs) cs h k = ascii_cons b (bs ++ cs) (h 0) (append_ascii bs cs (λ i. h (suc i)) k)

-- a number and ASCII bytes, written one behind the other at the start
pub written_ascii : (w w' out : List ℕ) (k at end : ℕ) (tail : List ℕ) → length (decimal k) + length tail ≤ length w → IsAscii tail
    → (at ≡ 0 + length (decimal k)) × (w' ≡ put_at w 0 (decimal k)) → Wrote w' out at end tail → IsAscii (take end out)
unfolding decimal
written_ascii w w' out k at end tail fits h n r =
    let long : length (decimal k ++ tail) ≡ length (decimal k) + length tail = length-append (decimal k) tail in
    let whole : end ≡ length (decimal k ++ tail) = omega (arith, r.ends, n.0, long) in
    let all : out ≡ put_at w 0 (decimal k ++ tail) =
    r.leaves ∙ ap (λ (v : List ℕ). put_at v at tail) n.1 ∙ ap (λ (j : ℕ). put_at (put_at w 0 (decimal k)) j tail) n.0
    ∙ put_append w 0 (decimal k) tail (omega arith) in
    let back : take end out ≡ decimal k ++ tail =
    ap (λ (j : ℕ). take j out) whole ∙ ap (take (length (decimal k ++ tail))) all ∙ part-put w 0 (decimal k ++ tail) (omega (arith, long)) in
    subst IsAscii (sym back) (append_ascii (decimal k) tail (digits_ascii (suc k) k [] (λ i. search arith)) h)

-- what cannot fail has a value
pub has_value : {A E : Type 0} (r : Result A E) (P : A → Type 0) (Q : Type 0) (R : E → Type 0) → MatchResult r P (λ e. ¬ Q × R e) → Q → IsOk r
has_value (Ok x) P Q R m q = refl
has_value (Err e) P Q R m q = absurd (m.0 q)
