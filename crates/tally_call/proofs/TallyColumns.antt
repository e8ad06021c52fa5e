-- The numbers of a tally, column by column, and what a call leaves of them.
use Rattle.std.specs.Prelude.{Ok, Err}
use Rattle.base.specs.{ℕ, arith, ◌≡◌, refl, sym, ap, ap₂, ◌∙◌, Bool, true, false, List, [], ◌∷◌, eqb}
use Rattle.base.specs.{length, take, drop, get_or, set, eq-eqb, ne_eqb, eqb-true}
use Rattle.model.specs.{Read, holds, fault, count_text, refused_with, verdict_of, tally_after}
use Rattle.model.specs.declared.Tally.{Tally}
use Rattle.model.specs.declared.Refusal.{Refusal}
use Rattle.theory_tally.proofs.{counted_by_lem}
use Rattle.base_words.specs.{put_at}
use Rattle.base_words.proofs.{put_one, length-put}
use Rattle.promises.specs.{overfull, tally_of}
use Rattle.tally_call.specs.{stored}

-- ---- the tally

pub tally_short : (s : List ℕ) → (length s ≡ 97 → ⊥) → overfull ≡ tally_of s
unfolding tally_of
tally_short s n = sym (rw (ne_eqb (length s) 97 n))

pub tally_is : (s : List ℕ) → length s ≡ 97 → (g a o : List ℕ) → g ≡ take 32 (drop 0 s) → a ≡ take 32 (drop 32 s) → o ≡ take 32 (drop 64 s)
    → record { gates = g; areas = a; occurs = o; netlists = get_or s 96 0 } ≡ tally_of s
unfolding tally_of
tally_is s n g a o eg ea eo =
    ap₂ (λ (x y : List ℕ). record { gates = x; areas = y; occurs = o; netlists = get_or s 96 0 }) eg ea
    ∙ ap (λ (x : List ℕ). record { gates = take 32 (drop 0 s); areas = take 32 (drop 32 s); occurs = x; netlists = get_or s 96 0 }) eo
    ∙ sym (rw (eq-eqb (length s) 97 n))

pub stored_is : (s : List ℕ) (t : Tally) → length s ≡ 97 → length t.gates ≡ 32 → length t.areas ≡ 32 → length t.occurs ≡ 32 → (a b c : List ℕ) → a ≡ put_at s 0 t.gates → b ≡ put_at a 32 t.areas
    → c ≡ put_at b 64 t.occurs → set c 96 t.netlists ≡ stored s t
unfolding stored
stored_is s t n lg la lo a b c ea eb ec =
    let na : length a ≡ 97 = ap length ea ∙ length-put s 0 t.gates (omega arith) ∙ n in
    let nb : length b ≡ 97 = ap length eb ∙ length-put a 32 t.areas (omega arith) ∙ na in
    let nc : length c ≡ 97 = ap length ec ∙ length-put b 64 t.occurs (omega arith) ∙ nb in
    put_one c 96 t.netlists (omega arith)
    ∙ ap (λ (x : List ℕ). put_at x 96 (t.netlists ∷ [])) (ec ∙ ap (λ (x : List ℕ). put_at x 64 t.occurs) (eb ∙ ap (λ (x : List ℕ). put_at x 32 t.areas) ea))

-- ---- the answer of a call

module _ (t : Tally) (o : Read Tally) where
  pub was_counted : verdict_of o ≡ Ok tt → o ≡ holds (tally_after t o)
  unfolding verdict_of tally_after
  was_counted e = go o refl
    where
      go : (q : Read Tally) → o ≡ q → o ≡ holds (tally_after t o)
      go (holds u) p = p ∙ ap holds (sym (ap (tally_after t) p))
      go (fault n k) p = let z : refused_with n k ≡ Ok tt = sym (ap verdict_of p) ∙ e in let y : ◌≡◌ {A = ℕ} 0 1 = cc in absurd (omega arith)

  pub was_refused : (r : Refusal) → verdict_of o ≡ Err r → o ≡ fault r.number r.place
  unfolding verdict_of
  was_refused r e = go o refl
    where
      go : (q : Read Tally) → o ≡ q → o ≡ fault r.number r.place
      go (holds u) p = let z : Ok tt ≡ Err r = sym (ap verdict_of p) ∙ e in let y : ◌≡◌ {A = ℕ} 0 1 = cc in absurd (omega arith)
      go (fault m j) p =
          let z : refused_with m j ≡ Err r = sym (ap verdict_of p) ∙ e in
          let y : record { number = m; place = j } ≡ r = cc in
          p ∙ ap (λ (x : Refusal). fault x.number x.place) y

never_full : (library netlist : List ℕ) (u : Tally) → count_text overfull library netlist ≡ holds u → ⊥
never_full library netlist u e = (counted_by_lem overfull library netlist u e).not_full

pub only_97 : (s library netlist : List ℕ) (u : Tally) → count_text (tally_of s) library netlist ≡ holds u → length s ≡ 97
only_97 s library netlist u e = go (eqb (length s) 97) refl
  where
    go : (b : Bool) → eqb (length s) 97 ≡ b → length s ≡ 97
    go true p = eqb-true (length s) 97 p
    go false p = absurd (never_full library netlist u (ap (λ (t : Tally). count_text t library netlist) (tally_short s (borrow.Author.Tests.eqb-false (length s) 97 p)) ∙ e))
