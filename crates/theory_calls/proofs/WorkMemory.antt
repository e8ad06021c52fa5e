-- What a check answers and leaves of work memory is what `CheckedMemory` says.
use Rattle.std.specs.Prelude.{Ok}
use Rattle.base.specs.{ℕ, ◌≡◌, refl, sym, ap, ◌∙◌, ◌⊎◌, inl, inr, Bool, true, false, cond, ◌||◌, List, eqb, leb, length, replicate, le-leb, leb-true, eq-eqb, eqb-true}
use Rattle.model.specs.{Checked, refused_with, tried_early, check_read, check_texts, checked_work, CheckMemory}
use Rattle.model.specs.declared.Comparison.TheVariants.{Equal, Differs}
use Rattle.promises.specs.{UpToTen, CheckedMemory}

-- ---- which refusals are tried up to 10

or_left : (a b : Bool) → a ≡ true → (a || b) ≡ true
or_left true b e = refl
or_left false b e = let z : ◌≡◌ {A = Bool} false true = e in cc

or_right : (a b : Bool) → b ≡ true → (a || b) ≡ true
or_right true b e = refl
or_right false b e = e

or_cases : (a b : Bool) → (a || b) ≡ true → (a ≡ true) ⊎ (b ≡ true)
or_cases true b e = inl refl
or_cases false b e = inr e

early : (n : ℕ) → UpToTen n → tried_early n ≡ true
early n (inl l) = or_left (leb n 10) _ (le-leb n 10 l)
early n (inr (inl e)) = or_right (leb n 10) _ (or_left (eqb n 19) _ (eq-eqb n 19 e))
early n (inr (inr (inl e))) = or_right (leb n 10) _ (or_right (eqb n 19) _ (or_left (eqb n 27) _ (eq-eqb n 27 e)))
early n (inr (inr (inr e))) = or_right (leb n 10) _ (or_right (eqb n 19) _ (or_right (eqb n 27) _ (eq-eqb n 30 e)))

tried : (n : ℕ) → tried_early n ≡ true → UpToTen n
tried n e = first (or_cases (leb n 10) _ e)
  where
    third : (eqb n 27 ≡ true) ⊎ (eqb n 30 ≡ true) → UpToTen n
    third (inl p) = inr (inr (inl (eqb-true n 27 p)))
    third (inr p) = inr (inr (inr (eqb-true n 30 p)))

    second : (eqb n 19 ≡ true) ⊎ ((eqb n 27 || eqb n 30) ≡ true) → UpToTen n
    second (inl p) = inr (inl (eqb-true n 19 p))
    second (inr p) = third (or_cases (eqb n 27) _ p)

    first : (leb n 10 ≡ true) ⊎ ((eqb n 19 || (eqb n 27 || eqb n 30)) ≡ true) → UpToTen n
    first (inl p) = inl (leb-true n 10 p)
    first (inr p) = second (or_cases (eqb n 19) _ p)

input_arrival : (n : ℕ) → (¬ UpToTen n) → tried_early n ≡ false
input_arrival n out = go (tried_early n) refl
  where
    go : (b : Bool) → tried_early n ≡ b → tried_early n ≡ false
    go true e = absurd (out (tried n e))
    go false e = e

-- ---- the memory

module _ (library graph netlist work : List ℕ) (a : Checked) (y : List ℕ) (m : CheckMemory library graph netlist work a y) where
  left : (b : Checked) → a ≡ b → y ≡ checked_work b work
  left b e = m.words ∙ ap (λ (x : Checked). checked_work x work) (sym m.answers ∙ e)

  pub checked_memory : CheckedMemory library graph netlist work a y
  unfolding check_texts check_read checked_work
  checked_memory = record {
    answers = m.answers;
    result = m.result;
    refusal = λ n k e. m.answers ∙ ap check_read e;
    unchanged = λ n k e u. left (refused_with n k) e ∙ ap (λ (b : Bool). cond b work (replicate (length work) 0)) (early n u);
    zero_later = λ n k e u. left (refused_with n k) e ∙ ap (λ (b : Bool). cond b work (replicate (length work) 0)) (input_arrival n u);
    zero_accepted = λ e. left (Ok Equal) e;
    zero_differs = λ s k e. left (Ok (Differs s k)) e;
  }
