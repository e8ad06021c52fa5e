-- What reading gives: what is read, or the first refusal that applies.
use Rattle.std.specs.Prelude.{◌∷◌, Result, Ok, Err}
use Rattle.base.specs.{ℕ, Bool, true, false, Option, None, Some, List, []}
use Rattle.model.specs.declared.Refusal.{Refusal}

-- what a text holds, or a refusal's number and place
pub data Read (A : Type 0) : Type 0 where
  holds : A → Read A
  fault : ℕ → ℕ → Read A

-- what is read further, unless there was a refusal
unfoldable pub next : {A B : Type 0} → Read A → (A → Read B) → Read B
next (holds a) f = f a
next (fault n k) f = fault n k

-- a fault where the test fails
unfoldable pub unless : {A : Type 0} → Bool → ℕ → ℕ → Read A → Read A
unless true n k r = r
unless false n k r = fault n k

-- a fault where there is nothing
unfoldable pub from? : {A : Type 0} → Option A → ℕ → ℕ → Read A
from? None n k = fault n k
from? (Some a) n k = holds a

-- ---- verdicts of the code, by document 01's numbers and places

-- what a layer answers that hands nothing on
abbrev pub Verdict : Type 0
Verdict = Result (Unit {0}) Refusal

-- what a call that writes a text answers: the text's length
abbrev pub Written : Type 0
Written = Result ℕ Refusal

-- refusal n at a place
abbrev pub refused_with : {A : Type 0} → ℕ → ℕ → Result A Refusal
refused_with n k = Err (record { number = n; place = k })

-- what a reading says, without what was read
unfoldable pub verdict_of : {A : Type 0} → Read A → Verdict
verdict_of (holds a) = Ok tt
verdict_of (fault n k) = refused_with n k

-- refusal n at a place, if there is one
unfoldable pub refused_at : ℕ → Option ℕ → Verdict
refused_at n None = Ok tt
refused_at n (Some k) = refused_with n k

-- the first of a list
unfoldable pub first_of : List ℕ → Option ℕ
first_of [] = None
first_of (k ∷ ks) = Some k

-- ---- document 01's number and values for each case of an answer

-- what is read says a refusal's number and place; number 0 where nothing is refused
unfoldable pub refusal_of : {A : Type 0} → Read A → Refusal
refusal_of (holds a) = record { number = 0; place = 0 }
refusal_of (fault n k) = record { number = n; place = k }

-- refusal n, where it has a place
unfoldable pub refusal_at : ℕ → Option ℕ → Refusal
refusal_at n None = record { number = 0; place = 0 }
refusal_at n (Some k) = record { number = n; place = k }

-- the cases of an answer
unfoldable pub verdict_refusal : {A : Type 0} → Result A Refusal → Refusal
verdict_refusal (Ok a) = record { number = 0; place = 0 }
verdict_refusal (Err r) = r
