-- Each case of an answer has document 01's number and values.
use Rattle.base.specs.{ℕ, zero, suc, ◌^◌, ◌≡◌, refl, ap, ◌∙◌, Option, None, Some, List, length}
use Rattle.std.specs.Prelude.{Result, Ok, Err}
use Rattle.std.specs.Result.{IsErrAnd}
use Rattle.std.proofs.lemmas.Result.{err_from_is_err_and}
use Rattle.model.specs.{lowest, refused_with, Read, Verdict, Written, holds, fault, verdict_of, refused_at, first_of, refusal_of, refusal_at, verdict_refusal, library_answer}
use Rattle.model.specs.{header_answer, header_values, header_numbers, unordered, over_limit, chosen, Outcome, refused, mapped}
use Rattle.model.specs.{uncovered, order_verdict, cuts_verdict, cover_verdict, answer_of, returned, returned_by, written_answer}
use Rattle.model.specs.{written_pair, written_by, Edited, input_nets, settled, wrong_at, compare_from, check_read, result_of}
use Rattle.model.specs.{result_from, result_by}
use Rattle.model.specs.Graph.{Graph}
use Rattle.model.specs.declared.Cell.{Cell}
use Rattle.model.specs.declared.Header.{Header}
use Rattle.model.specs.declared.Refusal.{Refusal}
use Rattle.model.specs.declared.Library.{Library}
use Rattle.model.specs.declared.Tally.{Tally}
use Rattle.model.specs.declared.Comparison.TheVariants.{Differs}

-- the verdict on what is read
pub verdict-rules : {A : Type 0} (r : Read A) → verdict_refusal (verdict_of r) ≡ refusal_of r
unfolding verdict_refusal verdict_of refusal_of
verdict-rules (holds a) = refl
verdict-rules (fault n k) = refl

-- the verdict with one number
pub refusal-rules : (n : ℕ) (o : Option ℕ) → verdict_refusal (refused_at n o) ≡ refusal_at n o
unfolding verdict_refusal refused_at refusal_at
refusal-rules n None = refl
refusal-rules n (Some k) = refl

-- 15, 16 and 17, each with its place
pub ordering_rules : (g : Graph) → verdict_refusal (order_verdict g) ≡ refusal_at 15 (lowest (unordered g))
unfolding order_verdict
ordering_rules g = refusal-rules 15 (lowest (unordered g))

pub cuts-rules : (g : Graph) → verdict_refusal (cuts_verdict g) ≡ refusal_at 16 (first_of (over_limit g))
unfolding cuts_verdict
cuts-rules g = refusal-rules 16 (first_of (over_limit g))

pub cover-rules : (cells : List Cell) (g : Graph) → verdict_refusal (cover_verdict cells g) ≡ refusal_at 17 (first_of (uncovered (chosen cells g) 0 g.outputs))
unfolding cover_verdict
cover-rules cells g = refusal-rules 17 (first_of (uncovered (chosen cells g) 0 g.outputs))

-- the library's verdict
pub library-rules : (r : Read (List Cell)) → verdict_refusal (library_answer r) ≡ refusal_of r
unfolding verdict_refusal library_answer refusal_of
library-rules (holds cs) = refl
library-rules (fault n k) = refl

-- the header's answer
pub header-rules : (r : Read Header) → verdict_refusal (header_answer r) ≡ refusal_of r
unfolding verdict_refusal header_answer refusal_of
header-rules (holds h) = refl
header-rules (fault n k) = refl

pub header_tells : (r : Read Header) → header_values (header_answer r) ≡ header_numbers r
unfolding header_values header_answer header_numbers
header_tells (holds h) = refl
header_tells (fault n k) = refl

-- what a call returns
pub answer-returns : (o : Outcome) → returned (answer_of o) ≡ returned_by o
unfolding returned answer_of returned_by
answer-returns (refused n k) = refl
answer-returns (mapped t f) = refl

-- what a call that writes a text returns
pub written-returns : (r : Read (List ℕ)) → written_pair (written_answer r) ≡ written_by r
unfolding written_pair written_answer written_by
written-returns (holds t) = refl
written-returns (fault n k) = refl

-- what a check returns
pub compare_tells : (n s : ℕ) (wrong : ℕ → Option ℕ) → result_of (Ok (compare_from n s wrong)) ≡ result_from n s wrong
unfolding result_of compare_from result_from
compare_tells zero s wrong = refl
compare_tells (suc n) s wrong = result_by_lem (wrong s) (compare_tells n (suc s) wrong)
  where
    result_by_lem : (o : Option ℕ) → result_of (Ok (compare_from n (suc s) wrong)) ≡ result_from n (suc s) wrong
        → result_of (Ok (elim o [ None ↦ compare_from n (suc s) wrong | Some k ↦ Differs s k ]))
        ≡ elim o [ None ↦ result_from n (suc s) wrong | Some k ↦ record { verdict = 1; first = s; second = k } ]
    result_by_lem None e = e
    result_by_lem (Some k) e = unfold result_of in refl

pub check_tells : (r : Read Edited) → result_of (check_read r) ≡ result_by r
unfolding result_of check_read result_by
check_tells (fault n k) = refl
check_tells (holds e) =
    let g = e.graph in
    let ds = e.drivers in
    compare_tells (2 ^ length g.inputs) 0 (wrong_at g (settled (length ds) (input_nets g) ds))

-- ---- refusals apart

-- refusals that are one have one number and one place
pub refusal_parts : {A : Type 0} {m j n k : ℕ} → ◌≡◌ {A = Result A Refusal} (refused_with m j) (refused_with n k) → (m ≡ n) × (j ≡ k)
unfolding verdict_refusal
refusal_parts {A = A} e = (
  ap (λ (r : Result A Refusal). (verdict_refusal r).number) e,
  ap (λ (r : Result A Refusal). (verdict_refusal r).place) e,
)

-- the verdict on a netlist that is counted
pub counted-rules : (t : Tally) (r : Read Tally) → verdict_refusal (verdict_of r) ≡ refusal_of r
counted-rules t r = verdict-rules r

-- what a `?` hands on, where its error has the type that the function answers
pub handed_on : {T E : Type 0} (r : Result T E) (e : E) → IsErrAnd r (λ x. x ≡ e) → r ≡ Err e
handed_on r e h = let p = err_from_is_err_and r h in p.1 ∙ ap Err p.2

-- ---- both said of an answer of the code: the answer itself, and its number and values

pub library-refusal : (r : Result Library Refusal) (q : Read (List Cell)) → r ≡ library_answer q → (r ≡ library_answer q) × (verdict_refusal r ≡ refusal_of q)
library-refusal r q e = (e, ap verdict_refusal e ∙ library-rules q)

pub header-refusal : (r : Result Header Refusal) (q : Read Header) → r ≡ header_answer q → (r ≡ header_answer q) × (verdict_refusal r ≡ refusal_of q) × (header_values r ≡ header_numbers q)
header-refusal r q e = (e, ap verdict_refusal e ∙ header-rules q, ap header_values e ∙ header_tells q)

pub verdict-refusal : {A : Type 0} (v : Verdict) (q : Read A) → v ≡ verdict_of q → verdict_refusal v ≡ refusal_of q
verdict-refusal v q e = ap verdict_refusal e ∙ verdict-rules q

pub written-refusal : (w : Written) (q : Read (List ℕ)) → w ≡ written_answer q → written_pair w ≡ written_by q
written-refusal w q e = ap written_pair e ∙ written-returns q
