-- What the calls promise of the numbers, from what they store and answer.
use Rattle.std.specs.Prelude.{Ok}
use Rattle.model.specs.{Written, refused_with}
use Rattle.base.specs.{ℕ, ◌*◌, arith, ◌≡◌, refl, sym, ap, ap₂, ◌∙◌, subst, List, ltb, length, drop, length-take-le, length-drop, eq-eqb}
use Rattle.model.specs.{Read, holds, fault, verdict_of, written_answer, written_after, read_library, cell_at, times, one, counted, count_text, report_of}
use Rattle.model.specs.declared.Refusal.{Refusal}
use Rattle.model.specs.declared.Tally.{Tally}
use Rattle.model.proofs.{verdict-refusal}
use Rattle.promises.specs.{tally_of, NetlistCount, TallyReport}
use Rattle.promises.specs.Sums.{Grown}
use Rattle.theory_calls.proofs.{text-written}
use Rattle.theory_tally.proofs.{added-length, counted_by_lem, count-numbered, report-numbered, count_exactly, report_exactly, counts-printed}
use Rattle.tally_call.specs.{stored}
use Rattle.tally_call.proofs.TallyColumns.{only_97}
use Rattle.tally_call.proofs.RoundTrip.{stored-long, round_trip, zeros-tallied, count-sums, refused-sums, report-sums}

-- ---- a tally of 97 numbers, and one netlist more

pub record Wide (t : Tally) : Type 0 where
  pub gates : length t.gates ≡ 32
  pub areas : length t.areas ≡ 32
  pub occurs : length t.occurs ≡ 32

tally_wide : (s : List ℕ) → length s ≡ 97 → Wide (tally_of s)
unfolding tally_of
tally_wide s n = rw (eq-eqb (length s) 97 n) (record {
  gates = length-take-le 32 (drop 0 s) (omega (arith, length-drop 0 s));
  areas = length-take-le 32 (drop 32 s) (omega (arith, length-drop 32 s));
  occurs = length-take-le 32 (drop 64 s) (omega (arith, length-drop 64 s));
})

counted-wide : (t : Tally) (library netlist : List ℕ) (u : Tally) → count_text t library netlist ≡ holds u → Wide t → Wide u
unfolding counted
counted-wide t library netlist u e w =
    let b = counted_by_lem t library netlist u e in
    subst Wide b.is_tally (record {
      gates = added-length (λ i. times i b.used) 0 t.gates ∙ w.gates;
      areas = added-length (λ i. times i b.used * (cell_at b.cells i).area) 0 t.areas ∙ w.areas;
      occurs = added-length (λ i. one (ltb 0 (times i b.used))) 0 t.occurs ∙ w.occurs;
    })

-- ---- the outcomes are told apart

held-once : {A : Type 0} {a b : A} {o : Read A} → o ≡ holds a → o ≡ holds b → a ≡ b
held-once p q = cc

never_both : {A : Type 0} {a : A} {n k : ℕ} {o : Read A} → o ≡ holds a → o ≡ fault n k → ⊥
never_both p q = let z : ◌≡◌ {A = ℕ} 0 1 = cc in omega arith

unwritten : (o : Read (List ℕ)) (n k : ℕ) → written_answer o ≡ refused_with n k → o ≡ fault n k
unfolding written_answer
unwritten (holds u) n k e = let z : ◌≡◌ {A = ℕ} 0 1 = cc in absurd (omega arith)
unwritten (fault m j) n k e =
    let z : ◌≡◌ {A = Refusal} (record { number = m; place = j }) (record { number = n; place = k }) = cc in
    ap (λ (r : Refusal). fault r.number r.place) z

-- ---- the calls

module _ (library netlist before : List ℕ) where
  pub was_stored : (after : List ℕ) (u : Tally) → count_text (tally_of before) library netlist ≡ holds u → after ≡ stored before u → NetlistCount library netlist before (Ok tt) after
  unfolding verdict_of
  was_stored after u is put =
      let long = only_97 before library netlist u is in let w = counted-wide (tally_of before) library netlist u is (tally_wide before long) in
      let back : tally_of after ≡ u = ap tally_of put ∙ round_trip before u long w.gates w.areas w.occurs in
      record {
        success = λ v e. refl;
        counted = λ v e. (ap length put ∙ stored-long before u long w.gates w.areas w.occurs, back ∙ held-once is e);
        refusal = λ n k e. absurd (never_both is e);
        unchanged = λ n k e. absurd (never_both is e);
        returns = verdict-refusal (Ok tt) (count_text (tally_of before) library netlist) (sym (ap verdict_of is));
        refusals = count_exactly (tally_of before) library netlist;
        sums = count-sums library netlist before after u is put;
        empty = zeros-tallied library;
        printed = λ c f same e short cells l capacity.
            let p = counts-printed c netlist f e short cells (subst (λ (x : List ℕ). read_library x ≡ holds cells) (sym same) l) (tally_of before) capacity in
            (refl, subst (λ (x : Tally). Grown cells (tally_of before) x f.gates f.area) (held-once (subst (λ (x : List ℕ). count_text (tally_of before) x netlist ≡ holds p.0) same p.1) is ∙ sym back) p.2);
      }

  pub was_kept : (n k : ℕ) → count_text (tally_of before) library netlist ≡ fault n k → NetlistCount library netlist before (refused_with n k) before
  unfolding verdict_of
  was_kept n k is = record {
    success = λ v e. absurd (never_both e is);
    counted = λ v e. absurd (never_both e is);
    refusal = λ m j e. (ap₂ refused_with (cc) (cc), (count-numbered (tally_of before) library netlist).has m j e);
    unchanged = λ m j e. refl;
    returns = verdict-refusal (refused_with n k) (count_text (tally_of before) library netlist) (sym (ap verdict_of is));
    refusals = count_exactly (tally_of before) library netlist;
    sums = refused-sums library netlist before n k;
    empty = zeros-tallied library;
    printed = λ c f same e short cells l capacity.
        let p = counts-printed c netlist f e short cells (subst (λ (x : List ℕ). read_library x ≡ holds cells) (sym same) l) (tally_of before) capacity in
        absurd (never_both (subst (λ (x : List ℕ). count_text (tally_of before) x netlist ≡ holds p.0) same p.1) is);
  }

pub was_reported : (library tally text : List ℕ) (answer : Written) (left : List ℕ) → answer ≡ written_answer (report_of (tally_of tally) library (length text))
    → left ≡ written_after (report_of (tally_of tally) library (length text)) text → TallyReport library tally text answer left
was_reported library tally text answer left a b = record {
  memory = text-written (report_of (tally_of tally) library (length text)) text answer left a b;
  numbered = λ n k e. (report-numbered (tally_of tally) library (length text)).has n k (unwritten (report_of (tally_of tally) library (length text)) n k (sym a ∙ e));
  refusals = report_exactly (tally_of tally) library (length text);
  sums = report-sums library tally text left answer a b;
}
