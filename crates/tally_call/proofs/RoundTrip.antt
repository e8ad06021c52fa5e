-- A tally put into numbers is read out of them, and what the calls promise of the numbers.
use Rattle.std.specs.Prelude.{Ok}
use Rattle.base.specs.{ℕ, arith, ◌≡◌, refl, sym, ap, ap₂, ◌∙◌, subst, List, [], ◌∷◌, length, take, drop, replicate, take-append_seam}
use Rattle.model.specs.{Read, holds, fault, refused_with, written_answer, written_after, read_library, empty_tally, count_text, report_of, Written}
use Rattle.model.specs.declared.Cell.{Cell}
use Rattle.model.specs.declared.Tally.{Tally}
use Rattle.promises.specs.TallyDemands.{Tallied, counted_with, ReadsBack}
use Rattle.theory_tally.proofs.{tallied-none, tallied-more, reads-back}
use Rattle.base_words.specs.{put_at}
use Rattle.base_words.proofs.{length-put, part-put, part_apart, word-put}
use Rattle.promises.specs.{tally_of, CountSums, ReportSums}
use Rattle.tally_call.specs.{stored}
use Rattle.tally_call.proofs.TallyColumns.{tally_is, only_97}

-- 97 zeros are "an empty one"
from-zeros : tally_of (replicate 97 0) ≡ empty_tally
unfolding tally_of empty_tally
from-zeros = refl

module _ (s : List ℕ) (t : Tally) (n : length s ≡ 97) (lg : length t.gates ≡ 32) (la : length t.areas ≡ 32) (lo : length t.occurs ≡ 32) where
  pub stored-long : length (stored s t) ≡ 97
  unfolding stored
  stored-long =
      let a = put_at s 0 t.gates in let b = put_at a 32 t.areas in let c = put_at b 64 t.occurs in
      let na : length a ≡ 97 = length-put s 0 t.gates (omega arith) ∙ n in
      let nb : length b ≡ 97 = length-put a 32 t.areas (omega arith) ∙ na in
      let nc : length c ≡ 97 = length-put b 64 t.occurs (omega arith) ∙ nb in
      length-put c 96 (t.netlists ∷ []) (omega arith) ∙ nc

  -- a tally that was put into 97 numbers is read out of them
  pub round_trip : tally_of (stored s t) ≡ t
  unfolding stored
  round_trip =
      let a = put_at s 0 t.gates in let b = put_at a 32 t.areas in let c = put_at b 64 t.occurs in
      let d = put_at c 96 (t.netlists ∷ []) in let na : length a ≡ 97 = length-put s 0 t.gates (omega arith) ∙ n in
      let nb : length b ≡ 97 = length-put a 32 t.areas (omega arith) ∙ na in
      let nc : length c ≡ 97 = length-put b 64 t.occurs (omega arith) ∙ nb in
      let nd : length d ≡ 97 = length-put c 96 (t.netlists ∷ []) (omega arith) ∙ nc in
      let g : t.gates ≡ take 32 (drop 0 d) =
      sym (part_apart c 96 (t.netlists ∷ []) (omega arith) 0 32 (record { apart = λ i j h k e. omega arith })
      ∙ part_apart b 64 t.occurs (omega arith) 0 32 (record { apart = λ i j h k e. omega arith })
      ∙ part_apart a 32 t.areas (omega arith) 0 32 (record { apart = λ i j h k e. omega arith })
      ∙ ap (λ (k : ℕ). take k (drop 0 a)) (sym lg)
      ∙ part-put s 0 t.gates (omega arith)) in
      let r : t.areas ≡ take 32 (drop 32 d) =
      sym (part_apart c 96 (t.netlists ∷ []) (omega arith) 32 32 (record { apart = λ i j h k e. omega arith })
      ∙ part_apart b 64 t.occurs (omega arith) 32 32 (record { apart = λ i j h k e. omega arith })
      ∙ ap (λ (k : ℕ). take k (drop 32 b)) (sym la)
      ∙ part-put a 32 t.areas (omega arith)) in
      let o : t.occurs ≡ take 32 (drop 64 d) =
      sym (part_apart c 96 (t.netlists ∷ []) (omega arith) 64 32 (record { apart = λ i j h k e. omega arith })
      ∙ ap (λ (k : ℕ). take k (drop 64 c)) (sym lo)
      ∙ part-put b 64 t.occurs (omega arith)) in
      sym (tally_is d nd t.gates t.areas t.occurs g r o)
      ∙ ap (λ (x : ℕ). record { gates = t.gates; areas = t.areas; occurs = t.occurs; netlists = x }) (word-put c 96 t.netlists (omega arith))

-- "from an empty one": zeros are the tally of no netlist
pub zeros-tallied : (library : List ℕ) (cells : List Cell) → read_library library ≡ holds cells → Tallied cells [] (tally_of (replicate 97 0))
zeros-tallied library cells e = subst (Tallied cells []) (sym from-zeros) (tallied-none library cells e)

-- ---- the calls

pub count-sums : (library netlist before after : List ℕ) (u : Tally) → count_text (tally_of before) library netlist ≡ holds u → after ≡ stored before u → CountSums library netlist before after (Ok tt)
unfolding counted_with
count-sums library netlist before after u is put cells e ns h =
    let r = tallied-more library cells e ns (tally_of before) u netlist h is in
    subst (Tallied cells (netlist ∷ ns)) (sym (ap tally_of put ∙ round_trip before u (only_97 before library netlist u is) r.gates_long r.areas_long r.occurs_long)) r

pub refused-sums : (library netlist before : List ℕ) (n k : ℕ) → CountSums library netlist before before (refused_with n k)
unfolding counted_with
refused-sums library netlist before n k cells e ns h = h

taken : (n : ℕ) (r memory after : List ℕ) → written_answer (holds r) ≡ Ok n → after ≡ written_after (holds r) memory → take n after ≡ r
unfolding written_answer written_after
taken n r memory after q b = let z : length r ≡ n = cc in ap₂ (λ (k : ℕ) (x : List ℕ). take k x) (sym z) b ∙ take-append_seam r (drop (length r) memory)

never : (m k n : ℕ) → written_answer (fault m k) ≡ Ok n → ⊥
unfolding written_answer
never m k n q = let z : ◌≡◌ {A = ℕ} 0 1 = cc in absurd (omega arith)

pub report-sums : (library tally memory after : List ℕ) (w : Written) → w ≡ written_answer (report_of (tally_of tally) library (length memory))
    → after ≡ written_after (report_of (tally_of tally) library (length memory)) memory → ReportSums library tally after w
report-sums library tally memory after w answer bytes cells e ns h n is = go (report_of (tally_of tally) library (length memory)) refl (sym answer ∙ is) bytes
  where
    go : (o : Read (List ℕ)) → report_of (tally_of tally) library (length memory) ≡ o → written_answer o ≡ Ok n → after ≡ written_after o memory → ReadsBack cells ns (take n after)
    go (holds r) p q b = subst (ReadsBack cells ns) (sym (taken n r memory after q b)) (reads-back library cells e ns (tally_of tally) (length memory) r h p)
    go (fault m k) p q b = absurd (never m k n q)
