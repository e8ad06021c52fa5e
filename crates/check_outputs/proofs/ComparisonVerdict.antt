-- What is answered:
--     found_there, found_nothing      what a search found, by where it ended
--     found_wrong         the first wrong output of an assignment, from the words of its block
--     go_on, stop_at      a step over the assignments
use Rattle.model.specs.declared.Comparison.TheVariants.{Differs}
use Rattle.base.specs.{ℕ, suc, ◌+◌, ◌-◌, ◌*◌, ◌/◌, ◌%◌, ◌≤◌, ◌<◌, arith, add-one, ◌≡◌, sym, ap, ◌∙◌, Bool, true, false, not, cond, beq}
use Rattle.base.specs.{true≢false, false≢true, Option, None, Some, List, [], ◌∷◌, map, length, get_or, lt-ltb, le-ltb}
use Rattle.model.specs.{bit, from, below, literal_value, value_of, out_name, Driver, input_nets, output_nets, assignment_of, settled, first_wrong}
use Rattle.model.specs.{wrong_at, compare_from}
use Rattle.model.specs.Graph.{Graph}
use Rattle.graph_order.specs.{pick_n, seek}
use Rattle.check_outputs.proofs.AssignmentBits.{bit_word}
use Rattle.check_outputs.specs.{found_by, net_at, wanted_at, wrong_word, Wrong}

pub found_there : (k end : ℕ) → k < end → Some k ≡ found_by k end
unfolding found_by
found_there k end h = rw (lt-ltb k end h)

pub found_nothing : (k end : ℕ) → end ≤ k → None ≡ found_by k end
unfolding found_by
found_nothing k end h = rw (le-ltb k end h)

first-is : (f : ℕ → Bool) (w : List ℕ → Bool) (p : ℕ → Bool) (outs : List ℕ) (k : ℕ)
    → ((j : ℕ) → j < length outs → p (k + j) ≡ not (beq (f (get_or outs j 0)) (w (out_name (k + j)))))
    → first_wrong k (map f outs) (map w (map out_name (from k (length outs)))) ≡ found_by (seek p (length outs) k) (k + length outs)
unfolding first_wrong from seek found_by
first-is f w p [] k h = rw (le-ltb k (k + 0) (omega arith))
first-is f w p (l ∷ outs) k h =
    go (beq (f l) (w (out_name k))) (p k)
    (ap p (let e : k ≡ k + 0 = omega arith in e) ∙ h 0 (omega arith) ∙ ap (λ (j : ℕ). not (beq (f l) (w (out_name j)))) (let e : k + 0 ≡ k = omega arith in e))
    (first-is f w p outs (suc k)
    (λ j i.
    ap p (let e : suc k + j ≡ k + suc j = omega arith in e) ∙ h (suc j) (omega arith)
    ∙ ap (λ (x : ℕ). not (beq (f (get_or outs j 0)) (w (out_name x)))) (let e : k + suc j ≡ suc k + j = omega arith in e)))
  where
    go : (same wrong : Bool) → wrong ≡ not same → first_wrong (suc k) (map f outs) (map w (map out_name (from (suc k) (length outs)))) ≡ found_by (seek p (length outs) (suc k)) (suc k + length outs)
        → cond same (first_wrong (suc k) (map f outs) (map w (map out_name (from (suc k) (length outs))))) (Some k) ≡ found_by (pick_n wrong k (seek p (length outs) (k + 1))) (k + suc (length outs))
    go true true e rest = absurd (true≢false e)
    go true false e rest =
        rest ∙ (λ i. found_by (seek p (length outs) (sym (add-one k) i)) (let z : suc k + length outs ≡ k + suc (length outs) = omega arith in z i))
    go false true e rest = rw (lt-ltb k (k + suc (length outs)) (omega arith))
    go false false e rest = absurd (false≢true e)

module _ (g : Graph) (ds : List Driver) where
  -- the first wrong output of assignment s, from the words of its block
  pub found_wrong : (s : ℕ) (words : List ℕ) (outputs : ℕ) → length g.outputs ≡ outputs → Wrong g ds (s / 64) words
      → wrong_at g (settled (length ds) (input_nets g) ds) s ≡ found_by (seek (λ k. bit (get_or words k 0) (s % 64)) outputs 0) outputs
  unfolding wrong_at output_nets below net_at
  found_wrong s words outputs long known =
      first-is (literal_value (value_of g (assignment_of s 0 g.inputs))) (net_at g ds s) (λ k. bit (get_or words k 0) (s % 64)) g.outputs 0 at
      ∙ (λ i. found_by (seek (λ k. bit (get_or words k 0) (s % 64)) (long i) 0) (let z : 0 + length g.outputs ≡ outputs = omega arith in z i))
    where
      here : 64 * (s / 64) + s % 64 ≡ s
      here = omega arith

      at : (j : ℕ) → j < length g.outputs → bit (get_or words (0 + j) 0) (s % 64) ≡ not (beq (literal_value (value_of g (assignment_of s 0 g.inputs)) (get_or g.outputs j 0)) (net_at g ds s (out_name (0 + j))))
      at j l =
          ap (λ (x : ℕ). bit x (s % 64)) (ap (λ (i : ℕ). get_or words i 0) (let z : 0 + j ≡ j = omega arith in z) ∙ known j l)
          ∙ word j
          ∙ ap (λ (i : ℕ). not (beq (literal_value (value_of g (assignment_of s 0 g.inputs)) (get_or g.outputs j 0)) (net_at g ds s (out_name i)))) (let z : j ≡ 0 + j = omega arith in z)
        where
          word : (j : ℕ) → bit (wrong_word g ds (s / 64) j) (s % 64) ≡ not (beq (literal_value (value_of g (assignment_of s 0 g.inputs)) (get_or g.outputs j 0)) (net_at g ds s (out_name j)))
          word j =
              unfold wrong_word wanted_at in
              bit_word (λ t. not (beq (wanted_at g (64 * (s / 64) + t) j) (net_at g ds (64 * (s / 64) + t) (out_name j)))) (s % 64) (omega arith)
              ∙ ap (λ (x : ℕ). not (beq (wanted_at g x j) (net_at g ds x (out_name j)))) here

-- ---- a step over the assignments

module _ (wrong : ℕ → Option ℕ) (s left : ℕ) (more : 0 < left) where
  pub go_on : wrong s ≡ None → compare_from left s wrong ≡ compare_from (left - 1) (s + 1) wrong
  unfolding compare_from
  go_on e = ap (λ (x : ℕ). compare_from x s wrong) (let z : left ≡ suc (left - 1) = omega arith in z) ∙ by (wrong s) e
    where
      by : (o : Option ℕ) → o ≡ None → elim o [ None ↦ compare_from (left - 1) (suc s) wrong | Some k ↦ Differs s k ] ≡ compare_from (left - 1) (s + 1) wrong
      by o q = rw q (ap (λ (x : ℕ). compare_from (left - 1) x wrong) (sym (add-one s)))

  pub stop_at : (k : ℕ) → wrong s ≡ Some k → compare_from left s wrong ≡ Differs s k
  unfolding compare_from
  stop_at k e = ap (λ (x : ℕ). compare_from x s wrong) (let z : left ≡ suc (left - 1) = omega arith in z) ∙ by (wrong s) e
    where
      by : (o : Option ℕ) → o ≡ Some k → elim o [ None ↦ compare_from (left - 1) (suc s) wrong | Some j ↦ Differs s j ] ≡ Differs s k
      by o q = rw q
