-- Which numbers and places the refusal of an outcome has.
use Rattle.base.specs.{ℕ, ◌≡◌, Bool, true, false, Some, List, [], ◌∷◌, leb, length}
use Rattle.model.specs.{lowest, unordered, over_limit, chosen, Outcome, refused, mapped, uncovered, printed, map_chosen, map_cut, map_ordered}
use Rattle.model.specs.{map_graph, followed, within}
use Rattle.model.specs.Graph.{Graph}
use Rattle.model.specs.declared.Cell.{Cell}
use Rattle.theory_graph.proofs.{by_bool, by_option, by_list}

-- the number and the place of a refusal, if the outcome is one
abbrev pub Refusal : (ℕ → ℕ → Type 0) → Outcome → Type 0
Refusal P (refused n k) = P n k
Refusal P (mapped t f) = Unit {0}

module _ (P : ℕ → ℕ → Type 0) where
  -- 18
  pub within-refusal : ((k : ℕ) → P 18 k) → (bytes : ℕ) (o : Outcome) → Refusal P o → Refusal P (within bytes o)
  unfolding within
  within-refusal p18 bytes (refused n k) l = l
  within-refusal p18 bytes (mapped t f) l = by_bool (leb (length t) bytes) (λ e. rw e tt) (λ q. rw q (p18 (length t)))

  -- the timing lines add none
  pub followed-refusal : (ranged : Bool) (cells : List Cell) (g : Graph) (o : Outcome) → Refusal P o → Refusal P (followed ranged cells g o)
  unfolding followed
  followed-refusal r cells g (refused n k) l = l
  followed-refusal true cells g (mapped t f) l = tt
  followed-refusal false cells g (mapped t f) l = tt

  -- 15 to 17
  pub map-refusal : (listed cells : List Cell) (g : Graph) → ((v : ℕ) → lowest (unordered g) ≡ Some v → P 15 v) → ((k : ℕ) → P 16 k) → ((k : ℕ) → P 17 k) → Refusal P (map_graph listed cells g)
  unfolding map_graph map_ordered map_cut map_chosen printed
  map-refusal listed cells g p15 p16 p17 = by_option (lowest (unordered g)) (λ e. rw e (by_list (over_limit g)
      (λ e. rw e (unfold chosen in outs (uncovered (chosen cells g) 0 g.outputs))) (λ q vs p. rw p (p16 q)))) (λ q p. rw p (p15 q p))
    where
      outs : (us : List ℕ) → Refusal P (printed listed cells g (chosen cells g) us)
      outs [] = tt
      outs (u ∷ us) = p17 u
