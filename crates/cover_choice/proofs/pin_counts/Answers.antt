-- `cover_choice::pin_counts` meets its contract. The invariant: the numbers before the k-th have their cells' pins.
use Rattle.base.specs.{◌≡◌, refl, sym, ap, ◌∙◌, Bool, true, false, List, ℕ, ◌+◌, ◌<◌, arith, eqb, length, get_or, set, length-set}
use Rattle.base.specs.{get_or-set_same, get_or-set_other, eqb-true, eqb-false}
use Rattle.model.specs.{cell_at, cells_of}
use Rattle.model.specs.declared.Cell.{Cell}
use Rattle.cells_pairs.specs.{cells_by}
use Rattle.cells_pairs.proofs.{by_length}
use Rattle.cover_choice.proofs.pin_counts.Goals as goal

-- one more
stored : (cells : List Cell) (pins : List ℕ) (k x : ℕ) → k < length pins → x ≡ (cell_at cells k).pins → ((j : ℕ) → j < k → get_or pins j 0 ≡ (cell_at cells j).pins)
    → (j : ℕ) → j < k + 1 → get_or (set pins k x) j 0 ≡ (cell_at cells j).pins
stored cells pins k x h e before j b = by (eqb j k) refl
  where
    by : (t : Bool) → eqb j k ≡ t → get_or (set pins k x) j 0 ≡ (cell_at cells j).pins
    by true q =
        let s : j ≡ k = eqb-true j k q in
        ap (λ (y : ℕ). get_or (set pins k x) y 0) s ∙ get_or-set_same pins k x 0 h ∙ e ∙ ap (λ (y : ℕ). (cell_at cells y).pins) (sym s)
    by false q = get_or-set_other pins k j x 0 (eqb-false j k q) ∙ before j (omega (arith, b, eqb-false j k q))

pub loop-k-init : goal.loop-k-init
loop-k-init c = (refl, λ j h. absurd (omega arith))

pub loop-k-preserved : goal.loop-k-preserved
loop-k-preserved c = (
  length-set c.loop-k.pins _ _ ∙ c.loop-k.invariant.0,
  stored (cells_by (cells_of c.args.lib) c.args.ids.now) c.loop-k.pins c.loop-k.k _ (omega (arith, c.requires.few, c.loop-k-test.true, c.loop-k.invariant.0)) c.pins_of.ensures c.loop-k.invariant.1,
)

pub returns : goal.returns
returns c =
    let a = c.args in
    record { listed = λ j h. c.loop-k.invariant.1 j (omega (arith, h, by_length (cells_of a.lib) a.ids.now, c.requires.joinable.whole, c.loop-k-test.false)) }
