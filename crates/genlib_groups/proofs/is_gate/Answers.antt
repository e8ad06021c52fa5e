-- `genlib_groups::is_gate` meets its contract, by its tests.
use Rattle.base.specs.{◌≡◌, sym, ap, ◌∙◌, Bool, true, false, List, ℕ}
use Rattle.model.specs.{text, same, is_word, is_figure, is_gate_line, gate_head, formed}
use Rattle.genlib_groups.proofs.is_gate.Goals as goal
use Rattle.genlib_groups.proofs.is_gate.Goals.{then-not-same_bytes-via-then-not-same_bytes, then-not-same_bytes-via-else-not-same_bytes+then-not-is_word}
use Rattle.genlib_groups.proofs.is_gate.Goals.{then-not-same_bytes-via-else-not-same_bytes+else-not-is_word+then-not-is_figure}
use Rattle.genlib_groups.proofs.is_gate.Goals.{then-not-same_bytes-via-else-not-same_bytes+else-not-is_word+else-not-is_figure+then-not-is_word-2}

-- what was said of a token's bytes
told : (p : List ℕ → Bool) (u : List ℕ) (t : List ℕ) (r b : Bool) → t ≡ u → r ≡ p t → r ≡ b → p u ≡ b
told p u t r b e f g = ap p (sym e) ∙ sym f ∙ g

pub returns-then-not-same_bytes : goal.returns-then-not-same_bytes
unfolding is_gate_line gate_head text
returns-then-not-same_bytes c =
    let n = c.nth_bytes in
    let gate : (b : Bool) → c.same_bytes.result ≡ b → _ = λ b. told (λ x. same x (text "GATE")) _ _ _ b n.ensures c.same_bytes.ensures in
    elim c.then-not-same_bytes.branch [
      | then-not-same_bytes-via-then-not-same_bytes y ↦ sym (rw (gate false y.if-not-same_bytes.true))
      | then-not-same_bytes-via-else-not-same_bytes+then-not-is_word y ↦
          sym (rw (gate true y.if-not-same_bytes.false, told is_word _ _ _ false y.nth_bytes-else-not-same_bytes.ensures y.is_word.ensures y.if-not-is_word.true))
      | then-not-same_bytes-via-else-not-same_bytes+else-not-is_word+then-not-is_figure y ↦
          sym (rw (
            gate true y.if-not-same_bytes.false,
            told is_word _ _ _ true y.nth_bytes-else-not-same_bytes.ensures y.is_word.ensures y.if-not-is_word.false,
            told is_figure _ _ _ false y.nth_bytes-else-not-is_word.ensures y.is_figure.ensures y.if-not-is_figure.true,
          ))
      | then-not-same_bytes-via-else-not-same_bytes+else-not-is_word+else-not-is_figure+then-not-is_word-2 y ↦
          sym (rw (
            gate true y.if-not-same_bytes.false,
            told is_word _ _ _ true y.nth_bytes-else-not-same_bytes.ensures y.is_word.ensures y.if-not-is_word.false,
            told is_figure _ _ _ true y.nth_bytes-else-not-is_word.ensures y.is_figure.ensures y.if-not-is_figure.false,
            told is_word _ _ _ false y.nth_bytes-else-not-is_figure.ensures y.is_word-else-not-is_figure.ensures y.if-not-is_word-2.true,
          ))
    ]

pub returns-then-is_sign : goal.returns-then-is_sign
unfolding is_gate_line gate_head text
returns-then-is_sign c =
    rw (
      told (λ x. same x (text "GATE")) _ _ _ true c.nth_bytes.ensures c.same_bytes.ensures c.if-not-same_bytes.false,
      told is_word _ _ _ true c.nth_bytes-else-not-same_bytes.ensures c.is_word.ensures c.if-not-is_word.false,
      told is_figure _ _ _ true c.nth_bytes-else-not-is_word.ensures c.is_figure.ensures c.if-not-is_figure.false,
      told is_word _ _ _ true c.nth_bytes-else-not-is_figure.ensures c.is_word-else-not-is_figure.ensures c.if-not-is_word-2.false,
      sym c.is_sign.ensures ∙ c.if-is_sign.true,
    )
    (c.is_formed.ensures ∙ ap formed c.nth-n.ensures.rest)

pub returns-else-is_sign : goal.returns-else-is_sign
unfolding is_gate_line gate_head text
returns-else-is_sign c =
    c.if-is_sign.false
    ∙ sym (rw (
      told (λ x. same x (text "GATE")) _ _ _ true c.nth_bytes.ensures c.same_bytes.ensures c.if-not-same_bytes.false,
      told is_word _ _ _ true c.nth_bytes-else-not-same_bytes.ensures c.is_word.ensures c.if-not-is_word.false,
      told is_figure _ _ _ true c.nth_bytes-else-not-is_word.ensures c.is_figure.ensures c.if-not-is_figure.false,
      told is_word _ _ _ true c.nth_bytes-else-not-is_figure.ensures c.is_word-else-not-is_figure.ensures c.if-not-is_word-2.false,
      sym c.is_sign.ensures ∙ c.if-is_sign.false,
    ))
