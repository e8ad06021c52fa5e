-- `genlib_expression::is_word` meets its contract, since a name reaches just to where all bytes are its.
use Rattle.base.specs.{◌≡◌, refl, sym, ap, ◌∙◌, false, List, [], ◌∷◌, ℕ, ◌≤◌, ◌<◌, zero-add, arith, eqb, le-ltb, length}
use Rattle.model.specs.{is_name_byte, is_word, is_empty, span}
use Rattle.base_text.specs.{span_end}
use Rattle.base_text.proofs.{class_all}
use Rattle.genlib_expression.proofs.is_word.Goals as goal

word-empty : (w : List ℕ) → length w ≤ 0 → is_word w ≡ false
unfolding is_word is_empty
word-empty [] e = refl
word-empty (b ∷ w) e = absurd (omega arith)

word-all : (w : List ℕ) → 0 < length w → is_word w ≡ eqb (span_end is_name_byte w 0) (length w)
unfolding is_word is_empty span_end
word-all [] h = absurd (omega arith)
word-all (b ∷ w) h = class_all is_name_byte (b ∷ w) ∙ ap (λ (n : ℕ). eqb n (length (b ∷ w))) (sym (zero-add (length (span is_name_byte (b ∷ w)))))

pub returns-then-w-gt0 : goal.returns-then-w-gt0
returns-then-w-gt0 c = sym (word-all _ c.if-w-gt0.true ∙ ap (λ (n : ℕ). eqb n (length c.args.w.now)) (sym c.span_end.ensures))

pub returns-else-w-gt0 : goal.returns-else-w-gt0
returns-else-w-gt0 c = le-ltb 0 _ c.if-w-gt0.false ∙ sym (word-empty _ c.if-w-gt0.false)
