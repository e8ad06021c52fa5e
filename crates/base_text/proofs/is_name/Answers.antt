-- `base_text::is_name` meets its contract: each return knows what was met in the field.
use Rattle.base.specs.{◌≡◌, sym, ap, ◌∙◌, ℕ, ◌-◌, ◌≤◌, arith, List, length, take, drop, take_all, length-drop, lt-leb}
use Rattle.std.proofs.Common.{rules, tests}
use Rattle.std.proofs.lemmas.Iterator.{YieldsList-from_slice}
use Rattle.std.proofs.lemmas.Iterator.Search.{all_from_yields_List}
use Rattle.model.specs.{all, is_name_byte}
use Rattle.base_text.proofs.Bytes.{list_all-all}
use Rattle.base_text.proofs.NameBytes.{name-empty, name-long, name-first, name-rest}
use Rattle.base_text.proofs.is_name.Goals as goal

-- the name's bytes behind the first
rest-is : (w : List ℕ) → take (length w - 1) (drop 1 w) ≡ drop 1 w
rest-is w = take_all (length w - 1) (drop 1 w) (omega (arith, length-drop 1 w))

pub returns-in-empty : goal.returns-in-empty
returns-in-empty c = sym (name-empty c.args.w.now (omega arith))

pub returns-then-rest-le7 : goal.returns-then-rest-le7
returns-then-rest-le7 c =
    let w : List ℕ = c.args.w.now in
    let few : length w ≤ 8 = omega (arith, c.if-rest-le7.true, ap length (rest-is w), length-drop 1 w) in
    all_from_yields_List is_name_byte _ _ c.all.result c.all.ensures.ran (YieldsList-from_slice (take (length w - 1) (drop 1 w)) cc) (λ x b q k. search (rules, tests))
    ∙ list_all-all is_name_byte _
    ∙ ap (all is_name_byte) (rest-is w)
    ∙ sym (name-rest w (λ e. omega arith) few (sym c.is_letter.ensures ∙ c.if-is_letter.true))

pub returns-else-rest-le7 : goal.returns-else-rest-le7
returns-else-rest-le7 c =
    let w : List ℕ = c.args.w.now in
    lt-leb _ _ c.if-rest-le7.false ∙ sym (name-long w (omega (arith, c.if-rest-le7.false, ap length (rest-is w), length-drop 1 w)))

pub returns-else-is_letter : goal.returns-else-is_letter
returns-else-is_letter c = c.if-is_letter.false ∙ sym (name-first c.args.w.now (sym c.is_letter.ensures ∙ c.if-is_letter.false))
