-- `genlib_groups::decimal` meets its contract, by whether the byte is there.
use Rattle.base.specs.{◌≡◌, sym, ap, ◌∙◌, ℕ, List, length, get_or, ltb-true, ltb-false}
use Rattle.std.proofs.Common.{Option, Some, None, Bor, option_copied, unwrap_or}
use Rattle.std.specs.Slice.{IsItemAt}
use Rattle.std.proofs.lemmas.Grind.{get_or_default_zero}
use Rattle.std.proofs.lemmas.List.{get_or_past}
use Rattle.genlib_groups.proofs.decimal.Goals as goal

there : (w : List ℕ) (at : ℕ) (r : Option (Bor ℕ)) → IsItemAt w at r → unwrap_or (option_copied r) 48 ≡ get_or w at 48
there w at None h = sym (get_or_past w at 48 (ltb-false at (length w) (sym h.0)))
there w at (Some b) h = let l = ltb-true at (length w) (sym h.0) in h.1 ∙ get_or_default_zero w at b.now l ∙ sym (get_or_default_zero w at 48 l)

pub returns : goal.returns
returns c = c.unwrap_or.ensures ∙ ap (λ o. unwrap_or o 48) c.copied.ensures ∙ there c.args.w.now c.args.at c.get.result c.get.ensures.lookup
