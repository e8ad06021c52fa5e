-- `graph_reader::tag` meets its contract: the first word's bytes are compared as a part of the text.
use Rattle.base.specs.{length-take-le, ◌≡◌, ℕ, ◌-◌, sym, ap, ◌∙◌, arith}
use Rattle.model.specs.{same, text}
use Rattle.base_text.proofs.{end_le, part-is}
use Rattle.graph_reader.specs.{tag_at, aag, aig}
use Rattle.graph_reader.proofs.tag.Goals as goal

pub slice_bounds-word-end : goal.slice_bounds-word-end
slice_bounds-word-end c =
    sym (length-take-le c.field_end-end.result c.args.s.now (omega (arith, c.field_end-end.ensures, end_le c.args.s.now 0 (omega arith))))

nothing_less : (n : ℕ) → n - 0 ≡ n
nothing_less n = omega arith

pub returns-then-same_bytes : goal.returns-then-same_bytes
unfolding tag_at aig text
returns-then-same_bytes c =
    let part = sym (rw (nothing_less c.field_end-end.result) at (part-is c.args.s.now 0 c.field_end-end.result c.field_end-end.ensures)) in
    rw (ap (λ x. same x aig) part ∙ sym c.same_bytes.ensures ∙ c.if-same_bytes.true, sym c.field_end-end.ensures) c.tag_behind.ensures

pub returns-then-same_bytes-2 : goal.returns-then-same_bytes-2
unfolding tag_at aag aig text
returns-then-same_bytes-2 c =
    let part = sym (rw (nothing_less c.field_end-end.result) at (part-is c.args.s.now 0 c.field_end-end.result c.field_end-end.ensures)) in
    rw (ap (λ x. same x aig) part ∙ sym c.same_bytes.ensures ∙ c.if-same_bytes.false, ap (λ x. same x aag) part ∙ sym c.same_bytes-2.ensures ∙ c.if-same_bytes-2.true, sym c.field_end-end.ensures) c.tag_behind-then-same_bytes-2.ensures

pub returns : goal.returns
unfolding tag_at aag aig text
returns c =
    let part = sym (rw (nothing_less c.field_end-end.result) at (part-is c.args.s.now 0 c.field_end-end.result c.field_end-end.ensures)) in
    rw (ap (λ x. same x aig) part ∙ sym c.same_bytes.ensures ∙ c.if-same_bytes.false, ap (λ x. same x aag) part ∙ sym c.same_bytes-2.ensures ∙ c.if-same_bytes-2.false)
