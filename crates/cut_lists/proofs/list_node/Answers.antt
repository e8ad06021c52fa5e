-- `cut_lists::list_node` meets its contract: a list of 19 keys says that there are too many cuts, and a shorter one has them all.
use Rattle.base.specs.{◌≡◌, ap, ◌∙◌, List, ℕ, ◌-◌, arith, length, take, drop, length-drop, take_all}
use Rattle.cut_lists.specs.{key_capacity, put_keys}
use Rattle.cut_lists.proofs.NodeCuts.{too_many, few-enough, keys_small}
use Rattle.cut_lists.proofs.list_node.Goals as goal

counted : (keys : List ℕ) (n : ℕ) → length keys ≡ key_capacity → length (drop n keys) ≡ key_capacity - n
counted keys n e = omega (arith, length-drop n keys)

-- the slice of the keys from n on
whole : (keys : List ℕ) (n : ℕ) → length keys ≡ key_capacity → take (key_capacity - n) (drop n keys) ≡ drop n keys
whole keys n e = take_all (key_capacity - n) (drop n keys) (omega (arith, counted keys n e))

pub returns-then-first-eq0 : goal.returns-then-first-eq0
returns-then-first-eq0 c =
    let k = c.node_keys-first in
    let many = too_many c.args.work.now c.args.m c.args.v c.requires.0 c.requires.1 _ k.ensures.0 (omega (arith, counted k.new.keys k.result k.auto.keys, c.if-first-eq0.true)) in
    record { value = many.0; work_after = many.1 }

pub store_keys-requires : goal.store_keys-requires
store_keys-requires c =
    let k = c.node_keys-first in
    let n : ℕ = k.result in (
      c.requires.0.capacity,
      c.requires.1,
      omega (arith, counted k.new.keys n k.auto.keys, c.if-first-eq0.false),
      λ i h. rw (whole k.new.keys n k.auto.keys) (keys_small c.args.work.now c.args.m c.args.v c.requires.0 c.requires.1 (drop n k.new.keys) k.ensures.0 i (omega (arith, counted k.new.keys n k.auto.keys))),
    )

pub returns : goal.returns
returns c =
    let k = c.node_keys-first in
    let few = few-enough c.args.work.now c.args.m c.args.v c.requires.0 c.requires.1 _ k.ensures.0 (omega (arith, counted k.new.keys k.result k.auto.keys, c.if-first-eq0.false)) in
    record { value = few.0; work_after = c.store_keys.ensures ∙ ap (put_keys c.args.work.now c.args.m c.args.v) (whole k.new.keys k.result k.auto.keys) ∙ few.1 }
