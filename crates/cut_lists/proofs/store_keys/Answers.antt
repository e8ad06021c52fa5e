-- `cut_lists::store_keys` meets its contract. The invariant: the keys before the k-th are stored.
use Rattle.base.specs.{◌∙◌, refl, map, ℕ, take_all}
use Rattle.base_words.specs.{put_cut, put_cuts}
use Rattle.cut_lists.specs.{key_words, put_keys}
use Rattle.cut_lists.proofs.CutStores.{keys_more}
use Rattle.cut_lists.proofs.store_keys.Goals as goal

pub loop-k-init : goal.loop-k-init
unfolding put_cuts
loop-k-init c = refl

pub loop-k-preserved : goal.loop-k-preserved
loop-k-preserved c =
    let a = c.args in
    let k : ℕ = c.loop-k.k in
    c.store_cut.ensures
    ∙ (λ j. put_cut (c.loop-k.invariant j) a.m a.v k (c.key_words.ensures j))
    ∙ keys_more c.set_count.new.work a.m a.v k a.keys.now c.loop-k-test.true

pub returns : goal.returns
unfolding put_keys
returns c =
    let a = c.args in
    let count = c.set_count.ensures in
    let all = take_all c.loop-k.k a.keys.now c.loop-k-test.false in
    c.loop-k.invariant ∙ (λ j. put_cuts (count j) a.m a.v 0 (map key_words (all j)))
