-- `cut_lists::merge_lists` meets its contract.
use Rattle.base.specs.{◌≡◌, refl, sym, ap, ◌∙◌, subst, List, [], ◌∷◌, ℕ, suc, ◌-◌, ◌≤◌, arith, drop, drop_of_length-le}
use Rattle.model.specs.declared.Cut.{Cut}
use Rattle.base_words.specs.{leaves_of, cuts_at, Good}
use Rattle.cut_lists.specs.{merge_row_keys, merged_keys}
use Rattle.cut_lists.proofs.MergeRows.{at_hand, cut-good, none_left}
use Rattle.cut_lists.proofs.merge_lists.Goals as goal

none_yet : (cs ds : List (List ℕ)) → cs ≡ [] → [] ≡ merged_keys cs ds
unfolding merged_keys
none_yet cs ds e = rw e

merge-lists-more : (c : List ℕ) (cs ds : List (List ℕ)) → merge_row_keys c ds (merged_keys cs ds) ≡ merged_keys (c ∷ cs) ds
unfolding merged_keys
merge-lists-more c cs ds = refl

pub loop-i-init : goal.loop-i-init
loop-i-init c =
    let a = c.args in
    let e : drop c.count-i.result (cuts_at a.work.now a.m a.a) ≡ [] =
    ap (λ (n : ℕ). drop n (cuts_at a.work.now a.m a.a)) c.count-i.ensures ∙ none_left a.work.now a.m a.a in
    record { within = omega arith; merged = drop_of_length-le a.keys.now {i = 19} (omega (arith, c.requires.5)) ∙ none_yet _ _ e }

pub merge_row-n-requires : goal.merge_row-n-requires
merge_row-n-requires c =
    let a = c.args in
    let i : ℕ = c.loop-i.i - 1 in
    let loaded = sym c.load_cut-x.ensures in
    let packs = c.pack_cuts.ensures in (
      c.requires.0,
      c.requires.2,
      c.requires.4,
      subst (λ (z : Cut). z.count ≤ 4) loaded (c.requires.3.narrow i (omega arith)),
      subst (λ (z : Cut). Good (leaves_of z)) loaded (cut-good a.work.now a.m a.a c.requires.3 i (omega arith)),
      packs.0,
      record { capacity = c.loop-i.auto.keys ∙ c.requires.5; fits = c.loop-i.invariant.within },
      packs.1,
    )

pub loop-i-preserved : goal.loop-i-preserved
loop-i-preserved c =
    let a = c.args in
    let i : ℕ = c.loop-i.i - 1 in
    let e : suc i ≡ c.loop-i.i = omega arith in
    let cs : List (List ℕ) = cuts_at a.work.now a.m a.a in
    let ds : List (List ℕ) = cuts_at a.work.now a.m a.b in
    let more : drop i cs ≡ leaves_of c.load_cut-x.result ∷ drop c.loop-i.i cs =
    at_hand a.work.now a.m a.a i (omega arith) ∙ (λ j. leaves_of (sym c.load_cut-x.ensures j) ∷ drop (e j) cs) in record {
      within = c.merge_row-n.ensures.1;
      merged = c.merge_row-n.ensures.0
          ∙ ap (merge_row_keys (leaves_of c.load_cut-x.result) ds) c.loop-i.invariant.merged
          ∙ merge-lists-more _ _ _
          ∙ ap (λ (q : List (List ℕ)). merged_keys q ds) (sym more);
    }

pub returns : goal.returns
returns c =
    let a = c.args in
    let zero_left : c.loop-i.i ≡ 0 = omega (arith, c.loop-i-test.false) in
    (c.loop-i.invariant.merged ∙ ap (λ (i : ℕ). merged_keys (drop i (cuts_at a.work.now a.m a.a)) (cuts_at a.work.now a.m a.b)) zero_left, c.loop-i.invariant.within)
