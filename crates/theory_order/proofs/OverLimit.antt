-- Refusal 16, apart from the definition that tries it: its place is the first variable in topological order that has more cuts than the limit, cuts
-- counted as sets.
--     over_limit_first_iff           the place of refusal 16
--     over_limit_none_iff            it applies nowhere exactly where no ordered variable has too many
use Rattle.base.specs.{ℕ, ◌≤◌, arith, ◌≡◌, refl, sym, ◌∙◌, ap, subst, ◌↔◌, ⊎_elim, Bool, true, false, not, cond, Some, List, [], ◌∷◌, ◌++◌}
use Rattle.base.specs.{Memᴰ, Memᴰ-head, Memᴰ-tail, Memᴰ-not-nil, Memᴰ-cases_cons, T, ltb, ltb→lt, lt→ltb, length}
use Rattle.model.specs.{keep, cut_limit, first_of, topological_order, cuts_of, over_limit, Many, FirstOverLimit}
use Rattle.model.specs.Graph.{Graph}
use Rattle.theory_graph.specs.AcceptedGraph.{Accepted}
use Rattle.theory_graph.proofs.{keep_in, keep_out, is_true, is_false, by_bool}
use Rattle.theory_order.proofs.OrderSplits.{none_in, no_more}
use Rattle.theory_order.proofs.CutRecursion.{cuts_exactly, cuts-once}

-- ---- the first that passes a test

-- v passes, and nothing that stands before it does
pub record First (p : ℕ → Bool) (vs : List ℕ) (v : ℕ) : Type 0 where
  pub before : List ℕ
  pub behind : List ℕ
  pub is_split : vs ≡ before ++ (v ∷ behind)
  pub passes : T (p v)
  pub none_before : (u : ℕ) → Memᴰ u before → T (not (p u))

first_in : (p : ℕ → Bool) (vs : List ℕ) (v : ℕ) → first_of (keep p vs) ≡ Some v → First p vs v
unfolding first_of keep
first_in p [] v e = absurd (let z : ◌≡◌ {A = ℕ} 0 1 = cc in omega arith)
first_in p (x ∷ xs) v e = by_bool (p x) (λ q. let s : x ≡ v = cc in record {
  before = [];
  behind = xs;
  is_split = ap (λ (y : ℕ). y ∷ xs) s;
  passes = subst T (sym q ∙ ap p s) tt;
  none_before = λ u m. absurd (Memᴰ-not-nil m);
}) (λ r. let f = (first_in p xs v) (rw r at e) in record {
  before = x ∷ f.before;
  behind = f.behind;
  is_split = ap (λ (ys : List ℕ). x ∷ ys) f.is_split;
  passes = f.passes;
  none_before = λ u m. (⊎_elim (λ s. subst (λ (b : Bool). T (not b)) (sym (ap p s ∙ r)) tt) (f.none_before u) (Memᴰ-cases_cons m));
})

first_out : (p : ℕ → Bool) (before : List ℕ) (v : ℕ) (behind : List ℕ) → T (p v) → ((u : ℕ) → Memᴰ u before → T (not (p u))) → first_of (keep p (before ++ (v ∷ behind))) ≡ Some v
unfolding first_of keep
first_out p [] v behind t h = ap (λ (b : Bool). first_of (cond b (v ∷ keep p behind) (keep p behind))) (is_true (p v) t)
first_out p (x ∷ before) v behind t h =
    cc (is_false (p x) (h x (Memᴰ-head refl)), first_out p before v behind t (λ u m. h u (Memᴰ-tail m)))

-- ---- refusal 16

module _ (g : Graph) (ok : Accepted g) where
  abbrev test : ℕ → Bool
  test v = ltb cut_limit (length (cuts_of g v))

  test_many : (v : ℕ) → T (test v) → Many g v
  test_many v t = record { cuts = cuts_of g v; once = cuts-once g ok v; are_cuts = λ c m. (cuts_exactly g ok v c).0 m; over = ltb→lt cut_limit (length (cuts_of g v)) t }

  many_test : (v : ℕ) → Many g v → T (test v)
  many_test v m =
      lt→ltb cut_limit (length (cuts_of g v)) (let h : length m.cuts ≤ length (cuts_of g v) = no_more m.cuts (cuts_of g v) m.once (λ c i. (cuts_exactly g ok v c).1 (m.are_cuts c i)) in omega (arith, m.over))

  not-many : (v : ℕ) → T (not (test v)) → ¬ Many g v
  not-many v t m = by_bool (test v) (λ e. rw e at t) (λ q. rw q at (many_test v m))

  few_test : (v : ℕ) → ¬ Many g v → T (not (test v))
  few_test v h = go (test v) (λ t. h (test_many v t))
    where
      go : (b : Bool) → ¬ T b → T (not b)
      go true n = absurd (n tt)
      go false n = tt

  -- the place of refusal 16
  pub over_limit_first_iff : (v : ℕ) → (first_of (over_limit g) ≡ Some v) ↔ FirstOverLimit g v
  unfolding over_limit cuts_of
  over_limit_first_iff v = (
    (λ e. let f = first_in test (topological_order g) v e in
        record { before = f.before; behind = f.behind; is_ordered = f.is_split; many = test_many v f.passes; few_before = λ u m. not-many u (f.none_before u m) }),
    (λ f. ap (λ (vs : List ℕ). first_of (keep test vs)) f.is_ordered ∙ first_out test f.before v f.behind (many_test v f.many) (λ u m. few_test u (f.few_before u m))),
  )

  -- it applies nowhere where no ordered variable has too many
  pub over_limit_none_iff : (over_limit g ≡ []) ↔ ((v : ℕ) → Memᴰ v (topological_order g) → ¬ Many g v)
  unfolding over_limit cuts_of
  over_limit_none_iff = (
    (λ e v m k. Memᴰ-not-nil (rw e at (keep_in test m (many_test v k)))),
    (λ h. none_in (keep test (topological_order g)) (λ v m. let o = keep_out test (topological_order g) m in h v o.0 (test_many v o.1))),
  )
