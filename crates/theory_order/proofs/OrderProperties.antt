-- What an order of the ANDs is, apart from the definition of the topological order: each stands after its operands. The topological order places just
-- the ANDs that stand in some order, so that "15. Some AND can't be placed; place, the lowest such variable" comes exactly where there is no order
-- of all ANDs, and its place is the lowest AND that stands in none.
--     ordered_iff                  an AND is ordered exactly where it stands in some order
--     unordered-none_iff           all are ordered exactly where there is an order of all
--     unordered-lowest_iff         the place of refusal 15
--     order-step                  what stands in the topological order is variable 0, an input, or an AND behind its operands
use Rattle.base.specs.{ℕ, zero, suc, ◌≤◌, ◌<◌, arith, ◌≡◌, refl, sym, ◌∙◌, ap, subst, ◌⊎◌, inl, inr, ◌↔◌, ⊎_elim, Bool, not, ◌&&◌, Option}
use Rattle.base.specs.{None, Some, List, [], ◌∷◌, ◌++◌, map, append-nil, append_assoc, Memᴰ, Memᴰ-head, Memᴰ-tail}
use Rattle.base.specs.{Memᴰ-not-nil, Memᴰ-eq_of_singleton, Memᴰ-append_cases, Memᴰ-append_left, Memᴰ-append_right, Memᴰ-cast}
use Rattle.base.specs.{T, T_not, not_T, length, and_yes, yes_and}
use Rattle.model.specs.{elem, keep, lowest, And, var_of, ready, and_on, order_from, topological_order, unordered, and_vars, Follows, Order, Stands}
use Rattle.model.specs.{OrderOfAll}
use Rattle.model.specs.Graph.{Graph}
use Rattle.theory_graph.specs.{distinct}
use Rattle.theory_graph.proofs.{map_in, map_out, keep_in, keep_out, elem_out, elem-T, is_true, lowest_in_lem, twice-apart, next_new, by_option}
use Rattle.theory_graph.proofs.{by_member}
use Rattle.theory_order.proofs.OrderSplits.{by_elem, distinct-yes, none_in, nil_split, cons_head, cons_tail, split_append, between_first}
use Rattle.theory_order.proofs.OrderSplits.{first-between, split-once, keep-length, keep_less, lowest-none, lowest-least, lowest-some}

follows-more : {g : Graph} {v : ℕ} (xs ys : List ℕ) → ((x : ℕ) → Memᴰ x xs → Memᴰ x ys) → Follows g xs v → Follows g ys v
follows-more xs ys sub f =
    record { line = f.line; is_line = f.is_line; is_var = f.is_var; left = sub (var_of f.line.left) f.left; right = sub (var_of f.line.right) f.right }

-- a step of the ordering: an AND not ordered yet, with both operands ordered
pub record OrderStep (g : Graph) (ordered : List ℕ) (v : ℕ) : Type 0 where
  pub follows : Follows g ordered v
  pub new : ¬ Memᴰ v ordered

step-more : {g : Graph} {v : ℕ} (xs ys : List ℕ) → ((x : ℕ) → Memᴰ x xs → Memᴰ x ys) → ((x : ℕ) → Memᴰ x ys → Memᴰ x xs) → OrderStep g xs v → OrderStep g ys v
step-more {v = v} xs ys sub back t = record { follows = follows-more xs ys sub t.follows; new = λ m. t.new (back v m) }

-- the ANDs of the topological order
abbrev pub ordered_ands : Graph → List ℕ
ordered_ands g = order_from (length g.ands) g.ands (0 ∷ g.inputs)

-- the ANDs that are not ordered yet
abbrev pub waiting : List ℕ → And → Bool
waiting ordered a = not (elem a.var ordered)

not_in : (v : ℕ) (xs : List ℕ) → T (not (elem v xs)) → ¬ Memᴰ v xs
not_in v xs t m = T_not (elem v xs) t (elem-T v xs m)

pub in_not : (v : ℕ) (xs : List ℕ) → ¬ Memᴰ v xs → T (not (elem v xs))
in_not v xs h = not_T (elem v xs) (λ t. h (elem_out v xs (is_true (elem v xs) t)))

module _ (g : Graph) where
  pub next-step : (ordered : List ℕ) (v : ℕ) → lowest (map (λ (a : And). a.var) (keep (ready ordered) g.ands)) ≡ Some v → OrderStep g ordered v
  unfolding ready
  next-step ordered v e =
      let at = map_out (λ (a : And). a.var) (keep (ready ordered) g.ands) (lowest_in_lem (map (λ (a : And). a.var) (keep (ready ordered) g.ands)) v e) in
      let k = keep_out (ready ordered) g.ands at.1 in
      let t = and_yes (elem (var_of at.0.left) ordered) (elem (var_of at.0.right) ordered)
      (and_yes (not (elem at.0.var ordered)) (elem (var_of at.0.left) ordered && elem (var_of at.0.right) ordered) k.1).1 in
      record {
        follows =
            record {
              line = at.0;
              is_line = k.0;
              is_var = sym at.2;
              left = elem_out (var_of at.0.left) ordered (is_true (elem (var_of at.0.left) ordered) t.0);
              right = elem_out (var_of at.0.right) ordered (is_true (elem (var_of at.0.right) ordered) t.1);
            };
        new = next_new g.ands ordered v e;
      }

  -- each AND that is ordered has its turn
  order-from-step : (fuel : ℕ) (ordered pre : List ℕ) (v : ℕ) (post : List ℕ) → order_from fuel g.ands ordered ≡ pre ++ (v ∷ post) → OrderStep g (ordered ++ pre) v
  unfolding order_from and_on
  order-from-step zero ordered pre v post e = absurd (nil_split pre v post e)
  order-from-step (suc fuel) ordered pre v post e =
      go (lowest (map (λ (a : And). a.var) (keep (ready ordered) g.ands))) (next-step ordered) (λ w q. order-from-step fuel (w ∷ ordered) q v post) pre e
    where
      go : (o : Option ℕ) → ((w : ℕ) → o ≡ Some w → OrderStep g ordered w)
          → ((w : ℕ) (q : List ℕ) → order_from fuel g.ands (w ∷ ordered) ≡ q ++ (v ∷ post) → OrderStep g (w ∷ ordered ++ q) v)
          → (q : List ℕ) → and_on o (λ w. order_from fuel g.ands (w ∷ ordered)) ≡ q ++ (v ∷ post) → OrderStep g (ordered ++ q) v
      go None next later q d = absurd (nil_split q v post d)
      go (Some w) next later [] d = subst (OrderStep g (ordered ++ [])) (cons_head d) (subst (λ (xs : List ℕ). OrderStep g xs w) (sym (append-nil ordered)) (next w refl))
      go (Some w) next later (x ∷ q) d = rw (← cons_head d) (step-more (w ∷ ordered ++ q) (ordered ++ (w ∷ q)) (λ y. first-between ordered q)
          (λ y. between_first ordered q) (later w q (cons_tail d)))

  -- the ANDs of the topological order are an order
  order-order : Order g (ordered_ands g)
  order-order =
      record {
        once = split-once (ordered_ands g) (λ pre v post e m. (order-from-step (length g.ands) (0 ∷ g.inputs) pre v post e).new (Memᴰ-append_right (0 ∷ g.inputs) m));
        follows = λ pre v post e. (order-from-step (length g.ands) (0 ∷ g.inputs) pre v post e).follows;
      }

  -- one AND fewer waits after each step
  pub fewer_wait : (ordered : List ℕ) (v : ℕ) → OrderStep g ordered v → length (keep (waiting (v ∷ ordered)) g.ands) < length (keep (waiting ordered) g.ands)
  fewer_wait ordered v t =
      keep_less (waiting ordered) (waiting (v ∷ ordered)) (λ a w. in_not a.var ordered (λ m. not_in a.var (v ∷ ordered) w (Memᴰ-tail m)))
      g.ands t.follows.is_line
      (in_not t.follows.line.var ordered (λ m. t.new (Memᴰ-cast (sym t.follows.is_var) m)))
      (not_T (waiting (v ∷ ordered) t.follows.line) (λ w. not_in t.follows.line.var (v ∷ ordered) w (Memᴰ-head t.follows.is_var)))

  -- where no more are waiting than turns are left, at the end each AND is ordered whose operands are
  order-ends : (fuel : ℕ) (ordered : List ℕ) → length (keep (waiting ordered) g.ands) ≤ fuel → (a : And) → Memᴰ a g.ands
      → Memᴰ (var_of a.left) (ordered ++ order_from fuel g.ands ordered) → Memᴰ (var_of a.right) (ordered ++ order_from fuel g.ands ordered)
      → Memᴰ a.var (ordered ++ order_from fuel g.ands ordered)
  unfolding order_from and_on ready
  order-ends zero ordered h a m l r = by_elem a.var ordered (λ n. Memᴰ-append_left [] n)
      (λ n. absurd (some-length (keep (waiting ordered) g.ands) (keep_in (waiting ordered) m (in_not a.var ordered n)) h))
    where
      some-length : (xs : List And) → Memᴰ a xs → ¬ (length xs ≤ 0)
      some-length (x ∷ xs) n k = omega arith
      some-length [] n k = elim n [ ]
  order-ends (suc fuel) ordered h a m l r =
      let here : (u : ℕ) → Memᴰ u (ordered ++ []) → Memᴰ u ordered = λ u. subst (λ (xs : List ℕ). Memᴰ u xs)
      (append-nil ordered) in
      by_option (lowest (map (λ (b : And). b.var) (keep (ready ordered) g.ands))) (λ e. rw e (by_elem a.var ordered
      (λ n. Memᴰ-append_left [] n) (λ n. absurd (lowest-none (map (λ (b : And). b.var) (keep (ready ordered) g.ands)) e a.var (map_in
      (λ (b : And). b.var) (keep_in (ready ordered) m (yes_and (not (elem a.var ordered))
      (elem (var_of a.left) ordered && elem (var_of a.right) ordered) (in_not a.var ordered n) (yes_and (elem (var_of a.left) ordered)
      (elem (var_of a.right) ordered) (elem-T (var_of a.left) ordered (here (var_of a.left) (rw e at l)))
      (elem-T (var_of a.right) ordered (here (var_of a.right) (rw e at r))))))))))) (λ q p. rw p (let rest = order_from fuel g.ands
      (q ∷ ordered) in first-between ordered rest
      ((order-ends fuel (q ∷ ordered) (omega (arith, fewer_wait ordered q ((rw p at (next-step ordered)) q refl))) a m)
      (between_first ordered rest (rw p at l)) (between_first ordered rest (rw p at r)))))

  -- an AND whose operands are ordered is ordered
  pub ready-ordered : (a : And) → Memᴰ a g.ands → Memᴰ (var_of a.left) (topological_order g) → Memᴰ (var_of a.right) (topological_order g) → Memᴰ a.var (topological_order g)
  unfolding topological_order
  ready-ordered = order-ends (length g.ands) (0 ∷ g.inputs) (keep-length (waiting (0 ∷ g.inputs)) g.ands)

  pub first-ordered : {x : ℕ} → Memᴰ x (0 ∷ g.inputs) → Memᴰ x (topological_order g)
  unfolding topological_order
  first-ordered m = Memᴰ-append_left (ordered_ands g) m

  -- along an order each AND is ordered
  order-ordered : (vs : List ℕ) → Order g vs → (pre post : List ℕ) → vs ≡ pre ++ post → ((x : ℕ) → Memᴰ x pre → Memᴰ x (topological_order g))
      → (x : ℕ) → Memᴰ x post → Memᴰ x (topological_order g)
  order-ordered vs o pre [] e known x m = absurd (Memᴰ-not-nil m)
  order-ordered vs o pre (v ∷ post) e known x m = by_member m (λ q. Memᴰ-cast q (v_ordered (o.follows pre v post e))) (order-ordered vs o
      (pre ++ (v ∷ [])) post (e ∙ sym (append_assoc pre (v ∷ []) post)) (λ y n. ⊎_elim (known y)
      (λ p. Memᴰ-cast (Memᴰ-eq_of_singleton p) (v_ordered (o.follows pre v post e))) (Memᴰ-append_cases pre n)) x)
    where
      before : (y : ℕ) → Memᴰ y (0 ∷ g.inputs) ⊎ Memᴰ y pre → Memᴰ y (topological_order g)
      before y (inl n) = first-ordered n
      before y (inr n) = known y n

      v_ordered : Follows g (0 ∷ g.inputs ++ pre) v → Memᴰ v (topological_order g)
      v_ordered f = Memᴰ-cast (sym f.is_var) (ready-ordered f.line f.is_line
          (before (var_of f.line.left) (Memᴰ-append_cases (0 ∷ g.inputs) f.left))
          (before (var_of f.line.right) (Memᴰ-append_cases (0 ∷ g.inputs) f.right)))

  -- what stands in an order is ordered
  pub stands_ordered : (v : ℕ) → Stands g v → Memᴰ v (topological_order g)
  stands_ordered v s = order-ordered s.order s.is_order [] s.order refl (λ x m. absurd (Memᴰ-not-nil m)) v s.is_in

  -- the ANDs that are not ordered
  pub unordered_in : (v : ℕ) → Memᴰ v (unordered g) ↔ (Memᴰ v (and_vars g) × ¬ Memᴰ v (topological_order g))
  unfolding unordered
  unordered_in v = (
    (λ m. let k = keep_out (λ (u : ℕ). not (elem u (topological_order g))) (and_vars g) m in (k.0, not_in v (topological_order g) k.1)),
    (λ k. keep_in (λ (u : ℕ). not (elem u (topological_order g))) k.0 (in_not v (topological_order g) k.1)),
  )

  -- "variable 0 and the inputs first, then again and again the lowest-numbered AND whose operands are both placed": what stands at any place of it
  pub order-step : (pre : List ℕ) (v : ℕ) (post : List ℕ) → topological_order g ≡ pre ++ (v ∷ post) → Memᴰ v (0 ∷ g.inputs) ⊎ Follows g pre v
  unfolding topological_order
  order-step pre v post e =
      ⊎_elim inl (λ r. inr (rw r.1 (order-order.follows r.0 v post r.2))) (split_append (0 ∷ g.inputs) (ordered_ands g) pre e)

-- where no variable is defined twice
module _ (g : Graph) (defined : T (distinct (0 ∷ g.inputs ++ and_vars g))) where
  and-ordered : (v : ℕ) → Memᴰ v (and_vars g) → Memᴰ v (topological_order g) → Memᴰ v (ordered_ands g)
  unfolding topological_order
  and-ordered v a m = ⊎_elim
      (λ n. absurd (twice-apart (0 ∷ g.inputs) (and_vars g) v (distinct-yes (0 ∷ g.inputs ++ and_vars g) defined) n a)) (λ q. q)
      (Memᴰ-append_cases (0 ∷ g.inputs) m)

  ordered_stands : (v : ℕ) → Memᴰ v (and_vars g) → Memᴰ v (topological_order g) → Stands g v
  ordered_stands v a m = record { order = ordered_ands g; is_order = order-order g; is_in = and-ordered v a m }

  -- an AND is ordered exactly where it stands in some order
  pub ordered_iff : (v : ℕ) → Memᴰ v (and_vars g) → Memᴰ v (topological_order g) ↔ Stands g v
  ordered_iff v a = (ordered_stands v a, stands_ordered g v)

  -- "Some AND can't be placed" exactly where there is no order of all ANDs
  pub unordered-none_iff : unordered g ≡ [] ↔ OrderOfAll g
  unordered-none_iff = (
    (λ e.
        record {
          order = ordered_ands g;
          is_order = order-order g;
          has_all = λ v a.
              by_elem v (topological_order g) (and-ordered v a)
              (λ h. absurd (Memᴰ-not-nil (subst (λ (xs : List ℕ). Memᴰ v xs) e ((unordered_in g v).1 (a, h)))));
        }),
    (λ o.
        none_in (unordered g)
        (λ v m.
        let k = (unordered_in g v).0 m in
        k.1 (stands_ordered g v (record { order = o.order; is_order = o.is_order; is_in = o.has_all v k.0 })))),
  )

  -- "place, the lowest such variable": the lowest AND that stands in no order
  pub unordered-lowest_iff : (v : ℕ)
      → lowest (unordered g) ≡ Some v ↔ (Memᴰ v (and_vars g) × (¬ Stands g v) × ((u : ℕ) → Memᴰ u (and_vars g) → u < v → Stands g u))
  unordered-lowest_iff v = (
    (λ e. let k = (unordered_in g v).0 (lowest_in_lem (unordered g) v e) in (
      k.0,
      (λ s. k.1 (stands_ordered g v s)),
      (λ u a h. by_elem u (topological_order g) (ordered_stands u a)
          (λ n. absurd (omega (arith, lowest-least (unordered g) v e u ((unordered_in g u).1 (a, n)))))),
    )),
    (λ h. let m : Memᴰ v
        (unordered g) = (unordered_in g v).1 (h.0, λ n. h.1 (ordered_stands v h.0 n)) in let r = lowest-some (unordered g) v m in
        let k = (unordered_in g r.0).0 (lowest_in_lem (unordered g) r.0 r.1) in let below : ¬ (r.0 < v) = λ l. k.1
        (stands_ordered g r.0 (h.2 r.0 k.0 l)) in r.1 ∙ ap Some
        (omega (arith, lowest-least (unordered g) r.0 r.1 v m, below))),
  )
