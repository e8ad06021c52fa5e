-- "accepted exactly when every output equals the graph's for each of the 2^I input settings; otherwise the lowest setting that differs is
-- returned, input k as bit k, and that setting's first wrong output".
use Rattle.std.specs.Prelude.{Ok, Err}
use Rattle.base.specs.{ℕ, zero, suc, ◌+◌, ◌^◌, ◌≤◌, ◌<◌, le_refl, le_of_suc-le-suc, not-suc-le-zero, zero-add, lt_of_not-le, le_antisymm}
use Rattle.base.specs.{dec_le, arith, ◌≡◌, refl, sym, ◌∙◌, ap, ap₂, subst, ◌⊎◌, inr, ◌↔◌, Bool, true, false, cond, beq, true≢false}
use Rattle.base.specs.{false≢true, Option, None, Some, List, [], ◌∷◌, map, Memᴰ, Memᴰ-append_left, Memᴰ-cast, length, get_or}
use Rattle.model.specs.{each, from, below, flip, And, var_of, negated, literal_value, value_of, out_name, Driver, net_value, run_nets, settled}
use Rattle.model.specs.{input_values, input_nets, output_nets, assignment_of, first_wrong, wrong_at, compare_from, DriverValues, Right, Compared}
use Rattle.model.specs.{Checked, Distinct}
use Rattle.model.specs.Graph.{Graph}
use Rattle.model.specs.declared.Comparison.{Comparison}
use Rattle.model.specs.declared.Comparison.TheVariants.{Equal, Differs}
use Rattle.theory_graph.proofs.{map_in, map_out, map_same, get_or_in, length-map, defined-ordered, values_exist, values-only}
use Rattle.theory_graph.specs.AcceptedGraph.{Accepted}
use Rattle.theory_check.proofs.DriverSort.{nets_of, NoCycle, IsOrder, settled-order}
use Rattle.theory_check.proofs.AllAssignments.{assignment_numbered, every_assignment, right-under-every}
use Rattle.theory_check.proofs.NetRuns.{nets_stay, runs_follow, runs_only, inputs-set, map_agree}

is_some : Option ℕ → Bool
is_some None = false
is_some (Some k) = true

is_accepted : Checked → Bool
is_accepted (Ok Equal) = true
is_accepted (Ok (Differs s k)) = false
is_accepted (Err r) = false

-- ---- the first difference

data Wrong (xs ys : List Bool) (k : ℕ) : Option ℕ → Type 0 where
  nowhere : ((j : ℕ) → j < length xs → get_or xs j false ≡ get_or ys j false) → Wrong xs ys k None
  at : (j : ℕ) → j < length xs → ¬ (get_or xs j false ≡ get_or ys j false) → ((i : ℕ) → i < j → get_or xs i false ≡ get_or ys i false) → Wrong xs ys k (Some (k + j))

beq-eq : (a b : Bool) → beq a b ≡ true → a ≡ b
beq-eq true true e = refl
beq-eq true false e = absurd (false≢true e)
beq-eq false true e = absurd (false≢true e)
beq-eq false false e = refl

beq-not : (a b : Bool) → beq a b ≡ false → ¬ (a ≡ b)
beq-not true true e q = true≢false e
beq-not true false e q = true≢false q
beq-not false true e q = false≢true q
beq-not false false e q = true≢false e

first_wrong_lem : (k : ℕ) (xs ys : List Bool) → length xs ≡ length ys → Wrong xs ys k (first_wrong k xs ys)
unfolding first_wrong
first_wrong_lem k [] ys e = nowhere (λ j h. absurd (not-suc-le-zero h))
first_wrong_lem k (x ∷ xs) [] e = absurd (let z : suc (length xs) ≡ 0 = e in omega arith)
first_wrong_lem k (x ∷ xs) (y ∷ ys) e = go (beq x y) refl (first_wrong (suc k) xs ys) (first_wrong_lem (suc k) xs ys (omega arith))
  where
    both : (P : ℕ → Type 0) → P 0 → ((j : ℕ) → P (suc j)) → (j : ℕ) → P j
    both P a b zero = a
    both P a b (suc j) = b j

    go : (b : Bool) → beq x y ≡ b → (o : Option ℕ) → Wrong xs ys (suc k) o → Wrong (x ∷ xs) (y ∷ ys) k (cond b o (Some k))
    go true q o (nowhere h) = nowhere (both (λ j. j < suc (length xs) → get_or (x ∷ xs) j false ≡ get_or (y ∷ ys) j false) (λ _. beq-eq x y q) (λ j i. h j (le_of_suc-le-suc i)))
    go true q o (at j i n before) = rw (← let z : k + suc j ≡ suc k + j = omega arith in z) (at (suc j) (omega arith) n
        (both (λ i. i < suc j → get_or (x ∷ xs) i false ≡ get_or (y ∷ ys) i false) (λ _. beq-eq x y q) (λ i h. before i (le_of_suc-le-suc h))))
    go false q o r = subst (λ (m : ℕ). Wrong (x ∷ xs) (y ∷ ys) k (Some m)) (let z : k + 0 ≡ k = omega arith in z)
        (at 0 (omega arith) (beq-not x y q) (λ i h. absurd (not-suc-le-zero h)))

-- ---- the lowest assignment

data Lowest (wrong : ℕ → Option ℕ) (s n : ℕ) : Comparison → Type 0 where
  never : ((r : ℕ) → r < n → wrong (s + r) ≡ None) → Lowest wrong s n Equal
  first : (r k : ℕ) → r < n → wrong (s + r) ≡ Some k → ((q : ℕ) → q < r → wrong (s + q) ≡ None) → Lowest wrong s n (Differs (s + r) k)

lowest_assignment : (wrong : ℕ → Option ℕ) (n s : ℕ) → Lowest wrong s n (compare_from n s wrong)
unfolding compare_from
lowest_assignment wrong zero s = never (λ r h. absurd (not-suc-le-zero h))
lowest_assignment wrong (suc n) s = go (wrong s) refl (compare_from n (suc s) wrong) (lowest_assignment wrong n (suc s))
  where
    here : s + 0 ≡ s
    here = omega arith

    past : (r : ℕ) → s + suc r ≡ suc s + r
    past r = omega arith

    both : (P : ℕ → Type 0) → P 0 → ((j : ℕ) → P (suc j)) → (j : ℕ) → P j
    both P a b zero = a
    both P a b (suc j) = b j

    go : (o : Option ℕ) → wrong s ≡ o → (c : Comparison) → Lowest wrong (suc s) n c → Lowest wrong s (suc n) (elim o [ None ↦ c | Some k ↦ Differs s k ])
    go None e c (never h) = never (both (λ r. r < suc n → wrong (s + r) ≡ None) (λ _. ap wrong here ∙ e) (λ r i. ap wrong (past r) ∙ h r (le_of_suc-le-suc i)))
    go None e c (first r k h q before) = rw (← past r) (first (suc r) k (omega arith) (ap wrong (past r) ∙ q)
        (both (λ q. q < suc r → wrong (s + q) ≡ None) (λ _. ap wrong here ∙ e) (λ q i. ap wrong (past q) ∙ before q (le_of_suc-le-suc i))))
    go (Some k) e c l =
        subst (λ (m : ℕ). Lowest wrong s (suc n) (Differs m k)) here (first 0 k (omega arith) (ap wrong here ∙ e) (λ q h. absurd (not-suc-le-zero h)))

-- ---- the netlist against its graph

-- what 32 and 33 leave: inputs and outputs of the graph, each net driven once, every net used driven, no cycle
pub record Sound (g : Graph) (ds : List Driver) : Type 0 where
  pub graph : Accepted g
  pub inputs_once : Distinct (input_nets g)
  pub vars_once : Distinct g.inputs
  pub once : Distinct (nets_of ds)
  pub apart : (n : List ℕ) → Memᴰ n (input_nets g) → ¬ Memᴰ n (nets_of ds)
  pub used : (d : Driver) → Memᴰ d ds → (n : List ℕ) → Memᴰ n d.uses → Memᴰ n (input_nets g) ⊎ Memᴰ n (nets_of ds)
  pub no_cycle : NoCycle ds
  pub outputs : (k : ℕ) → k < length g.outputs → Memᴰ (out_name k) (nets_of ds)

module _ (g : Graph) (ds : List Driver) (ok : Sound g ds) where
  order : List Driver
  order = settled (length ds) (input_nets g) ds

  is-order : IsOrder (input_nets g) ds order
  unfolding order
  is-order = settled-order ds ok.no_cycle (length ds) (input_nets g) ds (le_refl (length ds)) (λ d m. m) ok.used

  away : (n : List ℕ) → Memᴰ n (input_nets g) → ¬ Memᴰ n (nets_of order)
  away n m i = ok.apart n m (let w = map_out (λ (d : Driver). d.net) order i in Memᴰ-cast w.2
      (map_in (λ (d : Driver). d.net) (is-order.has_only w.0 w.1)))

  starts : ℕ → List (List ℕ × Bool)
  starts s = input_values s 0 (input_nets g)

  the : ℕ → List ℕ → Bool
  the s = net_value (run_nets order (starts s))

  set : (s : ℕ) → map (net_value (starts s)) (input_nets g) ≡ map (assignment_of s 0 g.inputs) g.inputs
  unfolding starts
  set s = inputs-set s (input_nets g) g.inputs (unfold input_nets in length-map _ g.inputs) ok.inputs_once ok.vars_once

  the_values : (s : ℕ) → DriverValues g ds s (the s)
  unfolding the
  the_values s = record {
    at_inputs = map_same (net_value (run_nets order (starts s))) (net_value (starts s)) (input_nets g) (λ n m. nets_stay order (starts s) n (away n m)) ∙ set s;
    at_drivers = λ d m. runs_follow (input_nets g) (starts s) order is-order.ordered (is-order.once ok.once) away d (is-order.has d m);
  }

  -- the values by which `wrong_at` goes hold
  pub run-values : (s : ℕ) → DriverValues g ds s (net_value (run_nets (settled (length ds) (input_nets g) ds) (input_values s 0 (input_nets g))))
  unfolding the order starts
  run-values s = the_values s

  the_only : (s : ℕ) (w : List ℕ → Bool) → DriverValues g ds s w → (n : List ℕ) → Memᴰ n (nets_of ds) → w n ≡ the s n
  unfolding the
  the_only s w h n m = runs_only w (input_nets g) (starts s) order is-order.ordered (is-order.once ok.once) away
      (map_agree w (net_value (starts s)) (input_nets g) (h.at_inputs ∙ sym (set s))) (λ d i. h.at_drivers d (is-order.has_only d i)) n (inr
      (let w = map_out (λ (d : Driver). d.net) ds m in Memᴰ-cast w.2 (map_in (λ (d : Driver). d.net) (is-order.has w.0 w.1))))

  -- ---- an output, by computing

  wants : ℕ → ℕ → Bool
  wants s k = literal_value (value_of g (assignment_of s 0 g.inputs)) (get_or g.outputs k 0)

  right_is : (s k : ℕ) → k < length g.outputs → wants s k ≡ the s (out_name k) → Right g ds s k
  unfolding wants literal_value
  right_is s k h e v hv w hw =
      let l = get_or g.outputs k 0 in
      the_only s w hw (out_name k) (ok.outputs k h) ∙ sym e
      ∙ ap (flip (negated l)) (sym (values-only g ok.graph (assignment_of s 0 g.inputs) v hv (var_of l)
      (defined-ordered g ok.graph (var_of l) (ok.graph.used l (Memᴰ-append_left (each (λ (a : And). a.left ∷ a.right ∷ []) g.ands) (get_or_in g.outputs k 0 h))))))

  is_right_lem : (s k : ℕ) → Right g ds s k → wants s k ≡ the s (out_name k)
  unfolding wants
  is_right_lem s k r = sym (r (value_of g (assignment_of s 0 g.inputs)) (values_exist g ok.graph (assignment_of s 0 g.inputs)) (the s) (the_values s))

  wrong_in : (s : ℕ) → List Bool
  wrong_in s = map (literal_value (value_of g (assignment_of s 0 g.inputs))) g.outputs

  get_or-map_in : {A : Type 0} (f : A → Bool) (xs : List A) (d : A) (k : ℕ) → k < length xs → get_or (map f xs) k false ≡ f (get_or xs k d)
  get_or-map_in f [] d k h = absurd (not-suc-le-zero h)
  get_or-map_in f (x ∷ xs) d zero h = refl
  get_or-map_in f (x ∷ xs) d (suc k) h = get_or-map_in f xs d k (le_of_suc-le-suc h)

  get_or-from : (f : List ℕ → Bool) (n i k : ℕ) → k < n → get_or (map f (map out_name (from i n))) k false ≡ f (out_name (i + k))
  unfolding from
  get_or-from f zero i k h = absurd (not-suc-le-zero h)
  get_or-from f (suc n) i zero h = ap (λ (j : ℕ). f (out_name j)) (let z : i ≡ i + 0 = omega arith in z)
  get_or-from f (suc n) i (suc k) h = get_or-from f n (suc i) k (le_of_suc-le-suc h) ∙ ap (λ (j : ℕ). f (out_name j)) (let z : suc i + k ≡ i + suc k = omega arith in z)

  length_from : (n i : ℕ) → length (from i n) ≡ n
  unfolding from
  length_from zero i = refl
  length_from (suc n) i = ap suc (length_from n (suc i))

  got : ℕ → List Bool
  got s = map (the s) (output_nets g)

  long : (s : ℕ) → length (wrong_in s) ≡ length g.outputs
  unfolding wrong_in
  long s = length-map (literal_value (value_of g (assignment_of s 0 g.inputs))) g.outputs

  wanted_at_lem : (s k : ℕ) → k < length g.outputs → get_or (wrong_in s) k false ≡ wants s k
  unfolding wrong_in wants
  wanted_at_lem s k h = get_or-map_in (literal_value (value_of g (assignment_of s 0 g.inputs))) g.outputs 0 k h

  got_at : (s k : ℕ) → k < length g.outputs → get_or (got s) k false ≡ the s (out_name k)
  unfolding got output_nets below
  got_at s k h = get_or-from (the s) (length g.outputs) 0 k h ∙ ap (λ (j : ℕ). the s (out_name j)) (zero-add k)

  wrong_is : (s : ℕ) → wrong_at g order s ≡ first_wrong 0 (wrong_in s) (got s)
  unfolding wrong_at wrong_in got the starts
  wrong_is s = refl

  -- what an assignment's first wrong output is
  data At (s : ℕ) : Option ℕ → Type 0 where
    fine : ((k : ℕ) → k < length g.outputs → Right g ds s k) → At s None
    bad : (k : ℕ) → k < length g.outputs → ¬ Right g ds s k → ((j : ℕ) → j < k → Right g ds s j) → At s (Some k)

  at_assignment : (s : ℕ) → At s (wrong_at g order s)
  at_assignment s = rw (wrong_is s) (go (first_wrong 0 (wrong_in s) (got s)) (first_wrong_lem 0 (wrong_in s) (got s)
      (unfold wrong_in got output_nets below in cc (
        length-map (literal_value (value_of g (assignment_of s 0 g.inputs)))
            g.outputs,
        length-map (the s) (map out_name (from 0 (length g.outputs))),
        length-map out_name
            (from 0 (length g.outputs)),
        length_from (length g.outputs) 0,
      ))))
    where
      agree : (k : ℕ) → k < length g.outputs → get_or (wrong_in s) k false ≡ get_or (got s) k false → Right g ds s k
      agree k h e = right_is s k h (sym (wanted_at_lem s k h) ∙ e ∙ got_at s k h)

      go : (o : Option ℕ) → Wrong (wrong_in s) (got s) 0 o → At s o
      go o (nowhere h) = fine (λ k b. agree k b (h k (subst (λ (n : ℕ). k < n) (sym (long s)) b)))
      go o (at j h n before) =
          let b : j < length g.outputs = subst (λ (m : ℕ). j < m) (long s) h in
          subst (λ (m : ℕ). At s (Some m)) (sym (zero-add j))
          (bad j b (λ r. n (wanted_at_lem s j b ∙ is_right_lem s j r ∙ sym (got_at s j b))) (λ i q. agree i (let z : j < length g.outputs = b in omega arith) (before i q)))

  -- what is returned
  assignments : ℕ
  assignments = 2 ^ length g.inputs

  answer : Comparison
  answer = compare_from assignments 0 (wrong_at g order)

  all_fine : (s : ℕ) → wrong_at g order s ≡ None → (k : ℕ) → k < length g.outputs → Right g ds s k
  unfolding is_some
  all_fine s e = go (wrong_at g order s) e (at_assignment s)
    where
      go : (o : Option ℕ) → o ≡ None → At s o → (k : ℕ) → k < length g.outputs → Right g ds s k
      go o q (fine h) = h
      go o q (bad k h n before) = absurd (true≢false (ap is_some q))

  some_bad : (s k : ℕ) → wrong_at g order s ≡ Some k → (k < length g.outputs) × (¬ Right g ds s k) × ((j : ℕ) → j < k → Right g ds s j)
  unfolding is_some
  some_bad s k e = go (wrong_at g order s) e (at_assignment s)
    where
      go : (o : Option ℕ) → o ≡ Some k → At s o → (k < length g.outputs) × (¬ Right g ds s k) × ((j : ℕ) → j < k → Right g ds s j)
      go o q (fine h) = absurd (false≢true (ap is_some q))
      go o q (bad j h n before) = let y : j ≡ k = cc in rw (← y) (h, n, before)

  AllRight : Type 0
  AllRight = (s : ℕ) → s < assignments → (k : ℕ) → k < length g.outputs → Right g ds s k

  FirstBad : ℕ → ℕ → Type 0
  FirstBad s k = (s < assignments) × (k < length g.outputs) × (¬ Right g ds s k)
      × ((j : ℕ) → j < k → Right g ds s j) × ((r : ℕ) → r < s → (j : ℕ) → j < length g.outputs → Right g ds r j)

  data Answers : Comparison → Type 0 where
    yes-all : AllRight → Answers Equal
    no_at : (s k : ℕ) → FirstBad s k → Answers (Differs s k)

  answers : Answers answer
  unfolding answer AllRight FirstBad
  answers = go (compare_from assignments 0 (wrong_at g order)) (lowest_assignment (wrong_at g order) assignments 0)
    where
      go : (c : Comparison) → Lowest (wrong_at g order) 0 assignments c → Answers c
      go c (never h) = yes-all (λ s b. all_fine s (ap (wrong_at g order) (sym (zero-add s)) ∙ h s b))
      go c (first r k h e before) = rw (zero-add r) (let b = some_bad r k (ap (wrong_at g order) (sym (zero-add r)) ∙ e) in no_at r k
          (h, b.0, b.1, b.2, (λ q i. all_fine q (cc (zero-add q, before q i)))))

  -- two first differences are one
  one_bad : (s k r j : ℕ) → FirstBad s k → FirstBad r j → (s ≡ r) × (k ≡ j)
  unfolding FirstBad
  one_bad s k r j a b =
      let no_later_lem : (s k r j : ℕ) → (k < length g.outputs) → (¬ Right g ds s k) →
      ((x : ℕ) → x < r → (i : ℕ) → i < length g.outputs → Right g ds x i) → r ≤ s = λ s k r j h n f. elim
      (dec_le r s) [ yes q ↦ q | no q ↦ absurd (n (f s (lt_of_not-le q) k h)) ] in
      let e = le_antisymm (no_later_lem r j s k b.1 b.2 a.4) (no_later_lem s k r j a.1 a.2 b.4) in
      let outs : (s k j : ℕ) → FirstBad s k → ¬ Right g ds s j → k ≤ j = λ s k j f n. elim
      (dec_le k j) [ yes q ↦ q | no q ↦ absurd (n (f.3 j (lt_of_not-le q))) ] in
      (e, le_antisymm (outs s k j a (subst (λ (x : ℕ). ¬ Right g ds x j) (sym e) b.2)) (outs r j k b (subst (λ (x : ℕ). ¬ Right g ds x k) e a.2)))

  assignment_in : Checked → ℕ
  assignment_in (Ok Equal) = 0
  assignment_in (Ok (Differs s k)) = s
  assignment_in (Err r) = 0

  output_in : Checked → ℕ
  output_in (Ok Equal) = 0
  output_in (Ok (Differs s k)) = k
  output_in (Err r) = 0

  pub compared : Compared g ds (Ok (compare_from (2 ^ length g.inputs) 0 (wrong_at g (settled (length ds) (input_nets g) ds))))
  unfolding order answer assignments is_accepted AllRight FirstBad assignment_in output_in
  compared = record {
    graph_has = λ s. (value_of g (assignment_of s 0 g.inputs), values_exist g ok.graph (assignment_of s 0 g.inputs));
    netlist_has = λ s. (the s, the_values s);
    accepts = by_answer answer answers;
    differing = λ s k. at-answer s k answer answers;
    numbered = assignment_numbered g.inputs ok.vars_once;
    every = every_assignment g.inputs ok.vars_once;
    accepted = (
      (λ e. right-under-every g ds ok.vars_once ((by_answer answer answers).0 e)),
      (λ h. (by_answer answer answers).1 (λ s b k i. h (assignment_of s 0 g.inputs) k i)),
    );
  }
    where
      by_answer : (c : Comparison) → Answers c → (◌≡◌ {A = Checked} (Ok c) (Ok Equal)) ↔ AllRight
      by_answer c (yes-all h) = ((λ _. h), (λ _. refl))
      by_answer c (no_at s k f) = ((λ e. absurd (false≢true (ap is_accepted e))), (λ h. absurd (f.2 (h s f.0 k f.1))))

      at-answer : (s k : ℕ) (c : Comparison) → Answers c → (◌≡◌ {A = Checked} (Ok c) (Ok (Differs s k))) ↔ FirstBad s k
      at-answer s k c (yes-all h) = ((λ e. absurd (true≢false (ap is_accepted e))), (λ f. absurd (f.2 (h s f.0 k f.1))))
      at-answer s k c (no_at r j f) =
          ((λ e. rw (← ap assignment_in e) (rw (← ap output_in e) f)), (λ b. let o = one_bad r j s k f b in ap₂ (λ (a b : ℕ). Ok (Differs a b)) o.0 o.1))
