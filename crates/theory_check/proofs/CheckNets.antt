-- The nets of an edited netlist are validated exactly as the conditions say: a net driven again, then one that no line drives, then a cycle, each at the first such
-- line.
use Rattle.base.specs.{ℕ, arith, ◌≡◌, refl, sym, ◌∙◌, ap, ap₂, subst, ◌⊎◌, inl, inr, ◌↔◌, ⊎_elim, Bool, true, false, not, cond, Option}
use Rattle.base.specs.{None, Some, List, [], ◌∷◌, ◌++◌, map-append, append-nil, append_assoc, nil≢cons, head-eq_of_cons-eq}
use Rattle.base.specs.{tail-eq_of_cons-eq, Memᴰ, Memᴰ-head, Memᴰ-tail, Memᴰ-not-nil, Memᴰ-append_cases}
use Rattle.base.specs.{Memᴰ-append_left, Memᴰ-append_right, T, not_T, T_not, or_yes}
use Rattle.model.specs.{any, Read, holds, fault, Driver, among, first_line, driven_twice, undriven, on_cycle, unless_at, validate_nets}
use Rattle.promises.specs.{Exactly}
use Rattle.theory_graph.proofs.{is_true, is_false, by_member, by_bool}
use Rattle.theory_text.proofs.{fault_never, in_fault}
use Rattle.theory_refusals.proofs.{yes_or, on, exactly_holds, exactly_map}
use Rattle.promises.specs.CheckRefusals.{FirstLine, NoLine, Again, Undriven, Feeds, direct, onward, OnCycle, NetsFault, twice, unfed}
use Rattle.promises.specs.CheckRefusals.{cycle}
use Rattle.promises.specs.CheckRefusals.{NetsHold, Validated}
use Rattle.theory_check.proofs.DriverSort.{FeedsNet, directly, through, among_in, among_out, nets_of}
use Rattle.theory_check.proofs.Cycles.{cycle-found, found-cycle}
use Rattle.theory_check.proofs.NetVerdicts.{twice-none, one-driver}

-- ---- the first line that passes a test, by the lines before it

unfoldable first_by : (List Driver → Driver → Bool) → List Driver → List Driver → Option ℕ
first_by p bs [] = None
first_by p bs (d ∷ ds) = let r = first_by p (bs ++ (d ∷ [])) ds in cond (p bs d) (Some d.offset) r

-- it stands behind lines that do not pass
record Found (p : List Driver → Driver → Bool) (bs ds : List Driver) (k : ℕ) : Type 0 where
  before : List Driver
  driver : Driver
  after : List Driver
  is_all : ds ≡ before ++ (driver ∷ after)
  is : T (p (bs ++ before) driver)
  first : (xs : List Driver) (d : Driver) (ys : List Driver) → before ≡ xs ++ (d ∷ ys) → ¬ T (p (bs ++ xs) d)
  is_place : driver.offset ≡ k

abbrev Unfound : (List Driver → Driver → Bool) → List Driver → List Driver → Type 0
Unfound p bs ds = (xs : List Driver) (d : Driver) (ys : List Driver) → ds ≡ xs ++ (d ∷ ys) → ¬ T (p (bs ++ xs) d)

no_split : (xs : List Driver) (x : Driver) (ys : List Driver) → [] ≡ xs ++ (x ∷ ys) → ⊥
no_split [] x ys z = nil≢cons z
no_split (w ∷ xs) x ys z = nil≢cons z

module _ (p : List Driver → Driver → Bool) where
  -- a line behind the others
  behind : (bs : List Driver) (d : Driver) (xs : List Driver) → (bs ++ (d ∷ [])) ++ xs ≡ bs ++ (d ∷ xs)
  behind bs d xs = append_assoc bs (d ∷ []) xs

  none_cons : (bs : List Driver) (x : Driver) (zs : List Driver) → (¬ T (p bs x)) → Unfound p (bs ++ (x ∷ [])) zs → Unfound p bs (x ∷ zs)
  none_cons bs x zs n f [] d ys e t = n (subst (λ (y : Driver). T (p bs y)) (sym (head-eq_of_cons-eq e)) (subst (λ (y : List Driver). T (p y d)) (append-nil bs) t))
  none_cons bs x zs n f (w ∷ xs) d ys e t =
      f xs d ys (tail-eq_of_cons-eq e) (subst (λ (y : List Driver). T (p y d)) (ap (λ (z : Driver). bs ++ (z ∷ xs)) (sym (head-eq_of_cons-eq e)) ∙ sym (behind bs x xs)) t)

  found : (bs ds : List Driver) (k : ℕ) → first_by p bs ds ≡ Some k → Found p bs ds k
  unfolding first_by
  found bs [] k e = let z : ◌≡◌ {A = ℕ} 0 1 = cc in absurd (omega arith)
  found bs (d ∷ ds) k e = by_bool (p bs d) (λ q. record {
    before = [];
    driver = d;
    after = ds;
    is_all = refl;
    is = subst (λ (y : List Driver). T (p y d)) (sym (append-nil bs)) (subst T (sym q) tt);
    first = λ xs x ys z. absurd (no_split xs x ys z);
    is_place = cc;
  }) (λ r. record {
    before = d ∷ (found (bs ++ (d ∷ [])) ds k (rw r at e)).before;
    driver = (found (bs ++ (d ∷ [])) ds k (rw r at e)).driver;
    after = (found (bs ++ (d ∷ [])) ds k (rw r at e)).after;
    is_all = ap (λ (y : List Driver). d ∷ y) (found (bs ++ (d ∷ [])) ds k (rw r at e)).is_all;
    is = subst (λ (y : List Driver). T (p y (found (bs ++ (d ∷ [])) ds k (rw r at e)).driver))
        (behind bs d (found (bs ++ (d ∷ [])) ds k (rw r at e)).before) (found (bs ++ (d ∷ [])) ds k (rw r at e)).is;
    first = none_cons bs d (found (bs ++ (d ∷ [])) ds k (rw r at e)).before (λ t. subst T r t)
        (found (bs ++ (d ∷ [])) ds k (rw r at e)).first;
    is_place = (found (bs ++ (d ∷ [])) ds k (rw r at e)).is_place;
  })

  unfound : (bs ds : List Driver) → first_by p bs ds ≡ None → Unfound p bs ds
  unfolding first_by
  unfound bs [] e = λ xs d ys z. absurd (no_split xs d ys z)
  unfound bs (x ∷ ds) e = go (p bs x) refl e (unfound (bs ++ (x ∷ [])) ds)
    where
      go : (b : Bool) → p bs x ≡ b → cond b (Some x.offset) (first_by p (bs ++ (x ∷ [])) ds) ≡ None → (first_by p (bs ++ (x ∷ [])) ds ≡ None → Unfound p (bs ++ (x ∷ [])) ds) → Unfound p bs (x ∷ ds)
      go true q f later = let z : ◌≡◌ {A = ℕ} 0 1 = cc in absurd (omega arith)
      go false q f later = none_cons bs x ds (λ t. subst T q t) (later f)

  skip : (bs : List Driver) (x : Driver) (ds : List Driver) → (¬ T (p bs x)) → first_by p bs (x ∷ ds) ≡ first_by p (bs ++ (x ∷ [])) ds
  unfolding first_by
  skip bs x ds n = ap (λ (b : Bool). cond b (Some x.offset) (first_by p (bs ++ (x ∷ [])) ds)) (is_false (p bs x) (not_T (p bs x) n))

  -- lines that do not pass, from the first on
  first_fails : (bs : List Driver) (x : Driver) (zs : List Driver) → Unfound p bs (x ∷ zs) → ¬ T (p bs x)
  first_fails bs x zs f t = f [] x zs refl (subst (λ (y : List Driver). T (p y x)) (sym (append-nil bs)) t)

  later_fail : (bs : List Driver) (x : Driver) (zs : List Driver) → Unfound p bs (x ∷ zs) → Unfound p (bs ++ (x ∷ [])) zs
  later_fail bs x zs f xs d ys e t = f (x ∷ xs) d ys (ap (λ (y : List Driver). x ∷ y) e) (subst (λ (y : List Driver). T (p y d)) (behind bs x xs) t)

  finds : (bs before : List Driver) (d : Driver) (after : List Driver) → Unfound p bs before → T (p (bs ++ before) d) → first_by p bs (before ++ (d ∷ after)) ≡ Some d.offset
  unfolding first_by
  finds bs [] d after f t = ap (λ (b : Bool). cond b (Some d.offset) (first_by p (bs ++ (d ∷ [])) after)) (is_true (p bs d) (subst (λ (y : List Driver). T (p y d)) (append-nil bs) t))
  finds bs (x ∷ before) d after f t = skip bs x (before ++ (d ∷ after)) (first_fails bs x before f)
      ∙ finds (bs ++ (x ∷ [])) before d after (later_fail bs x before f) (rw (behind bs x before) t)

  finds_none : (bs ds : List Driver) → Unfound p bs ds → first_by p bs ds ≡ None
  unfolding first_by
  finds_none bs [] f = refl
  finds_none bs (x ∷ ds) f = skip bs x ds (first_fails bs x ds f) ∙ finds_none (bs ++ (x ∷ [])) ds (later_fail bs x ds f)

-- ---- a test against its condition, for the lines of a list
module _ (P : List Driver → Driver → Type 0) (p : List Driver → Driver → Bool) (ds : List Driver)
    (there : (bs : List Driver) (d : Driver) (cs : List Driver) → ds ≡ bs ++ (d ∷ cs) → T (p bs d) → P bs d)
    (back : (bs : List Driver) (d : Driver) (cs : List Driver) → ds ≡ bs ++ (d ∷ cs) → P bs d → T (p bs d)) where
  -- a part before a line is a part of all
  within : (before : List Driver) (e : Driver) (after xs : List Driver) (d : Driver) (ys : List Driver) → ds ≡ before ++ (e ∷ after) → before ≡ xs ++ (d ∷ ys) → ds ≡ xs ++ (d ∷ (ys ++ (e ∷ after)))
  within before e after xs d ys a b = a ∙ ap (λ (y : List Driver). y ++ (e ∷ after)) b ∙ append_assoc xs (d ∷ ys) (e ∷ after)

  first_exactly : (k : ℕ) → (first_by p [] ds ≡ Some k) ↔ FirstLine P ds k
  first_exactly k = (
    (λ e. let f = found p [] ds k e in record {
      before = f.before;
      driver = f.driver;
      after = f.after;
      is_all = f.is_all;
      is = there f.before f.driver f.after f.is_all f.is;
      first = λ xs d ys z q. f.first xs d ys z
          (back xs d (ys ++ (f.driver ∷ f.after)) (within f.before f.driver f.after xs d ys f.is_all z) q);
      is_place = f.is_place;
    }),
    (λ f. cc (
      f.is_all,
      finds p [] f.before f.driver f.after (λ xs d ys z t. f.first xs d ys z
          (there xs d (ys ++ (f.driver ∷ f.after)) (within f.before f.driver f.after xs d ys f.is_all z) t))
          (back f.before f.driver f.after f.is_all f.is),
      f.is_place,
    )),
  )

  none_exactly : (first_by p [] ds ≡ None) ↔ NoLine P ds
  none_exactly = ((λ e bs d cs z q. unfound p [] ds e bs d cs z (back bs d cs z q)), λ f. finds_none p [] ds (λ bs d cs z t. f bs d cs z (there bs d cs z t)))

-- ---- the three tests

line_first : (q : Driver → Bool) (bs ds : List Driver) → first_line q ds ≡ first_by (λ _. q) bs ds
unfolding first_line first_by
line_first q bs [] = refl
line_first q bs (d ∷ ds) = ap (λ (r : Option ℕ). cond (q d) (Some d.offset) r) (line_first q (bs ++ (d ∷ [])) ds)

abbrev known : List (List ℕ) → List Driver → Driver → Bool
known inputs bs d = among d.net (inputs ++ nets_of bs)

twice-first : (inputs seen : List (List ℕ)) (bs ds : List Driver) → ((n : List ℕ) → Memᴰ n seen ↔ Memᴰ n (inputs ++ nets_of bs)) → driven_twice seen ds ≡ first_by (known inputs) bs ds
unfolding driven_twice first_by
twice-first inputs seen bs [] h = refl
twice-first inputs seen bs (d ∷ ds) h =
    let nets = map-append (λ (e : Driver). e.net) bs (d ∷ []) in
    cc (
      on (among d.net seen)
          (λ t. is_true (among d.net seen) t ∙ sym (among_in d.net (inputs ++ nets_of bs) ((h d.net).0 (among_out d.net seen t))))
          (λ t. is_false (among d.net seen) t ∙ sym (is_false (among d.net (inputs ++ nets_of bs))
          (not_T (among d.net (inputs ++ nets_of bs)) (λ u. T_not (among d.net seen) t
          (rw (among_in d.net seen ((h d.net).1 (among_out d.net (inputs ++ nets_of bs) u))) tt))))),
      twice-first inputs (d.net ∷ seen)
          (bs ++ (d ∷ [])) ds (λ n. ((λ m. rw nets (take n m)), λ m. put n (rw (← nets) m))),
    )
  where
    put : (n : List ℕ) → Memᴰ n (inputs ++ (nets_of bs ++ (d.net ∷ []))) → Memᴰ n (d.net ∷ seen)
    put n m = go (Memᴰ-append_cases inputs m)
      where
        go : Memᴰ n inputs ⊎ Memᴰ n (nets_of bs ++ (d.net ∷ [])) → Memᴰ n (d.net ∷ seen)
        go (inl i) = Memᴰ-tail ((h n).1 (Memᴰ-append_left (nets_of bs) i))
        go (inr i) = ⊎_elim (λ q. Memᴰ-tail ((h n).1 (Memᴰ-append_right inputs q)))
            (λ x. by_member x Memᴰ-head (λ p. absurd (Memᴰ-not-nil p))) (Memᴰ-append_cases (nets_of bs) i)

    take : (n : List ℕ) → Memᴰ n (d.net ∷ seen) → Memᴰ n (inputs ++ (nets_of bs ++ (d.net ∷ [])))
    take n (Memᴰ-head e) = Memᴰ-append_right inputs (Memᴰ-append_right (nets_of bs) (Memᴰ-head e))
    take n (Memᴰ-tail m) = ⊎_elim (Memᴰ-append_left (nets_of bs ++ (d.net ∷ [])))
        (λ q. Memᴰ-append_right inputs (Memᴰ-append_left (d.net ∷ []) q)) (Memᴰ-append_cases inputs ((h n).0 m))

-- ---- the conditions

listed : (ds bs : List Driver) (d : Driver) (cs : List Driver) → ds ≡ bs ++ (d ∷ cs) → Memᴰ d ds
listed ds bs d cs e = subst (λ (xs : List Driver). Memᴰ d xs) (sym e) (Memᴰ-append_right bs (Memᴰ-head refl))

again_form : (inputs : List (List ℕ)) (bs : List Driver) (d : Driver) → T (known inputs bs d) → Again inputs bs d
again_form inputs bs d t = Memᴰ-append_cases inputs (among_out d.net (inputs ++ nets_of bs) t)

again-back : (inputs : List (List ℕ)) (bs : List Driver) (d : Driver) → Again inputs bs d → T (known inputs bs d)
again-back inputs bs d (inl m) = subst T (sym (among_in d.net (inputs ++ nets_of bs) (Memᴰ-append_left (nets_of bs) m))) tt
again-back inputs bs d (inr m) = subst T (sym (among_in d.net (inputs ++ nets_of bs) (Memᴰ-append_right inputs m))) tt

-- a name that stands in a list not
stray_form : (nets us : List (List ℕ)) → T (any (λ (n : List ℕ). not (among n nets)) us) → (n : List ℕ) × Memᴰ n us × (¬ Memᴰ n nets)
unfolding any
stray_form nets [] t = absurd t
stray_form nets (u ∷ us) t = ⊎_elim (λ h. (u, Memᴰ-head refl, λ m. T_not (among u nets) h (subst T (sym (among_in u nets m)) tt)))
    (λ q. let r = (stray_form nets us) q in (r.0, Memᴰ-tail r.1, r.2))
    (or_yes (not (among u nets)) (any (λ (n : List ℕ). not (among n nets)) us) t)

stray_back : (nets us : List (List ℕ)) (n : List ℕ) → Memᴰ n us → (¬ Memᴰ n nets) → T (any (λ (x : List ℕ). not (among x nets)) us)
unfolding any
stray_back nets (u ∷ us) n (Memᴰ-head e) f =
    yes_or (not (among u nets)) (any (λ (x : List ℕ). not (among x nets)) us) (inl (not_T (among u nets) (λ t. f (subst (λ (x : List ℕ). Memᴰ x nets) (sym e) (among_out u nets t)))))
stray_back nets (u ∷ us) n (Memᴰ-tail m) f = yes_or (not (among u nets)) (any (λ (x : List ℕ). not (among x nets)) us) (inr (stray_back nets us n m f))
stray_back nets [] n x'' f = elim x'' [ ]

abbrev stray : List (List ℕ) → List Driver → Driver → Bool
stray inputs ds d = any (λ (n : List ℕ). not (among n (inputs ++ nets_of ds))) d.uses

undriven_form : (inputs : List (List ℕ)) (ds bs : List Driver) (d : Driver) → T (stray inputs ds d) → Undriven inputs ds bs d
undriven_form inputs ds bs d t =
    let r = stray_form (inputs ++ nets_of ds) d.uses t in
    (r.0, r.1, (λ m. r.2 (Memᴰ-append_left (nets_of ds) m)), λ m. r.2 (Memᴰ-append_right inputs m))

undriven-back : (inputs : List (List ℕ)) (ds bs : List Driver) (d : Driver) → Undriven inputs ds bs d → T (stray inputs ds d)
undriven-back inputs ds bs d u = stray_back (inputs ++ nets_of ds) d.uses u.0 u.1 (λ m. ⊎_elim (λ q. u.2 q) (λ e. u.3 e)
    (Memᴰ-append_cases inputs m))

feeds_form : {ds : List Driver} {x y : List ℕ} → FeedsNet ds x y → Feeds ds x y
feeds_form (directly d m u) = direct d m u
feeds_form (through d f m u) = onward d (feeds_form f) m u

feeds-back : {ds : List Driver} {x y : List ℕ} → Feeds ds x y → FeedsNet ds x y
feeds-back (direct d m u) = directly d m u
feeds-back (onward d f m u) = through d (feeds-back f) m u

-- ---- a refusal at a line, if there is one

pub exactly_at : {A : Type 0} {H : A → Type 0} {F : ℕ → ℕ → Type 0} (S : ℕ → Type 0) (N : Type 0) (o : Option ℕ) (m : ℕ) (r : Read A) → ((k : ℕ) → (o ≡ Some k) ↔ S k) → (o ≡ None) ↔ N → (N → Exactly H F r)
    → Exactly (λ a. N × H a) (λ n k. ((n ≡ m) × S k) ⊎ (N × F n k)) (unless_at o m r)
unfolding unless_at
exactly_at {A} {H} {F} S N None m r s n e = record {
  accepts = λ a. ((λ q. (n.0 refl, ((e (n.0 refl)).accepts a).0 q)), λ p. ((e (n.0 refl)).accepts a).1 p.1);
  refuses = λ i k. (
    (λ q. inr (n.0 refl, ((e (n.0 refl)).refuses i k).0 q)),
    (λ x. ⊎_elim
        (λ z. let z : ◌≡◌ {A = Option ℕ} None (Some k) = (s k).1 z.1 in let y : ◌≡◌ {A = ℕ} 0 1 = cc in absurd (omega arith))
        (λ w. ((e w.0).refuses i k).1 w.1) x),
  );
}
exactly_at {A} {H} {F} S N (Some j) m r s n e =
    let never : ◌≡◌ {A = Option ℕ} (Some j) None → ⊥ = λ z. let y : ◌≡◌ {A = ℕ} 0 1 = cc in omega arith in
    record {
      accepts = λ a. ((λ q. absurd (fault_never q)), λ p. absurd (never (n.1 p.0)));
      refuses = λ i k. (
        (λ x. (in_fault {A = A} (λ x y. ((x ≡ m) × S y) ⊎ (N × F x y)) m j (inl (refl, (s j).0 refl))).has i k x),
        (λ z. ⊎_elim
            (λ w. let z : Some j ≡ Some k = (s k).1 w.1 in let y : j ≡ k = cc in ap₂ (λ (u v : ℕ). fault u v) (sym w.0) y)
            (λ u. absurd (never (n.1 u.0))) z),
      );
    }

module _ (inputs : List (List ℕ)) (ds : List Driver) where
  twice-is : driven_twice inputs ds ≡ first_by (known inputs) [] ds
  twice-is = twice-first inputs inputs [] ds (λ n. ((λ m. subst (λ (x : List (List ℕ)). Memᴰ n x) (sym (append-nil inputs)) m), λ m. subst (λ (x : List (List ℕ)). Memᴰ n x) (append-nil inputs) m))

  twice-some : (k : ℕ) → (driven_twice inputs ds ≡ Some k) ↔ FirstLine (Again inputs) ds k
  twice-some k =
      let x = first_exactly (Again inputs) (known inputs) ds (λ bs d cs e t. again_form inputs bs d t) (λ bs d cs e q. again-back inputs bs d q) k in
      ((λ e. x.0 (sym twice-is ∙ e)), λ f. twice-is ∙ x.1 f)

  twice-not : (driven_twice inputs ds ≡ None) ↔ NoLine (Again inputs) ds
  twice-not =
      let x = none_exactly (Again inputs) (known inputs) ds (λ bs d cs e t. again_form inputs bs d t) (λ bs d cs e q. again-back inputs bs d q) in
      ((λ e. x.0 (sym twice-is ∙ e)), λ f. twice-is ∙ x.1 f)

  unfed-is : undriven inputs ds ≡ first_by (λ _. stray inputs ds) [] ds
  unfolding undriven
  unfed-is = line_first (stray inputs ds) [] ds

  unfed-some : (k : ℕ) → (undriven inputs ds ≡ Some k) ↔ FirstLine (Undriven inputs ds) ds k
  unfed-some k =
      let x = first_exactly (Undriven inputs ds) (λ _. stray inputs ds) ds (λ bs d cs e t. undriven_form inputs ds bs d t) (λ bs d cs e q. undriven-back inputs ds bs d q) k in
      ((λ e. x.0 (sym unfed-is ∙ e)), λ f. unfed-is ∙ x.1 f)

  unfed-not : (undriven inputs ds ≡ None) ↔ NoLine (Undriven inputs ds) ds
  unfed-not =
      let x = none_exactly (Undriven inputs ds) (λ _. stray inputs ds) ds (λ bs d cs e t. undriven_form inputs ds bs d t) (λ bs d cs e q. undriven-back inputs ds bs d q) in
      ((λ e. x.0 (sym unfed-is ∙ e)), λ f. unfed-is ∙ x.1 f)

  -- where each net is driven once, what `on_cycle` finds is on a cycle, and all that is
  module _ (once : NoLine (Again inputs) ds) where
    cycle_form : (bs : List Driver) (d : Driver) (cs : List Driver) → ds ≡ bs ++ (d ∷ cs) → T (on_cycle ds d) → OnCycle ds bs d
    cycle_form bs d cs e t = feeds_form (found-cycle ds d (listed ds bs d cs e) (is_true (on_cycle ds d) t))

    cycle-back : (bs : List Driver) (d : Driver) (cs : List Driver) → ds ≡ bs ++ (d ∷ cs) → OnCycle ds bs d → T (on_cycle ds d)
    cycle-back bs d cs e f = subst T (sym (cycle-found ds (one-driver ds (twice-none inputs ds (twice-not.1 once)).0) d (listed ds bs d cs e) (feeds-back f))) tt

    cycle-is : first_line (on_cycle ds) ds ≡ first_by (λ _. on_cycle ds) [] ds
    cycle-is = line_first (on_cycle ds) [] ds

    cycle-some : (k : ℕ) → (first_line (on_cycle ds) ds ≡ Some k) ↔ FirstLine (OnCycle ds) ds k
    cycle-some k =
        let x = first_exactly (OnCycle ds) (λ _. on_cycle ds) ds cycle_form cycle-back k in
        ((λ e. x.0 (sym cycle-is ∙ e)), λ f. cycle-is ∙ x.1 f)

    cycle-not : (first_line (on_cycle ds) ds ≡ None) ↔ NoLine (OnCycle ds) ds
    cycle-not =
        let x = none_exactly (OnCycle ds) (λ _. on_cycle ds) ds cycle_form cycle-back in
        ((λ e. x.0 (sym cycle-is ∙ e)), λ f. cycle-is ∙ x.1 f)

  abbrev All : List Driver → Type 0
  All es = NoLine (Again inputs) ds × (NoLine (Undriven inputs ds) ds × (NoLine (OnCycle ds) ds × (ds ≡ es)))

  abbrev Not : ℕ → ℕ → Type 0
  Not n k = ((n ≡ 33) × FirstLine (Again inputs) ds k) ⊎ (NoLine (Again inputs) ds × (((n ≡ 33) × FirstLine (Undriven inputs ds) ds k) ⊎
      (NoLine (Undriven inputs ds) ds × (((n ≡ 33) × FirstLine (OnCycle ds) ds k) ⊎ (NoLine (OnCycle ds) ds × ⊥)))))

  pub nets_exactly : Validated inputs ds
  nets_exactly =
      let there : (es : List Driver) → All es
      → NetsHold inputs ds es = λ es p. record { once = p.0; fed = p.1.0; straight = p.1.1.0; same = p.1.1.1 } in
      let back : (es : List Driver) → NetsHold inputs ds es → All es = λ es h. (h.once, (h.fed, (h.straight, h.same))) in
      exactly_map (validate_nets inputs ds) (λ es. (there es, back es)) (λ n k. (down n k, up n k)) (unfold validate_nets in exactly_at
      (FirstLine (Again inputs) ds) (NoLine (Again inputs) ds) (driven_twice inputs ds) 33 _ twice-some twice-not (λ once.
      exactly_at (FirstLine (Undriven inputs ds) ds) (NoLine (Undriven inputs ds) ds) (undriven inputs ds) 33 _ unfed-some unfed-not (λ fed.
      exactly_at (FirstLine (OnCycle ds) ds) (NoLine (OnCycle ds) ds) (first_line (on_cycle ds) ds) 33 (holds ds) (cycle-some once)
      (cycle-not once) (λ straight. exactly_holds ds))))
    where
      as_33 : (n k : ℕ) → n ≡ 33 → NetsFault inputs ds 33 k → NetsFault inputs ds n k
      as_33 n k e f = subst (λ (i : ℕ). NetsFault inputs ds i k) (sym e) f

      down : (n k : ℕ) → Not n k → NetsFault inputs ds n k
      down n k (inl p) = as_33 n k p.0 (twice p.1)
      down n k (inr p) = ⊎_elim (λ q. as_33 n k q.0 (unfed p.0 q.1)) (λ e.
          ⊎_elim (λ q. as_33 n k q.0 (cycle p.0 e.0 q.1)) (λ r. absurd r.1) e.1) p.1

      up : (n k : ℕ) → NetsFault inputs ds n k → Not n k
      up n k (twice f) = inl (refl, f)
      up n k (unfed once f) = inr (once, inl (refl, f))
      up n k (cycle once fed f) = inr (once, inr (fed, inl (refl, f)))
