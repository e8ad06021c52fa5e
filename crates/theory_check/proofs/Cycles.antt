-- `on_cycle` finds the cycles, and nothing else.
use Rattle.base.specs.{ℕ, zero, suc, ◌≤◌, ◌<◌, le_refl, le_of_suc-le-suc, lt_of_not-le, dec_le, arith, ◌≡◌, refl, sym, ◌∙◌, ap, subst, ◌⊎◌}
use Rattle.base.specs.{inl, inr, ⊎_elim, Bool, true, false, not, cond, true≢false, false≢true, List, [], ◌∷◌, Memᴰ, Memᴰ-head}
use Rattle.base.specs.{Memᴰ-tail, Memᴰ-not-nil, Memᴰ-cast, T, length}
use Rattle.model.specs.{each, keep, Driver, among, added, feeding, on_cycle}
use Rattle.theory_graph.proofs.{each_in, each_out, keep_in, keep_out, by_bool}
use Rattle.theory_check.proofs.DriverSort.{FeedsNet, directly, through, join-feeds, among_in, among_out}

-- ---- names put to a list

added-keeps : (ns seen : List (List ℕ)) (x : List ℕ) → Memᴰ x seen → Memᴰ x (added ns seen)
unfolding added
added-keeps [] seen x m = m
added-keeps (n ∷ ns) seen x m = added-keeps ns (cond (among n seen) seen (n ∷ seen)) x (by_bool (among n seen) (λ e. rw e m)
    (λ q. rw q (Memᴰ-tail m)))

added-has : (ns seen : List (List ℕ)) (x : List ℕ) → Memᴰ x ns → Memᴰ x (added ns seen)
unfolding added
added-has (n ∷ ns) seen x (Memᴰ-head e) = added-keeps ns (cond (among n seen) seen (n ∷ seen)) x (by_bool (among n seen)
    (λ q. rw q (Memᴰ-cast e ((rw q at (among_out n seen)) tt))) (λ p. rw p (Memᴰ-head e)))
added-has (n ∷ ns) seen x (Memᴰ-tail m) = added-has ns (cond (among n seen) seen (n ∷ seen)) x m
added-has [] seen x x3 = elim x3 [ ]

added-only : (ns seen : List (List ℕ)) (x : List ℕ) → Memᴰ x (added ns seen) → Memᴰ x ns ⊎ Memᴰ x seen
unfolding added
added-only [] seen x m = inr m
added-only (n ∷ ns) seen x m = go (among n seen) (added-only ns (cond (among n seen) seen (n ∷ seen)) x m)
  where
    go : (b : Bool) → Memᴰ x ns ⊎ Memᴰ x (cond b seen (n ∷ seen)) → Memᴰ x (n ∷ ns) ⊎ Memᴰ x seen
    go b (inl i) = inl (Memᴰ-tail i)
    go true (inr i) = inr i
    go false (inr i) = elim i [ Memᴰ-head e ↦ inl (Memᴰ-head e) | Memᴰ-tail q ↦ inr q ]

-- ---- how many are kept

keep-fewer : (p q : Driver → Bool) (ds : List Driver) → ((d : Driver) → Memᴰ d ds → p d ≡ true → q d ≡ true) → length (keep p ds) ≤ length (keep q ds)
unfolding keep
keep-fewer p q [] h = le_refl 0
keep-fewer p q (d ∷ ds) h = by_bool (p d) (λ e. rw e (by_bool (q d)
    (λ f. rw f (omega (arith, keep-fewer p q ds (λ x m. h x (Memᴰ-tail m)))))
    (λ r. rw r (absurd (true≢false (sym (h d (Memᴰ-head refl) e) ∙ r)))))) (λ z. rw z (by_bool (q d)
    (λ w. rw w (omega (arith, keep-fewer p q ds (λ x m. h x (Memᴰ-tail m)))))
    (λ u. rw u (keep-fewer p q ds (λ x m. h x (Memᴰ-tail m))))))

keep_same : (p q : Driver → Bool) (ds : List Driver) → ((d : Driver) → Memᴰ d ds → p d ≡ true → q d ≡ true) → length (keep q ds) ≤ length (keep p ds)
    → (d : Driver) → Memᴰ d ds → q d ≡ true → p d ≡ true
unfolding keep
keep_same p q (x ∷ ds) h le d m e = go (p x) refl (q x) refl le m (keep_same p q ds (λ y n. h y (Memᴰ-tail n))) (keep-fewer p q ds (λ y n. h y (Memᴰ-tail n)))
  where
    go : (a : Bool) → p x ≡ a → (b : Bool) → q x ≡ b → length (cond b (x ∷ keep q ds) (keep q ds)) ≤ length (cond a (x ∷ keep p ds) (keep p ds)) → Memᴰ d (x ∷ ds)
        → (length (keep q ds) ≤ length (keep p ds) → (y : Driver) → Memᴰ y ds → q y ≡ true → p y ≡ true) → length (keep p ds) ≤ length (keep q ds) → p d ≡ true
    go true f b s r (Memᴰ-head u) more few = ap p u ∙ f
    go true f true s r (Memᴰ-tail n) more few = more (le_of_suc-le-suc r) d n e
    go true f false s r (Memᴰ-tail n) more few = absurd (true≢false (sym (h x (Memᴰ-head refl) f) ∙ s))
    go false f true s r n more few = absurd (omega arith)
    go false f false s r (Memᴰ-head u) more few = absurd (true≢false (sym e ∙ ap q u ∙ s))
    go false f false s r (Memᴰ-tail n) more few = more r d n e
keep_same p q [] h le d m e = elim m [ ]

keep-most : (p : Driver → Bool) (es : List Driver) → length (keep p es) ≤ length es
unfolding keep
keep-most p [] = le_refl 0
keep-most p (e ∷ es) = by_bool (p e) (λ q. rw q (omega (arith, keep-most p es))) (λ r. rw r (omega (arith, keep-most p es)))

-- ---- the closure

module _ (ds : List Driver) where
  uses_of : List (List ℕ) → List (List ℕ)
  uses_of seen = each (λ (d : Driver). d.uses) (keep (λ (d : Driver). among d.net seen) ds)

  step : List (List ℕ) → List (List ℕ)
  step seen = added (uses_of seen) seen

  outside : List (List ℕ) → Driver → Bool
  outside seen d = not (among d.net seen)

  -- what a reached driver uses is reached
  Closed : List (List ℕ) → Type 0
  Closed seen = (d : Driver) → Memᴰ d ds → Memᴰ d.net seen → (n : List ℕ) → Memᴰ n d.uses → Memᴰ n seen

  step-uses : (seen : List (List ℕ)) (d : Driver) → Memᴰ d ds → Memᴰ d.net seen → (n : List ℕ) → Memᴰ n d.uses → Memᴰ n (step seen)
  unfolding step uses_of
  step-uses seen d m i n u = added-has (uses_of seen) seen n
      (each_in (λ (e : Driver). e.uses) (keep_in (λ (e : Driver). among e.net seen) m (rw (among_in d.net seen i) tt)) u)

  step_keeps : (seen : List (List ℕ)) (x : List ℕ) → Memᴰ x seen → Memᴰ x (step seen)
  unfolding step
  step_keeps seen x m = added-keeps (uses_of seen) seen x m

  -- a closed list stays as it is
  step-closed : (seen : List (List ℕ)) → Closed seen → (x : List ℕ) → Memᴰ x (step seen) → Memᴰ x seen
  unfolding step uses_of Closed
  step-closed seen c x m = ⊎_elim (λ i. let o = each_out (λ (e : Driver). e.uses) (keep (λ (e : Driver). among e.net seen) ds) i in
      let k = keep_out (λ (e : Driver). among e.net seen) ds o.1 in c o.0 k.0 (among_out o.0.net seen k.1) x o.2)
      (λ i. i) (added-only (uses_of seen) seen x m)

  closed_stays : (fuel : ℕ) (seen : List (List ℕ)) → Closed seen → Closed (feeding fuel ds seen)
  unfolding feeding step uses_of
  closed_stays zero seen c = c
  closed_stays (suc fuel) seen c = closed_stays fuel (step seen)
      (unfold Closed in (λ d m i n u. step-uses seen d m (step-closed seen c d.net i) n u))

  feeding-keeps : (fuel : ℕ) (seen : List (List ℕ)) (x : List ℕ) → Memᴰ x seen → Memᴰ x (feeding fuel ds seen)
  unfolding feeding step uses_of
  feeding-keeps zero seen x m = m
  feeding-keeps (suc fuel) seen x m = feeding-keeps fuel (step seen) x (step_keeps seen x m)

  count : List (List ℕ) → ℕ
  count seen = length (keep (outside seen) ds)

  -- where no driver is new, the step is closed
  outside_less : (seen : List (List ℕ)) (d : Driver) → outside (step seen) d ≡ true → outside seen d ≡ true
  unfolding outside
  outside_less seen d e = by_bool (among d.net seen) (λ q. rw q (absurd (false≢true
      (ap not (sym (among_in d.net (step seen) (step_keeps seen d.net (among_out d.net seen (subst T (sym q) tt))))) ∙ e))))
      (λ p. rw p)

  stable : (seen : List (List ℕ)) → count seen ≤ count (step seen) → Closed (step seen)
  unfolding count Closed outside
  stable seen le d m i n u = step-uses seen d m (by_bool (among d.net seen) (λ q. among_out d.net seen (subst T (sym q) tt)) (λ e.
      absurd (false≢true (ap not (sym (among_in d.net (step seen) i)) ∙ keep_same (outside (step seen)) (outside seen) ds
      (λ x k. outside_less seen x) le d m (ap not e))))) n u

  feeding-closed : (fuel : ℕ) (seen : List (List ℕ)) → count seen ≤ fuel → Closed (feeding (suc fuel) ds seen)
  unfolding feeding step uses_of
  feeding-closed zero seen h = elim (dec_le (count seen) (count (step seen))) [
    | yes le ↦ stable seen le
    | no lt ↦ absurd (let z : count (step seen) < count seen = lt_of_not-le lt in omega arith)
  ]
  feeding-closed (suc fuel) seen h = elim (dec_le (count seen) (count (step seen))) [
    | yes le ↦ closed_stays (suc fuel) (step seen) (stable seen le)
    | no lt ↦ feeding-closed fuel (step seen) (let z : count (step seen) < count seen = lt_of_not-le lt in omega arith)
  ]

  -- what is closed has all that feeds what it has
  reach : (seen : List (List ℕ)) → Closed seen → (x y : List ℕ) → FeedsNet ds x y → Memᴰ y seen → Memᴰ x seen
  unfolding Closed
  reach seen c x y (directly d m u) i = c d m i x u
  reach seen c x y (through {y = z} d f m u) i = reach seen c x z f (c d m i z u)

  abbrev all_back : Driver → List (List ℕ)
  all_back d = feeding (suc (length ds)) ds (added d.uses [])

  -- a net that feeds itself is found
  pub cycle-found : (same-net : (d e : Driver) → Memᴰ d ds → Memᴰ e ds → d.net ≡ e.net → d ≡ e)
      → (d : Driver) → Memᴰ d ds → FeedsNet ds d.net d.net → on_cycle ds d ≡ true
  unfolding on_cycle
  cycle-found same-net d m f = among_in d.net (all_back d) (begin d.net d.net refl f)
    where
      closed : Closed (all_back d)
      closed = feeding-closed (length ds) (added d.uses []) (unfold count in keep-most (outside (added d.uses [])) ds)

      used : (n : List ℕ) → Memᴰ n d.uses → Memᴰ n (all_back d)
      used n u = feeding-keeps (suc (length ds)) (added d.uses []) n (added-has d.uses [] n u)

      begin : (x y : List ℕ) → y ≡ d.net → FeedsNet ds x y → Memᴰ x (all_back d)
      begin x y e (directly b k u) = used x (subst (λ (z : Driver). Memᴰ x z.uses) (same-net b d k m e) u)
      begin x y e (through {y = z} b h k u) = reach (all_back d) closed x z h (used z (subst (λ (w : Driver). Memᴰ z w.uses) (same-net b d k m e) u))

  -- and nothing else is
  feeding-feeds : (t : List ℕ) (fuel : ℕ) (seen : List (List ℕ)) → ((x : List ℕ) → Memᴰ x seen → FeedsNet ds x t) → (x : List ℕ) → Memᴰ x (feeding fuel ds seen) → FeedsNet ds x t
  unfolding feeding step uses_of
  feeding-feeds t zero seen h x m = h x m
  feeding-feeds t (suc fuel) seen h x m = feeding-feeds t fuel (step seen) (λ y i. ⊎_elim (λ k. let o = each_out (λ (e : Driver). e.uses)
      (keep (λ (e : Driver). among e.net seen) ds) k in let q = keep_out (λ (e : Driver). among e.net seen) ds o.1 in
      join-feeds ds y o.0.net t (directly o.0 q.0 o.2) (h o.0.net (among_out o.0.net seen q.1))) (h y)
      (added-only (uses_of seen) seen y i)) x m

  pub found-cycle : (d : Driver) → Memᴰ d ds → on_cycle ds d ≡ true → FeedsNet ds d.net d.net
  unfolding on_cycle
  found-cycle d m e =
      feeding-feeds d.net (suc (length ds)) (added d.uses []) (λ x i. elim (added-only d.uses [] x i) [ inl u ↦ directly d m u | inr n ↦ absurd (Memᴰ-not-nil n) ])
      d.net (among_out d.net (all_back d) (subst T (sym e) tt))
