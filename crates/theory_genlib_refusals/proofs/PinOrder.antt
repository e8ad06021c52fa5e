-- "Pins take their order of first appearance": the list of pins is the one whose names are the expression's, each once, and of two the first stands earlier;
-- no other list is so.
use Rattle.base.specs.{ℕ, zero, suc, ◌+◌, ◌<◌, arith, ◌≡◌, refl, sym, ◌∙◌, ap, ap₂, subst, ◌⊎◌, inl, inr, ◌↔◌, ⊎_elim, Bool, cond, List, []}
use Rattle.base.specs.{◌∷◌, ◌++◌, append_assoc, append-nil, Memᴰ, Memᴰ-head, Memᴰ-tail, Memᴰ-not-nil}
use Rattle.base.specs.{Memᴰ-append_cases, Memᴰ-append_left, Memᴰ-append_right, T, T_not, length, length-append, or_yes}
use Rattle.model.specs.{any, same, Distinct, is_pin, with_name, add_pins, pins_of}
use Rattle.theory_graph.proofs.{same-eq, same_refl, is_true, is_false, append_distinct, by_member}
use Rattle.theory_order.proofs.{split_at, nil_split, cons_head, cons_tail}
use Rattle.theory_refusals.proofs.{on, yes_or}
use Rattle.promises.specs.GateForms.{PinName, Earlier, Ascending, InOrder}
use Rattle.theory_genlib_refusals.proofs.WordForms.{pin_form, pin-back}

-- ---- the test of a name in a list

any_in : (t : List ℕ) (xs : List (List ℕ)) → T (any (same t) xs) → Memᴰ t xs
unfolding any
any_in t [] h = absurd h
any_in t (x ∷ xs) h = ⊎_elim (λ e. Memᴰ-head (same-eq t x e)) (λ m. Memᴰ-tail (any_in t xs m))
    (or_yes (same t x) (any (same t) xs) h)

in_any : (t : List ℕ) (xs : List (List ℕ)) → Memᴰ t xs → T (any (same t) xs)
unfolding any
in_any t (x ∷ xs) (Memᴰ-head e) = yes_or (same t x) (any (same t) xs) (inl (subst (λ (y : List ℕ). T (same t y)) e (same_refl t)))
in_any t (x ∷ xs) (Memᴰ-tail m) = yes_or (same t x) (any (same t) xs) (inr (in_any t xs m))
in_any t [] x' = elim x' [ ]

-- ---- a token more

module _ {A : Type 0} where
  snoc_split : (xs : List A) (t : A) (s : List A) (q : A) (u : List A) → xs ++ (t ∷ []) ≡ s ++ (q ∷ u) → ((xs ≡ s) × (q ≡ t)) ⊎ ((v : List A) × (xs ≡ s ++ (q ∷ v)))
  snoc_split [] t [] q u e = inl (refl, sym (cons_head e))
  snoc_split [] t (y ∷ s) q u e = absurd (nil_split s q u (cons_tail e))
  snoc_split (x ∷ xs) t [] q u e = inr (xs, ap (λ (z : A). z ∷ xs) (cons_head e))
  snoc_split (x ∷ xs) t (y ∷ s) q u e = ⊎_elim (λ p. inl (ap₂ (λ (a : A) (b : List A). a ∷ b) (cons_head e) p.0, p.1))
      (λ r. inr (r.0, ap₂ (λ (a : A) (b : List A). a ∷ b) (cons_head e) r.1)) (snoc_split xs t s q u (cons_tail e))

  only_one : {a t : A} → Memᴰ a (t ∷ []) → a ≡ t
  only_one (Memᴰ-head e) = e
  only_one (Memᴰ-tail m) = absurd (Memᴰ-not-nil m)

earlier_more : (ts : List (List ℕ)) (t p q : List ℕ) → Earlier ts p q → Memᴰ p ts → Earlier (ts ++ (t ∷ [])) p q
earlier_more ts t p q f m s u e = ⊎_elim (λ x. rw (← x.0) m) (λ r. f s r.0 r.1) (snoc_split ts t s q u e)

ascending_more : (ts : List (List ℕ)) (t : List ℕ) (ps : List (List ℕ)) → ((p : List ℕ) → Memᴰ p ps → Memᴰ p ts) → Ascending ts ps → Ascending (ts ++ (t ∷ [])) ps
ascending_more ts t [] h f = tt
ascending_more ts t (p ∷ ps) h f =
    ((λ q m. earlier_more ts t p q (f.0 q m) (h p (Memᴰ-head refl))), ascending_more ts t ps (λ q m. h q (Memᴰ-tail m)) f.1)

ascending_last : (ts : List (List ℕ)) (t : List ℕ) (ps : List (List ℕ)) → ((p : List ℕ) → Memᴰ p ps → Earlier ts p t) → Ascending ts ps → Ascending ts (ps ++ (t ∷ []))
ascending_last ts t [] h f = ((λ q m. absurd (Memᴰ-not-nil m)), tt)
ascending_last ts t (p ∷ ps) h f =
    let first : (q : List ℕ) → Memᴰ q (ps ++ (t ∷ [])) → Earlier ts p q = λ q m. ⊎_elim (λ n. f.0 q n)
    (λ e. subst (λ (x : List ℕ). Earlier ts p x) (sym (only_one e)) (h p (Memᴰ-head refl))) (Memᴰ-append_cases ps m) in
    (first, ascending_last ts t ps (λ q m. h q (Memᴰ-tail m)) f.1)

module _ (done seen : List (List ℕ)) (t : List ℕ) (o : InOrder done seen) where
  among : (p : List ℕ) → Memᴰ p seen → Memᴰ p done
  among p m = ((o.pins p).0 m).0

  -- the token is no pin, or one that was seen
  pub kept : ((p : List ℕ) → p ≡ t → PinName p → Memᴰ p seen) → InOrder (done ++ (t ∷ [])) seen
  kept h =
      let there : (p : List ℕ) → Memᴰ p seen → Memᴰ p (done ++ (t ∷ [])) × PinName p = λ p m.
      (Memᴰ-append_left (t ∷ []) ((o.pins p).0 m).0, ((o.pins p).0 m).1) in
      let back : (p : List ℕ) → Memᴰ p (done ++ (t ∷ [])) × PinName p → Memᴰ p seen = λ p x. ⊎_elim (λ m. (o.pins p).1 (m, x.1))
      (λ q. h p (only_one q) x.1) (Memᴰ-append_cases done x.0) in
      record { pins = λ p. (there p, back p); once = o.once; order = ascending_more done t seen among o.order }

  added : PinName t → (¬ Memᴰ t seen) → InOrder (done ++ (t ∷ [])) (seen ++ (t ∷ []))
  added n new = record {
    pins = λ p. (there p, back p);
    once = append_distinct seen (t ∷ []) o.once (Memᴰ-not-nil, tt) (λ x m k. new (subst (λ (y : List ℕ). Memᴰ y seen) (only_one k) m));
    order = ascending_last (done ++ (t ∷ [])) t seen last (ascending_more done t seen among o.order);
  }
    where
      there : (p : List ℕ) → Memᴰ p (seen ++ (t ∷ [])) → Memᴰ p (done ++ (t ∷ [])) × PinName p
      there p m = ⊎_elim (λ k. (Memᴰ-append_left (t ∷ []) ((o.pins p).0 k).0, ((o.pins p).0 k).1))
          (λ q. (Memᴰ-append_right done q, subst PinName (sym (only_one q)) n)) (Memᴰ-append_cases seen m)

      back : (p : List ℕ) → Memᴰ p (done ++ (t ∷ [])) × PinName p → Memᴰ p (seen ++ (t ∷ []))
      back p x = ⊎_elim (λ m. Memᴰ-append_left (t ∷ []) ((o.pins p).1 (m, x.1))) (Memᴰ-append_right seen)
          (Memᴰ-append_cases done x.0)

      last : (p : List ℕ) → Memᴰ p seen → Earlier (done ++ (t ∷ [])) p t
      last p m s u e = go (snoc_split done t s t u e)
        where
          go : ((done ≡ s) × (t ≡ t)) ⊎ ((v : List (List ℕ)) × (done ≡ s ++ (t ∷ v))) → Memᴰ p s
          go (inl x) = subst (λ (y : List (List ℕ)). Memᴰ p y) x.0 (among p m)
          go (inr x) = absurd (new ((o.pins t).1 (subst (λ (y : List (List ℕ)). Memᴰ t y) (sym x.1) (Memᴰ-append_right s (Memᴰ-head refl)), n)))

  step : InOrder (done ++ (t ∷ [])) (cond (is_pin t) (with_name seen t) seen)
  unfolding with_name
  step = on (is_pin t) pin (λ y. rw (is_false (is_pin t) y) (kept (λ p e n. absurd (T_not (is_pin t) y (pin-back t (rw e at n))))))
    where
      pin : T (is_pin t) → InOrder (done ++ (t ∷ [])) (cond (is_pin t) (with_name seen t) seen)
      pin y = unfold with_name in subst (λ (b : Bool). InOrder (done ++ (t ∷ [])) (cond b (with_name seen t) seen)) (sym (is_true (is_pin t) y)) (on (any (same t) seen) old
          (λ k. subst (λ (b : Bool). InOrder (done ++ (t ∷ [])) (cond b seen (seen ++ (t ∷ [])))) (sym (is_false (any (same t) seen) k))
          (added (pin_form t y) (λ m. T_not (any (same t) seen) k (in_any t seen m)))))
        where
          old : T (any (same t) seen) → InOrder (done ++ (t ∷ [])) (cond (any (same t) seen) seen (seen ++ (t ∷ [])))
          old k =
              subst (λ (b : Bool). InOrder (done ++ (t ∷ [])) (cond b seen (seen ++ (t ∷ [])))) (sym (is_true (any (same t) seen) k))
              (kept (λ p e n. subst (λ (x : List ℕ). Memᴰ x seen) (sym e) (any_in t seen k)))

adds : (done seen ts : List (List ℕ)) → InOrder done seen → InOrder (done ++ ts) (add_pins seen ts)
unfolding add_pins
adds done seen [] o = subst (λ (x : List (List ℕ)). InOrder x seen) (sym (append-nil done)) o
adds done seen (t ∷ ts) o =
    rw (← append_assoc done (t ∷ []) ts) (adds (done ++ (t ∷ [])) (cond (is_pin t) (with_name seen t) seen) ts (step done seen t o))

pub pins-order : (ts : List (List ℕ)) → InOrder ts (pins_of ts)
unfolding pins_of
pins-order ts = adds [] [] ts (record { pins = λ p. ((λ m. absurd (Memᴰ-not-nil m)), λ x. absurd (Memᴰ-not-nil x.0)); once = tt; order = tt })

-- ---- no other list

-- two names cannot each stand before the other
no_cycle_lem : (ts : List (List ℕ)) (p q : List ℕ) → Earlier ts p q → Earlier ts q p → (n : ℕ) (s u : List (List ℕ)) → length s < n → ts ≡ s ++ (p ∷ u) → ⊥
no_cycle_lem ts p q f g zero s u h e = absurd (omega arith)
no_cycle_lem ts p q f g (suc n) s u h e =
    let a = split_at s (g s u e) in
    let e2 : ts ≡ a.0 ++ (q ∷ (a.1 ++ (p ∷ u))) = e ∙ ap (λ (x : List (List ℕ)). x ++ (p ∷ u)) a.2 ∙ append_assoc a.0 (q ∷ a.1) (p ∷ u) in
    let b = split_at a.0 (f a.0 (a.1 ++ (p ∷ u)) e2) in
    let e3 : ts ≡ b.0 ++ (p ∷ (b.1 ++ (q ∷ (a.1 ++ (p ∷ u))))) = e2 ∙ ap (λ (x : List (List ℕ)). x ++ (q ∷ (a.1 ++ (p ∷ u)))) b.2 ∙ append_assoc b.0 (p ∷ b.1) (q ∷ (a.1 ++ (p ∷ u))) in
    let l1 : length s ≡ length a.0 + length (q ∷ a.1) = ap length a.2 ∙ length-append a.0 (q ∷ a.1) in
    let l2 : length a.0 ≡ length b.0 + length (p ∷ b.1) = ap length b.2 ∙ length-append b.0 (p ∷ b.1) in
    no_cycle_lem ts p q f g n b.0 (b.1 ++ (q ∷ (a.1 ++ (p ∷ u)))) (omega arith) e3

one-order : (ts ps qs : List (List ℕ)) → ((p : List ℕ) → Memᴰ p ps → Memᴰ p ts) → ((p : List ℕ) → Memᴰ p ps → Memᴰ p qs) → ((p : List ℕ) → Memᴰ p qs → Memᴰ p ps)
    → Distinct ps → Distinct qs → Ascending ts ps → Ascending ts qs → ps ≡ qs
one-order ts [] [] h f g d k a b = refl
one-order ts [] (q ∷ qs) h f g d k a b = absurd (Memᴰ-not-nil (g q (Memᴰ-head refl)))
one-order ts (p ∷ ps) [] h f g d k a b = absurd (Memᴰ-not-nil (f p (Memᴰ-head refl)))
one-order ts (p ∷ ps) (q ∷ qs) h f g d k a b = ap₂ (λ (x : List ℕ) (y : List (List ℕ)). x ∷ y) first (one-order ts ps qs (λ x m. h x (Memᴰ-tail m)) forth back d.1 k.1 a.1 b.1)
  where
    first : p ≡ q
    first = by_member (f p (Memᴰ-head refl)) (λ e. e) (λ m. by_member (g q (Memᴰ-head refl)) sym (λ n. let s = split_at ts
        (h p (Memᴰ-head refl)) in absurd
        (no_cycle_lem ts p q (a.0 q n) (b.0 p m) (suc (length s.0)) s.0 s.1 (omega arith) s.2)))

    forth : (x : List ℕ) → Memᴰ x ps → Memᴰ x qs
    forth x m = elim (f x (Memᴰ-tail m)) [ Memᴰ-head e ↦ absurd (d.0 (rw (← e ∙ sym first) m)) | Memᴰ-tail n ↦ n ]

    back : (x : List ℕ) → Memᴰ x qs → Memᴰ x ps
    back x m = go (g x (Memᴰ-tail m))
      where
        go : Memᴰ x (p ∷ ps) → Memᴰ x ps
        go (Memᴰ-head e) = absurd (k.0 (subst (λ (y : List ℕ). Memᴰ y qs) (e ∙ first) m))
        go (Memᴰ-tail n) = n

pub order-once : (ts ps qs : List (List ℕ)) → InOrder ts ps → InOrder ts qs → ps ≡ qs
order-once ts ps qs o r =
    one-order ts ps qs (λ p m. ((o.pins p).0 m).0) (λ p m. (r.pins p).1 ((o.pins p).0 m)) (λ p m. (o.pins p).1 ((r.pins p).0 m)) o.once r.once o.order r.order

pub pins_exactly : (ts ps : List (List ℕ)) → (pins_of ts ≡ ps) ↔ InOrder ts ps
pins_exactly ts ps = ((λ e. subst (InOrder ts) e (pins-order ts)), λ o. order-once ts (pins_of ts) ps (pins-order ts) o)
