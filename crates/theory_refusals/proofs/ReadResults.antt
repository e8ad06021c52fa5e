-- `Exactly`, from what a reading comes to and from what is enough for it.
use Rattle.base.specs.{ℕ, ◌≡◌, refl, sym, ◌∙◌, ap, ap₂, subst, ◌⊎◌, inl, inr, ◌↔◌, ⊎_elim, Bool, true, false, not, T}
use Rattle.model.specs.{Read, holds, fault, next, unless}
use Rattle.promises.specs.{Exactly}
use Rattle.theory_graph.proofs.{is_true, is_false}
use Rattle.theory_text.proofs.{holds-once, fault_never, next_out, in_fault}

-- what a reading comes to, with its reason
pub data Result {A : Type 0} (H : A → Type 0) (F : ℕ → ℕ → Type 0) : Read A → Type 0 where
  held : {a : A} → H a → Result H F (holds a)
  refused : {n k : ℕ} → F n k → Result H F (fault n k)

module _ {A : Type 0} {H : A → Type 0} {F : ℕ → ℕ → Type 0} where
  held_out : (r : Read A) → Result H F r → (a : A) → r ≡ holds a → H a
  held_out (holds b) (held h) a e = subst H (holds-once e) h
  held_out (fault n k) (refused f) a e = absurd (fault_never e)

  refused_out : (r : Read A) → Result H F r → (n k : ℕ) → r ≡ fault n k → F n k
  refused_out (holds b) (held h) n k e = absurd (fault_never (sym e))
  refused_out (fault m j) (refused f) n k e = (in_fault {A = A} F m j f).has n k e

  pub exactly : (r : Read A) → Result H F r → ((a : A) → H a → r ≡ holds a) → ((n k : ℕ) → F n k → r ≡ fault n k) → Exactly H F r
  exactly r s h f = record { accepts = λ a. (held_out r s a, h a); refuses = λ n k. (refused_out r s n k, f n k) }

-- the conditions leave one reading: two readers that meet the same conditions read every text alike
pub exactly_once : {A : Type 0} {H : A → Type 0} {F : ℕ → ℕ → Type 0} (r q : Read A) → Exactly H F r → Exactly H F q → r ≡ q
exactly_once (holds a) q e f = sym ((f.accepts a).1 ((e.accepts a).0 refl))
exactly_once (fault n k) q e f = sym ((f.refuses n k).1 ((e.refuses n k).0 refl))

-- ---- steps forwards

pub unless-yes : {A : Type 0} (b : Bool) (n k : ℕ) (r : Read A) → T b → unless b n k r ≡ r
unfolding unless
unless-yes b n k r t = ap (λ (x : Bool). unless x n k r) (is_true b t)

pub unless_no : {A : Type 0} (b : Bool) (n k : ℕ) (r : Read A) → T (not b) → unless b n k r ≡ fault n k
unfolding unless
unless_no b n k r t = ap (λ (x : Bool). unless x n k r) (is_false b t)

-- a test and its other outcome
pub on : {X : Type 0} (b : Bool) → (T b → X) → (T (not b) → X) → X
on true f g = f tt
on false f g = g tt

pub next-holds : {A : Type 0} (r : Read A) → next r (λ a. holds a) ≡ r
unfolding next
next-holds (holds a) = refl
next-holds (fault n k) = refl

pub next-next : {A B C : Type 0} (r : Read A) (f : A → B) (g : B → C) → next (next r (λ a. holds (f a))) (λ b. holds (g b)) ≡ next r (λ a. holds (g (f a)))
unfolding next
next-next (holds a) f g = refl
next-next (fault n k) f g = refl

pub next-same : {A B : Type 0} (r : Read A) (f g : A → B) → ((a : A) → f a ≡ g a) → next r (λ a. holds (f a)) ≡ next r (λ a. holds (g a))
unfolding next
next-same (holds a) f g e = ap holds (e a)
next-same (fault n k) f g e = refl

pub result-next : {A B : Type 0} {H : A → Type 0} {I : B → Type 0} {F G : ℕ → ℕ → Type 0} (r : Read A) (f : A → B) → ((a : A) → H a → I (f a)) → ((n k : ℕ) → F n k → G n k)
    → Result H F r → Result I G (next r (λ a. holds (f a)))
unfolding next
result-next (holds a) f g h (held x) = held (g a x)
result-next (fault n k) f g h (refused x) = refused (h n k x)

pub result_as : {A : Type 0} {H : A → Type 0} {F : ℕ → ℕ → Type 0} (r q : Read A) → q ≡ r → Result H F r → Result H F q
result_as {H = H} {F = F} r q e x = subst (Result H F) (sym e) x

pub result-map : {A : Type 0} {H I : A → Type 0} {F G : ℕ → ℕ → Type 0} (r : Read A) → ((a : A) → H a → I a) → ((n k : ℕ) → F n k → G n k) → Result H F r → Result I G r
result-map (holds a) g h (held x) = held (g a x)
result-map (fault n k) g h (refused x) = refused (h n k x)

-- ---- readers one behind the other

fault_out : {A B : Type 0} (r : Read A) (f : A → Read B) (n k : ℕ) → next r f ≡ fault n k → (r ≡ fault n k) ⊎ ((a : A) × (r ≡ holds a) × (f a ≡ fault n k))
unfolding next
fault_out (holds a) f n k e = inr (a, refl, e)
fault_out {A} {B} (fault m j) f n k e = inl ((in_fault {A = B} (λ x y. ◌≡◌ {A = Read A} (fault m j) (fault x y)) m j refl).has n k e)

pub next-held : {A B : Type 0} (r : Read A) (f : A → Read B) (a : A) → r ≡ holds a → next r f ≡ f a
unfolding next
next-held {A} r f a e = ap (λ (x : Read A). next x f) e

pub next-fault : {A B : Type 0} (r : Read A) (f : A → Read B) (n k : ℕ) → r ≡ fault n k → next r f ≡ fault n k
unfolding next
next-fault {A} r f n k e = ap (λ (x : Read A). next x f) e

pub exactly_next : {A B : Type 0} {H : A → Type 0} {F : ℕ → ℕ → Type 0} (I : (a : A) → H a → B → Type 0) (G : (a : A) → H a → ℕ → ℕ → Type 0) (r : Read A) (f : A → Read B) → Exactly H F r
    → ((a : A) (x : H a) → Exactly (I a x) (G a x) (f a)) → Exactly (λ b. (a : A) × (x : H a) × I a x b) (λ n k. F n k ⊎ ((a : A) × (x : H a) × G a x n k)) (next r f)
exactly_next {A} {B} {H} {F} I G r f e g = record {
  accepts = λ b. (there b, (λ u. next-held r f u.0 ((e.accepts u.0).1 u.1) ∙ ((g u.0 u.1).accepts b).1 u.2));
  refuses = λ n k. (
    down n k,
    (λ y. ⊎_elim
        (λ z. next-fault r f n k ((e.refuses n k).1 z))
        (λ q. next-held r f q.0 ((e.accepts q.0).1 q.1) ∙ ((g q.0 q.1).refuses n k).1 q.2) y),
  );
}
  where
    there : (b : B) → next r f ≡ holds b → (a : A) × (x : H a) × I a x b
    there b q = let o = next_out r f b q in let x = (e.accepts o.0).0 o.1 in (o.0, x, ((g o.0 x).accepts b).0 o.2)

    down : (n k : ℕ) → next r f ≡ fault n k → F n k ⊎ ((a : A) × (x : H a) × G a x n k)
    down n k q = go (fault_out r f n k q)
      where
        go : (r ≡ fault n k) ⊎ ((a : A) × (r ≡ holds a) × (f a ≡ fault n k)) → F n k ⊎ ((a : A) × (x : H a) × G a x n k)
        go (inl z) = inl ((e.refuses n k).0 z)
        go (inr z) = let x = (e.accepts z.0).0 z.1 in inr (z.0, x, ((g z.0 x).refuses n k).0 z.2)

-- a condition that a test decides, and what is read where it holds
pub exactly_unless : {A : Type 0} {H : A → Type 0} {F : ℕ → ℕ → Type 0} (P : Type 0) (b : Bool) (m j : ℕ) (r : Read A) → (T b → P) → (P → T b) → Exactly H F r
    → Exactly (λ a. P × H a) (λ n k. ((¬ P) × (n ≡ m) × (k ≡ j)) ⊎ (P × F n k)) (unless b m j r)
exactly_unless {A} {H} {F} P b m j r there back e = on b yes? no?
  where
    yes? : T b → Exactly (λ a. P × H a) (λ n k. ((¬ P) × (n ≡ m) × (k ≡ j)) ⊎ (P × F n k)) (unless b m j r)
    yes? t = record {
      accepts = λ a. ((λ q. (there t, (e.accepts a).0 (sym (unless-yes b m j r t) ∙ q))), λ p. unless-yes b m j r t ∙ (e.accepts a).1 p.1);
      refuses = λ n k. (
        (λ q. inr (there t, (e.refuses n k).0 (sym (unless-yes b m j r t) ∙ q))),
        (λ x. ⊎_elim (λ z. absurd (z.0 (there t))) (λ w. unless-yes b m j r t ∙ (e.refuses n k).1 w.1) x),
      );
    }

    no? : T (not b) → Exactly (λ a. P × H a) (λ n k. ((¬ P) × (n ≡ m) × (k ≡ j)) ⊎ (P × F n k)) (unless b m j r)
    no? t = record {
      accepts = λ a. ((λ q. absurd (fault_never (sym (unless_no b m j r t) ∙ q))), λ p. absurd (lib.Dec.T_not b t (back p.0)));
      refuses = λ n k. ((λ q. down n k (sym (unless_no b m j r t) ∙ q)), up n k);
    }
      where
        down : (n k : ℕ) → ◌≡◌ {A = Read A} (fault m j) (fault n k) → ((¬ P) × (n ≡ m) × (k ≡ j)) ⊎ (P × F n k)
        down n k q = (in_fault {A = A} (λ x y. ((¬ P) × (x ≡ m) × (y ≡ j)) ⊎ (P × F x y)) m j (inl ((λ p. lib.Dec.T_not b t (back p)), refl, refl))).has n k q

        up : (n k : ℕ) → ((¬ P) × (n ≡ m) × (k ≡ j)) ⊎ (P × F n k) → unless b m j r ≡ fault n k
        up n k (inl x) = unless_no b m j r t ∙ ap₂ (λ (u v : ℕ). fault u v) (sym x.1) (sym x.2)
        up n k (inr x) = absurd (lib.Dec.T_not b t (back x.0))

pub exactly_holds : {A : Type 0} (a : A) → Exactly (λ b. a ≡ b) (λ n k. ⊥) (holds a)
exactly_holds a = record { accepts = λ b. (holds-once, ap holds); refuses = λ n k. ((λ q. fault_never (sym q)), absurd) }

pub exactly_map : {A : Type 0} {H I : A → Type 0} {F G : ℕ → ℕ → Type 0} (r : Read A) → ((a : A) → H a ↔ I a) → ((n k : ℕ) → F n k ↔ G n k) → Exactly H F r → Exactly I G r
exactly_map r h f e = record {
  accepts = λ a. ((λ q. (h a).0 ((e.accepts a).0 q)), λ p. (e.accepts a).1 ((h a).1 p));
  refuses = λ n k. ((λ q. (f n k).0 ((e.refuses n k).0 q)), λ p. (e.refuses n k).1 ((f n k).1 p));
}
