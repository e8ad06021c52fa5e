-- Backwards through the steps of a reader: what holds where a step was passed.
use Rattle.base.specs.{ℕ, suc, ◌≤◌, ◌≡◌, refl, sym, ◌∙◌, ap, subst, Bool, true, false, ◌&&◌, false≢true, Option, None, Some, List, [], ◌∷◌}
use Rattle.base.specs.{Memᴰ, Memᴰ-not-nil, T, leb, length, and_yes, leb_yes}
use Rattle.model.specs.{same, and_then, only, as_digits, decimal, number, numbers, Read, holds, fault, next, unless, from?}
use Rattle.theory_graph.proofs.{by_member}

module _ {A : Type 0} where
  is_held : Read A → Bool
  is_held (holds a) = true
  is_held (fault n k) = false

  held : A → Read A → A
  held d (holds a) = a
  held d (fault n k) = d

  pub holds-once : {a b : A} → holds a ≡ holds b → a ≡ b
  unfolding held
  holds-once {a} {b} e = ap (held a) e

  pub fault_never : {n k : ℕ} {a : A} → fault n k ≡ holds a → ⊥
  unfolding is_held
  fault_never {a = a} e = false≢true (ap is_held e)

  pub unless_out : (b : Bool) (n k : ℕ) (r : Read A) (a : A) → unless b n k r ≡ holds a → T b × (r ≡ holds a)
  unfolding unless
  unless_out true n k r a e = (tt, e)
  unless_out false n k r a e = absurd (fault_never e)

  pub from_out : (o : Option A) (n k : ℕ) (a : A) → from? o n k ≡ holds a → o ≡ Some a
  unfolding from?
  from_out None n k a e = absurd (fault_never e)
  from_out (Some b) n k a e = ap Some (holds-once e)

pub next_out : {A B : Type 0} (r : Read A) (f : A → Read B) (b : B) → next r f ≡ holds b → (a : A) × (r ≡ holds a) × (f a ≡ holds b)
unfolding next
next_out (holds a) f b e = (a, refl, e)
next_out (fault n k) f b e = absurd (fault_never e)

is_some : {A : Type 0} → Option A → Bool
is_some None = false
is_some (Some a) = true

pub then_out : {A B : Type 0} (o : Option A) (f : A → Option B) (b : B) → and_then o f ≡ Some b → (a : A) × (o ≡ Some a) × (f a ≡ Some b)
unfolding and_then is_some
then_out None f b e = absurd (false≢true (ap is_some e))
then_out (Some a) f b e = (a, refl, e)

pub only_out : {A : Type 0} (t : Bool) (x a : A) → only t x ≡ Some a → T t × (x ≡ a)
unfolding only is_some
only_out true x a e = (tt, cc)
only_out false x a e = absurd (false≢true (ap is_some e))

pub only_yes : {A : Type 0} (b : Bool) (a : A) → T b → only b a ≡ Some a
unfolding only
only_yes true a t = refl
only_yes false a t = absurd t

-- ---- numbers

pub numbers-length : (ws : List (List ℕ)) (ns : List ℕ) → numbers ws ≡ Some ns → length ns ≡ length ws
unfolding numbers
numbers-length [] ns e = let q : ◌≡◌ {A = List ℕ} [] ns = cc in ap length (sym q)
numbers-length (w ∷ ws) ns e =
    let a = then_out (number w) (λ n. and_then (numbers ws) (λ ms. Some (n ∷ ms))) ns e in
    let b = then_out (numbers ws) (λ ms. Some (a.0 ∷ ms)) ns a.2 in
    let q : a.0 ∷ b.0 ≡ ns = cc in
    ap length (sym q) ∙ ap suc (numbers-length ws b.0 b.1)

-- a number is at most 65,535
number_small : (w : List ℕ) (n : ℕ) → number w ≡ Some n → n ≤ 65535
unfolding number
number_small w n e =
    let t = only_out (leb (as_digits 0 w) 65535 && same w (decimal (as_digits 0 w))) (as_digits 0 w) n e in
    subst (λ (m : ℕ). m ≤ 65535) t.1 (leb_yes (and_yes (leb (as_digits 0 w) 65535) (same w (decimal (as_digits 0 w))) t.0).0)

pub numbers-small : (ws : List (List ℕ)) (ns : List ℕ) → numbers ws ≡ Some ns → (n : ℕ) → Memᴰ n ns → n ≤ 65535
unfolding numbers
numbers-small [] ns e n m = let q : ◌≡◌ {A = List ℕ} [] ns = cc in absurd (Memᴰ-not-nil (subst (λ (xs : List ℕ). Memᴰ n xs) (sym q) m))
numbers-small (w ∷ ws) ns e n m =
    let a = then_out (number w) (λ k. and_then (numbers ws) (λ ks. Some (k ∷ ks))) ns e in
    let b = then_out (numbers ws) (λ ks. Some (a.0 ∷ ks)) ns a.2 in
    let q : a.0 ∷ b.0 ≡ ns = cc in
    by_member (rw q m) (λ p. rw p (number_small w a.0 a.1)) (numbers-small ws b.0 b.1 n)
