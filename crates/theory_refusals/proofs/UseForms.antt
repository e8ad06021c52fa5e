-- 14 comes exactly where a line uses an undefined variable, at the first such line.
use mir.Facts.{not_T}
use Rattle.base.specs.{ℕ, ◌≡◌, refl, sym, ◌∙◌, ap, subst, ⊎_elim, Bool, not, List, [], ◌∷◌, ◌++◌, append-nil, append_assoc, Memᴰ}
use Rattle.base.specs.{Memᴰ-head, Memᴰ-tail, Memᴰ-not-nil, Memᴰ-append_cases, Memᴰ-append_left, T, drop, and_no}
use Rattle.model.specs.{all, elem, Read, holds, fault, next, var_of, Kind, an_input, an_output, an_and, defines, Item, uses, defined_by}
use Rattle.model.specs.{check_uses}
use Rattle.promises.specs.{Exactly, Defining, input_defines, and_defines, first_var, DefinedBy, Using, output_uses, and_uses, Stray, FirstStray}
use Rattle.theory_graph.proofs.{is_true, all_of, elem_out, elem-T, by_bool, by_member}
use Rattle.theory_refusals.proofs.ReadResults.{Result, held, refused, exactly, unless-yes, unless_no, on, next-holds, next-next}
use Rattle.theory_refusals.proofs.ReadResults.{result-next, result_as}

-- an input's line has its literal alone
abbrev pub Shaped : Item → Type 0
Shaped i = i.kind ≡ an_input → drop 1 i.literals ≡ []

uses_in : (k : Kind) (at : ℕ) (ls : List ℕ) → (k ≡ an_input → drop 1 ls ≡ []) → (l : ℕ) → Memᴰ l (uses (record { kind = k; offset = at; literals = ls }))
    → Using (record { kind = k; offset = at; literals = ls }) l
unfolding uses defines
uses_in an_input at ls s l m = absurd (Memᴰ-not-nil (subst (λ (xs : List ℕ). Memᴰ l xs) (s refl) m))
uses_in an_output at ls s l m = output_uses m
uses_in an_and at [] s l m = absurd (Memᴰ-not-nil m)
uses_in an_and at (x ∷ ls) s l m = and_uses m

uses_out : {i : Item} {l : ℕ} → Using i l → Memᴰ l (uses i)
unfolding uses defines
uses_out (output_uses m) = m
uses_out (and_uses m) = m

-- the variables noted are those defined
known_in : (is : List Item) (v : ℕ) → Memᴰ v (defined_by is) → DefinedBy is v
unfolding defined_by
known_in [] v m = absurd (Memᴰ-not-nil m)
known_in (i ∷ is) v m = by_bool (defines i.kind) (λ e. by_member (rw e at m)
    (λ q. (i, Memᴰ-head refl, ((rw e at (kind-defines i.kind)) tt), q)) (λ n. later (known_in is v n)))
    (λ q. later (known_in is v (rw q at m)))
  where
    kind-defines : (k : Kind) → T (defines k) → Defining k
    kind-defines an_input t = input_defines
    kind-defines an_output t = absurd t
    kind-defines an_and t = and_defines

    later : DefinedBy is v → DefinedBy (i ∷ is) v
    later d = (d.0, Memᴰ-tail d.1, d.2, d.3)

known_out : (is : List Item) (v : ℕ) (i : Item) → Memᴰ i is → Defining i.kind → v ≡ first_var i.literals → Memᴰ v (defined_by is)
unfolding defined_by
known_out (j ∷ is) v i (Memᴰ-head q) d e = by_bool (defines j.kind)
    (λ p. rw p (Memᴰ-head (e ∙ ap (λ (x : Item). first_var x.literals) q))) (λ r. rw r (absurd (rw r at (defined (rw q at d)))))
  where
    defined : {k : Kind} → Defining k → T (defines k)
    defined input_defines = tt
    defined and_defines = tt
known_out (j ∷ is) v i (Memᴰ-tail m) d e = by_bool (defines j.kind) (λ q. rw q (Memᴰ-tail (known_out is v i m d e)))
    (λ p. rw p (known_out is v i m d e))
known_out [] v i x3 d e = elim x3 [ ]

-- ---- the test of a line

abbrev is_defined : List Item → Item → Bool
is_defined is i = all (λ (l : ℕ). elem (var_of l) (0 ∷ defined_by is)) (uses i)

not-all : (p : ℕ → Bool) (xs : List ℕ) → T (not (all p xs)) → (x : ℕ) × Memᴰ x xs × T (not (p x))
unfolding all
not-all p [] t = absurd t
not-all p (x ∷ xs) t = ⊎_elim (λ u. (x, Memᴰ-head refl, u)) (λ q. let r = (not-all p xs) q in (r.0, Memᴰ-tail r.1, r.2))
    (and_no (p x) (all p xs) t)

stray_form : (is : List Item) (i : Item) → Shaped i → T (not (is_defined is i)) → Stray is i
stray_form is i s t =
    let r = not-all (λ (l : ℕ). elem (var_of l) (0 ∷ defined_by is)) (uses i) t in
    let out : (m : Memᴰ (var_of r.0) (0 ∷ defined_by is)) → ⊥ = λ m. lib.Dec.T_not (elem (var_of r.0) (0 ∷ defined_by is)) r.2 (elem-T (var_of r.0) (0 ∷ defined_by is) m) in
    (r.0, uses_in i.kind i.offset i.literals s r.0 r.1, (λ e. out (Memᴰ-head e)), (λ d. out (Memᴰ-tail (known_out is (var_of r.0) d.0 d.1 d.2 d.3))))

stray_not : (is : List Item) (i : Item) → T (is_defined is i) → ¬ Stray is i
stray_not is i t s = elim (elem_out (var_of s.0) (0 ∷ defined_by is) (is_true (elem (var_of s.0) (0 ∷ defined_by is)) (all_of
    (λ (l : ℕ). elem (var_of l) (0 ∷ defined_by is)) (uses i) t s.0
    (uses_out s.1)))) [ Memᴰ-head e ↦ s.2 e | Memᴰ-tail m ↦ s.3 (known_in is (var_of s.0) m) ]

-- ---- the lines

-- no line is stray, and the lines are handed on
abbrev pub AllDefined : List Item → List Item → Type 0
AllDefined is js = (js ≡ is) × ((i : Item) → Memᴰ i is → ¬ Stray is i)

module _ (is : List Item) where
  abbrev check : List Item → Read (List Item)
  check = check_uses (defined_by is)

  check_passes : (i : Item) (js : List Item) → Shaped i → (¬ Stray is i) → check (i ∷ js) ≡ next (check js) (λ xs. holds (i ∷ xs))
  unfolding check_uses
  check_passes i js s n = unless-yes (is_defined is i) 14 i.offset _ (on (is_defined is i) (λ t. t) (λ t. absurd (n (stray_form is i s t))))

  check_fails : (i : Item) (js : List Item) → Stray is i → check (i ∷ js) ≡ fault 14 i.offset
  unfolding check_uses
  check_fails i js s = unless_no (is_defined is i) 14 i.offset _ (not_T (is_defined is i) (λ t. stray_not is i t s))

  check_skips : (xs ys : List Item) → ((i : Item) → Memᴰ i xs → Shaped i) → ((i : Item) → Memᴰ i xs → ¬ Stray is i) → check (xs ++ ys) ≡ next (check ys) (λ js. holds (xs ++ js))
  check_skips [] ys s n = sym (next-holds (check ys))
  check_skips (x ∷ xs) ys s n = cc (
    check_passes x (xs ++ ys) (s x (Memᴰ-head refl)) (n x (Memᴰ-head refl)),
    check_skips xs ys
        (λ i m. s i (Memᴰ-tail m)) (λ i m. n i (Memᴰ-tail m)),
    next-next (check ys) (λ js. xs ++ js) (λ js. x ∷ js),
  )

  check-result : (rest before : List Item) → is ≡ before ++ rest → ((i : Item) → Memᴰ i rest → Shaped i) → ((i : Item) → Memᴰ i before → ¬ Stray is i)
      → Result (λ js. (js ≡ rest) × ((i : Item) → Memᴰ i rest → ¬ Stray is i)) (λ n k. (n ≡ 14) × FirstStray is k) (check rest)
  unfolding check_uses
  check-result [] before e s n = held (refl, λ i m. absurd (Memᴰ-not-nil m))
  check-result (i ∷ rest) before e s n = on (is_defined is i) (λ t. goes t (check-result rest)) (λ t. fails (stray_form is i (s i (Memᴰ-head refl)) t))
    where
      Here : Read (List Item) → Type 0
      Here = Result (λ js. (js ≡ i ∷ rest) × ((x : Item) → Memᴰ x (i ∷ rest) → ¬ Stray is x)) (λ n k. (n ≡ 14) × FirstStray is k)

      fails : Stray is i → Here (check (i ∷ rest))
      fails x = result_as (fault 14 i.offset) (check (i ∷ rest)) (check_fails i rest x) (refused (refl, record { before = before; item = i; later = rest; split = e; is_stray = x; none_before = n; is_place = refl }))

      goes : T (is_defined is i) → ((before' : List Item) → is ≡ before' ++ rest → ((x : Item) → Memᴰ x rest → Shaped x) → ((x : Item) → Memᴰ x before' → ¬ Stray is x)
          → Result (λ js. (js ≡ rest) × ((x : Item) → Memᴰ x rest → ¬ Stray is x)) (λ n k. (n ≡ 14) × FirstStray is k) (check rest)) → Here (check (i ∷ rest))
      goes t ih =
          let h : ¬ Stray is i = stray_not is i t in
          result_as (next (check rest) (λ js. holds (i ∷ js))) (check (i ∷ rest)) (check_passes i rest (s i (Memᴰ-head refl)) h)
          (result-next (check rest) (λ js. i ∷ js) (λ js x. (
            ap (λ (ys : List Item). i ∷ ys) x.0,
            (λ y z. elim z [ Memᴰ-head q ↦ λ y. h (subst (Stray is) q y) | Memᴰ-tail p ↦ x.1 y p ]),
          )) (λ m k x. x)
          (ih (before ++ (i ∷ [])) (e ∙ sym (append_assoc before (i ∷ []) rest)) (λ x m. s x (Memᴰ-tail m)) (λ x m. ⊎_elim (n x)
          (λ p. by_member p (λ r. λ y. h (subst (Stray is) r y)) (λ z. absurd (Memᴰ-not-nil z))) (Memᴰ-append_cases before m))))

  check-refused : ((i : Item) → Memᴰ i is → Shaped i) → (n k : ℕ) → (n ≡ 14) × FirstStray is k → check is ≡ fault n k
  unfolding next
  check-refused s n k h = cc (
    h.1.split,
    check_skips h.1.before (h.1.item ∷ h.1.later)
        (λ i m. s i (rw h.1.split (Memᴰ-append_left (h.1.item ∷ h.1.later) m))) h.1.none_before,
    check_fails h.1.item
        h.1.later h.1.is_stray,
    h.0,
    h.1.is_place,
  )

  -- 14, whole
  pub uses_exactly : ((i : Item) → Memᴰ i is → Shaped i) → Exactly (AllDefined is) (λ n k. (n ≡ 14) × FirstStray is k) (check_uses (defined_by is) is)
  uses_exactly s = exactly (check is) (check-result is [] refl s (λ i m. absurd (Memᴰ-not-nil m))) (unfold check_uses next in λ js h. cc
      (append-nil is, check_skips is [] s h.1, h.0)) (check-refused s)
