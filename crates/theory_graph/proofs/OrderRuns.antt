-- What is known after a run along a list without repetition: each entry is its step's, and later steps leave it is.
use Rattle.base.specs.{ℕ, ◌≡◌, refl, sym, ◌∙◌, subst, List, [], ◌∷◌, ◌++◌, append_assoc, Memᴰ, Memᴰ-head, Memᴰ-tail}
use Rattle.base.specs.{Memᴰ-not-nil, Memᴰ-append_right, Memᴰ-cast, eqb, eqb→eq, eqb_refl}
use Rattle.model.specs.{find, run, Distinct}
use Rattle.theory_graph.proofs.ListLaws.{by_eqb}
use Rattle.theory_graph.proofs.ListSplits.{by_bool}

-- the part behind a split
pub no_twice-behind : (pre vs : List ℕ) → Distinct (pre ++ vs) → Distinct vs
no_twice-behind [] vs h = h
no_twice-behind (x ∷ pre) vs h = no_twice-behind pre vs h.1

-- the two parts of a split have nothing in common
pub twice-apart : (xs ys : List ℕ) (x : ℕ) → Distinct (xs ++ ys) → Memᴰ x xs → ¬ Memᴰ x ys
twice-apart (z ∷ xs) ys x h (Memᴰ-head e) n = h.0 (Memᴰ-cast (sym e) (Memᴰ-append_right xs n))
twice-apart (z ∷ xs) ys x h (Memᴰ-tail m) n = twice-apart xs ys x h.1 m n
twice-apart [] ys x h x5 n = elim x5 [ ]

-- Induction along a list: a number may use what holds of all that neither are it nor come after it.
pub along : (Q : ℕ → Type 0) (vs : List ℕ) → ((u : ℕ) → ¬ Memᴰ u vs → Q u)
    → ((pre : List ℕ) (v : ℕ) (post : List ℕ) → vs ≡ pre ++ (v ∷ post) → ((u : ℕ) → ¬ Memᴰ u (v ∷ post) → Q u) → Q v) → (u : ℕ) → Q u
along Q vs base body = go [] vs refl base
  where
    not_in : {u v : ℕ} {post : List ℕ} → ¬ (u ≡ v) → ¬ Memᴰ u post → ¬ Memᴰ u (v ∷ post)
    not_in a b (Memᴰ-head e) = a e
    not_in a b (Memᴰ-tail m) = b m

    go : (pre post : List ℕ) → vs ≡ pre ++ post → ((u : ℕ) → ¬ Memᴰ u post → Q u) → (u : ℕ) → Q u
    go pre [] e known u = known u Memᴰ-not-nil
    go pre (v ∷ post) e known u = go (pre ++ (v ∷ [])) post (e ∙ sym (append_assoc pre (v ∷ []) post))
        (λ x h. by_eqb x v (λ s. rw s (body pre v post e known)) (λ d. known x (not_in d h))) u

module _ {A : Type 0} (d : A) (step : List (ℕ × A) → ℕ → A) where
  find-here : (v : ℕ) (a : A) (es : List (ℕ × A)) → find d v ((v, a) ∷ es) ≡ a
  unfolding find
  find-here v a es = by_bool (eqb v v) (λ e. rw e) (λ q. rw q (absurd (rw q at (eqb_refl v))))

  find_past : (v u : ℕ) (a : A) (es : List (ℕ × A)) → ¬ (u ≡ v) → find d u ((v, a) ∷ es) ≡ find d u es
  unfolding find
  find_past v u a es h = by_bool (eqb u v) (λ e. rw e (absurd (h ((rw e at (eqb→eq u v)) tt)))) (λ q. rw q)

  -- what is known stays
  pub run_stays : (vs : List ℕ) (known : List (ℕ × A)) (u : ℕ) → ¬ Memᴰ u vs → find d u (run step vs known) ≡ find d u known
  unfolding run
  run_stays [] known u h = refl
  run_stays (v ∷ vs) known u h = cc (
    run_stays vs ((v, step known v) ∷ known) u (λ m. h (Memᴰ-tail m)),
    find_past v u
        (step known v) known (λ e. h (Memᴰ-head e)),
  )

  -- a new entry is its step's
  pub run_entry : (v : ℕ) (post : List ℕ) (known : List (ℕ × A)) → ¬ Memᴰ v post → find d v (run step (v ∷ post) known) ≡ step known v
  unfolding run
  run_entry v post known h = run_stays post ((v, step known v) ∷ known) v h ∙ find-here v (step known v) known

  -- a run is a run of its first part, and then of the rest
  pub run-split : (pre vs : List ℕ) (known : List (ℕ × A)) → run step (pre ++ vs) known ≡ run step vs (run step pre known)
  unfolding run
  run-split [] vs known = refl
  run-split (v ∷ pre) vs known = run-split pre vs ((v, step known v) ∷ known)

  -- what each step keeps of the known and the rest holds at every split
  pub run-keeps : (J : List (ℕ × A) → List ℕ → Type 0) → ((known : List (ℕ × A)) (v : ℕ) (vs : List ℕ) → Distinct (v ∷ vs) → J known (v ∷ vs) → J ((v, step known v) ∷ known) vs)
      → (pre vs : List ℕ) (known : List (ℕ × A)) → Distinct (pre ++ vs) → J known (pre ++ vs) → J (run step pre known) vs
  unfolding run
  run-keeps J next [] vs known once j = j
  run-keeps J next (v ∷ pre) vs known once j =
      run-keeps J next pre vs ((v, step known v) ∷ known) once.1 (next known v (pre ++ vs) once j)

  -- a look-up in a longer record: the new entry, or an old one
  pub find_cons : (P : A → Type 0) (v u : ℕ) (a : A) (es : List (ℕ × A)) → (u ≡ v → P a) → P (find d u es) → P (find d u ((v, a) ∷ es))
  find_cons P v u a es new old = by_eqb u v (λ e. subst P (cc (find-here v a es)) (new e)) (λ h. subst P (sym (find_past v u a es h)) old)
