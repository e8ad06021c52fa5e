-- The listed phases are the needed ones.
use Rattle.base.specs.{ℕ, ◌≡◌, refl, sym, ◌∙◌, ap, ap₂, subst, ◌⊎◌, inl, inr, ⊎_elim, Bool, true, false, not, cond, true≢false, false≢true}
use Rattle.base.specs.{List, [], ◌∷◌, ◌++◌, reverse, reverse-cons, reverse-reverse, append_assoc, append-nil, Memᴰ, Memᴰ-head}
use Rattle.base.specs.{Memᴰ-tail, Memᴰ-not-nil, Memᴰ-cases_cons, Memᴰ-eq_of_singleton, Memᴰ-append_cases}
use Rattle.base.specs.{Memᴰ-append_left, Memᴰ-append_right, Memᴰ-cast}
use Rattle.model.specs.{each, elem, topological_order, var_of, negated, literal, opposite, cuts_of, feeds, absent, chosen, Needed, output, fed}
use Rattle.model.specs.{is_inverted, backwards, spread, needed, Distinct}
use Rattle.model.specs.Graph.{Graph}
use Rattle.model.specs.declared.Cell.{Cell}
use Rattle.model.specs.declared.Source.{Source}
use Rattle.model.specs.declared.Source.TheVariants.{Input, Cell as Matched, Inverter as Inverted, Nothing}
use Rattle.model.specs.declared.Phase.{Phase}
use Rattle.theory_graph.proofs.{each_in, each_out, elem_in, elem_out, twice-apart, lit_var, lit_neg, lit_whole, by_bool}
use Rattle.theory_cover.proofs.{chosen_none, Straight, src, closed, straight-before, chosen_fine, not-opposite}

module _ (cells : List Cell) (g : Graph) (phase : ℕ → Phase) where
  abbrev fed_of : ℕ → List ℕ
  fed_of l = feeds cells (cuts_of g) l (phase l).source

  grow : ℕ → List ℕ → List ℕ
  grow l acc = cond (elem l acc) (fed_of l ++ acc) acc

  grow_only : (l x : ℕ) (acc : List ℕ) → Memᴰ x (grow l acc) → Memᴰ x acc ⊎ (Memᴰ l acc × Memᴰ x (fed_of l))
  unfolding grow
  grow_only l x acc = λ y. by_bool (elem l acc)
      (λ e. ⊎_elim (λ m. inr ((elem_out l acc e), m)) inl (Memᴰ-append_cases (fed_of l) (rw e at y))) (λ q. inl (rw q at y))

  spread-keeps : (ls acc : List ℕ) (x : ℕ) → Memᴰ x acc → Memᴰ x (spread cells (cuts_of g) phase ls acc)
  unfolding spread grow
  spread-keeps [] acc x m = m
  spread-keeps (l ∷ ls) acc x m = spread-keeps ls (grow l acc) x (by_bool (elem l acc) (λ e. rw e (Memᴰ-append_right (fed_of l) m))
      (λ q. rw q m))

  -- what is listed was there, or feeds one of those gone through
  spread-only : (ls acc : List ℕ) (x : ℕ) → Memᴰ x (spread cells (cuts_of g) phase ls acc) → Memᴰ x acc ⊎ ((l : ℕ) × Memᴰ l ls × Memᴰ x (fed_of l))
  unfolding spread grow
  spread-only [] acc x m = inl m
  spread-only (l ∷ ls) acc x m = ⊎_elim (λ n. ⊎_elim inl (λ e. inr (l, Memᴰ-head refl, e.1)) (grow_only l x acc n))
      (λ r. inr (r.0, Memᴰ-tail r.1, r.2)) (spread-only ls (grow l acc) x m)

  -- nothing at or after a phase of the list is fed by it
  abbrev Top : List ℕ → Type 0
  Top [] = Unit {0}
  Top (l ∷ ls) = ((k : ℕ) → Memᴰ k (l ∷ ls) → ¬ Memᴰ l (fed_of k)) × Top ls

  -- in such a list what is listed brings what feeds it
  spread-closed : (ls acc : List ℕ) → Top ls → (l : ℕ) → Memᴰ l ls → Memᴰ l (spread cells (cuts_of g) phase ls acc) → (x : ℕ) → Memᴰ x (fed_of l) → Memᴰ x (spread cells (cuts_of g) phase ls acc)
  unfolding spread grow
  spread-closed (y ∷ ls) acc top l (Memᴰ-tail i) m x n = spread-closed ls (grow y acc) top.1 l i m x n
  spread-closed (y ∷ ls) acc top l (Memᴰ-head e) m x n =
      spread-keeps ls (grow y acc) x (⊎_elim (λ h. (subst (λ (b : Bool). Memᴰ x (cond b (fed_of y ++ acc) acc))
      (sym (elem_in y acc (Memᴰ-cast (sym e) h))) (Memᴰ-append_left acc (subst (λ (z : ℕ). Memᴰ x (fed_of z)) e n))))
      (λ r. absurd (top.0 r.0 r.1 (Memᴰ-cast (sym e) r.2))) (spread-only (y ∷ ls) acc l m))
  spread-closed [] acc top l x6 m x n = elim x6 [ ]

  -- what is listed is needed
  spread-needed : (outs ls acc : List ℕ) → ((x : ℕ) → Memᴰ x acc → Needed cells g outs (λ l. (phase l).source) x)
      → (x : ℕ) → Memᴰ x (spread cells (cuts_of g) phase ls acc) → Needed cells g outs (λ l. (phase l).source) x
  unfolding spread grow
  spread-needed outs [] acc h x m = h x m
  spread-needed outs (l ∷ ls) acc h x m = spread-needed outs ls (grow l acc) (λ y n. ⊎_elim (h y) (λ e. fed (h l e.0) e.1)
      (grow_only l y acc n)) x m

reverse_in : (xs : List ℕ) (x : ℕ) → Memᴰ x xs → Memᴰ x (reverse xs)
reverse_in (y ∷ ys) x (Memᴰ-head e) = subst (λ (zs : List ℕ). Memᴰ x zs) (sym (reverse-cons y ys)) (Memᴰ-append_right (reverse ys) (Memᴰ-head e))
reverse_in (y ∷ ys) x (Memᴰ-tail m) = subst (λ (zs : List ℕ). Memᴰ x zs) (sym (reverse-cons y ys)) (Memᴰ-append_left (y ∷ []) (reverse_in ys x m))
reverse_in [] x x3 = elim x3 [ ]

straight-plain : (s : Source) → Straight s → is_inverted s ≡ false
unfolding is_inverted
straight-plain Input t = refl
straight-plain Nothing t = absurd t
straight-plain (Matched m) t = refl
straight-plain (Inverted c) t = absurd t

module _ (cells : List Cell) (g : Graph) (once : Distinct (topological_order g)) where
  abbrev phase : ℕ → Phase
  phase = chosen cells g

  backwards-var : (v k : ℕ) → Memᴰ k (backwards phase v) → var_of k ≡ v
  unfolding backwards
  backwards-var v k = λ x. by_bool (is_inverted (phase (literal false v)).source) (λ e. two false true (rw e at x))
      (λ q. two true false (rw q at x))
    where
      two : (a b : Bool) → Memᴰ k (literal a v ∷ literal b v ∷ []) → var_of k ≡ v
      two a b (Memᴰ-head e) = ap var_of e ∙ lit_var a v
      two a b (Memᴰ-tail m) = ap var_of (Memᴰ-eq_of_singleton m) ∙ lit_var b v

  -- a phase without an inverter is fed by no phase of its variable
  not-fed : (pre : List ℕ) (v : ℕ) (post : List ℕ) → topological_order g ≡ pre ++ (v ∷ post) → (l k : ℕ) → var_of l ≡ v → var_of k ≡ v
      → (l ≡ k) ⊎ (is_inverted (src cells g once k) ≡ false) → ¬ Memᴰ l (feeds cells (cuts_of g) k (src cells g once k))
  unfolding feeds is_inverted
  not-fed pre v post e l k p q h = go (src cells g once k) refl h
    where
      go : (s : Source) → src cells g once k ≡ s → (l ≡ k) ⊎ (is_inverted s ≡ false) → ¬ Memᴰ l (feeds cells (cuts_of g) k s)
      go Input r a m = Memᴰ-not-nil m
      go Nothing r a m = Memᴰ-not-nil m
      go (Matched n) r a m = straight-before cells g once pre v post e k q (rw r tt) l (rw r m) (Memᴰ-head p)
      go (Inverted c) r (inl a) m = not-opposite cells g once k (sym a ∙ Memᴰ-eq_of_singleton m)
      go (Inverted c) r (inr a) m = true≢false a

  opposite-plus : (v : ℕ) → opposite (literal false v) ≡ literal true v
  unfolding opposite
  opposite-plus v = ap₂ literal (ap not (lit_neg false v)) (lit_var false v)

  -- of the two phases the second has no inverter
  second_plain : (v : ℕ) → is_inverted (src cells g once (literal false v)) ≡ true → is_inverted (src cells g once (literal true v)) ≡ false
  unfolding is_inverted absent
  second_plain v = go (src cells g once (literal false v)) refl
    where
      go : (s : Source) → src cells g once (literal false v) ≡ s → is_inverted s ≡ true → is_inverted (src cells g once (literal true v)) ≡ false
      go Input r t = absurd (false≢true t)
      go Nothing r t = absurd (false≢true t)
      go (Matched m) r t = absurd (false≢true t)
      go (Inverted c) r t = straight-plain (src cells g once (literal true v))
          (rw (← opposite-plus v) ((chosen_fine cells g once (literal false v) (ap absent r)).1 c r))

  top-rows : (rs post : List ℕ) → topological_order g ≡ reverse rs ++ post → Top cells g phase (each (backwards phase) rs)
  unfolding each backwards
  top-rows [] post e = tt
  top-rows (v ∷ rs) post e = by_bool (is_inverted (phase (literal false v)).source)
      (λ h. rw h (pair false true (second_plain v h) (top-rows rs (v ∷ post) e')))
      (λ q. rw q (pair true false q (top-rows rs (v ∷ post) e')))
    where
      e' : topological_order g ≡ reverse rs ++ (v ∷ post)
      e' = e ∙ ap (λ (xs : List ℕ). xs ++ post) (reverse-cons v rs) ∙ append_assoc (reverse rs) (v ∷ []) post

      earlier : (l k : ℕ) → var_of l ≡ v → Memᴰ k (each (backwards phase) rs) → ¬ Memᴰ l (feeds cells (cuts_of g) k (src cells g once k))
      earlier l k p m n =
          let at = each_out (backwards phase) rs m in
          let u : Memᴰ (var_of k) (reverse rs) = Memᴰ-cast (backwards-var at.0 k at.2) (reverse_in rs at.0 at.1) in
          closed cells g once (reverse rs) (v ∷ post) e' l k n (twice-apart (reverse rs) (v ∷ post) (var_of k) (subst Distinct e' once) u) (Memᴰ-head p)

      pair : (a b : Bool) → is_inverted (src cells g once (literal b v)) ≡ false → Top cells g phase (each (backwards phase) rs) → Top cells g phase (literal a v ∷ literal b v ∷ each (backwards phase) rs)
      pair a b h top = ((λ k m. one_of k (Memᴰ-cases_cons m)), ((λ k m. two-of k (Memᴰ-cases_cons m)), top))
        where
          two-of : (k : ℕ) → (k ≡ literal b v) ⊎ Memᴰ k (each (backwards phase) rs) → ¬ Memᴰ (literal b v) (feeds cells (cuts_of g) k (src cells g once k))
          two-of k (inl q) = not-fed (reverse rs) v post e' (literal b v) k (lit_var b v) (ap var_of q ∙ lit_var b v) (inl (sym q))
          two-of k (inr m) = earlier (literal b v) k (lit_var b v) m

          one_of : (k : ℕ) → (k ≡ literal a v) ⊎ Memᴰ k (literal b v ∷ each (backwards phase) rs) → ¬ Memᴰ (literal a v) (feeds cells (cuts_of g) k (src cells g once k))
          one_of k (inl q) = not-fed (reverse rs) v post e' (literal a v) k (lit_var a v) (ap var_of q ∙ lit_var a v) (inl (sym q))
          one_of k (inr m) = ⊎_elim (λ q. not-fed (reverse rs) v post e' (literal a v) k (lit_var a v) (ap var_of q ∙ lit_var b v)
              (inr (ap (λ (x : ℕ). is_inverted (src cells g once x)) q ∙ h))) (earlier (literal a v) k (lit_var a v))
              (Memᴰ-cases_cons m)

  -- the listed phases are needed
  pub listed-needed : (x : ℕ) → Memᴰ x (needed cells g phase) → Needed cells g g.outputs (src cells g once) x
  unfolding needed
  listed-needed = spread-needed cells g phase g.outputs (each (backwards phase) (reverse (topological_order g))) g.outputs (λ x m. output m)

  -- and the needed phases are listed
  pub needed-listed : (x : ℕ) → Needed cells g g.outputs (src cells g once) x → Memᴰ x (needed cells g phase)
  unfolding needed
  needed-listed x (output m) = spread-keeps cells g phase (each (backwards phase) (reverse (topological_order g))) g.outputs x m
  needed-listed x (fed {l = l} n i) =
      let top = top-rows (reverse (topological_order g)) []
      (sym (append-nil (reverse (reverse (topological_order g))) ∙ reverse-reverse (topological_order g))) in
      let not-elem : elem (var_of l) (topological_order g) ≡ false → ¬ Memᴰ (var_of l) (topological_order g) = λ h m. true≢false
      (sym (elem_in (var_of l) (topological_order g) m) ∙ h) in
      by_bool (elem (var_of l) (topological_order g)) (λ h. spread-closed cells g phase (each (backwards phase) (reverse (topological_order g)))
      g.outputs top l (each_in (backwards phase) (reverse_in (topological_order g) (var_of l) (elem_out (var_of l) (topological_order g) h))
      (unfold backwards in by_bool (is_inverted (phase (literal false (var_of l))).source) (λ e. rw e (by_bool (negated l)
      (λ q. Memᴰ-tail (Memᴰ-head (sym (rw q at (lit_whole l))))) (λ p. Memᴰ-head (sym (rw p at (lit_whole l)))))) (λ r. rw r
      (by_bool (negated l) (λ z. Memᴰ-head (sym (rw z at (lit_whole l))))
      (λ w. Memᴰ-tail (Memᴰ-head (sym (rw w at (lit_whole l))))))))) (needed-listed l n) x i)
      (λ e. absurd (nothing-fed (src cells g once l) (chosen_none cells g l (not-elem e)) i))
    where
      nothing-fed : (s : Source) → absent s ≡ true → ¬ Memᴰ x (feeds cells (cuts_of g) l s)
      nothing-fed Input a m = false≢true (unfold absent in a)
      nothing-fed Nothing a m = Memᴰ-not-nil (unfold feeds in m)
      nothing-fed (Matched k) a m = false≢true (unfold absent in a)
      nothing-fed (Inverted k) a m = false≢true (unfold absent in a)
