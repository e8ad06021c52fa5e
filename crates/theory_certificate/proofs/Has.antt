-- What nets have by a rule of their gates, which stand in order, exists: values and arrivals alike.
use Rattle.base.specs.{ℕ, ◌≡◌, refl, sym, ◌∙◌, ap, subst, inl, inr, Bool, false, cond, List, [], ◌∷◌, ◌++◌, map, Memᴰ, Memᴰ-head, Memᴰ-tail}
use Rattle.base.specs.{Memᴰ-append_left, Memᴰ-append_right, Memᴰ-cast, eqb, eqb→eq, eqb_refl}
use Rattle.model.specs.{find, literal, var_of, Net, of_phase, of_pair, label, net_name, Wire}
use Rattle.model.specs.Graph.{Graph}
use Rattle.model.specs.declared.Cell.{Cell}
use Rattle.theory_graph.proofs.{by_bool, by_eqb, is_true, lit_var, map_in, map_same}
use Rattle.theory_text.proofs.{wires_from}
use Rattle.theory_demands.proofs.Wires.{by_label, by_net, by_wire}
use Rattle.certificate_model.specs.{Made}
use Rattle.theory_certificate.proofs.Sound.{net_of, pins_of}
use Rattle.theory_certificate.proofs.Order.{Driven, Ordered, apart, own_nets, pins_of_lem}

module _ {X : Type 0} (d : X) (cells : List Cell) (rule : Made → List X → X) where
  unfoldable after : List Made → List (ℕ × X) → List (ℕ × X)
  after [] known = known
  after (x ∷ xs) known = after xs ((net_of x, rule x (map (λ (p : ℕ). find d p known) (pins_of cells x))) ∷ known)

  find-here : (n : ℕ) (x : X) (es : List (ℕ × X)) → find d n ((n, x) ∷ es) ≡ x
  unfolding find
  find-here n x es = ap (λ (b : Bool). cond b x (find d n es)) (is_true (eqb n n) (eqb_refl n))

  find_past : (m n : ℕ) (x : X) (es : List (ℕ × X)) → ¬ (m ≡ n) → find d m ((n, x) ∷ es) ≡ find d m es
  unfolding find
  find_past m n x es h = by_bool (eqb m n) (λ q. absurd (h ((rw q at (eqb→eq m n)) tt))) (λ p. rw p)

  stays : (xs : List Made) (known : List (ℕ × X)) (n : ℕ) → ¬ Memᴰ n (map net_of xs) → find d n (after xs known) ≡ find d n known
  unfolding after
  stays [] known n h = refl
  stays (x ∷ xs) known n h = stays xs ((net_of x, rule x (map (λ (p : ℕ). find d p known) (pins_of cells x))) ∷ known) n (λ i. h (Memᴰ-tail i))
      ∙ find_past n (net_of x) (rule x (map (λ (p : ℕ). find d p known) (pins_of cells x))) known (λ e. h (Memᴰ-head e))

  follows : (names : List ℕ) (xs : List Made) → Ordered cells names xs → (known : List (ℕ × X)) (y : Made) → Memᴰ y xs
      → find d (net_of y) (after xs known) ≡ rule y (map (λ (p : ℕ). find d p (after xs known)) (pins_of cells y))
  unfolding after
  follows names (x ∷ xs) o known y (Memᴰ-head e) =
      let v = rule x (map (λ (p : ℕ). find d p known) (pins_of cells x)) in
      let next : List (ℕ × X) = (net_of x, v) ∷ known in
      subst (λ (z : Made). find d (net_of z) (after xs next) ≡ rule z (map (λ (p : ℕ). find d p (after xs next)) (pins_of cells z))) (sym e)
      (stays xs next (net_of x) (apart cells (net_of x ∷ names) xs o.2 (net_of x) (Memᴰ-head refl)) ∙ find-here (net_of x) v known
      ∙ ap (rule x) (map_same (λ (p : ℕ). find d p known) (λ (p : ℕ). find d p (after xs next)) (pins_of cells x) (λ p m. sym
      (stays xs next p (apart cells (net_of x ∷ names) xs o.2 p (Memᴰ-tail (o.0 p m))) ∙ find_past p (net_of x) v known (λ q. o.1 (Memᴰ-cast (sym q) (o.0 p m)))))))
  follows names (x ∷ xs) o known y (Memᴰ-tail m) = follows (net_of x ∷ names) xs o.2 ((net_of x, rule x (map (λ (p : ℕ). find d p known) (pins_of cells x))) ∷ known) y m
  follows names [] o known y x'' = elim x'' [ ]

  -- ---- by the nets' names

  module _ (g : Graph) (given : ℕ → X) (xs : List Made) (o : Ordered cells (own_nets g) xs) (outs : List ℕ) (driven : (n : ℕ) → Memᴰ n outs → Driven (own_nets g) xs n) where
    abbrev final : List (ℕ × X)
    final = after xs (map (λ (u : ℕ). (literal false u, given u)) g.inputs)

    net_val : Net → X
    net_val (of_phase n) = find d n final
    net_val (of_pair n) = d

    abbrev all_nets : List Net
    all_nets = map of_phase (own_nets g ++ map net_of xs)

    pub the : List ℕ → X
    the = by_label d net_val outs all_nets

    in_all : (n : ℕ) → Driven (own_nets g) xs n → Memᴰ (of_phase n) all_nets
    in_all n (inl m) = map_in of_phase (Memᴰ-append_left (map net_of xs) m)
    in_all n (inr m) = map_in of_phase (Memᴰ-append_right (own_nets g) m)

    at-net : (n : ℕ) → Driven (own_nets g) xs n → the (net_name n) ≡ find d n final
    unfolding the label net_val
    at-net n m = by_net d net_val outs all_nets (of_phase n) (in_all n m)

    given-at : (vs : List ℕ) (u : ℕ) → Memᴰ u vs → find d (literal false u) (map (λ (x : ℕ). (literal false x, given x)) vs) ≡ given u
    given-at (x ∷ vs) u m = by_eqb u x
        (λ q. subst (λ (y : ℕ). find d (literal false y) ((literal false x, given x) ∷ map (λ (z : ℕ). (literal false z, given z)) vs) ≡ given y) (sym q)
        (find-here (literal false x) (given x) (map (λ (z : ℕ). (literal false z, given z)) vs)))
        (λ q. find_past (literal false u) (literal false x) (given x) (map (λ (z : ℕ). (literal false z, given z)) vs)
        (λ e. q (sym (lit_var false u) ∙ ap var_of e ∙ lit_var false x)) ∙ given-at vs u (later q m))
      where
        later : ¬ (u ≡ x) → Memᴰ u (x ∷ vs) → Memᴰ u vs
        later q (Memᴰ-head e) = absurd (q e)
        later q (Memᴰ-tail i) = i
    given-at [] u m = elim m [ ]

    pub the_input : (u : ℕ) → Memᴰ u g.inputs → the (net_name (literal false u)) ≡ given u
    the_input u m =
        let own : Memᴰ (literal false u) (own_nets g) = map_in (literal false) m in
        at-net (literal false u) (inl own) ∙ stays xs (map (λ (x : ℕ). (literal false x, given x)) g.inputs) (literal false u) (apart cells (own_nets g) xs o (literal false u) own)
        ∙ given-at g.inputs u m

    pub the_gate : (x : Made) → Memᴰ x xs → the (net_name (net_of x)) ≡ rule x (map (λ (p : ℕ). the (net_name p)) (pins_of cells x))
    the_gate x m = at-net (net_of x) (inr (map_in net_of m)) ∙ follows (own_nets g) xs o (map (λ (u : ℕ). (literal false u, given u)) g.inputs) x m
        ∙ ap (rule x) (map_same (λ (p : ℕ). find d p final) (λ (p : ℕ). the (net_name p)) (pins_of cells x) (λ p i. sym (at-net p (pins_of_lem cells (own_nets g) xs o x m p i))))

    pub the_wire : (x : Wire) → Memᴰ x (wires_from 0 outs) → the x.target ≡ the x.source
    unfolding the
    the_wire = by_wire d net_val outs all_nets (λ n m. in_all n (driven n m))
