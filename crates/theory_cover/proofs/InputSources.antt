-- The choice for an input's positive phase: its own net, at the input's arrival.
use Rattle.base.specs.{ℕ, ◌≡◌, refl, sym, subst, false, List, [], ◌∷◌, Memᴰ, Memᴰ-head, Memᴰ-not-nil}
use Rattle.base.specs.{Memᴰ-eq_of_singleton}
use Rattle.model.specs.Graph.{Graph}
use Rattle.model.specs.{topological_order, var_of, feeds, absent, chosen, IsInputSource, output, fed, directly, through, Distinct}
use Rattle.model.specs.Cover.{Cover}
use Rattle.model.specs.declared.Cell.{Cell}
use Rattle.model.specs.declared.Source.TheVariants.{Input}
use Rattle.theory_cover.proofs.CoverFacts.{own-only, covers-timed}
use Rattle.theory_cover.proofs.EarliestArrival.{earliest}
use Rattle.theory_cover.proofs.CoverSoundness.{chosen-cover, chosen-timed}

module _ (cells : List Cell) (g : Graph) (once : Distinct (topological_order g)) (l : ℕ) (o : IsInputSource g l) where
  -- an input's own net is a cover of it
  input-cover : Cover cells g (l ∷ [])
  unfolding feeds
  input-cover = record {
    source = λ x. Input;
    allowed = λ x n. subst (IsInputSource g) (sym (elim n [ output m ↦ Memᴰ-eq_of_singleton m | fed q i ↦ absurd (Memᴰ-not-nil i) ])) o;
    no_cycle = λ x n f. (elim f [ directly i ↦ Memᴰ-not-nil i | through q e ↦ Memᴰ-not-nil e ]);
  }

  -- so it is chosen a source
  own_present : (x : ℕ) → Memᴰ x (l ∷ []) → absent (chosen cells g x).source ≡ false
  own_present x i =
      let t = (covers-timed cells g once (l ∷ []) input-cover).has in
      cc (Memᴰ-eq_of_singleton i, (earliest cells g once (l ∷ []) input-cover t.0 t.1 l (output (Memᴰ-head refl))).present)

  -- "for an input's positive phase its own net"
  pub own-chosen : (chosen cells g l).source ≡ Input
  unfolding chosen-cover
  own-chosen = own-only cells g once (l ∷ []) (chosen-cover cells g once (l ∷ []) own_present) l o (output (Memᴰ-head refl))

  -- "every arrival starts from it"
  pub own-arrival : (chosen cells g l).arrival ≡ g.input_arrival (var_of l)
  own-arrival = (covers-timed cells g once (l ∷ []) (chosen-cover cells g once (l ∷ []) own_present)).starts (λ x. (chosen cells g x).arrival)
      (chosen-timed cells g once (l ∷ []) own_present) l (output (Memᴰ-head refl)) o
