-- The choice by document 01's order of preference, over sources by their data.
--     preferred_by_data           no allowed source comes before the chosen one
use Rattle.base.specs.{ℕ, ◌<◌, arith, ◌≡◌, refl, sym, ◌∙◌, subst, false, List, [], ◌∷◌, Memᴰ}
use Rattle.model.specs.{var_of, cuts_of, orders, absent, chosen, topological_order, preference, rank}
use Rattle.model.specs.Graph.{Graph}
use Rattle.model.specs.Cover.{Allowed as AllowedBy}
use Rattle.model.specs.declared.Cell.{Cell}
use Rattle.model.specs.declared.Match.{Match}
use Rattle.model.specs.declared.Source.{Source as Numbered}
use Rattle.model.specs.declared.Source.TheVariants.{Input, Cell as Matched, Inverter as Inverted, Nothing}
use Rattle.promises.specs.Covers.{At, CellMatch, Source, Allowed, by_cell, FedBy, Arrives, Smaller, here, alike, Precedes, earlier, cell_first, by_match}
use Rattle.promises.specs.Covers.{by_listed, MatchPrecedes, by_cut, by_line, by_order, by_mask}
use Rattle.promises.specs.Earliest.{IsSource, is_own_net, is_match, is_inverter, Preferred}
use Rattle.theory_graph.specs.AcceptedGraph.{Accepted}
use Rattle.theory_order.proofs.{cuts_exactly}
use Rattle.theory_order.proofs.CutRecursion.{cuts-once}
use Rattle.theory_cover.proofs.{choice-preferred}
use Rattle.theory_relations.proofs.Places.{get_at, in_at, at_once, index_at}
use Rattle.theory_relations.proofs.Orders.{order_iff, orders-count}
use Rattle.theory_relations.proofs.CutOrder.{smaller-more, cut-number, order-number, orders-once}
use Rattle.theory_relations.proofs.CellRelations.{Sound}
use Rattle.theory_relations.proofs.Sources.{to_data, to_numbers, numbers_of, data_linked, numbers_linked, fed-from, arrives_iff}

alike_at : {x y : ℕ} {xs ys : List ℕ} → x ≡ y → Smaller xs ys → Smaller (x ∷ xs) (y ∷ ys)
alike_at {x} {xs = xs} {ys = ys} e s = subst (λ (z : ℕ). Smaller (x ∷ xs) (z ∷ ys)) e (alike s)

module _ (listed cells : List Cell) (lib : Sound listed cells) (g : Graph) (ok : Accepted g) where
  -- an allowed source by numbers is the one of its data
  pub source_is : (l : ℕ) (s : Numbered) → AllowedBy cells g l s → IsSource g l s (to_data listed cells lib g ok l s)
  unfolding to_data Rattle.model.specs.cut_at
  source_is l Input k = is_own_net
  source_is l Nothing k = absurd k
  source_is l (Matched m) k =
      is_match (get_at (cuts_of g (var_of l)) m.cut [] k.has_cut) refl (get_at orders m.order [] (subst (λ (n : ℕ). m.order < n) (sym orders-count) k.has_order)) refl
  source_is l (Inverted j) k = is_inverter

  match_smaller : (l : ℕ) (m : CellMatch) (n : CellMatch) (k : Match) → Memᴰ m.cut (cuts_of g (var_of l)) → Memᴰ m.order orders
      → At (cuts_of g (var_of l)) k.cut n.cut → k.cell ≡ n.cell → At orders k.order n.order → k.mask ≡ n.mask → MatchPrecedes m n
      → Smaller (rank (Matched (numbers_of listed cells lib g ok l m))) (rank (Matched k))
  unfolding rank
  match_smaller l m n k is_cut is_order c line o mask p = alike (go p)
    where
      cut-same : m.cut ≡ n.cut → (numbers_of listed cells lib g ok l m).cut ≡ k.cut
      cut-same e = at_once (cuts-once g ok (var_of l)) (index_at m.cut (cuts_of g (var_of l)) is_cut) (subst (At (cuts_of g (var_of l)) k.cut) (sym e) c)

      order_same : m.order ≡ n.order → (numbers_of listed cells lib g ok l m).order ≡ k.order
      order_same e = at_once orders-once (index_at m.order orders is_order) (subst (At orders k.order) (sym e) o)

      go : MatchPrecedes m n → Smaller ((numbers_of listed cells lib g ok l m).cut ∷ m.cell ∷ (numbers_of listed cells lib g ok l m).order ∷ m.mask ∷ [])
          (k.cut ∷ k.cell ∷ k.order ∷ k.mask ∷ [])
      go (by_cut b) = here (cut-number g ok (var_of l) (index_at m.cut (cuts_of g (var_of l)) is_cut) c b)
      go (by_line e h) = alike_at (cut-same e) (here (omega arith))
      go (by_order e h s) = alike_at (cut-same e) (alike_at (h ∙ sym line) (here (order-number (index_at m.order orders is_order) o s)))
      go (by_mask e h f s) = alike_at (cut-same e) (alike_at (h ∙ sym line) (alike_at (order_same f) (here (omega arith))))

  -- what comes before a source has the smaller numbers
  smaller_by : (l : ℕ) {s r : Source} {t u : ℕ} {n : Numbered} → Allowed listed cells g l s → IsSource g l n r → Precedes s t r u
      → Smaller (t ∷ rank (to_numbers listed cells lib g ok l s)) (u ∷ rank n)
  unfolding rank to_numbers
  smaller_by l k i (earlier h) = here h
  smaller_by l k is_inverter cell_first = alike (here {x = 0} {y = 1} (omega arith))
  smaller_by l k is_inverter (by_listed h) = alike (alike (here h))
  smaller_by l (by_cell {m = m} a q) (is_match {m = k} {n = n} c line o mask) (by_match p) = alike (match_smaller l m n k
      ((cuts_exactly g ok (var_of l) m.cut).1 q.is_cut) ((order_iff m.order).1 q.is_order) c line o mask p)

  -- "otherwise earliest arrival; then a matched cell before the inverter; then cut, cell line, order number, mask, lowest first"
  pub preferred_by_data : (l : ℕ) → Memᴰ (var_of l) (topological_order g) → (s : Source) (t : ℕ) → Allowed listed cells g l s
      → Arrives cells g (λ x. (chosen cells g x).arrival) l s t → ((x d : ℕ) → FedBy cells l s x d → absent (chosen cells g x).source ≡ false)
      → Preferred listed cells g l s t
  unfolding preference
  preferred_by_data l ordered s t k arrives present =
      let times : ℕ → ℕ = λ x. (chosen cells g x).arrival in
      let n = to_numbers listed cells lib g ok l s in
      let link = numbers_linked listed cells lib g ok l s k in
      let p = choice-preferred cells g ok l ordered in
      let f = p.first n link.by_numbers (λ x m. let a = in_at m in present x _ (fed-from listed cells lib g ok l link.same link.by_data a.0 x a.1)) in
      let allowed = p.allowed f.0 in
      let other = data_linked listed cells lib g ok l (chosen cells g l).source allowed in
      let i = source_is l (chosen cells g l).source allowed in
      let e = (arrives_iff listed cells lib g ok times l link t).0 arrives in
      record {
        source = to_data listed cells lib g ok l (chosen cells g l).source;
        is_chosen = i;
        allowed = other.by_data;
        timed = (arrives_iff listed cells lib g ok times l other (chosen cells g l).arrival).1 (p.timed f.0);
        first = λ q. f.1 (smaller-more (subst (λ (u : ℕ). Smaller (u ∷ rank n) ((chosen cells g l).arrival ∷ rank (chosen cells g l).source)) e (smaller_by l k i q)));
      }
