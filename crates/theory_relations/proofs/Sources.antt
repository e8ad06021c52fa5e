-- A source by its data against the source that the choice knows by numbers: what may be one, what feeds it, when it arrives.
use Rattle.base.specs.{ℕ, ◌+◌, ◌≤◌, ◌<◌, le_antisymm, arith, ◌≡◌, refl, sym, ◌∙◌, ap, subst, inl, inr, ⊎_elim, ◌↔◌, List, [], map, Memᴰ-not-nil}
use Rattle.base.specs.{get_or}
use Rattle.model.specs.{bit, literal, orders, cell_at, no_cell, var_of, cuts_of, cut_at, feeds, cell_of, latest, match_nets, fed_nets, IsMatch, arrival_by}
use Rattle.model.specs.Graph.{Graph}
use Rattle.model.specs.Cover.{Allowed as AllowedBy}
use Rattle.model.specs.declared.Cell.{Cell}
use Rattle.model.specs.declared.Match.{Match}
use Rattle.model.specs.declared.Source.{Source as Numbered}
use Rattle.model.specs.declared.Source.TheVariants.{Input, Cell as Matched, Inverter as Inverted, Nothing}
use Rattle.promises.specs.Covers.{At, first, CellMatch, Matches, Source, own_net, matched, inverter, Allowed, own, by_cell, by_inverter, FedBy, by_pin, by_opposite}
use Rattle.promises.specs.Covers.{Latest, Arrives, as_input, as_matched, as_inverter}
use Rattle.theory_graph.specs.AcceptedGraph.{Accepted}
use Rattle.theory_graph.proofs.{get_or_in}
use Rattle.theory_order.proofs.{cuts_exactly}
use Rattle.theory_cover.proofs.Matches.{cut_for, cut-listed}
use Rattle.theory_relations.proofs.Places.{at-below, at_get, get_at, at_in, map_at, at_map, index_of, index_at}
use Rattle.theory_relations.proofs.Orders.{order_iff, orders-count}
use Rattle.theory_relations.proofs.Rows.{agrees_iff}
use Rattle.theory_relations.proofs.Latest.{fed-at, fed_out, latest-over, latest-one}
use Rattle.theory_relations.proofs.CellRelations.{Sound, inverter_iff}

module _ (listed cells : List Cell) (lib : Sound listed cells) (g : Graph) (ok : Accepted g) where
  -- a match by numbers has this data
  pub record SameMatch (l : ℕ) (m : Match) (n : CellMatch) : Type 0 where
    pub cut : cut_for g l m ≡ n.cut
    pub cell : m.cell ≡ n.cell
    pub order : get_or orders m.order [] ≡ n.order
    pub mask : m.mask ≡ n.mask

  pub data Same (l : ℕ) : Numbered → Source → Type 0 where
    same_own : Same l Input own_net
    same_none : Same l Nothing own_net
    same_match : {m : Match} {n : CellMatch} → SameMatch l m n → Same l (Matched m) (matched n)
    same_inverter : {k : ℕ} → Same l (Inverted k) (inverter k)

  -- ---- by data

  abbrev pub data_of : ℕ → Match → CellMatch
  data_of l m = record { cut = cut_for g l m; cell = m.cell; order = get_or orders m.order []; mask = m.mask }

  unfoldable pub to_data : ℕ → Numbered → Source
  to_data l Input = own_net
  to_data l Nothing = own_net
  to_data l (Matched m) = matched (data_of l m)
  to_data l (Inverted k) = inverter k

  pub same_data : (l : ℕ) (s : Numbered) → Same l s (to_data l s)
  unfolding to_data
  same_data l Input = same_own
  same_data l Nothing = same_none
  same_data l (Matched m) = same_match (record { cut = refl; cell = refl; order = refl; mask = refl })
  same_data l (Inverted k) = same_inverter

  -- ---- by numbers

  abbrev pub numbers_of : ℕ → CellMatch → Match
  numbers_of l n = record { cut = index_of n.cut (cuts_of g (var_of l)); cell = n.cell; order = index_of n.order orders; mask = n.mask }

  unfoldable pub to_numbers : ℕ → Source → Numbered
  to_numbers l own_net = Input
  to_numbers l (matched n) = Matched (numbers_of l n)
  to_numbers l (inverter k) = Inverted k

  -- ---- matches

  match_data : (l : ℕ) (m : Match) → IsMatch cells g l m → Allowed listed cells g l (matched (data_of l m))
  unfolding cell_at
  match_data l m k =
      let o = (order_iff (get_or orders m.order [])).0 (get_or_in orders m.order [] (subst (λ (n : ℕ). m.order < n) (sym orders-count) k.has_order)) in
      let c = get_or cells m.cell no_cell in
      let is_cut = (cuts_exactly g ok (var_of l) (cut_for g l m)).0 (cut-listed cells g l m k) in
      let a = (agrees_iff g ok l c (data_of l m) (omega (arith, lib.few m.cell k.has_cell, o.four)) is_cut).0 k.agrees in
      by_cell {c = c} (get_at cells m.cell no_cell k.has_cell)
      (record { is_cut = is_cut; nontrivial = k.nontrivial; is_order = o; no_high_bit = a.no_high_bit; in_leaves = a.in_leaves; rows = a.rows })

  match_numbers : (l : ℕ) (n : CellMatch) (c : Cell) → At cells n.cell c → Matches g l c n → SameMatch l (numbers_of l n) n × IsMatch cells g l (numbers_of l n)
  unfolding cell_at cut_at
  match_numbers l n c a k =
      let at_cut = index_at n.cut (cuts_of g (var_of l)) ((cuts_exactly g ok (var_of l) n.cut).1 k.is_cut) in
      let at_order = index_at n.order orders ((order_iff n.order).1 k.is_order) in
      let e = at_get [] at_cut in
      let f = at_get [] at_order in
      let q : get_or cells n.cell no_cell ≡ c = at_get no_cell a in
      let few : c.pins ≤ 4 = rw q at (lib.few n.cell (at-below a)) in (
        record { cut = e; cell = refl; order = f; mask = refl },
        record {
          has_cut = at-below at_cut;
          nontrivial = rw e k.nontrivial;
          has_cell = at-below a;
          has_order = subst (λ (j : ℕ). index_of n.order orders < j) orders-count (at-below at_order);
          agrees = rw (e, f, q)
              ((agrees_iff g ok l c n (omega (arith, k.is_order.four)) k.is_cut).1 (record { no_high_bit = k.no_high_bit; in_leaves = k.in_leaves; rows = k.rows }));
        },
      )

  -- ---- what feeds a match

  abbrev nets_of : CellMatch → List ℕ
  nets_of n = fed_nets (cell_at cells n.cell).pins n.order n.mask n.cut

  feeds-same : (l : ℕ) (m : Match) (n : CellMatch) → SameMatch l m n → feeds cells (cuts_of g) l (Matched m) ≡ nets_of n
  unfolding feeds match_nets
  feeds-same l m n e = cc

  delays-same : (l : ℕ) (m : Match) (n : CellMatch) → SameMatch l m n → (cell_of cells (Matched m)).delays ≡ (cell_at cells n.cell).delays
  unfolding cell_of
  delays-same l m n e = cc

  fed_data : (l : ℕ) (n : CellMatch) {x d : ℕ} → FedBy cells l (matched n) x d → (j : ℕ) × At (nets_of n) j x × (get_or (cell_at cells n.cell).delays j 0 ≡ d)
  unfolding cell_at
  fed_data l n (by_pin {c = c} {j = j} {p = p} {v = v} a h b at_cut delay) =
      let q : get_or cells n.cell no_cell ≡ c = at_get no_cell a in (
        j,
        subst (λ (u : ℕ). At (fed_nets (get_or cells n.cell no_cell).pins n.order n.mask n.cut) j (literal (bit n.mask j) u)) (at_get 0 at_cut)
            (fed-at (get_or cells n.cell no_cell).pins n.order n.mask n.cut (rw q h) b),
        rw q (at_get 0 delay),
      )

  data_fed : (l : ℕ) (n : CellMatch) (c : Cell) → At cells n.cell c → Matches g l c n → (j x : ℕ) → At (nets_of n) j x → FedBy cells l (matched n) x (get_or (cell_at cells n.cell).delays j 0)
  unfolding cell_at
  data_fed l n c a k j x b =
      let q : get_or cells n.cell no_cell ≡ c = at_get no_cell a in
      let o = fed_out (get_or cells n.cell no_cell).pins n.order n.mask n.cut j x b in
      let h : j < (get_or cells n.cell no_cell).pins = o.1 in
      rw o.3 (by_pin (get_at cells n.cell no_cell (at-below a)) h o.2 (get_at n.cut o.0 0 (k.in_leaves j o.0 (rw q at h) o.2))
      (get_at (get_or cells n.cell no_cell).delays j 0 (omega (arith, lib.four n.cell (at-below a), lib.few n.cell (at-below a)))))

  -- ---- sources

  -- a source by numbers and by data that is allowed
  pub record Linked (l : ℕ) (s : Numbered) (r : Source) : Type 0 where
    pub same : Same l s r
    pub by_numbers : AllowedBy cells g l s
    pub by_data : Allowed listed cells g l r

  -- what is allowed by numbers is by data
  pub data_linked : (l : ℕ) (s : Numbered) → AllowedBy cells g l s → Linked l s (to_data l s)
  unfolding to_data
  data_linked l Input k = record { same = same_own; by_numbers = k; by_data = own k }
  data_linked l Nothing k = absurd k
  data_linked l (Matched m) k = record { same = same_data l (Matched m); by_numbers = k; by_data = match_data l m k }
  data_linked l (Inverted j) k =
      let i = (inverter_iff listed cells lib j).0 (k.has_cell, k.inverts) in
      record { same = same_inverter; by_numbers = k; by_data = by_inverter i.is_listed i.one_pin i.table }

  -- and the other way round
  pub numbers_linked : (l : ℕ) (r : Source) → Allowed listed cells g l r → Linked l (to_numbers l r) r
  unfolding to_numbers
  numbers_linked l own_net (own k) = record { same = same_own; by_numbers = k; by_data = own k }
  numbers_linked l (matched n) (by_cell {c = c} a k) =
      let o = match_numbers l n c a k in
      record { same = same_match o.0; by_numbers = o.1; by_data = by_cell a k }
  numbers_linked l (inverter j) (by_inverter {c = c} a p t) =
      let i = (inverter_iff listed cells lib j).1 (record { cell = c; is_listed = a; one_pin = p; table = t }) in
      record { same = same_inverter; by_numbers = record { has_cell = i.0; inverts = i.1 }; by_data = by_inverter a p t }

  -- what feeds a source
  pub fed_to : (l : ℕ) {s : Numbered} {r : Source} → Same l s r → {x d : ℕ} → FedBy cells l r x d
      → (j : ℕ) × At (feeds cells (cuts_of g) l s) j x × (get_or (cell_of cells s).delays j 0 ≡ d)
  unfolding feeds cell_of cell_at
  fed_to l (same_match {m = m} {n = n} e) {x = x} f =
      let o = fed_data l n f in
      (o.0, subst (λ (xs : List ℕ). At xs o.0 x) (sym (feeds-same l m n e)) o.1, ap (λ (ds : List ℕ). get_or ds o.0 0) (delays-same l m n e) ∙ o.2)
  fed_to l same_inverter (by_opposite a b) = (0, first, rw (at_get no_cell a) (at_get 0 b))
  fed_to l same_own {x = x} {d = d} f = elim f [ ]
  fed_to l same_none {x = x} {d = d} f = elim f [ ]

  pub fed-from : (l : ℕ) {s : Numbered} {r : Source} → Same l s r → Allowed listed cells g l r → (j x : ℕ) → At (feeds cells (cuts_of g) l s) j x
      → FedBy cells l r x (get_or (cell_of cells s).delays j 0)
  unfolding feeds cell_of cell_at
  fed-from l (same_match {m = m} {n = n} e) (by_cell {c = c} a k) j x b =
      subst (λ (ds : List ℕ). FedBy cells l (matched n) x (get_or ds j 0)) (sym (delays-same l m n e))
      (data_fed l n c a k j x (subst (λ (xs : List ℕ). At xs j x) (feeds-same l m n e) b))
  fed-from l (same_inverter {k = k}) (by_inverter a p t) j x first =
      let low = (lib.front k (at-below a)).0 in
      by_opposite (get_at cells k no_cell low) (get_at (get_or cells k no_cell).delays 0 0 (omega (arith, lib.four k low)))
  fed-from l same_own _ j x b = elim b [ ]
  fed-from l same_none _ j x b = elim b [ ]
  fed-from l (same_inverter {k = k}) (by_inverter {c = c} a p t) _ x (Rattle.promises.specs.Covers.later {i = i} x28) = elim x28 [ ]

  -- ---- arrivals

  module _ (at : ℕ → ℕ) (l : ℕ) {s : Numbered} {r : Source} (same : Same l s r) (k : Allowed listed cells g l r) where
    abbrev time : ℕ
    time = latest (map at (feeds cells (cuts_of g) l s)) (cell_of cells s).delays

    latest_to : (t : ℕ) → Latest cells at l r t → t ≡ time
    latest_to t h = le_antisymm (⊎_elim (λ e. let z = e.1 in omega arith) below h.reached) (⊎_elim (λ e. let z = e.1 in omega arith) above
        (latest-one (map at (feeds cells (cuts_of g) l s)) (cell_of cells s).delays))
      where
        below : (x : ℕ) × (d : ℕ) × FedBy cells l r x d × (t ≡ at x + d) → t ≤ time
        below f =
            let o = fed_to l same f.2 in
            let b = latest-over (map at (feeds cells (cuts_of g) l s)) (cell_of cells s).delays (map_at at o.1) in
            let e = o.2 in
            let q = f.3 in
            omega arith

        above : (j : ℕ) × (u : ℕ) × At (map at (feeds cells (cuts_of g) l s)) j u × (time ≡ u + get_or (cell_of cells s).delays j 0) → time ≤ t
        above f =
            let o = at_map at (feeds cells (cuts_of g) l s) f.2 in
            let b = h.no_later o.0 (get_or (cell_of cells s).delays f.0 0) (fed-from l same k f.0 o.0 o.1) in
            let e = o.2 in
            let q = f.3 in
            omega arith

    to_latest : Latest cells at l r time
    to_latest = record {
      no_later = λ x d f.
          let o = fed_to l same f in
          let b = latest-over (map at (feeds cells (cuts_of g) l s)) (cell_of cells s).delays (map_at at o.1) in
          let e = o.2 in
          omega arith;
      reached = ⊎_elim (λ e. inl ((λ x d f. Memᴰ-not-nil (rw e.0 at (at_in (map_at at (fed_to l same f).1)))), e.1))
          (λ f. let o = at_map at (feeds cells (cuts_of g) l s) f.2 in let e = o.2 in let q = f.3 in
          inr (o.0, get_or (cell_of cells s).delays f.0 0, fed-from l same k f.0 o.0 o.1, omega arith))
          (latest-one (map at (feeds cells (cuts_of g) l s)) (cell_of cells s).delays);
    }

  arrives_to : (at : ℕ → ℕ) (l : ℕ) {s : Numbered} {r : Source} {t : ℕ} → Same l s r → AllowedBy cells g l s → Allowed listed cells g l r → Arrives cells g at l r t
      → t ≡ arrival_by cells g at l s
  unfolding arrival_by
  arrives_to at l same_own n d as_input = refl
  arrives_to at l same_none n d a = absurd n
  arrives_to at l {t = t} (same_match e) n d (as_matched h) = latest_to at l (same_match e) d t h
  arrives_to at l {t = t} same_inverter n d (as_inverter h) = latest_to at l same_inverter d t h

  to_arrives : (at : ℕ → ℕ) (l : ℕ) {s : Numbered} {r : Source} → Same l s r → AllowedBy cells g l s → Allowed listed cells g l r
      → Arrives cells g at l r (arrival_by cells g at l s)
  unfolding arrival_by
  to_arrives at l same_own n d = as_input
  to_arrives at l same_none n d = absurd n
  to_arrives at l (same_match e) n d = as_matched (to_latest at l (same_match e) d)
  to_arrives at l same_inverter n d = as_inverter (to_latest at l same_inverter d)

  -- a source by data arrives by the rule exactly when it does by numbers
  pub arrives_iff : (at : ℕ → ℕ) (l : ℕ) {s : Numbered} {r : Source} → Linked l s r → (t : ℕ) → Arrives cells g at l r t ↔ (t ≡ arrival_by cells g at l s)
  arrives_iff at l {r = r} k t = (
    arrives_to at l k.same k.by_numbers k.by_data,
    (λ e. subst (Arrives cells g at l r) (sym e) (to_arrives at l k.same k.by_numbers k.by_data)),
  )
