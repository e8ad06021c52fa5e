-- A group is read exactly as the conditions say: 22, then 23, then 24, at its first line's offset.
use Rattle.base.specs.{ℕ, ◌≤◌, ◌≡◌, refl, sym, ◌∙◌, subst, List, T, T_not, not_T, length}
use Rattle.model.specs.{holds, fault, unless, from?, Group, group_formed, group_small, read_group}
use Rattle.model.specs.Genlib.{Gate, gate_of}
use Rattle.promises.specs.{Exactly}
use Rattle.theory_graph.proofs.{by_option}
use Rattle.theory_genlib.proofs.{none-some}
use Rattle.theory_refusals.proofs.{Result, held, refused, exactly, on, unless-yes, unless_no}
use Rattle.promises.specs.GateForms.{GateSays, PinSays}
use Rattle.promises.specs.GateRefusals.{Small, IsGate}
use Rattle.theory_genlib_refusals.proofs.GroupForms.{FormedLines, formed_exactly, small_exactly}
use Rattle.theory_genlib_refusals.proofs.CellTextForms.{cell_form, cell-back}

-- the cell of a group that none of 22 to 24 refuses
pub record GroupHolds (g : Group) (c : Gate) : Type 0 where
  pub says : GateSays
  pub lines : List PinSays
  pub pins : List (List ℕ)
  pub formed : FormedLines g says lines
  pub small : Small says pins
  pub cell : IsGate says lines pins c

-- its refusal: each number's condition, and none of those before it
pub data GroupFault (g : Group) : ℕ → ℕ → Type 0 where
  twenty_two : (¬ ((h : GateSays) × (ps : List PinSays) × FormedLines g h ps)) → GroupFault g 22 g.head.offset
  twenty_three : {h : GateSays} {ps : List PinSays} → FormedLines g h ps → (¬ ((pins : List (List ℕ)) × Small h pins)) → GroupFault g 23 g.head.offset
  twenty_four : {h : GateSays} {ps : List PinSays} {pins : List (List ℕ)} → FormedLines g h ps → Small h pins → (¬ ((c : Gate) × IsGate h ps pins c)) → GroupFault g 24 g.head.offset

module _ (g : Group) (short : length g.head.bytes ≤ 65536) where
  last : (h : GateSays) (ps : List PinSays) (pins : List (List ℕ)) → FormedLines g h ps → Small h pins → Result (GroupHolds g) (GroupFault g) (from? (gate_of g) 24 g.head.offset)
  unfolding from?
  last h ps pins f s = by_option (gate_of g)
      (λ e. rw e (unfold from? in refused (twenty_four f s (λ p. none-some (sym e ∙ cell-back g h ps pins short f s p.0 p.1)))))
      (λ c q. rw q (unfold from? in held
      (record { says = h; lines = ps; pins = pins; formed = f; small = s; cell = cell_form g h ps pins short f s c q })))

  result : Result (GroupHolds g) (GroupFault g) (read_group g)
  unfolding read_group
  result = on (group_formed g) yes (λ t. unfold read_group in subst (Result (GroupHolds g) (GroupFault g)) (sym (unless_no (group_formed g) 22
      g.head.offset (unless (group_small g) 23 g.head.offset (from? (gate_of g) 24 g.head.offset)) t))
      (refused (twenty_two (λ p. T_not (group_formed g) t ((formed_exactly g).1 p)))))
    where
      yes : T (group_formed g) → Result (GroupHolds g) (GroupFault g) (read_group g)
      yes t = unfold read_group in let p = (formed_exactly g).0 t in rw (unless-yes (group_formed g) 22 g.head.offset
          (unless (group_small g) 23 g.head.offset (from? (gate_of g) 24 g.head.offset)) t)
          (on (group_small g) (small p.0 p.1 p.2) (λ x. subst (Result (GroupHolds g) (GroupFault g))
          (sym (unless_no (group_small g) 23 g.head.offset (from? (gate_of g) 24 g.head.offset) x))
          (refused (twenty_three p.2 (λ q. T_not (group_small g) x ((small_exactly g p.0 p.2.is_head).1 q))))))
        where
          small : (h : GateSays) (ps : List PinSays) → FormedLines g h ps → T (group_small g) → Result (GroupHolds g) (GroupFault g) (unless (group_small g) 23 g.head.offset (from? (gate_of g) 24 g.head.offset))
          small h ps f k =
              let q = (small_exactly g h f.is_head).0 k in
              subst (Result (GroupHolds g) (GroupFault g)) (sym (unless-yes (group_small g) 23 g.head.offset (from? (gate_of g) 24 g.head.offset) k)) (last h ps q.0 f q.1)

  formed-read : (h : GateSays) (ps : List PinSays) → FormedLines g h ps → read_group g ≡ unless (group_small g) 23 g.head.offset (from? (gate_of g) 24 g.head.offset)
  unfolding read_group
  formed-read h ps f = unless-yes (group_formed g) 22 g.head.offset _ ((formed_exactly g).1 (h, ps, f))

  small-read : (h : GateSays) (ps : List PinSays) (pins : List (List ℕ)) → FormedLines g h ps → Small h pins → read_group g ≡ from? (gate_of g) 24 g.head.offset
  small-read h ps pins f s = formed-read h ps f ∙ unless-yes (group_small g) 23 g.head.offset _ ((small_exactly g h f.is_head).1 (pins, s))

  holds_read : (c : Gate) → GroupHolds g c → read_group g ≡ holds c
  unfolding from?
  holds_read c p = cc (
    small-read p.says p.lines p.pins p.formed p.small,
    cell-back g p.says p.lines p.pins short
        p.formed p.small c p.cell,
  )

  fault-read : (n k : ℕ) → GroupFault g n k → read_group g ≡ fault n k
  unfolding read_group from?
  fault-read n k (twenty_two f) = unless_no (group_formed g) 22 g.head.offset _ (not_T (group_formed g) (λ t. f ((formed_exactly g).0 t)))
  fault-read n k (twenty_three {h} {ps} f s) = formed-read h ps f ∙ unless_no (group_small g) 23 g.head.offset _ (not_T (group_small g) (λ t. s ((small_exactly g h f.is_head).0 t)))
  fault-read n k (twenty_four {h} {ps} {pins} f s c) = small-read h ps pins f s ∙ by_option (gate_of g) (λ e. rw e (unfold from? in refl))
      (λ d q. rw q (absurd (c (d, cell_form g h ps pins short f s d q))))

  pub group_exactly : Exactly (GroupHolds g) (GroupFault g) (read_group g)
  group_exactly = exactly (read_group g) result holds_read fault-read
