-- The call: "1 is tried first, on the genlib text, 18 last for this memory". `genlib_exactly` goes by the groups of the text's lines; `call_from` takes the
-- statement of a call from that of the reading, over the bytes.
use Rattle.base.specs.{ℕ, ◌≤◌, ◌<◌, arith, ◌≡◌, refl, sym, subst, ◌⊎◌, inl, inr, ⊎_elim, List, [], T, leb, T_not, length, leb_yes, leb_no}
use Rattle.base.specs.{yes_leb}
use Rattle.model.specs.{lines_from, Read, holds, fault, next, unless, groups, read_genlib, cells_text, genlib_text}
use Rattle.model.specs.Genlib.{Gate}
use Rattle.promises.specs.{Exactly}
use Rattle.theory_text.proofs.{fault_never, in_fault}
use Rattle.theory_genlib.proofs.{group_short}
use Rattle.theory_refusals.proofs.{exactly_next, exactly_unless, exactly_holds, exactly_map, on, unless-yes, unless_no}
use Rattle.promises.specs.GateRefusals.{GatesIn, GenlibFault, Gates, CallFault, of_gates, eighteen, CallHolds, GenlibRefusals}
use Rattle.promises.specs.GateRefusals.{one}
use Rattle.theory_genlib_refusals.proofs.GroupsExactly.{GroupsHold, GroupsFault, groups_exactly}

pub genlib_exactly : (t : List ℕ) → length t ≤ 65536 → Exactly (GroupsHold (groups (lines_from 0 [] t))) (GroupsFault (groups (lines_from 0 [] t))) (read_genlib t)
unfolding read_genlib
genlib_exactly t h = groups_exactly (groups (lines_from 0 [] t)) (λ g m. let q : length g.head.bytes ≤ length t = group_short t g m in omega arith)

module _ (t : List ℕ) (bytes : ℕ) (e : Gates t) where
  abbrev rest : List Gate → Read (List ℕ)
  rest cs = unless (leb (length (cells_text cs)) bytes) 18 (length (cells_text cs)) (holds (cells_text cs))

  -- 18, of the text that is written for these gates
  last : (cs : List Gate)
      → Exactly (λ u. (length (cells_text cs) ≤ bytes) × (cells_text cs ≡ u)) (λ n k. ((¬ (length (cells_text cs) ≤ bytes)) × (n ≡ 18) × (k ≡ length (cells_text cs))) ⊎ ((length (cells_text cs) ≤ bytes) × ⊥)) (rest cs)
  last cs = exactly_unless (length (cells_text cs) ≤ bytes) (leb (length (cells_text cs)) bytes) 18 (length (cells_text cs)) (holds (cells_text cs)) leb_yes yes_leb (exactly_holds (cells_text cs))

  read : (h : length t ≤ 65536) → Exactly (CallHolds t bytes) (CallFault t bytes) (next (read_genlib t) rest)
  read h =
      exactly_map (next (read_genlib t) rest) (λ u. (there u, back u)) (λ n k. (down n k, up n k))
      (exactly_next (λ cs x u. (length (cells_text cs) ≤ bytes) × (cells_text cs ≡ u))
      (λ cs x n k. ((¬ (length (cells_text cs) ≤ bytes)) × (n ≡ 18) × (k ≡ length (cells_text cs))) ⊎ ((length (cells_text cs) ≤ bytes) × ⊥)) (read_genlib t) rest (e h) (λ cs x. last cs))
    where
      there : (u : List ℕ) → ((cs : List Gate) × (x : GatesIn t cs) × ((length (cells_text cs) ≤ bytes) × (cells_text cs ≡ u))) → CallHolds t bytes u
      there u p = record { short = h; gates = p.0; are_gates = p.1; is_text = p.2.1; capacity = subst (λ (x : List ℕ). length x ≤ bytes) p.2.1 p.2.0 }

      back : (u : List ℕ) → CallHolds t bytes u → (cs : List Gate) × (x : GatesIn t cs) × ((length (cells_text cs) ≤ bytes) × (cells_text cs ≡ u))
      back u p = (p.gates, p.are_gates, (subst (λ (x : List ℕ). length x ≤ bytes) (sym p.is_text) p.capacity, p.is_text))

      down : (n k : ℕ) → GenlibFault t n k ⊎ ((cs : List Gate) × (x : GatesIn t cs) × (((¬ (length (cells_text cs) ≤ bytes)) × (n ≡ 18) × (k ≡ length (cells_text cs))) ⊎ ((length (cells_text cs) ≤ bytes) × ⊥))) → CallFault t bytes n k
      down n k (inl f) = of_gates h f
      down n k (inr p) = ⊎_elim (λ q. let b : bytes < length (cells_text p.0) = leb_no
          (lib.Dec.not_T (leb (length (cells_text p.0)) bytes) (λ z. q.0 (leb_yes z))) in subst (λ (i : ℕ). CallFault t bytes i k)
          (sym q.1) (subst (λ (i : ℕ). CallFault t bytes 18 i) (sym q.2) (eighteen h p.1 b))) (λ e. absurd e.1) p.2

      up : (n k : ℕ) → CallFault t bytes n k → GenlibFault t n k ⊎ ((cs : List Gate) × (x : GatesIn t cs) × (((¬ (length (cells_text cs) ≤ bytes)) × (n ≡ 18) × (k ≡ length (cells_text cs))) ⊎ ((length (cells_text cs) ≤ bytes) × ⊥)))
      up n k (one l) = absurd (omega (arith, h, l))
      up n k (of_gates s f) = inl f
      up n k (eighteen {cs} s x b) = inr (cs, x, inl ((λ z. absurd (omega (arith, z, b))), refl, refl))

  refused : (¬ (length t ≤ 65536)) → Exactly (CallHolds t bytes) (CallFault t bytes) (fault 1 0)
  refused f = record {
    accepts = λ u. ((λ q. absurd (fault_never q)), λ p. absurd (f p.short));
    refuses = λ n k. (
      (λ q. (in_fault {A = List ℕ} (CallFault t bytes) 1 0
          (one (leb_no (lib.Dec.not_T (leb (length t) 65536) (λ z. f (leb_yes z)))))).has n k q),
      (λ x. elim x as (λ i j _. ◌≡◌ {A = Read (List ℕ)} (fault 1 0) (fault i j))
          [ one l ↦ refl | of_gates s g ↦ absurd (f s) | eighteen e r b ↦ absurd (f e) ]),
    );
  }

  pub call_from : GenlibRefusals t bytes
  unfolding genlib_text
  call_from = on (leb (length t) 65536) yes (λ k. unfold genlib_text in subst (Exactly (CallHolds t bytes) (CallFault t bytes))
      (sym (unless_no (leb (length t) 65536) 1 0 (next (read_genlib t) rest) k)) (refused (λ l. T_not (leb (length t) 65536) k (yes_leb l))))
    where
      yes : T (leb (length t) 65536) → GenlibRefusals t bytes
      yes k = unfold genlib_text in subst (Exactly (CallHolds t bytes) (CallFault t bytes)) (sym (unless-yes (leb (length t) 65536) 1 0 (next (read_genlib t) rest) k)) (read (leb_yes k))
