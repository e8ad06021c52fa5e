-- A line begins a group exactly where its first word is GATE, behind blanks.
use Rattle.base.specs.{ℕ, ◌≡◌, refl, sym, ◌∙◌, ap, subst, ◌↔◌, Bool, not, cond, List, [], ◌∷◌, ◌++◌, T, T_not, not_T, length, drop, and_yes}
use Rattle.base.specs.{yes_and, drop-append_seam}
use Rattle.model.specs.{all, same, Line, text, is_name_byte, is_blank, span, first_name, starts_gate}
use Rattle.promises.specs.{NameByte}
use Rattle.theory_graph.proofs.{same-eq, same_refl, is_true, is_false, all_of, all_in, by_bool}
use Rattle.theory_refusals.proofs.{byte_form, byte_back}
use Rattle.promises.specs.GateForms.{Stops}
use Rattle.promises.specs.GateRefusals.{Opens}
use Rattle.theory_genlib_refusals.proofs.WordForms.{blank_form, blank-back}

module _ (p : ℕ → Bool) where
  -- the bytes do not begin with one that passes
  abbrev Halts : List ℕ → Type 0
  Halts [] = Unit {0}
  Halts (b ∷ s) = T (not (p b))

  span-parts : (w : List ℕ) → T (all p (span p w)) × (w ≡ span p w ++ drop (length (span p w)) w) × Halts (drop (length (span p w)) w)
  unfolding span all
  span-parts [] = (tt, refl, tt)
  span-parts (b ∷ w) = by_bool (p b) (λ e. rw e (unfold all in
      (yes_and (p b) (all p (span p w)) (rw e tt) (span-parts w).0, ap (λ (y : List ℕ). b ∷ y) (span-parts w).1, (span-parts w).2)))
      (λ q. rw q (unfold all in (tt, refl, rw q tt)))

  span_none : (r : List ℕ) → Halts r → span p r ≡ []
  unfolding span
  span_none [] h = refl
  span_none (b ∷ r) h = ap (λ (x : Bool). cond x (b ∷ span p r) []) (is_false (p b) h)

  span-on : (a r : List ℕ) → T (all p a) → Halts r → span p (a ++ r) ≡ a
  unfolding span all
  span-on [] r t h = span_none r h
  span-on (b ∷ a) r t h = let q = and_yes (p b) (all p a) t in cc (is_true (p b) q.0, span-on a r q.1 h)

stops_form : (s : List ℕ) → Halts is_name_byte s → Stops NameByte s
stops_form [] h = tt
stops_form (b ∷ s) h = λ n. T_not (is_name_byte b) h (byte_back b n)

stops-back : (s : List ℕ) → Stops NameByte s → Halts is_name_byte s
stops-back [] h = tt
stops-back (b ∷ s) h = not_T (is_name_byte b) (λ t. h (byte_form b t))

pub opens_exactly : (l : Line) → T (starts_gate l) ↔ Opens l.bytes
unfolding starts_gate first_name
opens_exactly l = (
  (λ t. unfold starts_gate first_name in let a = span-parts is_blank l.bytes in let b = span-parts is_name_byte
      (drop (length (span is_blank l.bytes)) l.bytes) in let e = same-eq (first_name l.bytes) (text "GATE") t in record {
        blanks = span is_blank l.bytes;
        behind = drop (length (span is_name_byte (drop (length (span is_blank l.bytes)) l.bytes)))
            (drop (length (span is_blank l.bytes)) l.bytes);
        is_all = a.1 ∙ ap (λ (x : List ℕ). span is_blank l.bytes ++ x) (b.1 ∙ ap (λ (x : List ℕ).
            x ++ drop (length (span is_name_byte (drop (length (span is_blank l.bytes)) l.bytes)))
            (drop (length (span is_blank l.bytes)) l.bytes)) e);
        are_blanks = λ x m. blank_form x (all_of is_blank (span is_blank l.bytes) a.0 x m);
        ends = stops_form (drop (length (span is_name_byte (drop (length (span is_blank l.bytes)) l.bytes)))
            (drop (length (span is_blank l.bytes)) l.bytes)) b.2;
      }),
  (λ o. unfold starts_gate first_name in let x : span is_blank l.bytes ≡ o.blanks = ap (span is_blank) o.is_all
      ∙ span-on is_blank o.blanks (text "GATE" ++ o.behind) (all_in is_blank o.blanks (λ y m. blank-back y (o.are_blanks y m)))
      (unfold is_blank in tt) in let y : drop (length (span is_blank l.bytes)) l.bytes ≡ text "GATE" ++ o.behind = ap
      (λ (z : List ℕ). drop (length z) l.bytes) x ∙ ap (drop (length o.blanks)) o.is_all
      ∙ drop-append_seam o.blanks (text "GATE" ++ o.behind) in let z : first_name l.bytes ≡ text "GATE" = ap (span is_name_byte) y
      ∙ span-on is_name_byte (text "GATE") o.behind (unfold all is_name_byte in tt) (stops-back o.behind o.ends) in subst
      (λ (v : List ℕ). T (same v (text "GATE"))) (sym z) (same_refl (text "GATE"))),
)
