-- What is returned and left of the lent memory, by the sentences.
--     memory-left                 of every outcome whose netlist is no longer than the text memory
use Rattle.base.specs.{ℕ, zero, suc, ◌≤◌, le_of_suc-le-suc, not-suc-le-zero, arith, ◌≡◌, refl, sym, ◌∙◌, ap, subst, ⊎_elim, true, List, [], ◌∷◌, ◌++◌, Memᴰ}
use Rattle.base.specs.{Memᴰ-not-nil, Memᴰ-head, Memᴰ-tail, length, length-append, length-drop, length-replicate, drop, replicate, eqb, leb, leb→le, eqb→eq, or_yes, T, ◌||◌}
use Rattle.base.specs.{le-leb}
use Rattle.model.specs.{Outcome, refused, mapped, answer_of, returned_by, text_after, work_after, tried_early}
use Rattle.model.specs.declared.Figures.{Figures}
use Rattle.promises.specs.{Fits}
use Rattle.promises.specs.Covers.{At, first, later}
use Rattle.promises.specs.Left.{Early, to_ten, nineteenth, twenty_seventh, thirtieth, AllZero, Left}
use Rattle.theory_graph.proofs.{by_bool}

early-tried : {n : ℕ} → Early n → tried_early n ≡ true
early-tried (to_ten {n = n} h) = rw (le-leb n 10 h)
early-tried nineteenth = refl
early-tried twenty_seventh = refl
early-tried thirtieth = refl

tried-early : (n : ℕ) → T (tried_early n) → Early n
tried-early n t = ⊎_elim (λ a. to_ten (leb→le n 10 a)) (λ b. ⊎_elim (λ c. rw (eqb→eq n 19 c) nineteenth) (λ d. ⊎_elim (λ e. rw (eqb→eq n 27 e) twenty_seventh)
    (λ e. rw (eqb→eq n 30 e) thirtieth) (or_yes (eqb n 27) (eqb n 30) d)) (or_yes (eqb n 19) (eqb n 27 || eqb n 30) b))
    (or_yes (leb n 10) (eqb n 19 || (eqb n 27 || eqb n 30)) t)

zeros : (work : List ℕ) → AllZero work (replicate (length work) 0)
zeros work = record { as_many = length-replicate (length work) 0; zero = each (length work) }
  where
    each : (n w : ℕ) → Memᴰ w (replicate n 0) → w ≡ 0
    each zero w m = absurd (Memᴰ-not-nil m)
    each (suc n) w (Memᴰ-head e) = e
    each (suc n) w (Memᴰ-tail m) = each n w m

kept : (t text : List ℕ) (i b : ℕ) → length t ≤ i → At text i b → At (t ++ drop (length t) text) i b
kept [] text i b h a = a
kept (x ∷ t) (y ∷ text) zero b h first = absurd (not-suc-le-zero h)
kept (x ∷ t) (y ∷ text) (suc i) b h (later a) = later (kept t text i b (le_of_suc-le-suc h) a)
kept (x ∷ t) [] i b h a = elim a [ ]

pub memory-left : (o : Outcome) (bytes : ℕ) → Fits (answer_of o) bytes → Left o bytes
unfolding answer_of returned_by text_after work_after
memory-left (refused n k) bytes fit = record {
  refusal = λ m j e.
      let p : n ≡ m = cc in
      let q : k ≡ j = cc in
      record {
        number = p;
        place = q;
        gates = refl;
        area = refl;
        arrival = refl;
        bytes = λ text. refl;
        early = λ y work. rw (early-tried (rw (← p) at y));
        input_arrival = λ y work. by_bool (tried_early n) (λ t. absurd (y (rw p at (tried-early n (subst T (sym t) tt))))) (λ f. rw f (zeros work));
      };
  netlist = λ t f e. let z : ◌≡◌ {A = ℕ} 0 1 = cc in absurd (omega arith);
}
memory-left (mapped t f) bytes fit = record {
  refusal = λ n k e. let z : ◌≡◌ {A = ℕ} 0 1 = cc in absurd (omega arith);
  netlist = λ u h e.
      let p : t ≡ u = cc in
      let q : f ≡ h = cc in
      record {
        number = refl;
        size = ap length p;
        gates = ap (λ (x : Figures). x.gates) q;
        area = ap (λ (x : Figures). x.area) q;
        arrival = ap (λ (x : Figures). x.arrival) q;
        begins = λ text long. (drop (length t) text, ap (λ (s : List ℕ). s ++ drop (length t) text) p);
        as_long = λ text long. length-append t (drop (length t) text) ∙ omega (arith, length-drop (length t) text);
        keeps = λ text long i b low a. kept t text i b (rw (← p) at low) a;
        zero = zeros;
      };
}
