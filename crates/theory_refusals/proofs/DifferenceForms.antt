-- Differences and the ANDs of the binary form are read exactly where the bytes have the form, and 20 and 21 come exactly by their conditions.
use mir.Facts.{not_T}
use Rattle.base.specs.{ℕ, zero, suc, ◌+◌, ◌-◌, ◌*◌, ◌≤◌, ◌<◌, arith, ◌≡◌, refl, sym, ◌∙◌, ap, ap₂, subst, ◌⊎◌, inl, inr, ⊎_elim, Bool, true}
use Rattle.base.specs.{false, not, cond, ◌&&◌, List, [], ◌∷◌, ◌++◌, append-nil, append_assoc, T, eqb, leb, ltb, length, drop, length-append}
use Rattle.base.specs.{and_yes, yes_and, and_no, ltb_yes, yes_ltb, ltb_no, no_ltb, leb_yes, yes_leb, leb_no, no_leb, eqb_yes, eqb_no}
use Rattle.base.specs.{no_eqb, T_not-not, drop-append_seam}
use Rattle.model.specs.{Read, holds, fault, next, unless, an_and, Item, Passed, difference, less_by, read_ands}
use Rattle.promises.specs.{Difference, short, long, Begins, Exactly, AndsIn, no_and, one_and, AndFault, twenty, twenty_one, twenty_next}
use Rattle.promises.specs.{twenty_one_next, AndsHold, AndsRefused}
use Rattle.theory_graph.proofs.{is_true, is_false, by_read, by_nat}
use Rattle.theory_text.proofs.{fault_never}
use Rattle.theory_refusals.proofs.ReadResults.{Result, held, refused, exactly, unless-yes, unless_no, on, next-holds, next-next}
use Rattle.theory_refusals.proofs.ReadResults.{next-same, result-next, result_as}

-- ---- a difference

-- the text begins with a difference, and how far it reaches
record Reaches (t : List ℕ) (at : ℕ) (p : Passed) : Type 0 where
  begins : Begins Difference t p.number
  far : p.behind ≡ at + length begins.front

abbrev passed : ℕ → ℕ → Passed
passed n k = record { number = n; behind = k }

diff_read : (at : ℕ) {f : List ℕ} {x : ℕ} (r : List ℕ) → Difference f x → difference at (f ++ r) ≡ holds (passed x (at + length f))
unfolding difference
diff_read at [] (short {b} h) = unless-yes (ltb b 128) 20 at _ (yes_ltb h)
diff_read at (c ∷ r) (short {b} h) = ap (λ (t : Bool). cond t (holds (passed b (at + 1))) (unless (ltb c 128) 20 at (holds (passed (b - 128 + 128 * c) (at + 2))))) (is_true (ltb b 128) (yes_ltb h))
diff_read at r (long b {c} h) = cc (
  is_false (ltb (128 + b) 128) (no_ltb {a = 128 + b} {b = 128} (omega arith)),
  unless-yes
      (ltb c 128) 20 at _ (yes_ltb h),
  let q : 128 + b - 128 + 128 * c ≡ b + 128 * c = omega arith in q,
)

diff_back : (at : ℕ) (t : List ℕ) (x : ℕ) (b : Begins Difference t x) → difference at t ≡ holds (passed x (at + length b.front))
diff_back at t x b = ap (difference at) b.whole ∙ diff_read at b.behind b.is

empty-fault : (at : ℕ) → difference at [] ≡ fault 20 at
unfolding difference
empty-fault at = refl

one-fault : (at b : ℕ) → T (not (ltb b 128)) → difference at (b ∷ []) ≡ fault 20 at
unfolding difference
one-fault at b h = unless_no (ltb b 128) 20 at _ h

two-fault : (at b c : ℕ) (bs : List ℕ) → T (not (ltb b 128)) → T (not (ltb c 128)) → difference at (b ∷ c ∷ bs) ≡ fault 20 at
unfolding difference
two-fault at b c bs h k = cc (is_false (ltb b 128) h, unless_no (ltb c 128) 20 at _ k)

diff_result : (at : ℕ) (t : List ℕ) → Result (Reaches t at) (λ n k. (n ≡ 20) × (k ≡ at) × (¬ ((x : ℕ) × Begins Difference t x))) (difference at t)
diff_result at t = go t refl
  where
    Here : Read Passed → Type 0
    Here = Result (Reaches t at) (λ n k. (n ≡ 20) × (k ≡ at) × (¬ ((x : ℕ) × Begins Difference t x)))

    fails : difference at t ≡ fault 20 at → Here (difference at t)
    fails e = result_as (fault 20 at) (difference at t) e (refused (refl, refl, λ p. fault_never (sym e ∙ diff_back at t p.0 p.1)))

    reads : (x : ℕ) (f r : List ℕ) → t ≡ f ++ r → Difference f x → Here (difference at t)
    reads x f r e d =
        let b : Begins Difference t x = record { front = f; behind = r; whole = e; is = d } in
        result_as (holds (passed x (at + length f))) (difference at t) (diff_back at t x b) (held (record { begins = b; far = refl }))

    go : (u : List ℕ) → t ≡ u → Here (difference at t)
    go [] e = fails (ap (difference at) e ∙ empty-fault at)
    go (b ∷ []) e = on (ltb b 128) (λ h. reads b (b ∷ []) [] e (short (ltb_yes h))) (λ h. fails (ap (difference at) e ∙ one-fault at b h))
    go (b ∷ c ∷ bs) e = on (ltb b 128) (λ h. reads b (b ∷ []) (c ∷ bs) e (short (ltb_yes h))) (λ h. on (ltb c 128) (λ k.
        let l : 128 ≤ b = ltb_no h in reads (b - 128 + 128 * c) (b ∷ c ∷ []) bs e
        (subst (λ (x : ℕ). Difference (x ∷ c ∷ []) (b - 128 + 128 * c)) (let z : 128 + (b - 128) ≡ b = omega arith in z)
        (long (b - 128) (ltb_yes k)))) (λ k. fails (ap (difference at) e ∙ two-fault at b c bs h k)))

-- ---- an operand

drop-add : (m n : ℕ) (xs : List ℕ) → drop (m + n) xs ≡ drop n (drop m xs)
drop-add zero n xs = ap (λ (k : ℕ). drop k xs) (let q : 0 + n ≡ n = omega arith in q)
drop-add (suc m) n [] = ap (λ (k : ℕ). drop k []) (let q : suc m + n ≡ suc (m + n) = omega arith in q) ∙ sym (by_nat n (λ e. cc)
    (λ k q. cc))
drop-add (suc m) n (x ∷ xs) = ap (λ (k : ℕ). drop k (x ∷ xs)) (let q : suc m + n ≡ suc (m + n) = omega arith in q) ∙ drop-add m n xs

-- behind bytes at a place
pub drop-behind : (at : ℕ) (bytes f r : List ℕ) → drop at bytes ≡ f ++ r → drop (at + length f) bytes ≡ r
drop-behind at bytes f r e = drop-add at (length f) bytes ∙ ap (drop (length f)) e ∙ drop-append_seam f r

module _ (bytes : List ℕ) where
  abbrev is_fine : Bool → ℕ → ℕ → Bool
  is_fine is_first n x = not (is_first && eqb x 0) && leb x n

  less_read : (is_first : Bool) (at n x : ℕ) (b : Begins Difference (drop at bytes) x)
      → less_by is_first bytes at n ≡ unless (is_fine is_first n x) 21 at (holds (passed (n - x) (at + length b.front)))
  unfolding less_by next
  less_read is_first at n x b = cc (diff_back at (drop at bytes) x b)

  less_none : (is_first : Bool) (at n : ℕ) → (¬ ((x : ℕ) × Begins Difference (drop at bytes) x)) → less_by is_first bytes at n ≡ fault 20 at
  unfolding less_by next
  less_none is_first at n h = ap (λ (r : Read Passed). next r (λ d. unless (is_fine is_first n d.number) 21 at (holds (passed (n - d.number) d.behind)))) (go (difference at (drop at bytes)) (diff_result at (drop at bytes)))
    where
      go : (r : Read Passed) → Result (Reaches (drop at bytes) at) (λ m k. (m ≡ 20) × (k ≡ at) × (¬ ((x : ℕ) × Begins Difference (drop at bytes) x))) r → r ≡ fault 20 at
      go (holds p) (held x) = absurd (h (p.number, x.begins))
      go (fault m k) (refused x) = ap₂ (λ (a b : ℕ). fault a b) x.0 x.1

  -- either a difference stands at a place, or none
  look : (t : List ℕ) → ((x : ℕ) × Begins Difference t x) ⊎ (¬ ((x : ℕ) × Begins Difference t x))
  look t = by_read (difference 0 t) (λ p e. elim (rw e at (diff_result 0 t)) [ held q ↦ inl (p.number, q.begins) ])
      (λ m k r. elim (rw r at (diff_result 0 t)) [ refused z ↦ inr z.2 ])

  first_fine : (n x : ℕ) → T (is_fine true n x) → (¬ (x ≡ 0)) × (x ≤ n)
  first_fine n x t = let p = and_yes (not (eqb x 0)) (leb x n) t in (eqb_no p.0, leb_yes p.1)

  first_bad : (n x : ℕ) → T (not (is_fine true n x)) → (x ≡ 0) ⊎ (n < x)
  first_bad n x t = ⊎_elim (λ u. inl (eqb_yes (T_not-not (eqb x 0) u))) (λ q. inr (leb_no q)) (and_no (not (eqb x 0)) (leb x n) t)

  bad_first : (n x : ℕ) → (x ≡ 0) ⊎ (n < x) → T (not (is_fine true n x))
  bad_first n x h = not_T (is_fine true n x) (λ t. ⊎_elim (λ e. (first_fine n x t).0 e)
      (λ l. let q : x ≤ n = (first_fine n x t).1 in omega (arith, first_fine n x t)) h)

  -- ---- an AND

  abbrev and_item : ℕ → ℕ → ℕ → ℕ → Item
  and_item at left x y = record { kind = an_and; offset = at; literals = left ∷ (left - x) ∷ (left - x - y) ∷ [] }

  -- the second operand's reader, and what follows
  abbrev rest : ℕ → ℕ → ℕ → Passed → Read (List Item)
  rest at left n a = next (less_by false bytes a.behind a.number) (λ b. next (read_ands bytes b.behind (left + 2) n)
      (λ is. holds (record { kind = an_and; offset = at; literals = left ∷ a.number ∷ b.number ∷ [] } ∷ is)))

  and-read : (at left n : ℕ) → read_ands bytes at left (suc n) ≡ next (less_by true bytes at left) (rest at left n)
  unfolding read_ands
  and-read at left n = refl

  abbrev at_drop : (k : ℕ) (t : List ℕ) (y : ℕ) → drop k bytes ≡ t → Begins Difference t y → Begins Difference (drop k bytes) y
  at_drop k t y e b = record { front = b.front; behind = b.behind; whole = e ∙ b.whole; is = b.is }

  and_first : (at left n x : ℕ) (b : Begins Difference (drop at bytes) x) → (¬ (x ≡ 0)) → x ≤ left
      → read_ands bytes at left (suc n) ≡ rest at left n (passed (left - x) (at + length b.front))
  unfolding next
  and_first at left n x b h k = and-read at left n ∙ ap (λ (r : Read Passed). next r (rest at left n))
      (less_read true at left x b ∙ unless-yes (is_fine true left x) 21 at _ (yes_and (not (eqb x 0)) (leb x left) (no_eqb h) (yes_leb k)))

  and_second : (at left n x y : ℕ) (b : Begins Difference (drop at bytes) x) (c : Begins Difference b.behind y) → y ≤ left - x
      → rest at left n (passed (left - x) (at + length b.front))
      ≡ next (read_ands bytes (at + length b.front + length c.front) (left + 2) n) (λ is. holds (and_item at left x y ∷ is))
  unfolding next
  and_second at left n x y b c k =
      let d = at_drop (at + length b.front) b.behind y (drop-behind at bytes b.front b.behind b.whole) c in
      cc (less_read false (at + length b.front) (left - x) y d, unless-yes (leb y (left - x)) 21 (at + length b.front) _ (yes_leb k))

  and-fault : (at left n m far : ℕ) → AndFault left (drop at bytes) m far → read_ands bytes at left (suc n) ≡ fault m (at + far)
  unfolding next
  and-fault at left n m far (twenty x) = and-read at left n ∙ ap (λ (r : Read Passed). next r (rest at left n)) (less_none true at left x) ∙ ap (fault 20) (let q : at ≡ at + 0 = omega arith in q)
  and-fault at left n m far (twenty_one {x} b h) =
      and-read at left n ∙ ap (λ (r : Read Passed). next r (rest at left n)) (less_read true at left x b ∙ unless_no (is_fine true left x) 21 at _ (bad_first left x h)) ∙ ap (fault 21) (let q : at ≡ at + 0 = omega arith in q)
  and-fault at left n m far (twenty_next {x} b h k none?) =
      and_first at left n x b h k
      ∙ ap (λ (r : Read Passed). next r (λ z. next (read_ands bytes z.behind (left + 2) n) (λ is. holds (record { kind = an_and; offset = at; literals = left ∷ (left - x) ∷ z.number ∷ [] } ∷ is))))
      (less_none false (at + length b.front) (left - x) (λ p. none? (p.0, record { front = p.1.front; behind = p.1.behind; whole = sym (drop-behind at bytes b.front b.behind b.whole) ∙ p.1.whole; is = p.1.is })))
  and-fault at left n m far (twenty_one_next {x} {y} b h k c l) = cc (
    and_first at left n x b h k,
    less_read false (at + length b.front)
        (left - x) y (at_drop (at + length b.front) b.behind y (drop-behind at bytes b.front b.behind b.whole) c),
    unless_no
        (leb y (left - x)) 21 (at + length b.front) _ (no_leb l),
  )

  -- ---- the ANDs

  module _ (start left : ℕ) where
    abbrev left_of : List Item → ℕ
    left_of is = left + 2 * length is

    ands-run : {s : List ℕ} {is : List Item} → AndsIn start left s is → (n : ℕ) (t : List ℕ) → drop start bytes ≡ s ++ t
        → read_ands bytes start left (length is + n) ≡ next (read_ands bytes (start + length s) (left_of is) n) (λ js. holds (is ++ js))
    ands-run no_and n t e = cc (
      let q : 0 + n ≡ n = omega arith in q,
      next-holds
          (read_ands bytes start left n),
      let q : start ≡ start + 0 = omega arith in q,
      let q : left ≡ left + 2 * 0 = omega arith in q,
    )
    ands-run (one_and {s} {d} {e} {is} {x} {y} ands p nz low q low') n t f =
        let g : drop start bytes ≡ s ++ ((d ++ e) ++ t) = f ∙ append_assoc s (d ++ e) t in
        let here : drop (start + length s) bytes ≡ d ++ (e ++ t) = drop-behind start bytes s ((d ++ e) ++ t) g ∙ append_assoc d e t in
        let b : Begins Difference (drop (start + length s) bytes) x = record { front = d; behind = e ++ t; whole = here; is = p } in
        let c : Begins Difference (e ++ t) y = record { front = e; behind = t; whole = refl; is = q } in
        let at = start + length s in
        ap (read_ands bytes start left) (let z : length (is ++ (and_item (start + length s) (left_of is) x y ∷ [])) + n ≡ length is + suc n = omega (arith, length-append is (and_item (start + length s) (left_of is) x y ∷ [])) in z)
        ∙ ands-run ands (suc n) ((d ++ e) ++ t) g
        ∙ ap (λ (r : Read (List Item)). next r (λ js. holds (is ++ js))) (and_first (start + length s) (left_of is) n x b nz low ∙ and_second (start + length s) (left_of is) n x y b c low')
        ∙ next-next (read_ands bytes (start + length s + length d + length e) (left_of is + 2) n) (λ js. and_item (start + length s) (left_of is) x y ∷ js) (λ js. is ++ js)
        ∙ next-same (read_ands bytes (start + length s + length d + length e) (left_of is + 2) n) (λ js. is ++ (and_item (start + length s) (left_of is) x y ∷ js)) (λ js. (is ++ (and_item (start + length s) (left_of is) x y ∷ [])) ++ js)
        (λ js. sym (append_assoc is (and_item (start + length s) (left_of is) x y ∷ []) js))
        ∙ ap₂ (λ (u v : ℕ). next (read_ands bytes u v n) (λ js. holds ((is ++ (and_item (start + length s) (left_of is) x y ∷ [])) ++ js)))
        (let z : start + length s + length d + length e ≡ start + length (s ++ (d ++ e)) = omega (arith, length-append s (d ++ e), length-append d e) in z)
        (let z : left_of is + 2 ≡ left + 2 * length (is ++ (and_item (start + length s) (left_of is) x y ∷ [])) = omega (arith, length-append is (and_item (start + length s) (left_of is) x y ∷ [])) in z)

    ands-refused : (count : ℕ) (t : List ℕ) (n k : ℕ) → drop start bytes ≡ t → AndsRefused start left count t n k → read_ands bytes start left count ≡ fault n k
    unfolding next
    ands-refused count t n k e h = cc (
      let q : count ≡ length h.items + suc (count - suc (length h.items)) = omega
          (arith, h.fewer) in q,
      ands-run h.ands (suc (count - suc (length h.items))) h.behind (e ∙ h.whole),
      and-fault
          (start + length h.front) (left_of h.items) (count - suc (length h.items)) n h.far
          (rw (drop-behind start bytes h.front h.behind (e ∙ h.whole)) h.is_fault),
      h.is_place,
    )

    ands-result : (n : ℕ) (s rest : List ℕ) (is : List Item) → AndsIn start left s is → drop start bytes ≡ s ++ rest
        → Result (λ js. AndsHold start left (length is + n) (s ++ rest) (is ++ js)) (AndsRefused start left (length is + n) (s ++ rest)) (read_ands bytes (start + length s) (left_of is) n)
    unfolding read_ands
    ands-result zero s rest is ands e =
        held (record { front = s; behind = rest; whole = refl; ands = subst (AndsIn start left s) (sym (append-nil is)) ands; number = omega (arith, length-append is []) })
    ands-result (suc n) s rest is ands e = ⊎_elim (λ p. on (is_fine true (left_of is) p.0)
        (λ t. let f = first_fine (left_of is) p.0 t in ⊎_elim (λ c. on (leb c.0 (left_of is - p.0))
        (λ t. accepted p.0 c.0 p.1 c.1 f.0 f.1 (leb_yes t) (ands-result n))
        (λ t. fails 21 (length p.1.front) (twenty_one_next p.1 f.0 f.1 c.1 (leb_no t))))
        (λ q. fails 20 (length p.1.front) (twenty_next p.1 f.0 f.1 q)) (look p.1.behind))
        (λ t. fails 21 0 (twenty_one p.1 (first_bad (left_of is) p.0 t)))) (λ q. fails 20 0 (twenty q))
        (look (drop (start + length s) bytes))
      where
        here : drop (start + length s) bytes ≡ rest
        here = drop-behind start bytes s rest e

        whole : Read (List Item)
        whole = read_ands bytes (start + length s) (left_of is) (suc n)

        Here : Read (List Item) → Type 0
        Here = Result (λ js. AndsHold start left (length is + suc n) (s ++ rest) (is ++ js)) (AndsRefused start left (length is + suc n) (s ++ rest))

        Later : Type 0
        Later = (s' rest' : List ℕ) (is' : List Item) → AndsIn start left s' is' → drop start bytes ≡ s' ++ rest'
            → Result (λ js. AndsHold start left (length is' + n) (s' ++ rest') (is' ++ js)) (AndsRefused start left (length is' + n) (s' ++ rest')) (read_ands bytes (start + length s') (left_of is') n)

        fails : (m far : ℕ) → AndFault (left_of is) (drop (start + length s) bytes) m far → Here whole
        fails m far x =
            result_as (fault m (start + length s + far)) whole (and-fault (start + length s) (left_of is) n m far x)
            (refused (record { front = s; behind = rest; items = is; far = far; whole = refl; ands = ands; fewer = omega arith; is_fault = subst (λ (y : List ℕ). AndFault (left_of is) y m far) here x; is_place = refl }))

        accepted : (x y : ℕ) (b : Begins Difference (drop (start + length s) bytes) x) (c : Begins Difference b.behind y) → (¬ (x ≡ 0)) → x ≤ left_of is → y ≤ left_of is - x → Later → Here whole
        accepted x y b c nz low low' ih =
            let i = and_item (start + length s) (left_of is) x y in
            let text-is : (s ++ (b.front ++ c.front)) ++ c.behind ≡ s ++ rest =
            append_assoc s (b.front ++ c.front) c.behind
            ∙ ap (λ (z : List ℕ). s ++ z) (append_assoc b.front c.front c.behind ∙ ap (λ (z : List ℕ). b.front ++ z) (sym c.whole) ∙ sym b.whole ∙ here) in
            let count-is : length (is ++ (and_item (start + length s) (left_of is) x y ∷ [])) + n ≡ length is + suc n = omega (arith, length-append is (and_item (start + length s) (left_of is) x y ∷ [])) in
            let r = ih (s ++ (b.front ++ c.front)) c.behind (is ++ (and_item (start + length s) (left_of is) x y ∷ [])) (one_and ands b.is nz low c.is low') (e ∙ sym text-is) in
            result_as (next (read_ands bytes (start + length s + length b.front + length c.front) (left_of is + 2) n) (λ js. holds (and_item (start + length s) (left_of is) x y ∷ js))) whole
            (and_first (start + length s) (left_of is) n x b nz low ∙ and_second (start + length s) (left_of is) n x y b c low')
            (result-next (read_ands bytes (start + length s + length b.front + length c.front) (left_of is + 2) n) (λ js. and_item (start + length s) (left_of is) x y ∷ js)
            (λ js h.
            record {
              front = h.front;
              behind = h.behind;
              whole = sym text-is ∙ h.whole;
              ands = subst (AndsIn start left h.front) (append_assoc is (and_item (start + length s) (left_of is) x y ∷ []) js) h.ands;
              number = ap length (sym (append_assoc is (and_item (start + length s) (left_of is) x y ∷ []) js)) ∙ h.number ∙ count-is;
            })
            (λ m k h.
            record {
              front = h.front;
              behind = h.behind;
              items = h.items;
              far = h.far;
              whole = sym text-is ∙ h.whole;
              ands = h.ands;
              fewer = omega (arith, h.fewer, count-is);
              is_fault = h.is_fault;
              is_place = h.is_place;
            })
            (subst (Result (λ js. AndsHold start left (length (is ++ (and_item (start + length s) (left_of is) x y ∷ [])) + n) ((s ++ (b.front ++ c.front)) ++ c.behind) ((is ++ (and_item (start + length s) (left_of is) x y ∷ [])) ++ js))
            (AndsRefused start left (length (is ++ (and_item (start + length s) (left_of is) x y ∷ [])) + n) ((s ++ (b.front ++ c.front)) ++ c.behind)))
            (ap₂ (λ (u v : ℕ). read_ands bytes u v n)
            (let z : start + length (s ++ (b.front ++ c.front)) ≡ start + length s + length b.front + length c.front = omega (arith, length-append s (b.front ++ c.front), length-append b.front c.front) in z)
            (let z : left + 2 * length (is ++ (and_item (start + length s) (left_of is) x y ∷ [])) ≡ left_of is + 2 = omega (arith, length-append is (and_item (start + length s) (left_of is) x y ∷ [])) in z)) r))

    -- the ANDs, whole
    pub ands_exactly : (count : ℕ) → Exactly (AndsHold start left count (drop start bytes)) (AndsRefused start left count (drop start bytes)) (read_ands bytes start left count)
    ands_exactly count = exactly (read_ands bytes start left count) (rw (ap₂ (λ (u v : ℕ). read_ands bytes u v count)
        (let q : start + 0 ≡ start = omega arith in q) (let q : left + 2 * 0 ≡ left = omega arith in q)) at
        (rw (let q : 0 + count ≡ count = omega arith in q) at (ands-result count [] (drop start bytes) [] no_and refl)))
        (λ is h. (unfold read_ands next in ap (read_ands bytes start left) (let q : count ≡ length is + 0 = omega (arith, h.number) in q)
        ∙ ands-run h.ands 0 h.behind (refl ∙ h.whole) ∙ ap holds (append-nil is))) (λ n k h. ands-refused count
        (drop start bytes) n k refl h)
