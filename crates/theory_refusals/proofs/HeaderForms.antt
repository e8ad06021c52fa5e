-- The header is read exactly where the text begins with a line of its form, and 7, 8, 9 and 19 come exactly by their conditions.
use mir.Facts.{not_T}
use Rattle.base.specs.{ℕ, suc, ◌+◌, ◌≤◌, ◌<◌, arith, ◌≡◌, refl, sym, ◌∙◌, ap, subst, inl, inr, ⊎_elim, Bool, true, false, not, false≢true}
use Rattle.base.specs.{◌&&◌, ◌||◌, Option, None, Some, List, [], ◌∷◌, ◌++◌, append_assoc, T, eqb, leb, lit<, length, get_or, drop, and_yes}
use Rattle.base.specs.{yes_and, and_no, or_yes, eqb_yes, yes_eqb, eqb_no, no_eqb, leb_yes, leb_no}
use Rattle.model.specs.{same, and_then, only, Line, text, next_of, lines_from, fields, numbers, Read, holds, fault, next, unless, from?}
use Rattle.model.specs.{closed, header_of_numbers, header_of, in_limits, in_sequence, read_header}
use Rattle.model.specs.declared.Header.{Header}
use Rattle.promises.specs.{Begins, Word, aag, aig, Numbers, HeaderLine, joined, Exceeds, OutOfSequence, HeaderFault, seven, eight, nine}
use Rattle.promises.specs.{nineteen, HeaderHolds, Exactly}
use Rattle.theory_graph.proofs.{same-eq, is_true, by_bool, by_option, by_list}
use Rattle.theory_text.proofs.{then_out, only_out, Free}
use Rattle.theory_refusals.proofs.FieldForms.{joins, numbers_form_lem, numbers-back, numbers-count, numbers-free, AllFree, fields-joined}
use Rattle.theory_refusals.proofs.FieldForms.{joined_free}
use Rattle.theory_refusals.proofs.LineFormLaws.{first-split, ended-lines}
use Rattle.theory_refusals.proofs.ReadResults.{Result, held, refused, exactly, unless-yes, unless_no, on}

-- ---- the line

-- what is read of a line's fields
abbrev read_fields : Line → List (List ℕ) → Option Header
read_fields l ws =
    let is_binary = same (get_or ws 0 []) (text "aig") in
    and_then (only (closed is_binary l && (eqb (length ws) 6 && (is_binary || same (get_or ws 0 []) (text "aag")))) (drop 1 ws)) (λ vs.
    and_then (numbers vs) (λ ns. Some (header_of_numbers is_binary (next_of l) ns)))

head-fields : (l : Line) (ls : List Line) → header_of (l ∷ ls) ≡ read_fields l (fields l.bytes)
unfolding header_of
head-fields l ls = refl

-- five numbers
five : (fs : List (List ℕ)) (ns : List ℕ) (is_binary : Bool) (end : ℕ) → length ns ≡ 5 → Numbers fs ns
    → let h = header_of_numbers is_binary end ns in Numbers fs (h.size ∷ h.inputs ∷ h.latches ∷ h.outputs ∷ h.ands ∷ [])
unfolding header_of_numbers
five fs (m ∷ i ∷ l ∷ o ∷ a ∷ []) is_binary end e p = p
five fs [] is_binary end e p = let z : ⊥ = omega arith in absurd z
five fs (m ∷ []) is_binary end e p = let z : ⊥ = omega arith in absurd z
five fs (m ∷ i ∷ []) is_binary end e p = let z : ⊥ = omega arith in absurd z
five fs (m ∷ i ∷ l ∷ []) is_binary end e p = let z : ⊥ = omega arith in absurd z
five fs (m ∷ i ∷ l ∷ o ∷ []) is_binary end e p = let z : ⊥ = omega arith in absurd z
five fs (m ∷ i ∷ l ∷ o ∷ a ∷ x ∷ xs) is_binary end e p = let z : ⊥ = omega arith in absurd z

word-is : (w : List ℕ) → T (same w (text "aig") || same w (text "aag")) → Word w (same w (text "aig"))
word-is w t = go (same w (text "aig")) (λ u. same-eq w (text "aig") u) (λ u. same-eq w (text "aag") u) t
  where
    go : (b : Bool) → (T b → w ≡ text "aig") → (T (same w (text "aag")) → w ≡ text "aag") → T (b || same w (text "aag")) → Word w b
    go true u v t = subst (λ (x : List ℕ). Word x true) (sym (u tt)) aig
    go false u v t = subst (λ (x : List ℕ). Word x false) (sym (v t)) aag

-- a header is read from the line with which the text begins ..
line_form : (t : List ℕ) (l : Line) (ls : List Line) → lines_from 0 [] t ≡ l ∷ ls → (h : Header) → header_of (l ∷ ls) ≡ Some h → Begins HeaderLine t h
unfolding header_of_numbers
line_form t l ls e h r =
    let from_fields : (w : List ℕ) (ws : List (List ℕ)) → l.bytes ≡ joined (w ∷ ws) → read_fields l (w ∷ ws) ≡ Some h
    → Begins HeaderLine t h = λ w ws whole f. let b = same w (text "aig") in let o = then_out
    (only (closed b l && (eqb (suc (length ws)) 6 && (b || same w (text "aag")))) ws)
    (λ vs. and_then (numbers vs) (λ ns. Some (header_of_numbers b (next_of l) ns))) h f in let c = only_out
    (closed b l && (eqb (suc (length ws)) 6 && (b || same w (text "aag")))) ws o.0 o.1 in let n = then_out (numbers o.0)
    (λ ns. Some (header_of_numbers b (next_of l) ns)) h o.2 in let x = and_yes (closed b l)
    (eqb (suc (length ws)) 6 && (b || same w (text "aag"))) c.0 in let y = and_yes (eqb (suc (length ws)) 6) (b || same w (text "aag"))
    x.1 in let p : Numbers ws n.0 = numbers_form_lem ws n.0 (ap numbers c.1 ∙ n.1) in let z : Some
    (header_of_numbers b (next_of l) n.0) ≡ Some h = n.2 in let is : header_of_numbers b (next_of l) n.0 ≡ h = cc in let six : suc
    (length ws) ≡ 6 = eqb_yes y.0 in subst (Begins HeaderLine t) is
    (made w ws whole n.0 x.0 (omega (arith, numbers-count p, six)) p y.1) in
    let j = joins l.bytes in from_fields j.first j.others j.is_whole (cc (j.are_fields, head-fields l ls))
  where
    made : (w : List ℕ) (ws : List (List ℕ)) → l.bytes ≡ joined (w ∷ ws) → (ns : List ℕ) → T (closed (same w (text "aig")) l) → length ns ≡ 5 → Numbers ws ns
        → T (same w (text "aig") || same w (text "aag")) → Begins HeaderLine t (header_of_numbers (same w (text "aig")) (next_of l) ns)
    made w ws whole ns end count p word =
        let s = first-split 0 t l ls e in
        record {
          front = l.bytes ++ s.ending;
          behind = s.rest;
          whole = s.whole ∙ sym (append_assoc l.bytes s.ending s.rest);
          is = record {
            line = record {
              contents = l.bytes;
              ending = s.ending;
              whole = refl;
              ends = s.ends (same w (text "aig")) end;
              is = record { word = w; fields = ws; whole = whole; is_word = word-is w word; numbers = five ws ns (same w (text "aig")) (next_of l) count p };
            };
            next = s.next ∙ (let q : 0 + length (l.bytes ++ s.ending) ≡ length (l.bytes ++ s.ending) = omega arith in q);
          };
        }

-- .. and from every such line
word-free : (s : ℕ) → T (eqb s 10 || (eqb s 13 || eqb s 32)) → {w : List ℕ} {b : Bool} → Word w b → Free s w
unfolding text
word-free s t {w} {b} p = ⊎_elim (λ h. subst (λ (x : ℕ). Free x w) (sym (eqb_yes h)) (at-ten p))
    (λ q. ⊎_elim (λ h. subst (λ (x : ℕ). Free x w) (sym (eqb_yes h)) (at-thirteen p))
    (λ e. subst (λ (x : ℕ). Free x w) (sym (eqb_yes e)) (at-space p)) (or_yes (eqb s 13) (eqb s 32) q)) (or_yes (eqb s 10)
    (eqb s 13 || eqb s 32) t)
  where
    at-ten : {w : List ℕ} {b : Bool} → Word w b → Free 10 w
    at-ten aag = (refl, (refl, (refl, tt)))
    at-ten aig = (refl, (refl, (refl, tt)))

    at-thirteen : {w : List ℕ} {b : Bool} → Word w b → Free 13 w
    at-thirteen aag = (refl, (refl, (refl, tt)))
    at-thirteen aig = (refl, (refl, (refl, tt)))

    at-space : {w : List ℕ} {b : Bool} → Word w b → Free 32 w
    at-space aag = (refl, (refl, (refl, tt)))
    at-space aig = (refl, (refl, (refl, tt)))

fields_read : (l : Line) (w : List ℕ) (ws : List (List ℕ)) (ns : List ℕ) (b : Bool) → Word w b → T (closed b l) → Numbers ws ns → length ns ≡ 5
    → read_fields l (w ∷ ws) ≡ Some (header_of_numbers b (next_of l) ns)
unfolding same text and_then only
fields_read l w ws ns b p end q count =
    cc (
      is_word_lem p,
      is_true (closed b l && (eqb (suc (length ws)) 6 && (b || same w (text "aag")))) (yes_and (closed b l)
          (eqb (suc (length ws)) 6 && (b || same w (text "aag"))) end (yes_and (eqb (suc (length ws)) 6) (b || same w (text "aag"))
          (yes_eqb {a = suc (length ws)} {b = 6} (omega (arith, numbers-count q, count))) (or_word_lem p))),
      numbers-back q,
    )
  where
    is_word_lem : {v : List ℕ} {c : Bool} → Word v c → same v (text "aig") ≡ c
    is_word_lem aag = refl
    is_word_lem aig = refl

    or_word_lem : {v : List ℕ} {c : Bool} → Word v c → T (c || same v (text "aag"))
    or_word_lem aag = tt
    or_word_lem aig = tt

line-back : (t : List ℕ) (h : Header) → Begins HeaderLine t h → header_of (lines_from 0 [] t) ≡ Some h
unfolding header_of_numbers
line-back t h b =
    let k = b.is.line in
    let x = k.is in
    let free : (s : ℕ) → T (eqb s 10 || (eqb s 13 || eqb s 32)) → s < 48 → AllFree s (x.word ∷ x.fields) = λ s u v. (word-free s u x.is_word, numbers-free s v x.numbers) in
    let clear : (s : ℕ) → T (eqb s 10 || (eqb s 13 || eqb s 32)) → s < 32 → Free s k.contents = λ s u v. subst (Free s) (sym x.whole) (joined_free s v (x.word ∷ x.fields) (free s u (omega arith))) in
    let e = ended-lines h.binary 0 k.contents k.ending b.behind k.ends (clear 10 tt (lit< tt)) (clear 13 tt (lit< tt)) in
    let front : k.contents ++ k.ending ≡ b.front = sym k.whole in
    let lines : lines_from 0 [] t ≡ e.0 ∷ lines_from (0 + length (k.contents ++ k.ending)) [] b.behind = ap (lines_from 0 []) (b.whole ∙ ap (λ (y : List ℕ). y ++ b.behind) k.whole) ∙ e.1 in
    let after : next_of e.0 ≡ h.next = e.4 ∙ ap (λ (y : List ℕ). 0 + length y) front ∙ (let q : 0 + length b.front ≡ length b.front = omega arith in q) ∙ sym b.is.next in
    ap header_of lines
    ∙ head-fields e.0 (lines_from (0 + length (k.contents ++ k.ending)) [] b.behind)
    ∙ ap (read_fields e.0) (ap fields (e.2 ∙ x.whole) ∙ fields-joined x.word x.fields (free 32 tt (lit< tt)))
    ∙ fields_read e.0 x.word x.fields (h.size ∷ h.inputs ∷ h.latches ∷ h.outputs ∷ h.ands ∷ []) h.binary x.is_word e.3 x.numbers refl
    ∙ ap (λ (n : ℕ). Some (header_of_numbers h.binary n (h.size ∷ h.inputs ∷ h.latches ∷ h.outputs ∷ h.ands ∷ []))) after

-- ---- 7, 8, 9 and 19

within : (h : Header) → T (in_limits h) → ¬ Exceeds h
unfolding in_limits
within h t = go
  where
    a : T (leb h.size 4095) × T (leb h.outputs 4096 && leb (h.inputs + h.ands) h.size)
    a = and_yes (leb h.size 4095) (leb h.outputs 4096 && leb (h.inputs + h.ands) h.size) t

    b : T (leb h.outputs 4096) × T (leb (h.inputs + h.ands) h.size)
    b = and_yes (leb h.outputs 4096) (leb (h.inputs + h.ands) h.size) a.1

    go : ¬ Exceeds h
    go (inl x) = let q : h.size ≤ 4095 = leb_yes a.0 in omega arith
    go (inr (inl x)) = let q : h.outputs ≤ 4096 = leb_yes b.0 in omega arith
    go (inr (inr x)) = let q : h.inputs + h.ands ≤ h.size = leb_yes b.1 in omega arith

without : (h : Header) → T (not (in_limits h)) → Exceeds h
unfolding in_limits
without h t = ⊎_elim (λ u. inl (leb_no u)) (λ q. ⊎_elim (λ u. inr (inl (leb_no u))) (λ e. inr (inr (leb_no e)))
    (and_no (leb h.outputs 4096) (leb (h.inputs + h.ands) h.size) q))
    (and_no (leb h.size 4095) (leb h.outputs 4096 && leb (h.inputs + h.ands) h.size) t)

in_sequence_lem : (h : Header) → T (in_sequence h) → ¬ OutOfSequence h
unfolding in_sequence
in_sequence_lem h t o = by_bool h.binary (λ e. o.1 (eqb_yes (rw e at t))) (λ q. false≢true (rw q at o.0))

out_of_sequence : (h : Header) → T (not (in_sequence h)) → OutOfSequence h
unfolding in_sequence
out_of_sequence h t = by_bool h.binary (λ e. rw e (refl, eqb_no (rw e at t))) (λ q. rw q (absurd (rw q at t)))

-- the refusals of a header that has its form
abbrev validated : Header → Read Header
validated h = unless (eqb h.latches 0) 8 0 (unless (in_limits h) 9 0 (unless (in_sequence h) 19 0 (holds h)))

read-validated : (t : List ℕ) (h : Header) → header_of (lines_from 0 [] t) ≡ Some h → read_header t ≡ validated h
unfolding read_header from? next
read-validated t h e = ap (λ (o : Option Header). next (from? o 7 0) validated) e

read_none : (t : List ℕ) → header_of (lines_from 0 [] t) ≡ None → read_header t ≡ fault 7 0
unfolding read_header from? next
read_none t e = ap (λ (o : Option Header). next (from? o 7 0) validated) e

begins-header : (t : List ℕ) (h : Header) → header_of (lines_from 0 [] t) ≡ Some h → Begins HeaderLine t h
unfolding header_of
begins-header t h e = by_list (lines_from 0 [] t) (λ l. let z : false ≡ true = cc in absurd (false≢true z))
    (λ q ls p. line_form t q ls p h (rw p at e))

result : (t : List ℕ) → Result (HeaderHolds t) (HeaderFault t) (read_header t)
result t = by_option (header_of (lines_from 0 [] t)) (λ e. comes (fault 7 0) (read_none t e)
    (refused (seven (λ p. let z : None ≡ Some p.0 = sym e ∙ line-back t p.0 p.1 in let y : false ≡ true = cc in false≢true y))))
    (λ h q. let b = begins-header t h q in on (eqb h.latches 0) (λ u. on (in_limits h) (λ v. on (in_sequence h) (λ w. comes (holds h)
    (read-validated t h q ∙ unless-yes (eqb h.latches 0) 8 0 _ u ∙ unless-yes (in_limits h) 9 0 _ v
    ∙ unless-yes (in_sequence h) 19 0 (holds h) w)
    (held (record { begins = b; no_latch = eqb_yes u; in_limits = within h v; in_sequence = in_sequence_lem h w }))) (λ w. comes (fault 19 0)
    (read-validated t h q ∙ unless-yes (eqb h.latches 0) 8 0 _ u ∙ unless-yes (in_limits h) 9 0 _ v
    ∙ unless_no (in_sequence h) 19 0 (holds h) w) (refused (nineteen b (eqb_yes u) (within h v) (out_of_sequence h w))))) (λ v. comes
    (fault 9 0) (read-validated t h q ∙ unless-yes (eqb h.latches 0) 8 0 _ u ∙ unless_no (in_limits h) 9 0 _ v)
    (refused (nine b (eqb_yes u) (without h v)))))
    (λ u. comes (fault 8 0) (read-validated t h q ∙ unless_no (eqb h.latches 0) 8 0 _ u) (refused (eight b (eqb_no u)))))
  where
    comes : (r : Read Header) → read_header t ≡ r → Result (HeaderHolds t) (HeaderFault t) r → Result (HeaderHolds t) (HeaderFault t) (read_header t)
    comes r e x = subst (Result (HeaderHolds t) (HeaderFault t)) (sym e) x

refusals-read : (t : List ℕ) (n k : ℕ) → HeaderFault t n k → read_header t ≡ fault n k
refusals-read t n k (seven x) = by_option (header_of (lines_from 0 [] t)) (λ e. read_none t e) (λ h q. absurd (x (h, begins-header t h q)))
refusals-read t n k (eight {h} b x) = read-validated t h (line-back t h b) ∙ unless_no (eqb h.latches 0) 8 0 _ (no_eqb x)
refusals-read t n k (nine {h} b z x) =
    read-validated t h (line-back t h b) ∙ unless-yes (eqb h.latches 0) 8 0 _ (yes_eqb z) ∙ unless_no (in_limits h) 9 0 _ (not_T (in_limits h) (λ u. within h u x))
refusals-read t n k (nineteen {h} b z y x) =
    read-validated t h (line-back t h b) ∙ unless-yes (eqb h.latches 0) 8 0 _ (yes_eqb z)
    ∙ unless-yes (in_limits h) 9 0 _ (on (in_limits h) (λ u. u) (λ u. absurd (y (without h u)))) ∙ unless_no (in_sequence h) 19 0 (holds h) (not_T (in_sequence h) (λ u. in_sequence_lem h u x))

headers_read : (t : List ℕ) (h : Header) → HeaderHolds t h → read_header t ≡ holds h
headers_read t h x = cc (
  read-validated t h (line-back t h x.begins),
  unless-yes (eqb h.latches 0) 8 0 _
      (yes_eqb x.no_latch),
  unless-yes (in_limits h) 9 0 _ (on (in_limits h) (λ u. u) (λ u. absurd (x.in_limits (without h u)))),
  unless-yes
      (in_sequence h) 19 0 (holds h) (on (in_sequence h) (λ u. u) (λ u. absurd (x.in_sequence (out_of_sequence h u)))),
)

-- the header, whole
pub header_exactly : (t : List ℕ) → Exactly (HeaderHolds t) (HeaderFault t) (read_header t)
header_exactly t = exactly (read_header t) (result t) (headers_read t) (refusals-read t)
