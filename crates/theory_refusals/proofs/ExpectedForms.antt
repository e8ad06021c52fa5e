-- Expected lines are read exactly where the text has them, and 11, 12 and 13 come exactly by their conditions.
use mir.Facts.{not_T}
use Rattle.base.specs.{ℕ, suc, ◌+◌, ◌-◌, ◌*◌, ◌/◌, ◌%◌, arith, ◌≡◌, refl, sym, ◌∙◌, ap, ap₂, subst, ◌⊎◌, inl, inr, ◌↔◌, ⊎_elim, Bool, true}
use Rattle.base.specs.{false, not, cond, false≢true, ◌&&◌, ◌||◌, Option, None, Some, List, [], ◌∷◌, ◌++◌, map, append-nil, append_assoc}
use Rattle.base.specs.{Memᴰ, Memᴰ-head, Memᴰ-tail, Memᴰ-not-nil, Memᴰ-append_cases, Memᴰ-append_left}
use Rattle.base.specs.{Memᴰ-append_right, T, eqb, leb, length, get_or, length-append, and_yes, yes_and, leb_yes, yes_leb, eqb_yes, yes_eqb}
use Rattle.base.specs.{eqb_no, no_eqb, T_not-not}
use Rattle.model.specs.{all, elem, Line, lines_from, Read, holds, fault, next, unless, from?, closed, Kind, an_input, an_output, an_and}
use Rattle.model.specs.{defines, Item, item_literals, read_expected}
use Rattle.promises.specs.{Exactly, Defining, input_defines, and_defines, first_var, ExpectedLine, Lawful, DefinedBy, Again, ExpectedIn, no_line, a_line}
use Rattle.promises.specs.{ExpectedFault, eleven, twelve, thirteen, ExpectedHolds, ExpectedRefused}
use Rattle.theory_graph.proofs.{is_true, all_of, all_in, elem_in, elem_out, by_bool, by_option}
use Rattle.theory_refusals.proofs.LineFormLaws.{Found, first-split, lines_none, found-begins, begins-read, none-begins}
use Rattle.theory_refusals.proofs.ReadResults.{Result, held, refused, exactly, unless-yes, unless_no, on, next-holds, next-fault}
use Rattle.theory_refusals.proofs.ReadResults.{next-next, next-same, result-next, result_as}
use Rattle.theory_refusals.proofs.NumberLines.{reads-expected}

-- ---- what a kind defines

defining : (k : Kind) → T (defines k) → Defining k
unfolding defines
defining an_input t = input_defines
defining an_output t = absurd t
defining an_and t = and_defines

defined : {k : Kind} → Defining k → T (defines k)
unfolding defines
defined input_defines = tt
defined and_defines = tt

-- ---- 12

abbrev is_lawful : ℕ → Kind → List ℕ → Bool
is_lawful m k ns = all (λ (n : ℕ). leb n (2 * m + 1)) ns && (not (defines k) || (eqb (get_or ns 0 0 % 2) 0 && not (eqb (get_or ns 0 0) 0)))

lawful_form : (m : ℕ) (k : Kind) (ns : List ℕ) → T (is_lawful m k ns) → Lawful m k ns
lawful_form m k ns t = record {
  low = λ l i. leb_yes (all_of (λ (n : ℕ). leb n (2 * m + 1)) ns p.0 l i);
  even = λ d. (let q = and_yes (eqb ((get_or ns 0 0) % 2) 0) (not (eqb (get_or ns 0 0) 0))
      (by_bool (defines k) (λ e. rw e at p.1) (λ q. absurd (rw q at (defined d)))) in let e : (get_or ns 0 0) % 2 ≡ 0 = eqb_yes
      q.0 in let n : ¬ ((get_or ns 0 0) ≡ 0) = eqb_no q.1 in ((get_or ns 0 0) / 2 - 1, omega arith));
}
  where
    p : T (all (λ (n : ℕ). leb n (2 * m + 1)) ns) × T (not (defines k) || (eqb (get_or ns 0 0 % 2) 0 && not (eqb (get_or ns 0 0) 0)))
    p = and_yes (all (λ (n : ℕ). leb n (2 * m + 1)) ns) (not (defines k) || (eqb (get_or ns 0 0 % 2) 0 && not (eqb (get_or ns 0 0) 0))) t

lawful_back : (m : ℕ) (k : Kind) (ns : List ℕ) → Lawful m k ns → T (is_lawful m k ns)
lawful_back m k ns h =
    yes_and (all (λ (n : ℕ). leb n (2 * m + 1)) ns) (not (defines k) || (eqb (get_or ns 0 0 % 2) 0 && not (eqb (get_or ns 0 0) 0))) (all_in (λ (n : ℕ). leb n (2 * m + 1)) ns (λ l i. yes_leb (h.low l i)))
    (either (defines k) (λ t. h.even (defining k t)))
  where
    either : (b : Bool) → (T b → (v : ℕ) × (get_or ns 0 0 ≡ 2 * suc v)) → T (not b || (eqb (get_or ns 0 0 % 2) 0 && not (eqb (get_or ns 0 0) 0)))
    either true f =
        yes_and (eqb (get_or ns 0 0 % 2) 0) (not (eqb (get_or ns 0 0) 0)) (yes_eqb {a = get_or ns 0 0 % 2} {b = 0} (omega (arith, (f tt).1)))
        (no_eqb (let d : ¬ (get_or ns 0 0 ≡ 0) = λ z. omega (arith, (f tt).1) in d))
    either false f = tt

-- ---- 13

-- the variables that the reader has noted are those that the lines define
abbrev Known : List ℕ → List Item → Type 0
Known before is = (v : ℕ) → Memᴰ v before ↔ DefinedBy is v

abbrev is_new : Kind → List ℕ → List ℕ → Bool
is_new k before ns = not (defines k && elem (first_var ns) before)

new_form : (k : Kind) (before : List ℕ) (is : List Item) (ns : List ℕ) → Known before is → T (is_new k before ns) → ¬ Again k is ns
new_form k before is ns known t a = by_bool (defines k) (λ e. by_bool (elem (first_var ns) before) (λ q. rw q at (rw e at t))
    (λ p. false≢true (rw p at (elem_in (first_var ns) before ((known (first_var ns)).1 a.1))))) (λ r. rw r at (defined a.0))

new_back : (k : Kind) (before : List ℕ) (is : List Item) (ns : List ℕ) → Known before is → T (not (is_new k before ns)) → Again k is ns
new_back k before is ns known t =
    let p = and_yes (defines k) (elem (first_var ns) before) (T_not-not (defines k && elem (first_var ns) before) t) in
    (defining k p.0, (known (first_var ns)).0 (elem_out (first_var ns) before (is_true (elem (first_var ns) before) p.1)))

-- the lines with one more, and what the reader then has noted
abbrev noted : Kind → List ℕ → List ℕ → List ℕ
noted k ns before = cond (defines k) (first_var ns ∷ before) before

known_more : (before : List ℕ) (is : List Item) (i : Item) → Known before is → Known (noted i.kind i.literals before) (is ++ (i ∷ []))
known_more before is i known v = go (defines i.kind) (defining i.kind) (λ d. defined d)
  where
    there : DefinedBy is v → DefinedBy (is ++ (i ∷ [])) v
    there d = (d.0, Memᴰ-append_left (i ∷ []) d.1, d.2, d.3)

    back : (j : Item) → Memᴰ j is ⊎ Memᴰ j (i ∷ []) → Defining j.kind → v ≡ first_var j.literals → DefinedBy is v ⊎ (Defining i.kind × (v ≡ first_var i.literals))
    back j (inl m) d e = inl (j, m, d, e)
    back j (inr (Memᴰ-head q)) d e = inr (subst (λ (x : Item). Defining x.kind) q d, e ∙ ap (λ (x : Item). first_var x.literals) q)
    back j (inr (Memᴰ-tail n)) d e = absurd (Memᴰ-not-nil n)

    out : DefinedBy (is ++ (i ∷ [])) v → DefinedBy is v ⊎ (Defining i.kind × (v ≡ first_var i.literals))
    out d = back d.0 (Memᴰ-append_cases is d.1) d.2 d.3

    go : (b : Bool) → (T b → Defining i.kind) → (Defining i.kind → T b) → Memᴰ v (cond b (first_var i.literals ∷ before) before) ↔ DefinedBy (is ++ (i ∷ [])) v
    go true f g = (from-head, λ d. ⊎_elim (λ q. Memᴰ-tail ((known v).1 q)) (λ e. Memᴰ-head e.1) (out d))
      where
        from-head : Memᴰ v (first_var i.literals ∷ before) → DefinedBy (is ++ (i ∷ [])) v
        from-head (Memᴰ-head e) = (i, Memᴰ-append_right is (Memᴰ-head refl), f tt, e)
        from-head (Memᴰ-tail m) = there ((known v).0 m)
    go false f g = ((λ m. there ((known v).0 m)), λ d. ⊎_elim (λ q. (known v).1 q) (λ e. absurd (g e.0)) (out d))

-- ---- the lines

kinds-more : (is : List Item) (i : Item) (ks : List Kind) → map (λ (x : Item). x.kind) (is ++ (i ∷ [])) ++ ks ≡ map (λ (x : Item). x.kind) is ++ (i.kind ∷ ks)
kinds-more [] i ks = refl
kinds-more (j ∷ is) i ks = ap (λ (xs : List Kind). j.kind ∷ xs) (kinds-more is i ks)

module _ (is_binary : Bool) (end m start : ℕ) where
  abbrev item_of : Kind → ℕ → List ℕ → Item
  item_of k at ns = record { kind = k; offset = at; literals = ns }

  abbrev read : List ℕ → List Kind → List Line → Read (List Item)
  read before ks ls = read_expected (closed is_binary) end m before ks ls

  abbrev later : List ℕ → List Kind → List Line → Kind → ℕ → List ℕ → Read (List Item)
  later before ks ls k at ns = next (read (noted k ns before) ks ls) (λ is. holds (item_of k at ns ∷ is))

  abbrev validated : List ℕ → List Kind → List Line → Kind → ℕ → List ℕ → Read (List Item)
  validated before ks ls k at ns = unless (is_lawful m k ns) 12 at (unless (is_new k before ns) 13 at (later before ks ls k at ns))

  expected-line : (before : List ℕ) (k : Kind) (ks : List Kind) (l : Line) (ls : List Line) (ns : List ℕ) → item_literals (closed is_binary) k l ≡ Some ns
      → read before (k ∷ ks) (l ∷ ls) ≡ validated before ks ls k l.offset ns
  unfolding read_expected from? next
  expected-line before k ks l ls ns e = ap (λ (o : Option (List ℕ)). next (from? o 11 l.offset) (validated before ks ls k l.offset)) e

  expected-none : (before : List ℕ) (k : Kind) (ks : List Kind) (l : Line) (ls : List Line) → item_literals (closed is_binary) k l ≡ None → read before (k ∷ ks) (l ∷ ls) ≡ fault 11 l.offset
  unfolding read_expected from? next
  expected-none before k ks l ls e = ap (λ (o : Option (List ℕ)). next (from? o 11 l.offset) (validated before ks ls k l.offset)) e

  expected_passes : (before : List ℕ) (k : Kind) (ks : List Kind) (l : Line) (ls : List Line) (ns : List ℕ) → item_literals (closed is_binary) k l ≡ Some ns → T (is_lawful m k ns) → T (is_new k before ns)
      → read before (k ∷ ks) (l ∷ ls) ≡ later before ks ls k l.offset ns
  expected_passes before k ks l ls ns e a b = expected-line before k ks l ls ns e ∙ unless-yes (is_lawful m k ns) 12 l.offset _ a ∙ unless-yes (is_new k before ns) 13 l.offset _ b

  -- the reader behind lines that are accepted
  record Run (s : List ℕ) (is : List Item) : Type 0 where
    before : List ℕ
    known : Known before is
    run : (ks : List Kind) (rest : List ℕ)
        → read [] (map (λ (x : Item). x.kind) is ++ ks) (lines_from start [] (s ++ rest)) ≡ next (read before ks (lines_from (start + length s) [] rest)) (λ js. holds (is ++ js))

  expected-run : {s : List ℕ} {is : List Item} → ExpectedIn is_binary m start s is → Run s is
  expected-run no_line = record {
    before = [];
    known = λ v. ((λ n. absurd (Memᴰ-not-nil n)), λ d. absurd (Memᴰ-not-nil d.1));
    run = λ ks rest.
        ap (λ (n : ℕ). read [] ks (lines_from n [] rest)) (let q : start ≡ start + 0 = omega arith in q) ∙ sym (next-holds (read [] ks (lines_from (start + 0) [] rest)));
  }
  expected-run (a_line {s} {l} {is} {k} {ns} lines line lawful new) = more (expected-run lines)
    where
      more : Run s is → Run (s ++ l) (is ++ (item_of k (start + length s) ns ∷ []))
      more r = record {
        before = noted k ns r.before;
        known = known_more r.before is (item_of k (start + length s) ns) r.known;
        run = λ ks rest.
            let b = (reads-expected is_binary k).back (start + length s) l rest ns line in
            let ls = lines_from (start + length s + length l) [] rest in
            let at : b.line.offset ≡ start + length s = (first-split (start + length s) (l ++ rest) b.line ls b.lines).offset in
            ap₂ (λ (xs : List Kind) (t : List ℕ). read [] xs (lines_from start [] t)) (kinds-more is (item_of k (start + length s) ns) ks) (append_assoc s l rest)
            ∙ r.run (k ∷ ks) (l ++ rest)
            ∙ ap (λ (xs : List Line). next (read r.before (k ∷ ks) xs) (λ js. holds (is ++ js))) b.lines
            ∙ ap (λ (x : Read (List Item)). next x (λ js. holds (is ++ js)))
            (expected_passes r.before k ks b.line ls ns b.read (lawful_back m k ns lawful) (on (is_new k r.before ns) (λ t. t) (λ t. absurd (new (new_back k r.before is ns r.known t))))
            ∙ ap (λ (x : ℕ). later r.before ks ls k x ns) at)
            ∙ next-next (read (noted k ns r.before) ks ls) (λ js. item_of k (start + length s) ns ∷ js) (λ js. is ++ js)
            ∙ next-same (read (noted k ns r.before) ks ls) (λ js. is ++ (item_of k (start + length s) ns ∷ js)) (λ js. (is ++ (item_of k (start + length s) ns ∷ [])) ++ js)
            (λ js. sym (append_assoc is (item_of k (start + length s) ns ∷ []) js))
            ∙ ap (λ (n : ℕ). next (read (noted k ns r.before) ks (lines_from n [] rest)) (λ js. holds ((is ++ (item_of k (start + length s) ns ∷ [])) ++ js)))
            (let q : start + length s + length l ≡ start + length (s ++ l) = omega (arith, length-append s l) in q);
      }

  -- ---- what comes of the lines

  expected-fault : (before : List ℕ) (is : List Item) → Known before is → (k : Kind) (ks : List Kind) (at : ℕ) (t : List ℕ) (l : Line) (ls : List Line) (n : ℕ) → lines_from at [] t ≡ l ∷ ls
      → ExpectedFault is_binary m is k t n → read before (k ∷ ks) (l ∷ ls) ≡ fault n l.offset
  expected-fault before is known k ks at t l ls n e (eleven x) = by_option (item_literals (closed is_binary) k l)
      (λ f. expected-none before k ks l ls f)
      (λ ns q. absurd (x (ns, found-begins (reads-expected is_binary k) ((reads-expected is_binary k).form at t l ls e ns q))))
  expected-fault before is known k ks at t l ls n e (twelve {ns} b x) =
      expected-line before k ks l ls ns (begins-read (reads-expected is_binary k) at t l ls e ns b) ∙ unless_no (is_lawful m k ns) 12 l.offset _ (not_T (is_lawful m k ns) (λ u. x (lawful_form m k ns u)))
  expected-fault before is known k ks at t l ls n e (thirteen {ns} b y x) =
      expected-line before k ks l ls ns (begins-read (reads-expected is_binary k) at t l ls e ns b) ∙ unless-yes (is_lawful m k ns) 12 l.offset _ (lawful_back m k ns y)
      ∙ unless_no (is_new k before ns) 13 l.offset _ (not_T (is_new k before ns) (λ u. new_form k before is ns known u x))

  lines-held : (ks : List Kind) (t : List ℕ) (is : List Item) → ExpectedHolds is_binary m start ks t is → read [] ks (lines_from start [] t) ≡ holds is
  unfolding read_expected next
  lines-held ks t is h =
      cc (h.kinds, append-nil (map (λ (x : Item). x.kind) is), h.whole, (expected-run h.lines).run [] h.behind, append-nil is)

  no_lines_lem : (at : ℕ) (t : List ℕ) (k : Kind) (is : List Item) (n : ℕ) → lines_from at [] t ≡ [] → ExpectedFault is_binary m is k t n → n ≡ 11
  no_lines_lem at t k is n e (eleven x) = refl
  no_lines_lem at t k is n e (twelve {ns} b x) = absurd (none-begins (reads-expected is_binary k) at t e ns b)
  no_lines_lem at t k is n e (thirteen {ns} b y x) = absurd (none-begins (reads-expected is_binary k) at t e ns b)

  lines-refused : (ks : List Kind) (t : List ℕ) (n place : ℕ) → end ≡ start + length t → ExpectedRefused is_binary m start ks t n place → read [] ks (lines_from start [] t) ≡ fault n place
  unfolding read_expected
  lines-refused ks t n place ends h =
      let r = expected-run h.lines in
      cc (
        h.kinds,
        h.whole,
        r.run (h.kind ∷ h.later) h.behind,
        go r.before r.known
            (lines_from (start + length h.front) [] h.behind) refl,
      )
    where
      go : (before : List ℕ) → Known before h.items → (ls : List Line) → lines_from (start + length h.front) [] h.behind ≡ ls
          → next (read before (h.kind ∷ h.later) ls) (λ js. holds (h.items ++ js)) ≡ fault n place
      go before known [] e = next-fault (read before (h.kind ∷ h.later) []) (λ js. holds (h.items ++ js)) n place (ap₂
          (λ (x y : ℕ). fault x y) (sym (no_lines_lem (start + length h.front) h.behind h.kind h.items n e h.is_fault))
          (let q : end ≡ place = omega (
            arith,
            ap length (lines_none (start + length h.front) h.behind e),
            ap length h.whole
                ∙ length-append h.front h.behind,
            ends,
            h.is_place,
          ) in q))
      go before known (l ∷ ls) e = next-fault (read before (h.kind ∷ h.later) (l ∷ ls)) (λ js. holds (h.items ++ js)) n place (cc (
        expected-fault before h.items known h.kind h.later (start + length h.front) h.behind l ls n e h.is_fault,
        (first-split
            (start + length h.front) h.behind l ls e).offset,
        h.is_place,
      ))

  expected-result : (ls : List Line) (ks : List Kind) (s rest : List ℕ) (is : List Item) (before : List ℕ) → ExpectedIn is_binary m start s is → Known before is
      → lines_from (start + length s) [] rest ≡ ls → end ≡ start + (length s + length rest)
      → Result (λ js. ExpectedHolds is_binary m start (map (λ (x : Item). x.kind) is ++ ks) (s ++ rest) (is ++ js)) (ExpectedRefused is_binary m start (map (λ (x : Item). x.kind) is ++ ks) (s ++ rest)) (read before ks ls)
  unfolding read_expected
  expected-result ls [] s rest is before lines known e ends = held (record {
    front = s;
    behind = rest;
    whole = refl;
    lines = subst (ExpectedIn is_binary m start s) (sym (append-nil is)) lines;
    kinds = ap (map (λ (x : Item). x.kind)) (append-nil is) ∙ sym (append-nil (map (λ (x : Item). x.kind) is));
  })
  expected-result [] (k ∷ ks) s rest is before lines known e ends =
      let zero_left : length rest ≡ 0 = ap length (lines_none (start + length s) rest e) in
      let at-end : end ≡ start + length s = omega arith in
      refused (record {
        front = s;
        behind = rest;
        items = is;
        kind = k;
        later = ks;
        whole = refl;
        lines = lines;
        kinds = refl;
        is_fault = eleven (λ p. none-begins (reads-expected is_binary k) (start + length s) rest e p.0 p.1);
        is_place = at-end;
      })
  expected-result (l ∷ ls) (k ∷ ks) s rest is before lines known e ends = by_option (item_literals (closed is_binary) k l) (λ f. fails 11
      (expected-none before k ks l ls f) (eleven (λ p. let z : None ≡ Some p.0 = sym f
      ∙ begins-read (reads-expected is_binary k) (start + length s) rest l ls e p.0 p.1 in let y : false ≡ true = cc in false≢true y)))
      (λ ns q. let x = (reads-expected is_binary k).form (start + length s) rest l ls e ns q in let b = found-begins (reads-expected is_binary k) x in
      let is-validated = expected-line before k ks l ls ns q in on (is_lawful m k ns) (λ t. on (is_new k before ns)
      (λ u. accepted ns q t u x (expected-result ls ks)) (λ u. fails 13
      (is-validated ∙ unless-yes (is_lawful m k ns) 12 l.offset _ t ∙ unless_no (is_new k before ns) 13 l.offset _ u)
      (thirteen b (lawful_form m k ns t) (new_back k before is ns known u)))) (λ t. fails 12
      (is-validated ∙ unless_no (is_lawful m k ns) 12 l.offset _ t)
      (twelve b (λ h. lib.Dec.T_not (is_lawful m k ns) t (lawful_back m k ns h)))))
    where
      Here : Read (List Item) → Type 0
      Here = Result (λ js. ExpectedHolds is_binary m start (map (λ (x : Item). x.kind) is ++ (k ∷ ks)) (s ++ rest) (is ++ js)) (ExpectedRefused is_binary m start (map (λ (x : Item). x.kind) is ++ (k ∷ ks)) (s ++ rest))

      whole : Read (List Item)
      whole = read before (k ∷ ks) (l ∷ ls)

      fails : (n : ℕ) → whole ≡ fault n l.offset → ExpectedFault is_binary m is k rest n → Here whole
      fails n f x =
          result_as (fault n (start + length s)) whole (f ∙ ap (fault n) (first-split (start + length s) rest l ls e).offset)
          (refused (record { front = s; behind = rest; items = is; kind = k; later = ks; whole = refl; lines = lines; kinds = refl; is_fault = x; is_place = refl }))

      Later : Type 0
      Later = (s' rest' : List ℕ) (is' : List Item) (before' : List ℕ) → ExpectedIn is_binary m start s' is' → Known before' is'
          → lines_from (start + length s') [] rest' ≡ ls → end ≡ start + (length s' + length rest')
          → Result (λ js. ExpectedHolds is_binary m start (map (λ (x : Item). x.kind) is' ++ ks) (s' ++ rest') (is' ++ js)) (ExpectedRefused is_binary m start (map (λ (x : Item). x.kind) is' ++ ks) (s' ++ rest')) (read before' ks ls)

      accepted : (ns : List ℕ) → item_literals (closed is_binary) k l ≡ Some ns → T (is_lawful m k ns) → T (is_new k before ns) → Found (ExpectedLine is_binary k) (start + length s) rest ls ns → Later → Here whole
      accepted ns f a b x ih =
          let i = item_of k (start + length s) ns in
          let text-is : (s ++ x.front) ++ x.behind ≡ s ++ rest = append_assoc s x.front x.behind ∙ ap (λ (y : List ℕ). s ++ y) (sym x.whole) in
          let kinds_are : map (λ (y : Item). y.kind) (is ++ (item_of k (start + length s) ns ∷ [])) ++ ks ≡ map (λ (y : Item). y.kind) is ++ (k ∷ ks) = kinds-more is (item_of k (start + length s) ns) ks in
          let long : length rest ≡ length x.front + length x.behind = ap length x.whole ∙ length-append x.front x.behind in
          let front_long : length (s ++ x.front) ≡ length s + length x.front = length-append s x.front in
          let r = ih (s ++ x.front) x.behind (is ++ (item_of k (start + length s) ns ∷ [])) (noted k ns before) (a_line lines x.is (lawful_form m k ns a) (new_form k before is ns known b))
          (known_more before is (item_of k (start + length s) ns) known)
          (ap (λ (n : ℕ). lines_from n [] x.behind) (let q : start + length (s ++ x.front) ≡ start + length s + length x.front = omega arith in q) ∙ x.later) (omega arith) in
          result_as (later before ks ls k (start + length s) ns) whole
          (expected_passes before k ks l ls ns f a b ∙ ap (λ (n : ℕ). later before ks ls k n ns) (first-split (start + length s) rest l ls e).offset)
          (result-next (read (noted k ns before) ks ls) (λ js. item_of k (start + length s) ns ∷ js)
          (λ js h.
          record {
            front = h.front;
            behind = h.behind;
            whole = sym text-is ∙ h.whole;
            lines = subst (ExpectedIn is_binary m start h.front) (append_assoc is (item_of k (start + length s) ns ∷ []) js) h.lines;
            kinds = ap (map (λ (y : Item). y.kind)) (sym (append_assoc is (item_of k (start + length s) ns ∷ []) js)) ∙ h.kinds ∙ kinds_are;
          })
          (λ n place h.
          record {
            front = h.front;
            behind = h.behind;
            items = h.items;
            kind = h.kind;
            later = h.later;
            whole = sym text-is ∙ h.whole;
            lines = h.lines;
            kinds = h.kinds ∙ kinds_are;
            is_fault = h.is_fault;
            is_place = h.is_place;
          }) r)

-- the expected lines, whole: of a text `t` from place `start` on, of which `end` is the end
pub expected_exactly : (is_binary : Bool) (m start : ℕ) (ks : List Kind) (t : List ℕ) (end : ℕ) → end ≡ start + length t
    → Exactly (ExpectedHolds is_binary m start ks t) (ExpectedRefused is_binary m start ks t) (read_expected (closed is_binary) end m [] ks (lines_from start [] t))
expected_exactly is_binary m start ks t end ends = exactly (read_expected (closed is_binary) end m [] ks (lines_from start [] t)) (rw
    (let q : start + 0 ≡ start = omega arith in q) at (expected-result is_binary end m start (lines_from (start + 0) [] t) ks [] t [] [] no_line
    (λ v. ((λ n. absurd (Memᴰ-not-nil n)), λ d. absurd (Memᴰ-not-nil d.1))) refl (omega arith)))
    (λ is h. lines-held is_binary end m start ks t is h) (λ n k h. lines-refused is_binary end m start ks t n k ends h)
