-- The expected lines of a graph's text that are read, and what is known of lines however they were read.
use Rattle.base.specs.{ℕ, ◌+◌, ◌*◌, ◌/◌, ◌%◌, ◌≤◌, ◌<◌, arith, ◌≡◌, refl, sym, ◌∙◌, ap, ap₂, subst, ◌⊎◌, inl, inr, ⊎_elim, Bool, true}
use Rattle.base.specs.{false, not, cond, ◌&&◌, ◌||◌, List, [], ◌∷◌, map, Memᴰ, Memᴰ-head, Memᴰ-tail, Memᴰ-not-nil}
use Rattle.base.specs.{Memᴰ-cases_cons, T, eqb, leb, leb→le, T_not, length, get_or, and_yes, eqb_yes, eqb_no}
use Rattle.model.specs.{all, elem, only, Line, fields, numbers, holds, from?, var_of, Kind, an_input, an_output, an_and, how_many, defines, expected}
use Rattle.model.specs.{Item, item_literals, read_expected, defined_by, Distinct}
use Rattle.model.specs.declared.Header.{Header}
use Rattle.theory_graph.proofs.{elem-T, get_or_in, all_of}
use Rattle.theory_text.proofs.ReadSteps.{holds-once, fault_never, unless_out, from_out, next_out, then_out, only_out, numbers-length}

-- the first literal's variable
abbrev pub head : Item → ℕ
head i = var_of (get_or i.literals 0 0)

-- an item in range and of its kind's length
pub record Good (size : ℕ) (i : Item) : Type 0 where
  pub long : length i.literals ≡ how_many i.kind
  pub low : T (all (λ (n : ℕ). leb n (2 * size + 1)) i.literals)

-- what one expected line gives
record Step (is_closed : Line → Bool) (end size : ℕ) (before : List ℕ) (k : Kind) (ks : List Kind) (ls : List Line) (is : List Item) : Type 0 where
  item : Item
  rest : List Item
  is_kind' : item.kind ≡ k
  is_good : Good size item
  is_even : T (not (defines k) || (eqb (get_or item.literals 0 0 % 2) 0 && not (eqb (get_or item.literals 0 0) 0)))
  is_new : T (not (defines k && elem (head item) before))
  is_rest : read_expected is_closed end size (cond (defines k) (head item ∷ before) before) ks ls ≡ holds rest
  is_list : item ∷ rest ≡ is

expected-step : (is_closed : Line → Bool) (end size : ℕ) (before : List ℕ) (k : Kind) (ks : List Kind) (l : Line) (ls : List Line) (is : List Item)
    → read_expected is_closed end size before (k ∷ ks) (l ∷ ls) ≡ holds is → Step is_closed end size before k ks ls is
unfolding read_expected item_literals
expected-step is_closed end size before k ks l ls is e =
    let a = next_out (from? (item_literals is_closed k l) 11 l.offset) _ is e in
    let ns = a.0 in
    let o = then_out (only (is_closed l && eqb (length (fields l.bytes)) (how_many k)) (fields l.bytes)) numbers ns (from_out (item_literals is_closed k l) 11 l.offset ns a.1) in
    let t = only_out (is_closed l && eqb (length (fields l.bytes)) (how_many k)) (fields l.bytes) o.0 o.1 in
    let long : length ns ≡ how_many k =
    numbers-length o.0 ns o.2 ∙ ap length (sym t.1) ∙ eqb_yes (and_yes (is_closed l) (eqb (length (fields l.bytes)) (how_many k)) t.0).1 in
    let b = unless_out (all (λ (n : ℕ). leb n (2 * size + 1)) ns && (not (defines k) || (eqb (get_or ns 0 0 % 2) 0 && not (eqb (get_or ns 0 0) 0)))) 12 l.offset _ is a.2 in
    let p = and_yes (all (λ (n : ℕ). leb n (2 * size + 1)) ns) (not (defines k) || (eqb (get_or ns 0 0 % 2) 0 && not (eqb (get_or ns 0 0) 0))) b.0 in
    let c = unless_out (not (defines k && elem (var_of (get_or ns 0 0)) before)) 13 l.offset _ is b.1 in
    let d = next_out (read_expected is_closed end size (cond (defines k) (var_of (get_or ns 0 0) ∷ before) before) ks ls) (λ js. holds (record { kind = k; offset = l.offset; literals = ns } ∷ js)) is c.1 in
    record {
      item = record { kind = k; offset = l.offset; literals = ns };
      rest = d.0;
      is_kind' = refl;
      is_good = record { long = long; low = p.0 };
      is_even = p.1;
      is_new = c.0;
      is_rest = d.1;
      is_list = holds-once d.2;
    }

-- ---- what the expected lines give

pub expected-kinds : (is_closed : Line → Bool) (end size : ℕ) (before : List ℕ) (ks : List Kind) (ls : List Line) (is : List Item) → read_expected is_closed end size before ks ls ≡ holds is → map (λ (i : Item). i.kind) is ≡ ks
unfolding read_expected
expected-kinds is_closed end size before [] ls is e = ap (map (λ (i : Item). i.kind)) (sym (holds-once e))
expected-kinds is_closed end size before (k ∷ ks) [] is e = absurd (fault_never e)
expected-kinds is_closed end size before (k ∷ ks) (l ∷ ls) is e =
    let s = expected-step is_closed end size before k ks l ls is e in
    ap (map (λ (i : Item). i.kind)) (sym s.is_list)
    ∙ ap₂ (λ (a : Kind) (b : List Kind). a ∷ b) s.is_kind' (expected-kinds is_closed end size (cond (defines k) (head s.item ∷ before) before) ks ls s.rest s.is_rest)

pub expected-good : (is_closed : Line → Bool) (end size : ℕ) (before : List ℕ) (ks : List Kind) (ls : List Line) (is : List Item) → read_expected is_closed end size before ks ls ≡ holds is → (i : Item) → Memᴰ i is → Good size i
unfolding read_expected
expected-good is_closed end size before [] ls is e i m = absurd (Memᴰ-not-nil (subst (λ (js : List Item). Memᴰ i js) (sym (holds-once e)) m))
expected-good is_closed end size before (k ∷ ks) [] is e i m = absurd (fault_never e)
expected-good is_closed end size before (k ∷ ks) (l ∷ ls) is e i m =
    let s = expected-step is_closed end size before k ks l ls is e in
    ⊎_elim (λ q. subst (Good size) (sym q) s.is_good)
    (expected-good is_closed end size (cond (defines k) (head s.item ∷ before) before) ks ls s.rest s.is_rest i)
    (Memᴰ-cases_cons (subst (λ (js : List Item). Memᴰ i js) (sym s.is_list) m))

-- a variable that is defined: new, not 0, and in range
pub record Fresh (size : ℕ) (before : List ℕ) (x : ℕ) : Type 0 where
  pub is_new : ¬ Memᴰ x before
  pub nonzero : ¬ (x ≡ 0)
  pub small : x ≤ size

step-fresh : (is_closed : Line → Bool) (end size : ℕ) (before : List ℕ) (k : Kind) (ks : List Kind) (ls : List Line) (is : List Item) (s : Step is_closed end size before k ks ls is) → defines k ≡ true → Fresh size before (head s.item)
unfolding var_of defines how_many
step-fresh is_closed end size before k ks ls is s d =
    let even = subst (λ (b : Bool). T (not b || (eqb (get_or s.item.literals 0 0 % 2) 0 && not (eqb (get_or s.item.literals 0 0) 0)))) d
    s.is_even in
    let some-there : 0 < length s.item.literals = omega (arith, many s.item.kind, s.is_good.long) in
    record {
      is_new = λ m. T_not (elem (head s.item) before) (subst (λ (b : Bool). T (not (b && elem (head s.item) before))) d s.is_new) (elem-T (head s.item) before m);
      nonzero = λ e. let h : get_or s.item.literals 0 0 / 2 ≡ 0 = e in
          eqb_no (and_yes (eqb (get_or s.item.literals 0 0 % 2) 0) (not (eqb (get_or s.item.literals 0 0) 0)) even).1
          (let r : get_or s.item.literals 0 0 % 2 ≡ 0 = eqb_yes (and_yes (eqb (get_or s.item.literals 0 0 % 2) 0) (not (eqb (get_or s.item.literals 0 0) 0)) even).0 in
          let q : get_or s.item.literals 0 0 ≡ 0 = omega arith in q);
      small = let q : get_or s.item.literals 0 0 ≤ 2 * size + 1 =
          leb→le (get_or s.item.literals 0 0) (2 * size + 1)
          (all_of (λ (n : ℕ). leb n (2 * size + 1)) s.item.literals s.is_good.low (get_or s.item.literals 0 0) (get_or_in s.item.literals 0 0 some-there)) in omega arith;
    }
  where
    many : (j : Kind) → 0 < how_many j
    many an_input = omega arith
    many an_output = omega arith
    many an_and = omega arith

-- an item that defines, or one that doesn't
pub defined_cons : (b : Bool) (i : Item) (is : List Item) → defines i.kind ≡ b → defined_by (i ∷ is) ≡ cond b (head i ∷ defined_by is) (defined_by is)
unfolding defined_by
defined_cons b i is e = ap (λ (t : Bool). cond t (head i ∷ defined_by is) (defined_by is)) e

expected-fresh : (is_closed : Line → Bool) (end size : ℕ) (before : List ℕ) (ks : List Kind) (ls : List Line) (is : List Item) → read_expected is_closed end size before ks ls ≡ holds is
    → ((x : ℕ) → Memᴰ x (defined_by is) → Fresh size before x) × Distinct (defined_by is)
unfolding read_expected defined_by
expected-fresh is_closed end size before [] ls is e = rw (← holds-once e) ((λ x m. absurd (Memᴰ-not-nil m)), tt)
expected-fresh is_closed end size before (k ∷ ks) [] is e = absurd (fault_never e)
expected-fresh is_closed end size before (k ∷ ks) (l ∷ ls) is e = rw (← s.is_list)
    (go (defines k) refl (expected-fresh is_closed end size (cond (defines k) (head s.item ∷ before) before) ks ls s.rest s.is_rest))
  where
    s : Step is_closed end size before k ks ls is
    s = expected-step is_closed end size before k ks l ls is e

    wider : {x : ℕ} → Fresh size (head s.item ∷ before) x → Fresh size before x
    wider f = record { is_new = λ m. f.is_new (Memᴰ-tail m); nonzero = f.nonzero; small = f.small }

    Both : List ℕ → List ℕ → Type 0
    Both b ds = ((x : ℕ) → Memᴰ x ds → Fresh size b x) × Distinct ds

    go : (b : Bool) → defines k ≡ b → Both (cond (defines k) (head s.item ∷ before) before) (defined_by s.rest) → Both before (defined_by (s.item ∷ s.rest))
    go true d r =
        let r' : Both (head s.item ∷ before) (defined_by s.rest) = subst (λ (t : Bool). Both (cond t (head s.item ∷ before) before) (defined_by s.rest)) d r in
        subst (Both before) (sym (defined_cons true s.item s.rest (ap defines s.is_kind' ∙ d)))
        ((λ x m. first x (Memᴰ-cases_cons m) (r'.0 x)), ((λ m. (r'.0 (head s.item) m).is_new (Memᴰ-head refl)), r'.1))
      where
        first : (x : ℕ) → (x ≡ head s.item) ⊎ Memᴰ x (defined_by s.rest) → (Memᴰ x (defined_by s.rest) → Fresh size (head s.item ∷ before) x) → Fresh size before x
        first x (inl q) later = subst (Fresh size before) (sym q) (step-fresh is_closed end size before k ks ls is s d)
        first x (inr m) later = wider (later m)
    go false d r = rw (defined_cons false s.item s.rest (ap defines s.is_kind' ∙ d)) (rw d at r)

-- ---- what is known of lines that were read, however they were read

abbrev pub kinds_of : List Item → List Kind
kinds_of is = map (λ (i : Item). i.kind) is

-- the kinds are those that are expected; every literal is in range; every variable is defined once, in range, and none is 0
pub record Lawful (h : Header) (is : List Item) : Type 0 where
  pub kinds : kinds_of is ≡ expected h
  pub good : (i : Item) → Memᴰ i is → Good h.size i
  pub fresh : (x : ℕ) → Memᴰ x (defined_by is) → Fresh h.size [] x
  pub once : Distinct (defined_by is)

pub expected_lawful : (is_closed : Line → Bool) (end : ℕ) (h : Header) (ls : List Line) (is : List Item) → read_expected is_closed end h.size [] (expected h) ls ≡ holds is → Lawful h is
expected_lawful is_closed end h ls is e =
    let f = expected-fresh is_closed end h.size [] (expected h) ls is e in
    record {
      kinds = expected-kinds is_closed end h.size [] (expected h) ls is e;
      good = expected-good is_closed end h.size [] (expected h) ls is e;
      fresh = f.0;
      once = f.1;
    }
