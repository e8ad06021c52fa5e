-- The binary form of a graph's text: its inputs, output lines and ANDs are as lawful as expected lines, define 1 to I + A in sequence, and use nothing else.
use Rattle.base.specs.{ℕ, zero, suc, ◌+◌, ◌-◌, ◌*◌, ◌/◌, ◌≤◌, ◌<◌, le_of_eq, arith, ◌≡◌, refl, sym, ◌∙◌, ap, ap₂, subst, ◌⊎◌, inl, inr}
use Rattle.base.specs.{⊎_elim, Bool, true, false, not, ◌&&◌, List, [], ◌∷◌, ◌++◌, map, Memᴰ, Memᴰ-head, Memᴰ-tail}
use Rattle.base.specs.{Memᴰ-not-nil, Memᴰ-cases_cons, Memᴰ-append_cases, Memᴰ-append_left, Memᴰ-append_right, map-append}
use Rattle.base.specs.{cons≢nil, head-eq_of_cons-eq, tail-eq_of_cons-eq, T, eqb, leb, leb→le, le→leb, ltb, ltb→lt, nltb→le, length, get_or}
use Rattle.base.specs.{drop, replicate, and_yes, yes_and, eqb_no, leb_yes}
use Rattle.model.specs.{from, all, elem, lines_from, Read, holds, next, unless, var_of, closed, Kind, an_input, an_output, an_and, how_many}
use Rattle.model.specs.{defines, expected, Item, read_expected, Passed, difference, less_by, read_ands, behind_lines, input_items, read_binary, uses}
use Rattle.model.specs.{defined_by, check_uses, Distinct}
use Rattle.model.specs.declared.Header.{Header}
use Rattle.theory_graph.proofs.{from_in, from-high, map_out, elem-T, all_of, all_in, is_true, from_low, from-distinct, append_distinct}
use Rattle.theory_graph.proofs.{by_bool, by_list}
use Rattle.theory_text.proofs.ReadSteps.{holds-once, unless_out, next_out}
use Rattle.theory_text.proofs.GraphItems.{head, Good, expected-kinds, expected-good, Fresh, defined_cons, kinds_of, Lawful}

-- lines whose uses are all known pass
pub uses_in : (known : List ℕ) (is : List Item) → ((i : Item) → Memᴰ i is → T (all (λ (l : ℕ). elem (var_of l) (0 ∷ known)) (uses i))) → check_uses known is ≡ holds is
unfolding check_uses next
uses_in known [] h = refl
uses_in known (i ∷ is) h =
    ap (λ (t : Bool). unless t 14 i.offset (next (check_uses known is) (λ js. holds (i ∷ js)))) (is_true (all (λ (l : ℕ). elem (var_of l) (0 ∷ known)) (uses i)) (h i (Memᴰ-head refl)))
    ∙ ap (λ (r : Read (List Item)). next r (λ js. holds (i ∷ js))) (uses_in known is (λ j m. h j (Memᴰ-tail m)))

-- ---- the binary form

var-low : (l m : ℕ) → l ≤ 2 * m + 1 → var_of l ≤ m
unfolding var_of
var-low l m h = omega arith

-- what is left by a difference, which is less where the difference is a first one
pub record Less (is_first : Bool) (n left : ℕ) : Type 0 where
  pub at_most : left ≤ n
  pub below : is_first ≡ true → left < n

pub less_out : (is_first : Bool) (bytes : List ℕ) (at n : ℕ) (p : Passed) → less_by is_first bytes at n ≡ holds p → Less is_first n p.number
unfolding less_by
less_out is_first bytes at n p e =
    let a = next_out (difference at (drop at bytes)) _ p e in
    let b = unless_out (not (is_first && eqb a.0.number 0) && leb a.0.number n) 21 at _ p a.2 in
    let t = and_yes (not (is_first && eqb a.0.number 0)) (leb a.0.number n) b.0 in
    let q : a.0.number ≤ n = leb_yes t.1 in
    let i : n - a.0.number ≡ p.number = ap (λ (x : Passed). x.number) (holds-once b.1) in
    record {
      at_most = omega arith;
      below = λ f. let z : ¬ (a.0.number ≡ 0) = eqb_no (subst (λ (x : Bool). T (not (x && eqb a.0.number 0))) f t.0) in omega arith;
    }

-- "left minus first operand and first minus second": an AND of a variable in a range, its operands' literals below its own
pub record InStep (low high : ℕ) (i : Item) : Type 0 where
  pub var : ℕ
  pub first : ℕ
  pub second : ℕ
  pub is_and : i.kind ≡ an_and
  pub is_literals : i.literals ≡ 2 * var ∷ first ∷ second ∷ []
  pub at_least : low ≤ var
  pub below : var < high
  pub less : first < 2 * var
  pub lesser : second ≤ first

-- what one AND gives
record Packed (bytes : List ℕ) (v n : ℕ) (is : List Item) : Type 0 where
  item : Item
  rest : List Item
  behind : ℕ
  is_step : InStep v (suc v) item
  is_rest : read_ands bytes behind (2 * suc v) n ≡ holds rest
  is_list : item ∷ rest ≡ is

and_step : (bytes : List ℕ) (at v n : ℕ) (is : List Item) → read_ands bytes at (2 * v) (suc n) ≡ holds is → Packed bytes v n is
unfolding read_ands
and_step bytes at v n is e =
    let a = next_out (less_by true bytes at (2 * v)) _ is e in
    let b = next_out (less_by false bytes a.0.behind a.0.number) _ is a.2 in
    let c = next_out (read_ands bytes b.0.behind (2 * v + 2) n) _ is b.2 in
    record {
      item = record { kind = an_and; offset = at; literals = 2 * v ∷ a.0.number ∷ b.0.number ∷ [] };
      rest = c.0;
      behind = b.0.behind;
      is_step = record {
        var = v;
        first = a.0.number;
        second = b.0.number;
        is_and = refl;
        is_literals = refl;
        at_least = omega arith;
        below = omega arith;
        less = (less_out true bytes at (2 * v) a.0 a.1).below refl;
        lesser = (less_out false bytes a.0.behind a.0.number b.0 b.1).at_most;
      };
      is_rest = rw (← let q : 2 * v + 2 ≡ 2 * suc v = omega arith in q) c.1;
      is_list = holds-once c.2;
    }

ands-kinds : (bytes : List ℕ) (at v n : ℕ) (is : List Item) → read_ands bytes at (2 * v) n ≡ holds is → kinds_of is ≡ replicate n an_and
unfolding read_ands
ands-kinds bytes at v zero is e = ap kinds_of (sym (holds-once e))
ands-kinds bytes at v (suc n) is e =
    let s = and_step bytes at v n is e in
    ap kinds_of (sym s.is_list) ∙ ap₂ (λ (a : Kind) (b : List Kind). a ∷ b) s.is_step.is_and (ands-kinds bytes s.behind (suc v) n s.rest s.is_rest)

-- "ANDs follow in sequence"
ands-step : (bytes : List ℕ) (at v n : ℕ) (is : List Item) → read_ands bytes at (2 * v) n ≡ holds is → (i : Item) → Memᴰ i is → InStep v (v + n) i
unfolding read_ands
ands-step bytes at v zero is e i m = absurd (Memᴰ-not-nil (subst (λ (js : List Item). Memᴰ i js) (sym (holds-once e)) m))
ands-step bytes at v (suc n) is e i m =
    let s : Packed bytes v n is = and_step bytes at v n is e in
    let wider : (low high : ℕ) (j : Item) → v ≤ low → high ≤ v + suc n → InStep low high j → InStep v
    (v + suc n) j = λ low high j a b t. record {
      var = t.var;
      first = t.first;
      second = t.second;
      is_and = t.is_and;
      is_literals = t.is_literals;
      at_least = omega (arith, t.at_least);
      below = omega (arith, t.below);
      less = t.less;
      lesser = t.lesser;
    } in
    ⊎_elim (λ q. wider v (suc v) i (omega arith) (omega arith) (subst (InStep v (suc v)) (sym q) s.is_step))
    (λ k. wider (suc v) (suc v + n) i (omega arith) (omega arith) (ands-step bytes s.behind (suc v) n s.rest s.is_rest i k))
    (Memᴰ-cases_cons (subst (λ (js : List Item). Memᴰ i js) (sym s.is_list) m))

pub step-head : (low high : ℕ) (i : Item) (t : InStep low high i) → head i ≡ t.var
unfolding var_of
step-head low high i t = ap (λ (ns : List ℕ). var_of (get_or ns 0 0)) t.is_literals ∙ (let q : 2 * t.var / 2 ≡ t.var = omega arith in q)

ands-defined : (bytes : List ℕ) (at v n : ℕ) (is : List Item) → read_ands bytes at (2 * v) n ≡ holds is → defined_by is ≡ from v n
unfolding read_ands defined_by from defines
ands-defined bytes at v zero is e = ap defined_by (sym (holds-once e))
ands-defined bytes at v (suc n) is e =
    let s = and_step bytes at v n is e in
    let t = s.is_step in
    ap defined_by (sym s.is_list) ∙ defined_cons true s.item s.rest (ap defines t.is_and) ∙ ap₂ (λ (a : ℕ) (b : List ℕ). a ∷ b)
    (step-head v (suc v) s.item t ∙ (omega (arith, t.at_least, t.below)))
    (ands-defined bytes s.behind (suc v) n s.rest s.is_rest)

-- variables 1 to I
abbrev input_item : ℕ → ℕ → Item
input_item at v = record { kind = an_input; offset = at; literals = 2 * v ∷ [] }

inputs-kinds : (at n i : ℕ) → kinds_of (map (input_item at) (from i n)) ≡ replicate n an_input
unfolding from
inputs-kinds at zero i = refl
inputs-kinds at (suc n) i = ap (λ (ks : List Kind). an_input ∷ ks) (inputs-kinds at n (suc i))

inputs-defined : (at n i : ℕ) → defined_by (map (input_item at) (from i n)) ≡ from i n
unfolding from defined_by defines var_of
inputs-defined at zero i = refl
inputs-defined at (suc n) i = ap₂ (λ (a : ℕ) (b : List ℕ). a ∷ b) (let q : 2 * i / 2 ≡ i = omega arith in q) (inputs-defined at n (suc i))

pub defined_append : (xs ys : List Item) → defined_by (xs ++ ys) ≡ defined_by xs ++ defined_by ys
unfolding defined_by
defined_append [] ys = refl
defined_append (x ∷ xs) ys = by_bool (defines x.kind) (λ e. cc (defined_append xs ys)) (λ q. cc (defined_append xs ys))

outputs-defined : (n : ℕ) (is : List Item) → kinds_of is ≡ replicate n an_output → defined_by is ≡ []
unfolding defined_by defines
outputs-defined n [] e = refl
outputs-defined zero (i ∷ is) e = absurd (cons≢nil e)
outputs-defined (suc n) (i ∷ is) e = defined_cons false i is (ap defines (head-eq_of_cons-eq e)) ∙ outputs-defined n is (tail-eq_of_cons-eq e)

-- the three parts of what the binary form has
pub record Binary (bytes : List ℕ) (h : Header) (is : List Item) : Type 0 where
  pub outs : List Item
  pub gates : List Item
  pub is_outs : read_expected (closed true) (length bytes) h.size [] (replicate h.outputs an_output) (lines_from h.next [] (drop h.next bytes)) ≡ holds outs
  pub is_gates : (at : ℕ) × (read_ands bytes at (2 * suc h.inputs) h.ands ≡ holds gates)
  pub is_items : input_items h ++ (outs ++ gates) ≡ is

pub binary-parts : (bytes : List ℕ) (h : Header) (is : List Item) → read_binary bytes h ≡ holds is → Binary bytes h is
unfolding read_binary
binary-parts bytes h is e =
    let ls = lines_from h.next [] (drop h.next bytes) in
    let a = next_out (read_expected (closed true) (length bytes) h.size [] (replicate h.outputs an_output) ls) _ is e in
    let b = next_out (read_ands bytes (behind_lines h.next h.outputs ls) (2 * suc h.inputs) h.ands) _ is a.2 in
    record { outs = a.0; gates = b.0; is_outs = a.1; is_gates = (behind_lines h.next h.outputs ls, b.1); is_items = holds-once b.2 }

module _ (bytes : List ℕ) (h : Header) (is : List Item) (s : Binary bytes h is) where
  pub outs-kinds : kinds_of s.outs ≡ replicate h.outputs an_output
  outs-kinds = expected-kinds (closed true) (length bytes) h.size [] (replicate h.outputs an_output) (lines_from h.next [] (drop h.next bytes)) s.outs s.is_outs

  -- "Inputs are variables 1 to I and ANDs follow in sequence."
  pub binary-defined : defined_by is ≡ from 1 h.inputs ++ from (suc h.inputs) h.ands
  unfolding input_items
  binary-defined = ap defined_by (sym s.is_items) ∙ defined_append (input_items h) (s.outs ++ s.gates)
      ∙ ap₂ (λ (xs ys : List ℕ). xs ++ ys) (inputs-defined h.next h.inputs 1) (defined_append s.outs s.gates
      ∙ ap₂ (λ (xs ys : List ℕ). xs ++ ys) (outputs-defined h.outputs s.outs outs-kinds)
      (ands-defined bytes s.is_gates.0 (suc h.inputs) h.ands s.gates s.is_gates.1))

  -- and in turn
  pub binary_steps : (i : Item) → Memᴰ i s.gates → InStep (suc h.inputs) (suc h.inputs + h.ands) i
  binary_steps = ands-step bytes s.is_gates.0 (suc h.inputs) h.ands s.gates s.is_gates.1

  binary-good : h.inputs + h.ands ≤ h.size → (i : Item) → Memᴰ i is → Good h.size i
  unfolding input_items how_many all
  binary-good fit i m = ⊎_elim (λ n. let o = map_out (input_item h.next) (from 1 h.inputs) n in input o.0 o.1 o.2) (λ q.
      ⊎_elim (expected-good (closed true) (length bytes) h.size [] (replicate h.outputs an_output)
      (lines_from h.next [] (drop h.next bytes)) s.outs s.is_outs i) (λ e. gate (binary_steps i e))
      (Memᴰ-append_cases s.outs q)) (Memᴰ-append_cases (input_items h) (rw s.is_items m))
    where
      input : (v : ℕ) → Memᴰ v (from 1 h.inputs) → i ≡ input_item h.next v → Good h.size i
      input v n q =
          subst (Good h.size) (sym q)
          (record { long = refl; low = yes_and (leb (2 * v) (2 * h.size + 1)) true (le→leb (2 * v) (2 * h.size + 1) (let u = from-high h.inputs 1 v n in omega (arith, u))) tt })

      gate : InStep (suc h.inputs) (suc h.inputs + h.ands) i → Good h.size i
      gate t = record {
        long = ap length t.is_literals ∙ sym (ap how_many t.is_and);
        low = subst (λ (ns : List ℕ). T (all (λ (n : ℕ). leb n (2 * h.size + 1)) ns)) (sym t.is_literals)
            (yes_and (leb (2 * t.var) (2 * h.size + 1)) _ (le→leb (2 * t.var) (2 * h.size + 1) (omega (arith, t.below)))
            (yes_and (leb t.first (2 * h.size + 1)) _ (le→leb t.first (2 * h.size + 1) (omega (arith, t.below, t.less)))
            (yes_and (leb t.second (2 * h.size + 1)) true (le→leb t.second (2 * h.size + 1) (omega (arith, t.below, t.less, t.lesser))) tt)));
      }

  -- what the binary form has is lawful
  pub binary_lawful : h.inputs + h.ands ≤ h.size → Lawful h is
  binary_lawful fit = record {
    kinds = unfold input_items expected in ap kinds_of (sym s.is_items) ∙ map-append (λ (i : Item). i.kind) (input_items h) (s.outs ++ s.gates)
        ∙ ap₂ (λ (xs ys : List Kind). xs ++ ys) (inputs-kinds h.next h.inputs 1)
        (map-append (λ (i : Item). i.kind) s.outs s.gates ∙ ap₂ (λ (xs ys : List Kind). xs ++ ys) outs-kinds
        (ands-kinds bytes s.is_gates.0 (suc h.inputs) h.ands s.gates s.is_gates.1));
    good = binary-good fit;
    fresh = λ x m. fresh x (Memᴰ-append_cases (from 1 h.inputs) (subst (λ (xs : List ℕ). Memᴰ x xs) binary-defined m));
    once = subst Distinct (sym binary-defined)
        (append_distinct (from 1 h.inputs) (from (suc h.inputs) h.ands) (from-distinct h.inputs 1) (from-distinct h.ands (suc h.inputs))
        (λ x a b. let u = from-high h.inputs 1 x a in let v = from_low h.ands (suc h.inputs) x b in omega (arith, u, v)));
  }
    where
      fresh : (x : ℕ) → Memᴰ x (from 1 h.inputs) ⊎ Memᴰ x (from (suc h.inputs) h.ands) → Fresh h.size [] x
      fresh x (inl m) =
          let v = from_low h.inputs 1 x m in
          record { is_new = Memᴰ-not-nil; nonzero = λ e. omega (arith, v); small = omega (arith, (from-high h.inputs 1 x m)) }
      fresh x (inr m) =
          let u = from-high h.ands (suc h.inputs) x m in
          let v = from_low h.ands (suc h.inputs) x m in
          record { is_new = Memᴰ-not-nil; nonzero = λ e. omega (arith, v); small = omega (arith, u) }

  -- every variable up to M is defined, where M is I + A
  all-defined : h.size ≡ h.inputs + h.ands → (x : ℕ) → x ≤ h.size → Memᴰ x (0 ∷ defined_by is)
  all-defined q zero b = Memᴰ-head refl
  all-defined q (suc x) b = Memᴰ-tail (subst (λ (xs : List ℕ). Memᴰ (suc x) xs) (sym binary-defined) (go (ltb x h.inputs) (ltb→lt x h.inputs) (nltb→le x h.inputs)))
    where
      go : (t : Bool) → (T t → x < h.inputs) → (T (not t) → h.inputs ≤ x) → Memᴰ (suc x) (from 1 h.inputs ++ from (suc h.inputs) h.ands)
      go true y n = Memᴰ-append_left (from (suc h.inputs) h.ands) (subst (λ (k : ℕ). Memᴰ k (from 1 h.inputs)) (let e : 1 + x ≡ suc x = omega arith in e) (from_in h.inputs 1 x (y tt)))
      go false y n = Memᴰ-append_right (from 1 h.inputs) (subst (λ (k : ℕ). Memᴰ k (from (suc h.inputs) h.ands))
          (omega (arith, n tt)) (from_in h.ands (suc h.inputs) (x - h.inputs) (omega (arith, n tt))))

  -- so 14 refuses no binary text
  pub binary-used : h.size ≡ h.inputs + h.ands → check_uses (defined_by is) is ≡ holds is
  unfolding uses
  binary-used q = uses_in (defined_by is) is (λ i m. all_in (λ (l : ℕ). elem (var_of l) (0 ∷ defined_by is)) (uses i) (λ x y. elem-T (var_of x)
      (0 ∷ defined_by is) (all-defined q (var_of x) (var-low x h.size (leb→le x (2 * h.size + 1)
      (all_of (λ (k : ℕ). leb k (2 * h.size + 1)) i.literals (binary-good (le_of_eq (sym q)) i m).low x (by_bool (defines i.kind)
      (λ e. by_list i.literals (λ z. rw z (rw z at (rw e at y))) (λ p ns r. rw r (Memᴰ-tail (rw r at (rw e at y)))))
      (λ w. rw w at y))))))))
