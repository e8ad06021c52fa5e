-- The expected lines' kinds as the crate model has them, and the tests of a line's literals by what they say:
--     expected-code, expected-input, expected-output, expected-and     the kind of expected line k
--     fit-..           the literals are at most 2M + 1
--     all_fit, taken_is     12 and 13, as the model asks them
use Rattle.base.specs.{◌≡◌, refl, subst, Bool, true, false, not, ◌&&◌, List, [], ◌∷◌, ℕ, ◌+◌, ◌*◌, ◌/◌, ◌%◌, ◌≤◌, ◌<◌, arith, eqb, ltb, leb}
use Rattle.base.specs.{eqb-true, eqb-false, le-leb, lt-leb, leb-true, lt-ltb, le-ltb, not-true, not-false}
use Rattle.model.specs.{all, elem, var_of, Kind, an_input, an_output, an_and, defines, Item}
use Rattle.model.specs.declared.Header.{Header}
use Rattle.base_words.specs.{undefined_kind, input_kind, and_kind, kind_at}
use Rattle.base_text.proofs.{and_left, and_right, and-true}
use Rattle.graph_order.specs.{pick_n}
use Rattle.graph_loading.specs.declared.Literals.{Literals}
use Rattle.graph_loading.specs.{expected_code, literals_fit, LiteralsFit, may_define, is_already_defined}

-- ---- what is expected

-- the kind of node that a line of this kind defines
abbrev pub code : Kind → ℕ
code an_input = input_kind
code an_output = undefined_kind
code an_and = and_kind

abbrev pub pick_kind : Bool → Kind → Kind → Kind
pick_kind true a b = a
pick_kind false a b = b

abbrev pub expected_kind_value : Header → ℕ → Kind
expected_kind_value h k = pick_kind (ltb k h.inputs) an_input (pick_kind (ltb k (h.inputs + h.outputs)) an_output an_and)

pub expected-code : (h : Header) (k : ℕ) → code (expected_kind_value h k) ≡ expected_code h k
expected-code h k = go (ltb k h.inputs) (ltb k (h.inputs + h.outputs))
  where
    go : (a b : Bool) → code (pick_kind a an_input (pick_kind b an_output an_and)) ≡ pick_n a input_kind (pick_n b undefined_kind and_kind)
    go true b = refl
    go false true = refl
    go false false = refl

module _ (h : Header) (k : ℕ) where
  pub expected-input : k < h.inputs → expected_kind_value h k ≡ an_input
  expected-input b = rw (lt-ltb k h.inputs b)

  pub expected-output : h.inputs ≤ k → k < h.inputs + h.outputs → expected_kind_value h k ≡ an_output
  expected-output a b = rw (le-ltb k h.inputs a, lt-ltb k (h.inputs + h.outputs) b)

  pub expected-and : h.inputs + h.outputs ≤ k → expected_kind_value h k ≡ an_and
  expected-and b = rw (le-ltb k h.inputs (omega arith), le-ltb k (h.inputs + h.outputs) b)

-- the literals of a line, as the model has them
abbrev pub item_list : Kind → Literals → List ℕ
item_list an_input l = l.first ∷ []
item_list an_output l = l.first ∷ []
item_list an_and l = l.first ∷ l.left ∷ l.right ∷ []

-- what a line does not say is 0
abbrev pub Short : Kind → Literals → Type 0
Short an_input l = (l.left ≡ 0) × (l.right ≡ 0)
Short an_output l = (l.left ≡ 0) × (l.right ≡ 0)
Short an_and l = Unit {0}

abbrev pub item_of : Kind → ℕ → Literals → Item
item_of k at l = record { kind = k; offset = at; literals = item_list k l }

-- ---- the tests of a line's literals

module _ (m : ℕ) (l : Literals) where
  pub fit-defined : literals_fit m l ≡ true → LiteralsFit m l
  unfolding literals_fit
  fit-defined e =
      let a : leb l.first (2 * m + 1) ≡ true = and_left (leb l.first (2 * m + 1)) (leb l.left (2 * m + 1) && leb l.right (2 * m + 1)) e in
      let b = and_right (leb l.first (2 * m + 1)) (leb l.left (2 * m + 1) && leb l.right (2 * m + 1)) e in
      record {
        first = leb-true l.first (2 * m + 1) a;
        left = leb-true l.left (2 * m + 1) (and_left (leb l.left (2 * m + 1)) (leb l.right (2 * m + 1)) b);
        right = leb-true l.right (2 * m + 1) (and_right (leb l.left (2 * m + 1)) (leb l.right (2 * m + 1)) b);
      }

  pub fit-first : 2 * m + 1 < l.first → literals_fit m l ≡ false
  unfolding literals_fit
  fit-first h = rw (lt-leb l.first (2 * m + 1) h)

  pub fit-left : l.first ≤ 2 * m + 1 → 2 * m + 1 < l.left → literals_fit m l ≡ false
  unfolding literals_fit
  fit-left a h = rw (le-leb l.first (2 * m + 1) a, lt-leb l.left (2 * m + 1) h)

  pub fit-right : l.first ≤ 2 * m + 1 → l.left ≤ 2 * m + 1 → literals_fit m l ≡ leb l.right (2 * m + 1)
  unfolding literals_fit
  fit-right a b = rw (le-leb l.first (2 * m + 1) a, le-leb l.left (2 * m + 1) b)

-- the test of 12 on a line's literals
pub all_fit : (m : ℕ) (k : Kind) (l : Literals) → Short k l → all (λ (n : ℕ). leb n (2 * m + 1)) (item_list k l) ≡ literals_fit m l
unfolding all literals_fit
all_fit m an_input l e = rw (e.0, e.1, le-leb 0 (2 * m + 1) (omega arith))
all_fit m an_output l e = rw (e.0, e.1, le-leb 0 (2 * m + 1) (omega arith))
all_fit m an_and l e = rw and-true

-- the literals of such a line are in range, and its variable is undefined
pub record Fresh (m : ℕ) (w : List ℕ) (l : Literals) : Type 0 where
  pub fit : LiteralsFit m l
  pub none : kind_at w m (l.first / 2) ≡ undefined_kind

pub fresh : (m : ℕ) (w : List ℕ) (kind : ℕ) (l : Literals) → eqb kind undefined_kind ≡ false → literals_fit m l ≡ true → is_already_defined w m kind l.first ≡ false → Fresh m w l
unfolding is_already_defined
fresh m w kind l e a c =
    let q : not (eqb (kind_at w m (l.first / 2)) undefined_kind) ≡ false = subst (λ (t : Bool). (not t && not (eqb (kind_at w m (l.first / 2)) undefined_kind)) ≡ false) e c in
    record {
      fit = fit-defined m l a;
      none = eqb-true (kind_at w m (l.first / 2)) undefined_kind (not-false (eqb (kind_at w m (l.first / 2)) undefined_kind) q);
    }

-- 13, as the words have it
pub taken_is : (m : ℕ) (w : List ℕ) (before : List ℕ) (k : Kind) (l : Literals) → ((v : ℕ) → v ≤ m → (v ≡ 0 → ⊥) → elem v before ≡ not (eqb (kind_at w m v) undefined_kind))
    → literals_fit m l ≡ true → may_define (code k) l.first ≡ true → (defines k && elem (var_of l.first) before) ≡ is_already_defined w m (code k) l.first
unfolding defines is_already_defined var_of may_define
taken_is m w before an_output l known f d = refl
taken_is m w before an_input l known f d =
    let e : l.first % 2 ≡ 0 = eqb-true (l.first % 2) 0 (and_left (eqb (l.first % 2) 0) (not (eqb l.first 0)) d) in
    let z : l.first ≡ 0 → ⊥ = eqb-false l.first 0 (not-true (eqb l.first 0) (and_right (eqb (l.first % 2) 0) (not (eqb l.first 0)) d)) in
    known (l.first / 2) (omega (arith, (fit-defined m l f).first)) (λ q. z (omega arith))
taken_is m w before an_and l known f d =
    let e : l.first % 2 ≡ 0 = eqb-true (l.first % 2) 0 (and_left (eqb (l.first % 2) 0) (not (eqb l.first 0)) d) in
    let z : l.first ≡ 0 → ⊥ = eqb-false l.first 0 (not-true (eqb l.first 0) (and_right (eqb (l.first % 2) 0) (not (eqb l.first 0)) d)) in
    known (l.first / 2) (omega (arith, (fit-defined m l f).first)) (λ q. z (omega arith))
