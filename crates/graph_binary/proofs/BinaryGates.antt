-- A number less a difference, and an AND of two of them, as the crate model reads them:
--     less-..          by what difference was found
--     gate_view        the AND at a place is refused by both, or read by both, its operands below its left literal
use Rattle.std.specs.Prelude.{Ok}
use Rattle.base.specs.{Option, None, Some, ℕ, suc, ◌+◌, ◌-◌, ◌≤◌, ◌<◌, arith, ◌≡◌, refl, sym, ap, ◌∙◌, Bool, true, false, not, ◌&&◌, List, ◌∷◌, eqb, leb}
use Rattle.base.specs.{eq-eqb, le-leb, lt-leb}
use Rattle.model.specs.{holds, fault, next, unless, an_and, Passed, less_by, read_ands, refused_with}
use Rattle.theory_text.proofs.{less_out}
use Rattle.base_text.specs.declared.Cursor.{Cursor}
use Rattle.base_text.specs.{difference_at}
use Rattle.base_text.proofs.{and-false, differs_found, differs_broken}
use Rattle.graph_loading.specs.declared.Literals.{Literals}
use Rattle.graph_loading.specs.{literals}
use Rattle.graph_loading.proofs.{item_of}
use Rattle.graph_binary.specs.{less_of, gate_at}

-- ---- a number less a difference

module _ (is_first : Bool) (s : List ℕ) (at n : ℕ) where
  broken-is : difference_at s at ≡ None → less_by is_first s at n ≡ fault 20 at
  unfolding less_by next
  broken-is e = rw (differs_broken s at e)

  pub less_broken : difference_at s at ≡ None → refused_with 20 at ≡ less_of (less_by is_first s at n)
  less_broken e = sym (ap less_of (broken-is e))

  module _ (d : ℕ) (c : Cursor) (found : difference_at s at ≡ Some (d, c)) where
    found-is : less_by is_first s at n ≡ unless (not (is_first && eqb d 0) && leb d n) 21 at (holds (record { number = n - d; behind = c.at }))
    unfolding less_by next
    found-is = rw (differs_found s at d c found)

    pub less_zero : is_first ≡ true → d ≡ 0 → refused_with 21 at ≡ less_of (less_by is_first s at n)
    unfolding unless
    less_zero e z = sym (ap less_of found-is ∙ rw (e, eq-eqb d 0 z))

    pub less_over : n < d → refused_with 21 at ≡ less_of (less_by is_first s at n)
    unfolding unless
    less_over b = sym (ap less_of found-is ∙ rw (lt-leb d n b, and-false))

    pub less_is : (is_first && eqb d 0) ≡ false → d ≤ n → Ok (n - d, c.at) ≡ less_of (less_by is_first s at n)
    unfolding unless
    less_is e b = sym (ap less_of found-is ∙ rw (e, le-leb d n b))

-- it is read, or refused "at the difference's first byte"
data LessView (is_first : Bool) (s : List ℕ) (at n : ℕ) : Type 0 where
  refused : (a : ℕ) → less_by is_first s at n ≡ fault a at → LessView is_first s at n
  left : (p : Passed) → less_by is_first s at n ≡ holds p → LessView is_first s at n

less_view : (is_first : Bool) (s : List ℕ) (at n : ℕ) → LessView is_first s at n
unfolding unless
less_view is_first s at n = go (difference_at s at) refl
  where
    tested : (t : Bool) (p : Passed) → less_by is_first s at n ≡ unless t 21 at (holds p) → LessView is_first s at n
    tested true p e = left p e
    tested false p e = refused 21 e

    go : (x : Option (ℕ × Cursor)) → difference_at s at ≡ x → LessView is_first s at n
    go None e = refused 20 (broken-is is_first s at n e)
    go (Some (d, c)) e = tested (not (is_first && eqb d 0) && leb d n) (record { number = n - d; behind = c.at }) (found-is is_first s at n d c e)

-- ---- an AND

pub data GateView (s : List ℕ) (at first : ℕ) : Type 0 where
  stops : (a b : ℕ) → gate_at s at first ≡ refused_with a b → ((n : ℕ) → read_ands s at first (suc n) ≡ fault a b) → GateView s at first
  goes : (l : Literals) → gate_at s at first ≡ Ok l → l.first ≡ first → l.left < first → l.right ≤ l.left
      → ((n : ℕ) → read_ands s at first (suc n) ≡ next (read_ands s l.next (first + 2) n) (λ is. holds (item_of an_and at l ∷ is))) → GateView s at first

module _ (s : List ℕ) (at first : ℕ) where
  first-refused : (a : ℕ) → less_by true s at first ≡ fault a at → GateView s at first
  unfolding gate_at read_ands next
  first-refused a e = stops a at (rw e) (λ n. rw e)

  second-refused : (p : Passed) → less_by true s at first ≡ holds p → (a : ℕ) → less_by false s p.behind p.number ≡ fault a p.behind → GateView s at first
  unfolding gate_at read_ands next
  second-refused p e a f = stops a p.behind (rw (e, f)) (λ n. rw (e, f))

  both_read : (p : Passed) → less_by true s at first ≡ holds p → (q : Passed) → less_by false s p.behind p.number ≡ holds q → GateView s at first
  unfolding gate_at read_ands next
  both_read p e q f =
      goes (literals first p.number q.number q.behind) (rw (e, f)) refl
      ((less_out true s at first p e).below refl)
      (less_out false s p.behind p.number q f).at_most
      (λ n. rw (e, f))

  pub gate_view : GateView s at first
  gate_view = go (less_view true s at first)
    where
      on : (p : Passed) → less_by true s at first ≡ holds p → LessView false s p.behind p.number → GateView s at first
      on p e (refused a f) = second-refused p e a f
      on p e (left q f) = both_read p e q f

      go : LessView true s at first → GateView s at first
      go (refused a e) = first-refused a e
      go (left p e) = on p e (less_view false s p.behind p.number)

gate_stop : {a b : ℕ} {l : Literals} → refused_with a b ≡ Ok l → ⊥
gate_stop {a} {b} {l} e = let z : ◌≡◌ {A = ℕ} 0 1 = cc in omega arith

-- an AND's operands are below it
pub record Below (first : ℕ) (l : Literals) : Type 0 where
  pub is_first : l.first ≡ first
  pub left : l.left < first
  pub right : l.right < first

pub gate-below : (s : List ℕ) (at first : ℕ) (l : Literals) → gate_at s at first ≡ Ok l → Below first l
gate-below s at first l e = go (gate_view s at first)
  where
    go : GateView s at first → Below first l
    go (stops a b f m) = absurd (gate_stop (sym f ∙ e))
    go (goes k f a b c m) =
        let i : k ≡ l = cc in
        record { is_first = ap (λ (x : Literals). x.first) (sym i) ∙ a; left = omega (arith, ap (λ (x : Literals). x.left) i); right = omega (arith, ap (λ (x : Literals). x.left) i, ap (λ (x : Literals). x.right) i) }
