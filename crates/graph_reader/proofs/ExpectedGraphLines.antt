-- The expected lines, as the crate model says them:
--     expected-at           what expected line k is
--     view             the line at a place has its form, and then these are its literals, or it has not
use Rattle.base.specs.{ℕ, zero, suc, ◌+◌, ◌-◌, ◌≤◌, ◌<◌, add-one, arith, ◌≡◌, refl, sym, ap, ◌∙◌, Bool, true, false, Option, None, Some}
use Rattle.base.specs.{List, [], ◌∷◌, ◌++◌, eqb, ltb, length, drop, get_or, replicate, length-append, length-replicate, get_or-replicate}
use Rattle.base.specs.{get_or-append, drop_of_length-le, drop-cons, get_or-append-add, ltb-true, ltb-false}
use Rattle.model.specs.{and_then, ended, Kind, an_input, an_output, an_and, closed, how_many, expected, item_literals}
use Rattle.model.specs.declared.Header.{Header}
use Rattle.base_words.specs.{undefined_kind, input_kind, and_kind}
use Rattle.base_text.specs.declared.Cursor.{Cursor}
use Rattle.base_text.specs.{on_number, number_of, number_then, number_end, line_at, past_line, after_at, numbers_at}
use Rattle.base_text.proofs.{past_end, found_end, number-end-is, numbers-ended}
use Rattle.graph_loading.specs.declared.Literals.{Literals}
use Rattle.graph_loading.specs.{expected_count, literals}
use Rattle.graph_loading.proofs.{item-numbers, code, pick_kind, expected_kind_value, item_list, Short}
use Rattle.graph_reader.specs.{one_line, and_line, line_read}
use Rattle.graph_reader.proofs.HeaderReading.{three-is}

-- ---- what is expected

module _ (h : Header) where
  expected-length : length (expected h) ≡ expected_count h
  unfolding expected
  expected-length =
      length-append (replicate h.inputs an_input) (replicate h.outputs an_output ++ replicate h.ands an_and)
      ∙ omega (arith, length-replicate h.inputs an_input, length-append (replicate h.outputs an_output) (replicate h.ands an_and), length-replicate h.outputs an_output, length-replicate h.ands an_and)

  behind-inputs : (k : ℕ) → h.inputs ≤ k → get_or (expected h) k an_and ≡ get_or (replicate h.outputs an_output ++ replicate h.ands an_and) (k - h.inputs) an_and
  unfolding expected
  behind-inputs k l =
      let e : k ≡ length (replicate h.inputs an_input) + (k - h.inputs) = omega (arith, length-replicate h.inputs an_input) in
      ap (λ (j : ℕ). get_or (replicate h.inputs an_input ++ (replicate h.outputs an_output ++ replicate h.ands an_and)) j an_and) e
      ∙ get_or-append-add (replicate h.inputs an_input) (replicate h.outputs an_output ++ replicate h.ands an_and) (k - h.inputs) an_and

  expected_get : (k : ℕ) → k < expected_count h → get_or (expected h) k an_and ≡ expected_kind_value h k
  unfolding expected
  expected_get k l = go (ltb k h.inputs) (ltb k (h.inputs + h.outputs)) refl refl
    where
      go : (a b : Bool) → ltb k h.inputs ≡ a → ltb k (h.inputs + h.outputs) ≡ b → get_or (expected h) k an_and ≡ pick_kind a an_input (pick_kind b an_output an_and)
      go true b x y =
          let i : k < h.inputs = ltb-true k h.inputs x in
          get_or-append (replicate h.inputs an_input) (replicate h.outputs an_output ++ replicate h.ands an_and) an_and k (omega (arith, length-replicate h.inputs an_input))
          ∙ get_or-replicate h.inputs k an_input an_and i
      go false true x y =
          let i : h.inputs ≤ k = ltb-false k h.inputs x in let j : k < h.inputs + h.outputs = ltb-true k (h.inputs + h.outputs) y in
          behind-inputs k i
          ∙ get_or-append (replicate h.outputs an_output) (replicate h.ands an_and) an_and (k - h.inputs) (omega (arith, length-replicate h.outputs an_output))
          ∙ get_or-replicate h.outputs (k - h.inputs) an_output an_and (omega arith)
      go false false x y =
          let i : h.inputs ≤ k = ltb-false k h.inputs x in
          let j : h.inputs + h.outputs ≤ k = ltb-false k (h.inputs + h.outputs) y in
          let e : k - h.inputs ≡ length (replicate h.outputs an_output) + (k - h.inputs - h.outputs) = omega (arith, length-replicate h.outputs an_output) in
          behind-inputs k i
          ∙ ap (λ (n : ℕ). get_or (replicate h.outputs an_output ++ replicate h.ands an_and) n an_and) e
          ∙ get_or-append-add (replicate h.outputs an_output) (replicate h.ands an_and) (k - h.inputs - h.outputs) an_and
          ∙ get_or-replicate h.ands (k - h.inputs - h.outputs) an_and an_and (omega arith)

  pub expected-at : (k : ℕ) → k < expected_count h → drop k (expected h) ≡ expected_kind_value h k ∷ drop (k + 1) (expected h)
  expected-at k l =
      drop-cons (expected h) k an_and (omega (arith, expected-length))
      ∙ ap (λ (x : Kind). x ∷ drop (suc k) (expected h)) (expected_get k l)
      ∙ ap (λ (n : ℕ). expected_kind_value h k ∷ drop n (expected h)) (sym (add-one k))

  pub expected-end : (k : ℕ) → expected_count h ≤ k → drop k (expected h) ≡ []
  expected-end k l = let e : length (expected h) ≤ k = omega (arith, expected-length) in drop_of_length-le (expected h) e

-- ---- the line at a place

pub data LineView (s : List ℕ) (at : ℕ) (k : Kind) : Type 0 where
  broken : line_read s at (code k) ≡ None → item_literals (closed false) k (line_at s at) ≡ None → LineView s at k
  whole : (l : Literals) → line_read s at (code k) ≡ Some l → item_literals (closed false) k (line_at s at) ≡ Some (item_list k l) → Short k l
      → ended (line_at s at) ≡ true → l.next ≡ past_line s at → LineView s at k

one-is : (s : List ℕ) (at : ℕ) (o : Option ℕ) → found_end s at ≡ o
    → (one_line s at ≡ on_number (number_of o (past_end s at)) (λ a c. Some (literals a 0 0 c.at)) None) × (numbers_at 0 s at ≡ on_number (number_of o (past_end s at)) (λ n c. Some (n ∷ [])) None)
unfolding one_line numbers_at
one-is s at o e = (rw (number-end-is s at, e), rw (number-end-is s at, e))

after_one : (s : List ℕ) (at : ℕ) → after_at 0 s at ≡ past_end s at
unfolding after_at
after_one s at = refl

view_one : (k : Kind) (s : List ℕ) (at : ℕ) → how_many k ≡ 1 → line_read s at (code k) ≡ one_line s at → ((l : Literals) → l.left ≡ 0 → l.right ≡ 0 → (item_list k l ≡ l.first ∷ []) × Short k l) → LineView s at k
view_one k s at e r short = go (found_end s at) refl
  where
    go : (o : Option ℕ) → found_end s at ≡ o → LineView s at k
    go None f = let t = one-is s at None f in broken (r ∙ t.0) (item-numbers k s at 0 e ∙ t.1)
    go (Some n) f =
        let t = one-is s at (Some n) f in let l : Literals = literals n 0 0 (past_end s at) in
        let ends = numbers-ended 0 s at (n ∷ []) t.1 in
        whole l (r ∙ t.0) (item-numbers k s at 0 e ∙ t.1 ∙ ap Some (sym (short l refl refl).0)) (short l refl refl).1 ends.0 (sym (after_one s at) ∙ ends.1)

numbers-long : (k : ℕ) (s : List ℕ) (at : ℕ) (ns : List ℕ) → numbers_at k s at ≡ Some ns → length ns ≡ suc k
unfolding numbers_at and_then
numbers-long zero s at ns e = go (number_end s at) e
  where
    go : (x : Option (ℕ × Cursor)) → on_number x (λ n c. Some (n ∷ [])) None ≡ Some ns → length ns ≡ 1
    go None q = let z : ◌≡◌ {A = ℕ} 0 1 = cc in absurd (omega arith)
    go (Some (n, c)) q = let i : ns ≡ n ∷ [] = cc in ap length i
numbers-long (suc k) s at ns e = go (number_then s at 32) (λ c. numbers-long k s c.at) e
  where
    one : (n : ℕ) (o : Option (List ℕ)) → ((ms : List ℕ) → o ≡ Some ms → length ms ≡ suc k) → and_then o (λ ms. Some (n ∷ ms)) ≡ Some ns → length ns ≡ suc (suc k)
    one n None more q = let z : ◌≡◌ {A = ℕ} 0 1 = cc in absurd (omega arith)
    one n (Some ms) more q = let i : ns ≡ n ∷ ms = cc in ap length i ∙ ap suc (more ms refl)

    go : (x : Option (ℕ × Cursor)) → ((c : Cursor) (ms : List ℕ) → numbers_at k s c.at ≡ Some ms → length ms ≡ suc k)
        → on_number x (λ n c. and_then (numbers_at k s c.at) (λ ms. Some (n ∷ ms))) None ≡ Some ns → length ns ≡ suc (suc k)
    go None more q = let z : ◌≡◌ {A = ℕ} 0 1 = cc in absurd (omega arith)
    go (Some (n, c)) more q = one n (numbers_at k s c.at) (more c) q

three_list : (ns : List ℕ) → length ns ≡ 3 → ns ≡ get_or ns 0 0 ∷ get_or ns 1 0 ∷ get_or ns 2 0 ∷ []
three_list [] e = absurd (omega arith)
three_list (a ∷ []) e = absurd (omega arith)
three_list (a ∷ b ∷ []) e = absurd (omega arith)
three_list (a ∷ b ∷ c ∷ []) e = refl
three_list (a ∷ b ∷ c ∷ d ∷ ns) e = absurd (omega arith)

three-long : (s : List ℕ) (at : ℕ) (ns : List ℕ) → numbers_at 2 s at ≡ Some ns → ns ≡ get_or ns 0 0 ∷ get_or ns 1 0 ∷ get_or ns 2 0 ∷ []
three-long s at ns e = three_list ns (numbers-long 2 s at ns e)

view_three : (s : List ℕ) (at : ℕ) → LineView s at an_and
unfolding and_line line_read how_many
view_three s at = go (numbers_at 2 s at) refl
  where
    go : (o : Option (List ℕ)) → numbers_at 2 s at ≡ o → LineView s at an_and
    go None e = broken (rw (three-is s at, e)) (item-numbers an_and s at 2 refl ∙ e)
    go (Some ns) e =
        let l : Literals = literals (get_or ns 0 0) (get_or ns 1 0) (get_or ns 2 0) (after_at 2 s at) in let ends = numbers-ended 2 s at ns e in
        whole l (rw (three-is s at, e)) (item-numbers an_and s at 2 refl ∙ e ∙ ap Some (three-long s at ns e)) tt ends.0 ends.1

read_one : (s : List ℕ) (at kind : ℕ) → eqb kind and_kind ≡ false → line_read s at kind ≡ one_line s at
unfolding line_read
read_one s at kind e = rw e

pub view : (k : Kind) (s : List ℕ) (at : ℕ) → LineView s at k
unfolding how_many
view an_input s at = view_one an_input s at refl (read_one s at input_kind refl) (λ l a b. (refl, (a, b)))
view an_output s at = view_one an_output s at refl (read_one s at undefined_kind refl) (λ l a b. (refl, (a, b)))
view an_and s at = view_three s at
