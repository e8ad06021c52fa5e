-- The passes over the expected lines are the crate model's reading of a graph in the ASCII form, and either form is read:
--     lines_law        11 to 13, and the words that the lines leave
--     check_law        14
--     ascii_law        both: `load_ascii` answers `read_graph`, and where that holds a graph the words hold it
--     load_law         and so for `load`, in either form
--     order_asks       what `graph_order::order_graph` asks is what an accepted `load` leaves
use Rattle.std.specs.Prelude.{Ok, Err}
use Rattle.model.specs.{Verdict, refused_with}
use Rattle.base.specs.{◌≡◌, refl, sym, ap, ◌∙◌, subst, Bool, true, false, cond, not, Some, List, [], ◌∷◌, Memᴰ, Memᴰ-head, Memᴰ-tail, ℕ}
use Rattle.base.specs.{zero, suc, ◌+◌, ◌*◌, ◌/◌, ◌≤◌, arith, eqb, length, drop}
use Rattle.model.specs.{elem, any, all, Read, holds, fault, next, unless, verdict_of, var_of, Kind, an_input, an_output, an_and, closed, defines}
use Rattle.model.specs.{expected, Item, read_expected, read_items, uses, defined_by, check_uses, graph_of, read_graph}
use Rattle.model.specs.Graph.{Graph}
use Rattle.model.specs.declared.Header.{Header}
use Rattle.model.specs.declared.Refusal.{Refusal}
use Rattle.base_words.specs.{undefined_kind, kind_at}
use Rattle.base_text.proofs.{and-true}
use Rattle.graph_order.specs.{Fit, LoadedGraph, Operands}
use Rattle.graph_order.proofs.{fit_length, loaded_operands}
use Rattle.graph_loading.specs.declared.Literals.{Literals}
use Rattle.graph_loading.specs.{expected_code, expected_count, literals_fit, on_result, stored_line, opened}
use Rattle.graph_loading.proofs.{code, expected_kind_value, expected-code, Short, item_of, fit-defined, nothing, grown, more, State, state_first, lines_of}
use Rattle.graph_loading.proofs.{fault-holds, verdict-next, next-holds, accepted-holds, Stored, stored-none, stored_more, stored-defined}
use Rattle.graph_loading.proofs.{stored_loaded, graph_is, graph-represented}
use Rattle.graph_binary.specs.{binary_words}
use Rattle.graph_binary.proofs.{binary_law}
use Rattle.graph_reader.specs.{line_read, is_defined, uses_defined, words_defined, step_at, step_words, lines_verdict, lines_words, check_at}
use Rattle.graph_reader.specs.{check_verdict, ascii_words, loaded_words}
use Rattle.graph_reader.proofs.ExpectedGraphLines.{expected-end}
use Rattle.graph_reader.proofs.DefinedUses.{line_defined}
use Rattle.graph_reader.proofs.LineLoading.{Step, stops, goes, step}

-- ---- the lines once more

-- n expected lines from line k on, at a place: each is read, and these are their items
pub data Again (s : List ℕ) (h : Header) : ℕ → ℕ → ℕ → List Item → Type 0 where
  done : {k at : ℕ} → Again s h 0 k at []
  one : {n k at : ℕ} {is : List Item} (l : Literals) → line_read s at (expected_code h k) ≡ Some l → Short (expected_kind_value h k) l → literals_fit h.size l ≡ true
      → Again s h n (k + 1) l.next is → Again s h (suc n) k at (item_of (expected_kind_value h k) at l ∷ is)

-- ---- 11 to 13

pub record Taken (s : List ℕ) (h : Header) (w₀ : List ℕ) (n k at : ℕ) (x : List ℕ) (before : List ℕ) (g : Graph) (is : List Item) : Type 0 where
  pub again : Again s h n k at is
  pub stored : Stored h w₀ n k x before g is

pub record Outcome (s : List ℕ) (h : Header) (w₀ : List ℕ) (n k at : ℕ) (w : List ℕ) (before : List ℕ) (g : Graph) : Type 0 where
  pub verdict : lines_verdict s h n k at w ≡ verdict_of (read_expected (closed false) (length s) h.size before (drop k (expected h)) (lines_of s at))
  pub taken : (is : List Item) → read_expected (closed false) (length s) h.size before (drop k (expected h)) (lines_of s at) ≡ holds is → Taken s h w₀ n k at (lines_words s h n k at w) before g is

module _ (s : List ℕ) (h : Header) (w₀ : List ℕ) (fit : Fit h w₀) where
  none_left : (end m : ℕ) (before : List ℕ) (k at : ℕ) → expected_count h ≤ k → read_expected (closed false) end m before (drop k (expected h)) (lines_of s at) ≡ holds []
  unfolding read_expected
  none_left end m before k at l = rw (expected-end h k l)

  lines_none : (k at : ℕ) (w : List ℕ) (before : List ℕ) (g : Graph) → State h w₀ k w before g → k + 0 ≡ expected_count h → Outcome s h w₀ 0 k at w before g
  unfolding lines_verdict lines_words verdict_of
  lines_none k at w before g st e =
      let r = none_left (length s) h.size before k at (omega arith) in
      record {
        verdict = rw r;
        taken = λ is q.
            let i : [] ≡ is = cc in
            subst (Taken s h w₀ 0 k at w before g) i (record { again = done; stored = stored-none h w₀ k w before g st });
      }

  -- one line, and those behind it
  stopped : (n k at : ℕ) (w : List ℕ) (before : List ℕ) (g : Graph) (a b : ℕ) → step_at s at w h k ≡ refused_with a b
      → read_expected (closed false) (length s) h.size before (drop k (expected h)) (lines_of s at) ≡ fault a b → Outcome s h w₀ (suc n) k at w before g
  unfolding lines_verdict verdict_of
  stopped n k at w before g a b t m = record {
    verdict = rw (t, m);
    taken = λ is q. absurd (fault-holds (sym m ∙ q));
  }

  gone : (n k at : ℕ) (w : List ℕ) (end : ℕ) (x : List ℕ) → step_at s at w h k ≡ Ok end → step_words s at w h k ≡ x
      → (lines_verdict s h (suc n) k at w ≡ lines_verdict s h n (k + 1) end x) × (lines_words s h (suc n) k at w ≡ lines_words s h n (k + 1) end x)
  unfolding lines_verdict lines_words
  gone n k at w end x t u = (rw (t, u), rw (t, u))

  taken_more : (n k at : ℕ) (x : List ℕ) (before : List ℕ) (g : Graph) (l : Literals) (js : List Item)
      → line_read s at (expected_code h k) ≡ Some l → Short (expected_kind_value h k) l → literals_fit h.size l ≡ true
      → Taken s h w₀ n (k + 1) l.next x (more (expected_kind_value h k) before l) (grown (expected_kind_value h k) g l) js → Taken s h w₀ (suc n) k at x before g (item_of (expected_kind_value h k) at l ∷ js)
  taken_more n k at x before g l js r short f t = record { again = one l r short f t.again; stored = stored_more h w₀ n k at x before g l js t.stored }

  lines_more : (n k at : ℕ) (w : List ℕ) (before : List ℕ) (g : Graph) → Step s h w₀ k at w before g
      → ((at' : ℕ) (w' : List ℕ) (before' : List ℕ) (g' : Graph) → State h w₀ (k + 1) w' before' g' → Outcome s h w₀ n (k + 1) at' w' before' g') → Outcome s h w₀ (suc n) k at w before g
  lines_more n k at w before g (stops a b t m) later = stopped n k at w before g a b t m
  lines_more n k at w before g (goes l r short f t u m st) later =
      let o = later l.next (stored_line w h k l) (more (expected_kind_value h k) before l) (grown (expected_kind_value h k) g l) st in
      let p = gone n k at w l.next (stored_line w h k l) t u in
      let inner : Read (List Item) = read_expected (closed false) (length s) h.size (more (expected_kind_value h k) before l) (drop (k + 1) (expected h)) (lines_of s l.next) in
      record {
        verdict = p.0 ∙ o.verdict ∙ sym (verdict-next inner (λ is. item_of (expected_kind_value h k) at l ∷ is)) ∙ ap verdict_of (sym m);
        taken = λ is q.
            let j = next-holds inner (λ js. item_of (expected_kind_value h k) at l ∷ js) is (sym m ∙ q) in
            subst (λ (x : List ℕ). Taken s h w₀ (suc n) k at x before g is) (sym p.1)
            (subst (Taken s h w₀ (suc n) k at (lines_words s h n (k + 1) l.next (stored_line w h k l)) before g) (sym j.2)
            (taken_more n k at (lines_words s h n (k + 1) l.next (stored_line w h k l)) before g l j.0 r short f (o.taken j.0 j.1)));
      }

  pub lines_law : (n k at : ℕ) (w : List ℕ) (before : List ℕ) (g : Graph) → State h w₀ k w before g → k + n ≡ expected_count h → Outcome s h w₀ n k at w before g
  lines_law zero k at w before g st e = lines_none k at w before g st e
  lines_law (suc n) k at w before g st e =
      lines_more n k at w before g (step s h w₀ fit k at w before g st (omega arith))
      (λ at' w' before' g' st'. lines_law n (k + 1) at' w' before' g' st' (omega arith))

-- ---- 14

passes : {A : Type 0} (r : Read A) (k : ℕ) → unless true 14 k r ≡ r
unfolding unless
passes r k = refl

fails : {A : Type 0} (r : Read A) (k : ℕ) → unless false 14 k r ≡ fault 14 k
unfolding unless
fails r k = refl

module _ (s : List ℕ) (h : Header) (w : List ℕ) (defined : List ℕ) (knows : (v : ℕ) → v ≤ h.size → elem v (0 ∷ defined) ≡ not (eqb (kind_at w h.size v) undefined_kind)) where
  defined-is : (l : ℕ) → l ≤ 2 * h.size + 1 → elem (var_of l) (0 ∷ defined) ≡ is_defined w h.size l
  unfolding is_defined var_of
  defined-is l b = knows (l / 2) (omega arith)

  zero-defined : is_defined w h.size 0 ≡ true
  unfolding is_defined elem any
  zero-defined = sym (knows 0 (omega arith))

  uses-is : (k : Kind) (at : ℕ) (l : Literals) → Short k l → literals_fit h.size l ≡ true
      → all (λ (x : ℕ). elem (var_of x) (0 ∷ defined)) (uses (item_of k at l)) ≡ uses_defined w h.size (code k) l
  unfolding uses all defines uses_defined
  uses-is an_input at l e f = sym (rw (e.0, e.1, zero-defined))
  uses-is an_output at l e f = and-true (elem (var_of l.first) (0 ∷ defined)) ∙ defined-is l.first (fit-defined h.size l f).first
  uses-is an_and at l e f = rw (and-true, defined-is l.left (fit-defined h.size l f).left, defined-is l.right (fit-defined h.size l f).right)

  check-one : (n k at : ℕ) (is : List Item) (l : Literals) → line_read s at (expected_code h k) ≡ Some l → literals_fit h.size l ≡ true
      → all (λ (x : ℕ). elem (var_of x) (0 ∷ defined)) (uses (item_of (expected_kind_value h k) at l)) ≡ uses_defined w h.size (expected_code h k) l
      → check_verdict s h n (k + 1) l.next w ≡ verdict_of (check_uses defined is)
      → check_verdict s h (suc n) k at w ≡ verdict_of (check_uses defined (item_of (expected_kind_value h k) at l ∷ is))
  unfolding check_verdict check_at check_uses verdict_of
  check-one n k at is l r f u later = rw (r, f, u) (go (uses_defined w h.size (expected_code h k) l))
    where
      go : (t : Bool) → on_result (cond t (Ok l.next) (refused_with 14 at)) (λ end. check_verdict s h n (k + 1) end w) Err
          ≡ verdict_of (unless t 14 at (next (check_uses defined is) (λ js. holds (item_of (expected_kind_value h k) at l ∷ js))))
      go true = later ∙ sym (verdict-next (check_uses defined is) (λ js. item_of (expected_kind_value h k) at l ∷ js)) ∙ ap verdict_of (sym (passes (next (check_uses defined is) (λ js. holds (item_of (expected_kind_value h k) at l ∷ js))) at))
      go false = ap verdict_of (sym (fails (next (check_uses defined is) (λ js. holds (item_of (expected_kind_value h k) at l ∷ js))) at))

  none_checked : (k at : ℕ) → check_verdict s h 0 k at w ≡ verdict_of (check_uses defined [])
  unfolding check_verdict check_uses verdict_of
  none_checked k at = refl

  check_law : (n k at : ℕ) (is : List Item) → Again s h n k at is → check_verdict s h n k at w ≡ verdict_of (check_uses defined is)
  check_law n k at is (done {k = k₁} {at = at₁}) = none_checked k₁ at₁
  check_law n k at is (one {n = n₁} {k = k₁} {at = at₁} {is = js} l r short f a) =
      check-one n₁ k₁ at₁ js l r f (uses-is (expected_kind_value h k₁) at₁ l short f ∙ ap (λ (c : ℕ). uses_defined w h.size c l) (expected-code h k₁)) (check_law n₁ (k₁ + 1) l.next js a)

-- where what each line uses is defined, none is refused
check_passes : (s : List ℕ) (h : Header) (w : List ℕ) (n k at : ℕ) (is : List Item) → Again s h n k at is
    → ((j : Kind) (p : ℕ) (l : Literals) → Short j l → Memᴰ (item_of j p l) is → uses_defined w h.size (code j) l ≡ true) → check_verdict s h n k at w ≡ Ok tt
unfolding check_verdict check_at
check_passes s h w n k at is done all_defined = refl
check_passes s h w n k at is (one {n = n₁} {k = k₁} {at = at₁} {is = js} l r short f a) all_defined =
    let u : uses_defined w h.size (expected_code h k₁) l ≡ true = ap (λ (c : ℕ). uses_defined w h.size c l) (sym (expected-code h k₁)) ∙ all_defined (expected_kind_value h k₁) at₁ l short (Memᴰ-head refl) in
    rw (r, f, u) (check_passes s h w n₁ (k₁ + 1) l.next js a (λ j p m e i. all_defined j p m e (Memᴰ-tail i)))

-- ---- the whole

module _ (s : List ℕ) (h : Header) (w : List ℕ) (fit : Fit h w) (ascii : h.binary ≡ false) where
  abbrev words : List ℕ
  words = lines_words s h (expected_count h) 0 h.next (opened w h.size)

  items_are : read_items s h ≡ read_expected (closed false) (length s) h.size [] (expected h) (lines_of s h.next)
  unfolding read_items
  items_are = rw ascii

  outcome : Outcome s h w (expected_count h) 0 h.next (opened w h.size) [] (nothing h.size)
  outcome = lines_law s h w fit (expected_count h) 0 h.next (opened w h.size) [] (nothing h.size) (state_first h w fit) (omega arith)

  taken : (is : List Item) → read_items s h ≡ holds is → Taken s h w (expected_count h) 0 h.next words [] (nothing h.size) is
  taken is e = outcome.taken is (sym items_are ∙ e)

  lines-verdict : lines_verdict s h (expected_count h) 0 h.next (opened w h.size) ≡ verdict_of (read_items s h)
  lines-verdict = outcome.verdict ∙ ap verdict_of (sym items_are)

  checked : (is : List Item) → read_items s h ≡ holds is → check_verdict s h (expected_count h) 0 h.next words ≡ verdict_of (read_graph s h)
  unfolding next
  checked is e =
      let t = taken is e in
      check_law s h words (defined_by is) (stored-defined h w words is t.stored) (expected_count h) 0 h.next is t.again
      ∙ sym (verdict-next (check_uses (defined_by is) is) (graph_of h.size))
      ∙ ap verdict_of (sym (graph_is s h ∙ rw e))

  load_checked : lines_verdict s h (expected_count h) 0 h.next (opened w h.size) ≡ Ok tt → check_verdict s h (expected_count h) 0 h.next words ≡ verdict_of (read_graph s h)
  unfolding verdict_of
  load_checked e = go (read_items s h) refl (sym lines-verdict ∙ e)
    where
      go : (r : Read (List Item)) → read_items s h ≡ r → verdict_of r ≡ Ok tt → check_verdict s h (expected_count h) 0 h.next words ≡ verdict_of (read_graph s h)
      go (holds is) q x = checked is q
      go (fault a b) q x = let z : ◌≡◌ {A = ℕ} 0 1 = cc in absurd (omega arith)

  -- and none of 11 to 13 comes: the words hold what the lines say, and where all that they use is defined, 14 does not come either
  lines-represented : lines_verdict s h (expected_count h) 0 h.next (opened w h.size) ≡ Ok tt → (is : List Item) × Taken s h w (expected_count h) 0 h.next words [] (nothing h.size) is
  lines-represented e = let r = accepted-holds (read_items s h) (sym lines-verdict ∙ e) in (r.0, taken r.0 r.1)

  load_operands : lines_verdict s h (expected_count h) 0 h.next (opened w h.size) ≡ Ok tt → Operands words h.size
  load_operands e =
      let t = lines-represented e in
      loaded_operands w h words (graph_of h.size t.0) (0 ∷ (graph_of h.size t.0).inputs) (stored_loaded h w words t.0 t.1.stored)

  load-defined : lines_verdict s h (expected_count h) 0 h.next (opened w h.size) ≡ Ok tt → words_defined words h ≡ true → (Ok tt) ≡ check_verdict s h (expected_count h) 0 h.next words
  load-defined e k =
      let t = lines-represented e in
      sym (check_passes s h words (expected_count h) 0 h.next t.0 t.1.again (line_defined h w words t.0 (stored_loaded h w words t.0 t.1.stored) k))

  load-refused : (p : Refusal) → lines_verdict s h (expected_count h) 0 h.next (opened w h.size) ≡ Err p → Err p ≡ verdict_of (read_graph s h)
  unfolding verdict_of next
  load-refused p e = go (read_items s h) refl (sym lines-verdict ∙ e)
    where
      go : (r : Read (List Item)) → read_items s h ≡ r → verdict_of r ≡ Err p → Err p ≡ verdict_of (read_graph s h)
      go (holds is) q x = let z : ◌≡◌ {A = ℕ} 0 1 = cc in absurd (omega arith)
      go (fault c d) q x = let f : read_graph s h ≡ fault c d = graph_is s h ∙ rw q in sym x ∙ ap verdict_of (sym f)

  pub ascii_law : (g : Graph) → read_graph s h ≡ holds g → LoadedGraph w h (ascii_words w s h) g (0 ∷ g.inputs)
  unfolding ascii_words
  ascii_law = graph-represented s h w words (λ is e. (taken is e).stored)

  -- as the code has it: the words x once they are opened, y once the lines are read
  module _ (x y : List ℕ) (r : Verdict) (first : x ≡ opened w h.size) (then : y ≡ lines_words s h (expected_count h) 0 h.next x) (told : r ≡ lines_verdict s h (expected_count h) 0 h.next x) where
    same-words : y ≡ words
    same-words = then ∙ ap (lines_words s h (expected_count h) 0 h.next) first

    same-verdict : lines_verdict s h (expected_count h) 0 h.next (opened w h.size) ≡ r
    same-verdict = ap (lines_verdict s h (expected_count h) 0 h.next) (sym first) ∙ sym told

    loaded : y ≡ ascii_words w s h
    unfolding ascii_words
    loaded = same-words

    pub ascii-done : r ≡ Ok tt → (q : Verdict) → q ≡ check_verdict s h (expected_count h) 0 h.next y → (q ≡ verdict_of (read_graph s h)) × (y ≡ ascii_words w s h)
    ascii-done a q e = (e ∙ ap (check_verdict s h (expected_count h) 0 h.next) same-words ∙ load_checked (same-verdict ∙ a), loaded)

    -- what `all_defined` asks, and its answer where all is defined
    pub ascii_operands : r ≡ Ok tt → Operands y h.size
    ascii_operands a = subst (λ (x : List ℕ). Operands x h.size) (sym same-words) (load_operands (same-verdict ∙ a))

    pub ascii-defined : r ≡ Ok tt → words_defined y h ≡ true → ((Ok tt) ≡ verdict_of (read_graph s h)) × (y ≡ ascii_words w s h)
    ascii-defined a k =
        ascii-done a (Ok tt) (load-defined (same-verdict ∙ a) (ap (λ (x : List ℕ). words_defined x h) (sym same-words) ∙ k) ∙ ap (check_verdict s h (expected_count h) 0 h.next) (sym same-words))

    pub ascii_stop : (p : Refusal) → r ≡ Err p → (Err p ≡ verdict_of (read_graph s h)) × (y ≡ ascii_words w s h)
    ascii_stop p e = (load-refused p (same-verdict ∙ e), loaded)

-- ---- either form

module _ (w : List ℕ) (s : List ℕ) (h : Header) where
  pub words-binary : h.binary ≡ true → loaded_words w s h ≡ binary_words w s h
  unfolding loaded_words
  words-binary e = rw e

  pub words-ascii : h.binary ≡ false → loaded_words w s h ≡ ascii_words w s h
  unfolding loaded_words
  words-ascii e = rw e

  -- where the text holds a graph the words hold it
  pub load_law : Fit h w → (g : Graph) → read_graph s h ≡ holds g → LoadedGraph w h (loaded_words w s h) g (0 ∷ g.inputs)
  load_law fit g e = go h.binary refl
    where
      go : (b : Bool) → h.binary ≡ b → LoadedGraph w h (loaded_words w s h) g (0 ∷ g.inputs)
      go true q = subst (λ (x : List ℕ). LoadedGraph w h x g (0 ∷ g.inputs)) (sym (words-binary q)) (binary_law s h q w fit g e)
      go false q = subst (λ (x : List ℕ). LoadedGraph w h x g (0 ∷ g.inputs)) (sym (words-ascii q)) (ascii_law s h w fit q g e)

  -- what `place` asks is what an accepted `load` leaves in the words x
  pub order_asks : (x : List ℕ) → Fit h w → verdict_of (read_graph s h) ≡ Ok tt → x ≡ loaded_words w s h → Fit h x × Operands x h.size
  order_asks x fit e i =
      let r = accepted-holds (read_graph s h) e in let hold = load_law fit r.0 r.1 in
      (fit_length h w x fit (ap length i ∙ hold.represented.long), subst (λ (y : List ℕ). Operands y h.size) (sym i) (loaded_operands w h (loaded_words w s h) r.0 (0 ∷ r.0.inputs) hold))
