-- What the reader leaves in the words where it refuses nothing: each input's arrival as the crate model has it, and all other words as they were.
use Rattle.base.specs.{ℕ, ◌+◌, ◌≤◌, ◌<◌, add-zero, arith, ◌≡◌, refl, sym, ap, ◌∙◌, Bool, true, false, not, cond, ◌&&◌, Option, None, Some}
use Rattle.base.specs.{List, [], ◌∷◌, map, Memᴰ-head, Memᴰ-tail, Memᴰ-cast, eqb, ltb, length, get_or, eqb-true, eqb-false, ltb-true}
use Rattle.base.specs.{ltb-false}
use Rattle.model.specs.{elem, same, Line, ended, text, lines_from, Read, holds, fault, next, unless, from?, InputArrival, input_arrival_numbers, read_input_arrivals}
use Rattle.model.specs.{read_input_arrival_lines, read_arrivals, input_arrival_of, Distinct, Lists}
use Rattle.theory_graph.proofs.{place-once}
use Rattle.base_words.specs.{slot_at, input_arrival_addr, input_arrival_at}
use Rattle.base_words.proofs.{get_put, get_put-below, get_put-above}
use Rattle.graph_arrivals.specs.{Listable, put_input_arrival, put_all, on_numbers, passed, listed_lines, listed}
use Rattle.graph_arrivals.proofs.ArrivalSteps.{input-arrival-fits, put-long, put-slot, put_listable}

-- ---- the lines that are stored are those that are read

module _ (inputs : ℕ) where
  passed-all : (before : List ℕ) (ls : List Line) (es : List InputArrival) → read_input_arrivals inputs before ls ≡ holds es → passed inputs before ls ≡ es
  unfolding read_input_arrivals passed next unless from?
  passed-all before [] es e = cc
  passed-all before (l ∷ ls) es e = go (input_arrival_numbers l) (λ i. passed-all (i ∷ before) ls) e
    where
      last : (x : InputArrival) (p : List InputArrival) (r : Read (List InputArrival)) → ((ds : List InputArrival) → r ≡ holds ds → p ≡ ds) → next r (λ ds. holds (x ∷ ds)) ≡ holds es → x ∷ p ≡ es
      last x p (holds ds) h q = let i : x ∷ ds ≡ es = cc in ap (λ (ys : List InputArrival). x ∷ ys) (h ds refl) ∙ i
      last x p (fault n k) h q = absurd (let z : ◌≡◌ {A = ℕ} 0 1 = cc in omega arith)

      test : (b : Bool) (x : InputArrival) (p : List InputArrival) (r : Read (List InputArrival)) → ((ds : List InputArrival) → r ≡ holds ds → p ≡ ds)
          → unless b 26 l.offset (next r (λ ds. holds (x ∷ ds))) ≡ holds es → cond b (x ∷ p) [] ≡ es
      test true x p r h q = last x p r h q
      test false x p r h q = absurd (let z : ◌≡◌ {A = ℕ} 0 1 = cc in omega arith)

      go : (o : Option (List ℕ)) → ((i : ℕ) (ds : List InputArrival) → read_input_arrivals inputs (i ∷ before) ls ≡ holds ds → passed inputs (i ∷ before) ls ≡ ds)
          → next (from? o 25 l.offset) (λ ns. unless (ltb (get_or ns 0 0) inputs && not (elem (get_or ns 0 0) before)) 26 l.offset
          (next (read_input_arrivals inputs (get_or ns 0 0 ∷ before) ls) (λ ds. holds (record { index = get_or ns 0 0; arrival = get_or ns 1 0 } ∷ ds)))) ≡ holds es
          → on_numbers o (λ ns. cond (ltb (get_or ns 0 0) inputs && not (elem (get_or ns 0 0) before)) (record { index = get_or ns 0 0; arrival = get_or ns 1 0 } ∷ passed inputs (get_or ns 0 0 ∷ before) ls) []) ≡ es
      go None more q = absurd (let z : ◌≡◌ {A = ℕ} 0 1 = cc in omega arith)
      go (Some ns) more q =
          test (ltb (get_or ns 0 0) inputs && not (elem (get_or ns 0 0) before)) (record { index = get_or ns 0 0; arrival = get_or ns 1 0 }) (passed inputs (get_or ns 0 0 ∷ before) ls)
          (read_input_arrivals inputs (get_or ns 0 0 ∷ before) ls) (more (get_or ns 0 0)) q

  pub listed-all : (s : List ℕ) (es : List InputArrival) → read_arrivals inputs s ≡ holds es → listed inputs s ≡ es
  unfolding read_arrivals read_input_arrival_lines listed listed_lines unless
  listed-all s es = go (lines_from 0 [] s)
    where
      test : (b : Bool) (k : ℕ) (ls : List Line) → unless b 25 k (read_input_arrivals inputs [] ls) ≡ holds es → cond b (passed inputs [] ls) [] ≡ es
      test true k ls q = passed-all [] ls es q
      test false k ls q = absurd (let z : ◌≡◌ {A = ℕ} 0 1 = cc in omega arith)

      go : (ls : List Line) → read_input_arrival_lines inputs ls ≡ holds es → listed_lines inputs ls ≡ es
      go [] e = cc
      go (l ∷ ls) e = test (ended l && same l.bytes (text "input arrival")) l.offset ls e

-- ---- the words

-- the words w have these inputs in the topological order, behind variable 0
pub record Slotted (w : List ℕ) (m : ℕ) (inputs : List ℕ) : Type 0 where
  pub listable : Listable w m (length inputs)
  pub slots : (k : ℕ) → k < length inputs → slot_at w m (k + 1) ≡ get_or inputs k 0

-- the words v are those of w with these arrivals
pub record Stored (w : List ℕ) (m : ℕ) (input_arrival : ℕ → ℕ) (v : List ℕ) : Type 0 where
  pub long : length v ≡ length w
  pub before : (i : ℕ) → i < input_arrival_addr m 0 → get_or v i 0 ≡ get_or w i 0
  pub behind : (i : ℕ) → input_arrival_addr m (m + 1) ≤ i → get_or v i 0 ≡ get_or w i 0
  pub here : (u : ℕ) → u ≤ m → input_arrival_at v m u ≡ input_arrival u

module _ (m : ℕ) (inputs : List ℕ) where
  module _ (w : List ℕ) (s : Slotted w m inputs) (e : InputArrival) (b : e.index < length inputs) where
    one : List ℕ
    one = put_input_arrival w m e.index e.arrival

    one_slotted : Slotted one m inputs
    unfolding one
    one_slotted = record {
      listable = put_listable w m (length inputs) s.listable e.index e.arrival b;
      slots = λ k h. put-slot w m (length inputs) s.listable e.index e.arrival b (k + 1) (omega (arith, s.listable.few)) ∙ s.slots k h;
    }

    one-here : input_arrival_at one m (get_or inputs e.index 0) ≡ e.arrival
    unfolding one put_input_arrival
    one-here =
        ap (λ (u : ℕ). get_or (put_input_arrival w m e.index e.arrival) (input_arrival_addr m u) 0) (sym (s.slots e.index b))
        ∙ ap (λ (a : ℕ). get_or (put_input_arrival w m e.index e.arrival) a 0) (sym (add-zero (input_arrival_addr m (slot_at w m (e.index + 1)))))
        ∙ get_put w (input_arrival_addr m (slot_at w m (e.index + 1))) (e.arrival ∷ []) (input-arrival-fits w m (length inputs) s.listable e.index e.arrival b) 0 (omega arith)

    one_apart : (a : ℕ) → (a ≡ input_arrival_addr m (get_or inputs e.index 0) → ⊥) → get_or one a 0 ≡ get_or w a 0
    unfolding one put_input_arrival
    one_apart a n = go (ltb a (input_arrival_addr m (slot_at w m (e.index + 1)))) refl
      where
        go : (t : Bool) → ltb a (input_arrival_addr m (slot_at w m (e.index + 1))) ≡ t → get_or (put_input_arrival w m e.index e.arrival) a 0 ≡ get_or w a 0
        go true q =
            get_put-below w (input_arrival_addr m (slot_at w m (e.index + 1))) (e.arrival ∷ []) (input-arrival-fits w m (length inputs) s.listable e.index e.arrival b) a
            (ltb-true a (input_arrival_addr m (slot_at w m (e.index + 1))) q)
        go false q =
            let l : input_arrival_addr m (slot_at w m (e.index + 1)) ≤ a = ltb-false a (input_arrival_addr m (slot_at w m (e.index + 1))) q in
            get_put-above w (input_arrival_addr m (slot_at w m (e.index + 1))) (e.arrival ∷ []) (input-arrival-fits w m (length inputs) s.listable e.index e.arrival b) a
            (omega (arith, s.slots e.index b, n))

  -- an input that no line lists
  unlisted : (es : List InputArrival) (w : List ℕ) → Slotted w m inputs → ((k : ℕ) → Lists es k → k < length inputs) → (u : ℕ) → ((k : ℕ) → Lists es k → ¬ (u ≡ get_or inputs k 0))
      → input_arrival_at (put_all w m es) m u ≡ input_arrival_at w m u
  unfolding put_all one
  unlisted [] w s inside u out = refl
  unlisted (e ∷ es) w s inside u out =
      let b : e.index < length inputs = inside e.index (Memᴰ-head refl) in
      let d : ¬ (u ≡ get_or inputs e.index 0) = out e.index (Memᴰ-head refl) in
      unlisted es (put_input_arrival w m e.index e.arrival) (one_slotted w s e b) (λ k i. inside k (Memᴰ-tail i)) u (λ k i. out k (Memᴰ-tail i))
      ∙ one_apart w s e b (input_arrival_addr m u) (λ q. d (omega arith))

  module _ (once : Distinct inputs) where
    all_here : (es : List InputArrival) (w : List ℕ) → Slotted w m inputs → ((k : ℕ) → Lists es k → k < length inputs) → Distinct (map (λ (e : InputArrival). e.index) es)
        → (u : ℕ) → input_arrival_at w m u ≡ 0 → input_arrival_at (put_all w m es) m u ≡ input_arrival_of inputs es u
    unfolding put_all input_arrival_of one
    all_here [] w s inside single u z = z
    all_here (e ∷ es) w s inside single u z = go (eqb u (get_or inputs e.index 0)) refl (λ x y. all_here es (put_input_arrival w m e.index e.arrival) x (λ k i. inside k (Memᴰ-tail i)) single.1 u y)
      where
        b : e.index < length inputs
        b = inside e.index (Memᴰ-head refl)

        slotted : Slotted (put_input_arrival w m e.index e.arrival) m inputs
        slotted = one_slotted w s e b

        later : (k : ℕ) → Lists es k → k < length inputs
        later k i = inside k (Memᴰ-tail i)

        go : (t : Bool) → eqb u (get_or inputs e.index 0) ≡ t
            → (Slotted (put_input_arrival w m e.index e.arrival) m inputs → input_arrival_at (put_input_arrival w m e.index e.arrival) m u ≡ 0
            → input_arrival_at (put_all (put_input_arrival w m e.index e.arrival) m es) m u ≡ input_arrival_of inputs es u)
            → input_arrival_at (put_all (put_input_arrival w m e.index e.arrival) m es) m u ≡ cond (eqb u (get_or inputs e.index 0)) e.arrival (input_arrival_of inputs es u)
        go true q more =
            let x : u ≡ get_or inputs e.index 0 = eqb-true u (get_or inputs e.index 0) q in
            unlisted es (put_input_arrival w m e.index e.arrival) slotted later u
            (λ k i y. single.0 (Memᴰ-cast (place-once inputs once e.index k b (later k i) (sym x ∙ y)) i))
            ∙ ap (input_arrival_at (put_input_arrival w m e.index e.arrival) m) x ∙ one-here w s e b
            ∙ sym (ap (λ (t : Bool). cond t e.arrival (input_arrival_of inputs es u)) q)
        go false q more =
            let n : u ≡ get_or inputs e.index 0 → ⊥ = eqb-false u (get_or inputs e.index 0) q in
            more slotted (one_apart w s e b (input_arrival_addr m u) (λ y. n (omega arith)) ∙ z)
            ∙ sym (ap (λ (t : Bool). cond t e.arrival (input_arrival_of inputs es u)) q)

  -- nothing but arrivals is written
  all_apart : (es : List InputArrival) (w : List ℕ) → Slotted w m inputs → ((k : ℕ) → Lists es k → k < length inputs)
      → (length (put_all w m es) ≡ length w) × ((a : ℕ) → ((u : ℕ) → u ≤ m → a ≡ input_arrival_addr m u → ⊥) → get_or (put_all w m es) a 0 ≡ get_or w a 0)
  unfolding put_all one
  all_apart [] w s inside = (refl, λ a n. refl)
  all_apart (e ∷ es) w s inside =
      let b : e.index < length inputs = inside e.index (Memᴰ-head refl) in
      let r = all_apart es (put_input_arrival w m e.index e.arrival) (one_slotted w s e b) (λ k i. inside k (Memᴰ-tail i)) in
      let low : get_or inputs e.index 0 ≤ m = omega (arith, s.slots e.index b, s.listable.within e.index b) in (
        r.0 ∙ put-long w m (length inputs) s.listable e.index e.arrival b,
        λ a n. r.1 a n ∙ one_apart w s e b a (n (get_or inputs e.index 0) low),
      )

  -- the words with the arrivals of the lines that are read
  pub stored-all : Distinct inputs → (w : List ℕ) → Slotted w m inputs → ((u : ℕ) → u ≤ m → input_arrival_at w m u ≡ 0) → (es : List InputArrival)
      → ((k : ℕ) → Lists es k → k < length inputs) → Distinct (map (λ (e : InputArrival). e.index) es) → Stored w m (input_arrival_of inputs es) (put_all w m es)
  stored-all once w s z es inside single =
      let r = all_apart es w s inside in
      record {
        long = r.0;
        before = λ i h. r.1 i (λ u l q. omega arith);
        behind = λ i h. r.1 i (λ u l q. omega arith);
        here = λ u l. all_here once es w s inside single u (z u l);
      }
