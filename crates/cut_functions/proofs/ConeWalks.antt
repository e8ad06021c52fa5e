-- What a walk over a cut's cone goes by:
--     ordered-kept, same-walk      what a walk finds hangs on the graph alone
--     fuel                        a walk finds the same with any fuel that is enough
--     noted_more, early-more      a table noted
--     walked-known, walked_none, and-found    a walk that ends at what is noted, at no AND, and one that goes on to both operands
--     left_operand, right_operand the operands of an AND are ordered before it
--     found-..., near-...         what the functions that walk answer and leave
use Rattle.base.specs.{◌≡◌, refl, sym, ap, ◌∙◌, subst, Bool, true, false, cond, ◌⊎◌, inl, inr, ⊎_elim, List, ℕ, zero, suc, ◌+◌, ◌-◌, ◌*◌}
use Rattle.base.specs.{◌/◌, ◌≤◌, ◌<◌, arith, eqb, ltb, length, get_or, set, length-set, get_or-set_same, get_or-set_other, lt-ltb, le-ltb}
use Rattle.base.specs.{ltb-true, ltb-false, ne_eqb, eqb-true, eqb-false}
use Rattle.model.specs.{Node, constant, input, undefined, var_of}
use Rattle.base_words.specs.{constant_kind, input_kind, and_kind, kind_at, left_at, right_at, position_at, left_addr, right_addr, position_addr, counts_from}
use Rattle.base_words.specs.{node_of, node_at}
use Rattle.cut_functions.specs.{leaf_word, literal_word, node_word, or_word, walk_word, joined, Early, Noted, Ordered, Walked, FromLeaves}

-- the walk at one variable, with fuel
pub walk_leaf : (f : ℕ) (node : ℕ → Node) (ls : List ℕ) (v : ℕ) → leaf_word ls 0 v < 65536 → walk_word (suc f) node ls v ≡ leaf_word ls 0 v
unfolding walk_word
walk_leaf f node ls v h = rw (lt-ltb (leaf_word ls 0 v) 65536 h)

walk-node : (f : ℕ) (node : ℕ → Node) (ls : List ℕ) (v : ℕ) → 65536 ≤ leaf_word ls 0 v → walk_word (suc f) node ls v ≡ node_word (walk_word f node ls) (node v)
unfolding walk_word
walk-node f node ls v h = rw (le-ltb (leaf_word ls 0 v) 65536 h)

pub no_and_lem : (look : ℕ → ℕ) (k l r : ℕ) → (k ≡ and_kind → ⊥) → node_word look (node_of k l r) ≡ 0
unfolding node_word
no_and_lem look k l r n = rw (ne_eqb k and_kind n) (by (eqb k constant_kind) (eqb k input_kind))
  where
    by : (a b : Bool) → node_word look (cond a constant (cond b input undefined)) ≡ 0
    by true b = refl
    by false true = refl
    by false false = refl

pub an_and_lem : (look : ℕ → ℕ) (k l r : ℕ) → k ≡ and_kind → node_word look (node_of k l r) ≡ joined l (look (l / 2)) r (look (r / 2))
unfolding node_word joined literal_word var_of
an_and_lem look k l r e = rw e

-- a node's word hangs on the words of its operands alone
pub node-word : (a b : ℕ → ℕ) (k l r : ℕ) → (k ≡ and_kind → a (l / 2) ≡ b (l / 2)) → (k ≡ and_kind → a (r / 2) ≡ b (r / 2))
    → node_word a (node_of k l r) ≡ node_word b (node_of k l r)
node-word a b k l r hl hr = by (eqb k and_kind) refl
  where
    by : (t : Bool) → eqb k and_kind ≡ t → node_word a (node_of k l r) ≡ node_word b (node_of k l r)
    by true e =
        let three : k ≡ and_kind = eqb-true k and_kind e in
        an_and_lem a k l r three ∙ (λ i. joined l (hl three i) r (hr three i)) ∙ sym (an_and_lem b k l r three)
    by false e = no_and_lem a k l r (eqb-false k and_kind e) ∙ sym (no_and_lem b k l r (eqb-false k and_kind e))

-- words that agree in the graph
module _ (w : List ℕ) (m : ℕ) (v : List ℕ) (p : Ordered w m) (long : length v ≡ length w) (below : (i : ℕ) → i < counts_from m → get_or v i 0 ≡ get_or w i 0) where
  pub same_place : (u : ℕ) → u ≤ m → position_at v m u ≡ position_at w m u
  same_place u h = below (position_addr m u) (omega arith)

  same_kind_lem : (u : ℕ) → u ≤ m → kind_at v m u ≡ kind_at w m u
  same_kind_lem u h = below u (omega arith)

  same_left : (u : ℕ) → u ≤ m → left_at v m u ≡ left_at w m u
  same_left u h = below (left_addr m u) (omega arith)

  same-right : (u : ℕ) → u ≤ m → right_at v m u ≡ right_at w m u
  same-right u h = below (right_addr m u) (omega arith)

  -- the place of an operand
  same_operand : {x y : ℕ} → x ≡ y → y ≤ 2 * m + 1 → position_at v m (x / 2) ≡ position_at w m (y / 2)
  same_operand {y = y} e h = ap (λ (q : ℕ). position_at v m (q / 2)) e ∙ same_place (y / 2) (omega arith)

  was_and : (u : ℕ) → u ≤ m → kind_at v m u ≡ and_kind → kind_at w m u ≡ and_kind
  was_and u h k = sym (same_kind_lem u h) ∙ k

  pub ordered-kept : Ordered v m
  ordered-kept =
      record {
        capacity = record { small = p.capacity.small; capacity = omega (arith, p.capacity.capacity, long) };
        lefts = λ u h. omega (arith, p.lefts u h, same_left u h);
        rights = λ u h. omega (arith, p.rights u h, same-right u h);
        left-ordered = λ u h k. omega (arith, same_operand (same_left u h) (p.lefts u h), p.left-ordered u h (was_and u h k));
        right-ordered = λ u h k. omega (arith, same_operand (same-right u h) (p.rights u h), p.right-ordered u h (was_and u h k));
        left-first = λ u h k. omega (arith, same_operand (same_left u h) (p.lefts u h), p.left-first u h (was_and u h k), same_place u h);
        right-first =
            λ u h k. omega (arith, same_operand (same-right u h) (p.rights u h), p.right-first u h (was_and u h k), same_place u h);
      }

  pub same-walk : (ls : List ℕ) (f u : ℕ) → u ≤ m → walk_word f (node_at v m) ls u ≡ walk_word f (node_at w m) ls u
  unfolding walk_word node_at
  same-walk ls zero u h = refl
  same-walk ls (suc f) u h =
      ap (or_word (leaf_word ls 0 u))
      ((λ i. node_word (walk_word f (node_at v m) ls) (node_of (same_kind_lem u h i) (same_left u h i) (same-right u h i)))
      ∙ node-word (walk_word f (node_at v m) ls) (walk_word f (node_at w m) ls) (kind_at w m u) (left_at w m u) (right_at w m u)
      (λ k. same-walk ls f _ (omega (arith, p.lefts u h))) (λ k. same-walk ls f _ (omega (arith, p.rights u h))))

module _ (w : List ℕ) (m : ℕ) (p : Ordered w m) (ls : List ℕ) where
  pub fuel : (f g u : ℕ) → u ≤ m → 0 < position_at w m u → position_at w m u ≤ f → position_at w m u ≤ g → walk_word f (node_at w m) ls u ≡ walk_word g (node_at w m) ls u
  unfolding walk_word node_at
  fuel zero g u h alive hf hg = absurd (omega arith)
  fuel (suc f) zero u h alive hf hg = absurd (omega arith)
  fuel (suc f) (suc g) u h alive hf hg =
      ap (or_word (leaf_word ls 0 u))
      (node-word (walk_word f (node_at w m) ls) (walk_word g (node_at w m) ls) (kind_at w m u) (left_at w m u) (right_at w m u)
      (λ k. fuel f g (left_at w m u / 2) (omega (arith, p.lefts u h)) (p.left-ordered u h k) (omega (arith, p.left-first u h k)) (omega (arith, p.left-first u h k)))
      (λ k. fuel f g (right_at w m u / 2) (omega (arith, p.rights u h)) (p.right-ordered u h k) (omega (arith, p.right-first u h k)) (omega (arith, p.right-first u h k))))

-- a table z noted of v
module _ (w : List ℕ) (m base v z : ℕ) (notes : List ℕ) (capacity : v < length notes) where
  abbrev NoteOf : ℕ → Type 0
  NoteOf u = ((u ≡ v) × (get_or (set notes v (base + z)) u 0 ≡ base + z)) ⊎ (get_or (set notes v (base + z)) u 0 ≡ get_or notes u 0)

  note_of : (u : ℕ) → NoteOf u
  note_of u = by (eqb u v) refl
    where
      by : (t : Bool) → eqb u v ≡ t → NoteOf u
      by true e =
          let same : u ≡ v = eqb-true u v e in
          inl (same, ap (λ (q : ℕ). get_or (set notes v (base + z)) q 0) same ∙ get_or-set_same notes v (base + z) 0 capacity)
      by false e = inr (get_or-set_other notes v u (base + z) 0 (eqb-false u v e))

  pub noted_more : (ls : List ℕ) → Noted w m ls base notes → ((f : ℕ) → position_at w m v ≤ suc f → z ≡ walk_word (suc f) (node_at w m) ls v)
      → Noted w m ls base (set notes v (base + z))
  noted_more ls noted found =
      record {
        right =
            λ u h b f l.
            ⊎_elim
            (λ y.
            let it : z ≡ walk_word (suc f) (node_at w m) ls v = found f (subst (λ (q : ℕ). position_at w m q ≤ suc f) y.0 l) in
            y.1 ∙ ap (λ (q : ℕ). base + q) (it ∙ ap (walk_word (suc f) (node_at w m) ls) (sym y.0)))
            (λ n. n ∙ noted.right u h (omega arith) f l) (note_of u);
        leaves = λ u h l. ⊎_elim (λ y. omega (arith, y.1)) (λ n. omega (arith, noted.leaves u h l)) (note_of u);
      }

  pub early-more : Early m (base + 65536) notes → z < 65536 → Early m (base + 65536) (set notes v (base + z))
  early-more early small =
      record {
        long = length-set notes v (base + z) ∙ early.long;
        before = λ u h. ⊎_elim (λ y. omega (arith, y.1)) (λ n. omega (arith, early.before u h)) (note_of u);
      }

-- a walk over the leaves ls
module _ {w : List ℕ} {m : ℕ} {ls : List ℕ} {base v : ℕ} {notes : List ℕ} (inside : v ≤ m) (noted : Noted w m ls base notes) where
  -- what is noted is what the walk finds
  pub walked-known : 0 < position_at w m v → base ≤ get_or notes v 0 → Walked w m ls base v notes (get_or notes v 0 - base)
  walked-known alive known = record { table = at; noted = noted }
    where
      at : (f : ℕ) → position_at w m v ≤ f → get_or notes v 0 - base ≡ walk_word f (node_at w m) ls v
      at zero h = absurd (omega arith)
      at (suc f) h = omega (arith, noted.right v inside known f h)

  -- what is not noted is no leaf
  at-node : get_or notes v 0 < base → (f : ℕ) → walk_word (suc f) (node_at w m) ls v ≡ node_word (walk_word f (node_at w m) ls) (node_at w m v)
  at-node unnoted f = walk-node f (node_at w m) ls v (by (ltb (leaf_word ls 0 v) 65536) refl)
    where
      by : (t : Bool) → ltb (leaf_word ls 0 v) 65536 ≡ t → 65536 ≤ leaf_word ls 0 v
      by true e = absurd (omega (arith, noted.leaves v inside (ltb-true (leaf_word ls 0 v) 65536 e)))
      by false e = ltb-false (leaf_word ls 0 v) 65536 e

  -- "variable 0 gives 0"
  pub walked_none : 0 < position_at w m v → get_or notes v 0 < base → (kind_at w m v ≡ and_kind → ⊥) → Walked w m ls base v notes 0
  unfolding node_at
  walked_none alive unnoted kind = record { table = at; noted = noted }
    where
      at : (f : ℕ) → position_at w m v ≤ f → 0 ≡ walk_word f (node_at w m) ls v
      at zero h = absurd (omega arith)
      at (suc f) h = sym (at-node unnoted f ∙ no_and_lem (walk_word f (node_at w m) ls) (kind_at w m v) (left_at w m v) (right_at w m v) kind)

  -- a walk that goes on to both operands, whose literals are l and r
  module _ (p : Ordered w m) (kind : kind_at w m v ≡ and_kind) (unnoted : get_or notes v 0 < base) {l r : ℕ} (el : l ≡ left_at w m v)
      (er : r ≡ right_at w m v) {one two : List ℕ} {x y z : ℕ} (a : Walked w m ls base (l / 2) one x) (b : Walked w m ls base (r / 2) two y)
      (ez : z ≡ joined l x r y) where
    pub and-found : (f : ℕ) → position_at w m v ≤ f → z ≡ walk_word f (node_at w m) ls v
    unfolding node_at
    and-found zero h = absurd (omega (arith, p.left-first v inside kind))
    and-found (suc f) h =
        let walk : ℕ → ℕ = walk_word f (node_at w m) ls in
        let xs : x ≡ walk (left_at w m v / 2) =
        subst (λ (q : ℕ). position_at w m (q / 2) ≤ f → x ≡ walk (q / 2)) el (a.table f) (omega (arith, p.left-first v inside kind)) in
        let ys : y ≡ walk (right_at w m v / 2) =
        subst (λ (q : ℕ). position_at w m (q / 2) ≤ f → y ≡ walk (q / 2)) er (b.table f) (omega (arith, p.right-first v inside kind)) in
        ez
        ∙ (λ i. joined (el i) (xs i) (er i) (ys i))
        ∙ sym (at-node unnoted f ∙ an_and_lem walk (kind_at w m v) (left_at w m v) (right_at w m v) kind)

-- an operand of v is a variable that is ordered before it
pub record Operand (w : List ℕ) (m v u : ℕ) : Type 0 where
  pub inside : u ≤ m
  pub alive : 0 < position_at w m u
  pub first : position_at w m u < position_at w m v

module _ {w : List ℕ} {m v : ℕ} (p : Ordered w m) (inside : v ≤ m) (kind : kind_at w m v ≡ and_kind) where
  pub left_operand : {l : ℕ} → l ≡ left_at w m v → Operand w m v (l / 2)
  left_operand e =
      subst (λ (q : ℕ). Operand w m v (q / 2)) (sym e)
      (record { inside = omega (arith, p.lefts v inside); alive = p.left-ordered v inside kind; first = p.left-first v inside kind })

  pub right_operand : {r : ℕ} → r ≡ right_at w m v → Operand w m v (r / 2)
  right_operand e =
      subst (λ (q : ℕ). Operand w m v (q / 2)) (sym e)
      (record { inside = omega (arith, p.rights v inside); alive = p.right-ordered v inside kind; first = p.right-first v inside kind })

-- what a walk from v down answers and leaves, whichever the leaves are: notes of variables that are ordered later stay
pub record Found (w : List ℕ) (m base v : ℕ) (notes out : List ℕ) (r : ℕ) : Type 0 where
  pub small : r < 65536
  pub walked : (ls : List ℕ) → Noted w m ls base notes → Walked w m ls base v out r
  pub early : Early m (base + 65536) out
  pub later : (i : ℕ) → position_at w m v < position_at w m i → get_or out i 0 ≡ get_or notes i 0

module _ {w : List ℕ} {m base v : ℕ} {notes one : List ℕ} {x : ℕ} where
  pub from-leaves-found : Found w m base v notes one x → FromLeaves w m base v notes one x
  from-leaves-found t =
      record {
        walked = λ h. t.walked;
        kept = λ h. absurd (omega (arith, t.small));
        kind = λ h. absurd (omega (arith, t.small));
        unnoted = λ h. absurd (omega (arith, t.small));
        early = t.early;
        later = t.later;
      }

  pub found-from-leaves : FromLeaves w m base v notes one x → x < 65536 → Found w m base v notes one x
  found-from-leaves n h = record { small = h; walked = n.walked h; early = n.early; later = n.later }

  -- a walk behind one that was given up
  pub found_then : FromLeaves w m base v notes one x → 65536 ≤ x → {out : List ℕ} {z : ℕ} → FromLeaves w m base v one out z → z < 65536
      → Found w m base v notes out z
  found_then n h t small =
      record {
        small = small;
        walked = λ ls noted. t.walked small ls (n.kept h ls noted);
        early = t.early;
        later = λ i l. t.later i l ∙ n.later i l;
      }

-- what is known of the notes and the answer of one arm, where both arms meet
pub moved : (P : List ℕ → ℕ → Type 0) {one out : List ℕ} {x z : ℕ} → out ≡ one → z ≡ x → P one x → P out z
moved P {one} {z = z} eo ez t = subst (λ (q : List ℕ). P q z) (sym eo) (subst (P one) (sym ez) t)

module _ {w : List ℕ} {m base v : ℕ} {notes : List ℕ} (inside : v ≤ m) where
  pub found-known : Early m (base + 65536) notes → 0 < position_at w m v → base ≤ get_or notes v 0
      → Found w m base v notes notes (get_or notes v 0 - base)
  found-known early alive known =
      record {
        small = omega (arith, early.before v inside);
        walked = λ ls noted. walked-known inside noted alive known;
        early = early;
        later = λ i h. refl;
      }

  pub found_none : Early m (base + 65536) notes → 0 < position_at w m v → get_or notes v 0 < base → (kind_at w m v ≡ and_kind → ⊥)
      → Found w m base v notes notes 0
  found_none early alive unnoted kind =
      record { small = omega arith; walked = λ ls noted. walked_none inside noted alive unnoted kind; early = early; later = λ i h. refl }

  module _ (p : Ordered w m) (kind : kind_at w m v ≡ and_kind) (unnoted : get_or notes v 0 < base) where
    pub from-leaves-and : {l r : ℕ} → l ≡ left_at w m v → r ≡ right_at w m v → {one two : List ℕ} {x y z : ℕ} → Found w m base (l / 2) notes one x
        → Found w m base (r / 2) one two y → z ≡ joined l x r y → z < 65536 → {out : List ℕ} → out ≡ set two v (base + z) → {q : ℕ} → q ≡ z
        → FromLeaves w m base v notes out q
    from-leaves-and {l} {r} el er {one} {two} {x} {y} {z} a b ez small eo eq =
        moved (FromLeaves w m base v notes) eo eq
        (from-leaves-found (record { small = small; walked = at; early = early-more w m base v z two capacity b.early small; later = stays }))
      where
        capacity : v < length two
        capacity = omega (arith, p.capacity.small, b.early.long)

        at : (ls : List ℕ) → Noted w m ls base notes → Walked w m ls base v (set two v (base + z)) z
        at ls noted =
            let wa : Walked w m ls base (l / 2) one x = a.walked ls noted in
            let wb : Walked w m ls base (r / 2) two y = b.walked ls wa.noted in
            let found = and-found inside noted p kind unnoted el er wa wb ez in
            record { table = found; noted = noted_more w m base v z two capacity ls wb.noted (λ f h. found (suc f) h) }

        stays : (i : ℕ) → position_at w m v < position_at w m i → get_or (set two v (base + z)) i 0 ≡ get_or notes i 0
        stays i h =
            get_or-set_other two v i (base + z) 0 (λ e. let same : position_at w m i ≡ position_at w m v = ap (position_at w m) e in omega arith)
            ∙ b.later i (omega (arith, (right_operand p inside kind er).first))
            ∙ a.later i (omega (arith, (left_operand p inside kind el).first))
