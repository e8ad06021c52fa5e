-- What the loop of `lists` goes by: the words hold exactly the lists that are known, and what listing reads of the graph stays.
--     Held                        the words in the course of listing
--     represented_begin, represented-next       at first, and after one variable more
--     listing-next, listing_stop  one variable more of `listing`, listed or refused
use Rattle.std.specs.Prelude.{Ok}
use Rattle.base.specs.{◌≡◌, refl, sym, ap, ◌∙◌, subst, Bool, true, false, cond, List, [], ◌∷◌, ℕ, zero, suc, ◌+◌, ◌-◌, ◌/◌, ◌≤◌, ◌<◌}
use Rattle.base.specs.{add-zero, add-suc, add-one, arith, eqb, leb, length, get_or, leb-true, eqb-true, eqb-false}
use Rattle.model.specs.{cut_limit, find, constant, input, undefined, both, var_of, node_cuts, Verdict, refused_with}
use Rattle.base_words.specs.{HasCapacity, constant_kind, input_kind, and_kind, kind_at, left_at, right_at, slot_at, count_at, left_addr, right_addr}
use Rattle.base_words.specs.{slot_addr, counts_from, counts_to, lists_from, lists_to, node_of, node_at, cuts_at, put_list, AllGood, Sound}
use Rattle.base_words.proofs.{none-listed, put_list_length, put_list_below, put_list_middle, put_list_above, put_list_cuts, put_list_other}
use Rattle.base_words.proofs.{put_list_sound, put_list_sound_other}
use Rattle.cut_lists.specs.{Known, Ready, Operands, State, cuts_now, few, listed, step_cuts, join, onward, listing, stored}
use Rattle.cut_lists.proofs.NodeCuts.{now_good}

-- the words v, in the course of listing those of w
pub record ListedSoFar (w : List ℕ) (m : ℕ) (known : Known) (v : List ℕ) : Type 0 where
  pub long : length v ≡ length w
  pub below : (i : ℕ) → i < counts_from m → get_or v i 0 ≡ get_or w i 0
  pub middle : (i : ℕ) → counts_to m ≤ i → i < lists_from m → get_or v i 0 ≡ get_or w i 0
  pub above : (i : ℕ) → lists_to m ≤ i → get_or v i 0 ≡ get_or w i 0
  pub sound : (u : ℕ) → u ≤ m → Sound v m u
  pub cuts : (u : ℕ) → u ≤ m → cuts_at v m u ≡ find [] u known
  pub is : v ≡ stored w m known

pub represented_begin : (w : List ℕ) (m n : ℕ) → Ready w m n → ListedSoFar w m [] w
unfolding stored find
represented_begin w m n r =
    record { long = refl; below = λ i h. refl; middle = λ i h l. refl; above = λ i h. refl; sound = λ u h. begin u (r.none_yet u h); cuts = λ u h. none-listed w m u (r.none_yet u h); is = refl }
  where
    begin : (u : ℕ) → count_at w m u ≡ 0 → Sound w m u
    begin u e = record { few = omega arith; narrow = λ k h. absurd (omega arith); good = subst AllGood (sym (none-listed w m u e)) tt }

module _ (w : List ℕ) (m n : ℕ) (r : Ready w m n) (known : Known) (v : List ℕ) (represented : ListedSoFar w m known v) where
  pub represented_operands : Operands v m
  represented_operands =
      record {
        capacity = record { small = r.capacity.small; capacity = omega (arith, r.capacity.capacity, represented.long) };
        lefts = λ u h. omega (arith, r.lefts u h, represented.below (left_addr m u) (omega arith));
        rights = λ u h. omega (arith, r.rights u h, represented.below (right_addr m u) (omega arith));
        sound = represented.sound;
      }

  pub represented-slot : (i : ℕ) → i ≤ m → slot_at v m i ≡ slot_at w m i
  represented-slot i h = represented.below (slot_addr m i) (omega arith)

  module _ (x : ℕ) (inside : x ≤ m) where
    same-node : node_at v m x ≡ node_at w m x
    unfolding node_at
    same-node =
        λ i. node_of (represented.below x (omega arith) i) (represented.below (left_addr m x) (omega arith) i) (represented.below (right_addr m x) (omega arith) i)

    -- the cuts of a node hang on the lists of its operands alone
    node-same : (k l q : ℕ) → l / 2 ≤ m → q / 2 ≤ m → node_cuts (cuts_at v m) x (node_of k l q) ≡ node_cuts (λ u. find [] u known) x (node_of k l q)
    unfolding node_cuts var_of
    node-same k l q hl hq = by (eqb k constant_kind) (eqb k input_kind) (eqb k and_kind)
      where
        by : (a b c : Bool) → node_cuts (cuts_at v m) x (cond a constant (cond b input (cond c (both l q) undefined)))
            ≡ node_cuts (λ u. find [] u known) x (cond a constant (cond b input (cond c (both l q) undefined)))
        by true b c = refl
        by false true c = refl
        by false false true =
            λ i.
            Rattle.model.specs.Base.union Rattle.model.specs.Cuts.compare_cuts
            ((x ∷ []) ∷ Rattle.model.specs.Cuts.unions (represented.cuts (l / 2) hl i) (represented.cuts (q / 2) hq i)) []
        by false false false = refl

    pub same-cuts : cuts_now v m x ≡ step_cuts w m known x
    unfolding cuts_now step_cuts node_at
    same-cuts =
        ap (node_cuts (cuts_at v m) x) same-node
        ∙ node-same (kind_at w m x) (left_at w m x) (right_at w m x) (omega (arith, r.lefts x inside)) (omega (arith, r.rights x inside))

    pub represented-next : few v m x ≡ true → ListedSoFar w m ((x, step_cuts w m known x) ∷ known) (listed v m x)
    unfolding few listed stored find
    represented-next test =
        rw test
        (record {
          long = put_list_length v m x cs capacity inside small ∙ represented.long;
          below = λ i h. put_list_below v m x cs capacity inside small i h ∙ represented.below i h;
          middle = λ i h l. put_list_middle v m x cs capacity inside small i h l ∙ represented.middle i h l;
          above = λ i h. put_list_above v m x cs capacity inside small i h ∙ represented.above i h;
          sound = λ u h. by_sound u h (eqb u x) refl;
          cuts = λ u h. by_cuts u h (eqb u x) refl;
          is = (λ i. put_list (represented.is i) m x (same-cuts i));
        })
      where
        cs : List (List ℕ)
        cs = cuts_now v m x

        capacity : HasCapacity v m
        capacity = represented_operands.capacity

        small : length cs ≤ cut_limit
        small = leb-true (length cs) cut_limit test

        good : AllGood cs
        good = now_good v m x represented_operands inside small

        by_sound : (u : ℕ) → u ≤ m → (t : Bool) → eqb u x ≡ t → Sound (put_list v m x cs) m u
        by_sound u h true e = subst (Sound (put_list v m x cs) m) (sym (eqb-true u x e)) (put_list_sound v m x cs capacity inside small good)
        by_sound u h false e = put_list_sound_other v m x cs capacity inside small u h (eqb-false u x e) (represented.sound u h)

        by_cuts : (u : ℕ) → u ≤ m → (t : Bool) → eqb u x ≡ t → cuts_at (put_list v m x cs) m u ≡ cond t (step_cuts w m known x) (find [] u known)
        by_cuts u h true e = ap (cuts_at (put_list v m x cs) m) (eqb-true u x e) ∙ put_list_cuts v m x cs capacity inside small good ∙ same-cuts
        by_cuts u h false e = put_list_other v m x cs capacity inside small u h (eqb-false u x e) (represented.sound u h).few ∙ represented.cuts u h

    -- what `listing` makes of x, by the test
    pub few-same : few v m x ≡ leb (length (step_cuts w m known x)) cut_limit
    unfolding few
    few-same = ap (λ (q : List (List ℕ)). leb (length q) cut_limit) same-cuts

-- one variable more of a listing that goes on
module _ (w : List ℕ) (m i : ℕ) (on : (listing w m i).answer ≡ Ok tt) where
  more : listing w m (i + 1) ≡ join (slot_at w m i) (step_cuts w m (listing w m i).known (slot_at w m i)) (listing w m i).known
  unfolding listing onward
  more = rw add-one (ap (λ (a : Verdict). onward w m (slot_at w m i) a (listing w m i).known) on)

  pub listing-next : leb (length (step_cuts w m (listing w m i).known (slot_at w m i))) cut_limit ≡ true
      → listing w m (i + 1) ≡ record { answer = (Ok tt); known = (slot_at w m i, step_cuts w m (listing w m i).known (slot_at w m i)) ∷ (listing w m i).known }
  unfolding join
  listing-next e = more ∙ rw e

  pub listing_stop : leb (length (step_cuts w m (listing w m i).known (slot_at w m i))) cut_limit ≡ false
      → listing w m (i + 1) ≡ record { answer = refused_with 16 (slot_at w m i); known = (listing w m i).known }
  unfolding join
  listing_stop e = more ∙ rw e

-- after a refusal nothing more is done
pub stuck : (w : List ℕ) (m i k x : ℕ) (known : Known) → listing w m i ≡ record { answer = refused_with 16 x; known = known }
    → listing w m (i + k) ≡ record { answer = refused_with 16 x; known = known }
unfolding listing onward
stuck w m i zero x known e = rw add-zero e
stuck w m i (suc k) x known e =
    let rest : listing w m (i + k) ≡ record { answer = refused_with 16 x; known = known } = stuck w m i k x known e in
    rw add-suc (ap (λ (s : State). onward w m (slot_at w m (i + k)) s.answer s.known) rest)

-- a step of `lists`: v are the words at its start, x the variable in slot i, out what `list_node` leaves
module _ (w : List ℕ) (m n : ℕ) (r : Ready w m n) (i : ℕ) (h : i < n) (on : (listing w m i).answer ≡ Ok tt)
    (v : List ℕ) (represented : ListedSoFar w m (listing w m i).known v) (x : ℕ) (ex : x ≡ slot_at v m i) (out : List ℕ) (eo : out ≡ listed v m x) where
  pub step-slot : x ≡ slot_at w m i
  step-slot = ex ∙ represented-slot w m n r (listing w m i).known v represented i (omega (arith, r.ordered))

  pub step-inside : x ≤ m
  step-inside = omega (arith, step-slot, r.slots i h)

  tested : (t : Bool) → few v m x ≡ t → leb (length (step_cuts w m (listing w m i).known (slot_at w m i))) cut_limit ≡ t
  tested t e =
      subst (λ (y : ℕ). leb (length (step_cuts w m (listing w m i).known y)) cut_limit ≡ t) step-slot
      (sym (few-same w m n r (listing w m i).known v represented x step-inside) ∙ e)

  pub step-on : few v m x ≡ true → ((listing w m (i + 1)).answer ≡ Ok tt) × ListedSoFar w m (listing w m (i + 1)).known out
  step-on e =
      let s = listing-next w m i on (tested true e) in
      let k : Known = (listing w m i).known in (
        ap (λ (q : State). q.answer) s,
        subst (λ (q : Known). ListedSoFar w m q out) (sym (ap (λ (q : State). q.known) s))
            (subst (λ (y : ℕ). ListedSoFar w m ((y, step_cuts w m k y) ∷ k) out) step-slot
            (subst (ListedSoFar w m ((x, step_cuts w m k x) ∷ k)) (sym eo) (represented-next w m n r k v represented x step-inside e))),
      )

  pub step_off : few v m x ≡ false → (refused_with 16 x ≡ (listing w m n).answer) × (out ≡ stored w m (listing w m n).known)
  unfolding listed
  step_off e =
      let k : Known = (listing w m i).known in
      let rest : i + 1 + (n - (i + 1)) ≡ n = omega arith in
      let s : listing w m n ≡ record { answer = refused_with 16 (slot_at w m i); known = k } =
      subst (λ (j : ℕ). listing w m j ≡ record { answer = refused_with 16 (slot_at w m i); known = k }) rest
      (stuck w m (i + 1) (n - (i + 1)) (slot_at w m i) k (listing_stop w m i on (tested false e))) in (
        ap (refused_with 16) step-slot ∙ sym (ap (λ (q : State). q.answer) s),
        eo ∙ rw e (represented.is ∙ ap (λ (q : State). stored w m q.known) (sym s)),
      )
