-- What two channels leave: refused together, or each as its passes leave it; and the refusals tried up to 10.
use Rattle.model.specs.{Answer, refused_with}
use Rattle.base.specs.{ℕ, ◌+◌, ◌≤◌, ◌<◌, arith, ◌≡◌, refl, sym, ◌∙◌, ap, ap₂, subst, Bool, true, false, ◌&&◌, List, T, leb, leb→le, le→leb}
use Rattle.base.specs.{length, replicate}
use Rattle.model.specs.{need, Read, holds, fault, next, unless, cells_of, cells_for, read_header, answer_of, text_after, Channel, answers_of}
use Rattle.model.specs.declared.Library.{Library}
use Rattle.model.specs.declared.Header.{Header}
use Rattle.model.specs.declared.Two.{Two}
use Rattle.mapper.specs.{Answered, all_of, graph_for}
use Rattle.mapper_two.specs.{Heads, sum_for, second_for, first_for, pair_for, work_for, PairLeft, TwoLeft}

-- ---- what is left

pub pair_as : {ranged : Bool} {lib : Library} {ids : List ℕ} {a b : Channel} {r s : Read Heads} {work first second : List ℕ} {answer : Two} {y u w : List ℕ}
    → r ≡ s → PairLeft ranged lib ids a b s work first second answer y u w → PairLeft ranged lib ids a b r work first second answer y u w
pair_as {ranged = ranged} {lib = lib} {ids = ids} {a = a} {b = b} {work = work} {first = first} {second = second} {answer = answer} {y = y} {u = u} {w = w} e l =
    subst (λ (x : Read Heads). PairLeft ranged lib ids a b x work first second answer y u w) (sym e) l

-- "neither is mapped and work memory is unchanged"
pub pair-early : (ranged : Bool) (lib : Library) (ids : List ℕ) (a b : Channel) (r : Read Heads) (n k : ℕ) → r ≡ fault n k → (work first second : List ℕ) (answer : Two)
    → answer ≡ record { first = refused_with n k; second = refused_with n k } → PairLeft ranged lib ids a b r work first second answer work first second
unfolding pair_for work_for answers_of answer_of text_after
pair-early ranged lib ids a b r n k e work first second answer q = pair_as e (record { answers = q; words = refl; first_bytes = refl; second_bytes = refl })

-- each channel mapped, and the words zero
pub pair-done : (ranged : Bool) (lib : Library) (ids : List ℕ) (a b : Channel) (r : Read Heads) (h k : Header) → r ≡ holds (record { first = h; second = k }) → (work first second : List ℕ) (p q : Answer) (y u w : List ℕ)
    → Answered (graph_for ranged lib ids a.graph a.arrivals h a.bytes) first p u → Answered (graph_for ranged lib ids b.graph b.arrivals k b.bytes) second q w → y ≡ replicate (length work) 0
    → PairLeft ranged lib ids a b r work first second (record { first = p; second = q }) y u w
unfolding pair_for work_for answers_of
pair-done ranged lib ids a b r h k e work first second p q y u w t v z =
    pair_as e (record { answers = ap₂ (λ (x x' : Answer). record { first = x; second = x' }) t.answers v.answers; words = z; first_bytes = t.bytes; second_bytes = v.bytes })

-- with 30 before them: it does not come, or both have it
module _ (paired ranged : Bool) (lib : Library) (ids : List ℕ) (are_cells : cells_for paired (cells_of lib) ≡ all_of lib ids) (a b : Channel) (work first second : List ℕ) (answer : Two) where
  pub two-done : length (all_of lib ids) ≤ 256 → (y u w : List ℕ) → PairLeft ranged lib ids a b (first_for (length work) a b) work first second answer y u w
      → TwoLeft paired ranged lib a b work first second answer y u w
  unfolding unless
  two-done few y u w l =
      record { ids = ids; are_cells = are_cells; left = pair_as (go (leb (length (all_of lib ids)) 256) (le→leb (length (all_of lib ids)) 256 few)) l }
    where
      go : (x : Bool) → T x → unless x 30 0 (first_for (length work) a b) ≡ first_for (length work) a b
      go true t = refl
      go false t = absurd t

  pub two-early : 256 < length (all_of lib ids) → answer ≡ record { first = refused_with 30 0; second = refused_with 30 0 } → TwoLeft paired ranged lib a b work first second answer work first second
  unfolding unless
  two-early many q =
      record {
        ids = ids;
        are_cells = are_cells;
        left = pair-early ranged lib ids a b _ 30 0 (go (leb (length (all_of lib ids)) 256) (leb→le (length (all_of lib ids)) 256)) work first second answer q;
      }
    where
      go : (x : Bool) → (T x → length (all_of lib ids) ≤ 256) → unless x 30 0 (first_for (length work) a b) ≡ fault 30 0
      go true t = absurd (let z : length (all_of lib ids) ≤ 256 = t tt in omega arith)
      go false t = refl

-- ---- the refusals tried up to 10

-- a need is far below what a number holds
pub need-small : (m o : ℕ) → m ≤ 4095 → o ≤ 4096 → need m o ≤ 512000
unfolding need
need-small m o h k = omega arith

pub sum-short : (words : ℕ) (h k : Header) → words < need h.size h.outputs + need k.size k.outputs → sum_for words h k ≡ fault 10 0
unfolding sum_for unless
sum-short words h k l =
    let s = need h.size h.outputs + need k.size k.outputs in
    go (leb s words) (leb→le s words)
  where
    pair : Heads
    pair = record { first = h; second = k }

    go : (b : Bool) → (T b → need h.size h.outputs + need k.size k.outputs ≤ words) → unless b 10 0 (holds pair) ≡ fault 10 0
    go true y = absurd (let z : need h.size h.outputs + need k.size k.outputs ≤ words = y tt in omega arith)
    go false y = refl

pub sum-enough : (words : ℕ) (h k : Header) → need h.size h.outputs + need k.size k.outputs ≤ words → sum_for words h k ≡ holds (record { first = h; second = k })
unfolding sum_for unless
sum-enough words h k l =
    let s = need h.size h.outputs + need k.size k.outputs in
    go (leb s words) (le→leb s words l)
  where
    pair : Heads
    pair = record { first = h; second = k }

    go : (b : Bool) → T b → unless b 10 0 (holds pair) ≡ holds pair
    go true y = refl
    go false y = absurd y

module _ (words : ℕ) (b : Channel) (h : Header) where
  -- "A text is longer than 65,536 bytes"
  pub second-long : (length b.graph ≤ 65536 → length b.arrivals ≤ 65536 → ⊥) → second_for words b h ≡ fault 1 0
  unfolding second_for unless
  second-long l = go (leb (length b.graph) 65536) (leb (length b.arrivals) 65536) (leb→le (length b.graph) 65536) (leb→le (length b.arrivals) 65536)
    where
      go : (x y : Bool) → (T x → length b.graph ≤ 65536) → (T y → length b.arrivals ≤ 65536) → unless (x && y) 1 0 (next (read_header b.graph) (sum_for words h)) ≡ fault 1 0
      go true true s t = absurd (l (s tt) (t tt))
      go true false s t = refl
      go false y s t = refl

  module _ (short_graph : length b.graph ≤ 65536) (short_arrivals : length b.arrivals ≤ 65536) where
    second-read : second_for words b h ≡ next (read_header b.graph) (sum_for words h)
    unfolding second_for unless
    second-read = go (leb (length b.graph) 65536) (leb (length b.arrivals) 65536) (le→leb (length b.graph) 65536 short_graph) (le→leb (length b.arrivals) 65536 short_arrivals)
      where
        go : (x y : Bool) → T x → T y → unless (x && y) 1 0 (next (read_header b.graph) (sum_for words h)) ≡ next (read_header b.graph) (sum_for words h)
        go true true s t = refl
        go true false s t = absurd t
        go false y s t = absurd s

    pub second_goes : (k : Header) → read_header b.graph ≡ holds k → second_for words b h ≡ sum_for words h k
    unfolding next
    second_goes k e = second-read ∙ ap (λ (r : Read Header). next r (sum_for words h)) e

    pub second-stops : (n k : ℕ) → read_header b.graph ≡ fault n k → second_for words b h ≡ fault n k
    unfolding next
    second-stops n k e = second-read ∙ ap (λ (r : Read Header). next r (sum_for words h)) e

module _ (words : ℕ) (a b : Channel) where
  pub first_goes : (h : Header) → read_header a.graph ≡ holds h → first_for words a b ≡ second_for words b h
  unfolding first_for next
  first_goes h e = ap (λ (r : Read Header). next r (second_for words b)) e

  pub first_stops : (n k : ℕ) → read_header a.graph ≡ fault n k → first_for words a b ≡ fault n k
  unfolding first_for next
  first_stops n k e = ap (λ (r : Read Header). next r (second_for words b)) e
