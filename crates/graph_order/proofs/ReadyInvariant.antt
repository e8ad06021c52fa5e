-- The loop that places the ANDs, a slot at a time: what the slots from here on give is what all slots give.
use Rattle.base.specs.{◌≡◌, refl, sym, ap, ◌∙◌, List, ℕ, suc, ◌+◌, ◌-◌, ◌≤◌, ◌<◌, arith, length}
use Rattle.model.specs.declared.Header.{Header}
use Rattle.base_words.specs.{ordered_count, HasCapacity}
use Rattle.graph_order.specs.{Fit, put_ordered, Operands, is_waiting, waiting_from, next_and, order_words, ordered_words, Passed, Ready}
use Rattle.graph_order.specs.{UsersMarked, Next, passed_to, taken_from}
use Rattle.graph_order.proofs.OrderSlots.{fit_length, fit-capacity, ordered-long}
use Rattle.graph_order.proofs.ReadySearch.{Below, below-first}
use Rattle.graph_order.proofs.OrderedWords.{operands_ordered, order-on, order_off, order-end, mark_on, mark_ordered, next-first}
use Rattle.graph_order.proofs.UserLists.{passed_on, marked_start}

-- the definitions are at the mark `low`
pub record Filled (h : Header) (w : List ℕ) (slot scan : ℕ) (x heads links bits : List ℕ) : Type 0 where
  pub from : h.inputs + 1 ≤ slot
  pub upto : slot ≤ ordered_count h
  pub long : length x ≡ length w
  pub operands : Operands x h.size
  pub passed : Passed h.size x scan heads links
  pub ready : Ready h.size x links bits
  pub low : ℕ
  pub mark : Below (is_waiting x h.size) h.size low
  pub words : ordered_words w h ≡ order_words h.size (ordered_count h - slot) slot low x

pub filled-first : (h : Header) (w heads links bits : List ℕ) → Operands w h.size → Passed h.size w 1 heads links → Ready h.size w links bits
    → Filled h w (h.inputs + 1) 1 w heads links bits
unfolding ordered_words
filled-first h w heads links bits o p r =
    let e : h.ands ≡ ordered_count h - (h.inputs + 1) = omega arith in
    record {
      from = omega arith;
      upto = omega arith;
      long = refl;
      operands = o;
      passed = p;
      ready = r;
      low = 1;
      mark = below-first (is_waiting w h.size) h.size;
      words = ap (λ (n : ℕ). order_words h.size n (h.inputs + 1) 1 w) e;
    }

module _ (h : Header) (w : List ℕ) (fit : Fit h w) (slot scan : ℕ) (x heads₀ links₀ bits : List ℕ) (f : Filled h w slot scan x heads₀ links₀ bits)
    (heads links : List ℕ) (b : ℕ) (n : Next h.size x scan heads links bits b) where
  capacity : HasCapacity x h.size
  capacity = fit-capacity h x (fit_length h w x fit f.long)

  next-is : b ≡ next_and x h.size f.low
  next-is = n.next ∙ next-first h.size x f.low f.mark

  pub filled_off : slot < ordered_count h → h.size < b → x ≡ ordered_words w h
  filled_off l c =
      let k : ordered_count h - slot ≡ suc (ordered_count h - (slot + 1)) = omega arith in
      sym (f.words ∙ (order_off h.size (ordered_count h - (slot + 1)) slot f.low x (ordered_count h - slot) k (omega (arith, next-is))).0)

  module _ (l : slot < ordered_count h) (c : b ≤ h.size) (y : List ℕ) (e : y ≡ put_ordered x h.size slot b) where
    slot_in : slot ≤ h.size
    slot_in = omega (arith, fit.lines)

    pub ordered_operands : Operands y h.size
    ordered_operands = rw e (operands_ordered x h.size slot b capacity slot_in c f.operands)

    pub ordered-length : length y ≡ length w
    ordered-length = ap length e ∙ ordered-long x h.size slot b capacity slot_in c ∙ f.long

    pub to_mark : (ms : List ℕ) → ms ≡ taken_from scan b bits → UsersMarked h.size y b heads links ms
    to_mark ms q = rw (e, q) (marked_start h.size x scan heads links bits b capacity n c slot slot_in)

    pub filled_on : (s : ℕ) → s ≡ passed_to scan b → (ms : List ℕ) → Ready h.size y links ms → Filled h w (slot + 1) s y heads links ms
    filled_on s q ms r =
        let k : ordered_count h - slot ≡ suc (ordered_count h - (slot + 1)) = omega arith in
        let t = order-on h.size (ordered_count h - (slot + 1)) slot f.low x (ordered_count h - slot) k (omega (arith, next-is)) in
        let i : put_ordered x h.size slot (next_and x h.size f.low) ≡ y = ap (put_ordered x h.size slot) (sym next-is) ∙ sym e in
        record {
          from = omega (arith, f.from);
          upto = omega arith;
          long = ordered-length;
          operands = ordered_operands;
          passed = rw (e, q) (passed_on h.size x scan heads links bits b capacity n c slot slot_in);
          ready = r;
          low = waiting_from x h.size f.low;
          mark = rw e (mark_ordered h.size x (waiting_from x h.size f.low) (mark_on h.size x f.low f.mark) slot b capacity slot_in c);
          words = f.words ∙ t.0 ∙ rw i;
        }

pub filled-end : (h : Header) (w : List ℕ) (slot scan : ℕ) (x heads links bits : List ℕ) → Filled h w slot scan x heads links bits → ordered_count h ≤ slot → x ≡ ordered_words w h
filled-end h w slot scan x heads links bits f l = sym (f.words ∙ (order-end h.size slot f.low x (ordered_count h - slot) (omega arith)).0)
