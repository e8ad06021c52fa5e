-- An output's two lines, read.
use Rattle.base.specs.{ℕ, suc, ◌+◌, ◌-◌, ◌*◌, ◌≤◌, ◌<◌, arith, ◌≡◌, refl, sym, ◌∙◌, ap, ap₂, Bool, true, false, cond, Option}
use Rattle.base.specs.{None, Some, List, [], ◌∷◌, ◌++◌, eqb, length, take, drop, get_or, length-append, take-append_seam, eqb-true, lt-ltb}
use Rattle.base.specs.{add-one}
use Rattle.model.specs.{each, only, Line, ended, ended_by_ten, text, decimal, fields, Read, holds, fault, next, from?, out_name}
use Rattle.model.specs.{Driver, name_driver, past_row, past_lines, read_names}
use Rattle.base_words.specs.{put_at}
use Rattle.base_words.proofs.{length-put, put-none, put_append}
use Rattle.base_text.specs.{line_at, past_line}
use Rattle.base_text.proofs.{lines_at_lem, lines_none, and_left, and_right, dec_below}
use Rattle.check_names.specs.{code, gate_by, name_code}
use Rattle.check_reader.specs.{lines_at, gate_words, driver_words, wire_gate, Stands, Missed, Step, Pairs, Partly}
use Rattle.check_reader.proofs.GateGathering.{words_long, driver-eight, each_last, next-same, next-twice}

-- ---- a letter's net

pub out_long : (k : ℕ) → k ≤ 65535 → length (decimal k) ≤ 5
out_long k h = dec_below 4 k (let z : k < 100000 = omega arith in z)

-- eight bytes, the first the letter
abbrev pub label_bytes : ℕ → List ℕ
label_bytes b = b ∷ 0 ∷ 0 ∷ 0 ∷ 0 ∷ 0 ∷ 0 ∷ 0 ∷ []

pub out_size : (b k : ℕ) → k ≤ 65535 → length (put_at (label_bytes b) 1 (decimal k)) ≡ 8
out_size b k h = length-put (label_bytes b) 1 (decimal k) (omega (arith, out_long k h))

pub out_put : (w : List ℕ) (x k : ℕ) → length w ≡ 8 → get_or w 0 0 ≡ x → take (1 + length (decimal k)) (put_at w 1 (decimal k)) ≡ x ∷ decimal k
unfolding put_at
out_put [] x k n e = absurd (let z : 0 ≡ 8 = n in omega arith)
out_put (b ∷ w) x k n e =
    ap (λ (m : ℕ). take m (b ∷ (decimal k ++ drop (1 + length (decimal k)) (b ∷ w)))) (let z : 1 + length (decimal k) ≡ suc (length (decimal k)) = omega arith in z)
    ∙ ap₂ (λ (y : ℕ) (v : List ℕ). y ∷ v) e (take-append_seam (decimal k) (drop (1 + length (decimal k)) (b ∷ w)))

-- ---- the driver of a `.names` line

only-some : (b : Bool) (x d : Driver) → only b x ≡ Some d → (b ≡ true) × (x ≡ d)
unfolding only
only-some true x d e = (refl, cc)
only-some false x d e = absurd (let z : ◌≡◌ {A = ℕ} 0 1 = cc in omega arith)

-- the line has its end, and its driver's numbers are those of a wire
pub name-none : (k : ℕ) (l : Line) → name_code (name_driver k l) ≡ None → name_driver k l ≡ None
name-none k l e = go (name_driver k l) e
  where
    go : (o : Option Driver) → name_code o ≡ None → o ≡ None
    go None q = refl
    go (Some d) q = absurd (let z : ◌≡◌ {A = ℕ} 0 1 = cc in omega arith)

same-number : (a b : ℕ) → ◌≡◌ {A = Option ℕ} (Some a) (Some b) → a ≡ b
same-number a b e = cc

pub name-some : (k : ℕ) (l : Line) (n : ℕ) → name_code (name_driver k l) ≡ Some n → (d : Driver) × (name_driver k l ≡ Some d) × (l.ending ≡ 1) × (gate_words l.offset (wire_gate n k) ≡ driver_words d)
unfolding driver_words name_driver
name-some k l n e = go (name_driver k l) refl e
  where
    go : (o : Option Driver) → name_driver k l ≡ o → name_code o ≡ Some n → (d : Driver) × (name_driver k l ≡ Some d) × (l.ending ≡ 1) × (gate_words l.offset (wire_gate n k) ≡ driver_words d)
    go None q f = absurd (let z : ◌≡◌ {A = ℕ} 0 1 = cc in omega arith)
    go (Some d) q f =
        let ws = fields l.bytes in
        let r = only-some _ (record { offset = l.offset; table = 2; uses = get_or ws 1 [] ∷ []; net = out_name k }) d q in
        let s : code (get_or d.uses 0 []) ≡ n = same-number (code (get_or d.uses 0 [])) n f in (
          d,
          q,
          eqb-true l.ending 1 (and_left (ended_by_ten l) _ r.0),
          ap (λ (m : ℕ). gate_words l.offset (wire_gate m k)) (sym s ∙ sym (ap (λ (x : Driver). code (get_or x.uses 0 [])) r.1)) ∙ ap (λ (x : Driver). gate_words x.offset (gate_by x)) r.1,
        )

-- its line is not empty
pub name-long : (k : ℕ) (l : Line) (d : Driver) → name_driver k l ≡ Some d → 1 ≤ length l.bytes
unfolding name_driver fields
name-long k l d e =
    let ws = fields l.bytes in
    let r = only-some _ (record { offset = l.offset; table = 2; uses = get_or ws 1 [] ∷ []; net = out_name k }) d e in
    go l.bytes (eqb-true (length ws) 3 (and_left (eqb (length ws) 3) _ (and_right (ended_by_ten l) _ r.0)))
  where
    go : (bs : List ℕ) → length (fields bs) ≡ 3 → 1 ≤ length bs
    go [] q = absurd (let z : 1 ≡ 3 = q in omega arith)
    go (b ∷ bs) q = omega arith

-- ---- the lines

-- the line `1 1` is one that must be there
row_line : (end : ℕ) (ls : List Line) → past_row end ls ≡ past_lines end (text "1 1" ∷ []) ls
unfolding past_row past_lines
row_line end [] = refl
row_line end (l ∷ ls) = refl

module _ (s : List ℕ) (k at : ℕ) where
  pub names-missing : length s ≤ at → (left : ℕ) → read_names (length s) k (suc left) (lines_at s at) ≡ fault 32 (length s)
  unfolding read_names
  names-missing h left = ap (read_names (length s) k (suc left)) (lines_none s at h)

  module _ (h : at < length s) where
    first : (left : ℕ) → read_names (length s) k (suc left) (lines_at s at) ≡ next (from? (name_driver k (line_at s at)) 32 at) (λ d. next (past_row (length s) (cond (ended (line_at s at)) (lines_at s (past_line s at)) []))
        (λ rest. next (read_names (length s) (suc k) left rest) (λ ds. holds (d ∷ ds))))
    unfolding read_names line_at
    first left = ap (read_names (length s) k (suc left)) (lines_at_lem s at h)

    pub names-broken : name_driver k (line_at s at) ≡ None → (left : ℕ) → read_names (length s) k (suc left) (lines_at s at) ≡ fault 32 at
    unfolding from? next
    names-broken e left = first left ∙ ap (λ (o : Option Driver). next (from? o 32 at) (λ d. next (past_row (length s) (cond (ended (line_at s at)) (lines_at s (past_line s at)) []))
        (λ rest. next (read_names (length s) (suc k) left rest) (λ ds. holds (d ∷ ds))))) e

    module _ (d : Driver) (is : name_driver k (line_at s at) ≡ Some d) (ten : (line_at s at).ending ≡ 1) where
      second : (left : ℕ) → read_names (length s) k (suc left) (lines_at s at) ≡ next (past_row (length s) (lines_at s (past_line s at))) (λ rest. next (read_names (length s) (suc k) left rest) (λ ds. holds (d ∷ ds)))
      unfolding from? next
      second left =
          first left ∙ ap (λ (o : Option Driver). next (from? o 32 at) (λ x. next (past_row (length s) (cond (ended (line_at s at)) (lines_at s (past_line s at)) []))
          (λ rest. next (read_names (length s) (suc k) left rest) (λ ds. holds (x ∷ ds))))) is
          ∙ ap (λ (b : Bool). next (past_row (length s) (cond b (lines_at s (past_line s at)) [])) (λ rest. next (read_names (length s) (suc k) left rest) (λ ds. holds (d ∷ ds)))) (lt-ltb 0 (line_at s at).ending (omega arith))

      -- the row is expected behind it
      third : (left : ℕ) → read_names (length s) k (suc left) (lines_at s at) ≡ next (past_lines (length s) (text "1 1" ∷ []) (lines_at s (past_line s at))) (λ rest. next (read_names (length s) (suc k) left rest) (λ ds. holds (d ∷ ds)))
      third left = second left ∙ ap (λ (r : Read (List Line)). next r (λ rest. next (read_names (length s) (suc k) left rest) (λ ds. holds (d ∷ ds)))) (row_line (length s) (lines_at s (past_line s at)))

      pub row-broken : (p : ℕ) → Missed s (text "1 1") (past_line s at) p → (left : ℕ) → read_names (length s) k (suc left) (lines_at s at) ≡ fault 32 p
      unfolding next
      row-broken p row left = third left ∙ ap (λ (x : Read (List Line)). next x (λ rest. next (read_names (length s) (suc k) left rest) (λ ds. holds (d ∷ ds)))) (row.refused [])

      pub row_fine : (p : ℕ) → Stands s (text "1 1") (past_line s at) p
          → (left : ℕ) → read_names (length s) k (suc left) (lines_at s at) ≡ next (read_names (length s) (suc k) left (lines_at s p)) (λ ds. holds (d ∷ ds))
      unfolding next past_lines
      row_fine p row left = third left ∙ ap (λ (x : Read (List Line)). next x (λ rest. next (read_names (length s) (suc k) left rest) (λ ds. holds (d ∷ ds)))) (row.next [])

-- ---- the pairs so far

pub record SoMany (s : List ℕ) (outs first i at k : ℕ) (before now : List ℕ) : Type 0 where
  pub drivers : List Driver
  pub counted : length drivers ≡ k
  pub capacity : 8 * (i + k) ≤ length before
  pub size : length now ≡ length before
  pub stored : now ≡ put_at before (8 * i) (each driver_words drivers)
  pub expected : read_names (length s) 0 outs (lines_at s first) ≡ next (read_names (length s) k (outs - k) (lines_at s at)) (λ ds. holds (drivers ++ ds))

pub pairs_start : (s : List ℕ) (outs first i : ℕ) (w : List ℕ) → 8 * i ≤ length w → SoMany s outs first i first 0 w w
unfolding each
pairs_start s outs first i w capacity = record {
  drivers = [];
  counted = refl;
  capacity = omega arith;
  size = refl;
  stored = sym (put-none w (8 * i));
  expected = next-same (read_names (length s) 0 outs (lines_at s first)) ∙ ap (λ (n : ℕ). next (read_names (length s) 0 n (lines_at s first)) (λ ds. holds ds)) (let z : outs ≡ outs - 0 = omega arith in z);
}

-- where the next line is at fault they stay
pub pairs-kept : (s : List ℕ) (outs first i at k : ℕ) (before now : List ℕ) → SoMany s outs first i at k before now → (after : List ℕ) → after ≡ now → Partly i before after
pairs-kept s outs first i at k before now so after e = record {
  drivers = so.drivers;
  capacity = omega (arith, so.capacity, so.counted);
  stored = e ∙ so.stored;
}

module _ (s : List ℕ) (outs first i at k : ℕ) (before now : List ℕ) (so : SoMany s outs first i at k before now) (here : k < outs) where
  left : outs - k ≡ suc (outs - (k + 1))
  left = omega arith

  pub pairs-broken : (p : ℕ) → ((more : ℕ) → read_names (length s) k (suc more) (lines_at s at) ≡ fault 32 p) → read_names (length s) 0 outs (lines_at s first) ≡ fault 32 p
  unfolding next
  pairs-broken p step =
      so.expected ∙ ap (λ (n : ℕ). next (read_names (length s) k n (lines_at s at)) (λ ds. holds (so.drivers ++ ds))) left
      ∙ ap (λ (r : Read (List Driver)). next r (λ ds. holds (so.drivers ++ ds))) (step (outs - (k + 1)))

  pub pairs-step : 8 * (i + k) + 8 ≤ length before → (p : ℕ) (after : List ℕ) → Step s k at (i + k) p now after → SoMany s outs first i p (k + 1) before after
  pairs-step capacity p after step = record {
    drivers = so.drivers ++ (step.driver ∷ []);
    counted = length-append so.drivers (step.driver ∷ []) ∙ ap (λ (n : ℕ). n + 1) so.counted;
    capacity = omega arith;
    size = ap length step.stored ∙ length-put now (8 * (i + k)) (driver_words step.driver) (omega (arith, so.size, driver-eight step.driver)) ∙ so.size;
    stored = step.stored ∙ ap₂ (λ (w : List ℕ) (n : ℕ). put_at w n (driver_words step.driver)) so.stored place
        ∙ put_append before (8 * i) (each driver_words so.drivers) (driver_words step.driver) (omega (arith, long, driver-eight step.driver))
        ∙ sym (ap (put_at before (8 * i)) (each_last so.drivers step.driver));
    expected = so.expected ∙ ap (λ (n : ℕ). next (read_names (length s) k n (lines_at s at)) (λ ds. holds (so.drivers ++ ds))) left
        ∙ ap (λ (r : Read (List Driver)). next r (λ ds. holds (so.drivers ++ ds))) (step.expected (outs - (k + 1)))
        ∙ next-twice (read_names (length s) (suc k) (outs - (k + 1)) (lines_at s p)) step.driver so.drivers
        ∙ ap (λ (j : ℕ). next (read_names (length s) j (outs - (k + 1)) (lines_at s p)) (λ ds. holds ((so.drivers ++ (step.driver ∷ [])) ++ ds))) (sym (add-one k));
  }
    where
      long : length (each driver_words so.drivers) ≡ 8 * k
      long = words_long so.drivers ∙ ap (λ (n : ℕ). 8 * n) so.counted

      place : 8 * (i + k) ≡ 8 * i + length (each driver_words so.drivers)
      place = omega (arith, long)

pub pairs_end : (s : List ℕ) (outs first i at k : ℕ) (before now : List ℕ) → SoMany s outs first i at k before now → k ≡ outs → 6 * (i + k) ≤ at
    → Pairs s outs first i at before now
pairs_end s outs first i at k before now so e few = record {
  drivers = so.drivers;
  counted = sym (so.counted ∙ e);
  capacity = omega (arith, so.capacity);
  stored = so.stored;
  few = omega arith;
  expected = so.expected ∙ ap₂ (λ (j n : ℕ). next (read_names (length s) j n (lines_at s at)) (λ ds. holds (so.drivers ++ ds))) e (let z : outs - k ≡ 0 = omega arith in z);
}
