-- Lines read one by one.
use Rattle.base.specs.{ℕ, ◌+◌, ◌*◌, ◌≤◌, ◌<◌, arith, ◌≡◌, refl, sym, ◌∙◌, ap, ap₂, Bool, true, false, cond, ◌&&◌, Option}
use Rattle.base.specs.{None, Some, List, [], ◌∷◌, ◌++◌, append_assoc, append-nil, eq-eqb, ne_eqb, eqb-true, lt-ltb, eqb, length, get_or}
use Rattle.base.specs.{length-append}
use Rattle.model.specs.{each, same, and_then, only, Line, ended, text, fields, Read, holds, fault, next, from?, cells_of, out_name, Driver}
use Rattle.model.specs.{is_net, is_gate, gate_driver, gate_of_fields, name_driver, read_names, read_drivers}
use Rattle.model.specs.declared.Cell.{Cell}
use Rattle.model.specs.declared.Library.{Library}
use Rattle.base_words.specs.{put_at}
use Rattle.base_words.proofs.{put-none, put_append}
use Rattle.base_text.specs.{line_at, past_line}
use Rattle.base_text.proofs.{lines_at_lem, lines_none}
use Rattle.check_names.specs.{gate_by, gate_of, name_code}
use Rattle.check_names.specs.declared.Gate.{Gate}
use Rattle.check_names.proofs.{driver-net, driver_anywhere}
use Rattle.check_reader.specs.{lines_at, gate_words, driver_words, Gates, Partly}

-- ---- a line

-- the test for byte 10 alone
pub ten-not : (cells : List Cell) (l : Line) → (l.ending ≡ 1 → ⊥) → gate_of (gate_driver cells l) ≡ None
unfolding gate_driver only and_then
ten-not cells l h = ap (λ (b : Bool). gate_of (and_then (only b (fields l.bytes)) (gate_of_fields cells l.offset))) (ne_eqb l.ending 1 h)

pub ten-is : (cells : List Cell) (l : Line) → l.ending ≡ 1 → gate_of (gate_driver cells l) ≡ gate_of (gate_of_fields cells 0 (fields l.bytes))
unfolding gate_driver only and_then
ten-is cells l h =
    ap (λ (b : Bool). gate_of (and_then (only b (fields l.bytes)) (gate_of_fields cells l.offset))) (eq-eqb l.ending 1 h)
    ∙ driver_anywhere cells l.offset (fields l.bytes)

-- the same of a `.names` line
pub name-not : (k : ℕ) (l : Line) → (l.ending ≡ 1 → ⊥) → name_code (name_driver k l) ≡ None
unfolding name_driver only
name-not k l h =
    let ws = fields l.bytes in
    ap (λ (b : Bool). name_code (only (b && (eqb (length ws) 3 && (same (get_or ws 0 []) (text ".names") && (is_net (get_or ws 1 []) && same (get_or ws 2 []) (out_name k)))))
    (record { offset = l.offset; table = 2; uses = get_or ws 1 [] ∷ []; net = out_name k }))) (ne_eqb l.ending 1 h)

pub name-is : (k : ℕ) (l : Line) → l.ending ≡ 1 → name_code (name_driver k l) ≡ name_code (name_driver k (record { offset = 0; bytes = l.bytes; ending = 1 }))
unfolding name_driver only
name-is k l h =
    let ws = fields l.bytes in
    ap (λ (b : Bool). name_code (only (b && (eqb (length ws) 3 && (same (get_or ws 0 []) (text ".names") && (is_net (get_or ws 1 []) && same (get_or ws 2 []) (out_name k)))))
    (record { offset = l.offset; table = 2; uses = get_or ws 1 [] ∷ []; net = out_name k }))) (eq-eqb l.ending 1 h)
    ∙ go (eqb (length ws) 3 && (same (get_or ws 0 []) (text ".names") && (is_net (get_or ws 1 []) && same (get_or ws 2 []) (out_name k))))
  where
    go : (b : Bool) → name_code (only b (record { offset = l.offset; table = 2; uses = get_or (fields l.bytes) 1 [] ∷ []; net = out_name k }))
        ≡ name_code (only b (record { offset = 0; table = 2; uses = get_or (fields l.bytes) 1 [] ∷ []; net = out_name k }))
    go true = refl
    go false = refl

-- what the code's answer says of the driver
pub drives-none : (cells : List Cell) (l : Line) → gate_of (gate_driver cells l) ≡ None → gate_driver cells l ≡ None
drives-none cells l e = go (gate_driver cells l) e
  where
    go : (o : Option Driver) → gate_of o ≡ None → o ≡ None
    go None q = refl
    go (Some d) q = absurd (let z : ◌≡◌ {A = ℕ} 0 1 = cc in omega arith)

pub drives-some : (cells : List Cell) (l : Line) (g : Gate) → gate_of (gate_driver cells l) ≡ Some g
    → (d : Driver) × (gate_driver cells l ≡ Some d) × (l.ending ≡ 1) × (gate_words l.offset g ≡ driver_words d)
unfolding driver_words
drives-some cells l g e = go (gate_driver cells l) refl e
  where
    of_ten : (d : Driver) (b : Bool) → eqb l.ending 1 ≡ b → and_then (only b (fields l.bytes)) (gate_of_fields cells l.offset) ≡ Some d → (d.offset ≡ l.offset) × (l.ending ≡ 1)
    of_ten d true q f = ((driver-net cells l.offset (fields l.bytes) d (unfold only and_then in f)).1, eqb-true l.ending 1 q)
    of_ten d false q f = absurd (unfold only and_then in let z : ◌≡◌ {A = ℕ} 0 1 = cc in omega arith)

    go : (o : Option Driver) → gate_driver cells l ≡ o → gate_of o ≡ Some g
        → (d : Driver) × (gate_driver cells l ≡ Some d) × (l.ending ≡ 1) × (gate_words l.offset g ≡ driver_words d)
    go None q f = absurd (let z : ◌≡◌ {A = ℕ} 0 1 = cc in omega arith)
    go (Some d) q f =
        let r = of_ten d (eqb l.ending 1) refl (unfold gate_driver in q) in
        let is : gate_by d ≡ g = cc in
        (d, q, r.1, ap₂ gate_words (sym r.0) (sym is))

-- ---- the lines so far

pub words_long : (ds : List Driver) → length (each driver_words ds) ≡ 8 * length ds
unfolding each driver_words
words_long [] = refl
words_long (d ∷ ds) = let e : length (each driver_words ds) ≡ 8 * length ds = words_long ds in omega arith

pub gate-eight : (offset : ℕ) (g : Gate) → length (gate_words offset g) ≡ 8
unfolding gate_words
gate-eight offset g = refl

pub driver-eight : (d : Driver) → length (driver_words d) ≡ 8
unfolding driver_words gate_words
driver-eight d = refl

pub each_last : (ds : List Driver) (d : Driver) → each driver_words (ds ++ (d ∷ [])) ≡ each driver_words ds ++ driver_words d
unfolding each
each_last [] d = append-nil (driver_words d)
each_last (x ∷ ds) d = ap (λ (ws : List ℕ). driver_words x ++ ws) (each_last ds d) ∙ sym (append_assoc (driver_words x) (each driver_words ds) (driver_words d))

pub record Sofar (s : List ℕ) (lib : Library) (first at count : ℕ) (before now : List ℕ) : Type 0 where
  pub drivers : List Driver
  pub counted : count ≡ length drivers
  pub capacity : 8 * count ≤ length before
  pub stored : now ≡ put_at before 0 (each driver_words drivers)
  pub expected : (end outs : ℕ) → read_drivers (cells_of lib) end outs (lines_at s first) ≡ next (read_drivers (cells_of lib) end outs (lines_at s at)) (λ ds. holds (drivers ++ ds))

pub next-same : (r : Read (List Driver)) → r ≡ next r (λ ds. holds ds)
unfolding next
next-same (holds ds) = refl
next-same (fault n k) = refl

pub next-twice : (r : Read (List Driver)) (d : Driver) (xs : List Driver) → next (next r (λ ds. holds (d ∷ ds))) (λ ds. holds (xs ++ ds)) ≡ next r (λ ds. holds ((xs ++ (d ∷ [])) ++ ds))
unfolding next
next-twice (holds ds) d xs = ap (λ (ys : List Driver). holds ys) (sym (append_assoc xs (d ∷ []) ds))
next-twice (fault n k) d xs = refl

pub so_start : (s : List ℕ) (lib : Library) (first : ℕ) (w : List ℕ) → Sofar s lib first first 0 w w
unfolding each
so_start s lib first w = record { drivers = []; counted = refl; capacity = omega arith; stored = sym (put-none w 0); expected = λ end outs. next-same (read_drivers (cells_of lib) end outs (lines_at s first)) }

module _ (s : List ℕ) (lib : Library) (first at count : ℕ) (before now : List ℕ) (so : Sofar s lib first at count before now) (few : 6 * count ≤ at) where
  abbrev here : Line
  here = line_at s at

  abbrev behind : List Line
  behind = cond (ended here) (lines_at s (past_line s at)) []

  lines-here : at < length s → lines_at s at ≡ here ∷ behind
  lines-here h = lines_at_lem s at h

  -- the drivers of a text that ends here, or whose line here is none of a gate
  pub so_end : length s ≤ at → Gates s lib first (record { at = at; count = count }) before now
  unfolding read_drivers
  so_end h = record {
    drivers = so.drivers;
    counted = so.counted;
    few = few;
    capacity = so.capacity;
    stored = so.stored;
    expected = λ end outs. so.expected end outs ∙ ap (λ (r : Read (List Driver)). next r (λ ds. holds (so.drivers ++ ds))) (at-end end outs);
  }
    where
      at-end : (end outs : ℕ) → read_drivers (cells_of lib) end outs (lines_at s at) ≡ read_names end 0 outs (lines_at s at)
      at-end end outs = ap (read_drivers (cells_of lib) end outs) (lines_none s at h) ∙ sym (ap (read_names end 0 outs) (lines_none s at h))

  -- where the line here is at fault they stay
  pub so_kept : (p : Partly 0 before now) × (6 * length p.drivers ≤ at)
  so_kept = (record { drivers = so.drivers; capacity = omega (arith, so.capacity, so.counted); stored = so.stored }, omega (arith, few, so.counted))

  module _ (h : at < length s) where
    pub so_names : is_gate here ≡ false → Gates s lib first (record { at = at; count = count }) before now
    so_names g = record {
      drivers = so.drivers;
      counted = so.counted;
      few = few;
      capacity = so.capacity;
      stored = so.stored;
      expected = λ end outs. so.expected end outs ∙ ap (λ (r : Read (List Driver)). next r (λ ds. holds (so.drivers ++ ds))) (no_gate_lem end outs);
    }
      where
        other : (end outs : ℕ) (ls : List Line) → read_drivers (cells_of lib) end outs (here ∷ ls) ≡ read_names end 0 outs (here ∷ ls)
        other end outs ls = unfold read_drivers in
            ap (λ (b : Bool). cond b (next (from? (gate_driver (cells_of lib) here) 32 here.offset) (λ d. next (read_drivers (cells_of lib) end outs ls) (λ ds. holds (d ∷ ds)))) (read_names end 0 outs (here ∷ ls))) g

        no_gate_lem : (end outs : ℕ) → read_drivers (cells_of lib) end outs (lines_at s at) ≡ read_names end 0 outs (lines_at s at)
        no_gate_lem end outs = ap (read_drivers (cells_of lib) end outs) (lines-here h) ∙ other end outs behind ∙ sym (ap (read_names end 0 outs) (lines-here h))

    module _ (gate : is_gate here ≡ true) where
      gate-line : (end outs : ℕ) → read_drivers (cells_of lib) end outs (lines_at s at)
          ≡ next (from? (gate_driver (cells_of lib) here) 32 at) (λ d. next (read_drivers (cells_of lib) end outs behind) (λ ds. holds (d ∷ ds)))
      gate-line end outs = ap (read_drivers (cells_of lib) end outs) (lines-here h) ∙ (unfold read_drivers line_at in
          ap (λ (b : Bool). cond b (next (from? (gate_driver (cells_of lib) here) 32 at) (λ d. next (read_drivers (cells_of lib) end outs behind) (λ ds. holds (d ∷ ds)))) (read_names end 0 outs (here ∷ behind))) gate)

      pub so_broken : gate_driver (cells_of lib) here ≡ None → (end outs : ℕ) → read_drivers (cells_of lib) end outs (lines_at s first) ≡ fault 32 at
      unfolding from? next
      so_broken e end outs =
          so.expected end outs ∙ ap (λ (r : Read (List Driver)). next r (λ ds. holds (so.drivers ++ ds)))
          (gate-line end outs ∙ ap (λ (o : Option Driver). next (from? o 32 at) (λ d. next (read_drivers (cells_of lib) end outs behind) (λ ds. holds (d ∷ ds)))) e)

      pub so_step : (d : Driver) → gate_driver (cells_of lib) here ≡ Some d → here.ending ≡ 1 → (after : List ℕ) → after ≡ put_at now (8 * count) (driver_words d)
          → 8 * count + 8 ≤ length before → Sofar s lib first (past_line s at) (count + 1) before after
      unfolding from? next
      so_step d e ten after puts capacity = record {
        drivers = so.drivers ++ (d ∷ []);
        counted = (let z : count + 1 ≡ length so.drivers + 1 = ap (λ (n : ℕ). n + 1) so.counted in z) ∙ sym (length-append so.drivers (d ∷ []));
        capacity = omega arith;
        stored = puts ∙ ap₂ (λ (w : List ℕ) (n : ℕ). put_at w n (driver_words d)) so.stored place
            ∙ put_append before 0 (each driver_words so.drivers) (driver_words d) (capacity_for) ∙ sym (ap (put_at before 0) (each_last so.drivers d));
        expected = λ end outs.
            so.expected end outs ∙ ap (λ (r : Read (List Driver)). next r (λ ds. holds (so.drivers ++ ds)))
            (gate-line end outs ∙ ap (λ (o : Option Driver). next (from? o 32 at) (λ x. next (read_drivers (cells_of lib) end outs behind) (λ ds. holds (x ∷ ds)))) e
            ∙ ap (λ (ls : List Line). next (read_drivers (cells_of lib) end outs ls) (λ ds. holds (d ∷ ds))) behind-is)
            ∙ next-twice (read_drivers (cells_of lib) end outs (lines_at s (past_line s at))) d so.drivers;
      }
        where
          behind-is : behind ≡ lines_at s (past_line s at)
          behind-is = ap (λ (b : Bool). cond b (lines_at s (past_line s at)) []) (lt-ltb 0 here.ending (omega arith))

          long : length (each driver_words so.drivers) ≡ 8 * count
          long = words_long so.drivers ∙ ap (λ (n : ℕ). 8 * n) (sym so.counted)

          place : 8 * count ≡ 0 + length (each driver_words so.drivers)
          place = omega (arith, long)

          eight : length (driver_words d) ≡ 8
          eight = driver-eight d

          capacity_for : 0 + length (each driver_words so.drivers) + length (driver_words d) ≤ length before
          capacity_for = omega (arith, long, eight)
