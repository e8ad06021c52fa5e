-- A gate validated: what is read of a group, by what each reader of it found.
--     pin-there, pin-absent                the delay of a pin
--     four_is, none_0 to none_3            the delays of a gate
--     gate-found, no_area, no_delays       24
--     sized_many, sized_deep, sized_fits   23
--     at_unended, at-broken, at-formed     22
use Rattle.base.specs.{◌≡◌, refl, sym, ap, ap₂, ◌∙◌, Bool, true, false, cond, ◌&&◌, Option, None, Some, List, [], ◌∷◌, map, ℕ, ◌+◌, ◌-◌}
use Rattle.base.specs.{◌^◌, ◌≤◌, ◌<◌, arith, leb, ltb, length, take, drop, get_or, length-drop, length-take-le, take-take, take-add, drop_at}
use Rattle.base.specs.{drop-drop, ltb-false, lt-ltb, le-ltb, le-leb, lt-leb}
use Rattle.model.specs.{all, keep, and_then, Line, ended, Read, fault, unless, from?, tokens, thousandths, is_pin, pins_of, name_value, row_bits}
use Rattle.model.specs.{shallow, Group, is_gate_line, is_pin_line, line_is, line_tokens, formula_of, has_line, pin_delay, delays_of, gate_from}
use Rattle.model.specs.{table_of, grouped, group_formed, group_small, read_group}
use Rattle.model.specs.GenlibFormula.{value_of}
use Rattle.model.specs.Genlib.{Gate, gate_of}
use Rattle.model.specs.declared.Refusal.{Refusal}
use Rattle.base_text.specs.{line_at}
use Rattle.genlib_expression.specs.{part}
use Rattle.genlib_groups.specs.{lines_of, lines_behind, pin_has, delay_for, group_is, group_at}
use Rattle.std.specs.Option.{ok_or}
use Rattle.genlib_celltext.specs.declared.Gate.{Gate as GateFound}
use Rattle.genlib_call.specs.{GateIs, GateStands, gate_option, validated_read, sized_read, InLine}

-- ---- delays

module _ (lines : List (List (List ℕ))) (names : List (List ℕ)) where
  pub pin-there : (j : ℕ) (name : List ℕ) → j < length names → get_or names j [] ≡ name → pin_delay lines names j ≡ delay_for lines name
  unfolding pin_delay delay_for
  pin-there j name h e = rw (lt-ltb j (length names) h, e)

  pub pin-absent : (j : ℕ) → length names ≤ j → pin_delay lines names j ≡ Some 0
  unfolding pin_delay
  pin-absent j h = rw (le-ltb j (length names) h)

  module _ (d0 d1 d2 : ℕ) where
    pub four_is : (d3 : ℕ) → pin_delay lines names 0 ≡ Some d0 → pin_delay lines names 1 ≡ Some d1 → pin_delay lines names 2 ≡ Some d2 → pin_delay lines names 3 ≡ Some d3
        → delays_of lines names ≡ Some (d0 ∷ d1 ∷ d2 ∷ d3 ∷ [])
    unfolding delays_of and_then
    four_is d3 a b c d = rw (a, b, c, d)

    pub none_3 : pin_delay lines names 0 ≡ Some d0 → pin_delay lines names 1 ≡ Some d1 → pin_delay lines names 2 ≡ Some d2 → pin_delay lines names 3 ≡ None → delays_of lines names ≡ None
    unfolding delays_of and_then
    none_3 a b c d = rw (a, b, c, d)

  pub none_2 : (d0 d1 : ℕ) → pin_delay lines names 0 ≡ Some d0 → pin_delay lines names 1 ≡ Some d1 → pin_delay lines names 2 ≡ None → delays_of lines names ≡ None
  unfolding delays_of and_then
  none_2 d0 d1 a b c = rw (a, b, c)

  pub none_1 : (d0 : ℕ) → pin_delay lines names 0 ≡ Some d0 → pin_delay lines names 1 ≡ None → delays_of lines names ≡ None
  unfolding delays_of and_then
  none_1 d0 a b = rw (a, b)

  pub none_0 : pin_delay lines names 0 ≡ None → delays_of lines names ≡ None
  unfolding delays_of and_then
  none_0 a = rw a

-- ---- what is read, where a test passes or fails

unless_off : {A : Type 0} (b : Bool) (n k : ℕ) (x : Read A) → b ≡ false → unless b n k x ≡ fault n k
unfolding unless
unless_off b n k x e = ap (λ (c : Bool). unless c n k x) e

unless-on : {A : Type 0} (b : Bool) (n k : ℕ) (x : Read A) → b ≡ true → unless b n k x ≡ x
unfolding unless
unless-on b n k x e = ap (λ (c : Bool). unless c n k x) e

-- ---- 24

module _ (lines : List (List (List ℕ))) (ts : List (List ℕ)) where
  -- the gate by its area and its delays
  abbrev gate_by : ℕ → List ℕ → Gate
  gate_by area delays = record { name = get_or ts 1 []; pins = length (pins_of (drop 5 ts)); table = table_of (drop 5 ts); area = area; delays = delays }

  gate_shape : gate_from lines ts ≡ and_then (thousandths (get_or ts 2 [])) (λ area. and_then (delays_of lines (pins_of (drop 5 ts))) (λ delays. Some (gate_by area delays)))
  unfolding gate_from
  gate_shape = refl

  with_area : (o : Option ℕ) (p : Option (List ℕ)) → thousandths (get_or ts 2 []) ≡ o → delays_of lines (pins_of (drop 5 ts)) ≡ p
      → gate_from lines ts ≡ and_then o (λ area. and_then p (λ delays. Some (gate_by area delays)))
  with_area o p a d =
      gate_shape
      ∙ ap (λ (x : Option ℕ). and_then x (λ area. and_then (delays_of lines (pins_of (drop 5 ts))) (λ delays. Some (gate_by area delays)))) a
      ∙ ap (λ (x : Option (List ℕ)). and_then o (λ area. and_then x (λ delays. Some (gate_by area delays)))) d

  pub gate-found : (area : ℕ) (delays : List ℕ) → thousandths (get_or ts 2 []) ≡ Some area → delays_of lines (pins_of (drop 5 ts)) ≡ Some delays
      → gate_from lines ts ≡ Some (record { name = get_or ts 1 []; pins = length (pins_of (drop 5 ts)); table = table_of (drop 5 ts); area = area; delays = delays })
  unfolding and_then
  gate-found area delays a d = with_area (Some area) (Some delays) a d

  pub no_area : thousandths (get_or ts 2 []) ≡ None → gate_from lines ts ≡ None
  unfolding and_then
  no_area a = with_area None (delays_of lines (pins_of (drop 5 ts))) a refl

  pub no_delays : (area : ℕ) → thousandths (get_or ts 2 []) ≡ Some area → delays_of lines (pins_of (drop 5 ts)) ≡ None → gate_from lines ts ≡ None
  unfolding and_then
  no_delays area a d = with_area (Some area) None a d

-- the table by the pins' names
table_shape : (formula : List (List ℕ)) → table_of formula ≡ row_bits (λ row. value_of (name_value (pins_of formula) row) formula) 0 (2 ^ length (pins_of formula))
unfolding table_of
table_shape formula = refl

pub table_is : (names : List (List ℕ)) (n : ℕ) (rest formula : List (List ℕ)) → names ≡ pins_of formula → n ≡ length names → rest ≡ formula
    → row_bits (λ row. value_of (name_value names row) rest) 0 (2 ^ n) ≡ table_of formula
table_is names n rest formula e f h =
    ap (λ (k : ℕ). row_bits (λ row. value_of (name_value names row) rest) 0 (2 ^ k)) f
    ∙ ap (λ (r : List (List ℕ)). row_bits (λ row. value_of (name_value names row) r) 0 (2 ^ length names)) h
    ∙ ap (λ (ns : List (List ℕ)). row_bits (λ row. value_of (name_value ns row) formula) 0 (2 ^ length ns)) e
    ∙ sym (table_shape formula)

-- a part of a part
drop-take : (n m : ℕ) (l : List ℕ) → n ≤ length l → drop n (take (n + m) l) ≡ take m (drop n l)
drop-take n m l h = ap (drop n) (take-add n m l) ∙ drop_at (take n l) (take m (drop n l)) n (length-take-le n l h)

pub part-part : (s w : List ℕ) (at from to : ℕ) → at + length w ≤ length s → w ≡ part s at (at + length w) → from ≤ to → to ≤ length w → part s (at + from) (at + to) ≡ part w from to
part-part s w at from to f e h k =
    let m : ℕ = length w - from in
    let long : at + length w - at ≡ from + m = omega arith in
    let size : at + to - (at + from) ≡ to - from = omega arith in
    let tail : drop from w ≡ take m (drop (at + from) s) =
    ap (drop from) (e ∙ ap (λ (j : ℕ). take j (drop at s)) long)
    ∙ drop-take from m (drop at s) (omega (arith, length-drop at s))
    ∙ ap (take m) (drop-drop from at s) in
    ap (λ (j : ℕ). take j (drop (at + from) s)) size ∙ sym (ap (take (to - from)) tail ∙ take-take (to - from) m (drop (at + from) s) (omega arith))

pub as_read : (s : List ℕ) (at : ℕ) (r : Option GateFound) (o : Option Gate) → GateStands s r → gate_option s r ≡ o
    → let a = ok_or {E = Refusal} r (record { number = 24; place = at }) in GateIs s a × (validated_read s a ≡ from? o 24 at)
unfolding from?
as_read s at (Some g) o h e = (h, ap (λ (x : Option Gate). from? x 24 at) e)
as_read s at None o h e = (tt, ap (λ (x : Option Gate). from? x 24 at) e)

-- ---- 23

module _ (lines : List (List (List ℕ))) (ts : List (List ℕ)) (at : ℕ) where
  sized_shape : sized_read lines ts at ≡ unless (leb (length (pins_of (drop 5 ts))) 4 && shallow 0 (drop 5 ts)) 23 at (from? (gate_from lines ts) 24 at)
  unfolding sized_read
  sized_shape = refl

  pub sized_many : 4 < length (pins_of (drop 5 ts)) → sized_read lines ts at ≡ fault 23 at
  sized_many h = sized_shape ∙ unless_off _ 23 at _ (ap (λ (b : Bool). b && shallow 0 (drop 5 ts)) (lt-leb (length (pins_of (drop 5 ts))) 4 h))

  module _ (h : length (pins_of (drop 5 ts)) ≤ 4) where
    few : leb (length (pins_of (drop 5 ts))) 4 ≡ true
    few = le-leb (length (pins_of (drop 5 ts))) 4 h

    pub sized_deep : shallow 0 (drop 5 ts) ≡ false → sized_read lines ts at ≡ fault 23 at
    sized_deep e = sized_shape ∙ unless_off _ 23 at _ (ap₂ ◌&&◌ few e)

    pub sized_fits : shallow 0 (drop 5 ts) ≡ true → sized_read lines ts at ≡ from? (gate_from lines ts) 24 at
    sized_fits e = sized_shape ∙ unless-on _ 23 at _ (ap₂ ◌&&◌ few e)

-- ---- 22

-- each pin's line, over all tokens or over the pins
keep-step : (q : List ℕ → Bool) (t : List ℕ) (ks : List (List ℕ)) (b : Bool) → (cond b (q t) true && all q ks) ≡ all q (cond b (t ∷ ks) ks)
unfolding all
keep-step q t ks true = refl
keep-step q t ks false = refl

pub all-pins : (lines : List (List (List ℕ))) (ts : List (List ℕ)) → all (pin_has lines) ts ≡ all (has_line lines) (keep is_pin ts)
unfolding all keep pin_has
all-pins lines [] = refl
all-pins lines (t ∷ ts) = ap (λ (b : Bool). cond (is_pin t) (has_line lines t) true && b) (all-pins lines ts) ∙ keep-step (has_line lines) t (keep is_pin ts) (is_pin t)

read_shape : (g : Group) → read_group g ≡ unless (group_formed g) 22 g.head.offset (unless (group_small g) 23 g.head.offset (from? (gate_of g) 24 g.head.offset))
unfolding read_group
read_shape g = refl

formed_shape : (g : Group) → group_formed g ≡ ((ended g.head && is_gate_line (tokens g.head.bytes)) && (all (line_is is_pin_line) g.lines && all (has_line (map line_tokens g.lines)) (keep is_pin (drop 5 (tokens g.head.bytes)))))
unfolding group_formed line_is formula_of line_tokens
formed_shape g = refl

formed_by : (g : Group) → ended g.head ≡ true → group_formed g ≡ (is_gate_line (tokens g.head.bytes) && (all (line_is is_pin_line) g.lines && all (pin_has (map line_tokens g.lines)) (drop 5 (tokens g.head.bytes))))
formed_by g u =
    let ts = tokens g.head.bytes in
    formed_shape g
    ∙ ap (λ (b : Bool). (b && is_gate_line ts) && (all (line_is is_pin_line) g.lines && all (has_line (map line_tokens g.lines)) (keep is_pin (drop 5 ts)))) u
    ∙ ap (λ (b : Bool). is_gate_line ts && (all (line_is is_pin_line) g.lines && b)) (sym (all-pins (map line_tokens g.lines) (drop 5 ts)))

small_shape : (g : Group) → group_small g ≡ (leb (length (pins_of (drop 5 (tokens g.head.bytes)))) 4 && shallow 0 (drop 5 (tokens g.head.bytes)))
unfolding group_small formula_of line_tokens
small_shape g = refl

gate_of_shape : (g : Group) → gate_of g ≡ gate_from (map line_tokens g.lines) (tokens g.head.bytes)
unfolding gate_of line_tokens
gate_of_shape g = refl

is_shape : (s : List ℕ) (next : ℕ) (ts : List (List ℕ)) → group_is s next ts ≡ (is_gate_line ts && (all (line_is is_pin_line) (grouped (lines_of s next)).0 && all (pin_has (lines_behind s next)) (drop 5 ts)))
unfolding group_is
is_shape s next ts = refl

behind_shape : (s : List ℕ) (next : ℕ) → lines_behind s next ≡ map line_tokens (grouped (lines_of s next)).0
unfolding lines_behind
behind_shape s next = refl

-- a group, by the bytes of its GATE line and the lines behind it
module _ (s : List ℕ) (next : ℕ) (g : Group) (ls : g.lines ≡ (grouped (lines_of s next)).0) (w : List ℕ) (b : g.head.bytes ≡ w) where
  lines_are : map line_tokens g.lines ≡ lines_behind s next
  lines_are = ap (map line_tokens) ls ∙ sym (behind_shape s next)

  formed-is : ended g.head ≡ true → group_formed g ≡ group_is s next (tokens w)
  formed-is u =
      formed_by g u
      ∙ ap (λ (v : List ℕ). is_gate_line (tokens v) && (all (line_is is_pin_line) g.lines && all (pin_has (map line_tokens g.lines)) (drop 5 (tokens v)))) b
      ∙ ap₂ (λ (x : List Line) (y : List (List (List ℕ))). is_gate_line (tokens w) && (all (line_is is_pin_line) x && all (pin_has y) (drop 5 (tokens w)))) ls lines_are
      ∙ sym (is_shape s next (tokens w))

  small_is : group_small g ≡ (leb (length (pins_of (drop 5 (tokens w)))) 4 && shallow 0 (drop 5 (tokens w)))
  small_is = small_shape g ∙ ap (λ (v : List ℕ). leb (length (pins_of (drop 5 (tokens v)))) 4 && shallow 0 (drop 5 (tokens v))) b

  gate-is : gate_of g ≡ gate_from (lines_behind s next) (tokens w)
  gate-is = gate_of_shape g ∙ ap₂ (λ (x : List (List (List ℕ))) (v : List ℕ). gate_from x (tokens v)) lines_are b

  pub group_unended : ended g.head ≡ false → read_group g ≡ fault 22 g.head.offset
  group_unended u =
      let ts = tokens g.head.bytes in
      let broken : group_formed g ≡ false =
      formed_shape g ∙ ap (λ (b : Bool). (b && is_gate_line ts) && (all (line_is is_pin_line) g.lines && all (has_line (map line_tokens g.lines)) (keep is_pin (drop 5 ts)))) u in
      read_shape g ∙ unless_off _ 22 _ _ broken

  pub group_broken : ended g.head ≡ true → group_is s next (tokens w) ≡ false → read_group g ≡ fault 22 g.head.offset
  group_broken u f = read_shape g ∙ unless_off _ 22 _ _ (formed-is u ∙ f)

  pub group_formed_lem : ended g.head ≡ true → group_is s next (tokens w) ≡ true → read_group g ≡ sized_read (lines_behind s next) (tokens w) g.head.offset
  group_formed_lem u f =
      read_shape g
      ∙ unless-on _ 22 _ _ (formed-is u ∙ f)
      ∙ ap₂ (λ (x : Bool) (y : Option Gate). unless x 23 g.head.offset (from? y 24 g.head.offset)) small_is gate-is
      ∙ sym (sized_shape (lines_behind s next) (tokens w) g.head.offset)

-- the group at a place, by the line there and the lines from `next` on
module _ (s : List ℕ) (at next : ℕ) (e : lines_of s at ≡ line_at s at ∷ lines_of s next) where
  head_at : (group_at s at).head ≡ line_at s at
  unfolding group_at
  head_at = refl

  lines_at_lem : (group_at s at).lines ≡ (grouped (lines_of s next)).0
  unfolding group_at
  lines_at_lem = ap (λ (ls : List Line). (grouped (drop 1 ls)).0) e

  position_at_lem : (group_at s at).head.offset ≡ at
  unfolding group_at line_at
  position_at_lem = refl

  pub at_unended : ended (line_at s at) ≡ false → read_group (group_at s at) ≡ fault 22 at
  at_unended u = group_unended s next (group_at s at) lines_at_lem (group_at s at).head.bytes refl (ap ended head_at ∙ u) ∙ ap (fault 22) position_at_lem

  module _ (w : List ℕ) (b : w ≡ (line_at s at).bytes) (u : ended (line_at s at) ≡ true) where
    bytes-at : (group_at s at).head.bytes ≡ w
    bytes-at = ap (λ (l : Line). l.bytes) head_at ∙ sym b

    pub at-broken : group_is s next (tokens w) ≡ false → read_group (group_at s at) ≡ fault 22 at
    at-broken f = group_broken s next (group_at s at) lines_at_lem w bytes-at (ap ended head_at ∙ u) f ∙ ap (fault 22) position_at_lem

    pub at-formed : group_is s next (tokens w) ≡ true → read_group (group_at s at) ≡ sized_read (lines_behind s next) (tokens w) at
    at-formed f = group_formed_lem s next (group_at s at) lines_at_lem w bytes-at (ap ended head_at ∙ u) f ∙ ap (sized_read (lines_behind s next) (tokens w)) position_at_lem

-- a line stops before the next begins where they are not one place
pub apart : (stop next : ℕ) → stop ≤ next → (stop ≡ next → ⊥) → ltb stop next ≡ true
apart stop next h ne = go (ltb stop next) refl
  where
    go : (t : Bool) → ltb stop next ≡ t → ltb stop next ≡ true
    go true q = q
    go false q = let k = ltb-false stop next q in absurd (ne (omega arith))

-- the contents of a line are a part of the text
pub in_line : (s : List ℕ) (at stop : ℕ) → at ≤ stop → stop ≤ length s → length s ≤ 65536 → InLine s at (part s at stop)
in_line s at stop h k l =
    let long : length (part s at stop) ≡ stop - at = length-take-le (stop - at) (drop at s) (omega (arith, length-drop at s)) in
    let back : at + length (part s at stop) ≡ stop = omega arith in
    record { fits = omega arith; same = ap (part s at) (sym back); short = omega arith }

-- two gates with the same values
pub same-gate : {a b : List ℕ} {m n x y : ℕ} (area : ℕ) (delays : List ℕ) → a ≡ b → m ≡ n → x ≡ y
    → ◌≡◌ {A = Gate} (record { name = a; pins = m; table = x; area = area; delays = delays }) (record { name = b; pins = n; table = y; area = area; delays = delays })
same-gate area delays p q r = λ i. record { name = p i; pins = q i; table = r i; area = area; delays = delays }
