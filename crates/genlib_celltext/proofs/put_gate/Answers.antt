-- `genlib_celltext::put_gate` meets its contract: the name, pins, table, area and delays.
use Rattle.base.specs.{refl, sym, List, ◌∷◌, [], ◌++◌, append-nil, ℕ, ◌+◌, ◌≤◌, length, arith}
use Rattle.model.specs.{each, number_text, hex_text, gate_text}
use Rattle.base_text.specs.{Wrote}
use Rattle.base_text.proofs.{Partly, begin, step, capacity, finish}
use Rattle.genlib_celltext.specs.declared.Gate.{Gate}
use Rattle.genlib_celltext.specs.{delays_of, name_in, gate_in}
use Rattle.genlib_celltext.proofs.CellTextLength.{gate-is, behind_name, hex_length}
use Rattle.genlib_celltext.proofs.put_gate.Goals as goal

-- what is left behind the area, the table and the pins
abbrev delays : Gate → List ℕ
delays g = each number_text (delays_of g) ++ (10 ∷ [])

abbrev behind_table : Gate → List ℕ
behind_table g = number_text g.area ++ delays g

abbrev hex : Gate → List ℕ
hex g = 32 ∷ hex_text g.table

abbrev behind_pins : Gate → List ℕ
behind_pins g = hex g ++ behind_table g

module _ (o : List ℕ) (at : ℕ) (s : List ℕ) (g : Gate) (room : at + length (gate_text (gate_in s g)) ≤ length o) where
  none : Partly o o at at (gate_text (gate_in s g)) (name_in s g ++ behind_name g)
  none = begin o at (gate-is s g)

  module _ {o1 : List ℕ} {n1 : ℕ} (w1 : Wrote o o1 at n1 (name_in s g)) where
    name : Partly o o1 at n1 (gate_text (gate_in s g)) (behind_name g)
    name = step room none o1 n1 (name_in s g) (behind_name g) refl w1

    module _ {o2 : List ℕ} {n2 : ℕ} (w2 : Wrote o1 o2 n1 n2 (number_text g.pins)) where
      pins : Partly o o2 at n2 (gate_text (gate_in s g)) (behind_pins g)
      pins = step room name o2 n2 (number_text g.pins) (behind_pins g) refl w2

      module _ {o3 : List ℕ} {n3 : ℕ} (w3 : Wrote o2 o3 n2 n3 (hex g)) where
        table : Partly o o3 at n3 (gate_text (gate_in s g)) (behind_table g)
        table = step room pins o3 n3 (hex g) (behind_table g) refl w3

        area : {o4 : List ℕ} {n4 : ℕ} → Wrote o3 o4 n3 n4 (number_text g.area) → Partly o o4 at n4 (gate_text (gate_in s g)) (delays g)
        area {o4} {n4} w4 = step room table o4 n4 (number_text g.area) (delays g) refl w4

pub put_bytes-a-requires : goal.put_bytes-a-requires
put_bytes-a-requires c =
    let r = c.requires.1 in
    let s = c.args.s.now in
    let g = c.args.g in
    capacity r (none c.args.out.now c.args.at s g r) (name_in s g) (behind_name g) refl

pub put_field-b-requires : goal.put_field-b-requires
put_field-b-requires c =
    let r = c.requires.1 in
    let g = c.args.g in
    capacity r (name c.args.out.now c.args.at c.args.s.now g r c.put_bytes-a.ensures) (number_text g.pins) (behind_pins g) refl

pub put_hex-c-requires : goal.put_hex-c-requires
put_hex-c-requires c =
    let r = c.requires.1 in
    let g = c.args.g in
    let p = pins c.args.out.now c.args.at c.args.s.now g r c.put_bytes-a.ensures c.put_field-b.ensures in
    omega (arith, hex_length g.table, capacity r p (hex g) (behind_table g) refl)

pub put_field-d-requires : goal.put_field-d-requires
put_field-d-requires c =
    let r = c.requires.1 in
    let g = c.args.g in
    let p = table c.args.out.now c.args.at c.args.s.now g r c.put_bytes-a.ensures c.put_field-b.ensures c.put_hex-c.ensures in
    capacity r p (number_text g.area) (delays g) refl

pub put_delays-requires : goal.put_delays-requires
put_delays-requires c =
    let r = c.requires.1 in
    let g = c.args.g in
    let p = area c.args.out.now c.args.at c.args.s.now g r c.put_bytes-a.ensures c.put_field-b.ensures c.put_hex-c.ensures c.put_field-d.ensures in
    capacity r p (delays g) [] (sym (append-nil (delays g)))

pub returns : goal.returns
returns c =
    let r = c.requires.1 in
    let p = area c.args.out.now c.args.at c.args.s.now c.args.g r c.put_bytes-a.ensures c.put_field-b.ensures c.put_hex-c.ensures c.put_field-d.ensures in
    finish r p c.put_delays.ensures
