-- The cells to map with, as covers by relations ask of them: four delays each, at most four pins, and the inverters are the listed ones.
--     inverter_iff                a cell is an inverter exactly where it is listed, has one pin and table 0001
use Rattle.base.specs.{ℕ, zero, suc, ◌+◌, ◌≤◌, ◌<◌, le_of_suc-le-suc, not-suc-le-zero, lt_of_not-le, dec_le, arith, ◌≡◌, sym, ◌∙◌, ap, ◌↔◌, ◌&&◌, List, [], ◌∷◌}
use Rattle.base.specs.{map, T, length, length-append, length-map, length-take, take, get_or, eqb, eqb→eq, ltb, ltb→lt, lt→ltb, and_yes, yes_and, yes_eqb}
use Rattle.model.specs.{cell_at, no_cell, is_inverter, join_delays, pair_delays, pair_of}
use Rattle.model.specs.declared.Cell.{Cell}
use Rattle.promises.specs.Covers.{At}
use Rattle.theory_relations.proofs.Places.{at-below, at_get, get_at}

-- what is asked of the cells that covers range over
pub record Sound (listed cells : List Cell) : Type 0 where
  -- the listed cells come first
  pub front : (k : ℕ) → k < length listed → (k < length cells) × (cell_at cells k ≡ cell_at listed k)
  pub named : (k : ℕ) → k < length listed → 0 < (cell_at listed k).len
  pub nameless : (k : ℕ) → k < length cells → length listed ≤ k → (cell_at cells k).len ≡ 0
  pub few : (k : ℕ) → k < length cells → (cell_at cells k).pins ≤ 4
  pub four : (k : ℕ) → k < length cells → length (cell_at cells k).delays ≡ 4

-- ---- the delays of a pair

join-length : (p : ℕ) (ds es : List ℕ) → p < length ds → suc (length (join_delays p ds es)) ≡ length ds + length es
unfolding join_delays
join-length p [] es h = absurd (not-suc-le-zero h)
join-length zero (d ∷ ds) es h = omega (arith, length-append (map (λ (e : ℕ). d + e) es) ds, length-map es (λ (e : ℕ). d + e))
join-length (suc p) (d ∷ ds) es h = let z = join-length p ds es (le_of_suc-le-suc h) in omega arith

pub pair-four : (root : Cell) (pin : ℕ) (inner : Cell) → length root.delays ≡ 4 → length inner.delays ≡ 4 → pin < 4 → 1 ≤ inner.pins
    → length (pair_of root pin inner).delays ≡ 4
unfolding pair_of pair_delays
pair-four root pin inner a b h k = omega (
  arith,
  length-take 4 (join_delays pin root.delays (take inner.pins inner.delays)),
  join-length pin root.delays (take inner.pins inner.delays) (omega arith),
  length-take inner.pins inner.delays,
)

-- ---- inverters

-- "a one-pin cell with table 0001"; "The inverter role stays with listed cells"
pub record Inverts (listed : List Cell) (k : ℕ) : Type 0 where
  pub cell : Cell
  pub is_listed : At listed k cell
  pub one_pin : cell.pins ≡ 1
  pub table : cell.table ≡ 1

module _ (listed cells : List Cell) (ok : Sound listed cells) where
  pub inverter_iff : (k : ℕ) → ((k < length cells) × T (is_inverter (cell_at cells k))) ↔ Inverts listed k
  unfolding is_inverter cell_at
  inverter_iff k = (
    (λ h.
        let c = get_or cells k no_cell in
        let a = and_yes (eqb c.pins 1) (eqb c.table 1 && ltb 0 c.len) h.1 in
        let b = and_yes (eqb c.table 1) (ltb 0 c.len) a.1 in
        let long : 0 < c.len = ltb→lt 0 c.len b.1 in
        elim (dec_le (length listed) k) [
          | yes q ↦ absurd (let z = ok.nameless k h.0 q in omega arith)
          | no q ↦
              let low : k < length listed = lt_of_not-le q in
              let e : c ≡ get_or listed k no_cell = (ok.front k low).1 in
              record {
                cell = get_or listed k no_cell;
                is_listed = get_at listed k no_cell low;
                one_pin = ap (λ (x : Cell). x.pins) (sym e) ∙ eqb→eq c.pins 1 a.0;
                table = ap (λ (x : Cell). x.table) (sym e) ∙ eqb→eq c.table 1 b.0;
              }
        ]),
    (λ i.
        let low = at-below i.is_listed in
        let e : get_or listed k no_cell ≡ i.cell = at_get no_cell i.is_listed in
        let f : get_or cells k no_cell ≡ i.cell = (ok.front k low).1 ∙ e in
        let long : 0 < i.cell.len = rw e at (ok.named k low) in (
          (ok.front k low).0,
          rw f (yes_and (eqb i.cell.pins 1) (eqb i.cell.table 1 && ltb 0 i.cell.len) (yes_eqb i.one_pin)
              (yes_and (eqb i.cell.table 1) (ltb 0 i.cell.len) (yes_eqb i.table) (lt→ltb 0 i.cell.len long))),
        )),
  )
