-- The tally with a netlist's counts added, place by place, and the sums of a report.
use Rattle.std.specs.Prelude.{◌+◌, ◌*◌, ◌^◌, ◌≤◌, ◌<◌, ◌≡◌, ◌∷◌}
use Rattle.base.specs.{ℕ, zero, suc, List, [], ltb, length, get_or, set}
use Rattle.model.specs.{one, no_cell, cell_at, cells_of}
use Rattle.model.specs.declared.Library.{Library}
use Rattle.model.specs.declared.Tally.{Tally}
use Rattle.tally_counting.specs.declared.Counts.{Counts}

-- the first n places with what f adds to them, from place k on
unfoldable pub add_up_to : ℕ → (ℕ → ℕ) → ℕ → List ℕ → List ℕ
add_up_to zero f k ns = ns
add_up_to (suc n) f k [] = []
add_up_to (suc n) f k (m ∷ ms) = (m + f k) ∷ add_up_to n f (suc k) ms

-- what is added at a place: gates, their area, and whether there are any
abbrev pub gates_at : Counts → ℕ → ℕ
gates_at c i = get_or c.n i 0

abbrev pub areas_at : Library → Counts → ℕ → ℕ
areas_at l c i = get_or c.n i 0 * (get_or l.cells i no_cell).area

abbrev pub occurs_at : Counts → ℕ → ℕ
occurs_at c i = one (ltb 0 (get_or c.n i 0))

-- the tally with the first n places added
abbrev pub added_up_to : ℕ → Library → Counts → Tally → Tally
added_up_to n l c t = record {
  gates = add_up_to n (gates_at c) 0 t.gates;
  areas = add_up_to n (areas_at l c) 0 t.areas;
  occurs = add_up_to n (occurs_at c) 0 t.occurs;
  netlists = t.netlists;
}

-- a netlist's counts in all places, and one netlist more
abbrev pub counted_by : Tally → Library → Counts → Tally
counted_by t l c = record {
  gates = add_up_to 32 (gates_at c) 0 t.gates;
  areas = add_up_to 32 (areas_at l c) 0 t.areas;
  occurs = add_up_to 32 (occurs_at c) 0 t.occurs;
  netlists = t.netlists + 1;
}

-- past the listed cells there is no area
abbrev pub Blank : Library → Type 0
Blank l = (i : ℕ) → i < 32 → (get_or l.cells i no_cell).area ≡ (cell_at (cells_of l) i).area

-- so many gates of this area added at a place
abbrev pub added_at : Tally → ℕ → ℕ → ℕ → Tally
added_at t i n area = record {
  gates = set t.gates i (get_or t.gates i 0 + n);
  areas = set t.areas i (get_or t.areas i 0 + n * area);
  occurs = set t.occurs i (get_or t.occurs i 0 + one (ltb 0 n));
  netlists = t.netlists;
}

-- 32 places, and no "tally figure exceeds 2^40"
pub record Wide (t : Tally) : Type 0 where
  pub gates_long : length t.gates ≡ 32
  pub areas_long : length t.areas ≡ 32
  pub occurs_long : length t.occurs ≡ 32
  pub gates : (i : ℕ) → get_or t.gates i 0 ≤ 2 ^ 40
  pub areas : (i : ℕ) → get_or t.areas i 0 ≤ 2 ^ 40
  pub occurs : (i : ℕ) → get_or t.occurs i 0 ≤ 2 ^ 40
