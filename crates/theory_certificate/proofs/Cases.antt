-- Computed examples: the joined netlist of gt_w2.st with the library array, as a certificate. It runs and has the output's literal; with one wrong word it does not.
use Rattle.base.specs.{ℕ, Option, None, Some, List, [], ◌∷◌, ◌++◌, ◌≡◌, refl}
use Rattle.model.specs.{And, and_then, any, bit, cell_at, flip, latest, literal, negated, one, only, row_of, tabulate, value, var_of, largest, sum}
use Rattle.model.specs.Graph.{Graph}
use Rattle.model.specs.declared.Cell.{Cell}
use Rattle.certificate_model.specs.{Move, Outcome, HasCapacity, add, and, block, done, pin, and_at, at, block_vars, certify, conj, feed_arrivals}
use Rattle.certificate_model.specs.{feed_pins, feed_rows, feed_tables, fed_at, figures_by, gate_at, gate_row, gate_table, leaf_table, lit_table, made_of}
use Rattle.certificate_model.specs.{move, no_made, out_row, out_rows, phased, pin_nets, push, push_equal, push_fact, push_net, push_var, row, run, same_row, start, started}
use Rattle.certificate_model.specs.{with_gate, with_input}

cell : List ℕ → ℕ → ℕ → Cell
cell name pins table = record { name = name; len = 0; pins = pins; table = table; area = pins; delays = (10 ∷ 10 ∷ 10 ∷ 10 ∷ []); mins = (7 ∷ 7 ∷ 7 ∷ 7 ∷ []) }

cells : List Cell
unfolding cell
cells = (cell (105 ∷ 110 ∷ 118 ∷ []) 1 1 ∷ cell (110 ∷ 97 ∷ 110 ∷ 100 ∷ 50 ∷ []) 2 7 ∷ cell (110 ∷ 111 ∷ 114 ∷ 50 ∷ []) 2 1 ∷ cell (111 ∷ 97 ∷ 105 ∷ 50 ∷ 49 ∷ []) 3 31 ∷ [])

an : ℕ → ℕ → ℕ → And
an v l r = record { var = v; left = l; right = r }

gt : Graph
unfolding an
gt = record {
  size = 15;
  inputs = (1 ∷ 2 ∷ 3 ∷ 4 ∷ []);
  outputs = (30 ∷ []);
  ands = (an 5 6 3 ∷ an 6 7 2 ∷ an 7 13 11 ∷ an 8 8 5 ∷ an 9 9 4 ∷ an 10 19 17 ∷ an 11 20 14 ∷ an 12 15 13 ∷ an 13 25 20 ∷ an 14 27 19 ∷ an 15 29 23 ∷ []);
  input_arrival = λ _. 0;
}

-- up to the last gate. Facts 0 to 3 are the inputs', the further ones those of `done`, in order
before : List Move
unfolding row
before = (block (row 4 0 0 0) ∷ pin 3 1 ∷ add 0 9 (row 0 0 0 0) ∷ done 1 1 9
    ∷ block (row 2 4 0 0) ∷ and 4 2 1 ∷ pin 1 1 ∷ pin 4 2 ∷ add 1 19 (row 0 1 0 0) ∷ done 2 5 19
    ∷ block (row 2 4 0 0) ∷ and 3 2 1 ∷ pin 1 1 ∷ pin 4 2 ∷ add 2 32 (row 0 1 0 0) ∷ done 2 5 16
    ∷ block (row 3 0 0 0) ∷ pin 2 1 ∷ add 0 7 (row 0 0 0 0) ∷ done 1 1 7
    ∷ block (row 1 3 0 0) ∷ and 1 2 1 ∷ pin 0 1 ∷ pin 7 2 ∷ add 1 13 (row 0 1 0 0) ∷ done 2 5 13
    ∷ block (row 5 6 8 9) ∷ and 2 2 1 ∷ and 5 4 3 ∷ and 6 6 5 ∷ and 7 5 2 ∷ and 8 8 6 ∷ and 9 9 4 ∷ and 10 10 7 ∷ pin 8 2 ∷ pin 6 3 ∷ pin 5 4 ∷ [])

right : List Move
unfolding before row
right = before ++ (add 3 30 (row 0 1 2 0) ∷ done 3 11 30 ∷ [])

swapped : List Move
unfolding before row
swapped = before ++ (add 3 30 (row 2 0 1 0) ∷ done 3 11 30 ∷ [])

complemented : List Move
unfolding before row
complemented = before ++ (add 3 30 (row 0 1 2 0) ∷ done 3 11 31 ∷ [])

-- net 13 is driven already
twice : List Move
unfolding before row
twice = before ++ (add 3 13 (row 0 1 2 0) ∷ done 3 11 30 ∷ [])

capacity : HasCapacity
capacity = record { facts = 10; equals = 0; gates = 6 }

-- the figures, where the certificate is accepted
answer : Option Outcome → List ℕ
unfolding figures_by largest sum cell_at cells cell
answer None = []
answer (Some o) = (figures_by cells o).gates ∷ (figures_by cells o).area ∷ (figures_by cells o).arrival ∷ []

validated : List Move → List ℕ
unfolding answer cells cell gt an capacity certify run move at lit_table and_at gate_at feed_rows fed_at feed_pins feed_tables feed_arrivals gate_row gate_table block_vars leaf_table phased conj push push_var push_net push_fact push_equal with_gate made_of same_row row pin_nets out_row out_rows start started with_input no_made and_then only any var_of negated literal tabulate bit one flip value row_of latest cell_at
validated ms = answer (certify 33 capacity cells gt ms (9 ∷ []))

right_runs : validated right ≡ (6 ∷ 11 ∷ 30 ∷ [])
unfolding validated right before answer cells cell gt an capacity certify run move at lit_table and_at gate_at feed_rows fed_at feed_pins feed_tables feed_arrivals gate_row gate_table block_vars leaf_table phased conj push push_var push_net push_fact push_equal with_gate made_of same_row row pin_nets out_row out_rows start started with_input no_made and_then only any var_of negated literal tabulate bit one flip value row_of latest cell_at figures_by largest sum
right_runs = refl

swapped_stops : validated swapped ≡ []
unfolding validated swapped before answer cells cell gt an capacity certify run move at lit_table and_at gate_at feed_rows fed_at feed_pins feed_tables feed_arrivals gate_row gate_table block_vars leaf_table phased conj push push_var push_net push_fact push_equal with_gate made_of same_row row pin_nets out_row out_rows start started with_input no_made and_then only any var_of negated literal tabulate bit one flip value row_of latest cell_at
swapped_stops = refl

complemented_stops : validated complemented ≡ []
unfolding validated complemented before answer cells cell gt an capacity certify run move at lit_table and_at gate_at feed_rows fed_at feed_pins feed_tables feed_arrivals gate_row gate_table block_vars leaf_table phased conj push push_var push_net push_fact push_equal with_gate made_of same_row row pin_nets out_row out_rows start started with_input no_made and_then only any var_of negated literal tabulate bit one flip value row_of latest cell_at
complemented_stops = refl

twice-stops : validated twice ≡ []
unfolding validated twice before answer cells cell gt an capacity certify run move at lit_table and_at gate_at feed_rows fed_at feed_pins feed_tables feed_arrivals gate_row gate_table block_vars leaf_table phased conj push push_var push_net push_fact push_equal with_gate made_of same_row row pin_nets out_row out_rows start started with_input no_made and_then only any var_of negated literal tabulate bit one flip value row_of latest cell_at
twice-stops = refl
