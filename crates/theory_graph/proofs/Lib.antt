pub mod ListSplits
pub mod ListLaws
pub mod Distinct
pub mod Sets
pub mod Literals
pub mod OrderRuns
pub mod GraphNodes
pub mod GraphWalk
pub mod CutFacts
pub mod TopologicalOrder
pub mod RunValues
pub mod GraphValue
pub mod InputTimes
pub use ListSplits.{by_bool, by_list, by_member, by_nat, by_option, by_read}
pub use ListLaws.{all_in, all_of, any-each, any_none, below_in, below_out, by_eqb, each_in, each_out, elem-T, elem_in, elem_out, from-high}
pub use ListLaws.{from_in, get_or_in, is_false, is_true, keep_append, keep_in, keep_out, lowest_in_lem, map_in, map-map, map_out, map_same, same-eq}
pub use ListLaws.{same_refl}
pub use Distinct.{append_distinct, below-distinct, from-distinct, from_low, front-distinct, keep-distinct, length_from, length-keep}
pub use Distinct.{length-map, map-distinct}
pub use Sets.{insert-only, union_left, union-only, union_right}
pub use Literals.{bit_high, bit-low, bit-row, lit_neg, lit_var, lit_whole, one_le, opposite-back, opposite_neg, opposite-var}
pub use OrderRuns.{along, no_twice-behind, run_entry, run-split, run_stays, twice-apart}
pub use GraphNodes.{input_out, node-input}
pub use GraphWalk.{Carry, Valuation}
pub use CutFacts.{compare-found, cut-value, cut_step, cuts_entry, cuts-none, cuts_known, leaves-before, leaves-closed, length-order}
pub use TopologicalOrder.{defined-ordered, distinct-once, next_new, order-once, order_small, ordered-and}
pub use RunValues.{Closed, Found, and-once, ands-once, node-and, operands_before, order-closed, value_of_valuation}
pub use GraphValue.{and-node, values_exist, values-only}
pub use InputTimes.{listed_for, place-once, timed-accepted, timed-none, timed-unordered, timed-values}
