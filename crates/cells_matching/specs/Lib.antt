-- `VariantLists`: a cell under an order and a mask as one number. `MatchTableLayout`: what a match asks of the cells, the variants chained by table. `BestVariant`: the
-- best match of a cut. `Inverters`: the best inverter.
pub mod VariantLists
pub mod MatchTableLayout
pub mod BestVariant
pub mod Inverters
pub use VariantLists.{Matchable, LibraryInBounds, line_of, mask_of, order_of}
unfoldable pub use VariantLists.{fresh, fresh_ones, fresh_with, has_table, is_fresh, is_variant, match_of, places_at, run_of, table_at, variants}
pub use MatchTableLayout.{Blank, MatchTable, delay_addr, link_addr, pick_addr, match_table_length}
unfoldable pub use MatchTableLayout.{Linked, cell_matched, delay_of, is_listed, list_matched, masked, passed, pick_at, pick_of, pick_pin, prepended, pushed}
unfoldable pub use MatchTableLayout.{timed, word_of}
pub use BestVariant.{ArrivalsBounded, TimesOf, VariantInBounds, last_time, infinite, unmatched, unmatched_under, waits}
unfoldable pub use BestVariant.{Quick, arrival_at, arrival_of, best_from, best_of, best_under, better, largest, phase_as, pin_at, tabled_arrival_at, time_of}
pub use Inverters.{Inverter}
unfoldable pub use Inverters.{inverted, inverter_from, inverter_of, quicker, tried}
