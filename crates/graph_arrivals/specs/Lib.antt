-- `ArrivalReading`: what each reader answers. `ArrivalStores`: the lines up to the first refusal, and the words with their arrivals.
pub mod ArrivalReading
pub mod ArrivalStores
pub use ArrivalReading.{Entry}
unfoldable pub use ArrivalReading.{entry_at, head_line, validated_at}
pub use ArrivalStores.{Listable, on_numbers}
unfoldable pub use ArrivalStores.{listed, listed_lines, passed, put_all, put_input_arrival}
