pub mod CaseKinds
pub use CaseKinds.{Case, computes, given, gives, gives_timed, has_and, lacks, lists, lists_bytes, means, prints, prints_bytes, prints_timed, refuses}
pub use CaseKinds.{refuses_bytes, refuses_timed, says, says_nothing, suffices, takes, unread, wires}
unfoldable pub use CaseKinds.{arrives, graph_b, graph_c, graph_f, head_b, holds, is_given, is_print, is_refusal, is_returned, library, listing, longer}
unfoldable pub use CaseKinds.{map_text, ranged, same_cuts, with}
