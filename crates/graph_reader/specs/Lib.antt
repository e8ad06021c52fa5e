-- `GraphLines`: what each reader of a line finds at a place of the text. `LinePasses`: what the passes over the expected lines leave in the words.
pub mod GraphLines
pub mod LinePasses
pub use GraphLines.{header_record, on_line, on_tag, on_three}
unfoldable pub use GraphLines.{aag, aig, and_line, form_at, header_ends, is_defined, validated_at, line_read, numbers_form, one_line, operands_defined}
unfoldable pub use GraphLines.{output_defined, tag_at, tag_behind, three_at, uses_defined, words_defined}
unfoldable pub use LinePasses.{ascii_words, check_at, check_verdict, lines_verdict, lines_words, loaded_words, step_at, step_words}
