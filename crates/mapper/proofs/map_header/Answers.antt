-- `mapper::map_header` meets its contract: 7 to 10 and 19 leave both memories as they were; behind them the match table is that of the cells to map with, and the words
-- are cleared whatever the passes left.
use Rattle.base.specs.{arith, ℕ, ◌+◌, ◌≡◌, ◌∙◌, ap, sym, subst, length, replicate}
use Rattle.model.specs.{cells_of}
use Rattle.theory_text.proofs.{header-fits}
use Rattle.graph_reader.proofs.{header_read_lem}
use Rattle.cells_pairs.proofs.{by_length}
use Rattle.cells_matching.specs.{MatchTable, Blank}
use Rattle.cells_matching.proofs.{matches_by}
use Rattle.model.proofs.{handed_on}
use Rattle.mapper.specs.{all_of}
use Rattle.mapper.proofs.CallEnds.{header-stops, header-short, header-done}
use Rattle.mapper.proofs.map_header.Goals as goal

pub need_words-requires : goal.need_words-requires
need_words-requires c =
    let f = header-fits c.args.graph.now c.in_ok-h.h (header_read_lem _ _ (sym c.header.ensures.answer ∙ c.in_ok-h.was)) in
    omega (arith, f.size, f.outputs)

pub returns-then-work-need_words : goal.returns-then-work-need_words
returns-then-work-need_words c =
    header-short _ _ _ _ _ _ _ _ (header_read_lem _ _ (sym c.header.ensures.answer ∙ c.in_ok-h.was)) (omega (arith, c.need_words.ensures))

pub match_library-requires : goal.match_library-requires
match_library-requires c =
    let a = c.args in
    (c.requires.0.coded, omega (arith, c.requires.1.long, by_length (cells_of a.lib) a.ids.now, c.requires.0.read.in_bounds.whole))

pub load_graph-a-requires : goal.load_graph-a-requires
load_graph-a-requires c =
    let a = c.args in
    let blank : Blank (a.lib.n + length a.ids.now) a.matches.now = record { long = omega (arith, c.requires.1.long, by_length (cells_of a.lib) a.ids.now, c.requires.0.read.in_bounds.whole); empty = c.requires.1.empty } in
    let matches = subst (MatchTable (all_of a.lib a.ids.now)) (sym c.match_library.ensures) (matches_by a.lib a.ids.now a.matches.now c.requires.0.read.in_bounds c.requires.0.coded blank) in
    (c.requires.0, header_read_lem _ _ (sym c.header.ensures.answer ∙ c.in_ok-h.was), omega (arith, c.need_words.ensures, c.if-work-need_words.false), matches)

pub returns : goal.returns
returns c =
    let a = c.args in
    let long : length c.load_graph-a.new.work ≡ length a.work.now = omega (arith, c.load_graph-a.auto.work) in
    header-done _ _ _ _ _ _ _ _ (header_read_lem _ _ (sym c.header.ensures.answer ∙ c.in_ok-h.was)) (omega (arith, c.need_words.ensures, c.if-work-need_words.false)) _ _ _
    c.load_graph-a.ensures (c.clear_all.ensures ∙ ap (λ (k : ℕ). replicate k 0) long)

pub returns-in_err-h : goal.returns-in_err-h
returns-in_err-h c = rw (handed_on _ _ c.from_residual.ensures.1) (header-stops _ _ _ _ _ _ _ _ c.header.ensures.answer _ _ c.in_err-h.was)
