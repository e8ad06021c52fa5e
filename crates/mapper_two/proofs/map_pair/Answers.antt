-- `mapper_two::map_pair` meets its contract: 10; or the match table is that of the cells to map with, each channel finds words enough, and the words are
-- cleared
-- whatever the passes left.
use Rattle.base.specs.{ℕ, ◌+◌, arith, ◌≡◌, refl, ◌∙◌, ap, sym, subst, length, replicate}
use Rattle.model.specs.{cells_of, channel_of}
use Rattle.theory_text.proofs.{header-fits}
use Rattle.cells_pairs.proofs.{by_length}
use Rattle.cells_matching.specs.{MatchTable, Blank}
use Rattle.cells_matching.proofs.{matches_by}
use Rattle.mapper.specs.{all_of}
use Rattle.mapper_two.proofs.ChannelMemory.{pair-early, pair-done, need-small, sum-short, sum-enough}
use Rattle.mapper_two.proofs.map_pair.Goals as goal
use Rattle.mapper_two.proofs.map_pair.Goals.{After-match_library}

pub need_words-need1-requires : goal.need_words-need1-requires
need_words-need1-requires c =
    let f = header-fits c.args.c1.graph.now c.args.h1 c.requires.1 in
    omega (arith, f.size, f.outputs)

pub need_words-need2-requires : goal.need_words-need2-requires
need_words-need2-requires c =
    let f = header-fits c.args.c2.graph.now c.args.h2 c.requires.2 in
    omega (arith, f.size, f.outputs)

pub overflow_add-need1 : goal.overflow_add-need1
overflow_add-need1 c =
    let a = c.args in
    let f = header-fits a.c1.graph.now a.h1 c.requires.1 in
    let g = header-fits a.c2.graph.now a.h2 c.requires.2 in
    omega (
      arith,
      c.need_words-need1.ensures,
      c.need_words-need2.ensures,
      need-small a.h1.size a.h1.outputs f.size f.outputs,
      need-small a.h2.size a.h2.outputs g.size g.outputs,
    )

pub returns-then-work-need1 : goal.returns-then-work-need1
returns-then-work-need1 c =
    pair-early _ _ _ _ _ _ 10 0 (sum-short _ _ _ (omega (arith, c.need_words-need1.ensures, c.need_words-need2.ensures))) _ _ _ _ refl

pub match_library-requires : goal.match_library-requires
match_library-requires c =
    let a = c.args in
    (c.requires.0.coded, omega (arith, c.requires.3.long, by_length (cells_of a.lib) a.ids.now, c.requires.0.read.in_bounds.whole))

-- the match table once it is made
sheeted : (c : After-match_library) → let a = c.args in MatchTable (all_of a.lib a.ids.now) c.match_library.new.matches
sheeted c =
    let a = c.args in
    let blank : Blank (a.lib.n + length a.ids.now) a.matches.now = record {
      long = omega (arith, c.requires.3.long, by_length (cells_of a.lib) a.ids.now, c.requires.0.read.in_bounds.whole);
      empty = c.requires.3.empty;
    } in
    subst (MatchTable (all_of a.lib a.ids.now)) (sym c.match_library.ensures)
    (matches_by a.lib a.ids.now a.matches.now c.requires.0.read.in_bounds c.requires.0.coded blank)

pub load_graph-first-requires : goal.load_graph-first-requires
load_graph-first-requires c = (
  c.requires.0,
  c.requires.1,
  omega (arith, c.need_words-need1.ensures, c.need_words-need2.ensures, c.if-work-need1.false),
  sheeted (goal.at.load_graph-first-requires c).After-match_library,
)

pub load_graph-second-requires : goal.load_graph-second-requires
load_graph-second-requires c =
    let long : length c.load_graph-first.new.work ≡ length c.args.work.now = omega (arith, c.load_graph-first.auto.work) in (
      c.requires.0,
      c.requires.2,
      omega (arith, long, c.need_words-need1.ensures, c.need_words-need2.ensures, c.if-work-need1.false),
      sheeted (goal.at.load_graph-second-requires c).After-match_library,
    )

pub returns : goal.returns
returns c =
    let s = c.args in
    let a = channel_of s.c1.graph.now s.c1.arrivals.now s.t1.now in
    let b = channel_of s.c2.graph.now s.c2.arrivals.now s.t2.now in
    let long : length c.load_graph-second.new.work ≡ length s.work.now = omega (arith, c.load_graph-second.auto.work, c.load_graph-first.auto.work) in
    pair-done s.ranged s.lib s.ids.now a b _ s.h1 s.h2
    (sum-enough _ _ _ (omega (arith, c.need_words-need1.ensures, c.need_words-need2.ensures, c.if-work-need1.false)))
    s.work.now s.t1.now s.t2.now _ _ _ _ _ c.load_graph-first.ensures c.load_graph-second.ensures (c.clear_all.ensures ∙ ap (λ (k : ℕ). replicate k 0) long)
