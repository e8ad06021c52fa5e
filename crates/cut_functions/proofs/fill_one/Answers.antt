-- `cut_functions::fill_one` meets its contract: the cut is loaded, its leaves noted, and the function found and stored.
use Rattle.base.specs.{arith}
use Rattle.base_words.specs.{leaves_of}
use Rattle.cut_functions.proofs.LeafNotes.{cut-narrow, cut-leaves, cut_small, begun}
use Rattle.cut_functions.proofs.FunctionFills.{one-filled}
use Rattle.cut_functions.proofs.fill_one.Goals as goal

pub load_cut-c-requires : goal.load_cut-c-requires
load_cut-c-requires c =
    (c.requires.0.ordered.capacity, c.requires.0.inside, omega (arith, (c.requires.0.sound c.args.v c.requires.0.inside).few, c.requires.3))

pub note_leaves-requires : goal.note_leaves-requires
note_leaves-requires c =
    let a = c.args in
    let sound = c.requires.0.sound a.v c.requires.0.inside in (
      cut-narrow a.work.now a.m a.v a.k sound c.requires.3 c.load_cut-c.result c.load_cut-c.ensures,
      c.requires.2,
      cut_small a.work.now a.m a.v a.k sound c.requires.3 c.load_cut-c.result c.load_cut-c.ensures,
    )

pub cut_word-x-requires : goal.cut_word-x-requires
cut_word-x-requires c =
    let a = c.args in
    let sound = c.requires.0.sound a.v c.requires.0.inside in
    let loaded = c.load_cut-c.ensures in
    let narrow = cut-narrow a.work.now a.m a.v a.k sound c.requires.3 c.load_cut-c.result loaded in
    let fresh = begun a.work.now a.m a.v a.k sound c.requires.3 c.load_cut-c.result loaded a.base a.notes.now
    c.requires.1 c.note_leaves.new.notes c.note_leaves.ensures in
    (c.requires.0, fresh.0, fresh.1, c.requires.2, narrow, c.requires.4, c.requires.5, c.requires.6)

pub set_function-requires : goal.set_function-requires
set_function-requires c =
    (c.requires.0.ordered.capacity, c.requires.0.inside, omega (arith, (c.requires.0.sound c.args.v c.requires.0.inside).few, c.requires.3))

pub returns : goal.returns
returns c =
    let a = c.args in
    let sound = c.requires.0.sound a.v c.requires.0.inside in record {
      work_after = one-filled a.work.now a.m a.v a.k c.cut_word-x.result (leaves_of c.load_cut-c.result) _
          (cut-leaves a.work.now a.m a.v a.k sound c.requires.3 c.load_cut-c.result c.load_cut-c.ensures)
          c.cut_word-x.ensures.0 c.set_function.ensures;
      early = c.cut_word-x.ensures.1;
    }
