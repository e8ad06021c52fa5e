-- `cover_choice::match_listed` meets its contract: the library's first cells, lent to the matcher as a list, are the listed ones.
use Rattle.base.specs.{sym, arith, ◌≡◌, length, take}
use Rattle.model.specs.{cells_of}
use Rattle.cover_choice.proofs.match_listed.Goals as goal

pub slice_bounds-build-end : goal.slice_bounds-build-end
unfolding cells_of
slice_bounds-build-end c = sym c.requires.0.whole

pub build-requires : goal.build-requires
unfolding cells_of
build-requires c =
    let n : length (take c.args.lib.n c.args.lib.cells) ≡ c.args.lib.n = c.requires.0.whole in
    (omega (arith, n, c.requires.0.few), c.requires.0.pins, rw n c.requires.1)

pub returns : goal.returns
unfolding cells_of
returns c = c.build.ensures
