-- `mapper::map_pairs` meets its contract: the numbers written are those of all pairs, or 30 comes.
use Rattle.base.specs.{arith, ℕ, ◌≡◌, sym, ap, subst, ◌∙◌, true, List, length, take}
use Rattle.model.specs.{cells_of}
use Rattle.cells_pairs.specs.{pair_ids}
use Rattle.cells_pairs.proofs.{by_length, with_all, ids-few}
use Rattle.mapper.specs.{LibraryOk, header_for}
use Rattle.mapper.proofs.CallEnds.{left_as, pairs_stop, cells_go}
use Rattle.mapper.proofs.LibraryBounds.{joinable_of, all-few, joined_ok, blank-joined, formed_are}
use Rattle.mapper.proofs.map_pairs.Goals as goal
use Rattle.mapper.proofs.map_pairs.Goals.{After-form-n}

-- the numbers written first in the array
ids_are : (c : After-form-n) → take c.form-n.result c.form-n.new.ids ≡ pair_ids (cells_of c.args.lib)
ids_are c = ap (take c.form-n.result) c.form-n.ensures.leaves ∙ formed_are _ (pair_ids (cells_of c.args.lib)) c.form-n.result c.form-n.ensures.ends

pub form-n-requires : goal.form-n-requires
form-n-requires c = (joinable_of c.args.lib c.requires, ids-few c.args.lib (joinable_of c.args.lib c.requires))

pub overflow_add-lib : goal.overflow_add-lib
overflow_add-lib c = omega (arith, c.form-n.ensures.ends, ids-few c.args.lib (joinable_of c.args.lib c.requires), c.requires.in_bounds.few)

pub returns-then-lib-n-gt256 : goal.returns-then-lib-n-gt256
returns-then-lib-n-gt256 c =
    let a = c.args in
    let all = ap length (with_all a.lib (joinable_of a.lib c.requires)) in
    let many = by_length (cells_of a.lib) (pair_ids (cells_of a.lib)) in
    pairs_stop a.ranged a.lib a.graph.now a.arrivals.now a.work.now a.text.now
    (omega (arith, all, many, c.form-n.ensures.ends, c.requires.in_bounds.whole, c.if-lib-n-gt256.true))

pub slice_bounds-ids-end : goal.slice_bounds-ids-end
slice_bounds-ids-end c = omega (arith, ap length (ids_are (goal.at.slice_bounds-ids-end c).After-form-n), c.form-n.ensures.ends)

pub map_header-requires : goal.map_header-requires
map_header-requires c =
    let a = c.args in
    let are = ids_are (goal.at.map_header-requires c).After-form-n in
    let ok = subst (LibraryOk a.lib) (sym are) (joined_ok a.lib c.requires (omega (arith, c.form-n.ensures.ends, c.if-lib-n-gt256.false))) in
    (ok, blank-joined a.lib _ ok (c.empty_match_table-matches.ensures 256 (omega arith)))

pub returns : goal.returns
returns c =
    let a = c.args in
    let are = ids_are (goal.at.returns c).After-form-n in
    let ok = joined_ok a.lib c.requires (omega (arith, c.form-n.ensures.ends, c.if-lib-n-gt256.false)) in
    left_as (cells_go a.ranged a.lib a.graph.now a.arrivals.now a.work.now a.text.now true (pair_ids (cells_of a.lib))
    (with_all a.lib (joinable_of a.lib c.requires))
    (all-few a.lib (pair_ids (cells_of a.lib)) ok)
    ∙ ap (λ (ks : List ℕ). header_for a.ranged a.lib ks a.graph.now a.arrivals.now (length a.work.now) (length a.text.now)) (sym are))
    c.map_header.ensures
