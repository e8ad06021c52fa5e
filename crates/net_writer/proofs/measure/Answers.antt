-- `net_writer::measure` meets its contract: what the words hold is what `model` defines.
use Rattle.base.specs.{List, sym, ap, subst, ◌∙◌, ℕ, length, drop, replicate}
use Rattle.model.specs.{cells_of}
use Rattle.cells_pairs.specs.{cell_records_of}
use Rattle.net_writer.specs.{GatesWritable, measured_in}
use Rattle.net_writer.proofs.WrittenGates.{records_is, gates_writable, named, measured-represented}
use Rattle.net_writer.proofs.measure.Goals as goal

pub measure_words-requires : goal.measure_words-requires
measure_words-requires c =
    let a = c.args in
    let p = c.requires in
    let made = c.put_cell_records in
    let rest : List ℕ = drop (length (cell_records_of (cells_of a.lib) a.ids.now)) (replicate 833 0) in
    let is = records_is a.lib a.ids.now (replicate 833 0) made.new.records made.result made.ensures in (
      subst (λ (b : List ℕ). GatesWritable a.work.now b a.h.size) (sym is) (gates_writable a.work.now a.lib a.ids.now a.h p.0 p.1 rest),
      named a.work.now a.lib a.ids.now a.h p.0 p.1 rest,
    )

pub returns : goal.returns
returns c =
    let a = c.args in
    let made = c.put_cell_records in
    let rest : List ℕ = drop (length (cell_records_of (cells_of a.lib) a.ids.now)) (replicate 833 0) in
    let is = records_is a.lib a.ids.now (replicate 833 0) made.new.records made.result made.ensures in (
      (λ g k. c.measure_words.ensures.0 ∙ ap (λ (b : List ℕ). measured_in a.work.now b a.h) is ∙ measured-represented a.work.now a.lib a.ids.now a.h g k rest),
      c.measure_words.ensures.1,
    )
