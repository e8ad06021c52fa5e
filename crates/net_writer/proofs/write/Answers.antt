-- `net_writer::write` meets its contract: what the words hold is what `model` defines.
use Rattle.base.specs.{◌≡◌, sym, ap, subst, ◌∙◌, List, ◌++◌, ℕ, ◌+◌, arith, length, drop, replicate}
use Rattle.model.specs.{cells_of}
use Rattle.base_text.proofs.{put_front}
use Rattle.cells_pairs.specs.{cell_records_of}
use Rattle.net_writer.specs.{GatesWritable, text_in}
use Rattle.net_writer.proofs.NetlistLength.{text-length}
use Rattle.net_writer.proofs.WrittenGates.{records_is, gates_writable, named, text-represented}
use Rattle.net_writer.proofs.write.Goals as goal

pub write_words-requires : goal.write_words-requires
write_words-requires c =
    let a = c.args in
    let p = c.requires in
    let made = c.put_cell_records in
    let rest : List ℕ = drop (length (cell_records_of (cells_of a.lib) a.ids.now)) (replicate 833 0) in
    let is = records_is a.lib a.ids.now (replicate 833 0) made.new.records made.result made.ensures in
    let represented = text-represented a.work.now a.lib a.ids.now a.h p.0 p.1 rest a.f in
    let long = ap length (ap (λ (b : List ℕ). text_in a.work.now b a.h a.f) is ∙ represented) in (
      subst (λ (b : List ℕ). GatesWritable a.work.now b a.h.size) (sym is) (gates_writable a.work.now a.lib a.ids.now a.h p.0 p.1 rest),
      named a.work.now a.lib a.ids.now a.h p.0 p.1 rest,
      omega (arith, text-length a.work.now made.new.records a.h a.f),
    )

pub returns : goal.returns
returns c =
    let made = c.put_cell_records in
    let a = c.args in
    let rest : List ℕ = drop (length (cell_records_of (cells_of a.lib) a.ids.now)) (replicate 833 0) in
    let is = records_is a.lib a.ids.now (replicate 833 0) made.new.records made.result made.ensures in
    let r = c.write_words in
    let t = text_in a.work.now made.new.records a.h a.f in
    λ g k.
    let e = ap (λ (b : List ℕ). text_in a.work.now b a.h a.f) is ∙ text-represented a.work.now a.lib a.ids.now a.h g k rest a.f in
    let z : 0 + length t ≡ length t = omega arith in
    (r.ensures.ends ∙ z ∙ ap length e, r.ensures.leaves ∙ put_front a.out.now t ∙ ap (λ (bs : List ℕ). bs ++ drop (length bs) a.out.now) e)
