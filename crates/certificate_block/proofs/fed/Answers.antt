-- `certificate_block::fed` meets its contract: by whether the cell has the pin.
use Rattle.base.specs.{◌∙◌, take, lt-ltb, le-ltb}
use Rattle.certificate_facts.specs.{rows_in}
use Rattle.certificate_block.proofs.SlotLookup.{pin-fed, pin-none}
use Rattle.certificate_block.proofs.fed.Goals as goal

pub returns-then-j-pins : goal.returns-then-j-pins
returns-then-j-pins c =
    c.find.ensures ∙ pin-fed (take c.args.count (rows_in c.args.nets.now)) c.args.pins c.args.j c.args.i (lt-ltb c.args.j c.args.pins c.if-j-pins.true)

pub returns : goal.returns
returns c = pin-none (take c.args.count (rows_in c.args.nets.now)) c.args.pins c.args.j c.args.i (le-ltb c.args.j c.args.pins c.if-j-pins.false)
