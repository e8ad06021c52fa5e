-- `graph_arrivals::store_arrival` meets its contract: the variable is the one in the input's slot.
use Rattle.base.specs.{ap, ◌∙◌, ◌∷◌, [], ℕ}
use Rattle.base_words.specs.{put_at, input_arrival_addr}
use Rattle.graph_arrivals.specs.{put_input_arrival}
use Rattle.graph_arrivals.proofs.store_arrival.Goals as goal

pub returns : goal.returns
unfolding put_input_arrival
returns c =
    let a = c.args in
    c.set_input_arrival.ensures
    ∙ ap (λ (v : ℕ). put_at a.work.now (input_arrival_addr a.m v) (a.time ∷ [])) c.slot-v.ensures
