-- `cover_choice::mark_pins` meets its contract. The invariant: what is left of the nets, marked, gives the same words as all.
use Rattle.base.specs.{◌≡◌, refl, sym, ap, subst, ◌∙◌, List, ℕ, suc, ◌+◌, ◌/◌, ◌≤◌, ◌<◌, arith, length, drop, get_or, drop-cons}
use Rattle.base.specs.{drop-length}
use Rattle.model.specs.{bit, var_of, fed_nets}
use Rattle.theory_graph.proofs.{lit_var}
use Rattle.base_words.specs.{HasCapacity, put_needed}
use Rattle.base_truth.specs.{places_of, pin_net}
use Rattle.base_truth.proofs.{places-four, nets-length, nets_get}
use Rattle.cover_choice.specs.{put_all}
use Rattle.cover_choice.proofs.NeededMarks.{mark_size}
use Rattle.cover_choice.proofs.mark_pins.Goals as goal

-- the variable of a net
net-var : (leaves : List ℕ) (order mask j m : ℕ) → get_or leaves (get_or (places_of order) j 0) 0 ≤ m → pin_net (places_of order) mask leaves j / 2 ≤ m
unfolding var_of
net-var leaves order mask j m h = omega (arith, lit_var (bit mask j) (get_or leaves (get_or (places_of order) j 0) 0))

-- one pin more
step : (w : List ℕ) (m : ℕ) (leaves : List ℕ) (order mask pins j : ℕ) → order < 24 → pins ≤ 4 → j < pins
    → put_all w m (drop j (fed_nets pins (places_of order) mask leaves)) ≡ put_all (put_needed w m (pin_net (places_of order) mask leaves j)) m (drop (j + 1) (fed_nets pins (places_of order) mask leaves))
unfolding put_all
step w m leaves order mask pins j o p h =
    let nets : List ℕ = fed_nets pins (places_of order) mask leaves in
    let four : pins ≤ length (places_of order) = omega (arith, places-four order o) in
    let l : length nets ≡ pins = nets-length pins (places_of order) mask leaves four in
    let e : suc j ≡ j + 1 = omega arith in
    ap (put_all w m) (drop-cons nets j 0 (omega arith))
    ∙ ap (λ (x : ℕ). put_all (put_needed w m x) m (drop (suc j) nets)) (nets_get pins (places_of order) mask leaves j four h)
    ∙ ap (λ (i : ℕ). put_all (put_needed w m (pin_net (places_of order) mask leaves j)) m (drop i nets)) e

-- no pin is left
done : (w : List ℕ) (m : ℕ) (leaves : List ℕ) (order mask pins j : ℕ) → order < 24 → pins ≤ 4 → j ≡ pins → put_all w m (drop j (fed_nets pins (places_of order) mask leaves)) ≡ w
unfolding put_all
done w m leaves order mask pins j o p h =
    let nets : List ℕ = fed_nets pins (places_of order) mask leaves in
    let l : j ≡ length nets = h ∙ sym (nets-length pins (places_of order) mask leaves (omega (arith, places-four order o))) in
    ap (put_all w m) (ap (λ (i : ℕ). drop i nets) l ∙ drop-length nets)

pub loop-j-init : goal.loop-j-init
loop-j-init c = (refl, refl)

pub mark_needed-requires : goal.mark_needed-requires
mark_needed-requires c =
    let a = c.args in
    let r : HasCapacity c.loop-j.work a.m = record { small = c.requires.0.small; capacity = omega (arith, c.requires.0.capacity, c.loop-j.invariant.0) } in (
      r,
      subst (λ (x : ℕ). x / 2 ≤ a.m) (sym c.pin_net.ensures.0)
          (net-var a.leaves a.order a.mask c.loop-j.j a.m (c.requires.1.within c.loop-j.j c.loop-j-test.true)),
    )

pub loop-j-preserved : goal.loop-j-preserved
loop-j-preserved c =
    let a = c.args in
    let w : List ℕ = c.loop-j.work in
    let j : ℕ = c.loop-j.j in
    let x : ℕ = pin_net (places_of a.order) a.mask a.leaves j in
    let h : j < a.pins = c.loop-j-test.true in
    let r : HasCapacity w a.m = record { small = c.requires.0.small; capacity = omega (arith, c.requires.0.capacity, c.loop-j.invariant.0) } in
    let v : x / 2 ≤ a.m = net-var a.leaves a.order a.mask j a.m (c.requires.1.within j h) in
    let e : c.mark_needed.new.work ≡ put_needed w a.m x = c.mark_needed.ensures ∙ ap (put_needed w a.m) c.pin_net.ensures.0 in (
      ap length e ∙ mark_size w a.m x r v ∙ c.loop-j.invariant.0,
      ap (λ (y : List ℕ). put_all y a.m (drop (j + 1) (fed_nets a.pins (places_of a.order) a.mask a.leaves))) e
          ∙ sym (step w a.m a.leaves a.order a.mask a.pins j c.requires.1.known c.requires.1.four h)
          ∙ c.loop-j.invariant.1,
    )

pub returns : goal.returns
returns c =
    let a = c.args in
    let e : c.loop-j.j ≡ a.pins = omega arith in
    sym (done c.loop-j.work a.m a.leaves a.order a.mask a.pins c.loop-j.j c.requires.1.known c.requires.1.four e) ∙ c.loop-j.invariant.1
