-- `net_writer::put_pins` meets its contract: pin by pin.
use Rattle.base.specs.{List, ◌≡◌, ℕ, ◌+◌, ◌≤◌, ap, arith, rules, length, length-append, take}
use Rattle.net_writer.specs.{net_words, pin_part}
use Rattle.net_writer.proofs.NetlistLength.{pin-parts}
use Rattle.net_writer.proofs.FollowingText.{then, reads}
use Rattle.net_writer.proofs.put_pins.Goals as goal

-- the words of all four pins have room
module _ (nets : List ℕ) (count at size : ℕ) (four : length nets ≡ 4) (few : count ≤ 4) (fits : at + length (net_words 65 (take count nets)) ≤ size) where
  part : ℕ → ℕ
  part j = length (pin_part nets count j)

  capacity : at + (part 0 + (part 1 + (part 2 + part 3))) ≤ size
  unfolding part
  capacity = omega (arith, fits, simp length-append at (ap length (pin-parts nets count four few)))

pub put_pin_of-a-requires : goal.put_pin_of-a-requires
unfolding part
put_pin_of-a-requires c =
    let a = c.args in
    let four : length a.nets ≡ 4 = search rules in
    (omega arith, c.requires.0, omega (arith, capacity a.nets a.count a.at (length a.out.now) four c.requires.0 c.requires.1))

pub put_pin_of-b-requires : goal.put_pin_of-b-requires
unfolding part
put_pin_of-b-requires c =
    let a = c.args in
    let four : length a.nets ≡ 4 = search rules in
    (omega arith, c.requires.0, omega (arith, capacity a.nets a.count a.at (length a.out.now) four c.requires.0 c.requires.1))

pub put_pin_of-c-requires : goal.put_pin_of-c-requires
unfolding part
put_pin_of-c-requires c =
    let a = c.args in
    let four : length a.nets ≡ 4 = search rules in
    (omega arith, c.requires.0, omega (arith, capacity a.nets a.count a.at (length a.out.now) four c.requires.0 c.requires.1))

pub put_pin_of-requires : goal.put_pin_of-requires
unfolding part
put_pin_of-requires c =
    let a = c.args in
    let four : length a.nets ≡ 4 = search rules in
    (omega arith, c.requires.0, omega (arith, capacity a.nets a.count a.at (length a.out.now) four c.requires.0 c.requires.1))

pub returns : goal.returns
unfolding part
returns c =
    let a = c.args in
    let four : length a.nets ≡ 4 = search rules in
    let h : c.put_pin_of.result ≤ length c.put_pin_of.new.out = omega (arith, capacity a.nets a.count a.at (length a.out.now) four c.requires.0 c.requires.1) in
    reads (pin-parts a.nets a.count four c.requires.0)
    (then h c.put_pin_of-a.ensures (then h c.put_pin_of-b.ensures (then h c.put_pin_of-c.ensures c.put_pin_of.ensures)))
