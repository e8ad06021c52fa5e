-- `genlib_celltext::put_hex` meets its contract.
use Rattle.base.specs.{◌≡◌, subst, List, [], ◌∷◌, ℕ}
use Rattle.model.specs.{hex_text}
use Rattle.base_text.specs.{Wrote}
use Rattle.genlib_celltext.proofs.put_hex.Goals as goal

pub returns : goal.returns
unfolding hex_text
returns c =
    let p = c.put_bytes in
    let word : c.hex_byte-a.result ∷ c.hex_byte-b.result ∷ c.hex_byte-c.result ∷ c.hex_byte-d.result ∷ [] ≡ hex_text c.args.n =
    cc (c.hex_byte-a.ensures, c.hex_byte-b.ensures, c.hex_byte-c.ensures, c.hex_byte-d.ensures) in
    subst (λ (bs : List ℕ). Wrote c.args.out.now p.new.out c.args.at p.result (32 ∷ bs)) word p.ensures
