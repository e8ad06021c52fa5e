-- What the promise of a written cell text asks of its gates is had, of the gates of a genlib text that is read.
use Rattle.base.specs.{ℕ, arith, ◌≡◌, refl, sym, subst, [], ◌∷◌, Memᴰ, Memᴰ-head, Memᴰ-tail, Memᴰ-not-nil}
use Rattle.base.specs.{Memᴰ-eq_of_singleton, head-eq_of_cons-eq, T, lit≤}
use Rattle.model.specs.{text, is_name, holds, read_genlib, Listable}
use Rattle.model.specs.Genlib.{Gate}

inverter : Gate
unfolding text
inverter = record { name = text "inv"; pins = 1; table = 1; area = 1000; delays = 12 ∷ 0 ∷ 0 ∷ 0 ∷ [] }

nand : Gate
unfolding text
nand = record { name = text "nand2"; pins = 2; table = 7; area = 2000; delays = 20000 ∷ 19500 ∷ 0 ∷ 0 ∷ [] }

are_read : read_genlib
    (text "GATE inv 1 O=!A;\nPIN A UNKNOWN 1 999 0.012 0 0.011 0\nGATE nand2 2 O=!(A*B);\nPIN A INV 1 999 20 0 20 0\nPIN B INV 1 999 18 0 19.5 0\n")
    ≡ holds (inverter ∷ nand ∷ [])
unfolding text read_genlib inverter nand
are_read = refl

listable : Listable (inverter ∷ nand ∷ [])
unfolding text is_name inverter nand
listable = record { few = lit≤ tt; names = names; once = (apart, ((λ m. Memᴰ-not-nil m), tt)) }
  where
    names : (g : Gate) → Memᴰ g (inverter ∷ nand ∷ []) → T (is_name g.name)
    names g (Memᴰ-head e) = subst (λ (x : Gate). T (is_name x.name)) (sym e) tt
    names g (Memᴰ-tail (Memᴰ-head e)) = subst (λ (x : Gate). T (is_name x.name)) (sym e) tt
    names g (Memᴰ-tail (Memᴰ-tail m)) = absurd (Memᴰ-not-nil m)

    apart : Memᴰ (text "inv") (text "nand2" ∷ []) → ⊥
    apart m = let z : ◌≡◌ {A = ℕ} 105 110 = head-eq_of_cons-eq (Memᴰ-eq_of_singleton m) in omega arith
