-- Tables of 16 rows in wider words: what stands above the rows does not count.
use Rattle.base.specs.{ℕ, zero, suc, ◌-◌, ◌/◌, ◌%◌, ◌^◌, ◌≤◌, ◌<◌, arith, ◌≡◌, refl, sym, ◌∙◌, ap, Bool, true, false, not, ◌&&◌, List, [], ◌∷◌, map, bit_and, eqb, take}
use Rattle.model.specs.{bit, flip, value, row_of, tabulate}
use Rattle.base_truth.proofs.{one-small, table-small, tables_same, value-and, value_complement, value_shift, value-tabulate}
use Rattle.certificate_model.specs.declared.Row.{Row}
use Rattle.certificate_model.specs.{conj, gate_table, phased, pin_nets}

low_digit : (r t : ℕ) → r < 16 → t % 65536 / 2 ^ r % 2 ≡ t / 2 ^ r % 2
low_digit zero t h = omega arith
low_digit (suc zero) t h = omega arith
low_digit (suc (suc zero)) t h = omega arith
low_digit (suc (suc (suc zero))) t h = omega arith
low_digit (suc (suc (suc (suc zero)))) t h = omega arith
low_digit (suc (suc (suc (suc (suc zero))))) t h = omega arith
low_digit (suc (suc (suc (suc (suc (suc zero)))))) t h = omega arith
low_digit (suc (suc (suc (suc (suc (suc (suc zero))))))) t h = omega arith
low_digit (suc (suc (suc (suc (suc (suc (suc (suc zero)))))))) t h = omega arith
low_digit (suc (suc (suc (suc (suc (suc (suc (suc (suc zero))))))))) t h = omega arith
low_digit (suc (suc (suc (suc (suc (suc (suc (suc (suc (suc zero)))))))))) t h = omega arith
low_digit (suc (suc (suc (suc (suc (suc (suc (suc (suc (suc (suc zero))))))))))) t h = omega arith
low_digit (suc (suc (suc (suc (suc (suc (suc (suc (suc (suc (suc (suc zero)))))))))))) t h = omega arith
low_digit (suc (suc (suc (suc (suc (suc (suc (suc (suc (suc (suc (suc (suc zero))))))))))))) t h = omega arith
low_digit (suc (suc (suc (suc (suc (suc (suc (suc (suc (suc (suc (suc (suc (suc zero)))))))))))))) t h = omega arith
low_digit (suc (suc (suc (suc (suc (suc (suc (suc (suc (suc (suc (suc (suc (suc (suc zero))))))))))))))) t h = omega arith
low_digit (suc (suc (suc (suc (suc (suc (suc (suc (suc (suc (suc (suc (suc (suc (suc (suc r)))))))))))))))) t h = absurd (omega arith)

low-row : (t r : ℕ) → r < 16 → value (t % 65536) r ≡ value t r
low-row t r h = value_shift r (t % 65536) ∙ ap (λ (n : ℕ). eqb n 1) (low_digit r t h) ∙ sym (value_shift r t)

pub joined : (s t : ℕ) → bit_and s t % 65536 ≡ conj s t
unfolding conj value
joined s t = tables_same (bit_and s t % 65536) (conj s t) (omega arith) (table-small (λ r. bit s r && bit t r))
    (λ r h. low-row (bit_and s t) r h ∙ value-and s t r ∙ sym (value-tabulate 16 (λ q. bit s q && bit t q) r h))

pub permuted : (t : ℕ) → 65535 - t % 65536 ≡ phased true t
unfolding phased value flip
permuted t = tables_same (65535 - t % 65536) (phased true t) (omega arith) (table-small (λ r. flip true (bit t r)))
    (λ r h. value_complement (t % 65536) r (omega arith) h ∙ ap not (low-row t r h) ∙ sym (value-tabulate 16 (λ q. flip true (bit t q)) r h))

pub kept : (t : ℕ) → t % 65536 ≡ phased false t
unfolding phased value flip
kept t = tables_same (t % 65536) (phased false t) (omega arith) (table-small (λ r. flip false (bit t r)))
    (λ r h. low-row t r h ∙ sym (value-tabulate 16 (λ q. flip false (bit t q)) r h))

-- ---- a row of pins

abbrev pub bits_of : Row → ℕ → List Bool
bits_of ts r = bit ts.a r ∷ bit ts.b r ∷ bit ts.c r ∷ bit ts.d r ∷ []

taken : (n : ℕ) (a b c d : Bool) → n ≤ 4 → row_of (take n (a ∷ b ∷ c ∷ d ∷ [])) ≡ row_of (a ∷ b ∷ c ∷ d ∷ []) % 2 ^ n
unfolding row_of
taken zero a b c d h = omega arith
taken (suc zero) a b c d h = omega (arith, one-small a)
taken (suc (suc zero)) a b c d h = omega (arith, one-small a, one-small b)
taken (suc (suc (suc zero))) a b c d h = omega (arith, one-small a, one-small b, one-small c)
taken (suc (suc (suc (suc zero)))) a b c d h = omega (arith, one-small a, one-small b, one-small c, one-small d)
taken (suc (suc (suc (suc (suc n))))) a b c d h = absurd (omega arith)

map-take : (f : ℕ → Bool) (n : ℕ) (xs : List ℕ) → map f (take n xs) ≡ take n (map f xs)
map-take f zero xs = refl
map-take f (suc n) [] = refl
map-take f (suc n) (x ∷ xs) = ap (λ (bs : List Bool). f x ∷ bs) (map-take f n xs)

-- the row of as many pins as there are
pub pin-row : (pins : ℕ) (ts : Row) (r : ℕ) → pins ≤ 4 → row_of (bits_of ts r) % 2 ^ pins ≡ row_of (map (λ (t : ℕ). bit t r) (pin_nets pins ts))
unfolding pin_nets
pin-row pins ts r h =
    sym (taken pins (bit ts.a r) (bit ts.b r) (bit ts.c r) (bit ts.d r) h)
    ∙ ap row_of (sym (map-take (λ (t : ℕ). bit t r) pins (ts.a ∷ ts.b ∷ ts.c ∷ ts.d ∷ [])))

-- a cell's value in a row
pub cell_row : ℕ → ℕ → Row → ℕ → Bool
cell_row pins table ts r = value table (row_of (map (λ (t : ℕ). bit t r) (pin_nets pins ts)))

pub cell_row_lem : (pins table : ℕ) (ts : Row) (r : ℕ) → pins ≤ 4 → value table (row_of (bits_of ts r) % 2 ^ pins) ≡ cell_row pins table ts r
unfolding cell_row
cell_row_lem pins table ts r h = ap (value table) (pin-row pins ts r h)

pub cell-table : (pins table : ℕ) (ts : Row) → tabulate (cell_row pins table ts) 16 ≡ gate_table table (pin_nets pins ts)
unfolding cell_row gate_table
cell-table pins table ts = refl

pub cell-small : (pins table : ℕ) (ts : Row) → tabulate (cell_row pins table ts) 16 < 65536
cell-small pins table ts = table-small (cell_row pins table ts)
