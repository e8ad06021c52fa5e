-- The words of the netlist are its nets' values:
--     drivers-ready       what the pass over the drivers asks for
--     net_word             a driver's values in block b
--     drivers-step        each driver has its word by those of drivers that feed it
use Rattle.base.specs.{ℕ, zero, suc, ◌+◌, ◌-◌, ◌*◌, ◌≤◌, ◌<◌, arith, ◌≡◌, refl, sym, ap, ap₂, ◌∙◌, Bool, true, false, cond, List, [], ◌∷◌}
use Rattle.base.specs.{◌++◌, map, Memᴰ, Memᴰ-cast, leb, length, get_or, length-append, length-take, get_or-append, get_or-append-add}
use Rattle.base.specs.{get_or-take, leb-false, le-leb, lt-leb}
use Rattle.model.specs.{bit, one, each, value, row_of, Driver, input_nets, assignment_of, DriverValues}
use Rattle.model.specs.Graph.{Graph}
use Rattle.model.specs.declared.Header.{Header}
use Rattle.theory_graph.proofs.{get_or_in, map_in, length-map}
use Rattle.theory_check.proofs.{Sound, run-values, inputs-once, validated-sound}
use Rattle.check_reader.specs.{gate_words, driver_words}
use Rattle.check_nets.specs.{no_driver, net_of}
use Rattle.check_outputs.specs.{word_of, input_word, gate_word, table_of, pins_of, ref_word, pin_word, driver_word, Readable, DriversStep}
use Rattle.check_outputs.specs.{net_at}
use Rattle.check_outputs.proofs.AssignmentBits.{bit_word, words_same, no_bits}
use Rattle.check_outputs.specs.Comparable.{Comparable}
use Rattle.check_outputs.proofs.VariableWords.{assignment_at}

-- ---- eight numbers a driver

words_long : (d : Driver) → length (driver_words d) ≡ 8
unfolding driver_words gate_words
words_long d = refl

each_long : (ds : List Driver) → length (each driver_words ds) ≡ 8 * length ds
unfolding each
each_long [] = refl
each_long (d ∷ ds) = length-append (driver_words d) (each driver_words ds) ∙ omega (arith, words_long d, each_long ds)

each_at : (ds : List Driver) (i j : ℕ) → i < length ds → j < 8 → get_or (each driver_words ds) (8 * i + j) 0 ≡ get_or (driver_words (get_or ds i no_driver)) j 0
unfolding each
each_at [] i j h l = absurd (omega arith)
each_at (d ∷ ds) zero j h l =
    ap (λ (k : ℕ). get_or (driver_words d ++ each driver_words ds) k 0) (let e : 8 * 0 + j ≡ j = omega arith in e)
    ∙ get_or-append (driver_words d) (each driver_words ds) 0 j (omega (arith, words_long d))
each_at (d ∷ ds) (suc i) j h l =
    ap (λ (k : ℕ). get_or (driver_words d ++ each driver_words ds) k 0) (let e : 8 * suc i + j ≡ length (driver_words d) + (8 * i + j) = omega (arith, words_long d) in e)
    ∙ get_or-append-add (driver_words d) (each driver_words ds) (8 * i + j) 0 ∙ each_at ds i j (omega arith) l

-- ---- lists

map_at : {A : Type 0} (f : A → Bool) (xs : List A) (d : A) (k : ℕ) → k < length xs → get_or (map f xs) k false ≡ f (get_or xs k d)
map_at f [] d k h = absurd (omega arith)
map_at f (x ∷ xs) d zero h = refl
map_at f (x ∷ xs) d (suc k) h = map_at f xs d k (omega arith)

-- the first n values of a row
bits_of : ℕ → (ℕ → Bool) → List Bool
bits_of zero p = []
bits_of (suc n) p = p 0 ∷ bits_of n (λ j. p (suc j))

-- a row with 0 at the pins that are not there
row-pins : (n : ℕ) (us : List (List ℕ)) (w : List ℕ → Bool) (p : ℕ → Bool) → length us ≤ n → ((j : ℕ) → j < length us → p j ≡ w (get_or us j []))
    → ((j : ℕ) → length us ≤ j → p j ≡ false) → row_of (map w us) ≡ row_of (bits_of n p)
unfolding row_of bits_of one
row-pins zero [] w p h there away = refl
row-pins zero (u ∷ us) w p h there away = absurd (omega arith)
row-pins (suc n) [] w p h there away =
    let later : 0 ≡ row_of (bits_of n (λ j. p (suc j))) = row-pins n [] w (λ j. p (suc j)) (omega arith) (λ j l. absurd (omega arith)) (λ j l. away (suc j) (omega arith)) in
    let now : one (p 0) ≡ 0 = ap one (away 0 (omega arith)) in
    omega arith
row-pins (suc n) (u ∷ us) w p h there away =
    ap₂ (λ (x : Bool) (r : ℕ). one x + 2 * r) (sym (there 0 (omega arith)))
    (row-pins n us w (λ j. p (suc j)) (omega arith) (λ j l. there (suc j) (omega arith)) (λ j l. away (suc j) (omega arith)))

zero_bit : (t : ℕ) → t < 64 → bit 0 t ≡ false
zero_bit t l = ap (λ (x : ℕ). bit x t) (sym no_bits) ∙ bit_word (λ r. false) t l

module _ (w : List ℕ) (h : Header) (nets : List ℕ) (n : ℕ) (refs order : List ℕ) (g : Graph) (ds : List Driver) (c : Comparable w h nets n refs order g ds) where
  -- ---- the array

  array_long : 8 * n ≤ length nets
  array_long = omega (arith, length-take (8 * n) nets, ap length c.stored, each_long ds, c.counted)

  number_at : (i j : ℕ) → i < n → j < 8 → get_or nets (8 * i + j) 0 ≡ get_or (driver_words (get_or ds i no_driver)) j 0
  number_at i j l k =
      sym (get_or-take (8 * n) nets (8 * i + j) 0 (omega arith)) ∙ ap (λ (xs : List ℕ). get_or xs (8 * i + j) 0) c.stored ∙ each_at ds i j (omega (arith, c.counted)) k

  table_at : (i : ℕ) → i < n → table_of nets i ≡ (get_or ds i no_driver).table
  unfolding driver_words gate_words
  table_at i l = number_at i 1 l (omega arith)

  pins-at : (i : ℕ) → i < n → pins_of nets i ≡ length (get_or ds i no_driver).uses
  unfolding driver_words gate_words
  pins-at i l = number_at i 2 l (omega arith)

  listed : (i : ℕ) → i < n → i < length ds
  listed i l = omega (arith, c.counted)

  in_list : (i : ℕ) → i < n → Memᴰ (get_or ds i no_driver) ds
  in_list i l = get_or_in ds i no_driver (listed i l)

  pub ordered_in : (p : ℕ) → p < n → get_or order p 0 < n
  ordered_in p l = omega (arith, c.counted, c.in_order.each p (listed p l))

  pub drivers-ready : (p : ℕ) → p < n → Readable nets refs (get_or order p 0)
  drivers-ready p l =
      let i : ℕ = get_or order p 0 in let s : get_or order p 0 < n = ordered_in p l in
      record {
        few = omega (arith, c.bounded);
        capacity = omega (arith, array_long);
        pins = λ j k q. omega (arith, c.bounded, c.counted, c.wired.driver_at (get_or order p 0) j (listed (get_or order p 0) s) (omega (arith, pins-at (get_or order p 0) s)));
      }

  -- ---- the values

  out_driver : (k : ℕ) → k < length g.outputs → n - length g.outputs + k < n
  out_driver k l = omega (arith, c.capacity)

  sound : Sound g ds
  sound =
      validated-sound g ds c.accepted c.validated
      (λ k l. Memᴰ-cast (sym (c.outs k l)) (map_in (λ (d : Driver). d.net) (in_list (n - length g.outputs + k) (out_driver k l))))

  hold_values : (s : ℕ) → DriverValues g ds s (net_at g ds s)
  unfolding net_at
  hold_values s = run-values g ds sound s

  nets-long : length (input_nets g) ≡ length g.inputs
  unfolding input_nets
  nets-long = length-map _ g.inputs

  input-net : (s k : ℕ) → k < length (input_nets g) → net_at g ds s (get_or (input_nets g) k []) ≡ bit s k
  input-net s k l =
      sym (map_at (net_at g ds s) (input_nets g) [] k l)
      ∙ ap (λ (xs : List Bool). get_or xs k false) (hold_values s).at_inputs
      ∙ map_at (assignment_of s 0 g.inputs) g.inputs 0 k (omega (arith, nets-long))
      ∙ assignment_at s 0 g.inputs (inputs-once g c.accepted) k (omega (arith, nets-long)) ∙ ap (bit s) (let z : 0 + k ≡ k = omega arith in z)

  module _ (b : ℕ) where
    pub net_word : ℕ → ℕ
    net_word i = word_of (λ t. net_at g ds (64 * b + t) (get_or ds i no_driver).net)

    pub net-bit : (i t : ℕ) → t < 64 → bit (net_word i) t ≡ net_at g ds (64 * b + t) (get_or ds i no_driver).net
    unfolding net_word
    net-bit i t l = bit_word (λ t. net_at g ds (64 * b + t) (get_or ds i no_driver).net) t l

    -- a number at a pin has the value of the net that it means
    ref_bit : (r t : ℕ) → t < 64 → (r < 12 → r < length (input_nets g)) → bit (ref_word b net_word r) t ≡ net_at g ds (64 * b + t) (net_of (input_nets g) ds r)
    unfolding ref_word net_of
    ref_bit r t l small = go (leb 12 r) refl
      where
        go : (x : Bool) → leb 12 r ≡ x → bit (cond x (net_word (r - 12)) (input_word r b)) t ≡ net_at g ds (64 * b + t) (cond x (get_or ds (r - 12) no_driver).net (get_or (input_nets g) r []))
        go true e = net-bit (r - 12) t l
        go false e = input-bit ∙ sym (input-net (64 * b + t) r (small (leb-false 12 r e)))
          where
            input-bit : bit (input_word r b) t ≡ bit (64 * b + t) r
            input-bit = unfold input_word in bit_word (λ t. bit (64 * b + t) r) t l

    module _ (i : ℕ) (l : i < n) (t : ℕ) (s : t < 64) where
      pin : ℕ → ℕ
      pin = pin_word refs (pins_of nets i) b net_word i

      pin-there : (j : ℕ) → j < length (get_or ds i no_driver).uses → bit (pin j) t ≡ net_at g ds (64 * b + t) (get_or (get_or ds i no_driver).uses j [])
      unfolding pin pin_word
      pin-there j k =
          ap (λ (x : Bool). bit (cond x 0 (ref_word b net_word (get_or refs (4 * i + j) 0))) t) (lt-leb (pins_of nets i) j (omega (arith, pins-at i l)))
          ∙ ref_bit (get_or refs (4 * i + j) 0) t s (c.wired.input_at i j (listed i l) k)
          ∙ ap (net_at g ds (64 * b + t)) (c.wired.means i j (listed i l) k)

      pin_away : (j : ℕ) → length (get_or ds i no_driver).uses ≤ j → bit (pin j) t ≡ false
      unfolding pin pin_word
      pin_away j k =
          ap (λ (x : Bool). bit (cond x 0 (ref_word b net_word (get_or refs (4 * i + j) 0))) t) (le-leb (pins_of nets i) j (omega (arith, pins-at i l))) ∙ zero_bit t s

      row_at : row_of (map (net_at g ds (64 * b + t)) (get_or ds i no_driver).uses) ≡ row_of (bit (pin 0) t ∷ bit (pin 1) t ∷ bit (pin 2) t ∷ bit (pin 3) t ∷ [])
      unfolding bits_of
      row_at = row-pins 4 (get_or ds i no_driver).uses (net_at g ds (64 * b + t)) (λ j. bit (pin j) t) (c.pins (get_or ds i no_driver) (in_list i l)) pin-there pin_away

      driver-bit : net_at g ds (64 * b + t) (get_or ds i no_driver).net ≡ value (table_of nets i) (row_of (bit (pin 0) t ∷ bit (pin 1) t ∷ bit (pin 2) t ∷ bit (pin 3) t ∷ []))
      driver-bit =
          (hold_values (64 * b + t)).at_drivers (get_or ds i no_driver) (in_list i l)
          ∙ ap₂ value (sym (table_at i l)) row_at

    pub driver-step : (i : ℕ) → i < n → net_word i ≡ driver_word nets refs b net_word i
    unfolding net_word driver_word gate_word pin
    driver-step i l = words_same (λ t. net_at g ds (64 * b + t) (get_or ds i no_driver).net) _ (λ t s. driver-bit i l t s)

    pub drivers-step : DriversStep nets refs order n b net_word
    drivers-step = record {
      step = λ p l. driver-step (get_or order p 0) (ordered_in p l);
      behind = λ p j l k r.
          let s : get_or order p 0 < n = ordered_in p l in
          c.in_order.behind p j (listed p l) (omega (arith, pins-at (get_or order p 0) s)) r;
    }
