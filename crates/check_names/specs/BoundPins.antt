-- What the words of a gate's line bind, as numbers.
use Rattle.std.specs.Prelude.{◌+◌, ◌-◌, ◌∷◌, ◌++◌}
use Rattle.base.specs.{ℕ, cond, Option, None, Some, List, [], map, length, take, get_or, replicate}
use Rattle.model.specs.{from, same, out_name, Driver, pin_net}
use Rattle.check_names.specs.NetCodes.{code, net_code}
use Rattle.check_names.specs.LineFields.{space_from, fields_from}
use Rattle.check_names.specs.declared.Pin.{Pin}
use Rattle.check_names.specs.declared.Nets.{Nets}
use Rattle.check_names.specs.declared.Gate.{Gate}

-- the number of a name that is there
abbrev pub opt_code : Option (List ℕ) → Option ℕ
opt_code None = None
opt_code (Some n) = Some (code n)

-- the word of a net; the others begin at a place
abbrev pub pin_with : ℕ → Option (List ℕ) → Option Pin
pin_with at None = None
pin_with at (Some n) = Some (record { code = code n; next = at })

-- of these words the first, with the letter b; the others begin at a place
abbrev pub pin_of : ℕ → List (List ℕ) → ℕ → Option Pin
pin_of b [] at = None
pin_of b (w ∷ ws) at = pin_with at (pin_net b w)

-- the word `A=net` at a place of a line, and where the next word begins
unfoldable pub pin_at : List ℕ → ℕ → ℕ → Option Pin
pin_at l at b = pin_of b (fields_from l at) (space_from l at + 1)

-- the letters of so many pins from pin i on, and the output's
unfoldable pub letters : ℕ → ℕ → List ℕ
unfolding from
letters i n = map (λ (j : ℕ). 65 + j) (from i n) ++ (79 ∷ [])

-- the numbers of n pins and of the output
abbrev pub nets_of : ℕ → Option (List (List ℕ)) → Option Nets
nets_of n None = None
nets_of n (Some ns) = Some (record { codes = map code (take n ns) ++ replicate (4 - n) 0; net = code (get_or ns n []) })

-- the number of the output alone, beside those of the pins
abbrev pub own_nets : List ℕ → Option (List (List ℕ)) → Option Nets
own_nets codes None = None
own_nets codes (Some ns) = Some (record { codes = codes; net = code (get_or ns 0 []) })

-- a gate of this table and of n pins, with these nets
abbrev pub gate_with : ℕ → ℕ → Option (List (List ℕ)) → Option Gate
gate_with table n None = None
gate_with table n (Some ns) = Some (record { table = table; count = n; codes = map code (take n ns) ++ replicate (4 - n) 0; net = code (get_or ns n []) })

-- what a `.names` line of output k uses, by its number
abbrev pub name_code : Option Driver → Option ℕ
name_code None = None
name_code (Some d) = Some (code (get_or d.uses 0 []))

-- of these words: a net's number, and behind it output k's own name as the last
unfoldable pub two_words : ℕ → List (List ℕ) → Option ℕ
two_words k [] = None
two_words k (w ∷ []) = None
two_words k (w ∷ v ∷ []) = cond (same v (out_name k)) (net_code w) None
two_words k (w ∷ v ∷ u ∷ us) = None

-- what a driver is, by numbers
abbrev pub gate_by : Driver → Gate
gate_by d = record { table = d.table; count = length d.uses; codes = map code d.uses ++ replicate (4 - length d.uses) 0; net = code d.net }

-- what a line drives, by numbers
abbrev pub gate_of : Option Driver → Option Gate
gate_of None = None
gate_of (Some d) = Some (gate_by d)
