-- A netlist read: its first lines, its gates, its outputs and `.end`.
use Rattle.base.specs.{ℕ, ◌+◌, ◌*◌, ◌≤◌, arith, ◌≡◌, refl, sym, ◌∙◌, ap, ap₂, Bool, true, false, true≢false, false≢true, List, [], ◌∷◌, ◌++◌}
use Rattle.base.specs.{append_assoc, append-nil, length, replicate, length-append}
use Rattle.std.specs.Prelude.{Result, Ok, Err}
use Rattle.std.specs.Result.{is_err}
use Rattle.model.specs.{each, Line, text, Read, holds, fault, next, unless, cells_of, Driver, is_line, past_lines, preamble_of, read_names, read_drivers}
use Rattle.model.specs.{read_netlist}
use Rattle.model.specs.Graph.{Graph}
use Rattle.model.specs.declared.Library.{Library}
use Rattle.base_words.specs.{put_at}
use Rattle.base_words.proofs.{length-put, put-none, put_append}
use Rattle.check_reader.specs.{lines_at, Stands, Missed, Begun, Unbegun, driver_words, Gates, Pairs, Partly, Lined, Lines, progress_of, nets_after, Taken}
use Rattle.check_reader.specs.declared.Progress.{Progress}
use Rattle.check_reader.proofs.GateGathering.{words_long}

each_append : (ds es : List Driver) → each driver_words (ds ++ es) ≡ each driver_words ds ++ each driver_words es
unfolding each
each_append [] es = refl
each_append (d ∷ ds) es = ap (λ (ws : List ℕ). driver_words d ++ ws) (each_append ds es) ∙ sym (append_assoc (driver_words d) (each driver_words ds) (each driver_words es))

-- the array keeps its size
pub gates-size : (s : List ℕ) (lib : Library) (first : ℕ) (r : Progress) (before after : List ℕ) → Gates s lib first r before after → length after ≡ length before
gates-size s lib first r before after gates =
    ap length gates.stored ∙ length-put before 0 (each driver_words gates.drivers) (omega (arith, words_long gates.drivers, gates.counted, gates.capacity))

-- no line read, the array is as it was
pub none-left : (before : List ℕ) → Partly 0 before before
unfolding each
none-left before = record { drivers = []; capacity = omega arith; stored = sym (put-none before 0) }

-- the gates' drivers, and behind them those of the outputs' lines before the one at fault
pub pairs-left : (s : List ℕ) (lib : Library) (first : ℕ) (r : Progress) (before mid : List ℕ) → Gates s lib first r before mid
    → (after : List ℕ) → Partly r.count mid after → Partly 0 before after
pairs-left s lib first r before mid gates after left = record {
  drivers = gates.drivers ++ left.drivers;
  capacity = omega (arith, left.capacity, gates.counted, length-append gates.drivers left.drivers, gates-size s lib first r before mid gates);
  stored = left.stored
      ∙ ap₂ (λ (w : List ℕ) (n : ℕ). put_at w n (each driver_words left.drivers)) gates.stored (let z : 8 * r.count ≡ 0 + length (each driver_words gates.drivers) = omega (arith, long) in z)
      ∙ put_append before 0 (each driver_words gates.drivers) (each driver_words left.drivers) (omega (arith, long, words_long left.drivers, left.capacity, gates-size s lib first r before mid gates))
      ∙ sym (ap (put_at before 0) (each_append gates.drivers left.drivers));
}
  where
    long : length (each driver_words gates.drivers) ≡ 8 * r.count
    long = words_long gates.drivers ∙ ap (λ (n : ℕ). 8 * n) (sym gates.counted)

-- so do they where `.end` is not there
pub end-left : (s : List ℕ) (lib : Library) (first : ℕ) (r : Progress) (before mid : List ℕ) → Gates s lib first r before mid
    → (outs at p : ℕ) (after : List ℕ) → Pairs s outs at r.count p mid after → Partly 0 before after
end-left s lib first r before mid gates outs at p after pairs =
    pairs-left s lib first r before mid gates after
    (record { drivers = pairs.drivers; capacity = omega (arith, pairs.capacity, pairs.counted); stored = pairs.stored })

-- behind the last output `.end` is expected
end-expected : (end k : ℕ) (ls : List Line) → read_names end k 0 ls ≡ next (past_lines end (text ".end" ∷ []) ls) (λ _. holds [])
unfolding read_names past_lines next
end-expected end k [] = refl
end-expected end k (l ∷ ls) = go (is_line (text ".end") l)
  where
    go : (b : Bool) → ◌≡◌ {A = Read (List Driver)} (unless b 32 l.offset (holds [])) (next (unless b 32 l.offset (holds ls)) (λ _. holds []))
    go true = unfold unless next in refl
    go false = unfold unless next in refl

module _ (s : List ℕ) (lib : Library) (g : Graph) where
  pub preamble-broken : (f : ℕ) → Unbegun s (preamble_of g) f → read_netlist (cells_of lib) g s ≡ fault 32 f
  unfolding read_netlist next
  preamble-broken f preamble = ap (λ (r : Read (List Line)). next r (read_drivers (cells_of lib) (length s) (length g.outputs))) preamble.refused

  module _ (f : ℕ) (preamble : Begun s (preamble_of g) f) where
    framed : read_netlist (cells_of lib) g s ≡ read_drivers (cells_of lib) (length s) (length g.outputs) (lines_at s f)
    unfolding read_netlist next
    framed = ap (λ (x : Read (List Line)). next x (read_drivers (cells_of lib) (length s) (length g.outputs))) preamble.next

    pub gates-broken : (k : ℕ) → ((end outs : ℕ) → read_drivers (cells_of lib) end outs (lines_at s f) ≡ fault 32 k) → read_netlist (cells_of lib) g s ≡ fault 32 k
    gates-broken k gates = framed ∙ gates (length s) (length g.outputs)

    module _ (before mid : List ℕ) (r : Progress) (gates : Gates s lib f r before mid) (outs : ℕ) (is : length g.outputs ≡ outs) where
      gated : read_netlist (cells_of lib) g s ≡ next (read_names (length s) 0 outs (lines_at s r.at)) (λ ds. holds (gates.drivers ++ ds))
      gated = framed ∙ ap (λ (n : ℕ). read_drivers (cells_of lib) (length s) n (lines_at s f)) is ∙ gates.expected (length s) outs

      pub pairs-refused : (k : ℕ) → read_names (length s) 0 outs (lines_at s r.at) ≡ fault 32 k → read_netlist (cells_of lib) g s ≡ fault 32 k
      unfolding next
      pairs-refused k pairs = gated ∙ ap (λ (x : Read (List Driver)). next x (λ ds. holds (gates.drivers ++ ds))) pairs

      module _ (p : ℕ) (after : List ℕ) (pairs : Pairs s outs r.at r.count p mid after) where
        all : List Driver
        all = gates.drivers ++ pairs.drivers

        long : length (each driver_words gates.drivers) ≡ 8 * r.count
        long = words_long gates.drivers ∙ ap (λ (n : ℕ). 8 * n) (sym gates.counted)

        both_stored : after ≡ put_at before 0 (each driver_words all)
        unfolding all
        both_stored =
            pairs.stored
            ∙ ap₂ (λ (w : List ℕ) (n : ℕ). put_at w n (each driver_words pairs.drivers)) gates.stored (let z : 8 * r.count ≡ 0 + length (each driver_words gates.drivers) = omega (arith, long) in z)
            ∙ put_append before 0 (each driver_words gates.drivers) (each driver_words pairs.drivers) (omega (arith, long, words_long pairs.drivers, pairs.counted, pairs.capacity, gates-size s lib f r before mid gates))
            ∙ sym (ap (put_at before 0) (each_append gates.drivers pairs.drivers))

        both-counted : r.count + outs ≡ length all
        unfolding all
        both-counted = omega (arith, pairs.counted, gates.counted, length-append gates.drivers pairs.drivers)

        last : read_netlist (cells_of lib) g s
            ≡ next (next (next (past_lines (length s) (text ".end" ∷ []) (lines_at s p)) (λ _. holds [])) (λ es. holds (pairs.drivers ++ es))) (λ ds. holds (gates.drivers ++ ds))
        last =
            gated ∙ ap (λ (x : Read (List Driver)). next x (λ ds. holds (gates.drivers ++ ds)))
            (pairs.expected ∙ ap (λ (x : Read (List Driver)). next x (λ es. holds (pairs.drivers ++ es))) (end-expected (length s) outs (lines_at s p)))

        pub end-refused : (e : ℕ) → Missed s (text ".end") p e → read_netlist (cells_of lib) g s ≡ fault 32 e
        unfolding next
        end-refused e end = last ∙ ap (λ (x : Read (List Line)). next (next (next x (λ _. holds [])) (λ es. holds (pairs.drivers ++ es))) (λ ds. holds (gates.drivers ++ ds))) (end.refused [])

        pub all_taken : length s ≤ 65536 → (e : ℕ) → Stands s (text ".end") p e → Lines s lib g (r.count + outs) before after
        unfolding all next past_lines
        all_taken short e end = record {
          drivers = all;
          counted = both-counted;
          stored = both_stored;
          held = last ∙ ap (λ (x : Read (List Line)). next (next (next x (λ _. holds [])) (λ es. holds (pairs.drivers ++ es))) (λ ds. holds (gates.drivers ++ ds))) (end.next [])
              ∙ ap (λ (ds : List Driver). holds (gates.drivers ++ ds)) (append-nil pairs.drivers);
          few = omega (arith, pairs.few, end.within);
        }

-- the lines read are the netlist, or the array is cleared
module _ (s : List ℕ) (lib : Library) (g : Graph) (before : List ℕ) where
  pub read-broken : (r : Result ℕ ℕ) → is_err r ≡ true → (mid : List ℕ) → Lined s lib g r before mid → (after : List ℕ) → after ≡ replicate (length before) 0 → Taken s lib g r before after
  unfolding progress_of nets_after
  read-broken (Ok n) e mid lines after zeros = absurd (false≢true e)
  read-broken (Err k) e mid passed after zeros = record {
    answer = sym (ap progress_of passed.1);
    left = zeros ∙ sym (ap (λ (x : Read (List Driver)). nets_after x before) passed.1);
    follows = passed.1;
  }

  pub read_whole : (r : Result ℕ ℕ) → is_err r ≡ false → (after : List ℕ) → Lined s lib g r before after → Taken s lib g r before after
  unfolding progress_of nets_after
  read_whole (Ok n) e after lines = record {
    answer = ap Ok lines.counted ∙ sym (ap progress_of lines.held);
    left = lines.stored ∙ sym (ap (λ (x : Read (List Driver)). nets_after x before) lines.held);
    follows = lines;
  }
  read_whole (Err k) e after refused = absurd (true≢false e)
