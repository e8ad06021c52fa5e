-- The `# timing` lines behind the printed netlist say the arrivals that were printed.
use Rattle.base.specs.{ℕ, suc, ◌<◌, ◌≡◌, refl, sym, ◌∙◌, ap, Some, List, [], ◌∷◌, ◌++◌, map, Memᴰ, append_assoc, arith, T, lit<}
use Rattle.model.specs.{same, and_then, only, text, decimal, parts, fields, split, onto, is_name, name_of, Gate, out_name, netlist_text}
use Rattle.model.specs.{timing_lines, TimingLine, read_timing_words, read_timing_lines, behind_figures, read_timings}
use Rattle.model.specs.Graph.{Graph}
use Rattle.model.specs.declared.Figures.{Figures}
use Rattle.theory_text.proofs.PlainLines.{Free, above, free_append, decimal-free}
use Rattle.theory_text.proofs.LineLaws.{fields-word, fields-last}
use Rattle.theory_text.proofs.ReadBack.{parts-line, body, body_of, figures_line, names_of, input_names, output_names, wire_body}
use Rattle.theory_text.proofs.ReadBack.{wire_bodies, lines_of, text-lines}
use Rattle.theory_text.proofs.ReadFigures.{figure-back}

-- ---- a line

out_free : (sep k : ℕ) → sep < 48 → Free sep (out_name k)
unfolding out_name
out_free sep k h = (above sep 111 (omega arith), decimal-free sep k h)

-- the line of output k without its end
timing_body : ℕ → ℕ → ℕ → List ℕ
timing_body k low high = text "# timing " ++ (out_name k ++ (32 ∷ decimal low ++ (32 ∷ decimal high)))

timing-free : (k low high : ℕ) → Free 10 (timing_body k low high)
unfolding timing_body text
timing-free k low high =
    free_append 10 (text "# timing ") (out_name k ++ (32 ∷ decimal low ++ (32 ∷ decimal high))) (refl, (refl, (refl, (refl, (refl, (refl, (refl, (refl, (refl, tt)))))))))
    (free_append 10 (out_name k) (32 ∷ decimal low ++ (32 ∷ decimal high)) (out_free 10 k (lit< tt))
    (refl, free_append 10 (decimal low) (32 ∷ decimal high) (decimal-free 10 low (lit< tt)) (refl, decimal-free 10 high (lit< tt))))

timing-words : (k low high : ℕ) → fields (timing_body k low high) ≡ text "#" ∷ text "timing" ∷ out_name k ∷ decimal low ∷ decimal high ∷ []
unfolding timing_body text fields split onto
timing-words k low high = ap (λ (ps : List (List ℕ)). text "#" ∷ text "timing" ∷ ps)
    (fields-word (out_name k) (decimal low ++ (32 ∷ decimal high)) (out_free 32 k (lit< tt)) ∙ ap (λ (ps : List (List ℕ)). out_name k ∷ ps)
    (fields-word (decimal low) (decimal high) (decimal-free 32 low (lit< tt))
    ∙ ap (λ (ps : List (List ℕ)). decimal low ∷ ps) (fields-last (decimal high) (decimal-free 32 high (lit< tt)))))

-- what the line says
abbrev saying_of : ℕ → ℕ → ℕ → TimingLine
saying_of k low high = record { output = out_name k; low = low; high = high }

timing_said : (k low high : ℕ) → read_timing_words (fields (timing_body k low high)) ≡ Some (saying_of k low high)
unfolding read_timing_words and_then only same text
timing_said k low high = cc (timing-words k low high, figure-back low, figure-back high)

-- ---- the lines

module _ (low high : ℕ → ℕ) where
  -- what the lines from output k on say
  unfoldable pub timings_from : ℕ → List ℕ → List TimingLine
  timings_from k [] = []
  timings_from k (l ∷ ls) = record { output = out_name k; low = low l; high = high l } ∷ timings_from (suc k) ls

  bodies : ℕ → List ℕ → List (List ℕ)
  bodies k [] = []
  bodies k (l ∷ ls) = timing_body k (low l) (high l) ∷ bodies (suc k) ls

  timing-lines : (k : ℕ) (ls : List ℕ) → parts 10 (timing_lines low high k ls) ≡ bodies k ls
  unfolding timing_lines timing_body bodies text parts
  timing-lines k [] = refl
  timing-lines k (l ∷ ls) =
      let ended : timing_lines low high k (l ∷ ls) ≡ timing_body k (low l) (high l) ++ (10 ∷ timing_lines low high (suc k) ls) = sym
      (simp append_assoc) in
      ap (parts 10) ended ∙ parts-line 10 (timing_body k (low l) (high l)) (timing_lines low high (suc k) ls) (timing-free k (low l) (high l))
      ∙ ap (λ (ps : List (List ℕ)). timing_body k (low l) (high l) ∷ ps) (timing-lines (suc k) ls)

  lines_said : (k : ℕ) (ls : List ℕ) → read_timing_lines (bodies k ls) ≡ Some (timings_from k ls)
  unfolding read_timing_lines bodies timings_from and_then
  lines_said k [] = refl
  lines_said k (l ∷ ls) = cc (timing_said k (low l) (high l), lines_said (suc k) ls)

-- ---- behind the `# gates` line

behind-wires : (k : ℕ) (outs : List ℕ) (l : List ℕ) (more : List (List ℕ)) → behind_figures (wire_bodies k outs ++ (text ".end" ∷ l ∷ more)) ≡ more
unfolding behind_figures wire_bodies wire_body names_of same text
behind-wires k [] l more = refl
behind-wires k (o ∷ []) l more = refl
behind-wires k (o ∷ p ∷ outs) l more = behind-wires (suc k) (p ∷ outs) l more

behind-gates : (ts : List Gate) (outs : List ℕ) (l : List ℕ) (more : List (List ℕ)) → behind_figures (map body_of ts ++ (wire_bodies 0 outs ++ (text ".end" ∷ l ∷ more))) ≡ more
unfolding behind_figures same text body_of body wire_bodies
behind-gates [] outs l more = behind-wires 0 outs l more
behind-gates (t ∷ []) [] l more = refl
behind-gates (t ∷ []) (o ∷ outs) l more = behind-wires 0 (o ∷ outs) l more
behind-gates (t ∷ u ∷ ts) outs l more = behind-gates (u ∷ ts) outs l more

-- what is read behind the `# gates` line is what follows it
behind-back : (g : Graph) (ts : List Gate) (f : Figures) (after : List ℕ) → ((t : Gate) → Memᴰ t ts → T (is_name (name_of t.cell)))
    → read_timings (netlist_text g ts f ++ after) ≡ read_timing_lines (parts 10 after)
unfolding read_timings lines_of names_of behind_figures wire_bodies same text
behind-back g ts f after h =
    cc (text-lines g ts f after h, go ts g.outputs (behind-gates ts g.outputs (figures_line f) (parts 10 after)))
  where
    -- the first three lines are not the end, and a line follows each of them
    go : (us : List Gate) (outs : List ℕ) → behind_figures (map body_of us ++ (wire_bodies 0 outs ++ (text ".end" ∷ figures_line f ∷ parts 10 after))) ≡ parts 10 after
        → behind_figures (text ".model top" ∷ names_of (text ".inputs") (input_names g) ∷ names_of (text ".outputs") (output_names g) ∷ map body_of us ++ (wire_bodies 0 outs ++ (text ".end" ∷ figures_line f ∷ parts 10 after))) ≡ parts 10 after
    go [] [] q = q
    go [] (o ∷ outs) q = q
    go (u ∷ us) outs q = q

-- the printed text says its timing lines
pub timings-back : (g : Graph) (ts : List Gate) (f : Figures) (low high : ℕ → ℕ) → ((t : Gate) → Memᴰ t ts → T (is_name (name_of t.cell)))
    → read_timings (netlist_text g ts f ++ timing_lines low high 0 g.outputs) ≡ Some (timings_from low high 0 g.outputs)
timings-back g ts f low high h =
    behind-back g ts f (timing_lines low high 0 g.outputs) h ∙ ap read_timing_lines (timing-lines low high 0 g.outputs) ∙ lines_said low high 0 g.outputs

-- without them it says none
pub timings-none : (g : Graph) (ts : List Gate) (f : Figures) → ((t : Gate) → Memᴰ t ts → T (is_name (name_of t.cell))) → read_timings (netlist_text g ts f ++ []) ≡ Some []
unfolding read_timing_lines parts
timings-none g ts f h = behind-back g ts f [] h
