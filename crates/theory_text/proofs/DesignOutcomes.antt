-- What a printed netlist says of the texts: the graph is accepted, no AND has too many cuts, every output is chosen a source, and the text
-- and its figures are those of the chosen gates.
use Rattle.base.specs.{ℕ, suc, ◌≡◌, refl, sym, ◌∙◌, ap, subst, Bool, true, false, cond, false≢true, Option, None, Some, List, [], ◌∷◌, ◌++◌}
use Rattle.base.specs.{cons≢nil, Memᴰ, Memᴰ-head, Memᴰ-tail, leb, length}
use Rattle.model.specs.{lowest, smaller, holds, unordered, over_limit, absent, chosen, Outcome, refused, mapped, map_graph, map_ordered, map_cut}
use Rattle.model.specs.{map_chosen, printed, uncovered, Call, Design, read_texts, map_texts, map_design, within, min_arrival_of, timing_lines, followed}
use Rattle.model.specs.{choice_text, choice_figures, printed_text}
use Rattle.model.specs.Graph.{Graph}
use Rattle.model.specs.declared.Cell.{Cell}
use Rattle.model.specs.declared.Phase.{Phase}
use Rattle.model.specs.declared.Figures.{Figures}
use Rattle.theory_graph.proofs.{by_bool, by_list}

is_mapped : Outcome → Bool
is_mapped (refused n k) = false
is_mapped (mapped t f) = true

pub refused_never : {n k : ℕ} {t : List ℕ} {f : Figures} → ¬ (refused n k ≡ mapped t f)
unfolding is_mapped
refused_never e = false≢true (ap is_mapped e)

text_of : Outcome → List ℕ
text_of (refused n k) = []
text_of (mapped t f) = t

figures_in : Figures → Outcome → Figures
figures_in d (refused n k) = d
figures_in d (mapped t f) = f

pub record FromChoice (listed cells : List Cell) (g : Graph) (t : List ℕ) (f : Figures) : Type 0 where
  pub ordered : unordered g ≡ []
  pub few : over_limit g ≡ []
  pub covered : (l : ℕ) → Memᴰ l g.outputs → absent (chosen cells g l).source ≡ false
  pub is_text : t ≡ choice_text listed cells g
  pub are_figures : f ≡ choice_figures listed cells g

-- where none is uncovered, each output has a source
pub outputs_present : (phase : ℕ → Phase) (k : ℕ) (ls : List ℕ) → uncovered phase k ls ≡ [] → (l : ℕ) → Memᴰ l ls → absent (phase l).source ≡ false
unfolding uncovered
outputs_present phase k (x ∷ ls) e l m = go (absent (phase x).source) refl e m (λ q. outputs_present phase (suc k) ls q l)
  where
    go : (b : Bool) → absent (phase x).source ≡ b → cond b (k ∷ uncovered phase (suc k) ls) (uncovered phase (suc k) ls) ≡ [] → Memᴰ l (x ∷ ls)
        → (uncovered phase (suc k) ls ≡ [] → Memᴰ l ls → absent (phase l).source ≡ false) → absent (phase l).source ≡ false
    go true a q n later = absurd (cons≢nil q)
    go false a q (Memᴰ-head s) later = ap (λ (y : ℕ). absent (phase y).source) s ∙ a
    go false a q (Memᴰ-tail n) later = later q n
outputs_present phase k [] e l m = elim m [ ]

module _ (listed cells : List Cell) (g : Graph) (t : List ℕ) (f : Figures) where
  from-choice : map_graph listed cells g ≡ mapped t f → FromChoice listed cells g t f
  unfolding map_graph map_ordered map_cut map_chosen printed chosen lowest smaller text_of figures_in
  from-choice e = by_list (unordered g) (λ p. by_list (over_limit g)
      (λ c. outs p c (uncovered (chosen cells g) 0 g.outputs) refl (rw c at (rw p at e)))
      (λ v vs q. absurd (refused_never (rw q at (rw p at e))))) (λ u us q. absurd (none-lowest u (lowest us) (rw q at e)))
    where
      outs : unordered g ≡ [] → over_limit g ≡ [] → (us : List ℕ) → uncovered (chosen cells g) 0 g.outputs ≡ us → printed listed cells g (chosen cells g) us ≡ mapped t f → FromChoice listed cells g t f
      outs p c [] q h =
          record { ordered = p; few = c; covered = outputs_present (chosen cells g) 0 g.outputs q; is_text = sym (ap text_of h); are_figures = sym (ap (figures_in f) h) }
      outs p c (k ∷ ks) q h = absurd (refused_never h)

      none-lowest : (u : ℕ) (o : Option ℕ) → ¬ (map_ordered listed cells g (smaller u o) ≡ mapped t f)
      none-lowest u None h = refused_never h
      none-lowest u (Some w) h = refused_never h

-- a netlist that fits is the graph's
within-mapped : (bytes : ℕ) (o : Outcome) (t : List ℕ) (f : Figures) → within bytes o ≡ mapped t f → o ≡ mapped t f
unfolding within
within-mapped bytes (refused n k) t f e = absurd (refused_never e)
within-mapped bytes (mapped u h) t f e = by_bool (leb (length u) bytes) (λ q. rw q at e) (λ p. absurd (refused_never (rw p at e)))

-- the netlist is the graph's, and the timing lines follow it where delays are ranges
pub record FromDesign (ranged : Bool) (listed cells : List Cell) (g : Graph) (t : List ℕ) (f : Figures) : Type 0 where
  pub choice : FromChoice listed cells g (choice_text listed cells g) f
  pub is_text : t ≡ printed_text ranged listed cells g

from-design : (ranged : Bool) (listed cells : List Cell) (g : Graph) (t : List ℕ) (f : Figures) → followed ranged cells g (map_graph listed cells g) ≡ mapped t f → FromDesign ranged listed cells g t f
unfolding followed text_of figures_in
from-design ranged listed cells g t f = go ranged (map_graph listed cells g) refl
  where
    plain : (u : List ℕ) (h : Figures) → map_graph listed cells g ≡ mapped u h → h ≡ f → (u ≡ choice_text listed cells g) × FromChoice listed cells g (choice_text listed cells g) f
    plain u h e q = let c = from-choice listed cells g u h e in (c.is_text, subst (FromChoice listed cells g (choice_text listed cells g)) q (subst (λ (x : List ℕ). FromChoice listed cells g x h) c.is_text c))

    go : (r : Bool) (o : Outcome) → map_graph listed cells g ≡ o → followed r cells g o ≡ mapped t f → FromDesign r listed cells g t f
    go r (refused n k) e q = absurd (refused_never q)
    go false (mapped u h) e q = let c = plain u h e (ap (figures_in f) q) in record { choice = c.1; is_text = sym (ap text_of q) ∙ c.0 }
    go true (mapped u h) e q =
        let c = plain u h e (ap (figures_in f) q) in
        record { choice = c.1; is_text = sym (ap text_of q) ∙ ap (λ (x : List ℕ). x ++ timing_lines (min_arrival_of cells g) (λ (l : ℕ). (chosen cells g l).arrival) 0 g.outputs) c.0 }

module _ (c : Call) (d : Design) (e : read_texts c ≡ holds d) where
  -- the outcome of texts that are read
  pub outcome-is : map_texts c ≡ within c.bytes (followed d.ranged d.cells d.graph (map_graph d.listed d.cells d.graph))
  unfolding map_texts map_design
  outcome-is = ap (map_design c.bytes) e

  pub printed-choice : (t : List ℕ) (f : Figures) → map_texts c ≡ mapped t f → FromDesign d.ranged d.listed d.cells d.graph t f
  printed-choice t f h = from-design d.ranged d.listed d.cells d.graph t f (within-mapped c.bytes
      (followed d.ranged d.cells d.graph (map_graph d.listed d.cells d.graph)) t f (sym outcome-is ∙ h))
