-- The header's answer, the need of words, and what a call leaves.
use Rattle.std.specs.Prelude.{Result}
use Rattle.model.specs.{Answer, refused_with}
use Rattle.model.specs.declared.Refusal.{Refusal}
use Rattle.base.specs.{ap₂, ℕ, ◌≤◌, ◌<◌, arith, ◌≡◌, refl, sym, ◌∙◌, ap, subst, Bool, true, false, List, T, leb, leb→le, le→leb, length}
use Rattle.base.specs.{replicate}
use Rattle.model.specs.{need, Read, holds, fault, next, unless, cells_of, cells_for, read_header, header_answer, Outcome, refused, map_design}
use Rattle.model.specs.declared.Cell.{Cell}
use Rattle.model.specs.declared.Library.{Library}
use Rattle.model.specs.declared.Header.{Header}
use Rattle.model.proofs.{refusal_parts}
use Rattle.mapper.specs.{Answered, Left, all_of, headed_of, design_of, graph_for, header_for, library_for}
use Rattle.mapper.proofs.NetlistStage.{answered-refused}
use Rattle.mapper.proofs.RefusalOrder.{Early, work_early, work_input-arrival, header-early, graph_for_input-arrival}

pub header-fault : (r : Read Header) (n k : ℕ) → header_answer r ≡ refused_with n k → r ≡ fault n k
unfolding header_answer
header-fault (holds h) n k e = let z : ◌≡◌ {A = ℕ} 0 1 = cc in absurd (omega arith)
header-fault (fault m j) n k e = let s = refusal_parts e in ap₂ fault s.0 s.1

-- a refusal up to 10 leaves both memories as they were
pub left-early : (n k : ℕ) (work text : List ℕ) → Early n k → Left (refused n k) work text (refused_with n k) work text
left-early n k work text e = record { answered = answered-refused n k text; words = work_early n k work e }

pub left_as : {o p : Outcome} {work text : List ℕ} {a : Answer} {y u : List ℕ} → p ≡ o → Left o work text a y u → Left p work text a y u
left_as {work = work} {text = text} {a = a} {y = y} {u = u} e l = subst (λ (x : Outcome). Left x work text a y u) (sym e) l

module _ (ranged : Bool) (lib : Library) (ids : List ℕ) (s t : List ℕ) (work text : List ℕ) where
  pub header-stops : (r : Result Header Refusal) → r ≡ header_answer (read_header s) → (n k : ℕ) → r ≡ refused_with n k → Left (header_for ranged lib ids s t (length work) (length text)) work text (refused_with n k) work text
  unfolding header_for next map_design
  header-stops r answered n k e =
      let f = header-fault (read_header s) n k (sym answered ∙ e) in
      left_as (ap (λ (x : Read Header). map_design (length text) (next x (λ h. unless (leb (need h.size h.outputs) (length work)) 10 0 (design_of ranged lib ids s t h)))) f)
      (left-early n k work text ((header-early s).has n k f))

  module _ (h : Header) (d : read_header s ≡ holds h) where
    through : header_for ranged lib ids s t (length work) (length text) ≡ map_design (length text) (unless (leb (need h.size h.outputs) (length work)) 10 0 (design_of ranged lib ids s t h))
    unfolding header_for next
    through = ap (λ (x : Read Header). map_design (length text) (next x (λ k. unless (leb (need k.size k.outputs) (length work)) 10 0 (design_of ranged lib ids s t k)))) d

    -- "Work memory has fewer than 124(M+1) + O 16-bit words."
    pub header-short : length work < need h.size h.outputs → Left (header_for ranged lib ids s t (length work) (length text)) work text (refused_with 10 0) work text
    unfolding unless map_design
    header-short l = left_as (through ∙ go (leb (need h.size h.outputs) (length work)) (leb→le (need h.size h.outputs) (length work))) (left-early 10 0 work text refl)
      where
        go : (b : Bool) → (T b → need h.size h.outputs ≤ length work) → map_design (length text) (unless b 10 0 (design_of ranged lib ids s t h)) ≡ refused 10 0
        go true y = absurd (let z : need h.size h.outputs ≤ length work = y tt in omega arith)
        go false y = refl

    -- "all zero after a later one and after success"
    pub header-done : need h.size h.outputs ≤ length work → (a : Answer) (u z : List ℕ) → Answered (graph_for ranged lib ids s t h (length text)) text a u → z ≡ replicate (length work) 0
        → Left (header_for ranged lib ids s t (length work) (length text)) work text a z u
    unfolding unless graph_for
    header-done l a u z answered c =
        left_as (through ∙ go (leb (need h.size h.outputs) (length work)) (le→leb (need h.size h.outputs) (length work) l))
        (record { answered = answered; words = c ∙ work_input-arrival (graph_for ranged lib ids s t h (length text)) work (graph_for_input-arrival ranged lib ids s t h (length text)) })
      where
        go : (b : Bool) → T b → map_design (length text) (unless b 10 0 (design_of ranged lib ids s t h)) ≡ graph_for ranged lib ids s t h (length text)
        go true y = refl
        go false y = absurd y

-- ---- 30

module _ (ranged : Bool) (lib : Library) (s t : List ℕ) (work text : List ℕ) where
  pub pairs_stop : 256 < length (cells_for true (cells_of lib)) → Left (library_for true ranged lib s t (length work) (length text)) work text (refused_with 30 0) work text
  unfolding library_for unless map_design
  pairs_stop l = left_as (go (leb (length (cells_for true (cells_of lib))) 256) (leb→le (length (cells_for true (cells_of lib))) 256)) (left-early 30 0 work text refl)
    where
      go : (b : Bool) → (T b → length (cells_for true (cells_of lib)) ≤ 256)
          → map_design (length text) (unless b 30 0 (headed_of ranged (cells_of lib) (cells_for true (cells_of lib)) s t (length work))) ≡ refused 30 0
      go true y = absurd (let z : length (cells_for true (cells_of lib)) ≤ 256 = y tt in omega arith)
      go false y = refl

  pub cells_go : (paired : Bool) (ids : List ℕ) → cells_for paired (cells_of lib) ≡ all_of lib ids → length (all_of lib ids) ≤ 256
      → library_for paired ranged lib s t (length work) (length text) ≡ header_for ranged lib ids s t (length work) (length text)
  unfolding library_for header_for unless
  cells_go paired ids e few =
      ap (λ (cs : List Cell). map_design (length text) (unless (leb (length cs) 256) 30 0 (headed_of ranged (cells_of lib) cs s t (length work)))) e
      ∙ go (leb (length (all_of lib ids)) 256) (le→leb (length (all_of lib ids)) 256 few)
    where
      go : (b : Bool) → T b → map_design (length text) (unless b 30 0 (headed_of ranged (cells_of lib) (all_of lib ids) s t (length work)))
          ≡ map_design (length text) (headed_of ranged (cells_of lib) (all_of lib ids) s t (length work))
      go true y = refl
      go false y = absurd y
