-- Which refusals come up to 10, and which later: so what is left of work memory.
use Rattle.base.specs.{ℕ, ◌≡◌, refl, sym, ap, Bool, true, false, cond, List, length, replicate}
use Rattle.model.specs.{Read, holds, fault, next, cells_of, read_library, read_header, read_graph, InputArrival as Arrival, read_arrivals, timed_by}
use Rattle.model.specs.{Outcome, refused, mapped, map_graph, followed, map_design, tried_early, work_after}
use Rattle.model.specs.Graph.{Graph}
use Rattle.model.specs.declared.Library.{Library}
use Rattle.model.specs.declared.Header.{Header}
use Rattle.theory_text.proofs.ReadFaults.{Faults}
use Rattle.theory_text.proofs.{library_faults, header_faults, graph_faults, arrivals_faults}
use Rattle.theory_demands.proofs.{Refusal, within-refusal, followed-refusal, map-refusal}
use Rattle.mapper.specs.{all_of, times_of, graph_for}

-- "every refusal tried up to 10", and "a later one", wherever its place is
abbrev pub Early : ℕ → ℕ → Type 0
Early n k = tried_early n ≡ true

abbrev pub InputArrival : ℕ → ℕ → Type 0
InputArrival n k = tried_early n ≡ false

-- ---- 2 to 9, 19 and 27

pub library-early : (s : List ℕ) → Faults Early (read_library s)
library-early = library_faults Early refl (λ _. refl) (λ _. refl) (λ _. refl) (λ _. refl) (λ _. refl)

pub header-early : (s : List ℕ) → Faults Early (read_header s)
header-early = header_faults Early refl refl refl refl

-- ---- 11 to 18, 20 and 21, 25 and 26

pub graph_for_input-arrival : (ranged : Bool) (lib : Library) (ids : List ℕ) (s t : List ℕ) (h : Header) (bytes : ℕ) → Refusal InputArrival (graph_for ranged lib ids s t h bytes)
unfolding graph_for map_design next
graph_for_input-arrival ranged lib ids s t h bytes = go (read_graph s h) (graph_faults InputArrival (λ _. refl) (λ _. refl) (λ _. refl) (λ _. refl) (λ _. refl) (λ _. refl) s h)
  where
    timed : (g : Graph) (r : Read (List Arrival)) → Faults InputArrival r → Refusal InputArrival (map_design bytes (next r (λ es. holds (record { listed = cells_of lib; cells = all_of lib ids; ranged = ranged; graph = timed_by g es }))))
    timed g (holds es) f =
        within-refusal InputArrival (λ _. refl) bytes (followed ranged (all_of lib ids) (timed_by g es) (map_graph (cells_of lib) (all_of lib ids) (timed_by g es)))
        (followed-refusal InputArrival ranged (all_of lib ids) (timed_by g es) (map_graph (cells_of lib) (all_of lib ids) (timed_by g es)) (map-refusal InputArrival (cells_of lib) (all_of lib ids) (timed_by g es) (λ _ _. refl) (λ _. refl) (λ _. refl)))
    timed g (fault n k) f = f.has n k refl

    go : (r : Read Graph) → Faults InputArrival r → Refusal InputArrival (map_design bytes (next r (times_of ranged lib ids t h)))
    go (holds g) f = timed g (read_arrivals h.inputs t) (arrivals_faults InputArrival (λ _. refl) (λ _. refl) h.inputs t)
    go (fault n k) f = f.has n k refl

-- ---- what is left of work memory

pub work_early : (n k : ℕ) (work : List ℕ) → Early n k → work ≡ work_after (refused n k) work
unfolding work_after
work_early n k work e = sym (ap (λ (b : Bool). cond b work (replicate (length work) 0)) e)

pub work_input-arrival : (o : Outcome) (work : List ℕ) → Refusal InputArrival o → replicate (length work) 0 ≡ work_after o work
unfolding work_after
work_input-arrival (refused n k) work l = sym (ap (λ (b : Bool). cond b work (replicate (length work) 0)) l)
work_input-arrival (mapped t f) work l = refl
