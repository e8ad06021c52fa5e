-- Two channels: what the channels' needs say of the calls alone, that words beyond the need change no outcome, that neither channel's outcome depends on the
-- other's texts, and the demands for each.
use Rattle.base.specs.{ℕ, ◌+◌, ◌≤◌, ◌<◌, le_refl, lt_of_not-le, dec_le, arith, ◌≡◌, refl, sym, ◌∙◌, ap, ap₂, subst, Bool, true, false, not}
use Rattle.base.specs.{false≢true, cond, List, ◌⊎◌, inl, inr, ⊎_elim, ◌↔◌, T, leb, le→leb, leb→le, length, replicate, leb_yes, leb_no}
use Rattle.model.specs.{need, Read, holds, fault, next, unless, read_header, read_graph, read_arrivals, timed_by, Outcome, refused, mapped}
use Rattle.model.specs.{map_graph, followed, Call, Design, design_of, short, read_listed, read_texts, within, map_design, map_texts, answer_of}
use Rattle.model.specs.{returned_by, tried_early, work_after, Channel, TwoCall, alone, need_of, Needs, needs_of, Outcomes, map_needs, map_two}
use Rattle.model.specs.{answers_of, two_work_after, AlikeTexts}
use Rattle.model.specs.Graph.{Graph}
use Rattle.model.specs.Demands.{Means}
use Rattle.model.specs.declared.Cell.{Cell}
use Rattle.model.specs.declared.Header.{Header}
use Rattle.model.specs.declared.Figures.{Figures}
use Rattle.promises.specs.{Fits, Alone, TogetherRefused, Neither, Independent, Each, on_text, AsciiChannels, AlikeChannels, EitherEndTwo}
use Rattle.promises.specs.{TwoPromised}
use Rattle.promises.specs.Promised.{Promised}
use Rattle.theory_graph.proofs.{is_true, by_bool, by_read}
use Rattle.theory_text.proofs.{holds-once, fault_never, unless_out, next_out, in_holds, in_unless, in_next, listed_faults, header_faults}
use Rattle.theory_text.proofs.{graph_faults, arrivals_faults, texts-listed, demand_ends, demand_former, refused_never}
use Rattle.theory_text.proofs.ReadFaults.{Faults}
use Rattle.theory_refusals.proofs.{demand_refusals}
use Rattle.theory_demands.proofs.RefusalDemands.{Refusal, within-refusal, followed-refusal, map-refusal}
use Rattle.theory_demands.proofs.CallSequence.{demand_sequenced}
use Rattle.theory_demands.proofs.CallDemands.{demand_values, demand_untimed, demand_ascii_forms}
use Rattle.theory_relations.proofs.Memory.{memory-left}
use Rattle.theory_demands.proofs.CoverRelations.{earliest_by_data, decided_by_data}
use Rattle.theory_demands.proofs.Shuffles.{demand_shuffles}

-- a refusal, whatever was to be read
other : {A B : Type 0} → Read A → Read B
other (holds a) = fault 0 0
other (fault n k) = fault n k

-- ---- a channel alone

module _ (paired : Bool) (library : List ℕ) (ch : Channel) where
  -- what is read behind 10
  abbrev behind : List Cell → Header → Read Design
  behind cells h = next (read_graph ch.graph h)
      (λ g. next (read_arrivals h.inputs ch.arrivals) (λ es. holds (design_of (alone paired library ch 0) cells (timed_by g es))))

  -- what is read where no refusal tried before 10 applies
  record Read10 (a : ℕ) : Type 0 where
    cells : List Cell
    header : Header
    is_short : short (alone paired library ch 0) ≡ true
    is_library : read_listed paired library ≡ holds cells
    is_header : read_header ch.graph ≡ holds header
    is_need : need header.size header.outputs ≡ a

  read_10 : (a : ℕ) → need_of paired library ch ≡ holds a → Read10 a
  unfolding need_of
  read_10 a e =
      let s = unless_out (short (alone paired library ch 0)) 1 0 _ a e in
      let l = next_out (read_listed paired library) _ a s.1 in
      let h = next_out (read_header ch.graph) (λ x. holds (need x.size x.outputs)) a l.2 in
      record { cells = l.0; header = h.0; is_short = is_true (short (alone paired library ch 0)) s.0; is_library = l.1; is_header = h.1; is_need = holds-once h.2 }

  -- then what the texts hold hangs on the words by 10 alone
  reads_are : (a : ℕ) (r : Read10 a) (words : ℕ) → read_texts (alone paired library ch words) ≡ unless (leb a words) 10 0 (behind r.cells r.header)
  unfolding read_texts next unless
  reads_are a r words =
      let with_memory : List Cell → Header → Read Design = λ cells h. unless (leb (need h.size h.outputs) words) 10 0 (behind cells h) in
      let read : List Cell → Read Design = λ cells. next (read_header ch.graph) (with_memory cells) in
      ap (λ (b : Bool). unless b 1 0 (next (read_listed paired library) read)) r.is_short
      ∙ ap (λ (x : Read (List Cell)). next x read) r.is_library ∙ ap (λ (x : Read Header). next x (with_memory r.cells)) r.is_header
      ∙ ap (λ (n : ℕ). unless (leb n words) 10 0 (behind r.cells r.header)) r.is_need

  reads-enough : (a : ℕ) (r : Read10 a) (words : ℕ) → a ≤ words → read_texts (alone paired library ch words) ≡ behind r.cells r.header
  unfolding unless
  reads-enough a r words h = cc (reads_are a r words, is_true (leb a words) (le→leb a words h))

  reads_short : (a : ℕ) (r : Read10 a) (words : ℕ) → words < a → read_texts (alone paired library ch words) ≡ fault 10 0
  unfolding unless
  reads_short a r words h = reads_are a r words ∙ ap (λ (b : Bool). unless b 10 0 (behind r.cells r.header)) (lacks (leb a words) leb_yes)
    where
      lacks : (b : Bool) → (T b → a ≤ words) → b ≡ false
      lacks true y = absurd (let z : a ≤ words = y tt in omega arith)
      lacks false y = refl

  -- a refusal tried before 10 is the call's, whatever number of words is lent
  alone-early : (n k : ℕ) → need_of paired library ch ≡ fault n k → (words : ℕ) → map_texts (alone paired library ch words) ≡ refused n k
  unfolding map_texts map_design need_of read_texts next unless other
  alone-early n k e words = ap (map_design ch.bytes) (go (short (alone paired library ch 0)) (read_listed paired library) (read_header ch.graph) e)
    where
      with_memory : List Cell → Header → Read Design
      with_memory cells h = unless (leb (need h.size h.outputs) words) 10 0 (behind cells h)

      go : (b : Bool) (l : Read (List Cell)) (h : Read Header) → unless b 1 0 (next l (λ _. next h (λ (x : Header). holds (need x.size x.outputs)))) ≡ fault n k
          → unless b 1 0 (next l (λ cells. next h (with_memory cells))) ≡ fault n k
      go false l h q = ap other q
      go true (fault m j) h q = ap other q
      go true (holds cells) (fault m j) q = ap other q
      go true (holds cells) (holds h) q = absurd (fault_never (sym q))

  abbrev Early : ℕ → ℕ → Type 0
  Early n k = (tried_early n ≡ true) × (¬ (n ≡ 10))

  alone-tried : (n k : ℕ) → need_of paired library ch ≡ fault n k → Early n k
  unfolding need_of
  alone-tried =
      let faults = in_unless Early (short (alone paired library ch 0)) 1 0 _ (λ _. (refl, λ q. omega arith))
      (in_next Early (read_listed paired library) _ (listed_faults Early (refl, λ q. omega arith) (λ _. (refl, λ q. omega arith))
      (λ _. (refl, λ q. omega arith)) (λ _. (refl, λ q. omega arith)) (λ _. (refl, λ q. omega arith)) (λ _. (refl, λ q. omega arith))
      (refl, λ q. omega arith) paired library) (λ cells _. in_next Early (read_header ch.graph) (λ h. holds (need h.size h.outputs))
      (header_faults Early (refl, λ q. omega arith) (refl, λ q. omega arith) (refl, λ q. omega arith) (refl, λ q. omega arith) ch.graph)
      (λ h _. in_holds Early (need h.size h.outputs)))) in
      faults.has

  abbrev InputArrival10 : ℕ → ℕ → Type 0
  InputArrival10 n k = tried_early n ≡ false

  design-input-arrival : (r : Read Design) → Faults InputArrival10 r → Refusal InputArrival10 (map_design ch.bytes r)
  unfolding map_design
  design-input-arrival (holds d) f =
      within-refusal InputArrival10 (λ _. refl) ch.bytes (followed d.ranged d.cells d.graph (map_graph d.listed d.cells d.graph))
      (followed-refusal InputArrival10 d.ranged d.cells d.graph (map_graph d.listed d.cells d.graph) (map-refusal InputArrival10 d.listed d.cells d.graph (λ _ _. refl) (λ _. refl) (λ _. refl)))
  design-input-arrival (fault n k) f = f.has n k refl

  -- with words enough no refusal tried up to 10 comes
  alone_late : (a : ℕ) → need_of paired library ch ≡ holds a → (words : ℕ) → a ≤ words → (n k : ℕ) → map_texts (alone paired library ch words) ≡ refused n k → tried_early n ≡ false
  unfolding map_texts
  alone_late a e words h n k q = subst (Refusal InputArrival10) (ap (map_design ch.bytes) (sym (reads-enough a (read_10 a e) words h)) ∙ q)
      (design-input-arrival (behind (read_10 a e).cells (read_10 a e).header) (in_next InputArrival10 (read_graph ch.graph (read_10 a e).header) _
      (graph_faults InputArrival10 (λ _. refl) (λ _. refl) (λ _. refl) (λ _. refl) (λ _. refl) (λ _. refl) ch.graph (read_10 a e).header)
      (λ g _. in_next InputArrival10 (read_arrivals (read_10 a e).header.inputs ch.arrivals)
      (λ es. holds (design_of (alone paired library ch 0) (read_10 a e).cells (timed_by g es)))
      (arrivals_faults InputArrival10 (λ _. refl) (λ _. refl) (read_10 a e).header.inputs ch.arrivals)
      (λ es _. in_holds InputArrival10 (design_of (alone paired library ch 0) (read_10 a e).cells (timed_by g es))))))

  alone-ten : (a : ℕ) → need_of paired library ch ≡ holds a → (words : ℕ) → (map_texts (alone paired library ch words) ≡ refused 10 0) ↔ (words < a)
  unfolding map_texts map_design
  alone-ten a e words =
      ((λ q. lacks (leb a words) leb_yes leb_no q), (λ h. ap (map_design ch.bytes) (reads_short a (read_10 a e) words h)))
    where
      lacks : (b : Bool) → (T b → a ≤ words) → (T (not b) → words < a) → map_texts (alone paired library ch words) ≡ refused 10 0 → words < a
      lacks true y z q = absurd (false≢true (sym (alone_late a e words (y tt) 10 0 q)))
      lacks false y z q = z tt

  -- words beyond the need change no outcome
  alone-beyond : (a : ℕ) → need_of paired library ch ≡ holds a → (words : ℕ) → a ≤ words → map_texts (alone paired library ch words) ≡ map_texts (alone paired library ch a)
  unfolding map_texts
  alone-beyond a e words h = let r = read_10 a e in ap (map_design ch.bytes) (reads-enough a r words h ∙ sym (reads-enough a r a (le_refl a)))

pub channel_alone : (paired : Bool) (library : List ℕ) (ch : Channel) → Alone paired library ch
channel_alone paired library ch = record {
  early = alone-early paired library ch;
  tried = alone-tried paired library ch;
  ten = alone-ten paired library ch;
  input_arrival = alone_late paired library ch;
  beyond = alone-beyond paired library ch;
}

-- ---- both channels

-- where neither has a refusal tried up to 10, the needs are each channel's own
neither_needs : (c : TwoCall) (e : Neither c) → needs_of c ≡ holds (record { first = e.first; second = e.second })
unfolding needs_of next unless
neither_needs c e = cc
    (e.needs_first, e.needs_second, is_true (leb (e.first + e.second) c.words) (le→leb (e.first + e.second) c.words e.enough))

-- and it is so wherever there are needs
needs_neither : (c : TwoCall) (n : Needs) → needs_of c ≡ holds n → Neither c
unfolding needs_of
needs_neither c n e =
    let a = next_out (need_of c.paired c.library c.first) _ n e in
    let b = next_out (need_of c.paired c.library c.second) _ n a.2 in
    let f = unless_out (leb (a.0 + b.0) c.words) 10 0 (holds (record { first = a.0; second = b.0 })) n b.2 in
    record { first = a.0; second = b.0; needs_first = a.1; needs_second = b.1; enough = leb_yes f.0 }

-- the outcomes then
neither_outcomes : (c : TwoCall) (e : Neither c)
    → map_two c ≡ record { first = map_texts (alone c.paired c.library c.first e.first); second = map_texts (alone c.paired c.library c.second e.second) }
unfolding map_two map_needs
neither_outcomes c e = ap (map_needs c) (neither_needs c e)

pub together-refused : (c : TwoCall) → TogetherRefused c
unfolding map_two map_needs needs_of next unless
together-refused c =
    let with_memory : ℕ → ℕ → Read Needs = λ a b. unless (leb (a + b) c.words) 10 0 (holds (record { first = a; second = b })) in
    let behind_first : ℕ → Read Needs = λ a. next (need_of c.paired c.library c.second) (with_memory a) in
    record {
      first = λ n k e. ap (λ (r : Read ℕ). map_needs c (next r behind_first)) e;
      second = λ a n k d e. ap (λ (r : Read ℕ). map_needs c (next r behind_first)) d ∙ ap (λ (r : Read ℕ). map_needs c (next r (with_memory a))) e;
      ten = λ a b d e h.
          ap (λ (r : Read ℕ). map_needs c (next r behind_first)) d ∙ ap (λ (r : Read ℕ). map_needs c (next r (with_memory a))) e
          ∙ ap (λ (x : Bool). map_needs c (unless x 10 0 (holds (record { first = a; second = b })))) (lacks (a + b) h (leb (a + b) c.words) leb_yes);
    }
  where
    lacks : (s : ℕ) → c.words < s → (b : Bool) → (T b → s ≤ c.words) → b ≡ false
    lacks s h true y = absurd (let z : s ≤ c.words = y tt in omega arith)
    lacks s h false y = refl

-- ---- independence

first_alone : (c : TwoCall) (e : Neither c) (words : ℕ) → e.first ≤ words → (map_two c).first ≡ map_texts (alone c.paired c.library c.first words)
first_alone c e words h = ap (λ (o : Outcomes). o.first) (neither_outcomes c e) ∙ sym (alone-beyond c.paired c.library c.first e.first e.needs_first words h)

second-alone : (c : TwoCall) (e : Neither c) (words : ℕ) → e.second ≤ words → (map_two c).second ≡ map_texts (alone c.paired c.library c.second words)
second-alone c e words h = ap (λ (o : Outcomes). o.second) (neither_outcomes c e) ∙ sym (alone-beyond c.paired c.library c.second e.second e.needs_second words h)

-- work memory by an outcome that is refused early, or is not
module _ (work : List ℕ) where
  kept-early : (n k : ℕ) → tried_early n ≡ true → work ≡ work_after (refused n k) work
  unfolding work_after
  kept-early n k e = ap (λ (b : Bool). cond b work (replicate (length work) 0)) (sym e)

  cleared_input-arrival : (paired : Bool) (library : List ℕ) (ch : Channel) (a : ℕ) → need_of paired library ch ≡ holds a → replicate (length work) 0 ≡ work_after (map_texts (alone paired library ch a)) work
  cleared_input-arrival paired library ch a e = go (map_texts (alone paired library ch a)) refl
    where
      go : (o : Outcome) → map_texts (alone paired library ch a) ≡ o → replicate (length work) 0 ≡ work_after o work
      go (refused n k) q = unfold work_after in ap (λ (b : Bool). cond b work (replicate (length work) 0)) (sym (alone_late paired library ch a e a (le_refl a) n k q))
      go (mapped t f) q = unfold work_after in refl

-- the refusals of the needs are tried up to 10
needs-tried : (c : TwoCall) (n k : ℕ) → needs_of c ≡ fault n k → tried_early n ≡ true
unfolding needs_of
needs-tried c =
    let Tried : ℕ → ℕ → Type 0 = λ n k. tried_early n ≡ true in
    let faults : Faults Tried (needs_of c) = in_next Tried (need_of c.paired c.library c.first) _
    (record { has = λ n k e. (alone-tried c.paired c.library c.first n k e).0 }) (λ a _.
    in_next Tried (need_of c.paired c.library c.second) _
    (record { has = λ n k e. (alone-tried c.paired c.library c.second n k e).0 }) (λ b _.
    in_unless Tried (leb (a + b) c.words) 10 0 (holds (record { first = a; second = b })) (λ _. refl)
    (in_holds Tried (record { first = a; second = b })))) in
    faults.has

works : (c : TwoCall) (work : List ℕ) → (two_work_after (needs_of c) work ≡ work_after (map_two c).first work) × (two_work_after (needs_of c) work ≡ work_after (map_two c).second work)
works c work = by_read (needs_of c) (λ e p. let e = needs_neither c e p in let l : two_work_after (needs_of c) work ≡ replicate
    (length work) 0 = ap (λ (r : Read Needs). two_work_after r work) p ∙ (unfold two_work_after in refl) in let o = neither_outcomes c e in (
      l
          ∙ cleared_input-arrival work c.paired c.library c.first e.first e.needs_first
          ∙ ap (λ (x : Outcomes). work_after x.first work) (sym o),
      l
          ∙ cleared_input-arrival work c.paired c.library c.second e.second e.needs_second
          ∙ ap (λ (x : Outcomes). work_after x.second work) (sym o),
    )) (λ n k q.
    let l : two_work_after (needs_of c) work ≡ work = ap (λ (r : Read Needs). two_work_after r work) q ∙ (unfold two_work_after in refl) in
    let o : map_two c ≡ record { first = refused n k; second = refused n k } = unfold map_two map_needs in ap (map_needs c) q in
    let t = kept-early work n k (needs-tried c n k q) in
    (l ∙ t ∙ ap (λ (x : Outcomes). work_after x.first work) (sym o), l ∙ t ∙ ap (λ (x : Outcomes). work_after x.second work) (sym o)))

-- "A channel's netlist or refusal depends on the library, its own graph, arrivals and text length, and nothing of the other's"
pub independent : (c : TwoCall) → Independent c
independent c = record {
  first = first_alone c;
  second = second-alone c;
  first_kept = λ e d f w l h.
      let m = e.first + f.first in
      first_alone c e m (let q : e.first ≤ e.first + f.first = omega arith in q) ∙ ap (λ (b : Bool). map_texts (alone b c.library c.first m)) w ∙ ap₂ (λ (s : List ℕ) (x : Channel). map_texts (alone d.paired s x m)) l h
      ∙ sym (first_alone d f m (let q : f.first ≤ e.first + f.first = omega arith in q));
  second_kept = λ e d f w l h.
      let m = e.second + f.second in
      second-alone c e m (let q : e.second ≤ e.second + f.second = omega arith in q) ∙ ap (λ (b : Bool). map_texts (alone b c.library c.second m)) w ∙ ap₂ (λ (s : List ℕ) (x : Channel). map_texts (alone d.paired s x m)) l h
      ∙ sym (second-alone d f m (let q : f.second ≤ e.second + f.second = omega arith in q));
  works_first = λ work. (works c work).0;
  works_second = λ work. (works c work).1;
}

-- ---- the demands

-- a printed netlist fits
within-fits : (bytes : ℕ) (o : Outcome) → Fits (answer_of (within bytes o)) bytes
unfolding within answer_of
within-fits bytes (refused n k) = tt
within-fits bytes (mapped t f) = by_bool (leb (length t) bytes) (λ e. rw e ((rw e at (leb→le (length t) bytes)) tt)) (λ q. rw q tt)

pub texts-fit : (c : Call) → Fits (answer_of (map_texts c)) c.bytes
unfolding map_texts map_design
texts-fit c = by_read (read_texts c)
    (λ d e. rw e (within-fits c.bytes (followed d.ranged d.cells d.graph (map_graph d.listed d.cells d.graph))))
    (λ n k q. rw q (unfold answer_of in tt))

pub promised : (c : Call) → Promised c
promised c = record {
  refusals = demand_refusals c;
  fits = texts-fit c;
  left = memory-left (map_texts c) c.bytes (texts-fit c);
  values = demand_values c;
  earliest = earliest_by_data c;
  ascii_forms = demand_ascii_forms c;
  sequenced = demand_sequenced c;
  ends = demand_ends c;
  untimed = demand_untimed c;
  listed = texts-listed c;
  former = demand_former c;
  shuffles = demand_shuffles c;
}

-- a channel is mapped only where neither has a refusal tried up to 10
first-mapped : (c : TwoCall) (t : List ℕ) (f : Figures) → (map_two c).first ≡ mapped t f → Neither c
unfolding map_two map_needs
first-mapped c t f = λ x. by_read (needs_of c) (λ e p. needs_neither c e p) (λ n k q. absurd (refused_never (rw q at x)))

second-mapped : (c : TwoCall) (t : List ℕ) (f : Figures) → (map_two c).second ≡ mapped t f → Neither c
unfolding map_two map_needs
second-mapped c t f = λ x. by_read (needs_of c) (λ e p. needs_neither c e p) (λ n k q. absurd (refused_never (rw q at x)))

-- with all the lent words
first-whole : (c : TwoCall) → Neither c → (map_two c).first ≡ map_texts (alone c.paired c.library c.first c.words)
first-whole c e = first_alone c e c.words (let q : e.first + e.second ≤ c.words = e.enough in omega arith)

second-whole : (c : TwoCall) → Neither c → (map_two c).second ≡ map_texts (alone c.paired c.library c.second c.words)
second-whole c e = second-alone c e c.words (let q : e.first + e.second ≤ c.words = e.enough in omega arith)

-- "What is promised of one netlist holds for each; the promise on when mapping is refused, where neither has a refusal tried up to 10."
pub demand_each : (c : TwoCall) → Each c
demand_each c = record {
  first = promised (alone c.paired c.library c.first c.words);
  second = promised (alone c.paired c.library c.second c.words);
  printed_first = λ t f q. sym (first-whole c (first-mapped c t f q)) ∙ q;
  printed_second = λ t f q. sym (second-whole c (second-mapped c t f q)) ∙ q;
  decided_first = λ e d p. rw (first-whole c e) (decided_by_data (alone c.paired c.library c.first c.words) d p);
  decided_second = λ e d p. rw (second-whole c e) (decided_by_data (alone c.paired c.library c.second c.words) d p);
}

-- ---- texts that mean the same graph, and texts alike but for line ends

-- a call's refusal with another place, or its netlist
record SameAlone (pa pb : Bool) (l m : List ℕ) (a b : Channel) : Type 0 where
  refusal : (words n k : ℕ) → map_texts (alone pa l a words) ≡ refused n k → (j : ℕ) × (map_texts (alone pb m b words) ≡ refused n j)
  netlist : (words : ℕ) (t : List ℕ) (f : Figures) → map_texts (alone pa l a words) ≡ mapped t f → map_texts (alone pb m b words) ≡ mapped t f

-- two channels whose calls alone come to the same, whatever number of words is lent, need as many words
module _ (pa pb : Bool) (l m : List ℕ) (a b : Channel) (alike : SameAlone pa pb l m a b) where
  -- where the one's words are enough, the other has no refusal tried up to 10
  not-early : (x : ℕ) → need_of pa l a ≡ holds x → (words : ℕ) → x ≤ words → (n k : ℕ) → map_texts (alone pb m b words) ≡ refused n k → tried_early n ≡ false
  unfolding returned_by
  not-early x e words h n k q = go (map_texts (alone pa l a words)) refl
    where
      go : (o : Outcome) → map_texts (alone pa l a words) ≡ o → tried_early n ≡ false
      go (refused i j) p = subst (λ (y : ℕ). tried_early y ≡ false)
          (ap (λ (o : Outcome). (returned_by o).number) (sym (alike.refusal words i j p).1 ∙ q)) (alone_late pa l a x e words h i j p)
      go (mapped t f) p = absurd (refused_never (sym q ∙ alike.netlist words t f p))

  same-need : (x : ℕ) → need_of pa l a ≡ holds x → need_of pb m b ≡ holds x
  same-need x e = by_read (need_of pb m b) (λ y p. let h : y ≤ x = up y p (leb y x) leb_yes leb_no in let g : x ≤ y = down y p
      (leb x y) leb_yes leb_no in let s : y ≡ x = omega arith in p ∙ ap holds s)
      (λ n k q. absurd (false≢true (sym (not-early x e x (le_refl x) n k (alone-early pb m b n k q x)) ∙ (alone-tried pb m b n k q).0)))
    where
      up : (y : ℕ) → need_of pb m b ≡ holds y → (t : Bool) → (T t → y ≤ x) → (T (not t) → x < y) → y ≤ x
      up y q true h g = h tt
      up y q false h g = absurd (false≢true (sym (not-early x e x (le_refl x) 10 0 ((alone-ten pb m b y q x).1 (g tt)))))

      down : (y : ℕ) → need_of pb m b ≡ holds y → (t : Bool) → (T t → x ≤ y) → (T (not t) → y < x) → x ≤ y
      down y q true h g = h tt
      down y q false h g =
          let r = alike.refusal y 10 0 ((alone-ten pa l a x e y).1 (g tt)) in
          absurd (false≢true (sym (alone_late pb m b y q y (le_refl y) 10 r.0 r.1)))

-- calls that come to the same, refusals' places too
same_alike : (pa : Bool) (l : List ℕ) (a b : Channel) → ((words : ℕ) → map_texts (alone pa l a words) ≡ map_texts (alone pa l b words)) → SameAlone pa pa l l a b
same_alike pa l a b h = record { refusal = λ words n k q. (k, sym (h words) ∙ q); netlist = λ words t f q. sym (h words) ∙ q }

fault_of : Outcome → Read ℕ
fault_of (refused n k) = fault n k
fault_of (mapped t f) = fault 0 0

same-needs : (pa : Bool) (l : List ℕ) (a b : Channel) → ((words : ℕ) → map_texts (alone pa l a words) ≡ map_texts (alone pa l b words)) → need_of pa l a ≡ need_of pa l b
unfolding fault_of
same-needs pa l a b h = by_read (need_of pa l a) (λ x q. q ∙ sym (same-need pa pa l l a b (same_alike pa l a b h) x q)) (λ n k e. by_read
    (need_of pa l b) (λ y p. same-need pa pa l l b a (same_alike pa l b a (λ words. sym (h words))) y p ∙ sym p)
    (λ i j r. e ∙ ap fault_of (sym (alone-early pa l a n k e 0) ∙ h 0 ∙ alone-early pa l b i j r 0) ∙ sym r))

ascii-alone : (pa : Bool) (l : List ℕ) (ch : Channel) (t : List ℕ) (g : Graph) → Means ch.graph g → Means t g → (words : ℕ) → map_texts (alone pa l (on_text ch t) words) ≡ map_texts (alone pa l ch words)
ascii-alone pa l ch t g m n words = (demand_ascii_forms (alone pa l ch words)).same t g m n

pub demand_ascii_channels : (c : TwoCall) → AsciiChannels c
unfolding map_two map_needs needs_of
demand_ascii_channels c = record {
  first = λ t g m n.
      let h = ascii-alone c.paired c.library c.first t g m n in
      ap (λ (r : Read ℕ). map_needs (first_on t) (next r (λ a. next (need_of c.paired c.library c.second) (with_memory a)))) (same-needs c.paired c.library (on_text c.first t) c.first h)
      ∙ (by_read (needs_of c) (λ q p. rw p
      (ap (λ (o : Outcome). record { first = o; second = map_texts (alone c.paired c.library c.second q.second) }) (h q.first)))
      (λ n k e. rw e));
  second = λ t g m n.
      let h = ascii-alone c.paired c.library c.second t g m n in
      ap (λ (r : Read ℕ). map_needs (second_on t) (next (need_of c.paired c.library c.first) (λ a. next r (with_memory a)))) (same-needs c.paired c.library (on_text c.second t) c.second h)
      ∙ (by_read (needs_of c) (λ q p. rw p
      (ap (λ (o : Outcome). record { first = map_texts (alone c.paired c.library c.first q.first); second = o }) (h q.second)))
      (λ n k e. rw e));
}
  where
    with_memory : ℕ → ℕ → Read Needs
    with_memory a b = unless (leb (a + b) c.words) 10 0 (holds (record { first = a; second = b }))

    first_on : List ℕ → TwoCall
    first_on t = record { paired = c.paired; library = c.library; words = c.words; first = on_text c.first t; second = c.second }

    second_on : List ℕ → TwoCall
    second_on t = record { paired = c.paired; library = c.library; words = c.words; first = c.first; second = on_text c.second t }

-- texts alike but for line ends are so with any number of words
with_words : (pa pb : Bool) (l m : List ℕ) (a b : Channel) (v w words : ℕ) → AlikeTexts (alone pa l a v) (alone pb m b w) → AlikeTexts (alone pa l a words) (alone pb m b words)
with_words pa pb l m a b v w words e = record {
  paired = e.paired;
  libraries = e.libraries;
  graphs = e.graphs;
  arrivals = e.arrivals;
  binary = e.binary;
  words = refl;
  bytes = e.bytes;
  short = record { library = e.short.library; graph = e.short.graph; arrivals = e.short.arrivals };
  short_too = record { library = e.short_too.library; graph = e.short_too.graph; arrivals = e.short_too.arrivals };
}

ends-alike : (pa pb : Bool) (l m : List ℕ) (a b : Channel) (v w : ℕ) → AlikeTexts (alone pa l a v) (alone pb m b w) → SameAlone pa pb l m a b
ends-alike pa pb l m a b v w e = record {
  refusal = λ words. (demand_ends (alone pa l a words) (alone pb m b words) (with_words pa pb l m a b v w words e)).refusal;
  netlist = λ words. (demand_ends (alone pa l a words) (alone pb m b words) (with_words pa pb l m a b v w words e)).printed;
}

neither_alike : (c d : TwoCall) → AlikeChannels c d → Neither c → Neither d
neither_alike c d s e = record {
  first = e.first;
  second = e.second;
  needs_first = same-need c.paired d.paired c.library d.library c.first d.first (ends-alike c.paired d.paired c.library d.library c.first d.first c.words d.words s.first) e.first e.needs_first;
  needs_second = same-need c.paired d.paired c.library d.library c.second d.second (ends-alike c.paired d.paired c.library d.library c.second d.second c.words d.words s.second) e.second e.needs_second;
  enough = subst (λ (w : ℕ). e.first + e.second ≤ w) s.first.words e.enough;
}

-- a refusal tried before 10 of the one is the other's, by the same number
fault-alike : (pa pb : Bool) (l m : List ℕ) (a b : Channel) → SameAlone pa pb l m a b → (n k : ℕ) → need_of pa l a ≡ fault n k → (j : ℕ) × (need_of pb m b ≡ fault n j)
unfolding returned_by
fault-alike pa pb l m a b alike n k e = go (need_of pb m b) refl
  where
    go : (r : Read ℕ) → need_of pb m b ≡ r → (j : ℕ) × (need_of pb m b ≡ fault n j)
    go (holds x) p =
        let r = alike.refusal x n k (alone-early pa l a n k e x) in
        absurd (false≢true (sym (alone_late pb m b x p x (le_refl x) n r.0 r.1) ∙ (alone-tried pa l a n k e).0))
    go (fault i j) p =
        (j, p ∙ ap (λ (x : ℕ). fault x j) (cc (alone-early pb m b i j p 0, (alike.refusal 0 n k (alone-early pa l a n k e 0)).1)))

-- both calls have a refusal tried up to 10, by the same number
record BothRefused (c d : TwoCall) : Type 0 where
  number : ℕ
  here : ℕ
  there : ℕ
  is_here : map_two c ≡ record { first = refused number here; second = refused number here }
  is_there : map_two d ≡ record { first = refused number there; second = refused number there }

-- or neither has one
alike_either : (c d : TwoCall) → AlikeChannels c d → Neither c ⊎ BothRefused c d
alike_either c d s = first (need_of c.paired c.library c.first) refl
  where
    alike_first : SameAlone c.paired d.paired c.library d.library c.first d.first
    alike_first = ends-alike c.paired d.paired c.library d.library c.first d.first c.words d.words s.first

    alike_second : SameAlone c.paired d.paired c.library d.library c.second d.second
    alike_second = ends-alike c.paired d.paired c.library d.library c.second d.second c.words d.words s.second

    need_first : (a : ℕ) → need_of c.paired c.library c.first ≡ holds a → need_of d.paired d.library d.first ≡ holds a
    need_first = same-need c.paired d.paired c.library d.library c.first d.first alike_first

    need_second : (a : ℕ) → need_of c.paired c.library c.second ≡ holds a → need_of d.paired d.library d.second ≡ holds a
    need_second = same-need c.paired d.paired c.library d.library c.second d.second alike_second

    with_memory : (a b : ℕ) → need_of c.paired c.library c.first ≡ holds a → need_of c.paired c.library c.second ≡ holds b → Neither c ⊎ BothRefused c d
    with_memory a b p q = elim (dec_le (a + b) c.words) [
      | yes le ↦ inl (record { first = a; second = b; needs_first = p; needs_second = q; enough = le })
      | no lt ↦
          let h : c.words < a + b = lt_of_not-le lt in
          inr (record {
            number = 10;
            here = 0;
            there = 0;
            is_here = (together-refused c).ten a b p q h;
            is_there = (together-refused d).ten a b (need_first a p) (need_second b q) (subst (λ (w : ℕ). w < a + b) s.first.words h);
          })
    ]

    second : (a : ℕ) → need_of c.paired c.library c.first ≡ holds a → (r : Read ℕ) → need_of c.paired c.library c.second ≡ r → Neither c ⊎ BothRefused c d
    second a p (holds b) q = with_memory a b p q
    second a p (fault n k) q =
        let f = fault-alike c.paired d.paired c.library d.library c.second d.second alike_second n k q in
        inr (record { number = n; here = k; there = f.0; is_here = (together-refused c).second a n k p q; is_there = (together-refused d).second a n f.0 (need_first a p) f.1 })

    first : (r : Read ℕ) → need_of c.paired c.library c.first ≡ r → Neither c ⊎ BothRefused c d
    first (holds a) p = second a p (need_of c.paired c.library c.second) refl
    first (fault n k) p =
        let f = fault-alike c.paired d.paired c.library d.library c.first d.first alike_first n k p in
        inr (record { number = n; here = k; there = f.0; is_here = (together-refused c).first n k p; is_there = (together-refused d).first n f.0 f.1 })

-- in either channel
refused-alike : (c d : TwoCall) (channel : Outcomes → Outcome) → ((m j : ℕ) → channel (record { first = refused m j; second = refused m j }) ≡ refused m j)
    → (n k : ℕ) → channel (map_two c) ≡ refused n k → BothRefused c d → (j : ℕ) × (channel (map_two d) ≡ refused n j)
unfolding returned_by
refused-alike c d channel same n k q b =
    let s : b.number ≡ n = ap (λ (o : Outcome). (returned_by o).number) (sym (same b.number b.here) ∙ sym (ap channel b.is_here) ∙ q) in
    (b.there, ap channel b.is_there ∙ same b.number b.there ∙ ap (λ (x : ℕ). refused x b.there) s)

-- "Texts alike but for line ends, each within the length in 1, give the same netlist."
pub demand_ends-two : (c : TwoCall) → EitherEndTwo c
demand_ends-two c = record {
  first = λ d s t f q. let e = first-mapped c t f q in first-whole d (neither_alike c d s e)
      ∙ (demand_ends (alone c.paired c.library c.first c.words) (alone d.paired d.library d.first d.words)
      s.first).printed t f (sym (first-whole c e) ∙ q);
  second = λ d s t f q. let e = second-mapped c t f q in second-whole d (neither_alike c d s e)
      ∙ (demand_ends (alone c.paired c.library c.second c.words) (alone d.paired d.library d.second d.words)
      s.second).printed t f (sym (second-whole c e) ∙ q);
  refused_first = λ d s n k q. let whole : Neither c → (j : ℕ) × ((map_two d).first ≡ refused n j) = λ e. let r = (demand_ends
      (alone c.paired c.library c.first c.words) (alone d.paired d.library d.first d.words)
      s.first).refusal n k (sym (first-whole c e) ∙ q) in (r.0, first-whole d (neither_alike c d s e) ∙ r.1) in ⊎_elim whole
      (λ b. refused-alike c d (λ o. o.first) (λ m j. refl) n k q b) (alike_either c d s);
  refused_second = λ d s n k q. let whole : Neither c → (j : ℕ) × ((map_two d).second ≡ refused n j) = λ e. let r = (demand_ends
      (alone c.paired c.library c.second c.words) (alone d.paired d.library d.second d.words)
      s.second).refusal n k (sym (second-whole c e) ∙ q) in (r.0, second-whole d (neither_alike c d s e) ∙ r.1) in ⊎_elim whole
      (λ b. refused-alike c d (λ o. o.second) (λ m j. refl) n k q b) (alike_either c d s);
}

-- ---- the whole

-- each netlist is no longer than its text memory
two-fit : (c : TwoCall) → Fits (answers_of (map_two c)).first c.first.bytes × Fits (answers_of (map_two c)).second c.second.bytes
unfolding map_two map_needs answers_of
two-fit c = by_read (needs_of c) (λ q p. rw p
    (texts-fit (alone c.paired c.library c.first q.first), texts-fit (alone c.paired c.library c.second q.second)))
    (λ n k e. rw e (unfold answer_of in (tt, tt)))

pub two-promised : (c : TwoCall) → TwoPromised c
unfolding answers_of
two-promised c = record {
  together = together-refused c;
  independent = independent c;
  alone_first = channel_alone c.paired c.library c.first;
  alone_second = channel_alone c.paired c.library c.second;
  each = demand_each c;
  fits_first = (two-fit c).0;
  fits_second = (two-fit c).1;
  left_first = memory-left (map_two c).first c.first.bytes (two-fit c).0;
  left_second = memory-left (map_two c).second c.second.bytes (two-fit c).1;
  ascii_forms = demand_ascii_channels c;
  ends = demand_ends-two c;
}
