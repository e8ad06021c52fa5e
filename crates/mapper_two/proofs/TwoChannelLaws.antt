-- The whole call for two channels: refusal 1 and the library's, and what comes behind; demand 1.
use Rattle.std.specs.Prelude.{Ok, Result}
use Rattle.model.specs.declared.Refusal.{Refusal}
use Rattle.base.specs.{ℕ, ◌+◌, ◌≤◌, le_refl, arith, ◌≡◌, refl, sym, ◌∙◌, ap, ap₂, subst, Bool, true, false, ◌&&◌, List, T, leb, leb→le}
use Rattle.base.specs.{le→leb, length}
use Rattle.model.specs.{need, Read, holds, fault, next, unless, cells_of, library_of, library_answer, read_library, is_ranged, cells_for, refused_with}
use Rattle.model.specs.{read_header, read_graph, read_arrivals, timed_by, Outcome, refused, Design, short, read_listed, read_texts, map_design}
use Rattle.model.specs.{map_texts, answer_of, returned, text_after, Channel, TwoCall, channel_of, two_call_of, alone, need_of, Needs, needs_of}
use Rattle.model.specs.{Outcomes, map_needs, map_two, answers_of, two_work_after}
use Rattle.model.specs.declared.Cell.{Cell}
use Rattle.model.specs.declared.Library.{Library}
use Rattle.model.specs.declared.Header.{Header}
use Rattle.model.specs.declared.Two.{Two}
use Rattle.model.proofs.{answer-returns, refusal_parts}
use Rattle.promises.specs.{Fits, TwoMemory, MappingTwo}
use Rattle.theory_text.proofs.{holds-once, unless_out, next_out}
use Rattle.theory_demands.proofs.{two-promised}
use Rattle.mapper.specs.{LibraryRead, all_of, graph_for}
use Rattle.mapper.proofs.{cells-back, library-read}
use Rattle.mapper_two.specs.{Heads, sum_for, second_for, first_for, pair_for, work_for, PairLeft, TwoLeft}
use Rattle.mapper_two.proofs.ChannelMemory.{pair_as}

-- with what is promised of every call it is all that the contract says
pub mapping_of : {paired : Bool} {library graph1 arrivals1 graph2 arrivals2 work text1 text2 : List ℕ} {answer : Two} {y u w : List ℕ}
    → TwoMemory (two_call_of paired library (channel_of graph1 arrivals1 text1) (channel_of graph2 arrivals2 text2) work) work text1 text2 answer y u w
    → MappingTwo paired library graph1 arrivals1 graph2 arrivals2 work text1 text2 answer y u w
mapping_of {paired = paired} {library = library} {graph1 = graph1} {arrivals1 = arrivals1} {graph2 = graph2} {arrivals2 = arrivals2} {work = work} {text1 = text1} {text2 = text2} m =
    let p = two-promised (two_call_of paired library (channel_of graph1 arrivals1 text1) (channel_of graph2 arrivals2 text2) work) in record {
      memory = m;
      fits_first = subst (λ (x : Two). Fits x.first (length text1)) (sym m.answers) p.fits_first;
      fits_second = subst (λ (x : Two). Fits x.second (length text2)) (sym m.answers) p.fits_second;
      promised = p;
    }

-- the needs of these headers
needs_in : Read Heads → Read Needs
needs_in (fault n k) = fault n k
needs_in (holds x) = holds (record { first = need x.first.size x.first.outputs; second = need x.second.size x.second.outputs })

module _ (paired : Bool) (library : List ℕ) (a b : Channel) (work first second : List ℕ) where
  abbrev call : TwoCall
  call = two_call_of paired library a b work

  -- what is left by a reading that the call comes to is what demand 1 asks
  of_pair_lem : (ranged : Bool) (lib : Library) (ids : List ℕ) (r : Read Heads) → needs_of call ≡ needs_in r → map_two call ≡ pair_for ranged lib ids a b r → (answer : Two) (y u w : List ℕ)
      → PairLeft ranged lib ids a b r work first second answer y u w → TwoMemory call work first second answer y u w
  unfolding answers_of
  of_pair_lem ranged lib ids r n o answer y u w l =
      let is : answer ≡ answers_of (map_two call) = l.answers ∙ ap answers_of (sym o) in
      record {
        answers = is;
        returns_first = ap (λ (x : Two). returned x.first) is ∙ answer-returns (map_two call).first;
        returns_second = ap (λ (x : Two). returned x.second) is ∙ answer-returns (map_two call).second;
        words = l.words ∙ works r ∙ ap (λ (x : Read Needs). two_work_after x work) (sym n);
        first_bytes = l.first_bytes ∙ ap (λ (x : Outcomes). text_after x.first first) (sym o);
        second_bytes = l.second_bytes ∙ ap (λ (x : Outcomes). text_after x.second second) (sym o);
      }
    where
      works : (x : Read Heads) → work_for x work ≡ two_work_after (needs_in x) work
      works (fault m k) = unfold work_for two_work_after needs_in in refl
      works (holds x) = unfold work_for two_work_after needs_in in refl

  -- a refusal of the first channel that is tried before its header's
  early : (n k : ℕ) → need_of paired library a ≡ fault n k → (answer : Two) → answer ≡ record { first = refused_with n k; second = refused_with n k }
      → TwoMemory call work first second answer work first second
  unfolding needs_of next map_two map_needs answers_of answer_of text_after two_work_after
  early n k e answer q =
      let d : needs_of call ≡ fault n k = ap (λ (r : Read ℕ). next r (λ x. next (need_of paired library b) (λ y. unless (leb (x + y) (length work)) 10 0 (holds (record { first = x; second = y }))))) e in
      let o : map_two call ≡ record { first = refused n k; second = refused n k } = ap (map_needs call) d in
      let is : answer ≡ answers_of (map_two call) = q ∙ ap answers_of (sym o) in
      record {
        answers = is;
        returns_first = ap (λ (x : Two). returned x.first) is ∙ answer-returns (map_two call).first;
        returns_second = ap (λ (x : Two). returned x.second) is ∙ answer-returns (map_two call).second;
        words = ap (λ (x : Read Needs). two_work_after x work) (sym d);
        first_bytes = ap (λ (x : Outcomes). text_after x.first first) (sym o);
        second_bytes = ap (λ (x : Outcomes). text_after x.second second) (sym o);
      }

  -- "A text is longer than 65,536 bytes": the library, or one of the first channel's
  pub long-text : (length library ≤ 65536 → length a.graph ≤ 65536 → length a.arrivals ≤ 65536 → ⊥) → (answer : Two) → answer ≡ record { first = refused_with 1 0; second = refused_with 1 0 }
      → TwoMemory call work first second answer work first second
  unfolding need_of unless
  long-text l = early 1 0 (go (leb (length library) 65536) (leb (length a.graph) 65536) (leb (length a.arrivals) 65536) (leb→le (length library) 65536) (leb→le (length a.graph) 65536) (leb→le (length a.arrivals) 65536))
    where
      go : (x y z : Bool) → (T x → length library ≤ 65536) → (T y → length a.graph ≤ 65536) → (T z → length a.arrivals ≤ 65536)
          → unless (x && (y && z)) 1 0 (next (read_listed paired library) (λ _. next (read_header a.graph) (λ h. holds (need h.size h.outputs)))) ≡ fault 1 0
      go true true true f g h = absurd (l (f tt) (g tt) (h tt))
      go true true false f g h = refl
      go true false z f g h = refl
      go false y z f g h = refl

  module _ (short_library : length library ≤ 65536) (short_graph : length a.graph ≤ 65536) (short_arrivals : length a.arrivals ≤ 65536) (l : Result Library Refusal) (answered : l ≡ library_answer (read_library library)) where
    needed : Read (List Cell) → Channel → Read ℕ
    needed r ch = next r (λ _. next (read_header ch.graph) (λ h. holds (need h.size h.outputs)))

    first-need : need_of paired library a ≡ needed (read_listed paired library) a
    unfolding need_of needed unless
    first-need =
        go (leb (length library) 65536) (leb (length a.graph) 65536) (leb (length a.arrivals) 65536) (le→leb (length library) 65536 short_library) (le→leb (length a.graph) 65536 short_graph) (le→leb (length a.arrivals) 65536 short_arrivals)
      where
        go : (x y z : Bool) → T x → T y → T z → unless (x && (y && z)) 1 0 (needed (read_listed paired library) a) ≡ needed (read_listed paired library) a
        go true true true f g h = refl
        go true true false f g h = absurd h
        go true false z f g h = absurd g
        go false y z f g h = absurd f

    second-need : need_of paired library b ≡ unless (leb (length b.graph) 65536 && leb (length b.arrivals) 65536) 1 0 (needed (read_listed paired library) b)
    unfolding need_of needed
    second-need =
        go (leb (length library) 65536) (le→leb (length library) 65536 short_library)
      where
        rest : Bool
        rest = leb (length b.graph) 65536 && leb (length b.arrivals) 65536

        go : (x : Bool) → T x → unless (x && rest) 1 0 (needed (read_listed paired library) b) ≡ unless rest 1 0 (needed (read_listed paired library) b)
        go true f = refl
        go false f = absurd f

    -- a refusal of the library, its pairs among them
    listed-stops : (n k : ℕ) → read_listed paired library ≡ fault n k → (answer : Two) → answer ≡ record { first = refused_with n k; second = refused_with n k } → TwoMemory call work first second answer work first second
    unfolding next needed
    listed-stops n k e = early n k (first-need ∙ ap (λ (r : Read (List Cell)). needed r a) e)

    -- 2 to 6 and 27
    pub library-stops : (n k : ℕ) → l ≡ refused_with n k → (answer : Two) → answer ≡ record { first = refused_with n k; second = refused_with n k } → TwoMemory call work first second answer work first second
    unfolding library_answer next read_listed
    library-stops n k e = go (read_library library) refl (sym answered ∙ e)
      where
        go : (r : Read (List Cell)) → read_library library ≡ r → library_answer r ≡ refused_with n k → (answer : Two) → answer ≡ record { first = refused_with n k; second = refused_with n k }
            → TwoMemory call work first second answer work first second
        go (holds cs) q z = absurd (let x : ◌≡◌ {A = ℕ} 0 1 = cc in omega arith)
        go (fault m j) q z =
            let x = (refusal_parts z).0 in let y = (refusal_parts z).1 in
            listed-stops n k (ap (λ (r : Read (List Cell)). next r (λ cells. unless (leb (length (cells_for paired cells)) 256) 30 0 (holds cells))) (q ∙ (λ i. fault (x i) (y i))))

    module _ (lib : Library) (ids : List ℕ) (is_listed : read_listed paired library ≡ holds (cells_of lib)) (are_cells : cells_for paired (cells_of lib) ≡ all_of lib ids) where
      -- a channel alone, once its texts are short and its header is read
      alone-is : (ch : Channel) → short (alone paired library ch 0) ≡ true → (h : Header) → read_header ch.graph ≡ holds h
          → map_texts (alone paired library ch (need h.size h.outputs)) ≡ graph_for (is_ranged library) lib ids ch.graph ch.arrivals h ch.bytes
      unfolding map_texts read_texts unless next graph_for
      alone-is ch s h e =
          ap (map_design ch.bytes)
          (ap (λ (x : Bool). unless x 1 0 (next (read_listed paired library) read)) s
          ∙ ap (λ (r : Read (List Cell)). next r read) is_listed
          ∙ ap (λ (r : Read Header). next r (with_memory (cells_for paired (cells_of lib)))) e
          ∙ ap (λ (x : Bool). unless x 10 0 (behind (cells_of lib) (cells_for paired (cells_of lib)) h)) (enough (leb words words) (le→leb words words (le_refl words)))
          ∙ ap (λ (cs : List Cell). behind (cells_of lib) cs h) are_cells)
        where
          words : ℕ
          words = need h.size h.outputs

          behind : List Cell → List Cell → Header → Read Design
          behind listed cells k =
              next (read_graph ch.graph k) (λ g. next (read_arrivals k.inputs ch.arrivals) (λ es. holds (record { listed = listed; cells = cells; ranged = is_ranged library; graph = timed_by g es })))

          with_memory : List Cell → Header → Read Design
          with_memory cells k = unless (leb (need k.size k.outputs) words) 10 0 (behind (cells_of lib) cells k)

          read : List Cell → Read Design
          read listed = next (read_header ch.graph) (λ k. unless (leb (need k.size k.outputs) words) 10 0 (behind listed (cells_for paired listed) k))

          enough : (x : Bool) → T x → x ≡ true
          enough true t = refl
          enough false t = absurd t

      -- the needs are those of the headers
      needs_are : needs_of call ≡ needs_in (first_for (length work) a b)
      unfolding needs_of needed first_for second_for sum_for needs_in next unless
      needs_are =
          ap₂ (λ (x y : Read ℕ). next x (λ p. next y (with_memory p))) (first-need ∙ ap (λ (r : Read (List Cell)). needed r a) is_listed) (second-need ∙ ap (λ (r : Read (List Cell)). unless rest 1 0 (needed r b)) is_listed)
          ∙ go (read_header a.graph) rest (read_header b.graph)
        where
          rest : Bool
          rest = leb (length b.graph) 65536 && leb (length b.arrivals) 65536

          with_memory : ℕ → ℕ → Read Needs
          with_memory p q = unless (leb (p + q) (length work)) 10 0 (holds (record { first = p; second = q }))

          both : Header → Header → Needs
          both h k = record { first = need h.size h.outputs; second = need k.size k.outputs }

          sum : (h k : Header) (x : Bool) → unless x 10 0 (holds (both h k)) ≡ needs_in (unless x 10 0 (holds (record { first = h; second = k })))
          sum h k true = refl
          sum h k false = refl

          go : (r : Read Header) (x : Bool) (s : Read Header)
              → next (next r (λ h. holds (need h.size h.outputs))) (λ p. next (unless x 1 0 (next s (λ h. holds (need h.size h.outputs)))) (with_memory p))
              ≡ needs_in (next r (λ h. unless x 1 0 (next s (sum_for (length work) h))))
          go (fault n k) x s = refl
          go (holds h) false s = refl
          go (holds h) true (fault n k) = refl
          go (holds h) true (holds k) = sum h k (leb (need h.size h.outputs + need k.size k.outputs) (length work))

      -- the first channel's texts are short, and where both headers are read the second's are
      first_short : short (alone paired library a 0) ≡ true
      first_short = go (leb (length library) 65536) (leb (length a.graph) 65536) (leb (length a.arrivals) 65536) (le→leb (length library) 65536 short_library) (le→leb (length a.graph) 65536 short_graph) (le→leb (length a.arrivals) 65536 short_arrivals)
        where
          go : (x y z : Bool) → T x → T y → T z → (x && (y && z)) ≡ true
          go true true true f g h = refl
          go true true false f g h = absurd h
          go true false z f g h = absurd g
          go false y z f g h = absurd f

      second_short : T (leb (length b.graph) 65536 && leb (length b.arrivals) 65536) → short (alone paired library b 0) ≡ true
      second_short t = go (leb (length library) 65536) (leb (length b.graph) 65536 && leb (length b.arrivals) 65536) (le→leb (length library) 65536 short_library) t
        where
          go : (x y : Bool) → T x → T y → (x && y) ≡ true
          go true true f g = refl
          go true false f g = absurd g
          go false y f g = absurd f

      -- and the outcomes are those of the passes
      outcomes_are : map_two call ≡ pair_for (is_ranged library) lib ids a b (first_for (length work) a b)
      unfolding map_two map_needs needs_in pair_for first_for second_for sum_for
      outcomes_are = ap (map_needs call) needs_are ∙ go (first_for (length work) a b) refl
        where
          go : (r : Read Heads) → first_for (length work) a b ≡ r → map_needs call (needs_in r) ≡ pair_for (is_ranged library) lib ids a b r
          go (fault n k) e = refl
          go (holds x) e =
              let f = next_out (read_header a.graph) (second_for (length work) b) x e in
              let s = unless_out (leb (length b.graph) 65536 && leb (length b.arrivals) 65536) 1 0 (next (read_header b.graph) (sum_for (length work) f.0)) x f.2 in
              let k = next_out (read_header b.graph) (sum_for (length work) f.0) x s.1 in
              let m = unless_out (leb (need f.0.size f.0.outputs + need k.0.size k.0.outputs) (length work)) 10 0 (holds (record { first = f.0; second = k.0 })) x k.2 in
              let is : ◌≡◌ {A = Heads} (record { first = f.0; second = k.0 }) x = holds-once m.1 in
              ap₂ (λ (o p : Outcome). record { first = o; second = p })
              (alone-is a first_short x.first (f.1 ∙ ap (λ (y : Heads). holds y.first) is))
              (alone-is b (second_short s.0) x.second (k.1 ∙ ap (λ (y : Heads). holds y.second) is))

    pub record IsRead (lib : Library) : Type 0 where
      pub ok : LibraryRead lib
      pub goes : (answer : Two) (y u w : List ℕ) → TwoLeft paired (is_ranged library) lib a b work first second answer y u w → TwoMemory call work first second answer y u w

    pub library-heard : (lib : Library) → l ≡ Ok lib → IsRead lib
    unfolding library_answer
    library-heard lib e = go (read_library library) refl (sym answered ∙ e)
      where
        from-left : read_library library ≡ holds (cells_of lib) → (answer : Two) (y u w : List ℕ) → TwoLeft paired (is_ranged library) lib a b work first second answer y u w
            → TwoMemory call work first second answer y u w
        from-left read answer y u w t = tested (leb (length (all_of lib t.ids)) 256) refl
          where
            listed-is : read_listed paired library ≡ unless (leb (length (all_of lib t.ids)) 256) 30 0 (holds (cells_of lib))
            listed-is = unfold read_listed next in
                ap (λ (r : Read (List Cell)). next r (λ cells. unless (leb (length (cells_for paired cells)) 256) 30 0 (holds cells))) read
                ∙ ap (λ (cs : List Cell). unless (leb (length cs) 256) 30 0 (holds (cells_of lib))) t.are_cells

            refused-left : read_listed paired library ≡ fault 30 0 → (answer : Two) (y u w : List ℕ) → PairLeft (is_ranged library) lib t.ids a b (fault 30 0) work first second answer y u w
                → TwoMemory call work first second answer y u w
            refused-left stops answer y u w p = unfold pair_for work_for answers_of answer_of text_after in
                subst (λ (v : List ℕ). TwoMemory call work first second answer y u v) (sym p.second_bytes)
                (subst (λ (v : List ℕ). TwoMemory call work first second answer y v second) (sym p.first_bytes)
                (subst (λ (v : List ℕ). TwoMemory call work first second answer v first second) (sym p.words) (listed-stops 30 0 stops answer p.answers)))

            tested : (x : Bool) → leb (length (all_of lib t.ids)) 256 ≡ x → TwoMemory call work first second answer y u w
            tested true e =
                let within : unless (leb (length (all_of lib t.ids)) 256) 30 0 (first_for (length work) a b) ≡ first_for (length work) a b =
                (unfold unless in ap (λ (x : Bool). unless x 30 0 (first_for (length work) a b)) e) in
                let is_listed : read_listed paired library ≡ holds (cells_of lib) = listed-is ∙ (unfold unless in ap (λ (x : Bool). unless x 30 0 (holds (cells_of lib))) e) in
                of_pair_lem (is_ranged library) lib t.ids (first_for (length work) a b) (needs_are lib t.ids is_listed t.are_cells) (outcomes_are lib t.ids is_listed t.are_cells) answer y u w
                (pair_as (sym within) t.left)
            tested false e =
                let stops : read_listed paired library ≡ fault 30 0 = listed-is ∙ (unfold unless in ap (λ (x : Bool). unless x 30 0 (holds (cells_of lib))) e) in
                let over : unless (leb (length (all_of lib t.ids)) 256) 30 0 (first_for (length work) a b) ≡ fault 30 0 =
                (unfold unless in ap (λ (x : Bool). unless x 30 0 (first_for (length work) a b)) e) in
                let left : PairLeft (is_ranged library) lib t.ids a b (fault 30 0) work first second answer y u w = pair_as (sym over) t.left in
                refused-left stops answer y u w left

        go : (r : Read (List Cell)) → read_library library ≡ r → library_answer r ≡ Ok lib → IsRead lib
        go (fault m j) q z = absurd (let x : ◌≡◌ {A = ℕ} 0 1 = cc in omega arith)
        go (holds cs) q z =
            let is : lib ≡ library_of cs = cc in
            let same : cells_of lib ≡ cs = ap cells_of is ∙ cells-back cs in
            record {
              ok = subst LibraryRead (sym is) (library-read library cs q);
              goes = λ answer y u w t. from-left (q ∙ ap holds (sym same)) answer y u w t;
            }
