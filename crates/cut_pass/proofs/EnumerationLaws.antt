-- What the cut layer answers and leaves, where the words represent an accepted graph and hold no cuts:
--     enumerate_ready             what it asks for
--     enumerate_verdict           its answer is `cuts_verdict`
--     enumerate_listed            without a refusal the words hold the cuts of `model` and their functions, and all else stays
--     enumerate_represents        the words go on representing the graph
use Rattle.std.specs.Prelude.{Ok}
use Rattle.base.specs.{◌≡◌, refl, sym, ap, ◌∙◌, subst, List, [], ◌∷◌, map, Memᴰ, ℕ, zero, suc, ◌+◌, ◌≤◌, ◌<◌, arith, length, get_or}
use Rattle.base.specs.{length-append, get_or-append-add}
use Rattle.model.specs.Graph.{Graph}
use Rattle.model.specs.{topological_order, cuts_of, cut_at, cut_table, cuts_verdict}
use Rattle.theory_graph.proofs.{cuts-none, length-order}
use Rattle.theory_order.proofs.{by_elem, split_at}
use Rattle.base_words.specs.{slot_at, position_at, count_at, lists_to, cuts_at, function_of}
use Rattle.base_words.proofs.{count-listed}
use Rattle.cut_lists.specs.RepresentedWords.{Represents}
use Rattle.cut_lists.specs.{Uncut}
use Rattle.cut_lists.proofs.{ListedSoFar, represents-kept, ready-listing, all-represented, verdict-model, cuts_of_lem}
use Rattle.cut_functions.proofs.{Under, under-cuts, under-sound, filled-under, filled-low, filled-above, filled-word, functions_of_lem}
use Rattle.cut_pass.specs.{Ready, enumerated}
use Rattle.cut_pass.specs.EnumeratedLists.{Listed}
use Rattle.cut_pass.proofs.CutPasses.{ready_filling, after_accepted}
use Rattle.cut_pass.proofs.OrderedNodes.{place_of, ordered, earlier-slot}
use Rattle.theory_graph.specs.AcceptedGraph as accepted
use Rattle.cut_lists.specs.CutLists as lists
use Rattle.cut_functions.specs.FunctionWords as filling

module _ (w : List ℕ) (m n : ℕ) (g : Graph) (rep : Represents w m n g) (ok : accepted.Accepted g) (fresh : Uncut w m) where
  pub enumerate_ready : Ready w m n
  enumerate_ready =
      record {
        lists = ready-listing w m n g rep ok fresh;
        ordered = ordered w m n g rep ok;
        alive = λ i h. let e : position_at w m (slot_at w m i) ≡ i + 1 = ap (position_at w m) (rep.order i h) ∙ rep.places i h in omega arith;
        left-earlier = λ i h k. (earlier-slot w m n g rep ok i h k).0;
        right-earlier = λ i h k. (earlier-slot w m n g rep ok i h k).1;
      }

  pub enumerate_verdict : (lists.listing w m n).answer ≡ cuts_verdict g
  enumerate_verdict = verdict-model w m n g rep ok fresh

  -- what the lists leave
  out : List ℕ
  out = lists.stored w m (lists.listing w m n).known

  represented : ListedSoFar w m (lists.listing w m n).known out
  unfolding out
  represented = all-represented w m n (ready-listing w m n g rep ok fresh)

  rep_out : Represents out m n g
  rep_out = represents-kept w out m n g rep ok represented.long represented.below

  ready_out : filling.Ready out m n
  unfolding out
  ready_out = ready_filling w m n enumerate_ready

  module _ (done : cuts_verdict g ≡ Ok tt) where
    end : List ℕ
    end = filling.filled out m n

    is-end : enumerated w m n ≡ end
    unfolding out end
    is-end = after_accepted w m n (enumerate_verdict ∙ done)

    under : Under out m end
    unfolding end
    under = filled-under out m n ready_out n (omega arith)

    low : (i : ℕ) → i < lists_to m → get_or end i 0 ≡ get_or out i 0
    unfolding end
    low i h = filled-low out m n ready_out n (omega arith) i h

    cuts_out : (v : ℕ) → v ≤ m → cuts_at out m v ≡ cuts_of g v
    unfolding out
    cuts_out v h = cuts_of_lem w m n g rep ok fresh (enumerate_verdict ∙ done) v h

    cuts-end : (v : ℕ) → v ≤ m → cuts_at end m v ≡ cuts_of g v
    cuts-end v h = under-cuts out end m under ready_out.ordered v h (represented.sound v h) ∙ cuts_out v h

    count_out : (v : ℕ) → v ≤ m → count_at out m v ≡ length (cuts_of g v)
    count_out v h = sym (count-listed out m v) ∙ ap length (cuts_out v h)

    -- a function of an ordered variable
    ordered-function : (v k : ℕ) → v ≤ m → k < length (cuts_of g v) → Memᴰ v (topological_order g) → function_of end m v k ≡ cut_table g (cut_at (cuts_of g) v k) v
    unfolding end cut_at
    ordered-function v k h b there =
        let s = split_at (topological_order g) there in
        let j : ℕ = length s.0 in
        let long : length (topological_order g) ≡ j + length (v ∷ s.1) = ap length s.2 ∙ length-append s.0 (v ∷ s.1) in
        let place : position_at out m v ≡ j + 1 = place_of out m n g rep_out ok s.0 v s.1 s.2 in
        let zero_more : j ≡ j + 0 = omega arith in
        let slot : slot_at out m j ≡ v =
        rep_out.order j (omega (arith, rep.long)) ∙ (λ i. get_or (s.2 i) (zero_more i) 0) ∙ get_or-append-add s.0 (v ∷ s.1) 0 0 in
        let word : function_of (filling.filled out m n) m v k ≡ get_or (filling.functions_of out m v) k 0 =
        subst (λ (x : ℕ). k < count_at out m x → function_of (filling.filled out m n) m x k ≡ get_or (filling.functions_of out m x) k 0) slot
        (filled-word out m n ready_out n (omega arith) j (omega (arith, rep.long)) k) (omega (arith, count_out v h)) in
        let tables : filling.functions_of out m v ≡ map (λ (c : List ℕ). cut_table g c v) (cuts_of g v) =
        functions_of_lem out m ready_out.ordered g rep_out.nodes v h (represented.sound v h) (omega arith) (omega (arith, length-order g))
        ∙ ap (map (λ (c : List ℕ). cut_table g c v)) (cuts_out v h) in
        word ∙ ap (λ (l : List ℕ). get_or l k 0) tables ∙ table_at (cuts_of g v) k b
      where
        table_at : (cs : List (List ℕ)) (k : ℕ) → k < length cs → get_or (map (λ (c : List ℕ). cut_table g c v) cs) k 0 ≡ cut_table g (get_or cs k []) v
        table_at [] k h = absurd (omega arith)
        table_at (c ∷ cs) zero h = refl
        table_at (c ∷ cs) (suc k) h = table_at cs k (omega arith)

    functions-end : (v k : ℕ) → v ≤ m → k < length (cuts_of g v) → function_of end m v k ≡ cut_table g (cut_at (cuts_of g) v k) v
    functions-end v k h b =
        by_elem v (topological_order g) (ordered-function v k h b) (λ away. let none : length (cuts_of g v) ≡ 0 = ap length (cuts-none g v away) in absurd (omega arith))

    listed-end : Listed w m g end
    unfolding end
    listed-end =
        record {
          cuts = cuts-end;
          functions = functions-end;
          sound = λ v h. under-sound out end m under ready_out.ordered v h (represented.sound v h);
          long = under.long ∙ represented.long;
          below = λ i h. low i (omega arith) ∙ represented.below i h;
          middle = λ i h l. low i (omega arith) ∙ represented.middle i h l;
          above = λ i h. filled-above out m n ready_out n (omega arith) i h ∙ represented.above i (omega arith);
        }

    pub enumerate_listed : Listed w m g (enumerated w m n)
    enumerate_listed = subst (Listed w m g) (sym is-end) listed-end

    pub enumerate_represents : Represents (enumerated w m n) m n g
    enumerate_represents = represents-kept w (enumerated w m n) m n g rep ok enumerate_listed.long enumerate_listed.below
