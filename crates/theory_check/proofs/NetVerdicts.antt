-- What 32 and 33 leave is sound: each net driven once, every net used driven, no cycle, every output driven.
use Rattle.base.specs.{ℕ, zero, suc, ◌+◌, ◌<◌, not-suc-le-zero, le_of_suc-le-suc, zero-add, arith, ◌≡◌, refl, sym, ◌∙◌, ap, subst, ◌⊎◌}
use Rattle.base.specs.{Bool, true, false, not, cond, ◌&&◌, true≢false, Option, None, Some, List, [], ◌∷◌, ◌++◌, Memᴰ, Memᴰ-head}
use Rattle.base.specs.{Memᴰ-tail, Memᴰ-not-nil, Memᴰ-append_cases, Memᴰ-cast, T, eqb, length, get_or}
use Rattle.model.specs.{any, same, Line, ended_by_ten, text, fields, Read, holds, next, from?, out_name, Driver, is_net, among, driven_twice}
use Rattle.model.specs.{undriven, first_line, on_cycle, unless_at, validate_nets, name_driver, past_row, read_names, is_gate, gate_driver, read_drivers}
use Rattle.model.specs.{Distinct}
use Rattle.model.specs.declared.Cell.{Cell}
use Rattle.theory_graph.proofs.{map_in, by_bool, by_member}
use Rattle.theory_text.proofs.{fault_never, next_out, from_out, holds-once, only_out}
use Rattle.theory_check.proofs.DriverSort.{nets_of, NoCycle, among_in, among_out}
use Rattle.theory_check.proofs.Cycles.{cycle-found}

is_some : Option ℕ → Bool
is_some None = false
is_some (Some k) = true

-- ---- 33

pub twice-none : (known : List (List ℕ)) (ds : List Driver) → driven_twice known ds ≡ None → Distinct (nets_of ds) × ((n : List ℕ) → Memᴰ n known → ¬ Memᴰ n (nets_of ds))
unfolding driven_twice
twice-none known [] e = (tt, (λ n m. Memᴰ-not-nil))
twice-none known (d ∷ ds) e = go (among d.net known) refl e (twice-none (d.net ∷ known) ds)
  where
    go : (b : Bool) → among d.net known ≡ b → cond b (Some d.offset) (driven_twice (d.net ∷ known) ds) ≡ None
        → (driven_twice (d.net ∷ known) ds ≡ None → Distinct (nets_of ds) × ((n : List ℕ) → Memᴰ n (d.net ∷ known) → ¬ Memᴰ n (nets_of ds)))
        → Distinct (nets_of (d ∷ ds)) × ((n : List ℕ) → Memᴰ n known → ¬ Memᴰ n (nets_of (d ∷ ds)))
    go true q h later = absurd (true≢false (unfold is_some in ap is_some h))
    go false q h later = (
      ((later h).1 d.net (Memᴰ-head refl), (later h).0),
      (λ n m i. by_member i
          (λ u. true≢false (sym (among_in d.net known (Memᴰ-cast (sym u) m)) ∙ q)) (λ e. (later h).1 n (Memᴰ-tail m) e)),
    )

none_such : (p : Driver → Bool) (ds : List Driver) → first_line p ds ≡ None → (d : Driver) → Memᴰ d ds → p d ≡ false
unfolding first_line
none_such p (x ∷ ds) e d m = by_bool (p x) (λ q. absurd (true≢false (unfold is_some in ap is_some (rw q at e))))
    (λ r. elim m [ Memᴰ-head u ↦ ap p u ∙ r | Memᴰ-tail n ↦ none_such p ds (rw r at e) d n ])
none_such p [] e d m = elim m [ ]

any_none : (nets us : List (List ℕ)) → any (λ (n : List ℕ). not (among n nets)) us ≡ false → (n : List ℕ) → Memᴰ n us → Memᴰ n nets
unfolding any
any_none nets (u ∷ us) e n m = by_bool (among u nets) (λ q.
    elim m [ Memᴰ-head s ↦ Memᴰ-cast s (among_out u nets (subst T (sym q) tt)) | Memᴰ-tail i ↦ any_none nets us (rw q at e) n i ])
    (λ p. absurd (true≢false (rw p at e)))
any_none nets [] e n m = elim m [ ]

-- no two drivers of one net
pub one-driver : (ds : List Driver) → Distinct (nets_of ds) → (d e : Driver) → Memᴰ d ds → Memᴰ e ds → d.net ≡ e.net → d ≡ e
one-driver (x ∷ ds) once d e (Memᴰ-head p) (Memᴰ-head q) s = p ∙ sym q
one-driver (x ∷ ds) once d e (Memᴰ-head p) (Memᴰ-tail n) s = absurd (once.0 (Memᴰ-cast (sym (ap (λ (y : Driver). y.net) p) ∙ s) (map_in (λ (y : Driver). y.net) n)))
one-driver (x ∷ ds) once d e (Memᴰ-tail m) (Memᴰ-head q) s = absurd (once.0 (Memᴰ-cast (sym (ap (λ (y : Driver). y.net) q) ∙ sym s) (map_in (λ (y : Driver). y.net) m)))
one-driver (x ∷ ds) once d e (Memᴰ-tail m) (Memᴰ-tail n) s = one-driver ds once.1 d e m n s
one-driver [] once d e x4 _ s = elim x4 [ ]

pub unless-none : {A : Type 0} (o : Option ℕ) (n : ℕ) (r : Read A) (a : A) → unless_at o n r ≡ holds a → (o ≡ None) × (r ≡ holds a)
unfolding unless_at
unless-none None n r a e = (refl, e)
unless-none (Some k) n r a e = absurd (fault_never e)

-- "33 when a line drives a net already driven, then when one uses a net that no line drives, then when one drives a net on a circle": none does
pub record Nets (inputs : List (List ℕ)) (ds : List Driver) : Type 0 where
  pub once : Distinct (nets_of ds)
  pub apart : (n : List ℕ) → Memᴰ n inputs → ¬ Memᴰ n (nets_of ds)
  pub used : (d : Driver) → Memᴰ d ds → (n : List ℕ) → Memᴰ n d.uses → Memᴰ n inputs ⊎ Memᴰ n (nets_of ds)
  pub no_cycle : NoCycle ds

pub nets-validated : (inputs : List (List ℕ)) (ds es : List Driver) → validate_nets inputs ds ≡ holds es → Nets inputs ds × (ds ≡ es)
unfolding validate_nets undriven
nets-validated inputs ds es e =
    let a = unless-none (driven_twice inputs ds) 33 _ es e in
    let b = unless-none (undriven inputs ds) 33 _ es a.1 in
    let c = unless-none (first_line (on_cycle ds) ds) 33 (holds ds) es b.1 in
    let t = twice-none inputs ds a.0 in (
      record {
        once = t.0;
        apart = t.1;
        used = λ d m n u. Memᴰ-append_cases inputs (any_none (inputs ++ nets_of ds) d.uses (none_such (λ (x : Driver). any (λ (y : List ℕ). not (among y (inputs ++ nets_of ds))) x.uses) ds b.0 d m) n u);
        no_cycle = λ d m f. true≢false (sym (cycle-found ds (one-driver ds t.0) d m f) ∙ none_such (on_cycle ds) ds c.0 d m);
      },
      holds-once c.1,
    )

-- ---- 32

-- a `.names` line drives its output's own name
named-net : (k : ℕ) (l : Line) (d : Driver) → name_driver k l ≡ Some d → out_name k ≡ d.net
unfolding name_driver
named-net k l d e =
    let ws = fields l.bytes in
    ap (λ (x : Driver). x.net)
    (only_out (ended_by_ten l && (eqb (length ws) 3 && (same (get_or ws 0 []) (text ".names") && (is_net (get_or ws 1 []) && same (get_or ws 2 []) (out_name k)))))
    (record { offset = l.offset; table = 2; uses = get_or ws 1 [] ∷ []; net = out_name k }) d e).1

-- every output's own name is driven
names-driven : (end k left : ℕ) (ls : List Line) (ds : List Driver) → read_names end k left ls ≡ holds ds → (j : ℕ) → j < left → Memᴰ (out_name (k + j)) (nets_of ds)
unfolding read_names
names-driven end k zero ls ds e j h = absurd (not-suc-le-zero h)
names-driven end k (suc left) [] ds e j h = absurd (fault_never e)
names-driven end k (suc left) (l ∷ ls) ds e j h = go j h (λ i q. names-driven end (suc k) left b.0 c.0 c.1 i q)
  where
    a : (d : Driver) × (from? (name_driver k l) 32 l.offset ≡ holds d) × (next (past_row end ls) (λ rest. next (read_names end (suc k) left rest) (λ es. holds (d ∷ es))) ≡ holds ds)
    a = next_out (from? (name_driver k l) 32 l.offset) _ ds e

    b : (rest : List Line) × (past_row end ls ≡ holds rest) × (next (read_names end (suc k) left rest) (λ es. holds (a.0 ∷ es)) ≡ holds ds)
    b = next_out (past_row end ls) (λ rest. next (read_names end (suc k) left rest) (λ es. holds (a.0 ∷ es))) ds a.2

    c : (es : List Driver) × (read_names end (suc k) left b.0 ≡ holds es) × (holds (a.0 ∷ es) ≡ holds ds)
    c = next_out (read_names end (suc k) left b.0) (λ es. holds (a.0 ∷ es)) ds b.2

    list : a.0 ∷ c.0 ≡ ds
    list = holds-once c.2

    go : (i : ℕ) → i < suc left → ((i : ℕ) → i < left → Memᴰ (out_name (suc k + i)) (nets_of c.0)) → Memᴰ (out_name (k + i)) (nets_of ds)
    go zero q later = rw (← list) (Memᴰ-head (ap out_name (let z : k + 0 ≡ k = omega arith in z)
        ∙ (named-net k l a.0 (from_out (name_driver k l) 32 l.offset a.0 a.1))))
    go (suc i) q later = rw (← list)
        (Memᴰ-tail (Memᴰ-cast (ap out_name (let z : k + suc i ≡ suc k + i = omega arith in z)) (later i (le_of_suc-le-suc q))))

pub drivers-outputs : (cells : List Cell) (end outs : ℕ) (ls : List Line) (ds : List Driver) → read_drivers cells end outs ls ≡ holds ds → (j : ℕ) → j < outs → Memᴰ (out_name j) (nets_of ds)
unfolding read_drivers
drivers-outputs cells end outs [] ds e j h = Memᴰ-cast (ap out_name (sym (zero-add j))) (names-driven end 0 outs [] ds e j h)
drivers-outputs cells end outs (l ∷ ls) ds e j h = by_bool (is_gate l) (λ q. let a = next_out
    (from? (gate_driver cells l) 32 l.offset) _ ds (rw q at e) in let b = next_out (read_drivers cells end outs ls)
    (λ es. holds (a.0 ∷ es)) ds a.2 in subst (λ (es : List Driver). Memᴰ (out_name j) (nets_of es)) (holds-once b.2)
    (Memᴰ-tail ((drivers-outputs cells end outs ls b.0) b.1 j h)))
    (λ p. Memᴰ-cast (ap out_name (sym (zero-add j))) (names-driven end 0 outs (l ∷ ls) ds (rw p at e) j h))
