-- Drivers without a cycle can be put in an order, each behind those that feed it: `settled` leaves none.
use Rattle.base.specs.{ℕ, zero, suc, ◌≤◌, not-suc-le-zero, arith, ◌≡◌, refl, sym, ◌∙◌, ap, subst, ◌⊎◌, inl, inr, ⊎_elim, Bool, true, false}
use Rattle.base.specs.{cond, ◌||◌, true≢false, Option, None, Some, List, [], ◌∷◌, map, Memᴰ, Memᴰ-head, Memᴰ-tail}
use Rattle.base.specs.{Memᴰ-not-nil, Memᴰ-cast, T, length}
use Rattle.model.specs.{any, all, same, and_then, Driver, among, take_ready, settled, Distinct}
use Rattle.theory_graph.proofs.{map_in, map_out, same-eq, same_refl, is_true, all_of, by_bool, by_member}
use Rattle.theory_order.proofs.{no_more}

-- ---- a list without repetition is no longer than one that has its elements

record Without {A : Type 0} (x : A) (ys : List A) : Type 0 where
  rest : List A
  shorter : length ys ≡ suc (length rest)
  keeps : (y : A) → Memᴰ y ys → (y ≡ x) ⊎ Memᴰ y rest

without : {A : Type 0} (x : A) (ys : List A) → Memᴰ x ys → Without x ys
without x (y ∷ ys) (Memᴰ-head e) = record { rest = ys; shorter = refl; keeps = λ z m. (by_member m (λ q. inl (q ∙ sym e)) inr) }
without x (y ∷ ys) (Memᴰ-tail m) = more (without x ys m)
  where
    more : Without x ys → Without x (y ∷ ys)
    more w = record {
      rest = y ∷ w.rest;
      shorter = ap suc w.shorter;
      keeps = λ z n. (by_member n (λ q. inr (Memᴰ-head q)) (λ i. ⊎_elim inl (λ e. inr (Memᴰ-tail e)) (w.keeps z i)));
    }
without {A = A} x [] x'' = elim x'' [ ]

-- ---- cycles

abbrev pub nets_of : List Driver → List (List ℕ)
nets_of ds = map (λ (d : Driver). d.net) ds

-- net x feeds a driver's net, "directly or through others"
pub data FeedsNet (ds : List Driver) (x : List ℕ) : List ℕ → Type 0 where
  directly : (d : Driver) → Memᴰ d ds → Memᴰ x d.uses → FeedsNet ds x d.net
  through : {y : List ℕ} (d : Driver) → FeedsNet ds x y → Memᴰ d ds → Memᴰ y d.uses → FeedsNet ds x d.net

pub join-feeds : (ds : List Driver) (x y z : List ℕ) → FeedsNet ds x y → FeedsNet ds y z → FeedsNet ds x z
join-feeds ds x y z f (directly d m u) = through d f m u
join-feeds ds x y z f (through {y = w} d h m u) = through d (join-feeds ds x y w f h) m u

-- "drives a net on a circle": none does
abbrev pub NoCycle : List Driver → Type 0
NoCycle ds = (d : Driver) → Memᴰ d ds → ¬ FeedsNet ds d.net d.net

-- a driver of `left` that another driver of `left` feeds
pub record Fed (left : List Driver) (d : Driver) : Type 0 where
  pub by : Driver
  pub is_left : Memᴰ by left
  pub feeds : Memᴰ by.net d.uses

-- nets that follow each other backwards, each fed by all that come after it
record Path (ds left : List Driver) (n : ℕ) : Type 0 where
  last : Driver
  is_left : Memᴰ last left
  seen : List (List ℕ)
  once : Distinct seen
  of_left : (x : List ℕ) → Memᴰ x seen → Memᴰ x (nets_of left)
  fed : (x : List ℕ) → Memᴰ x seen → (x ≡ last.net) ⊎ FeedsNet ds last.net x
  long : length seen ≡ suc n

path : (ds left : List Driver) → ((d : Driver) → Memᴰ d left → Memᴰ d ds) → NoCycle ds → ((d : Driver) → Memᴰ d left → Fed left d)
    → (d : Driver) → Memᴰ d left → (n : ℕ) → Path ds left n
path ds left sub none-on back d m zero = record {
  last = d;
  is_left = m;
  seen = d.net ∷ [];
  once = (Memᴰ-not-nil, tt);
  of_left = λ x i. (Memᴰ-cast (only_one x i) (map_in (λ (e : Driver). e.net) m));
  fed = λ x i. inl (only_one x i);
  long = refl;
}
  where
    only_one : (x : List ℕ) → Memᴰ x (d.net ∷ []) → x ≡ d.net
    only_one x (Memᴰ-head e) = e
    only_one x (Memᴰ-tail i) = absurd (Memᴰ-not-nil i)
path ds left sub none-on back d m (suc n) = step (path ds left sub none-on back d m n)
  where
    step : Path ds left n → Path ds left (suc n)
    step p = record {
      last = b.by;
      is_left = b.is_left;
      seen = b.by.net ∷ p.seen;
      once = ((λ i. none-on b.by (sub b.by b.is_left) (reaches b.by.net i)), p.once);
      of_left = λ x i. (by_member i (λ e. Memᴰ-cast e (map_in (λ (e : Driver). e.net) b.is_left)) (λ q. p.of_left x q));
      fed = λ x i. (elim i [ Memᴰ-head e ↦ inl e | Memᴰ-tail q ↦ inr (reaches x q) ]);
      long = ap suc p.long;
    }
      where
        b : Fed left p.last
        b = back p.last p.is_left

        first : FeedsNet ds b.by.net p.last.net
        first = directly p.last (sub p.last p.is_left) b.feeds

        reaches : (x : List ℕ) → Memᴰ x p.seen → FeedsNet ds b.by.net x
        reaches x i = elim (p.fed x i) [
          | inl e ↦ subst (FeedsNet ds b.by.net) (sym e) first
          | inr f ↦ join-feeds ds b.by.net p.last.net x first f
        ]

length-nets : (ds : List Driver) → length (nets_of ds) ≡ length ds
length-nets [] = refl
length-nets (d ∷ ds) = ap suc (length-nets ds)

-- where each driver that is left is fed by one that is left, none is left
pub none_left : (ds left : List Driver) → ((d : Driver) → Memᴰ d left → Memᴰ d ds) → NoCycle ds → ((d : Driver) → Memᴰ d left → Fed left d)
    → (d : Driver) → ¬ Memᴰ d left
none_left ds left sub none-on back d m =
    let p = path ds left sub none-on back d m (length left) in
    absurd (omega (arith, p.long, no_more p.seen (nets_of left) p.once p.of_left, length-nets left))

-- ---- the order

-- each driver's nets are known before it
abbrev pub Ordered : List (List ℕ) → List Driver → Type 0
Ordered known [] = Unit
Ordered known (d ∷ ds) = ((n : List ℕ) → Memᴰ n d.uses → Memᴰ n known) × Ordered (d.net ∷ known) ds

pub among_out : (n : List ℕ) (ns : List (List ℕ)) → T (among n ns) → Memᴰ n ns
unfolding among any
among_out n (m ∷ ns) t = by_bool (same n m) (λ e. Memᴰ-head ((rw e at (same-eq n m)) tt))
    (λ q. Memᴰ-tail (among_out n ns (rw q at t)))
among_out n [] t = elim t [ ]

-- a use that is not known
unknown : (known us : List (List ℕ)) → all (λ (n : List ℕ). among n known) us ≡ false → (n : List ℕ) × Memᴰ n us × (among n known ≡ false)
unfolding all
unknown known [] e = absurd (true≢false e)
unknown known (u ∷ us) e = by_bool (among u known) (λ p. let r = (unknown known us) (rw p at e) in (r.0, Memᴰ-tail r.1, r.2))
    (λ q. (u, Memᴰ-head refl, q))

-- what is taken, and what is left
record Taken (known : List (List ℕ)) (ds : List Driver) (d : Driver) (left : List Driver) : Type 0 where
  knows : (n : List ℕ) → Memᴰ n d.uses → Memᴰ n known
  is_one : Memᴰ d ds
  sub : (x : Driver) → Memᴰ x left → Memᴰ x ds
  rest : (x : Driver) → Memᴰ x ds → (x ≡ d) ⊎ Memᴰ x left
  shorter : length ds ≡ suc (length left)
  once : Distinct (nets_of ds) → Distinct (nets_of (d ∷ left))

data Ready (known : List (List ℕ)) (ds : List Driver) : Option (Driver × List Driver) → Type 0 where
  stuck : ((d : Driver) → Memᴰ d ds → (n : List ℕ) × Memᴰ n d.uses × (among n known ≡ false)) → Ready known ds None
  ready : (d : Driver) (left : List Driver) → Taken known ds d left → Ready known ds (Some (d, left))

take-ready : (known : List (List ℕ)) (ds : List Driver) → Ready known ds (take_ready known ds)
unfolding take_ready
take-ready known [] = stuck (λ d m. absurd (Memᴰ-not-nil m))
take-ready known (d ∷ ds) = go (all (λ (n : List ℕ). among n known) d.uses) refl (take_ready known ds) (take-ready known ds)
  where
    cons_cases : (x : Driver) → Memᴰ x (d ∷ ds) → (x ≡ d) ⊎ Memᴰ x ds
    cons_cases x (Memᴰ-head e) = inl e
    cons_cases x (Memᴰ-tail m) = inr m

    later : (e : Driver) (left : List Driver) → Taken known ds e left → Taken known (d ∷ ds) e (d ∷ left)
    later e left t = record {
      knows = t.knows;
      is_one = Memᴰ-tail t.is_one;
      sub = λ x m. (by_member m Memᴰ-head (λ p. Memᴰ-tail (t.sub x p)));
      rest = λ x m. (⊎_elim (λ q. inr (Memᴰ-head q)) (λ p. ⊎_elim inl (λ p. inr (Memᴰ-tail p)) (t.rest x p)) (cons_cases x m));
      shorter = ap suc t.shorter;
      once = λ o. let r = t.once o.1 in ((λ i. apart o r i), ((λ i. o.0 (nets_sub i)), r.1));
    }
      where
        nets_sub : {n : List ℕ} → Memᴰ n (nets_of left) → Memᴰ n (nets_of ds)
        nets_sub i = let w = map_out (λ (y : Driver). y.net) left i in Memᴰ-cast w.2 (map_in (λ (y : Driver). y.net) (t.sub w.0 w.1))

        apart : Distinct (nets_of (d ∷ ds)) → Distinct (nets_of (e ∷ left)) → Memᴰ e.net (nets_of (d ∷ left)) → ⊥
        apart o r (Memᴰ-head q) = o.0 (Memᴰ-cast (sym q) (map_in (λ (y : Driver). y.net) t.is_one))
        apart o r (Memᴰ-tail i) = r.0 i

    go : (b : Bool) → all (λ (n : List ℕ). among n known) d.uses ≡ b → (o : Option (Driver × List Driver)) → Ready known ds o
        → Ready known (d ∷ ds) (cond b (Some (d, ds)) (and_then {B = Driver × List Driver} o (λ r. Some (r.0, d ∷ r.1))))
    go true e o r = ready d ds (record {
      knows = unfold all in λ n m. among_out n known (all_of (λ (x : List ℕ). among x known) d.uses (subst T (sym e) tt) n m);
      is_one = Memᴰ-head refl;
      sub = λ x m. Memᴰ-tail m;
      rest = cons_cases;
      shorter = refl;
      once = λ o. o;
    })
    go false e o (ready x left t) = unfold and_then in ready x (d ∷ left) (later x left t)
    go false e o (stuck f) = unfold and_then in stuck (λ x m. each-stuck x (cons_cases x m))
      where
        each-stuck : (x : Driver) → (x ≡ d) ⊎ Memᴰ x ds → (n : List ℕ) × Memᴰ n x.uses × (among n known ≡ false)
        each-stuck x (inl q) = subst (λ (y : Driver). (n : List ℕ) × Memᴰ n y.uses × (among n known ≡ false)) (sym q) (unknown known d.uses e)
        each-stuck x (inr m) = f x m

pub among_in : (n : List ℕ) (ns : List (List ℕ)) → Memᴰ n ns → among n ns ≡ true
unfolding among any
among_in n (m ∷ ns) (Memᴰ-head e) = ap (λ (b : Bool). b || any (same n) ns) (is_true (same n m) (subst (λ (x : List ℕ). T (same n x)) e (same_refl n)))
among_in n (m ∷ ns) (Memᴰ-tail i) = by_bool (same n m) (λ e. cc) (λ q. cc (among_in n ns i))
among_in n [] x' = elim x' [ ]

-- the drivers of an order, and that it is one
pub record IsOrder (known : List (List ℕ)) (left order : List Driver) : Type 0 where
  pub ordered : Ordered known order
  pub has : (d : Driver) → Memᴰ d left → Memᴰ d order
  pub has_only : (d : Driver) → Memᴰ d order → Memᴰ d left
  pub once : Distinct (nets_of left) → Distinct (nets_of order)

pub settled-order : (ds : List Driver) → NoCycle ds → (fuel : ℕ) (known : List (List ℕ)) (left : List Driver) → length left ≤ fuel
    → ((d : Driver) → Memᴰ d left → Memᴰ d ds)
    → ((d : Driver) → Memᴰ d left → (n : List ℕ) → Memᴰ n d.uses → Memᴰ n known ⊎ Memᴰ n (nets_of left))
    → IsOrder known left (settled fuel known left)
unfolding settled
settled-order ds none-on zero known [] h sub uses = record { ordered = tt; has = λ d m. m; has_only = λ d m. m; once = λ o. tt }
settled-order ds none-on zero known (x ∷ left) h sub uses = absurd (not-suc-le-zero h)
settled-order ds none-on (suc fuel) known left h sub uses = go (take_ready known left) (take-ready known left) (λ k l. settled-order ds none-on fuel k l)
  where
    fed : ((d : Driver) → Memᴰ d left → (n : List ℕ) × Memᴰ n d.uses × (among n known ≡ false)) → (d : Driver) → Memᴰ d left → Fed left d
    fed f d m = at (f d m)
      where
        at : (n : List ℕ) × Memᴰ n d.uses × (among n known ≡ false) → Fed left d
        at r = elim (uses d m r.0 r.1) [
          | inl i ↦ absurd (true≢false (sym (among_in r.0 known i) ∙ r.2))
          | inr i ↦ let o = map_out (λ (e : Driver). e.net) left i in record { by = o.0; is_left = o.1; feeds = Memᴰ-cast (sym o.2) r.1 }
        ]

    go : (o : Option (Driver × List Driver)) → Ready known left o
        → ((k : List (List ℕ)) (l : List Driver) → length l ≤ fuel → ((d : Driver) → Memᴰ d l → Memᴰ d ds)
        → ((d : Driver) → Memᴰ d l → (n : List ℕ) → Memᴰ n d.uses → Memᴰ n k ⊎ Memᴰ n (nets_of l)) → IsOrder k l (settled fuel k l))
        → IsOrder known left (elim o [ None ↦ [] | Some r ↦ r.0 ∷ settled fuel (r.0.net ∷ known) r.1 ])
    go None (stuck f) more =
        let none_here = none_left ds left sub none-on (fed f) in
        record { ordered = tt; has = λ d m. absurd (none_here d m); has_only = λ d m. absurd (Memᴰ-not-nil m); once = λ o. tt }
    go (Some r) (ready d rest t) more = record {
      ordered = (t.knows, k.ordered);
      has = λ x m. (⊎_elim Memᴰ-head (λ e. Memᴰ-tail (k.has x e)) (t.rest x m));
      has_only = λ x m. (by_member m (λ q. Memᴰ-cast q t.is_one) (λ e. t.sub x (k.has_only x e)));
      once = λ o. let r = t.once o in ((λ i. r.0 (nets-rest i)), k.once r.1);
    }
      where
        again : (x : Driver) → Memᴰ x rest → (n : List ℕ) → Memᴰ n x.uses → Memᴰ n (d.net ∷ known) ⊎ Memᴰ n (nets_of rest)
        again x m n i = elim (uses x (t.sub x m) n i) [
          | inl a ↦ inl (Memᴰ-tail a)
          | inr a ↦ let o = map_out (λ (e : Driver). e.net) left a in
              ⊎_elim (λ q. inl (Memᴰ-head (o.2 ∙ ap (λ (z : Driver). z.net) q)))
              (λ j. inr (Memᴰ-cast o.2 (map_in (λ (z : Driver). z.net) j))) (t.rest o.0 o.1)
        ]

        k : IsOrder (d.net ∷ known) rest (settled fuel (d.net ∷ known) rest)
        k = more (d.net ∷ known) rest (let s : length left ≡ suc (length rest) = t.shorter in omega arith) (λ x m. sub x (t.sub x m)) again

        nets-rest : {n : List ℕ} → Memᴰ n (nets_of (settled fuel (d.net ∷ known) rest)) → Memᴰ n (nets_of rest)
        nets-rest i = let w = map_out (λ (y : Driver). y.net) (settled fuel (d.net ∷ known) rest) i in Memᴰ-cast w.2 (map_in (λ (y : Driver). y.net) (k.has_only w.0 w.1))
