-- A library that was read, by value: its cells are the text's, and with its pairs it may be asked for matches and minimum arrivals.
use Rattle.base.specs.{ℕ, zero, suc, ◌+◌, ◌≤◌, ◌<◌, arith, ◌≡◌, refl, sym, ◌∙◌, ap, subst, List, [], ◌∷◌, ◌++◌, map, Memᴰ}
use Rattle.base.specs.{Memᴰ-head, Memᴰ-tail, T, length, get_or, take, take-append_seam}
use Rattle.model.specs.{holds, no_cell, cell_at, cells_of, library_of, Pair, join_delays, pair_delays, pair_of, cell_of_pair, read_library}
use Rattle.model.specs.declared.Cell.{Cell}
use Rattle.model.specs.declared.Library.{Library}
use Rattle.theory_graph.specs.{library_fits}
use Rattle.theory_text.proofs.{library-fits, library-few, library-written, library-ranged}
use Rattle.theory_demands.proofs.{no_lower_lem}
use Rattle.base_words.specs.{put_at}
use Rattle.cells_pairs.specs.{pair_of_id, pair_ids, cells_by, Joinable}
use Rattle.cells_pairs.proofs.{coded_none, coded-all, numbered-none, numbered-all, by_length}
use Rattle.cells_matching.specs.{Blank, Matchable}
use Rattle.cells_matching.proofs.{library_in_bounds, matchable_by}
use Rattle.mapper.specs.{Under, done, more, LibraryRead, LibraryOk, all_of}

pub cells-back : (cs : List Cell) → cells_of (library_of cs) ≡ cs
unfolding cells_of library_of
cells-back cs = take-append_seam cs _

-- ---- what holds at every place

-- what holds of each element and of what stands past them holds at every place
each-place : {A : Type 0} (P : A → Type 0) (d : A) → P d → (xs : List A) → ((x : A) → Memᴰ x xs → P x) → (i : ℕ) → P (get_or xs i d)
each-place P d p [] h i = p
each-place P d p (x ∷ xs) h zero = h x (Memᴰ-head refl)
each-place P d p (x ∷ xs) h (suc i) = each-place P d p xs (λ y m. h y (Memᴰ-tail m)) i

append_place : {A : Type 0} (P : A → Type 0) (d : A) (xs ys : List A) → ((i : ℕ) → P (get_or xs i d)) → ((i : ℕ) → P (get_or ys i d)) → (i : ℕ) → P (get_or (xs ++ ys) i d)
append_place P d [] ys h k i = k i
append_place P d (x ∷ xs) ys h k zero = h zero
append_place P d (x ∷ xs) ys h k (suc i) = append_place P d xs ys (λ j. h (suc j)) k i

map-place : {A B : Type 0} (P : B → Type 0) (d : B) (f : A → B) → P d → ((x : A) → P (f x)) → (xs : List A) (i : ℕ) → P (get_or (map f xs) i d)
map-place P d f p h [] i = p
map-place P d f p h (x ∷ xs) zero = h x
map-place P d f p h (x ∷ xs) (suc i) = map-place P d f p h xs i

-- ---- one list of numbers under another

under_of : (xs ys : List ℕ) → length xs ≡ length ys → ((j : ℕ) → get_or xs j 0 ≤ get_or ys j 0) → Under xs ys
under_of [] [] e h = done
under_of [] (y ∷ ys) e h = absurd (omega arith)
under_of (x ∷ xs) [] e h = absurd (omega arith)
under_of (x ∷ xs) (y ∷ ys) e h = more (h zero) (under_of xs ys (omega arith) (λ j. h (suc j)))

under_at : {xs ys : List ℕ} → Under xs ys → (j : ℕ) → get_or xs j 0 ≤ get_or ys j 0
under_at done j = omega arith
under_at (more h u) zero = h
under_at (more h u) (suc j) = under_at u j

under-take : {xs ys : List ℕ} (n : ℕ) → Under xs ys → Under (take n xs) (take n ys)
under-take zero u = done
under-take (suc n) done = done
under-take (suc n) (more h u) = more h (under-take n u)

under_append : {xs ys us vs : List ℕ} → Under xs ys → Under us vs → Under (xs ++ us) (ys ++ vs)
under_append done v = v
under_append (more h u) v = more h (under_append u v)

under-add : {xs ys : List ℕ} (a b : ℕ) → a ≤ b → Under xs ys → Under (map (λ (e : ℕ). a + e) xs) (map (λ (e : ℕ). b + e) ys)
under-add a b h done = done
under-add a b h (more {a = x} {b = y} k u) = more {a = a + x} {b = b + y} (omega arith) (under-add a b h u)

under-join : {ls ds ms es : List ℕ} (p : ℕ) → Under ls ds → Under ms es → Under (join_delays p ls ms) (join_delays p ds es)
unfolding join_delays
under-join p done v = done
under-join zero (more {a = a} {b = b} h u) v = under_append (under-add a b h v) u
under-join (suc p) (more h u) v = more h (under-join p u v)

-- ---- the library

pub library-read : (s : List ℕ) (cs : List Cell) → read_library s ≡ holds cs → LibraryRead (library_of cs)
unfolding cell_at
library-read s cs e = record {
  fits = subst (λ (x : List Cell). T (library_fits x)) (sym (cells-back cs)) (library-fits s cs e);
  in_bounds = library_in_bounds cs (library-few s cs e)
      (each-place (λ (c : Cell). c.pins ≤ 4) no_cell (omega arith) cs (λ c m. (library-written s cs e c m).0.pins))
      (λ i j. each-place (λ (c : Cell). (k : ℕ) → get_or c.delays k 0 < 65536) no_cell (λ k. omega arith) cs
      (λ c m. each-place (λ (d : ℕ). d < 65536) 0 (omega arith) c.delays (λ d n. let h : d ≤ 65535 = (library-written s cs e c m).0.delays d n in omega arith)) i j);
  ranges = subst (λ (xs : List Cell). (c : ℕ) → Under (get_or xs c no_cell).mins (get_or xs c no_cell).delays) (sym (cells-back cs))
      (each-place (λ (c : Cell). Under c.mins c.delays) no_cell done cs
      (λ c m. let w = (library-written s cs e c m).0 in under_of c.mins c.delays (w.four_mins ∙ sym w.four) (no_lower_lem c.mins c.delays (library-ranged s cs e c m))));
}

module _ (lib : Library) (ids : List ℕ) (ok : LibraryOk lib ids) where
  -- no lowest delay exceeds its delay, of a pair neither
  pub all-ranges : (c j : ℕ) → get_or (cell_at (all_of lib ids) c).mins j 0 ≤ get_or (cell_at (all_of lib ids) c).delays j 0
  unfolding cell_at cells_by
  all-ranges c j = under_at (append_place (λ (x : Cell). Under x.mins x.delays) no_cell (cells_of lib) (map (λ (k : ℕ). cell_of_pair (cells_of lib) (pair_of_id k)) ids) ok.read.ranges
      (map-place (λ (x : Cell). Under x.mins x.delays) no_cell (λ (k : ℕ). cell_of_pair (cells_of lib) (pair_of_id k)) done (λ k. pair_under (pair_of_id k)) ids) c) j
    where
      pair_under : (p : Pair) → Under (cell_of_pair (cells_of lib) p).mins (cell_of_pair (cells_of lib) p).delays
      pair_under p = unfold cell_of_pair pair_of pair_delays in
          under-take 4 (under-join p.pin (ok.read.ranges p.root) (under-take (cell_at (cells_of lib) p.inner).pins (ok.read.ranges p.inner)))

module _ (lib : Library) (ids : List ℕ) (ok : LibraryOk lib ids) where
  pub all-matchable : Matchable (all_of lib ids)
  all-matchable = matchable_by lib ids ok.coded ok.read.in_bounds

  pub all-few : length (all_of lib ids) ≤ 256
  all-few = all-matchable.few

  -- so that no lowest delay is longer than a pair's
  pub all-brief : (c j : ℕ) → get_or (cell_at (all_of lib ids) c).mins j 0 < 131072
  all-brief c j = let a = all-ranges lib ids ok c j in let b = all-matchable.delays c j in omega (arith, a, b)

-- a library that is read may be joined
pub joinable_of : (lib : Library) → LibraryRead lib → Joinable lib
joinable_of lib r = record { whole = r.in_bounds.whole; few = r.in_bounds.few; pins = r.in_bounds.pins }

-- with no pairs, and with all of them

pub plain_ok : (lib : Library) → LibraryRead lib → LibraryOk lib []
plain_ok lib r = record { read = r; coded = coded_none lib (joinable_of lib r); numbered = numbered-none lib (joinable_of lib r) }

pub joined_ok : (lib : Library) → LibraryRead lib → lib.n + length (pair_ids (cells_of lib)) ≤ 256 → LibraryOk lib (pair_ids (cells_of lib))
joined_ok lib r h = record { read = r; coded = coded-all lib (joinable_of lib r) h; numbered = numbered-all lib (joinable_of lib r) }

-- a blank match table for so many cells serves fewer
blank-few : {m n : ℕ} {s : List ℕ} → n ≤ m → Blank m s → Blank n s
blank-few h b = record { long = omega (arith, b.long); empty = b.empty }

pub blank-joined : (lib : Library) (ids : List ℕ) → LibraryOk lib ids → {s : List ℕ} → Blank 256 s → Blank (length (all_of lib ids)) s
blank-joined lib ids ok b = blank-few (all-few lib ids ok) b

pub blank-listed : (lib : Library) → LibraryRead lib → {s : List ℕ} → Blank 32 s → Blank (length (all_of lib [])) s
blank-listed lib r b = blank-few (omega (arith, by_length (cells_of lib) [], r.in_bounds.whole, r.in_bounds.few)) b

-- what stands first in an array once a list is written there
pub formed_are : (xs ys : List ℕ) (n : ℕ) → n ≡ 0 + length ys → take n (put_at xs 0 ys) ≡ ys
unfolding put_at
formed_are xs ys n e = (let z : n ≡ length ys = omega (arith, e) in ap (λ (k : ℕ). take k (put_at xs 0 ys)) z) ∙ take-append_seam ys _
