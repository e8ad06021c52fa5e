-- What stands under a cell's number: a listed cell, or a pair of listed cells. The rest of this theory asks no more of the cells to map with than
-- `Fitting`, so that it holds with pairs and without.
use Rattle.base.specs.{ℕ, zero, suc, ◌+◌, ◌-◌, ◌≤◌, ◌<◌, le_of_suc-le-suc, not-suc-le-zero, lt_of_not-le, dec_le, arith, ◌≡◌, refl, sym, ◌∙◌}
use Rattle.base.specs.{ap, subst, Bool, true, false, List, [], ◌∷◌, ◌++◌, map, Memᴰ, T, leb, length, get_or, get_or-append}
use Rattle.base.specs.{length-append, and_yes, leb_yes}
use Rattle.model.specs.{keep, below, cell_at, no_cell, Pair, no_pair, joins, pairs_of, cell_of_pair, with_pairs, pair_at, cells_for}
use Rattle.model.specs.declared.Cell.{Cell}
use Rattle.theory_graph.specs.{library_fits}
use Rattle.theory_graph.proofs.{map_out, each_out, keep_out, below_out, get_or_in, length-map}

-- a pair of listed cells
pub record OfPair (listed : List Cell) (p : Pair) : Type 0 where
  pub has_root : Memᴰ (cell_at listed p.root) listed
  pub has_inner : Memᴰ (cell_at listed p.inner) listed
  pub has_pin : p.pin < (cell_at listed p.root).pins
  pub some_pin : 1 ≤ (cell_at listed p.inner).pins
  pub few : (cell_at listed p.root).pins + (cell_at listed p.inner).pins ≤ 5

-- under a number stands a listed cell, or the pair of the number
pub data Numbered (listed cells : List Cell) (k : ℕ) : Type 0 where
  single : k < length listed → cell_at cells k ≡ cell_at listed k → Numbered listed cells k
  double : length listed ≤ k → OfPair listed (pair_at listed k) → cell_at cells k ≡ cell_of_pair listed (pair_at listed k) → Numbered listed cells k

-- cells to map with: the listed ones fit, and under each number stands one of them or a pair of them
pub record Fitting (listed cells : List Cell) : Type 0 where
  pub fits : T (library_fits listed)
  pub numbered : (k : ℕ) → k < length cells → Numbered listed cells k

get_or-behind : {A : Type 0} (xs ys : List A) (d : A) (k : ℕ) → length xs ≤ k → get_or (xs ++ ys) k d ≡ get_or ys (k - length xs) d
get_or-behind [] ys d k h = ap (λ (j : ℕ). get_or ys j d) (let z : k ≡ k - 0 = omega arith in z)
get_or-behind (x ∷ xs) ys d zero h = absurd (not-suc-le-zero h)
get_or-behind (x ∷ xs) ys d (suc k) h =
    get_or-behind xs ys d k (le_of_suc-le-suc h) ∙ ap (λ (j : ℕ). get_or ys j d) (let z : k - length xs ≡ suc k - suc (length xs) = omega arith in z)

get_or_of_map : {A B : Type 0} (f : A → B) (xs : List A) (d : A) (e : B) (k : ℕ) → k < length xs → get_or (map f xs) k e ≡ f (get_or xs k d)
get_or_of_map f [] d e k h = absurd (not-suc-le-zero h)
get_or_of_map f (x ∷ xs) d e zero h = refl
get_or_of_map f (x ∷ xs) d e (suc k) h = get_or_of_map f xs d e k (le_of_suc-le-suc h)

numbered_for : (paired : Bool) (listed : List Cell) (k : ℕ) → k < length (cells_for paired listed) → Numbered listed (cells_for paired listed) k
unfolding cells_for with_pairs cell_at pair_at
numbered_for false listed k h = single h refl
numbered_for true listed k h = elim (dec_le (length listed) k) [
  | no lt ↦
      let b : k < length listed = lt_of_not-le lt in
      single b (get_or-append listed (map (cell_of_pair listed) (pairs_of listed)) no_cell k b)
  | yes le ↦
      let within : k - length listed < length (pairs_of listed) =
      (let a = length-append listed (map (cell_of_pair listed) (pairs_of listed)) in let c = length-map (cell_of_pair listed) (pairs_of listed) in omega (arith, a, c)) in
      double le (unfold pairs_of joins in let n = length listed in let b = each_out _ (below n)
      (get_or_in (pairs_of listed) (k - length listed) no_pair within) in let d = each_out _ (below (get_or listed b.0 no_cell).pins) b.2 in
      let e = map_out _ (keep (λ (j : ℕ). joins (get_or listed b.0 no_cell) (get_or listed j no_cell)) (below n)) d.2 in let k = keep_out
      (λ (j : ℕ). joins (get_or listed b.0 no_cell) (get_or listed j no_cell)) (below n) e.1 in let q = and_yes
      (leb 1 (get_or listed e.0 no_cell).pins) (leb ((get_or listed b.0 no_cell).pins + (get_or listed e.0 no_cell).pins) 5) k.1 in subst
      (OfPair listed) (sym e.2) (record {
        has_root = get_or_in listed b.0 no_cell (below_out n b.0 b.1);
        has_inner = get_or_in listed e.0 no_cell (below_out n e.0 k.0);
        has_pin = below_out (get_or listed b.0 no_cell).pins d.0 d.1;
        some_pin = leb_yes q.0;
        few = leb_yes q.1;
      }))
      (get_or-behind listed (map (cell_of_pair listed) (pairs_of listed)) no_cell k le ∙ get_or_of_map (cell_of_pair listed) (pairs_of listed) no_pair no_cell (k - length listed) within)
]

-- the cells that a call maps with, pairs wanted or not
pub fitting : (paired : Bool) (listed : List Cell) → T (library_fits listed) → Fitting listed (cells_for paired listed)
fitting paired listed fit = record { fits = fit; numbered = numbered_for paired listed }
