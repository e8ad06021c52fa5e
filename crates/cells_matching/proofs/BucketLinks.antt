-- The match table of a library: the bucket of each table lists the variants that have it and are tried, ascending, with what feeds them; the delays are the cells'.
--     linked_lower        the lower bound of a bucket may be lowered
--     linked_same         what else is on the match table is no part of a bucket
--     passed-down, listed-down        the code goes from the highest down; `passed_append`, `passed_stale`: over those that are not tried
--     pushed_long, .. list_long       the match table stays as long as it is
--     list_matches          after all cells the match table is theirs
--     library_in_bounds      a library of cells with few pins and small delays may be asked
use Rattle.base.specs.{ℕ, zero, suc, ◌+◌, ◌-◌, ◌*◌, ◌/◌, ◌<◌, ◌≤◌, ◌≡◌, refl, sym, ap, ap₂, subst, ◌∙◌, Bool, true, false, cond, ◌&&◌, List}
use Rattle.base.specs.{[], ◌∷◌, add-zero, zero-add, add-suc, suc-add, arith, eqb, replicate, length, get_or, set, drop, length-set}
use Rattle.base.specs.{drop_of_length-le, take-append_seam, get_or-set_same, get_or-set_other, drop-cons, eqb-true, eqb-false}
use Rattle.model.specs.{keep, from, below, no_cell, blank, cell_at, cells_of, library_of, value, pin_row}
use Rattle.model.specs.declared.Cell.{Cell}
use Rattle.base_truth.specs.{places_of, variant_table}
use Rattle.base_truth.proofs.{table-small}
use Rattle.cells_matching.specs.{LibraryInBounds, Matchable, line_of, order_of, mask_of, table_at, fresh, is_fresh, fresh_with, fresh_ones, link_addr}
use Rattle.cells_matching.specs.{pick_addr, delay_addr, match_table_length, word_of, pick_at, delay_of, pushed, prepended, passed, timed, cell_matched}
use Rattle.cells_matching.specs.{list_matched, Linked, MatchTable, Blank}
use Rattle.cells_matching.proofs.BestMatch.{by_bool}

pub linked_lower : (cells : List Cell) (s : List ℕ) (low lower h : ℕ) (xs : List ℕ) → lower ≤ low → Linked cells s low h xs → Linked cells s lower h xs
unfolding Linked
linked_lower cells s low lower h [] l k = k
linked_lower cells s low lower h (x ∷ xs) l k = (k.0, omega (arith, k.1), k.2, k.3, k.4)

-- two match tables have the same words for the variants from low on
abbrev Alike : List Cell → List ℕ → List ℕ → ℕ → Type 0
Alike cells s s' low =
    (y : ℕ) → low ≤ y → y < 384 * length cells → (get_or s' (link_addr y) 0 ≡ get_or s (link_addr y) 0) × (get_or s' (pick_addr y) 0 ≡ get_or s (pick_addr y) 0)

pub linked_same : (cells : List Cell) (s s' : List ℕ) (low h : ℕ) (xs : List ℕ) → Alike cells s s' low → Linked cells s low h xs → Linked cells s' low h xs
unfolding Linked
linked_same cells s s' low h [] same k = k
linked_same cells s s' low h (x ∷ xs) same k = (
  k.0,
  k.1,
  k.2,
  (same x k.1 k.2).1 ∙ k.3,
  rw (same x k.1 k.2).0 (linked_same cells s s' (suc x) (get_or s (link_addr x) 0) xs (λ y l. same y (omega (arith, k.1))) k.4),
)

-- ---- one variant

pub prepended-fresh : (pins table x t p : ℕ) (s : List ℕ) → fresh pins x ≡ true → t ≡ variant_table pins table (places_of (order_of x)) (mask_of x)
    → p ≡ word_of pins x → prepended pins table x s ≡ pushed t x p s
unfolding prepended
prepended-fresh pins table x t p s h e q = rw (h, e, q)

pub prepended-none : (pins table x : ℕ) (s : List ℕ) → fresh pins x ≡ false → prepended pins table x s ≡ s
unfolding prepended
prepended-none pins table x s h = rw h

-- ---- from the highest down

pub passed-down : (pins table base k n : ℕ) (s : List ℕ) → 0 < k → k ≤ n
    → prepended pins table (base + (k - 1)) (passed pins table (base + k) (n - k) s) ≡ passed pins table (base + (k - 1)) (n - (k - 1)) s
unfolding passed
passed-down pins table base zero n s l h = absurd (omega arith)
passed-down pins table base (suc q) n s l h =
    let p : suc q - 1 ≡ q = omega arith in
    let e : n - q ≡ suc (n - suc q) = omega arith in
    let b : base + suc q ≡ suc (base + q) = omega arith in
    rw (p, e, b)

pub passed_none : (pins table x : ℕ) (s : List ℕ) → s ≡ passed pins table x 0 s
unfolding passed
passed_none pins table x s = refl

-- some, and above them those that are not tried
pub passed_stale : (pins table x k : ℕ) (s : List ℕ) → ((i : ℕ) → i < k → fresh pins (x + i) ≡ false) → passed pins table x k s ≡ s
unfolding passed
passed_stale pins table x zero s h = refl
passed_stale pins table x (suc k) s h =
    prepended-none pins table x (passed pins table (suc x) k s) (rw add-zero at (h 0 (omega arith)))
    ∙ passed_stale pins table (suc x) k s (λ i l. subst (λ (y : ℕ). fresh pins y ≡ false) (add-suc x i ∙ sym (suc-add x i)) (h (suc i) (omega arith)))

pub passed_append : (pins table x a b : ℕ) (s : List ℕ) → passed pins table x (a + b) s ≡ passed pins table x a (passed pins table (x + a) b s)
unfolding passed
passed_append pins table x zero b s = ap₂ (λ (y n : ℕ). passed pins table y n s) (sym (add-zero x)) (zero-add b)
passed_append pins table x (suc a) b s =
    let e : x + suc a ≡ suc x + a = add-suc x a ∙ sym (suc-add x a) in
    rw (suc-add a b, e) (ap (prepended pins table x) (passed_append pins table (suc x) a b s))

pub listed-down : (cells : List Cell) (i : ℕ) (s : List ℕ) → 0 < i → i ≤ length cells
    → cell_matched (cell_at cells (i - 1)) (i - 1) (list_matched (drop i cells) i s) ≡ list_matched (drop (i - 1) cells) (i - 1) s
unfolding list_matched cell_at
listed-down cells zero s l h = absurd (omega arith)
listed-down cells (suc q) s l h =
    let p : suc q - 1 ≡ q = omega arith in
    rw p (sym (ap (λ (cs : List Cell). list_matched cs q s) (drop-cons cells q no_cell (omega arith))))

pub listed-none : (cells : List Cell) (n : ℕ) (s : List ℕ) → length cells ≤ n → s ≡ list_matched (drop n cells) n s
unfolding list_matched
listed-none cells n s h = sym (ap (λ (cs : List Cell). list_matched cs n s) (drop_of_length-le cells h))

pub listed-all : (cells : List Cell) (i : ℕ) (s : List ℕ) → i ≤ 0 → list_matched (drop i cells) i s ≡ list_matched cells 0 s
listed-all cells i s h = let z : i ≡ 0 = omega arith in rw z

-- ---- a variant put on the match table

-- the length stays
pub pushed_long : (t x p : ℕ) (s : List ℕ) → length (pushed t x p s) ≡ length s
unfolding pushed
pushed_long t x p s =
    length-set (set (set s (link_addr x) (get_or s t 0)) t (x + 1)) (pick_addr x) p
    ∙ length-set (set s (link_addr x) (get_or s t 0)) t (x + 1) ∙ length-set s (link_addr x) (get_or s t 0)

pub prepended-long : (pins table x : ℕ) (s : List ℕ) → length (prepended pins table x s) ≡ length s
unfolding prepended
prepended-long pins table x s = go (fresh pins x)
  where
    there : List ℕ
    there = pushed (variant_table pins table (places_of (order_of x)) (mask_of x)) x (word_of pins x) s

    go : (b : Bool) → length (cond b there s) ≡ length s
    go true = pushed_long (variant_table pins table (places_of (order_of x)) (mask_of x)) x (word_of pins x) s
    go false = refl

pub passed-long : (pins table x k : ℕ) (s : List ℕ) → length (passed pins table x k s) ≡ length s
unfolding passed
passed-long pins table x zero s = refl
passed-long pins table x (suc k) s = prepended-long pins table x (passed pins table (suc x) k s) ∙ passed-long pins table (suc x) k s

pub timed-long : (pins : ℕ) (delays : List ℕ) (line : ℕ) (s : List ℕ) → length (timed pins delays line s) ≡ length s
unfolding timed
timed-long pins delays line s =
    length-set (set (set (set s (delay_addr line 0) (delay_of pins delays 0)) (delay_addr line 1) (delay_of pins delays 1)) (delay_addr line 2) (delay_of pins delays 2)) (delay_addr line 3) (delay_of pins delays 3)
    ∙ length-set (set (set s (delay_addr line 0) (delay_of pins delays 0)) (delay_addr line 1) (delay_of pins delays 1)) (delay_addr line 2) (delay_of pins delays 2)
    ∙ length-set (set s (delay_addr line 0) (delay_of pins delays 0)) (delay_addr line 1) (delay_of pins delays 1)
    ∙ length-set s (delay_addr line 0) (delay_of pins delays 0)

pub cell-long : (c : Cell) (line : ℕ) (s : List ℕ) → length (cell_matched c line s) ≡ length s
unfolding cell_matched
cell-long c line s = passed-long c.pins c.table (384 * line) 384 (timed c.pins c.delays line s) ∙ timed-long c.pins c.delays line s

pub list_long : (cs : List Cell) (line : ℕ) (s : List ℕ) → length (list_matched cs line s) ≡ length s
unfolding list_matched
list_long [] line s = refl
list_long (c ∷ cs) line s = cell-long c line (list_matched cs (suc line) s) ∙ list_long cs (suc line) s

module _ (t x p : ℕ) (s : List ℕ) (table : t < 65536) (there : pick_addr x < length s) where
  linked : List ℕ
  linked = set s (link_addr x) (get_or s t 0)

  once : List ℕ
  once = set linked t (x + 1)

  once-long : length once ≡ length s
  unfolding once linked
  once-long = length-set linked t (x + 1) ∙ length-set s (link_addr x) (get_or s t 0)

  pushed_pick : get_or (pushed t x p s) (pick_addr x) 0 ≡ p
  unfolding pushed once linked
  pushed_pick = get_or-set_same once (pick_addr x) p 0 (omega (arith, once-long))

  pushed-head : get_or (pushed t x p s) t 0 ≡ x + 1
  unfolding pushed once linked
  pushed-head = get_or-set_other once (pick_addr x) t p 0 (λ e. omega (arith, e))
      ∙ get_or-set_same linked t (x + 1) 0 (omega (arith, length-set s (link_addr x) (get_or s t 0)))

  pushed_link : get_or (pushed t x p s) (link_addr x) 0 ≡ get_or s t 0
  unfolding pushed once linked
  pushed_link = get_or-set_other once (pick_addr x) (link_addr x) p 0 (λ e. omega (arith, e)) ∙ get_or-set_other linked t (link_addr x) (x + 1) 0 (λ e. omega (arith, e))
      ∙ get_or-set_same s (link_addr x) (get_or s t 0) 0 (omega arith)

  pushed_other : (a : ℕ) → ¬ (a ≡ link_addr x) → ¬ (a ≡ t) → ¬ (a ≡ pick_addr x) → get_or (pushed t x p s) a 0 ≡ get_or s a 0
  unfolding pushed once linked
  pushed_other a l h k = get_or-set_other once (pick_addr x) a p 0 k ∙ get_or-set_other linked t a (x + 1) 0 h ∙ get_or-set_other s (link_addr x) a (get_or s t 0) 0 l

-- ---- the buckets

-- what holds after the variants from x on, k of them, and the delays of the lines from `done` on
record After (cells : List Cell) (done x k : ℕ) (s : List ℕ) : Type 0 where
  long : match_table_length (length cells) ≤ length s
  listed : (t : ℕ) → t < 65536 → Linked cells s x (get_or s t 0) (keep (fresh_with cells t) (from x k))
  delayed : (line j : ℕ) → done ≤ line → line < length cells → j < 4 → get_or s (delay_addr line j) 0 ≡ delay_of (cell_at cells line).pins (cell_at cells line).delays j

module _ (cells : List Cell) (done x k : ℕ) (few : x < 384 * length cells) (fits : length cells ≤ 256) (s : List ℕ) (after : After cells done (suc x) k s) where
  kept-none : is_fresh cells x ≡ false → (t : ℕ) → keep (fresh_with cells t) (from x (suc k)) ≡ keep (fresh_with cells t) (from (suc x) k)
  unfolding keep from fresh_with
  kept-none e t =
      ap (λ (a : Bool). cond (a && eqb t (table_at cells x)) (x ∷ keep (fresh_with cells t) (from (suc x) k)) (keep (fresh_with cells t) (from (suc x) k))) e

  kept_other : is_fresh cells x ≡ true → (t : ℕ) → eqb t (table_at cells x) ≡ false → keep (fresh_with cells t) (from x (suc k)) ≡ keep (fresh_with cells t) (from (suc x) k)
  unfolding keep from fresh_with
  kept_other e t q =
      ap₂ (λ (a b : Bool). cond (a && b) (x ∷ keep (fresh_with cells t) (from (suc x) k)) (keep (fresh_with cells t) (from (suc x) k))) e q

  kept-own : is_fresh cells x ≡ true → (t : ℕ) → eqb t (table_at cells x) ≡ true → keep (fresh_with cells t) (from x (suc k)) ≡ x ∷ keep (fresh_with cells t) (from (suc x) k)
  unfolding keep from fresh_with
  kept-own e t q =
      ap₂ (λ (a b : Bool). cond (a && b) (x ∷ keep (fresh_with cells t) (from (suc x) k)) (keep (fresh_with cells t) (from (suc x) k))) e q

  -- one that is not tried
  skipped : is_fresh cells x ≡ false → After cells done x (suc k) s
  skipped e = record {
    long = after.long;
    listed = λ t h. rw (kept-none e t) (linked_lower cells s (suc x) x (get_or s t 0) (keep (fresh_with cells t) (from (suc x) k)) (omega arith) (after.listed t h));
    delayed = after.delayed;
  }

  small : table_at cells x < 65536
  unfolding table_at variant_table
  small = table-small (λ r. value (cell_at cells (line_of x)).table (pin_row (cell_at cells (line_of x)).pins (places_of (order_of x)) (mask_of x) r))

  there : pick_addr x < length s
  there = omega (arith, after.long)

  next : List ℕ
  next = pushed (table_at cells x) x (pick_at cells x) s

  alike : Alike cells s next (suc x)
  unfolding next
  alike y l h = (
    pushed_other (table_at cells x) x (pick_at cells x) s small there (link_addr y) (λ e. omega (arith, e)) (λ e. omega (arith, e, small)) (λ e. omega (arith, e)),
    pushed_other (table_at cells x) x (pick_at cells x) s small there (pick_addr y) (λ e. omega (arith, e)) (λ e. omega (arith, e, small)) (λ e. omega (arith, e)),
  )

  -- another table
  other : (t : ℕ) → t < 65536 → ¬ (t ≡ table_at cells x) → Linked cells next x (get_or next t 0) (keep (fresh_with cells t) (from (suc x) k))
  unfolding next
  other t h apart =
      rw (pushed_other (table_at cells x) x (pick_at cells x) s small there t (λ e. omega (arith, e)) apart (λ e. omega (arith, e)))
      (linked_lower cells (pushed (table_at cells x) x (pick_at cells x) s) (suc x) x (get_or s t 0) (keep (fresh_with cells t) (from (suc x) k)) (omega arith)
      (linked_same cells s (pushed (table_at cells x) x (pick_at cells x) s) (suc x) (get_or s t 0) (keep (fresh_with cells t) (from (suc x) k)) alike (after.listed t h)))

  -- the variant's own table
  own : (t : ℕ) → t ≡ table_at cells x → Linked cells next x (get_or next t 0) (x ∷ keep (fresh_with cells t) (from (suc x) k))
  unfolding next Linked
  own t e =
      rw e (
        pushed-head (table_at cells x) x (pick_at cells x) s small there,
        omega arith,
        few,
        pushed_pick (table_at cells x) x (pick_at cells x) s small there,
        rw (pushed_link (table_at cells x) x (pick_at cells x) s small there)
            (linked_same cells s (pushed (table_at cells x) x (pick_at cells x) s) (suc x) (get_or s (table_at cells x) 0) (keep (fresh_with cells (table_at cells x)) (from (suc x) k)) alike (after.listed (table_at cells x) small)),
      )

  put_first : is_fresh cells x ≡ true → After cells done x (suc k) next
  unfolding next
  put_first e = record {
    long = omega (arith, after.long, pushed_long (table_at cells x) x (pick_at cells x) s);
    listed = λ t h. by_bool (eqb t (table_at cells x))
        (λ q. rw (kept-own e t q) (own t (eqb-true t (table_at cells x) q)))
        (λ q. rw (kept_other e t q) (other t h (eqb-false t (table_at cells x) q)));
    delayed = λ line j d l f.
        pushed_other (table_at cells x) x (pick_at cells x) s small there (delay_addr line j) (λ e. omega (arith, e)) (λ e. omega (arith, e, small)) (λ e. omega (arith, e))
        ∙ after.delayed line j d l f;
  }

  tried : is_fresh cells x ≡ true → prepended (cell_at cells (line_of x)).pins (cell_at cells (line_of x)).table x s ≡ next
  unfolding is_fresh table_at pick_at next
  tried e = prepended-fresh (cell_at cells (line_of x)).pins (cell_at cells (line_of x)).table x (table_at cells x) (pick_at cells x) s e refl refl

  untried : is_fresh cells x ≡ false → prepended (cell_at cells (line_of x)).pins (cell_at cells (line_of x)).table x s ≡ s
  unfolding is_fresh
  untried e = prepended-none (cell_at cells (line_of x)).pins (cell_at cells (line_of x)).table x s e

  one_more_lem : After cells done x (suc k) (prepended (cell_at cells (line_of x)).pins (cell_at cells (line_of x)).table x s)
  one_more_lem = by_bool (is_fresh cells x)
      (λ e. rw (tried e) (put_first e))
      (λ e. rw (untried e) (skipped e))

-- ---- the delays

module _ (pins : ℕ) (delays : List ℕ) (line : ℕ) (s : List ℕ) (within : line < 256) (long : 66560 ≤ length s) where
  timed_other : (a : ℕ) → ((j : ℕ) → j < 4 → ¬ (a ≡ delay_addr line j)) → get_or (timed pins delays line s) a 0 ≡ get_or s a 0
  unfolding timed
  timed_other a apart =
      get_or-set_other (set (set (set s (delay_addr line 0) (delay_of pins delays 0)) (delay_addr line 1) (delay_of pins delays 1)) (delay_addr line 2) (delay_of pins delays 2)) (delay_addr line 3) a (delay_of pins delays 3) 0 (apart 3 (omega arith))
      ∙ get_or-set_other (set (set s (delay_addr line 0) (delay_of pins delays 0)) (delay_addr line 1) (delay_of pins delays 1)) (delay_addr line 2) a (delay_of pins delays 2) 0 (apart 2 (omega arith))
      ∙ get_or-set_other (set s (delay_addr line 0) (delay_of pins delays 0)) (delay_addr line 1) a (delay_of pins delays 1) 0 (apart 1 (omega arith))
      ∙ get_or-set_other s (delay_addr line 0) a (delay_of pins delays 0) 0 (apart 0 (omega arith))

  timed-own : (j : ℕ) → j < 4 → get_or (timed pins delays line s) (delay_addr line j) 0 ≡ delay_of pins delays j
  unfolding timed
  timed-own zero h =
      get_or-set_other (set (set (set s (delay_addr line 0) (delay_of pins delays 0)) (delay_addr line 1) (delay_of pins delays 1)) (delay_addr line 2) (delay_of pins delays 2)) (delay_addr line 3) (delay_addr line 0) (delay_of pins delays 3) 0 (λ e. omega (arith, e))
      ∙ get_or-set_other (set (set s (delay_addr line 0) (delay_of pins delays 0)) (delay_addr line 1) (delay_of pins delays 1)) (delay_addr line 2) (delay_addr line 0) (delay_of pins delays 2) 0 (λ e. omega (arith, e))
      ∙ get_or-set_other (set s (delay_addr line 0) (delay_of pins delays 0)) (delay_addr line 1) (delay_addr line 0) (delay_of pins delays 1) 0 (λ e. omega (arith, e))
      ∙ get_or-set_same s (delay_addr line 0) (delay_of pins delays 0) 0 (omega arith)
  timed-own (suc zero) h =
      get_or-set_other (set (set (set s (delay_addr line 0) (delay_of pins delays 0)) (delay_addr line 1) (delay_of pins delays 1)) (delay_addr line 2) (delay_of pins delays 2)) (delay_addr line 3) (delay_addr line 1) (delay_of pins delays 3) 0 (λ e. omega (arith, e))
      ∙ get_or-set_other (set (set s (delay_addr line 0) (delay_of pins delays 0)) (delay_addr line 1) (delay_of pins delays 1)) (delay_addr line 2) (delay_addr line 1) (delay_of pins delays 2) 0 (λ e. omega (arith, e))
      ∙ get_or-set_same (set s (delay_addr line 0) (delay_of pins delays 0)) (delay_addr line 1) (delay_of pins delays 1) 0 (omega (arith, length-set s (delay_addr line 0) (delay_of pins delays 0)))
  timed-own (suc (suc zero)) h =
      get_or-set_other (set (set (set s (delay_addr line 0) (delay_of pins delays 0)) (delay_addr line 1) (delay_of pins delays 1)) (delay_addr line 2) (delay_of pins delays 2)) (delay_addr line 3) (delay_addr line 2) (delay_of pins delays 3) 0 (λ e. omega (arith, e))
      ∙ get_or-set_same (set (set s (delay_addr line 0) (delay_of pins delays 0)) (delay_addr line 1) (delay_of pins delays 1)) (delay_addr line 2) (delay_of pins delays 2) 0
      (omega (arith, length-set (set s (delay_addr line 0) (delay_of pins delays 0)) (delay_addr line 1) (delay_of pins delays 1), length-set s (delay_addr line 0) (delay_of pins delays 0)))
  timed-own (suc (suc (suc zero))) h =
      get_or-set_same (set (set (set s (delay_addr line 0) (delay_of pins delays 0)) (delay_addr line 1) (delay_of pins delays 1)) (delay_addr line 2) (delay_of pins delays 2)) (delay_addr line 3) (delay_of pins delays 3) 0
      (omega (arith, length-set (set (set s (delay_addr line 0) (delay_of pins delays 0)) (delay_addr line 1) (delay_of pins delays 1)) (delay_addr line 2) (delay_of pins delays 2), length-set (set s (delay_addr line 0) (delay_of pins delays 0)) (delay_addr line 1) (delay_of pins delays 1), length-set s (delay_addr line 0) (delay_of pins delays 0)))
  timed-own (suc (suc (suc (suc j)))) h = absurd (omega arith)

-- ---- all cells

matched-none : (line : ℕ) (s : List ℕ) → s ≡ list_matched [] line s
unfolding list_matched
matched-none line s = refl

matched-more : (c : Cell) (cs : List Cell) (line : ℕ) (s : List ℕ) → cell_matched c line (list_matched cs (suc line) s) ≡ list_matched (c ∷ cs) line s
unfolding list_matched
matched-more c cs line s = refl

first_cell : (c : Cell) (cs : List Cell) → cell_at (c ∷ cs) 0 ≡ c
unfolding cell_at
first_cell c cs = refl

next-cell : (c : Cell) (cs : List Cell) (i : ℕ) → cell_at (c ∷ cs) (suc i) ≡ cell_at cs i
unfolding cell_at
next-cell c cs i = refl

module _ (cells : List Cell) (fits : length cells ≤ 256) where
  -- the delays of one line more
  lined : (line k : ℕ) (s : List ℕ) → line < length cells → After cells (suc line) (384 * suc line) k s
      → After cells line (384 * suc line) k (timed (cell_at cells line).pins (cell_at cells line).delays line s)
  lined line k s h after = record {
    long = omega (arith, after.long, timed-long pins delays line s);
    listed = λ t small.
        rw (timed_other pins delays line s within there t (λ j l e. omega (arith, e)))
        (linked_same cells s (timed pins delays line s) (384 * suc line) (get_or s t 0) (keep (fresh_with cells t) (from (384 * suc line) k)) alike (after.listed t small));
    delayed = λ l j d i f. by_bool (eqb l line)
        (λ q. rw (eqb-true l line q) (timed-own pins delays line s within there j f))
        (λ q. let apart : ¬ (l ≡ line) = eqb-false l line q in
        timed_other pins delays line s within there (delay_addr l j) (λ n b e. apart (omega (arith, e))) ∙ after.delayed l j (omega (arith, apart)) i f);
  }
    where
      pins : ℕ
      pins = (cell_at cells line).pins

      delays : List ℕ
      delays = (cell_at cells line).delays

      within : line < 256
      within = omega arith

      there : 66560 ≤ length s
      there = omega (arith, after.long)

      alike : Alike cells s (timed pins delays line s) (384 * suc line)
      alike y l b = (timed_other pins delays line s within there (link_addr y) (λ j l e. omega (arith, e)), timed_other pins delays line s within there (pick_addr y) (λ j l e. omega (arith, e)))

  -- the variants of a line
  celled : (line k : ℕ) (s : List ℕ) → line < length cells → After cells line (384 * suc line) k s
      → (n i : ℕ) → i + n ≡ 384 → After cells line (384 * line + i) (n + k) (passed (cell_at cells line).pins (cell_at cells line).table (384 * line + i) n s)
  unfolding passed
  celled line k s h after zero i e =
      let b : 384 * line + i ≡ 384 * suc line = omega arith in
      rw (b, zero-add k) after
  celled line k s h after (suc n) i e =
      let b : suc (384 * line + i) ≡ 384 * line + suc i = omega arith in
      let o : (384 * line + i) / 384 ≡ line = omega arith in
      let more : After cells line (suc (384 * line + i)) (n + k) (passed (cell_at cells line).pins (cell_at cells line).table (suc (384 * line + i)) n s) = rw b (celled line k s h after n (suc i) (omega arith)) in
      rw (suc-add n k)
      (subst (λ (l : ℕ). After cells line (384 * line + i) (suc (n + k)) (prepended (cell_at cells l).pins (cell_at cells l).table (384 * line + i) (passed (cell_at cells line).pins (cell_at cells line).table (suc (384 * line + i)) n s))) o
      (one_more_lem cells line (384 * line + i) (n + k) (omega arith) (omega arith) (passed (cell_at cells line).pins (cell_at cells line).table (suc (384 * line + i)) n s) more))

  matched : (line k : ℕ) (s : List ℕ) → line < length cells → After cells (suc line) (384 * suc line) k s
      → After cells line (384 * line) (384 + k) (cell_matched (cell_at cells line) line s)
  unfolding cell_matched
  matched line k s h after =
      rw add-zero at (celled line k (timed (cell_at cells line).pins (cell_at cells line).delays line s) h (lined line k s h after) 384 0 (zero-add 384))

  -- no cell, from a match table whose buckets are empty
  none-matched : (line : ℕ) (s : List ℕ) → length cells ≤ line → match_table_length (length cells) ≤ length s → ((t : ℕ) → t < 65536 → get_or s t 0 ≡ 0) → After cells line (384 * line) 0 s
  unfolding keep from Linked
  none-matched line s e long zeros = record { long = long; listed = λ t h. zeros t h; delayed = λ l j d i f. absurd (omega arith) }

  all-matched : (cs : List Cell) (line : ℕ) (s : List ℕ) → line + length cs ≡ length cells → ((i : ℕ) → cell_at cs i ≡ cell_at cells (line + i))
      → match_table_length (length cells) ≤ length s → ((t : ℕ) → t < 65536 → get_or s t 0 ≡ 0) → After cells line (384 * line) (384 * length cs) (list_matched cs line s)
  all-matched [] line s e same long zeros = subst (After cells line (384 * line) 0) (matched-none line s) (none-matched line s (omega arith) long zeros)
  all-matched (c ∷ cs) line s e same long zeros =
      let k : 384 + 384 * length cs ≡ 384 * suc (length cs) = omega arith in
      let here : cell_at cells line ≡ c = sym (same 0 ∙ ap (cell_at cells) (add-zero line)) ∙ first_cell c cs in
      let rest : List ℕ = list_matched cs (suc line) s in
      subst (λ (n : ℕ). After cells line (384 * line) n (list_matched (c ∷ cs) line s)) k
      (subst (After cells line (384 * line) (384 + 384 * length cs)) (ap (λ (d : Cell). cell_matched d line rest) here ∙ matched-more c cs line s)
      (matched line (384 * length cs) rest (omega arith)
      (all-matched cs (suc line) s (omega arith) (λ i. sym (next-cell c cs i) ∙ same (suc i) ∙ ap (cell_at cells) (add-suc line i ∙ sym (suc-add line i))) long zeros)))

  all-matches : Matchable cells → (s : List ℕ) → Blank (length cells) s → MatchTable cells (list_matched cells 0 s)
  unfolding fresh_ones below
  all-matches ready s blank =
      let a = all-matched cells 0 s (zero-add (length cells)) (λ i. ap (cell_at cells) (sym (zero-add i))) blank.long blank.empty in
      record { matchable = ready; long = a.long; chained = a.listed; delayed = λ line j l f. a.delayed line j (omega arith) l f }

-- from a match table with nothing on it, after all cells the match table is theirs
pub list_matches : (cells : List Cell) → Matchable cells → (s : List ℕ) → Blank (length cells) s → MatchTable cells (list_matched cells 0 s)
list_matches cells ready s blank = all-matches cells ready.few ready s blank

-- ---- the library of some cells

cells_of_lem : (cells : List Cell) → cells_of (library_of cells) ≡ cells
unfolding cells_of library_of
cells_of_lem cells = take-append_seam cells (replicate (32 - length cells) blank)

cells_count : (cells : List Cell) → (library_of cells).n ≡ length cells
unfolding library_of
cells_count cells = refl

pub library_in_bounds : (cells : List Cell) → length cells ≤ 32 → ((c : ℕ) → (cell_at cells c).pins ≤ 4) → ((c j : ℕ) → get_or (cell_at cells c).delays j 0 < 65536)
    → LibraryInBounds (library_of cells)
library_in_bounds cells few four small = record {
  whole = ap length (cells_of_lem cells) ∙ sym (cells_count cells);
  few = rw cells_count few;
  pins = λ c. rw cells_of_lem (four c);
  delays = λ c j. rw cells_of_lem (small c j);
}
