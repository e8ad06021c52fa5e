-- What the merge of two packed cuts goes by.
--     pack-digits                 four digits are the leaves of a cut
--     left_leads ..               of two heads the greater digit is the lesser leaf
--     key_more, leaf_fits         the key of a union with one leaf more
--     Merged                      the merge under way; `start`, `on-left`, `on-right`, `on_both` its steps
--     over-left, over-right       a fifth leaf
--     at-end                      the union is done
--     barred                      masks with a bit in common say that a fifth leaf comes
use Rattle.base.specs.{◌≡◌, refl, sym, ap, ◌∙◌, Bool, true, false, cond, List, [], ◌∷◌, ◌++◌, append-nil, append_assoc, ℕ, zero, suc, ◌+◌}
use Rattle.base.specs.{◌-◌, ◌*◌, ◌/◌, ◌%◌, ◌^◌, ◌≤◌, ◌<◌, compare, add-one, arith, bit_and, bit_or, or_lt, and_comm, and_block, eqb, length}
use Rattle.base.specs.{take, get_or, length-append, pow-lt, get_or-take, length-take-le, eqb-true}
use Rattle.model.specs.{union}
use Rattle.base_words.specs.{Leaves, Good}
use Rattle.cut_lists.specs.{key_from, key, Digit, pack, signature, conflict_mask, column_mask, merge_row_mask, unit_at}
use Rattle.cut_lists.proofs.LeafSignatures.{Within, signed, within_conflict}
use Rattle.cut_lists.proofs.CutMerge.{three, union-long, first_less, first-same, union-past, union_nil}
use Rattle.cut_lists.proofs.MergeRows.{leaves-from, leaves-rising, left-wide, right-wide}

-- a leaf is a variable
leaf_low : (lo : ℕ) (c : List ℕ) (i : ℕ) → Leaves lo c → i < length c → get_or c i 0 < 4096
leaf_low lo [] i g h = absurd (omega arith)
leaf_low lo (x ∷ c) zero g h = g.1
leaf_low lo (x ∷ c) (suc i) g h = leaf_low (suc x) c i g.2 (omega arith)

pub leaf_small : (ls : List ℕ) (n i : ℕ) → n ≤ length ls → Good (take n ls) → i < n → get_or ls i 0 < 4096
leaf_small ls n i long g h =
    omega (arith, get_or-take n ls i 0 h, leaf_low 0 (take n ls) i g.1 (omega (arith, length-take-le n ls long)))

pub pack-digits : (ls : List ℕ) (n a b c d : ℕ) → length ls ≡ 4 → n ≤ 4 → Digit ls n 0 a → Digit ls n 1 b → Digit ls n 2 c → Digit ls n 3 d
    → a + 65536 * (b + 65536 * (c + 65536 * d)) ≡ pack (take n ls)
unfolding pack
pack-digits [] n a b c d l h da db dc dd = absurd (omega arith)
pack-digits (w ∷ []) n a b c d l h da db dc dd = absurd (omega arith)
pack-digits (w ∷ x ∷ []) n a b c d l h da db dc dd = absurd (omega arith)
pack-digits (w ∷ x ∷ y ∷ []) n a b c d l h da db dc dd = absurd (omega arith)
pack-digits (w ∷ x ∷ y ∷ z ∷ e ∷ ls) n a b c d l h da db dc dd = absurd (omega arith)
pack-digits (w ∷ x ∷ y ∷ z ∷ []) zero a b c d l h da db dc dd =
    omega (arith, da.past (omega arith), db.past (omega arith), dc.past (omega arith), dd.past (omega arith))
pack-digits (w ∷ x ∷ y ∷ z ∷ []) (suc zero) a b c d l h da db dc dd =
    omega (arith, da.there (omega arith), db.past (omega arith), dc.past (omega arith), dd.past (omega arith))
pack-digits (w ∷ x ∷ y ∷ z ∷ []) (suc (suc zero)) a b c d l h da db dc dd =
    omega (arith, da.there (omega arith), db.there (omega arith), dc.past (omega arith), dd.past (omega arith))
pack-digits (w ∷ x ∷ y ∷ z ∷ []) (suc (suc (suc zero))) a b c d l h da db dc dd =
    omega (arith, da.there (omega arith), db.there (omega arith), dc.there (omega arith), dd.past (omega arith))
pack-digits (w ∷ x ∷ y ∷ z ∷ []) (suc (suc (suc (suc zero)))) a b c d l h da db dc dd =
    omega (arith, da.there (omega arith), db.there (omega arith), dc.there (omega arith), dd.there (omega arith))
pack-digits (w ∷ x ∷ y ∷ z ∷ []) (suc (suc (suc (suc (suc n))))) a b c d l h da db dc dd = absurd (omega arith)

-- the first digit is that of the first leaf, and the others are those of the rest
pack-is : (x : ℕ) (A : List ℕ) → pack (x ∷ A) ≡ (4096 - x) + 65536 * pack A
unfolding pack
pack-is x A = refl

-- the first leaf of A, and what is left then
pub record Led (A : List ℕ) (leaf : ℕ) (rest : List ℕ) : Type 0 where
  pub low : leaf < 4096
  pub good : Leaves 0 rest
  pub long : length A ≡ suc (length rest)
  pub digit : pack A % 65536 ≡ 4096 - leaf
  pub past : pack A / 65536 ≡ pack rest

led : (x : ℕ) (A : List ℕ) → Leaves 0 (x ∷ A) → Led (x ∷ A) x A
led x A g =
    record {
      low = g.1;
      good = leaves-from A (omega arith) g.2;
      long = refl;
      digit = omega (arith, pack-is x A, g.1);
      past = omega (arith, pack-is x A, g.1);
    }

none : pack [] ≡ 0
unfolding pack
none = refl

nothing-before : (y : ℕ) (B : List ℕ) → union compare [] (y ∷ B) ≡ y ∷ union compare [] B
unfolding union
nothing-before y B = refl

nothing_left_lem : (ls : List ℕ) → ls ++ union compare [] [] ≡ ls
unfolding union
nothing_left_lem ls = append-nil ls

-- the first cut's head is the lesser, the second's is, they are the same, or there is none
left_leads : (A B : List ℕ) → Leaves 0 A → Leaves 0 B → pack B % 65536 < pack A % 65536
    → (leaf : ℕ) × (rest : List ℕ) × Led A leaf rest × (union compare A B ≡ leaf ∷ union compare rest B)
left_leads [] B ga gb h = absurd (omega (arith, none))
left_leads (x ∷ A) [] ga gb h =
    (x, A, led x A ga, union_nil 0 (x ∷ A) (leaves-rising 0 (x ∷ A) ga) ∙ ap (λ (r : List ℕ). x ∷ r) (sym (union_nil (suc x) A (leaves-rising (suc x) A ga.2))))
left_leads (x ∷ A) (y ∷ B) ga gb h =
    let a = led x A ga in
    let b = led y B gb in
    (x, A, a, first_less x y A B (omega (arith, h, a.digit, b.digit, a.low, b.low)) (leaves-rising (suc x) A ga.2) (leaves-rising (suc y) B gb.2))

right_leads : (A B : List ℕ) → Leaves 0 A → Leaves 0 B → pack A % 65536 < pack B % 65536
    → (leaf : ℕ) × (rest : List ℕ) × Led B leaf rest × (union compare A B ≡ leaf ∷ union compare A rest)
right_leads A [] ga gb h = absurd (omega (arith, none))
right_leads [] (y ∷ B) ga gb h = (y, B, led y B gb, nothing-before y B)
right_leads (x ∷ A) (y ∷ B) ga gb h =
    let a = led x A ga in
    let b = led y B gb in
    (y, B, b, union-past y (x ∷ A) B (omega (arith, h, a.digit, b.digit, a.low, b.low), leaves-rising (suc x) A ga.2))

both-lead : (A B : List ℕ) → Leaves 0 A → Leaves 0 B → pack A % 65536 ≡ pack B % 65536 → 0 < pack A % 65536
    → (leaf : ℕ) × (first : List ℕ) × (second : List ℕ) × Led A leaf first × Led B leaf second × (union compare A B ≡ leaf ∷ union compare first second)
both-lead [] B ga gb e h = absurd (omega (arith, none))
both-lead (x ∷ A) [] ga gb e h = absurd (omega (arith, none))
both-lead (x ∷ A) (y ∷ B) ga gb e h =
    let a = led x A ga in
    let b = led y B gb in
    let same : x ≡ y = omega (arith, e, a.digit, b.digit, a.low, b.low) in
    (y, A, B, record { low = b.low; good = a.good; long = a.long; digit = a.digit ∙ ap (λ (z : ℕ). 4096 - z) same; past = a.past }, b, first-same x y A B same (leaves-rising (suc x) A ga.2))

none_leads : (A : List ℕ) → Leaves 0 A → pack A % 65536 ≡ 0 → A ≡ []
none_leads [] ga h = refl
none_leads (x ∷ A) ga h = let a = led x A ga in absurd (omega (arith, h, a.digit, a.low))

-- the key of a union with one leaf more, and that a key has room for it
key_more : (ls : List ℕ) (v : ℕ) → length ls ≤ 3 → key (ls ++ (v ∷ [])) ≡ key ls + 281474976710656 + v * unit_at (length ls)
unfolding key key_from unit_at
key_more [] v h = omega arith
key_more (a ∷ []) v h = omega arith
key_more (a ∷ b ∷ []) v h = omega arith
key_more (a ∷ b ∷ c ∷ []) v h = omega arith
key_more (a ∷ b ∷ c ∷ d ∷ ls) v h = absurd (omega arith)

leaf_fits : (n v : ℕ) → n ≤ 3 → v ≤ 4096 → v * unit_at n ≤ 281474976710656
unfolding unit_at
leaf_fits zero v h l = omega arith
leaf_fits (suc zero) v h l = omega arith
leaf_fits (suc (suc zero)) v h l = omega arith
leaf_fits (suc (suc (suc zero))) v h l = omega arith
leaf_fits (suc (suc (suc (suc n)))) v h l = absurd (omega arith)

next_unit : (n u : ℕ) → u ≡ unit_at n → u / 4096 ≡ unit_at (n + 1)
unfolding unit_at
next_unit n u e = rw add-one (ap (λ (x : ℕ). x / 4096) e)

begun : (0 ≡ key []) × (68719476736 ≡ unit_at 0)
unfolding key key_from unit_at
begun = (refl, refl)

-- p and n are a cut, packed, and its size
pub record Packs (p n : ℕ) (c : List ℕ) : Type 0 where
  pub is : p ≡ pack c
  pub size : n ≡ length c
  pub good : Good c

-- the merge of X and Y under way: what is left of them is packed in a and b, `ls` are the leaves that are done; a may have `left` leaves that b has not, and b `right`
pub record Merged (X Y : List ℕ) (left right a b done unit : ℕ) : Type 0 where
  pub ls : List ℕ
  pub A : List ℕ
  pub B : List ℕ
  pub first : a ≡ pack A
  pub second : b ≡ pack B
  pub first_good : Leaves 0 A
  pub second-good : Leaves 0 B
  pub left-capacity : left + (length ls + length B) ≡ 4
  pub right-capacity : right + (length ls + length A) ≡ 4
  pub sum : done ≡ key ls
  pub counts : unit ≡ unit_at (length ls)
  pub low : done ≤ length ls * 562949953421312
  pub whole : union compare X Y ≡ ls ++ union compare A B

pub start : (X Y : List ℕ) (xs xn ys yn : ℕ) → Packs xs xn X → Packs ys yn Y → Merged X Y (4 - yn) (4 - xn) xs ys 0 68719476736
start X Y xs xn ys yn p q =
    record {
      ls = [];
      A = X;
      B = Y;
      first = p.is;
      second = q.is;
      first_good = p.good.1;
      second-good = q.good.1;
      left-capacity = omega (arith, q.size, q.good.0);
      right-capacity = omega (arith, p.size, p.good.0);
      sum = begun.0;
      counts = begun.1;
      low = omega arith;
      whole = refl;
    }

module _ {X Y : List ℕ} {left right a b done unit : ℕ} (g : Merged X Y left right a b done unit) where
  -- there is room for a leaf more
  fits : (d : ℕ) → d ≤ 4096 → length g.ls ≤ 3 → (d ≤ 4096) × ((4096 - d) * unit ≤ 281474976710656) × (done ≤ 1688849860263936)
  fits d h r = (h, rw g.counts (leaf_fits (length g.ls) (4096 - d) r (omega arith)), omega (arith, g.low))

  -- the leaf that was next is done: what is left of either is as it was, or has lost it
  next : (v : ℕ) (A B : List ℕ) (l r a' b' d : ℕ) → v < 4096 → d ≡ 4096 - v → a' ≡ pack A → b' ≡ pack B → Leaves 0 A → Leaves 0 B
      → l + (length g.ls + 1 + length B) ≡ 4 → r + (length g.ls + 1 + length A) ≡ 4 → union compare g.A g.B ≡ v ∷ union compare A B
      → Merged X Y l r a' b' (done + 281474976710656 + (4096 - d) * unit) (unit / 4096)
  next v A B l r a' b' d low digit fa fb ga gb hl hr e =
      let more : length (g.ls ++ (v ∷ [])) ≡ length g.ls + 1 = length-append g.ls (v ∷ []) in
      let leaf : 4096 - d ≡ v = omega (arith, digit, low) in
      record {
        ls = g.ls ++ (v ∷ []);
        A = A;
        B = B;
        first = fa;
        second = fb;
        first_good = ga;
        second-good = gb;
        left-capacity = omega (arith, hl, more);
        right-capacity = omega (arith, hr, more);
        sum = (λ i. g.sum i + 281474976710656 + leaf i * g.counts i) ∙ sym (key_more g.ls v (omega (arith, hl)));
        counts = next_unit (length g.ls) unit g.counts ∙ ap unit_at (sym more);
        low = omega (arith, g.low, more, fits d (omega (arith, digit)) (omega (arith, hl)));
        whole = g.whole ∙ ap (λ (r : List ℕ). g.ls ++ r) e ∙ sym (append_assoc g.ls (v ∷ []) (union compare A B));
      }

  leads_left : b % 65536 < a % 65536
      → (leaf : ℕ) × (rest : List ℕ) × Led g.A leaf rest × (union compare g.A g.B ≡ leaf ∷ union compare rest g.B)
  leads_left h = left_leads g.A g.B g.first_good g.second-good (omega (arith, h, g.first, g.second))

  leads_right : a % 65536 < b % 65536
      → (leaf : ℕ) × (rest : List ℕ) × Led g.B leaf rest × (union compare g.A g.B ≡ leaf ∷ union compare g.A rest)
  leads_right h = right_leads g.A g.B g.first_good g.second-good (omega (arith, h, g.first, g.second))

  lead-both : a % 65536 ≡ b % 65536 → 0 < a % 65536
      → (leaf : ℕ) × (A : List ℕ) × (B : List ℕ) × Led g.A leaf A × Led g.B leaf B × (union compare g.A g.B ≡ leaf ∷ union compare A B)
  lead-both e h = both-lead g.A g.B g.first_good g.second-good (omega (arith, e, g.first, g.second)) (omega (arith, h, g.first))

  pub on-left : b % 65536 < a % 65536 → 0 < left → Merged X Y (left - 1) right (a / 65536) b (done + 281474976710656 + (4096 - a % 65536) * unit) (unit / 4096)
  on-left h r =
      let t = leads_left h in
      let e = t.2 in
      next t.0 t.1 g.B (left - 1) right (a / 65536) b (a % 65536) e.low (omega (arith, e.digit, g.first)) (omega (arith, e.past, g.first)) g.second e.good g.second-good
      (omega (arith, g.left-capacity, r)) (omega (arith, g.right-capacity, e.long)) t.3

  pub on-right : a % 65536 < b % 65536 → 0 < right → Merged X Y left (right - 1) a (b / 65536) (done + 281474976710656 + (4096 - b % 65536) * unit) (unit / 4096)
  on-right h r =
      let t = leads_right h in
      let e = t.2 in
      next t.0 g.A t.1 left (right - 1) a (b / 65536) (b % 65536) e.low (omega (arith, e.digit, g.second)) g.first (omega (arith, e.past, g.second)) g.first_good e.good
      (omega (arith, g.left-capacity, e.long)) (omega (arith, g.right-capacity, r)) t.3

  pub on_both : a % 65536 ≡ b % 65536 → 0 < a % 65536 → Merged X Y left right (a / 65536) (b / 65536) (done + 281474976710656 + (4096 - a % 65536) * unit) (unit / 4096)
  on_both q h =
      let t = lead-both q h in
      let e = t.3 in
      let f = t.4 in
      next t.0 t.1 t.2 left right (a / 65536) (b / 65536) (a % 65536) e.low (omega (arith, e.digit, g.first)) (omega (arith, e.past, g.first)) (omega (arith, f.past, g.second)) e.good f.good
      (omega (arith, g.left-capacity, f.long)) (omega (arith, g.right-capacity, e.long)) t.5

  -- there is room in a key for the leaf that is next
  pub left-fits : b % 65536 < a % 65536 → 0 < left → (a % 65536 ≤ 4096) × ((4096 - a % 65536) * unit ≤ 281474976710656) × (done ≤ 1688849860263936)
  left-fits h r = fits (a % 65536) (omega (arith, g.first, (leads_left h).2.digit)) (omega (arith, g.left-capacity, r))

  pub right-fits : a % 65536 < b % 65536 → 0 < right → (b % 65536 ≤ 4096) × ((4096 - b % 65536) * unit ≤ 281474976710656) × (done ≤ 1688849860263936)
  right-fits h r = fits (b % 65536) (omega (arith, g.second, (leads_right h).2.digit)) (omega (arith, g.right-capacity, r))

  pub both-fits : a % 65536 ≡ b % 65536 → 0 < a % 65536 → (a % 65536 ≤ 4096) × ((4096 - a % 65536) * unit ≤ 281474976710656) × (done ≤ 1688849860263936)
  both-fits q h =
      let e = (lead-both q h).3 in
      fits (a % 65536) (omega (arith, g.first, e.digit)) (omega (arith, g.right-capacity, e.long))

  pub over-left : b % 65536 < a % 65536 → left ≡ 0 → 4 < length (union compare X Y)
  over-left h r =
      let t = leads_left h in
      right-wide (union compare X Y) g.ls t.0 t.1 g.B (g.whole ∙ ap (λ (r : List ℕ). g.ls ++ r) t.3) (leaves-rising 0 t.1 t.2.good) (leaves-rising 0 g.B g.second-good)
      (omega (arith, g.left-capacity, r))

  pub over-right : a % 65536 < b % 65536 → right ≡ 0 → 4 < length (union compare X Y)
  over-right h r =
      let t = leads_right h in
      left-wide (union compare X Y) g.ls t.0 g.A t.1 (g.whole ∙ ap (λ (r : List ℕ). g.ls ++ r) t.3) (leaves-rising 0 g.A g.first_good) (leaves-rising 0 t.1 t.2.good)
      (omega (arith, g.right-capacity, r))

  pub at-end : a % 65536 ≡ 0 → b % 65536 ≡ 0 → (union compare X Y ≡ g.ls) × (left + length g.ls ≡ 4)
  at-end h k =
      let na : g.A ≡ [] = none_leads g.A g.first_good (omega (arith, h, g.first)) in
      let nb : g.B ≡ [] = none_leads g.B g.second-good (omega (arith, k, g.second)) in
      (g.whole ∙ (λ i. g.ls ++ union compare (na i) (nb i)) ∙ nothing_left_lem g.ls, omega (arith, g.left-capacity, ap length nb))

-- ---- masks

-- the signature of a packed cut is that of its leaves
signature-pack : (n : ℕ) (c : List ℕ) → length c ≤ n → Leaves 0 c → signature n (pack c) ≡ signed c
unfolding signature signed
signature-pack zero [] h g = refl
signature-pack zero (x ∷ c) h g = absurd (omega arith)
signature-pack (suc n) [] h g =
    let rest = rw none at (signature-pack n [] (omega arith) tt) in
    rw none (ap (λ (s : ℕ). bit_or s 1) rest)
signature-pack (suc n) (x ∷ c) h g =
    let a = led x c g in
    let low : pack (x ∷ c) % 32 ≡ (4096 - x) % 32 = omega (arith, pack-is x c) in
    rw (a.past, low, signature-pack n c (omega arith) a.good)

signature-small : (n p : ℕ) → signature n p < 4294967296
unfolding signature
signature-small zero p = omega arith
signature-small (suc n) p =
    let h : p % 32 < 32 = omega arith in
    or_lt 32 (signature n (p / 65536)) (2 ^ (p % 32)) (signature-small n (p / 65536)) (pow-lt h)

conflict_small : (n s : ℕ) → conflict_mask n s < 4294967296
unfolding conflict_mask
conflict_small n s = by (eqb n 4)
  where
    by : (t : Bool) → cond t (4294967295 - s) 0 < 4294967296
    by true = omega arith
    by false = omega arith

-- a cut that is within another of four leaves has nothing that this one shuts out
not_conflict : (A B : List ℕ) → Good A → Good B → (length B ≡ 4 → Within (signed A) (signed B))
    → bit_and (conflict_mask (length B) (signature 4 (pack B))) (signature 4 (pack A)) ≡ 0
unfolding conflict_mask
not_conflict A B ga gb full = by (eqb (length B) 4) refl
  where
    by : (t : Bool) → eqb (length B) 4 ≡ t → bit_and (cond t (4294967295 - signature 4 (pack B)) 0) (signature 4 (pack A)) ≡ 0
    by true e =
        within_conflict 32 (signature 4 (pack A)) (signature 4 (pack B)) (signature-small 4 (pack B))
        (rw (signature-pack 4 A ga.0 ga.1, signature-pack 4 B gb.0 gb.1) (full (eqb-true (length B) 4 e)))
    by false e = refl

masks_apart : (X Y : List ℕ) → Good X → Good Y → length (union compare X Y) ≤ 4
    → bit_and (column_mask (length Y) (pack Y)) (merge_row_mask (length X) (pack X)) ≡ 0
masks_apart X Y gx gy h =
    let sx : ℕ = signature 4 (pack X) in
    let sy : ℕ = signature 4 (pack Y) in
    let bx : ℕ = conflict_mask (length X) sx in
    let beside = union-long 0 X Y (leaves-rising 0 X gx.1) (leaves-rising 0 Y gy.1) in
    and_block 32 (conflict_mask (length Y) sy) sx sy bx (signature-small 4 (pack Y)) (conflict_small (length X) sx)
    ∙ rw (
      not_conflict X Y gx gy (λ e. beside.1.1 (omega (arith, h, e))),
      and_comm sy bx,
      not_conflict Y X gy gx (λ e. beside.0.1 (omega (arith, h, e))),
    )

pub barred : (X Y : List ℕ) {xs xn : ℕ} → Packs xs xn X → Good Y → ¬ (bit_and (column_mask (length Y) (pack Y)) (merge_row_mask xn xs) ≡ 0)
    → 4 < length (union compare X Y)
barred X Y p gy common =
    let apart : length (union compare X Y) ≤ 4 → ⊥ = λ h. common (rw (p.is, p.size) (masks_apart X Y p.good gy h)) in
    three 4 (length (union compare X Y)) (λ h. h) (λ e. absurd (apart (omega arith))) (λ h. absurd (apart (omega arith)))
