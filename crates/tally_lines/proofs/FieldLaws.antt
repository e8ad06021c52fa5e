-- The fields of a line, byte by byte and field by field:
--     end-span                             where a field ends
--     count-space, count-step, count_out   how many fields there are, by the byte at a place
--     field_part, field_fits, field_next   the bytes up to its end are the field, and behind it stand the others
use Rattle.base.specs.{ℕ, suc, ◌+◌, ◌-◌, ◌≤◌, ◌<◌, add-one, arith, ◌≡◌, refl, sym, ap, ◌∙◌, Bool, true, false, not, cond, List, [], ◌∷◌, ◌++◌, eqb}
use Rattle.base.specs.{length, take, drop, get_or, drop_of_length-le, length-append, length-drop, drop-cons, drop-drop, take_all}
use Rattle.base.specs.{take-append_seam, drop-append-add, eq-eqb, ne_eqb, eqb-true, le-leb, lt-leb}
use Rattle.std.specs.List.{filter}
use Rattle.model.specs.{fields, split, onto, span}
use Rattle.base_text.specs.{no_space, span_end}
use Rattle.tally_lines.specs.{fields_at, field_at, field_end}

-- ---- by bytes

-- a byte put in front of the first field
onto-first : (b : ℕ) (ws : List (List ℕ)) → get_or (onto b ws) 0 [] ≡ b ∷ get_or ws 0 []
unfolding onto
onto-first b [] = refl
onto-first b (w ∷ ws) = refl

onto-count : (b : ℕ) (ws : List (List ℕ)) → 0 < length ws → length (onto b ws) ≡ length ws
unfolding onto
onto-count b [] h = absurd (omega arith)
onto-count b (w ∷ ws) h = refl

-- a field reaches to the first space
first-span : (l : List ℕ) → get_or (fields l) 0 [] ≡ span no_space l
unfolding fields span
first-span [] = refl
first-span (b ∷ l) = go (eqb b 32) (first-span l)
  where
    go : (t : Bool) → get_or (fields l) 0 [] ≡ span no_space l → get_or (split t b (fields l)) 0 [] ≡ cond (not t) (b ∷ span no_space l) []
    go true e = unfold split in refl
    go false e = unfold split in onto-first b (fields l) ∙ ap (λ (x : List ℕ). b ∷ x) e

pub end-span : (w : List ℕ) (at : ℕ) → span_end no_space w at ≡ field_end w at
unfolding span_end field_end field_at
end-span w at = ap (λ (x : List ℕ). at + length x) (sym (first-span (drop at w)))

-- there is a first field
some_field : (l : List ℕ) → 0 < length (fields l)
unfolding fields
some_field [] = omega arith
some_field (b ∷ l) = go (eqb b 32) (some_field l)
  where
    go : (t : Bool) → 0 < length (fields l) → 0 < length (split t b (fields l))
    go true h = unfold split in omega arith
    go false h = unfold split in omega (arith, onto-count b (fields l) h)

module _ (w : List ℕ) (at : ℕ) (h : at < length w) where
  here : fields (drop at w) ≡ split (eqb (get_or w at 0) 32) (get_or w at 0) (fields (drop (at + 1) w))
  unfolding fields
  here = rw (add-one at, drop-cons w at 0 h)

  module _ (e : get_or w at 0 ≡ 32) where
    space : fields (drop at w) ≡ [] ∷ fields (drop (at + 1) w)
    unfolding split
    space = here ∙ rw (eq-eqb (get_or w at 0) 32 e)

  module _ (n : get_or w at 0 ≡ 32 → ⊥) where
    other : fields (drop at w) ≡ onto (get_or w at 0) (fields (drop (at + 1) w))
    unfolding split
    other = here ∙ rw (ne_eqb (get_or w at 0) 32 n)

module _ (w : List ℕ) (at : ℕ) (h : length w ≤ at) where
  nothing : fields (drop at w) ≡ [] ∷ []
  unfolding fields
  nothing = rw (drop_of_length-le w h)

  pub count_out : length (fields (drop at w)) ≡ 1
  count_out = ap length nothing

-- ---- by fields

-- a text is its last field, or a field and a space stand before others
data Fielded (l : List ℕ) : Type 0 where
  last : fields l ≡ l ∷ [] → Fielded l
  more : (h r : List ℕ) → l ≡ h ++ (32 ∷ r) → fields l ≡ h ∷ fields r → Fielded l

fielded : (l : List ℕ) → Fielded l
unfolding fields split onto
fielded [] = last refl
fielded (b ∷ l) = go (eqb b 32) refl (fielded l)
  where
    go : (t : Bool) → eqb b 32 ≡ t → Fielded l → Fielded (b ∷ l)
    go true e f = more [] l (ap (λ (x : ℕ). x ∷ l) (eqb-true b 32 e)) (rw e)
    go false e (last q) = last (rw (e, q))
    go false e (more h r p q) = more (b ∷ h) r (ap (λ (x : List ℕ). b ∷ x) p) (rw (e, q))

-- behind the line there are no fields
pub fields-past : (w : List ℕ) (at : ℕ) → length w < at → fields_at w at ≡ []
unfolding fields_at
fields-past w at h = rw (lt-leb at (length w) h)

pub fields_in : (w : List ℕ) (at : ℕ) → at ≤ length w → fields_at w at ≡ fields (drop at w)
unfolding fields_at
fields_in w at h = rw (le-leb at (length w) h)

record Here (w : List ℕ) (at : ℕ) : Type 0 where
  part : take (field_end w at - at) (drop at w) ≡ field_at w at
  fits : field_end w at ≤ length w
  next : fields_at w at ≡ field_at w at ∷ fields_at w (field_end w at + 1)

here-is : (w : List ℕ) (at : ℕ) → at ≤ length w → Here w at
here-is w at h = go (fielded (drop at w))
  where
    go : Fielded (drop at w) → Here w at
    go (last q) =
        let f : field_at w at ≡ drop at w = unfold field_at in ap (λ (ws : List (List ℕ)). get_or ws 0 []) q in
        let e : field_end w at ≡ at + length (field_at w at) = unfold field_end in refl in
        let n : field_end w at ≡ length w = omega (arith, ap length f, length-drop at w) in
        record {
          part = take_all (field_end w at - at) (drop at w) (omega (arith, length-drop at w)) ∙ sym f;
          fits = omega arith;
          next = fields_in w at h ∙ q ∙ rw (f, fields-past w (field_end w at + 1) (omega arith));
        }
    go (more x r p q) =
        let f : field_at w at ≡ x = unfold field_at in ap (λ (ws : List (List ℕ)). get_or ws 0 []) q in
        let e : field_end w at ≡ at + length (field_at w at) = unfold field_end in refl in
        let g : length (field_at w at) ≡ length x = ap length f in
        let n : length w - at ≡ length x + suc (length r) = sym (length-drop at w) ∙ ap length p ∙ length-append x (32 ∷ r) in
        let d : field_end w at - at ≡ length x = omega arith in
        let b : field_end w at + 1 ≡ at + (length x + 1) = omega arith in
        let z : drop (field_end w at + 1) w ≡ r =
        ap (λ (k : ℕ). drop k w) b ∙ sym (drop-drop (length x + 1) at w) ∙ ap (drop (length x + 1)) p ∙ drop-append-add x (32 ∷ r) 1 in
        record {
          part = ap (λ (k : ℕ). take k (drop at w)) d ∙ ap (take (length x)) p ∙ take-append_seam x (32 ∷ r) ∙ sym f;
          fits = omega arith;
          next = fields_in w at h ∙ q ∙ rw (f, fields_in w (field_end w at + 1) (omega arith), z);
        }

module _ (w : List ℕ) (at : ℕ) (h : at ≤ length w) where
  pub field_part : take (field_end w at - at) (drop at w) ≡ field_at w at
  field_part = (here-is w at h).part

  pub field_fits : field_end w at ≤ length w
  field_fits = (here-is w at h).fits

  pub field_next : fields_at w at ≡ field_at w at ∷ fields_at w (field_end w at + 1)
  field_next = (here-is w at h).next

pub field_from : (w : List ℕ) (at : ℕ) → at ≤ field_end w at
unfolding field_end
field_from w at = omega arith

-- ---- all fields

-- a field ends at each space, and the last at the line's end
pub spaces-count : (w : List ℕ) → length (fields w) ≡ length (filter (λ (b : ℕ). eqb b 32) w) + 1
unfolding fields
spaces-count [] = refl
spaces-count (b ∷ w) = go (eqb b 32) (spaces-count w)
  where
    go : (t : Bool) → length (fields w) ≡ length (filter (λ (x : ℕ). eqb x 32) w) + 1
        → length (split t b (fields w)) ≡ length (cond t (b ∷ filter (λ (x : ℕ). eqb x 32) w) (filter (λ (x : ℕ). eqb x 32) w)) + 1
    go true e = unfold split in omega (arith, e)
    go false e = unfold split in onto-count b (fields w) (omega (arith, e)) ∙ e
