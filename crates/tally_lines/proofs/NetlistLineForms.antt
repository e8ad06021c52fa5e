-- The form of a line by steps over its fields:
--     step_past, step_takes, step_fails     a step, by the test of the field's bytes
--     step-low, step-on                     where it leads
--     form_is, line-is                      the line has the form just where the steps lead one past its length
--     labels_step, labels-end, ..           the same of a list of names
use Rattle.base.specs.{ℕ, ◌+◌, ◌-◌, ◌≤◌, ◌<◌, arith, ◌≡◌, refl, sym, ap, ◌∙◌, Bool, true, false, ◌&&◌, List, [], ◌∷◌, ◌++◌, eqb, leb}
use Rattle.base.specs.{length, take, drop, eq-eqb, ne_eqb, le-leb, lt-leb, leb-true, leb-false, eqb-true, eqb-false}
use Rattle.model.specs.{all, same, fields, is_label, of_form, of_list, is_name_list}
use Rattle.tally_lines.specs.{pick_n, fields_at, field_at, field_end, step_at, steps_at}
use Rattle.tally_lines.proofs.FieldLaws.{fields-past, fields_in, field_part, field_fits, field_next, field_from}

-- ---- a step

module _ (p : List ℕ → Bool) (w : List ℕ) (at : ℕ) where
  pub step_past : length w < at → step_at p w at ≡ length w + 2
  unfolding step_at
  step_past h = rw (lt-leb at (length w) h)

  module _ (h : at ≤ length w) where
    step_by : (t : Bool) → p (field_at w at) ≡ t → step_at p w at ≡ pick_n t (field_end w at + 1) (length w + 2)
    unfolding step_at
    step_by t e = rw (le-leb at (length w) h, e)

    module _ (end : ℕ) (is : end ≡ field_end w at) where
      part : take (end - at) (drop at w) ≡ field_at w at
      part = ap (λ (k : ℕ). take (k - at) (drop at w)) is ∙ field_part w at h

      pub step_takes : p (take (end - at) (drop at w)) ≡ true → end + 1 ≡ step_at p w at
      step_takes e = sym (step_by true (ap p (sym part) ∙ e) ∙ ap (λ (k : ℕ). k + 1) (sym is))

      pub step_fails : p (take (end - at) (drop at w)) ≡ false → length w + 2 ≡ step_at p w at
      step_fails e = sym (step_by false (ap p (sym part) ∙ e))

  -- past the field, or two past the line
  pub data Led : Type 0 where
    on : at ≤ length w → p (field_at w at) ≡ true → step_at p w at ≡ field_end w at + 1 → Led
    off : at ≤ length w → p (field_at w at) ≡ false → step_at p w at ≡ length w + 2 → Led
    out : length w < at → step_at p w at ≡ length w + 2 → Led

  pub led : Led
  led = go (leb at (length w)) refl (p (field_at w at)) refl
    where
      go : (t : Bool) → leb at (length w) ≡ t → (u : Bool) → p (field_at w at) ≡ u → Led
      go true e true f = let h = leb-true at (length w) e in on h f (step_by h true f)
      go true e false f = let h = leb-true at (length w) e in off h f (step_by h false f)
      go false e u f = let h = leb-false at (length w) e in out h (step_past h)

  pub step-low : step_at p w at ≤ length w + 2
  step-low = go led
    where
      go : Led → step_at p w at ≤ length w + 2
      go (on h e s) = omega (arith, field_fits w at h)
      go (off h e s) = omega arith
      go (out h s) = omega arith

  pub step-on : at ≤ length w → at < step_at p w at
  step-on g = go led
    where
      go : Led → at < step_at p w at
      go (on h e s) = omega (arith, field_from w at)
      go (off h e s) = omega arith
      go (out h s) = omega arith

-- ---- several

pub steps_append : (ps qs : List (List ℕ → Bool)) (w : List ℕ) (at : ℕ) → steps_at (ps ++ qs) w at ≡ steps_at qs w (steps_at ps w at)
unfolding steps_at
steps_append [] qs w at = refl
steps_append (p ∷ ps) qs w at = steps_append ps qs w (step_at p w at)

-- a place that is at most one past the line, with what is said of the fields there
abbrev Going : List ℕ → ℕ → Bool → Bool
Going w at t = leb at (length w + 1) && t

going : (w : List ℕ) (at : ℕ) (t : Bool) → at ≤ length w + 1 → Going w at t ≡ t
going w at t h = rw (le-leb at (length w + 1) h)

gone : (w : List ℕ) (at : ℕ) (t : Bool) → length w + 1 < at → Going w at t ≡ false
gone w at t h = rw (lt-leb at (length w + 1) h)

form_at_lem : (ps : List (List ℕ → Bool)) (w : List ℕ) (at : ℕ) → at ≤ length w + 2 → Going w at (of_form ps (fields_at w at)) ≡ eqb (steps_at ps w at) (length w + 1)
unfolding of_form steps_at
form_at_lem [] w at b = go (leb at (length w)) refl (leb at (length w + 1)) refl
  where
    go : (t : Bool) → leb at (length w) ≡ t → (u : Bool) → leb at (length w + 1) ≡ u → Going w at (of_form [] (fields_at w at)) ≡ eqb at (length w + 1)
    go true e u f =
        let h = leb-true at (length w) e in
        going w at (of_form [] (fields_at w at)) (omega arith) ∙ rw (field_next w at h) (sym (ne_eqb at (length w + 1) (λ z. omega arith)))
    go false e true f =
        let h = leb-false at (length w) e in
        let k = leb-true at (length w + 1) f in
        going w at (of_form [] (fields_at w at)) k ∙ rw (fields-past w at h) (sym (eq-eqb at (length w + 1) (omega arith)))
    go false e false f =
        let k = leb-false at (length w + 1) f in
        gone w at (of_form [] (fields_at w at)) k ∙ sym (ne_eqb at (length w + 1) (λ z. omega arith))
form_at_lem (p ∷ ps) w at b = go (form_at_lem ps w (step_at p w at) (step-low p w at)) (led p w at)
  where
    lost : Going w (step_at p w at) (of_form ps (fields_at w (step_at p w at))) ≡ eqb (steps_at ps w (step_at p w at)) (length w + 1) → step_at p w at ≡ length w + 2
        → false ≡ eqb (steps_at ps w (step_at p w at)) (length w + 1)
    lost more s = sym (gone w (step_at p w at) (of_form ps (fields_at w (step_at p w at))) (omega arith)) ∙ more

    beyond : length w < at → (t : Bool) → (t && of_form (p ∷ ps) (fields_at w at)) ≡ false
    beyond h true = rw (fields-past w at h)
    beyond h false = refl

    first : at ≤ length w → of_form (p ∷ ps) (fields_at w at) ≡ (p (field_at w at) && of_form ps (fields_at w (field_end w at + 1)))
    first h = rw (field_next w at h)

    go : Going w (step_at p w at) (of_form ps (fields_at w (step_at p w at))) ≡ eqb (steps_at ps w (step_at p w at)) (length w + 1) → Led p w at
        → Going w at (of_form (p ∷ ps) (fields_at w at)) ≡ eqb (steps_at ps w (step_at p w at)) (length w + 1)
    go more (on h e s) =
        going w at (of_form (p ∷ ps) (fields_at w at)) (omega arith)
        ∙ first h
        ∙ ap (λ (t : Bool). t && of_form ps (fields_at w (field_end w at + 1))) e
        ∙ sym (ap (λ (k : ℕ). of_form ps (fields_at w k)) s)
        ∙ sym (going w (step_at p w at) (of_form ps (fields_at w (step_at p w at))) (omega (arith, field_fits w at h)))
        ∙ more
    go more (off h e s) =
        going w at (of_form (p ∷ ps) (fields_at w at)) (omega arith) ∙ first h ∙ ap (λ (t : Bool). t && of_form ps (fields_at w (field_end w at + 1))) e ∙ lost more s
    go more (out h s) = beyond h (leb at (length w + 1)) ∙ lost more s

-- from a place that is at most one past the line
module _ (ps : List (List ℕ → Bool)) (w : List ℕ) (at : ℕ) (h : at ≤ length w + 1) (r : ℕ) (is : r ≡ steps_at ps w at) where
  pub form_is : eqb r (length w + 1) ≡ of_form ps (fields_at w at)
  form_is = sym (sym (going w at (of_form ps (fields_at w at)) h) ∙ form_at_lem ps w at (omega arith) ∙ ap (λ (k : ℕ). eqb k (length w + 1)) (sym is))

-- from the line's start
pub from_start : (w : List ℕ) → fields_at w 0 ≡ fields w
from_start w = fields_in w 0 (omega arith)

module _ (ps : List (List ℕ → Bool)) (w : List ℕ) (r : ℕ) (is : r ≡ steps_at ps w 0) where
  pub line-is : eqb r (length w + 1) ≡ of_form ps (fields w)
  line-is = form_is ps w 0 (omega arith) r is ∙ ap (of_form ps) (from_start w)

-- ---- a list of names

module _ (p : List ℕ → Bool) (w : List ℕ) where
  -- what the loop over the fields carries
  abbrev pub Labels : ℕ → Bool
  Labels at = leb at (length w + 1) && all p (fields_at w at)

  pub labels_first : (at : ℕ) → at ≤ length w + 1 → Labels at ≡ all p (fields_at w at)
  labels_first at h = going w at (all p (fields_at w at)) h

  pub labels_step : (at : ℕ) → at ≤ length w → Labels at ≡ Labels (step_at p w at)
  unfolding all
  labels_step at g = go (led p w at)
    where
      go : Led p w at → Labels at ≡ Labels (step_at p w at)
      go (on h e s) =
          going w at (all p (fields_at w at)) (omega arith)
          ∙ rw (field_next w at h, e)
          (sym (ap (λ (k : ℕ). all p (fields_at w k)) s) ∙ sym (going w (step_at p w at) (all p (fields_at w (step_at p w at))) (omega (arith, field_fits w at h))))
      go (off h e s) =
          going w at (all p (fields_at w at)) (omega arith) ∙ rw (field_next w at h, e) (sym (gone w (step_at p w at) (all p (fields_at w (step_at p w at))) (omega arith)))
      go (out h s) = absurd (omega arith)

  labels_yes : (at : ℕ) → at ≡ length w + 1 → true ≡ Labels at
  unfolding all
  labels_yes at h = sym (going w at (all p (fields_at w at)) (omega arith) ∙ rw (fields-past w at (omega arith)))

  labels_no : (at : ℕ) → length w < at → (at ≡ length w + 1 → ⊥) → false ≡ Labels at
  labels_no at h n = sym (gone w at (all p (fields_at w at)) (let z : length w + 1 < at = more at (length w) h n in z))
    where
      more : (a b : ℕ) → b < a → (a ≡ b + 1 → ⊥) → b + 1 < a
      more a b x y = omega arith

  -- where the loop stops
  pub labels_end : (at : ℕ) → length w < at → eqb at (length w + 1) ≡ Labels at
  labels_end at h = go (eqb at (length w + 1)) refl
    where
      go : (t : Bool) → eqb at (length w + 1) ≡ t → t ≡ Labels at
      go true e = labels_yes at (eqb-true at (length w + 1) e)
      go false e = labels_no at h (eqb-false at (length w + 1) e)

-- the keyword, and the names
module _ (keyword : List ℕ) (b : ℕ) (w : List ℕ) where
  list_by : is_name_list keyword b w ≡ (same keyword (field_at w 0) && all (is_label b) (fields_at w (field_end w 0 + 1)))
  unfolding is_name_list of_list
  list_by = rw (sym (from_start w), field_next w 0 (omega arith))

  pub list_no : length w + 1 < step_at (same keyword) w 0 → false ≡ is_name_list keyword b w
  list_no g = sym (list_by ∙ go (led (same keyword) w 0))
    where
      go : Led (same keyword) w 0 → (same keyword (field_at w 0) && all (is_label b) (fields_at w (field_end w 0 + 1))) ≡ false
      go (on h e s) = absurd (omega (arith, field_fits w 0 h))
      go (off h e s) = rw e
      go (out h s) = absurd (omega arith)

  pub list_yes : step_at (same keyword) w 0 ≤ length w + 1 → all (is_label b) (fields_at w (step_at (same keyword) w 0)) ≡ is_name_list keyword b w
  list_yes g = sym (list_by ∙ go (led (same keyword) w 0))
    where
      go : Led (same keyword) w 0 → (same keyword (field_at w 0) && all (is_label b) (fields_at w (field_end w 0 + 1))) ≡ all (is_label b) (fields_at w (step_at (same keyword) w 0))
      go (on h e s) = rw (e, s)
      go (off h e s) = absurd (omega arith)
      go (out h s) = absurd (omega arith)
