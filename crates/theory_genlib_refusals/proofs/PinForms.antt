-- PIN lines: their contents are accepted exactly where they have the form; a line fits a pin, counts for it and gives its delay exactly where the forms say so.
use Rattle.base.specs.{ℕ, max, arith, ◌≡◌, refl, sym, ◌∙◌, ap, subst, ◌⊎◌, inl, inr, ◌↔◌, ⊎_elim, Bool, true, false, not, cond, false≢true}
use Rattle.base.specs.{◌&&◌, ◌||◌, Option, Some, List, [], ◌∷◌, ◌++◌, map, nil≢cons, Memᴰ, Memᴰ-head, Memᴰ-tail}
use Rattle.base.specs.{Memᴰ-not-nil, T, eqb, T_not, length, get_or, and_yes, yes_and, or_yes, eqb_yes}
use Rattle.model.specs.{all, same, and_then, Line, text, is_name_byte, tokens, is_word_byte, is_sign, lead, is_word, is_figure, thousandths}
use Rattle.model.specs.{pin_head, is_pin_line, pin_line, delay_of, line_tokens}
use Rattle.model.specs.Genlib.{fits}
use Rattle.theory_graph.proofs.{same-eq, same_refl, is_true, is_false, by_list}
use Rattle.theory_order.proofs.{cons_head, cons_tail}
use Rattle.theory_text.proofs.{then_out}
use Rattle.theory_genlib.proofs.{none-some, some-once, word-sign, sign-alone}
use Rattle.theory_refusals.proofs.{on, yes_or}
use Rattle.promises.specs.GateForms.{Named, Spelled, Figure, PinSays, PinContents, Fits, Counts, Delay}
use Rattle.theory_genlib_refusals.proofs.WordForms.{name-word, word-name}
use Rattle.theory_genlib_refusals.proofs.TokenForms.{spells, spelled_back}
use Rattle.theory_genlib_refusals.proofs.FigureForms.{figure_form, figure-back, thousandths_form, thousandths-back}

-- ---- the contents

-- what tokens of a PIN line say
abbrev pub pin_says : List (List ℕ) → PinSays
pin_says ts = record { name = get_or ts 1 []; rise = get_or ts 5 []; fall = get_or ts 7 [] }

pin-tokens : (s : List ℕ) (ts : List (List ℕ)) → tokens s ≡ ts → T (is_pin_line ts) → PinContents s (pin_says ts)
unfolding is_pin_line pin_head all is_word_byte
pin-tokens s [] q t = absurd t
pin-tokens s (a ∷ []) q t = absurd t
pin-tokens s (a ∷ b ∷ []) q t = absurd t
pin-tokens s (a ∷ b ∷ c ∷ []) q t = absurd t
pin-tokens s (a ∷ b ∷ c ∷ d ∷ []) q t = absurd t
pin-tokens s (a ∷ b ∷ c ∷ d ∷ e ∷ []) q t = absurd t
pin-tokens s (a ∷ b ∷ c ∷ d ∷ e ∷ f ∷ []) q t = absurd t
pin-tokens s (a ∷ b ∷ c ∷ d ∷ e ∷ f ∷ g ∷ []) q t = absurd t
pin-tokens s (a ∷ b ∷ c ∷ d ∷ e ∷ f ∷ g ∷ h ∷ []) q t = absurd t
pin-tokens s (a ∷ b ∷ c ∷ d ∷ e ∷ f ∷ g ∷ h ∷ i ∷ []) q t =
    let x0 = and_yes (pin_head (a ∷ b ∷ c ∷ d ∷ e ∷ f ∷ g ∷ h ∷ i ∷ [])) (all is_figure (d ∷ e ∷ f ∷ g ∷ h ∷ i ∷ [])) t in
    let x1 = and_yes (same a (text "PIN")) (is_word c && (is_sign 42 b || is_word b)) x0.0 in
    let x2 = and_yes (is_word c) (is_sign 42 b || is_word b) x1.1 in
    let y0 = and_yes (is_figure d) (all is_figure (e ∷ f ∷ g ∷ h ∷ i ∷ [])) x0.1 in
    let y1 = and_yes (is_figure e) (all is_figure (f ∷ g ∷ h ∷ i ∷ [])) y0.1 in
    let y2 = and_yes (is_figure f) (all is_figure (g ∷ h ∷ i ∷ [])) y1.1 in
    let y3 = and_yes (is_figure g) (all is_figure (h ∷ i ∷ [])) y2.1 in
    let y4 = and_yes (is_figure h) (all is_figure (i ∷ [])) y3.1 in
    record {
      phase = c;
      load = d;
      most = e;
      rise_fanout = g;
      fall_fanout = i;
      is_all = subst (Spelled s) (q ∙ ap (λ (x : List ℕ). x ∷ b ∷ c ∷ d ∷ e ∷ f ∷ g ∷ h ∷ i ∷ []) (same-eq a (text "PIN") x1.0))
          (spells s);
      is_name = (⊎_elim (λ k. inl (sign-alone 42 refl s b
          (subst (λ (x : List (List ℕ)). Memᴰ b x) (sym q) (Memᴰ-tail (Memᴰ-head refl))) (is_true (is_sign 42 b) k)))
          (λ p. inr (name-word b p)) (or_yes (is_sign 42 b) (is_word b) x2.1));
      is_phase = name-word c x2.0;
      is_load = figure_form d y0.0;
      is_most = figure_form e y1.0;
      is_rise = figure_form f y2.0;
      is_rise_fanout = figure_form g y3.0;
      is_fall = figure_form h y4.0;
      is_fall_fanout = figure_form i (and_yes (is_figure i) true y4.1).0;
    }
pin-tokens s (a ∷ b ∷ c ∷ d ∷ e ∷ f ∷ g ∷ h ∷ i ∷ j ∷ ts) q t =
    let n : length (a ∷ b ∷ c ∷ d ∷ e ∷ f ∷ g ∷ h ∷ i ∷ j ∷ ts) ≡ 9 = eqb_yes (and_yes (eqb (length (a ∷ b ∷ c ∷ d ∷ e ∷ f ∷ g ∷ h ∷ i ∷ j ∷ ts)) 9) _ t).0 in
    absurd (omega arith)

pub pin_form : (s : List ℕ) → T (is_pin_line (tokens s)) → PinContents s (pin_says (tokens s))
pin_form s t = pin-tokens s (tokens s) refl t

star_or_name : (b : List ℕ) → (b ≡ 42 ∷ []) ⊎ Named b → T (is_sign 42 b || is_word b)
unfolding is_sign lead
star_or_name b (inl e) = yes_or (is_sign 42 b) (is_word b) (inl (subst (λ (x : List ℕ). T (is_sign 42 x)) (sym e) tt))
star_or_name b (inr n) = yes_or (is_sign 42 b) (is_word b) (inr (word-name b n))

pub pin-says : {s : List ℕ} {p : PinSays} → PinContents s p → pin_says (tokens s) ≡ p
pin-says c = ap pin_says (spelled_back c.is_all)

pub pin-back : {s : List ℕ} {p : PinSays} → PinContents s p → T (is_pin_line (tokens s))
unfolding is_pin_line pin_head all
pin-back {s} {p} c =
    let figures = all is_figure (c.load ∷ c.most ∷ p.rise ∷ c.rise_fanout ∷ p.fall ∷ c.fall_fanout ∷ []) in
    let and-figure : (w : List ℕ) (b : Bool) → Figure w → T b → T (is_figure w && b) = λ w b f t. yes_and (is_figure w) b (figure-back f) t in
    rw (spelled_back c.is_all) (yes_and
    (same (text "PIN") (text "PIN") && (is_word c.phase && (is_sign 42 p.name || is_word p.name))) figures
    (yes_and (same (text "PIN") (text "PIN")) (is_word c.phase && (is_sign 42 p.name || is_word p.name)) (same_refl (text "PIN"))
    (yes_and (is_word c.phase) (is_sign 42 p.name || is_word p.name) (word-name c.phase c.is_phase)
    (star_or_name p.name c.is_name))) (unfold all in and-figure c.load _ c.is_load (and-figure c.most _ c.is_most
    (and-figure p.rise _ c.is_rise (and-figure c.rise_fanout _ c.is_rise_fanout
    (and-figure p.fall _ c.is_fall (and-figure c.fall_fanout true c.is_fall_fanout tt)))))))

-- ---- a line that fits

fits_token : (pin b : List ℕ) → (b ≡ 42 ∷ []) ⊎ Named b → T (is_sign 42 b || same pin b) ↔ ((b ≡ 42 ∷ []) ⊎ (b ≡ pin))
unfolding is_name_byte
fits_token pin b n = (
  (λ t. ⊎_elim inl (λ w. ⊎_elim
      (λ q. absurd (false≢true (sym (word-sign 42 refl b (is_true (is_word b) (word-name b w))) ∙ is_true (is_sign 42 b) q)))
      (λ p. inr (sym (same-eq pin b p))) (or_yes (is_sign 42 b) (same pin b) t)) n),
  back,
)
  where
    back : (b ≡ 42 ∷ []) ⊎ (b ≡ pin) → T (is_sign 42 b || same pin b)
    back (inl e) = unfold is_sign lead in yes_or (is_sign 42 b) (same pin b) (inl (subst (λ (x : List ℕ). T (is_sign 42 x)) (sym e) tt))
    back (inr e) = yes_or (is_sign 42 b) (same pin b) (inr (subst (λ (x : List ℕ). T (same pin x)) (sym e) (same_refl pin)))

pub fits_exactly : (pin : List ℕ) {s : List ℕ} {p : PinSays} → PinContents s p → T (fits pin (tokens s)) ↔ Fits pin p
unfolding fits
fits_exactly pin {s} {p} c =
    let e = ap (λ (x : PinSays). x.name) (pin-says c) in
    let f = fits_token pin p.name c.is_name in
    ((λ t. f.0 (subst (λ (x : List ℕ). T (is_sign 42 x || same pin x)) e t)), λ t. subst (λ (x : List ℕ). T (is_sign 42 x || same pin x)) (sym e) (f.1 t))

-- ---- the line that counts

-- the lines' contents, one for one
pub data Says : List Line → List PinSays → Type 0 where
  no_more : Says [] []
  one_more : {l : Line} {ls : List Line} {p : PinSays} {ps : List PinSays} → PinContents l.bytes p → Says ls ps → Says (l ∷ ls) (p ∷ ps)

pub counts_form : (pin : List ℕ) {ls : List Line} {ps : List PinSays} → Says ls ps → (ts : List (List ℕ)) → pin_line pin (map line_tokens ls) ≡ Some ts → Counts pin ps (pin_says ts)
unfolding pin_line line_tokens
counts_form pin no_more ts e = none-some e
counts_form pin (one_more {l} {ls} {p} {ps} c r) ts e = go (fits pin (tokens l.bytes)) refl (counts_form pin r ts) e
  where
    go : (b : Bool) → fits pin (tokens l.bytes) ≡ b → (pin_line pin (map line_tokens ls) ≡ Some ts → Counts pin ps (pin_says ts))
        → cond b (Some (tokens l.bytes)) (pin_line pin (map line_tokens ls)) ≡ Some ts → Counts pin (p ∷ ps) (pin_says ts)
    go true q f x =
        let y : pin_says ts ≡ p = ap pin_says (sym (some-once x)) ∙ pin-says c in
        record { before = []; after = ps; is_all = ap (λ (z : PinSays). z ∷ ps) (sym y); others = λ k m. absurd (Memᴰ-not-nil m); fitting = subst (Fits pin) (sym y) ((fits_exactly pin c).0 (subst T (sym q) tt)) }
    go false q f x =
        let k = f x in
        record { before = p ∷ k.before; after = k.after; is_all = ap (λ (z : List PinSays). p ∷ z) k.is_all; others = others k.before k.others; fitting = k.fitting }
      where
        others : (before : List PinSays) → ((z : PinSays) → Memᴰ z before → ¬ Fits pin z) → (z : PinSays) → Memᴰ z (p ∷ before) → ¬ Fits pin z
        others before h z (Memᴰ-head y) w = false≢true (sym q ∙ is_true (fits pin (tokens l.bytes)) ((fits_exactly pin c).1 (subst (Fits pin) y w)))
        others before h z (Memᴰ-tail m) w = h z m w

abbrev Found : List ℕ → List Line → PinSays → Type 0
Found pin ls p = (ts : List (List ℕ)) × (pin_line pin (map line_tokens ls) ≡ Some ts) × (pin_says ts ≡ p)

pub counts-back : (pin : List ℕ) {ls : List Line} {ps : List PinSays} → Says ls ps → (p : PinSays) → Counts pin ps p → Found pin ls p
counts-back pin no_more p k = absurd (by_list k.before (λ e. nil≢cons (rw e at k.is_all)) (λ x before q. nil≢cons (rw q at k.is_all)))
counts-back pin (one_more {l} {ls} {p = q} {ps} c r) p k = on (fits pin (tokens l.bytes)) yes (λ n. no n (counts-back pin r p))
  where
    yes : T (fits pin (tokens l.bytes)) → Found pin (l ∷ ls) p
    yes t = unfold pin_line line_tokens in (tokens l.bytes, ap (λ (b : Bool). cond b (Some (tokens l.bytes)) (pin_line pin (map line_tokens ls))) (is_true (fits pin (tokens l.bytes)) t), pin-says c ∙ first k.before k.is_all k.others)
      where
        first : (before : List PinSays) → q ∷ ps ≡ before ++ (p ∷ k.after) → ((x : PinSays) → Memᴰ x before → ¬ Fits pin x) → q ≡ p
        first [] e h = cons_head e
        first (x ∷ before) e h = absurd (h x (Memᴰ-head refl) (subst (Fits pin) (cons_head e) ((fits_exactly pin c).0 t)))

    no : T (not (fits pin (tokens l.bytes))) → (Counts pin ps p → Found pin ls p) → Found pin (l ∷ ls) p
    no n f = later k.before k.is_all k.others
      where
        later : (before : List PinSays) → q ∷ ps ≡ before ++ (p ∷ k.after) → ((x : PinSays) → Memᴰ x before → ¬ Fits pin x) → Found pin (l ∷ ls) p
        later [] e h = absurd (T_not (fits pin (tokens l.bytes)) n ((fits_exactly pin c).1 (subst (Fits pin) (sym (cons_head e)) k.fitting)))
        later (x ∷ before) e h =
            unfold pin_line line_tokens in
            let g = f (record { before = before; after = k.after; is_all = cons_tail e; others = λ y m. h y (Memᴰ-tail m); fitting = k.fitting }) in
            (g.0, ap (λ (b : Bool). cond b (Some (tokens l.bytes)) (pin_line pin (map line_tokens ls))) (is_false (fits pin (tokens l.bytes)) n) ∙ g.1, g.2)

-- ---- its delay

pub delay_form : (pin : List ℕ) {ls : List Line} {ps : List PinSays} → Says ls ps → (d : ℕ) → and_then (pin_line pin (map line_tokens ls)) delay_of ≡ Some d → Delay pin ps d
unfolding delay_of
delay_form pin {ls} r d e =
    let a = then_out (pin_line pin (map line_tokens ls)) delay_of d e in
    let b = then_out (thousandths (get_or a.0 5 [])) _ d a.2 in
    let c = then_out (thousandths (get_or a.0 7 [])) _ d b.2 in
    record {
      line = pin_says a.0;
      counts = counts_form pin r a.0 a.1;
      rise = b.0;
      fall = c.0;
      is_rise = thousandths_form (get_or a.0 5 []) b.0 b.1;
      is_fall = thousandths_form (get_or a.0 7 []) c.0 c.1;
      larger = sym (some-once c.2);
    }

pub delay_back : (pin : List ℕ) {ls : List Line} {ps : List PinSays} → Says ls ps → (d : ℕ) → Delay pin ps d → and_then (pin_line pin (map line_tokens ls)) delay_of ≡ Some d
unfolding delay_of and_then
delay_back pin {ls} r d h =
    let f = counts-back pin r h.line h.counts in
    ap (λ (o : Option (List (List ℕ))). and_then o delay_of) f.1
    ∙ ap (λ (o : Option ℕ). and_then o (λ rise. and_then (thousandths (get_or f.0 7 [])) (λ fall. Some (max rise fall)))) (ap (λ (x : PinSays). thousandths x.rise) f.2 ∙ thousandths-back h.is_rise)
    ∙ ap (λ (o : Option ℕ). and_then o (λ fall. Some (max h.rise fall))) (ap (λ (x : PinSays). thousandths x.fall) f.2 ∙ thousandths-back h.is_fall)
    ∙ ap Some (sym h.larger)

pub delay_exactly : (pin : List ℕ) {ls : List Line} {ps : List PinSays} → Says ls ps → (d : ℕ) → (and_then (pin_line pin (map line_tokens ls)) delay_of ≡ Some d) ↔ Delay pin ps d
delay_exactly pin r d = (delay_form pin r d, delay_back pin r d)
