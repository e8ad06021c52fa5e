-- The `# gates` line of the printed netlist says the figures that were printed.
use Rattle.base.specs.{ℕ, zero, suc, ◌+◌, ◌-◌, ◌*◌, ◌/◌, ◌%◌, ◌≤◌, ◌<◌, le_refl, not-suc-le-zero, arith, ◌≡◌, refl, sym, ◌∙◌, ap, ap₂, Bool}
use Rattle.base.specs.{true, false, not, cond, ◌&&◌, None, Some, List, [], ◌∷◌, ◌++◌, map, Memᴰ, T, ltb, ltb→lt, leb, le→leb, nltb→le}
use Rattle.base.specs.{lit<}
use Rattle.model.specs.{same, and_then, only, text, digits, decimal, parts, fields, split, onto, between, is_name, name_of, Gate, netlist_text}
use Rattle.model.specs.{digits_from, figure, behind_end, read_figure_words, read_figures}
use Rattle.model.specs.Graph.{Graph}
use Rattle.model.specs.declared.Figures.{Figures}
use Rattle.theory_graph.proofs.{is_true}
use Rattle.theory_text.proofs.PlainLines.{above, decimal-free}
use Rattle.theory_text.proofs.LineLaws.{fields-word, fields-last}
use Rattle.theory_text.proofs.ReadBack.{body, body_of, figures_line, names_of, input_names, output_names, wire_body, wire_bodies, lines_of}
use Rattle.theory_text.proofs.ReadBack.{text-lines}

-- ---- a number

-- one digit more
digit-more : (m d : ℕ) (bs : List ℕ) → d < 10 → digits_from m ((48 + d) ∷ bs) ≡ digits_from (m * 10 + d) bs
unfolding digits_from and_then only between
digit-more m d bs h = ap₂ (λ (a b : Bool). and_then (only (a && b) (48 + d - 48)) (λ e. digits_from (m * 10 + e) bs))
    (is_true (leb 48 (48 + d)) (le→leb 48 (48 + d) (omega arith))) (is_true (leb (48 + d) 57) (le→leb (48 + d) 57 (omega arith)))
    ∙ ap (λ (e : ℕ). digits_from (m * 10 + e) bs) (let q : 48 + d - 48 ≡ d = omega arith in q)

-- the number that digits stand for
digits-read : (fuel n : ℕ) (after : List ℕ) → n < fuel → digits_from 0 (digits fuel n after) ≡ digits_from n after
unfolding digits
digits-read zero n after h = absurd (not-suc-le-zero h)
digits-read (suc fuel) n after h = go (ltb n 10) (ltb→lt n 10) (nltb→le n 10) (digits-read fuel (n / 10) ((48 + n % 10) ∷ after))
  where
    go : (b : Bool) → (T b → n < 10) → (T (not b) → 10 ≤ n)
        → (n / 10 < fuel → digits_from 0 (digits fuel (n / 10) ((48 + n % 10) ∷ after)) ≡ digits_from (n / 10) ((48 + n % 10) ∷ after))
        → digits_from 0 (cond b ((48 + n) ∷ after) (digits fuel (n / 10) ((48 + n % 10) ∷ after))) ≡ digits_from n after
    go true y u more = digit-more 0 n after (y tt) ∙ ap (λ (k : ℕ). digits_from k after) (let q : 0 * 10 + n ≡ n = omega arith in q)
    go false y u more = more (let q : 10 ≤ n = u tt in omega arith) ∙ digit-more (n / 10) (n % 10) after (omega arith)
        ∙ ap (λ (k : ℕ). digits_from k after) (let q : n / 10 * 10 + n % 10 ≡ n = omega arith in q)

-- "without leading zeros"
record Led (ds : List ℕ) : Type 0 where
  first : ℕ
  rest : List ℕ
  is_led : ds ≡ first ∷ rest
  not_zero : 48 < first

led : (fuel n : ℕ) (after : List ℕ) → n < fuel → 0 < n → Led (digits fuel n after)
unfolding digits
led zero n after h k = absurd (not-suc-le-zero h)
led (suc fuel) n after h k = go (ltb n 10) (nltb→le n 10) (led fuel (n / 10) ((48 + n % 10) ∷ after))
  where
    go : (b : Bool) → (T (not b) → 10 ≤ n) → (n / 10 < fuel → 0 < n / 10 → Led (digits fuel (n / 10) ((48 + n % 10) ∷ after)))
        → Led (cond b ((48 + n) ∷ after) (digits fuel (n / 10) ((48 + n % 10) ∷ after)))
    go true u more = record { first = 48 + n; rest = after; is_led = refl; not_zero = omega arith }
    go false u more = let q : 10 ≤ n = u tt in more (omega arith) (omega arith)

figure-led : (b : ℕ) (w : List ℕ) → 48 < b → figure (b ∷ w) ≡ digits_from 0 (b ∷ w)
unfolding figure
figure-led b [] h = refl
figure-led b (c ∷ bs) h = ap (λ (t : Bool). cond t None (digits_from 0 (b ∷ c ∷ bs))) (above 48 b h)

pub figure-back : (n : ℕ) → figure (decimal n) ≡ Some n
unfolding decimal digits_from digits figure and_then only between
figure-back zero = refl
figure-back (suc n) =
    let r = led (suc (suc n)) (suc n) [] (le_refl (suc (suc n))) (omega arith) in
    ap figure r.is_led ∙ figure-led r.first r.rest r.not_zero ∙ ap (digits_from 0) (sym r.is_led) ∙ digits-read (suc (suc n)) (suc n) [] (le_refl (suc (suc n)))

-- ---- the line

figure-words : (f : Figures) → fields (figures_line f) ≡ text "#" ∷ text "gates" ∷ decimal f.gates ∷ text "area" ∷ decimal f.area ∷ text "arrival" ∷ decimal f.arrival ∷ []
unfolding figures_line text fields split onto
figure-words f =
    ap (λ (ps : List (List ℕ)). text "#" ∷ text "gates" ∷ ps)
    (fields-word (decimal f.gates) (text "area " ++ (decimal f.area ++ (text " arrival " ++ decimal f.arrival))) (decimal-free 32 f.gates (lit< tt))
    ∙ ap (λ (ps : List (List ℕ)). decimal f.gates ∷ text "area" ∷ ps)
    (fields-word (decimal f.area) (text "arrival " ++ decimal f.arrival) (decimal-free 32 f.area (lit< tt))
    ∙ ap (λ (ps : List (List ℕ)). decimal f.area ∷ text "arrival" ∷ ps) (fields-last (decimal f.arrival) (decimal-free 32 f.arrival (lit< tt)))))

line-figures : (f : Figures) → read_figure_words (fields (figures_line f)) ≡ Some f
unfolding read_figure_words and_then only same text
line-figures f = cc (figure-words f, figure-back f.gates, figure-back f.area, figure-back f.arrival)

-- ---- behind the end

behind-wires : (k : ℕ) (outs : List ℕ) (l : List ℕ) (more : List (List ℕ)) → behind_end (wire_bodies k outs ++ (text ".end" ∷ l ∷ more)) ≡ Some l
unfolding behind_end wire_bodies wire_body names_of same text
behind-wires k [] l more = refl
behind-wires k (o ∷ []) l more = refl
behind-wires k (o ∷ p ∷ outs) l more = behind-wires (suc k) (p ∷ outs) l more

behind-gates : (ts : List Gate) (outs : List ℕ) (l : List ℕ) (more : List (List ℕ)) → behind_end (map body_of ts ++ (wire_bodies 0 outs ++ (text ".end" ∷ l ∷ more))) ≡ Some l
unfolding behind_end same text body_of body wire_bodies
behind-gates [] outs l more = behind-wires 0 outs l more
behind-gates (t ∷ []) [] l more = refl
behind-gates (t ∷ []) (o ∷ outs) l more = behind-wires 0 (o ∷ outs) l more
behind-gates (t ∷ u ∷ ts) outs l more = behind-gates (u ∷ ts) outs l more

-- the printed text says its figures, whatever follows them
pub figures-back : (g : Graph) (ts : List Gate) (f : Figures) (after : List ℕ) → ((t : Gate) → Memᴰ t ts → T (is_name (name_of t.cell)))
    → read_figures (netlist_text g ts f ++ after) ≡ Some f
unfolding read_figures lines_of names_of behind_end wire_bodies same text and_then
figures-back g ts f after h =
    cc (text-lines g ts f after h, go ts g.outputs (behind-gates ts g.outputs (figures_line f) (parts 10 after)), line-figures f)
  where
    -- the first three lines are not the end, and a line follows each of them
    go : (us : List Gate) (outs : List ℕ) → behind_end (map body_of us ++ (wire_bodies 0 outs ++ (text ".end" ∷ figures_line f ∷ parts 10 after))) ≡ Some (figures_line f)
        → behind_end (text ".model top" ∷ names_of (text ".inputs") (input_names g) ∷ names_of (text ".outputs") (output_names g) ∷ map body_of us ++ (wire_bodies 0 outs ++ (text ".end" ∷ figures_line f ∷ parts 10 after))) ≡ Some (figures_line f)
    go [] [] q = q
    go [] (o ∷ outs) q = q
    go (u ∷ us) outs q = q
