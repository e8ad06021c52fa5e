-- Lines of numbers are read exactly where their bytes have the form.
use Rattle.base.specs.{ℕ, ◌<◌, arith, ◌≡◌, refl, sym, ◌∙◌, ap, subst, Bool, false, ◌&&◌, Option, Some, List, [], ◌∷◌, eqb, lit<, length}
use Rattle.base.specs.{eqb_yes, yes_eqb}
use Rattle.model.specs.{and_then, only, Line, fields, numbers, closed, Kind, an_input, an_output, an_and, how_many, item_literals, input_arrival_numbers}
use Rattle.promises.specs.{Numbers, NumberFields, NumberLine, joined, Wants, input_wants, output_wants, and_wants, ExpectedLine}
use Rattle.theory_graph.proofs.{is_true, by_bool}
use Rattle.theory_text.proofs.{then_out, only_out, Free}
use Rattle.theory_refusals.proofs.FieldForms.{joins, numbers_form_lem, numbers-back, numbers-count, numbers-free, fields-joined}
use Rattle.theory_refusals.proofs.FieldForms.{joined_free}
use Rattle.theory_refusals.proofs.LineFormLaws.{Reads, reads-line}

-- so many numbers of a line's contents
abbrev counted : ℕ → List (List ℕ) → Option (List ℕ)
counted n ws = and_then (only (eqb (length ws) n) ws) numbers

fields_form : (n : ℕ) (w ns : List ℕ) → counted n (fields w) ≡ Some ns → NumberFields n w ns
fields_form n w ns e =
    let j = joins w in
    let f : counted n (j.first ∷ j.others) ≡ Some ns = ap (counted n) (sym j.are_fields) ∙ e in
    let o = then_out (only (eqb (length (j.first ∷ j.others)) n) (j.first ∷ j.others)) numbers ns f in
    let p = only_out (eqb (length (j.first ∷ j.others)) n) (j.first ∷ j.others) o.0 o.1 in
    let q : Numbers (j.first ∷ j.others) ns = numbers_form_lem (j.first ∷ j.others) ns (ap numbers p.1 ∙ o.2) in
    record { fields = j.first ∷ j.others; whole = j.is_whole; numbers = q; count = sym (numbers-count q) ∙ eqb_yes p.0 }

fields_back : (n : ℕ) → 0 < n → (w ns : List ℕ) → NumberFields n w ns → counted n (fields w) ≡ Some ns
unfolding and_then only
fields_back n h w ns f = go f.fields f.whole f.numbers
  where
    go : (ws : List (List ℕ)) → w ≡ joined ws → Numbers ws ns → counted n (fields w) ≡ Some ns
    go [] e p = let z : ⊥ = omega (arith, numbers-count p, f.count) in absurd z
    go (v ∷ ws) e p = cc (
      fields-joined v ws (numbers-free 32 (lit< tt) p),
      is_true (eqb (length (v ∷ ws)) n)
          (yes_eqb (numbers-count p ∙ f.count)),
      numbers-back p,
    )

abbrev numbers_of : Bool → ℕ → Line → Option (List ℕ)
numbers_of is_binary n l = and_then (only (closed is_binary l && eqb (length (fields l.bytes)) n) (fields l.bytes)) numbers

reads-numbers : (is_binary : Bool) (n : ℕ) → 0 < n → Reads (numbers_of is_binary n) (NumberLine is_binary n)
unfolding and_then only
reads-numbers is_binary n h = reads-line is_binary (λ w. counted n (fields w)) (NumberFields n) (numbers_of is_binary n)
    (λ l. by_bool (closed is_binary l) (λ e. cc) (λ q. cc)) (fields_form n) (fields_back n h)
    (λ s h w ns f. subst (Free s) (sym f.whole) (joined_free s h f.fields (numbers-free s (omega arith) f.numbers)))

-- ---- a line of two numbers, of the arrivals

pub reads-input-arrival : Reads input_arrival_numbers (NumberLine false 2)
unfolding input_arrival_numbers
reads-input-arrival = reads-numbers false 2 (lit< tt)

-- ---- expected lines

wants : (k : Kind) → Wants k (how_many k)
unfolding how_many
wants an_input = input_wants
wants an_output = output_wants
wants an_and = and_wants

wanted : {k : Kind} {n : ℕ} → Wants k n → n ≡ how_many k
unfolding how_many
wanted input_wants = refl
wanted output_wants = refl
wanted and_wants = refl

some_wanted : (k : Kind) → 0 < how_many k
unfolding how_many
some_wanted an_input = lit< tt
some_wanted an_output = lit< tt
some_wanted an_and = lit< tt

pub reads-expected : (is_binary : Bool) (k : Kind) → Reads (item_literals (closed is_binary) k) (ExpectedLine is_binary k)
unfolding item_literals
reads-expected is_binary k =
    let r = reads-numbers is_binary (how_many k) (some_wanted k) in
    record {
      form = λ at t l ls e ns f. let x = r.form at t l ls e ns f in
          record { front = x.front; behind = x.behind; whole = x.whole; is = (how_many k, wants k, x.is); later = x.later };
      back = λ at s rest ns d. r.back at s rest ns (subst (λ (n : ℕ). NumberLine is_binary n s ns) (wanted d.1) d.2);
    }
