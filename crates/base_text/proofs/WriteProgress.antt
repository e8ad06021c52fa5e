-- Writers one after the other: what is written of a text, and what is left of it.
--     begin, step, end        nothing is written; one part more; all of it
--     room, kept              the next part has room, and no byte comes or goes
use Rattle.base.specs.{◌≡◌, refl, sym, ap, ◌∙◌, List, [], ◌++◌, append_assoc, append-nil, ℕ, ◌+◌, ◌≤◌, add-zero, arith, length, drop}
use Rattle.base.specs.{length-append}
use Rattle.base_words.specs.{put_at}
use Rattle.base_words.proofs.{length-put, put-none, put_append}
use Rattle.base_text.specs.{Wrote}

-- of `whole`, all but `rest` is written from `at` on, up to `next`
pub record Partly (before now : List ℕ) (at next : ℕ) (whole rest : List ℕ) : Type 0 where
  pub done : List ℕ
  pub split : whole ≡ done ++ rest
  pub wrote : Wrote before now at next done

pub begin : (w : List ℕ) (at : ℕ) {whole rest : List ℕ} → whole ≡ rest → Partly w w at at whole rest
begin w at e = record { done = []; split = e; wrote = record { ends = sym (add-zero at); leaves = sym (put-none w at) } }

module _ {w₀ w : List ℕ} {at next : ℕ} {whole rest : List ℕ} (fits : at + length whole ≤ length w₀) (p : Partly w₀ w at next whole rest) where
  parts : length whole ≡ length p.done + length rest
  parts = ap length p.split ∙ length-append p.done rest

  pub kept : length w ≡ length w₀
  kept = ap length p.wrote.leaves ∙ length-put w₀ at p.done (omega (arith, parts))

  pub capacity : (bs more : List ℕ) → rest ≡ bs ++ more → next + length bs ≤ length w
  capacity bs more e = omega (arith, parts, kept, p.wrote.ends, ap length e ∙ length-append bs more)

  pub step : (w' : List ℕ) (next' : ℕ) (bs more : List ℕ) → rest ≡ bs ++ more → Wrote w w' next next' bs → Partly w₀ w' at next' whole more
  step w' next' bs more e r =
      let enough : at + length p.done + length bs ≤ length w₀ = omega (arith, parts, ap length e ∙ length-append bs more) in
      record {
        done = p.done ++ bs;
        split = p.split ∙ ap (λ (x : List ℕ). p.done ++ x) e ∙ sym (append_assoc p.done bs more);
        wrote =
            record {
              ends = omega (arith, r.ends, p.wrote.ends, length-append p.done bs);
              leaves =
                  r.leaves
                  ∙ ap (λ (x : List ℕ). put_at x next bs) p.wrote.leaves
                  ∙ ap (λ (k : ℕ). put_at (put_at w₀ at p.done) k bs) p.wrote.ends
                  ∙ put_append w₀ at p.done bs enough;
            };
      }

  pub end : rest ≡ [] → Wrote w₀ w at next whole
  end e =
      let same : p.done ≡ whole = sym (p.split ∙ ap (λ (x : List ℕ). p.done ++ x) e ∙ append-nil p.done) in
      record { ends = p.wrote.ends ∙ ap (λ (x : List ℕ). at + length x) same; leaves = p.wrote.leaves ∙ ap (put_at w₀ at) same }

-- the last part
pub finish : {w₀ w w' : List ℕ} {at next next' : ℕ} {whole rest : List ℕ} (fits : at + length whole ≤ length w₀) → Partly w₀ w at next whole rest
    → Wrote w w' next next' rest → Wrote w₀ w' at next' whole
finish {w' = w'} {next' = next'} {rest = rest} fits p r = end fits (step fits p w' next' rest [] (sym (append-nil rest)) r) refl

-- a writer that has nothing to write
pub idle : (w : List ℕ) (at : ℕ) {bs : List ℕ} → bs ≡ [] → Wrote w w at at bs
idle w at {bs} e =
    record {
      ends = sym (ap (λ (x : List ℕ). at + length x) e ∙ add-zero at);
      leaves = sym (ap (put_at w at) e ∙ put-none w at);
    }

-- what a writer of another layer says
pub as_wrote : {w w' : List ℕ} {at next : ℕ} {bs : List ℕ} → (next ≡ at + length bs) × (w' ≡ put_at w at bs) → Wrote w w' at next bs
as_wrote e = record { ends = e.0; leaves = e.1 }

-- bytes put from the start on: "text memory begins with the netlist and keeps its other bytes"
pub put_front : (w vs : List ℕ) → put_at w 0 vs ≡ vs ++ drop (length vs) w
unfolding put_at
put_front w vs = let e : 0 + length vs ≡ length vs = omega arith in ap (λ (k : ℕ). vs ++ drop k w) e
