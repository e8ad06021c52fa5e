-- Writers one behind the other, over whatever memory, where the last ends within it.
--     then        what two of them write
--     reads       a text that is another
--     left        there is room for what is left
use Rattle.base.specs.{◌≡◌, sym, ap, ◌∙◌, List, [], ◌++◌, append_assoc, append-nil, ℕ, ◌+◌, ◌≤◌, arith, length, take, drop, length-append}
use Rattle.base.specs.{length-take, length-drop, take-append_seam, drop-append-add, drop-drop}
use Rattle.base_words.specs.{put_at}
use Rattle.base_text.specs.{Wrote}
use Rattle.base_text.proofs.{Partly, capacity}

-- a writer that ends within the memory began there
began : {w w' : List ℕ} {at next : ℕ} {bs : List ℕ} → next ≤ length w' → Wrote w w' at next bs → at ≤ length w
unfolding put_at
began {w} {at = at} {bs = bs} h p = omega (arith, p.ends, simp (length-append, length-take, length-drop) at (ap length p.leaves))

-- bytes put right behind others are put with them
put_then : (w : List ℕ) (at : ℕ) (bs more : List ℕ) → at ≤ length w → put_at (put_at w at bs) (at + length bs) more ≡ put_at w at (bs ++ more)
unfolding put_at
put_then w at bs more h =
    let l : length (take at w ++ bs) ≡ at + length bs = simp (length-append, length-take) (omega arith) in
    let f : at + length (bs ++ more) ≡ length (take at w ++ bs) + length more = omega (arith, length-append bs more) in
    rw (← append_assoc (take at w) bs (drop (at + length bs) w), ← l, take-append_seam, drop-append-add, drop-drop, f) (simp append_assoc)

module _ {w' : List ℕ} {next' : ℕ} (h : next' ≤ length w') where
  pub then : {w₀ w : List ℕ} {at next : ℕ} {bs more : List ℕ} → Wrote w₀ w at next bs → Wrote w w' next next' more → Wrote w₀ w' at next' (bs ++ more)
  then {w₀} {at = at} {bs = bs} {more = more} p r =
      record {
        ends = omega (arith, p.ends, r.ends, length-append bs more);
        leaves = r.leaves ∙ rw (p.leaves, p.ends) (put_then w₀ at bs more (began (began h r) p));
      }

pub reads : {w w' : List ℕ} {at next : ℕ} {bs more : List ℕ} → bs ≡ more → Wrote w w' at next more → Wrote w w' at next bs
reads e p = rw (e) p

pub left : {w₀ w : List ℕ} {at next : ℕ} {whole rest : List ℕ} → at + length whole ≤ length w₀ → Partly w₀ w at next whole rest → next + length rest ≤ length w
left {rest = rest} fits p = capacity fits p rest [] (sym (append-nil rest))
