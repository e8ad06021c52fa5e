-- The page that a report is written on, and the answers, refusal by refusal.
use Rattle.std.specs.Prelude.{Ok}
use Rattle.base.specs.{ℕ, ◌^◌, ◌≤◌, ◌<◌, arith, ◌≡◌, sym, ap, ◌∙◌, subst, true, false, ◌&&◌, List, leb, length, take, drop, get_or}
use Rattle.base.specs.{take-append_seam, le-leb, lt-leb, leb-true}
use Rattle.model.specs.{all, Read, holds, fault, next, unless, no_cell, cells_of, library_of, read_library, written_answer, written_after, refused_with}
use Rattle.model.specs.{in_width, report_text, report_of}
use Rattle.model.specs.declared.Cell.{Cell}
use Rattle.model.specs.declared.Tally.{Tally}
use Rattle.theory_graph.proofs.{get_or_in}
use Rattle.theory_text.proofs.{library-written}
use Rattle.base_words.specs.{put_at}
use Rattle.base_text.specs.{Wrote}
use Rattle.base_text.proofs.{and_right, put_front}
use Rattle.tally_lines.proofs.{cells_at}
use Rattle.tally_counting.specs.{Wide}
use Rattle.tally_counting.proofs.{cells-back, listed}
use Rattle.tally_report.specs.{fitting}
use Rattle.tally_report.proofs.ReportLines.{report-low}

-- ---- the page

module _ (before page : List ℕ) (end : ℕ) (bs : List ℕ) (w : Wrote before page 0 end bs) where
  pub page_end : end ≡ length bs
  page_end = let e = w.ends in omega arith

  pub page_is : take end page ≡ bs
  page_is = ap (λ (k : ℕ). take k page) page_end ∙ ap (take (length bs)) (w.leaves ∙ put_front before bs) ∙ take-append_seam bs (drop (length bs) before)

-- ---- 18

module _ (r memory : List ℕ) where
  fit_no : length memory < length r → fitting r (length memory) ≡ fault 18 (length r)
  unfolding fitting unless
  fit_no h = rw (lt-leb (length r) (length memory) h)

  fit-yes : length r ≤ length memory → fitting r (length memory) ≡ holds r
  unfolding fitting unless
  fit-yes h = rw (le-leb (length r) (length memory) h)

  pub too_short : (end : ℕ) → end ≡ length r → length memory < end
      → (refused_with 18 end ≡ written_answer (fitting r (length memory))) × (memory ≡ written_after (fitting r (length memory)) memory)
  unfolding written_answer written_after
  too_short end e h = let f = fit_no (omega arith) in (sym (ap written_answer f ∙ ap (refused_with 18) (sym e)), sym (ap (λ (x : Read (List ℕ)). written_after x memory) f))

  pub fits : (end : ℕ) (after : List ℕ) → end ≡ length r → end ≤ length memory → after ≡ put_at memory 0 r
      → (Ok end ≡ written_answer (fitting r (length memory))) × (after ≡ written_after (fitting r (length memory)) memory)
  unfolding written_answer written_after
  fits end after e h w =
      let f = fit-yes (omega arith) in (sym (ap written_answer f ∙ ap Ok (sym e)), w ∙ put_front memory r ∙ sym (ap (λ (x : Read (List ℕ)). written_after x memory) f))

-- ---- a refusal leaves the memory

pub refuses : (o : Read (List ℕ)) (n k : ℕ) (memory : List ℕ) → o ≡ fault n k → (refused_with n k ≡ written_answer o) × (memory ≡ written_after o memory)
unfolding written_answer written_after
refuses o n k memory e = (sym (ap written_answer e), sym (ap (λ (x : Read (List ℕ)). written_after x memory) e))

module _ (t : Tally) (library : List ℕ) (bytes : ℕ) where
  pub report-long : 65536 < length library → report_of t library bytes ≡ fault 1 0
  unfolding report_of unless
  report-long h = rw (lt-leb (length library) 65536 h)

  module _ (h : length library ≤ 65536) where
    pub report-refused : (n k : ℕ) → read_library library ≡ fault n k → report_of t library bytes ≡ fault n k
    unfolding report_of unless next
    report-refused n k e = rw (le-leb (length library) 65536 h, e)

    module _ (cs : List Cell) (e : read_library library ≡ holds cs) where
      pub report-over : in_width t ≡ false → report_of t library bytes ≡ fault 28 64
      unfolding report_of unless next
      report-over w = rw (le-leb (length library) 65536 h, e, w)

      pub report-read : in_width t ≡ true → report_of t library bytes ≡ fitting (report_text cs t) bytes
      unfolding report_of unless next fitting
      report-read w = rw (le-leb (length library) 65536 h, e, w)

-- ---- the report's length

netlists-low : (t : Tally) → in_width t ≡ true → t.netlists ≤ 2 ^ 40
unfolding in_width
netlists-low t e =
    leb-true t.netlists (2 ^ 40)
    (and_right (all (λ (n : ℕ). leb n (2 ^ 40)) t.occurs) (leb t.netlists (2 ^ 40))
    (and_right (all (λ (n : ℕ). leb n (2 ^ 40)) t.areas) (all (λ (n : ℕ). leb n (2 ^ 40)) t.occurs && leb t.netlists (2 ^ 40))
    (and_right (all (λ (n : ℕ). leb n (2 ^ 40)) t.gates) (all (λ (n : ℕ). leb n (2 ^ 40)) t.areas && (all (λ (n : ℕ). leb n (2 ^ 40)) t.occurs && leb t.netlists (2 ^ 40))) e)))

module _ (library : List ℕ) (cs : List Cell) (e : read_library library ≡ holds cs) (t : Tally) (w : Wide t) (fine : in_width t ≡ true) where
  short-names : (i : ℕ) → i < (library_of cs).n → (get_or (library_of cs).cells i no_cell).len ≤ 8
  unfolding library_of
  short-names i h =
      let ready = listed library cs e in
      let same : get_or (library_of cs).cells i no_cell ≡ get_or cs i no_cell = sym (cells_at (library_of cs) ready.long ready.few i h) ∙ ap (λ (x : List Cell). get_or x i no_cell) (cells-back cs) in
      subst (λ (c : Cell). c.len ≤ 8) (sym same) (library-written library cs e (get_or cs i no_cell) (get_or_in cs i no_cell h)).0.short

  pub page_enough : length (report_text (cells_of (library_of cs)) t) ≤ 2048
  page_enough = report-low (library_of cs) (listed library cs e) short-names t w (netlists-low t fine)
