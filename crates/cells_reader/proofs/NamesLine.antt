-- The first line of a library's text is one of the two names lines just where the line that the crate text hands back is it.
use Rattle.base.specs.{ℕ, ◌<◌, arith, ◌≡◌, refl, sym, ap, ◌∙◌, Bool, true, false, cond, ◌&&◌, ◌||◌, List, [], ◌∷◌, length, take}
use Rattle.base.specs.{drop}
use Rattle.model.specs.{same, ended, text, lines_from, fault, unless, is_shorter, is_longer, read_cells, read_library_lines, read_library}
use Rattle.model.specs.{ranged_lines, is_ranged}
use Rattle.base_text.specs.declared.Span.{Span}
use Rattle.base_text.specs.{line_at, past_line, span_at, first_is}
use Rattle.base_text.proofs.{and_left, and_right, or-true, same-eq, lines_at_lem, span-next, span_out}
use Rattle.base_text.proofs.{first-contents, first-is}
use Rattle.cells_reader.specs.{shorter_line, longer_line}
use Rattle.cells_reader.proofs.CellLineSteps.{lines_of}

read_by : (s : List ℕ) → 0 < length s
    → read_library s
    ≡ unless (ended (line_at s 0) && (same (line_at s 0).bytes shorter_line || same (line_at s 0).bytes longer_line)) 2 0
    (read_cells (same (line_at s 0).bytes longer_line) 0 [] (cond (ended (line_at s 0)) (lines_of s (past_line s 0)) []))
unfolding read_library read_library_lines is_shorter is_longer shorter_line longer_line
read_by s h = ap read_library_lines (lines_at_lem s 0 h)

-- an empty text
no_line_lem : read_library [] ≡ fault 2 0
unfolding read_library read_library_lines lines_from
no_line_lem = refl

no_names : (names : List ℕ) → first_is [] (span_at [] 0) names ≡ false
unfolding first_is
no_names names = rw (span_out [] 0 (omega arith))

-- the two names lines are different
not-both : (bytes : List ℕ) → same bytes shorter_line ≡ true → same bytes longer_line ≡ false
unfolding shorter_line longer_line text same
not-both bytes e = ap (λ (b : List ℕ). same b longer_line) (same-eq bytes shorter_line e)

neither : (e a b : Bool) → (e && a) ≡ false → (e && b) ≡ false → (e && (a || b)) ≡ false
neither false a b p q = refl
neither true false b p q = q
neither true true b p q = p

module _ (b : ℕ) (s : List ℕ) where
  abbrev whole : List ℕ
  whole = b ∷ s

  read_none : first_is whole (span_at whole 0) shorter_line ≡ false → first_is whole (span_at whole 0) longer_line ≡ false → read_library whole ≡ fault 2 0
  unfolding unless
  read_none p q =
      read_by whole (omega arith)
      ∙ rw (neither (ended (line_at whole 0)) (same (line_at whole 0).bytes shorter_line) (same (line_at whole 0).bytes longer_line) (sym (first-is whole shorter_line) ∙ p) (sym (first-is whole longer_line) ∙ q))

  read-shorter : first_is whole (span_at whole 0) shorter_line ≡ true → read_library whole ≡ read_cells false 0 [] (lines_of whole (span_at whole 0).next)
  unfolding unless
  read-shorter p =
      let x = sym (first-is whole shorter_line) ∙ p in
      let u : ended (line_at whole 0) ≡ true = and_left (ended (line_at whole 0)) (same (line_at whole 0).bytes shorter_line) x in
      let a : same (line_at whole 0).bytes shorter_line ≡ true = and_right (ended (line_at whole 0)) (same (line_at whole 0).bytes shorter_line) x in
      let n : same (line_at whole 0).bytes longer_line ≡ false = not-both (line_at whole 0).bytes a in
      read_by whole (omega arith) ∙ rw (u, a, n, span-next whole 0)

  read-longer : first_is whole (span_at whole 0) longer_line ≡ true → read_library whole ≡ read_cells true 0 [] (lines_of whole (span_at whole 0).next)
  unfolding unless
  read-longer p =
      let x = sym (first-is whole longer_line) ∙ p in
      let u : ended (line_at whole 0) ≡ true = and_left (ended (line_at whole 0)) (same (line_at whole 0).bytes longer_line) x in
      let a : same (line_at whole 0).bytes longer_line ≡ true = and_right (ended (line_at whole 0)) (same (line_at whole 0).bytes longer_line) x in
      read_by whole (omega arith) ∙ rw (u, a, or-true (same (line_at whole 0).bytes shorter_line), span-next whole 0)

none_read : (s : List ℕ) → first_is s (span_at s 0) shorter_line ≡ false → first_is s (span_at s 0) longer_line ≡ false → read_library s ≡ fault 2 0
none_read [] p q = no_line_lem
none_read (b ∷ s) p q = read_none b s p q

never : (names : List ℕ) → first_is [] (span_at [] 0) names ≡ true → ⊥
never names f = let y : ◌≡◌ {A = ℕ} 0 1 = cc (f, no_names names) in omega arith

shorter-read : (s : List ℕ) → first_is s (span_at s 0) shorter_line ≡ true → read_library s ≡ read_cells false 0 [] (lines_of s (span_at s 0).next)
shorter-read [] p = absurd (never shorter_line p)
shorter-read (b ∷ s) p = read-shorter b s p

longer-read : (s : List ℕ) → first_is s (span_at s 0) longer_line ≡ true → read_library s ≡ read_cells true 0 [] (lines_of s (span_at s 0).next)
longer-read [] p = absurd (never longer_line p)
longer-read (b ∷ s) p = read-longer b s p

-- whether there are ranges
ranged-is : (s : List ℕ) → same (take (span_at s 0).stop s) longer_line ≡ is_ranged s
unfolding is_ranged ranged_lines is_longer longer_line lines_from same text
ranged-is [] = rw (first-contents []) (unfold line_at Rattle.base_text.specs.TextLines.line_of in refl)
ranged-is (b ∷ s) = ap (λ (bytes : List ℕ). same bytes longer_line) (first-contents (b ∷ s)) ∙ sym (ap ranged_lines (lines_at_lem (b ∷ s) 0 (omega arith)))

-- the first line, as it is handed back
module _ (s : List ℕ) (l : Span) (is : l ≡ span_at s 0) where
  pub names-not : first_is s l shorter_line ≡ false → first_is s l longer_line ≡ false → read_library s ≡ fault 2 0
  names-not p q = none_read s (sym (ap (λ (x : Span). first_is s x shorter_line) is) ∙ p) (sym (ap (λ (x : Span). first_is s x longer_line) is) ∙ q)

  pub names-shorter : first_is s l shorter_line ≡ true → read_library s ≡ read_cells false 0 [] (lines_from l.next [] (drop l.next s))
  names-shorter e = shorter-read s (sym (ap (λ (x : Span). first_is s x shorter_line) is) ∙ e) ∙ ap (λ (x : Span). read_cells false 0 [] (lines_of s x.next)) (sym is)

  pub names-longer : first_is s l longer_line ≡ true → read_library s ≡ read_cells true 0 [] (lines_from l.next [] (drop l.next s))
  names-longer e = longer-read s (sym (ap (λ (x : Span). first_is s x longer_line) is) ∙ e) ∙ ap (λ (x : Span). read_cells true 0 [] (lines_of s x.next)) (sym is)

  pub names-ranged : same (take l.stop s) longer_line ≡ is_ranged s
  names-ranged = ap (λ (x : Span). same (take x.stop s) longer_line) is ∙ ranged-is s
