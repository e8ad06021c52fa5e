-- The two passes, group by group, and what the call answers by what they find.
--     groups-here                      the group at a place, and those behind it
--     measure_more, -stop, -end        the length, one group more; a refusal; at the end
--     lines-here, lines_end            the lines, one group more; at the end
--     too_long, refused, over, fine    what the call writes: 1; 22 to 24; 18; the text
--     refuses, writes                  its answer and the memory after it
--     length-within                    a length that it answers is within the memory
use Rattle.std.specs.Prelude.{Ok}
use Rattle.base.specs.{◌≡◌, refl, sym, ap, ap₂, ◌∙◌, Bool, true, false, List, [], ◌∷◌, ◌++◌, append-nil, ℕ, ◌+◌, ◌≤◌, ◌<◌, add-zero, arith, leb}
use Rattle.base.specs.{length, drop, length-append, leb-true, le-leb, lt-leb}
use Rattle.model.specs.{each, Line, text, lines_from, Read, holds, fault, next, unless, Group, grouped, groups, read_group, read_groups, refused_with}
use Rattle.model.specs.{read_genlib, gate_text, cells_text, genlib_text, written_answer, written_after}
use Rattle.model.specs.Genlib.{Gate}
use Rattle.model.proofs.{refusal_parts}
use Rattle.base_text.specs.{line_at, span_at, Wrote}
use Rattle.base_text.proofs.{lines_none, put_front}
use Rattle.genlib_groups.specs.{lines_of, group_at}
use Rattle.genlib_groups.proofs.{bounded}
use Rattle.genlib_call.specs.{measured, found, line_of, lines_for, text_for}

-- a refusal that `?` hands on
-- ---- groups

pub read-start : (s : List ℕ) → read_genlib s ≡ read_groups (groups (lines_of s 0))
unfolding read_genlib
read-start s = refl

cut : (xs ls : List Line) (l : Line) → xs ≡ l ∷ ls → groups xs ≡ record { head = l; lines = (grouped (drop 1 xs)).0 } ∷ (grouped (drop 1 xs)).1
unfolding groups
cut xs ls l e =
    ap groups e ∙ sym (ap (λ (ys : List Line). record { head = l; lines = (grouped (drop 1 ys)).0 } ∷ (grouped (drop 1 ys)).1) e)

-- the group at a place, and those behind it
abbrev pub groups_behind : List ℕ → ℕ → List Group
groups_behind s at = (grouped (drop 1 (lines_of s at))).1

pub groups-here : (s : List ℕ) (at : ℕ) → at < length s → groups (lines_of s at) ≡ group_at s at ∷ groups_behind s at
unfolding group_at
groups-here s at h = cut (lines_of s at) _ (line_at s at) (bounded s at h (span_at s at) refl).lines

-- ---- the length

read_cons : (g : Group) (gs : List Group) → read_groups (g ∷ gs) ≡ next (read_group g) (λ c. next (read_groups gs) (λ cs. holds (c ∷ cs)))
unfolding read_groups
read_cons g gs = refl

longer : (n : ℕ) (c : Gate) (r : Read (List Gate)) → measured n (next r (λ cs. holds (c ∷ cs))) ≡ measured (n + length (gate_text c)) r
unfolding measured next each
longer n c (holds cs) = let e : n + length (gate_text c ++ each gate_text cs) ≡ n + length (gate_text c) + length (each gate_text cs) = omega (arith, length-append (gate_text c) (each gate_text cs)) in ap Ok e
longer n c (fault k p) = refl

pub measure_more : (n : ℕ) (g : Group) (gs : List Group) (c : Gate) → read_group g ≡ holds c
    → measured n (read_groups (g ∷ gs)) ≡ measured (n + length (gate_text c)) (read_groups gs)
unfolding next
measure_more n g gs c e =
    ap (measured n) (read_cons g gs ∙ ap (λ (r : Read Gate). next r (λ c. next (read_groups gs) (λ cs. holds (c ∷ cs)))) e) ∙ longer n c (read_groups gs)

pub measure_stop : (n : ℕ) (g : Group) (gs : List Group) (k p : ℕ) → read_group g ≡ fault k p → measured n (read_groups (g ∷ gs)) ≡ refused_with k p
unfolding next measured
measure_stop n g gs k p e = ap (measured n) (read_cons g gs ∙ ap (λ (r : Read Gate). next r (λ c. next (read_groups gs) (λ cs. holds (c ∷ cs)))) e)

none_left : (n : ℕ) → measured n (read_groups (groups [])) ≡ Ok n
unfolding measured read_groups groups each
none_left n = ap Ok (add-zero n)

pub measure_end : (s : List ℕ) (at n : ℕ) → length s ≤ at → measured n (read_groups (groups (lines_of s at))) ≡ Ok n
measure_end s at n h = ap (λ (ls : List Line). measured n (read_groups (groups ls))) (lines_none s at h) ∙ none_left n

-- ---- the lines

pub line-held : (g : Group) (c : Gate) → read_group g ≡ holds c → line_of g ≡ gate_text c
unfolding line_of found each
line-held g c e = ap (λ (r : Read Gate). each gate_text (found r)) e ∙ append-nil (gate_text c)

pub line-none : (g : Group) (k p : ℕ) → read_group g ≡ fault k p → line_of g ≡ []
unfolding line_of found each
line-none g k p e = ap (λ (r : Read Gate). each gate_text (found r)) e

pub lines_more : (g : Group) (gs : List Group) → lines_for (g ∷ gs) ≡ line_of g ++ lines_for gs
unfolding lines_for each
lines_more g gs = refl

pub lines-here : (s : List ℕ) (at : ℕ) → at < length s → lines_for (groups (lines_of s at)) ≡ line_of (group_at s at) ++ lines_for (groups_behind s at)
lines-here s at h = ap lines_for (groups-here s at h) ∙ lines_more (group_at s at) (groups_behind s at)

no_line_lem : lines_for (groups []) ≡ []
unfolding lines_for groups each
no_line_lem = refl

pub lines_end : (s : List ℕ) (at : ℕ) → length s ≤ at → lines_for (groups (lines_of s at)) ≡ []
lines_end s at h = ap (λ (ls : List Line). lines_for (groups ls)) (lines_none s at h) ∙ no_line_lem

-- a fault is never what is read
no_fault : {A : Type 0} {k p : ℕ} {a : A} {B : Type 0} → fault k p ≡ holds a → B
no_fault e = let z : ◌≡◌ {A = ℕ} 0 1 = cc in absurd (omega arith)

-- where all is read, the lines are those of the gates
no_lines_lem : (cs : List Gate) → holds [] ≡ holds cs → [] ≡ each gate_text cs
unfolding each
no_lines_lem cs e = let z : [] ≡ cs = cc in ap (each gate_text) z

some-lines : (g : Group) (ls : List ℕ) (cs : List Gate) (r : Read Gate) → read_group g ≡ r → (rs : Read (List Gate)) → ((ds : List Gate) → rs ≡ holds ds → ls ≡ each gate_text ds)
    → next r (λ c. next rs (λ cs. holds (c ∷ cs))) ≡ holds cs → line_of g ++ ls ≡ each gate_text cs
unfolding next each
some-lines g ls cs (holds c) p (holds ds) q h =
    let same : c ∷ ds ≡ cs = cc in
    ap (λ (x : List ℕ). x ++ ls) (line-held g c p) ∙ ap (λ (x : List ℕ). gate_text c ++ x) (q ds refl) ∙ ap (each gate_text) same
some-lines g ls cs (holds c) p (fault k l) q h = no_fault h
some-lines g ls cs (fault k l) p rs q h = no_fault h

all_lines : (gs : List Group) (cs : List Gate) → read_groups gs ≡ holds cs → lines_for gs ≡ each gate_text cs
unfolding read_groups lines_for
all_lines [] cs e = no_lines_lem cs e
all_lines (g ∷ gs) cs e = some-lines g (lines_for gs) cs (read_group g) refl (read_groups gs) (all_lines gs) e

-- ---- the call

-- what is written of the gates that are read
abbrev offered : ℕ → List Gate → Read (List ℕ)
offered bytes gs = let t = cells_text gs in unless (leb (length t) bytes) 18 (length t) (holds t)

cells-length : (gs : List Gate) → length (cells_text gs) ≡ 33 + length (each gate_text gs)
unfolding cells_text text
cells-length gs = length-append (text "cell pins table area d0 d1 d2 d3\n") (each gate_text gs)

not-refused : (bytes k p : ℕ) (r : Read (List Gate)) → measured 33 r ≡ refused_with k p → next r (offered bytes) ≡ fault k p
unfolding measured next
not-refused bytes k p (holds gs) h = let z : ◌≡◌ {A = ℕ} 0 1 = cc in absurd (omega arith)
not-refused bytes k p (fault a b) h = let parts = refusal_parts h in ap₂ fault parts.0 parts.1

-- the gates behind a length
record Behind (n : ℕ) (r : Read (List Gate)) : Type 0 where
  gates : List Gate
  read : r ≡ holds gates
  long : length (cells_text gates) ≡ n

behind : (n : ℕ) (r : Read (List Gate)) → measured 33 r ≡ Ok n → Behind n r
unfolding measured
behind n (holds gs) h = let e : 33 + length (each gate_text gs) ≡ n = cc in record { gates = gs; read = refl; long = cells-length gs ∙ e }
behind n (fault k p) h = let z : ◌≡◌ {A = ℕ} 0 1 = cc in absurd (omega arith)

module _ (s : List ℕ) (bytes : ℕ) where
  pub too_long : 65536 < length s → genlib_text s bytes ≡ fault 1 0
  unfolding genlib_text unless
  too_long h = rw (lt-leb (length s) 65536 h)

  module _ (short : length s ≤ 65536) where
    begun : genlib_text s bytes ≡ next (read_genlib s) (offered bytes)
    unfolding genlib_text unless
    begun = rw (le-leb (length s) 65536 short)

    pub refused : (k p : ℕ) → measured 33 (read_genlib s) ≡ refused_with k p → genlib_text s bytes ≡ fault k p
    refused k p e = begun ∙ not-refused bytes k p (read_genlib s) e

    module _ (n : ℕ) (e : measured 33 (read_genlib s) ≡ Ok n) where
      abbrev b : Behind n (read_genlib s)
      b = behind n (read_genlib s) e

      read : genlib_text s bytes ≡ offered bytes b.gates
      unfolding next
      read = begun ∙ ap (λ (r : Read (List Gate)). next r (offered bytes)) b.read

      pub over : bytes < n → genlib_text s bytes ≡ fault 18 n
      unfolding unless
      over h =
          let more : bytes < length (cells_text b.gates) = omega (arith, b.long) in
          read ∙ ap (λ (x : Bool). unless x 18 (length (cells_text b.gates)) (holds (cells_text b.gates))) (lt-leb (length (cells_text b.gates)) bytes more) ∙ ap (fault 18) b.long

      -- the lines that are written are those of the gates
      text-is : text_for s ≡ cells_text b.gates
      unfolding text_for cells_text read_genlib
      text-is = ap (λ (x : List ℕ). text "cell pins table area d0 d1 d2 d3\n" ++ x) (all_lines (groups (lines_from 0 [] s)) b.gates b.read)

      pub text-long : length (text_for s) ≡ n
      text-long = ap length text-is ∙ b.long

      pub fine : n ≤ bytes → genlib_text s bytes ≡ holds (text_for s)
      unfolding unless
      fine h =
          let capacity : length (cells_text b.gates) ≤ bytes = omega (arith, b.long) in
          read ∙ ap (λ (x : Bool). unless x 18 (length (cells_text b.gates)) (holds (cells_text b.gates))) (le-leb (length (cells_text b.gates)) bytes capacity) ∙ ap holds (sym text-is)

-- the names line, and the lines behind it
abbrev pub names_line : List ℕ
names_line = 99 ∷ 101 ∷ 108 ∷ 108 ∷ 32 ∷ 112 ∷ 105 ∷ 110 ∷ 115 ∷ 32 ∷ 116 ∷ 97 ∷ 98 ∷ 108 ∷ 101 ∷ 32 ∷ 97 ∷ 114 ∷ 101 ∷ 97 ∷ 32 ∷ 100 ∷ 48 ∷ 32 ∷ 100 ∷ 49 ∷ 32 ∷ 100 ∷ 50 ∷ 32 ∷ 100 ∷ 51 ∷ 10 ∷ []

pub text-parts : (s : List ℕ) → text_for s ≡ names_line ++ lines_for (groups (lines_of s 0))
unfolding text_for text
text-parts s = refl

-- what a call answers and leaves that refuses, and one that writes
pub refuses : (r : Read (List ℕ)) (k p : ℕ) (memory : List ℕ) → r ≡ fault k p → (refused_with k p ≡ written_answer r) × (memory ≡ written_after r memory)
unfolding written_answer written_after
refuses r k p memory e = (sym (ap written_answer e), sym (ap (λ (x : Read (List ℕ)). written_after x memory) e))

pub writes : (r : Read (List ℕ)) (t memory after : List ℕ) (n : ℕ) → r ≡ holds t → Wrote memory after 0 n t → (Ok n ≡ written_answer r) × (after ≡ written_after r memory)
unfolding written_answer written_after
writes r t memory after n e w =
    let long : n ≡ length t = omega (arith, w.ends) in
    (ap Ok long ∙ sym (ap written_answer e), w.leaves ∙ put_front memory t ∙ sym (ap (λ (x : Read (List ℕ)). written_after x memory) e))

-- ---- a length that is answered is within the memory

abbrev Within : ℕ → Read (List ℕ) → Type 0
Within bytes (holds t) = length t ≤ bytes
Within bytes (fault k p) = Unit {0}

within-unless : (bytes : ℕ) (b : Bool) (k p : ℕ) (r : Read (List ℕ)) → (b ≡ true → Within bytes r) → Within bytes (unless b k p r)
unfolding unless
within-unless bytes true k p r h = h refl
within-unless bytes false k p r h = tt

within-next : (bytes : ℕ) (r : Read (List Gate)) → Within bytes (next r (offered bytes))
unfolding next
within-next bytes (holds gs) = let t = cells_text gs in within-unless bytes (leb (length t) bytes) 18 (length t) (holds t) (leb-true (length t) bytes)
within-next bytes (fault k p) = tt

within_text : (s : List ℕ) (bytes : ℕ) → Within bytes (genlib_text s bytes)
unfolding genlib_text
within_text s bytes = within-unless bytes (leb (length s) 65536) 1 0 (next (read_genlib s) (offered bytes)) (λ e. within-next bytes (read_genlib s))

answered-within : (bytes n : ℕ) (r : Read (List ℕ)) → Within bytes r → Ok n ≡ written_answer r → n ≤ bytes
unfolding written_answer
answered-within bytes n (holds t) h e = let long : n ≡ length t = cc in omega arith
answered-within bytes n (fault k p) h e = let z : ◌≡◌ {A = ℕ} 0 1 = cc in absurd (omega arith)

pub length-within : (s : List ℕ) (bytes n : ℕ) → Ok n ≡ written_answer (genlib_text s bytes) → n ≤ bytes
length-within s bytes n e = answered-within bytes n (genlib_text s bytes) (within_text s bytes) e
