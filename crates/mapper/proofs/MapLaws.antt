-- The whole call: refusal 1, the library's, and what comes behind; the demands.
use Rattle.std.specs.Prelude.{Ok, Result}
use Rattle.model.specs.{Answer, refused_with}
use Rattle.model.specs.declared.Library.{Library}
use Rattle.model.specs.declared.Refusal.{Refusal}
use Rattle.base.specs.{ℕ, ◌≤◌, arith, ◌≡◌, refl, sym, ◌∙◌, ap, subst, Bool, true, false, ◌&&◌, List, T, leb, leb→le, le→leb, length}
use Rattle.model.specs.{Read, holds, fault, next, unless, cells_of, library_of, library_answer, read_library, is_ranged, cells_for, Call, call_of}
use Rattle.model.specs.{Design, short, map_design, read_listed, read_texts, map_texts, returned, Memory}
use Rattle.model.specs.declared.Cell.{Cell}
use Rattle.model.proofs.{answer-returns, refusal_parts}
use Rattle.promises.specs.{Fits, Mapping}
use Rattle.theory_demands.proofs.{promised}
use Rattle.mapper.specs.{Left, LibraryRead, headed_of, library_for}
use Rattle.mapper.proofs.LibraryBounds.{cells-back, library-read}
use Rattle.mapper.proofs.RefusalOrder.{library-early}
use Rattle.mapper.proofs.CallEnds.{left-early, left_as}

-- what a call leaves is what demand 1 asks
pub memory_of : (c : Call) (work text : List ℕ) (a : Answer) (y u : List ℕ) → Left (map_texts c) work text a y u → Memory c work text a y u
memory_of c work text a y u l = record {
  answers = l.answered.answers;
  returns = ap returned l.answered.answers ∙ answer-returns (map_texts c);
  words = l.words;
  bytes = l.answered.bytes;
}

-- with what is promised of every call it is all that the contract says
pub mapping_of : {paired : Bool} {library graph arrivals work text : List ℕ} {a : Answer} {y u : List ℕ} → Memory (call_of paired library graph arrivals work text) work text a y u
    → Mapping paired library graph arrivals work text a y u
mapping_of {paired = paired} {library = library} {graph = graph} {arrivals = arrivals} {work = work} {text = text} m =
    let p = promised (call_of paired library graph arrivals work text) in
    record { memory = m; fits = subst (λ (x : Answer). Fits x (length text)) (sym m.answers) p.fits; promised = p }

-- what comes behind a test comes behind what follows it
unless-next : {A B : Type 0} (b : Bool) (n k : ℕ) (x : A) (f : A → Read B) → next (unless b n k (holds x)) f ≡ unless b n k (f x)
unfolding next unless
unless-next true n k x f = refl
unless-next false n k x f = refl

-- ---- 1

module _ (paired : Bool) (library graph arrivals work text : List ℕ) where
  abbrev call : Call
  call = call_of paired library graph arrivals work text

  -- 7 to 14, 19 to 21, 25 and 26
  headed : List Cell → Read Design
  headed listed = headed_of (is_ranged library) listed (cells_for paired listed) graph arrivals (length work)

  -- 2 to 6, 27 and 30 before them
  listing : Read (List Cell) → Read Design
  listing r = next (next r (λ cells. unless (leb (length (cells_for paired cells)) 256) 30 0 (holds cells))) headed

  behind : Read Design
  behind = listing (read_library library)

  texts_are : read_texts call ≡ unless (short call) 1 0 behind
  unfolding read_texts read_listed behind listing headed
  texts_are = refl

  one : short call ≡ false → Memory call work text (refused_with 1 0) work text
  unfolding map_texts map_design unless
  one e =
      memory_of call work text (refused_with 1 0) work text
      (left_as (ap (λ (r : Read Design). map_design (length text) r) (texts_are ∙ ap (λ (b : Bool). unless b 1 0 behind) e)) (left-early 1 0 work text refl))

  -- "A text is longer than 65,536 bytes": any of three
  short-not : (a b c : Bool) → (T a → T b → T c → ⊥) → (a && (b && c)) ≡ false
  short-not true true true y = absurd (y tt tt tt)
  short-not true true false y = refl
  short-not true false c y = refl
  short-not false b c y = refl

  pub long-text : (length library ≤ 65536 → length graph ≤ 65536 → length arrivals ≤ 65536 → ⊥) → Memory call work text (refused_with 1 0) work text
  long-text l =
      one (short-not (leb (length library) 65536) (leb (length graph) 65536) (leb (length arrivals) 65536)
      (λ x y z. l (leb→le (length library) 65536 x) (leb→le (length graph) 65536 y) (leb→le (length arrivals) 65536 z)))

  module _ (short_library : length library ≤ 65536) (short_graph : length graph ≤ 65536) (short_arrivals : length arrivals ≤ 65536) where
    entered : map_texts call ≡ map_design (length text) behind
    unfolding map_texts unless
    entered =
        ap (λ (r : Read Design). map_design (length text) r)
        (texts_are
        ∙ go (leb (length library) 65536) (leb (length graph) 65536) (leb (length arrivals) 65536) (le→leb (length library) 65536 short_library) (le→leb (length graph) 65536 short_graph) (le→leb (length arrivals) 65536 short_arrivals))
      where
        go : (a b c : Bool) → T a → T b → T c → unless (a && (b && c)) 1 0 behind ≡ behind
        go true true true x y z = refl
        go true true false x y z = absurd z
        go true false c x y z = absurd y
        go false b c x y z = absurd x

    module _ (l : Result Library Refusal) (answered : l ≡ library_answer (read_library library)) where
      -- 2 to 6 and 27
      pub library-stops : (n k : ℕ) → l ≡ refused_with n k → Memory call work text (refused_with n k) work text
      unfolding library_answer behind listing next map_design
      library-stops n k e = go (read_library library) refl (sym answered ∙ e)
        where
          go : (r : Read (List Cell)) → read_library library ≡ r → library_answer r ≡ refused_with n k → Memory call work text (refused_with n k) work text
          go (holds cs) q z = absurd (let x : ◌≡◌ {A = ℕ} 0 1 = cc in omega arith)
          go (fault m j) q z =
              let x = (refusal_parts z).0 in let y = (refusal_parts z).1 in
              let f : read_library library ≡ fault n k = q ∙ (λ i. fault (x i) (y i)) in
              memory_of call work text (refused_with n k) work text
              (left_as (entered ∙ ap (λ (r : Read (List Cell)). map_design (length text) (listing r)) f)
              (left-early n k work text ((library-early library).has n k f)))

      pub record IsRead (lib : Library) : Type 0 where
        pub ok : LibraryRead lib
        pub goes : map_texts call ≡ library_for paired (is_ranged library) lib graph arrivals (length work) (length text)

      pub library-heard : (lib : Library) → l ≡ Ok lib → IsRead lib
      unfolding library_answer behind listing headed library_for next
      library-heard lib e = go (read_library library) refl (sym answered ∙ e)
        where
          go : (r : Read (List Cell)) → read_library library ≡ r → library_answer r ≡ Ok lib → IsRead lib
          go (fault m j) q z = absurd (let x : ◌≡◌ {A = ℕ} 0 1 = cc in omega arith)
          go (holds cs) q z =
              let is : lib ≡ library_of cs = cc in
              let same : cells_of (library_of cs) ≡ cs = cells-back cs in
              record {
                ok = subst LibraryRead (sym is) (library-read library cs q);
                goes = entered ∙ ap (λ (r : Read (List Cell)). map_design (length text) (listing r)) (q ∙ ap holds (sym (ap cells_of is ∙ same)))
                    ∙ ap (map_design (length text)) (unless-next (leb (length (cells_for paired (cells_of lib))) 256) 30 0 (cells_of lib) headed);
              }
