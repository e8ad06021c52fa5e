-- What stands in a line in form: neither byte 10 nor byte 13, so that its end is where its contents end; and GATE is its first word exactly in a GATE line.
use Rattle.base.specs.{ℕ, ◌+◌, ◌<◌, arith, ◌≡◌, refl, sym, ◌∙◌, ap, subst, ◌⊎◌, inl, inr, Bool, false, not, List, [], ◌∷◌, ◌++◌, nil≢cons}
use Rattle.base.specs.{head-eq_of_cons-eq, tail-eq_of_cons-eq, Memᴰ, Memᴰ-head, Memᴰ-tail, Memᴰ-not-nil, eqb, length}
use Rattle.base.specs.{and_yes}
use Rattle.model.specs.{all, text, is_name_byte, is_word, is_empty, Part}
use Rattle.promises.specs.{NameByte}
use Rattle.theory_graph.proofs.{by_member}
use Rattle.theory_text.proofs.{Free, above, free_append, bytes-free}
use Rattle.promises.specs.GateForms.{Blank, space, tab, WordByte, Stops, Spelled, none, blank, sign, word, Named, Digits, digit, more}
use Rattle.promises.specs.GateForms.{Figure, whole, pointed, Worth, named, bracketed, sign_negated, primed, one, times, alone, plus, GateSays}
use Rattle.promises.specs.GateForms.{GateContents, PinSays, PinContents}
use Rattle.promises.specs.GateRefusals.{Opens}
use Rattle.theory_genlib_refusals.proofs.WordForms.{word-name}

-- ---- a byte below the space, the tab apart, is in no line in form
module _ (s : ℕ) (low : s < 32) (no_tab : eqb 9 s ≡ false) where
  abbrev Frees : List (List ℕ) → Type 0
  Frees [] = Unit {0}
  Frees (t ∷ ts) = Free s t × Frees ts

  frees_append : (ts us : List (List ℕ)) → Frees ts → Frees us → Frees (ts ++ us)
  frees_append [] us a b = b
  frees_append (t ∷ ts) us a b = (a.0, frees_append ts us a.1 b)

  spelled_free : {w : List ℕ} {ts : List (List ℕ)} → Spelled w ts → Frees ts → Free s w
  spelled_free none f = tt
  spelled_free (blank space r) f = (above s 32 low, spelled_free r f)
  spelled_free (blank tab r) f = (no_tab, spelled_free r f)
  spelled_free (sign h k r) f = (f.0.0, spelled_free r f.1)
  spelled_free (word {w} {s = v} h k r) f = free_append s w v f.0 (spelled_free r f.1)

  name_free : {t : List ℕ} → Named t → Free s t
  unfolding is_word
  name_free {t} n = bytes-free s t (omega arith) (and_yes (not (is_empty t)) (all is_name_byte t) (word-name t n)).1

  digits-free : {w : List ℕ} {n : ℕ} → Digits w n → Free s w
  digits-free (digit {d} h) = (above s (48 + d) (omega arith), tt)
  digits-free (more {w} {n} {d} r h) = free_append s w ((48 + d) ∷ []) (digits-free r) (above s (48 + d) (omega arith), tt)

  figure-free : {w : List ℕ} → Figure w → Free s w
  figure-free (whole d) = digits-free d
  figure-free (pointed {w} {f} d e) = free_append s w (46 ∷ f) (digits-free d) (above s 46 (omega arith), digits-free e)

  sign-free : (b : ℕ) → 32 < b → Free s (b ∷ [])
  sign-free b h = (above s b (omega arith), tt)

  worth_free : {value : List ℕ → Bool} {k : ℕ} {p : Part} {ts : List (List ℕ)} {v : Bool} → Worth value k p ts v → Frees ts
  worth_free (named n) = (name_free n, tt)
  worth_free (bracketed {ts = ts} w) = (sign-free 40 (omega arith), frees_append ts ((41 ∷ []) ∷ []) (worth_free w) (sign-free 41 (omega arith), tt))
  worth_free (sign_negated w) = (sign-free 33 (omega arith), worth_free w)
  worth_free (primed {ts = ts} w) = frees_append ts ((39 ∷ []) ∷ []) (worth_free w) (sign-free 39 (omega arith), tt)
  worth_free (one w) = worth_free w
  worth_free (times {ts = ts} {us} w x) = frees_append ts ((42 ∷ []) ∷ us) (worth_free w) (sign-free 42 (omega arith), worth_free x)
  worth_free (alone w) = worth_free w
  worth_free (plus {ts = ts} {us} w x) = frees_append ts ((43 ∷ []) ∷ us) (worth_free w) (sign-free 43 (omega arith), worth_free x)

  gate-word : Free s (text "GATE")
  unfolding text
  gate-word = (above s 71 (omega arith), (above s 65 (omega arith), (above s 84 (omega arith), (above s 69 (omega arith), tt))))

  pin-word : Free s (text "PIN")
  unfolding text
  pin-word = (above s 80 (omega arith), (above s 73 (omega arith), (above s 78 (omega arith), tt)))

  pub gate-free : (w : List ℕ) (g : GateSays) → GateContents w g → Free s w
  gate-free w g c =
      spelled_free c.is_all
      (gate-word, (name_free c.is_name, (figure-free c.is_area, (name_free c.is_output, (sign-free 61 (omega arith), frees_append g.formula ((59 ∷ []) ∷ []) (worth_free (c.is_formula (λ t. false)).1) (sign-free 59 (omega arith), tt))))))

  star_free : (w : List ℕ) → (w ≡ 42 ∷ []) ⊎ Named w → Free s w
  star_free w (inl e) = subst (Free s) (sym e) (sign-free 42 (omega arith))
  star_free w (inr n) = name_free n

  pub pin-free : (w : List ℕ) (p : PinSays) → PinContents w p → Free s w
  pin-free w p c =
      spelled_free c.is_all
      (pin-word, (star_free p.name c.is_name, (name_free c.is_phase, (figure-free c.is_load, (figure-free c.is_most, (figure-free c.is_rise, (figure-free c.is_rise_fanout, (figure-free c.is_fall, (figure-free c.is_fall_fanout, tt)))))))))

-- ---- the first word

stops-name : (s : List ℕ) → Stops WordByte s → Stops NameByte s
stops-name [] h = tt
stops-name (b ∷ s) h = λ n. h (inl n)

opens_first : {w : List ℕ} {us : List (List ℕ)} → Spelled w us → (ts : List (List ℕ)) → us ≡ text "GATE" ∷ ts → Opens w
unfolding text
opens_first none ts e = absurd (nil≢cons e)
opens_first (blank {b} h r) ts e =
    let o = opens_first r ts e in
    record {
      blanks = b ∷ o.blanks;
      behind = o.behind;
      is_all = ap (λ (x : List ℕ). b ∷ x) o.is_all;
      are_blanks = (λ y z. by_member z (λ q. rw q h) (o.are_blanks y));
      ends = o.ends;
    }
opens_first (sign {b} h k r) ts e = absurd (let q : ◌≡◌ {A = ℕ} 1 4 = ap length (head-eq_of_cons-eq e) in omega arith)
opens_first (word {w} {s} h k r) ts e =
    record { blanks = []; behind = s; is_all = ap (λ (x : List ℕ). x ++ s) (head-eq_of_cons-eq e); are_blanks = λ b m. absurd (Memᴰ-not-nil m); ends = stops-name s k }

pub gate_opens : {w : List ℕ} {g : GateSays} → GateContents w g → Opens w
gate_opens c = opens_first c.is_all _ refl

no_blank : (b c : ℕ) → Blank b → b ≡ c → 65 < c → ⊥
no_blank b c space e h = omega arith
no_blank b c tab e h = omega arith

shuts_first : {w : List ℕ} {us : List (List ℕ)} → Spelled w us → (ts : List (List ℕ)) → us ≡ text "PIN" ∷ ts → (bs behind : List ℕ) → w ≡ bs ++ (text "GATE" ++ behind)
    → ((b : ℕ) → Memᴰ b bs → Blank b) → ⊥
unfolding text
shuts_first none ts e bs behind q f = nil≢cons e
shuts_first (blank {b} h r) ts e [] behind q f = no_blank b 71 h (head-eq_of_cons-eq q) (omega arith)
shuts_first (blank {b} h r) ts e (c ∷ bs) behind q f = shuts_first r ts e bs behind (tail-eq_of_cons-eq q) (λ x m. f x (Memᴰ-tail m))
shuts_first (sign {b} h k r) ts e bs behind q f = let z : ◌≡◌ {A = ℕ} 1 3 = ap length (head-eq_of_cons-eq e) in omega arith
shuts_first (word {w} {s} h k r) ts e [] behind q f =
    let z : ◌≡◌ {A = ℕ} 80 71 = head-eq_of_cons-eq (ap (λ (x : List ℕ). x ++ s) (sym (head-eq_of_cons-eq e)) ∙ q) in omega arith
shuts_first (word {w} {s} h k r) ts e (c ∷ bs) behind q f = no_blank c 80 (f c (Memᴰ-head refl))
    (sym (head-eq_of_cons-eq (ap (λ (x : List ℕ). x ++ s) (sym (head-eq_of_cons-eq e)) ∙ q))) (omega arith)

pub pin_shuts : {w : List ℕ} {p : PinSays} → PinContents w p → ¬ Opens w
pin_shuts c o = shuts_first c.is_all _ refl o.blanks o.behind o.is_all o.are_blanks
