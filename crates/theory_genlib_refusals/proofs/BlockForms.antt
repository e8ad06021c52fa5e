-- Blocks of bytes and groups of lines: a text that is not empty begins with a block, and the block's lines are its first group, in form exactly where the block
-- is; the other groups are those of the text behind it.
use Rattle.base.specs.{ℕ, zero, suc, ◌+◌, ◌≤◌, ◌<◌, le_refl, arith, ◌≡◌, refl, sym, ◌∙◌, ap, subst, ◌⊎◌, inl, inr, ◌↔◌, not, List, [], ◌∷◌}
use Rattle.base.specs.{◌++◌, append_assoc, cons≢nil, head-eq_of_cons-eq, T, lit<, T_not, not_T, length, length-append, and_yes, yes_and}
use Rattle.model.specs.{all, Line, ended, lines_from, Group, starts_gate, grouped, groups}
use Rattle.theory_graph.proofs.{is_true, is_false, by_list}
use Rattle.theory_refusals.proofs.{on}
use Rattle.promises.specs.GateForms.{GateSays, PinSays}
use Rattle.promises.specs.GateRefusals.{PinLines, no_line, a_line, Formed, Opens, ALine, full, last, Below, at_end, at_gate}
use Rattle.promises.specs.GateRefusals.{further, Block}
use Rattle.theory_genlib_refusals.proofs.PinForms.{Says, no_more, one_more}
use Rattle.theory_genlib_refusals.proofs.GroupForms.{FormedLines}
use Rattle.theory_genlib_refusals.proofs.OpenForms.{opens_exactly}
use Rattle.theory_genlib_refusals.proofs.EndForms.{gate-free, pin-free, gate_opens, pin_shuts}
use Rattle.theory_genlib_refusals.proofs.RowForms.{first-line, Row, line_row, opens_line, opens_text, row_line, line_kept}

-- ---- groups, line by line

grouped_open : (l : Line) (ls : List Line) → T (starts_gate l) → grouped (l ∷ ls) ≡ ([], groups (l ∷ ls))
unfolding grouped groups
grouped_open l ls t = cc (is_true (starts_gate l) t)

grouped_shut : (l : Line) (ls ms : List Line) (gs : List Group) → T (not (starts_gate l)) → grouped ls ≡ (ms, gs) → grouped (l ∷ ls) ≡ (l ∷ ms, gs)
unfolding grouped
grouped_shut l ls ms gs t e = cc (is_false (starts_gate l) t)

-- the first group, by the lines behind its first
group_first : (l : Line) (ls ms : List Line) (gs : List Group) → grouped ls ≡ (ms, gs) → groups (l ∷ ls) ≡ record { head = l; lines = ms } ∷ gs
unfolding groups
group_first l ls ms gs e = ap (λ (p : List Line × List Group). record { head = l; lines = p.0 } ∷ p.1) e

-- the text's end or a line that opens a gate
abbrev pub Border : List ℕ → Type 0
Border rest = (rest ≡ []) ⊎ Opens rest

border_end : (at : ℕ) → grouped (lines_from at [] []) ≡ ([], groups (lines_from at [] []))
unfolding lines_from grouped groups
border_end at = refl

border_groups : (at : ℕ) (rest : List ℕ) → Border rest → grouped (lines_from at [] rest) ≡ ([], groups (lines_from at [] rest))
border_groups at [] b = border_end at
border_groups at (b ∷ t) (inl e) = absurd (cons≢nil e)
border_groups at (b ∷ t) (inr o) =
    let f = first-line b t in
    let r = line_row at f.3 in
    cc (grouped_open r.0 (lines_from (at + length f.0) [] f.1) ((opens_exactly r.0).1 ((opens_text r.1).1 (rw (← f.2) o))))

-- ---- the lines below a gate's first

pub data Lay : List ℕ → List Line → Type 0 where
  none_laid : Lay [] []
  one_laid : {at : ℕ} {w below more : List ℕ} {l : Line} {ls : List Line} → Row at w more l → Lay below ls → Lay (w ++ below) (l ∷ ls)

start : (at : ℕ) (rest : List ℕ) → Border rest → grouped (lines_from at [] rest) ≡ ([], groups (lines_from (at + 0) [] rest))
start at rest b = border_groups at rest b ∙ ap (λ (n : ℕ). ([], groups (lines_from n [] rest))) (let e : at ≡ at + 0 = omega arith in e)

-- a line that opens no gate, in front of such lines
step : (at : ℕ) (w below rest : List ℕ) (l : Line) (ls : List Line) → lines_from at [] (w ++ (below ++ rest)) ≡ l ∷ lines_from (at + length w) [] (below ++ rest) → (¬ Opens l.bytes)
    → grouped (lines_from (at + length w) [] (below ++ rest)) ≡ (ls, groups (lines_from (at + length w + length below) [] rest))
    → grouped (lines_from at [] ((w ++ below) ++ rest)) ≡ (l ∷ ls, groups (lines_from (at + length (w ++ below)) [] rest))
step at w below rest l ls e n k = cc (
  append_assoc w below rest,
  grouped_shut l (lines_from (at + length w) [] (below ++ rest)) ls
      (groups (lines_from (at + length w + length below) [] rest)) (not_T (starts_gate l) (λ t. n ((opens_exactly l).0 t))) k,
  let q : at + length w + length below ≡ at + length
      (w ++ below) = omega (arith, length-append w below) in q,
)

below-groups : {below rest : List ℕ} → Below below rest → (at : ℕ)
    → (ls : List Line) × Lay below ls × (grouped (lines_from at [] (below ++ rest)) ≡ (ls, groups (lines_from (at + length below) [] rest)))
below-groups at_end at = ([], none_laid, start at [] (inl refl))
below-groups (at_gate {s} o) at = ([], none_laid, start at s (inr o))
below-groups (further {l = w} {below} {s} a n b) at =
    let r = line_row at a in
    let k = below-groups b (at + length w) in
    (r.0 ∷ k.0, one_laid r.1 k.1, step at w below s r.0 k.0 r.1.lines (λ o. n ((opens_line r.1).0 o)) k.2)

pub below_border : {below rest : List ℕ} → Below below rest → Border rest
below_border at_end = inl refl
below_border (at_gate o) = inr o
below_border (further a n b) = below_border b

lay_pins : {below : List ℕ} {ls : List Line} {ps : List PinSays} → Lay below ls → T (all ended ls) → Says ls ps → PinLines below ps
unfolding all
lay_pins none_laid t no_more = no_line
lay_pins (one_laid {l = l} {ls} r k) t (one_more c s) = let a = and_yes (ended l) (all ended ls) t in a_line (row_line r a.0 c) (lay_pins k a.1 s)

pins-groups : {below : List ℕ} {ps : List PinSays} → PinLines below ps → (rest : List ℕ) → Border rest → (at : ℕ)
    → (ls : List Line) × T (all ended ls) × Says ls ps × (grouped (lines_from at [] (below ++ rest)) ≡ (ls, groups (lines_from (at + length below) [] rest)))
unfolding all
pins-groups no_line rest b at = ([], tt, no_more, start at rest b)
pins-groups (a_line {l = w} {s = below} {p} {ps} h r) rest b at =
    let k = line_kept at w (below ++ rest) p (pin-free 10 (lit< tt) refl) (pin-free 13 (lit< tt) refl) h in
    let m = pins-groups r rest b (at + length w) in (
      k.0 ∷ m.0,
      yes_and (ended k.0) (all ended m.0) k.1.ends m.1,
      one_more k.1.is m.2,
      step at w below rest k.0 m.0 k.1.lines (pin_shuts k.1.is) m.3,
    )

-- ---- a block

line-long : {w s : List ℕ} → ALine w s → 0 < length w
line-long (full {w} p) = omega (arith, length-append w (10 ∷ []))
line-long (last {w} n p) = by_list w (λ e. rw e (absurd ((rw e at n) refl))) (λ b v q. rw q (omega (arith, rw q at n)))

abbrev Parted : List ℕ → Type 0
Parted t = (below : List ℕ) × (rest : List ℕ) × (t ≡ below ++ rest) × Below below rest

-- every text begins with lines that open no gate, none perhaps
parted : (n : ℕ) (t : List ℕ) → length t ≤ n → Parted t
parted zero t h = by_list t (λ e. rw e ([], [], refl, at_end)) (λ b q p. rw p (absurd (omega (arith, rw p at h))))
parted (suc n) t h = go t h (parted n)
  where
    further-on : (t w s : List ℕ) → t ≡ w ++ s → ALine w s → Opens w ⊎ (¬ Opens w) → Parted s → Parted t
    further-on t w s e a (inl o) k = let r = line_row 0 a in ([], t, refl, at_gate (subst Opens (sym e) ((opens_text r.1).0 ((opens_line r.1).1 o))))
    further-on t w s e a (inr m) k =
        (w ++ k.0, k.1, e ∙ ap (λ (x : List ℕ). w ++ x) k.2 ∙ sym (append_assoc w k.0 k.1), further (subst (ALine w) k.2 a) m k.3)

    go : (t : List ℕ) → length t ≤ suc n → ((s : List ℕ) → length s ≤ n → Parted s) → Parted t
    go [] h later = ([], [], refl, at_end)
    go (b ∷ t) h later = further-on (b ∷ t) (first-line b t).0 (first-line b t).1 (first-line b t).2 (first-line b t).3
        (let l : Line = record { offset = 0; bytes = (first-line b t).0; ending = 0 } in on (starts_gate l)
        (λ t. inl ((opens_exactly l).0 t)) (λ t. inr (λ o. T_not (starts_gate l) t ((opens_exactly l).1 o)))) (later (first-line b t).1 (omega
        (arith, line-long (first-line b t).3, (ap length (first-line b t).2 ∙ length-append (first-line b t).0 (first-line b t).1), h)))

pub a_block : (b : ℕ) (t : List ℕ) → Block (b ∷ t)
a_block b t =
    let f = first-line b t in
    let k = parted (length f.1) f.1 (le_refl (length f.1)) in
    record { head = f.0; below = k.0; rest = k.1; is_all = f.2 ∙ ap (λ (x : List ℕ). f.0 ++ x) k.2; is_line = subst (ALine f.0) k.2 f.3; up_to = k.3 }

-- the groups from a gate on, where its first line and the lines below it are so long
all-groups : (at : ℕ) (head below rest : List ℕ) (l : Line) (ls : List Line) → lines_from at [] (head ++ (below ++ rest)) ≡ l ∷ lines_from (at + length head) [] (below ++ rest)
    → grouped (lines_from (at + length head) [] (below ++ rest)) ≡ (ls, groups (lines_from (at + length head + length below) [] rest))
    → groups (lines_from at [] (head ++ (below ++ rest))) ≡ record { head = l; lines = ls } ∷ groups (lines_from (at + length (head ++ below)) [] rest)
all-groups at head below rest l ls e k = cc (
  group_first l (lines_from (at + length head) [] (below ++ rest)) ls
      (groups (lines_from (at + length head + length below) [] rest)) k,
  let q : at + length head + length below ≡ at + length
      (head ++ below) = omega (arith, length-append head below) in q,
)

-- bytes that are a gate in form, in front of a text that goes on with another or ends
pub formed-groups : {head below : List ℕ} {h : GateSays} {ps : List PinSays} → Formed head below h ps → (rest : List ℕ) → Border rest → (at : ℕ)
    → (g : Group) × FormedLines g h ps × (groups (lines_from at [] (head ++ (below ++ rest))) ≡ g ∷ groups (lines_from (at + length (head ++ below)) [] rest)) × Opens (head ++ (below ++ rest))
formed-groups {head} {below} {h} {ps} f rest b at =
    let k = line_kept at head (below ++ rest) h (gate-free 10 (lit< tt) refl) (gate-free 13 (lit< tt) refl) f.gate in
    let m = pins-groups f.lines rest b (at + length head) in (
      record { head = k.0; lines = m.0 },
      record { ends_head = k.1.ends; is_head = k.1.is; ends_lines = m.1; are_lines = m.2; listed = f.listed },
      all-groups at head below rest k.0 m.0 k.1.lines m.3,
      k.1.opens (gate_opens k.1.is),
    )

pub record Reads (at : ℕ) {t : List ℕ} (b : Block t) (g : Group) : Type 0 where
  pub are_groups : groups (lines_from at [] t) ≡ g ∷ groups (lines_from (at + length (b.head ++ b.below)) [] b.rest)
  pub offset : g.head.offset ≡ at
  pub formed : (h : GateSays) (ps : List PinSays) → FormedLines g h ps ↔ Formed b.head b.below h ps

pub block_reads : (at : ℕ) {t : List ℕ} (b : Block t) → (g : Group) × Reads at b g
block_reads at {t} b =
    let r : (l : Line) × Row at b.head (b.below ++ b.rest) l = line_row at b.is_line in
    let k = below-groups b.up_to (at + length b.head) in
    let group : Group = record { head = r.0; lines = k.0 } in
    let are : groups (lines_from at [] t) ≡ group ∷ groups (lines_from (at + length (b.head ++ b.below)) [] b.rest) = ap
    (λ (x : List ℕ). groups (lines_from at [] x)) b.is_all
    ∙ all-groups at b.head b.below b.rest r.0 k.0 r.1.lines k.2 in
    let there : (h : GateSays) (ps : List PinSays) → FormedLines group h ps → Formed b.head b.below h ps = λ h ps f. record {
      gate = row_line r.1 f.ends_head f.is_head;
      lines = lay_pins k.1 f.ends_lines f.are_lines;
      listed = f.listed;
    } in (
      group,
      record {
        are_groups = are;
        offset = r.1.offset;
        formed = λ h ps. (
          there h ps,
          (λ x. let q = formed-groups x
              b.rest (below_border b.up_to) at in subst (λ (g : Group). FormedLines g h ps)
              (head-eq_of_cons-eq (sym q.2 ∙ ap (λ (x : List ℕ). groups (lines_from at [] x)) (sym b.is_all) ∙ are)) q.1),
        );
      },
    )
