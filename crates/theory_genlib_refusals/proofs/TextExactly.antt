-- The text, from its bytes: its gates are its groups', and the first group that is refused is the block that is. So every genlib text that 1 accepts is read
-- exactly as the conditions say, and every call answers so.
--     text-gates          GatesIn t and the groups that hold
--     text_faults         GenlibFault t and the first group that is refused
--     gates_exactly       Gates t, for every text
--     demand_genlib_refusals        GenlibRefusals t bytes, for every text and every number of lent bytes
use Rattle.base.specs.{ℕ, ◌+◌, ◌≡◌, refl, sym, ◌∙◌, ap, subst, ◌⊎◌, inl, inr, ◌↔◌, ⊎_elim, List, [], ◌∷◌, ◌++◌, append_assoc, append-nil}
use Rattle.base.specs.{cons≢nil, nil≢cons, head-eq_of_cons-eq, tail-eq_of_cons-eq, length, length-append}
use Rattle.model.specs.{lines_from, Group, groups, read_genlib}
use Rattle.model.specs.Genlib.{Gate}
use Rattle.theory_refusals.proofs.{exactly_map}
use Rattle.promises.specs.GateRefusals.{GatesIn, no_gate, a_gate, Block, BlockFault, twenty_two, twenty_three, twenty_four, GenlibFault, at_block}
use Rattle.promises.specs.GateRefusals.{Gates, GenlibRefusals}
use Rattle.theory_genlib_refusals.proofs.GroupForms.{FormedLines}
use Rattle.theory_genlib_refusals.proofs.GroupExactly.{GroupHolds, GroupFault, twenty_two as group22, twenty_three as group23}
use Rattle.theory_genlib_refusals.proofs.GroupExactly.{twenty_four as group24}
use Rattle.theory_genlib_refusals.proofs.GroupsExactly.{GroupsHold, no_group, a_group, GroupsFault, this_one, later_one}
use Rattle.theory_genlib_refusals.proofs.CallExactly.{genlib_exactly, call_from}
use Rattle.theory_genlib_refusals.proofs.BlockForms.{Border, below_border, a_block, formed-groups, Reads, block_reads}

groups-end : (at : ℕ) → groups (lines_from at [] []) ≡ []
unfolding lines_from groups
groups-end at = refl

-- ---- a block's refusal is its group's

fault-block : {at : ℕ} {t : List ℕ} (b : Block t) {g : Group} {n k : ℕ} → Reads at b g → GroupFault g n k → (k ≡ at) × BlockFault b.head b.below n
fault-block b r (group22 f) = (r.offset, twenty_two (λ p. f (p.0, p.1, (r.formed p.0 p.1).1 p.2)))
fault-block b r (group23 {h} {ps} f s) = (r.offset, twenty_three ((r.formed h ps).0 f) s)
fault-block b r (group24 {h} {ps} f s c) = (r.offset, twenty_four ((r.formed h ps).0 f) s c)

block-fault : {at : ℕ} {t : List ℕ} (b : Block t) {g : Group} {n : ℕ} → Reads at b g → BlockFault b.head b.below n → GroupFault g n g.head.offset
block-fault b r (twenty_two f) = group22 (λ p. f (p.0, p.1, (r.formed p.0 p.1).0 p.2))
block-fault b r (twenty_three {g} {ps} f s) = group23 ((r.formed g ps).1 f) s
block-fault b r (twenty_four {g} {ps} f s c) = group24 ((r.formed g ps).1 f) s c

-- ---- from the groups to the bytes: gates that are accepted, and the text behind them

-- the text behind one gate more
record Onward (s t : List ℕ) (ds : List Gate) (gs : List Group) (c : Gate) : Type 0 where
  front : List ℕ
  rest : List ℕ
  is_all : front ++ rest ≡ s ++ t
  gates : GatesIn front (ds ++ (c ∷ []))
  border : Border rest
  are_groups : groups (lines_from (length front) [] rest) ≡ gs

onward : {s : List ℕ} {ds : List Gate} → GatesIn s ds → (t : List ℕ) {g : Group} {gs : List Group} {c : Gate} → GroupHolds g c → groups (lines_from (length s) [] t) ≡ g ∷ gs → Onward s t ds gs c
onward {s} d [] x e = absurd (nil≢cons (sym (groups-end (length s)) ∙ e))
onward {s} d (b ∷ t) {g} {gs} {c} x e =
    let k = a_block b t in
    let r = block_reads (length s) k in
    let q = sym e ∙ r.1.are_groups in
    record {
      front = s ++ (k.head ++ k.below);
      rest = k.rest;
      is_all = append_assoc s (k.head ++ k.below) k.rest ∙ ap (λ (y : List ℕ). s ++ y) (append_assoc k.head k.below k.rest ∙ sym k.is_all);
      gates = a_gate d ((r.1.formed x.says x.lines).0 (subst (λ (y : Group). FormedLines y x.says x.lines) (head-eq_of_cons-eq q) x.formed)) x.small x.cell;
      border = below_border k.up_to;
      are_groups = ap (λ (i : ℕ). groups (lines_from i [] k.rest)) (length-append s (k.head ++ k.below)) ∙ sym (tail-eq_of_cons-eq q);
    }

groups_none : (at : ℕ) (t : List ℕ) → groups (lines_from at [] t) ≡ [] → t ≡ []
groups_none at [] e = refl
groups_none at (b ∷ t) e = absurd (nil≢cons (sym e ∙ (block_reads at (a_block b t)).1.are_groups))

held : (t : List ℕ) {s : List ℕ} {ds : List Gate} {gs : List Group} {cs : List Gate} → GroupsHold gs cs → GatesIn s ds
    → groups (lines_from (length s) [] t) ≡ gs → GatesIn (s ++ t) (ds ++ cs)
held t {s} {ds} no_group d e = rw (groups_none (length s) t e) (rw (append-nil s) (rw (append-nil ds) d))
held t {s} {ds} (a_group {c = c} {cs} x y) d e =
    let o = onward d t x e in
    subst (λ (z : List ℕ). GatesIn z (ds ++ (c ∷ cs))) o.is_all (subst (GatesIn (o.front ++ o.rest)) (append_assoc ds (c ∷ []) cs) (held o.rest y o.gates o.are_groups))

-- the text goes on with a gate, or nothing stands before it
abbrev Start : List ℕ → List ℕ → Type 0
Start s t = (s ≡ []) ⊎ Border t

refused : (t : List ℕ) {s : List ℕ} {ds : List Gate} {gs : List Group} {n k : ℕ} → GroupsFault gs n k → GatesIn s ds → Start s t
    → groups (lines_from (length s) [] t) ≡ gs → GenlibFault (s ++ t) n k
refused [] {s} (this_one f) d b e = absurd (nil≢cons (sym (groups-end (length s)) ∙ e))
refused (b ∷ t) {s} {ds} {n = n} {k} (this_one {g} f) d start e =
    let q = block_reads (length s) (a_block b t) in
    let z = fault-block (a_block b t) q.1 (rw (head-eq_of_cons-eq (sym e ∙ q.1.are_groups)) at f) in
    rw z.0 (at_block d (λ y. cons≢nil y) (⊎_elim inl (⊎_elim (λ q. absurd (cons≢nil q)) inr) start) (a_block b t) z.1)
refused t {s} {ds} {n = n} {k} (later_one x f) d start e =
    let o = onward d t x e in subst (λ (y : List ℕ). GenlibFault y n k) o.is_all (refused o.rest f o.gates (inr o.border) o.are_groups)

-- ---- from the bytes to the groups

hold_on : {gs : List Group} {cs : List Gate} {g : Group} {c : Gate} → GroupsHold gs cs → GroupHolds g c → GroupsHold (gs ++ (g ∷ [])) (cs ++ (c ∷ []))
hold_on no_group x = a_group x no_group
hold_on (a_group y h) x = a_group y (hold_on h x)

fault-on : {gs hs : List Group} {cs : List Gate} {n k : ℕ} → GroupsHold gs cs → GroupsFault hs n k → GroupsFault (gs ++ hs) n k
fault-on no_group f = f
fault-on (a_group x h) f = later_one x (fault-on h f)

-- the groups of gates that are accepted, in front of those of the text behind them
before : {s : List ℕ} {cs : List Gate} → GatesIn s cs → (t : List ℕ) → Border t → (gs : List Group) × GroupsHold gs cs × (groups (lines_from 0 [] (s ++ t)) ≡ gs ++ groups (lines_from (length s) [] t))
before no_gate t b = ([], no_group, refl)
before (a_gate {s} {head} {below} {c = c} d f m i) t b =
    let x = formed-groups f t b (length s) in
    let y = before d (head ++ (below ++ t)) (inr x.3) in (
      y.0 ++ (x.0 ∷ []),
      hold_on y.1 (record { says = _; lines = _; pins = _; formed = x.1; small = m; cell = i }),
      ap (λ (u : List ℕ). groups (lines_from 0 [] u)) (append_assoc s (head ++ below) t ∙ ap (λ (u : List ℕ). s ++ u) (append_assoc head below t))
          ∙ y.2
          ∙ ap (λ (u : List Group). y.0 ++ u) x.2
          ∙ sym (append_assoc y.0 (x.0 ∷ []) (groups (lines_from (length s + length (head ++ below)) [] t)))
          ∙ ap (λ (j : ℕ). (y.0 ++ (x.0 ∷ [])) ++ groups (lines_from j [] t)) (sym (length-append s (head ++ below))),
    )

pub text-gates : (t : List ℕ) (cs : List Gate) → GroupsHold (groups (lines_from 0 [] t)) cs ↔ GatesIn t cs
text-gates t cs = (
  (λ h. held t h no_gate refl),
  (λ d. let y = before d [] (inl refl) in let e : groups (lines_from 0 [] t) ≡ y.0 = ap
      (λ (u : List ℕ). groups (lines_from 0 [] u)) (sym (append-nil t)) ∙ y.2 ∙ ap (λ (u : List Group). y.0 ++ u) (groups-end (length t))
      ∙ append-nil y.0 in subst (λ (gs : List Group). GroupsHold gs cs) (sym e) y.1),
)

-- the group of the block at which the text goes on behind s
fault-at : (s t : List ℕ) (n : ℕ) (b : Block t) → BlockFault b.head b.below n → GroupsFault (groups (lines_from (length s) [] t)) n (length s)
fault-at s t n b f =
    let q = block_reads (length s) b in
    subst (λ (gs : List Group). GroupsFault gs n (length s)) (sym q.1.are_groups) (this_one (subst (GroupFault q.0 n) q.1.offset (block-fault b q.1 f)))

fault-groups : {t : List ℕ} {n k : ℕ} → GenlibFault t n k → GroupsFault (groups (lines_from 0 [] t)) n k
fault-groups (at_block {s} {t} {cs} {n} d m (inl e) b f) = subst (λ (u : List ℕ). GroupsFault (groups (lines_from 0 [] (u ++ t))) n (length u)) (sym e) (fault-at [] t n b f)
fault-groups (at_block {s} {t} {cs} {n} d m (inr o) b f) = let y = before d t (inr o) in rw y.2 (fault-on y.1 (fault-at s t n b f))

pub text_faults : (t : List ℕ) (n k : ℕ) → GroupsFault (groups (lines_from 0 [] t)) n k ↔ GenlibFault t n k
text_faults t n k = ((λ f. refused t f no_gate (inl refl) refl), fault-groups)

-- ---- the reading and the call

pub gates_exactly : (t : List ℕ) → Gates t
gates_exactly t h = exactly_map (read_genlib t) (text-gates t) (text_faults t) (genlib_exactly t h)

pub demand_genlib_refusals : (t : List ℕ) (bytes : ℕ) → GenlibRefusals t bytes
demand_genlib_refusals t bytes = call_from t bytes (gates_exactly t)
