-- What is promised of a written cell text holds.
--     formed-value        what 22 accepts behind `=`, at any depth of brackets, is an expression and its `;`; the converse is `Once.value-formed`
--     group_parses        the expression of a group in form is taken whole by the grammar
--     group_value         with the value of the sum that it is
--     genlib_fits         the gates of a genlib text are those of cell lines
--     genlib_back         what is written for them is read as their cells, where 3 to 6 accept names and counts
--     demand_genlib       the promise, for every genlib text and every number of lent bytes
use Rattle.base.specs.{ℕ, zero, suc, ◌-◌, ◌≤◌, arith, ◌≡◌, refl, sym, ◌∙◌, ap, subst, Bool, true, false, cond, ◌&&◌, Some, List, [], ◌∷◌}
use Rattle.base.specs.{◌++◌, map, Memᴰ, Memᴰ-head, Memᴰ-tail, Memᴰ-not-nil, T, eqb, leb, length, get_or, drop}
use Rattle.base.specs.{length-drop, and_yes, eqb_yes, leb_yes}
use Rattle.model.specs.{all, bit, keep, Line, ended, lines_from, holds, next, tokens, is_word_byte, formed, shallow, is_pin, pins_of, name_value}
use Rattle.model.specs.{sum_of, value_taken, Group, is_gate_line, gate_head, is_pin_line, line_is, has_line, starts_gate, grouped, groups, line_tokens}
use Rattle.model.specs.{formula_of, group_formed, read_group, read_groups, read_genlib, cells_text, genlib_text, read_library, cell_of_gate, Listable}
use Rattle.model.specs.{Means, HasValue, GateMeans, GatesMean, GenlibDemand}
use Rattle.model.specs.GenlibFormula.{within, value_of}
use Rattle.model.specs.Genlib.{Gate}
use Rattle.model.specs.GenlibDemands.{sum}
use Rattle.model.proofs.{table-value, table-above}
use Rattle.theory_graph.proofs.{is_true, by_member}
use Rattle.theory_text.proofs.{holds-once, unless_out, next_out, lines-inside}
use Rattle.theory_genlib.proofs.FormulaShapes.{deep_taken, formed_taken}
use Rattle.theory_genlib.proofs.Grammar.{sum-means}
use Rattle.theory_genlib.proofs.TokenLaws.{sign-alone, tokens-length, drop_in}
use Rattle.theory_genlib.proofs.CellsBack.{GateFits, cells-back}
use Rattle.theory_genlib.proofs.GateText.{Passed, group_parts, group_fits, delays_are}

-- ---- the lines of a group stand in the text

grouped_heads : (ls : List Line) (g : Group) → Memᴰ g (grouped ls).1 → Memᴰ g.head ls
unfolding grouped
grouped_heads [] g m = absurd (Memᴰ-not-nil m)
grouped_heads (l ∷ ls) g m = go (starts_gate l) m (grouped_heads ls g)
  where
    go : (b : Bool) → Memᴰ g (cond {A = List Line × List Group} b ([], record { head = l; lines = (grouped ls).0 } ∷ (grouped ls).1) (l ∷ (grouped ls).0, (grouped ls).1)).1
        → (Memᴰ g (grouped ls).1 → Memᴰ g.head ls) → Memᴰ g.head (l ∷ ls)
    go true (Memᴰ-head e) r = Memᴰ-head (ap (λ (x : Group). x.head) e)
    go true (Memᴰ-tail n) r = Memᴰ-tail (r n)
    go false n r = Memᴰ-tail (r n)

group_head : (ls : List Line) (g : Group) → Memᴰ g (groups ls) → Memᴰ g.head ls
unfolding groups
group_head [] g m = absurd (Memᴰ-not-nil m)
group_head (l ∷ ls) g (Memᴰ-head e) = Memᴰ-head (ap (λ (x : Group). x.head) e)
group_head (l ∷ ls) g (Memᴰ-tail n) = Memᴰ-tail (grouped_heads ls g n)

pub group_short : (genlib : List ℕ) (g : Group) → Memᴰ g (groups (lines_from 0 [] genlib)) → length g.head.bytes ≤ length genlib
group_short genlib g m = omega (arith, lines-inside 0 [] genlib g.head (group_head (lines_from 0 [] genlib) g m))

-- ---- its expression

-- the tokens behind `=` that 22 accepts, at any depth of brackets, are an expression of the request's grammar and its `;`
pub formed-value : (bs : List ℕ) → formed (drop 5 (tokens bs)) ≡ true → (value : List ℕ → Bool) → (v : Bool) × HasValue value (drop 5 (tokens bs)) v
unfolding is_word_byte
formed-value bs f value =
    let ts = drop 5 (tokens bs) in
    let r = deep_taken value ts f in
    let b = sum-means value (suc (length ts)) (length ts) ts (r.0, r.1 ∷ []) r.4 in (
      r.0,
      record {
        expression = b.tokens;
        is_all = b.is_all ∙ ap (λ (t : List ℕ). b.tokens ++ (t ∷ [])) (sign-alone 59 refl bs r.1 (drop_in 5 (tokens bs) r.1 r.3) r.2);
        means = b.means;
      },
    )

-- what passes 22 and 23 is taken whole where 16 brackets may open, up to the `;`
pub group_parses : (g : Group) → length g.head.bytes ≤ 65536 → T (group_formed g) → T (shallow 0 (formula_of g)) → (value : List ℕ → Bool)
    → (v : Bool) × (sum_of value 65537 (within value 65537 16) (formula_of g) ≡ Some (v, (59 ∷ []) ∷ []))
unfolding formula_of line_tokens is_word_byte
group_parses g h f s value =
    let ts = drop 5 (tokens g.head.bytes) in
    let n : length ts ≡ length (tokens g.head.bytes) - 5 = length-drop 5 (tokens g.head.bytes) in
    let k : length (tokens g.head.bytes) ≤ length g.head.bytes = tokens-length g.head.bytes in
    let r = formed_taken value 65537 ts (omega arith) (is_true (formed ts) (unfold group_formed line_is is_gate_line in (and_yes
    (gate_head (tokens g.head.bytes)) (formed (drop 5 (tokens g.head.bytes))) (and_yes (ended g.head)
    (is_gate_line (tokens g.head.bytes)) (and_yes (line_is is_gate_line g.head) (all (line_is is_pin_line) g.lines && all
    (has_line (map line_tokens g.lines)) (keep is_pin (formula_of g))) f).0).1).1)) (is_true (shallow 0 ts) s) in
    (r.0, r.4 ∙ ap (λ (t : List ℕ). Some (r.0, t ∷ [])) (sign-alone 59 refl g.head.bytes r.1 (drop_in 5 (tokens g.head.bytes) r.1 r.3) r.2))

-- its value is that of the sum before the `;`
pub group_value : (g : Group) → length g.head.bytes ≤ 65536 → T (group_formed g) → T (shallow 0 (formula_of g)) → (value : List ℕ → Bool) → HasValue value (formula_of g) (value_of value (formula_of g))
unfolding value_of value_taken
group_value g h f s value =
    let r = group_parses g h f s value in
    let b = sum-means value 65537 16 (formula_of g) (r.0, (59 ∷ []) ∷ []) r.1 in
    record { expression = b.tokens; is_all = b.is_all; means = subst (λ (v : Bool). Means value sum b.tokens v) (sym (ap value_taken r.1)) b.means }

-- ---- a gate

zero-at : (p j : ℕ) (xs : List ℕ) → p ≤ j → T (all (eqb 0) (drop p xs)) → get_or xs j 0 ≡ 0
unfolding all
zero-at zero zero [] h t = refl
zero-at zero (suc j) [] h t = refl
zero-at (suc p) zero [] h t = refl
zero-at (suc p) (suc j) [] h t = refl
zero-at zero zero (x ∷ xs) h t = sym (eqb_yes (and_yes (eqb 0 x) (all (eqb 0) xs) t).0)
zero-at zero (suc j) (x ∷ xs) h t = zero-at zero j xs (omega arith) (and_yes (eqb 0 x) (all (eqb 0) xs) t).1
zero-at (suc p) zero (x ∷ xs) h t = absurd (omega arith)
zero-at (suc p) (suc j) (x ∷ xs) h t = zero-at p j xs (omega arith) t

group_means : (g : Group) (c : Gate) → length g.head.bytes ≤ 65536 → Passed g c → GateMeans g c
unfolding formula_of
group_means g c h p = record {
  name = p.made.name;
  area = p.made.area;
  pins = p.made.pins;
  rows = λ r k. rw (ap (λ (n : ℕ). bit n r) p.made.table ∙ table-value (formula_of g) r (rw (← p.made.pins) k))
      (group_value g h p.formed p.low (name_value (pins_of (formula_of g)) r));
  above = λ r k. ap (λ (n : ℕ). bit n r) p.made.table ∙ table-above (formula_of g) r (rw (← p.made.pins) k);
  four = (group_fits g c p).four;
  delays = λ j k. delays_are (map line_tokens g.lines) (pins_of (formula_of g)) c.delays p.few p.made.delays j
      (rw (← p.made.pins) k);
  absent = λ j k. zero-at c.pins j c.delays k (group_fits g c p).absent;
}

-- ---- all of them

groups-fit : (gs : List Group) (cs : List Gate) → read_groups gs ≡ holds cs → (c : Gate) → Memᴰ c cs → GateFits c
unfolding read_groups
groups-fit [] cs e c m = absurd (Memᴰ-not-nil (subst (λ (xs : List Gate). Memᴰ c xs) (sym (holds-once e)) m))
groups-fit (g ∷ gs) cs e c m =
    let a = next_out (read_group g) (λ x. next (read_groups gs) (λ xs. holds (x ∷ xs))) cs e in
    let b = next_out (read_groups gs) (λ xs. holds (a.0 ∷ xs)) cs a.2 in
    by_member (rw (holds-once b.2) m) (λ q. rw q (group_fits g a.0 (group_parts g a.0 a.1))) (groups-fit gs b.0 b.1 c)

pub genlib_fits : (genlib : List ℕ) (gs : List Gate) → read_genlib genlib ≡ holds gs → (c : Gate) → Memᴰ c gs → GateFits c
unfolding read_genlib
genlib_fits genlib gs e = groups-fit (groups (lines_from 0 [] genlib)) gs e

-- what is written for a genlib text is read as its gates' cells, where 3 to 6 accept names and counts
pub genlib_back : (genlib : List ℕ) (gs : List Gate) → read_genlib genlib ≡ holds gs → Listable gs → read_library (cells_text gs) ≡ holds (map cell_of_gate gs)
genlib_back genlib gs e l = cells-back gs (genlib_fits genlib gs e) l

groups-mean : (gs : List Group) (cs : List Gate) → ((g : Group) → Memᴰ g gs → length g.head.bytes ≤ 65536) → read_groups gs ≡ holds cs → GatesMean gs cs
unfolding read_groups
groups-mean [] cs h e = subst (λ (xs : List Gate). GatesMean [] xs) (holds-once e) tt
groups-mean (g ∷ gs) cs h e =
    let a = next_out (read_group g) (λ c. next (read_groups gs) (λ xs. holds (c ∷ xs))) cs e in
    let b = next_out (read_groups gs) (λ xs. holds (a.0 ∷ xs)) cs a.2 in
    subst (λ (xs : List Gate). GatesMean (g ∷ gs) xs) (holds-once b.2)
    (group_means g a.0 (h g (Memᴰ-head refl)) (group_parts g a.0 a.1), groups-mean gs b.0 (λ x m. h x (Memᴰ-tail m)) b.1)

genlib_mean : (genlib : List ℕ) (gs : List Gate) → length genlib ≤ 65536 → read_genlib genlib ≡ holds gs → GatesMean (groups (lines_from 0 [] genlib)) gs
unfolding read_genlib
genlib_mean genlib gs h e = groups-mean (groups (lines_from 0 [] genlib)) gs (λ g m. let q : length g.head.bytes ≤ length genlib = group_short genlib g m in omega arith) e

pub demand_genlib : (genlib : List ℕ) (bytes : ℕ) → GenlibDemand genlib bytes
unfolding genlib_text
demand_genlib genlib bytes t e =
    let a = unless_out (leb (length genlib) 65536) 1 0 _ t e in
    let b = next_out (read_genlib genlib) _ t a.1 in
    let c = unless_out (leb (length (cells_text b.0)) bytes) 18 (length (cells_text b.0)) (holds (cells_text b.0)) t b.2 in
    let q : cells_text b.0 ≡ t = holds-once c.1 in
    record {
      gates = b.0;
      is_read = b.1;
      mean = genlib_mean genlib b.0 (leb_yes a.0) b.1;
      is_text = sym q;
      capacity = subst (λ (x : List ℕ). length x ≤ bytes) q (leb_yes c.0);
      back = λ l. ap read_library (sym q) ∙ genlib_back genlib b.0 b.1 l;
    }
