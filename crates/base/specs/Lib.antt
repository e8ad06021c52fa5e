-- The names of the kit that the crates use, from one place.
pub use Prim.Native.Nat.Ordering.{eq as Ordering-eq}
pub use Prim.Native.Nat.Ordering.{gt as Ordering-gt}
pub use Prim.Native.Nat.Ordering.{lt as Ordering-lt}
pub use Prim.Native.Nat.{Ordering, ◌%◌, ◌*◌, ◌+◌, ◌-◌, ◌/◌, ◌<◌, ◌^◌, ◌≤◌, compare, max, min, suc}
pub use Rattle.std.specs.Prelude.{zero, ℕ, ◌≡◌, refl, Bool, ◌&&◌, ◌||◌, cond, false, not, true, [], ◌++◌, ◌∷◌, ◌↔◌, ◌⊎◌, drop, get_or, length, replicate, set, take, T, eqb, leb, ltb}
pub use Rattle.std.proofs.Common.{zero-le, ◌∙◌, ap, ap₂, subst, subst₂, sym, true≢false, append_assoc, inl, inr, ⊎_elim, drop_of_length-le, length-append, length-drop, length-set, length-take, take-append-drop, T_not, eqb→eq, leb→le, le→leb, lit<, lit≤, ltb→lt, lt→ltb, nltb→le, drop_at, drop-cons, drop-drop, ext_get_or, get_or-append-add, get_or-drop, get_or-set_other, get_or-set_same, get_or-take, length-take-le, take-add, take_all, take_at, take-suc, take-suc-set, take-take, pow_mono, pow_pos, shl_exact, shr-shr, add-mul, add-suc, add-zero, div-add-mod', div-le_self, le_antisymm, le_of_eq, le_of_lt, le_of_suc-le-suc, le_refl, le_trans, lt_of_not-le, lt_trans, mod-eq_of_lt, mod-lt, mul-le-mul, not-le_of_lt, not-suc-le-zero, one-mul, pow-suc, suc-add, zero-add, add-one, sub-one, arith, eq-eqb, eqb-true, le-leb, le-ltb, leb-false, leb-true, lt-ltb, ltb-false, ltb-true, ne_eqb, below_more}
pub use Rattle.std.proofs.Math.Path.{fun_ext}
pub use Rattle.std.specs.Bool.{beq}
pub use Rattle.std.proofs.Math.Bool.{not-not, and_assoc, and-false, or-true}
pub use Rattle.std.proofs.lemmas.Bool.{false≢true, eqb-false, lt-leb, not-false, not-true}
pub use mathlib.Core.List.Memᴰ.{append_cases as Memᴰ-append_cases}
pub use mathlib.Core.List.Memᴰ.{cases_cons as Memᴰ-cases_cons}
pub use mathlib.Core.List.Memᴰ.{eq_of_singleton as Memᴰ-eq_of_singleton}
pub use mathlib.Core.List.Memᴰ.{head as Memᴰ-head}
pub use mathlib.Core.List.{List, Memᴰ}
pub use mathlib.Core.List.Memᴰ.{append_left as Memᴰ-append_left}
pub use mathlib.Core.List.Memᴰ.{append_right as Memᴰ-append_right}
pub use mathlib.Core.List.Memᴰ.{cast as Memᴰ-cast}
pub use mathlib.Core.List.Memᴰ.{not-nil as Memᴰ-not-nil}
pub use mathlib.Core.List.Memᴰ.{tail as Memᴰ-tail}
pub use mathlib.Core.List.{append-nil, cons≢nil, head-eq_of_cons-eq, map, map-append, nil≢cons, reverse, reverse-append, reverse-cons}
pub use mathlib.Core.List.{reverse-reverse, tail-eq_of_cons-eq}
pub use Rattle.std.specs.Prelude.{Option, Some, None}
pub use Rattle.std.proofs.Math.ListN.{get_or-append, get_or-eq_default, get_or-map}
pub use Rattle.std.proofs.lemmas.List.{get_or-replicate, length-map, length-replicate, length-reverse, drop-append-le, set_at, set-get_or, set_split}
pub use Rattle.std.proofs.Math.Dec.{eqb_refl, eqb-suc-suc, eqb-suc-zero, eqb-zero-suc, compare_is_eq, is_le, not_T}
pub use Rattle.std.proofs.Math.Seq.{append_snoc, drop-append-add, drop-append_seam, drop-length, drop-nil, get_or-append_seam, take-append_seam, take-length}
pub use Rattle.std.proofs.lemmas.Nat.{and_block, and_comm, and_le_l, and_le_r, or_comm, or_lt, xor_lt, mod-pow-add}
pub use Rattle.std.specs.Int.Bits.{and_lt, and_step, bit_and, bit_or, bit_xor, differ, or_self, or_step, or_zero_r, shifted_even, shifted_half, xor_step, xor_zero_r}
pub use Rattle.std.proofs.Math.Pow.{pow-lt}
unfoldable pub use Rattle.std.specs.Int.Count.{count_trailing_zeros, under}
pub use Rattle.std.proofs.Math.Nat.{max-le, pow-le-pow_right, pow-succ'}
pub use Rattle.std.proofs.Math.Numerals.{lt_of_le_of_ne}
pub use Rattle.std.proofs.Math.Decide.{dec_le}
pub use Rattle.std.proofs.Math.Facts.{T_not-not, and_no, and_yes, eqb_no, eqb_yes, leb_no, leb_yes, ltb_no, ltb_yes, no_eqb, no_leb, no_ltb, or_yes, yes_and, yes_eqb, yes_leb, yes_ltb}
pub use borrow.Author.Rules.{rules}
