-- The kit's words that proofs share, passed on so that a file brings them in by one line. Assumes nothing.
pub use Prim.Native.Nat.{ℕ, ◌≤◌, ◌+◌, ◌-◌, ◌<◌, ◌*◌, suc, ◌%◌, ◌/◌, zero, ◌^◌, min}
pub use mathlib.Core.Path.{refl, ◌≡◌, sym, ◌∙◌, ap, subst, ap₂, subst⁻¹, subst₂}
pub use mathlib.Core.List.{List, [], ◌∷◌, ◌++◌, map, append-nil, append_assoc, head-eq_of_cons-eq, tail-eq_of_cons-eq, nil≢cons, map-append, cons≢nil, map-map}
pub use lib.ListN.{length, drop, take, get_or, replicate, length-append, length-drop, set, drop_of_length-le, take-append-drop, length-map, length-set, get_or-eq_default as list_getD_eq_default, length-replicate, length-take, replicate-append-replicate, get_or-replicate}
pub use lib.Seq.{take_at, take_all, drop_at, drop-cons, drop-drop, length-take-le, get_or-drop, drop-append_seam, take-suc, take-take, get_or-take, take-append-le, take-append_seam, take-add, get_or-set_same, get_or-set_other, set_split, drop-append-add, set-get_or, drop-nil, split_at, drop-append-le, get_or-append-add, sets-eq, take-nil, append_snoc, set_at, get_or_at, drop-length}
pub use mathlib.Core.Bool.{true, false, Bool, true≢false, cond, ◌&&◌, not, false≢true, ◌||◌, or-true}
pub use mathlib.Core.Option.{Option, none, some, some-injective as option_some_injective, none-ne-some as option_none_ne_some, some-ne-none as option_some_ne_none}
pub use mathlib.Core.Logic.Iff.{and as iff_and}
pub use mathlib.Core.Logic.Iff.{rfl as iff_rfl}
pub use mathlib.Core.Logic.Iff.{trans as iff_trans}
pub use mathlib.Core.Logic.{◌≢◌, inr, inl, ◌↔◌, ◌⊎◌, ⊎_elim}
pub use lib.Dec.{eqb, ltb, T, leb, leb→le, eqb→eq, lit≤, ltb→lt, T_not, eqb_refl}
pub use native.Mathlib.Nat.{not-suc-le-zero, le_of_suc-le-suc, suc-mul, mul-le-mul_right, zero-mul, add-zero, zero-add, mod-eq_of_lt, add_comm, suc-add, mod-lt, add-suc, lt_of_mul-lt-mul_right, div-add-mod', div-div-eq-div-mul, zero-sub, sub-zero, suc-sub-suc, lt_of_lt_of_le, mul_comm, add_assoc, mod-mod, div-lt_iff_lt-mul, le-div_iff_mul-le}
pub use native.Mathlib.Numerals.{add-one, one-add}
pub use lib.Pow.{high, low, pow-add, pow_pos, pow_mono, shr-shr, mod-mod-pow, mod-pow-add, field}
pub use native.Mathlib.Omega.{arith}
pub use borrow.Author.Rules.{rules}
pub use borrow.Author.Tests.{not-true, not-false, ltb-false, eqb-true, ltb-true, le-ltb, ne_eqb, lt-ltb, eqb-false, eq-eqb, leb-true, le-leb}
pub use borrow.Rule.Slice.PartMut.{mid_of, put_mid, mid_len, post_of}
