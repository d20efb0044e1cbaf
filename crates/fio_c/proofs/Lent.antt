-- The steps of the calls that take a pointer to a reader: each lends what lies there to a call.
pub use Rattle.std.proofs.Common.{ℕ, List, [], ◌∷◌, ◌++◌, refl, ap, w8, w32, w64, MutBor}
pub use Rattle.std.proofs.raw_atomic.Walks.{proved}
pub use base.Fraction.{full_share}
pub use base.Fml.{flent, fex, flft, ftrue}
pub use base.Logic.{id⊢}
pub use borrow.Table.OneValue.{part_in}
pub use contract.Monad.{fact}
pub use contract.Running.{tables}
pub use denote.Builtin.{RefMutOf, SliceRefOf, u32, u8, unit, usize}
pub use denote.Exit.{yes}
pub use denote.Laws.{Is, shows}
pub use denote.Lend.{LentAgain, comes_back, lends_again, lends_ref, ref_back}
pub use denote.Memory.{mem, part_at}
pub use denote.Plain.{uint_Lawful, uint_Makes, uint_Tells, uint_vals}
pub use denote.RawPtr.{Ptr, RawPtr, block_ptr, in_a_block, lies_at, ptr_val, rawptr_Tells, rawptr_vals, room_at}
pub use denote.Ref.{MutRef, mut_Tells, mut_vals}
pub use denote.Signature.{plain}
pub use denote.Slice.{ShrSlice, shr_slice_Lawful, shr_slice_Tells, shr_slice_vals}
pub use denote.Steps.{heard, nothing, only, owned, peeks}
pub use denote.Triple.Call.{calls_at}
pub use denote.Triple.Clauses.{lasts}
pub use denote.Triple.Entry.{on_entry}
pub use denote.Triple.Spec.{triple_of}
pub use denote.Triple.Table.{framed}
pub use denote.Triple.Walked.{Goes-dropped, Goes-ref, Stays, ends_at, stay_dropped, stay_ref, walk_of}
pub use mir.Syntax.{named}
pub use mir.Val.{vint, vptr, vunit}
pub use prog.Wp.{WpFn}
pub use types.ByLocal.{alloc_all, free_all, get, lands_as, look_at, pass_all, sets, through}
pub use types.Kit.{ !, ◌$◌, ◌∵◌, ◌⊛◌, ‵, await, done, drop, feq_i, feq_l, fpack, fsplit, group, join, keep, later, move, pick, prop, qed, raw, regoal, some, split, suffices, use1, use2, use3}
pub use types.Run.{addr, and_then, assigns, enter, init, no_more, of_opd, returns, stop, unit_lit}
pub use types.SemTy.{Body}
pub use types.Tokens.{lft_end, lft_new}
