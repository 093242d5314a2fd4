-- The names that the walks cite.
pub use Rattle.std.proofs.Common.{◌++◌, ◌≡◌, ℕ, ◌≤◌, List, [], ◌∷◌, refl, sym, ap, subst, ◌∙◌, MutBor, Bool, true}
pub use Rattle.std.proofs.Common.{false}
pub use Rattle.std.specs.Prelude.{Option, Some, None, IsSome, is_some}
pub use Rattle.std.proofs.raw_atomic.Walks.{proved}
pub use seplogic.Ra.Ura.{Ura}
pub use base.Fraction.{full_share}
pub use base.Logic.{SProp, ent, sep, id⊢, never, never_e, via}
pub use base.Fml.{Fml, GName, ftrue, ffalse, fat, flft, fsep, froom}
pub use mir.Syntax.{Ty, named}
pub use mir.Val.{Val, vunit, vptr}
pub use contract.Monad.{fact}
pub use contract.Running.{tables}
pub use types.Logic.{Logic, sem}
pub use types.Kit.{‵, raw, ◌⊛◌, some, given, later, at_ret, ◌$◌, ◌∵◌, !, qed, by, done, move, keep, drop, use1, use2}
pub use types.Kit.{split, join, fsplit, fsplit3, fjoin, fpack, feq_i, pick, learn, check, await, rewrite, suffices}
pub use types.Kit.{frame, group}
pub use types.Part.{whole, sub, look_in}
pub use types.Run.{enter, of_opd, unit_lit, true_lit, addr, load, look, store, init, stop, fld, hop, assigns}
pub use types.Run.{assigns_last, first, blocks, exec, returns}
pub use types.ByLocal.{alloc_all, pass_all, free_all, look_at, get, through, sets, sets_last, env}
pub use denote.Builtin.{bool, unit}
pub use denote.Exit.{yes, no}
pub use denote.Follow.{follows, Part, lends_Part}
pub use denote.Laws.{Is, shows}
pub use denote.Memory.{mem, cell_at, lone, part_at, part_of}
pub use denote.RattleType.{RattleType}
pub use denote.RawPtr.{Ptr, block_ptr, lies_at, room_at, in_a_block}
pub use denote.Ref.{MutRef, mut_vals, mut_Tells}
pub use denote.Signature.{plain, mut_ref_to}
pub use denote.Steps.{nothing, owned, opens, closes, peeks, heard}
pub use denote.Triple.Walked.{Stays, walk_of, says, stay_dropped, stay_ref, Goes-dropped, Goes-ref, Goes-spent_ref}
pub use denote.Triple.Walked.{ends_at}
pub use borrow.Table.OneValue.{One, part_out, part_in}
pub use Rattle.std.proofs.VecSteps.Shapes.{after}
