-- The words that every walk of this crate uses, in one file.
pub use Rattle.std.proofs.Common.{◌≡◌, ℕ, ◌<◌, List, [], ◌∷◌, ◌++◌, refl, sym, ap, ◌∙◌, subst}
pub use mir.Syntax.{a_type}
pub use mir.Val.{Val, vptr}
pub use mir.MapTy.{inst_fn}
pub use base.Logic.{SProp, ent, emp, id⊢}
pub use base.Fml.{Lft, Share, Fml, ftrue, fsep, flft}
pub use prog.Wp.{WpFn}
pub use types.Kit.{‵, raw, ◌⊛◌, ◌$◌, ◌∵◌, !, qed, by, move, keep, drop, split, join, fsplit, fsplit3, fjoin, use0, use1, use2, rewrite, feq_i, feq_l, suffices}
pub use types.Run.{of_opd, no_more, and_then, returns, enter}
pub use types.ByLocal.{alloc_all, pass_all, free_all, look_at, get, sets}
pub use types.Part.{agg}
pub use contract.Running.{tables}
pub use contract.Monad.{fact, fact_i}
pub use contract.BorrowLft.{◌⊑◌}
pub use denote.Exit.{yes, no}
pub use denote.RattleType.{RattleType, owns}
pub use denote.Signature.{types_at, type_at, plain}
pub use denote.RawPtr.{Ptr, RawPtr}
pub use denote.Steps.{nothing, heard}
pub use denote.Param.{param, layout, layouts}
pub use denote.Param.Laws.{param_laws}
pub use denote.Triple.Walked.{Stays, stay_dropped, walk_of, Goes-dropped}
pub use Rattle.core.proofs.cell.Inside.{one}
pub use Rattle.std.proofs.raw_atomic.Walks.{proved_at, leaves}
