-- Boxes of the allocator `Global`, as the functions of std on boxes take them: a walk calls those at these arguments.
use Rattle.std.proofs.Common.{[], ◌∷◌, refl}
use mir.Syntax.{Dict, impl, tcons, tnil, dnil}
use mir.Raw.{raw as bare}
use denote.Exit.{yes, no}
use denote.RattleType.{RattleType}
use denote.Param.{arg, layout, param}
use denote.Param.Laws.{Laws, arg_laws, param_laws}
use Rattle.std_alloc.specs.contracts.boxed.Box as box
use Rattle.std_alloc.proofs.boxed.Box.TheLaws as the_laws
use Rattle.std_heap.specs.contracts.Global as heap
use Rattle.std_heap.proofs.Global.TheLaws as heap_laws
use Rattle.std_heap.specs.contracts.GlobalAllocator.TheImpl.{ghosts}

-- the type of the handle, as an argument
abbrev pub Handle : RattleType
Handle = arg (bare (layout heap.the_row)) no heap.the_row

abbrev pub handle_laws : Laws Handle
handle_laws = arg_laws (bare (layout heap.the_row)) no heap.the_row heap_laws.the_row_laws refl

-- a handle needs no drop
abbrev pub handle_drop : Dict
handle_drop = impl ("vt_nodes::Destruct++none::drop" ∷ []) (tcons (layout Handle) tnil) dnil

-- the type of the content, as an argument
abbrev pub Content : RattleType → RattleType
Content N = arg (layout N) yes (param 0 N)

abbrev pub content_laws : (N : RattleType) → Laws N → Laws (Content N)
content_laws N laws = arg_laws (layout N) yes (param 0 N) (param_laws 0 N laws) refl

-- the box itself
abbrev pub Boxed : RattleType → RattleType
Boxed N = box.the_row (param 0 N) heap.the_row ghosts

abbrev pub box_laws : (N : RattleType) → Laws N → Laws (Boxed N)
box_laws N laws = the_laws.the_row_laws (param 0 N) heap.the_row ghosts (param_laws 0 N laws) heap_laws.the_row_laws
