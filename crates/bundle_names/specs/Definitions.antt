-- Definitions: each name has one in its space. Global names are one space; the blocks of a function are one; the parameters, the
-- handler, the results and the labels of a block are one. A function may have one declaration and one definition, in either order.
use Rattle.std.specs.Prelude.{Bool, true, false, List, [], ◌∷◌, Option, Some, None, is_some, not, map, option_to_list}
use Rattle.std.specs.Option.{option_map_or}
use Rattle.demands.specs.Demands.{Demands, none, demand, ◌⨾◌}
use Rattle.name_scopes.specs.Names.{Names, found, added}
use Rattle.ir_lex.specs.declared.name.Name.{Name}
use Rattle.ir_tree.specs.declared.code.Parameter.{Parameter}
use Rattle.ir_tree.specs.declared.code.BlockHead.{BlockHead}
use Rattle.ir_tree.specs.declared.code.Inst.{Inst}
use Rattle.ir_tree.specs.declared.code.Block.{Block}
use Rattle.ir_tree.specs.declared.items.Item.{Item}
use Rattle.ir_tree.specs.declared.items.Item.TheVariants as items
use Rattle.bundle_names.specs.declared.fault.NameKind.{NameKind}
use Rattle.bundle_names.specs.declared.fault.NameKind.TheVariants.{Duplicate}
use Rattle.bundle_names.specs.declared.globals.Sort.{Sort}
use Rattle.bundle_names.specs.declared.globals.Sort.TheVariants as sorts
use Rattle.bundle_names.specs.declared.globals.Globals.{Globals}
use Rattle.bundle_names.specs.Globals.{with_item, no_globals}

-- names that stand for nothing but themselves
abbrev pub Plain : Type 0
Plain = Names (Unit {0})

abbrev pub with_name : Plain → Name → Plain
with_name es n = added es n.text tt

-- the name is not defined before in its space
abbrev pub fresh : {T : Type 0} → Names T → Name → Demands NameKind
fresh es n = demand n.place Duplicate (not (is_some (found es n.text)))

-- ---- in a block

abbrev pub list_demands : Plain → List Name → Demands NameKind
list_demands es [] = none
list_demands es (n ∷ ns) = fresh es n ⨾ list_demands (with_name es n) ns

abbrev pub with_list : Plain → List Name → Plain
with_list es [] = es
with_list es (n ∷ ns) = with_list (with_name es n) ns

abbrev pub parameter_names : List Parameter → List Name
parameter_names ps = map (λ p. p.name) ps

-- the parameters, then the handler, which may be left out
abbrev pub head_demands : BlockHead → Demands NameKind
head_demands h =
    list_demands [] (parameter_names h.parameters) ⨾ option_map_or (fresh (with_list [] (parameter_names h.parameters))) h.handler none

abbrev pub with_head : Plain → BlockHead → Plain
with_head es h = with_list (with_list es (parameter_names h.parameters)) (option_to_list h.handler)

-- the results, then the label, which may be left out
abbrev pub inst_demands : Plain → Inst → Demands NameKind
inst_demands es i = list_demands es i.results ⨾ option_map_or (fresh (with_list es i.results)) i.label none

abbrev pub insts_demands : Plain → List Inst → Demands NameKind
insts_demands es [] = none
insts_demands es (i ∷ is) = inst_demands es i ⨾ insts_demands (with_list (with_list es i.results) (option_to_list i.label)) is

abbrev pub block_demands : Block → Demands NameKind
block_demands b = head_demands b.head ⨾ insts_demands (with_head [] b.head) b.insts

-- ---- in a function

abbrev pub blocks_demands : Plain → List Block → Demands NameKind
blocks_demands es [] = none
blocks_demands es (b ∷ bs) = fresh es b.head.name ⨾ block_demands b ⨾ blocks_demands (with_name es b.head.name) bs

-- ---- in a bundle

-- the name is new, or that of a function
abbrev pub may_be_function : Option Sort → Bool
may_be_function None = true
may_be_function (Some (sorts.Function n)) = true
may_be_function _ = false

abbrev pub function_demands : Globals → Name → Demands NameKind
function_demands g n = demand n.place Duplicate (may_be_function (found g.names n.text))

abbrev pub item_demands : Globals → Item → Demands NameKind
item_demands g (items.Typedef d) = fresh g.names d.name
item_demands g (items.Funcsig d) = fresh g.names d.name
item_demands g (items.Const d) = fresh g.names d.name
item_demands g (items.GlobalCell d) = fresh g.names d.name
item_demands g (items.Funcdecl d) = function_demands g d.name ⨾ fresh g.declared d.name
item_demands g (items.Funcdef d) = function_demands g d.name ⨾ fresh g.defined d.name ⨾ blocks_demands [] d.blocks

abbrev pub items_demands : Globals → List Item → Demands NameKind
items_demands g [] = none
items_demands g (i ∷ is) = item_demands g i ⨾ items_demands (with_item g i) is

-- all definitions of a bundle
abbrev pub definition_demands : List Item → Demands NameKind
definition_demands bundle = items_demands no_globals bundle
