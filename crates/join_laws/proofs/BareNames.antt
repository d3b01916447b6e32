-- What is demanded of the definitions of names does not depend on places.
use Rattle.std.proofs.Common.{◌≡◌, List, [], ◌∷◌, map, Option, Some, None, option_map, refl, ◌∙◌, ap, ap₂}
use Rattle.std.specs.Option.{option_map_or, option_to_list}
use Rattle.ir_lex.specs.declared.name.Name.{Name}
use Rattle.ir_tree.specs.declared.code.Inst.{Inst}
use Rattle.ir_tree.specs.declared.code.Parameter.{Parameter}
use Rattle.ir_tree.specs.declared.code.BlockHead.{BlockHead}
use Rattle.ir_tree.specs.declared.code.Block.{Block}
use Rattle.ir_tree.specs.declared.items.Item.{Item}
use Rattle.ir_tree.specs.declared.items.Item.TheVariants as items
use Rattle.ir_print.specs.Placeless.{bare_name, bare_pair, bare_head, bare_inst, bare_block, bare_item, bare_bundle}
use Rattle.demands.specs.Demands.{Demands, none, ◌⨾◌}
use Rattle.bundle_names.specs.declared.fault.NameKind.{NameKind}
use Rattle.bundle_names.specs.declared.globals.Globals.{Globals}
use Rattle.bundle_names.specs.Globals.{with_item, with_items, no_globals, globals_of}
use Rattle.bundle_names.specs.Definitions.{Plain, with_name, fresh, list_demands, with_list, parameter_names, head_demands, with_head, inst_demands, insts_demands, block_demands, blocks_demands, item_demands, items_demands, definition_demands}
use Rattle.join_laws.proofs.Nowhere.{nowhere}

pub parameters_bare : (ps : List Parameter) → parameter_names (map bare_pair ps) ≡ map bare_name (parameter_names ps)
parameters_bare [] = refl
parameters_bare (p ∷ ps) = ap (λ (xs : List Name). bare_name p.name ∷ xs) (parameters_bare ps)

pub list_same : (es : Plain) (ns : List Name) → with_list es (map bare_name ns) ≡ with_list es ns
list_same es [] = refl
list_same es (n ∷ ns) = list_same (with_name es n) ns

list_bare : (es : Plain) (ns : List Name) → list_demands es (map bare_name ns) ≡ nowhere (list_demands es ns)
list_bare es [] = refl
list_bare es (n ∷ ns) = rw (list_bare (with_name es n) ns) refl

optional_same : (es : Plain) (o : Option Name) → with_list es (option_to_list (option_map bare_name o)) ≡ with_list es (option_to_list o)
optional_same es None = refl
optional_same es (Some n) = refl

optional_bare : (es : Plain) (o : Option Name) → option_map_or (fresh es) (option_map bare_name o) none ≡ nowhere (option_map_or (fresh es) o none)
optional_bare es None = refl
optional_bare es (Some n) = refl

-- ---- blocks

head_bare : (h : BlockHead) → head_demands (bare_head h) ≡ nowhere (head_demands h)
head_bare h =
    ap₂ (λ (x y : Demands NameKind). x ⨾ y) (ap (list_demands []) (parameters_bare h.parameters) ∙ list_bare [] (parameter_names h.parameters))
    (ap (λ (es : Plain). option_map_or (fresh es) (option_map bare_name h.handler) none) (ap (with_list []) (parameters_bare h.parameters) ∙ list_same [] (parameter_names h.parameters))
    ∙ optional_bare (with_list [] (parameter_names h.parameters)) h.handler)

pub head_same : (es : Plain) (h : BlockHead) → with_head es (bare_head h) ≡ with_head es h
head_same es h =
    ap (λ (fs : Plain). with_list fs (option_to_list (option_map bare_name h.handler))) (ap (with_list es) (parameters_bare h.parameters) ∙ list_same es (parameter_names h.parameters))
    ∙ optional_same (with_list es (parameter_names h.parameters)) h.handler

inst_bare : (es : Plain) (i : Inst) → inst_demands es (bare_inst i) ≡ nowhere (inst_demands es i)
inst_bare es i =
    ap₂ (λ (x y : Demands NameKind). x ⨾ y) (list_bare es i.results)
    (ap (λ (fs : Plain). option_map_or (fresh fs) (option_map bare_name i.label) none) (list_same es i.results) ∙ optional_bare (with_list es i.results) i.label)

insts_bare : (es : Plain) (is : List Inst) → insts_demands es (map bare_inst is) ≡ nowhere (insts_demands es is)
insts_bare es [] = refl
insts_bare es (i ∷ is) =
    let fs : Plain = with_list (with_list es i.results) (option_to_list i.label) in
    let same : with_list (with_list es (map bare_name i.results)) (option_to_list (option_map bare_name i.label)) ≡ fs =
    ap (λ (gs : Plain). with_list gs (option_to_list (option_map bare_name i.label))) (list_same es i.results) ∙ optional_same (with_list es i.results) i.label in
    ap₂ (λ (x y : Demands NameKind). x ⨾ y) (inst_bare es i) (ap (λ (gs : Plain). insts_demands gs (map bare_inst is)) same ∙ insts_bare fs is)

block_bare : (b : Block) → block_demands (bare_block b) ≡ nowhere (block_demands b)
block_bare b =
    ap₂ (λ (x y : Demands NameKind). x ⨾ y) (head_bare b.head) (ap (λ (es : Plain). insts_demands es (map bare_inst b.insts)) (head_same [] b.head) ∙ insts_bare (with_head [] b.head) b.insts)

blocks_bare : (es : Plain) (bs : List Block) → blocks_demands es (map bare_block bs) ≡ nowhere (blocks_demands es bs)
blocks_bare es [] = refl
blocks_bare es (b ∷ bs) = ap₂ (λ (x y : Demands NameKind). fresh es (bare_name b.head.name) ⨾ x ⨾ y) (block_bare b) (blocks_bare (with_name es b.head.name) bs)

-- ---- items

item_same : (g : Globals) (i : Item) → with_item g (bare_item i) ≡ with_item g i
item_same g (items.Typedef d) = refl
item_same g (items.Funcsig d) = refl
item_same g (items.Const d) = refl
item_same g (items.GlobalCell d) = refl
item_same g (items.Funcdecl d) = refl
item_same g (items.Funcdef d) = refl

items_same : (g : Globals) (is : List Item) → with_items g (map bare_item is) ≡ with_items g is
items_same g [] = refl
items_same g (i ∷ is) = ap (λ (h : Globals). with_items h (map bare_item is)) (item_same g i) ∙ items_same (with_item g i) is

pub globals_same : (bundle : List Item) → globals_of (bare_bundle bundle) ≡ globals_of bundle
globals_same bundle = items_same no_globals bundle

item_bare : (g : Globals) (i : Item) → item_demands g (bare_item i) ≡ nowhere (item_demands g i)
item_bare g (items.Typedef d) = refl
item_bare g (items.Funcsig d) = refl
item_bare g (items.Const d) = refl
item_bare g (items.GlobalCell d) = refl
item_bare g (items.Funcdecl d) = refl
item_bare g (items.Funcdef d) = rw (blocks_bare [] d.blocks) refl

items_bare : (g : Globals) (is : List Item) → items_demands g (map bare_item is) ≡ nowhere (items_demands g is)
items_bare g [] = refl
items_bare g (i ∷ is) =
    ap₂ (λ (x y : Demands NameKind). x ⨾ y) (item_bare g i) (ap (λ (h : Globals). items_demands h (map bare_item is)) (item_same g i) ∙ items_bare (with_item g i) is)

pub definitions_bare : (bundle : List Item) → definition_demands (bare_bundle bundle) ≡ nowhere (definition_demands bundle)
definitions_bare bundle = items_bare no_globals bundle
