-- What is demanded of functions does not depend on places.
use Rattle.std.proofs.Common.{◌≡◌, ℕ, suc, ◌+◌, Bool, false, ◌&&◌, not, List, [], ◌∷◌, length, map, is_some, Option, Some, None, option_map, refl, ◌∙◌, ap, ap₂}
use Rattle.ir_lex.specs.declared.name.Name.{Name}
use Rattle.ir_tree.specs.declared.code.Parameter.{Parameter}
use Rattle.ir_tree.specs.declared.code.BlockHead.{BlockHead}
use Rattle.ir_tree.specs.declared.code.Block.{Block}
use Rattle.ir_tree.specs.declared.items.Funcdef.{Funcdef}
use Rattle.ir_tree.specs.declared.items.Item.{Item}
use Rattle.ir_tree.specs.declared.items.Item.TheVariants as items
use Rattle.ir_print.specs.Placeless.{bare_name, bare_pair, bare_head, bare_inst, bare_block, bare_funcdef, bare_item}
use Rattle.demands.specs.Demands.{Demands, demand, ◌⨾◌}
use Rattle.name_scopes.specs.Names.{Names, found, added}
use Rattle.check_tables.specs.declared.fault.CheckKind.{CheckKind}
use Rattle.check_tables.specs.declared.fault.CheckKind.TheVariants.{NoEnding, EntryParameters, BadSignature}
use Rattle.check_tables.specs.declared.tables.Tables.{Tables}
use Rattle.check_tables.specs.Lookups.{noted_class, signature_named, takes_of, gives_of, noted_classes}
use Rattle.checked_code.specs.declared.scopes.Locals.{Locals}
use Rattle.checked_code.specs.declared.scopes.Body.{Body}
use Rattle.checked_code.specs.declared.scopes.BlockEntry.{BlockEntry}
use Rattle.checked_code.specs.Control.{gives_these}
use Rattle.checked_code.specs.Instructions.{bound, no_locals, insts_demands}
use Rattle.checked_code.specs.Blocks.{bound_parameters, bound_handler, head_locals, parameter_classes, parameter_demands, block_demands, blocks_demands}
use Rattle.checked_code.specs.Functions.{entry_of, entries_from, body_of, is_as_declared, first_block_demands, function_demands, functions_demands}
use Rattle.join_laws.proofs.Nowhere.{nowhere}
use Rattle.join_laws.proofs.BareCode.{as_many, insts_bare, ends_same}

-- ---- blocks

bound_same : (p : Tables) (ls : Locals) (qs : List Parameter) → bound_parameters p ls (map bare_pair qs) ≡ bound_parameters p ls qs
bound_same p ls [] = refl
bound_same p ls (q ∷ qs) = bound_same p (bound ls q.name (noted_class p q.of_type)) qs

handler_same : (p : Tables) (ls : Locals) (n : Option Name) → bound_handler p ls (option_map bare_name n) ≡ bound_handler p ls n
handler_same p ls None = refl
handler_same p ls (Some n) = refl

head_same : (p : Tables) (h : BlockHead) → head_locals p (bare_head h) ≡ head_locals p h
head_same p h =
    ap (λ (ls : Locals). bound_handler p ls (option_map bare_name h.handler)) (bound_same p no_locals h.parameters)
    ∙ handler_same p (bound_parameters p no_locals h.parameters) h.handler

classes_same : (p : Tables) (qs : List Parameter) → parameter_classes p (map bare_pair qs) ≡ parameter_classes p qs
classes_same p [] = refl
classes_same p (q ∷ qs) = ap (λ (cs : List ℕ). noted_class p q.of_type ∷ cs) (classes_same p qs)

parameters_bare : (p : Tables) (qs : List Parameter) → parameter_demands p (map bare_pair qs) ≡ nowhere (parameter_demands p qs)
parameters_bare p [] = refl
parameters_bare p (q ∷ qs) = rw (parameters_bare p qs) refl

block_bare : (p : Tables) (f : Body) (b : Block) → block_demands p f (bare_block b) ≡ nowhere (block_demands p f b)
block_bare p f b =
    ap₂ (λ (x y : Demands CheckKind). x ⨾ y) (parameters_bare p b.head.parameters)
    (ap₂ (λ (x : Demands CheckKind) (e : Bool). x ⨾ demand 0 NoEnding e)
    (ap (λ (ls : Locals). insts_demands p f ls false (map bare_inst b.insts)) (head_same p b.head) ∙ insts_bare p f (head_locals p b.head) false b.insts)
    (ends_same false b.insts))

blocks_bare : (p : Tables) (f : Body) (bs : List Block) → blocks_demands p f (map bare_block bs) ≡ nowhere (blocks_demands p f bs)
blocks_bare p f [] = refl
blocks_bare p f (b ∷ bs) = ap₂ (λ (x y : Demands CheckKind). x ⨾ y) (block_bare p f b) (blocks_bare p f bs)

-- ---- functions

has_same : (n : Option Name) → is_some (option_map bare_name n) ≡ is_some n
has_same None = refl
has_same (Some n) = refl

entry_same : (p : Tables) (k : ℕ) (b : Block) → entry_of p k (bare_block b) ≡ entry_of p k b
entry_same p k b = ap₂ (λ (cs : List ℕ) (h : Bool). record { number = k; takes = cs; has_handler = h }) (classes_same p b.head.parameters) (has_same b.head.handler)

entries_same : (p : Tables) (es : Names BlockEntry) (k : ℕ) (bs : List Block) → entries_from p es k (map bare_block bs) ≡ entries_from p es k bs
entries_same p es k [] = refl
entries_same p es k (b ∷ bs) =
    ap (λ (e : BlockEntry). entries_from p (added es b.head.name.text e) (suc k) (map bare_block bs)) (entry_same p k b)
    ∙ entries_same p (added es b.head.name.text (entry_of p k b)) (suc k) bs

body_same : (p : Tables) (first : ℕ) (d : Funcdef) → body_of p first (bare_funcdef d) ≡ body_of p first d
unfolding body_of
body_same p first d = ap (λ (es : Names BlockEntry). record { blocks = es; gives = noted_classes (gives_of (signature_named p d.signature)) }) (entries_same p [] first d.blocks)

first_bare : (p : Tables) (s : Name) (bs : List Block) → first_block_demands p (bare_name s) (map bare_block bs) ≡ nowhere (first_block_demands p s bs)
first_bare p s [] = refl
first_bare p s (b ∷ bs) =
    ap₂ (λ (h : Bool) (cs : List ℕ). demand 0 EntryParameters (not h && gives_these (takes_of (signature_named p s)) cs)) (has_same b.head.handler) (classes_same p b.head.parameters)

declared_same : (p : Tables) (o : Option ℕ) (n : Name) → is_as_declared p o (bare_name n) ≡ is_as_declared p o n
declared_same p None n = refl
declared_same p (Some k) n = refl

function_bare : (p : Tables) (first : ℕ) (d : Funcdef) → function_demands p first (bare_funcdef d) ≡ nowhere (function_demands p first d)
function_bare p first d =
    ap₂ (λ (b : Bool) (x : Demands CheckKind). demand 0 BadSignature b ⨾ x) (declared_same p (found p.globals.declared d.name.text) d.signature)
    (ap₂ (λ (x y : Demands CheckKind). x ⨾ y) (first_bare p d.signature d.blocks)
    (ap (λ (f : Body). blocks_demands p f (map bare_block d.blocks)) (body_same p first d) ∙ blocks_bare p (body_of p first d) d.blocks))

pub functions_bare : (p : Tables) (first : ℕ) (is : List Item) → functions_demands p first (map bare_item is) ≡ nowhere (functions_demands p first is)
functions_bare p first [] = refl
functions_bare p first (items.Funcdef d ∷ is) =
    ap₂ (λ (x y : Demands CheckKind). x ⨾ y) (function_bare p first d)
    (ap (λ (n : ℕ). functions_demands p (first + n) (map bare_item is)) (as_many bare_block d.blocks) ∙ functions_bare p (first + length d.blocks) is)
functions_bare p first (items.Typedef d ∷ is) = functions_bare p first is
functions_bare p first (items.Funcsig d ∷ is) = functions_bare p first is
functions_bare p first (items.Const d ∷ is) = functions_bare p first is
functions_bare p first (items.GlobalCell d ∷ is) = functions_bare p first is
functions_bare p first (items.Funcdecl d ∷ is) = functions_bare p first is
