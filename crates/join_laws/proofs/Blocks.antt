-- Blocks and functions that meet their demands in the one bundle meet them in the other.
use Rattle.std.proofs.Common.{◌≡◌, ℕ, suc, Bool, true, false, not, List, [], ◌∷◌, if◌then◌else◌, Option, Some, None, is_some, refl, subst}
use Rattle.std.specs.Str.{bytes_eq}
use Rattle.std.proofs.lemmas.Bool.{false≢true, and_parts, and_from}
use Rattle.ir_lex.specs.declared.name.Name.{Name}
use Rattle.ir_tree.specs.declared.code.Parameter.{Parameter}
use Rattle.ir_tree.specs.declared.code.BlockHead.{BlockHead}
use Rattle.ir_tree.specs.declared.code.Block.{Block}
use Rattle.ir_tree.specs.declared.items.Funcdef.{Funcdef}
use Rattle.check_tables.specs.declared.tables.Signature.{Signature}
use Rattle.check_tables.specs.declared.tables.Tables.{Tables}
use Rattle.checked_code.specs.declared.scopes.Locals.{Locals}
use Rattle.checked_code.specs.declared.scopes.BlockEntry.{BlockEntry}
use Rattle.checked_code.specs.declared.scopes.Body.{Body}
use Rattle.mu_types.specs.Graph.{Table}
use Rattle.demands.specs.Demands.{AllMet, or_else}
use Rattle.name_scopes.specs.Names.{Names, found, added}
use Rattle.check_tables.specs.Types.{ref_void}
use Rattle.check_tables.specs.Lookups.{noted_class, signature_named, takes_of, gives_of}
use Rattle.checked_code.specs.Instructions.{no_locals, bound}
use Rattle.checked_code.specs.Control.{gives_these}
use Rattle.checked_code.specs.Blocks.{bound_parameters, bound_handler, head_locals, parameter_classes, parameter_demands, block_demands, blocks_demands}
use Rattle.checked_code.specs.Functions.{entry_of, entries_from, body_of, is_as_declared, first_block_demands, function_demands}
use Rattle.join_laws.proofs.Names.{found_added}
use Rattle.join_laws.proofs.Classes.{AllGo}
use Rattle.join_laws.proofs.References.{ref_void_goes}
use Rattle.join_laws.proofs.Lookups.{TablesGo, takes_goes, gives_goes, value_test, noted_value}
use Rattle.join_laws.proofs.Operands.{LocalsGo, EntriesStand, EntryGoes, BodyGoes, bound_goes}
use Rattle.join_laws.proofs.Forms.{these_go, noted_goes, insts_go}

-- ---- heads

parameters_go : (p q : Tables) → TablesGo p q → (ps : List Parameter) → AllMet (parameter_demands p ps) → AllMet (parameter_demands q ps)
parameters_go p q go [] m = tt
parameters_go p q go (x ∷ xs) m = (value_test p q go x.of_type m.0, parameters_go p q go xs m.1)

bound_go : (p q : Tables) (ls ms : Locals) (ps : List Parameter) → TablesGo p q → LocalsGo p.types q.types ls ms → AllMet (parameter_demands p ps) → LocalsGo p.types q.types (bound_parameters p ls ps) (bound_parameters q ms ps)
bound_go p q ls ms [] go g m = g
bound_go p q ls ms (x ∷ xs) go g m =
    bound_go p q (bound ls x.name (noted_class p x.of_type)) (bound ms x.name (noted_class q x.of_type)) xs go
    (bound_goes p.types q.types ls ms x.name (noted_class p x.of_type) (noted_class q x.of_type) g (noted_value p q go x.of_type m.0)) m.1

handler_go : (p q : Tables) (ls ms : Locals) (n : Option Name) → TablesGo p q → LocalsGo p.types q.types ls ms → LocalsGo p.types q.types (bound_handler p ls n) (bound_handler q ms n)
handler_go p q ls ms None go g = g
handler_go p q ls ms (Some n) go g = bound_goes p.types q.types ls ms n (ref_void p.types) (ref_void q.types) g (ref_void_goes p.types q.types go.pair)

head_go : (p q : Tables) (h : BlockHead) → TablesGo p q → AllMet (parameter_demands p h.parameters) → LocalsGo p.types q.types (head_locals p h) (head_locals q h)
head_go p q h go m =
    let none : LocalsGo p.types q.types no_locals no_locals = record { each = λ name. tt } in
    handler_go p q (bound_parameters p no_locals h.parameters) (bound_parameters q no_locals h.parameters) h.handler go (bound_go p q no_locals no_locals h.parameters go none m)

parameter_classes_go : (p q : Tables) → TablesGo p q → (ps : List Parameter) → AllMet (parameter_demands p ps) → AllGo p.types q.types (parameter_classes p ps) (parameter_classes q ps)
parameter_classes_go p q go [] m = tt
parameter_classes_go p q go (x ∷ xs) m = (noted_value p q go x.of_type m.0, parameter_classes_go p q go xs m.1)

-- ---- blocks

block_goes : (p q : Tables) (f k : Body) (b : Block) → TablesGo p q → BodyGoes p.types q.types f k → AllMet (block_demands p f b) → AllMet (block_demands q k b)
block_goes p q f k b go body m =
    (parameters_go p q go b.head.parameters m.0, (insts_go p q f k (head_locals p b.head) (head_locals q b.head) false b.insts go body (head_go p q b.head go m.0) m.1.0, m.1.1))

blocks_go : (p q : Tables) (f k : Body) (bs : List Block) → TablesGo p q → BodyGoes p.types q.types f k → AllMet (blocks_demands p f bs) → AllMet (blocks_demands q k bs)
blocks_go p q f k [] go body m = tt
blocks_go p q f k (b ∷ bs) go body m = (block_goes p q f k b go body m.0, blocks_go p q f k bs go body m.1)

-- ---- what the instructions of a function may use

or_goes : (p q : Table) (o s : Option BlockEntry) (b : Bool) (v w : BlockEntry) → EntryGoes p q o s → EntriesStand p q v w → EntryGoes p q (or_else o (if b then Some v else None)) (or_else s (if b then Some w else None))
or_goes p q None None true v w g h = h
or_goes p q None None false v w g h = tt
or_goes p q (Some x) (Some y) b v w g h = g
or_goes p q None (Some y) b v w g h = absurd g
or_goes p q (Some x) None b v w g h = absurd g

EntriesGo : Table → Table → Names BlockEntry → Names BlockEntry → Type 0
EntriesGo p q es fs = (name : List ℕ) → EntryGoes p q (found es name) (found fs name)

entries_go : (p q : Tables) (f : Body) (es fs : Names BlockEntry) (i j : ℕ) (bs : List Block) → TablesGo p q → EntriesGo p.types q.types es fs → AllMet (blocks_demands p f bs) →
    EntriesGo p.types q.types (entries_from p es i bs) (entries_from q fs j bs)
unfolding EntriesGo
entries_go p q f es fs i j [] go g m = g
entries_go p q f es fs i j (b ∷ bs) go g m =
    let v : BlockEntry = entry_of p i b in
    let w : BlockEntry = entry_of q j b in
    let both : EntriesStand p.types q.types v w = record { takes = parameter_classes_go p q go b.head.parameters m.0.0; handler = refl } in
    entries_go p q f (added es b.head.name.text v) (added fs b.head.name.text w) (suc i) (suc j) bs go
    (λ name. rw (found_added es b.head.name.text name v, found_added fs b.head.name.text name w)
    (or_goes p.types q.types (found es name) (found fs name) (bytes_eq name b.head.name.text) v w (g name) both)) m.1

these_there : (o : Option (List ℕ)) (us : List ℕ) → gives_these o us ≡ true → is_some o ≡ true
these_there None us h = absurd (false≢true h)
these_there (Some ts) us h = refl

takes_told : (s : Option Signature) → is_some (takes_of s) ≡ true → is_some (gives_of s) ≡ true
takes_told None h = absurd (false≢true h)
takes_told (Some s) h = refl

-- ---- functions

body_goes : (p q : Tables) (i j : ℕ) (d : Funcdef) (b : Block) (bs : List Block) → TablesGo p q → AllMet (first_block_demands p d.signature (b ∷ bs)) → AllMet (blocks_demands p (body_of p i d) d.blocks) → BodyGoes p.types q.types (body_of p i d) (body_of q j d)
unfolding body_of EntriesGo
body_goes p q i j d b bs go a m = record {
  each = entries_go p q (body_of p i d) [] [] i j d.blocks go (λ name. tt) m;
  gives =
      let met = and_parts (not (is_some b.head.handler)) (gives_these (takes_of (signature_named p d.signature)) (parameter_classes p b.head.parameters)) a in
      noted_goes p.types q.types (gives_of (signature_named p d.signature)) (gives_of (signature_named q d.signature))
      (gives_goes p.types q.types (signature_named p d.signature) (signature_named q d.signature) (go.signature d.signature.text))
      (takes_told (signature_named p d.signature) (these_there (takes_of (signature_named p d.signature)) (parameter_classes p b.head.parameters) met.1));
}

first_goes : (p q : Tables) (s : Name) (b : Block) (bs : List Block) → TablesGo p q → AllMet (parameter_demands p b.head.parameters) → AllMet (first_block_demands p s (b ∷ bs)) → AllMet (first_block_demands q s (b ∷ bs))
first_goes p q s b bs go m a =
    let met = and_parts (not (is_some b.head.handler)) (gives_these (takes_of (signature_named p s)) (parameter_classes p b.head.parameters)) a in
    and_from (not (is_some b.head.handler)) (gives_these (takes_of (signature_named q s)) (parameter_classes q b.head.parameters)) met.0
    (these_go p.types q.types go.pair (takes_of (signature_named p s)) (takes_of (signature_named q s)) (parameter_classes p b.head.parameters) (parameter_classes q b.head.parameters)
    (takes_goes p.types q.types (signature_named p s) (signature_named q s) (go.signature s.text)) (parameter_classes_go p q go b.head.parameters m) met.1)

-- what the blocks of a function meet in the one they meet in the other
rest_goes : (p q : Tables) (f k : Body) (s : Name) (bs : List Block) → TablesGo p q → ((b : Block) (cs : List Block) → bs ≡ b ∷ cs → BodyGoes p.types q.types f k) →
    AllMet (first_block_demands p s bs) → AllMet (blocks_demands p f bs) → AllMet (first_block_demands q s bs) × AllMet (blocks_demands q k bs)
rest_goes p q f k s [] go body a m = (tt, tt)
rest_goes p q f k s (b ∷ bs) go body a m = (first_goes p q s b bs go m.0.0 a, blocks_go p q f k (b ∷ bs) go (body b bs refl) m)

pub function_goes : (p q : Tables) (i j : ℕ) (d : Funcdef) → TablesGo p q → AllMet (function_demands p i d) → is_as_declared q (found q.globals.declared d.name.text) d.signature ≡ true → AllMet (function_demands q j d)
function_goes p q i j d go m declared = (
  declared,
  rest_goes p q (body_of p i d) (body_of q j d) d.signature d.blocks go
      (λ b cs e. body_goes p q i j d b cs go (subst (λ (bs : List Block). AllMet (first_block_demands p d.signature bs)) e m.1.0) m.1.1) m.1.0 m.1.1,
)
