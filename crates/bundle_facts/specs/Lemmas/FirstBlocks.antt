-- The first block of a function: it takes what the signature of the function takes, and its definition gives what that gives.
use Rattle.std.proofs.Common.{◌≡◌, ℕ, zero, suc, ◌+◌, ◌<◌, Bool, true, false, not, List, [], ◌∷◌, ◌++◌, ◌⊎◌, inl, inr, Option, Some, None, is_some, slice_get, length, nat_eq, if◌then◌else◌, refl, sym, ◌∙◌, ap, subst, append-nil, arith}
use Rattle.std.specs.Prelude.{unwrap_or, option_and_then}
use Rattle.std.proofs.lemmas.Slice.Eq.{bytes_eq-Decides}
use Rattle.demands.specs.Demands.{AllMet, first_unmet}
use Rattle.name_scopes.specs.Names.{Names, found}
use Rattle.demands.specs.Lemmas.Meeting.{all_met}
use Rattle.ir_lex.specs.declared.name.Name.{Name}
use Rattle.ir_tree.specs.declared.code.BlockHead.{BlockHead}
use Rattle.ir_tree.specs.declared.code.Block.{Block}
use Rattle.ir_tree.specs.declared.definitions.Funcdecl.{Funcdecl}
use Rattle.ir_tree.specs.declared.items.Funcdef.{Funcdef}
use Rattle.ir_tree.specs.declared.items.Item.{Item}
use Rattle.ir_tree.specs.declared.items.Item.TheVariants as items
use Rattle.bundle_names.specs.declared.globals.Sort.{Sort}
use Rattle.bundle_names.specs.declared.globals.Sort.TheVariants as sorts
use Rattle.bundle_names.specs.declared.globals.Globals.{Globals}
use Rattle.bundle_names.specs.Globals.{no_globals, globals_of}
use Rattle.bundle_names.specs.Naming.{name_demands}
use Rattle.bundle_names.specs.Uses.{is_signature}
use Rattle.bundle_names.specs.ItemUses.{item_use, item_uses}
use Rattle.bundle_names.specs.Definitions.{items_demands}
use Rattle.check_tables.specs.declared.tables.Signature.{Signature}
use Rattle.check_tables.specs.declared.tables.Tables.{Tables}
use Rattle.check_tables.specs.Lookups.{or_zero, signature_in, signature_named, takes_of, gives_of, noted_classes}
use Rattle.checked_code.specs.declared.scopes.Body.{Body}
use Rattle.checked_code.specs.Control.{gives_these}
use Rattle.bundle_laws.specs.Lemmas.TypedOperands.{nat_eq_is, both_are}
use Rattle.checked_code.specs.Entries.{noted_signature, defined_signatures, is_function, declared_entry, function_entries, tables_of}
use Rattle.checked_code.specs.declared.blocks.BlockCode.{BlockCode}
use Rattle.checked_code.specs.declared.blocks.Function.{Function}
use Rattle.checked_code.specs.Blocks.{parameter_classes, handler_number, block_code, blocks_code}
use Rattle.checked_code.specs.Functions.{body_of, first_block_demands, function_demands, functions_demands, all_blocks}
use Rattle.checked_code.specs.Checking.{bundle_tables, bundle_functions, bundle_blocks, check_demands}
use Rattle.bundle_laws.specs.Accepted.{handler_classes, head_classes}
use Rattle.bundle_laws.specs.Lemmas.Graph.{get_right}
use Rattle.typed_heap.specs.Places.{with_some}
use Rattle.mu_model.specs.Types.{signature_of}
use Rattle.model_numbers.specs.Laws.{definition_from}
use Rattle.model_numbers.specs.Lemmas.Functions.{definition_same}
use Rattle.bundle_laws.specs.Lemmas.Bodies.{some_is}
use Rattle.bundle_facts.specs.Facts.{HaveBlocks, IsFirstBlock}
use Rattle.bundle_facts.specs.Lemmas.Names.{names_low, funcdefs, definition_number_is}
use Rattle.bundle_facts.specs.Lemmas.Functions.{NamedSignature, named_signature}

-- ---- the item that a function's signature comes from

-- a declaration of function n, by which it has the signature s
record Declares (g : Globals) (defined : List ℕ) (n s : ℕ) : Type 0 where
  declaration : Funcdecl
  named : is_function (found g.names declaration.name.text) n ≡ true
  is : declared_entry g defined declaration ≡ s

-- a definition of it
record Defines (g : Globals) (among : List Item) (n s : ℕ) : Type 0 where
  definition : Funcdef
  number : ℕ
  there : slice_get (funcdefs among) number ≡ Some definition
  named : is_function (found g.names definition.name.text) n ≡ true
  is : noted_signature g definition.signature ≡ s

behind_one : (g : Globals) (defined : List ℕ) (d : Funcdef) (is : List Item) (n s : ℕ) → Declares g defined n s ⊎ Defines g is n s → Declares g defined n s ⊎ Defines g (items.Funcdef d ∷ is) n s
behind_one g defined d is n s (inl declares) = inl declares
behind_one g defined d is n s (inr defines) = inr (record { definition = defines.definition; number = suc defines.number; there = defines.there; named = defines.named; is = defines.is })

-- the same where other items stand before that are no definitions of functions
kept : (g : Globals) (defined : List ℕ) (is js : List Item) (n s : ℕ) → funcdefs js ≡ funcdefs is → Declares g defined n s ⊎ Defines g is n s → Declares g defined n s ⊎ Defines g js n s
kept g defined is js n s same (inl declares) = inl declares
kept g defined is js n s same (inr x) =
    inr (record { definition = x.definition; number = x.number; there = ap (λ (ds : List Funcdef). slice_get ds x.number) same ∙ x.there; named = x.named; is = x.is })

function_item : (g : Globals) (defined : List ℕ) (k : ℕ) (is : List Item) (j n s : ℕ) → n ≡ k + j → slice_get (function_entries g defined k is) j ≡ Some s → Declares g defined n s ⊎ Defines g is n s
function_item g defined k [] j n s e h = cc
function_item g defined k (items.Typedef d ∷ is) j n s e h = kept g defined is (items.Typedef d ∷ is) n s refl (function_item g defined k is j n s e h)
function_item g defined k (items.Funcsig d ∷ is) j n s e h = kept g defined is (items.Funcsig d ∷ is) n s refl (function_item g defined k is j n s e h)
function_item g defined k (items.Const d ∷ is) j n s e h = kept g defined is (items.Const d ∷ is) n s refl (function_item g defined k is j n s e h)
function_item g defined k (items.GlobalCell d ∷ is) j n s e h = kept g defined is (items.GlobalCell d ∷ is) n s refl (function_item g defined k is j n s e h)
function_item g defined k (items.Funcdecl d ∷ is) j n s e h =
    by (is_function (found g.names d.name.text) k) refl j e h (λ k j e h. kept g defined is (items.Funcdecl d ∷ is) n s refl (function_item g defined k is j n s e h))
  where
    by : (b : Bool) → is_function (found g.names d.name.text) k ≡ b → (j : ℕ) → n ≡ k + j →
        slice_get (if b then declared_entry g defined d ∷ function_entries g defined (suc k) is else function_entries g defined k is) j ≡ Some s →
        ((k j : ℕ) → n ≡ k + j → slice_get (function_entries g defined k is) j ≡ Some s → Declares g defined n s ⊎ Defines g (items.Funcdecl d ∷ is) n s) →
        Declares g defined n s ⊎ Defines g (items.Funcdecl d ∷ is) n s
    by false t j e h more = more k j e h
    by true t zero e h more =
        let same : k ≡ n = omega (arith, e) in
        inl (record { declaration = d; named = subst (λ (m : ℕ). is_function (found g.names d.name.text) m ≡ true) same t; is = some_is (declared_entry g defined d) s h })
    by true t (suc j) e h more = more (suc k) j (omega (arith, e)) h
function_item g defined k (items.Funcdef d ∷ is) j n s e h =
    by (is_function (found g.names d.name.text) k) refl j e h (λ k j e h. behind_one g defined d is n s (function_item g defined k is j n s e h))
  where
    by : (b : Bool) → is_function (found g.names d.name.text) k ≡ b → (j : ℕ) → n ≡ k + j →
        slice_get (if b then noted_signature g d.signature ∷ function_entries g defined (suc k) is else function_entries g defined k is) j ≡ Some s →
        ((k j : ℕ) → n ≡ k + j → slice_get (function_entries g defined k is) j ≡ Some s → Declares g defined n s ⊎ Defines g (items.Funcdef d ∷ is) n s) →
        Declares g defined n s ⊎ Defines g (items.Funcdef d ∷ is) n s
    by false t j e h more = more k j e h
    by true t zero e h more =
        let same : k ≡ n = omega (arith, e) in
        inr (record { definition = d; number = 0; there = refl; named = subst (λ (m : ℕ). is_function (found g.names d.name.text) m ≡ true) same t; is = some_is (noted_signature g d.signature) s h })
    by true t (suc j) e h more = more (suc k) j (omega (arith, e)) h

signature_defined : (g : Globals) (is : List Item) (m : ℕ) (d : Funcdef) → slice_get (funcdefs is) m ≡ Some d → slice_get (defined_signatures g is) m ≡ Some (noted_signature g d.signature)
signature_defined g [] m d h = cc
signature_defined g (items.Typedef x ∷ is) m d h = signature_defined g is m d h
signature_defined g (items.Funcsig x ∷ is) m d h = signature_defined g is m d h
signature_defined g (items.Const x ∷ is) m d h = signature_defined g is m d h
signature_defined g (items.GlobalCell x ∷ is) m d h = signature_defined g is m d h
signature_defined g (items.Funcdecl x ∷ is) m d h = signature_defined g is m d h
signature_defined g (items.Funcdef x ∷ is) zero d h = ap (λ (y : Funcdef). Some (noted_signature g y.signature)) (some_is x d h)
signature_defined g (items.Funcdef x ∷ is) (suc m) d h = signature_defined g is m d h

function_is : (o : Option Sort) (n : ℕ) → is_function o n ≡ true → o ≡ Some (sorts.Function n)
function_is None n h = cc
function_is (Some (sorts.Written m)) n h = cc
function_is (Some (sorts.Signature m)) n h = cc
function_is (Some (sorts.Constant m)) n h = cc
function_is (Some (sorts.GlobalCell m)) n h = cc
function_is (Some (sorts.Function m)) n h = ap (λ (k : ℕ). Some (sorts.Function k)) (nat_eq_is m n h)

-- the signature of a function that has this definition is the one that the definition names
defined_signature : (bundle : List Item) (f s m : ℕ) (d : Funcdef) → AllMet (items_demands no_globals bundle) → slice_get (funcdefs bundle) m ≡ Some d →
    is_function (found (globals_of bundle).names d.name.text) f ≡ true → slice_get (function_entries (globals_of bundle) (defined_signatures (globals_of bundle) bundle) 0 bundle) f ≡ Some s →
    s ≡ noted_signature (globals_of bundle) d.signature
defined_signature bundle f s m d met there own h = elim (function_item (globals_of bundle) (defined_signatures (globals_of bundle) bundle) 0 bundle f f s (omega arith) h) [
  | inl declares ↦ by_declaration declares
  | inr defines ↦ by_definition defines
]
  where
    one : (a : List ℕ) → is_function (found (globals_of bundle).names a) f ≡ true → a ≡ d.name.text
    one a t = (names_low bundle).one a d.name.text (sorts.Function f) (function_is (found (globals_of bundle).names a) f t) (function_is (found (globals_of bundle).names d.name.text) f own)

    number : found (globals_of bundle).defined d.name.text ≡ Some m
    number = definition_number_is bundle m d met there

    by_declaration : Declares (globals_of bundle) (defined_signatures (globals_of bundle) bundle) f s → s ≡ noted_signature (globals_of bundle) d.signature
    by_declaration x =
        let of : Option ℕ → ℕ = λ o. unwrap_or (option_and_then (slice_get (defined_signatures (globals_of bundle) bundle)) o) (noted_signature (globals_of bundle) x.declaration.signature) in
        let defined : found (globals_of bundle).defined x.declaration.name.text ≡ Some m = ap (found (globals_of bundle).defined) (one x.declaration.name.text x.named) ∙ number in
        sym x.is ∙ ap of defined ∙ ap (λ (o : Option ℕ). unwrap_or o (noted_signature (globals_of bundle) x.declaration.signature)) (signature_defined (globals_of bundle) bundle m d there)

    by_definition : Defines (globals_of bundle) bundle f s → s ≡ noted_signature (globals_of bundle) d.signature
    by_definition x =
        let other : found (globals_of bundle).defined x.definition.name.text ≡ Some x.number = definition_number_is bundle x.number x.definition met x.there in
        let same : x.number ≡ m = some_is x.number m (sym other ∙ ap (found (globals_of bundle).defined) (one x.definition.name.text x.named) ∙ number) in
        let both : x.definition ≡ d = some_is x.definition d (sym x.there ∙ ap (λ (k : ℕ). slice_get (funcdefs bundle) k) same ∙ there) in
        sym x.is ∙ ap (λ (y : Funcdef). noted_signature (globals_of bundle) y.signature) both

-- ---- the definition of a function, and its first block

as_many_codes : (p : Tables) (f : Body) (item at : ℕ) (bs : List Block) → length (blocks_code p f item at bs) ≡ length bs
as_many_codes p f item at [] = refl
as_many_codes p f item at (b ∷ bs) = ap (λ (n : ℕ). suc n) (as_many_codes p f item (suc at) bs)

first_code : (p : Tables) (f : Body) (item at : ℕ) (bs : List Block) (b : Block) (rest : List BlockCode) → slice_get bs 0 ≡ Some b → slice_get (blocks_code p f item at bs ++ rest) 0 ≡ Some (block_code p f item at b)
first_code p f item at [] b rest h = cc
first_code p f item at (x ∷ bs) b rest h = ap (λ (y : Block). Some (block_code p f item at y)) (some_is x b h)

-- the definition of function n, whose first block has the number b, among items behind so many items with so many blocks
record DefinedAt (p : Tables) (is : List Item) (item first n b : ℕ) : Type 0 where
  definition : Funcdef
  at : ℕ
  there : slice_get is at ≡ Some (items.Funcdef definition)
  number : ℕ
  numbered : slice_get (funcdefs is) number ≡ Some definition
  named : is_function (found p.globals.names definition.name.text) n ≡ true
  met : AllMet (function_demands p b definition)
  before : ℕ
  blocks : b ≡ first + before
  code : (x : Block) → slice_get definition.blocks 0 ≡ Some x → slice_get (all_blocks p item first is) before ≡ Some (block_code p (body_of p b definition) (item + at) 0 x)

-- behind an item that is no definition of a function
behind_other : (p : Tables) (i : Item) (is : List Item) (item first n b : ℕ) → funcdefs (i ∷ is) ≡ funcdefs is → all_blocks p item first (i ∷ is) ≡ all_blocks p (suc item) first is →
    DefinedAt p is (suc item) first n b → DefinedAt p (i ∷ is) item first n b
behind_other p i is item first n b definitions blocks d = record {
  definition = d.definition;
  at = suc d.at;
  there = d.there;
  number = d.number;
  numbered = ap (λ (ds : List Funcdef). slice_get ds d.number) definitions ∙ d.numbered;
  named = d.named;
  met = d.met;
  before = d.before;
  blocks = d.blocks;
  code = λ x h. let e : suc item + d.at ≡ item + suc d.at = omega arith in
      ap (λ (cs : List BlockCode). slice_get cs d.before) blocks ∙ d.code x h ∙ ap (λ (k : ℕ). Some (block_code p (body_of p b d.definition) k 0 x)) e;
}

behind_definition : (p : Tables) (x : Funcdef) (is : List Item) (item first n b : ℕ) → DefinedAt p is (suc item) (first + length x.blocks) n b → DefinedAt p (items.Funcdef x ∷ is) item first n b
behind_definition p x is item first n b d = record {
  definition = d.definition;
  at = suc d.at;
  there = d.there;
  number = suc d.number;
  numbered = d.numbered;
  named = d.named;
  met = d.met;
  before = length x.blocks + d.before;
  blocks = omega (arith, d.blocks);
  code = λ y h.
      let own = blocks_code p (body_of p first x) item 0 x.blocks in
      let rest = all_blocks p (suc item) (first + length x.blocks) is in
      let e : suc item + d.at ≡ item + suc d.at = omega arith in
      let many : length x.blocks + d.before ≡ length own + d.before = omega (arith, as_many_codes p (body_of p first x) item 0 x.blocks) in
      ap (λ (k : ℕ). slice_get (own ++ rest) k) many ∙ get_right own rest d.before ∙ d.code y h ∙ ap (λ (k : ℕ). Some (block_code p (body_of p b d.definition) k 0 y)) e;
}

defined_here : (p : Tables) (x : Funcdef) (is : List Item) (item first n : ℕ) → is_function (found p.globals.names x.name.text) n ≡ true → AllMet (function_demands p first x) →
    DefinedAt p (items.Funcdef x ∷ is) item first n first
defined_here p x is item first n own met = record {
  definition = x;
  at = 0;
  there = refl;
  number = 0;
  numbered = refl;
  named = own;
  met = met;
  before = 0;
  blocks = omega arith;
  code = λ y h. let e : item ≡ item + 0 = omega arith in
      first_code p (body_of p first x) item 0 x.blocks y (all_blocks p (suc item) (first + length x.blocks) is) h ∙ ap (λ (k : ℕ). Some (block_code p (body_of p first x) k 0 y)) e;
}

defined_at : (p : Tables) (is : List Item) (item first n b : ℕ) → AllMet (functions_demands p first is) → definition_from p.globals n first is ≡ Some b → DefinedAt p is item first n b
defined_at p [] item first n b met h = cc
defined_at p (items.Typedef x ∷ is) item first n b met h = behind_other p (items.Typedef x) is item first n b refl refl (defined_at p is (suc item) first n b met h)
defined_at p (items.Funcsig x ∷ is) item first n b met h = behind_other p (items.Funcsig x) is item first n b refl refl (defined_at p is (suc item) first n b met h)
defined_at p (items.Const x ∷ is) item first n b met h = behind_other p (items.Const x) is item first n b refl refl (defined_at p is (suc item) first n b met h)
defined_at p (items.GlobalCell x ∷ is) item first n b met h = behind_other p (items.GlobalCell x) is item first n b refl refl (defined_at p is (suc item) first n b met h)
defined_at p (items.Funcdecl x ∷ is) item first n b met h = behind_other p (items.Funcdecl x) is item first n b refl refl (defined_at p is (suc item) first n b met h)
defined_at p (items.Funcdef x ∷ is) item first n b met h = by (is_function (found p.globals.names x.name.text) n) refl h (λ k. defined_at p is (suc item) (first + length x.blocks) n b met.1 k)
  where
    by : (t : Bool) → is_function (found p.globals.names x.name.text) n ≡ t → (if t then Some first else definition_from p.globals n (first + length x.blocks) is) ≡ Some b →
        (definition_from p.globals n (first + length x.blocks) is ≡ Some b → DefinedAt p is (suc item) (first + length x.blocks) n b) → DefinedAt p (items.Funcdef x ∷ is) item first n b
    by true t e more = subst (λ (k : ℕ). DefinedAt p (items.Funcdef x ∷ is) item first n k) (some_is first b e) (defined_here p x is item first n t met.0)
    by false t e more = behind_definition p x is item first n b (more e)

-- ---- what is asked of items

has_blocks : (is : List Item) (n : ℕ) (d : Funcdef) → HaveBlocks is → slice_get is n ≡ Some (items.Funcdef d) → 0 < length d.blocks
has_blocks [] n d have h = cc
has_blocks (items.Typedef x ∷ is) zero d have h = cc
has_blocks (items.Typedef x ∷ is) (suc n) d have h = has_blocks is n d have h
has_blocks (items.Funcsig x ∷ is) zero d have h = cc
has_blocks (items.Funcsig x ∷ is) (suc n) d have h = has_blocks is n d have h
has_blocks (items.Const x ∷ is) zero d have h = cc
has_blocks (items.Const x ∷ is) (suc n) d have h = has_blocks is n d have h
has_blocks (items.GlobalCell x ∷ is) zero d have h = cc
has_blocks (items.GlobalCell x ∷ is) (suc n) d have h = has_blocks is n d have h
has_blocks (items.Funcdecl x ∷ is) zero d have h = cc
has_blocks (items.Funcdecl x ∷ is) (suc n) d have h = has_blocks is n d have h
has_blocks (items.Funcdef x ∷ is) zero d have h = let same : x ≡ d = cc in subst (λ (y : Funcdef). 0 < length y.blocks) same have.0
has_blocks (items.Funcdef x ∷ is) (suc n) d have h = has_blocks is n d have.1 h

first_there : (bs : List Block) → 0 < length bs → (b : Block) × (slice_get bs 0 ≡ Some b)
first_there [] l = absurd (omega (arith, l))
first_there (b ∷ bs) l = (b, refl)

uses_at : (es : Names Sort) (is : List Item) (n : ℕ) (i : Item) → AllMet (item_uses es is) → slice_get is n ≡ Some i → AllMet (item_use es i)
uses_at es [] n i met h = cc
uses_at es (x ∷ is) zero i met h = subst (λ (y : Item). AllMet (item_use es y)) (some_is x i h) met.0
uses_at es (x ∷ is) (suc n) i met h = uses_at es is n i met.1 h

not_some : (o : Option Name) → not (is_some o) ≡ true → o ≡ None
not_some None h = refl
not_some (Some n) h = cc

first_met : (p : Tables) (s : Name) (bs : List Block) (b : Block) → slice_get bs 0 ≡ Some b → AllMet (first_block_demands p s bs) →
    (b.head.handler ≡ None) × (gives_these (takes_of (signature_named p s)) (parameter_classes p b.head.parameters) ≡ true)
first_met p s [] b h met = cc
first_met p s (x ∷ bs) b h met =
    subst (λ (y : Block). (y.head.handler ≡ None) × (gives_these (takes_of (signature_named p s)) (parameter_classes p y.head.parameters) ≡ true)) (some_is x b h)
    (let both = both_are (not (is_some x.head.handler)) (gives_these (takes_of (signature_named p s)) (parameter_classes p x.head.parameters)) met in (not_some x.head.handler both.0, both.1))

taken : (o : Option Signature) (us : List ℕ) → gives_these (takes_of o) us ≡ true → noted_classes (takes_of o) ≡ us
taken None us h = cc
taken (Some s) us h = (bytes_eq-Decides s.takes us).0 h

-- ---- both

definition_is : (x d : Funcdef) (o : Option Item) → o ≡ Some (items.Funcdef x) → o ≡ Some (items.Funcdef d) → x ≡ d
definition_is x d o e f = cc

taken_classes : (p : Tables) (h : BlockHead) → h.handler ≡ None → head_classes p h ≡ parameter_classes p h.parameters
taken_classes p h e = ap (λ (o : Option Name). parameter_classes p h.parameters ++ handler_classes p o) e ∙ append-nil (parameter_classes p h.parameters)

given_are : (p : Tables) (first : ℕ) (d : Funcdef) → (body_of p first d).gives ≡ noted_classes (gives_of (signature_named p d.signature))
unfolding body_of
given_are p first d = refl

-- where the signature of a function is the one that its definition names
first_is : (bundle : List Item) (f b : ℕ) (d : DefinedAt (bundle_tables bundle) bundle 0 0 f b) (x : Block) → slice_get d.definition.blocks 0 ≡ Some x →
    signature_of (bundle_tables bundle) f ≡ signature_named (bundle_tables bundle) d.definition.signature → IsFirstBlock bundle f b
first_is bundle f b d x there signature =
    let p = bundle_tables bundle in
    let met = first_met p d.definition.signature d.definition.blocks x there d.met.1.0 in
    let z : 0 + d.before ≡ d.before = omega arith in
    let zero_at : 0 + d.at ≡ d.at = omega arith in
    record {
      code = block_code p (body_of p b d.definition) (0 + d.at) 0 x;
      there = ap (λ (k : ℕ). slice_get (bundle_blocks bundle) k) (d.blocks ∙ z) ∙ d.code x there;
      first = refl;
      handler = ap (λ (o : Option Name). handler_number x.head o) met.0;
      takes = λ of.
          let definition : of.definition ≡ d.definition = definition_is of.definition d.definition (slice_get bundle d.at) (ap (λ (k : ℕ). slice_get bundle k) (sym zero_at) ∙ of.item) d.there in
          let block : of.block ≡ x = some_is of.block x (sym of.there ∙ ap (λ (y : Funcdef). slice_get y.blocks 0) definition ∙ there) in
          ap (λ (y : Block). head_classes p y.head) block ∙ taken_classes p x.head met.0
          ∙ sym (taken (signature_named p d.definition.signature) (parameter_classes p x.head.parameters) met.1)
          ∙ ap (λ (o : Option Signature). noted_classes (takes_of o)) (sym signature);
      gives = λ of.
          let definition : of.definition ≡ d.definition = definition_is of.definition d.definition (slice_get bundle d.at) (ap (λ (k : ℕ). slice_get bundle k) (sym zero_at) ∙ of.item) d.there in
          given_are p of.first of.definition ∙ ap (λ (y : Funcdef). noted_classes (gives_of (signature_named p y.signature))) definition
          ∙ ap (λ (o : Option Signature). noted_classes (gives_of o)) (sym signature);
    }

-- the signature of a function, and the number of its first block, by its number in the tables
record BodyIs (bundle : List Item) (f b : ℕ) : Type 0 where
  number : ℕ
  there : slice_get (bundle_tables bundle).functions f ≡ Some number
  first : definition_from (globals_of bundle) f 0 bundle ≡ Some b

body_is : (bundle : List Item) (f b : ℕ) (function : Function) → slice_get (bundle_functions bundle) f ≡ Some function → function.first ≡ Some b → BodyIs bundle f b
body_is bundle f b function h e =
    by (slice_get (bundle_tables bundle).functions f) refl
    (definition_same bundle f ∙ ap (λ (o : Option Function). with_some o (λ x. Some x.first)) h ∙ ap (λ (o : Option ℕ). Some o) e)
  where
    by : (o : Option ℕ) → slice_get (bundle_tables bundle).functions f ≡ o → with_some o (λ g. Some (definition_from (globals_of bundle) f 0 bundle)) ≡ Some (Some b) → BodyIs bundle f b
    by None there k = cc
    by (Some s) there k = record { number = s; there = there; first = some_is (definition_from (globals_of bundle) f 0 bundle) (Some b) k }

same_named : (bundle : List Item) (f s m : ℕ) (d : Funcdef) → AllMet (items_demands no_globals bundle) → slice_get (funcdefs bundle) m ≡ Some d → is_signature (found (globals_of bundle).names d.signature.text) ≡ true →
    is_function (found (globals_of bundle).names d.name.text) f ≡ true → slice_get (bundle_tables bundle).functions f ≡ Some s →
    signature_of (bundle_tables bundle) f ≡ signature_named (bundle_tables bundle) d.signature
unfolding tables_of
same_named bundle f s m d met there signature own h =
    let p = bundle_tables bundle in
    let is : s ≡ noted_signature (globals_of bundle) d.signature = defined_signature bundle f s m d met there own h in
    let name : NamedSignature bundle d.signature = named_signature bundle d.signature signature in
    let number : s ≡ name.number = is ∙ ap or_zero name.is in
    ap (λ (o : Option ℕ). signature_in p o) (h ∙ ap (λ (k : ℕ). Some k) number ∙ sym name.is)

pub first_block : (bundle : List Item) (f b : ℕ) (function : Function) → first_unmet (name_demands bundle) ≡ None → first_unmet (check_demands bundle) ≡ None → HaveBlocks bundle →
    slice_get (bundle_functions bundle) f ≡ Some function → function.first ≡ Some b → IsFirstBlock bundle f b
unfolding check_demands tables_of
first_block bundle f b function names checked have h e =
    let p = bundle_tables bundle in
    let met = all_met (name_demands bundle) names in
    let rules = (all_met (check_demands bundle) checked).1 in
    let body : BodyIs bundle f b = body_is bundle f b function h e in
    let d : DefinedAt p bundle 0 0 f b = defined_at p bundle 0 0 f b rules body.first in
    let block = first_there d.definition.blocks (has_blocks bundle d.at d.definition have d.there) in
    let named = uses_at (globals_of bundle).names bundle d.at (items.Funcdef d.definition) met.1 d.there in
    first_is bundle f b d block.0 block.1 (same_named bundle f body.number d.number d.definition met.0 d.numbered named.0.1 d.named body.there)
