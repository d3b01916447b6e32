-- A block has one full name: by the blocks of the bundle as they are written, and by their code.
use Rattle.std.proofs.Common.{◌≡◌, ℕ, zero, suc, ◌+◌, ◌≤◌, List, [], ◌∷◌, ◌++◌, Option, Some, None, length, map, slice_get, option_map, unwrap_or, refl, sym, ◌∙◌, ap, append_assoc, arith}
use Rattle.ir_tree.specs.declared.code.Block.{Block}
use Rattle.ir_tree.specs.declared.items.Funcdef.{Funcdef}
use Rattle.ir_tree.specs.declared.items.Item.{Item}
use Rattle.ir_tree.specs.declared.items.Item.TheVariants as items
use Rattle.check_tables.specs.declared.tables.Tables.{Tables}
use Rattle.checked_code.specs.declared.scopes.Body.{Body}
use Rattle.checked_code.specs.declared.blocks.BlockCode.{BlockCode}
use Rattle.checked_code.specs.Blocks.{blocks_code}
use Rattle.checked_code.specs.Functions.{body_of, all_blocks}
use Rattle.checked_code.specs.Checking.{bundle_tables, bundle_blocks}
use Rattle.checked_code.specs.Answers.{full_name as code_full_name, full_name_at, name_in, name_of_block, block_name}
use Rattle.mu_model.specs.Operands.{Scope}
use Rattle.mu_model.specs.Programs.{scopes_from, scopes_of}
use Rattle.run_texts.specs.EventTexts.{full_name}

-- ---- lists

-- these stand in the list behind so many
pub StandBehind : {A : Type 0} → List A → ℕ → List A → Type 0
StandBehind all n xs = (k : ℕ) → slice_get all (n + k) ≡ slice_get xs k

pub all_stand : {A : Type 0} (all : List A) → StandBehind all 0 all
unfolding StandBehind
all_stand all = λ k. let z : 0 + k ≡ k = omega arith in ap (λ (m : ℕ). slice_get all m) z

pub next : {A : Type 0} (all : List A) (n : ℕ) (x : A) (xs : List A) → StandBehind all n (x ∷ xs) → StandBehind all (suc n) xs
unfolding StandBehind
next all n x xs stand = λ k. let e : suc n + k ≡ n + suc k = omega arith in ap (λ (m : ℕ). slice_get all m) e ∙ stand (suc k)

pub here : {A : Type 0} (all : List A) (n : ℕ) (x : A) (xs : List A) → StandBehind all n (x ∷ xs) → slice_get all n ≡ Some x
unfolding StandBehind
here all n x xs stand = let e : n ≡ n + 0 = omega arith in ap (λ (m : ℕ). slice_get all m) e ∙ stand 0

map_both : {A B : Type 0} (f : A → B) (xs ys : List A) → map f (xs ++ ys) ≡ map f xs ++ map f ys
map_both f [] ys = refl
map_both f (x ∷ xs) ys = ap (λ (zs : List _). f x ∷ zs) (map_both f xs ys)

get_mapped : {A B : Type 0} (f : A → B) (xs : List A) (n : ℕ) → slice_get (map f xs) n ≡ option_map f (slice_get xs n)
get_mapped f [] n = refl
get_mapped f (x ∷ xs) zero = refl
get_mapped f (x ∷ xs) (suc n) = get_mapped f xs n

-- ---- names

abbrev scope_name : Scope → List ℕ
scope_name s = full_name (Some s)

abbrev code_name : List Item → BlockCode → List ℕ
code_name bundle c = name_of_block bundle (Some c)

abbrev scope : List Item → Funcdef → ℕ → Block → Scope
scope bundle d first b = record { bundle = bundle; function = d; first = first; block = b }

one_name : (bundle : List Item) (d : Funcdef) (first : ℕ) (b : Block) → scope_name (scope bundle d first b) ≡ code_full_name d b
one_name bundle d first b = simp append_assoc

named_at : (bundle : List Item) (d : Funcdef) (item at : ℕ) (b : Block) → slice_get bundle item ≡ Some (items.Funcdef d) → slice_get d.blocks at ≡ Some b →
    name_in (slice_get bundle item) at ≡ code_full_name d b
named_at bundle d item at b i e = ap (λ (o : Option Item). name_in o at) i ∙ ap (λ (o : Option Block). full_name_at d o) e

blocks_named : (bundle : List Item) (p : Tables) (f : Body) (d : Funcdef) (first item at : ℕ) (bs : List Block) → slice_get bundle item ≡ Some (items.Funcdef d) → StandBehind d.blocks at bs →
    map scope_name (map (scope bundle d first) bs) ≡ map (code_name bundle) (blocks_code p f item at bs)
blocks_named bundle p f d first item at [] i stand = refl
blocks_named bundle p f d first item at (b ∷ bs) i stand =
    ap (λ (name : List ℕ). name ∷ map scope_name (map (scope bundle d first) bs))
    (one_name bundle d first b ∙ sym (named_at bundle d item at b i (here d.blocks at b bs stand)))
    ∙ ap (λ (names : List (List ℕ)). name_in (slice_get bundle item) at ∷ names)
    (blocks_named bundle p f d first item (suc at) bs i (next d.blocks at b bs stand))

items_named : (bundle : List Item) (p : Tables) (item first : ℕ) (is : List Item) → StandBehind bundle item is →
    map scope_name (scopes_from bundle first is) ≡ map (code_name bundle) (all_blocks p item first is)
items_named bundle p item first [] stand = refl
items_named bundle p item first (items.Typedef d ∷ is) stand = items_named bundle p (suc item) first is (next bundle item (items.Typedef d) is stand)
items_named bundle p item first (items.Funcsig d ∷ is) stand = items_named bundle p (suc item) first is (next bundle item (items.Funcsig d) is stand)
items_named bundle p item first (items.Const d ∷ is) stand = items_named bundle p (suc item) first is (next bundle item (items.Const d) is stand)
items_named bundle p item first (items.GlobalCell d ∷ is) stand = items_named bundle p (suc item) first is (next bundle item (items.GlobalCell d) is stand)
items_named bundle p item first (items.Funcdecl d ∷ is) stand = items_named bundle p (suc item) first is (next bundle item (items.Funcdecl d) is stand)
items_named bundle p item first (items.Funcdef d ∷ is) stand =
    let own = map (scope bundle d first) d.blocks in
    let codes = blocks_code p (body_of p first d) item 0 d.blocks in
    let later = scopes_from bundle (first + length d.blocks) is in
    let more = all_blocks p (suc item) (first + length d.blocks) is in
    map_both scope_name own later
    ∙ ap (λ (names : List (List ℕ)). names ++ map scope_name later)
    (blocks_named bundle p (body_of p first d) d first item 0 d.blocks (here bundle item (items.Funcdef d) is stand) (all_stand d.blocks))
    ∙ ap (λ (names : List (List ℕ)). map (code_name bundle) codes ++ names)
    (items_named bundle p (suc item) (first + length d.blocks) is (next bundle item (items.Funcdef d) is stand))
    ∙ sym (map_both (code_name bundle) codes more)

-- ---- by number

scope_named : (o : Option Scope) → full_name o ≡ unwrap_or (option_map scope_name o) []
scope_named None = refl
scope_named (Some s) = refl

code_named : (bundle : List Item) (o : Option BlockCode) → unwrap_or (option_map (code_name bundle) o) [] ≡ name_of_block bundle o
code_named bundle None = refl
code_named bundle (Some c) = refl

pub block_named : (bundle : List Item) (n : ℕ) → full_name (slice_get (scopes_of bundle) n) ≡ block_name bundle n
block_named bundle n =
    scope_named (slice_get (scopes_of bundle) n)
    ∙ ap (λ (o : Option (List ℕ)). unwrap_or o [])
    (sym (get_mapped scope_name (scopes_of bundle) n)
    ∙ ap (λ (names : List (List ℕ)). slice_get names n) (items_named bundle (bundle_tables bundle) 0 0 bundle (all_stand bundle))
    ∙ get_mapped (code_name bundle) (bundle_blocks bundle) n)
    ∙ code_named bundle (slice_get (bundle_blocks bundle) n)

pub none_behind : {A : Type 0} (xs : List A) (n : ℕ) → length xs ≤ n → slice_get xs n ≡ None
none_behind [] n e = refl
none_behind (x ∷ xs) zero e = absurd (omega (arith, e))
none_behind (x ∷ xs) (suc n) e = none_behind xs n (omega (arith, e))

-- a block that is not there has none
pub no_block_named : (bundle : List Item) (n : ℕ) → length (bundle_blocks bundle) ≤ n → full_name (slice_get (scopes_of bundle) n) ≡ []
no_block_named bundle n e = block_named bundle n ∙ ap (name_of_block bundle) (none_behind (bundle_blocks bundle) n e)
