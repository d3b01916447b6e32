-- The blocks of an accepted bundle by number.
use Rattle.std.proofs.Common.{◌≡◌, ℕ, zero, suc, ◌+◌, Bool, true, false, List, [], ◌∷◌, ◌++◌, ◌⊎◌, inl, inr, Option, Some, None, nat_eq, is_some, take, slice_get, length, if◌then◌else◌, refl, ◌∙◌, ap, subst, append_assoc, arith}
use Rattle.demands.specs.Demands.{first_unmet}
use Rattle.ir_lex.specs.declared.name.Name.{Name}
use Rattle.ir_tree.specs.declared.code.Parameter.{Parameter}
use Rattle.ir_tree.specs.declared.code.BlockHead.{BlockHead}
use Rattle.ir_tree.specs.declared.code.Block.{Block}
use Rattle.ir_tree.specs.declared.items.Funcdef.{Funcdef}
use Rattle.ir_tree.specs.declared.items.Item.{Item}
use Rattle.ir_tree.specs.declared.items.Item.TheVariants as items
use Rattle.bundle_names.specs.Naming.{name_demands}
use Rattle.check_tables.specs.declared.tables.Tables.{Tables}
use Rattle.checked_code.specs.declared.scopes.BlockEntry.{BlockEntry}
use Rattle.checked_code.specs.declared.scopes.Body.{Body}
use Rattle.checked_code.specs.Instructions.{after_all}
use Rattle.bundle_laws.specs.Typed.{Blocks, joined}
use Rattle.bundle_laws.specs.Lemmas.TypedOperands.{nat_eq_is}
use Rattle.bundle_laws.specs.Lemmas.TypedVariables.{get_more}
use Rattle.checked_code.specs.declared.blocks.BlockCode.{BlockCode}
use Rattle.checked_code.specs.Blocks.{head_locals, parameter_classes, handler_number, block_code, blocks_code}
use Rattle.checked_code.specs.Functions.{entry_of, body_of, all_blocks}
use Rattle.checked_code.specs.Checking.{bundle_tables, bundle_blocks, check_demands}
use Rattle.bundle_laws.specs.Accepted.{blocks_from, handler_classes, BlockIsFit, EachFits, FunctionFits, FunctionsFit, Reached, CodeOf}
use Rattle.bundle_laws.specs.Lemmas.Bodies.{some_is}
use Rattle.bundle_laws.specs.Lemmas.Graph.{get_right}
use Rattle.bundle_laws.specs.Lemmas.Lifting.{bundle_fits}

-- ---- lists

take_front : (xs ys : List ℕ) → take (length xs) (xs ++ ys) ≡ xs
take_front [] ys = refl
take_front (x ∷ xs) ys = ap (λ (zs : List ℕ). x ∷ zs) (take_front xs ys)

-- an element of two lists is one of the first, or one of the second
get_both : {T : Type 0} (xs ys : List T) (n : ℕ) (a : T) → slice_get (xs ++ ys) n ≡ Some a → (slice_get xs n ≡ Some a) ⊎ ((m : ℕ) × (n ≡ length xs + m) × (slice_get ys m ≡ Some a))
get_both [] ys n a h = inr (n, omega arith, h)
get_both (x ∷ xs) ys zero a h = inl h
get_both (x ∷ xs) ys (suc n) a h = elim (get_both xs ys n a h) [
  | inl here ↦ inl here
  | inr later ↦ inr (later.0, omega (arith, later.1), later.2)
]

-- ---- blocks and their code

each_at : (p : Tables) (blocks : Blocks) (f : Body) (bs : List Block) (n : ℕ) (b : Block) → EachFits p blocks f bs → slice_get bs n ≡ Some b → BlockIsFit p blocks f b
each_at p blocks f [] n b fits h = cc
each_at p blocks f (x ∷ bs) zero b fits h = subst (λ (y : Block). BlockIsFit p blocks f y) (some_is x b h) fits.0
each_at p blocks f (x ∷ bs) (suc n) b fits h = each_at p blocks f bs n b fits.1 h

code_of_block : (p : Tables) (f : Body) (item at : ℕ) (bs : List Block) (n : ℕ) (b : Block) → slice_get bs n ≡ Some b → slice_get (blocks_code p f item at bs) n ≡ Some (block_code p f item (at + n) b)
code_of_block p f item at [] n b h = cc
code_of_block p f item at (x ∷ bs) zero b h =
    let e : at ≡ at + 0 = omega arith in
    ap (λ (k : ℕ). Some (block_code p f item k x)) e ∙ ap (λ (y : Block). Some (block_code p f item (at + 0) y)) (some_is x b h)
code_of_block p f item at (x ∷ bs) (suc n) b h =
    let e : suc at + n ≡ at + suc n = omega arith in
    code_of_block p f item (suc at) bs n b h ∙ ap (λ (k : ℕ). Some (block_code p f item k b)) e

block_of_code : (p : Tables) (f : Body) (item at : ℕ) (bs : List Block) (n : ℕ) (c : BlockCode) → slice_get (blocks_code p f item at bs) n ≡ Some c →
    (b : Block) × (slice_get bs n ≡ Some b) × (block_code p f item (at + n) b ≡ c)
block_of_code p f item at [] n c h = cc
block_of_code p f item at (x ∷ bs) zero c h =
    let e : at + 0 ≡ at = omega arith in (x, refl, ap (λ (k : ℕ). block_code p f item k x) e ∙ some_is (block_code p f item at x) c h)
block_of_code p f item at (x ∷ bs) (suc n) c h =
    let more = block_of_code p f item (suc at) bs n c h in
    let e : at + suc n ≡ suc at + n = omega arith in
    (more.0, more.1, ap (λ (k : ℕ). block_code p f item k more.0) e ∙ more.2)

as_many_codes : (p : Tables) (f : Body) (item at : ℕ) (bs : List Block) → length (blocks_code p f item at bs) ≡ length bs
as_many_codes p f item at [] = refl
as_many_codes p f item at (b ∷ bs) = ap (λ (n : ℕ). suc n) (as_many_codes p f item (suc at) bs)

-- the block with a number
record Numbered (p : Tables) (k : ℕ) (bs : List Block) (m : ℕ) (e : BlockEntry) : Type 0 where
  at : ℕ
  block : Block
  number : m ≡ k + at
  there : slice_get bs at ≡ Some block
  entry : entry_of p m block ≡ e

numbered : (p : Tables) (k : ℕ) (bs : List Block) (m : ℕ) (e : BlockEntry) → blocks_from p k bs m ≡ Some e → Numbered p k bs m e
numbered p k [] m e h = cc
numbered p k (b ∷ bs) m e h = by (nat_eq m k) refl h (numbered p (suc k) bs m e)
  where
    by : (t : Bool) → nat_eq m k ≡ t → (if t then Some (entry_of p k b) else blocks_from p (suc k) bs m) ≡ Some e → (blocks_from p (suc k) bs m ≡ Some e → Numbered p (suc k) bs m e) →
        Numbered p k (b ∷ bs) m e
    by true same there more =
        let number : m ≡ k = nat_eq_is m k same in
        record { at = 0; block = b; number = omega (arith, number); there = refl; entry = ap (λ (x : ℕ). entry_of p x b) number ∙ some_is (entry_of p k b) e there }
    by false other there more =
        let behind : Numbered p (suc k) bs m e = more there in
        record { at = suc behind.at; block = behind.block; number = omega (arith, behind.number); there = behind.there; entry = behind.entry }

-- ---- what a block takes

as_many_classes : (p : Tables) (qs : List Parameter) → length qs ≡ length (parameter_classes p qs)
as_many_classes p [] = refl
as_many_classes p (q ∷ qs) = ap (λ (n : ℕ). suc n) (as_many_classes p qs)

block_takes : (p : Tables) (blocks : Blocks) (f : Body) (b : Block) → BlockIsFit p blocks f b →
    take (length b.head.parameters) (after_all p (head_locals p b.head) b.insts).classes ≡ parameter_classes p b.head.parameters
block_takes p blocks f b fit =
    let ps = parameter_classes p b.head.parameters in
    let more = handler_classes p b.head.handler ++ joined fit.code.given in
    ap (λ (ks : List ℕ). take (length b.head.parameters) ks) (fit.classes ∙ append_assoc ps (handler_classes p b.head.handler) (joined fit.code.given))
    ∙ ap (λ (n : ℕ). take n (ps ++ more)) (as_many_classes p b.head.parameters)
    ∙ take_front ps more

has_handler : (h : BlockHead) (o : Option Name) → is_some (handler_number h o) ≡ is_some o
has_handler h None = refl
has_handler h (Some n) = refl

-- ---- the blocks of a definition, which stand behind so many

definition_reached : (p : Tables) (all rest : List BlockCode) (item first : ℕ) (d : Funcdef) → FunctionFits p first d →
    ((m : ℕ) → slice_get all (first + m) ≡ slice_get (blocks_code p (body_of p first d) item 0 d.blocks ++ rest) m) →
    (m : ℕ) (e : BlockEntry) → blocks_from p first d.blocks m ≡ Some e → Reached all item first m e
definition_reached p all rest item first d fits stand m e h =
    let at : Numbered p first d.blocks m e = numbered p first d.blocks m e h in
    let code : BlockCode = block_code p (body_of p first d) item (0 + at.at) at.block in
    let fit : BlockIsFit p (blocks_from p first d.blocks) (body_of p first d) at.block =
    each_at p (blocks_from p first d.blocks) (body_of p first d) d.blocks at.at at.block fits at.there in
    record {
      code = code;
      there =
          ap (λ (k : ℕ). slice_get all k) at.number ∙ stand at.at
          ∙ get_more (blocks_code p (body_of p first d) item 0 d.blocks) rest at.at code (code_of_block p (body_of p first d) item 0 d.blocks at.at at.block at.there);
      same = refl;
      number = omega (arith, at.number);
      takes = block_takes p (blocks_from p first d.blocks) (body_of p first d) at.block fit ∙ ap (λ (x : BlockEntry). x.takes) at.entry;
      handler = has_handler at.block.head at.block.head.handler ∙ ap (λ (x : BlockEntry). x.has_handler) at.entry;
    }

definition_code : (p : Tables) (bundle : List Item) (all rest : List BlockCode) (item first : ℕ) (d : Funcdef) → FunctionFits p first d → slice_get bundle item ≡ Some (items.Funcdef d) →
    ((m : ℕ) → slice_get all (first + m) ≡ slice_get (blocks_code p (body_of p first d) item 0 d.blocks ++ rest) m) →
    (number n : ℕ) (c : BlockCode) → number ≡ first + n → slice_get (blocks_code p (body_of p first d) item 0 d.blocks) n ≡ Some c → CodeOf p bundle all number c
definition_code p bundle all rest item first d fits here stand number n c e h =
    let found : (b : Block) × (slice_get d.blocks n ≡ Some b) × (block_code p (body_of p first d) item (0 + n) b ≡ c) = block_of_code p (body_of p first d) item 0 d.blocks n c h in
    let fit : BlockIsFit p (blocks_from p first d.blocks) (body_of p first d) found.0 =
    each_at p (blocks_from p first d.blocks) (body_of p first d) d.blocks n found.0 fits found.1 in
    let z : 0 + n ≡ n = omega arith in
    let code : CodeOf p bundle all number (block_code p (body_of p first d) item (0 + n) found.0) = record {
      definition = d;
      first = first;
      block = found.0;
      item = here;
      there = ap (λ (k : ℕ). slice_get d.blocks k) z ∙ found.1;
      number = omega (arith, e);
      parameters = refl;
      handler = refl;
      code = fit.code;
      classes = fit.classes;
      reached = definition_reached p all rest item first d fits stand;
    } in
    subst (λ (x : BlockCode). CodeOf p bundle all number x) found.2 code

-- ---- the blocks of the items behind so many

-- the items stand in the bundle behind so many
StandBehind : List Item → ℕ → List Item → Type 0
StandBehind bundle item is = (k : ℕ) → slice_get bundle (item + k) ≡ slice_get is k

next : (bundle : List Item) (item : ℕ) (i : Item) (is : List Item) → StandBehind bundle item (i ∷ is) → StandBehind bundle (suc item) is
unfolding StandBehind
next bundle item i is stand = λ k. let e : suc item + k ≡ item + suc k = omega arith in ap (λ (n : ℕ). slice_get bundle n) e ∙ stand (suc k)

now : (bundle : List Item) (item : ℕ) (i : Item) (is : List Item) → StandBehind bundle item (i ∷ is) → slice_get bundle item ≡ Some i
unfolding StandBehind
now bundle item i is stand = let e : item ≡ item + 0 = omega arith in ap (λ (n : ℕ). slice_get bundle n) e ∙ stand 0

-- and their blocks among all blocks
BlocksStand : Tables → List BlockCode → ℕ → ℕ → List Item → Type 0
BlocksStand p all item first is = (m : ℕ) → slice_get all (first + m) ≡ slice_get (all_blocks p item first is) m

behind_definition : (p : Tables) (all : List BlockCode) (item first : ℕ) (d : Funcdef) (is : List Item) → BlocksStand p all item first (items.Funcdef d ∷ is) →
    BlocksStand p all (suc item) (first + length d.blocks) is
unfolding BlocksStand
behind_definition p all item first d is stand = λ m.
    let own = blocks_code p (body_of p first d) item 0 d.blocks in
    let rest = all_blocks p (suc item) (first + length d.blocks) is in
    let many : length own ≡ length d.blocks = as_many_codes p (body_of p first d) item 0 d.blocks in
    let e : (first + length d.blocks) + m ≡ first + (length own + m) = omega (arith, many) in
    ap (λ (n : ℕ). slice_get all n) e ∙ stand (length own + m) ∙ get_right own rest m

items_code : (p : Tables) (bundle : List Item) (all : List BlockCode) (item first : ℕ) (is : List Item) → FunctionsFit p first is → StandBehind bundle item is → BlocksStand p all item first is →
    (number n : ℕ) (c : BlockCode) → number ≡ first + n → slice_get (all_blocks p item first is) n ≡ Some c → CodeOf p bundle all number c
unfolding BlocksStand
items_code p bundle all item first [] fits items blocks number n c e h = cc
items_code p bundle all item first (items.Typedef d ∷ is) fits stand blocks number n c e h =
    items_code p bundle all (suc item) first is fits (next bundle item (items.Typedef d) is stand) blocks number n c e h
items_code p bundle all item first (items.Funcsig d ∷ is) fits stand blocks number n c e h =
    items_code p bundle all (suc item) first is fits (next bundle item (items.Funcsig d) is stand) blocks number n c e h
items_code p bundle all item first (items.Const d ∷ is) fits stand blocks number n c e h =
    items_code p bundle all (suc item) first is fits (next bundle item (items.Const d) is stand) blocks number n c e h
items_code p bundle all item first (items.GlobalCell d ∷ is) fits stand blocks number n c e h =
    items_code p bundle all (suc item) first is fits (next bundle item (items.GlobalCell d) is stand) blocks number n c e h
items_code p bundle all item first (items.Funcdecl d ∷ is) fits stand blocks number n c e h =
    items_code p bundle all (suc item) first is fits (next bundle item (items.Funcdecl d) is stand) blocks number n c e h
items_code p bundle all item first (items.Funcdef d ∷ is) fits stand blocks number n c e h =
    let own = blocks_code p (body_of p first d) item 0 d.blocks in
    let rest = all_blocks p (suc item) (first + length d.blocks) is in
    let many : length own ≡ length d.blocks = as_many_codes p (body_of p first d) item 0 d.blocks in
    elim (get_both own rest n c h) [
      | inl here ↦ definition_code p bundle all rest item first d fits.0 (now bundle item (items.Funcdef d) is stand) blocks number n c e here
      | inr later ↦
          items_code p bundle all (suc item) (first + length d.blocks) is fits.1 (next bundle item (items.Funcdef d) is stand) (behind_definition p all item first d is blocks)
          number later.0 c (omega (arith, e, later.1, many)) later.2
    ]

pub code_fits : (bundle : List Item) → first_unmet (name_demands bundle) ≡ None → first_unmet (check_demands bundle) ≡ None →
    (n : ℕ) (c : BlockCode) → slice_get (bundle_blocks bundle) n ≡ Some c → CodeOf (bundle_tables bundle) bundle (bundle_blocks bundle) n c
unfolding StandBehind BlocksStand
code_fits bundle named checked n c h =
    items_code (bundle_tables bundle) bundle (bundle_blocks bundle) 0 0 bundle (bundle_fits bundle named checked)
    (λ k. let z : 0 + k ≡ k = omega arith in ap (λ (m : ℕ). slice_get bundle m) z)
    (λ m. let z : 0 + m ≡ m = omega arith in ap (λ (k : ℕ). slice_get (bundle_blocks bundle) k) z)
    n n c (omega arith) h
