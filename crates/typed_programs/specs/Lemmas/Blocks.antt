-- The blocks of an accepted bundle by number: where each stands, its code, and the other blocks of its function.
use Rattle.std.proofs.Common.{◌≡◌, ◌⊎◌, inl, inr, ℕ, zero, suc, ◌+◌, nat_eq, Bool, true, false, List, [], ◌∷◌, ◌++◌, Some, None, map, length, slice_get, option_map, if◌then◌else◌, refl, sym, ◌∙◌, ap, subst, arith}
use Rattle.std.proofs.lemmas.Option.{slice_get-map}
use Rattle.demands.specs.Demands.{AllMet, first_unmet}
use Rattle.demands.specs.Lemmas.Meeting.{all_met}
use Rattle.ir_tree.specs.declared.code.Block.{Block}
use Rattle.ir_tree.specs.declared.items.Funcdef.{Funcdef}
use Rattle.ir_tree.specs.declared.items.Item.{Item}
use Rattle.ir_tree.specs.declared.items.Item.TheVariants as items
use Rattle.check_tables.specs.declared.tables.Tables.{Tables}
use Rattle.checked_code.specs.declared.scopes.BlockEntry.{BlockEntry}
use Rattle.checked_code.specs.declared.scopes.Body.{Body}
use Rattle.bundle_laws.specs.Lemmas.TypedOperands.{nat_eq_is}
use Rattle.bundle_laws.specs.Lemmas.TypedVariables.{get_more}
use Rattle.checked_code.specs.Blocks.{block_demands, blocks_demands, block_code, blocks_code}
use Rattle.checked_code.specs.Functions.{entry_of, body_of, functions_demands, all_blocks}
use Rattle.checked_code.specs.Checking.{bundle_tables, bundle_blocks, check_demands}
use Rattle.bundle_laws.specs.Accepted.{blocks_from}
use Rattle.bundle_laws.specs.Lemmas.Bodies.{some_is}
use Rattle.bundle_laws.specs.Lemmas.Graph.{get_right}
use Rattle.mu_model.specs.Operands.{Scope}
use Rattle.mu_model.specs.Programs.{scopes_in, scopes_from, scopes_of}

-- ---- lists

get_both : {T : Type 0} (xs ys : List T) (n : ℕ) (a : T) → slice_get (xs ++ ys) n ≡ Some a → (slice_get xs n ≡ Some a) ⊎ ((m : ℕ) × (n ≡ length xs + m) × (slice_get ys m ≡ Some a))
get_both [] ys n a h = inr (n, omega arith, h)
get_both (x ∷ xs) ys zero a h = inl h
get_both (x ∷ xs) ys (suc n) a h = elim (get_both xs ys n a h) [
  | inl here ↦ inl here
  | inr later ↦ inr (later.0, omega (arith, later.1), later.2)
]

map_length : {A B : Type 0} (f : A → B) (xs : List A) → length (map f xs) ≡ length xs
map_length f [] = refl
map_length f (x ∷ xs) = ap (λ (n : ℕ). suc n) (map_length f xs)

pub of_map : {A B : Type 0} (f : A → B) (xs : List A) (k : ℕ) (b : B) → slice_get (map f xs) k ≡ Some b → (a : A) × (slice_get xs k ≡ Some a) × (b ≡ f a)
of_map f [] k b h = cc
of_map f (x ∷ xs) zero b h = (x, refl, sym (some_is (f x) b h))
of_map f (x ∷ xs) (suc k) b h = of_map f xs k b h

codes_length : (p : Tables) (f : Body) (item at : ℕ) (bs : List Block) → length (blocks_code p f item at bs) ≡ length bs
codes_length p f item at [] = refl
codes_length p f item at (b ∷ bs) = ap (λ (n : ℕ). suc n) (codes_length p f item (suc at) bs)

code_of_block : (p : Tables) (f : Body) (item at : ℕ) (bs : List Block) (n : ℕ) (b : Block) → slice_get bs n ≡ Some b → slice_get (blocks_code p f item at bs) n ≡ Some (block_code p f item (at + n) b)
code_of_block p f item at [] n b h = cc
code_of_block p f item at (x ∷ bs) zero b h =
    let e : at ≡ at + 0 = omega arith in
    ap (λ (k : ℕ). Some (block_code p f item k x)) e ∙ ap (λ (y : Block). Some (block_code p f item (at + 0) y)) (some_is x b h)
code_of_block p f item at (x ∷ bs) (suc n) b h =
    let e : suc at + n ≡ at + suc n = omega arith in
    code_of_block p f item (suc at) bs n b h ∙ ap (λ (k : ℕ). Some (block_code p f item k b)) e

block_met : (p : Tables) (f : Body) (bs : List Block) (n : ℕ) (b : Block) → AllMet (blocks_demands p f bs) → slice_get bs n ≡ Some b → AllMet (block_demands p f b)
block_met p f [] n b m h = cc
block_met p f (x ∷ bs) zero b m h = subst (λ (y : Block). AllMet (block_demands p f y)) (some_is x b h) m.0
block_met p f (x ∷ bs) (suc n) b m h = block_met p f bs n b m.1 h

-- ---- a block

abbrev pub scope_of : List Item → Funcdef → ℕ → Block → Scope
scope_of bundle d first b = record { bundle = bundle; function = d; first = first; block = b }

-- block number n of a bundle is that block of that function, of which the first has this number
pub record StandsAt (bundle : List Item) (n : ℕ) (d : Funcdef) (first : ℕ) (b : Block) : Type 0 where
  -- the item, and how many blocks of the function stand before it
  pub item : ℕ
  pub at : ℕ
  pub definition : slice_get bundle item ≡ Some (items.Funcdef d)
  pub there : slice_get d.blocks at ≡ Some b
  pub number : n ≡ first + at
  pub code : slice_get (bundle_blocks bundle) n ≡ Some (block_code (bundle_tables bundle) (body_of (bundle_tables bundle) first d) item at b)
  pub met : AllMet (block_demands (bundle_tables bundle) (body_of (bundle_tables bundle) first d) b)
  -- each block of the function stands behind its first
  pub others : (j : ℕ) (c : Block) → slice_get d.blocks j ≡ Some c → slice_get (scopes_of bundle) (first + j) ≡ Some (scope_of bundle d first c)

pub record BlockAt (bundle : List Item) (n : ℕ) (s : Scope) : Type 0 where
  pub definition : Funcdef
  pub first : ℕ
  pub block : Block
  pub same : scope_of bundle definition first block ≡ s
  pub stands : StandsAt bundle n definition first block

-- these are the items of a bundle behind so many items with so many blocks
record AreLast (bundle : List Item) (item first : ℕ) (is : List Item) : Type 0 where
  each : (j : ℕ) → slice_get bundle (item + j) ≡ slice_get is j
  scopes : (j : ℕ) → slice_get (scopes_of bundle) (first + j) ≡ slice_get (scopes_from bundle first is) j
  codes : (j : ℕ) → slice_get (bundle_blocks bundle) (first + j) ≡ slice_get (all_blocks (bundle_tables bundle) item first is) j
  met : AllMet (functions_demands (bundle_tables bundle) first is)

-- behind an item that is no function
behind_item : (bundle : List Item) (item first : ℕ) (i : Item) (is : List Item) →
    ((j : ℕ) → slice_get bundle (item + j) ≡ slice_get (i ∷ is) j) → (j : ℕ) → slice_get bundle (suc item + j) ≡ slice_get is j
behind_item bundle item first i is h j = let e : suc item + j ≡ item + suc j = omega arith in ap (λ (n : ℕ). slice_get bundle n) e ∙ h (suc j)

behind_function : (bundle : List Item) (item first : ℕ) (d : Funcdef) (is : List Item) → AreLast bundle item first (items.Funcdef d ∷ is) → AreLast bundle (suc item) (first + length d.blocks) is
behind_function bundle item first d is h =
    let p : Tables = bundle_tables bundle in
    let more : (j : ℕ) → (first + length d.blocks) + j ≡ first + (length d.blocks + j) = λ j. omega arith in
    record {
      each = behind_item bundle item first (items.Funcdef d) is h.each;
      scopes = λ j.
          ap (λ (n : ℕ). slice_get (scopes_of bundle) n) (more j) ∙ h.scopes (length d.blocks + j)
          ∙ ap (λ (n : ℕ). slice_get (scopes_in bundle d first ++ scopes_from bundle (first + length d.blocks) is) (n + j)) (sym (map_length (scope_of bundle d first) d.blocks))
          ∙ get_right (scopes_in bundle d first) (scopes_from bundle (first + length d.blocks) is) j;
      codes = λ j.
          ap (λ (n : ℕ). slice_get (bundle_blocks bundle) n) (more j) ∙ h.codes (length d.blocks + j)
          ∙ ap (λ (n : ℕ). slice_get (blocks_code p (body_of p first d) item 0 d.blocks ++ all_blocks p (suc item) (first + length d.blocks) is) (n + j)) (sym (codes_length p (body_of p first d) item 0 d.blocks))
          ∙ get_right (blocks_code p (body_of p first d) item 0 d.blocks) (all_blocks p (suc item) (first + length d.blocks) is) j;
      met = h.met.1;
    }

in_function : (bundle : List Item) (item first : ℕ) (d : Funcdef) (is : List Item) (k : ℕ) (b : Block) → AreLast bundle item first (items.Funcdef d ∷ is) → slice_get d.blocks k ≡ Some b →
    StandsAt bundle (first + k) d first b
in_function bundle item first d is k b h e =
    let p : Tables = bundle_tables bundle in
    let zero_more : 0 + k ≡ k = omega arith in
    let none_more : item ≡ item + 0 = omega arith in
    record {
      item = item;
      at = k;
      definition = ap (λ (n : ℕ). slice_get bundle n) none_more ∙ h.each 0;
      there = e;
      number = refl;
      code =
          h.codes k
          ∙ get_more (blocks_code p (body_of p first d) item 0 d.blocks) (all_blocks p (suc item) (first + length d.blocks) is) k (block_code p (body_of p first d) item (0 + k) b) (code_of_block p (body_of p first d) item 0 d.blocks k b e)
          ∙ ap (λ (n : ℕ). Some (block_code p (body_of p first d) item n b)) zero_more;
      met = block_met p (body_of p first d) d.blocks k b h.met.0.1.1 e;
      others = λ j c there.
          h.scopes j
          ∙ get_more (scopes_in bundle d first) (scopes_from bundle (first + length d.blocks) is) j (scope_of bundle d first c) (slice_get-map (scope_of bundle d first) d.blocks j ∙ ap (option_map (scope_of bundle d first)) there);
    }

among : (bundle : List Item) (item first : ℕ) (is : List Item) (k : ℕ) (s : Scope) → AreLast bundle item first is → slice_get (scopes_from bundle first is) k ≡ Some s → BlockAt bundle (first + k) s
among bundle item first [] k s h e = cc
among bundle item first (items.Typedef d ∷ is) k s h e = among bundle (suc item) first is k s (record { each = behind_item bundle item first (items.Typedef d) is h.each; scopes = h.scopes; codes = h.codes; met = h.met }) e
among bundle item first (items.Funcsig d ∷ is) k s h e = among bundle (suc item) first is k s (record { each = behind_item bundle item first (items.Funcsig d) is h.each; scopes = h.scopes; codes = h.codes; met = h.met }) e
among bundle item first (items.Const d ∷ is) k s h e = among bundle (suc item) first is k s (record { each = behind_item bundle item first (items.Const d) is h.each; scopes = h.scopes; codes = h.codes; met = h.met }) e
among bundle item first (items.GlobalCell d ∷ is) k s h e = among bundle (suc item) first is k s (record { each = behind_item bundle item first (items.GlobalCell d) is h.each; scopes = h.scopes; codes = h.codes; met = h.met }) e
among bundle item first (items.Funcdecl d ∷ is) k s h e = among bundle (suc item) first is k s (record { each = behind_item bundle item first (items.Funcdecl d) is h.each; scopes = h.scopes; codes = h.codes; met = h.met }) e
among bundle item first (items.Funcdef d ∷ is) k s h e = elim (get_both (scopes_in bundle d first) (scopes_from bundle (first + length d.blocks) is) k s e) [
  | inl here ↦
      let found = of_map (scope_of bundle d first) d.blocks k s here in
      record { definition = d; first = first; block = found.0; same = sym found.2; stands = in_function bundle item first d is k found.0 h found.1 }
  | inr later ↦
      let n : (first + length d.blocks) + later.0 ≡ first + k = omega (arith, later.1, map_length (scope_of bundle d first) d.blocks) in
      subst (λ (m : ℕ). BlockAt bundle m s) n (among bundle (suc item) (first + length d.blocks) is later.0 s (behind_function bundle item first d is h) later.2)
]

pub block_at : (bundle : List Item) → first_unmet (check_demands bundle) ≡ None → (n : ℕ) (s : Scope) → slice_get (scopes_of bundle) n ≡ Some s → BlockAt bundle n s
unfolding check_demands
block_at bundle checked n s e =
    let same : (j : ℕ) → 0 + j ≡ j = λ j. omega arith in
    subst (λ (m : ℕ). BlockAt bundle m s) (same n) (among bundle 0 0 bundle n s (record {
      each = λ j. ap (λ (m : ℕ). slice_get bundle m) (same j);
      scopes = λ j. ap (λ (m : ℕ). slice_get (scopes_of bundle) m) (same j);
      codes = λ j. ap (λ (m : ℕ). slice_get (bundle_blocks bundle) m) (same j);
      met = (all_met (check_demands bundle) checked).1;
    }) e)

-- ---- the block that a number of the function stands for

pub record Other (bundle : List Item) (d : Funcdef) (first m : ℕ) (e : BlockEntry) : Type 0 where
  pub block : Block
  pub at : ℕ
  pub there : slice_get d.blocks at ≡ Some block
  pub number : m ≡ first + at
  pub entry : e ≡ entry_of (bundle_tables bundle) m block

number_found : (p : Tables) (m : ℕ) (e : BlockEntry) (k : ℕ) (bs : List Block) → blocks_from p k bs m ≡ Some e →
    (b : Block) × (at : ℕ) × (slice_get bs at ≡ Some b) × (m ≡ k + at) × (e ≡ entry_of p m b)
number_found p m e k [] h = cc
number_found p m e k (b ∷ bs) h = by (nat_eq m k) refl h (number_found p m e (suc k) bs)
  where
    by : (t : Bool) → nat_eq m k ≡ t → (if t then Some (entry_of p k b) else blocks_from p (suc k) bs m) ≡ Some e →
        (blocks_from p (suc k) bs m ≡ Some e → (c : Block) × (j : ℕ) × (slice_get bs j ≡ Some c) × (m ≡ suc k + j) × (e ≡ entry_of p m c)) →
        (c : Block) × (j : ℕ) × (slice_get (b ∷ bs) j ≡ Some c) × (m ≡ k + j) × (e ≡ entry_of p m c)
    by true same there more =
        let n : m ≡ k = nat_eq_is m k same in
        (b, 0, refl, omega (arith, n), sym (some_is (entry_of p k b) e there) ∙ ap (λ (j : ℕ). entry_of p j b) (sym n))
    by false other there more = let r = more there in (r.0, suc r.1, r.2, omega (arith, r.3), r.4)

pub other_block : (bundle : List Item) (d : Funcdef) (first m : ℕ) (e : BlockEntry) → blocks_from (bundle_tables bundle) first d.blocks m ≡ Some e → Other bundle d first m e
other_block bundle d first m e h =
    let r = number_found (bundle_tables bundle) m e first d.blocks h in record { block = r.0; at = r.1; there = r.2; number = r.3; entry = r.4 }

-- ---- a block with its scope

pub record Standing (bundle : List Item) (n : ℕ) : Type 0 where
  pub definition : Funcdef
  pub first : ℕ
  pub block : Block
  pub stands : StandsAt bundle n definition first block
  pub scope : slice_get (scopes_of bundle) n ≡ Some (scope_of bundle definition first block)

pub standing : (bundle : List Item) → first_unmet (check_demands bundle) ≡ None → (n : ℕ) (s : Scope) → slice_get (scopes_of bundle) n ≡ Some s → Standing bundle n
standing bundle checked n s e =
    let k = block_at bundle checked n s e in
    record { definition = k.definition; first = k.first; block = k.block; stands = k.stands; scope = e ∙ ap (λ x. Some x) (sym k.same) }

-- another block of the function
pub other_standing : (bundle : List Item) → first_unmet (check_demands bundle) ≡ None → (n : ℕ) (here : Standing bundle n) (m : ℕ) (e : BlockEntry) →
    (o : Other bundle here.definition here.first m e) → slice_get (scopes_of bundle) m ≡ Some (scope_of bundle here.definition here.first o.block)
other_standing bundle checked n here m e o = ap (λ (k : ℕ). slice_get (scopes_of bundle) k) o.number ∙ here.stands.others o.at o.block o.there
