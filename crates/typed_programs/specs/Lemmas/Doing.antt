-- Each instruction of an accepted bundle does what fits its place, and goes on where it fits.
use Rattle.std.proofs.Common.{◌≡◌, ◌<◌, ◌+◌, ◌||◌, nat_lt, ℕ, zero, suc, Bool, true, false, not, List, [], ◌∷◌, ◌++◌, Option, Some, None, length, take, drop, slice_get, is_some, if◌then◌else◌, refl, sym, ◌∙◌, ap, subst, append_assoc, append-nil, arith}
use Rattle.std.proofs.lemmas.Bool.Decides.{nat_tests}
use Rattle.demands.specs.Demands.{first_unmet}
use Rattle.ir_tree.specs.declared.operands.Destination.{Destination}
use Rattle.ir_tree.specs.declared.code.Inst.{Inst}
use Rattle.ir_tree.specs.declared.items.Item.{Item}
use Rattle.bundle_names.specs.Naming.{name_demands}
use Rattle.check_tables.specs.declared.tables.Tables.{Tables}
use Rattle.checked_code.specs.Blocks.{head_locals, block_code}
use Rattle.checked_code.specs.Functions.{body_of}
use Rattle.checked_code.specs.Checking.{bundle_tables, bundle_blocks, check_demands}
use Rattle.bundle_laws.specs.Accepted.{blocks_from, head_classes}
use Rattle.bundle_laws.specs.Lemmas.Heads.{head_fits, head_has}
use Rattle.bundle_laws.specs.Lemmas.Bodies.{some_is as some_same, body_fits}
use Rattle.checked_code.specs.declared.code.Form.{Form}
use Rattle.checked_code.specs.declared.code.Form.TheVariants as forms
use Rattle.checked_code.specs.declared.code.ComputationForm.{ComputationForm}
use Rattle.checked_code.specs.declared.code.ComputationForm.TheVariants as computing
use Rattle.checked_code.specs.declared.code.Code.{Code}
use Rattle.checked_code.specs.declared.scopes.Locals.{Locals}
use Rattle.checked_code.specs.declared.scopes.Body.{Body}
use Rattle.checked_code.specs.Destinations.{optional_target}
use Rattle.checked_code.specs.Instructions.{gives, normal_of, is_ending, inst_code, insts_code, after}
use Rattle.bundle_laws.specs.Typed.{Blocks, ComputationFits, FormFits, CodeFits, CodesFit, CodeAt, exits, form_ends, code_ends, joined}
use Rattle.bundle_laws.specs.TypedLaws.{all_gives}
use Rattle.bundle_laws.specs.Lemmas.TypedVariables.{get_more}
use Rattle.bundle_laws.specs.Lemmas.TypedInstructions.{insts_fit, all_classes}
use Rattle.bundle_laws.specs.Lemmas.TypedEndings.{ends_same, ends_at_last, goes_on, code_at}
use Rattle.typed_heap.specs.Places.{with_some}
use Rattle.mu_model.specs.Operands.{Scope}
use Rattle.model_numbers.specs.Forms.{computation_at, act_at}
use Rattle.bundle_laws.specs.Lemmas.Tables.{tables_fit}
use Rattle.typed_programs.specs.PlacesOf.{classes_before, may_go_on, result_classes, places_of}
use Rattle.typed_programs.specs.Lemmas.Blocks.{Standing}
use Rattle.typed_programs.specs.Lemmas.Sources.{Moment}
use Rattle.typed_programs.specs.Lemmas.Computing.{DoesFit, GivesAt, binary_fits, compare_fits, convert_fits, select_fits}
use Rattle.typed_programs.specs.Lemmas.Goals.{near}
use Rattle.typed_programs.specs.Lemmas.Going.{returns, control_fits}
use Rattle.typed_programs.specs.Lemmas.Making.{allocation_fits, addressing_fits, refcast_fits}
use Rattle.typed_programs.specs.Lemmas.Memory.{access_fits}
use Rattle.typed_programs.specs.Lemmas.Stacks.{trapping_fits, switch_fits, common_fits}
use Rattle.typed_programs.specs.Lemmas.Structs.{extractvalue_fits, insertvalue_fits}

-- ---- forms

module _ (bundle : List Item) (r : Moment bundle) (block at : ℕ) (here : Standing bundle block) where
  computation_does : (f : ComputationForm) (gs : List ℕ) → ComputationFits (bundle_tables bundle) r.classes f gs → GivesAt bundle block at gs → DoesFit bundle r.world block at (computation_at bundle r.values f)
  computation_does (computing.Binary op c a b) gs h gives = binary_fits bundle r block at op c a b gs h gives
  computation_does (computing.Compare op c a b) gs h gives = compare_fits bundle r block at op c a b gs h gives
  computation_does (computing.Convert op c d a) gs h gives = convert_fits bundle r block at op c d a gs h gives
  computation_does (computing.Refcast c d a) gs h gives = refcast_fits bundle r block at c d a gs h gives
  computation_does (computing.Select c s a b) gs h gives = select_fits bundle r block at c s a b gs h gives
  computation_does (computing.Extractvalue c n a) gs h gives = extractvalue_fits bundle r block at c n a gs h gives
  computation_does (computing.Insertvalue c n a b) gs h gives = insertvalue_fits bundle r block at c n a b gs h gives

  pub act_fits : (kinds : List ℕ) (f : Form) (gs : List ℕ) (normal exceptional : Bool) → ((n c : ℕ) → slice_get r.classes n ≡ Some c → slice_get kinds n ≡ Some c) →
      FormFits (bundle_tables bundle) (near bundle r block here) (returns bundle r block at here) r.classes f gs → exits f normal exceptional ≡ true →
      ((not (form_ends f) || normal) ≡ true → GivesAt bundle block at gs) → DoesFit bundle r.world block at (act_at bundle kinds r.values f)
  act_fits kinds (forms.Computation f) gs normal exceptional more h told gives = computation_does f gs h (gives refl)
  act_fits kinds (forms.Control f) gs normal exceptional more h told gives = control_fits bundle r block at here kinds f gs more h (λ e. gives (ap (λ b. not b || normal) e))
  act_fits kinds (forms.Allocation f) gs normal exceptional more h told gives = allocation_fits bundle r block at f gs h (gives refl)
  act_fits kinds (forms.Addressing f) gs normal exceptional more h told gives = addressing_fits bundle r block at f gs h (gives refl)
  act_fits kinds (forms.Access f) gs normal exceptional more h told gives = access_fits bundle r block at f gs h (gives refl)
  act_fits kinds (forms.Trapping f) gs normal exceptional more h told gives = trapping_fits bundle r block at here f gs normal exceptional h told gives
  act_fits kinds (forms.Switch f) gs normal exceptional more h told gives = switch_fits bundle r block at here f gs h (λ e. gives (ap (λ b. not b || normal) e))
  act_fits kinds (forms.Common f) gs normal exceptional more h told gives = common_fits bundle r block at here f gs h (λ e. gives (ap (λ b. not b || normal) e))

-- ---- places

-- the instruction at a place, its code, and what it gives
record PlaceIs (p : Tables) (f : Body) (ls : Locals) (is : List Inst) (at : ℕ) : Type 0 where
  inst : Inst
  locals : Locals
  there : slice_get is at ≡ Some inst
  code : slice_get (insts_code p f ls is) at ≡ Some (inst_code p f locals inst)
  given : slice_get (all_gives p is) at ≡ Some (gives p inst.op)

place_is : (p : Tables) (f : Body) (ls : Locals) (is : List Inst) (at : ℕ) → at < length is → PlaceIs p f ls is at
place_is p f ls [] at low = absurd (omega arith)
place_is p f ls (i ∷ is) zero low = record { inst = i; locals = ls; there = refl; code = refl; given = refl }
place_is p f ls (i ∷ is) (suc at) low =
    let rest = place_is p f (after p ls i) is at (omega arith) in
    record { inst = rest.inst; locals = rest.locals; there = rest.there; code = rest.code; given = rest.given }

codes_many : (p : Tables) (f : Body) (ls : Locals) (is : List Inst) → length (insts_code p f ls is) ≡ length is
codes_many p f ls [] = refl
codes_many p f ls (i ∷ is) = ap (λ (n : ℕ). suc n) (codes_many p f (after p ls i) is)

joined_split : (at : ℕ) (gss : List (List ℕ)) → joined gss ≡ joined (take at gss) ++ joined (drop at gss)
joined_split zero gss = refl
joined_split (suc at) [] = refl
joined_split (suc at) (gs ∷ gss) = ap (λ (cs : List ℕ). gs ++ cs) (joined_split at gss) ∙ sym (append_assoc gs (joined (take at gss)) (joined (drop at gss)))

joined_next : (at : ℕ) (gss : List (List ℕ)) (gs : List ℕ) → slice_get gss at ≡ Some gs → joined (take (suc at) gss) ≡ joined (take at gss) ++ gs
joined_next at [] gs e = cc
joined_next zero (x ∷ gss) gs e = append-nil x ∙ some_same x gs e
joined_next (suc at) (x ∷ gss) gs e = ap (λ (cs : List ℕ). x ++ cs) (joined_next at gss gs e) ∙ sym (append_assoc x (joined (take at gss)) gs)

target_there : (p : Tables) (f : Body) (ls : Locals) (o : Option Destination) → is_some (optional_target p f ls o) ≡ is_some o
target_there p f ls None = refl
target_there p f ls (Some d) = refl

pub may : (ends normal : Bool) → (not ends || normal) ≡ true → (normal || not (ends || normal)) ≡ true
may true true h = refl
may true false h = cc
may false true h = refl
may false false h = refl

one_there : {A : Type 0} (o : Option A) (a b : A) → o ≡ Some a → o ≡ Some b → a ≡ b
one_there o a b e f = cc

-- the instruction at a place fits with what is given there
fits_given : (p : Tables) (blocks : Blocks) (returns ks : List ℕ) (gss : List (List ℕ)) (at : ℕ) (code : Code) (gs : List ℕ) → CodeAt p blocks returns ks gss at code → slice_get gss at ≡ Some gs →
    CodeFits p blocks returns (ks ++ joined (take at gss)) code gs
fits_given p blocks returns ks gss at code gs c e =
    subst (λ (hs : List ℕ). CodeFits p blocks returns (ks ++ joined (take at gss)) code hs) (one_there (slice_get gss at) c.given gs c.there e) c.fits

next_below : (at m n : ℕ) → at + 1 < m → m ≡ n → nat_lt (suc at) n ≡ true
next_below at m n h e = grind (arith, nat_tests)

-- ---- a place of an accepted bundle

-- the classes of the variables before an instruction, of those of its block; its code fits them
pub record PlaceFits (bundle : List Item) (block at : ℕ) (here : Standing bundle block) (ks : List ℕ) : Type 0 where
  pub inst : Inst
  pub code : Code
  pub coded : slice_get (bundle_blocks bundle) block ≡ Some (block_code (bundle_tables bundle) (body_of (bundle_tables bundle) here.first here.definition) here.stands.item here.stands.at here.block)
  pub there : slice_get (insts_code (bundle_tables bundle) (body_of (bundle_tables bundle) here.first here.definition) (head_locals (bundle_tables bundle) here.block.head) here.block.insts) at ≡ Some code
  pub given : List ℕ
  pub gives_these : (places_of bundle).gives block at ≡ (if may_go_on inst.op then Some given else None)
  pub fits : CodeFits (bundle_tables bundle) (blocks_from (bundle_tables bundle) here.first here.definition.blocks) (body_of (bundle_tables bundle) here.first here.definition).gives ks code given
  pub ends : (form_ends code.form || is_some code.normal) ≡ is_ending inst.op
  pub normal : is_some code.normal ≡ is_some (normal_of inst.op)
  pub kinds : (n c : ℕ) → slice_get ks n ≡ Some c →
      slice_get (block_code (bundle_tables bundle) (body_of (bundle_tables bundle) here.first here.definition) here.stands.item here.stands.at here.block).classes n ≡ Some c
  pub next : code_ends code ≡ false → (places_of bundle).before block (suc at) ≡ Some (ks ++ given)

pub place_fits : (bundle : List Item) → first_unmet (name_demands bundle) ≡ None → first_unmet (check_demands bundle) ≡ None → (block at : ℕ) (here : Standing bundle block) →
    nat_lt at (length here.block.insts) ≡ true →
    PlaceFits bundle block at here (head_classes (bundle_tables bundle) here.block.head ++ joined (take at (all_gives (bundle_tables bundle) here.block.insts)))
place_fits bundle names checked block at here low =
    let p : Tables = bundle_tables bundle in
    let f : Body = body_of p here.first here.definition in
    let ls : Locals = head_locals p here.block.head in
    let is : List Inst = here.block.insts in
    let head : List ℕ = head_classes p here.block.head in
    let gss : List (List ℕ) = all_gives p is in
    let below : at < length is = grind (arith, nat_tests) in
    let x : PlaceIs p f ls is at = place_is p f ls is at below in
    let code : Code = inst_code p f x.locals x.inst in
    let codes : CodesFit p (blocks_from p here.first here.definition.blocks) f.gives head (insts_code p f ls is) gss =
    subst (λ (ks : List ℕ). CodesFit p (blocks_from p here.first here.definition.blocks) f.gives ks (insts_code p f ls is) gss) (head_has p here.block.head)
    (insts_fit p (blocks_from p here.first here.definition.blocks) f ls false is (tables_fit bundle names checked) (body_fits p here.first here.definition) (head_fits p here.block.head) here.stands.met.1.0) in
    let c : CodeAt p (blocks_from p here.first here.definition.blocks) f.gives head gss at code = code_at p (blocks_from p here.first here.definition.blocks) f.gives head (insts_code p f ls is) gss at code codes x.code in
    record {
      inst = x.inst;
      code = code;
      coded = here.stands.code;
      there = x.code;
      given = gives p x.inst.op;
      gives_these =
          ap (λ (o : Option Scope). with_some {B = List ℕ} o (λ s. with_some {B = List ℕ} (slice_get s.block.insts at) (result_classes s))) here.scope
          ∙ ap (λ (o : Option Inst). with_some {B = List ℕ} o (λ i. if may_go_on i.op then Some (gives p i.op) else None)) x.there;
      fits = fits_given p (blocks_from p here.first here.definition.blocks) f.gives head gss at code (gives p x.inst.op) c x.given;
      ends = ends_same p f x.locals x.inst;
      normal = target_there p f (after p x.locals x.inst) (normal_of x.inst.op);
      kinds = λ n k e.
          let whole : head ++ joined gss ≡ (head ++ joined (take at gss)) ++ joined (drop at gss) =
          ap (λ (cs : List ℕ). head ++ cs) (joined_split at gss) ∙ sym (append_assoc head (joined (take at gss)) (joined (drop at gss))) in
          ap (λ (cs : List ℕ). slice_get cs n) (all_classes p f ls false is here.stands.met.1.0 ∙ ap (λ (cs : List ℕ). cs ++ joined gss) (head_has p here.block.head) ∙ whole)
          ∙ get_more (head ++ joined (take at gss)) (joined (drop at gss)) n k e;
      next = λ stays.
          let more : at + 1 < length (insts_code p f ls is) = goes_on (insts_code p f ls is) at code (ends_at_last p f ls false is here.stands.met.1.0 here.stands.met.1.1) x.code stays in
          let further : nat_lt (suc at) (length is) ≡ true = next_below at (length (insts_code p f ls is)) (length is) more (codes_many p f ls is) in
          ap (λ (o : Option Scope). with_some {B = List ℕ} o (λ s. classes_before s (suc at))) here.scope
          ∙ ap (λ (t : Bool). if t then Some (head ++ joined (take (suc at) gss)) else None) further
          ∙ ap (λ (cs : List ℕ). Some (head ++ cs)) (joined_next at gss (gives p x.inst.op) x.given)
          ∙ ap (λ (cs : List ℕ). Some cs) (sym (append_assoc head (joined (take at gss)) (gives p x.inst.op)));
    }
