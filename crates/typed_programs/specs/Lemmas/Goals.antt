-- The blocks to which well typed code goes: destinations have goals that fit.
use Rattle.std.proofs.Common.{◌≡◌, nat_lt, ℕ, suc, Bool, true, false, List, [], ◌∷◌, ◌++◌, Option, Some, None, IsSomeAnd, length, slice_get, is_some, if◌then◌else◌, refl, sym, ◌∙◌, ap, subst, append-nil, arith}
use Rattle.std.proofs.lemmas.Bool.Decides.{nat_tests}
use Rattle.demands.specs.Demands.{first_unmet}
use Rattle.ir_lex.specs.declared.name.Name.{Name}
use Rattle.ir_tree.specs.declared.code.Inst.{Inst}
use Rattle.ir_tree.specs.declared.code.Block.{Block}
use Rattle.ir_tree.specs.declared.items.Funcdef.{Funcdef}
use Rattle.ir_tree.specs.declared.items.Item.{Item}
use Rattle.bundle_names.specs.Naming.{name_demands}
use Rattle.check_tables.specs.declared.tables.Tables.{Tables}
use Rattle.checked_code.specs.Checking.{bundle_tables, check_demands}
use Rattle.checked_code.specs.Blocks.{parameter_classes}
use Rattle.checked_code.specs.Functions.{body_of}
use Rattle.checked_code.specs.Instructions.{ends}
use Rattle.checked_code.specs.declared.code.Target.{Target}
use Rattle.checked_code.specs.declared.scopes.BlockEntry.{BlockEntry}
use Rattle.bundle_laws.specs.Typed.{Blocks, TargetFits, NormalFits, OptionalTargetFits, OptionalNormalFits}
use Rattle.bundle_laws.specs.Accepted.{blocks_from, head_classes, handler_classes}
use Rattle.mu_model.specs.Operands.{Scope, tables_in}
use Rattle.mu_model.specs.Programs.{scopes_of}
use Rattle.model_laws.specs.Values.{ValuesFit}
use Rattle.model_laws.specs.Places.{GoalFits, CatchFits, HandlerFits, OnwardFits, handler_class}
use Rattle.model_laws.specs.Lemmas.Basics.{and_then}
use Rattle.model_numbers.specs.Sources.{values_at, goal_at}
use Rattle.model_numbers.specs.Numbered.{numbered, optional_goal_at}
use Rattle.model_numbers.specs.Lemmas.Places.{has_handler_same}
use Rattle.typed_heap.specs.Places.{with_some}
use Rattle.typed_programs.specs.PlacesOf.{classes_before, results_in, places_of}
use Rattle.typed_programs.specs.Lemmas.Blocks.{scope_of, block_at, StandsAt, Standing, other_block, other_standing}
use Rattle.typed_programs.specs.Lemmas.Sources.{graph_of, Moment, sources_fit}

-- ---- the head of a block

some_instruction : (is : List Inst) → ends false is ≡ true → nat_lt 0 (length is) ≡ true
some_instruction [] h = cc
some_instruction (i ∷ is) h = grind (arith, nat_tests)

begins_there : (bundle : List Item) (n : ℕ) (d : Funcdef) (first : ℕ) (b : Block) → StandsAt bundle n d first b → slice_get (scopes_of bundle) n ≡ Some (scope_of bundle d first b) →
    (places_of bundle).before n 0 ≡ Some (head_classes (bundle_tables bundle) b.head)
begins_there bundle n d first b stands e =
    ap (λ (o : Option Scope). with_some {B = List ℕ} o (λ s. classes_before s 0)) e
    ∙ ap (λ (t : Bool). if t then Some (head_classes (bundle_tables bundle) b.head ++ []) else None) (some_instruction b.insts stands.met.1.1)
    ∙ ap (λ (cs : List ℕ). Some cs) (append-nil (head_classes (bundle_tables bundle) b.head))

pub begins : (bundle : List Item) → first_unmet (check_demands bundle) ≡ None → (n : ℕ) (s : Scope) → slice_get (scopes_of bundle) n ≡ Some s →
    (places_of bundle).before n 0 ≡ Some (head_classes (tables_in s) s.block.head)
begins bundle checked n s e =
    let k = block_at bundle checked n s e in
    subst (λ (x : Scope). slice_get (scopes_of bundle) n ≡ Some x → (places_of bundle).before n 0 ≡ Some (head_classes (tables_in x) x.block.head)) k.same
    (λ there. begins_there bundle n k.definition k.first k.block k.stands there) e

pub has_handler_at : (bundle : List Item) → first_unmet (name_demands bundle) ≡ None → first_unmet (check_demands bundle) ≡ None → (n : ℕ) (s : Scope) → slice_get (scopes_of bundle) n ≡ Some s →
    (numbered bundle).has_handler n ≡ Some (is_some s.block.head.handler)
has_handler_at bundle names checked n s e =
    sym (has_handler_same bundle names checked n) ∙ ap (λ (o : Option Scope). with_some {B = Bool} o (λ s. Some (is_some s.block.head.handler))) e

-- the results of a block are those of its function
pub results_are : (bundle : List Item) (n : ℕ) (here : Standing bundle n) → (places_of bundle).results n ≡ (body_of (bundle_tables bundle) here.first here.definition).gives
unfolding body_of
results_are bundle n here = ap results_in here.scope

-- ---- destinations

handler_behind : (p : Tables) (o : Option Name) → handler_classes p o ≡ handler_class p (is_some o)
handler_behind p None = refl
handler_behind p (Some n) = refl

no_handler_behind : (p : Tables) (ks : List ℕ) (o : Option Name) → is_some o ≡ false → ks ++ handler_classes p o ≡ ks
no_handler_behind p ks None h = append-nil ks
no_handler_behind p ks (Some n) h = cc

module _ (bundle : List Item) (r : Moment bundle) (block : ℕ) (here : Standing bundle block) where
  -- the blocks of the function by number
  abbrev pub near : Blocks
  near = blocks_from (bundle_tables bundle) here.first here.definition.blocks

  pub catch_fits : (g : Target) → TargetFits (bundle_tables bundle) near r.classes g →
      IsSomeAnd (goal_at bundle r.values g) (CatchFits (numbered bundle) (places_of bundle) r.world block)
  catch_fits g h =
      let o = other_block bundle here.definition here.first g.block h.entry h.there in
      let scope = other_standing bundle r.checked block here g.block h.entry o in
      and_then (values_at bundle r.values g.arguments) _ (ValuesFit (graph_of bundle) r.world h.entry.takes) _ (sources_fit bundle r g.arguments h.entry.takes h.arguments) (λ vs hv.
      record {
        takes = h.entry.takes;
        handler = h.entry.has_handler;
        head = has_handler_at bundle r.names r.checked g.block _ scope ∙ ap (λ (e : BlockEntry). Some e.has_handler) (sym o.entry);
        there =
            begins bundle r.checked g.block _ scope
            ∙ ap (λ (cs : List ℕ). Some cs) (ap (λ (hs : List ℕ). parameter_classes (bundle_tables bundle) o.block.head.parameters ++ hs) (handler_behind (bundle_tables bundle) o.block.head.handler)
            ∙ ap (λ (e : BlockEntry). e.takes ++ handler_class (bundle_tables bundle) e.has_handler) (sym o.entry));
        values = hv;
        results = ap results_in scope ∙ sym (ap results_in here.scope);
      })

  pub goal_fits : (g : Target) → NormalFits (bundle_tables bundle) near r.classes g →
      IsSomeAnd (goal_at bundle r.values g) (GoalFits (numbered bundle) (places_of bundle) r.world block)
  goal_fits g h =
      let o = other_block bundle here.definition here.first g.block h.target.entry h.target.there in
      let scope = other_standing bundle r.checked block here g.block h.target.entry o in
      and_then (values_at bundle r.values g.arguments) _ (ValuesFit (graph_of bundle) r.world h.target.entry.takes) _ (sources_fit bundle r g.arguments h.target.entry.takes h.target.arguments) (λ vs hv.
      record {
        takes = h.target.entry.takes;
        there =
            begins bundle r.checked g.block _ scope
            ∙ ap (λ (cs : List ℕ). Some cs) (no_handler_behind (bundle_tables bundle) (parameter_classes (bundle_tables bundle) o.block.head.parameters) o.block.head.handler (sym (ap (λ (e : BlockEntry). e.has_handler) o.entry) ∙ h.no_handler)
            ∙ ap (λ (e : BlockEntry). e.takes) (sym o.entry));
        values = hv;
        results = ap results_in scope ∙ sym (ap results_in here.scope);
      })

  -- where an exception goes, if it may
  pub exceptional_fits : (o : Option Target) → OptionalTargetFits (bundle_tables bundle) near r.classes o →
      IsSomeAnd (optional_goal_at bundle r.values o) (HandlerFits (numbered bundle) (places_of bundle) r.world block)
  exceptional_fits None h = tt
  exceptional_fits (Some g) h = and_then (goal_at bundle r.values g) _ (CatchFits (numbered bundle) (places_of bundle) r.world block) _ (catch_fits g h) (λ x k. k)

  -- where it goes on with its results: to its destination, or to the next place
  pub onward_fits : (at : ℕ) (o : Option Target) → OptionalNormalFits (bundle_tables bundle) near r.classes o → (is_some o ≡ false → (places_of bundle).before block (suc at) ≡ Some r.classes) →
      IsSomeAnd (optional_goal_at bundle r.values o) (OnwardFits (numbered bundle) (places_of bundle) r.world block at r.classes)
  onward_fits at None h next = next refl
  onward_fits at (Some g) h next = and_then (goal_at bundle r.values g) _ (GoalFits (numbered bundle) (places_of bundle) r.world block) _ (goal_fits g h) (λ x k. k)
