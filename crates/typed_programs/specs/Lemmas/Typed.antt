-- An accepted bundle is a well-typed program.
use Rattle.std.proofs.Common.{◌≡◌, ◌||◌, nat_lt, ℕ, Bool, true, false, not, List, ◌++◌, Option, Some, None, IsSomeAnd, length, take, slice_get, is_some, if◌then◌else◌, refl, sym, ◌∙◌, ap, subst}
use Rattle.demands.specs.Demands.{first_unmet}
use Rattle.ir_tree.specs.declared.code.Block.{Block}
use Rattle.ir_tree.specs.declared.items.Funcdef.{Funcdef}
use Rattle.ir_tree.specs.declared.items.Item.{Item}
use Rattle.ir_tree.specs.declared.items.Item.TheVariants as items
use Rattle.bundle_names.specs.Naming.{name_demands}
use Rattle.checked_code.specs.declared.blocks.BlockCode.{BlockCode}
use Rattle.checked_code.specs.declared.blocks.Function.{Function}
use Rattle.checked_code.specs.Blocks.{block_code}
use Rattle.checked_code.specs.Functions.{body_of}
use Rattle.checked_code.specs.Checking.{bundle_tables, bundle_blocks, bundle_functions, check_demands}
use Rattle.bundle_laws.specs.Accepted.{head_classes, CodeOf}
use Rattle.bundle_laws.specs.Lemmas.Bodies.{some_is as some_same}
use Rattle.bundle_laws.specs.Lemmas.Numbered.{code_fits}
use Rattle.checked_code.specs.declared.code.Code.{Code}
use Rattle.checked_code.specs.Instructions.{is_ending, normal_of}
use Rattle.bundle_laws.specs.Typed.{joined, form_ends}
use Rattle.bundle_laws.specs.TypedLaws.{all_gives}
use Rattle.typed_heap.specs.Fits.{World}
use Rattle.typed_heap.specs.Places.{with_some}
use Rattle.frames.specs.Activations.{Value}
use Rattle.mu_model.specs.Types.{type_graph, classes_taken, classes_given}
use Rattle.mu_model.specs.Operands.{Scope}
use Rattle.mu_model.specs.Programs.{scopes_of, named}
use Rattle.model_laws.specs.Values.{ValuesFit, HasGlobals}
use Rattle.model_laws.specs.Places.{OnwardFits}
use Rattle.model_laws.specs.Programs.{DoingFits, IsTyped}
use Rattle.model_numbers.specs.Numbered.{numbered, does_at, optional_goal_at}
use Rattle.model_numbers.specs.Lemmas.Places.{has_handler_same}
use Rattle.model_numbers.specs.Lemmas.Whole.{programs_same}
use Rattle.bundle_facts.specs.Facts.{HaveBlocks, IsFirstBlock}
use Rattle.bundle_facts.specs.Lemmas.Accepted as facts
use Rattle.typed_programs.specs.PlacesOf.{classes_before, may_go_on, places_of}
use Rattle.typed_programs.specs.Lemmas.Blocks.{Standing, standing}
use Rattle.typed_programs.specs.Lemmas.Calling.{is_function}
use Rattle.typed_programs.specs.Lemmas.Sources.{Moment, kept_fit}
use Rattle.typed_programs.specs.Lemmas.Computing.{known_then}
use Rattle.typed_programs.specs.Lemmas.Goals.{begins, exceptional_fits, onward_fits, results_are}
use Rattle.typed_programs.specs.Lemmas.Doing.{act_fits, may, PlaceFits, place_fits}

-- ---- a place that is there

record There (bundle : List Item) (block at : ℕ) (ks : List ℕ) : Type 0 where
  here : Standing bundle block
  low : nat_lt at (length here.block.insts) ≡ true
  same : head_classes (bundle_tables bundle) here.block.head ++ joined (take at (all_gives (bundle_tables bundle) here.block.insts)) ≡ ks

there_is : (bundle : List Item) → first_unmet (check_demands bundle) ≡ None → (block at : ℕ) (ks : List ℕ) → (places_of bundle).before block at ≡ Some ks → There bundle block at ks
there_is bundle checked block at ks e = here_is (scope_there (slice_get (scopes_of bundle) block) refl e)
  where
    scope_there : (o : Option Scope) → slice_get (scopes_of bundle) block ≡ o → with_some {B = List ℕ} o (λ s. classes_before s at) ≡ Some ks → Standing bundle block
    scope_there None f h = cc
    scope_there (Some s) f h = standing bundle checked block s f

    if_below : (here : Standing bundle block) (b : Bool) → nat_lt at (length here.block.insts) ≡ b →
        (if b then Some (head_classes (bundle_tables bundle) here.block.head ++ joined (take at (all_gives (bundle_tables bundle) here.block.insts))) else None) ≡ Some ks → There bundle block at ks
    if_below here true low h = record { here = here; low = low; same = some_same (head_classes (bundle_tables bundle) here.block.head ++ joined (take at (all_gives (bundle_tables bundle) here.block.insts))) ks h }
    if_below here false low h = cc

    here_is : Standing bundle block → There bundle block at ks
    here_is here = if_below here (nat_lt at (length here.block.insts)) refl (sym (ap (λ (o : Option Scope). with_some {B = List ℕ} o (λ s. classes_before s at)) here.scope) ∙ e)

-- ---- its instruction

given_at : (b : Bool) (given : List ℕ) (o : Option (List ℕ)) → o ≡ (if b then Some given else None) → b ≡ true → o ≡ Some given
given_at b given o e f = e ∙ ap (λ (t : Bool). if t then Some given else None) f

may_be : (ends normal told ending : Bool) → (ends || normal) ≡ ending → normal ≡ told → (not ends || normal) ≡ true → (told || not ending) ≡ true
may_be ends normal told ending e f h = subst (λ b. (b || not ending) ≡ true) f (subst (λ b. (normal || not b) ≡ true) e (may ends normal h))

module _ (bundle : List Item) (names : first_unmet (name_demands bundle) ≡ None) (checked : first_unmet (check_demands bundle) ≡ None) where
  does : (w : World) (block at : ℕ) (ks : List ℕ) (vs : List Value) → HasGlobals (bundle_tables bundle) w → (here : Standing bundle block) → PlaceFits bundle block at here ks →
      ValuesFit (type_graph (bundle_tables bundle)) w ks vs → IsSomeAnd ((numbered bundle).doing block at vs) (DoingFits (numbered bundle) (places_of bundle) w block at)
  does w block at ks vs globals here p fit =
      let r : Moment bundle = record { names = names; checked = checked; world = w; globals = globals; classes = ks; values = vs; fit = fit } in
      let c : BlockCode = block_code (bundle_tables bundle) (body_of (bundle_tables bundle) here.first here.definition) here.stands.item here.stands.at here.block in
      known_then (slice_get (bundle_blocks bundle) block) c _ _ p.coded
      (known_then (slice_get c.code at) p.code (λ (i : Code). Some (does_at bundle c.classes vs i)) _ p.there
      (record {
        act = act_fits bundle r block at here c.classes p.code.form p.given (is_some p.code.normal) (is_some p.code.exceptional) p.kinds p.fits.form p.fits.told
            (λ h. given_at (may_go_on p.inst.op) p.given ((places_of bundle).gives block at) p.gives_these
            (may_be (form_ends p.code.form) (is_some p.code.normal) (is_some (normal_of p.inst.op)) (is_ending p.inst.op) p.ends p.normal h));
        exceptional = exceptional_fits bundle r block here p.code.exceptional p.fits.exceptional;
        kept = kept_fit bundle r c.classes p.code.keepalive p.kinds p.fits.keepalive;
      }))

  -- where it gives results it may go on, and these are the results
  gives_what : (b : Bool) (given gs : List ℕ) (o : Option (List ℕ)) → o ≡ (if b then Some given else None) → o ≡ Some gs → (b ≡ true) × (given ≡ gs)
  gives_what true given gs o e f = (refl, some_same given gs (sym e ∙ f))
  gives_what false given gs o e f = let z : None ≡ Some gs = sym e ∙ f in cc

  stays : (ends normal told ending : Bool) → (ends || normal) ≡ ending → normal ≡ told → (told || not ending) ≡ true → normal ≡ false → (ends || normal) ≡ false
  stays true true told ending e f h none = cc
  stays true false told ending e f h none = let z : (false || not true) ≡ true = subst (λ b. (b || not true) ≡ true) (sym f) (subst (λ b. (told || not b) ≡ true) (sym e) h) in cc
  stays false true told ending e f h none = cc
  stays false false told ending e f h none = refl

  goes : (w : World) (block at : ℕ) (ks gs : List ℕ) (vs : List Value) → HasGlobals (bundle_tables bundle) w → (here : Standing bundle block) → PlaceFits bundle block at here ks →
      (places_of bundle).gives block at ≡ Some gs → ValuesFit (type_graph (bundle_tables bundle)) w (ks ++ gs) vs →
      IsSomeAnd ((numbered bundle).going_on block at vs) (OnwardFits (numbered bundle) (places_of bundle) w block at (ks ++ gs))
  goes w block at ks gs vs globals here p e fit =
      let what = gives_what (may_go_on p.inst.op) p.given gs ((places_of bundle).gives block at) p.gives_these e in
      subst (λ (hs : List ℕ). IsSomeAnd ((numbered bundle).going_on block at vs) (OnwardFits (numbered bundle) (places_of bundle) w block at (ks ++ hs))) what.1
      (let r : Moment bundle = record {
        names = names;
        checked = checked;
        world = w;
        globals = globals;
        classes = ks ++ p.given;
        values = vs;
        fit = subst (λ (hs : List ℕ). ValuesFit (type_graph (bundle_tables bundle)) w (ks ++ hs) vs) (sym what.1) fit;
      } in
      let c : BlockCode = block_code (bundle_tables bundle) (body_of (bundle_tables bundle) here.first here.definition) here.stands.item here.stands.at here.block in
      known_then (slice_get (bundle_blocks bundle) block) c _ _ p.coded
      (known_then (slice_get c.code at) p.code (λ (i : Code). optional_goal_at bundle vs i.normal) _ p.there
      (onward_fits bundle r block here at p.code.normal p.fits.normal (λ none.
      p.next (stays (form_ends p.code.form) (is_some p.code.normal) (is_some (normal_of p.inst.op)) (is_ending p.inst.op) p.ends p.normal what.0 none)))))

  -- ---- first blocks

  block_there : (b : ℕ) (c : BlockCode) → slice_get (bundle_blocks bundle) b ≡ Some c → Standing bundle b
  block_there b c e = by (slice_get (scopes_of bundle) b) refl (has_handler_same bundle names checked b ∙ ap (λ (o : Option BlockCode). with_some {B = Bool} o (λ k. Some (is_some k.handler))) e)
    where
      by : (o : Option Scope) → slice_get (scopes_of bundle) b ≡ o → with_some {B = Bool} o (λ s. Some (is_some s.block.head.handler)) ≡ Some (is_some c.handler) → Standing bundle b
      by None f h = cc
      by (Some s) f h = standing bundle checked b s f

  -- a block by its code and by its scope are one
  record Agree (d : Funcdef) (b : Block) (here_definition : Funcdef) (here_block : Block) : Type 0 where
    definition : d ≡ here_definition
    block : b ≡ here_block

  agree : (n : ℕ) (c : BlockCode) (here : Standing bundle n) → slice_get (bundle_blocks bundle) n ≡ Some c → (of : CodeOf (bundle_tables bundle) bundle (bundle_blocks bundle) n c) →
      Agree of.definition of.block here.definition here.block
  agree n c here e of =
      let same : c ≡ block_code (bundle_tables bundle) (body_of (bundle_tables bundle) here.first here.definition) here.stands.item here.stands.at here.block = some_same c _ (sym e ∙ here.stands.code) in
      let item : c.item ≡ here.stands.item = ap (λ (k : BlockCode). k.item) same in
      let at : c.at ≡ here.stands.at = ap (λ (k : BlockCode). k.at) same in
      let definition : of.definition ≡ here.definition = function_same of.definition here.definition (sym of.item ∙ ap (λ (k : ℕ). slice_get bundle k) item ∙ here.stands.definition) in
      record {
        definition = definition;
        block = some_same of.block here.block (sym of.there ∙ ap (λ (d : Funcdef). slice_get d.blocks c.at) definition ∙ ap (λ (k : ℕ). slice_get here.definition.blocks k) at ∙ here.stands.there);
      }
    where
      function_same : (d e : Funcdef) → Some (items.Funcdef d) ≡ Some (items.Funcdef e) → d ≡ e
      function_same d e h = cc

  given_by : (d : Funcdef) (first second : ℕ) → (body_of (bundle_tables bundle) first d).gives ≡ (body_of (bundle_tables bundle) second d).gives
  unfolding body_of
  given_by d first second = refl

  first_fits : (f b : ℕ) → IsFirstBlock bundle f b → ((places_of bundle).before b 0 ≡ Some (classes_taken (bundle_tables bundle) f)) × ((places_of bundle).results b ≡ classes_given (bundle_tables bundle) f)
  first_fits f b h =
      let here : Standing bundle b = block_there b h.code h.there in
      let of : CodeOf (bundle_tables bundle) bundle (bundle_blocks bundle) b h.code = code_fits bundle names checked b h.code h.there in
      let one = agree b h.code here h.there of in (
        begins bundle checked b _ here.scope ∙ ap (λ (k : Block). Some (head_classes (bundle_tables bundle) k.head)) (sym one.block) ∙ ap (λ (cs : List ℕ). Some cs) (h.takes of),
        results_are bundle b here ∙ ap (λ (d : Funcdef). (body_of (bundle_tables bundle) here.first d).gives) (sym one.definition) ∙ given_by of.definition here.first of.first ∙ h.gives of,
      )

  body_fits : HaveBlocks bundle → (f b : ℕ) → (numbered bundle).body f ≡ Some (Some b) →
      ((places_of bundle).before b 0 ≡ Some (classes_taken (bundle_tables bundle) f)) × ((places_of bundle).results b ≡ classes_given (bundle_tables bundle) f)
  body_fits have f b e = by (slice_get (bundle_functions bundle) f) refl e
    where
      by : (o : Option Function) → slice_get (bundle_functions bundle) f ≡ o → with_some {B = Option ℕ} o (λ k. Some k.first) ≡ Some (Some b) →
          ((places_of bundle).before b 0 ≡ Some (classes_taken (bundle_tables bundle) f)) × ((places_of bundle).results b ≡ classes_given (bundle_tables bundle) f)
      by None there h = cc
      by (Some k) there h = first_fits f b (facts.first_blocks_fit bundle names checked have f b k there (some_same k.first (Some b) h))

  pub numbered_is_typed : HaveBlocks bundle → IsTyped (numbered bundle) (places_of bundle)
  numbered_is_typed have = record {
    types = facts.types_are_there bundle names checked;
    zeros = facts.zeros_fit bundle names checked;
    doing = λ w block at ks vs globals e fit.
        let p = there_is bundle checked block at ks e in
        does w block at ks vs globals p.here (subst (PlaceFits bundle block at p.here) p.same (place_fits bundle names checked block at p.here p.low)) fit;
    going_on = λ w block at ks gs vs globals e given fit.
        let p = there_is bundle checked block at ks e in
        goes w block at ks gs vs globals p.here (subst (PlaceFits bundle block at p.here) p.same (place_fits bundle names checked block at p.here p.low)) given fit;
    functions = is_function bundle names checked;
    body = body_fits have;
  }

  pub named_is_typed : HaveBlocks bundle → IsTyped (named bundle) (places_of bundle)
  named_is_typed have = subst (λ p. IsTyped p (places_of bundle)) (sym (programs_same bundle names checked)) (numbered_is_typed have)
