-- Each moment of a run is well typed, so the operands of each thread's instruction have values.
use Rattle.std.proofs.Common.{◌≡◌, ◌<◌, nat_lt, ℕ, Bool, true, false, List, ◌++◌, Option, Some, None, length, take, slice_get, if◌then◌else◌, refl, sym, ◌∙◌, ap, subst, arith}
use Rattle.std.proofs.lemmas.Bool.Decides.{nat_tests}
use Rattle.demands.specs.Demands.{first_unmet}
use Rattle.ir_tree.specs.declared.items.Item.{Item}
use Rattle.bundle_names.specs.Naming.{name_demands}
use Rattle.checked_code.specs.Blocks.{head_locals}
use Rattle.checked_code.specs.Checking.{bundle_tables, check_demands}
use Rattle.bundle_laws.specs.Accepted.{head_classes}
use Rattle.bundle_laws.specs.Lemmas.Bodies.{some_is as some_same}
use Rattle.bundle_laws.specs.Lemmas.Heads.{head_fits, head_has}
use Rattle.bundle_laws.specs.Typed.{joined}
use Rattle.bundle_laws.specs.TypedLaws.{all_gives}
use Rattle.typed_heap.specs.Fits.{World}
use Rattle.typed_heap.specs.Places.{with_some}
use Rattle.frames.specs.Activations.{Activation}
use Rattle.mu_model.specs.Operands.{Scope}
use Rattle.mu_model.specs.Programs.{scopes_of, named}
use Rattle.mu_model.specs.Turns.{turn_of}
use Rattle.model_laws.specs.FramesFit.{Stands}
use Rattle.model_laws.specs.Values.{world, HasGlobals}
use Rattle.model_laws.specs.WellTyped.{WellTyped}
use Rattle.model_laws.specs.Lemmas.Basics.{some_more}
use Rattle.model_laws.specs.Lemmas.Placing.{Placed, has_place}
use Rattle.model_laws.specs.Lemmas.Proved.{first_well}
use Rattle.typed_programs.specs.PlacesOf.{classes_before, places_of}
use Rattle.typed_programs.specs.Lemmas.Blocks.{Standing, scope_of, standing}
use Rattle.typed_programs.specs.Lemmas.Running.{accepted_is_typed}
use Rattle.text_programs.specs.Lemmas.Texts.{read_have_blocks}
use Rattle.text_programs.specs.Lemmas.Entered.{nothing_is_taken}
use Rattle.text_programs.specs.Lemmas.Moments.{stays_typed}
use Rattle.operand_laws.specs.Laws.{FrameHasOperands, MomentsOfTextsHaveOperands}
use Rattle.operand_laws.proofs.Places.{Met, insts_met, operands_have_values}

-- ---- a place that is there

record There (bundle : List Item) (block at : ℕ) (ks : List ℕ) : Type 0 where
  here : Standing bundle block
  met : Met (scope_of bundle here.definition here.first here.block) here.block.insts at ks

module _ (bundle : List Item) (names : first_unmet (name_demands bundle) ≡ None) (checked : first_unmet (check_demands bundle) ≡ None) where
  there_is : (block at : ℕ) (ks : List ℕ) → (places_of bundle).before block at ≡ Some ks → There bundle block at ks
  there_is block at ks e = here_is (scope_there (slice_get (scopes_of bundle) block) refl e)
    where
      scope_there : (o : Option Scope) → slice_get (scopes_of bundle) block ≡ o → with_some {B = List ℕ} o (λ s. classes_before s at) ≡ Some ks → Standing bundle block
      scope_there None f h = cc
      scope_there (Some s) f h = standing bundle checked block s f

      if_below : (here : Standing bundle block) (b : Bool) → nat_lt at (length here.block.insts) ≡ b →
          (if b then Some (head_classes (bundle_tables bundle) here.block.head ++ joined (take at (all_gives (bundle_tables bundle) here.block.insts))) else None) ≡ Some ks → There bundle block at ks
      if_below here false low h = cc
      if_below here true low h =
          let below : at < length here.block.insts = grind (arith, nat_tests) in
          let s : Scope = scope_of bundle here.definition here.first here.block in
          let before : List ℕ = head_classes (bundle_tables bundle) here.block.head ++ joined (take at (all_gives (bundle_tables bundle) here.block.insts)) in
          record {
            here = here;
            met = subst (λ (ks : List ℕ). Met s here.block.insts at ks)
                (ap (λ (cs : List ℕ). cs ++ joined (take at (all_gives (bundle_tables bundle) here.block.insts))) (head_has (bundle_tables bundle) here.block.head) ∙ some_same before ks h)
                (insts_met s (head_locals (bundle_tables bundle) here.block.head) false here.block.insts at (record { whole = refl; fits = head_fits (bundle_tables bundle) here.block.head }) here.stands.met.1.0 below);
          }

      here_is : Standing bundle block → There bundle block at ks
      here_is here = if_below here (nat_lt at (length here.block.insts)) refl (sym (ap (λ (o : Option Scope). with_some {B = List ℕ} o (λ s. classes_before s at)) here.scope) ∙ e)

  -- a frame that stands
  frame_has : (w : World) (f : Activation) → HasGlobals (bundle_tables bundle) w → Stands (named bundle) (places_of bundle) w f → FrameHasOperands bundle w f
  frame_has w f globals stands =
      let t = there_is f.block f.at stands.classes stands.place in
      record {
        scope = scope_of bundle t.here.definition t.here.first t.here.block;
        inst = t.met.inst;
        block = t.here.scope;
        next = t.met.there;
        operands = operands_have_values bundle (record { names = names; checked = checked; world = w; globals = globals; classes = stands.classes; values = f.vars; fit = stands.values })
            t.here.definition t.here.first t.here.block t.here.block.insts f.at t.met;
      }

pub moments_have_operands : MomentsOfTextsHaveOperands
moments_have_operands bytes bundle read names checked s name n fits entered c d first far i th there =
    let p = named bundle in
    let t = places_of bundle in
    let typed = accepted_is_typed bundle names checked (read_have_blocks bytes bundle read) in
    let well : WellTyped p t d = stays_typed p t typed c d (first_well p t s n c typed fits.globals fits.objects fits.client (nothing_is_taken bundle name n entered) first) far in
    some_more (turn_of p d i) (λ u. Placed p t d u × (u.thread ≡ i)) (λ u. FrameHasOperands bundle (world (bundle_tables bundle) d) u.top)
    (λ u k. frame_has bundle names checked (world (bundle_tables bundle) d) u.top well.globals k.0.turned.top) (has_place p t typed d i th well there)
