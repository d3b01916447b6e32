-- The laws.
use Rattle.std.specs.Prelude.{◌≡◌, ℕ, ◌∷◌, Option, Some, None, IsSomeAnd, slice_get, refl}
use Rattle.std.proofs.Common.{sym, ◌∙◌, subst}
use Rattle.mem_axioms.specs.Lemmas.Racings.{race_free-is}
use Rattle.mem_axioms.specs.Lemmas.Building.{was-option}
use Rattle.model_laws.specs.Lemmas.Answering.{told_settles}
use Rattle.model_laws.specs.Lemmas.Basics.{some_more}
use Rattle.model_laws.specs.Lemmas.First.{first_fits}
use Rattle.model_laws.specs.Lemmas.Moving.{one_stack}
use Rattle.model_laws.specs.Lemmas.Performing.{step_good}
use Rattle.model_laws.specs.Lemmas.Placing.{Placed, has_place}
use Rattle.model_laws.specs.ActsFit.{ActFits}
use Rattle.model_laws.specs.Laws.{ClientsSettle, FirstIsWellTyped, LogsAreRaceFree, LogsMeetAxioms, OperandsFit, ReadsWereOffered, StacksHaveOneOwner, StepsGoWell}
use Rattle.model_laws.specs.ThreadsFit.{IsActiveOn}
use Rattle.model_laws.specs.Values.{world}
use Rattle.model_laws.specs.WellTyped.{WellTyped}
use Rattle.mu_model.specs.Accesses.{initial}
use Rattle.mu_model.specs.Answers.{typed}
use Rattle.mu_model.specs.Configuration.{Active, Configuration, Dead, Ready, Stack}
use Rattle.mu_model.specs.Run.{begins_in}
use Rattle.mu_model.specs.Step.{step}
use Rattle.mu_model.specs.Turns.{turn_of}
use Rattle.typed_heap.specs.Places.{with_some}

pub first_well : FirstIsWellTyped
first_well p t s f c typed globals objects client none first = by (p.body f) refl first
  where
    by : (o : Option (Option ℕ)) → p.body f ≡ o → with_some {B = Configuration} o (λ b. with_some {B = Configuration} b (λ block. Some (begins_in p s f block))) ≡ Some c → WellTyped p t c
    by None body e = cc
    by (Some None) body e = cc
    by (Some (Some block)) body e =
        let same : begins_in p s f block ≡ c = cc in
        subst (WellTyped p t) same (first_fits p t s f block typed globals objects body none client)

pub steps_well : StepsGoWell
steps_well p t c typed h = step_good p t typed c h

pub clients_settle : ClientsSettle
clients_settle p t c typed h = told_settles p t typed c h (step p c) (step_good p t typed c h)

pub operands_fit : OperandsFit
operands_fit p t c typed h i th there =
    some_more (turn_of p c i) (λ u. Placed p t c u × (u.thread ≡ i)) (λ u. IsSomeAnd u.doing.act (ActFits p t (world p.tables c) u.top.block u.top.at)) (λ u k. k.0.turned.doing.act) (has_place p t typed c i th h there)

one_active : (o : Option Stack) (i j : ℕ) → IsSomeAnd o (IsActiveOn i) → IsSomeAnd o (IsActiveOn j) → i ≡ j
one_active None i j h k = absurd h
one_active (Some (Ready fs)) i j h k = absurd h
one_active (Some (Active n fs)) i j h k = sym h ∙ k
one_active (Some Dead) i j h k = absurd h

pub one_owner : StacksHaveOneOwner
one_owner p t c h = record {
  one_thread = λ i j s r there also same.
      one_active (slice_get c.stacks s.stack) i j (h.owners.stacks i s there) (subst (λ n. IsSomeAnd (slice_get c.stacks n) (IsActiveOn j)) (sym same) (h.owners.stacks j r also));
  one_stack = λ i k m fs gs there also. one_stack (slice_get c.threads i) k m (h.owners.threads i k fs there) (h.owners.threads i m gs also);
}

pub meets : LogsMeetAxioms
meets p t c h = h.log.sound.axioms

pub race_free : LogsAreRaceFree
race_free p t c h = race_free-is c.rule c.log h.log.sound.race_free

pub reads_offered : ReadsWereOffered
reads_offered p t c h i thread cell order position value = was-option c.rule (initial c) thread cell order position value c.log h.log.sound.axioms i
