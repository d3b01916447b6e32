-- The client's own answers fit, so a step goes on by them.
use Rattle.std.specs.Prelude.{◌≡◌, ◌==◌, ℕ, zero, suc, Bool, true, false, List, [], ◌∷◌, Option, Some, None, All, slice_get, map, drop, if◌then◌else◌}
use Rattle.std.proofs.Common.{sym, ◌∙◌, subst, inl, inr}
use Rattle.std.proofs.lemmas.Bool.Decides.{eqb_tells}
use Rattle.std.proofs.lemmas.List.Elements.{All-head, All-tail}
use Rattle.check_tables.specs.Types.{stackref}
use Rattle.type_definitions.specs.declared.definition.TypeDef.{TypeDef}
use Rattle.frames.specs.Activations.{Activation, Value}
use Rattle.model_laws.specs.ClientsFit.{AnswerFits, ArgumentFits, ArgumentsFit, ClientFits, EntryFits, PushFits, ReplyFits, ScriptEntryFits, ViewFits, WithFits}
use Rattle.model_laws.specs.Places.{Places}
use Rattle.model_laws.specs.Programs.{IsTyped}
use Rattle.model_laws.specs.Values.{HasGlobals, TypedFit, ValuesFit, world}
use Rattle.model_laws.specs.WellTyped.{GoesWell, Settles, WellTyped}
use Rattle.mu_model.specs.Acts.{Program}
use Rattle.mu_model.specs.Answers.{advanced, answer_by, answer_of, argument_value, edit_of, entry_answer, notes_of, reply_of, typed, typed_value_at, with_of}
use Rattle.mu_model.specs.Clients.{Answer, Argument, Classed, Client, ScriptEntry, Exit, KeptValue, Pass, Rebind, Reply, Resume, Stop, Throw, Told, With}
use Rattle.mu_model.specs.Configuration.{Configuration}
use Rattle.mu_model.specs.Operands.{all_some}
use Rattle.mu_model.specs.Outcomes.{Asks, End, Next, Outcome, Stuck, View}
use Rattle.mu_model.specs.Run.{client_answers, with_client}
use Rattle.mu_model.specs.Types.{type_graph, zero_value}
use Rattle.typed_heap.specs.Fits.{ValueFits, World}
use Rattle.typed_heap.specs.Places.{with_some}

-- where it is there it is so
abbrev Maybe : {A : Type 0} → Option A → (A → Type 0) → Type 0
Maybe None P = Unit {0}
Maybe (Some a) P = P a

maybe_then : {A B : Type 0} (o : Option A) (f : A → Option B) (P : A → Type 0) (Q : B → Type 0) → Maybe o P → ((a : A) → P a → Maybe (f a) Q) → Maybe (with_some o f) Q
maybe_then None f P Q h k = tt
maybe_then (Some a) f P Q h k = k a h

anything : {A : Type 0} (o : Option A) → Maybe o (λ a. Unit {0})
anything None = tt
anything (Some a) = tt

abbrev ClassedFits : List TypeDef → World → Classed → Type 0
ClassedFits graph w v = ValueFits graph w v.0 v.1

value_in_fits : (graph : List TypeDef) (w : World) (cs : List ℕ) (vs : List Value) (n : ℕ) → ValuesFit graph w cs vs →
    Maybe (with_some {B = Classed} (slice_get cs n) (λ c. with_some {B = Classed} (slice_get vs n) (λ v. Some (c, v)))) (ClassedFits graph w)
value_in_fits graph w [] [] n h = tt
value_in_fits graph w [] (v ∷ vs) n h = absurd h
value_in_fits graph w (c ∷ cs) [] n h = absurd h
value_in_fits graph w (c ∷ cs) (v ∷ vs) zero h = h.0
value_in_fits graph w (c ∷ cs) (v ∷ vs) (suc n) h = value_in_fits graph w cs vs n h.1

kept_in_fits : (graph : List TypeDef) (w : World) (fs : List Activation) (n k : ℕ) → All (λ (f : Activation). TypedFit graph w f.kept) fs → Maybe (with_some (slice_get fs n) (λ f. typed_value_at f.kept k)) (ClassedFits graph w)
kept_in_fits graph w [] n k h = tt
kept_in_fits graph w (f ∷ fs) zero k h = value_in_fits graph w f.kept.types f.kept.values k (All-head (λ (f : Activation). TypedFit graph w f.kept) f fs h)
kept_in_fits graph w (f ∷ fs) (suc n) k h = kept_in_fits graph w fs n k (All-tail (λ (f : Activation). TypedFit graph w f.kept) f fs h)

module _ (p : Program) (w : World) (fs : List Activation) (shown : All (λ (f : Activation). TypedFit (type_graph p.tables) w f.kept) fs) where
  argument_fits : (a : Argument) → ArgumentFits (type_graph p.tables) w a → Maybe (argument_value fs a) (ClassedFits (type_graph p.tables) w)
  argument_fits (Told v) h = h
  argument_fits (KeptValue n k) h = kept_in_fits (type_graph p.tables) w fs n k shown

  arguments_fit : (args : List Argument) → All (ArgumentFits (type_graph p.tables) w) args → Maybe (all_some (map (argument_value fs) args)) (λ vs. TypedFit (type_graph p.tables) w (typed vs))
  arguments_fit [] h = tt
  arguments_fit (a ∷ args) h =
      maybe_then (argument_value fs a) _ (ClassedFits (type_graph p.tables) w) (λ vs. TypedFit (type_graph p.tables) w (typed vs)) (argument_fits a (All-head (ArgumentFits (type_graph p.tables) w) a args h)) (λ v vf.
      maybe_then (all_some (map (argument_value fs) args)) _ (λ vs. TypedFit (type_graph p.tables) w (typed vs)) (λ vs. TypedFit (type_graph p.tables) w (typed vs)) (arguments_fit args (All-tail (ArgumentFits (type_graph p.tables) w) a args h)) (λ vs vsf. (vf, vsf)))

  with_fits : (a : With (List Argument) Argument) → ArgumentsFit (type_graph p.tables) w a → Maybe (with_of fs a) (WithFits (type_graph p.tables) w)
  with_fits (Pass args) h = maybe_then (all_some (map (argument_value fs) args)) _ (λ vs. TypedFit (type_graph p.tables) w (typed vs)) (WithFits (type_graph p.tables) w) (arguments_fit args h) (λ vs k. k)
  with_fits (Throw a) h = maybe_then (argument_value fs a) _ (ClassedFits (type_graph p.tables) w) (WithFits (type_graph p.tables) w) (argument_fits a h) (λ v k. k)

  reply_fits : (r : Reply (List Argument) Argument) → EntryFits (type_graph p.tables) w r → Maybe (reply_of p.tables fs r) (ReplyFits p.tables w)
  reply_fits (Resume a) h = maybe_then (with_of fs a) _ (WithFits (type_graph p.tables) w) (ReplyFits p.tables w) (with_fits a h) (λ v k. k)
  reply_fits (Rebind s a) h =
      maybe_then (argument_value fs s) _ (ClassedFits (type_graph p.tables) w) (ReplyFits p.tables w) (argument_fits s h.0) (λ v vf. elim (eqb_tells v.0 (stackref p.tables.types)) [
        | inl r ↦ subst (λ b. Maybe (if b then with_some (with_of fs a) (λ x. Some (Rebind v x)) else None) (ReplyFits p.tables w)) (sym r.0)
            (maybe_then (with_of fs a) (λ x. Some (Rebind v x)) (WithFits (type_graph p.tables) w) (ReplyFits p.tables w) (with_fits a h.1) (λ x k. (r.1, vf, k)))
        | inr r ↦ subst (λ b. Maybe (if b then with_some (with_of fs a) (λ x. Some (Rebind v x)) else None) (ReplyFits p.tables w)) (sym r.0) tt
      ])
  reply_fits Exit h = tt
  reply_fits Stop h = tt

  abbrev Fits : Answer → Type 0
  Fits a = PushFits p.tables a.edit.push × ReplyFits p.tables w a.reply

  entry_fits : (e : ScriptEntry) → PushFits p.tables (edit_of e).push → EntryFits (type_graph p.tables) w e.reply → AnswerFits p.tables w (entry_answer p.tables fs e)
  entry_fits e push h = told_of (entry_answer p.tables fs e)
      (maybe_then (all_some (map (notes_of fs) e.actions)) _ (λ ns. Unit {0}) Fits (anything (all_some (map (notes_of fs) e.actions))) (λ ns u.
      maybe_then (reply_of p.tables fs e.reply) _ (ReplyFits p.tables w) Fits (reply_fits e.reply h) (λ r k. (push, k))))
    where
      told_of : (o : Option Answer) → Maybe o Fits → AnswerFits p.tables w o
      told_of None k = tt
      told_of (Some a) k = k

blank_fits : (p : Program) (t : Places) → IsTyped p t → (w : World) (cs : List ℕ) → ValuesFit (type_graph p.tables) w cs (map (zero_value p.tables) cs)
blank_fits p t typed w [] = tt
blank_fits p t typed w (c ∷ cs) = (typed.zeros w c, blank_fits p t typed w cs)

-- what a client answers fits
pub answer_fits : (p : Program) (t : Places) → IsTyped p t → (w : World) → HasGlobals p.tables w → (view : View) (k : Client) → ViewFits (type_graph p.tables) w view → ClientFits p.tables k → AnswerFits p.tables w (answer_of p.tables view k)
answer_fits p t typed w globals view k shown client = by k.auto k.entries (client w globals)
  where
    by : (auto : Bool) (es : List ScriptEntry) → All (ScriptEntryFits p.tables w) es → AnswerFits p.tables w (answer_by p.tables view auto es)
    by auto (e ∷ es) h = let here = All-head (ScriptEntryFits p.tables w) e es h in entry_fits p w view.frames shown e here.0 here.1
    by true [] h = (tt, blank_fits p t typed w view.asked)
    by false [] h = (tt, tt)

-- a client past its first entry
advanced_fits : (p : Program) (k : Client) → ClientFits p.tables k → ClientFits p.tables (advanced k)
advanced_fits p k h = λ w globals. by w k.entries (h w globals)
  where
    by : (w : World) (es : List ScriptEntry) → All (ScriptEntryFits p.tables w) es → All (ScriptEntryFits p.tables w) (drop 1 es)
    by w [] h = h
    by w (e ∷ es) h = All-tail (ScriptEntryFits p.tables w) e es h

client_fits : (p : Program) (t : Places) (c : Configuration) (k : Client) → WellTyped p t c → ClientFits p.tables k → WellTyped p t (record c { client = k })
client_fits p t c k h fit = record {
  globals = h.globals;
  stacks = h.stacks;
  owners = h.owners;
  objects = h.objects;
  log = record { events = h.log.events; sound = h.log.sound; follows = h.log.follows; threads = h.log.threads };
  threads = h.threads;
  waiters = h.waiters;
  client = fit;
  most = h.most;
  steps = h.steps;
}

with_client_settles : (p : Program) (t : Places) (k : Client) (o : Outcome) → ClientFits p.tables k → Settles p t o → Settles p t (with_client k o)
with_client_settles p t k (Next c) fit h = client_fits p t c k h fit
with_client_settles p t k (End ls e) fit h = tt
with_client_settles p t k (Asks view go) fit h = absurd h
with_client_settles p t k Stuck fit h = absurd h

pub told_settles : (p : Program) (t : Places) → IsTyped p t → (c : Configuration) → WellTyped p t c → (o : Outcome) → GoesWell p t (world p.tables c) o → Settles p t (client_answers p c.client o)
told_settles p t typed c h (Next d) k = k
told_settles p t typed c h (End ls e) k = tt
told_settles p t typed c h (Asks view go) k =
    with_client_settles p t (advanced c.client) (go (answer_of p.tables view c.client)) (advanced_fits p c.client h.client)
    (k.1 (answer_of p.tables view c.client) (answer_fits p t typed (world p.tables c) h.globals view c.client k.0 h.client))
told_settles p t typed c h Stuck k = absurd k
