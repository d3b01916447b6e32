-- Well-typed frames and stacks.
use Rattle.std.specs.Prelude.{◌≡◌, ℕ, Bool, true, false, List, [], ◌∷◌, Option, Some, None}
use Rattle.check_tables.specs.declared.tables.Tables.{Tables}
use Rattle.typed_heap.specs.Fits.{World}
use Rattle.typed_heap.specs.Places.{with_some}
use Rattle.frames.specs.Activations.{Activation}
use Rattle.mu_model.specs.Types.{type_graph, classes_taken, classes_given}
use Rattle.mu_model.specs.Acts as acts
use Rattle.mu_model.specs.Acts.{Act, Doing, Program}
use Rattle.frames.specs.Chains.{nothing_kept}
use Rattle.mu_model.specs.Configuration.{Stack, Ready, Active, Dead}
use Rattle.model_laws.specs.Values.{ValuesFit, TypedFit}
use Rattle.model_laws.specs.Places.{Places}

-- ---- 1: each frame stands at a place of the bundle

-- a frame that runs: it has a value for each variable of its place, and waits for nothing
pub record Stands (p : Program) (t : Places) (w : World) (f : Activation) : Type 0 where
  pub classes : List ℕ
  pub place : t.before f.block f.at ≡ Some classes
  pub values : ValuesFit (type_graph p.tables) w classes f.vars
  pub entered : f.fresh ≡ false
  pub waits : f.waits ≡ []
  pub handler : f.handler ≡ None
  pub kept : f.kept ≡ nothing_kept

-- a frame that has done nothing yet: it stands before the first block of its function, has no values, and waits for the parameters
pub record Fresh (p : Program) (f : Activation) : Type 0 where
  pub function : ℕ
  pub entry : p.body function ≡ Some (Some f.block)
  pub first : f.at ≡ 0
  pub values : f.vars ≡ []
  pub waits : f.waits ≡ classes_taken p.tables function
  pub handler : f.handler ≡ None
  pub kept : f.kept ≡ nothing_kept

-- ---- 2: what a frame waits for

-- a call waits for the results of what it calls, a trap, an enabled watchpoint and a swap for the types that are asked; no other waits
abbrev pub waits_for : Tables → Act → Option (List ℕ)
waits_for p (acts.Calls f vs) = Some (classes_given p f)
waits_for p (acts.Traps cs) = Some cs
waits_for p (acts.Watches n cs disabled) = Some cs
waits_for p (acts.Swaps s cs e) = Some cs
waits_for p _ = None

-- a frame that waits at an instruction: it waits for what that instruction waits for, and has its handler and the values that it keeps
pub record Waits (p : Program) (t : Places) (w : World) (f : Activation) : Type 0 where
  pub classes : List ℕ
  pub place : t.before f.block f.at ≡ Some classes
  pub values : ValuesFit (type_graph p.tables) w classes f.vars
  pub doing : Doing
  pub there : p.doing f.block f.at f.vars ≡ Some doing
  pub waits : with_some doing.act (waits_for p.tables) ≡ Some f.waits
  pub handler : doing.exceptional ≡ Some f.handler
  pub kept : doing.kept ≡ Some f.kept
  pub kept_fit : TypedFit (type_graph p.tables) w f.kept

abbrev pub FreshOrWaits : Program → Places → World → Activation → Bool → Type 0
FreshOrWaits p t w f true = Fresh p f
FreshOrWaits p t w f false = Waits p t w f

abbrev pub FrameWaits : Program → Places → World → Activation → Type 0
FrameWaits p t w f = FreshOrWaits p t w f f.fresh

-- each frame waits for the results of the function above it, which has these
abbrev pub BelowWait : Program → Places → World → List ℕ → List Activation → Type 0
BelowWait p t w rs [] = Unit {0}
BelowWait p t w rs (f ∷ fs) = FrameWaits p t w f × (f.waits ≡ rs) × BelowWait p t w (t.results f.block) fs

-- ---- 3: a stack that is not dead has a frame; the top one of a ready stack waits, that of an active one runs

abbrev pub ReadyFit : Program → Places → World → List Activation → Type 0
ReadyFit p t w [] = ⊥
ReadyFit p t w (f ∷ fs) = FrameWaits p t w f × BelowWait p t w (t.results f.block) fs

abbrev pub ActiveFit : Program → Places → World → List Activation → Type 0
ActiveFit p t w [] = ⊥
ActiveFit p t w (f ∷ fs) = Stands p t w f × BelowWait p t w (t.results f.block) fs

abbrev pub StackFits : Program → Places → World → Stack → Type 0
StackFits p t w (Ready fs) = ReadyFit p t w fs
StackFits p t w (Active i fs) = ActiveFit p t w fs
StackFits p t w Dead = Unit {0}
