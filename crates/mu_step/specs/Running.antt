-- What contracts see of a machine.
use Rattle.std.specs.Prelude.{Bool, true, false, List, []}
use Rattle.ir_tree.specs.declared.items.Item.{Item}
use Rattle.mu_model.specs.declared.endings.StepEnd.{StepEnd}
use Rattle.mu_model.specs.declared.endings.StepEnd.TheVariants.{Went, Ended}
use Rattle.mu_model.specs.Configuration.{Configuration}
use Rattle.mu_model.specs.Outcomes.{Outcome, End}

-- the bundle that it runs, where its run has come, and whether it has told the ending
pub record Running : Type 0 where
  pub bundle : List Item
  pub configuration : Configuration
  pub ended : Bool

abbrev pub gives_ending : StepEnd → Bool
gives_ending (Went ls) = false
gives_ending (Ended ls e) = true

-- an outcome as it comes once the ending was told: an ending without its lines, any other as it is
abbrev pub without_lines : Outcome → Outcome
without_lines (End ls e) = End [] e
without_lines o = o
