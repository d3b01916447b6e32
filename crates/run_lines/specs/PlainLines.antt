-- The lines of a run that are no event lines are passed over when its log is read.
use Rattle.std.specs.Prelude.{◌≡◌, ◌==◌, ℕ, true, false, not, List, Ok}
use Rattle.std.specs.List.{list_all}
use Rattle.ir_tree.specs.declared.items.Item.{Item}
use Rattle.ir_text.specs.TextAnswers.{IsAnswer}
use Rattle.mu_model.specs.declared.endings.Ending.{Ending}
use Rattle.mu_model.specs.declared.lines.Note.{Note}
use Rattle.run_texts.specs.EventTexts.{Text}
use Rattle.run_texts.specs.Texts.{note_text, ending_text}
use Rattle.log_lines.specs.Texts.{begins_with_digit}
use Rattle.run_lines.specs.RunsRead.{HasNames}

-- The line does not begin with a digit, and has no line feed in it.
abbrev pub IsPassedOver : Text → Type 0
IsPassedOver text = (begins_with_digit text ≡ false) × (list_all (λ b. not (b == 10)) text ≡ true)

-- Each function has a name. Each record and each ending is passed over, whether a run writes it or not.
pub record ArePlain (bundle : List Item) : Type 0 where
  pub names : HasNames bundle
  pub records : (n : Note) → IsPassedOver (note_text bundle n)
  pub endings : (e : Ending) → IsPassedOver (ending_text bundle e)

abbrev pub TextsArePlain : Type 0
TextsArePlain = (bytes : List ℕ) (bundle : List Item) → IsAnswer bytes (Ok bundle) → ArePlain bundle
