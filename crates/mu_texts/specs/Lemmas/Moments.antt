-- The moments of a run over loaded objects are sound.
use Rattle.std.proofs.Common.{◌≡◌, ℕ, List}
use Rattle.std.specs.Prelude.{Ok}
use Rattle.ir_tree.specs.declared.items.Item.{Item}
use Rattle.ir_text.specs.TextAnswers.{AnswerIsOne}
use Rattle.mu_model.specs.Programs.{named as program}
use Rattle.mu_model.specs.Run.{Setting}
use Rattle.text_programs.specs.Moments.{MomentsAreSound, EnteredRunsAreSound, MomentsOfTextsAreSound}
use Rattle.loaded_programs.specs.Laws.{LoadedSettingFits, LoadedSettingsFit}
use Rattle.checked_code.specs.Answers.{entry}
use Rattle.mu_texts.specs.Answer.{accepted, entered}
use Rattle.mu_texts.specs.Comes.{IsLoaded}
use Rattle.mu_texts.specs.Lemmas.Runnable.{fitting, of_accepted, was_entered}

-- of a bundle that is accepted
pub moments_of_run : (bytes name : List ℕ) (code : List Item) (s : Setting) (n : ℕ) → AnswerIsOne → MomentsOfTextsAreSound → LoadedSettingsFit → accepted bytes ≡ Ok code → IsLoaded code s → entered code name ≡ Ok n →
    MomentsAreSound (program code) s n
moments_of_run bytes name code s n one law fits is loaded there =
    of_accepted EnteredRunsAreSound bytes code one law is s name n (fitting code s (of_accepted LoadedSettingFits bytes code one fits is) loaded) (was_entered (entry code name) n there)
