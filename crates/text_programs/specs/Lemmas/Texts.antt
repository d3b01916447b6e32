-- A bundle that is read has blocks, so what holds of accepted bundles with blocks holds of accepted texts.
use Rattle.ir_text.specs.TextAnswers.{bundle_read}
use Rattle.bundle_facts.specs.Lemmas.Derived.{derived_have_blocks}
use Rattle.typed_programs.specs.Lemmas.Running.{accepted_is_typed, plain_runs_have_an_ending, plain_runs_never_break, plain_fits}
use Rattle.text_programs.specs.Laws.{BundlesThatAreReadHaveBlocks, TextsAreTyped, RunsOfTextsHaveAnEnding, RunsOfTextsNeverBreak, PlainSettingsFit}

pub read_have_blocks : BundlesThatAreReadHaveBlocks
read_have_blocks bytes bundle (bundle_read tokens end b lexes derives) = derived_have_blocks _ bundle derives

pub texts_are_typed : TextsAreTyped
texts_are_typed bytes bundle read names checked = accepted_is_typed bundle names checked (read_have_blocks bytes bundle read)

pub runs_of_texts_have_an_ending : RunsOfTextsHaveAnEnding
runs_of_texts_have_an_ending bytes bundle read names checked = plain_runs_have_an_ending bundle names checked (read_have_blocks bytes bundle read)

pub runs_of_texts_never_break : RunsOfTextsNeverBreak
runs_of_texts_never_break bytes bundle read names checked = plain_runs_never_break bundle names checked (read_have_blocks bytes bundle read)

pub plain_settings_fit : PlainSettingsFit
plain_settings_fit bytes bundle read names checked = plain_fits bundle names checked
