use Rattle.text_forms.specs.Lemmas.Judged.{read_is_derived}
use Rattle.ir_lex.specs.Walk.{tokens_from}
use Rattle.ir_lex.specs.Lemmas.Cursors.{texts_end}
use Rattle.hail_load.specs.Grammar.{hail}
use Rattle.hail_load.proofs.Grammatical.{is_grammar}
use Rattle.hail_load.proofs.laws.script_is_derived.Goals as goal

pub returns : goal.returns
returns c = λ text commands. read_is_derived hail is_grammar (tokens_from text 0) (texts_end text) commands
