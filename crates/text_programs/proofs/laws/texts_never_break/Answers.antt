use Rattle.text_programs.specs.Lemmas.Texts.{texts_are_typed, runs_of_texts_have_an_ending, runs_of_texts_never_break}
use Rattle.text_programs.proofs.laws.texts_never_break.Goals as goal

pub returns-clause-typed : goal.returns-clause-typed
returns-clause-typed c = texts_are_typed

pub returns-clause-endings : goal.returns-clause-endings
returns-clause-endings c = runs_of_texts_have_an_ending

pub returns-clause-breaks : goal.returns-clause-breaks
returns-clause-breaks c = runs_of_texts_never_break
