use Rattle.text_programs.specs.Lemmas.Texts.{read_have_blocks}
use Rattle.text_programs.proofs.laws.bundles_that_are_read_have_blocks.Goals as goal

pub returns : goal.returns
returns c = read_have_blocks
