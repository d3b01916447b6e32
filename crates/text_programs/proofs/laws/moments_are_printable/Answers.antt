use Rattle.text_programs.specs.Lemmas.Printable.{moments_are_printable}
use Rattle.text_programs.proofs.laws.moments_are_printable.Goals as goal

pub returns : goal.returns
returns c = moments_are_printable
