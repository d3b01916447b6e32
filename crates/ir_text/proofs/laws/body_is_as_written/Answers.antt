use Rattle.ir_text.proofs.WrittenBodies.{body_is_written}
use Rattle.ir_text.proofs.laws.body_is_as_written.Goals as goal

pub returns : goal.returns
returns c = body_is_written
