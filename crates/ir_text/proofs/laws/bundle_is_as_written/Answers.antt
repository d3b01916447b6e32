use Rattle.ir_text.proofs.WrittenBundles.{bundle_is_written}
use Rattle.ir_text.proofs.laws.bundle_is_as_written.Goals as goal

pub returns : goal.returns
returns c = bundle_is_written
