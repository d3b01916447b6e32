use Rattle.bundle_laws.specs.Lemmas.TypedOperands.{operand_fits}
use Rattle.bundle_laws.proofs.code.operands_fit.Goals as goal

pub returns : goal.returns
returns c = operand_fits
