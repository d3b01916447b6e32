use Rattle.operand_laws.proofs.Moments.{moments_have_operands}
use Rattle.operand_laws.proofs.laws.operands_have_values.Goals as goal

pub returns : goal.returns
returns c = moments_have_operands
