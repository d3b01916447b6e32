use Rattle.std.proofs.Common.{rules}
use Rattle.ir_text.proofs.OpKinds.{no_kind}
use Rattle.ir_text.proofs.kinds.op_kind.Goals as goal

pub returns-in_default : goal.returns-in_default
returns-in_default c = no_kind c.args.symbol (search rules)
