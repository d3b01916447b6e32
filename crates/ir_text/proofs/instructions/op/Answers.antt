use Rattle.std.proofs.Common.{Err, sym, ap}
use Rattle.ir_text.proofs.OpKinds.{read_op}
use Rattle.ir_text.proofs.instructions.op.Goals as goal

pub returns-in-Some : goal.returns-in-Some
returns-in-Some c =
    rw (read_op c.args.cursor.now c.symbol.result c.symbol.ensures, ← c.op_kind.ensures, c.in-Some.is) c.op_of_kind.ensures

pub returns-in-None : goal.returns-in-None
returns-in-None c =
    rw (read_op c.args.cursor.now c.symbol.result c.symbol.ensures, ← c.op_kind.ensures, c.in-None.is) (ap Err (sym c.refusal.ensures))
