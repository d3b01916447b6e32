use Rattle.std.proofs.Common.{refl}
use Rattle.ir_lex.specs.Lemmas.Cursors.{held_is}
use Rattle.ir_lex.specs.Scanner.{next_of}
use Rattle.ir_lex.proofs.cursor.Cursor.new.Goals as goal

pub returns : goal.returns
returns c = rw c.held_at.ensures.found (held_is c.args.text.now 0 (next_of c.args.text.now 0) refl)
