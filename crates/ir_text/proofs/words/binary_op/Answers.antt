use Rattle.std.proofs.Common.{rules}
use Rattle.ir_tree.specs.Words.{binary_words}
use Rattle.ir_text.proofs.Choices.{no_word}
use Rattle.ir_text.proofs.words.binary_op.Goals as goal

pub returns-in_default : goal.returns-in_default
returns-in_default c = rw c.fault.ensures (no_word binary_words c.args.cursor.now c.symbol.result c.symbol.ensures (search rules))
