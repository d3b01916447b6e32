use Rattle.ir_text.proofs.OneAnswer.{is_answer, is_only}
use Rattle.ir_text.proofs.reading.read_bundle.Goals as goal

pub returns-clause-means : goal.returns-clause-means
returns-clause-means c = is_answer c.args.bytes.now c.answer.result c.answer.ensures

pub returns-clause-only : goal.returns-clause-only
returns-clause-only c = λ other is. is_only c.args.bytes.now c.answer.result other c.answer.ensures is
