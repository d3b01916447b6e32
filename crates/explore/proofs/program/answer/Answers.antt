use Rattle.std.proofs.Common.{Err, ◌∙◌, ap}
use Rattle.explore.proofs.Answering.{early_is_whole}
use Rattle.explore.proofs.program.answer.Goals as goal

pub put_line-requires : goal.put_line-requires
put_line-requires g c =
    early_is_whole _ c.args.words.now c.find.result c.in-Err-Line.text c.in-Err-Line.status (c.in-Err-Line.is ∙ ap Err c.in-Err-Line.field-0-is) c.find.ensures.found
