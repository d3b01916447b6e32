use Rattle.std.proofs.Common.{sym}
use Rattle.ir_text.proofs.Opened.{opened_with_name}
use Rattle.ir_text.proofs.lines.opened_behind.Goals as goal

pub returns-then-not-at : goal.returns-then-not-at
returns-then-not-at c =
    rw (← c.place-start.ensures, opened_with_name c.args.full c.place-start.result c.in_ok-place.place c.args.cursor.now c.mark.new.self c.in_ok-place.ensures.read (sym c.if-not-at.ensures)) c.opened_results.ensures
