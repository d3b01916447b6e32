use Rattle.std.proofs.Common.{ap, ◌∙◌, length}
use Rattle.log_lines.specs.EventTexts.{event_text}
use Rattle.log_lines.specs.Texts.{text_read}
use Rattle.run_lines.specs.Laws.{names_in, run_lines}
use Rattle.run_lines.proofs.Gathered.{event_line, run_text}
use Rattle.run_lines.proofs.laws.run_texts_are_read.Goals as goal

pub returns-clause-line : goal.returns-clause-line
returns-clause-line c = λ bundle at r e few readable.
    (event_text (names_in bundle) (length r.log) e, event_line bundle (length r.log) e, c.event_lines_are_read.ensures (names_in bundle) at r e few readable)

pub returns-clause-text : goal.returns-clause-text
returns-clause-text c = λ bundle steps ls e numbered readable few.
    ap text_read (run_text bundle steps ls e numbered) ∙ c.texts_are_read.ensures (names_in bundle) (run_lines bundle steps ls e) readable few
