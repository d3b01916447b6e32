use Rattle.std.proofs.Common.{◌≡◌, take}
use Rattle.condition_answers.specs.Lines.{answers_over}
use Rattle.condition_answers.proofs.answering.answers_over.Given as goal

abbrev pub invariant-loop-condition : goal.invariant-loop-condition
invariant-loop-condition l = l.answers.items ≡ answers_over l.found l.complete (take l.condition-index l.conditions)
