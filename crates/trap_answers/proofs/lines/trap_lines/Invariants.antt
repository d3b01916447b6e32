use Rattle.std.proofs.Common.{◌≡◌, ◌∷◌, map}
use Rattle.mu_model.specs.declared.lines.Line.TheVariants as written
use Rattle.trap_answers.proofs.lines.trap_lines.Given as goal

abbrev pub invariant-loop-note : goal.invariant-loop-note
invariant-loop-note l = l.lines ≡ written.Event l.fn.number l.fn.leave ∷ written.Note l.fn.trap ∷ map written.Note l.yielded
