use Rattle.std.proofs.Common.{ℕ, ◌<◌, get_or}
use Rattle.seen_runs.specs.declared.globals.Final.{Final}
use Rattle.seen_runs.proofs.texts.objects_of.Given as goal

abbrev pub invariant-loop-global : goal.invariant-loop-global
invariant-loop-global l = (k : ℕ) (d : Final) → k < l.global-index → (get_or l.finals k d).cell.object < l.objects
