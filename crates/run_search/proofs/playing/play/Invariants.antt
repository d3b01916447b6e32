use Rattle.std.proofs.Common.{◌≡◌, false}
use Rattle.std.specs.Prelude.{flat_map}
use Rattle.mu_model.specs.Programs.{named}
use Rattle.run_search.specs.Steps.{SoFar}
use Rattle.run_search.proofs.playing.play.Given as goal

-- what was made of the run, and what is left of it, make the whole
abbrev pub invariant-steps : goal.invariant-steps
invariant-steps g l = record {
  far : SoFar (named l.code) l.initial.left l.initial.machine.configuration l.numbers l.left l.machine.configuration l.made.items (flat_map (λ ls. ls) l.kept.items) l.schedule.items;
  same : l.machine.bundle ≡ l.code;
  fresh : l.machine.ended ≡ false;
}

abbrev pub decreases-steps : goal.decreases-steps
decreases-steps g l = l.left
