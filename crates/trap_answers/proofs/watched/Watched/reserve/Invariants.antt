use Rattle.std.proofs.Common.{◌≡◌, map, take}
use Rattle.trap_answers.specs.Watching.{AreKnown}
use Rattle.client_hooks.specs.declared.notes.Watch.{Watch}
use Rattle.trap_answers.proofs.watched.Watched.reserve.Given as goal

abbrev pub invariant-loop-change : goal.invariant-loop-change
invariant-loop-change l = record {
  enabled : l.self.enabled ≡ l.initial.self.enabled;
  known : AreKnown (map (λ (w : Watch). (w.number, w.enabled)) (take l.change-index l.change-items)) l.self.known;
}
