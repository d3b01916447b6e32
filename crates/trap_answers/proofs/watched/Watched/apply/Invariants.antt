use Rattle.std.proofs.Common.{◌≡◌, fold, map, take}
use Rattle.mu_model.specs.Traps.{watch}
use Rattle.client_hooks.specs.declared.notes.Watch.{Watch}
use Rattle.trap_answers.proofs.watched.Watched.apply.Given as goal

abbrev pub invariant-loop-change : goal.invariant-loop-change
invariant-loop-change l = record {
  enabled : l.self.enabled ≡ fold watch l.initial.self.enabled (map (λ (w : Watch). (w.number, w.enabled)) (take l.change-index l.change-items));
  known : l.self.known ≡ l.initial.self.known;
}
