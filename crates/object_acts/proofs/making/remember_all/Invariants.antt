use Rattle.std.proofs.Common.{◌≡◌, take}
use Rattle.run_state.specs.Remembering.{initials}
use Rattle.object_acts.proofs.making.remember_all.Given as goal

abbrev pub invariant-loop-object : goal.invariant-loop-object
invariant-loop-object g l = record {
  known : g.M.Memory.objects l.memory ≡ initials (take l.object l.heap.objects);
  log : g.M.Memory.log l.memory ≡ g.M.Memory.log l.initial.memory;
  rule : g.M.Memory.rule l.memory ≡ g.M.Memory.rule l.initial.memory;
}
