use Rattle.std.proofs.Common.{◌≡◌, ◌+◌, ◌≤◌, ◌++◌, length, take, drop}
use Rattle.mu_values.specs.Rooms.{scalars_in}
use Rattle.mu_values.proofs.slots.Slots.append_reserved.Given as goal

abbrev pub invariant-loop-n : goal.invariant-loop-n
invariant-loop-n l =
    (l.self.values ≡ l.initial.self.values ++ take l.n l.more.values) × (length l.more.values ≤ l.self.spare + l.n) × (scalars_in (drop l.n l.more.values) ≤ l.self.spare_scalars)
