use Rattle.std.proofs.Common.{◌≡◌, ◌≤◌, length}
use Rattle.mu_command.specs.Job.{digits_up_to}
use Rattle.mu_command.proofs.words.digits_up_to.Given as goal

-- the digits that are left stand behind those that were read
abbrev pub invariant-each : goal.invariant-each
invariant-each l = record {
  read : digits_up_to l.limit 0 l.text ≡ digits_up_to l.limit l.number l.left;
  within : l.number ≤ l.limit;
}

abbrev pub decreases-each : goal.decreases-each
decreases-each l = length l.left
