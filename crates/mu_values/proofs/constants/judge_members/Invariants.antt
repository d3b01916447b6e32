use Rattle.std.proofs.Common.{◌≡◌, ◌-◌, length, slice_get}
use Rattle.demands.specs.Demands.{first_unmet}
use Rattle.mu_values.specs.Constants.{member_demands}
use Rattle.mu_values.proofs.constants.judge_members.Given as goal

abbrev pub invariant-loop-k : goal.invariant-loop-k
invariant-loop-k l =
    first_unmet (member_demands l.classes.definitions l.types (slice_get l.classes.definitions l.t) l.members l.places (length l.members - l.k) l.k)
    ≡ first_unmet (member_demands l.classes.definitions l.types (slice_get l.classes.definitions l.t) l.members l.places (length l.members) 0)
