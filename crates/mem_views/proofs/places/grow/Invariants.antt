use Rattle.std.proofs.Common.{◌≡◌, ℕ, ◌+◌, ◌-◌}
use Rattle.std.specs.Prelude.{vec_len}
use Rattle.mem_views.specs.Placing.{number_at}
use Rattle.mem_views.proofs.places.grow.Given as goal

abbrev pub invariant-loop-alloc : goal.invariant-loop-alloc
invariant-loop-alloc l = (o i : ℕ) → number_at l.objects.items o i ≡ number_at l.initial.objects.items o i

abbrev pub decreases-loop-alloc : goal.decreases-loop-alloc
decreases-loop-alloc l = l.object + 1 - vec_len l.objects
