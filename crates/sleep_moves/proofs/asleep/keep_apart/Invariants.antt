use Rattle.std.proofs.Common.{◌≡◌, ◌++◌, take}
use Rattle.std.specs.Prelude.{filter}
use Rattle.exchange_laws.specs.Independence.{independent}
use Rattle.sleep_moves.proofs.asleep.keep_apart.Given as goal

abbrev pub invariant-loop-other : goal.invariant-loop-other
invariant-loop-other l = l.into.items ≡ l.initial.into.items ++ filter (independent l.number l.event) (take l.other-index l.from)
