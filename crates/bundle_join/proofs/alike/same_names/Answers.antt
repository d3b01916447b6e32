use Rattle.std.proofs.Common.{sym, arith, ◌≡◌, ◌<◌, length}
use Rattle.bundle_join.proofs.Likeness.{unequal}
use Rattle.bundle_join.proofs.alike.same_names.Goals as goal

pub returns-then-a-b : goal.returns-then-a-b
returns-then-a-b c = sym (unequal _ _ c.if-a-b.true)
