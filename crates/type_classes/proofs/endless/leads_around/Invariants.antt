use Rattle.std.proofs.Common.{◌≡◌, true, ◌||◌, ◌==◌}
use Rattle.type_definitions.specs.Parts.{leads}
use Rattle.type_classes.proofs.endless.leads_around.Given as goal

-- a walk of so many steps leads from `next` to t, of none where it is t
abbrev pub invariant-loop-steps : goal.invariant-loop-steps
invariant-loop-steps l = ((l.next == l.t) || leads l.all l.steps l.t l.next) ≡ true
