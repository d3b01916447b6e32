use Rattle.std.proofs.Common.{◌≡◌, length, sym, ap, ◌∙◌}
use Rattle.mu_values.specs.Slots.{RoomyValues}
use Rattle.mu_values.proofs.Cuts.{cut_length}
use Rattle.mu_values.proofs.slots.Slots.at.Goals as goal

pub bounds-begin-requires-clause-n : goal.bounds-begin-requires-clause-n
bounds-begin-requires-clause-n c =
    let ends = c.self.inside.ends.items in
    let many : length c.args.self.now.values ≡ length ends = ap (λ (s : RoomyValues). length s.values) (sym c.self.view_is) ∙ cut_length 0 ends c.self.inside.scalars.items in
    rw c.deref-2.ensures.value (rw many at c.requires)
