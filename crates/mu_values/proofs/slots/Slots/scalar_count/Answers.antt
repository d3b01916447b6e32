use Rattle.std.proofs.Common.{◌≡◌, length, sym, ap, ◌∙◌, rules}
use Rattle.std.specs.Vec.{vec_len}
use Rattle.mu_values.specs.Rooms.{scalars_in}
use Rattle.mu_values.specs.Slots.{RoomyValues}
use Rattle.mu_values.proofs.Appending.{scalars_counted}
use Rattle.mu_values.proofs.slots.Slots.scalar_count.Goals as goal

pub returns : goal.returns
returns c =
    let scalars = c.self.inside.scalars.items in
    let count : vec_len c.self.inside.scalars ≡ length scalars = search rules in
    let many : scalars_in c.args.self.now.values ≡ length scalars = ap (λ (s : RoomyValues). scalars_in s.values) (sym c.self.view_is) ∙ scalars_counted c.self.inside.ends.items scalars c.self.invariant in
    c.len.ensures ∙ count ∙ sym many
