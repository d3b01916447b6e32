use Rattle.std.proofs.Common.{◌≡◌, length, sym, ap, ◌∙◌, rules}
use Rattle.std.specs.Vec.{vec_len}
use Rattle.mu_values.specs.Slots.{RoomyValues}
use Rattle.mu_values.proofs.Cuts.{cut_length}
use Rattle.mu_values.proofs.slots.Slots.len.Goals as goal

pub returns : goal.returns
returns c =
    let ends = c.self.inside.ends.items in
    let count : vec_len c.self.inside.ends ≡ length ends = search rules in
    let many : length c.args.self.now.values ≡ length ends = ap (λ (s : RoomyValues). length s.values) (sym c.self.view_is) ∙ cut_length 0 ends c.self.inside.scalars.items in
    c.len.ensures ∙ count ∙ sym many
