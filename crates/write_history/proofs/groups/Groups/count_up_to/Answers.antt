use Rattle.std.proofs.Common.{◌≡◌, ◌<◌, ◌∙◌, ap, length, reverse, slice_index, arith}
use Rattle.std.proofs.lemmas.List.{get_or_default}
use Rattle.write_history.specs.Rooms.{Values}
use Rattle.write_history.specs.ByValue.{value_in}
use Rattle.write_history.proofs.Occurring.{occurrences-few}
use Rattle.write_history.proofs.groups.Groups.count_up_to.Goals as goal

pub overflow_add-result : goal.overflow_add-result
overflow_add-result c =
    let values = reverse c.self.inside.values.items in
    let seen = ap (λ (m : Values). length m.values) c.self.view_is in
    let r = c.requires in
    let t = r.there in
    let f = r.few in
    let there : c.args.position < length values = omega (arith, seen, t) in
    let size = c.self.invariant.ranked.size in
    let rank = c.self.invariant.ranked.rank c.args.position there in
    let read : c.index.result.now ≡ slice_index c.self.inside.ranks.items c.args.position = c.index.ensures ∙ get_or_default c.self.inside.ranks.items c.args.position c.index.result.now 0 (omega (arith, size, there)) in
    let few = occurrences-few (value_in values c.args.position) values c.args.position (omega (arith, there)) in
    omega (arith, read, rank, few, t, f)
