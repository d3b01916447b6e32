use Rattle.std.proofs.Common.{◌+◌, arith}
use Rattle.mem_views.specs.Placing.{place_in}
use Rattle.view_parts.specs.Lemmas.Owning.{owned-more}
use Rattle.mem_views.proofs.places.Places.give_next.Goals as goal

pub invariant_of-self : goal.invariant_of-self
invariant_of-self c = record {
  owned = rw c.push_reserved.ensures.items
      (owned-more (place_in c.args.self.now.objects.items) (place_in c.set_number.new.objects.items) c.args.self.now.owners.items c.args.cell (c.len-place.result + 1) (omega arith) (λ x. c.set_number.ensures x.object x.at) c.args.self.now.owned);
}
