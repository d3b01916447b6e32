use Rattle.std.proofs.Common.{◌≡◌, ◌+◌, ◌∙◌, ℕ, length, cond, ap, arith}
use Rattle.mu_values.specs.SameCell.{same_cell}
use Rattle.view_parts.specs.Lemmas.Owning.{owned-more}
use Rattle.log_judge.specs.CellKeys.{number_in}
use Rattle.log_judge.proofs.Keyed.{numbers-put}
use Rattle.log_judge.proofs.cell_map.CellMapCellPlaces.touch.Goals as goal

pub invariant_of-self-2 : goal.invariant_of-self-2
invariant_of-self-2 c = record {
  owned = rw (c.push_reserved.ensures.items, c.reserve.ensures.items)
      (owned-more (number_in c.args.self.now.places) (number_in c.insert.new.self) c.args.self.now.owners.items c.args.cell (c.len-place.result + 1) (omega arith)
      (numbers-put c.args.self.now.places c.insert.new.self c.args.cell c.len-place.result c.key_of.ensures.small (rw c.key_of.ensures.key at c.in_ok-insert.ensures.updates).0) c.args.self.now.owned);
}

pub returns-clause-numbers : goal.returns-clause-numbers
returns-clause-numbers c x =
    let place : c.len-place.result + 1 ≡ length c.args.self.now.owners.items + 1 = omega arith in
    numbers-put c.args.self.now.places c.insert.new.self c.args.cell c.len-place.result c.key_of.ensures.small (rw c.key_of.ensures.key at c.in_ok-insert.ensures.updates).0 x
    ∙ ap (λ (n : ℕ). cond (same_cell x c.args.cell) n (number_in c.args.self.now.places x)) place
