use Rattle.std.proofs.Common.{◌≡◌, ◌∙◌, sym, subst, List, ℕ, length, take, drop, ◌++◌, Vec, Global}
use Rattle.mu_types.specs.Rows.{lists}
use Rattle.type_classes.specs.Blocks.{Listed}
use Rattle.mu_types.specs.ListLaws.{lent_back}
use Rattle.type_classes.proofs.blocks.list_members.Goals as goal

pub returns-clause-listed : goal.returns-clause-listed
returns-clause-listed c =
    let m = c.in_ok-put_members.ensures in
    let back : take c.in_ok-members.members.len (c.put_members.new.members ++ drop (length c.put_members.new.members) c.in_ok-members.members.items) ≡ c.put_members.new.members =
    lent_back c.put_members.new.members c.in_ok-members.members.items c.in_ok-members.members.len (m.len ∙ sym c.in_ok-members.ensures.len) in
    subst (λ (ps : List (Vec ℕ Global)). Listed c.args.block.now (lists ps)) (sym back) m.listed
