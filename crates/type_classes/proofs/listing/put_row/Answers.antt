use Rattle.std.proofs.Common.{ℕ, Vec, Global}
use Rattle.std.proofs.lemmas.List.{map-set}
use Rattle.type_classes.proofs.listing.put_row.Goals as goal

pub returns-clause-row : goal.returns-clause-row
returns-clause-row c = map-set (λ (u : Vec ℕ Global). u.items) c.args.rows.now c.args.t c.args.row
