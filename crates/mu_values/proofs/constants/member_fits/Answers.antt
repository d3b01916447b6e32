use Rattle.std.proofs.Common.{◌<◌, IsSomeAnd, Some, subst}
use Rattle.mu_values.specs.Constants.{member_count}
use Rattle.mu_values.proofs.Members.{part_within}
use Rattle.mu_values.proofs.constants.member_fits.Goals as goal

pub same-requires-clause-b : goal.same-requires-clause-b
same-requires-clause-b c =
    let counted : IsSomeAnd (member_count (Some c.definition.result.now)) (λ n. c.args.k < n) = subst (λ o. IsSomeAnd (member_count o) (λ n. c.args.k < n)) c.definition.ensures c.requires.k in
    rw c.type_of_member-wanted.ensures (part_within c.args.classes.now.definitions c.requires.graph c.args.t c.definition.result.now c.args.k c.definition.ensures counted)
