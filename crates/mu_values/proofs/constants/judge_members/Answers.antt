use Rattle.std.proofs.Common.{◌∙◌, sym, length, slice_get}
use Rattle.mu_values.proofs.Members.{members_next}
use Rattle.mu_values.proofs.constants.judge_members.Goals as goal

pub loop-k-preserved : goal.loop-k-preserved
loop-k-preserved c =
    let graph = c.args.classes.now.definitions in
    let met = sym c.member_fits.ensures ∙ c.if-not-member_fits.false in
    sym (members_next graph c.args.types.now (slice_get graph c.args.t) c.args.members.now c.args.places.now (length c.args.members.now) c.loop-k.k c.loop-k-test.true met) ∙ c.loop-k.invariant
