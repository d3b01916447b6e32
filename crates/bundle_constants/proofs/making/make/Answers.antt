use Rattle.std.proofs.Common.{refl}
use Rattle.bundle_constants.proofs.Passes.{one_more}
use Rattle.bundle_constants.proofs.making.make.Goals as goal

pub returns-clause-making : goal.returns-clause-making
returns-clause-making c =
    let constants = c.args.constants.now in
    one_more c.args.classes.now.definitions constants c.requires.lawful c.args.making.now _ c.args.n c.in_ok-value.value.members
    c.requires.n c.requires.making c.requires.ready
    refl c.in_ok-value.ensures c.in_ok-add.ensures.added c.in_ok-add.ensures.others
