use Rattle.std.proofs.Common.{refl}
use Rattle.stack_moves.specs.Lemmas.EnteringViews.{passes_there, passes_land}
use Rattle.stack_moves.proofs.arriving.pass_at.Goals as goal

pub passing-requires : goal.passing-requires
passing-requires c = passes_there c.args.code.now c.args.frames.now c.args.frames.now.top c.args.types.now.members c.args.values.now.values c.requires.same c.requires.there refl

pub returns : goal.returns
returns c = passes_land c.args.code.now c.args.frames.now c.args.frames.now.top c.args.types.now.members c.args.values.now.values _ _ _ c.requires.same refl c.in_ok-place.ensures
