use Rattle.bundle_laws.proofs.TypedGifts.{gives_nothing}
use Rattle.bundle_laws.proofs.code.endings_give_nothing.Goals as goal

pub returns : goal.returns
returns c = gives_nothing
