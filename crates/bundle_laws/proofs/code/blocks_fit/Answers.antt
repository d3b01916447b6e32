use Rattle.bundle_laws.specs.Lemmas.TypedEndings.{block_fits}
use Rattle.bundle_laws.proofs.code.blocks_fit.Goals as goal

pub returns : goal.returns
returns c = block_fits
