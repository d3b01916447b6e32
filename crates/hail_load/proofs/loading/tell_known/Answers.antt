use Rattle.hail_load.specs.Lemmas.Knowing.{is_known}
use Rattle.hail_load.proofs.loading.tell_known.Goals as goal

pub returns : goal.returns
returns c = is_known c.args.code.now c.items-items.ensures.met
