use Rattle.hail_load.specs.Lemmas.Referring.{refers_where_it_fits}
use Rattle.hail_load.proofs.laws.refers_where_it_fits.Goals as goal

pub returns : goal.returns
returns c = refers_where_it_fits
