use Rattle.run_state.specs.Kept.{kept_even}
use Rattle.run_state.proofs.waiting.kept.Goals as goal

pub new-requires : goal.new-requires
new-requires c = kept_even c.args.types.now c.of.result c.args.names.now _ c.in_ok-read_kept.ensures
