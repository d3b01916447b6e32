use Rattle.loaded_programs.proofs.Fitted.{scripts_begin_with_globals}
use Rattle.loaded_programs.proofs.laws.scripts_begin_with_globals.Goals as goal

pub returns : goal.returns
returns c = scripts_begin_with_globals
