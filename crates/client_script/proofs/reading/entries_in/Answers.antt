use Rattle.std.proofs.Common.{sym}
use Rattle.client_script.proofs.reading.entries_in.Goals as goal

pub returns : goal.returns
returns c = rw (sym c.in_ok-shared.ensures, sym c.new.ensures) c.entries.ensures
