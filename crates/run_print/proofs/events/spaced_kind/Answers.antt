use Rattle.run_print.proofs.Spaces.{on_err_behind}
use Rattle.run_print.proofs.events.spaced_kind.Goals as goal

pub returns-clause-begins : goal.returns-clause-begins
returns-clause-begins c = on_err_behind c.kind_text.result _ _ _ _ c.in_ok-extend_from_slice.ensures.items c.kind_text.ensures.begins
