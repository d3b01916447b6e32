use Rattle.std.proofs.Common.{◌≡◌, None, take}
use Rattle.hail_load.specs.Code.{code_of}
use Rattle.hail_load.specs.LoadAnswers.{loaded_from}
use Rattle.hail_load.specs.Answering.{AreThere, store_of}
use Rattle.hail_load.specs.Rooms.{AreRoomy}
use Rattle.hail_load.specs.Fills.{shown, Lags}
use Rattle.hail_load.proofs.loading.perform_all.Given as goal

abbrev pub invariant-loop-command : goal.invariant-loop-command
invariant-loop-command l = record {
  so_far : loaded_from (code_of l.loader.code.now) (shown l.fn.heap l.fn.fills) (take l.command-index l.fn.commands) ≡ record { store = store_of (shown l.heap l.fills) l.made; fault = None };
  lags : Lags l.heap l.fills;
  there : AreThere (code_of l.loader.code.now).graph l.made;
  roomy : AreRoomy (code_of l.loader.code.now) l.heap.objects l.made;
}
