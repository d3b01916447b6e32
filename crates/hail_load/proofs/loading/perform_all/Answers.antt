use Rattle.std.proofs.Common.{refl}
use Rattle.std.proofs.lemmas.Result.{err_from_is_err_and}
use Rattle.hail_load.specs.Code.{code_of}
use Rattle.hail_load.specs.Answering.{store_of}
use Rattle.hail_load.specs.Fills.{shown}
use Rattle.hail_load.specs.Lemmas.Steps.{none_there}
use Rattle.hail_load.proofs.Rooms.{roomy_first}
use Rattle.hail_load.proofs.Loads.{loads_more, loads_refused}
use Rattle.hail_load.proofs.loading.perform_all.Goals as goal

pub loop-command-init : goal.loop-command-init
loop-command-init c = rw c.new-made.ensures (record { so_far = refl; lags = c.requires.lags; there = none_there (code_of c.args.loader.code.now).graph; roomy = roomy_first (code_of c.args.loader.code.now) c.args.heap.now.objects c.requires.globals })

pub returns-in_err-perform-clause-loads : goal.returns-in_err-perform-clause-loads
returns-in_err-perform-clause-loads c =
    let p = err_from_is_err_and c.from_residual.result c.from_residual.ensures.1 in
    let code = code_of c.args.loader.code.now in
    let new = shown c.perform.new.heap c.perform.new.fills in
    rw (p.1, p.2) (loads_refused code (shown c.args.heap.now c.args.fills.now) (shown c.loop-command.heap c.loop-command.fills) new c.args.commands.now c.loop-command.command-index c.command-item.result c.loop-command.made (store_of new c.perform.new.made)
    c.in_err-perform.field-0.0 c.loop-command-test.true c.command-item.is c.loop-command.invariant.so_far c.in_err-perform.ensures.made c.in_err-perform.ensures.err)

pub loop-command-preserved : goal.loop-command-preserved
loop-command-preserved c =
    let code = code_of c.args.loader.code.now in
    record {
      so_far = loads_more code (shown c.args.heap.now c.args.fills.now) (shown c.loop-command.heap c.loop-command.fills) (shown c.perform.new.heap c.perform.new.fills) c.args.commands.now c.loop-command.command-index c.command-item.result c.loop-command.made c.perform.new.made
          c.loop-command-test.true c.command-item.is c.loop-command.invariant.so_far c.in_ok-perform.ensures.made;
      lags = c.perform.ensures.lags;
      there = c.in_ok-perform.ensures.there;
      roomy = c.in_ok-perform.ensures.roomy;
    }
