use Rattle.std.proofs.Common.{◌≤◌, length, sym, append-nil, arith}
use Rattle.checked_code.specs.Checking.{bundle_functions}
use Rattle.run_print.proofs.FunctionNames.{no_function_named}
use Rattle.run_print.proofs.names.function_text.Goals as goal

pub returns-else-function-functions-clause-appended : goal.returns-else-function-functions-clause-appended
returns-else-function-functions-clause-appended c =
    let few : length (bundle_functions c.args.code.now) ≤ c.args.function = omega arith in
    rw (no_function_named c.args.code.now c.args.function few) (sym (append-nil c.args.out.now.items))
