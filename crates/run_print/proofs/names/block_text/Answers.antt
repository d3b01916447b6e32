use Rattle.std.proofs.Common.{◌≤◌, length, sym, append-nil, arith}
use Rattle.checked_code.specs.Checking.{bundle_blocks}
use Rattle.run_print.proofs.BlockNames.{no_block_named}
use Rattle.run_print.proofs.names.block_text.Goals as goal

pub returns-else-block-blocks-clause-appended : goal.returns-else-block-blocks-clause-appended
returns-else-block-blocks-clause-appended c =
    let few : length (bundle_blocks c.args.code.now) ≤ c.args.block = omega arith in
    rw (no_block_named c.args.code.now c.args.block few) (sym (append-nil c.args.out.now.items))
