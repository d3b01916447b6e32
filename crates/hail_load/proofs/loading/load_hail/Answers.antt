use Rattle.std.proofs.Common.{◌≡◌, List, refl, ap, subst}
use Rattle.hail_load.specs.declared.fills.Fill.{Fill}
use Rattle.hail_load.specs.declared.tree.Command.{Command}
use Rattle.hail_load.specs.Code.{code_of}
use Rattle.hail_load.specs.LoadAnswers.{Loads}
use Rattle.hail_load.specs.Fills.{made, shown}
use Rattle.hail_load.proofs.Lagging.{loads_settled}
use Rattle.hail_load.proofs.Making.{lags_none}
use Rattle.hail_load.specs.Lemmas.Steps.{globals_whole}
use Rattle.hail_load.proofs.loading.load_hail.Goals as goal

pub perform_all-result-requires-clause-lags : goal.perform_all-result-requires-clause-lags
perform_all-result-requires-clause-lags c =
    lags_none c.args.heap.now c.new-fills.result (globals_whole (code_of c.args.code.now) c.args.heap.now.objects c.requires) c.new-fills.ensures.fills c.new-fills.ensures.rows c.new-fills.ensures.cells

pub returns : goal.returns
returns c =
    let code = code_of c.args.code.now in
    let was = shown c.args.heap.now c.new-fills.result in
    let now = shown c.perform_all-result.new.heap c.perform_all-result.new.fills in
    let result = c.perform_all-result.result in
    let begun = ap (λ (fs : List Fill). made c.args.heap.now.objects fs) c.new-fills.ensures.fills in
    let loads = subst (λ (commands : List Command). Loads code commands was now result) c.as_slice.ensures c.perform_all-result.ensures.loads in
    loads_settled code c.args.hail.now c.args.heap.now was now c.settle.new.heap result begun refl c.settle.ensures.objects c.settle.ensures.left loads
