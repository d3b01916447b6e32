use Rattle.std.proofs.Common.{◌≡◌, [], ◌∷◌, Ok, Err, List, sym, ap, subst, ◌∙◌}
use Rattle.std.proofs.lemmas.Result.{err_from_is_err_and}
use Rattle.mu_values.specs.declared.scalars.Scalar.{Scalar}
use Rattle.hail_load.specs.Code.{code_of}
use Rattle.hail_load.specs.Parts.{target_spot}
use Rattle.hail_load.specs.Fitting.{Scalars}
use Rattle.hail_load.specs.Judging.{judged}
use Rattle.hail_load.specs.Gathered.{gathered}
use Rattle.hail_load.specs.Answering.{Makes, behind, store_of}
use Rattle.hail_load.proofs.Lagging.{behind_none, source_done, source_refused}
use Rattle.hail_load.proofs.Rooms.{source_room}
use Rattle.hail_load.proofs.loading.init.Goals as goal

pub returns-in_err-judge-clause-made : goal.returns-in_err-judge-clause-made
returns-in_err-judge-clause-made c =
    let p = err_from_is_err_and c.from_residual-in_err-judge.result c.from_residual-in_err-judge.ensures.1 in
    let code = code_of c.args.loader.code.now in
    let target = c.args.target.now in
    let found : target_spot code c.args.made.now target.root target.indexes ≡ Ok c.in_ok-spot.spot = rw c.as_slice.ensures at c.in_ok-spot.ensures.told in
    let wanted = judged code (store_of c.args.heap.now c.args.made.now) (c.in_ok-spot.spot.part ∷ []) c.args.source.now in
    let refused = subst (λ (ss : List Scalar). Makes (behind ss wanted) c.judge.new.scalars (Err c.in_err-judge.field-0.0)) c.clear.ensures c.in_err-judge.ensures in
    rw (p.1, p.2) (source_refused code c.args.heap.now c.args.heap.now c.args.fills.now c.args.fills.now c.args.made.now c.args.made.now target c.args.source.now c.in_ok-spot.spot c.judge.new.scalars c.in_err-judge.field-0.0 found refused)

pub returns-clause-made : goal.returns-clause-made
returns-clause-made c =
    let code = code_of c.args.loader.code.now in
    let target = c.args.target.now in
    let spot = c.in_ok-spot.spot in
    let found : target_spot code c.args.made.now target.root target.indexes ≡ Ok spot = rw c.as_slice.ensures at c.in_ok-spot.ensures.told in
    let told : behind [] (judged code (store_of c.args.heap.now c.args.made.now) (spot.part ∷ []) c.args.source.now) ≡ Ok c.judge.new.scalars =
    ap (λ (ss : List Scalar). behind ss (judged code (store_of c.args.heap.now c.args.made.now) (spot.part ∷ []) c.args.source.now)) (sym c.clear.ensures) ∙ c.in_ok-judge.ensures in
    let all : judged code (store_of c.args.heap.now c.args.made.now) (spot.part ∷ []) c.args.source.now ≡ Ok (gathered c.as_slice-2.result.now) =
    behind_none _ c.judge.new.scalars told ∙ ap (λ (ss : List Scalar). let r : Scalars = Ok ss in r) (sym c.as_slice-2.ensures) in
    source_done code c.args.heap.now c.add.new.heap c.args.fills.now c.add.new.self c.args.made.now target c.args.source.now spot (gathered c.as_slice-2.result.now) found all c.in_ok-add.ensures.filled c.add.ensures.left

pub add-requires-clause-room : goal.add-requires-clause-room
add-requires-clause-room c =
    let code = code_of c.args.loader.code.now in
    let s = store_of c.args.heap.now c.args.made.now in
    let target = c.args.target.now in
    let spot = c.in_ok-spot.spot in
    let found : target_spot code c.args.made.now target.root target.indexes ≡ Ok spot = rw c.as_slice.ensures at c.in_ok-spot.ensures.told in
    let told : behind [] (judged code s (spot.part ∷ []) c.args.source.now) ≡ Ok c.judge.new.scalars =
    ap (λ (ss : List Scalar). behind ss (judged code s (spot.part ∷ []) c.args.source.now)) (sym c.clear.ensures) ∙ c.in_ok-judge.ensures in
    let all : judged code s (spot.part ∷ []) c.args.source.now ≡ Ok (gathered c.as_slice-2.result.now) =
    behind_none _ c.judge.new.scalars told ∙ ap (λ (ss : List Scalar). let r : Scalars = Ok ss in r) (sym c.as_slice-2.ensures) in
    source_room code c.requires.known s target.root target.indexes c.args.source.now spot (gathered c.as_slice-2.result.now) c.requires.roomy c.in_ok-spot.ensures.part found all
