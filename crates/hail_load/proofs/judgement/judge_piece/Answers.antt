use Rattle.std.proofs.Common.{◌≡◌, ◌∷◌, OnOk, List}
use Rattle.std.specs.List.{All}
use Rattle.std.proofs.lemmas.List.Elements.{All-head, All-tail}
use Rattle.hail_load.specs.declared.parts.Part.{Part}
use Rattle.hail_load.specs.Code.{code_of}
use Rattle.hail_load.specs.Parts.{parts_of}
use Rattle.hail_load.specs.Judging.{wanted_by, part_scalars, judged}
use Rattle.hail_load.specs.Answering.{GoesOn, behind, IsThere, store_of}
use Rattle.hail_load.specs.Lemmas.Steps.{list_step, plain_step, list_there, plain_is, on_ok}
use Rattle.hail_load.proofs.judgement.judge_piece.Goals as goal

pub returns-in-List : goal.returns-in-List
returns-in-List c =
    let code = code_of c.args.scene.code.now in
    let store = store_of c.args.scene.heap.now c.args.scene.made.now in
    let first : c.args.parts.now ≡ c.in-Some.part ∷ c.next.new.self = rw c.in-Some.is at c.in_ok-part.ensures.some in
    let wanted = wanted_by c.in-List.place c.in-List.length (parts_of code.graph c.in-Some.part) in
    let pushed = rw c.classes.ensures.same at c.push_parts.ensures in
    let there = rw first at c.requires.parts in
    let told : GoesOn (behind c.args.scalars.now (judged code store c.args.parts.now (c.args.piece.now ∷ c.args.more.now))) (behind c.args.scalars.now (judged code store c.push_parts.new.parts c.args.more.now)) c.push_parts.result =
    rw (first, c.in-List.is) (list_step wanted (λ (ps : List Part). judged code store ps c.args.more.now) c.args.scalars.now c.next.new.self c.push_parts.new.parts c.push_parts.result pushed) in
    let parts : OnOk c.push_parts.result (All (IsThere code.graph) c.push_parts.new.parts) =
    list_there code.graph c.requires.known.graph c.in-Some.part c.in-List.place c.in-List.length c.next.new.self c.push_parts.new.parts c.push_parts.result
    (All-head (IsThere code.graph) c.in-Some.part c.next.new.self there) (All-tail (IsThere code.graph) c.in-Some.part c.next.new.self there) pushed in
    record { told = told; parts = parts }

pub returns-in_default-piece : goal.returns-in_default-piece
returns-in_default-piece c =
    let code = code_of c.args.scene.code.now in
    let store = store_of c.args.scene.heap.now c.args.scene.made.now in
    let first : c.args.parts.now ≡ c.in-Some.part ∷ c.next.new.self = rw c.in-Some.is at c.in_ok-part.ensures.some in
    let there = rw first at c.requires.parts in
    let plain = plain_is code store c.in-Some.part c.next.new.self c.args.piece.now c.args.more.now c.in_default.not-Index c.in_default-piece.not-List in
    let told : GoesOn (behind c.args.scalars.now (judged code store c.args.parts.now (c.args.piece.now ∷ c.args.more.now))) (behind c.part_scalars.new.scalars (judged code store c.next.new.self c.args.more.now)) c.part_scalars.result =
    rw (first, plain) (plain_step (part_scalars code store c.in-Some.part c.args.piece.now c.args.more.now) (judged code store c.next.new.self c.args.more.now) c.args.scalars.now c.part_scalars.new.scalars c.part_scalars.result c.part_scalars.ensures) in
    let parts : OnOk c.part_scalars.result (All (IsThere code.graph) c.next.new.self) =
    on_ok c.part_scalars.result (All (IsThere code.graph) c.next.new.self) (All-tail (IsThere code.graph) c.in-Some.part c.next.new.self there) in
    record { told = told; parts = parts }
