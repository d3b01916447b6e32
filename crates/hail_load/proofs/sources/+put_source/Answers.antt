use Rattle.std.proofs.Common.{◌≡◌, ◌<◌, ◌⊎◌, [], ◌∷◌, true, false, drop, ◌+◌, sym, ap, ◌∙◌, inl, inr, arith}
use Rattle.std.proofs.lemmas.Result.{err_from_is_err_and}
use Rattle.text_forms.specs.declared.symbol.Symbol.TheVariants as symbols
use Rattle.text_forms.specs.Tokens.{at}
use Rattle.text_forms.specs.Reading.{read}
use Rattle.text_forms.specs.Answers.{with_front}
use Rattle.text_forms.specs.Lemmas.Lists.{shorter}
use Rattle.hail_load.specs.declared.tree.Piece.TheVariants as pieces
use Rattle.hail_load.specs.Sources.{element, list, source}
use Rattle.hail_load.proofs.Nested.{element_plain, read_list, read_plain}
use Rattle.hail_load.proofs.MemberLoops.{begins_so_far, begins_not, goes_on, fails_with, is_done, was_read, fault_anywhere, fault_from, none_behind, more_behind, last_put, told_length}
use Rattle.hail_load.proofs.sources.+put_source.Goals as goal
use Rattle.hail_load.proofs.sources.+put_source.Goals.{put_source-else-depth-gt0-via-then-depth-gt0+else-at, put_source-else-depth-gt0-via-else-depth-gt0}

pub put_list-each-init : goal.put_list-each-init
put_list-each-init t c =
    let none = none_behind c.args.out.now (pieces.List c.in_ok-place.place 0) c.len-head.result c.push.new.self c.len-head.ensures c.in_ok-push.ensures.ok in
    record {
      behind = none.0;
      so_far = rw (none.1, c.new-members.ensures) (begins_so_far c.args.depth c.in_ok-place.place c.args.cursor.now c.mark.new.self c.in_ok-place.ensures.read);
    }

pub put_list-returns-in_err-put_element : goal.put_list-returns-in_err-put_element
put_list-returns-in_err-put_element t c =
    let p = err_from_is_err_and c.from_residual-in_err-put_element.result c.from_residual-in_err-put_element.ensures.1 in
    let total = read (list (source c.args.depth)) c.args.cursor.now in
    let e = c.in_err-put_element.field-0.0 in
    let rest = c.put_element.new.cursor in
    rw (p.1, p.2) (fault_anywhere c.args.out.now e rest total
    (fails_with c.args.depth c.in_ok-place.place c.each.members (drop (c.len-head.result + 1) c.each.out) c.each.cursor rest total e (sym c.each-test.ensures)
    (fault_from c.each.out e rest (read (element (source c.args.depth) c.each.members.leads) c.each.cursor) c.in_err-put_element.ensures) c.each.invariant.so_far))

pub put_list-each-smaller : goal.put_list-each-smaller
put_list-each-smaller t c =
    let one = element (source c.args.depth) c.each.members.leads in
    let r = was_read c.each.out c.put_element.new.out c.put_element.new.cursor (read one c.each.cursor) c.in_ok-put_element.ensures in
    shorter one (element_plain c.args.depth c.each.members.leads).element 0 c.each.cursor r.own c.put_element.new.cursor r.read_so

pub put_list-each-preserved : goal.put_list-each-preserved
put_list-each-preserved t c =
    let one = element (source c.args.depth) c.each.members.leads in
    let r = was_read c.each.out c.put_element.new.out c.put_element.new.cursor (read one c.each.cursor) c.in_ok-put_element.ensures in
    let more = more_behind c.args.out.now (pieces.List c.in_ok-place.place 0) c.len-head.result c.each.out r.own c.put_element.new.out c.len-head.ensures c.each.invariant.behind r.all_are in
    let last : c.from.result.now ≡ r.own = c.from.ensures ∙ last_put c.each.out r.own c.put_element.new.out c.len-from.result c.len-from.ensures r.all_are in
    record {
      behind = more.0;
      so_far = rw (more.1, c.in_ok-add.ensures, last) (goes_on c.args.depth c.in_ok-place.place c.each.members (drop (c.len-head.result + 1) c.each.out) c.each.cursor r.own c.put_element.new.cursor
          (read (list (source c.args.depth)) c.args.cursor.now) (sym c.each-test.ensures) r.read_so c.each.invariant.so_far);
    }

pub put_list-returns : goal.put_list-returns
put_list-returns t c =
    let rest = drop (c.len-head.result + 1) c.each.out in
    let done = is_done c.args.depth c.in_ok-place.place c.each.members rest c.each.cursor (read (list (source c.args.depth)) c.args.cursor.now) (sym c.each-test.ensures) c.each.invariant.so_far in
    let told = told_length c.args.out.now (pieces.List c.in_ok-place.place 0) (pieces.List c.in_ok-place.place c.each.members.length) c.len-head.result c.each.out c.len-head.ensures c.each.invariant.behind in
    rw (c.bump.ensures, c.set.ensures, told) (ap (with_front c.args.out.now) done)

pub put_list-returns-in_err-place : goal.put_list-returns-in_err-place
put_list-returns-in_err-place t c =
    let p = err_from_is_err_and c.from_residual.result c.from_residual.ensures.1 in
    let e = c.in_err-place.field-0.0 in
    rw (p.1, p.2) (fault_anywhere c.args.out.now e c.mark.new.self (read (list (source c.args.depth)) c.args.cursor.now) (begins_not (source c.args.depth) c.args.cursor.now c.mark.new.self e c.in_err-place.ensures.read))

pub put_source-returns-then-at : goal.put_source-returns-then-at
put_source-returns-then-at t c =
    let some : 0 < c.args.depth = omega arith in
    let here : at (symbols.BraceOpen ∷ []) c.args.cursor.now ≡ true = cc in
    rw (read_list c.args.depth c.args.cursor.now some here) c.put_list.ensures

pub put_source-returns-else-depth-gt0 : goal.put_source-returns-else-depth-gt0
put_source-returns-else-depth-gt0 t c =
    let off : (c.args.depth ≡ 0) ⊎ (at (symbols.BraceOpen ∷ []) c.args.cursor.now ≡ false) = elim c.else-depth-gt0.branch [
      | put_source-else-depth-gt0-via-then-depth-gt0+else-at w ↦ inr (sym w.at.ensures ∙ w.if-at.false)
      | put_source-else-depth-gt0-via-else-depth-gt0 w ↦ inl (omega arith)
    ] in
    rw (read_plain c.args.depth c.args.cursor.now off) c.put_plain.ensures
