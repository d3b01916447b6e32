use Rattle.std.proofs.Common.{◌∙◌}
use Rattle.explore.proofs.Listed.{is_search}
use Rattle.explore.proofs.Answering.{answered_whole}
use Rattle.explore.proofs.searching.make_runs.Goals as goal

pub returns-clause-searched : goal.returns-clause-searched
returns-clause-searched g c =
    let lines = rw c.is_complete-complete.ensures at c.in_ok-answered.ensures.lines in
    let status = rw c.is_complete-complete.ensures at c.in_ok-answered.ensures.status in
    is_search c.args.player.now c.in_ok-searched.searched.found c.search_text.ensures.ordered c.args.runs c.in_ok-searched.searched.left c.in_ok-searched.searched.says c.args.conditions.now c.in_ok-text.text.items
    _ c.search_status-status.result c.in_ok-answered.answered.status
    c.local_searches_are_complete.ensures.complete c.local_searches_are_complete.ensures.shown c.local_runs_are_among.ensures c.in_ok-searched.ensures.shown c.in_ok-searched.ensures.numbers c.in_ok-searched.ensures.found c.in_ok-searched.ensures.left c.in_ok-searched.ensures.says
    c.in_ok-searched.ensures.whole c.in_ok-text.ensures.text (c.as_slice-lines.ensures.value ∙ lines) status c.search_status-status.ensures

pub returns-clause-whole : goal.returns-clause-whole
returns-clause-whole g c = answered_whole _ c.args.conditions.now _ _ _ (rw c.is_complete-complete.ensures at c.in_ok-answered.ensures.status) c.search_status-status.ensures
