use Rattle.mu_step.proofs.AskViews.{asks_at, asks_same}
use Rattle.mu_step.proofs.AtOnce.{asked_at_once, cases_stand}
use Rattle.mu_step.proofs.at_once.asks_at_once.Goals as goal

pub decide_at_once-requires-clause-there : goal.decide_at_once-requires-clause-there
decide_at_once-requires-clause-there g c =
    asks_same c.args.code.now _ _ _ _ _ _ _
    (asks_at c.args.code.now _ _ _ _ _ _ c.state.view_is c.top-top.ensures c.requires.waits c.requires.there c.block-block.ensures c.as_slice.ensures c.index-as_slice-top.is)
    c.index-as_slice-top.is c.as_slice-2.ensures c.of-vars.ensures

pub decide_at_once-requires-clause-place : goal.decide_at_once-requires-clause-place
decide_at_once-requires-clause-place g c =
    cases_stand c.args.code.now _ _ _ _ _
    (asks_at c.args.code.now _ _ _ _ _ _ c.state.view_is c.top-top.ensures c.requires.waits c.requires.there c.block-block.ensures c.as_slice.ensures c.index-as_slice-top.is)
    c.index-as_slice-top.is c.block-block.ensures

pub returns-clause-act : goal.returns-clause-act
returns-clause-act g c =
    asked_at_once c.args.code.now _ _ _ _ _ _ _ _
    (asks_at c.args.code.now _ _ _ _ _ _ c.state.view_is c.top-top.ensures c.requires.waits c.requires.there c.block-block.ensures c.as_slice.ensures c.index-as_slice-top.is)
    c.index-as_slice-top.is c.as_slice-2.ensures c.of-vars.ensures c.decide_at_once.ensures.act
