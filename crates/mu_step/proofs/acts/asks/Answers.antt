use Rattle.mu_step.proofs.AskViews.{asks_at, asks_classes, asks_same, asked_so, act_so}
use Rattle.mu_step.proofs.acts.asks.Goals as goal

pub decide-requires-clause-there : goal.decide-requires-clause-there
decide-requires-clause-there g c =
    asks_same c.args.code.now _ _ _ _ _ _ _
    (asks_at c.args.code.now _ _ _ _ _ _ c.state.view_is c.top-top.ensures c.requires.waits c.requires.there c.block-block.ensures c.as_slice.ensures c.index-as_slice-top.is)
    c.index-as_slice-top.is c.as_slice-2.ensures c.of.ensures

pub decide-requires-clause-classes : goal.decide-requires-clause-classes
decide-requires-clause-classes g c =
    asks_classes c.args.code.now _ _ _ _ _ c.forms_are_there.ensures c.items-items.ensures.named c.items-items.ensures.met c.block-block.ensures
    (asks_at c.args.code.now _ _ _ _ _ _ c.state.view_is c.top-top.ensures c.requires.waits c.requires.there c.block-block.ensures c.as_slice.ensures c.index-as_slice-top.is)
    c.index-as_slice-top.is

pub returns-clause-act : goal.returns-clause-act
returns-clause-act g c =
    asked_so c.args.code.now _ _ _ _ _ _ _ _ _
    (asks_at c.args.code.now _ _ _ _ _ _ c.state.view_is c.top-top.ensures c.requires.waits c.requires.there c.block-block.ensures c.as_slice.ensures c.index-as_slice-top.is)
    c.index-as_slice-top.is c.as_slice-2.ensures c.of.ensures c.decide.ensures.act

pub returns-clause-asked : goal.returns-clause-asked
returns-clause-asked g c =
    act_so c.args.code.now _ _ _ _ _ _ _ _ _
    (asks_at c.args.code.now _ _ _ _ _ _ c.state.view_is c.top-top.ensures c.requires.waits c.requires.there c.block-block.ensures c.as_slice.ensures c.index-as_slice-top.is)
    c.index-as_slice-top.is c.as_slice-2.ensures c.of.ensures c.decide.ensures.act
