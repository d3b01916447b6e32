use Rattle.std.proofs.Common.{refl}
use Rattle.run_state.specs.ActLaws.{awaited_is}
use Rattle.run_state.specs.ActViews.{waits_at, kept_same, kept_is}
use Rattle.run_state.proofs.waiting.waiting_for.Goals as goal

pub handler-requires : goal.handler-requires
handler-requires c = (waits_at _ _ _ _ _ _ c.requires c.block-block.ensures c.as_slice.ensures c.index-as_slice-frame.is).exceptional

pub kept-requires : goal.kept-requires
kept-requires c = kept_same _ _ _ _ _ c.as_slice-2.ensures c.as_slice-3.ensures (waits_at _ _ _ _ _ _ c.requires c.block-block.ensures c.as_slice.ensures c.index-as_slice-frame.is).kept

pub returns : goal.returns
returns c =
    awaited_is _ _ _ _ _ _ c.block-block.ensures (waits_at _ _ _ _ _ _ c.requires c.block-block.ensures c.as_slice.ensures c.index-as_slice-frame.is).there refl c.in_ok-handler.ensures
    (kept_is _ _ _ _ _ _ c.as_slice-2.ensures c.as_slice-3.ensures c.in_ok-kept.ensures)
