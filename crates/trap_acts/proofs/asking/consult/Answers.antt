use Rattle.std.proofs.Common.{ap, sym, ◌∙◌}
use Rattle.frames.specs.Chains.{chain_of, frames_in}
use Rattle.run_state.specs.Held.{Held}
use Rattle.run_state.specs.Hand.{hand_within}
use Rattle.trap_acts.proofs.TrapViews.{wait_again, frames_back_again, shown_frames, shown_seats, shown_by, held_again, seen_so}
use Rattle.trap_acts.proofs.asking.consult.Goals as goal

pub returns-clause-answer : goal.returns-clause-answer
returns-clause-answer g c =
    let low = hand_within _ _ _ _ _ c.state.invariant.5 (ap (λ (s : Held). s.left) c.state.view_is ∙ c.requires.left) in
    let there = shown_by _ _ _ _ _ _ low c.exchange.ensures.seats (ap (λ (s : Held). s.thread) c.state.view_is ∙ sym c.requires.thread) in
    seen_so g.C.Determined.way c.ask-answer.result c.args.view.now.tables c.args.state.now _ c.args.view.now c.args.wait.now _ c.state.view_is c.requires.thread c.requires.asked (ap chain_of c.exchange_on_top.ensures.frames)
    (c.ask-answer.ensures.answer (frames_in c.exchange_on_top.new.frames) there)

pub returns-clause-same : goal.returns-clause-same
returns-clause-same g c =
    let low = hand_within _ _ _ _ _ c.state.invariant.5 (ap (λ (s : Held). s.left) c.state.view_is ∙ c.requires.left) in
    let there = shown_by _ _ _ _ _ _ low c.exchange.ensures.seats (ap (λ (s : Held). s.thread) c.state.view_is ∙ sym c.requires.thread) in
    let same = c.ask-answer.ensures.same (frames_in c.exchange_on_top.new.frames) there in
    let frames = shown_frames _ _ _ _ _ (chain_of c.exchange_on_top.new.frames) (chain_of c.exchange-2.new.frames) low c.exchange.ensures.seats same c.exchange-2.ensures.frames in
    held_again _ _ _ _ _ _ _ _ _ _ _ _ _ _ _ _ _ _ (frames_back_again _ _ _ _ _ (ap chain_of c.exchange_on_top.ensures.before) frames (ap chain_of c.exchange_on_top-2.ensures.frames))
    (shown_seats _ _ _ _ _ _ _ _ c.exchange.ensures.seats same c.exchange-2.ensures.seats c.exchange.ensures.frames) c.state.view_is

pub returns-clause-wait : goal.returns-clause-wait
returns-clause-wait g c =
    let low = hand_within _ _ _ _ _ c.state.invariant.5 (ap (λ (s : Held). s.left) c.state.view_is ∙ c.requires.left) in
    let there = shown_by _ _ _ _ _ _ low c.exchange.ensures.seats (ap (λ (s : Held). s.thread) c.state.view_is ∙ sym c.requires.thread) in
    let same = c.ask-answer.ensures.same (frames_in c.exchange_on_top.new.frames) there in
    let frames = shown_frames _ _ _ _ _ (chain_of c.exchange_on_top.new.frames) (chain_of c.exchange-2.new.frames) low c.exchange.ensures.seats same c.exchange-2.ensures.frames in
    wait_again (chain_of c.state.inside.frames) (chain_of c.exchange_on_top.new.frames) (chain_of c.exchange_on_top-2.new.frames) c.args.wait.now c.exchange_on_top-2.new.waiting (ap chain_of c.exchange_on_top.ensures.frames) (ap chain_of c.exchange_on_top-2.ensures.before ∙ frames)
