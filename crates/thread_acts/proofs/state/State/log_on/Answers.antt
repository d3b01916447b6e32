use Rattle.std.proofs.Common.{IsSome, ◌∙◌, ap, sym, subst}
use Rattle.frames.specs.FrameOf.{frame_of}
use Rattle.run_state.specs.Held.{Held}
use Rattle.run_state.specs.Acting.{goes_on}
use Rattle.run_state.specs.ActLaws.{goes_on_there}
use Rattle.memory_acts.specs.AccessViews.{logged_on, next_of}
use Rattle.thread_acts.proofs.state.State.log_on.Goals as goal

pub next_place-requires : goal.next_place-requires
next_place-requires g c =
    let same = c.top.ensures ∙ ap (λ (s : Held). s.frames.top) c.self.view_is in
    λ fresh. goes_on_there _ (frame_of c.top.result.now) c.args.results.now.values fresh (subst (λ f. IsSome (goes_on c.args.code.now f c.args.results.now.values)) (sym same) c.requires.there)

pub passing-requires : goal.passing-requires
passing-requires g c =
    let same = c.top-in-None.ensures ∙ ap (λ (s : Held). s.frames.top) c.self.view_is in
    subst (λ f. IsSome (goes_on c.args.code.now f c.args.results.now.values)) (sym same) c.requires.there

pub returns-in_ok-place-in-None-clause-ok : goal.returns-in_ok-place-in-None-clause-ok
returns-in_ok-place-in-None-clause-ok g c =
    let same = c.top-in-None.ensures ∙ ap (λ (s : Held). s.frames.top) c.self.view_is in
    logged_on c.args.code.now c.args.self.now _ _ _ _ _ _ _ _ c.log.result same c.in_ok-place-in-None.ensures c.log.ensures.ok

pub returns-in-Some-clause-ok : goal.returns-in-Some-clause-ok
returns-in-Some-clause-ok g c =
    let same = c.top.ensures ∙ ap (λ (s : Held). s.frames.top) c.self.view_is in
    logged_on c.args.code.now c.args.self.now _ _ _ _ _ _ _ _ c.log_next.result same (next_of _ _ _ _ _ same (c.in-Some.ensures _)) c.log_next.ensures.ok
