use Rattle.std.proofs.Common.{refl, ap, ◌∙◌, length}
use Rattle.run_state.specs.Held.{Held}
use Rattle.swap_acts.specs.StartLaws.{start_looks}
use Rattle.stack_moves.specs.Lemmas.EnteringViews.{no_misfit, lands_there, ready_takes}
use Rattle.swap_acts.proofs.StartViews.{few_threads, started_results, started_answered}
use Rattle.swap_acts.proofs.starting.start_on.Goals as goal

pub begin-requires-clause-there : goal.begin-requires-clause-there
begin-requires-clause-there g c =
    started_results c.args.code.now c.args.state.now _ _ _ c.args.own _ c.args.landing.arrival _ _ c.state.view_is c.requires.there (c.made-number.ensures ∙ ap (λ (s : Held). length s.seats.threads) c.state.view_is) c.requires.few c.requires.other c.requires.ready c.requires.lands c.in_ok-results.ensures

pub hand_over-requires : goal.hand_over-requires
hand_over-requires g c =
    no_misfit c.args.code.now _ _ c.args.landing.arrival _ _ _ c.requires.lands (start_looks c.args.code.now _ _ _ _ c.requires.there (few_threads _ c.requires.few) _ refl c.requires.other c.requires.ready)

pub begin-requires-clause-takes : goal.begin-requires-clause-takes
begin-requires-clause-takes g c =
    ready_takes c.args.code.now _ _ _ c.args.landing.arrival _ c.requires.ready c.requires.lands (start_looks c.args.code.now _ _ _ _ c.requires.there (few_threads _ c.requires.few) _ refl c.requires.other c.requires.ready) c.in_ok-handing.ensures

pub begin-requires-clause-lands : goal.begin-requires-clause-lands
begin-requires-clause-lands g c =
    lands_there c.args.code.now _ _ c.args.landing.arrival _ c.requires.lands (start_looks c.args.code.now _ _ _ _ c.requires.there (few_threads _ c.requires.few) _ refl c.requires.other c.requires.ready)

pub returns-clause-ok : goal.returns-clause-ok
returns-clause-ok g c =
    started_answered c.args.code.now c.args.state.now _ _ _ _ c.args.own _ c.args.landing.arrival _ _ c.begin.result c.state.view_is c.requires.there (c.made-number.ensures ∙ ap (λ (s : Held). length s.seats.threads) c.state.view_is) c.requires.few c.requires.other c.requires.ready c.requires.lands
    c.in_ok-results.ensures c.begin.ensures.ok
