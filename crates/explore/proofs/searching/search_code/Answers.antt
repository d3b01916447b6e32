use Rattle.std.proofs.Common.{refl}
use Rattle.std.specs.Prelude.{Ok, Err}
use Rattle.std.proofs.lemmas.Result.{err_from_is_err_and}
use Rattle.mu_texts.specs.declared.what.What.TheVariants.{Hail, Client, Schedule}
use Rattle.mu_command.specs.Allowed.{Seen}
use Rattle.mu_command.specs.Lemmas.Beginnings.{earlier}
use Rattle.explore.proofs.Together.{run_later, asked_later, none_made, none_asked, all_made}
use Rattle.explore.proofs.searching.search_code.Goals as goal

pub find_player-requires-clause-there : goal.find_player-requires-clause-there
find_player-requires-clause-there g c = c.requires.there.run

pub find_player-requires-clause-schedule : goal.find_player-requires-clause-schedule
find_player-requires-clause-schedule g c = c.requires.there.schedule

pub find_conditions-requires : goal.find_conditions-requires
find_conditions-requires g c = c.requires.there.condition

pub returns-in_err-player-clause-made : goal.returns-in_err-player-clause-made
returns-in_err-player-clause-made g c =
    let p = err_from_is_err_and c.from_residual.result c.from_residual.ensures.1 in
    rw (p.1, p.2) (none_made _ c.args.words.now c.args.asked c.args.code.now _ c.in_err-player.ensures.begun)

pub returns-in_err-conditions-clause-made : goal.returns-in_err-conditions-clause-made
returns-in_err-conditions-clause-made g c =
    let p = err_from_is_err_and c.from_residual-in_err-conditions.result c.from_residual-in_err-conditions.ensures.1 in
    let seen : Seen = record { told = g.I.Inputs.holds c.find_player.new.inputs; before = g.I.Inputs.faults c.find_player.new.inputs; now = g.I.Inputs.faults c.find_conditions.new.inputs } in
    let last : Seen = record { told = g.I.Inputs.holds c.args.inputs.now; before = g.I.Inputs.faults c.args.inputs.now; now = g.I.Inputs.faults c.find_conditions.new.inputs } in
    rw (p.1, p.2)
    (none_asked last c.args.words.now c.args.asked c.args.code.now c.in_ok-player.player c.find_player.new.names c.in_ok-player.ensures.same_code c.in_ok-player.ensures.ready c.in_ok-player.ensures.names
    (run_later _ _ c.args.words.now c.args.asked.run c.args.code.now (earlier _ _ _ _ _ Hail refl (λ s e. c.find_conditions.ensures.other_slots s (λ k. cc))) (earlier _ _ _ _ _ Client refl (λ s e. c.find_conditions.ensures.other_slots s (λ k. cc)))
    (earlier _ _ _ _ _ Schedule refl (λ s e. c.find_conditions.ensures.other_slots s (λ k. cc))) _ c.in_ok-player.ensures.begun) c.in_err-conditions.field-0.0
    (asked_later seen last c.args.words.now c.args.asked.condition c.find_player.new.names (Err c.in_err-conditions.field-0.0) c.find_player.ensures.same c.find_player.ensures.condition_slot refl c.in_err-conditions.ensures.asked))

pub returns-clause-made : goal.returns-clause-made
returns-clause-made g c =
    let seen : Seen = record { told = g.I.Inputs.holds c.find_player.new.inputs; before = g.I.Inputs.faults c.find_player.new.inputs; now = g.I.Inputs.faults c.find_conditions.new.inputs } in
    let last : Seen = record { told = g.I.Inputs.holds c.args.inputs.now; before = g.I.Inputs.faults c.args.inputs.now; now = g.I.Inputs.faults c.find_conditions.new.inputs } in
    all_made last c.args.words.now c.args.asked c.args.code.now c.in_ok-player.player c.find_player.new.names c.in_ok-player.ensures.same_code c.in_ok-player.ensures.ready c.in_ok-player.ensures.names
    (run_later _ _ c.args.words.now c.args.asked.run c.args.code.now (earlier _ _ _ _ _ Hail refl (λ s e. c.find_conditions.ensures.other_slots s (λ k. cc))) (earlier _ _ _ _ _ Client refl (λ s e. c.find_conditions.ensures.other_slots s (λ k. cc)))
    (earlier _ _ _ _ _ Schedule refl (λ s e. c.find_conditions.ensures.other_slots s (λ k. cc))) _ c.in_ok-player.ensures.begun) c.in_ok-conditions.conditions _ c.in_ok-made.made c.as_slice-list.ensures
    (asked_later seen last c.args.words.now c.args.asked.condition c.find_player.new.names (Ok c.in_ok-conditions.conditions) c.find_player.ensures.same c.find_player.ensures.condition_slot refl c.in_ok-conditions.ensures.asked) c.in_ok-made.ensures.searched
