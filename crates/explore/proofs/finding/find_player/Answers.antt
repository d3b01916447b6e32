use Rattle.std.proofs.Common.{◌≡◌, ℕ, List, Ok, refl, subst, arith}
use Rattle.std.proofs.lemmas.Result.{err_from_is_err_and}
use Rattle.mu_texts.specs.declared.what.What.TheVariants.{Hail, Client}
use Rattle.mu_texts.specs.Answer.{Part, entered}
use Rattle.mu_command.specs.Lemmas.Beginnings.{earlier, later, not_filled, not_scripted}
use Rattle.explore.proofs.Files.{entry_stops, hail_of, is_ready, player_begins}
use Rattle.explore.proofs.finding.find_player.Goals as goal

abbrev entered_as : ℕ → Part ℕ
entered_as n = Ok n

pub returns-in_err-entry-clause-begun : goal.returns-in_err-entry-clause-begun
returns-in_err-entry-clause-begun g c =
    let p = err_from_is_err_and c.from_residual.result c.from_residual.ensures.1 in
    rw (p.1, p.2) (entry_stops _ c.args.words.now c.args.run c.args.code.now (λ s. omega arith) _ c.word.ensures _ c.in_err-entry.ensures.number)

pub returns-in_err-filled-clause-begun : goal.returns-in_err-filled-clause-begun
returns-in_err-filled-clause-begun g c =
    let p = err_from_is_err_and c.from_residual-in_err-filled.result c.from_residual-in_err-filled.ensures.1 in
    rw (p.1, p.2)
    (not_filled _ c.args.words.now c.args.run c.args.code.now c.find_hail.ensures.never_falls c.in_ok-entry.entry (subst (λ (name : List ℕ). entered c.args.code.now name ≡ entered_as c.in_ok-entry.entry) c.word.ensures c.in_ok-entry.ensures.number)
    _ _ (record { told = refl; before = refl; now = refl }) c.in_err-filled.ensures.filled)

pub returns-in_err-client-clause-begun : goal.returns-in_err-client-clause-begun
returns-in_err-client-clause-begun g c =
    let p = err_from_is_err_and c.from_residual-in_err-client.result c.from_residual-in_err-client.ensures.1 in
    rw (p.1, p.2)
    (not_scripted _ c.args.words.now c.args.run c.args.code.now (λ s. let a = c.find_hail.ensures.never_falls s in let b = c.find_client.ensures.never_falls s in omega (arith, a, b))
    c.in_ok-entry.entry (subst (λ (name : List ℕ). entered c.args.code.now name ≡ entered_as c.in_ok-entry.entry) c.word.ensures c.in_ok-entry.ensures.number)
    _ _ (earlier _ _ _ _ _ Hail refl (λ s e. c.find_client.ensures.other_slots s (λ k. cc))) (hail_of _ _ _ _ c.in_ok-filled.filled c.in_ok-filled.ensures.filled)
    _ _ (later _ _ _ _ _ Client c.find_hail.ensures.same (λ s e. c.find_hail.ensures.other_slots s (λ k. cc))) c.in_err-client.ensures.given)

pub returns-clause-begun : goal.returns-clause-begun
returns-clause-begun g c =
    player_begins c.args.run c.args.code.now c.in_ok-entry.entry c.in_ok-filled.filled c.in_ok-client.client _ c.args.words.now
    (λ s. let a = c.find_hail.ensures.never_falls s in let b = c.find_client.ensures.never_falls s in omega (arith, a, b))
    (subst (λ (name : List ℕ). entered c.args.code.now name ≡ entered_as c.in_ok-entry.entry) c.word.ensures c.in_ok-entry.ensures.number) c.requires.schedule
    _ _ c.new-player.result c.new-player.ensures (earlier _ _ _ _ _ Hail refl (λ s e. c.find_client.ensures.other_slots s (λ k. cc)))
    (later _ _ _ _ _ Client c.find_hail.ensures.same (λ s e. c.find_hail.ensures.other_slots s (λ k. cc))) c.in_ok-filled.ensures.filled c.in_ok-client.ensures.given

pub returns-clause-ready : goal.returns-clause-ready
returns-clause-ready g c =
    is_ready c.args.run c.args.code.now c.in_ok-entry.entry c.in_ok-filled.filled c.in_ok-client.client _ _ c.args.words.now c.new-player.result c.new-player.ensures c.in_ok-filled.ensures.filled c.in_ok-client.ensures.given
    c.in_ok-entry.ensures.begins c.requires.there.budget
