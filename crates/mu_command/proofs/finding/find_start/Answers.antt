use Rattle.std.proofs.Common.{◌≡◌, ◌∙◌, ℕ, List, Ok, refl, sym, subst, arith}
use Rattle.std.proofs.lemmas.Result.{err_from_is_err_and}
use Rattle.mu_texts.specs.declared.what.What.TheVariants.{Hail, Client, Schedule}
use Rattle.mu_texts.specs.Answer.{Part, entered}
use Rattle.mu_command.specs.Parts.{OfRun}
use Rattle.mu_command.specs.Lemmas.Beginnings.{earlier, between, later, not_filled, not_scripted, not_scheduled, all_begun}
use Rattle.mu_command.proofs.finding.find_start.Goals as goal

abbrev entered_as : ℕ → Part ℕ
entered_as n = Ok n

pub returns-in_err-heap-clause-begun : goal.returns-in_err-heap-clause-begun
returns-in_err-heap-clause-begun g c =
    let p = err_from_is_err_and c.from_residual-in_err-heap.result c.from_residual-in_err-heap.ensures.1 in
    rw (p.1, p.2)
    (not_filled _ c.args.words.now c.args.run c.args.code.now c.find_heap.ensures.never_falls c.in_ok-entry.entry (subst (λ (name : List ℕ). entered c.args.code.now name ≡ entered_as c.in_ok-entry.entry) c.word.ensures c.in_ok-entry.ensures.number)
    _ _ (record { told = refl; before = refl; now = refl }) c.in_err-heap.ensures.judged)

pub returns-in_err-client-clause-begun : goal.returns-in_err-client-clause-begun
returns-in_err-client-clause-begun g c =
    let p = err_from_is_err_and c.from_residual-in_err-client.result c.from_residual-in_err-client.ensures.1 in
    rw (p.1, p.2)
    (not_scripted _ c.args.words.now c.args.run c.args.code.now (λ s. let a = c.find_heap.ensures.never_falls s in let b = c.find_client.ensures.never_falls s in omega (arith, a, b))
    c.in_ok-entry.entry (subst (λ (name : List ℕ). entered c.args.code.now name ≡ entered_as c.in_ok-entry.entry) c.word.ensures c.in_ok-entry.ensures.number)
    _ _ (earlier _ _ _ _ _ Hail refl (λ s e. c.find_client.ensures.other_slots s (λ k. cc))) c.in_ok-heap.ensures.judged
    _ _ (later _ _ _ _ _ Client c.find_heap.ensures.same (λ s e. c.find_heap.ensures.other_slots s (λ k. cc))) c.in_err-client.ensures.judged)

pub returns-in_err-picks-clause-begun : goal.returns-in_err-picks-clause-begun
returns-in_err-picks-clause-begun g c =
    let p = err_from_is_err_and c.from_residual-in_err-picks.result c.from_residual-in_err-picks.ensures.1 in
    rw (p.1, p.2)
    (not_scheduled _ c.args.words.now c.args.run c.args.code.now
    (λ s. let a = c.find_heap.ensures.never_falls s in let b = c.find_client.ensures.never_falls s in let d = c.find_picks.ensures.never_falls s in omega (arith, a, b, d))
    c.in_ok-entry.entry (subst (λ (name : List ℕ). entered c.args.code.now name ≡ entered_as c.in_ok-entry.entry) c.word.ensures c.in_ok-entry.ensures.number)
    _ _ (earlier _ _ _ _ _ Hail refl (λ s e. c.find_picks.ensures.other_slots s (λ k. cc) ∙ c.find_client.ensures.other_slots s (λ k. cc))) c.in_ok-heap.ensures.judged
    _ _ _ (between _ _ _ _ _ _ Client c.find_heap.ensures.same (λ s e. c.find_heap.ensures.other_slots s (λ k. cc)) (λ s e. c.find_picks.ensures.other_slots s (λ k. cc)))
    (later _ _ _ _ _ Schedule (c.find_client.ensures.same ∙ c.find_heap.ensures.same) (λ s e. c.find_client.ensures.other_slots s (λ k. cc) ∙ c.find_heap.ensures.other_slots s (λ k. cc)))
    c.in_ok-client.ensures.judged _ c.in_err-picks.ensures.judged)

pub returns-clause-begun : goal.returns-clause-begun
returns-clause-begun g c =
    subst (λ (k : ℕ). OfRun (record { told = g.I.Inputs.holds c.args.inputs.now; before = g.I.Inputs.faults c.args.inputs.now; now = g.I.Inputs.faults c.find_picks.new.inputs }) c.args.words.now c.args.run c.args.code.now (Ok (record { entry = c.in_ok-entry.entry; setting = record { objects = c.in_ok-heap.heap.objects; client = c.in_ok-client.client; picks = c.in_ok-picks.picks; cells = c.args.run.cells; budget = c.args.run.budget; rule = c.args.run.rule }; left = k })))
    (sym c.in_ok-heap.ensures.filled.left)
    (all_begun _ c.args.words.now c.args.run c.args.code.now
    (λ s. let a = c.find_heap.ensures.never_falls s in let b = c.find_client.ensures.never_falls s in let d = c.find_picks.ensures.never_falls s in omega (arith, a, b, d))
    c.in_ok-entry.entry (subst (λ (name : List ℕ). entered c.args.code.now name ≡ entered_as c.in_ok-entry.entry) c.word.ensures c.in_ok-entry.ensures.number)
    _ c.in_ok-heap.heap.objects (earlier _ _ _ _ _ Hail refl (λ s e. c.find_picks.ensures.other_slots s (λ k. cc) ∙ c.find_client.ensures.other_slots s (λ k. cc))) c.in_ok-heap.ensures.judged
    _ _ c.in_ok-client.client (between _ _ _ _ _ _ Client c.find_heap.ensures.same (λ s e. c.find_heap.ensures.other_slots s (λ k. cc)) (λ s e. c.find_picks.ensures.other_slots s (λ k. cc)))
    (later _ _ _ _ _ Schedule (c.find_client.ensures.same ∙ c.find_heap.ensures.same) (λ s e. c.find_client.ensures.other_slots s (λ k. cc) ∙ c.find_heap.ensures.other_slots s (λ k. cc)))
    c.in_ok-client.ensures.judged c.in_ok-picks.picks c.in_ok-picks.ensures.judged)
