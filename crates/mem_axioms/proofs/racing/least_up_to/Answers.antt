use Rattle.std.proofs.Common.{◌≡◌, ◌∙◌, Some, Bool, List, ◌∷◌, ℕ, sym, reverse, take, arith}
use Rattle.std.proofs.lemmas.List.{length-reverse}
use Rattle.mem_axioms.specs.Logs.{least_event}
use Rattle.mem_axioms.specs.Races.{races}
use Rattle.mem_axioms.specs.declared.types.Event.{Event}
use Rattle.mem_axioms.specs.Lemmas.Numbers.{event-exists}
use Rattle.mem_axioms.proofs.Reversed.{reverse_more}
use Rattle.mem_axioms.proofs.racing.least_up_to.Goals as goal

-- a newer event is not the least where an older one passes
least_kept : (test : ℕ → Event → Bool) (e : Event) (past : List Event) (j : ℕ) → least_event test past ≡ Some j → least_event test (e ∷ past) ≡ Some j
least_kept test e past j p = rw (p, least_event)

pub returns-in-Some : goal.returns-in-Some
returns-in-Some c =
    let events = c.args.events.now in
    let any = (event-exists (reverse events) c.args.i (omega (arith, length-reverse events))).0 in
    rw (reverse_more events c.args.i any c.requires.i) (sym (least_kept (races c.args.rule (reverse events) c.args.next.now) _ (reverse (take c.args.i events)) c.in-Some.j (sym c.requires.least ∙ c.in-Some.is)))
