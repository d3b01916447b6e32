use Rattle.std.proofs.Common.{◌≡◌, Option, Some, None, MatchOption, IsNone, IsSome, subst, sym, refl, ap}
use Rattle.frames.specs.Chains.{chain_of}
use Rattle.mem_axioms.specs.declared.types.Race.{Race}
use Rattle.mem_axioms.specs.Races.{race}
use Rattle.memory_acts.specs.AccessViews.{logs_race_kept, logs_next}
use Rattle.thread_acts.proofs.state.State.log_next.Goals as goal

pub returns-in-Ok-Some-clause-ok : goal.returns-in-Ok-Some-clause-ok
returns-in-Ok-Some-clause-ok g c =
    let some = subst (λ (o : Option Race). IsSome o) (sym c.in-Ok-Some.field-0-is) refl in
    let races = subst (λ (o : Option Race). MatchOption o (race (g.M.Memory.rule c.reserve.new.self) (g.M.Memory.log c.reserve.new.self) c.args.event ≡ None)
    (λ (found : Race). race (g.M.Memory.rule c.reserve.new.self) (g.M.Memory.log c.reserve.new.self) c.args.event ≡ Some found.earlier)) c.in-Ok-Some.field-0-is c.in-Ok-Some.ensures.race in
    logs_race_kept c.args.self.now _ c.args.event _ _ _ _ (g.M.Memory.log c.reserve.new.self) _ (g.M.Memory.rule c.reserve.new.self) _ _ _ c.self.view_is c.reserve.ensures.same_log c.reserve.ensures.same_rule races c.race_ending.ensures (ap chain_of (c.in-Ok-Some.ensures.stays some)) (c.ended.ensures.is _)

pub returns-in-Ok-None-clause-ok : goal.returns-in-Ok-None-clause-ok
returns-in-Ok-None-clause-ok g c =
    let none = subst (λ (o : Option Race). IsNone o) (sym c.in-Ok-None.field-0-is) refl in
    let alone = subst (λ (o : Option Race). MatchOption o (race (g.M.Memory.rule c.reserve.new.self) (g.M.Memory.log c.reserve.new.self) c.args.event ≡ None)
    (λ (found : Race). race (g.M.Memory.rule c.reserve.new.self) (g.M.Memory.log c.reserve.new.self) c.args.event ≡ Some found.earlier)) c.in-Ok-None.field-0-is c.in-Ok-None.ensures.race in
    logs_next c.args.self.now _ c.args.event c.args.options c.args.at _ c.args.results.now.values _ _ _ _ _ _ _ _ c.self.view_is c.requires.left c.reserve.ensures.same_log c.reserve.ensures.same_rule alone (c.in-Ok-None.ensures.added none)
    c.in-Ok-None.ensures.same_rule (ap chain_of (c.in-Ok-None.ensures.goes none)) c.take_picks.ensures.picks c.take_picks.ensures.skip c.self.invariant.1 c.in_ok-lines.ensures
