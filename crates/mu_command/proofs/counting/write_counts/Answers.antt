use Rattle.std.proofs.Common.{◌≡◌, List, Option, Some, subst, sym}
use Rattle.ir_tree.specs.declared.items.Item.{Item}
use Rattle.model_laws.specs.Bounds.{HasEnding}
use Rattle.mu_model.specs.Programs.{named}
use Rattle.mu_model.specs.Run.{run}
use Rattle.mu_texts.specs.Answer.{Answer}
use Rattle.mu_command.specs.declared.counting.Tally.{Tally}
use Rattle.mu_command.specs.Written.{Writes}
use Rattle.mu_command.specs.Steps.{tally_behind}
use Rattle.mu_command.proofs.Tallies.{told}
use Rattle.mu_command.proofs.counting.write_counts.Goals as goal

pub count_run-requires-clause-ends : goal.count_run-requires-clause-ends
count_run-requires-clause-ends g c =
    subst (λ (b : List Item). HasEnding (run (named b) c.args.steps c.args.machine.now.configuration)) (sym c.requires.same) c.requires.ends

pub returns-in-Some-clause-writes : goal.returns-in-Some-clause-writes
returns-in-Some-clause-writes g c =
    let counts : ◌≡◌ {A = Option Tally} (tally_behind 0 0 (run (named c.args.code.now) c.args.steps c.args.machine.now.configuration)) (Some c.in-Some.tally) =
    subst (λ (b : List Item). ◌≡◌ {A = Option Tally} (tally_behind 0 0 (run (named b) c.args.steps c.args.machine.now.configuration)) (Some c.in-Some.tally)) c.requires.same c.in-Some.ensures in
    subst (λ (a : Answer). Writes a (g.S.Sink.written c.args.out.now) (g.S.Sink.written c.write_tally.new.out) (g.S.Sink.ends c.args.out.now) (g.S.Sink.ends c.write_tally.new.out) c.write_tally.result)
    (told c.args.n c.args.code.now (run (named c.args.code.now) c.args.steps c.args.machine.now.configuration) c.in-Some.tally counts) c.write_tally.ensures.writes
