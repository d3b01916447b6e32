use Rattle.std.proofs.Common.{drop}
use Rattle.frames.specs.Chains.{frames_in}
use Rattle.mu_model.specs.Answers.{argument_value}
use Rattle.client_script.specs.Meaning.{argument_meant}
use Rattle.client_script.specs.Lemmas.Partial.{Progress}
use Rattle.client_script.proofs.values.pass.Given as goal

abbrev pub invariant-loop-given : goal.invariant-loop-given
invariant-loop-given l = Progress (argument_value (frames_in l.frames)) argument_meant l.arguments (drop l.given-index l.arguments) l.types.members l.values.values
