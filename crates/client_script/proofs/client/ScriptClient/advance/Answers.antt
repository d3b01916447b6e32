use Rattle.std.proofs.Common.{subst}
use Rattle.std.specs.List.{Contains}
use Rattle.client_script.specs.ScriptClients.{values_named}
use Rattle.client_script.proofs.Naming.{held_before}
use Rattle.client_script.proofs.client.ScriptClient.advance.Goals as goal

pub returns-clause-held : goal.returns-clause-held
returns-clause-held c = λ v h. held_before c.args.self.now v (subst (λ es. Contains (values_named es) v) c.skip.ensures h)
