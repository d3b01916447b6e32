use Rattle.std.proofs.Common.{◌∙◌, ap, drop}
use Rattle.client_script.specs.Meaning.{entry_meant}
use Rattle.client_script.specs.Lemmas.Partial.{one_spent}
use Rattle.client_script.proofs.script.Script.skip.Goals as goal

pub returns-then-self-len : goal.returns-then-self-len
returns-then-self-len c = one_spent entry_meant c.self.inside.entries c.self.inside.spent ∙ ap (drop 1) c.self.view_is
