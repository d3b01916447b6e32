use Rattle.client_hooks.specs.Lemmas.GoingOn.{goes_on}
use Rattle.client_hooks.proofs.laws.hooks_go_on.Goals as goal

pub returns : goal.returns
returns g c = λ h p now u n cs view go o e m. goes_on p now u n cs view go o m.0 e m.1 (g.met.H.Handler.resumes h.handler p.tables view m.0 m.2)
