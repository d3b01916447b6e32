use Rattle.std.proofs.Common.{subst, sym}
use Rattle.std.specs.Prelude.{IsSomeAnd}
use Rattle.client_hooks.specs.Handlers.{OnlyResumes}
use Rattle.client_hooks.proofs.laws.hooks_resume.Goals as goal

pub returns : goal.returns
returns g c = λ h p view o m. subst (λ x. IsSomeAnd x (OnlyResumes p view)) (sym m.1) (g.met.H.Handler.resumes h.handler p view m.0 m.2)
