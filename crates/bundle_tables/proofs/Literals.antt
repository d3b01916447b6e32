-- The fault of a literal as a fault of a bundle.
use Rattle.std.proofs.Common.{◌≡◌, ℕ, List, Option, ◌∙◌, ap}
use Rattle.demands.specs.declared.fault.Fault.{Fault}
use Rattle.demands.specs.Demands.{first_unmet, as_kind}
use Rattle.demands.specs.Laws.{fault_as}
use Rattle.demands.specs.Lemmas.Meeting.{carried}
use Rattle.mu_types.specs.Graph.{Table}
use Rattle.mu_values.specs.declared.literals.Literal.{Literal}
use Rattle.mu_values.specs.declared.literals.ConstKind.{ConstKind}
use Rattle.mu_values.specs.Constants.{constant_demands}
use Rattle.check_tables.specs.declared.fault.CheckKind.TheVariants.{Const}

pub literal_fault : (p q : Table) (types : List ℕ) (t u : ℕ) (made l : Literal) (o : Option (Fault ConstKind)) → p ≡ q → made ≡ l → t ≡ u →
    first_unmet (constant_demands p.definitions types t made) ≡ o → first_unmet (as_kind Const (constant_demands q.definitions types u l)) ≡ fault_as Const o
literal_fault p q types t u made l o e f k h = carried Const (constant_demands q.definitions types u l) ∙ ap (λ (r : Option (Fault ConstKind)). fault_as Const r) (rw (← e, ← f, ← k) h)
