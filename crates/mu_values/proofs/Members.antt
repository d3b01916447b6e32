-- Members of constants, one by one.
use Rattle.std.proofs.Common.{◌≡◌, ℕ, suc, ◌+◌, ◌-◌, ◌<◌, true, List, length, Option, Some, None, IsSomeAnd, if◌then◌else◌, slice_get, ap, ◌∙◌, arith}
use Rattle.std.specs.Prelude.{slice_index}
use Rattle.demands.specs.declared.fault.Fault.TheVariants.{At}
use Rattle.demands.specs.Demands.{or_else, first_unmet}
use Rattle.type_definitions.specs.declared.definition.TypeDef.{TypeDef}
use Rattle.type_definitions.specs.declared.definition.TypeDef.TheVariants.{Int, Struct, Array, Hybrid, Void, Ref, Iref, FuncRef, StackRef, ThreadRef, Sig}
use Rattle.type_definitions.specs.Same.{same, IsGraph}
use Rattle.type_definitions.specs.Lemmas.Depth.{args_within}
use Rattle.mu_values.specs.declared.literals.ConstKind.TheVariants.{WrongShape}
use Rattle.mu_values.specs.Constants.{member_count, member_type, member_demands}

-- where member k is of its type, the demands from member k on are those behind it
pub members_next : (graph : List TypeDef) (constants : List ℕ) (d : Option TypeDef) (members places : List ℕ) (many k : ℕ) → k < many →
    same graph (slice_index constants (slice_index members k)) (member_type d k) ≡ true →
    first_unmet (member_demands graph constants d members places (many - k) k) ≡ first_unmet (member_demands graph constants d members places (many - (k + 1)) (k + 1))
members_next graph constants d members places many k l h =
    let e : many - k ≡ suc (many - (k + 1)) = omega (arith, l) in
    let f : suc k ≡ k + 1 = omega arith in
    ap (λ (n : ℕ). first_unmet (member_demands graph constants d members places n k)) e
    ∙ ap (λ b. or_else (if b then None else Some (At WrongShape (slice_index places k))) (first_unmet (member_demands graph constants d members places (many - (k + 1)) (suc k)))) h
    ∙ ap (λ (j : ℕ). first_unmet (member_demands graph constants d members places (many - (k + 1)) j)) f

-- the type of a member is of the graph
pub part_within : (g : List TypeDef) → IsGraph g → (t : ℕ) (d : TypeDef) (k : ℕ) → slice_get g t ≡ Some d → IsSomeAnd (member_count (Some d)) (λ n. k < n) → member_type (Some d) k < length g
part_within g i t (Int width) k e h = absurd h
part_within g i t (Struct fields) k e h = args_within g i t (Struct fields) e k 0 h
part_within g i t (Array element size) k e h = args_within g i t (Array element size) e 0 0 (omega arith)
part_within g i t (Hybrid fixed element) k e h = absurd h
part_within g i t Void k e h = absurd h
part_within g i t (Ref x) k e h = absurd h
part_within g i t (Iref x) k e h = absurd h
part_within g i t (FuncRef s) k e h = absurd h
part_within g i t StackRef k e h = absurd h
part_within g i t ThreadRef k e h = absurd h
part_within g i t (Sig takes gives) k e h = absurd h
