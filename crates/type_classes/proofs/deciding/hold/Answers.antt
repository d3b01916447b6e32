use Rattle.std.proofs.Common.{subst, ℕ, List, arith}
use Rattle.type_definitions.specs.declared.definition.TypeDef.{TypeDef}
use Rattle.type_definitions.specs.Partition.{IsLeast}
use Rattle.mu_types.specs.Rows.{lists}
use Rattle.type_classes.proofs.RowLemmas.{length-lists}
use Rattle.mu_types.specs.Held.{RowsHold}
use Rattle.type_classes.proofs.deciding.hold.Goals as goal

pub held-requires : goal.held-requires
held-requires c =
    let g = c.args.whole.all.items in
    let class = c.in_ok-class.class.items in
    let rows = c.in_ok-rows.rows.items in
    let l : IsLeast g class = subst (λ (xs : List TypeDef). IsLeast xs class) c.deref.ensures.value c.in_ok-class.ensures.classes in
    let r : RowsHold g class (lists rows) = subst (λ (xs : List TypeDef). RowsHold xs class (lists rows)) c.deref-2.ensures.value (subst (λ (xs : List ℕ). RowsHold c.deref-2.result.now xs (lists rows)) c.deref-3.ensures.value c.in_ok-rows.ensures.held) in
    record {
      few = c.requires.few;
      graph = c.requires.graph;
      classed = omega (arith, c.in_ok-class.ensures.len, c.deref.ensures.len);
      listed = omega (arith, c.in_ok-rows.ensures.len, c.deref-2.ensures.len, length-lists rows);
      least = l;
      held = r;
      referred = c.requires.referred;
      headed = c.requires.headed;
    }
