use Rattle.std.proofs.Common.{◌≡◌, ◌∙◌, ℕ, sym, ap, subst, List, Err, length, arith}
use Rattle.std.proofs.lemmas.Result.{err_from_is_err_and}
use Rattle.demands.specs.Demands.{Demands, Meets}
use Rattle.type_definitions.specs.declared.definition.TypeDef.{TypeDef}
use Rattle.type_definitions.specs.Same.{IsGraph}
use Rattle.mu_types.specs.declared.faults.TypeKind.{TypeKind}
use Rattle.mu_types.specs.Implied.{complete}
use Rattle.mu_types.specs.References.{IsHeaded}
use Rattle.mu_types.specs.TypeDemands.{passes, written_demands}
use Rattle.type_classes.proofs.Firsts.{passes_written}
use Rattle.mu_types.specs.CompleteLaws.{headed, complete_is_graph}
use Rattle.type_classes.proofs.deciding.classes.Goals as goal

pub hold-requires-clause-graph : goal.hold-requires-clause-graph
hold-requires-clause-graph c =
    let w = c.args.graph.definitions in
    let e : c.in_ok-whole.whole.all.items ≡ complete w = c.in_ok-whole.ensures.all ∙ ap complete c.into_parts-definitions.ensures.definitions in
    subst (λ (xs : List TypeDef). IsGraph xs) (sym e) (complete_is_graph w c.requires.graph)

pub hold-requires-clause-headed : goal.hold-requires-clause-headed
hold-requires-clause-headed c =
    let w = c.args.graph.definitions in
    let e : c.in_ok-whole.whole.all.items ≡ complete w = c.in_ok-whole.ensures.all ∙ ap complete c.into_parts-definitions.ensures.definitions in
    let d = c.into_parts-definitions.ensures.definitions in
    let n : c.len-written.result ≡ length w = (omega (arith, c.len-written.ensures)) ∙ ap (λ (xs : List TypeDef). length xs) d in
    subst (λ (xs : List TypeDef). IsHeaded xs c.len-written.result) (sym e) (subst (λ k. IsHeaded (complete w) k) (sym n) (headed w))

pub judge-requires-clause-graph : goal.judge-requires-clause-graph
judge-requires-clause-graph c =
    let w = c.args.graph.definitions in
    let e : c.in_ok-whole.whole.all.items ≡ complete w = c.in_ok-whole.ensures.all ∙ ap complete c.into_parts-definitions.ensures.definitions in
    subst (λ (xs : List TypeDef). IsGraph xs) (sym (c.deref.ensures.value ∙ e)) (complete_is_graph w c.requires.graph)

pub returns-in_err-rank-clause-met : goal.returns-in_err-rank-clause-met
returns-in_err-rank-clause-met c =
    let w = c.args.graph in
    let d = c.into_parts-definitions.ensures.definitions in
    let e : c.deref.result.now ≡ complete w.definitions = c.deref.ensures.value ∙ c.in_ok-whole.ensures.all ∙ ap complete d in
    let f : c.deref-2.result.now ≡ w.places = c.deref-2.ensures.value ∙ c.into_parts-definitions.ensures.places in
    let n : c.len-written.result ≡ length w.definitions = omega (arith, c.len-written.ensures) ∙ ap (λ (xs : List TypeDef). length xs) d in
    let same : passes c.deref.result.now c.deref-2.result.now c.len-written.result ≡ written_demands w = passes_written w c.deref.result.now c.deref-2.result.now c.len-written.result e f n in
    let p = err_from_is_err_and c.from_residual-in_err-rank.result c.from_residual-in_err-rank.ensures.1 in
    rw (p.1, p.2) (subst (λ (ds : Demands TypeKind). Meets {A = ℕ} ds (Err c.in_err-rank.field-0.0)) same c.in_err-rank.ensures)
