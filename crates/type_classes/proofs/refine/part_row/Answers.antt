use Rattle.std.proofs.Common.{arith, ◌≡◌, ℕ, length, sym, ◌∙◌, ap, subst, List, Vec, Global}
use Rattle.type_definitions.specs.Partition.{Keeps}
use Rattle.type_classes.specs.Blocks.{Listed}
use Rattle.mu_types.specs.Rows.{lists}
use Rattle.type_classes.specs.Targets.{TargetsFit}
use Rattle.type_classes.proofs.RowLemmas.{row_at}
use Rattle.type_classes.proofs.Leads.{row_closed, row_within}
use Rattle.mu_types.specs.ListLaws.{lent_back}
use Rattle.type_classes.proofs.Partitions.{fit_by, emptied_filled}
use Rattle.type_classes.proofs.refine.part_row.Goals as goal

pub part-requires-clause-range : goal.part-requires-clause-range
part-requires-clause-range c = λ k l.
    let n = length c.args.definitions.now in
    let q = row_within (lists c.args.buckets.now) c.args.p n c.deref.result.now (c.deref.ensures.value ∙ sym (row_at c.args.buckets.now c.args.p c.index-buckets-p.result c.requires.p)) c.requires.filled.within k l in
    let e : length c.deref_mut.result.now ≡ length c.args.partition.now.block.items = ap (λ (xs : List ℕ). length xs) c.deref_mut.ensures.value in
    omega (arith, q, e, c.requires.fit.sized)

pub part-requires-clause-closed : goal.part-requires-clause-closed
part-requires-clause-closed c = row_closed c.args.definitions.now (lists c.args.buckets.now) c.args.p c.deref.result.now (c.deref.ensures.value ∙ sym (row_at c.args.buckets.now c.args.p c.index-buckets-p.result c.requires.p)) c.requires.filled.closed

pub returns-clause-filled : goal.returns-clause-filled
returns-clause-filled c = emptied_filled c.args.definitions.now c.args.buckets.now c.clear_row.new.rows c.args.p c.requires.p c.clear_row.ensures.rest c.requires.filled

pub part-requires-clause-keeps : goal.part-requires-clause-keeps
part-requires-clause-keeps c = subst (λ (b : List ℕ). Keeps c.args.definitions.now b) (sym c.deref_mut.ensures.value) c.requires.fit.keeps

pub part-requires-clause-listed : goal.part-requires-clause-listed
part-requires-clause-listed c =
    subst (λ (b : List ℕ). Listed b (lists c.deref_mut-2.result.now)) (sym c.deref_mut.ensures.value)
    (subst (λ (ms : List (Vec ℕ Global)). Listed c.args.partition.now.block.items (lists ms)) (sym c.deref_mut-2.ensures.value) c.requires.fit.listed)

pub part-requires-clause-target : goal.part-requires-clause-target
part-requires-clause-target c =
    subst (λ (t : List ℕ). TargetsFit t (length c.deref_mut-2.result.now)) (sym c.deref_mut-3.ensures.value)
    (subst (λ (ms : List (Vec ℕ Global)). TargetsFit c.args.partition.now.target.items (length ms)) (sym c.deref_mut-2.ensures.value) c.requires.fit.target)

pub returns-clause-fit : goal.returns-clause-fit
returns-clause-fit c =
    let p = c.args.partition.now in
    let bs = c.part.new.block in
    let ms = c.part.new.members in
    let ts = c.part.new.target in
    let lb : length bs ≡ p.block.len = omega (arith, c.deref_mut.ensures.len) in
    let lm : length ms ≡ p.members.len = omega (arith, c.deref_mut-2.ensures.len) in
    let lt : length ts ≡ p.target.len = omega (arith, c.deref_mut-3.ensures.len) in
    let e : length c.deref_mut.result.now ≡ length p.block.items = ap (λ (xs : List ℕ). length xs) c.deref_mut.ensures.value in
    let sized : length bs ≡ length c.args.definitions.now = omega (arith, e, c.requires.fit.sized) in
    fit_by c.args.definitions.now _ bs ts ms
    (lent_back bs p.block.items p.block.len lb) (lent_back ms p.members.items p.members.len lm) (lent_back ts p.target.items p.target.len lt)
    sized c.in_ok-part.ensures.keeps c.in_ok-part.ensures.listed c.in_ok-part.ensures.target
