use Rattle.std.proofs.Common.{◌≡◌, ◌++◌, ◌∷◌, ◌∙◌, ◌+◌, [], ap, subst, length, drop, slice_get, ℕ}
use Rattle.std.specs.Prelude.{IsSomeAnd}
use Rattle.std.specs.Global.{Vec}
use Rattle.typed_heap.specs.Objects.{HeapObject}
use Rattle.seen_runs.specs.declared.globals.Final.{Final}
use Rattle.seen_runs.specs.Finals.{finals_in}
use Rattle.seen_runs.proofs.Ends.{none_here, one_here}
use Rattle.seen_runs.proofs.globals.add_global.Goals as goal
use Rattle.seen_runs.proofs.globals.add_global.Goals.{then-size-eq1+in_ok-name+in_ok-push, else-size-eq1}

pub returns-clause-added : goal.returns-clause-added
returns-clause-added c names =
    elim c.if-size-eq1.branch [
      | then-size-eq1+in_ok-name+in_ok-push w ↦
          let one : IsSomeAnd (slice_get c.args.heap.now.objects c.args.n) (λ (o : HeapObject). length o.leaves ≡ 1) =
          subst (λ (m : ℕ). IsSomeAnd (slice_get c.args.heap.now.objects c.args.n) (λ (o : HeapObject). length o.leaves ≡ m)) w.if-size-eq1.true c.size.ensures.leaves in
          let pushed : w.push.new.self.items ≡ c.args.found.now.items ++ record { name = c.args.name.now; cell = record { object = c.args.n; at = 0 }; before = w.initial-before.result } ∷ [] =
          w.in_ok-push.ensures.items
          ∙ ap (λ t. c.args.found.now.items ++ record { name = t; cell = record { object = c.args.n; at = 0 }; before = w.initial-before.result } ∷ []) w.in_ok-name.ensures in
          ap (λ (v : Vec Final). v.items ++ finals_in (c.args.n + 1) names (drop (c.args.n + 1) c.args.heap.now.objects)) w.found-is
          ∙ one_here c.args.heap.now.objects c.args.n c.args.found.now.items w.push.new.self.items c.args.name.now w.initial-before.result names one w.initial-before.ensures pushed
      | else-size-eq1 w ↦
          ap (λ (v : Vec Final). v.items ++ finals_in (c.args.n + 1) names (drop (c.args.n + 1) c.args.heap.now.objects)) w.found-is
          ∙ none_here c.args.heap.now.objects c.args.n c.size.result c.args.found.now.items c.args.name.now names c.size.ensures.leaves w.if-size-eq1.false
    ]
