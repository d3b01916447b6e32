use Rattle.std.proofs.Common.{◌≡◌, ◌∙◌, sym, ap, ℕ, List, [], ◌∷◌, ◌++◌, reverse, length, length-append, arith}
use Rattle.std.proofs.lemmas.List.{reverse-append}
use Rattle.mu_values.specs.declared.scalars.Scalar.{Scalar}
use Rattle.write_history.specs.Rooms.{Values}
use Rattle.write_history.specs.Occurrences.{occurrences}
use Rattle.write_history.proofs.Settling.{runs-pushed, ranks-pushed}
use Rattle.write_history.proofs.groups.Groups.add.Goals as goal

pub settle-self-inside-requires-clause-runs : goal.settle-self-inside-requires-clause-runs
settle-self-inside-requires-clause-runs c =
    let values = reverse c.self.inside.values.items in
    let seen = ap (λ (m : Values). m.values) c.self.view_is in
    let given : c.args.values.now ≡ values ++ c.args.value ∷ [] = c.requires.values ∙ ap (λ (xs : List Scalar). xs ++ c.args.value ∷ []) (sym seen) in
    let len = c.len-position.ensures in
    let ok = c.self.inside.order.ok in
    rw (given, c.push_reserved-2.ensures.items) (runs-pushed values c.args.value c.self.inside.order.items c.self.inside.starts c.len-position.result c.self.invariant.runs c.self.invariant.size (omega (arith, len, ok)))

pub invariant_of-self : goal.invariant_of-self
invariant_of-self c =
    let values = reverse c.self.inside.values.items in
    let seen = ap (λ (m : Values). m.values) c.self.view_is in
    let new = ap reverse c.and-self-inside.ensures ∙ reverse-append (c.args.value ∷ []) c.self.inside.values.items in
    let given : c.args.values.now ≡ values ++ c.args.value ∷ [] = c.requires.values ∙ ap (λ (xs : List Scalar). xs ++ c.args.value ∷ []) (sym seen) in
    let rank : c.count_of-rank.result ≡ occurrences c.args.value values = c.count_of-rank.ensures ∙ sym (ap (occurrences c.args.value) seen) in
    let ranked = ranks-pushed values c.args.value c.self.inside.ranks.items c.count_of-rank.result c.self.invariant.ranked rank in
    let settled = c.settle-self-inside.ensures.size in
    let pushed = ap (λ (xs : List ℕ). length xs) c.push_reserved-2.ensures.items ∙ length-append c.self.inside.order.items (c.len-position.result ∷ []) in
    let size = c.self.invariant.size in
    let all = length-append values (c.args.value ∷ []) in
    rw new (record {
      ranked = rw c.push_reserved.ensures.items ranked;
      runs = rw given at c.settle-self-inside.ensures.runs;
      size = omega (arith, settled, pushed, size, all);
    })
