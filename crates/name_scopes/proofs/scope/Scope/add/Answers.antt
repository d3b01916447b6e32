use Rattle.std.proofs.Common.{◌≡◌, ◌∙◌, List, [], ◌∷◌, ◌++◌, ℕ, Some, None, map, length, sym, ap, subst}
use Rattle.std.specs.BTreeMap.{Updates}
use Rattle.name_scopes.specs.Names.{found}
use Rattle.name_scopes.specs.Numbered.{IsNumbered}
use Rattle.name_scopes.proofs.Numbering.{seen, length_seen, name_cmp, one_more_numbered, seen_more}
use Rattle.name_scopes.proofs.scope.Scope.add.Goals as goal

pub invariant_of-self-2 : goal.invariant_of-self-2
invariant_of-self-2 g c =
    let old = c.self.inside.definitions.items in
    let absent : found (seen old) c.args.name.now ≡ None = ap (λ m. found m c.args.name.now) c.self.view_is ∙ c.requires in
    let next : c.len.result ≡ length (seen old) =
    c.len.ensures ∙ c.reserve.new.self.ok.0 ∙ ap length c.in_ok-reserve.ensures.items ∙ sym (length_seen old) in
    seen_more old c.push.new.self.items c.in_ok-spelling.spelling c.args.name.now c.args.value (c.in-Ok.ensures.items ∙ ap (λ l. l ++ (c.in_ok-spelling.spelling, c.args.value) ∷ []) c.in_ok-reserve.ensures.items) c.in_ok-spelling.ensures.items c.insert.new.self
    (one_more_numbered c.self.inside.numbers c.insert.new.self (seen old) c.in_ok-key.key c.args.name.now c.args.value c.in_ok-key.ensures.items absent c.self.invariant (subst (λ n. Updates name_cmp c.self.inside.numbers c.insert.new.self c.in_ok-key.key (Some n)) next c.in_ok-insert.ensures.updates))
