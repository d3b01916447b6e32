use Rattle.std.proofs.Common.{◌∙◌, sym, subst, inl, inr, List}
use Rattle.std.specs.List.{Contains}
use Rattle.type_classes.specs.declared.edges.Edge.{Edge}
use Rattle.type_classes.proofs.RowLemmas.{row_at}
use Rattle.type_classes.proofs.gather.gather_member.Goals as goal

pub gather_one-requires : goal.gather_one-requires
gather_one-requires c = λ e h.
    let r = row_at c.args.links.predecessors.now c.args.y c.index-links-y.result c.if-y-links.true in
    c.requires c.args.y e (subst (λ (xs : List Edge). Contains xs e) (sym (r ∙ sym c.deref.ensures.value)) h)

pub returns-in_ok-gather_one-clause-sound : goal.returns-in_ok-gather_one-clause-sound
returns-in_ok-gather_one-clause-sound c = λ k x h. elim (c.in_ok-gather_one.ensures.sound k x h) [ inl p ↦ inl p | inr a ↦ inr (c.args.y, a, sym c.at.ensures ∙ c.if-at-s.true) ]
