use Rattle.std.proofs.Common.{◌≡◌, ◌+◌, ◌∙◌, ap, subst, arith, Some, slice_get}
use Rattle.std.specs.BTreeMap.{get}
use Rattle.std.specs.Ordering.{nat_cmp}
use Rattle.std.proofs.lemmas.Option.{slice_get_within}
use Rattle.type_definitions.specs.declared.definition.TypeDef.{TypeDef}
use Rattle.type_classes.specs.Keys.{key_of}
use Rattle.type_classes.proofs.Pushes.{pushed, one_some}
use Rattle.type_classes.proofs.Firsts.{there}
use Rattle.type_classes.proofs.blocks.keyed_blocks.Goals as goal

pub loop-x-preserved : goal.loop-x-preserved
loop-x-preserved c =
    let n = c.loop-x.x in
    let g = c.args.definitions.now in
    let m = c.in_ok-b.ensures in
    let blocks = c.keyed_block.new.blocks in
    let here = c.index-definitions-x.result in
    record {
      len = c.in_ok-push.ensures.len ∙ ap (λ k. k + 1) c.loop-x.invariant.len;
      keyed = λ u d l e. pushed (λ x v. (d : TypeDef) → slice_get g x ≡ Some d → get nat_cmp blocks (key_of d) ≡ Some v) c.loop-x.all.items _ n c.in_ok-b.b (omega (arith, c.loop-x.invariant.len)) c.in_ok-push.ensures.items
          (λ y k f q. m.others (key_of f) _ (c.loop-x.invariant.keyed y f k q))
          (λ f q. subst (λ z. get nat_cmp blocks z ≡ Some c.in_ok-b.b) (c.key.ensures ∙ ap key_of (one_some (slice_get g n) here f (there g n here c.loop-x-test.true c.index-definitions-x.is) q)) m.found)
          u l d e;
    }

pub returns-clause-keyed : goal.returns-clause-keyed
returns-clause-keyed c = λ a b d e p q k.
    let g = c.args.definitions.now in
    let past = c.loop-x-test.false in
    let la = slice_get_within g a d p in
    let lb = slice_get_within g b e q in
    let x = c.loop-x.invariant.keyed a d (omega (arith, la, past)) p in
    let y = c.loop-x.invariant.keyed b e (omega (arith, lb, past)) q in
    one_some (get nat_cmp c.loop-x.blocks (key_of d)) _ _ x (ap (λ z. get nat_cmp c.loop-x.blocks z) k ∙ y)
