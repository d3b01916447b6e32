use Rattle.std.proofs.Common.{◌≡◌, ◌∙◌, ℕ, ◌≤◌, ◌<◌, ◌+◌, [], ◌∷◌, ◌++◌, length, refl, sym, arith, length-append}
use Rattle.std.proofs.lemmas.Result.{err_from_is_err_and}
use Rattle.mu_command.proofs.Bundles.{none_read, one_more, one_refused}
use Rattle.mu_command.proofs.joining.gather.Goals as goal

pub loop-k-init : goal.loop-k-init
loop-k-init g c =
    record { same = refl; untouched = λ s l. refl; never_falls = λ s. omega arith; count = rw c.requires.none refl; read = rw c.requires.none (none_read _ c.args.words.now c.args.first) }

pub returns-in_err-bundle-clause-read : goal.returns-in_err-bundle-clause-read
returns-in_err-bundle-clause-read g c =
    let p = err_from_is_err_and c.from_residual.result c.from_residual.ensures.1 in
    rw (p.1, p.2)
    (one_refused _ _ _ (g.I.Inputs.faults c.loop-k.inputs) _ c.args.words.now c.args.first c.loop-k.k c.loop-k.bundles c.loop-k.invariant.same c.loop-k.invariant.untouched c.find_bundle.ensures.other_slots
    c.loop-k.invariant.read c.args.files _ c.loop-k-test.true (λ s. let a = c.loop-k.invariant.never_falls s in let b = c.find_bundle.ensures.never_falls s in omega (arith, a, b)) c.in_err-bundle.ensures.judged)

pub loop-k-preserved : goal.loop-k-preserved
loop-k-preserved g c = record {
  same = c.find_bundle.ensures.same ∙ c.loop-k.invariant.same;
  untouched = λ s l. c.find_bundle.ensures.other_slots s (λ e. absurd (omega arith)) ∙ c.loop-k.invariant.untouched s (omega arith);
  never_falls = λ s. let a = c.loop-k.invariant.never_falls s in let b = c.find_bundle.ensures.never_falls s in omega (arith, a, b);
  count = let e : c.push.new.self ≡ c.loop-k.bundles ++ c.in_ok-bundle.bundle ∷ [] = c.in_ok-push.ensures.ok in rw e (rw length-append (omega (arith, c.loop-k.invariant.count)));
  read = let e : c.push.new.self ≡ c.loop-k.bundles ++ c.in_ok-bundle.bundle ∷ [] = c.in_ok-push.ensures.ok in
      rw e
      (one_more _ _ _ (g.I.Inputs.faults c.loop-k.inputs) _ c.args.words.now c.args.first c.loop-k.k c.loop-k.bundles c.loop-k.invariant.same c.loop-k.invariant.untouched c.find_bundle.ensures.other_slots
      c.loop-k.invariant.read c.in_ok-bundle.bundle c.in_ok-bundle.ensures.judged);
}
