use Rattle.std.proofs.Common.{◌≡◌, ◌≤◌, ℕ, length}
use Rattle.std.specs.Prelude.{Ok}
use Rattle.mu_command.specs.Parts.{OfBundles}
use Rattle.mu_command.proofs.joining.gather.Given as goal

-- the first bundles are read, and no later file was fetched
abbrev pub invariant-loop-k : goal.invariant-loop-k
invariant-loop-k g l = record {
  same : g.I.Inputs.holds l.inputs ≡ g.I.Inputs.holds l.initial.inputs;
  untouched : (s : ℕ) → l.k ≤ s → g.I.Inputs.faults l.inputs s ≡ g.I.Inputs.faults l.initial.inputs s;
  never_falls : (s : ℕ) → g.I.Inputs.faults l.initial.inputs s ≤ g.I.Inputs.faults l.inputs s;
  count : length l.bundles ≡ l.k;
  read : OfBundles (record { told = g.I.Inputs.holds l.initial.inputs; before = g.I.Inputs.faults l.initial.inputs; now = g.I.Inputs.faults l.inputs }) l.words l.first l.k (Ok l.bundles);
}
