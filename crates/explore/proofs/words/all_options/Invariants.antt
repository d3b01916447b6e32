use Rattle.std.proofs.Common.{◌≡◌, ◌≤◌, ◌-◌, length, drop}
use Rattle.explore.specs.Asked.{none_given, with_all}
use Rattle.explore.specs.Reading.{SearchOptionsAreThere}
use Rattle.explore.proofs.words.all_options.Given as goal

-- the options that were read, with those of the words that are left, are all
abbrev pub invariant-each : goal.invariant-each
invariant-each l = record {
  all : with_all none_given 2 (drop 2 l.words) ≡ with_all l.options l.n (drop l.n l.words);
  there : SearchOptionsAreThere (length l.words) l.options;
  first : 2 ≤ l.n;
  last : l.n ≤ length l.words;
}

abbrev pub decreases-each : goal.decreases-each
decreases-each l = length l.words - l.n
