use Rattle.bundle_join.specs.Firsts.{text_of, tagged}
use Rattle.bundle_join.proofs.Firsts.{none_first}
use Rattle.bundle_join.proofs.kept.Kept.new.Goals as goal

pub returns-clause-found : goal.returns-clause-found
returns-clause-found c = record {
  names = none_first text_of c.new-names.result c.new-items.result c.new-names.ensures c.new-items.ensures;
  tagged_names = none_first tagged c.new-tagged_names.result c.new-items.result c.new-tagged_names.ensures c.new-items.ensures;
}
