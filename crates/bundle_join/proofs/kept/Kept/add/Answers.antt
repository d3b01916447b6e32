use Rattle.std.proofs.Common.{◌∙◌, ap}
use Rattle.ir_lex.specs.declared.name.Name.{Name}
use Rattle.bundle_join.specs.Firsts.{text_of, tagged}
use Rattle.bundle_join.proofs.Firsts.{grown}
use Rattle.bundle_join.proofs.kept.Kept.add.Goals as goal

pub returns-clause-found : goal.returns-clause-found
returns-clause-found c = record {
  names = grown text_of c.args.self.now.names c.define-2.new.self c.args.self.now.items c.push.new.self c.args.item c.as_slice-name.result.now c.len-number.result c.requires.names c.in_ok-define-2.ensures.ok
      (c.as_slice-name.ensures ∙ ap (λ (n : Name). n.text) c.name_of-defined.ensures) c.len-number.ensures c.in_ok-push.ensures.ok;
  tagged_names = grown tagged c.args.self.now.tagged_names c.define.new.self c.args.self.now.items c.push.new.self c.args.item c.as_slice-key.result.now c.len-number.result c.requires.tagged_names c.in_ok-define.ensures.ok
      (c.as_slice-key.ensures.value ∙ c.in_ok-tagged_name.ensures) c.len-number.ensures c.in_ok-push.ensures.ok;
}
