-- What holds of the grammar of bundles.
use Rattle.text_forms.specs.Texts.{IsGrammar}
use Rattle.ir_tree.specs.Items.{bundle}

-- the next token always decides how a bundle goes on, limits and words that are left out included
abbrev pub BundleIsGrammar : Type 0
BundleIsGrammar = IsGrammar bundle
