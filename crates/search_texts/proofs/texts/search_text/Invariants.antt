use Rattle.std.proofs.Common.{◌≡◌, ◌+◌, ◌++◌, length}
use Rattle.search_texts.specs.Texts.{entries_text}
use Rattle.search_texts.proofs.texts.search_text.Given as goal

-- what was written, with the outcomes that are left, is the text of all
abbrev pub invariant-loop-text : goal.invariant-loop-text
invariant-loop-text l = record {
  text : l.out.items ++ entries_text l.k l.text-iterator ≡ entries_text 0 l.searched.found.entries;
  count : l.k + length l.text-iterator ≡ length l.searched.found.entries;
}
