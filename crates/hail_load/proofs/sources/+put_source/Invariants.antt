use Rattle.std.proofs.Common.{◌≡◌, ◌+◌, ◌*◌, [], ◌∷◌, ◌++◌, length, drop}
use Rattle.text_forms.specs.Reading.{read}
use Rattle.hail_load.specs.declared.tree.Piece.TheVariants as pieces
use Rattle.hail_load.specs.Sources.{list, source}
use Rattle.hail_load.proofs.MemberLoops.{so_far}
use Rattle.hail_load.proofs.sources.+put_source.Given as goal

abbrev pub decreases-put_source : goal.decreases-put_source
decreases-put_source l = 3 * l.depth

abbrev pub decreases-put_element : goal.decreases-put_element
decreases-put_element l = 3 * l.depth + 1

abbrev pub decreases-put_list : goal.decreases-put_list
decreases-put_list l = 3 * l.depth + 2

abbrev pub invariant-put_list-each : goal.invariant-put_list-each
invariant-put_list-each l = record {
  behind : l.out ≡ (l.fn.out ++ pieces.List l.place 0 ∷ []) ++ drop (l.head + 1) l.out;
  so_far : so_far l.fn.depth l.place l.members (drop (l.head + 1) l.out) l.cursor ≡ read (list (source l.fn.depth)) l.fn.cursor;
}

abbrev pub decreases-put_list-each : goal.decreases-put_list-each
decreases-put_list-each l = length l.cursor
