-- Runs of bundles: cells that are updated.
use Rattle.std.specs.Prelude.{codes, ◌≡◌, refl, ◌++◌}
use Rattle.run_texts.specs.Texts.{Text}
use Rattle.model_rows.specs.Running.{definitions, plain, run_text}

abbrev bundle : Text
bundle = definitions ++ codes ".global @x <@i64> .funcdef @main VERSION %v <@mi> { %e(): %o = ATOMICRMW RELAXED SUB <@i64> @x @c2 %p = ATOMICRMW RELAXED MAX <@i64> @x @c1 (%v %k) = CMPXCHG ACQ_REL RELAXED <@i64> @x @c1 @c40 RET (%v) }"

newest_value_is_updated : run_text plain bundle ≡ codes "0 t0 update RELAXED #0+0 1 18446744073709551614\n1 t0 update RELAXED #0+0 2 1\n2 t0 update ACQ_REL #0+0 3 40\nreturned t0 1\ndone\n"
unfolding run_text
newest_value_is_updated = refl
