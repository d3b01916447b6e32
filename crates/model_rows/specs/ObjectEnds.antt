-- Runs of bundles: the end of an object.
use Rattle.std.specs.Prelude.{codes, ◌≡◌, refl, ◌++◌}
use Rattle.run_texts.specs.Texts.{Text}
use Rattle.model_rows.specs.Running.{definitions, plain, run_text}

abbrev bundle : Text
bundle = definitions ++ codes ".typedef @il = iref<@i64> .typedef @is = iref<@i32> .global @g <@i64> .funcdef @main VERSION %v <@mi> { %e(): %p = SHIFTIREF <@i64 @i64> @g @c1 %q = REFCAST <@il @is> %p %x = LOAD <@i32> %q RET (@c0) }"

end_fits_every_type_and_is_not_accessed : run_text plain bundle ≡ codes "undefined OutOfRange t0 @main.v.e 2\n"
unfolding run_text
end_fits_every_type_and_is_not_accessed = refl
