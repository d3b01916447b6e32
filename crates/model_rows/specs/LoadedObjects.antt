-- Runs of bundles: objects that were loaded before the run.
use Rattle.std.specs.Prelude.{codes, ◌≡◌, refl, ◌++◌, [], ◌∷◌, List}
use Rattle.mu_values.specs.declared.scalars.Scalar.TheVariants.{Int, Object, Place}
use Rattle.check_tables.specs.declared.tables.Tables.{Tables}
use Rattle.typed_heap.specs.Objects.{HeapObject}
use Rattle.run_texts.specs.Texts.{Text}
use Rattle.model_rows.specs.Running.{definitions, plain, holding, run_text}

abbrev bundle : Text
bundle = definitions ++ codes ".typedef @n = struct<@i64 @rn> .typedef @rn = ref<@n> .typedef @ii = iref<@i64> .typedef @hy = hybrid<@i64> .global @g <@rn> .global @p <@ii> .funcdef @main VERSION %v <@mi> { %e(): %r = LOAD <@rn> @g %i = GETIREF <@n> %r %j = GETFIELDIREF <@n 1> %i %s = LOAD <@rn> %j %k = GETIREF <@n> %s %l = GETFIELDIREF <@n 0> %k %x = LOAD <@i64> %l %q = LOAD <@ii> @p %y = LOAD <@i64> %q %z = ADD <@i64> %x %y RET (%z) }"

-- two nodes of a list that lead to each other, and a hybrid of two elements; the globals lead to a node and to an element. By number, the
-- types are: 3 int<64>, 8 a reference to a node, 9 a place of an int<64>.
abbrev loaded : Tables → List HeapObject
loaded p =
    holding (8 ∷ []) (Object 2 ∷ []) ∷ holding (9 ∷ []) (Place 4 1 ∷ []) ∷ holding (3 ∷ 8 ∷ []) (Int 64 5 ∷ Object 3 ∷ [])
    ∷ holding (3 ∷ 8 ∷ []) (Int 64 7 ∷ Object 2 ∷ []) ∷ holding (3 ∷ 3 ∷ []) (Int 64 0 ∷ Int 64 9 ∷ []) ∷ []

reads_begin_with_what_was_loaded : run_text (record plain { objects = loaded }) bundle ≡ codes "0 t0 read NOT_ATOMIC #0+0 0 #2\n1 t0 read NOT_ATOMIC #2+1 0 #3\n2 t0 read NOT_ATOMIC #3+0 0 7\n3 t0 read NOT_ATOMIC #1+0 0 #4+1\n4 t0 read NOT_ATOMIC #4+1 0 9\nreturned t0 16\ndone\n"
unfolding run_text
reads_begin_with_what_was_loaded = refl
