-- Worked examples: what texts of scripts mean, each action and each reply once.
use Rattle.std.specs.Prelude.{Some, None, ◌≡◌, refl, true, false, [], ◌∷◌, codes}
use Rattle.type_definitions.specs.Same.{alike}
use Rattle.type_definitions.specs.Leaves.{leaves_to}
use Rattle.checked_code.specs.ConstantValues.{values_to}
use Rattle.checked_code.specs.Entries.{tables_of}
use Rattle.mu_values.specs.declared.scalars.Scalar.TheVariants.{Int, Place, Func}
use Rattle.text_forms.specs.Reading.{elements}
use Rattle.ir_lex.specs.WordTable.{words, directives, common_names}
use Rattle.ir_lex.specs.Scanner.{gap_len, next_of}
use Rattle.ir_lex.specs.Walk.{tokens_within, tokens_from}
use Rattle.ir_lex.specs.TokenForms.{mark, name, numeral}
use Rattle.ir_tree.specs.Lists.{global}
use Rattle.mu_model.specs.Clients.{Pass, Throw, Resume, Rebind, Exit, Stop, Argument, Told, KeptValue, TellFrames, TellKept, Watch}
use Rattle.client_script.specs.Grammar.{count, action, popping, pushing, edit, kept_value, argument, pass, way, rebind, reply, ending, inside, entry, script}
use Rattle.client_script.specs.Texts.{script_entries}
use Rattle.client_script.specs.Samples.{sample}

-- the constant, the global and the function of the sample: an @i64, an @ii and an @fr
abbrev constant : Argument
constant = Told (0, Int 64 7 ∷ [])

abbrev cell : Argument
cell = Told (2, Place 0 0 ∷ [])

abbrev function : Argument
function = Told (3, Func 0 ∷ [])

texts_mean :
    (script_entries sample (codes "") ≡ [])
    × (script_entries sample (codes "{ frames kept 1 watch 2 unwatch 3 exit } { stop }") ≡ record { actions = TellFrames ∷ TellKept 1 ∷ Watch 2 true ∷ Watch 3 false ∷ []; pop = 0; push = None; reply = Exit } ∷ record { actions = []; pop = 0; push = None; reply = Stop } ∷ [])
    × (script_entries sample (codes "{pass()}{pass(@k kept 0 1 @g @f)}") ≡ record { actions = []; pop = 0; push = None; reply = Resume (Pass []) } ∷ record { actions = []; pop = 0; push = None; reply = Resume (Pass (constant ∷ KeptValue 0 1 ∷ cell ∷ function ∷ [])) } ∷ [])
    × (script_entries sample (codes "{ throw @k } { throw kept 2 3 }") ≡ record { actions = []; pop = 0; push = None; reply = Resume (Throw constant) } ∷ record { actions = []; pop = 0; push = None; reply = Resume (Throw (KeptValue 2 3)) } ∷ [])
    × (script_entries sample (codes "{ rebind kept 0 0 pass (@k) } { rebind @k throw @g }") ≡ record { actions = []; pop = 0; push = None; reply = Rebind (KeptValue 0 0) (Pass (constant ∷ [])) } ∷ record { actions = []; pop = 0; push = None; reply = Rebind constant (Throw cell) } ∷ [])
    × (script_entries sample (codes "{ kept 0x10 kept 010 watch +5 unwatch -0 kept 4294967295 stop }") ≡ record { actions = TellKept 16 ∷ TellKept 8 ∷ Watch 5 true ∷ Watch 0 false ∷ TellKept 4294967295 ∷ []; pop = 0; push = None; reply = Stop } ∷ [])
unfolding alike leaves_to values_to tables_of tokens_from tokens_within next_of gap_len words directives common_names elements mark name numeral global count action popping pushing edit kept_value argument pass way rebind reply ending inside entry script
texts_mean = (refl, refl, refl, refl, refl, refl)

-- edits: a frame's number and a function, either of them, or none
edits_mean :
    (script_entries sample (codes "{ pop 1 push @f pass () }") ≡ record { actions = []; pop = 1; push = Some (3, 0); reply = Resume (Pass []) } ∷ [])
    × (script_entries sample (codes "{ pop 010 throw @k }") ≡ record { actions = []; pop = 8; push = None; reply = Resume (Throw constant) } ∷ [])
    × (script_entries sample (codes "{ frames push @f stop }") ≡ record { actions = TellFrames ∷ []; pop = 0; push = Some (3, 0); reply = Stop } ∷ [])
    × (script_entries sample (codes "{ pop 0 exit }") ≡ record { actions = []; pop = 0; push = None; reply = Exit } ∷ [])
unfolding alike leaves_to values_to tables_of tokens_from tokens_within next_of gap_len words directives common_names elements mark name numeral global count action popping pushing edit kept_value argument pass way rebind reply ending inside entry script
edits_mean = (refl, refl, refl, refl)
