-- What an instruction gives, as the code has it without a list of its own: the classes of the results.
use Rattle.std.specs.Prelude.{ℕ, List, [], ◌∷◌}
use Rattle.check_tables.specs.declared.tables.Tables.{Tables}
use Rattle.code_check.specs.declared.gifts.Gift.{Gift}
use Rattle.code_check.specs.declared.gifts.Gift.TheVariants.{Nothing, One, Two, Listed, Named}
use Rattle.checked_code.specs.Operands.{noted_list}

abbrev pub listed : Tables → Gift → List ℕ
listed p Nothing = []
listed p (One t) = t ∷ []
listed p (Two t u) = t ∷ u ∷ []
listed p (Listed ts) = ts.now
listed p (Named ns) = noted_list p ns.now
