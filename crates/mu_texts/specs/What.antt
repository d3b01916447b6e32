-- The names of the files of a job in texts, and their slots.
use Rattle.std.specs.Prelude.{ℕ, List, ◌++◌, codes, decimal}
use Rattle.mu_texts.specs.declared.what.What.{What}
use Rattle.mu_texts.specs.declared.what.What.TheVariants.{Bundle, Hail, Client, Schedule, Log, Joined}

-- a file's name in texts
abbrev pub name_of : What → List ℕ
name_of Bundle = codes "bundle"
name_of Hail = codes "hail"
name_of Client = codes "client"
name_of Schedule = codes "schedule"
name_of Log = codes "log"
name_of (Joined k) = codes "bundle " ++ decimal k

-- A file's slot, by which inputs count its faults. No two files of one job have one slot.
abbrev pub slot_of : What → ℕ
slot_of Bundle = 0
slot_of Hail = 1
slot_of Client = 2
slot_of Schedule = 3
slot_of Log = 0
slot_of (Joined k) = k
