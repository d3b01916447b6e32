-- Nothing that a reader believes of a run rests on this. It is which act of the abstract machine an act of the program is, with
-- the lists in its room.
use Rattle.std.specs.Prelude.{ℕ, List, [], ◌∷◌}
use Rattle.frames.specs.Activations.{Value}
use Rattle.mu_model.specs.Acts as acts
use Rattle.step_forms.specs.declared.access.Access.{Access}
use Rattle.step_forms.specs.declared.access.Access.TheVariants as accesses
use Rattle.step_forms.specs.declared.act.Act.{Act}
use Rattle.step_forms.specs.declared.act.Act.TheVariants as made
use Rattle.step_forms.specs.declared.entering.Entering.{Entering}
use Rattle.step_forms.specs.declared.entering.Entering.TheVariants as entering
use Rattle.step_forms.specs.declared.room.Room.{Room}
use Rattle.step_forms.specs.declared.way.Way.{Way}
use Rattle.step_forms.specs.declared.way.Way.TheVariants as ways
use Rattle.typed_heap.specs.Places as places

abbrev pub way_of : Way → places.Way
way_of (ways.Field c n) = places.Field c n
way_of (ways.Element c i) = places.Element c i
way_of (ways.Shift c i) = places.Shift c i
way_of (ways.VarPart c) = places.VarPart c

abbrev pub access_of : Access → acts.Access
access_of (accesses.Loads o) = acts.Loads o
access_of (accesses.Stores o v) = acts.Stores o v
access_of (accesses.Compares weak o f expected v) = acts.Compares weak o f expected v
access_of (accesses.Updates o op v) = acts.Updates o op v

-- the lists in a room: values, their classes, the values of a second destination, and the classes of values that are waited for
pub record Lists : Type 0 where
  pub values : List Value
  pub types : List ℕ
  pub others : List Value
  pub waits : List ℕ

abbrev pub lists_of : Room → Lists
lists_of room = record { values = room.values.values; types = room.types.members; others = room.others.values; waits = room.waits.members }

abbrev pub entering_of : Entering → List ℕ → List Value → acts.Entering
entering_of entering.Passes cs vs = acts.Passes cs vs
entering_of (entering.Throws e) cs vs = acts.ThrowsInto e
entering_of entering.Misfits cs vs = acts.Misfits

abbrev pub asked : Act → Lists → acts.Act
asked (made.Gives s) ls = acts.Gives ((s ∷ []) ∷ [])
asked made.GivesValues ls = acts.Gives ls.values
asked (made.Faults k) ls = acts.Faults k
asked (made.Goes block) ls = acts.Goes (record { block = block; values = ls.values })
asked (made.Calls f) ls = acts.Calls f ls.values
asked (made.Replaces f) ls = acts.Replaces f ls.values
asked made.Returns ls = acts.Returns (record { types = ls.types; values = ls.values })
asked (made.Throws e) ls = acts.Throws e
asked (made.Casts c s) ls = acts.Casts c s
asked (made.Finds w s) ls = acts.Finds (way_of w) s
asked (made.Makes c) ls = acts.Makes c
asked (made.MakesHybrid c n) ls = acts.MakesHybrid c n
asked (made.MakesOwn c) ls = acts.MakesOwn c
asked (made.Accesses a cell) ls = acts.Accesses (access_of a) cell
asked (made.Fences o) ls = acts.Fences o
asked made.Traps ls = acts.Traps ls.waits
asked (made.Watches n block) ls = acts.Watches n ls.waits (record { block = block; values = ls.values })
asked (made.Chooses n disabled enabled) ls = acts.Chooses n (record { block = disabled; values = ls.values }) (record { block = enabled; values = ls.others })
asked (made.Swaps s e) ls = acts.Swaps s ls.waits (entering_of e ls.types ls.values)
asked (made.Leaves s e) ls = acts.Leaves s (entering_of e ls.types ls.values)
asked (made.Starts s own e) ls = acts.Starts s own (entering_of e ls.types ls.values)
asked (made.MakesStack f) ls = acts.MakesStack f
asked (made.KillsStack s) ls = acts.KillsStack s
asked made.Tells ls = acts.Tells
asked made.Exits ls = acts.Exits
asked (made.SetsOwn s) ls = acts.SetsOwn s
asked made.TellsOwn ls = acts.TellsOwn
asked (made.Waits timed expected cell) ls = acts.Waits timed expected cell
asked (made.Wakes many cell) ls = acts.Wakes many cell
