-- Nothing that a reader believes of a run rests on this. It is which acts are on stacks, threads and cells that threads wait at,
-- and by which the client may be asked.
use Rattle.std.specs.Prelude.{Bool, true, false}
use Rattle.step_forms.specs.declared.act.Act.{Act}
use Rattle.step_forms.specs.declared.act.Act.TheVariants as made

abbrev pub is_rare : Act → Bool
is_rare (made.Swaps s e) = true
is_rare (made.Leaves s e) = true
is_rare (made.Starts s own e) = true
is_rare (made.MakesStack f) = true
is_rare (made.KillsStack s) = true
is_rare made.Tells = true
is_rare made.Exits = true
is_rare (made.SetsOwn s) = true
is_rare made.TellsOwn = true
is_rare (made.Waits timed expected cell) = true
is_rare (made.Wakes many cell) = true
is_rare _ = false

abbrev pub may_ask : Act → Bool
may_ask made.Traps = true
may_ask (made.Watches n block) = true
may_ask _ = false
