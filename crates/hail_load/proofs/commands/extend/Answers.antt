use Rattle.std.proofs.Common.{◌≡◌, true, false, [], ◌∷◌, ◌++◌, IsTrue}
use Rattle.hail_load.specs.ScriptSoFar.{index_piece}
use Rattle.hail_load.proofs.ScriptLoops.{extended_last}
use Rattle.hail_load.proofs.commands.extend.Goals as goal

pub returns-in-None : goal.returns-in-None
returns-in-None c =
    let full : IsTrue c.is_empty.result = c.is_empty.ensures.1 c.in-None.ensures.none in
    let none : false ≡ true = rw c.if-is_empty.false at full in
    absurd cc

pub returns-in_ok-command-in-Some : goal.returns-in_ok-command-in-Some
returns-in_ok-command-in-Some c =
    let was : c.args.commands.now ≡ c.pop.new.self ++ c.in-Some.command ∷ [] = cc (c.in-Some.ensures.some) in
    rw (was, extended_last c.pop.new.self c.in-Some.command (index_piece c.args.index ∷ [])) (rw c.in_ok-command-in-Some.ensures at c.push.ensures.ok)
