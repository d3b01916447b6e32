use Rattle.std.proofs.Common.{◌∙◌, sym, ap, Some, length, arith, ◌<◌}
use Rattle.std.proofs.lemmas.List.{length-reverse}
use Rattle.mem_axioms.specs.Logs.{event_at}
use Rattle.mem_axioms.proofs.Reversed.{event-reverse}
use Rattle.mem_axioms.proofs.event_log.Log.event.Goals as goal

pub returns : goal.returns
returns c =
    let items = c.self.inside.events.items in
    let l = length-reverse items in
    let v = ap length c.self.view_is in
    let h : c.args.n < length items = omega (arith, l, v, c.requires) in
    ap (λ log. event_at log c.args.n) (sym c.self.view_is) ∙ (event-reverse items c.args.n c.index.result.now h ∙ ap Some (sym c.index.ensures))
