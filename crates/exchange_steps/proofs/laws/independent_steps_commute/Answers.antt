use Rattle.exchange_steps.specs.Diamond.{later-first, earlier-second, same-end}
use Rattle.exchange_steps.specs.Made.{steps-turn}
use Rattle.exchange_steps.proofs.laws.independent_steps_commute.Goals as goal

pub returns-clause-commute : goal.returns-clause-commute
returns-clause-commute c = λ p c i j u v fs gs e f apart first second ind meets. record {
  later_first = later-first p c i j u v fs e f apart first second.turn ind meets gs second;
  earlier_second = earlier-second p c i j u v fs e f apart first second.turn ind meets gs;
  same_end = same-end p c i j u v fs e f apart first second.turn ind meets gs;
}

pub returns-clause-turns : goal.returns-clause-turns
returns-clause-turns c = λ p c i u fs e s number rest. steps-turn p c i u fs e s number rest
