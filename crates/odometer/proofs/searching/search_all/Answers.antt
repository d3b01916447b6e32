use Rattle.std.proofs.Common.{◌≡◌, sym, ◌∙◌, ap, subst, refl, Some, List, ℕ, arith}
use Rattle.odometer.specs.Odometer.{digits, next, Before}
use Rattle.odometer.specs.Found.{IsAmongFound}
use Rattle.odometer.proofs.TreeLaws.{before_nil}
use Rattle.odometer.proofs.FoundLaws.{none_shown, none_numbers, onward_some, went_on, over_found, over_left, over_says, over_whole, over_all, left_some, left_unsearched}
use Rattle.odometer.proofs.searching.search_all.Goals as goal

pub loop-run-init : goal.loop-run-init
loop-run-init g c = record {
  ready = c.requires;
  same = refl;
  same_shows = refl;
  shown = none_shown (g.P.Play.shows c.args.play.now) c.new-found.result c.new-found.ensures.empty;
  numbers_fit = none_numbers c.new-found.result c.new-found.ensures.empty;
  numbers = ap Some (sym c.new-numbers.ensures.items);
  found = λ k l. absurd (omega (arith, l));
  whole = refl;
  before = λ _. let Q : List ℕ → Type 0 = λ ks. Before (IsAmongFound c.new-found.result) (g.P.Play.tree c.args.play.now) ks in subst Q (sym c.new-numbers.ensures.items) (before_nil (IsAmongFound c.new-found.result) (g.P.Play.tree c.args.play.now));
}

pub returns-then-not-advance-clause-shown : goal.returns-then-not-advance-clause-shown
returns-then-not-advance-clause-shown g c =
    let w = went_on (g.P.Play.tree c.loop-run.play) (g.P.Play.tree c.args.play.now) (g.P.Play.shows c.loop-run.play) (g.P.Play.shows c.args.play.now) c.loop-run.found c.run_by.new.found c.loop-run.numbers.items c.deref.result.now c.run_by.new.made.items
    c.loop-run.run c.loop-run.whole c.in_ok-says.says c.both-whole.result c.loop-run.invariant.same c.loop-run.invariant.same_shows c.deref.ensures.value c.loop-run.invariant.numbers c.in_ok-says.ensures.found c.in_ok-says.ensures.path
    c.loop-run.invariant.shown c.loop-run.invariant.numbers_fit c.loop-run.invariant.found c.loop-run.invariant.whole c.loop-run.invariant.before c.in_ok-says.ensures.says c.both-whole.ensures in
    w.shown

pub returns-then-not-advance-clause-numbers : goal.returns-then-not-advance-clause-numbers
returns-then-not-advance-clause-numbers g c =
    let w = went_on (g.P.Play.tree c.loop-run.play) (g.P.Play.tree c.args.play.now) (g.P.Play.shows c.loop-run.play) (g.P.Play.shows c.args.play.now) c.loop-run.found c.run_by.new.found c.loop-run.numbers.items c.deref.result.now c.run_by.new.made.items
    c.loop-run.run c.loop-run.whole c.in_ok-says.says c.both-whole.result c.loop-run.invariant.same c.loop-run.invariant.same_shows c.deref.ensures.value c.loop-run.invariant.numbers c.in_ok-says.ensures.found c.in_ok-says.ensures.path
    c.loop-run.invariant.shown c.loop-run.invariant.numbers_fit c.loop-run.invariant.found c.loop-run.invariant.whole c.loop-run.invariant.before c.in_ok-says.ensures.says c.both-whole.ensures in
    w.numbers

pub returns-then-not-advance-clause-found : goal.returns-then-not-advance-clause-found
returns-then-not-advance-clause-found g c =
    let w = went_on (g.P.Play.tree c.loop-run.play) (g.P.Play.tree c.args.play.now) (g.P.Play.shows c.loop-run.play) (g.P.Play.shows c.args.play.now) c.loop-run.found c.run_by.new.found c.loop-run.numbers.items c.deref.result.now c.run_by.new.made.items
    c.loop-run.run c.loop-run.whole c.in_ok-says.says c.both-whole.result c.loop-run.invariant.same c.loop-run.invariant.same_shows c.deref.ensures.value c.loop-run.invariant.numbers c.in_ok-says.ensures.found c.in_ok-says.ensures.path
    c.loop-run.invariant.shown c.loop-run.invariant.numbers_fit c.loop-run.invariant.found c.loop-run.invariant.whole c.loop-run.invariant.before c.in_ok-says.ensures.says c.both-whole.ensures in
    over_found (g.P.Play.tree c.args.play.now) (g.P.Play.shows c.args.play.now) c.run_by.new.found c.run_by.new.made.items c.loop-run.run c.args.runs c.both-whole.result w (c.if-not-advance.ensures.last refl)

pub returns-then-not-advance-clause-left : goal.returns-then-not-advance-clause-left
returns-then-not-advance-clause-left g c =
    let w = went_on (g.P.Play.tree c.loop-run.play) (g.P.Play.tree c.args.play.now) (g.P.Play.shows c.loop-run.play) (g.P.Play.shows c.args.play.now) c.loop-run.found c.run_by.new.found c.loop-run.numbers.items c.deref.result.now c.run_by.new.made.items
    c.loop-run.run c.loop-run.whole c.in_ok-says.says c.both-whole.result c.loop-run.invariant.same c.loop-run.invariant.same_shows c.deref.ensures.value c.loop-run.invariant.numbers c.in_ok-says.ensures.found c.in_ok-says.ensures.path
    c.loop-run.invariant.shown c.loop-run.invariant.numbers_fit c.loop-run.invariant.found c.loop-run.invariant.whole c.loop-run.invariant.before c.in_ok-says.ensures.says c.both-whole.ensures in
    sym (over_left (g.P.Play.tree c.args.play.now) (g.P.Play.shows c.args.play.now) c.run_by.new.found c.run_by.new.made.items c.loop-run.run c.args.runs c.both-whole.result (omega arith) w (c.if-not-advance.ensures.last refl))

pub returns-then-not-advance-clause-says : goal.returns-then-not-advance-clause-says
returns-then-not-advance-clause-says g c =
    let w = went_on (g.P.Play.tree c.loop-run.play) (g.P.Play.tree c.args.play.now) (g.P.Play.shows c.loop-run.play) (g.P.Play.shows c.args.play.now) c.loop-run.found c.run_by.new.found c.loop-run.numbers.items c.deref.result.now c.run_by.new.made.items
    c.loop-run.run c.loop-run.whole c.in_ok-says.says c.both-whole.result c.loop-run.invariant.same c.loop-run.invariant.same_shows c.deref.ensures.value c.loop-run.invariant.numbers c.in_ok-says.ensures.found c.in_ok-says.ensures.path
    c.loop-run.invariant.shown c.loop-run.invariant.numbers_fit c.loop-run.invariant.found c.loop-run.invariant.whole c.loop-run.invariant.before c.in_ok-says.ensures.says c.both-whole.ensures in
    over_says (g.P.Play.tree c.args.play.now) (g.P.Play.shows c.args.play.now) c.run_by.new.found c.run_by.new.made.items c.loop-run.run c.args.runs c.both-whole.result (omega arith) w (c.if-not-advance.ensures.last refl)

pub returns-then-not-advance-clause-whole : goal.returns-then-not-advance-clause-whole
returns-then-not-advance-clause-whole g c =
    let w = went_on (g.P.Play.tree c.loop-run.play) (g.P.Play.tree c.args.play.now) (g.P.Play.shows c.loop-run.play) (g.P.Play.shows c.args.play.now) c.loop-run.found c.run_by.new.found c.loop-run.numbers.items c.deref.result.now c.run_by.new.made.items
    c.loop-run.run c.loop-run.whole c.in_ok-says.says c.both-whole.result c.loop-run.invariant.same c.loop-run.invariant.same_shows c.deref.ensures.value c.loop-run.invariant.numbers c.in_ok-says.ensures.found c.in_ok-says.ensures.path
    c.loop-run.invariant.shown c.loop-run.invariant.numbers_fit c.loop-run.invariant.found c.loop-run.invariant.whole c.loop-run.invariant.before c.in_ok-says.ensures.says c.both-whole.ensures in
    λ b. over_all (g.P.Play.tree c.args.play.now) (g.P.Play.shows c.args.play.now) c.run_by.new.found c.run_by.new.made.items c.loop-run.run c.both-whole.result w (c.if-not-advance.ensures.last refl) (over_whole (g.P.Play.tree c.args.play.now) (g.P.Play.shows c.args.play.now) c.run_by.new.found c.run_by.new.made.items c.loop-run.run c.args.runs c.both-whole.result (omega arith) w (c.if-not-advance.ensures.last refl) ∙ b)

pub loop-run-preserved : goal.loop-run-preserved
loop-run-preserved g c =
    let w = went_on (g.P.Play.tree c.loop-run.play) (g.P.Play.tree c.args.play.now) (g.P.Play.shows c.loop-run.play) (g.P.Play.shows c.args.play.now) c.loop-run.found c.run_by.new.found c.loop-run.numbers.items c.deref.result.now c.run_by.new.made.items
    c.loop-run.run c.loop-run.whole c.in_ok-says.says c.both-whole.result c.loop-run.invariant.same c.loop-run.invariant.same_shows c.deref.ensures.value c.loop-run.invariant.numbers c.in_ok-says.ensures.found c.in_ok-says.ensures.path
    c.loop-run.invariant.shown c.loop-run.invariant.numbers_fit c.loop-run.invariant.found c.loop-run.invariant.whole c.loop-run.invariant.before c.in_ok-says.ensures.says c.both-whole.ensures in
    let next_is : next c.run_by.new.made.items ≡ Some c.write_numbers.new.numbers.items =
    c.if-not-advance.ensures.next refl ∙ ap (λ ps. Some (digits ps)) (sym c.deref-in-loop-run.ensures.value) ∙ ap Some (sym c.in_ok-write_numbers.ensures) in
    record {
      ready = c.run_by.ensures.ready;
      same = c.run_by.ensures.same ∙ c.loop-run.invariant.same;
      same_shows = c.run_by.ensures.same_shows ∙ c.loop-run.invariant.same_shows;
      shown = w.shown;
      numbers_fit = w.numbers;
      numbers = w.further ∙ next_is;
      found = w.found;
      whole = w.whole;
      before = λ b. onward_some (IsAmongFound c.run_by.new.found) (g.P.Play.tree c.args.play.now) (next c.run_by.new.made.items) c.write_numbers.new.numbers.items next_is (w.onward b);
    }
