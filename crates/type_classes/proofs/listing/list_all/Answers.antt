use Rattle.std.proofs.Common.{◌≡◌, subst, arith, rules, length, ℕ}
use Rattle.mu_types.specs.Rows.{lists}
use Rattle.type_classes.specs.Listings.{DoneTo}
use Rattle.type_classes.proofs.Ordered.{all_done}
use Rattle.type_classes.proofs.listing.list_all.Goals as goal

pub returns-clause-held : goal.returns-clause-held
returns-clause-held c =
    let g = c.args.types.definitions.now in
    let past = c.loop-i-test.false in
    let end = c.loop-i.auto.i-end in
    let e : c.loop-i.i ≡ length g = omega (arith, past, end) in
    all_done g c.requires.ranked.graph c.args.types.class.now c.args.types.rank.now (lists c.loop-i.rows) c.loop-i.done c.requires.ranked.least c.requires.ranked.ranked c.loop-i.invariant.held
    (subst (λ (k : ℕ). DoneTo g c.args.types.class.now c.args.types.rank.now c.loop-i.done k) e c.loop-i.invariant.found)

pub loop-i-init : goal.loop-i-init
loop-i-init c = record { rowed = c.requires.rows; marked = c.requires.marks; held = search rules; found = search rules }
