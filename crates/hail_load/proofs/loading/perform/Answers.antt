use Rattle.std.proofs.Common.{arith}
use Rattle.name_scopes.specs.Names.{found}
use Rattle.check_tables.specs.Lookups.{written_number}
use Rattle.hail_load.specs.Code.{code_of}
use Rattle.hail_load.proofs.Making.{long_kept}
use Rattle.hail_load.proofs.Lagging.{fits_new, fits_newhybrid, new_shown, newhybrid_shown}
use Rattle.hail_load.proofs.loading.perform.Goals as goal

pub returns-in-New-clause-made : goal.returns-in-New-clause-made
returns-in-New-clause-made c =
    let code = code_of c.args.loader.code.now in
    let made = rw c.new.ensures at c.new_object.ensures.made in
    rw c.in-New.is (new_shown code c.args.heap.now c.new_object.new.heap c.args.fills.now c.args.made.now c.new_object.new.made c.in-New.place c.in-New.object c.in-New.of_type (written_number (found code.names c.in-New.of_type.text)) c.new_object.result
    c.requires.lags.fits made)

pub returns-in-NewHybrid-clause-made : goal.returns-in-NewHybrid-clause-made
returns-in-NewHybrid-clause-made c =
    let code = code_of c.args.loader.code.now in
    let made = rw c.new-naming.ensures at c.new_hybrid.ensures.made in
    rw c.in-NewHybrid.is (newhybrid_shown code c.args.heap.now c.new_hybrid.new.heap c.args.fills.now c.args.made.now c.new_hybrid.new.made c.in-NewHybrid.place c.in-NewHybrid.object c.in-NewHybrid.of_type c.in-NewHybrid.length.number.magnitude
    (written_number (found code.names c.in-NewHybrid.of_type.text)) c.new_hybrid.result c.requires.lags.fits made)

pub returns-in-New-clause-lags : goal.returns-in-New-clause-lags
returns-in-New-clause-lags c =
    let code = code_of c.args.loader.code.now in
    let made = rw c.new.ensures at c.new_object.ensures.made in
    record {
      whole = c.new_object.ensures.whole c.requires.lags.whole;
      fits = fits_new code c.args.heap.now c.new_object.new.heap c.args.fills.now.fills.items c.args.made.now c.new_object.new.made c.in-New.place c.in-New.object c.in-New.of_type (written_number (found code.names c.in-New.of_type.text)) c.new_object.result
          c.requires.lags.fits c.new_object.ensures.err made;
      rows = c.requires.lags.rows;
      none = c.requires.lags.none;
      cells = c.requires.lags.cells;
      room = omega (arith, c.new_object.ensures.spare, c.requires.lags.room);
      few = omega (arith, c.new_object.ensures.more, c.requires.lags.few);
      long = long_kept c.args.heap.now.objects c.new_object.new.heap.objects c.args.fills.now.rows.items c.new_object.ensures.cells c.requires.lags.long;
    }

pub returns-in-NewHybrid-clause-lags : goal.returns-in-NewHybrid-clause-lags
returns-in-NewHybrid-clause-lags c =
    let code = code_of c.args.loader.code.now in
    let made = rw c.new-naming.ensures at c.new_hybrid.ensures.made in
    record {
      whole = c.new_hybrid.ensures.whole c.requires.lags.whole;
      fits = fits_newhybrid code c.args.heap.now c.new_hybrid.new.heap c.args.fills.now.fills.items c.args.made.now c.new_hybrid.new.made c.in-NewHybrid.place c.in-NewHybrid.object c.in-NewHybrid.of_type c.in-NewHybrid.length.number.magnitude
          (written_number (found code.names c.in-NewHybrid.of_type.text)) c.new_hybrid.result c.requires.lags.fits c.new_hybrid.ensures.err made;
      rows = c.requires.lags.rows;
      none = c.requires.lags.none;
      cells = c.requires.lags.cells;
      room = omega (arith, c.new_hybrid.ensures.spare, c.requires.lags.room);
      few = omega (arith, c.new_hybrid.ensures.more, c.requires.lags.few);
      long = long_kept c.args.heap.now.objects c.new_hybrid.new.heap.objects c.args.fills.now.rows.items c.new_hybrid.ensures.cells c.requires.lags.long;
    }
