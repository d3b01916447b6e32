-- What the global names of a bundle stand for, in text order.
use Rattle.std.specs.Prelude.{◌+◌, List, [], ◌∷◌, is_some, if◌then◌else◌}
use Rattle.name_scopes.specs.Names.{found, added}
use Rattle.ir_lex.specs.declared.name.Name.{Name}
use Rattle.ir_tree.specs.declared.items.Item.{Item}
use Rattle.ir_tree.specs.declared.items.Item.TheVariants as items
use Rattle.bundle_names.specs.declared.globals.Sort.TheVariants as sorts
use Rattle.bundle_names.specs.declared.globals.Counts.{Counts}
use Rattle.bundle_names.specs.declared.globals.Globals.{Globals}

-- a function is counted where its name comes first, in a declaration or in a definition
abbrev pub with_function : Globals → Name → Globals
with_function g n =
    record g {
      names = added g.names n.text (sorts.Function g.counts.functions);
      counts = record g.counts { functions = if is_some (found g.names n.text) then g.counts.functions else g.counts.functions + 1 };
    }

abbrev pub declare : Globals → Name → Globals
declare g n = record g { declared = added g.declared n.text g.counts.declarations; counts = record g.counts { declarations = g.counts.declarations + 1 } }

abbrev pub define : Globals → Name → Globals
define g n = record g { defined = added g.defined n.text g.counts.definitions; counts = record g.counts { definitions = g.counts.definitions + 1 } }

-- with the name of one more item
abbrev pub with_item : Globals → Item → Globals
with_item g (items.Typedef d) = record g { names = added g.names d.name.text (sorts.Written g.counts.written); counts = record g.counts { written = g.counts.written + 1 } }
with_item g (items.Funcsig d) = record g { names = added g.names d.name.text (sorts.Signature g.counts.signatures); counts = record g.counts { signatures = g.counts.signatures + 1 } }
with_item g (items.Const d) = record g { names = added g.names d.name.text (sorts.Constant g.counts.constants); counts = record g.counts { constants = g.counts.constants + 1 } }
with_item g (items.GlobalCell d) = record g { names = added g.names d.name.text (sorts.GlobalCell g.counts.global_cells); counts = record g.counts { global_cells = g.counts.global_cells + 1 } }
with_item g (items.Funcdecl d) = declare (with_function g d.name) d.name
with_item g (items.Funcdef d) = define (with_function g d.name) d.name

abbrev pub with_items : Globals → List Item → Globals
with_items g [] = g
with_items g (i ∷ is) = with_items (with_item g i) is

abbrev pub no_counts : Counts
no_counts = record { written = 0; signatures = 0; constants = 0; global_cells = 0; functions = 0; declarations = 0; definitions = 0 }

abbrev pub no_globals : Globals
no_globals = record { names = []; declared = []; defined = []; counts = no_counts }

-- the global names of a bundle
abbrev pub globals_of : List Item → Globals
globals_of bundle = with_items no_globals bundle
