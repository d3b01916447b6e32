-- The run of a bundle's text, as text.
use Rattle.std.specs.Prelude.{ℕ, suc, false, List, [], ◌∷◌, ◌++◌, Option, Some, None, Ok, Err, codes, flat_map}
use Rattle.text_forms.specs.Reading.{elements}
use Rattle.ir_lex.specs.WordTable.{words, directives, common_names}
use Rattle.ir_lex.specs.Scanner.{gap_len, next_of}
use Rattle.ir_lex.specs.Walk.{tokens_within, tokens_from}
use Rattle.ir_lex.specs.TokenForms.{mark, name, numeral}
use Rattle.ir_tree.specs.Words.{order}
use Rattle.ir_tree.specs.Lists.{global, bracketed, local, bracketed_pair, global_list, local_list, type_list, value, values, dest, exc, keep, pass_values, throw_exc, new_stack_clause}
use Rattle.ir_tree.specs.Types.{int_type, some_types, struct_type, array_type, hybrid_type, type_form, literal}
use Rattle.ir_tree.specs.Computations.{binary, compare, convert, refcast, select, bracketed_field, extractvalue, insertvalue, computation}
use Rattle.ir_tree.specs.Control.{branch, branch2, switch_case, switch, call, tailcall, ret, throw, control}
use Rattle.ir_tree.specs.Objects.{new_object, newhybrid, alloca, allocation, getiref, getfieldiref, getelemiref, shiftiref, getvarpartiref, addressing_form}
use Rattle.ir_tree.specs.Accesses.{optional_order, load, store, weak, cmpxchg, atomicrmw, fence, access}
use Rattle.ir_tree.specs.Stacks.{trap, wpexc, watchpoint, wpbranch, trapping_form, returning, killing, swapstack, threadlocal, newthread, stack_switch}
use Rattle.ir_tree.specs.CommonForms.{one_value, two_values, three_values, new_stack, kill_stack, thread_exit, current_stack, set_threadlocal, get_threadlocal, futex_wait, futex_wake, futex_wait_timeout, common_inst}
use Rattle.ir_tree.specs.Instructions.{op, label, labelled}
use Rattle.ir_tree.specs.Blocks.{pair, params, handler, head_rest, head, result}
use Rattle.ir_tree.specs.Bodies.{results, more_results, body_rest, body}
use Rattle.ir_tree.specs.Items.{typedef, funcsig, constant, global_cell, funcdecl, funcdef, item, bundle}
use Rattle.ir_tree.specs.declared.items.Item.{Item}
use Rattle.ir_text.specs.TextAnswers.{text_answer, Answer}
use Rattle.type_definitions.specs.Same.{alike}
use Rattle.type_definitions.specs.Leaves.{leaves_to}
use Rattle.checked_code.specs.ConstantValues.{values_to}
use Rattle.checked_code.specs.Entries.{tables_of}
use Rattle.bundle_names.specs.declared.globals.Sort.{Sort}
use Rattle.bundle_names.specs.declared.globals.Sort.TheVariants as sorts
use Rattle.bundle_names.specs.Globals.{globals_of}
use Rattle.mu_values.specs.declared.scalars.Scalar.{Scalar}
use Rattle.check_tables.specs.declared.tables.Tables.{Tables}
use Rattle.typed_heap.specs.Objects.{HeapObject}
use Rattle.name_scopes.specs.Names.{found}
use Rattle.std.specs.Fmt.{digits}
use Rattle.mem_axioms.specs.declared.types.Rule.{Rule}
use Rattle.mem_axioms.specs.declared.types.Rule.TheVariants.{C11}
use Rattle.mem_axioms.specs.HappensBefore.{happens_before}
use Rattle.mem_axioms.specs.Axioms.{is_coherent, is_seq_cst_ordered, meets_axioms}
use Rattle.mem_axioms.specs.Choices.{options, choices}
use Rattle.mem_axioms.specs.Races.{race}
use Rattle.mu_model.specs.Clients.{Client}
use Rattle.mu_model.specs.Programs.{named}
use Rattle.mu_model.specs.Outcomes.{on, tried}
use Rattle.mu_model.specs.Run.{Run, Ends, Breaks, Unfinished, Setting, global_objects, program_run}
use Rattle.run_texts.specs.Texts.{Text}
use Rattle.run_texts.specs.Pieces.{pieces_of}

-- definitions that most rows begin with
abbrev pub definitions : Text
definitions = codes ".typedef @i1 = int<1> .typedef @i8 = int<8> .typedef @i32 = int<32> .typedef @i64 = int<64> .typedef @void = void .typedef @rv = ref<@void> .typedef @st = stackref .funcsig @m = () -> () .funcsig @mi = () -> (@i64) .funcsig @gs = (@st) -> () .const @c0 <@i64> = 0 .const @c1 <@i64> = 1 .const @c2 <@i64> = 2 .const @c10 <@i64> = 10 .const @c40 <@i64> = 40 .const @n2 <@i64> = -2 .const @w1 <@i32> = 1 .const @nul <@rv> = NULL "

-- what a run is given besides its text: without an object of its own it has those of the globals
pub record Given : Type 0 where
  pub objects : Tables → List HeapObject
  pub client : Client
  pub picks : List ℕ
  pub cells : ℕ
  pub budget : ℕ
  pub rule : Rule

abbrev pub plain : Given
plain = record { objects = global_objects; client = record { entries = []; auto = false }; picks = []; cells = 100000; budget = 500; rule = C11 }

abbrev pub setting : Given → Tables → Setting
setting g p = record { objects = g.objects p; client = g.client; picks = g.picks; cells = g.cells; budget = g.budget; rule = g.rule }

-- an object of these leaves that begins with these scalars
abbrev pub holding : List ℕ → List Scalar → HeapObject
holding leaves initial = record { leaves = leaves; initial = initial; dead = false }

abbrev pub bundle_in : Answer → List Item
bundle_in (Ok b) = b
bundle_in (Err f) = []

-- its text, in pieces
abbrev pub written : List Item → Run → List Text
written b (Ends steps lines e) = pieces_of b steps lines e
written b Breaks = codes "breaks" ∷ []
written b Unfinished = codes "unfinished" ∷ []

abbrev pub run_entry : Given → List Item → Option Sort → Run
run_entry g b (Some (sorts.Function n)) = program_run (named b) (setting g (named b).tables) n
run_entry g b _ = Breaks

-- it begins in @main
abbrev pub run_bundle : Given → List Item → List Text
run_bundle g b = written b (run_entry g b (found (globals_of b).names (codes "@main")))

unfoldable pub run_pieces : Given → Text → List Text
unfolding on tried digits tables_of alike leaves_to values_to happens_before is_coherent is_seq_cst_ordered meets_axioms options choices race tokens_from tokens_within next_of gap_len words directives common_names elements mark name numeral order global local bracketed bracketed_pair global_list local_list type_list value values dest exc keep pass_values throw_exc new_stack_clause binary compare convert refcast select bracketed_field extractvalue insertvalue computation branch branch2 switch_case switch call tailcall ret throw control new_object newhybrid alloca allocation getiref getfieldiref getelemiref shiftiref getvarpartiref addressing_form optional_order load store weak cmpxchg atomicrmw fence access trap wpexc watchpoint wpbranch trapping_form returning killing swapstack threadlocal newthread stack_switch one_value two_values three_values new_stack kill_stack thread_exit current_stack set_threadlocal get_threadlocal futex_wait futex_wake futex_wait_timeout common_inst op label labelled pair params handler head_rest head result results more_results body_rest body int_type some_types struct_type array_type hybrid_type type_form literal typedef funcsig constant global_cell funcdecl funcdef item bundle
run_pieces g text = run_bundle g (bundle_in (text_answer text))

unfoldable pub run_text : Given → Text → Text
unfolding run_pieces
run_text g text = flat_map (λ t. t) (run_pieces g text)
