-- The words, the directives and the global names that the grammars tell apart.
use Rattle.std.specs.Prelude.{ℕ, List, [], ◌∷◌, codes, if◌then◌else◌}
use Rattle.std.specs.Str.{bytes_eq}
use Rattle.text_forms.specs.declared.symbol.Symbol.{Symbol}
use Rattle.text_forms.specs.declared.symbol.Symbol.TheVariants as symbols

-- a spelling, and its symbol
abbrev pub Row : Type 0
Row = List ℕ × Symbol

-- the symbol of a spelling, or the other one where no row has it
abbrev pub look_up : Symbol → List Row → List ℕ → Symbol
look_up other [] word = other
look_up other (r ∷ rs) word = if bytes_eq word r.0 then r.1 else look_up other rs word

-- all words
unfoldable pub words : List Row
words =
    -- words of types
    (codes "int", symbols.Int) ∷ (codes "struct", symbols.Struct) ∷ (codes "array", symbols.Array) ∷ (codes "hybrid", symbols.Hybrid) ∷ (codes "void", symbols.Void) ∷
    (codes "ref", symbols.Ref) ∷ (codes "iref", symbols.Iref) ∷ (codes "funcref", symbols.Funcref) ∷ (codes "stackref", symbols.Stackref) ∷ (codes "threadref", symbols.Threadref) ∷
    -- words of types that the profile leaves out
    (codes "float", symbols.Float) ∷ (codes "double", symbols.Double) ∷ (codes "vector", symbols.Vector) ∷ (codes "weakref", symbols.Weakref) ∷ (codes "uptr", symbols.Uptr) ∷
    (codes "ufuncptr", symbols.Ufuncptr) ∷ (codes "tagref64", symbols.Tagref64) ∷ (codes "framecursorref", symbols.Framecursorref) ∷ (codes "irbuilderref", symbols.Irbuilderref) ∷
    -- words of the parts of items and instructions
    (codes "VERSION", symbols.Version) ∷ (codes "NULL", symbols.Null) ∷ (codes "EXC", symbols.Exc) ∷ (codes "KEEPALIVE", symbols.Keepalive) ∷ (codes "PASS_VALUES", symbols.PassValues) ∷
    (codes "THROW_EXC", symbols.ThrowExc) ∷ (codes "RET_WITH", symbols.RetWith) ∷ (codes "KILL_OLD", symbols.KillOld) ∷ (codes "THREADLOCAL", symbols.Threadlocal) ∷ (codes "WPEXC", symbols.Wpexc) ∷
    (codes "WEAK", symbols.Weak) ∷
    -- binary operations
    (codes "ADD", symbols.Add) ∷ (codes "SUB", symbols.Sub) ∷ (codes "MUL", symbols.Mul) ∷ (codes "SDIV", symbols.Sdiv) ∷ (codes "SREM", symbols.Srem) ∷
    (codes "UDIV", symbols.Udiv) ∷ (codes "UREM", symbols.Urem) ∷ (codes "SHL", symbols.Shl) ∷ (codes "LSHR", symbols.Lshr) ∷ (codes "ASHR", symbols.Ashr) ∷
    (codes "AND", symbols.And) ∷ (codes "OR", symbols.Or) ∷ (codes "XOR", symbols.Xor) ∷
    -- comparisons
    (codes "EQ", symbols.Eq) ∷ (codes "NE", symbols.Ne) ∷ (codes "SLT", symbols.Slt) ∷ (codes "SLE", symbols.Sle) ∷ (codes "SGT", symbols.Sgt) ∷
    (codes "SGE", symbols.Sge) ∷ (codes "ULT", symbols.Ult) ∷ (codes "ULE", symbols.Ule) ∷ (codes "UGT", symbols.Ugt) ∷ (codes "UGE", symbols.Uge) ∷
    -- operations of an atomic update, beside ADD, SUB, AND, OR and XOR
    (codes "XCHG", symbols.Xchg) ∷ (codes "NAND", symbols.Nand) ∷ (codes "MAX", symbols.Max) ∷ (codes "MIN", symbols.Min) ∷ (codes "UMAX", symbols.Umax) ∷
    (codes "UMIN", symbols.Umin) ∷
    -- memory orders
    (codes "NOT_ATOMIC", symbols.NotAtomic) ∷ (codes "RELAXED", symbols.Relaxed) ∷ (codes "CONSUME", symbols.Consume) ∷ (codes "ACQUIRE", symbols.Acquire) ∷ (codes "RELEASE", symbols.Release) ∷
    (codes "ACQ_REL", symbols.AcqRel) ∷ (codes "SEQ_CST", symbols.SeqCst) ∷
    -- words of other instructions
    (codes "TRUNC", symbols.Trunc) ∷ (codes "ZEXT", symbols.Zext) ∷ (codes "SEXT", symbols.Sext) ∷ (codes "REFCAST", symbols.Refcast) ∷ (codes "SELECT", symbols.Select) ∷
    (codes "EXTRACTVALUE", symbols.Extractvalue) ∷ (codes "INSERTVALUE", symbols.Insertvalue) ∷ (codes "BRANCH", symbols.Branch) ∷ (codes "BRANCH2", symbols.Branch2) ∷ (codes "SWITCH", symbols.Switch) ∷
    (codes "CALL", symbols.Call) ∷ (codes "TAILCALL", symbols.Tailcall) ∷ (codes "RET", symbols.Ret) ∷ (codes "THROW", symbols.Throw) ∷ (codes "NEW", symbols.New) ∷
    (codes "NEWHYBRID", symbols.Newhybrid) ∷ (codes "ALLOCA", symbols.Alloca) ∷ (codes "GETIREF", symbols.Getiref) ∷ (codes "GETFIELDIREF", symbols.Getfieldiref) ∷ (codes "GETELEMIREF", symbols.Getelemiref) ∷
    (codes "SHIFTIREF", symbols.Shiftiref) ∷ (codes "GETVARPARTIREF", symbols.Getvarpartiref) ∷ (codes "LOAD", symbols.Load) ∷ (codes "STORE", symbols.Store) ∷ (codes "CMPXCHG", symbols.Cmpxchg) ∷
    (codes "ATOMICRMW", symbols.Atomicrmw) ∷ (codes "FENCE", symbols.Fence) ∷ (codes "TRAP", symbols.Trap) ∷ (codes "WATCHPOINT", symbols.Watchpoint) ∷ (codes "WPBRANCH", symbols.Wpbranch) ∷
    (codes "SWAPSTACK", symbols.Swapstack) ∷ (codes "NEWTHREAD", symbols.Newthread) ∷ (codes "COMMINST", symbols.Comminst) ∷
    -- words of instructions that the profile leaves out
    (codes "CCALL", symbols.Ccall) ∷ (codes "ALLOCAHYBRID", symbols.Allocahybrid) ∷ (codes "EXTRACTELEMENT", symbols.Extractelement) ∷ (codes "INSERTELEMENT", symbols.Insertelement) ∷ (codes "SHUFFLEVECTOR", symbols.Shufflevector) ∷
    (codes "FADD", symbols.Fadd) ∷ (codes "FSUB", symbols.Fsub) ∷ (codes "FMUL", symbols.Fmul) ∷ (codes "FDIV", symbols.Fdiv) ∷ (codes "FREM", symbols.Frem) ∷
    (codes "FPTRUNC", symbols.Fptrunc) ∷ (codes "FPEXT", symbols.Fpext) ∷ (codes "FPTOUI", symbols.Fptoui) ∷ (codes "FPTOSI", symbols.Fptosi) ∷ (codes "UITOFP", symbols.Uitofp) ∷
    (codes "SITOFP", symbols.Sitofp) ∷ (codes "BITCAST", symbols.Bitcast) ∷ (codes "PTRCAST", symbols.Ptrcast) ∷ (codes "FTRUE", symbols.Ftrue) ∷ (codes "FFALSE", symbols.Ffalse) ∷
    (codes "FUNO", symbols.Funo) ∷ (codes "FUEQ", symbols.Fueq) ∷ (codes "FUNE", symbols.Fune) ∷ (codes "FULT", symbols.Fult) ∷ (codes "FULE", symbols.Fule) ∷
    (codes "FUGT", symbols.Fugt) ∷ (codes "FUGE", symbols.Fuge) ∷ (codes "FORD", symbols.Ford) ∷ (codes "FOEQ", symbols.Foeq) ∷ (codes "FONE", symbols.Fone) ∷
    (codes "FOLT", symbols.Folt) ∷ (codes "FOLE", symbols.Fole) ∷ (codes "FOGT", symbols.Fogt) ∷ (codes "FOGE", symbols.Foge) ∷
    -- words of client scripts
    (codes "frames", symbols.Frames) ∷ (codes "kept", symbols.Kept) ∷ (codes "watch", symbols.Watch) ∷ (codes "unwatch", symbols.Unwatch) ∷ (codes "rebind", symbols.Rebind) ∷
    (codes "exit", symbols.Exit) ∷ (codes "stop", symbols.Stop) ∷ (codes "pass", symbols.Pass) ∷ (codes "throw", symbols.ThrowReply) ∷
    (codes "pop", symbols.Pop) ∷ (codes "push", symbols.Push) ∷
    []

unfoldable pub directives : List Row
directives =
    (codes ".typedef", symbols.DotTypedef) ∷ (codes ".funcsig", symbols.DotFuncsig) ∷ (codes ".const", symbols.DotConst) ∷ (codes ".global", symbols.DotGlobal) ∷ (codes ".funcdecl", symbols.DotFuncdecl) ∷
    (codes ".funcdef", symbols.DotFuncdef) ∷ (codes ".expose", symbols.DotExpose) ∷ (codes ".new", symbols.DotNew) ∷ (codes ".newhybrid", symbols.DotNewhybrid) ∷ (codes ".init", symbols.DotInit) ∷
    []

-- the global names of common instructions
unfoldable pub common_names : List Row
common_names =
    (codes "@uvm.new_stack", symbols.UvmNewStack) ∷ (codes "@uvm.kill_stack", symbols.UvmKillStack) ∷ (codes "@uvm.thread_exit", symbols.UvmThreadExit) ∷
    (codes "@uvm.current_stack", symbols.UvmCurrentStack) ∷ (codes "@uvm.set_threadlocal", symbols.UvmSetThreadlocal) ∷ (codes "@uvm.get_threadlocal", symbols.UvmGetThreadlocal) ∷
    (codes "@uvm.futex.wait", symbols.UvmFutexWait) ∷ (codes "@uvm.futex.wake", symbols.UvmFutexWake) ∷ (codes "@uvm.futex.wait_timeout", symbols.UvmFutexWaitTimeout) ∷
    []
