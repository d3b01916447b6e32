-- The text of a made bundle, in which one thread writes n pairs of a value and a flag, and another reads them in turn.
-- Each token is followed by one space.
use Rattle.std.specs.Prelude.{ℕ, ◌+◌, List, ◌++◌, codes, decimal, nat_eq, if◌then◌else◌}
use Rattle.std.specs.List.{flat_map, range_with_len}

-- the texts for the numbers below n, in their order
abbrev pub for_each : ℕ → (ℕ → List ℕ) → List ℕ
for_each n text = flat_map text (range_with_len 0 n)

-- ---- types, constants and cells

abbrev pub types_text : List ℕ
types_text = codes ".typedef @i1 = int < 1 > .typedef @i64 = int < 64 > .funcsig @m = ( ) -> ( ) .const @on < @i1 > = 1 "

-- the value i, the cell that gets it, and the flag that is set then
abbrev pub cells_text : ℕ → List ℕ
cells_text i = codes ".const @k" ++ decimal i ++ codes " < @i64 > = " ++ decimal i ++ codes " .global @d" ++ decimal i ++ codes " < @i64 > .global @f" ++ decimal i ++ codes " < @i1 > "

-- ---- the thread that writes

abbrev pub main_text : List ℕ
main_text = codes ".funcdef @main VERSION %v < @m > { %e ( ) : "

abbrev pub new_thread_text : List ℕ
new_thread_text = codes "%s = COMMINST @uvm.new_stack < [ @m ] > ( @use ) %t = NEWTHREAD %s PASS_VALUES < > ( ) "

abbrev pub stores_text : ℕ → List ℕ
stores_text i = codes "STORE NOT_ATOMIC < @i64 > @d" ++ decimal i ++ codes " @k" ++ decimal i ++ codes " STORE RELEASE < @i1 > @f" ++ decimal i ++ codes " @on "

abbrev pub main_end : List ℕ
main_end = codes "RET ( ) } "

-- ---- the thread that reads

abbrev pub use_text : List ℕ
use_text = codes ".funcdef @use VERSION %v < @m > { "

-- the block that looks at the flag
abbrev pub flag_block : ℕ → List ℕ
flag_block i = codes "%a" ++ decimal i ++ codes " ( ) : %x = LOAD ACQUIRE < @i1 > @f" ++ decimal i ++ codes " BRANCH2 %x %b" ++ decimal i ++ codes " ( ) %z ( ) "

-- the block behind that with number i, of n
abbrev pub next_text : ℕ → ℕ → List ℕ
next_text n i = if nat_eq (i + 1) n then codes "%z" else codes "%a" ++ decimal (i + 1)

-- the block that reads the value
abbrev pub value_block : ℕ → ℕ → List ℕ
value_block n i = codes "%b" ++ decimal i ++ codes " ( ) : %y = LOAD NOT_ATOMIC < @i64 > @d" ++ decimal i ++ codes " BRANCH " ++ next_text n i ++ codes " ( ) "

-- both blocks
abbrev pub blocks_text : ℕ → ℕ → List ℕ
blocks_text n i = flag_block i ++ value_block n i

abbrev pub use_end : List ℕ
use_end = codes "%z ( ) : RET ( ) } "

-- ---- the whole

abbrev pub trial_text : ℕ → List ℕ
trial_text n =
    types_text ++ for_each n cells_text
    ++ main_text ++ new_thread_text ++ for_each n stores_text ++ main_end
    ++ use_text ++ for_each n (blocks_text n) ++ use_end
