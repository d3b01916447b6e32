-- Worked examples.
use Rattle.std.specs.Prelude.{◌≡◌, ◌++◌, codes, refl}
use Rattle.std.specs.Fmt.{digits}
use Rattle.trial_text.specs.Trial.{trial_text, value_block}

one_pair : trial_text 1 ≡
    codes ".typedef @i1 = int < 1 > .typedef @i64 = int < 64 > .funcsig @m = ( ) -> ( ) .const @on < @i1 > = 1 "
    ++ codes ".const @k0 < @i64 > = 0 .global @d0 < @i64 > .global @f0 < @i1 > "
    ++ codes ".funcdef @main VERSION %v < @m > { %e ( ) : "
    ++ codes "%s = COMMINST @uvm.new_stack < [ @m ] > ( @use ) %t = NEWTHREAD %s PASS_VALUES < > ( ) "
    ++ codes "STORE NOT_ATOMIC < @i64 > @d0 @k0 STORE RELEASE < @i1 > @f0 @on RET ( ) } "
    ++ codes ".funcdef @use VERSION %v < @m > { "
    ++ codes "%a0 ( ) : %x = LOAD ACQUIRE < @i1 > @f0 BRANCH2 %x %b0 ( ) %z ( ) "
    ++ codes "%b0 ( ) : %y = LOAD NOT_ATOMIC < @i64 > @d0 BRANCH %z ( ) "
    ++ codes "%z ( ) : RET ( ) } "
unfolding digits
one_pair = refl

-- the block that reads the value goes to the next flag, and the last one to the end
goes_on : value_block 11 9 ≡ codes "%b9 ( ) : %y = LOAD NOT_ATOMIC < @i64 > @d9 BRANCH %a10 ( ) "
unfolding digits
goes_on = refl

goes_to_the_end : value_block 11 10 ≡ codes "%b10 ( ) : %y = LOAD NOT_ATOMIC < @i64 > @d10 BRANCH %z ( ) "
unfolding digits
goes_to_the_end = refl
