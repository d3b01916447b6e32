-- An instruction that ends its block and has no normal destination gives nothing.
use Rattle.std.proofs.Common.{◌≡◌, ℕ, Bool, true, false, List, [], Option, None, is_some, ◌||◌, refl, subst}
use Rattle.check_tables.specs.declared.tables.Tables.{Tables}
use Rattle.checked_code.specs.declared.code.Target.{Target}
use Rattle.checked_code.specs.declared.code.ControlForm.{ControlForm}
use Rattle.checked_code.specs.declared.code.ControlForm.TheVariants as going
use Rattle.checked_code.specs.declared.code.TrappingForm.{TrappingForm}
use Rattle.checked_code.specs.declared.code.TrappingForm.TheVariants as asking
use Rattle.checked_code.specs.declared.code.SwitchForm.{SwitchForm}
use Rattle.checked_code.specs.declared.code.SwitchForm.TheVariants as switching
use Rattle.checked_code.specs.declared.code.CommonForm.{CommonForm}
use Rattle.checked_code.specs.declared.code.CommonForm.TheVariants as named
use Rattle.checked_code.specs.declared.code.Form.{Form}
use Rattle.checked_code.specs.declared.code.Form.TheVariants as forms
use Rattle.checked_code.specs.declared.code.Code.{Code}
use Rattle.bundle_laws.specs.Typed.{Blocks, ControlFits, TrappingFits, SwitchFits, CommonFits, FormFits, CodeFits, control_form_ends, trapping_form_ends, switch_form_ends, common_form_ends, form_ends, code_ends, trapping_exits, exits}

control_none : (p : Tables) (blocks : Blocks) (returns ks gs : List ℕ) (f : ControlForm) → ControlFits p blocks returns ks f gs → control_form_ends f ≡ true → gs ≡ []
control_none p blocks returns ks gs (going.Branch t) fits ends = fits.1
control_none p blocks returns ks gs (going.Branch2 s t u) fits ends = fits.3
control_none p blocks returns ks gs (going.Switch c a t cases) fits ends = fits.4
control_none p blocks returns ks gs (going.Call s f vs) fits ends = cc
control_none p blocks returns ks gs (going.Tailcall s f vs) fits ends = fits.4
control_none p blocks returns ks gs (going.Ret vs) fits ends = fits.1
control_none p blocks returns ks gs (going.Throw s) fits ends = fits.1

-- a WATCHPOINT has a normal destination
trapping_none : (p : Tables) (blocks : Blocks) (ks gs : List ℕ) (f : TrappingForm) (exceptional : Bool) → TrappingFits p blocks ks f gs → trapping_exits f false exceptional ≡ true → trapping_form_ends f ≡ true → gs ≡ []
trapping_none p blocks ks gs (asking.Trap cs) exceptional fits told ends = cc
trapping_none p blocks ks gs (asking.Watchpoint n cs t) exceptional fits told ends = cc
trapping_none p blocks ks gs (asking.Wpbranch n t u) exceptional fits told ends = fits.3

switch_none : (p : Tables) (ks gs : List ℕ) (f : SwitchForm) → SwitchFits p ks f gs → switch_form_ends f ≡ true → gs ≡ []
switch_none p ks gs (switching.SwapReturning s cs e) fits ends = cc
switch_none p ks gs (switching.SwapKilling s e) fits ends = fits.2
switch_none p ks gs (switching.Newthread s tl e) fits ends = cc

common_none : (p : Tables) (ks gs : List ℕ) (f : CommonForm) → CommonFits p ks f gs → common_form_ends f ≡ true → gs ≡ []
common_none p ks gs named.ThreadExit fits ends = fits
common_none p ks gs (named.NewStack s f) fits ends = cc
common_none p ks gs (named.KillStack s) fits ends = cc
common_none p ks gs named.CurrentStack fits ends = cc
common_none p ks gs (named.SetThreadlocal r) fits ends = cc
common_none p ks gs named.GetThreadlocal fits ends = cc
common_none p ks gs (named.FutexWait c l v) fits ends = cc
common_none p ks gs (named.FutexWake c l n) fits ends = cc
common_none p ks gs (named.FutexWaitTimeout c l v n) fits ends = cc

form_none : (p : Tables) (blocks : Blocks) (returns ks gs : List ℕ) (f : Form) (exceptional : Bool) → FormFits p blocks returns ks f gs → exits f false exceptional ≡ true → form_ends f ≡ true → gs ≡ []
form_none p blocks returns ks gs (forms.Computation f) exceptional fits told ends = cc
form_none p blocks returns ks gs (forms.Control f) exceptional fits told ends = control_none p blocks returns ks gs f fits ends
form_none p blocks returns ks gs (forms.Allocation f) exceptional fits told ends = cc
form_none p blocks returns ks gs (forms.Addressing f) exceptional fits told ends = cc
form_none p blocks returns ks gs (forms.Access f) exceptional fits told ends = cc
form_none p blocks returns ks gs (forms.Trapping f) exceptional fits told ends = trapping_none p blocks ks gs f exceptional fits told ends
form_none p blocks returns ks gs (forms.Switch f) exceptional fits told ends = switch_none p ks gs f fits ends
form_none p blocks returns ks gs (forms.Common f) exceptional fits told ends = common_none p ks gs f fits ends

ends_itself : (b : Bool) → (b || false) ≡ true → b ≡ true
ends_itself true h = refl
ends_itself false h = cc

pub gives_nothing : (p : Tables) (blocks : Blocks) (returns ks gs : List ℕ) (i : Code) → CodeFits p blocks returns ks i gs → code_ends i ≡ true → i.normal ≡ None → gs ≡ []
gives_nothing p blocks returns ks gs i fits ends none =
    let told : exits i.form false (is_some i.exceptional) ≡ true = subst (λ (o : Option Target). exits i.form (is_some o) (is_some i.exceptional) ≡ true) none fits.told in
    let itself : (form_ends i.form || false) ≡ true = subst (λ (o : Option Target). (form_ends i.form || is_some o) ≡ true) none ends in
    form_none p blocks returns ks gs i.form (is_some i.exceptional) fits.form told (ends_itself (form_ends i.form) itself)
