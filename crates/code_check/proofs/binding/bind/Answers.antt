use Rattle.std.proofs.Common.{◌≡◌, ℕ, List, [], ◌∷◌, ◌++◌, Option, Some, None, IfSome, IfNone, refl, sym, ◌∙◌}
use Rattle.name_scopes.specs.Names.{Names}
use Rattle.checked_code.specs.declared.scopes.Variable.{Variable}
use Rattle.checked_code.specs.declared.scopes.Locals.{Locals}
use Rattle.code_check.proofs.binding.bind.Goals as goal

same_front : (a b : List ℕ) (x y : ℕ) → a ++ x ∷ [] ≡ b ++ y ∷ [] → a ≡ b
same_front [] [] x y e = refl
same_front [] (m ∷ []) x y e = cc
same_front [] (m ∷ n ∷ b) x y e = cc
same_front (k ∷ []) [] x y e = cc
same_front (k ∷ j ∷ a) [] x y e = cc
same_front (k ∷ a) (m ∷ b) x y e =
    let head : k ≡ m = cc in
    let rest : a ++ x ∷ [] ≡ b ++ y ∷ [] = cc in
    let same : a ≡ b = same_front a b x y rest in
    cc

-- a class that was added is taken back
taken_back : (before after pushed : List ℕ) (c : ℕ) (taken : Option ℕ) → pushed ≡ before ++ c ∷ [] → IfSome taken (λ x. pushed ≡ after ++ x ∷ []) → IfNone taken (pushed ≡ []) → after ≡ before
taken_back [] after pushed c None e some none = let h : c ∷ [] ≡ [] = sym e ∙ none in cc
taken_back (k ∷ before) after pushed c None e some none = let h : k ∷ (before ++ c ∷ []) ≡ [] = sym e ∙ none in cc
taken_back before after pushed c (Some x) e some none = same_front after before x c (sym some ∙ e)

locals_same : (ls : Locals) (names : Names Variable) (classes : List ℕ) → names ≡ ls.names → classes ≡ ls.classes → record { names = names; classes = classes } ≡ ls
locals_same ls names classes e f = rw (e, f) refl

pub returns-in-Err-clause-stays : goal.returns-in-Err-clause-stays
returns-in-Err-clause-stays c =
    locals_same c.args.locals.now c.define.new.self c.pop.new.self c.in-Err.ensures.err
    (taken_back c.args.locals.now.classes c.pop.new.self c.push.new.self c.args.class c.pop.result c.in_ok-push.ensures.ok c.pop.ensures.some c.pop.ensures.none)
