-- What texts begin with.
use Rattle.std.proofs.Common.{◌≡◌, ℕ, ◌≤◌, List, ◌++◌, length, drop, min, sym, ap, subst, ◌∙◌, arith}
use Rattle.std.proofs.Math.Seq.{take-length}
use Rattle.std.proofs.lemmas.List.{take-append-le, take-append-drop, length-take}
use Rattle.mu_base.specs.Files.{IsPrefix}

-- each text begins with itself
pub prefix_self : (a : List ℕ) → IsPrefix a a
prefix_self a = take-length a

prefix_is_shorter : (a b : List ℕ) → IsPrefix a b → length a ≤ length b
prefix_is_shorter a b h =
    let e : length a ≡ min (length a) (length b) = sym (ap (λ (l : List ℕ). length l) h) ∙ length-take (length a) b in omega (arith, e)

-- and so does a longer one
pub prefix_longer : (a b c : List ℕ) → IsPrefix a b → IsPrefix a (b ++ c)
prefix_longer a b c h = take-append-le (length a) b c (prefix_is_shorter a b h) ∙ h

pub prefix_again : (a b c : List ℕ) → IsPrefix a b → IsPrefix b c → IsPrefix a c
prefix_again a b c h k =
    let whole : b ++ drop (length b) c ≡ c = sym (ap (λ (l : List ℕ). l ++ drop (length b) c) k) ∙ take-append-drop (length b) c in
    subst (λ (l : List ℕ). IsPrefix a l) whole (prefix_longer a b (drop (length b) c) h)
