-- Instructions that make objects and find places in them. Each form gives the place of its word, too.
use Rattle.std.specs.Prelude.{ℕ, List, [], ◌∷◌}
use Rattle.text_forms.specs.declared.symbol.Symbol.{Symbol}
use Rattle.text_forms.specs.declared.symbol.Symbol.TheVariants as symbols
use Rattle.text_forms.specs.Forms.{Form, both, on, made}
use Rattle.ir_lex.specs.TokenForms.{mark}
use Rattle.ir_tree.specs.declared.allocating.Allocation.{Allocation}
use Rattle.ir_tree.specs.declared.allocating.Allocation.TheVariants as allocations
use Rattle.ir_tree.specs.declared.addressing.Addressing.{Addressing}
use Rattle.ir_tree.specs.declared.addressing.Addressing.TheVariants as addressings
use Rattle.ir_tree.specs.Lists.{optional, bracketed, bracketed_pair, value, exc}
use Rattle.ir_tree.specs.Computations.{bracketed_field}

-- NEW < T > exc?
unfoldable pub new_object : Form (ℕ × Allocation)
new_object = made (λ x. (x.0, allocations.New x.1.0 x.1.1)) (both (mark symbols.New) (both bracketed (optional symbols.Exc exc)))

-- NEWHYBRID < H I > n exc?
unfoldable pub newhybrid : Form (ℕ × Allocation)
newhybrid =
    made (λ x. (x.0, allocations.Newhybrid x.1.0.0 x.1.0.1 x.1.1.0 x.1.1.1))
    (both (mark symbols.Newhybrid) (both bracketed_pair (both value (optional symbols.Exc exc))))

-- ALLOCA < T > exc?
unfoldable pub alloca : Form (ℕ × Allocation)
alloca = made (λ x. (x.0, allocations.Alloca x.1.0 x.1.1)) (both (mark symbols.Alloca) (both bracketed (optional symbols.Exc exc)))

abbrev pub allocation_words : List Symbol
allocation_words = symbols.New ∷ symbols.Newhybrid ∷ symbols.Alloca ∷ []

unfoldable pub allocation : Form (ℕ × Allocation)
allocation = on (symbols.New ∷ []) new_object (on (symbols.Newhybrid ∷ []) newhybrid alloca)

-- GETIREF < T > r
unfoldable pub getiref : Form (ℕ × Addressing)
getiref = made (λ x. (x.0, addressings.Getiref x.1.0 x.1.1)) (both (mark symbols.Getiref) (both bracketed value))

-- GETFIELDIREF < T n > p
unfoldable pub getfieldiref : Form (ℕ × Addressing)
getfieldiref = made (λ x. (x.0, addressings.Getfieldiref x.1.0.0 x.1.0.1 x.1.1)) (both (mark symbols.Getfieldiref) (both bracketed_field value))

-- GETELEMIREF < T I > p i
unfoldable pub getelemiref : Form (ℕ × Addressing)
getelemiref =
    made (λ x. (x.0, addressings.Getelemiref x.1.0.0 x.1.0.1 x.1.1.0 x.1.1.1))
    (both (mark symbols.Getelemiref) (both bracketed_pair (both value value)))

-- SHIFTIREF < T I > p i
unfoldable pub shiftiref : Form (ℕ × Addressing)
shiftiref =
    made (λ x. (x.0, addressings.Shiftiref x.1.0.0 x.1.0.1 x.1.1.0 x.1.1.1))
    (both (mark symbols.Shiftiref) (both bracketed_pair (both value value)))

-- GETVARPARTIREF < H > p
unfoldable pub getvarpartiref : Form (ℕ × Addressing)
getvarpartiref = made (λ x. (x.0, addressings.Getvarpartiref x.1.0 x.1.1)) (both (mark symbols.Getvarpartiref) (both bracketed value))

abbrev pub addressing_words : List Symbol
addressing_words = symbols.Getiref ∷ symbols.Getfieldiref ∷ symbols.Getelemiref ∷ symbols.Shiftiref ∷ symbols.Getvarpartiref ∷ []

unfoldable pub addressing_form : Form (ℕ × Addressing)
addressing_form =
    on (symbols.Getiref ∷ []) getiref
    (on (symbols.Getfieldiref ∷ []) getfieldiref
    (on (symbols.Getelemiref ∷ []) getelemiref
    (on (symbols.Shiftiref ∷ []) shiftiref
    getvarpartiref)))
