-- That the breach which is named is the first of its node in the text.
use Rattle.std.specs.Prelude.{◌≡◌, ◌⊎◌, ℕ, false, List, [], ◌∷◌, Some}
use Rattle.hp_base.specs.declared.span.Span.{Span}
use Rattle.hp_tree.specs.Programs.{Node}
use Rattle.hp_base.specs.First.First.{is_before}
use Rattle.hp_expand.specs.Shapes.{Form, Breach, Mark, plain_at, bound_at, integer_at, in_contract, in_block, breach_of}
use Rattle.hp_expand.specs.declared.error.Shape.{Shape}
use Rattle.hp_expand.specs.declared.error.Shape.TheVariants.{Call, Inline, WrongType}

-- a plain call, an inlined call of a node with a contract, or an integer stands at this place
abbrev pub IsPlain : List Mark → Span → Type 0
IsPlain [] p = ⊥
IsPlain (plain_at at ∷ ms) p = (p ≡ at) ⊎ IsPlain ms p
IsPlain (bound_at at ∷ ms) p = IsPlain ms p
IsPlain (integer_at at ∷ ms) p = IsPlain ms p

abbrev pub IsBound : List Mark → Span → Type 0
IsBound [] p = ⊥
IsBound (plain_at at ∷ ms) p = IsBound ms p
IsBound (bound_at at ∷ ms) p = (p ≡ at) ⊎ IsBound ms p
IsBound (integer_at at ∷ ms) p = IsBound ms p

abbrev pub IsInteger : List Mark → Span → Type 0
IsInteger [] p = ⊥
IsInteger (plain_at at ∷ ms) p = IsInteger ms p
IsInteger (bound_at at ∷ ms) p = IsInteger ms p
IsInteger (integer_at at ∷ ms) p = (p ≡ at) ⊎ IsInteger ms p

-- a shape is broken at this place of a contract and a body with such marks
abbrev pub IsBroken : List Mark → List Mark → Shape → Span → Type 0
IsBroken contract body Call p = IsPlain contract p
IsBroken contract body Inline p = IsBound contract p ⊎ IsBound body p
IsBroken contract body WrongType p = IsInteger contract p

abbrev pub Breaks : (List ℕ → Form) → Node → Shape → Span → Type 0
Breaks forms n shape p = IsBroken (in_contract forms n.contract) (in_block forms n.body) shape p

-- The breach of a node is one, and none of its breaches stands before it.
abbrev pub FirstIsNamed : Type 0
FirstIsNamed = (forms : List ℕ → Form) (n : Node) (b : Breach) → breach_of forms n ≡ Some b
    → Breaks forms n b.shape b.at × ((shape : Shape) (p : Span) → Breaks forms n shape p → is_before p b.at ≡ false)
