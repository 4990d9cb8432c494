-- What the judgements know at a place of a program. Their crates keep the names of these two types to themselves, so each is said here
-- as the type of the scope in which nothing is known.
use Rattle.hp_names.specs.Scopes as names
use Rattle.hp_typing.specs.Scopes as types

abbrev TypeOf : {A : Type 0} → A → Type 0
TypeOf {A} a = A

-- the types of variables, the types of constructors, declared types and nodes
abbrev pub Scope : Type 0
Scope = TypeOf types.nothing

-- the names that are in scope
abbrev pub NameScope : Type 0
NameScope = TypeOf names.nothing
