-- Scopes that grow and shrink.
use Rattle.std.proofs.Common.{◌≡◌, ℕ, ◌≤◌, Bool, true, false, if◌then◌else◌, length, take, arith, List, [], ◌∷◌, ◌++◌, Option, None, Some, refl, ap, ◌∙◌}
use Rattle.std.proofs.lemmas.List.{take-append-le, take_all, length-append}
use Rattle.hp_base.specs.declared.ty.Const.{Const}
use Rattle.hp_tree.specs.Blocks.{Decl, Block, block}
use Rattle.hp_names.specs.Names.{has, with_name}
use Rattle.hp_names.specs.Scopes.{Scope, with_variable, with_variables, inside, left}

-- the names that were there come first
pub take-with_name : (n : ℕ) (names : List (List ℕ)) (x : List ℕ) → n ≤ length names → take n (with_name names x) ≡ take n names
take-with_name n names x h = by (has names x)
  where
    by : (known : Bool) → take n (if known then names else names ++ x ∷ []) ≡ take n names
    by true = refl
    by false = take-append-le n names (x ∷ []) h

pub length-with_name : (names : List (List ℕ)) (x : List ℕ) → length names ≤ length (with_name names x)
length-with_name names x = by (has names x)
  where
    by : (known : Bool) → length names ≤ length (if known then names else names ++ x ∷ [])
    by true = omega arith
    by false = rw length-append (omega arith)

-- so what was added to a scope can be left
module _ (n m : ℕ) where
  left-with_variable : (s : Scope) (d : Decl) (first : Option Const) → n ≤ length s.variables → m ≤ length s.lasts → left n m (with_variable s d first) ≡ left n m s
  left-with_variable s d None h k = ap (λ names. record s { variables = names; lasts = take m s.lasts }) (take-with_name n s.variables d.name h)
  left-with_variable s d (Some first) h k =
      ap (λ names. record s { variables = names; lasts = take m (with_name s.lasts d.name) }) (take-with_name n s.variables d.name h)
      ∙ ap (λ names. record s { variables = take n s.variables; lasts = names }) (take-with_name m s.lasts d.name k)

  variables-grow : (s : Scope) (d : Decl) (first : Option Const) → n ≤ length s.variables → n ≤ length (with_variable s d first).variables
  variables-grow s d None h = omega (arith, length-with_name s.variables d.name)
  variables-grow s d (Some first) h = omega (arith, length-with_name s.variables d.name)

  lasts-grow : (s : Scope) (d : Decl) (first : Option Const) → m ≤ length s.lasts → m ≤ length (with_variable s d first).lasts
  lasts-grow s d None h = h
  lasts-grow s d (Some first) h = omega (arith, length-with_name s.lasts d.name)

  pub left-with_variables : (s : Scope) (ds : List Decl) → n ≤ length s.variables → m ≤ length s.lasts → left n m (with_variables s ds) ≡ left n m s
  left-with_variables s [] h k = refl
  left-with_variables s (d ∷ ds) h k =
      left-with_variables (with_variable s d d.last) ds (variables-grow s d d.last h) (lasts-grow s d d.last k) ∙ left-with_variable s d d.last h k

  pub variables-grow_all : (s : Scope) (ds : List Decl) → n ≤ length s.variables → n ≤ length (with_variables s ds).variables
  variables-grow_all s [] h = h
  variables-grow_all s (d ∷ ds) h = variables-grow_all (with_variable s d d.last) ds (variables-grow s d d.last h)

  pub lasts-grow_all : (s : Scope) (ds : List Decl) → m ≤ length s.lasts → m ≤ length (with_variables s ds).lasts
  lasts-grow_all s [] h = h
  lasts-grow_all s (d ∷ ds) h = lasts-grow_all (with_variable s d d.last) ds (lasts-grow s d d.last h)

-- a scope keeps all its own
pub left-all : (n m : ℕ) (s : Scope) → n ≡ length s.variables → m ≡ length s.lasts → left n m s ≡ s
left-all n m s h k =
    ap (λ names. record s { variables = names; lasts = take m s.lasts }) (take_all n s.variables (omega arith))
    ∙ ap (λ names. record s { lasts = names }) (take_all m s.lasts (omega arith))

pub left-inside : (n m : ℕ) (s : Scope) (b : Block) → n ≡ length s.variables → m ≡ length s.lasts → left n m (inside s b) ≡ s
left-inside n m s (block ds es) h k = left-with_variables n m s ds (omega arith) (omega arith) ∙ left-all n m s h k

pub left-controls : (n m : ℕ) (s : Scope) (ds : List Decl) → n ≡ length s.variables → m ≡ length s.lasts → left n m (with_variables s ds) ≡ s
left-controls n m s ds h k = left-with_variables n m s ds (omega arith) (omega arith) ∙ left-all n m s h k

pub left-node : (n m : ℕ) (s : Scope) (ds es : List Decl) → n ≡ length s.variables → m ≡ length s.lasts → left n m (with_variables (with_variables s ds) es) ≡ s
left-node n m s ds es h k =
    left-with_variables n m (with_variables s ds) es (variables-grow_all n m s ds (omega arith)) (lasts-grow_all n m s ds (omega arith))
    ∙ left-controls n m s ds h k
