-- Scopes that grow and shrink.
use Rattle.std.proofs.Common.{◌≡◌, ℕ, ◌+◌, ◌≤◌, ◌<◌, Bool, true, false, if◌then◌else◌, is_some, length, take, drop, get_or, arith, List, [], ◌∷◌, ◌++◌, refl, ap, ◌∙◌}
use Rattle.std.proofs.lemmas.List.{take-append-le, take_all, length-append}
use Rattle.hp_tree.specs.Blocks.{Decl, Block, block}
use Rattle.hp_base.specs.Known.Known.{lookup, with_entry}
use Rattle.hp_typing.specs.Scopes.{Scope, with_variables, inside, left}
use Rattle.hp_typing.proofs.FoundLaws.{drop-next}

module _ {A : Type 0} where
  -- the entries that were there come first
  take-with_entry : (n : ℕ) (es : List (List ℕ × A)) (x : List ℕ) (a : A) → n ≤ length es → take n (with_entry es x a) ≡ take n es
  take-with_entry n es x a h = by (is_some (lookup es x))
    where
      by : (known : Bool) → take n (if known then es else es ++ (x, a) ∷ []) ≡ take n es
      by true = refl
      by false = take-append-le n es ((x, a) ∷ []) h

  length-with_entry : (es : List (List ℕ × A)) (x : List ℕ) (a : A) → length es ≤ length (with_entry es x a)
  length-with_entry es x a = by (is_some (lookup es x))
    where
      by : (known : Bool) → length es ≤ length (if known then es else es ++ (x, a) ∷ [])
      by true = omega arith
      by false = rw length-append (omega arith)

pub left-with_variables : (n : ℕ) (s : Scope) (ds : List Decl) → n ≤ length s.variables → left n (with_variables s ds) ≡ left n s
left-with_variables n s [] h = refl
left-with_variables n s (d ∷ ds) h =
    let t : Scope = record s { variables = with_entry s.variables d.name d.ty } in
    left-with_variables n t ds (omega (arith, length-with_entry s.variables d.name d.ty))
    ∙ ap (λ es. record s { variables = es }) (take-with_entry n s.variables d.name d.ty h)

grow : (n : ℕ) (s : Scope) (ds : List Decl) → n ≤ length s.variables → n ≤ length (with_variables s ds).variables
grow n s [] h = h
grow n s (d ∷ ds) h = grow n (record s { variables = with_entry s.variables d.name d.ty }) ds (omega (arith, length-with_entry s.variables d.name d.ty))

-- a scope keeps all its own
left-all : (n : ℕ) (s : Scope) → n ≡ length s.variables → left n s ≡ s
left-all n s h = ap (λ es. record s { variables = es }) (take_all n s.variables (omega arith))

pub left-controls : (n : ℕ) (s : Scope) (ds : List Decl) → n ≡ length s.variables → left n (with_variables s ds) ≡ s
left-controls n s ds h = left-with_variables n s ds (omega arith) ∙ left-all n s h

pub left-inside : (n : ℕ) (s : Scope) (b : Block) → n ≡ length s.variables → left n (inside s b) ≡ s
left-inside n s (block ds es) h = left-controls n s ds h

pub left-node : (n : ℕ) (s : Scope) (ds es : List Decl) → n ≡ length s.variables → left n (with_variables (with_variables s ds) es) ≡ s
left-node n s ds es h = left-with_variables n (with_variables s ds) es (grow n s ds (omega arith)) ∙ left-controls n s ds h

pub with_variables-next : (s : Scope) (ds : List Decl) (i : ℕ) (d : Decl) → i < length ds → d ≡ get_or ds i d
    → with_variables s (drop i ds) ≡ with_variables (record s { variables = with_entry s.variables d.name d.ty }) (drop (i + 1) ds)
with_variables-next s ds i d h p = ap (with_variables s) (drop-next ds i d h p)
