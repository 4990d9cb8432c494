-- The types of constructors, in the scopes of a program and in the list of its types.
use Rattle.std.proofs.Common.{◌≡◌, ℕ, suc, List, [], ◌∷◌, ◌++◌, refl, sym, ap, subst, ◌∙◌}
use Rattle.std.specs.Prelude.{Bool, true, false, if◌then◌else◌, IsFalse, Option, None, Some}
use Rattle.std.specs.Str.{bytes_eq}
use Rattle.hp_base.specs.declared.ty.Ty.TheVariants as ty
use Rattle.hp_tree.specs.declared.program.Item.{Item}
use Rattle.hp_tree.specs.declared.program.Item.TheVariants.{TypeItem, NodeItem}
use Rattle.hp_tree.specs.Blocks.{Decl}
use Rattle.hp_tree.specs.Programs.{TypeDecl}
use Rattle.hp_tree.specs.Operators.{place_in}
use Rattle.hp_tree.specs.ExpressionTypes.{some_place, type_with}
use Rattle.hp_tree.specs.Meaning.{types_of}
use Rattle.hp_base.specs.Known.Known.{lookup, with_entry}
use Rattle.hp_typing.specs.Scopes.{nothing, behind, with_variables, with_constructors}
use Rattle.law_judged.specs.Typed.Scopes.{Scope}
use Rattle.law_values.specs.Valued.Values.{scope_behind}
use Rattle.law_judged.proofs.NamedLemmas.Sets.{same_name, name_same}
use Rattle.law_values.proofs.AcceptedLemmas.Views.{some_same, true_false, entry_new, entry_kept, entry_cases}

-- ---- the constructors of a type that is declared

abbrev or_named : Option (List ℕ) → Bool → List ℕ → Option (List ℕ)
or_named (Some u) b t = Some u
or_named None b t = if b then Some t else None

or_none : (o : Option (List ℕ)) (t : List ℕ) → o ≡ or_named o false t
or_none None t = refl
or_none (Some u) t = refl

con_is : (cs : List (List ℕ)) (known : List (List ℕ × List ℕ)) (t x : List ℕ) (k : ℕ) → lookup (with_constructors known t cs) x ≡ or_named (lookup known x) (some_place (place_in k cs x)) t
con_is [] known t x k = or_none (lookup known x) t
con_is (c ∷ cs) known t x k =
    con_is cs (with_entry known c t) t x (suc k) ∙ by (lookup known x) refl (bytes_eq c x) refl
  where
    rest : Bool
    rest = some_place (place_in (suc k) cs x)

    known_now : (u : List ℕ) → lookup (with_entry known c t) x ≡ Some u → or_named (lookup (with_entry known c t) x) rest t ≡ Some u
    known_now u e = ap (λ o. or_named o rest t) e

    not_now : lookup known x ≡ None → IsFalse (bytes_eq c x) → (o : Option (List ℕ)) → lookup (with_entry known c t) x ≡ o → o ≡ None
    not_now n f None e = refl
    not_now n f (Some v) e = entry_cases known c t x v e (λ h. absurd (let r = sym h ∙ n in cc)) (λ s w z. true_false (bytes_eq c x) (name_same c x (sym s)) f)

    by : (o : Option (List ℕ)) → lookup known x ≡ o → (b : Bool) → bytes_eq c x ≡ b → or_named (lookup (with_entry known c t) x) rest t ≡ or_named o (some_place (if b then Some k else place_in (suc k) cs x)) t
    by (Some u) e b f = known_now u (entry_kept known c t x u e)
    by None e true f = known_now t (subst (λ z. lookup (with_entry known c t) z ≡ Some t) (same_name c x f) (entry_new known c t (subst (λ z. lookup known z ≡ None) (sym (same_name c x f)) e)))
    by None e false f = ap (λ o. or_named o rest t) (not_now e f (lookup (with_entry known c t) x) refl)

-- ---- the types so far

-- Constructors that are known in a scope have the types that they have in a list of types, whatever comes behind it.
pub record ConsSoFar (before : List TypeDecl) (s : Scope) : Type 0 where
  pub found : (c u : List ℕ) → lookup s.constructors c ≡ Some u → (more : List TypeDecl) → type_with (before ++ more) c ≡ ty.Enum u
  pub unknown : (c : List ℕ) → lookup s.constructors c ≡ None → (more : List TypeDecl) → type_with (before ++ more) c ≡ type_with more c

cons_none : ConsSoFar [] nothing
cons_none = record { found = λ c u h more. absurd (cc); unknown = λ c h more. refl }

one_more : (before : List TypeDecl) (t : TypeDecl) (more : List TypeDecl) → (before ++ t ∷ []) ++ more ≡ before ++ t ∷ more
one_more [] t more = refl
one_more (d ∷ ds) t more = ap (λ r. d ∷ r) (one_more ds t more)

cons_more : (before : List TypeDecl) (s : Scope) (t : TypeDecl) → ConsSoFar before s → ConsSoFar (before ++ t ∷ []) (behind s (TypeItem t))
cons_more before s t p = record {
  found = λ c u h more.
      ap (λ r. type_with r c) (one_more before t more)
      ∙ found_by c u more (lookup s.constructors c) refl (some_place (place_in 0 t.cons c)) refl (sym (con_is t.cons s.constructors t.name c 0) ∙ h);
  unknown = λ c h more.
      ap (λ r. type_with r c) (one_more before t more)
      ∙ none_by c more (lookup s.constructors c) refl (some_place (place_in 0 t.cons c)) refl (sym (con_is t.cons s.constructors t.name c 0) ∙ h);
}
  where
    found_by : (c u : List ℕ) (more : List TypeDecl) (o : Option (List ℕ)) → lookup s.constructors c ≡ o → (b : Bool) → some_place (place_in 0 t.cons c) ≡ b → or_named o b t.name ≡ Some u → type_with (before ++ t ∷ more) c ≡ ty.Enum u
    found_by c u more (Some v) e b f h = p.found c u (e ∙ h) (t ∷ more)
    found_by c u more None e true f h = p.unknown c e (t ∷ more) ∙ ap (λ z. if z then ty.Enum t.name else type_with more c) f ∙ ap ty.Enum (some_same t.name u h)
    found_by c u more None e false f h = absurd (cc)

    none_by : (c : List ℕ) (more : List TypeDecl) (o : Option (List ℕ)) → lookup s.constructors c ≡ o → (b : Bool) → some_place (place_in 0 t.cons c) ≡ b → or_named o b t.name ≡ None → type_with (before ++ t ∷ more) c ≡ type_with more c
    none_by c more (Some v) e b f h = absurd (cc)
    none_by c more None e true f h = absurd (cc)
    none_by c more None e false f h = p.unknown c e (t ∷ more) ∙ ap (λ z. if z then ty.Enum t.name else type_with more c) f

-- the types of some items, which stand with the last one first, in declared order
abbrev pub types_behind : List Item → List TypeDecl
types_behind [] = []
types_behind (TypeItem t ∷ earlier) = types_behind earlier ++ t ∷ []
types_behind (NodeItem n ∷ earlier) = types_behind earlier

pub cons_behind : (items : List Item) → ConsSoFar (types_behind items) (scope_behind items)
cons_behind [] = cons_none
cons_behind (TypeItem t ∷ earlier) = cons_more (types_behind earlier) (scope_behind earlier) t (cons_behind earlier)
cons_behind (NodeItem n ∷ earlier) = let p = cons_behind earlier in record { found = p.found; unknown = p.unknown }

abbrev onto : List Item → List Item → List Item
onto [] ys = ys
onto (x ∷ xs) ys = onto xs (x ∷ ys)

none_behind : (xs : List TypeDecl) → xs ≡ xs ++ []
none_behind [] = refl
none_behind (x ∷ xs) = ap (λ r. x ∷ r) (none_behind xs)

types_onto : (xs ys : List Item) → types_behind (onto xs ys) ≡ types_behind ys ++ types_of xs
types_onto [] ys = none_behind (types_behind ys)
types_onto (TypeItem t ∷ xs) ys = types_onto xs (TypeItem t ∷ ys) ∙ one_more (types_behind ys) t (types_of xs)
types_onto (NodeItem n ∷ xs) ys = types_onto xs (NodeItem n ∷ ys)

-- the types of a program stand behind its items
pub types_there : (program : List Item) → types_of program ≡ types_behind (onto program []) ++ []
types_there program = sym (types_onto program []) ∙ none_behind (types_behind (onto program []))

pub behind_one : (before : List TypeDecl) (t : TypeDecl) (more : List TypeDecl) → (before ++ t ∷ []) ++ more ≡ before ++ t ∷ more
behind_one before t more = one_more before t more

-- ---- what blocks add to a scope

abbrev pub ConsTyped : List TypeDecl → Scope → Type 0
ConsTyped types s = (c u : List ℕ) → lookup s.constructors c ≡ Some u → type_with types c ≡ ty.Enum u

same_conses : (ds : List Decl) (s : Scope) → (with_variables s ds).constructors ≡ s.constructors
same_conses [] s = refl
same_conses (d ∷ ds) s = same_conses ds (record s { variables = with_entry s.variables d.name d.ty })

pub cons_inside : (types : List TypeDecl) (ds : List Decl) (s : Scope) → ConsTyped types s → ConsTyped types (with_variables s ds)
cons_inside types ds s k c u h = k c u (sym (ap (λ z. lookup z c) (same_conses ds s)) ∙ h)
