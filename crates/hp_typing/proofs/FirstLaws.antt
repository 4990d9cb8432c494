-- The breaches of claims, and the first of them.
use Rattle.std.proofs.Common.{◌≡◌, ℕ, nat_eq, count_by, Bool, true, false, ◌&&◌, ◌||◌, if◌then◌else◌, List, [], ◌∷◌, ◌++◌, None, Some, Contains, fold, refl, sym, ap, subst, ◌∙◌, arith}
use Rattle.std.specs.List.{list_all, list_any}
use Rattle.std.proofs.lemmas.List.Elements.{Contains-get_or, Contains-append_right}
use Rattle.std.proofs.lemmas.Bool.Decides.{nat_tests}
use Rattle.hp_base.specs.declared.span.Span.{Span}
use Rattle.hp_tree.specs.declared.program.Item.{Item}
use Rattle.hp_typing.specs.Rules.{WellTyped}
use Rattle.hp_tree.specs.declared.decl.Cons.{Cons}
use Rattle.hp_tree.specs.Blocks.{Eqns}
use Rattle.hp_typing.specs.declared.error.Is.{Is}
use Rattle.hp_typing.specs.declared.uses.Use.{Use}
use Rattle.hp_typing.specs.declared.uses.Use.TheVariants.{Never, Once, Partly, Twice}
use Rattle.hp_typing.specs.Uses.{use_in_eqns}
use Rattle.hp_typing.specs.Definitions.{SomeDefines, DefineAtMostOnce, DefineWhole, same_cons}
use Rattle.hp_typing.specs.DefinitionRules.{WellDefined}
use Rattle.hp_typing.specs.Definedness.{definition_claims}
use Rattle.hp_typing.specs.Claims.{Claim, wants, has_equation, has_none, stands_once, claims}
use Rattle.hp_base.specs.First.First.{IsFirst, sooner}
use Rattle.hp_base.proofs.FirstLemmas.FirstLaws.{first_some, first_none, first_none_of}
use Rattle.hp_typing.specs.Breaches.{Breach, wrong, undefined, twice, branch, place_of, same_is, text_of, of_variable, of_other, breach_in, breaches, found_after, or_else, AreBreachesOf, NamesFirst, error_of}
use Rattle.hp_typing.proofs.UseLaws.{Says, says_eqns}
use Rattle.hp_typing.proofs.RuleLaws.{is_self, program_law}
use Rattle.hp_typing.proofs.DefinitionLaws.{definitions_law}

-- ---- each breach is that of a claim

module _ (all : List Claim) (bs : List Breach) (rest : AreBreachesOf all bs) where
  wanted_breach : (at : Span) (t u : Is) → Contains all (wants at t u) → AreBreachesOf all (breach_in (wants at t u) ++ bs)
  wanted_breach at t u h = by (same_is t u) refl
    where
      by : (d : Bool) → same_is t u ≡ d → AreBreachesOf all ((if d then [] else wrong at t u ∷ []) ++ bs)
      by true e = rest
      by false e = ((wants at t u, (h, (λ k. let r : same_is t u ≡ true = rw k (is_self u) in absurd cc, refl))), rest)

  variable_breach : (at : Span) (x : List ℕ) (is_last : Bool) (es : Eqns) → Contains all (has_equation at x is_last es)
      → (u : Use) → Says u (SomeDefines es x) (DefineAtMostOnce es x) (DefineWhole es x) → AreBreachesOf all (of_variable at x is_last u ++ bs)
  variable_breach at x is_last es h Never a = ((has_equation at x is_last es, (h, (a.0, (refl, refl)))), rest)
  variable_breach at x is_last es h Once a = rest
  variable_breach at x true es h Partly a = rest
  variable_breach at x false es h Partly a = ((has_equation at x false es, (h, ((refl, (a.1.0, a.1.1)), (refl, refl)))), rest)
  variable_breach at x is_last es h Twice a = ((has_equation at x is_last es, (h, (a.1, (refl, refl)))), rest)

  other_breach : (at : Span) (x : List ℕ) (es : Eqns) → Contains all (has_none at x es)
      → (u : Use) → Says u (SomeDefines es x) (DefineAtMostOnce es x) (DefineWhole es x) → AreBreachesOf all (of_other at x u ++ bs)
  other_breach at x es h Never a = rest
  other_breach at x es h Once a = ((has_none at x es, (h, (a.0, refl))), rest)
  other_breach at x es h Partly a = ((has_none at x es, (h, (a.0, refl))), rest)
  other_breach at x es h Twice a = ((has_none at x es, (h, (a.0, refl))), rest)

  constructor_breach : (at : Span) (c : Cons) (given : List Cons) → Contains all (stands_once at c given) → AreBreachesOf all (breach_in (stands_once at c given) ++ bs)
  constructor_breach at c given h = by (nat_eq (count_by (same_cons c) given) 1) refl
    where
      by : (d : Bool) → nat_eq (count_by (same_cons c) given) 1 ≡ d → AreBreachesOf all ((if d then [] else branch at (text_of c) ∷ []) ++ bs)
      by true e = rest
      by false e = ((stands_once at c given, (h, (λ k. let r : nat_eq (count_by (same_cons c) given) 1 ≡ true = rw k in absurd cc, refl))), rest)

  each_breach : (c : Claim) → Contains all c → AreBreachesOf all (breach_in c ++ bs)
  each_breach (wants at t u) h = wanted_breach at t u h
  each_breach (has_equation at x is_last es) h = variable_breach at x is_last es h (use_in_eqns es x) (says_eqns es x)
  each_breach (has_none at x es) h = other_breach at x es h (use_in_eqns es x) (says_eqns es x)
  each_breach (stands_once at c given) h = constructor_breach at c given h

among : (all cs : List Claim) → ((c : Claim) → Contains cs c → Contains all c) → AreBreachesOf all (breaches cs)
among all [] h = tt
among all (c ∷ cs) h =
    each_breach all (breaches cs) (among all cs (λ d k. h d (Contains-append_right (c ∷ []) cs d k))) c (h c (Contains-get_or (c ∷ cs) 0 c (omega arith)))

pub breaches_law : (cs : List Claim) → AreBreachesOf cs (breaches cs)
breaches_law cs = among cs cs (λ c h. h)

-- ---- the first breach

-- where nothing is found, no claim has a breach
pub clear_law : (cs : List Claim) → found_after None cs ≡ None → breaches cs ≡ []
unfolding found_after
clear_law cs p = first_none place_of (breaches cs) p

named_first : (bs : List Breach) (b : Breach) → IsFirst place_of bs b → NamesFirst bs (error_of b)
named_first bs (wrong at t u) h = h
named_first bs (undefined at x) h = h
named_first bs (twice at x) h = h
named_first bs (branch at x) h = h

some_found : (bs : List Breach) (b : Breach) → fold (sooner place_of) None bs ≡ Some b → (others : List Breach) → or_else bs others ≡ bs
some_found [] b p others = absurd cc
some_found (a ∷ bs) b p others = refl

-- and what is found is the first breach, of types or else of definitions
pub first_law : (program : List Item) (b : Breach) → found_after None (claims program) ≡ Some b
    → NamesFirst (or_else (breaches (claims program)) (breaches (definition_claims program))) (error_of b)
unfolding found_after
first_law program b p =
    let bs = breaches (claims program) in
    subst (λ cs. NamesFirst cs (error_of b)) (sym (some_found bs b p (breaches (definition_claims program)))) (named_first bs b (first_some place_of bs b p))

pub second_law : (program : List Item) (b : Breach) → found_after None (claims program) ≡ None → found_after None (definition_claims program) ≡ Some b
    → NamesFirst (or_else (breaches (claims program)) (breaches (definition_claims program))) (error_of b)
unfolding found_after
second_law program b p q =
    let bs = breaches (definition_claims program) in
    subst (λ cs. NamesFirst (or_else cs bs) (error_of b)) (sym (first_none place_of (breaches (claims program)) p)) (named_first bs b (first_some place_of bs b q))

-- so where the types of a program agree and its names are well defined there is none to name
pub accepted_law : (program : List Item) (b : Breach) → found_after None (claims program) ≡ Some b → WellTyped program → ⊥
unfolding found_after
accepted_law program b p well = first_none_of place_of (breaches (claims program)) b ((program_law program).0 well) (first_some place_of (breaches (claims program)) b p)

pub accepted_definitions_law : (program : List Item) (b : Breach) → found_after None (definition_claims program) ≡ Some b → WellDefined program → ⊥
unfolding found_after
accepted_definitions_law program b p well =
    first_none_of place_of (breaches (definition_claims program)) b ((definitions_law program).0 well) (first_some place_of (breaches (definition_claims program)) b p)
