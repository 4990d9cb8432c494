-- The breaches of claims, and the first of them.
use Rattle.std.proofs.Common.{◌≡◌, ℕ, Bool, true, false, ◌&&◌, ◌||◌, if◌then◌else◌, List, [], ◌∷◌, ◌++◌, None, Some, Contains, fold, refl, sym, ap, subst, ◌∙◌, arith}
use Rattle.std.specs.List.{list_all, list_any}
use Rattle.std.proofs.lemmas.List.Elements.{Contains-get_or, Contains-append_right}
use Rattle.std.proofs.lemmas.Bool.Decides.{nat_tests}
use Rattle.hp_base.specs.declared.span.Span.{Span}
use Rattle.hp_names.specs.Names.{has}
use Rattle.hp_names.specs.declared.breach.Fault.{Fault}
use Rattle.hp_names.specs.declared.breach.Fault.TheVariants.{Unknown, Twice}
use Rattle.hp_names.specs.declared.error.NameErr.{NameErr}
use Rattle.hp_names.specs.declared.error.NameErr.TheVariants as error
use Rattle.hp_tree.specs.declared.program.Item.{Item}
use Rattle.hp_names.specs.Rules.{WellNamed}
use Rattle.hp_names.specs.Claims.{Claim, uses, declares, claims}
use Rattle.hp_names.specs.Breaches.{Breach, breach_in, breaches, place_of, found_after, AreBreachesOf, NamesFirst, error_of, named}
use Rattle.hp_base.specs.First.First.{IsFirst}
use Rattle.hp_base.proofs.FirstLemmas.FirstLaws.{first_some, first_none, first_none_of}
use Rattle.hp_names.proofs.RuleLaws.{Contains-has, has-Contains, program_law}

-- ---- each breach is that of a claim

each_breach : (all : List Claim) (c : Claim) (bs : List Breach) → Contains all c → AreBreachesOf all bs → AreBreachesOf all (breach_in c ++ bs)
each_breach all (uses names x at) bs h rest = by (has names x) refl
  where
    by : (known : Bool) → has names x ≡ known → AreBreachesOf all ((if known then [] else record { fault = Unknown; name = x; at = at } ∷ []) ++ bs)
    by true e = rest
    by false e = ((uses names x at, (h, (λ k. let t = has-Contains names x k in absurd cc, refl))), rest)
each_breach all (declares names x at) bs h rest = by (has names x) refl
  where
    by : (known : Bool) → has names x ≡ known → AreBreachesOf all ((if known then record { fault = Twice; name = x; at = at } ∷ [] else []) ++ bs)
    by true e = ((declares names x at, (h, (λ k. k (Contains-has names x e), refl))), rest)
    by false e = rest

among : (all cs : List Claim) → ((c : Claim) → Contains cs c → Contains all c) → AreBreachesOf all (breaches cs)
among all [] h = tt
among all (c ∷ cs) h =
    each_breach all c (breaches cs) (h c (Contains-get_or (c ∷ cs) 0 c (omega arith))) (among all cs (λ d k. h d (Contains-append_right (c ∷ []) cs d k)))

pub breaches_law : (cs : List Claim) → AreBreachesOf cs (breaches cs)
breaches_law cs = among cs cs (λ c h. h)

-- ---- the first breach

-- where nothing is found, no claim has a breach
pub clear_law : (cs : List Claim) → found_after None cs ≡ None → breaches cs ≡ []
unfolding found_after
clear_law cs p = first_none place_of (breaches cs) p

named_none : (bs : List Breach) (e : NameErr) → bs ≡ [] → NamesFirst bs e → e ≡ error.OutOfMemory
named_none bs (error.Unknown x at) p f = absurd (first_none_of place_of bs (record { fault = Unknown; name = x; at = at }) p f)
named_none bs (error.Twice x at) p f = absurd (first_none_of place_of bs (record { fault = Twice; name = x; at = at }) p f)
named_none bs error.OutOfMemory p f = refl

named_first : (bs : List Breach) (fault : Fault) (name : List ℕ) (at : Span) → IsFirst place_of bs (record { fault = fault; name = name; at = at }) → NamesFirst bs (named fault name at)
named_first bs Unknown name at h = h
named_first bs Twice name at h = h

-- and what is found is the first breach
pub first_law : (cs : List Claim) (b : Breach) → found_after None cs ≡ Some b → NamesFirst (breaches cs) (error_of b)
unfolding found_after
first_law cs b p = named_first (breaches cs) b.fault b.name b.at (first_some place_of (breaches cs) b p)

-- so a program that is well named has none to name
pub accepted_law : (program : List Item) (b : Breach) → found_after None (claims program) ≡ Some b → WellNamed program → error_of b ≡ error.OutOfMemory
accepted_law program b p well = named_none (breaches (claims program)) (error_of b) ((program_law program).0 well) (first_law (claims program) b p)
