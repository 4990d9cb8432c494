-- What stands for each constructor of its type stands once, so none stands twice.
use Rattle.std.proofs.Common.{◌≡◌, ◌⊎◌, inl, inr, ℕ, suc, ◌≤◌, length, cond, map, List, [], ◌∷◌, refl, sym, ap, subst, ◌∙◌, arith}
use Rattle.std.specs.Prelude.{⊤, Bool, true, false, ◌&&◌, ◌||◌, if◌then◌else◌, IsTrue, IsFalse, Option, None, Some, IsSome}
use Rattle.std.specs.List.{filter}
use Rattle.std.proofs.lemmas.Slice.Eq.{bytes_eq-Decides}
use Rattle.std.proofs.lemmas.List.Sums.{length-filter}
use Rattle.hp_base.specs.declared.ty.Ty.{Ty}
use Rattle.hp_base.specs.declared.ty.Ty.TheVariants as ty
use Rattle.hp_tree.specs.declared.decl.Cons.{Cons}
use Rattle.hp_tree.specs.declared.decl.Cons.TheVariants as cons
use Rattle.hp_tree.specs.Expressions.{Parts, no_part, more_parts}
use Rattle.hp_tree.specs.Blocks.{Arms, no_arm, more_arms}
use Rattle.hp_tree.specs.Programs.{TypeDecl}
use Rattle.hp_base.specs.Known.Known.{lookup}
use Rattle.hp_typing.specs.Types.{type_of, cons_type, enum_of, merge_type, parts_fit, agrees, chooses, named, constructors_of as all_of_type}
use Rattle.hp_typing.specs.Rules.{Fits}
use Rattle.hp_typing.specs.Definitions.{same_cons, StandsOnce, EachStandsOnce}
use Rattle.hp_typing.specs.Definedness.{conses_of_parts, conses_of_arms}
use Rattle.law_judged.specs.Typed.Scopes.{Scope}
use Rattle.law_values.specs.Valued.Judged.{is_named, of_parts, of_arms}
use Rattle.law_values.proofs.ValuedLemmas.Laws.{and_left, and_right}
use Rattle.law_values.proofs.ValuedLemmas.Typed.{agreed, where_is, some_is}
use Rattle.law_wellmade.specs.Timely.Tested.{AreApart}
use Rattle.law_wellmade.proofs.TimelyLemmas.KindLaws.{In}
use Rattle.law_wellmade.proofs.TimelyLemmas.DifferLaws.{Grounds}

pub taken : {A : Type 0} (o : Option A) → IsSome o → (a : A) × (o ≡ Some a)
taken {A} None h = absurd (cc)
taken {A} (Some a) h = (a, refl)

pub fits_some : (t : Ty) (o : Option Ty) → IsSome o → Fits (Some t) o → o ≡ Some t
fits_some t None h f = absurd (cc)
fits_some t (Some u) h f = ap Some (sym f)

-- ---- each constructor of a type stands once, so none stands twice

abbrev InConses : List Cons → Cons → Type 0
InConses [] c = ⊥
InConses (d ∷ cs) c = (d ≡ c) ⊎ InConses cs c

times : Cons → List Cons → ℕ
times c [] = 0
times c (d ∷ cs) = if same_cons c d then suc (times c cs) else times c cs

filter_times : (c : Cons) (cs : List Cons) → length (filter (same_cons c) cs) ≡ times c cs
unfolding times
filter_times c [] = refl
filter_times c (d ∷ cs) = by (same_cons c d) (filter_times c cs)
  where
    by : (b : Bool) → length (filter (same_cons c) cs) ≡ times c cs → length (cond b (d ∷ filter (same_cons c) cs) (filter (same_cons c) cs)) ≡ (if b then suc (times c cs) else times c cs)
    by true e = ap suc e
    by false e = e

named_times : (c : Cons) (cs : List Cons) → IsTrue (is_named cs c) → 1 ≤ times c cs
unfolding times
named_times c [] h = absurd (cc)
named_times c (d ∷ cs) h = by (same_cons c d) h (λ k. named_times c cs k)
  where
    by : (b : Bool) → IsTrue (b || is_named cs c) → (IsTrue (is_named cs c) → 1 ≤ times c cs) → 1 ≤ (if b then suc (times c cs) else times c cs)
    by true h f = omega arith
    by false h f = f h

same_self : (c : Cons) → same_cons c c ≡ true
same_self cons.False = refl
same_self cons.True = refl
same_self (cons.Named x) = (bytes_eq-Decides x x).1 refl

less_times : (c d : Cons) (cs : List Cons) → times c cs ≤ times c (d ∷ cs)
unfolding times
less_times c d cs = by (same_cons c d)
  where
    by : (b : Bool) → times c cs ≤ (if b then suc (times c cs) else times c cs)
    by true = omega arith
    by false = omega arith

own_times : (c : Cons) (cs : List Cons) → times c (c ∷ cs) ≡ suc (times c cs)
unfolding times
own_times c cs = ap (λ b. if b then suc (times c cs) else times c cs) (same_self c)

false_or : (b : Bool) → (IsTrue b → ⊥) → IsFalse b
false_or true f = absurd (f refl)
false_or false f = refl

apart_within : (whole rest : List Cons) → ((c : Cons) → times c rest ≤ times c whole) → ((c : Cons) → InConses rest c → times c whole ≡ 1) → AreApart rest
apart_within whole [] le once = tt
apart_within whole (c ∷ cs) le once = (
  false_or (is_named cs c)
      (λ h.
      let a = named_times c cs h in
      let b = le c in
      let e = own_times c cs in
      let o = once c (inl refl) in
      absurd (omega (arith, a, b, e, o))),
  apart_within whole cs (λ d. let a = le d in let b = less_times d c cs in omega (arith, a, b)) (λ d h. once d (inr h)),
)

each_stands : (cs given : List Cons) (c : Cons) → EachStandsOnce cs given → InConses cs c → times c given ≡ 1
each_stands [] given c h k = absurd k
each_stands (d ∷ cs) given c h (inl e) = sym (filter_times c given) ∙ length-filter (same_cons c) given ∙ subst (λ z. StandsOnce z given) e h.0
each_stands (d ∷ cs) given c h (inr k) = each_stands cs given c h.1 k

-- all are of one type
abbrev pub AllConses : Scope → Option Ty → List Cons → Type 0
AllConses s o [] = ⊤
AllConses s o (c ∷ cs) = (cons_type s c ≡ o) × AllConses s o cs

in_named : (xs : List (List ℕ)) (x : List ℕ) → In xs x → InConses (map cons.Named xs) (cons.Named x)
in_named [] x h = absurd h
in_named (y ∷ xs) x (inl e) = inl (ap cons.Named e)
in_named (y ∷ xs) x (inr h) = inr (in_named xs x h)

of_type : (types : List TypeDecl) (s : Scope) → Grounds types s → (c : Cons) (t : Ty) → cons_type s c ≡ Some t → InConses (all_of_type s (Some t)) c
of_type types s g cons.False t h = subst (λ z. InConses (all_of_type s (Some z)) cons.False) (some_is ty.Bool t h) (inl refl)
of_type types s g cons.True t h = subst (λ z. InConses (all_of_type s (Some z)) cons.True) (some_is ty.Bool t h) (inr (inl refl))
of_type types s g (cons.Named c) t h = by (lookup s.constructors c) refl h
  where
    by : (o : Option (List ℕ)) → lookup s.constructors c ≡ o → enum_of o ≡ Some t → InConses (all_of_type s (Some t)) (cons.Named c)
    by None e h = absurd (cc)
    by (Some u) e h =
        let q = g.known c u e in
        subst (λ z. InConses (all_of_type s (Some z)) (cons.Named c)) (some_is (ty.Enum u) t h)
        (subst (λ o. InConses (named o) (cons.Named c)) (sym q.1) (in_named q.0.cons c q.2))

one_of : (s : Scope) (o : Option Ty) (cs : List Cons) (c : Cons) → AllConses s o cs → InConses cs c → cons_type s c ≡ o
one_of s o [] c a h = absurd h
one_of s o (d ∷ cs) c a (inl e) = subst (λ z. cons_type s z ≡ o) e a.0
one_of s o (d ∷ cs) c a (inr h) = one_of s o cs c a.1 h

pub apart_of : (types : List TypeDecl) (s : Scope) → Grounds types s → (t : Ty) (given : List Cons) → AllConses s (Some t) given → EachStandsOnce (all_of_type s (Some t)) given → AreApart given
apart_of types s g t given a e =
    apart_within given given (λ c. omega arith) (λ c h. each_stands (all_of_type s (Some t)) given c e (of_type types s g c t (one_of s (Some t) given c a h)))

pub parts_same : (ps : Parts) → conses_of_parts ps ≡ of_parts ps
parts_same no_part = refl
parts_same (more_parts c e ps) = ap (λ cs. c ∷ cs) (parts_same ps)

pub arms_same : (arms : Arms) → conses_of_arms arms ≡ of_arms arms
arms_same no_arm = refl
arms_same (more_arms c b a arms) = ap (λ cs. c ∷ cs) (arms_same arms)

-- the constructors of a typed merge
pub fit_conses : (s : Scope) (o first : Option Ty) (ps : Parts) → IsTrue (parts_fit s o first ps) → AllConses s o (of_parts ps)
fit_conses s o first no_part h = tt
fit_conses s o first (more_parts c e ps) h =
    let a = agreed o (cons_type s c) (and_left _ _ h) in
    (a.2 ∙ sym a.1, fit_conses s o first ps (and_right _ _ (and_right _ _ h)))

pub merge_conses : (s : Scope) (o : Option Ty) (ps : Parts) (t : Ty) → merge_type s o ps ≡ Some t → (u : Ty) × (o ≡ Some u) × AllConses s o (of_parts ps)
merge_conses s o no_part t h = absurd (cc)
merge_conses s o (more_parts c e ps) t h =
    let a = where_is (chooses o && (agrees o (cons_type s c) && parts_fit s o (type_of s e) ps)) (type_of s e) t h in
    let k = and_right _ _ a.0 in
    let b = agreed o (cons_type s c) (and_left _ _ k) in
    (b.0, b.1, (b.2 ∙ sym b.1, fit_conses s o (type_of s e) ps (and_right _ _ k)))
