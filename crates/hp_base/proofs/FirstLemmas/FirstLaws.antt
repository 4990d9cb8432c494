-- What is found when some things are looked at one after another is the first of them.
use Rattle.std.proofs.Common.{◌≡◌, Bool, true, false, ◌&&◌, ◌||◌, if◌then◌else◌, List, [], ◌∷◌, ◌++◌, Option, None, Some, fold, refl, sym, ap, subst, ◌∙◌, arith}
use Rattle.std.specs.List.{list_all, list_any}
use Rattle.std.proofs.lemmas.Bool.Decides.{nat_tests}
use Rattle.hp_base.specs.declared.span.Span.{Span}
use Rattle.hp_base.specs.First.First.{is_before, IsFirst, sooner, merged}

before_trans : (p q r : Span) → is_before p q ≡ true → is_before q r ≡ true → is_before p r ≡ true
before_trans p q r h k = grind (arith, nat_tests)

before_through : (p q r : Span) → is_before p q ≡ true → is_before r q ≡ false → is_before p r ≡ true
before_through p q r h k = grind (arith, nat_tests)

all_first : (p q : Bool) → (p && q) ≡ true → (p ≡ true) × (q ≡ true)
all_first true q h = (refl, h)
all_first false q h = absurd cc

any_none : (p q : Bool) → p ≡ false → q ≡ false → (p || q) ≡ false
any_none p q h k = cc

pub not_before_trans : (p q r : Span) → is_before p q ≡ false → is_before q r ≡ false → is_before p r ≡ false
not_before_trans p q r h k = grind (arith, nat_tests)

module _ {T : Type 0} (place : T → Span) where
  module _ (a c b : T) (bs : List T) where
    -- one before that which was first until then
    passed : is_before (place c) (place a) ≡ true → (earlier later : List T) → c ∷ bs ≡ earlier ++ b ∷ later
        → list_all (λ d. is_before (place b) (place d)) earlier ≡ true → list_any (λ d. is_before (place d) (place b)) later ≡ false → IsFirst place (a ∷ c ∷ bs) b
    passed e [] later p h k =
        let same : c ≡ b = cc in
        let first : is_before (place b) (place a) ≡ true = ap (λ (d : T). is_before (place d) (place a)) (sym same) ∙ e in
        record { earlier = a ∷ []; later = later; split = ap (λ rest. a ∷ rest) p; behind = rw first; not_before = k }
    passed e (x ∷ earlier) later p h k =
        let same : x ≡ c = cc in
        let parts = all_first (is_before (place b) (place x)) (list_all (λ d. is_before (place b) (place d)) earlier) h in
        let second : is_before (place b) (place c) ≡ true = ap (λ (d : T). is_before (place b) (place d)) (sym same) ∙ parts.0 in
        let first : is_before (place b) (place a) ≡ true = before_trans (place b) (place c) (place a) second e in
        record { earlier = a ∷ x ∷ earlier; later = later; split = ap (λ rest. a ∷ rest) p; behind = rw first h; not_before = k }

    -- and one that is not before it
    kept : is_before (place c) (place a) ≡ false → (earlier later : List T) → a ∷ bs ≡ earlier ++ b ∷ later
        → list_all (λ d. is_before (place b) (place d)) earlier ≡ true → list_any (λ d. is_before (place d) (place b)) later ≡ false → IsFirst place (a ∷ c ∷ bs) b
    kept e [] later p h k =
        let same : a ≡ b = cc in
        let rest : bs ≡ later = cc in
        let first : is_before (place c) (place b) ≡ false = ap (λ (d : T). is_before (place c) (place d)) (sym same) ∙ e in
        record {
          earlier = [];
          later = c ∷ later;
          split = ap (λ d. d ∷ c ∷ bs) same ∙ ap (λ more. b ∷ c ∷ more) rest;
          behind = refl;
          not_before = any_none (is_before (place c) (place b)) (list_any (λ d. is_before (place d) (place b)) later) first k;
        }
    kept e (x ∷ earlier) later p h k =
        let same : x ≡ a = cc in
        let rest : bs ≡ earlier ++ b ∷ later = cc in
        let parts = all_first (is_before (place b) (place x)) (list_all (λ d. is_before (place b) (place d)) earlier) h in
        let first : is_before (place b) (place a) ≡ true = ap (λ (d : T). is_before (place b) (place d)) (sym same) ∙ parts.0 in
        let second : is_before (place b) (place c) ≡ true = before_through (place b) (place a) (place c) first e in
        record {
          earlier = a ∷ c ∷ earlier;
          later = later;
          split = ap (λ more. a ∷ c ∷ more) rest;
          behind = rw (first, second) parts.1;
          not_before = k;
        }

  abbrev Firsts : T → List T → List T → Type 0
  Firsts a bs all = (b : T) × ((fold (sooner place) (Some a) bs ≡ Some b) × IsFirst place all b)

  first_of : (a : T) (bs : List T) → Firsts a bs (a ∷ bs)
  first_of a [] = (a, (refl, record { earlier = []; later = []; split = refl; behind = refl; not_before = refl }))
  first_of a (c ∷ bs) = by (is_before (place c) (place a)) refl (first_of a bs) (first_of c bs)
    where
      by : (d : Bool) → is_before (place c) (place a) ≡ d → Firsts a bs (a ∷ bs) → Firsts c bs (c ∷ bs)
          → (b : T) × ((fold (sooner place) (if d then Some c else Some a) bs ≡ Some b) × IsFirst place (a ∷ c ∷ bs) b)
      by true e stays goes =
          let f = goes.1.1 in
          (goes.0, (goes.1.0, passed a c goes.0 bs e f.earlier f.later f.split f.behind f.not_before))
      by false e stays goes =
          let f = stays.1.1 in
          (stays.0, (stays.1.0, kept a c stays.0 bs e f.earlier f.later f.split f.behind f.not_before))

  -- what is found is the first
  pub first_some : (bs : List T) (b : T) → fold (sooner place) None bs ≡ Some b → IsFirst place bs b
  first_some [] b p = absurd cc
  first_some (a ∷ bs) b p =
      let f = first_of a bs in
      let same : f.0 ≡ b = cc in
      subst (IsFirst place (a ∷ bs)) same f.1.1

  -- and nothing is found only where there is nothing
  pub first_none : (bs : List T) → fold (sooner place) None bs ≡ None → bs ≡ []
  first_none [] p = refl
  first_none (a ∷ bs) p = let f = first_of a bs in absurd cc

  -- nothing is first where there is nothing
  pub first_none_of : (bs : List T) (b : T) → bs ≡ [] → IsFirst place bs b → ⊥
  first_none_of bs b p f = by f.earlier (sym f.split ∙ p)
    where
      by : (earlier : List T) → earlier ++ b ∷ f.later ≡ [] → ⊥
      by [] q = cc
      by (x ∷ xs) q = cc

  -- what is found is never lost
  pub sooner-found : (found : Option T) (b : T) → sooner place found b ≡ None → ⊥
  sooner-found None b p = cc
  sooner-found (Some a) b p = by (is_before (place b) (place a)) p
    where
      by : (d : Bool) → if◌then◌else◌ {A = Option T} d (Some b) (Some a) ≡ None → ⊥
      by true q = cc
      by false q = cc

  pub merged-none : (found other : Option T) → merged place found other ≡ None → (found ≡ None) × (other ≡ None)
  merged-none found None p = (p, refl)
  merged-none found (Some b) p = absurd (sooner-found found b p)

  -- what is found in two parts is what is found in both, one after the other
  sooner_assoc : (a b c : T) → sooner place (sooner place (Some a) b) c ≡ merged place (Some a) (sooner place (Some b) c)
  sooner_assoc a b c = by (is_before (place b) (place a)) refl (is_before (place c) (place b)) refl
    where
      by : (d : Bool) → is_before (place b) (place a) ≡ d → (e : Bool) → is_before (place c) (place b) ≡ e
          → sooner place (if d then Some b else Some a) c ≡ merged place (Some a) (if e then Some c else Some b)
      by true p true q = let r : is_before (place c) (place a) ≡ true = before_trans (place c) (place b) (place a) q p in rw (q, r)
      by true p false q = rw (q, p)
      by false p true q = refl
      by false p false q = let r : is_before (place c) (place a) ≡ false = not_before_trans (place c) (place b) (place a) q p in rw (r, p)

  merged-sooner : (found : Option T) (b c : T) → sooner place (sooner place found b) c ≡ merged place found (sooner place (Some b) c)
  merged-sooner (Some a) b c = sooner_assoc a b c
  merged-sooner None b c = by (is_before (place c) (place b))
    where
      by : (d : Bool) → (if d then Some c else Some b) ≡ merged place None (if d then Some c else Some b)
      by true = refl
      by false = refl

  pub merged-fold : (found other : Option T) (bs : List T) → fold (sooner place) (merged place found other) bs ≡ merged place found (fold (sooner place) other bs)
  merged-fold found other [] = refl
  merged-fold found None (b ∷ bs) = merged-fold found (Some b) bs
  merged-fold found (Some a) (b ∷ bs) = ap (λ f. fold (sooner place) f bs) (merged-sooner found a b) ∙ merged-fold found (sooner place (Some a) b) bs
