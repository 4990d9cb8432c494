-- The bits of free places have the codes of their values.
use Rattle.std.proofs.Common.{◌≡◌, ℕ, zero, suc, ◌<◌, Bool, true, false, ◌&&◌, if◌then◌else◌, nat_eq, List, [], ◌∷◌, ◌++◌, length, map, slice_get, Option, None, Some, refl, sym, ap, subst, ◌∙◌, arith}
use Rattle.std.specs.List.{AllByRecursion}
use Rattle.std.proofs.lemmas.Bool.Decides.{nat_tests}
use Rattle.std.proofs.lemmas.List.{append_assoc, append-nil, map-append}
use Rattle.hp_base.specs.Kinds.{IsOfKind}
use Rattle.hp_base.specs.declared.value.Value.{Value}
use Rattle.hp_base.specs.declared.value.Value.TheVariants.{B, E}
use Rattle.hp_obc.specs.Machines.{ObcType}
use Rattle.hp_boolx.specs.Search.{Bits}
use Rattle.hp_flat.specs.declared.node.FlatTy.{FlatTy}
use Rattle.hp_flat.specs.declared.node.FlatTy.TheVariants.{Bool as Truth, Int, Enum}
use Rattle.hp_flat.specs.declared.node.Variable.{Variable}
use Rattle.hp_flat.specs.Equations.{Clock, FlatEqn}
use Rattle.hp_flat.specs.Nodes.{FlatNode}
use Rattle.law_equations.specs.Meaning.Instants.{Instant, has_constructor, holds}
use Rattle.law_equations.specs.Meaning.Kinding.{Callees, HasArm, HasValue, kind_of_type, variable_kind}
use Rattle.law_equations.specs.Meaning.Reactions.{Answers}
use Rattle.law_equations.specs.Meaning.Scheduling.{clock_variables, AreBelow}
use Rattle.hp_watch.specs.Adding.{type_at, some_value}
use Rattle.hp_watch.specs.Growing.{Grows}
use Rattle.hp_watch.specs.Lifting.{count_of, lifted}
use Rattle.hp_watch.specs.declared.watching.Free.{Free}
use Rattle.hp_watch.specs.Watching.{clock_by, clock_of, spelled_place, Watched, unwatched, with_place, with_places}
use Rattle.law_choices.specs.Adding.Keeping.{IsBased}
use Rattle.law_choices.specs.Adding.Lifts.{HaveBytes, IsOn}
use Rattle.law_choices.specs.Adding.Watched.{IsNumbered, IsFree, HasBits}
use Rattle.law_choices.specs.Closed.Clocking.{StepsStand}
use Rattle.law_choices.specs.Coded.Codes.{bits_of_value, value_at, bits_at, all_bits_at, early_places, late_places}
use Rattle.law_choices.specs.Coded.Laws.{IsTypedAt, HaveBits, CodedLaw}
use Rattle.law_choices.proofs.AddingLemmas.One.{grows-length, type-grown, kind-at, value-at, keeps-self}
use Rattle.law_choices.proofs.AddingLemmas.Lifts.{bytes_at, first_of}
use Rattle.law_choices.proofs.AddingLemmas.Watched.{free_kept, next}
use Rattle.law_choices.proofs.CodedLemmas.Lifted.{AllHold, AreTested, holds-last, before-lift, lifted-type, lifted-value}
use Rattle.law_choices.proofs.CodedLemmas.Bits.{before-spelled, spelled-value}

-- ---- a variable of a clock has a constructor where it is there

constructor-of : (types : List ObcType) (ty : FlatTy) (v : Value) (c : ℕ) → HaveBytes types → HasArm (kind_of_type types ty) c → IsOfKind (kind_of_type types ty) v → (d : ℕ) × (has_constructor d v ≡ true) × (d < count_of types ty)
constructor-of types Truth (B true) c h a k = (1, refl, omega arith)
constructor-of types Truth (B false) c h a k = (0, refl, omega arith)
constructor-of types Truth v c h a k = absurd k
constructor-of types Int v c h a k = absurd a
constructor-of types (Enum t) (E u d) c h a k = let e = bytes_at types t h in let l = k.1 in (d, nat-self d, omega (arith, e, l))
  where
    nat-self : (d : ℕ) → nat_eq d d ≡ true
    nat-self d = grind (arith, nat_tests)
constructor-of types (Enum t) v c h a k = absurd k

pub holds-front : (c more : Clock) (now : Instant) → holds (c ++ more) now ≡ true → holds c now ≡ true
holds-front [] more now h = refl
holds-front (on ∷ c) more now h = by (has_constructor on.1 (now on.0)) h (holds-front c more now)
  where
    by : (b : Bool) → (b && holds (c ++ more) now) ≡ true → (holds (c ++ more) now ≡ true → holds c now ≡ true) → (b && holds c now) ≡ true
    by true e f = f e
    by false e f = absurd cc

clock-front : (es fs : List FlatEqn) (k : ℕ) → k < length es → clock_by (slice_get (es ++ fs) k) ≡ clock_by (slice_get es k)
clock-front [] fs k l = absurd (omega (arith, l))
clock-front (e ∷ es) fs zero l = refl
clock-front (e ∷ es) fs (suc k) l = clock-front es fs k (omega (arith, l))

same-clock : (n other : FlatNode) (o : Option ℕ) → Grows n other → IsNumbered n o → clock_of other o ≡ clock_of n o
same-clock n other None g h = refl
same-clock n other (Some k) g h = let e = g.eqns in ap (λ es. clock_by (slice_get es k)) e.1 ∙ clock-front n.eqns e.0 k h

module _ (answers : Answers) (past : List Instant) (now : Instant) (types : List ObcType) (bytes : HaveBytes types) where
  -- ---- one place

  module _ (n : FlatNode) (clock : ℕ → Clock) (typed : IsTypedAt types n clock now) where
    -- the value that is lifted is of its kind
    pub value-typed : (c : Clock) (x : ℕ) → IsOn n clock c (type_at n x) x → HasValue types (type_at n x) → (b : Bool) → holds c now ≡ b → IsOfKind (kind_of_type types (type_at n x)) (if b then now x else some_value (type_at n x))
    value-typed c x on value true e = let front = on.there in typed x on.variable (holds-front (clock x) front.0 now (ap (λ d. holds d now) (sym front.1) ∙ e))
    value-typed c x on value false e = (first_of types (type_at n x) value).0

    module _ (other : FlatNode) (grows : Grows n other) where
      tested : (before on : Clock) → holds before now ≡ true → AreBelow (length n.variables) (clock_variables on) → StepsStand n types clock before on → AllByRecursion (λ (s : ℕ × ℕ). HasArm (variable_kind types n.variables s.0) s.1) on
          → AreTested answers past now types other on
      tested before [] h below stand arms = tt
      tested before (s ∷ on) h below stand arms =
          let front = stand.0 in
          let there = holds-front (clock s.0) front.0 now (ap (λ c. holds c now) (sym front.1) ∙ h) in
          let arm = subst (λ k. HasArm k s.1) (kind-at types n s.0) arms.0 in
          let l = below.0 in
          let found = constructor-of types (type_at n s.0) (now s.0) s.1 bytes arm (typed s.0 l there) in (
            (let more = grows-length n other grows in omega (arith, l, more)),
            (found.0, found.1, subst (λ ty. found.0 < count_of types ty) (sym (type-grown n other s.0 grows l)) found.2),
            λ g. tested (before ++ s ∷ []) on (holds-last before s.0 s.1 now h g) below.1 stand.1 arms.1,
          )

      pub before-place : (f : Free) → AllHold answers past now (spelled_place types f other).node.eqns → AllHold answers past now other.eqns
      before-place f h =
          let on = clock_of other f.eqn in
          let made = lifted types [] on f.variable other in
          before-lift answers past now types [] on f.variable other (before-spelled answers past now types made.value made.node h)

      pub place-value : (f : Free) → AllByRecursion (λ (v : Variable). HasValue types v.ty) n.variables → IsFree types n clock f → AllHold answers past now (spelled_place types f other).node.eqns → HaveBits now (spelled_place types f other).bits (bits_at types n now f)
      place-value f values free h =
          let on = clock_of other f.eqn in
          let x = f.variable in
          let made = lifted types [] on x other in
          let stands = free.stands in
          let there = free.there in
          let clocks = same-clock n other f.eqn grows free.numbered in
          let ty = type-grown n other x grows there.variable in
          let same = lifted-type answers past now types [] on x other ∙ ty in
          let steps = subst (AreTested answers past now types other) (sym clocks) (tested [] (clock_of n f.eqn) refl stands.within stands.steps stands.arms) in
          let held = before-spelled answers past now types made.value made.node h in
          let lift : now made.value ≡ value_at n now f =
          lifted-value answers past now types [] on x other held refl steps ∙ ap (λ c. if holds c now then now x else some_value (type_at other x)) clocks
          ∙ ap (λ t. if holds (clock_of n f.eqn) now then now x else some_value t) ty in
          let kind : IsOfKind (kind_of_type types (type_at made.node made.value)) (now made.value) =
          subst (λ t. IsOfKind (kind_of_type types t) (now made.value)) (sym same)
          (subst (λ v. IsOfKind (kind_of_type types (type_at n x)) v) (sym lift)
          (value-typed (clock_of n f.eqn) x there (value-at types n x there.variable values) (holds (clock_of n f.eqn) now) refl)) in
          let it = spelled-value answers past now types made.value made.node bytes kind h in
          it.1 ∙ ap (λ bs. map (λ b. B b) bs) (ap (λ t. bits_of_value types t (now made.value)) same ∙ ap (bits_of_value types (type_at n x)) lift)

  -- ---- all places

  place-by : (f : Free) (e : Bool) (w : Watched) → (with_place types f e w).node ≡ (spelled_place types f w.node).node
  place-by f true w = refl
  place-by f false w = refl

  before-places : (fs : List Free) (es : List Bool) (w : Watched) → AllHold answers past now (with_places types fs es w).node.eqns → AllHold answers past now w.node.eqns
  before-places [] es w h = h
  before-places (f ∷ fs) [] w h = h
  before-places (f ∷ fs) (e ∷ es) w h =
      let on = clock_of w.node f.eqn in
      let made = lifted types [] on f.variable w.node in
      let q = subst (λ (m : FlatNode). AllHold answers past now m.eqns) (place-by f e w) (before-places fs es (with_place types f e w) h) in
      before-lift answers past now types [] on f.variable w.node (before-spelled answers past now types made.value made.node q)

  with-more : (xs ys : List ℕ) (first second : Bits) → HaveBits now xs first → HaveBits now ys second → HaveBits now (xs ++ ys) (first ++ second)
  with-more xs ys first second h g = map-append now xs ys ∙ ap (λ vs. vs ++ map now ys) h ∙ ap (λ vs. map (λ b. B b) first ++ vs) g ∙ sym (map-append (λ b. B b) first second)

  module _ (callees : Callees) (n : FlatNode) (clock : ℕ → Clock) (based : IsBased types callees clock n) (typed : IsTypedAt types n clock now) where
    abbrev Behind : Bits → Bits → List Free → List Bool → Watched → Type 0
    Behind first second fs es w = HaveBits now w.early (first ++ all_bits_at types n now (early_places fs es)) × HaveBits now w.late (second ++ all_bits_at types n now (late_places fs es))

    places-value : (fs : List Free) (es : List Bool) (w : Watched) (first second : Bits) → HasBits types callees clock n w → AllByRecursion (IsFree types n clock) fs → AllHold answers past now (with_places types fs es w).node.eqns
        → HaveBits now w.early first → HaveBits now w.late second → Behind first second fs es (with_places types fs es w)
    places-value [] es w first second h free held a b = (a ∙ ap (λ x. map (λ b. B b) x) (sym (append-nil first)), b ∙ ap (λ x. map (λ b. B b) x) (sym (append-nil second)))
    places-value (f ∷ fs) [] w first second h free held a b = (a ∙ ap (λ x. map (λ b. B b) x) (sym (append-nil first)), b ∙ ap (λ x. map (λ b. B b) x) (sym (append-nil second)))
    places-value (f ∷ fs) (e ∷ es) w first second h free held a b =
        let k = h.keeps in
        let made = with_place types f e w in
        let well = based.well in
        let q = subst (λ (m : FlatNode). AllHold answers past now m.eqns) (place-by f e w) (before-places fs es made held) in
        let it = place-value n clock typed w.node k.grows f well.values free.0 q in
        let more = next types callees bytes n clock f w h (free_kept types callees bytes n w.node clock k f free.0) e in
        by e (λ x y p q. places-value fs es made x y more free.1 held p q) it
      where
        by : (e : Bool)
            → ((x y : Bits) → HaveBits now (with_place types f e w).early x → HaveBits now (with_place types f e w).late y → Behind x y fs es (with_places types fs es (with_place types f e w)))
            → HaveBits now (spelled_place types f w.node).bits (bits_at types n now f) → Behind first second (f ∷ fs) (e ∷ es) (with_places types fs es (with_place types f e w))
        by true again it =
            let s = spelled_place types f w.node in
            let rest = again (first ++ bits_at types n now f) second (with-more w.early s.bits first (bits_at types n now f) a it) b in
            (rest.0 ∙ ap (λ x. map (λ b. B b) x) (append_assoc first (bits_at types n now f) (all_bits_at types n now (early_places fs es))), rest.1)
        by false again it =
            let s = spelled_place types f w.node in
            let rest = again first (second ++ bits_at types n now f) a (with-more w.late s.bits second (bits_at types n now f) b it) in
            (rest.0, rest.1 ∙ ap (λ x. map (λ b. B b) x) (append_assoc second (bits_at types n now f) (all_bits_at types n now (late_places fs es))))

pub coded_law : CodedLaw
coded_law types callees clock n free is_early answers past now bytes based all typed holds =
    let first : HasBits types callees clock n (unwatched n) = record { keeps = keeps-self types callees n clock based; early = tt; late = tt } in
    let it = places-value answers past now types bytes callees n clock based typed free is_early (unwatched n) [] [] first all holds refl refl in
    record { early = it.0; late = it.1 }
