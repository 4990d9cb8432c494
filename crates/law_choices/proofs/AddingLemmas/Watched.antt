-- The bits of free places.
use Rattle.std.proofs.Common.{◌≡◌, ℕ, zero, suc, ◌<◌, Bool, true, false, List, [], ◌∷◌, ◌++◌, length, slice_get, Option, None, Some, refl, sym, ap, subst, ◌∙◌, arith}
use Rattle.std.specs.List.{AllByRecursion}
use Rattle.std.proofs.lemmas.List.{length-append}
use Rattle.hp_obc.specs.Machines.{ObcType}
use Rattle.hp_flat.specs.declared.node.FlatTy.TheVariants.{Bool as Truth}
use Rattle.hp_flat.specs.Equations.{Clock, FlatEqn}
use Rattle.hp_flat.specs.Nodes.{FlatNode}
use Rattle.law_equations.specs.Meaning.Kinding.{Callees}
use Rattle.hp_watch.specs.declared.watching.Free.{Free}
use Rattle.hp_watch.specs.Adding.{type_at}
use Rattle.hp_watch.specs.Lifting.{lifted, spelled}
use Rattle.hp_watch.specs.Watching.{clock_by, clock_of, spelled_place, Watched, unwatched, with_place, with_places}
use Rattle.law_choices.specs.Adding.Keeping.{IsBased, Keeps}
use Rattle.law_choices.specs.Adding.Lifts.{HaveBytes, IsOn, CanStand}
use Rattle.law_choices.specs.Adding.Watched.{IsNumbered, IsFree, AreBitsOf, HasBits, WatchedLaw}
use Rattle.law_choices.proofs.ClosedLemmas.ClosedLaws.{each_other}
use Rattle.law_choices.proofs.AddingLemmas.Adding.{both}
use Rattle.law_choices.proofs.AddingLemmas.One.{keeps-self, keeps-both, on-kept}
use Rattle.law_choices.proofs.AddingLemmas.Lifts.{lift_law, stand_kept}
use Rattle.law_choices.proofs.AddingLemmas.Bits.{bits_law}

-- ---- equations stay under their numbers

clock-front : (es fs : List FlatEqn) (k : ℕ) → k < length es → clock_by (slice_get (es ++ fs) k) ≡ clock_by (slice_get es k)
clock-front [] fs k l = absurd (omega (arith, l))
clock-front (e ∷ es) fs zero l = refl
clock-front (e ∷ es) fs (suc k) l = clock-front es fs k (omega (arith, l))

module _ (types : List ObcType) (callees : Callees) (bytes : HaveBytes types) where
  same_clock : (n other : FlatNode) (clock : ℕ → Clock) (k : Keeps types callees clock n other) (o : Option ℕ) → IsNumbered n o → clock_of other o ≡ clock_of n o
  same_clock n other clock k None h = refl
  same_clock n other clock k (Some i) h = let g = k.grows in let e = g.eqns in ap (λ es. clock_by (slice_get es i)) e.1 ∙ clock-front n.eqns e.0 i h

  still_numbered : (n other : FlatNode) (clock : ℕ → Clock) (k : Keeps types callees clock n other) (o : Option ℕ) → IsNumbered n o → IsNumbered other o
  still_numbered n other clock k None h = tt
  still_numbered n other clock k (Some i) h = let g = k.grows in let e = g.eqns in let l = length-append n.eqns e.0 in let q = ap length e.1 in omega (arith, h, l, q)

  pub free_kept : (n other : FlatNode) (clock : ℕ → Clock) (k : Keeps types callees clock n other) (f : Free) → IsFree types n clock f → IsFree types other k.clocks f
  free_kept n other clock k f h =
      let same = same_clock n other clock k f.eqn h.numbered in
      let on = on-kept types callees n other clock k (clock_of n f.eqn) (type_at n f.variable) f.variable h.there in
      record {
        numbered = still_numbered n other clock k f.eqn h.numbered;
        stands = subst (CanStand types other k.clocks) (sym same) (stand_kept types callees bytes n other clock k (clock_of n f.eqn) h.stands);
        there = subst (λ c. IsOn other k.clocks c (type_at other f.variable) f.variable) (sym same) (record { variable = on.variable; there = on.there; type = refl });
      }

  -- ---- one place

  abbrev Spells : FlatNode → (ℕ → Clock) → FlatNode → List ℕ → Type 0
  Spells n clock other xs = (k : Keeps types callees clock n other) × AreBitsOf other k.clocks xs

  one : (n : FlatNode) (clock : ℕ → Clock) (f : Free) → IsBased types callees clock n → IsFree types n clock f → Spells n clock (spelled_place types f n).node (spelled_place types f n).bits
  one n clock f b h =
      let made = lifted types [] (clock_of n f.eqn) f.variable n in
      let up = lift_law types callees n clock (clock_of n f.eqn) f.variable bytes b h.stands h.there in
      let k = up.0 in
      let i = up.1 in
      let here : IsOn made.node k.clocks [] (type_at made.node made.value) made.value = record { variable = i.variable; there = i.there; type = refl } in
      let rest = bits_law types callees made.node k.clocks made.value bytes k.built here in
      (keeps-both types callees n made.node (spelled types made.value made.node).node clock k rest.0, rest.1)

  bits_kept : (n other : FlatNode) (clock : ℕ → Clock) (k : Keeps types callees clock n other) (xs : List ℕ) → AreBitsOf n clock xs → AreBitsOf other k.clocks xs
  bits_kept n other clock k xs h = each_other (IsOn n clock [] Truth) (IsOn other k.clocks [] Truth) (λ x i. on-kept types callees n other clock k [] Truth x i) xs h

  pub next : (n : FlatNode) (clock : ℕ → Clock) (f : Free) (w : Watched) (h : HasBits types callees clock n w) → IsFree types w.node h.keeps.clocks f → (early : Bool) → HasBits types callees clock n (with_place types f early w)
  next n clock f w h free early =
      let k = h.keeps in
      let s = spelled_place types f w.node in
      let r = one w.node k.clocks f k.built free in
      by early (keeps-both types callees n w.node s.node clock k r.0) (bits_kept w.node s.node k.clocks r.0 w.early h.early) (bits_kept w.node s.node k.clocks r.0 w.late h.late) r.1
    where
      s : Watched
      s = record { node = (spelled_place types f w.node).node; early = w.early; late = w.late }

      by : (early : Bool) (k : Keeps types callees clock n s.node) → AreBitsOf s.node k.clocks w.early → AreBitsOf s.node k.clocks w.late → AreBitsOf s.node k.clocks (spelled_place types f w.node).bits → HasBits types callees clock n (with_place types f early w)
      by true k e l bits = record { keeps = k; early = both (IsOn s.node k.clocks [] Truth) w.early (spelled_place types f w.node).bits e bits; late = l }
      by false k e l bits = record { keeps = k; early = e; late = both (IsOn s.node k.clocks [] Truth) w.late (spelled_place types f w.node).bits l bits }

  places : (n : FlatNode) (clock : ℕ → Clock) (fs : List Free) (es : List Bool) (w : Watched) (h : HasBits types callees clock n w) → AllByRecursion (IsFree types n clock) fs → HasBits types callees clock n (with_places types fs es w)
  places n clock [] es w h free = h
  places n clock (f ∷ fs) [] w h free = h
  places n clock (f ∷ fs) (e ∷ es) w h free = places n clock fs es (with_place types f e w) (next n clock f w h (free_kept n w.node clock h.keeps f free.0) e) free.1

pub watched_law : WatchedLaw
watched_law types callees clock n free is_early bytes b h = places types callees bytes n clock free is_early (unwatched n) (record { keeps = keeps-self types callees n clock b; early = tt; late = tt }) h
