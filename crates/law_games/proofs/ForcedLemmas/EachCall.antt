-- A property of each call among some points.
use Rattle.std.proofs.Common.{ℕ, List, [], ◌∷◌, ◌++◌, refl}
use Rattle.std.proofs.lemmas.List.Elements.{All-nil, All-cons, All-head, All-tail}
use Rattle.std.specs.Prelude.{⊤, Bool, true, false, IsTrue, if◌then◌else◌, map, filter, All}
use Rattle.hp_base.specs.declared.span.Span.{Span}
use Rattle.hp_tree.specs.Instant.{Tail, Place}
use Rattle.hp_tree.specs.Blocks.{Decl}
use Rattle.hp_meaning.specs.Causal.Sources.{below}
use Rattle.hp_meaning.specs.declared.causal.point.PointKind.TheVariants as kind
use Rattle.hp_meaning.specs.Causal.Points.{Placed, Whereabouts, lefts, point_at, controls}
use Rattle.hp_meaning.specs.Contract.FreePlaces.{is_call}

abbrev pub EachCall : (Placed → Type 0) → List Placed → Type 0
EachCall Q [] = ⊤
EachCall Q (c ∷ cs) = (IsTrue (is_call c.point.kind) → Q c) × EachCall Q cs

module _ (Q : Placed → Type 0) where
  pub each_append : (xs ys : List Placed) → EachCall Q xs → EachCall Q ys → EachCall Q (xs ++ ys)
  each_append [] ys h k = k
  each_append (x ∷ xs) ys h k = (h.0, each_append xs ys h.1 k)

  pub first_each : (xs ys : List Placed) → EachCall Q (xs ++ ys) → EachCall Q xs
  first_each [] ys h = tt
  first_each (x ∷ xs) ys h = (h.0, first_each xs ys h.1)

  pub rest_each : (xs ys : List Placed) → EachCall Q (xs ++ ys) → EachCall Q ys
  rest_each [] ys h = h
  rest_each (x ∷ xs) ys h = rest_each xs ys h.1

  no_call : {X : Type 0} → IsTrue false → X
  no_call e = absurd (cc)

  -- definitions are no calls
  pub each_left : (ys : List (List ℕ × Span)) (named : List ℕ → Place) → EachCall Q (lefts ys named)
  each_left [] named = tt
  each_left (y ∷ ys) named = ((λ e. no_call e), each_left ys named)

  pub each_def : (xs : List (List ℕ)) (s : Span) (named : List ℕ → Place) → EachCall Q (map (λ x. point_at kind.Def x s (named x)) xs)
  each_def [] s named = tt
  each_def (x ∷ xs) s named = ((λ e. no_call e), each_def xs s named)

  pub each_control : (ds : List Decl) (w : Whereabouts) → EachCall Q (controls ds w)
  each_control [] w = tt
  each_control (d ∷ ds) w = ((λ e. no_call e), each_control ds (below Tail w))

  -- the same of the calls alone
  abbrev only_calls : List Placed → List Placed
  only_calls cs = filter (λ c. is_call c.point.kind) cs

  pub each_all : (ps : List Placed) → EachCall Q ps → All Q (filter (λ c. is_call c.point.kind) ps)
  each_all [] h = All-nil Q
  each_all (p ∷ ps) h = by (is_call p.point.kind) h.0 (each_all ps h.1)
    where
      by : (d : Bool) → (IsTrue d → Q p) → All Q (only_calls ps) → All Q (if d then p ∷ only_calls ps else only_calls ps)
      by true f k = All-cons Q p (only_calls ps) (f refl) k
      by false f k = k

  pub all_each : (ps : List Placed) → All Q (filter (λ c. is_call c.point.kind) ps) → EachCall Q ps
  all_each [] h = tt
  all_each (p ∷ ps) h = by (is_call p.point.kind) h (all_each ps)
    where
      by : (d : Bool) → All Q (if d then p ∷ only_calls ps else only_calls ps) → (All Q (only_calls ps) → EachCall Q ps) → (IsTrue d → Q p) × EachCall Q ps
      by true k more = ((λ e. All-head Q p (only_calls ps) k), more (All-tail Q p (only_calls ps) k))
      by false k more = ((λ e. no_call e), more k)

pub each_weaker : (P Q : Placed → Type 0) (cs : List Placed) → ((c : Placed) → P c → Q c) → EachCall P cs → EachCall Q cs
each_weaker P Q [] f h = tt
each_weaker P Q (c ∷ cs) f h = ((λ e. f c (h.0 e)), each_weaker P Q cs f h.1)
