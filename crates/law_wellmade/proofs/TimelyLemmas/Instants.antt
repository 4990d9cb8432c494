-- Places that have a clock have values exactly where it is there, at one flat instant: how this goes from parts to what they are parts of.
use Rattle.std.proofs.Common.{◌≡◌, ℕ, List, [], ◌∷◌, refl, ap, subst, ◌∙◌}
use Rattle.std.specs.Prelude.{⊤, Bool, true, false, ◌&&◌, if◌then◌else◌, IsTrue, IsFalse, Option, None, Some}
use Rattle.std.specs.Str.{bytes_eq}
use Rattle.std.proofs.lemmas.Slice.Eq.{bytes_eq-Decides}
use Rattle.hp_base.specs.declared.ty.Ty.{Ty}
use Rattle.hp_base.specs.declared.ty.Ty.TheVariants as ty
use Rattle.hp_base.specs.declared.value.Value.{Value}
use Rattle.hp_base.specs.declared.value.Value.TheVariants.{Absent, Nil, B, E, I, Star}
use Rattle.hp_tree.specs.Blocks.{Decl}
use Rattle.hp_tree.specs.Programs.{TypeDecl}
use Rattle.hp_tree.specs.Operators.{is_cons}
use Rattle.hp_tree.specs.Values.{IsOf}
use Rattle.hp_tree.specs.Instant.{Named, Equations, Head, Tail, Right as RightOf, Test, Arms as ArmsOf, Body, First, Second, Third, Args, Instance, Place, Clock, holds as tree_holds}
use Rattle.hp_tree.specs.Meaning.{names_of}
use Rattle.law_equations.specs.Flattened.Flat.{Now, holds}
use Rattle.law_equations.specs.Flattened.Flatten.{FlatName, At, When, steps, Plan, plan_alone, plan_one, plan_two, plan_three, plan_row, plan_call, plan_of_two, plan_block, plan_right, plan_arms, plan_body, Prefix, below, Scope, under}
use Rattle.law_equations.specs.Flattened.Timely.{IsValue, Fits, Along, Stands, outputs_stand, demand}
use Rattle.law_values.specs.Valued.Fitting.{HasValue, Fits as Typed, OutputsFit}
use Rattle.law_values.proofs.ValuedLemmas.Laws.{never_nil}

-- ---- values

pub is_value : (types : List TypeDecl) (t : Ty) (v : Value) → IsOf types t v → IsValue v
is_value types ty.Bool Absent h = absurd h
is_value types ty.Int Absent h = absurd h
is_value types (ty.Enum t) Absent h = absurd h
is_value types ty.Bool Nil h = absurd h
is_value types ty.Int Nil h = absurd h
is_value types (ty.Enum t) Nil h = absurd h
is_value types t (B b) h = tt
is_value types t (E u k) h = tt
is_value types t (I n) h = tt
is_value types t Star h = tt

and_never : (m : Bool) → IsFalse (m && false)
and_never true = refl
and_never false = refl

pub value_there : (types : List TypeDecl) (t : Ty) (m : Bool) (v : Value) → HasValue types t (m && false) v → IsValue v
value_there types t m v h = is_value types t v (never_nil types t (m && false) v (and_never m) h)

-- on a clock of a block that is there, or not
pub both_fit : (types : List TypeDecl) (d h : Bool) (t : Ty) (m : Bool) (v : Value) → (IsTrue h → Typed types d (Some t) (m && false) v) → (IsFalse h → v ≡ Absent) → Fits (d && h) v
both_fit types true true t m v f g = value_there types t m v (f refl)
both_fit types true false t m v f g = g refl
both_fit types false true t m v f g = f refl
both_fit types false false t m v f g = g refl

and_assoc : (a b c : Bool) → (a && (b && c)) ≡ ((a && b) && c)
and_assoc true b c = refl
and_assoc false b c = refl

-- the clock of an expression is there where that of its block and its own steps are
pub under_holds : (types : List TypeDecl) (sc : Scope) (clock : Clock) (ck : When) (i : Now FlatName) → holds (steps (under types sc clock ck)) i ≡ (tree_holds types clock (λ x. i (sc x)) && holds (steps ck) i)
under_holds types sc [] ck i = refl
under_holds types sc (step ∷ clock) ck i =
    ap (λ d. is_cons types (i (sc step.1)) step.0 && d) (under_holds types sc clock ck i) ∙ and_assoc (is_cons types (i (sc step.1)) step.0) (tree_holds types clock (λ x. i (sc x))) (holds (steps ck) i)

-- ---- places

abbrev pub StandsAt : Option When → FlatName → Now FlatName → Type 0
StandsAt None x i = ⊤
StandsAt (Some w) x i = Fits (holds (steps w) i) (i x)

abbrev pub TimelyAt : Plan When → Prefix → Now FlatName → Type 0
TimelyAt plan here i = (p : Place) → StandsAt (plan p) (At (here p)) i

pub stands_along : (o : Option When) (x : FlatName) (L : List (Now FlatName)) → Along (λ G i. StandsAt o x i) L → Stands o x L
stands_along None x L h = tt
stands_along (Some w) x L h = h

pub timely_alone : (w : When) (here : Prefix) (i : Now FlatName) → StandsAt (Some w) (At (here [])) i → TimelyAt (plan_alone w) here i
timely_alone w here i h [] = h
timely_alone w here i h (s ∷ p) = tt

pub timely_one : (w : When) (a : Plan When) (here : Prefix) (i : Now FlatName) → StandsAt (Some w) (At (here [])) i → TimelyAt a (below First here) i → TimelyAt (plan_one w a) here i
timely_one w a here i h f [] = h
timely_one w a here i h f (First ∷ p) = f p
timely_one w a here i h f p = tt

pub timely_two : (w : When) (a b : Plan When) (here : Prefix) (i : Now FlatName) → StandsAt (Some w) (At (here [])) i → TimelyAt a (below First here) i → TimelyAt b (below Second here) i → TimelyAt (plan_two w a b) here i
timely_two w a b here i h f g [] = h
timely_two w a b here i h f g (First ∷ p) = f p
timely_two w a b here i h f g (Second ∷ p) = g p
timely_two w a b here i h f g p = tt

pub timely_three : (w : When) (a b c : Plan When) (here : Prefix) (i : Now FlatName) → StandsAt (Some w) (At (here [])) i → TimelyAt a (below First here) i → TimelyAt b (below Second here) i → TimelyAt c (below Third here) i → TimelyAt (plan_three w a b c) here i
timely_three w a b c here i h f g k [] = h
timely_three w a b c here i h f g k (First ∷ p) = f p
timely_three w a b c here i h f g k (Second ∷ p) = g p
timely_three w a b c here i h f g k (Third ∷ p) = k p
timely_three w a b c here i h f g k p = tt

pub timely_row : (w : When) (a : Plan When) (here : Prefix) (i : Now FlatName) → StandsAt (Some w) (At (here [])) i → TimelyAt a (below Args here) i → TimelyAt (plan_row w a) here i
timely_row w a here i h f [] = h
timely_row w a here i h f (Args ∷ p) = f p
timely_row w a here i h f p = tt

pub timely_call : (o : Option When) (a : Plan When) (outs : List ℕ → Option When) (here : Prefix) (i : Now FlatName) → StandsAt o (At (here [])) i → TimelyAt a (below Args here) i → ((x : List ℕ) → StandsAt (outs x) (At (here (Instance ∷ Named x ∷ []))) i) → TimelyAt (plan_call o a outs) here i
timely_call o a outs here i h f g [] = h
timely_call o a outs here i h f g (Args ∷ p) = f p
timely_call o a outs here i h f g (Instance ∷ Named x ∷ []) = g x
timely_call o a outs here i h f g p = tt

pub timely_of_two : (a b : Plan When) (here : Prefix) (i : Now FlatName) → TimelyAt a (below Head here) i → TimelyAt b (below Tail here) i → TimelyAt (plan_of_two a b) here i
timely_of_two a b here i f g (Head ∷ p) = f p
timely_of_two a b here i f g (Tail ∷ p) = g p
timely_of_two a b here i f g p = tt

pub timely_block : (a : Plan When) (here : Prefix) (i : Now FlatName) → TimelyAt a (below Equations here) i → TimelyAt (plan_block (λ x. None) a) here i
timely_block a here i f (Named x ∷ []) = tt
timely_block a here i f (Equations ∷ p) = f p
timely_block a here i f p = tt

pub timely_right : (a : Plan When) (here : Prefix) (i : Now FlatName) → TimelyAt a (below RightOf here) i → TimelyAt (plan_right a) here i
timely_right a here i f (RightOf ∷ p) = f p
timely_right a here i f p = tt

pub timely_arms : (a b : Plan When) (here : Prefix) (i : Now FlatName) → TimelyAt a (below Test here) i → TimelyAt b (below ArmsOf here) i → TimelyAt (plan_arms a b) here i
timely_arms a b here i f g (Test ∷ p) = f p
timely_arms a b here i f g (ArmsOf ∷ p) = g p
timely_arms a b here i f g p = tt

pub timely_body : (a b : Plan When) (here : Prefix) (i : Now FlatName) → TimelyAt a (below Test here) i → TimelyAt b (below Body here) i → TimelyAt (plan_body a b) here i
timely_body a b here i f g (Test ∷ p) = f p
timely_body a b here i f g (Body ∷ p) = g p
timely_body a b here i f g p = tt

pub timely_demand : (w : When) (a : Plan When) (here : Prefix) (i : Now FlatName) → StandsAt (Some w) (At (here [])) i → TimelyAt a here i → TimelyAt (demand w a) here i
timely_demand w a here i h f [] = h
timely_demand w a here i h f (s ∷ p) = f (s ∷ p)

-- ---- outputs of a call

by_clock : (d : Bool) (v : Value) → (IsTrue d → IsValue v) → (IsFalse d → v ≡ Absent) → Fits d v
by_clock true v f g = f refl
by_clock false v f g = g refl

pub outputs_timely : (types : List TypeDecl) (ds : List Decl) (w : When) (here : Prefix) (i : Now FlatName) → (IsTrue (holds (steps w) i) → OutputsFit types ds (λ p. i (At (here p)))) → (IsFalse (holds (steps w) i) → (p : Place) → i (At (here p)) ≡ Absent) → (x : List ℕ) → StandsAt (outputs_stand (names_of ds) w x) (At (here (Named x ∷ []))) i
outputs_timely types [] w here i f g x = tt
outputs_timely types (d ∷ ds) w here i f g x = by (bytes_eq d.name x) refl (outputs_timely types ds w here i (λ t. (f t).1) g x)
  where
    by : (b : Bool) → bytes_eq d.name x ≡ b → StandsAt (outputs_stand (names_of ds) w x) (At (here (Named x ∷ []))) i → StandsAt (if b then Some w else outputs_stand (names_of ds) w x) (At (here (Named x ∷ []))) i
    by true e h =
        by_clock (holds (steps w) i) (i (At (here (Named x ∷ []))))
        (λ t. subst (λ y. IsValue (i (At (here (Named y ∷ []))))) ((bytes_eq-Decides d.name x).0 e) (is_value types d.ty (i (At (here (Named d.name ∷ [])))) (f t).0))
        (λ t. g t (Named x ∷ []))
    by false e h = h
