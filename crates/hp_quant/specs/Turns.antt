-- Marked variables, of which some values or all values are asked for.
use Rattle.std.specs.Prelude.{◌≡◌, ◌⊎◌, ℕ, zero, suc, ◌<◌, Bool, true, false, ◌&&◌, ◌||◌, ◌==◌, nat_eq, List, slice_index_or, Some, if◌then◌else◌}
use Rattle.std.specs.HashMap.{get}
use Rattle.hp_diagram.specs.declared.reference.Ref.{Ref}
use Rattle.hp_diagram.specs.Diagrams.{Diagrams, function, Has, level, zero_ref, one_ref}
use Rattle.hp_quant.specs.declared.turns.Way.{Way}
use Rattle.hp_quant.specs.declared.turns.Way.TheVariants.{Stays, Either, Both}
use Rattle.hp_quant.specs.declared.turns.Plan.{Plan}
use Rattle.hp_quant.specs.declared.pair.Pair.{Pair}
use Rattle.hp_quant.specs.declared.pair.Found.{Found}

abbrev pub Fun : Type 0
Fun = (ℕ → Bool) → Bool

-- whether a variable is marked; none is behind the end of the marks
abbrev pub marked : List Bool → ℕ → Bool
marked of x = slice_index_or of x false

-- what is asked of a variable: all values or some of a marked one, and nothing of another
abbrev pub way_of : Bool → List Bool → ℕ → Way
way_of all of x = if marked of x then (if all then Both else Either) else Stays

-- at a variable: the value as it stands, or of the values where it is false and where it is true one or both
abbrev pub by_way : Way → Bool → Bool → Bool → Bool
by_way Stays here low high = here
by_way Either here low high = low || high
by_way Both here low high = low && high

-- the valuation with another value for a variable
abbrev pub changed : (ℕ → Bool) → ℕ → Bool → ℕ → Bool
changed v x c = λ y. if y == x then c else v y

-- what is asked over n variables from x on, the first of them outermost
abbrev pub asked : (ℕ → Way) → ℕ → ℕ → Fun → Fun
asked ways zero x f v = f v
asked ways (suc n) x f v = by_way (ways x) (asked ways n (suc x) f v) (asked ways n (suc x) f (changed v x false)) (asked ways n (suc x) f (changed v x true))

-- one of two functions is true
abbrev pub either : Fun → Fun → Fun
either f g v = f v || g v

-- two functions of a table and of variables behind x
pub record AreBehind (t : Diagrams) (x : ℕ) (p : Pair) : Type 0 where
  pub f : Has t p.f
  pub g : Has t p.g
  pub f_later : x < level t p.f
  pub g_later : x < level t p.g

module _ (t : Diagrams) (plan : Plan) (of : List Bool) where
  -- what is asked of two functions
  unfoldable pub of_pair : Pair → Fun
  of_pair p v = asked (way_of plan.all of) plan.end 0 (either (function t p.f) (function t p.g)) v

  -- s is the answer for two functions of the table
  pub record Answers (p : Pair) (s : Ref) : Type 0 where
    pub f : Has t p.f
    pub g : Has t p.g
    pub has : Has t s
    pub value : (v : ℕ → Bool) → function t s v ≡ of_pair p v

  -- at a variable: the answer from those of its two sides
  abbrev pub at_sides : ℕ → Pair → Pair → Fun
  at_sides x low high v = by_way (way_of plan.all of x) (if v x then of_pair high v else of_pair low v) (of_pair low v) (of_pair high v)

-- s was found for the pair
abbrev pub pair_eq : Pair → Pair → Bool
pair_eq p q = nat_eq p.f.index q.f.index && nat_eq p.g.index q.g.index

abbrev pub WasFound : Found → Pair → Ref → Type 0
WasFound m p s = get pair_eq m.known p ≡ Some s

-- what the pass has found is right
abbrev pub AllAnswered : Diagrams → Plan → List Bool → Found → Type 0
AllAnswered t plan of m = (p : Pair) (s : Ref) → WasFound m p s → Answers t plan of p s

-- the answer for one value of a variable is that for both
abbrev pub Settles : Way → Ref → Type 0
Settles way low = ((way ≡ Either) × (low ≡ one_ref)) ⊎ ((way ≡ Both) × (low ≡ zero_ref))
