-- Places, instants and pasts, and how values are read in them.
-- Source: Colaço, Pagano and Pouzet, "A conservative extension of synchronous data-flow with state machines" (EMSOFT 2005). Its streams are cut here instant by instant.
use Rattle.std.specs.Prelude.{ℕ, Bool, true, false, ◌&&◌, if◌then◌else◌, List, [], ◌∷◌, map}
use Rattle.hp_base.specs.declared.value.Value.{Value}
use Rattle.hp_base.specs.declared.value.Value.TheVariants.{Absent, B}
use Rattle.hp_tree.specs.declared.decl.Cons.{Cons}
use Rattle.hp_tree.specs.Operators.{is_cons}
use Rattle.hp_tree.specs.Programs.{TypeDecl}

-- a step from something to a part of it
pub data Step : Type 0 where
  -- from a node to its inputs, its controllable variables, its body, its contract's block, and what that assumes and enforces
  Inputs Controls Body Observer Assume Enforce : Step
  -- from a node to the value of an output, and from a block to that of a name that it defines
  Named : List ℕ → Step
  -- the word whether a block or an instance begins anew; the equations of a block
  Fresh Equations : Step
  -- from a row to its first, and to the others
  Head Tail : Step
  -- from an equation to its right side, its condition, its arms or its states; from a state to its body and its transitions
  Right Test Arms States Until Unless : Step
  -- the words of an automaton; its word fresh is that of the active body
  Active Next Pending : Step
  -- from an operator to its operands; from a call, or a merge, to its arguments, and to its instance
  First Second Third Args Instance : Step

-- a place of a node: the way to it
abbrev pub Place : Type 0
Place = List Step

-- One value for each place; Absent where a part is not there, and at what is no place.
abbrev pub Instant : Type 0
Instant = Place → Value

-- the newest first
abbrev pub Past : Type 0
Past = List Instant

-- what an instant gives to a part
abbrev pub part : Step → Instant → Instant
part s i p = i (s ∷ p)

abbrev pub parts : Step → Past → Past
parts s past = map (part s) past

-- the value at the top of a part
abbrev pub top : Instant → Value
top i = i []

-- what an instant is read with: its past, and the values that are given at its places, those of controllable variables among them
pub record Given : Type 0 where
  pub past : Past
  pub free : Instant

abbrev pub at : Step → Given → Given
at s g = record { past = parts s g.past; free = part s g.free }

-- An instant in front of the own past of a block. Where the block is not there, its own past is as before. Where it begins anew, it has no other past.
abbrev pub own_with : Value → Instant → Past → Past
own_with Absent i past = past
own_with (B true) i past = i ∷ []
own_with fresh i past = i ∷ past

-- the own past of a block: the instants at which it was there since it last began anew
abbrev pub own : Past → Past
own [] = []
own (i ∷ past) = own_with (i (Fresh ∷ [])) i (own past)

-- with what a block is read that begins anew now, or not
abbrev pub since : Bool → Given → Given
since fresh g = record { past = if fresh then [] else own g.past; free = g.free }

-- the newest value of a past that is not Absent, or `none`
abbrev pub or_else : Value → Value → Value
or_else Absent w = w
or_else v w = v

abbrev pub newest : Value → Past → Value
newest none [] = none
newest none (i ∷ past) = or_else (top i) (newest none past)

-- the first value where a past holds none, else the second
abbrev pub after : Value → Value → Value → Value
after Absent v w = v
after u v w = w

abbrev pub at_first : Past → Value → Value → Value
at_first [] v w = v
at_first (i ∷ past) v w = after (top i) (at_first past v w) w

-- ---- instants made of parts

abbrev pub nothing : Instant
nothing p = Absent

abbrev pub alone : Value → Instant
alone v [] = v
alone v p = Absent

abbrev pub with_one : Value → Instant → Instant
with_one v i [] = v
with_one v i (First ∷ p) = i p
with_one v i p = Absent

abbrev pub with_two : Value → Instant → Instant → Instant
with_two v i j [] = v
with_two v i j (First ∷ p) = i p
with_two v i j (Second ∷ p) = j p
with_two v i j p = Absent

abbrev pub with_three : Value → Instant → Instant → Instant → Instant
with_three v i j k [] = v
with_three v i j k (First ∷ p) = i p
with_three v i j k (Second ∷ p) = j p
with_three v i j k (Third ∷ p) = k p
with_three v i j k p = Absent

abbrev pub in_row : List Instant → Instant
in_row (i ∷ is) (Head ∷ p) = i p
in_row (i ∷ is) (Tail ∷ p) = in_row is p
in_row is p = Absent

abbrev pub with_row : Value → List Instant → Instant
with_row v is [] = v
with_row v is (Args ∷ p) = in_row is p
with_row v is p = Absent

abbrev pub with_instance : Value → List Instant → Instant → Instant
with_instance v is i [] = v
with_instance v is i (Args ∷ p) = in_row is p
with_instance v is i (Instance ∷ p) = i p
with_instance v is i p = Absent

abbrev pub of_two : Instant → Instant → Instant
of_two i j (Head ∷ p) = i p
of_two i j (Tail ∷ p) = j p
of_two i j p = Absent

abbrev pub in_block : (List ℕ → Value) → Value → Instant → Instant
in_block named fresh i (Named x ∷ []) = named x
in_block named fresh i (Fresh ∷ []) = fresh
in_block named fresh i (Equations ∷ p) = i p
in_block named fresh i p = Absent

abbrev pub in_right : Instant → Instant
in_right i (Right ∷ p) = i p
in_right i p = Absent

abbrev pub with_arms : Instant → Instant → Instant
with_arms i j (Test ∷ p) = i p
with_arms i j (Arms ∷ p) = j p
with_arms i j p = Absent

abbrev pub with_body : Instant → Instant → Instant
with_body i j (Test ∷ p) = i p
with_body i j (Body ∷ p) = j p
with_body i j p = Absent

abbrev pub in_state : Instant → Instant → Instant → Instant
in_state i j k (Body ∷ p) = i p
in_state i j k (Until ∷ p) = j p
in_state i j k (Unless ∷ p) = k p
in_state i j k p = Absent

abbrev pub with_words : Value → Value → Value → Instant → Instant
with_words active next pending i (Active ∷ []) = active
with_words active next pending i (Next ∷ []) = next
with_words active next pending i (Pending ∷ []) = pending
with_words active next pending i (States ∷ p) = i p
with_words active next pending i p = Absent

-- a contract's part of a node: its block, and what it assumes and enforces
abbrev pub in_observer : Instant → Instant → Instant → Instant
in_observer i j k (Observer ∷ p) = i p
in_observer i j k (Assume ∷ p) = j p
in_observer i j k (Enforce ∷ p) = k p
in_observer i j k p = Absent

-- A node: the values of its outputs, its inputs, the values of its controllable variables, its body and its contract's part. An instance never begins anew by itself.
abbrev pub in_node : (List ℕ → Value) → List Value → List Value → Instant → Instant → Instant
in_node outputs inputs controls body observer (Named x ∷ []) = outputs x
in_node outputs inputs controls body observer (Fresh ∷ []) = B false
in_node outputs inputs controls body observer (Inputs ∷ p) = in_row (map alone inputs) p
in_node outputs inputs controls body observer (Controls ∷ p) = in_row (map alone controls) p
in_node outputs inputs controls body observer (Body ∷ p) = body p
in_node outputs inputs controls body observer p = observer p

-- ---- clocks

-- A clock is a path of constructors and names, innermost first; the empty one is the base clock of the block.
abbrev pub Clock : Type 0
Clock = List (Cons × List ℕ)

-- whether a clock is there, and a value on it
abbrev pub holds : List TypeDecl → Clock → (List ℕ → Value) → Bool
holds types [] names = true
holds types (on ∷ clock) names = is_cons types (names on.1) on.0 && holds types clock names

abbrev pub without : Clock → Clock
without [] = []
without (on ∷ clock) = clock
