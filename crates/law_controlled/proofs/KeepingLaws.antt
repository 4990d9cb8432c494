-- A node whose controllable variables have the greatest permitted values keeps its contract.
use Rattle.std.proofs.Common.{◌≡◌, ℕ, List, [], ◌∷◌, reverse, Some, refl, sym, subst}
use Rattle.std.specs.Prelude.{Bool, true, false, ◌&&◌, ◌||◌, not, if◌then◌else◌, IsTrue}
use Rattle.std.specs.List.{AllByRecursion, list_all}
use Rattle.std.specs.Str.{bytes_eq}
use Rattle.hp_base.specs.declared.ty.Ty.{Ty}
use Rattle.hp_base.specs.declared.ty.Ty.TheVariants as ty
use Rattle.hp_base.specs.declared.value.Value.{Value}
use Rattle.hp_base.specs.declared.value.Value.TheVariants.{Absent, Nil, B, E, I, Star}
use Rattle.hp_tree.specs.declared.program.Item.{Item}
use Rattle.hp_tree.specs.declared.program.Item.TheVariants.{TypeItem, NodeItem}
use Rattle.hp_tree.specs.Blocks.{Decl}
use Rattle.hp_tree.specs.Programs.{Node, TypeDecl}
use Rattle.hp_tree.specs.Operators.{marked}
use Rattle.hp_tree.specs.Instant.{Assume, Enforce, Inputs, Instant, Past, part}
use Rattle.hp_tree.specs.Meaning.{node_among, types_of}
use Rattle.hp_tree.specs.Reaction.{Reaction, controls_at, row_of}
use Rattle.hp_tree.specs.Values.{AreOf, IsOf}
use Rattle.hp_meaning.specs.Causal.Points.{Placed}
use Rattle.hp_meaning.specs.Contract.Duties.{assumes, duty, enforces, holds_or_missing, hypothesis}
use Rattle.hp_meaning.specs.Contract.Forgetting.{ContractsCallNothing, erase, erased}
use Rattle.hp_meaning.specs.Contract.FreePlaces.{InputsFit, IsAbstractOf, calls_of, instance_at}
use Rattle.hp_meaning.specs.Contract.Game.{AllowedLaw, GuaranteeLaw, IsChosen, Played, Safe}
use Rattle.hp_meaning.specs.Contract.Guarantee.{AllAssumed, AllSafe, AllSupposed, ErasedNextLaw, HasContract, Through, Typed}
use Rattle.law_values.proofs.ValuedLemmas.NodeBody.{row_is}
use Rattle.law_choices.specs.Choosing.Choices.{Choices}
use Rattle.law_choices.specs.Playing.Greatest.{ChoosesGreatest}
use Rattle.law_choices.proofs.PlayingLemmas.Holding.{Runs}
use Rattle.law_controlled.specs.Greatest.{KeepsContract, KeepsDuty}

-- ---- values of types

abstract_of : (types : List TypeDecl) (t : Ty) (v : Value) → IsOf types t v → IsAbstractOf types t v
abstract_of types ty.Bool (B b) h = (b, refl)
abstract_of types ty.Int (I n) h = refl
abstract_of types (ty.Enum t) (E u k) h = h
abstract_of types ty.Bool v h = absurd h
abstract_of types ty.Int v h = absurd h
abstract_of types (ty.Enum t) v h = absurd h

inputs_fit : (types : List TypeDecl) (ds : List Decl) (vs : List Value) → AreOf types ds vs → InputsFit types ds vs
inputs_fit types [] [] h = tt
inputs_fit types [] (v ∷ vs) h = absurd h
inputs_fit types (d ∷ ds) [] h = absurd h
inputs_fit types (d ∷ ds) (v ∷ vs) h = (abstract_of types d.ty v h.0, inputs_fit types ds vs h.1)

-- ---- the duty

module _ (allowed : AllowedLaw) (guarantee : GuaranteeLaw) (next : ErasedNextLaw) (choices : Choices) (after earlier : List Item) (n : Node) (quiet : ContractsCallNothing after) (named : node_among (reverse after) n.name ≡ Some n) where
  abbrev types : List TypeDecl
  types = types_of after

  abbrev AreTyped : Past → Type 0
  AreTyped past = Through (λ older now. Typed after n now) past

  abbrev AreGreatest : Past → Type 0
  AreGreatest past = Through (ChoosesGreatest after n) past

  played : (rows : List (List Value)) (past : Past) → AllByRecursion (AreOf types n.inputs) rows → Runs choices types earlier n rows past → Reaction after n.name rows past past → AreTyped past → AreGreatest past → AllSupposed n (erase past)
      → Played after n (erase past)
  played [] [] fit runs reaction typed greatest supposed = tt
  played [] (now ∷ past) fit runs reaction typed greatest supposed = absurd runs
  played (row ∷ rows) [] fit runs reaction typed greatest supposed = absurd runs
  played (row ∷ rows) (now ∷ past) fit runs reaction typed greatest supposed =
      let c = controls_at n now in
      let fits = inputs_fit types n.inputs row fit.0 in
      let is_row : row_of n.inputs (part Inputs now) ≡ row = row_is types n.inputs row (part Inputs now) fit.0 (λ p. runs.1.1 (Inputs ∷ p)) in
      let chosen : IsChosen after n (erase past) row now c = subst (λ vs. IsChosen after n (erase past) vs now c) is_row greatest.1 in (
        played rows past fit.1 runs.0 reaction.0 typed.0 greatest.0 supposed.0,
        (
          row,
          now,
          c,
          fits,
          allowed after n (erase past) row now c chosen,
          next after n.name n quiet named row past now now reaction.1 fits typed.1 chosen.fits,
          supposed.1,
        ),
      )

  pub keeps_duty : Safe after n [] → (rows : List (List Value)) (past : Past) → AllByRecursion (AreOf types n.inputs) rows → Runs choices types earlier n rows past → Reaction after n.name rows past past → AreTyped past → AreGreatest past → KeepsDuty n past
  keeps_duty safe [] [] fit runs reaction typed greatest = tt
  keeps_duty safe [] (now ∷ past) fit runs reaction typed greatest = absurd runs
  keeps_duty safe (row ∷ rows) [] fit runs reaction typed greatest = absurd runs
  keeps_duty safe (row ∷ rows) (now ∷ past) fit runs reaction typed greatest = (
    keeps_duty safe rows past fit.1 runs.0 reaction.0 typed.0 greatest.0,
    λ supposed. (guarantee after n (erase (now ∷ past)) safe (played (row ∷ rows) (now ∷ past) fit runs reaction typed greatest supposed)).1,
  )

-- ---- where nothing is called

holds_marked : (v : Value) → holds_or_missing (marked v) ≡ holds_or_missing v
holds_marked Absent = refl
holds_marked Nil = refl
holds_marked (B b) = refl
holds_marked (E t c) = refl
holds_marked (I n) = refl
holds_marked Star = refl

and_true : (b : Bool) → IsTrue b → IsTrue (b && true)
and_true true h = refl
and_true false h = h

and_first : (a b : Bool) → IsTrue (a && b) → IsTrue a
and_first true b h = refl
and_first false b h = h

module _ (n : Node) (none : calls_of n ≡ []) where
  supposed_now : (now : Instant) → IsTrue (assumes now) → IsTrue (hypothesis n (erased now))
  supposed_now now h =
      let held : IsTrue (assumes (erased now)) = subst IsTrue (sym (holds_marked (now (Assume ∷ [])))) h in
      subst (λ (cs : List Placed). IsTrue (assumes (erased now) && list_all (λ c. not (assumes (instance_at c (erased now))) || enforces (instance_at c (erased now))) cs)) (sym none) (and_true (assumes (erased now)) held)

  supposed : (past : Past) → AllAssumed past → AllSupposed n (erase past)
  supposed [] h = tt
  supposed (now ∷ past) h = (supposed past h.0, supposed_now now h.1)

  owed_now : (now : Instant) → IsTrue (duty n (erased now)) → IsTrue (enforces now)
  owed_now now h =
      let first : IsTrue (enforces (erased now)) = and_first (enforces (erased now)) (list_all (λ c. assumes (instance_at c (erased now))) (calls_of n)) h in
      subst IsTrue (holds_marked (now (Enforce ∷ []))) first

  pub keeps_contract : (past : Past) → KeepsDuty n past → KeepsContract past
  keeps_contract [] h = tt
  keeps_contract (now ∷ past) h = (keeps_contract past h.0, λ assumed. owed_now now (h.1 (supposed (now ∷ past) assumed)))

-- ---- nodes that are safe

pub safe_of : (program items : List Item) (f : List ℕ) (n : Node) → node_among items f ≡ Some n → AllSafe program items → HasContract n → Safe program n []
safe_of program [] f n e safe has = absurd cc
safe_of program (TypeItem t ∷ items) f n e safe has = safe_of program items f n e safe has
safe_of program (NodeItem m ∷ items) f n e safe has = by (bytes_eq m.name f) e (λ k. safe_of program items f n k safe.1 has)
  where
    by : (b : Bool) → (if b then Some m else node_among items f) ≡ Some n → (node_among items f ≡ Some n → Safe program n []) → Safe program n []
    by true k rest =
        let same : n ≡ m = cc in
        subst (λ (z : Node). Safe program z []) (sym same) (safe.0 (subst HasContract same has))
    by false k rest = rest k
