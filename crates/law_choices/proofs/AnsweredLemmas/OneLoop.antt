-- A closed node and its plant answer the same, where the values are chosen that controllable variables have in the closed node.
use Rattle.std.proofs.Common.{◌≡◌, ℕ, List, [], ◌∷◌, ◌++◌, map, refl, sym, ap, ap₂, subst, ◌∙◌}
use Rattle.std.specs.List.{AllByRecursion}
use Rattle.hp_base.specs.Kinds.{AreOfKinds}
use Rattle.hp_base.specs.declared.value.Value.{Value}
use Rattle.hp_base.specs.Kinds.{KindData}
use Rattle.law_equations.specs.Meaning.Instants.{Instant}
use Rattle.law_equations.specs.Meaning.Reactions.{Answers, Reaction, outputs_at}
use Rattle.hp_controller.specs.Extending.{rows_with}
use Rattle.law_choices.specs.Choosing.Choices.{Choice, Choices, with_chosen}
use Rattle.law_choices.specs.Choosing.Meaning.{GivesAnswer}
use Rattle.law_choices.specs.Answered.Loops.{Loop, IsFollowed, IsItsChoice, LoopLaw}

-- what the plant takes are the inputs with what is chosen behind them
pub rows_chosen : (answers : Answers) (takes : List KindData) (controls : ℕ) (l : Loop) (choice : Choice) → IsItsChoice answers takes controls l.closed choice → (rows : List (List Value)) (instants : List Instant) → AllByRecursion (AreOfKinds takes) rows
    → Reaction answers l.closed rows instants → rows_with l.closed.inputs controls rows instants ≡ with_chosen choice rows
rows_chosen answers takes controls l choice its [] [] h r = refl
rows_chosen answers takes controls l choice its [] (now ∷ past) h r = absurd r
rows_chosen answers takes controls l choice its (row ∷ rows) [] h r = absurd r
rows_chosen answers takes controls l choice its (row ∷ rows) (now ∷ past) h r =
    ap₂ (λ (v : List Value) (vs : List (List Value)). (row ++ v) ∷ vs) (sym (its row rows h.0 h.1 now past r)) (rows_chosen answers takes controls l choice its rows past h.1 r.0)

-- the newest instant, and those before it
pub record IsSplit (P : List Instant → Type 0) (l : Loop) (now : Instant) (past : List Instant) : Type 0 where
  pub newest : Instant
  pub earlier : List Instant
  pub reaction : P (newest ∷ earlier)
  pub outputs : outputs_at l.plant newest ≡ outputs_at l.closed now

split : (P : List Instant → Type 0) (l : Loop) (now : Instant) (past instants : List Instant) → P instants → map (outputs_at l.plant) instants ≡ map (outputs_at l.closed) (now ∷ past) → IsSplit P l now past
split P l now past [] p e = absurd cc
split P l now past (i ∷ instants) p e = record { newest = i; earlier = instants; reaction = p; outputs = ap first e }
  where
    first : List (List Value) → List Value
    first [] = []
    first (vs ∷ rest) = vs

followed_answer : (answers : Answers) (choices : Choices) (controls : ℕ) (l : Loop) (args : List Value) (earlier : List (List Value)) (now : Instant) (past : List Instant) → l.closed.name ≡ l.plant.name → answers l.closed.name args earlier ≡ outputs_at l.closed now
    → IsFollowed answers controls l (args ∷ earlier) (now ∷ past) → rows_with l.closed.inputs controls (args ∷ earlier) (now ∷ past) ≡ with_chosen (choices l.plant.name) (args ∷ earlier) → GivesAnswer choices answers l.plant args earlier
followed_answer answers choices controls l args earlier now past name answer f rows =
    let P : List Instant → Type 0 = Reaction answers l.plant (with_chosen (choices l.plant.name) (args ∷ earlier)) in
    let s = split P l now past f.followed (subst (λ rs. Reaction answers l.plant rs f.followed) rows f.reaction) f.outputs in
    record { now = s.newest; past = s.earlier; reaction = s.reaction; answer = ap (λ z. answers z args earlier) (sym name) ∙ answer ∙ sym s.outputs }

pub loop_law : LoopLaw
loop_law answers takes choices controls l c its gives args earlier k g =
    let loop = c.loop in
    let y = gives args earlier (subst (λ z. AreOfKinds (takes z) args) (sym loop.name) k) (subst (λ z. AllByRecursion (AreOfKinds (takes z)) earlier) (sym loop.name) g) in
    followed_answer answers choices controls l args earlier y.now y.past loop.name y.answer (c.follows (args ∷ earlier) (y.now ∷ y.past) y.reaction)
    (rows_chosen answers (takes l.plant.name) controls l (choices l.plant.name) its (args ∷ earlier) (y.now ∷ y.past) (k, g) y.reaction)
