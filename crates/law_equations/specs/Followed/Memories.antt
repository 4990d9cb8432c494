-- The memory of a machine that stands for a past.
use Rattle.std.specs.Prelude.{◌≡◌, ℕ, List, [], ◌∷◌, ◌++◌}
use Rattle.std.specs.List.{AllByRecursion}
use Rattle.hp_base.specs.Kinds.{KindData, AreOfKinds}
use Rattle.hp_base.specs.declared.value.Value.{Value}
use Rattle.hp_obc.specs.Steps.{Names, Memory, memory, memories_of, Behaviour, Known}
use Rattle.hp_flat.specs.Equations.{Right, register, called, FlatEqn}
use Rattle.law_equations.specs.Meaning.Instants.{Instant, atom, atoms, history, newest}
use Rattle.law_equations.specs.Meaning.Reactions.{Answers}

-- ---- machines as answers

-- the memory of a machine after inputs, newest first
abbrev pub memory_after : Behaviour → List (List Value) → Memory
memory_after b [] = b.reset
memory_after b (inputs ∷ earlier) = (b.step (memory_after b earlier) inputs).kept

-- what a machine answers on inputs after earlier ones
abbrev pub answered : Behaviour → List Value → List (List Value) → List Value
answered b inputs earlier = (b.step (memory_after b earlier) inputs).outputs

-- what it answers on each of some inputs, newest first
abbrev pub all_answered : Behaviour → List (List Value) → List (List Value)
all_answered b [] = []
all_answered b (inputs ∷ earlier) = answered b inputs earlier ∷ all_answered b earlier

-- A machine answers as it is said of a node, on arguments of the kinds that the node takes.
abbrev pub AnswersAs : Answers → Names (List KindData) → List ℕ → Behaviour → Type 0
AnswersAs answers takes f b =
    (args : List Value) (earlier : List (List Value)) → AreOfKinds (takes f) args → AllByRecursion (AreOfKinds (takes f)) earlier → answers f args earlier ≡ answered b args earlier

-- where a node is called, its machine answers as it is said of the node
abbrev pub CalleeAnswers : Known → Answers → Names (List KindData) → Right → Type 0
CalleeAnswers known answers takes (called f args) = AnswersAs answers takes f (known f)
CalleeAnswers known answers takes right = Unit {0}

-- so it is in all equations
abbrev pub CalleesAnswer : Known → Answers → Names (List KindData) → List FlatEqn → Type 0
CalleesAnswer known answers takes es = AllByRecursion (λ (e : FlatEqn). CalleeAnswers known answers takes e.right) es

-- ---- the memory that stands for a past

-- A register: the newest next value since it began anew, else its first value.
abbrev pub cell : FlatEqn → List Instant → Right → List Value
cell e past (register first next) = newest first (history e.clock e.restart (λ i. atom i next) past) ∷ []
cell e past right = []

-- An instance: the memory of its machine after the arguments since it began anew.
abbrev pub inner : Known → FlatEqn → List Instant → Right → List Memory
inner known e past (called f args) = memory_after (known f) (history e.clock e.restart (λ i. atoms i args) past) ∷ []
inner known e past right = []

-- the registers and the instances of equations, in order
abbrev pub cells : List FlatEqn → List Instant → List Value
cells [] past = []
cells (e ∷ es) past = cell e past e.right ++ cells es past

abbrev pub inners : Known → List FlatEqn → List Instant → List Memory
inners known [] past = []
inners known (e ∷ es) past = inner known e past e.right ++ inners known es past

-- the memory of the machine of equations that stands for a past
abbrev pub memory_at : Known → List FlatEqn → List Instant → Memory
memory_at known es past = memory (cells es past) (memories_of (inners known es past))
