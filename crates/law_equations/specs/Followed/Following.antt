-- The machine of scheduled equations follows each of their reactions.
use Rattle.std.specs.Prelude.{◌≡◌, List, ◌∷◌, map, reverse}
use Rattle.std.specs.List.{AllByRecursion}
use Rattle.hp_base.specs.Kinds.{KindData}
use Rattle.hp_base.specs.declared.value.Value.{Value}
use Rattle.hp_obc.specs.Form.{TypesForm}
use Rattle.hp_obc.specs.Machines.{ObcType}
use Rattle.hp_obc.specs.Steps.{Names, Behaviour, Known, behaviour, run}
use Rattle.hp_flat.specs.Nodes.{FlatNode}
use Rattle.law_equations.specs.Meaning.Instants.{Instant}
use Rattle.law_equations.specs.Meaning.Reactions.{Answers, Continues, Reaction, outputs_at}
use Rattle.law_equations.specs.Meaning.Fitting.{Fits}
use Rattle.hp_toobc.specs.Making.{machine_of}
use Rattle.law_equations.specs.Followed.Memories.{memory_after, answered, all_answered, CalleesAnswer, memory_at}
use Rattle.law_equations.specs.Followed.Premises.{IsTold, IsOfTypes, NodeForm}

-- From the memory that stands for a past, on the inputs of an instant that continues it, a step gives the outputs of the instant, and the memory that stands
-- for the past with it.
abbrev pub StepLaw : Type 0
StepLaw =
    (types : List ObcType) (known : Known) (answers : Answers) (takes : Names (List KindData)) (n : FlatNode)
    → NodeForm types n → CalleesAnswer known answers takes n.eqns
    → (past : List Instant) (inputs : List Value) (now : Instant) → AllByRecursion (Fits takes n) past → Fits takes n now → Continues answers n past inputs now
    → (behaviour types known (machine_of types n)).step (memory_at known n.eqns past) inputs ≡ record { outputs = outputs_at n now; kept = memory_at known n.eqns (now ∷ past) }

-- So after the inputs of a reaction the machine has the memory that stands for it.
abbrev pub MemoryLaw : Type 0
MemoryLaw =
    (types : List ObcType) (known : Known) (answers : Answers) (takes : Names (List KindData)) (n : FlatNode)
    → NodeForm types n → CalleesAnswer known answers takes n.eqns
    → (inputs : List (List Value)) (instants : List Instant) → AllByRecursion (Fits takes n) instants → Reaction answers n inputs instants
    → memory_after (behaviour types known (machine_of types n)) inputs ≡ memory_at known n.eqns instants

-- At each instant it answers with its outputs.
abbrev pub OutputsLaw : Type 0
OutputsLaw =
    (types : List ObcType) (known : Known) (answers : Answers) (takes : Names (List KindData)) (n : FlatNode)
    → NodeForm types n → CalleesAnswer known answers takes n.eqns
    → (inputs : List Value) (earlier : List (List Value)) (now : Instant) (past : List Instant) → AllByRecursion (Fits takes n) (now ∷ past) → Reaction answers n (inputs ∷ earlier) (now ∷ past)
    → answered (behaviour types known (machine_of types n)) inputs earlier ≡ outputs_at n now

-- Its run over the inputs of a reaction, oldest first, gives the outputs of the instants.
abbrev pub RunLaw : Type 0
RunLaw =
    (types : List ObcType) (known : Known) (answers : Answers) (takes : Names (List KindData)) (n : FlatNode)
    → NodeForm types n → CalleesAnswer known answers takes n.eqns
    → (inputs : List (List Value)) (instants : List Instant) → AllByRecursion (Fits takes n) instants → Reaction answers n inputs instants
    → run (behaviour types known (machine_of types n)) (reverse inputs) ≡ reverse (map (outputs_at n) instants)

-- The run of a machine over inputs, oldest first, gives what it answers on each of them.
abbrev pub AnsweredLaw : Type 0
AnsweredLaw = (b : Behaviour) (inputs : List (List Value)) → run b (reverse inputs) ≡ reverse (all_answered b inputs)

-- Where types have form, the values of their kinds are told by constants.
abbrev pub ConstantsLaw : Type 0
ConstantsLaw = (types : List ObcType) → TypesForm types → (v : Value) → IsOfTypes types v → IsTold types v
