-- The runs of a ready program keep its contracts.
use Rattle.std.proofs.Common.{◌≡◌, ℕ, List, [], ◌∷◌, ◌++◌, refl, sym, subst}
use Rattle.std.specs.Prelude.{Bool, true, false, IsTrue, if◌then◌else◌, All, Some, reverse}
use Rattle.std.specs.Bool.{MatchBool}
use Rattle.std.specs.Str.{bytes_eq}
use Rattle.hp_base.specs.declared.value.Value.{Value}
use Rattle.hp_base.specs.declared.value.Value.TheVariants.{Nil}
use Rattle.hp_tree.specs.declared.program.Item.{Item}
use Rattle.hp_tree.specs.declared.program.Item.TheVariants.{TypeItem, NodeItem}
use Rattle.hp_tree.specs.Blocks.{Decl}
use Rattle.hp_tree.specs.Programs.{Node}
use Rattle.hp_tree.specs.Operators.{is_there}
use Rattle.hp_tree.specs.Instant.{Controls, Fresh, Instance, Instant, Past, part}
use Rattle.hp_tree.specs.Meaning.{types_of, node_among, controls_of}
use Rattle.hp_tree.specs.Reaction.{row_of}
use Rattle.hp_meaning.specs.Causal.Runs.{NoControls}
use Rattle.hp_meaning.proofs.CausalLemmas.Ranking.{all_ranks_enough}
use Rattle.hp_meaning.proofs.CausalLemmas.Run.{none_reverse}
use Rattle.hp_meaning.specs.Causal.Points.{Placed}
use Rattle.hp_meaning.specs.Contract.ChosenRuns.{own_past, Controlled, ControlledThroughout}
use Rattle.hp_meaning.specs.Contract.Duties.{enforces}
use Rattle.hp_meaning.specs.Contract.FreePlaces.{calls_of, instance_at}
use Rattle.hp_meaning.specs.Contract.Game.{Choice, AreChoices, Permitted, IsAllowed}
use Rattle.hp_meaning.specs.Contract.Guarantee.{Through, AllAssumed, Guaranteed, GuaranteedLaw}
use Rattle.law_judged.specs.Named.Scoped.{EachNode}
use Rattle.law_values.proofs.ValuedLemmas.Programs.{as_read}
use Rattle.law_values.specs.Accepted.Outputs.{Uncontrolled}
use Rattle.law_values.proofs.AcceptedLemmas.Laws.{accepted}
use Rattle.law_values.proofs.AcceptedLemmas.Outputs.{frees_fit}
use Rattle.law_games.proofs.ReadyGamesLemmas.Settled.{ready_contracts}
use Rattle.law_games.specs.Guaranteed.Laws.{TypedLaw, ChoicesKeepContractsLaw, RunsKeepContractsLaw, NodeRunsKeepContractsLaw, OwnContractLaw}
use Rattle.law_games.proofs.GuaranteedLemmas.Apart.{ready_apart}
use Rattle.law_games.proofs.GuaranteedLemmas.TypedNodes.{typed_through}
use Rattle.law_games.proofs.GuaranteedLemmas.Wholes.{wholes}

pub typed : TypedLaw
typed program after ranks r f n inputs frees past e i g h =
    let a = accepted program after r.ready in
    typed_through after (ready_apart program after r.ready) a.0 f past
    (wholes (λ given. Nil) after a.0 f n inputs frees past a.1 (all_ranks_enough after ranks r.ordered) e i g (as_read after f inputs frees past h))

pub choices_kept : GuaranteedLaw → ChoicesKeepContractsLaw
choices_kept law program after ranks r f n inputs frees past e i g h safe chosen =
    law after f inputs frees past h chosen (ready_contracts program after r.ready r.conditions) (ready_apart program after r.ready) safe (typed program after ranks r f n inputs frees past e i g h)

-- ---- without controllable variables

either_way : {P Q : Type 0} (t : Bool) → P → Q → MatchBool t P Q
either_way true p q = p
either_way false p q = q

no_row : (ds : List Decl) (i : Instant) → ds ≡ [] → row_of ds i ≡ []
no_row [] i e = refl
no_row (d ∷ ds) i e = absurd (cc)

no_choice : (program : List Item) (n : Node) (history : Past) (inputs : List Value) (early : Instant) → controls_of n.contract ≡ [] → IsAllowed program n history inputs early []
no_choice program n history inputs early e =
    record { fits = subst (λ ds. AreChoices (types_of program) ds []) (sym e) tt; where_some = λ d l p. only d (subst (λ ds. AreChoices (types_of program) ds d) e l) p }
  where
    only : (d : Choice) → AreChoices (types_of program) [] d → Permitted program n history inputs early d → Permitted program n history inputs early []
    only [] l p = p
    only (v ∷ d) l p = absurd l

allowed_now : (program items : List Item) (f : List ℕ) (past : Past) (now : Instant) → NoControls items → Controlled (IsAllowed program) items f past now
allowed_now program [] f past now r = tt
allowed_now program (TypeItem t ∷ earlier) f past now r = allowed_now program earlier f past now r
allowed_now program (NodeItem n ∷ earlier) f past now r =
    either_way (bytes_eq n.name f)
    (subst (IsAllowed program n _ _ _) (sym (no_row (controls_of n.contract) (part Controls now) r.0)) (no_choice program n _ _ _ r.0), λ k d b there. allowed_now program earlier _ _ _ r.1)
    (allowed_now program earlier f past now r.1)

allowed_always : (program : List Item) (f : List ℕ) (past : Past) → NoControls program → ControlledThroughout (IsAllowed program) (reverse program) f past
allowed_always program f [] r = tt
allowed_always program f (now ∷ past) r = (allowed_always program f past r, allowed_now program (reverse program) f past now (none_reverse program r))

none_controlled : (items : List Item) → NoControls items → EachNode Uncontrolled items
none_controlled [] h = tt
none_controlled (TypeItem t ∷ items) h = none_controlled items h
none_controlled (NodeItem n ∷ items) h = (h.0, none_controlled items h.1)

pub runs_kept : GuaranteedLaw → RunsKeepContractsLaw
runs_kept law program after ranks r none safe f n inputs frees past e i h =
    choices_kept law program after ranks r f n inputs frees past e i (frees_fit (types_of after) after (none_controlled after none) f frees) h safe (allowed_always after f past none)

pub node_runs_kept : GuaranteedLaw → NodeRunsKeepContractsLaw
node_runs_kept law program after ranks r none safe f inputs outputs frees past run h = (run.every frees past h, runs_kept law program after ranks r none safe f h.node (reverse inputs) frees past h.is_node h.inputs_fit h.reaction)

-- ---- the node's own contract

own_kept : (items : List Item) (f : List ℕ) (n : Node) (past : Past) (now : Instant) → node_among items f ≡ Some n → Guaranteed items f past now → AllAssumed (now ∷ past) → IsTrue (enforces now)
own_kept [] f n past now e h = absurd (cc)
own_kept (TypeItem t ∷ items) f n past now e h = own_kept items f n past now e h
own_kept (NodeItem m ∷ items) f n past now e h = by (bytes_eq m.name f) e h (own_kept items f n past now)
  where
    by : (d : Bool) → (if d then Some m else node_among items f) ≡ Some n
        → MatchBool d ((AllAssumed (now ∷ past) → IsTrue (enforces now)) × All (λ (k : Placed). IsTrue (is_there (instance_at k now (Fresh ∷ []))) → Guaranteed items k.point.name (own_past (k.place ++ (Instance ∷ [])) past now) (instance_at k now)) (calls_of m)) (Guaranteed items f past now)
        → (node_among items f ≡ Some n → Guaranteed items f past now → AllAssumed (now ∷ past) → IsTrue (enforces now)) → AllAssumed (now ∷ past) → IsTrue (enforces now)
    by true e h k = h.0
    by false e h k = k e h

own_through : (items : List Item) (f : List ℕ) (n : Node) (past : Past) → node_among items f ≡ Some n → Through (Guaranteed items f) past → Through (λ older now. AllAssumed (now ∷ older) → IsTrue (enforces now)) past
own_through items f n [] e h = tt
own_through items f n (now ∷ past) e h = (own_through items f n past e h.0, own_kept items f n past now e h.1)

pub own_contract_kept : GuaranteedLaw → OwnContractLaw
own_contract_kept law program after ranks r none safe f inputs frees past h =
    own_through (reverse after) f h.node past h.is_node (runs_kept law program after ranks r none safe f h.node inputs frees past h.is_node h.inputs_fit h.reaction)
