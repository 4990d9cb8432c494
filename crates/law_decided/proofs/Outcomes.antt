-- What is found of contracts on their machines says so of their games.
use Rattle.std.proofs.Common.{◌≡◌, ℕ, inl, inr, ◌∷◌, ◌++◌, List, [], refl, sym, ap, subst, ◌∙◌}
use Rattle.std.proofs.lemmas.Grind.{reverse_onto}
use Rattle.std.proofs.lemmas.List.{reverse-append, reverse-reverse}
use Rattle.std.proofs.lemmas.List.Elements.{All-head, All-tail}
use Rattle.std.specs.Prelude.{IsTrue, reverse, None, Some, is_some}
use Rattle.hp_base.specs.declared.limit.Limit.{Limit}
use Rattle.hp_tree.specs.declared.program.Item.{Item}
use Rattle.hp_tree.specs.declared.program.Item.TheVariants.{TypeItem, NodeItem}
use Rattle.hp_tree.specs.Meaning.{node_among}
use Rattle.hp_tree.specs.Programs.{Node}
use Rattle.hp_meaning.specs.Contract.Guarantee.{AllSafe}
use Rattle.law_games.specs.ReadyGames.Laws.{Stands, IsInOrder}
use Rattle.law_games.proofs.ReadyGamesLemmas.Ordered.{text_order, all_stand}
use Rattle.law_drawing.proofs.MirrorsLemmas.Apart.{one_more}
use Rattle.law_drawing.specs.Mirrors.Drawn.{DrawnGameLaw, DrawnSafeLaw}
use Rattle.hp_graph.specs.Graphs.{IsCycle}
use Rattle.hp_circuit.specs.Reading.{edges_of}
use Rattle.hp_circuit.specs.declared.error.CircuitErr.TheVariants as circuit_error
use Rattle.hp_drawing.specs.DrawnNodes.{drawn_node}
use Rattle.hp_drawing.specs.Told.{told_of}
use Rattle.law_drawing.specs.Form.Laws.{FormLaw}
use Rattle.law_drawing.specs.NoCircle.Laws.{NoCircleLaw}
use Rattle.law_drawing.specs.Mirrors.Assumptions.{AssumesControl, AssumeLaw}
use Rattle.law_drawing.specs.Mirrors.Limits.{IsOver, LimitLaw}
use Rattle.hp_abstract.specs.Machines.{LacksMachine, IsRefused, assumption_by, assumption_of}
use Rattle.hp_abstract.specs.declared.error.AbsErr.TheVariants as abstract_error
use Rattle.hp_verdicts.specs.Decided.{KeptItem, AreKept, RefusesMachine, RefusesContract}
use Rattle.hp_verdicts.specs.declared.error.ContractErr.{ContractErr}
use Rattle.hp_verdicts.specs.declared.error.ContractErr.TheVariants as error
use Rattle.law_decided.specs.Outcomes.{SaysOfNode, AreSaid, OutcomesLaw}
use Rattle.law_decided.proofs.Decided.{kept, forced, all_safe, proof_verdict, verified_holds}

-- ---- where a node stands

-- behind the items before it
turned : (front back : List Item) (x : Item) → reverse (front ++ x ∷ back) ≡ reverse back ++ x ∷ reverse front
turned front back x = reverse-append front (x ∷ back) ∙ ap (λ z. z ++ reverse front) (reverse_onto back x []) ∙ sym (one_more (reverse back) x (reverse front))

stands : (after front back : List Item) (n : Node) → after ≡ front ++ NodeItem n ∷ back → Stands after (reverse front) n
stands after front back n e = (reverse back, ap reverse e ∙ turned front back (NodeItem n))

-- where it is found by its name
pub named : (after : List Item) (f : List ℕ) (n : Node) → node_among after f ≡ Some n → (earlier : List Item) × Stands after earlier n
named after f n e =
    let s = all_stand (reverse after) f n (ap (λ items. node_among items f) (reverse-reverse after) ∙ e) in
    (reverse s.1.0, stands after s.1.0 s.0 n (sym (reverse-reverse after) ∙ s.1.1))

-- ---- of a ready program

-- What is shown of the circuit that is drawn of a node, and of the game on its machine.
pub record Shown : Type 0 where
  pub games : DrawnGameLaw
  pub safes : DrawnSafeLaw
  pub form : FormLaw
  pub no_circle : NoCircleLaw
  pub assumptions : AssumeLaw
  pub limits : LimitLaw

module _ (laws : Shown) (program after : List Item) (ranks : List (List ℕ)) (o : IsInOrder program after ranks) where
  games : DrawnGameLaw
  games = laws.games

  safes : DrawnSafeLaw
  safes = laws.safes

  -- of some of its items in a row
  safe_part : (front items rest : List Item) → after ≡ front ++ (items ++ rest) → AreKept after items → AllSafe after items
  safe_part front [] rest e all = tt
  safe_part front (TypeItem t ∷ items) rest e all = safe_part (front ++ TypeItem t ∷ []) items rest (e ∙ one_more front (TypeItem t) (items ++ rest)) (All-tail (KeptItem after) (TypeItem t) items all)
  safe_part front (NodeItem n ∷ items) rest e all =
      let st = stands after front (items ++ rest) n e in (
        (λ some. kept safes program after ranks o (reverse front) n st (All-head (KeptItem after) (NodeItem n) items all (subst (λ c. IsTrue (is_some c)) (sym some.1) refl))),
        safe_part (front ++ NodeItem n ∷ []) items rest (e ∙ one_more front (NodeItem n) (items ++ rest)) (All-tail (KeptItem after) (NodeItem n) items all),
      )

  module _ (earlier : List Item) (n : Node) (st : Stands after earlier n) where
    -- it is a circuit without a circle
    built : LacksMachine after n circuit_error.NoCircuit → ⊥
    built (c, (is, inl none)) = none (laws.form program after ranks o earlier n st c is)
    built (c, (is, inr circle)) =
        laws.no_circle program after ranks o earlier n st circle.0
        (subst (λ edges. IsCycle edges circle.0) (ap (λ wires. edges_of wires c.reads.items) is.wires ∙ ap (λ reads. edges_of (drawn_node (told_of after) n).wires reads) is.reads) circle.1)

    assumes : LacksMachine after n circuit_error.Steered → AssumesControl n
    assumes (c, (is, why)) = (laws.assumptions program after ranks o earlier n st c is).0 why.1

    -- a node that assumes nothing assumes nothing that reads a controllable variable
    assumes_none : AssumesControl n → assumption_of n ≡ None → ⊥
    assumes_none a none = let some : assumption_of n ≡ Some a.assumption = ap assumption_by a.is ∙ a.assumed in let no : Some a.assumption ≡ None = sym some ∙ none in absurd cc

    not_built : IsRefused after n abstract_error.NotBuilt → ⊥
    not_built (inl lacks) = built lacks
    not_built (inr steered) = assumes_none (assumes steered.0) steered.1

    is_over : (limit : Limit) → LacksMachine after n (circuit_error.Limit limit) → IsOver after n limit
    is_over limit (c, (is, over)) = (laws.limits program after ranks o earlier n st c is over.steered over.are_steered limit).0 over.first

    -- why there is no machine
    machine_says : (cause : ContractErr) → RefusesMachine after n cause → SaysOfNode after n cause
    machine_says (error.Forced node instants cert) r = absurd r
    machine_says (error.Assume node span) r = assumes r.2.0
    machine_says (error.Limit node limit) r = is_over limit r.2
    machine_says error.TooLong r = absurd r
    machine_says error.NotBuilt r = not_built r.1
    machine_says error.OutOfMemory r = tt

    -- why a contract is refused
    says : (cause : ContractErr) → RefusesContract after n cause → SaysOfNode after n cause
    says (error.Forced node instants cert) r =
        let found = forced games program after ranks o earlier n st instants r.2.forced in record { forced = found.0; least = found.1 }
    says (error.Assume node span) r = machine_says (error.Assume node span) r
    says (error.Limit node limit) r = machine_says (error.Limit node limit) r
    says error.TooLong r = absurd r
    says error.NotBuilt r = machine_says error.NotBuilt r
    says error.OutOfMemory r = tt

  are_said : AreSaid after
  are_said = record {
    kept = λ all. record { kept = all; safe = all_safe safes program after ranks o all };
    refused = λ cause r.
        record {
          refused = r;
          before = safe_part [] r.before (NodeItem r.node ∷ r.behind) r.stands r.kept;
          says = says (reverse r.before) r.node (stands after r.before r.behind r.node r.stands) cause r.refused;
        };
    node_refused = λ f n e cause r. let st = named after f n e in record { refused = r; says = machine_says st.0 n st.1 cause r };
    proof = λ f n e text p.
        let st = named after f n e in record { proof = p; verdict = proof_verdict games safes program after ranks o st.0 n st.1 text p };
    shown = λ f n e text p s. let st = named after f n e in record { shown = s; holds = verified_holds games safes program after ranks o st.0 n st.1 text p s };
  }

-- ---- of a text

pub outcomes : Shown → OutcomesLaw
outcomes laws text tokens program after ranks a =
    are_said laws program after ranks (text_order text tokens program after ranks a.spelled a.read a.named a.typed a.defined a.formed a.initialised a.clocks a.fall)
