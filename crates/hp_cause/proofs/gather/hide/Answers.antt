use Rattle.std.proofs.Common.{◌≡◌, ℕ, Bool, List, [], Some, ap, ◌∙◌}
use Rattle.hp_tree.specs.BlockView.{eqn_seen}
use Rattle.hp_cause.specs.Facts.{Fact}
use Rattle.hp_cause.specs.Gathering.{Sight, of_defined}
use Rattle.hp_tables.specs.Defining.Names.{names_of}
use Rattle.hp_tables.specs.Defining.Layers.{is_said, says_seen, sight}
use Rattle.hp_cause.specs.Told.{facts_seen, names_seen, with_more}
use Rattle.hp_cause.proofs.EntryLaws.{listed-defined, sight-within}
use Rattle.hp_cause.proofs.gather.hide.Goals as goal

pub returns-clause-seen : goal.returns-clause-seen
returns-clause-seen c =
    let names : names_seen c.deref.result.now ≡ names_of (eqn_seen c.args.eqn.now) = ap names_seen c.deref.ensures.value ∙ c.in_ok-names.ensures in
    ap sight c.in_ok-push.ensures.items
    ∙ sight-within c.args.scope.now.values.items c.in_ok-hidden.hidden (eqn_seen c.args.eqn.now)
    (c.in_ok-hidden.ensures.says ∙ ap (λ names. says_seen names (sight [])) names)

pub returns-clause-facts : goal.returns-clause-facts
returns-clause-facts c =
    let eqn = eqn_seen c.args.eqn.now in
    let names : names_seen c.deref.result.now ≡ names_of eqn = ap names_seen c.deref.ensures.value ∙ c.in_ok-names.ensures in
    let said : Sight → (List ℕ → Bool) → List Fact = λ see defined. with_more (facts_seen c.args.facts.now.items) (of_defined see c.args.control (Some c.args.vertex) c.args.span defined (names_seen c.args.scope.now.around.names.items)) in
    c.in_ok-add_defined.ensures
    ∙ ap (λ layers. said (sight layers) (is_said c.in_ok-hidden.hidden)) c.deref-2.ensures.value
    ∙ ap (λ defined. said (sight c.args.scope.now.values.items) defined) (c.in_ok-hidden.ensures.listed ∙ listed-defined (names_seen c.deref.result.now) eqn names)
