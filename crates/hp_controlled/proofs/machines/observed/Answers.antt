use Rattle.std.proofs.Common.{rules, ◌≡◌, List, map, ap, subst, ◌∙◌}
use Rattle.std.specs.Prelude.{IfErr}
use Rattle.hp_tables.specs.Declarations.Tables.{numbered, said_in}
use Rattle.hp_tree.specs.declared.program.Item.{Item}
use Rattle.hp_watch.specs.Watching.{observer_seen}
use Rattle.hp_controlled.specs.Compiled.{contracts_of, names_with_contracts, observed_all}
use Rattle.hp_controlled.specs.Lacking.{FitContracts, SaysNotBuilt}
use Rattle.hp_controlled.specs.Lacking.LacksObservers.{unfitting}
use Rattle.hp_controlled.proofs.ChoosingLaws.{says_more}
use Rattle.hp_controlled.proofs.CompiledLaws.{by_number_of}
use Rattle.hp_controlled.proofs.machines.observed.Goals as goal

pub returns-in_err-all-clause-lacking : goal.returns-in_err-all-clause-lacking
returns-in_err-all-clause-lacking c =
    let flats = c.in_ok-flats.flats.items in
    let same : c.deref.result.now ≡ c.args.program.now = search rules in
    let said : IfErr c.from_residual-in_err-all.result (SaysNotBuilt (FitContracts (contracts_of c.deref.result.now) flats → ⊥)) = search rules in
    says_more c.from_residual-in_err-all.result _ _ (λ not. unfitting flats c.in_ok-flats.ensures.equations (subst (λ (items : List Item). FitContracts (contracts_of items) flats → ⊥) same not)) said

pub returns-clause-observed : goal.returns-clause-observed
returns-clause-observed c =
    let program = c.args.program.now in
    let flats = c.in_ok-flats.flats.items in
    let same : c.deref.result.now ≡ program = search rules in
    let same_names : c.deref-2.result.now ≡ program = search rules in
    let names : map (λ x. x.now) c.in_ok-names.names.items ≡ names_with_contracts program = c.in_ok-names.ensures ∙ ap names_with_contracts same_names in
    let told : said_in c.in_ok-numbers_of.field-0 ≡ numbered 0 (names_with_contracts program) =
    c.in_ok-numbers_of.ensures ∙ ap (λ xs. numbered 0 (map (λ x. x.now) xs)) c.deref-3.ensures.value ∙ ap (λ (xs : List _). numbered 0 xs) names in
    let all : map observer_seen c.in_ok-all.all.items ≡ observed_all (contracts_of program) flats = c.in_ok-all.ensures.observers ∙ ap (λ items. observed_all (contracts_of items) flats) same in
    record {
      nodes = flats;
      equations = c.in_ok-flats.ensures.equations;
      are = by_number_of c.in_ok-all.all.items (said_in c.in_ok-numbers_of.field-0) (names_with_contracts program) (observed_all (contracts_of program) flats) told all;
    }
