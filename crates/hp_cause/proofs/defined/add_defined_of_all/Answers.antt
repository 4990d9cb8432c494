use Rattle.std.proofs.Common.{◌+◌, ℕ, List, [], Bor, Some, get_or, drop, sym, ap, ◌∙◌}
use Rattle.std.proofs.lemmas.List.{get_or_default}
use Rattle.hp_cause.specs.Gathering.{of_defined}
use Rattle.hp_tables.specs.Defining.Layers.{is_said, sight}
use Rattle.hp_cause.specs.Told.{facts_seen, names_seen, with_more}
use Rattle.hp_cause.proofs.GrowLaws.{next-defined}
use Rattle.hp_cause.proofs.defined.add_defined_of_all.Goals as goal

pub loop-i-preserved : goal.loop-i-preserved
loop-i-preserved c =
    let i = c.loop-i.i in
    let around = c.args.around.now in
    let see = sight c.args.layers.now in
    let said = is_said c.args.hidden.now in
    let name : Bor (List ℕ) = get_or around i (record { ref_ptr = (0, 0); now = [] }) in
    let before = facts_seen c.loop-i.facts.items in
    ap (λ made. with_more made (of_defined see c.args.control (Some c.args.read_by_each) c.args.span said (names_seen (drop (i + 1) around)))) c.in_ok-add_if_defined.ensures
    ∙ sym (next-defined before see c.args.control (Some c.args.read_by_each) c.args.span said around i name c.loop-i-test.true (get_or_default around i (record { ref_ptr = (0, 0); now = [] }) name c.loop-i-test.true))
    ∙ c.loop-i.invariant
