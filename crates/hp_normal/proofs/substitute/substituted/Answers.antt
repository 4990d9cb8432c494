use Rattle.std.proofs.Common.{◌≡◌, ap, sym, ◌∙◌, not, length, map, rules}
use Rattle.std.specs.List.{filter}
use Rattle.std.proofs.lemmas.List.{length-map}
use Rattle.std.proofs.lemmas.Fn.{filter_same}
use Rattle.hp_normal.specs.Substituting.{is_replaced, read_eqn}
use Rattle.hp_normal.specs.Tables.{stands_at}
use Rattle.hp_normal.proofs.Lists.{written-back}
use Rattle.hp_normal.proofs.substitute.substituted.Goals as goal

pub returns : goal.returns
returns c =
    let r = stands_at c.args.table.now in
    let es = c.args.eqns in
    let made = c.read_eqns.new.eqns in
    let is : made ≡ map (read_eqn r) es.items = c.read_eqns.ensures ∙ ap (map (read_eqn r)) c.deref_mut.ensures.value in
    filter_same _ (λ e. not (is_replaced r e)) _ (λ x b f' k. search rules) _ _ c.retain.ensures.filtered
    ∙ ap (filter (λ e. not (is_replaced r e)))
    (written-back es.items made es.len (sym c.deref_mut.ensures.len ∙ ap length c.deref_mut.ensures.value) (ap length is ∙ length-map es.items (read_eqn r)) ∙ is)
