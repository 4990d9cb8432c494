use Rattle.std.proofs.Common.{◌≡◌, ap, sym, ◌∙◌, not, length, map, rules}
use Rattle.std.specs.List.{filter}
use Rattle.std.proofs.lemmas.List.{length-map}
use Rattle.std.proofs.lemmas.Fn.{filter_same}
use Rattle.hp_normal.specs.Retargeting.{is_moved, with_targets}
use Rattle.hp_normal.specs.Tables.{ends_at}
use Rattle.hp_normal.proofs.Lists.{written-back}
use Rattle.hp_normal.proofs.retarget.retargeted.Goals as goal

pub returns : goal.returns
returns c =
    let r = ends_at c.args.table.now in
    let es = c.args.eqns in
    let made = c.retarget_all.new.eqns in
    let is : made ≡ map (with_targets r) es.items = c.retarget_all.ensures ∙ ap (map (with_targets r)) c.deref_mut.ensures.value in
    filter_same _ (λ e. not (is_moved r e)) _ (λ x b f' k. search rules) _ _ c.retain.ensures.filtered
    ∙ ap (filter (λ e. not (is_moved r e)))
    (written-back es.items made es.len (sym c.deref_mut.ensures.len ∙ ap length c.deref_mut.ensures.value) (ap length is ∙ length-map es.items (with_targets r)) ∙ is)
