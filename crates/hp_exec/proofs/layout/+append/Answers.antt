use Rattle.std.proofs.Common.{◌≤◌, ◌++◌, sym, ap, ◌∙◌, length, subst}
use Rattle.std.proofs.lemmas.List.{append-nil, get_or_past}
use Rattle.hp_exec.specs.Layouts.{Layout, no_layout, layouts_of}
use Rattle.hp_exec.proofs.Flows.{length-layouts}
use Rattle.hp_exec.proofs.layout.+append.Goals as goal

pub append_instance-returns-in-None : goal.append_instance-returns-in-None
append_instance-returns-in-None t c =
    let es = c.args.earlier.now in
    let past : length (layouts_of es) ≤ c.args.place.routine = subst (λ n. n ≤ c.args.place.routine) (sym (length-layouts es)) c.in-None.ensures.lookup.3 in
    sym (append-nil c.args.into.now.items) ∙ ap (λ (l : Layout). c.args.into.now.items ++ l.first) (sym (get_or_past (layouts_of es) c.args.place.routine no_layout past))
