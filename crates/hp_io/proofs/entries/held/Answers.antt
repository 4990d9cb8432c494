use Rattle.std.proofs.Common.{◌∙◌, sym, ap, Some}
use Rattle.hp_io.proofs.Placed.{get-at_place, get-no_place}
use Rattle.hp_io.proofs.entries.held.Goals as goal

pub returns-in_err-i : goal.returns-in_err-i
returns-in_err-i c = rw c.from_residual.ensures (sym (get-no_place c.args.files.now c.args.name.now (sym c.place.ensures ∙ c.in_err-i.was)))

pub returns : goal.returns
returns c =
    ap Some c.as_slice.ensures.value
    ∙ sym (get-at_place c.args.files.now c.args.name.now c.in_ok-i.i c.index-files-i.result (sym c.place.ensures ∙ c.in_ok-i.was))
