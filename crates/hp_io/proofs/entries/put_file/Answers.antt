use Rattle.std.proofs.Common.{◌≡◌, ◌∙◌, sym, ap, Some, None}
use Rattle.hp_io.proofs.Placed.{is_named, files_of-set, files_of-push, names_of-set}
use Rattle.std.specs.Prelude.{position}
use Rattle.std.specs.FinMap as map
use Rattle.hp_io.specs.Memory.{files_of}
use Rattle.hp_io.proofs.entries.put_file.Goals as goal

pub returns-in-Some-clause-ok : goal.returns-in-Some-clause-ok
returns-in-Some-clause-ok c =
    let at : position (is_named c.args.name.now) c.args.files.now.items ≡ Some c.in-Some.i =
    ap (position (is_named c.args.name.now)) (sym c.deref.ensures.value) ∙ sym c.place.ensures ∙ c.in-Some.is in
    rw c.index_mut.ensures.value
    (files_of-set c.args.files.now.items c.args.name.now c.in-Some.i c.index_mut.result.now c.in_ok-bytes.bytes at
    ∙ ap (map.insert (files_of c.args.files.now.items) c.args.name.now) c.in_ok-bytes.ensures.items)

pub returns-in_ok-push-in-None-clause-ok : goal.returns-in_ok-push-in-None-clause-ok
returns-in_ok-push-in-None-clause-ok c =
    let at : position (is_named c.args.name.now) c.args.files.now.items ≡ None =
    ap (position (is_named c.args.name.now)) (sym c.deref.ensures.value) ∙ sym c.place.ensures ∙ c.in-None.is in
    ap files_of c.in_ok-push-in-None.ensures.items
    ∙ files_of-push c.args.files.now.items c.args.name.now c.in_ok-from_str-in-None.field-0 c.in_ok-bytes.bytes at c.in_ok-from_str-in-None.ensures.ok
    ∙ ap (map.insert (files_of c.args.files.now.items) c.args.name.now) c.in_ok-bytes.ensures.items

pub returns-in-Some-clause-names : goal.returns-in-Some-clause-names
returns-in-Some-clause-names c =
    let at : position (is_named c.args.name.now) c.args.files.now.items ≡ Some c.in-Some.i =
    ap (position (is_named c.args.name.now)) (sym c.deref.ensures.value) ∙ sym c.place.ensures ∙ c.in-Some.is in
    rw c.index_mut.ensures.value (names_of-set c.args.files.now.items c.args.name.now c.in-Some.i c.index_mut.result.now c.in_ok-bytes.bytes at)
