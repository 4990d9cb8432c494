use Rattle.std.proofs.Common.{◌≡◌, ◌∙◌, ap, sym, refl, None, true, take, option_copied}
use Rattle.std.specs.FinMap as map
use Rattle.hp_io.specs.Faults.{one_more}
use Rattle.hp_io.specs.Memory.{CalmState, files_of, names_of, readings_of, is_among}
use Rattle.hp_io.proofs.CalmLaws.{not_among, calm_rose}
use Rattle.hp_io.proofs.calm_folder.CalmFolderFolder.read.Goals as goal

pub returns-in_default-clause-cause : goal.returns-in_default-clause-cause
returns-in_default-clause-cause c _ =
    let name = c.args.name.now in
    let inside = c.self.inside in
    let none : map.get (files_of inside.files.items) name ≡ None =
    ap (λ files. map.get (files_of files) name) (sym c.deref.ensures.value) ∙ sym c.held.ensures ∙ ap option_copied c.in_default.is in
    let after : CalmState = record {
      files = files_of inside.files.items;
      made = take inside.made (names_of inside.files.items);
      gave = readings_of inside.gave.items;
      read_faults = c.raise.new.count;
      has_failed = true;
    } in
    calm_rose c.args.self.now after name
    (ap (λ s. is_among s.made name) (sym c.self.view_is) ∙ not_among inside.files.items inside.made name none)
    (ap (λ s. s.made) c.self.view_is)
    (c.raise.ensures.raised ∙ ap (λ s. one_more s.read_faults) c.self.view_is)
    refl
