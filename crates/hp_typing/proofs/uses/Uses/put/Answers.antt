use Rattle.std.proofs.Common.{◌≡◌, ℕ, List, Bool, true, false, cond, if◌then◌else◌, Option, Some, unwrap_or, refl, ap, ◌∙◌}
use Rattle.std.proofs.lemmas.Map.Text.{hash_map_updates_str}
use Rattle.std.specs.Str.{bytes_eq}
use Rattle.hp_typing.specs.declared.uses.Use.{Use}
use Rattle.hp_typing.specs.declared.uses.Use.TheVariants.{Never}
use Rattle.hp_typing.specs.Uses.{how, put_at}
use Rattle.hp_typing.proofs.UseMaps.{found}
use Rattle.hp_typing.proofs.uses.Uses.put.Goals as goal

chosen : (d : Bool) (u : Use) (o : Option Use) → unwrap_or (cond d (Some u) o) Never ≡ (if d then u else unwrap_or o Never)
chosen true u o = refl
chosen false u o = refl

pub returns : goal.returns
returns c =
    let text = c.args.name.now in
    let old = c.args.self.now.names in
    let new = c.insert.new.self in
    let one : (x : List ℕ) → how (record { names = new }) x ≡ put_at (how c.args.self.now) text c.args.used x =
    λ x. ap (λ o. unwrap_or o Never) (hash_map_updates_str text old new (Some c.args.used) c.in_ok-insert.ensures.updates x)
    ∙ chosen (bytes_eq text x) c.args.used (found old.entries x) in
    λ j x. one x j
