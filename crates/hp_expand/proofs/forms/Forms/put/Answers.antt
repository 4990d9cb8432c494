use Rattle.std.proofs.Common.{◌≡◌, ℕ, List, Bool, true, false, cond, if◌then◌else◌, Option, Some, unwrap_or, refl, ap, ◌∙◌}
use Rattle.std.proofs.lemmas.Map.Text.{hash_map_updates_str}
use Rattle.std.specs.Map.{lookup}
use Rattle.std.specs.Str.{bytes_eq}
use Rattle.hp_expand.specs.Shapes.{Form, no_form, with_form}
use Rattle.hp_expand.specs.Tables.{form_in}
use Rattle.hp_expand.proofs.forms.Forms.put.Goals as goal

chosen : (d : Bool) (s : Form) (o : Option Form) → unwrap_or (cond d (Some s) o) no_form ≡ (if d then s else unwrap_or o no_form)
chosen true s o = refl
chosen false s o = refl

pub returns : goal.returns
returns c =
    let text = c.bytes.result.now in
    let old = c.args.self.now.names in
    let new = c.insert.new.self in
    let one : (x : List ℕ) → form_in (record { names = new }) x ≡ with_form (form_in c.args.self.now) text c.args.form x =
    λ x. ap (λ o. unwrap_or o no_form) (hash_map_updates_str text old new (Some c.args.form) c.in_ok-insert.ensures.updates x)
    ∙ chosen (bytes_eq text x) c.args.form (lookup (λ k. bytes_eq x k.now) old.entries) in
    let all : form_in (record { names = new }) ≡ with_form (form_in c.args.self.now) text c.args.form = λ j x. one x j in
    all ∙ ap (λ y. with_form (form_in c.args.self.now) y c.args.form) c.bytes.ensures.bytes
