use Rattle.std.proofs.Common.{◌≡◌, ℕ, List, Bool, true, false, cond, if◌then◌else◌, Option, Some, unwrap_or, refl, ap, ◌∙◌}
use Rattle.std.proofs.lemmas.Map.Text.{hash_map_updates_str}
use Rattle.std.specs.Map.{lookup}
use Rattle.std.specs.Str.{bytes_eq}
use Rattle.hp_expand.specs.Sizes.{Size, none, with_node}
use Rattle.hp_expand.specs.Tables.{size_in}
use Rattle.hp_expand.proofs.table.Sizes.put.Goals as goal

chosen : (d : Bool) (s : Size) (o : Option Size) → unwrap_or (cond d (Some s) o) none ≡ (if d then s else unwrap_or o none)
chosen true s o = refl
chosen false s o = refl

pub returns : goal.returns
returns c =
    let text = c.bytes.result.now in
    let old = c.args.self.now.names in
    let new = c.insert.new.self in
    let one : (x : List ℕ) → size_in (record { names = new }) x ≡ with_node (size_in c.args.self.now) text c.args.size x =
    λ x. ap (λ o. unwrap_or o none) (hash_map_updates_str text old new (Some c.args.size) c.in_ok-insert.ensures.updates x)
    ∙ chosen (bytes_eq text x) c.args.size (lookup (λ k. bytes_eq x k.now) old.entries) in
    let all : size_in (record { names = new }) ≡ with_node (size_in c.args.self.now) text c.args.size = λ j x. one x j in
    all ∙ ap (λ y. with_node (size_in c.args.self.now) y c.args.size) c.bytes.ensures.bytes
