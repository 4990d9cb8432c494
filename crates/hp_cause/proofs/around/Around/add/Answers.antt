use Rattle.std.proofs.Common.{◌≡◌, ◌∷◌, [], ◌++◌, IfSome, sym, subst, ap, ◌∙◌}
use Rattle.hp_cause.specs.Told.{names_seen}
use Rattle.hp_cause.proofs.GrowLaws.{more-is, names-push}
use Rattle.hp_cause.proofs.around.Around.add.Goals as goal

pub invariant_of-self-2 : goal.invariant_of-self-2
invariant_of-self-2 c =
    let before = names_seen c.args.self.now.names.items in
    let name = c.args.name in
    let grown : names_seen c.push.new.self.items ≡ before ++ name.now ∷ [] =
    ap names_seen c.in_ok-push.ensures.items ∙ names-push c.args.self.now.names.items name ∙ more-is before (name.now ∷ []) in
    let known = subst (λ set. IfSome set (λ few. names_seen few.keys ≡ before)) (sym c.take.ensures.value) c.args.self.now.same in
    record { same = subst (λ names. IfSome c.in_ok-set.set (λ more. names_seen more.keys ≡ names)) (sym grown) (c.in_ok-set.ensures before known) }
