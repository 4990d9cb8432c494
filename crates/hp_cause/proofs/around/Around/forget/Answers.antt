use Rattle.std.proofs.Common.{◌≡◌, ℕ, List, Bor, take, IfSome, sym, subst, ap, ◌∙◌}
use Rattle.std.proofs.lemmas.List.{take-map}
use Rattle.hp_cause.specs.Told.{names_seen}
use Rattle.hp_cause.proofs.around.Around.forget.Goals as goal

pub invariant_of-self : goal.invariant_of-self
invariant_of-self c =
    let before = names_seen c.args.self.now.names.items in
    let kept : names_seen c.truncate.new.self.items ≡ take c.args.count before =
    ap names_seen c.truncate.ensures.items ∙ sym (take-map (λ (x : Bor (List ℕ)). x.now) c.args.count c.args.self.now.names.items) in
    let known = subst (λ set. IfSome set (λ all. names_seen all.keys ≡ before)) (sym c.take-set.ensures.value) c.args.self.now.same in
    record { same = subst (λ names. IfSome c.first_names.result (λ few. names_seen few.keys ≡ names)) (sym kept) (c.first_names.ensures before known) }
