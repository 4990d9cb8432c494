use Rattle.std.proofs.Common.{◌++◌, ◌∷◌, [], List, ℕ, sym, subst}
use Rattle.hp_synth.specs.Rooted.{AreRooted}
use Rattle.hp_synth.proofs.RootLaws.{rooted-more}
use Rattle.hp_synth.proofs.sweep.add_root.Goals as goal

pub returns : goal.returns
returns c = λ refs h.
    let key = c.in-Ok.key in
    subst (λ (keys : List ℕ). AreRooted c.insert.new.self keys (refs ++ c.args.r ∷ [])) (sym c.in_ok-push-in-Ok.ensures.items)
    (rooted-more c.args.roots.now.slab c.insert.new.self key c.args.r c.in-Ok.ensures.updates c.in-Ok.ensures.was_vacant c.args.roots.now.keys.items refs h)
