use Rattle.std.proofs.Common.{◌≡◌, ◌+◌, ◌<◌, ◌++◌, ◌∷◌, [], ℕ, List, take, length, get_or, sym, subst, rules}
use Rattle.std.proofs.lemmas.List.{take_more}
use Rattle.hp_diagram.specs.declared.reference.Ref.{Ref}
use Rattle.hp_synth.specs.Rooted.{AreAt}
use Rattle.hp_synth.proofs.RootLaws.{at-next}
use Rattle.hp_synth.proofs.sweep.at_keys.Goals as goal

pub loop-i-preserved : goal.loop-i-preserved
loop-i-preserved c =
    let slab = c.args.slab.now in
    let keys = c.args.keys.now in
    let i = c.loop-i.i in
    let within : i < length keys = search rules in
    let more : take (i + 1) keys ≡ take i keys ++ get_or keys i 0 ∷ [] = take_more keys i 0 within in
    subst (λ (ks : List ℕ). AreAt slab ks c.push.new.self.items) (sym more)
    (subst (λ (rs : List Ref). AreAt slab (take i keys ++ get_or keys i 0 ∷ []) rs) (sym c.in_ok-push.ensures.items) (at-next slab (take i keys) c.loop-i.refs.items (get_or keys i 0) c.index.result.now c.loop-i.invariant c.index.ensures))
