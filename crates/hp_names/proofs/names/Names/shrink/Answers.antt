use Rattle.std.proofs.Common.{◌≡◌, ℕ, List, Bor, take, map, sym, ap, ◌∙◌, arith}
use Rattle.std.proofs.lemmas.List.{take-map, take_all}
use Rattle.hp_names.proofs.names.Names.shrink.Goals as goal

pub returns : goal.returns
returns c =
    let text : Bor (List ℕ) → List ℕ = λ k. k.now in
    let keys = c.loop-self.self-inside.texts.keys in
    let all : take c.args.len keys ≡ keys = take_all c.args.len keys (omega arith) in
    ap (map text) (sym all ∙ c.loop-self.invariant) ∙ sym (take-map text c.args.len c.self.inside.texts.keys) ∙ ap (take c.args.len) c.self.view_is
