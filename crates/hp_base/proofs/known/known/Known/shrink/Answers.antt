use Rattle.std.proofs.Common.{◌≡◌, ℕ, List, Bor, take, map, sym, ap, ◌∙◌, arith}
use Rattle.std.proofs.lemmas.List.{take-map, take_all}
use Rattle.hp_base.proofs.KnownLemmas.KnownLaws.{entry_seen}
use Rattle.hp_base.proofs.known.known.Known.shrink.Goals as goal

pub returns : goal.returns
returns g c =
    let key : Bor (List ℕ) → List ℕ = λ k. k.now in
    let value : Bor g.row.T.Denot → g.row.T.Denot = λ r. r.now in
    let entries = c.loop-self.self-inside.entries.entries in
    let all : take c.args.len entries ≡ entries = take_all c.args.len entries (omega arith) in
    ap (map (entry_seen key value)) (sym all ∙ c.loop-self.invariant) ∙ sym (take-map (entry_seen key value) c.args.len c.self.inside.entries.entries)
    ∙ ap (take c.args.len) c.self.view_is
