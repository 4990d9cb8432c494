use Rattle.std.proofs.Common.{ap, ◌∙◌, List, ℕ, map}
use denote.Ref.{Bor}
use Rattle.hp_exec.proofs.SetLaws.{insert-new}
use Rattle.hp_exec.proofs.names.add.Goals as goal

pub returns : goal.returns
returns c = ap (λ ks. map (λ (k : Bor (List ℕ)). k.now) ks) c.in_ok-insert.ensures.keys ∙ insert-new c.args.names.now.keys c.bytes.result c.args.name.now c.bytes.ensures.bytes c.requires
