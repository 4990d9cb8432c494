use Rattle.std.proofs.Common.{◌≡◌, ◌==◌, rules, tests}
use Rattle.std.specs.List.{position}
use Rattle.std.proofs.lemmas.Iterator.{YieldsList-from_slice}
use Rattle.std.proofs.lemmas.Iterator.Search.{position_from_yields_List}
use Rattle.hp_driver.proofs.LineLaws.{first_newline}
use Rattle.hp_driver.proofs.follow.line_length.Goals as goal

pub returns : goal.returns
returns c =
    let found : c.position.result ≡ position (λ b. b == 10) c.args.bytes.now =
    position_from_yields_List (λ b. b == 10) _ _ c.position.result c.position.ensures.ran (YieldsList-from_slice c.args.bytes.now cc) (λ x b q k. search (rules, tests)) in
    first_newline c.args.bytes.now c.position.result found
