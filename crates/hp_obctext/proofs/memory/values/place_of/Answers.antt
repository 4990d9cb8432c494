use Rattle.std.proofs.Common.{◌≡◌, sym, ◌∙◌, rules, tests}
use Rattle.std.specs.Str.{bytes_eq}
use Rattle.std.specs.List.{position}
use Rattle.std.proofs.lemmas.Iterator.{YieldsList-from_slice}
use Rattle.std.proofs.lemmas.Iterator.Search.{position_from_yields_List}
use Rattle.hp_obctext.proofs.memory.values.place_of.Goals as goal

pub returns-in_err-number : goal.returns-in_err-number
returns-in_err-number c =
    let found : c.position.result ≡ position (bytes_eq c.args.word.now) c.args.names.now =
    position_from_yields_List (bytes_eq c.args.word.now) _ _ c.position.result c.position.ensures.ran (YieldsList-from_slice c.args.names.now cc) (λ x b q k. search (rules, tests)) in
    c.from_residual.ensures ∙ sym c.in_err-number.was ∙ found

pub returns : goal.returns
returns c =
    let found : c.position.result ≡ position (bytes_eq c.args.word.now) c.args.names.now =
    position_from_yields_List (bytes_eq c.args.word.now) _ _ c.position.result c.position.ensures.ran (YieldsList-from_slice c.args.names.now cc) (λ x b q k. search (rules, tests)) in
    sym c.in_ok-number.was ∙ found
