use Rattle.std.proofs.Common.{◌∙◌, arith, map, sym}
use Rattle.std.proofs.lemmas.Slice.Eq.{bytes_eq-Decides}
use Rattle.std.specs.String.{string_bytes}
use Rattle.hp_driver.proofs.CallLaws.{first_word, is_named}
use Rattle.hp_driver.proofs.words.are_named.Goals as goal

pub returns-in-len1-up : goal.returns-in-len1-up
returns-in-len1-up c =
    let first = first_word string_bytes c.args.words.now c.command-item.result (omega (arith, c.in-len1-up.len_at_least)) c.command-item.is in
    let named = is_named (string_bytes c.command-item.result) c.args.name.now (map string_bytes c.args.words.now) first in
    let same = bytes_eq-Decides c.as_str.result.now c.args.name.now in
    let word = c.as_str.ensures.value in
    (λ told. named.1 (sym word ∙ same.0 (sym c.eq.ensures ∙ told)), λ is. c.eq.ensures ∙ same.1 (word ∙ named.0 is))
