use Rattle.std.proofs.Common.{◌≡◌, ◌∙◌, rules, arith, map, take, drop, [], ◌∷◌, ap, sym, codes, length, ◌-◌}
use Rattle.std.proofs.lemmas.Result.{IfOk-weaker}
use Rattle.std.specs.String.{string_bytes}
use Rattle.hp_driver.proofs.OutcomeLaws.{three}
use Rattle.hp_driver.proofs.CallLaws.{but_first, but_last, with_print_before, with_print_behind}
use Rattle.hp_driver.proofs.words.printing_check.Goals as goal

pub returns-then-eq : goal.returns-then-eq
returns-then-eq c =
    let words = c.args.words.now in
    let first = string_bytes c.first-item.result in
    let check : c.as_str.result.now ≡ codes "check" = search rules in
    let print : c.as_str-2.result.now ≡ codes "--print" = search rules in
    let are : map string_bytes words ≡ codes "check" ∷ first ∷ codes "--print" ∷ [] =
    three string_bytes words c.command-item.result c.first-item.result c.second-item.result (omega arith) c.command-item.is c.first-item.is c.second-item.is
    ∙ ap (λ w. w ∷ first ∷ string_bytes c.second-item.result ∷ []) (sym c.as_str.ensures.value ∙ check)
    ∙ ap (λ w. codes "check" ∷ first ∷ w ∷ []) (sym c.as_str-2.ensures.value ∙ print) in
    let behind = but_last string_bytes words c.first-item.result (omega arith) c.first-item.is in
    IfOk-weaker c.one_argument.result _ _ (λ found is. with_print_behind (map string_bytes words) (map string_bytes (take 2 words)) first behind are found is) c.one_argument.ensures

pub returns-then-eq-2 : goal.returns-then-eq-2
returns-then-eq-2 c =
    let words = c.args.words.now in
    let second = string_bytes c.second-item.result in
    let check : c.as_str.result.now ≡ codes "check" = search rules in
    let print : c.as_str-3.result.now ≡ codes "--print" = search rules in
    let are : map string_bytes words ≡ codes "check" ∷ codes "--print" ∷ second ∷ [] =
    three string_bytes words c.command-item.result c.first-item.result c.second-item.result (omega arith) c.command-item.is c.first-item.is c.second-item.is
    ∙ ap (λ w. w ∷ string_bytes c.first-item.result ∷ second ∷ []) (sym c.as_str.ensures.value ∙ check)
    ∙ ap (λ w. codes "check" ∷ w ∷ second ∷ []) (sym c.as_str-3.ensures.value ∙ print) in
    let behind = but_first string_bytes words c.second-item.result (omega arith) c.second-item.is in
    IfOk-weaker c.one_argument-then-eq-2.result _ _ (λ found is. with_print_before (map string_bytes words) (map string_bytes (take (length words - 1) (drop 1 words))) second behind are found is) c.one_argument-then-eq-2.ensures
