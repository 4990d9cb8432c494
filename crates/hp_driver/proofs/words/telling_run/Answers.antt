use Rattle.std.proofs.Common.{◌≡◌, ◌∙◌, rules, arith, map, [], ◌∷◌, ap, sym, subst, codes}
use Rattle.std.specs.String.{string_bytes}
use Rattle.hp_driver.specs.Commanded.{AreBoth}
use Rattle.hp_driver.proofs.TellLaws.{four, told_behind, told_between, told_before}
use Rattle.hp_driver.proofs.words.telling_run.Goals as goal

pub returns-then-eq : goal.returns-then-eq
returns-then-eq c =
    let words = c.args.words.now in
    let first = string_bytes c.first-item.result in
    let second = string_bytes c.second-item.result in
    let third = string_bytes c.third-item.result in
    let run : c.as_str.result.now ≡ codes "run" = search rules in
    let option : c.as_str-2.result.now ≡ codes "--contract" = search rules in
    let are : map string_bytes words ≡ codes "run" ∷ first ∷ second ∷ third ∷ [] =
    four string_bytes words c.command-item.result c.first-item.result c.second-item.result c.third-item.result (omega arith) c.command-item.is c.first-item.is c.second-item.is c.third-item.is
    ∙ ap (λ w. w ∷ first ∷ second ∷ third ∷ []) (sym c.as_str.ensures.value ∙ run) in
    let both = subst (λ w. AreBoth w second c.file_and_node.result) c.as_str-then-eq.ensures.value (subst (λ w. AreBoth c.as_str-then-eq.result.now w c.file_and_node.result) c.as_str-then-eq-2.ensures.value c.file_and_node.ensures) in
    told_behind (map string_bytes words) first second third are (sym c.as_str-2.ensures.value ∙ option) c.file_and_node.result both

pub returns-then-eq-2 : goal.returns-then-eq-2
returns-then-eq-2 c =
    let words = c.args.words.now in
    let first = string_bytes c.first-item.result in
    let second = string_bytes c.second-item.result in
    let third = string_bytes c.third-item.result in
    let run : c.as_str.result.now ≡ codes "run" = search rules in
    let option : c.as_str-3.result.now ≡ codes "--contract" = search rules in
    let are : map string_bytes words ≡ codes "run" ∷ first ∷ second ∷ third ∷ [] =
    four string_bytes words c.command-item.result c.first-item.result c.second-item.result c.third-item.result (omega arith) c.command-item.is c.first-item.is c.second-item.is c.third-item.is
    ∙ ap (λ w. w ∷ first ∷ second ∷ third ∷ []) (sym c.as_str.ensures.value ∙ run) in
    let both = subst (λ w. AreBoth w third c.file_and_node-then-eq-2.result) c.as_str-then-eq-2-2.ensures.value (subst (λ w. AreBoth c.as_str-then-eq-2-2.result.now w c.file_and_node-then-eq-2.result) c.as_str-then-eq-2-3.ensures.value c.file_and_node-then-eq-2.ensures) in
    told_between (map string_bytes words) first second third are (sym c.as_str-3.ensures.value ∙ option) c.file_and_node-then-eq-2.result both

pub returns-then-eq-3 : goal.returns-then-eq-3
returns-then-eq-3 c =
    let words = c.args.words.now in
    let first = string_bytes c.first-item.result in
    let second = string_bytes c.second-item.result in
    let third = string_bytes c.third-item.result in
    let run : c.as_str.result.now ≡ codes "run" = search rules in
    let option : c.as_str-4.result.now ≡ codes "--contract" = search rules in
    let are : map string_bytes words ≡ codes "run" ∷ first ∷ second ∷ third ∷ [] =
    four string_bytes words c.command-item.result c.first-item.result c.second-item.result c.third-item.result (omega arith) c.command-item.is c.first-item.is c.second-item.is c.third-item.is
    ∙ ap (λ w. w ∷ first ∷ second ∷ third ∷ []) (sym c.as_str.ensures.value ∙ run) in
    let both = subst (λ w. AreBoth w third c.file_and_node-then-eq-3.result) c.as_str-then-eq-3.ensures.value (subst (λ w. AreBoth c.as_str-then-eq-3.result.now w c.file_and_node-then-eq-3.result) c.as_str-then-eq-3-2.ensures.value c.file_and_node-then-eq-3.ensures) in
    told_before (map string_bytes words) first second third are (sym c.as_str-4.ensures.value ∙ option) c.file_and_node-then-eq-3.result both
