use Rattle.std.proofs.Common.{◌≡◌, ◌++◌, length, ap, ◌∙◌, arith}
use Rattle.hp_automata.specs.NewNames.{letters, digits, value_name}
use Rattle.hp_automata.proofs.WordLaws.{value-fits}
use Rattle.hp_automata.proofs.new_names.value_name.Goals as goal

pub new-requires : goal.new-requires
new-requires c =
    let d = c.args.depth in
    let k = c.args.state in
    let x = c.args.text.now in
    let bytes : c.deref.result.now ≡ value_name d k x =
    c.deref.ensures.value ∙ c.in_ok-add_digits.ensures ∙ ap (λ b. b ++ digits k) (c.in_ok-add_letters.ensures ∙ ap (λ b. b ++ letters d) c.in_ok-bytes.ensures) in
    omega (arith, ap length bytes, value-fits d k x)
