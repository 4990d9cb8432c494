use Rattle.std.proofs.Common.{◌≡◌, ◌++◌, length, ap, ◌∙◌, arith}
use Rattle.hp_automata.specs.NewNames.{numbered, word_name, state_word}
use Rattle.hp_automata.proofs.WordLaws.{state-fits}
use Rattle.hp_automata.proofs.new_names.state_word.Goals as goal

pub new-requires : goal.new-requires
new-requires c =
    let w = c.args.word in
    let d = c.args.depth in
    let k = c.args.state in
    let bytes : c.deref.result.now ≡ state_word w d k =
    c.deref.ensures.value ∙ c.in_ok-add_number.ensures ∙ ap (λ x. numbered x k) (c.in_ok-add_word.ensures ∙ ap (λ x. x ++ word_name w d) c.new-bytes.ensures.items) in
    omega (arith, ap length bytes, state-fits w d k)
