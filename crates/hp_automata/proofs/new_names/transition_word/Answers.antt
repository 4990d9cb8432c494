use Rattle.std.proofs.Common.{◌≡◌, ◌++◌, length, ap, ◌∙◌, arith}
use Rattle.hp_automata.specs.NewNames.{numbered, word_name, transition_word}
use Rattle.hp_automata.proofs.WordLaws.{transition-fits}
use Rattle.hp_automata.proofs.new_names.transition_word.Goals as goal

pub new-requires : goal.new-requires
new-requires c =
    let w = c.args.word in
    let d = c.args.depth in
    let k = c.args.state in
    let j = c.args.number in
    let state = c.in_ok-add_number.ensures ∙ ap (λ x. numbered x k) (c.in_ok-add_word.ensures ∙ ap (λ x. x ++ word_name w d) c.new-bytes.ensures.items) in
    let bytes : c.deref.result.now ≡ transition_word w d k j = c.deref.ensures.value ∙ c.in_ok-add_number-2.ensures ∙ ap (λ x. numbered x j) state in
    omega (arith, ap length bytes, transition-fits w d k j)
