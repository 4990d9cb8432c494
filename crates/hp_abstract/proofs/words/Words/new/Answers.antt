use Rattle.std.proofs.Common.{◌≡◌, length, map, ap, ◌∙◌}
use Rattle.hp_tree.specs.Blocks.{states_of}
use Rattle.hp_tree.specs.BlockView.{state_seen}
use Rattle.hp_drawing.specs.Planned.{count_states}
use Rattle.hp_drawing.specs.Places.{new_lines, put_numbers}
use Rattle.hp_drawing.specs.Seen.{sketch_of}
use Rattle.hp_abstract.specs.Seen.{numbers_in}
use Rattle.hp_abstract.proofs.NameLaws.{states-counted}
use Rattle.hp_abstract.proofs.words.Words.new.Goals as goal

pub returns-clause-sketch : goal.returns-clause-sketch
returns-clause-sketch c =
    let states = c.args.states.now in
    let count : length states ≡ count_states (states_of (map state_seen states)) = states-counted states in
    c.in_ok-lines.ensures.sketch ∙ ap (λ n. (new_lines n c.args.place (sketch_of c.args.draft.now)).1) count

pub returns-clause-lines : goal.returns-clause-lines
returns-clause-lines c =
    let states = c.args.states.now in
    let count : length states ≡ count_states (states_of (map state_seen states)) = states-counted states in
    c.in_ok-lines.ensures.lines ∙ ap (λ n. (new_lines n c.args.place (sketch_of c.args.draft.now)).0) count

pub returns-clause-numbers : goal.returns-clause-numbers
unfolding numbers_in
returns-clause-numbers c =
    let states = states_of (map state_seen c.args.states.now) in
    c.in_ok-add_numbers.ensures ∙ ap (λ f. put_numbers 0 states f) c.new-numbers.ensures
