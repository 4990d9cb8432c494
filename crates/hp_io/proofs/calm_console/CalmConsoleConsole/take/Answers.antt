use Rattle.std.proofs.Common.{◌≡◌, ◌∙◌, sym, ap, drop, length, take}
use Rattle.std.proofs.lemmas.List.{take_rest}
use Rattle.hp_io.proofs.Given.{given_back, none_given}
use Rattle.hp_io.proofs.calm_console.CalmConsoleConsole.take.Goals as goal

pub returns-clause-left : goal.returns-clause-left
returns-clause-left c =
    let input = c.self.inside.input.items in
    let most = length c.args.into.now in
    let given : c.front-given.result.now ≡ take most (drop c.self.inside.heard input) =
    c.front-given.ensures ∙ ap (take most) (take_rest _ c.self.inside.heard ∙ ap (drop c.self.inside.heard) c.deref.ensures.value) in
    sym c.self.view_is ∙ rw (c.copy_from_slice.ensures.after, given) (given_back input _ c.self.inside.heard most)

pub returns-clause-end : goal.returns-clause-end
returns-clause-end c none =
    let input = c.self.inside.input.items in
    let most = length c.args.into.now in
    let given : c.front-given.result.now ≡ take most (drop c.self.inside.heard input) =
    c.front-given.ensures ∙ ap (take most) (take_rest _ c.self.inside.heard ∙ ap (drop c.self.inside.heard) c.deref.ensures.value) in
    sym c.self.view_is ∙ none_given (drop c.self.inside.heard input) most c.requires.room (ap length (sym given) ∙ none)
