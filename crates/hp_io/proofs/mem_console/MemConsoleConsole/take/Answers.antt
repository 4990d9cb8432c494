use Rattle.std.proofs.Common.{◌≡◌, ◌∙◌, sym, ap, ◌<◌, drop, length, take}
use Rattle.std.proofs.lemmas.List.{take_rest}
use Rattle.hp_io.proofs.Given.{given_back, none_given, bound_of-positive}
use Rattle.hp_io.proofs.mem_console.MemConsoleConsole.take.Goals as goal

pub returns-clause-left : goal.returns-clause-left
returns-clause-left c =
    let input = c.self.inside.input.items in
    let left : c.args.self.now.left ≡ drop c.self.inside.heard input = ap (λ s. s.left) (sym c.self.view_is) in
    let given : c.front-given.result.now ≡ take c.next_bound-bound.result (drop c.self.inside.heard input) =
    c.front-given.ensures ∙ ap (take c.next_bound-bound.result) (take_rest _ c.self.inside.heard ∙ ap (drop c.self.inside.heard) c.deref-2.ensures.value) in
    left ∙ rw (c.copy_from_slice.ensures.after, given) (given_back input _ c.self.inside.heard c.next_bound-bound.result)

pub returns-clause-end : goal.returns-clause-end
returns-clause-end c none =
    let input = c.self.inside.input.items in
    let left : c.args.self.now.left ≡ drop c.self.inside.heard input = ap (λ s. s.left) (sym c.self.view_is) in
    let given : c.front-given.result.now ≡ take c.next_bound-bound.result (drop c.self.inside.heard input) =
    c.front-given.ensures ∙ ap (take c.next_bound-bound.result) (take_rest _ c.self.inside.heard ∙ ap (drop c.self.inside.heard) c.deref-2.ensures.value) in
    let some : 0 < c.next_bound-bound.result = rw c.next_bound-bound.ensures.bound (bound_of-positive _ _ c.requires.room) in
    left ∙ none_given (drop c.self.inside.heard input) c.next_bound-bound.result some (ap length (sym given) ∙ none)
