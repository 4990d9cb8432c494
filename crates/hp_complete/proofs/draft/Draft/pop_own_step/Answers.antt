use Rattle.std.proofs.Common.{◌≡◌, ◌-◌, length, take, ap, ◌∙◌, arith}
use Rattle.hp_complete.specs.Drafts.{place_of}
use Rattle.hp_complete.proofs.PlaceLaws.{popped}
use Rattle.hp_complete.proofs.draft.Draft.pop_own_step.Goals as goal

pub returns-then-len-self-clause-place : goal.returns-then-len-self-clause-place
unfolding place_of
returns-then-len-self-clause-place c =
    let clock = c.args.self.now.clock in
    let many : clock.len ≡ length clock.items = omega (arith, clock.ok.0) in
    popped (place_of c.args.self.now) c.pop.new.self.items (omega (arith, c.len.ensures, many, c.if-len-self.true)) (c.pop.ensures.rest ∙ ap (λ n. take (n - 1) clock.items) many)
