use Rattle.std.proofs.Common.{◌≡◌, ℕ, ◌<◌, sym, ap, arith}
use Rattle.hp_base.specs.declared.limit.Limit.{Limit}
use Rattle.hp_base.specs.declared.limit.What.TheVariants as what
use Rattle.hp_clocks.proofs.solved.check_length.Goals as goal

pub returns-then-found-most-clause-long : goal.returns-then-found-most-clause-long
returns-then-found-most-clause-long c =
    let more : 64 < c.longest-found.result = omega (arith, c.most.ensures, c.if-found-most.true) in
    let found : c.longest-found.result ≡ 65 = omega (arith, more, c.longest-found.ensures.at_most) in
    let limit : ℕ → Limit = λ k. record { what = what.Clock; found = k } in
    (sym c.in_ok-copy.ensures, ap limit found, λ n h d. (c.longest-found.ensures.long n h d).0 more)

pub returns-clause-short : goal.returns-clause-short
returns-clause-short c =
    λ n h d l.
    let more : 64 < c.longest-found.result = (c.longest-found.ensures.long n h d).1 l in
    absurd (omega (arith, more, c.most.ensures, c.if-found-most.false))
