use Rattle.std.proofs.Common.{◌≡◌, ◌+◌, ◌≤◌, List, drop, length, sym, ap, subst, ◌∙◌}
use Rattle.hp_diagram.specs.declared.reference.Ref.{Ref}
use Rattle.hp_boolx.specs.Solved.{ranks_of}
use Rattle.hp_synth.specs.Building.{HasEach}
use Rattle.hp_synth.specs.Kept.{AllMean}
use Rattle.hp_synth.specs.Layouts.{place}
use Rattle.hp_synth.specs.Playing.{Ends}
use Rattle.hp_synth.specs.Sought.{rounds}
use Rattle.hp_synth.specs.declared.played.End.TheVariants.{Won, Lost}
use Rattle.hp_synth.proofs.PlayedLaws.{played-many, played-sets-of}
use Rattle.hp_synth.proofs.SoughtLaws.{all-has}
use Rattle.hp_synth.proofs.solving.settle.Goals as goal

pub win-requires-clause-x : goal.win-requires-clause-x
win-requires-clause-x c =
    let p = c.args.played in
    let g = c.requires.0 in
    let ends : Ends g (place p.layout) p.table c.requires.2.count (Won c.in-Won.lost) = subst (Ends g (place p.layout) p.table c.requires.2.count) c.in-Won.is c.requires.2.ends in
    ends.1.has

pub returns-in-Won-clause-solved : goal.returns-in-Won-clause-solved
returns-in-Won-clause-solved c = λ g form is.
    let p = c.args.played in
    let ends : Ends g (place p.layout) p.table is.count (Won c.in-Won.lost) = subst (Ends g (place p.layout) p.table is.count) c.in-Won.is is.ends in
    c.in_ok-verdict-in-Won.ensures.solved g ends.0 ends.1 ends.2

pub behind-ranks-requires : goal.behind-ranks-requires
behind-ranks-requires c =
    subst (λ (rs : List Ref). 5 + c.args.played.layout.counts.registers ≤ length rs) (sym c.deref.ensures.value) (played-many c.requires.0 c.requires.1 c.args.played c.requires.2)

pub lose-requires-clause-ranks : goal.lose-requires-clause-ranks
lose-requires-clause-ranks c =
    let p = c.args.played in
    let g = c.requires.0 in
    let sets = played-sets-of g c.requires.1 p c.requires.2 in
    let at : c.behind-ranks.result.now ≡ drop (5 + p.layout.counts.registers) p.roots.items = c.behind-ranks.ensures ∙ ap (λ (rs : List Ref). drop (5 + p.layout.counts.registers) rs) c.deref.ensures.value in
    subst (λ (rs : List Ref). HasEach p.table rs) (sym at) (all-has p.table (rounds (place p.layout) g c.requires.2.count) (drop (5 + p.layout.counts.registers) p.roots.items) sets)

pub returns-clause-solved : goal.returns-clause-solved
returns-clause-solved c = λ g form is.
    let p = c.args.played in
    let ends : Ends g (place p.layout) p.table is.count Lost = subst (Ends g (place p.layout) p.table is.count) c.in-Lost.is is.ends in
    let sets = played-sets-of g form p is in
    let at : c.behind-ranks.result.now ≡ drop (5 + p.layout.counts.registers) p.roots.items = c.behind-ranks.ensures ∙ ap (λ (rs : List Ref). drop (5 + p.layout.counts.registers) rs) c.deref.ensures.value in
    c.in_ok-verdict-in-Lost.ensures.solved g (ranks_of g is.count) (subst (λ (rs : List Ref). AllMean p.table (rounds (place p.layout) g is.count) rs) (sym at) sets) ends
