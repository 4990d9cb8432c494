use Rattle.std.proofs.Common.{ap, ◌∙◌}
use Rattle.law_equations.specs.Made.Making.{no_entry}
use Rattle.hp_complete.specs.Drafting.{hidden_at, hiding}
use Rattle.hp_complete.specs.Drafts.{place_of}
use Rattle.hp_complete.specs.Names.{names_seen}
use Rattle.hp_complete.specs.Places.{left, sees}
use Rattle.hp_complete.proofs.PlaceLaws.{within-left}
use Rattle.hp_complete.proofs.draft.Draft.hide.Goals as goal

pub returns-clause-back : goal.returns-clause-back
returns-clause-back c =
    let p = place_of c.args.self.now in
    let names = names_seen c.args.names.now in
    ap left (c.in_ok-hide_all.ensures.place ∙ ap (hidden_at names) c.in_ok-open.ensures.place) ∙ within-left (hiding names (sees p) no_entry) p
