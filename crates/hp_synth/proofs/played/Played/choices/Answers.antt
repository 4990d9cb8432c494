use Rattle.std.proofs.Common.{◌≤◌, List, length, sym, ap, subst, ◌∙◌}
use Rattle.hp_diagram.specs.declared.reference.Ref.{Ref}
use Rattle.hp_diagram.specs.Diagrams.{Means}
use Rattle.hp_boolx.specs.Game.{valid_choice}
use Rattle.hp_synth.specs.Layouts.{place}
use Rattle.hp_synth.specs.Rounds.{sets_in}
use Rattle.hp_synth.specs.declared.rounds.Sets.{Sets}
use Rattle.hp_synth.specs.Valued.{over, OfChoice}
use Rattle.hp_synth.proofs.PlayedLaws.{played-five, played-sets}
use Rattle.hp_synth.proofs.played.Played.choices.Goals as goal

pub sets_of-requires : goal.sets_of-requires
sets_of-requires c = subst (λ (rs : List Ref). 5 ≤ length rs) (sym c.deref.ensures.value) (played-five c.requires.0 c.requires.1 c.args.self.now c.requires.2)

pub returns : goal.returns
returns c = λ g form is.
    let same = c.sets_of.ensures ∙ ap sets_in c.deref.ensures.value in
    subst (λ (s : Sets). Means c.args.self.now.table (over (place c.args.self.now.layout) (OfChoice g (valid_choice g))) s.choices) (sym same) (played-sets g form c.args.self.now is).choices
