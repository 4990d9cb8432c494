use Rattle.std.proofs.Common.{ℕ, map, sym, subst, ◌∙◌}
use Rattle.hp_boolx.specs.Machine.{game}
use Rattle.hp_synth.specs.Layouts.{place, IsLayout}
use Rattle.hp_synth.specs.Sought.{base_at}
use Rattle.hp_synth.specs.Valued.{OfState}
use Rattle.hp_synth.proofs.SoughtLaws.{all-has, all-keeps}
use Rattle.hp_play.proofs.losing.field_of.Goals as goal

pub placed-requires-clause-has : goal.placed-requires-clause-has
placed-requires-clause-has c =
    let fs = map (OfState (game c.args.m.now)) c.requires.ranks.0 in
    all-has c.prepare.new.t fs c.args.ranks.now (all-keeps c.args.t.now c.prepare.new.t fs c.args.ranks.now c.prepare.ensures.keeps c.requires.ranks.1)

pub returns-clause-field : goal.returns-clause-field
returns-clause-field c =
    let g = game c.args.m.now in
    let fs = map (OfState g) c.requires.ranks.0 in
    let layout = c.in_ok-layout.layout in
    record {
      layout = subst (λ (n : ℕ). IsLayout n layout) (sym (c.placed.ensures.keeps.vars ∙ c.prepare.ensures.keeps.vars ∙ c.requires.vars)) c.in_ok-layout.ensures.layout;
      counts = c.in_ok-layout.ensures.counts;
      roots = all-keeps c.prepare.new.t c.placed.new.t (base_at (place layout) g) c.in_ok-roots.roots.items c.placed.ensures.keeps c.in_ok-roots.ensures.ok;
      sets = c.requires.ranks.0;
      ranks = c.in_ok-ranks.ensures.ok fs (all-keeps c.args.t.now c.prepare.new.t fs c.args.ranks.now c.prepare.ensures.keeps c.requires.ranks.1);
      lose = c.requires.ranks.2;
    }
