-- What is known of a machine whose rounds are over.
use Rattle.std.proofs.Common.{◌+◌, ◌<◌, ◌≤◌, ◌++◌, length, drop, subst, arith}
use Rattle.hp_diagram.specs.Diagrams.{zero_ref}
use Rattle.hp_boolx.specs.Game.{Game, IsForm}
use Rattle.hp_quant.specs.Replacements.{HasAll}
use Rattle.hp_synth.specs.declared.played.Played.{Played}
use Rattle.hp_synth.specs.Building.{HasEach}
use Rattle.hp_synth.specs.Kept.{AllMean}
use Rattle.hp_synth.specs.Layouts.{place}
use Rattle.hp_synth.specs.Playing.{IsPlayed}
use Rattle.hp_synth.specs.Rounds.{AreSets, sets_in}
use Rattle.hp_synth.specs.Sought.{base_at, rounds}
use Rattle.hp_synth.proofs.CourseLaws.{course-has-all}
use Rattle.hp_synth.proofs.SearchSteps.{all-behind, base_at-len, roots-within}
use Rattle.hp_synth.proofs.SoughtLaws.{all-has, are-sets}

module _ (g : Game) (form : IsForm g) (p : Played) (is : IsPlayed g p) where
  pub played-many : 5 + p.layout.counts.registers ≤ length p.roots.items
  played-many = subst (λ k. 5 + k ≤ length p.roots.items) is.counts.0 (roots-within (place p.layout) g form p.table p.roots.items is.count is.all_mean)

  pub played-five : 5 ≤ length p.roots.items
  played-five = omega (arith, played-many)

  pub played-has : HasEach p.table p.roots.items
  played-has = all-has p.table (base_at (place p.layout) g ++ rounds (place p.layout) g is.count) p.roots.items is.all_mean

  pub played-all : HasAll p.table p.course.by.items
  played-all = course-has-all p.table p.layout p.roots.items p.course is.layout played-has played-many is.course

  pub played-sets : AreSets (place p.layout) p.table (sets_in p.roots.items) p.course.by.items g
  played-sets =
      are-sets g form (place p.layout) p.table p.roots.items (rounds (place p.layout) g is.count) p.course.by.items zero_ref is.all_mean
      (λ k l. is.course.registers_are k (subst (λ n. k < n) is.counts.0 l))

  -- the sets of the rounds stand behind the gates
  pub played-sets-of : AllMean p.table (rounds (place p.layout) g is.count) (drop (5 + p.layout.counts.registers) p.roots.items)
  played-sets-of =
      subst (λ k. AllMean p.table (rounds (place p.layout) g is.count) (drop (5 + k) p.roots.items)) is.counts.0
      (all-behind p.table (base_at (place p.layout) g) (rounds (place p.layout) g is.count) p.roots.items (5 + g.registers) is.all_mean (base_at-len (place p.layout) g))
