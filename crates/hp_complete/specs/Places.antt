-- Where one stands in a program while the equations of a node are made.
use Rattle.std.specs.Prelude.{ℕ, ◌-◌, List, [], ◌∷◌, length, take, Option, None, Some}
use Rattle.law_equations.specs.Made.Making.{Known, Layer, Sight, Site, no_entry, base_site, over, on_site}
use Rattle.hp_complete.specs.Layers.{sight}

-- what is known of the program; what names stand for in the innermost block or control equation, and around it, the innermost first; and where equations are made
pub record Place : Type 0 where
  pub known : Known
  pub around : List Layer
  pub own : Layer
  pub site : Site

abbrev pub start : Known → Place
start k = record { known = k; around = []; own = no_entry; site = base_site }

-- ---- what names stand for

abbrev pub sees : Place → Sight
sees p = over p.own (sight p.around)

-- outside of the block or control equation
abbrev pub sees_around : Place → Sight
sees_around p = sight p.around

abbrev pub others : List Layer → List Layer
others [] = []
others (l ∷ ls) = ls

-- outside of the control equation in whose block this place is
abbrev pub sees_beyond : Place → Sight
sees_beyond p = sight (others p.around)

-- ---- other places

abbrev pub saying : Layer → Place → Place
saying l p = record { known = p.known; around = p.around; own = l; site = p.site }

abbrev pub at_site : Site → Place → Place
at_site s p = record { known = p.known; around = p.around; own = p.own; site = s }

-- in a layer inside of the own one
abbrev pub within : Layer → Place → Place
within l p = record { known = p.known; around = p.own ∷ p.around; own = l; site = p.site }

abbrev left_for : List Layer → Place → Place
left_for [] p = p
left_for (l ∷ ls) p = record { known = p.known; around = ls; own = l; site = p.site }

-- ---- and back: outside of the own layer; with so many steps of the clock; with so many steps that are the block's own; without the innermost restart

unfoldable pub left : Place → Place
left p = left_for p.around p

unfoldable pub at_depth : ℕ → Place → Place
at_depth n p = at_site (record { clock = take n p.site.clock; base = p.site.base; restart = p.site.restart }) p

unfoldable pub at_base : ℕ → Place → Place
at_base n p = at_site (record { clock = p.site.clock; base = n; restart = p.site.restart }) p

unfoldable pub unrestarted : Place → Place
unrestarted p = at_site (record { clock = p.site.clock; base = p.site.base; restart = take (length p.site.restart - 1) p.site.restart }) p

abbrev pub depth : Place → ℕ
depth p = length p.site.clock

-- back on a step of the clock that was left
unfoldable pub back_on : Option (ℕ × ℕ) → Place → Place
back_on None p = p
back_on (Some step) p = at_site (on_site p.site step.0 step.1) p
