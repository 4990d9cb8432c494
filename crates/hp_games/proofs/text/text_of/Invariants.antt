use denote.Text.{Utf8}
use denote.Shadow.{shadow}
use Rattle.hp_games.proofs.text.text_of.Given as goal

abbrev pub invariant-loop : goal.invariant-loop
invariant-loop l = shadow (Utf8 l.rest)
