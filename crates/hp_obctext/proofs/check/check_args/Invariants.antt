use Rattle.std.proofs.Common.{◌≡◌, drop}
use Rattle.hp_obctext.specs.Breaches.{after}
use Rattle.hp_obctext.specs.NamesView.{names_seen, maybe_kind_seen}
use Rattle.hp_obctext.specs.Rules.{in_args}
use Rattle.hp_obctext.proofs.check.check_args.Given as goal

abbrev pub invariant-loop-i : goal.invariant-loop-i
invariant-loop-i l =
    after l.found (in_args (names_seen l.names) l.op (maybe_kind_seen l.target) (maybe_kind_seen l.first) l.i (drop l.i l.args))
    ≡ after l.initial.found (in_args (names_seen l.names) l.op (maybe_kind_seen l.target) (maybe_kind_seen l.first) 0 l.args)
