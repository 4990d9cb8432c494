-- The commands that read the words of a call, as clap's words say it.
use Rattle.std.specs.Prelude.{true, codes}
use Rattle.clap.specs.Walk.{Rule, Text}
use Rattle.clap.specs.Simple.{App, new_app, new_rule, on_top, with_rule}

-- an argument that has to be there
abbrev pub needed : Text → Rule
needed id = record (new_rule id) { required = true }

-- a command with no option, not even one that asks for help
abbrev pub bare : App
bare = on_top (λ s. record s { disable_help_flag = true }) (new_app (codes "command"))

-- a command with one argument
abbrev pub with_one : App
with_one = with_rule bare (needed (codes "argument"))

-- a command with two arguments
abbrev pub with_both : App
with_both = with_rule (with_rule bare (needed (codes "first"))) (needed (codes "second"))

-- a command with three arguments
abbrev pub with_three : App
with_three = with_rule with_both (needed (codes "third"))
