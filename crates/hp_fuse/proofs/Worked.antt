-- A run of cases that becomes one, also within its arms, and a case that sets its variable.
use Rattle.std.proofs.Common.{◌≡◌, List, [], ◌∷◌, refl}
use Rattle.std.specs.Prelude.{codes}
use Rattle.hp_obc.specs.declared.command.ObcOp.TheVariants.{Copy}
use Rattle.hp_obc.specs.Commands.{Cmd, done, set, case_of, no_arm, more_arms, cmds_of}
use Rattle.hp_fuse.specs.Fusing.{fused_to}

-- what is done where a variable is false, and where it is true
abbrev choice : List Cmd → List Cmd → Cmd
choice at_false at_true = case_of (codes "c") (more_arms (cmds_of at_false) (more_arms (cmds_of at_true) no_arm))

abbrev inner : List Cmd → Cmd
inner at_true = case_of (codes "d") (more_arms done (more_arms (cmds_of at_true) no_arm))

abbrev put_x : Cmd
put_x = set (codes "x") Copy []

abbrev put_y : Cmd
put_y = set (codes "y") Copy []

abbrev put_c : Cmd
put_c = set (codes "c") Copy []

three : fused_to 3 (cmds_of (choice [] (inner (put_x ∷ []) ∷ []) ∷ choice (put_y ∷ []) [] ∷ choice [] (inner (put_y ∷ []) ∷ []) ∷ [])) ≡ cmds_of (choice (put_y ∷ []) (inner (put_x ∷ put_y ∷ []) ∷ []) ∷ [])
three = refl

kept_apart : fused_to 3 (cmds_of (choice [] (put_c ∷ []) ∷ choice [] (put_x ∷ []) ∷ [])) ≡ cmds_of (choice [] (put_c ∷ []) ∷ choice [] (put_x ∷ []) ∷ [])
kept_apart = refl
