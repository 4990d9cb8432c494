use Rattle.std.proofs.Common.{◌≡◌, take}
use Rattle.hp_expand.specs.Renaming.{renamed_decls}
use Rattle.hp_expand.specs.Replacing.{names_of}
use Rattle.hp_expand.specs.Layers.{said}
use Rattle.hp_expand.proofs.replace.output_names.Given as goal

abbrev pub invariant-loop-output : goal.invariant-loop-output
invariant-loop-output l = l.names.items ≡ names_of (renamed_decls (said l.naming) (take l.output-index l.outputs))
