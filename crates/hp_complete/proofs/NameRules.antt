-- What the proofs of names use.
use Rattle.hp_complete.proofs.LayerLaws.{drop-end}
use Rattle.hp_complete.proofs.NameLaws.{once-all, find-none, find-some, decl-there, decl-beyond, declares-none, declares-some, path-none, path-some, keeps-none, keeps-some, plain-path}

pub ruleset once = (once-all, drop-end)

pub ruleset locals = (find-none, find-some, decl-there, decl-beyond, declares-none, declares-some, path-none, path-some, keeps-none, keeps-some, plain-path)
