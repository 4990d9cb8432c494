use Rattle.std.proofs.Common.{inl, inr, refl, rules}
use Rattle.hp_driver.specs.Leaving.{WritesText}
use Rattle.hp_driver.proofs.source.write_text.Goals as goal

pub returns-in-Ok-clause-leaves : goal.returns-in-Ok-clause-leaves
returns-in-Ok-clause-leaves g c = WritesText.whole (search rules)

pub returns-in-Err-Failed-clause-leaves : goal.returns-in-Err-Failed-clause-leaves
returns-in-Err-Failed-clause-leaves g c = WritesText.part (inl refl) (search rules) (search rules)

pub returns-in-Err-OutOfMemory-clause-leaves : goal.returns-in-Err-OutOfMemory-clause-leaves
returns-in-Err-OutOfMemory-clause-leaves g c = WritesText.part (inr refl) (search rules) (search rules)
