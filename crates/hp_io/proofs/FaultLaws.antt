-- Laws of faults.
use Rattle.std.proofs.Common.{◌∙◌, ap, sym, refl, List, ℕ}
use Rattle.hp_io.specs.Faults.{Faults, Same, Rose, AllSame, one_more}

pub Same-refl : (a : Faults) → Same a a
Same-refl a = record { count = refl; calm = refl }

-- none failed, and then none
pub Same-trans : {a b d : Faults} → Same a b → Same b d → Same a d
Same-trans p q = record { count = q.count ∙ p.count; calm = q.calm ∙ p.calm }

-- none failed, and then the last call did
pub Rose-behind : {a b d : Faults} → Same a b → Rose b d → Rose a d
Rose-behind p q = record { may = sym p.calm ∙ q.may; count = q.count ∙ ap one_more p.count; calm = q.calm ∙ p.calm; last = q.last }

pub AllSame-refl : (a : List ℕ → Faults) → AllSame a a
AllSame-refl a name = Same-refl (a name)

pub AllSame-trans : (a b d : List ℕ → Faults) → AllSame a b → AllSame b d → AllSame a d
AllSame-trans a b d p q name = Same-trans (p name) (q name)
