-- What reads and writes of pieces do together.
use Rattle.std.proofs.Common.{◌+◌, ◌-◌, ℕ, List, ◌++◌, length, take, drop, sym, ap, ◌∙◌, subst}
use Rattle.std.specs.Prelude.{Option}
use Rattle.std.proofs.Math.Seq.{take-add}
use Rattle.std.proofs.lemmas.List.{take_rest}
use Rattle.std.specs.Io.KnownBytes.{Appends}
use Rattle.std.proofs.KnownBytes.{Appends-trans}

-- a piece behind the first bytes
pub appended : (a b c : Option (List ℕ)) (bytes : List ℕ) (done n : ℕ) → Appends a b (take done bytes) → Appends b c (take n (take (length bytes - done) (drop done bytes))) → Appends a c (take (done + n) bytes)
appended a b c bytes done n p q =
    subst (Appends a c) (ap (λ z. take done bytes ++ take n z) (take_rest bytes done) ∙ sym (take-add done n bytes)) (Appends-trans a b c _ _ p q)
