-- Clocks that part.
use Rattle.std.proofs.Common.{◌≡◌, ◌⊎◌, ◌≤◌, ℕ, nat_eq, true, false, List, [], ◌∷◌, inl, inr, ap, arith}
use Rattle.std.specs.List.{AllByRecursion}
use Rattle.std.proofs.lemmas.Bool.Decides.{nat_tests}
use Rattle.hp_flat.specs.Equations.{Clock, FlatEqn}
use Rattle.hp_normal.specs.Reading.{count}
use Rattle.hp_normal.specs.Substituting.{Meanings, variable_or, read_clock}
use Rattle.law_equations.proofs.FewerLemmas.Members.{Among, each_among, count-has}
use Rattle.law_equations.specs.Shaped.Shaped.{Part, AreApart, DefineApart}

itself : (c : ℕ) → nat_eq c c ≡ false → ⊥
itself c e = absurd (let same : nat_eq c c ≡ true = grind (arith, nat_tests) in cc)

-- no clock parts from itself
pub part-itself : (clock : Clock) → Part clock clock → ⊥
part-itself [] h = h
part-itself (on ∷ clock) (e, inl d) = itself on.1 d
part-itself (on ∷ clock) (e, inr d) = part-itself clock d.1

-- what variables stand for makes no difference
pub part-read : (s : Meanings) (first second : Clock) → Part first second → Part (read_clock s first) (read_clock s second)
part-read s [] second h = absurd h
part-read s (on ∷ first) [] h = absurd h
part-read s (on ∷ first) (other ∷ second) (e, inl d) = (ap (λ x. variable_or x (s x)) e, inl d)
part-read s (on ∷ first) (other ∷ second) (e, inr d) = (ap (λ x. variable_or x (s x)) e, inr (d.0, part-read s first second d.1))

-- two equations that define a variable
pub apart-at : (es : List FlatEqn) → DefineApart es → (a b : FlatEqn) → Among a es → Among b es → (x : ℕ) → 1 ≤ count x a.targets → 1 ≤ count x b.targets → (a ≡ b) ⊎ Part a.clock b.clock
apart-at es h a b p q x f g =
    each_among (AreApart a) es b (each_among (λ (d : FlatEqn). AllByRecursion (AreApart d) es) es a h p) q x (count-has a.targets x f) (count-has b.targets x g)
