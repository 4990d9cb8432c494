-- Pairs under `Some`.
use Rattle.std.proofs.Common.{◌≡◌, Option, Some, ap}

pub same_parts : {A B : Type 0} (a c : A) (b d : B) → ◌≡◌ {A = Option (A × B)} (Some (a, b)) (Some (c, d)) → (a ≡ c) × (b ≡ d)
same_parts {A} {B} a c b d h = let e : ◌≡◌ {A = A × B} (a, b) (c, d) = cc in (ap (λ (z : A × B). z.0) e, ap (λ (z : A × B). z.1) e)
