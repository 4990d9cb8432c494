-- Of a loop over the variables of a machine.
use Rattle.std.proofs.Common.{◌≡◌, ◌<◌, ◌+◌, ◌∙◌, ◌∷◌, [], List, ℕ, zero, suc, ap, arith, drop, get_or, length, refl, sym, take}
use Rattle.hp_machines.specs.Machined.{vars_of}
use Rattle.hp_obc.specs.declared.machine.Var.{Var}
use Rattle.hp_tree.specs.Blocks.{Decl}

next : (vars : List Var) (decls : List Decl) (i : ℕ) (v : Var) (d : Decl) → i < length vars → length vars ≡ length decls → v ≡ get_or vars i v → d ≡ get_or decls i d → v ∷ [] ≡ vars_of (d ∷ [])
    → take i vars ≡ take i (vars_of decls) → take (suc i) vars ≡ take (suc i) (vars_of decls)
next [] decls i v d h n e f same so_far = absurd (omega (arith, h))
next (x ∷ vars) [] i v d h n e f same so_far = absurd (omega (arith, n))
next (x ∷ vars) (y ∷ decls) zero v d h n e f same so_far = ap (λ z. z ∷ []) (sym e) ∙ same ∙ ap (λ z. vars_of (z ∷ [])) f
next (x ∷ vars) (y ∷ decls) (suc i) v d h n e f same so_far =
    let rest = next vars decls i v d (omega (arith, h)) (omega (arith, n)) e f same (ap (λ z. drop 1 z) so_far)
    in λ j. get_or (so_far j) 0 x ∷ rest j

pub next_var : (vars : List Var) (decls : List Decl) (i : ℕ) (v : Var) (d : Decl) → i < length vars → length vars ≡ length decls → v ≡ get_or vars i v → d ≡ get_or decls i d → v ∷ [] ≡ vars_of (d ∷ [])
    → take i vars ≡ take i (vars_of decls) → take (i + 1) vars ≡ take (i + 1) (vars_of decls)
next_var vars decls i v d h n e f same so_far =
    let step : suc i ≡ i + 1 = omega arith in
    ap (λ k. take k vars) (sym step) ∙ next vars decls i v d h n e f same so_far ∙ ap (λ k. take k (vars_of decls)) step
