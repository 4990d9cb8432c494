use Rattle.std.proofs.Common.{◌≡◌, ◌⊎◌, inl, inr, nat_eq, Bool, true, false, cond, Option, Some, refl, sym, ◌∙◌}
use Rattle.std.proofs.lemmas.Bool.{eqb-true}
use Rattle.hp_diagram.proofs.Growth.{and_parts}
use Rattle.hp_diagram.specs.declared.reference.Ref.{Ref}
use Rattle.hp_quant.specs.declared.pair.Pair.{Pair}
use Rattle.hp_quant.specs.Turns.{pair_eq}
use Rattle.hp_quant.proofs.pair.Found.put.Goals as goal

pair_eq-same : (p q : Pair) → pair_eq p q ≡ true → q ≡ p
pair_eq-same p q e =
    let parts = and_parts (nat_eq p.f.index q.f.index) _ e in
    let f : p.f.index ≡ q.f.index = eqb-true _ _ parts.0 in
    let g : p.g.index ≡ q.g.index = eqb-true _ _ parts.1 in
    sym (λ j. record { f = record { index = f j }; g = record { index = g j } })

some-same : (r s : Ref) → Some r ≡ Some s → r ≡ s
some-same r s e = cc

found : (p q : Pair) (r s : Ref) (old new : Option Ref) (b : Bool) → pair_eq p q ≡ b → new ≡ cond b (Some s) old → new ≡ Some r → (old ≡ Some r) ⊎ ((q ≡ p) × (r ≡ s))
found p q r s old new true same e is = inr (pair_eq-same p q same, some-same r s (sym is ∙ e))
found p q r s old new false same e is = inl (sym e ∙ is)

pub returns : goal.returns
returns c = λ q r known. found c.args.p q r c.args.s _ _ (pair_eq c.args.p q) refl (c.in_ok-insert.ensures.updates.0 q) known
