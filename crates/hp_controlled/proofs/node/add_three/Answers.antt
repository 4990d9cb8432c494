use Rattle.std.proofs.Common.{◌≡◌, ◌∷◌, [], ◌++◌, Result, Ok, Err, OnOk, ap, ◌∙◌}
use Rattle.std.proofs.lemmas.List.{append_assoc}
use Rattle.hp_obc.specs.Machines.{Machine}
use Rattle.hp_controlled.proofs.node.add_three.Goals as goal

on_ok : {A E P Q : Type 0} (r : Result A E) → (P → Q) → OnOk r P → OnOk r Q
on_ok (Ok a) f p = f p
on_ok (Err e) f p = tt

pub returns-clause-added : goal.returns-clause-added
returns-clause-added c =
    let one = c.in_ok-add_machine.ensures.added in
    let two = c.in_ok-add_machine-2.ensures.added in
    let old = c.args.machines.now.items in
    let a : Machine = one.0 in
    let b : Machine = two.0 in
    on_ok c.add_machine-3.result (λ three.
    let d : Machine = three.0 in
    let first = ap (λ z. z ++ b ∷ []) one.1 ∙ append_assoc old (a ∷ []) (b ∷ []) in
    let both = two.1 ∙ first in
    (a ∷ b ∷ d ∷ [], three.1 ∙ ap (λ z. z ++ d ∷ []) both ∙ append_assoc old (a ∷ b ∷ []) (d ∷ []), (one.2.0, (two.2.0, (three.2.0, tt)))))
    c.add_machine-3.ensures.added
