use Rattle.std.proofs.Common.{◌≡◌, ◌∙◌, ◌<◌, false, List, Result, Ok, Err, ap, get_or, length, refl, subst, take}
use Rattle.std.proofs.lemmas.List.{take_all}
use Rattle.hp_tree.specs.declared.program.Item.{Item}
use Rattle.hp_verdicts.specs.Decided.{AreKept, own_contract}
use Rattle.hp_verdicts.specs.declared.error.ContractErr.{ContractErr}
use Rattle.hp_verdicts.proofs.DecideLaws.{kept_next, none_own, refused_at}
use Rattle.hp_verdicts.proofs.deciding.decide.Goals as goal

pub returns-in-Err-clause-refused : goal.returns-in-Err-clause-refused
returns-in-Err-clause-refused c =
    let program : List Item = c.args.program.now in
    let same : c.deref-item-items.result.now ≡ program = c.deref-item-items.ensures.value ∙ c.program.view_is in
    let i = c.loop-item.item-index in
    let x : Item = c.item-item.result in
    refused_at program i x (subst (λ (items : List Item). i < length items) same c.loop-item-test.true) (subst (λ (items : List Item). x ≡ get_or items i x) same c.item-item.is)
    (subst (λ (items : List Item). AreKept program (take i items)) same c.loop-item.invariant) c.in-Err.e c.in-Err.ensures.refused

never : {P : Type 0} (r : Result (Unit {0}) ContractErr) (e : ContractErr) → r ≡ Err e → r ≡ Ok tt → P
never r e fails ends = absurd (cc)

pub returns-in-Err-clause-plain : goal.returns-in-Err-clause-plain
returns-in-Err-clause-plain c = λ none.
    let program : List Item = c.args.program.now in
    let same : c.deref-item-items.result.now ≡ program = c.deref-item-items.ensures.value ∙ c.program.view_is in
    let i = c.loop-item.item-index in
    let x : Item = c.item-item.result in
    let at : x ≡ get_or program i x = subst (λ (items : List Item). x ≡ get_or items i x) same c.item-item.is in
    let own : own_contract x ≡ false = ap own_contract at ∙ none_own program none i x (subst (λ (items : List Item). i < length items) same c.loop-item-test.true) in
    never (Err c.in-Err.e) c.in-Err.e refl (c.in-Err.ensures.plain own)

pub loop-item-preserved : goal.loop-item-preserved
loop-item-preserved c =
    kept_next c.args.program.now c.deref-item-items.result.now c.loop-item.item-index c.item-item.result c.loop-item-test.true c.item-item.is c.loop-item.invariant c.in_default.ensures.kept

pub returns-clause-kept : goal.returns-clause-kept
returns-clause-kept c =
    let program : List Item = c.args.program.now in
    let same : c.deref-item-items.result.now ≡ program = c.deref-item-items.ensures.value ∙ c.program.view_is in
    subst (AreKept program) (take_all c.loop-item.item-index c.deref-item-items.result.now c.loop-item-test.false ∙ same) c.loop-item.invariant
