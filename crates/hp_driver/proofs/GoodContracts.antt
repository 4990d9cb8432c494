-- What is asked of contracts refutes each cause for which one is refused, and asks nothing of programs without contracts.
use Rattle.std.proofs.Common.{◌≡◌, ◌≢◌, ℕ, true, false, List, [], ◌∷◌, ◌++◌, refl, sym, subst, ◌∙◌, arith}
use Rattle.std.specs.Prelude.{All, Contains, IsTrue, is_some}
use Rattle.std.proofs.lemmas.List.Elements.{All-cons, All-contains, All-nil, Contains-append_right}
use Rattle.hp_compile.specs.Arranged.{IsArranged}
use Rattle.law_decided.specs.Acceptable.{IsDecidable, IsAcceptable, AreAcceptable}
use Rattle.law_decided.specs.Outcomes.{SaysOfNode, RefusesInGame, RefusesInGames}
use Rattle.hp_expand.specs.Numbering.{no_node}
use Rattle.hp_tree.specs.Programs.{Node}
use Rattle.hp_tree.specs.declared.program.Item.{Item}
use Rattle.hp_tree.specs.declared.program.Item.TheVariants.{NodeItem}
use Rattle.hp_verdicts.specs.Decided.{own_contract, has_contract, RefusesMachine, RefusesContract}
use Rattle.hp_verdicts.specs.declared.error.ContractErr.{ContractErr}
use Rattle.hp_verdicts.specs.declared.error.ContractErr.TheVariants as contract
use Rattle.hp_driver.specs.GoodCalls.{PlainLaw}
use Rattle.hp_driver.proofs.ContractLaws.{plain_written, uncontrolled_plain}
use Rattle.hp_driver.proofs.AcceptedLaws.{none_or}

-- ---- contracts that can be decided have a machine

not_refused : (program : List Item) (n : Node) (cause : ContractErr) → IsDecidable program n → RefusesMachine program n cause → SaysOfNode program n cause → cause ≢ contract.OutOfMemory → ⊥
not_refused program n (contract.Forced node instants cert) d refused says differs = refused
not_refused program n (contract.Assume node span) d refused says differs = d.uncontrolled says
not_refused program n (contract.Limit node limit) d refused says differs = d.within limit says
not_refused program n contract.NotBuilt d refused says differs = says
not_refused program n contract.TooLong d refused says differs = says
not_refused program n contract.OutOfMemory d refused says differs = differs refl

pub has_verdict : (program : List Item) (n : Node) (cause : ContractErr) → IsDecidable program n → RefusesInGame program n cause → cause ≢ contract.OutOfMemory → ⊥
has_verdict program n cause d r differs = not_refused program n cause d r.refused r.says differs

-- ---- acceptable contracts are not refused

stands : (program before behind : List Item) (n : Node) → program ≡ before ++ NodeItem n ∷ behind → Contains program (NodeItem n)
stands program before behind n e =
    let here : Contains (NodeItem n ∷ behind) (NodeItem n) = (0, omega arith, refl) in
    subst (λ items. Contains items (NodeItem n)) (sym e) (Contains-append_right before (NodeItem n ∷ behind) (NodeItem n) here)

of_node : (program : List Item) (n : Node) (cause : ContractErr) → (IsTrue (is_some n.contract) → IsAcceptable program n) → RefusesContract program n cause → SaysOfNode program n cause → cause ≢ contract.OutOfMemory → ⊥
of_node program n (contract.Forced node instants cert) good refused says differs = let forced = says.forced in (good refused.1).safe instants forced
of_node program n (contract.Assume node span) good refused says differs = (good refused.1).decidable.uncontrolled says
of_node program n (contract.Limit node limit) good refused says differs = (good refused.1).decidable.within limit says
of_node program n contract.NotBuilt good refused says differs = says
of_node program n contract.TooLong good refused says differs = says
of_node program n contract.OutOfMemory good refused says differs = differs refl

pub none_refused : (program : List Item) → AreAcceptable program → (cause : ContractErr) → RefusesInGames program cause → cause ≢ contract.OutOfMemory → ⊥
none_refused program good cause r differs =
    let first = r.refused in
    of_node program first.node cause (good first.node (stands program first.before first.behind first.node first.stands)) first.refused r.says differs

-- ---- programs without contracts

-- an item that is no node with a contract
abbrev IsPlain : Item → Type 0
IsPlain item = own_contract item ≡ false

none_of : (items : List Item) → has_contract items ≡ false → All IsPlain items
none_of [] none = All-nil IsPlain
none_of (item ∷ items) none = let parts = none_or (own_contract item) (has_contract items) none in All-cons IsPlain item items parts.0 (none_of items parts.1)

pub plain_is_good : PlainLaw
plain_is_good program none = (of_arranged, uncontrolled_plain program none)
  where
    of_arranged : (clocked : List Item) (ranks : List (List ℕ)) → IsArranged program clocked ranks → AreAcceptable clocked
    of_arranged clocked ranks arranged n has some =
        let plain = plain_written no_node program clocked none arranged.clocks in
        let own : is_some n.contract ≡ false = All-contains IsPlain clocked (NodeItem n) (none_of clocked plain) has in
        absurd (let both : true ≡ false = sym some ∙ own in cc)
