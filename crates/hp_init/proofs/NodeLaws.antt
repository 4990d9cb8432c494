-- What is found in a node by numbers is what the definitions find.
use Rattle.std.proofs.Common.{◌≡◌, ℕ, ◌+◌, Bool, false, IsTrue, List, [], ◌∷◌, ◌++◌, length, Option, None, Some, refl, sym, ap, subst, ◌∙◌, arith}
use Rattle.hp_tree.specs.Programs.{Contract, Node}
use Rattle.hp_tree.specs.Instant.{Body, Observer, Named, Place}
use Rattle.hp_init.specs.declared.ask.Ask.{Ask}
use Rattle.hp_init.specs.Classes.{Assignment, Known, NodeFollows, ContractFollows, BlockFollows}
use Rattle.hp_init.specs.Wants as wants
use Rattle.hp_init.specs.Wants.{Wish}
use Rattle.hp_init.specs.Initialised.{first_unmet, IsFound}
use Rattle.hp_init.specs.Names.{number_node, number_contract, size_of_contract}
use Rattle.hp_init.specs.Asks.{Seen, seen_in, seen_outputs, of_block, of_told, of_contract, of_node, Valued, ObeysAll, unmet}
use Rattle.hp_init.proofs.FlowLaws.{class_of, seen_as, known_as, Tied, both, fore, rear, known_law, outputs_law, block_obeyed, block_follows, told_obeyed}
use Rattle.hp_init.proofs.WantLaws.{joined, block_unmet, told_unmet}
use Rattle.hp_init.proofs.PlaceLaws.{nth, places_of_node, placed_in_node}

module _ (q : Valued) where
  contract_obeyed : (see : Seen) (k : ℕ) (class : Assignment) (c : Option Contract) → Tied q (number_contract k c) class → ContractFollows (known_as q see) class c → ObeysAll q (of_contract see k c)
  contract_obeyed see k class None tied h = tt
  contract_obeyed see k class (Some c) tied h =
      let inner = (seen_in k c.body see).values in
      both q (of_block see k c.body) (of_told inner c.assume ++ of_told inner c.enforce) (block_obeyed q see k class c.body tied h)
      (both q (of_told inner c.assume) (of_told inner c.enforce) (told_obeyed q inner c.assume) (told_obeyed q inner c.enforce))

  contract_follows : (see : Seen) (k : ℕ) (class : Assignment) (c : Option Contract) → Tied q (number_contract k c) class → ObeysAll q (of_contract see k c) → ContractFollows (known_as q see) class c
  contract_follows see k class None tied h = tt
  contract_follows see k class (Some c) tied h =
      let inner = (seen_in k c.body see).values in
      block_follows q see k class c.body tied (fore q (of_block see k c.body) (of_told inner c.assume ++ of_told inner c.enforce) h)

  contract_unmet : (see : Seen) (k : ℕ) (class : Assignment) (c : Option Contract) → Tied q (number_contract k c) class
      → unmet q (of_contract see k c) ≡ first_unmet (wants.of_contract (known_as q see) class c)
  contract_unmet see k class None tied = refl
  contract_unmet see k class (Some c) tied =
      let inner = (seen_in k c.body see).values in
      joined q (of_block see k c.body) (of_told inner c.assume ++ of_told inner c.enforce) (wants.of_block (known_as q see) class c.body)
      (wants.of_told (seen_as q inner) c.assume ++ wants.of_told (seen_as q inner) c.enforce) (block_unmet q see k class c.body tied)
      (joined q (of_told inner c.assume) (of_told inner c.enforce) (wants.of_told (seen_as q inner) c.assume) (wants.of_told (seen_as q inner) c.enforce) (told_unmet q inner c.assume) (told_unmet q inner c.enforce))
      ∙ ap (λ (known : Known). first_unmet (wants.of_block (known_as q see) class c.body ++ (wants.of_told known.values c.assume ++ wants.of_told known.values c.enforce))) (sym (known_law q k c.body see class tied))

  module _ (n : Node) where
    abbrev behind_contract : ℕ
    behind_contract = length n.outputs + size_of_contract n.contract

    abbrev contract_asks : List Ask
    contract_asks = of_contract (seen_outputs n) (length n.outputs) n.contract

    abbrev body_asks : List Ask
    body_asks = of_block (seen_outputs n) behind_contract n.body

    node_obeyed : (class : Assignment) → Tied q (number_node n) class → NodeFollows class n → ObeysAll q (of_node n)
    node_obeyed class tied h =
        let outputs = outputs_law q n class (λ x v e. tied (Named x ∷ []) v e) in
        both q contract_asks body_asks
        (contract_obeyed (seen_outputs n) (length n.outputs) (λ p. class (Observer ∷ p)) n.contract (λ p v e. tied (Observer ∷ p) v e) (subst (λ known. ContractFollows known (λ p. class (Observer ∷ p)) n.contract) outputs h.0))
        (block_obeyed q (seen_outputs n) behind_contract (λ p. class (Body ∷ p)) n.body (λ p v e. tied (Body ∷ p) v e) (subst (λ known. BlockFollows known (λ p. class (Body ∷ p)) n.body) outputs h.1))

    node_follows : (class : Assignment) → Tied q (number_node n) class → ObeysAll q (of_node n) → NodeFollows class n
    node_follows class tied h =
        let outputs = sym (outputs_law q n class (λ x v e. tied (Named x ∷ []) v e)) in (
          subst (λ known. ContractFollows known (λ p. class (Observer ∷ p)) n.contract) outputs
              (contract_follows (seen_outputs n) (length n.outputs) (λ p. class (Observer ∷ p)) n.contract (λ p v e. tied (Observer ∷ p) v e) (fore q contract_asks body_asks h)),
          subst (λ known. BlockFollows known (λ p. class (Body ∷ p)) n.body) outputs
              (block_follows q (seen_outputs n) behind_contract (λ p. class (Body ∷ p)) n.body (λ p v e. tied (Body ∷ p) v e) (rear q contract_asks body_asks h)),
        )

    node_unmet : (class : Assignment) → Tied q (number_node n) class → unmet q (of_node n) ≡ first_unmet (wants.of_node class n)
    node_unmet class tied =
        let see = known_as q (seen_outputs n) in
        joined q contract_asks body_asks (wants.of_contract see (λ p. class (Observer ∷ p)) n.contract) (wants.of_block see (λ p. class (Body ∷ p)) n.body)
        (contract_unmet (seen_outputs n) (length n.outputs) (λ p. class (Observer ∷ p)) n.contract (λ p v e. tied (Observer ∷ p) v e))
        (block_unmet q (seen_outputs n) behind_contract (λ p. class (Body ∷ p)) n.body (λ p v e. tied (Body ∷ p) v e))
        ∙ ap (λ (known : Known). first_unmet (wants.of_contract known (λ p. class (Observer ∷ p)) n.contract ++ wants.of_block known (λ p. class (Body ∷ p)) n.body))
        (sym (outputs_law q n class (λ x v e. tied (Named x ∷ []) v e)))

-- ---- classes of places by numbers, and of numbers by places
abbrev by_number : Valued → Node → Assignment
by_number q n p = class_of q (number_node n p)

abbrev class_at : Assignment → Option Place → Bool
class_at class None = false
class_at class (Some p) = class p

abbrev by_place : Assignment → Node → Valued
by_place class n v = class_at class (nth (places_of_node n) v)

tied_by_place : (class : Assignment) (n : Node) → Tied (by_place class n) (number_node n) class
tied_by_place class n p v e =
    let found = placed_in_node v n p e in
    let same : v ≡ found.index = let is : v ≡ 0 + found.index = found.number in omega arith in
    sym (ap (by_place class n) same ∙ ap (class_at class) found.place)

second_there : (q : Valued) (n : Node) (other : Assignment) (p : Place) → ((v : ℕ) → IsTrue (q v) → IsTrue (by_place other n v)) → (o : Option ℕ) → number_node n p ≡ o → IsTrue (class_of q o) → IsTrue (other p)
second_there q n other p least None e h = absurd cc
second_there q n other p least (Some v) e h = tied_by_place other n p v e ∙ least v h

-- The least classes of the numbers of a node, which obey what is asked, are its classes.
pub node_law : (q : Valued) (n : Node) → ObeysAll q (of_node n) → ((r : Valued) → ObeysAll r (of_node n) → (v : ℕ) → IsTrue (q v) → IsTrue (r v)) → IsFound n (unmet q (of_node n))
node_law q n obeys least =
    let class = by_number q n in
    let tied : Tied q (number_node n) class = λ p v e. ap (class_of q) e in (
      class,
      (
        (
          node_follows q n class tied obeys,
          λ other follows p h. second_there q n other p (least (by_place other n) (node_obeyed (by_place other n) n other (tied_by_place other n) follows)) (number_node n p) refl h,
        ),
        sym (node_unmet q n class tied),
      ),
    )
