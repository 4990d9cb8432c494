-- A node without its automata has classes.
use Rattle.std.proofs.Common.{◌≡◌, ℕ, Bool, true, false, if◌then◌else◌, List, [], ◌∷◌, refl, subst}
use Rattle.std.specs.Prelude.{IsTrue, IsFalse, Option, None, Some, option_map}
use Rattle.hp_base.specs.declared.span.Span.{Span}
use Rattle.hp_tree.specs.Expressions.{Expr}
use Rattle.hp_tree.specs.Blocks.{Block, block}
use Rattle.hp_tree.specs.Programs.{Contract, Node}
use Rattle.hp_tree.specs.Instant.{Body, Observer, Named, Equations}
use Rattle.hp_tree.specs.Meaning.{declares}
use Rattle.hp_init.specs.Classes.{Classes, Assignment, Known, or_first, known_in, known_outputs}
use Rattle.hp_init.specs.Wants.{is_first}
use Rattle.law_values.specs.Valued.Classed.{HasClasses}
use Rattle.hp_automata.specs.Lowering.{Types, Enumerations, declaring, same_name, types_of, lowered_body_of, lowered_contract, lowered_node}
use Rattle.law_automata.specs.Lowered.OldNames.{IsOld}
use Rattle.law_automata.specs.Lowered.Removable.{none_known, BlockOk, ConditionOk, ContractOk, NodeOk}
use Rattle.law_automata.proofs.LoweredLemmas.Nodes.{itself, itself_renames}
use Rattle.law_automata.proofs.LoweredLemmas.RightSteps.{declared_old}
use Rattle.law_automata.specs.Classed.Good.{ToldFirst, BlockGood, ContractGood, no_class, in_block, own_classes, in_node}
use Rattle.law_automata.specs.Classed.Relates.{Relates}
use Rattle.law_automata.proofs.ClassedLemmas.Blocks.{known_there, relates_there, musts_there, block_by}
use Rattle.law_automata.proofs.ClassedLemmas.Expressions.{test_kept}
use Rattle.law_automata.proofs.ClassedLemmas.Goods.{node_told, node_right}
use Rattle.law_automata.proofs.ClassedLemmas.Removal.{block_good, eqns_good}

module _ (enums : Enumerations) (tys : Types) (k : Known) (same : Relates same_name k k) where
  -- what is read in a contract's block, where its names stand for themselves
  told_kept : (s t : Classes) → ((x : List ℕ) → IsOld x → IsFalse (s x) → IsFalse (t x)) → (o : Option Expr) → ConditionOk o → ToldFirst s o → ToldFirst t o
  told_kept s t lower None ok h = tt
  told_kept s t lower (Some e) ok h = subst (λ z. IsTrue (is_first t z)) (itself e) (test_kept same_name s t lower e ok h)

  observer_good : (sp : Span) (b : Block) (a e : Option Expr) → BlockOk none_known 0 b → ConditionOk a → ConditionOk e → (class : Assignment) → BlockGood k class b → ToldFirst (known_in b class k).values a → ToldFirst (known_in b class k).values e
      → (other : Assignment) × (BlockGood k other (lowered_body_of enums tys sp b) × (ToldFirst (known_in (lowered_body_of enums tys sp b) other k).values a × ToldFirst (known_in (lowered_body_of enums tys sp b) other k).values e))
  observer_good sp (block ds es) a e ok ok_a ok_e class good first_a first_e =
      let out : (x : List ℕ) → false ≡ true → IsFalse (or_first (k.variables x)) = λ x q. absurd (cc q) in
      let old : (x : List ℕ) → false ≡ true → IsOld x = λ x q. absurd (cc q) in
      let inside = known_in (block ds es) class k in
      let there = known_there enums itself_renames tys sp [] ds es ok class k k same old out good in
      let relates = relates_there enums itself_renames tys sp [] ds es ok class k k same old out good in
      let b = block_by enums itself_renames tys sp [] ds es ok class k k same old out good
      (eqns_good enums itself_renames (declaring tys ds) es ok.1 (λ p. class (Equations ∷ p)) inside there relates ds _ (musts_there enums itself_renames tys sp [] ds es ok class k k same old out good) good.1.1.1) in (
        in_block (own_classes ds class) b.0,
        (b.1, (told_kept inside.values there.values relates.values a ok_a first_a, told_kept inside.values there.values relates.values e ok_e first_e)),
      )

  contract_good : (o : Option Contract) → ContractOk o → (class : Assignment) → ContractGood k class o → (other : Assignment) × ContractGood k other (option_map (lowered_contract enums tys) o)
  contract_good None ok class good = (no_class, tt)
  contract_good (Some c) ok class good = observer_good c.span c.body c.assume c.enforce ok.0 ok.1 ok.2 class good.0 good.1.0 good.1.1

module _ (enums : Enumerations) (n : Node) (ok : NodeOk n) (class : Assignment) where
  outputs_new : (y : List ℕ) → (IsOld y → ⊥) → IsFalse (or_first (if declares n.outputs y then Some (class (Named y ∷ [])) else None))
  outputs_new y h = by (declares n.outputs y) refl
    where
      by : (b : Bool) → declares n.outputs y ≡ b → IsFalse (or_first (if b then Some (class (Named y ∷ [])) else None))
      by true q = absurd (h (declared_old enums n.outputs ok.outputs y q))
      by false q = refl

  outputs_same : Relates same_name (known_outputs n class) (known_outputs n class)
  outputs_same = record { variables = λ x o. refl; values = λ x o h. h; fresh = record { variables = outputs_new; values = outputs_new } }

  known_same : (observer body : Assignment) → known_outputs n class ≡ known_outputs (lowered_node enums n) (in_node class observer body)
  known_same observer body =
      λ i. record {
        variables = λ x. if declares n.outputs x then Some (class (Named x ∷ [])) else None;
        values = λ x. or_first (if declares n.outputs x then Some (class (Named x ∷ [])) else None);
      }

  pub node_classes : HasClasses class n → (other : Assignment) × HasClasses other (lowered_node enums n)
  node_classes h =
      let k = known_outputs n class in
      let good = node_told class n h in
      let observer = contract_good enums (types_of n) k outputs_same n.contract ok.contract (λ p. class (Observer ∷ p)) good.0 in
      let body = block_good enums itself_renames (types_of n) n.span [] n.body ok.body (λ p. class (Body ∷ p)) k k outputs_same (λ x q. absurd (cc q)) (λ x q. absurd (cc q)) good.1 in (
        in_node class observer.0 body.0,
        node_right (in_node class observer.0 body.0) (lowered_node enums n) (subst (λ z. ContractGood z observer.0 (lowered_node enums n).contract) (known_same observer.0 body.0) observer.1) (subst (λ z. BlockGood z body.0 (lowered_node enums n).body) (known_same observer.0 body.0) body.1),
      )
