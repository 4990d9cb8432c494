-- The records of a program are coded as the tuples of their fields.
use Rattle.std.specs.Prelude.{ℕ, List, Option, refl}
use Rattle.std.specs.Coded.{Coded, code_by, coded×, coded_ℕ, coded_list, coded_option}
use Rattle.hp_base.specs.declared.span.Span.{Span}
use Rattle.hp_base.specs.contracts.span.Span as span
use Rattle.hp_tree.specs.Expressions.{Expr}
use Rattle.hp_tree.specs.ExpressionCode.{expr_code}
use Rattle.hp_tree.specs.Blocks.{Decl, Block}
use Rattle.hp_tree.specs.DeclCode.{decl_code}
use Rattle.hp_tree.specs.BlockCode.{block_code}
use Rattle.hp_tree.specs.Programs.{TypeDecl, Contract, Node}

abbrev bytes : Coded (List ℕ)
bytes = coded_list coded_ℕ

abbrev TypeFields : Type 0
TypeFields = List ℕ × (List (List ℕ) × Span)

abbrev type_fields : Coded TypeFields
type_fields = coded× bytes (coded× (coded_list bytes) span.the_row.coded)

abbrev pub type_code : Coded TypeDecl
type_code = code_by TypeFields type_fields (λ t. (t.name, (t.cons, t.span))) (λ f. record { name = f.0; cons = f.1.0; span = f.1.1 }) (λ t. refl)

abbrev ContractFields : Type 0
ContractFields = Block × (Option Expr × (Option Expr × (List Decl × Span)))

abbrev contract_fields : Coded ContractFields
contract_fields = coded× block_code (coded× (coded_option expr_code) (coded× (coded_option expr_code) (coded× (coded_list decl_code) span.the_row.coded)))

abbrev pub contract_code : Coded Contract
contract_code = code_by ContractFields contract_fields (λ c. (c.body, (c.assume, (c.enforce, (c.controls, c.span)))))
    (λ f. record { body = f.0; assume = f.1.0; enforce = f.1.1.0; controls = f.1.1.1.0; span = f.1.1.1.1 }) (λ c. refl)

abbrev NodeFields : Type 0
NodeFields = List ℕ × (Span × (List Decl × (List Decl × (Option Contract × Block))))

abbrev node_fields : Coded NodeFields
node_fields = coded× bytes (coded× span.the_row.coded (coded× (coded_list decl_code) (coded× (coded_list decl_code) (coded× (coded_option contract_code) block_code))))

abbrev pub node_code : Coded Node
node_code = code_by NodeFields node_fields (λ n. (n.name, (n.span, (n.inputs, (n.outputs, (n.contract, n.body))))))
    (λ f. record { name = f.0; span = f.1.0; inputs = f.1.1.0; outputs = f.1.1.1.0; contract = f.1.1.1.1.0; body = f.1.1.1.1.1 }) (λ n. refl)
