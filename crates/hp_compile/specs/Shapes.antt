-- The shapes of contracts: a contract calls no node once inlined calls are replaced, a node with a contract is not inlined, and a controllable variable is no integer.
-- Source: own.
use Rattle.std.specs.Prelude.{◌≡◌, ◌≢◌, ⊤, ℕ, Bool, true, false, if◌then◌else◌, List, [], ◌∷◌, ◌++◌, fold, Option, None, Some, is_some, option_map}
use Rattle.std.specs.List.{AllByRecursion}
use Rattle.std.specs.Str.{bytes_eq}
use Rattle.hp_base.specs.First.First.{itself, sooner, merged}
use Rattle.hp_base.specs.declared.span.Span.{Span}
use Rattle.hp_base.specs.declared.ty.Ty.{Ty}
use Rattle.hp_base.specs.declared.ty.Ty.TheVariants as ty
use Rattle.hp_tree.specs.declared.program.Item.{Item}
use Rattle.hp_tree.specs.declared.program.Item.TheVariants.{TypeItem, NodeItem}
use Rattle.hp_tree.specs.Blocks.{Decl}
use Rattle.hp_tree.specs.Programs.{Node}
use Rattle.hp_tree.specs.Meaning.{controls_of}
use Rattle.law_judged.specs.Named.Scoped.{EachNode}
use Rattle.hp_expand.specs.Numbering.{replaced}
use Rattle.hp_expand.specs.declared.error.Shape.{Shape}
use Rattle.hp_expand.specs.declared.error.Shape.TheVariants.{Call as CallShape, Inline, WrongType}
use Rattle.hp_compile.specs.Counts.{Call, in_contract, in_block, in_node}

-- ---- programs in which contracts have their shapes

-- None of these calls inlines a node with a contract.
abbrev pub InlineFree : (List ℕ → Bool) → List Call → Type 0
InlineFree has_contract cs = AllByRecursion (λ (c : Call). c.inlined ≡ true → has_contract c.node ≡ false) cs

-- So it is in each node, where it is known which of the nodes before have one.
abbrev pub AllInlineFree : (List ℕ → Bool) → List Item → Type 0
AllInlineFree has_contract [] = ⊤
AllInlineFree has_contract (TypeItem t ∷ items) = AllInlineFree has_contract items
AllInlineFree has_contract (NodeItem n ∷ items) =
    InlineFree has_contract (in_node n).calls × AllInlineFree (λ f. if bytes_eq n.name f then is_some n.contract else has_contract f) items

abbrev pub none_has : List ℕ → Bool
none_has f = false

-- Its contract calls no node.
abbrev pub CallsNothing : Node → Type 0
CallsNothing n = (in_contract n.contract).calls ≡ []

abbrev pub ControlsNoInteger : Node → Type 0
ControlsNoInteger n = AllByRecursion (λ (d : Decl). d.ty ≢ ty.Int) (controls_of n.contract)

pub record HasShapes (program : List Item) : Type 0 where
  pub inlined : AllInlineFree none_has program
  pub calls : EachNode CallsNothing (replaced program)
  pub controls : EachNode ControlsNoInteger program

-- ---- the first breach

-- what is known of a node: whether it has a contract, and where the first call stands that its body makes once inlined calls are replaced
pub record Form : Type 0 where
  pub bound : Bool
  pub first_call : Option Span

abbrev pub if_any : Option Span → List Span
if_any None = []
if_any (Some at) = at ∷ []

-- Where some calls call a node, once those are replaced that are inlined: each of these has the first call of its node, and none if that has a contract.
abbrev pub called_at : (List ℕ → Form) → List Call → List Span
called_at forms [] = []
called_at forms (c ∷ cs) = (if c.inlined then (if (forms c.node).bound then [] else if_any (forms c.node).first_call) else c.at ∷ []) ++ called_at forms cs

-- where they inline a node with a contract
abbrev pub bound_at : (List ℕ → Form) → List Call → List Span
bound_at forms [] = []
bound_at forms (c ∷ cs) = (if c.inlined then (if (forms c.node).bound then c.at ∷ [] else []) else []) ++ bound_at forms cs

-- where a variable is an integer
abbrev pub integer_of : Span → Ty → List Span
integer_of at ty.Int = at ∷ []
integer_of at ty.Bool = []
integer_of at (ty.Enum t) = []

abbrev pub integers_at : List Decl → List Span
integers_at [] = []
integers_at (d ∷ ds) = integer_of d.span d.ty ++ integers_at ds

-- the first place in the text
abbrev pub first : List Span → Option Span
first places = fold (sooner itself) None places

-- a breach of a shape at a place, and the first of two
abbrev pub of_shape : Shape → Option Span → Option (Span × Shape)
of_shape shape place = option_map (λ (at : Span). (at, shape)) place

abbrev pub earlier : Option (Span × Shape) → Option (Span × Shape) → Option (Span × Shape)
earlier a b = merged (λ (x : Span × Shape). x.0) a b

-- the first breach of a node
abbrev pub breach_of : (List ℕ → Form) → Node → Option (Span × Shape)
breach_of forms n =
    let contract = (in_contract n.contract).calls in
    earlier (earlier (of_shape CallShape (first (called_at forms contract))) (of_shape Inline (first (bound_at forms contract))))
    (earlier (of_shape WrongType (first (integers_at (controls_of n.contract)))) (of_shape Inline (first (bound_at forms (in_block n.body).calls))))

abbrev pub form_of : (List ℕ → Form) → Node → Form
form_of forms n = record { bound = is_some n.contract; first_call = first (called_at forms (in_block n.body).calls) }

abbrev pub with_form : (List ℕ → Form) → List ℕ → Form → List ℕ → Form
with_form forms f form x = if bytes_eq f x then form else forms x

abbrev pub none_known : List ℕ → Form
none_known f = record { bound = false; first_call = None }

-- the first node that breaks a shape, with its first breach
abbrev pub or_behind : List ℕ → Option (Span × Shape) → Option (List ℕ × Span × Shape) → Option (List ℕ × Span × Shape)
or_behind f None behind = behind
or_behind f (Some b) behind = Some (f, b.0, b.1)

abbrev pub first_in : (List ℕ → Form) → List Item → Option (List ℕ × Span × Shape)
first_in forms [] = None
first_in forms (TypeItem t ∷ items) = first_in forms items
first_in forms (NodeItem n ∷ items) = or_behind n.name (breach_of forms n) (first_in (with_form forms n.name (form_of forms n)) items)

abbrev pub first_shape : List Item → Option (List ℕ × Span × Shape)
first_shape program = first_in none_known program
