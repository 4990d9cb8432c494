-- What the machines of a program have of its nodes.
use Rattle.std.proofs.Common.{◌≡◌, ℕ, zero, suc, ◌+◌, ◌≤◌, ◌⊎◌, inl, inr, Bool, true, false, List, [], ◌∷◌, ◌++◌, length, map, Some, None, is_some, refl, sym, ap, subst, ◌∙◌, arith}
use Rattle.std.specs.Prelude.{Option, IsSome, IsTrue, get_or, slice_get, if◌then◌else◌, min, option_map}
use Rattle.std.specs.List.{All}
use Rattle.std.specs.Str.{bytes_eq}
use Rattle.std.proofs.lemmas.Option.{get_or_from_slice_get}
use Rattle.std.proofs.lemmas.List.Elements.{All-head, All-tail}
use Rattle.std.proofs.lemmas.Slice.Eq.{bytes_eq-Decides}
use Rattle.hp_base.specs.Kinds.{Constructors}
use Rattle.hp_base.specs.declared.ty.Ty.{Ty}
use Rattle.hp_base.specs.declared.ty.Ty.TheVariants as ty
use Rattle.hp_flat.specs.Nodes.{FlatNode}
use Rattle.hp_flat.specs.declared.node.FlatTy.TheVariants.{Int as FlatInt}
use Rattle.hp_flat.specs.declared.node.Variable.{Variable}
use Rattle.hp_obc.specs.Form.{TypesForm, MachineForm, MachinesForm, HasObcForm, var_kinds, with_first, written, mem_vars, is_name}
use Rattle.hp_obc.specs.Machines.{ObcType, Machine}
use Rattle.hp_obc.specs.Values.{kind_of, enum_from}
use Rattle.hp_obc.specs.declared.machine.Var.{Var}
use Rattle.hp_tree.specs.Blocks.{Decl}
use Rattle.hp_tree.specs.Meaning.{controls_of}
use Rattle.hp_tree.specs.Programs.{Node, Contract}
use Rattle.hp_tree.specs.declared.program.Item.{Item}
use Rattle.hp_tree.specs.declared.program.Item.TheVariants.{TypeItem, NodeItem}
use Rattle.hp_automata.specs.Lowering.{Enumerations, Types, lowered_item, lowered_contract, lowered_program, enumerations}
use Rattle.hp_automata.specs.Lowering as lowering
use Rattle.law_equations.specs.Made.Making.{type_number, flat_type}
use Rattle.hp_complete.specs.Declaring.{known_of}
use Rattle.hp_complete.specs.Made.{AreMadeOf}
use Rattle.hp_complete.specs.Signatures.{numbered, type_names, places_of, variables_of, IsSigned, AreFlat}
use Rattle.hp_toobc.specs.Making.{declared}
use Rattle.hp_toobc.specs.Tables.{variable_at, type_at, type_of}
use Rattle.hp_machines.specs.Machined.{AreMachinesOf, Heading, heading_of_machine, heading_of_node, headings_of, vars_of}
use Rattle.law_equations.specs.Made.Types.{obc_type_of, obc_types_of}
use Rattle.hp_machines.specs.Flattened.{heading_of_flat}
use Rattle.hp_machines.specs.Making.{AreMade}
use Rattle.hp_machines.proofs.MakingLaws.{headings-made}

-- ---- types by number

abbrev pub names_of : List ObcType → List (List ℕ)
names_of types = map (λ (t : ObcType). t.name) types

-- a name has a place among the types, or no type has it
abbrev HasPlace : List ObcType → ℕ → List ℕ → Type 0
HasPlace types k x = (j : ℕ) × (numbered k (map (λ (t : ObcType). t.name) types) x ≡ Some (k + j)) × ((type_at types j).name ≡ x) × (suc j ≤ length types)

abbrev HasNone : List ObcType → ℕ → ℕ → List ℕ → Type 0
HasNone types n k x = (numbered k (map (λ (t : ObcType). t.name) types) x ≡ None) × (enum_from n types x ≡ None)

module _ (t : ObcType) (types : List ObcType) (n k : ℕ) (x : List ℕ) where
  further : bytes_eq t.name x ≡ false → HasPlace types (k + 1) x ⊎ HasNone types (suc n) (k + 1) x → HasPlace (t ∷ types) k x ⊎ HasNone (t ∷ types) n k x
  further e (inl p) =
      let at : numbered (k + 1) (map (λ (u : ObcType). u.name) types) x ≡ Some (k + suc p.0) = p.1 ∙ ap Some (let same : (k + 1) + p.0 ≡ k + suc p.0 = omega arith in same) in
      let within = p.3 in
      inl (suc p.0, ap (λ d. if d then Some k else numbered (k + 1) (map (λ (u : ObcType). u.name) types) x) e ∙ at, p.2, omega (arith, within))
  further e (inr p) =
      inr (
        ap (λ d. if d then Some k else numbered (k + 1) (map (λ (u : ObcType). u.name) types) x) e ∙ p.0,
        ap (λ d. if d then Some (Constructors n t.cons) else enum_from (suc n) types x) e ∙ p.1,
      )

  one_more : (d : Bool) → bytes_eq t.name x ≡ d → HasPlace types (k + 1) x ⊎ HasNone types (suc n) (k + 1) x → HasPlace (t ∷ types) k x ⊎ HasNone (t ∷ types) n k x
  one_more true e rest =
      let first : Some k ≡ Some (k + 0) = ap Some (let same : k ≡ k + 0 = omega arith in same) in
      inl (0, ap (λ d. if d then Some k else numbered (k + 1) (map (λ (u : ObcType). u.name) types) x) e ∙ first, (bytes_eq-Decides t.name x).0 e, omega arith)
  one_more false e rest = further e rest

placed : (types : List ObcType) (n k : ℕ) (x : List ℕ) → HasPlace types k x ⊎ HasNone types n k x
placed [] n k x = inr (refl, refl)
placed (t ∷ types) n k x = one_more t types n k x (bytes_eq t.name x) refl (placed types (suc n) (k + 1) x)

-- ---- lists

past_end : {X : Type 0} (xs : List X) (i : ℕ) (d : X) → length xs ≤ i → get_or xs i d ≡ d
past_end [] i d h = refl
past_end (x ∷ xs) zero d h = absurd (omega (arith, h))
past_end (x ∷ xs) (suc i) d h = past_end xs i d (omega (arith, h))

both_some : {A : Type 0} (x : Option A) (xs : Option (List A)) → IsSome (with_first x xs) → IsSome x × IsSome xs
both_some None xs h = absurd (cc)
both_some (Some x) None h = absurd (cc)
both_some (Some x) (Some xs) h = (refl, refl)

from_both : {A : Type 0} (x : Option A) (xs : Option (List A)) → IsSome x → IsSome xs → IsSome (with_first x xs)
from_both None xs h k = absurd (cc)
from_both (Some x) None h k = absurd (cc)
from_both (Some x) (Some xs) h k = refl

-- where all have kinds, those in front have, and those behind
pub kinds_apart : (types : List ObcType) (xs ys : List Var) → IsSome (var_kinds types (xs ++ ys)) → IsSome (var_kinds types xs) × IsSome (var_kinds types ys)
kinds_apart types [] ys h = (refl, h)
kinds_apart types (x ∷ xs) ys h =
    let parts = both_some (kind_of types x.ty) (var_kinds types (xs ++ ys)) h in
    let rest = kinds_apart types xs ys parts.1 in
    (from_both (kind_of types x.ty) (var_kinds types xs) parts.0 rest.0, rest.1)

-- no type has the empty name
not_empty : (y : List ℕ) → IsTrue (is_name y) → bytes_eq y [] ≡ false
not_empty [] e = absurd cc
not_empty (b ∷ y) e = refl

no_empty : (types : List ObcType) (n : ℕ) → All (λ y. IsTrue (is_name y)) (names_of types) → enum_from n types [] ≡ None
no_empty [] n h = refl
no_empty (t ∷ types) n h =
    let other = not_empty t.name (All-head (λ y. IsTrue (is_name y)) t.name (names_of types) h) in
    ap (λ d. if d then Some (Constructors n t.cons) else enum_from (suc n) types []) other ∙ no_empty types (suc n) (All-tail (λ y. IsTrue (is_name y)) t.name (names_of types) h)

-- no type has a number of which there are fewer
out_of_range : (types : List ObcType) (i : ℕ) → length types ≤ i → (type_at types i).name ≡ []
out_of_range types i h = ap (λ (t : ObcType). t.name) (past_end types i (record { name = []; cons = [] }) h)

-- ---- the type of a variable

module _ (types : List ObcType) (form : TypesForm types) where
  numbered_type : (x : List ℕ) → HasPlace types 0 x ⊎ HasNone types 0 0 x → IsSome (kind_of types (type_of types (flat_type (numbered 0 (names_of types)) (ty.Enum x)))) →
      type_of types (flat_type (numbered 0 (names_of types)) (ty.Enum x)) ≡ ty.Enum x
  numbered_type x (inl p) h =
      let number = form.number in
      let within = p.3 in
      let at : type_number (numbered 0 (names_of types) x) ≡ p.0 = ap type_number p.1 ∙ (let least : min (0 + p.0) 65535 ≡ p.0 = omega (arith, number, within) in least) in
      ap (λ i. ty.Enum (type_at types i).name) at ∙ ap ty.Enum p.2
  numbered_type x (inr p) h =
      let number = form.number in
      let at : (type_at types (type_number (numbered 0 (names_of types) x))).name ≡ [] =
      ap (λ o. (type_at types (type_number o)).name) p.0 ∙ out_of_range types 65535 (omega (arith, number)) in
      let none : kind_of types (type_of types (flat_type (numbered 0 (names_of types)) (ty.Enum x))) ≡ None = ap (λ y. enum_from 0 types y) at ∙ no_empty types 0 form.names.0 in
      absurd (let is_none : true ≡ false = sym h ∙ ap is_some none in cc)

  same_type : (t : Ty) → IsSome (kind_of types (type_of types (flat_type (numbered 0 (names_of types)) t))) → type_of types (flat_type (numbered 0 (names_of types)) t) ≡ t
  same_type ty.Bool h = refl
  same_type ty.Int h = refl
  same_type (ty.Enum x) h = numbered_type x (placed types 0 0 x) h

  pub same_vars : (ds : List Decl) → IsSome (var_kinds types (map (declared types) (variables_of (numbered 0 (names_of types)) ds))) →
      map (declared types) (variables_of (numbered 0 (names_of types)) ds) ≡ vars_of ds
  same_vars [] h = refl
  same_vars (d ∷ ds) h =
      let parts = both_some (kind_of types (type_of types (flat_type (numbered 0 (names_of types)) d.ty))) (var_kinds types (map (declared types) (variables_of (numbered 0 (names_of types)) ds))) h in
      λ i. record { name = d.name; ty = same_type d.ty parts.0 i } ∷ same_vars ds parts.1 i

  -- outputs, where these are their variables
  pub same_outputs : (vs : List Variable) (outs : List ℕ) (wanted : List Variable) → map (slice_get vs) outs ≡ map Some wanted →
      map (λ x. declared types (variable_at vs x)) outs ≡ map (declared types) wanted
  same_outputs vs [] [] h = refl
  same_outputs vs [] (w ∷ wanted) h = absurd (cc)
  same_outputs vs (x ∷ outs) [] h = absurd (cc)
  same_outputs vs (x ∷ outs) (w ∷ wanted) h =
      let first : slice_get vs x ≡ Some w = cc in
      let rest : map (slice_get vs) outs ≡ map Some wanted = cc in
      let at = get_or_from_slice_get vs x w (record { name = []; ty = FlatInt }) first in
      λ i. declared types (at i) ∷ same_outputs vs outs wanted rest i

  -- ---- a node

  module _ (n : Node) (f : FlatNode) (signed : IsSigned (numbered 0 (names_of types)) n f) (m : Machine) (same : heading_of_machine m ≡ heading_of_flat types f) where
    inputs_are : m.inputs ≡ map (declared types) (variables_of (numbered 0 (names_of types)) (n.inputs ++ controls_of n.contract))
    inputs_are = ap (λ (h : Heading). h.inputs) same ∙ ap (map (declared types)) signed.first

    outputs_are : m.outputs ≡ map (declared types) (variables_of (numbered 0 (names_of types)) n.outputs)
    outputs_are = ap (λ (h : Heading). h.outputs) same ∙ same_outputs f.variables f.outputs (variables_of (numbered 0 (names_of types)) n.outputs) signed.outputs

    pub same_heading : (earlier : List Machine) → MachineForm types earlier m → heading_of_machine m ≡ heading_of_node n
    same_heading earlier h =
        let all = kinds_apart types m.inputs (written m) h.kinds in
        let behind = kinds_apart types (m.outputs ++ m.vars) (mem_vars m.mems) all.1 in
        let outs = kinds_apart types m.outputs m.vars behind.0 in
        let inputs = inputs_are ∙ same_vars (n.inputs ++ controls_of n.contract) (subst (λ (vs : List Var). IsSome (var_kinds types vs)) inputs_are all.0) in
        let outputs = outputs_are ∙ same_vars n.outputs (subst (λ (vs : List Var). IsSome (var_kinds types vs)) outputs_are outs.0) in
        let name = ap (λ (g : Heading). g.name) same ∙ signed.name in
        λ i. record { name = name i; inputs = inputs i; outputs = outputs i }

  all_headings : (items : List Item) (fs : List FlatNode) (ms earlier : List Machine) → AreFlat (numbered 0 (names_of types)) items fs → map heading_of_machine ms ≡ map (heading_of_flat types) fs →
      MachinesForm types earlier ms → map heading_of_machine ms ≡ headings_of items
  all_headings [] [] ms earlier h e k = e
  all_headings [] (f ∷ fs) ms earlier h e k = absurd h
  all_headings (TypeItem t ∷ items) fs ms earlier h e k = all_headings items fs ms earlier h e k
  all_headings (NodeItem n ∷ items) [] ms earlier h e k = absurd h
  all_headings (NodeItem n ∷ items) (f ∷ fs) [] earlier h e k = absurd (cc)
  all_headings (NodeItem n ∷ items) (f ∷ fs) (m ∷ ms) earlier h e k =
      let first : heading_of_machine m ≡ heading_of_flat types f = cc in
      let rest : map heading_of_machine ms ≡ map (heading_of_flat types) fs = cc in
      let one = same_heading n f h.0.signed m first earlier k.0 in
      λ i. one i ∷ all_headings items fs ms (earlier ++ m ∷ []) h.1 rest k.1 i

-- ---- the program without automata

pub same_controls : (enums : Enumerations) (known : Types) (c : Option Contract) → controls_of (option_map (lowered_contract enums known) c) ≡ controls_of c
same_controls enums known None = refl
same_controls enums known (Some c) = refl

headings_lowered : (enums : Enumerations) (items : List Item) → headings_of (map (lowered_item enums) items) ≡ headings_of items
headings_lowered enums [] = refl
headings_lowered enums (TypeItem t ∷ items) = headings_lowered enums items
headings_lowered enums (NodeItem n ∷ items) =
    let controls = same_controls enums (lowering.types_of n) n.contract in
    λ i. record { name = n.name; inputs = vars_of (n.inputs ++ controls i); outputs = vars_of n.outputs } ∷ headings_lowered enums items i

pub names_lowered : (enums : Enumerations) (items : List Item) → type_names (map (lowered_item enums) items) ≡ type_names items
names_lowered enums [] = refl
names_lowered enums (TypeItem t ∷ items) = ap (λ xs. t.name ∷ xs) (names_lowered enums items)
names_lowered enums (NodeItem n ∷ items) = names_lowered enums items

pub names_of_types : (items : List Item) → type_names items ≡ names_of (obc_types_of items)
names_of_types [] = refl
names_of_types (TypeItem t ∷ items) = ap (λ xs. t.name ∷ xs) (names_of_types items)
names_of_types (NodeItem n ∷ items) = names_of_types items

-- the types of some items and of others behind them
pub obc_types_append : (items others : List Item) → obc_types_of (items ++ others) ≡ obc_types_of items ++ obc_types_of others
obc_types_append [] others = refl
obc_types_append (TypeItem t ∷ items) others = ap (λ ts. obc_type_of t ∷ ts) (obc_types_append items others)
obc_types_append (NodeItem n ∷ items) others = obc_types_append items others

-- ---- the machines

pub are_machines : (items lowered : List Item) (fs : List FlatNode) (types : List ObcType) (machines : List Machine) → types ≡ obc_types_of items → lowered ≡ lowered_program items →
    AreFlat (places_of lowered) lowered fs → AreMadeOf (known_of lowered) lowered fs → AreMade types fs machines → HasObcForm types machines → AreMachinesOf items (record { types = types; machines = machines })
are_machines items lowered fs types machines t l flat equations made form =
    let names : type_names lowered ≡ names_of types = ap type_names l ∙ names_lowered (enumerations [] items) items ∙ names_of_types items ∙ ap names_of (sym t) in
    let flat_there = subst (λ (xs : List (List ℕ)). AreFlat (numbered 0 xs) lowered fs) names flat in
    record {
      types = t;
      form = form.0;
      machines = all_headings types form.0 lowered fs machines [] flat_there (headings-made types fs machines made) form.1 ∙ ap headings_of l ∙ headings_lowered (enumerations [] items) items;
      nodes = fs;
      flat = subst (λ (p : List Item). AreFlat (places_of p) p fs) l flat;
      equations = subst (λ (p : List Item). AreMadeOf (known_of p) p fs) l equations;
      made = made;
    }
