-- A node without automata is sound.
use Rattle.std.proofs.Common.{◌≡◌, ℕ, ⊎_elim, Bool, true, false, ◌||◌, List, [], ◌∷◌, ◌++◌, refl, sym, ap, ◌∙◌, subst}
use Rattle.std.specs.Prelude.{IsTrue, IsFalse, Option, None, Some, option_map}
use Rattle.hp_base.specs.declared.span.Span.{Span}
use Rattle.hp_base.specs.declared.ty.Ty.{Ty}
use Rattle.hp_base.specs.declared.ty.Const.{Const}
use Rattle.hp_base.specs.declared.ty.Const.TheVariants as const
use Rattle.hp_tree.specs.Expressions.{Expr}
use Rattle.hp_tree.specs.Blocks.{Decl, Block, block}
use Rattle.hp_tree.specs.Programs.{TypeDecl, Contract, Node}
use Rattle.hp_tree.specs.Meaning.{declares, block_defines, controls_of}
use Rattle.hp_base.specs.Known.Known.{lookup, with_entry}
use Rattle.hp_typing.specs.Scopes.{with_variables, inside, inside_node}
use Rattle.hp_meaning.specs.Clocking.Clocking.{AreOnce}
use Rattle.law_judged.specs.Named.Scopes.{Scope}
use Rattle.law_judged.specs.Named.Scoped.{Names, no_names, also, interface, NodeScoped, ContractScoped}
use Rattle.law_judged.proofs.NamedLemmas.Sets.{or_cases, or_left, or_right}
use Rattle.law_values.specs.Valued.Judged.{Lasts, ConstantIs, no_lasts, lasts_in, lasts_of, HaveOwnTypes, HaveEquations, TestSound, BlockSound, ToldSound, ContractSound, NodeSound}
use Rattle.law_values.proofs.ValuedLemmas.Scoped.{not_declared}
use Rattle.law_values.proofs.AcceptedLemmas.Keeps.{Grows}
use Rattle.law_values.proofs.AcceptedLemmas.Views.{own_types, declared_type}
use Rattle.hp_automata.specs.Renaming.{renamed_decls}
use Rattle.hp_automata.specs.Lowering.{Types, Enumerations, declaring, same_name, some_constant, types_of, lowered_body_of, lowered_contract, lowered_node}
use Rattle.law_automata.specs.Lowered.OldNames.{IsOld}
use Rattle.law_automata.specs.Lowered.Removable.{none_known, BlockOk, ContractOk, AllOldDecls, NodeOk}
use Rattle.law_automata.proofs.LoweredLemmas.Defined.{block_complete}
use Rattle.law_automata.proofs.LoweredLemmas.Nodes.{itself_renames}
use Rattle.law_automata.specs.Readied.Constants.{HasConstant, DeclTypes, ContractTypes, NodeTypes}
use Rattle.law_automata.specs.Readied.Sound.{AroundOld, IsGround, SoundLaw}
use Rattle.law_automata.proofs.ReadiedLemmas.Places.{scope_renamed, lasts_renamed, scope_append, types_by, both_types, constant_more, decl_type, Place}
use Rattle.law_automata.proofs.ReadiedLemmas.SoundStates.{own_last}
use Rattle.law_automata.proofs.ReadiedLemmas.Sound.{block_sound}

first_false : (a b : Bool) → IsFalse (a || b) → IsFalse a
first_false true b h = absurd (cc h)
first_false false b h = refl

second_false : (a b : Bool) → IsFalse (a || b) → IsFalse b
second_false true b h = absurd (cc h)
second_false false b h = h

constant_more_variable : (types : List TypeDecl) (s : Scope) (d : Decl) (c : Const) → ConstantIs types s c → ConstantIs types (record s { variables = with_entry s.variables d.name d.ty }) c
constant_more_variable types s d (const.B b) h = h
constant_more_variable types s d (const.I i) h = h
constant_more_variable types s d (const.E c) h = h

grounds_more : (types : List TypeDecl) (among : List ℕ → Option Node) (ds : List Decl) (s : Scope) → IsGround types among s → IsGround types among (with_variables s ds)
grounds_more types among [] s g = g
grounds_more types among (d ∷ ds) s g = grounds_more types among ds (record s { variables = with_entry s.variables d.name d.ty }) ((λ c. constant_more_variable types s d c (g.0 c)), g.1)

module _ (types : List TypeDecl) (among : List ℕ → Option Node) (enums : Enumerations) (s : Scope) (n : Node) (grounds : IsGround types among s) (empty : (x : List ℕ) → lookup s.variables x ≡ None) (once : AreOnce (n.inputs ++ n.outputs)) (has : DeclTypes (HasConstant enums s) n.outputs) where
  same_grounds : (r : Scope) → IsGround types among r → Grows types among r r
  same_grounds r g = record { conses = λ c t h. h; nodes = λ f m h. (m, (h, (refl, refl))); constants = g.0; known = g.1 }

  -- the scope that the types of the node are
  abbrev alone : Scope
  alone = record s { variables = [] }

  types_are : (with_variables (with_variables alone n.inputs) n.outputs).variables ≡ types_of n
  types_are = types_by n.outputs (with_variables alone n.inputs) ∙ ap (λ z. declaring z n.outputs) (types_by n.inputs alone)

  own_alone : HaveOwnTypes types among (with_variables (with_variables alone n.inputs) n.outputs) n.outputs
  own_alone =
      subst (λ z. HaveOwnTypes types among z n.outputs) (scope_append n.inputs n.outputs alone)
      (own_last types among (with_variables alone (n.inputs ++ n.outputs)) n.inputs n.outputs (own_types types among (n.inputs ++ n.outputs) alone once (λ x q. refl)))

  -- a block of the node, where these names are around besides
  module _ (cs : List Decl) (own : Names) (own_is : (x : List ℕ) → IsTrue (own x) → IsTrue (declares n.outputs x)) (lasts : Lasts) (old : (x : List ℕ) → IsTrue (also (interface n) cs x) → IsOld x)
      (inputs : HaveOwnTypes types among (with_variables (inside_node s n) cs) n.inputs) (outputs : HaveOwnTypes types among (with_variables (inside_node s n) cs) n.outputs) (controls : HaveOwnTypes types among (with_variables (inside_node s n) cs) cs) where
    abbrev r : Scope
    r = with_variables (inside_node s n) cs

    in_grounds : IsGround types among r
    in_grounds = grounds_more types among cs (inside_node s n) (grounds_more types among n.outputs (with_variables s n.inputs) (grounds_more types among n.inputs s grounds))

    not_known : (x : List ℕ) → IsFalse (also (interface n) cs x) → lookup r.variables x ≡ None
    not_known x h =
        let inner : IsFalse (interface n x) = second_false (declares cs x) (interface n x) h in
        let first : IsFalse (also no_names n.inputs x) = second_false (declares n.outputs x) (also no_names n.inputs x) inner in
        not_declared x cs (inside_node s n) (first_false (declares cs x) (interface n x) h) ∙ not_declared x n.outputs (with_variables s n.inputs) (first_false (declares n.outputs x) (also no_names n.inputs x) inner)
        ∙ not_declared x n.inputs s (first_false (declares n.inputs x) false first) ∙ empty x

    no_type : (x : List ℕ) → IsFalse (also (interface n) cs x) → lookup (types_of n) x ≡ None
    no_type x h =
        let inner : IsFalse (interface n x) = second_false (declares cs x) (interface n x) h in
        let first : IsFalse (also no_names n.inputs x) = second_false (declares n.outputs x) (also no_names n.inputs x) inner in
        ap (λ z. lookup z x) (sym types_are) ∙ not_declared x n.outputs (with_variables alone n.inputs) (first_false (declares n.outputs x) (also no_names n.inputs x) inner)
        ∙ not_declared x n.inputs alone (first_false (declares n.inputs x) false first)

    is_known : (x : List ℕ) → IsTrue (also (interface n) cs x) → (t : Ty) × (lookup r.variables x ≡ Some t)
    is_known x h =
        ⊎_elim (λ q. declared_type types among r cs x controls q)
        (λ q. ⊎_elim (λ z. declared_type types among r n.outputs x outputs z) (λ z. declared_type types among r n.inputs x inputs (⊎_elim (λ w. w) (λ w. absurd (cc w)) (or_cases (declares n.inputs x) false z))) (or_cases (declares n.outputs x) (also no_names n.inputs x) q))
        (or_cases (declares cs x) (interface n x) h)

    pub place : Place types among enums s 0 same_name (types_of n) r r lasts lasts (also (interface n) cs) own
    place = record {
      grows = same_grounds r in_grounds;
      same = same_grounds r in_grounds;
      names = λ x t h. h;
      itself = λ x t h. h;
      lasting = λ x h. h;
      old = old;
      known = is_known;
      unknown = not_known;
      none = λ y h b. not_known y h;
      typed = λ x t q h. ap (λ z. lookup z x) (sym types_are) ∙ both_types types among r (with_variables (with_variables alone n.inputs) n.outputs) n.outputs x t outputs own_alone (own_is x q) h;
      untyped = no_type;
      own_seen = λ x q. or_right (declares cs x) (interface n x) (or_left (declares n.outputs x) (also no_names n.inputs x) (own_is x q));
      constants = λ t h.
          let g = same_grounds s grounds in
          let g1 = same_grounds (with_variables s n.inputs) (grounds_more types among n.inputs s grounds) in
          let g2 = same_grounds (inside_node s n) (grounds_more types among n.outputs (with_variables s n.inputs) (grounds_more types among n.inputs s grounds)) in
          constant_more types among (inside_node s n) cs g2 (some_constant enums t) t (constant_more types among (with_variables s n.inputs) n.outputs g1 (some_constant enums t) t (constant_more types among s n.inputs g (some_constant enums t) t h));
      own_types = λ x t q h. decl_type types among enums s r n.outputs x t outputs has (own_is x q) h;
    }

-- conditions of a contract see the same
told_same : (types : List TypeDecl) (among : List ℕ → Option Node) (enums : Enumerations) (tys : Types) (sp : Span) (s : Scope) (lasts : Lasts) (b : Block) (o : Option Expr) → ToldSound types among (inside s b) (lasts_of b lasts) o
    → ToldSound types among (inside s (lowered_body_of enums tys sp b)) (lasts_of (lowered_body_of enums tys sp b) lasts) o
told_same types among enums tys sp s lasts b None h = tt
told_same types among enums tys sp s lasts (block ds es) (Some e) h =
    subst (λ z. TestSound types among z (lasts_in (renamed_decls same_name ds) lasts) e) (sym (scope_renamed same_name ds s)) (subst (λ z. TestSound types among (with_variables s ds) z e) (sym (lasts_renamed same_name ds lasts)) h)

controls_same : (enums : Enumerations) (tys : Types) (o : Option Contract) → controls_of (option_map (lowered_contract enums tys) o) ≡ controls_of o
controls_same enums tys None = refl
controls_same enums tys (Some c) = refl

module _ (types : List TypeDecl) (among : List ℕ → Option Node) (enums : Enumerations) where
  equations_same : (tys : Types) (sp : Span) (b : Block) → BlockOk none_known 0 b → (ds : List Decl) → AllOldDecls ds → HaveEquations types among b ds → HaveEquations types among (lowered_body_of enums tys sp b) ds
  equations_same tys sp b ok [] o h = tt
  equations_same tys sp b ok (d ∷ ds) o h = (
    (block_complete enums itself_renames tys sp [] b ok (λ x q. absurd cc) d.name o.0 (or_left (block_defines b d.name) false h.0.0), h.0.1),
    equations_same tys sp b ok ds o.1 h.1,
  )

  contract_sound : (s : Scope) (n : Node) → IsGround types among s → ((x : List ℕ) → lookup s.variables x ≡ None) → AreOnce (n.inputs ++ n.outputs) → DeclTypes (HasConstant enums s) n.outputs → (lasts : Lasts) → ((x : List ℕ) → IsTrue (interface n x) → IsOld x)
      → HaveOwnTypes types among (inside_node s n) n.inputs → HaveOwnTypes types among (inside_node s n) n.outputs → (o : Option Contract) → ContractOk o → ContractScoped (interface n) o → ContractTypes (HasConstant enums s) o → ContractSound types among (inside_node s n) lasts o
      → ContractSound types among (inside_node s n) lasts (option_map (lowered_contract enums (types_of n)) o)
  contract_sound s n g e once has lasts old i u None ok sc t h = tt
  contract_sound s n g e once has lasts old i u (Some c) ok sc t h = (
    block_sound types among enums s itself_renames (place types among enums s n g e once has [] no_names (λ x q. absurd (cc q)) lasts old i u tt) c.span [] c.body ok.0 sc t h.0 (λ x q. absurd cc) (λ x q. absurd cc),
    (
      told_same types among enums (types_of n) c.span (inside_node s n) lasts c.body c.assume h.1.0,
      told_same types among enums (types_of n) c.span (inside_node s n) lasts c.body c.enforce h.1.1,
    ),
  )

  abbrev Pieces : Scope → Node → Option Contract → Block → List Decl → Type 0
  Pieces s n o b cs =
      (HaveOwnTypes types among (inside_node s n) n.inputs × HaveOwnTypes types among (inside_node s n) n.outputs)
      × ((HaveOwnTypes types among (with_variables (inside_node s n) cs) n.inputs × HaveOwnTypes types among (with_variables (inside_node s n) cs) n.outputs)
      × (HaveOwnTypes types among (with_variables (inside_node s n) cs) cs
      × (HaveEquations types among b n.outputs × (BlockSound types among (with_variables (inside_node s n) cs) (lasts_in n.outputs no_lasts) b × ContractSound types among (inside_node s n) (lasts_in n.outputs no_lasts) o))))

  node_sound : (s : Scope) (n : Node) → IsGround types among s → ((x : List ℕ) → lookup s.variables x ≡ None) → NodeTypes (HasConstant enums s) n → AroundOld n → NodeScoped n → NodeOk n → NodeSound types among s n → NodeSound types among s (lowered_node enums n)
  node_sound s n g e t old sc ok h =
      let cs = controls_of n.contract in
      let lasts = lasts_in n.outputs no_lasts in
      let p = place types among enums s n g e sc.once t.0 cs (also no_names n.outputs) (λ x q. ⊎_elim (λ w. w) (λ w. absurd (cc w)) (or_cases (declares n.outputs x) false q)) lasts old h.1.0.0 h.1.0.1 h.1.1.0 in
      subst (Pieces s n (option_map (lowered_contract enums (types_of n)) n.contract) (lowered_body_of enums (types_of n) n.span n.body)) (sym (controls_same enums (types_of n) n.contract)) (
        h.0,
        (
          h.1.0,
          (
            h.1.1.0,
            (
              equations_same (types_of n) n.span n.body ok.body n.outputs ok.outputs h.1.1.1.0,
              (
                block_sound types among enums s itself_renames p n.span [] n.body ok.body sc.body t.1.1 h.1.1.1.1.0 (λ x q. absurd cc) (λ x q. absurd cc),
                contract_sound s n g e sc.once t.0 lasts (λ x q. old x (or_right (declares cs x) (interface n x) q)) h.0.0 h.0.1 n.contract ok.contract sc.contract t.1.0 h.1.1.1.1.1,
              ),
            ),
          ),
        ),
      )

pub sound_law : SoundLaw
sound_law types among enums s n g e t old sc ok h = node_sound types among enums s n g e t old sc ok h
