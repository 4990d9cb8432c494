-- The instance of a called node fits: its outputs are given, and its contract calls nothing.
use Rattle.std.proofs.Common.{◌≡◌, ℕ, List, [], ◌∷◌, refl, sym, ap, subst, ◌∙◌, inl}
use Rattle.std.proofs.Math.Path.{fun_ext}
use Rattle.std.proofs.lemmas.Slice.Eq.{bytes_eq-Decides}
use Rattle.std.specs.Str.{bytes_eq}
use Rattle.std.specs.Prelude.{Bool, true, false, ◌||◌, IsTrue, if◌then◌else◌, Option, Some}
use Rattle.hp_base.specs.declared.ty.Const.{Const}
use Rattle.hp_base.specs.declared.ty.Ty.{Ty}
use Rattle.hp_base.specs.declared.value.Value.{Value}
use Rattle.hp_base.specs.declared.value.Value.TheVariants.{Absent, Nil}
use Rattle.hp_tree.specs.Blocks.{Decl}
use Rattle.hp_tree.specs.Programs.{TypeDecl, Node}
use Rattle.hp_tree.specs.Operators.{constant_of, marked}
use Rattle.hp_tree.specs.Instant.{Inputs, Body, Named, Fresh, Observer, Assume, Enforce, Place, Instant, Past, Given, part}
use Rattle.hp_tree.specs.Meaning.{Names, declares, lasts as lasts_said, previous, input_of, no_nodes}
use Rattle.hp_tree.specs.Reaction.{Each, row_of}
use Rattle.hp_base.specs.Known.Known.{lookup}
use Rattle.hp_typing.specs.Scopes.{inside_node}
use Rattle.law_judged.specs.Typed.Scopes.{Scope}
use Rattle.hp_init.specs.Classes.{Assignment}
use Rattle.hp_meaning.specs.Causal.Abstract.{given_outputs, contract_alone}
use Rattle.hp_meaning.specs.Causal.Sources.{only, below}
use Rattle.hp_meaning.specs.Causal.WhatIsRead.{output_in}
use Rattle.hp_meaning.specs.Causal.Causality.{Ranked}
use Rattle.hp_meaning.specs.Causal.Clocked.{on_base, ClocksRight}
use Rattle.law_values.specs.Valued.Judged.{no_lasts, lasts_in, HaveOwnTypes, PlainContract}
use Rattle.law_values.proofs.ValuedLemmas.Both.{NodeOk}
use Rattle.law_games.proofs.SettledLemmas.Calling.{ContractCalls}
use Rattle.law_games.specs.Wiretyped.Typed.{IsWire, AreWires}
use Rattle.law_games.specs.Wiretyped.Kept.{OutputsGiven}
use Rattle.law_games.proofs.WiretypedLemmas.Contracts.{given_typed, given_at, given_other}
use Rattle.law_games.specs.Abstracted.Fitting.{OutputsFit, ContractFits}
use Rattle.law_games.specs.Abstracted.Given.{reading}
use Rattle.law_games.specs.Abstracted.Instances.{none_fits, any_given, read_names, InstanceFits, InstanceGiven}
use Rattle.law_games.proofs.AbstractedLemmas.Laws.{value_of, or_either, not_both}
use Rattle.law_games.proofs.AbstractedLemmas.ExprTops.{Callees}
use Rattle.law_games.proofs.AbstractedLemmas.Gives.{HasLasts}
use Rattle.law_games.proofs.AbstractedLemmas.Loosen.{contract_loose}
use Rattle.law_games.proofs.AbstractedLemmas.NodeBody.{row_is, input_is, output_at, last_output}
use Rattle.law_games.proofs.AbstractedLemmas.NodeContract.{each_as}
use Rattle.law_games.proofs.AbstractedLemmas.NodeWhole.{based, contract_of}
use Rattle.law_games.proofs.AbstractedLemmas.OkAlone.{no_node, contract_alone_ok}

-- a name that is declared first, or later
here : (x : List ℕ) (b : Bool) → IsTrue (bytes_eq x x || b)
here x b = by (bytes_eq x x) ((bytes_eq-Decides x x).1 refl)
  where
    by : (c : Bool) → IsTrue c → IsTrue (c || b)
    by true h = refl
    by false h = absurd (cc)

there : (y x : List ℕ) (b : Bool) → IsTrue b → IsTrue (bytes_eq y x || b)
there y x b h = by (bytes_eq y x)
  where
    by : (c : Bool) → IsTrue (c || b)
    by true = refl
    by false = h

abbrev nil : Value → Value
nil given = Nil

module _ (types : List TypeDecl) where
  none_known : Callees types true (reading nil) no_nodes no_node none_fits any_given
  none_known = record { outputs = λ f n e. absurd (cc); fit = λ f n inputs g i e v a gv h. absurd (cc); gives = λ f n i e h. absurd h }

  module _ (among : List ℕ → Option Node) (s : Scope) (class : Assignment) (n : Node) (o : Ranked n) (right : ClocksRight n) (plain : PlainContract n.contract) (ok : NodeOk types among s class n) (k : ContractCalls false n.contract) where
    abbrev sc : Scope
    sc = inside_node s n

    module _ (inputs : List Value) (g : Given) (i : Instant) (vf : AreWires types n.inputs inputs) (gv : InstanceGiven types true nil s n g.free) (past : Each (InstanceFits types true s class n) g.past)
        (m : (p : Place) → i p ≡ contract_alone types n inputs g i p) where
      abbrev no_value : Names
      no_value x = Absent

      abbrev outer : Names
      outer = input_of n.inputs inputs (λ x. Absent)

      abbrev names : Names
      names = given_outputs n.outputs g.free (input_of n.inputs inputs (λ x. Absent))

      last : Names
      last = lasts_said (λ (k : Const). marked (constant_of types k)) n.outputs g.past (λ x. Absent)

      output_typed : (x : List ℕ) (t : Ty) → lookup sc.variables x ≡ Some t → IsTrue (declares n.outputs x) → (out : Names) → IsWire types t (given_outputs n.outputs g.free out x)
      output_typed x t l d out = subst (λ v. IsWire types t v) (sym (given_at n.outputs g.free out x d)) (given_typed types among sc n.outputs g.free x t gv.0 ok.0.1 l d)

      outputs_fit : (ds : List Decl) → OutputsGiven types ds g.free → (more : Names) → ((x : List ℕ) (t : Ty) → lookup sc.variables x ≡ Some t → IsTrue (declares ds x) → IsTrue (declares n.outputs x)) → HaveOwnTypes types among sc ds → OutputsFit types ds i
      outputs_fit [] gs more f h = tt
      outputs_fit (d ∷ ds) gs more f h = (
        subst (λ v. IsWire types d.ty v) (sym (m (Named d.name ∷ []))) (output_typed d.name d.ty h.0 (f d.name d.ty h.0 (here d.name (declares ds d.name))) (λ x. Absent)),
        outputs_fit ds gs.1 more (λ x t l e. f x t l (there d.name x (declares ds x) e)) h.1,
      )

      row : row_of n.inputs (part Inputs i) ≡ inputs
      row = row_is types n.inputs inputs (part Inputs i) vf (λ p. m (Inputs ∷ p))

      same_names : read_names n i ≡ names
      same_names = fun_ext (λ x. by x (declares n.outputs x) refl)
        where
          by : (x : List ℕ) (d : Bool) → declares n.outputs x ≡ d → read_names n i x ≡ names x
          by x true e =
              ap (λ (b : Bool). if b then i (Named x ∷ []) else input_of n.inputs (row_of n.inputs (part Inputs i)) (λ y. Absent) x) e
              ∙ m (Named x ∷ []) ∙ given_at n.outputs g.free (λ y. Absent) x e ∙ sym (given_at n.outputs g.free (input_of n.inputs inputs (λ x. Absent)) x e)
          by x false e =
              ap (λ (b : Bool). if b then i (Named x ∷ []) else input_of n.inputs (row_of n.inputs (part Inputs i)) (λ y. Absent) x) e
              ∙ ap (λ vs. input_of n.inputs vs (λ y. Absent) x) row ∙ sym (given_other n.outputs g.free (input_of n.inputs inputs (λ x. Absent)) x e)

      previous_is : (x : List ℕ) (t : Ty) (past : Past) → Each (InstanceFits types true s class n) past → IsTrue (declares n.outputs x) → lookup sc.variables x ≡ Some t → (v : Value) → IsWire types t v → IsWire types t (previous past x v)
      previous_is x t [] a d l v h = h
      previous_is x t (j ∷ past) a d l v h = output_at types true nil no_nodes no_node none_fits any_given none_known sc n.outputs j x t ok.0.1 a.0.0 d l

      has_lasts : HasLasts types sc (lasts_in n.outputs no_lasts) (lasts_said (λ (k : Const). marked (constant_of types k)) n.outputs g.past (λ x. Absent))
      has_lasts x h = last_output types true nil no_nodes no_node none_fits any_given none_known sc n.body x g.past n.outputs ok.0.1 ok.1.1.1.0 (λ z t l v k. previous_is x t g.past past z l v k) h

      named : (x : List ℕ) (t : Ty) (d : Bool) → declares n.outputs x ≡ d → on_base (declares n.inputs x || declares n.outputs x) ≡ Some [] → lookup sc.variables x ≡ Some t → IsWire types t (names x)
      named x t true e b l = output_typed x t l e (input_of n.inputs inputs (λ x. Absent))
      named x t false e b l =
          subst (λ v. IsWire types t v) (sym (given_other n.outputs g.free (input_of n.inputs inputs (λ x. Absent)) x e))
          (input_is types true nil no_nodes no_node none_fits any_given none_known sc n.inputs inputs (λ x. Absent) x t ok.0.0 vf l
          (or_either (declares n.inputs x) (declares n.outputs x) (based _ b) (λ h. inl h) (λ h. not_both (declares n.outputs x) h e)))

      contract_fits : ContractFits types true none_fits sc class names n.contract i
      contract_fits =
          contract_of types true nil no_nodes no_node none_fits any_given none_known sc (λ x. on_base (declares n.inputs x || declares n.outputs x)) (lasts_in n.outputs no_lasts) class names
          (lasts_said (λ (k : Const). marked (constant_of types k)) n.outputs g.past (λ x. Absent)) o.rank (output_in n (below Body only)) g i has_lasts n.contract plain right.contract
          (contract_alone_ok types among n.contract sc (lasts_in n.outputs no_lasts) class k ok.1.1.1.1.1) gv.1
          (each_as (InstanceFits types true s class n) _ g.past (λ j z. contract_loose types true none_fits n.contract sc class (read_names n j) j z.1.1.1.1) past)
          (λ b x t d f e l. value_of types t d (names x) (named x t (declares n.outputs x) refl e l)) (λ p. o.falls (Observer ∷ p)) (λ p. m (Observer ∷ p)) (λ p. m (Assume ∷ p)) (λ p. m (Enforce ∷ p))

      pub instance_fits : InstanceFits types true s class n i
      instance_fits = (
        outputs_fit n.outputs gv.0 (λ x. Absent) (λ x t l e. e) ok.0.1,
        (
          subst (λ vs. AreWires types n.inputs vs) (sym row) vf,
          (
            m (Fresh ∷ []),
            (
              (λ x d. m (Named x ∷ []) ∙ given_other n.outputs g.free (λ y. Absent) x d),
              subst (λ names. ContractFits types true none_fits sc class names n.contract i) (sym same_names) contract_fits,
            ),
          ),
        ),
      )
