-- What is given is apart from what the body declares and defines, where names are in their scopes.
use Rattle.std.proofs.Common.{◌≡◌, ℕ, ◌⊎◌, inl, inr, true, false, List, [], ◌∷◌, ◌++◌, refl, sym, ◌∙◌, subst}
use Rattle.std.specs.Prelude.{IsTrue}
use Rattle.std.specs.Str.{bytes_eq}
use Rattle.hp_tree.specs.Blocks.{Decl, Block, block}
use Rattle.hp_tree.specs.Programs.{Node}
use Rattle.hp_tree.specs.Meaning.{declares, controls_of}
use Rattle.hp_meaning.specs.Causal.WhatIsRead.{has_equation}
use Rattle.hp_meaning.specs.Clocking.Clocking.{AreOnce}
use Rattle.law_judged.specs.Named.Scoped.{Names, no_names, also, interface, AreFresh, BlockScoped, NodeScoped}
use Rattle.law_judged.proofs.NamedLemmas.Sets.{or_cases, or_left, or_right, false_if, same_name, name_same, declares_append}
use Rattle.law_judged.proofs.OnceLemmas.Renamed.{some_owned}
use Rattle.law_judged.specs.Replaced.Fitting.{NodeNames}
use Rattle.law_automata.specs.Lowered.OldNames.{IsOld}
use Rattle.law_choices.specs.Independent.Dependence.{locals, IsGiven}
use Rattle.law_choices.specs.Independent.Laws.{IsApart, AllInputs}
use Rattle.law_choices.specs.Undisturbed.Laws.{ControlsApart}

-- what is declared once among some and others is not declared in both
once_apart : (ds es : List Decl) → AreOnce (ds ++ es) → (x : List ℕ) → IsTrue (declares ds x) → IsTrue (declares es x) → ⊥
once_apart [] es o x h k = absurd (cc h)
once_apart (d ∷ ds) es o x h k = by (or_cases (bytes_eq d.name x) (declares ds x) h) (λ g. once_apart ds es o.1 x g k)
  where
    by : IsTrue (bytes_eq d.name x) ⊎ IsTrue (declares ds x) → (IsTrue (declares ds x) → ⊥) → ⊥
    by (inl e) rest =
        let there : IsTrue (declares (ds ++ es) d.name) =
        subst (λ z. IsTrue (declares (ds ++ es) z)) (sym (same_name d.name x e)) (subst IsTrue (sym (declares_append ds es x)) (or_right (declares ds x) (declares es x) k)) in
        let no : true ≡ false = sym there ∙ o.0 in
        absurd cc
    by (inr g) rest = rest g

fresh_locals : (seen own : Names) (b : Block) → BlockScoped seen own b → AreFresh seen (locals b)
fresh_locals seen own (block ds es) s = s.1

defined_own : (seen own : Names) (b : Block) → BlockScoped seen own b → (x : List ℕ) → IsTrue (has_equation b x) → IsTrue (also own (locals b) x)
defined_own seen own (block ds es) s x h = some_owned x (also seen ds) (also own ds) es s.3 h

module _ (n : Node) (s : NodeScoped n) (c : ControlsApart n) (x : List ℕ) (given : IsGiven n x) where
  -- it is seen in the body
  seen : IsTrue (also (interface n) (controls_of n.contract) x)
  seen = by (or_cases (declares n.inputs x) (declares (controls_of n.contract) x) given)
    where
      by : IsTrue (declares n.inputs x) ⊎ IsTrue (declares (controls_of n.contract) x) → IsTrue (also (interface n) (controls_of n.contract) x)
      by (inl h) = or_right (declares (controls_of n.contract) x) (interface n x) (or_right (declares n.outputs x) (also no_names n.inputs x) (or_left (declares n.inputs x) (no_names x) h))
      by (inr h) = or_left (declares (controls_of n.contract) x) (interface n x) h

  no_output : IsTrue (declares n.outputs x) → ⊥
  no_output k = by (or_cases (declares n.inputs x) (declares (controls_of n.contract) x) given)
    where
      by : IsTrue (declares n.inputs x) ⊎ IsTrue (declares (controls_of n.contract) x) → ⊥
      by (inl h) = once_apart n.inputs n.outputs s.once x h k
      by (inr h) = c x h (or_left (declares n.outputs x) (also no_names n.inputs x) k)

  no_local : IsTrue (declares (locals n.body) x) → ⊥
  no_local k = fresh_locals (also (interface n) (controls_of n.contract)) (also no_names n.outputs) n.body s.body x k seen

  undefined : IsTrue (has_equation n.body x) → ⊥
  undefined h = by (or_cases (declares (locals n.body) x) (also no_names n.outputs x) (defined_own (also (interface n) (controls_of n.contract)) (also no_names n.outputs) n.body s.body x h))
    where
      out : IsTrue (declares n.outputs x) ⊎ IsTrue (no_names x) → ⊥
      out (inl k) = no_output k
      out (inr k) = absurd (cc k)

      by : IsTrue (declares (locals n.body) x) ⊎ IsTrue (also no_names n.outputs x) → ⊥
      by (inl k) = no_local k
      by (inr k) = out (or_cases (declares n.outputs x) (no_names x) k)

  pub is_apart : IsApart n x
  is_apart = record {
    given = given;
    no_output = false_if (declares n.outputs x) no_output;
    no_local = false_if (declares (locals n.body) x) no_local;
    undefined = false_if (has_equation n.body x) undefined;
  }

  pub is_old : NodeNames IsOld n → IsOld x
  is_old old = old.interface x seen

-- ---- controllable variables, and inputs

pub control_given : (n : Node) (x : List ℕ) → declares (controls_of n.contract) x ≡ true → IsGiven n x
control_given n x h = or_right (declares n.inputs x) (declares (controls_of n.contract) x) h

input_given : (n : Node) (x : List ℕ) → IsTrue (declares n.inputs x) → IsGiven n x
input_given n x h = or_left (declares n.inputs x) (declares (controls_of n.contract) x) h

-- an input is no controllable variable
no_control : (n : Node) → ControlsApart n → (x : List ℕ) → IsTrue (declares n.inputs x) → declares (controls_of n.contract) x ≡ false
no_control n c x h = false_if (declares (controls_of n.contract) x) (λ k. c x k (or_right (declares n.outputs x) (also no_names n.inputs x) (or_left (declares n.inputs x) (no_names x) h)))

-- so it is of all inputs
pub all_inputs : (n : Node) → NodeScoped n → ControlsApart n → NodeNames IsOld n → (ds : List Decl) → ((x : List ℕ) → IsTrue (declares ds x) → IsTrue (declares n.inputs x)) → AllInputs n ds
all_inputs n s c old [] sub = tt
all_inputs n s c old (d ∷ ds) sub =
    let h : IsTrue (declares n.inputs d.name) = sub d.name (or_left (bytes_eq d.name d.name) (declares ds d.name) (name_same d.name d.name refl)) in
    let given = input_given n d.name h in
    ((is_old n s c d.name given old, is_apart n s c d.name given, no_control n c d.name h), all_inputs n s c old ds (λ x k. sub x (or_right (bytes_eq d.name x) (declares ds x) k)))
