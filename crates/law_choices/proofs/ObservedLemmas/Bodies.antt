-- What the body of an observer defines: what its contract does, what is assumed and enforced, and the outputs of the node.
use Rattle.std.proofs.Common.{◌≡◌, ◌⊎◌, inl, inr, ℕ, ◌+◌, Bool, true, false, ◌||◌, List, [], ◌∷◌, ◌++◌, refl, sym, ap, ap₂, ◌∙◌}
use Rattle.std.specs.Prelude.{IsTrue}
use Rattle.std.specs.Str.{bytes_eq}
use Rattle.hp_tree.specs.Blocks.{Decl, block, Eqns, no_eqn, more_eqns, Eqn, eqns_of, list_of_eqns}
use Rattle.hp_tree.specs.Programs.{Contract, Node}
use Rattle.hp_tree.specs.Meaning.{declares, defines, some_defines}
use Rattle.hp_meaning.specs.Clocking.Clocking.{AreOnce}
use Rattle.law_judged.specs.Named.Scoped.{also, no_names, interface, BlockScoped}
use Rattle.law_judged.specs.Replaced.Fitting.{BlockNames, DeclNames}
use Rattle.law_judged.proofs.NamedLemmas.Sets.{or_cases, or_left, or_right, declares_append}
use Rattle.law_judged.proofs.OnceLemmas.Renamed.{or_none, some_owned}
use Rattle.law_automata.proofs.LoweredLemmas.Apart.{bytes_same}
use Rattle.hp_watch.specs.Observing.{assumed, enforced, input_name, all_handed_on, lines_of}
use Rattle.law_choices.specs.Observed.Contracts.{IsOther}

-- ---- truth values

pub or_false : (a : Bool) → (a || false) ≡ a
or_false true = refl
or_false false = refl

or_apart : (a b c : Bool) → (a || (b || c)) ≡ ((a || b) || c)
or_apart true b c = refl
or_apart false b c = refl

pub false_unless : (b : Bool) → (IsTrue b → ⊥) → b ≡ false
false_unless true f = absurd (f refl)
false_unless false f = refl

-- ---- equations in a row

pub defines_behind : (es : Eqns) (more : List Eqn) (x : List ℕ) → some_defines (eqns_of (list_of_eqns es ++ more)) x ≡ (some_defines es x || some_defines (eqns_of more) x)
defines_behind no_eqn more x = refl
defines_behind (more_eqns e es) more x = ap (λ b. defines e x || b) (defines_behind es more x) ∙ or_apart (defines e x) (some_defines es x) (some_defines (eqns_of more) x)

-- each output is handed on
pub handed_defines : (i : ℕ) (ds : List Decl) (x : List ℕ) → some_defines (eqns_of (all_handed_on i ds)) x ≡ declares ds x
handed_defines i [] x = refl
handed_defines i (d ∷ ds) x = ap₂ (λ a b. a || b) (or_false (bytes_eq d.name x)) (handed_defines (i + 1) ds x)

-- ---- other names

pub assumed_not_other : IsOther assumed → ⊥
assumed_not_other o = let r : true ≡ false = o.assumed in absurd cc

pub enforced_not_other : IsOther enforced → ⊥
enforced_not_other o = let r : true ≡ false = o.enforced in absurd cc

pub input_not_other : (i : ℕ) → IsOther (input_name i) → ⊥
input_not_other i o = let r : true ≡ false = sym (bytes_same (input_name i)) ∙ o.input i in absurd cc

pub none_declared : (ds : List Decl) (y : List ℕ) → DeclNames IsOther ds → (IsOther y → ⊥) → declares ds y ≡ false
none_declared ds y names other = false_unless (declares ds y) (λ h. other (names y h))

module _ (n : Node) (c : Contract) (names : (x : List ℕ) → IsTrue (interface n x) → IsOther x) where
  pub outputs_other : DeclNames IsOther n.outputs
  outputs_other x h = names x (or_left (declares n.outputs x) (also no_names n.inputs x) h)

  pub inputs_other : DeclNames IsOther n.inputs
  inputs_other x h = names x (or_right (declares n.outputs x) (also no_names n.inputs x) (or_left (declares n.inputs x) (no_names x) h))

  -- of another name the lines behind the contract's own define the outputs
  pub lines_define : (x : List ℕ) → IsOther x → some_defines (eqns_of (lines_of n c)) x ≡ declares n.outputs x
  lines_define x o =
      ap (λ a. (a || false) || ((bytes_eq enforced x || false) || some_defines (eqns_of (all_handed_on 0 n.outputs)) x)) o.assumed
      ∙ ap (λ a. (a || false) || some_defines (eqns_of (all_handed_on 0 n.outputs)) x) o.enforced ∙ handed_defines 0 n.outputs x

  module _ (ds : List Decl) (es : Eqns) (own : BlockScoped (interface n) no_names (block ds es)) (inner : BlockNames IsOther (block ds es)) where
    -- a local name of the contract is no output
    pub local_no_output : (x : List ℕ) → IsTrue (declares ds x) → declares n.outputs x ≡ false
    local_no_output x h = false_unless (declares n.outputs x) (λ k. own.1 x h (or_left (declares n.outputs x) (also no_names n.inputs x) k))

    pub eqn_local : (x : List ℕ) → IsTrue (some_defines es x) → IsTrue (declares ds x)
    eqn_local x h = or_none (declares ds x) (some_owned x (also (interface n) ds) (also no_names ds) es own.3 h)

    -- so nothing is defined twice
    pub lines_apart : (x : List ℕ) → some_defines es x ≡ true → some_defines (eqns_of (lines_of n c)) x ≡ false
    lines_apart x h = let l = eqn_local x h in lines_define x (inner.0 x l) ∙ local_no_output x l

    -- and all is defined that is declared
    pub all_defined : (x : List ℕ) → IsTrue (declares (ds ++ n.outputs) x) → IsTrue (some_defines (eqns_of (list_of_eqns es ++ lines_of n c)) x)
    all_defined x h = defines_behind es (lines_of n c) x ∙ by (or_cases (declares ds x) (declares n.outputs x) (sym (declares_append ds n.outputs x) ∙ h))
      where
        by : IsTrue (declares ds x) ⊎ IsTrue (declares n.outputs x) → IsTrue (some_defines es x || some_defines (eqns_of (lines_of n c)) x)
        by (inl k) = or_left (some_defines es x) (some_defines (eqns_of (lines_of n c)) x) (own.2 x k)
        by (inr k) = or_right (some_defines es x) (some_defines (eqns_of (lines_of n c)) x) (lines_define x (outputs_other x k) ∙ k)

-- ---- declared once

pub once_last : (ds es : List Decl) → AreOnce (ds ++ es) → AreOnce es
once_last [] es h = h
once_last (d ∷ ds) es h = once_last ds es h.1

pub once_first : (ds es : List Decl) → AreOnce (ds ++ es) → AreOnce ds
once_first [] es h = tt
once_first (d ∷ ds) es h = (false_unless (declares ds d.name) (λ k. let r : true ≡ false = sym (or_left (declares ds d.name) (declares es d.name) k) ∙ sym (declares_append ds es d.name) ∙ h.0 in absurd cc), once_first ds es h.1)

pub once_both : (ds es : List Decl) → AreOnce ds → AreOnce es → ((x : List ℕ) → IsTrue (declares ds x) → declares es x ≡ false) → AreOnce (ds ++ es)
once_both [] es h k f = k
once_both (d ∷ ds) es h k f = (
  declares_append ds es d.name ∙ ap₂ (λ a b. a || b) h.0 (f d.name (or_left (bytes_eq d.name d.name) (declares ds d.name) (bytes_same d.name))),
  once_both ds es h.1 k (λ x l. f x (or_right (bytes_eq d.name x) (declares ds x) l)),
)
