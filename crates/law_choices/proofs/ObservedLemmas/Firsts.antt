-- Each declaration of an observer has a first value, and its integers are of 32 bits, where it is so of the node and its contract.
use Rattle.std.proofs.Common.{◌≡◌, ℕ, ◌+◌, List, [], ◌∷◌, ◌++◌, Option, None, Some, subst}
use Rattle.std.specs.Prelude.{⊤}
use Rattle.hp_base.specs.declared.span.Span.{Span}
use Rattle.hp_tree.specs.Expressions.{Expr}
use Rattle.hp_tree.specs.Blocks.{Decl, Block, block, Eqns, no_eqn, more_eqns, Eqn, eqns_of, list_of_eqns}
use Rattle.hp_tree.specs.Programs.{TypeDecl, Contract, Node}
use Rattle.law_values.specs.Filled.Firsts.{DeclsHaveFirsts, EqnHasFirsts, EqnsHaveFirsts, BlockHasFirsts, ContractHasFirsts, NodeHasFirsts}
use Rattle.law_wellmade.specs.Spelled.Integers.{ExprShort, LastsShort, EqnShort, EqnsShort, BlockShort, ConditionShort, ContractShort, NodeShort}
use Rattle.hp_watch.specs.Observing.{inputs_for, condition_of, all_handed_on, with_lines, lines_of, observer_of}

-- ---- first values

module _ (types : List TypeDecl) where
  both_decls : (ds es : List Decl) → DeclsHaveFirsts types ds → DeclsHaveFirsts types es → DeclsHaveFirsts types (ds ++ es)
  both_decls [] es h k = k
  both_decls (d ∷ ds) es h k = (h.0, both_decls ds es h.1 k)

  inputs_firsts : (i : ℕ) (ds : List Decl) → DeclsHaveFirsts types ds → DeclsHaveFirsts types (inputs_for i ds)
  inputs_firsts i [] h = tt
  inputs_firsts i (d ∷ ds) h = (h.0, inputs_firsts (i + 1) ds h.1)

  abbrev Rows : List Eqn → Type 0
  Rows [] = ⊤
  Rows (e ∷ es) = EqnHasFirsts types e × Rows es

  behind_eqns : (es : Eqns) (more : List Eqn) → EqnsHaveFirsts types es → Rows more → EqnsHaveFirsts types (eqns_of (list_of_eqns es ++ more))
  behind_eqns no_eqn [] h k = tt
  behind_eqns no_eqn (m ∷ more) h k = (k.0, behind_eqns no_eqn more tt k.1)
  behind_eqns (more_eqns e es) more h k = (h.0, behind_eqns es more h.1 k)

  handed_rows : (i : ℕ) (ds : List Decl) → Rows (all_handed_on i ds)
  handed_rows i [] = tt
  handed_rows i (d ∷ ds) = (tt, handed_rows (i + 1) ds)

  lines_firsts : (b : Block) (more : List Decl) (lines : List Eqn) → BlockHasFirsts types b → DeclsHaveFirsts types more → Rows lines → BlockHasFirsts types (with_lines b more lines)
  lines_firsts (block ds es) more lines h d k = (both_decls ds more h.0 d, behind_eqns es lines h.1 k)

  pub observer_firsts : (n : Node) (c : Contract) → n.contract ≡ Some c → NodeHasFirsts types n → NodeHasFirsts types (observer_of n c)
  observer_firsts n c e h =
      let own : ContractHasFirsts types (Some c) = subst (ContractHasFirsts types) e h.contract in
      record {
        inputs = both_decls n.inputs (inputs_for 0 n.outputs) h.inputs (inputs_firsts 0 n.outputs h.outputs);
        outputs = (tt, (tt, tt));
        controls = tt;
        contract = tt;
        body = lines_firsts c.body n.outputs (lines_of n c) own h.outputs (tt, (tt, handed_rows 0 n.outputs));
      }

-- ---- integers

both_lasts : (ds es : List Decl) → LastsShort ds → LastsShort es → LastsShort (ds ++ es)
both_lasts [] es h k = k
both_lasts (d ∷ ds) es h k = (h.0, both_lasts ds es h.1 k)

abbrev Shorts : List Eqn → Type 0
Shorts [] = ⊤
Shorts (e ∷ es) = EqnShort e × Shorts es

behind_shorts : (es : Eqns) (more : List Eqn) → EqnsShort es → Shorts more → EqnsShort (eqns_of (list_of_eqns es ++ more))
behind_shorts no_eqn [] h k = tt
behind_shorts no_eqn (m ∷ more) h k = (k.0, behind_shorts no_eqn more tt k.1)
behind_shorts (more_eqns e es) more h k = (h.0, behind_shorts es more h.1 k)

handed_shorts : (i : ℕ) (ds : List Decl) → Shorts (all_handed_on i ds)
handed_shorts i [] = tt
handed_shorts i (d ∷ ds) = (tt, handed_shorts (i + 1) ds)

lines_shorts : (b : Block) (more : List Decl) (lines : List Eqn) → BlockShort b → LastsShort more → Shorts lines → BlockShort (with_lines b more lines)
lines_shorts (block ds es) more lines h d k = (both_lasts ds more h.0 d, behind_shorts es lines h.1 k)

told_short : (o : Option Expr) (s : Span) → ConditionShort o → ExprShort (condition_of o s)
told_short None s h = tt
told_short (Some e) s h = h

pub observer_short : (n : Node) (c : Contract) → n.contract ≡ Some c → NodeShort n × ContractShort n.contract → NodeShort (observer_of n c)
observer_short n c e h =
    let own : ContractShort (Some c) = subst ContractShort e h.1 in
    ((tt, (tt, tt)), lines_shorts c.body n.outputs (lines_of n c) own.0 h.0.0 (told_short c.assume c.span own.1.0, (told_short c.enforce c.span own.1.1, handed_shorts 0 n.outputs)))
