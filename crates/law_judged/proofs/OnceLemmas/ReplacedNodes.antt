-- In replaced nodes and programs each name has one equation in its block.
use Rattle.std.proofs.Common.{◌≡◌, ℕ, ◌≤◌, Bool, true, false, if◌then◌else◌, List, [], ◌∷◌, ◌++◌, ⊎_elim, subst}
use Rattle.std.specs.Prelude.{IsTrue, Option, None, Some}
use Rattle.std.specs.Str.{bytes_eq}
use Rattle.hp_tree.specs.declared.program.Item.{Item}
use Rattle.hp_tree.specs.declared.program.Item.TheVariants.{TypeItem, NodeItem}
use Rattle.hp_tree.specs.Expressions.{Expr}
use Rattle.hp_tree.specs.Blocks.{Block, block, eqns_of, list_of_eqns}
use Rattle.hp_tree.specs.Programs.{Contract, Node}
use Rattle.hp_tree.specs.Meaning.{declares, controls_of}
use Rattle.law_judged.proofs.TypedLemmas.ProgramLaws.{typed}
use Rattle.law_judged.specs.Named.Scoped.{Names, no_names, also, BlockScoped, ContractScoped, interface, EachNode}
use Rattle.law_judged.proofs.NamedLemmas.Sets.{or_cases, or_left, or_right}
use Rattle.law_judged.proofs.NamedLemmas.Judged.{scoped}
use Rattle.hp_expand.specs.Replacing.{equations_of, in_block, in_eqns, in_condition, in_contract, in_node}
use Rattle.hp_expand.specs.Numbering.{replaced_node, with_node, replaced_items, no_node}
use Rattle.law_judged.specs.Replaced.Fitting.{BlockNames, ContractNames, IsPlain, BlockFits, ConditionFits, ContractFits, IsReady}
use Rattle.law_judged.specs.Replaced.Laws.{CanBeReplaced, AllCanBeReplaced}
use Rattle.law_judged.proofs.ReplacedLemmas.Replaced.{good_block, good_eqns}
use Rattle.law_judged.proofs.ReplacedLemmas.ReplacedNodes.{in_node_scoped, contract_controls, node_replaced, none_ready, with_ready}
use Rattle.law_judged.proofs.ReplacedLemmas.CallsFit.{calls_fit}
use Rattle.law_judged.proofs.ReplacedLemmas.Enough.{few_variables}
use Rattle.law_judged.proofs.ReplacedLemmas.Marks.{all_few_calls}
use Rattle.law_judged.proofs.ReplacedLemmas.JudgedReplaced.{all_can}
use Rattle.law_judged.specs.Once.Once.{BlockOnce, AllOnce, ContractOnce, DefinedOnce}
use Rattle.law_judged.specs.Once.Singly.{BlockSingly, ContractSingly, DefinedSingly}
use Rattle.law_judged.specs.Once.Laws.{ReplacedOnceLaw, JudgedOnceLaw}
use Rattle.law_judged.proofs.OnceLemmas.Judged.{singly}
use Rattle.law_judged.proofs.OnceLemmas.Renamed.{or_none, some_owned}
use Rattle.law_judged.proofs.OnceLemmas.Numbered.{node_numbered}
use Rattle.law_judged.proofs.OnceLemmas.Fine.{first_fits, Fine, fine_none, fine_both}
use Rattle.law_judged.proofs.OnceLemmas.Replaced.{Plain, ended_once, fine_expr, once_block, once_eqns}

-- ---- one node

module _ (nodes : List ℕ → Node) (ready : (f : List ℕ) → IsReady (nodes f)) (once : (f : List ℕ) → BlockOnce (nodes f).body) where
  fine_condition : (k : ℕ) (e : Option Expr) → ConditionFits nodes e → Fine k (in_condition nodes k e).next (in_condition nodes k e).locals (in_condition nodes k e).before
  fine_condition k None f = fine_none k
  fine_condition k (Some e) f = fine_expr nodes ready once k e f

  once_conditions : (seen own : Names) (k : ℕ) (b : Block) (assume enforce : Option Expr) → BlockFits nodes b → ConditionFits nodes assume → ConditionFits nodes enforce → BlockNames IsPlain b → BlockScoped seen own b → Plain own → BlockSingly b → (in_condition nodes (in_condition nodes (in_eqns nodes k (equations_of b)).next assume).next enforce).next ≤ 1000000 → AllOnce (eqns_of (list_of_eqns (in_eqns nodes k (equations_of b)).part ++ ((in_condition nodes (in_eqns nodes k (equations_of b)).next assume).before ++ (in_condition nodes (in_condition nodes (in_eqns nodes k (equations_of b)).next assume).next enforce).before)))
  once_conditions seen own k (block ds es) assume enforce f g h n s p o b =
      let r = in_eqns nodes k es in
      let q = in_condition nodes r.next assume in
      let t = in_condition nodes q.next enforce in
      let plain : Plain (also own ds) = λ x l. ⊎_elim (λ c. (n.0 x c).0) (λ c. p x c) (or_cases (declares ds x) (own x) l) in
      let all = good_eqns nodes ready (also seen ds) (also own ds) k es f n.1 s.3 in
      let behind = fine_both r.next q.next t.next q.locals t.locals q.before t.before (fine_condition r.next assume g) (fine_condition q.next enforce h) in
      ended_once (also own ds) k r.next t.next r.locals (q.locals ++ t.locals) es r.part (q.before ++ t.before) plain (λ x l. some_owned x (also seen ds) (also own ds) es s.3 l) all.range b
      (once_eqns nodes ready once (also seen ds) (also own ds) k es f n.1 s.3 plain o (first_fits r.next t.next behind.good.le b)) behind

  contract_once : (seen : Names) (c : Option Contract) → ContractFits nodes c → ContractNames IsPlain c → ContractScoped seen c → ContractSingly c → (in_contract nodes 1 c).next ≤ 1000000 → ContractOnce (in_contract nodes 1 c).part
  contract_once seen None f n s o b = tt
  contract_once seen (Some c) f n s o b = once_conditions seen no_names 1 c.body c.assume c.enforce f.0 f.1 f.2 n s (λ x h. absurd (cc h)) o b

  in_node_once : (n : Node) → CanBeReplaced nodes n → DefinedSingly n → DefinedOnce (in_node nodes n)
  in_node_once n c o =
      let k = (in_contract nodes 1 n.contract).next in
      let seen = also (interface n) (controls_of n.contract) in
      let own = also no_names n.outputs in
      let le = (good_block nodes ready seen own k n.body c.fits.1 c.plain.body c.scoped.body).le in
      let plain : Plain own =
      λ x h. (c.plain.interface x (or_right (declares (controls_of n.contract) x) (interface n x)
      (or_left (declares n.outputs x) (also no_names n.inputs x) (or_none (declares n.outputs x) h)))).0 in (
        contract_once (interface n) n.contract c.fits.0 c.plain.contract c.scoped.contract o.0 (first_fits k (in_block nodes k n.body).next le c.few_calls),
        (once_block nodes ready once seen own k n.body c.fits.1 c.plain.body c.scoped.body plain o.1 c.few_calls).once,
      )

  pub node_once : (n : Node) → CanBeReplaced nodes n → DefinedSingly n → DefinedOnce (replaced_node nodes n)
  node_once n c o =
      let m = in_node nodes n in
      let same : controls_of m.contract ≡ controls_of n.contract = contract_controls nodes ready 1 n.contract in
      node_numbered m c.few_variables (λ x h. (c.plain.interface x (subst (λ z. IsTrue (also (interface n) z x)) same h)).0) (in_node_scoped nodes ready n c.scoped c.plain c.fits c.few_calls) (in_node_once n c o)

-- ---- programs

with_once : (nodes : List ℕ → Node) → ((f : List ℕ) → BlockOnce (nodes f).body) → (n : Node) → BlockOnce n.body → (f : List ℕ) → BlockOnce (with_node nodes n f).body
with_once nodes once n o f = by (bytes_eq n.name f)
  where
    by : (b : Bool) → BlockOnce (if b then n else nodes f).body
    by true = o
    by false = once f

items_once : (nodes : List ℕ → Node) → ((f : List ℕ) → IsReady (nodes f)) → ((f : List ℕ) → BlockOnce (nodes f).body) → (items : List Item) → AllCanBeReplaced nodes items → EachNode DefinedSingly items → EachNode DefinedOnce (replaced_items nodes items)
items_once nodes ready once [] c o = tt
items_once nodes ready once (TypeItem t ∷ items) c o = items_once nodes ready once items c o
items_once nodes ready once (NodeItem n ∷ items) c o =
    let m = replaced_node nodes n in
    let alone = node_once nodes ready once n c.0 o.0 in
    (alone, items_once (with_node nodes m) (with_ready nodes ready m (node_replaced nodes ready n c.0)) (with_once nodes once m alone.1) items c.1 o.1)

pub program_once : ReplacedOnceLaw
program_once program c o = items_once no_node none_ready (λ f. tt) program c o

pub judged_once : JudgedOnceLaw
judged_once program n t d l m p e =
    program_once program (all_can no_node program (scoped program n d) p (calls_fit program n (typed program n t m)) (all_few_calls no_node program e) (few_variables program l)) (singly program n d)
