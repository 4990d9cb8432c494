-- Nodes and programs whose inlined calls are replaced.
use Rattle.std.proofs.Common.{◌≡◌, ℕ, ◌+◌, ◌^◌, ◌<◌, ◌≤◌, ◌⊎◌, inl, inr, ⊎_elim, Bool, true, false, if◌then◌else◌, List, [], ◌∷◌, ◌++◌, length, take, refl, sym, ap, ◌∙◌, subst, arith}
use Rattle.std.proofs.lemmas.List.{length-append, length-take}
use Rattle.std.proofs.lemmas.Fmt.{length-decimal-le}
use Rattle.std.specs.Prelude.{IsTrue, min, decimal, Option, None, Some, option_map}
use Rattle.std.specs.Str.{bytes_eq}
use Rattle.hp_tree.specs.declared.program.Item.{Item}
use Rattle.hp_tree.specs.declared.program.Item.TheVariants.{TypeItem, NodeItem}
use Rattle.hp_tree.specs.Expressions.{Expr}
use Rattle.hp_tree.specs.Blocks.{Decl, Block, block, Eqns, no_eqn, more_eqns, Eqn, define, switch, reset, automaton, Arms, no_arm, more_arms, States, no_state, more_states, eqns_of, list_of_eqns}
use Rattle.hp_tree.specs.Programs.{Contract, Node}
use Rattle.hp_tree.specs.Meaning.{declares, some_defines, controls_of}
use Rattle.hp_meaning.specs.Causal.Points.{NamesDeclared}
use Rattle.hp_meaning.specs.Clocking.Clocking.{AreOnce, NodeNamed}
use Rattle.law_judged.specs.Named.Scoped as named
use Rattle.law_judged.specs.Named.Scoped.{Names, no_names, also, BlockScoped, EqnsScoped, EqnScoped, ArmsScoped, StatesScoped, ContractScoped, interface, NodeScoped, EachNode}
use Rattle.law_judged.proofs.NamedLemmas.Sets.{or_left, or_right}
use Rattle.law_judged.proofs.NamedLemmas.Declared.{node_names}
use Rattle.hp_expand.specs.NewNames.{dollar, is_new, stem, numbered_name}
use Rattle.hp_expand.specs.Replacing.{Replaced, locals_of, equations_of, in_block, in_eqns, in_condition, in_contract, in_node}
use Rattle.hp_expand.specs.Renaming.{renamed_decls}
use Rattle.hp_expand.specs.Numbering as number
use Rattle.hp_expand.specs.Numbering.{declaring, new_in_decls, behind, numbered, replaced_node, with_node, replaced_items, no_node, replaced}
use Rattle.law_judged.specs.Replaced.Fitting.{DeclNames, BlockNames, EqnsNames, EqnNames, ArmsNames, StatesNames, ContractNames, NodeNames, IsPlain, BlockFits, ConditionFits, ContractFits, NodeFits, IsReady}
use Rattle.law_judged.specs.Replaced.Laws.{FewCalls, ReplacedNodeLaw, AllCanBeReplaced, ReplacedLaw}
use Rattle.law_judged.proofs.ReplacedLemmas.Renaming.{renamed_back, Comes}
use Rattle.law_judged.proofs.ReplacedLemmas.Good.{Wide, Good, good_none, good_both}
use Rattle.law_judged.proofs.ReplacedLemmas.Replaced.{Apart, GoodBlock, eqns_ended, block_closed, good_expr, good_block, good_eqns}
use Rattle.law_judged.proofs.ReplacedLemmas.Numbered.{plain_kept, has_number, new_or_not, node_numbered}

-- ---- one node

shorter : (k m : ℕ) → k ≤ m → m ≤ 1000000 → k ≤ 1000000
shorter k m h f = omega (arith, h, f)

module _ (nodes : List ℕ → Node) (ready : (f : List ℕ) → IsReady (nodes f)) where
  pub good_condition : (k : ℕ) (e : Option Expr) → ConditionFits nodes e → Good k (in_condition nodes k e).next (in_condition nodes k e).locals (in_condition nodes k e).before
  good_condition k None f = good_none k
  good_condition k (Some e) f = good_expr nodes ready k e f

  -- the names of a text that are seen are as they were
  unmarked : (k m : ℕ) (seen : Names) → ((x : List ℕ) → IsTrue (seen x) → is_new x ≡ false) → Apart k m seen seen
  unmarked k m seen p x h = inl (p x h, h)

  module _ (seen own : Names) (k : ℕ) (b : Block) (assume enforce : Option Expr) where
    abbrev made : Replaced Eqns
    made = in_eqns nodes k (equations_of b)

    abbrev first : Replaced (Option Expr)
    first = in_condition nodes made.next assume

    abbrev second : Replaced (Option Expr)
    second = in_condition nodes first.next enforce

    abbrev body : Block
    body = block (locals_of b ++ (made.locals ++ (first.locals ++ second.locals))) (eqns_of (list_of_eqns made.part ++ (first.before ++ second.before)))

  pub good_conditions : (seen own : Names) (k : ℕ) (b : Block) (assume enforce : Option Expr) → BlockFits nodes b → ConditionFits nodes assume → ConditionFits nodes enforce → BlockNames IsPlain b → BlockScoped seen own b → GoodBlock seen own k (second seen own k b assume enforce).next b (body seen own k b assume enforce)
  good_conditions seen own k (block ds es) assume enforce f g h p s =
      let r = in_eqns nodes k es in
      let q = in_condition nodes r.next assume in
      let o = in_condition nodes q.next enforce in
      let behind_all = good_both r.next q.next o.next q.locals o.locals q.before o.before (good_condition r.next assume g) (good_condition q.next enforce h) in
      let all = eqns_ended (also seen ds) (also own ds) k r.next o.next r.locals (q.locals ++ o.locals) es r.part (q.before ++ o.before) (good_eqns nodes ready (also seen ds) (also own ds) k es f p.1 s.3) behind_all in
      block_closed seen own k o.next ds (r.locals ++ (q.locals ++ o.locals)) es (eqns_of (list_of_eqns r.part ++ (q.before ++ o.before))) p.0 s all

  contract_scoped : (seen : Names) (c : Option Contract) → ((x : List ℕ) → IsTrue (seen x) → is_new x ≡ false) → ContractFits nodes c → ContractNames IsPlain c → (in_contract nodes 1 c).next ≤ 1000000 → ContractScoped seen c → ContractScoped seen (in_contract nodes 1 c).part
  contract_scoped seen None p f q b s = tt
  contract_scoped seen (Some c) p f q b s =
      let g = good_conditions seen no_names 1 c.body c.assume c.enforce f.0 f.1 f.2 q s in
      g.scoped b seen no_names (unmarked 1 (in_contract nodes 1 (Some c)).next seen p) (λ x h. h)

  contract_named : (seen : Names) (c : Option Contract) → ContractFits nodes c → ContractNames IsPlain c → ContractScoped seen c → ContractNames Wide (in_contract nodes 1 c).part
  contract_named seen None f q s = tt
  contract_named seen (Some c) f q s = (good_conditions seen no_names 1 c.body c.assume c.enforce f.0 f.1 f.2 q s).names

  pub contract_controls : (k : ℕ) (c : Option Contract) → controls_of (in_contract nodes k c).part ≡ controls_of c
  contract_controls k None = refl
  contract_controls k (Some c) = refl

  body_keeps : (seen own : Names) (k : ℕ) (b : Block) → BlockFits nodes b → BlockNames IsPlain b → BlockScoped seen own b → (x : List ℕ) → is_new x ≡ false → IsTrue (some_defines (named.equations_of b) x) → IsTrue (some_defines (named.equations_of (in_block nodes k b).part) x)
  body_keeps seen own k (block ds es) f p s x q h = (good_eqns nodes ready (also seen ds) (also own ds) k es f p.1 s.3).keeps x q h

  pub in_node_scoped : (n : Node) → NodeScoped n → NodeNames IsPlain n → NodeFits nodes n → FewCalls nodes n → NodeScoped (in_node nodes n)
  in_node_scoped n s p f few =
      let k = (in_contract nodes 1 n.contract).next in
      let seen = also (interface n) (controls_of n.contract) in
      let own = also no_names n.outputs in
      let g = good_block nodes ready seen own k n.body f.1 p.body s.body in
      let plain : (x : List ℕ) → IsTrue (seen x) → is_new x ≡ false = λ x h. (p.interface x h).0 in
      let after : also (interface n) (controls_of n.contract) ≡ also (interface n) (controls_of (in_contract nodes 1 n.contract).part) = ap (λ z. also (interface n) z) (sym (contract_controls 1 n.contract)) in
      record {
        once = s.once;
        contract = contract_scoped (interface n) n.contract (λ x h. plain x (or_right (declares (controls_of n.contract) x) (interface n x) h)) f.0 p.contract (shorter k (in_block nodes k n.body).next g.le few) s.contract;
        body = subst (λ z. BlockScoped z own (in_block nodes k n.body).part) after (g.scoped few seen own (unmarked k (in_block nodes k n.body).next seen plain) (λ x h. h));
        outputs = λ x h. body_keeps seen own k n.body f.1 p.body s.body x
            (plain x (or_right (declares (controls_of n.contract) x) (interface n x) (or_left (declares n.outputs x) (also no_names n.inputs x) h))) (s.outputs x h);
      }

-- ---- names with numbers are not too long

abbrev Short : List ℕ → Type 0
Short x = length x ≤ 262

numbered_short : (w : List ℕ) (j : ℕ) → length (numbered_name w j) ≤ 262
numbered_short w j =
    let small : min 999999 j < 10 ^ 6 = omega arith in
    let digits : length (decimal (min 999999 j)) ≤ 6 = length-decimal-le 6 (min 999999 j) (omega arith) (omega (arith, small)) (omega (arith, small)) in
    let a : length (numbered_name w j) ≡ length (take 255 (stem w)) + length (dollar ∷ decimal (min 999999 j)) = length-append (take 255 (stem w)) (dollar ∷ decimal (min 999999 j)) in
    let b : length (take 255 (stem w)) ≡ min 255 (length (stem w)) = length-take 255 (stem w) in
    omega (arith, digits, a, b)

local_short : (to : List ℕ → List ℕ) (k : ℕ) (ds : List Decl) → ((x : List ℕ) → is_new x ≡ false → to x ≡ x) → AreOnce ds → (x : List ℕ) → IsTrue (declares ds x) → Wide x → length (declaring to k ds x) ≤ 262
local_short to k ds p o x h w = by (new_or_not x)
  where
    plain : is_new x ≡ false → length x ≤ 262
    plain e = ⊎_elim (λ (n : is_new x ≡ true). absurd (cc (sym e, n))) (λ (l : length x ≤ 262). l) w

    by : (is_new x ≡ false) ⊎ (is_new x ≡ true) → length (declaring to k ds x) ≤ 262
    by (inl e) = subst (λ z. length z ≤ 262) (sym (plain_kept to k ds x e ∙ p x e)) (plain e)
    by (inr n) =
        let q = has_number to k ds x o h n in
        subst (λ z. length z ≤ 262) (sym q.is) (numbered_short x q.number)

abbrev Keeps : (List ℕ → List ℕ) → Type 0
Keeps to = (x : List ℕ) → is_new x ≡ false → to x ≡ x

still_keeps : (to : List ℕ → List ℕ) (k : ℕ) (ds : List Decl) → Keeps to → Keeps (declaring to k ds)
still_keeps to k ds p x e = plain_kept to k ds x e ∙ p x e

locals_short : (to : List ℕ → List ℕ) (k : ℕ) (ds : List Decl) → Keeps to → AreOnce ds → DeclNames Wide ds → DeclNames Short (renamed_decls (declaring to k ds) ds)
locals_short to k ds p o w y h = by (renamed_back (declaring to k ds) ds y h)
  where
    by : Comes (declaring to k ds) ds y → Short y
    by (x, l, e) = subst Short e (local_short to k ds p o x l (w x l))

mutual
  block_short : (to : List ℕ → List ℕ) (k : ℕ) (seen own : Names) (b : Block) → Keeps to → BlockScoped seen own b → BlockNames Wide b → BlockNames Short (number.in_block to k b)
  block_short to k seen own (block ds es) p s w = (
    locals_short to k ds p s.0 w.0,
    eqns_short (declaring to k ds) (k + new_in_decls ds) (also seen ds) (also own ds) es (still_keeps to k ds p) s.3 w.1,
  )

  eqns_short : (to : List ℕ → List ℕ) (k : ℕ) (seen own : Names) (es : Eqns) → Keeps to → EqnsScoped seen own es → EqnsNames Wide es → EqnsNames Short (number.in_eqns to k es)
  eqns_short to k seen own no_eqn p s w = tt
  eqns_short to k seen own (more_eqns e es) p s w = (eqn_short to k seen own e p s.0 w.0, eqns_short to (k + number.new_in_eqn e) seen own es p s.1 w.1)

  eqn_short : (to : List ℕ → List ℕ) (k : ℕ) (seen own : Names) (e : Eqn) → Keeps to → EqnScoped seen own e → EqnNames Wide e → EqnNames Short (number.in_eqn to k e)
  eqn_short to k seen own (define at ys e) p s w = tt
  eqn_short to k seen own (switch at e arms) p s w = arms_short to k seen own arms p s w
  eqn_short to k seen own (reset at b e) p s w = block_short to k seen own b p s w
  eqn_short to k seen own (automaton at ss) p s w = states_short to k seen own ss p s w

  arms_short : (to : List ℕ → List ℕ) (k : ℕ) (seen own : Names) (arms : Arms) → Keeps to → ArmsScoped seen own arms → ArmsNames Wide arms → ArmsNames Short (number.in_arms to k arms)
  arms_short to k seen own no_arm p s w = tt
  arms_short to k seen own (more_arms c b at arms) p s w = (block_short to k seen own b p s.0 w.0, arms_short to (k + number.new_in_block b) seen own arms p s.1 w.1)

  states_short : (to : List ℕ → List ℕ) (k : ℕ) (seen own : Names) (ss : States) → Keeps to → StatesScoped seen own ss → StatesNames Wide ss → StatesNames Short (number.in_states to k ss)
  states_short to k seen own no_state p s w = tt
  states_short to k seen own (more_states n (block ds es) until unless at ss) p s w =
      (block_short to k seen own (block ds es) p s.0 w.0, states_short to (k + (new_in_decls ds + number.new_in_eqns es)) seen own ss p s.1 w.1)

contract_short : (seen : Names) (c : Option Contract) → ContractScoped seen c → ContractNames Wide c → ContractNames Short (option_map number.in_contract c)
contract_short seen None s w = tt
contract_short seen (Some c) s w = block_short number.same_name 1 seen no_names c.body (λ x e. refl) s w

controls_numbered : (c : Option Contract) → controls_of (option_map number.in_contract c) ≡ controls_of c
controls_numbered None = refl
controls_numbered (Some c) = refl

-- ---- nodes and programs

pub node_replaced : ReplacedNodeLaw
node_replaced nodes ready n c =
    let m = in_node nodes n in
    let k = (in_contract nodes 1 n.contract).next in
    let seen = also (interface n) (controls_of n.contract) in
    let own = also no_names n.outputs in
    let s = in_node_scoped nodes ready n c.scoped c.plain c.fits c.few_calls in
    let same : controls_of m.contract ≡ controls_of n.contract = contract_controls nodes ready 1 n.contract in
    let plain : (x : List ℕ) → IsTrue (also (interface m) (controls_of m.contract) x) → IsPlain x = λ x h. c.plain.interface x (subst (λ z. IsTrue (also (interface n) z x)) same h) in
    record {
      scoped = node_numbered m c.few_variables (λ x h. (plain x h).0) s;
      names = record {
        interface = λ x h. short_plain x (plain x (subst (λ z. IsTrue (also (interface n) z x)) (controls_numbered m.contract) h)).1;
        contract = contract_short (interface m) m.contract s.contract (contract_named nodes ready (interface n) n.contract c.fits.0 c.plain.contract c.scoped.contract);
        body = block_short number.same_name (behind m.contract) (also (interface m) (controls_of m.contract)) (also no_names m.outputs) m.body (λ x e. refl) s.body
            (good_block nodes ready seen own k n.body c.fits.1 c.plain.body c.scoped.body).names;
      };
    }
  where
    short_plain : (x : List ℕ) → length x ≤ 255 → length x ≤ 262
    short_plain x h = omega (arith, h)

pub none_ready : (f : List ℕ) → IsReady (no_node f)
none_ready f = record {
  scoped = record { once = tt; contract = tt; body = (tt, (λ x h l. cc h), (λ x h. absurd (cc h)), tt); outputs = λ x h. absurd (cc h) };
  names = record { interface = λ x h. absurd (cc h); contract = tt; body = ((λ x h. absurd (cc h)), tt) };
}

pub with_ready : (nodes : List ℕ → Node) → ((f : List ℕ) → IsReady (nodes f)) → (n : Node) → IsReady n → (f : List ℕ) → IsReady (with_node nodes n f)
with_ready nodes ready n r f = by (bytes_eq n.name f)
  where
    by : (b : Bool) → IsReady (if b then n else nodes f)
    by true = r
    by false = ready f

items_replaced : (nodes : List ℕ → Node) → ((f : List ℕ) → IsReady (nodes f)) → (items : List Item) → AllCanBeReplaced nodes items → EachNode (λ n. NodeScoped n × NodeNamed n × NamesDeclared n) (replaced_items nodes items)
items_replaced nodes ready [] c = tt
items_replaced nodes ready (TypeItem t ∷ items) c = items_replaced nodes ready items c
items_replaced nodes ready (NodeItem n ∷ items) c =
    let r = node_replaced nodes ready n c.0 in
    let names = node_names (replaced_node nodes n) r.scoped in
    ((r.scoped, names.0, names.1), items_replaced (with_node nodes (replaced_node nodes n)) (with_ready nodes ready (replaced_node nodes n) r) items c.1)

pub program_replaced : ReplacedLaw
program_replaced program c = items_replaced no_node none_ready program c
