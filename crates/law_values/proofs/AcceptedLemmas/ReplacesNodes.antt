-- Nodes whose inlined calls are replaced are sound, and so they are where new variables get their numbers.
use Rattle.std.proofs.Common.{◌≡◌, ℕ, suc, ◌+◌, ◌≤◌, List, [], ◌∷◌, ◌++◌, map, refl, sym, ap, ap₂, subst, ◌∙◌, ◌⊎◌, inl, inr, ⊎_elim}
use Rattle.std.specs.Prelude.{⊤, Bool, true, false, ◌&&◌, ◌||◌, is_some, IsTrue, IsFalse, if◌then◌else◌, Option, None, Some, option_map}
use Rattle.std.specs.Str.{bytes_eq}
use Rattle.hp_base.specs.declared.span.Span.{Span}
use Rattle.hp_base.specs.declared.ty.Ty.{Ty}
use Rattle.hp_base.specs.declared.ty.Ty.TheVariants as ty
use Rattle.hp_tree.specs.declared.block.Trans.{Trans}
use Rattle.hp_tree.specs.Expressions.{Expr}
use Rattle.hp_tree.specs.Blocks.{Decl, Block, block, Eqns, no_eqn, more_eqns, Eqn, define, switch, reset, automaton, Arms, no_arm, more_arms, States, no_state, more_states, eqns_of, list_of_eqns}
use Rattle.hp_tree.specs.Programs.{TypeDecl, Contract, Node}
use Rattle.hp_tree.specs.Meaning.{declares, some_defines, block_defines, controls_of}
use Rattle.hp_base.specs.Known.Known.{lookup, with_entry}
use Rattle.hp_typing.specs.Scopes.{with_variables, inside, inside_node}
use Rattle.law_judged.specs.Named.Scopes.{Scope}
use Rattle.law_judged.specs.Named.Scoped.{Names, no_names, also, BlockScoped, EqnsScoped, ContractScoped, interface, NodeScoped}
use Rattle.law_judged.proofs.NamedLemmas.Sets.{or_cases, or_left, or_right, both_true, first_true, second_false, same_name, name_same}
use Rattle.hp_expand.specs.NewNames.{is_new}
use Rattle.hp_expand.specs.Renaming.{renamed, renamed_decls, renamed_transition}
use Rattle.hp_expand.specs.Replacing.{Replaced, locals_of, equations_of, in_expr, in_block, in_eqns, in_condition, in_contract, in_node}
use Rattle.hp_expand.specs.Numbering as number
use Rattle.hp_expand.specs.Numbering.{declaring, declaring_in, new_in_decls, new_in_block, same_name as itself, behind, numbered}
use Rattle.law_judged.specs.Replaced.Fitting.{BlockNames, ContractNames, NodeNames, IsPlain, BlockFits, ConditionFits, ContractFits, NodeFits, IsReady}
use Rattle.law_judged.specs.Replaced.Laws.{FewCalls}
use Rattle.law_judged.proofs.ReplacedLemmas.Good.{same_eqns, declared_left, declared_right, Good, good_none}
use Rattle.law_judged.proofs.ReplacedLemmas.Replaced.{good_expr, good_block, good_eqns}
use Rattle.law_judged.proofs.ReplacedLemmas.Numbered.{undeclared}
use Rattle.law_values.specs.Valued.Judged.{Lasts, lasts_in, lasts_of, no_lasts, body_scope, HaveOwnTypes, HaveEquations, FirstSound, TestSound, BlockSound, EqnsSound, ToldSound, ContractSound, NodeSound}
use Rattle.law_values.proofs.ValuedLemmas.Scoped.{not_declared}
use Rattle.law_values.proofs.AcceptedLemmas.Views.{true_false, cases, declared_type, lasts_own}
use Rattle.law_values.proofs.AcceptedLemmas.SoundNodes.{output_defined}
use Rattle.law_values.proofs.AcceptedLemmas.Keeps.{Grows, test_moved}
use Rattle.law_values.proofs.AcceptedLemmas.Moves.{BlockSaid, EqnsSaid, EqnSaid, ArmsSaid, StatesSaid, Place, place_more, grows_more, lasts_cases, last_known, block_moved}
use Rattle.law_values.proofs.AcceptedLemmas.Replaces.{own_first, own_then, sound_append, scoped_first, scoped_then, last_first, last_then, OwnLasts, Called}
use Rattle.law_values.proofs.AcceptedLemmas.ReplacesEqns.{same, ExprInlines, BlockInlines, FirstsSound, firsts_append, firsts_of, decls_from, At, own_inner, inner, called_more, below, some_either, new_declared, eqns_come}
use Rattle.law_values.proofs.AcceptedLemmas.ReplacesBlocks.{Plain, plain_more, Alike, alike_more, Lift, expr_first, eqns_first, fine, block_replaced, eqns_replaced}

-- ---- numbers of new variables, as names that are said otherwise

mutual
  block_numbers : (to : List ℕ → List ℕ) (k : ℕ) (b : Block) → BlockSaid to b (number.in_block to k b)
  block_numbers to k (block ds es) = (declaring to k ds, (number.in_eqns (declaring to k ds) (k + new_in_decls ds) es, (refl, ((λ x h. undeclared to k ds x h), eqns_number (declaring to k ds) (k + new_in_decls ds) es))))

  eqns_number : (to : List ℕ → List ℕ) (k : ℕ) (es : Eqns) → EqnsSaid to es (number.in_eqns to k es)
  eqns_number to k no_eqn = refl
  eqns_number to k (more_eqns e es) = (number.in_eqn to k e, (number.in_eqns to (k + number.new_in_eqn e) es, (refl, (eqn_numbers to k e, eqns_number to (k + number.new_in_eqn e) es))))

  eqn_numbers : (to : List ℕ → List ℕ) (k : ℕ) (e : Eqn) → EqnSaid to e (number.in_eqn to k e)
  eqn_numbers to k (define s ys e) = refl
  eqn_numbers to k (switch s e arms) = (number.in_arms to k arms, (refl, arms_number to k arms))
  eqn_numbers to k (reset s b e) = (number.in_block to k b, (refl, block_numbers to k b))
  eqn_numbers to k (automaton s ss) = (number.in_states to k ss, (refl, states_number to k ss))

  arms_number : (to : List ℕ → List ℕ) (k : ℕ) (arms : Arms) → ArmsSaid to arms (number.in_arms to k arms)
  arms_number to k no_arm = refl
  arms_number to k (more_arms c b s arms) = (number.in_block to k b, (number.in_arms to (k + new_in_block b) arms, (refl, (block_numbers to k b, arms_number to (k + new_in_block b) arms))))

  states_number : (to : List ℕ → List ℕ) (k : ℕ) (ss : States) → StatesSaid to ss (number.in_states to k ss)
  states_number to k no_state = refl
  states_number to k (more_states f (block ds es) until unless s ss) =
      (declaring to k ds, (number.in_eqns (declaring to k ds) (k + new_in_decls ds) es, (number.in_states to (k + (new_in_decls ds + number.new_in_eqns es)) ss, (refl, ((λ x h. undeclared to k ds x h), (eqns_number (declaring to k ds) (k + new_in_decls ds) es, states_number to (k + (new_in_decls ds + number.new_in_eqns es)) ss))))))

-- ---- scopes with the same variables

pub vars_same : (ds : List Decl) (s r : Scope) → r.variables ≡ s.variables → (with_variables r ds).variables ≡ (with_variables s ds).variables
vars_same [] s r e = e
vars_same (d ∷ ds) s r e = vars_same ds (with_variables s (d ∷ [])) (with_variables r (d ∷ [])) (ap (λ v. with_entry v d.name d.ty) e)

own_as : (types : List TypeDecl) (among among' : List ℕ → Option Node) (s r : Scope) (ds : List Decl) → r.variables ≡ s.variables → HaveOwnTypes types among' s ds → HaveOwnTypes types among r ds
own_as types among among' s r [] e o = tt
own_as types among among' s r (d ∷ ds) e o = (ap (λ v. lookup v d.name) e ∙ o.0, own_as types among among' s r ds e o.1)

nor : (a b : Bool) → IsFalse (a || b) → IsFalse a × IsFalse b
nor true b h = absurd (cc)
nor false b h = (refl, h)

-- the places of a node: its body with controllable variables cs, or its contract with none
module _ (types : List TypeDecl) (among among' : List ℕ → Option Node) (s r : Scope) (grows : Grows types among s r) (variables : r.variables ≡ s.variables) (none_s : (x : List ℕ) → lookup s.variables x ≡ None) (ins outs cs : List Decl) where
  abbrev sv : Scope
  sv = with_variables (with_variables (with_variables s ins) outs) cs

  abbrev rv : Scope
  rv = with_variables (with_variables (with_variables r ins) outs) cs

  abbrev seen : Names
  seen = also (also (also no_names ins) outs) cs

  same_vars : rv.variables ≡ sv.variables
  same_vars = vars_same cs (with_variables (with_variables s ins) outs) (with_variables (with_variables r ins) outs) (vars_same outs (with_variables s ins) (with_variables r ins) (vars_same ins s r variables))

  unknown_in : (q : Scope) → ((x : List ℕ) → lookup q.variables x ≡ None) → (x : List ℕ) → IsFalse (seen x) → lookup (with_variables (with_variables (with_variables q ins) outs) cs).variables x ≡ None
  unknown_in q f x h =
      let a = nor (declares cs x) (also (also no_names ins) outs x) h in
      let b = nor (declares outs x) (also no_names ins x) a.1 in
      let c = nor (declares ins x) false b.1 in
      not_declared x cs (with_variables (with_variables q ins) outs) a.0 ∙ not_declared x outs (with_variables q ins) b.0 ∙ not_declared x ins q c.0 ∙ f x

  pub node_place : (own : Names) → ((x : List ℕ) → IsTrue (own x) → IsTrue (declares outs x)) → HaveOwnTypes types among' sv ins → HaveOwnTypes types among' sv outs → HaveOwnTypes types among' sv cs → At types among among' sv rv (lasts_in outs no_lasts) (lasts_in outs no_lasts) seen own seen
  node_place own outputs oi oo oc = record {
    grows = grows_more types among cs cs (with_variables (with_variables s ins) outs) (with_variables (with_variables r ins) outs) (grows_more types among outs outs (with_variables s ins) (with_variables r ins) (grows_more types among ins ins s r grows));
    names = λ x t h. ap (λ v. lookup v x) same_vars ∙ h;
    lasting = λ x h. h;
    last_seen = λ x h. or_right (declares cs x) (also (also no_names ins) outs x) (or_left (declares outs x) (also no_names ins x) (⊎_elim (λ l. last_known outs x l) (λ l. absurd (cc)) (lasts_cases outs no_lasts x h)));
    own_seen = λ x h. or_right (declares cs x) (also (also no_names ins) outs x) (or_left (declares outs x) (also no_names ins x) (outputs x h));
    known = λ x h. ⊎_elim (λ c. declared_type types among' sv cs x oc c)
        (λ i. ⊎_elim (λ o. declared_type types among' sv outs x oo o) (λ n. ⊎_elim (λ j. declared_type types among' sv ins x oi j) (λ f. absurd (cc)) (or_cases (declares ins x) false n)) (or_cases (declares outs x) (also no_names ins x) i))
        (or_cases (declares cs x) (also (also no_names ins) outs x) h);
    unknown = unknown_in s none_s;
    none = λ x h. ap (λ v. lookup v x) same_vars ∙ unknown_in s none_s x h;
  }

-- ---- contracts

module _ (types : List TypeDecl) (among among' : List ℕ → Option Node) (nodes : List ℕ → Node) (ready : (f : List ℕ) → IsReady (nodes f)) (P : List ℕ → Type 0) (inputs_first : (f : List ℕ) → P f → FirstsSound types among among' (nodes f).inputs) where
  abbrev pub ConditionInlines : Option Expr → Type 0
  ConditionInlines None = ⊤
  ConditionInlines (Some e) = ExprInlines P e

  abbrev pub ContractInlines : Option Contract → Type 0
  ContractInlines None = ⊤
  ContractInlines (Some c) = BlockInlines P c.body × (ConditionInlines c.assume × ConditionInlines c.enforce)

  good_condition : (k : ℕ) (e : Option Expr) → ConditionFits nodes e → Good k (in_condition nodes k e).next (in_condition nodes k e).locals (in_condition nodes k e).before
  good_condition k None f = good_none k
  good_condition k (Some e) f = good_expr nodes ready k e f

  condition_first : (r : Scope) → Lift types among among' nodes ready P inputs_first r → (k : ℕ) (o : Option Expr) → ConditionInlines o → FirstsSound types among among' (in_condition nodes k o).locals
  condition_first r lift k None i = tt
  condition_first r lift k (Some e) i = expr_first types among among' nodes ready P inputs_first r lift k e i

  condition_sound : {s r : Scope} {lasts lasts' : Lasts} {seen own after : Names} (owned : Names) (p : At types among among' s r lasts lasts' seen own after) → Lift types among among' nodes ready P inputs_first r → Alike nodes s → (k : ℕ) (o : Option Expr) → ConditionInlines o → HaveOwnTypes types among r (in_condition nodes k o).locals → OwnLasts lasts' (in_condition nodes k o).locals → EqnsScoped after owned (eqns_of (in_condition nodes k o).before) → ToldSound types among' s lasts o → ToldSound types among r lasts' (in_condition nodes k o).part × EqnsSound types among r lasts' (eqns_of (in_condition nodes k o).before)
  condition_sound {s} {r} {lasts} {lasts'} {seen} {own} {after} owned p lift alike k None i o l sc ok = (tt, tt)
  condition_sound {s} {r} {lasts} {lasts'} {seen} {own} {after} owned p lift alike k (Some e) i o l sc ok =
      let f = fine types among among' nodes ready P inputs_first owned p lift alike k e ty.Bool ok.1 ok.0 i o l sc in
      ((f.0.1, f.0.0 ty.Bool ok.1), f.1)

  observer_replaced : {s r : Scope} {lasts lasts' : Lasts} {seen own after : Names} (owned : Names) → At types among among' s r lasts lasts' seen own after → Lift types among among' nodes ready P inputs_first r → Alike nodes s → Plain own → (k : ℕ) (b : Block) (assume enforce : Option Expr) → BlockInlines P b → ConditionInlines assume → ConditionInlines enforce → BlockFits nodes b → ConditionFits nodes assume → ConditionFits nodes enforce → BlockNames IsPlain b → BlockScoped seen own b
      → (in_condition nodes (in_condition nodes (in_eqns nodes k (equations_of b)).next assume).next enforce).next ≤ 1000000
      → (body : Block) → body ≡ block (locals_of b ++ ((in_eqns nodes k (equations_of b)).locals ++ ((in_condition nodes (in_eqns nodes k (equations_of b)).next assume).locals ++ (in_condition nodes (in_condition nodes (in_eqns nodes k (equations_of b)).next assume).next enforce).locals))) (eqns_of (list_of_eqns (in_eqns nodes k (equations_of b)).part ++ ((in_condition nodes (in_eqns nodes k (equations_of b)).next assume).before ++ (in_condition nodes (in_condition nodes (in_eqns nodes k (equations_of b)).next assume).next enforce).before)))
      → BlockScoped after owned body → BlockSound types among' s lasts b → ToldSound types among' (inside s b) (lasts_of b lasts) assume → ToldSound types among' (inside s b) (lasts_of b lasts) enforce
      → BlockSound types among r lasts' body × (ToldSound types among (inside r body) (lasts_of body lasts') (in_condition nodes (in_eqns nodes k (equations_of b)).next assume).part × ToldSound types among (inside r body) (lasts_of body lasts') (in_condition nodes (in_condition nodes (in_eqns nodes k (equations_of b)).next assume).next enforce).part)
  observer_replaced {s} {r} {lasts} {lasts'} {seen} {own} {after} owned p lift alike plain k (block ds es) assume enforce i ia ie f fa fe n sc b body eq sc0 ok oka oke =
      let q = in_eqns nodes k es in
      let a = in_condition nodes q.next assume in
      let c = in_condition nodes a.next enforce in
      let more = a.locals ++ c.locals in
      let ls = q.locals ++ more in
      let all = ds ++ ls in
      let news = a.before ++ c.before in
      let part = eqns_of (list_of_eqns q.part ++ news) in
      let ga = good_condition q.next assume fa in
      let gc = good_condition a.next enforce fe in
      let low_a = below a.next c.next gc.le b in
      let low_q = below q.next a.next ga.le low_a in
      let sc' : BlockScoped after owned (block all part) = subst (λ z. BlockScoped after owned z) eq sc0 in
      let own_r = own_inner types among among' p all sc'.0 sc'.1 in
      let ro = with_variables r all in
      let lo = lasts_in all lasts' in
      let i_place = inner types among among' p ds ls sc.0 sc.1 sc'.0 sc'.1 in
      let lift' : Lift types among among' nodes ready P inputs_first ro = λ g z. called_more types among among' r all (nodes g) (lift g z) in
      let alike' = alike_more nodes ds s alike in
      let own_ls = own_then types among ro ds ls own_r in
      let own_more = own_then types among ro q.locals more own_ls in
      let last_ls : OwnLasts lo ls = λ x l. lasts_own all lasts' x sc'.0 (last_then ds ls x l) in
      let last_more : OwnLasts lo more = λ x l. last_ls x (last_then q.locals more x l) in
      let sc_news = scoped_then (also after all) (also owned all) (list_of_eqns q.part) news sc'.3 in
      let eqs = eqns_replaced types among among' nodes ready P inputs_first (also owned all) i_place lift' alike' (plain_more own ds n.0 plain) k es i f n.1 sc.3 low_q (own_first types among ro q.locals more own_ls) (λ x l. last_ls x (last_first q.locals more x l))
      (subst (λ z. EqnsScoped (also after all) (also owned all) z) (same_eqns q.part) (scoped_first (also after all) (also owned all) (list_of_eqns q.part) news sc'.3)) ok.1.1 in
      let ca = condition_sound (also owned all) i_place lift' alike' q.next assume ia (own_first types among ro a.locals c.locals own_more) (λ x l. last_more x (last_first a.locals c.locals x l)) (scoped_first (also after all) (also owned all) a.before c.before sc_news) oka in
      let cc' = condition_sound (also owned all) i_place lift' alike' a.next enforce ie (own_then types among ro a.locals c.locals own_more) (λ x l. last_more x (last_then a.locals c.locals x l)) (scoped_then (also after all) (also owned all) a.before c.before sc_news) oke in
      let comes : (y : List ℕ) → IsTrue (some_defines part y) → IsFalse (declares all y) → IsTrue (some_defines es y) = λ y h z.
      ⊎_elim
      (λ l. ⊎_elim (λ w. w) (λ w. true_false (declares all y) (declared_right ds ls y (declared_left q.locals more y w)) z) (eqns_come nodes ready y (also seen ds) (also own ds) k es f n.1 sc.3 low_q (subst (λ w. IsTrue (some_defines w y)) (same_eqns q.part) l)))
      (λ l. ⊎_elim
      (λ w. true_false (declares all y) (declared_right ds ls y (declared_right q.locals more y (declared_left a.locals c.locals y (new_declared q.next a.next a.locals a.before ga low_a y w)))) z)
      (λ w. true_false (declares all y) (declared_right ds ls y (declared_right q.locals more y (declared_right a.locals c.locals y (new_declared a.next c.next c.locals c.before gc b y w)))) z)
      (some_either a.before c.before y l))
      (some_either (list_of_eqns q.part) news y h) in
      let sound : BlockSound types among r lasts' (block all part) = (
        decls_from types among among' ro part all own_r sc'.2
            (firsts_append types among among' ds ls (firsts_of types among among' (with_variables s ds) es ds ok.0)
            (firsts_append types among among' q.locals more (eqns_first types among among' nodes ready P inputs_first r lift k es i)
            (firsts_append types among among' a.locals c.locals (condition_first r lift q.next assume ia) (condition_first r lift a.next enforce ie)))),
        (
          (λ y h z.
              let w = comes y h z in
              let t = ok.1.0 y w (cases (declares ds y) (λ d. true_false (declares all y) (declared_left ds ls y d) z) (λ v. v)) in
              (t.0, p.names y t.0 t.1)),
          sound_append types among ro lo (list_of_eqns q.part) news (subst (λ z. EqnsSound types among ro lo z) (sym (same_eqns q.part)) eqs) (sound_append types among ro lo a.before c.before ca.1 cc'.1),
        ),
      ) in
      subst (λ z. BlockSound types among r lasts' z × (ToldSound types among (inside r z) (lasts_of z lasts') a.part × ToldSound types among (inside r z) (lasts_of z lasts') c.part)) (sym eq) (sound, (ca.0, cc'.0))

  pub contract_replaced : {s r : Scope} {lasts lasts' : Lasts} {seen : Names} → At types among among' s r lasts lasts' seen no_names seen → Lift types among among' nodes ready P inputs_first r → Alike nodes s → (o : Option Contract) → ContractInlines o → ContractFits nodes o → ContractNames IsPlain o → ContractScoped seen o → (in_contract nodes 1 o).next ≤ 1000000 → ContractScoped seen (in_contract nodes 1 o).part → ContractSound types among' s lasts o → ContractSound types among r lasts' (in_contract nodes 1 o).part
  contract_replaced {s} {r} {lasts} {lasts'} {seen} p lift alike None i f n sc b sc' ok = tt
  contract_replaced {s} {r} {lasts} {lasts'} {seen} p lift alike (Some c) i f n sc b sc' ok =
      observer_replaced no_names p lift alike (λ x h. absurd (cc)) 1 c.body c.assume c.enforce i.0 i.1.0 i.1.1 f.0 f.1 f.2 n sc b _ refl sc' ok.0 ok.1.0 ok.1.1

pub controls_replaced : (nodes : List ℕ → Node) (k : ℕ) (c : Option Contract) → controls_of (in_contract nodes k c).part ≡ controls_of c
controls_replaced nodes k None = refl
controls_replaced nodes k (Some c) = refl

-- ---- numbers

module _ (types : List TypeDecl) (among : List ℕ → Option Node) where
  condition_numbered : {r : Scope} {lasts : Lasts} {seen after : Names} → At types among among r r lasts lasts seen no_names after → (b : Block) → BlockScoped seen no_names b → BlockScoped after no_names (number.in_block itself 1 b) → (o : Option Expr) → ToldSound types among (inside r b) (lasts_of b lasts) o → ToldSound types among (inside r (number.in_block itself 1 b)) (lasts_of (number.in_block itself 1 b) lasts) (option_map (renamed (declaring_in b)) o)
  condition_numbered {r} {lasts} {seen} {after} p b sc sc' None ok = tt
  condition_numbered {r} {lasts} {seen} {after} p (block ds es) sc sc' (Some e) ok =
      let said = declaring itself 1 ds in
      let i = place_more types among among p said ds (λ x h. undeclared itself 1 ds x h) sc.0 sc.1 sc'.0 sc'.1 in
      test_moved types among (with_variables r ds) (with_variables r (renamed_decls said ds)) i.grows among said (lasts_in ds lasts) (lasts_in (renamed_decls said ds) lasts) i.names i.lasting e ok

  pub contract_numbered : {r : Scope} {lasts : Lasts} {seen : Names} → At types among among r r lasts lasts seen no_names seen → (o : Option Contract) → ContractScoped seen o → ContractScoped seen (option_map number.in_contract o) → ContractSound types among r lasts o → ContractSound types among r lasts (option_map number.in_contract o)
  contract_numbered {r} {lasts} {seen} p None sc sc' ok = tt
  contract_numbered {r} {lasts} {seen} p (Some c) sc sc' ok = (
    block_moved types among among no_names p c.body (number.in_block itself 1 c.body) (block_numbers itself 1 c.body) sc sc' ok.0,
    (condition_numbered p c.body sc sc' c.assume ok.1.0, condition_numbered p c.body sc sc' c.enforce ok.1.1),
  )

pub controls_numbered : (c : Option Contract) → controls_of (option_map number.in_contract c) ≡ controls_of c
controls_numbered None = refl
controls_numbered (Some c) = refl

-- ---- nodes

equations_for : (types : List TypeDecl) (before among : List ℕ → Option Node) (b c : Block) (ds : List Decl) → ((x : List ℕ) → IsTrue (declares ds x) → IsTrue (block_defines c x)) → HaveEquations types before b ds → HaveEquations types among c ds
equations_for types before among b c [] f h = tt
equations_for types before among b c (d ∷ ds) f h =
    ((f d.name (or_left (bytes_eq d.name d.name) (declares ds d.name) (name_same d.name d.name refl)), h.0.1), equations_for types before among b c ds (λ x z. f x (or_right (bytes_eq d.name x) (declares ds x) z)) h.1)

outputs_there : (n : Node) → NodeScoped n → (x : List ℕ) → IsTrue (declares n.outputs x) → IsTrue (block_defines n.body x)
outputs_there n sc x h =
    output_defined (also (interface n) (controls_of n.contract)) (also no_names n.outputs) n.body sc.body x
    (or_right (declares (controls_of n.contract) x) (interface n x) (or_left (declares n.outputs x) (also no_names n.inputs x) h)) (sc.outputs x h)

own_outputs : (n : Node) (x : List ℕ) → IsTrue (also no_names n.outputs x) → IsTrue (declares n.outputs x)
own_outputs n x h = ⊎_elim (λ q. q) (λ q. absurd (cc)) (or_cases (declares n.outputs x) false h)

-- the scopes of a node whose body and contract became others
abbrev Pieces : List TypeDecl → (List ℕ → Option Node) → Scope → Node → List Decl → Block → Option Contract → Type 0
Pieces types among r n cs body contract =
    (HaveOwnTypes types among (inside_node r n) n.inputs × HaveOwnTypes types among (inside_node r n) n.outputs)
    × ((HaveOwnTypes types among (with_variables (inside_node r n) cs) n.inputs × HaveOwnTypes types among (with_variables (inside_node r n) cs) n.outputs)
    × (HaveOwnTypes types among (with_variables (inside_node r n) cs) cs
    × (HaveEquations types among body n.outputs
    × (BlockSound types among (with_variables (inside_node r n) cs) (lasts_in n.outputs no_lasts) body × ContractSound types among (inside_node r n) (lasts_in n.outputs no_lasts) contract))))

module _ (types : List TypeDecl) (among among' : List ℕ → Option Node) (s r : Scope) (grows : Grows types among s r) (variables : r.variables ≡ s.variables) (none_s : (x : List ℕ) → lookup s.variables x ≡ None) where
  inner_vars : (n : Node) → (inside_node r n).variables ≡ (inside_node s n).variables
  inner_vars n = vars_same n.outputs (with_variables s n.inputs) (with_variables r n.inputs) (vars_same n.inputs s r variables)

  body_vars : (n : Node) → (with_variables (inside_node r n) (controls_of n.contract)).variables ≡ (body_scope s n).variables
  body_vars n = vars_same (controls_of n.contract) (inside_node s n) (inside_node r n) (inner_vars n)

  body_place : (n : Node) → NodeSound types among' s n → At types among among' (body_scope s n) (with_variables (inside_node r n) (controls_of n.contract)) (lasts_in n.outputs no_lasts) (lasts_in n.outputs no_lasts) (also (interface n) (controls_of n.contract)) (also no_names n.outputs) (also (interface n) (controls_of n.contract))
  body_place n ok = node_place types among among' s r grows variables none_s n.inputs n.outputs (controls_of n.contract) (also no_names n.outputs) (own_outputs n) ok.1.0.0 ok.1.0.1 ok.1.1.0

  contract_place : (n : Node) → NodeSound types among' s n → At types among among' (inside_node s n) (inside_node r n) (lasts_in n.outputs no_lasts) (lasts_in n.outputs no_lasts) (interface n) no_names (interface n)
  contract_place n ok = node_place types among among' s r grows variables none_s n.inputs n.outputs [] no_names (λ x h. absurd (cc)) ok.0.0 ok.0.1 tt

  pub node_in : (nodes : List ℕ → Node) (ready : (f : List ℕ) → IsReady (nodes f)) (P : List ℕ → Type 0) (inputs_first : (f : List ℕ) → P f → FirstsSound types among among' (nodes f).inputs) → Lift types among among' nodes ready P inputs_first r → Alike nodes s → (n : Node) → BlockInlines P n.body → ContractInlines types among among' nodes ready P inputs_first n.contract → NodeFits nodes n → NodeNames IsPlain n → NodeScoped n → FewCalls nodes n → (in_contract nodes 1 n.contract).next ≤ 1000000 → NodeScoped (in_node nodes n) → NodeSound types among' s n → NodeSound types among r (in_node nodes n)
  node_in nodes ready P inputs_first lift alike n ib ic f names sc few low sc' ok =
      let m = in_node nodes n in
      let cs = controls_of n.contract in
      let e : controls_of m.contract ≡ cs = controls_replaced nodes 1 n.contract in
      let k = (in_contract nodes 1 n.contract).next in
      let q = with_variables (inside_node r n) cs in
      let lift_i : Lift types among among' nodes ready P inputs_first (inside_node r n) = λ g z. called_more types among among' (with_variables r n.inputs) n.outputs (nodes g) (called_more types among among' r n.inputs (nodes g) (lift g z)) in
      let lift_b : Lift types among among' nodes ready P inputs_first q = λ g z. called_more types among among' (inside_node r n) cs (nodes g) (lift_i g z) in
      let alike_i = alike_more nodes n.outputs (with_variables s n.inputs) (alike_more nodes n.inputs s alike) in
      let alike_b = alike_more nodes cs (inside_node s n) alike_i in
      let plain : Plain (also no_names n.outputs) = λ x h. (names.interface x (or_right (declares cs x) (interface n x) (or_left (declares n.outputs x) (also no_names n.inputs x) (own_outputs n x h)))).0 in
      let body_scoped : BlockScoped (also (interface n) cs) (also no_names n.outputs) m.body = subst (λ z. BlockScoped (also (interface n) z) (also no_names n.outputs) m.body) e sc'.body in
      subst (λ z. Pieces types among r n z m.body m.contract) (sym e) (
        (own_as types among among' (inside_node s n) (inside_node r n) n.inputs (inner_vars n) ok.0.0, own_as types among among' (inside_node s n) (inside_node r n) n.outputs (inner_vars n) ok.0.1),
        (
          (own_as types among among' (body_scope s n) q n.inputs (body_vars n) ok.1.0.0, own_as types among among' (body_scope s n) q n.outputs (body_vars n) ok.1.0.1),
          (
            own_as types among among' (body_scope s n) q cs (body_vars n) ok.1.1.0,
            (
              equations_for types among' among n.body m.body n.outputs (outputs_there m sc') ok.1.1.1.0,
              (
                block_replaced types among among' nodes ready P inputs_first (also no_names n.outputs) (body_place n ok) lift_b alike_b plain k n.body ib f.1 names.body sc.body few body_scoped ok.1.1.1.1.0,
                contract_replaced types among among' nodes ready P inputs_first (contract_place n ok) lift_i alike_i n.contract ic f.0 names.contract sc.contract low sc'.contract ok.1.1.1.1.1,
              ),
            ),
          ),
        ),
      )

-- ---- and with numbers

pub node_numbered : (types : List TypeDecl) (among : List ℕ → Option Node) (r : Scope) → Grows types among r r → ((x : List ℕ) → lookup r.variables x ≡ None) → (m : Node) → NodeScoped m → NodeScoped (numbered m) → NodeSound types among r m → NodeSound types among r (numbered m)
node_numbered types among r grows none m sc sc' ok =
    let cs = controls_of m.contract in
    let n = numbered m in
    let e : controls_of n.contract ≡ cs = controls_numbered m.contract in
    let body_scoped : BlockScoped (also (interface m) cs) (also no_names m.outputs) n.body = subst (λ z. BlockScoped (also (interface m) z) (also no_names m.outputs) n.body) e sc'.body in
    subst (λ z. Pieces types among r m z n.body n.contract) (sym e) (
      ok.0,
      (
        ok.1.0,
        (
          ok.1.1.0,
          (
            equations_for types among among m.body n.body m.outputs (outputs_there n sc') ok.1.1.1.0,
            (
              block_moved types among among (also no_names m.outputs) (body_place types among among r r grows refl none m ok) m.body n.body (block_numbers itself (behind m.contract) m.body) sc.body body_scoped ok.1.1.1.1.0,
              contract_numbered types among (contract_place types among among r r grows refl none m ok) m.contract sc.contract sc'.contract ok.1.1.1.1.1,
            ),
          ),
        ),
      ),
    )
