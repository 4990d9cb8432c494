-- Sound and well named nodes are as it is asked for.
use Rattle.std.proofs.Common.{◌≡◌, ℕ, zero, suc, ◌<◌, Bool, true, false, if◌then◌else◌, ◌||◌, List, [], ◌∷◌, ◌++◌, Option, None, Some, Contains, refl, sym, subst, arith}
use Rattle.std.specs.Str.{bytes_eq}
use Rattle.std.proofs.lemmas.List.Elements.{Contains-append_left, Contains-append_right}
use Rattle.hp_base.specs.declared.ty.Const.{Const}
use Rattle.hp_tree.specs.declared.program.Item.{Item}
use Rattle.hp_tree.specs.declared.program.Item.TheVariants.{TypeItem, NodeItem}
use Rattle.hp_tree.specs.Blocks.{Decl, Block, block, Eqns, no_eqn, more_eqns, Eqn, define, switch, reset, automaton, Arms, no_arm, more_arms, States, no_state, more_states}
use Rattle.hp_tree.specs.Meaning.{declares, some_defines}
use Rattle.hp_tree.specs.Programs.{TypeDecl, Contract, Node}
use Rattle.hp_names.specs.Names.{has, with_name, declared_names}
use Rattle.hp_names.specs.Scopes.{nothing, with_variable, with_variables, behind}
use Rattle.hp_names.specs.Rules.{AreNew, ItemsAreNamed}
use Rattle.hp_names.proofs.RuleLaws.{Contains-has}
use Rattle.law_judged.specs.Typed.Scopes.{Scope}
use Rattle.hp_typing.specs.Scopes.{with_variables as with_inner}
use Rattle.law_values.specs.Valued.Judged.{Lasts, lasts_in, DeclsSound, BlockSound, EqnsSound, EqnSound, ArmsSound, StatesSound, ContractSound}
use Rattle.law_drawing.proofs.CarryingLemmas.Layers.{same-name}
use Rattle.law_drawing.specs.Reached.Filled.{IsFilled, AllFilled, OneFilled, ArmsFilled, StatesFilled, ContractFilled}
use Rattle.law_drawing.specs.Reached.Accepted.{ContractFilledLaw, NodeReadsLaw}

-- ---- each declared name has an equation

module _ (types : List TypeDecl) (among : List ℕ → Option Node) where
  decls-filled : (s : Scope) (es : Eqns) (ds : List Decl) → DeclsSound types among s es ds → (x : List ℕ) → declares ds x ≡ true → some_defines es x ≡ true
  decls-filled s es [] h x d = absurd cc
  decls-filled s es (i ∷ ds) h x d = by (bytes_eq i.name x) refl d (decls-filled s es ds h.1 x)
    where
      by : (b : Bool) → bytes_eq i.name x ≡ b → b || declares ds x ≡ true → (declares ds x ≡ true → some_defines es x ≡ true) → some_defines es x ≡ true
      by true q d more = subst (λ y. some_defines es y ≡ true) (same-name i.name x q) h.0.1.0
      by false q d more = more d

  mutual
    block-filled : (b : Block) (s : Scope) (lasts : Lasts) → BlockSound types among s lasts b → IsFilled b
    block-filled (block ds es) s lasts h = (decls-filled (with_inner s ds) es ds h.0, eqns-filled es (with_inner s ds) (lasts_in ds lasts) h.1.1)

    eqns-filled : (es : Eqns) (s : Scope) (lasts : Lasts) → EqnsSound types among s lasts es → AllFilled es
    eqns-filled no_eqn s lasts h = tt
    eqns-filled (more_eqns e es) s lasts h = (eqn-filled e s lasts h.0, eqns-filled es s lasts h.1)

    eqn-filled : (e : Eqn) (s : Scope) (lasts : Lasts) → EqnSound types among s lasts e → OneFilled e
    eqn-filled (define q ys e) s lasts h = tt
    eqn-filled (switch q e arms) s lasts h = arms-filled (switch q e arms) arms s lasts h.1.1
    eqn-filled (reset q b e) s lasts h = block-filled b s lasts h.1
    eqn-filled (automaton q ss) s lasts h = states-filled (automaton q ss) ss s lasts h

    arms-filled : (e : Eqn) (arms : Arms) (s : Scope) (lasts : Lasts) → ArmsSound types among e s lasts arms → ArmsFilled arms
    arms-filled e no_arm s lasts h = tt
    arms-filled e (more_arms c b q arms) s lasts h = (block-filled b s lasts h.1.0, arms-filled e arms s lasts h.1.1)

    states-filled : (e : Eqn) (ss : States) (s : Scope) (lasts : Lasts) → StatesSound types among e s lasts ss → StatesFilled ss
    states-filled e no_state s lasts h = tt
    states-filled e (more_states f b until unless q ss) s lasts h = (block-filled b s lasts h.1.0, states-filled e ss s lasts h.1.1.1.1)

  contract-filled : (s : Scope) (lasts : Lasts) (c : Option Contract) → ContractSound types among s lasts c → ContractFilled c
  contract-filled s lasts None h = tt
  contract-filled s lasts (Some c) h = block-filled c.body s lasts h.0

pub filled-contract : ContractFilledLaw
filled-contract types among s lasts c h = contract-filled types among s lasts c h

-- ---- no output is an input

abbrev TypeOf : {A : Type 0} → A → Type 0
TypeOf {A} a = A

abbrev Names : Type 0
Names = TypeOf nothing

kept-name : (names : List (List ℕ)) (y x : List ℕ) → Contains names x → Contains (with_name names y) x
kept-name names y x h = by (has names y)
  where
    by : (known : Bool) → Contains (if known then names else names ++ y ∷ []) x
    by true = h
    by false = Contains-append_left names (y ∷ []) x h

the-one : (y : List ℕ) → Contains (y ∷ []) y
the-one y = let h : 0 < 1 = omega arith in (0, h, refl)

new-name : (names : List (List ℕ)) (y : List ℕ) → Contains (with_name names y) y
new-name names y = by (has names y) (Contains-has names y)
  where
    by : (known : Bool) → (known ≡ true → Contains names y) → Contains (if known then names else names ++ y ∷ []) y
    by true h = h refl
    by false h = Contains-append_right names (y ∷ []) y (the-one y)

known-name : (ds : List Decl) (s : Names) (x : List ℕ) → Contains s.variables x → Contains (with_variables s ds).variables x
known-name [] s x h = h
known-name (d ∷ ds) s x h = known-name ds (with_variable s d d.last) x (by d.last)
  where
    by : (o : Option Const) → Contains (with_variable s d o).variables x
    by None = kept-name s.variables d.name x h
    by (Some c) = kept-name s.variables d.name x h

declared-known : (ds : List Decl) (s : Names) (x : List ℕ) → declares ds x ≡ true → Contains (with_variables s ds).variables x
declared-known [] s x h = absurd cc
declared-known (d ∷ ds) s x h = by (bytes_eq d.name x) refl h (declared-known ds (with_variable s d d.last) x)
  where
    here : (o : Option Const) → Contains (with_variable s d o).variables d.name
    here None = new-name s.variables d.name
    here (Some c) = new-name s.variables d.name

    by : (b : Bool) → bytes_eq d.name x ≡ b → b || declares ds x ≡ true → (declares ds x ≡ true → Contains (with_variables (with_variable s d d.last) ds).variables x) → Contains (with_variables (with_variable s d d.last) ds).variables x
    by true q h more = known-name ds (with_variable s d d.last) x (subst (Contains (with_variable s d d.last).variables) (same-name d.name x q) (here d.last))
    by false q h more = more h

new-lacks : (ds : List Decl) (names : List (List ℕ)) (x : List ℕ) → Contains names x → AreNew names (declared_names ds) → declares ds x ≡ true → ⊥
new-lacks [] names x h k d = absurd cc
new-lacks (i ∷ ds) names x h k d = by (bytes_eq i.name x) refl d (new-lacks ds (with_name names i.name) x (kept-name names i.name x h) k.1)
  where
    by : (b : Bool) → bytes_eq i.name x ≡ b → b || declares ds x ≡ true → (declares ds x ≡ true → ⊥) → ⊥
    by true q d more = k.0 (subst (Contains names) (sym (same-name i.name x q)) h)
    by false q d more = more d

outputs-apart : (n : Node) (s : Names) → AreNew (with_variables s n.inputs).variables (declared_names n.outputs) → (x : List ℕ) → declares n.outputs x ≡ true → declares n.inputs x ≡ false
outputs-apart n s k x d = by (declares n.inputs x) refl
  where
    by : (b : Bool) → declares n.inputs x ≡ b → b ≡ false
    by true q = absurd (new-lacks n.outputs (with_variables s n.inputs).variables x (declared-known n.inputs s x q) k d)
    by false q = refl

items-apart : (items : List Item) (s : Names) (n : Node) → Contains items (NodeItem n) → ItemsAreNamed s items → (x : List ℕ) → declares n.outputs x ≡ true → declares n.inputs x ≡ false
items-apart [] s n (k, l, e) h = absurd (omega (arith, l))
items-apart (TypeItem t ∷ items) s n (zero, l, e) h = absurd (cc)
items-apart (NodeItem m ∷ items) s n (zero, l, e) h = subst (λ i. (x : List ℕ) → declares i.outputs x ≡ true → declares i.inputs x ≡ false) (let q : m ≡ n = cc in q) (outputs-apart m s h.0.1.1.0)
items-apart (TypeItem t ∷ items) s n (suc k, l, e) h = items-apart items (behind s (TypeItem t)) n (k, omega (arith, l), e) h.1
items-apart (NodeItem m ∷ items) s n (suc k, l, e) h = items-apart items (behind s (NodeItem m)) n (k, omega (arith, l), e) h.1

pub node-reads : NodeReadsLaw
node-reads program types among t s n named contains sound callees controls = record {
  body = block-filled types among n.body _ _ sound.1.1.1.1.0;
  contract = contract-filled types among _ _ n.contract sound.1.1.1.1.1;
  callees = callees;
  outputs = items-apart program nothing n contains named;
  controls = controls;
}
