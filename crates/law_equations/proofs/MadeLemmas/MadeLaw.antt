-- The law on nodes.
use Rattle.std.proofs.Common.{◌≡◌, ℕ, ◌+◌, Bool, true, false, ◌||◌, ◌&&◌, not, List, [], ◌∷◌, ◌++◌, length, map, refl, ◌∙◌}
use Rattle.std.specs.Prelude.{Option, None, Some, ⊤}
use Rattle.hp_base.specs.declared.ty.Const.{Const}
use Rattle.hp_base.specs.declared.value.Value.{Value}
use Rattle.hp_tree.specs.Expressions.{Expr, constant, variable, last_of, one, two, choose, pre, fby, arrow, when_is, merge, call, Exprs, no_expr, more_exprs, Parts, no_part, more_parts}
use Rattle.hp_tree.specs.Blocks.{Decl, Block, block, Eqns, no_eqn, more_eqns, Eqn, define, switch, reset, automaton, Arms, no_arm, more_arms}
use Rattle.hp_tree.specs.Programs.{TypeDecl, Node}
use Rattle.hp_tree.specs.Operators.{cons_of}
use Rattle.hp_tree.specs.Instant.{Body as BodyOf, Named, Equations, Head, Tail, Right as RightOf, Test, Arms as ArmsOf, First, Second, Third, Args, Place, Clock, without}
use Rattle.hp_tree.specs.Meaning.{declares, some_defines, block_defines, clock_of, controls_of}
use Rattle.hp_flat.specs.Nodes.{FlatNode}
use Rattle.law_equations.specs.Flattened.Flatten.{FlatName, At, When, always, on, Prefix, below, Scope, constant_in, inside_at, within_at, restarts_at, lasts_at, under, node_scope, flatten}
use Rattle.law_equations.specs.Flattened.Lifted.{in_body, node_lasts}
use Rattle.law_equations.specs.Made.Labels.{AreMadeAt, events, block_labels}
use Rattle.law_equations.specs.Made.Making.{Known, Body, base_site, unknown, over, outputs_of, numbers_from, sketch_block, sketch_node}
use Rattle.law_equations.specs.Made.Standing.{Knows, IsNamed}
use Rattle.law_equations.specs.Made.Keeping.{LastKept, LastsKept, FbyKeeps, ExprKeeps, ExprsKeep, PartsKeep, BlockKeeps, EqnsKeep, EqnKeeps, ArmsKeep, NodeKeeps, IsKept}
use Rattle.law_equations.specs.Made.Blocks.{locals_of, IsPlain, ReadyBlock}
use Rattle.law_equations.specs.Made.Laws.{around_body, names, unplaced, body_name, NodeReady, Stands, MadeLaw, MadePlacesLaw}
use Rattle.law_equations.proofs.MadeLemmas.LabelLaws.{made-alike}
use Rattle.law_equations.proofs.MadeLemmas.UnplacedLaws.{equations-alike}
use Rattle.law_equations.proofs.MadeLemmas.StandsLaws.{promise, nth, facts, node-keeps, node-labelled, node-stands, outputs-stand}

both_true : (a b : Bool) → (a && not b) ≡ true → (a ≡ true) × (b ≡ false)
both_true true false h = (refl, refl)
both_true true true h = absurd cc
both_true false b h = absurd cc

-- what stands for a flat name that has a value is a variable
has_variable : (means : ℕ → FlatName) (o : Option ℕ) (p : Place) → IsNamed means o (At p) → (v : ℕ) × (o ≡ Some v) × (means v ≡ At p)
has_variable means None p h = absurd cc
has_variable means (Some v) p h = (v, refl, h)

-- what outputs are and what a body declares is defined in the body
body_defines : (n : Node) (ds : List Decl) (es : Eqns) → ((x : List ℕ) → declares n.outputs x ≡ true → some_defines es x ≡ true) → ((x : List ℕ) → declares ds x ≡ true → some_defines es x ≡ true)
    → (x : List ℕ) → (declares n.outputs x || declares ds x) ≡ true → some_defines es x ≡ true
body_defines n ds es outs locals x h = by (declares n.outputs x) (declares ds x) refl refl h
  where
    by : (a b : Bool) → declares n.outputs x ≡ a → declares ds x ≡ b → (a || b) ≡ true → some_defines es x ≡ true
    by true b e g h = outs x e
    by false b e g h = locals x (g ∙ h)

-- What a name is seen as in a body stands for it, where it is an output or the body declares it.
abbrev pub NamesStand : Known → Node → Block → (ℕ → FlatName) → Type 0
NamesStand k n b means =
    (x : List ℕ) → (declares n.outputs x || declares (locals_of b) x) ≡ true
    → (v : ℕ) × ((over (sketch_block k Body (over (around_body k n).0 unknown) base_site b (around_body k n).1).0 (over (around_body k n).0 unknown) x).value ≡ Some v) × (means v ≡ body_name x)

-- A node whose remembered names are of K: so are those that variables stand for. The variables of the names of its body stand for these, and those of comparisons and calls for their places.
pub stands-placed : (K : FlatName → Type 0) (types : List TypeDecl) (outputs : List ℕ → List (List ℕ)) (k : Known) (fill : Place → Value) (n : Node) (f : FlatNode) → Knows types outputs k → NodeReady k fill n → NodeKeeps K types fill n
    → f.inputs ≡ length n.inputs + length (controls_of n.contract) → f.outputs ≡ numbers_from (length n.inputs + length (controls_of n.contract)) n.outputs
    → map unplaced f.eqns ≡ map unplaced (sketch_node k n).eqns → (s : Stands types outputs k fill n f) × ((x : ℕ) → IsKept K (s.means x)) × NamesStand k n n.body s.means
    × AreMadeAt s.means (events f.eqns) (block_labels outputs n.body in_body [])
stands-placed K types outputs k fill n f knows r keeps inputs_are outputs_are eqns_are = by n.body refl r.plain r.defined r.nothing_else r.first_values eqns_are keeps.1
  where
    by : (b : Block) → n.body ≡ b → IsPlain b → ((x : List ℕ) → declares n.outputs x ≡ true → block_defines b x ≡ true) → ((x : List ℕ) → block_defines b x ≡ true → declares n.outputs x ≡ true)
        → ReadyBlock k fill Body (over (around_body k n).0 unknown) base_site b in_body (around_body k n).1 → map unplaced f.eqns ≡ map unplaced (sketch_block k Body (over (around_body k n).0 unknown) base_site b (around_body k n).1).1.eqns
        → BlockKeeps K types fill b (node_scope n) (node_lasts types n) in_body always [] → (s : Stands types outputs k fill n f) × ((x : ℕ) → IsKept K (s.means x)) × NamesStand k n b s.means
        × AreMadeAt s.means (events f.eqns) (block_labels outputs b in_body [])
    by (block ds es) body_is plain defined others ready eqns body_keeps =
        let keep : LastsKept K types n.outputs in_body always [] × BlockKeeps K types fill (block ds es) (node_scope n) (node_lasts types n) in_body always [] = (keeps.0, body_keeps) in
        let d : (x : List ℕ) → declares n.outputs x ≡ true → (some_defines es x ≡ true) × (declares ds x ≡ false) = λ x q. both_true (some_defines es x) (declares ds x) (defined x q) in
        let told = facts types outputs k knows fill K n r.inputs r.controls r.outputs ds es body_is plain d others ready keep in
        let means = nth (promise types outputs k knows fill K n r.inputs r.controls r.outputs ds es body_is plain d others ready keep).names in (
          record {
            means = means;
            equations =
                let g : FlatNode = record f { eqns = (sketch_block k Body (over (around_body k n).0 unknown) base_site (block ds es) (around_body k n).1).1.eqns } in
                equations-alike means (flatten types outputs fill n) (names n.inputs ++ names (controls_of n.contract)) (λ g. length (outputs_of (k.nodes g))) g f refl eqns
                (node-stands types outputs k knows fill K n r.inputs r.controls r.outputs ds es body_is plain d others ready keep g inputs_are refl);
            outputs_are = outputs-stand types outputs k knows fill K n r.inputs r.controls r.outputs ds es body_is plain d others ready keep f outputs_are;
          },
          node-keeps types outputs k knows fill K n r.inputs r.controls r.outputs ds es body_is plain d others ready keep,
          λ x h. has_variable means _ (BodyOf ∷ Named x ∷ []) (told.named x (body_defines n ds es (λ x q. (d x q).0) plain.1 x h)),
          made-alike means (sketch_block k Body (over (around_body k n).0 unknown) base_site (block ds es) (around_body k n).1).1.eqns f.eqns (block_labels outputs (block ds es) in_body []) eqns
              (node-labelled types outputs k knows fill K n r.inputs r.controls r.outputs ds es body_is plain d others ready keep),
        )

-- the same, without the places
pub stands-kept : (K : FlatName → Type 0) (types : List TypeDecl) (outputs : List ℕ → List (List ℕ)) (k : Known) (fill : Place → Value) (n : Node) (f : FlatNode) → Knows types outputs k → NodeReady k fill n → NodeKeeps K types fill n
    → f.inputs ≡ length n.inputs + length (controls_of n.contract) → f.outputs ≡ numbers_from (length n.inputs + length (controls_of n.contract)) n.outputs
    → map unplaced f.eqns ≡ map unplaced (sketch_node k n).eqns → (s : Stands types outputs k fill n f) × ((x : ℕ) → IsKept K (s.means x)) × NamesStand k n n.body s.means
stands-kept K types outputs k fill n f knows r keeps inputs_are outputs_are eqns_are =
    let p = stands-placed K types outputs k fill n f knows r keeps inputs_are outputs_are eqns_are in
    (p.0, p.1, p.2)

-- ---- of any kind

module _ (types : List TypeDecl) (fill : Place → Value) where
  abbrev Any : FlatName → Type 0
  Any a = ⊤

  lasts_any : (ds : List Decl) (here : Prefix) (ck : When) (rs : List Place) → LastsKept Any types ds here ck rs
  lasts_any [] here ck rs = tt
  lasts_any (d ∷ ds) here ck rs = (last_any d.last, lasts_any ds here ck rs)
    where
      last_any : (o : Option Const) → LastKept Any types o d.name here ck rs
      last_any None = tt
      last_any (Some c) = tt

  fby_any : (o : Option Const) (here : Prefix) (w : When) (rs : List Place) (A G : Type 0) → A → G → FbyKeeps Any types fill o here w rs A G
  fby_any None here w rs A G a g = (tt, tt, a, g)
  fby_any (Some c) here w rs A G a g = g

  mutual
    expr_any : (e : Expr) (clock : Clock) (sc : Scope) (here : Prefix) (ck : When) (rs : List Place) → ExprKeeps Any types fill e clock sc here ck rs
    expr_any (constant s c) clock sc here ck rs = tt
    expr_any (variable s x) clock sc here ck rs = tt
    expr_any (last_of s x) clock sc here ck rs = tt
    expr_any (one s o a) clock sc here ck rs = expr_any a clock sc (below First here) ck rs
    expr_any (two s o a b) clock sc here ck rs = (expr_any a clock sc (below First here) ck rs, expr_any b clock sc (below Second here) ck rs)
    expr_any (choose s a b c) clock sc here ck rs = (expr_any a clock sc (below First here) ck rs, expr_any b clock sc (below Second here) ck rs, expr_any c clock sc (below Third here) ck rs)
    expr_any (pre s a) clock sc here ck rs = expr_any a clock sc (below First here) ck rs
    expr_any (fby s a b) clock sc here ck rs =
        fby_any (constant_in a) here (under types sc clock ck) rs (ExprKeeps Any types fill a clock sc (below First here) ck rs) (ExprKeeps Any types fill b clock sc (below Second here) ck rs)
        (expr_any a clock sc (below First here) ck rs) (expr_any b clock sc (below Second here) ck rs)
    expr_any (arrow s a b) clock sc here ck rs = (tt, expr_any a clock sc (below First here) ck rs, expr_any b clock sc (below Second here) ck rs)
    expr_any (when_is s a c x) clock sc here ck rs = expr_any a (without clock) sc (below First here) ck rs
    expr_any (merge s x ps) clock sc here ck rs = parts_any ps x clock sc (below Args here) ck rs
    expr_any (call s f inlined es) clock sc here ck rs = exprs_any es clock sc (below Args here) ck rs

    exprs_any : (es : Exprs) (clock : Clock) (sc : Scope) (here : Prefix) (ck : When) (rs : List Place) → ExprsKeep Any types fill es clock sc here ck rs
    exprs_any no_expr clock sc here ck rs = tt
    exprs_any (more_exprs e es) clock sc here ck rs = (expr_any e clock sc (below Head here) ck rs, exprs_any es clock sc (below Tail here) ck rs)

    parts_any : (ps : Parts) (x : List ℕ) (clock : Clock) (sc : Scope) (here : Prefix) (ck : When) (rs : List Place) → PartsKeep Any types fill ps x clock sc here ck rs
    parts_any no_part x clock sc here ck rs = tt
    parts_any (more_parts c e ps) x clock sc here ck rs = (expr_any e ((c, x) ∷ clock) sc (below Head here) ck rs, parts_any ps x clock sc (below Tail here) ck rs)

  mutual
    block_any : (b : Block) (sc lsc : Scope) (here : Prefix) (ck : When) (rs : List Place) → BlockKeeps Any types fill b sc lsc here ck rs
    block_any (block ds es) sc lsc here ck rs = (lasts_any ds here ck rs, eqns_any ds es (inside_at es sc here) (lasts_at types ds lsc here ck rs) (below Equations here) ck rs)

    eqns_any : (ds : List Decl) (es : Eqns) (sc lsc : Scope) (here : Prefix) (ck : When) (rs : List Place) → EqnsKeep Any types fill ds es sc lsc here ck rs
    eqns_any ds no_eqn sc lsc here ck rs = tt
    eqns_any ds (more_eqns e es) sc lsc here ck rs = (eqn_any ds e sc lsc (below Head here) ck rs, eqns_any ds es sc lsc (below Tail here) ck rs)

    eqn_any : (ds : List Decl) (e : Eqn) (sc lsc : Scope) (here : Prefix) (ck : When) (rs : List Place) → EqnKeeps Any types fill ds e sc lsc here ck rs
    eqn_any ds (define s ys e) sc lsc here ck rs = expr_any e (clock_of ds ys e) sc (below RightOf here) ck rs
    eqn_any ds (switch s e arms) sc lsc here ck rs =
        (expr_any e [] sc (below Test here) ck rs, arms_any arms (At (here (Test ∷ []))) (within_at (switch s e arms) sc lsc) lsc (below ArmsOf here) ck rs)
    eqn_any ds (reset s b e) sc lsc here ck rs = (expr_any e [] sc (below Test here) ck rs, block_any b (within_at (reset s b e) sc lsc) lsc (below BodyOf here) ck (restarts_at e here rs))
    eqn_any ds (automaton s ss) sc lsc here ck rs = tt

    arms_any : (arms : Arms) (test : FlatName) (sc lsc : Scope) (here : Prefix) (ck : When) (rs : List Place) → ArmsKeep Any types fill arms test sc lsc here ck rs
    arms_any no_arm test sc lsc here ck rs = tt
    arms_any (more_arms c b s arms) test sc lsc here ck rs = (block_any b sc lsc (below Head here) (on (cons_of types c) test ck) rs, arms_any arms test sc lsc (below Tail here) ck rs)

pub any_kept : (types : List TypeDecl) (fill : Place → Value) (n : Node) → NodeKeeps (λ a. ⊤) types fill n
any_kept types fill n = (lasts_any types fill n.outputs in_body always [], block_any types fill n.body (node_scope n) (node_lasts types n) in_body always [])

pub stands-for : MadeLaw
stands-for types outputs k fill n f knows r inputs_are outputs_are eqns_are =
    (stands-kept (λ a. ⊤) types outputs k fill n f knows r (any_kept types fill n) inputs_are outputs_are eqns_are).0

pub stands-in-places : MadePlacesLaw
stands-in-places types outputs k fill n f knows r inputs_are outputs_are eqns_are =
    let p = stands-placed (λ a. ⊤) types outputs k fill n f knows r (any_kept types fill n) inputs_are outputs_are eqns_are in
    (p.0, p.3)
