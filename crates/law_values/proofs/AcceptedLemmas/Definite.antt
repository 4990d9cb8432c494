-- Of the least classes: where what is wanted is met, each name that has to be First is.
use Rattle.std.proofs.Common.{◌≡◌, ℕ, List, [], ◌∷◌, ◌++◌, refl, sym, ap, subst, ◌∙◌, ◌⊎◌, inl, inr, ⊎_elim}
use Rattle.std.specs.Prelude.{⊤, Bool, true, false, ◌&&◌, ◌||◌, not, is_some, IsTrue, IsFalse, if◌then◌else◌, Option, None, Some}
use Rattle.std.specs.Str.{bytes_eq}
use Rattle.hp_base.specs.declared.span.Span.{Span}
use Rattle.hp_base.specs.declared.ty.Const.{Const}
use Rattle.hp_tree.specs.Expressions.{Expr, constant, variable, last_of, one, two, choose, pre, fby, arrow, when_is, merge, call}
use Rattle.hp_tree.specs.Blocks.{Decl, Block, block, Eqns, no_eqn, more_eqns, Eqn, define, switch, reset, automaton, Arms, no_arm, more_arms, States, no_state, more_states}
use Rattle.hp_tree.specs.Programs.{Contract, Node}
use Rattle.hp_tree.specs.Instant.{Body, Observer, Named, Equations, Head, Tail, Arms as ArmsOf, States as StatesOf, Place}
use Rattle.hp_tree.specs.Meaning.{is_among, declares, defines, some_defines, arms_define, states_define, block_defines}
use Rattle.hp_init.specs.Classes.{Classes, Assignment, is_second, Known, or_first, with_declared, known_in, known_within, known_outputs, VariableFollows, LeftsFollow, BlockFollows, EqnsFollow, EqnFollows, ArmsFollow, StatesFollow, ContractFollows, NodeFollows, AreClasses}
use Rattle.hp_init.specs.Wants.{is_met, Wish, of_decls, of_test, of_tests, must_be_first, some_must, definition_met, of_block, of_eqns, of_eqn, of_arms, of_states, of_told, of_contract, of_node}
use Rattle.hp_init.specs.Initialised.{first_unmet, IsFound}
use Rattle.law_judged.specs.Named.Scoped.{Names, also, BlockScoped, EqnsScoped, EqnScoped, ArmsScoped, StatesScoped, ContractScoped, NodeScoped}
use Rattle.law_judged.proofs.NamedLemmas.Sets.{or_cases, or_left, or_right, both_true, first_true, second_false, same_name, name_same}
use Rattle.hp_meaning.specs.Clocking.Clocking.{AreOnce}
use Rattle.law_judged.specs.Once.Once.{BlockOnce, AllOnce, OneOnce, ArmsOnce, StatesOnce, ContractOnce, DefinedOnce}
use Rattle.law_values.specs.Valued.Classed.{LastFirst, LastsFirst, OthersFirst, BlockDefinite, EqnsDefinite, EqnDefinite, ArmsDefinite, StatesDefinite, ContractDefinite, NodeDefinite, HasClasses}
use Rattle.law_values.proofs.ValuedLemmas.Joined.{met_left, met_right, met_one, loose_declared}
use Rattle.law_values.proofs.AcceptedLemmas.Views.{true_false, cases, and_left, and_right, and_both, last_among, last_declared}

is_not : (b : Bool) → IsTrue (not b) → IsFalse b
is_not true h = absurd (cc)
is_not false h = refl

not_is : (b : Bool) → IsFalse b → IsTrue (not b)
not_is true h = absurd (cc)
not_is false h = refl

-- ---- the classes in which a variable is Second only where an equation of its own block may make it so

abbrev direct : Eqns → List ℕ → Bool
direct no_eqn x = false
direct (more_eqns (define s ys e) es) x = is_among ys x || direct es x
direct (more_eqns (switch s e arms) es) x = direct es x
direct (more_eqns (reset s b e) es) x = direct es x
direct (more_eqns (automaton s ss) es) x = direct es x

abbrev mutual
  low_block : Assignment → Block → Assignment
  low_block class (block ds es) (Named x ∷ []) = class (Named x ∷ []) && (not (must_be_first ds x) && direct es x)
  low_block class (block ds es) (Equations ∷ p) = low_eqns (λ q. class (Equations ∷ q)) es p
  low_block class b p = false

  low_eqns : Assignment → Eqns → Assignment
  low_eqns class (more_eqns e es) (Head ∷ p) = low_eqn (λ q. class (Head ∷ q)) e p
  low_eqns class (more_eqns e es) (Tail ∷ p) = low_eqns (λ q. class (Tail ∷ q)) es p
  low_eqns class es p = false

  low_eqn : Assignment → Eqn → Assignment
  low_eqn class (switch s e arms) (ArmsOf ∷ p) = low_arms (λ q. class (ArmsOf ∷ q)) arms p
  low_eqn class (reset s b e) (Body ∷ p) = low_block (λ q. class (Body ∷ q)) b p
  low_eqn class (automaton s ss) (StatesOf ∷ p) = low_states (λ q. class (StatesOf ∷ q)) ss p
  low_eqn class e p = false

  low_arms : Assignment → Arms → Assignment
  low_arms class (more_arms c b s arms) (Head ∷ p) = low_block (λ q. class (Head ∷ q)) b p
  low_arms class (more_arms c b s arms) (Tail ∷ p) = low_arms (λ q. class (Tail ∷ q)) arms p
  low_arms class arms p = false

  low_states : Assignment → States → Assignment
  low_states class (more_states f b until unless s ss) (Head ∷ Body ∷ p) = low_block (λ q. class (Head ∷ Body ∷ q)) b p
  low_states class (more_states f b until unless s ss) (Tail ∷ p) = low_states (λ q. class (Tail ∷ q)) ss p
  low_states class ss p = false

abbrev low_contract : Assignment → Option Contract → Assignment
low_contract class None p = false
low_contract class (Some c) p = low_block class c.body p

abbrev low_node : Assignment → Node → Assignment
low_node class n (Observer ∷ p) = low_contract (λ q. class (Observer ∷ q)) n.contract p
low_node class n (Body ∷ p) = low_block (λ q. class (Body ∷ q)) n.body p
low_node class n p = false

-- ---- less is Second

abbrev VarBelow : Option Bool → Option Bool → Type 0
VarBelow None None = ⊤
VarBelow (Some a) (Some b) = IsTrue a → IsTrue b
VarBelow a b = ⊥

record Below (l k : Known) : Type 0 where
  variables : (x : List ℕ) → VarBelow (l.variables x) (k.variables x)
  values : (x : List ℕ) → IsTrue (l.values x) → IsTrue (k.values x)

or_below : (a b : Option Bool) → VarBelow a b → IsTrue (or_first a) → IsTrue (or_first b)
or_below None None v h = h
or_below (Some a) (Some b) v h = v h
or_below None (Some b) v h = absurd v
or_below (Some a) None v h = absurd v

declared_below : (d : Bool) (a b : Bool) (o p : Option Bool) → (IsTrue a → IsTrue b) → VarBelow o p → VarBelow (if d then Some a else o) (if d then Some b else p)
declared_below true a b o p f v = f
declared_below false a b o p f v = v

below_in : (ds : List Decl) (es : Eqns) (low class : Assignment) (l k : Known) → ((x : List ℕ) → IsTrue (low (Named x ∷ [])) → IsTrue (class (Named x ∷ []))) → Below l k → Below (known_in (block ds es) low l) (known_in (block ds es) class k)
below_in ds es low class l k f b = record {
  variables = λ x. declared_below (declares ds x) (low (Named x ∷ [])) (class (Named x ∷ [])) (l.variables x) (k.variables x) (f x) (b.variables x);
  values = λ x h. by x (some_defines es x) h;
}
  where
    by : (x : List ℕ) (d : Bool) → IsTrue (if d then or_first (with_declared ds low l.variables x) else l.values x) → IsTrue (if d then or_first (with_declared ds class k.variables x) else k.values x)
    by x true h = or_below (with_declared ds low l.variables x) (with_declared ds class k.variables x) (declared_below (declares ds x) (low (Named x ∷ [])) (class (Named x ∷ [])) (l.variables x) (k.variables x) (f x) (b.variables x)) h
    by x false h = b.values x h

below_within : (e : Eqn) (l k : Known) → Below l k → Below (known_within e l) (known_within e k)
below_within e l k b = record { variables = b.variables; values = λ x h. by x (defines e x) h }
  where
    by : (x : List ℕ) (d : Bool) → IsTrue (if d then false else l.values x) → IsTrue (if d then false else k.values x)
    by x true h = h
    by x false h = b.values x h

or_more : (a b c d : Bool) → (IsTrue a → IsTrue c) → (IsTrue b → IsTrue d) → IsTrue (a || b) → IsTrue (c || d)
or_more a b c d f g h = ⊎_elim (λ k. or_left c d (f k)) (λ k. or_right c d (g k)) (or_cases a b h)

less_second : (l k : Classes) → ((x : List ℕ) → IsTrue (l x) → IsTrue (k x)) → (e : Expr) → IsTrue (is_second l e) → IsTrue (is_second k e)
less_second l k f (constant s c) h = h
less_second l k f (variable s x) h = f x h
less_second l k f (last_of s x) h = h
less_second l k f (one s o a) h = less_second l k f a h
less_second l k f (two s o a b) h = or_more (is_second l a) (is_second l b) (is_second k a) (is_second k b) (less_second l k f a) (less_second l k f b) h
less_second l k f (choose s a b c) h =
    or_more (is_second l a) (is_second l b || is_second l c) (is_second k a) (is_second k b || is_second k c) (less_second l k f a)
    (or_more (is_second l b) (is_second l c) (is_second k b) (is_second k c) (less_second l k f b) (less_second l k f c)) h
less_second l k f (pre s a) h = h
less_second l k f (fby s a b) h = less_second l k f a h
less_second l k f (arrow s a b) h = less_second l k f a h
less_second l k f (when_is s a c x) h = less_second l k f a h
less_second l k f (merge s x ps) h = h
less_second l k f (call s g i es) h = h

-- ---- they follow the definitions too

none_must : (ds : List Decl) (y : List ℕ × Span) (ys : List (List ℕ × Span)) → IsFalse (some_must ds (y ∷ ys)) → IsFalse (must_be_first ds y.0) × IsFalse (some_must ds ys)
none_must ds y ys h = by (must_be_first ds y.0) (some_must ds ys) h
  where
    by : (a b : Bool) → IsFalse (a || b) → IsFalse a × IsFalse b
    by true b h = absurd (cc)
    by false b h = (refl, h)

not_both : (a b : Bool) → IsTrue (not (a && b)) → IsTrue b → IsFalse a
not_both true true h k = absurd (cc)
not_both true false h k = absurd (cc)
not_both false b h k = refl

given_second : (d : Bool) (c : Bool) (o : Option Bool) (r : Bool) → IsTrue d → IsTrue r → VariableFollows (if d then Some c else o) r → IsTrue c
given_second true c o r h k f = f k
given_second false c o r h k f = absurd (cc)

follows_some : (d : Bool) (a : Bool) (o : Option Bool) (r : Bool) → IsTrue d → (IsTrue r → IsTrue a) → VariableFollows (if d then Some a else o) r
follows_some true a o r h f = f
follows_some false a o r h f = absurd (cc)

follows_none : (o : Option Bool) (r : Bool) → IsFalse r → VariableFollows o r
follows_none None r h = tt
follows_none (Some a) r h = λ k. true_false r k h

-- the left side of an equation of these
lefts_low : (ds : List Decl) (all : Eqns) (class : Assignment) (l k : List ℕ → Option Bool) (ys : List (List ℕ × Span)) (r q : Bool) → ((x : List ℕ) → IsTrue (is_among ys x) → IsTrue (direct all x)) → (IsTrue r → IsTrue q) → (IsTrue q → IsFalse (some_must ds ys)) → LeftsFollow (with_declared ds class k) ys q → LeftsFollow (with_declared ds (low_block class (block ds all)) l) ys r
lefts_low ds all class l k [] r q inc m must f = tt
lefts_low ds all class l k (y ∷ ys) r q inc m must f = (
  cases r
      (λ h.
      let no = none_must ds y ys (must (m h)) in
      let d = loose_declared ds y.0 no.0 in
      follows_some (declares ds y.0) (class (Named y.0 ∷ []) && (not (must_be_first ds y.0) && direct all y.0)) (l y.0) r d
      (λ z. and_both (class (Named y.0 ∷ [])) (not (must_be_first ds y.0) && direct all y.0) (given_second (declares ds y.0) (class (Named y.0 ∷ [])) (k y.0) q d (m h) f.0)
      (and_both (not (must_be_first ds y.0)) (direct all y.0) (not_is (must_be_first ds y.0) no.0) (inc y.0 (or_left (bytes_eq y.0 y.0) (is_among ys y.0) (name_same y.0 y.0 refl))))))
      (λ h. follows_none (with_declared ds (low_block class (block ds all)) l y.0) r h),
  lefts_low ds all class l k ys r q (λ x h. inc x (or_right (bytes_eq y.0 x) (is_among ys x) h)) m (λ h. (none_must ds y ys (must h)).1) f.1,
)

low_named : (class : Assignment) (ds : List Decl) (es : Eqns) (x : List ℕ) → IsTrue (low_block class (block ds es) (Named x ∷ [])) → IsTrue (class (Named x ∷ []))
low_named class ds es x h = and_left (class (Named x ∷ [])) (not (must_be_first ds x) && direct es x) h

abbrev directly : Eqn → List ℕ → Bool
directly (define s ys e) x = is_among ys x
directly e x = false

direct_head : (e : Eqn) (es : Eqns) (x : List ℕ) → IsTrue (directly e x) → IsTrue (direct (more_eqns e es) x)
direct_head (define s ys e) es x h = or_left (is_among ys x) (direct es x) h
direct_head (switch s e arms) es x h = absurd (cc)
direct_head (reset s b e) es x h = absurd (cc)
direct_head (automaton s ss) es x h = absurd (cc)

direct_tail : (e : Eqn) (es : Eqns) (x : List ℕ) → IsTrue (direct es x) → IsTrue (direct (more_eqns e es) x)
direct_tail (define s ys e) es x h = or_right (is_among ys x) (direct es x) h
direct_tail (switch s e arms) es x h = h
direct_tail (reset s b e) es x h = h
direct_tail (automaton s ss) es x h = h

mutual
  block_low : (b : Block) (class : Assignment) (l k : Known) → Below l k → BlockFollows k class b → first_unmet (of_block k class b) ≡ None → BlockFollows l (low_block class b) b
  block_low (block ds es) class l k b f h =
      eqns_low es ds es class l k (below_in ds es (low_block class (block ds es)) class l k (λ x z. low_named class ds es x z) b) (λ q. class (Equations ∷ q)) (λ x z. z) f (met_right (of_decls (known_in (block ds es) class k).values ds) (of_eqns (known_in (block ds es) class k) ds (λ q. class (Equations ∷ q)) es) h)

  eqns_low : (es : Eqns) (ds : List Decl) (all : Eqns) (class : Assignment) (l k : Known) → Below (known_in (block ds all) (low_block class (block ds all)) l) (known_in (block ds all) class k) → (at : Assignment) → ((x : List ℕ) → IsTrue (direct es x) → IsTrue (direct all x)) → EqnsFollow (known_in (block ds all) class k) at es → first_unmet (of_eqns (known_in (block ds all) class k) ds at es) ≡ None → EqnsFollow (known_in (block ds all) (low_block class (block ds all)) l) (low_eqns at es) es
  eqns_low no_eqn ds all class l k b at inc f h = tt
  eqns_low (more_eqns e es) ds all class l k b at inc f h =
      let K = known_in (block ds all) class k in (
        eqn_low e ds all class l k b (λ q. at (Head ∷ q)) (λ x z. inc x (direct_head e es x z)) f.0 (met_left (of_eqn K ds (λ q. at (Head ∷ q)) e) (of_eqns K ds (λ q. at (Tail ∷ q)) es) h),
        eqns_low es ds all class l k b (λ q. at (Tail ∷ q)) (λ x z. inc x (direct_tail e es x z)) f.1 (met_right (of_eqn K ds (λ q. at (Head ∷ q)) e) (of_eqns K ds (λ q. at (Tail ∷ q)) es) h),
      )

  eqn_low : (e : Eqn) (ds : List Decl) (all : Eqns) (class : Assignment) (l k : Known) → Below (known_in (block ds all) (low_block class (block ds all)) l) (known_in (block ds all) class k) → (at : Assignment) → ((x : List ℕ) → IsTrue (directly e x) → IsTrue (direct all x)) → EqnFollows (known_in (block ds all) class k) at e → first_unmet (of_eqn (known_in (block ds all) class k) ds at e) ≡ None → EqnFollows (known_in (block ds all) (low_block class (block ds all)) l) (low_eqn at e) e
  eqn_low (define s ys e) ds all class l k b at inc f h =
      let L = known_in (block ds all) (low_block class (block ds all)) l in
      let K = known_in (block ds all) class k in
      lefts_low ds all class l.variables k.variables ys (is_second L.values e) (is_second K.values e) inc (less_second L.values K.values b.values e)
      (λ r. not_both (some_must ds ys) (is_second K.values e) (and_right (is_met K.values e) (not (some_must ds ys && is_second K.values e)) (met_one _ h)) r) f
  eqn_low (switch s e arms) ds all class l k b at inc f h =
      let L = known_in (block ds all) (low_block class (block ds all)) l in
      let K = known_in (block ds all) class k in
      arms_low arms (λ q. at (ArmsOf ∷ q)) (known_within (switch s e arms) L) (known_within (switch s e arms) K) (below_within (switch s e arms) L K b) f (met_right (of_test K.values e) (of_arms (known_within (switch s e arms) K) (λ q. at (ArmsOf ∷ q)) arms) h)
  eqn_low (reset s c e) ds all class l k b at inc f h =
      let L = known_in (block ds all) (low_block class (block ds all)) l in
      let K = known_in (block ds all) class k in
      block_low c (λ q. at (Body ∷ q)) (known_within (reset s c e) L) (known_within (reset s c e) K) (below_within (reset s c e) L K b) f (met_left (of_block (known_within (reset s c e) K) (λ q. at (Body ∷ q)) c) (of_test K.values e) h)
  eqn_low (automaton s ss) ds all class l k b at inc f h =
      let L = known_in (block ds all) (low_block class (block ds all)) l in
      let K = known_in (block ds all) class k in
      states_low ss (λ q. at (StatesOf ∷ q)) K (known_within (automaton s ss) L) (known_within (automaton s ss) K) (below_within (automaton s ss) L K b) f h

  arms_low : (arms : Arms) (at : Assignment) (l k : Known) → Below l k → ArmsFollow k at arms → first_unmet (of_arms k at arms) ≡ None → ArmsFollow l (low_arms at arms) arms
  arms_low no_arm at l k b f h = tt
  arms_low (more_arms c d s arms) at l k b f h = (
    block_low d (λ q. at (Head ∷ q)) l k b f.0 (met_left (of_block k (λ q. at (Head ∷ q)) d) (of_arms k (λ q. at (Tail ∷ q)) arms) h),
    arms_low arms (λ q. at (Tail ∷ q)) l k b f.1 (met_right (of_block k (λ q. at (Head ∷ q)) d) (of_arms k (λ q. at (Tail ∷ q)) arms) h),
  )

  states_low : (ss : States) (at : Assignment) (out l k : Known) → Below l k → StatesFollow k at ss → first_unmet (of_states out k at ss) ≡ None → StatesFollow l (low_states at ss) ss
  states_low no_state at out l k b f h = tt
  states_low (more_states x d until unless s ss) at out l k b f h =
      let own = of_block k (λ q. at (Head ∷ Body ∷ q)) d in
      let weak = of_tests (known_in d (λ q. at (Head ∷ Body ∷ q)) k).values until in
      let strong = of_tests out.values unless in
      let more = of_states out k (λ q. at (Tail ∷ q)) ss in (
        block_low d (λ q. at (Head ∷ Body ∷ q)) l k b f.0 (met_left own (weak ++ (strong ++ more)) h),
        states_low ss (λ q. at (Tail ∷ q)) out l k b f.1 (met_right strong more (met_right weak (strong ++ more) (met_right own (weak ++ (strong ++ more)) h))),
      )

contract_low : (o : Option Contract) (class : Assignment) (l k : Known) → Below l k → ContractFollows k class o → first_unmet (of_contract k class o) ≡ None → ContractFollows l (low_contract class o) o
contract_low None class l k b f h = tt
contract_low (Some c) class l k b f h = block_low c.body class l k b f (met_left (of_block k class c.body) (of_told (known_in c.body class k).values c.assume ++ of_told (known_in c.body class k).values c.enforce) h)

node_low : (n : Node) (class : Assignment) → NodeFollows class n → first_unmet (of_node class n) ≡ None → NodeFollows (low_node class n) n
node_low n class f h =
    let L = known_outputs n (low_node class n) in
    let K = known_outputs n class in (
      contract_low n.contract (λ q. class (Observer ∷ q)) L K below f.0 (met_left (of_contract K (λ q. class (Observer ∷ q)) n.contract) (of_block K (λ q. class (Body ∷ q)) n.body) h),
      block_low n.body (λ q. class (Body ∷ q)) L K below f.1 (met_right (of_contract K (λ q. class (Observer ∷ q)) n.contract) (of_block K (λ q. class (Body ∷ q)) n.body) h),
    )
  where
    none_below : (x : List ℕ) → VarBelow None None
    none_below x = tt

    vars : (x : List ℕ) → VarBelow (with_declared n.outputs (low_node class n) (λ y. None) x) (with_declared n.outputs class (λ y. None) x)
    vars x = declared_below (declares n.outputs x) false (class (Named x ∷ [])) None None (λ z. absurd (cc)) tt

    below : Below (known_outputs n (low_node class n)) (known_outputs n class)
    below = record {
      variables = vars;
      values = λ x h. or_below (with_declared n.outputs (low_node class n) (λ y. None) x) (with_declared n.outputs class (λ y. None) x) (vars x) h;
    }

-- ---- so the least classes are no greater

must_last : (ds : List Decl) (x : List ℕ) → AreOnce ds → IsTrue (last_among ds x) → IsTrue (must_be_first ds x)
must_last [] x once h = refl
must_last (d ∷ ds) x once h = by (bytes_eq d.name x) refl (is_some d.last) h (must_last ds x once.1)
  where
    by : (b : Bool) → bytes_eq d.name x ≡ b → (o : Bool) → IsTrue ((b && o) || last_among ds x) → (IsTrue (last_among ds x) → IsTrue (must_be_first ds x)) → IsTrue (if b then o else must_be_first ds x)
    by true e true h f = refl
    by true e false h f = true_false (declares ds d.name) (subst (λ z. IsTrue (declares ds z)) (sym (same_name d.name x e)) (last_declared ds x h)) once.0
    by false e o h f = f h

lasts_first : (class : Assignment) (ds : List Decl) → ((x : List ℕ) → IsTrue (last_among ds x) → IsFalse (class (Named x ∷ []))) → LastsFirst class ds
lasts_first class [] f = tt
lasts_first class (d ∷ ds) f = (by d.last (λ h. f d.name (or_left (bytes_eq d.name d.name && is_some d.last) (last_among ds d.name) (self h))), lasts_first class ds (λ x h. f x (or_right (bytes_eq d.name x && is_some d.last) (last_among ds x) h)))
  where
    self : IsTrue (is_some d.last) → IsTrue (bytes_eq d.name d.name && is_some d.last)
    self h = and_both (bytes_eq d.name d.name) (is_some d.last) (name_same d.name d.name refl) h

    by : (o : Option Const) → (IsTrue (is_some o) → IsFalse (class (Named d.name ∷ []))) → LastFirst o (class (Named d.name ∷ []))
    by None g = tt
    by (Some c) g = g refl

direct_defined : (es : Eqns) (x : List ℕ) → IsTrue (direct es x) → IsTrue (some_defines es x)
direct_defined no_eqn x h = h
direct_defined (more_eqns (define s ys e) es) x h = or_more (is_among ys x) (direct es x) (is_among ys x) (some_defines es x) (λ z. z) (direct_defined es x) h
direct_defined (more_eqns (switch s e arms) es) x h = or_right (arms_define arms x) (some_defines es x) (direct_defined es x h)
direct_defined (more_eqns (reset s b e) es) x h = or_right (block_defines b x) (some_defines es x) (direct_defined es x h)
direct_defined (more_eqns (automaton s ss) es) x h = or_right (states_define ss x) (some_defines es x) (direct_defined es x h)

abbrev Least : Assignment → Assignment → Type 0
Least class low = (p : Place) → IsTrue (class p) → IsTrue (low p)

-- a variable that a control equation of these defines is First
abbrev Apart : Eqns → Eqns → Type 0
Apart all es = (x : List ℕ) → IsTrue (some_defines es x) → IsTrue (direct all x) → IsTrue (direct es x)

module _ (ds : List Decl) (all : Eqns) (class : Assignment) (k : Known) (others : OthersFirst k ds all) (least : Least class (low_block class (block ds all))) where
  abbrev K : Known
  K = known_in (block ds all) class k

  declared_first : (x : List ℕ) → IsTrue (some_defines all x) → IsFalse (direct all x) → IsFalse (or_first (with_declared ds class k.variables x))
  declared_first x h f = by (declares ds x) refl
    where
      by : (d : Bool) → declares ds x ≡ d → IsFalse (or_first (if d then Some (class (Named x ∷ [])) else k.variables x))
      by true e = cases (class (Named x ∷ [])) (λ t. true_false (direct all x) (and_right (not (must_be_first ds x)) (direct all x) (and_right (class (Named x ∷ [])) (not (must_be_first ds x) && direct all x) (least (Named x ∷ []) t))) f) (λ z. z)
      by false e = others x h e

  pub last_first : AreOnce ds → LastsFirst class ds
  last_first once =
      lasts_first class ds
      (λ x h. cases (class (Named x ∷ []))
      (λ t. true_false (must_be_first ds x) (must_last ds x once h) (is_not (must_be_first ds x) (and_left (not (must_be_first ds x)) (direct all x) (and_right (class (Named x ∷ [])) (not (must_be_first ds x) && direct all x) (least (Named x ∷ []) t)))))
      (λ z. z))

abbrev IsControl : Eqn → Type 0
IsControl (define s ys e) = ⊥
IsControl e = ⊤

not_direct : (e : Eqn) (es all : Eqns) → AllOnce (more_eqns e es) → IsControl e → Apart all (more_eqns e es) → (x : List ℕ) → IsTrue (defines e x) → IsFalse (direct all x)
not_direct e es all once h apart x z = cases (direct all x) (λ d. true_false (some_defines es x) (direct_defined es x (control_direct e h (apart x (or_left (defines e x) (some_defines es x) z) d))) (once.0 x z)) (λ f. f)
  where
    control_direct : (e : Eqn) → IsControl e → IsTrue (direct (more_eqns e es) x) → IsTrue (direct es x)
    control_direct (define s ys f) h d = absurd h
    control_direct (switch s f arms) h d = d
    control_direct (reset s b f) h d = d
    control_direct (automaton s ss) h d = d

apart_tail : (e : Eqn) (es all : Eqns) → AllOnce (more_eqns e es) → Apart all (more_eqns e es) → Apart all es
apart_tail (define s ys e) es all once apart x h d =
    ⊎_elim (λ k. true_false (some_defines es x) h (once.0 x k)) (λ k. k) (or_cases (is_among ys x) (direct es x) (apart x (or_right (is_among ys x) (some_defines es x) h) d))
apart_tail (switch s e arms) es all once apart x h d = apart x (or_right (arms_define arms x) (some_defines es x) h) d
apart_tail (reset s b e) es all once apart x h d = apart x (or_right (block_defines b x) (some_defines es x) h) d
apart_tail (automaton s ss) es all once apart x h d = apart x (or_right (states_define ss x) (some_defines es x) h) d

abbrev Firsts : Eqn → Known → Type 0
Firsts e k = (x : List ℕ) → IsTrue (defines e x) → IsFalse (or_first (k.variables x))

others_of : (b : Block) (k : Known) → ((x : List ℕ) → IsTrue (block_defines b x) → IsFalse (or_first (k.variables x))) → (ds : List Decl) (es : Eqns) → b ≡ block ds es → OthersFirst k ds es
others_of b k f ds es e x h g = f x (subst (λ z. IsTrue (block_defines z x)) (sym e) (both_true (some_defines es x) (declares ds x) h (λ t. true_false (declares ds x) t g)))

mutual
  block_definite : (b : Block) (class : Assignment) (k : Known) (seen own : Names) → BlockScoped seen own b → BlockOnce b → ((x : List ℕ) → IsTrue (block_defines b x) → IsFalse (or_first (k.variables x))) → Least class (low_block class b) → BlockDefinite k class b
  block_definite (block ds es) class k seen own sc once f least =
      let others = others_of (block ds es) k f ds es refl in (
        last_first ds es class k others least sc.0,
        (
          others,
          eqns_definite es ds es class k others least (λ q. class (Equations ∷ q)) (also seen ds) (also own ds) sc.3 once (λ x z. z) (λ x h d. d) (λ p z. least (Equations ∷ p) z),
        ),
      )

  eqns_definite : (es : Eqns) (ds : List Decl) (all : Eqns) (class : Assignment) (k : Known) (others : OthersFirst k ds all) (least : Least class (low_block class (block ds all))) (at : Assignment) (seen own : Names) → EqnsScoped seen own es → AllOnce es → ((x : List ℕ) → IsTrue (some_defines es x) → IsTrue (some_defines all x)) → Apart all es → Least at (low_eqns at es) → EqnsDefinite (K ds all class k others least) at es
  eqns_definite no_eqn ds all class k others least at seen own sc once inc apart low = tt
  eqns_definite (more_eqns e es) ds all class k others least at seen own sc once inc apart low = (
    eqn_definite e (K ds all class k others least) (λ q. at (Head ∷ q)) seen own sc.0 once.1.0
        (λ h x z. declared_first ds all class k others least x (inc x (or_left (defines e x) (some_defines es x) z)) (not_direct e es all once h (λ y p q. apart y p q) x z))
        (λ p z. low (Head ∷ p) z),
    eqns_definite es ds all class k others least (λ q. at (Tail ∷ q)) seen own sc.1 once.1.1 (λ x z. inc x (or_right (defines e x) (some_defines es x) z)) (apart_tail e es all once apart) (λ p z. low (Tail ∷ p) z),
  )

  eqn_definite : (e : Eqn) (k : Known) (at : Assignment) (seen own : Names) → EqnScoped seen own e → OneOnce e → (IsControl e → Firsts e k) → Least at (low_eqn at e) → EqnDefinite k at e
  eqn_definite (define s ys e) k at seen own sc once f low = tt
  eqn_definite (switch s e arms) k at seen own sc once f low =
      arms_definite arms (known_within (switch s e arms) k) (λ q. at (ArmsOf ∷ q)) seen own sc once (f tt) (λ p z. low (ArmsOf ∷ p) z)
  eqn_definite (reset s b e) k at seen own sc once f low =
      block_definite b (λ q. at (Body ∷ q)) (known_within (reset s b e) k) seen own sc once (f tt) (λ p z. low (Body ∷ p) z)
  eqn_definite (automaton s ss) k at seen own sc once f low =
      states_definite ss (known_within (automaton s ss) k) (λ q. at (StatesOf ∷ q)) seen own sc once (f tt) (λ p z. low (StatesOf ∷ p) z)

  arms_definite : (arms : Arms) (k : Known) (at : Assignment) (seen own : Names) → ArmsScoped seen own arms → ArmsOnce arms → ((x : List ℕ) → IsTrue (arms_define arms x) → IsFalse (or_first (k.variables x))) → Least at (low_arms at arms) → ArmsDefinite k at arms
  arms_definite no_arm k at seen own sc once f low = tt
  arms_definite (more_arms c b s arms) k at seen own sc once f low = (
    block_definite b (λ q. at (Head ∷ q)) k seen own sc.0 once.0 (λ x z. f x (or_left (block_defines b x) (arms_define arms x) z)) (λ p z. low (Head ∷ p) z),
    arms_definite arms k (λ q. at (Tail ∷ q)) seen own sc.1 once.1 (λ x z. f x (or_right (block_defines b x) (arms_define arms x) z)) (λ p z. low (Tail ∷ p) z),
  )

  states_definite : (ss : States) (k : Known) (at : Assignment) (seen own : Names) → StatesScoped seen own ss → StatesOnce ss → ((x : List ℕ) → IsTrue (states_define ss x) → IsFalse (or_first (k.variables x))) → Least at (low_states at ss) → StatesDefinite k at ss
  states_definite no_state k at seen own sc once f low = tt
  states_definite (more_states y b until unless s ss) k at seen own sc once f low = (
    block_definite b (λ q. at (Head ∷ Body ∷ q)) k seen own sc.0 once.0 (λ x z. f x (or_left (block_defines b x) (states_define ss x) z)) (λ p z. low (Head ∷ Body ∷ p) z),
    states_definite ss k (λ q. at (Tail ∷ q)) seen own sc.1 once.1 (λ x z. f x (or_right (block_defines b x) (states_define ss x) z)) (λ p z. low (Tail ∷ p) z),
  )

-- ---- nodes

contract_definite : (o : Option Contract) (class : Assignment) (k : Known) (seen : Names) → ContractScoped seen o → ContractOnce o → ((x : List ℕ) → IsFalse (or_first (k.variables x))) → Least class (low_contract class o) → ContractDefinite k class o
contract_definite None class k seen sc once f low = tt
contract_definite (Some c) class k seen sc once f low = block_definite c.body class k seen _ sc once (λ x z. f x) low

pub node_classes : (n : Node) → NodeScoped n → DefinedOnce n → (class : Assignment) → AreClasses n class → first_unmet (of_node class n) ≡ None → HasClasses class n
node_classes n sc once class c h = record {
  follow = c.0;
  met = h;
  definite = (
    contract_definite n.contract (λ q. class (Observer ∷ q)) (known_outputs n class) _ sc.contract once.0 outside (λ p z. low (Observer ∷ p) z),
    block_definite n.body (λ q. class (Body ∷ q)) (known_outputs n class) _ _ sc.body once.1 (λ x z. outside x) (λ p z. low (Body ∷ p) z),
  );
}
  where
    low : (p : Place) → IsTrue (class p) → IsTrue (low_node class n p)
    low p z = c.1 (low_node class n) (node_low n class c.0 h) p z

    outside : (x : List ℕ) → IsFalse (or_first (with_declared n.outputs class (λ y. None) x))
    outside x = by (declares n.outputs x)
      where
        by : (d : Bool) → IsFalse (or_first (if d then Some (class (Named x ∷ [])) else None))
        by true = cases (class (Named x ∷ [])) (λ z. absurd (let r = c.1 (low_node class n) (node_low n class c.0 h) (Named x ∷ []) z in cc)) (λ f. f)
        by false = refl
