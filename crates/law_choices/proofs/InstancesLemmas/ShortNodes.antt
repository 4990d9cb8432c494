-- What a node says of an instant holds integers of 32 bits alone where the instant and its past do, and the inputs, the values that are chosen, and what the node writes are such.
use Rattle.std.proofs.Common.{ℕ, suc, Bool, List, [], ◌∷◌, map}
use Rattle.std.specs.Prelude.{false, if◌then◌else◌, nat_eq, None, Option, Some}
use Rattle.std.specs.Str.{bytes_eq}
use Rattle.hp_base.specs.declared.span.Span.{Span}
use Rattle.hp_base.specs.declared.ty.Const.{Const}
use Rattle.hp_base.specs.declared.value.Value.{Value}
use Rattle.hp_base.specs.declared.value.Value.TheVariants.{Absent}
use Rattle.hp_tree.specs.declared.block.Trans.{Trans}
use Rattle.hp_tree.specs.Blocks.{Decl, Block, block, Eqns, no_eqn, more_eqns, Eqn, define, switch, reset, automaton, Arms, no_arm, more_arms, States, no_state, more_states}
use Rattle.hp_tree.specs.Expressions.{Expr, constant, variable, last_of, one, two, choose, pre, fby, arrow, when_is, merge, call, Exprs, no_expr, more_exprs, Parts, no_part, more_parts}
use Rattle.hp_tree.specs.Programs.{Contract, Node, TypeDecl}
use Rattle.hp_tree.specs.Operators.{constant_of, is_cons, is_true, real}
use Rattle.hp_tree.specs.Instant.{Assume, Body, Controls, Enforce, Named, Observer, Equations, Head, Tail, Right, Test, Arms as ArmsOf, States as StatesOf, Until, Unless, First, Second, Third, Args, Instance, Instant, Past, Given, at, part, parts, top, own, since, newest, at_first, nothing, in_row, in_state, Clock, holds, without}
use Rattle.hp_tree.specs.Meaning.{Names, Nodes, Jump, absent, arm, block_defines, clock_of, conditions, controls_of, declares, defined, defines, equation, equations, expr, exprs, from_arm, from_block, from_state, given_to, gives, input_of, inside, last_in, lasts, merged, node, observer, only_output, output_for, previous, read_in, right, scope, selected, some_defines, states, strong, weak, weak_in, within}
use Rattle.law_equations.specs.Answered.Short.{AreShort, IsShort}
use Rattle.law_wellmade.specs.Spelled.Integers.{ArmsShort, BlockShort, ConditionShort, ContractShort, EqnShort, EqnsShort, ExprShort, ExprsShort, LastShort, LastsShort, PartsShort, StatesShort, TestsShort}
use Rattle.law_choices.specs.Instances.Integers.{HoldsShort, WritesShort}
use Rattle.law_choices.proofs.InstancesLemmas.ShortValues.{AllHold, alone_holds, arms_hold, at_first_short, block_holds, body_holds, choose_short, constant_short, if_holds, if_short, instance_holds, newest_short, node_holds, observer_holds, of_two_holds, one_holds, one_short, own_holds, parts_hold, right_holds, row_holds, since_holds, state_holds, three_holds, tops_short, two_holds, two_short, with_row_holds, words_hold}

-- what is read under names
abbrev pub NamesShort : Names → Type 0
NamesShort names = (x : List ℕ) → IsShort (names x)

inside_short : (es : Eqns) (out : Names) (now : Instant) → NamesShort out → HoldsShort now → NamesShort (inside es out now)
inside_short es out now h a x = if_short (some_defines es x) (now (Named x ∷ [])) (out x) (a (Named x ∷ [])) (h x)

within_short : (e : Eqn) (out last : Names) → NamesShort out → NamesShort last → NamesShort (within e out last)
within_short e out last h k x = if_short (defines e x) (last x) (out x) (k x) (h x)

previous_short : (past : Past) (x : List ℕ) (first : Value) → AllHold past → IsShort first → IsShort (previous past x first)
previous_short [] x first h k = k
previous_short (i ∷ past) x first h k = h.0 (Named x ∷ [])

input_short : (ds : List Decl) (vs : List Value) (out : Names) → AreShort vs → NamesShort out → NamesShort (input_of ds vs out)
input_short [] vs out h k x = k x
input_short (d ∷ ds) [] out h k x = k x
input_short (d ∷ ds) (v ∷ vs) out h k x = if_short (bytes_eq d.name x) v (input_of ds vs out x) h.0 (input_short ds vs out h.1 k x)

output_short : (ys : List (List ℕ × Span)) (os : List (List ℕ)) (i : Instant) → HoldsShort i → NamesShort (output_for ys os i)
output_short [] os i h x = tt
output_short (y ∷ ys) [] i h x = tt
output_short (y ∷ ys) (o ∷ os) i h x = if_short (bytes_eq y.0 x) (i (Named o ∷ [])) (output_for ys os i x) (h (Named o ∷ [])) (output_short ys os i h x)

only_short : (os : List (List ℕ)) (i : Instant) → HoldsShort i → IsShort (only_output os i)
only_short [] i h = tt
only_short (o ∷ os) i h = h (Named o ∷ [])

from_block_short : (b : Block) (last : Names) (now : Instant) → NamesShort last → HoldsShort now → NamesShort (from_block b last now)
from_block_short b last now h a x = if_short (block_defines b x) (now (Named x ∷ [])) (last x) (a (Named x ∷ [])) (h x)

from_state_short : (ss : States) (k n : ℕ) (last : Names) (now : Instant) → NamesShort last → HoldsShort now → NamesShort (from_state ss k n last now)
from_state_short no_state k n last now h a x = tt
from_state_short (more_states f b until unless s ss) k n last now h a x =
    if_short (nat_eq k n) (from_block b last (part Body (part Head now)) x) (from_state ss (suc k) n last (part Tail now) x)
    (from_block_short b last (part Body (part Head now)) h (λ p. a (Head ∷ Body ∷ p)) x) (from_state_short ss (suc k) n last (part Tail now) h (λ p. a (Tail ∷ p)) x)

-- the last values of names
module _ (types : List TypeDecl) (past : Past) (h : AllHold past) (out : Names) (k : NamesShort out) where
  lasts_short : (ds : List Decl) → LastsShort ds → NamesShort (lasts (constant_of types) ds past out)
  lasts_short [] s x = k x
  lasts_short (d ∷ ds) s x =
      if_short (bytes_eq d.name x) (elim d.last [ None ↦ out x | Some c ↦ previous past x (constant_of types c) ]) (lasts (constant_of types) ds past out x)
      (by d.last s.0) (lasts_short ds s.1 x)
    where
      by : (o : Option Const) → LastShort o → IsShort (elim o [ None ↦ out x | Some c ↦ previous past x (constant_of types c) ])
      by None l = k x
      by (Some c) l = previous_short past x (constant_of types c) h (constant_short types c l)

-- nodes of which each instant holds such integers where what it is read with does
abbrev pub KeepShort : Nodes → Type 0
KeepShort N = (f : List ℕ) (vs : List Value) (g : Given) (now : Instant) → AreShort vs → AllHold g.past → HoldsShort now → HoldsShort (N.instant f vs g now)

module _ (types : List TypeDecl) (N : Nodes) (keep : KeepShort N) where
  -- what the meaning says of a value on a clock, of a merge and of a condition
  abbrev on : Clock → Names → Value → Value
  on c names v = if holds types c names then v else Absent

  abbrev chosen : Parts → Value → List Instant → Value
  chosen no_part v is = Absent
  chosen (more_parts c e ps) v [] = Absent
  chosen (more_parts c e ps) v (i ∷ is) = if is_cons types v c then top i else chosen ps v is

  abbrev told : Option Expr → Names → Names → Given → Instant → Instant
  told None names last g now = nothing
  told (Some e) names last g now = expr types real N e [] names last g now

  on_short : (c : Clock) (names : Names) (v : Value) → IsShort v → IsShort (on c names v)
  on_short c names v h = if_short (holds types c names) v Absent h tt

  chosen_short : (ps : Parts) (v : Value) (is : List Instant) → AllHold is → IsShort (chosen ps v is)
  chosen_short no_part v is h = tt
  chosen_short (more_parts c e ps) v [] h = tt
  chosen_short (more_parts c e ps) v (i ∷ is) h = if_short (is_cons types v c) (top i) (chosen ps v is) (h.0 []) (chosen_short ps v is h.1)

  -- ---- expressions

  mutual
    expr_holds : (e : Expr) → ExprShort e → (c : Clock) (names last : Names) → NamesShort names → NamesShort last → (g : Given) → AllHold g.past → (now : Instant) → HoldsShort now → HoldsShort (expr types real N e c names last g now)
    expr_holds (constant s k) w c names last n l g h now a = alone_holds (on c names (constant_of types k)) (on_short c names (constant_of types k) (constant_short types k w))
    expr_holds (variable s x) w c names last n l g h now a = alone_holds (names x) (n x)
    expr_holds (last_of s x) w c names last n l g h now a = alone_holds (last x) (l x)
    expr_holds (one s o d) w c names last n l g h now a =
        let i = expr types real N d c names last (at First g) (part First now) in
        let b = expr_holds d w c names last n l (at First g) (parts_hold First g.past h) (part First now) (λ p. a (First ∷ p)) in
        one_holds (real.one o (top i)) i (one_short o (top i) (b [])) b
    expr_holds (two s o d e) w c names last n l g h now a =
        let i = expr types real N d c names last (at First g) (part First now) in
        let j = expr types real N e c names last (at Second g) (part Second now) in
        let x = expr_holds d w.0 c names last n l (at First g) (parts_hold First g.past h) (part First now) (λ p. a (First ∷ p)) in
        let y = expr_holds e w.1 c names last n l (at Second g) (parts_hold Second g.past h) (part Second now) (λ p. a (Second ∷ p)) in
        two_holds (real.two o (top g.free) (top i) (top j)) i j (two_short o (top i) (top j) (x []) (y [])) x y
    expr_holds (choose s d e f) w c names last n l g h now a =
        let i = expr types real N d c names last (at First g) (part First now) in
        let j = expr types real N e c names last (at Second g) (part Second now) in
        let k = expr types real N f c names last (at Third g) (part Third now) in
        let x = expr_holds d w.0 c names last n l (at First g) (parts_hold First g.past h) (part First now) (λ p. a (First ∷ p)) in
        let y = expr_holds e w.1.0 c names last n l (at Second g) (parts_hold Second g.past h) (part Second now) (λ p. a (Second ∷ p)) in
        let z = expr_holds f w.1.1 c names last n l (at Third g) (parts_hold Third g.past h) (part Third now) (λ p. a (Third ∷ p)) in
        three_holds _ i j k (choose_short (top i) (top j) (top k) (y []) (z [])) x y z
    expr_holds (pre s d) w c names last n l g h now a =
        let i = expr types real N d c names last (at First g) (part First now) in
        let x = expr_holds d w c names last n l (at First g) (parts_hold First g.past h) (part First now) (λ p. a (First ∷ p)) in
        let v = newest (real.undefined (top g.free)) (parts First g.past) in
        one_holds (on c names v) i (on_short c names v (newest_short (real.undefined (top g.free)) (parts First g.past) tt (parts_hold First g.past h))) x
    expr_holds (fby s d e) w c names last n l g h now a =
        let i = expr types real N d c names last (at First g) (part First now) in
        let j = expr types real N e c names last (at Second g) (part Second now) in
        let x = expr_holds d w.0 c names last n l (at First g) (parts_hold First g.past h) (part First now) (λ p. a (First ∷ p)) in
        let y = expr_holds e w.1 c names last n l (at Second g) (parts_hold Second g.past h) (part Second now) (λ p. a (Second ∷ p)) in
        let u = newest _ (parts Second g.past) in
        let v = at_first (parts First g.past) (top i) u in
        two_holds (on c names v) i j
        (on_short c names v (at_first_short (parts First g.past) (top i) u (x []) (newest_short _ (parts Second g.past) tt (parts_hold Second g.past h)))) x y
    expr_holds (arrow s d e) w c names last n l g h now a =
        let i = expr types real N d c names last (at First g) (part First now) in
        let j = expr types real N e c names last (at Second g) (part Second now) in
        let x = expr_holds d w.0 c names last n l (at First g) (parts_hold First g.past h) (part First now) (λ p. a (First ∷ p)) in
        let y = expr_holds e w.1 c names last n l (at Second g) (parts_hold Second g.past h) (part Second now) (λ p. a (Second ∷ p)) in
        two_holds (at_first (parts First g.past) (top i) (top j)) i j (at_first_short (parts First g.past) (top i) (top j) (x []) (y [])) x y
    expr_holds (when_is s d k y) w c names last n l g h now a =
        let i = expr types real N d (without c) names last (at First g) (part First now) in
        let x = expr_holds d w (without c) names last n l (at First g) (parts_hold First g.past h) (part First now) (λ p. a (First ∷ p)) in
        one_holds (if is_cons types (names y) k then top i else Absent) i (if_short (is_cons types (names y) k) (top i) Absent (x []) tt) x
    expr_holds (merge s y ps) w c names last n l g h now a =
        let is = merged types real N ps y c names last (at Args g) (part Args now) in
        let x = merged_hold ps w y c names last n l (at Args g) (parts_hold Args g.past h) (part Args now) (λ p. a (Args ∷ p)) in
        with_row_holds (chosen ps (names y) is) is (chosen_short ps (names y) is x) x
    expr_holds (call s f inlined es) w c names last n l g h now a =
        let is = exprs types real N es c names last (at Args g) (part Args now) in
        let x = exprs_hold es w c names last n l (at Args g) (parts_hold Args g.past h) (part Args now) (λ p. a (Args ∷ p)) in
        let called = N.instant f (map top is) (since false (at Instance g)) (part Instance now) in
        let i = if holds types c names then called else nothing in
        let y = if_holds (holds types c names) called nothing
        (keep f (map top is) (since false (at Instance g)) (part Instance now) (tops_short is x) (own_holds (parts Instance g.past) (parts_hold Instance g.past h)) (λ p. a (Instance ∷ p))) (λ p. tt) in
        instance_holds (only_output (N.outputs f) i) is i (only_short (N.outputs f) i y) x y

    exprs_hold : (es : Exprs) → ExprsShort es → (c : Clock) (names last : Names) → NamesShort names → NamesShort last → (g : Given) → AllHold g.past → (now : Instant) → HoldsShort now → AllHold (exprs types real N es c names last g now)
    exprs_hold no_expr w c names last n l g h now a = tt
    exprs_hold (more_exprs e es) w c names last n l g h now a = (
      expr_holds e w.0 c names last n l (at Head g) (parts_hold Head g.past h) (part Head now) (λ p. a (Head ∷ p)),
      exprs_hold es w.1 c names last n l (at Tail g) (parts_hold Tail g.past h) (part Tail now) (λ p. a (Tail ∷ p)),
    )

    merged_hold : (ps : Parts) → PartsShort ps → (y : List ℕ) (c : Clock) (names last : Names) → NamesShort names → NamesShort last → (g : Given) → AllHold g.past → (now : Instant) → HoldsShort now → AllHold (merged types real N ps y c names last g now)
    merged_hold no_part w y c names last n l g h now a = tt
    merged_hold (more_parts k e ps) w y c names last n l g h now a = (
      expr_holds e w.0 ((k, y) ∷ c) names last n l (at Head g) (parts_hold Head g.past h) (part Head now) (λ p. a (Head ∷ p)),
      merged_hold ps w.1 y c names last n l (at Tail g) (parts_hold Tail g.past h) (part Tail now) (λ p. a (Tail ∷ p)),
    )

  conditions_hold : (ts : List Trans) → TestsShort ts → (names last : Names) → NamesShort names → NamesShort last → (g : Given) → AllHold g.past → (now : Instant) → HoldsShort now → AllHold (conditions types real N ts names last g now)
  conditions_hold [] w names last n l g h now a = tt
  conditions_hold (t ∷ ts) w names last n l g h now a = (
    expr_holds t.cond w.0 [] names last n l (at Head g) (parts_hold Head g.past h) (part Head now) (λ p. a (Head ∷ p)),
    conditions_hold ts w.1 names last n l (at Tail g) (parts_hold Tail g.past h) (part Tail now) (λ p. a (Tail ∷ p)),
  )

  -- ---- what equations give to names

  read_in_short : (b : Block) (names : Names) (now : Instant) → NamesShort names → HoldsShort now → NamesShort (read_in types real N b names now)
  read_in_short (block ds es) names now n a = inside_short es names now n a

  last_in_short : (b : Block) → BlockShort b → (past : Past) (last : Names) → AllHold past → NamesShort last → NamesShort (last_in types real N b past last)
  last_in_short (block ds es) w past last h l = lasts_short types past h last l ds w.0

  from_arm_short : (arms : Arms) (v : Value) (last : Names) (now : Instant) → NamesShort last → HoldsShort now → NamesShort (from_arm types real N arms v last now)
  from_arm_short no_arm v last now l a x = tt
  from_arm_short (more_arms c b s arms) v last now l a x =
      if_short (is_cons types v c) (from_block b last (part Head now) x) (from_arm types real N arms v last (part Tail now) x)
      (from_block_short b last (part Head now) l (λ p. a (Head ∷ p)) x) (from_arm_short arms v last (part Tail now) l (λ p. a (Tail ∷ p)) x)

  right_short : (ys : List (List ℕ × Span)) (e : Expr) (i : Instant) → HoldsShort i → NamesShort (right types real N ys e i)
  right_short ys (call s f inlined es) i a x = output_short ys (N.outputs f) (part Instance i) (λ p. a (Instance ∷ p)) x
  right_short ys e i a x = a []

  gives_short : (ds : List Decl) (e : Eqn) → EqnShort e → (names last : Names) → NamesShort names → NamesShort last → (g : Given) → AllHold g.past → (now : Instant) → HoldsShort now → NamesShort (gives types real N ds e names last g now)
  gives_short ds (define s ys e) w names last n l g h now a x =
      right_short ys e (expr types real N e (clock_of ds ys e) names last (at Right g) (part Right now)) (expr_holds e w (clock_of ds ys e) names last n l (at Right g) (parts_hold Right g.past h) (part Right now) (λ p. a (Right ∷ p))) x
  gives_short ds (switch s e arms) w names last n l g h now a x = from_arm_short arms (top (expr types real N e [] names last (at Test g) (part Test now))) last (part ArmsOf now) l (λ p. a (ArmsOf ∷ p)) x
  gives_short ds (reset s b e) w names last n l g h now a x = a (Body ∷ Named x ∷ [])
  gives_short ds (automaton s ss) w names last n l g h now a x =
      from_state_short ss 0 (strong types real N ss ss 0 (selected g.past) names last (at StatesOf g) (part StatesOf now)).state last (part StatesOf now) l (λ p. a (StatesOf ∷ p)) x

  defined_short : (ds : List Decl) (es : Eqns) → EqnsShort es → (names last : Names) → NamesShort names → NamesShort last → (g : Given) → AllHold g.past → (now : Instant) → HoldsShort now → NamesShort (defined types real N ds es names last g now)
  defined_short ds no_eqn w names last n l g h now a x = tt
  defined_short ds (more_eqns e es) w names last n l g h now a x =
      if_short (defines e x) (gives types real N ds e names last (at Head g) (part Head now) x) (defined types real N ds es names last (at Tail g) (part Tail now) x)
      (gives_short ds e w.0 names last n l (at Head g) (parts_hold Head g.past h) (part Head now) (λ p. a (Head ∷ p)) x)
      (defined_short ds es w.1 names last n l (at Tail g) (parts_hold Tail g.past h) (part Tail now) (λ p. a (Tail ∷ p)) x)

  weak_hold : (b : Block) (until : List Trans) → BlockShort b → TestsShort until → (j : Jump) (names last : Names) → NamesShort names → NamesShort last → (g : Given) → AllHold g.past → (now : Instant) → HoldsShort now → AllHold (weak_in types real N b until j names last g now)
  weak_hold b until w t j names last n l g h now a =
      let q = (since j.restart (at Body g)).past in
      conditions_hold until t (read_in types real N b names (part Body now)) (last_in types real N b q last) (read_in_short b names (part Body now) n (λ p. a (Body ∷ p)))
      (last_in_short b w q last (since_holds j.restart (parts Body g.past) (parts_hold Body g.past h)) l) (at Until g) (parts_hold Until g.past h) (part Until now) (λ p. a (Until ∷ p))

  -- ---- blocks

  mutual
    scope_holds : (b : Block) → BlockShort b → (fresh : Bool) (names last : Names) → NamesShort names → NamesShort last → (g : Given) → AllHold g.past → (now : Instant) → HoldsShort now → HoldsShort (scope types real N b fresh names last g now)
    scope_holds (block ds es) w fresh names last n l g h now a =
        let inner = inside es names now in
        let last' = lasts (constant_of types) ds g.past last in
        let n' = inside_short es names now n a in
        let l' = lasts_short types g.past h last l ds w.0 in
        block_holds (λ x. if some_defines es x then defined types real N ds es inner last' (at Equations g) (part Equations now) x else Absent) fresh (equations types real N ds es inner last' (at Equations g) (part Equations now))
        (λ x.
        if_short (some_defines es x) (defined types real N ds es inner last' (at Equations g) (part Equations now) x) Absent
        (defined_short ds es w.1 inner last' n' l' (at Equations g) (parts_hold Equations g.past h) (part Equations now) (λ p. a (Equations ∷ p)) x) tt)
        (equations_hold ds es w.1 inner last' n' l' (at Equations g) (parts_hold Equations g.past h) (part Equations now) (λ p. a (Equations ∷ p)))

    equations_hold : (ds : List Decl) (es : Eqns) → EqnsShort es → (names last : Names) → NamesShort names → NamesShort last → (g : Given) → AllHold g.past → (now : Instant) → HoldsShort now → HoldsShort (equations types real N ds es names last g now)
    equations_hold ds no_eqn w names last n l g h now a = λ p. tt
    equations_hold ds (more_eqns e es) w names last n l g h now a =
        of_two_holds (equation types real N ds e names last (at Head g) (part Head now)) (equations types real N ds es names last (at Tail g) (part Tail now))
        (equation_holds ds e w.0 names last n l (at Head g) (parts_hold Head g.past h) (part Head now) (λ p. a (Head ∷ p)))
        (equations_hold ds es w.1 names last n l (at Tail g) (parts_hold Tail g.past h) (part Tail now) (λ p. a (Tail ∷ p)))

    equation_holds : (ds : List Decl) (e : Eqn) → EqnShort e → (names last : Names) → NamesShort names → NamesShort last → (g : Given) → AllHold g.past → (now : Instant) → HoldsShort now → HoldsShort (equation types real N ds e names last g now)
    equation_holds ds (define s ys e) w names last n l g h now a =
        right_holds (expr types real N e (clock_of ds ys e) names last (at Right g) (part Right now)) (expr_holds e w (clock_of ds ys e) names last n l (at Right g) (parts_hold Right g.past h) (part Right now) (λ p. a (Right ∷ p)))
    equation_holds ds (switch s e arms) w names last n l g h now a =
        let i = expr types real N e [] names last (at Test g) (part Test now) in
        let out = within (switch s e arms) names last in
        arms_hold i (arm types real N arms (top i) out last (at ArmsOf g) (part ArmsOf now))
        (expr_holds e w.0 [] names last n l (at Test g) (parts_hold Test g.past h) (part Test now) (λ p. a (Test ∷ p)))
        (arm_holds arms w.1 (top i) out last (within_short (switch s e arms) names last n l) l (at ArmsOf g) (parts_hold ArmsOf g.past h) (part ArmsOf now) (λ p. a (ArmsOf ∷ p)))
    equation_holds ds (reset s b e) w names last n l g h now a =
        let i = expr types real N e [] names last (at Test g) (part Test now) in
        let fresh = is_true (top i) in
        let out = within (reset s b e) names last in
        body_holds i (scope types real N b fresh out last (since fresh (at Body g)) (part Body now))
        (expr_holds e w.0 [] names last n l (at Test g) (parts_hold Test g.past h) (part Test now) (λ p. a (Test ∷ p)))
        (scope_holds b w.1 fresh out last (within_short (reset s b e) names last n l) l (since fresh (at Body g)) (since_holds fresh (parts Body g.past) (parts_hold Body g.past h)) (part Body now) (λ p. a (Body ∷ p)))
    equation_holds ds (automaton s ss) w names last n l g h now a =
        let j = strong types real N ss ss 0 (selected g.past) names last (at StatesOf g) (part StatesOf now) in
        let out = within (automaton s ss) names last in
        let next = weak types real N ss ss 0 j out last (at StatesOf g) (part StatesOf now) in
        words_hold j.state next.state next.restart (states types real N ss 0 j names out last (at StatesOf g) (part StatesOf now))
        (states_hold ss w 0 j names out last n (within_short (automaton s ss) names last n l) l (at StatesOf g) (parts_hold StatesOf g.past h) (part StatesOf now) (λ p. a (StatesOf ∷ p)))

    arm_holds : (arms : Arms) → ArmsShort arms → (v : Value) (names last : Names) → NamesShort names → NamesShort last → (g : Given) → AllHold g.past → (now : Instant) → HoldsShort now → HoldsShort (arm types real N arms v names last g now)
    arm_holds no_arm w v names last n l g h now a = λ p. tt
    arm_holds (more_arms c b s arms) w v names last n l g h now a =
        let i = scope types real N b false names last (since false (at Head g)) (part Head now) in
        of_two_holds (if is_cons types v c then i else nothing) (arm types real N arms v names last (at Tail g) (part Tail now))
        (if_holds (is_cons types v c) i nothing (scope_holds b w.0 false names last n l (since false (at Head g)) (own_holds (parts Head g.past) (parts_hold Head g.past h)) (part Head now) (λ p. a (Head ∷ p))) (λ p. tt))
        (arm_holds arms w.1 v names last n l (at Tail g) (parts_hold Tail g.past h) (part Tail now) (λ p. a (Tail ∷ p)))

    states_hold : (ss : States) → StatesShort ss → (k : ℕ) (j : Jump) (out names last : Names) → NamesShort out → NamesShort names → NamesShort last → (g : Given) → AllHold g.past → (now : Instant) → HoldsShort now → HoldsShort (states types real N ss k j out names last g now)
    states_hold no_state w k j out names last m n l g h now a = λ p. tt
    states_hold (more_states f b until unless s ss) w k j out names last m n l g h now a =
        let d = nat_eq k j.state in
        let g' = at Head g in
        let here = part Head now in
        let h' = parts_hold Head g.past h in
        let i = scope types real N b j.restart names last (since j.restart (at Body g')) (part Body here) in
        let is = weak_in types real N b until j names last g' here in
        let js = conditions types real N unless out last (at Unless g') (part Unless here) in
        of_two_holds (in_state (if d then i else nothing) (if d then in_row is else nothing) (in_row js)) (states types real N ss (suc k) j out names last (at Tail g) (part Tail now))
        (state_holds (if d then i else nothing) (if d then in_row is else nothing) (in_row js)
        (if_holds d i nothing
        (scope_holds b w.0.0 j.restart names last n l (since j.restart (at Body g')) (since_holds j.restart (parts Body g'.past) (parts_hold Body g'.past h')) (part Body here) (λ p. a (Head ∷ Body ∷ p))) (λ p. tt))
        (if_holds d (in_row is) nothing (row_holds is (weak_hold b until w.0.0 w.0.1.0 j names last n l g' h' here (λ p. a (Head ∷ p)))) (λ p. tt))
        (row_holds js (conditions_hold unless w.0.1.1 out last m l (at Unless g') (parts_hold Unless g'.past h') (part Unless here) (λ p. a (Head ∷ Unless ∷ p)))))
        (states_hold ss w.1 (suc k) j out names last m n l (at Tail g) (parts_hold Tail g.past h) (part Tail now) (λ p. a (Tail ∷ p)))

  -- ---- nodes

  told_holds : (e : Option Expr) → ConditionShort e → (names last : Names) → NamesShort names → NamesShort last → (g : Given) → AllHold g.past → (now : Instant) → HoldsShort now → HoldsShort (told e names last g now)
  told_holds None w names last n l g h now a = λ p. tt
  told_holds (Some e) w names last n l g h now a = expr_holds e w [] names last n l g h now a

  contract_holds : (c : Option Contract) → ContractShort c → (names last : Names) → NamesShort names → NamesShort last → (g : Given) → AllHold g.past → (now : Instant) → HoldsShort now → HoldsShort (observer types real N c names last g now)
  contract_holds None w names last n l g h now a = λ p. tt
  contract_holds (Some c) w names last n l g h now a =
      let q = own (parts Observer g.past) in
      let h' = own_holds (parts Observer g.past) (parts_hold Observer g.past h) in
      let own_names = read_in types real N c.body names (part Observer now) in
      let own_last = last_in types real N c.body q last in
      let n' = read_in_short c.body names (part Observer now) n (λ p. a (Observer ∷ p)) in
      let l' = last_in_short c.body w.0 q last h' l in
      observer_holds (scope types real N c.body false names last (since false (at Observer g)) (part Observer now)) (told c.assume own_names own_last (at Assume g) (part Assume now)) (told c.enforce own_names own_last (at Enforce g) (part Enforce now))
      (scope_holds c.body w.0 false names last n l (since false (at Observer g)) h' (part Observer now) (λ p. a (Observer ∷ p)))
      (told_holds c.assume w.1.0 own_names own_last n' l' (at Assume g) (parts_hold Assume g.past h) (part Assume now) (λ p. a (Assume ∷ p)))
      (told_holds c.enforce w.1.1 own_names own_last n' l' (at Enforce g) (parts_hold Enforce g.past h) (part Enforce now) (λ p. a (Enforce ∷ p)))

  given_short : (ds : List Decl) (i : Instant) → HoldsShort i → AreShort (given_to types real N ds i)
  given_short [] i a = tt
  given_short (d ∷ ds) i a = (a (Head ∷ []), given_short ds (part Tail i) (λ p. a (Tail ∷ p)))

  -- A node, with the values that are given for its controllable variables.
  pub said_holds : (n : Node) → WritesShort n → (vs : List Value) → AreShort vs → (g : Given) → AllHold g.past → HoldsShort (part Controls g.free) → (now : Instant) → HoldsShort now → HoldsShort (node types real N n vs g now)
  said_holds n w vs v g h c now a =
      let controls = given_to types real N (controls_of n.contract) (part Controls g.free) in
      let cs = given_short (controls_of n.contract) (part Controls g.free) c in
      let outputs : Names = λ x. if declares n.outputs x then now (Body ∷ Named x ∷ []) else Absent in
      let outer : Names = input_of n.inputs vs absent in
      let o = input_short n.inputs vs absent v (λ x. tt) in
      let last : Names = lasts (constant_of types) n.outputs g.past absent in
      let l = lasts_short types g.past h absent (λ x. tt) n.outputs w.0.0 in
      let names : Names = input_of (controls_of n.contract) controls outer in
      let seen : Names = λ x. if declares n.outputs x then now (Named x ∷ []) else outer x in
      node_holds outputs vs controls (scope types real N n.body false names last (since false (at Body g)) (part Body now)) (observer types real N n.contract seen last g now)
      (λ x. if_short (declares n.outputs x) (now (Body ∷ Named x ∷ [])) Absent (a (Body ∷ Named x ∷ [])) tt) v cs
      (scope_holds n.body w.0.1 false names last (input_short (controls_of n.contract) controls outer cs o) l (since false (at Body g)) (own_holds (parts Body g.past) (parts_hold Body g.past h)) (part Body now) (λ p. a (Body ∷ p)))
      (contract_holds n.contract w.1 seen last (λ x. if_short (declares n.outputs x) (now (Named x ∷ [])) (outer x) (a (Named x ∷ [])) (o x)) l g h now a)
