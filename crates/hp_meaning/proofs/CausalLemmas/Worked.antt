-- Worked programs: their points, cycles and ranks, by computing.
use Rattle.std.proofs.Common.{◌≡◌, ℕ, ◌<◌, inl, inr, List, [], ◌∷◌, map, length, refl, subst, None, Some}
use Rattle.std.proofs.lemmas.List.Elements.{All-nil, All-cons}
use Rattle.std.proofs.lemmas.Bool.Decides.{Decides-ltb}
use Rattle.std.specs.Prelude.{Bool, true, false, ◌&&◌, ◌||◌, IsTrue, ltb, pos, codes, All}
use Rattle.std.specs.Str.{bytes_eq}
use Rattle.hp_base.specs.declared.span.Span.{Span}
use Rattle.hp_base.specs.declared.value.Value.{Value}
use Rattle.hp_tree.specs.declared.block.Trans.{Trans}
use Rattle.hp_base.specs.declared.ty.Ty.TheVariants as ty
use Rattle.hp_base.specs.declared.ty.Const.TheVariants as const
use Rattle.hp_tree.specs.declared.decl.Cons.TheVariants.{False, True}
use Rattle.hp_tree.specs.declared.expr.Op2.TheVariants.{Eq, Add}
use Rattle.hp_tree.specs.declared.program.Item.TheVariants.{NodeItem}
use Rattle.hp_tree.specs.Expressions.{Expr, constant, variable, two, pre, fby, arrow, when_is, merge, call, no_expr, more_exprs, no_part, more_parts}
use Rattle.hp_tree.specs.Blocks.{Decl, Block, block, Eqns, no_eqn, more_eqns, Eqn, define, switch, reset, automaton, no_arm, more_arms, no_state, more_states}
use Rattle.hp_tree.specs.Programs.{Node}
use Rattle.hp_tree.specs.Instant.{Body, Controls, Enforce, Equations, Right, Named, Head, Tail, Arms, States, Unless, Active as ActiveWord, Place, Instant}
use Rattle.hp_meaning.specs.declared.causal.point.PointKind.{PointKind}
use Rattle.hp_meaning.specs.declared.causal.point.PointKind.TheVariants.{Def, Active, Next, Cond, Call}
use Rattle.hp_meaning.specs.Causal.Sources.{Sources, none, only, both, also, Within}
use Rattle.hp_meaning.specs.Causal.Causality.{sources, Chain, IsCausal, Ranked}
use Rattle.hp_meaning.specs.Causal.Points.{points, places}
use Rattle.hp_meaning.specs.Causal.Clocked.{ClocksRight, own_clock}
use Rattle.std.proofs.lemmas.Slice.Eq.{bytes_eq-Decides}
use Rattle.hp_meaning.specs.Causal.RanksOfPoints.{rank_of, RanksFall}
use Rattle.hp_meaning.specs.Causal.OneReaction.{OneReactionOf}
use Rattle.hp_tree.specs.Reaction.{Reaction}
use Rattle.hp_meaning.proofs.CausalLemmas.Ranking.{ranks_enough, ranked_causal}
use Rattle.hp_meaning.proofs.CausalLemmas.Heights.{causal_reaction}
use Rattle.hp_meaning.proofs.CausalLemmas.Unique.{one_reaction}
use Rattle.hp_meaning.proofs.CausalLemmas.Choices.{both_true}

-- ---- ranks that are tested

abbrev fits : (Place → Bool) → Sources → Bool
fits t none = true
fits t (only p) = t p
fits t (both s u) = fits t s && fits t u
fits t (also s) = fits t s

fitting : (t : Place → Bool) (P : Place → Type 0) → ((p : Place) → IsTrue (t p) → P p) → (s : Sources) → IsTrue (fits t s) → Within P s
fitting t P f none h = tt
fitting t P f (only p) h = f p h
fitting t P f (both s u) h = let w = both_true (fits t s) (fits t u) h in (fitting t P f s w.0, fitting t P f u w.1)
fitting t P f (also s) h = fitting t P f s h

abbrev all_fit : Node → List ℕ → List Place → Bool
all_fit n ranks [] = true
all_fit n ranks (p ∷ ps) = fits (λ q. ltb (rank_of n ranks q) (rank_of n ranks p)) (sources n p) && all_fit n ranks ps

abbrev Falls : Node → List ℕ → Place → Type 0
Falls n ranks p = Within (λ q. rank_of n ranks q < rank_of n ranks p) (sources n p)

falling : (n : Node) (ranks : List ℕ) (ps : List Place) → IsTrue (all_fit n ranks ps) → All (Falls n ranks) ps
falling n ranks [] h = All-nil (Falls n ranks)
falling n ranks (p ∷ ps) h =
    let w = both_true (fits (λ q. ltb (rank_of n ranks q) (rank_of n ranks p)) (sources n p)) (all_fit n ranks ps) h in
    All-cons (Falls n ranks) p ps (fitting (λ q. ltb (rank_of n ranks q) (rank_of n ranks p)) (λ q. rank_of n ranks q < rank_of n ranks p) (λ q t. (Decides-ltb (rank_of n ranks q) (rank_of n ranks p)).0 t) (sources n p) w.0) (falling n ranks ps w.1)

-- ---- programs

abbrev pub here : Span
here = record { line = 1; col = 1; end = 0 }

abbrev pub x : List ℕ
x = codes "x"

abbrev pub y : List ℕ
y = codes "y"

abbrev pub z : List ℕ
z = codes "z"

abbrev pub c : List ℕ
c = codes "c"

abbrev pub bool : List ℕ → Decl
bool n = record { name = n; ty = ty.Bool; last = None; clock = None; span = here }

abbrev pub v : List ℕ → Expr
v n = variable here n

abbrev yes : Expr
yes = constant here (const.B true)

abbrev pub def : List ℕ → Expr → Eqn
def n e = define here ((n, here) ∷ []) e

abbrev pub only_eqn : Eqn → Eqns
only_eqn e = more_eqns e no_eqn

abbrev pub node : List Decl → List Decl → List Decl → Eqns → Node
node ins outs locals es = record { name = codes "f"; span = here; inputs = ins; outputs = outs; contract = None; body = block locals es }

-- x = y; y = x
abbrev looped : Node
looped = node [] (bool x ∷ bool y ∷ []) [] (more_eqns (def x (v y)) (only_eqn (def y (v x))))

-- its cycle
cycle : Chain looped (Body ∷ Named x ∷ []) ((Body ∷ Named y ∷ []) ∷ []) (Body ∷ Named x ∷ [])
cycle = (inr refl, inr refl)

looped_is_not_causal : IsCausal looped → ⊥
looped_is_not_causal h = h (Body ∷ Named x ∷ []) ((Body ∷ Named y ∷ []) ∷ []) cycle

-- each reads the other, in different arms
abbrev in_arms : Node
in_arms =
    node (bool c ∷ []) (bool x ∷ bool y ∷ []) []
    (only_eqn (switch here (v c)
    (more_arms True (block [] (more_eqns (def x (v y)) (only_eqn (def y yes)))) here
    (more_arms False (block [] (more_eqns (def y (v x)) (only_eqn (def x yes)))) here no_arm))))

abbrev names_in_order : Node → List (List ℕ)
names_in_order n = map (λ p. p.point.name) (points n)

in_arms_points : names_in_order in_arms ≡ x ∷ y ∷ x ∷ y ∷ y ∷ x ∷ []
in_arms_points = refl

pub tested : (n : Node) (ranks : List ℕ) → length ranks ≡ length (places n) → IsTrue (all_fit n ranks (places n)) → RanksFall n ranks
tested n ranks e h = record { one_each = e; falls = falling n ranks (places n) h }

in_arms_fall : RanksFall in_arms (2 ∷ 2 ∷ 1 ∷ 0 ∷ 1 ∷ 0 ∷ [])
in_arms_fall = tested in_arms (2 ∷ 2 ∷ 1 ∷ 0 ∷ 1 ∷ 0 ∷ []) refl refl

either : (d e : Bool) → IsTrue ((d || false || (e || false || false)) && true || ((e || false || (d || false || false)) && true || false)) → IsTrue (d || (e || false))
either true e h = refl
either false true h = refl
either false false h = h

in_arms_ranked : Ranked in_arms
in_arms_ranked =
    ranks_enough in_arms (2 ∷ 2 ∷ 1 ∷ 0 ∷ 1 ∷ 0 ∷ []) (tt, ((λ n. either (bytes_eq x n) (bytes_eq y n), ((tt, (tt, tt)), ((tt, (tt, tt)), tt))), tt)) in_arms_fall

-- so the program of this node has one reaction over each list of inputs
in_arms_reacts : (inputs : List (List Value)) (frees : List Instant) → length frees ≡ length inputs → OneReactionOf (Reaction (NodeItem in_arms ∷ []) (codes "f") inputs frees)
in_arms_reacts inputs frees e = one_reaction (NodeItem in_arms ∷ []) (codes "f") inputs frees (in_arms_ranked, tt) e

-- two modes
abbrev to : Expr → Bool → List ℕ → Trans
to e restart target = record { cond = e; restart = restart; target = target; span = here }

abbrev number : ℕ → Expr
number n = constant here (const.I (pos n))

abbrev counts : ℕ → Block
counts n = block [] (only_eqn (def x (arrow here (number n) (two here Add (pre here (v x)) (number 1)))))

abbrev a : List ℕ
a = codes "a"

abbrev b : List ℕ
b = codes "b"

abbrev modes : Node
modes =
    node (bool a ∷ bool b ∷ []) (bool x ∷ []) []
    (only_eqn (automaton here
    (more_states (codes "P") (counts 0) (to (v a) true (codes "Q") ∷ to (v b) false (codes "Q") ∷ []) [] here
    (more_states (codes "Q") (counts 10) (to (v a) false (codes "P") ∷ []) (to (v b) false (codes "P") ∷ []) here no_state))))

abbrev kinds_in_order : Node → List PointKind
kinds_in_order n = map (λ p. p.point.kind) (points n)

modes_points : kinds_in_order modes ≡ Active ∷ Next ∷ Def ∷ Def ∷ Cond ∷ Cond ∷ Def ∷ Cond ∷ Cond ∷ []
modes_points = refl

-- The active word reads the strong condition; all that stands in a state reads the active word.
modes_fall : RanksFall modes (1 ∷ 3 ∷ 3 ∷ 2 ∷ 2 ∷ 2 ∷ 2 ∷ 2 ∷ 0 ∷ [])
modes_fall = tested modes (1 ∷ 3 ∷ 3 ∷ 2 ∷ 2 ∷ 2 ∷ 2 ∷ 2 ∷ 0 ∷ []) refl refl

-- a strong condition that reads what its state defines
abbrev strong_loop : Node
strong_loop =
    node [] (bool x ∷ []) []
    (only_eqn (automaton here
    (more_states (codes "P") (block [] (only_eqn (def x yes))) [] (to (v x) false (codes "P") ∷ []) here no_state)))

abbrev of_automaton : Place → Place
of_automaton p = Body ∷ Equations ∷ Head ∷ p

-- the active word reads the condition, which reads the name, which reads the active word
strong_loop_is_not_causal : IsCausal strong_loop → ⊥
strong_loop_is_not_causal h =
    h (of_automaton (ActiveWord ∷ [])) (of_automaton (States ∷ Head ∷ Unless ∷ Head ∷ []) ∷ (Body ∷ Named x ∷ []) ∷ [])
    (inl (inl refl), (inr refl, inl refl))

-- a sampled stream: the merge reads it, and it depends on the name of its clock
abbrev sampled : Node
sampled =
    node (bool x ∷ []) (bool z ∷ []) (bool c ∷ record (bool y) { clock = Some ((True, c) ∷ []) } ∷ [])
    (more_eqns (def y (when_is here (v x) True c))
    (more_eqns (def z (merge here c (more_parts True (v y) (more_parts False yes no_part))))
    (only_eqn (def c (v x)))))

sampled_fall : RanksFall sampled (1 ∷ 2 ∷ 0 ∷ [])
sampled_fall = tested sampled (1 ∷ 2 ∷ 0 ∷ []) refl refl

-- a call whose argument is controllable; the contract reads the outputs
abbrev steered : Node
steered =
    record {
      name = codes "top";
      span = here;
      inputs = bool x ∷ [];
      outputs = bool y ∷ bool z ∷ [];
      contract = Some (record { body = block [] no_eqn; assume = None; enforce = Some (two here Eq (v y) (v z)); controls = bool c ∷ []; span = here });
      body = block [] (more_eqns (def y (call here (codes "echo") false (more_exprs (v c) no_expr))) (only_eqn (def z (v c))));
    }

steered_points : kinds_in_order steered ≡ Def ∷ Def ∷ Call ∷ Def ∷ []
steered_points = refl

steered_fall : RanksFall steered (0 ∷ 2 ∷ 1 ∷ 1 ∷ [])
steered_fall = tested steered (0 ∷ 2 ∷ 1 ∷ 1 ∷ []) refl refl

-- what is enforced depends on the controllable variable, through the call
enforced_reaches : Chain steered (Enforce ∷ []) ((Body ∷ Named y ∷ []) ∷ (Body ∷ Equations ∷ Head ∷ Right ∷ []) ∷ []) (Controls ∷ Head ∷ [])
enforced_reaches = (inr (inl refl), (inr refl, inr (inl refl)))

-- A name that an arm does not define has its last value there, which reads nothing.
abbrev last_in_arm : Node
last_in_arm =
    node (bool c ∷ []) (record (bool x) { last = Some (const.B false) } ∷ bool y ∷ []) []
    (only_eqn (switch here (v c)
    (more_arms True (block [] (more_eqns (def x (v y)) (only_eqn (def y yes)))) here
    (more_arms False (block [] (only_eqn (def y (v x)))) here no_arm))))

last_in_arm_fall : RanksFall last_in_arm (2 ∷ 2 ∷ 1 ∷ 0 ∷ 0 ∷ [])
last_in_arm_fall = tested last_in_arm (2 ∷ 2 ∷ 1 ∷ 0 ∷ 0 ∷ []) refl refl

reads_nothing_there : sources last_in_arm (Body ∷ Equations ∷ Head ∷ Arms ∷ Tail ∷ Head ∷ Named y ∷ []) ≡ both none (both (also none) none)
reads_nothing_there = refl

-- A body that begins anew where z is true: what is defined in it reads what the condition reads.
abbrev anew : Node
anew =
    node (bool c ∷ []) (bool x ∷ []) (bool z ∷ [])
    (more_eqns (reset here (block [] (only_eqn (def x (fby here yes (v x))))) (v z))
    (only_eqn (def z (fby here (v c) (v x)))))

anew_points : names_in_order anew ≡ x ∷ x ∷ z ∷ []
anew_points = refl

anew_fall : RanksFall anew (2 ∷ 1 ∷ 0 ∷ [])
anew_fall = tested anew (2 ∷ 1 ∷ 0 ∷ []) refl refl

body_reads_condition : Chain anew (Body ∷ Equations ∷ Head ∷ Body ∷ Named x ∷ []) [] (Body ∷ Named z ∷ [])
body_reads_condition = inl refl

-- the clocks of the sampled stream are right, so its program has one reaction over each list of inputs
z_is : (n : List ℕ) → IsTrue (bytes_eq z n || false) → z ≡ n
z_is n t = (bytes_eq-Decides z n).0 (or_none (bytes_eq z n) t)
  where
    or_none : (d : Bool) → IsTrue (d || false) → IsTrue d
    or_none true u = refl
    or_none false u = u

sampled_clocks : ClocksRight sampled
sampled_clocks =
    record {
      outputs = λ n t. subst (λ m. own_clock sampled.body m ≡ []) (z_is n t) refl;
      body = ((tt, tt, ((refl, tt), tt, tt)), (((refl, tt), (refl, tt), (refl, refl, refl)), ((tt, (refl, tt), (refl, (refl, (tt, tt)))), ((tt, (refl, tt), refl), tt))));
      contract = tt;
    }

sampled_reacts : (inputs : List (List Value)) (frees : List Instant) → length frees ≡ length inputs → OneReactionOf (Reaction (NodeItem sampled ∷ []) (codes "f") inputs frees)
sampled_reacts inputs frees e =
    causal_reaction (NodeItem sampled ∷ []) (codes "f") inputs frees
    ((tt, (tt, (tt, (tt, tt)))), sampled_clocks, ranked_causal sampled (ranks_enough sampled (1 ∷ 2 ∷ 0 ∷ []) (tt, (tt, (tt, (tt, tt)))) sampled_fall), tt) e
