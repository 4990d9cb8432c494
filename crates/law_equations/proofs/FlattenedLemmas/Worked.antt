-- A node with a reset, a delay and a call: its flat equations, and that its values are there exactly on their clocks.
use Rattle.std.proofs.Common.{◌≡◌, ℕ, zero, suc, Bool, true, false, List, [], ◌∷◌, None, Some, refl, ap, ◌∙◌, subst}
use Rattle.std.proofs.lemmas.Slice.Eq.{bytes_eq-Decides}
use Rattle.std.specs.Prelude.{⊤, Option, if◌then◌else◌}
use Rattle.std.specs.Str.{bytes_eq}
use Rattle.hp_base.specs.declared.span.Span.{Span}
use Rattle.hp_base.specs.declared.value.Value.{Value}
use Rattle.hp_base.specs.declared.value.Value.TheVariants.{Absent, B}
use Rattle.hp_base.specs.declared.ty.Ty.TheVariants as ty
use Rattle.hp_base.specs.declared.ty.Const.TheVariants as const
use Rattle.hp_tree.specs.declared.expr.Op1.TheVariants.{Not}
use Rattle.hp_tree.specs.declared.program.Item.TheVariants.{NodeItem}
use Rattle.hp_tree.specs.Expressions.{constant, variable, one, fby, call, no_expr, more_exprs}
use Rattle.hp_tree.specs.Blocks.{Decl, block, no_eqn, more_eqns, define, reset}
use Rattle.hp_tree.specs.Programs.{Node}
use Rattle.hp_tree.specs.Operators.{filled}
use Rattle.hp_tree.specs.Instant.{Named, Equations, Head, Tail, Right as RightOf, Test, Body, First, Second, Args, Instance, Place, Instant, Past, nothing}
use Rattle.hp_tree.specs.Meaning.{Nodes, nodes, node}
use Rattle.law_equations.specs.Flattened.Flat.{name, Register, Call, Now, Behaviours}
use Rattle.law_equations.specs.Flattened.Flatten.{FlatName, Rows, At, When, always, row, Plan, plan_alone, plan_one, plan_two, plan_call, plan_of_two, plan_block, plan_right, plan_body, Prefix, below, flatten}
use Rattle.law_equations.specs.Flattened.Timely.{Stands, Timely, demand}
use Rattle.law_equations.specs.Flattened.Lifted.{Reacts, lifts, NodeTimely}
use Rattle.law_equations.specs.Flattened.Behaves.{AllAre, OutputsAre, Behaves}

abbrev here : Span
here = record { line = 1; col = 1; end = 0 }

abbrev x : List ℕ
x = 120 ∷ []

abbrev y : List ℕ
y = 121 ∷ []

abbrev z : List ℕ
z = 122 ∷ []

abbrev c : List ℕ
c = 99 ∷ []

abbrev f : List ℕ
f = 102 ∷ []

abbrev g : List ℕ
g = 103 ∷ []

abbrev bool : List ℕ → Decl
bool n = record { name = n; ty = ty.Bool; last = None; clock = None; span = here }

-- node g(x) returns (y) y = x
abbrev echo : Node
echo = record { name = g; span = here; inputs = bool x ∷ []; outputs = bool y ∷ []; contract = None; body = block [] (more_eqns (define here ((y, here) ∷ []) (variable here x)) no_eqn) }

-- node f(c) returns (z) reset z = true fby g(not z) every c
abbrev turns : Node
turns = record {
  name = f;
  span = here;
  inputs = bool c ∷ [];
  outputs = bool z ∷ [];
  contract = None;
  body = block [] (more_eqns (reset here (block [] (more_eqns (define here ((z, here) ∷ []) (fby here (constant here (const.B true)) (call here g false (more_exprs (one here Not (variable here z)) no_expr)))) no_eqn)) (variable here c)) no_eqn);
}

abbrev N : Nodes
N = nodes [] filled (NodeItem echo ∷ [])

abbrev free : Instant
free p = B true

abbrev round : ℕ → Past → List Value → Instant
round zero past inputs = nothing
round (suc k) past inputs = node [] filled N turns inputs (record { past = past; free = free }) (round k past inputs)

abbrev first : Instant
first = round 5 [] (B false ∷ [])

abbrev second : Instant
second = round 5 (first ∷ []) (B false ∷ [])

outputs : (first (Named z ∷ []) ≡ B true) × (second (Named z ∷ []) ≡ B false) × (round 5 (second ∷ first ∷ []) (B true ∷ []) (Named z ∷ []) ≡ B true)
outputs = (refl, refl, refl)

-- the place of the right side of z
abbrev right : Prefix
right p = Body ∷ Equations ∷ Head ∷ Body ∷ Equations ∷ Head ∷ RightOf ∷ p

abbrev test : List Place
test = (Body ∷ Equations ∷ Head ∷ Test ∷ []) ∷ []

abbrev rows : Place → Option Rows
rows p = flatten [] N.outputs (λ p. B true) turns (At p)

delay_rows : rows (right []) ≡ Some (row always test (Register (B true) (name (At (right (Second ∷ []))))) ∷ [])
delay_rows = refl

call_rows : rows (right (Second ∷ Instance ∷ Named y ∷ [])) ≡ Some (row always test (Call g 0 (name (At (right (Second ∷ Args ∷ Head ∷ []))) ∷ [])) ∷ [])
call_rows = refl

-- the callee behaves
abbrev echoes : Behaviours
echoes n ((v ∷ vs) ∷ earlier) = v ∷ []
echoes n vs = Absent ∷ []

echo_behaves : Behaves N echoes (λ free. ⊤) g
echo_behaves = ((λ inputs given now. refl), echo_outputs)
  where
    value_of : (vs : List Value) (earlier : List (List Value)) (frees : List Instant) (now : Instant) (past : Past) → Reacts (N.instant g) (vs ∷ earlier) frees (now ∷ past) → now (Named y ∷ []) ∷ [] ≡ echoes g (vs ∷ earlier)
    value_of [] earlier [] now past r = absurd r
    value_of [] earlier (given ∷ frees) now past r = ap (λ v. v ∷ []) (r.1 (Named y ∷ []) ∙ r.1 (Body ∷ Named y ∷ []))
    value_of (v ∷ vs) earlier [] now past r = absurd r
    value_of (v ∷ vs) earlier (given ∷ frees) now past r = ap (λ v. v ∷ []) (r.1 (Named y ∷ []) ∙ r.1 (Body ∷ Named y ∷ []))

    echo_outputs : (inputs : List (List Value)) (frees : List Instant) (past : Past) → AllAre (λ free. ⊤) frees → Reacts (N.instant g) inputs frees past → OutputsAre (N.outputs g) past (echoes g inputs)
    echo_outputs inputs frees [] a r = tt
    echo_outputs [] [] (now ∷ past) a r = absurd r
    echo_outputs [] (given ∷ frees) (now ∷ past) a r = absurd r
    echo_outputs (vs ∷ earlier) frees (now ∷ past) a r = value_of vs earlier frees now past r

-- ---- each value is there on its clock

abbrev L : List (Now FlatName)
L = lifts turns ((B false ∷ []) ∷ (B false ∷ []) ∷ []) (free ∷ free ∷ []) (second ∷ first ∷ [])

alone_timely : (w : When) (h : Prefix) → Stands (Some w) (At (h [])) L → Timely (plan_alone w) h L
alone_timely w h s [] = s
alone_timely w h s (_ ∷ p) = tt

one_timely : (w : When) (a : Plan When) (h : Prefix) → Stands (Some w) (At (h [])) L → Timely a (below First h) L → Timely (plan_one w a) h L
one_timely w a h s t [] = s
one_timely w a h s t (First ∷ p) = t p
one_timely w a h s t p = tt

two_timely : (w : When) (a b : Plan When) (h : Prefix) → Stands (Some w) (At (h [])) L → Timely a (below First h) L → Timely b (below Second h) L → Timely (plan_two w a b) h L
two_timely w a b h s t u [] = s
two_timely w a b h s t u (First ∷ p) = t p
two_timely w a b h s t u (Second ∷ p) = u p
two_timely w a b h s t u p = tt

call_timely : (w : Option When) (a : Plan When) (outs : List ℕ → Option When) (h : Prefix) → Stands w (At (h [])) L → Timely a (below Args h) L → ((n : List ℕ) → Stands (outs n) (At (h (Instance ∷ Named n ∷ []))) L) → Timely (plan_call w a outs) h L
call_timely w a outs h s t u [] = s
call_timely w a outs h s t u (Args ∷ p) = t p
call_timely w a outs h s t u (Instance ∷ Named n ∷ []) = u n
call_timely w a outs h s t u p = tt

row_timely : (a b : Plan When) (h : Prefix) → Timely a (below Head h) L → Timely b (below Tail h) L → Timely (plan_of_two a b) h L
row_timely a b h t u (Head ∷ p) = t p
row_timely a b h t u (Tail ∷ p) = u p
row_timely a b h t u p = tt

block_timely : (a : Plan When) (h : Prefix) → Timely a (below Equations h) L → Timely (plan_block (λ n. None) a) h L
block_timely a h t (Named n ∷ []) = tt
block_timely a h t (Equations ∷ p) = t p
block_timely a h t p = tt

right_timely : (a : Plan When) (h : Prefix) → Timely a (below RightOf h) L → Timely (plan_right a) h L
right_timely a h t (RightOf ∷ p) = t p
right_timely a h t p = tt

body_timely : (a b : Plan When) (h : Prefix) → Timely a (below Test h) L → Timely b (below Body h) L → Timely (plan_body a b) h L
body_timely a b h t u (Test ∷ p) = t p
body_timely a b h t u (Body ∷ p) = u p
body_timely a b h t u p = tt

demand_timely : (w : When) (a : Plan When) (h : Prefix) → Stands (Some w) (At (h [])) L → Timely a h L → Timely (demand w a) h L
demand_timely w a h s t [] = s
demand_timely w a h s t (_ ∷ p) = t (_ ∷ p)

output_timely : (n : List ℕ) (d : Bool) → bytes_eq y n ≡ d → Stands (if d then Some always else None) (At (right (Second ∷ Instance ∷ Named n ∷ []))) L
output_timely n true e = subst (λ m. Stands (Some always) (At (right (Second ∷ Instance ∷ Named m ∷ []))) L) ((bytes_eq-Decides y n).0 e) (tt, (tt, tt))
output_timely n false e = tt

timely : NodeTimely [] N.outputs turns L
timely =
    block_timely _ (λ p. Body ∷ p)
    (row_timely _ _ (λ p. Body ∷ Equations ∷ p)
    (body_timely _ _ (λ p. Body ∷ Equations ∷ Head ∷ p)
    (alone_timely always (λ p. Body ∷ Equations ∷ Head ∷ Test ∷ p) (tt, (tt, tt)))
    (block_timely _ (λ p. Body ∷ Equations ∷ Head ∷ Body ∷ p)
    (row_timely _ _ (λ p. Body ∷ Equations ∷ Head ∷ Body ∷ Equations ∷ p)
    (right_timely _ (λ p. Body ∷ Equations ∷ Head ∷ Body ∷ Equations ∷ Head ∷ p)
    (two_timely always _ _ right (tt, (tt, tt))
    (demand_timely always _ (below First right) (tt, (tt, tt)) (alone_timely always (below First right) (tt, (tt, tt))))
    (demand_timely always _ (below Second right) (tt, (tt, tt))
    (call_timely (Some always) _ _ (below Second right) (tt, (tt, tt))
    (row_timely _ _ (below Args (below Second right))
    (one_timely always _ (below Head (below Args (below Second right))) (tt, (tt, tt)) (alone_timely always (below First (below Head (below Args (below Second right)))) (tt, (tt, tt))))
    (λ p. tt))
    (λ n. output_timely n (bytes_eq y n) refl)))))
    (λ p. tt))))
    (λ p. tt))
