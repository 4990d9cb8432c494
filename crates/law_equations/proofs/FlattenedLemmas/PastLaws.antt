-- Own pasts of the tree are flat pasts, cut by a clock and a restart list.
use Rattle.std.proofs.Common.{◌≡◌, List, [], ◌∷◌, refl, ap, ◌∙◌}
use Rattle.std.specs.Prelude.{Bool, true, false, if◌then◌else◌, IsTrue, IsFalse, ◌||◌}
use Rattle.hp_base.specs.declared.value.Value.{Value}
use Rattle.hp_base.specs.declared.value.Value.TheVariants.{Absent, Nil, B, E, I, Star}
use Rattle.hp_tree.specs.Operators.{is_true}
use Rattle.hp_tree.specs.Instant.{Fresh, Step, Instant, Past, parts, own_with, own, or_else, newest, after, at_first}
use Rattle.law_equations.specs.Flattened.Flat.{Arg, name, value, Now, holds, restarts, grown, since, recent, mux, held}
use Rattle.law_equations.specs.Flattened.Flatten.{FlatName, At, Prefix, below}
use Rattle.law_equations.specs.Flattened.Timely.{Along, Fits, IsValue}

-- how a part of the tree sees a flat instant
abbrev pub seen : Prefix → Now FlatName → Instant
seen here i p = i (At (here p))

abbrev pub view : Prefix → List (Now FlatName) → Past
view here [] = []
view here (i ∷ G) = seen here i ∷ view here G

pub parts_view : (s : Step) (here : Prefix) (G : List (Now FlatName)) → parts s (view here G) ≡ view (below s here) G
parts_view s here [] = refl
parts_view s here (i ∷ G) = ap (λ p. seen (below s here) i ∷ p) (parts_view s here G)

pub along : {A : Type 0} (P Q : List A → A → Type 0) → ((G : List A) (i : A) → Along P G → P G i → Q G i) → (L : List A) → Along P L → Along Q L
along P Q f [] l = tt
along P Q f (i ∷ G) l = (f G i l.1 l.0, along P Q f G l.1)

or_else_value : (u w : Value) → IsValue u → or_else u w ≡ u
or_else_value Absent w h = absurd h
or_else_value Nil w h = absurd h
or_else_value (B b) w h = refl
or_else_value (E s t) w h = refl
or_else_value (I n) w h = refl
or_else_value Star w h = refl

after_value : (u v w : Value) → IsValue u → after u v w ≡ w
after_value Absent v w h = absurd h
after_value Nil v w h = absurd h
after_value (B b) v w h = refl
after_value (E s t) v w h = refl
after_value (I n) v w h = refl
after_value Star v w h = refl

-- ---- what an operand held

-- a clock that is finer than another, and a place that stands on it
abbrev pub Finer : (ck cke : List (Value × FlatName)) → Prefix → Now FlatName → Type 0
Finer ck cke h i = (IsTrue (holds cke i) → IsTrue (holds ck i)) × Fits (holds cke i) (i (At (h [])))

newest_step : (d m r : Bool) (v : Value) (h : Prefix) (i : Now FlatName) (C C' : List (Now FlatName)) → (IsTrue m → IsTrue d) → Fits m (i (At (h []))) → newest v (view h C) ≡ held v (name (At (h []))) C' → newest v (view h (grown d i (if r then [] else C))) ≡ held v (name (At (h []))) (grown m i (if r then [] else C'))
newest_step true true true v h i C C' f g e = or_else_value (i (At (h []))) v g
newest_step true true false v h i C C' f g e = or_else_value (i (At (h []))) (newest v (view h C)) g
newest_step true false true v h i C C' f g e = ap (λ u. or_else u v) g
newest_step true false false v h i C C' f g e = ap (λ u. or_else u (newest v (view h C))) g ∙ e
newest_step false true r v h i C C' f g e = let n = f refl in cc
newest_step false false true v h i C C' f g e = refl
newest_step false false false v h i C C' f g e = e

newest_since : (v : Value) (h : Prefix) (ck cke : List (Value × FlatName)) (rs : List FlatName) (G : List (Now FlatName)) → Along (λ G i. Finer ck cke h i) G → newest v (view h (since ck rs G)) ≡ held v (name (At (h []))) (since cke rs G)
newest_since v h ck cke rs [] l = refl
newest_since v h ck cke rs (i ∷ G) l =
    newest_step (holds ck i) (holds cke i) (restarts rs i) v h i (since ck rs G) (since cke rs G) l.0.0 l.0.1 (newest_since v h ck cke rs G l.1)

first_step : (d m r : Bool) (a b : Value) (h : Prefix) (i : Now FlatName) (C C' : List (Now FlatName)) → (IsTrue m → IsTrue d) → Fits m (i (At (h []))) → at_first (view h C) a b ≡ mux (held (B true) (value (B false)) C') a b → at_first (view h (grown d i (if r then [] else C))) a b ≡ mux (held (B true) (value (B false)) (grown m i (if r then [] else C'))) a b
first_step true true true a b h i C C' f g e = after_value (i (At (h []))) a b g
first_step true true false a b h i C C' f g e = after_value (i (At (h []))) (at_first (view h C) a b) b g
first_step true false true a b h i C C' f g e = ap (λ u. after u a b) g
first_step true false false a b h i C C' f g e = ap (λ u. after u (at_first (view h C) a b) b) g ∙ e
first_step false true r a b h i C C' f g e = let n = f refl in cc
first_step false false true a b h i C C' f g e = refl
first_step false false false a b h i C C' f g e = e

first_since : (a b : Value) (h : Prefix) (ck cke : List (Value × FlatName)) (rs : List FlatName) (G : List (Now FlatName)) → Along (λ G i. Finer ck cke h i) G → at_first (view h (since ck rs G)) a b ≡ mux (held (B true) (value (B false)) (since cke rs G)) a b
first_since a b h ck cke rs [] l = refl
first_since a b h ck cke rs (i ∷ G) l =
    first_step (holds ck i) (holds cke i) (restarts rs i) a b h i (since ck rs G) (since cke rs G) l.0.0 l.0.1 (first_since a b h ck cke rs G l.1)

-- what is held does not depend on the first value where it is looked at behind the first instant
held_any : (a u v : Value) (x : Arg FlatName) (C : List (Now FlatName)) → mux (held (B true) (value (B false)) C) a (held u x C) ≡ mux (held (B true) (value (B false)) C) a (held v x C)
held_any a u v x [] = refl
held_any a u v x (i ∷ C) = refl

-- `c fby e` with a constant is one register
pub constant_fby : (c v : Value) (x : Arg FlatName) (C : List (Now FlatName)) → mux (held (B true) (value (B false)) C) c (held v x C) ≡ held c x C
constant_fby c v x [] = refl
constant_fby c v x (i ∷ C) = refl

newest_if : (r : Bool) (v : Value) (h : Prefix) (C C' : List (Now FlatName)) → newest v (view h C) ≡ held v (name (At (h []))) C' → newest v (view h (if r then [] else C)) ≡ held v (name (At (h []))) (if r then [] else C')
newest_if true v h C C' e = refl
newest_if false v h C C' e = e

first_if : (r : Bool) (a b : Value) (h : Prefix) (C C' : List (Now FlatName)) → at_first (view h C) a b ≡ mux (held (B true) (value (B false)) C') a b → at_first (view h (if r then [] else C)) a b ≡ mux (held (B true) (value (B false)) (if r then [] else C')) a b
first_if true a b h C C' e = refl
first_if false a b h C C' e = e

pub newest_recent : (v : Value) (h : Prefix) (ck cke : List (Value × FlatName)) (rs : List FlatName) (G : List (Now FlatName)) (j : Now FlatName) → Along (λ G i. Finer ck cke h i) G → newest v (view h (recent ck rs G j)) ≡ held v (name (At (h []))) (recent cke rs G j)
newest_recent v h ck cke rs G j l = newest_if (restarts rs j) v h (since ck rs G) (since cke rs G) (newest_since v h ck cke rs G l)

pub first_recent : (a b : Value) (h : Prefix) (ck cke : List (Value × FlatName)) (rs : List FlatName) (G : List (Now FlatName)) (j : Now FlatName) → Along (λ G i. Finer ck cke h i) G → at_first (view h (recent ck rs G j)) a b ≡ mux (held (B true) (value (B false)) (recent cke rs G j)) a b
first_recent a b h ck cke rs G j l = first_if (restarts rs j) a b h (since ck rs G) (since cke rs G) (first_since a b h ck cke rs G l)

-- `a fby b`
pub fby_recent : (a first : Value) (h k : Prefix) (ck cke : List (Value × FlatName)) (rs : List FlatName) (G : List (Now FlatName)) (j : Now FlatName) → Along (λ G i. Finer ck cke h i) G → Along (λ G i. Finer ck cke k i) G → at_first (view h (recent ck rs G j)) a (newest Nil (view k (recent ck rs G j))) ≡ mux (held (B true) (value (B false)) (recent cke rs G j)) a (held first (name (At (k []))) (recent cke rs G j))
fby_recent a first h k ck cke rs G j l m =
    first_recent a (newest Nil (view k (recent ck rs G j))) h ck cke rs G j l
    ∙ ap (mux (held (B true) (value (B false)) (recent cke rs G j)) a) (newest_recent Nil k ck cke rs G j m)
    ∙ held_any a Nil first (name (At (k []))) (recent cke rs G j)

-- ---- own pasts

-- a part that is there, without beginning anew, where a finer clock is there
abbrev pub Goes : (ck cke : List (Value × FlatName)) → Prefix → Now FlatName → Type 0
Goes ck cke h i = (IsTrue (holds cke i) → IsTrue (holds ck i)) × (IsTrue (holds ck i) → i (At (h (Fresh ∷ []))) ≡ (if holds cke i then B false else Absent))

own_step : (d m r : Bool) (h : Prefix) (i : Now FlatName) (C C' : List (Now FlatName)) → (IsTrue m → IsTrue d) → (IsTrue d → i (At (h (Fresh ∷ []))) ≡ (if m then B false else Absent)) → own (view h C) ≡ view h C' → own (view h (grown d i (if r then [] else C))) ≡ view h (grown m i (if r then [] else C'))
own_step true true true h i C C' f g e = ap (λ v. own_with v (seen h i) []) (g refl)
own_step true true false h i C C' f g e = ap (λ v. own_with v (seen h i) (own (view h C))) (g refl) ∙ ap (λ p. seen h i ∷ p) e
own_step true false true h i C C' f g e = ap (λ v. own_with v (seen h i) []) (g refl)
own_step true false false h i C C' f g e = ap (λ v. own_with v (seen h i) (own (view h C))) (g refl) ∙ e
own_step false true r h i C C' f g e = let n = f refl in cc
own_step false false true h i C C' f g e = refl
own_step false false false h i C C' f g e = e

pub own_since : (h : Prefix) (ck cke : List (Value × FlatName)) (rs : List FlatName) (G : List (Now FlatName)) → Along (λ G i. Goes ck cke h i) G → own (view h (since ck rs G)) ≡ view h (since cke rs G)
own_since h ck cke rs [] l = refl
own_since h ck cke rs (i ∷ G) l = own_step (holds ck i) (holds cke i) (restarts rs i) h i (since ck rs G) (since cke rs G) l.0.0 l.0.1 (own_since h ck cke rs G l.1)

own_if : (r : Bool) (h : Prefix) (C C' : List (Now FlatName)) → own (view h C) ≡ view h C' → own (view h (if r then [] else C)) ≡ view h (if r then [] else C')
own_if true h C C' e = refl
own_if false h C C' e = e

pub own_recent : (h : Prefix) (ck cke : List (Value × FlatName)) (rs : List FlatName) (G : List (Now FlatName)) (j : Now FlatName) → Along (λ G i. Goes ck cke h i) G → own (view h (recent ck rs G j)) ≡ view h (recent cke rs G j)
own_recent h ck cke rs G j l = own_if (restarts rs j) h (since ck rs G) (since cke rs G) (own_since h ck cke rs G l)

-- a part that begins anew where a condition is true
abbrev pub Begins : (ck : List (Value × FlatName)) → FlatName → Prefix → Now FlatName → Type 0
Begins ck test h i = (IsTrue (holds ck i) → i (At (h (Fresh ∷ []))) ≡ B (is_true (i test))) × (IsFalse (holds ck i) → IsFalse (is_true (i test)))

begin_step : (d t r : Bool) (h : Prefix) (i : Now FlatName) (C C' : List (Now FlatName)) → (IsTrue d → i (At (h (Fresh ∷ []))) ≡ B t) → (IsFalse d → IsFalse t) → own (view h C) ≡ view h C' → own (view h (grown d i (if r then [] else C))) ≡ view h (grown d i (if t || r then [] else C'))
begin_step true true true h i C C' f g e = ap (λ v. own_with v (seen h i) []) (f refl)
begin_step true true false h i C C' f g e = ap (λ v. own_with v (seen h i) (own (view h C))) (f refl)
begin_step true false true h i C C' f g e = ap (λ v. own_with v (seen h i) []) (f refl)
begin_step true false false h i C C' f g e = ap (λ v. own_with v (seen h i) (own (view h C))) (f refl) ∙ ap (λ p. seen h i ∷ p) e
begin_step false true r h i C C' f g e = let n = g refl in cc
begin_step false false true h i C C' f g e = refl
begin_step false false false h i C C' f g e = e

pub begun_since : (h : Prefix) (ck : List (Value × FlatName)) (test : FlatName) (rs : List FlatName) (G : List (Now FlatName)) → Along (λ G i. Begins ck test h i) G → own (view h (since ck rs G)) ≡ view h (since ck (test ∷ rs) G)
begun_since h ck test rs [] l = refl
begun_since h ck test rs (i ∷ G) l =
    begin_step (holds ck i) (is_true (i test)) (restarts rs i) h i (since ck rs G) (since ck (test ∷ rs) G) l.0.0 l.0.1 (begun_since h ck test rs G l.1)

begun_if : (t r : Bool) (h : Prefix) (C C' : List (Now FlatName)) → own (view h C) ≡ view h C' → (if t then [] else own (view h (if r then [] else C))) ≡ view h (if t || r then [] else C')
begun_if true true h C C' e = refl
begun_if true false h C C' e = refl
begun_if false true h C C' e = refl
begun_if false false h C C' e = e

pub begun_recent : (h : Prefix) (ck : List (Value × FlatName)) (test : FlatName) (rs : List FlatName) (G : List (Now FlatName)) (j : Now FlatName) → Along (λ G i. Begins ck test h i) G → (if is_true (j test) then [] else own (view h (recent ck rs G j))) ≡ view h (recent ck (test ∷ rs) G j)
begun_recent h ck test rs G j l = begun_if (is_true (j test)) (restarts rs j) h (since ck rs G) (since ck (test ∷ rs) G) (begun_since h ck test rs G l)
