-- What is there of the wires of an expression meets its meaning, and the next memory is what the longer past remembers.
use Rattle.std.proofs.Common.{◌≡◌, List, [], ◌∷◌, map, refl, sym, ap, ap₂, subst, ◌∙◌}
use Rattle.std.specs.Prelude.{Bool, true, false, if◌then◌else◌, IsTrue, IsFalse, ◌&&◌, ◌||◌, Some, ℕ}
use Rattle.hp_base.specs.declared.value.Value.{Value}
use Rattle.hp_base.specs.declared.value.Value.TheVariants.{Absent, Nil, B, E, I, Star}
use Rattle.hp_tree.specs.declared.decl.Cons.{Cons}
use Rattle.hp_tree.specs.declared.expr.Op1.{Op1}
use Rattle.hp_tree.specs.declared.expr.Op1.TheVariants.{Not, Neg}
use Rattle.hp_tree.specs.Expressions.{Expr, constant, variable, last_of, one, two, choose, pre, fby, arrow, when_is, merge, call, Exprs, no_expr, more_exprs, Parts, no_part, more_parts}
use Rattle.hp_tree.specs.declared.block.Trans.{Trans}
use Rattle.hp_tree.specs.Programs.{TypeDecl}
use Rattle.hp_tree.specs.Operators.{abstraction, one_marked, is_cons, is_true, if_of}
use Rattle.hp_tree.specs.Instant.{Named, Fresh, Head, Tail, First, Second, Third, Args, Instance, Instant, Past, Given, part, parts, top, own, own_with, or_else, newest, after, at_first, nothing, alone, with_one, with_two, with_three, in_row, with_row, with_instance, Clock, holds, without}
use Rattle.hp_tree.specs.Meaning.{Names, Nodes, expr, exprs, merged, only_output}
use Rattle.hp_meaning.specs.Causal.Clocked.{Standing, ClockRight, IsOn, ExprsOn, PartsOn}
use Rattle.hp_meaning.specs.Contract.Memory.{remembering, has_past, remembers, remembers_all, remembers_parts, remembers_conditions}
use Rattle.law_games.specs.Wires.Wired.{Held, held, held_at, values_of, filled_abstraction, blank, IsValue, Callees, on, picked, has_part, wired, wired_all, wired_parts, shown, shown_all, shown_parts, next, next_all, next_parts, Sound, SoundAll, SoundParts, Fills, FillsAll, FillsParts}

-- ---- values

pub if_true : {A : Type 0} (d : Bool) (x y : A) → IsTrue d → (if d then x else y) ≡ x
if_true true x y e = refl
if_true false x y e = cc

pub if_false : {A : Type 0} (d : Bool) (x y : A) → IsFalse d → (if d then x else y) ≡ y
if_false true x y e = cc
if_false false x y e = refl

pub decide : {X : Type 0} (d : Bool) → (IsTrue d → X) → (IsFalse d → X) → X
decide true f g = f refl
decide false f g = g refl

-- a value where a test holds
abbrev pub where_true : Bool → Value → Value
where_true d v = if d then v else Absent

pub or_else_value : (u w : Value) → IsValue u → or_else u w ≡ u
or_else_value Absent w h = absurd h
or_else_value Nil w h = absurd h
or_else_value (B b) w h = refl
or_else_value (E s t) w h = refl
or_else_value (I n) w h = refl
or_else_value Star w h = refl

pub after_value : (u v w : Value) → IsValue u → after u v w ≡ w
after_value Absent v w h = absurd h
after_value Nil v w h = absurd h
after_value (B b) v w h = refl
after_value (E s t) v w h = refl
after_value (I n) v w h = refl
after_value Star v w h = refl

-- an operator gives nothing where nothing is there
one_absent : (o : Op1) → one_marked o Absent ≡ Absent
one_absent Not = refl
one_absent Neg = refl

one_where : (o : _) (d : Bool) (u v : Value) → u ≡ abstraction.one o v → where_true d u ≡ abstraction.one o (where_true d v)
one_where o true u v e = e
one_where o false u v e = sym (one_absent o)

two_where : (o : _) (d : Bool) (f u v w : Value) → u ≡ abstraction.two o f v w → where_true d u ≡ abstraction.two o f (where_true d v) (where_true d w)
two_where o true f u v w e = e
two_where o false f u v w e = refl

if_where : (d : Bool) (u v w x : Value) → u ≡ if_of v w x → where_true d u ≡ if_of (where_true d v) (where_true d w) (where_true d x)
if_where true u v w x e = e
if_where false u v w x e = refl

-- ---- pasts

-- `at_first` looks at whether there is a past
first_after : (u v w x y : Value) → x ≡ (if is_true y then w else v) → after u x w ≡ (if is_true (after u y (B true)) then w else v)
first_after Absent v w x y e = e
first_after Nil v w x y e = refl
first_after (B b) v w x y e = refl
first_after (E s t) v w x y e = refl
first_after (I n) v w x y e = refl
first_after Star v w x y e = refl

pub first_begun : (G : Past) (v w : Value) → at_first G v w ≡ (if is_true (has_past G) then w else v)
first_begun [] v w = refl
first_begun (i ∷ G) v w = first_after (top i) v w (at_first G v w) (has_past G) (first_begun G v w)

-- what a memory holds behind an instant
pub newest_where : (d : Bool) (v u w : Value) → IsValue v → u ≡ where_true d v → or_else u w ≡ (if d then v else w)
newest_where true v u w h e = ap (λ x. or_else x w) e ∙ or_else_value v w h
newest_where false v u w h e = ap (λ x. or_else x w) e

pub begun_where : (d : Bool) (v u w : Value) → IsValue v → u ≡ where_true d v → after u w (B true) ≡ (if d then B true else w)
begun_where true v u w h e = ap (λ x. after x w (B true)) e ∙ after_value v w (B true) h
begun_where false v u w h e = ap (λ x. after x w (B true)) e

pub first_where : (d : Bool) (v w u t z n : Value) (G : Past) → IsValue v → IsValue w → u ≡ where_true d v → t ≡ where_true d w → after u (at_first G z (or_else t n)) (or_else t n) ≡ (if d then w else at_first G z n)
first_where true v w u t z n G hv hw e f =
    ap₂ (λ u t. after u (at_first G z (or_else t n)) (or_else t n)) e f ∙ after_value v _ _ hv ∙ or_else_value w n hw
first_where false v w u t z n G hv hw e f = ap₂ (λ u t. after u (at_first G z (or_else t n)) (or_else t n)) e f

-- ---- names

-- the names as the meaning reads them, and as wires do
abbrev pub Seen : List TypeDecl → Standing → Names → Names → Type 0
Seen types st namesM namesW = (x : List ℕ) (ck : Clock) → st x ≡ Some ck → namesM x ≡ where_true (holds types ck namesW) (namesW x)

cons_where : (types : List TypeDecl) (c : Cons) (d : Bool) (v : Value) → is_cons types (where_true d v) c && d ≡ is_cons types v c && d
cons_where types c true v = refl
cons_where types c false v = refl ∙ sym (and_false (is_cons types v c))
  where
    and_false : (b : Bool) → b && false ≡ false
    and_false true = refl
    and_false false = refl

pub same_clock : (types : List TypeDecl) (st : Standing) (namesM namesW : Names) → Seen types st namesM namesW → (ck : Clock) → ClockRight st ck → holds types ck namesM ≡ holds types ck namesW
same_clock types st namesM namesW s [] r = refl
same_clock types st namesM namesW s (on ∷ ck) r =
    ap₂ (λ v d. is_cons types v on.0 && d) (s on.1 ck r.0) (same_clock types st namesM namesW s ck r.1)
    ∙ cons_where types on.0 (holds types ck namesW) (namesW on.1)

pub outer_right : (st : Standing) (c : Cons) (x : List ℕ) (ck ck' : Clock) → ck ≡ (c, x) ∷ ck' → ClockRight st ck → ClockRight st ck'
outer_right st c x ck ck' e r = right ck e r
  where
    tails : Clock → Clock
    tails ck = without ck

    right : (ck : Clock) → ck ≡ (c, x) ∷ ck' → ClockRight st ck → ClockRight st ck'
    right [] e r = cc
    right (on ∷ ck) e r = subst (λ k. ClockRight st k) (ap without e) r.1

-- ---- the cases of an expression

fby_where : (d dM b : Bool) (u a a' x n n' : Value) → dM ≡ d → u ≡ (if b then n' else a) → x ≡ (if b then n else a') → (IsTrue b → n' ≡ n) → a' ≡ where_true d a → where_true d u ≡ where_true dM x
fby_where true dM true u a a' x n n' l e f g k = e ∙ g refl ∙ sym f ∙ ap (λ d. where_true d x) (sym l)
fby_where true dM false u a a' x n n' l e f g k = e ∙ sym k ∙ sym f ∙ ap (λ d. where_true d x) (sym l)
fby_where false dM b u a a' x n n' l e f g k = ap (λ d. where_true d x) (sym l)

arrow_where : (d b : Bool) (u v w x v' w' : Value) → u ≡ (if b then w else v) → x ≡ (if b then w' else v') → v' ≡ where_true d v → w' ≡ where_true d w → where_true d u ≡ x
arrow_where true true u v w x v' w' e f g k = e ∙ sym k ∙ sym f
arrow_where true false u v w x v' w' e f g k = e ∙ sym g ∙ sym f
arrow_where false true u v w x v' w' e f g k = sym k ∙ sym f
arrow_where false false u v w x v' w' e f g k = sym g ∙ sym f

when_where : (types : List TypeDecl) (c : Cons) (d h : Bool) (v m u t w : Value) → h ≡ is_cons types v c && d → m ≡ where_true d v → t ≡ where_true d u → w ≡ u → where_true h w ≡ (if is_cons types m c then t else Absent)
when_where types c true h v m u t w e f g k =
    ap₂ (λ h w. where_true h w) (e ∙ and_true (is_cons types v c)) (k ∙ sym g) ∙ ap (λ m. if is_cons types m c then t else Absent) (sym f)
  where
    and_true : (b : Bool) → b && true ≡ b
    and_true true = refl
    and_true false = refl
when_where types c false h v m u t w e f g k =
    ap (λ h. where_true h w) (e ∙ and_false (is_cons types v c)) ∙ ap (λ m. if is_cons types m c then t else Absent) (sym f)
  where
    and_false : (b : Bool) → b && false ≡ false
    and_false true = refl
    and_false false = refl

-- the part of a merge that is there, as the meaning has it
abbrev pub chosen : List TypeDecl → Parts → Value → List Instant → Value
chosen types no_part v is = Absent
chosen types (more_parts c e ps) v [] = Absent
chosen types (more_parts c e ps) v (i ∷ is) = if is_cons types v c then top i else chosen types ps v is

none_chosen : (types : List TypeDecl) (ps : Parts) (is : List Instant) → chosen types ps Absent is ≡ Absent
none_chosen types no_part is = refl
none_chosen types (more_parts c e ps) [] = refl
none_chosen types (more_parts c e ps) (i ∷ is) = none_chosen types ps is

-- what a past leaves, with the first values and what is given
abbrev pub behind : (types : List TypeDecl) (C : Callees) → Expr → Instant → Instant → Past → Held
behind types C e fill free G = held fill (remembers types C.remembers e fill G) free

abbrev pub behind_all : (types : List TypeDecl) (C : Callees) → Exprs → Instant → Instant → Past → Held
behind_all types C es fill free G = held fill (in_row (remembers_all types C.remembers es fill G)) free

abbrev pub behind_parts : (types : List TypeDecl) (C : Callees) → Parts → Instant → Instant → Past → Held
behind_parts types C ps fill free G = held fill (in_row (remembers_parts types C.remembers ps fill G)) free

abbrev pub behind_conditions : (types : List TypeDecl) (C : Callees) → List Trans → Instant → Instant → Past → Held
behind_conditions types C ts fill free G = held fill (in_row (remembers_conditions types C.remembers ts fill G)) free

abbrev pub given : Past → Instant → Given
given G free = record { past = G; free = free }

-- what the meaning of calls and their wires have to do with each other
pub record CallsMirror (N : Nodes) (C : Callees) : Type 1 where
  pub outputs : (f : List ℕ) → N.outputs f ≡ C.outputs f
  pub named : (f o : List ℕ) (ins : List Value) (m : Held) (W : Instant) → C.shown f ins m W (Named o ∷ []) ≡ W (Named o ∷ [])
  pub fresh : (f : List ℕ) (ins : List Value) (m : Held) (W : Instant) → C.shown f ins m W (Fresh ∷ []) ≡ B false
  pub meets : (f : List ℕ) (ins : List Value) (fill free : Instant) (G : Past) (W : Instant) → C.sound f ins (held fill (C.remembers f fill G) free) W → C.fills f fill free → W ≡ C.wired f ins (held fill (C.remembers f fill G) free) W → C.shown f ins (held fill (C.remembers f fill G) free) W ≡ N.instant f ins (record { past = G; free = free }) (C.shown f ins (held fill (C.remembers f fill G) free) W)
  pub nexts : (f : List ℕ) (ins : List Value) (fill free : Instant) (G : Past) (W : Instant) → C.sound f ins (held fill (C.remembers f fill G) free) W → W ≡ C.wired f ins (held fill (C.remembers f fill G) free) W → C.remembers f fill (C.shown f ins (held fill (C.remembers f fill G) free) W ∷ G) ≡ C.next f ins (held fill (C.remembers f fill G) free) W

call_case : (d dM : Bool) → dM ≡ d → (S : Instant) (F : Instant → Instant) → (IsTrue d → S ≡ F S) → (if d then S else nothing) ≡ (if dM then F (if d then S else nothing) else nothing)
call_case true true e S F f = f refl
call_case true false e S F f = cc
call_case false true e S F f = cc
call_case false false e S F f = refl

out_case : (d : Bool) (os : List (List ℕ)) (v : Value) (S W : Instant) → v ≡ only_output os W → ((o : List ℕ) → S (Named o ∷ []) ≡ W (Named o ∷ [])) → where_true d v ≡ only_output os (if d then S else nothing)
out_case true [] v S W e f = e
out_case true (o ∷ os) v S W e f = e ∙ sym (f o)
out_case false [] v S W e f = refl
out_case false (o ∷ os) v S W e f = refl

module _ (types : List TypeDecl) (C : Callees) where
  pub shown_top : (e : Expr) (clock : Clock) (names : Names) (m : Held) (W : Instant) → top (shown types C e clock names m W) ≡ where_true (holds types clock names) (W [])
  shown_top (constant s c) clock names m W = refl
  shown_top (variable s x) clock names m W = refl
  shown_top (last_of s x) clock names m W = refl
  shown_top (one s o a) clock names m W = refl
  shown_top (two s o a b) clock names m W = refl
  shown_top (choose s a b c) clock names m W = refl
  shown_top (pre s a) clock names m W = refl
  shown_top (fby s a b) clock names m W = refl
  shown_top (arrow s a b) clock names m W = refl
  shown_top (when_is s a c x) clock names m W = refl
  shown_top (merge s x ps) clock names m W = refl
  shown_top (call s f inlined es) clock names m W = refl

module _ (types : List TypeDecl) (N : Nodes) (C : Callees) (M : CallsMirror N C) where
  -- the arguments of a call: their wires, and what is shown of them where it is there
  tops_wired : (es : Exprs) (names last : Names) (m : Held) (now W : Instant) → W ≡ in_row (wired_all types C es names last m now) → map top (wired_all types C es names last m now) ≡ values_of es W
  tops_wired no_expr names last m now W h = refl
  tops_wired (more_exprs e es) names last m now W h =
      ap₂ (λ v vs. v ∷ vs) (sym (ap (λ w. w (Head ∷ [])) h)) (tops_wired es names last (held_at Tail m) (part Tail now) (part Tail W) (ap (part Tail) h))

  tops_shown : (es : Exprs) (clock : Clock) (names : Names) (m : Held) (W : Instant) → IsTrue (holds types clock names) → values_of es W ≡ map top (shown_all types C es clock names m W)
  tops_shown no_expr clock names m W t = refl
  tops_shown (more_exprs e es) clock names m W t =
      ap₂ (λ v vs. v ∷ vs)
      (sym (if_true (holds types clock names) (W (Head ∷ [])) Absent t) ∙ sym (shown_top types C e clock names (held_at Head m) (part Head W)))
      (tops_shown es clock names (held_at Tail m) (part Tail W) t)

  -- the part of a merge that is there
  chosen_where : (d : Bool) (b : Value) (ps : Parts) (x : List ℕ) (clock : Clock) (names last : Names) (m : Held) (now W : Instant) → holds types clock names ≡ d → IsTrue (has_part types ps (names x)) → W ≡ in_row (wired_parts types C ps names last m now) → where_true d (picked types b ps (names x) (wired_parts types C ps names last m now)) ≡ chosen types ps (where_true d (names x)) (shown_parts types C ps x clock names m W)
  chosen_where false b ps x clock names last m now W e t h = sym (none_chosen types ps (shown_parts types C ps x clock names m W))
  chosen_where true b no_part x clock names last m now W e t h = cc
  chosen_where true b (more_parts c a ps) x clock names last m now W e t h =
      by_case (is_cons types (names x) c) (λ u. chosen_where true (blank (top (wired types C a names last (held_at Head m) (part Head now)))) ps x clock names last (held_at Tail m) (part Tail now) (part Tail W) e u (ap (part Tail) h)) refl
    where
      by_case : (d : Bool) → (IsTrue (has_part types ps (names x)) → picked types (blank (top (wired types C a names last (held_at Head m) (part Head now)))) ps (names x) (wired_parts types C ps names last (held_at Tail m) (part Tail now)) ≡ chosen types ps (names x) (shown_parts types C ps x clock names (held_at Tail m) (part Tail W))) → is_cons types (names x) c ≡ d → (if is_cons types (names x) c then top (wired types C a names last (held_at Head m) (part Head now)) else picked types (blank (top (wired types C a names last (held_at Head m) (part Head now)))) ps (names x) (wired_parts types C ps names last (held_at Tail m) (part Tail now))) ≡ (if is_cons types (names x) c then top (shown types C a ((c, x) ∷ clock) names (held_at Head m) (part Head W)) else chosen types ps (names x) (shown_parts types C ps x clock names (held_at Tail m) (part Tail W)))
      by_case true r k =
          if_true (is_cons types (names x) c) _ _ k
          ∙ sym (ap (λ w. w (Head ∷ [])) h)
          ∙ sym (if_true (is_cons types (names x) c && holds types clock names) (W (Head ∷ [])) Absent (ap₂ (λ u v. u && v) k e))
          ∙ sym (shown_top types C a ((c, x) ∷ clock) names (held_at Head m) (part Head W))
          ∙ sym (if_true (is_cons types (names x) c) _ _ k)
      by_case false r k =
          if_false (is_cons types (names x) c) _ _ k
          ∙ r (ap (λ u. u || has_part types ps (names x)) (sym k) ∙ t)
          ∙ sym (if_false (is_cons types (names x) c) _ _ k)

  -- ---- what is there meets the meaning

  -- a call, whose arguments are met
  met_call : (s : _) (f : List ℕ) (inlined : Bool) (es : Exprs) (clock : Clock) (nM nW last : Names) (fill free : Instant) (G : Past) (W : Instant) → holds types clock nM ≡ holds types clock nW → C.fills f (part Instance fill) (part Instance free) → C.sound f (values_of es (part Args W)) (held (part Instance fill) (C.remembers f (part Instance fill) (own (parts Instance G))) (part Instance free)) (part Instance W) → W ≡ wired types C (call s f inlined es) nW last (behind types C (call s f inlined es) fill free G) W → shown_all types C es clock nW (behind_all types C es (part Args fill) (part Args free) (parts Args G)) (part Args W) ≡ exprs types filled_abstraction N es clock nM last (given (parts Args G) (part Args free)) (in_row (shown_all types C es clock nW (behind_all types C es (part Args fill) (part Args free) (parts Args G)) (part Args W))) → shown types C (call s f inlined es) clock nW (behind types C (call s f inlined es) fill free G) W ≡ expr types filled_abstraction N (call s f inlined es) clock nM last (given G free) (shown types C (call s f inlined es) clock nW (behind types C (call s f inlined es) fill free G) W)
  met_call s f inlined es clock nM nW last fill free G W same fi so h is =
      let mA = behind_all types C es (part Args fill) (part Args free) (parts Args G) in
      let mI = held (part Instance fill) (C.remembers f (part Instance fill) (own (parts Instance G))) (part Instance free) in
      let ins = values_of es (part Args W) in
      let WI = part Instance W in
      let shownI = C.shown f ins mI WI in
      let asM = exprs types filled_abstraction N es clock nM last (given (parts Args G) (part Args free)) (in_row (shown_all types C es clock nW mA (part Args W))) in
      let hI : WI ≡ C.wired f ins mI WI = ap (part Instance) h ∙ ap (λ vs. C.wired f vs mI WI) (tops_wired es nW last mA (part Args W) (part Args W) (ap (part Args) h)) in
      let inst = call_case (holds types clock nW) (holds types clock nM) same shownI (λ now. N.instant f (map top asM) (given (own (parts Instance G)) (part Instance free)) now)
      (λ t. M.meets f ins (part Instance fill) (part Instance free) (own (parts Instance G)) WI so fi hI
      ∙ ap (λ vs. N.instant f vs (given (own (parts Instance G)) (part Instance free)) shownI)
      (tops_shown es clock nW mA (part Args W) t ∙ ap (map top) is)) in
      λ z. with_instance
      ((out_case (holds types clock nW) (C.outputs f) (W []) shownI WI
      (ap top h ∙ ap (only_output (C.outputs f)) (sym (ap (part Instance) h)))
      (λ o. M.named f o ins mI WI)
      ∙ ap₂ only_output (sym (M.outputs f)) inst) z)
      (is z) (inst z)

  mutual
    pub met : (e : Expr) (clock : Clock) (st : Standing) (nM nW last : Names) (fill free : Instant) (G : Past) (W : Instant) → Seen types st nM nW → ClockRight st clock → IsOn st e clock → Fills types C e fill free → Sound types C e nW (behind types C e fill free G) W → W ≡ wired types C e nW last (held fill (remembers types C.remembers e fill G) free) W → shown types C e clock nW (behind types C e fill free G) W ≡ expr types filled_abstraction N e clock nM last (given G free) (shown types C e clock nW (behind types C e fill free G) W)
    met (constant s c) clock st nM nW last fill free G W seen cr ison fi so h =
        ap alone (ap₂ (λ d v. where_true d v) (sym (same_clock types st nM nW seen clock cr)) (ap top h))
    met (variable s x) clock st nM nW last fill free G W seen cr ison fi so h =
        ap alone (ap (λ v. where_true (holds types clock nW) v) (ap top h) ∙ sym (seen x clock ison))
    met (last_of s x) clock st nM nW last fill free G W seen cr ison fi so h =
        ap alone (ap (λ k. where_true (holds types k nW) (W [])) ison ∙ ap top h)
    met (one s o a) clock st nM nW last fill free G W seen cr ison fi so h =
        let i = met a clock st nM nW last (part First fill) (part First free) (parts First G) (part First W) seen cr ison fi so (ap (part First) h) in
        ap₂ with_one
        (one_where o (holds types clock nW) (W []) (W (First ∷ [])) (ap top h ∙ sym (ap (λ w. abstraction.one o (w (First ∷ []))) h))
        ∙ ap (abstraction.one o) (sym (shown_top types C a clock nW (behind types C a (part First fill) (part First free) (parts First G)) (part First W)) ∙ ap top i))
        i
    met (two s o a b) clock st nM nW last fill free G W seen cr ison fi so h =
        let i = met a clock st nM nW last (part First fill) (part First free) (parts First G) (part First W) seen cr ison.0 fi.0 so.0 (ap (part First) h) in
        let j = met b clock st nM nW last (part Second fill) (part Second free) (parts Second G) (part Second W) seen cr ison.1 fi.1 so.1 (ap (part Second) h) in
        λ z. with_two
        ((two_where o (holds types clock nW) (top free) (W []) (W (First ∷ [])) (W (Second ∷ [])) (ap top h ∙ sym (ap (λ w. abstraction.two o (top free) (w (First ∷ [])) (w (Second ∷ []))) h))
        ∙ ap₂ (abstraction.two o (top free)) (sym (shown_top types C a clock nW (behind types C a (part First fill) (part First free) (parts First G)) (part First W)) ∙ ap top i) (sym (shown_top types C b clock nW (behind types C b (part Second fill) (part Second free) (parts Second G)) (part Second W)) ∙ ap top j)) z)
        (i z) (j z)
    met (choose s a b c) clock st nM nW last fill free G W seen cr ison fi so h =
        let i = met a clock st nM nW last (part First fill) (part First free) (parts First G) (part First W) seen cr ison.0 fi.0 so.0 (ap (part First) h) in
        let j = met b clock st nM nW last (part Second fill) (part Second free) (parts Second G) (part Second W) seen cr ison.1 fi.1 so.1 (ap (part Second) h) in
        let k = met c clock st nM nW last (part Third fill) (part Third free) (parts Third G) (part Third W) seen cr ison.2 fi.2 so.2 (ap (part Third) h) in
        λ z. with_three
        ((if_where (holds types clock nW) (W []) (W (First ∷ [])) (W (Second ∷ [])) (W (Third ∷ [])) (ap top h ∙ sym (ap (λ w. if_of (w (First ∷ [])) (w (Second ∷ [])) (w (Third ∷ []))) h))
        ∙ (λ y. if_of ((sym (shown_top types C a clock nW (behind types C a (part First fill) (part First free) (parts First G)) (part First W)) ∙ ap top i) y) ((sym (shown_top types C b clock nW (behind types C b (part Second fill) (part Second free) (parts Second G)) (part Second W)) ∙ ap top j) y) ((sym (shown_top types C c clock nW (behind types C c (part Third fill) (part Third free) (parts Third G)) (part Third W)) ∙ ap top k) y))) z)
        (i z) (j z) (k z)
    met (pre s a) clock st nM nW last fill free G W seen cr ison fi so h =
        let i = met a clock st nM nW last (part First fill) (part First free) (parts First G) (part First W) seen cr ison fi.1 so.1 (ap (part First) h) in
        ap₂ with_one
        (ap₂ (λ d v. where_true d v) (sym (same_clock types st nM nW seen clock cr)) (ap top h ∙ ap (λ v. newest v (parts First G)) (sym fi.0)))
        i
    met (fby s a b) clock st nM nW last fill free G W seen cr ison fi so h =
        let i = met a clock st nM nW last (part First fill) (part First free) (parts First G) (part First W) seen cr ison.0 fi.0 so.2 (ap (part First) h) in
        let j = met b clock st nM nW last (part Second fill) (part Second free) (parts Second G) (part Second W) seen cr ison.1 fi.1 so.3 (ap (part Second) h) in
        λ z. with_two
        (fby_where (holds types clock nW) (holds types clock nM) (is_true (has_past (parts First G))) (W []) (W (First ∷ [])) (top (expr types filled_abstraction N a clock nM last (given (parts First G) (part First free)) (shown types C a clock nW (behind types C a (part First fill) (part First free) (parts First G)) (part First W))))
        (at_first (parts First G) (top (expr types filled_abstraction N a clock nM last (given (parts First G) (part First free)) (shown types C a clock nW (behind types C a (part First fill) (part First free) (parts First G)) (part First W)))) (newest Nil (parts Second G)))
        (newest Nil (parts Second G)) (at_first (parts First G) (top fill) (newest Nil (parts Second G)))
        (same_clock types st nM nW seen clock cr)
        (ap top h ∙ sym (ap (λ w. if is_true (has_past (parts First G)) then at_first (parts First G) (top fill) (newest Nil (parts Second G)) else w (First ∷ [])) h))
        (first_begun (parts First G) _ (newest Nil (parts Second G)))
        (λ t. first_begun (parts First G) (top fill) (newest Nil (parts Second G)) ∙ if_true (is_true (has_past (parts First G))) _ _ t)
        (sym (ap top i) ∙ shown_top types C a clock nW (behind types C a (part First fill) (part First free) (parts First G)) (part First W)) z)
        (i z) (j z)
    met (arrow s a b) clock st nM nW last fill free G W seen cr ison fi so h =
        let i = met a clock st nM nW last (part First fill) (part First free) (parts First G) (part First W) seen cr ison.0 fi.0 so.1 (ap (part First) h) in
        let j = met b clock st nM nW last (part Second fill) (part Second free) (parts Second G) (part Second W) seen cr ison.1 fi.1 so.2 (ap (part Second) h) in
        λ z. with_two
        (arrow_where (holds types clock nW) (is_true (has_past (parts First G))) (W []) (W (First ∷ [])) (W (Second ∷ []))
        _ _ _
        (ap top h ∙ sym (ap (λ w. if is_true (has_past (parts First G)) then w (Second ∷ []) else w (First ∷ [])) h))
        (first_begun (parts First G) _ _)
        (sym (ap top i) ∙ shown_top types C a clock nW (behind types C a (part First fill) (part First free) (parts First G)) (part First W))
        (sym (ap top j) ∙ shown_top types C b clock nW (behind types C b (part Second fill) (part Second free) (parts Second G)) (part Second W)) z)
        (i z) (j z)
    met (when_is s a c x) clock st nM nW last fill free G W seen cr ison fi so h =
        let i = met a (without clock) st nM nW last (part First fill) (part First free) (parts First G) (part First W) seen (outer_right st c x clock (without clock) ison.0 cr) ison.2 fi so (ap (part First) h) in
        ap₂ with_one
        (when_where types c (holds types (without clock) nW) (holds types clock nW) (nW x) (nM x) (W (First ∷ [])) _ (W [])
        (ap (λ k. holds types k nW) ison.0) (seen x (without clock) ison.1) (sym (ap top i) ∙ shown_top types C a (without clock) nW (behind types C a (part First fill) (part First free) (parts First G)) (part First W))
        (ap top h ∙ sym (ap (λ w. w (First ∷ [])) h)))
        i
    met (merge s x ps) clock st nM nW last fill free G W seen cr ison fi so h =
        let is = met_parts ps x clock st nM nW last (part Args fill) (part Args free) (parts Args G) (part Args W) seen cr ison.0 ison.1 fi so.1 (ap (part Args) h) in
        λ z. with_row
        ((ap (λ v. where_true (holds types clock nW) v) (ap top h)
        ∙ chosen_where (holds types clock nW) Absent ps x clock nW last (behind_parts types C ps (part Args fill) (part Args free) (parts Args G)) (part Args W) (part Args W) refl so.0 (ap (part Args) h)
        ∙ ap₂ (chosen types ps) (sym (seen x clock ison.0)) is) z)
        (is z)
    met (call s f inlined es) clock st nM nW last fill free G W seen cr ison fi so h =
        let is = met_all es clock st nM nW last (part Args fill) (part Args free) (parts Args G) (part Args W) seen cr ison fi.0 so.0 (ap (part Args) h) in
        met_call s f inlined es clock nM nW last fill free G W (same_clock types st nM nW seen clock cr) fi.1 so.1 h is

    pub met_all : (es : Exprs) (clock : Clock) (st : Standing) (nM nW last : Names) (fill free : Instant) (G : Past) (W : Instant) → Seen types st nM nW → ClockRight st clock → ExprsOn st es clock → FillsAll types C es fill free → SoundAll types C es nW (behind_all types C es fill free G) W → W ≡ in_row (wired_all types C es nW last (held fill (in_row (remembers_all types C.remembers es fill G)) free) W) → shown_all types C es clock nW (behind_all types C es fill free G) W ≡ exprs types filled_abstraction N es clock nM last (given G free) (in_row (shown_all types C es clock nW (behind_all types C es fill free G) W))
    met_all no_expr clock st nM nW last fill free G W seen cr ison fi so h = refl
    met_all (more_exprs e es) clock st nM nW last fill free G W seen cr ison fi so h =
        ap₂ (λ i is. i ∷ is)
        (met e clock st nM nW last (part Head fill) (part Head free) (parts Head G) (part Head W) seen cr ison.0 fi.0 so.0 (ap (part Head) h))
        (met_all es clock st nM nW last (part Tail fill) (part Tail free) (parts Tail G) (part Tail W) seen cr ison.1 fi.1 so.1 (ap (part Tail) h))

    pub met_parts : (ps : Parts) (x : List ℕ) (clock : Clock) (st : Standing) (nM nW last : Names) (fill free : Instant) (G : Past) (W : Instant) → Seen types st nM nW → ClockRight st clock → st x ≡ Some clock → PartsOn st x ps clock → FillsParts types C ps fill free → SoundParts types C ps nW (behind_parts types C ps fill free G) W → W ≡ in_row (wired_parts types C ps nW last (held fill (in_row (remembers_parts types C.remembers ps fill G)) free) W) → shown_parts types C ps x clock nW (behind_parts types C ps fill free G) W ≡ merged types filled_abstraction N ps x clock nM last (given G free) (in_row (shown_parts types C ps x clock nW (behind_parts types C ps fill free G) W))
    met_parts no_part x clock st nM nW last fill free G W seen cr on_x ison fi so h = refl
    met_parts (more_parts c e ps) x clock st nM nW last fill free G W seen cr on_x ison fi so h =
        ap₂ (λ i is. i ∷ is)
        (met e ((c, x) ∷ clock) st nM nW last (part Head fill) (part Head free) (parts Head G) (part Head W) seen (on_x, cr) ison.0 fi.0 so.0 (ap (part Head) h))
        (met_parts ps x clock st nM nW last (part Tail fill) (part Tail free) (parts Tail G) (part Tail W) seen cr on_x ison.1 fi.1 so.1 (ap (part Tail) h))

  -- ---- the next memory

  pub remembered : {A : Type 0} (d : Bool) (u v w x : A) → u ≡ v → w ≡ x → (if d then u else w) ≡ (if d then v else x)
  remembered true u v w x e f = e
  remembered false u v w x e f = f

  next_call : (d : Bool) (f : List ℕ) (ins : List Value) (fill free : Instant) (G : Past) (W : Instant) → C.sound f ins (held fill (C.remembers f fill (own G)) free) W → W ≡ C.wired f ins (held fill (C.remembers f fill (own G)) free) W → C.remembers f fill (own ((if d then C.shown f ins (held fill (C.remembers f fill (own G)) free) W else nothing) ∷ G)) ≡ (if d then C.next f ins (held fill (C.remembers f fill (own G)) free) W else C.remembers f fill (own G))
  next_call true f ins fill free G W so h =
      ap (λ v. C.remembers f fill (own_with v (C.shown f ins (held fill (C.remembers f fill (own G)) free) W) (own G))) (M.fresh f ins (held fill (C.remembers f fill (own G)) free) W) ∙ M.nexts f ins fill free (own G) W so h
  next_call false f ins fill free G W so h = refl

  mutual
    pub kept : (e : Expr) (clock : Clock) (names last : Names) (fill free : Instant) (G : Past) (W : Instant) → Sound types C e names (behind types C e fill free G) W → W ≡ wired types C e names last (held fill (remembers types C.remembers e fill G) free) W → remembers types C.remembers e fill (shown types C e clock names (behind types C e fill free G) W ∷ G) ≡ next types C e clock names (held fill (remembers types C.remembers e fill G) free) W
    kept (constant s c) clock names last fill free G W so h = refl
    kept (variable s x) clock names last fill free G W so h = refl
    kept (last_of s x) clock names last fill free G W so h = refl
    kept (one s o a) clock names last fill free G W so h = ap (with_one Absent) (kept a clock names last (part First fill) (part First free) (parts First G) (part First W) so (ap (part First) h))
    kept (two s o a b) clock names last fill free G W so h =
        ap₂ (with_two Absent) (kept a clock names last (part First fill) (part First free) (parts First G) (part First W) so.0 (ap (part First) h)) (kept b clock names last (part Second fill) (part Second free) (parts Second G) (part Second W) so.1 (ap (part Second) h))
    kept (choose s a b c) clock names last fill free G W so h =
        λ z. with_three Absent (kept a clock names last (part First fill) (part First free) (parts First G) (part First W) so.0 (ap (part First) h) z) (kept b clock names last (part Second fill) (part Second free) (parts Second G) (part Second W) so.1 (ap (part Second) h) z) (kept c clock names last (part Third fill) (part Third free) (parts Third G) (part Third W) so.2 (ap (part Third) h) z)
    kept (pre s a) clock names last fill free G W so h =
        λ z. remembering
        (newest_where (holds types clock names) (W (First ∷ [])) _ (newest (top fill) (parts First G)) so.0 (shown_top types C a clock names (behind types C a (part First fill) (part First free) (parts First G)) (part First W)) z)
        Absent (kept a clock names last (part First fill) (part First free) (parts First G) (part First W) so.1 (ap (part First) h) z) nothing
    kept (fby s a b) clock names last fill free G W so h =
        λ z. remembering
        (first_where (holds types clock names) (W (First ∷ [])) (W (Second ∷ [])) _ _ (top fill) (newest Nil (parts Second G)) (parts First G) so.0 so.1 (shown_top types C a clock names (behind types C a (part First fill) (part First free) (parts First G)) (part First W)) (shown_top types C b clock names (behind types C b (part Second fill) (part Second free) (parts Second G)) (part Second W)) z)
        (begun_where (holds types clock names) (W (First ∷ [])) _ (has_past (parts First G)) so.0 (shown_top types C a clock names (behind types C a (part First fill) (part First free) (parts First G)) (part First W)) z)
        (kept a clock names last (part First fill) (part First free) (parts First G) (part First W) so.2 (ap (part First) h) z) (kept b clock names last (part Second fill) (part Second free) (parts Second G) (part Second W) so.3 (ap (part Second) h) z)
    kept (arrow s a b) clock names last fill free G W so h =
        λ z. remembering Absent
        (begun_where (holds types clock names) (W (First ∷ [])) _ (has_past (parts First G)) so.0 (shown_top types C a clock names (behind types C a (part First fill) (part First free) (parts First G)) (part First W)) z)
        (kept a clock names last (part First fill) (part First free) (parts First G) (part First W) so.1 (ap (part First) h) z) (kept b clock names last (part Second fill) (part Second free) (parts Second G) (part Second W) so.2 (ap (part Second) h) z)
    kept (when_is s a c x) clock names last fill free G W so h = ap (with_one Absent) (kept a (without clock) names last (part First fill) (part First free) (parts First G) (part First W) so (ap (part First) h))
    kept (merge s x ps) clock names last fill free G W so h = ap (with_row Absent) (kept_parts ps x clock names last (part Args fill) (part Args free) (parts Args G) (part Args W) so.1 (ap (part Args) h))
    kept (call s f inlined es) clock names last fill free G W so h =
        ap₂ (with_instance Absent) (kept_all es clock names last (part Args fill) (part Args free) (parts Args G) (part Args W) so.0 (ap (part Args) h)) (next_call (holds types clock names) f (values_of es (part Args W)) (part Instance fill) (part Instance free) (parts Instance G) (part Instance W) so.1
        (ap (part Instance) h ∙ ap (λ vs. C.wired f vs (held (part Instance fill) (C.remembers f (part Instance fill) (own (parts Instance G))) (part Instance free)) (part Instance W)) (tops_wired es names last (behind_all types C es (part Args fill) (part Args free) (parts Args G)) (part Args W) (part Args W) (ap (part Args) h))))

    pub kept_all : (es : Exprs) (clock : Clock) (names last : Names) (fill free : Instant) (G : Past) (W : Instant) → SoundAll types C es names (behind_all types C es fill free G) W → W ≡ in_row (wired_all types C es names last (held fill (in_row (remembers_all types C.remembers es fill G)) free) W) → remembers_all types C.remembers es fill (in_row (shown_all types C es clock names (behind_all types C es fill free G) W) ∷ G) ≡ next_all types C es clock names (held fill (in_row (remembers_all types C.remembers es fill G)) free) W
    kept_all no_expr clock names last fill free G W so h = refl
    kept_all (more_exprs e es) clock names last fill free G W so h =
        ap₂ (λ i is. i ∷ is) (kept e clock names last (part Head fill) (part Head free) (parts Head G) (part Head W) so.0 (ap (part Head) h)) (kept_all es clock names last (part Tail fill) (part Tail free) (parts Tail G) (part Tail W) so.1 (ap (part Tail) h))

    pub kept_parts : (ps : Parts) (x : List ℕ) (clock : Clock) (names last : Names) (fill free : Instant) (G : Past) (W : Instant) → SoundParts types C ps names (behind_parts types C ps fill free G) W → W ≡ in_row (wired_parts types C ps names last (held fill (in_row (remembers_parts types C.remembers ps fill G)) free) W) → remembers_parts types C.remembers ps fill (in_row (shown_parts types C ps x clock names (behind_parts types C ps fill free G) W) ∷ G) ≡ next_parts types C ps x clock names (held fill (in_row (remembers_parts types C.remembers ps fill G)) free) W
    kept_parts no_part x clock names last fill free G W so h = refl
    kept_parts (more_parts c e ps) x clock names last fill free G W so h =
        ap₂ (λ i is. i ∷ is) (kept e ((c, x) ∷ clock) names last (part Head fill) (part Head free) (parts Head G) (part Head W) so.0 (ap (part Head) h)) (kept_parts ps x clock names last (part Tail fill) (part Tail free) (parts Tail G) (part Tail W) so.1 (ap (part Tail) h))
