-- In a reaction of a node a variable of its contract has the value that its right side gives, over its last value.
use Rattle.std.proofs.Common.{◌≡◌, ℕ, Bool, true, false, ◌||◌, if◌then◌else◌, List, [], ◌∷◌, reverse, Option, None, Some, refl, sym, ap, subst, ◌∙◌}
use Rattle.std.specs.Str.{bytes_eq}
use Rattle.hp_base.specs.declared.span.Span.{Span}
use Rattle.hp_base.specs.declared.value.Value.{Value}
use Rattle.hp_base.specs.declared.value.Value.TheVariants.{Absent, B}
use Rattle.hp_base.specs.declared.ty.Const.{Const}
use Rattle.hp_base.specs.declared.ty.Const.TheVariants as constant
use Rattle.hp_tree.specs.declared.expr.Op2.{Op2}
use Rattle.hp_tree.specs.declared.expr.Op2.TheVariants.{And, Or}
use Rattle.hp_tree.specs.declared.program.Item.{Item}
use Rattle.hp_tree.specs.declared.program.Item.TheVariants.{TypeItem, NodeItem}
use Rattle.hp_tree.specs.Expressions.{Expr, variable, last_of, two}
use Rattle.hp_tree.specs.Blocks.{Decl, Block, block, Eqns, no_eqn, more_eqns, Eqn, define, switch, reset, automaton}
use Rattle.hp_tree.specs.Programs.{TypeDecl, Contract, Node}
use Rattle.hp_tree.specs.Operators.{real, two_of, constant_of}
use Rattle.hp_tree.specs.Instant.{Instant, Past, Given, Place, Named, Fresh, Equations, Head, Tail, Right, Observer, part, parts, at, own, own_with, Clock}
use Rattle.hp_tree.specs.Meaning.{Names, Nodes, nodes, node, node_among, types_of, expr, defined, gives, defines, some_defines, inside, lasts, previous, right, scope, observer, clock_of, input_of, absent, declares}
use Rattle.hp_tree.specs.Reaction.{Meets, Reaction, Each}
use Rattle.hp_past.specs.Past.{Once, Historically, Since}
use Rattle.hp_past.specs.Remembering.{last_among, right_side, defined_as, Remembers, Defines, IsBoolean, IsTrueAt, Tells, HasContract}
use Rattle.hp_past.specs.Own.{locals_of, equations_of}
use Rattle.hp_past.specs.Remembered.{Remembered, once, historically, since, variable_of, Keeps, Says, AreBoolean, instants_of}
use Rattle.hp_past.proofs.PastLaws.{newest_value, OrFollows, AndFollows, SinceFollows, once-tells, historically-tells, since-tells}

-- ---- what a block says of a variable that remembers

some-is : {A : Type 0} (a b : A) → Some a ≡ Some b → a ≡ b
some-is a b e = ap (λ o. elim o [ None ↦ a | Some c ↦ c ]) e

defined-some : (es : Eqns) (x : List ℕ) (right : Expr) → defined_as es x ≡ Some right → some_defines es x ≡ true
defined-some no_eqn x right e = absurd cc
defined-some (more_eqns q es) x right e = by (defines q x) (defined-some es x right) e
  where
    by : (same : Bool) → (defined_as es x ≡ Some right → some_defines es x ≡ true) → (if same then right_side q x else defined_as es x) ≡ Some right → (same || some_defines es x) ≡ true
    by true rest h = refl
    by false rest h = rest h

module _ (types : List TypeDecl) (N : Nodes) where
  abbrev constant_value : Const → Value
  constant_value c = real.constant (constant_of types c)

  -- the last value of a variable that a block declares `last`
  lasts-is : (ds : List Decl) (past : Past) (out : Names) (x : List ℕ) (b : Bool) → last_among ds x ≡ Some (constant.B b) → lasts constant_value ds past out x ≡ previous past x (B b)
  lasts-is [] past out x b e = absurd cc
  lasts-is (d ∷ ds) past out x b e = by (bytes_eq d.name x) d.last (lasts-is ds past out x b) e
    where
      by : (same : Bool) (l : Option Const) → (last_among ds x ≡ Some (constant.B b) → lasts constant_value ds past out x ≡ previous past x (B b)) → (if same then l else last_among ds x) ≡ Some (constant.B b)
          → (if same then (elim l [ None ↦ out x | Some c ↦ previous past x (constant_value c) ]) else lasts constant_value ds past out x) ≡ previous past x (B b)
      by true l rest h = ap (λ o. elim o [ None ↦ out x | Some c ↦ previous past x (constant_value c) ]) h
      by false l rest h = rest h

  -- a right side has a value wherever it stands
  abbrev Holds : Expr → Names → Names → List ℕ → Value → Type 0
  Holds e names last x w = (ys : List (List ℕ × Span)) (clock : Clock) (g : Given) (now : Instant) → right types real N ys e (expr types real N e clock names last g now) x ≡ w

  module _ (ds : List Decl) (names last : Names) (x : List ℕ) (e : Expr) (w : Value) (holds : Holds e names last x w) where
    gives-is : (q : Eqn) (g : Given) (now : Instant) → right_side q x ≡ Some e → gives types real N ds q names last g now x ≡ w
    gives-is (define s [] f) g now p = absurd cc
    gives-is (define s (y ∷ []) f) g now p =
        subst (λ r. right types real N (y ∷ []) r (expr types real N r (clock_of ds (y ∷ []) r) names last (at Right g) (part Right now)) x ≡ w)
        (sym (some-is f e p)) (holds (y ∷ []) (clock_of ds (y ∷ []) e) (at Right g) (part Right now))
    gives-is (define s (y ∷ z ∷ ys) f) g now p = absurd cc
    gives-is (switch s f arms) g now p = absurd cc
    gives-is (reset s b f) g now p = absurd cc
    gives-is (automaton s qs) g now p = absurd cc

    defined-is : (es : Eqns) (g : Given) (now : Instant) → defined_as es x ≡ Some e → defined types real N ds es names last g now x ≡ w
    defined-is no_eqn g now p = absurd cc
    defined-is (more_eqns q es) g now p = by (defines q x) (defined-is es (at Tail g) (part Tail now)) p
      where
        by : (same : Bool) → (defined_as es x ≡ Some e → defined types real N ds es names last (at Tail g) (part Tail now) x ≡ w) → (if same then right_side q x else defined_as es x) ≡ Some e
            → (if same then gives types real N ds q names last (at Head g) (part Head now) x else defined types real N ds es names last (at Tail g) (part Tail now) x) ≡ w
        by true rest h = gives-is q (at Head g) (part Head now) h
        by false rest h = rest h

  -- the value of a variable of a block, where the block is there
  scope-is : (b : Block) (v : List ℕ) (first : Bool) (e : Expr) (names last : Names) (g : Given) (now : Instant) (w : Value) → Remembers b v first e
      → Holds e (inside (equations_of b) names now) (lasts constant_value (locals_of b) g.past last) v w → scope types real N b false names last g now (Named v ∷ []) ≡ w
  scope-is (block ds es) v first e names last g now w r h =
      let names' = inside es names now in
      let last' = lasts constant_value ds g.past last in
      ap (λ some. if some then defined types real N ds es names' last' (at Equations g) (part Equations now) v else Absent) (defined-some es v e r.defined)
      ∙ defined-is ds names' last' v e w h es (at Equations g) (part Equations now) r.defined

-- ---- the contract of a node, in its reaction

record IsAmong (types : List TypeDecl) (items : List Item) (f : List ℕ) (n : Node) : Type 0 where
  others : Nodes
  is : (inputs : List Value) (g : Given) (now : Instant) → (nodes types real items).instant f inputs g now ≡ node types real others n inputs g now

among-is : (types : List TypeDecl) (items : List Item) (f : List ℕ) (n : Node) → node_among items f ≡ Some n → IsAmong types items f n
among-is types [] f n e = absurd cc
among-is types (TypeItem t ∷ items) f n e = let r = among-is types items f n e in record { others = r.others; is = r.is }
among-is types (NodeItem m ∷ items) f n e = let r = by (bytes_eq m.name f) (among-is types items f n) e in record { others = r.0; is = r.1 }
  where
    rest : Nodes
    rest = nodes types real items

    by : (same : Bool) → (node_among items f ≡ Some n → IsAmong types items f n) → (if same then Some m else node_among items f) ≡ Some n
        → (others : Nodes) × ((inputs : List Value) (g : Given) (now : Instant) → (if same then node types real (nodes types real items) m inputs g now else (nodes types real items).instant f inputs g now) ≡ node types real others n inputs g now)
    by true known h = (rest, λ inputs g now. ap (λ k. node types real rest k inputs g now) (some-is m n h))
    by false known h = let r = known h in (r.others, r.is)

-- the own past of a contract's block, an instant of it, and what it reads
abbrev own_past : Past → Past
own_past past = own (parts Observer past)

record Observed (program : List Item) (c : Contract) (past : Past) (now : Instant) : Type 0 where
  types : List TypeDecl
  others : Nodes
  names : Names
  lasts_around : Names
  free : Instant
  is : (p : Place) → now (Observer ∷ p) ≡ scope types real others c.body false names lasts_around (record { past = own_past past; free = free }) (part Observer now) p

observed : (program : List Item) (f : List ℕ) (c : Contract) (h : HasContract program f c) (inputs : List Value) (past : Past) (free : Instant) (now : Instant)
    → Meets real program f inputs (record { past = past; free = free }) now → Observed program c past now
observed program f c h inputs past free now m =
    let n = h.node in
    let a = among-is (types_of program) (reverse program) f n h.is_node in
    let g : Given = record { past = past; free = free } in
    let outer : Names = input_of n.inputs inputs absent in
    let names : Names = λ x. if declares n.outputs x then now (Named x ∷ []) else outer x in
    let around : Names = lasts (constant_value (types_of program) a.others) n.outputs past absent in
    record {
      types = types_of program;
      others = a.others;
      names = names;
      lasts_around = around;
      free = part Observer free;
      is = λ p. m (Observer ∷ p) ∙ ap (λ (i : Instant). i (Observer ∷ p)) (a.is inputs g now) ∙ ap (λ o. observer (types_of program) real a.others o names around g now (Observer ∷ p)) h.has;
    }

-- a contract's block never begins anew
fresh-is : (program : List Item) (c : Contract) (past : Past) (now : Instant) → Observed program c past now → now (Observer ∷ Fresh ∷ []) ≡ B false
fresh-is program c past now o = o.is (Fresh ∷ []) ∙ never c.body
  where
    never : (b : Block) → scope o.types real o.others b false o.names o.lasts_around (record { past = own_past past; free = o.free }) (part Observer now) (Fresh ∷ []) ≡ B false
    never (block ds es) = refl

-- the instants of a reaction, each with its own past
data Observes (program : List Item) (c : Contract) : Past → Type 0 where
  no_instant : Observes program c []
  more_instants : (now : Instant) (past : Past) → Observed program c past now → Observes program c past → Observes program c (now ∷ past)

observes : (program : List Item) (f : List ℕ) (c : Contract) → HasContract program f c → (inputs : List (List Value)) (frees : List Instant) (past : Past) → Reaction program f inputs frees past → Observes program c past
observes program f c h [] [] [] r = Observes.no_instant
observes program f c h [] [] (now ∷ past) r = absurd r
observes program f c h [] (free ∷ frees) past r = absurd r
observes program f c h (i ∷ inputs) [] past r = absurd r
observes program f c h (i ∷ inputs) (free ∷ frees) [] r = absurd r
observes program f c h (i ∷ inputs) (free ∷ frees) (now ∷ past) r = Observes.more_instants now past (observed program f c h i past free now r.1) (observes program f c h inputs frees past r.0)

own-is : (program : List Item) (c : Contract) (past : Past) → Observes program c past → own_past past ≡ parts Observer past
own-is program c [] o = refl
own-is program c (now ∷ past) (Observes.more_instants a b s o) =
    (λ j. own_with (fresh-is program c past now s j) (part Observer now) (own-is program c past o j))

-- ---- the laws

abbrev named : List ℕ → Instant → Value
named x now = now (Named x ∷ [])

previous-is : (past : Past) (x : List ℕ) (b : Bool) → previous past x (B b) ≡ newest_value (named x) b past
previous-is [] x b = refl
previous-is (i ∷ past) x b = refl

module _ (program : List Item) (c : Contract) (v : List ℕ) where
  -- what a right side reads: variables that the block defines, and the last value of the variable that remembers
  abbrev Reads : Expr → (Instant → Value → Value) → Type 0
  Reads e f = (types : List TypeDecl) (N : Nodes) (names last : Names) (now : Instant) → Holds types N e (inside (equations_of c.body) names now) last v (f now (last v))

  step-is : (first : Bool) (e : Expr) (f : Instant → Value → Value) → Remembers c.body v first e → Reads e f → (past : Past) (now : Instant) → Observed program c past now
      → own_past past ≡ parts Observer past → named v (part Observer now) ≡ f (part Observer now) (newest_value (named v) first (parts Observer past))
  step-is first e f r reads past now o same =
      let last : Names = lasts (constant_value o.types o.others) (locals_of c.body) (own_past past) o.lasts_around in
      let i = part Observer now in
      let g : Given = record { past = own_past past; free = o.free } in
      o.is (Named v ∷ [])
      ∙ scope-is o.types o.others c.body v first e o.names o.lasts_around g i (f i (last v)) r (reads o.types o.others o.names last i)
      ∙ ap (f i) (lasts-is o.types o.others (locals_of c.body) (own_past past) o.lasts_around v first r.begins ∙ ap (λ p. previous p v (B first)) same ∙ previous-is (parts Observer past) v first)

  module _ (s s' s'' : Span) (n : List ℕ) (k : Defines c.body n) where
    abbrev single : Op2 → Expr
    single op = two s op (variable s' n) (last_of s'' v)

    single-reads : (op : Op2) → Reads (single op) (λ now w. two_of op (named n now) w)
    single-reads op types N names last now ys clock g now' = ap (λ some. two_of op (if some then named n now else names n) (last v)) k

    or-follows : Remembers c.body v false (single Or) → (past : Past) → Observes program c past → OrFollows (named n) (named v) (parts Observer past)
    or-follows r [] o = tt
    or-follows r (now ∷ past) (Observes.more_instants a b i o) =
        (step-is false (single Or) (λ now w. two_of Or (named n now) w) r (single-reads Or) past now i (own-is program c past o), or-follows r past o)

    and-follows : Remembers c.body v true (single And) → (past : Past) → Observes program c past → AndFollows (named n) (named v) (parts Observer past)
    and-follows r [] o = tt
    and-follows r (now ∷ past) (Observes.more_instants a b i o) =
        (step-is true (single And) (λ now w. two_of And (named n now) w) r (single-reads And) past now i (own-is program c past o), and-follows r past o)

  module _ (s s1 s2 s3 s4 : Span) (n1 n2 : List ℕ) (k1 : Defines c.body n1) (k2 : Defines c.body n2) where
    abbrev begun : Expr
    begun = two s Or (variable s1 n2) (two s2 And (variable s3 n1) (last_of s4 v))

    begun-reads : Reads begun (λ now w. two_of Or (named n2 now) (two_of And (named n1 now) w))
    begun-reads types N names last now ys clock g now' =
        (λ j. two_of Or (if k2 j then named n2 now else names n2) (two_of And (if k1 j then named n1 now else names n1) (last v)))

    since-follows : Remembers c.body v false begun → (past : Past) → Observes program c past → SinceFollows (named n1) (named n2) (named v) (parts Observer past)
    since-follows r [] o = tt
    since-follows r (now ∷ past) (Observes.more_instants a b i o) =
        (step-is false begun (λ now w. two_of Or (named n2 now) (two_of And (named n1 now) w)) r begun-reads past now i (own-is program c past o), since-follows r past o)

module _ (program : List Item) (f : List ℕ) (c : Contract) (h : HasContract program f c) (inputs : List (List Value)) (frees : List Instant) (now : Instant) (past : Past)
    (reaction : Reaction program f inputs frees (now ∷ past)) (v : List ℕ) where
  all : Observes program c (now ∷ past)
  all = observes program f c h inputs frees (now ∷ past) reaction

  earlier : (p : Past) (i : Instant) → Observes program c (i ∷ p) → Observes program c p
  earlier p i (Observes.more_instants a b s o) = o

  same : instants_of now past ≡ parts Observer (now ∷ past)
  same = ap (λ p. part Observer now ∷ p) (own-is program c past (earlier past now all))

  once-remembered : (s s' s'' : Span) (n : List ℕ) → Defines c.body n → Remembers c.body v false (two s Or (variable s' n) (last_of s'' v)) → Each (IsBoolean n) (instants_of now past)
      → Tells (now (Observer ∷ Named v ∷ [])) (Once (IsTrueAt n) (instants_of now past))
  once-remembered s s' s'' n k r b =
      subst (λ p. Tells (now (Observer ∷ Named v ∷ [])) (Once (IsTrueAt n) p)) (sym same)
      (once-tells (named n) (named v) (parts Observer (now ∷ past)) (or-follows program c v s s' s'' n k r (now ∷ past) all) (subst (Each (IsBoolean n)) same b))

  historically-remembered : (s s' s'' : Span) (n : List ℕ) → Defines c.body n → Remembers c.body v true (two s And (variable s' n) (last_of s'' v)) → Each (IsBoolean n) (instants_of now past)
      → Tells (now (Observer ∷ Named v ∷ [])) (Historically (IsTrueAt n) (instants_of now past))
  historically-remembered s s' s'' n k r b =
      subst (λ p. Tells (now (Observer ∷ Named v ∷ [])) (Historically (IsTrueAt n) p)) (sym same)
      (historically-tells (named n) (named v) (parts Observer (now ∷ past)) (and-follows program c v s s' s'' n k r (now ∷ past) all) (subst (Each (IsBoolean n)) same b))

  since-remembered : (s s1 s2 s3 s4 : Span) (n1 n2 : List ℕ) → Defines c.body n1 → Defines c.body n2 → Remembers c.body v false (two s Or (variable s1 n2) (two s2 And (variable s3 n1) (last_of s4 v)))
      → Each (IsBoolean n1) (instants_of now past) → Each (IsBoolean n2) (instants_of now past) → Tells (now (Observer ∷ Named v ∷ [])) (Since (IsTrueAt n1) (IsTrueAt n2) (instants_of now past))
  since-remembered s s1 s2 s3 s4 n1 n2 k1 k2 r b1 b2 =
      subst (λ p. Tells (now (Observer ∷ Named v ∷ [])) (Since (IsTrueAt n1) (IsTrueAt n2) p)) (sym same)
      (since-tells (named n1) (named n2) (named v) (parts Observer (now ∷ past)) (since-follows program c v s s1 s2 s3 s4 n1 n2 k1 k2 r (now ∷ past) all)
      (subst (Each (IsBoolean n1)) same b1) (subst (Each (IsBoolean n2)) same b2))

-- The own past of a contract's block is all of its past, and each formula that it remembers has its value.
module _ (program : List Item) (f : List ℕ) (c : Contract) (h : HasContract program f c) (inputs : List (List Value)) (frees : List Instant) (now : Instant) (past : Past)
    (reaction : Reaction program f inputs frees (now ∷ past)) where
  pub whole-past : instants_of now past ≡ parts Observer (now ∷ past)
  whole-past = same program f c h inputs frees now past reaction []

  pub remembered : (m : Remembered) → Keeps c.body m → AreBoolean m (instants_of now past) → Tells (now (Observer ∷ Named (variable_of m) ∷ [])) (Says m (instants_of now past))
  remembered (once n v) k b = let r = k.1 in once-remembered program f c h inputs frees now past reaction v r.0 r.1 r.2 n k.0 r.3 b
  remembered (historically n v) k b = let r = k.1 in historically-remembered program f c h inputs frees now past reaction v r.0 r.1 r.2 n k.0 r.3 b
  remembered (since n1 n2 v) k b = let r = k.2 in since-remembered program f c h inputs frees now past reaction v r.0 r.1 r.2 r.3 r.4 n1 n2 k.0 k.1 r.5 b.0 b.1
