-- What blocks give to names, and the last values of names, in the language and in its filled form.
use Rattle.std.proofs.Common.{◌≡◌, ℕ, suc, List, [], ◌∷◌, refl, sym, ap, ap₂, subst, ◌∙◌}
use Rattle.std.proofs.Math.Path.{fun_ext}
use Rattle.std.specs.Prelude.{Bool, true, false, ◌&&◌, not, IsTrue, IsFalse, if◌then◌else◌, Option, None, Some}
use Rattle.std.specs.Str.{bytes_eq}
use Rattle.hp_base.specs.declared.span.Span.{Span}
use Rattle.hp_base.specs.declared.ty.Ty.{Ty}
use Rattle.hp_base.specs.declared.ty.Const.{Const}
use Rattle.hp_base.specs.declared.ty.Const.TheVariants as const
use Rattle.hp_base.specs.declared.value.Value.{Value}
use Rattle.hp_base.specs.declared.value.Value.TheVariants.{Absent, Nil}
use Rattle.hp_tree.specs.Expressions.{Expr, constant, variable, last_of, one, two, choose, pre, fby, arrow, when_is, merge, call}
use Rattle.hp_tree.specs.Blocks.{Decl, Block, block, Eqns}
use Rattle.hp_tree.specs.Programs.{TypeDecl, Node}
use Rattle.hp_tree.specs.Operators.{real, filled, constant_of, constructor_from, place_in, or_later}
use Rattle.hp_tree.specs.Instant.{Named, Args, Instance, Place, Instant, Past, Given, at, part, top, Clock}
use Rattle.hp_tree.specs.Meaning.{Names, Nodes, names_of, declares, is_among, some_defines, block_defines, inside, previous, lasts as lasts_said, clock_in, output_for, right, from_block}
use Rattle.hp_tree.specs.Reaction.{Each}
use Rattle.hp_base.specs.Known.Known.{lookup}
use Rattle.hp_typing.specs.Scopes.{with_variables}
use Rattle.hp_typing.specs.Types.{type_of, types_in}
use Rattle.law_judged.specs.Typed.Scopes.{Scope}
use Rattle.hp_init.specs.Classes.{Classes, Assignment, is_second}
use Rattle.law_judged.proofs.NamedLemmas.Sets.{same_name}
use Rattle.law_values.specs.Valued.Judged.{Lasts, LeftsHave, HaveOwnTypes}
use Rattle.law_values.specs.Valued.Classed.{classes_in}
use Rattle.law_values.specs.Valued.Fitting.{Fits, Presence, IsThere, ExprFits, OutputsFit}
use Rattle.law_values.specs.Valued.Given.{ExprGiven}
use Rattle.law_values.proofs.ValuedLemmas.Both.{LeftsFollow, RightOk, FirstOk, DeclsOk, OthersFirst, BlockOk}
use Rattle.law_values.proofs.ValuedLemmas.Loose.{BlockLoose}
use Rattle.law_values.proofs.ValuedLemmas.Laws.{true_or_false, and_left, and_right, not_both, Along}
use Rattle.law_values.proofs.ValuedLemmas.Typed.{row_typed}
use Rattle.law_values.proofs.ValuedLemmas.Scoped.{not_declared, declared_is, last_of as last_given}
use Rattle.law_values.proofs.ValuedLemmas.ExprTops.{along_part, along_same}
use Rattle.law_values.proofs.ValuedLemmas.Gives.{is_not, left_typed, left_follows}
use Rattle.law_values.specs.Filled.Firsts.{DeclsHaveFirsts}
use Rattle.law_values.proofs.FilledLemmas.FirstsFit.{as_given}
use Rattle.law_values.proofs.FilledLemmas.TypesAgree.{agrees_at}
use Rattle.law_values.proofs.FilledLemmas.Marked.{Marks, mark, Agree, AllAgree, PastsAgree, typed_not_nil, by_same, of_none, never, loose, unmarked, as_type, past_part}
use Rattle.law_values.proofs.FilledLemmas.Places.{of_block}
use Rattle.law_values.specs.Accepted.ClocksFirst.{AllFirst}
use Rattle.law_values.specs.Filled.Under.{SameControls}
use Rattle.law_values.proofs.FilledLemmas.Expressions.{Solved, NamesAgree, HaveFirsts, Callees, M, Place', Said, Said', value_fits, expr_agrees, call_agree, exprs_agree}

-- a value that is the same, and not Nil
abbrev pub Same : Value → Value → Type 0
Same v w = (w ≡ v) × (v ≡ Nil → ⊥)

-- No last value is Nil.
abbrev pub Quiet : Names → Type 0
Quiet last = (x : List ℕ) → last x ≡ Nil → ⊥

not_nil_absent : (v : Value) → v ≡ Absent → v ≡ Nil → ⊥
not_nil_absent v e f = absurd (let z : Absent ≡ Nil = sym e ∙ f in cc)

constructor_quiet : (types : List TypeDecl) (k : ℕ) (c : List ℕ) → constructor_from k types c ≡ Nil → ⊥
constructor_quiet [] k c e = absurd (cc)
constructor_quiet (d ∷ ds) k c e = by (place_in 0 d.cons c) (constructor_quiet ds (suc k) c) e
  where
    by : (o : Option ℕ) → (constructor_from (suc k) ds c ≡ Nil → ⊥) → or_later k o (constructor_from (suc k) ds c) ≡ Nil → ⊥
    by None f h = f h
    by (Some j) f h = absurd (cc)

pub constant_quiet : (types : List TypeDecl) (c : Const) → constant_of types c ≡ Nil → ⊥
constant_quiet types (const.B b) e = absurd (cc)
constant_quiet types (const.I n) e = absurd (cc)
constant_quiet types (const.E c) e = constructor_quiet types 0 c e

pub never_any : (types : List TypeDecl) (d : Bool) (o : Option Ty) (v : Value) → Fits types d o false v → v ≡ Nil → ⊥
never_any types true (Some t) v h e = never types true t v h e
never_any types true None v h e = not_nil_absent v h e
never_any types false o v h e = not_nil_absent v h e

-- ---- the outputs of a call

output_absent : (ys : List (List ℕ × Span)) (os : List (List ℕ)) (i : Instant) (x : List ℕ) → ((p : Place) → i p ≡ Absent) → output_for ys os i x ≡ Absent
output_absent [] os i x a = refl
output_absent (y ∷ ys) [] i x a = refl
output_absent (y ∷ ys) (o ∷ os) i x a = by (bytes_eq y.0 x) (output_absent ys os i x a)
  where
    by : (b : Bool) → output_for ys os i x ≡ Absent → (if b then i (Named o ∷ []) else output_for ys os i x) ≡ Absent
    by true h = a (Named o ∷ [])
    by false h = h

output_quiet : (types : List TypeDecl) (ys : List (List ℕ × Span)) (ds : List Decl) (i : Instant) (x : List ℕ) → OutputsFit types ds i → output_for ys (names_of ds) i x ≡ Nil → ⊥
output_quiet types [] ds i x h e = absurd (cc)
output_quiet types (y ∷ ys) [] i x h e = absurd (cc)
output_quiet types (y ∷ ys) (d ∷ ds) i x h e = by (bytes_eq y.0 x) (output_quiet types ys ds i x h.1) e
  where
    by : (b : Bool) → (output_for ys (names_of ds) i x ≡ Nil → ⊥) → (if b then i (Named d.name ∷ []) else output_for ys (names_of ds) i x) ≡ Nil → ⊥
    by true f k = typed_not_nil types d.ty (i (Named d.name ∷ [])) h.0 k
    by false f k = f k

output_same : (types : List TypeDecl) (U : Marks) → ((x : List ℕ) → U (Named x ∷ []) ≡ None) → (ys : List (List ℕ × Span)) (os : List (List ℕ)) (i j : Instant) (x : List ℕ) → AllAgree types U i j → output_for ys os j x ≡ output_for ys os i x
output_same types U e [] os i j x h = refl
output_same types U e (y ∷ ys) [] i j x h = refl
output_same types U e (y ∷ ys) (o ∷ os) i j x h =
    let a : j (Named o ∷ []) ≡ i (Named o ∷ []) = of_none types (i (Named o ∷ [])) (j (Named o ∷ [])) (as_type types (U (Named o ∷ [])) None (i (Named o ∷ [])) (j (Named o ∷ [])) (e o) (h (Named o ∷ []))) in
    ap₂ (λ v w. if bytes_eq y.0 x then v else w) a (output_same types U e ys os i j x h)

-- a value at a mark, by its class
followed : (types : List TypeDecl) (b c d : Bool) (t : Ty) (v w : Value) → (IsTrue b → IsTrue c) → Agree types (mark b (Some t)) v w → Fits types d (Some t) (b && true) v → Agree types (mark c (Some t)) v w
followed types b true d t v w f h k = loose types b d t v w h k
followed types true false d t v w f h k = absurd (let z = f refl in cc)
followed types false false d t v w f h k = h

module _ (types : List TypeDecl) (N : Nodes) (S : Solved) (among : List ℕ → Option Node) (fits given : List ℕ → Instant → Type 0) (T : List ℕ → Marks) (known : Callees types N S among fits given T) where
  abbrev M' : Nodes
  M' = M types N S among fits given T known

  -- ---- the right side of an equation
  module _ (s : Scope) (second : Classes) (lasts : Lasts) (names names' last : Names) (agree : NamesAgree types s second names names') (firsts : HaveFirsts types s) (ws : List Presence) (there : Presence) where
    abbrev In : Expr → Marks
    In e = Place' types N S among fits given T known s second lasts names names' last agree firsts ws there e

    abbrev Says : Expr → Clock → Given → Instant → Instant
    Says e clock g now = Said types N S among fits given T known s second lasts names names' last agree firsts ws there e clock g now

    abbrev Says' : Expr → Clock → Given → Instant → Instant
    Says' e clock g now = Said' types N S among fits given T known s second lasts names names' last agree firsts ws there e clock g now

    abbrev Pasts : Expr → Clock → Past → Type 0
    Pasts e clock past = Along (λ w i. ExprFits types true fits s second w e clock i) ws past

    abbrev Gives : List (List ℕ × Span) → Expr → Clock → Given → Given → Instant → Instant → Type 0
    Gives ys e clock g g' now now' =
        AllAgree types (In e) (Says e clock g now) (Says' e clock g' now')
        × ((x : List ℕ) → IsTrue (is_among ys x) → Agree types (mark (second x) (lookup s.variables x)) (right types real N ys e (Says e clock g now) x) (right types filled M' ys e (Says' e clock g' now') x))

    single : (ys : List (List ℕ × Span)) (e : Expr) (clock : Clock) (g g' : Given) (now now' : Instant) (t : Ty) → type_of s e ≡ Some t → LeftsHave s ys t → LeftsFollow second ys (is_second second e) → ExprFits types true fits s second there e clock now → now [] ≡ top (Says e clock g now) → AllAgree types (In e) (Says e clock g now) (Says' e clock g' now')
        → (x : List ℕ) → IsTrue (is_among ys x) → Agree types (mark (second x) (lookup s.variables x)) (top (Says e clock g now)) (top (Says' e clock g' now'))
    single ys e clock g g' now now' t h left follow k m r x z =
        let i = top (Says e clock g now) in
        let j = top (Says' e clock g' now') in
        as_type types (mark (second x) (Some t)) (mark (second x) (lookup s.variables x)) i j (ap (mark (second x)) (sym (left_typed s ys x t z left)))
        (followed types (is_second second e) (second x) (there clock) t i j (λ y. left_follows second ys x (is_second second e) z follow y)
        (as_type types (mark (is_second second e) (type_of s e)) (mark (is_second second e) (Some t)) i j (ap (mark (is_second second e)) h) (r []))
        (subst (λ v. Fits types (there clock) (Some t) (is_second second e && true) v) m (value_fits types N S among fits given T known s second there e t clock now h k)))

    abbrev Single : List (List ℕ × Span) → Expr → Type 0
    Single ys e = (t : Ty) × ((type_of s e ≡ Some t) × (LeftsHave s ys t × LeftsFollow second ys (is_second second e)))

    -- of the outputs of a call each goes to a name
    outputs_given : (f : List ℕ) (n : Node) (ys : List (List ℕ × Span)) (d : Bool) (i i' j : Instant) (x : List ℕ) → among f ≡ Some n → IsThere d (fits f) i → ((p : Place) → i p ≡ i' p) → AllAgree types (T f) i' j → Agree types (mark (second x) (lookup s.variables x)) (output_for ys (N.outputs f) i' x) (output_for ys (N.outputs f) j x)
    outputs_given f n ys d i i' j x e k m a =
        by_same types (mark (second x) (lookup s.variables x)) (output_for ys (N.outputs f) i' x) (output_for ys (N.outputs f) j x) (output_same types (T f) (known.named f) ys (N.outputs f) i' j x a)
        (λ q. quiet d k (ap (λ z. output_for ys (N.outputs f) z x) (fun_ext m) ∙ q))
      where
        quiet : (d : Bool) → IsThere d (fits f) i → output_for ys (N.outputs f) i x ≡ Nil → ⊥
        quiet true k q = output_quiet types ys n.outputs i x (known.gives f n i e k) (ap (λ os. output_for ys os i x) (sym (known.outputs f n e)) ∙ q)
        quiet false k q = not_nil_absent (output_for ys (N.outputs f) i x) (output_absent ys (N.outputs f) i x k) q

    pub right_agrees : (ys : List (List ℕ × Span)) (e : Expr) (clock : Clock) (g g' : Given) (now now' : Instant) → RightOk types among s second lasts ys e → AllFirst second clock → ExprFits types true fits s second there e clock now → Pasts e clock g.past → PastsAgree types (In e) g.past g'.past → ExprGiven types false as_given given s e g'.free → SameControls g.free g'.free → ((p : Place) → now p ≡ Says e clock g now p) → Gives ys e clock g g' now now'
    right_agrees ys (call a f i es) clock g g' now now' ok ck k past pasts gv cs m =
        let q = row_typed (lookup s.nodes f) (types_in s es) ok.1.0 ok.1.1.0 in
        let e = sym ok.0.0 ∙ q.1 in
        let r =
        call_agree types N S among fits given T known s second lasts names names' last agree firsts ws there a f i es q.0 clock g g' now now' e ck k.1.1 (along_same _ _ ws g.past (λ w j z. z.1.1) past) pasts gv.1 cs m
        (exprs_agree types N S among fits given T known s second lasts names names' last agree firsts ws there es q.0.inputs clock (at Args g) (at Args g') (part Args now) (part Args now') q.2 ok.0.1 ck k.1.0 (along_part _ _ Args ws g.past (λ w j z. z.1.0) past) (past_part types (In (call a f i es)) Args g.past g'.past pasts) gv.0 (λ p r. cs (Args ∷ p) r) (λ p. m (Args ∷ p))) in
        (r, λ x h. outputs_given f q.0 ys (there clock) (part Instance now) (part Instance (Says (call a f i es) clock g now)) (part Instance (Says' (call a f i es) clock g' now')) x e k.1.1 (λ p. m (Instance ∷ p)) (λ p. r (Instance ∷ p)))
    right_agrees ys (constant a c) clock g g' now now' ok ck k past pasts gv cs m =
        let r = expr_agrees types N S among fits given T known s second lasts names names' last agree firsts ws there (constant a c) ok.1.0 clock g g' now now' ok.1.1.0 ok.0 ck k past pasts gv cs m in
        (r, single ys (constant a c) clock g g' now now' ok.1.0 ok.1.1.0 ok.1.1.1.0 ok.1.1.1.1 k (m []) r)
    right_agrees ys (variable a c) clock g g' now now' ok ck k past pasts gv cs m =
        let r = expr_agrees types N S among fits given T known s second lasts names names' last agree firsts ws there (variable a c) ok.1.0 clock g g' now now' ok.1.1.0 ok.0 ck k past pasts gv cs m in
        (r, single ys (variable a c) clock g g' now now' ok.1.0 ok.1.1.0 ok.1.1.1.0 ok.1.1.1.1 k (m []) r)
    right_agrees ys (last_of a c) clock g g' now now' ok ck k past pasts gv cs m =
        let r = expr_agrees types N S among fits given T known s second lasts names names' last agree firsts ws there (last_of a c) ok.1.0 clock g g' now now' ok.1.1.0 ok.0 ck k past pasts gv cs m in
        (r, single ys (last_of a c) clock g g' now now' ok.1.0 ok.1.1.0 ok.1.1.1.0 ok.1.1.1.1 k (m []) r)
    right_agrees ys (one a o c) clock g g' now now' ok ck k past pasts gv cs m =
        let r = expr_agrees types N S among fits given T known s second lasts names names' last agree firsts ws there (one a o c) ok.1.0 clock g g' now now' ok.1.1.0 ok.0 ck k past pasts gv cs m in
        (r, single ys (one a o c) clock g g' now now' ok.1.0 ok.1.1.0 ok.1.1.1.0 ok.1.1.1.1 k (m []) r)
    right_agrees ys (two a o b c) clock g g' now now' ok ck k past pasts gv cs m =
        let r = expr_agrees types N S among fits given T known s second lasts names names' last agree firsts ws there (two a o b c) ok.1.0 clock g g' now now' ok.1.1.0 ok.0 ck k past pasts gv cs m in
        (r, single ys (two a o b c) clock g g' now now' ok.1.0 ok.1.1.0 ok.1.1.1.0 ok.1.1.1.1 k (m []) r)
    right_agrees ys (choose a o b c) clock g g' now now' ok ck k past pasts gv cs m =
        let r = expr_agrees types N S among fits given T known s second lasts names names' last agree firsts ws there (choose a o b c) ok.1.0 clock g g' now now' ok.1.1.0 ok.0 ck k past pasts gv cs m in
        (r, single ys (choose a o b c) clock g g' now now' ok.1.0 ok.1.1.0 ok.1.1.1.0 ok.1.1.1.1 k (m []) r)
    right_agrees ys (pre a c) clock g g' now now' ok ck k past pasts gv cs m =
        let r = expr_agrees types N S among fits given T known s second lasts names names' last agree firsts ws there (pre a c) ok.1.0 clock g g' now now' ok.1.1.0 ok.0 ck k past pasts gv cs m in
        (r, single ys (pre a c) clock g g' now now' ok.1.0 ok.1.1.0 ok.1.1.1.0 ok.1.1.1.1 k (m []) r)
    right_agrees ys (fby a b c) clock g g' now now' ok ck k past pasts gv cs m =
        let r = expr_agrees types N S among fits given T known s second lasts names names' last agree firsts ws there (fby a b c) ok.1.0 clock g g' now now' ok.1.1.0 ok.0 ck k past pasts gv cs m in
        (r, single ys (fby a b c) clock g g' now now' ok.1.0 ok.1.1.0 ok.1.1.1.0 ok.1.1.1.1 k (m []) r)
    right_agrees ys (arrow a b c) clock g g' now now' ok ck k past pasts gv cs m =
        let r = expr_agrees types N S among fits given T known s second lasts names names' last agree firsts ws there (arrow a b c) ok.1.0 clock g g' now now' ok.1.1.0 ok.0 ck k past pasts gv cs m in
        (r, single ys (arrow a b c) clock g g' now now' ok.1.0 ok.1.1.0 ok.1.1.1.0 ok.1.1.1.1 k (m []) r)
    right_agrees ys (when_is a b c x) clock g g' now now' ok ck k past pasts gv cs m =
        let r = expr_agrees types N S among fits given T known s second lasts names names' last agree firsts ws there (when_is a b c x) ok.1.0 clock g g' now now' ok.1.1.0 ok.0 ck k past pasts gv cs m in
        (r, single ys (when_is a b c x) clock g g' now now' ok.1.0 ok.1.1.0 ok.1.1.1.0 ok.1.1.1.1 k (m []) r)
    right_agrees ys (merge a b c) clock g g' now now' ok ck k past pasts gv cs m =
        let r = expr_agrees types N S among fits given T known s second lasts names names' last agree firsts ws there (merge a b c) ok.1.0 clock g g' now now' ok.1.1.0 ok.0 ck k past pasts gv cs m in
        (r, single ys (merge a b c) clock g g' now now' ok.1.0 ok.1.1.0 ok.1.1.1.0 ok.1.1.1.1 k (m []) r)

  -- ---- what a block gives to those around it

  pub block_gives : (b : Block) (s : Scope) (second : Classes) (class : Assignment) (d : Bool) (now now' : Instant) → OthersFirst types among b s class → IsThere d (BlockLoose types true fits s second class b) now → AllAgree types (of_block T s second class b) now now' → (x : List ℕ) → IsTrue (block_defines b x) → Same (now (Named x ∷ [])) (now' (Named x ∷ []))
  block_gives (block ds es) s second class d now now' o k a x h =
      let f = (o x (and_left (some_defines es x) (not (declares ds x)) h) (is_not (declares ds x) (and_right (some_defines es x) (not (declares ds x)) h))).0 in
      (unmarked types (class (Named x ∷ [])) (lookup (with_variables s ds).variables x) (now (Named x ∷ [])) (now' (Named x ∷ [])) f (a (Named x ∷ [])), quiet d f k)
    where
      quiet : (d : Bool) → IsFalse (class (Named x ∷ [])) → IsThere d (BlockLoose types true fits s second class (block ds es)) now → now (Named x ∷ []) ≡ Nil → ⊥
      quiet true f k e =
          never_any types (some_defines es x && k.0 (clock_in ds x)) (lookup (with_variables s ds).variables x) (now (Named x ∷ []))
          (subst (λ z. Fits types (some_defines es x && k.0 (clock_in ds x)) (lookup (with_variables s ds).variables x) (z && true) (now (Named x ∷ []))) f (k.1.1.0 x).0) e
      quiet false f k e = not_nil_absent (now (Named x ∷ [])) (k (Named x ∷ [])) e

  -- its value there, or the last one
  pub branch_gives : (b : Block) (s : Scope) (second : Classes) (class : Assignment) (d : Bool) (last : Names) (now now' : Instant) → OthersFirst types among b s class → IsThere d (BlockLoose types true fits s second class b) now → AllAgree types (of_block T s second class b) now now' → Quiet last → (x : List ℕ) → Same (from_block b last now x) (from_block b last now' x)
  branch_gives b s second class d last now now' o k a q x =
      by (block_defines b x) (λ h. block_gives b s second class d now now' o k a x h)
    where
      by : (c : Bool) → (IsTrue c → Same (now (Named x ∷ [])) (now' (Named x ∷ []))) → Same (if c then now (Named x ∷ []) else last x) (if c then now' (Named x ∷ []) else last x)
      by true f = f refl
      by false f = (refl, q x)

  -- ---- inside a block

  module _ (ds : List Decl) (es : Eqns) (s : Scope) (second : Classes) (lasts : Lasts) (class : Assignment) (ok : BlockOk types among s second lasts class (block ds es)) where
    own_types : (fs : List Decl) → DeclsOk types among (with_variables s ds) (classes_in es second class) es fs → HaveOwnTypes types among (with_variables s ds) fs
    own_types [] o = tt
    own_types (d ∷ fs) o = (o.0.0, own_types fs o.1)

    pub firsts_inside : DeclsHaveFirsts types ds → HaveFirsts types s → HaveFirsts types (with_variables s ds)
    firsts_inside h firsts x t k =
        (agrees_at types among (with_variables s ds) ds (λ y. t) x t (own_types ds ok.0) h k (λ f. (refl, firsts x t (sym (not_declared x ds s f) ∙ k)))).1

    not_declared_here : (x : List ℕ) → IsFalse (some_defines es x) → IsFalse (declares ds x)
    not_declared_here x f = true_or_false (declares ds x) (λ t. not_both (some_defines es x) (declared_is types among (with_variables s ds) (classes_in es second class) es x ds ok.0 t).0 f) (λ z. z)

    pub names_inside : (names names' : Names) (now now' : Instant) → NamesAgree types s second names names' → AllAgree types (of_block T s second class (block ds es)) now now' → NamesAgree types (with_variables s ds) (classes_in es second class) (inside es names now) (inside es names' now')
    names_inside names names' now now' agree here x = by (some_defines es x) (λ f. not_declared x ds s (not_declared_here x f))
      where
        by : (d : Bool) → (IsFalse d → lookup (with_variables s ds).variables x ≡ lookup s.variables x) → Agree types (mark (if d then class (Named x ∷ []) else second x) (lookup (with_variables s ds).variables x)) (if d then now (Named x ∷ []) else names x) (if d then now' (Named x ∷ []) else names' x)
        by true f = here (Named x ∷ [])
        by false f = as_type types (mark (second x) (lookup s.variables x)) (mark (second x) (lookup (with_variables s ds).variables x)) (names x) (names' x) (ap (mark (second x)) (sym (f refl))) (agree x)

    previous_same : (x : List ℕ) (v : Value) (past other : Past) → IsFalse (class (Named x ∷ [])) → (v ≡ Nil → ⊥) → Each (BlockLoose types true fits s second class (block ds es)) past → PastsAgree types (of_block T s second class (block ds es)) past other → Same (previous past x v) (previous other x v)
    previous_same x v [] [] f q a h = (refl, q)
    previous_same x v (i ∷ past) (j ∷ other) f q a h = (
      unmarked types (class (Named x ∷ [])) (lookup (with_variables s ds).variables x) (i (Named x ∷ [])) (j (Named x ∷ [])) f (h.0 (Named x ∷ [])),
      λ e.
          never_any types (some_defines es x && a.0.0 (clock_in ds x)) (lookup (with_variables s ds).variables x) (i (Named x ∷ []))
          (subst (λ z. Fits types (some_defines es x && a.0.0 (clock_in ds x)) (lookup (with_variables s ds).variables x) (z && true) (i (Named x ∷ []))) f (a.0.1.1.0 x).0) e,
    )
    previous_same x v [] (j ∷ other) f q a h = absurd h
    previous_same x v (i ∷ past) [] f q a h = absurd h

    class_here : (x : List ℕ) → IsTrue (some_defines es x) → IsFalse (classes_in es second class x) → IsFalse (class (Named x ∷ []))
    class_here x h f = subst (λ b. IsFalse (if b then class (Named x ∷ []) else second x)) h f

    module _ (last : Names) (past other : Past) (quiet : Quiet last) (a : Each (BlockLoose types true fits s second class (block ds es)) past) (h : PastsAgree types (of_block T s second class (block ds es)) past other) where
      last_by : (x : List ℕ) (d : Decl) (o : Option Const) → d.name ≡ x → IsTrue (some_defines es d.name) → FirstOk types among d.ty o (classes_in es second class d.name) → Same (last_given o (last x) (λ c. previous past x (constant_of types c))) (last_given o (last x) (λ c. previous other x (constant_of types c)))
      last_by x d None e df f = (refl, quiet x)
      last_by x d (Some c) e df f = previous_same x (constant_of types c) past other (subst (λ z. IsFalse (class (Named z ∷ []))) e (class_here d.name df f.1)) (constant_quiet types c) a h

      lasts_by : (fs : List Decl) → DeclsOk types among (with_variables s ds) (classes_in es second class) es fs → (x : List ℕ) → Same (lasts_said (constant_of types) fs past last x) (lasts_said (constant_of types) fs other last x)
      lasts_by [] o x = (refl, quiet x)
      lasts_by (d ∷ fs) o x = by (bytes_eq d.name x) (λ e. last_by x d d.last (same_name d.name x e) o.0.1.0 o.0.1.1) (lasts_by fs o.1 x)
        where
          by : (b : Bool) → (IsTrue b → Same (last_given d.last (last x) (λ c. previous past x (constant_of types c))) (last_given d.last (last x) (λ c. previous other x (constant_of types c)))) → Same (lasts_said (constant_of types) fs past last x) (lasts_said (constant_of types) fs other last x)
              → Same (if b then last_given d.last (last x) (λ c. previous past x (constant_of types c)) else lasts_said (constant_of types) fs past last x) (if b then last_given d.last (last x) (λ c. previous other x (constant_of types c)) else lasts_said (constant_of types) fs other last x)
          by true f g = f refl
          by false f g = g

      pub lasts_same : lasts_said (constant_of types) ds other last ≡ lasts_said (constant_of types) ds past last
      lasts_same = fun_ext (λ x. (lasts_by ds ok.0 x).0)

      pub lasts_quiet : Quiet (lasts_said (constant_of types) ds past last)
      lasts_quiet x = (lasts_by ds ok.0 x).1
