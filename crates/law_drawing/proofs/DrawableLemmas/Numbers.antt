-- In a program whose names are well used constructors have the numbers of their values, and are of their types.
use Rattle.std.proofs.Common.{◌≡◌, ℕ, zero, suc, ◌+◌, List, [], ◌∷◌, refl, sym, ap, subst, ◌∙◌, arith}
use Rattle.std.specs.Prelude.{Bool, true, false, if◌then◌else◌, Option, None, Some, Contains}
use Rattle.std.specs.Str.{bytes_eq}
use Rattle.hp_base.specs.declared.ty.Ty.TheVariants as ty
use Rattle.hp_base.specs.declared.value.Value.{Value}
use Rattle.hp_base.specs.declared.value.Value.TheVariants.{E}
use Rattle.hp_tree.specs.declared.program.Item.{Item}
use Rattle.hp_tree.specs.declared.program.Item.TheVariants.{TypeItem, NodeItem}
use Rattle.hp_tree.specs.Programs.{TypeDecl}
use Rattle.hp_tree.specs.ExpressionTypes.{some_place}
use Rattle.hp_tree.specs.Operators.{place_in, or_later, constructor_from}
use Rattle.hp_tree.specs.Meaning.{types_of}
use Rattle.hp_tree.specs.Values.{constructors_of, IsOf}
use Rattle.law_judged.proofs.NamedLemmas.Sets.{name_same}
use Rattle.law_judged.specs.Typed.Scopes.{Scope}
use Rattle.hp_meaning.specs.Contract.Memory.{number_in}
use Rattle.law_games.proofs.ReadyGamesLemmas.Constructors.{HaveOwn, there, had}
use Rattle.hp_drawing.specs.declared.parts.Constructor.{Constructor}
use Rattle.hp_drawing.specs.Told as told
use Rattle.hp_drawing.specs.Told.{constructor_number, or_none, with_constructors, told_of}
use Rattle.law_drawing.specs.Carrying.Typing.{AreNumbered}
use Rattle.law_drawing.proofs.DrawableLemmas.Members.{Owned}

-- ---- the numbers that are told

row_number : (cs : List (List ℕ)) (count k n : ℕ) (others : List ℕ → Option Constructor) (v : Value) (c : List ℕ) → number_in v ≡ constructor_number (others c)
    → number_in (or_later n (place_in k cs c) v) ≡ constructor_number (with_constructors count k cs others c)
row_number [] count k n others v c h = h
row_number (d ∷ cs) count k n others v c h = by (bytes_eq d c) (row_number cs count (suc k) n others v c h)
  where
    by : (b : Bool) → number_in (or_later n (place_in (suc k) cs c) v) ≡ constructor_number (with_constructors count (suc k) cs others c)
        → number_in (or_later n (if b then Some k else place_in (suc k) cs c) v) ≡ constructor_number (if b then Some (record { number = k; count = count }) else with_constructors count (k + 1) cs others c)
    by true e = refl
    by false e = e ∙ ap (λ i. constructor_number (with_constructors count i cs others c)) (omega arith)

numbers_from : (counts : List ℕ → Option ℕ) (items : List Item) (n : ℕ) (c : List ℕ) → number_in (constructor_from n (types_of items) c) ≡ constructor_number (told.constructors_of counts items c)
numbers_from counts [] n c = refl
numbers_from counts (TypeItem d ∷ items) n c =
    row_number d.cons (or_none (counts d.name)) 0 n (told.constructors_of counts items) (constructor_from (suc n) (types_of items) c) c (numbers_from counts items (suc n) c)
numbers_from counts (NodeItem m ∷ items) n c = numbers_from counts items n c

-- ---- values of constructors

found : (k : ℕ) (cs : List (List ℕ)) (c : List ℕ) → Contains cs c → (j : ℕ) × (place_in k cs c ≡ Some j)
found k [] c h = let l = h.1 in absurd (omega (arith, l))
found k (d ∷ cs) c (zero, l, e) = (k, ap (λ (b : Bool). if b then Some k else place_in (suc k) cs c) (name_same d c e))
found k (d ∷ cs) c (suc i, l, e) = by (bytes_eq d c) (found (suc k) cs c (i, omega (arith, l), e))
  where
    by : (b : Bool) → (j : ℕ) × (place_in (suc k) cs c ≡ Some j) → (j : ℕ) × ((if b then Some k else place_in (suc k) cs c) ≡ Some j)
    by true f = (k, refl)
    by false f = f

value_of : (n : ℕ) (ds : List TypeDecl) (x c : List ℕ) → Contains (constructors_of ds x) c → (u : ℕ) × ((k : ℕ) × (constructor_from n ds c ≡ E u k))
value_of n [] x c h = let l = h.1 in absurd (omega (arith, l))
value_of n (d ∷ ds) x c h = by (place_in 0 d.cons c) refl (bytes_eq d.name x) h (λ k. value_of (suc n) ds x c k)
  where
    none : (b : Bool) → place_in 0 d.cons c ≡ None → Contains (if b then d.cons else constructors_of ds x) c → (Contains (constructors_of ds x) c → (u : ℕ) × ((k : ℕ) × (constructor_from (suc n) ds c ≡ E u k))) → (u : ℕ) × ((k : ℕ) × (constructor_from (suc n) ds c ≡ E u k))
    none true e h f = let q = found 0 d.cons c h in absurd (let r = sym q.1 ∙ e in cc)
    none false e h f = f h

    by : (o : Option ℕ) → place_in 0 d.cons c ≡ o → (b : Bool) → Contains (if b then d.cons else constructors_of ds x) c → (Contains (constructors_of ds x) c → (u : ℕ) × ((k : ℕ) × (constructor_from (suc n) ds c ≡ E u k)))
        → (u : ℕ) × ((k : ℕ) × (or_later n (place_in 0 d.cons c) (constructor_from (suc n) ds c) ≡ E u k))
    by (Some j) e b h f = (n, (j, ap (λ o. or_later n o (constructor_from (suc n) ds c)) e))
    by None e b h f = let q = none b e h f in (q.0, (q.1.0, ap (λ o. or_later n o (constructor_from (suc n) ds c)) e ∙ q.1.1))

-- ---- the number of a type

abbrev home : ℕ → List TypeDecl → List ℕ → ℕ
home n [] x = n
home n (d ∷ ds) x = if bytes_eq d.name x then n else home (suc n) ds x

at_home : (n : ℕ) (ds : List TypeDecl) → HaveOwn ds → (x c : List ℕ) → Contains (constructors_of ds x) c → (u k : ℕ) → constructor_from n ds c ≡ E u k → u ≡ home n ds x
at_home n [] o x c h u k e = let l = h.1 in absurd (omega (arith, l))
at_home n (d ∷ ds) o x c h u k e = by (bytes_eq d.name x) h (place_in 0 d.cons c) refl e (λ q. at_home (suc n) ds o.1 x c q u k)
  where
    here : (j : ℕ) → E n j ≡ E u k → u ≡ n
    here j q = cc

    none : place_in 0 d.cons c ≡ None → Contains d.cons c → ⊥
    none q l = let f = found 0 d.cons c l in absurd (let r = sym f.1 ∙ q in cc)

    by : (b : Bool) → Contains (if b then d.cons else constructors_of ds x) c → (p : Option ℕ) → place_in 0 d.cons c ≡ p → or_later n p (constructor_from (suc n) ds c) ≡ E u k
        → (Contains (constructors_of ds x) c → constructor_from (suc n) ds c ≡ E u k → u ≡ home (suc n) ds x) → u ≡ (if b then n else home (suc n) ds x)
    by true l (Some j) q r f = here j r
    by true l None q r f = absurd (none q l)
    by false l (Some j) q r f = absurd (had ds x c l (o.0 c (there 0 d.cons c (ap some_place q))))
    by false l None q r f = f l r

-- So constructors are numbered, where the scope knows those of the program.
pub numbered : (items : List Item) (s : Scope) → HaveOwn (types_of items) → Owned (types_of items) s → AreNumbered (types_of items) (told_of items) s
numbered items s own owned =
    let types = types_of items in
    record {
      numbers = λ c. numbers_from (told.counts_of items) items 0 c;
      of_type = λ c x l.
          let h = owned c x l in
          let v = value_of 0 types x c h in
          subst (λ w. IsOf types (ty.Enum x) w) (sym v.1.1) (c, h, sym v.1.1);
      one_type = λ x u j v k g h. at_home 0 types own x g.0 g.1 u j (sym g.2) ∙ sym (at_home 0 types own x h.0 h.1 v k (sym h.2));
    }
