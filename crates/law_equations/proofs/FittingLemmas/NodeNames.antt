-- The names of the variables of a node differ, and none is that of a memory or an instance.
use Rattle.std.proofs.Common.{◌≡◌, ℕ, suc, ◌+◌, ◌<◌, ◌≤◌, ◌^◌, nat_eq, Bool, true, false, ◌||◌, if◌then◌else◌, List, [], ◌∷◌, ◌++◌, length, ◌⊎◌, inl, inr, refl, sym, ap, subst, ◌∙◌, arith}
use Rattle.std.specs.List.{AllByRecursion, IsDistinct}
use Rattle.std.specs.Str.{bytes_eq}
use Rattle.std.proofs.lemmas.Slice.Eq.{bytes_eq-Decides}
use Rattle.std.proofs.lemmas.List.{append-nil, map-append}
use Rattle.hp_tree.specs.Blocks.{Decl}
use Rattle.hp_tree.specs.Meaning.{declares, names_of}
use Rattle.hp_tree.specs.Programs.{Node}
use Rattle.hp_flat.specs.declared.node.Variable.{Variable as VariableData}
use Rattle.law_equations.specs.Followed.Premises.{is_taken, letter_of, IsOwn, names}
use Rattle.law_equations.specs.Made.Making.{Known, is_in, new_name, each_once, sketch_node}
use Rattle.law_equations.proofs.MadeLemmas.LayerLaws.{Once, names-once}
use Rattle.law_equations.specs.Made.Blocks.{locals_of}
use Rattle.law_equations.specs.Fitting.Fitting.{is_made, FreeNamesLaw, IsKept, NodeNamed, signature_names, NamesLaw}
use Rattle.law_equations.proofs.FittingLemmas.Letters.{new-letter, new-number}
use Rattle.law_equations.proofs.FittingLemmas.Growth.{IsNew, AreNew}
use Rattle.law_equations.proofs.FittingLemmas.NodeGrowth.{AreOwn, NodeParts, node-parts}

-- ---- names that differ

apart_by : (x y : List ℕ) (b : Bool) → bytes_eq x y ≡ b → (x ≡ y → ⊥) → b ≡ false
apart_by x y true e h = absurd (h ((bytes_eq-Decides x y).0 e))
apart_by x y false e h = refl

differ : (x y : List ℕ) → (x ≡ y → ⊥) → bytes_eq x y ≡ false
differ x y h = apart_by x y (bytes_eq x y) refl h

-- names of two kinds differ
two_kinds : (x y : List ℕ) (b c : Bool) → is_made x ≡ b → is_made y ≡ c → (b ≡ c → ⊥) → bytes_eq x y ≡ false
two_kinds x y b c p q h = differ x y (λ e. h (sym p ∙ ap is_made e ∙ q))

is_new_made : (n : ℕ) (v : VariableData) → IsNew n v → is_made v.name ≡ true
is_new_made n v h = ap is_made h.1 ∙ ap (λ l. nat_eq l 120) (new-letter h.0 n)

-- ---- names that are kept

abbrev plain : List (List ℕ) → List (List ℕ)
plain [] = []
plain (x ∷ xs) = if is_made x then plain xs else x ∷ plain xs

plain_both : (xs ys : List (List ℕ)) → plain (xs ++ ys) ≡ plain xs ++ plain ys
plain_both [] ys = refl
plain_both (x ∷ xs) ys = by (is_made x) (plain_both xs ys)
  where
    by : (b : Bool) → plain (xs ++ ys) ≡ plain xs ++ plain ys → (if b then plain (xs ++ ys) else x ∷ plain (xs ++ ys)) ≡ (if b then plain xs else x ∷ plain xs) ++ plain ys
    by true h = h
    by false h = ap (λ more. x ∷ more) h

plain_made : (x : List ℕ) (xs : List (List ℕ)) → is_made x ≡ true → plain (x ∷ xs) ≡ plain xs
plain_made x xs h = ap (λ (b : Bool). if b then plain xs else x ∷ plain xs) h

plain_kept : (x : List ℕ) (xs : List (List ℕ)) → is_made x ≡ false → plain (x ∷ xs) ≡ x ∷ plain xs
plain_kept x xs h = ap (λ (b : Bool). if b then plain xs else x ∷ plain xs) h

-- ---- each variable has a new name with its number, or a kept one

abbrev IsNamedAt : ℕ → VariableData → Type 0
IsNamedAt n v = IsNew n v ⊎ IsKept v.name

abbrev AreNamed : ℕ → List VariableData → Type 0
AreNamed n [] = Unit {0}
AreNamed n (v ∷ vs) = IsNamedAt n v × AreNamed (n + 1) vs

named_both : (n : ℕ) (xs ys : List VariableData) → AreNamed n xs → AreNamed (n + length xs) ys → AreNamed n (xs ++ ys)
named_both n [] ys h g = let same : n + 0 ≡ n = omega arith in subst (λ m. AreNamed m ys) same g
named_both n (v ∷ xs) ys h g = let same : n + suc (length xs) ≡ n + 1 + length xs = omega arith in (h.0, named_both (n + 1) xs ys h.1 (subst (λ m. AreNamed m ys) same g))

named_new : (n : ℕ) (vs : List VariableData) → AreNew n vs → AreNamed n vs
named_new n [] h = tt
named_new n (v ∷ vs) h = (inl h.0, named_new (n + 1) vs h.1)

named_kept : (n : ℕ) (vs : List VariableData) → AllByRecursion IsKept (names vs) → AreNamed n vs
named_kept n [] h = tt
named_kept n (v ∷ vs) h = (inr h.0, named_kept (n + 1) vs h.1)

-- ---- names that differ from all of some

new_apart : (n m : ℕ) (x : List ℕ) (vs : List VariableData) → n < m → m + length vs ≤ 2 ^ 64 → AreNamed m vs → AllByRecursion (λ y. bytes_eq (new_name x n) y ≡ false) (names vs)
new_apart n m x [] h g a = tt
new_apart n m x (v ∷ vs) h g a =
    let more : m + 1 + length vs ≤ 2 ^ 64 = omega arith in
    let later : n < m + 1 = omega arith in
    (by a.0, new_apart n (m + 1) x vs later more a.1)
  where
    is_new : is_made (new_name x n) ≡ true
    is_new = ap (λ l. nat_eq l 120) (new-letter x n)

    by : IsNamedAt m v → bytes_eq (new_name x n) v.name ≡ false
    by (inl w) =
        differ (new_name x n) v.name (λ e.
        let same : n ≡ m = new-number x w.0 n m (omega arith) (omega arith) (e ∙ w.1) in
        absurd (omega arith))
    by (inr w) = two_kinds (new_name x n) v.name true false is_new w.no_variable (λ e. cc)

kept_apart : (x : List ℕ) (m : ℕ) (vs : List VariableData) → is_made x ≡ false → AreNamed m vs → AllByRecursion (λ y. bytes_eq x y ≡ false) (plain (names vs)) → AllByRecursion (λ y. bytes_eq x y ≡ false) (names vs)
kept_apart x m [] h a p = tt
kept_apart x m (v ∷ vs) h a p = by a.0 p (λ q. kept_apart x (m + 1) vs h a.1 q)
  where
    by : IsNamedAt m v → AllByRecursion (λ y. bytes_eq x y ≡ false) (plain (v.name ∷ names vs))
        → (AllByRecursion (λ y. bytes_eq x y ≡ false) (plain (names vs)) → AllByRecursion (λ y. bytes_eq x y ≡ false) (names vs)) → AllByRecursion (λ y. bytes_eq x y ≡ false) (v.name ∷ names vs)
    by (inl w) q rest = (two_kinds x v.name false true h (is_new_made m v w) (λ e. cc), rest (subst (AllByRecursion (λ y. bytes_eq x y ≡ false)) (plain_made v.name (names vs) (is_new_made m v w)) q))
    by (inr w) q rest =
        let r = subst (AllByRecursion (λ y. bytes_eq x y ≡ false)) (plain_kept v.name (names vs) w.no_variable) q in
        (r.0, rest r.1)

first_apart : (x : List ℕ) (xs : List (List ℕ)) → IsDistinct bytes_eq (x ∷ xs) → AllByRecursion (λ y. bytes_eq x y ≡ false) xs × IsDistinct bytes_eq xs
unfolding IsDistinct
first_apart x xs h = h

apart_first : (x : List ℕ) (xs : List (List ℕ)) → AllByRecursion (λ y. bytes_eq x y ≡ false) xs → IsDistinct bytes_eq xs → IsDistinct bytes_eq (x ∷ xs)
unfolding IsDistinct
apart_first x xs h g = (h, g)

none_apart : IsDistinct bytes_eq []
unfolding IsDistinct
none_apart = tt

-- where the kept names differ, all do
all_differ : (n : ℕ) (vs : List VariableData) → n + length vs ≤ 2 ^ 64 → AreNamed n vs → IsDistinct bytes_eq (plain (names vs)) → IsDistinct bytes_eq (names vs)
all_differ n [] h a d = none_apart
all_differ n (v ∷ vs) h a d = by a.0 d (λ e. all_differ (n + 1) vs more a.1 e)
  where
    more : n + 1 + length vs ≤ 2 ^ 64
    more = omega arith

    by : IsNamedAt n v → IsDistinct bytes_eq (plain (v.name ∷ names vs)) → (IsDistinct bytes_eq (plain (names vs)) → IsDistinct bytes_eq (names vs)) → IsDistinct bytes_eq (v.name ∷ names vs)
    by (inl w) e rest =
        apart_first v.name (names vs) (subst (λ x. AllByRecursion (λ y. bytes_eq x y ≡ false) (names vs)) (sym w.1) (new_apart n (n + 1) w.0 vs (omega arith) more a.1))
        (rest (subst (IsDistinct bytes_eq) (plain_made v.name (names vs) (is_new_made n v w)) e))
    by (inr w) e rest =
        let f = first_apart v.name (plain (names vs)) (subst (IsDistinct bytes_eq) (plain_kept v.name (names vs) w.no_variable) e) in
        apart_first v.name (names vs) (kept_apart v.name (n + 1) vs w.no_variable a.1 f.0) (rest f.1)

-- none is a new name with a number that is no variable's
new_free : (stem : List ℕ) (j n : ℕ) (vs : List VariableData) → n + length vs ≤ j → j < 2 ^ 64 → AreNamed n vs → AllByRecursion (λ x. x ≡ new_name stem j → ⊥) (names vs)
new_free stem j n [] h g a = tt
new_free stem j n (v ∷ vs) h g a = (by a.0, new_free stem j (n + 1) vs (omega (arith, h)) g a.1)
  where
    is_new : is_made (new_name stem j) ≡ true
    is_new = ap (λ l. nat_eq l 120) (new-letter stem j)

    by : IsNamedAt n v → v.name ≡ new_name stem j → ⊥
    by (inl w) e =
        let same : n ≡ j = new-number w.0 stem n j (omega (arith, h, g)) g (sym w.1 ∙ e) in
        omega (arith, h, same)
    by (inr w) e =
        let made : is_made v.name ≡ true = ap is_made e ∙ is_new in
        let kept : is_made v.name ≡ false = w.no_variable in
        cc

-- all are own names
all_own : (n : ℕ) (vs : List VariableData) → AreNamed n vs → AllByRecursion IsOwn (names vs)
all_own n [] a = tt
all_own n (v ∷ vs) a = (by a.0, all_own (n + 1) vs a.1)
  where
    by : IsNamedAt n v → IsOwn v.name
    by (inl w) = ap (λ x. is_taken (letter_of x)) w.1 ∙ ap is_taken (new-letter w.0 n)
    by (inr w) = w.own

-- ---- two lists of names

both_apart : (x : List ℕ) (xs ys : List (List ℕ)) → AllByRecursion (λ y. bytes_eq x y ≡ false) xs → AllByRecursion (λ y. bytes_eq x y ≡ false) ys → AllByRecursion (λ y. bytes_eq x y ≡ false) (xs ++ ys)
both_apart x [] ys h g = g
both_apart x (z ∷ xs) ys h g = (h.0, both_apart x xs ys h.1 g)

heads_apart : (x : List ℕ) (xs ys : List (List ℕ)) → AllByRecursion (λ y. AllByRecursion (λ z. bytes_eq z y ≡ false) (x ∷ xs)) ys → AllByRecursion (λ y. bytes_eq x y ≡ false) ys
heads_apart x xs [] h = tt
heads_apart x xs (y ∷ ys) h = (h.0.0, heads_apart x xs ys h.1)

tails_apart : (x : List ℕ) (xs ys : List (List ℕ)) → AllByRecursion (λ y. AllByRecursion (λ z. bytes_eq z y ≡ false) (x ∷ xs)) ys → AllByRecursion (λ y. AllByRecursion (λ z. bytes_eq z y ≡ false) xs) ys
tails_apart x xs [] h = tt
tails_apart x xs (y ∷ ys) h = (h.0.1, tails_apart x xs ys h.1)

two_differ : (xs ys : List (List ℕ)) → IsDistinct bytes_eq xs → IsDistinct bytes_eq ys → AllByRecursion (λ y. AllByRecursion (λ x. bytes_eq x y ≡ false) xs) ys → IsDistinct bytes_eq (xs ++ ys)
two_differ [] ys d e h = e
two_differ (x ∷ xs) ys d e h =
    let f = first_apart x xs d in
    apart_first x (xs ++ ys) (both_apart x xs ys f.0 (heads_apart x xs ys h)) (two_differ xs ys f.1 e (tails_apart x xs ys h))

-- ---- new names are none that are kept, and all of a signature are

plain_new : (n : ℕ) (vs : List VariableData) → AreNew n vs → plain (names vs) ≡ []
plain_new n [] h = refl
plain_new n (v ∷ vs) h = plain_made v.name (names vs) (is_new_made n v h.0) ∙ plain_new (n + 1) vs h.1

plain_all : (xs : List (List ℕ)) → AllByRecursion IsKept xs → plain xs ≡ xs
plain_all [] h = refl
plain_all (x ∷ xs) h = let own = h.0 in plain_kept x xs own.no_variable ∙ ap (λ more. x ∷ more) (plain_all xs h.1)

-- ---- the own names of a body

kept_by : (x y : List ℕ) (d r : Bool) → bytes_eq y x ≡ d → IsKept y → (r ≡ true → IsKept x) → (d || r) ≡ true → IsKept x
kept_by x y true r e k h t = subst IsKept ((bytes_eq-Decides y x).0 e) k
kept_by x y false r e k h t = h t

-- what is declared is kept
declared_kept : (ds : List Decl) (x : List ℕ) → AllByRecursion IsKept (names_of ds) → declares ds x ≡ true → IsKept x
declared_kept [] x k h = absurd cc
declared_kept (d ∷ ds) x k h = kept_by x d.name (bytes_eq d.name x) (declares ds x) refl k.0 (declared_kept ds x k.1) h

or_true : (a b : Bool) → b ≡ true → (a || b) ≡ true
or_true true b h = refl
or_true false b h = h

-- a name that is declared, and one of some
abbrev IsOwned : List Decl → List (List ℕ) → List ℕ → Type 0
IsOwned ds xs y = (is_in xs y ≡ true) × (declares ds y ≡ true)

owned_more : (ds : List Decl) (x : List ℕ) (xs ys : List (List ℕ)) → AllByRecursion (IsOwned ds xs) ys → AllByRecursion (IsOwned ds (x ∷ xs)) ys
owned_more ds x xs [] h = tt
owned_more ds x xs (y ∷ ys) h = ((or_true (bytes_eq x y) (is_in xs y) h.0.0, h.0.1), owned_more ds x xs ys h.1)

not_among : (ds : List Decl) (x : List ℕ) (xs ys : List (List ℕ)) → is_in xs x ≡ false → AllByRecursion (IsOwned ds xs) ys → AllByRecursion (λ y. bytes_eq x y ≡ false) ys
not_among ds x xs [] h a = tt
not_among ds x xs (y ∷ ys) h a = (differ x y (λ e. let there : is_in xs x ≡ true = ap (is_in xs) e ∙ a.0.0 in cc), not_among ds x xs ys h a.1)

module _ (ds : List Decl) (kept : AllByRecursion IsKept (names_of ds)) where
  named_own : (xs : List (List ℕ)) (n : ℕ) (vs : List VariableData) → AreOwn ds xs n vs → AreNamed n vs
  named_own [] n [] h = tt
  named_own [] n (v ∷ vs) h = absurd h
  named_own (x ∷ xs) n [] h = tt
  named_own (x ∷ xs) n (v ∷ vs) (inl h) = named_own xs n (v ∷ vs) h
  named_own (x ∷ xs) n (v ∷ vs) (inr h) = (by h.0, named_own xs (n + 1) vs h.1)
    where
      by : IsNew n v ⊎ ((v.name ≡ x) × (declares ds x ≡ true)) → IsNamedAt n v
      by (inl w) = inl w
      by (inr w) = inr (subst IsKept (sym w.0) (declared_kept ds x kept w.1))

  -- the kept names of a body differ, and each is one that is declared
  pub record OwnNames (xs ys : List (List ℕ)) : Type 0 where
    pub differ : IsDistinct bytes_eq ys
    pub each : AllByRecursion (IsOwned ds xs) ys

  own_none : (xs : List (List ℕ)) → OwnNames xs []
  own_none xs = record { differ = none_apart; each = tt }

  own_more : (x : List ℕ) (xs ys : List (List ℕ)) → OwnNames xs ys → OwnNames (x ∷ xs) ys
  own_more x xs ys h = record { differ = h.differ; each = owned_more ds x xs ys h.each }

  is_itself : (x : List ℕ) → bytes_eq x x ≡ true
  is_itself x = (bytes_eq-Decides x x).1 refl

  own_first : (x : List ℕ) (xs ys : List (List ℕ)) → is_in xs x ≡ false → declares ds x ≡ true → OwnNames xs ys → OwnNames (x ∷ xs) (x ∷ ys)
  own_first x xs ys away d h = record {
    differ = apart_first x ys (not_among ds x xs ys away h.each) h.differ;
    each = ((ap (λ (b : Bool). b || is_in xs x) (is_itself x), d), owned_more ds x xs ys h.each);
  }

  own_names : (xs : List (List ℕ)) (n : ℕ) (vs : List VariableData) → Once xs → AreOwn ds xs n vs → OwnNames xs (plain (names vs))
  own_names [] n [] o h = own_none []
  own_names [] n (v ∷ vs) o h = absurd h
  own_names (x ∷ xs) n [] o h = own_none (x ∷ xs)
  own_names (x ∷ xs) n (v ∷ vs) o (inl h) = own_more x xs (plain (names (v ∷ vs))) (own_names xs n (v ∷ vs) o.1 h)
  own_names (x ∷ xs) n (v ∷ vs) o (inr h) = by h.0 (own_names xs (n + 1) vs o.1 h.1)
    where
      by : IsNew n v ⊎ ((v.name ≡ x) × (declares ds x ≡ true)) → OwnNames xs (plain (names vs)) → OwnNames (x ∷ xs) (plain (v.name ∷ names vs))
      by (inl w) g = subst (OwnNames (x ∷ xs)) (sym (plain_made v.name (names vs) (is_new_made n v w))) (own_more x xs (plain (names vs)) g)
      by (inr w) g =
          let k = declared_kept ds x kept w.1 in
          let is : plain (v.name ∷ names vs) ≡ x ∷ plain (names vs) = ap (λ y. plain (y ∷ names vs)) w.0 ∙ plain_kept x (names vs) k.no_variable in
          subst (OwnNames (x ∷ xs)) (sym is) (own_first x xs (plain (names vs)) o.0 w.1 g)

-- ---- the node

crossed : (ds : List Decl) (xs ys zs : List (List ℕ)) → ((x : List ℕ) → declares ds x ≡ true → AllByRecursion (λ y. bytes_eq y x ≡ false) zs) → AllByRecursion (IsOwned ds xs) ys → AllByRecursion (λ y. AllByRecursion (λ z. bytes_eq z y ≡ false) zs) ys
crossed ds xs [] zs h a = tt
crossed ds xs (y ∷ ys) zs h a = (h y a.0.1, crossed ds xs ys zs h a.1)

-- each variable of a node has a new name with its number, or a kept one
parts_named : (k : Known) (n : Node) → NodeNamed n → (p : NodeParts n (sketch_node k n)) → AreNamed 0 (p.first ++ (p.lasts ++ (p.owns ++ p.rest)))
parts_named k n named p =
    let ds = locals_of n.body in
    let xs = each_once [] p.names in
    let kept : AllByRecursion IsKept (names p.first) = subst (AllByRecursion IsKept) (sym p.signed) named.signature in
    let behind : AreNamed (length p.first) (p.lasts ++ (p.owns ++ p.rest)) =
    named_both (length p.first) p.lasts (p.owns ++ p.rest) (named_new (length p.first) p.lasts p.are_lasts)
    (named_both (length p.first + length p.lasts) p.owns p.rest (named_own ds named.locals xs (length p.first + length p.lasts) p.owns p.are_owns) (named_new (length p.first + length p.lasts + length p.owns) p.rest p.are_rest)) in
    named_both 0 p.first (p.lasts ++ (p.owns ++ p.rest)) (named_kept 0 p.first kept) (let same : length p.first ≡ 0 + length p.first = omega arith in subst (λ m. AreNamed m (p.lasts ++ (p.owns ++ p.rest))) same behind)

pub names-law : NamesLaw
names-law k n named few =
    let p = node-parts k n in
    let ds = locals_of n.body in
    let xs = each_once [] p.names in
    let kept : AllByRecursion IsKept (names p.first) = subst (AllByRecursion IsKept) (sym p.signed) named.signature in
    let all = parts_named k n named p in
    let o = own_names ds named.locals xs (length p.first + length p.lasts) p.owns (names-once p.names) p.are_owns in
    let rest_plain : plain (names (p.lasts ++ (p.owns ++ p.rest))) ≡ plain (names p.owns) =
    ap plain (split p.lasts (p.owns ++ p.rest)) ∙ plain_both (names p.lasts) (names (p.owns ++ p.rest))
    ∙ ap (λ ys. ys ++ plain (names (p.owns ++ p.rest))) (plain_new (length p.first) p.lasts p.are_lasts)
    ∙ ap plain (split p.owns p.rest) ∙ plain_both (names p.owns) (names p.rest)
    ∙ ap (λ ys. plain (names p.owns) ++ ys) (plain_new (length p.first + length p.lasts + length p.owns) p.rest p.are_rest) ∙ append-nil (plain (names p.owns)) in
    let kept_names : plain (names (p.first ++ (p.lasts ++ (p.owns ++ p.rest)))) ≡ signature_names n ++ plain (names p.owns) =
    ap plain (split p.first (p.lasts ++ (p.owns ++ p.rest))) ∙ plain_both (names p.first) (names (p.lasts ++ (p.owns ++ p.rest)))
    ∙ (λ j. (plain_all (names p.first) kept ∙ p.signed) j ++ rest_plain j) in
    let count : 0 + length (p.first ++ (p.lasts ++ (p.owns ++ p.rest))) ≤ 2 ^ 64 = let long : length (sketch_node k n).variables ≡ length (p.first ++ (p.lasts ++ (p.owns ++ p.rest))) = ap length p.variables in omega arith in (
      subst (λ (vs : List VariableData). IsDistinct bytes_eq (names vs)) (sym p.variables)
          (all_differ 0 (p.first ++ (p.lasts ++ (p.owns ++ p.rest))) count all
          (subst (IsDistinct bytes_eq) (sym kept_names) (two_differ (signature_names n) (plain (names p.owns)) named.differ o.differ (crossed ds xs (plain (names p.owns)) (signature_names n) named.apart o.each)))),
      subst (λ (vs : List VariableData). AllByRecursion IsOwn (names vs)) (sym p.variables) (all_own 0 (p.first ++ (p.lasts ++ (p.owns ++ p.rest))) all),
    )
  where
    split : (vs ws : List VariableData) → names (vs ++ ws) ≡ names vs ++ names ws
    split vs ws = map-append (λ (v : VariableData). v.name) vs ws

pub free-law : FreeNamesLaw
free-law k n named stem j above below =
    let p = node-parts k n in
    let all = p.first ++ (p.lasts ++ (p.owns ++ p.rest)) in
    let long : length (sketch_node k n).variables ≡ length all = ap length p.variables in
    subst (λ (vs : List VariableData). AllByRecursion (λ x. x ≡ new_name stem j → ⊥) (names vs)) (sym p.variables) (new_free stem j 0 all (omega (arith, above, long)) below (parts_named k n named p))
