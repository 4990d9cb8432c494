-- What names stand for in a block.
use Rattle.std.proofs.Common.{◌≡◌, ◌⊎◌, inl, inr, ℕ, suc, ◌+◌, ◌<◌, ◌≤◌, Bool, true, false, ◌||◌, ◌&&◌, not, if◌then◌else◌, List, [], ◌∷◌, ◌++◌, length, Option, Some, refl, sym, ap, ap₂, subst, ◌∙◌, arith}
use Rattle.std.specs.Prelude.{⊤}
use Rattle.std.specs.Str.{bytes_eq}
use Rattle.std.proofs.lemmas.Slice.Eq.{bytes_eq-Decides}
use Rattle.std.specs.List.{AllByRecursion}
use Rattle.hp_tree.specs.Blocks.{Decl, Block, block, Eqns, no_eqn, more_eqns, Eqn, define, switch, reset, automaton, Arms, no_arm, more_arms}
use Rattle.hp_tree.specs.Instant.{Named}
use Rattle.hp_tree.specs.Meaning.{declares, is_among, defines, some_defines, arms_define, block_defines}
use Rattle.hp_base.specs.declared.span.Span.{Span}
use Rattle.hp_flat.specs.declared.node.FlatTy.{FlatTy}
use Rattle.law_equations.specs.Flattened.Flatten.{FlatName, At, Prefix}
use Rattle.law_equations.specs.Made.Keeping.{IsKept}
use Rattle.law_equations.specs.Made.Making.{Sketch, Sight, Layer, Standing, Body, Inner, Seen, next, with_variable, new_variable, put, or_entry, over, own_variable, keeps_name, with_own, own_name, own_names, left_names, undeclared, names_of_eqns, names_of_eqn, names_of_arms, names_of_block, is_in, each_once}
use Rattle.law_equations.specs.Made.Blocks.{IsPlain, ArePlain, OnePlain, ArmsPlain}
use Rattle.law_equations.specs.Made.Sights.{Entry}
use Rattle.law_equations.specs.Made.Standing.{Agrees}
use Rattle.law_equations.proofs.MadeLemmas.StepLaws.{length_more, split_at}

pub same_name : (x y : List ℕ) → bytes_eq x y ≡ true → x ≡ y
same_name x y = (bytes_eq-Decides x y).0

pub is_same : (x : List ℕ) → bytes_eq x x ≡ true
is_same x = (bytes_eq-Decides x x).1 refl

-- ---- the names that equations define

or_moved : (a b c : Bool) → (a || (b || c)) ≡ ((a || b) || c)
or_moved true b c = refl
or_moved false b c = refl

in_both : (x : List ℕ) (xs ys : List (List ℕ)) → is_in (xs ++ ys) x ≡ (is_in xs x || is_in ys x)
in_both x [] ys = refl
in_both x (z ∷ xs) ys = ap (λ b. bytes_eq z x || b) (in_both x xs ys) ∙ or_moved (bytes_eq z x) (is_in xs x) (is_in ys x)

in_left : (ys : List (List ℕ × Span)) (x : List ℕ) → is_in (left_names ys) x ≡ is_among ys x
in_left [] x = refl
in_left (y ∷ ys) x = ap (λ b. bytes_eq y.0 x || b) (in_left ys x)

and_false : (a : Bool) → (a && false) ≡ false
and_false true = refl
and_false false = refl

in_undeclared : (ds : List Decl) (xs : List (List ℕ)) (x : List ℕ) → is_in (undeclared ds xs) x ≡ (is_in xs x && not (declares ds x))
in_undeclared ds [] x = refl
in_undeclared ds (y ∷ xs) x = by (declares ds y) refl (in_undeclared ds xs x)
  where
    merged : (b c m : Bool) → (b ≡ true → m ≡ false) → (b || (c && not m)) ≡ ((b || c) && not m)
    merged true c m h = ap not (sym (h refl))
    merged false c m h = refl

    dropped : (b c m : Bool) → (b ≡ true → m ≡ true) → (c && not m) ≡ ((b || c) && not m)
    dropped true c m h = ap (λ m. c && not m) (h refl) ∙ and_false c ∙ sym (ap not (h refl))
    dropped false c m h = refl

    by : (d : Bool) → declares ds y ≡ d → is_in (undeclared ds xs) x ≡ (is_in xs x && not (declares ds x)) → is_in (if d then undeclared ds xs else y ∷ undeclared ds xs) x ≡ ((bytes_eq y x || is_in xs x) && not (declares ds x))
    by true e ih = ih ∙ dropped (bytes_eq y x) (is_in xs x) (declares ds x) (λ q. ap (declares ds) (sym (same_name y x q)) ∙ e)
    by false e ih = ap (λ b. bytes_eq y x || b) ih ∙ merged (bytes_eq y x) (is_in xs x) (declares ds x) (λ q. ap (declares ds) (sym (same_name y x q)) ∙ e)

mutual
  pub in-eqns : (es : Eqns) → ArePlain es → (x : List ℕ) → is_in (names_of_eqns es) x ≡ some_defines es x
  in-eqns no_eqn p x = refl
  in-eqns (more_eqns e es) p x = in_both x (names_of_eqn e) (names_of_eqns es) ∙ ap₂ (λ a b. a || b) (in-eqn e p.1.0 x) (in-eqns es p.1.1 x)

  pub in-eqn : (e : Eqn) → OnePlain e → (x : List ℕ) → is_in (names_of_eqn e) x ≡ defines e x
  in-eqn (define s ys e) p x = in_left ys x
  in-eqn (switch s e arms) p x = in-arms arms p x
  in-eqn (reset s b e) p x = in-block b p x
  in-eqn (automaton s ss) p x = absurd p

  pub in-arms : (arms : Arms) → ArmsPlain arms → (x : List ℕ) → is_in (names_of_arms arms) x ≡ arms_define arms x
  in-arms no_arm p x = refl
  in-arms (more_arms c b s arms) p x = in_both x (names_of_block b) (names_of_arms arms) ∙ ap₂ (λ a b. a || b) (in-block b p.0 x) (in-arms arms p.1 x)

  pub in-block : (b : Block) → IsPlain b → (x : List ℕ) → is_in (names_of_block b) x ≡ block_defines b x
  in-block (block ds es) p x = in_undeclared ds (names_of_eqns es) x ∙ ap (λ d. d && not (declares ds x)) (in-eqns es p.2 x)

-- each of them once
abbrev pub Once : List (List ℕ) → Type 0
Once [] = ⊤
Once (x ∷ xs) = (is_in xs x ≡ false) × Once xs

once_in : (seen xs : List (List ℕ)) (x : List ℕ) → is_in (each_once seen xs) x ≡ (is_in xs x && not (is_in seen x))
once_in seen [] x = refl
once_in seen (y ∷ xs) x = by (is_in seen y) refl (once_in seen xs x) (once_in (y ∷ seen) xs x)
  where
    gone : (b c m : Bool) → (b ≡ true → m ≡ true) → (c && not m) ≡ ((b || c) && not m)
    gone true c m h = ap (λ m. c && not m) (h refl) ∙ and_false c ∙ sym (ap not (h refl))
    gone false c m h = refl

    kept : (b c m : Bool) → (b ≡ true → m ≡ false) → (b || (c && not (b || m))) ≡ ((b || c) && not m)
    kept true c m h = ap not (sym (h refl))
    kept false c m h = refl

    by : (d : Bool) → is_in seen y ≡ d → is_in (each_once seen xs) x ≡ (is_in xs x && not (is_in seen x)) → is_in (each_once (y ∷ seen) xs) x ≡ (is_in xs x && not (bytes_eq y x || is_in seen x))
        → is_in (if d then each_once seen xs else y ∷ each_once (y ∷ seen) xs) x ≡ ((bytes_eq y x || is_in xs x) && not (is_in seen x))
    by true e ih _ = ih ∙ gone (bytes_eq y x) (is_in xs x) (is_in seen x) (λ q. ap (is_in seen) (sym (same_name y x q)) ∙ e)
    by false e _ ih = ap (λ b. bytes_eq y x || b) ih ∙ kept (bytes_eq y x) (is_in xs x) (is_in seen x) (λ q. ap (is_in seen) (sym (same_name y x q)) ∙ e)

and_true_right : (a : Bool) → (a && true) ≡ a
and_true_right true = refl
and_true_right false = refl

pub once-in : (xs : List (List ℕ)) (x : List ℕ) → is_in (each_once [] xs) x ≡ is_in xs x
once-in xs x = once_in [] xs x ∙ and_true_right (is_in xs x)

is_once : (seen xs : List (List ℕ)) → Once (each_once seen xs)
is_once seen [] = tt
is_once seen (y ∷ xs) = by (is_in seen y) (is_once seen xs) (is_once (y ∷ seen) xs)
  where
    not_in : is_in (each_once (y ∷ seen) xs) y ≡ false
    not_in = once_in (y ∷ seen) xs y ∙ ap (λ b. is_in xs y && not (b || is_in seen y)) (is_same y) ∙ and_false (is_in xs y)

    by : (d : Bool) → Once (each_once seen xs) → Once (each_once (y ∷ seen) xs) → Once (if d then each_once seen xs else y ∷ each_once (y ∷ seen) xs)
    by true o p = o
    by false o p = (not_in, p)

pub names-once : (xs : List (List ℕ)) → Once (each_once [] xs)
names-once xs = is_once [] xs

-- ---- the variables of a block's own names

-- A name has a variable of its own: in a block of a control equation each that it defines, in the body of a node those that are no outputs.
abbrev pub is_owned : Standing → List Decl → List ℕ → Bool
is_owned Body ds x = declares ds x
is_owned Inner ds x = true

abbrev pub owned : Standing → List Decl → List (List ℕ) → List (List ℕ)
owned standing ds [] = []
owned standing ds (x ∷ xs) = if is_owned standing ds x then x ∷ owned standing ds xs else owned standing ds xs

-- the flat names of the variables
abbrev pub flats : Prefix → List (List ℕ) → List FlatName
flats here [] = []
flats here (x ∷ xs) = At (here (Named x ∷ [])) ∷ flats here xs

pub flats_length : (here : Prefix) (xs : List (List ℕ)) → length (flats here xs) ≡ length xs
flats_length here [] = refl
flats_length here (x ∷ xs) = ap suc (flats_length here xs)

pub flats_kept : (K : FlatName → Type 0) (here : Prefix) (xs : List (List ℕ)) → AllByRecursion (IsKept K) (flats here xs)
flats_kept K here [] = tt
flats_kept K here (x ∷ xs) = (tt, flats_kept K here xs)

-- one of them
pub record OneOwned (ds : List Decl) (here : Prefix) (own : List (List ℕ)) (n : ℕ) (x : List ℕ) (last : Option ℕ) (o : Option Entry) : Type 0 where
  pub entry : Entry
  pub is : o ≡ Some entry
  pub local : entry.is_local ≡ declares ds x
  pub last_is : entry.last ≡ last
  pub variable : ℕ
  pub value : entry.value ≡ Some variable
  pub above : n ≤ variable
  pub below : variable < n + length own
  pub stands : (means : ℕ → FlatName) → Agrees means n (flats here own) → means variable ≡ At (here (Named x ∷ []))

-- all of them: nothing else is made, other names stand for what they stood for, and each new variable is one of them
pub record OwnMade (standing : Standing) (ds : List Decl) (out : Sight) (here : Prefix) (names kept : List (List ℕ)) (s r : Seen) : Type 0 where
  pub eqns : r.1.eqns ≡ s.1.eqns
  pub flag : r.1.flag ≡ s.1.flag
  pub grown : next r.1 ≡ next s.1 + length kept
  pub own : (x : List ℕ) → is_in names x ≡ true → is_owned standing ds x ≡ true → OneOwned ds here kept (next s.1) x (over s.0 out x).last (r.0 x)
  pub others : (x : List ℕ) → (is_in names x && is_owned standing ds x) ≡ false → r.0 x ≡ s.0 x
  pub each : (y : ℕ) → next s.1 ≤ y → y < next r.1 → (x : List ℕ) × (is_in names x ≡ true) × (is_owned standing ds x ≡ true) × ((over r.0 out x).value ≡ Some y)

-- a variable of a name's own
appended : (standing : Standing) (ds : List Decl) (x : List ℕ) (t : FlatTy) (d : Sketch)
    → (next (own_variable standing ds x t d).0 ≡ next d + 1) × ((own_variable standing ds x t d).0.eqns ≡ d.eqns) × ((own_variable standing ds x t d).0.flag ≡ d.flag) × ((own_variable standing ds x t d).1 ≡ next d)
appended Inner ds x t d = (length_more d.variables _, refl, refl, refl)
appended Body ds x t d = by (keeps_name ds x)
  where
    by : (b : Bool) → (next (if b then (with_variable x t d, next d) else new_variable x t d).0 ≡ next d + 1) × ((if b then (with_variable x t d, next d) else new_variable x t d).0.eqns ≡ d.eqns)
        × ((if b then (with_variable x t d, next d) else new_variable x t d).0.flag ≡ d.flag) × ((if b then (with_variable x t d, next d) else new_variable x t d).1 ≡ next d)
    by true = (length_more d.variables _, refl, refl, refl)
    by false = (length_more d.variables _, refl, refl, refl)

-- with the variable of a name
abbrev put_own : Standing → List Decl → Sight → List ℕ → Seen → Seen
put_own standing ds out x s = with_own ds x (over s.0 out x) s.0 (own_variable standing ds x (over s.0 out x).ty s.1)

own_name_is : (standing : Standing) (ds : List Decl) (out : Sight) (x : List ℕ) (s : Seen) → own_name standing ds out x s ≡ (if is_owned standing ds x then put_own standing ds out x s else s)
own_name_is Body ds out x s = refl
own_name_is Inner ds out x s = refl

put_same : (x : List ℕ) (e : Entry) (layer : Layer) → put x e layer x ≡ Some e
put_same x e layer = ap (λ b. if b then Some e else layer x) (is_same x)

put_other : (x z : List ℕ) (e : Entry) (layer : Layer) → bytes_eq x z ≡ false → put x e layer z ≡ layer z
put_other x z e layer h = ap (λ b. if b then Some e else layer z) h

not_among : (xs : List (List ℕ)) (x z : List ℕ) → is_in xs x ≡ false → is_in xs z ≡ true → bytes_eq x z ≡ false
not_among xs x z n m = by (bytes_eq x z) refl
  where
    by : (d : Bool) → bytes_eq x z ≡ d → d ≡ false
    by false e = refl
    by true e = let s : x ≡ z = same_name x z e in let no : true ≡ false = sym m ∙ ap (is_in xs) (sym s) ∙ n in absurd cc

module _ (standing : Standing) (ds : List Decl) (out : Sight) (here : Prefix) (x : List ℕ) (xs own : List (List ℕ)) (s r : Seen) where
  skipped : is_owned standing ds x ≡ false → OwnMade standing ds out here xs own s r → OwnMade standing ds out here (x ∷ xs) own s r
  skipped e m =
      record {
        eqns = m.eqns;
        flag = m.flag;
        grown = m.grown;
        own = λ z q o. m.own z (in_rest z (bytes_eq x z) refl q o) o;
        others = λ z q. m.others z (rest_false (bytes_eq x z) (is_in xs z) (is_owned standing ds z) q);
        each = λ y l u. let f = m.each y l u in (f.0, or_true (bytes_eq x f.0) (is_in xs f.0) f.1, f.2, f.3);
      }
    where
      in_rest : (z : List ℕ) (b : Bool) → bytes_eq x z ≡ b → (b || is_in xs z) ≡ true → is_owned standing ds z ≡ true → is_in xs z ≡ true
      in_rest z false h q o = q
      in_rest z true h q o = let t : x ≡ z = same_name x z h in let no : true ≡ false = sym o ∙ ap (is_owned standing ds) (sym t) ∙ e in absurd cc

      rest_false : (a b c : Bool) → ((a || b) && c) ≡ false → (b && c) ≡ false
      rest_false a false c h = refl
      rest_false true true c h = h
      rest_false false true c h = h

      or_true : (a b : Bool) → b ≡ true → (a || b) ≡ true
      or_true true b h = refl
      or_true false b h = h

  added : is_owned standing ds x ≡ true → is_in xs x ≡ false → OwnMade standing ds out here xs own (put_own standing ds out x s) r → OwnMade standing ds out here (x ∷ xs) (x ∷ own) s r
  added e once m =
      let e' : Entry = record { ty = (over s.0 out x).ty; value = Some (own_variable standing ds x (over s.0 out x).ty s.1).1; last = (over s.0 out x).last; is_local = declares ds x } in
      let more = appended standing ds x (over s.0 out x).ty s.1 in
      let one : next (put_own standing ds out x s).1 ≡ next s.1 + 1 = more.0 in
      let number : (own_variable standing ds x (over s.0 out x).ty s.1).1 ≡ next s.1 = more.3 in
      let mine : r.0 x ≡ Some e' = m.others x (ap (λ b. b && is_owned standing ds x) once) ∙ put_same x e' s.0 in
      let wide : next r.1 ≡ next (put_own standing ds out x s).1 + length own = m.grown in
      let first : OneOwned ds here (x ∷ own) (next s.1) x (over s.0 out x).last (r.0 x) =
      record {
        entry = e';
        is = mine;
        local = refl;
        last_is = refl;
        variable = (own_variable standing ds x (over s.0 out x).ty s.1).1;
        value = refl;
        above = omega (arith, number);
        below = omega (arith, number);
        stands = λ means a. ap means number ∙ a.0;
      } in
      record {
        eqns = m.eqns ∙ more.1;
        flag = m.flag ∙ more.2;
        grown = omega (arith, one, wide);
        own = λ z q o. by z (bytes_eq x z) refl q o one first;
        others = λ z q. past z (bytes_eq x z) refl q;
        each = λ y l u. found y l u one (split_at y (next s.1 + 1)) (mine, number);
      }
    where
      rest : (z : List ℕ) → is_in xs z ≡ true → is_owned standing ds z ≡ true → next (put_own standing ds out x s).1 ≡ next s.1 + 1 → OneOwned ds here own (next (put_own standing ds out x s).1) z (over (put_own standing ds out x s).0 out z).last (r.0 z)
          → OneOwned ds here (x ∷ own) (next s.1) z (over s.0 out z).last (r.0 z)
      rest z q o one f =
          let g = f.above in let h = f.below in
          record {
            entry = f.entry;
            is = f.is;
            local = f.local;
            last_is = f.last_is ∙ ap (λ e. (or_entry e (out z)).last) (put_other x z _ s.0 (not_among xs x z once q));
            variable = f.variable;
            value = f.value;
            above = omega (arith, g, one);
            below = omega (arith, h, one);
            stands = λ means a. f.stands means (subst (λ n. Agrees means n (flats here own)) (sym one) a.1);
          }

      by : (z : List ℕ) (b : Bool) → bytes_eq x z ≡ b → (b || is_in xs z) ≡ true → is_owned standing ds z ≡ true → next (put_own standing ds out x s).1 ≡ next s.1 + 1
          → OneOwned ds here (x ∷ own) (next s.1) x (over s.0 out x).last (r.0 x) → OneOwned ds here (x ∷ own) (next s.1) z (over s.0 out z).last (r.0 z)
      by z false h q o one f = rest z q o one (m.own z q o)
      by z true h q o one f = subst (λ z. OneOwned ds here (x ∷ own) (next s.1) z (over s.0 out z).last (r.0 z)) (same_name x z h) f

      past : (z : List ℕ) (b : Bool) → bytes_eq x z ≡ b → ((b || is_in xs z) && is_owned standing ds z) ≡ false → r.0 z ≡ s.0 z
      past z false h q = m.others z q ∙ put_other x z _ s.0 h
      past z true h q = let t : x ≡ z = same_name x z h in let no : true ≡ false = sym e ∙ ap (is_owned standing ds) t ∙ q in absurd cc

      or_true : (a b : Bool) → b ≡ true → (a || b) ≡ true
      or_true true b h = refl
      or_true false b h = h

      found : (y : ℕ) → next s.1 ≤ y → y < next r.1 → next (put_own standing ds out x s).1 ≡ next s.1 + 1 → (y < next s.1 + 1) ⊎ (next s.1 + 1 ≤ y)
          → (r.0 x ≡ Some (record { ty = (over s.0 out x).ty; value = Some (own_variable standing ds x (over s.0 out x).ty s.1).1; last = (over s.0 out x).last; is_local = declares ds x }))
          × ((own_variable standing ds x (over s.0 out x).ty s.1).1 ≡ next s.1)
          → (z : List ℕ) × ((bytes_eq x z || is_in xs z) ≡ true) × (is_owned standing ds z ≡ true) × ((over r.0 out z).value ≡ Some y)
      found y l u one (inl k) h =
          let same : next s.1 ≡ y = omega arith in
          (x, ap (λ b. b || is_in xs x) (is_same x), e, ap (λ o. (or_entry o (out x)).value) h.0 ∙ ap Some (h.1 ∙ same))
      found y l u one (inr k) h = let f = m.each y (omega (arith, one)) u in (f.0, or_true (bytes_eq x f.0) (is_in xs f.0) f.1, f.2, f.3)

pub own-made : (standing : Standing) (ds : List Decl) (out : Sight) (here : Prefix) (xs : List (List ℕ)) (s : Seen) → Once xs → OwnMade standing ds out here xs (owned standing ds xs) s (own_names standing ds out xs s)
own-made standing ds out here [] s once = record { eqns = refl; flag = refl; grown = omega arith; own = λ x q. absurd cc; others = λ x q. refl; each = λ y l u. absurd (omega arith) }
own-made standing ds out here (x ∷ xs) s once =
    subst (λ q. OwnMade standing ds out here (x ∷ xs) (owned standing ds (x ∷ xs)) s (own_names standing ds out xs q)) (sym (own_name_is standing ds out x s))
    (by (is_owned standing ds x) refl (own-made standing ds out here xs (put_own standing ds out x s) once.1) (own-made standing ds out here xs s once.1))
  where
    by : (d : Bool) → is_owned standing ds x ≡ d → OwnMade standing ds out here xs (owned standing ds xs) (put_own standing ds out x s) (own_names standing ds out xs (put_own standing ds out x s))
        → OwnMade standing ds out here xs (owned standing ds xs) s (own_names standing ds out xs s)
        → OwnMade standing ds out here (x ∷ xs) (if d then x ∷ owned standing ds xs else owned standing ds xs) s (own_names standing ds out xs (if d then put_own standing ds out x s else s))
    by true e m _ = added standing ds out here x xs (owned standing ds xs) s (own_names standing ds out xs (put_own standing ds out x s)) e once.0 m
    by false e _ m = skipped standing ds out here x xs (owned standing ds xs) s (own_names standing ds out xs s) e m
