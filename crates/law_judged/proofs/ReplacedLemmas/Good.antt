-- New equations of inlined calls, and their local variables: what is true of them wherever they stand.
use Rattle.std.proofs.Common.{◌≡◌, ℕ, suc, ◌<◌, ◌≤◌, ◌⊎◌, inl, inr, ⊎_elim, Bool, true, false, ◌||◌, List, [], ◌∷◌, ◌++◌, length, refl, sym, ap, ◌∙◌, subst, arith, append_assoc}
use Rattle.std.specs.Prelude.{IsTrue}
use Rattle.std.specs.Str.{bytes_eq}
use Rattle.hp_tree.specs.Expressions.{Exprs, no_expr, more_exprs}
use Rattle.hp_tree.specs.Blocks.{Decl, Block, block, Eqns, no_eqn, more_eqns, Eqn, eqns_of, list_of_eqns}
use Rattle.hp_tree.specs.Programs.{Node}
use Rattle.hp_tree.specs.Meaning.{declares, defines, some_defines, controls_of}
use Rattle.hp_meaning.specs.Clocking.Clocking.{AreOnce, AreDefined}
use Rattle.law_judged.specs.Named.Scoped as named
use Rattle.law_judged.specs.Named.Scoped.{Names, no_names, also, AreFresh, AreOwn, BlockScoped, EqnsScoped, EqnScoped, interface, NodeScoped}
use Rattle.law_judged.proofs.NamedLemmas.Sets.{or_cases, or_left, or_right, declares_append, once_append}
use Rattle.hp_expand.specs.NewNames.{is_new, marked}
use Rattle.hp_expand.specs.Renaming.{renamed_decl, renamed_decls, renamed_eqns}
use Rattle.hp_expand.specs.Replacing.{given, locals_of, equations_of}
use Rattle.law_judged.specs.Replaced.Fitting.{DeclNames, BlockNames, EqnsNames, Covers, IsReady}
use Rattle.law_judged.proofs.ReplacedLemmas.Signs.{with_number_new, same_number, same_marked}
use Rattle.law_judged.proofs.ReplacedLemmas.Renaming.{renamed_there, renamed_back, Comes, once_renamed, back_declared, some_renamed, Says, eqns_say, all_named}

-- ---- names with a mark

pub record InRange (k m : ℕ) (x : List ℕ) : Type 0 where
  pub number : ℕ
  pub stem : List ℕ
  pub least : k ≤ number
  pub below : number < m
  pub is : x ≡ marked number stem

pub record Outside (k m : ℕ) (x : List ℕ) : Type 0 where
  pub number : ℕ
  pub stem : List ℕ
  pub apart : (number < k) ⊎ (m ≤ number)
  pub small : number < 1000000
  pub is : x ≡ marked number stem

pub marked_new : (j : ℕ) (y x : List ℕ) → x ≡ marked j y → is_new x ≡ true
marked_new j y x e = ap is_new e ∙ with_number_new 262 y j

pub plain_marked : (j : ℕ) (y x : List ℕ) → is_new x ≡ false → x ≡ marked j y → ⊥
plain_marked j y x h e = absurd (cc (sym h, marked_new j y x e))

pub numbers_same : (i j : ℕ) (y z x : List ℕ) → i < 1000000 → j < 1000000 → x ≡ marked i y → x ≡ marked j z → i ≡ j
numbers_same i j y z x h l e q = same_number 262 262 y z i j h l (sym e ∙ q)

pub in_out : (k m : ℕ) (x : List ℕ) → m ≤ 1000000 → InRange k m x → Outside k m x → ⊥
in_out k m x f i o =
    let a : k ≤ i.number = i.least in
    let b : i.number < m = i.below in
    let same : i.number ≡ o.number = numbers_same i.number o.number i.stem o.stem x (omega (arith, b, f)) o.small i.is o.is in
    ⊎_elim (λ (c : o.number < k). absurd (omega (arith, a, same, c))) (λ (c : m ≤ o.number). absurd (omega (arith, b, same, c))) o.apart

pub range_more : (k m a b : ℕ) (x : List ℕ) → a ≤ k → m ≤ b → InRange k m x → InRange a b x
range_more k m a b x h l i =
    let c = i.least in
    let d = i.below in
    record { number = i.number; stem = i.stem; least = omega (arith, h, c); below = omega (arith, l, d); is = i.is }

pub outside_less : (k m a b : ℕ) (x : List ℕ) → k ≤ a → b ≤ m → Outside k m x → Outside a b x
outside_less k m a b x h l o = record {
  number = o.number;
  stem = o.stem;
  apart = ⊎_elim (λ (c : o.number < k). inl (omega (arith, h, c))) (λ (c : m ≤ o.number). inr (omega (arith, l, c))) o.apart;
  small = o.small;
  is = o.is;
}

pub range_before : (k m p : ℕ) (x : List ℕ) → m ≤ 1000000 → InRange k m x → Outside m p x
range_before k m p x f i =
    let d : i.number < m = i.below in
    record { number = i.number; stem = i.stem; apart = inl d; small = omega (arith, d, f); is = i.is }

pub range_behind : (k m p : ℕ) (x : List ℕ) → p ≤ 1000000 → InRange m p x → Outside k m x
range_behind k m p x f i =
    let c : m ≤ i.number = i.least in
    let d : i.number < p = i.below in
    record { number = i.number; stem = i.stem; apart = inr c; small = omega (arith, d, f); is = i.is }

-- ---- lists of equations

pub same_eqns : (r : Eqns) → eqns_of (list_of_eqns r) ≡ r
same_eqns no_eqn = refl
same_eqns (more_eqns e r) = ap (λ z. more_eqns e z) (same_eqns r)

pub scoped_append : (seen own : Names) (a b : List Eqn) → EqnsScoped seen own (eqns_of a) → EqnsScoped seen own (eqns_of b) → EqnsScoped seen own (eqns_of (a ++ b))
scoped_append seen own [] b h l = l
scoped_append seen own (e ∷ a) b h l = (h.0, scoped_append seen own a b h.1 l)

pub names_append : (P : List ℕ → Type 0) (a b : List Eqn) → EqnsNames P (eqns_of a) → EqnsNames P (eqns_of b) → EqnsNames P (eqns_of (a ++ b))
names_append P [] b h l = l
names_append P (e ∷ a) b h l = (h.0, names_append P a b h.1 l)

pub some_append : (a b : List Eqn) (x : List ℕ) → some_defines (eqns_of (a ++ b)) x ≡ (some_defines (eqns_of a) x || some_defines (eqns_of b) x)
some_append [] b x = refl
some_append (e ∷ a) b x = tie (defines e x) (some_append a b x)
  where
    tie : (d : Bool) → some_defines (eqns_of (a ++ b)) x ≡ (some_defines (eqns_of a) x || some_defines (eqns_of b) x) → (d || some_defines (eqns_of (a ++ b)) x) ≡ ((d || some_defines (eqns_of a) x) || some_defines (eqns_of b) x)
    tie true h = refl
    tie false h = h

pub some_left : (a b : List Eqn) (x : List ℕ) → IsTrue (some_defines (eqns_of a) x) → IsTrue (some_defines (eqns_of (a ++ b)) x)
some_left a b x h = subst IsTrue (sym (some_append a b x)) (or_left (some_defines (eqns_of a) x) (some_defines (eqns_of b) x) h)

pub some_right : (a b : List Eqn) (x : List ℕ) → IsTrue (some_defines (eqns_of b) x) → IsTrue (some_defines (eqns_of (a ++ b)) x)
some_right a b x h = subst IsTrue (sym (some_append a b x)) (or_right (some_defines (eqns_of a) x) (some_defines (eqns_of b) x) h)

pub declared_cases : (ds es : List Decl) (x : List ℕ) → IsTrue (declares (ds ++ es) x) → IsTrue (declares ds x) ⊎ IsTrue (declares es x)
declared_cases ds es x h = or_cases (declares ds x) (declares es x) (subst IsTrue (declares_append ds es x) h)

pub declared_left : (ds es : List Decl) (x : List ℕ) → IsTrue (declares ds x) → IsTrue (declares (ds ++ es) x)
declared_left ds es x h = subst IsTrue (sym (declares_append ds es x)) (or_left (declares ds x) (declares es x) h)

pub declared_right : (ds es : List Decl) (x : List ℕ) → IsTrue (declares es x) → IsTrue (declares (ds ++ es) x)
declared_right ds es x h = subst IsTrue (sym (declares_append ds es x)) (or_right (declares ds x) (declares es x) h)

-- ---- new equations

-- What is seen around: names of the text, names with another mark, and the new ones.
abbrev pub Around : ℕ → ℕ → List Decl → Names → Type 0
Around k m ds seen = (x : List ℕ) → IsTrue (seen x) → (is_new x ≡ false) ⊎ (Outside k m x ⊎ IsTrue (declares ds x))

abbrev pub Within : List Decl → Names → Type 0
Within ds own = (x : List ℕ) → IsTrue (declares ds x) → IsTrue (own x)

-- a new name, or one that is not too long
abbrev pub Wide : List ℕ → Type 0
Wide x = (is_new x ≡ true) ⊎ (length x ≤ 262)

-- New local variables with marks from k on and below m, and the equations that define them.
pub record Good (k m : ℕ) (ds : List Decl) (es : List Eqn) : Type 0 where
  pub le : k ≤ m
  pub range : DeclNames (InRange k m) ds
  pub once : m ≤ 1000000 → AreOnce ds
  pub defined : AreDefined ds (eqns_of es)
  pub scoped : m ≤ 1000000 → (seen own : Names) → Around k m ds seen → Within ds own → EqnsScoped seen own (eqns_of es)
  pub names : EqnsNames Wide (eqns_of es)

pub good_none : (k : ℕ) → Good k k [] []
good_none k = record {
  le = omega arith;
  range = λ x h. absurd (cc h);
  once = λ f. tt;
  defined = λ x h. absurd (cc h);
  scoped = λ f seen own a w. tt;
  names = tt;
}

first_fits : (m p : ℕ) → m ≤ p → p ≤ 1000000 → m ≤ 1000000
first_fits m p h f = omega (arith, h, f)

same_least : (k : ℕ) → k ≤ k
same_least k = omega arith

pub good_both : (k m p : ℕ) (ds es : List Decl) (a b : List Eqn) → Good k m ds a → Good m p es b → Good k p (ds ++ es) (a ++ b)
good_both k m p ds es a b g h =
    let i = g.le in
    let j = h.le in
    record {
      le = omega (arith, i, j);
      range = λ x l. ⊎_elim (λ q. range_more k m k p x (same_least k) h.le (g.range x q)) (λ q. range_more m p k p x g.le (same_least p) (h.range x q)) (declared_cases ds es x l);
      once = λ f. once_append ds es (g.once (first_fits m p h.le f)) (h.once f)
          (λ x l q. in_out k m x (first_fits m p h.le f) (g.range x q) (range_behind k m p x f (h.range x l)));
      defined = λ x l. ⊎_elim (λ q. some_left a b x (g.defined x q)) (λ q. some_right a b x (h.defined x q)) (declared_cases ds es x l);
      scoped = λ f seen own r w. scoped_append seen own a b
          (g.scoped (first_fits m p h.le f) seen own (λ x l. first f x (r x l)) (λ x l. w x (declared_left ds es x l)))
          (h.scoped f seen own (λ x l. second f x (r x l)) (λ x l. w x (declared_right ds es x l)));
      names = names_append Wide a b g.names h.names;
    }
  where
    first : p ≤ 1000000 → (x : List ℕ) → (is_new x ≡ false) ⊎ (Outside k p x ⊎ IsTrue (declares (ds ++ es) x)) → (is_new x ≡ false) ⊎ (Outside k m x ⊎ IsTrue (declares ds x))
    first f x (inl q) = inl q
    first f x (inr (inl q)) = inr (inl (outside_less k p k m x (same_least k) h.le q))
    first f x (inr (inr q)) = inr (⊎_elim (λ d. inr d) (λ d. inl (range_behind k m p x f (h.range x d))) (declared_cases ds es x q))

    second : p ≤ 1000000 → (x : List ℕ) → (is_new x ≡ false) ⊎ (Outside k p x ⊎ IsTrue (declares (ds ++ es) x)) → (is_new x ≡ false) ⊎ (Outside m p x ⊎ IsTrue (declares es x))
    second f x (inl q) = inl q
    second f x (inr (inl q)) = inr (inl (outside_less k p m p x g.le (same_least p) q))
    second f x (inr (inr q)) = inr (⊎_elim (λ d. inl (range_before k m p x (first_fits m p h.le f) (g.range x d))) (λ d. inr d) (declared_cases ds es x q))

-- the same, where more marks are kept free
pub good_more : (k m p : ℕ) (ds : List Decl) (es : List Eqn) → m ≤ p → Good k m ds es → Good k p ds es
good_more k m p ds es l g =
    let i = g.le in
    record {
      le = omega (arith, i, l);
      range = λ x q. range_more k m k p x (same_least k) l (g.range x q);
      once = λ f. g.once (first_fits m p l f);
      defined = g.defined;
      scoped = λ f seen own r w. g.scoped (first_fits m p l f) seen own (λ x q. less x (r x q)) w;
      names = g.names;
    }
  where
    less : (x : List ℕ) → (is_new x ≡ false) ⊎ (Outside k p x ⊎ IsTrue (declares ds x)) → (is_new x ≡ false) ⊎ (Outside k m x ⊎ IsTrue (declares ds x))
    less x (inl q) = inl q
    less x (inr (inl q)) = inr (inl (outside_less k p k m x (same_least k) l q))
    less x (inr (inr q)) = inr (inr q)

-- ---- one inlined call

abbrev Short : List ℕ → Type 0
Short x = length x ≤ 262

given_within : (seen own : Names) (ds : List Decl) (args : Exprs) → Within ds own → EqnsScoped seen own (eqns_of (given ds args))
given_within seen own [] args w = tt
given_within seen own (d ∷ ds) no_expr w = tt
given_within seen own (d ∷ ds) (more_exprs e args) w = (
  (λ x h. ⊎_elim (λ l. w x (or_left (bytes_eq d.name x) (declares ds x) l)) (λ l. absurd (cc l)) (or_cases (bytes_eq d.name x) false h)),
  given_within seen own ds args (λ x h. w x (or_right (bytes_eq d.name x) (declares ds x) h)),
)

given_names : (ds : List Decl) (args : Exprs) → EqnsNames Wide (eqns_of (given ds args))
given_names [] args = tt
given_names (d ∷ ds) no_expr = tt
given_names (d ∷ ds) (more_exprs e args) = (tt, given_names ds args)

given_defines : (ds : List Decl) (args : Exprs) → Covers ds args → AreDefined ds (eqns_of (given ds args))
given_defines [] args c x h = absurd (cc h)
given_defines (d ∷ ds) no_expr c x h = absurd c
given_defines (d ∷ ds) (more_exprs e args) c x h =
    ⊎_elim (λ l. or_left (bytes_eq d.name x || false) (some_defines (eqns_of (given ds args)) x) (or_left (bytes_eq d.name x) false l))
    (λ l. or_right (bytes_eq d.name x || false) (some_defines (eqns_of (given ds args)) x) (given_defines ds args c x l))
    (or_cases (bytes_eq d.name x) (declares ds x) h)

covers_renamed : (to : List ℕ → List ℕ) (ds : List Decl) (args : Exprs) → Covers ds args → Covers (renamed_decls to ds) args
covers_renamed to [] args c = tt
covers_renamed to (d ∷ ds) no_expr c = absurd c
covers_renamed to (d ∷ ds) (more_exprs e args) c = covers_renamed to ds args c

pub renamed_append : (to : List ℕ → List ℕ) (ds es : List Decl) → renamed_decls to (ds ++ es) ≡ renamed_decls to ds ++ renamed_decls to es
renamed_append to [] es = refl
renamed_append to (d ∷ ds) es = ap (λ z. renamed_decl to d ∷ z) (renamed_append to ds es)

-- the variables of a node that are told from others by a mark
abbrev variables : Node → List Decl
variables n = n.inputs ++ (n.outputs ++ locals_of n.body)

module _ (n : Node) (ds : List Decl) (es : Eqns) (once : AreOnce (n.inputs ++ n.outputs)) (names : (x : List ℕ) → IsTrue (also (interface n) (controls_of n.contract) x) → Short x) (own_names : DeclNames Short ds) (inner_names : EqnsNames Short es) (outputs : AreDefined n.outputs es) (body : BlockScoped (also (interface n) (controls_of n.contract)) (also no_names n.outputs) (block ds es)) where
  abbrev all : List Decl
  all = n.inputs ++ (n.outputs ++ ds)

  abbrev around : Names
  around = also (interface n) (controls_of n.contract)

  input_seen : (x : List ℕ) → IsTrue (declares n.inputs x) → IsTrue (around x)
  input_seen x h = or_right (declares (controls_of n.contract) x) (interface n x) (or_right (declares n.outputs x) (also no_names n.inputs x) (or_left (declares n.inputs x) false h))

  output_seen : (x : List ℕ) → IsTrue (declares n.outputs x) → IsTrue (around x)
  output_seen x h = or_right (declares (controls_of n.contract) x) (interface n x) (or_left (declares n.outputs x) (also no_names n.inputs x) h)

  all_cases : (x : List ℕ) → IsTrue (declares all x) → IsTrue (declares n.inputs x) ⊎ (IsTrue (declares n.outputs x) ⊎ IsTrue (declares ds x))
  all_cases x h = ⊎_elim (λ l. inl l) (λ l. inr (declared_cases n.outputs ds x l)) (declared_cases n.inputs (n.outputs ++ ds) x h)

  all_short : DeclNames Short all
  all_short x h = ⊎_elim (λ l. names x (input_seen x l)) (λ l. ⊎_elim (λ q. names x (output_seen x q)) (λ q. own_names x q) l) (all_cases x h)

  all_once : AreOnce all
  all_once =
      subst AreOnce (append_assoc n.inputs n.outputs ds)
      (once_append (n.inputs ++ n.outputs) ds once body.0 (λ x h l. body.1 x h (⊎_elim (λ q. input_seen x q) (λ q. output_seen x q) (declared_cases n.inputs n.outputs x l))))

  all_seen : (x : List ℕ) → IsTrue (declares all x) → IsTrue (also around ds x)
  all_seen x h =
      ⊎_elim (λ l. or_right (declares ds x) (around x) (input_seen x l))
      (λ l. ⊎_elim (λ q. or_right (declares ds x) (around x) (output_seen x q)) (λ q. or_left (declares ds x) (around x) q) l) (all_cases x h)

  module _ (k : ℕ) (args : Exprs) (covers : Covers n.inputs args) where
    abbrev new : List Decl
    new = renamed_decls (marked k) all

    abbrev ins : List Decl
    ins = renamed_decls (marked k) n.inputs

    abbrev told : List Eqn
    told = given ins args

    abbrev moved : Eqns
    moved = renamed_eqns (marked k) es

    abbrev made : List Eqn
    made = told ++ list_of_eqns moved

    inj : (x y : List ℕ) → Short x → Short y → marked k x ≡ marked k y → x ≡ y
    inj x y h l e = same_marked k x y h l e

    new_range : DeclNames (InRange k (suc k)) new
    new_range y h = by (renamed_back (marked k) all y h)
      where
        by : Comes (marked k) all y → InRange k (suc k) y
        by (x, l, e) = record { number = k; stem = x; least = omega arith; below = omega arith; is = sym e }

    moved_defines : (x : List ℕ) → Short x → IsTrue (some_defines es x) → IsTrue (some_defines (eqns_of made) (marked k x))
    moved_defines x q h =
        some_right told (list_of_eqns moved) (marked k x)
        (subst (λ z. IsTrue (some_defines z (marked k x))) (sym (same_eqns moved)) (some_renamed (marked k) Short inj x q es inner_names h))

    new_defined : AreDefined new (eqns_of made)
    new_defined y h = by (renamed_back (marked k) all y h)
      where
        input_defined : (x : List ℕ) → IsTrue (declares n.inputs x) → IsTrue (some_defines (eqns_of made) (marked k x))
        input_defined x l =
            some_left told (list_of_eqns moved) (marked k x) (given_defines ins args (covers_renamed (marked k) n.inputs args covers) (marked k x) (renamed_there (marked k) n.inputs x l))

        at : (x : List ℕ) → IsTrue (declares all x) → IsTrue (some_defines (eqns_of made) (marked k x))
        at x l =
            ⊎_elim (λ q. input_defined x q)
            (λ r. ⊎_elim (λ q. moved_defines x (names x (output_seen x q)) (outputs x q)) (λ q. moved_defines x (own_names x q) (body.2 x q)) r) (all_cases x l)

        by : Comes (marked k) all y → IsTrue (some_defines (eqns_of made) y)
        by (x, l, e) = subst (λ z. IsTrue (some_defines (eqns_of made) z)) e (at x l)

    new_there : (x : List ℕ) → IsTrue (declares all x) → IsTrue (declares new (marked k x))
    new_there x h = renamed_there (marked k) all x h

    says : (f : suc k ≤ 1000000) (seen own : Names) → Around k (suc k) new seen → Within new own → Says (marked k) Short inj (also around ds) (also (also no_names n.outputs) ds) seen own
    says f seen own r w = record {
      known = λ x h. ⊎_elim (λ l. own_names x l) (λ l. names x l) (or_cases (declares ds x) (around x) h);
      back = λ x q h. is_seen x q (r (marked k x) h);
      owns = λ x h. w (marked k x) (new_there x (⊎_elim (λ l. declared_right n.inputs (n.outputs ++ ds) x (declared_right n.outputs ds x l))
          (λ l. declared_right n.inputs (n.outputs ++ ds) x (declared_left n.outputs ds x (⊎_elim (λ q. q) (λ q. absurd (none q)) (or_cases (declares n.outputs x) false l))))
          (or_cases (declares ds x) (also no_names n.outputs x) h)));
    }
      where
        none : IsTrue false → {A : Type 0} → A
        none h = absurd (cc h)

        is_seen : (x : List ℕ) → Short x → (is_new (marked k x) ≡ false) ⊎ (Outside k (suc k) (marked k x) ⊎ IsTrue (declares new (marked k x))) → IsTrue (also around ds x)
        is_seen x q (inl h) = absurd (plain_marked k x (marked k x) h refl)
        is_seen x q (inr (inl h)) = absurd (in_out k (suc k) (marked k x) f (record { number = k; stem = x; least = omega arith; below = omega arith; is = refl }) h)
        is_seen x q (inr (inr h)) = all_seen x (back_declared (marked k) Short inj all all_short x q h)

    pub good_body : Good k (suc k) new made
    good_body = record {
      le = omega arith;
      range = new_range;
      once = λ f. once_renamed (marked k) all (λ x y h l e. inj x y (all_short x h) (all_short y l) e) all_once;
      defined = new_defined;
      scoped = λ f seen own r w. scoped_append seen own told (list_of_eqns moved)
          (given_within seen own ins args (λ x h. w x (inputs_new x h)))
          (subst (EqnsScoped seen own) (sym (same_eqns moved)) (eqns_say (marked k) Short inj (also around ds) (also (also no_names n.outputs) ds) seen own es (says f seen own r w) inner_names body.3));
      names = names_append Wide told (list_of_eqns moved) (given_names ins args)
          (subst (EqnsNames Wide) (sym (same_eqns moved)) (all_named (marked k) Wide (λ x. inl (with_number_new 262 x k)) es));
    }
      where
        inputs_new : (x : List ℕ) → IsTrue (declares ins x) → IsTrue (declares new x)
        inputs_new x h = subst (λ z. IsTrue (declares z x)) (sym (renamed_append (marked k) n.inputs (n.outputs ++ ds))) (declared_left ins (renamed_decls (marked k) (n.outputs ++ ds)) x h)

abbrev pub new_locals : Node → ℕ → List Decl
new_locals n k = renamed_decls (marked k) (n.inputs ++ (n.outputs ++ locals_of n.body))

abbrev pub new_equations : Node → ℕ → Exprs → List Eqn
new_equations n k args = given (renamed_decls (marked k) n.inputs) args ++ list_of_eqns (renamed_eqns (marked k) (equations_of n.body))

pub good_call : (n : Node) → IsReady n → (k : ℕ) (args : Exprs) → Covers n.inputs args → Good k (suc k) (new_locals n k) (new_equations n k args)
good_call n r k args c = by n.body r.names.body r.scoped.outputs r.scoped.body
  where
    by : (b : Block) → BlockNames Short b → AreDefined n.outputs (named.equations_of b) → BlockScoped (also (interface n) (controls_of n.contract)) (also no_names n.outputs) b → Good k (suc k) (renamed_decls (marked k) (n.inputs ++ (n.outputs ++ locals_of b))) (given (renamed_decls (marked k) n.inputs) args ++ list_of_eqns (renamed_eqns (marked k) (equations_of b)))
    by (block ds es) p o s = good_body n ds es r.scoped.once r.names.interface p.0 p.1 o s k args c
