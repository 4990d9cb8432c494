-- The names of controllers and of nodes that tell their contracts are new ones.
use Rattle.std.proofs.Common.{◌≡◌, ℕ, Bool, true, false, ◌||◌, if◌then◌else◌, List, [], ◌∷◌, ◌++◌, refl, sym, ap, ap₂, subst, ◌∙◌, arith}
use Rattle.std.specs.Prelude.{nat_eq, codes, length}
use Rattle.std.specs.Str.{bytes_eq}
use Rattle.hp_obc.specs.Form.{has_name}
use Rattle.hp_automata.specs.NewNames.{dollar, is_new}
use Rattle.law_automata.specs.Lowered.OldNames.{behind_sign}
use Rattle.law_automata.proofs.LoweredLemmas.Apart.{same_bytes, bytes_same, bytes_differ}
use Rattle.law_automata.proofs.LoweredLemmas.Spelling.{stem, without_sign}
use Rattle.law_choices.specs.InTurn.Nodes.{controller_name, contract_name}

-- ---- a sign behind a name

sign_new : (x y : List ℕ) → is_new (x ++ 36 ∷ y) ≡ true
sign_new [] y = refl
sign_new (b ∷ bs) y = by (nat_eq b dollar) (sign_new bs y)
  where
    by : (t : Bool) → is_new (bs ++ 36 ∷ y) ≡ true → (if t then true else is_new (bs ++ 36 ∷ y)) ≡ true
    by true h = refl
    by false h = h

pub controller_new : (f : List ℕ) → is_new (controller_name f) ≡ true
controller_new f = sign_new f (codes "ctl")

pub contract_new : (f : List ℕ) → is_new (contract_name f) ≡ true
contract_new f = sign_new f (codes "contract")

apart_by_sign : (x y : List ℕ) → is_new x ≡ true → is_new y ≡ false → bytes_eq x y ≡ false
apart_by_sign x y h g = bytes_differ x y (λ e. absurd (let r : true ≡ false = sym h ∙ ap is_new e ∙ g in cc))

old_apart : (x y : List ℕ) → is_new x ≡ false → is_new y ≡ true → bytes_eq x y ≡ false
old_apart x y h g = bytes_differ x y (λ e. absurd (let r : true ≡ false = sym g ∙ sym (ap is_new e) ∙ h in cc))

-- what stands before and behind the sign tells two such names apart
ends_apart : (x y u v : List ℕ) → is_new x ≡ false → is_new y ≡ false → (u ≡ v → ⊥) → bytes_eq (x ++ 36 ∷ u) (y ++ 36 ∷ v) ≡ false
ends_apart x y u v h g ne = bytes_differ (x ++ 36 ∷ u) (y ++ 36 ∷ v) (λ e. ne (sym (without_sign x u h).0 ∙ ap behind_sign e ∙ (without_sign y v g).0))

stems_apart : (x y u : List ℕ) → is_new x ≡ false → is_new y ≡ false → bytes_eq x y ≡ false → bytes_eq (x ++ 36 ∷ u) (y ++ 36 ∷ u) ≡ false
stems_apart x y u h g ne =
    bytes_differ (x ++ 36 ∷ u) (y ++ 36 ∷ u)
    (λ e. let same : x ≡ y = sym (without_sign x u h).1 ∙ ap stem e ∙ (without_sign y u g).1 in
    absurd (let r : true ≡ false = sym (ap (λ z. bytes_eq x z) (sym same) ∙ bytes_same x) ∙ ne in cc))

-- the numbers of bytes differ
differ_ends : codes "ctl" ≡ codes "contract" → ⊥
differ_ends e = let l : length (codes "ctl") ≡ length (codes "contract") = ap length e in omega (arith, l)

-- ---- the names of all nodes so far

-- Beside the names of some nodes of a program, which have no sign, stand all names of what is made of them.
pub record AllNames (names all : List (List ℕ)) : Type 0 where
  pub old : (f : List ℕ) → has_name names f ≡ true → is_new f ≡ false
  pub among : (f : List ℕ) → has_name names f ≡ true → has_name all f ≡ true
  pub own : (f : List ℕ) → is_new f ≡ false → has_name names f ≡ false → has_name all f ≡ false
  pub controller : (f : List ℕ) → is_new f ≡ false → has_name names f ≡ false → has_name all (controller_name f) ≡ false
  pub contract : (f : List ℕ) → is_new f ≡ false → has_name names f ≡ false → has_name all (contract_name f) ≡ false

pub no_names : AllNames [] []
no_names = record { old = λ f h. absurd cc; among = λ f h. absurd cc; own = λ f h g. refl; controller = λ f h g. refl; contract = λ f h g. refl }

neither : (a b : Bool) → (a || b) ≡ false → (a ≡ false) × (b ≡ false)
neither true b h = absurd cc
neither false b h = (refl, h)

none_of : (a b : Bool) → a ≡ false → b ≡ false → (a || b) ≡ false
none_of a b h g = ap₂ (λ x y. x || y) h g

pub right_of : (a b : Bool) → b ≡ true → (a || b) ≡ true
right_of true b h = refl
right_of false b h = h

module _ (names all : List (List ℕ)) (a : AllNames names all) (f : List ℕ) (plain : is_new f ≡ false) where
  old_or : (x : List ℕ) (b : Bool) → bytes_eq f x ≡ b → (b || has_name names x) ≡ true → is_new x ≡ false
  old_or x true e h = subst (λ z. is_new z ≡ false) (same_bytes f x e) plain
  old_or x false e h = a.old x h

  among_or : (rest : List (List ℕ)) → ((x : List ℕ) → has_name all x ≡ true → has_name rest x ≡ true) → (x : List ℕ) (b : Bool) → (b || has_name names x) ≡ true → (b || has_name rest x) ≡ true
  among_or rest more x true h = refl
  among_or rest more x false h = more x (a.among x h)

  -- behind a node without a contract
  pub names_plain : AllNames (f ∷ names) (f ∷ all)
  names_plain = record {
    old = λ x h. old_or x (bytes_eq f x) refl h;
    among = λ x h. among_or all (λ y g. g) x (bytes_eq f x) h;
    own = λ x h g. let n = neither (bytes_eq f x) (has_name names x) g in none_of _ _ n.0 (a.own x h n.1);
    controller = λ x h g. none_of _ _ (old_apart f (controller_name x) plain (controller_new x)) (a.controller x h (neither (bytes_eq f x) (has_name names x) g).1);
    contract = λ x h g. none_of _ _ (old_apart f (contract_name x) plain (contract_new x)) (a.contract x h (neither (bytes_eq f x) (has_name names x) g).1);
  }

  -- behind one with a contract
  pub names_contracted : AllNames (f ∷ names) (contract_name f ∷ f ∷ controller_name f ∷ all)
  names_contracted = record {
    old = λ x h. old_or x (bytes_eq f x) refl h;
    among = λ x h. right_of _ _ (among_or (controller_name f ∷ all) (λ y g. right_of _ _ g) x (bytes_eq f x) h);
    own = λ x h g. let n = neither (bytes_eq f x) (has_name names x) g in
        none_of _ _ (apart_by_sign (contract_name f) x (contract_new f) h) (none_of _ _ n.0 (none_of _ _ (apart_by_sign (controller_name f) x (controller_new f) h) (a.own x h n.1)));
    controller = λ x h g. let n = neither (bytes_eq f x) (has_name names x) g in
        none_of _ _ (ends_apart f x (codes "contract") (codes "ctl") plain h (λ e. absurd (differ_ends (sym e))))
        (none_of _ _ (old_apart f (controller_name x) plain (controller_new x)) (none_of _ _ (stems_apart f x (codes "ctl") plain h n.0) (a.controller x h n.1)));
    contract = λ x h g. let n = neither (bytes_eq f x) (has_name names x) g in
        none_of _ _ (stems_apart f x (codes "contract") plain h n.0)
        (none_of _ _ (old_apart f (contract_name x) plain (contract_new x)) (none_of _ _ (ends_apart f x (codes "ctl") (codes "contract") plain h differ_ends) (a.contract x h n.1)));
  }

  -- ---- each of its three names is new where it stands

  pub fresh_controller : has_name names f ≡ false → has_name all (controller_name f) ≡ false
  fresh_controller new = a.controller f plain new

  pub fresh_own : has_name names f ≡ false → has_name (controller_name f ∷ all) f ≡ false
  fresh_own new = none_of _ _ (apart_by_sign (controller_name f) f (controller_new f) plain) (a.own f plain new)

  pub fresh_contract : has_name names f ≡ false → has_name (f ∷ controller_name f ∷ all) (contract_name f) ≡ false
  fresh_contract new =
      none_of _ _ (old_apart f (contract_name f) plain (contract_new f))
      (none_of _ _ (ends_apart f f (codes "ctl") (codes "contract") plain plain differ_ends) (a.contract f plain new))
