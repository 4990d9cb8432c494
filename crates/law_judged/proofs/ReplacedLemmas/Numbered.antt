-- Where new variables get their numbers, names stay in their scopes.
use Rattle.std.proofs.Common.{◌≡◌, ℕ, ◌+◌, ◌<◌, ◌≤◌, ◌⊎◌, inl, inr, ⊎_elim, Bool, true, false, ◌||◌, if◌then◌else◌, List, [], ◌∷◌, refl, sym, ap, ◌∙◌, subst, arith}
use Rattle.std.specs.Prelude.{IsTrue, ◌&&◌, Option, None, Some, option_map}
use Rattle.std.specs.Str.{bytes_eq}
use Rattle.hp_tree.specs.Blocks.{Decl, Block, block, Eqns, no_eqn, more_eqns, Eqn, define, switch, reset, automaton, Arms, no_arm, more_arms, States, no_state, more_states}
use Rattle.hp_tree.specs.Programs.{Contract}
use Rattle.hp_tree.specs.Meaning.{declares, defines, some_defines, arms_define, states_define, block_defines, controls_of}
use Rattle.hp_meaning.specs.Clocking.Clocking.{AreOnce}
use Rattle.law_judged.specs.Named.Scoped.{Names, no_names, also, AreFresh, BlockScoped, EqnsScoped, EqnScoped, ArmsScoped, StatesScoped, ContractScoped, equations_of, interface}
use Rattle.law_judged.proofs.NamedLemmas.Sets.{or_cases, or_left, or_right, false_if, both_true, first_true, same_name, name_same}
use Rattle.hp_expand.specs.NewNames.{is_new, numbered_name, stem}
use Rattle.hp_expand.specs.Renaming.{renamed_decls}
use Rattle.hp_expand.specs.Numbering.{one_if_new, declaring_one, declaring, new_in_decls, new_in_block, new_in_eqns, new_in_eqn, new_in_arms, new_in_states, in_block, in_eqns, in_eqn, in_arms, in_states, same_name as itself, in_contract, behind}
use Rattle.law_judged.specs.Replaced.Laws.{NumberedLaw}
use Rattle.law_judged.proofs.ReplacedLemmas.Signs.{with_number_new, same_number}
use Rattle.law_judged.proofs.ReplacedLemmas.Renaming.{renamed_there, renamed_back, Comes, once_renamed, left_there, left_owned}

-- ---- how names are said where variables are declared

neither : (a b : Bool) → (a || b) ≡ false → (a ≡ false) × (b ≡ false)
neither true b e = absurd (cc e)
neither false b e = (refl, e)

one_other : (to : List ℕ → List ℕ) (k : ℕ) (y x : List ℕ) → bytes_eq y x ≡ false → declaring_one to k y x ≡ to x
one_other to k y x h = by (is_new y) (bytes_eq y x) h
  where
    by : (n b : Bool) → b ≡ false → (if n && b then numbered_name x k else to x) ≡ to x
    by true true e = absurd (cc e)
    by true false e = refl
    by false b e = refl

one_plain : (to : List ℕ → List ℕ) (k : ℕ) (y x : List ℕ) → is_new x ≡ false → declaring_one to k y x ≡ to x
one_plain to k y x h = by (bytes_eq y x) (same_name y x) (is_new y) refl
  where
    by : (b : Bool) → (IsTrue b → y ≡ x) → (n : Bool) → is_new y ≡ n → (if n && b then numbered_name x k else to x) ≡ to x
    by true f true e = absurd (cc (sym e, ap is_new (f refl), h))
    by true f false e = refl
    by false f true e = refl
    by false f false e = refl

one_here : (to : List ℕ → List ℕ) (k : ℕ) (y x : List ℕ) → y ≡ x → is_new y ≡ true → declaring_one to k y x ≡ numbered_name x k
one_here to k y x e h = by (is_new y) (bytes_eq y x) h (name_same y x e)
  where
    by : (n b : Bool) → n ≡ true → b ≡ true → (if n && b then numbered_name x k else to x) ≡ numbered_name x k
    by true true e f = refl
    by true false e f = absurd (cc f)
    by false b e f = absurd (cc e)

counts_one : (x : List ℕ) → is_new x ≡ true → one_if_new x ≡ 1
counts_one x h = ap (λ b. if b then 1 else 0) h

pub undeclared : (to : List ℕ → List ℕ) (k : ℕ) (ds : List Decl) (x : List ℕ) → declares ds x ≡ false → declaring to k ds x ≡ to x
undeclared to k [] x h = refl
undeclared to k (d ∷ ds) x h =
    let r = neither (bytes_eq d.name x) (declares ds x) h in
    undeclared (declaring_one to k d.name) (k + one_if_new d.name) ds x r.1 ∙ one_other to k d.name x r.0

pub plain_kept : (to : List ℕ → List ℕ) (k : ℕ) (ds : List Decl) (x : List ℕ) → is_new x ≡ false → declaring to k ds x ≡ to x
plain_kept to k [] x h = refl
plain_kept to k (d ∷ ds) x h = plain_kept (declaring_one to k d.name) (k + one_if_new d.name) ds x h ∙ one_plain to k d.name x h

-- a number among those of the new variables
pub record Has (k m : ℕ) (x said : List ℕ) : Type 0 where
  pub number : ℕ
  pub least : k ≤ number
  pub below : number < m
  pub is : said ≡ numbered_name x number

has_first : (to : List ℕ → List ℕ) (k : ℕ) (d : Decl) (ds : List Decl) (x : List ℕ) → declares ds d.name ≡ false → is_new x ≡ true → d.name ≡ x → declaring to k (d ∷ ds) x ≡ numbered_name x k
has_first to k d ds x o n e =
    undeclared (declaring_one to k d.name) (k + one_if_new d.name) ds x (ap (declares ds) (sym e) ∙ o) ∙ one_here to k d.name x e (ap is_new e ∙ n)

pub has_number : (to : List ℕ → List ℕ) (k : ℕ) (ds : List Decl) (x : List ℕ) → AreOnce ds → IsTrue (declares ds x) → is_new x ≡ true → Has k (k + new_in_decls ds) x (declaring to k ds x)
has_number to k [] x o h n = absurd (cc h)
has_number to k (d ∷ ds) x o h n =
    ⊎_elim (λ e. here (same_name d.name x e)) (λ l. there (has_number (declaring_one to k d.name) (k + one_if_new d.name) ds x o.1 l n))
    (or_cases (bytes_eq d.name x) (declares ds x) h)
  where
    here : d.name ≡ x → Has k (k + new_in_decls (d ∷ ds)) x (declaring to k (d ∷ ds) x)
    here e =
        let one : one_if_new d.name ≡ 1 = counts_one d.name (ap is_new e ∙ n) in
        record { number = k; least = omega arith; below = omega (arith, one); is = has_first to k d ds x o.0 n e }

    there : Has (k + one_if_new d.name) (k + one_if_new d.name + new_in_decls ds) x (declaring (declaring_one to k d.name) (k + one_if_new d.name) ds x) → Has k (k + new_in_decls (d ∷ ds)) x (declaring to k (d ∷ ds) x)
    there h =
        let a = h.least in
        let b = h.below in
        record { number = h.number; least = omega (arith, a); below = omega (arith, b); is = h.is }

first_apart : (to : List ℕ → List ℕ) (k : ℕ) (d : Decl) (ds : List Decl) (x y : List ℕ) → AreOnce (d ∷ ds) → k + new_in_decls (d ∷ ds) ≤ 1000000 → is_new x ≡ true → is_new y ≡ true → d.name ≡ x → IsTrue (declares ds y) → declaring to k (d ∷ ds) x ≡ declaring to k (d ∷ ds) y → ⊥
first_apart to k d ds x y o f n m e l q =
    let h = has_number (declaring_one to k d.name) (k + one_if_new d.name) ds y o.1 l m in
    let one : one_if_new d.name ≡ 1 = counts_one d.name (ap is_new e ∙ n) in
    let a : k + one_if_new d.name ≤ h.number = h.least in
    let b : h.number < k + one_if_new d.name + new_in_decls ds = h.below in
    let same : k ≡ h.number = same_number 255 255 (stem x) (stem y) k h.number (omega (arith, one, f)) (omega (arith, b, f)) (sym (has_first to k d ds x o.0 n e) ∙ q ∙ h.is) in
    absurd (omega (arith, a, one, same))

numbers_apart : (to : List ℕ → List ℕ) (k : ℕ) (ds : List Decl) (x y : List ℕ) → AreOnce ds → k + new_in_decls ds ≤ 1000000 → IsTrue (declares ds x) → IsTrue (declares ds y) → is_new x ≡ true → is_new y ≡ true → declaring to k ds x ≡ declaring to k ds y → x ≡ y
numbers_apart to k [] x y o f h l n m q = absurd (cc h)
numbers_apart to k (d ∷ ds) x y o f h l n m q =
    ⊎_elim
    (λ e. ⊎_elim (λ g. sym (same_name d.name x e) ∙ same_name d.name y g) (λ g. absurd (first_apart to k d ds x y o f n m (same_name d.name x e) g q)) (or_cases (bytes_eq d.name y) (declares ds y) l))
    (λ e. ⊎_elim (λ g. absurd (first_apart to k d ds y x o f m n (same_name d.name y g) e (sym q)))
    (λ g. numbers_apart (declaring_one to k d.name) (k + one_if_new d.name) ds x y o.1 (omega (arith, f)) e g n m q) (or_cases (bytes_eq d.name y) (declares ds y) l))
    (or_cases (bytes_eq d.name x) (declares ds x) h)

-- ---- how names are said at a place, where all new ones that are seen have lower numbers

abbrev Known : (List ℕ → List ℕ) → ℕ → List ℕ → Type 0
Known to k x = (is_new x ≡ false) ⊎ ((w : List ℕ) × Has 0 k w (to x))

pub record State (to : List ℕ → List ℕ) (k : ℕ) (seen own after owned : Names) : Type 0 where
  pub plain : (x : List ℕ) → is_new x ≡ false → to x ≡ x
  pub inj : (x y : List ℕ) → IsTrue (seen x) → IsTrue (seen y) → to x ≡ to y → x ≡ y
  pub back : (z : List ℕ) → IsTrue (after z) → (x : List ℕ) × IsTrue (seen x) × (to x ≡ z)
  pub known : (x : List ℕ) → IsTrue (seen x) → Known to k x
  pub owns : (x : List ℕ) → IsTrue (own x) → IsTrue (owned (to x))

has_later : (j k m l : ℕ) (x said : List ℕ) → l ≤ j → k ≤ m → Has j k x said → Has l m x said
has_later j k m l x said a b h =
    let c = h.least in
    let d = h.below in
    record { number = h.number; least = omega (arith, a, c); below = omega (arith, b, d); is = h.is }

known_later : (to : List ℕ → List ℕ) (k m : ℕ) (x : List ℕ) → k ≤ m → Known to k x → Known to m x
known_later to k m x h (inl p) = inl p
known_later to k m x h (inr n) = inr (n.0, has_later 0 k m 0 n.0 (to x) (omega arith) h n.1)

pub later : (to : List ℕ → List ℕ) (k m : ℕ) (seen own after owned : Names) → k ≤ m → State to k seen own after owned → State to m seen own after owned
later to k m seen own after owned h s =
    record { plain = s.plain; inj = s.inj; back = s.back; known = λ x l. known_later to k m x h (s.known x l); owns = s.owns }

pub new_or_not : (x : List ℕ) → (is_new x ≡ false) ⊎ (is_new x ≡ true)
new_or_not x = by (is_new x)
  where
    by : (b : Bool) → (b ≡ false) ⊎ (b ≡ true)
    by true = inr refl
    by false = inl refl

plain_is_none : (x w : List ℕ) (j : ℕ) → is_new x ≡ false → x ≡ numbered_name w j → ⊥
plain_is_none x w j h e = absurd (cc (sym h, ap is_new e, with_number_new 255 (stem w) j))

module _ (to : List ℕ → List ℕ) (k : ℕ) (seen own after owned : Names) (s : State to k seen own after owned) (ds : List Decl) (once : AreOnce ds) (fresh : AreFresh seen ds) (few : k + new_in_decls ds ≤ 1000000) where
  abbrev said : List ℕ → List ℕ
  said = declaring to k ds

  abbrev local : List ℕ → Type 0
  local x = ((is_new x ≡ false) × (said x ≡ x)) ⊎ ((is_new x ≡ true) × Has k (k + new_in_decls ds) x (said x))

  kind : (x : List ℕ) → IsTrue (declares ds x) → local x
  kind x h = ⊎_elim (λ p. inl (p, plain_kept to k ds x p ∙ s.plain x p)) (λ n. inr (n, has_number to k ds x once h n)) (new_or_not x)

  -- a name that is seen is not declared here
  seen_said : (x : List ℕ) → IsTrue (seen x) → said x ≡ to x
  seen_said x h = undeclared to k ds x (false_if (declares ds x) (λ l. fresh x l h))

  apart : (x y : List ℕ) → IsTrue (declares ds x) → IsTrue (seen y) → said x ≡ to y → ⊥
  apart x y h l e = by (kind x h) (s.known y l)
    where
      by : local x → Known to k y → ⊥
      by (inl p) (inl q) = fresh x h (subst (λ z. IsTrue (seen z)) (sym (s.plain y q) ∙ sym e ∙ p.1) l)
      by (inl p) (inr n) = plain_is_none x n.0 n.1.number p.0 (sym p.1 ∙ e ∙ n.1.is)
      by (inr p) (inl q) = plain_is_none y x p.1.number q (sym (s.plain y q) ∙ sym e ∙ p.1.is)
      by (inr p) (inr n) =
          let a : k ≤ p.1.number = p.1.least in
          let b : p.1.number < k + new_in_decls ds = p.1.below in
          let c : n.1.number < k = n.1.below in
          let same : p.1.number ≡ n.1.number = same_number 255 255 (stem x) (stem n.0) p.1.number n.1.number (omega (arith, b, few)) (omega (arith, c, few)) (sym p.1.is ∙ e ∙ n.1.is) in
          absurd (omega (arith, a, c, same))

  both_local : (x y : List ℕ) → IsTrue (declares ds x) → IsTrue (declares ds y) → said x ≡ said y → x ≡ y
  both_local x y h l e = by (kind x h) (kind y l)
    where
      by : local x → local y → x ≡ y
      by (inl p) (inl q) = sym p.1 ∙ e ∙ q.1
      by (inl p) (inr q) = absurd (plain_is_none x y q.1.number p.0 (sym p.1 ∙ e ∙ q.1.is))
      by (inr p) (inl q) = absurd (plain_is_none y x p.1.number q.0 (sym q.1 ∙ sym e ∙ p.1.is))
      by (inr p) (inr q) = numbers_apart to k ds x y once few h l p.0 q.0 e

  entered_once : AreOnce (renamed_decls said ds)
  entered_once = once_renamed said ds both_local once

  entered_apart : (z : List ℕ) (y : List ℕ) → IsTrue (declares (renamed_decls said ds) z) → IsTrue (seen y) → to y ≡ z → ⊥
  entered_apart z y h l e = by (renamed_back said ds z h)
    where
      by : Comes said ds z → ⊥
      by (x, d, q) = apart x y d l (q ∙ sym e)

  entered_fresh : AreFresh after (renamed_decls said ds)
  entered_fresh z h l = let r = s.back z l in entered_apart z r.0 h r.1 r.2

  abbrev both_seen : Names
  both_seen = also seen ds

  abbrev both_after : Names
  both_after = also after (renamed_decls said ds)

  inj_entered : (x y : List ℕ) → IsTrue (both_seen x) → IsTrue (both_seen y) → said x ≡ said y → x ≡ y
  inj_entered x y h l e = by (or_cases (declares ds x) (seen x) h) (or_cases (declares ds y) (seen y) l)
    where
      by : IsTrue (declares ds x) ⊎ IsTrue (seen x) → IsTrue (declares ds y) ⊎ IsTrue (seen y) → x ≡ y
      by (inl a) (inl b) = both_local x y a b e
      by (inl a) (inr b) = absurd (apart x y a b (e ∙ seen_said y b))
      by (inr a) (inl b) = absurd (apart y x b a (sym e ∙ seen_said x a))
      by (inr a) (inr b) = s.inj x y a b (sym (seen_said x a) ∙ e ∙ seen_said y b)

  back_entered : (z : List ℕ) → IsTrue (both_after z) → (x : List ℕ) × IsTrue (both_seen x) × (said x ≡ z)
  back_entered z h = ⊎_elim (λ l. here (renamed_back said ds z l)) (λ l. there (s.back z l)) (or_cases (declares (renamed_decls said ds) z) (after z) h)
    where
      here : Comes said ds z → (x : List ℕ) × IsTrue (both_seen x) × (said x ≡ z)
      here (x, d, e) = (x, or_left (declares ds x) (seen x) d, e)

      there : (x : List ℕ) × IsTrue (seen x) × (to x ≡ z) → (x : List ℕ) × IsTrue (both_seen x) × (said x ≡ z)
      there (x, l, e) = (x, or_right (declares ds x) (seen x) l, seen_said x l ∙ e)

  known_entered : (x : List ℕ) → IsTrue (both_seen x) → Known said (k + new_in_decls ds) x
  known_entered x h = ⊎_elim (λ l. here (kind x l)) (λ l. there l (s.known x l)) (or_cases (declares ds x) (seen x) h)
    where
      here : local x → Known said (k + new_in_decls ds) x
      here (inl p) = inl p.0
      here (inr p) = inr (x, has_later k (k + new_in_decls ds) (k + new_in_decls ds) 0 x (said x) (omega arith) (omega arith) p.1)

      there : IsTrue (seen x) → Known to k x → Known said (k + new_in_decls ds) x
      there l (inl p) = inl p
      there l (inr n) = inr (n.0, subst (λ z. Has 0 (k + new_in_decls ds) n.0 z) (sym (seen_said x l)) (has_later 0 k (k + new_in_decls ds) 0 n.0 (to x) (omega arith) (omega arith) n.1))

  owns_entered : (x : List ℕ) → IsTrue (also own ds x) → IsTrue (also owned (renamed_decls said ds) (said x))
  owns_entered x h = by (declares ds x) refl h
    where
      by : (b : Bool) → declares ds x ≡ b → IsTrue (b || own x) → IsTrue (also owned (renamed_decls said ds) (said x))
      by true e l = or_left (declares (renamed_decls said ds) (said x)) (owned (said x)) (renamed_there said ds x e)
      by false e l =
          or_right (declares (renamed_decls said ds) (said x)) (owned (said x)) (subst (λ z. IsTrue (owned z)) (sym (undeclared to k ds x e)) (s.owns x l))

  pub entered : State said (k + new_in_decls ds) both_seen (also own ds) both_after (also owned (renamed_decls said ds))
  entered = record {
    plain = λ x p. plain_kept to k ds x p ∙ s.plain x p;
    inj = inj_entered;
    back = back_entered;
    known = known_entered;
    owns = owns_entered;
  }

-- ---- what equations define, under other names

module _ (x : List ℕ) where
  mutual
    block_defines_said : (to : List ℕ → List ℕ) (k : ℕ) (seen own after owned : Names) (b : Block) → State to k seen own after owned → k + new_in_block b ≤ 1000000 → BlockScoped seen own b → IsTrue (seen x) → IsTrue (block_defines b x) → IsTrue (block_defines (in_block to k b) (to x))
    block_defines_said to k seen own after owned (block ds es) s f c h d =
        let few : k + new_in_decls ds ≤ 1000000 = omega (arith, f) in
        let inner : k + new_in_decls ds + new_in_eqns es ≤ 1000000 = omega (arith, f) in
        let said = declaring to k ds in
        let more = renamed_decls said ds in
        let names = in_eqns said (k + new_in_decls ds) es in
        both_true (some_defines names (to x)) (declares more (to x))
        (subst (λ z. IsTrue (some_defines names z)) (seen_said to k seen own after owned s ds c.0 c.1 few x h)
        (some_said said (k + new_in_decls ds) (also seen ds) (also own ds) (also after more) (also owned more) es (entered to k seen own after owned s ds c.0 c.1 few) inner c.3
        (or_right (declares ds x) (seen x) h) (first_true (some_defines es x) (declares ds x) d)))
        (λ l. entered_apart to k seen own after owned s ds c.0 c.1 few (to x) x l h refl)

    some_said : (to : List ℕ → List ℕ) (k : ℕ) (seen own after owned : Names) (es : Eqns) → State to k seen own after owned → k + new_in_eqns es ≤ 1000000 → EqnsScoped seen own es → IsTrue (seen x) → IsTrue (some_defines es x) → IsTrue (some_defines (in_eqns to k es) (to x))
    some_said to k seen own after owned no_eqn s f c h d = d
    some_said to k seen own after owned (more_eqns e es) s f c h d =
        ⊎_elim (λ l. or_left (defines (in_eqn to k e) (to x)) (some_defines (in_eqns to (k + new_in_eqn e) es) (to x)) (one_said to k seen own after owned e s (omega (arith, f)) c.0 h l))
        (λ l. or_right (defines (in_eqn to k e) (to x)) (some_defines (in_eqns to (k + new_in_eqn e) es) (to x))
        (some_said to (k + new_in_eqn e) seen own after owned es (later to k (k + new_in_eqn e) seen own after owned (omega arith) s) (omega (arith, f)) c.1 h l))
        (or_cases (defines e x) (some_defines es x) d)

    one_said : (to : List ℕ → List ℕ) (k : ℕ) (seen own after owned : Names) (e : Eqn) → State to k seen own after owned → k + new_in_eqn e ≤ 1000000 → EqnScoped seen own e → IsTrue (seen x) → IsTrue (defines e x) → IsTrue (defines (in_eqn to k e) (to x))
    one_said to k seen own after owned (define w ys e) s f c h d = left_there to ys x d
    one_said to k seen own after owned (switch w e arms) s f c h d = arms_said to k seen own after owned arms s f c h d
    one_said to k seen own after owned (reset w b e) s f c h d = block_defines_said to k seen own after owned b s f c h d
    one_said to k seen own after owned (automaton w ss) s f c h d = states_said to k seen own after owned ss s f c h d

    arms_said : (to : List ℕ → List ℕ) (k : ℕ) (seen own after owned : Names) (arms : Arms) → State to k seen own after owned → k + new_in_arms arms ≤ 1000000 → ArmsScoped seen own arms → IsTrue (seen x) → IsTrue (arms_define arms x) → IsTrue (arms_define (in_arms to k arms) (to x))
    arms_said to k seen own after owned no_arm s f c h d = d
    arms_said to k seen own after owned (more_arms q b w arms) s f c h d =
        ⊎_elim (λ l. or_left (block_defines (in_block to k b) (to x)) (arms_define (in_arms to (k + new_in_block b) arms) (to x)) (block_defines_said to k seen own after owned b s (omega (arith, f)) c.0 h l))
        (λ l. or_right (block_defines (in_block to k b) (to x)) (arms_define (in_arms to (k + new_in_block b) arms) (to x))
        (arms_said to (k + new_in_block b) seen own after owned arms (later to k (k + new_in_block b) seen own after owned (omega arith) s) (omega (arith, f)) c.1 h l))
        (or_cases (block_defines b x) (arms_define arms x) d)

    states_said : (to : List ℕ → List ℕ) (k : ℕ) (seen own after owned : Names) (ss : States) → State to k seen own after owned → k + new_in_states ss ≤ 1000000 → StatesScoped seen own ss → IsTrue (seen x) → IsTrue (states_define ss x) → IsTrue (states_define (in_states to k ss) (to x))
    states_said to k seen own after owned no_state s f c h d = d
    states_said to k seen own after owned (more_states n (block ds es) until unless w ss) s f c h d =
        ⊎_elim (λ l. or_left (block_defines (in_block to k (block ds es)) (to x)) (states_define (in_states to (k + (new_in_decls ds + new_in_eqns es)) ss) (to x)) (block_defines_said to k seen own after owned (block ds es) s (omega (arith, f)) c.0 h l))
        (λ l. or_right (block_defines (in_block to k (block ds es)) (to x)) (states_define (in_states to (k + (new_in_decls ds + new_in_eqns es)) ss) (to x))
        (states_said to (k + (new_in_decls ds + new_in_eqns es)) seen own after owned ss (later to k (k + (new_in_decls ds + new_in_eqns es)) seen own after owned (omega arith) s) (omega (arith, f)) c.1 h l))
        (or_cases (block_defines (block ds es) x) (states_define ss x) d)

-- ---- names in their scopes, under other names

mutual
  block_numbered : (to : List ℕ → List ℕ) (k : ℕ) (seen own after owned : Names) (b : Block) → State to k seen own after owned → k + new_in_block b ≤ 1000000 → BlockScoped seen own b → BlockScoped after owned (in_block to k b)
  block_numbered to k seen own after owned (block ds es) s f c =
      let few : k + new_in_decls ds ≤ 1000000 = omega (arith, f) in
      let inner : k + new_in_decls ds + new_in_eqns es ≤ 1000000 = omega (arith, f) in
      let said = declaring to k ds in
      let more = renamed_decls said ds in
      let names = in_eqns said (k + new_in_decls ds) es in
      let next = entered to k seen own after owned s ds c.0 c.1 few in
      let defined : (y : List ℕ) → Comes said ds y → IsTrue (some_defines names y) =
      λ y r. subst (λ z. IsTrue (some_defines names z)) r.2
      (some_said r.0 said (k + new_in_decls ds) (also seen ds) (also own ds) (also after more) (also owned more) es next inner c.3 (or_left (declares ds r.0) (seen r.0) r.1) (c.2 r.0 r.1)) in (
        entered_once to k seen own after owned s ds c.0 c.1 few,
        entered_fresh to k seen own after owned s ds c.0 c.1 few,
        (λ y h. defined y (renamed_back said ds y h)),
        eqns_numbered said (k + new_in_decls ds) (also seen ds) (also own ds) (also after more) (also owned more) es next inner c.3,
      )

  eqns_numbered : (to : List ℕ → List ℕ) (k : ℕ) (seen own after owned : Names) (es : Eqns) → State to k seen own after owned → k + new_in_eqns es ≤ 1000000 → EqnsScoped seen own es → EqnsScoped after owned (in_eqns to k es)
  eqns_numbered to k seen own after owned no_eqn s f c = tt
  eqns_numbered to k seen own after owned (more_eqns e es) s f c = (
    eqn_numbered to k seen own after owned e s (omega (arith, f)) c.0,
    eqns_numbered to (k + new_in_eqn e) seen own after owned es (later to k (k + new_in_eqn e) seen own after owned (omega arith) s) (omega (arith, f)) c.1,
  )

  eqn_numbered : (to : List ℕ → List ℕ) (k : ℕ) (seen own after owned : Names) (e : Eqn) → State to k seen own after owned → k + new_in_eqn e ≤ 1000000 → EqnScoped seen own e → EqnScoped after owned (in_eqn to k e)
  eqn_numbered to k seen own after owned (define w ys e) s f c = left_owned to own owned ys s.owns c
  eqn_numbered to k seen own after owned (switch w e arms) s f c = arms_numbered to k seen own after owned arms s f c
  eqn_numbered to k seen own after owned (reset w b e) s f c = block_numbered to k seen own after owned b s f c
  eqn_numbered to k seen own after owned (automaton w ss) s f c = states_numbered to k seen own after owned ss s f c

  arms_numbered : (to : List ℕ → List ℕ) (k : ℕ) (seen own after owned : Names) (arms : Arms) → State to k seen own after owned → k + new_in_arms arms ≤ 1000000 → ArmsScoped seen own arms → ArmsScoped after owned (in_arms to k arms)
  arms_numbered to k seen own after owned no_arm s f c = tt
  arms_numbered to k seen own after owned (more_arms q b w arms) s f c = (
    block_numbered to k seen own after owned b s (omega (arith, f)) c.0,
    arms_numbered to (k + new_in_block b) seen own after owned arms (later to k (k + new_in_block b) seen own after owned (omega arith) s) (omega (arith, f)) c.1,
  )

  states_numbered : (to : List ℕ → List ℕ) (k : ℕ) (seen own after owned : Names) (ss : States) → State to k seen own after owned → k + new_in_states ss ≤ 1000000 → StatesScoped seen own ss → StatesScoped after owned (in_states to k ss)
  states_numbered to k seen own after owned no_state s f c = tt
  states_numbered to k seen own after owned (more_states n (block ds es) until unless w ss) s f c = (
    block_numbered to k seen own after owned (block ds es) s (omega (arith, f)) c.0,
    states_numbered to (k + (new_in_decls ds + new_in_eqns es)) seen own after owned ss (later to k (k + (new_in_decls ds + new_in_eqns es)) seen own after owned (omega arith) s) (omega (arith, f)) c.1,
  )

-- ---- nodes

-- names of a source text are said as they are
pub at_first : (k : ℕ) (seen own : Names) → ((x : List ℕ) → IsTrue (seen x) → is_new x ≡ false) → State itself k seen own seen own
at_first k seen own p = record {
  plain = λ x h. refl;
  inj = λ x y h l e. e;
  back = λ z h. (z, h, refl);
  known = λ x h. inl (p x h);
  owns = λ x h. h;
}

contract_numbered : (seen : Names) (c : Option Contract) → ((x : List ℕ) → IsTrue (seen x) → is_new x ≡ false) → behind c ≤ 1000000 → ContractScoped seen c → ContractScoped seen (option_map in_contract c)
contract_numbered seen None p f s = tt
contract_numbered seen (Some c) p f s = block_numbered itself 1 seen no_names seen no_names c.body (at_first 1 seen no_names p) (omega (arith, f)) s

controls_kept : (c : Option Contract) → controls_of (option_map in_contract c) ≡ controls_of c
controls_kept None = refl
controls_kept (Some c) = refl

body_defines_said : (k : ℕ) (seen own : Names) (b : Block) → State itself k seen own seen own → k + new_in_block b ≤ 1000000 → BlockScoped seen own b → (x : List ℕ) → IsTrue (seen x) → IsTrue (some_defines (equations_of b) x) → IsTrue (some_defines (equations_of (in_block itself k b)) x)
body_defines_said k seen own (block ds es) s f c x h d =
    let few : k + new_in_decls ds ≤ 1000000 = omega (arith, f) in
    let inner : k + new_in_decls ds + new_in_eqns es ≤ 1000000 = omega (arith, f) in
    let said = declaring itself k ds in
    let more = renamed_decls said ds in
    subst (λ z. IsTrue (some_defines (in_eqns said (k + new_in_decls ds) es) z)) (seen_said itself k seen own seen own s ds c.0 c.1 few x h)
    (some_said x said (k + new_in_decls ds) (also seen ds) (also own ds) (also seen more) (also own more) es (entered itself k seen own seen own s ds c.0 c.1 few) inner c.3
    (or_right (declares ds x) (seen x) h) d)

pub node_numbered : NumberedLaw
node_numbered n f p s =
    let seen = also (interface n) (controls_of n.contract) in
    let own = also no_names n.outputs in
    let first = at_first (behind n.contract) seen own p in
    let all : behind n.contract + new_in_block n.body ≤ 1000000 = f in
    record {
      once = s.once;
      contract = contract_numbered (interface n) n.contract (λ x h. p x (or_right (declares (controls_of n.contract) x) (interface n x) h)) (omega (arith, all)) s.contract;
      body = subst (λ z. BlockScoped (also (interface n) z) own (in_block itself (behind n.contract) n.body)) (sym (controls_kept n.contract))
          (block_numbered itself (behind n.contract) seen own seen own n.body first all s.body);
      outputs = λ x h. body_defines_said (behind n.contract) seen own n.body first all s.body x
          (or_right (declares (controls_of n.contract) x) (interface n x) (or_left (declares n.outputs x) (also no_names n.inputs x) h)) (s.outputs x h);
    }
