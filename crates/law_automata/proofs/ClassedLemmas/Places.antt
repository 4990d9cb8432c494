-- What is known of names in the parts of a program, and in what stands for them without automata.
use Rattle.std.proofs.Common.{◌≡◌, ℕ, ◌⊎◌, inl, inr, Bool, true, false, ◌||◌, not, if◌then◌else◌, List, [], ◌∷◌, refl, sym, ap, subst, ◌∙◌}
use Rattle.std.specs.Prelude.{IsFalse, Option, Some}
use Rattle.hp_base.specs.declared.span.Span.{Span}
use Rattle.hp_tree.specs.Blocks.{Decl, Block, block, Eqns, Eqn, eqns_of}
use Rattle.hp_tree.specs.Instant.{Named}
use Rattle.hp_tree.specs.Meaning.{declares, defines, some_defines}
use Rattle.hp_init.specs.Classes.{Classes, Assignment, Known, or_first, known_in, known_within}
use Rattle.hp_tables.specs.Defining.Names.{outer_names}
use Rattle.hp_automata.specs.Names.{is_name, missing}
use Rattle.hp_automata.specs.Lowering.{all_kept}
use Rattle.law_automata.specs.Lowered.OldNames.{IsOld}
use Rattle.law_automata.specs.Lowered.Removable.{Known as Names, DeclsOk}
use Rattle.law_automata.proofs.LoweredLemmas.Lookups.{mapped, kept_defined}
use Rattle.law_automata.proofs.LoweredLemmas.Renaming.{Renames, to_one, local, local_kept, not_local}
use Rattle.law_automata.proofs.LoweredLemmas.Tests.{or_left, and_first, true_false, name_missing}
use Rattle.law_automata.specs.Classed.Good.{known_of, own_classes}
use Rattle.law_automata.specs.Classed.Relates.{NewFirst, Relates}

-- ---- values by tests

pub within_first : (b v : Bool) → IsFalse v → IsFalse (if b then false else v)
within_first true v h = refl
within_first false v h = h

in_first : (b : Bool) (u v : Bool) → IsFalse u → IsFalse v → IsFalse (if b then u else v)
in_first true u v h g = h
in_first false u v h g = g

declared_first : (b s : Bool) (v : Option Bool) → IsFalse s → IsFalse (or_first v) → IsFalse (or_first (if b then Some s else v))
declared_first true s v h g = h
declared_first false s v h g = g

-- ---- new names

pub new_within : (e : Eqn) (k : Known) → NewFirst k → NewFirst (known_within e k)
new_within e k h = record { variables = h.variables; values = λ y n. within_first (defines e y) (k.values y) (h.values y n) }

pub new_in : (ds : List Decl) (es : Eqns) (own : Classes) (k : Known) → ((y : List ℕ) → (IsOld y → ⊥) → IsFalse (own y)) → NewFirst k → NewFirst (known_of ds es own k)
new_in ds es own k o h = record { variables = known; values = λ y n. in_first (some_defines es y) (or_first (if declares ds y then Some (own y) else k.variables y)) (k.values y) (known y n) (h.values y n) }
  where
    known : (y : List ℕ) → (IsOld y → ⊥) → IsFalse (or_first (if declares ds y then Some (own y) else k.variables y))
    known y n = declared_first (declares ds y) (own y) (k.variables y) (o y n) (h.variables y n)

-- ---- within a control equation, and what stands for it

pub relates_within : (to : List ℕ → List ℕ) (k l : Known) (e f : Eqn) → ((x : List ℕ) → IsOld x → defines e x ≡ true → defines f (to x) ≡ true) → Relates to k l → Relates to (known_within e k) (known_within f l)
relates_within to k l e f complete r =
    record {
      variables = r.variables;
      values = λ x o h. by (defines e x) (defines f (to x)) (k.values x) (l.values (to x)) (complete x o) (r.values x o) h;
      fresh = new_within f l r.fresh;
    }
  where
    by : (a b u v : Bool) → (a ≡ true → b ≡ true) → (u ≡ false → v ≡ false) → (if a then false else u) ≡ false → (if b then false else v) ≡ false
    by a true u v f g h = refl
    by true false u v f g h = absurd (cc (f refl))
    by false false u v f g h = g h

-- ---- in a block

both_declared : (a b s c : Bool) (u v : Option Bool) → a ≡ true → b ≡ true → s ≡ c → or_first (if a then Some s else u) ≡ or_first (if b then Some c else v)
both_declared true true s c u v h g e = e
both_declared false b s c u v h g e = absurd cc
both_declared a false s c u v h g e = absurd cc

one_declared : (a b s c : Bool) (u v : Option Bool) → a ≡ true → b ≡ false → s ≡ or_first v → or_first (if a then Some s else u) ≡ or_first (if b then Some c else v)
one_declared true false s c u v h g e = e
one_declared false b s c u v h g e = absurd cc
one_declared a true s c u v h g e = absurd cc

none_declared : (a b s c : Bool) (u v : Option Bool) → a ≡ false → b ≡ false → or_first u ≡ or_first v → or_first (if a then Some s else u) ≡ or_first (if b then Some c else v)
none_declared false false s c u v h g e = e
none_declared true b s c u v h g e = absurd cc
none_declared a true s c u v h g e = absurd cc

module _ {outer : Names} {d : ℕ} {to : List ℕ → List ℕ} (rn : Renames outer d to) (ds : List Decl) (es : Eqns) (ok : DeclsOk outer es ds) (class : Assignment) where
  pub own_new : (y : List ℕ) → (IsOld y → ⊥) → IsFalse (own_classes ds class y)
  own_new y n = by (declares ds y) refl
    where
      by : (b : Bool) → declares ds y ≡ b → IsFalse (if b then class (Named y ∷ []) else false)
      by true q = absurd (n (local outer es ds ok y q).old)
      by false q = refl

  own_declared : (x : List ℕ) → declares ds x ≡ true → own_classes ds class x ≡ class (Named x ∷ [])
  own_declared x q = ap (λ b. if b then class (Named x ∷ []) else false) q

  own_others : (x : List ℕ) → declares ds x ≡ false → own_classes ds class x ≡ false
  own_others x q = ap (λ b. if b then class (Named x ∷ []) else false) q

  module _ (made : List Decl) (more : Names) (fs : Eqns) (k l : Known) (r : Relates to k l) (declared : (y : List ℕ) → declares made y ≡ (declares ds y || more y)) (news : (y : List ℕ) → more y ≡ true → IsOld y → ⊥)
      (complete : (x : List ℕ) → IsOld x → some_defines es x ≡ true → some_defines fs (to x) ≡ true)
      (others : (x : List ℕ) → IsOld x → some_defines es x ≡ false → some_defines fs (to x) ≡ true → (IsOld (to x) → ⊥) ⊎ IsFalse (or_first (k.variables x))) where
    abbrev old_variables : List ℕ → Option Bool
    old_variables x = if declares ds x then Some (class (Named x ∷ [])) else k.variables x

    abbrev new_variables : List ℕ → Option Bool
    new_variables y = if declares made y then Some (own_classes ds class y) else l.variables y

    variables_at : (x : List ℕ) → IsOld x → or_first (new_variables (to x)) ≡ or_first (old_variables x)
    variables_at x o = by (declares ds x) refl
      where
        by_more : declares ds x ≡ false → declares ds (to x) ≡ false → (b : Bool) → more (to x) ≡ b → or_first (new_variables (to x)) ≡ or_first (old_variables x)
        by_more q n true h =
            one_declared (declares made (to x)) (declares ds x) (own_classes ds class (to x)) (class (Named x ∷ [])) (l.variables (to x)) (k.variables x) (declared (to x) ∙ (ap (λ b. b || more (to x)) n ∙ h)) q
            (own_others (to x) n ∙ (sym (r.fresh.variables (to x) (news (to x) h)) ∙ r.variables x o))
        by_more q n false h =
            none_declared (declares made (to x)) (declares ds x) (own_classes ds class (to x)) (class (Named x ∷ [])) (l.variables (to x)) (k.variables x) (declared (to x) ∙ (ap (λ b. b || more (to x)) n ∙ h)) q (r.variables x o)

        by : (b : Bool) → declares ds x ≡ b → or_first (new_variables (to x)) ≡ or_first (old_variables x)
        by true q =
            subst (λ z. or_first (new_variables z) ≡ or_first (old_variables x)) (sym (local_kept rn es ds ok x q))
            (both_declared (declares made x) (declares ds x) (own_classes ds class x) (class (Named x ∷ [])) (l.variables x) (k.variables x) (declared x ∙ or_left (declares ds x) (more x) q) q (own_declared x q))
        by false q = by_more q (not_local rn es ds ok x o q) (more (to x)) refl

    -- a name without an equation there is declared further out
    further_out : (x : List ℕ) → some_defines es x ≡ false → or_first (old_variables x) ≡ or_first (k.variables x)
    further_out x q = by (declares ds x) refl
      where
        by : (b : Bool) → declares ds x ≡ b → or_first (if b then Some (class (Named x ∷ [])) else k.variables x) ≡ or_first (k.variables x)
        by true h = absurd (true_false (some_defines es x) (local outer es ds ok x h).defined q)
        by false h = refl

    abbrev as_read : List ℕ → Bool → Bool
    as_read x b = if b then or_first (old_variables x) else k.values x

    abbrev read_there : List ℕ → Bool → Bool
    read_there x b = if b then or_first (new_variables (to x)) else l.values (to x)

    values_at : (x : List ℕ) → IsOld x → IsFalse (if some_defines es x then or_first (old_variables x) else k.values x) → IsFalse (if some_defines fs (to x) then or_first (new_variables (to x)) else l.values (to x))
    values_at x o h = by (some_defines es x) refl
      where
        first_by : some_defines es x ≡ false → (IsOld (to x) → ⊥) ⊎ IsFalse (or_first (k.variables x)) → IsFalse (or_first (new_variables (to x)))
        first_by q (inl n) = (new_in made fs (own_classes ds class) l own_new r.fresh).variables (to x) n
        first_by q (inr f) = variables_at x o ∙ (further_out x q ∙ f)

        by_there : some_defines es x ≡ false → (b : Bool) → some_defines fs (to x) ≡ b → IsFalse (read_there x (some_defines fs (to x)))
        by_there q true g = ap (read_there x) g ∙ first_by q (others x o q g)
        by_there q false g = ap (read_there x) g ∙ r.values x o (sym (ap (as_read x) q) ∙ h)

        by : (b : Bool) → some_defines es x ≡ b → IsFalse (read_there x (some_defines fs (to x)))
        by true q = ap (read_there x) (complete x o q) ∙ (variables_at x o ∙ (sym (ap (as_read x) q) ∙ h))
        by false q = by_there q (some_defines fs (to x)) refl

    pub relates_in : Relates to (known_in (block ds es) class k) (known_of made fs (own_classes ds class) l)
    relates_in = record { variables = variables_at; values = values_at; fresh = new_in made fs (own_classes ds class) l own_new r.fresh }

-- ---- names that keep their last values

pub left_named : {outer : Names} {d : ℕ} {to : List ℕ → List ℕ} → Renames outer d to → (s : Span) (xs : List (List ℕ)) → ((x : List ℕ) → is_name xs x ≡ true → IsOld x) → (b : Block) (x : List ℕ) → IsOld x
    → some_defines (eqns_of (all_kept to s xs b)) (to x) ≡ true → is_name xs x ≡ true
left_named {outer} {d} {to} rn s xs old b x o h =
    let m = mapped to (missing (is_name (outer_names b)) xs) (to x) (sym (kept_defined to s (missing (is_name (outer_names b)) xs) (to x)) ∙ h) in
    let own : is_name xs m.0 ≡ true = and_first (is_name xs m.0) (not (is_name (outer_names b) m.0)) (sym (name_missing (is_name (outer_names b)) xs m.0) ∙ m.1) in
    subst (λ z. is_name xs z ≡ true) (sym (to_one rn x m.0 o (old m.0 own) m.2)) own
