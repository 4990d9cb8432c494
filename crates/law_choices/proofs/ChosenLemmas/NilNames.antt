-- All variables that a block defines are Nil alike in two instants of it after the same past.
use Rattle.std.proofs.Common.{◌≡◌, ℕ, zero, suc, ◌<◌, arith, List, [], ◌∷◌, refl, sym, ap, ◌∙◌}
use Rattle.std.specs.Prelude.{Bool, true, false, ◌&&◌, if◌then◌else◌}
use Rattle.hp_base.specs.declared.value.Value.{Value}
use Rattle.hp_base.specs.declared.value.Value.TheVariants.{Absent}
use Rattle.hp_base.specs.declared.ty.Const.{Const}
use Rattle.hp_tree.specs.declared.program.Item.{Item}
use Rattle.hp_tree.specs.Blocks.{Decl, Eqns, block}
use Rattle.hp_tree.specs.Programs.{TypeDecl}
use Rattle.hp_tree.specs.Operators.{abstraction, constant_of, is_there, marked}
use Rattle.hp_tree.specs.Instant.{Named, Equations, Place, Instant, Past, part, parts}
use Rattle.hp_tree.specs.Meaning.{Names, some_defines, inside, clock_in, lasts, scope}
use Rattle.hp_base.specs.Known.Known.{lookup}
use Rattle.hp_meaning.specs.Causal.Abstract.{callees}
use Rattle.hp_meaning.specs.Causal.Sources.{only, NameSources, Within, below}
use Rattle.hp_meaning.specs.Causal.WhatIsRead.{names_in, in_block}
use Rattle.hp_typing.specs.Scopes.{with_variables}
use Rattle.law_judged.specs.Typed.Scopes.{Scope}
use Rattle.hp_init.specs.Classes.{Classes, Assignment, Known, or_first, known_in}
use Rattle.law_values.specs.Valued.Classed.{EqnsDefinite, none_second, classes_in}
use Rattle.law_values.specs.Valued.Values.{Classing}
use Rattle.law_games.specs.Abstracted.Fitting.{Fits, BlockFits, held}
use Rattle.law_games.specs.Abstracted.Instances.{CalledFits}
use Rattle.law_choices.proofs.ChosenLemmas.Nils.{is_nil, Alike, Flags, not_nil}
use Rattle.law_choices.proofs.ChosenLemmas.NilBlocks.{defined_alike}

pub alike_by : (v v' w w' : Value) → v ≡ v' → w ≡ w' → Alike v' w' → Alike v w
alike_by v v' w w' e f h t u = ap is_nil e ∙ h (ap is_there (sym e) ∙ t) (ap is_there (sym f) ∙ u) ∙ ap is_nil (sym f)

if_true : (d : Bool) (v w : Value) → d ≡ true → (if d then v else w) ≡ v
if_true d v w e = ap (λ z. if z then v else w) e

false_true : {X : Type 0} → false ≡ true → X
false_true e = absurd (cc)

module _ (types : List TypeDecl) (items : List Item) (cls : Classing) (s : Scope) (kn : Known) (cl : Assignment) (ds : List Decl) (es : Eqns) (class : Assignment) (reads : NameSources) (w : Place → Place) (rank : Place → ℕ) (outer outer' last : Names) (past : Past) (free free' i j : Instant)
    (same_class : (x : List ℕ) → class (Named x ∷ []) ≡ or_first ((known_in (block ds es) cl kn).variables x)) (definite : EqnsDefinite (known_in (block ds es) cl kn) (λ p. cl (Equations ∷ p)) es)
    (h : BlockFits types true (CalledFits types true cls items) s none_second class outer (block ds es) i) (h' : BlockFits types true (CalledFits types true cls items) s none_second class outer' (block ds es) j)
    (m : (p : Place) → i p ≡ scope types abstraction (callees types items) (block ds es) false outer last (record { past = past; free = free }) i p) (m' : (p : Place) → j p ≡ scope types abstraction (callees types items) (block ds es) false outer' last (record { past = past; free = free' }) j p)
    (fl : Flags i free) (fl' : Flags j free') (falls : (p : Place) → Within (λ q. rank q < rank (w p)) (in_block (block ds es) reads (λ q. only (w q)) p)) where
  abbrev second : Classes
  second = classes_in es none_second class

  abbrev here : Names
  here = inside es outer i

  abbrev there : Names
  there = inside es outer' j

  abbrev last_here : Names
  last_here = lasts (λ (c : Const). marked (constant_of types c)) ds past last

  -- a name that is of class Second is one that the block defines
  defined_here : (P : Place → Type 0) → ((x : List ℕ) → some_defines es x ≡ true → P (w (Named x ∷ [])) → Alike (i (Named x ∷ [])) (j (Named x ∷ [])))
      → (x : List ℕ) → Within P (names_in es reads (λ q. only (w q)) x) → second x ≡ true → Alike (here x) (there x)
  defined_here P f x = by (some_defines es x) (f x)
    where
      by : (d : Bool) → (d ≡ true → P (w (Named x ∷ [])) → Alike (i (Named x ∷ [])) (j (Named x ∷ []))) → Within P (if d then only (w (Named x ∷ [])) else reads x) → (if d then class (Named x ∷ []) else none_second x) ≡ true
          → Alike (if d then i (Named x ∷ []) else outer x) (if d then j (Named x ∷ []) else outer' x)
      by true f u e = f refl u
      by false f u e = false_true e

  alike_below : (r : ℕ) (x : List ℕ) → some_defines es x ≡ true → rank (w (Named x ∷ [])) < r → Alike (i (Named x ∷ [])) (j (Named x ∷ []))
  alike_below zero x d l = absurd (omega arith)
  alike_below (suc r) x d l = by (class (Named x ∷ [])) refl (h.0 x).0 (h'.0 x).0 (λ y e z. alike_below r y e (omega arith))
    where
      by : (b : Bool) → class (Named x ∷ []) ≡ b
          → Fits types (some_defines es x && held types true (CalledFits types true cls items) here (clock_in ds x)) (lookup (with_variables s ds).variables x) (b && true) (i (Named x ∷ []))
          → Fits types (some_defines es x && held types true (CalledFits types true cls items) there (clock_in ds x)) (lookup (with_variables s ds).variables x) (b && true) (j (Named x ∷ []))
          → ((y : List ℕ) → some_defines es y ≡ true → rank (w (Named y ∷ [])) < rank (w (Named x ∷ [])) → Alike (i (Named y ∷ [])) (j (Named y ∷ [])))
          → Alike (i (Named x ∷ [])) (j (Named x ∷ []))
      by false e v v' more = λ t u. not_nil types _ _ (i (Named x ∷ [])) v ∙ sym (not_nil types _ _ (j (Named x ∷ [])) v')
      by true e v v' more =
          alike_by (i (Named x ∷ [])) _ (j (Named x ∷ [])) _ (m (Named x ∷ []) ∙ if_true (some_defines es x) _ Absent d) (m' (Named x ∷ []) ∙ if_true (some_defines es x) _ Absent d)
          (defined_alike (λ q. rank q < rank (w (Named x ∷ []))) types items cls (with_variables s ds) second (names_in es reads (λ q. only (w q))) here there last_here (defined_here (λ q. rank q < rank (w (Named x ∷ []))) more) (known_in (block ds es) cl kn) x (sym (same_class x) ∙ e) ds es (λ p. cl (Equations ∷ p)) (λ p. class (Equations ∷ p))
          (below Equations (λ q. only (w q))) (parts Equations past) (part Equations free) (part Equations free') (part Equations i) (part Equations j) definite h.1.1 h'.1.1 (λ p. m (Equations ∷ p)) (λ p. m' (Equations ∷ p)) (λ p. fl (Equations ∷ p)) (λ p. fl' (Equations ∷ p)) (falls (Named x ∷ [])))

  -- whatever is read
  pub all_alike : (P : Place → Type 0) (x : List ℕ) → Within P (names_in es reads (λ q. only (w q)) x) → second x ≡ true → Alike (here x) (there x)
  all_alike P = defined_here P (λ x d z. alike_below (suc (rank (w (Named x ∷ [])))) x d (omega arith))
