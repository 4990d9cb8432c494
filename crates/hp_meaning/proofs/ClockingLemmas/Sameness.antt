-- The tests of places and of steps tell whether they are the same.
use Rattle.std.proofs.Common.{◌≡◌, ℕ, List, [], refl, ap, ap₂, subst}
use Rattle.std.proofs.lemmas.Slice.Eq.{bytes_eq-Decides}
use Rattle.std.specs.Prelude.{Bool, true, false, ◌&&◌, IsTrue}
use Rattle.std.specs.Str.{bytes_eq}
use Rattle.std.specs.Bool.{Decides}
use Rattle.hp_tree.specs.declared.decl.Cons.{Cons}
use Rattle.hp_tree.specs.declared.decl.Cons.TheVariants.{False, True, Named as NamedCons}
use Rattle.hp_tree.specs.Instant.{Place}
use Rattle.hp_meaning.specs.Causal.RanksOfPoints.{same_place}
use Rattle.hp_meaning.proofs.CausalLemmas.Ranking.{place_same, same_place_refl}
use Rattle.hp_meaning.specs.Clocking.Clocking.{On}
use Rattle.hp_meaning.specs.Clocking.Solving.{same_constructor, same_on}

pub both_tell : {P Q R : Type 0} (d b : Bool) → Decides d P → Decides b Q → (P → Q → R) → (R → P) → (R → Q) → Decides (d && b) R
both_tell true true f g j k l = ((λ e. j (f.0 refl) (g.0 refl)), λ r. refl)
both_tell true false f g j k l = ((λ e. absurd (cc e)), λ r. g.1 (l r))
both_tell false b f g j k l = ((λ e. absurd (cc e)), λ r. f.1 (k r))

pub same_place_tells : (p q : Place) → Decides (same_place p q) (p ≡ q)
same_place_tells p q = (place_same p q, λ e. subst (λ z. IsTrue (same_place p z)) e (same_place_refl p))

abbrev name_of : Cons → List ℕ
name_of (NamedCons x) = x
name_of c = []

pub same_constructor_tells : (c d : Cons) → Decides (same_constructor c d) (c ≡ d)
same_constructor_tells False False = ((λ e. refl), λ e. refl)
same_constructor_tells False True = ((λ e. absurd (cc e)), λ e. absurd (cc e))
same_constructor_tells False (NamedCons y) = ((λ e. absurd (cc e)), λ e. absurd (cc e))
same_constructor_tells True False = ((λ e. absurd (cc e)), λ e. absurd (cc e))
same_constructor_tells True True = ((λ e. refl), λ e. refl)
same_constructor_tells True (NamedCons y) = ((λ e. absurd (cc e)), λ e. absurd (cc e))
same_constructor_tells (NamedCons x) False = ((λ e. absurd (cc e)), λ e. absurd (cc e))
same_constructor_tells (NamedCons x) True = ((λ e. absurd (cc e)), λ e. absurd (cc e))
same_constructor_tells (NamedCons x) (NamedCons y) =
    ((λ e. ap NamedCons ((bytes_eq-Decides x y).0 e)), λ e. (bytes_eq-Decides x y).1 (ap name_of e))

pub same_on_tells : (o k : On) → Decides (same_on o k) (o ≡ k)
same_on_tells o k =
    both_tell (same_constructor o.0 k.0) (bytes_eq o.1 k.1) (same_constructor_tells o.0 k.0) (bytes_eq-Decides o.1 k.1)
    (λ e f. ap₂ (λ c x. (c, x)) e f) (λ e. ap (λ z. z.0) e) (λ e. ap (λ z. z.1) e)
