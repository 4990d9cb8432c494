-- Chains of reads in a fed node, and in the node before: it reads in no circle where y does not depend on what is given under x.
use Rattle.std.proofs.Common.{◌≡◌, ℕ, List, [], ◌∷◌, inl, inr, refl, sym, subst}
use Rattle.std.specs.Prelude.{◌⊎◌}
use Rattle.hp_tree.specs.Blocks.{Decl, Eqns}
use Rattle.hp_tree.specs.Programs.{Node}
use Rattle.hp_tree.specs.Instant.{Inputs, Controls, Body, Named, Place}
use Rattle.hp_meaning.specs.Causal.Sources.{none, only, both, also, IsRead}
use Rattle.hp_meaning.specs.Causal.Causality.{Reads, Chain, IsCausal}
use Rattle.hp_meaning.specs.Causal.InputDependence.{sources_with_inputs, ChainWithInputs, SameReadsLaw}
use Rattle.law_choices.proofs.IndependentLemmas.Ours.{with_body, IsOurs, reads_ours, given_reads_none}
use Rattle.law_choices.proofs.IndependentLemmas.Fed.{Feeds, fed}
use Rattle.law_choices.proofs.IndependentLemmas.Fed as parts

module _ (n : Node) (ds : List Decl) (es : Eqns) (x y : List ℕ) (px : Place) (f : Feeds n ds es x y px) where
  abbrev N : Node
  N = with_body n ds es

  abbrev F : Node
  F = fed n ds es x y

  abbrev X : Place
  X = parts.X n ds es x y px f

  abbrev Y : Place
  Y = parts.Y n ds es x y px f

  abbrev Kept : Place → Type 0
  Kept p = parts.Kept n ds es x y px f p

  -- a place reads what is given under x by some chain, in the node before
  abbrev pub Reaches : Place → Type 0
  Reaches p = (between : List Place) × ChainWithInputs N p between px

  abbrev Passes : Place → Place → Type 0
  Passes p q = (between : List Place) × Chain F p between q

  joined : (p : Place) (first : List Place) (q : Place) (second : List Place) (r : Place) → Chain F p first q → Chain F q second r → Passes p r
  joined p [] q second r c d = (q ∷ second, (c, d))
  joined p (s ∷ first) q second r c d = let rest = joined s first q second r c.1 d in (s ∷ rest.0, (c.0, rest.1))

  -- a chain to x from a place that stays
  reaches : (p : Place) (between : List Place) → Kept p → Chain F p between X → Reaches p
  reaches p [] k c = by (parts.step n ds es x y px f p X k c)
    where
      by : parts.Stepped n ds es x y px f p X → Reaches p
      by (inl h) = ([], h.1)
      by (inr h) = absurd (parts.x_goes n ds es x y px f h.1)
  reaches p (q ∷ qs) k c = by (parts.step n ds es x y px f p q k c.0) (λ g. reaches q qs g c.1)
    where
      by : parts.Stepped n ds es x y px f p q → (Kept q → Reaches q) → Reaches p
      by (inl h) rest = ([], h.1)
      by (inr h) rest = let r = rest h.1 in (q ∷ r.0, (h.0, r.1))

  -- the end of a chain stays, or is x
  ends : (p : Place) (between : List Place) (q : Place) → Chain F p between q → Kept q ⊎ (q ≡ X)
  ends p [] q c = by (parts.kept_or n ds es x y px f p)
    where
      stepped : parts.Stepped n ds es x y px f p q → Kept q ⊎ (q ≡ X)
      stepped (inl h) = inr h.0
      stepped (inr h) = inl h.1

      by : Kept p ⊎ ((q : Place) → Reads F p q → q ≡ Y) → Kept q ⊎ (q ≡ X)
      by (inl k) = stepped (parts.step n ds es x y px f p q k c)
      by (inr h) = inl (subst Kept (sym (h q c)) (parts.y_kept n ds es x y px f))
  ends p (r ∷ rs) q c = ends r rs q c.1

  x_to : (q : Place) → Reads F X q → q ≡ Y
  x_to q h = by (subst (IsRead q) (parts.x_reads n ds es x y px f) h)
    where
      by : IsRead q (both (also none) (only Y)) → q ≡ Y
      by (inl h) = absurd h
      by (inr h) = h

  x_reads_y : Reads F X Y
  x_reads_y = subst (IsRead Y) (sym (parts.x_reads n ds es x y px f)) (inr refl)

  -- From x a chain goes to y.
  from_x : (between : List Place) (q : Place) → Chain F X between q → (q ≡ Y) ⊎ Passes Y q
  from_x [] q c = inl (x_to q c)
  from_x (r ∷ rs) q c = inr (rs, subst (λ z. Chain F z rs q) (x_to r c.0) c.1)

  module _ (same : SameReadsLaw) (causal : IsCausal N) (independent : Reaches Y → ⊥) where
    -- a chain between places that stay is one of the node before, or passes x
    kept_chain : (p : Place) (between : List Place) (q : Place) → Kept p → Kept q → Chain F p between q → Chain N p between q ⊎ (Passes p X × Passes X q)
    kept_chain p [] q k g c = by (parts.step n ds es x y px f p q k c)
      where
        by : parts.Stepped n ds es x y px f p q → Chain N p [] q ⊎ (Passes p X × Passes X q)
        by (inl h) = absurd (parts.x_goes n ds es x y px f (subst Kept h.0 g))
        by (inr h) = inl ((same N p q (parts.no_input n ds es x y px f q g)).0 h.0)
    kept_chain p (r ∷ rs) q k g c = by (parts.step n ds es x y px f p r k c.0) (λ m. kept_chain r rs q m g c.1)
      where
        further : Reads N p r → Chain N r rs q ⊎ (Passes r X × Passes X q) → Chain N p (r ∷ rs) q ⊎ (Passes p X × Passes X q)
        further h (inl d) = inl (h, d)
        further h (inr d) = inr ((r ∷ d.0.0, (c.0, d.0.1)), d.1)

        by : parts.Stepped n ds es x y px f p r → (Kept r → Chain N r rs q ⊎ (Passes r X × Passes X q)) → Chain N p (r ∷ rs) q ⊎ (Passes p X × Passes X q)
        by (inl h) rest = inr (([], subst (λ z. Reads F p z) h.0 c.0), (rs, subst (λ z. Chain F z rs q) h.0 c.1))
        by (inr h) rest = further ((same N p r (parts.no_input n ds es x y px f r h.1)).0 h.0) (rest h.1)

    no_way_back : Passes X X → ⊥
    no_way_back c = by (from_x c.0 X c.1)
      where
        by : (X ≡ Y) ⊎ Passes Y X → ⊥
        by (inl e) = parts.x_goes n ds es x y px f (subst Kept (sym e) (parts.y_kept n ds es x y px f))
        by (inr c) = independent (reaches Y c.0 (parts.y_kept n ds es x y px f) c.1)

    pub fed_causal : IsCausal F
    fed_causal p between c = by (ends p between p c)
      where
        around : Chain N p between p ⊎ (Passes p X × Passes X p) → ⊥
        around (inl d) = causal p between d
        around (inr d) = no_way_back (joined X d.1.0 p d.0.0 X d.1.1 d.0.1)

        by : Kept p ⊎ (p ≡ X) → ⊥
        by (inl k) = around (kept_chain p between p k k c)
        by (inr e) = no_way_back (between, subst (λ z. Chain F z between z) e c)

  -- ---- back

  -- a chain of the node before to what is given under x is one of the fed node to x
  chain_back : (p : Place) (between : List Place) → Kept (Body ∷ p) → ChainWithInputs N (Body ∷ p) between px → Passes (Body ∷ p) X
  chain_back p [] k c = ([], parts.reads_x n ds es x y px f p k c)
  chain_back p (q ∷ qs) k c = by q (reads_ours n ds es p q c.0) c (λ r g d. chain_back r qs g d)
    where
      stuck : (q : Place) → sources_with_inputs N q ≡ none → ChainWithInputs N q qs px → ⊥
      stuck q e d = none_read qs d
        where
          none_read : (rs : List Place) → ChainWithInputs N q rs px → ⊥
          none_read [] h = subst (IsRead px) e h
          none_read (r ∷ rs) h = subst (IsRead r) e h.0

      further : (q : Place) → IsRead (Body ∷ q) (sources_with_inputs N (Body ∷ p)) → Kept (Body ∷ q) → Passes (Body ∷ q) X → Passes (Body ∷ p) X
      further q h g r = ((Body ∷ q) ∷ r.0, (parts.reads_still n ds es x y px f p (Body ∷ q) k h g, r.1))

      by : (q : Place) → IsOurs q → ChainWithInputs N (Body ∷ p) (q ∷ qs) px → ((r : Place) → Kept (Body ∷ r) → ChainWithInputs N (Body ∷ r) qs px → Passes (Body ∷ r) X) → Passes (Body ∷ p) X
      by (Controls ∷ q) o d rest = absurd (stuck (Controls ∷ q) (given_reads_none n ds es Controls q tt) d.1)
      by (Inputs ∷ q) o d rest = absurd (stuck (Inputs ∷ q) (given_reads_none n ds es Inputs q tt) d.1)
      by (Body ∷ q) o d rest = either (parts.kept_or_none n ds es x y px f q)
        where
          either : Kept (Body ∷ q) ⊎ (sources_with_inputs N (Body ∷ q) ≡ none) → Passes (Body ∷ p) X
          either (inl g) = further q d.0 g (rest q g d.1)
          either (inr e) = absurd (stuck (Body ∷ q) e d.1)
      by q o d rest = absurd o

  pub feeds_circle : IsCausal F → Reaches Y → ⊥
  feeds_circle causal r =
      let c = chain_back (Named y ∷ []) r.0 (parts.y_kept n ds es x y px f) r.1 in
      causal X (Y ∷ c.0) (x_reads_y, c.1)
