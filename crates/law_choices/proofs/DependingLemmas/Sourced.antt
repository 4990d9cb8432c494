-- All that something depends on: in sources that are read as others, and in the body of a node, inputs among it.
use Rattle.std.proofs.Common.{◌≡◌, ℕ, ◌<◌, List, [], ◌∷◌, inl, inr, refl, sym, ap, ◌∙◌, subst}
use Rattle.std.proofs.Math.Path.{fun_ext}
use Rattle.hp_tree.specs.Blocks.{Decl, block, Eqns}
use Rattle.hp_tree.specs.Programs.{Node}
use Rattle.hp_tree.specs.Instant.{Inputs, Controls, Body, Place}
use Rattle.hp_tree.specs.Meaning.{controls_of}
use Rattle.hp_meaning.specs.Causal.Sources.{Sources, none, only, both, also, Within, IsSource, NameSources, PlaceSources, below}
use Rattle.hp_meaning.specs.Causal.WhatIsRead.{control_in, in_block}
use Rattle.hp_meaning.specs.Causal.Causality.{sources, DependsBy, Ranked}
use Rattle.hp_meaning.specs.Causal.InputDependence.{sources_with_inputs}
use Rattle.law_choices.specs.Independent.Dependence.{given_in}
use Rattle.law_choices.specs.Depending.Places.{DependsByWithInputs}
use Rattle.law_choices.proofs.IndependentLemmas.Given.{Shape, shape}
use Rattle.law_choices.proofs.IndependentLemmas.Moved.{moved, mn, move_in_block}
use Rattle.law_choices.proofs.IndependentLemmas.Ours.{with_body, ours, same_ours, IsOurs, given_reads_none}

-- what is so of all sources is so of each
pub one_source : (P : Place → Type 0) (s : Sources) (q : Place) → Within P s → IsSource q s → P q
one_source P none q h i = absurd i
one_source P (only r) q h i = subst P (sym i) h
one_source P (both s t) q h (inl i) = one_source P s q h.0 i
one_source P (both s t) q h (inr i) = one_source P t q h.1 i
one_source P (also s) q h i = one_source P s q h i

-- and back
pub all_sources : (P : Place → Type 0) (s : Sources) → ((q : Place) → IsSource q s → P q) → Within P s
all_sources P none f = tt
all_sources P (only r) f = f r refl
all_sources P (both s t) f = (all_sources P s (λ q i. f q (inl i)), all_sources P t (λ q i. f q (inr i)))
all_sources P (also s) f = all_sources P s f

module _ (g : Place → Sources) where
  pub sources_moved : (q : Place) (s : Sources) → IsSource q (moved g s) → (r : Place) × IsSource r s × IsSource q (g r)
  sources_moved q none h = absurd h
  sources_moved q (only p) h = (p, refl, h)
  sources_moved q (both s t) (inl h) = let r = sources_moved q s h in (r.0, inl r.1, r.2)
  sources_moved q (both s t) (inr h) = let r = sources_moved q t h in (r.0, inr r.1, r.2)
  sources_moved q (also s) h = sources_moved q s h

  pub moved_sources : (q r : Place) (s : Sources) → IsSource r s → IsSource q (g r) → IsSource q (moved g s)
  moved_sources q r none h k = absurd h
  moved_sources q r (only p) h k = subst (λ z. IsSource q (g z)) h k
  moved_sources q r (both s t) (inl h) k = inl (moved_sources q r s h k)
  moved_sources q r (both s t) (inr h) k = inr (moved_sources q r t h k)
  moved_sources q r (also s) h k = moved_sources q r s h k

module _ (n : Node) (ds : List Decl) (es : Eqns) where
  abbrev N : Node
  N = with_body n ds es

  is_ours : (q r : Place) → IsSource q (ours n ds es r) → IsOurs q
  is_ours q (Body ∷ p) h = subst IsOurs (sym h) tt
  is_ours q (Controls ∷ p) h = subst IsOurs (sym h) tt
  is_ours q (Inputs ∷ p) h = subst IsOurs (sym h) tt
  is_ours q r h = absurd h

  pub sources_ours : (p q : Place) → IsSource q (sources_with_inputs N (Body ∷ p)) → IsOurs q
  sources_ours p q h =
      let r = sources_moved (ours n ds es) q (sources_with_inputs N (Body ∷ p)) (subst (IsSource q) (sym (same_ours n ds es p)) h) in
      is_ours q r.0 r.2

  -- ---- without inputs

  abbrev seen : Place → Sources
  seen (Inputs ∷ p) = none
  seen p = only p

  given_seen : (z : List ℕ) → mn seen (given_in N) z ≡ control_in (controls_of n.contract) (below Controls only) z
  given_seen z = by (shape N z)
    where
      by : Shape N z → moved seen (given_in N z) ≡ control_in (controls_of n.contract) (below Controls only) z
      by (inl r) = ap (moved seen) r.0 ∙ sym r.1
      by (inr (inl r)) = ap (moved seen) r.1 ∙ sym r.2
      by (inr (inr r)) = ap (moved seen) r.1 ∙ sym r.2

  without_inputs : (p : Place) → moved seen (sources_with_inputs N (Body ∷ p)) ≡ sources N (Body ∷ p)
  without_inputs p =
      ap (λ (f : PlaceSources). f p) (move_in_block seen (block ds es) (given_in N) (below Body only)) ∙ ap (λ (m : NameSources). in_block (block ds es) m (below Body only) p) (fun_ext given_seen)

  body_source : (p q : Place) → IsSource (Body ∷ q) (sources_with_inputs N (Body ∷ p)) → IsSource (Body ∷ q) (sources N (Body ∷ p))
  body_source p q h = subst (IsSource (Body ∷ q)) (without_inputs p) (moved_sources seen (Body ∷ q) (Body ∷ q) (sources_with_inputs N (Body ∷ p)) h refl)

  control_source : (p q : Place) → IsSource (Controls ∷ q) (sources_with_inputs N (Body ∷ p)) → IsSource (Controls ∷ q) (sources N (Body ∷ p))
  control_source p q h = subst (IsSource (Controls ∷ q)) (without_inputs p) (moved_sources seen (Controls ∷ q) (Controls ∷ q) (sources_with_inputs N (Body ∷ p)) h refl)

  -- a place of the body that another one depends on has less rank
  pub body_falls : (r : Ranked N) (p q : Place) → IsSource (Body ∷ q) (sources_with_inputs N (Body ∷ p)) → r.rank (Body ∷ q) < r.rank (Body ∷ p)
  body_falls r p q h = one_source (λ z. r.rank z < r.rank (Body ∷ p)) (sources N (Body ∷ p)) (Body ∷ q) (r.falls (Body ∷ p)) (body_source p q h)

  -- ---- chains

  -- no chain of dependences leads to a place
  abbrev pub Clear : Place → Place → Type 0
  Clear end p = (between : List Place) → DependsByWithInputs N p between end → ⊥

  pub clear_next : (end p q : Place) → Clear end p → IsSource q (sources_with_inputs N p) → Clear end q
  clear_next end p q c h between d = c (q ∷ between) (h, d)

  -- a chain to a controllable variable is one without inputs
  pub to_control : (p q : Place) (between : List Place) → DependsByWithInputs N (Body ∷ p) between (Controls ∷ q) → DependsBy N (Body ∷ p) between (Controls ∷ q)
  to_control p q [] d = control_source p q d
  to_control p q (r ∷ rs) d = by r (sources_ours p r d.0) d (λ z e. to_control z q rs e)
    where
      ends_here : (z : Place) → sources_with_inputs N z ≡ none → (ws : List Place) → DependsByWithInputs N z ws (Controls ∷ q) → ⊥
      ends_here z e [] h = subst (IsSource (Controls ∷ q)) e h
      ends_here z e (w ∷ ws) h = subst (IsSource w) e h.0

      by : (r : Place) → IsOurs r → DependsByWithInputs N (Body ∷ p) (r ∷ rs) (Controls ∷ q) → ((z : Place) → DependsByWithInputs N (Body ∷ z) rs (Controls ∷ q) → DependsBy N (Body ∷ z) rs (Controls ∷ q))
          → DependsBy N (Body ∷ p) (r ∷ rs) (Controls ∷ q)
      by (Body ∷ z) o d rest = (body_source p z d.0, rest z d.1)
      by (Controls ∷ z) o d rest = absurd (ends_here (Controls ∷ z) (given_reads_none n ds es Controls z tt) rs d.1)
      by (Inputs ∷ z) o d rest = absurd (ends_here (Inputs ∷ z) (given_reads_none n ds es Inputs z tt) rs d.1)
      by r o d rest = absurd o
