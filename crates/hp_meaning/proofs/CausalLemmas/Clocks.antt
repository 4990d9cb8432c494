-- Where the clocks of a node are right, reads carry clocks.
use Rattle.std.proofs.Common.{◌≡◌, ℕ, List, [], ◌∷◌, refl, sym, ◌∙◌, subst, ◌⊎◌, inl, inr, ⊎_elim}
use Rattle.std.proofs.lemmas.Slice.Eq.{bytes_eq-Decides}
use Rattle.std.specs.Prelude.{Bool, true, false, ◌&&◌, not, IsTrue, IsFalse, if◌then◌else◌, Option, None, Some}
use Rattle.std.specs.Str.{bytes_eq}
use Rattle.hp_base.specs.declared.span.Span.{Span}
use Rattle.hp_tree.specs.declared.block.Trans.{Trans}
use Rattle.hp_tree.specs.Expressions.{Expr, constant, variable, last_of, one, two, choose, pre, fby, arrow, when_is, merge, call, Exprs, no_expr, more_exprs, Parts, no_part, more_parts}
use Rattle.hp_tree.specs.Blocks.{Decl, Block, block, Eqns, no_eqn, more_eqns, Eqn, define, switch, reset, automaton, Arms, no_arm, more_arms, States, no_state, more_states}
use Rattle.hp_tree.specs.Programs.{Contract, Node}
use Rattle.hp_tree.specs.Instant.{Controls, Body, Observer, Assume, Enforce, Named, Equations, Head, Tail, Right as RightSide, Test, Arms as ArmsOf, States as StatesOf, Until, Unless, Active, First, Second, Third, Args, Place, Clock, without}
use Rattle.hp_tree.specs.Meaning.{declares, is_among, defines, some_defines, block_defines, clock_in, clock_of, controls_of}
use Rattle.hp_meaning.specs.Causal.Sources.{Sources, none, only, both, also, IsRead, IsSource, IsBeside, NameSources, PlaceSources, below, nowhere, at_state}
use Rattle.hp_meaning.specs.Causal.WhatIsRead.{of_clock, of_expr, of_exprs, of_parts, names_in, names_within, names_in_block, in_arms, in_states, of_conditions, strong_ones, weak_ones, at_expr, at_exprs, at_parts, at_conditions, of_definition, of_definitions, in_block, in_equations, in_equation, in_each_arm, in_each_state, control_in, has_equation, output_in, at_told, in_contract}
use Rattle.hp_meaning.specs.Causal.Causality.{sources, ClocksLaw}
use Rattle.hp_meaning.specs.Causal.Points.{Whereabouts}
use Rattle.hp_meaning.specs.Causal.Steering.{UnsteeredLaw}
use Rattle.hp_meaning.specs.Causal.Clocked.{Standing, base_alone, standing_in, standing_of, ClockRight, IsOn, ExprsOn, PartsOn, ConditionsOn, LeftsOn, BlockRight, AllRight, OneRight, ArmsRight, StatesRight, TellsOnBase, ContractRight, own_clock, ClocksRight}
use Rattle.hp_meaning.proofs.CausalLemmas.Everywhere.{whole_one, whole_two, whole_three, whole_row, whole_merge, whole_call, whole_block, whole_right, whole_arms, whole_body, whole_state, whole_words}
use Rattle.hp_meaning.proofs.CausalLemmas.Carried.{either, CarriesClocks, shortened, no_cycle}
use Rattle.hp_meaning.proofs.CausalLemmas.Choices.{or_cases, neither, both_true, if_false}

-- nothing is depended on besides
abbrev Bare : Sources → Type 0
Bare s = (r : Place) → IsBeside r s → ⊥

bare_if : (d : Bool) (s t : Sources) → Bare s → Bare t → Bare (if d then s else t)
bare_if true s t f g = f
bare_if false s t f g = g

bare_both : (s t : Sources) → Bare s → Bare t → Bare (both s t)
bare_both s t f g r h = ⊎_elim (f r) (g r) h

read_of : (q : Place) (s : Sources) → Bare s → IsSource q s → IsRead q s
read_of q s f h = ⊎_elim (λ u. u) (λ u. absurd (f q u)) (either q s h)

module _ (G : PlaceSources) where
  -- what the sources of a place are like where clocks are right
  pub record Right (s : Sources) : Type 0 where
    pub carried : (q r : Place) → IsRead q s → IsBeside r (G q) → IsSource r s
    pub nested : (q r : Place) → IsBeside q s → IsBeside r (G q) → IsBeside r s
    pub own_free : (q : Place) → IsBeside q s → IsBeside q (G q) → ⊥

  right_none : Right none
  right_none = record { carried = λ q r h b. absurd h; nested = λ q r h b. absurd h; own_free = λ q h b. absurd h }

  right_both : (s t : Sources) → Right s → Right t → Right (both s t)
  right_both s t f g =
      record {
        carried = λ q r h b. ⊎_elim (λ u. inl (f.carried q r u b)) (λ u. inr (g.carried q r u b)) h;
        nested = λ q r h b. ⊎_elim (λ u. inl (f.nested q r u b)) (λ u. inr (g.nested q r u b)) h;
        own_free = λ q h b. ⊎_elim (λ u. f.own_free q u b) (λ u. g.own_free q u b) h;
      }

  -- a place of which nothing is depended on besides
  right_only : (p : Place) → Bare (G p) → Right (only p)
  right_only p f =
      record {
        carried = λ q r h b. absurd (f r (subst (λ z. IsBeside r (G z)) h b));
        nested = λ q r h b. absurd h;
        own_free = λ q h b. absurd h;
      }

  right_also : (p : Place) → Bare (G p) → Right (also (only p))
  right_also p f =
      record {
        carried = λ q r h b. absurd h;
        nested = λ q r h b. absurd (f r (subst (λ z. IsBeside r (G z)) h b));
        own_free = λ q h b. absurd (f q (subst (λ z. IsBeside q (G z)) h b));
      }

  right_if : (d : Bool) (s t : Sources) → (IsTrue d → Right s) → (IsFalse d → Right t) → Right (if d then s else t)
  right_if true s t f g = f refl
  right_if false s t f g = g refl

  -- the places of a part are those of the whole, and depend on nothing else besides
  abbrev Seen : PlaceSources → Whereabouts → Type 0
  Seen k w = (p r : Place) → IsBeside r (G (w p)) → IsBeside r (k p)

  abbrev at_places : Whereabouts → PlaceSources
  at_places w p = only (w p)

  -- what is read by a name on a clock depends on the names of that clock alone
  abbrev Standing' : NameSources → Standing → Type 0
  Standing' names on = (x : List ℕ) (c : Clock) (q r : Place) → on x ≡ Some c → IsRead q (names x) → IsBeside r (G q) → IsSource r (of_clock c names)

  abbrev Bares : NameSources → Type 0
  Bares names = (x : List ℕ) → Bare (names x)

  module _ (names : NameSources) (ba : Bares names) where
    mutual
      bare : (e : Expr) (w : Whereabouts) → Bare (of_expr e names (at_places w))
      bare (constant s c) w r h = h
      bare (variable s x) w r h = ba x r h
      bare (last_of s x) w r h = h
      bare (one s o a) w r h = bare a (below First w) r h
      bare (two s o a b) w r h = ⊎_elim (bare a (below First w) r) (bare b (below Second w) r) h
      bare (choose s a b c) w r h = ⊎_elim (bare a (below First w) r) (λ u. ⊎_elim (bare b (below Second w) r) (bare c (below Third w) r) u) h
      bare (pre s a) w r h = h
      bare (fby s a b) w r h = bare a (below First w) r h
      bare (arrow s a b) w r h = ⊎_elim (bare a (below First w) r) (bare b (below Second w) r) h
      bare (when_is s a c x) w r h = ⊎_elim (ba x r) (bare a (below First w) r) h
      bare (merge s x ps) w r h = ⊎_elim (ba x r) (bare_parts ps (below Args w) r) h
      bare (call s f inlined es) w r h = h

      bare_all : (es : Exprs) (w : Whereabouts) → Bare (of_exprs es names (at_places w))
      bare_all no_expr w r h = h
      bare_all (more_exprs e es) w r h = ⊎_elim (bare e (below Head w) r) (bare_all es (below Tail w) r) h

      bare_parts : (ps : Parts) (w : Whereabouts) → Bare (of_parts ps names (at_places w))
      bare_parts no_part w r h = h
      bare_parts (more_parts c e ps) w r h = ⊎_elim (bare e (below Head w) r) (bare_parts ps (below Tail w) r) h

  module _ (names : NameSources) (on : Standing) (st : Standing' names on) (ba : Bares names) where
    clock_nested : (c : Clock) → ClockRight on c → (q r : Place) → IsSource q (of_clock c names) → IsBeside r (G q) → IsSource r (of_clock c names)
    clock_nested [] k q r h b = absurd h
    clock_nested (o ∷ c) k q r h b =
        ⊎_elim (λ u. inr (st o.1 c q r k.0 (read_of q (names o.1) (ba o.1) u) b)) (λ u. inr (clock_nested c k.1 q r u b)) h

    clock_free : (c : Clock) → ClockRight on c → (q : Place) → IsSource q (of_clock c names) → IsBeside q (G q) → ⊥
    clock_free [] k q h b = h
    clock_free (o ∷ c) k q h b =
        ⊎_elim (λ u. clock_free c k.1 q (st o.1 c q q k.0 (read_of q (names o.1) (ba o.1) u) b) b) (λ u. clock_free c k.1 q u b) h

    abbrev Carries : Clock → Sources → Type 0
    Carries c s = (q r : Place) → IsRead q s → IsBeside r (G q) → IsSource r (of_clock c names) ⊎ IsSource r s

    carries_both : (c : Clock) (s t : Sources) → Carries c s → Carries c t → Carries c (both s t)
    carries_both c s t f g q r h b =
        ⊎_elim (λ u. ⊎_elim (λ v. inl v) (λ v. inr (inl v)) (f q r u b)) (λ u. ⊎_elim (λ v. inl v) (λ v. inr (inr v)) (g q r u b)) h

    carries_more : (o : _) (c : Clock) (s : Sources) → Carries c s → Carries (o ∷ c) s
    carries_more o c s f q r h b = ⊎_elim (λ u. inl (inr u)) (λ u. inr u) (f q r h b)

    right_clock : (c : Clock) → ClockRight on c → Right (also (of_clock c names))
    right_clock c k =
        record {
          carried = λ q r h b. absurd h;
          nested = λ q r h b. clock_nested c k q r h b;
          own_free = λ q h b. clock_free c k q h b;
        }

    right_on : (c : Clock) (s : Sources) → ClockRight on c → Carries c s → Bare s → Right (both (also (of_clock c names)) s)
    right_on c s k f g =
        record {
          carried = λ q r h b. ⊎_elim (λ u. absurd u) (λ u. f q r u b) h;
          nested = λ q r h b. ⊎_elim (λ u. inl (clock_nested c k q r u b)) (λ u. absurd (g q u)) h;
          own_free = λ q h b. ⊎_elim (λ u. clock_free c k q u b) (λ u. g q u) h;
        }

    -- on the base clock
    right_base : (s : Sources) → Carries [] s → Bare s → Right s
    right_base s f g =
        record {
          carried = λ q r h b. ⊎_elim (λ u. absurd u) (λ u. u) (f q r h b);
          nested = λ q r h b. absurd (g q h);
          own_free = λ q h b. g q h;
        }

    by_name : (x : List ℕ) (c : Clock) → on x ≡ Some c → Carries c (names x)
    by_name x c k q r h b = inl (st x c q r k h b)

    mutual
      carries : (e : Expr) (c : Clock) (w : Whereabouts) → IsOn on e c → Seen (at_expr e c names (at_places w)) w → Carries c (of_expr e names (at_places w))
      carries (constant s k) c w i v q r h b = absurd h
      carries (variable s x) c w i v q r h b = by_name x c i q r h b
      carries (last_of s x) c w i v q r h b = absurd h
      carries (one s o a) c w i v q r h b = carries a c (below First w) i (λ p. v (First ∷ p)) q r h b
      carries (two s o a b) c w i v q r h m =
          carries_both c (of_expr a names (at_places (below First w))) (of_expr b names (at_places (below Second w)))
          (carries a c (below First w) i.0 (λ p. v (First ∷ p))) (carries b c (below Second w) i.1 (λ p. v (Second ∷ p))) q r h m
      carries (choose s a b d) c w i v q r h m =
          carries_both c (of_expr a names (at_places (below First w))) (both (of_expr b names (at_places (below Second w))) (of_expr d names (at_places (below Third w))))
          (carries a c (below First w) i.0 (λ p. v (First ∷ p)))
          (carries_both c (of_expr b names (at_places (below Second w))) (of_expr d names (at_places (below Third w)))
          (carries b c (below Second w) i.1 (λ p. v (Second ∷ p))) (carries d c (below Third w) i.2 (λ p. v (Third ∷ p)))) q r h m
      carries (pre s a) c w i v q r h b = absurd h
      carries (fby s a b) c w i v q r h k = carries a c (below First w) i.0 (λ p. v (First ∷ p)) q r h k
      carries (arrow s a b) c w i v q r h m =
          carries_both c (of_expr a names (at_places (below First w))) (of_expr b names (at_places (below Second w)))
          (carries a c (below First w) i.0 (λ p. v (First ∷ p))) (carries b c (below Second w) i.1 (λ p. v (Second ∷ p))) q r h m
      carries (when_is s a k x) [] w i v q r h b = absurd (cc)
      carries (when_is s a k x) (o ∷ c) w i v q r h m =
          carries_more o c (both (names x) (of_expr a names (at_places (below First w))))
          (carries_both c (names x) (of_expr a names (at_places (below First w))) (by_name x c i.1) (carries a c (below First w) i.2 (λ p. v (First ∷ p)))) q r h m
      carries (merge s x ps) c w i v q r h b =
          ⊎_elim (λ u. inl (st x c q r i.0 u b))
          (λ u. ⊎_elim (λ t. inr (inl t)) (λ t. ⊎_elim (λ y. inl y) (λ y. inr (inr y)) t) (parts_carry ps x c (below Args w) i.1 (λ p. v (Args ∷ p)) q r u b)) h
      carries (call s f inlined es) c w i v q r h b =
          ⊎_elim (λ u. inl u) (λ u. absurd (bare_all names ba es (below Args w) r u)) (v [] r (subst (λ z. IsBeside r (G z)) h b))

      all_carry : (es : Exprs) (c : Clock) (w : Whereabouts) → ExprsOn on es c → Seen (at_exprs es c names (at_places w)) w → Carries c (of_exprs es names (at_places w))
      all_carry no_expr c w i v q r h b = absurd h
      all_carry (more_exprs e es) c w i v q r h m =
          carries_both c (of_expr e names (at_places (below Head w))) (of_exprs es names (at_places (below Tail w)))
          (carries e c (below Head w) i.0 (λ p. v (Head ∷ p))) (all_carry es c (below Tail w) i.1 (λ p. v (Tail ∷ p))) q r h m

      parts_carry : (ps : Parts) (x : List ℕ) (c : Clock) (w : Whereabouts) → PartsOn on x ps c → Seen (at_parts ps x c names (at_places w)) w → (q r : Place) → IsRead q (of_parts ps names (at_places w)) → IsBeside r (G q) → IsSource r (names x) ⊎ (IsSource r (of_clock c names) ⊎ IsSource r (of_parts ps names (at_places w)))
      parts_carry no_part x c w i v q r h b = absurd h
      parts_carry (more_parts k e ps) x c w i v q r h b =
          ⊎_elim
          (λ u. ⊎_elim (λ t. ⊎_elim (λ y. inl y) (λ y. inr (inl y)) t) (λ t. inr (inr (inl t))) (carries e ((k, x) ∷ c) (below Head w) i.0 (λ p. v (Head ∷ p)) q r u b))
          (λ u. ⊎_elim (λ t. inl t) (λ t. inr (⊎_elim (λ y. inl y) (λ y. inr (inr y)) t)) (parts_carry ps x c (below Tail w) i.1 (λ p. v (Tail ∷ p)) q r u b))
          h

    without_right : (c : Clock) → ClockRight on c → ClockRight on (without c)
    without_right [] k = k
    without_right (o ∷ c) k = k.1

    abbrev Everywhere : PlaceSources → Type 0
    Everywhere k = (p : Place) → Right (k p)

    here : (e : Expr) (c : Clock) (w : Whereabouts) → IsOn on e c → ClockRight on c → Seen (at_expr e c names (at_places w)) w → Right (both (also (of_clock c names)) (of_expr e names (at_places w)))
    here e c w i k v = right_on c (of_expr e names (at_places w)) k (carries e c w i v) (bare names ba e w)

    mutual
      occurs : (e : Expr) (c : Clock) (w : Whereabouts) → IsOn on e c → ClockRight on c → Seen (at_expr e c names (at_places w)) w → Everywhere (at_expr e c names (at_places w))
      occurs (constant s m) c w i k v = whole_one Right right_none right_both (also (of_clock c names)) nowhere (right_clock c k) (λ p. right_none)
      occurs (variable s x) c w i k v = whole_one Right right_none right_both (both (also (of_clock c names)) (names x)) nowhere (right_on c (names x) k (by_name x c i) (ba x)) (λ p. right_none)
      occurs (last_of s x) c w i k v = λ p. right_none
      occurs (one s o a) c w i k v =
          whole_one Right right_none right_both (both (also (of_clock c names)) (of_expr (one s o a) names (at_places w))) (at_expr a c names (at_places (below First w)))
          (here (one s o a) c w i k v) (occurs a c (below First w) i k (λ p. v (First ∷ p)))
      occurs (two s o a b) c w i k v =
          whole_two Right right_none right_both (both (also (of_clock c names)) (of_expr (two s o a b) names (at_places w))) (at_expr a c names (at_places (below First w))) (at_expr b c names (at_places (below Second w)))
          (here (two s o a b) c w i k v) (occurs a c (below First w) i.0 k (λ p. v (First ∷ p))) (occurs b c (below Second w) i.1 k (λ p. v (Second ∷ p)))
      occurs (choose s a b d) c w i k v =
          whole_three Right right_none right_both (both (also (of_clock c names)) (of_expr (choose s a b d) names (at_places w))) (at_expr a c names (at_places (below First w))) (at_expr b c names (at_places (below Second w))) (at_expr d c names (at_places (below Third w)))
          (here (choose s a b d) c w i k v) (occurs a c (below First w) i.0 k (λ p. v (First ∷ p))) (occurs b c (below Second w) i.1 k (λ p. v (Second ∷ p))) (occurs d c (below Third w) i.2 k (λ p. v (Third ∷ p)))
      occurs (pre s a) c w i k v =
          whole_one Right right_none right_both (also (of_clock c names)) (at_expr a c names (at_places (below First w))) (right_clock c k) (occurs a c (below First w) i k (λ p. v (First ∷ p)))
      occurs (fby s a b) c w i k v =
          whole_two Right right_none right_both (both (also (of_clock c names)) (of_expr (fby s a b) names (at_places w))) (at_expr a c names (at_places (below First w))) (at_expr b c names (at_places (below Second w)))
          (here (fby s a b) c w i k v) (occurs a c (below First w) i.0 k (λ p. v (First ∷ p))) (occurs b c (below Second w) i.1 k (λ p. v (Second ∷ p)))
      occurs (arrow s a b) c w i k v =
          whole_two Right right_none right_both (both (also (of_clock c names)) (of_expr (arrow s a b) names (at_places w))) (at_expr a c names (at_places (below First w))) (at_expr b c names (at_places (below Second w)))
          (here (arrow s a b) c w i k v) (occurs a c (below First w) i.0 k (λ p. v (First ∷ p))) (occurs b c (below Second w) i.1 k (λ p. v (Second ∷ p)))
      occurs (when_is s a m x) c w i k v =
          whole_one Right right_none right_both (both (also (of_clock c names)) (of_expr (when_is s a m x) names (at_places w))) (at_expr a (without c) names (at_places (below First w)))
          (here (when_is s a m x) c w i k v) (occurs a (without c) (below First w) i.2 (without_right c k) (λ p. v (First ∷ p)))
      occurs (merge s x ps) c w i k v =
          whole_merge Right right_none right_both (both (also (of_clock c names)) (of_expr (merge s x ps) names (at_places w))) (at_parts ps x c names (at_places (below Args w)))
          (here (merge s x ps) c w i k v) (parts_occur ps x c (below Args w) i.1 (i.0, k) (λ p. v (Args ∷ p)))
      occurs (call s f inlined es) c w i k v =
          whole_call Right right_none right_both (both (also (of_clock c names)) (of_exprs es names (at_places (below Args w)))) (both (also (of_clock c names)) (only (w []))) (at_exprs es c names (at_places (below Args w)))
          (right_on c (of_exprs es names (at_places (below Args w))) k (all_carry es c (below Args w) i (λ p. v (Args ∷ p))) (bare_all names ba es (below Args w)))
          (here (call s f inlined es) c w i k v)
          (all_occur es c (below Args w) i k (λ p. v (Args ∷ p)))

      all_occur : (es : Exprs) (c : Clock) (w : Whereabouts) → ExprsOn on es c → ClockRight on c → Seen (at_exprs es c names (at_places w)) w → Everywhere (at_exprs es c names (at_places w))
      all_occur no_expr c w i k v = λ p. right_none
      all_occur (more_exprs e es) c w i k v =
          whole_row Right right_none right_both (at_expr e c names (at_places (below Head w))) (at_exprs es c names (at_places (below Tail w)))
          (occurs e c (below Head w) i.0 k (λ p. v (Head ∷ p))) (all_occur es c (below Tail w) i.1 k (λ p. v (Tail ∷ p)))

      parts_occur : (ps : Parts) (x : List ℕ) (c : Clock) (w : Whereabouts) → PartsOn on x ps c → (on x ≡ Some c) × ClockRight on c → Seen (at_parts ps x c names (at_places w)) w → Everywhere (at_parts ps x c names (at_places w))
      parts_occur no_part x c w i k v = λ p. right_none
      parts_occur (more_parts m e ps) x c w i k v =
          whole_row Right right_none right_both (at_expr e ((m, x) ∷ c) names (at_places (below Head w))) (at_parts ps x c names (at_places (below Tail w)))
          (occurs e ((m, x) ∷ c) (below Head w) i.0 k (λ p. v (Head ∷ p))) (parts_occur ps x c (below Tail w) i.1 k (λ p. v (Tail ∷ p)))

    conditions_occur : (ts : List Trans) (w : Whereabouts) → ConditionsOn on ts → Seen (at_conditions ts names (at_places w)) w → Everywhere (at_conditions ts names (at_places w))
    conditions_occur [] w i v = λ p. right_none
    conditions_occur (t ∷ ts) w i v =
        whole_row Right right_none right_both (at_expr t.cond [] names (at_places (below Head w))) (at_conditions ts names (at_places (below Tail w)))
        (occurs t.cond [] (below Head w) i.0 tt (λ p. v (Head ∷ p))) (conditions_occur ts (below Tail w) i.1 (λ p. v (Tail ∷ p)))

  -- ---- conditions, which are on the base clock

  module _ (names : NameSources) (ba : Bares names) where
    top_bare : (e : Expr) (w : Whereabouts) → Bare (at_expr e [] names (at_places w) [])
    top_bare (constant s c) w r h = h
    top_bare (variable s x) w r h = ⊎_elim (λ u. u) (ba x r) h
    top_bare (last_of s x) w r h = h
    top_bare (one s o a) w r h = ⊎_elim (λ u. u) (bare names ba (one s o a) w r) h
    top_bare (two s o a b) w r h = ⊎_elim (λ u. u) (bare names ba (two s o a b) w r) h
    top_bare (choose s a b c) w r h = ⊎_elim (λ u. u) (bare names ba (choose s a b c) w r) h
    top_bare (pre s a) w r h = h
    top_bare (fby s a b) w r h = ⊎_elim (λ u. u) (bare names ba (fby s a b) w r) h
    top_bare (arrow s a b) w r h = ⊎_elim (λ u. u) (bare names ba (arrow s a b) w r) h
    top_bare (when_is s a c x) w r h = ⊎_elim (λ u. u) (bare names ba (when_is s a c x) w r) h
    top_bare (merge s x ps) w r h = ⊎_elim (λ u. u) (bare names ba (merge s x ps) w r) h
    top_bare (call s f inlined es) w r h = ⊎_elim (λ u. u) (bare_all names ba es (below Args w) r) h

    conditions_right : (ts : List Trans) (w : Whereabouts) → Seen (at_conditions ts names (at_places w)) w → Right (of_conditions ts (at_places w))
    conditions_right [] w v = right_none
    conditions_right (t ∷ ts) w v =
        right_both (only (w (Head ∷ []))) (of_conditions ts (at_places (below Tail w)))
        (right_only (w (Head ∷ [])) (λ r b. top_bare t.cond (below Head w) r (v (Head ∷ []) r b)))
        (conditions_right ts (below Tail w) (λ p. v (Tail ∷ p)))

  conditions_bare : (ts : List Trans) (w : Whereabouts) → Bare (of_conditions ts (at_places w))
  conditions_bare [] w r h = h
  conditions_bare (t ∷ ts) w r h = ⊎_elim (λ u. u) (conditions_bare ts (below Tail w) r) h

  strong_bare : (ss : States) (w : Whereabouts) → Bare (strong_ones ss (at_places w))
  strong_bare no_state w r h = h
  strong_bare (more_states f b until unless s ss) w r h = ⊎_elim (conditions_bare unless (below Unless (below Head w)) r) (strong_bare ss (below Tail w) r) h

  -- ---- names

  abbrev OnBase : NameSources → Standing → Type 0
  OnBase names on = (x : List ℕ) (q r : Place) → on x ≡ Some [] → IsRead q (names x) → IsBeside r (G q) → ⊥

  to_base : (names : NameSources) (on : Standing) → Standing' names on → OnBase names on
  to_base names on st x q r e h b = st x [] q r e h b

  read_if : {X : Type 0} (d : Bool) (s t : Sources) (q : Place) → IsRead q (if d then s else t) → (IsTrue d → IsRead q s → X) → (IsFalse d → IsRead q t → X) → X
  read_if true s t q h f g = f refl h
  read_if false s t q h f g = g refl h

  beside_if : {X : Type 0} (d : Bool) (s t : Sources) (q : Place) → IsBeside q (if d then s else t) → (IsTrue d → IsBeside q s → X) → (IsFalse d → IsBeside q t → X) → X
  beside_if true s t q h f g = f refl h
  beside_if false s t q h f g = g refl h

  within_base : (e : Eqn) (names : NameSources) (on : Standing) → OnBase names on → OnBase (names_within e names) on
  within_base e names on ob x q r k h b = read_if (defines e x) none (names x) q h (λ t u. absurd u) (λ f u. ob x q r k u b)

  within_bares : (e : Eqn) (names : NameSources) → Bares names → Bares (names_within e names)
  within_bares e names ba x = bare_if (defines e x) none (names x) (λ r h. h) (ba x)

  inside_bares : (es : Eqns) (names : NameSources) (w : Whereabouts) → Bares names → Bares (names_in es names (at_places w))
  inside_bares es names w ba x = bare_if (some_defines es x) (only (w (Named x ∷ []))) (names x) (λ r h. h) (ba x)

  some_same : (c d : Clock) → Some c ≡ Some d → c ≡ d
  some_same c d e = cc

  base_cases : (o : Option Clock) (c : Clock) → base_alone o ≡ Some c → (o ≡ Some []) × (c ≡ [])
  base_cases None c e = absurd (cc)
  base_cases (Some []) c e = (refl, sym (some_same [] c e))
  base_cases (Some (k ∷ ks)) c e = absurd (cc)

  pick_in : {X : Type 0} (d : Bool) (k : Clock) (o : Option Clock) (s t : Sources) (c : Clock) (q : Place) → (if d then Some k else base_alone o) ≡ Some c → IsRead q (if d then s else t) → (k ≡ c → IsRead q s → X) → (o ≡ Some [] → IsRead q t → X) → X
  pick_in true k o s t c q e h f g = f (some_same k c e) h
  pick_in false k o s t c q e h f g = g (base_cases o c e).0 h

  undeclared : (ds : List Decl) (x : List ℕ) → IsFalse (declares ds x) → clock_in ds x ≡ []
  undeclared [] x f = refl
  undeclared (d ∷ ds) x f =
      let u = neither (bytes_eq d.name x) (declares ds x) f in
      if_false (bytes_eq d.name x) _ (clock_in ds x) u.0 ∙ undeclared ds x u.1

  not_second : (a b : Bool) → IsTrue (a && not b) → IsFalse b
  not_second true true h = absurd (cc)
  not_second true false h = refl
  not_second false b h = absurd (cc)

  left_on : (ds : List Decl) (ys : List (List ℕ × Span)) (c : Clock) → LeftsOn ds ys c → (x : List ℕ) → IsTrue (is_among ys x) → clock_in ds x ≡ c
  left_on ds [] c k x t = absurd (cc)
  left_on ds (y ∷ ys) c k x t =
      or_cases (bytes_eq y.0 x) (is_among ys x) t
      (λ e. subst (λ z. clock_in ds z ≡ c) ((bytes_eq-Decides y.0 x).0 e) k.0)
      (left_on ds ys c k.1 x)

  -- ---- definitions

  in_arms_bare : (arms : Arms) (w : Whereabouts) (x : List ℕ) → Bare (in_arms arms (at_places w) x)
  in_arms_bare no_arm w x r h = h
  in_arms_bare (more_arms c b s arms) w x r h =
      ⊎_elim (bare_if (block_defines b x) (only (w (Head ∷ Named x ∷ []))) none (λ r h. h) (λ r h. h) r) (in_arms_bare arms (below Tail w) x r) h

  in_states_bare : (ss : States) (w : Whereabouts) (x : List ℕ) → Bare (in_states ss (at_places w) x)
  in_states_bare no_state w x r h = h
  in_states_bare (more_states f b until unless s ss) w x r h =
      ⊎_elim (bare_if (block_defines b x) (only (w (Head ∷ Body ∷ Named x ∷ []))) none (λ r h. h) (λ r h. h) r) (in_states_bare ss (below Tail w) x r) h

  module _ (names : NameSources) (on : Standing) (ba : Bares names) (ds : List Decl) where
    -- besides what it reads, a definition depends on the names of its name's clock
    beside_one : (e : Eqn) → OneRight on ds e → (w : Whereabouts) (x : List ℕ) → IsTrue (defines e x) → (r : Place) → IsBeside r (of_definition ds e names (at_places w) x) → IsSource r (of_clock (clock_in ds x) names)
    beside_one (define s ys e) k w x t r h =
        ⊎_elim (λ u. subst (λ z. IsSource r (of_clock z names)) (sym (left_on ds ys (clock_of ds ys e) k.1 x t)) u) (λ u. absurd (bare names ba e (below RightSide w) r u)) h
    beside_one (switch s e arms) k w x t r h = absurd (⊎_elim (bare names ba e (below Test w) r) (in_arms_bare arms (below ArmsOf w) x r) h)
    beside_one (reset s b e) k w x t r h = absurd (⊎_elim (bare names ba e (below Test w) r) (λ u. u) h)
    beside_one (automaton s ss) k w x t r h = absurd (⊎_elim (λ u. u) (in_states_bare ss (below StatesOf w) x r) h)

    beside_all : (es : Eqns) → AllRight on ds es → (w : Whereabouts) (x : List ℕ) (r : Place) → IsBeside r (of_definitions ds es names (at_places w) x) → IsSource r (of_clock (clock_in ds x) names)
    beside_all no_eqn k w x r h = absurd h
    beside_all (more_eqns e es) k w x r h =
        beside_if (defines e x) (of_definition ds e names (at_places (below Head w)) x) (of_definitions ds es names (at_places (below Tail w)) x) r h
        (λ t u. beside_one e k.0 (below Head w) x t r u)
        (λ f u. beside_all es k.1 (below Tail w) x r u)

  -- the names in a block
  inside_standing : (ds : List Decl) (es : Eqns) (names : NameSources) (on : Standing) (w : Whereabouts) → AllRight (standing_in ds es on) ds es → OnBase names on → Bares names → Seen (in_block (block ds es) names (at_places w)) w → Standing' (names_in es names (at_places w)) (standing_in ds es on)
  inside_standing ds es names on w k ob ba v x c q r e h b =
      pick_in (some_defines es x) (clock_in ds x) (on x) (only (w (Named x ∷ []))) (names x) c q e h
      (λ s u. subst (λ z. IsSource r (of_clock z (names_in es names (at_places w)))) s
      (beside_all (names_in es names (at_places w)) (standing_in ds es on) (inside_bares es names w ba) ds es k (below Equations w) x r
      (v (Named x ∷ []) r (subst (λ z. IsBeside r (G z)) u b))))
      (λ o u. absurd (ob x q r o u b))

  -- a name on the base clock
  named_bare : (d : Block) (names : NameSources) (on : Standing) (w : Whereabouts) → BlockRight on d → Bares names → Seen (in_block d names (at_places w)) w → (x : List ℕ) → own_clock d x ≡ [] → Bare (G (w (Named x ∷ [])))
  named_bare (block ds es) names on w k ba v x e r h =
      subst (λ z. IsSource r (of_clock z (names_in es names (at_places w)))) e
      (beside_all (names_in es names (at_places w)) (standing_in ds es on) (inside_bares es names w ba) ds es k.1 (below Equations w) x r (v (Named x ∷ []) r h))

  own_is_base : (d : Block) (x : List ℕ) → IsTrue (block_defines d x) → own_clock d x ≡ []
  own_is_base (block ds es) x t = undeclared ds x (not_second (some_defines es x) (declares ds x) t)

  -- ---- the definitions that a control equation reads

  arms_read : (arms : Arms) (names : NameSources) (on : Standing) (w : Whereabouts) → ArmsRight on arms → Bares names → Seen (in_each_arm arms names (at_places w)) w → (x : List ℕ) → Right (in_arms arms (at_places w) x)
  arms_read no_arm names on w k ba v x = right_none
  arms_read (more_arms c b s arms) names on w k ba v x =
      right_both (if block_defines b x then only (w (Head ∷ Named x ∷ [])) else none) (in_arms arms (at_places (below Tail w)) x)
      (right_if (block_defines b x) (only (w (Head ∷ Named x ∷ []))) none
      (λ t. right_only (w (Head ∷ Named x ∷ [])) (named_bare b names on (below Head w) k.0 ba (λ p. v (Head ∷ p)) x (own_is_base b x t)))
      (λ f. right_none))
      (arms_read arms names on (below Tail w) k.1 ba (λ p. v (Tail ∷ p)) x)

  -- the parts of a state
  module _ (a : Place) (f : List ℕ) (b : Block) (until unless : List Trans) (s : Span) (ss : States) (out names : NameSources) (w : Whereabouts) (v : Seen (in_each_state (more_states f b until unless s ss) (only a) out names (at_places w)) w) where
    body_seen : Seen (in_block b names (at_places (below Body (below Head w)))) (below Body (below Head w))
    body_seen p r h = ⊎_elim (λ u. absurd u) (λ u. u) (v (Head ∷ Body ∷ p) r h)

    until_seen : Seen (at_conditions until (names_in_block b names (at_places (below Body (below Head w)))) (at_places (below Until (below Head w)))) (below Until (below Head w))
    until_seen p r h = ⊎_elim (λ u. absurd u) (λ u. u) (v (Head ∷ Until ∷ p) r h)

    unless_seen : Seen (at_conditions unless out (at_places (below Unless (below Head w)))) (below Unless (below Head w))
    unless_seen p = v (Head ∷ Unless ∷ p)

  names_of_bares : (b : Block) (names : NameSources) (w : Whereabouts) → Bares names → Bares (names_in_block b names (at_places w))
  names_of_bares (block ds es) names w ba = inside_bares es names w ba

  names_of_standing : (b : Block) (names : NameSources) (on : Standing) (w : Whereabouts) → BlockRight on b → OnBase names on → Bares names → Seen (in_block b names (at_places w)) w → Standing' (names_in_block b names (at_places w)) (standing_of b on)
  names_of_standing (block ds es) names on w k ob ba v = inside_standing ds es names on w k.1 ob ba v

  states_read : (a : Place) (ss : States) (out names : NameSources) (on : Standing) (w : Whereabouts) → StatesRight on ss → Bares names → Seen (in_each_state ss (only a) out names (at_places w)) w → (x : List ℕ) → Right (in_states ss (at_places w) x)
  states_read a no_state out names on w k ba v x = right_none
  states_read a (more_states f b until unless s ss) out names on w k ba v x =
      right_both (if block_defines b x then only (w (Head ∷ Body ∷ Named x ∷ [])) else none) (in_states ss (at_places (below Tail w)) x)
      (right_if (block_defines b x) (only (w (Head ∷ Body ∷ Named x ∷ []))) none
      (λ t. right_only (w (Head ∷ Body ∷ Named x ∷ [])) (named_bare b names on (below Body (below Head w)) k.0 ba (body_seen a f b until unless s ss out names w v) x (own_is_base b x t)))
      (λ g. right_none))
      (states_read a ss out names on (below Tail w) k.3 ba (λ p. v (Tail ∷ p)) x)

  strong_read : (a : Place) (ss : States) (out names : NameSources) (w : Whereabouts) → Bares out → Seen (in_each_state ss (only a) out names (at_places w)) w → Right (strong_ones ss (at_places w))
  strong_read a no_state out names w bo v = right_none
  strong_read a (more_states f b until unless s ss) out names w bo v =
      right_both (of_conditions unless (at_places (below Unless (below Head w)))) (strong_ones ss (at_places (below Tail w)))
      (conditions_right out bo unless (below Unless (below Head w)) (unless_seen a f b until unless s ss out names w v))
      (strong_read a ss out names (below Tail w) bo (λ p. v (Tail ∷ p)))

  weak_read : (a : Place) (ss : States) (out names : NameSources) (w : Whereabouts) → Bares names → Seen (in_each_state ss (only a) out names (at_places w)) w → Right (weak_ones ss (at_places w))
  weak_read a no_state out names w ba v = right_none
  weak_read a (more_states f b until unless s ss) out names w ba v =
      right_both (of_conditions until (at_places (below Until (below Head w)))) (weak_ones ss (at_places (below Tail w)))
      (conditions_right (names_in_block b names (at_places (below Body (below Head w)))) (names_of_bares b names (below Body (below Head w)) ba) until (below Until (below Head w)) (until_seen a f b until unless s ss out names w v))
      (weak_read a ss out names (below Tail w) ba (λ p. v (Tail ∷ p)))

  -- ---- definitions and blocks

  module _ (names : NameSources) (on : Standing) (st : Standing' names on) (ba : Bares names) where
    condition_right : (e : Expr) (w : Whereabouts) → IsOn on e [] → Seen (at_expr e [] names (at_places w)) w → Right (of_expr e names (at_places w))
    condition_right e w i v = right_base names on st ba (of_expr e names (at_places w)) (carries names on st ba e [] w i v) (bare names ba e w)

    one_read : (ds : List Decl) (e : Eqn) → OneRight on ds e → (w : Whereabouts) → Seen (in_equation ds e names (at_places w)) w → (x : List ℕ) → IsTrue (defines e x) → Right (of_definition ds e names (at_places w) x)
    one_read ds (define s ys e) k w v x t =
        right_on names on st ba (clock_of ds ys e) (of_expr e names (at_places (below RightSide w))) k.0
        (carries names on st ba e (clock_of ds ys e) (below RightSide w) k.2 (λ p. v (RightSide ∷ p))) (bare names ba e (below RightSide w))
    one_read ds (switch s e arms) k w v x t =
        right_both (of_expr e names (at_places (below Test w))) (in_arms arms (at_places (below ArmsOf w)) x)
        (condition_right e (below Test w) k.1 (λ p. v (Test ∷ p)))
        (arms_read arms (names_within (switch s e arms) names) on (below ArmsOf w) k.2 (within_bares (switch s e arms) names ba)
        (λ p r h. ⊎_elim (λ u. absurd (bare names ba e (below Test w) r u)) (λ u. u) (v (ArmsOf ∷ p) r h)) x)
    one_read ds (reset s b e) k w v x t =
        right_both (of_expr e names (at_places (below Test w))) (only (w (Body ∷ Named x ∷ [])))
        (condition_right e (below Test w) k.1 (λ p. v (Test ∷ p)))
        (right_only (w (Body ∷ Named x ∷ []))
        (named_bare b (names_within (reset s b e) names) on (below Body w) k.2 (within_bares (reset s b e) names ba)
        (λ p r h. ⊎_elim (λ u. absurd (bare names ba e (below Test w) r u)) (λ u. u) (v (Body ∷ p) r h)) x (own_is_base b x t)))
    one_read ds (automaton s ss) k w v x t =
        right_both (only (w (Active ∷ []))) (in_states ss (at_places (below StatesOf w)) x)
        (right_only (w (Active ∷ [])) (λ r h. strong_bare ss (below StatesOf w) r (v (Active ∷ []) r h)))
        (states_read (w (Active ∷ [])) ss names (names_within (automaton s ss) names) on (below StatesOf w) k.1 (within_bares (automaton s ss) names ba) (λ p. v (StatesOf ∷ p)) x)

    all_read : (ds : List Decl) (es : Eqns) → AllRight on ds es → (w : Whereabouts) → Seen (in_equations ds es names (at_places w)) w → (x : List ℕ) → Right (of_definitions ds es names (at_places w) x)
    all_read ds no_eqn k w v x = right_none
    all_read ds (more_eqns e es) k w v x =
        right_if (defines e x) (of_definition ds e names (at_places (below Head w)) x) (of_definitions ds es names (at_places (below Tail w)) x)
        (λ t. one_read ds e k.0 (below Head w) (λ p. v (Head ∷ p)) x t)
        (λ f. all_read ds es k.1 (below Tail w) (λ p. v (Tail ∷ p)) x)

  mutual
    block_right : (b : Block) (names : NameSources) (on : Standing) (w : Whereabouts) → BlockRight on b → OnBase names on → Bares names → Seen (in_block b names (at_places w)) w → (p : Place) → Right (in_block b names (at_places w) p)
    block_right (block ds es) names on w k ob ba v =
        let names' = names_in es names (at_places w) in
        let on' = standing_in ds es on in
        let st = inside_standing ds es names on w k.1 ob ba v in
        let ba' = inside_bares es names w ba in
        whole_block Right right_none right_both (of_definitions ds es names' (at_places (below Equations w))) (in_equations ds es names' (at_places (below Equations w)))
        (all_read names' on' st ba' ds es k.1 (below Equations w) (λ p. v (Equations ∷ p)))
        (equations_right ds es names' on' (below Equations w) k.1 st ba' (λ p. v (Equations ∷ p)))

    equations_right : (ds : List Decl) (es : Eqns) (names : NameSources) (on : Standing) (w : Whereabouts) → AllRight on ds es → Standing' names on → Bares names → Seen (in_equations ds es names (at_places w)) w → (p : Place) → Right (in_equations ds es names (at_places w) p)
    equations_right ds no_eqn names on w k st ba v = λ p. right_none
    equations_right ds (more_eqns e es) names on w k st ba v =
        whole_row Right right_none right_both (in_equation ds e names (at_places (below Head w))) (in_equations ds es names (at_places (below Tail w)))
        (equation_right ds e names on (below Head w) k.0 st ba (λ p. v (Head ∷ p)))
        (equations_right ds es names on (below Tail w) k.1 st ba (λ p. v (Tail ∷ p)))

    equation_right : (ds : List Decl) (e : Eqn) (names : NameSources) (on : Standing) (w : Whereabouts) → OneRight on ds e → Standing' names on → Bares names → Seen (in_equation ds e names (at_places w)) w → (p : Place) → Right (in_equation ds e names (at_places w) p)
    equation_right ds (define s ys e) names on w k st ba v =
        whole_right Right right_none right_both (at_expr e (clock_of ds ys e) names (at_places (below RightSide w)))
        (occurs names on st ba e (clock_of ds ys e) (below RightSide w) k.2 k.0 (λ p. v (RightSide ∷ p)))
    equation_right ds (switch s e arms) names on w k st ba v =
        let names' = names_within (switch s e arms) names in
        whole_arms Right right_none right_both (at_expr e [] names (at_places (below Test w))) (of_expr e names (at_places (below Test w))) (in_each_arm arms names' (at_places (below ArmsOf w)))
        (occurs names on st ba e [] (below Test w) k.1 tt (λ p. v (Test ∷ p)))
        (condition_right names on st ba e (below Test w) k.1 (λ p. v (Test ∷ p)))
        (arms_right arms names' on (below ArmsOf w) k.2 (within_base (switch s e arms) names on (to_base names on st)) (within_bares (switch s e arms) names ba)
        (λ p r h. ⊎_elim (λ u. absurd (bare names ba e (below Test w) r u)) (λ u. u) (v (ArmsOf ∷ p) r h)))
    equation_right ds (reset s b e) names on w k st ba v =
        let names' = names_within (reset s b e) names in
        whole_body Right right_none right_both (at_expr e [] names (at_places (below Test w))) (of_expr e names (at_places (below Test w))) (in_block b names' (at_places (below Body w)))
        (occurs names on st ba e [] (below Test w) k.1 tt (λ p. v (Test ∷ p)))
        (condition_right names on st ba e (below Test w) k.1 (λ p. v (Test ∷ p)))
        (block_right b names' on (below Body w) k.2 (within_base (reset s b e) names on (to_base names on st)) (within_bares (reset s b e) names ba)
        (λ p r h. ⊎_elim (λ u. absurd (bare names ba e (below Test w) r u)) (λ u. u) (v (Body ∷ p) r h)))
    equation_right ds (automaton s ss) names on w k st ba v =
        let a = w (Active ∷ []) in
        let names' = names_within (automaton s ss) names in
        let ba' = within_bares (automaton s ss) names ba in
        let active_bare : Bare (G a) = λ r h. strong_bare ss (below StatesOf w) r (v (Active ∷ []) r h) in
        whole_words Right right_none right_both (strong_ones ss (at_places (below StatesOf w))) (both (also (only a)) (weak_ones ss (at_places (below StatesOf w)))) (in_each_state ss (only a) names names' (at_places (below StatesOf w)))
        (strong_read a ss names names' (below StatesOf w) ba (λ p. v (StatesOf ∷ p)))
        (right_both (also (only a)) (weak_ones ss (at_places (below StatesOf w))) (right_also a active_bare) (weak_read a ss names names' (below StatesOf w) ba' (λ p. v (StatesOf ∷ p))))
        (states_right a ss names names' on (below StatesOf w) active_bare k.1 st ba (within_base (automaton s ss) names on (to_base names on st)) ba' (λ p. v (StatesOf ∷ p)))

    arms_right : (arms : Arms) (names : NameSources) (on : Standing) (w : Whereabouts) → ArmsRight on arms → OnBase names on → Bares names → Seen (in_each_arm arms names (at_places w)) w → (p : Place) → Right (in_each_arm arms names (at_places w) p)
    arms_right no_arm names on w k ob ba v = λ p. right_none
    arms_right (more_arms c b s arms) names on w k ob ba v =
        whole_row Right right_none right_both (in_block b names (at_places (below Head w))) (in_each_arm arms names (at_places (below Tail w)))
        (block_right b names on (below Head w) k.0 ob ba (λ p. v (Head ∷ p)))
        (arms_right arms names on (below Tail w) k.1 ob ba (λ p. v (Tail ∷ p)))

    states_right : (a : Place) (ss : States) (out names : NameSources) (on : Standing) (w : Whereabouts) → Bare (G a) → StatesRight on ss → Standing' out on → Bares out → OnBase names on → Bares names → Seen (in_each_state ss (only a) out names (at_places w)) w → (p : Place) → Right (in_each_state ss (only a) out names (at_places w) p)
    states_right a no_state out names on w ab k so bo ob ba v = λ p. right_none
    states_right a (more_states f b until unless s ss) out names on w ab k so bo ob ba v =
        let wb = below Body (below Head w) in
        let names' = names_in_block b names (at_places wb) in
        let vb = body_seen a f b until unless s ss out names w v in
        whole_row Right right_none right_both
        (at_state (only a) (in_block b names (at_places wb)) (at_conditions until names' (at_places (below Until (below Head w)))) (at_conditions unless out (at_places (below Unless (below Head w)))))
        (in_each_state ss (only a) out names (at_places (below Tail w)))
        (whole_state Right right_none right_both (only a) (in_block b names (at_places wb)) (at_conditions until names' (at_places (below Until (below Head w)))) (at_conditions unless out (at_places (below Unless (below Head w))))
        (right_only a ab)
        (block_right b names on wb k.0 ob ba vb)
        (conditions_occur names' (standing_of b on) (names_of_standing b names on wb k.0 ob ba vb) (names_of_bares b names wb ba) until (below Until (below Head w)) k.1 (until_seen a f b until unless s ss out names w v))
        (conditions_occur out on so bo unless (below Unless (below Head w)) k.2 (unless_seen a f b until unless s ss out names w v)))
        (states_right a ss out names on (below Tail w) ab k.3 so bo ob ba (λ p. v (Tail ∷ p)))

  -- ---- contracts

  told_right : (e : Option Expr) (names : NameSources) (on : Standing) (w : Whereabouts) → TellsOnBase on e → Standing' names on → Bares names → Seen (at_told e names (at_places w)) w → (p : Place) → Right (at_told e names (at_places w) p)
  told_right None names on w k st ba v = λ p. right_none
  told_right (Some e) names on w k st ba v = occurs names on st ba e [] w k tt v

  contract_right : (c : Option Contract) (names : NameSources) (on : Standing) → ContractRight on c → OnBase names on → Bares names → Seen (below Observer (in_contract c names only)) (λ q. Observer ∷ q) → Seen (below Assume (in_contract c names only)) (λ q. Assume ∷ q) → Seen (below Enforce (in_contract c names only)) (λ q. Enforce ∷ q) → (p : Place) → Right (in_contract c names only p)
  contract_right None names on k ob ba vg va ve p = right_none
  contract_right (Some c) names on k ob ba vg va ve (Observer ∷ p) = block_right c.body names on (λ q. Observer ∷ q) k.0 ob ba vg p
  contract_right (Some c) names on k ob ba vg va ve (Assume ∷ p) =
      told_right c.assume (names_in_block c.body names (at_places (λ q. Observer ∷ q))) (standing_of c.body on) (λ q. Assume ∷ q) k.1
      (names_of_standing c.body names on (λ q. Observer ∷ q) k.0 ob ba vg) (names_of_bares c.body names (λ q. Observer ∷ q) ba) va p
  contract_right (Some c) names on k ob ba vg va ve (Enforce ∷ p) =
      told_right c.enforce (names_in_block c.body names (at_places (λ q. Observer ∷ q))) (standing_of c.body on) (λ q. Enforce ∷ q) k.2
      (names_of_standing c.body names on (λ q. Observer ∷ q) k.0 ob ba vg) (names_of_bares c.body names (λ q. Observer ∷ q) ba) ve p
  contract_right (Some c) names on k ob ba vg va ve p = right_none

-- ---- nodes

control_bares : (ds : List Decl) (w : Whereabouts) (x : List ℕ) → Bare (control_in ds (λ p. only (w p)) x)
control_bares [] w x r h = h
control_bares (d ∷ ds) w x r h = bare_if (bytes_eq d.name x) (only (w (Head ∷ []))) (control_in ds (λ p. only (w (Tail ∷ p))) x) (λ r h. h) (control_bares ds (below Tail w) x) r h

first_or : {X : Type 0} (d : Bool) (s t : Sources) (q : Place) → IsRead q (if d then s else t) → (IsRead q s → X) → (IsRead q t → X) → X
first_or true s t q h f g = f h
first_or false s t q h f g = g h

-- what a controllable variable is read as is its place
control_source : (P : Place → Type 0) (ds : List Decl) (w : Whereabouts) (x : List ℕ) (q : Place) → ((p : Place) → P (w p)) → IsRead q (control_in ds (λ p. only (w p)) x) → P q
control_source P [] w x q f h = absurd h
control_source P (d ∷ ds) w x q f h =
    first_or (bytes_eq d.name x) (only (w (Head ∷ []))) (control_in ds (λ p. only (w (Tail ∷ p))) x) q h
    (λ u. subst P (sym u) (f (Head ∷ [])))
    (control_source P ds (below Tail w) x q (λ p. f (Tail ∷ p)))

no_contract_there : (c : Option Contract) (names : NameSources) (p : Place) → Bare (in_contract c names only (Controls ∷ p))
no_contract_there None names p r h = h
no_contract_there (Some c) names p r h = h

read_picked : (d : Bool) (p q : Place) → IsRead q (if d then only p else none) → IsTrue d × (q ≡ p)
read_picked true p q h = (refl, h)
read_picked false p q h = absurd h

module _ (n : Node) (k : ClocksRight n) where
  abbrev G : PlaceSources
  G = sources n

  abbrev of_body : Whereabouts
  of_body p = Body ∷ p

  abbrev from_controls : NameSources
  from_controls = control_in (controls_of n.contract) (λ p. only (Controls ∷ p))

  output_bare : (x : List ℕ) → IsTrue (declares n.outputs x) → Bare (G (Body ∷ Named x ∷ []))
  output_bare x t = named_bare G n.body from_controls _ of_body k.body (control_bares (controls_of n.contract) (λ p. Controls ∷ p)) (λ p r h. h) x (k.outputs x t)

  output_bares : (x : List ℕ) → Bare (output_in n (below Body only) x)
  output_bares x = bare_if (declares n.outputs x && has_equation n.body x) (only (Body ∷ Named x ∷ [])) none (λ r h. h) (λ r h. h)

  output_base : (x : List ℕ) (q r : Place) → IsRead q (output_in n (below Body only) x) → IsBeside r (G q) → ⊥
  output_base x q r h b =
      let u = read_picked (declares n.outputs x && has_equation n.body x) (Body ∷ Named x ∷ []) q h in
      output_bare x (both_true (declares n.outputs x) (has_equation n.body x) u.0).0 r (subst (λ z. IsBeside r (G z)) u.1 b)

  outputs_right : (x : List ℕ) → Right G (output_in n (below Body only) x)
  outputs_right x =
      right_if G (declares n.outputs x && has_equation n.body x) (only (Body ∷ Named x ∷ [])) none
      (λ t. right_only G (Body ∷ Named x ∷ []) (output_bare x (both_true (declares n.outputs x) (has_equation n.body x) t).0))
      (λ f. right_none G)

  everywhere_right : (p : Place) → Right G (G p)
  everywhere_right (Named x ∷ []) = outputs_right x
  everywhere_right (Body ∷ p) =
      block_right G n.body from_controls _ of_body k.body
      (λ x q r o h. control_source (λ z. Bare (G z)) (controls_of n.contract) (λ s. Controls ∷ s) x q (no_contract_there n.contract (output_in n (below Body only))) h r)
      (control_bares (controls_of n.contract) (λ s. Controls ∷ s)) (λ s r h. h) p
  everywhere_right p =
      contract_right G n.contract (output_in n (below Body only)) _ k.contract (λ x q r o h. output_base x q r h) output_bares (λ s r h. h) (λ s r h. h) (λ s r h. h) p

  pub clocks_carry : CarriesClocks n
  clocks_carry =
      record {
        reads = λ p q r h b. (everywhere_right p).carried q r h b;
        clocks = λ p q r h b. (everywhere_right p).nested q r h b;
        no_own = λ p h. (everywhere_right p).own_free p h h;
      }

pub clocks_make_no_cycle : ClocksLaw
clocks_make_no_cycle n causal k = no_cycle n causal (clocks_carry n k)

pub early : UnsteeredLaw
early n p k c b f =
    record {
      no_control = c;
      by_none = λ between q d. ⊎_elim (λ u. f u.0 q u.1) (λ u. b u.0 u.1) (shortened n (clocks_carry n k) p between (Controls ∷ q) d);
    }
