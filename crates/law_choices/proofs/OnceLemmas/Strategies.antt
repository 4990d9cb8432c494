-- Some strategy makes finitely many choices that a determined rule leaves. It is only shown that there cannot be none: no test says which places are early.
use Rattle.std.proofs.Common.{◌≡◌, ℕ, suc, inl, inr, List, [], ◌∷◌, ◌++◌, map, length, refl, sym, ◌∙◌, ap, ap₂, subst, ⊎_elim}
use Rattle.std.specs.Prelude.{Bool, true, false, IsTrue, IsFalse, ◌&&◌, ◌⊎◌, ⊤, if◌then◌else◌}
use Rattle.hp_base.specs.declared.value.Value.{Value}
use Rattle.hp_base.specs.declared.value.Value.TheVariants.{Absent}
use Rattle.hp_tree.specs.declared.program.Item.{Item}
use Rattle.hp_tree.specs.Blocks.{Decl}
use Rattle.hp_tree.specs.Programs.{Node}
use Rattle.hp_tree.specs.Instant.{Instant, Past}
use Rattle.hp_tree.specs.Meaning.{controls_of}
use Rattle.hp_meaning.specs.Contract.Game.{Choice}
use Rattle.hp_meaning.specs.Contract.ChosenRuns.{ChoiceRule}
use Rattle.hp_meaning.specs.Contract.SteeredRuns.{Strategy, IsStrategy}
use Rattle.hp_meaning.proofs.CausalLemmas.Choices.{and_true}
use Rattle.law_choices.specs.Once.Laws.{IsDetermined}
use Rattle.law_choices.proofs.OnceLemmas.Deciding.{Same, same_values, same_node, told, told_same}
use Rattle.law_choices.proofs.OnceLemmas.Tests.{Known, Test, first_false, second_false, all_pass, both, alike}

-- a choice, with what was known before it
abbrev pub Made : Type 0
Made = Known × Choice

-- The strategy makes each of these choices.
abbrev pub Makes : Strategy → List Made → Type 0
Makes s [] = ⊤
Makes s (m ∷ ms) = (m.1 ≡ s m.0.node m.0.history m.0.inputs m.0.early) × Makes s ms

pub makes_front : (s : Strategy) (ms ns : List Made) → Makes s (ms ++ ns) → Makes s ms
makes_front s [] ns h = tt
makes_front s (m ∷ ms) ns h = (h.0, makes_front s ms ns h.1)

pub makes_back : (s : Strategy) (ms ns : List Made) → Makes s (ms ++ ns) → Makes s ns
makes_back s [] ns h = h
makes_back s (m ∷ ms) ns h = makes_back s ms ns h.1

-- It cannot be that it is not.
abbrev pub Surely : Type 0 → Type 0
Surely P = (P → ⊥) → ⊥

module _ (rule : ChoiceRule) where
  -- It keeps the rule, and gives one value to each variable.
  abbrev pub Keeps : Made → Type 0
  Keeps m = rule m.0.node m.0.history m.0.inputs m.0.early m.1 × (length m.1 ≡ length (controls_of m.0.node.contract))

  abbrev pub AllKeep : List Made → Type 0
  AllKeep [] = ⊤
  AllKeep (m ∷ ms) = Keeps m × AllKeep ms

  pub all_keep : (ms ns : List Made) → AllKeep ms → AllKeep ns → AllKeep (ms ++ ns)
  all_keep [] ns h k = k
  all_keep (m ∷ ms) ns h k = (h.0, all_keep ms ns h.1 k)

-- ---- one choice more

-- the choice where a node passes a test, and what a strategy gives elsewhere
abbrev first_here : (k : Known) → Choice → (Known → Bool) → Strategy → Strategy
first_here k c t s n history inputs early =
    if told (same_node k.node n) && t (record { node = n; history = history; inputs = inputs; early = early }) then c else s n history inputs early

one_or_other : (b : Bool) (m : ℕ) (c d : Choice) → length c ≡ m → length d ≡ m → length (if b then c else d) ≡ m
one_or_other true m c d h k = h
one_or_other false m c d h k = k

made_so : (b : Bool) (c : Choice) (d : Choice) → IsTrue b → c ≡ (if b then c else d)
made_so true c d h = refl
made_so false c d h = absurd (cc)

still_made : (b : Bool) (m c d : Choice) → (m ≡ c) ⊎ IsFalse b → m ≡ d → m ≡ (if b then c else d)
still_made true m c d (inl e) h = e
still_made false m c d (inl e) h = h
still_made true m c d (inr f) h = absurd (cc)
still_made false m c d (inr f) h = h

-- Each of these choices is the same, or the test fails there.
abbrev Spared : (Known → Bool) → Choice → List Made → Type 0
Spared t c [] = ⊤
Spared t c (m ∷ ms) = ((m.1 ≡ c) ⊎ IsFalse (t m.0)) × Spared t c ms

module _ (program : List Item) where
  spared_both : (u t : Test program) (c : Choice) (ms : List Made) → Spared t.of c ms → Spared (both program u t).of c ms
  spared_both u t c [] h = tt
  spared_both u t c (m ∷ ms) h = (⊎_elim (λ e. inl e) (λ f. inr (second_false (u.of m.0) (t.of m.0) f)) h.0, spared_both u t c ms h.1)

  module _ (k : Known) (c : Choice) (t : Test program) (s : Strategy) (is : IsStrategy program s) where
    abbrev longer : Strategy
    longer = first_here k c t.of s

    longer_is : length c ≡ length (controls_of k.node.contract) → IsStrategy program longer
    longer_is many =
        record {
          one_each = λ n history inputs early. by_node n history inputs early (same_node k.node n);
          early_alone = λ n history inputs early other alike.
              ap₂ (λ b d. if told (same_node k.node n) && b then c else d)
              (t.early_alone (record { node = n; history = history; inputs = inputs; early = early }) other alike) (is.early_alone n history inputs early other alike);
        }
      where
        by_node : (n : Node) (history : Past) (inputs : List Value) (early : Instant) (same : Same k.node n) → length (if told same && t.of (record { node = n; history = history; inputs = inputs; early = early }) then c else s n history inputs early) ≡ length (controls_of n.contract)
        by_node n history inputs early (inl e) =
            one_or_other (t.of (record { node = n; history = history; inputs = inputs; early = early })) (length (controls_of n.contract)) c (s n history inputs early)
            (many ∙ ap (λ (m : Node). length (controls_of m.contract)) e) (is.one_each n history inputs early)
        by_node n history inputs early (inr f) = is.one_each n history inputs early

    longer_makes : IsTrue (t.of k) → c ≡ longer k.node k.history k.inputs k.early
    longer_makes h =
        made_so (told (same_node k.node k.node) && t.of k) c (s k.node k.history k.inputs k.early) (and_true (told (same_node k.node k.node)) (t.of k) (told_same (same_node k.node k.node) refl) h)

    longer_still : (ms : List Made) → Spared t.of c ms → Makes s ms → Makes longer ms
    longer_still [] h makes = tt
    longer_still (m ∷ ms) h makes = (
      still_made (told (same_node k.node m.0.node) && t.of m.0) m.1 c (s m.0.node m.0.history m.0.inputs m.0.early)
          (⊎_elim (λ e. inl e) (λ f. inr (second_false (told (same_node k.node m.0.node)) (t.of m.0) f)) h.0) makes.0,
      longer_still ms h.1 makes.1,
    )

  -- ---- finitely many

  module _ (rule : ChoiceRule) (determined : IsDetermined program rule) where
    -- Two different choices are told apart by some test.
    told_apart : (m l : Made) → Keeps rule m → Keeps rule l → (m.1 ≡ l.1 → ⊥) → Surely ((t : Test program) × IsTrue (t.of m.0) × IsFalse (t.of l.0))
    told_apart m l h k differ none =
        let a = alike program m.0 l.0 (λ t x y. none (t, x, y)) in
        let same : rule m.0.node m.0.history m.0.inputs l.0.early l.1 =
        subst (λ n. rule n m.0.history m.0.inputs l.0.early l.1) (sym a.node)
        (subst (λ past. rule l.0.node past m.0.inputs l.0.early l.1) (sym a.history)
        (subst (λ vs. rule l.0.node l.0.history vs l.0.early l.1) (sym a.inputs) k.0)) in
        differ (determined m.0.node m.0.history m.0.inputs m.0.early l.0.early m.1 l.1 a.early h.0 same)

    some_test : (m : Made) → Keeps rule m → (ms : List Made) → AllKeep rule ms → Surely ((t : Test program) × IsTrue (t.of m.0) × Spared t.of m.1 ms)
    some_test m h [] k none = none (all_pass program, refl, tt)
    some_test m h (l ∷ ms) k none = some_test m h ms k.1 (λ t. with_it t (same_values l.1 m.1))
      where
        with_it : (t : Test program) × IsTrue (t.of m.0) × Spared t.of m.1 ms → Same l.1 m.1 → ⊥
        with_it t (inl e) = none (t.0, t.1, (inl e, t.2))
        with_it t (inr f) =
            told_apart m l h k.0 (λ e. f (sym e))
            (λ u. none (both program u.0 t.0, and_true (u.0.of m.0) (t.0.of m.0) u.1 t.1, (inr (first_false (u.0.of l.0) (t.0.of l.0) u.2), spared_both u.0 t.0 m.1 ms t.2)))

    abbrev all_absent : Strategy
    all_absent n history inputs early = map (λ (d : Decl). Absent) (controls_of n.contract)

    as_many : (ds : List Decl) → length (map (λ (d : Decl). Absent) ds) ≡ length ds
    as_many [] = refl
    as_many (d ∷ ds) = ap suc (as_many ds)

    pub some_strategy : (ms : List Made) → AllKeep rule ms → Surely ((s : Strategy) × IsStrategy program s × Makes s ms)
    some_strategy [] k none = none (all_absent, record { one_each = λ n history inputs early. as_many (controls_of n.contract); early_alone = λ n history inputs early other same. refl }, tt)
    some_strategy (m ∷ ms) k none =
        some_strategy ms k.1
        (λ s. some_test m k.0 ms k.1
        (λ t. none (longer m.0 m.1 t.0 s.0 s.1, longer_is m.0 m.1 t.0 s.0 s.1 k.0.1, (longer_makes m.0 m.1 t.0 s.0 s.1 t.1, longer_still m.0 m.1 t.0 s.0 s.1 ms t.2 s.2))))
