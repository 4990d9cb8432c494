-- The laws of the game.
use Rattle.std.proofs.Common.{◌≡◌, ℕ, zero, suc, ◌+◌, inl, inr, List, [], ◌∷◌, refl, sym, ap, ap₂, ◌∙◌, subst, arith, ⊎_elim}
use Rattle.std.proofs.lemmas.Bool.Decides.{Decides-int_eq}
use Rattle.std.specs.Ordering.{int_eq}
use Rattle.std.specs.Prelude.{Bool, true, false, IsTrue, IsFalse, ◌⊎◌}
use Rattle.hp_base.specs.declared.value.Value.{Value}
use Rattle.hp_base.specs.declared.value.Value.TheVariants.{Absent, Nil, B, E, I, Star}
use Rattle.hp_tree.specs.declared.program.Item.{Item}
use Rattle.hp_tree.specs.Blocks.{Decl}
use Rattle.hp_tree.specs.Programs.{TypeDecl, Node}
use Rattle.hp_tree.specs.Instant.{Instant, Past}
use Rattle.hp_tree.specs.Meaning.{types_of, controls_of}
use Rattle.hp_meaning.proofs.CausalLemmas.Choices.{by_cases}
use Rattle.hp_meaning.specs.Contract.Duties.{hypothesis, duty}
use Rattle.hp_meaning.specs.Contract.Game.{Choice, choices_of, IsAmong, AreChoices, IsPreferred, IsChoiceOf, IsNext, Forced, Safe, Permitted, AtMost, ForcedLaw, KeptLaw, PermittedLaw, ChosenLaw, AllowedLaw, OneChoiceLaw, GuaranteeLaw, Played}

-- ---- forced

-- an instant that some late values give, and that is bad
abbrev Bad : List Item → Node → Past → List Value → Instant → ℕ → Choice → Type 0
Bad program n history inputs early k c =
    (now : Instant) × IsNext program n history inputs early c now × IsTrue (hypothesis n now) × (IsFalse (duty n now) ⊎ Forced program n k (now ∷ history))

or_forced : {A P Q : Type 0} → (P → Q) → A ⊎ P → A ⊎ Q
or_forced f (inl x) = inl x
or_forced f (inr x) = inr (f x)

pub forced_more : ForcedLaw
forced_more program n zero history h = absurd h
forced_more program n (suc k) history h = (
  h.0,
  h.1,
  h.2,
  λ c e.
      let b = h.3 c e in
      (b.0, b.1, b.2, or_forced (forced_more program n k (b.0 ∷ history)) b.3),
)

forced_above : (program : List Item) (n : Node) (k d : ℕ) (history : Past) → Forced program n k history → Forced program n (d + k) history
forced_above program n k zero history h = subst (λ m. Forced program n m history) (same_zero k) h
  where
    same_zero : (k : ℕ) → k ≡ 0 + k
    same_zero k = omega arith
forced_above program n k (suc d) history h =
    subst (λ m. Forced program n m history) (same_suc k d) (forced_more program n (d + k) history (forced_above program n k d history h))
  where
    same_suc : (k d : ℕ) → suc (d + k) ≡ suc d + k
    same_suc k d = omega arith

owed_or_not : {P : Type 0} (b : Bool) → IsTrue b → IsFalse b ⊎ P → P
owed_or_not true t (inl f) = absurd (cc)
owed_or_not b t (inr p) = p
owed_or_not false t (inl f) = absurd (cc)

pub kept : KeptLaw
kept program n kind keeps history k0 zero h = h
kept program n kind keeps history k0 (suc k) h =
    let c = keeps history h.0 h.1 k0 h.2 in
    let b = h.3 c.0 c.1 in
    let s = c.2 b.0 b.1 b.2 in
    kept program n kind keeps (b.0 ∷ history) s.1 k (owed_or_not (duty n b.0) s.0 b.3)

-- ---- what is permitted

-- What cannot be false for each value of a list cannot be false for all of them at once.
at_once : (vs : List Value) (Q : Value → Type 0) → ((v : Value) → IsAmong vs v → (Q v → ⊥) → ⊥) → (((v : Value) → IsAmong vs v → Q v) → ⊥) → ⊥
at_once [] Q each none = none (λ v m. absurd m)
at_once (w ∷ ws) Q each none = each w (inl refl) (λ q. at_once ws Q (λ v m. each v (inr m)) (λ rest. none (from_first q rest)))
  where
    from_first : Q w → ((v : Value) → IsAmong ws v → Q v) → (v : Value) → IsAmong (w ∷ ws) v → Q v
    from_first q rest v (inl e) = subst Q (sym e) q
    from_first q rest v (inr m) = rest v m

-- the same of choices
all_at_once : (types : List TypeDecl) (ds : List Decl) (Q : Choice → Type 0) → ((c : Choice) → AreChoices types ds c → (Q c → ⊥) → ⊥) → (((c : Choice) → AreChoices types ds c → Q c) → ⊥) → ⊥
all_at_once types [] Q each none = each [] tt (λ h. none (only_empty h))
  where
    only_empty : Q [] → (c : Choice) → AreChoices types [] c → Q c
    only_empty h [] l = h
    only_empty h (v ∷ c) l = absurd l
all_at_once types (d ∷ ds) Q each none =
    at_once (choices_of types d.ty) (λ v. (c : Choice) → AreChoices types ds c → Q (v ∷ c))
    (λ v m. all_at_once types ds (λ c. Q (v ∷ c)) (λ c l. each (v ∷ c) (m, l)))
    (λ all. none (by_first all))
  where
    by_first : ((v : Value) → IsAmong (choices_of types d.ty) v → (c : Choice) → AreChoices types ds c → Q (v ∷ c)) → (c : Choice) → AreChoices types (d ∷ ds) c → Q c
    by_first all [] l = absurd l
    by_first all (v ∷ c) l = all v l.0 c l.1

-- one number for each value of a list, and one above them all
one_above : (vs : List Value) (Q : ℕ → Value → Type 0) → ((k d : ℕ) (v : Value) → Q k v → Q (d + k) v) → ((v : Value) → IsAmong vs v → (k : ℕ) × Q k v) → (k : ℕ) × ((v : Value) → IsAmong vs v → Q k v)
one_above [] Q more each = (0, λ v m. absurd m)
one_above (w ∷ ws) Q more each =
    let f = each w (inl refl) in
    let g = one_above ws Q more (λ v m. each v (inr m)) in
    (f.0 + g.0, from_first f.0 g.0 f.1 g.1)
  where
    turned : (j k : ℕ) → k + j ≡ j + k
    turned j k = omega arith

    from_first : (j k : ℕ) → Q j w → ((v : Value) → IsAmong ws v → Q k v) → (v : Value) → IsAmong (w ∷ ws) v → Q (j + k) v
    from_first j k q rest v (inl e) = subst (Q (j + k)) (sym e) (subst (λ i. Q i w) (turned j k) (more j k w q))
    from_first j k q rest v (inr m) = more k j v (rest v m)

at_one_number : (types : List TypeDecl) (ds : List Decl) (Q : ℕ → Choice → Type 0) → ((k d : ℕ) (c : Choice) → Q k c → Q (d + k) c) → ((c : Choice) → AreChoices types ds c → (k : ℕ) × Q k c) → (k : ℕ) × ((c : Choice) → AreChoices types ds c → Q k c)
at_one_number types [] Q more each = let h = each [] tt in (h.0, only_empty h.0 h.1)
  where
    only_empty : (k : ℕ) → Q k [] → (c : Choice) → AreChoices types [] c → Q k c
    only_empty k h [] l = h
    only_empty k h (v ∷ c) l = absurd l
at_one_number types (d ∷ ds) Q more each =
    let r = one_above (choices_of types d.ty) (λ k v. (c : Choice) → AreChoices types ds c → Q k (v ∷ c)) (λ k e v h c l. more k e (v ∷ c) (h c l))
    (λ v m. at_one_number types ds (λ k c. Q k (v ∷ c)) (λ k e c. more k e (v ∷ c)) (λ c l. each (v ∷ c) (m, l))) in
    (r.0, by_first r.0 r.1)
  where
    by_first : (k : ℕ) → ((v : Value) → IsAmong (choices_of types d.ty) v → (c : Choice) → AreChoices types ds c → Q k (v ∷ c)) → (c : Choice) → AreChoices types (d ∷ ds) c → Q k c
    by_first k all [] l = absurd l
    by_first k all (v ∷ c) l = all v l.0 c l.1

module _ (program : List Item) (n : Node) (history : Past) (inputs : List Value) (early : Instant) where
  -- A choice that is not permitted has a bad instant; it is not said which one.
  not_permitted : (c : Choice) → (Permitted program n history inputs early c → ⊥) → ((k : ℕ) × Bad program n history inputs early k c → ⊥) → ⊥
  not_permitted c refused good =
      refused
      (λ now next supposed. (
        by_cases (duty n now) (λ t. t) (λ f. absurd (good (0, (now, next, supposed, inl f)))),
        λ k f. good (k, (now, next, supposed, inr f)),
      ))

  bad_above : (k d : ℕ) (c : Choice) → Bad program n history inputs early k c → Bad program n history inputs early (d + k) c
  bad_above k d c b = (b.0, b.1, b.2, or_forced (forced_above program n k d (b.0 ∷ history)) b.3)

pub permitted : PermittedLaw
permitted program n history inputs early safe fits none =
    let types = types_of program in
    let ds = controls_of n.contract in
    all_at_once types ds (λ c. (k : ℕ) × Bad program n history inputs early k c)
    (λ c e. not_permitted program n history inputs early c (none c e))
    (λ each.
    let worst = at_one_number types ds (Bad program n history inputs early) (bad_above program n history inputs early) each in
    safe (suc worst.0) (inputs, early, fits, worst.1))

pub chosen : ChosenLaw
chosen program n history inputs early c safe fits is now next supposed = (
  by_cases (duty n now) (λ t. t)
      (λ f. absurd (permitted program n history inputs early safe fits (λ d e p. true_is_not (duty n now) (is.where_some d e p now next supposed).0 f))),
  λ k f. permitted program n history inputs early safe fits (λ d e p. (is.where_some d e p now next supposed).1 k f),
)
  where
    true_is_not : (t : Bool) → IsTrue t → IsFalse t → ⊥
    true_is_not true h k = absurd (cc)
    true_is_not false h k = absurd (cc)

pub allowed : AllowedLaw
allowed program n history inputs early c is = record { fits = is.fits; where_some = λ d l p. (is.greatest d l p).0 }

-- ---- one choice

not_both : (us : List Value) (v w : Value) → IsPreferred us v w → IsPreferred us w v → ⊥
not_both [] v w h k = h
not_both (u ∷ us) v w h k = ⊎_elim (λ e. k.0 e) (λ r. ⊎_elim (λ e. h.0 e) (λ s. not_both us v w r s) k.1) h.1

both_ways : (types : List TypeDecl) (ds : List Decl) (c d : Choice) → AtMost types ds c d → AtMost types ds d c → c ≡ d
both_ways types [] [] [] h k = refl
both_ways types [] [] (w ∷ d) h k = absurd h
both_ways types [] (v ∷ c) d h k = absurd h
both_ways types (x ∷ ds) [] d h k = absurd h
both_ways types (x ∷ ds) (v ∷ c) [] h k = absurd h
both_ways types (x ∷ ds) (v ∷ c) (w ∷ d) h k = either (λ p q. both_ways types ds c d p q) h k
  where
    us : List Value
    us = choices_of types x.ty

    either : (AtMost types ds c d → AtMost types ds d c → c ≡ d) → IsPreferred us w v ⊎ ((v ≡ w) × AtMost types ds c d) → IsPreferred us v w ⊎ ((w ≡ v) × AtMost types ds d c) → v ∷ c ≡ w ∷ d
    either rest (inl p) (inl q) = absurd (not_both us w v p q)
    either rest (inl p) (inr q) = let r = subst (λ z. IsPreferred us z v) q.0 p in absurd (not_both us v v r r)
    either rest (inr p) (inl q) = let r = subst (λ z. IsPreferred us z w) p.0 q in absurd (not_both us w w r r)
    either rest (inr p) (inr q) = ap₂ (λ z zs. z ∷ zs) p.0 (rest p.1 q.1)

-- Of two values, and of two choices, it is known whether they are the same.
same_bit : (a b : Bool) → (a ≡ b) ⊎ (a ≡ b → ⊥)
same_bit true true = inl refl
same_bit false false = inl refl
same_bit true false = inr (λ e. absurd (cc))
same_bit false true = inr (λ e. absurd (cc))

same_number : (m n : ℕ) → (m ≡ n) ⊎ (m ≡ n → ⊥)
same_number zero zero = inl refl
same_number zero (suc n) = inr (λ e. absurd (omega arith))
same_number (suc m) zero = inr (λ e. absurd (omega arith))
same_number (suc m) (suc n) = ⊎_elim (λ e. inl (ap suc e)) (λ f. inr (λ e. f (omega arith))) (same_number m n)

same_one : (v w : Value) → (v ≡ w) ⊎ (v ≡ w → ⊥)
same_one Absent Absent = inl refl
same_one Nil Nil = inl refl
same_one Star Star = inl refl
same_one (B a) (B b) = ⊎_elim (λ e. inl (ap B e)) (λ f. inr (λ e. f (cc))) (same_bit a b)
same_one (E s a) (E t b) =
    ⊎_elim (λ e. ⊎_elim (λ d. inl (ap₂ E e d)) (λ f. inr (λ d. f (cc))) (same_number a b)) (λ f. inr (λ e. f (cc))) (same_number s t)
same_one (I a) (I b) = by_cases (int_eq a b) (λ t. inl (ap I ((Decides-int_eq a b).0 t))) (λ f. inr (λ e. is_not (int_eq a b) f ((Decides-int_eq a b).1 (cc))))
  where
    is_not : (t : Bool) → IsFalse t → t ≡ true → ⊥
    is_not true f e = absurd (cc)
    is_not false f e = absurd (cc)
same_one v w = inr (λ e. absurd (cc))

same_or_not : (c d : Choice) → (c ≡ d) ⊎ (c ≡ d → ⊥)
same_or_not [] [] = inl refl
same_or_not [] (w ∷ d) = inr (λ e. absurd (cc))
same_or_not (v ∷ c) [] = inr (λ e. absurd (cc))
same_or_not (v ∷ c) (w ∷ d) = ⊎_elim (λ e. ⊎_elim (λ h. inl (ap₂ (λ z zs. z ∷ zs) e h)) (λ f. inr (λ h. f (cc))) (same_or_not c d)) (λ f. inr (λ e. f (cc))) (same_one v w)

pub one_choice : OneChoiceLaw
one_choice program n history inputs early c d p q = known (same_or_not c d)
  where
    known : (c ≡ d) ⊎ (c ≡ d → ⊥) → c ≡ d
    known (inl e) = e
    known (inr f) =
        let none = λ (x : Choice) (l : IsChoiceOf program n x) (h : Permitted program n history inputs early x).
        f (both_ways (types_of program) (controls_of n.contract) c d (q.greatest c p.fits (p.greatest x l h).0).1 (p.greatest d q.fits (q.greatest x l h).0).1) in
        p.else_preferred none ∙ sym (q.else_preferred none)

-- ---- the guarantee

pub safe_after : (program : List Item) (n : Node) (history : Past) → Safe program n [] → Played program n history → Safe program n history
safe_after program n [] safe p = safe
safe_after program n (now ∷ history) safe p =
    let i = p.1 in
    (chosen program n history i.0 i.1 i.2 (safe_after program n history safe p.0) i.3 i.4 now i.5 i.6).1

pub guaranteed : GuaranteeLaw
guaranteed program n [] safe p = tt
guaranteed program n (now ∷ history) safe p =
    let i = p.1 in
    (guaranteed program n history safe p.0, (chosen program n history i.0 i.1 i.2 (safe_after program n history safe p.0) i.3 i.4 now i.5 i.6).0)
